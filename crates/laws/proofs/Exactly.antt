-- Rows decided one after the other. An answer x is held to a chain of rows both ways at once: x is a exactly when the chain says so of a.
use mathlib.Core.Path.{◌≡◌, refl, sym, ◌∙◌, ap}
use mathlib.Core.Logic.{◌⊎◌, inl, inr}
use mathlib.Core.List.{List}
use Prim.Native.Nat.{ℕ, ◌≤◌, ◌<◌}
use native.Mathlib.Omega.{arith}
use Rattle.base.proofs.Tests.{below, same}
use Rattle.refusal.specs.declared.Refusal.{Refusal}
use Rattle.table.specs.Meaning.{Desc}
use Rattle.header.specs.declared.Font.{Font}
use Rattle.stages.specs.Reading.{check_of}
use Rattle.content.specs.Meaning.{Describes}
use Rattle.fonts.specs.Reading.{asked}
use Rattle.laws.specs.Meaning.{Exact, Said, gives, refuses, told, Row, given, skipped, RowAt, given_at, skipped_at, Own, own, sound, Reading, reads, Gives, gives_it}
use Rattle.std.specs.Prelude.{Result, Ok, Err}

-- the end of a chain: one answer
pub is : {A : Type 0} (x v : Said A) → x ≡ v → Exact x (λ a. a ≡ v)
is x v e a = (λ q. sym q ∙ e, λ q. e ∙ sym q)

-- or one that has P
pub is_some : {A : Type 0} {P : A → Type 0} (x : Said A) → ((v : A) × P v) → ((v : A) → P v → x ≡ gives v) → Exact x (Gives P)
is_some {A} {P} x (v, p) f a = (λ e. gives_it v p (sym e ∙ f v p), back)
  where
    back : Gives P a → x ≡ a
    back (gives_it w q e) = f w q ∙ sym e

-- a row that can be decided
pub row : {A : Type 0} {P : Type 0} {n p : ℕ} {rest : Said A → Type 0} {x : Said A} →
    P ⊎ (P → ⊥) → (P → x ≡ refuses n p) → ((P → ⊥) → Exact x rest) → Exact x (Row P n p rest)
row {A} {P} {n} {p} {rest} {x} d f g a = (there d, back)
  where
    there : P ⊎ (P → ⊥) → x ≡ a → Row P n p rest a
    there (inl h) e = given h (sym e ∙ f h)
    there (inr h) e = skipped h ((g h a).0 e)

    back : Row P n p rest a → x ≡ a
    back (given h e) = f h ∙ sym e
    back (skipped h r) = (g h a).1 r

pub row_at : {A : Type 0} {P : ℕ → Type 0} {n : ℕ} {place : ℕ → ℕ} {rest : Said A → Type 0} {x : Said A} →
    ((k : ℕ) × P k) ⊎ ((k : ℕ) → P k → ⊥) → ((k : ℕ) → P k → x ≡ refuses n (place k)) → (((k : ℕ) → P k → ⊥) → Exact x rest) → Exact x (RowAt P n place rest)
row_at {A} {P} {n} {place} {rest} {x} d f g a = (there d, back)
  where
    there : ((k : ℕ) × P k) ⊎ ((k : ℕ) → P k → ⊥) → x ≡ a → RowAt P n place rest a
    there (inl (k, h)) e = given_at k h (sym e ∙ f k h)
    there (inr h) e = skipped_at h ((g h a).0 e)

    back : RowAt P n place rest a → x ≡ a
    back (given_at k h e) = f k h ∙ sym e
    back (skipped_at h r) = (g h a).1 r

-- the font's own refusal first
pub own_first : {A : Type 0} {rest : Font → Said A → Type 0} {x : Said A} (s : List ℕ) →
    ((r : Refusal) → check_of s ≡ Err r → x ≡ told r) → ((f : Font) → check_of s ≡ Ok f → Exact x (rest f)) → Exact x (Own s rest)
own_first {A} {rest} {x} s f g a = (there (check_of s) refl, back)
  where
    there : (c : Result Font Refusal) → check_of s ≡ c → x ≡ a → Own s rest a
    there (Ok h) q e = sound h q ((g h q a).0 e)
    there (Err r) q e = own r q (sym e ∙ f r q)

    back : Own s rest a → x ≡ a
    back (own r q e) = f r q ∙ sym e
    back (sound h q r) = (g h q a).1 r

-- which a question hands on
pub handed_own : {A : Type 0} (s : List ℕ) (r : Refusal) → check_of s ≡ Err r → (answer : Font → Result A Refusal) → asked Err answer (check_of s) ≡ Err r
handed_own s r e answer = rw e

-- on a reading
pub reading_of : {A : Type 0} {rest : List Desc → Said A → Type 0} {x : Said A} (s : List ℕ) (f : Font) →
    ((ds : List Desc) × Describes s f f.table ds) → ((ds : List Desc) → Describes s f f.table ds → Exact x (rest ds)) → Exact x (Reading s f rest)
reading_of {A} {rest} {x} s f (ds, d) g a = (λ e. reads ds d ((g ds d a).0 e), back)
  where
    back : Reading s f rest a → x ≡ a
    back (reads es b r) = (g es b a).1 r

-- an answer moved
pub moved : {A : Type 0} {P : Said A → Type 0} (x z : Said A) → x ≡ z → Exact z P → Exact x P
moved x z e h a = (λ q. (h a).0 (sym e ∙ q), λ p. e ∙ (h a).1 p)

-- what a row asks
pub less : (a b : ℕ) → (a < b) ⊎ ((a < b) → ⊥)
less a b = go (below a b)
  where
    go : (a < b) ⊎ (b ≤ a) → (a < b) ⊎ ((a < b) → ⊥)
    go (inl h) = inl h
    go (inr h) = inr (λ l. absurd (omega arith))

pub at_most : (a b : ℕ) → (a ≤ b) ⊎ ((a ≤ b) → ⊥)
at_most a b = go (below b a)
  where
    go : (b < a) ⊎ (a ≤ b) → (a ≤ b) ⊎ ((a ≤ b) → ⊥)
    go (inl h) = inr (λ l. absurd (omega arith))
    go (inr h) = inl h

pub equal : (u v : ℕ) → ((u ≡ v → ⊥) → ⊥) → u ≡ v
equal u v n = go (same u v)
  where
    go : (u ≡ v) ⊎ ((u ≡ v) → ⊥) → u ≡ v
    go (inl e) = e
    go (inr m) = absurd (n m)

pub other : (a b : ℕ) → (a ≡ b → ⊥) ⊎ ((a ≡ b → ⊥) → ⊥)
other a b = go (same a b)
  where
    go : (a ≡ b) ⊎ ((a ≡ b) → ⊥) → (a ≡ b → ⊥) ⊎ ((a ≡ b → ⊥) → ⊥)
    go (inl e) = inr (λ n. n e)
    go (inr n) = inl n

pub either : {P Q : Type 0} → P ⊎ (P → ⊥) → Q ⊎ (Q → ⊥) → (P ⊎ Q) ⊎ ((P ⊎ Q) → ⊥)
either (inl p) q = inl (inl p)
either (inr p) (inl q) = inl (inr q)
either {P} {Q} (inr p) (inr q) = inr both
  where
    both : P ⊎ Q → ⊥
    both (inl x) = p x
    both (inr x) = q x

-- the number that is said, 0 with an answer; answers with different numbers are not the same
abbrev pub said_number : {A : Type 0} → Said A → ℕ
said_number (gives v) = 0
said_number (refuses n p) = n

pub clash : {A B : Type 0} {x y : Said B} → x ≡ y → (said_number x ≡ said_number y → ⊥) → A
clash e n = absurd (n (ap said_number e))

-- its place
abbrev pub said_place : {A : Type 0} → Said A → ℕ
said_place (gives v) = 0
said_place (refuses n p) = p

-- one answer has one value
pub given_same : {A : Type 0} {v w : A} → ◌≡◌ {A = Said A} (gives v) (gives w) → v ≡ w
given_same e = cc

-- and is no refusal
pub no_refusal_lem : {A B : Type 0} {v : B} {n p : ℕ} → ◌≡◌ {A = Said B} (gives v) (refuses n p) → A
no_refusal_lem e = let z : ◌≡◌ {A = ℕ} 0 1 = cc in absurd (omega arith)
