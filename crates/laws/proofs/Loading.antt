-- The checker that is fed by pieces (document 02, W2): `loader::fresh`, `feed`, `close` and their by-value core, whose contracts are the
-- definitions `fresh_of`, `fed_of`, `feed_answer`, `closed_of`, `close_answer` (crates/loader/specs/Reading.antt); `check_of` is that of the
-- whole-file check.
use mathlib.Core.Path.{◌≡◌, refl, sym, ◌∙◌, ap, subst}
use mathlib.Core.Bool.{Bool, true, false}
use mathlib.Core.Logic.{◌↔◌}
use mathlib.Core.List.{List, [], ◌∷◌, ◌++◌, append-nil}
use Prim.Native.Nat.{ℕ, ◌≤◌, ◌<◌}
use native.Mathlib.Omega.{arith}
use Rattle.header.specs.declared.Font.{Font}
use Rattle.refusal.specs.declared.Reason.TheVariants.{Late}
use Rattle.refusal.specs.Meaning.{refusal}
use Rattle.stages.specs.Reading.{check_of}
use Rattle.loader.specs.declared.Loader.{Loader}
use Rattle.loader.specs.Meaning.{together, fed_all, Call, Feed, Close, called}
use Rattle.loader.specs.Reading.{fresh_of, is_open, fed_of, feed_answer, answer_of, close_answer, closed_of}
use Rattle.loader.proofs.Opening.{opened, opens, is_closed}
use Rattle.loader.proofs.Cases.{taken, fed_late, answers, close_late, closes, stays, stays_closed}
use Rattle.laws.proofs.Regions.{Kept}
use Rattle.laws.proofs.Pieces.{fed_twice, stays_open}
use Rattle.laws.proofs.Loaded.{loaded, fresh_open, fresh_kept, fresh_empty}
use Rattle.laws.proofs.Refusals.{not_both}
use Rattle.laws.proofs.Early.{Early, early_answer}
use Rattle.std.specs.Prelude.{Ok, Err}

-- pieces after a first one are one piece with it
with_first : (l : Loader) (p : List ℕ) (ps : List (List ℕ)) → is_open l ≡ true → Kept l.held → fed_all (fed_of l p) ps ≡ fed_of l (p ++ together ps)
with_first l p [] o k = ap (fed_of l) (sym (append-nil p))
with_first l p (q ∷ ps) o k =
    let n = stays_open l p o k in
    with_first (fed_of l p) q ps n.0 n.1 ∙ fed_twice l p (q ++ together ps) k

-- the record depends on the pieces joined alone
pub pieces_joined : (ps : List (List ℕ)) → fed_all fresh_of ps ≡ fed_of fresh_of (together ps)
pieces_joined ps = ap (λ (l : Loader). fed_all l ps) (sym fresh_empty) ∙ with_first fresh_of [] ps fresh_open fresh_kept

-- an open record stays open however it is fed
pub open_while_fed : (ps : List (List ℕ)) → is_open (fed_all fresh_of ps) ≡ true
open_while_fed ps = ap is_open (pieces_joined ps) ∙ (stays_open fresh_of (together ps) fresh_open fresh_kept).0

pieces_checked : (ps : List (List ℕ)) → close_answer (fed_all fresh_of ps) ≡ check_of (together ps)
pieces_checked ps = sym (answers (fed_all fresh_of ps) (open_while_fed ps)) ∙ ap answer_of (pieces_joined ps) ∙ loaded (together ps)

-- "From a fresh state its answer, number and place included, equals the whole-file check on the pieces joined"; a refusal's glyph too (W7)
pub answer_is_check : (ps : List (List ℕ)) → close_answer (fed_all fresh_of ps) ≡ check_of (together ps)
answer_is_check ps = pieces_checked ps

-- however a file is cut, the answer is the same, and so is the record
pub cuts_alike : (ps qs : List (List ℕ)) → together ps ≡ together qs → (close_answer (fed_all fresh_of ps) ≡ close_answer (fed_all fresh_of qs)) × (fed_all fresh_of ps ≡ fed_all fresh_of qs)
cuts_alike ps qs e = (pieces_checked ps ∙ ap check_of e ∙ sym (pieces_checked qs), pieces_joined ps ∙ ap (fed_of fresh_of) e ∙ sym (pieces_joined qs))

-- which records are open, a caller's own bytes among them: not closed, and with so many unfinished bytes as feeding leaves
pub open_exactly : (l : Loader) → (is_open l ≡ true) ↔ ((l.closed ≡ 0) × (l.total < 32 → l.held.len ≡ l.total) × (32 ≤ l.total → l.held.len < 18))
open_exactly l = (opened l, λ (h : (l.closed ≡ 0) × (l.total < 32 → l.held.len ≡ l.total) × (32 ≤ l.total → l.held.len < 18)). opens l h.0 h.1 h.2)

-- a test is true or false
one_of : (P : Type 0) (b : Bool) → (b ≡ true → P) → (b ≡ false → P) → P
one_of P true f g = f refl
one_of P false f g = g refl

-- "it speaks only at the close": a piece on an open record is answered with neither sound nor refused
pub taken_exactly : (l : Loader) → (feed_answer l ≡ Ok tt) ↔ (is_open l ≡ true)
taken_exactly l = (
  λ (e : feed_answer l ≡ Ok tt). one_of (is_open l ≡ true) (is_open l) (λ o. o) (λ o. not_both _ _ _ e (sym (fed_late l o))),
  λ (o : is_open l ≡ true). sym (taken l o),
)

-- "LATE (22, place 0) for a piece or close after the close"
pub late_feed_exactly : (l : Loader) → (feed_answer l ≡ Err (refusal Late 0)) ↔ (is_open l ≡ false)
late_feed_exactly l = (
  λ (e : feed_answer l ≡ Err (refusal Late 0)). one_of (is_open l ≡ false) (is_open l) (λ o. not_both _ _ _ (sym (taken l o)) e) (λ o. o),
  λ (o : is_open l ≡ false). sym (fed_late l o),
)

pub late_close_exactly : (l : Loader) → (close_answer l ≡ Err (refusal Late 0)) ↔ (is_open l ≡ false)
late_close_exactly l = (
  λ (e : close_answer l ≡ Err (refusal Late 0)). one_of (is_open l ≡ false) (is_open l)
      (λ o. let h : Early {A = Font} (Err (refusal Late 0)) = subst Early (answers l o ∙ e) (early_answer l) in absurd (omega (arith, h))) (λ o. o),
  λ (o : is_open l ≡ false). sym (close_late l o),
)

-- "state unchanged"
pub late_unchanged : (l : Loader) (p : List ℕ) → is_open l ≡ false → (fed_of l p ≡ l) × (closed_of l ≡ l)
late_unchanged l p o = (sym (stays l p o), sym (stays_closed l o))

-- "which closes the record whatever it answers"
pub close_closes : (l : Loader) → is_open (closed_of l) ≡ false
close_closes l =
    one_of (is_open (closed_of l) ≡ false) (is_open l)
    (λ o. ap is_open (sym (closes l o)) ∙ sym (is_closed (record { total = l.total; closed = 1; header = l.header; held = l.held; sums = l.sums; standing = l.standing }) (λ e. omega (arith, e))))
    (λ o. ap is_open (sym (stays_closed l o)) ∙ o)

-- calls without a close among them
abbrev pub no_close : List Call → Bool
no_close [] = true
no_close (Feed p ∷ cs) = no_close cs
no_close (Close ∷ cs) = false

shut : (l : Loader) (cs : List Call) → is_open l ≡ false → is_open (called l cs) ≡ false
shut l [] o = o
shut l (Feed p ∷ cs) o = shut (fed_of l p) cs (ap is_open (sym (stays l p o)) ∙ o)
shut l (Close ∷ cs) o = shut (closed_of l) cs (close_closes l)

-- nothing but a close closes: after any calls the record is open exactly if none of them was a close, so that a call is LATE exactly after one
pub open_until_closed : (cs : List Call) → is_open (called fresh_of cs) ≡ no_close cs
open_until_closed cs = open_then fresh_of cs fresh_open fresh_kept
  where
    open_then : (l : Loader) (cs : List Call) → is_open l ≡ true → Kept l.held → is_open (called l cs) ≡ no_close cs
    open_then l [] o k = o
    open_then l (Feed p ∷ cs) o k = let n = stays_open l p o k in open_then (fed_of l p) cs n.0 n.1
    open_then l (Close ∷ cs) o k = shut (closed_of l) cs (close_closes l)
