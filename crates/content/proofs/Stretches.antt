-- Parts of lists that are joined, and parts of parts.
use mathlib.Core.Path.{◌≡◌, refl, sym, ◌∙◌, ap}
use mathlib.Core.List.{List, [], ◌∷◌, ◌++◌, append_assoc}
use Prim.Native.Nat.{ℕ, zero, suc, ◌+◌, ◌*◌, ◌≤◌, ◌<◌}
use native.Mathlib.Omega.{arith}
use native.Mathlib.Nat.{suc-mul, mul-le-mul_right}
use lib.ListN.{length, get_or, take, drop, length-drop, take-append-drop}
use lib.Seq.{drop-drop, drop-append-add, drop-append-le, take-append-le, take-take, get_or-take, get_or-drop}

-- a part of a list's front
pub part_of_take : (z a m : ℕ) (l : List ℕ) → a + z ≤ m → take z (drop a (take m l)) ≡ take z (drop a l)
part_of_take z zero m l h = take-take z m l (omega arith)
part_of_take z (suc a) zero l h = absurd (omega arith)
part_of_take z (suc a) (suc m) [] h = refl
part_of_take z (suc a) (suc m) (x ∷ l) h = part_of_take z a m l (omega arith)

-- a part of a list in front of another
pub part_of_front : (z a : ℕ) (b t : List ℕ) → a + z ≤ length b → take z (drop a (b ++ t)) ≡ take z (drop a b)
part_of_front z a b t h =
    ap (take z) (drop-append-le a b t (omega arith)) ∙ take-append-le z (drop a b) t (omega (arith, length-drop a b))

-- a part behind a list
pub part_behind : (z a k : ℕ) (p t : List ℕ) → length p ≡ a → take z (drop (a + k) (p ++ t)) ≡ take z (drop k t)
part_behind z a k p t e = rw (← e) (ap (take z) (drop-append-add p t k))

-- a part of the middle of three
pub part_of_middle : (z a k : ℕ) (p b t : List ℕ) → length p ≡ a → k + z ≤ length b → take z (drop (a + k) (p ++ b ++ t)) ≡ take z (drop k b)
part_of_middle z a k p b t e h =
    ap (λ (l : List ℕ). take z (drop (a + k) l)) (append_assoc p b t) ∙ part_behind z a k p (b ++ t) e ∙ part_of_front z k b t h

-- a byte of a part
pub byte_of_part : (z a k : ℕ) (l : List ℕ) → k < z → get_or (take z (drop a l)) k 0 ≡ get_or l (a + k) 0
byte_of_part z a k l h = get_or-take z (drop a l) k 0 h ∙ get_or-drop a l k 0

-- two parts that are the same, byte by byte
pub bytes_same : (z a b : ℕ) (l m : List ℕ) → take z (drop a l) ≡ take z (drop b m) → (k : ℕ) → k < z → get_or l (a + k) 0 ≡ get_or m (b + k) 0
bytes_same z a b l m e k h = sym (byte_of_part z a k l h) ∙ ap (λ (x : List ℕ). get_or x k 0) e ∙ byte_of_part z b k m h

-- the i-th of n parts of z bytes is among them
pub nth_within : (i n z : ℕ) → i < n → i * z + z ≤ n * z
nth_within i n z h = let e = mul-le-mul_right {m = suc i} {n = n} z h in omega (arith, suc-mul i z)

-- lists of n parts of z bytes are the same, part by part
pub parts_same : (n z : ℕ) (a b : List ℕ) → length a ≡ n * z → length b ≡ n * z → ((i : ℕ) → i < n → take z (drop (i * z) a) ≡ take z (drop (i * z) b)) → a ≡ b
parts_same zero z a b la lb f = empty a (omega arith) ∙ sym (empty b (omega arith))
  where
    empty : (x : List ℕ) → length x ≡ 0 → x ≡ []
    empty [] e = refl
    empty (y ∷ x) e = absurd (omega arith)
parts_same (suc n) z a b la lb f =
    let first : take z a ≡ take z b = first_of a ∙ f 0 (omega arith) ∙ sym (first_of b) in
    let others =
    parts_same n z (drop z a) (drop z b) (omega (arith, length-drop z a, suc-mul n z)) (omega (arith, length-drop z b, suc-mul n z))
    (λ i l. next_of a i ∙ f (suc i) (omega arith) ∙ sym (next_of b i)) in
    sym (take-append-drop z a) ∙ (λ i. first i ++ others i) ∙ take-append-drop z b
  where
    first_of : (x : List ℕ) → take z x ≡ take z (drop (0 * z) x)
    first_of x = let e : 0 ≡ 0 * z = omega arith in ap (λ (m : ℕ). take z (drop m x)) e

    next_of : (x : List ℕ) (i : ℕ) → take z (drop (i * z) (drop z x)) ≡ take z (drop (suc i * z) x)
    next_of x i = let e : z + i * z ≡ suc i * z = omega (arith, suc-mul i z) in ap (take z) (drop-drop (i * z) z x) ∙ ap (λ (m : ℕ). take z (drop m x)) e
