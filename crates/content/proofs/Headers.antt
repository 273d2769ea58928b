-- A written header is read again: what a file says that begins with it; and a header that has no extra bytes is the one that is written.
use mathlib.Core.Path.{◌≡◌, refl, sym, ◌∙◌, ap, subst}
use mathlib.Core.Bool.{Bool, true, false}
use mathlib.Core.Logic.{◌⊎◌, inl, inr}
use mathlib.Core.List.{List, [], ◌∷◌, ◌++◌, append_assoc}
use Prim.Native.Nat.{ℕ, zero, suc, ◌+◌, ◌*◌, ◌/◌, ◌≤◌, ◌<◌}
use native.Mathlib.Omega.{arith}
use native.Mathlib.Nat.{mul-le-mul}
use lib.Dec.{eqb}
use lib.ListN.{length, get_or, take, drop, length-append}
use lib.Seq.{drop-cons, take-add}
use Rattle.base.specs.Reading.{when, starts_with, bytes32}
use Rattle.base.specs.Meaning.{Bytes, Begins, le32}
use Rattle.base.proofs.Numbers.{le32_bytes}
use Rattle.base.proofs.Parts.{byte_at}
use Rattle.base.proofs.Lists.{same4}
use Rattle.header.specs.declared.Kind.{Kind}
use Rattle.header.specs.declared.Kind.TheVariants.{Psf1, Psf2, Vfont2}
use Rattle.header.specs.declared.Fields.{Fields}
use Rattle.header.specs.declared.Font.{Font}
use Rattle.header.specs.Meaning.{glyph_bytes, psf1_font, psf2_font, vfont2_font, magic_of, header_len, psf1_count, psf1_table}
use Rattle.header.specs.Reading.{kind_of, head_of, psf2_shaped, vfont2_shaped, on_fields, says_of, fields, flags_of, mode_of, fixed_fields, header_bytes}
use Rattle.header.proofs.Cases.{psf1_read, head_read, psf2_sound, vfont2_sound, named_as}
use Rattle.header.proofs.Known.{source}
use Rattle.header.proofs.Written.{header_length}
use Rattle.content.specs.Meaning.{Plain}
use Rattle.content.proofs.Magic.{magic_begins}
use Rattle.std.specs.Prelude.{Ok, Some}

-- a glyph's bytes are few
pub glyph_small : (h w : ℕ) → h ≤ 255 → w ≤ 255 → glyph_bytes h w ≤ 8160
unfolding glyph_bytes
glyph_small h w bh bw = let g : (w + 7) / 8 ≤ 32 = omega arith in mul-le-mul bh g

-- what a written header says: the fields of 32 bytes
abbrev pub written_fields : Bool → ℕ → ℕ → ℕ → ℕ → Fields
written_fields t n z h w = record { header = header_len Psf2; count = n; size = z; height = h; width = w; table = t }

-- and the font
abbrev pub written_font : Kind → Bool → ℕ → ℕ → ℕ → ℕ → Font
written_font Psf1 t n z h w = psf1_font n h t
written_font Psf2 t n z h w = psf2_font (written_fields t n z h w)
written_font Vfont2 t n z h w = vfont2_font (written_fields t n z h w)

-- its kind, count, height and table are those that were written
pub written_is : (k : Kind) (t : Bool) (n z h w : ℕ) →
    ((written_font k t n z h w).kind ≡ k) × ((written_font k t n z h w).count ≡ n) × ((written_font k t n z h w).height ≡ h) × ((written_font k t n z h w).table ≡ t)
written_is Psf1 t n z h w = (refl, refl, refl, refl)
written_is Psf2 t n z h w = (refl, refl, refl, refl)
written_is Vfont2 t n z h w = (refl, refl, refl, refl)

-- what a kind asks of a header's numbers
abbrev pub HeaderAsks : Kind → ℕ → ℕ → ℕ → ℕ → Type 0
HeaderAsks Psf1 n z h w = ((n ≡ 256) ⊎ (n ≡ 512)) × (1 ≤ h)
HeaderAsks Psf2 n z h w = (1 ≤ n) × (n ≤ 4096) × (1 ≤ h) × (h ≤ 255) × (1 ≤ w) × (w ≤ 255) × (z ≡ glyph_bytes h w)
HeaderAsks Vfont2 n z h w = (1 ≤ n) × (n ≤ 4096) × (h ≤ 255) × (w ≤ 255) × (z < 4294967296)

-- a header's magic tells its kind
header_named : (k : Kind) (t : Bool) (n z h w : ℕ) (r : List ℕ) → kind_of (header_bytes k t n z h w ++ r) ≡ Some k
unfolding kind_of starts_with when header_bytes
header_named Psf1 t n z h w r = refl
header_named Psf2 t n z h w r = refl
header_named Vfont2 t n z h w r = refl

-- the flags tell the table
flags_back : (t : Bool) → (eqb (flags_of t) 1 ≡ t) × (flags_of t ≤ 1)
unfolding flags_of
flags_back true = (refl, omega arith)
flags_back false = (refl, omega arith)

-- the mode tells the count and the table
mode_back : (n : ℕ) (t : Bool) → (n ≡ 256) ⊎ (n ≡ 512) → (psf1_count (mode_of n t) ≡ n) × (psf1_table (mode_of n t) ≡ t) × (mode_of n t ≤ 3)
unfolding mode_of psf1_count psf1_table
mode_back n true (inl e) = rw e (refl, refl, omega arith)
mode_back n false (inl e) = rw e (refl, refl, omega arith)
mode_back n true (inr e) = rw e (refl, refl, omega arith)
mode_back n false (inr e) = rw e (refl, refl, omega arith)

-- PSF1's header
module _ (t : Bool) (n z h w : ℕ) (r o : List ℕ) (e : o ≡ header_bytes Psf1 t n z h w ++ r) where
  psf1_fields : (get_or o 2 0 ≡ mode_of n t) × (get_or o 3 0 ≡ h)
  unfolding header_bytes
  psf1_fields = rw e (refl, refl)

  psf1_says : HeaderAsks Psf1 n z h w → says_of o ≡ Ok (psf1_font n h t)
  psf1_says (two, some) =
      let l : 4 ≤ length o = omega (arith, ap length e, length-append (header_bytes Psf1 t n z h w) r, header_length Psf1 t n z h w) in
      let f = psf1_fields in
      let m = mode_back n t two in
      sym (named_as o (Some Psf1) (ap kind_of e ∙ header_named Psf1 t n z h w r))
      ∙ sym (psf1_read o n h t 4 (sym (ap psf1_count f.0 ∙ m.0)) (sym f.1) (sym (ap psf1_table f.0 ∙ m.1)) refl
      ((l, omega (arith, f.0, m.2)), (λ q. omega (arith, f.1))))

-- the header of 32 bytes, behind any magic
module _ (a b c d : ℕ) (t : Bool) (n z h w : ℕ) (r o : List ℕ) (e : o ≡ (a ∷ b ∷ c ∷ d ∷ []) ++ fixed_fields t ++ fields n z h w ++ r) where
  module _ (ln : n < 4294967296) (lz : z < 4294967296) (lh : h < 4294967296) (lw : w < 4294967296) where
    fields16 : (le32 o 16 ≡ n) × (le32 o 20 ≡ z) × (le32 o 24 ≡ h) × (le32 o 28 ≡ w)
    unfolding le32 fixed_fields fields bytes32
    fields16 = rw e (le32_bytes n ln, le32_bytes z lz, le32_bytes h lh, le32_bytes w lw)

    fields4 : (le32 o 4 ≡ 0) × (le32 o 8 ≡ 32) × (le32 o 12 ≡ flags_of t)
    unfolding le32 fixed_fields fields bytes32
    fields4 = rw e (refl, refl, le32_bytes (flags_of t) (omega (arith, (flags_back t).1)))

    head_written : 32 ≤ length o → 1 ≤ n → n ≤ 4096 → head_of o ≡ Ok (written_fields t n z h w)
    head_written l an bn =
        let x = fields4 in
        let y = fields16 in
        let g = (flags_back t).1 in
        sym (head_read o 32 n z h w (flags_of t) (sym x.1, sym y.0, sym y.1, sym y.2, sym y.3, sym x.2)
        ((((l, x.0), omega (arith, x.2)), omega (arith, x.1), omega (arith, x.1)), (λ q. omega (arith, y.0)), omega (arith, y.0)))
        ∙ ap (λ (v : Bool). Ok (written_fields v n z h w)) (flags_back t).0

-- a file that begins with a written header says the font that was written
module _ (t : Bool) (n z h w : ℕ) (r o : List ℕ) where
  psf2_says : o ≡ header_bytes Psf2 t n z h w ++ r → HeaderAsks Psf2 n z h w → says_of o ≡ Ok (psf2_font (written_fields t n z h w))
  unfolding header_bytes
  psf2_says e (an, bn, ah, bh, aw, bw, ez) =
      let lz : z < 4294967296 = omega (arith, ez, glyph_small h w bh bw) in
      let l : 32 ≤ length o = omega (arith, ap length e, length-append (header_bytes Psf2 t n z h w) r, header_length Psf2 t n z h w) in
      sym (named_as o (Some Psf2) (ap kind_of e ∙ header_named Psf2 t n z h w r))
      ∙ ap (on_fields psf2_shaped) (head_written 0x72 0xB5 0x4A 0x86 t n z h w r o e (omega arith) lz (omega arith) (omega arith) l an bn)
      ∙ sym (psf2_sound (written_fields t n z h w) (((ah, bh), aw, bw), ez))

  vfont2_says : o ≡ header_bytes Vfont2 t n z h w ++ r → HeaderAsks Vfont2 n z h w → says_of o ≡ Ok (vfont2_font (written_fields t n z h w))
  unfolding header_bytes
  vfont2_says e (an, bn, bh, bw, lz) =
      let l : 32 ≤ length o = omega (arith, ap length e, length-append (header_bytes Vfont2 t n z h w) r, header_length Vfont2 t n z h w) in
      sym (named_as o (Some Vfont2) (ap kind_of e ∙ header_named Vfont2 t n z h w r))
      ∙ ap (on_fields vfont2_shaped) (head_written 0x27 0x5B 0xA4 0x68 t n z h w r o e (omega arith) lz (omega arith) (omega arith) l an bn)
      ∙ sym (vfont2_sound (written_fields t n z h w) (bh, bw))

  psf2_plain : o ≡ header_bytes Psf2 t n z h w ++ r → HeaderAsks Psf2 n z h w → Plain o Psf2
  unfolding header_bytes
  psf2_plain e (an, bn, ah, bh, aw, bw, ez) =
      let lz : z < 4294967296 = omega (arith, ez, glyph_small h w bh bw) in
      (fields4 0x72 0xB5 0x4A 0x86 t n z h w r o e (omega arith) lz (omega arith) (omega arith)).1

  vfont2_plain : o ≡ header_bytes Vfont2 t n z h w ++ r → HeaderAsks Vfont2 n z h w → Plain o Vfont2
  unfolding header_bytes
  vfont2_plain e (an, bn, bh, bw, lz) = (fields4 0x27 0x5B 0xA4 0x68 t n z h w r o e (omega arith) lz (omega arith) (omega arith)).1

  -- and its header has no extra bytes
  pub header_plain : (k : Kind) → o ≡ header_bytes k t n z h w ++ r → HeaderAsks k n z h w → Plain o k
  header_plain Psf1 e (two, some) = omega (arith, (psf1_fields t n z h w r o e).0, (mode_back n t two).2)
  header_plain Psf2 e a = psf2_plain e a
  header_plain Vfont2 e a = vfont2_plain e a

  -- the same, whatever the kind
  pub says_written : (k : Kind) → o ≡ header_bytes k t n z h w ++ r → HeaderAsks k n z h w → says_of o ≡ Ok (written_font k t n z h w)
  says_written Psf1 e a = psf1_says t n z h w r o e a
  says_written Psf2 e a = psf2_says e a
  says_written Vfont2 e a = vfont2_says e a

-- the bytes of a number of four bytes
digits : (a b c d : ℕ) → a < 256 → b < 256 → c < 256 → d < 256 → bytes32 (a + 256 * b + 65536 * c + 16777216 * d) ≡ a ∷ b ∷ c ∷ d ∷ []
unfolding bytes32
digits a b c d ha hb hc hd =
    let v = a + 256 * b + 65536 * c + 16777216 * d in
    let p : v / 256 ≡ b + 256 * c + 65536 * d = omega arith in
    let q : v / 65536 ≡ c + 256 * d = omega arith in
    let r : v / 16777216 ≡ d = omega arith in
    same4 _ _ _ _ a b c d (omega arith) (omega arith) (omega arith) (omega arith)

four_bytes : (s : List ℕ) (k : ℕ) → k + 4 ≤ length s → get_or s k 0 ∷ get_or s (k + 1) 0 ∷ get_or s (k + 2) 0 ∷ get_or s (k + 3) 0 ∷ [] ≡ take 4 (drop k s)
four_bytes s k h =
    let a = drop-cons s k 0 (omega arith) in
    let b = drop-cons s (suc k) 0 (omega arith) in
    let c = drop-cons s (suc (suc k)) 0 (omega arith) in
    let d = drop-cons s (suc (suc (suc k))) 0 (omega arith) in
    let x : suc k ≡ k + 1 = omega arith in
    let y : suc (suc k) ≡ k + 2 = omega arith in
    let z : suc (suc (suc k)) ≡ k + 3 = omega arith in
    rw (a, b, c, d) (same4 _ _ _ _ _ _ _ _ refl (ap (λ (i : ℕ). get_or s i 0) (sym x)) (ap (λ (i : ℕ). get_or s i 0) (sym y)) (ap (λ (i : ℕ). get_or s i 0) (sym z)))

-- the header of 32 bytes, number by number
module _ (s : List ℕ) (y : Bytes s) where
  number_back : (k : ℕ) → k + 4 ≤ length s → take 4 (drop k s) ≡ bytes32 (le32 s k)
  unfolding le32
  number_back k h = sym (digits _ _ _ _ (byte_at s y k) (byte_at s y (k + 1)) (byte_at s y (k + 2)) (byte_at s y (k + 3)) ∙ four_bytes s k h)

  -- numbers up to an offset, and one more
  one_more : (x : List ℕ) (m k j : ℕ) → k ≡ m + 4 → take m s ≡ x → m + 4 ≤ length s → le32 s m ≡ j → take k s ≡ x ++ bytes32 j
  one_more x m k j e p h q = ap (λ (i : ℕ). take i s) e ∙ take-add m 4 s ∙ λ i. p i ++ (number_back m h ∙ ap bytes32 q) i

flags_is : (v : ℕ) → v ≤ 1 → v ≡ flags_of (eqb v 1)
unfolding flags_of
flags_is zero h = refl
flags_is (suc zero) h = refl
flags_is (suc (suc v)) h = absurd (omega arith)

-- PSF1's mode, of 0 to 3
mode_is : (m : ℕ) → m ≤ 3 → m ≡ mode_of (psf1_count m) (psf1_table m)
unfolding mode_of psf1_count psf1_table
mode_is zero h = refl
mode_is (suc zero) h = refl
mode_is (suc (suc zero)) h = refl
mode_is (suc (suc (suc zero))) h = refl
mode_is (suc (suc (suc (suc m)))) h = absurd (omega arith)

-- and of 4 and 5: the mode that is written is 2 less
pub mode_less : (m : ℕ) → 4 ≤ m → m ≤ 5 → mode_of (psf1_count m) (psf1_table m) + 2 ≡ m
unfolding mode_of psf1_count psf1_table
mode_less zero l h = absurd (omega arith)
mode_less (suc zero) l h = absurd (omega arith)
mode_less (suc (suc zero)) l h = absurd (omega arith)
mode_less (suc (suc (suc zero))) l h = absurd (omega arith)
mode_less (suc (suc (suc (suc zero)))) l h = refl
mode_less (suc (suc (suc (suc (suc zero))))) l h = refl
mode_less (suc (suc (suc (suc (suc (suc m)))))) l h = absurd (omega arith)

two_bytes : (s : List ℕ) → 4 ≤ length s → take 2 (drop 2 s) ≡ get_or s 2 0 ∷ get_or s 3 0 ∷ []
two_bytes s h =
    let a = drop-cons s 2 0 (omega arith) in
    let b = drop-cons s 3 0 (omega arith) in
    rw (a, b)

-- PSF1's header, of any mode
pub psf1_head : (s : List ℕ) → 4 ≤ length s → Begins (magic_of Psf1) s → take 4 s ≡ magic_of Psf1 ++ (get_or s 2 0 ∷ get_or s 3 0 ∷ [])
psf1_head s l b = take-add 2 2 s ∙ λ i. b i ++ two_bytes s l i

psf1_back : (s : List ℕ) (z w : ℕ) → 4 ≤ length s → Begins (magic_of Psf1) s → Plain s Psf1 →
    take 4 s ≡ header_bytes Psf1 (psf1_table (get_or s 2 0)) (psf1_count (get_or s 2 0)) z (get_or s 3 0) w
unfolding header_bytes
psf1_back s z w l b p =
    let m = mode_is (get_or s 2 0) p in
    psf1_head s l b ∙ λ i. magic_of Psf1 ++ (m i ∷ get_or s 3 0 ∷ [])

-- the fields behind a magic of four bytes
fields_back : (s m : List ℕ) → Bytes s → 32 ≤ length s → take 4 s ≡ m → le32 s 4 ≡ 0 → le32 s 12 ≤ 1 → le32 s 8 ≡ 32 →
    take 32 s ≡ m ++ fixed_fields (eqb (le32 s 12) 1) ++ fields (le32 s 16) (le32 s 20) (le32 s 24) (le32 s 28)
unfolding fixed_fields fields
fields_back s m y l b e4 e12 e8 =
    let t = flags_of (eqb (le32 s 12) 1) in
    let o = one_more s y in
    let a = o _ 4 8 0 refl b (omega arith) e4 in
    let c = o _ 8 12 32 refl a (omega arith) e8 in
    let d = o _ 12 16 t refl c (omega arith) (flags_is (le32 s 12) e12) in
    let f = o _ 16 20 _ refl d (omega arith) refl in
    let g = o _ 20 24 _ refl f (omega arith) refl in
    let h = o _ 24 28 _ refl g (omega arith) refl in
    let i = o _ 28 32 _ refl h (omega arith) refl in
    i ∙ simp append_assoc

-- a header with no extra bytes is the one that is written for what it says
module _ (s : List ℕ) (f : Font) (y : Bytes s) (e : says_of s ≡ Ok f) where
  abbrev HeaderIs : Kind → Font → Type 0
  HeaderIs k g = take (header_len k) s ≡ header_bytes k g.table g.count g.size g.height g.width

  self_of : (k : Kind) → f.kind ≡ k → Plain s k → HeaderIs k f
  unfolding header_bytes
  self_of Psf1 q p = let r = source s f Psf1 q e in subst (HeaderIs Psf1) r.1.0 (psf1_back s (get_or s 3 0) 8 r.1.1 (magic_begins s Psf1 r.0) p)
  self_of Psf2 q p =
      let r = source s f Psf2 q e in
      let h = r.1 in
      subst (HeaderIs Psf2) r.2.0 (fields_back s (magic_of Psf2) y h.0 (magic_begins s Psf2 r.0) h.1 h.2 p)
  self_of Vfont2 q p =
      let r = source s f Vfont2 q e in
      let h = r.1 in
      subst (HeaderIs Vfont2) r.2.0 (fields_back s (magic_of Vfont2) y h.0 (magic_begins s Vfont2 r.0) h.1 h.2 p)

  -- the same, of the font's own kind
  pub header_self : Plain s f.kind → take (header_len f.kind) s ≡ header_bytes f.kind f.table f.count f.size f.height f.width
  header_self p = self_of f.kind refl p
