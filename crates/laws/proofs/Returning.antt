-- A PSF1 file through PSF2 and back: only room can refuse the way back, and what comes back is the file but for the mode of 4 or 5.
use mathlib.Core.Path.{◌≡◌, refl, sym, ◌∙◌, ap, subst}
use mathlib.Core.Logic.{◌⊎◌, inl, inr}
use mathlib.Core.Bool.{Bool}
use mathlib.Core.List.{List, [], ◌∷◌, ◌++◌}
use Prim.Native.Nat.{ℕ, zero, suc, ◌+◌, ◌*◌, ◌≤◌}
use native.Mathlib.Omega.{arith}
use lib.ListN.{length, get_or, take, drop, length-drop}
use Rattle.base.specs.Meaning.{Bytes}
use Rattle.coding.specs.declared.Coding.TheVariants.{Ucs2}
use Rattle.table.specs.Meaning.{Desc, encode, Readable}
use Rattle.header.specs.declared.Kind.{Kind}
use Rattle.header.specs.declared.Kind.TheVariants.{Psf1}
use Rattle.header.specs.declared.Font.{Font}
use Rattle.header.specs.Meaning.{limit, glyph_bytes, char_size, psf1_count, psf1_table}
use Rattle.header.specs.Reading.{mode_of}
use Rattle.header.specs.Bounds.{Even}
use Rattle.header.proofs.Known.{source}
use Rattle.layout.specs.Reading.{evenly}
use Rattle.stages.specs.Meaning.{coding_of, tail_of}
use Rattle.stages.specs.Reading.{check_of}
use Rattle.content.specs.Meaning.{Describes, Content, HasContent}
use Rattle.content.proofs.Headers.{mode_less}
use Rattle.content.proofs.Shapes.{Shape, AllEven}
use Rattle.content.proofs.Source.{is_placed, is_kind, says_font, source_shape}
use Rattle.content.proofs.Same.{content_exists}
use Rattle.content.proofs.Self.{psf1_self}
use Rattle.content.proofs.Kept.{rewritten}
use Rattle.conversion.specs.declared.Conversion.TheVariants.{Psf1ToPsf2, Psf2ToPsf1}
use Rattle.conversion.specs.Meaning.{front_len}
use Rattle.convert.specs.Reading.{converted_of, converted_into}
use Rattle.laws.specs.Meaning.{GlyphsAt, needed, Wrote, RoundTrip}
use Rattle.laws.proofs.Asking.{read_as}
use Rattle.laws.proofs.Converting.{one_font, means, back_keeps, back_bytes, back_again}
use Rattle.laws.proofs.Refusing.{none_above, wrote_given}
use Rattle.std.specs.Prelude.{Ok}

-- the third byte of a list changed
put : (s : List ℕ) (v : ℕ) → 4 ≤ length s →
    (length (take 2 s ++ (v ∷ drop 3 s)) ≡ length s) × (get_or (take 2 s ++ (v ∷ drop 3 s)) 2 0 ≡ v)
    × ((i : ℕ) → (i ≡ 2 → ⊥) → get_or (take 2 s ++ (v ∷ drop 3 s)) i 0 ≡ get_or s i 0)
put [] v l = absurd (omega arith)
put (a ∷ []) v l = absurd (omega arith)
put (a ∷ b ∷ []) v l = absurd (omega arith)
put (a ∷ b ∷ c ∷ s) v l = (refl, refl, at)
  where
    at : (i : ℕ) → (i ≡ 2 → ⊥) → get_or (a ∷ b ∷ v ∷ s) i 0 ≡ get_or (a ∷ b ∷ c ∷ s) i 0
    at zero n = refl
    at (suc zero) n = refl
    at (suc (suc zero)) n = absurd (n refl)
    at (suc (suc (suc i))) n = refl

-- an accepted PSF1 font
module _ (s : List ℕ) (f : Font) (y : Bytes s) (e : check_of s ≡ Ok f) (q : f.kind ≡ Psf1) where
  counted : ((f.count ≡ 256) ⊎ (f.count ≡ 512)) × (f.width ≡ 8)
  counted =
      let v : AllEven s f f.kind = subst (AllEven s f) (sym q) tt in
      let p : Shape Psf1 f.count f.height f.width = subst (λ (k : Kind). Shape k f.count f.height f.width) q (source_shape s f y e v) in
      p.6

  -- its length
  long : (ds : List Desc) → tail_of s f ≡ encode Ucs2 ds → length s ≡ 4 + f.count * char_size f + length (encode Ucs2 ds)
  long ds t =
      let r = source s f Psf1 q (says_font s f y e) in
      let v : Even f = is_kind s f y e Psf1 q in
      let b : f.bitmaps ≡ 4 = sym (ap (λ (g : Font). g.bitmaps) r.1.0) in
      let z : f.count * f.size ≡ f.count * char_size f = ap (λ (x : ℕ). f.count * x) v.1 in
      omega (arith, length-drop f.end s, (is_placed s f y e).7, ap length t, v.0, b, z)

-- the descriptions of a content are the reading of the file
described_in : (x : List ℕ) (a : Font) → Bytes x → check_of x ≡ Ok a → (m : Content) → HasContent x m →
    Readable (coding_of a.kind) m.descriptions × (tail_of x a ≡ encode (coding_of a.kind) m.descriptions)
described_in x a b p m h =
    let same : h.font ≡ a = one_font x h.font a h.sound p in
    let d : Describes x h.font h.font.table m.descriptions = subst (λ (t : Bool). Describes x h.font t m.descriptions) (sym h.table) h.described in
    read_as x a b p m.descriptions (subst (λ (c : Font). Describes x c c.table m.descriptions) same d)

-- a PSF1 file that was written as PSF2
module _ (s xs : List ℕ) (n : ℕ) (y : Bytes s) (there : Wrote Psf1ToPsf2 s n xs (converted_into Psf1ToPsf2 s xs)) where
  abbrev f : Font
  f = there.font

  abbrev o : List ℕ
  o = take n (converted_into Psf1ToPsf2 s xs)

  abbrev g : Font
  g = there.keeps.font

  -- what it is read as, there and here
  both : (ds : List Desc) × Readable Ucs2 ds × (tail_of s f ≡ encode Ucs2 ds) × Readable (coding_of g.kind) ds × (tail_of o g ≡ encode (coding_of g.kind) ds)
  both =
      let c = content_exists s f y there.sound in
      let m = c.0 in
      let here : Readable Ucs2 m.descriptions × (tail_of s f ≡ encode Ucs2 m.descriptions) =
      subst (λ (k : Kind). Readable (coding_of k) m.descriptions × (tail_of s f ≡ encode (coding_of k) m.descriptions)) there.kind (described_in s f y there.sound m c.1) in
      let away = described_in o g there.octets there.keeps.sound m (there.keeps.content m c.1) in
      (m.descriptions, here.0, here.1, away.0, away.1)

  -- its shape is one that PSF1 has
  suits : (p : ℕ) → GlyphsAt Psf2ToPsf1 o g p → ⊥
  suits p u = go (counted s f y there.sound there.kind) u
    where
      go : ((f.count ≡ 256) ⊎ (f.count ≡ 512)) × (f.width ≡ 8) → GlyphsAt Psf2ToPsf1 o g p → ⊥
      go (inl a, b) (inl v) = v.1 (there.keeps.count ∙ a)
      go (inr a, b) (inl v) = v.2 (there.keeps.count ∙ a)
      go (a, b) (inr v) = v.2 (there.keeps.width ∙ b)

  -- it needs the bytes that it had
  needs : (ds : List Desc) → tail_of s f ≡ encode Ucs2 ds → needed Psf2ToPsf1 g ds ≡ length s
  unfolding front_len
  needs ds t =
      let k = there.keeps in
      let z : g.count * char_size g ≡ f.count * char_size f = λ i. k.count i * glyph_bytes (k.height i) (k.width i) in
      omega (arith, long s f y there.sound there.kind ds t, z)

  -- with that room it is written
  room_enough : (m : ℕ) → length s ≤ m → converted_of Psf2ToPsf1 (take n (converted_into Psf1ToPsf2 s xs)) m ≡ Ok (length s)
  room_enough m l =
      let b = both in
      let ds = b.0 in
      let z = needs ds b.2 in
      let small : needed Psf2ToPsf1 g ds ≤ limit = omega (arith, z, (is_placed s f y there.sound).0) in
      let room : needed Psf2ToPsf1 g ds ≤ m = omega (arith, z, l) in
      wrote_given Psf2ToPsf1 o g m there.octets there.keeps.sound there.keeps.kind ds (b.3, b.4) suits (none_above ds b.1) small room ∙ ap Ok z

module _ (s xs : List ℕ) (n : ℕ) (y : Bytes s) (e : converted_of Psf1ToPsf2 s (length xs) ≡ Ok n) where
  -- the way back is refused for want of room alone
  pub back_accepted : (m : ℕ) → length s ≤ m → converted_of Psf2ToPsf1 (take n (converted_into Psf1ToPsf2 s xs)) m ≡ Ok (length s)
  back_accepted = room_enough s xs n y (means Psf1ToPsf2 s xs n y e)

  module _ (ys : List ℕ) (l : length s ≤ length ys) where
    abbrev back : List ℕ
    back = take (length s) (converted_into Psf2ToPsf1 (take n (converted_into Psf1ToPsf2 s xs)) ys)

    -- the file but for the mode
    changed : (f : Font) × (f.kind ≡ Psf1) × (check_of s ≡ Ok f) × (back ≡ take 2 s ++ (mode_of f.count f.table ∷ drop 3 s))
    changed =
        let w = means Psf1ToPsf2 s xs n y e in
        let a = back_again Psf1ToPsf2 Psf2ToPsf1 s xs ys n (length s) y e (back_accepted (length ys) l) refl in
        let f = a.0 in
        let q : f.kind ≡ Psf1 = ap (λ (x : Font). x.kind) (one_font s f w.font a.1 w.sound) ∙ w.kind in
        (f, q, a.1, a.2 ∙ ap (λ (k : Kind). rewritten s f k (tail_of s f)) q ∙ psf1_self s f y a.1 (evenly (char_size f) 0 f.count) q)

    pub round_trip : RoundTrip s (take (length s) (converted_into Psf2ToPsf1 (take n (converted_into Psf1ToPsf2 s xs)) ys))
    round_trip =
        let d = changed in
        let f = d.0 in
        let v = mode_of f.count f.table in
        let r = (source s f Psf1 d.1 (says_font s f y d.2)).1 in
        let k = back_keeps Psf1ToPsf2 Psf2ToPsf1 s xs ys n (length s) y e (back_accepted (length ys) l) in
        let p = put s v r.1 in
        let m : v ≡ mode_of (psf1_count (get_or s 2 0)) (psf1_table (get_or s 2 0)) = ap (λ (x : Font). mode_of x.count x.table) (sym r.0) in
        let o = take n (converted_into Psf1ToPsf2 s xs) in
        record {
          font = k.0;
          sound = k.1;
          keeps = k.2;
          same = (
            λ z. subst (λ (x : List ℕ). get_or x 2 0 ≤ 3) z (means Psf2ToPsf1 o ys (length s) (means Psf1ToPsf2 s xs n y e).octets (back_accepted (length ys) l)).plain,
            back_bytes Psf1ToPsf2 Psf2ToPsf1 s xs ys n (length s) y e (back_accepted (length ys) l) refl (inl refl),
          );
          modes = r.2;
          mode = λ a. ap (λ (x : List ℕ). get_or x 2 0 + 2) d.3 ∙ ap (λ (x : ℕ). x + 2) (p.1 ∙ m) ∙ mode_less (get_or s 2 0) a r.2;
          others = (ap length d.3 ∙ p.0, λ i u. ap (λ (x : List ℕ). get_or x i 0) d.3 ∙ p.2 i u);
        }
