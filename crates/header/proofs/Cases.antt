-- What each definition of the header's checks is where one of its checks applies: the checks before it did not.
use mathlib.Core.Path.{◌≡◌}
use mathlib.Core.List.{List}
use mathlib.Core.Bool.{Bool, true, false}
use Prim.Native.Nat.{ℕ, ◌+◌, ◌*◌, ◌≤◌, ◌<◌}
use lib.Dec.{eqb}
use lib.ListN.{length, get_or}
use Rattle.base.specs.Reading.{when, starts_with}
use Rattle.base.specs.Meaning.{le32}
use Rattle.base.proofs.Chain.{chain}
use Rattle.refusal.specs.Meaning.{refusal}
use Rattle.refusal.specs.declared.Reason.TheVariants.{HeaderCut, Version, HeaderSize, Count, Shape}
use Rattle.header.specs.Meaning.{glyph_bytes, psf1_font, fields_of, psf2_font, vfont2_font, magic_of, entry_len, psf1_count, psf1_table}
use Rattle.header.specs.Reading.{kind_of, psf1_says, head_of, psf2_shaped, vfont2_shaped, named_says, says_of}
use Rattle.header.specs.declared.Kind.TheVariants.{Psf1, Psf2, Vfont2}
use Rattle.header.specs.declared.Fields.{Fields}
use Rattle.std.specs.Prelude.{Ok, Err, Option, Some, None}
use Rattle.header.specs.declared.Kind.{Kind}

-- the magic
module _ (s : List ℕ) where
  pub is_psf1 : starts_with (magic_of Psf1) s ≡ true → Some Psf1 ≡ kind_of s
  unfolding kind_of when
  is_psf1 a = rw a

  module _ (a : starts_with (magic_of Psf1) s ≡ false) where
    pub is_psf2 : starts_with (magic_of Psf2) s ≡ true → Some Psf2 ≡ kind_of s
    unfolding kind_of when
    is_psf2 b = rw (a, b)

    module _ (b : starts_with (magic_of Psf2) s ≡ false) where
      pub is_vfont2 : starts_with (magic_of Vfont2) s ≡ true → Some Vfont2 ≡ kind_of s
      unfolding kind_of when
      is_vfont2 d = rw (a, b, d)

      pub no_kind : starts_with (magic_of Vfont2) s ≡ false → None ≡ kind_of s
      unfolding kind_of when
      no_kind d = rw (a, b, d)

-- PSF1, with the mode, the size byte and the count as they were read
module _ (s : List ℕ) where
  abbrev pub Mode : Type 0
  Mode = (4 ≤ length s) × (get_or s 2 0 ≤ 5)

  abbrev pub Sized : Type 0
  Sized = Mode × (get_or s 3 0 ≡ 0 → ⊥)

  pub psf1_cut : length s < 4 → Err (refusal HeaderCut (length s)) ≡ psf1_says s
  unfolding psf1_says
  psf1_cut h = search chain depth 30

  pub psf1_mode : (4 ≤ length s) × (5 < get_or s 2 0) → Err (refusal Version 2) ≡ psf1_says s
  unfolding psf1_says
  psf1_mode h = search chain depth 30

  pub psf1_shape : Mode × (get_or s 3 0 ≡ 0) → Err (refusal Shape 3) ≡ psf1_says s
  unfolding psf1_says
  psf1_shape h = search chain depth 30

  pub psf1_sound : Sized → Ok (psf1_font (psf1_count (get_or s 2 0)) (get_or s 3 0) (psf1_table (get_or s 2 0))) ≡ psf1_says s
  unfolding psf1_says
  psf1_sound h = search chain depth 30

  pub psf1_read : (n b : ℕ) (t : Bool) (m : ℕ) → n ≡ psf1_count (get_or s 2 0) → b ≡ get_or s 3 0 → t ≡ psf1_table (get_or s 2 0) → m ≡ 4 → Sized →
      Ok (record { kind = Psf1; count = n; entries = 4; bitmaps = m; size = b; height = b; width = 8; end = 4 + n * b; table = t }) ≡ psf1_says s
  psf1_read n b t m en eb et em h = rw (en, eb, et, em) (psf1_sound h)

-- the header of 32 bytes
module _ (s : List ℕ) where
  abbrev pub Long : Type 0
  Long = (32 ≤ length s) × (le32 s 4 ≡ 0)

  abbrev pub Flags : Type 0
  Flags = Long × (le32 s 12 ≤ 1)

  abbrev pub Start : Type 0
  Start = Flags × (32 ≤ le32 s 8) × (le32 s 8 ≤ 4096)

  abbrev pub Whole : Type 0
  Whole = Start × (le32 s 16 ≡ 0 → ⊥) × (le32 s 16 ≤ 4096)

  pub head_cut : length s < 32 → Err (refusal HeaderCut (length s)) ≡ head_of s
  unfolding head_of
  head_cut h = search chain depth 30

  pub head_version : (32 ≤ length s) × (le32 s 4 ≡ 0 → ⊥) → Err (refusal Version 4) ≡ head_of s
  unfolding head_of
  head_version h = search chain depth 30

  pub head_flags : Long × (1 < le32 s 12) → Err (refusal Version 12) ≡ head_of s
  unfolding head_of
  head_flags h = search chain depth 30

  pub head_low : Flags × (le32 s 8 < 32) → Err (refusal HeaderSize 8) ≡ head_of s
  unfolding head_of
  head_low h = search chain depth 30

  pub head_high : Flags × (32 ≤ le32 s 8) × (4096 < le32 s 8) → Err (refusal HeaderSize 8) ≡ head_of s
  unfolding head_of
  head_high h = search chain depth 30

  pub head_none : Start × (le32 s 16 ≡ 0) → Err (refusal Count 16) ≡ head_of s
  unfolding head_of
  head_none h = search chain depth 30

  pub head_many : Start × (le32 s 16 ≡ 0 → ⊥) × (4096 < le32 s 16) → Err (refusal Count 16) ≡ head_of s
  unfolding head_of
  head_many h = search chain depth 30

  pub head_sound : Whole → Ok (fields_of s) ≡ head_of s
  unfolding head_of
  head_sound h = search chain depth 30

  pub head_read : (a n z h w g : ℕ) →
      (a ≡ le32 s 8) × (n ≡ le32 s 16) × (z ≡ le32 s 20) × (h ≡ le32 s 24) × (w ≡ le32 s 28) × (g ≡ le32 s 12) → Whole →
      Ok (record { header = a; count = n; size = z; height = h; width = w; table = eqb g 1 }) ≡ head_of s
  head_read a n z h w g (ea, en, ez, eh, ew, eg) x = rw (ea, en, ez, eh, ew, eg) (head_sound x)

-- PSF2
module _ (f : Fields) where
  abbrev pub Height : Type 0
  Height = (1 ≤ f.height) × (f.height ≤ 255)

  abbrev pub Width : Type 0
  Width = Height × (1 ≤ f.width) × (f.width ≤ 255)

  abbrev pub Shaped : Type 0
  Shaped = Width × (f.size ≡ glyph_bytes f.height f.width)

  pub height_low : f.height < 1 → Err (refusal Shape 24) ≡ psf2_shaped f
  unfolding psf2_shaped
  height_low h = search chain depth 30

  pub height_high : (1 ≤ f.height) × (255 < f.height) → Err (refusal Shape 24) ≡ psf2_shaped f
  unfolding psf2_shaped
  height_high h = search chain depth 30

  pub width_low : Height × (f.width < 1) → Err (refusal Shape 28) ≡ psf2_shaped f
  unfolding psf2_shaped
  width_low h = search chain depth 30

  pub width_high : Height × (1 ≤ f.width) × (255 < f.width) → Err (refusal Shape 28) ≡ psf2_shaped f
  unfolding psf2_shaped
  width_high h = search chain depth 30

  pub size_wrong : Width × (f.size ≡ glyph_bytes f.height f.width → ⊥) → Err (refusal Shape 20) ≡ psf2_shaped f
  unfolding psf2_shaped
  size_wrong h = search chain depth 30

  pub psf2_sound : Shaped → Ok (psf2_font f) ≡ psf2_shaped f
  unfolding psf2_shaped
  psf2_sound h = search chain depth 30

  pub psf2_read : (m : ℕ) → m ≡ f.header → Shaped →
      Ok (record {
        kind = Psf2;
        count = f.count;
        entries = f.header;
        bitmaps = m;
        size = f.size;
        height = f.height;
        width = f.width;
        end = f.header + f.count * f.size;
        table = f.table;
      }) ≡ psf2_shaped f
  psf2_read m e h = rw e (psf2_sound h)

-- vfont2
module _ (f : Fields) where
  abbrev pub Small : Type 0
  Small = (f.height ≤ 255) × (f.width ≤ 255)

  pub tall : 255 < f.height → Err (refusal Shape 24) ≡ vfont2_shaped f
  unfolding vfont2_shaped
  tall h = search chain depth 30

  pub broad : (f.height ≤ 255) × (255 < f.width) → Err (refusal Shape 28) ≡ vfont2_shaped f
  unfolding vfont2_shaped
  broad h = search chain depth 30

  pub vfont2_sound : Small → Ok (vfont2_font f) ≡ vfont2_shaped f
  unfolding vfont2_shaped
  vfont2_sound h = search chain depth 30

  pub vfont2_read : (m : ℕ) → m ≡ f.header + f.count * entry_len Vfont2 → Small →
      Ok (record {
        kind = Vfont2;
        count = f.count;
        entries = f.header;
        bitmaps = m;
        size = f.size;
        height = f.height;
        width = f.width;
        end = m + f.size;
        table = f.table;
      }) ≡ vfont2_shaped f
  vfont2_read m e h = rw e (vfont2_sound h)

-- the whole
pub named_as : (s : List ℕ) (x : Option Kind) → kind_of s ≡ x → named_says s x ≡ says_of s
unfolding says_of
named_as s x e = rw e
