-- What is written is bytes.
use mathlib.Core.Bool.{Bool, true, false}
use mathlib.Core.List.{List, [], ◌∷◌, ◌++◌}
use Prim.Native.Nat.{ℕ, ◌+◌, ◌%◌, ◌≤◌, ◌<◌}
use native.Mathlib.Omega.{arith}
use lib.Dec.{eqb}
use Rattle.base.specs.Meaning.{pick, Bytes}
use Rattle.base.specs.Reading.{bytes16, bytes32}
use Rattle.base.proofs.Parts.{bytes_append}
use Rattle.header.specs.declared.Kind.{Kind}
use Rattle.header.specs.declared.Kind.TheVariants.{Psf1, Psf2, Vfont2}
use Rattle.header.specs.Meaning.{magic_of}
use Rattle.header.specs.Reading.{fields, flags_of, mode_of, fixed_fields, header_bytes}
use Rattle.layout.specs.Reading.{metrics_bytes, entry_bytes, entries_at, dispatch_bytes, field_at20, font_bytes}

low : (v : ℕ) → v % 256 < 256
low v = omega arith

four_bytes : (v : ℕ) → Bytes (bytes32 v)
unfolding bytes32
four_bytes v = (low v, (low _, (low _, (low _, tt))))

two_bytes : (v : ℕ) → Bytes (bytes16 v)
unfolding bytes16
two_bytes v = (low v, (low _, tt))

mode_low : (n : ℕ) (t : Bool) → mode_of n t < 256
unfolding mode_of
mode_low n t = go (eqb n 512) t
  where
    go : (a b : Bool) → pick a 1 0 + pick b 2 0 < 256
    go true true = omega arith
    go true false = omega arith
    go false true = omega arith
    go false false = omega arith

fixed_bytes : (t : Bool) → Bytes (fixed_fields t)
unfolding fixed_fields
fixed_bytes t = bytes_append (bytes32 0 ++ bytes32 32) (bytes32 (flags_of t)) (bytes_append (bytes32 0) (bytes32 32) (four_bytes 0) (four_bytes 32)) (four_bytes (flags_of t))

fields_bytes : (a b c d : ℕ) → Bytes (fields a b c d)
unfolding fields
fields_bytes a b c d =
    bytes_append (bytes32 a ++ bytes32 b ++ bytes32 c) (bytes32 d)
    (bytes_append (bytes32 a ++ bytes32 b) (bytes32 c) (bytes_append (bytes32 a) (bytes32 b) (four_bytes a) (four_bytes b)) (four_bytes c)) (four_bytes d)

-- the fields behind a magic
fielded : (m : List ℕ) (t : Bool) (n z h w : ℕ) → Bytes m → Bytes (m ++ fixed_fields t ++ fields n z h w)
fielded m t n z h w y = bytes_append (m ++ fixed_fields t) (fields n z h w) (bytes_append m (fixed_fields t) y (fixed_bytes t)) (fields_bytes n z h w)

-- a header
pub header_bytes_lem : (k : Kind) (t : Bool) (n z h w : ℕ) → h ≤ 255 → Bytes (header_bytes k t n z h w)
unfolding header_bytes
header_bytes_lem Psf1 t n z h w l = (omega arith, (omega arith, (mode_low n t, (omega arith, tt))))
header_bytes_lem Psf2 t n z h w l = fielded (magic_of Psf2) t n z h w (omega arith, (omega arith, (omega arith, (omega arith, tt))))
header_bytes_lem Vfont2 t n z h w l = fielded (magic_of Vfont2) t n z h w (omega arith, (omega arith, (omega arith, (omega arith, tt))))

metrics_bytes_lem : (h w : ℕ) → Bytes (metrics_bytes h w)
unfolding metrics_bytes
metrics_bytes_lem h w =
    bytes_append (bytes16 h ++ bytes16 0 ++ bytes16 0 ++ bytes16 w) (bytes16 w)
    (bytes_append (bytes16 h ++ bytes16 0 ++ bytes16 0) (bytes16 w)
    (bytes_append (bytes16 h ++ bytes16 0) (bytes16 0) (bytes_append (bytes16 h) (bytes16 0) (two_bytes h) (two_bytes 0)) (two_bytes 0)) (two_bytes w)) (two_bytes w)

entry_bytes_lem : (a c h w : ℕ) → Bytes (entry_bytes a c h w)
unfolding entry_bytes
entry_bytes_lem a c h w =
    bytes_append (bytes32 a ++ bytes32 c) (metrics_bytes h w) (bytes_append (bytes32 a) (bytes32 c) (four_bytes a) (four_bytes c)) (metrics_bytes_lem h w)

-- a dispatch table
pub entries_bytes : (c h w : ℕ) (xs : List ℕ) → Bytes (entries_at c h w xs)
unfolding entries_at
entries_bytes c h w [] = tt
entries_bytes c h w (a ∷ xs) = bytes_append (entry_bytes a c h w) (entries_at c h w xs) (entry_bytes_lem a c h w) (entries_bytes c h w xs)

dispatch_bytes_lem : (k : Kind) (c h w : ℕ) (xs : List ℕ) → Bytes (dispatch_bytes k c h w xs)
dispatch_bytes_lem Psf1 c h w xs = tt
dispatch_bytes_lem Psf2 c h w xs = tt
dispatch_bytes_lem Vfont2 c h w xs = entries_bytes c h w xs

-- a written font, whose bitmaps and tail are bytes
pub written_bytes : (k : Kind) (t : Bool) (n c h w : ℕ) (xs b tl : List ℕ) → h ≤ 255 → Bytes b → Bytes tl → Bytes (font_bytes k t n c h w xs b tl)
unfolding font_bytes
written_bytes k t n c h w xs b tl l yb yt =
    let p = header_bytes k t n (field_at20 k c b) h w in
    let q = dispatch_bytes k c h w xs in
    bytes_append (p ++ q ++ b) tl (bytes_append (p ++ q) b (bytes_append p q (header_bytes_lem k t n (field_at20 k c b) h w l) (dispatch_bytes_lem k c h w xs)) yb) yt
