use mathlib.Core.Path.{◌≡◌}
use Prim.Native.Nat.{◌+◌}
use lib.ListN.{length}
use Rattle.std.specs.Slice.Iter.{chunks_exact_rest, chunks_exact_size}
use Rattle.std.specs.Iterator.Adapters.{enumerate_source, enumerate_count}
use Rattle.hexline.specs.Reading.{bytes_from, frame_of}
use Rattle.hexline.proofs.read_line.Given as goal

abbrev pub invariant-loop-k : goal.invariant-loop-k
invariant-loop-k l =
    let k = enumerate_count l.k-iterator in
    let rest = chunks_exact_rest (enumerate_source l.k-iterator) in
    (chunks_exact_size (enumerate_source l.k-iterator) ≡ 2) × (k + k + length rest ≡ length l.line) × (length l.bytes ≡ 64) × (bytes_from k l.bytes rest ≡ frame_of l.line)
