-- "with its few unfinished bytes beside the counts": a small byte array of the incomplete header, entry or value, with its length.
use Rattle.std.specs.Prelude.{ℕ, ◌+◌, List, ◌++◌, length, take, replicate}
use Rattle.base.specs.Reading.{over}
use Rattle.unfinished.specs.declared.Held.{Held}

-- the bytes that are held
abbrev pub held_bytes : Held → List ℕ
held_bytes h = take h.len h.bytes

-- these bytes held, 0 behind them
unfoldable pub held_of : List ℕ → Held
held_of s = record { len = length s; bytes = over s (replicate 32 0) }

-- more bytes behind those that are held; what stands behind them as it was
unfoldable pub put_of : Held → List ℕ → Held
put_of h s = record { len = h.len + length s; bytes = over (held_bytes h ++ s) h.bytes }
