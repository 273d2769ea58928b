-- Where a run through some bytes rests: within them, and with at most three bytes behind it where it goes on.
use Rattle.std.specs.Prelude.{◌≡◌, List, ℕ, ◌+◌, ◌≤◌, ◌<◌, length}
use Rattle.tablefeed.specs.declared.Run.{Run}
use Rattle.tablefeed.specs.Reading.{halt_number}

abbrev pub Resting : List ℕ → Run → Type 0
Resting s r = (r.place ≤ length s) × (halt_number r.halted ≡ 0 → length s < r.place + 4)
