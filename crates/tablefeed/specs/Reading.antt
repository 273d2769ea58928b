-- A Unicode table, fed part by part: the grammar followed step by step as the whole-file check does, and where it stands when the bytes end.
use Rattle.std.specs.Prelude.{ℕ, zero, suc, ◌+◌, ◌-◌, Bool, true, false, not, List, [], ◌∷◌, ◌++◌, eqb, drop, Ok, Err, Option, Some, None}
use Rattle.base.specs.Meaning.{pick}
use Rattle.coding.specs.declared.Coding.{Coding}
use Rattle.table.specs.Reading.{steps_from}
use Rattle.unfinished.specs.declared.Held.{Held}
use Rattle.unfinished.specs.Reading.{held_bytes, held_of}
use Rattle.tablefeed.specs.declared.Halt.{Halt}
use Rattle.tablefeed.specs.declared.Halt.TheVariants.{Bad as TableBad, Trailing}
use Rattle.tablefeed.specs.declared.Run.{Run}
use Rattle.tablefeed.specs.declared.Standing.{Standing}
use Rattle.tablefeed.specs.declared.Fed.{Fed}
use Rattle.token.specs.declared.Token.TheVariants.{Value as TokenValue, Start as TokenStart, End as TokenEnd}
use Rattle.token.specs.declared.Malformed.TheVariants.{Cut, Bad}
use Rattle.token.specs.declared.Malformed.{Malformed}
use Rattle.token.specs.Reading.{Step}

-- read up to a place, with g descriptions complete
abbrev pub going : ℕ → Bool → ℕ → Run
going g opened at = record { ended = g; opened = opened; halted = None; place = at }

-- refused at a place: TABLE BAD or TRAILING
abbrev pub stopped : Halt → ℕ → ℕ → Run
stopped why g at = record { ended = g; opened = false; halted = Some why; place = at }

-- where nothing can be read at a place
abbrev pub unread : ℕ → Bool → ℕ → Malformed → Run
unread g opened at Cut = going g opened at
unread g opened at (Bad k) = stopped TableBad g k

-- steps from a place on: g descriptions complete, n still to end, opened just after a start mark. Where a step is cut, it is read again
-- with the bytes that follow.
unfoldable pub run_of : ℕ → ℕ → Bool → ℕ → List Step → Run
run_of g n opened at [] = going g opened at
run_of g zero opened at (x ∷ xs) = stopped Trailing g at
run_of g (suc n) opened at (Ok (TokenValue v, next) ∷ xs) = run_of g (suc n) false next xs
run_of g (suc n) true at (Ok (TokenStart, next) ∷ xs) = stopped TableBad g (next - 1)
run_of g (suc n) false at (Ok (TokenStart, next) ∷ xs) = run_of g (suc n) true next xs
run_of g (suc n) true at (Ok (TokenEnd, next) ∷ xs) = stopped TableBad g (next - 1)
run_of g (suc n) false at (Ok (TokenEnd, next) ∷ xs) = run_of (suc g) n false next xs
run_of g (suc n) opened at (Err m ∷ xs) = unread g opened at m

unfoldable pub flag_of : Bool → ℕ
flag_of b = pick b 1 0

-- the number of the refusal that is met, 0 for none: 11 TABLE BAD, 12 TRAILING
abbrev pub halt_number : Option Halt → ℕ
halt_number None = 0
halt_number (Some TableBad) = 11
halt_number (Some Trailing) = 12

unfoldable pub is_set : ℕ → Bool
is_set n = not (eqb n 0)

-- a run through bytes s that begin at a place of the file: where the table stands then, and the bytes that are still to be read
unfoldable pub settled : List ℕ → ℕ → Run → Fed
settled s at r = record {
  held = held_of (pick (eqb (halt_number r.halted) 0) (drop r.place s) []);
  standing = record { ended = r.ended; opened = flag_of r.opened; halted = halt_number r.halted; place = at + r.place };
}

-- a table of n descriptions from where it stands on, through bytes q that begin at a place of the file
unfoldable pub table_read : Coding → ℕ → ℕ → Standing → List ℕ → Fed
table_read c n at t q = settled q at (run_of t.ended (n - t.ended) (is_set t.opened) 0 (steps_from c 0 0 q))

-- a part that begins at a place of the file, behind the bytes held; nothing more once the table is refused
unfoldable pub table_fed : Coding → ℕ → ℕ → Held → Standing → List ℕ → Fed
table_fed c n at h t s = pick (eqb t.halted 0) (table_read c n (at - h.len) t (held_bytes h ++ s)) (record { held = h; standing = t })
