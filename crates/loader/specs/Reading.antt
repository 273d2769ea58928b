-- The loader (document 02, W2), for any record: what a piece makes of it, what a close answers, and when both are LATE.
use Rattle.std.specs.Prelude.{ℕ, ◌+◌, ◌-◌, ◌/◌, Bool, ◌&&◌, not, List, [], ◌++◌, ltb, eqb, length, take, drop, replicate, Result, Ok, Err}
use Rattle.base.specs.Meaning.{pick}
use Rattle.base.specs.Reading.{when}
use Rattle.refusal.specs.Meaning.{refusal, refusal_at}
use Rattle.refusal.specs.declared.Reason.TheVariants.{TooLong, Entry, TableCut, TableBad, Trailing, Late}
use Rattle.header.specs.declared.Kind.{Kind}
use Rattle.header.specs.declared.Kind.TheVariants.{Psf1, Psf2, Vfont2}
use Rattle.header.specs.declared.Font.{Font}
use Rattle.header.specs.Meaning.{limit, entry_len}
use Rattle.header.specs.Reading.{says_of}
use Rattle.stages.specs.Meaning.{coding_of}
use Rattle.stages.specs.Reading.{and_then, sized, greatest_of, check_of}
use Rattle.unfinished.specs.declared.Held.{Held}
use Rattle.unfinished.specs.Reading.{held_bytes, held_of}
use Rattle.entryfeed.specs.declared.Sums.{Sums}
use Rattle.entryfeed.specs.declared.Fed as entries
use Rattle.entryfeed.specs.Reading.{entries_fed}
use Rattle.tablefeed.specs.declared.Standing.{Standing}
use Rattle.tablefeed.specs.declared.Fed as tables
use Rattle.tablefeed.specs.Reading.{table_fed}
use Rattle.loader.specs.declared.Loader.{Loader}
use Rattle.refusal.specs.declared.Refusal.{Refusal}

-- before the first byte
unfoldable pub fresh_of : Loader
fresh_of = record {
  total = 0;
  closed = 0;
  header = replicate 32 0;
  held = held_of [];
  sums = record { broken = 0; height = 0; width = 0 };
  standing = record { ended = 0; opened = 0; halted = 0; place = 0 };
}

-- a record that can be fed: not closed, and with so many unfinished bytes as feeding leaves
unfoldable pub is_open : Loader → Bool
is_open l = eqb l.closed 0 && pick (ltb l.total 32) (eqb l.held.len l.total) (ltb l.held.len 18)

-- the part of a piece that stands in the file from start on and before end, where the piece begins at total
abbrev pub part_of : ℕ → ℕ → ℕ → List ℕ → List ℕ
part_of total start end p = drop (start - total) (take (end - total) p)

-- the entries in a piece: none held before the first
unfoldable pub entries_in : Font → ℕ → Held → Sums → List ℕ → entries.Fed
entries_in f total h x p =
    when (eqb (length (part_of total f.entries f.bitmaps p)) 0) (record { held = h; sums = x })
    (when (ltb f.entries total) (entries_fed f.size total h x (part_of total f.entries f.bitmaps p))
    (entries_fed f.size f.entries (held_of []) x (part_of total f.entries f.bitmaps p)))

-- the Unicode table in a piece, as above
unfoldable pub table_in : Font → ℕ → Held → Standing → List ℕ → tables.Fed
table_in f total h t p =
    when (eqb (length (part_of total f.end limit p)) 0) (record { held = h; standing = t })
    (when (not f.table) (record { held = h; standing = t })
    (when (ltb f.end total) (table_fed (coding_of f.kind) f.count total h t (part_of total f.end limit p))
    (table_fed (coding_of f.kind) f.count f.end (held_of []) t (part_of total f.end limit p))))

-- a piece more, with what it leaves
abbrev pub counted : Loader → List ℕ → Held → Sums → Standing → Loader
counted l p h x t = record { total = l.total + length p; closed = l.closed; header = l.header; held = h; sums = x; standing = t }

unfoldable pub font_fed : Font → Loader → List ℕ → Loader
font_fed f l p =
    counted l p (table_in f l.total (entries_in f l.total l.held l.sums p).held l.standing p).held
    (entries_in f l.total l.held l.sums p).sums
    (table_in f l.total (entries_in f l.total l.held l.sums p).held l.standing p).standing

-- a file that the header refuses is only counted
abbrev pub said_fed : Result Font Refusal → Loader → List ℕ → Loader
said_fed (Ok f) l p = font_fed f l p
said_fed (Err r) l p = counted l p l.held l.sums l.standing

unfoldable pub body_fed : Loader → List ℕ → Loader
body_fed l p = said_fed (says_of l.header) l p

-- the header's 32 bytes, known
abbrev pub headed : Loader → List ℕ → Loader
headed l p = record { total = l.total; closed = l.closed; header = take 32 (held_bytes l.held ++ p); held = held_of []; sums = l.sums; standing = l.standing }

-- while the header is unfinished
unfoldable pub head_fed : Loader → List ℕ → Loader
head_fed l p =
    when (ltb (length p) (32 - l.total)) (counted l p (held_of (held_bytes l.held ++ p)) l.sums l.standing)
    (body_fed (headed l p) p)

-- nothing else is kept of a file that is too long
unfoldable pub past_limit : Loader
past_limit = record {
  total = limit + 1;
  closed = fresh_of.closed;
  header = fresh_of.header;
  held = fresh_of.held;
  sums = fresh_of.sums;
  standing = fresh_of.standing;
}

unfoldable pub open_fed : Loader → List ℕ → Loader
open_fed l p =
    when (ltb limit l.total) l
    (when (ltb (limit - l.total) (length p)) past_limit
    (when (ltb l.total 32) (head_fed l p)
    (body_fed l p)))

-- the record after a piece; one that is not open stays as it is
unfoldable pub fed_of : Loader → List ℕ → Loader
fed_of l p = pick (is_open l) (open_fed l p) l

-- "LATE (22, place 0) for a piece or close after the close"
unfoldable pub feed_answer : Loader → Result (Unit {0}) Refusal
feed_answer l = pick (is_open l) (Ok tt) (Err (refusal Late 0))

-- the number of the entry that stands at a place of the dispatch table, which begins at start
abbrev pub entry_number : ℕ → ℕ → ℕ
entry_number start place = (place - start) / entry_len Vfont2

-- 9
abbrev pub kind_told : Font → Sums → Kind → Result Font Refusal
kind_told f x Psf1 = Ok f
kind_told f x Psf2 = Ok f
kind_told f x Vfont2 = when (not (eqb x.broken 0)) (Err (refusal_at Entry x.broken (entry_number f.entries x.broken))) (greatest_of f x.height x.width)

unfoldable pub entries_told : Font → Sums → Result Font Refusal
entries_told f x = kind_told f x f.kind

-- 10 to 12, of a file of so many bytes
unfoldable pub tail_told : Font → ℕ → Standing → Result Font Refusal
tail_told f total t =
    when (not f.table) (when (ltb f.end total) (Err (refusal Trailing f.end)) (Ok f))
    (when (eqb t.halted 0) (when (ltb t.ended f.count) (Err (refusal_at TableCut total t.ended)) (Ok f))
    (when (eqb t.halted 12) (Err (refusal Trailing t.place))
    (Err (refusal_at TableBad t.place t.ended))))

-- 8 to 12
unfoldable pub font_told : Font → Loader → Result Font Refusal
font_told f l = and_then (sized l.total f) (λ g. and_then (entries_told g l.sums) (λ k. tail_told k l.total l.standing))

-- 1 to 12, or what the font is; fewer than 32 bytes are all held
unfoldable pub answer_of : Loader → Result Font Refusal
answer_of l =
    when (ltb limit l.total) (Err (refusal TooLong limit))
    (when (ltb l.total 32) (check_of (held_bytes l.held))
    (and_then (says_of l.header) (λ f. font_told f l)))

-- what a close answers
unfoldable pub close_answer : Loader → Result Font Refusal
close_answer l = pick (is_open l) (answer_of l) (Err (refusal Late 0))

-- the record after it: "which closes the record whatever it answers"
unfoldable pub closed_of : Loader → Loader
closed_of l = pick (is_open l) (record { total = l.total; closed = 1; header = l.header; held = l.held; sums = l.sums; standing = l.standing }) l
