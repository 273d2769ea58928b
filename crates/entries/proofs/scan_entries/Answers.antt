-- `entries::scan_entries` meets its contract: the entries from the i-th on, with the greatest so far, scan as all of them do. Assumes nothing.
use Rattle.entries.proofs.Cases as cases
use Rattle.entries.proofs.Meaning.{larger_max}
use Prim.Native.Nat.{◌+◌, ◌-◌}
use mathlib.Core.Path.{◌≡◌, refl, sym, ◌∙◌}
use native.Mathlib.Omega.{arith}
use Rattle.entries.proofs.scan_entries.Goals as goal
use Rattle.entries.proofs.scan_entries.Goals.{in-Empty, in-Glyph}

pub loop-i-preserved : goal.loop-i-preserved
loop-i-preserved c = let e : c.args.n - (c.loop-i.i + 1) ≡ c.args.n - c.loop-i.i - 1 = omega arith in
    let s = c.args.file.now in elim c.match-entry_at.branch [
      | in-Empty w ↦ rw (e, w.height-is, w.width-is) (sym (cases.past_empty s c.args.total c.args.start c.loop-i.i _ _ _ refl (c.args.n - c.loop-i.i) (omega arith) (sym c.entry_at.ensures ∙ w.in-Empty.is)) ∙ c.loop-i.invariant)
      | in-Glyph w ↦ rw (e, w.height-is, w.width-is, w.max-height.ensures, larger_max, w.max-width.ensures, larger_max) (sym (cases.past_glyph s c.args.total c.args.start c.loop-i.i _ _ _ refl (c.args.n - c.loop-i.i) _ _ (omega arith) (sym c.entry_at.ensures ∙ w.in-Glyph.is)) ∙ c.loop-i.invariant)
    ]

pub returns-in-Broken : goal.returns-in-Broken
returns-in-Broken c = sym (cases.at_broken c.args.file.now c.args.total c.args.start c.loop-i.i _ _ _ refl (c.args.n - c.loop-i.i) (omega arith) (sym c.entry_at.ensures ∙ c.in-Broken.is)) ∙ c.loop-i.invariant

pub returns : goal.returns
returns c = sym (cases.scanned c.args.file.now c.args.total c.args.start (c.args.n - c.loop-i.i) c.loop-i.i _ _ (omega arith)) ∙ c.loop-i.invariant
