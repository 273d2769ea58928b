-- `table::check_from` meets its contract: what is gone over changes nothing for the check, and it answers where that ends. Assumes nothing.
use mathlib.Core.Path.{◌∙◌}
use native.Mathlib.Omega.{arith}
use Rattle.coding.specs.Reading.{no_key}
use Rattle.table.proofs.Halting.{left_after, halted_after, check_after, no_value_left, answer_there}
use Rattle.table.proofs.check_from.Goals as goal

pub answer_at-requires : goal.answer_at-requires
answer_at-requires c = (c.skip_all.ensures.1, omega (arith, left_after c.args.c c.args.tail.now no_key c.args.from _ c.skip_all.ensures.0 c.requires.1), no_value_left c.args.c c.args.tail.now _ (halted_after c.args.c c.args.tail.now no_key c.args.from _ c.skip_all.ensures.0 c.requires.1))

pub returns : goal.returns
returns c = let h = halted_after c.args.c c.args.tail.now no_key c.args.from _ c.skip_all.ensures.0 c.requires.1 in
    c.answer_at.ensures
    ∙ answer_there c.args.c c.args.tail.now no_key _ h _ c.skip_all.ensures.1 (no_value_left c.args.c c.args.tail.now _ h)
    ∙ check_after c.args.c c.args.tail.now no_key c.args.from _ c.skip_all.ensures.0 c.requires.1 _ c.requires.2
