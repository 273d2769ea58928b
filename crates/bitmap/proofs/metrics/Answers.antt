-- `bitmap::metrics` meets its contract: where the bitmap was found, the glyph's metrics. Assumes `Placed`.
use mathlib.Core.Path.{sym, ◌∙◌}
use Rattle.bitmap.proofs.Places.{found_below}
use Rattle.bitmap.proofs.metrics.Goals as goal

pub kind_metrics-requires : goal.kind_metrics-requires
kind_metrics-requires c = (c.requires, found_below c.args.file.now c.args.f c.args.g _ (sym c.locate.ensures.equal ∙ c.in_ok-locate.was))
