-- `bitmap::kind_metrics` meets its contract: by the font's kind. Assumes one of the font's glyphs.
use mathlib.Core.Path.{sym, ◌∙◌, ap}
use Rattle.bitmap.specs.Meaning.{kind_metrics}
use Rattle.bitmap.proofs.Places.{entry_inside}
use Rattle.bitmap.proofs.kind_metrics.Goals as goal

pub metrics_at-requires : goal.metrics_at-requires
metrics_at-requires c = entry_inside c.args.file.now c.args.f c.args.g c.requires.0 c.requires.1 (rw c.in-Vfont2.is at c.requires.0.8)

pub returns-in-Psf1 : goal.returns-in-Psf1
returns-in-Psf1 c = c.even_metrics.ensures ∙ ap (kind_metrics c.args.file.now c.args.f c.args.g) (sym c.in-Psf1.is)

pub returns-in-Psf2 : goal.returns-in-Psf2
returns-in-Psf2 c = c.even_metrics-in-Psf2.ensures ∙ ap (kind_metrics c.args.file.now c.args.f c.args.g) (sym c.in-Psf2.is)

pub returns-in-Vfont2 : goal.returns-in-Vfont2
returns-in-Vfont2 c = c.metrics_at.ensures ∙ ap (kind_metrics c.args.file.now c.args.f c.args.g) (sym c.in-Vfont2.is)
