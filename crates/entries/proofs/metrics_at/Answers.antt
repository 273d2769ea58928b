-- `entries::metrics_at` meets its contract: five numbers of two bytes. Assumes that the entry stands in the file.
use Rattle.entries.specs.Meaning.{metrics_at}
use Rattle.entries.proofs.Machine.{field_kept}
use Rattle.entries.proofs.metrics_at.Goals as goal

pub returns : goal.returns
unfolding metrics_at
returns c = λ i. record { up = field_kept _ c.get16.result _ c.signed.ensures c.get16.ensures.0 c.get16.ensures.1 i; down = field_kept _ c.get16-2.result _ c.signed-2.ensures c.get16-2.ensures.0 c.get16-2.ensures.1 i; left = field_kept _ c.get16-3.result _ c.signed-3.ensures c.get16-3.ensures.0 c.get16-3.ensures.1 i; right = field_kept _ c.get16-4.result _ c.signed-4.ensures c.get16-4.ensures.0 c.get16-4.ensures.1 i; logical = field_kept _ c.get16-5.result _ c.signed-5.ensures c.get16-5.ensures.0 c.get16-5.ensures.1 i }
