-- `utf8::is_scalar` meets its contract: each range tested. Assumes nothing.
use native.Mathlib.Omega.{arith}
use Rattle.utf8.proofs.Written.{below_surrogates, surrogate, above_surrogates}
use Rattle.utf8.proofs.is_scalar.Goals as goal

pub returns-then-v-lt55296 : goal.returns-then-v-lt55296
returns-then-v-lt55296 c = below_surrogates c.args.v (omega arith)

pub returns-then-v-lt57344 : goal.returns-then-v-lt57344
returns-then-v-lt57344 c = surrogate c.args.v (omega arith)

pub returns : goal.returns
returns c = above_surrogates c.args.v (omega arith)
