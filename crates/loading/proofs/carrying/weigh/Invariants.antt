use Rattle.std.proofs.Common.{◌≡◌, ℕ, ◌<◌, get_or}
use Rattle.definitions.specs.Network.{weight_of}
use Rattle.definitions.specs.Choice.{is_attractive}
use Rattle.loading.specs.Loading.{weight_among}
use Rattle.loading.proofs.carrying.weigh.Given as goal

abbrev pub invariant-loop-place : goal.invariant-loop-place
invariant-loop-place l = (j : ℕ) → j < l.place → get_or l.weights j 0 ≡ weight_among (is_attractive l.net l.reached l.labels) (weight_of l.net) l.first j
