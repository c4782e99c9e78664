use Rattle.std.proofs.Common.{◌≡◌, ◌*◌, ◌≤◌, length, sum_by}
use Rattle.std.specs.List.{range_with_len, filter}
use Rattle.definitions.specs.Network.{weight_of}
use Rattle.definitions.specs.Choice.{is_attractive}
use Rattle.strategy.proofs.choosing.attractive_among.Given as goal

abbrev pub invariant-loop-place : goal.invariant-loop-place
invariant-loop-place l = record {
  count : l.found ≡ length (filter (is_attractive l.net l.reached l.labels) (range_with_len l.first l.place));
  weight : l.total ≡ sum_by (weight_of l.net) (filter (is_attractive l.net l.reached l.labels) (range_with_len l.first l.place));
  few : l.found ≤ l.place;
  within : l.total ≤ l.place * 4294967295;
}
