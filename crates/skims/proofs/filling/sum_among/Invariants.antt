use Rattle.std.proofs.Common.{◌≡◌, ◌*◌, ◌≤◌, sum_by}
use Rattle.std.specs.List.{range_with_len, filter}
use Rattle.definitions.specs.Network.{weight_of}
use Rattle.definitions.specs.Choice.{is_attractive}
use Rattle.skims.specs.Parts.{part_along}
use Rattle.skims.specs.Skims.{part_in, terms_of}
use Rattle.skims.proofs.filling.sum_among.Given as goal

abbrev pub invariant-loop-place : goal.invariant-loop-place
invariant-loop-place l = record {
  value : l.sum ≡ sum_by (λ arc. weight_of l.city.net arc * part_along l.city.net (terms_of l.city l.part) (part_in l.rows l.part) arc)
      (filter (is_attractive l.city.net l.reached l.labels) (range_with_len l.first l.place));
  within : l.sum ≤ l.place * 79228162518972760500000000000;
}
