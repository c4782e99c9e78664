use Rattle.definitions.proofs.LoadingLaws.{shares_sum_to_units, shares_are_near_even, no_weight_gets_nothing}
use Rattle.definitions.proofs.splitting.split_laws.Goals as goal

pub returns : goal.returns
returns c = record {
  shares_sum_to_units = shares_sum_to_units;
  shares_are_near_even = shares_are_near_even;
  no_weight_gets_nothing = no_weight_gets_nothing;
}
