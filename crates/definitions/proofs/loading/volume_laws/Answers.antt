use Rattle.definitions.proofs.LoadingLaws.{volumes_are_a_plan, volumes_lead_lower, volumes_are_one, least_waits_are_one}
use Rattle.definitions.proofs.UnitLemmas.{units_are_within_demand, volumes_are_within_demand}
use Rattle.definitions.proofs.loading.volume_laws.Goals as goal

pub returns : goal.returns
returns c = record {
  volumes_are_a_plan = volumes_are_a_plan;
  volumes_lead_lower = volumes_lead_lower;
  units_are_within_demand = units_are_within_demand;
  volumes_are_within_demand = volumes_are_within_demand;
  volumes_are_one = volumes_are_one;
  least_waits_are_one = least_waits_are_one;
}
