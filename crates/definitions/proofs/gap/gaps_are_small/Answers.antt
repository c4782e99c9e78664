use Rattle.definitions.proofs.GapLemmas.{node_is_within_its_part, gap_within_nodes, gap_within_slack, no_units_cost_nothing}
use Rattle.definitions.proofs.gap.gaps_are_small.Goals as goal

pub returns : goal.returns
returns c = record {
  node_is_within_its_part = node_is_within_its_part;
  gap_within_nodes = gap_within_nodes;
  gap_within_slack = gap_within_slack;
  no_units_cost_nothing = no_units_cost_nothing;
}
