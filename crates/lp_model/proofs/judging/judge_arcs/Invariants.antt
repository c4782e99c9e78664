use Rattle.std.proofs.Common.{◌≡◌, []}
use Rattle.std.specs.List.{flat_map, range_with_len}
use Rattle.lp_model.specs.Faults.{tail_before}
use Rattle.lp_model.specs.Parts.{network_with}
use Rattle.lp_model.proofs.FaultLemmas.{faults_at}
use Rattle.lp_model.proofs.judging.judge_arcs.Given as goal

-- no fault so far
abbrev pub invariant-loop-number : goal.invariant-loop-number
invariant-loop-number l = record {
  before : l.before ≡ tail_before (network_with l.nodes l.arcs l.k) l.number;
  none : flat_map (faults_at (network_with l.nodes l.arcs l.k)) (range_with_len 0 l.number) ≡ [];
}
