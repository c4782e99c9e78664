use Rattle.std.proofs.Common.{drop}
use Rattle.definitions.specs.Network.{in_arcs}
use Rattle.label_setting.specs.Settling.{IsMadeFor, IsBounded}
use Rattle.label_setting.specs.Changes.{IsSpreadFrom}
use Rattle.label_setting.proofs.StepLemmas.{SoFar}
use Rattle.label_setting.proofs.solving.spread.Given as goal

abbrev pub invariant-loop-arc : goal.invariant-loop-arc
invariant-loop-arc l = record {
  made : IsMadeFor l.net l.state;
  bounded : IsBounded l.net l.state;
  so_far : SoFar l.net l.dest l.node l.label (drop l.arc-index (in_arcs l.net l.node)) l.state;
  spread : IsSpreadFrom l.net l.node l.initial.state l.state;
}
