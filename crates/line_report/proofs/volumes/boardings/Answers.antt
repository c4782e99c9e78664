use Rattle.std.proofs.Common.{◌≡◌, ◌∙◌, ap, arith, length}
use Rattle.network.specs.Kinds.{is_boarding_kind}
use Rattle.line_report.proofs.VolumeLemmas.{all_arcs, one_more}
use Rattle.line_report.proofs.volumes.boardings.Goals as goal

pub loop-arc-preserved : goal.loop-arc-preserved
loop-arc-preserved c = record {
  value = one_more c.args.city.now is_boarding_kind c.args.volumes.now c.loop-arc.arc c.arc_kind.result c.boards.result c.loop-arc.total c.volume_if-total.result
      c.arc_kind.ensures.value c.boards.ensures.value c.volume_if-total.ensures.value c.loop-arc.invariant.value;
  within = omega arith;
}

pub returns : goal.returns
returns c = record {
  value =
      let last : c.loop-arc.arc ≡ c.arcs-arc-end.result = omega arith in
      all_arcs c.args.city.now is_boarding_kind c.args.volumes.now c.loop-arc.arc c.loop-arc.total
      (last ∙ c.arcs-arc-end.ensures.value ∙ ap (λ net. length net.arcs) c.net.ensures.value) c.loop-arc.invariant.value;
}
