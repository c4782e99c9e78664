use Rattle.std.proofs.Common.{◌≡◌, ◌+◌, suc, arith, ap, sym}
use Rattle.std.proofs.lemmas.Result.{err_from_is_err_and}
use Rattle.lp_model.specs.Faults.{tail_before}
use Rattle.lp_model.specs.Parts.{network_with}
use Rattle.lp_model.specs.Wide.{arc_of_wide}
use Rattle.lp_model.proofs.FaultLemmas.{arc_found, arc_passed}
use Rattle.lp_model.proofs.judging.judge_arcs.Goals as goal

pub returns-in_err-judge : goal.returns-in_err-judge
returns-in_err-judge c =
    let p = err_from_is_err_and c.from_residual.result c.from_residual.ensures.1 in
    let found = arc_found (network_with c.args.nodes c.args.arcs.now c.args.k) c.loop-number.number c.loop-number.before (arc_of_wide c.from.result) c.in_err-judge.field-0.0
    c.loop-number.invariant.none c.loop-number.invariant.before c.from.ensures c.in_err-judge.ensures.judged c.loop-number-test.true in
    rw (p.1, p.2) (record { judged = found })

pub loop-number-preserved : goal.loop-number-preserved
loop-number-preserved c =
    let next : c.loop-number.number + 1 ≡ suc c.loop-number.number = omega arith in
    record {
      before = ap (tail_before (network_with c.args.nodes c.args.arcs.now c.args.k)) (sym next);
      none = arc_passed (network_with c.args.nodes c.args.arcs.now c.args.k) c.loop-number.number c.loop-number.before (arc_of_wide c.from.result)
          c.loop-number.invariant.none c.loop-number.invariant.before c.from.ensures c.in_ok-judge.ensures.judged.1;
    }
