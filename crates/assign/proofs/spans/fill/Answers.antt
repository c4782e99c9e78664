use Rattle.std.proofs.Common.{◌≡◌, ◌≤◌, length, take, get_or, arith, ap, sym, ◌∙◌, add-zero}
use Rattle.std.specs.List.{sum}
use Rattle.std.proofs.lemmas.List.{get_or-replicate}
use Rattle.std.proofs.lemmas.List.Folds.{sum_by-replicate}
use Rattle.demand.specs.Pairs.{units_from_to}
use Rattle.assign.specs.Conditions.{units_of_pairs}
use Rattle.assign.proofs.PairLemmas.{none_before, none_after}
use Rattle.assign.proofs.spans.fill.Goals as goal

pub loop-place-init : goal.loop-place-init
loop-place-init c = record {
  each = λ node lt.
      ap (λ xs. get_or xs node 0) c.clear.ensures
      ∙ get_or-replicate (length c.args.demand.now) node 0 0 (omega arith)
      ∙ sym (none_before c.args.pairs.now c.args.zone c.args.from node c.requires.span.starts);
  total = ap sum c.clear.ensures ∙ sum_by-replicate (λ x. x) (length c.args.demand.now) 0 ∙ omega arith;
  units = add-zero (units_of_pairs (take c.args.from c.args.pairs.now));
}

pub returns-clause-each : goal.returns-clause-each
returns-clause-each c = λ node lt.
    let rises : c.args.from ≤ c.args.to = c.requires.span.rises in
    let done : c.loop-place.place ≡ c.args.to = omega arith in
    c.loop-place.invariant.each node lt
    ∙ ap (λ place. units_from_to (take place c.args.pairs.now) node c.args.zone) done
    ∙ none_after c.args.pairs.now c.args.zone c.args.to node c.requires.span.ends
