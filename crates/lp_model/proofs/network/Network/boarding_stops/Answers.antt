use Rattle.std.proofs.Common.{◌≡◌, ◌+◌, ◌≤◌, Bool, true, false, length, cond, refl, arith, ap, sym, ◌∙◌}
use mir.Val.{bool_byte}
use Rattle.std.specs.Bool.{nat_lt}
use Rattle.std.specs.Option.{is_some}
use Rattle.std.specs.List.{count_by, list_any, range_with_len}
use Rattle.definitions.specs.declared.arc.NetArc.{NetArc}
use Rattle.definitions.specs.Network.{boarding_arcs, out_arcs}
use Rattle.definitions.proofs.Spans.{count_by-more}
use Rattle.lp_model.proofs.BoardingLemmas.{any_boarding}
use Rattle.lp_model.proofs.network.Network.boarding_stops.Goals as goal

pub loop-node-preserved : goal.loop-node-preserved
loop-node-preserved c =
    let boards = c.has_boarding.ensures.value
    ∙ ap (list_any (λ (arc : NetArc). is_some arc.weight)) c.out.ensures.arcs
    ∙ any_boarding c.args.self.now (out_arcs c.args.self.now c.loop-node.node) in
    let one : c.from-stops.result ≡ cond (nat_lt 0 (length (boarding_arcs c.args.self.now c.loop-node.node))) 1 0 = rw (c.from-stops.ensures, boards) (as_number (nat_lt 0 (length (boarding_arcs c.args.self.now c.loop-node.node)))) in
    let more = count_by-more (λ node. nat_lt 0 (length (boarding_arcs c.args.self.now node))) c.loop-node.node in
    record {
      counted = ap (λ n. n + c.from-stops.result) c.loop-node.invariant.counted ∙ ap (λ n. count_by (λ node. nat_lt 0 (length (boarding_arcs c.args.self.now node))) (range_with_len 0 c.loop-node.node) + n) one ∙ sym more;
      within = omega (arith, at_most_one (nat_lt 0 (length (boarding_arcs c.args.self.now c.loop-node.node))));
    }
  where
    as_number : (b : Bool) → bool_byte b ≡ cond b 1 0
    as_number true = refl
    as_number false = refl

    at_most_one : (b : Bool) → cond b 1 0 ≤ 1
    at_most_one true = omega arith
    at_most_one false = omega arith
