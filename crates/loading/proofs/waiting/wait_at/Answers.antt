use Rattle.std.proofs.Common.{◌≡◌, length, ◌∙◌, ap, arith, sym}
use Rattle.std.specs.List.{range_with_len}
use Rattle.definitions.specs.Network.{out_arcs}
use Rattle.loading.proofs.WaitLemmas.{enough_at_node, enough_at_span}
use Rattle.loading.proofs.SpanLemmas.{span_leaves, leaves_span}
use Rattle.loading.proofs.waiting.wait_at.Goals as goal

pub returns : goal.returns
returns c =
    let span : out_arcs c.args.net.now c.args.node ≡ range_with_len c.first-first.result (length c.out.result.now) =
    c.out.ensures.numbers ∙ ap (λ f. range_with_len f (length c.out.result.now)) (sym c.first-first.ensures.value) in
    record {
      enough = enough_at_node c.args.net.now c.args.volumes.now c.args.node c.first-first.result (length c.out.result.now) c.wait_among.result
          (leaves_span c.args.net.now c.args.node _ _ span) c.wait_among.ensures.enough;
      least = λ wait h. c.wait_among.ensures.least wait
          (enough_at_span c.args.net.now c.args.volumes.now c.args.node c.first-first.result (length c.out.result.now) wait (omega arith)
          (span_leaves c.args.net.now c.args.node _ _ span) h);
    }
