use Rattle.std.proofs.Common.{◌≡◌, length, ◌∙◌, ap, sym, arith}
use Rattle.std.specs.List.{range_with_len}
use Rattle.definitions.specs.Network.{out_arcs}
use Rattle.loading.proofs.SpanLemmas.{span_leaves, leaves_span}
use Rattle.loading.proofs.ChosenLemmas.{waiting_loads, other_outside}
use Rattle.loading.proofs.FlowLemmas.{walk_grows, wait_grows}
use Rattle.loading.proofs.carrying.load_node.Goals as goal

pub returns-in-Wait-clause-loaded : goal.returns-in-Wait-clause-loaded
returns-in-Wait-clause-loaded c = λ a lt from.
    let span : out_arcs c.args.net.now c.args.node ≡ range_with_len c.first-first.result (length c.out.result.now) =
    c.out.ensures.numbers ∙ ap (λ f. range_with_len f (length c.out.result.now)) (sym c.first-first.ensures.value) in
    let at = leaves_span c.args.net.now c.args.node c.first-first.result (length c.out.result.now) span a lt from in
    waiting_loads c.args.net.now c.args.dest c.args.reached.now c.args.labels.now c.args.node c.args.units c.in-Wait.count c.in-Wait.weight
    c.first-first.result (length c.out.result.now) c.load_wait.new.volumes c.in-Wait.ensures.value span c.load_wait.ensures.loaded a at.0 at.1 from

pub returns-in-Wait-clause-kept : goal.returns-in-Wait-clause-kept
returns-in-Wait-clause-kept c = λ a lt other.
    let span : out_arcs c.args.net.now c.args.node ≡ range_with_len c.first-first.result (length c.out.result.now) =
    c.out.ensures.numbers ∙ ap (λ f. range_with_len f (length c.out.result.now)) (sym c.first-first.ensures.value) in
    c.load_wait.ensures.kept a lt
    (other_outside c.args.net.now c.args.node c.first-first.result (length c.out.result.now) a (span_leaves c.args.net.now c.args.node _ _ span) other)

pub returns-in-Walk-clause-passed_on : goal.returns-in-Walk-clause-passed_on
returns-in-Walk-clause-passed_on c =
    walk_grows c.args.net.now c.args.volumes.now c.args.arrived.now c.pass_on.new.arrived c.in-Walk.arc c.args.units c.requires.number_per_node c.leaves.ensures.there
    (c.requires.empty c.in-Walk.arc c.leaves.ensures.there c.leaves.ensures.tail) c.pass_on.ensures.added (omega arith)

pub returns-in-Wait-clause-passed_on : goal.returns-in-Wait-clause-passed_on
returns-in-Wait-clause-passed_on c =
    let span : out_arcs c.args.net.now c.args.node ≡ range_with_len c.first-first.result (length c.out.result.now) =
    c.out.ensures.numbers ∙ ap (λ f. range_with_len f (length c.out.result.now)) (sym c.first-first.ensures.value) in
    wait_grows c.args.net.now c.args.volumes.now c.load_wait.new.volumes c.args.arrived.now c.pass_on-in-Wait.new.arrived c.args.node c.first-first.result (length c.out.result.now)
    c.requires.number_per_node (omega arith) (span_leaves c.args.net.now c.args.node _ _ span) c.requires.empty c.load_wait.ensures.kept c.pass_on-in-Wait.ensures.added (omega arith)
