use Rattle.std.proofs.Common.{◌≡◌, ◌*◌, ◌/◌, length, sym, ◌∙◌, ap}
use Rattle.std.specs.List.{range_with_len}
use Rattle.definitions.specs.Network.{weight_of, out_arcs}
use Rattle.definitions.specs.Choice.{is_attractive}
use Rattle.lp_model.specs.Parts.{first_arc}
use Rattle.skims.specs.Parts.{part_along}
use Rattle.skims.specs.Skims.{part_in, terms_of, wait_of_part}
use Rattle.skims.proofs.StepLemmas.{mean_of}
use Rattle.skims.proofs.filling.mean.Goals as goal

pub returns : goal.returns
returns c =
    let span : out_arcs c.args.city.now.net c.args.node ≡ range_with_len c.first-first.result (length c.out.result.now) =
    ap (λ net. out_arcs net c.args.node) (sym c.net-3.ensures.value) ∙ c.out.ensures.numbers
    ∙ ap (λ first. range_with_len first (length c.out.result.now)) (ap (λ net. first_arc net c.args.node) (c.net-3.ensures.value ∙ sym c.net-2.ensures.value) ∙ sym c.first-first.ensures.value) in
    let wait : c.wait_of.result ≡ wait_of_part c.args.city.now.net c.args.part = c.wait_of.ensures.value ∙ ap (λ net. wait_of_part net c.args.part) c.net-4.ensures.value in
    record {
      value = ap (λ amount. amount / c.args.weight) (mean_of (is_attractive c.args.city.now.net c.args.reached.now c.args.labels.now)
          (λ arc. weight_of c.args.city.now.net arc * part_along c.args.city.now.net (terms_of c.args.city.now c.args.part) (part_in c.args.rows.now c.args.part) arc)
          (out_arcs c.args.city.now.net c.args.node) (range_with_len c.first-first.result (length c.out.result.now))
          c.wait_of.result (wait_of_part c.args.city.now.net c.args.part) c.sum_among-sum.result span wait c.sum_among-sum.ensures.value);
    }
