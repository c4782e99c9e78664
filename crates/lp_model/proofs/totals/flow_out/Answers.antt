use Rattle.std.proofs.Common.{◌≡◌, ◌+◌, ◌-◌, ◌≤◌, length, take, drop, arith, ap, sym, ◌∙◌}
use Rattle.std.specs.List.{sum, sum_by, slice_index, range_with_len}
use Rattle.definitions.proofs.Spans.{sum_by-span}
use Rattle.lp_model.proofs.totals.flow_out.Goals as goal

pub returns-clause-value : goal.returns-clause-value
returns-clause-value c =
    let count : c.first-first.result + length c.out.result.now - c.first-first.result ≡ length c.out.result.now = omega arith in
    let within : c.first-first.result + length c.out.result.now ≤ length c.args.v.now = omega arith in
    c.sum_of.ensures.value
    ∙ ap (λ n. sum (take n (drop c.first-first.result c.args.v.now))) count
    ∙ sym (sum_by-span c.args.v.now c.first-first.result (length c.out.result.now) within)
    ∙ ap (λ first. sum_by (slice_index c.args.v.now) (range_with_len first (length c.out.result.now))) c.first-first.ensures.value
    ∙ ap (sum_by (slice_index c.args.v.now)) (sym c.out.ensures.numbers)
