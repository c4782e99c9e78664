use Rattle.std.proofs.Common.{◌++◌, ap, ◌∙◌, string_bytes}
use Rattle.line_report.proofs.TextLemmas.{six_parts}
use Rattle.line_report.specs.Summary.{boarding_lines, city_lines, cost_lines, demand_lines, row_lines, size_lines}
use Rattle.network.specs.Kinds.{is_boarding_kind, is_transfer_kind}
use Rattle.line_report.specs.Volumes.{volume_where}
use Rattle.definitions.specs.Totals.{boarding_stops, longest_wait}
use Rattle.line_report.proofs.summarising.summary_of.Goals as goal

pub returns : goal.returns
returns c =
    let city = c.args.city.now in
    let totals = c.args.totals.now in
    let stops = c.boarding_stops.ensures.value ∙ ap boarding_stops c.net.ensures.value in
    let wait = c.longest_wait.ensures.value ∙ ap longest_wait c.net-2.ensures.value in
    let first = c.boardings.ensures.value ∙ ap (volume_where city is_boarding_kind) c.as_slice.ensures.value in
    let later = c.transfers.ensures.value ∙ ap (volume_where city is_transfer_kind) c.as_slice-2.ensures.value in
    record {
      text = six_parts (city_lines city c.args.counts.now) (row_lines c.args.counts.now) (demand_lines c.args.counts.now)
          (size_lines (boarding_stops city.net) (longest_wait city.net) totals)
          (boarding_lines (volume_where city is_boarding_kind totals.volumes) (volume_where city is_transfer_kind totals.volumes))
          (cost_lines totals)
          c.new-text.ensures.bytes c.in_ok-push_city.ensures.lines c.in_ok-push_rows.ensures.lines c.in_ok-push_demand.ensures.lines
          (c.in_ok-push_sizes.ensures.lines ∙ ap (λ n. string_bytes c.push_demand.new.text ++ size_lines n c.longest_wait.result totals) stops
          ∙ ap (λ w. string_bytes c.push_demand.new.text ++ size_lines (boarding_stops city.net) w totals) wait)
          (c.in_ok-push_boardings.ensures.lines ∙ ap (λ n. string_bytes c.push_sizes.new.text ++ boarding_lines n c.transfers.result) first
          ∙ ap (λ n. string_bytes c.push_sizes.new.text ++ boarding_lines (volume_where city is_boarding_kind totals.volumes) n) later)
          c.in_ok-push_costs.ensures.lines;
    }
