use Rattle.std.proofs.Common.{◌≤◌, arith, length, rules}
use Rattle.feed_reader.proofs.CallListLemmas.{list-at}
use Rattle.feed_reader.proofs.call_lists.list_at.Goals as goal

pub slice_bounds-result-count : goal.slice_bounds-result-count
slice_bounds-result-count c = (list-at c.args.ends.now c.args.calls.now c.args.place _ c.requires.ends c.requires.place c.start_at-start.ensures.value).rises

pub slice_bounds-result-start : goal.slice_bounds-result-start
slice_bounds-result-start c =
    let at = list-at c.args.ends.now c.args.calls.now c.args.place _ c.requires.ends c.requires.place c.start_at-start.ensures.value in
    let rises = at.rises in
    let within = at.within in
    omega arith

pub slice_bounds-result-end : goal.slice_bounds-result-end
slice_bounds-result-end c =
    let at = list-at c.args.ends.now c.args.calls.now c.args.place _ c.requires.ends c.requires.place c.start_at-start.ensures.value in
    let rises = at.rises in
    let within = at.within in
    omega arith

pub returns : goal.returns
returns c = record { value = (list-at c.args.ends.now c.args.calls.now c.args.place _ c.requires.ends c.requires.place c.start_at-start.ensures.value).value }

pub offset_bounds-calls-start : goal.offset_bounds-calls-start
offset_bounds-calls-start c =
    let at = list-at c.args.ends.now c.args.calls.now c.args.place _ c.requires.ends c.requires.place c.start_at-start.ensures.value in
    let rises = at.rises in
    let within = at.within in
    let fits : c.start_at-start.result ≤ length c.args.calls.now = omega arith in
    search rules
