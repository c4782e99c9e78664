use Rattle.std.proofs.Common.{◌+◌, ◌++◌, ap, ◌∙◌}
use Rattle.desk.specs.GeneratedLines.{call_time, gap_of, stop_at}
use Rattle.desk.specs.Generated.{call_of, call_row}
use Rattle.desk.proofs.RowLemmas.{rows_more}
use Rattle.desk.proofs.generating.line_files.push_calls.Goals as goal

pub loop-call-preserved : goal.loop-call-preserved
loop-call-preserved c =
    let line = c.args.line in
    let call = c.loop-call.call in
    let words = c.args.words.now in
    let text = c.loop-call.text.items in
    rows_more c.args.text.now.items (call_of words line) call c.loop-call.invariant
    (c.in_ok-push_call.ensures.row
    ∙ ap (λ time. text ++ call_row line time c.stop_at-stop.result (call + 1)) (c.time_of.ensures.value ∙ ap (λ gap. call_time gap call) c.requires.gap)
    ∙ ap (λ stop. text ++ call_row line (call_time (gap_of words line) call) stop (call + 1))
    (c.stop_at-stop.ensures.value ∙ ap (λ way. stop_at words.stops way call) c.requires.way))
