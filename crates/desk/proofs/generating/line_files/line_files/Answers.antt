use Rattle.std.proofs.Common.{◌++◌, sym, ◌∙◌, codes}
use Rattle.definitions.specs.Decimal.{line_end}
use Rattle.desk.specs.GeneratedLines.{headway_of}
use Rattle.desk.specs.Generated.{band_row, calls_text}
use Rattle.desk.proofs.DrawLemmas.{no_draw}
use Rattle.desk.proofs.RowLemmas.{rows_more}
use Rattle.desk.proofs.generating.line_files.line_files.Goals as goal

pub loop-line-init : goal.loop-line-init
loop-line-init c = record {
  stop_times = c.in_ok-stop_times.ensures.row;
  frequencies = c.in_ok-frequencies.ensures.row;
  at = c.requires.at ∙ sym (no_draw _);
}

pub loop-line-preserved : goal.loop-line-preserved
loop-line-preserved c = record {
  stop_times = rows_more (codes "trip_id,arrival_time,departure_time,stop_id,stop_sequence" ++ line_end) (calls_text c.args.words.now) c.loop-line.line
      c.loop-line.invariant.stop_times c.in_ok-push_line.ensures.stop_times;
  frequencies = rows_more (codes "trip_id,start_time,end_time,headway_secs" ++ line_end) (λ line. band_row line (headway_of c.args.words.now line)) c.loop-line.line
      c.loop-line.invariant.frequencies c.in_ok-push_line.ensures.frequencies;
  at = c.in_ok-push_line.ensures.state;
}
