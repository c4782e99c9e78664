use Rattle.std.proofs.Common.{◌≡◌, ◌++◌}
use Rattle.std.specs.List.{flat_map, range_with_len}
use Rattle.desk.specs.Generated.{call_of}
use Rattle.desk.proofs.generating.line_files.push_calls.Given as goal

abbrev pub invariant-loop-call : goal.invariant-loop-call
invariant-loop-call l = l.text.items ≡ l.initial.text.items ++ flat_map (call_of l.words l.line) (range_with_len 0 l.call)
