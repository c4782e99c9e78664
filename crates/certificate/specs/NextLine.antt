-- The line that comes next in a text, after the lines so far.
use Rattle.std.specs.Prelude.{ℕ, ◌==◌, nat_lt, List, length, codes, if◌then◌else◌, Result, Ok, Err}
use Rattle.lp_model.specs.Faults.{tail_before}
use Rattle.certificate.specs.declared.stage.Stage.{Stage}
use Rattle.certificate.specs.declared.stage.Stage.TheVariants as stage
use Rattle.certificate.specs.declared.refused.Limit.TheVariants as limit
use Rattle.certificate.specs.declared.fault.Fault.{Fault}
use Rattle.certificate.specs.declared.fault.Fault.TheVariants as fault
use Rattle.certificate.specs.Bytes.{◌>>=◌, literal_at}
use Rattle.certificate.specs.Lines.{number_line_at, destination_line_at, demand_line_at, arc_line_at}
use Rattle.certificate.specs.Spelling.{title, last_line}
use Rattle.certificate.specs.Draft.{DraftData, network_so_far}

-- the bytes after what was read
abbrev pub rest_of : {A : Type 0} → Result (A × List ℕ) Fault → Result (List ℕ) Fault
rest_of read = read >>= λ x. Ok x.1

-- the next row
abbrev pub row_at : DraftData → List ℕ → Result (List ℕ) Fault
row_at d bytes =
    if nat_lt (length d.arcs) d.arc_count then rest_of (arc_line_at d.nodes (tail_before (network_so_far d) (length d.arcs)) (length d.arcs) bytes)
    else if nat_lt (length d.demand) d.nodes then rest_of (demand_line_at (length d.demand == d.destination) d.units bytes)
    else if nat_lt (length d.labels) d.nodes then rest_of (number_line_at (codes "u") limit.Label bytes)
    else if nat_lt (length d.volumes) d.arc_count then rest_of (number_line_at (codes "v") limit.Volume bytes)
    else if nat_lt (length d.waits) d.nodes then rest_of (number_line_at (codes "q") limit.Wait bytes)
    else literal_at last_line bytes

-- the line of a stage
abbrev pub line_of : Stage → DraftData → List ℕ → Result (List ℕ) Fault
line_of stage.Title d bytes = literal_at title bytes
line_of stage.Nodes d bytes = rest_of (number_line_at (codes "nodes") limit.Nodes bytes)
line_of stage.Arcs d bytes = rest_of (number_line_at (codes "arcs") limit.Arcs bytes)
line_of stage.K d bytes = rest_of (number_line_at (codes "k") limit.K bytes)
line_of stage.Destination d bytes = rest_of (destination_line_at d.nodes bytes)
line_of stage.Rows d bytes = row_at d bytes
line_of stage.Done d bytes = Err (fault.Stop (length bytes))

-- the next line: the bytes after it, or what stops it
abbrev pub line_at : DraftData → List ℕ → Result (List ℕ) Fault
line_at d bytes = line_of d.stage d bytes
