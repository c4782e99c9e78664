-- The reading of the next line, by its kind.
use Rattle.std.proofs.Common.{◌≡◌, ℕ, ◌==◌, Bool, true, false, cond, List, length, Result, Err, refl}
use Rattle.std.specs.Prelude.{codes, nat_lt}
use Rattle.lp_model.specs.Faults.{tail_before}
use Rattle.certificate.specs.declared.refused.Limit.TheVariants as limit
use Rattle.certificate.specs.declared.fault.Fault.{Fault}
use Rattle.certificate.specs.declared.fault.Fault.TheVariants as fault
use Rattle.certificate.specs.declared.stage.Stage.{Stage}
use Rattle.certificate.specs.declared.stage.Stage.TheVariants as stage
use Rattle.certificate.specs.Bytes.{literal_at}
use Rattle.certificate.specs.Lines.{number_line_at, destination_line_at, demand_line_at, arc_line_at}
use Rattle.certificate.specs.Spelling.{title, last_line}
use Rattle.certificate.specs.NetworkText.{network_title}
use Rattle.certificate.specs.Draft.{DraftData, network_so_far}
use Rattle.certificate.specs.NextLine.{rest_of, row_at, line_of}
use Rattle.certificate.specs.Grammar.{Kind, row_kind, kind_at}

abbrev pub reader_at : Kind → DraftData → List ℕ → Result (List ℕ) Fault
reader_at Kind.Title d bytes = literal_at title bytes
reader_at Kind.NetworkTitle d bytes = literal_at network_title bytes
reader_at Kind.Nodes d bytes = rest_of (number_line_at (codes "nodes") limit.Nodes bytes)
reader_at Kind.Arcs d bytes = rest_of (number_line_at (codes "arcs") limit.Arcs bytes)
reader_at Kind.K d bytes = rest_of (number_line_at (codes "k") limit.K bytes)
reader_at Kind.Destination d bytes = rest_of (destination_line_at d.nodes bytes)
reader_at Kind.Arc d bytes = rest_of (arc_line_at d.nodes (tail_before (network_so_far d) (length d.arcs)) (length d.arcs) bytes)
reader_at Kind.Demand d bytes = rest_of (demand_line_at false d.units bytes)
reader_at Kind.NoDemand d bytes = rest_of (demand_line_at true d.units bytes)
reader_at Kind.Label d bytes = rest_of (number_line_at (codes "u") limit.Label bytes)
reader_at Kind.Volume d bytes = rest_of (number_line_at (codes "v") limit.Volume bytes)
reader_at Kind.Wait d bytes = rest_of (number_line_at (codes "q") limit.Wait bytes)
reader_at Kind.End d bytes = literal_at last_line bytes
reader_at Kind.Nothing d bytes = Err (fault.Stop (length bytes))

choose : (d : DraftData) (bytes : List ℕ) (b : Bool) (x y : Result (List ℕ) Fault) (k l : Kind) → x ≡ reader_at k d bytes → y ≡ reader_at l d bytes → cond b x y ≡ reader_at (cond b k l) d bytes
choose d bytes true x y k l p q = p
choose d bytes false x y k l p q = q

demand_is : (d : DraftData) (bytes : List ℕ) (b : Bool) → rest_of (demand_line_at b d.units bytes) ≡ reader_at (cond b Kind.NoDemand Kind.Demand) d bytes
demand_is d bytes true = refl
demand_is d bytes false = refl

row_is : (d : DraftData) (bytes : List ℕ) → row_at d bytes ≡ reader_at (row_kind d) d bytes
row_is d bytes =
    choose d bytes (nat_lt (length d.arcs) d.arc_count) _ _ _ _ refl
    (choose d bytes (nat_lt (length d.demand) d.nodes) _ _ _ _ (demand_is d bytes (length d.demand == d.destination))
    (choose d bytes (nat_lt (length d.labels) d.nodes) _ _ _ _ refl
    (choose d bytes (nat_lt (length d.volumes) d.arc_count) _ _ _ _ refl
    (choose d bytes (nat_lt (length d.waits) d.nodes) _ _ _ _ refl refl))))

pub line_is : (s : Stage) (d : DraftData) (bytes : List ℕ) → line_of s d bytes ≡ reader_at (kind_at s d) d bytes
line_is stage.Title d bytes = refl
line_is stage.Nodes d bytes = refl
line_is stage.Arcs d bytes = refl
line_is stage.K d bytes = refl
line_is stage.Destination d bytes = refl
line_is stage.Rows d bytes = row_is d bytes
line_is stage.Done d bytes = refl
