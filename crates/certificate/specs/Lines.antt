-- Reading one line from the front of bytes: its shape first, then its numbers in the order of the line.
-- Here: docs/FORMATS.md.
use Rattle.std.specs.Prelude.{ℕ, ◌+◌, ◌==◌, nat_lt, nat_le, Bool, List, [], ◌∷◌, ◌++◌, if◌then◌else◌, Result, Ok, Err, Option, None, Some, codes, slice_get}
use Rattle.definitions.specs.declared.arc.NetArc.{NetArc}
use Rattle.definitions.specs.declared.limits.TheConstants.{UNIT_LIMIT}
use Rattle.definitions.specs.Decimal.{line_end}
use Rattle.lp_model.specs.declared.fault.NetFault.{NetFault}
use Rattle.lp_model.specs.declared.fault.NetFault.TheVariants as net_fault
use Rattle.lp_model.specs.declared.fault.Limit.{Limit as NetLimit}
use Rattle.lp_model.specs.declared.fault.Limit.TheVariants as net_limit
use Rattle.lp_model.specs.declared.wide_arc.WideArc.{WideArc}
use Rattle.lp_model.specs.Faults.{arc_faults}
use Rattle.lp_model.specs.Wide.{arc_of_wide}
use Rattle.certificate.specs.declared.refused.Limit.{Limit}
use Rattle.certificate.specs.declared.refused.Limit.TheVariants as limit
use Rattle.certificate.specs.declared.fault.Fault.{Fault}
use Rattle.certificate.specs.declared.fault.Fault.TheVariants as fault
use Rattle.certificate.specs.Bytes.{◌>>=◌, literal_at, byte_at, number_at}
use Rattle.certificate.specs.Limits.{greatest}

-- a word, a blank, a number and the end of the line
unfoldable pub word_at : List ℕ → List ℕ → Result (ℕ × List ℕ) Fault
word_at word bytes = do
  blank ← literal_at word bytes
  number ← byte_at 32 blank
  number_at 10 number

-- the same, with a number within a limit
abbrev pub number_line_at : List ℕ → Limit → List ℕ → Result (ℕ × List ℕ) Fault
number_line_at word limit bytes = word_at word bytes >>= λ n. if nat_le n.0 (greatest limit) then Ok n else Err (fault.Range limit n.0)

-- the line of the destination, in a network of so many nodes
abbrev pub destination_line_at : ℕ → List ℕ → Result (ℕ × List ℕ) Fault
destination_line_at nodes bytes =
    word_at (codes "destination") bytes >>= λ n. if nat_lt n.0 nodes then Ok n else Err (fault.Arc (net_fault.NodeOutside None n.0))

-- the line of a node's demand, where the nodes before it have so many units; the destination has none
abbrev pub demand_line_at : Bool → ℕ → List ℕ → Result (ℕ × List ℕ) Fault
demand_line_at is_destination units bytes =
    if is_destination
    then (literal_at (codes "g 0" ++ line_end) bytes >>= λ rest. Ok (0, rest))
    else (word_at (codes "g") bytes >>= λ n. if nat_le (units + n.0) UNIT_LIMIT then Ok n else Err (fault.Range limit.Units (units + n.0)))

-- the weight of an arc and the end of its line
unfoldable pub weight_at : List ℕ → Result (Option ℕ × List ℕ) Fault
weight_at [] = Err (fault.Stop 0)
weight_at (b ∷ bs) = if b == 45 then (byte_at 10 bs >>= λ rest. Ok (None, rest)) else (number_at 10 (b ∷ bs) >>= λ n. Ok (Some n.0, n.1))

-- the numbers of an arc, whatever their size
unfoldable pub wide_arc_at : List ℕ → Result (WideArc × List ℕ) Fault
wide_arc_at bytes = do
  rest ← literal_at (codes "a ") bytes
  tail ← number_at 32 rest
  head ← number_at 32 tail.1
  cost ← number_at 32 head.1
  weight ← weight_at cost.1
  Ok (record { tail = tail.0; head = head.0; cost = cost.0; weight = weight.0 }, weight.1)

-- a limit of networks, as one of texts
abbrev pub limit_of : NetLimit → Limit
limit_of net_limit.Nodes = limit.Nodes
limit_of net_limit.Arcs = limit.Arcs
limit_of net_limit.K = limit.K
limit_of net_limit.Cost = limit.Cost
limit_of net_limit.Weight = limit.Weight

-- a fault of a network, as one of a text
abbrev pub fault_of : NetFault → Fault
fault_of (net_fault.Range limit count) = fault.Range (limit_of limit) count
fault_of (net_fault.NodeOutside arc node) = fault.Arc (net_fault.NodeOutside arc node)
fault_of (net_fault.ZeroCost arc) = fault.Arc (net_fault.ZeroCost arc)
fault_of (net_fault.ZeroWeight arc) = fault.Arc (net_fault.ZeroWeight arc)
fault_of (net_fault.NotGrouped arc) = fault.Arc (net_fault.NotGrouped arc)
fault_of net_fault.NoMemory = fault.NoMemory

-- a value, unless there is a fault
abbrev pub unless : {A : Type 0} → Option NetFault → A → Result A Fault
unless None x = Ok x
unless (Some f) x = Err (fault_of f)

-- the line of arc `number` in a network of so many nodes, after an arc whose tail is `before`
abbrev pub arc_line_at : ℕ → ℕ → ℕ → List ℕ → Result (NetArc × List ℕ) Fault
arc_line_at nodes before number bytes =
    wide_arc_at bytes >>= λ wide. unless (slice_get (arc_faults nodes before number (arc_of_wide wide.0)) 0) (arc_of_wide wide.0, wide.1)
