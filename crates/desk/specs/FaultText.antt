-- The fault text of each cause: one line, in parts that are joined. Here: docs/FORMATS.md.
use Rattle.std.specs.Prelude.{ℕ, List, [], ◌∷◌, codes, Option, None, Some}
use Rattle.std.specs.List.{concat}
use Rattle.definitions.specs.Decimal.{numeral, line_end}
use Rattle.lp_model.specs.declared.fault.NetFault.{NetFault}
use Rattle.lp_model.specs.declared.fault.NetFault.TheVariants as net
use Rattle.lp_model.specs.declared.fault.Limit.{Limit as NetLimit}
use Rattle.lp_model.specs.declared.fault.Limit.TheVariants as net_limit
use Rattle.certificate.specs.declared.refused.Refused.{Refused as RefusedText}
use Rattle.certificate.specs.declared.refused.Refused.TheVariants as refused
use Rattle.certificate.specs.declared.refused.Limit.{Limit as TextLimit}
use Rattle.certificate.specs.declared.refused.Limit.TheVariants as text_limit
use Rattle.desk.specs.declared.status.Limit.{Limit}
use Rattle.desk.specs.declared.status.Limit.TheVariants as limit
use Rattle.desk.specs.declared.status.UsageFault.{UsageFault}
use Rattle.desk.specs.declared.status.UsageFault.TheVariants.{Words, Date, Window, NoFile}
use Rattle.desk.specs.declared.status.Unreached.{Unreached}
use Rattle.desk.specs.declared.status.Unreached.TheVariants.{Node, Pair}
use Rattle.desk.specs.declared.status.Cause.{Cause}
use Rattle.desk.specs.declared.status.Cause.TheVariants.{Done, Usage, Feed, Demand, Scenario, Range, ReadFault, WriteFault, NoMemory, Refused, Unreachable}
use Rattle.desk.specs.PlacedText.{shown, feed_text, demand_text, scenario_text}

-- an arc's number, or `-` without one
abbrev pub arc_text : Option ℕ → List ℕ
arc_text None = codes "-"
arc_text (Some arc) = numeral arc

-- the names of limits
abbrev pub limit_name : Limit → List ℕ
limit_name limit.File = codes "file"
limit_name limit.Files = codes "files"
limit_name limit.Zones = codes "zones"
limit_name limit.Units = codes "units"
limit_name limit.Weight = codes "weight"
limit_name limit.Cost = codes "cost"
limit_name limit.Nodes = codes "nodes"
limit_name limit.Arcs = codes "arcs"
limit_name limit.Document = codes "document"

abbrev pub text_limit_name : TextLimit → List ℕ
text_limit_name text_limit.Nodes = codes "nodes"
text_limit_name text_limit.Arcs = codes "arcs"
text_limit_name text_limit.K = codes "k"
text_limit_name text_limit.Cost = codes "cost"
text_limit_name text_limit.Weight = codes "weight"
text_limit_name text_limit.Units = codes "units"
text_limit_name text_limit.Label = codes "label"
text_limit_name text_limit.Volume = codes "volume"
text_limit_name text_limit.Wait = codes "wait"

abbrev pub net_limit_name : NetLimit → List ℕ
net_limit_name net_limit.Nodes = codes "nodes"
net_limit_name net_limit.Arcs = codes "arcs"
net_limit_name net_limit.K = codes "k"
net_limit_name net_limit.Cost = codes "cost"
net_limit_name net_limit.Weight = codes "weight"

-- the fault text of a rule of networks that a text breaks
abbrev pub net_fault_text : NetFault → List (List ℕ)
net_fault_text (net.Range limit count) = codes "error 12: refused range " ∷ net_limit_name limit ∷ codes " " ∷ numeral count ∷ line_end ∷ []
net_fault_text (net.NodeOutside arc node) = codes "error 12: refused node-outside arc " ∷ arc_text arc ∷ codes " node " ∷ numeral node ∷ line_end ∷ []
net_fault_text (net.ZeroCost arc) = codes "error 12: refused zero-cost arc " ∷ numeral arc ∷ line_end ∷ []
net_fault_text (net.ZeroWeight arc) = codes "error 12: refused zero-weight arc " ∷ numeral arc ∷ line_end ∷ []
net_fault_text (net.NotGrouped arc) = codes "error 12: refused not-grouped arc " ∷ numeral arc ∷ line_end ∷ []
net_fault_text net.NoMemory = codes "error 12: refused no memory" ∷ line_end ∷ []

-- the fault text of a refused text
abbrev pub refused_text : RefusedText → List (List ℕ)
refused_text (refused.Grammar at) = codes "error 12: refused grammar at " ∷ numeral at ∷ line_end ∷ []
refused_text (refused.NotConserved node due sent) =
    codes "error 12: refused not-conserved node " ∷ numeral node ∷ codes " due " ∷ numeral due ∷ codes " sent " ∷ numeral sent ∷ line_end ∷ []
refused_text (refused.WaitShort arc left right) =
    codes "error 12: refused wait-short arc " ∷ numeral arc ∷ codes " left " ∷ numeral left ∷ codes " right " ∷ numeral right ∷ line_end ∷ []
refused_text (refused.DualBroken node arc left right) =
    codes "error 12: refused dual-broken node " ∷ numeral node ∷ codes " arc " ∷ arc_text arc ∷ codes " left " ∷ numeral left ∷ codes " right " ∷ numeral right ∷ line_end ∷ []
refused_text (refused.Range limit count) = codes "error 12: refused range " ∷ text_limit_name limit ∷ codes " " ∷ numeral count ∷ line_end ∷ []
refused_text (refused.Arc fault) = net_fault_text fault
refused_text refused.NoMemory = codes "error 12: refused no memory" ∷ line_end ∷ []

-- the fault text of what is wrong with the words
abbrev pub usage_text : UsageFault → List (List ℕ)
usage_text Words = codes "error 2: usage words" ∷ line_end ∷ []
usage_text Date = codes "error 2: usage date" ∷ line_end ∷ []
usage_text Window = codes "error 2: usage window" ∷ line_end ∷ []
usage_text (NoFile path) = codes "error 2: usage no file " ∷ shown path ∷ line_end ∷ []

-- the fault text of demand that does not reach
abbrev pub unreached_text : Unreached → List (List ℕ)
unreached_text (Pair origin destination) = codes "error 6: unreachable " ∷ shown origin ∷ codes " " ∷ shown destination ∷ line_end ∷ []
unreached_text (Node node) = codes "error 6: unreachable node " ∷ numeral node ∷ line_end ∷ []

-- the fault text of a cause, none where the run is done
abbrev pub cause_text : Cause → List (List ℕ)
cause_text Done = []
cause_text (Usage fault) = usage_text fault
cause_text (Feed fault) = feed_text fault
cause_text (Demand fault) = demand_text fault
cause_text (Scenario fault) = scenario_text fault
cause_text (Unreachable unreached) = unreached_text unreached
cause_text (Range limit count) = codes "error 7: range " ∷ limit_name limit ∷ codes " " ∷ numeral count ∷ line_end ∷ []
cause_text ReadFault = codes "error 8: read fault" ∷ line_end ∷ []
cause_text (WriteFault sent) = codes "error 9: write fault " ∷ numeral sent ∷ line_end ∷ []
cause_text NoMemory = codes "error 11: no memory" ∷ line_end ∷ []
cause_text (Refused fault) = refused_text fault

abbrev pub fault_text : Cause → List ℕ
fault_text cause = concat (cause_text cause)
