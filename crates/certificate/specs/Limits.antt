-- The greatest values of a text. Here: docs/FORMATS.md.
use Rattle.std.specs.Prelude.{ℕ}
use Rattle.definitions.specs.declared.limits.TheConstants.{NODE_LIMIT, ARC_LIMIT, K_LIMIT, COST_LIMIT, WEIGHT_LIMIT, UNIT_LIMIT, LABEL_LIMIT, VOLUME_LIMIT, WAIT_LIMIT}
use Rattle.certificate.specs.declared.refused.Limit.{Limit}
use Rattle.certificate.specs.declared.refused.Limit.TheVariants as limit

-- the greatest value within a limit
abbrev pub greatest : Limit → ℕ
greatest limit.Nodes = NODE_LIMIT
greatest limit.Arcs = ARC_LIMIT
greatest limit.K = K_LIMIT
greatest limit.Cost = COST_LIMIT
greatest limit.Weight = WEIGHT_LIMIT
greatest limit.Units = UNIT_LIMIT
greatest limit.Label = LABEL_LIMIT
greatest limit.Volume = VOLUME_LIMIT
greatest limit.Wait = WAIT_LIMIT
