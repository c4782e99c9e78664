-- The rows of a certificate, and the room for them.
use Rattle.std.specs.Prelude.{◌≡◌, ℕ, ◌≤◌, [], vec_capacity}
use Rattle.certificate.specs.declared.rows.Rows.{Rows}

-- there is no row of any kind
pub record HasNoRow (rows : Rows) : Type 0 where
  pub arcs : rows.arcs.items ≡ []
  pub demand : rows.demand.items ≡ []
  pub labels : rows.labels.items ≡ []
  pub volumes : rows.volumes.items ≡ []
  pub waits : rows.waits.items ≡ []

-- there is room for all rows of so many nodes and arcs
pub record HasRoomFor (node_count arc_count : ℕ) (rows : Rows) : Type 0 where
  pub arcs : arc_count ≤ vec_capacity rows.arcs
  pub demand : node_count ≤ vec_capacity rows.demand
  pub labels : node_count ≤ vec_capacity rows.labels
  pub volumes : arc_count ≤ vec_capacity rows.volumes
  pub waits : node_count ≤ vec_capacity rows.waits
