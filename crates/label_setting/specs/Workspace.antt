-- What a workspace shows: the network that it has room for, and what was found last.
use Rattle.std.specs.Prelude.{◌≡◌, ℕ, ◌+◌, ◌≤◌, Bool, false, List, [], length, replicate}
use Rattle.definitions.specs.Network.{NetworkData}
use Rattle.label_setting.specs.declared.settling.Settling.{Settling}
use Rattle.label_setting.specs.Queue.{IsEmpty}
use Rattle.label_setting.specs.Settling.{order_in}

-- room for so many nodes and arcs; the labels that were found last, which nodes reach, and these in order
pub record WorkspaceData : Type 0 where
  pub nodes : ℕ
  pub arcs : ℕ
  pub labels : List ℕ
  pub reached : List Bool
  pub order : List ℕ

-- room for a network in which nothing was found
abbrev pub unused : NetworkData → WorkspaceData
unused net = record { nodes = net.nodes; arcs = length net.arcs; labels = replicate net.nodes 0; reached = replicate net.nodes false; order = [] }

-- there is room for as many nodes and arcs as the network has
pub record IsRoomFor (net : NetworkData) (workspace : WorkspaceData) : Type 0 where
  pub nodes : workspace.nodes ≡ net.nodes
  pub arcs : workspace.arcs ≡ length net.arcs

-- what is shown of a state in room for so many nodes and arcs
abbrev pub shown : ℕ → ℕ → Settling → WorkspaceData
shown nodes arcs state = record { nodes = nodes; arcs = arcs; labels = state.labels.items; reached = state.reached.items; order = order_in state }

-- a state between two destinations: a place for each node and each item, and an empty queue
pub record IsReady (nodes arcs : ℕ) (state : Settling) : Type 0 where
  pub labels : length state.labels.items ≡ nodes
  pub reached : length state.reached.items ≡ nodes
  pub order : length state.order.items ≡ nodes
  pub weights : length state.weights.items ≡ nodes
  pub totals : length state.totals.items ≡ nodes
  pub bounds : length state.bounds.items ≡ nodes
  pub queue : length state.queue ≡ arcs + nodes
  pub empty : IsEmpty state.queue
  pub settled : state.settled ≤ nodes
