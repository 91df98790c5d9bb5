-- What cells say to their lane.
use Rattle.std.specs.Prelude.{◌≢◌, ⊤, ℕ, List, [], ◌∷◌, map, take}
use Rattle.gev_lanes.specs.declared.cell.Cell.{Cell}
use Rattle.gev_lanes.specs.declared.cell.CellKind.{CellKind}
use Rattle.gev_lanes.specs.declared.cell.CellKind.TheVariants.{Datagram, Tick, End}

-- A datagram came, or none did, or the reader has ended.
pub data Says : Type 0 where
  heard : List ℕ → Says
  told : Says
  ended : Says

pub record Message : Type 0 where
  pub moment : ℕ
  pub says : Says

abbrev pub says_of : CellKind → List ℕ → Says
says_of (Datagram count) bytes = heard (take count bytes)
says_of Tick bytes = told
says_of End bytes = ended

abbrev pub message_of : Cell → Message
message_of c = record { moment = c.moment; says = says_of c.kind c.bytes }

abbrev pub messages : List Cell → List Message
messages cells = map message_of cells

-- none of these says the end
abbrev pub GoOn : List Message → Type 0
GoOn [] = ⊤
GoOn (m ∷ ms) = (m.says ≢ ended) × GoOn ms
