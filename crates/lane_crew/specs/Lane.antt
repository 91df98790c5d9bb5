-- A lane's run, from its first cell to the end.
use Rattle.std.specs.Prelude.{◌≡◌, ⊤, ℕ, List, [], ◌∷◌, ◌++◌, map}
use Rattle.acquisition_machine.specs.declared.config.AcqConfig.{AcqConfig}
use Rattle.acquisition_machine.specs.Machine.{Input, stop}
use Rattle.buffer_words.specs.Passes.{Token}
use Rattle.gev_lanes.specs.LineEnds.{GiverEnd, gave, took}
use Rattle.board_calls.specs.declared.mode.Mode.{Mode}
use Rattle.gev_acq.specs.Claims.{ServesOn}
use Rattle.gev_lanes.specs.declared.cell.Cell.{Cell}
use Rattle.gev_lanes.specs.Sides.{LaneEnd}
use Rattle.gev_lanes.specs.Messages.{Message, ended, message_of, messages, GoOn}
use Rattle.gev_lanes.specs.Acts.{Puts, with_requests}
use Rattle.lane_crew.specs.Cells.{CellServed, came_in, inputs_of, inputs_in, asks_of, IsClaimed}

abbrev pub messages_in : List CellServed → List Message
messages_in xs = map (λ (x : CellServed). x.message) xs

-- In each cell a claim was made exactly where the machine asked for a buffer.
abbrev pub ClaimEach : AcqConfig → List Input → List CellServed → Type 0
ClaimEach c q [] = ⊤
ClaimEach c q (x ∷ xs) = IsClaimed c q (came_in x.message.says) x.given × ClaimEach c (q ++ inputs_of x) xs

-- These requests were given in order, each unless the queue was full.
abbrev pub PutsAll : List (List ℕ) → GiverEnd (List ℕ) → GiverEnd (List ℕ) → Type 0
PutsAll [] s u = u ≡ s
PutsAll (r ∷ rs) s u = (t : GiverEnd (List ℕ)) × Puts r s t × PutsAll rs t u

-- So were the requests that each cell brought.
abbrev pub PutsEach : AcqConfig → List Input → List CellServed → GiverEnd (List ℕ) → GiverEnd (List ℕ) → Type 0
PutsEach c q [] s u = u ≡ s
PutsEach c q (x ∷ xs) s u = (t : GiverEnd (List ℕ)) × PutsAll (asks_of c q x) s t × PutsEach c (q ++ inputs_of x) xs t u

-- These requests were given, and nothing else was done.
pub record PutsRequests (requests : List (List ℕ)) (e f : LaneEnd) : Type 0 where
  pub after : GiverEnd (List ℕ)
  pub puts : PutsAll requests e.hands.requests after
  pub is : f ≡ with_requests e after

-- The lane took cells up to the end, and served each: the inputs of its machine are those of the cells, in order, and a
-- stop at the end. It gave back the cells that it took, and gave the machine's requests.
pub record ServesCells (mode : Mode) (c : AcqConfig) (Old New : List Input → Type 0) (e f : LaneEnd) (s t : Token) : Type 0 where
  pub served : List CellServed
  pub cells : List Cell
  pub last : Cell
  pub are : messages_in served ≡ messages cells
  pub go_on : GoOn (messages cells)
  pub ends : (message_of last).says ≡ ended
  pub number : f.number ≡ e.number
  pub taken : f.hands.cells ≡ took e.hands.cells (cells ++ last ∷ [])
  pub given_back : f.hands.free ≡ gave e.hands.free (cells ++ last ∷ [])
  pub serves : ServesOn mode c Old New (inputs_in served ++ stop ∷ []) s t
  pub claims : (q : List Input) → Old q → ClaimEach c q served
  pub puts : (q : List Input) → Old q → PutsEach c q served e.hands.requests f.hands.requests
