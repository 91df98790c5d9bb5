-- What was promised of peers and of a client, of these addresses and of a new one.
use Rattle.std.proofs.Common.{◌≡◌, ℕ, List, Option, subst}
use Rattle.buffer_words.specs.Passes.{Token}
use Rattle.client_machine.specs.Machine.{Client}
use Rattle.board_calls.specs.declared.mode.Mode.{Mode}
use Rattle.gev_links.specs.Links.{Address, Answer}
use Rattle.gev_acq.specs.Turns.{Outside}
use Rattle.gev_control.specs.declared.acq_end.AcqEnd.{AcqEnd}
use Rattle.gev_lanes.specs.declared.parts.ReaderLane.{ReaderLane}
use Rattle.lane_crew.specs.declared.lane_tools.LaneTools.{LaneTools}
use Rattle.lane_crew.specs.Crew.{ReadsByLanes}

abbrev outside : Option (List Answer) → Option (List Answer) → Option (List (Address × List ℕ)) → Option (List ℕ) → Client → Outside
outside received heard sent told client = record { received = received; heard = heard; sent = sent; told = told; client = client }

pub lanes_new : (mode : Mode) (camera to stream from : Address) (received heard : Option (List Answer)) (sent : Option (List (Address × List ℕ))) (told : Option (List ℕ)) (n : Outside) (given new : Client)
    (ss : List ReaderLane) (tools : List LaneTools) (turns : ℕ) (end : AcqEnd) (s t : Token) → camera ≡ to → stream ≡ from → given ≡ new
    → ReadsByLanes mode camera stream (outside received heard sent told given) n ss tools turns end s t → ReadsByLanes mode to from (outside received heard sent told new) n ss tools turns end s t
lanes_new mode camera to stream from received heard sent told n given new ss tools turns end s t peer own client reads =
    subst (λ x. ReadsByLanes mode to from (outside received heard sent told x) n ss tools turns end s t) client
    (subst (λ (a : Address). ReadsByLanes mode to a (outside received heard sent told given) n ss tools turns end s t) own
    (subst (λ (a : Address). ReadsByLanes mode a stream (outside received heard sent told given) n ss tools turns end s t) peer reads))
