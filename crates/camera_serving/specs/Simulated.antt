-- A simulated camera over ports, by what its link, its clock, standard input and the sink told.
use Rattle.std.specs.Prelude.{◌≡◌, ◌⊎◌, ℕ, List, Option}
use Rattle.gev_types.specs.declared.frame.Shape.{Shape}
use Rattle.gev_types.specs.declared.peer.Peer.{Peer}
use Rattle.camera_machine.specs.Camera.{Camera, new_camera, standing_at}
use Rattle.camera_words.specs.declared.simulate_words.SimulateWords.{SimulateWords}
use Rattle.gev_links.specs.Given.{ToldOfThree}
use Rattle.gev_links.specs.Links.{Address, Answer, IsBlank}
use Rattle.gev_links.specs.PortsState.{IsNew}
use Rattle.gev_serve.specs.Wires.{Wire, wire}
use Rattle.camera_serving.specs.declared.ends.TurnsEnd.{TurnsEnd}
use Rattle.camera_serving.specs.declared.ends.SimulateEnd.{SimulateEnd}
use Rattle.camera_serving.specs.declared.ends.SimulateEnd.TheVariants.{LinkFault, NoMemory}
use Rattle.camera_serving.specs.Turning.{EndsTurns, WroteEnd}

-- images of 640 x 480 pixels of one byte each (Mono8)
abbrev pub simulated_shape : Shape
simulated_shape = record { pixel = 0x01080001; size_x = 640; size_y = 480 }

-- the camera, which tells this address as its own and can send the packets of its last four frames again
abbrev pub simulated_camera : ℕ → ℕ → Camera
simulated_camera address seed = standing_at address (new_camera seed simulated_shape 4)

-- the control port of a camera (GigE Vision 2.0, GVCP)
abbrev pub CONTROL_PORT : ℕ
CONTROL_PORT = 3956

abbrev pub control_peer : ℕ → Peer
control_peer address = record { address = address; port = CONTROL_PORT }

-- a link and a clock that were new
pub record AreNew (o : Wire) (told : Option (List ℕ)) : Type 0 where
  pub link : IsNew o.received o.sent o.faults
  pub untold : IsBlank told

-- Nothing was done: memory was wanting for the camera, or the link couldn't be bound.
pub record SimulatesNothing {L C : Type 0} (end : SimulateEnd) (bound bound_after : Option (List Address)) (links links_after : Option (List L))
    (clocks clocks_after : Option (List C)) (written written_after : Option (List ℕ)) : Type 0 where
  pub cause : (end ≡ LinkFault) ⊎ (end ≡ NoMemory)
  pub unbound : bound_after ≡ bound
  pub no_link : links_after ≡ links
  pub no_clock : clocks_after ≡ clocks
  pub unwritten : written_after ≡ written

-- The ports bound a link at the control port of the words' address. From a camera of the words' seed on, which tells that
-- address, its turns were made over that link, which came back with their clock. Then this was written.
pub record SimulatesOver {L C : Type 0} (heard : L → Option (List Answer)) (sent : L → Option (List (Address × List ℕ))) (faults : L → ℕ) (told : C → Option (List ℕ))
    (stands_at : Address → Address → Type 0) (w : SimulateWords) (end : SimulateEnd) (bound bound_after : Option (List Address)) (links links_after : Option (List L))
    (clocks clocks_after : Option (List C)) (left left_after written written_after : Option (List ℕ)) : Type 0 where
  pub address : Address
  pub stands : stands_at (control_peer w.address) address
  pub is_bound : ToldOfThree bound bound_after address
  pub link : L
  pub link_back : ToldOfThree links links_after link
  pub clock : C
  pub clock_back : ToldOfThree clocks clocks_after clock
  pub new_wire : Wire
  pub new_told : Option (List ℕ)
  pub new : AreNew new_wire new_told
  pub camera : Camera
  pub turns : TurnsEnd
  pub ended : EndsTurns turns w.rate w.turns w.with_input left left_after (simulated_camera w.address w.seed) camera new_wire (wire (heard link) (sent link) (faults link)) new_told (told clock)
  pub wrote : WroteEnd turns end written written_after

abbrev pub Simulates : {L C : Type 0} → (L → Option (List Answer)) → (L → Option (List (Address × List ℕ))) → (L → ℕ) → (C → Option (List ℕ)) → (Address → Address → Type 0)
    → SimulateWords → SimulateEnd → Option (List Address) → Option (List Address) → Option (List L) → Option (List L) → Option (List C) → Option (List C)
    → Option (List ℕ) → Option (List ℕ) → Option (List ℕ) → Option (List ℕ) → Type 0
Simulates heard sent faults told stands_at w end bound bound_after links links_after clocks clocks_after left left_after written written_after =
    SimulatesNothing end bound bound_after links links_after clocks clocks_after written written_after
    ⊎ SimulatesOver heard sent faults told stands_at w end bound bound_after links links_after clocks clocks_after left left_after written written_after
