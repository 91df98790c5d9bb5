-- The control part of turns in which the receiver's requests go out in the form of the stream's identifiers, on a link on
-- which a client's commands go too (GigE Vision 2.0 and 1.x, GVCP PACKETRESEND command).
use Rattle.std.specs.Prelude.{◌≡◌, ℕ, List, [], ◌∷◌, ◌++◌, map, Some, None}
use Rattle.client_machine.specs.Machine.{Client}
use Rattle.acquisition_machine.specs.declared.config.AcqConfig.{AcqConfig}
use Rattle.acquisition_machine.specs.Machine.{Input}
use Rattle.gev_links.specs.Links.{Answer, failed}
use Rattle.gev_control.specs.Controlled.{EndsAs, sent_by, control_of}
use Rattle.packet_requests.specs.declared.id_mode.IdMode.{IdMode}
use Rattle.packet_requests.specs.Requests.{control_request}
use Rattle.gev_acq.specs.Turns.{Turned, inputs_of, asks_of, SendsAll}

-- the requests that the moment told brings, as they go out
abbrev pub requests_of : IdMode → AcqConfig → List Input → Turned → List (List ℕ)
requests_of ids c q t = map (control_request ids) (asks_of c q t)

-- What the turn sent, and how it ended, by the machine's requests and the client.
pub record IsControlled (ids : IdMode) (c : AcqConfig) (q : List Input) (s : Client) (t : Turned) : Type 0 where
  pub ends_as : EndsAs t.end (control_of s t.heard t.moment).end
  pub sends : SendsAll t.end (requests_of ids c q t ++ sent_by t.end (control_of s t.heard t.moment).send) t.sent
  -- after a failed receive on the stream nothing is heard and nothing sent
  pub lost : t.answer ≡ failed → (t.heard ≡ None) × (t.sent ≡ [])
  -- the control link is received from only after all requests were sent
  pub after : (answer : Answer) → t.heard ≡ Some answer → (more : List (List ℕ)) × (t.sent ≡ requests_of ids c q t ++ more)

-- The client goes through the control parts of these turns, from the first state to the last.
abbrev pub ControlEach : IdMode → AcqConfig → List Input → Client → List Turned → Client → Type 0
ControlEach ids c q s [] u = u ≡ s
ControlEach ids c q s (t ∷ ts) u = IsControlled ids c q s t × ControlEach ids c (q ++ inputs_of t) (control_of s t.heard t.moment).state ts u
