-- Why the reader of a live run with lanes ended as it did, by what its links told.
use Rattle.std.specs.Prelude.{◌≡◌, ℕ, List, [], ◌∷◌, ◌++◌}
use Rattle.board_machine.specs.declared.events.Event.{Event}
use Rattle.client_machine.specs.Machine.{Client}
use Rattle.gev_links.specs.Links.{Address}
use Rattle.gev_control.specs.declared.acq_end.AcqEnd.{AcqEnd}
use Rattle.gev_control.specs.declared.acq_end.AcqEnd.TheVariants as how
use Rattle.gev_control.specs.Controlled.{sent_by, control_of}
use Rattle.gev_control.specs.SetupTurns.{set_up}
use Rattle.gev_control.specs.SetsUp.{setup_sent, setup_heards}
use Rattle.gev_control.specs.SetupLaws.{outcomes_of}
use Rattle.gev_acq.specs.Turns.{Outside}
use Rattle.lane_reader.specs.LanesTurns.{ReaderTurn, joined}
use Rattle.lane_reader.specs.Reads.{heards_in, sends_in}
use Rattle.lane_crew.specs.Reader.{ReadsOn}
use Rattle.live_promises.specs.Moves.{Move, sends_all, hears_of, setup_moves, datagrams}
use Rattle.live_promises.specs.ClientCauses.{refused_in, setup_refusals, refusal_of}
use Rattle.live_promises.specs.Causes.{HadNoAnswer}

-- a turn of the reader sends the lanes' requests, receives, and sends what its client has to send
abbrev pub turn_moves : Client → ReaderTurn → List Move
turn_moves s t = sends_all (joined t.asked) ++ (hears_of t.heard ++ sends_all (sent_by t.end (control_of s t.heard t.moment).send))

abbrev pub reader_moves : Client → List ReaderTurn → List Move
reader_moves s [] = []
reader_moves s (t ∷ ts) = turn_moves s t ++ reader_moves (control_of s t.heard t.moment).state ts

-- the refusals that came in turns of the reader: the client told Refused of what came
abbrev pub reader_refusals : Client → List ReaderTurn → List ℕ
reader_refusals s [] = []
reader_refusals s (t ∷ ts) = refused_in (outcomes_of s t.moment t.heard) ++ reader_refusals (control_of s t.heard t.moment).state ts

-- The reader gave up a command only where three sends of it had no answer. And it ended with a refusal exactly where
-- one came, with its status, and no other came.
pub record HasCauses (camera stream : Address) (o n : Outside) (turns : ℕ) (end : AcqEnd) (made : List ReaderTurn) (last : List Event) (on : ReadsOn camera stream o n turns end made last) : Type 0 where
  pub unanswered : (req : ℕ) → end ≡ how.NoAnswer req
      → HadNoAnswer req (setup_moves stream (set_up o.client 0) on.setup ++ reader_moves on.client made)
      (setup_sent stream (set_up o.client 0) on.setup ++ sends_in made) (datagrams (setup_heards on.setup ++ heards_in made))
  pub refused : setup_refusals stream (set_up o.client 0) on.setup ++ reader_refusals on.client made ≡ refusal_of end
