-- Which refusals came in the turns, by how they ended.
use Rattle.std.proofs.Common.{◌≡◌, ℕ, List, [], ◌∷◌, ◌++◌, refl, ap, sym, ◌∙◌}
use Rattle.std.proofs.lemmas.List.{append-nil}
use Rattle.client_machine.specs.Machine.{Client}
use Rattle.gev_links.specs.Links.{Address}
use Rattle.gev_control.specs.declared.turn_end.TurnEnd.{TurnEnd}
use Rattle.gev_control.specs.declared.turn_end.TurnEnd.TheVariants as ends
use Rattle.gev_control.specs.declared.acq_end.AcqEnd.{AcqEnd}
use Rattle.gev_control.specs.declared.acq_end.AcqEnd.TheVariants as how
use Rattle.gev_control.specs.Controlled.{control_of}
use Rattle.gev_control.specs.SetupTurns.{set_up}
use Rattle.board_machine.specs.declared.events.Event.{Event as Act}
use Rattle.gev_acq.specs.Turns.{Outside}
use Rattle.lane_reader.specs.LanesTurns.{ReaderTurn}
use Rattle.lane_reader.specs.Reads.{ControlEach, AllGoOn, EndsIn, EndsBy}
use Rattle.lane_crew.specs.Reader.{EndsAfter, ReadsOn}
use Rattle.live_promises.specs.ClientCauses.{setup_refusals, refusal_of}
use Rattle.live_promises.specs.LanesCauses.{reader_refusals}
use Rattle.live_promises.proofs.Refusals.{set_refused, turn_refusal, control_refuses, end_refuses}

-- ---- the reader

abbrev turns_refusals : List ReaderTurn → List ℕ
turns_refusals [] = []
turns_refusals (t ∷ ts) = turn_refusal t.end ++ turns_refusals ts

reader_refused : (s u : Client) (ts : List ReaderTurn) → ControlEach s ts u → reader_refusals s ts ≡ turns_refusals ts
reader_refused s u [] each = refl
reader_refused s u (t ∷ ts) each =
    ap (λ l. l ++ reader_refusals (control_of s t.heard t.moment).state ts)
    (control_refuses s t.heard t.moment ∙ end_refuses t.end (control_of s t.heard t.moment).end each.0.ends_as)
    ∙ ap (λ l. turn_refusal t.end ++ l) (reader_refused (control_of s t.heard t.moment).state u ts each.1)

all_on : (ts : List ReaderTurn) → AllGoOn ts → turns_refusals ts ≡ []
all_on [] on = refl
all_on (t ∷ ts) on = ap (λ x. turn_refusal x ++ turns_refusals ts) on.0 ∙ all_on ts on.1

then_one : (ts : List ReaderTurn) (t : ReaderTurn) → AllGoOn ts → turns_refusals (ts ++ t ∷ []) ≡ turn_refusal t.end
then_one [] t on = append-nil (turn_refusal t.end)
then_one (x ∷ ts) t on = ap (λ e. turn_refusal e ++ turns_refusals (ts ++ t ∷ [])) on.0 ∙ then_one ts t on.1

ends_in : (end : TurnEnd) (made : List ReaderTurn) → EndsIn end made → turns_refusals made ≡ turn_refusal end
ends_in end made ended = ap turns_refusals ended.is ∙ (then_one ended.before ended.last ended.on ∙ ap turn_refusal ended.ended)

ends_by_turns : (end : AcqEnd) (turns : ℕ) (made : List ReaderTurn) → EndsBy end turns made → turns_refusals made ≡ refusal_of end
ends_by_turns how.Stopped turns made by = all_on made by.1
ends_by_turns how.Spent turns made by = all_on made by.1
ends_by_turns how.Fault turns made by = ends_in ends.Fault made by.1
ends_by_turns (how.NoAnswer req) turns made by = ends_in (ends.NoAnswer req) made by.1
ends_by_turns (how.Refused status) turns made by = ends_in (ends.Refused status) made by.1

-- ---- the run

none_made : (setup_end end : AcqEnd) (made : List ReaderTurn) → end ≡ setup_end → made ≡ [] → refusal_of setup_end ++ turns_refusals made ≡ refusal_of end
none_made setup_end end made same nothing_made =
    ap (λ l. refusal_of setup_end ++ turns_refusals l) nothing_made ∙ (append-nil (refusal_of setup_end) ∙ ap refusal_of (sym same))

by_setup_end : (setup_end end : AcqEnd) (turns : ℕ) (made : List ReaderTurn) → EndsAfter setup_end end turns made
    → refusal_of setup_end ++ turns_refusals made ≡ refusal_of end
by_setup_end how.Stopped end turns made after = ends_by_turns end turns made after
by_setup_end how.Spent end turns made after = none_made how.Spent end made after.0 after.1
by_setup_end how.Fault end turns made after = none_made how.Fault end made after.0 after.1
by_setup_end (how.NoAnswer req) end turns made after = none_made (how.NoAnswer req) end made after.0 after.1
by_setup_end (how.Refused status) end turns made after = none_made (how.Refused status) end made after.0 after.1

pub refused_read : (camera stream : Address) (o n : Outside) (turns : ℕ) (end : AcqEnd) (made : List ReaderTurn) (last : List Act) (on : ReadsOn camera stream o n turns end made last)
    → setup_refusals stream (set_up o.client 0) on.setup ++ reader_refusals on.client made ≡ refusal_of end
refused_read camera stream o n turns end made last on =
    ap (λ l. l ++ reader_refusals on.client made) (set_refused stream o.client on.client on.setup on.setup_end on.set_up_by)
    ∙ (ap (λ l. refusal_of on.setup_end ++ l) (reader_refused on.client n.client made on.controlled)
    ∙ by_setup_end on.setup_end end turns made on.ends)
