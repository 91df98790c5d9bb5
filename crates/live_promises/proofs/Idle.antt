-- A reader without a claim takes nothing: it has no buffer to fill.
use Rattle.std.proofs.Common.{◌≡◌, ℕ, ◌≤◌, false, List, [], ◌∷◌, ◌++◌, refl, sym, ap, subst, ◌∙◌}
use Rattle.board_machine.specs.declared.events.Entry.{Entry}
use Rattle.board_machine.specs.declared.events.Event.{Event}
use Rattle.board_machine.specs.declared.events.Event.TheVariants.{LookRun, Stop}
use Rattle.board_machine.specs.Histories.{own_of}
use Rattle.board_machine.specs.Kinds.{HasNone, is_taken}
use Rattle.acquisition_machine.specs.declared.config.AcqConfig.{AcqConfig}
use Rattle.acquisition_machine.specs.Machine.{State, tick, stop}
use Rattle.acquisition_machine.specs.Runs.{first_state, after_from, After}
use Rattle.acquisition_machine.specs.Sound.{IsSound}
use Rattle.acquisition_machine.specs.TurnLaws.{held}
use Rattle.acquisition_machine.proofs.Joining.{after_from-append}
use Rattle.acquisition_machine.proofs.Window.{step_sound, blocks_are_in_order}
use Rattle.board_calls.specs.declared.mode.Mode.{Mode}
use Rattle.gev_acq.specs.Turns.{Turned, inputs_of}
use Rattle.gev_acq.specs.Acquired.{inputs_in, ServesTurns}
use Rattle.gev_live.specs.Acquirers.{is_claim, acquires}
use Rattle.gev_live.proofs.Untaken.{Lacks, lacks_front, lacks_rest, lacks_both, lacks_as, lacks_entries, entries_lack, IsIdle, serves_idle, own_unclaimed}
use Rattle.camera_reader.specs.declared.reader_end.ReaderEnd.{ReaderEnd}
use Rattle.camera_reader.specs.declared.reader_end.ReaderEnd.TheVariants.{Stopped, Silent, Ended}
use Rattle.gev_receive.specs.Reader.{LastLook, inputs_from}
use Rattle.gev_receive.specs.Frames.{CameraReading}
use Rattle.live_promises.proofs.Reading.{begun}

-- the turns of a receiver that holds no buffer, without a claim
record AreIdle (c : AcqConfig) (s : State) (made : List Turned) (es : List Event) : Type 0 where
  untaken : Lacks is_taken es
  sound : IsSound c (after_from c s (inputs_in made))
  empty : held (after_from c s (inputs_in made)).opens ≡ []

turn_then : (mode : Mode) (c : AcqConfig) (s : State) (t : Turned) (ts : List Turned) (es front rest : List Event) → es ≡ LookRun 1 ∷ (front ++ rest) → IsIdle c s (inputs_of t) front
    → AreIdle c (after_from c s (inputs_of t)) ts rest → AreIdle c s (t ∷ ts) es
turn_then mode c s t ts es front rest parts first later = record {
  untaken = lacks_as is_taken es (LookRun 1 ∷ (front ++ rest)) parts (refl, lacks_both is_taken front rest (lacks_as is_taken front [] first.nothing tt) later.untaken);
  sound = subst (IsSound c) (sym joined) later.sound;
  empty = ap (λ (u : State). held u.opens) joined ∙ later.empty;
}
  where
    joined : after_from c s (inputs_of t ++ inputs_in ts) ≡ after_from c (after_from c s (inputs_of t)) (inputs_in ts)
    joined = after_from-append c s (inputs_of t) (inputs_in ts)

turns_idle : (mode : Mode) (c : AcqConfig) (s : State) (made : List Turned) (es : List Event) → 1 ≤ c.window → IsSound c s → held s.opens ≡ [] → ServesTurns mode c s made es → Lacks is_claim es
    → AreIdle c s made es
turns_idle mode c s [] es some sound empty serves none = record { untaken = lacks_as is_taken es [] serves tt; sound = sound; empty = empty }
turns_idle mode c s (t ∷ ts) es some sound empty (front, rest, served, later_served, parts) none =
    let whole : Lacks is_claim (front ++ rest) = (subst (Lacks is_claim) parts none).1 in
    let first : IsIdle c s (inputs_of t) front = serves_idle mode c s (inputs_of t) front some sound empty served (lacks_front is_claim front rest whole) in
    turn_then mode c s t ts es front rest parts first
    (turns_idle mode c (after_from c s (inputs_of t)) ts rest some first.sound first.empty later_served (lacks_rest is_claim front rest whole))

last_untaken : (end : ReaderEnd) (es : List Event) → LastLook end es → Lacks is_taken es
last_untaken Stopped es look = lacks_as is_taken es (LookRun look.0 ∷ []) look.2 (refl, tt)
last_untaken Silent es none = lacks_as is_taken es [] none tt
last_untaken (Ended cause) es none = lacks_as is_taken es [] none tt

pub part_untaken : (mode : Mode) (c : AcqConfig) (n : ℕ) (end : ReaderEnd) (begin : ℕ) (made : List Turned) (h : List Entry) → 1 ≤ c.window → CameraReading mode c n end begin made h → acquires h n ≡ false
    → HasNone is_taken (own_of n h)
part_untaken mode c n end begin made h some reading free =
    subst (HasNone is_taken) (sym reading.own)
    (entries_lack is_taken n (reading.turned ++ (reading.last ++ (reading.drained ++ Stop false reading.answer ∷ [])))
    (lacks_both is_taken reading.turned (reading.last ++ (reading.drained ++ Stop false reading.answer ∷ [])) turns.untaken
    (lacks_both is_taken reading.last (reading.drained ++ Stop false reading.answer ∷ []) (last_untaken end reading.last reading.looks)
    (lacks_both is_taken reading.drained (Stop false reading.answer ∷ []) (lacks_as is_taken reading.drained [] drained.nothing tt) (refl, tt)))))
  where
    unclaimed : Lacks is_claim (reading.turned ++ (reading.last ++ (reading.drained ++ Stop false reading.answer ∷ [])))
    unclaimed = lacks_entries is_claim n _ (subst (HasNone is_claim) reading.own (own_unclaimed n h free))

    turns : AreIdle c (begun c begin) made reading.turned
    turns = turns_idle mode c (begun c begin) made reading.turned some (step_sound c first_state (tick begin) some (blocks_are_in_order c [] some)) refl reading.turns
        (lacks_front is_claim reading.turned _ unclaimed)

    drained : IsIdle c (After c (inputs_from begin made)) (stop ∷ []) reading.drained
    drained =
        serves_idle mode c (After c (inputs_from begin made)) (stop ∷ []) reading.drained some turns.sound turns.empty reading.drains
        (lacks_front is_claim reading.drained (Stop false reading.answer ∷ []) (lacks_rest is_claim reading.last _ (lacks_rest is_claim reading.turned _ unclaimed)))
