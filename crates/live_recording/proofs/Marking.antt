-- The turns of a reader, with their marks, are a marked run.
use Rattle.std.proofs.Common.{◌≡◌, ℕ, ◌≤◌, Bool, true, false, List, [], ◌∷◌, ◌++◌, map, Option, Some, None, refl, sym, ap, subst, ◌∙◌, arith, append_assoc}
use Rattle.std.specs.Prelude.{is_some}
use Rattle.acquisition_machine.specs.Blocks.{Given}
use Rattle.acquisition_machine.specs.Machine.{Input, datagram, claimed, tick, stop, State, step}
use Rattle.acquisition_machine.specs.Runs.{first_state, after_from, After}
use Rattle.acquisition_machine.specs.TurnLaws.{asked_by}
use Rattle.acquisition_machine.specs.Sound.{IsSound, MayOpen}
use Rattle.acquisition_machine.proofs.Joining.{after_from-append}
use Rattle.acquisition_machine.proofs.Window.{first_sound, run_sound}
use Rattle.acquisition_machine.proofs.Counting.{claims_follow_buffer}
use Rattle.acquisition_machine.specs.Turns.{IsOutcome, IsTold, IsHeard}
use Rattle.gev_record.specs.Script.{live_config}
use Rattle.gev_record.specs.Marks.{block_or_zero, opened_in, IsMarkedRun}
use Rattle.gev_record.specs.Taped.{datagram_of}
use Rattle.gev_record.specs.Writing.{noted}
use Rattle.gev_acq.specs.declared.turn.Turn.{Turn}
use Rattle.gev_acq.specs.declared.heard.Heard.{Heard}
use Rattle.gev_acq.specs.Claims.{claims_in}
use Rattle.gev_acq.specs.Turning.{inputs_if, IsHeardIf}
use Rattle.gev_acq.specs.Turns.{Turned, bytes_in, inputs_before, inputs_of, heard_of}
use Rattle.gev_acq.specs.Acquired.{inputs_in, answers_in, NoteEach, TellsOwn}
use Rattle.gev_acq.specs.History.{AreSized}
use Rattle.gev_live.specs.History.{live_size}
use Rattle.live_recording.specs.Marks.{has_got, marks_in}
use Rattle.live_recording.proofs.Noting.{datagrams_same}

-- ---- a buffer is asked for blocks from 1 on

asked_from_one : (q : List Input) (bytes : List ℕ) (b : ℕ) → asked_by (step live_config (After live_config q) (datagram bytes)).need ≡ Some b → 1 ≤ b
asked_from_one q bytes b asks =
    let sound : IsSound live_config (step live_config (After live_config q) (datagram bytes)).after =
    run_sound live_config (After live_config q) (datagram bytes ∷ []) (omega arith) (run_sound live_config first_state q (omega arith) (first_sound live_config)) in
    let may : MayOpen live_config (step live_config (After live_config q) (datagram bytes)).after b = sound.claim b (claims_follow_buffer live_config (After live_config q) (datagram bytes) ∙ asks) in
    let low = sound.from_one in
    let above = may.above in
    omega (arith, low, above)

-- ---- what a turn told

abbrev a_given : ℕ → ℕ → Option Given
a_given place size = Some (record { place = place; size = size })

outcome : (given : Option Given) → AreSized live_size (given ∷ []) → IsOutcome (is_some given) given
outcome None sized = refl
outcome (Some g) sized = (g.place, ap (a_given g.place) sized.0)

told_none : (bytes : List ℕ) (a : Option ℕ) → false ≡ is_some a → IsTold bytes false a (datagram bytes ∷ [])
told_none bytes None asked = refl
told_none bytes (Some b) asked = absurd (cc)

told_some : (bytes : List ℕ) (given : Option Given) (a : Option ℕ) → true ≡ is_some a → AreSized live_size (given ∷ []) → IsTold bytes (is_some given) a (datagram bytes ∷ claimed given ∷ datagram bytes ∷ [])
told_some bytes given None asked sized = absurd (cc)
told_some bytes given (Some b) asked sized = (given, outcome given sized, refl)

heard_in_turn : (q : List Input) (came : Option (List ℕ)) (given : Option (Option Given)) (r : Heard) → IsHeardIf live_config q came given r → AreSized live_size (claims_in (inputs_if came given))
    → IsHeard live_config (After live_config q) came (has_got given) (inputs_if came given)
heard_in_turn q None given r heard sized = refl
heard_in_turn q (Some bytes) None r heard sized = told_none bytes _ heard.asked
heard_in_turn q (Some bytes) (Some given) r heard sized = told_some bytes given _ heard.asked sized

-- ---- what its mark tells

none_opened : (got : Bool) (a : Option ℕ) → true ≡ is_some a → ((b : ℕ) → a ≡ Some b → 1 ≤ b) → block_or_zero a ≡ 0 → got ≡ false
none_opened got None asked low is = absurd (cc)
none_opened got (Some b) asked low is = let some = low b refl in absurd (omega (arith, some, is))

claims_nothing : (q : List Input) (came : Option (List ℕ)) (given : Option (Option Given)) (r : Heard) → IsHeardIf live_config q came given r → opened_in (After live_config q) came ≡ 0 → has_got given ≡ false
claims_nothing q None given r heard is = ap has_got heard.0
claims_nothing q (Some bytes) None r heard is = refl
claims_nothing q (Some bytes) (Some given) r heard is = none_opened (is_some given) _ heard.asked (λ b asks. asked_from_one q bytes b asks) is

-- ---- all turns

record Sized (came : Option (List ℕ)) (given : Option (Option Given)) (rest : List Input) : Type 0 where
  here : AreSized live_size (claims_in (inputs_if came given))
  later : AreSized live_size (claims_in rest)

sized_parts : (came : Option (List ℕ)) (given : Option (Option Given)) (moment : ℕ) (rest : List Input) → AreSized live_size (claims_in ((inputs_if came given ++ tick moment ∷ []) ++ rest)) → Sized came given rest
sized_parts None given moment rest sized = record { here = tt; later = sized }
sized_parts (Some bytes) None moment rest sized = record { here = tt; later = sized }
sized_parts (Some bytes) (Some None) moment rest sized = record { here = tt; later = sized }
sized_parts (Some bytes) (Some (Some g)) moment rest sized = record { here = (sized.0, tt); later = sized.1 }

-- a turn's own moment ends its inputs
own_ends : (t : Turned) (rest : List Input) → t.told ≡ t.moment → inputs_of t ++ rest ≡ (inputs_before t ++ tick t.moment ∷ []) ++ rest
own_ends t rest own = ap (λ m. (inputs_before t ++ tick m ∷ []) ++ rest) own

turns_marked : (q : List Input) (made : List Turned) (es : List Turn) → TellsOwn made → NoteEach live_config q made es → AreSized live_size (claims_in (inputs_in made))
    → IsMarkedRun (After live_config q) (noted (map bytes_in (answers_in made)) (marks_in q made)) (inputs_in made ++ stop ∷ [])
turns_marked q [] [] own notes sized = refl
turns_marked q [] (e ∷ es) own notes sized = absurd notes
turns_marked q (t ∷ ts) [] own notes sized = absurd notes
turns_marked q (t ∷ ts) (e ∷ es) own notes sized =
    let parts : Sized (bytes_in t.answer) t.given (inputs_in ts) = sized_parts (bytes_in t.answer) t.given t.told (inputs_in ts) sized in (
      inputs_before t,
      inputs_in ts ++ stop ∷ [],
      heard_in_turn q (bytes_in t.answer) t.given (heard_of e) notes.0.heard parts.here,
      append_assoc (inputs_of t) (inputs_in ts) (stop ∷ []) ∙ own_ends t (inputs_in ts ++ stop ∷ []) own.0,
      (refl, λ is. claims_nothing q (bytes_in t.answer) t.given (heard_of e) notes.0.heard is),
      subst (λ (s : State). IsMarkedRun s (noted (map bytes_in (answers_in ts)) (marks_in (q ++ inputs_of t) ts)) (inputs_in ts ++ stop ∷ []))
          (after_from-append live_config first_state q (inputs_of t) ∙ ap (λ m. after_from live_config (After live_config q) (inputs_before t ++ tick m ∷ [])) own.0)
          (turns_marked (q ++ inputs_of t) ts es own.1 notes.1 parts.later),
    )

pub marked_run : (made : List Turned) (es : List Turn) → TellsOwn made → NoteEach live_config [] made es → AreSized live_size (claims_in (inputs_in made))
    → IsMarkedRun first_state (noted (map datagram_of (answers_in made)) (marks_in [] made)) (inputs_in made ++ stop ∷ [])
marked_run made es own notes sized =
    subst (λ ds. IsMarkedRun first_state (noted ds (marks_in [] made)) (inputs_in made ++ stop ∷ [])) (sym (datagrams_same (answers_in made))) (turns_marked [] made es own notes sized)
