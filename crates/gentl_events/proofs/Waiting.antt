-- A wait, turn by turn.
use Rattle.std.proofs.Common.{◌≡◌, ℕ, ◌-◌, ◌<◌, ◌≤◌, List, [], ◌∷◌, ◌++◌, Option, Some, None, Result, Ok, Err, refl, sym, ap, subst, ◌∙◌}
use Rattle.std.specs.Prelude.{IfOk, OnErr}
use Rattle.std.proofs.lemmas.List.{append-nil}
use Rattle.gentl_types.specs.declared.errors.GcError.{GcError}
use Rattle.gentl_types.specs.declared.errors.GcError.TheVariants.{InvalidHandle, Timeout, Abort}
use Rattle.gentl_types.specs.declared.errors.Shown.TheVariants as shown
use Rattle.board_machine.specs.declared.events.Event.{Event}
use Rattle.gev_links.specs.Moments.{Tells, TellsEach}
use Rattle.buffer_words.specs.Passes.{Token, lifted, SameHands}
use Rattle.buffer_words.specs.Loans.{Lent}
use Rattle.buffer_words.specs.Several.{EntersEach, EntersOf, EntersThen}
use Rattle.buffer_words.proofs.Several.{each_none, each_then}
use Rattle.buffer_words.proofs.Retries.{grows_self, hands_self, hands_then, hands_then_has}
use Rattle.gentl_events.specs.Readings.{AreEarly}
use Rattle.gentl_events.specs.Turns.{idle_turn, idle_turns, last_turn, lent_items, TakesMore, HasLoan, TurnsWith, EndsWait, Turns}
use Rattle.gentl_events.specs.Waits.{AnswersBy, Waits}
use Rattle.gev_links.proofs.Growing.{tells_first, tells_more}
use Rattle.gentl_events.proofs.Readings.{early_more}
use Rattle.gentl_events.proofs.Taking.{takes_then}

-- The wait goes on: each turn was idle, and no moment was late.
pub record Waiting (timeout : ℕ) (told now : Option (List ℕ)) (first : ℕ) (s t : Token) : Type 0 where
  pub moments : List ℕ
  pub tells : TellsEach told now (first ∷ moments)
  pub early : AreEarly timeout first moments
  pub enters : EntersEach s (idle_turns moments) t
  pub hands : SameHands s t
  pub takes : TakesMore [] s t

-- What the wait ensures of its answer.
pub record Waited (timeout : ℕ) (told now : Option (List ℕ)) (answer : Result Lent GcError) (s t : Token) : Type 0 where
  pub entries : EntersThen s (Waits timeout told now answer) t
  pub refused : OnErr answer (EntersOf s (Waits timeout told now answer) t)
  pub loan : IfOk answer (λ loan. HasLoan loan s t)
  pub hands : OnErr answer (SameHands s t)
  pub contents : TakesMore (lent_items answer) s t

pub waiting_first : (timeout : ℕ) (told now : Option (List ℕ)) (first : ℕ) (s : Token) → Tells told now first → Waiting timeout told now first s s
waiting_first timeout told now first s tells = record {
  moments = [];
  tells = tells_first told now first tells;
  early = tt;
  enters = each_none s;
  hands = hands_self s;
  takes = sym (append-nil _);
}

idle_more : (moments : List ℕ) (moment : ℕ) → idle_turns (moments ++ moment ∷ []) ≡ idle_turns moments ++ idle_turn
idle_more [] moment = refl
idle_more (m ∷ moments) moment = ap (λ l. idle_turn ++ l) (idle_more moments moment)

-- one more idle turn
idles : (timeout : ℕ) (told now : Option (List ℕ)) (first moment : ℕ) (s t u : Token) → (w : Waiting timeout told now first s t) → TurnsWith idle_turn t u → EntersEach s (idle_turns w.moments ++ idle_turn) u
idles timeout told now first moment s t u w turn = each_then s t u (idle_turns w.moments) idle_turn w.enters turn.enters

pub waits_on : (timeout : ℕ) (told now new : Option (List ℕ)) (first moment : ℕ) (s t u : Token) → Waiting timeout told now first s t → Turns None t u → Tells now new moment → moment - first < timeout
    → Waiting timeout told new first s u
waits_on timeout told now new first moment s t u w turn tells early = record {
  moments = w.moments ++ moment ∷ [];
  tells = tells_more told now new (first ∷ w.moments) moment w.tells tells;
  early = early_more timeout first w.moments moment w.early early;
  enters = subst (λ es. EntersEach s es u) (sym (idle_more w.moments moment)) (idles timeout told now first moment s t u w turn);
  hands = hands_then s t u w.hands turn.hands;
  takes = takes_then s t u [] [] w.enters.number w.takes turn.takes;
}

-- the wait is over
over : (timeout : ℕ) (told now : Option (List ℕ)) (first : ℕ) (moments : List ℕ) (error : GcError) (events : List Event) (s t : Token) → TellsEach told now (first ∷ moments) → AnswersBy timeout first moments (Err error)
    → events ≡ idle_turns moments ++ last_turn (Err error) → EntersEach s events t → SameHands s t → TakesMore [] s t → Waited timeout told now (Err error) s t
over timeout told now first moments error events s t tells answers is enters hands takes = record {
  entries = record { middle = t; enters = ends; grows = grows_self t };
  refused = ends;
  loan = tt;
  hands = hands;
  contents = takes;
}
  where
    ends : EntersOf s (Waits timeout told now (Err error)) t
    ends = record { events = events; kind = record { first = first; moments = moments; tells = tells; answers = answers; is = is }; enters = enters }

pub waits_timeout : (timeout : ℕ) (told now new : Option (List ℕ)) (first last : ℕ) (s t u : Token) → Waiting timeout told now first s t → Turns None t u → Tells now new last → timeout ≤ last - first
    → Waited timeout told new (Err (Timeout first last)) s u
waits_timeout timeout told now new first last s t u w turn tells late =
    over timeout told new first (w.moments ++ last ∷ []) (Timeout first last) (idle_turns w.moments ++ idle_turn) s u
    (tells_more told now new (first ∷ w.moments) last w.tells tells)
    (refl, record { before = w.moments; is = refl; early = w.early; late = late })
    (sym (idle_more w.moments last) ∙ sym (append-nil (idle_turns (w.moments ++ last ∷ []))))
    (idles timeout told now first last s t u w turn) (hands_then s t u w.hands turn.hands) (takes_then s t u [] [] w.enters.number w.takes turn.takes)

answers_early : (timeout first : ℕ) (moments : List ℕ) (error : GcError) → EndsWait error → AreEarly timeout first moments → AnswersBy timeout first moments (Err error)
answers_early timeout first moments (InvalidHandle shown.Closed) ends early = early
answers_early timeout first moments Abort ends early = early
answers_early timeout first moments _ ends early = absurd ends

pub waits_answer : (timeout : ℕ) (told now : Option (List ℕ)) (first : ℕ) (s t u : Token) (answer : Result Lent GcError) → Waiting timeout told now first s t → Turns (Some answer) t u → Waited timeout told now answer s u
waits_answer timeout told now first s t u (Ok loan) w turn = record {
  entries = record {
    middle = turn.middle;
    enters = record {
      events = idle_turns w.moments ++ last_turn (Ok loan);
      kind = record { first = first; moments = w.moments; tells = w.tells; answers = w.early; is = refl };
      enters = each_then s t turn.middle (idle_turns w.moments) (last_turn (Ok loan)) w.enters turn.enters;
    };
    grows = turn.grows;
  };
  refused = tt;
  loan = record {
    is = turn.has.is;
    new = sym (w.hands loan.id.place).slot ∙ turn.has.new;
    hands = hands_then_has loan.id.place lifted s t u w.hands turn.has.hands;
  };
  hands = tt;
  contents = takes_then s t u [] (lent_items (Ok loan)) w.enters.number w.takes turn.takes;
}
waits_answer timeout told now first s t u (Err error) w turn =
    over timeout told now first w.moments error (idle_turns w.moments ++ last_turn (Err error)) s u w.tells
    (answers_early timeout first w.moments error turn.0 w.early) refl (each_then s t u (idle_turns w.moments) (last_turn (Err error)) w.enters turn.1.enters)
    (hands_then s t u w.hands turn.1.hands) (takes_then s t u [] [] w.enters.number w.takes turn.1.takes)
