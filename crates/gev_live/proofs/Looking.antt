-- How the application's last turn found nothing.
use Rattle.std.proofs.Common.{◌≡◌, ◌⊎◌, ℕ, Bool, true, false, List, [], ◌∷◌, ◌++◌, Option, Some, Result, Ok, Err, refl, sym, ap, subst, ◌∙◌, inl, inr, append_assoc}
use Rattle.std.proofs.lemmas.List.{append-nil}
use Rattle.gentl_types.specs.declared.errors.GcError.{GcError}
use Rattle.gentl_types.specs.declared.errors.GcError.TheVariants.{InvalidHandle, Abort, Timeout}
use Rattle.gentl_types.specs.declared.errors.Shown.TheVariants as shown
use Rattle.board_machine.specs.declared.events.Event.{Event}
use Rattle.board_machine.specs.declared.events.Event.TheVariants.{LookRun, Take, Unpost}
use Rattle.board_machine.specs.declared.events.TakeEnd.TheVariants.{Empty, Closed}
use Rattle.buffer_words.specs.Loans.{Lent}
use Rattle.gentl_events.specs.Turns.{idle_turns, last_turn}
use Rattle.gentl_events.specs.Waits.{AnswersBy, EndsLate, Waits}
use Rattle.gev_apply.specs.Looks.{Looked, Follows, LooksOnce, LookEach}
use Rattle.gev_apply.specs.Applied.{GotNothing, EndsStopped}

-- A wait found the output empty in its last turn, or closed.
pub record FoundEmpty (es : List Event) : Type 0 where
  pub before : List Event
  pub stood : Bool
  pub is : es ≡ before ++ Take Empty ∷ Unpost stood ∷ []

pub record FoundClosed (es : List Event) : Type 0 where
  pub before : List Event
  pub is : es ≡ before ++ Take Closed ∷ []

idle-append : (ms ns : List ℕ) → idle_turns (ms ++ ns) ≡ idle_turns ms ++ idle_turns ns
idle-append [] ns = refl
idle-append (m ∷ ms) ns = ap (λ l. Take Empty ∷ Unpost false ∷ l) (idle-append ms ns)

late_empty : (first last : ℕ) (moments : List ℕ) (es : List Event) → EndsLate 0 first last moments → es ≡ idle_turns moments ++ [] → FoundEmpty es
late_empty first last moments es late is = record {
  before = idle_turns late.before;
  stood = false;
  is = is ∙ (append-nil (idle_turns moments) ∙ (ap idle_turns late.is ∙ idle-append late.before (last ∷ [])));
}

found_by : (first : ℕ) (moments : List ℕ) (error : GcError) (es : List Event) → AnswersBy 0 first moments (Err error)
    → es ≡ idle_turns moments ++ last_turn (Err error) → FoundEmpty es ⊎ FoundClosed es
found_by first moments (InvalidHandle shown.Closed) es answers is = inr (record { before = idle_turns moments; is = is })
found_by first moments Abort es answers is = inl (record { before = idle_turns moments; stood = true; is = is })
found_by first moments (Timeout begun last) es answers is = inl (late_empty first last moments es answers.1 is)
found_by first moments _ es answers is = absurd answers

waited : (told now : Option (List ℕ)) (error : GcError) (es : List Event) → Waits 0 told now (Err error) es → FoundEmpty es ⊎ FoundClosed es
waited told now error es waits = found_by waits.first waits.moments error es waits.answers waits.is

-- ---- the last turn

-- First these turns, and then this one.
pub record LastTurn (xs : List Looked) (t : Looked) (es : List Event) : Type 0 where
  pub first : List Event
  pub last : List Event
  pub looks : LooksOnce t last
  pub is : es ≡ first ++ last

pub last_turn_of : (xs : List Looked) (t : Looked) (es : List Event) → LookEach (xs ++ t ∷ []) es → LastTurn xs t es
last_turn_of [] t es each = record {
  first = [];
  last = each.first;
  looks = each.looks;
  is = each.is ∙ (ap (λ l. each.first ++ l) each.later ∙ append-nil each.first);
}
last_turn_of (x ∷ xs) t es each =
    let rest : LastTurn xs t each.rest = last_turn_of xs t each.rest each.later in
    record {
      first = each.first ++ rest.first;
      last = rest.last;
      looks = rest.looks;
      is = each.is ∙ (ap (λ l. each.first ++ l) rest.is ∙ sym (append_assoc each.first rest.first rest.last));
    }

-- The last turn's look at the run word, and the take that found nothing.
pub record LastLooked (run : ℕ) (es : List Event) : Type 0 where
  pub first : List Event
  pub middle : List Event
  pub found : Event
  pub rest : List Event
  pub is_found : (found ≡ Take Empty) ⊎ (found ≡ Take Closed)
  pub is : es ≡ first ++ LookRun run ∷ (middle ++ found ∷ rest)

looked_last : (run : ℕ) (first last es : List Event) (waits : List Event) → es ≡ first ++ last → last ≡ LookRun run ∷ (waits ++ []) → FoundEmpty waits ⊎ FoundClosed waits
    → LastLooked run es
looked_last run first last es waits is last_is (inl found) = record {
  first = first;
  middle = found.before;
  found = Take Empty;
  rest = Unpost found.stood ∷ [];
  is_found = inl refl;
  is = is ∙ (ap (λ l. first ++ l) last_is ∙ ap (λ l. first ++ LookRun run ∷ l) (append-nil waits ∙ found.is));
}
looked_last run first last es waits is last_is (inr found) = record {
  first = first;
  middle = found.before;
  found = Take Closed;
  rest = [];
  is_found = inr refl;
  is = is ∙ (ap (λ l. first ++ l) last_is ∙ ap (λ l. first ++ LookRun run ∷ l) (append-nil waits ∙ found.is));
}

by_answer : (t : Looked) (answer : Result Lent GcError) (first last es : List Event) → t.answer ≡ answer → GotNothing answer → es ≡ first ++ last → LooksOnce t last → LastLooked t.run es
by_answer t (Ok loan) first last es same nothing is looks = absurd nothing
by_answer t (Err error) first last es same nothing is looks =
    looked_last t.run first last es looks.waited is
    (looks.is ∙ ap (λ l. LookRun t.run ∷ (looks.waited ++ l)) (subst (λ a. Follows a t.queued looks.after) same looks.follows))
    (waited (Some []) (Some t.moments) error looks.waited (subst (λ a. Waits 0 (Some []) (Some t.moments) a looks.waited) same looks.waits))

pub stopped_looked : (made : List Looked) (es : List Event) (stopped : EndsStopped made) → LookEach made es → LastLooked stopped.last.run es
stopped_looked made es stopped each =
    let turn : LastTurn stopped.before stopped.last es = last_turn_of stopped.before stopped.last es (subst (λ l. LookEach l es) stopped.is each) in
    by_answer stopped.last stopped.last.answer turn.first turn.last es refl stopped.over.nothing turn.is turn.looks
