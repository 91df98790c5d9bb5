-- One turn of the application.
use Rattle.std.proofs.Common.{◌≡◌, ◌≢◌, ◌⊎◌, ℕ, List, [], ◌∷◌, ◌++◌, Option, Result, Ok, Err, refl, sym, ap, subst, ◌∙◌, inl, inr}
use Rattle.std.proofs.lemmas.List.{append-nil}
use Rattle.std.proofs.lemmas.Bool.{cases_eq}
use Rattle.gentl_types.specs.declared.buffer_id.BufferId.{BufferId}
use Rattle.gentl_types.specs.declared.errors.GcError.{GcError}
use Rattle.board_machine.specs.declared.events.Event.{Event}
use Rattle.board_machine.specs.declared.events.Event.TheVariants.{LookRun, Lay}
use Rattle.board_machine.specs.Histories.{Run}
use Rattle.board_machine.specs.Machine.{item}
use Rattle.board_calls.specs.Calls.{Returns, Queues}
use Rattle.buffer_words.specs.Passes.{Token, gone, lifted, slot_at, Enters, SamePlace, SameHands, Has}
use Rattle.buffer_words.specs.Loans.{Lent, IsLoanOf}
use Rattle.buffer_words.specs.Witness.{HoldsSlots}
use Rattle.buffer_words.specs.Several.{EntersOf, EntersThen}
use Rattle.buffer_words.proofs.Several.{each_one, each_first, of_then, then_of}
use Rattle.buffer_words.proofs.Partings.{has_then}
use Rattle.buffer_words.proofs.Retries.{hands_then}
use Rattle.gentl_events.specs.Turns.{lent_items, TakesMore, HasLoan}
use Rattle.gev_links.specs.Moments.{TellsEach}
use Rattle.gentl_events.specs.Waits.{Waits}
use Rattle.gev_report.specs.ReplayLines.{take_line}
use Rattle.gev_apply.specs.declared.look_end.LookEnd.TheVariants.{Handed, Idle, Over}
use Rattle.gev_apply.specs.Looks.{Looked, WaitsNoTime, GivesBack}
use Rattle.gev_apply.specs.Applied.{Looks, IsGivenBack, LooksWell, LooksShort}
use Rattle.gev_apply.proofs.Ids.{ids_then, ids_taken}
use Rattle.gev_apply.proofs.Quiet.{TakesNothing, takes_then, quiet, back_hands, wait_hands}
use Rattle.gev_apply.proofs.Turns.{look_each_one}

-- the wait by the moments that it read alone
by_moments : (told now : Option (List ℕ)) (answer : Result Lent GcError) (es : List Event) → (w : Waits 0 told now answer es) → WaitsNoTime (w.first ∷ w.moments) answer es
by_moments told now answer es w = record { first = w.first; moments = w.moments; tells = refl; answers = w.answers; is = w.is }

looks_at : (s t : Token) (run : ℕ) → Enters s (LookRun run) t → TakesNothing s t
looks_at s t run look = quiet s t (LookRun run ∷ []) (each_one s t (LookRun run) look refl) look.run refl

-- ---- a buffer is given back

pub given_back : (s t u : Token) (loan : Lent) (id : BufferId) (queued : Result (Unit {0}) GcError) → id ≡ loan.id → EntersOf s (Returns loan.id.place) t → EntersOf t (Queues id queued) u → IsGivenBack loan s u
given_back s t u loan id queued is first second = record {
  queued = queued;
  enters = of_then s t u (Returns loan.id.place) (Queues loan.id queued) (GivesBack loan queued)
      (λ es fs returns queues. record { rest = fs; queues = queues; is = ap (λ l. l ++ fs) returns })
      first (subst (λ i. EntersOf t (Queues i queued) u) is second);
}

-- ---- a turn without a buffer

abbrev pub turn_without : ℕ → List ℕ → GcError → Looked
turn_without run moments error = record { run = run; moments = moments; answer = Err error; queued = Ok tt }

-- What such a turn is: some moments were read.
pub record LooksIdly (told now : Option (List ℕ)) (run : ℕ) (error : GcError) (s t : Token) : Type 0 where
  pub moments : List ℕ
  pub looks : Looks told now (turn_without run moments error ∷ []) s t

pub idles : (told now : Option (List ℕ)) (run : ℕ) (error : GcError) (s t u : Token) → Enters s (LookRun run) t → EntersOf t (Waits 0 told now (Err error)) u → TakesMore [] t u → Run u.seen → LooksIdly told now run error s u
idles told now run error s t u look wait contents seen_runs = record {
  moments = moments;
  looks = record {
    events = LookRun run ∷ wait.events;
    enters = each_first s t u (LookRun run) wait.events look refl wait.enters;
    looks = look_each_one (turn_without run moments error) (LookRun run ∷ wait.events) (record {
      waited = wait.events;
      after = [];
      waits = by_moments told now (Err error) wait.events wait.kind;
      follows = refl;
      is = ap (λ l. LookRun run ∷ l) (sym (append-nil wait.events));
    });
    takes = takes_then s t u [] [] look.number (looks_at s t run look).takes contents;
    ids = ids_then s t u [] [] look.number (looks_at s t run look).ids waited.ids;
    tells = subst (λ l. TellsEach told now l) (sym (append-nil moments)) wait.kind.tells;
  };
}
  where
    moments : List ℕ
    moments = wait.kind.first ∷ wait.kind.moments

    waited : TakesNothing t u
    waited = quiet t u wait.events wait.enters seen_runs (wait_hands t.number told now error wait.events wait.kind)

-- ---- a turn with a buffer

abbrev pub turn_with : ℕ → List ℕ → Lent → Result (Unit {0}) GcError → Looked
turn_with run moments loan queued = record { run = run; moments = moments; answer = Ok loan; queued = queued }

pub record LooksLucky (told now : Option (List ℕ)) (run : ℕ) (loan : Lent) (s t : Token) : Type 0 where
  pub moments : List ℕ
  pub queued : Result (Unit {0}) GcError
  pub looks : Looks told now (turn_with run moments loan queued ∷ []) s t

-- the events of the wait and of what follows it
pub record BothOf (told now : Option (List ℕ)) (loan : Lent) (queued : Result (Unit {0}) GcError) (es : List Event) : Type 0 where
  pub waited : List Event
  pub after : List Event
  pub waits : Waits 0 told now (Ok loan) waited
  pub follows : GivesBack loan queued after
  pub is : es ≡ waited ++ after

both_of : (told now : Option (List ℕ)) (loan : Lent) (t u v : Token) → EntersThen t (Waits 0 told now (Ok loan)) u → Run u.seen → (back : IsGivenBack loan u v) → EntersOf t (BothOf told now loan back.queued) v
both_of told now loan t u v wait seen_runs back =
    then_of t u v (Waits 0 told now (Ok loan)) (GivesBack loan back.queued) (BothOf told now loan back.queued)
    (λ es fs waits follows. record { waited = es; after = fs; waits = waits; follows = follows; is = refl })
    (λ none_there. let e : [] ≡ Lay loan.id.place ∷ none_there.rest = none_there.is in cc)
    wait seen_runs back.enters

pub gets : (told now : Option (List ℕ)) (run : ℕ) (loan : Lent) (s t u v : Token) → Enters s (LookRun run) t → EntersThen t (Waits 0 told now (Ok loan)) u → TakesMore (lent_items (Ok loan)) t u → HoldsSlots u → IsLoanOf u loan → Run u.seen
    → IsGivenBack loan u v → LooksLucky told now run loan s v
gets told now run loan s t u v look wait contents holds is seen_runs back = record {
  moments = moments;
  queued = back.queued;
  looks = record {
    events = LookRun run ∷ both.events;
    enters = each_first s t v (LookRun run) both.events look refl both.enters;
    looks = look_each_one (turn_with run moments loan back.queued) (LookRun run ∷ both.events) (record {
      waited = both.kind.waited;
      after = both.kind.after;
      waits = by_moments told now (Ok loan) both.kind.waited both.kind.waits;
      follows = both.kind.follows;
      is = ap (λ l. LookRun run ∷ l) both.kind.is;
    });
    takes = takes_then s t v [] (item loan.id.place loan.filling ∷ []) look.number (looks_at s t run look).takes
        (takes_then t u v (item loan.id.place loan.filling ∷ []) [] number contents given_back.takes);
    ids = ids_then s t v [] (loan.id ∷ []) look.number (looks_at s t run look).ids
        (ids_then t u v (loan.id ∷ []) [] number (ids_taken told now t u loan wait holds is) given_back.ids);
    tells = subst (λ l. TellsEach told now l) (sym (append-nil moments)) both.kind.waits.tells;
  };
}
  where
    both : EntersOf t (BothOf told now loan back.queued) v
    both = both_of told now loan t u v wait seen_runs back

    moments : List ℕ
    moments = both.kind.waits.first ∷ both.kind.waits.moments

    number : u.number ≡ t.number
    number = wait.grows.number ∙ wait.enters.enters.number

    given_back : TakesNothing u v
    given_back = quiet u v back.enters.events back.enters.enters (back.enters.enters.run seen_runs) (back_hands u.number loan back.queued back.enters.events back.enters.kind)

-- ---- how the turn ends

pub hands_out : (told now : Option (List ℕ)) (old new : List ℕ) (run : ℕ) (loan : Lent) (s t : Token) → LooksLucky told now run loan s t → new ≡ old ++ take_line loan.id loan.filling → LooksWell told now old new Handed s t
hands_out told now old new run loan s t lucky line = record {
  turn = turn_with run lucky.moments loan lucky.queued;
  looks = lucky.looks;
  ends = (loan, refl);
  lines = line ∙ ap (λ l. old ++ l) (sym (append-nil (take_line loan.id loan.filling)));
}

pub falls_short : (told now : Option (List ℕ)) (old new : List ℕ) (run : ℕ) (loan : Lent) (s t : Token) → LooksLucky told now run loan s t → new ≡ old → LooksShort told now old new s t
falls_short told now old new run loan s t lucky unchanged = record {
  turn = turn_with run lucky.moments loan lucky.queued;
  looks = lucky.looks;
  loan = loan;
  got = refl;
  unchanged = unchanged;
}

pub finds_none : (told now : Option (List ℕ)) (old : List ℕ) (run : ℕ) (error : GcError) (s t : Token) → LooksIdly told now run error s t → run ≡ 1 → LooksWell told now old old Idle s t
finds_none told now old run error s t idle running = record {
  turn = turn_without run idle.moments error;
  looks = idle.looks;
  ends = (tt, running);
  lines = sym (append-nil old);
}

pub finds_end : (told now : Option (List ℕ)) (old : List ℕ) (run : ℕ) (error : GcError) (s t : Token) → LooksIdly told now run error s t → run ≢ 1 → LooksWell told now old old Over s t
finds_end told now old run error s t idle stopped = record {
  turn = turn_without run idle.moments error;
  looks = idle.looks;
  ends = record { stopped = stopped; nothing = tt };
  lines = sym (append-nil old);
}

-- ---- the hands

-- a place that the pass didn't have, and doesn't have again
same_again : (i : ℕ) (s t : Token) → slot_at s i ≡ gone → Has i gone s t → SameHands s t
same_again i s t new has j = go (cases_eq j i)
  where
    go : (j ≡ i) ⊎ (j ≢ i) → SamePlace j s t
    go (inl e) = subst (λ k. SamePlace k s t) (sym e) (record { slot = has.here ∙ sym new; buffer = λ there. absurd (there new) })
    go (inr apart) = has.others j apart

pub hands_same : (s t u v : Token) (loan : Lent) → SameHands s t → HasLoan loan t u → Has loan.id.place gone u v → SameHands s v
hands_same s t u v loan look has back =
    hands_then s t v look (same_again loan.id.place t v has.new (has_then loan.id.place lifted gone t u v has.hands back))
