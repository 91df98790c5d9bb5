-- Calls that take nothing: the look at the run word, a wait without a buffer, a return and a queueing.
use Rattle.std.proofs.Common.{◌≡◌, ℕ, Bool, true, List, [], ◌++◌, Option, Result, Ok, Err, refl, sym, ap, subst, ◌∙◌, append_assoc}
use Rattle.std.proofs.lemmas.List.{append-nil}
use Rattle.gentl_types.specs.declared.buffer_id.BufferId.{BufferId}
use Rattle.gentl_types.specs.declared.errors.GcError.{GcError}
use Rattle.gentl_types.specs.declared.errors.GcError.TheVariants.{InvalidHandle, ResourceInUse, Abort}
use Rattle.gentl_types.specs.declared.errors.Shown.TheVariants as shown
use Rattle.board_machine.specs.declared.events.Event.{Event}
use Rattle.board_machine.specs.Machine.{Item}
use Rattle.board_machine.specs.Histories.{Run, own_of}
use Rattle.board_machine.specs.Handout.{handed, taken_items}
use Rattle.board_machine.specs.Adding.{entries_of}
use Rattle.board_machine.proofs.Handed.{handed-append, taken_stays}
use Rattle.board_machine.proofs.Adding.{entries_of-append}
use Rattle.board_calls.specs.Calls.{LooksOut, OpensWith, RefusesGrab, Queues}
use Rattle.buffer_words.specs.Passes.{Token}
use Rattle.buffer_words.specs.Loans.{Lent}
use Rattle.buffer_words.specs.Several.{EntersEach}
use Rattle.gentl_events.specs.Turns.{idle_turns, last_turn, TakesMore}
use Rattle.gentl_events.specs.Waits.{Waits}
use Rattle.gev_apply.specs.TakenIds.{TakesIds}
use Rattle.gev_apply.specs.Looks.{GivesBack}
use Rattle.gev_apply.proofs.Ids.{ids_stay, handed_idle}

-- The pass has taken nothing.
pub record TakesNothing (s t : Token) : Type 0 where
  pub takes : TakesMore [] s t
  pub ids : TakesIds [] s t

pub takes_then : (s t u : Token) (xs ys : List Item) → t.number ≡ s.number → TakesMore xs s t → TakesMore ys t u → TakesMore (xs ++ ys) s u
takes_then s t u xs ys number first second =
    subst (λ n. taken_items n u.seen ≡ taken_items n t.seen ++ ys) number second
    ∙ (ap (λ l. l ++ ys) first ∙ append_assoc (taken_items s.number s.seen) xs ys)

pub quiet : (s t : Token) (events : List Event) → EntersEach s events t → Run t.seen → handed (entries_of s.number events) ≡ [] → TakesNothing s t
quiet s t events enters run none_there = record {
  takes = ap (λ l. taken_items s.number l) enters.seen
      ∙ (taken_stays s.seen enters.between s.number (subst (λ l. Run l) enters.seen run) own_none ∙ sym (append-nil (taken_items s.number s.seen)));
  ids = ids_stay s t enters.between enters.seen own_none;
}
  where
    own_none : handed (own_of s.number enters.between) ≡ []
    own_none = ap handed enters.own ∙ none_there

-- ---- what hands nothing over

grab_hands : (n : ℕ) (id : BufferId) (error : GcError) (es : List Event) → RefusesGrab id error es → handed (entries_of n es) ≡ []
grab_hands n id (InvalidHandle (shown.NoHandle m)) es refuses = ap (λ l. handed (entries_of n l)) refuses.2
grab_hands n id (InvalidHandle (shown.Word w)) es refuses = ap (λ l. handed (entries_of n l)) refuses.2
grab_hands n id (InvalidHandle shown.Closed) es refuses = absurd refuses
grab_hands n id (ResourceInUse (shown.Word w)) es refuses = ap (λ l. handed (entries_of n l)) refuses.2
grab_hands n id _ es refuses = absurd refuses

opens_hands : (n : ℕ) (rest es : List Event) → OpensWith rest es → handed (entries_of n rest) ≡ [] → handed (entries_of n es) ≡ []
opens_hands n rest es opens none_there = ap (λ l. handed (entries_of n l)) opens.is ∙ none_there

looks_hands : (n : ℕ) (closed : Bool) (es : List Event) → LooksOut closed es → handed (entries_of n es) ≡ []
looks_hands n closed es looks = ap (λ l. handed (entries_of n l)) looks.is

queue_refused : (n : ℕ) (id : BufferId) (error : GcError) (rest es : List Event) → RefusesGrab id error rest → OpensWith rest es → handed (entries_of n es) ≡ []
queue_refused n id error rest es refuses opens = opens_hands n rest es opens (grab_hands n id error rest refuses)

queue_hands : (n : ℕ) (id : BufferId) (answer : Result (Unit {0}) GcError) (es : List Event) → Queues id answer es → handed (entries_of n es) ≡ []
queue_hands n id (Ok done) es queues = opens_hands n _ es queues.1 refl
queue_hands n id (Err (InvalidHandle shown.Closed)) es queues = looks_hands n true es queues
queue_hands n id (Err error) es queues = queue_refused n id error queues.0 es queues.1 queues.2

pub back_hands : (n : ℕ) (loan : Lent) (queued : Result (Unit {0}) GcError) (es : List Event) → GivesBack loan queued es → handed (entries_of n es) ≡ []
back_hands n loan queued es back = ap (λ l. handed (entries_of n l)) back.is ∙ queue_hands n loan.id queued back.rest back.queues

last_hands : (n : ℕ) (error : GcError) → handed (entries_of n (last_turn (Err error))) ≡ []
last_hands n (InvalidHandle shown.Closed) = refl
last_hands n Abort = refl
last_hands n _ = refl

pub wait_hands : (n : ℕ) (told now : Option (List ℕ)) (error : GcError) (es : List Event) → Waits 0 told now (Err error) es → handed (entries_of n es) ≡ []
wait_hands n told now error es waits =
    ap (λ l. handed (entries_of n l)) waits.is
    ∙ (ap handed (entries_of-append n (idle_turns waits.moments) (last_turn (Err error)))
    ∙ (handed-append (entries_of n (idle_turns waits.moments)) (entries_of n (last_turn (Err error)))
    ∙ (ap (λ xs. xs ++ handed (entries_of n (last_turn (Err error)))) (handed_idle n waits.moments) ∙ last_hands n error)))
