-- The events of turns are of their kinds.
use Rattle.std.proofs.Common.{◌≡◌, ℕ, List, [], ◌∷◌, ◌++◌, Result, Ok, Err, refl, sym, subst}
use Rattle.gentl_types.specs.declared.buffer_id.BufferId.{BufferId}
use Rattle.gentl_types.specs.declared.errors.GcError.{GcError}
use Rattle.gentl_types.specs.declared.errors.GcError.TheVariants.{InvalidHandle, ResourceInUse, Abort}
use Rattle.gentl_types.specs.declared.errors.Shown.TheVariants as shown
use Rattle.board_machine.specs.declared.events.Event.{Event}
use Rattle.board_calls.specs.Calls.{OpensWith, RefusesGrab, Queues}
use Rattle.buffer_words.specs.Loans.{Lent}
use Rattle.buffer_words.specs.Workers.{AreEvents}
use Rattle.gentl_events.specs.Turns.{idle_turns, last_turn}
use Rattle.gev_apply.specs.Looks.{Looked, WaitsNoTime, Follows, LooksOnce, LookEach}
use Rattle.gev_apply.specs.Kinds.{is_turns}

abbrev Are : List Event → Type 0
Are es = AreEvents is_turns es

same_are : (es fs : List Event) → es ≡ fs → Are fs → Are es
same_are es fs is are = subst (λ (gs : List Event). Are gs) (sym is) are

both_are : (es fs : List Event) → Are es → Are fs → Are (es ++ fs)
both_are [] fs first second = second
both_are (e ∷ es) fs first second = (first.0, both_are es fs first.1 second)

idle_are : (moments : List ℕ) → Are (idle_turns moments)
idle_are [] = tt
idle_are (moment ∷ moments) = (refl, (refl, idle_are moments))

last_are : (answer : Result Lent GcError) → Are (last_turn answer)
last_are (Ok loan) = (refl, tt)
last_are (Err (InvalidHandle shown.Closed)) = (refl, tt)
last_are (Err Abort) = (refl, (refl, tt))
last_are (Err _) = tt

wait_are : (moments : List ℕ) (answer : Result Lent GcError) (es : List Event) → WaitsNoTime moments answer es → Are es
wait_are moments answer es waits =
    same_are es (idle_turns waits.moments ++ last_turn answer) waits.is (both_are (idle_turns waits.moments) (last_turn answer) (idle_are waits.moments) (last_are answer))

opens_are : (rest es : List Event) → OpensWith rest es → Are rest → Are es
opens_are rest es opens are = same_are es _ opens.is (refl, are)

grab_are : (id : BufferId) (error : GcError) (es : List Event) → RefusesGrab id error es → Are es
grab_are id (InvalidHandle (shown.NoHandle m)) es refuses = same_are es [] refuses.2 tt
grab_are id (InvalidHandle (shown.Word w)) es refuses = same_are es _ refuses.2 (refl, tt)
grab_are id (InvalidHandle shown.Closed) es refuses = absurd refuses
grab_are id (ResourceInUse (shown.Word w)) es refuses = same_are es _ refuses.2 (refl, tt)
grab_are id _ es refuses = absurd refuses

refused_are : (id : BufferId) (error : GcError) (rest es : List Event) → RefusesGrab id error rest → OpensWith rest es → Are es
refused_are id error rest es refuses opens = opens_are rest es opens (grab_are id error rest refuses)

queue_are : (id : BufferId) (answer : Result (Unit {0}) GcError) (es : List Event) → Queues id answer es → Are es
queue_are id (Ok done) es queues = opens_are _ es queues.1 (refl, (refl, tt))
queue_are id (Err (InvalidHandle shown.Closed)) es looks = same_are es _ looks.is (refl, tt)
queue_are id (Err error) es queues = refused_are id error queues.0 es queues.1 queues.2

after_are : (answer : Result Lent GcError) (queued : Result (Unit {0}) GcError) (es : List Event) → Follows answer queued es → Are es
after_are (Ok loan) queued es back = same_are es _ back.is (refl, queue_are loan.id queued back.rest back.queues)
after_are (Err error) queued es none_there = same_are es [] none_there tt

once_are : (t : Looked) (es : List Event) → LooksOnce t es → Are es
once_are t es once =
    same_are es _ once.is (refl, both_are once.waited once.after (wait_are t.moments t.answer once.waited once.waits) (after_are t.answer t.queued once.after once.follows))

pub turns_are : (made : List Looked) (es : List Event) → LookEach made es → AreEvents is_turns es
turns_are [] es looks = same_are es [] looks tt
turns_are (t ∷ made) es looks = same_are es (looks.first ++ looks.rest) looks.is (both_are looks.first looks.rest (once_are t looks.first looks.looks) (turns_are made looks.rest looks.later))
