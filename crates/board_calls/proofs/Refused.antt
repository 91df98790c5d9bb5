-- Refusals, as the answers of the calls that they end.
use Rattle.std.proofs.Common.{◌≢◌, false, List, ◌++◌, Err, ap}
use Rattle.gentl_types.specs.declared.buffer_id.BufferId.{BufferId}
use Rattle.gentl_types.specs.declared.errors.GcError.{GcError}
use Rattle.gentl_types.specs.declared.errors.GcError.TheVariants.{InvalidHandle, ResourceInUse}
use Rattle.gentl_types.specs.declared.errors.Shown.TheVariants as shown
use Rattle.board_machine.specs.declared.events.Event.{Event}
use Rattle.board_calls.specs.Calls.{LooksOut, OpensWith, RefusesGrab, Queues, Revokes, busy_of, closed_refusal}

-- a look that finds no close mark, then these events
pub opens : (es fs : List Event) → LooksOut false es → OpensWith fs (es ++ fs)
opens es fs look = record { output = look.output; is = ap (λ gs. gs ++ fs) look.is }

pub queue_refused : (id : BufferId) (error : GcError) (rest es : List Event) → RefusesGrab id error rest → OpensWith rest es → Queues id (Err error) es
queue_refused id (InvalidHandle shown.Closed) rest es refused opened = absurd refused
queue_refused id (InvalidHandle (shown.NoHandle n)) rest es refused opened = (rest, refused, opened)
queue_refused id (InvalidHandle (shown.Word w)) rest es refused opened = (rest, refused, opened)
queue_refused id (ResourceInUse (shown.Word w)) rest es refused opened = (rest, refused, opened)
queue_refused id error rest es refused opened = absurd refused

pub revoke_refused : (T : Type 0) (id : BufferId) (error : GcError) (es : List Event) → RefusesGrab id error es → Revokes {T = T} id (Err (busy_of error)) es
revoke_refused T id (InvalidHandle (shown.NoHandle n)) es refused = refused
revoke_refused T id (InvalidHandle (shown.Word w)) es refused = refused
revoke_refused T id (ResourceInUse (shown.Word w)) es refused = refused
revoke_refused T id error es refused = absurd refused

-- a refused grab doesn't tell of a close mark
pub refused_open : (id : BufferId) (error : GcError) (es : List Event) → RefusesGrab id error es → error ≢ closed_refusal
refused_open id (InvalidHandle shown.Closed) es refused e = absurd refused
refused_open id (InvalidHandle (shown.NoHandle n)) es refused e = cc
refused_open id (InvalidHandle (shown.Word w)) es refused e = cc
refused_open id (ResourceInUse (shown.Word w)) es refused e = cc
refused_open id error es refused e = absurd refused
