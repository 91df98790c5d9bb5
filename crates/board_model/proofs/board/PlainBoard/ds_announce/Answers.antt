use Rattle.std.proofs.Common.{◌≡◌, ◌≢◌, ◌↔◌, ℕ, ◌≤◌, ◌<◌, Bool, true, false, set, Some, Ok, Err, Result, length, Fits, w32, refl, sym, ap, ◌∙◌, arith}
use Rattle.std.proofs.lemmas.List.{length-replicate}
use Rattle.gev_types.specs.Limits.{max_buffer_size}
use Rattle.gev_types.specs.Filling.{Filling}
use Rattle.gentl_types.specs.declared.buffer_id.BufferId.{BufferId}
use Rattle.gentl_types.specs.declared.errors.GcError.{GcError}
use Rattle.gentl_types.specs.declared.errors.GcError.TheVariants.{InvalidParameter, OutOfMemory, ResourceExhausted}
use Rattle.board_machine.specs.declared.events.Event.TheVariants.{Lay}
use Rattle.board_machine.proofs.Adding.{adds_step}
use Rattle.board_calls.specs.Calls.{closed_refusal, IsSize}
use Rattle.board_model.proofs.CallsAnnounce.{announce_done, announce_full, announce_odd, announce_short, is_fresh}
use Rattle.board_model.proofs.board.PlainBoard.ds_announce.Goals.{then-size-eq0-via-then-size-eq0, then-size-eq0-via-else-size-eq0+then-size-from}
use Rattle.board_model.proofs.board.PlainBoard.ds_announce.Goals as goal

is_size : (size most : ℕ) → size ≢ 0 → size ≤ most → most ≡ max_buffer_size → IsSize size
is_size size most some within is = (omega arith, omega arith)

fits_word : (size most : ℕ) → size ≤ most → most ≡ max_buffer_size → Fits w32 size
fits_word size most within is = omega arith

none_fits : (size : ℕ) → 1 ≤ size → size ≡ 0 → ⊥
none_fits size some none = omega arith

past_fits : (size most : ℕ) → size ≤ max_buffer_size → most < size → most ≡ max_buffer_size → ⊥
past_fits size most within past is = omega arith

-- the answer isn't that the stream was closed
abbrev IsOther : Result BufferId GcError → Type 0
IsOther r = ¬ (r ≡ Err closed_refusal)

odd_other : (size : ℕ) → IsOther (Err (InvalidParameter size))
odd_other size e = cc

short_other : IsOther (Err OutOfMemory)
short_other e = cc

done_other : (id : BufferId) → IsOther (Ok id)
done_other id e = cc

full_other : IsOther (Err ResourceExhausted)
full_other e = cc

stays_open : (r : Result BufferId GcError) (closed : Bool) → IsOther r → false ≡ closed → (r ≡ Err closed_refusal) ↔ (closed ≡ true)
stays_open r closed other mark = (λ e. absurd (other e), λ e. absurd (apart (mark ∙ e))) where
  apart : false ≡ true → ⊥
  apart e = cc

pub returns-then-look_closed-clause-entries : goal.returns-then-look_closed-clause-entries
returns-then-look_closed-clause-entries c = c.if-look_closed.ensures.entries

pub returns-then-look_closed-clause-closed : goal.returns-then-look_closed-clause-closed
returns-then-look_closed-clause-closed c = (λ e. sym c.if-look_closed.ensures.mark, λ e. refl)

pub returns-then-size-eq0-clause-entries : goal.returns-then-size-eq0-clause-entries
returns-then-size-eq0-clause-entries c =
    let unfit : ¬ IsSize c.args.size = elim c.then-size-eq0.branch [
      | then-size-eq0-via-then-size-eq0 w ↦ λ fits. none_fits c.args.size fits.0 w.if-size-eq0.true
      | then-size-eq0-via-else-size-eq0+then-size-from w ↦ λ fits. past_fits c.args.size w.from.result fits.1 w.if-size-from.true w.from.ensures
    ] in
    announce_odd _ _ _ c.args.size unfit c.if-look_closed.ensures.entries

pub returns-then-size-eq0-clause-closed : goal.returns-then-size-eq0-clause-closed
returns-then-size-eq0-clause-closed c = stays_open _ _ (odd_other c.args.size) c.if-look_closed.ensures.mark

pub overflow_cast-size : goal.overflow_cast-size
overflow_cast-size c = fits_word c.args.size c.from.result c.if-size-from.false c.from.ensures

pub new-requires-clause-some : goal.new-requires-clause-some
new-requires-clause-some c = (is_size c.args.size c.from.result c.if-size-eq0.false c.if-size-from.false c.from.ensures).0

pub new-requires-clause-in_limits : goal.new-requires-clause-in_limits
new-requires-clause-in_limits c = (is_size c.args.size c.from.result c.if-size-eq0.false c.if-size-from.false c.from.ensures).1

pub returns-in-Err-clause-entries : goal.returns-in-Err-clause-entries
returns-in-Err-clause-entries c = announce_short _ _ _ c.args.size (is_size c.args.size c.from.result c.if-size-eq0.false c.if-size-from.false c.from.ensures) c.if-look_closed.ensures.entries

pub returns-in-Err-clause-closed : goal.returns-in-Err-clause-closed
returns-in-Err-clause-closed c = stays_open _ _ short_other c.if-look_closed.ensures.mark

pub lay-requires-clause-in_hand : goal.lay-requires-clause-in_hand
lay-requires-clause-in_hand c = c.in-Some.ensures.in_hand

pub lay-requires-clause-set_down : goal.lay-requires-clause-set_down
lay-requires-clause-set_down c = c.in-Some.ensures.set_down

pub returns-in-Some-clause-entries : goal.returns-in-Some-clause-entries
returns-in-Some-clause-entries c =
    let size_is : length c.in-Ok.buf.bytes ≡ c.args.size = ap length c.in-Ok.ensures.bytes ∙ length-replicate c.args.size 0 in
    announce_done _ _ _ _ _ _ c.args.size c.in-Some.id size_is (is_size c.args.size c.from.result c.if-size-eq0.false c.if-size-from.false c.from.ensures) c.if-look_closed.ensures.entries c.in-Some.ensures.entries
    (adds_step _ _ _ (Lay c.in-Some.id.place) tt c.lay.ensures.step)

pub returns-in-Some-clause-closed : goal.returns-in-Some-clause-closed
returns-in-Some-clause-closed c = stays_open _ _ (done_other c.in-Some.id) c.if-look_closed.ensures.mark

pub returns-in-Some-clause-contents : goal.returns-in-Some-clause-contents
returns-in-Some-clause-contents c =
    c.lay.ensures.contents ∙ c.in-Some.ensures.contents ∙ ap (λ d. set d c.in-Some.id.place (Some c.in-Ok.buf)) c.if-look_closed.ensures.contents
    ∙ ap (λ (f : Filling). set c.args.self.now.contents c.in-Some.id.place (Some f)) (is_fresh c.in-Ok.buf c.args.size c.in-Ok.ensures.bytes c.in-Ok.ensures.rec)

pub returns-in-None-clause-entries : goal.returns-in-None-clause-entries
returns-in-None-clause-entries c =
    let size_is : length c.in-Ok.buf.bytes ≡ c.args.size = ap length c.in-Ok.ensures.bytes ∙ length-replicate c.args.size 0 in
    announce_full _ _ _ _ _ c.args.size size_is (is_size c.args.size c.from.result c.if-size-eq0.false c.if-size-from.false c.from.ensures) c.if-look_closed.ensures.entries c.in-None.ensures.entries

pub returns-in-None-clause-closed : goal.returns-in-None-clause-closed
returns-in-None-clause-closed c = stays_open _ _ full_other c.if-look_closed.ensures.mark

pub returns-in-None-clause-refused : goal.returns-in-None-clause-refused
returns-in-None-clause-refused c = c.in-None.ensures.contents ∙ c.if-look_closed.ensures.contents
