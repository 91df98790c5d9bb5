-- The state after events says what was done.
use Rattle.std.proofs.Common.{sym, ◌∙◌, subst, ◌≡◌, ℕ, ◌+◌, ◌≤◌, Bool, true, false, List, [], ◌∷◌, ◌++◌, Option, Some, None, refl, arith, rules, min}
use Rattle.std.specs.Prelude.{◌==◌, ◌&&◌, ◌||◌, not, nat_lt, if◌then◌else◌, ◌-◌, ◌^◌, nat_le, ◌≢◌}
use Rattle.std.proofs.lemmas.Bool.{eqb-true, leb-true, and_parts, eqb-false}
use Rattle.gev_types.specs.declared.frame.Shape.{Shape}
use Rattle.gev_types.specs.declared.peer.Peer.{Peer}
use Rattle.gvcp_wire.specs.declared.message.CommandHead.{CommandHead}
use Rattle.gvcp_wire.specs.declared.status.Status.TheVariants.{InvalidParameter}
use Rattle.gvcp_wire.specs.Reading.{command_reading}
use Rattle.gvcp_wire.specs.declared.resend.Resend.{Resend}
use Rattle.bootstrap_regs.specs.Addresses.{CCP, SCP0}
use Rattle.bootstrap_regs.specs.Registers.{address_refusal, initial_at, value_refusal, register_at}
use Rattle.bootstrap_regs.specs.Words.{word_at, with_word}
use Rattle.bootstrap_regs.specs.Changes as changes
use Rattle.bootstrap_regs.specs.Changes.{Change, value_after, Holds}
use Rattle.control_privilege.specs.declared.holder.Holder.{Holder}
use Rattle.control_privilege.specs.Control.{granted, is_primary, ccp_of, is_peer, renewed_by}
use Rattle.resend_store.specs.Laws.{Stands}
use Rattle.resend_store.specs.Shelf.{empty_shelf}
use Rattle.resend_store.proofs.Standing.{push_stands}
use Rattle.camera_machine.specs.Camera.{Camera, new_camera, is_open, has_lost, released, looked}
use Rattle.camera_machine.specs.Access.{Write, refusal_of, with_port, written, change_of}
use Rattle.camera_machine.specs.Stream.{next_frame, framed, with_frame, with_reply, reply_count, MAX_REPLIES, replies_to, sent_packets}
use Rattle.camera_machine.specs.Commands.{Executed, finished, kept_of, renewed, heard}
use Rattle.camera_machine.specs.Events.{Event, command, tick, make_frame, next_packet, set_short, step, after, Deed, changed, made, with_changes, with_look, with_answer, past_with, past, changes_in, last_kept, frames_since_opening, counted_in}
use Rattle.camera_machine.specs.Laws.{AreFilled, IsLeftBy, StateSaysThePast}
use Rattle.camera_machine.proofs.Words.{holds_written, holds_released, initial_holds}
use Rattle.camera_machine.proofs.Jobs.{filled_push, filled_rest, replies_filled}
use Rattle.camera_machine.proofs.Walk.{IsAllowed, allowed, written_is, writes_keep, writes_in, executes, executes_is, heard_is}

-- one more below a bound
min-again : (n m : ℕ) → min (min n m + 1) m ≡ min (n + 1) m
min-again n m = omega arith

-- ---- one write

left_released : (start s : Camera) (ds : List Deed) → IsLeftBy start s ds → IsLeftBy start (released s) (changed changes.released ∷ ds)
left_released start s ds h = record {
  words = holds_released s.words (changes_in ds) h.words;
  privilege = (holds_released s.words (changes_in ds) h.words).values 640 (omega arith);
  kept = refl;
  executed = h.executed;
  waiting = tt;
  seed_is = h.seed_is;
  shape_is = h.shape_is;
  room_is = h.room_is;
  store = h.store;
}

same_privilege : (start s : Camera) (ds : List Deed) → IsLeftBy start s ds → value_after (changes_in ds) CCP ≡ ccp_of s.holder
same_privilege start s ds h = sym (h.words.values 640 (omega arith)) ∙ h.privilege

privilege_value : (value : ℕ) → value_refusal CCP value ≡ None → value ≤ 2
unfolding register_at
privilege_value value e = go (nat_le 0 value && nat_le value 2) refl e
  where
    go : (b : Bool) → (nat_le 0 value && nat_le value 2) ≡ b → (if b then None else Some InvalidParameter) ≡ None → value ≤ 2
    go true b e = leb-true value 2 (and_parts (nat_le 0 value) (nat_le value 2) b).1
    go false b e = absurd (cc)

granted_value : (peer : Peer) (value moment : ℕ) → value_refusal CCP value ≡ None → (value == 0) ≡ false → value ≡ ccp_of (granted peer value moment)
granted_value peer value moment e z = rw z (go (value == 1) refl)
  where
    go : (b : Bool) → (value == 1) ≡ b → value ≡ (if b then 1 else 2)
    go true b = eqb-true value 1 b
    go false b =
        let some : value ≢ 0 = eqb-false value 0 z in
        let many : value ≢ 1 = eqb-false value 1 b in
        let few : value ≤ 2 = privilege_value value e in
        omega arith

-- a word but the host port
left_word : (start s : Camera) (ds : List Deed) (holder : Option Holder) (address value : ℕ) → address_refusal address ≡ None
    → (address == SCP0) ≡ false → value_after (changes.written address value ∷ changes_in ds) CCP ≡ ccp_of holder → IsLeftBy start s ds
    → IsLeftBy start (record s { words = with_word s.words address value; holder = holder }) (changed (changes.written address value) ∷ ds)
left_word start s ds holder address value e n p h = record {
  words = holds_written s.words (changes_in ds) address value e h.words;
  privilege = (holds_written s.words (changes_in ds) address value e h.words).values 640 (omega arith) ∙ p;
  kept = h.kept;
  executed = h.executed;
  waiting = h.waiting;
  seed_is = h.seed_is;
  shape_is = h.shape_is;
  room_is = h.room_is;
  store = rw n h.store;
}

left_port : (start s : Camera) (ds : List Deed) (value : ℕ) → IsLeftBy start s ds
    → IsLeftBy start (with_port s value) (changed (changes.written SCP0 value) ∷ ds)
left_port start s ds value h = record {
  words = holds_written s.words (changes_in ds) SCP0 value refl h.words;
  privilege = (holds_written s.words (changes_in ds) SCP0 value refl h.words).values 640 (omega arith) ∙ same_privilege start s ds h;
  kept = h.kept;
  executed = h.executed;
  waiting = waiting (value == 0);
  seed_is = h.seed_is;
  shape_is = h.shape_is;
  room_is = room_is (word_at s.words SCP0 == 0) (value == 0);
  store = rw (← port) (store (word_at s.words SCP0 == 0) (value == 0));
}
  where
    port : word_at s.words SCP0 ≡ value_after (changes_in ds) SCP0
    port = h.words.values 832 (omega arith)

    waiting : (v : Bool) → AreFilled (if v then [] else s.waiting)
    waiting true = tt
    waiting false = h.waiting

    room_is : (z v : Bool) → (if not z || v then s.shelf else empty_shelf s.shelf.room).room ≡ start.shelf.room
    room_is true true = h.room_is
    room_is true false = h.room_is
    room_is false v = h.room_is

    store : (z v : Bool)
        → 1 ≤ start.shelf.room → Stands (if not z || v then s.shelf else empty_shelf s.shelf.room) (if z && not v then [] else frames_since_opening ds)
    store true true = h.store
    store true false = λ some. record { count_is = refl; frames_are = search rules }
    store false v = h.store

left_written : (start s : Camera) (ds : List Deed) (peer : Peer) (moment : ℕ) (w : Write) → refusal_of s peer w ≡ None → IsLeftBy start s ds
    → IsLeftBy start (written s peer moment w) (changed (change_of w) ∷ ds)
left_written start s ds peer moment w e h =
    written_is (λ t c. IsLeftBy start t (changed c ∷ ds)) s peer moment w (λ here. left_released start s ds h)
    (λ here z.
    let fits : value_refusal CCP w.value ≡ None = subst (λ (a : ℕ). value_refusal a w.value ≡ None) here goes.value in
    left_word start s ds (granted peer w.value moment) CCP w.value refl refl (granted_value peer w.value moment fits z) h)
    (left_port start s ds w.value h)
    (λ c q. left_word start s ds s.holder w.address w.value goes.address q (rw c (same_privilege start s ds h)) h)
  where
    goes : IsAllowed s peer w
    goes = allowed s peer w e

-- ---- commands

left_finished : (start : Camera) (was_primary : Bool) (peer : Peer) (bytes : List ℕ) (head : CommandHead) (e : Executed) (ds : List Deed)
    → IsLeftBy start e.camera (with_changes e.changes ds)
    → IsLeftBy start (finished was_primary peer bytes head e).camera (with_answer (finished was_primary peer bytes head e) ds)
left_finished start was_primary peer bytes head e ds h = record {
  words = h.words;
  privilege = h.privilege;
  kept = go (is_primary e.camera.holder peer);
  executed = count (was_primary || e.has_granted);
  waiting = h.waiting;
  seed_is = h.seed_is;
  shape_is = h.shape_is;
  room_is = h.room_is;
  store = h.store;
}
  where
    count : (b : Bool) → (if b then min (e.camera.executed + 1) (2 ^ 64 - 1) else e.camera.executed)
        ≡ min (if b then counted_in (with_changes e.changes ds) + 1 else counted_in (with_changes e.changes ds)) (2 ^ 64 - 1)
    count true = rw h.executed (min-again (counted_in (with_changes e.changes ds)) (2 ^ 64 - 1))
    count false = h.executed

    go : (b : Bool) → (if b then Some (kept_of bytes head e) else e.camera.kept) ≡ (if b then Some (kept_of bytes head e) else last_kept (with_changes e.changes ds))
    go true = refl
    go false = h.kept

left_reply : (start s : Camera) (ds : List Deed) (r : Resend) → IsLeftBy start s ds → IsLeftBy start (with_reply s r) ds
left_reply start s ds r h = go (nat_lt (reply_count s.waiting) MAX_REPLIES)
  where
    go : (b : Bool) → IsLeftBy start (record s { waiting = if b then s.waiting ++ record { is_reply = true; packets = replies_to s.shelf r } ∷ [] else s.waiting }) ds
    go true = record { words = h.words; privilege = h.privilege; kept = h.kept; executed = h.executed; waiting = filled_push s.waiting (record { is_reply = true; packets = replies_to s.shelf r }) h.waiting (replies_filled s.shelf r); seed_is = h.seed_is; shape_is = h.shape_is; room_is = h.room_is; store = h.store }
    go false = h

privilege_renewed : (holder : Option Holder) (peer : Peer) (moment : ℕ) → ccp_of (renewed_by holder peer moment) ≡ ccp_of holder
privilege_renewed None peer moment = refl
privilege_renewed (Some h) peer moment = go (is_peer h.peer peer)
  where
    go : (b : Bool) → ccp_of (if b then Some (record h { last = moment }) else Some h) ≡ ccp_of (Some h)
    go true = refl
    go false = refl

left_renewed : (start s : Camera) (ds : List Deed) (peer : Peer) (moment : ℕ) → IsLeftBy start s ds → IsLeftBy start (renewed s peer moment) ds
left_renewed start s ds peer moment h = record { words = h.words; privilege = h.privilege ∙ sym (privilege_renewed s.holder peer moment); kept = h.kept; executed = h.executed; waiting = h.waiting; seed_is = h.seed_is; shape_is = h.shape_is; room_is = h.room_is; store = h.store }

-- whatever a datagram comes to
left_heard : (start s : Camera) (ds : List Deed) (peer : Peer) (bytes : List ℕ) (moment : ℕ) → IsLeftBy start s ds
    → IsLeftBy start (heard s peer bytes moment (command_reading bytes)).camera (with_answer (heard s peer bytes moment (command_reading bytes)) ds)
left_heard start s ds peer bytes moment h =
    heard_is (λ a. IsLeftBy start a.camera (with_answer a ds)) s peer bytes moment h (record {
      replies = λ head ack is. has;
      asks = λ r p e. left_reply start t ds r has;
      acts = λ head c e is. left_finished start (is_primary t.holder peer) peer bytes head (executes t peer moment c) ds
          (executes_is (λ x. IsLeftBy start x.camera (with_changes x.changes ds)) t peer moment c (λ status body. has)
          (λ each. writes_keep (λ v cs. IsLeftBy start v (with_changes cs ds)) peer moment (λ v cs w. left_written start v (with_changes cs ds) peer moment w) t (writes_in c) has));
    })
  where
    t : Camera
    t = renewed s peer moment

    has : IsLeftBy start t ds
    has = left_renewed start s ds peer moment h

left_looked : (start s : Camera) (ds : List Deed) (moment : ℕ) → IsLeftBy start s ds → IsLeftBy start (looked s moment) (with_look s moment ds)
left_looked start s ds moment h = go (has_lost s moment)
  where
    go : (b : Bool) → IsLeftBy start (if b then released s else s) (if b then changed changes.released ∷ ds else ds)
    go true = left_released start s ds h
    go false = h

left_framed : (start s : Camera) (ds : List Deed) → IsLeftBy start s ds → IsLeftBy start (framed s) (past_with s make_frame ds)
left_framed start s ds h = go (is_open s)
  where
    go : (b : Bool) → IsLeftBy start (if b then with_frame s (next_frame s) else s) (if b then made (next_frame s) ∷ ds else ds)
    go true = record {
      words = h.words;
      privilege = h.privilege;
      kept = h.kept;
      executed = h.executed;
      waiting = filled_push s.waiting (record { is_reply = false; packets = sent_packets (next_frame s) }) h.waiting refl;
      seed_is = h.seed_is;
      shape_is = h.shape_is;
      room_is = h.room_is;
      store = λ some. push_stands s.shelf (frames_since_opening ds) (next_frame s) (omega (arith, h.room_is)) (h.store some);
    }
    go false = h

left_step : (start s : Camera) (ds : List Deed) (e : Event) → IsLeftBy start s ds → IsLeftBy start (step s e) (past_with s e ds)
left_step start s ds (command peer bytes moment) h =
    left_heard start (looked s moment) (with_look s moment ds) peer bytes moment (left_looked start s ds moment h)
left_step start s ds (tick moment) h = left_looked start s ds moment h
left_step start s ds make_frame h = left_framed start s ds h
left_step start s ds next_packet h = record { words = h.words; privilege = h.privilege; kept = h.kept; executed = h.executed; waiting = filled_rest s.waiting h.waiting; seed_is = h.seed_is; shape_is = h.shape_is; room_is = h.room_is; store = h.store }
left_step start s ds (set_short short) h = record { words = h.words; privilege = h.privilege; kept = h.kept; executed = h.executed; waiting = h.waiting; seed_is = h.seed_is; shape_is = h.shape_is; room_is = h.room_is; store = h.store }

initial_privilege : initial_at CCP ≡ 0
unfolding register_at
initial_privilege = refl

pub state_says : (seed : ℕ) (shape : Shape) (room : ℕ) (es : List Event) → StateSaysThePast seed shape room es
state_says seed shape room [] = record {
  words = initial_holds;
  privilege = initial_holds.values 640 (omega arith) ∙ initial_privilege;
  kept = refl;
  executed = refl;
  waiting = tt;
  seed_is = refl;
  shape_is = refl;
  room_is = refl;
  store = λ some. record { count_is = refl; frames_are = search rules };
}
state_says seed shape room (e ∷ es) =
    left_step (new_camera seed shape room) (after (new_camera seed shape room) es) (past (new_camera seed shape room) es) e (state_says seed shape room es)
