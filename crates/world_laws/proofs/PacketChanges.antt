-- A camera whose commands leave the packet size sends each frame in payloads of 1452 bytes.
use Rattle.std.proofs.Common.{◌≡◌, ℕ, suc, ◌≤◌, Bool, true, false, List, [], ◌∷◌, length, Option, Some, None, Ok, refl, sym, subst, ap, ◌∙◌, arith, length-append}
use Rattle.std.specs.Prelude.{◌%◌, ◌-◌, ◌^◌, ◌==◌, ◌&&◌, if◌then◌else◌, IfSome}
use Rattle.std.specs.List.{AllByRecursion}
use Rattle.std.proofs.lemmas.Bool.{eqb-true, le-leb}
use Rattle.gev_types.specs.declared.frame.Frame.{Frame}
use Rattle.gev_types.specs.declared.peer.Peer.{Peer}
use Rattle.stream_packets.specs.Packets.{StreamPacket, leader, payload, trailer, notice, head_of}
use Rattle.stream_packets.specs.Sent.{CarriesFrame, IsSent}
use Rattle.gvcp_wire.specs.declared.message.CommandHead.{CommandHead}
use Rattle.gvcp_wire.specs.declared.status.Status.{Status}
use Rattle.gvcp_wire.specs.Messages.{PlainCommand, read_reg, write_reg, read_mem, write_mem, other}
use Rattle.gvcp_wire.specs.Reading.{command_reading}
use Rattle.bootstrap_regs.specs.Addresses.{CCP, SCP0, SCPS0}
use Rattle.bootstrap_regs.specs.Registers.{register_at}
use Rattle.bootstrap_regs.specs.Words.{word_at}
use Rattle.bootstrap_regs.specs.Changes as changes
use Rattle.bootstrap_regs.specs.Changes.{Change, value_after}
use Rattle.acquisition_machine.proofs.Order.{all_append}
use Rattle.camera_machine.specs.Camera.{Camera, new_camera, looked}
use Rattle.camera_machine.specs.Stream.{first_waiting, next_frame}
use Rattle.camera_machine.specs.Access.{Write, change_of, refusal_of, written, write_all, ended_by, after_one}
use Rattle.camera_machine.specs.Commands.{renewed, heard}
use Rattle.camera_machine.specs.Events.{Event, command, tick, make_frame, next_packet, set_short, Deed, changed, made, with_changes, with_look, with_answer, past_with, after, past, changes_in, opens, frames_since_opening, frames_made, executed}
use Rattle.camera_machine.specs.Sending.{HaveRows, HaveSize, asked_in, AskFromOne}
use Rattle.camera_machine.proofs.Walk.{writes_in, executes, executes_is, heard_is}
use Rattle.camera_machine.proofs.Deeds.{GoesOn, on_look, on_command, on_frame}
use Rattle.camera_machine.proofs.Past.{state_says}
use Rattle.camera_machine.proofs.Sending.{frames_are, packets_sent}
use Rattle.world_machine.specs.State.{Run, image_shape, STORE_ROOM}
use Rattle.world_laws.specs.Receiver.{soak_config}
use Rattle.world_laws.specs.Sizes.{PACKET_SIZE, KeepsSize, WritesSize, ReadsSize}
use Rattle.world_laws.specs.Packets.{soak_frames}

-- ---- what commands change

-- a write to the packet size wrote that value
abbrev LeavesSize : Change → Type 0
LeavesSize changes.released = Unit {0}
LeavesSize (changes.written address value) = address ≡ SCPS0 → value ≡ PACKET_SIZE

abbrev LeaveSize : List Change → Type 0
LeaveSize cs = AllByRecursion LeavesSize cs

change_leaves : (w : Write) → KeepsSize w → LeavesSize (change_of w)
change_leaves w h = go ((w.address == CCP) && (w.value == 0))
  where
    go : (b : Bool) → LeavesSize (if b then changes.released else changes.written w.address w.value)
    go true = tt
    go false = h

writes_leave : (s : Camera) (peer : Peer) (moment : ℕ) (ws : List Write) → AllByRecursion KeepsSize ws → LeaveSize (write_all s peer moment ws).changes
writes_leave s peer moment [] h = tt
writes_leave s peer moment (w ∷ ws) h = go (refusal_of s peer w) (writes_leave (written s peer moment w) peer moment ws h.1)
  where
    go : (r : Option Status) → LeaveSize (write_all (written s peer moment w) peer moment ws).changes
        → LeaveSize (ended_by r s (after_one w (write_all (written s peer moment w) peer moment ws))).changes
    go None k = all_append LeavesSize (write_all (written s peer moment w) peer moment ws).changes (change_of w ∷ []) k (change_leaves w h.0, tt)
    go (Some status) k = tt

-- the writes of a command that was read
sizes_read : (bytes : List ℕ) (head : CommandHead) (c : PlainCommand) → command_reading bytes ≡ Ok (head, c) → ReadsSize (command_reading bytes)
    → AllByRecursion KeepsSize (writes_in c)
sizes_read bytes head c e h = go c (subst ReadsSize e h)
  where
    go : (c : PlainCommand) → WritesSize c → AllByRecursion KeepsSize (writes_in c)
    go (read_reg addresses) h = tt
    go (write_reg pairs) h = h
    go (read_mem address count) h = tt
    go (write_mem address data_bytes) h = h
    go (other code body) h = tt

-- ---- what was done

-- The command asks for packets of a block from 1 on, if it asks for any, and leaves the packet size.
abbrev pub IsFine : List ℕ → Type 0
IsFine bytes = IfSome (asked_in (command_reading bytes)) (λ r. 1 ≤ r.block) × ReadsSize (command_reading bytes)

abbrev pub IsFineEvent : Event → Type 0
IsFineEvent (command peer bytes moment) = IsFine bytes
IsFineEvent (tick moment) = Unit {0}
IsFineEvent make_frame = Unit {0}
IsFineEvent next_packet = Unit {0}
IsFineEvent (set_short short) = Unit {0}

-- a past that left the packet size, and whose frames went out in payloads of this size
record HasSize (ds : List Deed) : Type 0 where
  left : LeaveSize (changes_in ds)
  size : HaveSize soak_config.p ds

size_changes : (cs : List Change) (ds : List Deed) → LeaveSize cs → HasSize ds → HasSize (with_changes cs ds)
size_changes [] ds h k = k
size_changes (c ∷ cs) ds h k = let rest = size_changes cs ds h.1 k in record { left = (h.0, rest.left); size = rest.size }

size_look : (s : Camera) (moment : ℕ) (ds : List Deed) → HasSize ds → HasSize (with_look s moment ds)
size_look s moment ds = on_look HasSize (λ xs k. record { left = (tt, k.left); size = k.size }) s moment ds

size_heard : (s : Camera) (peer : Peer) (bytes : List ℕ) (moment : ℕ) (ds : List Deed) → ReadsSize (command_reading bytes) → HasSize ds
    → HasSize (with_answer (heard s peer bytes moment (command_reading bytes)) ds)
size_heard s peer bytes moment ds sizes k =
    heard_is (λ a. HasSize (with_answer a ds)) s peer bytes moment k (record {
      replies = λ head ack is. k;
      asks = λ r p e. k;
      acts = λ head c e is.
          let done : HasSize (with_changes (executes t peer moment c).changes ds) =
          size_changes (executes t peer moment c).changes ds
          (executes_is (λ x. LeaveSize x.changes) t peer moment c (λ status body. tt) (λ each. writes_leave t peer moment (writes_in c) (sizes_read bytes head c e sizes))) k in
          record { left = done.left; size = done.size };
    })
  where
    t : Camera
    t = renewed s peer moment

value_is : (cs : List Change) → LeaveSize cs → value_after cs SCPS0 ≡ PACKET_SIZE
unfolding register_at
value_is [] h = refl
value_is (changes.released ∷ cs) h = value_is cs h.1
value_is (changes.written address value ∷ cs) h = go (address == SCPS0) refl (value_is cs h.1)
  where
    go : (b : Bool) → (address == SCPS0) ≡ b → value_after cs SCPS0 ≡ PACKET_SIZE → (if b then value else value_after cs SCPS0) ≡ PACKET_SIZE
    go true e k = h.0 (eqb-true address SCPS0 e)
    go false e k = k

size_step : (seed : ℕ) (e : Event) (es : List Event) → IsFineEvent e → HasSize (past (new_camera seed image_shape STORE_ROOM) es)
    → HasSize (past (new_camera seed image_shape STORE_ROOM) (e ∷ es))
size_step seed e es f before = go e f
  where
    s : Camera
    s = after (new_camera seed image_shape STORE_ROOM) es

    ds : List Deed
    ds = past (new_camera seed image_shape STORE_ROOM) es

    stands : word_at (after (new_camera seed image_shape STORE_ROOM) es).words SCPS0 ≡ PACKET_SIZE
    stands = (state_says seed image_shape STORE_ROOM es).words.values 833 (omega arith) ∙ value_is (changes_in ds) before.left

    go : (e : Event) → IsFineEvent e → HasSize (past_with s e ds)
    go (command peer bytes moment) f = size_heard (looked s moment) peer bytes moment (with_look s moment ds) f.1 (size_look s moment ds before)
    go (tick moment) f = size_look s moment ds before
    go make_frame f = on_frame HasSize s ds (record { left = before.left; size = (ap (λ (n : ℕ). n % 2 ^ 16 - 48) stands, before.size) }) before
    go next_packet f = before
    go (set_short short) f = before

size_past : (seed : ℕ) (es : List Event) → AllByRecursion IsFineEvent es → HasSize (past (new_camera seed image_shape STORE_ROOM) es)
size_past seed [] h = record { left = tt; size = tt }
size_past seed (e ∷ es) h = size_step seed e es h.0 (size_past seed es h.1)

asks_from_one : (es : List Event) → AllByRecursion IsFineEvent es → AskFromOne es
asks_from_one [] h = tt
asks_from_one (command peer bytes moment ∷ es) h = (h.0.0, asks_from_one es h.1)
asks_from_one (tick moment ∷ es) h = asks_from_one es h.1
asks_from_one (make_frame ∷ es) h = asks_from_one es h.1
asks_from_one (next_packet ∷ es) h = asks_from_one es h.1
asks_from_one (set_short short ∷ es) h = asks_from_one es h.1

-- ---- how many frames were made

-- how many of these events make a frame
abbrev pub frame_events : List Event → ℕ
frame_events [] = 0
frame_events (command peer bytes moment ∷ es) = frame_events es
frame_events (tick moment ∷ es) = frame_events es
frame_events (make_frame ∷ es) = suc (frame_events es)
frame_events (next_packet ∷ es) = frame_events es
frame_events (set_short short ∷ es) = frame_events es

-- the block ids of the frames that were made are at most this
abbrev AreLow : ℕ → List Deed → Type 0
AreLow n [] = Unit {0}
AreLow n (changed c ∷ ds) = AreLow n ds
AreLow n (executed x ∷ ds) = AreLow n ds
AreLow n (made sent ∷ ds) = (sent.frame.block ≤ n) × AreLow n ds

-- So are they, and no more frames were made.
record HasFew (n : ℕ) (ds : List Deed) : Type 0 where
  low : AreLow n ds
  few : length (frames_since_opening ds) ≤ n

low_more : (n m : ℕ) (ds : List Deed) → n ≤ m → AreLow n ds → AreLow m ds
low_more n m [] h k = tt
low_more n m (changed c ∷ ds) h k = low_more n m ds h k
low_more n m (executed x ∷ ds) h k = low_more n m ds h k
low_more n m (made sent ∷ ds) h k = let low = k.0 in (omega arith, low_more n m ds h k.1)

few_changed : (n : ℕ) (c : Change) (ds : List Deed) → HasFew n ds → HasFew n (changed c ∷ ds)
few_changed n c ds h = record { low = h.low; few = go (opens c (value_after (changes_in ds) SCP0)) }
  where
    go : (b : Bool) → length (if b then [] else frames_since_opening ds) ≤ n
    go true = omega arith
    go false = h.few

few_goes : (n : ℕ) → GoesOn (HasFew n)
few_goes n = record { change = few_changed n; execution = λ x xs h. record { low = h.low; few = h.few } }

few_made : (seed n : ℕ) (es : List Event) → HasFew n (past (new_camera seed image_shape STORE_ROOM) es)
    → HasFew (suc n) (past (new_camera seed image_shape STORE_ROOM) (make_frame ∷ es))
few_made seed n es h = on_frame (HasFew (suc n)) s ds (record {
  low = (next, low_more n (suc n) ds (omega arith) h.low);
  few = let few = h.few in omega (arith, length-append (frames_since_opening ds) (next_frame s ∷ []));
}) (record { low = low_more n (suc n) ds (omega arith) h.low; few = let few = h.few in omega arith })
  where
    s : Camera
    s = after (new_camera seed image_shape STORE_ROOM) es

    ds : List Deed
    ds = past (new_camera seed image_shape STORE_ROOM) es

    next : (next_frame (after (new_camera seed image_shape STORE_ROOM) es)).frame.block ≤ suc n
    next =
        let stands = (state_says seed image_shape STORE_ROOM es).store (omega arith) in
        let few = h.few in
        omega (arith, stands.count_is)

few_past : (seed : ℕ) (es : List Event) → HasFew (frame_events es) (past (new_camera seed image_shape STORE_ROOM) es)
few_past seed [] = record { low = tt; few = omega arith }
few_past seed (command peer bytes moment ∷ es) =
    on_command (HasFew (frame_events es)) (few_goes (frame_events es)) (after (new_camera seed image_shape STORE_ROOM) es) peer bytes moment
    (past (new_camera seed image_shape STORE_ROOM) es) (few_past seed es)
few_past seed (tick moment ∷ es) =
    on_look (HasFew (frame_events es)) (few_changed (frame_events es) changes.released) (after (new_camera seed image_shape STORE_ROOM) es) moment
    (past (new_camera seed image_shape STORE_ROOM) es) (few_past seed es)
few_past seed (make_frame ∷ es) = few_made seed (frame_events es) es (few_past seed es)
few_past seed (next_packet ∷ es) = few_past seed es
few_past seed (set_short short ∷ es) = few_past seed es

low_is : (n : ℕ) (ds : List Deed) (b : ℕ) (f : Frame) → AreLow n ds → frames_made ds b ≡ Some f → b ≤ n
low_is n [] b f h e = absurd (cc)
low_is n (changed c ∷ ds) b f h e = low_is n ds b f h e
low_is n (executed x ∷ ds) b f h e = low_is n ds b f h e
low_is n (made sent ∷ ds) b f h e = go (sent.frame.block == b) refl e (low_is n ds b f h.1)
  where
    go : (t : Bool) → (sent.frame.block == b) ≡ t → (if t then Some sent.frame else frames_made ds b) ≡ Some f → (frames_made ds b ≡ Some f → b ≤ n) → b ≤ n
    go true t e k = let same : sent.frame.block ≡ b = eqb-true sent.frame.block b t in let low = h.0 in omega arith
    go false t e k = k e

-- ---- what it gives

-- each frame that these events made has the lines of the run's
abbrev pub HaveRunRows : Run → List Event → Type 0
HaveRunRows run es = HaveRows run.short image_shape (past (new_camera run.seed image_shape STORE_ROOM) es)

-- a frame that was made is the run's
made_in : (run : Run) (es : List Event) (b : ℕ) (f : Frame) → HaveRunRows run es → frame_events es ≤ run.frames
    → frames_made (past (new_camera run.seed image_shape STORE_ROOM) es) b ≡ Some f → soak_frames run b ≡ Some f
made_in run es b f rows few e =
    let all = (frames_are run.seed image_shape STORE_ROOM es).all run.short rows in
    let one : 1 ≤ b = (all.valid (omega arith, omega arith) (λ short. omega arith)).from_one b f e in
    let most = low_is (frame_events es) (past (new_camera run.seed image_shape STORE_ROOM) es) b f (few_past run.seed es).low e in
    rw (le-leb 1 b one, le-leb b run.frames (omega arith)) (ap (λ (g : Frame). Some g) (sym (all.same b f e)))

carried_in : (run : Run) (es : List Event) (x : StreamPacket) → HaveRunRows run es → frame_events es ≤ run.frames
    → CarriesFrame (frames_made (past (new_camera run.seed image_shape STORE_ROOM) es)) soak_config.p x → CarriesFrame (soak_frames run) soak_config.p x
carried_in run es x rows few c = record { frame = c.frame; of_block = made_in run es (head_of x).block c.frame rows few c.of_block; packet = c.packet; status = c.status }

sent_in : (run : Run) (es : List Event) (x : StreamPacket) → HaveRunRows run es → frame_events es ≤ run.frames
    → IsSent (frames_made (past (new_camera run.seed image_shape STORE_ROOM) es)) soak_config.p x → IsSent (soak_frames run) soak_config.p x
sent_in run es (leader h i) rows few c = carried_in run es (leader h i) rows few c
sent_in run es (payload h d) rows few c = carried_in run es (payload h d) rows few c
sent_in run es (trailer h y) rows few c = carried_in run es (trailer h y) rows few c
sent_in run es (notice h) rows few c = c

-- after such events the packet that is given next is one of the run's frames
pub gives_sent : (run : Run) (es : List Event) → AllByRecursion IsFineEvent es → HaveRunRows run es → frame_events es ≤ run.frames
    → IfSome (first_waiting (after (new_camera run.seed image_shape STORE_ROOM) es).waiting) (IsSent (soak_frames run) soak_config.p)
gives_sent run es h rows few =
    go (first_waiting (after (new_camera run.seed image_shape STORE_ROOM) es).waiting)
    (packets_sent run.seed image_shape STORE_ROOM soak_config.p run.short es (asks_from_one es h) (size_past run.seed es h).size rows).next
  where
    go : (o : Option StreamPacket) → IfSome o (IsSent (frames_made (past (new_camera run.seed image_shape STORE_ROOM) es)) soak_config.p) → IfSome o (IsSent (soak_frames run) soak_config.p)
    go None k = tt
    go (Some x) k = sent_in run es x rows few k
