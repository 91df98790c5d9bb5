-- Which packets a camera gives for the commands that reach it.
use Rattle.std.proofs.Common.{◌≡◌, ℕ, suc, ◌+◌, ◌<◌, ◌≤◌, ◌^◌, List, [], ◌∷◌, ◌++◌, length, drop, Bool, true, false, Option, Some, None, refl, sym, subst, ◌∙◌, arith, length-append, length-drop}
use Rattle.std.specs.Prelude.{◌-◌, ◌&&◌, nat_lt, nat_le, if◌then◌else◌, slice_get, All, IfSome}
use Rattle.std.proofs.lemmas.Bool.{and_parts, leb-true, ltb-true, ltb-false}
use Rattle.std.proofs.lemmas.List.Elements.{All-nil, All-weaker}
use Rattle.gev_types.specs.declared.peer.Peer.{Peer}
use Rattle.stream_packets.specs.Packets.{StreamPacket, leader, payload, trailer, notice, head_of}
use Rattle.gvsp_wire.specs.Plain.{plain}
use Rattle.gvcp_wire.specs.Reading.{command_reading}
use Rattle.gvcp_wire.specs.declared.resend.Resend.{Resend}
use Rattle.resend_store.specs.declared.sent.SentFrame.{SentFrame}
use Rattle.resend_store.specs.Pushes.{is_held}
use Rattle.resend_store.specs.Shelf.{Shelf, empty_shelf, held_in, staying}
use Rattle.resend_store.proofs.Places.{AllAt, AllAt-push, AllAt-rest, IfSome-map}
use Rattle.camera_machine.specs.Camera.{Camera, is_open, looked}
use Rattle.camera_machine.specs.Stream.{again, replies_to, all_waiting, next_frame, framed, with_frame}
use Rattle.camera_machine.specs.Commands.{commanded}
use Rattle.camera_machine.specs.Sending.{asked_in}
use Rattle.camera_machine.proofs.Walk.{Stays, stays_looked, stays_commanded}
use Rattle.camera_machine.proofs.Waiting.{packets_all, replies_all, waiting_reply}
use Rattle.world_laws.specs.Tail.{IsCounted, CameraGoes}
use Rattle.world_laws.proofs.TailBlocks.{IsOf}
use Rattle.world_laws.proofs.TailBytes.{spelled_is_of}

-- ---- frames that are held

-- one of the held frames has its number
abbrev IsNumbered : ℕ → ℕ → ℕ → SentFrame → Type 0
IsNumbered held count place sent = sent.frame.block + held ≡ count + place + 1

-- a held frame's block id is the one that it's held under
held_block : (shelf : Shelf) (b : ℕ) (sent : SentFrame) → IsCounted shelf → held_in shelf b ≡ Some sent → sent.frame.block ≡ b
held_block shelf b sent c = go (is_held shelf.room shelf.count b) refl
  where
    place : ℕ
    place = length shelf.frames - 1 - (shelf.count - b)

    go : (t : Bool) → is_held shelf.room shelf.count b ≡ t → (if t then slice_get shelf.frames place else None) ≡ Some sent → sent.frame.block ≡ b
    go true t e =
        let last = and_parts (nat_le 1 b && nat_le b shelf.count) (nat_lt (shelf.count - b) shelf.room) t in
        let ends = and_parts (nat_le 1 b) (nat_le b shelf.count) last.0 in
        let from_one : 1 ≤ b = leb-true 1 b ends.0 in
        let made : b ≤ shelf.count = leb-true b shelf.count ends.1 in
        let recent : shelf.count - b < shelf.room = ltb-true (shelf.count - b) shelf.room last.1 in
        let numbered : sent.frame.block + length shelf.frames ≡ shelf.count + place + 1 =
        subst (λ (o : Option SentFrame). IfSome o (IsNumbered (length shelf.frames) shelf.count place)) e (c.numbered place) in
        omega (arith, c.filled)
    go false t e = absurd (cc)

empty_counted : (room : ℕ) → 1 ≤ room → IsCounted (empty_shelf room)
empty_counted room h = record { some = h; filled = omega arith; numbered = λ place. tt }

numbered_pushed : (count : ℕ) (kept : List SentFrame) (sent : SentFrame) → AllAt (IsNumbered (length kept + 1) (count + 1)) kept → sent.frame.block ≡ count + 1
    → AllAt (IsNumbered (length (kept ++ sent ∷ [])) (count + 1)) (kept ++ sent ∷ [])
numbered_pushed count kept sent all next =
    let longer : length (kept ++ sent ∷ []) ≡ length kept + 1 = length-append kept (sent ∷ []) in
    rw longer (AllAt-push (IsNumbered (length kept + 1) (count + 1)) kept sent all (omega arith))

numbered_stay : (count : ℕ) (frames : List SentFrame) → AllAt (IsNumbered (length frames) count) frames → AllAt (IsNumbered (length frames + 1) (count + 1)) frames
numbered_stay count frames all place =
    IfSome-map (slice_get frames place) (IsNumbered (length frames) count place) (IsNumbered (length frames + 1) (count + 1) place) (λ x h. omega arith) (all place)

numbered_rest : (count : ℕ) (frames : List SentFrame) → 1 ≤ length frames → AllAt (IsNumbered (length frames) count) frames
    → AllAt (IsNumbered (length (drop 1 frames) + 1) (count + 1)) (drop 1 frames)
numbered_rest count frames some all place =
    let shorter : length (drop 1 frames) + 1 ≡ length frames = omega (arith, length-drop 1 frames) in
    rw shorter (IfSome-map (slice_get (drop 1 frames) place) (IsNumbered (length frames) count (suc place)) (IsNumbered (length frames) (count + 1) place)
    (λ x h. omega arith) (AllAt-rest (IsNumbered (length frames) count) frames all place))

pushed_counted : (room count : ℕ) (frames : List SentFrame) (sent : SentFrame) → sent.frame.block ≡ count + 1
    → IsCounted (record { room = room; count = count; frames = frames }) → IsCounted (record { room = room; count = count + 1; frames = staying room frames ++ sent ∷ [] })
pushed_counted room count frames sent next s = go (nat_lt (length frames) room) refl
  where
    go : (b : Bool) → nat_lt (length frames) room ≡ b → IsCounted (record { room = room; count = count + 1; frames = (if b then frames else drop 1 frames) ++ sent ∷ [] })
    go true e =
        let short : length frames < room = ltb-true (length frames) room e in
        record {
          some = s.some;
          filled = omega (arith, s.filled, length-append frames (sent ∷ []));
          numbered = numbered_pushed count frames sent (numbered_stay count frames s.numbered) next;
        }
    go false e =
        let full : room ≤ length frames = ltb-false (length frames) room e in
        record {
          some = s.some;
          filled = omega (arith, s.filled, s.some, length-append (drop 1 frames) (sent ∷ []), length-drop 1 frames);
          numbered = numbered_pushed count (drop 1 frames) sent (numbered_rest count frames (omega (arith, s.some)) s.numbered) next;
        }

pub framed_counted : (s : Camera) → IsCounted s.shelf → IsCounted (framed s).shelf
framed_counted s c = go (is_open s)
  where
    go : (t : Bool) → IsCounted (if t then with_frame s (next_frame s) else s).shelf
    go true = pushed_counted s.shelf.room s.shelf.count s.shelf.frames (next_frame s) refl c
    go false = c

-- ---- replies

-- the plain bytes of the packet are of such a block
abbrev pub GivesOf : (ℕ → Type 0) → StreamPacket → Type 0
GivesOf K x = IsOf K (plain x)

-- a command for packets of such a block, whose id has 64 bits
abbrev pub AsksFor : (ℕ → Type 0) → Resend → Type 0
AsksFor K r = (r.block < 2 ^ 64) × K r.block

-- of this block
abbrev IsInBlock : ℕ → StreamPacket → Type 0
IsInBlock b x = (head_of x).block ≡ b

again-block : (x : StreamPacket) → (head_of (again x)).block ≡ (head_of x).block
again-block (leader h i) = refl
again-block (payload h d) = refl
again-block (trailer h y) = refl
again-block (notice h) = refl

held_if : (shelf : Shelf) (b : ℕ) → IsCounted shelf → IfSome (held_in shelf b) (λ sent. sent.frame.block ≡ b)
held_if shelf b c = go (held_in shelf b) refl
  where
    go : (o : Option SentFrame) → held_in shelf b ≡ o → IfSome o (λ sent. sent.frame.block ≡ b)
    go None e = tt
    go (Some sent) e = held_block shelf b sent c e

replies_give : (K : ℕ → Type 0) (shelf : Shelf) (r : Resend) → AsksFor K r → IsCounted shelf → All (GivesOf K) (replies_to shelf r)
replies_give K shelf r asks c =
    All-weaker (IsInBlock r.block) (GivesOf K)
    (λ x e. spelled_is_of K x (subst (λ (b : ℕ). b < 2 ^ 64) (sym e) asks.0) (subst K (sym e) asks.1)) (replies_to shelf r)
    (replies_all (IsInBlock r.block) (λ sent. sent.frame.block ≡ r.block) shelf r
    (record {
      sent = λ sent e. packets_all (IsInBlock r.block) sent.frame sent.payload_size e (λ k one most. e) e;
      sent_again = λ x e. again-block x ∙ e;
      told = λ status. refl;
    }) (held_if shelf r.block c))

-- ---- commands

-- What waits in the camera are packets of such blocks.
pub record Gives (K : ℕ → Type 0) (s : Camera) : Type 0 where
  pub waiting : All (GivesOf K) (all_waiting s.waiting)
  pub counted : IsCounted s.shelf

gives_stays : (K : ℕ → Type 0) → Stays (Gives K) (AsksFor K)
gives_stays K = record {
  rest = λ s words holder kept executed g. record { waiting = g.waiting; counted = g.counted };
  dropped = λ s g. record { waiting = All-nil (GivesOf K); counted = g.counted };
  forgotten = λ s g. record { waiting = g.waiting; counted = empty_counted s.shelf.room g.counted.some };
  replied = λ s r asks g. record { waiting = waiting_reply (GivesOf K) s r g.waiting (replies_give K s.shelf r asks g.counted); counted = g.counted };
}

pub gives_looked : (K : ℕ → Type 0) (s : Camera) (moment : ℕ) → Gives K s → Gives K (looked s moment)
gives_looked K = stays_looked (Gives K) (AsksFor K) (gives_stays K)

-- a command that asks for packets of such blocks, if it asks for any
pub gives_commanded : (K : ℕ → Type 0) (s : Camera) (peer : Peer) (bytes : List ℕ) (moment : ℕ) → IfSome (asked_in (command_reading bytes)) (AsksFor K) → Gives K s
    → Gives K (commanded s peer bytes moment).camera
gives_commanded K s peer bytes moment asks g =
    stays_commanded (Gives K) (AsksFor K) (gives_stays K) s peer bytes moment (λ r e. subst (λ (o : Option Resend). IfSome o (AsksFor K)) e asks) g

-- nothing waits at first
pub gives_none : (K : ℕ → Type 0) (s : Camera) → CameraGoes s → Gives K s
gives_none K s c = record { waiting = rw c.none_wait (All-nil (GivesOf K)); counted = c.counted }
