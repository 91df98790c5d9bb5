-- What one turn sends, and where it leaves the camera, by its parts.
use Rattle.std.proofs.Common.{◌≡◌, ℕ, ◌+◌, ◌≤◌, List, ◌++◌, Option, Some, None, Ok, refl, subst, append_assoc, inr, arith}
use Rattle.gev_types.specs.declared.peer.Peer.{Peer}
use Rattle.camera_machine.specs.Camera.{Camera, stream_peer}
use Rattle.camera_machine.specs.Stream.{all_waiting, emptied, framed}
use Rattle.camera_machine.specs.Events.{frame_turn}
use Rattle.camera_machine.proofs.FrameCounts.{counts_looked, counts_commanded, counts_framed}
use Rattle.gev_links.specs.Links.{Answer, Address, answer_of}
use Rattle.gev_links.specs.Moments.{Tells}
use Rattle.gev_serve.specs.declared.ends.ServeTurn.{ServeTurn}
use Rattle.gev_serve.specs.declared.ends.ServeTurn.TheVariants.{GoesOn, Fault, NoMemory}
use Rattle.gev_serve.specs.Wires.{Wire, SendEnd, all_sent, send_failed, gave_up, Sends}
use Rattle.gev_serve.specs.Turns.{Datagram, Served, arrived, answer_with, heard_camera, heard_ack, hears, heard_turn, framed_turn, block_in, packets_to, ack_to, sent_in}
use Rattle.gev_serve.specs.Serving.{sends_end, IfGoesOn, IsBlock, MakesPart, MakesTurn}
use Rattle.gev_serve.proofs.Partial.{sends_then, sends_cut}

-- what a camera with these packets waiting sends
abbrev pub waiting_at : Camera → List (Address × List ℕ)
waiting_at c = packets_to (stream_peer c) (all_waiting c.waiting)

-- what a turn sends before its frame
abbrev pub before_frame : Camera → Option Datagram → ℕ → List (Address × List ℕ)
before_frame s d moment =
    ack_to d (hears s d moment).ack ++ packets_to (stream_peer (hears s d moment).camera) (hears s d moment).packets

pub heard_then : (s : Camera) (d : Option Datagram) (moment : ℕ) (c : Camera) (end : SendEnd) (u v w : Wire) → c ≡ heard_camera s d moment
    → Sends (ack_to d (heard_ack s d moment)) all_sent u v → Sends (waiting_at c) end v w → Sends (before_frame s d moment) end u w
heard_then s d moment c end u v w is first second =
    sends_then (ack_to d (heard_ack s d moment)) (waiting_at (heard_camera s d moment)) end u v w first
    (subst (λ (x : Camera). Sends (waiting_at x) end v w) is second)

pub heard_cut : (s : Camera) (d : Option Datagram) (moment : ℕ) (u v : Wire) → Sends (ack_to d (heard_ack s d moment)) send_failed u v
    → Sends (before_frame s d moment) send_failed u v
heard_cut s d moment u v cut = sends_cut (ack_to d (heard_ack s d moment)) (waiting_at (heard_camera s d moment)) u v cut

-- what a frame sends
abbrev pub of_frame : Camera → List (Address × List ℕ)
of_frame c = packets_to (stream_peer (frame_turn c).camera) (frame_turn c).packets

pub framed_sends : (s c : Camera) (end : SendEnd) (v w : Wire) → c ≡ framed s → Sends (waiting_at c) end v w → Sends (of_frame s) end v w
framed_sends s c end v w is sends = subst (λ (x : Camera). Sends (waiting_at x) end v w) is sends

-- a whole turn
pub turn_then : (s : Camera) (t : Served) (c : Camera) (end : SendEnd) (u v w : Wire) → c ≡ (heard_turn s t).camera
    → Sends (before_frame s t.arrived t.moment) all_sent u v → Sends (of_frame c) end v w → Sends (sent_in s t) end u w
turn_then s t c end u v w is first second =
    subst (λ l. Sends l end u w)
    (append_assoc (ack_to t.arrived (heard_turn s t).ack) (packets_to (stream_peer (heard_turn s t).camera) (heard_turn s t).packets) (of_frame (heard_turn s t).camera))
    (sends_then (before_frame s t.arrived t.moment) (of_frame (heard_turn s t).camera) end u v w first
    (subst (λ (x : Camera). Sends (of_frame x) end v w) is second))

pub turn_cut : (s : Camera) (t : Served) (u v : Wire) → Sends (before_frame s t.arrived t.moment) send_failed u v → Sends (sent_in s t) send_failed u v
turn_cut s t u v cut =
    subst (λ l. Sends l send_failed u v)
    (append_assoc (ack_to t.arrived (heard_turn s t).ack) (packets_to (stream_peer (heard_turn s t).camera) (heard_turn s t).packets) (of_frame (heard_turn s t).camera))
    (sends_cut (before_frame s t.arrived t.moment) (of_frame (heard_turn s t).camera) u v cut)

pub turn_state : (r : ServeTurn) (s : Camera) (t : Served) (c new : Camera) → c ≡ (heard_turn s t).camera → IfGoesOn r (new ≡ (frame_turn c).camera)
    → IfGoesOn r (new ≡ (framed_turn s t).camera)
turn_state r s t c new is h = subst (λ (x : Camera). IfGoesOn r (new ≡ (frame_turn x).camera)) is h

-- ---- counts

pub heard_counts : (s : Camera) (d : Option Datagram) (moment : ℕ) → (heard_camera s d moment).shelf.count ≤ s.shelf.count
heard_counts s None moment = counts_looked s.shelf.count s moment (omega arith)
heard_counts s (Some d) moment = counts_commanded s.shelf.count s d.sender d.bytes moment (omega arith)

pub turn_counts : (s : Camera) (t : Served) → (framed_turn s t).camera.shelf.count ≤ s.shelf.count + 1
turn_counts s t = counts_framed (emptied (heard_camera s t.arrived t.moment)) s.shelf.count (heard_counts s t.arrived t.moment)

-- ---- what came

pub answer_is : (o : Option (ℕ × Peer)) (out : List ℕ) → answer_of (Ok o) out ≡ answer_with (arrived o out)
answer_is None out = refl
answer_is (Some datagram) out = refl

pub made_turn : (r : ServeTurn) (s new : Camera) (v h w : Wire) (told now_told : Option (List ℕ)) (o : Option (ℕ × Peer)) (out : List ℕ) (moment : ℕ)
    → Tells v.received h.received (answer_of (Ok o) out) → h.sent ≡ v.sent → h.faults ≡ v.faults → Tells told now_told moment
    → Sends (sent_in s (record { arrived = arrived o out; moment = moment })) (sends_end r) h w
    → IfGoesOn r (new ≡ (framed_turn s (record { arrived = arrived o out; moment = moment })).camera)
    → IsBlock r (block_in s (record { arrived = arrived o out; moment = moment }))
    → MakesTurn r s new v w told now_told
made_turn r s new v h w told now_told o out moment received unsent unfailed tells sends state made = go r sends state made
  where
    part : (end : SendEnd) → Sends (sent_in s (record { arrived = arrived o out; moment = moment })) end h w → MakesPart end s v w told now_told
    part end sends = record {
      turn = record { arrived = arrived o out; moment = moment };
      heard = h;
      received = subst (λ (a : Answer). Tells v.received h.received a) (answer_is o out) received;
      unsent = unsent;
      unfailed = unfailed;
      moment = tells;
      sends = sends;
    }

    go : (r : ServeTurn) → Sends (sent_in s (record { arrived = arrived o out; moment = moment })) (sends_end r) h w
        → IfGoesOn r (new ≡ (framed_turn s (record { arrived = arrived o out; moment = moment })).camera)
        → IsBlock r (block_in s (record { arrived = arrived o out; moment = moment })) → MakesTurn r s new v w told now_told
    go (GoesOn block) sends state made = record { whole = record { part = part all_sent sends; state = state }; made = made }
    go Fault sends state made = inr (part send_failed sends)
    go NoMemory sends state made = part gave_up sends
