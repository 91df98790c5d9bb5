-- All packets that wait are sent, one after the other.
use Rattle.std.proofs.Common.{◌≡◌, ◌<◌, Bool, true, false, Ok, List, [], ◌∷◌, ◌++◌, length, refl, sym, ap, subst, ◌∙◌, append_assoc, arith}
use Rattle.std.proofs.lemmas.List.{append-nil, map-append}
use Rattle.stream_packets.specs.Packets.{StreamPacket}
use Rattle.gvsp_wire.specs.Plain.{plain}
use Rattle.camera_machine.specs.Camera.{Camera, Job, stream_peer}
use Rattle.camera_machine.specs.Stream.{all_waiting, emptied}
use Rattle.camera_machine.proofs.Order.{first_and_rest}
use Rattle.gev_links.specs.Faults.{Rose}
use Rattle.gev_links.specs.Links.{Address, Adds}
use Rattle.gev_links.proofs.Growing.{adds_none, adds_then}
use Rattle.gev_serve.specs.Wires.{Wire, all_sent, send_failed, Sends}
use Rattle.gev_serve.specs.Turns.{packets_to}
use Rattle.gev_serve.specs.Sending.{SendsOne, SendsNone, FailsToSend, SendsNext, IsSending}

pub sending_first : (s : Camera) (w : Wire) → IsSending s s w w
sending_first s w = record { done = []; are = refl; sent = adds_none w.sent; received = refl; no_fault = refl; state = refl }

-- the stream's peer stays
same_peer : (s now : Camera) → emptied now ≡ emptied s → stream_peer now ≡ stream_peer s
same_peer s now same = ap (λ (c : Camera). stream_peer c) same

-- what waited before a packet was given
waited : (now new : Camera) (w u : Wire) → (one : SendsOne now new w u) → all_waiting now.waiting ≡ one.packet ∷ all_waiting new.waiting
waited now new w u one =
    first_and_rest now.waiting one.packet one.first ∙ ap (λ (c : Camera). one.packet ∷ all_waiting c.waiting) (sym one.rest)

pub fewer_wait : (now new : Camera) (w u : Wire) → SendsOne now new w u → length (all_waiting new.waiting) < length (all_waiting now.waiting)
fewer_wait now new w u one = let was = ap length (waited now new w u one) in omega (arith, was)

pub sending_more : (s now new : Camera) (v w u : Wire) → IsSending s now v w → SendsOne now new w u → IsSending s new v u
sending_more s now new v w u h one = record {
  done = h.done ++ one.packet ∷ [];
  are = h.are ∙ (ap (λ l. h.done ++ l) (waited now new w u one) ∙ sym (append_assoc h.done (one.packet ∷ []) (all_waiting new.waiting)));
  sent = subst (λ l. Adds v.sent u.sent l) together (adds_then v.sent w.sent u.sent (packets_to (stream_peer s) h.done) ((stream_peer s, plain one.packet) ∷ []) h.sent last);
  received = one.received ∙ h.received;
  no_fault = one.no_fault ∙ h.no_fault;
  state = ap emptied one.rest ∙ h.state;
}
  where
    last : Adds w.sent u.sent ((stream_peer s, plain one.packet) ∷ [])
    last = subst (λ (peer : Address). Adds w.sent u.sent ((peer, plain one.packet) ∷ [])) (same_peer s now h.state) one.sent

    together : packets_to (stream_peer s) h.done ++ (stream_peer s, plain one.packet) ∷ [] ≡ packets_to (stream_peer s) (h.done ++ one.packet ∷ [])
    together = sym (map-append (λ (x : StreamPacket). (stream_peer s, plain x)) h.done (one.packet ∷ []))

pub sending_done : (s now new : Camera) (v w u : Wire) → IsSending s now v w → SendsNone now new w u
    → Sends (packets_to (stream_peer s) (all_waiting s.waiting)) all_sent v u
sending_done s now new v w u h none = subst (λ (x : Wire). Sends (packets_to (stream_peer s) (all_waiting s.waiting)) all_sent v x) (sym none.same) whole
  where
    all : all_waiting s.waiting ≡ h.done
    all = h.are ∙ (ap (λ (jobs : List Job). h.done ++ all_waiting jobs) none.none ∙ append-nil h.done)

    whole : Sends (packets_to (stream_peer s) (all_waiting s.waiting)) all_sent v w
    whole = record {
      done = packets_to (stream_peer s) h.done;
      rest = [];
      is = ap (packets_to (stream_peer s)) all ∙ sym (append-nil (packets_to (stream_peer s) h.done));
      sent = h.sent;
      received = h.received;
      ends = (refl, h.no_fault);
    }

pub sending_emptied : (s now new : Camera) (v w u : Wire) → IsSending s now v w → SendsNone now new w u → new ≡ emptied s
sending_emptied s now new v w u h none =
    none.rest ∙ (ap (λ (jobs : List Job). record now { waiting = jobs }) none.none ∙ h.state)

pub sending_failed : (s now : Camera) (v w u : Wire) → IsSending s now v w → FailsToSend w u
    → Sends (packets_to (stream_peer s) (all_waiting s.waiting)) send_failed v u
sending_failed s now v w u h fails = record {
  done = packets_to (stream_peer s) h.done;
  rest = packets_to (stream_peer s) (all_waiting now.waiting);
  is = ap (packets_to (stream_peer s)) h.are ∙ map-append (λ (x : StreamPacket). (stream_peer s, plain x)) h.done (all_waiting now.waiting);
  sent = subst (λ l. Adds v.sent l (packets_to (stream_peer s) h.done)) (sym fails.unsent) h.sent;
  received = fails.received ∙ h.received;
  ends = subst (λ n. Rose n u.faults) h.no_fault fails.rose;
}

-- a packet was sent, where that is told
pub sent_one : (one : Bool) (s new : Camera) (v w : Wire) → one ≡ true → SendsNext {E = Unit {0}} (Ok one) s new v w → SendsOne s new v w
sent_one true s new v w e h = h
sent_one false s new v w e h = absurd (cc)
