-- The packet that waits first, if one does.
use Rattle.std.proofs.Common.{◌≡◌, ◌∙◌, ℕ, List, [], length, take, drop, Option, Some, None, ap, sym, arith, length-append, take_at, refl}
use Rattle.std.specs.Prelude.{option_map, IfSome, IfNone}
use Rattle.gev_types.specs.declared.peer.Peer.{Peer}
use Rattle.stream_packets.specs.Packets.{StreamPacket}
use Rattle.gvsp_wire.specs.Plain.{plain}
use Rattle.camera_machine.specs.Camera.{Camera, Job, stream_peer}
use Rattle.camera_machine.specs.Stream.{with_stream, packet_given, first_waiting, given}
use Rattle.camera_stream.specs.Writing.{packet_size, with_front}
use Rattle.camera_sim.specs.Fetching.{Fetches}
use Rattle.camera_sim.proofs.camera.Camera.fetch.Goals as goal

given_none : (s : Camera) → s.waiting ≡ [] → given s ≡ s
given_none s none =
    ap (λ (w : List Job). with_stream s (packet_given (record { shelf = s.shelf; waiting = w }))) none
    ∙ ap (λ (w : List Job). with_stream s (record { shelf = s.shelf; waiting = w })) (sym none)

fetches : (sent : Option (Peer × ℕ)) (packet : Option StreamPacket) (old new : Camera) (out out_after : List ℕ) → first_waiting old.waiting ≡ packet
    → option_map (λ (s : Peer × ℕ). s.1) sent ≡ packet_size packet → IfSome sent (λ (s : Peer × ℕ). s.0 ≡ stream_peer old) → out_after ≡ with_front packet out
    → new ≡ given old → IfNone sent (old.waiting ≡ []) → Fetches sent old out_after new
fetches None packet old new out out_after first size peer written state none = record { none = none; same = state ∙ given_none old none }
fetches (Some s) None old new out out_after first size peer written state none = cc
fetches (Some s) (Some x) old new out out_after first size peer written state none =
    let len : s.1 ≡ length (plain x) = cc in
    record {
      packet = x;
      first = first;
      to = peer;
      fits = omega (arith, len, ap length written, length-append (plain x) (drop (length (plain x)) out));
      spelled = ap (take s.1) written ∙ take_at (plain x) (drop (length (plain x)) out) s.1 (sym len);
      rest = state;
    }

pub returns : goal.returns
returns c =
    fetches c.next_packet.result _ c.args.self.now c.next_packet.new.self c.args.out.now c.next_packet.new.out refl c.next_packet.ensures.size
    c.next_packet.ensures.peer c.next_packet.ensures.written c.next_packet.ensures.state c.next_packet.ensures.none
