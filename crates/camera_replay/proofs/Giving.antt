-- Calls for packets, as events, and what they print.
use Rattle.std.proofs.Common.{◌≡◌, ℕ, zero, suc, List, [], ◌∷◌, ◌++◌, refl, sym, ap, ◌∙◌, append_assoc, append-nil}
use Rattle.std.specs.Prelude.{option_to_list}
use Rattle.stream_packets.specs.Packets.{StreamPacket}
use Rattle.gvsp_wire.specs.Plain.{plain}
use Rattle.gev_report.specs.CameraLines.{stream_line}
use Rattle.camera_machine.specs.Camera.{Camera, stream_peer}
use Rattle.camera_machine.specs.Stream.{first_waiting, given, packets_given, after_given}
use Rattle.camera_machine.specs.Events.{Event, next_packet, step, after}
use Rattle.camera_machine.specs.Sending.{GivesInOrder}
use Rattle.camera_machine.proofs.Order.{in_order}
use Rattle.camera_replay.specs.Serving.{script_shape, script_camera, packets_text}
use Rattle.camera_replay.specs.Printing.{printed, printed_by, giving}
use Rattle.camera_replay.specs.Laws.{TurnsGiveAll}

-- ---- lists of events

pub after-append : (start : Camera) (es past : List Event) → after start (es ++ past) ≡ after (after start past) es
after-append start [] past = refl
after-append start (e ∷ es) past = ap (λ s. step s e) (after-append start es past)

pub printed_by-append : (start : Camera) (es past : List Event)
    → printed_by start (es ++ past) ≡ printed_by start past ++ printed_by (after start past) es
printed_by-append start [] past = sym (append-nil (printed_by start past))
printed_by-append start (e ∷ es) past =
    ap (λ text. text ++ printed (after start (es ++ past)) e) (printed_by-append start es past)
    ∙ (append_assoc (printed_by start past) (printed_by (after start past) es) (printed (after start (es ++ past)) e)
    ∙ ap (λ s. printed_by start past ++ (printed_by (after start past) es ++ printed s e)) (after-append start es past))

-- ---- packets that are given

packets_text-append : (port : ℕ) (xs ys : List StreamPacket) → packets_text port (xs ++ ys) ≡ packets_text port xs ++ packets_text port ys
packets_text-append port [] ys = refl
packets_text-append port (x ∷ xs) ys =
    ap (λ text. stream_line port (plain x) ++ text) (packets_text-append port xs ys)
    ∙ sym (append_assoc (stream_line port (plain x)) (packets_text port xs) (packets_text port ys))

-- the call that comes last may as well come first
giving-last : (n : ℕ) → giving n ++ next_packet ∷ [] ≡ next_packet ∷ giving n
giving-last zero = refl
giving-last (suc n) = ap (λ es. next_packet ∷ es) (giving-last n)

pub after-giving : (n : ℕ) (s : Camera) → after s (giving n) ≡ after_given n s
after-giving zero s = refl
after-giving (suc n) s =
    ap (after s) (sym (giving-last n)) ∙ (after-append s (giving n) (next_packet ∷ []) ∙ after-giving n (given s))

pub printed_by-giving : (n : ℕ) (s : Camera) → printed_by s (giving n) ≡ packets_text (stream_peer s).port (packets_given n s)
printed_by-giving zero s = refl
printed_by-giving (suc n) s =
    let given_first : List StreamPacket = option_to_list (first_waiting s.waiting) in
    ap (printed_by s) (sym (giving-last n))
    ∙ (printed_by-append s (giving n) (next_packet ∷ [])
    ∙ (ap (λ text. packets_text (stream_peer s).port given_first ++ text) (printed_by-giving n (given s))
    ∙ sym (packets_text-append (stream_peer s).port given_first (packets_given n (given s)))))

-- ---- all that waits

pub gives_in_order : (es : List Event) → GivesInOrder (after script_camera es)
gives_in_order es = in_order 0 script_shape 4 es

pub turns_give : TurnsGiveAll
turns_give es ack = record { packets = sym (gives_in_order es).all; camera = sym (gives_in_order es).emptied }
