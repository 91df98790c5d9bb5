-- Only the client's turn of a round submits commands.
use Rattle.std.proofs.Common.{◌≡◌, ℕ, zero, suc, Bool, true, false, List, [], ◌∷◌, Option, Some, None, refl, ◌∙◌}
use Rattle.std.specs.Prelude.{if◌then◌else◌}
use Rattle.lossy_queue.specs.declared.datagram.Channel.{Channel}
use Rattle.lossy_queue.specs.declared.datagram.Channel.TheVariants.{Control, Stream}
use Rattle.lossy_queue.specs.declared.datagram.Datagram.{Datagram}
use Rattle.camera_machine.specs.Camera.{Camera, is_open}
use Rattle.camera_machine.specs.Stream.{waiting_count}
use Rattle.camera_machine.specs.Events as cameras
use Rattle.world_machine.specs.Schedule.{Act, at_camera}
use Rattle.world_machine.specs.State.{Host, Run, World}
use Rattle.world_machine.specs.ClientTurn.{End, client_peer}
use Rattle.world_machine.specs.CameraTurn.{obeys, looks, camera_turn, is_due, makes}
use Rattle.world_machine.specs.HostTurn.{arrives, unless_ended}
use Rattle.world_machine.specs.Acts.{with_packets, with_turn, with_obeyed, with_all_obeyed, with_camera_turn, with_frame, with_arrival, with_arrivals, with_rest}
use Rattle.world_machine.proofs.Fits.{line_of}

-- what was submitted by these acts
abbrev pub submitted_by : Run → List Act → List (List ℕ)
submitted_by run acts = (line_of run acts).submitted

packets_submit_none : (run : Run) (k : ℕ) (acts : List Act) → submitted_by run (with_packets k acts) ≡ submitted_by run acts
packets_submit_none run zero acts = refl
packets_submit_none run (suc k) acts = packets_submit_none run k (at_camera cameras.next_packet ∷ acts)

turn_submits_none : (run : Run) (c : Camera) (e : cameras.Event) (acts : List Act) → submitted_by run (with_turn c e acts) ≡ submitted_by run acts
turn_submits_none run c e acts = packets_submit_none run (waiting_count (cameras.step c e)) (at_camera e ∷ acts)

obeying_submits_none : {A : Type 0} (run : Run) (w : World A) (ds : List Datagram) (acts : List Act)
    → submitted_by run (with_all_obeyed run w ds acts) ≡ submitted_by run acts
obeying_submits_none run w [] acts = refl
obeying_submits_none run w (d ∷ rest) acts =
    obeying_submits_none run (obeys run w d) rest (with_obeyed w d acts)
    ∙ turn_submits_none run w.camera (cameras.command client_peer d.bytes w.moment) acts

camera_submits_none : {A : Type 0} (run : Run) (w : World A) (acts : List Act) → submitted_by run (with_camera_turn run w acts) ≡ submitted_by run acts
camera_submits_none run w acts =
    obeying_submits_none run (looks run (record w { to_camera = [] })) w.to_camera (with_turn w.camera (cameras.tick w.moment) acts)
    ∙ turn_submits_none run w.camera (cameras.tick w.moment) acts

frame_submits_none : {A : Type 0} (run : Run) (w : World A) (acts : List Act) → submitted_by run (with_frame run w acts) ≡ submitted_by run acts
frame_submits_none run w acts = go (is_due run w) (is_open w.camera)
  where
    go : (due open_now : Bool)
        → submitted_by run (if due then (if open_now then with_turn w.camera cameras.make_frame acts else acts) else acts) ≡ submitted_by run acts
    go true true = turn_submits_none run w.camera cameras.make_frame acts
    go true false = refl
    go false open_now = refl

arrival_submits_none : (run : Run) (channel : Channel) (bytes : List ℕ) (moment : ℕ) (acts : List Act)
    → submitted_by run (with_arrival channel bytes moment acts) ≡ submitted_by run acts
arrival_submits_none run Control bytes moment acts = refl
arrival_submits_none run Stream bytes moment acts = refl

arrivals_submit_none : {A : Type 0} (run : Run) (host : Host A) (w : World A) (ds : List Datagram) (acts : List Act)
    → submitted_by run (with_arrivals host w ds acts) ≡ submitted_by run acts
arrivals_submit_none run host w [] acts = refl
arrivals_submit_none {A} run host w (d ∷ rest) acts =
    go (arrives host w d.channel d.bytes).end (arrivals_submit_none run host (arrives host w d.channel d.bytes).world rest next ∙ first)
  where
    next : List Act
    next = with_arrival d.channel d.bytes w.moment acts

    first : submitted_by run next ≡ submitted_by run acts
    first = arrival_submits_none run d.channel d.bytes w.moment acts

    go : (o : Option End) → submitted_by run (with_arrivals host (arrives host w d.channel d.bytes).world rest next) ≡ submitted_by run acts
        → submitted_by run (unless_ended o next (with_arrivals host (arrives host w d.channel d.bytes).world rest next)) ≡ submitted_by run acts
    go None more = more
    go (Some e) more = first

-- what follows the client's turn
pub rest_submits_none : {A : Type 0} (run : Run) (host : Host A) (o : Option End) (w : World A) (acts : List Act)
    → submitted_by run (with_rest run host o w acts) ≡ submitted_by run acts
rest_submits_none run host (Some e) w acts = refl
rest_submits_none {A} run host None w acts =
    arrivals_submit_none run host (record shown { to_host = [] }) shown.to_host (with_frame run seen (with_camera_turn run w acts))
    ∙ frame_submits_none run seen (with_camera_turn run w acts)
    ∙ camera_submits_none run w acts
  where
    seen : World A
    seen = camera_turn run w

    shown : World A
    shown = makes run seen
