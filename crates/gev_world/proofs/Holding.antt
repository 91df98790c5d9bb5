-- What holds of each soak run, from the laws of its world and of its end.
use Rattle.std.proofs.Common.{◌≡◌, ◌<◌, ◌^◌, ℕ, suc, List, Option, Some, None, refl, arith}
use Rattle.std.specs.Prelude.{IfSome}
use Rattle.stream_packets.specs.Packets.{StreamPacket}
use Rattle.stream_packets.specs.Sent.{IsSent}
use Rattle.gvsp_wire.specs.Reading.{packet_of}
use Rattle.world_laws.specs.Receiver.{soak_config, soak_host, start}
use Rattle.world_laws.specs.Packets.{soak_frames}
use Rattle.world_laws.proofs.Endings.{run_ends, soak_acts_once}
use Rattle.world_laws.proofs.PacketReads.{frame_of_block}
use Rattle.world_laws.proofs.PacketActs.{hears_its_frames}
use Rattle.world_machine.specs.State.{Run, image_shape, STORE_ROOM}
use Rattle.world_machine.specs.ClientTurn.{End, client_peer}
use Rattle.world_machine.specs.Laws.{EndsAfter, start_line}
use Rattle.world_laws.specs.Schedule.{IsWorld}
use Rattle.world_laws.specs.RunLaws.{RunHears}
use Rattle.world_laws.specs.SoakApplication.{soak_application}
use Rattle.world_laws.proofs.Worlds.{trace_keeps}
use Rattle.world_laws.proofs.Runs.{run_is_world, run_images, soak_applies}
use Rattle.world_laws.proofs.TakeTexts.{text_has_take_lines}
use Rattle.gev_world.specs.Runs.{events_of, SoakHolds}

if_some : {T : Type 0} {P : T → Type 0} (o : Option T) → ((x : T) → o ≡ Some x → P x) → IfSome o P
if_some None h = tt
if_some (Some x) h = h x refl

-- the receiver hears packets of the frames of the run's seed
soak_hears : (run : Run) (text : List ℕ) (e : End) (last : ℕ) → run.frames < 2 ^ 64 → EndsAfter run soak_host start text e last
    → RunHears run soak_host start (suc last) (soak_frames run) soak_config.p
soak_hears run text e last short ends = record {
  generated = record {
    same = λ b f is. (frame_of_block run b f is).0;
    valid = λ size lines. (hears_its_frames run).frames;
  };
  payload_size = record { at_least = omega arith; at_most = omega arith };
  heard = λ bytes among.
      if_some {P = λ (x : StreamPacket). IsSent (soak_frames run) soak_config.p x} (packet_of bytes)
      (λ x is. (hears_its_frames run).read short (suc last) (λ m below. ends.goes_on m (omega (arith, below))) bytes among x is);
}

pub soak_holds : (run : Run) (text : List ℕ) (e : End) (last : ℕ) → run.frames < 2 ^ 64 → EndsAfter run soak_host start text e last
    → SoakHolds run text e last
soak_holds run text e last short ends = record {
  ends = ends;
  few = (run_ends run).rounds last ends.goes_on;
  world = world;
  traces = λ t of_run. record {
    promises = trace_keeps run.seed image_shape STORE_ROOM client_peer (events_of run last) soak_config t world of_run;
    images = run_images run soak_host soak_application start (suc last) (soak_frames run) soak_config t soak_applies (soak_acts_once run).packets hears of_run;
  };
  lines = text_has_take_lines run text e last (soak_frames run) hears ends;
  once = λ few. (soak_acts_once run).once few (suc last) (λ m below. ends.goes_on m (omega (arith, below)));
}
  where
    world : IsWorld client_peer (start_line run) (events_of run last)
    world = (run_is_world run soak_host soak_application start (suc last) soak_applies).world (soak_acts_once run).packets

    hears : RunHears run soak_host start (suc last) (soak_frames run) soak_config.p
    hears = soak_hears run text e last short ends
