-- What a round does to the client and to the setup: the client's turn and what arrives change them, and
-- nothing else but the time.
use Rattle.std.proofs.Common.{◌≡◌, ℕ, ◌+◌, Bool, true, false, List, [], ◌∷◌, ◌++◌, Option, Some, None, refl, sym, ◌∙◌, subst}
use Rattle.std.specs.Prelude.{if◌then◌else◌}
use Rattle.std.specs.List.{Contains}
use Rattle.stream_packets.specs.Packets.{StreamPacket}
use Rattle.gvsp_wire.specs.Plain.{plain}
use Rattle.lossy_queue.specs.declared.datagram.Channel.TheVariants.{Stream}
use Rattle.lossy_queue.specs.declared.datagram.Datagram.{Datagram}
use Rattle.client_machine.specs.Machine.{Client}
use Rattle.camera_machine.specs.Camera.{is_open}
use Rattle.camera_machine.specs.Events.{Turn, command_turn, tick_turn, frame_turn}
use Rattle.world_machine.specs.State.{Host, Run, World}
use Rattle.world_machine.specs.Queues.{to_camera, to_host, sent_to_camera, all_to_camera, ack_to_host, packets_to_host}
use Rattle.world_machine.specs.ClientTurn.{End, done, client_peer, client_turn}
use Rattle.world_machine.specs.CameraTurn.{turned, obeys, obeys_all, looks, camera_turn, is_due, makes}
use Rattle.world_machine.specs.HostTurn.{arrives, unless_ended, arrive_all, host_turn, asks, takes}
use Rattle.world_machine.specs.Rounds.{rises, is_done, last_line, Round, from_host, from_camera, round}
use Rattle.world_machine.proofs.Fits.{head_in, tail_in}

-- The client, how far the setup is, and the time.
pub record Progress : Type 0 where
  pub client : Client
  pub begun : ℕ
  pub done : ℕ
  pub moment : ℕ

abbrev pub progress_of : {A : Type 0} → World A → Progress
progress_of w = record { client = w.client; begun = w.begun; done = w.done; moment = w.moment }

-- ---- what leaves it

pub sent_stays : {A : Type 0} (run : Run) (w : World A) (o : Option (List ℕ)) → progress_of (sent_to_camera run w o) ≡ progress_of w
sent_stays run w None = refl
sent_stays run w (Some bytes) = refl

asked_stays : {A : Type 0} (run : Run) (w : World A) (asked : List (List ℕ)) → progress_of (all_to_camera run w asked) ≡ progress_of w
asked_stays run w [] = refl
asked_stays run w (bytes ∷ rest) = asked_stays run (to_camera run w bytes) rest

ack_stays : {A : Type 0} (run : Run) (w : World A) (o : Option (List ℕ)) → progress_of (ack_to_host run w o) ≡ progress_of w
ack_stays run w None = refl
ack_stays run w (Some bytes) = refl

packets_stay : {A : Type 0} (run : Run) (w : World A) (xs : List StreamPacket) → progress_of (packets_to_host run w xs) ≡ progress_of w
packets_stay run w [] = refl
packets_stay run w (x ∷ xs) = packets_stay run (to_host run w (record { channel = Stream; bytes = plain x })) xs

turned_stays : {A : Type 0} (run : Run) (w : World A) (t : Turn) → progress_of (turned run w t) ≡ progress_of w
turned_stays run w t = packets_stay run (ack_to_host run (record w { camera = t.camera }) t.ack) t.packets ∙ ack_stays run (record w { camera = t.camera }) t.ack

obeyed_stays : {A : Type 0} (run : Run) (w : World A) (ds : List Datagram) → progress_of (obeys_all run w ds) ≡ progress_of w
obeyed_stays run w [] = refl
obeyed_stays run w (d ∷ rest) = obeyed_stays run (obeys run w d) rest ∙ turned_stays run w (command_turn w.camera client_peer d.bytes w.moment)

camera_stays : {A : Type 0} (run : Run) (w : World A) → progress_of (camera_turn run w) ≡ progress_of w
camera_stays {A} run w = obeyed_stays run (looks run v) w.to_camera ∙ turned_stays run v (tick_turn w.camera w.moment)
  where
    v : World A
    v = record w { to_camera = [] }

frame_stays : {A : Type 0} (run : Run) (w : World A) → progress_of (makes run w) ≡ progress_of w
frame_stays {A} run w = go (is_due run w) (is_open w.camera)
  where
    v : World A
    v = record w { made = w.made + 1 }

    go : (due open_now : Bool)
        → progress_of (if due then (if open_now then turned run v (frame_turn w.camera) else record w { is_over = true }) else w) ≡ progress_of w
    go true true = turned_stays run v (frame_turn w.camera)
    go true false = refl
    go false open_now = refl

-- the world in which datagrams arrive, from that after the client's turn
abbrev pub shown : {A : Type 0} → Run → World A → World A
shown run w = makes run (camera_turn run w)

shown_stays : {A : Type 0} (run : Run) (w : World A) → progress_of (shown run w) ≡ progress_of w
shown_stays run w = frame_stays run (camera_turn run w) ∙ camera_stays run w

-- ---- what holds through a round that doesn't end the run

some_or_none : {B : Type 0} (o : Option B) (x : B) → o ≡ Some x → o ≡ None → ⊥
some_or_none o x p q = cc

-- P is kept by the arrival of each datagram that is R
abbrev pub IsCarried : {A : Type 0} → (Progress → Type 0) → (Datagram → Type 0) → Host A → Type 0
IsCarried {A} P R host =
    (v : World A) (d : Datagram) → R d → (arrives host v d.channel d.bytes).end ≡ None → P (progress_of v)
    → P (progress_of (arrives host v d.channel d.bytes).world)

module _ {A : Type 0} (P : Progress → Type 0) (R : Datagram → Type 0) (run : Run) (host : Host A) (carried : IsCarried P R host) where
  arrivals_carry : (ds : List Datagram) (w : World A) → ((d : Datagram) → Contains ds d → R d) → (arrive_all host w ds).end ≡ None → P (progress_of w)
      → P (progress_of (arrive_all host w ds).world)
  arrivals_carry [] w r e p = p
  arrivals_carry (d ∷ rest) w r e p =
      go (arrives host w d.channel d.bytes).end refl
      (λ more q. arrivals_carry rest (arrives host w d.channel d.bytes).world (λ x among. r x (tail_in d x rest among)) more q) e
    where
      v : World A
      v = (arrives host w d.channel d.bytes).world

      go : (o : Option End) → (arrives host w d.channel d.bytes).end ≡ o
          → ((arrive_all host v rest).end ≡ None → P (progress_of v) → P (progress_of (arrive_all host v rest).world))
          → (unless_ended o (arrives host w d.channel d.bytes) (arrive_all host v rest)).end ≡ None
          → P (progress_of (unless_ended o (arrives host w d.channel d.bytes) (arrive_all host v rest)).world)
      go None is more e = more e (carried w d (r d (head_in d rest)) is p)
      go (Some x) is more e = absurd (some_or_none (arrives host w d.channel d.bytes).end x is e)

  either_round : (b : Bool) (x y : Round A) → P (progress_of x.world) → P (progress_of y.world) → P (progress_of (if b then x else y).world)
  either_round true x y p q = p
  either_round false x y p q = q

  host_carries : (o : Option End) (v : World A) → (o ≡ None → P (progress_of v)) → (from_host run host o v).end ≡ None → P (progress_of (from_host run host o v).world)
  host_carries (Some x) v p e = absurd (some_or_none (Some x) x refl e)
  host_carries None v p e =
      either_round (is_done run host left) (record { world = left; text = lines ++ last_line run host left; end = Some done })
      (record { world = left; text = lines; end = None }) stays stays
    where
      left : World A
      left = takes host (asks run host v)

      lines : List ℕ
      lines = host.lines (asks run host v).host

      stays : P (progress_of left)
      stays = subst P (sym (asked_stays run (record v { host = host.ticks v.host v.moment }) (host.requests v.host v.moment))) (p refl)

  camera_carries : (o : Option End) (v : World A) → (o ≡ None → P (progress_of v)) → ((d : Datagram) → Contains (shown run v).to_host d → R d)
      → (from_camera run host o v).end ≡ None → P (progress_of (from_camera run host o v).world)
  camera_carries (Some x) v p r e = absurd (some_or_none (Some x) x refl e)
  camera_carries None v p r e =
      host_carries (host_turn host (shown run v)).end (host_turn host (shown run v)).world
      (λ is. arrivals_carry (shown run v).to_host (record (shown run v) { to_host = [] }) r is (subst P (sym (shown_stays run v)) (p refl))) e

  -- what holds after the client's turn holds after the round
  pub round_carries : (w : World A) → ((client_turn run (rises w)).end ≡ None → P (progress_of (client_turn run (rises w)).world))
      → ((d : Datagram) → Contains (shown run (client_turn run (rises w)).world).to_host d → R d)
      → (round run host w).end ≡ None → P (progress_of (round run host w).world)
  round_carries w p r e = camera_carries (client_turn run (rises w)).end (client_turn run (rises w)).world p r e
