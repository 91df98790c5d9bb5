-- The host's turn of a round: what reached it, what it asks for again, and what its application takes.
use Rattle.std.specs.Prelude.{ℕ, ◌+◌, nat_lt, if◌then◌else◌, List, [], ◌∷◌, Option, Some, None}
use Rattle.lossy_queue.specs.declared.datagram.Channel.{Channel}
use Rattle.lossy_queue.specs.declared.datagram.Channel.TheVariants.{Control, Stream}
use Rattle.lossy_queue.specs.declared.datagram.Datagram.{Datagram}
use Rattle.client_machine.specs.declared.outcome.Outcome.{Outcome}
use Rattle.client_machine.specs.declared.outcome.Outcome.TheVariants.{Waiting, Idle, Acked, Refused, NoAnswer}
use Rattle.client_machine.specs.Machine.{Told, received}
use Rattle.world_machine.specs.State.{Host, Run, World}
use Rattle.world_machine.specs.Queues.{all_to_camera}
use Rattle.world_machine.specs.ClientTurn.{End, end_of, Passed}

-- ---- what reaches it

-- How many commands of the setup are acknowledged. An acknowledge is of the setup while one of its
-- commands is outstanding.
abbrev pub done_after : Outcome → ℕ → ℕ → ℕ
done_after (Waiting req) begun done = done
done_after Idle begun done = done
done_after Acked begun done = if nat_lt done begun then done + 1 else done
done_after (Refused status) begun done = done
done_after (NoAnswer req) begun done = done

abbrev pub client_told : {A : Type 0} → World A → Told → Passed A
client_told w told = record {
  world = record w { client = told.client; done = done_after told.outcome w.begun w.done };
  end = end_of told.outcome;
}

-- an acknowledge goes to the client, and a packet of the stream to the receiver
abbrev pub arrives : {A : Type 0} → Host A → World A → Channel → List ℕ → Passed A
arrives host w Control bytes = client_told w (received w.client bytes w.moment)
arrives host w Stream bytes = record { world = record w { host = host.hears w.host bytes }; end = None }

-- the run goes on with the rest, unless it ends
abbrev pub unless_ended : {B : Type 0} → Option End → B → B → B
unless_ended None ended rest = rest
unless_ended (Some e) ended rest = ended

-- what is on its way to the host, in order
abbrev pub arrive_all : {A : Type 0} → Host A → World A → List Datagram → Passed A
arrive_all host w [] = record { world = w; end = None }
arrive_all host w (d ∷ rest) =
    let first = arrives host w d.channel d.bytes in
    unless_ended first.end first (arrive_all host first.world rest)

abbrev pub host_turn : {A : Type 0} → Host A → World A → Passed A
host_turn host w = arrive_all host (record w { to_host = [] }) w.to_host

-- ---- what it does

-- the receiver's tick, and what it asks for on its way
abbrev pub asks : {A : Type 0} → Run → Host A → World A → World A
asks run host w = all_to_camera run (record w { host = host.ticks w.host w.moment }) (host.requests w.host w.moment)

-- the application takes what is there
abbrev pub takes : {A : Type 0} → Host A → World A → World A
takes host w = record w { host = host.takes w.host }
