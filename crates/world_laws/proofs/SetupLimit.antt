-- No round changes the limit of the client's sends.
use Rattle.std.proofs.Common.{◌≡◌, ℕ, List, Option, Some, None, refl, ap, ◌∙◌}
use Rattle.std.specs.Prelude.{⊤, slice_get}
use Rattle.gvcp_wire.specs.Messages.{PlainCommand}
use Rattle.lossy_queue.specs.declared.datagram.Channel.{Channel}
use Rattle.lossy_queue.specs.declared.datagram.Channel.TheVariants.{Control, Stream}
use Rattle.client_machine.specs.Times.{SEND_LIMIT}
use Rattle.client_machine.specs.Machine.{Asked, ticked, to_send, taken}
use Rattle.client_machine.specs.Events.{submits as submits_at, ticks as ticks_at, receives as receives_at}
use Rattle.client_machine.proofs.Limits.{step_keeps}
use Rattle.world_machine.specs.State.{Host, Run, World}
use Rattle.world_machine.specs.ClientTurn.{stream_peer, setup_commands, submits, begins, client_turn}
use Rattle.world_machine.specs.HostTurn.{arrives}
use Rattle.world_machine.specs.Rounds.{rises, round}
use Rattle.world_laws.proofs.SetupProgress.{Progress, progress_of, sent_stays, IsCarried, round_carries}

-- the client has this limit
abbrev HasLimit : Progress → Type 0
HasLimit p = p.client.limit ≡ SEND_LIMIT

begun_limit : {A : Type 0} (o : Option Asked) (c : Option PlainCommand) (w : World A) → (submits o c w).client.limit ≡ w.client.limit
begun_limit None None w = refl
begun_limit None (Some c) w = step_keeps w.client (submits_at c w.moment)
begun_limit (Some asked) c w = refl

turn_limit : {A : Type 0} (run : Run) (w : World A) → (client_turn run (rises w)).world.client.limit ≡ w.client.limit
turn_limit run w =
    let b = begins (rises w) in
    ap (λ (p : Progress). p.client.limit) (sent_stays run (record b { client = taken (ticked b.client (rises w).moment).client }) (to_send (ticked b.client (rises w).moment).client.asked))
    ∙ (step_keeps b.client (ticks_at (rises w).moment)
    ∙ begun_limit w.client.asked (slice_get (setup_commands stream_peer) w.begun) (rises w))

limit_carried : {A : Type 0} (host : Host A) → IsCarried HasLimit (λ d. ⊤) host
limit_carried {A} host v d any e p = go d.channel d.bytes
  where
    go : (channel : Channel) (bytes : List ℕ) → HasLimit (progress_of (arrives host v channel bytes).world)
    go Control bytes = step_keeps v.client (receives_at bytes v.moment) ∙ p
    go Stream bytes = p

pub round_limit : {A : Type 0} (run : Run) (host : Host A) (w : World A) → w.client.limit ≡ SEND_LIMIT → (round run host w).end ≡ None
    → (round run host w).world.client.limit ≡ SEND_LIMIT
round_limit run host w own e =
    round_carries HasLimit (λ d. ⊤) run host (limit_carried host) w (λ on. turn_limit run w ∙ own) (λ d among. tt) e
