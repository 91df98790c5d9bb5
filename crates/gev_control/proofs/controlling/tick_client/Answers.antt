-- Where the command had no answer the turn ends, and nothing is sent.
use Rattle.std.proofs.Common.{◌≡◌, ℕ, List, [], ◌∷◌, Option, refl, subst}
use Rattle.client_machine.specs.declared.outcome.Outcome.{Outcome}
use Rattle.client_machine.specs.declared.outcome.Outcome.TheVariants.{NoAnswer}
use Rattle.client_machine.specs.Machine.{Client, ticked}
use Rattle.client_machine.specs.Events.{ticks}
use Rattle.gev_links.specs.Links.{Address}
use Rattle.gev_links.proofs.Growing.{adds_none}
use Rattle.gev_control.specs.declared.turn_end.TurnEnd.TheVariants as ends
use Rattle.gev_control.specs.Controlled.{after_tick, ticks_turn, Does}
use Rattle.gev_control.proofs.controlling.tick_client.Goals as goal

gives_up : (s t : Client) (moment req : ℕ) (camera : Address) (sent : Option (List (Address × List ℕ))) → NoAnswer req ≡ (ticked s moment).outcome
    → t ≡ (ticked s moment).client → Does (ticks_turn [] s moment) camera (ends.NoAnswer req) t sent sent
gives_up s t moment req camera sent is state =
    subst (λ (o : Outcome). Does (after_tick (ticks moment ∷ []) (ticked s moment).client o) camera (ends.NoAnswer req) t sent sent) is
    (record { state = state; ends_as = refl; sent = adds_none sent })

pub returns-in-NoAnswer-clause-does : goal.returns-in-NoAnswer-clause-does
returns-in-NoAnswer-clause-does g c =
    gives_up c.args.client.now c.tick.new.self c.args.moment _ c.args.camera (g.M.Link.sent c.args.control.now) c.in-NoAnswer.ensures.outcome
    c.tick.ensures.state

pub returns-in-NoAnswer-clause-had : goal.returns-in-NoAnswer-clause-had
returns-in-NoAnswer-clause-had g c = tt
