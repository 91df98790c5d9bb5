-- When the setup ends, and how, by the outcomes of its client.
use Rattle.std.specs.Prelude.{◌≡◌, ◌≢◌, ◌↔◌, ℕ, List, [], ◌∷◌, ◌++◌, Option, Some}
use Rattle.client_machine.specs.declared.outcome.Outcome.{Outcome}
use Rattle.client_machine.specs.declared.outcome.Outcome.TheVariants.{Refused, NoAnswer}
use Rattle.client_machine.specs.Machine.{Client, new_client}
use Rattle.client_machine.specs.Setup.{setup_commands, SETUP_SIZE}
use Rattle.gev_links.specs.Links.{Address, Answer}
use Rattle.gev_control.specs.declared.acq_end.AcqEnd.TheVariants as how
use Rattle.gev_control.specs.Controlled.{control_of}
use Rattle.gev_control.specs.OrderLaws.{tick_outcome, heard_outcomes, order_outcomes}
use Rattle.gev_control.specs.SetupTurns.{SetUp, set_up, SetupTurned, setup_turn}
use Rattle.gev_control.specs.SetsUp.{setup_after, SetupGoesOn, setup_events}
pub use Rattle.gev_control.specs.OrderLaws.{outcomes_of, outcomes_after, acks, acks_in, steps}

-- what the client tells of its tick
abbrev pub ticks_outcome : Address → SetUp → SetupTurned → Outcome
ticks_outcome stream s t = tick_outcome (setup_commands stream) s t

-- and of what came
abbrev pub hears_outcomes : Address → SetUp → SetupTurned → List Outcome
hears_outcomes stream s t = heard_outcomes (setup_commands stream) s t

-- all that it tells in these turns
abbrev pub setup_outcomes : Address → SetUp → List SetupTurned → List Outcome
setup_outcomes stream s ts = order_outcomes (setup_commands stream) s ts

-- ---- the laws

-- Of a client to which nothing was submitted: the setup ends with Stopped exactly where all its commands were
-- acknowledged.
abbrev pub StopsWhenAcknowledged : ℕ → Address → List SetupTurned → SetupTurned → Type 0
StopsWhenAcknowledged limit stream before last =
    SetupGoesOn stream (set_up (new_client limit) 0) before
    → ((setup_turn stream (setup_after stream (set_up (new_client limit) 0) before) last).end ≡ Some how.Stopped)
    ↔ (acks_in (setup_outcomes stream (set_up (new_client limit) 0) (before ++ last ∷ [])) ≡ SETUP_SIZE)

-- A turn ends the setup with NoAnswer or Refused exactly where the client tells just that, and never with Spent.
pub record EndsAsTheClient (stream : Address) (s : SetUp) (t : SetupTurned) : Type 0 where
  pub no_answer : (req : ℕ) → ((setup_turn stream s t).end ≡ Some (how.NoAnswer req)) ↔ (ticks_outcome stream s t ≡ NoAnswer req)
  pub refused : (status : ℕ) → ((setup_turn stream s t).end ≡ Some (how.Refused status)) ↔ (hears_outcomes stream s t ≡ Refused status ∷ [])
  pub never_spent : (setup_turn stream s t).end ≢ Some how.Spent

-- The client's state is what its machine makes of its events, in the turns of the setup and in those of the reader.
pub record IsTheClients : Type 0 where
  pub setup : (stream : Address) (s : SetUp) (ts : List SetupTurned) → (setup_after stream s ts).client ≡ steps s.client (setup_events stream s ts)
  pub control : (s : Client) (heard : Option Answer) (moment : ℕ) → (control_of s heard moment).state ≡ steps s (control_of s heard moment).events
