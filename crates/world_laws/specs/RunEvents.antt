-- The events of a soak run: what its rounds do to the client and the camera, to its host, and to the
-- application of the host.
use Rattle.std.specs.Prelude.{ℕ, zero, suc, List, [], ◌∷◌, ◌++◌, map}
use Rattle.hex.specs.Hex.{encode_lower}
use Rattle.gev_script.specs.Lines as line
use Rattle.gev_script.specs.Lines.{ScriptLine}
use Rattle.camera_machine.specs.Events.{set_short}
use Rattle.world_machine.specs.Schedule.{at_camera}
use Rattle.world_machine.specs.State.{Host, Run, World}
use Rattle.world_machine.specs.Rounds.{world_after}
use Rattle.world_machine.specs.Acts.{with_round}
use Rattle.world_machine.specs.HostActs.{HostAct, host_hears, host_ticks, host_takes, host_after, with_host_round}
use Rattle.world_laws.specs.Schedule.{WorldEvent, at_session, hears, passes, applies}

-- What an application does, as lines of a replay script.
pub record Application (A : Type 0) : Type 0 where
  -- before the first round
  pub opens : List ScriptLine
  -- where it takes what a host has
  pub takes : A → List ScriptLine

-- ---- as lines, the first first

-- what an act does to a host
abbrev pub act_lines : {A : Type 0} → Application A → A → HostAct → List ScriptLine
act_lines app a (host_hears bytes) = line.datagram (encode_lower bytes) ∷ []
act_lines app a (host_ticks moment) = line.tick moment ∷ []
act_lines app a host_takes = app.takes a

-- what these acts, the latest of which comes first, do to a host that was so before them
abbrev pub lines_of_acts : {A : Type 0} → Host A → Application A → A → List HostAct → List ScriptLine
lines_of_acts host app a [] = []
lines_of_acts host app a (e ∷ hs) = lines_of_acts host app a hs ++ act_lines app (host_after host a hs) e

-- ---- as events, the latest first, in front of what happened before

abbrev pub with_lines : List ScriptLine → List WorldEvent → List WorldEvent
with_lines [] before = before
with_lines (l ∷ ls) before = with_lines ls (applies l ∷ before)

abbrev pub with_act : {A : Type 0} → Application A → A → HostAct → List WorldEvent → List WorldEvent
with_act app a (host_hears bytes) before = hears bytes ∷ before
with_act app a (host_ticks moment) before = passes moment ∷ before
with_act app a host_takes before = with_lines (app.takes a) before

abbrev pub with_acts : {A : Type 0} → Host A → Application A → A → List HostAct → List WorldEvent → List WorldEvent
with_acts host app a [] before = before
with_acts host app a (e ∷ hs) before = with_act app (host_after host a hs) e (with_acts host app a hs before)

-- A round: client and camera first, and then the host, since what reaches it was given by then.
abbrev pub with_round_events : {A : Type 0} → Run → Host A → Application A → World A → List WorldEvent → List WorldEvent
with_round_events run host app w before =
    with_acts host app w.host (with_host_round run host w []) (map at_session (with_round run host w []) ++ before)

-- All events of so many rounds. First the camera is told whether its frames are short, and the application opens.
abbrev pub events_after : {A : Type 0} → Run → Host A → Application A → A → ℕ → List WorldEvent
events_after run host app start zero = with_lines app.opens (at_session (at_camera (set_short run.short)) ∷ [])
events_after run host app start (suc n) = with_round_events run host app (world_after run host start n) (events_after run host app start n)
