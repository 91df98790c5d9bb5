-- The rounds of a soak run: 10 ms of the world each.
use Rattle.std.specs.Prelude.{ℕ, zero, suc, ◌+◌, ◌==◌, ◌&&◌, ◌||◌, Bool, true, false, not, nat_lt, if◌then◌else◌, List, [], ◌∷◌, ◌++◌, Option, Some, None}
use Rattle.gev_report.specs.declared.soak_numbers.SoakNumbers.{SoakNumbers}
use Rattle.gev_report.specs.SoakLine.{soak_line}
use Rattle.world_machine.specs.State.{HostNumbers, Host, Run, World, new_world}
use Rattle.world_machine.specs.ClientTurn.{End, done, SETUP_SIZE, client_turn}
use Rattle.world_machine.specs.CameraTurn.{camera_turn, makes}
use Rattle.world_machine.specs.HostTurn.{host_turn, asks, takes}

-- how many milliseconds a round takes
abbrev pub ROUND_TIME : ℕ
ROUND_TIME = 10

abbrev pub rises : {A : Type 0} → World A → World A
rises w = record w { moment = w.moment + ROUND_TIME }

-- ---- the end

abbrev pub is_nothing : {B : Type 0} → List B → Bool
is_nothing [] = true
is_nothing (x ∷ xs) = false

-- The setup is done, all frames were sent or their sending ended, no block is open, and nothing is on
-- its way.
abbrev pub is_done : {A : Type 0} → Run → Host A → World A → Bool
is_done run host w =
    (w.done == SETUP_SIZE) && (not (nat_lt w.made run.frames) || w.is_over) && host.is_idle w.host
    && is_nothing w.to_camera && is_nothing w.to_host

abbrev pub numbers_of : ℕ → ℕ → HostNumbers → SoakNumbers
numbers_of frames commands n = record {
  frames = frames;
  taken = n.taken;
  complete = n.complete;
  incomplete = n.incomplete;
  underrun = n.underrun;
  requests = n.requests;
  commands = commands;
}

-- the line that a run ends with
abbrev pub last_line : {A : Type 0} → Run → Host A → World A → List ℕ
last_line run host w = soak_line (numbers_of run.frames w.camera.executed (host.numbers w.host))

-- ---- a round

-- What a round leaves and writes, and whether the run ends with it.
pub record Round (A : Type 0) : Type 0 where
  pub world : World A
  pub text : List ℕ
  pub end : Option End

-- a round that ends the run before its time
abbrev pub given_up : {A : Type 0} → World A → End → Round A
given_up w e = record { world = w; text = []; end = Some e }

-- the end of a round whose take lines are these
abbrev pub closes : {A : Type 0} → Run → Host A → World A → List ℕ → Round A
closes run host w lines =
    if is_done run host w then record { world = w; text = lines ++ last_line run host w; end = Some done }
    else record { world = w; text = lines; end = None }

-- after what reached the host
abbrev pub from_host : {A : Type 0} → Run → Host A → Option End → World A → Round A
from_host run host (Some e) w = given_up w e
from_host run host None w = closes run host (takes host (asks run host w)) (host.lines (asks run host w).host)

-- after the client's turn
abbrev pub from_camera : {A : Type 0} → Run → Host A → Option End → World A → Round A
from_camera run host (Some e) w = given_up w e
from_camera run host None w =
    let arrived = host_turn host (makes run (camera_turn run w)) in from_host run host arrived.end arrived.world

abbrev pub round : {A : Type 0} → Run → Host A → World A → Round A
round run host w = let turn = client_turn run (rises w) in from_camera run host turn.end turn.world

-- the world after so many rounds, where the run didn't end before
abbrev pub world_after : {A : Type 0} → Run → Host A → A → ℕ → World A
world_after run host start zero = new_world run start
world_after run host start (suc n) = (round run host (world_after run host start n)).world
