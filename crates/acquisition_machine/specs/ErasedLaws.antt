-- What the acquisition machine doesn't read, and that runs of the same turns agree.
use Rattle.std.specs.Prelude.{◌≡◌, List, map, None}
use Rattle.acquisition_machine.specs.declared.config.AcqConfig.{AcqConfig}
use Rattle.acquisition_machine.specs.Blocks.{fills}
use Rattle.acquisition_machine.specs.Machine.{Input, State, step}
use Rattle.acquisition_machine.specs.Runs.{after_from, retired_from, requests_from, needs_from}
use Rattle.acquisition_machine.specs.Erased.{bare_state, bare_input, bare_retirement, bare_turn, uncounted, uncounted_turn, AreAlike, images}
use Rattle.acquisition_machine.specs.Turns.{Noted, IsRun, with_bytes}

-- Where a buffer lies makes no difference: told the same with every place erased, the machine makes the same
-- turn with every place erased; so for lists of inputs, their answers and their requests.
pub record PlacesAreNotRead : Type 0 where
  pub step : (c : AcqConfig) (s : State) (i : Input) → step c (bare_state s) (bare_input i) ≡ bare_turn (step c s i)
  pub after : (c : AcqConfig) (s : State) (q : List Input) → after_from c (bare_state s) (map bare_input q) ≡ bare_state (after_from c s q)
  pub retired : (c : AcqConfig) (s : State) (q : List Input) → retired_from c (bare_state s) (map bare_input q) ≡ map bare_retirement (retired_from c s q)
  pub needs : (c : AcqConfig) (s : State) (q : List Input) → needs_from c (bare_state s) (map bare_input q) ≡ needs_from c s q
  pub requests : (c : AcqConfig) (s : State) (q : List Input) → requests_from c (bare_state s) (map bare_input q) ≡ requests_from c s q

-- What was counted makes no difference to what is done, answered and asked for.
pub record CountsAreNotRead : Type 0 where
  pub step : (c : AcqConfig) (s : State) (i : Input) → uncounted_turn (step c (uncounted s) i) ≡ uncounted_turn (step c s i)
  pub after : (c : AcqConfig) (s : State) (q : List Input) → uncounted (after_from c (uncounted s) q) ≡ uncounted (after_from c s q)
  pub retired : (c : AcqConfig) (s : State) (q : List Input) → retired_from c (uncounted s) q ≡ retired_from c s q
  pub needs : (c : AcqConfig) (s : State) (q : List Input) → needs_from c (uncounted s) q ≡ needs_from c s q
  pub requests : (c : AcqConfig) (s : State) (q : List Input) → requests_from c (uncounted s) q ≡ requests_from c s q

-- Two runs of the same turns, from states that are alike, retire the same images in the same order, whatever
-- places their claims gave, and whether or not they were told datagrams without a byte.
abbrev pub RunsAgree : Type 0
RunsAgree =
    (c : AcqConfig) (s r : State) (ts : List Noted) (q p : List Input) → AreAlike s r → s.asked ≡ None
    → IsRun c s ts q → IsRun c r (map with_bytes ts) p
    → images (fills c.p (retired_from c s q)) ≡ images (fills c.p (retired_from c r p))
