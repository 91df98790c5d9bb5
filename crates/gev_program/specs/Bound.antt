-- Three links that ports gave, and what goes back to them.
use Rattle.std.specs.Prelude.{◌≡◌, ℕ, ◌+◌, ◌-◌, ◌≤◌, ◌^◌, min, List, ◌++◌, length, Option, Some, None}
use Rattle.gev_links.specs.Faults.{Rose}
use Rattle.gev_links.specs.Links.{Address, Answer}
use Rattle.gev_links.specs.PortsState.{AreNew}

-- These were told one after the other behind those. Ports that tell do so of three at least.
abbrev pub AllToldOfThree : {A : Type 0} → Option (List A) → Option (List A) → List A → Type 0
AllToldOfThree None new members = new ≡ None
AllToldOfThree (Some old) new members = length old + length members ≤ 3 → new ≡ Some (old ++ members)

-- After so many calls of bind, up to the counter's last value.
abbrev pub more_binds : ℕ → ℕ → ℕ
more_binds calls n = min (n + calls) (2 ^ 64 - 1)

-- A bind failed. Each one before it gave a link, so two at most did, and these came back, each as it was given.
pub record GivesBack {L : Type 0} (received : L → Option (List Answer)) (sent : L → Option (List (Address × List ℕ))) (faults : L → ℕ)
    (binds binds_after : ℕ) (old new : Option (List L)) : Type 0 where
  pub came : List L
  pub few : length came ≤ 2
  pub called : binds_after ≡ more_binds (length came + 1) binds
  pub unused : AreNew received sent faults came
  pub back : AllToldOfThree old new came

-- The ports' count of faults, by the counts of three links that came back: it rises exactly where one of them had
-- a fault.
pub record RaisesBy (camera stream control old new : ℕ) : Type 0 where
  pub stays : camera + stream + control ≡ 0 → new ≡ old
  pub rises : 1 ≤ camera + stream + control → Rose old new
