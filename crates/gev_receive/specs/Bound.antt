-- The links and clocks that ports give for a run, and what comes back to them.
use Rattle.std.specs.Prelude.{◌≡◌, ℕ, ◌+◌, ◌≤◌, List, ◌++◌, length, Option, Some, None}
use Rattle.gev_links.specs.Faults.{Rose}
use Rattle.gev_links.specs.Given.{ToldOfThree}
use Rattle.gev_links.specs.Links.{Address, Answer}
use Rattle.gev_links.specs.PortsState.{IsNew}

-- the control port of a camera (GigE Vision 2.0, GVCP)
abbrev pub CONTROL_PORT : ℕ
CONTROL_PORT = 3956

abbrev pub control_peer : ℕ → Address
control_peer address = record { address = address; port = CONTROL_PORT }

-- These were told one after the other behind those. Ports that tell do so of three at least.
abbrev pub AllTold : {A : Type 0} → Option (List A) → Option (List A) → List A → Type 0
AllTold None new members = new ≡ None
AllTold (Some old) new members = length old + length members ≤ 3 → new ≡ Some (old ++ members)

-- A bind failed: that of the control link; or that of the stream's, and the control link came back as it was given.
pub data FailsToBind {L : Type 0} (heard : L → Option (List Answer)) (sent : L → Option (List (Address × List ℕ))) (faults : L → ℕ)
    (bound bound_after : Option (List Address)) (links links_after : Option (List L)) : Type 0 where
  control_failed : bound_after ≡ bound → links_after ≡ links → FailsToBind heard sent faults bound bound_after links links_after
  stream_failed : (address : Address) (link : L) → ToldOfThree bound bound_after address → IsNew (heard link) (sent link) (faults link)
      → ToldOfThree links links_after link → FailsToBind heard sent faults bound bound_after links links_after

-- The ports' count of faults, by the counts of the two links that came back: it rises exactly where one of them had a fault.
pub record RaisesByTwo (control stream old new : ℕ) : Type 0 where
  pub stays : control + stream ≡ 0 → new ≡ old
  pub rises : 1 ≤ control + stream → Rose old new
