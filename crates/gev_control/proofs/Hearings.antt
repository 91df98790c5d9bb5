-- The control part of a turn, by what the receive on the control link gave.
use Rattle.std.proofs.Common.{◌≡◌, ℕ, Bool, false, List, [], ◌∷◌, Option, Some, refl, sym, subst, inr}
use Rattle.client_machine.specs.Machine.{Client}
use Rattle.gev_links.specs.Links.{Address, Answer, failed}
use Rattle.gev_links.specs.Moments.{Tells, TellsEach}
use Rattle.gev_links.proofs.Growing.{tells_first, adds_none}
use Rattle.gev_control.specs.declared.turn_end.TurnEnd.{TurnEnd}
use Rattle.gev_control.specs.declared.turn_end.TurnEnd.TheVariants as ends
use Rattle.gev_control.specs.Controlled.{control_of, Does, ClientTurn}

-- the receive gave this, and the client did the turn that follows from it
pub turn_heard : (camera : Address) (s u : Client) (moment : ℕ) (was : Bool) (end : TurnEnd) (answer : Answer) (h k l : Option (List Answer))
    (w v x : Option (List (Address × List ℕ))) → was ≡ false → Tells h k answer → l ≡ k → v ≡ w
    → Does (control_of s (Some answer) moment) camera end u v x → ClientTurn camera s moment was end u h l w x
turn_heard camera s u moment was end answer h k l w v x fine told later sent does = record {
  heard = Some answer;
  lost = λ bad. let no : ⊥ = cc in absurd no;
  told = subst (λ (m : Option (List Answer)). TellsEach h m (answer ∷ [])) (sym later) (tells_first h k answer told);
  does = subst (λ (m : Option (List (Address × List ℕ))). Does (control_of s (Some answer) moment) camera end u m x) sent does;
}

-- the receive failed
pub turn_failed : (camera : Address) (s : Client) (moment : ℕ) (was : Bool) (h k : Option (List Answer)) (w v : Option (List (Address × List ℕ)))
    → was ≡ false → Tells h k failed → v ≡ w → ClientTurn camera s moment was ends.Fault s h k w v
turn_failed camera s moment was h k w v fine told sent =
    turn_heard camera s s moment was ends.Fault failed h k k w v v fine told refl sent
    (record { state = refl; ends_as = inr refl; sent = adds_none v })
