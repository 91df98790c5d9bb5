-- Turns of the wait, one after the other.
use Rattle.std.proofs.Common.{◌≡◌, ℕ, Bool, List, Option, Some, None, Result, Err, sym, subst}
use Rattle.gev_links.specs.Links.{Address}
use Rattle.first_leader.specs.declared.leading.FirstLeader.{FirstLeader}
use Rattle.first_leader.specs.declared.no_leader.NoLeader.{NoLeader}
use Rattle.first_leader.specs.declared.patience.Patience.{Patience}
use Rattle.first_leader.specs.declared.silence.Pace.{Pace}
use Rattle.first_leader.specs.Waiting.{WaitSide, Drops, Waits, goes_on, EndsTurn, found, unseen, ended, silent, MakesTurn, on, ends_so, PassesTime, time_left, time_spent, control_ended, InputOf, FaultsOf}

-- ---- a turn, by its look and what comes behind it

pub pass_ends : (camera : Address) (patience : Patience) (begin : ℕ) (pace pace_after : Pace) (o n : WaitSide) (why : NoLeader) → Drops o.received n.received
    → PassesTime camera patience begin pace pace_after o.told n.told o.client n.client o.heard n.heard o.sent n.sent (Some why)
    → EndsTurn camera patience begin pace o n (Err why)
pass_ends camera patience begin pace pace_after o n _ drops (time_spent moment told beats over) =
    silent moment (record { received = drops; told = told; beats = beats }) over
pass_ends camera patience begin pace pace_after o n _ drops (control_ended moment cause told beats) =
    ended moment cause (record { received = drops; told = told; beats = beats })

pub pass_on : (camera : Address) (patience : Patience) (begin : ℕ) (pace pace_after : Pace) (o n : WaitSide) → Drops o.received n.received
    → PassesTime camera patience begin pace pace_after o.told n.told o.client n.client o.heard n.heard o.sent n.sent None
    → MakesTurn camera patience begin pace pace_after o n None
pass_on camera patience begin pace pace_after o n drops (time_left moment told beats over next) =
    on moment (record { received = drops; told = told; beats = beats }) over next

-- ---- all turns

pub one_more : (camera : Address) (patience : Patience) (begin : ℕ) (o : WaitSide) (pace pace_after : Pace) (m n : WaitSide)
    → Waits camera patience.silence begin o pace m → MakesTurn camera patience begin pace pace_after m n None
    → Waits camera patience.silence begin o pace_after n
one_more camera patience begin o pace pace_after m n waits (on moment turn over next) =
    subst (λ (p : Pace). Waits camera patience.silence begin o p n) (sym next) (goes_on pace m n moment waits turn over)

pub turn_ends : (camera : Address) (patience : Patience) (begin : ℕ) (pace pace_after : Pace) (m n : WaitSide) (result : Result FirstLeader NoLeader)
    → MakesTurn camera patience begin pace pace_after m n (Some result) → EndsTurn camera patience begin pace m n result
turn_ends camera patience begin pace pace_after m n _ (ends_so result so) = so

pub no_input : (camera : Address) (patience : Patience) (begin : ℕ) (pace : Pace) (m n : WaitSide) (result : Result FirstLeader NoLeader) (left : Option (List ℕ))
    → EndsTurn camera patience begin pace m n result → InputOf result left
no_input camera patience begin pace m n _ left (found leader is same) = tt
no_input camera patience begin pace m n _ left (unseen drops same) = tt
no_input camera patience begin pace m n _ left (ended moment cause turn) = tt
no_input camera patience begin pace m n _ left (silent moment turn over) = tt

pub faults_from : (b : Bool) (x y z v w u : ℕ) → y ≡ x → w ≡ v → FaultsOf b y z w u → FaultsOf b x z v u
faults_from b x y z v w u one two faults =
    subst (λ (k : ℕ). FaultsOf b k z v u) one (subst (λ (k : ℕ). FaultsOf b y z k u) two faults)
