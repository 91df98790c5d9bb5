-- Whose the entries of a history are, and which actors it adds and ends.
use Rattle.std.specs.Prelude.{◌≢◌, ℕ, ◌≤◌, List, [], ◌∷◌, ◌++◌}
use Rattle.board_machine.specs.declared.events.Entry.{Entry}
use Rattle.board_machine.specs.declared.events.Event.{Event}
use Rattle.board_machine.specs.declared.events.Event.TheVariants.{Split, Join}
use Rattle.board_machine.specs.Places.{times}
use Rattle.board_machine.specs.Machine.{Board, IsActor}
use Rattle.board_machine.specs.Histories.{own_of}

-- the number that an event gives to a new actor
abbrev pub born_by : Event → List ℕ
born_by (Split n) = n ∷ []
born_by _ = []

-- the numbers that these entries gave to new actors, in order
abbrev pub born : List Entry → List ℕ
born [] = []
born (e ∷ es) = born_by e.event ++ born es

-- Who is added by one of these actors is one of them too.
abbrev pub BearOnly : List ℕ → List Entry → Type 0
BearOnly ks h = (k n : ℕ) → 1 ≤ times k ks → 1 ≤ times n (born (own_of k h)) → 1 ≤ times n ks

-- Each entry is one of these actors'.
abbrev pub AllBy : List ℕ → List Entry → Type 0
AllBy ks [] = Unit {0}
AllBy ks (e ∷ es) = (1 ≤ times e.by ks) × AllBy ks es

-- Every actor is one of these.
abbrev pub ActorsIn : List ℕ → Board → Type 0
ActorsIn ks b = (n : ℕ) → IsActor b n → 1 ≤ times n ks

-- no entry joins actor n into another
abbrev pub IsNeverJoined : ℕ → List Entry → Type 0
IsNeverJoined n [] = Unit {0}
IsNeverJoined n (e ∷ es) = (e.event ≢ Join n) × IsNeverJoined n es
