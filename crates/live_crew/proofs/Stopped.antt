-- A worker that stops the run, and one that comes back.
use Rattle.std.proofs.Common.{◌≡◌, ℕ, Bool, true, false, Result, refl, sym, subst}
use Rattle.board_machine.specs.declared.events.Event.{Event}
use Rattle.board_machine.specs.declared.events.Event.TheVariants.{Stop}
use Rattle.buffer_words.specs.Passes.{Token, IsEmptyHanded}
use Rattle.buffer_words.specs.Workers.{Works}
use Rattle.buffer_words.proofs.Working.{works_stays, works_enters}
use Rattle.live_crew.specs.Stops.{StopsIf}
use Rattle.live_crew.specs.Crews.{ComesBack}

works_same : (kind : Event → Bool) (s : Token) → Works kind s s
works_same kind s = works_stays kind s s (record { table = refl; number = refl; seen = refl })

pub stop_works : (kind : Event → Bool) (over : Bool) (s t : Token) → ((answer : Result (Unit {0}) ℕ) → kind (Stop false answer) ≡ true) → StopsIf over s t → Works kind s t
stop_works kind true s t is stops = works_enters kind s t (Stop false stops.0) (is stops.0) stops.1
stop_works kind false s t is stops = subst (λ u. Works kind s u) (sym stops) (works_same kind s)

pub comes_back : (kind : Event → Bool) (s t : Token) → Works kind s t → IsEmptyHanded t → ComesBack s t
comes_back kind s t works empty = record { table = works.table; number = works.number; empty = empty }
