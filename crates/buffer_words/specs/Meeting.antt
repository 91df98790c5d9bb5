-- What the two steps of a split tell together, and those of a join.
use Rattle.std.specs.Prelude.{◌≡◌, ℕ, List, []}
use Rattle.board_machine.specs.declared.events.Entry.{Entry}
use Rattle.board_machine.specs.declared.events.Event.TheVariants.{Split, Join}
use Rattle.board_machine.specs.Places.{IsPrefix}
use Rattle.board_machine.specs.Histories.{After, own_of}
use Rattle.board_machine.specs.Laws.{IsEnded}
use Rattle.buffer_words.specs.declared.view.View.{View}
use Rattle.buffer_words.specs.declared.view.Stage.TheVariants.{Bearing}
use Rattle.buffer_words.specs.Rule.{Slots, idle}
use Rattle.buffer_words.specs.Plays.{Seated, LooksAt, Bears, joining}

-- An actor was added, whose pass isn't made yet.
pub record IsBearing (me : Seated) : Type 0 where
  pub number : ℕ
  pub seen : List Entry
  pub child : ℕ
  pub view : me.0 ≡ record { number = number; seen = seen; stage = Bearing child }

-- The pass has added an actor since it was so.
pub record HasBorne (before after : Seated) : Type 0 where
  pub child : ℕ
  pub bears : Bears before child after

-- The pass has added an actor, and this is the new actor's pass, which has done nothing.
pub record HasParted (before after child : Seated) : Type 0 where
  pub splits : LooksAt before (Split child.0.number) after
  pub new : child ≡ (idle child.0.number after.0.seen, [])
  pub unborn : own_of child.0.number child.0.seen ≡ []

-- Another pass was taken in, whose actor hasn't ended yet.
pub record IsJoining (me : Seated) : Type 0 where
  pub stays : View
  pub other : View
  pub slots : Slots
  pub is : me ≡ (joining stays other, slots)

-- The actor of the pass that was taken in has ended, and what it had seen and done was seen.
pub record HasMet (before : Seated) (other : View) (after : Seated) : Type 0 where
  pub joins : LooksAt before (Join other.number) after
  pub begins : IsPrefix other.seen after.0.seen
  pub own : own_of other.number after.0.seen ≡ own_of other.number other.seen
  pub ended : IsEnded (After after.0.seen) other.number
