-- A try to take something out of a queue that was done, and one that was lost.
use Rattle.std.proofs.Common.{◌≡◌, ◌≢◌, ℕ, List, Some, subst, ◌∙◌}
use Rattle.atomic_table.specs.Seated.{TableId}
use Rattle.board_machine.specs.declared.events.Entry.{Entry}
use Rattle.board_machine.specs.declared.events.Event.{Event}
use Rattle.buffer_words.specs.Told.{Grows}
use Rattle.buffer_words.specs.Plays.{Seated, ReadsQueue, TakesBuffer}
use Rattle.buffer_words.specs.Passes.{Token, IsPass}
use Rattle.buffer_words.specs.Tries.{LostTo}
use Rattle.buffer_words.proofs.Grown.{grows_grows, grows_takes}
use Rattle.buffer_words.proofs.Waits.{waits_pass, waits_hands, grows_to}
use Rattle.buffer_words.proofs.Handling.{token}

-- a try that was lost
pub try_lost : (Sees : List Entry → ℕ → Type 0) (s : Token) (table table' : TableId) (order : List ℕ) (me mid after : Seated) (loaded found : ℕ) → token table me ≡ s → IsPass order me.0 me.1 → table' ≡ table
    → ReadsQueue Sees me loaded mid → ReadsQueue Sees mid found after → found ≢ loaded → LostTo Sees s loaded found (token table' after)
try_lost Sees s table table' order me mid after loaded found view is same first second apart = subst (λ t. LostTo Sees t loaded found (token table' after)) view (record {
  grows = grows_to table table' me after same all;
  hands = waits_hands table table' order me after is all (second.slots ∙ first.slots);
  differ = apart;
  first = mid.0.seen;
  later = record { rest = first.waited.grows.between; is = first.waited.grows.seen };
  begins = record { rest = second.waited.grows.between; is = second.waited.grows.seen };
  was = first.sees;
  is = second.sees;
})
  where
    all : Grows me.0 after.0
    all = grows_grows me.0 mid.0 after.0 first.waited.grows second.waited.grows

pub try_lost_pass : (Sees : List Entry → ℕ → Type 0) (order : List ℕ) (me mid after : Seated) (loaded found : ℕ) → IsPass order me.0 me.1 → ReadsQueue Sees me loaded mid → ReadsQueue Sees mid found after → IsPass order after.0 after.1
try_lost_pass Sees order me mid after loaded found is first second =
    waits_pass order mid after (waits_pass order me mid is first.waited first.slots) second.waited second.slots

pub try_done : (Sees : List Entry → ℕ → Type 0) (me mid after : Seated) (loaded place : ℕ) (event : Event) → ReadsQueue Sees me loaded mid → TakesBuffer mid event place after → TakesBuffer me event place after
try_done Sees me mid after loaded place event first second = record {
  filling = second.filling;
  takes = grows_takes me mid after event place (Some second.filling) first.waited.grows first.slots second.takes;
  size = second.size;
}
