-- What a history that is a run has: one owner for each place, and legal hand-out.
use Rattle.std.proofs.Common.{ℕ, List}
use Rattle.atomic_table.specs.Table as table
use Rattle.atomic_table.specs.Seated.{TableId}
use Rattle.board_machine.specs.declared.events.Entry.{Entry}
use Rattle.board_machine.specs.declared.events.Event.{Event}
use Rattle.board_machine.specs.Histories.{Run}
use Rattle.board_machine.proofs.Forms.{owned_cases}
use Rattle.board_machine.proofs.Runs.{run_owned}
use Rattle.board_machine.proofs.Handouts.{run_legal}
use Rattle.buffer_words.specs.declared.view.View.{View}
use Rattle.buffer_words.specs.Rule.{Slot, Kept}
use Rattle.buffer_words.specs.Plays.{Seated}
use Rattle.buffer_words.specs.Passes.{Token, Enters, IsPass}
use Rattle.buffer_words.specs.Witness.{HoldsSlots, SizesFit, HasOneOwner, SawOneOwner}
use Rattle.buffer_words.proofs.Handling.{token, in_hand}

pub between_steps : (s : table.State Slot View) → Kept s → HasOneOwner s
between_steps s kept = record {
  history = kept.history;
  run = kept.run;
  owned = owned_cases _ (run_owned kept.history kept.run);
  legal = run_legal kept.history kept.run;
  shows = kept.shows;
  shelved = kept.shelved;
  seats = kept.seats;
}

pub saw_one_owner : (seen : List Entry) → Run seen → SawOneOwner seen
saw_one_owner seen run = record { run = run; owned = owned_cases _ (run_owned seen run); legal = run_legal seen run }

pub entries_are_owned : (s t : Token) (event : Event) → Enters s event t → SawOneOwner t.seen
entries_are_owned s t event e = saw_one_owner t.seen e.run

-- what a whole pass holds
pub holds_slots : (s : TableId) (order : List ℕ) (me : Seated) → IsPass order me.0 me.1 → HoldsSlots (token s me)
holds_slots s order me is i some = in_hand order me i is some

pub sizes_fit : (s : TableId) (order : List ℕ) (me : Seated) → IsPass order me.0 me.1 → SizesFit (token s me)
sizes_fit s order me is i f there = is.carries.sizes i f there
