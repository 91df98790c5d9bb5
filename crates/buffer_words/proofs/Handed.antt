-- What a take gives a whole pass.
use Rattle.std.proofs.Common.{◌≡◌, ℕ, ◌<◌, false, List, [], ◌∷◌, ◌++◌, Some, refl, sym, ap, ◌∙◌, arith}
use Rattle.std.proofs.lemmas.List.{same_from_push}
use Rattle.atomic_table.specs.Seated.{TableId}
use Rattle.board_machine.specs.declared.events.Event.TheVariants.{Take}
use Rattle.board_machine.specs.declared.events.TakeEnd.TheVariants.{Taken}
use Rattle.board_machine.specs.Machine.{item, places, entry}
use Rattle.board_machine.specs.Histories.{After}
use Rattle.board_machine.proofs.Runs.{run_owned}
use Rattle.buffer_words.specs.Codes.{out_code, mark_code}
use Rattle.buffer_words.proofs.Fields.{renamed, open_of}
use Rattle.buffer_words.proofs.Outs.{out_fields}
use Rattle.board_machine.specs.Handout.{handed, removed_items, taken_items}
use Rattle.board_machine.specs.Laws.{TakesFirst}
use Rattle.board_machine.proofs.Handed.{take_hands, taken_stays}
use Rattle.buffer_words.specs.Plays.{Seated}
use Rattle.buffer_words.specs.Passes.{IsPass}
use Rattle.buffer_words.specs.Output.{AreFields, HasFields, ReadsOut, TakesOut}
use Rattle.buffer_words.specs.Handing.{HandsOver}
use Rattle.buffer_words.proofs.Carried.{entered_runs, entered_front}
use Rattle.buffer_words.proofs.Grown.{grows_takes}
use Rattle.buffer_words.proofs.Handling.{token, takes_has, was_gone, buffer_pass}

-- the fields of a number that was read without the mark
pub reads_are : (me mid : Seated) (n : ℕ) → ReadsOut me n mid → n < 1152921504606846976 → AreFields n (places (After mid.0.seen).out)
reads_are me mid n told small =
    let b = After mid.0.seen in
    let unmarked : b.closed ≡ false = open_of n (out_code (places b.out)) b.closed told.sees small in
    renamed n (out_code (places b.out)) (places b.out) (omega (arith, told.sees, ap mark_code unmarked)) (out_fields b (run_owned mid.0.seen told.waited.run))

pub reads_fields : (me mid : Seated) (n : ℕ) → ReadsOut me n mid → n < 1152921504606846976 → HasFields n
reads_fields me mid n told small = record { places = places (After mid.0.seen).out; are = reads_are me mid n told small }

-- a take after its load
pub take_done : (me mid after : Seated) (loaded place : ℕ) → ReadsOut me loaded mid → TakesOut mid place after → TakesOut me place after
take_done me mid after loaded place first second = record {
  takes = record {
    filling = second.takes.filling;
    takes = grows_takes me mid after (Take (Taken place)) place (Some second.takes.filling) first.waited.grows first.slots second.takes.takes;
    size = second.takes.size;
  };
  earlier = second.earlier;
  removed = second.removed;
}

pub take_pass : (order : List ℕ) (me after : Seated) (place : ℕ) → IsPass order me.0 me.1 → TakesOut me place after → IsPass (place ∷ order) after.0 after.1
take_pass order me after place is told = buffer_pass order me after (Take (Taken place)) place is told.takes (λ b. refl)

pub hands_over : (table table' : TableId) (order : List ℕ) (me after : Seated) (place : ℕ) → IsPass order me.0 me.1 → TakesOut me place after → place < 15
    → HandsOver place (token table me) (token table' after)
hands_over table table' order me after place is told below = record {
  below = below;
  new = was_gone (place ∷ order) me after (Take (Taken place)) place (Some told.takes.filling) told.takes.takes (take_pass order me after place is told);
  filling = told.takes.filling;
  has = takes_has table table' me after (Take (Taken place)) place (Some told.takes.filling) is.carries told.takes.takes;
  size = told.takes.size;
  earlier = told.earlier;
  removed = told.removed;
  taken = ap (λ l. taken_items me.0.number l) told.takes.takes.entered.seen
      ∙ (first.taken ∙ (ap (λ xs. xs ++ item place first.filling ∷ []) stays ∙ ap (λ x. taken_items me.0.number me.0.seen ++ x ∷ []) one));
}
  where
    first : TakesFirst (me.0.seen ++ told.takes.takes.entered.between) place (entry me.0.number (Take (Taken place)))
    first = take_hands (me.0.seen ++ told.takes.takes.entered.between) (entry me.0.number (Take (Taken place))) place (entered_runs me.0 after.0 (Take (Taken place)) told.takes.takes.entered) refl

    stays : taken_items me.0.number (me.0.seen ++ told.takes.takes.entered.between) ≡ taken_items me.0.number me.0.seen
    stays = taken_stays me.0.seen told.takes.takes.entered.between me.0.number (entered_front me.0 after.0 (Take (Taken place)) told.takes.takes.entered)
        (ap handed told.takes.takes.entered.grew.others)

    one : item place first.filling ≡ item place told.takes.filling
    one = (same_from_push (removed_items (me.0.seen ++ told.takes.takes.entered.between)) told.earlier (item place first.filling) (item place told.takes.filling)
        (sym first.removes ∙ (ap (λ l. removed_items l) (sym told.takes.takes.entered.seen) ∙ told.removed))).1
