use Rattle.std.proofs.Common.{rules, refl, subst, List, ℕ}
use Rattle.board_machine.specs.declared.events.Event.TheVariants as event
use Rattle.buffer_words.specs.Swept.{TakesAll}
use Rattle.buffer_words.proofs.Fields.{one_fields}
use Rattle.buffer_words.proofs.Outs.{sweeps_out}
use Rattle.buffer_words.proofs.words.Board.sweep_out_word.Goals as goal

pub fetch_and-requires : goal.fetch_and-requires
fetch_and-requires c = (c.requires.table, search rules, sweeps_out _ _ _ _ c.requires.idle refl)

pub places_in-requires : goal.places_in-requires
places_in-requires c = let told = c.fetch_and.ensures.2 in record { fields = record { places = told.places; are = told.fields } }

pub returns-clause-sweeps : goal.returns-clause-sweeps
returns-clause-sweeps c =
    let told = c.fetch_and.ensures.2 in
    subst (λ (is : List ℕ). TakesAll c.args.seat.now.me (event.SweepOut is) is c.fetch_and.new.seat.me)
    (one_fields _ _ _ told.fields c.places_in.ensures.fields) told.takes
