use Rattle.std.proofs.Common.{rules, subst, Bool, List, ℕ}
use Rattle.board_machine.specs.declared.events.Event.TheVariants as event
use Rattle.buffer_words.specs.Plays.{LooksAt}
use Rattle.buffer_words.proofs.Fields.{one_fields, one_mark}
use Rattle.buffer_words.proofs.Outs.{looks_out}
use Rattle.buffer_words.proofs.words.Board.look_at_out.Goals as goal

pub load-number-requires : goal.load-number-requires
load-number-requires c = (c.requires.table, search rules, looks_out _ _ _ c.requires.idle)

pub places_in-requires : goal.places_in-requires
places_in-requires c = let told = c.load-number.ensures.2 in record { fields = record { places = told.places; are = told.is.fields } }

pub returns-clause-looks : goal.returns-clause-looks
returns-clause-looks c =
    let told = c.load-number.ensures.2 in
    subst (λ (is : List ℕ). LooksAt c.args.seat.now.me (event.LookOut is c.is_marked.result) c.load-number.new.seat.me)
    (one_fields _ _ _ told.is.fields c.places_in.ensures.fields)
    (subst (λ (mark : Bool). LooksAt c.args.seat.now.me (event.LookOut told.places mark) c.load-number.new.seat.me)
    (one_mark _ _ _ told.is.mark c.is_marked.ensures.mark) told.looks)
