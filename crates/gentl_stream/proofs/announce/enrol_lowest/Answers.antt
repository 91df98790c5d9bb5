use Rattle.std.proofs.Common.{[], refl, ◌∙◌}
use Rattle.buffer_words.proofs.Retries.{hands_self, hands_then}
use Rattle.gentl_stream.proofs.Rounds.{of_nothing}
use Rattle.gentl_stream.proofs.Announcing.{enrol_more, enrol_found}
use Rattle.gentl_stream.proofs.Giving.{brings_later}
use Rattle.gentl_stream.proofs.announce.enrol_lowest.Goals as goal

pub enrol-requires-clause-table : goal.enrol-requires-clause-table
enrol-requires-clause-table c = c.loop-place.invariant.tried.enters.table ∙ c.requires.table

pub loop-place-init : goal.loop-place-init
loop-place-init c = record {
  tried = of_nothing _ _ (record { words = []; all = refl; is = refl });
  same = refl;
  hands = hands_self _;
}

pub loop-place-preserved : goal.loop-place-preserved
loop-place-preserved c = record {
  tried = enrol_more _ _ _ c.loop-place.place c.loop-place.buf c.args.buf c.in-Err._word c.loop-place.invariant.same c.loop-place.invariant.tried c.in-Err.ensures.entry;
  same = c.in-Err.ensures.back ∙ c.loop-place.invariant.same;
  hands = hands_then _ _ _ c.loop-place.invariant.hands c.in-Err.ensures.refused;
}

pub returns-in-Ok-clause-entries : goal.returns-in-Ok-clause-entries
returns-in-Ok-clause-entries c =
    enrol_found _ _ _ c.loop-place.place c.in-Ok.generation c.loop-place.buf c.args.buf c.loop-place.invariant.same c.loop-place.invariant.tried c.in-Ok.ensures.entry

pub returns-in-Ok-clause-hands : goal.returns-in-Ok-clause-hands
returns-in-Ok-clause-hands c = brings_later _ c.loop-place.buf _ _ _ _ c.loop-place.invariant.same c.loop-place.invariant.hands c.in-Ok.ensures.new c.in-Ok.ensures.done
