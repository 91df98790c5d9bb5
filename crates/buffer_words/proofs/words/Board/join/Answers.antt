use Rattle.std.proofs.Common.{subst, None}
use Rattle.buffer_words.specs.Passes.{Token, SameHands, own}
use Rattle.buffer_words.specs.Witness.{StaysOwn}
use Rattle.buffer_words.proofs.Handling.{token, looks_same, seen_slot}
use Rattle.buffer_words.proofs.Partings.{join_pass, no_slots, no_hands}
use Rattle.buffer_words.proofs.Working.{own_for_good}
use Rattle.buffer_words.proofs.words.Board.join.Goals as goal

pub meet-requires-clause-no_slots : goal.meet-requires-clause-no_slots
meet-requires-clause-no_slots c =
    no_slots c.other.inside.seat.me.1 (λ i. seen_slot c.args.other c.other.inside.seat.table_id c.other.inside.seat.me i None c.other.view_is (c.requires.empty i))

pub meet-requires-clause-no_hands : goal.meet-requires-clause-no_hands
meet-requires-clause-no_hands c =
    no_hands c.other.inside.held.items c.other.inside.seat.me.0 c.other.inside.seat.me.1 c.other.invariant
    (no_slots c.other.inside.seat.me.1 (λ i. seen_slot c.args.other c.other.inside.seat.table_id c.other.inside.seat.me i None c.other.view_is (c.requires.empty i)))

pub invariant_of-pass : goal.invariant_of-pass
invariant_of-pass c = join_pass _ _ _ _ c.pass.invariant c.meet.ensures.met.joins

pub returns-clause-hands : goal.returns-clause-hands
returns-clause-hands c =
    subst (λ (s : Token). SameHands s (token c.meet.new.seat.table_id c.meet.new.seat.me)) c.pass.view_is
    (looks_same _ _ _ _ _ c.pass.invariant.carries c.meet.ensures.met.joins)

pub returns-clause-later : goal.returns-clause-later
returns-clause-later c =
    subst (λ (s : Token). StaysOwn s.number c.meet.new.seat.me.0.seen (own s)) c.other.view_is (own_for_good _ _ _ c.meet.ensures.met.ended c.meet.ensures.met.own)
