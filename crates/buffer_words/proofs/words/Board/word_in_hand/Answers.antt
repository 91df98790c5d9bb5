use Rattle.std.proofs.Common.{subst, ◌∙◌}
use Rattle.buffer_words.specs.Passes.{Token, SameHands, GrowsTo}
use Rattle.board_machine.proofs.Runs.{run_owned}
use Rattle.buffer_words.proofs.Decoding.{decoded}
use Rattle.buffer_words.proofs.Handling.{token, whole_some, below_of}
use Rattle.buffer_words.proofs.Waits.{waits_pass, waits_hands, grows_to}
use Rattle.buffer_words.proofs.words.Board.word_in_hand.Goals as goal

pub read-requires-clause-in_range : goal.read-requires-clause-in_range
read-requires-clause-in_range c = below_of _ c.pass.inside.seat.me c.args.place c.pass.invariant (whole_some c.args.pass.now c.pass.inside.seat.table_id c.pass.inside.seat.me c.args.place c.pass.view_is c.requires.holds)

pub invariant_of-pass : goal.invariant_of-pass
invariant_of-pass c = waits_pass _ _ _ c.pass.invariant c.read.ensures.reads.waited c.read.ensures.reads.slots

pub returns : goal.returns
returns c = let told = c.read.ensures.reads in record {
  below = below_of _ c.pass.inside.seat.me c.args.place c.pass.invariant (whole_some c.args.pass.now c.pass.inside.seat.table_id c.pass.inside.seat.me c.args.place c.pass.view_is c.requires.holds);
  grows = subst (λ (s : Token). GrowsTo s (token c.read.new.seat.table_id c.read.new.seat.me)) c.pass.view_is (grows_to _ _ _ _ c.read.ensures.table told.waited.grows);
  run = told.waited.run;
  hands = subst (λ (s : Token). SameHands s (token c.read.new.seat.table_id c.read.new.seat.me)) c.pass.view_is (waits_hands _ _ _ _ _ c.pass.invariant told.waited.grows told.slots);
  word = c.word_of.ensures ∙ decoded _ _ ((run_owned _ told.waited.run).words c.args.place) told.word;
}
