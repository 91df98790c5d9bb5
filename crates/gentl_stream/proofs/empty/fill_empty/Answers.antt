use Rattle.std.proofs.Common.{◌≡◌, ℕ, length, sym, ap, rules, arith, ◌∙◌}
use Rattle.gev_types.specs.Filling.{Filling}
use Rattle.board_machine.specs.Machine.{word_at}
use Rattle.board_machine.specs.Histories.{After}
use Rattle.buffer_words.specs.Passes.{Token, IsLifted, size_at, Stays, SamePlace}
use Rattle.buffer_words.proofs.Partings.{has_then}
use Rattle.buffer_words.proofs.Retries.{hands_then_has}
use Rattle.gentl_stream.proofs.Emptying.{filled_one, laid_one}
use Rattle.gentl_stream.proofs.empty.fill_empty.Goals as goal

size_stays : (i : ℕ) (s t : Token) → Stays s t → size_at t i ≡ size_at s i
size_stays i s t stays = ap (λ l. (word_at (After l) i).size) stays.seen

lifted_size : (i : ℕ) (s t : Token) → IsLifted s i → SamePlace i s t → size_at t i ≡ size_at s i
lifted_size i s t lift same = (same.buffer (λ none. cc)).size

pub fill-requires : goal.fill-requires
fill-requires g c = record {
  table = c.lift-buf.ensures.stays.table ∙ c.requires.table;
  holds = c.lift-buf.ensures.hands.here;
  size = ap length c.set_rec.ensures.bytes ∙ c.lift-buf.ensures.size ∙ sym (size_stays _ _ _ c.lift-buf.ensures.stays);
}

pub set_down-requires : goal.set_down-requires
set_down-requires g c =
    let same = c.in-Closed.ensures.hands c.args.place in
    record {
      table = c.in-Closed.ensures.entry.table ∙ c.lift-buf.ensures.stays.table ∙ c.requires.table;
      holds = same.slot ∙ c.lift-buf.ensures.hands.here;
      size = ap (λ (f : Filling). length f.bytes) c.in-Closed.ensures.back ∙ ap length c.set_rec.ensures.bytes ∙ c.lift-buf.ensures.size
          ∙ sym (lifted_size _ _ _ c.lift-buf.ensures.hands.here same ∙ size_stays _ _ _ c.lift-buf.ensures.stays);
    }

pub returns-in-Filled-clause-entries : goal.returns-in-Filled-clause-entries
returns-in-Filled-clause-entries g c =
    filled_one _ _ _ _ c.lift-buf.result c.set_rec.new.self c.lift-buf.ensures.was c.set_rec.ensures.bytes (c.set_rec.ensures.rec ∙ first_of (search rules, grind arith)) c.lift-buf.ensures.stays c.in-Filled.ensures.entry

pub returns-in-Closed-clause-entries : goal.returns-in-Closed-clause-entries
returns-in-Closed-clause-entries g c =
    laid_one _ _ _ _ _ _ c.lift-buf.result c.set_rec.new.self c.lift-buf.ensures.was c.set_rec.ensures.bytes (c.set_rec.ensures.rec ∙ first_of (search rules, grind arith)) c.lift-buf.ensures.stays c.in-Closed.ensures.entry c.set_down.ensures.stays c.lay.ensures.entry

pub returns-in-Filled-clause-hands : goal.returns-in-Filled-clause-hands
returns-in-Filled-clause-hands g c = has_then _ _ _ _ _ _ c.lift-buf.ensures.hands c.in-Filled.ensures.hands

pub returns-in-Closed-clause-hands : goal.returns-in-Closed-clause-hands
returns-in-Closed-clause-hands g c =
    has_then _ _ _ _ _ _ c.lift-buf.ensures.hands (hands_then_has _ _ _ _ _ c.in-Closed.ensures.hands (has_then _ _ _ _ _ _ c.set_down.ensures.hands c.lay.ensures.hands))
