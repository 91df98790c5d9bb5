use Rattle.std.proofs.Common.{arith, rules}
use Rattle.gentl_stream.proofs.Rounds.{left_there, grabbed_there, missed_there}
use Rattle.buffer_words.proofs.Retries.{hands_then}
use Rattle.buffer_words.proofs.Hands.{gets_gone}
use Rattle.gentl_stream.proofs.places.pool_if_held.Goals as goal

pub returns-then-ne-clause-entries : goal.returns-then-ne-clause-entries
returns-then-ne-clause-entries c = left_there _ _ _ _ (first_of (search rules, grind arith)) c.load-word.ensures.entry

pub returns-in-Ok-clause-entries : goal.returns-in-Ok-clause-entries
returns-in-Ok-clause-entries c = grabbed_there _ _ _ _ _ _ (first_of (search rules, grind arith)) c.load-word.ensures.entry c.in-Ok.ensures.entry c.put_back.ensures.entry

pub returns-in-Err-clause-entries : goal.returns-in-Err-clause-entries
returns-in-Err-clause-entries c = missed_there _ _ _ _ _ _ (first_of (search rules, grind arith)) c.load-word.ensures.entry c.in-Err.ensures.entry

pub returns-in-Ok-clause-hands : goal.returns-in-Ok-clause-hands
returns-in-Ok-clause-hands c = hands_then _ _ _ c.load-word.ensures.hands (gets_gone _ _ _ _ c.in-Ok.ensures.done c.put_back.ensures.hands)
