-- Texts that were added one after another.
use Rattle.std.proofs.Common.{◌≡◌, ℕ, List, ◌++◌, Result, Ok, Err, ap, ◌∙◌, append_assoc}
use Rattle.std.specs.Result.{IsErr}
use Rattle.gev_types.specs.declared.memory.NoMemory.{NoMemory}
use Rattle.gev_script.specs.Writing.{IsGrown, Adds}

-- a text behind one that was added
pub grown_more : (old mid new s : List ℕ) → mid ≡ old ++ s → IsGrown mid new → IsGrown old new
grown_more old mid new s e h = record { more = s ++ h.more; parts = h.parts ∙ ap (λ t. t ++ h.more) e ∙ append_assoc old s h.more }

pub adds_more : (r : Result (Unit {0}) NoMemory) (old mid new s t : List ℕ) → mid ≡ old ++ s → Adds r mid new t → Adds r old new (s ++ t)
adds_more (Ok done) old mid new s t e h = h ∙ ap (λ u. u ++ t) e ∙ append_assoc old s t
adds_more (Err failure) old mid new s t e h = grown_more old mid new s e h

-- a failure, whatever was to be added
pub adds_failed : (r : Result (Unit {0}) NoMemory) (old new added : List ℕ) → IsErr r → IsGrown old new → Adds r old new added
adds_failed (Ok done) old new added is_err h = absurd (cc)
adds_failed (Err failure) old new added is_err h = h
