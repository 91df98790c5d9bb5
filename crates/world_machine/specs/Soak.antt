-- The text of a soak run and its end.
use Rattle.std.specs.Prelude.{◌≡◌, ℕ, List, ◌++◌, Some, None}
use Rattle.world_machine.specs.State.{Host, Run, World, new_world}
use Rattle.world_machine.specs.ClientTurn.{End}
use Rattle.world_machine.specs.Rounds.{round}

-- What a run writes from a world on, round by round, and how it ends.
pub data Runs {A : Type 0} (run : Run) (host : Host A) : World A → List ℕ → End → Type 0 where
  last_round : (w : World A) (text : List ℕ) (e : End) → (round run host w).end ≡ Some e → text ≡ (round run host w).text → Runs run host w text e
  round_more : (w : World A) (text rest : List ℕ) (e : End) → (round run host w).end ≡ None → Runs run host (round run host w).world rest e
      → text ≡ (round run host w).text ++ rest → Runs run host w text e

-- A whole run, with this host, writes the text and ends so.
abbrev pub Soak : {A : Type 0} → Run → Host A → A → List ℕ → End → Type 0
Soak run host start text e = Runs run host (new_world run start) text e
