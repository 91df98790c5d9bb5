-- What some acts of the acquisition dropped, worked out by hand, behind two fills.
use Rattle.std.specs.Prelude.{◌≡◌, ℕ, true, false, List, [], ◌∷◌, Option, Some, None}
use Rattle.board_machine.specs.declared.events.Entry.{Entry}
use Rattle.board_machine.specs.declared.events.Event.TheVariants.{Pool, Claim, Fill, Take}
use Rattle.board_machine.specs.declared.events.TakeEnd.TheVariants.{Taken, Empty}
use Rattle.board_machine.specs.Machine.{Item, entry}
use Rattle.acquisition_machine.specs.Worked.{seen}
use Rattle.script_trace.specs.Trace.{caller, acquirer}
use Rattle.script_trace.specs.Drops.{drops_from}

-- an entry of the output: this place, with the whole image of this block
abbrev pub waiting : ℕ → ℕ → Item
waiting place block = record {
  place = place;
  filling = record { bytes = 97 ∷ []; rec = record { block = block; complete = true; larger = false; has_leader = true; data_len = 1; filled = 1; image = seen 1 1; account = None } };
}

abbrev pub fills_with : Item → Entry
fills_with x = entry acquirer (Fill x.place x.filling true)

abbrev pub two_fills : List Entry
two_fills = fills_with (waiting 3 6) ∷ fills_with (waiting 1 7) ∷ []

abbrev pub takes : ℕ → ℕ → Entry
takes k place = entry k (Take (Taken place))

abbrev pub pools : ℕ → Entry
pools place = entry acquirer (Pool place)

abbrev pub claims : Option ℕ → Entry
claims place = entry acquirer (Claim place)

-- a take that finds nothing
abbrev pub misses : Entry
misses = entry acquirer (Take Empty)

pub record DropsAreWorked : Type 0 where
  -- the pool is empty, so that the claim takes the oldest entry
  pub claim_takes : drops_from two_fills false [] (claims None ∷ takes acquirer 3 ∷ []) ≡ (waiting 3 6 ∷ []) ∷ []
  -- both are taken and pooled, and the newest is filled
  pub newest :
      drops_from two_fills false [] (takes acquirer 3 ∷ pools 3 ∷ takes acquirer 1 ∷ pools 1 ∷ misses ∷ fills_with (waiting 2 8) ∷ [])
      ≡ (waiting 3 6 ∷ waiting 1 7 ∷ []) ∷ []
  -- the claim gets a place of the pool
  pub claim_gets : drops_from two_fills false [] (claims (Some 2) ∷ []) ≡ [] ∷ []
  -- there is nothing to take
  pub nothing : drops_from [] false [] (claims None ∷ misses ∷ []) ≡ [] ∷ []
  -- and a claim that takes nothing, whatever waits
  pub claim_alone : drops_from two_fills false [] (claims None ∷ []) ≡ [] ∷ []
  -- the take of another actor drops nothing
  pub another : drops_from two_fills false [] (takes caller 3 ∷ []) ≡ []
  -- a block that another displaces is filled, a claim takes the oldest, and another block is filled
  pub all_in_order :
      drops_from two_fills false []
      (takes acquirer 3 ∷ pools 3 ∷ fills_with (waiting 2 8) ∷ claims None ∷ takes acquirer 1 ∷ fills_with (waiting 1 9) ∷ [])
      ≡ (waiting 3 6 ∷ []) ∷ (waiting 1 7 ∷ []) ∷ [] ∷ []
