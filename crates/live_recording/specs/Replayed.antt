-- What the replay of a recorded run's script reports, by the run's history.
use Rattle.std.specs.Prelude.{ℕ, List, map}
use Rattle.gev_types.specs.Filling.{Filling}
use Rattle.board_machine.specs.declared.events.Entry.{Entry}
use Rattle.board_machine.specs.Places.{IsPrefix}
use Rattle.board_machine.specs.Machine.{Item}
use Rattle.board_machine.specs.Handout.{filled, taken_items}
use Rattle.gev_record.specs.TakeLines.{take_lines, AreTakesOf}
use Rattle.gev_record.specs.Reports.{Reports}

-- what buffers hold, wherever they lie: bytes and record
abbrev pub contents : List Item → List Filling
contents xs = map (λ (x : Item). x.filling) xs

-- The script has a report; and in each report of it the take lines are those of all that was filled in this history,
-- in order, whatever ids the buffers have. What actor k took is the front of that.
pub record ReplaysFills (script : List ℕ) (k : ℕ) (h : List Entry) : Type 0 where
  pub report : List ℕ
  pub reports : Reports script report
  pub takes : (r : List ℕ) → Reports script r → AreTakesOf (take_lines r) (contents (filled h))
  pub own : IsPrefix (contents (taken_items k h)) (contents (filled h))
