-- What is told of fills and claims, beside what they do: which images were dropped for them.
use Rattle.std.specs.Prelude.{◌≡◌, ⊤, ℕ, Bool, List, ◌∷◌, length, map, take, option_map, is_some, Option, Some, None}
use Rattle.board_machine.specs.Machine.{Item}
use Rattle.board_model.specs.Plain.{PlainState}
use Rattle.acquisition_machine.specs.declared.retired.Retired.{Retired}
use Rattle.acq_core.specs.declared.window.Window.{Window}
use Rattle.board_calls.specs.declared.mode.Mode.{Mode}
use Rattle.board_model.specs.declared.gone.Gone.{Gone}
use Rattle.board_model.specs.Gone.{gone_of}
use Rattle.script_replay.specs.declared.fill_counts.FillCounts.{FillCounts}
use Rattle.script_replay.specs.declared.got.Got.{Got}
use Rattle.script_replay.specs.Acquiring.{CountsOne, Claims}

-- The fill is told: whether it was done, and which entries of the output gave way to it.
pub record TellsOne (mode : Mode) (x : Retired) (s : PlainState) (a : FillCounts) (new : PlainState) (b : FillCounts) (done : Bool) (seen : List Gone) : Type 0 where
  pub one : CountsOne mode x s a new b
  pub filled : done ≡ one.one.filled
  pub gone : seen ≡ map gone_of (take (length one.dropped) s.board.out)

-- the place of a claim, and whether another image was dropped for it
abbrev pub claim_of : Option Got → Option (ℕ × Bool)
claim_of got = option_map (λ g. (g.place, is_some g.dropped)) got

-- what was dropped was the output's first entry
abbrev pub GaveWay : List Item → ℕ → Option ℕ → Type 0
GaveWay out place None = ⊤
GaveWay out place (Some block) = (x : Item) × (rest : List Item) × (out ≡ x ∷ rest) × (x.place ≡ place) × (x.filling.rec.block ≡ block)

abbrev pub GaveWayFor : List Item → Option Got → Type 0
GaveWayFor out None = ⊤
GaveWayFor out (Some g) = GaveWay out g.place g.dropped

-- The claim is told.
pub record TellsClaim (got : Option Got) (mode : Mode) (s : PlainState) (m : Window) (a : FillCounts) (new : PlainState) (n : Window) (b : FillCounts) : Type 0 where
  pub claims : Claims mode s m a new n b
  pub is : claims.claim ≡ claim_of got
  pub gave_way : GaveWayFor s.board.out got
