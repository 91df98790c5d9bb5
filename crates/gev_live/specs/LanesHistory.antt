-- The history of a live run with several lanes: how it begins, and whose its acts are.
use Rattle.std.specs.Prelude.{◌≡◌, ℕ, ◌≤◌, false, List, [], ◌∷◌, ◌++◌, Result}
use Rattle.board_machine.specs.declared.events.Entry.{Entry}
use Rattle.board_machine.specs.declared.events.Event.{Event}
use Rattle.board_machine.specs.declared.events.Event.TheVariants.{Stop}
use Rattle.board_machine.specs.Machine.{entry}
use Rattle.board_machine.specs.Places.{times}
use Rattle.board_machine.specs.Histories.{Run, After}
use Rattle.board_machine.specs.Kinds.{HasNone}
use Rattle.board_machine.specs.Owners.{IsOwned}
use Rattle.board_machine.specs.Handout.{IsLegal}
use Rattle.board_machine.specs.Laws.{IsAlone}
use Rattle.board_machine.specs.Actors.{AllBy}
use Rattle.board_machine.specs.Adding.{entries_of}
use Rattle.buffer_words.specs.Workers.{AreOf, OnlyBy}
use Rattle.live_crew.specs.Prepared.{Prepares}
use Rattle.board_calls.specs.declared.mode.Mode.{Mode}
use Rattle.gev_live.specs.Kinds.{is_live, is_filling, is_taking, is_handing}
use Rattle.gev_live.specs.Acquirers.{takers}
use Rattle.gev_live.specs.History.{live_size}

-- the numbers of the workers' actors, and of the lanes' in their order
pub record LanesCrew : Type 0 where
  pub camera : ℕ
  pub reader : ℕ
  pub application : ℕ
  pub lanes : List ℕ

abbrev pub workers_of : LanesCrew → List ℕ
workers_of k = k.lanes ++ k.application ∷ k.reader ∷ k.camera ∷ []

-- A history from the empty board on, in which each place has one owner, at every step, and buffers are handed out
-- in the order of their fills. It begins with so many buffers, which the first actor announces and queues, and with
-- the start. After that claims and fills are the lanes' alone, and lays, grabs and unposts the application's. Takes and
-- poolings are the application's too, and with the other modes than OldestFirst those of the lanes' claims and fills;
-- all else is looks, splits, joins and stops. Behind the stop of the acquisition's worker nothing is claimed or filled.
-- At the end the first actor is alone again.
pub record LanesHistory (mode : Mode) (buffers : ℕ) (k : LanesCrew) (h : List Entry) : Type 0 where
  pub run : Run h
  pub owned : IsOwned (After h)
  pub legal : IsLegal h
  pub alone : IsAlone (After h) 0
  pub apart : (i : ℕ) → times i (workers_of k) ≤ 1
  pub entries : AllBy (0 ∷ workers_of k) h
  pub prepared : List Event
  pub prepares : Prepares live_size buffers prepared
  pub since : List Entry
  pub begins : h ≡ entries_of 0 prepared ++ since
  pub kinds : AreOf is_live since
  pub fills : OnlyBy is_filling k.lanes since
  pub takes : OnlyBy is_taking (takers mode k.application k.lanes) since
  pub hands : OnlyBy is_handing (k.application ∷ []) since
  pub answer : Result (Unit {0}) ℕ
  pub before : List Entry
  pub after : List Entry
  pub stopped : h ≡ before ++ entry k.reader (Stop false answer) ∷ after
  pub quiet : HasNone is_filling after
