-- The history of a live run with one lane: how it begins, and whose its acts are.
use Rattle.std.specs.Prelude.{◌≡◌, ℕ, ◌≤◌, List, [], ◌∷◌, ◌++◌}
use Rattle.board_machine.specs.declared.events.Entry.{Entry}
use Rattle.board_machine.specs.declared.events.Event.{Event}
use Rattle.board_machine.specs.Places.{times}
use Rattle.board_machine.specs.Histories.{Run, After}
use Rattle.board_machine.specs.Owners.{IsOwned}
use Rattle.board_machine.specs.Handout.{IsLegal}
use Rattle.board_machine.specs.Laws.{IsAlone}
use Rattle.board_machine.specs.Actors.{AllBy}
use Rattle.board_machine.specs.Adding.{entries_of}
use Rattle.buffer_words.specs.Workers.{AreOf, OnlyBy}
use Rattle.live_crew.specs.Prepared.{Prepares}
use Rattle.board_calls.specs.declared.mode.Mode.{Mode}
use Rattle.gev_live.specs.Kinds.{is_live, is_filling, is_taking, is_handing}
use Rattle.gev_live.specs.Acquirers.{takers}

-- the numbers of the workers' actors
pub record Crew : Type 0 where
  pub camera : ℕ
  pub reader : ℕ
  pub application : ℕ

abbrev pub workers_of : Crew → List ℕ
workers_of k = k.application ∷ k.reader ∷ k.camera ∷ []

-- the size of a live run's buffers, in bytes: an image of 640 x 480 pixels of one byte each
abbrev pub live_size : ℕ
live_size = 307200

-- A history from the empty board on, in which each place has one owner, at every step, and buffers are handed out
-- in the order of their fills. It begins with so many buffers, which the first actor announces and queues, and with
-- the start. After that claims and fills are the reader's alone, and lays, grabs and unposts the application's. Takes and
-- poolings are the application's too, and with the other modes than OldestFirst those of the reader's claims and fills;
-- all else is looks, splits, joins and stops. At the end the first actor is alone again.
pub record LiveHistory (mode : Mode) (buffers : ℕ) (k : Crew) (h : List Entry) : Type 0 where
  pub run : Run h
  pub owned : IsOwned (After h)
  pub legal : IsLegal h
  pub alone : IsAlone (After h) 0
  pub apart : (i : ℕ) → times i (workers_of k) ≤ 1
  pub entries : AllBy (0 ∷ workers_of k) h
  pub prepared : List Event
  pub prepares : Prepares live_size buffers prepared
  pub since : List Entry
  pub begins : h ≡ entries_of 0 prepared ++ since
  pub kinds : AreOf is_live since
  pub fills : OnlyBy is_filling (k.reader ∷ []) since
  pub takes : OnlyBy is_taking (takers mode k.application (k.reader ∷ [])) since
  pub hands : OnlyBy is_handing (k.application ∷ []) since
