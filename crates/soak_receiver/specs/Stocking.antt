-- The lines with which a host begins: four buffers are announced and queued, and the stream is started.
use Rattle.std.specs.Prelude.{◌≡◌, ℕ, ◌-◌, zero, suc, false, List, [], ◌∷◌, ◌++◌, replicate, slice_set}
use Rattle.gev_types.specs.Limits.{place_count}
use Rattle.gentl_types.specs.declared.word.Word.{Word}
use Rattle.gentl_types.specs.declared.word.State.TheVariants.{Held}
use Rattle.gev_script.specs.Lines as line
use Rattle.gev_script.specs.Lines.{ScriptLine}
use Rattle.board_machine.specs.Machine.{Board, vacant, empty_hands}
use Rattle.acq_core.specs.Receiver.{config_of}
use Rattle.board_calls.specs.declared.mode.Mode.TheVariants.{OldestFirst}
use Rattle.script_trace.specs.Trace.{Trace}
use Rattle.script_trace.specs.Opening.{opening, first_handles}
use Rattle.script_trace.specs.Adding.{Leads}
use Rattle.script_replay.specs.declared.running.Running.{Running}
use Rattle.script_replay.specs.Replays.{StandsAt, IsReplaying}
use Rattle.world_laws.specs.Receiver.{soak_config, SOAK_BUFFER_SIZE, pooled_word, start}
use Rattle.soak_receiver.specs.Moves.{IsHosting, IsLeft}

-- ---- lines

-- a buffer is announced and queued, for each of the first n places
abbrev pub stock_lines : ℕ → List ScriptLine
stock_lines zero = []
stock_lines (suc n) = stock_lines n ++ line.announce SOAK_BUFFER_SIZE ∷ line.queue n 1 ∷ []

abbrev pub start_lines : List ScriptLine
start_lines = stock_lines 4 ++ line.start ∷ []

-- ---- boards

-- the places below n
abbrev pub first_places : ℕ → List ℕ
first_places zero = []
first_places (suc n) = first_places n ++ n ∷ []

-- the board before the start with the buffers of the first n places in the pool
abbrev pub stocked : ℕ → Board
stocked n = record {
  words = replicate n pooled_word ++ replicate (place_count - n) vacant;
  pool = first_places n;
  out = [];
  hands = replicate 6 empty_hands;
  closed = false;
  kill = false;
  run = 0;
}

-- the word of a buffer that the application holds
abbrev pub held_word : Word
held_word = record { state = Held; size = SOAK_BUFFER_SIZE; generation = 1 }

-- the same, with a buffer at place n that isn't queued yet
abbrev pub announced : ℕ → Board
announced n = record (stocked n) { words = slice_set (stocked n).words n held_word }

-- ---- states

-- These lines led here, this is the board, and the acquisition was told nothing yet.
pub record IsBeginning (lines : List ScriptLine) (b : Board) (r : Running) : Type 0 where
  pub keeps : IsReplaying r
  pub config : config_of r.acq ≡ soak_config
  pub handles : r.tree ≡ first_handles
  pub oldest_first : r.mode ≡ OldestFirst
  pub board : r.board.board ≡ b
  pub trace : Trace
  pub leads : Leads soak_config opening lines trace
  pub stands : StandsAt r trace
  pub untold : trace.inputs ≡ []

-- the buffers of the first n places were announced and queued
abbrev pub IsStocked : ℕ → Running → Type 0
IsStocked n r = IsBeginning (stock_lines n) (stocked n) r

-- and a buffer at place n was announced
abbrev pub IsAnnounced : ℕ → Running → Type 0
IsAnnounced n r = IsBeginning (stock_lines n ++ line.announce SOAK_BUFFER_SIZE ∷ []) (announced n) r

-- All lines of the start led here, to the receiver with which the definitions begin.
pub record HasBegun (r : Running) : Type 0 where
  pub hosting : IsHosting r
  pub trace : Trace
  pub leads : Leads soak_config opening start_lines trace
  pub stands : StandsAt r trace
  pub left : IsLeft trace start
