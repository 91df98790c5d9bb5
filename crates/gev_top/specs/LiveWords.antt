-- The words of live and of recorded runs, and what the words of any command line ask for.
use Rattle.std.specs.Prelude.{◌≡◌, ⊤, ℕ, ◌≤◌, ◌^◌, ◌-◌, List, [], ◌∷◌, codes, Option, Some, None, Ok, Err, slice_get, if◌then◌else◌}
use Rattle.std.specs.Str.{bytes_eq}
use Rattle.gev_script.specs.Numbers.{number_in}
use Rattle.board_calls.specs.declared.mode.Mode.{Mode}
use Rattle.board_calls.specs.declared.mode.Mode.TheVariants.{OldestFirst}
use Rattle.script_trace.specs.Modes.{mode_of}
use Rattle.camera_words.specs.Words.{discover_of, description_of}
use Rattle.camera_words.specs.SimulateWords.{simulate_of}
use Rattle.camera_words.specs.Accesses.{register_of}
use Rattle.camera_words.specs.Receiving.{receive_of, IsInRange as IsReceivable}
use Rattle.gev_top.specs.declared.live_numbers.LiveNumbers.{LiveNumbers}
use Rattle.gev_top.specs.declared.errand.Errand.{Errand}
use Rattle.gev_top.specs.declared.errand.Errand.TheVariants.{Plain, Live, Record, Discover, Description, Simulate, Receive, Register}
use Rattle.gev_top.specs.Usage as plain
use Rattle.gev_top.specs.Usage.{Said, ◌>>=◌, read_at, number_at, none_at, named}

-- the buffer handling mode whose number, 0 to 2, this word is, or its place; none is wanted, and is OldestFirst
abbrev pub mode_in : ℕ → Option (List ℕ) → Said Mode
mode_in place None = Ok OldestFirst
mode_in place (Some word) = read_at place (number_in 0 2 word) >>= λ n. Ok (mode_of n)

abbrev pub mode_at : ℕ → List (List ℕ) → Said Mode
mode_at place words = mode_in place (slice_get words place)

-- `live <seed> <frames> <buffers> <lanes> <turns> [<mode>]`
abbrev pub live_of : List (List ℕ) → Said LiveNumbers
live_of words = do
  seed ← number_at 0 (2 ^ 64 - 1) 1 words
  frames ← number_at 1 1000 2 words
  buffers ← number_at 1 15 3 words
  lanes ← number_at 1 4 4 words
  turns ← number_at 1 100000000 5 words
  mode ← mode_at 6 words
  done ← none_at 7 words
  Ok (record { seed = seed; frames = frames; buffers = buffers; lanes = lanes; turns = turns; mode = mode })

-- `record <seed> <frames> <buffers> <turns>`, with one lane and OldestFirst
abbrev pub record_of : List (List ℕ) → Said LiveNumbers
record_of words = do
  seed ← number_at 0 (2 ^ 64 - 1) 1 words
  frames ← number_at 1 1000 2 words
  buffers ← number_at 1 15 3 words
  turns ← number_at 1 100000 4 words
  done ← none_at 5 words
  Ok (record { seed = seed; frames = frames; buffers = buffers; lanes = 1; turns = turns; mode = OldestFirst })

-- A live run wants 1 to 1,000 frames and 1 to 15 buffers, has 1 to 4 lanes, and makes 1 to 100,000,000 turns.
pub record IsInRange (n : LiveNumbers) : Type 0 where
  pub some_frames : 1 ≤ n.frames
  pub few_frames : n.frames ≤ 1000
  pub some_buffers : 1 ≤ n.buffers
  pub few_buffers : n.buffers ≤ 15
  pub some_lanes : 1 ≤ n.lanes
  pub few_lanes : n.lanes ≤ 4
  pub some_turns : 1 ≤ n.turns
  pub few_turns : n.turns ≤ 100000000

-- A recorded run makes at most 100,000, and drops nothing.
pub record IsRecordable (n : LiveNumbers) : Type 0 where
  pub range : IsInRange n
  pub few_turns : n.turns ≤ 100000
  pub mode : n.mode ≡ OldestFirst

-- the numbers of what is asked for are in their ranges
abbrev pub IsErrand : Errand → Type 0
IsErrand (Plain command) = plain.IsInRange command
IsErrand (Live n) = IsInRange n
IsErrand (Record n) = IsRecordable n
IsErrand (Discover address) = ⊤
IsErrand (Description camera) = ⊤
IsErrand (Simulate asked) = ⊤
IsErrand (Receive s) = IsReceivable s
IsErrand (Register asked) = ⊤

-- the words of which the first is this name
abbrev pub errand_named : List ℕ → List (List ℕ) → Said Errand
errand_named name words =
    if bytes_eq name (codes "live") then (live_of words >>= λ n. Ok (Live n))
    else if bytes_eq name (codes "record") then (record_of words >>= λ n. Ok (Record n))
    else if bytes_eq name (codes "discover") then (discover_of words >>= λ address. Ok (Discover address))
    else if bytes_eq name (codes "description") then (description_of words >>= λ camera. Ok (Description camera))
    else if bytes_eq name (codes "receive") then (receive_of words >>= λ s. Ok (Receive s))
    else if bytes_eq name (codes "simulate") then (simulate_of words >>= λ asked. Ok (Simulate asked))
    else if bytes_eq name (codes "register") then (register_of words >>= λ asked. Ok (Register asked))
    else (named name words >>= λ command. Ok (Plain command))

abbrev pub errand_of : List (List ℕ) → Said Errand
errand_of [] = Err 0
errand_of (name ∷ words) = errand_named name (name ∷ words)

abbrev pub place_in : Said Errand → Option ℕ
place_in (Ok errand) = None
place_in (Err place) = Some place

-- the place of the first word with which no command line goes on; None where the words are a command line
abbrev pub errand_fault : List (List ℕ) → Option ℕ
errand_fault words = place_in (errand_of words)

-- this of the numbers, where a live run is asked for
abbrev pub IfPorts : Errand → (LiveNumbers → Type 0) → Type 0
IfPorts (Plain command) P = ⊤
IfPorts (Live n) P = P n
IfPorts (Record n) P = P n
IfPorts (Discover address) P = ⊤
IfPorts (Description camera) P = ⊤
IfPorts (Simulate asked) P = ⊤
IfPorts (Receive s) P = ⊤
IfPorts (Register asked) P = ⊤

-- this, where a camera on the network is asked for what it tells of itself, or its registers are read and written
abbrev pub IfCameras : Errand → Type 0 → Type 0
IfCameras (Plain command) P = ⊤
IfCameras (Live n) P = ⊤
IfCameras (Record n) P = ⊤
IfCameras (Discover address) P = P
IfCameras (Description camera) P = P
IfCameras (Simulate asked) P = ⊤
IfCameras (Receive s) P = ⊤
IfCameras (Register asked) P = P
