-- The words of the command line: the command that they are, or the first with which no command line goes on.
use Rattle.std.specs.Prelude.{⊤, ℕ, ◌≤◌, ◌^◌, ◌-◌, Bool, true, false, List, [], ◌∷◌, codes, Option, Some, None, Result, Ok, Err, slice_get, if◌then◌else◌}
use Rattle.std.specs.Str.{bytes_eq}
use Rattle.gev_script.specs.Words.{Read}
use Rattle.gev_script.specs.Numbers.{number_in}
use Rattle.lossy_queue.specs.declared.rates.Rates.{Rates}
use Rattle.gev_top.specs.declared.command.Command.{Command}
use Rattle.gev_top.specs.declared.command.Command.TheVariants.{Replay, Explain, Image, Streams, Capture, Camera, Make, Soak}
use Rattle.gev_top.specs.declared.numbers.Numbers.{Numbers}
use Rattle.script_image.specs.declared.wanted.Wanted.{Wanted}
use Rattle.script_image.specs.declared.wanted.Wanted.TheVariants.{One, All}
use Rattle.script_image.specs.Ends.{IsInRange as IsWantedInRange}

-- What words say, or the place of the first word with which no command line goes on, from 0. Where more
-- words are wanted it is their number.
abbrev pub Said : Type 0 → Type 0
Said A = Result A ℕ

infixl 10 ◌>>=◌
abbrev pub ◌>>=◌ : {A B : Type 0} → Said A → (A → Said B) → Said B
(Ok x) >>= f = f x
(Err place) >>= f = Err place

-- the number that was read, or this place
abbrev pub read_at : ℕ → Read ℕ → Said ℕ
read_at place (Ok n) = Ok n
read_at place (Err kind) = Err place

-- the number within these bounds that the word is, or its place; a word is wanted
abbrev pub number_of : ℕ → ℕ → ℕ → Option (List ℕ) → Said ℕ
number_of low high place None = Err place
number_of low high place (Some word) = read_at place (number_in low high word)

abbrev pub number_at : ℕ → ℕ → ℕ → List (List ℕ) → Said ℕ
number_at low high place words = number_of low high place (slice_get words place)

-- no word, or its place
abbrev pub none_of : ℕ → Option (List ℕ) → Said (Unit {0})
none_of place None = Ok tt
none_of place (Some word) = Err place

abbrev pub none_at : ℕ → List (List ℕ) → Said (Unit {0})
none_at place words = none_of place (slice_get words place)

-- loss, repeat and swap, in thousandths
abbrev pub rates_of : List (List ℕ) → Said Rates
rates_of words = do
  loss ← number_at 0 1000 3 words
  repeat ← number_at 0 1000 4 words
  swap ← number_at 0 1000 5 words
  Ok (record { loss = loss; repeat = repeat; swap = swap })

-- `replay`
abbrev pub replay_of : List (List ℕ) → Said Command
replay_of words = do
  done ← none_at 1 words
  Ok Replay

-- `explain`
abbrev pub explain_of : List (List ℕ) → Said Command
explain_of words = do
  done ← none_at 1 words
  Ok Explain

-- just this word stands there
abbrev pub is_word : List ℕ → Option (List ℕ) → Bool
is_word wanted None = false
is_word wanted (Some word) = bytes_eq word wanted

abbrev pub is_word_at : List ℕ → ℕ → List (List ℕ) → Bool
is_word_at wanted place words = is_word wanted (slice_get words place)

-- the buffer with this number
abbrev pub one_at : ℕ → List (List ℕ) → Said Wanted
one_at place words = do
  number ← number_at 1 4294967295 place words
  Ok (One number)

-- a number, or the word `all`
abbrev pub wanted_at : ℕ → List (List ℕ) → Said Wanted
wanted_at place words = if is_word_at (codes "all") place words then Ok All else one_at place words

-- `image <k|all>`: the k-th buffer that is taken, or each
abbrev pub image_of : List (List ℕ) → Said Command
image_of words = do
  wanted ← wanted_at 1 words
  done ← none_at 2 words
  Ok (Image wanted)

-- `streams`
abbrev pub streams_of : List (List ℕ) → Said Command
streams_of words = do
  done ← none_at 1 words
  Ok Streams

-- `capture <port> <p> <bytes>`: a payload has at most p bytes, a buffer these
abbrev pub capture_of : List (List ℕ) → Said Command
capture_of words = do
  port ← number_at 1 65535 1 words
  p ← number_at 528 8964 2 words
  bytes ← number_at 1 67108864 3 words
  done ← none_at 4 words
  Ok (Capture port p bytes)

-- `camera`
abbrev pub camera_of : List (List ℕ) → Said Command
camera_of words = do
  done ← none_at 1 words
  Ok Camera

-- whether this word is `short`, or its place; none is wanted
abbrev pub short_of : ℕ → Option (List ℕ) → Said Bool
short_of place None = Ok false
short_of place (Some word) = if bytes_eq word (codes "short") then Ok true else Err place

abbrev pub short_at : ℕ → List (List ℕ) → Said Bool
short_at place words = short_of place (slice_get words place)

-- `<seed> <frames> <loss> <repeat> <swap>`, behind the command's name
abbrev pub numbers_of : List (List ℕ) → Said Numbers
numbers_of words = do
  seed ← number_at 0 (2 ^ 64 - 1) 1 words
  frames ← number_at 0 100000 2 words
  rates ← rates_of words
  Ok (record { seed = seed; frames = frames; rates = rates })

-- `make` with these numbers
abbrev pub make_of : List (List ℕ) → Said Command
make_of words = do
  n ← numbers_of words
  done ← none_at 6 words
  Ok (Make n.seed n.frames n.rates)

-- `soak` with these numbers, and the word `short` or none
abbrev pub soak_of : List (List ℕ) → Said Command
soak_of words = do
  n ← numbers_of words
  short ← short_at 6 words
  done ← none_at 7 words
  Ok (Soak n.seed n.frames n.rates short)

-- Payloads of at most 528 to 8964 bytes, and buffers of 1 to 67,108,864 bytes.
pub record HasSizes (p bytes : ℕ) : Type 0 where
  pub some_payload : 528 ≤ p
  pub payload_fits : p ≤ 8964
  pub some_bytes : 1 ≤ bytes
  pub bytes_fit : bytes ≤ 67108864

-- the numbers of a command are in the ranges that it asks for
abbrev pub IsInRange : Command → Type 0
IsInRange Replay = ⊤
IsInRange Explain = ⊤
IsInRange (Image wanted) = IsWantedInRange wanted
IsInRange Streams = ⊤
IsInRange (Capture port p bytes) = HasSizes p bytes
IsInRange Camera = ⊤
IsInRange (Make seed frames rates) = ⊤
IsInRange (Soak seed frames rates short) = ⊤

-- the words of which the first is this name
abbrev pub named : List ℕ → List (List ℕ) → Said Command
named name words =
    if bytes_eq name (codes "replay") then replay_of words
    else if bytes_eq name (codes "explain") then explain_of words
    else if bytes_eq name (codes "image") then image_of words
    else if bytes_eq name (codes "streams") then streams_of words
    else if bytes_eq name (codes "capture") then capture_of words
    else if bytes_eq name (codes "camera") then camera_of words
    else if bytes_eq name (codes "make") then make_of words
    else if bytes_eq name (codes "soak") then soak_of words
    else Err 0

abbrev pub command_of : List (List ℕ) → Said Command
command_of [] = Err 0
command_of (name ∷ words) = named name (name ∷ words)

abbrev pub place_of : Said Command → Option ℕ
place_of (Ok command) = None
place_of (Err place) = Some place

-- the place of the first word with which no command line goes on; None where the words are a command line
abbrev pub usage_fault : List (List ℕ) → Option ℕ
usage_fault words = place_of (command_of words)
