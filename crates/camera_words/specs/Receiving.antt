-- The words of `receive`: a camera, a number of frames, and then writes and settings in any order.
use Rattle.std.specs.Prelude.{◌≡◌, ⊤, ℕ, ◌+◌, ◌≤◌, ◌==◌, nat_lt, Bool, if◌then◌else◌, List, [], ◌∷◌, ◌++◌, length, drop, Option, Some, None, Ok, Err, slice_get}
use Rattle.gev_script.specs.Words.{Read}
use Rattle.gev_script.specs.Numbers.{number_in}
use Rattle.camera_words.specs.declared.register_write.Stage.{Stage}
use Rattle.camera_words.specs.declared.register_write.RegisterWrite.{RegisterWrite}
use Rattle.camera_words.specs.declared.setting.Setting.{Setting}
use Rattle.camera_words.specs.declared.setting.Setting.TheVariants as settings
use Rattle.camera_words.specs.declared.setting.Choice.{Choice}
use Rattle.camera_words.specs.declared.setting.ReceiveWord.{ReceiveWord}
use Rattle.camera_words.specs.declared.setting.ReceiveWord.TheVariants.{Write, Choose}
use Rattle.camera_words.specs.declared.settings.LineDigest.{LineDigest}
use Rattle.camera_words.specs.declared.settings.LineDigest.TheVariants.{Sha256, Omitted}
use Rattle.camera_words.specs.declared.settings.Output.{Output}
use Rattle.camera_words.specs.declared.settings.Output.TheVariants.{Lines, Pictures, Counts}
use Rattle.camera_words.specs.declared.settings.Settings.{Settings}
use Rattle.camera_words.specs.Parts.{before_byte, behind_byte}
use Rattle.camera_words.specs.Words.{Said, camera_of}
use Rattle.camera_words.specs.Writes.{equals_sign, most_u32, stage_in, write_in}
use Rattle.camera_words.specs.Choices.{setting_named, value_in, found, chosen, Fits, AllFit, AreOnce}

-- ---- one word

abbrev pub colon : ℕ
colon = 0x3A

abbrev pub as_write : Option RegisterWrite → Option ReceiveWord
as_write None = None
as_write (Some write) = Some (Write write)

abbrev pub at_stage : List ℕ → Option Stage → Option ReceiveWord
at_stage text None = None
at_stage text (Some stage) = as_write (write_in stage text)

abbrev pub as_choice : Setting → Option ℕ → Option ReceiveWord
as_choice setting None = None
as_choice setting (Some value) = Some (Choose (record { setting = setting; value = value }))

abbrev pub of_setting : List ℕ → Option Setting → Option ReceiveWord
of_setting text None = None
of_setting text (Some setting) = as_choice setting (value_in setting text)

-- `<setting>=<value>`
abbrev pub choice_by : List ℕ → Option (List ℕ) → Option ReceiveWord
choice_by name None = None
choice_by name (Some text) = of_setting text (setting_named name)

-- `<stage>:<register>=<value>`
abbrev pub write_by : List ℕ → List ℕ → Option ReceiveWord
write_by stage text = at_stage text (stage_in stage)

-- a word with a colon is a write, and another sets something
abbrev pub word_by : List ℕ → Option (List ℕ) → Option ReceiveWord
word_by word None = choice_by (before_byte equals_sign word) (behind_byte equals_sign word)
word_by word (Some text) = write_by (before_byte colon word) text

abbrev pub word_in : List ℕ → Option ReceiveWord
word_in word = word_by word (behind_byte colon word)

-- a setting is in its range
abbrev pub FitsWord : ReceiveWord → Type 0
FitsWord (Write write) = ⊤
FitsWord (Choose choice) = Fits choice.setting choice.value

-- ---- all words

-- what the words so far said
pub record SoFar : Type 0 where
  pub writes : List RegisterWrite
  pub choices : List Choice

abbrev pub nothing_yet : SoFar
nothing_yet = record { writes = []; choices = [] }

-- the most writes
abbrev pub MOST_WRITES : ℕ
MOST_WRITES = 64

abbrev pub choose : SoFar → Choice → Option ℕ → Option SoFar
choose s choice None = Some (record { writes = s.writes; choices = s.choices ++ choice ∷ [] })
choose s choice (Some value) = None

-- with one word more: at most 64 are writes, and each setting comes at most once
abbrev pub with_said : SoFar → Option ReceiveWord → Option SoFar
with_said s None = None
with_said s (Some (Write write)) =
    if nat_lt (length s.writes) MOST_WRITES then Some (record { writes = s.writes ++ write ∷ []; choices = s.choices }) else None
with_said s (Some (Choose choice)) = choose s choice (found choice.setting s.choices)

abbrev pub with_word : SoFar → List ℕ → Option SoFar
with_word s word = with_said s (word_in word)

-- what follows, or the place of the word with which nothing goes on
abbrev pub go_on : {A : Type 0} → ℕ → Option SoFar → (SoFar → Said A) → Said A
go_on place None rest = Err place
go_on place (Some s) rest = rest s

-- the words from this place on, behind those that said so much
abbrev pub words_from : ℕ → SoFar → List (List ℕ) → Said SoFar
words_from place s [] = Ok s
words_from place s (word ∷ words) = go_on place (with_word s word) (λ t. words_from (place + 1) t words)

-- ---- what they ask for

-- the digest in a line, by its number
abbrev pub digest_of : ℕ → LineDigest
digest_of n = if n == 0 then Sha256 else Omitted

-- what is written, by its number and that of the digest in a line
abbrev pub output_of : ℕ → ℕ → Output
output_of n digest = if n == 0 then Lines (digest_of digest) else if n == 1 then Pictures else Counts

abbrev pub is_stdin : ℕ → Bool
is_stdin n = n == 1

-- with what each setting is that no word sets
abbrev pub settings_of : ℕ → ℕ → SoFar → Settings
settings_of camera frames s = record {
  camera = camera;
  frames = frames;
  writes = record { items = s.writes };
  packet = chosen settings.Packet 1500 s.choices;
  buffers = chosen settings.Buffers 8 s.choices;
  bytes = found settings.Bytes s.choices;
  mode = chosen settings.Mode 0 s.choices;
  window = chosen settings.Window 4 s.choices;
  timeout = chosen settings.Timeout 200 s.choices;
  age = chosen settings.Age 10 s.choices;
  rounds = chosen settings.Rounds 3 s.choices;
  silence = chosen settings.Silence 5000 s.choices;
  output = output_of (chosen settings.Output 0 s.choices) (chosen settings.Digest 0 s.choices);
  until_input_ends = is_stdin (chosen settings.Until 0 s.choices);
  progress = chosen settings.Progress 0 s.choices;
}

abbrev pub with_settings : ℕ → ℕ → Said SoFar → Said Settings
with_settings camera frames (Err place) = Err place
with_settings camera frames (Ok s) = Ok (settings_of camera frames s)

abbrev pub number_at : ℕ → Read ℕ → Said ℕ
number_at place (Err kind) = Err place
number_at place (Ok n) = Ok n

-- a number of frames
abbrev pub frames_of : ℕ → Option (List ℕ) → Said ℕ
frames_of place None = Err place
frames_of place (Some word) = number_at place (number_in 1 most_u32 word)

abbrev pub with_frames : ℕ → List (List ℕ) → Said ℕ → Said Settings
with_frames camera words (Err place) = Err place
with_frames camera words (Ok frames) = with_settings camera frames (words_from 3 nothing_yet (drop 3 words))

abbrev pub with_camera : List (List ℕ) → Said ℕ → Said Settings
with_camera words (Err place) = Err place
with_camera words (Ok camera) = with_frames camera words (frames_of 2 (slice_get words 2))

-- `receive <camera> <frames> [<word>..]`
abbrev pub receive_of : List (List ℕ) → Said Settings
receive_of words = with_camera words (camera_of 1 (slice_get words 1))

-- ---- ranges

-- What was read is in the ranges of its settings, and each was set at most once.
pub record IsRead (writes : List RegisterWrite) (choices : List Choice) : Type 0 where
  pub few : length writes ≤ MOST_WRITES
  pub fit : AllFit choices
  pub once : AreOnce choices

-- the place of the next word, behind the command's name, the camera and the number of frames
abbrev pub place_of : SoFar → ℕ
place_of s = 3 + length s.writes + length s.choices

pub record IsInRange (s : Settings) : Type 0 where
  pub some_frames : 1 ≤ s.frames
  pub packet : (576 ≤ s.packet) × (s.packet ≤ 9000)
  pub buffers : (1 ≤ s.buffers) × (s.buffers ≤ 15)
  pub bytes : (n : ℕ) → s.bytes ≡ Some n → (1 ≤ n) × (n ≤ 67108864)
  pub mode : s.mode ≤ 2
  pub window : (1 ≤ s.window) × (s.window ≤ 4)
  pub timeout : (1 ≤ s.timeout) × (s.timeout ≤ 60000)
  pub age : (1 ≤ s.age) × (s.age ≤ 60000)
  pub rounds : s.rounds ≤ 8
  pub silence : (1 ≤ s.silence) × (s.silence ≤ 3600000)
  pub progress : s.progress ≤ 60000
