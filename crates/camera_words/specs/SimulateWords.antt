-- The words of `simulate`: an address, and settings in any order, each at most once.
use Rattle.std.specs.Prelude.{ℕ, ◌-◌, ◌^◌, Bool, true, false, List, codes, Option, Some, None, Ok, Err, slice_get, unwrap_or, if◌then◌else◌}
use Rattle.std.specs.Result.{result_ok}
use Rattle.std.specs.Str.{bytes_eq}
use Rattle.gev_script.specs.Numbers.{number_in}
use Rattle.camera_words.specs.Parts.{before_byte, behind_byte}
use Rattle.camera_words.specs.Words.{Said, camera_of}
use Rattle.camera_words.specs.declared.simulate_words.SimulateWords.{SimulateWords}
use Rattle.camera_words.specs.declared.simulate_words.SimulateSettings.{SimulateSettings}

infixl 10 ◌>>=◌
abbrev pub ◌>>=◌ : {A B : Type 0} → Said A → (A → Said B) → Said B
(Ok x) >>= f = f x
(Err place) >>= f = Err place

-- `=`, between a setting's name and its value
abbrev pub equals : ℕ
equals = 0x3D

abbrev pub number_of : ℕ → ℕ → List ℕ → Option ℕ
number_of low high value = result_ok (number_in low high value)

-- whether the run also ends where standard input has ended
abbrev pub until_of : List ℕ → Option Bool
until_of value =
    if bytes_eq value (codes "turns") then Some false
    else if bytes_eq value (codes "stdin") then Some true
    else None

-- a value that is set for the first time
abbrev pub set_first : {A : Type 0} → Option A → Option A → Option A
set_first None value = value
set_first (Some old) value = None

abbrev pub with_seed : SimulateSettings → Option ℕ → Option SimulateSettings
with_seed s None = None
with_seed s (Some n) = Some (record s { seed = Some n })

abbrev pub with_rate : SimulateSettings → Option ℕ → Option SimulateSettings
with_rate s None = None
with_rate s (Some n) = Some (record s { rate = Some n })

abbrev pub with_turns : SimulateSettings → Option ℕ → Option SimulateSettings
with_turns s None = None
with_turns s (Some n) = Some (record s { turns = Some n })

abbrev pub with_until : SimulateSettings → Option Bool → Option SimulateSettings
with_until s None = None
with_until s (Some input) = Some (record s { with_input = Some input })

-- `seed=`, `rate=` in turns a second, `turns=` and `until=`
abbrev pub with_setting : List ℕ → List ℕ → SimulateSettings → Option SimulateSettings
with_setting name value s =
    if bytes_eq name (codes "seed") then with_seed s (set_first s.seed (number_of 0 (2 ^ 64 - 1) value))
    else if bytes_eq name (codes "rate") then with_rate s (set_first s.rate (number_of 1 1000 value))
    else if bytes_eq name (codes "turns") then with_turns s (set_first s.turns (number_of 1 (2 ^ 32 - 1) value))
    else if bytes_eq name (codes "until") then with_until s (set_first s.with_input (until_of value))
    else None

abbrev pub with_value : List ℕ → Option (List ℕ) → SimulateSettings → Option SimulateSettings
with_value name None s = None
with_value name (Some value) s = with_setting name value s

abbrev pub with_word : List ℕ → SimulateSettings → Option SimulateSettings
with_word word s = with_value (before_byte equals word) (behind_byte equals word) s

-- this, or the place
abbrev pub set_at : ℕ → Option SimulateSettings → Said SimulateSettings
set_at place None = Err place
set_at place (Some s) = Ok s

-- the settings with that of a word, if there is one
abbrev pub setting_of : ℕ → Option (List ℕ) → SimulateSettings → Said SimulateSettings
setting_of place None s = Ok s
setting_of place (Some word) s = set_at place (with_word word s)

abbrev pub none_of : ℕ → Option (List ℕ) → Said (Unit {0})
none_of place None = Ok tt
none_of place (Some word) = Err place

abbrev pub no_settings : SimulateSettings
no_settings = record { seed = None; rate = None; turns = None; with_input = None }

-- what isn't set: seed 1, 20 turns a second, the most turns, and no look at standard input
abbrev pub simulation : ℕ → SimulateSettings → SimulateWords
simulation address s = record {
  address = address;
  seed = unwrap_or s.seed 1;
  rate = unwrap_or s.rate 20;
  turns = unwrap_or s.turns (2 ^ 32 - 1);
  with_input = unwrap_or s.with_input false;
}

-- `simulate <address> [<word>..]`: there are four settings, so at most four words follow the address
abbrev pub simulate_of : List (List ℕ) → Said SimulateWords
simulate_of words = do
  address ← camera_of 1 (slice_get words 1)
  first ← setting_of 2 (slice_get words 2) no_settings
  second ← setting_of 3 (slice_get words 3) first
  third ← setting_of 4 (slice_get words 4) second
  fourth ← setting_of 5 (slice_get words 5) third
  done ← none_of 6 (slice_get words 6)
  Ok (simulation address fourth)
