-- The settings of `receive`: each with its name, its range, and what it is where no word sets it.
use Rattle.std.specs.Prelude.{⊤, ℕ, ◌+◌, ◌≤◌, ◌==◌, ◌||◌, nat_le, Bool, if◌then◌else◌, List, [], ◌∷◌, codes, Option, Some, None, cond}
use Rattle.std.specs.Result.{result_ok}
use Rattle.std.specs.Str.{bytes_eq}
use Rattle.gev_script.specs.Numbers.{number_in}
use Rattle.camera_words.specs.declared.setting.Setting.{Setting}
use Rattle.camera_words.specs.declared.setting.Setting.TheVariants.{Packet, Buffers, Bytes, Mode, Window, Timeout, Age, Rounds, Silence, Output, Until, Progress, Digest}
use Rattle.camera_words.specs.declared.setting.Choice.{Choice}

-- ---- what a word may set

abbrev pub setting_named : List ℕ → Option Setting
setting_named name =
    if bytes_eq name (codes "packet") then Some Packet
    else if bytes_eq name (codes "buffers") then Some Buffers
    else if bytes_eq name (codes "bytes") then Some Bytes
    else if bytes_eq name (codes "mode") then Some Mode
    else if bytes_eq name (codes "window") then Some Window
    else if bytes_eq name (codes "timeout") then Some Timeout
    else if bytes_eq name (codes "age") then Some Age
    else if bytes_eq name (codes "rounds") then Some Rounds
    else if bytes_eq name (codes "silence") then Some Silence
    else if bytes_eq name (codes "as") then Some Output
    else if bytes_eq name (codes "until") then Some Until
    else if bytes_eq name (codes "progress") then Some Progress
    else if bytes_eq name (codes "digest") then Some Digest
    else None

abbrev pub number_within : ℕ → ℕ → List ℕ → Option ℕ
number_within low high text = result_ok (number_in low high text)

-- `lines`, `pictures` or `counts`, by their numbers from 0
abbrev pub output_in : List ℕ → Option ℕ
output_in text =
    if bytes_eq text (codes "lines") then Some 0
    else if bytes_eq text (codes "pictures") then Some 1
    else if bytes_eq text (codes "counts") then Some 2
    else None

-- `sha256` or `none`, by their numbers from 0
abbrev pub digest_in : List ℕ → Option ℕ
digest_in text =
    if bytes_eq text (codes "sha256") then Some 0
    else if bytes_eq text (codes "none") then Some 1
    else None

-- `frames` or `stdin`, by their numbers from 0
abbrev pub until_in : List ℕ → Option ℕ
until_in text =
    if bytes_eq text (codes "frames") then Some 0
    else if bytes_eq text (codes "stdin") then Some 1
    else None

-- a number that is 0 or at least this
abbrev pub none_or_from : ℕ → Option ℕ → Option ℕ
none_or_from low None = None
none_or_from low (Some n) = if (n == 0) || nat_le low n then Some n else None

-- what a setting is set to by this text
abbrev pub value_in : Setting → List ℕ → Option ℕ
value_in Packet text = number_within 576 9000 text
value_in Buffers text = number_within 1 15 text
value_in Bytes text = number_within 1 67108864 text
value_in Mode text = number_within 0 2 text
value_in Window text = number_within 1 4 text
value_in Timeout text = number_within 1 60000 text
value_in Age text = number_within 1 60000 text
value_in Rounds text = number_within 0 8 text
value_in Silence text = number_within 1 3600000 text
value_in Output text = output_in text
value_in Until text = until_in text
value_in Progress text = none_or_from 100 (number_within 0 60000 text)
value_in Digest text = digest_in text

-- ---- what was set

-- each setting has a number of its own
abbrev pub number_of : Setting → ℕ
number_of Packet = 0
number_of Buffers = 1
number_of Bytes = 2
number_of Mode = 3
number_of Window = 4
number_of Timeout = 5
number_of Age = 6
number_of Rounds = 7
number_of Silence = 8
number_of Output = 9
number_of Until = 10
number_of Progress = 11
number_of Digest = 12

abbrev pub is_same : Setting → Setting → Bool
is_same a b = number_of a == number_of b

-- what it was set to, if it was
abbrev pub found : Setting → List Choice → Option ℕ
found setting [] = None
found setting (c ∷ cs) = if is_same c.setting setting then Some c.value else found setting cs

-- the same, or this where no word set it
abbrev pub value_or : ℕ → Option ℕ → ℕ
value_or default None = default
value_or default (Some value) = value

abbrev pub chosen : Setting → ℕ → List Choice → ℕ
chosen setting default choices = value_or default (found setting choices)

-- ---- ranges

abbrev pub Fits : Setting → ℕ → Type 0
Fits Packet n = (576 ≤ n) × (n ≤ 9000)
Fits Buffers n = (1 ≤ n) × (n ≤ 15)
Fits Bytes n = (1 ≤ n) × (n ≤ 67108864)
Fits Mode n = n ≤ 2
Fits Window n = (1 ≤ n) × (n ≤ 4)
Fits Timeout n = (1 ≤ n) × (n ≤ 60000)
Fits Age n = (1 ≤ n) × (n ≤ 60000)
Fits Rounds n = n ≤ 8
Fits Silence n = (1 ≤ n) × (n ≤ 3600000)
Fits Output n = n ≤ 2
Fits Until n = n ≤ 1
Fits Progress n = n ≤ 60000
Fits Digest n = n ≤ 1

-- All of them do.
abbrev pub AllFit : List Choice → Type 0
AllFit [] = ⊤
AllFit (c ∷ cs) = Fits c.setting c.value × AllFit cs

-- how many of them are of the setting with this number
abbrev pub count_of : ℕ → List Choice → ℕ
count_of number [] = 0
count_of number (c ∷ cs) = cond (number_of c.setting == number) 1 0 + count_of number cs

-- Each setting was set at most once.
abbrev pub AreOnce : List Choice → Type 0
AreOnce choices = (number : ℕ) → count_of number choices ≤ 1
