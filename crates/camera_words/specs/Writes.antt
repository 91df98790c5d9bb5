-- Registers that are to be written, as words: `<register>=<value>`.
use Rattle.std.specs.Prelude.{ℕ, ◌-◌, ◌%◌, ◌==◌, ◌&&◌, ◌||◌, nat_le, not, Bool, if◌then◌else◌, List, ◌++◌, length, take, drop, slice_index, codes, Option, Some, None, option_map}
use Rattle.std.specs.Result.{result_ok}
use Rattle.std.specs.Str.{bytes_eq}
use Rattle.byteorder.specs.Endian.{big_number}
use Rattle.hex.specs.Hex.{decode_sized}
use Rattle.gev_script.specs.Numbers.{number_in}
use Rattle.camera_words.specs.declared.register_write.Stage.{Stage}
use Rattle.camera_words.specs.declared.register_write.Stage.TheVariants as stages
use Rattle.camera_words.specs.declared.register_write.RegisterWrite.{RegisterWrite}
use Rattle.camera_words.specs.Parts.{before_byte, behind_byte}

abbrev pub equals_sign : ℕ
equals_sign = 0x3D

abbrev pub most_u32 : ℕ
most_u32 = 4294967295

-- ---- numbers

abbrev pub begins_hex : List ℕ → Bool
begins_hex word = nat_le 2 (length word) && (slice_index word 0 == 0x30) && (slice_index word 1 == 0x78)

-- with zeros in front, so that there are eight digits
abbrev pub padded : List ℕ → List ℕ
padded digits = take (8 - length digits) (codes "00000000") ++ digits

-- the number that one to eight hex digits of either case spell
abbrev pub hex_number : List ℕ → Option ℕ
hex_number digits =
    if nat_le 1 (length digits) && nat_le (length digits) 8
    then option_map (big_number 4) (result_ok (decode_sized (padded digits) 4)) else None

-- `0x` and hex digits, or a decimal number without leading zeros
abbrev pub register_number : List ℕ → Option ℕ
register_number word = if begins_hex word then hex_number (drop 2 word) else result_ok (number_in 0 most_u32 word)

-- ---- writes

-- the registers that the program writes by itself (GigE Vision 2.0: CCP, SCP0, SCPS0 and SCDA0)
abbrev pub is_own : ℕ → Bool
is_own register = (register == 0x0A00) || (register == 0x0D00) || (register == 0x0D04) || (register == 0x0D18)

abbrev pub may_write : ℕ → Bool
may_write register = (register % 4 == 0) && not (is_own register)

abbrev pub write_by : Stage → Option ℕ → Option ℕ → Option RegisterWrite
write_by stage None value = None
write_by stage (Some register) None = None
write_by stage (Some register) (Some value) =
    if may_write register then Some (record { stage = stage; register = register; value = value }) else None

abbrev pub write_at : Stage → List ℕ → Option (List ℕ) → Option RegisterWrite
write_at stage register None = None
write_at stage register (Some value) = write_by stage (register_number register) (register_number value)

-- the write that `<register>=<value>` is
abbrev pub write_in : Stage → List ℕ → Option RegisterWrite
write_in stage text = write_at stage (before_byte equals_sign text) (behind_byte equals_sign text)

-- `set`, `start` or `stop`
abbrev pub stage_in : List ℕ → Option Stage
stage_in word =
    if bytes_eq word (codes "set") then Some stages.Set
    else if bytes_eq word (codes "start") then Some stages.Start
    else if bytes_eq word (codes "stop") then Some stages.Stop
    else None
