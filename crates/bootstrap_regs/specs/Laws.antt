-- Laws of the registers, which `src/laws.rt` proves.
use Rattle.std.specs.Prelude.{◌≡◌, ◌↔◌, ℕ, ◌+◌, ◌*◌, ◌%◌, ◌<◌, Bool, true, ◌&&◌, ◌==◌, nat_le, IsTrue, List, [], ◌∷◌, length, Option, Ok, if◌then◌else◌}
use Rattle.std.specs.List.{list_all}
use Rattle.gvcp_wire.specs.declared.status.Status.{Status}
use Rattle.bootstrap_regs.specs.declared.addresses.TheConstants as code
use Rattle.bootstrap_regs.specs.declared.table.Initial.{Initial}
use Rattle.bootstrap_regs.specs.declared.table.Initial.TheVariants.{Number, Text}
use Rattle.bootstrap_regs.specs.declared.table.Register.{Register}
use Rattle.bootstrap_regs.specs.declared.table.TheConstants.{REGISTERS}
use Rattle.bootstrap_regs.specs.Addresses.{HEARTBEAT_TIMEOUT, CCP, SCP0, SCPS0, SCPD0, SCDA0, END, WORDS, DISCOVERY_WORDS}
use Rattle.bootstrap_regs.specs.Table.{TABLE}
use Rattle.bootstrap_regs.specs.Registers.{address_refusal}
use Rattle.bootstrap_regs.specs.Words.{word_at, answer, write_refusal}
use Rattle.bootstrap_regs.specs.Writables.{CauseOf}

-- The constants of `src/addresses.rt` are the numbers of `Addresses`.
pub record AddressesAreStandard : Type 0 where
  pub heartbeat_timeout : code.HEARTBEAT_TIMEOUT ≡ HEARTBEAT_TIMEOUT
  pub ccp : code.CCP ≡ CCP
  pub scp0 : code.SCP0 ≡ SCP0
  pub scps0 : code.SCPS0 ≡ SCPS0
  pub scpd0 : code.SCPD0 ≡ SCPD0
  pub scda0 : code.SCDA0 ≡ SCDA0
  pub the_end : code.END ≡ END
  pub words : code.WORDS ≡ WORDS
  pub discovery_words : code.DISCOVERY_WORDS ≡ DISCOVERY_WORDS

-- ---- the table

-- The registers of `src/table.rt` are those of `Table`.
abbrev pub TableIsDefined : Type 0
TableIsDefined = REGISTERS ≡ TABLE

-- Registers by rising address without overlap, from this address on and within the register space.
abbrev pub are_in_order : ℕ → List Register → Bool
are_in_order from [] = nat_le from END
are_in_order from (r ∷ rs) =
    nat_le from r.address && (r.address % 4 == 0) && nat_le 1 r.words && are_in_order (r.address + 4 * r.words) rs

abbrev pub TableIsInOrder : Type 0
TableIsInOrder = IsTrue (are_in_order 0 TABLE)

-- printable ASCII characters, and then zero bytes alone
abbrev pub is_filled_text : List ℕ → Bool
is_filled_text [] = true
is_filled_text (byte ∷ bytes) =
    if byte == 0 then list_all (λ b. b == 0) bytes else nat_le 0x20 byte && nat_le byte 0x7E && is_filled_text bytes

-- a register's text is such a text, and the register has room for it
abbrev pub has_filled_text : Initial → ℕ → Bool
has_filled_text (Number number) words = true
has_filled_text (Text text) words = is_filled_text text && nat_le (length text) (4 * words)

abbrev pub TextsAreFilled : Type 0
TextsAreFilled = IsTrue (list_all (λ r. has_filled_text r.initial r.words) TABLE)

-- ---- calls

-- each word of the register space can be read
abbrev pub EachWordIsReadable : Type 0
EachWordIsReadable =
    (words : List ℕ) (address : ℕ) → address % 4 ≡ 0 → address < END
    → answer (address_refusal address) (word_at words address) ≡ Ok (word_at words address)

-- A write is refused with a status exactly where that status has its cause, and done exactly where the
-- value may be written.
abbrev pub WritesHaveCauses : Type 0
WritesHaveCauses = (address value : ℕ) (refusal : Option Status) → (write_refusal address value ≡ refusal) ↔ CauseOf address value refusal
