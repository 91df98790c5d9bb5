-- The register space as the list of its words, and what a call does with it.
use Rattle.std.specs.Prelude.{ℕ, ◌/◌, List, slice_index, slice_set, Option, Some, None, Result, Ok, Err}
use Rattle.std.specs.Option.{option_or}
use Rattle.gvcp_wire.specs.declared.status.Status.{Status}
use Rattle.gvcp_wire.specs.Status.{status_code}
use Rattle.bootstrap_regs.specs.Addresses.{CCP, SCP0}
use Rattle.bootstrap_regs.specs.Registers.{address_refusal, value_refusal}

-- the word at this address
abbrev pub word_at : List ℕ → ℕ → ℕ
word_at words address = slice_index words (address / 4)

-- the words with another value at this address
abbrev pub with_word : List ℕ → ℕ → ℕ → List ℕ
with_word words address value = slice_set words (address / 4) value

-- control was released: the control channel privilege and the host port of the stream are 0
abbrev pub released_words : List ℕ → List ℕ
released_words words = with_word (with_word words CCP 0) SCP0 0

-- the answer of a call that is refused with this status, if it is, and else gives this
abbrev pub answer : {A : Type 0} → Option Status → A → Result A ℕ
answer None given = Ok given
answer (Some status) given = Err (status_code status)

-- Why a value can't be written to an address: first the address, then the register and the value.
abbrev pub write_refusal : ℕ → ℕ → Option Status
write_refusal address value = option_or (address_refusal address) (value_refusal address value)

abbrev pub unless_refused : Option Status → List ℕ → List ℕ → List ℕ
unless_refused None words done = done
unless_refused (Some status) words done = words

-- the words after a write, which a refusal leaves as they are
abbrev pub after_write : List ℕ → ℕ → ℕ → List ℕ
after_write words address value = unless_refused (write_refusal address value) words (with_word words address value)
