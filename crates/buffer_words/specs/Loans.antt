-- What a contract sees of a loan, and which loans a pass can end.
use Rattle.std.specs.Prelude.{◌≡◌, length}
use Rattle.gev_types.specs.Filling.{Filling}
use Rattle.gentl_types.specs.declared.buffer_id.BufferId.{BufferId}
use Rattle.board_machine.specs.Machine.{word_at}
use Rattle.board_machine.specs.Histories.{After}
use Rattle.buffer_words.specs.Passes.{Token, IsLifted, size_at, SamePlace}

-- A borrowed buffer: which one it is, and its content.
pub record Lent : Type 0 where
  pub id : BufferId
  pub filling : Filling

-- The loan's place is lifted in this pass's hands, and still has the loan's buffer.
pub record IsLoanOf (s : Token) (l : Lent) : Type 0 where
  pub lifted : IsLifted s l.id.place
  pub generation : l.id.generation ≡ (word_at (After s.seen) l.id.place).generation
  pub size : length l.filling.bytes ≡ size_at s l.id.place

-- A loan stays the pass's while calls leave its place alone.
abbrev pub LoansStay : Type 0
LoansStay = (s t : Token) (l : Lent) → IsLoanOf s l → SamePlace l.id.place s t → IsLoanOf t l
