-- The laws of the resend store: what it keeps stands for the list of all frames that were pushed since
-- the last clear, and it answers as that list says.
use Rattle.std.specs.Prelude.{◌≡◌, ℕ, ◌≤◌, List, [], ◌∷◌, ◌++◌, length}
use Rattle.resend_store.specs.declared.sent.SentFrame.{SentFrame}
use Rattle.resend_store.specs.Pushes.{last_of, held_of, fallen_of, reply_of}
use Rattle.resend_store.specs.Shelf.{Shelf, empty_shelf, with_pushed, oldest_out, held_in, reply_in}

-- These are the frames that were pushed since the last clear.
pub record Stands (shelf : Shelf) (pushed : List SentFrame) : Type 0 where
  pub count_is : shelf.count ≡ length pushed
  pub frames_are : shelf.frames ≡ last_of shelf.room pushed

abbrev pub EmptyStands : ℕ → Type 0
EmptyStands room = Stands (empty_shelf room) []

-- a push adds its frame at the end of the list
abbrev pub PushStands : Shelf → List SentFrame → SentFrame → Type 0
PushStands shelf pushed sent = 1 ≤ shelf.room → Stands shelf pushed → Stands (with_pushed shelf sent) (pushed ++ sent ∷ [])

-- The answers are those of the list.
pub record AnswersAs (shelf : Shelf) (pushed : List SentFrame) : Type 0 where
  pub held : (b : ℕ) → held_in shelf b ≡ held_of shelf.room pushed b
  pub fallen : oldest_out shelf.room shelf.frames ≡ fallen_of shelf.room pushed
  pub reply : (first last b : ℕ) → reply_in shelf first last b ≡ reply_of shelf.room pushed first last b

abbrev pub StoreAnswers : Shelf → List SentFrame → Type 0
StoreAnswers shelf pushed = 1 ≤ shelf.room → Stands shelf pushed → AnswersAs shelf pushed
