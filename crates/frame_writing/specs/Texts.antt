-- What is written of buffers that are handed out.
use Rattle.std.specs.Prelude.{ℕ, ◌+◌, cond, List, [], ◌∷◌, ◌++◌, Result, Ok, Err}
use Rattle.gentl_types.specs.declared.buffer_id.BufferId.{BufferId}
use Rattle.gev_types.specs.Filling.{Filling}
use Rattle.buffer_words.specs.Loans.{Lent}
use Rattle.camera_words.specs.declared.settings.Output.{Output}
use Rattle.camera_words.specs.declared.settings.Output.TheVariants.{Lines, Pictures, Counts}
use Rattle.frame_pictures.specs.declared.no_picture.NoPicture.{NoPicture}
use Rattle.frame_pictures.specs.Pictures.{picture_of}
use Rattle.frame_writing.specs.FrameLine.{frame_line}

-- the text of a picture; nothing, where there is none
abbrev pub picture_text : Result (List ℕ) NoPicture → List ℕ
picture_text (Ok text) = text
picture_text (Err why) = []

-- of a buffer: its line, the picture that it has by its own record, or nothing
abbrev pub text_of : Output → BufferId → Filling → List ℕ
text_of (Lines digest) id filling = frame_line digest id filling
text_of Pictures id filling = picture_text (picture_of filling)
text_of Counts id filling = []

-- of all these, in order
abbrev pub texts_of : Output → List Lent → List ℕ
texts_of output [] = []
texts_of output (loan ∷ loans) = text_of output loan.id loan.filling ++ texts_of output loans

-- how many of these are complete
abbrev pub complete_in : List Lent → ℕ
complete_in [] = 0
complete_in (loan ∷ loans) = cond loan.filling.rec.complete 1 0 + complete_in loans
