-- What the application of a run over a camera's frames did.
use Rattle.std.specs.Prelude.{◌≡◌, ℕ, ◌≤◌, ◌<◌, Bool, true, List, [], ◌∷◌, ◌++◌, length, Option, Ok}
use Rattle.buffer_words.specs.Passes.{Token}
use Rattle.buffer_words.specs.Loans.{Lent}
use Rattle.gev_links.specs.Faults.{Rose}
use Rattle.gev_links.specs.Told.{Appends, IsSpent}
use Rattle.gev_apply.specs.Looks.{Looked, lent_in}
use Rattle.gev_apply.specs.Applied.{Looks, AllGoOn, EndsStopped}
use Rattle.camera_words.specs.declared.settings.Output.{Output}
use Rattle.frame_writing.specs.declared.handed_out.HandedEnd.{HandedEnd}
use Rattle.frame_writing.specs.declared.handed_out.HandedEnd.TheVariants.{Enough, Over, InputEnded, WriteFault, NoMemory}
use Rattle.frame_writing.specs.declared.handed_out.HandedOut.{HandedOut}
use Rattle.frame_writing.specs.Texts.{text_of, texts_of, complete_in}

-- The texts of all buffers were written, in order.
abbrev pub WritesAll : Output → List Looked → Option (List ℕ) → Option (List ℕ) → ℕ → ℕ → Type 0
WritesAll output made written written_after faults faults_after =
    Appends written written_after (texts_of output (lent_in made)) × (faults_after ≡ faults)

-- The texts of all buffers but the last turn's were written, in order, and this front of the last one's.
pub record WritesButLast (output : Output) (made : List Looked) (front : List ℕ) (written written_after : Option (List ℕ)) : Type 0 where
  pub before : List Looked
  pub last : Looked
  pub is : made ≡ before ++ last ∷ []
  pub on : AllGoOn before
  pub loan : Lent
  pub got : last.answer ≡ Ok loan
  pub rest : List ℕ
  pub parts : text_of output loan.id loan.filling ≡ front ++ rest
  pub appended : Appends written written_after (texts_of output (lent_in before) ++ front)

-- How it ended, behind these turns: with as many buffers as are wanted, or where the run was over and none was left, or
-- where the input that was watched has ended, each with all texts written; or by a write that failed, or for want of
-- memory.
abbrev pub EndsBy : HandedEnd → ℕ → Output → ℕ → List Looked → Option (List ℕ) → Option (List ℕ) → ℕ → ℕ → Bool → Option (List ℕ) → Type 0
EndsBy Enough frames output taken made written written_after faults faults_after on left =
    (taken ≡ frames) × AllGoOn made × WritesAll output made written written_after faults faults_after
EndsBy Over frames output taken made written written_after faults faults_after on left =
    (taken < frames) × EndsStopped made × WritesAll output made written written_after faults faults_after
EndsBy InputEnded frames output taken made written written_after faults faults_after on left =
    (taken < frames) × (on ≡ true) × IsSpent left × AllGoOn made × WritesAll output made written written_after faults faults_after
EndsBy WriteFault frames output taken made written written_after faults faults_after on left =
    ((front : List ℕ) × WritesButLast output made front written written_after) × Rose faults faults_after
EndsBy NoMemory frames output taken made written written_after faults faults_after on left =
    WritesButLast output made [] written written_after × (faults_after ≡ faults)

abbrev pub handed_out : ℕ → ℕ → HandedEnd → HandedOut
handed_out taken complete end = record { taken = taken; complete = complete; end = end }

-- It made these turns, which took so many buffers and no more than are wanted, each given back and queued behind its
-- text; so many of them were complete.
pub record HandsOut (frames : ℕ) (output : Output) (told now : Option (List ℕ)) (result : HandedOut) (s t : Token) (written written_after : Option (List ℕ)) (faults faults_after : ℕ) (on : Bool) (left : Option (List ℕ)) : Type 0 where
  pub made : List Looked
  pub looks : Looks told now made s t
  pub number : result.taken ≡ length (lent_in made)
  pub few : result.taken ≤ frames
  pub complete : result.complete ≡ complete_in (lent_in made)
  pub ends : EndsBy result.end frames output result.taken made written written_after faults faults_after on left
