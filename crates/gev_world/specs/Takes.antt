-- What the application's takes of a round do to the host, and what they write.
use Rattle.std.specs.Prelude.{◌≡◌, ℕ, Bool, true, false, List, [], ◌∷◌, ◌++◌, Option, Result, IfOk}
use Rattle.gev_make.specs.declared.stop.Stop.{Stop}
use Rattle.gev_report.specs.ReplayLines.{take_line}
use Rattle.gev_script.specs.Lines as line
use Rattle.gev_script.specs.Lines.{ScriptLine}
use Rattle.board_machine.specs.Machine.{Item, word_at}
use Rattle.board_machine.specs.Ids.{buffer_at}
use Rattle.world_laws.specs.Receiver.{Receiver, waiting, takes_one, soak_host}
use Rattle.soak_receiver.specs.Standing.{Hosting, HostStands}
use Rattle.gev_world.specs.Rounds.{Wrote}
use Rattle.world_laws.specs.SoakApplication.{soak_takes}

-- The code stands for some receiver, behind some lines.
pub record HasReceiver (h : Hosting) : Type 0 where
  pub lines : List ScriptLine
  pub receiver : Receiver
  pub stands : HostStands h lines receiver

-- the take line of the first of these buffers
abbrev pub first_text : List Item → Receiver → List ℕ
first_text [] r = []
first_text (x ∷ xs) r = take_line (buffer_at r.board x.place) x.filling

-- The first of these was taken, returned and queued, where there is one.
abbrev pub Took : List Item → Bool → List ScriptLine → Receiver → Hosting → Type 0
Took [] took lines r new = (took ≡ false) × HostStands new (lines ++ line.take ∷ []) r
Took (x ∷ xs) took lines r new =
    (took ≡ true) × HostStands new (lines ++ line.take ∷ line.queue x.place (word_at r.board x.place).generation ∷ []) (takes_one x r)

-- And its line was written.
pub record WritesTake (result : Result Bool Stop) (lines : List ScriptLine) (r : Receiver) (new : Hosting) (written written_after : Option (List ℕ)) (faults faults_after : ℕ) : Type 0 where
  pub took : IfOk result (λ took. Took (waiting r.board) took lines r new)
  pub wrote : Wrote result written written_after faults faults_after (first_text (waiting r.board) r)

-- What is left to take leads to the same receiver and lines as all of it did at first.
pub record IsTaking (lines : List ScriptLine) (first : Receiver) (now : Hosting) : Type 0 where
  pub done : List ScriptLine
  pub receiver : Receiver
  pub stands : HostStands now done receiver
  pub lines_are : done ++ soak_takes (waiting receiver.board) receiver ≡ lines ++ soak_takes (waiting first.board) first
  pub same : soak_host.takes receiver ≡ soak_host.takes first
