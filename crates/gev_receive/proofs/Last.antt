-- The last line.
use Rattle.std.proofs.Common.{◌≡◌, ℕ, Bool, true, List, Option, sym, subst}
use Rattle.gev_status.specs.declared.status.Status.{Status}
use Rattle.camera_words.specs.declared.settings.Output.{Output}
use Rattle.frame_writing.specs.declared.receive_counts.ReceiveCounts.{ReceiveCounts}
use Rattle.frame_writing.specs.ReceiveLine.{receive_line}
use Rattle.gev_receive.specs.Ending.{has_last, WritesLast, EndsWith, with_strangers, Finishes}

pub with_line : (output : Output) (first answer : Status) (counts last : ReceiveCounts) (strangers : ℕ) (written written_after : Option (List ℕ)) (faults faults_after : ℕ)
    → has_last output first ≡ true → last ≡ with_strangers counts strangers
    → WritesLast first (receive_line last) written written_after faults faults_after answer
    → Finishes output first answer counts strangers written written_after faults faults_after
with_line output first answer counts last strangers written written_after faults faults_after is same wrote_so =
    subst (λ (b : Bool). EndsWith b first answer (receive_line (with_strangers counts strangers)) written written_after faults faults_after) (sym is)
    (subst (λ (l : ReceiveCounts). WritesLast first (receive_line l) written written_after faults faults_after answer) same wrote_so)
