-- A line for standard error is told behind the run.
use Rattle.std.proofs.Common.{◌≡◌, ℕ, List, Option, sym, subst}
use Rattle.board_machine.specs.declared.events.Entry.{Entry}
use Rattle.camera_words.specs.declared.settings.Settings.{Settings}
use Rattle.gev_links.specs.Links.{Address}
use Rattle.gev_status.specs.declared.status.Status.{Status}
use Rattle.gev_receive.specs.Receives.{Told, Receives}

pub receives_still : (settings : Settings) (camera own : Address) (o e : Told) (stream stream_after control control_after : ℕ)
    (written mid after : Option (List ℕ)) (faults faults_mid faults_after : ℕ) (left : Option (List ℕ)) (h : List Entry) (answer : Status)
    → Receives settings camera own o e stream stream_after control control_after written mid faults faults_mid left h answer
    → after ≡ mid → faults_after ≡ faults_mid
    → Receives settings camera own o e stream stream_after control control_after written after faults faults_after left h answer
receives_still settings camera own o e stream stream_after control control_after written mid after faults faults_mid faults_after left h answer did same same_faults =
    subst (λ v. Receives settings camera own o e stream stream_after control control_after written v faults faults_after left h answer) (sym same)
    (subst (λ n. Receives settings camera own o e stream stream_after control control_after written mid faults n left h answer) (sym same_faults) did)
