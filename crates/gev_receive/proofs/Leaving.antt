-- The camera was taken and let go.
use Rattle.std.proofs.Common.{◌≡◌, ℕ, Bool, true, false, List, Option, Result, refl, sym, subst}
use Rattle.client_machine.specs.Machine.{Client}
use Rattle.gev_links.specs.Links.{Address, Answer}
use Rattle.gev_control.specs.CarriesOut.{ControlSide}
use Rattle.camera_control.specs.declared.control_end.ControlEnd.{ControlEnd}
use Rattle.camera_control.specs.declared.register_write.RegisterWrite.{RegisterWrite}
use Rattle.camera_control.specs.declared.taken.Taken.{Taken}
use Rattle.camera_control.specs.declared.taken.NotTaken.{NotTaken}
use Rattle.camera_control.specs.Taking.{Takes, Leaves, FailsAs}
use Rattle.camera_words.specs.declared.settings.Settings.{Settings}
use Rattle.camera_words.specs.declared.register_write.Stage.TheVariants.{Set, Start, Stop}
use Rattle.gev_status.specs.declared.status.Status.{Status}
use Rattle.gev_receive.specs.Answers.{control_status, leave_status, weightier, is_lost}
use Rattle.gev_receive.specs.Starting.{writes_at}
use Rattle.gev_receive.specs.Receives.{wish_of, TakesBy, LeavesUnless, LeavesHeld}

pub takes_so : (settings : Settings) (camera own : Address) (o n : ControlSide) (found : Result Taken NotTaken) (sets starts : List RegisterWrite)
    → sets ≡ writes_at Set settings.writes.items → starts ≡ writes_at Start settings.writes.items
    → Takes camera (wish_of settings own) sets starts o n found → TakesBy settings camera own o n found
takes_so settings camera own o n found sets starts sets_are starts_are takes =
    subst (λ (k : List RegisterWrite). Takes camera (wish_of settings own) (writes_at Set settings.writes.items) k o n found) starts_are
    (subst (λ (k : List RegisterWrite). Takes camera (wish_of settings own) k starts o n found) sets_are takes)

pub leaves_so : (b : Bool) (settings : Settings) (camera : Address) (heartbeat : Bool) (frames : ℕ) (first answer : Status) (r q t : Option (List Answer))
    (w v x : Option (List (Address × List ℕ))) (d e : Option (List ℕ)) (s u : Client) (stops : List RegisterWrite) (faults faults_mid faults_after : ℕ)
    (result : Result (Unit {0}) ControlEnd)
    → b ≡ false → q ≡ r → v ≡ w → stops ≡ writes_at Stop settings.writes.items → faults_mid ≡ faults
    → Leaves camera heartbeat stops (record { heard = q; sent = v; told = d; client = s }) (record { heard = t; sent = x; told = e; client = u }) result
    → FailsAs result faults_mid faults_after → answer ≡ weightier first (leave_status result frames)
    → LeavesUnless b settings camera heartbeat frames first (record { heard = r; sent = w; told = d; client = s }) (record { heard = t; sent = x; told = e; client = u })
    faults faults_after answer
leaves_so b settings camera heartbeat frames first answer r q t w v x d e s u stops faults faults_mid faults_after result unlost heard sent are same leaves fails is =
    subst (λ (k : Bool). LeavesUnless k settings camera heartbeat frames first (record { heard = r; sent = w; told = d; client = s }) (record { heard = t; sent = x; told = e; client = u }) faults faults_after answer) (sym unlost) (
      result,
      (
        subst (λ (k : Option (List Answer)). Leaves camera heartbeat (writes_at Stop settings.writes.items) (record { heard = k; sent = w; told = d; client = s }) (record { heard = t; sent = x; told = e; client = u }) result) heard
            (subst (λ (k : Option (List (Address × List ℕ))). Leaves camera heartbeat (writes_at Stop settings.writes.items) (record { heard = q; sent = k; told = d; client = s }) (record { heard = t; sent = x; told = e; client = u }) result) sent
            (subst (λ (k : List RegisterWrite). Leaves camera heartbeat k (record { heard = q; sent = v; told = d; client = s }) (record { heard = t; sent = x; told = e; client = u }) result) are leaves)),
        subst (λ (k : ℕ). FailsAs result k faults_after) same fails,
        is,
      ),
    )

pub leaves_none : (b : Bool) (settings : Settings) (camera : Address) (heartbeat : Bool) (frames : ℕ) (first : Status) (o : ControlSide) (faults : ℕ) → b ≡ true
    → LeavesUnless b settings camera heartbeat frames first o o faults faults first
leaves_none b settings camera heartbeat frames first o faults lost =
    subst (λ (k : Bool). LeavesUnless k settings camera heartbeat frames first o o faults faults first) (sym lost) (refl, refl, refl)

pub held_so : (held lost : Bool) (settings : Settings) (camera : Address) (cause : ControlEnd) (frames : ℕ) (first answer : Status) (o n : ControlSide) (faults faults_after : ℕ)
    → held ≡ true → lost ≡ is_lost cause → frames ≡ 0 → first ≡ control_status cause 0
    → LeavesUnless lost settings camera false frames first o n faults faults_after answer → LeavesHeld held settings camera cause o n faults faults_after answer
held_so held lost settings camera cause frames first answer o n faults faults_after is lost_is none first_is leaves =
    subst (λ (k : Bool). LeavesHeld k settings camera cause o n faults faults_after answer) (sym is)
    (subst (λ (k : Bool). LeavesUnless k settings camera false 0 (control_status cause 0) o n faults faults_after answer) lost_is
    (subst (λ (k : ℕ). LeavesUnless lost settings camera false k (control_status cause 0) o n faults faults_after answer) none
    (subst (λ (s : Status). LeavesUnless lost settings camera false frames s o n faults faults_after answer) first_is leaves)))

pub held_none : (held : Bool) (settings : Settings) (camera : Address) (cause : ControlEnd) (first : Status) (o : ControlSide) (faults : ℕ) → held ≡ false → first ≡ control_status cause 0
    → LeavesHeld held settings camera cause o o faults faults first
held_none held settings camera cause first o faults is first_is =
    subst (λ (k : Bool). LeavesHeld k settings camera cause o o faults faults first) (sym is) (refl, refl, first_is)
