-- What a recorded run over ports came to, by its answer and by what came back.
use Rattle.std.proofs.Common.{◌≡◌, ◌≢◌, ℕ, List, [], ◌∷◌, Option, refl, sym, ◌∙◌, subst, inl, inr}
use Rattle.board_machine.specs.declared.events.Entry.{Entry}
use Rattle.gev_links.specs.Links.{Address, Answer}
use Rattle.gev_status.specs.declared.status.Status.{Status}
use Rattle.gev_status.specs.declared.status.Status.TheVariants.{Done, Usage, BadScript, ReadFault, WriteFault, LinkFault, NoMemory, NoAnswer, Refused, TurnsSpent, BadCapture, NoPicture, Silent, Controlled, NoDescription, ControlLost, NoDatagram, RefusedAt}
use Rattle.board_calls.specs.declared.mode.Mode.{Mode}
use Rattle.board_calls.specs.declared.mode.Mode.TheVariants.{OldestFirst}
use Rattle.gev_program.specs.Bound.{AllToldOfThree}
use Rattle.gev_top.specs.declared.live_numbers.LiveNumbers.{LiveNumbers}
use Rattle.gev_top.specs.Completeness.{NoneRose, EndsLive}
use Rattle.gev_live.specs.Told.{Told}
use Rattle.gev_live.specs.declared.numbers.Numbers.{Numbers}
use Rattle.live_recording.specs.Recorded.{Recorded, RecordsLive}
use Rattle.gev_program.specs.Runs.{IsUntold, told_by, RecordsOver}
use Rattle.gev_program.proofs.Promised.{all_back}

script_ends : (answer : Status) (script : List ℕ) (written written_after : Option (List ℕ)) (faults faults_after : ℕ) → Recorded answer script written written_after faults faults_after
    → NoneRose faults faults_after → answer ≢ LinkFault → EndsLive answer
script_ends Done script written written_after faults faults_after wrote none other = tt
script_ends (NoAnswer req) script written written_after faults faults_after wrote none other = tt
script_ends (Refused status) script written written_after faults faults_after wrote none other = tt
script_ends (TurnsSpent turns frames) script written written_after faults faults_after wrote none other = tt
script_ends NoMemory script written written_after faults faults_after wrote none other = tt
script_ends WriteFault script written written_after faults faults_after wrote none other = none wrote.1
script_ends LinkFault script written written_after faults faults_after wrote none other = other refl
script_ends ReadFault script written written_after faults faults_after wrote none other = wrote
script_ends (Usage place) script written written_after faults faults_after wrote none other = wrote
script_ends (BadScript line kind) script written written_after faults faults_after wrote none other = wrote
script_ends (BadCapture number kind) script written written_after faults faults_after wrote none other = wrote
script_ends (NoPicture why) script written written_after faults faults_after wrote none other = wrote
script_ends (Silent frames) script written written_after faults faults_after wrote none other = wrote
script_ends Controlled script written written_after faults faults_after wrote none other = wrote
script_ends NoDescription script written written_after faults faults_after wrote none other = wrote
script_ends (ControlLost frames) script written written_after faults faults_after wrote none other = wrote
script_ends (NoDatagram port) script written written_after faults faults_after wrote none other = wrote
script_ends (RefusedAt register code) script written written_after faults faults_after wrote none other = wrote

pub record_ends : (n : Numbers) (camera stream : Address) (answer : Status) (o e : Told) (taped : List (Option (List ℕ))) (written written_after : Option (List ℕ)) (faults faults_after : ℕ) (h : List Entry)
    → RecordsLive n camera stream answer o e taped written written_after faults faults_after h → NoneRose faults faults_after → answer ≢ LinkFault → EndsLive answer
record_ends n camera stream answer o e taped written written_after faults faults_after h (inl run) none other =
    script_ends answer _ written written_after faults faults_after run.ended.wrote none other
record_ends n camera stream answer o e taped written written_after faults faults_after h (inr nothing) none other = subst EndsLive (sym nothing.never.wanted) tt

not_usage : (answer : Status) (place : ℕ) (script : List ℕ) (written written_after : Option (List ℕ)) (faults faults_after : ℕ) → Recorded answer script written written_after faults faults_after
    → answer ≢ Usage place
not_usage answer place script written written_after faults faults_after wrote is =
    subst (λ (a : Status). Recorded a script written written_after faults faults_after) is wrote

-- the answer of a run is none to words
pub record_understood : (n : Numbers) (camera stream : Address) (answer : Status) (o e : Told) (taped : List (Option (List ℕ))) (written written_after : Option (List ℕ)) (faults faults_after : ℕ) (h : List Entry)
    → RecordsLive n camera stream answer o e taped written written_after faults faults_after h → (place : ℕ) → answer ≢ Usage place
record_understood n camera stream answer o e taped written written_after faults faults_after h (inl run) place is =
    not_usage answer place _ written written_after faults faults_after run.ended.wrote is
record_understood n camera stream answer o e taped written written_after faults faults_after h (inr nothing) place is =
    let bad : NoMemory ≡ Usage place = sym nothing.never.wanted ∙ is in cc

-- the numbers of such a run in this mode
abbrev pub in_mode : LiveNumbers → Mode → Numbers
in_mode n mode = record { seed = n.seed; frames = n.frames; buffers = n.buffers; lanes = 1; turns = n.turns; mode = mode }

pub recorded_over : {L C : Type 0} (received : L → Option (List Answer)) (sent : L → Option (List (Address × List ℕ))) (faults : L → ℕ) (told : C → Option (List ℕ))
    (n : LiveNumbers) (status : Status) (links links_after : Option (List L)) (clocks clocks_after : Option (List C)) (written written_after : Option (List ℕ)) (writes writes_after : ℕ) (h : List Entry)
    (camera stream : Address) (begins : Told) (taped : List (Option (List ℕ))) (camera_link stream_link control_link : L) (camera_clock host_clock app_clock : C) → IsUntold begins → n.mode ≡ OldestFirst
    → RecordsLive (in_mode n OldestFirst) camera stream status begins (told_by received sent faults told camera_link stream_link control_link camera_clock host_clock app_clock) taped written written_after writes writes_after h
    → AllToldOfThree links links_after (camera_link ∷ stream_link ∷ control_link ∷ []) → AllToldOfThree clocks clocks_after (camera_clock ∷ host_clock ∷ app_clock ∷ [])
    → RecordsOver received sent faults told n camera stream status links links_after clocks clocks_after written written_after writes writes_after h
recorded_over received sent faults told n status links links_after clocks clocks_after written written_after writes writes_after h
    camera stream begins taped camera_link stream_link control_link camera_clock host_clock app_clock untold oldest runs links_back clocks_back = record {
      begins = begins;
      untold = untold;
      ends = told_by received sent faults told camera_link stream_link control_link camera_clock host_clock app_clock;
      taped = taped;
      runs = subst
          (λ (m : Mode). RecordsLive (in_mode n m) camera stream status begins (told_by received sent faults told camera_link stream_link control_link camera_clock host_clock app_clock) taped written written_after writes writes_after h)
          (sym oldest) runs;
      listed = λ none no_clocks. record {
        camera = camera_link;
        stream = stream_link;
        control = control_link;
        camera_clock = camera_clock;
        host_clock = host_clock;
        app_clock = app_clock;
        links_are = all_back links links_after camera_link stream_link control_link links_back none;
        clocks_are = all_back clocks clocks_after camera_clock host_clock app_clock clocks_back no_clocks;
        are = refl;
      };
    }
