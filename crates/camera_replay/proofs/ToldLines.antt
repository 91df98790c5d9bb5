-- Each line of a camera script by its events.
use Rattle.std.proofs.Common.{◌≡◌, ℕ, List, ◌++◌, sym, ap, subst, ◌∙◌}
use Rattle.std.proofs.lemmas.List.{append_cancel_left}
use Rattle.script_runs.specs.declared.ran.Ran.{Ran}
use Rattle.script_runs.specs.declared.ran.Ran.TheVariants.{GoesOn, Ended}
use Rattle.camera_machine.specs.Camera.{Camera}
use Rattle.camera_machine.specs.Events.{Event, after}
use Rattle.camera_machine.proofs.Passing.{one_primary}
use Rattle.camera_replay.specs.Serving.{Serving, script_camera}
use Rattle.camera_replay.specs.Standing.{Standing, first, running, RunsLater, CameraRuns}
use Rattle.camera_replay.specs.Printing.{printed_by}
use Rattle.camera_replay.specs.Laws.{IsOfEvents, IsToldBy, IsTold, HasCamera, RunsEvents, CameraTells, HasOnePrimary, ScriptsTell}
use Rattle.camera_replay.proofs.Giving.{after-append, printed_by-append}
use Rattle.camera_replay.proofs.Telling.{lines_events, reports_told}

-- what events print behind others, by the camera that those leave
printed_behind : (s : Camera) (past events : List Event) (text : List ℕ) → s ≡ after script_camera past
    → printed_by script_camera (events ++ past) ≡ printed_by script_camera past ++ text → text ≡ printed_by s events
printed_behind s past events text is told =
    append_cancel_left (printed_by script_camera past) text (printed_by s events)
    (sym told ∙ (printed_by-append script_camera events past ∙ ap (λ (c : Camera). printed_by script_camera past ++ printed_by c events) (sym is)))

line_events : (text : List ℕ) (s : Serving) (line report : List ℕ) (new : Standing) → IsToldBy text s → RunsLater s line report new → RunsEvents s line report new
line_events text s line report new told r =
    let one : IsOfEvents told.events s r.says r.part = lines_events told.events s r.says r.part told.camera r.does in
    record {
      says = r.says;
      read = r.read;
      events = one.events;
      comes = one.comes;
      printed = r.said ∙ printed_behind s.camera told.events one.events r.part.text told.camera one.report;
      leaves = subst (HasCamera (after s.camera one.events)) (sym r.after)
          (one.camera ∙ (after-append script_camera one.events told.events ∙ ap (λ (c : Camera). after c one.events) (sym told.camera)));
    }

tells_from : (text : List ℕ) (now : Standing) (n : ℕ) (line : List ℕ) (ran : Ran) (report : List ℕ) (new : Standing) → IsTold text now → CameraRuns now n line ran report new
    → CameraTells now n line ran report new
tells_from text first n line ran report new told runs = runs
tells_from text (running s) n line GoesOn report new told runs = (runs, line_events text s line report new told runs)
tells_from text (running s) n line Ended report new told runs = runs

has_one : (m : Standing) → HasOnePrimary m
has_one first = tt
has_one (running s) = one_primary s.camera

pub scripts_tell : ScriptsTell
scripts_tell = record {
  tells = λ lines text now n line ran report new led runs. tells_from text now n line ran report new (reports_told lines text now led) runs;
  one_primary = has_one;
}
