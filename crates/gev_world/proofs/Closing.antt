-- Whether a run is done, and the line that it ends with.
use Rattle.std.proofs.Common.{◌≡◌, ℕ, Bool, true, false, List, [], ◌++◌, Option, Some, None, Result, Ok, Err, refl, sym, ap, subst, ◌∙◌, append-nil}
use Rattle.std.specs.Prelude.{◌&&◌, if◌then◌else◌, IfOk}
use Rattle.gev_make.specs.declared.stop.Stop.{Stop}
use Rattle.gev_make.specs.declared.stop.Stop.TheVariants.{NoMemory}
use Rattle.gev_make.specs.Writing.{Writes}
use Rattle.gev_make.proofs.Texts.{Appends-none, writes_none, writes_then, writes_stops}
use Rattle.gev_report.specs.declared.soak_numbers.SoakNumbers.{SoakNumbers}
use Rattle.gev_report.specs.SoakLine.{soak_line}
use Rattle.world_laws.specs.Receiver.{Receiver, soak_host}
use Rattle.soak_receiver.specs.declared.counts.SoakCounts.{SoakCounts}
use Rattle.soak_receiver.specs.Standing.{Hosting, numbers_in}
use Rattle.world_machine.specs.State.{HostNumbers, Run, World}
use Rattle.world_machine.specs.ClientTurn.{done}
use Rattle.world_machine.specs.Rounds.{Round, is_nothing, is_done, closes, last_line, numbers_of}
use Rattle.world_machine.specs.HostActs.{HostAct}
use Rattle.gev_world.specs.declared.stage.Stage.{Stage}
use Rattle.gev_world.specs.declared.run_end.RunEnd.{RunEnd}
use Rattle.gev_world.specs.declared.run_end.RunEnd.TheVariants as ends
use Rattle.gev_world.specs.Seen.{run_of}
use Rattle.gev_world.specs.Hosts.{Stands}
use Rattle.gev_world.specs.Rounds.{is_sent_out, outcome_of, RoundPassed, EndsRound}

-- ---- whether it is done

joined : (a b c : Bool) → (a && (b && c)) ≡ ((a && b) && c)
joined true b c = refl
joined false b c = refl

pub done_is : (s : Stage) (h : Hosting) (acts : List HostAct) (w : World Receiver) → Stands s h acts w → (sent idle quiet : Bool) → sent ≡ is_sent_out s
    → idle ≡ soak_host.is_idle w.host → quiet ≡ (is_nothing s.to_camera && is_nothing s.to_host) → (sent && idle && quiet) ≡ is_done (run_of s) soak_host w
done_is s h acts w stands sent idle quiet a b c =
    ap (λ (x : Bool). (x && idle) && quiet) a ∙ ap (λ (x : Bool). (is_sent_out s && x) && quiet) b ∙ ap (λ (x : Bool). (is_sent_out s && soak_host.is_idle w.host) && x) c
    ∙ joined (is_sent_out s && soak_host.is_idle w.host) (is_nothing s.to_camera) (is_nothing s.to_host)
    ∙ sym (ap (λ (v : World Receiver). is_done (run_of s) soak_host v) stands.is)

-- the numbers of its last line
pub numbers_are : (frames frames_also commands commands_also : ℕ) (counts : SoakCounts) (r : Receiver) → frames_also ≡ frames → commands_also ≡ commands
    → numbers_in counts ≡ soak_host.numbers r
    → record {
      frames = frames_also;
      taken = counts.taken;
      complete = counts.complete;
      incomplete = counts.incomplete;
      underrun = counts.underrun;
      requests = counts.requests;
      commands = commands_also;
    } ≡ numbers_of frames commands (soak_host.numbers r)
numbers_are frames frames_also commands commands_also counts r a b are =
    ap (λ (n : ℕ). numbers_of n commands_also (numbers_in counts)) a ∙ ap (λ (n : ℕ). numbers_of frames n (numbers_in counts)) b
    ∙ ap (λ (n : HostNumbers). numbers_of frames commands n) are

pub said_last : (s : Stage) (h : Hosting) (acts : List HostAct) (w : World Receiver) (numbers : SoakNumbers) → Stands s h acts w
    → numbers ≡ numbers_of s.frames s.camera.executed (soak_host.numbers w.host) → soak_line numbers ≡ last_line (run_of s) soak_host w
said_last s h acts w numbers stands are =
    ap soak_line (are ∙ sym (ap (λ (v : World Receiver). numbers_of s.frames v.camera.executed (soak_host.numbers w.host)) stands.is))

-- ---- the end of a round

closed_as : (run : Run) (w : World Receiver) (lines : List ℕ) (b : Bool) → is_done run soak_host w ≡ b
    → closes run soak_host w lines ≡ (if b then record { world = w; text = lines ++ last_line run soak_host w; end = Some done } else record { world = w; text = lines; end = None })
closed_as run w lines b e =
    ap (λ (x : Bool). if x then record { world = w; text = lines ++ last_line run soak_host w; end = Some done } else record { world = w; text = lines; end = None }) e

pub closes_not : (s : Stage) (h : Hosting) (acts : List HostAct) (w : World Receiver) (written : Option (List ℕ)) (faults : ℕ) → Stands s h acts w
    → false ≡ is_done (run_of s) soak_host w → EndsRound (Ok None) (closes (run_of s) soak_host w []) acts s h written written faults faults
closes_not s h acts w written faults stands not_done =
    subst (λ (x : Round Receiver). EndsRound (Ok None) x acts s h written written faults faults) (sym (closed_as (run_of s) w [] false (sym not_done)))
    (record { passed = record { stands = stands; ends = refl }; wrote = (Appends-none written, refl) })

pub closes_done : (s : Stage) (h : Hosting) (acts : List HostAct) (w : World Receiver) (text : List ℕ) (written written_after : Option (List ℕ)) (faults faults_after : ℕ)
    → Stands s h acts w → true ≡ is_done (run_of s) soak_host w → text ≡ last_line (run_of s) soak_host w
    → Writes (Ok tt) written written_after faults faults_after text
    → EndsRound (Ok (Some ends.Done)) (closes (run_of s) soak_host w []) acts s h written written_after faults faults_after
closes_done s h acts w text written written_after faults faults_after stands is_so said wrote =
    subst (λ (x : Round Receiver). EndsRound (Ok (Some ends.Done)) x acts s h written written_after faults faults_after) (sym (closed_as (run_of s) w [] true (sym is_so)))
    (record {
      passed = record { stands = stands; ends = refl };
      wrote = subst (λ (line : List ℕ). Writes (Ok tt) written written_after faults faults_after line) said wrote;
    })

pub closes_failed : (s : Stage) (h : Hosting) (acts : List HostAct) (w : World Receiver) (text : List ℕ) (stop : Stop) (written written_after : Option (List ℕ)) (faults faults_after : ℕ)
    → true ≡ is_done (run_of s) soak_host w → text ≡ last_line (run_of s) soak_host w
    → Writes (Err stop) written written_after faults faults_after text
    → EndsRound (Err stop) (closes (run_of s) soak_host w []) acts s h written written_after faults faults_after
closes_failed s h acts w text stop written written_after faults faults_after is_so said wrote =
    subst (λ (x : Round Receiver). EndsRound (Err stop) x acts s h written written_after faults faults_after) (sym (closed_as (run_of s) w [] true (sym is_so)))
    (record { passed = tt; wrote = subst (λ (line : List ℕ). Writes (Err stop) written written_after faults faults_after line) said wrote })

-- nothing was written, for want of memory
pub stops_unwritten : (s : Stage) (h : Hosting) (acts : List HostAct) (x : Round Receiver) (written : Option (List ℕ)) (faults : ℕ)
    → EndsRound (Err NoMemory) x acts s h written written faults faults
stops_unwritten s h acts x written faults = record { passed = tt; wrote = writes_none written faults x.text }

-- ---- behind the take lines

abbrev either : Bool → Round Receiver → Round Receiver → Round Receiver
either b x y = if b then x else y

text_then : (run : Run) (w : World Receiver) (lines : List ℕ) → (closes run soak_host w lines).text ≡ lines ++ (closes run soak_host w []).text
text_then run w lines = go (is_done run soak_host w)
  where
    go : (b : Bool)
        → (either b (record { world = w; text = lines ++ last_line run soak_host w; end = Some done }) (record { world = w; text = lines; end = None })).text
        ≡ lines ++ (either b (record { world = w; text = last_line run soak_host w; end = Some done }) (record { world = w; text = []; end = None })).text
    go true = refl
    go false = sym (append-nil lines)

world_same : (run : Run) (w : World Receiver) (lines : List ℕ) → (closes run soak_host w lines).world ≡ (closes run soak_host w []).world
world_same run w lines = go (is_done run soak_host w)
  where
    go : (b : Bool)
        → (either b (record { world = w; text = lines ++ last_line run soak_host w; end = Some done }) (record { world = w; text = lines; end = None })).world
        ≡ (either b (record { world = w; text = last_line run soak_host w; end = Some done }) (record { world = w; text = []; end = None })).world
    go true = refl
    go false = refl

end_same : (run : Run) (w : World Receiver) (lines : List ℕ) → (closes run soak_host w lines).end ≡ (closes run soak_host w []).end
end_same run w lines = go (is_done run soak_host w)
  where
    go : (b : Bool)
        → (either b (record { world = w; text = lines ++ last_line run soak_host w; end = Some done }) (record { world = w; text = lines; end = None })).end
        ≡ (either b (record { world = w; text = last_line run soak_host w; end = Some done }) (record { world = w; text = []; end = None })).end
    go true = refl
    go false = refl

passed_with : (run : Run) (w : World Receiver) (lines : List ℕ) (r : Result (Option RunEnd) Stop) (acts : List HostAct) (s : Stage) (h : Hosting)
    → IfOk r (λ end. RoundPassed end (closes run soak_host w []) acts s h) → IfOk r (λ end. RoundPassed end (closes run soak_host w lines) acts s h)
passed_with run w lines (Ok end) acts s h p =
    record { stands = subst (λ (v : World Receiver). Stands s h acts v) (sym (world_same run w lines)) p.stands; ends = p.ends ∙ sym (end_same run w lines) }
passed_with run w lines (Err stop) acts s h p = tt

pub closes_behind : (run : Run) (w : World Receiver) (lines : List ℕ) (r : Result (Option RunEnd) Stop) (acts : List HostAct) (s : Stage) (h : Hosting)
    (written between written_after : Option (List ℕ)) (faults middle faults_after : ℕ) → Writes (Ok tt) written between faults middle lines
    → EndsRound r (closes run soak_host w []) acts s h between written_after middle faults_after
    → EndsRound r (closes run soak_host w lines) acts s h written written_after faults faults_after
closes_behind run w lines r acts s h written between written_after faults middle faults_after wrote rest = record {
  passed = passed_with run w lines r acts s h rest.passed;
  wrote = subst (λ (text : List ℕ). Writes (outcome_of r) written written_after faults faults_after text) (sym (text_then run w lines))
      (writes_then (outcome_of r) written between written_after faults middle faults_after lines (closes run soak_host w []).text wrote rest.wrote);
}

pub takes_failed : (run : Run) (w : World Receiver) (lines : List ℕ) (stop : Stop) (acts : List HostAct) (s : Stage) (h : Hosting)
    (written written_after : Option (List ℕ)) (faults faults_after : ℕ) → Writes (Err stop) written written_after faults faults_after lines
    → EndsRound (Err stop) (closes run soak_host w lines) acts s h written written_after faults faults_after
takes_failed run w lines stop acts s h written written_after faults faults_after wrote = record {
  passed = tt;
  wrote = subst (λ (text : List ℕ). Writes (Err stop) written written_after faults faults_after text) (sym (text_then run w lines))
      (writes_stops stop written written_after faults faults_after lines (closes run soak_host w []).text wrote);
}
