-- The report of a camera script is what the camera's events print.
use Rattle.std.proofs.Common.{◌≡◌, ℕ, zero, suc, ◌+◌, List, [], ◌∷◌, ◌++◌, refl, sym, ap, subst, ◌∙◌, append_assoc, append-nil}
use Rattle.std.specs.Prelude.{max, if◌then◌else◌, Bool, true, false}
use Rattle.gev_script.specs.Lines as line
use Rattle.gev_script.specs.Lines.{ScriptLine}
use Rattle.script_runs.specs.Runs.{RunsLines}
use Rattle.camera_machine.specs.Camera.{Camera, stream_peer, has_lost, released, looked}
use Rattle.camera_machine.specs.Stream.{all_waiting, waiting_count, emptied}
use Rattle.camera_machine.specs.Events.{Event, command, tick, make_frame, next_packet, set_short, step, after}
use Rattle.camera_machine.specs.Sending.{GivesInOrder, IsNeverSet}
use Rattle.camera_replay.specs.Serving.{Serving, Part, script_camera, opening, local_peer, packets_text, Does}
use Rattle.camera_replay.specs.Standing.{Standing, running, RunsLater, CameraRuns}
use Rattle.camera_replay.specs.Printing.{printed, printed_by, giving, then_emptied, ComesTo}
use Rattle.camera_replay.specs.Laws.{IsOfEvents, LinesAreEvents, IsToldBy, IsTold, ReportsAreTold}
use Rattle.camera_replay.proofs.Giving.{after-append, printed_by-append, after-giving, printed_by-giving, gives_in_order}

-- ---- an event, and then all that waits

-- What an event and the calls after it leave and print, from a camera that came of events.
record Empties (past : List Event) (e : Event) : Type 0 where
  left : after script_camera (then_emptied (after script_camera past) e ++ past) ≡ emptied (after script_camera (e ∷ past))
  text :
      printed_by script_camera (then_emptied (after script_camera past) e ++ past)
      ≡ printed_by script_camera past
      ++ (printed (after script_camera past) e
      ++ packets_text (stream_peer (after script_camera (e ∷ past))).port (all_waiting (after script_camera (e ∷ past)).waiting))

empties : (past : List Event) (e : Event) → Empties past e
empties past e = record { left = left; text = text }
  where
    s : Camera
    s = after script_camera (e ∷ past)

    n : ℕ
    n = waiting_count s

    in_turn : GivesInOrder s
    in_turn = gives_in_order (e ∷ past)

    moved : (giving n ++ e ∷ []) ++ past ≡ giving n ++ (e ∷ past)
    moved = append_assoc (giving n) (e ∷ []) past

    left : after script_camera ((giving n ++ e ∷ []) ++ past) ≡ emptied s
    left = ap (after script_camera) moved ∙ (after-append script_camera (giving n) (e ∷ past) ∙ (after-giving n s ∙ in_turn.emptied))

    packets : printed_by s (giving n) ≡ packets_text (stream_peer s).port (all_waiting s.waiting)
    packets = printed_by-giving n s ∙ ap (packets_text (stream_peer s).port) in_turn.all

    text : printed_by script_camera ((giving n ++ e ∷ []) ++ past)
        ≡ printed_by script_camera past ++ (printed (after script_camera past) e ++ packets_text (stream_peer s).port (all_waiting s.waiting))
    text =
        ap (printed_by script_camera) moved
        ∙ (printed_by-append script_camera (giving n) (e ∷ past)
        ∙ (ap (λ t. printed_by script_camera (e ∷ past) ++ t) packets
        ∙ append_assoc (printed_by script_camera past) (printed (after script_camera past) e) (packets_text (stream_peer s).port (all_waiting s.waiting))))

-- ---- lines

-- a line of a camera that is the one after these events
of_events : (past : List Event) (moment : ℕ) (l : ScriptLine) (part : Part)
    → Does (record { camera = after script_camera past; moment = moment }) l part
    → IsOfEvents past (record { camera = after script_camera past; moment = moment }) l part
of_events past now (line.tick moment) part is = record {
  events = tick (max now moment) ∷ [];
  comes = refl;
  camera = ap (λ (p : Part). p.serving.camera) is;
  report = ap (λ (p : Part). printed_by script_camera past ++ p.text) (sym is);
}
of_events past now (line.command port digits) part (bytes, decoded, is) =
    let e : Event = command (local_peer port) bytes now in
    let all : Empties past e = empties past e in
    record {
      events = then_emptied (after script_camera past) e;
      comes = (bytes, decoded, refl);
      camera = ap (λ (p : Part). p.serving.camera) is ∙ sym all.left;
      report = all.text ∙ ap (λ (p : Part). printed_by script_camera past ++ p.text) (sym is);
    }
of_events past now line.frame part is =
    let all : Empties past make_frame = empties past make_frame in
    record {
      events = then_emptied (after script_camera past) make_frame;
      comes = refl;
      camera = ap (λ (p : Part). p.serving.camera) is ∙ sym all.left;
      report = all.text ∙ ap (λ (p : Part). printed_by script_camera past ++ p.text) (sym is);
    }
of_events past now _ part is = absurd is

pub lines_events : LinesAreEvents
lines_events past s l part is does =
    let at : Serving → Type 0 = λ (u : Serving). Does u l part → IsOfEvents past u l part in
    let same : record { camera = after script_camera past; moment = s.moment } ≡ s = ap (λ (c : Camera). record { camera = c; moment = s.moment }) (sym is) in
    subst at same (of_events past s.moment l part) does

-- ---- no line makes frames short

never_append : (es past : List Event) → IsNeverSet es → IsNeverSet past → IsNeverSet (es ++ past)
never_append [] past h k = k
never_append (command peer bytes moment ∷ es) past h k = never_append es past h k
never_append (tick moment ∷ es) past h k = never_append es past h k
never_append (make_frame ∷ es) past h k = never_append es past h k
never_append (next_packet ∷ es) past h k = never_append es past h k
never_append (set_short short ∷ es) past h k = absurd h

never_giving : (n : ℕ) → IsNeverSet (giving n)
never_giving zero = tt
never_giving (suc n) = never_giving n

never_emptied : (s : Camera) (e : Event) → IsNeverSet (e ∷ []) → IsNeverSet (then_emptied s e)
never_emptied s e h = never_append (giving (waiting_count (step s e))) (e ∷ []) (never_giving (waiting_count (step s e))) h

never_comes : (s : Serving) (l : ScriptLine) (es : List Event) → ComesTo s l es → IsNeverSet es
never_comes s (line.tick moment) es is = subst IsNeverSet (sym is) tt
never_comes s (line.command port digits) es (bytes, decoded, is) =
    subst IsNeverSet (sym is) (never_emptied s.camera (command (local_peer port) bytes s.moment) tt)
never_comes s line.frame es is = subst IsNeverSet (sym is) (never_emptied s.camera make_frame tt)
never_comes s _ es is = absurd is

-- ---- whole scripts

-- between two lines nothing waits
rests_looked : (s : Camera) (moment : ℕ) → s.waiting ≡ [] → (looked s moment).waiting ≡ []
rests_looked s moment h = go (has_lost s moment)
  where
    go : (b : Bool) → (if b then released s else s).waiting ≡ []
    go true = refl
    go false = h

rests_does : (s : Serving) (l : ScriptLine) (part : Part) → s.camera.waiting ≡ [] → Does s l part → part.serving.camera.waiting ≡ []
rests_does s (line.tick moment) part h is =
    ap (λ (p : Part). p.serving.camera.waiting) is ∙ rests_looked s.camera (max s.moment moment) h
rests_does s (line.command port digits) part h (bytes, decoded, is) = ap (λ (p : Part). p.serving.camera.waiting) is
rests_does s line.frame part h is = ap (λ (p : Part). p.serving.camera.waiting) is
rests_does s _ part h is = absurd is

-- one more line
told_more : (text : List ℕ) (s : Serving) (line report : List ℕ) (new : Standing) → IsToldBy text s → (r : RunsLater s line report new) → IsToldBy (text ++ report) r.part.serving
told_more text s line report new told r =
    let one : IsOfEvents told.events s r.says r.part = lines_events told.events s r.says r.part told.camera r.does in
    record {
      events = one.events ++ told.events;
      camera = one.camera;
      whole = never_append one.events told.events (never_comes s r.says one.events one.comes) told.whole;
      report = ap (λ t. t ++ report) told.report ∙ (ap (λ t. printed_by script_camera told.events ++ t) r.said ∙ sym one.report);
      rests = rests_does s r.says r.part told.rests r.does;
    }

told_on : (text : List ℕ) (s : Serving) (n : ℕ) (lines : List (List ℕ)) (more : List ℕ) (new : Standing) → IsToldBy text s → RunsLines CameraRuns (running s) n lines more new → IsTold (text ++ more) new
told_on text s n [] more new told (silent, is) =
    let now : IsToldBy (text ++ more) s = record {
      events = told.events;
      camera = told.camera;
      whole = told.whole;
      report = ap (λ t. text ++ t) silent ∙ (append-nil text ∙ told.report);
      rests = told.rests;
    } in
    subst (IsTold (text ++ more)) (sym is) now
told_on text s n (l ∷ lines) more new told (mid, front, rest, runs, later, parts) =
    let next : RunsLines CameraRuns (running runs.part.serving) (n + 1) lines rest new = subst (λ m. RunsLines CameraRuns m (n + 1) lines rest new) runs.after later in
    let joined : (text ++ front) ++ rest ≡ text ++ more = append_assoc text front rest ∙ ap (λ t. text ++ t) (sym parts) in
    subst (λ t. IsTold t new) joined (told_on (text ++ front) runs.part.serving (n + 1) lines rest new (told_more text s l front mid told runs) next)

told_at_first : IsToldBy [] opening
told_at_first = record { events = []; camera = refl; report = refl; whole = tt; rests = refl }

pub reports_told : ReportsAreTold
reports_told [] text new (silent, is) = subst (IsTold text) (sym is) silent
reports_told (l ∷ lines) text new (mid, front, rest, runs, later, parts) =
    let next : RunsLines CameraRuns (running opening) 1 lines rest new = subst (λ m. RunsLines CameraRuns m 1 lines rest new) runs.after later in
    let told : IsTold ([] ++ rest) new = told_on [] opening 1 lines rest new told_at_first next in
    subst (λ t. IsTold t new) (sym (parts ∙ ap (λ t. t ++ rest) runs.silent)) told
