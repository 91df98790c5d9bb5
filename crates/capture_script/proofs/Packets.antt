-- The packets of a capture, one after the other, and the stop behind them.
use Rattle.std.proofs.Common.{◌≡◌, ℕ, nat_lt, List, [], ◌∷◌, ◌++◌, length, Bool, true, false, if◌then◌else◌, refl, sym, ap, subst, ◌∙◌, arith, append_assoc}
use Rattle.std.specs.List.{AllByRecursion}
use Rattle.gev_script.specs.Lines as line
use Rattle.gev_script.specs.Lines.{ScriptLine}
use Rattle.gev_capture.specs.declared.moments.Moments.{Moments}
use Rattle.gev_capture.specs.Files.{Packet, captured, dropped}
use Rattle.gev_capture.specs.Contents.{Seen, other, fragment, cut, datagram, lost}
use Rattle.gev_capture.specs.Sightings as capture
use Rattle.gev_capture.specs.Sightings.{Sighting, moments_after, sighting_of}
use Rattle.board_machine.specs.Machine.{Board}
use Rattle.acquisition_machine.specs.declared.config.AcqConfig.{AcqConfig}
use Rattle.acquisition_machine.specs.Blocks.{fills}
use Rattle.acquisition_machine.specs.Machine.{Input, stop, State}
use Rattle.acquisition_machine.specs.Runs.{After, after_from, retired_from}
use Rattle.acquisition_machine.proofs.Order.{all_append}
use Rattle.script_trace.specs.Trace.{Trace, board}
use Rattle.script_trace.specs.Wide.{Wide}
use Rattle.capture_script.specs.Playing.{config, Played, heard, ticked, stopped}
use Rattle.capture_script.specs.Script.{Scripted, Lines, taking, with_takes, no_lines, both, goes_on, ticks, carries, is_for, seen, sighted, lines_from, script_behind}
use Rattle.gev_capture.specs.Laws.{HasBytes}
use Rattle.capture_script.proofs.Fitting.{AreSmall, SmallSeen, is_datagram, small_seen}
use Rattle.capture_script.specs.Traces.{takes_in}
use Rattle.capture_script.proofs.Holding.{came_back}
use Rattle.capture_script.proofs.Stages.{IsRecorded}
use Rattle.capture_script.proofs.TurnLines.{state_of, state_after, stop_goes}
use Rattle.capture_script.proofs.Walking.{walks-append, WalksOn, stop_walks}
use Rattle.capture_script.proofs.Alike.{filled_alike}
use Rattle.capture_script.proofs.Steps.{IsGot, Stands, Steps, no_step, takes-append, filled_both, both_steps, takes_taking}
use Rattle.capture_script.proofs.HeardLines.{one_filled, tick_step}
use Rattle.capture_script.proofs.Widened.{datagram_step}

-- a script whose acquisition is this one
abbrev pub scripted : ℕ → ℕ → ℕ → Played → ℕ → Scripted
scripted port p size played moment = record { port = port; p = p; size = size; played = played; moment = moment }

-- The lines lead on to where the script is this one.
pub record LinesStep (pp ss port : ℕ) (t : Trace) (w : Wide) (ls : List ScriptLine) (after : Scripted) : Type 0 where
  pub played : Played
  pub moment : ℕ
  pub is : after ≡ scripted port pp ss played moment
  pub steps : Steps pp ss t w ls played

nothing_step : (pp ss port : ℕ) (t : Trace) (w : Wide) (s : Played) (now : ℕ) → Stands pp ss t w s → LinesStep pp ss port t w [] (scripted port pp ss s now)
nothing_step pp ss port t w s now stands = record { played = s; moment = now; is = refl; steps = no_step pp ss t w s stands }

abbrev LinesOf : (pp ss port : ℕ) → Trace → Wide → Lines → Type 0
LinesOf pp ss port t w l = LinesStep pp ss port t w l.lines l.after

ticks_step : (pp ss port : ℕ) (t : Trace) (w : Wide) (s : Played) (now moment : ℕ) (b : Bool) → Stands pp ss t w s
    → LinesOf pp ss port t w (if b then goes_on moment (scripted port pp ss s now) else no_lines (scripted port pp ss s now))
ticks_step pp ss port t w s now moment true stands = record { played = (ticked pp moment s).after; moment = moment; is = refl; steps = tick_step pp ss t w s moment stands }
ticks_step pp ss port t w s now moment false stands = nothing_step pp ss port t w s now stands

carried_step : (pp ss port : ℕ) (t : Trace) (w : Wide) (s : Played) (now moment : ℕ) (bytes : List ℕ) (b : Bool) → Stands pp ss t w s → AreSmall bytes
    → LinesOf pp ss port t w (if b then both (ticks moment (scripted port pp ss s now)) (carries bytes) else no_lines (scripted port pp ss s now))
carried_step pp ss port t w s now moment bytes true stands small =
    let x : Scripted = scripted port pp ss s now in
    let a : LinesOf pp ss port t w (ticks moment x) = ticks_step pp ss port t w s now moment (nat_lt now moment) stands in
    subst (λ m. LinesStep pp ss port t w ((ticks moment x).lines ++ (carries bytes m).lines) (carries bytes m).after) (sym a.is)
    (record {
      played = (heard pp ss bytes a.played).after;
      moment = a.moment;
      is = refl;
      steps = both_steps pp ss t w (ticks moment x).lines (carries bytes (scripted port pp ss a.played a.moment)).lines a.played (heard pp ss bytes a.played).after a.steps
          (datagram_step pp ss a.steps.to a.steps.wide a.played bytes a.steps.stands small);
    })
carried_step pp ss port t w s now moment bytes false stands small = nothing_step pp ss port t w s now stands

seen_step : (pp ss port : ℕ) (t : Trace) (w : Wide) (s : Played) (now moment : ℕ) (what : Seen) → Stands pp ss t w s → SmallSeen what
    → LinesOf pp ss port t w (seen moment what (scripted port pp ss s now))
seen_step pp ss port t w s now moment other stands small = nothing_step pp ss port t w s now stands
seen_step pp ss port t w s now moment fragment stands small = nothing_step pp ss port t w s now stands
seen_step pp ss port t w s now moment cut stands small = nothing_step pp ss port t w s now stands
seen_step pp ss port t w s now moment (lost before after) stands small = nothing_step pp ss port t w s now stands
seen_step pp ss port t w s now moment (datagram c) stands (is_datagram d small) =
    carried_step pp ss port t w s now moment c.bytes (is_for port c.receiver.port c.bytes) stands small

pub packets_step : (pp ss port : ℕ) (t : Trace) (w : Wide) (s : Played) (now : ℕ) (m : Moments) (packets : List Packet) → Stands pp ss t w s → AllByRecursion HasBytes packets
    → LinesStep pp ss port t w (lines_from (scripted port pp ss s now) (capture.sighted m packets)) (script_behind (scripted port pp ss s now) (capture.sighted m packets))
packets_step pp ss port t w s now m [] stands all = nothing_step pp ss port t w s now stands
packets_step pp ss port t w s now m (dropped before after ∷ packets) stands all = packets_step pp ss port t w s now m packets stands all.1
packets_step pp ss port t w s now m (captured packet ∷ packets) stands all =
    let x : Sighting = sighting_of m (captured packet) in
    let start : Scripted = scripted port pp ss s now in
    let later : List Sighting = capture.sighted (moments_after m packet.time) packets in
    let one : LinesOf pp ss port t w (sighted start x) = seen_step pp ss port t w s now x.moment x.what stands (small_seen packet.link packet.bytes all.0) in
    let rest = packets_step pp ss port one.steps.to one.steps.wide one.played one.moment (moments_after m packet.time) packets one.steps.stands all.1 in
    subst (λ y. LinesStep pp ss port t w ((sighted start x).lines ++ lines_from y later) (script_behind y later)) (sym one.is)
    (record {
      played = rest.played;
      moment = rest.moment;
      is = rest.is;
      steps = both_steps pp ss t w (sighted start x).lines (lines_from (scripted port pp ss one.played one.moment) later) one.played rest.played one.steps rest.steps;
    })

-- ---- the stop

-- These lines lead to the end, where nothing waits.
pub record Closes (pp ss : ℕ) (t : Trace) (w : Wide) (ls : List ScriptLine) : Type 0 where
  pub to : Trace
  pub wide : Wide
  pub on : WalksOn (config pp) w t ls wide to
  pub told : List Input
  pub inputs : to.inputs ≡ t.inputs ++ told
  pub got : AllByRecursion IsGot told
  pub counted : takes_in ls ≡ length (fills pp (retired_from (config pp) (state_of pp ss t) told))
  pub entries : AllByRecursion IsRecorded to.entries
  pub out : (board to).out ≡ []

pub close_step : (pp ss : ℕ) (t : Trace) (w : Wide) (s : Played) → Stands pp ss t w s → Closes pp ss t w (with_takes (line.stop 0) (stopped pp s))
close_step pp ss t w s stands =
    let c : AcqConfig = config pp in
    let now : State = state_of pp ss t in
    let n : ℕ = length (came_back pp ss now stop) in
    let counted : n ≡ length (fills pp (retired_from c now (stop ∷ []))) = sym (one_filled pp now stop) in
    let same : n ≡ (stopped pp s).filled = counted ∙ sym (filled_alike c pp (After c s.inputs) now (stop ∷ []) stands.alike) in
    let rest = stop_goes pp ss t stands.pool stands.stage stands.full stands.live in
    let walk = stop_walks c w t n rest.goes.to rest.goes.leads in
    subst (λ k. Closes pp ss t w (line.stop 0 ∷ taking k)) same
    (record {
      to = rest.goes.to;
      wide = walk.wide;
      on = walk.on;
      told = stop ∷ [];
      inputs = rest.goes.inputs;
      got = (tt, tt);
      counted = takes_taking n ∙ counted;
      entries = rest.goes.stage.entries;
      out = ap (λ (b : Board). b.out) rest.goes.stage.is;
    })

pub closes_behind : (pp ss : ℕ) (t : Trace) (w : Wide) (ls ms : List ScriptLine) (mid : Played) → (first : Steps pp ss t w ls mid)
    → Closes pp ss first.to first.wide ms → Closes pp ss t w (ls ++ ms)
closes_behind pp ss t w ls ms mid first second =
    let there : state_of pp ss first.to ≡ after_from (config pp) (state_of pp ss t) first.told = state_after pp ss t first.to first.told first.inputs in
    let n : takes_in ms ≡ length (fills pp (retired_from (config pp) (after_from (config pp) (state_of pp ss t) first.told) second.told)) =
    second.counted ∙ ap (λ u. length (fills pp (retired_from (config pp) u second.told))) there in
    record {
      to = second.to;
      wide = second.wide;
      on = record {
        text = first.on.text ++ second.on.text;
        walks = walks-append (config pp) w t ls ms first.on.text second.on.text first.wide first.to second.wide second.to first.on.walks second.on.walks;
      };
      told = first.told ++ second.told;
      inputs = second.inputs ∙ (ap (λ q. q ++ second.told) first.inputs ∙ append_assoc t.inputs first.told second.told);
      got = all_append IsGot first.told second.told first.got second.got;
      counted = (let a = takes-append ls ms in let b = first.counted in let c = filled_both (config pp) pp (state_of pp ss t) first.told second.told in omega (arith, a, b, c, n));
      entries = second.entries;
      out = second.out;
    }
