-- A line that told the acquisition, where a start is noted.
use Rattle.std.proofs.Common.{◌≡◌, ℕ, Bool, true, false, List, refl, sym, ap, subst, ◌∙◌}
use Rattle.std.specs.Prelude.{if◌then◌else◌}
use Rattle.gev_script.specs.Lines.{ScriptLine}
use Rattle.board_machine.specs.Machine.{Board}
use Rattle.acq_core.specs.Receiver.{config_of}
use Rattle.note_tape.specs.declared.told.Told.{Told}
use Rattle.script_trace.specs.Trace.{board}
use Rattle.script_trace.specs.Wide.{Wide, is_started_at, kept_behind}
use Rattle.script_replay.specs.declared.script.Script.{Script}
use Rattle.script_replay.specs.declared.widening.Widening.{Widening}
use Rattle.script_replay.specs.Replays.{KeepsWide}
use Rattle.explain_lines.specs.Telling.{TellsAt, TellsLine}
use Rattle.script_explain.specs.Explains.{ToldLine}

abbrev noted : Bool → Widening → Widening
noted started s = if started then record s { widener = 0 } else s

noted_keeps : (started : Bool) (s : Widening) (w : Wide) → KeepsWide s w → KeepsWide (noted started s) (record w { top = if started then 0 else w.top })
noted_keeps true s w keeps = record { version = keeps.version; top = refl; widened = keeps.widened; refused = keeps.refused }
noted_keeps false s w keeps = keeps

pub line_told : (l : ScriptLine) (old mid : Script) (said : List ℕ) (tape : List Told) (before after : ℕ) → TellsLine l old said tape mid → before ≡ old.running.board.board.run → after ≡ mid.running.board.board.run
    → ToldLine l old said tape (record mid { widening = noted (is_started_at before after) mid.widening })
line_told l old mid said tape before after told was is = record {
  does = λ w t stands keeps.
      let at : TellsAt (config_of old.running.acq) l said tape mid w t = told.does w t stands keeps in
      let first : before ≡ (board t).run = was ∙ ap (λ (b : Board). b.run) stands.behind.board.board.state in
      let second : after ≡ (board at.trace).run = is ∙ ap (λ (b : Board). b.run) at.stands.behind.board.board.state in
      let same : is_started_at before after ≡ is_started_at (board t).run (board at.trace).run
      = ap (λ n. is_started_at n after) first ∙ ap (λ n. is_started_at (board t).run n) second in
      record {
        kept = at.kept;
        trace = at.trace;
        does = at.does;
        noted = at.noted;
        stands = at.stands;
        keeps = subst (λ b. KeepsWide (noted b mid.widening) (kept_behind at.kept t at.trace)) (sym same) (noted_keeps (is_started_at (board t).run (board at.trace).run) mid.widening at.kept at.keeps);
      };
  config = told.config;
  keeps = told.keeps;
}
