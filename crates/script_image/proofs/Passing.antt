-- What a line behind the header came to.
use Rattle.std.proofs.Common.{◌≡◌, ◌-◌, ℕ, false, List, length, Option, Some, None, Ok, refl, sym, ap, subst, ◌∙◌}
use Rattle.gev_script.specs.Lines as script_line
use Rattle.gev_script.specs.Lines.{ScriptLine}
use Rattle.gev_script.specs.Grammar.{line_of, first_name}
use Rattle.std.proofs.lemmas.Bool.{cond-false}
use Rattle.gev_script.specs.declared.kind.ScriptKind.TheVariants as kinds
use Rattle.acquisition_machine.specs.declared.config.AcqConfig.{AcqConfig}
use Rattle.acq_core.specs.Receiver.{config_of}
use Rattle.script_trace.specs.Trace.{Trace}
use Rattle.script_trace.specs.Modes.{handed_out}
use Rattle.script_trace.specs.Wide.{Wide, meaning, Tells, Does, kept_behind}
use Rattle.script_trace.specs.Standing.{running, is_out_of_place, kind_of_read, later_kind}
use Rattle.script_replay.specs.declared.script.Script.{Script}
use Rattle.script_replay.specs.Replays.{StandsAt, DoneAt, DoneLine}
use Rattle.script_image.specs.declared.came.Came.{Came}
use Rattle.script_image.specs.Taking.{got_by}
use Rattle.script_image.specs.Found.{RunsTake}
use Rattle.script_image.specs.Lines.{IsNoTake, IfTook, got_in, Went, came_of, CameAs, CameBy}
use Rattle.script_image.proofs.Going.{none_took, some_took}

-- ---- take

-- a `take` line means itself
take_tells : (c : AcqConfig) (w : Wide) (t : Trace) (said : List ℕ) (v : Wide) (after : Trace) → Does c w t script_line.take said v after → Tells c t script_line.take w.widened said after
unfolding meaning
take_tells c w t said v after does = does.0

abbrev handed_count : Trace → ℕ
handed_count t = length (handed_out t.entries)

took_at : (got : Option ℕ) (c : AcqConfig) (old new : Script) (w : Wide) (t : Trace) → StandsAt old.running t → (runs : RunsTake got old new) → (at : DoneAt c script_line.take runs.said new w t)
    → (got_by (Ok script_line.take) (running c w t) (running c (kept_behind at.kept t at.trace) at.trace) ≡ got_in got) × IfTook c got new t at.trace
took_at None c old new w t stands runs at =
    let tells = take_tells c w t runs.said at.kept at.trace at.does in
    let none = none_took c t tells.part old.running.tree old.running.board new.running.board stands.handles stands.behind.board.board.state runs.finds tells.adds in
    (subst (λ (u : Trace). handed_count u - handed_count t ≡ 0) (sym tells.is) none, tt)
took_at (Some place) c old new w t stands runs at =
    let tells = take_tells c w t runs.said at.kept at.trace at.does in
    let some = some_took c t tells.part place old.running.tree old.running.board new stands.handles stands.behind.board.board.state runs.finds tells.adds at.trace tells.is in
    (subst (λ (u : Trace). handed_count u - handed_count t ≡ 1) (sym tells.is) some.1, some.0)

pub take_went : (got : Option ℕ) (old new : Script) → RunsTake got old new → Went script_line.take got old new
take_went got old new runs = record {
  does = λ w t stands keeps.
      let c : AcqConfig = config_of old.running.acq in
      let at : DoneAt c script_line.take runs.said new w t = runs.done.does w t stands keeps in
      let took = took_at got c old new w t stands runs at in
      record {
        said = runs.said;
        kept = at.kept;
        trace = at.trace;
        does = at.does;
        stands = at.stands;
        keeps = at.keeps;
        counted = took.0;
        took = took.1;
      };
  config = runs.done.config;
  keeps = runs.done.keeps;
}

-- ---- other lines

-- no other line gets anything
got_none : (l : ScriptLine) (c : AcqConfig) (w v : Wide) (t after : Trace) → IsNoTake l → got_by (Ok l) (running c w t) (running c v after) ≡ 0
got_none script_line.take c w v t after other = absurd other
got_none l c w v t after other = refl

pub other_went : (l : ScriptLine) (old new : Script) (said : List ℕ) → IsNoTake l → DoneLine l old said new → Went l None old new
other_went l old new said other done = record {
  does = λ w t stands keeps.
      let c : AcqConfig = config_of old.running.acq in
      let at : DoneAt c l said new w t = done.does w t stands keeps in
      record {
        said = said;
        kept = at.kept;
        trace = at.trace;
        does = at.does;
        stands = at.stands;
        keeps = at.keeps;
        counted = got_none l c w (kept_behind at.kept t at.trace) t at.trace other;
        took = tt;
      };
  config = done.config;
  keeps = done.keeps;
}

-- ---- by its bytes

not_out : (text : List ℕ) (l : ScriptLine) → line_of text ≡ Ok l → is_out_of_place (first_name text) ≡ false → later_kind text ≡ None
not_out text l read in_place =
    cond-false (is_out_of_place (first_name text)) (Some kinds.Word) (kind_of_read (line_of text)) in_place ∙ ap kind_of_read read

pub other_came : (came : Came) (l : ScriptLine) (old new : Script) (text : List ℕ) → Ok l ≡ line_of text → is_out_of_place (first_name text) ≡ false → CameAs came l old new → CameBy came text old new
other_came came l old new text read in_place did = record { in_place = not_out text l (sym read) in_place; says = l; read = sym read; did = did }

took_as : (got : Option ℕ) (old new : Script) → Went script_line.take got old new → CameAs (came_of got) script_line.take old new
took_as None old new went = went
took_as (Some place) old new went = (refl, went)

pub take_came : (got : Option ℕ) (came : Came) (old new : Script) (text : List ℕ) → came ≡ came_of got → Ok script_line.take ≡ line_of text → is_out_of_place (first_name text) ≡ false
    → RunsTake got old new → CameBy came text old new
take_came got came old new text is read in_place runs =
    subst (λ (x : Came). CameBy x text old new) (sym is)
    (other_came (came_of got) script_line.take old new text read in_place (took_as got old new (take_went got old new runs)))
