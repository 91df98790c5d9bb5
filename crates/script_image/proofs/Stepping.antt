-- What a line does to the standing that a script has.
use Rattle.std.proofs.Common.{◌≡◌, ℕ, List, [], Option, Some, None, Ok, refl, sym, ap, subst, ◌∙◌}
use Rattle.gev_script.specs.Lines as script_line
use Rattle.gev_script.specs.Lines.{ScriptLine}
use Rattle.gev_script.specs.Grammar.{line_of}
use Rattle.acquisition_machine.specs.declared.config.AcqConfig.{AcqConfig}
use Rattle.acq_core.specs.Receiver.{config_of}
use Rattle.script_trace.specs.Trace.{Trace}
use Rattle.script_trace.specs.Ending.{end_text}
use Rattle.script_trace.specs.Opening.{opening}
use Rattle.script_trace.specs.Wide.{Wide, nothing_wide, kept_behind}
use Rattle.script_trace.specs.Standing.{Standing, first, running, later_kind, config_of as config_from}
use Rattle.script_replay.specs.declared.script.Script.{Script}
use Rattle.script_replay.specs.Replays.{StandsAt, KeepsWide, IsReplaying, Begins, RefusedBy, StandsFor, RefusesAs}
use Rattle.script_image.specs.declared.came.Came.{Came}
use Rattle.script_image.specs.declared.came.Came.TheVariants.{On, Took, End}
use Rattle.script_image.specs.Taking.{got_by}
use Rattle.script_image.specs.Lines.{got_in, WentAt, Went, CameBy}
use Rattle.script_image.specs.Steps.{StepsOn, Steps, StepsAs}

-- ---- a line behind the header

module _ (c : AcqConfig) (w : Wide) (t : Trace) (l : ScriptLine) (got : Option ℕ) (old new : Script) (text : List ℕ)
    (in_place : later_kind text ≡ None) (read : line_of text ≡ Ok l) (same : config_of old.running.acq ≡ c) (went : Went l got old new)
    (at : WentAt c l got new w t) where
  went_on : (n : ℕ) → StepsOn (got_in got) (running c w t) n text (Some new)
  went_on n = record {
    said = at.said;
    to = running c (kept_behind at.kept t at.trace) at.trace;
    runs = record { in_place = in_place; says = l; read = read; kept = at.kept; trace = at.trace; does = at.does; after = refl };
    stands = (went.config ∙ same, at.stands, at.keeps);
    counted = ap (λ r. got_by r (running c w t) (running c (kept_behind at.kept t at.trace) at.trace)) read ∙ at.counted;
  }

went_at : (c : AcqConfig) (w : Wide) (t : Trace) (l : ScriptLine) (got : Option ℕ) (old new : Script) → config_of old.running.acq ≡ c → Went l got old new
    → StandsAt old.running t → KeepsWide old.widening w → WentAt c l got new w t
went_at c w t l got old new same went stands keeps = subst (λ (d : AcqConfig). WentAt d l got new w t) same (went.does w t stands keeps)

later_steps : (came : Came) (old new : Script) (text : List ℕ) → CameBy came text old new
    → (n : ℕ) (c : AcqConfig) (w : Wide) (t : Trace) → StandsFor (Some old) (running c w t) → Steps came (running c w t) n text (Some new)
later_steps On old new text by n c w t stands =
    went_on c w t by.says None old new text by.in_place by.read stands.0 by.did (went_at c w t by.says None old new stands.0 by.did stands.1 stands.2) n
later_steps (Took place) old new text by n c w t stands =
    let at : WentAt c by.says (Some place) new w t = went_at c w t by.says (Some place) old new stands.0 by.did.1 stands.1 stands.2 in (
      went_on c w t by.says (Some place) old new text by.in_place by.read stands.0 by.did.1 at n,
      record {
        in_place = by.in_place;
        read = by.read ∙ ap (λ l. Ok l) by.did.0;
        config = c;
        wide = w;
        trace = t;
        stands = refl;
        part = at.took.part;
        adds = at.took.adds;
        moment = at.took.moment;
        takes = at.took.takes;
        here = at.took.here;
        script = new;
        has = refl;
        lies = at.took.lies;
      },
    )
later_steps End old new text by n c w t stands = record {
  said = by.did.said;
  to = running c w t;
  runs = record {
    in_place = by.in_place;
    read = by.read ∙ ap (λ l. Ok l) by.did.ends.is_end;
    said = by.did.ends.told w t stands.1 stands.2 ∙ ap (λ (d : AcqConfig). end_text d w.refused t) stands.0;
    after = refl;
  };
}

pub later_as : (came : Came) (old new : Script) (text : List ℕ) → CameBy came text old new → StepsAs came (Some old) text (Some new)
later_as came old new text by n first stands = absurd stands
later_as came old new text by n (running c w t) stands = later_steps came old new text by n c w t stands

pub later_keeps : (came : Came) (old new : Script) (text : List ℕ) → CameBy came text old new → IsReplaying old.running → IsReplaying new.running
later_keeps On old new text by keeps = by.did.keeps
later_keeps (Took place) old new text by keeps = by.did.1.keeps
later_keeps End old new text by keeps = subst (λ (r : Script). IsReplaying r.running) (sym by.did.ends.same) keeps

pub refused_as : (old new : Script) (text : List ℕ) (kind : _) (n : ℕ) → RefusedBy text kind old new → RefusesAs (Some old) n text kind
refused_as old new text kind n by first stands = absurd stands
refused_as old new text kind n by (running c w t) stands = by.kind_is

-- ---- the header

header_gets : (text : List ℕ) (config : _) (s t : Standing) → line_of text ≡ Ok (script_line.header config) → got_by (line_of text) s t ≡ 0
header_gets text config s t read = ap (λ r. got_by r s t) read

pub first_as : (new : Script) (text : List ℕ) → Begins text new → StepsAs On None text (Some new)
first_as new text begins n first stands =
    let to : Standing = running (config_from begins.config) (nothing_wide begins.config.version) opening in
    record {
      said = [];
      to = to;
      runs = record { config = begins.config; read = begins.read; silent = refl; after = refl };
      stands = (begins.same, begins.stands, begins.wide);
      counted = header_gets text begins.config first to begins.read;
    }
first_as new text begins n (running c w t) stands = absurd stands
