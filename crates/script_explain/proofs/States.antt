-- What the machine's state stands for, before and after a line.
use Rattle.std.proofs.Common.{◌≡◌, ℕ, ◌≤◌, ◌++◌, Bool, false, List, [], Some, None, Result, Ok, Err, MatchResult, length, refl, sym, ap, subst, ◌∙◌, arith}
use Rattle.gev_script.specs.declared.kind.ScriptKind.{ScriptKind}
use Rattle.gev_script.specs.Lines.{ScriptLine}
use Rattle.gev_script.specs.Words.{Read}
use Rattle.gev_script.specs.Grammar.{line_of}
use Rattle.std.proofs.lemmas.Result.{MatchResult-weaker}
use Rattle.script_runs.specs.declared.ran.Ran.{Ran}
use Rattle.script_runs.specs.declared.stop.Stop.{Stop}
use Rattle.script_runs.specs.Runs.{IfRefused}
use Rattle.script_runs.specs.declared.ran.Ran.TheVariants.{GoesOn, Ended}
use Rattle.acquisition_machine.specs.declared.config.AcqConfig.{AcqConfig}
use Rattle.acquisition_machine.specs.Runs.{After}
use Rattle.acq_core.specs.Receiver.{config_of, Stands}
use Rattle.script_trace.specs.Notes.{Note}
use Rattle.script_trace.specs.Texts.{words_line, notes_text}
use Rattle.script_trace.specs.Trace.{Trace}
use Rattle.script_trace.specs.Opening.{opening}
use Rattle.script_trace.specs.Ending.{as_count, end_text}
use Rattle.script_trace.specs.Wide.{Wide, meaning, nothing_wide, kept_behind}
use Rattle.script_trace.specs.Standing.{Standing, first, running, config_of as config_from, ReplayRefuses}
use Rattle.script_trace.specs.LineNotes.{inputs_as, notes_as}
use Rattle.script_trace.specs.Explaining.{Telling, blocks_words, since_after, ExplainsFrom}
use Rattle.note_report.specs.declared.block_counts.BlockCounts.{BlockCounts}
use Rattle.note_report.specs.Blocks.{counts_words}
use Rattle.note_tape.specs.declared.told.Told.{Told}
use Rattle.note_tape.specs.Telling.{AreNoted}
use Rattle.note_tape.specs.Counting.{tally, with_notes}
use Rattle.note_tape.proofs.Tallies.{tallies_are_counted}
use Rattle.script_replay.specs.declared.script.Script.{Script}
use Rattle.script_replay.specs.Replays.{StandsAt, IsReplaying, KeepsWide, DoneAt, Begins, RanBy, RefusedBy}
use Rattle.script_explain.specs.declared.explained.Explained.{Explained}
use Rattle.script_explain.specs.Explains.{is_fed, ToldAt, ToldBy, WritesNotes, WritesBlocks, Writes, StandsFrom, StandsFor, RunsAs, RefusesAs}
use Rattle.script_explain.proofs.Silent.{none_told}

-- ---- a line that isn't told to the acquisition

untold_at : (c : AcqConfig) (l : ScriptLine) (said : List ℕ) (new : Script) (w : Wide) (t : Trace) → is_fed l ≡ false → DoneAt c l said new w t → ToldAt c l said [] new w t
untold_at c l said new w t quiet at = record {
  kept = at.kept;
  trace = at.trace;
  does = at.does;
  noted = subst (λ (notes : List Note). AreNoted [] notes) (sym (none_told c w t l said at.kept at.trace quiet at.does)) tt;
  stands = at.stands;
  keeps = at.keeps;
}

abbrev fed_read : Read ScriptLine → Bool
fed_read (Ok l) = is_fed l
fed_read (Err kind) = false

quiet_too : (l k : ScriptLine) (read : Read ScriptLine) → read ≡ Ok l → read ≡ Ok k → is_fed l ≡ false → is_fed k ≡ false
quiet_too l k read is is_too quiet = sym (ap fed_read is_too) ∙ ap fed_read is ∙ quiet

-- what was run of it, by whether the script goes on
pub untold_by : (ran : Ran) (text : List ℕ) (l : ScriptLine) (old : Script) (said : List ℕ) (tape : List Told) (new : Script) → line_of text ≡ Ok l → is_fed l ≡ false → tape ≡ [] → RanBy ran text old said new → ToldBy ran text old said tape new
untold_by GoesOn text l old said tape new read quiet none by = record {
  in_place = by.in_place;
  says = by.says;
  read = by.read;
  did = record {
    does = λ w t stands keeps. subst (λ (told : List Told). ToldAt (config_of old.running.acq) by.says said told new w t) (sym none)
        (untold_at (config_of old.running.acq) by.says said new w t (quiet_too l by.says (line_of text) read by.read quiet) (by.did.does w t stands keeps));
    config = by.did.config;
    keeps = by.did.keeps;
  };
}
untold_by Ended text l old said tape new read quiet none by = record { in_place = by.in_place; says = by.says; read = by.read; did = by.did }

pub untold_result : (result : Result Ran Stop) (text : List ℕ) (l : ScriptLine) (fed : Bool) (old : Script) (said : List ℕ) (tape : List Told) (new : Script) → line_of text ≡ Ok l → fed ≡ is_fed l → fed ≡ false → tape ≡ []
    → MatchResult result (λ ran. RanBy ran text old said new) (λ stop. IfRefused stop (λ kind. RefusedBy text kind old new))
    → MatchResult result (λ ran. ToldBy ran text old said tape new) (λ stop. IfRefused stop (λ kind. RefusedBy text kind old new))
untold_result result text l fed old said tape new read is quiet none did =
    MatchResult-weaker result did (λ ran by. untold_by ran text l old said tape new read (sym is ∙ quiet) none by) (λ stop refused. refused)

-- ---- the first line

pub begins_on : (new : Script) (counts : BlockCounts) (text : List ℕ) (n : ℕ) → Begins text new → counts ≡ tally [] → RunsAs None n text GoesOn [] (Some (record { script = new; counts = counts }))
begins_on new counts text n begins none m stands = go m.notes m.since m.standing stands
  where
    go : (notes since : List Note) (s : Standing) → StandsFrom None notes s
        → (k : Telling) × ExplainsFrom notes since s n text GoesOn [] k × StandsFor (Some (record { script = new; counts = counts })) k
    go notes since first is = (
      record { notes = notes; since = since; standing = running (config_from begins.config) (nothing_wide begins.config.version) opening },
      record {
        after = running (config_from begins.config) (nothing_wide begins.config.version) opening;
        replays = record { config = begins.config; read = begins.read; silent = refl; after = refl };
        now = refl;
      },
      (begins.same, begins.stands, begins.wide, none ∙ ap tally (sym is)),
    )
    go notes since (running c w t) is = absurd is

-- ---- a later line

-- the notes of the line stand before its report
later_on : (old new : Explained) (mid : Script) (n : ℕ) (text said : List ℕ) (tape : List Told) (told : List ℕ) (notes since : List Note) (c : AcqConfig) (w : Wide) (t : Trace)
    → (by : ToldBy GoesOn text old.script said tape mid) → WritesNotes n tape said (record { script = mid; counts = old.counts }) told new
    → StandsFrom (Some old) notes (running c w t)
    → (k : Telling) × ExplainsFrom notes since (running c w t) n text GoesOn told k × StandsFor (Some new) k
later_on old new mid n text said tape told notes since c w t by writes (same, stands, wide, counts) = (
  record {
    notes = notes ++ added;
    since = since_after (inputs_as c w t by.says (meaning w t by.says) said at.kept at.trace at.does) since added;
    standing = running c (kept_behind at.kept t at.trace) at.trace;
  },
  record {
    report = said;
    after = running c (kept_behind at.kept t at.trace) at.trace;
    replays = record { in_place = by.in_place; says = by.says; read = by.read; kept = at.kept; trace = at.trace; does = at.does; after = refl };
    told = writes.told added at.noted ∙ ap (λ moment. notes_text n moment added ++ said) moment_is;
    now = refl;
  },
  (
    ap (λ (s : Script). config_of s.running.acq) writes.same ∙ config,
    subst (λ (s : Script). StandsAt s.running at.trace) (sym writes.same) at.stands,
    subst (λ (s : Script). KeepsWide s.widening (kept_behind at.kept t at.trace)) (sym writes.same) at.keeps,
    writes.counted added at.noted ∙ ap (with_notes added) counts ∙ sym (tallies_are_counted notes added),
  ),
)
  where
    at : ToldAt c by.says said tape mid w t
    at = subst (λ (d : AcqConfig). ToldAt d by.says said tape mid w t) same (by.did.does w t stands wide)

    added : List Note
    added = notes_as c w t by.says (meaning w t by.says) said at.kept at.trace at.does

    config : config_of mid.running.acq ≡ c
    config = by.did.config ∙ same

    moment_is : writes.moment ≡ (After c at.trace.inputs).now
    moment_is = writes.now at.trace.inputs at.stands.behind.inputs ∙ ap (λ (d : AcqConfig). (After d at.trace.inputs).now) config

-- the code's number of open blocks is far from its type's end
small : (n : ℕ) → n ≤ 255 → n ≡ as_count n
small n few = omega (arith, few)

-- the note of what blocks came to stands before the last report
last_on : (old new : Explained) (mid : Script) (n : ℕ) (text said told : List ℕ) (tape : List Told) (notes since : List Note) (c : AcqConfig) (w : Wide) (t : Trace)
    → ToldBy Ended text old.script said tape mid → WritesBlocks n said (record { script = mid; counts = old.counts }) told new
    → StandsFrom (Some old) notes (running c w t)
    → (k : Telling) × ExplainsFrom notes since (running c w t) n text Ended told k × StandsFor (Some new) k
last_on old new mid n text said told tape notes since c w t by writes (same, stands, wide, counts) = (
  record { notes = notes; since = since; standing = running c w t },
  record {
    report = said;
    after = running c w t;
    replays = record {
      in_place = by.in_place;
      read = by.read ∙ ap (λ l. Ok l) by.did.is_end;
      said = by.did.told w t stands wide ∙ ap (λ (d : AcqConfig). end_text d w.refused t) same;
      after = refl;
    };
    told = writes.told ∙ ap (λ words. words_line n writes.moment words ++ said) words_are ∙ ap (λ moment. words_line n moment (blocks_words c t notes) ++ said) moment_is;
    now = refl;
  },
  subst (λ (e : Explained). StandsFor (Some e) (record { notes = notes; since = since; standing = running c w t })) (sym same_new) (same, stands, wide, counts),
)
  where
    same_new : new ≡ old
    same_new = writes.same ∙ ap (λ (s : Script). record { script = s; counts = old.counts }) by.did.same

    config : config_of mid.running.acq ≡ c
    config = ap (λ (s : Script). config_of s.running.acq) by.did.same ∙ same

    behind : Stands mid.running.acq t.inputs
    behind = subst (λ (s : Script). Stands s.running.acq t.inputs) (sym by.did.same) stands.behind.inputs

    moment_is : writes.moment ≡ (After c t.inputs).now
    moment_is = writes.now t.inputs behind ∙ ap (λ (d : AcqConfig). (After d t.inputs).now) config

    words_are : counts_words old.counts writes.still_open ≡ blocks_words c t notes
    words_are =
        ap (λ (b : BlockCounts). counts_words b writes.still_open) counts
        ∙ ap (counts_words (tally notes)) (small writes.still_open writes.few ∙ ap as_count (writes.opens t.inputs behind ∙ ap (λ (d : AcqConfig). length (After d t.inputs).opens) config))

pub explains_on : (old new : Explained) (mid : Script) (ran : Ran) (n : ℕ) (text said : List ℕ) (tape : List Told) (told : List ℕ)
    → ToldBy ran text old.script said tape mid → Writes ran n tape said (record { script = mid; counts = old.counts }) told new → RunsAs (Some old) n text ran told (Some new)
explains_on old new mid ran n text said tape told by writes m stands = go ran m.notes m.since m.standing by writes stands
  where
    go : (ran : Ran) (notes since : List Note) (s : Standing) → ToldBy ran text old.script said tape mid → Writes ran n tape said (record { script = mid; counts = old.counts }) told new → StandsFrom (Some old) notes s
        → (k : Telling) × ExplainsFrom notes since s n text ran told k × StandsFor (Some new) k
    go GoesOn notes since first by writes is = absurd is
    go Ended notes since first by writes is = absurd is
    go GoesOn notes since (running c w t) by writes is = later_on old new mid n text said tape told notes since c w t by writes is
    go Ended notes since (running c w t) by writes is = last_on old new mid n text said told tape notes since c w t by writes is

-- ---- between lines

pub keeps_on : (old new : Explained) (mid : Script) (ran : Ran) (n : ℕ) (text said : List ℕ) (tape : List Told) (told : List ℕ)
    → ToldBy ran text old.script said tape mid → Writes ran n tape said (record { script = mid; counts = old.counts }) told new → IsReplaying old.script.running → IsReplaying new.script.running
keeps_on old new mid GoesOn n text said tape told by writes keeps = subst (λ (s : Script). IsReplaying s.running) (sym writes.same) by.did.keeps
keeps_on old new mid Ended n text said tape told by writes keeps =
    subst (λ (e : Explained). IsReplaying e.script.running) (sym writes.same) (subst (λ (s : Script). IsReplaying s.running) (sym by.did.same) keeps)

-- ---- lines that are refused

pub refuses_on : (now : Explained) (n : ℕ) (text : List ℕ) (kind : ScriptKind) (new : Script) → RefusedBy text kind now.script new → RefusesAs (Some now) n text kind
refuses_on now n text kind new refused m stands = go m.standing stands
  where
    go : (s : Standing) → StandsFrom (Some now) m.notes s → ReplayRefuses s n text kind
    go first is = absurd is
    go (running c w t) is = refused.kind_is
