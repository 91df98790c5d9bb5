-- The bytes of a source that tells decide which line is refused, and whether a script ended.
use Rattle.std.proofs.Common.{◌≡◌, ◌⊎◌, inl, inr, ℕ, ◌+◌, List, Option, Some, None, refl, sym, ap, ◌∙◌, length}
use Rattle.gev_links.specs.Faults.{Rose}
use Rattle.gev_script.specs.declared.kind.ScriptKind.{ScriptKind}
use Rattle.frame_pictures.specs.declared.no_picture.NoPicture.{NoPicture}
use Rattle.frame_pictures.specs.declared.no_picture.NoPicture.TheVariants.{Taken, NoneOf}
use Rattle.script_runs.specs.declared.ending.Ending.TheVariants as endings
use Rattle.script_runs.specs.Outcomes.{RefusesUnread, RefusesLine, RunEnds}
use Rattle.script_runs.specs.Verdicts.{Outcome, whole, refused, outcome, IfTold}
use Rattle.script_runs.specs.Verdicts as verdicts
use Rattle.script_runs.proofs.Exacts.{exact}
use Rattle.script_trace.specs.Standing.{first, ReplayRuns, ReplayRefuses, replay_verdict, IsBehind}
use Rattle.script_trace.proofs.Scripts.{lines_judged}
use Rattle.script_image.specs.declared.image_end.ImageEnd.{ImageEnd}
use Rattle.script_image.specs.declared.image_end.ImageEnd.TheVariants as ends
use Rattle.script_image.specs.declared.wanted.Wanted.{Wanted}
use Rattle.script_image.specs.declared.wanted.Wanted.TheVariants.{One, All}
use Rattle.script_image.specs.Taking.{Taking, beginning, TakingRefuses}
use Rattle.script_image.specs.Ends.{EndsBefore, EndsBy, ImageEnds, AnswersContent, IsComplete}
use Rattle.script_image.proofs.Looping.{replay_lines}

-- nothing tells what is written
abbrev untold : Option (List ℕ)
untold = None

told_map : (left : Option (List ℕ)) (P Q : List ℕ → Type 0) → ((content : List ℕ) → P content → Q content) → IfTold left P → IfTold left Q
told_map None P Q f h = tt
told_map (Some content) P Q f h = f content h

told_all : (left : Option (List ℕ)) (P : List ℕ → Type 0) → ((content : List ℕ) → P content) → IfTold left P
told_all None P f = tt
told_all (Some content) P f = f content

whole_so : (found : Outcome) → verdicts.AnswersContent endings.Done found → found ≡ whole
whole_so whole h = refl
whole_so (refused n kind) h = absurd h

refused_so : (number : ℕ) (kind : ScriptKind) (found : Outcome) → verdicts.AnswersContent (endings.BadLine number kind) found → found ≡ refused number kind
refused_so number kind whole h = absurd h
refused_so number kind (refused n cause) h = ap (λ m. refused m cause) (sym h.0) ∙ ap (λ k. refused number k) (sym h.1)

-- ---- a replay of the same lines, whose report nobody reads

-- why a line was refused
abbrev IsBad : ℕ → ScriptKind → Taking → ℕ → List ℕ → Option (List ℕ) → Type 0
IsBad number kind now n rest left = (number ≡ n + 1) × (RefusesUnread kind rest left ⊎ RefusesLine TakingRefuses now n rest kind)

bad_of : (w : Wanted) (now : Taking) (n : ℕ) (rest shown : List ℕ) (number : ℕ) (kind : ScriptKind) (left : Option (List ℕ)) (reads reads_after : ℕ) (written written_after : Option (List ℕ)) (writes writes_after : ℕ)
    → EndsBy w now n rest shown (ends.BadLine number kind) left reads reads_after written written_after writes writes_after → IsBad number kind now n rest left
bad_of (One k) now n rest shown number kind left reads reads_after written written_after writes writes_after h = (h.ends.0, h.ends.1)
bad_of All now n rest shown number kind left reads reads_after written written_after writes writes_after h = (h.0, h.1)

module _ (w : Wanted) (ending : ImageEnd) (left left_after written written_after : Option (List ℕ)) (reads reads_after writes writes_after : ℕ)
    (h : ImageEnds w ending left left_after reads reads_after written written_after writes writes_after) where
  as_refused : (number : ℕ) (kind : ScriptKind) → IsBad number kind h.now (length h.lines) h.rest left_after
      → RunEnds ReplayRuns ReplayRefuses first (endings.BadLine number kind) left left_after reads reads_after untold untold writes writes
  as_refused number kind bad = let told = replay_lines w beginning h.now 0 h.lines h.text h.ran in
      record {
        now = h.now.standing;
        lines = h.lines;
        rest = h.rest;
        text = told.0;
        given = h.given;
        are = h.are;
        counted = h.counted;
        few = h.few;
        ran = told.1;
        holds = (bad.0, elim bad.1 [ inl unread ↦ inl unread | inr refuses ↦ inr (record { line = refuses.line; held = refuses.held; is_line = refuses.is_line; refused = refuses.refused }) ], refl);
      }

  as_whole : (count : ℕ) → EndsBefore count h.now (length h.lines) h.rest → RunEnds ReplayRuns ReplayRefuses first endings.Done left left_after reads reads_after untold untold writes writes
  as_whole count before = let told = replay_lines w beginning h.now 0 h.lines h.text h.ran in
      let last = before.last in
      record {
        now = h.now.standing;
        lines = h.lines;
        rest = h.rest;
        text = told.0;
        given = h.given;
        are = h.are;
        counted = h.counted;
        few = h.few;
        ran = told.1;
        holds = record {
          line = last.line;
          held = last.held;
          final = last.final;
          report = last.report;
          is_line = last.is_line;
          counted = last.counted;
          run = last.run;
          holds = refl;
        };
      }

  refused_exact : (number : ℕ) (kind : ScriptKind) → IsBad number kind h.now (length h.lines) h.rest left_after → IfTold left (λ content. outcome replay_verdict content ≡ refused number kind)
  refused_exact number kind bad =
      told_map left (λ content. verdicts.AnswersContent (endings.BadLine number kind) (outcome replay_verdict content)) (λ content. outcome replay_verdict content ≡ refused number kind)
      (λ content found. refused_so number kind (outcome replay_verdict content) found)
      (exact ReplayRuns ReplayRefuses replay_verdict IsBehind lines_judged first (endings.BadLine number kind) left left_after reads reads_after untold untold writes writes refl
      (as_refused number kind bad))

  whole_exact : (count : ℕ) → EndsBefore count h.now (length h.lines) h.rest → IfTold left (λ content. outcome replay_verdict content ≡ whole)
  whole_exact count before =
      told_map left (λ content. verdicts.AnswersContent endings.Done (outcome replay_verdict content)) (λ content. outcome replay_verdict content ≡ whole)
      (λ content found. whole_so (outcome replay_verdict content) found)
      (exact ReplayRuns ReplayRefuses replay_verdict IsBehind lines_judged first endings.Done left left_after reads reads_after untold untold writes writes refl
      (as_whole count before))

pub image_exact : (w : Wanted) (ending : ImageEnd) (left left_after written written_after : Option (List ℕ)) (reads reads_after writes writes_after : ℕ)
    → ImageEnds w ending left left_after reads reads_after written written_after writes writes_after
    → IfTold left (λ content. AnswersContent w ending (outcome replay_verdict content))
image_exact All ends.Done left left_after written written_after reads reads_after writes writes_after h =
    whole_exact All ends.Done left left_after written written_after reads reads_after writes writes_after h h.now.taken h.holds.0
image_exact (One k) (ends.NoPicture (Taken count)) left left_after written written_after reads reads_after writes writes_after h =
    whole_exact (One k) (ends.NoPicture (Taken count)) left left_after written written_after reads reads_after writes writes_after h count h.holds.ends.0
image_exact All (ends.NoPicture (Taken count)) left left_after written written_after reads reads_after writes writes_after h =
    whole_exact All (ends.NoPicture (Taken count)) left left_after written written_after reads reads_after writes writes_after h h.now.taken h.holds.0
image_exact (One k) (ends.NoPicture (NoneOf count)) left left_after written written_after reads reads_after writes writes_after h = absurd h.holds.ends.0
image_exact All (ends.NoPicture (NoneOf count)) left left_after written written_after reads reads_after writes writes_after h =
    whole_exact All (ends.NoPicture (NoneOf count)) left left_after written written_after reads reads_after writes writes_after h h.now.taken h.holds.0
image_exact w (ends.BadLine number kind) left left_after written written_after reads reads_after writes writes_after h =
    refused_exact w (ends.BadLine number kind) left left_after written written_after reads reads_after writes writes_after h number kind
    (bad_of w h.now (length h.lines) h.rest h.text number kind left_after reads reads_after written written_after writes writes_after h.holds)
image_exact w ending left left_after written written_after reads reads_after writes writes_after h = told_all left (λ content. AnswersContent w ending (outcome replay_verdict content)) (λ content. tt)

-- Where nothing failed, it ends in one of the other ways.
pub image_completes : (w : Wanted) (ending : ImageEnd) (left left_after written written_after : Option (List ℕ)) (reads reads_after writes writes_after : ℕ)
    → ImageEnds w ending left left_after reads reads_after written written_after writes writes_after
    → (Rose reads reads_after → ⊥) → (Rose writes writes_after → ⊥) → IsComplete ending
image_completes w ends.Done left left_after written written_after reads reads_after writes writes_after h none_read none_written = tt
image_completes w (ends.NoPicture why) left left_after written written_after reads reads_after writes writes_after h none_read none_written = tt
image_completes w (ends.BadLine number kind) left left_after written written_after reads reads_after writes writes_after h none_read none_written = tt
image_completes (One k) ends.ReadFault left left_after written written_after reads reads_after writes writes_after h none_read none_written = absurd (none_read h.holds.ends.0)
image_completes All ends.ReadFault left left_after written written_after reads reads_after writes writes_after h none_read none_written = absurd (none_read h.holds.0)
image_completes (One k) ends.WriteFault left left_after written written_after reads reads_after writes writes_after h none_read none_written = absurd (none_written h.holds.ends.0)
image_completes All ends.WriteFault left left_after written written_after reads reads_after writes writes_after h none_read none_written = absurd (none_written h.holds.0)
image_completes w ends.NoMemory left left_after written written_after reads reads_after writes writes_after h none_read none_written = tt
