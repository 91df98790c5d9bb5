-- The bytes of a source that tells decide how a run ends.
use Rattle.std.proofs.Common.{◌≡◌, ℕ, ◌+◌, ◌<◌, ◌≤◌, List, [], ◌∷◌, ◌++◌, length, get_or, Option, Some, None, refl, ap, sym, ◌∙◌, subst, arith, append_assoc, length-append, inl, inr, nat_eq, nat_lt, false, zero, suc}
use Rattle.std.specs.Prelude.{if◌then◌else◌}
use Rattle.std.specs.List.{join_with_byte}
use Rattle.std.proofs.lemmas.Bool.{cond-true, cond-false, le-ltb, lt-ltb, eq-eqb, ne_eqb, cases_lt}
use Rattle.std.proofs.lemmas.List.{append-nil, get_or_at}
use Rattle.std.proofs.lemmas.List.Elements.{All-from_get_or}
use Rattle.std.proofs.lemmas.List.Splits.{slice_split_at, slice_split_none, join_with_byte-slice_split}
use Rattle.gev_links.specs.Told.{Appends}
use Rattle.gev_script.specs.declared.kind.ScriptKind.{ScriptKind}
use Rattle.gev_script.specs.declared.kind.ScriptKind.TheVariants as kinds
use Rattle.gev_script.specs.Streams.{HasNoFeed, IsOpen, IsLong}
use Rattle.gev_script.specs.Words.{parts_of}
use Rattle.gev_script.proofs.Splitting.{HasFirst, parts_first}
use Rattle.script_runs.specs.declared.ran.Ran.{Ran}
use Rattle.script_runs.specs.declared.ran.Ran.TheVariants.{Ended}
use Rattle.script_runs.specs.declared.ending.Ending.{Ending}
use Rattle.script_runs.specs.declared.ending.Ending.TheVariants.{Done, BadLine, ReadFault, WriteFault, NoMemory}
use Rattle.script_runs.specs.Runs.{Running, Refusing, RunsLines, lines_text, AreLines}
use Rattle.script_runs.specs.Outcomes.{RunsLast, RefusesUnread, RefusesLine, EndsAt, RunEnds}
use Rattle.script_runs.specs.Verdicts.{Verdict, whole, refused, judged, outcome_of, outcome, AnswersContent, IfTold, Judges}

-- a line without a line feed is a part of what follows it
parts_line : (line rest : List ℕ) → HasNoFeed line → parts_of 10 (line ++ 10 ∷ rest) ≡ line ∷ parts_of 10 rest
parts_line line rest h =
    slice_split_at (λ b. nat_eq b 10) line 10 rest (All-from_get_or (λ b. nat_eq b 10 ≡ false) line 0 (λ i lt. ne_eqb _ _ (h i lt))) refl

parts_rest : (rest : List ℕ) → HasNoFeed rest → parts_of 10 rest ≡ rest ∷ []
parts_rest rest h = slice_split_none (λ b. nat_eq b 10) rest (All-from_get_or (λ b. nat_eq b 10 ≡ false) rest 0 (λ i lt. ne_eqb _ _ (h i lt)))

left_part : (xs ys : List ℕ) (i : ℕ) → i < length xs → get_or (xs ++ ys) i 0 ≡ get_or xs i 0
left_part [] ys i lt = absurd (omega arith)
left_part (x ∷ xs) ys zero lt = refl
left_part (x ∷ xs) ys (suc i) lt = left_part xs ys i (omega arith)

-- the first part of a text that begins too long is too long
first_is_long : (tail first : List ℕ) (others : List (List ℕ)) → tail ≡ join_with_byte 10 (first ∷ others) → 20000 < length tail
    → ((i : ℕ) → i ≤ 20000 → get_or tail i 0 ≡ 10 → ⊥) → 20000 < length first
first_is_long tail first [] e long none = let size : length tail ≡ length first = ap length e in omega arith
first_is_long tail first (next ∷ others) e long none =
    elim (cases_lt 20000 (length first)) [
      | inl more ↦ more
      | inr short ↦ absurd (none (length first) short (ap (λ t. get_or t (length first) 0) e ∙ get_or_at first 10 (join_with_byte 10 (next ∷ others)) 0 (length first) refl))
    ]

module _ (v : ℕ → List ℕ → Verdict) where
  outcome_cons : (n : ℕ) (line : List ℕ) (parts : List (List ℕ)) → HasFirst parts
      → outcome_of v n (line ∷ parts)
      ≡ (if nat_lt 20000 (length line) then refused (n + 1) kinds.Long
      else if nat_eq n 4294967295 then refused (n + 1) kinds.Many
      else judged (v (n + 1) line) (n + 1) (outcome_of v (n + 1) parts))
  outcome_cons n line parts h =
      let P : List (List ℕ) → Type 0 = λ ps. outcome_of v n (line ∷ ps)
      ≡ (if nat_lt 20000 (length line) then refused (n + 1) kinds.Long
      else if nat_eq n 4294967295 then refused (n + 1) kinds.Many
      else judged (v (n + 1) line) (n + 1) (outcome_of v (n + 1) ps)) in
      subst P (sym h.is) refl

  -- a whole line stands first
  at_line : (n : ℕ) (line rest : List ℕ) → HasNoFeed line → length line ≤ 20000
      → outcome_of v n (parts_of 10 (line ++ 10 ∷ rest))
      ≡ (if nat_eq n 4294967295 then refused (n + 1) kinds.Many else judged (v (n + 1) line) (n + 1) (outcome_of v (n + 1) (parts_of 10 rest)))
  at_line n line rest none short =
      ap (outcome_of v n) (parts_line line rest none)
      ∙ outcome_cons n line (parts_of 10 rest) (parts_first 10 rest)
      ∙ cond-false (nat_lt 20000 (length line)) _ _ (le-ltb 20000 (length line) short)

  -- and isn't one too many
  at_counted_line : (n : ℕ) (line rest : List ℕ) → HasNoFeed line → length line ≤ 20000 → n + 1 ≤ 4294967295
      → outcome_of v n (parts_of 10 (line ++ 10 ∷ rest)) ≡ judged (v (n + 1) line) (n + 1) (outcome_of v (n + 1) (parts_of 10 rest))
  at_counted_line n line rest none short few =
      at_line n line rest none short
      ∙ cond-false (nat_eq n 4294967295) (refused (n + 1) kinds.Many) _ (ne_eqb _ _ (λ (e : n ≡ 4294967295). absurd (omega arith)))

  outcome_long : (n : ℕ) (first : List ℕ) (others : List (List ℕ)) → 20000 < length first → outcome_of v n (first ∷ others) ≡ refused (n + 1) kinds.Long
  outcome_long n first [] h = cond-true (nat_lt 20000 (length first)) (refused (n + 1) kinds.Long) _ (lt-ltb 20000 (length first) h)
  outcome_long n first (next ∷ others) h = cond-true (nat_lt 20000 (length first)) (refused (n + 1) kinds.Long) _ (lt-ltb 20000 (length first) h)

  long_outcome : (n : ℕ) (rest after : List ℕ) → IsLong rest → outcome_of v n (parts_of 10 (rest ++ after)) ≡ refused (n + 1) kinds.Long
  long_outcome n rest after long =
      let some : 20000 < length rest = long.some in
      let parts = parts_first 10 (rest ++ after) in
      let tail_is = sym (join_with_byte-slice_split 10 (rest ++ after)) ∙ ap (join_with_byte 10) parts.is in
      let first_long =
      first_is_long (rest ++ after) parts.first parts.others tail_is (omega (arith, length-append rest after))
      (λ i low e. long.no_feed i low (sym (left_part rest after i (omega arith)) ∙ e)) in
      ap (outcome_of v n) parts.is ∙ outcome_long n parts.first parts.others first_long

  open_outcome : (n : ℕ) (rest : List ℕ) → IsOpen rest → outcome_of v n (parts_of 10 rest) ≡ refused (n + 1) kinds.NoEnd
  open_outcome n rest is_open =
      ap (outcome_of v n) (parts_rest rest is_open.no_feed)
      ∙ cond-false (nat_lt 20000 (length rest)) (refused (n + 1) kinds.Long) _ (le-ltb 20000 (length rest) is_open.short)

  many_outcome : (n : ℕ) (line rest : List ℕ) → HasNoFeed line → length line ≤ 20000 → n ≡ 4294967295
      → outcome_of v n (parts_of 10 (line ++ 10 ∷ rest)) ≡ refused (n + 1) kinds.Many
  many_outcome n line rest none short many =
      at_line n line rest none short ∙ cond-true (nat_eq n 4294967295) (refused (n + 1) kinds.Many) _ (eq-eqb _ _ many)

-- bytes behind a line
behind : (rest line held after : List ℕ) → rest ≡ line ++ 10 ∷ held → rest ++ after ≡ line ++ 10 ∷ (held ++ after)
behind rest line held after e = ap (λ t. t ++ after) e ∙ append_assoc line (10 ∷ held) after

module _ {M : Type 0} (runs : Running M) (refuses : Refusing M) (v : ℕ → List ℕ → Verdict) (At : M → ℕ → Type 0) (j : Judges runs refuses v At) where
  -- lines that were run and go on
  skip : (lines : List (List ℕ)) (m now : M) (n : ℕ) (text tail : List ℕ) → At m n → RunsLines runs m n lines text now → AreLines lines
      → n + length lines ≤ 4294967295
      → (outcome_of v n (parts_of 10 (lines_text lines ++ tail)) ≡ outcome_of v (n + length lines) (parts_of 10 tail)) × At now (n + length lines)
  skip [] m now n text tail at h are few =
      let same : n ≡ n + 0 = omega arith in
      (ap (λ k. outcome_of v k (parts_of 10 tail)) same, subst (At now) same (subst (λ x. At x n) (sym h.1) at))
  skip (line ∷ lines) m now n text tail at h are few =
      let goes = j.goes m h.0 n line h.1 at h.3 in
      let same : n + 1 + length lines ≡ n + length (line ∷ lines) = omega arith in
      let later = skip lines h.0 now (n + 1) h.2 tail goes.1 h.4 are.2 (omega arith) in (
        ap (λ t. outcome_of v n (parts_of 10 t)) (append_assoc line (10 ∷ lines_text lines) tail)
            ∙ at_counted_line v n line (lines_text lines ++ tail) are.0 are.1 (omega arith)
            ∙ ap (λ w. judged w (n + 1) (outcome_of v (n + 1) (parts_of 10 (lines_text lines ++ tail)))) goes.0
            ∙ later.0
            ∙ ap (λ k. outcome_of v k (parts_of 10 tail)) same,
        subst (At now) same later.1,
      )

  last_content : (now : M) (n : ℕ) (rest after : List ℕ) (P : List ℕ → Type 0) (ran : Ran) → At now n → RunsLast runs now n ran rest P → ran ≡ Ended
      → outcome_of v n (parts_of 10 (rest ++ after)) ≡ whole
  last_content now n rest after P ran at h is_end =
      ap (λ t. outcome_of v n (parts_of 10 t)) (behind rest h.line h.held after h.is_line.parts)
      ∙ at_counted_line v n h.line (h.held ++ after) h.is_line.no_feed h.is_line.short h.counted
      ∙ ap (λ w. judged w (n + 1) (outcome_of v (n + 1) (parts_of 10 (h.held ++ after))))
      (j.ended now h.final n h.line h.report at (subst (λ r. runs now (n + 1) h.line r h.report h.final) is_end h.run))

  refused_content : (now : M) (n : ℕ) (rest after : List ℕ) (kind : ScriptKind) → At now n → RefusesLine refuses now n rest kind
      → outcome_of v n (parts_of 10 (rest ++ after)) ≡ refused (n + 1) kind
  refused_content now n rest after kind at h =
      let text : List ℕ = h.line ++ 10 ∷ (h.held ++ after) in
      let found : outcome_of v n (parts_of 10 text) ≡ refused (n + 1) kind =
      elim h.refused [
        | inl many ↦
            many_outcome v n h.line (h.held ++ after) h.is_line.no_feed h.is_line.short many.1 ∙ ap (λ k. refused (n + 1) k) (sym many.0)
        | inr cause ↦
            at_counted_line v n h.line (h.held ++ after) h.is_line.no_feed h.is_line.short cause.0
            ∙ ap (λ w. judged w (n + 1) (outcome_of v (n + 1) (parts_of 10 (h.held ++ after)))) (j.refused_so now n h.line kind at cause.1)
      ] in
      ap (λ t. outcome_of v n (parts_of 10 t)) (behind rest h.line h.held after h.is_line.parts) ∙ found

  unread_content : (n : ℕ) (rest after : List ℕ) (kind : ScriptKind) → RefusesUnread kind rest (Some after)
      → outcome_of v n (parts_of 10 (rest ++ after)) ≡ refused (n + 1) kind
  unread_content n rest after kinds.Long h = long_outcome v n rest after h
  unread_content n rest after kinds.NoEnd h =
      ap (λ t. outcome_of v n (parts_of 10 (rest ++ t))) h.1 ∙ ap (λ t. outcome_of v n (parts_of 10 t)) (append-nil rest) ∙ open_outcome v n rest h.0
  unread_content n rest after kinds.Many h = absurd h
  unread_content n rest after kinds.Header h = absurd h
  unread_content n rest after kinds.Word h = absurd h
  unread_content n rest after kinds.Number h = absurd h
  unread_content n rest after kinds.Hex h = absurd h

  ends_content : (now : M) (n : ℕ) (rest after : List ℕ) (ending : Ending) (a b c d : ℕ) (Wrote : List ℕ → Type 0) → At now n
      → EndsAt runs refuses now n rest ending (Some after) a b c d Wrote → AnswersContent ending (outcome_of v n (parts_of 10 (rest ++ after)))
  ends_content now n rest after Done a b c d Wrote at h = subst (AnswersContent Done) (sym (last_content now n rest after Wrote Ended at h refl)) tt
  ends_content now n rest after (BadLine line kind) a b c d Wrote at h =
      let found : outcome_of v n (parts_of 10 (rest ++ after)) ≡ refused (n + 1) kind =
      elim h.1 [ inl unread ↦ unread_content n rest after kind unread | inr cause ↦ refused_content now n rest after kind at cause ] in
      subst (AnswersContent (BadLine line kind)) (sym found) (h.0, refl)
  ends_content now n rest after ReadFault a b c d Wrote at h = tt
  ends_content now n rest after WriteFault a b c d Wrote at h = tt
  ends_content now n rest after NoMemory a b c d Wrote at h = tt

  pub exact : (m : M) (ending : Ending) (left left_after : Option (List ℕ)) (reads reads_after : ℕ) (written written_after : Option (List ℕ)) (writes writes_after : ℕ)
      → At m 0 → RunEnds runs refuses m ending left left_after reads reads_after written written_after writes writes_after
      → IfTold left (λ content. AnswersContent ending (outcome v content))
  exact m ending None left_after reads reads_after written written_after writes writes_after at h = tt
  exact m ending (Some content) None reads reads_after written written_after writes writes_after at h = absurd h.given
  exact m ending (Some content) (Some after) reads reads_after written written_after writes writes_after at h =
      let lines = skip h.lines m h.now 0 h.text (h.rest ++ after) at h.ran h.are (omega (arith, h.counted)) in
      let same : 0 + length h.lines ≡ length h.lines = omega arith in
      let content_is : content ≡ lines_text h.lines ++ (h.rest ++ after) = h.given ∙ append_assoc (lines_text h.lines) h.rest after in
      let out : outcome v content ≡ outcome_of v (length h.lines) (parts_of 10 (h.rest ++ after)) =
      ap (outcome v) content_is ∙ lines.0 ∙ ap (λ k. outcome_of v k (parts_of 10 (h.rest ++ after))) same in
      subst (AnswersContent ending) (sym out)
      (ends_content h.now (length h.lines) h.rest after ending reads reads_after writes writes_after (λ report. Appends written written_after (h.text ++ report)) (subst (At h.now) same lines.1) h.holds)
