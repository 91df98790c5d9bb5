-- The script of a capture is what its lines write.
use Rattle.std.proofs.Common.{◌≡◌, ℕ, List, [], ◌∷◌, ◌++◌, Bool, true, false, Option, Some, None, refl, ap, sym, ◌∙◌, append_assoc}
use Rattle.std.proofs.lemmas.List.{append-nil}
use Rattle.std.specs.Prelude.{◌||◌, nat_lt, if◌then◌else◌}
use Rattle.gev_capture.specs.Contents.{Seen, other, fragment, cut, datagram, lost}
use Rattle.gev_capture.specs.Sightings.{Sighting, sightings}
use Rattle.capture_runs.specs.declared.ending.Ending.{Ending}
use Rattle.capture_runs.specs.declared.ending.Ending.TheVariants.{Done, BadCapture, ReadFault, WriteFault, NoMemory}
use Rattle.capture_runs.specs.Texts.{said, state, whole, broken, tells}
use Rattle.script_runs.specs.Verdicts.{IfTold}
use Rattle.capture_runs.specs.Ends.{RunEnds, AnswersContent}
use Rattle.capture_runs.proofs.Walked.{ends_as, run_none}
use Rattle.capture_script.specs.Script.{Scripted, Written, not_written, stands_in, has_datagram, seen, no_lines, both, goes_on, ticks, carries, is_for, text_of, opening_lines, closing_lines, sighted, script_texts, lines_from, script_behind, begun_lines, begun_script, capture_script}
use Rattle.take_lines.proofs.Texts.{text_of-append}

said_is : (w : Written) (xs : List Sighting) → said script_texts w xs ≡ text_of (lines_from w.script xs)
said_is w [] = refl
said_is w (x ∷ xs) =
    ap (λ (t : List ℕ). text_of (sighted w.script x).lines ++ t) (said_is (script_texts.after w x) xs)
    ∙ sym (text_of-append (sighted w.script x).lines (lines_from (sighted w.script x).after xs))

state_is : (w : Written) (xs : List Sighting) → (state script_texts w xs).script ≡ script_behind w.script xs
state_is w [] = refl
state_is w (x ∷ xs) = state_is (script_texts.after w x) xs

-- a script's port stays
same_port : (s : Scripted) (x : Sighting) → (sighted s x).after.port ≡ s.port
same_port s x = go x.what where
  ticked_port : (b : Bool) → (if b then goes_on x.moment s else no_lines s).after.port ≡ s.port
  ticked_port true = refl
  ticked_port false = refl

  carried_port : (b : Bool) (bytes : List ℕ) → (if b then both (ticks x.moment s) (carries bytes) else no_lines s).after.port ≡ s.port
  carried_port true bytes = ticked_port (nat_lt s.moment x.moment)
  carried_port false bytes = refl

  go : (what : Seen) → (seen x.moment what s).after.port ≡ s.port
  go other = refl
  go fragment = refl
  go cut = refl
  go (datagram c) = carried_port (is_for s.port c.receiver.port c.bytes) c.bytes
  go (lost before now) = refl

told_is : (w : Written) (xs : List Sighting) → tells script_texts w xs ≡ (w.told || has_datagram w.script.port xs)
told_is w [] = or_false w.told where
  or_false : (b : Bool) → b ≡ (b || false)
  or_false true = refl
  or_false false = refl
told_is w (x ∷ xs) =
    told_is (script_texts.after w x) xs
    ∙ ap (λ (port : ℕ). (w.told || stands_in w.script.port x.what) || has_datagram port xs) (same_port w.script x)
    ∙ or_assoc w.told (stands_in w.script.port x.what) (has_datagram w.script.port xs)
  where
    or_assoc : (a b c : Bool) → ((a || b) || c) ≡ (a || (b || c))
    or_assoc true b c = refl
    or_assoc false b c = refl

begun_is : (p size : ℕ) (w : Written) (out : List ℕ) (xs : List Sighting) → out ≡ text_of (opening_lines p size)
    → out ++ said script_texts w xs ≡ text_of (opening_lines p size ++ lines_from w.script xs)
begun_is p size w out xs e =
    ap (λ (o : List ℕ). o ++ said script_texts w xs) e
    ∙ ap (λ (t : List ℕ). text_of (opening_lines p size) ++ t) (said_is w xs)
    ∙ sym (text_of-append (opening_lines p size) (lines_from w.script xs))

whole_is : (port p size : ℕ) (out : List ℕ) (xs : List Sighting) → out ≡ text_of (opening_lines p size)
    → out ++ whole script_texts (not_written port p size) xs ≡ capture_script port p size xs
whole_is port p size out xs e =
    let w = not_written port p size in
    sym (append_assoc out (said script_texts w xs) (text_of (closing_lines (state script_texts w xs).script)))
    ∙ ap (λ (t : List ℕ). t ++ text_of (closing_lines (state script_texts w xs).script)) (begun_is p size w out xs e)
    ∙ ap (λ (r : Scripted). begun_script port p size xs ++ text_of (closing_lines r)) (state_is w xs)
    ∙ sym (text_of-append (begun_lines port p size xs) (closing_lines (script_behind w.script xs)))

broken_is : (port p size : ℕ) (out : List ℕ) (xs : List Sighting) → out ≡ text_of (opening_lines p size)
    → out ++ broken script_texts (not_written port p size) xs ≡ begun_script port p size xs
broken_is port p size out xs e =
    let w = not_written port p size in
    ap (λ (t : List ℕ). out ++ t) (append-nil (said script_texts w xs)) ∙ begun_is p size w out xs e

pub scripted : (port p size : ℕ) (out : List ℕ) (ending : Ending) (left left_after : Option (List ℕ)) (reads reads_after : ℕ) (written written_after : Option (List ℕ)) (writes writes_after : ℕ)
    → out ≡ text_of (opening_lines p size)
    → RunEnds (λ xs. out ++ whole script_texts (not_written port p size) xs) (λ xs. out ++ broken script_texts (not_written port p size) xs) (tells script_texts (not_written port p size)) ending left left_after reads reads_after written written_after writes writes_after
    → RunEnds (capture_script port p size) (begun_script port p size) (has_datagram port) ending left left_after reads reads_after written written_after writes writes_after
scripted port p size out ending left left_after reads reads_after written written_after writes writes_after e h =
    ends_as
    (λ xs. out ++ whole script_texts (not_written port p size) xs) (capture_script port p size)
    (λ xs. out ++ broken script_texts (not_written port p size) xs) (begun_script port p size) (tells script_texts (not_written port p size)) (has_datagram port)
    (λ xs. whole_is port p size out xs e) (λ xs. broken_is port p size out xs e) (λ xs. told_is (not_written port p size) xs) ending left left_after reads reads_after written written_after writes writes_after h

pub scripted_none : (port p size : ℕ) (left : Option (List ℕ)) (reads : ℕ) (written : Option (List ℕ)) (writes : ℕ)
    → RunEnds (capture_script port p size) (begun_script port p size) (has_datagram port) NoMemory left left reads reads written written writes writes
scripted_none port p size left reads written writes =
    scripted port p size (text_of (opening_lines p size)) NoMemory left left reads reads written written writes writes refl
    (run_none script_texts (not_written port p size) (text_of (opening_lines p size)) left reads written writes)

answers_as : (some same : List Sighting → Bool) → ((xs : List Sighting) → some xs ≡ same xs) → (ending : Ending) (l : List ℕ) → AnswersContent some ending l → AnswersContent same ending l
answers_as some same g (Done told) l h packets end c = let k = h packets end c in (k.0, k.1 ∙ g (sightings packets))
answers_as some same g (BadCapture n kind) l h packets end c = h packets end c
answers_as some same g ReadFault l h packets end c = tt
answers_as some same g WriteFault l h packets end c = tt
answers_as some same g NoMemory l h packets end c = tt

-- what the bytes decide
pub scripted_exact : (port p size : ℕ) (ending : Ending) (left : Option (List ℕ)) → IfTold left (λ content. AnswersContent (tells script_texts (not_written port p size)) ending content)
    → IfTold left (λ content. AnswersContent (has_datagram port) ending content)
scripted_exact port p size ending None h = tt
scripted_exact port p size ending (Some l) h =
    answers_as (tells script_texts (not_written port p size)) (has_datagram port) (λ xs. told_is (not_written port p size) xs) ending l h
