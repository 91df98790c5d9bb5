-- The text that lists streams is what their table writes.
use Rattle.std.proofs.Common.{◌≡◌, ℕ, List, [], ◌∷◌, ◌++◌, Option, refl, ap, ◌∙◌}
use Rattle.gev_capture.specs.Sightings.{Sighting}
use Rattle.capture_runs.specs.declared.ending.Ending.{Ending}
use Rattle.capture_runs.specs.declared.ending.Ending.TheVariants.{NoMemory}
use Rattle.capture_runs.specs.Texts.{said, state, whole, broken, tells}
use Rattle.capture_runs.specs.Ends.{RunEnds}
use Rattle.capture_runs.proofs.Walked.{ends_as, run_none}
use Rattle.capture_streams.specs.Streams.{TableState, empty_table, counted}
use Rattle.capture_streams.specs.Texts.{table_texts, table_from, stream_lines, end_line, listed_text, streams_text, always}

said_none : (t : TableState) (xs : List Sighting) → said table_texts t xs ≡ []
said_none t [] = refl
said_none t (x ∷ xs) = said_none (counted x t) xs

state_is : (t : TableState) (xs : List Sighting) → state table_texts t xs ≡ table_from t xs
state_is t [] = refl
state_is t (x ∷ xs) = state_is (counted x t) xs

whole_is : (out : List ℕ) (xs : List Sighting) → out ≡ [] → out ++ whole table_texts empty_table xs ≡ streams_text xs
whole_is out xs e =
    ap (λ (o : List ℕ). o ++ whole table_texts empty_table xs) e
    ∙ ap (λ (s : List ℕ). s ++ (stream_lines (state table_texts empty_table xs).streams ++ end_line (state table_texts empty_table xs))) (said_none empty_table xs)
    ∙ ap (λ (t : TableState). stream_lines t.streams ++ end_line t) (state_is empty_table xs)

broken_is : (out : List ℕ) (xs : List Sighting) → out ≡ [] → out ++ broken table_texts empty_table xs ≡ listed_text xs
broken_is out xs e =
    ap (λ (o : List ℕ). o ++ broken table_texts empty_table xs) e
    ∙ ap (λ (s : List ℕ). s ++ stream_lines (state table_texts empty_table xs).streams) (said_none empty_table xs)
    ∙ ap (λ (t : TableState). stream_lines t.streams) (state_is empty_table xs)

pub listed : (out : List ℕ) (ending : Ending) (left left_after : Option (List ℕ)) (reads reads_after : ℕ) (written written_after : Option (List ℕ)) (writes writes_after : ℕ) → out ≡ []
    → RunEnds (λ xs. out ++ whole table_texts empty_table xs) (λ xs. out ++ broken table_texts empty_table xs) (tells table_texts empty_table) ending left left_after reads reads_after written written_after writes writes_after
    → RunEnds streams_text listed_text always ending left left_after reads reads_after written written_after writes writes_after
listed out ending left left_after reads reads_after written written_after writes writes_after e h =
    ends_as (λ xs. out ++ whole table_texts empty_table xs) streams_text (λ xs. out ++ broken table_texts empty_table xs) listed_text (tells table_texts empty_table) always
    (λ xs. whole_is out xs e) (λ xs. broken_is out xs e) (λ xs. refl) ending left left_after reads reads_after written written_after writes writes_after h

pub listed_none : (left : Option (List ℕ)) (reads : ℕ) (written : Option (List ℕ)) (writes : ℕ) → RunEnds streams_text listed_text always NoMemory left left reads reads written written writes writes
listed_none left reads written writes =
    listed [] NoMemory left left reads reads written written writes writes refl (run_none table_texts empty_table [] left reads written writes)
