-- What one line adds to the notes.
use Rattle.std.proofs.Common.{◌≡◌, ◌⊎◌, inl, inr, ℕ, ◌+◌, ◌≤◌, Bool, true, false, List, [], ◌∷◌, ◌++◌, map, refl, sym, ap, subst, ◌∙◌, arith}
use Rattle.std.specs.Prelude.{Result, Ok, Err, if◌then◌else◌}
use Rattle.std.proofs.lemmas.Bool.{cases_eq, eq-eqb, ne_eqb}
use Rattle.std.proofs.lemmas.List.{map-append}
use Rattle.hex.specs.declared.error.FromHexError.{FromHexError}
use Rattle.hex.specs.Hex.{decode_of, encode_lower}
use Rattle.gvsp_std.specs.declared.std_error.StdError.{StdError}
use Rattle.gvsp_std.specs.Widening.{widened}
use Rattle.gev_script.specs.Lines as line
use Rattle.gev_script.specs.Lines.{ScriptLine}
use Rattle.board_machine.specs.Machine.{Board, Item, empty_board}
use Rattle.board_machine.specs.Histories.{Run}
use Rattle.board_machine.proofs.Runs.{runs-append}
use Rattle.board_calls.specs.Dropped.{dropped_items}
use Rattle.acquisition_machine.specs.declared.config.AcqConfig.{AcqConfig}
use Rattle.acquisition_machine.specs.declared.counts.Counts.{Counts}
use Rattle.acquisition_machine.specs.Machine.{Input, restart}
use Rattle.acquisition_machine.specs.Runs.{After}
use Rattle.acquisition_machine.specs.Laws.{HasNoRestart}
use Rattle.script_trace.specs.Notes.{Note, idle, unwidened}
use Rattle.script_trace.specs.Inputs.{notes_from}
use Rattle.script_trace.specs.Counted.{counted, is_opening, is_ending, endings, times_so}
use Rattle.script_trace.specs.Spans.{spans}
use Rattle.script_trace.specs.Trace.{Trace, Part, grown, board}
use Rattle.script_trace.specs.Modes.{acquires}
use Rattle.script_trace.specs.Wide.{Wide, Meaning, itself, wider, none, is_standard, standard_meaning, meaning_decoded, meaning, meaning_widened, DoesAs}
use Rattle.script_trace.specs.Adding.{AddsPart}
use Rattle.script_trace.proofs.BlockFills.{IsByOther}
use Rattle.script_trace.specs.Drops.{drops_in}
use Rattle.script_trace.specs.LineNotes.{datagram_length, idle_notes, part_notes, refused_notes, refused_decoded, refused_with, inputs_as, notes_as}
use Rattle.script_trace.specs.NoteLaws.{is_idle, is_unwidened, told_fills, told_drops, drop_told}
use Rattle.script_trace.proofs.Shapes.{IsShaped, line_shaped}
use Rattle.script_trace.proofs.Filled.{Agrees, Fills, line_fills, nothing_fills}
use Rattle.script_trace.proofs.Yields.{dropped_in}
use Rattle.script_trace.proofs.Taken.{all_taken}
use Rattle.script_trace.proofs.Listed.{drops_are_told}

-- notes in front of those of inputs: they count nothing of the acquisition
pub record IsFront (xs : List Note) (still more : ℕ) : Type 0 where
  pub counts : (n : Counts) → counted xs n ≡ n
  pub idle : times_so is_idle xs ≡ still
  pub refused : times_so is_unwidened xs ≡ more
  pub opens : times_so is_opening xs ≡ 0
  pub ends : times_so is_ending xs ≡ 0
  pub spans : spans xs ≡ []
  pub endings : endings xs ≡ []
  pub fills : told_fills xs ≡ []
  pub drops : told_drops xs ≡ []

-- What a line adds.
pub record Adds (c : AcqConfig) (w v : Wide) (t after : Trace) (notes : List Note) (inputs : List Input) : Type 0 where
  pub front : List Note
  pub words : Board
  pub dropped : List (List Item)
  pub still : ℕ
  pub more : ℕ
  pub is_front : IsFront front still more
  pub are : notes ≡ front ++ notes_from c words dropped (After c t.inputs) inputs
  pub inputs_are : after.inputs ≡ t.inputs ++ inputs
  pub shape : HasNoRestart inputs ⊎ (inputs ≡ restart ∷ [])
  pub idle : after.idle ≡ t.idle + still
  pub refused : v.refused ≡ w.refused + more
  pub fills : Agrees c t → Fills c t after words inputs
  pub runs : Run t.entries → Run after.entries
  pub drops : Run t.entries
      → map drop_told (dropped_items acquires after.entries)
      ≡ map drop_told (dropped_items acquires t.entries) ++ told_drops (notes_from c words dropped (After c t.inputs) inputs)

one_idle : (l : ScriptLine) (count : ℕ) → count ≤ 1 → IsFront (idle_notes l count) count 0
one_idle l count few = go (cases_eq count 0) where
  nothing : (k : ℕ) → 0 ≡ k → IsFront [] k 0
  nothing k e = record { counts = λ n. refl; idle = e; refused = refl; opens = refl; ends = refl; spans = refl; endings = refl; fills = refl; drops = refl }

  something : (k : ℕ) → 1 ≡ k → IsFront (idle (datagram_length l) ∷ []) k 0
  something k e = record { counts = λ n. refl; idle = omega (arith, e); refused = omega arith; opens = omega arith; ends = omega arith; spans = refl; endings = refl; fills = refl; drops = refl }

  go : (count ≡ 0) ⊎ (count ≡ 0 → ⊥) → IsFront (idle_notes l count) count 0
  go (inl zero_is) =
      subst (λ (v : Bool). IsFront (if v then [] else idle (datagram_length l) ∷ []) count 0) (sym (eq-eqb count 0 zero_is)) (nothing count (sym zero_is))
  go (inr other) =
      subst (λ (v : Bool). IsFront (if v then [] else idle (datagram_length l) ∷ []) count 0) (sym (ne_eqb count 0 other)) (something count (omega arith))

part_runs : (c : AcqConfig) (t : Trace) (l : ScriptLine) (part : Part) → AddsPart c t l part → Run t.entries → Run (t.entries ++ part.entries)
part_runs c t l part adds run = runs-append empty_board t.entries part.entries run adds.runs

part_drops : (c : AcqConfig) (t : Trace) (l : ScriptLine) (part : Part) → AddsPart c t l part → IsShaped c t part → Run t.entries
    → map drop_told (dropped_items acquires (t.entries ++ part.entries))
    ≡ map drop_told (dropped_items acquires t.entries) ++ told_drops (notes_from c (board t) (drops_in t part) (After c t.inputs) part.inputs)
part_drops c t l part adds shape run =
    let before : List Item = dropped_items acquires t.entries in
    let more : List Item = dropped_in t.entries part.entries in
    ap (map drop_told) (all_taken t.entries part.entries (part_runs c t l part adds run))
    ∙ (map-append drop_told before more ∙ ap (λ l. map drop_told before ++ l) (sym (drops_are_told c t part (board t) shape.listed)))

-- a part that a line spells
part_adds : (c : AcqConfig) (w v : Wide) (t after : Trace) (l : ScriptLine) (part : Part) → after ≡ grown t part → v.refused ≡ w.refused → IsByOther l → AddsPart c t l part
    → Adds c w v t after (part_notes c t l part) part.inputs
part_adds c w v t after l part is same other adds =
    let shape : IsShaped c t part = line_shaped c t l part other adds.spells in
    record {
      front = idle_notes l part.idle;
      words = board t;
      dropped = drops_in t part;
      still = part.idle;
      more = 0;
      is_front = one_idle l part.idle shape.idle;
      are = refl;
      inputs_are = ap (λ (u : Trace). u.inputs) is;
      shape = shape.inputs;
      idle = ap (λ (u : Trace). u.idle) is;
      refused = omega (arith, same);
      fills = λ before. subst (λ (u : Trace). Fills c t u (board t) part.inputs) (sym is) (line_fills c t l part other adds shape before);
      runs = λ run. subst (λ (u : Trace). Run u.entries) (sym is) (part_runs c t l part adds run);
      drops = λ run. ap (λ (u : Trace). map drop_told (dropped_items acquires u.entries)) is ∙ part_drops c t l part adds shape run;
    }

-- ---- a datagram that is refused

pub record IsRefused (xs : List Note) : Type 0 where
  pub error : StdError
  pub is : xs ≡ unwidened error ∷ []

refused_widened : (r : Result (ℕ × List ℕ) StdError) → meaning_widened r ≡ none → IsRefused (refused_with r)
refused_widened (Ok x) e = absurd cc
refused_widened (Err error) e = record { error = error; is = refl }

refused_bytes : (w : Wide) (bytes : List ℕ) (standard : Bool) → (if standard then standard_meaning w.top bytes else itself) ≡ none → IsRefused (refused_with (widened w.top bytes))
unfolding standard_meaning
refused_bytes w bytes true e = refused_widened (widened w.top bytes) e
refused_bytes w bytes false e = absurd cc

refused_read : (w : Wide) (t : Trace) (r : Result (List ℕ) FromHexError) → meaning_decoded w t r ≡ none → IsRefused (refused_decoded w.top r)
refused_read w t (Ok bytes) e = refused_bytes w bytes (is_standard w t bytes) e
refused_read w t (Err error) e = absurd cc

pub refused_line : (w : Wide) (t : Trace) (l : ScriptLine) → meaning w t l ≡ none → IsRefused (refused_notes w l)
unfolding meaning
refused_line w t (line.datagram digits) e = refused_read w t (decode_of digits) e
refused_line w t _ e = absurd cc

front_refused : (xs : List Note) → IsRefused xs → IsFront xs 0 1
front_refused xs r =
    subst (λ l. IsFront l 0 1) (sym r.is)
    (record { counts = λ n. refl; idle = omega arith; refused = omega arith; opens = omega arith; ends = omega arith; spans = refl; endings = refl; fills = refl; drops = refl })

append_nil : {X : Type 0} (xs : List X) → xs ++ [] ≡ xs
append_nil [] = refl
append_nil (x ∷ xs) = ap (λ l. x ∷ l) (append_nil xs)

-- ---- a line

pub line_adds : (c : AcqConfig) (w : Wide) (t : Trace) (l : ScriptLine) (m : Meaning) (report : List ℕ) (v : Wide) (after : Trace) → IsByOther l → meaning w t l ≡ m → (d : DoesAs c w t l m report v after)
    → Adds c w v t after (notes_as c w t l m report v after d) (inputs_as c w t l m report v after d)
line_adds c w t l itself report v after other means d = part_adds c w v t after l d.0.part d.0.is (ap (λ (u : Wide). u.refused) d.1) other d.0.adds
line_adds c w t l (wider block bytes) report v after other means d =
    part_adds c w v t after (line.datagram (encode_lower bytes)) d.0.part d.0.is (ap (λ (u : Wide). u.refused) d.1) tt d.0.adds
line_adds c w t l none report v after other means d = record {
  front = refused_notes w l;
  words = board t;
  dropped = [];
  still = 0;
  more = 1;
  is_front = front_refused (refused_notes w l) (refused_line w t l means);
  are = sym (append_nil (refused_notes w l));
  inputs_are = ap (λ (u : Trace). u.inputs) d.1 ∙ sym (append_nil t.inputs);
  shape = inl tt;
  idle = omega (arith, ap (λ (u : Trace). u.idle) d.1);
  refused = ap (λ (u : Wide). u.refused) d.2;
  fills = nothing_fills c t after d.1;
  runs = λ run. subst (λ (u : Trace). Run u.entries) (sym d.1) run;
  drops = λ run.
      ap (λ (u : Trace). map drop_told (dropped_items acquires u.entries)) d.1 ∙ sym (append_nil (map drop_told (dropped_items acquires t.entries)));
}
