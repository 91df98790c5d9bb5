-- What lines mean.
use Rattle.std.proofs.Common.{◌≡◌, ℕ, true, false, List, refl, sym, ◌∙◌, Result, Ok, Err, inl, inr}
use Rattle.std.proofs.lemmas.Bool.{cond-false, cases_Bool, and_parts, eqb-true}
use Rattle.hex.specs.declared.error.FromHexError.{FromHexError}
use Rattle.hex.specs.Hex.{decode_of}
use Rattle.gev_script.specs.Lines as line
use Rattle.gev_script.specs.Lines.{ScriptLine}
use Rattle.acquisition_machine.specs.declared.config.AcqConfig.{AcqConfig}
use Rattle.script_trace.specs.Trace.{Trace}
use Rattle.script_trace.specs.Wide.{Wide, nothing_wide, is_standard, itself, wider, standard_meaning, meaning_of_bytes, meaning_decoded, meaning, said_by}

-- before a datagram was widened the report is the trace's
pub said_plain : (c : AcqConfig) (t : Trace) (l : ScriptLine) (text : List ℕ) → said_by c t l false text ≡ text
said_plain c t (line.tick moment) text = refl
said_plain c t _ text = refl

-- ---- version 1

decoded_itself : (t : Trace) (r : Result (List ℕ) FromHexError) → meaning_decoded (nothing_wide 1) t r ≡ itself
decoded_itself t (Ok bytes) = refl
decoded_itself t (Err e) = refl

pub plain_meaning : (t : Trace) (l : ScriptLine) → meaning (nothing_wide 1) t l ≡ itself
unfolding meaning
plain_meaning t (line.datagram digits) = decoded_itself t (decode_of digits)
plain_meaning t _ = refl

-- ---- a datagram is widened in version 2 alone

standard_version : (w : Wide) (t : Trace) (bytes : List ℕ) → is_standard w t bytes ≡ true → w.version ≡ 2
standard_version w t bytes h = eqb-true w.version 2 (and_parts _ _ (and_parts _ _ (and_parts _ _ (and_parts _ _ h).0).0).0).0

bytes_version : (w : Wide) (t : Trace) (bytes : List ℕ) (block : ℕ) (wide : List ℕ) → meaning_of_bytes w t bytes ≡ wider block wide → w.version ≡ 2
bytes_version w t bytes block wide h =
    elim (cases_Bool (is_standard w t bytes)) [
      | inl so ↦ standard_version w t bytes so
      | inr other ↦ absurd (let e : itself ≡ wider block wide = sym (cond-false (is_standard w t bytes) (standard_meaning w.top bytes) itself other) ∙ h in cc)
    ]

decoded_version : (w : Wide) (t : Trace) (r : Result (List ℕ) FromHexError) (block : ℕ) (wide : List ℕ) → meaning_decoded w t r ≡ wider block wide → w.version ≡ 2
decoded_version w t (Ok bytes) block wide h = bytes_version w t bytes block wide h
decoded_version w t (Err e) block wide h = absurd (let f : itself ≡ wider block wide = h in cc)

pub wider_version : (w : Wide) (t : Trace) (l : ScriptLine) (block : ℕ) (wide : List ℕ) → meaning w t l ≡ wider block wide → w.version ≡ 2
unfolding meaning
wider_version w t (line.datagram digits) block wide h = decoded_version w t (decode_of digits) block wide h
wider_version w t _ block wide h = absurd (let f : itself ≡ wider block wide = h in cc)
