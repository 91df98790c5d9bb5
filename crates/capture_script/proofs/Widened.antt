-- A line `d` of a captured script, and its takes, as a step: with extended identifiers it is told as it is, with standard
-- ones widened, and one that names no block isn't told.
use Rattle.std.proofs.Common.{◌≡◌, ℕ, ◌+◌, max, List, [], ◌∷◌, Bool, true, false, if◌then◌else◌, refl, sym, ap, subst, ◌∙◌, append-nil}
use Rattle.std.specs.Prelude.{Result, Ok, Err}
use Rattle.hex.specs.Hex.{decode_of, encode_lower}
use Rattle.gev_script.specs.Lines as line
use Rattle.gvsp_std.specs.declared.std_error.StdError.{StdError}
use Rattle.gvsp_std.specs.Widening.{widened}
use Rattle.board_machine.specs.Machine.{Board}
use Rattle.script_trace.specs.Trace.{Trace, grown, board}
use Rattle.script_trace.specs.Wide.{Wide, Meaning, itself, wider, none, is_standard_at, standard_meaning, meaning_widened, meaning_of_bytes, meaning_decoded, meaning, said_by, DoesAs}
use Rattle.capture_script.specs.Playing.{config, Played, hears, is_standard, hears_widened, heard}
use Rattle.capture_script.specs.Script.{with_takes}
use Rattle.capture_script.proofs.Fitting.{AreSmall}
use Rattle.capture_script.proofs.Wideness.{SmallWide, taken, refused, small_wide}
use Rattle.capture_script.proofs.Walking.{plain_does, calm}
use Rattle.capture_script.proofs.Steps.{Stands, Steps}
use Rattle.capture_script.proofs.HeardLines.{is_bytes, hears_step}

-- ---- what the line means

meaning_decodes : (w : Wide) (t : Trace) (bytes : List ℕ) → decode_of (encode_lower bytes) ≡ Ok bytes → meaning w t (line.datagram (encode_lower bytes)) ≡ meaning_of_bytes w t bytes
unfolding meaning
meaning_decodes w t bytes e = ap (meaning_decoded w t) e

-- the header is told to be standard in the trace as in the script
standard_is : (pp ss : ℕ) (t : Trace) (w : Wide) (s : Played) (bytes : List ℕ) → Stands pp ss t w s
    → is_standard_at w.version (board t).run w.top bytes ≡ is_standard s.top bytes
standard_is pp ss t w s bytes stands =
    ap (λ v. is_standard_at v (board t).run w.top bytes) stands.version
    ∙ (ap (λ (b : Board). is_standard_at 2 b.run w.top bytes) stands.stage.is
    ∙ ap (λ n. is_standard_at 2 1 n bytes) stands.top)

abbrev meaning_by : Bool → ℕ → List ℕ → Meaning
meaning_by b top bytes = if b then standard_meaning top bytes else itself

means : (pp ss : ℕ) (t : Trace) (w : Wide) (s : Played) (bytes : List ℕ) → Stands pp ss t w s → AreSmall bytes
    → meaning w t (line.datagram (encode_lower bytes)) ≡ meaning_by (is_standard s.top bytes) s.top bytes
means pp ss t w s bytes stands small =
    meaning_decodes w t bytes (is_bytes bytes small)
    ∙ (ap (λ b. meaning_by b w.top bytes) (standard_is pp ss t w s bytes stands)
    ∙ ap (λ n. meaning_by (is_standard s.top bytes) n bytes) stands.top)

standard_means : (top : ℕ) (bytes : List ℕ) (r : Result (ℕ × List ℕ) StdError) → widened top bytes ≡ r → standard_meaning top bytes ≡ meaning_widened r
unfolding standard_meaning
standard_means top bytes r e = ap meaning_widened e

-- ---- the steps

-- it is told as it is
itself_step : (pp ss : ℕ) (t : Trace) (w : Wide) (s : Played) (bytes : List ℕ) → Stands pp ss t w s → AreSmall bytes → meaning w t (line.datagram (encode_lower bytes)) ≡ itself
    → Steps pp ss t w (with_takes (line.datagram (encode_lower bytes)) (hears pp ss bytes s)) (hears pp ss bytes s).after
itself_step pp ss t w s bytes stands small says =
    hears_step pp ss t w w s s bytes (encode_lower bytes) stands refl small
    (λ part adds. record { report = said_by (config pp) t (line.datagram (encode_lower bytes)) w.widened part.text; does = plain_does (config pp) w t (line.datagram (encode_lower bytes)) part says adds })
    stands.version stands.top

-- it isn't told
none_step : (pp ss : ℕ) (t : Trace) (w : Wide) (s : Played) (digits : List ℕ) → Stands pp ss t w s → meaning w t (line.datagram digits) ≡ none
    → Steps pp ss t w (line.datagram digits ∷ []) s
none_step pp ss t w s digits stands says =
    let v : Wide = record w { refused = w.refused + 1 } in
    record {
      to = t;
      wide = v;
      on = record {
        text = [];
        walks = (
          [],
          [],
          v,
          t,
          subst (λ m. DoesAs (config pp) w t (line.datagram digits) m [] v t) (sym says) (refl, refl, refl),
          (refl, sym (calm v t t refl), refl),
          refl,
        );
      };
      told = [];
      inputs = sym (append-nil t.inputs);
      got = tt;
      counted = refl;
      stands = record {
        pool = stands.pool;
        stage = stands.stage;
        full = stands.full;
        live = stands.live;
        version = stands.version;
        top = stands.top;
        alike = stands.alike;
      };
    }

-- It is told with extended identifiers.
wider_step : (pp ss : ℕ) (t : Trace) (w : Wide) (s : Played) (digits : List ℕ) (x : ℕ × List ℕ) → Stands pp ss t w s → AreSmall x.1
    → meaning w t (line.datagram digits) ≡ wider x.0 x.1
    → Steps pp ss t w (with_takes (line.datagram digits) (hears pp ss x.1 (record s { top = max s.top x.0 }))) (hears pp ss x.1 (record s { top = max s.top x.0 })).after
wider_step pp ss t w s digits x stands small says =
    let v : Wide = record w { top = max w.top x.0; widened = true } in
    hears_step pp ss t w v (record s { top = max s.top x.0 }) s x.1 digits stands refl small
    (λ part adds. record {
      report = said_by (config pp) t (line.datagram (encode_lower x.1)) w.widened part.text;
      does = subst (λ m. DoesAs (config pp) w t (line.datagram digits) m (said_by (config pp) t (line.datagram (encode_lower x.1)) w.widened part.text) v (grown t part)) (sym says)
          (record { part = part; adds = adds; said = refl; is = refl }, refl);
    })
    stands.version (ap (λ n. max n x.0) stands.top)

widened_step : (pp ss : ℕ) (t : Trace) (w : Wide) (s : Played) (bytes : List ℕ) (r : Result (ℕ × List ℕ) StdError) → Stands pp ss t w s → SmallWide r
    → meaning w t (line.datagram (encode_lower bytes)) ≡ meaning_widened r
    → Steps pp ss t w (with_takes (line.datagram (encode_lower bytes)) (hears_widened pp ss r s)) (hears_widened pp ss r s).after
widened_step pp ss t w s bytes (Ok x) stands (taken y small) says = wider_step pp ss t w s (encode_lower bytes) x stands small says
widened_step pp ss t w s bytes (Err e) stands (refused f) says = none_step pp ss t w s (encode_lower bytes) stands says

heard_by : (pp ss : ℕ) (t : Trace) (w : Wide) (s : Played) (bytes : List ℕ) (b : Bool) → Stands pp ss t w s → AreSmall bytes
    → meaning w t (line.datagram (encode_lower bytes)) ≡ meaning_by b s.top bytes
    → Steps pp ss t w (with_takes (line.datagram (encode_lower bytes)) (if b then hears_widened pp ss (widened s.top bytes) s else hears pp ss bytes s))
    (if b then hears_widened pp ss (widened s.top bytes) s else hears pp ss bytes s).after
heard_by pp ss t w s bytes true stands small says =
    widened_step pp ss t w s bytes (widened s.top bytes) stands (small_wide s.top bytes small) (says ∙ standard_means s.top bytes (widened s.top bytes) refl)
heard_by pp ss t w s bytes false stands small says = itself_step pp ss t w s bytes stands small says

pub datagram_step : (pp ss : ℕ) (t : Trace) (w : Wide) (s : Played) (bytes : List ℕ) → Stands pp ss t w s → AreSmall bytes
    → Steps pp ss t w (with_takes (line.datagram (encode_lower bytes)) (heard pp ss bytes s)) (heard pp ss bytes s).after
datagram_step pp ss t w s bytes stands small =
    heard_by pp ss t w s bytes (is_standard s.top bytes) stands small (means pp ss t w s bytes stands small)
