-- From the first line on whose datagram is widened the requests have the standard form.
use Rattle.std.proofs.Common.{◌≡◌, ℕ, zero, ◌+◌, Bool, true, false, List, [], ◌∷◌, ◌++◌, length, refl, sym, ap, subst, ◌∙◌, append_assoc, append-nil, arith}
use Rattle.std.proofs.lemmas.List.{length-append}
use Rattle.hex.specs.Hex.{encode_lower}
use Rattle.gev_script.specs.Lines as line
use Rattle.gev_script.specs.Lines.{ScriptLine}
use Rattle.script_runs.specs.declared.ran.Ran.TheVariants.{GoesOn}
use Rattle.script_runs.specs.Runs.{RunsLines}
use Rattle.acquisition_machine.specs.declared.config.AcqConfig.{AcqConfig}
use Rattle.acquisition_machine.specs.Machine.{Request}
use Rattle.acquisition_machine.specs.Runs.{first_state, requests_from}
use Rattle.script_trace.specs.Trace.{Trace, Part, grown}
use Rattle.script_trace.specs.Opening.{opening}
use Rattle.script_trace.specs.Wide.{Wide, nothing_wide, Meaning, itself, wider, none, meaning, said_by, DoesAs, kept_behind}
use Rattle.script_trace.specs.Standing.{Standing, first, running, config_of, ReplayRuns, RunsLater}
use Rattle.script_trace.specs.Laws.{Piece, piece_printed, pieces_printed, asked_by_piece, asked_by_pieces, HasSaid, IsWidened, ChangesAt, RunsKeepPromises}
use Rattle.script_trace.proofs.Reported.{IsPiece, HasPiece, line_piece, printed_more, asked_more, requests_more}
use Rattle.script_trace.proofs.Scripts.{so_far, last, said}

-- ---- behind a line

-- what was added behind a trace and its report, with all requests in the standard form
record Behind (c : AcqConfig) (mid : Trace) (before text : List ℕ) (t : Trace) : Type 0 where
  pieces : List Piece
  trace : t.text ≡ mid.text ++ pieces_printed false pieces
  report : text ≡ before ++ pieces_printed true pieces
  asked : requests_from c first_state mid.inputs ++ asked_by_pieces pieces ≡ requests_from c first_state t.inputs

none_behind : (c : AcqConfig) (mid : Trace) (before : List ℕ) → Behind c mid before before mid
none_behind c mid before = record {
  pieces = [];
  trace = sym (append-nil mid.text);
  report = sym (append-nil before);
  asked = append-nil (requests_from c first_state mid.inputs);
}

piece_behind : (c : AcqConfig) (mid : Trace) (before text report : List ℕ) (t : Trace) (l : ScriptLine) (part : Part) (p : Piece) → IsPiece c t l part p
    → report ≡ piece_printed true p → Behind c mid before text t → Behind c mid before (text ++ report) (grown t part)
piece_behind c mid before text report t l part p is printed b =
    let earlier : List Request = requests_from c first_state mid.inputs in
    record {
      pieces = b.pieces ++ p ∷ [];
      trace = ap (λ u. u ++ part.text) b.trace
          ∙ (append_assoc mid.text (pieces_printed false b.pieces) part.text
          ∙ ap (λ u. mid.text ++ u) (ap (λ u. pieces_printed false b.pieces ++ u) is.plain ∙ sym (printed_more false b.pieces p)));
      report = ap (λ u. u ++ report) b.report
          ∙ (append_assoc before (pieces_printed true b.pieces) report
          ∙ ap (λ u. before ++ u) (ap (λ u. pieces_printed true b.pieces ++ u) printed ∙ sym (printed_more true b.pieces p)));
      asked = ap (λ rs. earlier ++ rs) (asked_more b.pieces p)
          ∙ (sym (append_assoc earlier (asked_by_pieces b.pieces) (asked_by_piece p))
          ∙ requests_more c t l part p (earlier ++ asked_by_pieces b.pieces) is b.asked);
    }

after_behind : (c : AcqConfig) (mid : Trace) (before text : List ℕ) (t after : Trace) → after ≡ t → Behind c mid before text t → Behind c mid before text after
after_behind c mid before text t after is b = subst (Behind c mid before text) (sym is) b

-- the line of the datagram that is widened first, or of one behind it
wide_behind : (c : AcqConfig) (w : Wide) (mid : Trace) (before text report : List ℕ) (t : Trace) (l : ScriptLine) (block : ℕ) (bytes : List ℕ) (v : Wide) (after : Trace)
    → DoesAs c w t l (wider block bytes) report v after → Behind c mid before text t → Behind c mid before (text ++ report) after
wide_behind c w mid before text report t l block bytes v after (tells, kept) b =
    let digits : ScriptLine = line.datagram (encode_lower bytes) in
    let piece : HasPiece c t digits tells.part = line_piece c t digits tells.part tells.adds.spells in
    after_behind c mid before (text ++ report) (grown t tells.part) after tells.is
    (piece_behind c mid before text report t digits tells.part piece.0 piece.1 (tells.said ∙ piece.1.said true) b)

line_behind : (c : AcqConfig) (w : Wide) (mid : Trace) (before text report : List ℕ) (t : Trace) (l : ScriptLine) (m : Meaning) (v : Wide) (after : Trace)
    → DoesAs c w t l m report v after → w.widened ≡ true → Behind c mid before text t → Behind c mid before (text ++ report) after
line_behind c w mid before text report t l itself v after (tells, kept) wide b =
    let piece : HasPiece c t l tells.part = line_piece c t l tells.part tells.adds.spells in
    let printed : report ≡ piece_printed true piece.0 = tells.said ∙ (ap (λ (k : Bool). said_by c t l k tells.part.text) wide ∙ piece.1.said true) in
    after_behind c mid before (text ++ report) (grown t tells.part) after tells.is
    (piece_behind c mid before text report t l tells.part piece.0 piece.1 printed b)
line_behind c w mid before text report t l (wider block bytes) v after does wide b = wide_behind c w mid before text report t l block bytes v after does b
line_behind c w mid before text report t l none v after (silent, same, kept) wide b =
    after_behind c mid before (text ++ report) t after same
    (subst (λ u. Behind c mid before u t) (sym (ap (λ u. text ++ u) silent ∙ append-nil text)) b)

stays_wide : (c : AcqConfig) (w : Wide) (t : Trace) (l : ScriptLine) (m : Meaning) (report : List ℕ) (v : Wide) (after : Trace) → DoesAs c w t l m report v after
    → w.widened ≡ true → v.widened ≡ true
stays_wide c w t l itself report v after (tells, kept) wide = ap (λ (u : Wide). u.widened) kept ∙ wide
stays_wide c w t l (wider block bytes) report v after (tells, kept) wide = ap (λ (u : Wide). u.widened) kept
stays_wide c w t l none report v after (silent, same, kept) wide = ap (λ (u : Wide). u.widened) kept ∙ wide

-- ---- behind all lines

record BehindTo (c : AcqConfig) (mid : Trace) (before text : List ℕ) (new : Standing) : Type 0 where
  kept : Wide
  to : Trace
  stands : new ≡ running c kept to
  is : Behind c mid before text to

lines_behind : (c : AcqConfig) (w : Wide) (mid : Trace) (before : List ℕ) (t : Trace) (n : ℕ) (lines : List (List ℕ)) (earlier text : List ℕ) (new : Standing) → w.widened ≡ true
    → Behind c mid before earlier t → RunsLines ReplayRuns (running c w t) n lines text new → BehindTo c mid before (earlier ++ text) new
lines_behind c w mid before t n [] earlier text new wide b (silent, is) = record {
  kept = w;
  to = t;
  stands = is;
  is = subst (λ u. Behind c mid before u t) (sym (ap (λ u. earlier ++ u) silent ∙ append-nil earlier)) b;
}
lines_behind c w mid before t n (l ∷ lines) earlier text new wide b (now, front, rest, runs, more, parts) =
    let v : Wide = kept_behind runs.kept t runs.trace in
    let one = line_behind c w mid before earlier front t runs.says (meaning w t runs.says) runs.kept runs.trace runs.does wide b in
    let still : runs.kept.widened ≡ true = stays_wide c w t runs.says (meaning w t runs.says) front runs.kept runs.trace runs.does wide in
    let next : RunsLines ReplayRuns (running c v runs.trace) (n + 1) lines rest new = subst (λ m. RunsLines ReplayRuns m (n + 1) lines rest new) runs.after more in
    let later : BehindTo c mid before ((earlier ++ front) ++ rest) new = lines_behind c v mid before runs.trace (n + 1) lines (earlier ++ front) rest new still one next in
    subst (λ u. BehindTo c mid before u new) (append_assoc earlier front rest ∙ ap (λ u. earlier ++ u) (sym parts)) later

-- ---- the first line that is widened

-- it's so at the end of these lines, if one of them was widened
abbrev Changes : List (List ℕ) → List ℕ → Standing → Type 0
Changes lines text new = (c : AcqConfig) (w : Wide) (t : Trace) → new ≡ running c w t → w.widened ≡ true → ChangesAt lines text c t

changes_here : (c : AcqConfig) (kept : Wide) (mid : Trace) (before behind : List (List ℕ)) (line_text text said_so whole : List ℕ) (new : Standing)
    → RunsLines ReplayRuns first 0 before said_so (running c kept mid) → kept.widened ≡ false → IsWidened kept mid line_text → mid.text ≡ said_so
    → whole ≡ text → BehindTo c mid said_so whole new → Changes (before ++ line_text ∷ behind) text new
changes_here c kept mid before behind line_text text said_so whole new runs none_yet widens plain same b d w t is wide =
    let e : running d w t ≡ running c b.kept b.to = sym is ∙ b.stands in
    let config : c ≡ d = cc in
    let to : b.to ≡ t = cc in
    subst (λ (k : AcqConfig). ChangesAt (before ++ line_text ∷ behind) text k t) config
    (subst (ChangesAt (before ++ line_text ∷ behind) text c) to
    record {
      before = before;
      widens = line_text;
      behind = behind;
      are = refl;
      kept = kept;
      mid = mid;
      said = said_so;
      runs = runs;
      none_before = none_yet;
      widened = widens;
      plain = plain;
      pieces = b.is.pieces;
      trace = b.is.trace;
      report = sym same ∙ b.is.report;
      asked = b.is.asked;
    })

no_change : (c : AcqConfig) (w : Wide) (t : Trace) (lines : List (List ℕ)) (text : List ℕ) → w.widened ≡ false → Changes lines text (running c w t)
no_change c w t lines text none_yet d v u is wide = let same : v ≡ w = cc in absurd cc

-- one line more is run
pushed : (m mid new : Standing) (n k : ℕ) (lines : List (List ℕ)) (l text report : List ℕ) → RunsLines ReplayRuns m n lines text mid → k ≡ n + length lines
    → ReplayRuns mid (k + 1) l GoesOn report new → RunsLines ReplayRuns m n (lines ++ l ∷ []) (text ++ report) new
pushed m mid new n k [] l text report h e run =
    let same : k ≡ n = omega (arith, e) in
    let from_m : ReplayRuns m (k + 1) l GoesOn report new = subst (λ x. ReplayRuns x (k + 1) l GoesOn report new) h.1 run in
    (new, report, [], subst (λ i. ReplayRuns m (i + 1) l GoesOn report new) same from_m, (refl, refl), ap (λ t. t ++ report) h.0 ∙ sym (append-nil report))
pushed m mid new n k (earlier ∷ lines) l text report h e run =
    let later : k ≡ n + 1 + length lines = omega (arith, e) in (
      h.0,
      h.1,
      h.2 ++ report,
      h.3,
      pushed h.0 mid new (n + 1) k lines l h.2 report h.4 later run,
      ap (λ t. t ++ report) h.5 ∙ append_assoc h.1 h.2 report,
    )

find : (c : AcqConfig) (w : Wide) (t : Trace) (n : ℕ) (before lines : List (List ℕ)) (earlier text : List ℕ) (new : Standing) → w.widened ≡ false → n ≡ length before
    → RunsLines ReplayRuns first 0 before earlier (running c w t) → RunsLines ReplayRuns (running c w t) n lines text new → Changes (before ++ lines) (earlier ++ text) new
find c w t n before [] earlier text new none_yet counted ran (silent, is) =
    subst (Changes (before ++ []) (earlier ++ text)) (sym is) (no_change c w t (before ++ []) (earlier ++ text) none_yet)
find c w t n before (l ∷ lines) earlier text new none_yet counted ran (now, front, rest, runs, more, parts) =
    go (meaning w t runs.says) refl runs.does (λ still.
    subst (λ ls. Changes ls (earlier ++ text) new) (append_assoc before (l ∷ []) lines)
    (subst (λ u. Changes ((before ++ l ∷ []) ++ lines) u new) whole
    (find c v runs.trace (n + 1) (before ++ l ∷ []) lines (earlier ++ front) rest new still
    (omega (arith, counted, length-append before (l ∷ []))) ran_too next)))
  where
    v : Wide
    v = kept_behind runs.kept t runs.trace

    next : RunsLines ReplayRuns (running c v runs.trace) (n + 1) lines rest new
    next = subst (λ m. RunsLines ReplayRuns m (n + 1) lines rest new) runs.after more

    ran_too : RunsLines ReplayRuns first 0 (before ++ l ∷ []) (earlier ++ front) (running c v runs.trace)
    ran_too = subst (RunsLines ReplayRuns first 0 (before ++ l ∷ []) (earlier ++ front)) runs.after
        (pushed first (running c w t) now 0 n before l earlier front ran (omega (arith, counted)) runs)

    whole : (earlier ++ front) ++ rest ≡ earlier ++ text
    whole = append_assoc earlier front rest ∙ ap (λ u. earlier ++ u) (sym parts)

    plain : t.text ≡ earlier
    plain = (said before earlier (running c w t) ran).plain none_yet

    go : (m : Meaning) → meaning w t runs.says ≡ m → DoesAs c w t runs.says m front runs.kept runs.trace
        → (runs.kept.widened ≡ false → Changes (before ++ l ∷ lines) (earlier ++ text) new) → Changes (before ++ l ∷ lines) (earlier ++ text) new
    go itself means (tells, kept) on = on (ap (λ (u : Wide). u.widened) kept ∙ none_yet)
    go none means (silent, same, kept) on = on (ap (λ (u : Wide). u.widened) kept ∙ none_yet)
    go (wider block bytes) means (tells, kept) on =
        changes_here c w t before lines l (earlier ++ text) earlier ((earlier ++ front) ++ rest) new ran none_yet
        (record { says = runs.says; read = runs.read; block = block; bytes = bytes; means = means }) plain whole
        (lines_behind c v t earlier runs.trace (n + 1) lines (earlier ++ front) rest new (ap (λ (u : Wide). u.widened) kept)
        (wide_behind c w t earlier earlier front t runs.says block bytes runs.kept runs.trace (tells, kept) (none_behind c t earlier)) next)

changes_in : (lines : List (List ℕ)) (text : List ℕ) (new : Standing) → RunsLines ReplayRuns first 0 lines text new → Changes lines text new
changes_in [] text new (silent, is) = λ c w t e wide. absurd cc
changes_in (l ∷ lines) text new (now, front, rest, runs, more, parts) =
    let c : AcqConfig = config_of runs.config in
    let w : Wide = nothing_wide runs.config.version in
    let next : RunsLines ReplayRuns (running c w opening) 1 lines rest new = subst (λ m. RunsLines ReplayRuns m 1 lines rest new) runs.after more in
    let header : RunsLines ReplayRuns first 0 (l ∷ []) front (running c w opening) = (now, front, [], runs, (refl, sym runs.after), sym (append-nil front)) in
    subst (λ u. Changes (l ∷ lines) u new) (sym parts) (find c w opening 1 (l ∷ []) lines front rest new refl refl header next)

-- ---- the report

said_all : (lines : List (List ℕ)) (text : List ℕ) (new : Standing) → RunsLines ReplayRuns first 0 lines text new → HasSaid text new
said_all lines text first runs = said lines text first runs
said_all lines text (running c w t) runs =
    let r = said lines text (running c w t) runs in
    record {
      plain = r.plain;
      first_version = r.first_version;
      reports = r.reports;
      changes = λ wide. (lines, (runs, changes_in lines text (running c w t) runs c w t refl wide));
    }

pub runs_keep : RunsKeepPromises
runs_keep = record {
  so_far = so_far;
  last = last;
  said = said_all;
  changes = λ lines text c w t runs wide. changes_in lines text (running c w t) runs c w t refl wide;
}
