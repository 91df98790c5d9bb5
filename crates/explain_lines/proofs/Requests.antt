-- Requests are written and told, first in first.
use Rattle.std.proofs.Common.{◌≡◌, ℕ, Bool, List, [], ◌∷◌, ◌++◌, map, refl, sym, ap, ◌∙◌, append-nil, append_assoc}
use Rattle.gvcp_wire.specs.declared.resend.Resend.{Resend}
use Rattle.gev_report.specs.ReplayLines.{request_line}
use Rattle.acquisition_machine.specs.declared.config.AcqConfig.{AcqConfig}
use Rattle.acquisition_machine.specs.Blocks.{Open}
use Rattle.acquisition_machine.specs.Machine.{Input, Request, open_at}
use Rattle.acquisition_machine.specs.Runs.{After}
use Rattle.acq_core.specs.declared.asked.Asked.{Asked}
use Rattle.acq_core.specs.declared.window.Window.{Window}
use Rattle.acq_core.specs.Receiver.{config_of, rounds_of, Stands, KeepsBlocks}
use Rattle.acq_core.specs.Waiting.{asked_bytes, waiting_fills, waiting_requests, waiting_resends}
use Rattle.script_trace.specs.Notes.{asks}
use Rattle.note_tape.specs.declared.told.Told.{Told}
use Rattle.note_tape.specs.Tells.{Tells}
use Rattle.note_tape.specs.Rounds.{asked_notes}
use Rattle.script_replay.proofs.Retiring.{keeps_twice, keeps_itself}
use Rattle.explain_lines.specs.Asking.{form_of, lines_by, resend_notes}
use Rattle.explain_lines.proofs.Tapes.{tells_none, tells_both, tells_as}

-- What is still to be written and told, behind what was.
pub record AsksOn (standard : Bool) (start out : List ℕ) (tape now : List Told) (m n : Window) : Type 0 where
  pub lines : out ++ lines_by standard (waiting_requests n) ≡ start ++ lines_by standard (waiting_requests m)
  pub fills : waiting_fills n ≡ waiting_fills m
  pub rest : KeepsBlocks m n
  pub goes_on : (q : List Input) → Stands m q → (end : List Told) → Tells now end (resend_notes (After (config_of m) q).opens (waiting_resends n))
      → Tells tape end (resend_notes (After (config_of m) q).opens (waiting_resends m))

pub asks_begin : (standard : Bool) (out : List ℕ) (tape : List Told) (m : Window) → AsksOn standard out out tape tape m m
asks_begin standard out tape m = record { lines = refl; fills = refl; rest = keeps_itself m; goes_on = λ q stands end tells. tells }

no_asked : (xs : List Asked) → map (λ (a : Asked). a.resend) xs ≡ [] → map asked_bytes xs ≡ []
no_asked [] e = refl
no_asked (x ∷ xs) e = absurd cc

-- nothing is asked for where no request waits
pub no_request_left : (m : Window) → waiting_resends m ≡ [] → waiting_requests m ≡ []
no_request_left m none = no_asked m.requests.items none

none_told : (xs : List Asked) → map asked_bytes xs ≡ [] → map (λ (a : Asked). a.resend) xs ≡ []
none_told [] e = refl
none_told (x ∷ xs) e = absurd cc

-- and the other way round
pub no_resend_left : (m : Window) → waiting_requests m ≡ [] → waiting_resends m ≡ []
no_resend_left m none = none_told m.requests.items none

some_resend : (r : Resend) (rs : List Resend) → r ∷ rs ≡ [] → ⊥
some_resend r rs e = cc

-- a request that was seen and isn't there
pub no_request_there : {X : Type 0} (m : Window) (r : Resend) (rs : List Resend) → waiting_resends m ≡ r ∷ rs → waiting_requests m ≡ [] → X
no_request_there m r rs some none = absurd (some_resend r rs (sym some ∙ no_resend_left m none))

same_resend : (x y : Resend) (xs ys : List Resend) → x ∷ xs ≡ y ∷ ys → x ≡ y
same_resend x y xs ys e = cc

pub asks_more : (standard : Bool) (start out next : List ℕ) (tape now told : List Told) (m n after : Window) (r s : Resend) (rs : List Resend) (round : ℕ) (command : List ℕ) → AsksOn standard start out tape now m n
    → waiting_resends n ≡ r ∷ rs → ((q : List Input) → Stands n q → round ≡ rounds_of (open_at r.block (After (config_of n) q).opens))
    → waiting_requests n ≡ command ∷ waiting_requests after → waiting_resends n ≡ s ∷ waiting_resends after → waiting_fills after ≡ waiting_fills n → KeepsBlocks n after
    → Tells now told (asks r.block (r.first, r.last) round ∷ []) → next ≡ out ++ request_line (form_of standard command)
    → AsksOn standard start next tape told m after
asks_more standard start out next tape now told m n after r s rs round command on first rounds request resend fills rest asked written = record {
  lines =
      ap (λ l. l ++ lines_by standard (waiting_requests after)) written
      ∙ append_assoc out (request_line (form_of standard command)) (lines_by standard (waiting_requests after))
      ∙ ap (λ l. out ++ lines_by standard l) (sym request)
      ∙ on.lines;
  fills = fills ∙ on.fills;
  rest = keeps_twice m n after on.rest rest;
  goes_on = λ q stands end tells. on.goes_on q stands end
      (tells_as now end (asks r.block (r.first, r.last) round ∷ resend_notes (After (config_of m) q).opens (waiting_resends after)) (resend_notes (After (config_of m) q).opens (waiting_resends n))
      (notes q stands)
      (tells_both now told end (asks r.block (r.first, r.last) round ∷ []) (resend_notes (After (config_of m) q).opens (waiting_resends after)) asked tells));
}
  where
    notes : (q : List Input) → Stands m q → asks r.block (r.first, r.last) round ∷ resend_notes (After (config_of m) q).opens (waiting_resends after) ≡ resend_notes (After (config_of m) q).opens (waiting_resends n)
    notes q stands =
        ap (λ k. asks r.block (r.first, r.last) k ∷ resend_notes (After (config_of m) q).opens (waiting_resends after))
        (rounds q (on.rest.stands q stands) ∙ ap (λ (c : AcqConfig). rounds_of (open_at r.block (After c q).opens)) on.rest.config)
        ∙ ap (λ (x : Resend). asks x.block (x.first, x.last) (rounds_of (open_at x.block (After (config_of m) q).opens)) ∷ resend_notes (After (config_of m) q).opens (waiting_resends after))
        (same_resend r s rs (waiting_resends after) (sym first ∙ resend))
        ∙ ap (resend_notes (After (config_of m) q).opens) (sym resend)

pub asks_done : (standard : Bool) (start out : List ℕ) (tape now : List Told) (m n : Window) → AsksOn standard start out tape now m n → waiting_resends n ≡ []
    → (out ≡ start ++ lines_by standard (waiting_requests m))
    × ((q : List Input) → Stands m q → Tells tape now (resend_notes (After (config_of m) q).opens (waiting_resends m)))
asks_done standard start out tape now m n on none = (
  sym (append-nil out) ∙ ap (λ l. out ++ lines_by standard l) (sym (no_request_left n none)) ∙ on.lines,
  λ q stands. on.goes_on q stands now (tells_as now now [] (resend_notes (After (config_of m) q).opens (waiting_resends n)) (ap (resend_notes (After (config_of m) q).opens) (sym none)) (tells_none now)),
)

-- the notes of requests are those of what they ask for
pub notes_asked : (opens : List Open) (rs : List Request) → resend_notes opens (map (λ r. r.resend) rs) ≡ asked_notes opens rs
notes_asked opens [] = refl
notes_asked opens (r ∷ rs) = ap (λ ns. asks r.resend.block (r.resend.first, r.resend.last) (rounds_of (open_at r.resend.block opens)) ∷ ns) (notes_asked opens rs)
