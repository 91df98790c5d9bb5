-- A line that was run moves the receiver; two moves make one.
use Rattle.std.proofs.Common.{◌≡◌, ℕ, List, [], ◌∷◌, ◌++◌, refl, sym, ap, subst, ◌∙◌}
use Rattle.gev_script.specs.Lines.{ScriptLine}
use Rattle.board_machine.specs.Machine.{Board}
use Rattle.acquisition_machine.specs.declared.config.AcqConfig.{AcqConfig}
use Rattle.acquisition_machine.specs.Machine.{State}
use Rattle.acquisition_machine.specs.Runs.{After}
use Rattle.script_trace.specs.Trace.{Trace, Part, board, grown}
use Rattle.script_trace.specs.Adding.{AddsPart, Leads}
use Rattle.script_replay.specs.declared.running.Running.{Running}
use Rattle.script_replay.specs.Replays.{StandsAt, Goes}
use Rattle.world_laws.specs.Receiver.{Receiver, soak_config, start}
use Rattle.soak_receiver.specs.Moves.{IsOpen, IsHosting, IsLeft, MovesAt, Moves}

-- the receiver with what the trace leaves
abbrev pub left_at : Trace → Receiver → Receiver
left_at t r = record r { acquisition = After soak_config t.inputs; board = board t }

is_left : (t : Trace) (r : Receiver) → IsLeft t r → left_at t r ≡ r
is_left t r left =
    ap (λ (s : State). record r { acquisition = s; board = board t }) (sym left.acquisition)
    ∙ ap (λ (b : Board). record r { board = b }) (sym left.board)

-- The line was run, and the receiver with what a trace leaves changes so.
pub moves_by : (l : ScriptLine) (change : Receiver → Receiver) (old new : Running) (said : List ℕ) → IsHosting old → Goes l old said new
    → ((t : Trace) (part : Part) (r : Receiver) → StandsAt old t → AddsPart soak_config t l part → StandsAt new (grown t part) → IsLeft (grown t part) (change (left_at t r)))
    → Moves (l ∷ []) change old new
moves_by l change old new said hosting goes changes t stands =
    let one = goes.adds t stands in
    let adds : AddsPart soak_config t l one.part = subst (λ (c : AcqConfig). AddsPart c t l one.part) hosting.config one.adds in
    record {
      trace = grown t one.part;
      leads = (one.part, adds, refl);
      stands = one.stands;
      left = λ r left. subst (λ (s : Receiver). IsLeft (grown t one.part) (change s)) (is_left t r left) (changes t one.part r stands adds one.stands);
    }

-- ---- an open stream

-- the change leaves an open stream open
abbrev pub StaysOpen : (Receiver → Receiver) → Type 0
StaysOpen change = (r : Receiver) → IsOpen r.board → IsOpen (change r).board

open_after : (lines : List ScriptLine) (change : Receiver → Receiver) (old new : Running) → IsHosting old → Moves lines change old new → StaysOpen change → IsOpen new.board.board
open_after lines change old new hosting moves stays =
    let t : Trace = hosting.keeps.trace in
    let moved : MovesAt lines change new t = moves t hosting.keeps.stands in
    let left : IsLeft moved.trace (change (left_at t start)) = moved.left (left_at t start) (record { acquisition = refl; board = refl }) in
    let was : IsOpen (board t) = subst IsOpen hosting.keeps.stands.behind.board.board.state hosting.opened in
    subst IsOpen (left.board ∙ sym moved.stands.behind.board.board.state) (stays (left_at t start) was)

pub hosting_by : (l : ScriptLine) (lines : List ScriptLine) (change : Receiver → Receiver) (old new : Running) (said : List ℕ) → IsHosting old → Goes l old said new → new.tree ≡ old.tree → new.mode ≡ old.mode
    → Moves lines change old new → StaysOpen change → IsHosting new
hosting_by l lines change old new said hosting goes same same_mode moves stays = record {
  keeps = goes.keeps;
  config = goes.config ∙ hosting.config;
  handles = same ∙ hosting.handles;
  oldest_first = same_mode ∙ hosting.oldest_first;
  opened = open_after lines change old new hosting moves stays;
}

-- ---- moves together

pub leads_both : (c : AcqConfig) (t : Trace) (lines : List ScriptLine) (mid : Trace) (more : List ScriptLine) (new : Trace) → Leads c t lines mid → Leads c mid more new → Leads c t (lines ++ more) new
leads_both c t [] mid more new is rest = subst (λ (u : Trace). Leads c u more new) is rest
leads_both c t (l ∷ lines) mid more new (part, adds, first) rest = (part, adds, leads_both c (grown t part) lines mid more new first rest)

-- the second change follows the first, or does the same to acquisition and board
pub moves_both : (lines more : List ScriptLine) (f g change : Receiver → Receiver) (old mid new : Running) → Moves lines f old mid → Moves more g mid new
    → ((r : Receiver) → (change r).acquisition ≡ (g (f r)).acquisition) → ((r : Receiver) → (change r).board ≡ (g (f r)).board) → Moves (lines ++ more) change old new
moves_both lines more f g change old mid new first second acquisitions boards t stands =
    let one : MovesAt lines f mid t = first t stands in
    let two : MovesAt more g new one.trace = second one.trace one.stands in
    record {
      trace = two.trace;
      leads = leads_both soak_config t lines one.trace more two.trace one.leads two.leads;
      stands = two.stands;
      left = λ r left.
          let after : IsLeft two.trace (g (f r)) = two.left (f r) (one.left r left) in
          record { acquisition = acquisitions r ∙ after.acquisition; board = boards r ∙ after.board };
    }
