-- The line of a datagram: its digits, and whether the stream is running.
use Rattle.std.proofs.Common.{◌≡◌, ◌≢◌, ℕ, ◌==◌, Bool, true, false, List, [], Result, Ok, Err, refl, sym, ap, subst, ◌∙◌, append-nil, eq-eqb, ne_eqb}
use Rattle.std.specs.Prelude.{IsOk}
use Rattle.hex.specs.declared.error.FromHexError.{FromHexError}
use Rattle.hex.specs.Hex.{decode_of}
use Rattle.board_machine.specs.declared.events.Entry.{Entry}
use Rattle.board_machine.specs.Machine.{Board}
use Rattle.board_model.specs.Plain.{PlainState}
use Rattle.acquisition_machine.specs.declared.config.AcqConfig.{AcqConfig}
use Rattle.acquisition_machine.specs.Machine.{Input}
use Rattle.acq_core.specs.declared.window.Window.{Window}
use Rattle.acq_core.specs.Receiver.{Stands}
use Rattle.board_calls.specs.declared.mode.Mode.{Mode}
use Rattle.script_trace.specs.Trace.{Trace, Part, board}
use Rattle.script_trace.specs.StreamLines.{DatagramLine, HearsIfRunning, idles}
use Rattle.script_replay.specs.declared.fill_counts.FillCounts.{FillCounts}
use Rattle.script_replay.specs.Boards.{IsLeftBy}
use Rattle.script_replay.specs.Acquiring.{DrivesAt, Drives}
use Rattle.script_replay.proofs.Claiming.{HearsIn}

-- where the trace is in this mode
abbrev pub DatagramIn : AcqConfig → Mode → List ℕ → Trace → Part → Type 0
DatagramIn c mode digits t part = t.mode ≡ mode → DatagramLine c t digits part

pub ok_value : (r : Result (List ℕ) FromHexError) → IsOk r → (bytes : List ℕ) × (r ≡ Ok bytes)
ok_value (Ok bytes) h = (bytes, refl)
ok_value (Err e) h = cc

pub idle_drives : (c : AcqConfig) (mode : Mode) (s : PlainState) (m : Window) (a : FillCounts) (digits : List ℕ) → IsOk (decode_of digits) → s.board.run ≢ 1 → Drives (DatagramIn c mode digits) 1 s m a [] s m a
idle_drives c mode s m a digits spelled stands_still t behind = record {
  part = idles t;
  spells = λ same. (is.0, is.1, subst (λ (runs : Bool). HearsIfRunning c t is.0 runs (idles t)) (sym still) refl);
  runs = tt;
  fills = tt;
  handles = refl;
  idles = refl;
  text = refl;
  mode = refl;
  told_mode = refl;
  none_taken = refl;
  behind = record {
    board = subst (λ (h : List Entry). IsLeftBy s h) (sym (append-nil t.entries)) behind.board;
    inputs = subst (λ (q : List Input). Stands m q) (sym (append-nil t.inputs)) behind.inputs;
  };
  counted = refl;
}
  where
    is : (bytes : List ℕ) × (decode_of digits ≡ Ok bytes)
    is = ok_value (decode_of digits) spelled

    still : ((board t).run == 1) ≡ false
    still = ne_eqb (board t).run 1 (λ e. stands_still (ap (λ (b : Board). b.run) behind.board.board.state ∙ e))

pub running_drives : (c : AcqConfig) (mode : Mode) (s new : PlainState) (m n : Window) (a b : FillCounts) (digits bytes : List ℕ) → decode_of digits ≡ Ok bytes → s.board.run ≡ 1
    → Drives (HearsIn c mode bytes) 0 s m a [] new n b → Drives (DatagramIn c mode digits) 0 s m a [] new n b
running_drives c mode s new m n a b digits bytes is running drives t behind = record {
  part = heard.part;
  spells = λ same. (bytes, is, subst (λ (runs : Bool). HearsIfRunning c t bytes runs heard.part) (sym runs_now) (heard.spells same));
  runs = heard.runs;
  fills = heard.fills;
  handles = heard.handles;
  idles = heard.idles;
  text = heard.text;
  mode = heard.mode;
  told_mode = heard.told_mode;
  none_taken = heard.none_taken;
  behind = heard.behind;
  counted = heard.counted;
}
  where
    heard : DrivesAt (HearsIn c mode bytes) 0 a [] new n b t
    heard = drives t behind

    runs_now : ((board t).run == 1) ≡ true
    runs_now = eq-eqb (board t).run 1 (sym (ap (λ (b : Board). b.run) behind.board.board.state) ∙ running)
