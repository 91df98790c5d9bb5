-- One turn of the application.
use Rattle.std.proofs.Common.{◌≡◌, ◌≢◌, ℕ, Bool, List, Option, Result, Ok, Err, refl, sym, subst}
use Rattle.gentl_types.specs.declared.errors.GcError.{GcError}
use Rattle.buffer_words.specs.Passes.{Token, gone, Has, SameHands}
use Rattle.buffer_words.specs.Loans.{Lent}
use Rattle.gentl_events.specs.Turns.{HasLoan}
use Rattle.camera_words.specs.declared.settings.Output.{Output}
use Rattle.gev_apply.proofs.OneLook.{LooksIdly, LooksLucky, turn_with, turn_without, hands_same}
use Rattle.frame_writing.specs.declared.write_stop.WriteStop.{WriteStop}
use Rattle.frame_writing.specs.declared.write_stop.WriteStop.TheVariants as stops
use Rattle.frame_writing.specs.declared.turn_end.TurnEnd.{TurnEnd}
use Rattle.frame_writing.specs.declared.turn_end.TurnEnd.TheVariants.{Idle, Over}
use Rattle.frame_writing.specs.Texts.{text_of}
use Rattle.frame_writing.specs.Turns.{WritesBy, HandsOne, GotNone, end_by, TurnsTo}

hands_by : (output : Output) (told now : Option (List ℕ)) (complete : Bool) (wrote : Result (Unit {0}) WriteStop) (written written_after : Option (List ℕ)) (faults faults_after : ℕ) (s t : Token)
    → HandsOne output told now complete wrote written written_after faults faults_after s t
    → TurnsTo (end_by complete wrote) output told now written written_after faults faults_after s t
hands_by output told now complete (Ok done) written written_after faults faults_after s t h = record { loan = h.loan; one = h.one; flag = h.flag; wrote_it = h.wrote_it }
hands_by output told now complete (Err stops.WriteFault) written written_after faults faults_after s t h = h
hands_by output told now complete (Err stops.NoMemory) written written_after faults faults_after s t h = h

pub turned : (end : TurnEnd) (output : Output) (told now : Option (List ℕ)) (run : ℕ) (complete : Bool) (loan : Lent) (wrote : Result (Unit {0}) WriteStop) (written written_after : Option (List ℕ)) (faults faults_after : ℕ) (s t : Token)
    → end ≡ end_by complete wrote → LooksLucky told now run loan s t → complete ≡ loan.filling.rec.complete
    → WritesBy wrote (text_of output loan.id loan.filling) written written_after faults faults_after
    → TurnsTo end output told now written written_after faults faults_after s t
turned end output told now run complete loan wrote written written_after faults faults_after s t is lucky flag wrote_it =
    subst (λ e. TurnsTo e output told now written written_after faults faults_after s t) (sym is)
    (hands_by output told now complete wrote written written_after faults faults_after s t (record {
      loan = loan;
      one = record { turn = turn_with run lucky.moments loan lucky.queued; looks = lucky.looks; got = refl };
      flag = flag;
      wrote_it = wrote_it;
    }))

gets_none : (told now : Option (List ℕ)) (run : ℕ) (error : GcError) (P : ℕ → Type 0) (s t : Token) → LooksIdly told now run error s t → P run → GotNone told now P s t
gets_none told now run error P s t idle word = record {
  turn = turn_without run idle.moments error;
  looks = idle.looks;
  nothing = tt;
  word = word;
}

pub idled : (output : Output) (told now : Option (List ℕ)) (run : ℕ) (error : GcError) (written : Option (List ℕ)) (faults : ℕ) (s t : Token) → LooksIdly told now run error s t → run ≡ 1
    → TurnsTo Idle output told now written written faults faults s t
idled output told now run error written faults s t idle running = (gets_none told now run error (λ r. r ≡ 1) s t idle running, refl, refl)

pub ended : (output : Output) (told now : Option (List ℕ)) (run : ℕ) (error : GcError) (written : Option (List ℕ)) (faults : ℕ) (s t : Token) → LooksIdly told now run error s t → run ≢ 1
    → TurnsTo Over output told now written written faults faults s t
ended output told now run error written faults s t idle stopped = (gets_none told now run error (λ r. r ≢ 1) s t idle stopped, refl, refl)

-- a turn by what is written
pub turn_of : (end : TurnEnd) (output same : Output) (told now : Option (List ℕ)) (written written_after : Option (List ℕ)) (faults faults_after : ℕ) (s t : Token) → same ≡ output
    → TurnsTo end same told now written written_after faults faults_after s t → TurnsTo end output told now written written_after faults faults_after s t
turn_of end output same told now written written_after faults faults_after s t same_output turn =
    subst (λ o. TurnsTo end o told now written written_after faults faults_after s t) same_output turn

-- ---- the hands

pub same_hands : (s t u v : Token) (loan : Lent) → SameHands s t → HasLoan loan t u → Has loan.id.place gone u v → SameHands s v
same_hands s t u v loan look has back = hands_same s t u v loan look has back
