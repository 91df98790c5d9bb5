-- What is told of a line of a replay script, and the notes that it stands for.
use Rattle.std.specs.Prelude.{◌≡◌, ⊤, ◌≤◌, not, Bool, List, [], ◌∷◌, Option, Some, None}
use Rattle.gentl_types.specs.declared.buffer_id.BufferId.{BufferId}
use Rattle.stream_packets.specs.Packets.{StreamPacket}
use Rattle.block_assembly.specs.Accounts.{account_of}
use Rattle.board_machine.specs.Machine.{Board}
use Rattle.board_machine.specs.Ids.{buffer_at}
use Rattle.acquisition_machine.specs.declared.config.AcqConfig.{AcqConfig}
use Rattle.acquisition_machine.specs.declared.need.Why.TheVariants as whys
use Rattle.acquisition_machine.specs.Blocks.{Given, Open, Cause, kept_in}
use Rattle.acq_core.specs.declared.ended.Ended.{Ended}
use Rattle.acquisition_machine.specs.Blocks.{cause_of}
use Rattle.script_trace.specs.Notes as notes
use Rattle.script_trace.specs.Notes.{Note}
use Rattle.script_trace.specs.Inputs.{outcome_of}
use Rattle.note_report.specs.Names.{IsNamed}
use Rattle.note_tape.specs.declared.told.Told.{Told}
use Rattle.note_tape.specs.declared.told.Told.TheVariants.{Idle, Foreign, Ignored, Unwidened, Leader, Opened, Asked, First, Absent, Dropped, Done}

-- what the block was given, its buffer, and whether that was filled, by its note
abbrev pub IsEndWith : Ended → Option BufferId → Bool → AcqConfig → Board → Cause → Open → Option Given → Note → Type 0
IsEndWith end buffer filled c b cause o None note = (end.held ≡ None) × (buffer ≡ None) × (note ≡ notes.unbuffered o.block cause)
IsEndWith end buffer filled c b cause o (Some g) note =
    (end.held ≡ Some (record { place = g.place; account = account_of c.p g.size (kept_in c.p o) }))
    × (buffer ≡ Some (buffer_at b g.place)) × (filled ≡ not b.closed) × (note ≡ notes.done (outcome_of c b o cause g))

-- The block retired: this is its note.
pub record IsEnd (end : Ended) (buffer : Option BufferId) (filled : Bool) (note : Note) : Type 0 where
  pub config : AcqConfig
  pub board : Board
  pub cause : Cause
  pub was : Open
  pub given : Option Given
  pub block : end.block ≡ was.block
  pub because : end.cause ≡ cause_of cause
  pub noted : IsEndWith end buffer filled config board cause was given note

-- this is the note of what is told
abbrev pub IsNoted : Told → Note → Type 0
IsNoted (Idle bytes) note = note ≡ notes.idle bytes
IsNoted (Foreign error) note = note ≡ notes.ignored (whys.Foreign error) None
IsNoted (Ignored why named) note = (x : StreamPacket) × IsNamed x named × (note ≡ notes.ignored why (Some x))
IsNoted (Unwidened error) note = note ≡ notes.unwidened error
IsNoted (Leader block info) note = note ≡ notes.leads block info
IsNoted (Opened block buffer) note = note ≡ notes.opens block buffer
IsNoted (Asked resend round) note = note ≡ notes.asks resend.block (resend.first, resend.last) round
IsNoted (First block) note = note ≡ notes.first block
IsNoted (Absent low high) note = (low ≤ high) × (note ≡ notes.absent (low, high))
IsNoted (Dropped block buffer) note = note ≡ notes.drops block buffer
IsNoted (Done end buffer filled) note = IsEnd end buffer filled note

-- and these are the notes of a tape
abbrev pub AreNoted : List Told → List Note → Type 0
AreNoted [] [] = ⊤
AreNoted [] (n ∷ ns) = ⊥
AreNoted (x ∷ xs) [] = ⊥
AreNoted (x ∷ xs) (n ∷ ns) = IsNoted x n × AreNoted xs ns
