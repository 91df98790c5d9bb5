-- What each stream keeps: what waits is of frames that are held.
use Rattle.std.specs.Prelude.{ℕ, ◌≤◌, List, Option, Some, None, IfSome, All}
use Rattle.gvsp_wire.specs.Wire.{IsNotice}
use Rattle.resend_store.specs.declared.sent.SentFrame.{SentFrame}
use Rattle.resend_store.specs.Sent.{trailer_id}
use Rattle.resend_store.specs.Shelf.{Shelf, held_in}
use Rattle.camera_stream.specs.declared.span.Span.{Span}
use Rattle.camera_stream.specs.declared.span.QueuedReply.{QueuedReply}
use Rattle.camera_stream.specs.declared.span.QueuedReply.TheVariants.{Packets, Notice}

-- one packet or more, all of them of the held frame
abbrev pub AreIdsOf : Option SentFrame → ℕ → ℕ → Type 0
AreIdsOf None next last = ⊥
AreIdsOf (Some sent) next last = (next ≤ last) × (last ≤ trailer_id sent)

abbrev pub IsHeldSpan : Shelf → Span → Type 0
IsHeldSpan shelf span = AreIdsOf (held_in shelf span.block) span.next span.last

abbrev pub IsHeldReply : Shelf → QueuedReply → Type 0
IsHeldReply shelf (Packets span) = IsHeldSpan shelf span
IsHeldReply shelf (Notice head) = IsNotice head

pub record IsStream (shelf : Shelf) (span : Option Span) (queue : List QueuedReply) : Type 0 where
  pub some : 1 ≤ shelf.room
  pub frame : IfSome span (IsHeldSpan shelf)
  pub replies : All (IsHeldReply shelf) queue
