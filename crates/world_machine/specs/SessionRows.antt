-- A worked schedule: a repeat, a release, and a late copy after it.
use Rattle.std.specs.Prelude.{◌≡◌, ℕ, List, [], ◌∷◌}
use Rattle.byteorder.specs.Endian.{big_bytes}
use Rattle.gvcp_wire.specs.Messages.{PlainCommand, write_reg}
use Rattle.client_machine.specs.declared.outcome.Outcome.TheVariants.{Acked}
use Rattle.client_machine.specs.Machine.{received}
use Rattle.client_machine.specs.Events as clients
use Rattle.camera_machine.specs.Events as cameras
use Rattle.camera_machine.specs.Rows.{host}
use Rattle.world_machine.specs.Schedule.{Act, at_client, at_camera, Line, new_line, after}
use Rattle.world_machine.specs.SessionLaws.{IsShort}

-- a client, and a camera of images of three pixels, which holds four frames
abbrev pub small_line : Line
small_line = new_line 0 (record { pixel = 0x01080001; size_x = 3; size_y = 1 }) 4

-- WRITEREG of CCP with 2, which takes control, and with 0, which releases it
abbrev pub taking : PlainCommand
taking = write_reg (big_bytes 8 0x00000a0000000002)

abbrev pub releasing : PlainCommand
releasing = write_reg (big_bytes 8 0x00000a0000000000)

-- the bytes of these commands under the request numbers 1 and 2, and of their acknowledges
abbrev pub take_bytes : List ℕ
take_bytes = big_bytes 16 0x420100820008000100000a0000000002

abbrev pub release_bytes : List ℕ
release_bytes = big_bytes 16 0x420100820008000200000a0000000000

abbrev pub take_ack : List ℕ
take_ack = big_bytes 12 0x000000830004000100000001

abbrev pub release_ack : List ℕ
release_ack = big_bytes 12 0x000000830004000200000001

-- Control is taken, and a copy of that command comes again at once.
abbrev pub taken_twice : List Act
taken_twice =
    at_camera (cameras.command (host 1) take_bytes 2)
    ∷ at_camera (cameras.command (host 1) take_bytes 1)
    ∷ at_client clients.takes
    ∷ at_client (clients.submits taking 0) ∷ []

-- The acknowledge comes, control is released, and a further copy of the first command comes late.
abbrev pub taken_late : List Act
taken_late =
    at_camera (cameras.command (host 1) take_bytes 6)
    ∷ at_camera (cameras.command (host 1) release_bytes 5)
    ∷ at_client clients.takes
    ∷ at_client (clients.submits releasing 4)
    ∷ at_client (clients.receives take_ack 3)
    ∷ taken_twice

-- The repeat is answered and not executed. The release belongs to the session that it ends; the copy
-- that comes after it takes control again, in a session of its own.
pub record IsWorked : Type 0 where
  pub schedule : IsShort (host 1) small_line taken_late
  pub running_at_first : (after small_line taken_twice).sessions.running ≡ take_bytes ∷ []
  pub acks_at_first : (after small_line taken_twice).acks ≡ take_ack ∷ take_ack ∷ []
  pub outcome : (received (after small_line taken_twice).client take_ack 3).outcome ≡ Acked
  pub submitted : (after small_line taken_late).submitted ≡ take_bytes ∷ release_bytes ∷ []
  pub acks : (after small_line taken_late).acks ≡ take_ack ∷ take_ack ∷ release_ack ∷ take_ack ∷ []
  pub ended : (after small_line taken_late).sessions.ended ≡ (take_bytes ∷ release_bytes ∷ []) ∷ []
  pub running : (after small_line taken_late).sessions.running ≡ take_bytes ∷ []
