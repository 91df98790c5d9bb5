-- The receiver's turns.
use Rattle.std.specs.Prelude.{◌≡◌, ℕ, ◌++◌, map, Some}
use Rattle.stream_packets.specs.Packets.{StreamPacket}
use Rattle.acquisition_machine.specs.declared.config.AcqConfig.{AcqConfig}
use Rattle.acquisition_machine.specs.declared.need.Need.{Need}
use Rattle.acquisition_machine.specs.declared.need.Need.TheVariants.{Buffer, Done, Ignored}
use Rattle.acquisition_machine.specs.Blocks.{Open, fills}
use Rattle.acquisition_machine.specs.Machine.{State, Turn, put, quiet, settles, ignored}
use Rattle.acq_core.specs.declared.window.Window.{Window}
use Rattle.acq_core.specs.Standing.{Acts, asked_of, floor_of}
use Rattle.acq_core.specs.Ending.{ends_of}
use Rattle.acq_core.specs.Hearing.{heard_in}

-- The state goes on by this turn, and what it gives waits.
pub record Gives (old new : Window) (t : Turn) : Type 0 where
  pub acts : Acts new t.after
  pub fills : new.fills.items ≡ old.fills.items ++ fills old.config.p t.retired
  pub ends : new.ends.items ≡ old.ends.items ++ ends_of old.telling old.config.p (floor_of old.floor) t.retired
  pub requests : new.requests.items ≡ old.requests.items ++ map asked_of t.requests
  pub config : new.config ≡ old.config
  pub telling : new.telling ≡ old.telling

-- and the datagram is answered that
pub record Answers (old new : Window) (answer : Need) (t : Turn) : Type 0 where
  pub gives : Gives old new t
  pub need : t.need ≡ Some answer

-- the turn of a packet that was answered so, from where it was noted
abbrev pub turn_of : AcqConfig → Need → State → Turn
turn_of c (Buffer b) s = quiet s
turn_of c Done s = settles c (Some Done) s
turn_of c (Ignored why) s = ignored why s

-- the block's packet was noted
abbrev pub with_heard : ℕ → StreamPacket → Open → State → State
with_heard p x o s = record s { opens = put (heard_in s.now p o x) s.opens }
