-- An open block: its buffer, the packets that came for it, when it retires, and when it asks for packets.
use Rattle.std.specs.Prelude.{ℕ, ◌+◌, ◌-◌, ◌==◌, ◌&&◌, ◌||◌, nat_lt, nat_le, List, [], ◌∷◌, ◌++◌, take, Bool, false, Option, Some, None, is_some, if◌then◌else◌}
use Rattle.gev_types.specs.declared.block_account.Cause.{Cause as ToldCause}
use Rattle.gev_types.specs.declared.block_account.Cause.TheVariants.{Complete, Old, Displaced, Stopped}
use Rattle.gev_types.specs.Filling.{Filling}
use Rattle.stream_packets.specs.Packets.{StreamPacket}
use Rattle.block_image.specs.Kept.{kept, takes}
use Rattle.block_image.specs.Image.{extent_in}
use Rattle.block_image.specs.Image.{is_complete as is_complete_image}
use Rattle.missing_ranges.specs.Accounts.{retired_image}
use Rattle.missing_ranges.specs.Missing.{missing}
use Rattle.acquisition_machine.specs.declared.config.AcqConfig.{AcqConfig}
use Rattle.acquisition_machine.specs.declared.retired.Retired.{Retired}

-- a buffer that a block was given: the number of its place, and its size in bytes
pub record Given : Type 0 where
  pub place : ℕ
  pub size : ℕ

pub record Open : Type 0 where
  pub block : ℕ
  -- None where there was no buffer: the block is starved
  pub given : Option Given
  -- the packets of the block that came since it was opened, first in first
  pub heard : List StreamPacket
  -- the moment of its latest kept packet, or of its opening
  pub last : ℕ
  -- how often it has asked for missing packets, and when it did last
  pub rounds : ℕ
  pub round_at : ℕ

-- a block as it is opened
abbrev pub opened : ℕ → Option Given → ℕ → Open
opened b given now = record { block = b; given = given; heard = []; last = now; rounds = 0; round_at = 0 }

-- one more packet came for it
abbrev pub hearing : StreamPacket → Open → Open
hearing x o = record o { heard = o.heard ++ x ∷ [] }

-- one more packet came and is kept
abbrev pub keeping : ℕ → StreamPacket → Open → Open
keeping now x o = record o { heard = o.heard ++ x ∷ []; last = now }

abbrev pub kept_in : ℕ → Open → List StreamPacket
kept_in p o = kept p o.block o.heard

-- the packet would be kept
abbrev pub is_new : ℕ → Open → StreamPacket → Bool
is_new p o x = takes p o.block (kept_in p o) x

-- ---- why a block retires, and what it gives

pub data Cause : Type 0 where
  -- the whole image is in its buffer
  complete : Cause
  -- no packet was kept of it for as long as the timeout says
  old : Cause
  -- another block needs its place in a full window
  displaced : Cause
  -- the stream was stopped
  stopped : Cause

-- a block as it was when it retired
pub record Retirement : Type 0 where
  pub was : Open
  pub cause : Cause

-- how the code tells a cause
abbrev pub cause_of : Cause → ToldCause
cause_of complete = Complete
cause_of old = Old
cause_of displaced = Displaced
cause_of stopped = Stopped

-- what goes out in its buffer: the block image of what came, with the account of the block in its record
abbrev pub filled_by : ℕ → ToldCause → Open → Given → Filling
filled_by p cause o g = retired_image cause p o.block g.size o.heard

abbrev pub filling_in : ℕ → Retirement → Given → Filling
filling_in p r g = filled_by p (cause_of r.cause) r.was g

-- as the record of that image says
abbrev pub has_whole : ℕ → Open → Option Given → Bool
has_whole p o None = false
has_whole p o (Some g) = is_complete_image p g.size (kept_in p o) (extent_in (kept_in p o))

abbrev pub is_complete : ℕ → Open → Bool
is_complete p o = has_whole p o o.given

-- how long ago that was, and 0 where it is still to come
abbrev pub is_old : ℕ → ℕ → Open → Bool
is_old timeout now o = nat_le timeout (now - o.last)

-- why the block has to retire at this moment, if it has
abbrev pub due : AcqConfig → ℕ → Open → Option Cause
due c now o = if is_complete c.p o then Some complete else if is_old c.timeout now o then Some old else None

-- what a block with a buffer gives back: the buffer, with the image
abbrev pub given_back : ℕ → ToldCause → Open → Option Given → List Retired
given_back p cause o None = []
given_back p cause o (Some g) = record { place = g.place; buf = filled_by p cause o g } ∷ []

abbrev pub fill_of : ℕ → Retirement → Option Given → List Retired
fill_of p r given = given_back p (cause_of r.cause) r.was given

abbrev pub fills : ℕ → List Retirement → List Retired
fills p [] = []
fills p (r ∷ rs) = fill_of p r r.was.given ++ fills p rs

-- ---- asking again for missing packets

-- The block may ask: it has a buffer and rounds left, and it is long enough ago that a packet was kept of
-- it and that it asked.
abbrev pub is_ready : AcqConfig → ℕ → Open → Bool
is_ready c now o =
    is_some o.given && nat_lt o.rounds c.rounds && nat_le c.age (now - o.last) && (o.rounds == 0 || nat_le c.age (now - o.round_at))

-- the ranges that it asks for: of its missing ones the first eight
abbrev pub ranges_asked : AcqConfig → ℕ → Open → List (ℕ × ℕ)
ranges_asked c now o = if is_ready c now o then take 8 (missing c.p o.block o.heard) else []

-- a round was done if something was asked for
abbrev pub after_asking : ℕ → Open → List (ℕ × ℕ) → Open
after_asking now o [] = o
after_asking now o (r ∷ rs) = record o { rounds = o.rounds + 1; round_at = now }

abbrev pub after_round : AcqConfig → ℕ → Open → Open
after_round c now o = after_asking now o (ranges_asked c now o)
