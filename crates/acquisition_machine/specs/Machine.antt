-- The acquisition machine: what a datagram, the outcome of a claim, a moment, a stop and a start do to a
-- window of open blocks.
use Rattle.std.specs.Prelude.{ℕ, ◌+◌, ◌^◌, ◌==◌, not, max, nat_lt, nat_le, List, [], ◌∷◌, ◌++◌, length, Bool, true, false, Option, Some, None, Result, Ok, Err, if◌then◌else◌}
use Rattle.stream_packets.specs.Packets.{StreamPacket, head_of, is_notice}
use Rattle.gvsp_wire.specs.declared.wire_error.WireError.{WireError}
use Rattle.gvsp_wire.specs.Reading.{reading}
use Rattle.gvcp_wire.specs.Control.{plain}
use Rattle.gvcp_wire.specs.declared.resend.Resend.{Resend}
use Rattle.gvcp_wire.specs.Bodies.{resend_head, resend_command}
use Rattle.block_image.specs.Kept.{fits}
use Rattle.acquisition_machine.specs.declared.config.AcqConfig.{AcqConfig}
use Rattle.acquisition_machine.specs.declared.counts.Counts.{Counts}
use Rattle.acquisition_machine.specs.declared.need.Need.{Need}
use Rattle.acquisition_machine.specs.declared.need.Need.TheVariants.{Buffer, Done, Ignored}
use Rattle.acquisition_machine.specs.declared.need.Why.{Why}
use Rattle.acquisition_machine.specs.declared.need.Why.TheVariants.{Foreign, Late, Repeat, Misfit, Starved, Notice}
use Rattle.acquisition_machine.specs.Blocks.{Given, Open, Cause, displaced, stopped, Retirement, opened, hearing, keeping, is_new, due, ranges_asked, after_round}

pub data Input : Type 0 where
  -- the bytes of one datagram
  datagram : List ℕ → Input
  -- the outcome of the claim that a datagram asked for: a buffer, or None
  claimed : Option Given → Input
  -- the moment, in milliseconds
  tick : ℕ → Input
  stop : Input
  -- block ids begin again
  restart : Input

pub record State : Type 0 where
  -- the greatest moment that was told
  pub now : ℕ
  -- One above the block that retired last, 1 at first. 2 ^ 64 says that block ids are used up.
  pub floor : ℕ
  -- the open blocks, lowest first
  pub opens : List Open
  -- the block for which a buffer is claimed
  pub asked : Option ℕ
  pub counts : Counts
  -- the number of the next request
  pub number : ℕ

-- a command that asks for packets again, with its number
pub record Request : Type 0 where
  pub number : ℕ
  pub resend : Resend

-- the command's 28 bytes
abbrev pub request_bytes : Request → List ℕ
request_bytes r = plain (resend_head r.number) (resend_command r.resend)

-- What an input makes of a state: the state after it, the answer to a datagram, the blocks that retired, in
-- order, and the requests, in order.
pub record Turn : Type 0 where
  pub after : State
  pub need : Option Need
  pub retired : List Retirement
  pub requests : List Request

-- ---- the bound

abbrev pub lowest_or : ℕ → List Open → ℕ
lowest_or floor [] = floor
lowest_or floor (o ∷ os) = o.block

abbrev pub is_full : AcqConfig → List Open → Bool
is_full c os = nat_le c.window (length os)

-- The lowest block that packets may have: the lowest open one in a full window, else the floor.
abbrev pub bound_of : AcqConfig → ℕ → List Open → ℕ
bound_of c floor os = if is_full c os then lowest_or floor os else floor

abbrev pub bound : AcqConfig → State → ℕ
bound c s = bound_of c s.floor s.opens

-- how a bound is told
abbrev pub shown : ℕ → Option ℕ
shown b = if nat_lt b (2 ^ 64) then Some b else None

-- ---- lists of open blocks

-- the open block with this id
abbrev pub open_at : ℕ → List Open → Option Open
open_at b [] = None
open_at b (o ∷ os) = if o.block == b then Some o else open_at b os

-- the block at its place by its id, where another block with this id stands in its place
abbrev pub put : Open → List Open → List Open
put o [] = o ∷ []
put o (n ∷ os) = if nat_lt o.block n.block then o ∷ n ∷ os else if o.block == n.block then o ∷ os else n ∷ put o os

-- ---- settling: the lowest block retires, and the next, as long as it has to

abbrev pub leave_if : Option Cause → Open → List Retirement → List Retirement
leave_if None o rs = []
leave_if (Some cause) o rs = record { was = o; cause = cause } ∷ rs

abbrev pub leaving : AcqConfig → ℕ → List Open → List Retirement
leaving c now [] = []
leaving c now (o ∷ os) = leave_if (due c now o) o (leaving c now os)

abbrev pub stay_if : Option Cause → List Open → List Open → List Open
stay_if None os rest = os
stay_if (Some cause) os rest = rest

abbrev pub staying : AcqConfig → ℕ → List Open → List Open
staying c now [] = []
staying c now (o ∷ os) = stay_if (due c now o) (o ∷ os) (staying c now os)

-- one above the last of these, if there is one
abbrev pub floor_after : ℕ → List Retirement → ℕ
floor_after floor [] = floor
floor_after floor (r ∷ rs) = floor_after (r.was.block + 1) rs

-- these retired, and those stay
abbrev pub without : List Retirement → List Open → State → State
without rs os s = record s { floor = floor_after s.floor rs; opens = os }

abbrev pub settled : AcqConfig → State → State
settled c s = without (leaving c s.now s.opens) (staying c s.now s.opens) s

-- ---- turns

abbrev pub unasked : State → State
unasked s = record s { asked = None }

abbrev pub quiet : State → Turn
quiet s = record { after = s; need = None; retired = []; requests = [] }

abbrev pub settles : AcqConfig → Option Need → State → Turn
settles c need s = record { after = settled c s; need = need; retired = leaving c s.now s.opens; requests = [] }

-- ---- a datagram

abbrev pub count : Why → Counts → Counts
count (Foreign e) n = record n { foreign = n.foreign + 1 }
count (Late b) n = record n { late = n.late + 1 }
count Repeat n = record n { repeat = n.repeat + 1 }
count Misfit n = record n { misfit = n.misfit + 1 }
count Starved n = record n { starved = n.starved + 1 }
count Notice n = record n { notice = n.notice + 1 }

abbrev pub ignored : Why → State → Turn
ignored why s = record { after = record s { counts = count why s.counts }; need = Some (Ignored why); retired = []; requests = [] }

-- the packet came for this open block
abbrev pub noted : StreamPacket → Open → State → State
noted x o s = record s { opens = put (hearing x o) s.opens }

abbrev pub noted_in : StreamPacket → Option Open → State → State
noted_in x None s = s
noted_in x (Some o) s = noted x o s

-- the packet is kept, and the machine settles
abbrev pub keeps : AcqConfig → StreamPacket → Open → State → Turn
keeps c x o s = settles c (Some Done) (record s { opens = put (keeping s.now x o) s.opens })

-- in a full window the lowest block gives its place
abbrev pub displaced_of : Bool → List Open → List Retirement
displaced_of false os = []
displaced_of true [] = []
displaced_of true (o ∷ os) = record { was = o; cause = displaced } ∷ []

abbrev pub rest_of : Bool → List Open → List Open
rest_of false os = os
rest_of true [] = []
rest_of true (o ∷ os) = os

-- a buffer is wanted for a block that isn't open
abbrev pub wants : AcqConfig → ℕ → State → Turn
wants c b s = record {
  after = record (without (displaced_of (is_full c s.opens) s.opens) (rest_of (is_full c s.opens) s.opens) s) { asked = Some b };
  need = Some (Buffer b);
  retired = displaced_of (is_full c s.opens) s.opens;
  requests = [];
}

abbrev pub hears_open : AcqConfig → StreamPacket → Open → Option Given → State → Turn
hears_open c x o None s = ignored Starved (noted x o s)
hears_open c x o (Some g) s = if is_new c.p o x then keeps c x o s else ignored Repeat (noted x o s)

abbrev pub hears_fitting : AcqConfig → StreamPacket → Option Open → State → Turn
hears_fitting c x None s = wants c (head_of x).block s
hears_fitting c x (Some o) s = hears_open c x o o.given s

abbrev pub hears_packet : AcqConfig → StreamPacket → Option Open → State → Turn
hears_packet c x found s =
    if is_notice x then ignored Notice (noted_in x found s)
    else if not (fits c.p x) then ignored Misfit (noted_in x found s)
    else hears_fitting c x found s

-- what the datagram is read as decides: the first of these cases that holds
abbrev pub hears : AcqConfig → Result StreamPacket WireError → State → Turn
hears c (Err e) s = ignored (Foreign e) s
hears c (Ok x) s =
    if nat_lt (head_of x).block (bound c s) then ignored (Late (shown (bound c s))) s
    else hears_packet c x (open_at (head_of x).block s.opens) s

-- ---- the outcome of a claim

abbrev pub count_given : Option Given → Counts → Counts
count_given None n = record n { underrun = n.underrun + 1 }
count_given (Some g) n = n

abbrev pub opens_block : Option Given → Option ℕ → State → State
opens_block given None s = s
opens_block given (Some b) s = record s { opens = put (opened b given s.now) s.opens; counts = count_given given s.counts }

-- ---- a moment

abbrev pub resend_of : ℕ → ℕ × ℕ → Resend
resend_of b r = record { channel = 0; first = r.0; last = r.1; block = b }

-- no request has the number 0
abbrev pub next_number : ℕ → ℕ
next_number n = if n == 65535 then 1 else n + 1

abbrev pub number_after : ℕ → List (ℕ × ℕ) → ℕ
number_after n [] = n
number_after n (r ∷ rs) = number_after (next_number n) rs

-- requests for these ranges of block b, with the numbers from n on
abbrev pub requests_for : ℕ → ℕ → List (ℕ × ℕ) → List Request
requests_for n b [] = []
requests_for n b (r ∷ rs) = record { number = n; resend = resend_of b r } ∷ requests_for (next_number n) b rs

-- what the open blocks ask for, lowest first
abbrev pub requests_of : AcqConfig → ℕ → ℕ → List Open → List Request
requests_of c now n [] = []
requests_of c now n (o ∷ os) =
    requests_for n o.block (ranges_asked c now o) ++ requests_of c now (number_after n (ranges_asked c now o)) os

abbrev pub number_past : AcqConfig → ℕ → ℕ → List Open → ℕ
number_past c now n [] = n
number_past c now n (o ∷ os) = number_past c now (number_after n (ranges_asked c now o)) os

abbrev pub after_rounds : AcqConfig → ℕ → List Open → List Open
after_rounds c now [] = []
after_rounds c now (o ∷ os) = after_round c now o ∷ after_rounds c now os

abbrev pub count_requests : List Request → Counts → Counts
count_requests rs n = record n { requests = n.requests + length rs }

-- each open block does its round
abbrev pub asks : AcqConfig → List Retirement → State → Turn
asks c retired s = record {
  after = record s {
    opens = after_rounds c s.now s.opens;
    counts = count_requests (requests_of c s.now s.number s.opens) s.counts;
    number = number_past c s.now s.number s.opens;
  };
  need = None;
  retired = retired;
  requests = requests_of c s.now s.number s.opens;
}

abbrev pub ticks : AcqConfig → State → Turn
ticks c s = asks c (leaving c s.now s.opens) (settled c s)

-- ---- a stop

abbrev pub all_stopped : List Open → List Retirement
all_stopped [] = []
all_stopped (o ∷ os) = record { was = o; cause = stopped } ∷ all_stopped os

abbrev pub stops : State → Turn
stops s = record { after = without (all_stopped s.opens) [] s; need = None; retired = all_stopped s.opens; requests = [] }

-- ---- a step

abbrev pub step : AcqConfig → State → Input → Turn
step c s (datagram bytes) = hears c (reading bytes) (unasked s)
step c s (claimed given) = quiet (opens_block given s.asked (unasked s))
step c s (tick moment) = ticks c (record (unasked s) { now = max s.now moment })
step c s stop = stops (unasked s)
step c s restart = quiet (record (unasked s) { floor = 1 })
