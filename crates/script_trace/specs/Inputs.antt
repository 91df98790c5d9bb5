-- The notes of each input of an acquisition.
--
-- Beside the inputs they read the words of the board, for the generations of buffers, and its close mark; and
-- what the fills and claims dropped from the output, a list for each of them, first in first.
use Rattle.std.specs.Prelude.{ℕ, ◌+◌, ◌-◌, ◌==◌, not, nat_lt, List, [], ◌∷◌, ◌++◌, length, Option, Some, None, if◌then◌else◌}
use Rattle.gentl_types.specs.declared.buffer_id.BufferId.{BufferId}
use Rattle.stream_packets.specs.Packets.{StreamPacket, leader, payload, trailer, notice}
use Rattle.gvsp_wire.specs.Reading.{packet_of}
use Rattle.missing_ranges.specs.Reasons.{reasons}
use Rattle.missing_ranges.specs.Lost.{lost}
use Rattle.board_machine.specs.Machine.{Board, Item}
use Rattle.board_machine.specs.Ids.{buffer_at}
use Rattle.acquisition_machine.specs.declared.config.AcqConfig.{AcqConfig}
use Rattle.acquisition_machine.specs.declared.need.Need.{Need}
use Rattle.acquisition_machine.specs.declared.need.Need.TheVariants.{Buffer, Done, Ignored}
use Rattle.acquisition_machine.specs.Blocks.{Given, Open, Cause, Retirement, kept_in, has_whole, ranges_asked}
use Rattle.acquisition_machine.specs.Machine.{Input, datagram, claimed, tick, stop, restart, State, Turn, settled, unasked, step}
use Rattle.script_trace.specs.Notes.{Outcome, Note, ignored, leads, opens, asks, first, absent, drops, done, unbuffered}

-- ---- what was dropped

abbrev pub drop_notes : Board → List Item → List Note
drop_notes b [] = []
drop_notes b (x ∷ xs) = drops x.filling.rec.block (buffer_at b x.place) ∷ drop_notes b xs

abbrev pub first_dropped : List (List Item) → List Item
first_dropped [] = []
first_dropped (d ∷ ds) = d

abbrev pub rest_dropped : List (List Item) → List (List Item)
rest_dropped [] = []
rest_dropped (d ∷ ds) = ds

-- ---- what retires

-- Between the floor and the block are blocks that were never opened. A stream that ran before it was heard begins
-- anywhere: below the first block nothing is missed.
abbrev pub gap : ℕ → ℕ → List Note
gap floor b = if nat_lt floor b then (if floor == 1 then first b ∷ [] else absent (floor, b - 1) ∷ []) else []

abbrev pub outcome_of : AcqConfig → Board → Open → Cause → Given → Outcome
outcome_of c b o cause g = record {
  block = o.block;
  buffer = buffer_at b g.place;
  cause = cause;
  complete = has_whole c.p o (Some g);
  kept = length (kept_in c.p o);
  why = reasons c.p g.size (kept_in c.p o);
  lost = lost c.p (kept_in c.p o);
  out = not b.closed;
}

-- the block's own note, behind those of what its fill dropped
abbrev pub ended_notes : AcqConfig → Board → List (List Item) → Open → Cause → Option Given → List Note
ended_notes c b ds o cause None = unbuffered o.block cause ∷ []
ended_notes c b ds o cause (Some g) = drop_notes b (first_dropped ds) ++ done (outcome_of c b o cause g) ∷ []

abbrev pub after_end : List (List Item) → Option Given → List (List Item)
after_end ds None = ds
after_end ds (Some g) = rest_dropped ds

abbrev pub after_ends : List (List Item) → List Retirement → List (List Item)
after_ends ds [] = ds
after_ends ds (r ∷ rs) = after_ends (after_end ds r.was.given) rs

-- these blocks retire, behind this floor
abbrev pub retired_notes : AcqConfig → Board → List (List Item) → ℕ → List Retirement → List Note
retired_notes c b ds floor [] = []
retired_notes c b ds floor (r ∷ rs) =
    gap floor r.was.block
    ++ (ended_notes c b ds r.was r.cause r.was.given ++ retired_notes c b (after_end ds r.was.given) (r.was.block + 1) rs)

-- ---- a datagram

-- a kept packet has a note where it is a leader
abbrev pub kept_note : Option StreamPacket → List Note
kept_note None = []
kept_note (Some (leader h i)) = leads h.block i ∷ []
kept_note (Some (payload h d)) = []
kept_note (Some (trailer h y)) = []
kept_note (Some (notice h)) = []

abbrev pub need_notes : Option StreamPacket → Option Need → List Note
need_notes x None = []
need_notes x (Some (Buffer b)) = []
need_notes x (Some Done) = kept_note x
need_notes x (Some (Ignored why)) = ignored why x ∷ []

-- ---- the outcome of a claim

abbrev pub buffer_of : Board → Option Given → Option BufferId
buffer_of b None = None
buffer_of b (Some g) = Some (buffer_at b g.place)

abbrev pub open_notes : Board → List (List Item) → Option ℕ → Option Given → List Note
open_notes b ds None given = []
open_notes b ds (Some block) given = drop_notes b (first_dropped ds) ++ opens block (buffer_of b given) ∷ []

abbrev pub after_claim : List (List Item) → Option ℕ → List (List Item)
after_claim ds None = ds
after_claim ds (Some block) = rest_dropped ds

-- ---- a moment

abbrev pub ask_notes : ℕ → ℕ → List (ℕ × ℕ) → List Note
ask_notes b round [] = []
ask_notes b round (r ∷ rs) = asks b r round ∷ ask_notes b round rs

-- each open block's round, which is one more than it has done
abbrev pub round_notes : AcqConfig → ℕ → List Open → List Note
round_notes c now [] = []
round_notes c now (o ∷ os) = ask_notes o.block (o.rounds + 1) (ranges_asked c now o) ++ round_notes c now os

-- ---- an input

abbrev pub turn_notes : AcqConfig → Board → List (List Item) → State → Input → Turn → List Note
turn_notes c b ds s (datagram bytes) t = need_notes (packet_of bytes) t.need ++ retired_notes c b ds s.floor t.retired
turn_notes c b ds s (claimed given) t = open_notes b ds s.asked given
turn_notes c b ds s (tick moment) t =
    retired_notes c b ds s.floor t.retired
    ++ round_notes c t.after.now (settled c (record (unasked s) { now = t.after.now })).opens
turn_notes c b ds s stop t = retired_notes c b ds s.floor t.retired
turn_notes c b ds s restart t = []

abbrev pub after_turn : List (List Item) → State → Input → Turn → List (List Item)
after_turn ds s (datagram bytes) t = after_ends ds t.retired
after_turn ds s (claimed given) t = after_claim ds s.asked
after_turn ds s (tick moment) t = after_ends ds t.retired
after_turn ds s stop t = after_ends ds t.retired
after_turn ds s restart t = ds

-- the notes of these inputs, from this state on
abbrev pub notes_from : AcqConfig → Board → List (List Item) → State → List Input → List Note
notes_from c b ds s [] = []
notes_from c b ds s (i ∷ q) =
    turn_notes c b ds s i (step c s i) ++ notes_from c b (after_turn ds s i (step c s i)) (step c s i).after q
