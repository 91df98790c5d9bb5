-- No input has the note of an idle datagram, or of a refused one.
use Rattle.std.proofs.Common.{ℕ, ◌+◌, ◌-◌, List, [], ◌∷◌, ◌++◌, Bool, true, false}
use Rattle.std.specs.Prelude.{⊤, ◌==◌, nat_lt, Option, Some, None, if◌then◌else◌}
use Rattle.std.specs.List.{AllByRecursion}
use Rattle.stream_packets.specs.Packets.{StreamPacket, leader, payload, trailer, notice}
use Rattle.gvsp_wire.specs.Reading.{packet_of}
use Rattle.board_machine.specs.Machine.{Board, Item}
use Rattle.acquisition_machine.specs.declared.config.AcqConfig.{AcqConfig}
use Rattle.acquisition_machine.specs.declared.need.Need.{Need}
use Rattle.acquisition_machine.specs.declared.need.Need.TheVariants.{Buffer, Done, Ignored}
use Rattle.acquisition_machine.specs.Blocks.{Given, Open, Cause, Retirement, ranges_asked}
use Rattle.acquisition_machine.specs.Machine.{Input, datagram, claimed, tick, stop, restart, State, Turn, settled, unasked, step}
use Rattle.acquisition_machine.proofs.Order.{all_append}
use Rattle.script_trace.specs.Notes.{Note, idle, ignored, unwidened, leads, opens, asks, first, absent, drops, done, unbuffered}
use Rattle.script_trace.specs.Inputs.{drop_notes, first_dropped, gap, ended_notes, after_end, retired_notes, kept_note, need_notes, open_notes, ask_notes, round_notes, turn_notes, after_turn, notes_from}

-- a note that an input may have
abbrev pub IsOfInput : Note → Type 0
IsOfInput (idle bytes) = ⊥
IsOfInput (ignored why x) = ⊤
IsOfInput (unwidened e) = ⊥
IsOfInput (leads b i) = ⊤
IsOfInput (opens b buffer) = ⊤
IsOfInput (asks b r round) = ⊤
IsOfInput (first b) = ⊤
IsOfInput (absent r) = ⊤
IsOfInput (drops b buffer) = ⊤
IsOfInput (done o) = ⊤
IsOfInput (unbuffered b cause) = ⊤

abbrev OfInputs : AcqConfig → List Note → Type 0
OfInputs c xs = AllByRecursion IsOfInput xs

joined : (c : AcqConfig) (xs ys : List Note) → OfInputs c xs → OfInputs c ys → OfInputs c (xs ++ ys)
joined c xs ys a b = all_append IsOfInput xs ys a b

of_drops : (c : AcqConfig) (b : Board) (xs : List Item) → OfInputs c (drop_notes b xs)
of_drops c b [] = tt
of_drops c b (x ∷ xs) = (tt, of_drops c b xs)

of_gap : (c : AcqConfig) (floor b : ℕ) → OfInputs c (gap floor b)
of_gap c floor b = go (nat_lt floor b) (floor == 1) where
  go : (v w : Bool) → OfInputs c (if v then (if w then first b ∷ [] else absent (floor, b - 1) ∷ []) else [])
  go true true = (tt, tt)
  go true false = (tt, tt)
  go false w = tt

of_ended : (c : AcqConfig) (b : Board) (ds : List (List Item)) (o : Open) (cause : Cause) (given : Option Given) → OfInputs c (ended_notes c b ds o cause given)
of_ended c b ds o cause None = (tt, tt)
of_ended c b ds o cause (Some g) = joined c (drop_notes b (first_dropped ds)) _ (of_drops c b (first_dropped ds)) (tt, tt)

of_retired : (c : AcqConfig) (b : Board) (ds : List (List Item)) (floor : ℕ) (rs : List Retirement) → OfInputs c (retired_notes c b ds floor rs)
of_retired c b ds floor [] = tt
of_retired c b ds floor (r ∷ rs) =
    joined c (gap floor r.was.block) _ (of_gap c floor r.was.block)
    (joined c (ended_notes c b ds r.was r.cause r.was.given) _ (of_ended c b ds r.was r.cause r.was.given)
    (of_retired c b (after_end ds r.was.given) (r.was.block + 1) rs))

of_kept : (c : AcqConfig) (x : Option StreamPacket) → OfInputs c (kept_note x)
of_kept c None = tt
of_kept c (Some (leader h i)) = (tt, tt)
of_kept c (Some (payload h d)) = tt
of_kept c (Some (trailer h y)) = tt
of_kept c (Some (notice h)) = tt

of_need : (c : AcqConfig) (x : Option StreamPacket) (need : Option Need) → OfInputs c (need_notes x need)
of_need c x None = tt
of_need c x (Some (Buffer b)) = tt
of_need c x (Some Done) = of_kept c x
of_need c x (Some (Ignored why)) = (tt, tt)

of_open : (c : AcqConfig) (b : Board) (ds : List (List Item)) (asked : Option ℕ) (given : Option Given) → OfInputs c (open_notes b ds asked given)
of_open c b ds None given = tt
of_open c b ds (Some block) given = joined c (drop_notes b (first_dropped ds)) _ (of_drops c b (first_dropped ds)) (tt, tt)

of_asks : (c : AcqConfig) (b round : ℕ) (rs : List (ℕ × ℕ)) → OfInputs c (ask_notes b round rs)
of_asks c b round [] = tt
of_asks c b round (r ∷ rs) = (tt, of_asks c b round rs)

of_rounds : (c : AcqConfig) (now : ℕ) (os : List Open) → OfInputs c (round_notes c now os)
of_rounds c now [] = tt
of_rounds c now (o ∷ os) = joined c (ask_notes o.block (o.rounds + 1) (ranges_asked c now o)) _ (of_asks c o.block (o.rounds + 1) (ranges_asked c now o)) (of_rounds c now os)

of_turn : (c : AcqConfig) (b : Board) (ds : List (List Item)) (s : State) (i : Input) (t : Turn) → OfInputs c (turn_notes c b ds s i t)
of_turn c b ds s (datagram bytes) t = joined c (need_notes (packet_of bytes) t.need) _ (of_need c (packet_of bytes) t.need) (of_retired c b ds s.floor t.retired)
of_turn c b ds s (claimed given) t = of_open c b ds s.asked given
of_turn c b ds s (tick moment) t =
    joined c (retired_notes c b ds s.floor t.retired) _ (of_retired c b ds s.floor t.retired)
    (of_rounds c t.after.now (settled c (record (unasked s) { now = t.after.now })).opens)
of_turn c b ds s stop t = of_retired c b ds s.floor t.retired
of_turn c b ds s restart t = tt

pub notes_are_of_inputs : (c : AcqConfig) (b : Board) (ds : List (List Item)) (s : State) (q : List Input) → AllByRecursion IsOfInput (notes_from c b ds s q)
notes_are_of_inputs c b ds s [] = tt
notes_are_of_inputs c b ds s (i ∷ q) =
    joined c (turn_notes c b ds s i (step c s i)) _ (of_turn c b ds s i (step c s i))
    (notes_are_of_inputs c b (after_turn ds s i (step c s i)) (step c s i).after q)
