-- What is done at one lane's ends, and that the ends stay that lane's.
use Rattle.std.proofs.Common.{◌≡◌, ℕ, zero, suc, ◌<◌, Bool, true, false, List, [], ◌∷◌, length, get_or, Option, Some, None, refl, ap, sym, ◌∙◌, subst, inl, inr, arith}
use Rattle.std.specs.Prelude.{slice_get, slice_set, nat_lt, MatchBool, IsSome}
use Rattle.gev_lanes.specs.LineEnds.{GiverEnd, TakerEnd, gave, took}
use Rattle.gev_lanes.specs.declared.cell.Cell.{Cell}
use Rattle.gev_lanes.specs.declared.parts.LaneQueues.{LaneQueues}
use Rattle.gev_lanes.specs.declared.parts.ReaderLane.{ReaderLane}
use Rattle.gev_lanes.specs.Sides.{LaneEnd, IsReaderOf, IsLaneOf, AreReadersOf, KeptAt, IsLaneAt}
use Rattle.gev_lanes.specs.Messages.{Message, told, message_of}
use Rattle.gev_lanes.specs.Acts.{Brings, BringsKept, Tries, TriesTo, Ticks, Asked, DoesAt, with_taken, with_freed, Puts, PutsOne}
use Rattle.gev_lanes.proofs.News.{get_at, reader_or, readers_length}

-- ---- the reader at one lane

pub brought : (m : Message) (s : ReaderLane) (free cell : Cell) (f : TakerEnd Cell) (cs : GiverEnd Cell)
    → message_of cell ≡ m → f ≡ took s.free (free ∷ []) → cs ≡ gave s.cells (cell ∷ [])
    → Brings m s (record { free = f; cells = cs; requests = s.requests; kept = s.kept; last = m.moment })
brought m s free cell f cs says taken given = record {
  free = free;
  cell = cell;
  message = says;
  is = ap (λ x. side x cs) taken ∙ ap (λ x. side (took s.free (free ∷ [])) x) given;
}
  where
    side : TakerEnd Cell → GiverEnd Cell → ReaderLane
    side x y = record { free = x; cells = y; requests = s.requests; kept = s.kept; last = m.moment }

pub brings_keep : (q : LaneQueues) (m : Message) (s t : ReaderLane) → IsReaderOf q s → Brings m s t → IsReaderOf q t
brings_keep q m s t is brings =
    subst (IsReaderOf q) (sym brings.is) (record { free = is.free; cells = is.cells; requests = is.requests; least = is.least })

pub kept_given : (m : Message) (s : ReaderLane) (kept cell : Cell) (left : Option Cell) (cs : GiverEnd Cell)
    → s.kept ≡ Some kept → left ≡ None → message_of cell ≡ m → cs ≡ gave s.cells (cell ∷ [])
    → BringsKept m s (record { free = s.free; cells = cs; requests = s.requests; kept = left; last = m.moment })
kept_given m s kept cell left cs had gone says given = record {
  kept = kept;
  had = had;
  cell = cell;
  message = says;
  is = ap (λ x. side cs x) gone ∙ ap (λ x. side x None) given;
}
  where
    side : GiverEnd Cell → Option Cell → ReaderLane
    side x k = record { free = s.free; cells = x; requests = s.requests; kept = k; last = m.moment }

pub kept_keeps : (q : LaneQueues) (m : Message) (s t : ReaderLane) → IsReaderOf q s → BringsKept m s t → IsReaderOf q t
kept_keeps q m s t is brings =
    subst (IsReaderOf q) (sym brings.is) (record { free = is.free; cells = is.cells; requests = is.requests; least = is.least })

pub tries_keep : (q : LaneQueues) (m : Message) (brought_so : Bool) (s t : ReaderLane) → IsReaderOf q s → Tries m brought_so s t → IsReaderOf q t
tries_keep q m true s t is tries = brings_keep q m s t is tries
tries_keep q m false s t is tries =
    subst (IsReaderOf q) (sym tries.is) (record { free = is.free; cells = is.cells; requests = is.requests; least = is.least })

pub ticks_keep : (q : LaneQueues) (moment : ℕ) (s t : ReaderLane) → IsReaderOf q s → Ticks moment s t → IsReaderOf q t
ticks_keep q moment s t is ticks = go (nat_lt s.last moment) ticks
  where
    go : (b : Bool) → MatchBool b (TriesTo (record { moment = moment; says = told }) s t) (t ≡ s) → IsReaderOf q t
    go true tries = tries_keep q (record { moment = moment; says = told }) tries.brought s t is tries.tries
    go false same = subst (IsReaderOf q) (sym same) is

pub asked_keep : (q : LaneQueues) (request : Option (List ℕ)) (s t : ReaderLane) → IsReaderOf q s → Asked request s t → IsReaderOf q t
asked_keep q None s t is none =
    subst (IsReaderOf q) (sym none.is) (record { free = is.free; cells = is.cells; requests = is.requests; least = is.least })
asked_keep q (Some request) s t is one =
    subst (IsReaderOf q) (sym one) (record { free = is.free; cells = is.cells; requests = is.requests; least = is.least })

-- ---- one of the lanes

pub set_readers : (qs : List LaneQueues) (ss : List ReaderLane) (k : ℕ) (q : LaneQueues) (t : ReaderLane) → AreReadersOf qs ss → k < length qs
    → IsReaderOf (get_or qs k q) t → AreReadersOf qs (slice_set ss k t)
set_readers [] ss k q t all few is = absurd (omega arith)
set_readers (x ∷ qs) [] k q t all few is = absurd all
set_readers (x ∷ qs) (y ∷ ss) zero q t all few is = (is, all.1)
set_readers (x ∷ qs) (y ∷ ss) (suc k) q t all few is = (all.0, set_readers qs ss k q t all.1 (omega (arith, few)) is)

get_here : {A : Type 0} (xs : List A) (k : ℕ) (d : A) → k < length xs → slice_get xs k ≡ Some (get_or xs k d)
get_here [] k d few = absurd (omega arith)
get_here (y ∷ xs) zero d few = refl
get_here (y ∷ xs) (suc k) d few = get_here xs k d (omega (arith, few))

-- the reader's ends of the lane with this number
pub reader_here : (qs : List LaneQueues) (ss : List ReaderLane) (k : ℕ) (q : LaneQueues) (s : ReaderLane) → AreReadersOf qs ss → k < length qs
    → q ≡ get_or qs k q → IsReaderOf q (get_or ss k s)
reader_here qs ss k q s all few here = subst (λ x. IsReaderOf x (get_or ss k s)) (sym here) (reader_or qs ss k q s all few)

pub does_here : (Does : ReaderLane → ReaderLane → Type 0) (qs : List LaneQueues) (ss : List ReaderLane) (k : ℕ) (s t : ReaderLane) → AreReadersOf qs ss
    → k < length qs → Does (get_or ss k s) t → DoesAt Does k ss (slice_set ss k t)
does_here Does qs ss k s t all few does = record {
  side = get_or ss k s;
  at = get_here ss k s (omega (arith, few, readers_length qs ss all));
  after = t;
  does = does;
  is = refl;
}

pub keeps_here : (qs : List LaneQueues) (ss : List ReaderLane) (k : ℕ) (q : LaneQueues) (t : ReaderLane) → AreReadersOf qs ss → k < length qs
    → q ≡ get_or qs k q → IsReaderOf q t → AreReadersOf qs (slice_set ss k t)
keeps_here qs ss k q t all few here is = set_readers qs ss k q t all few (subst (λ x. IsReaderOf x t) here is)

-- the cell for this lane's end is kept
pub kept_here : (ss : List ReaderLane) (k : ℕ) (s : ReaderLane) → KeptAt k ss → IsSome (get_or ss k s).kept
kept_here ss k s at = subst (λ x. IsSome x.kept) (sym (get_at ss k at.side s at.at)) at.kept

-- ---- the lane

some_same : {A : Type 0} (x y : A) → Some x ≡ Some y → x ≡ y
some_same x y e = cc

pub lane_here : (qs : List LaneQueues) (e : LaneEnd) (q : LaneQueues) → IsLaneAt qs e → slice_get qs e.number ≡ Some q → IsLaneOf q e.hands
lane_here qs e q is here = subst (λ x. IsLaneOf x e.hands) (some_same is.queues q (sym is.at ∙ here)) is.lane_of

pub taken_keeps : (qs : List LaneQueues) (e : LaneEnd) (cell : Cell) → IsLaneAt qs e → IsLaneAt qs (with_taken e cell)
taken_keeps qs e cell is = record {
  queues = is.queues;
  at = is.at;
  lane_of = record { free = is.lane_of.free; cells = is.lane_of.cells; requests = is.lane_of.requests };
}

pub freed_keeps : (qs : List LaneQueues) (e : LaneEnd) (cell : Cell) → IsLaneAt qs e → IsLaneAt qs (with_freed e cell)
freed_keeps qs e cell is = record {
  queues = is.queues;
  at = is.at;
  lane_of = record { free = is.lane_of.free; cells = is.lane_of.cells; requests = is.lane_of.requests };
}

pub puts_keeps : (qs : List LaneQueues) (request : List ℕ) (e f : LaneEnd) → IsLaneAt qs e → PutsOne request e f → IsLaneAt qs f
puts_keeps qs request e f is puts = subst (IsLaneAt qs) (sym puts.is) (record {
  queues = is.queues;
  at = is.at;
  lane_of = record { free = is.lane_of.free; cells = is.lane_of.cells; requests = line puts.puts };
})
  where
    line : Puts request e.hands.requests puts.requests → puts.requests.line ≡ is.queues.requests.table
    line (inl given) = ap (λ x. x.line) given ∙ is.lane_of.requests
    line (inr left) = ap (λ x. x.line) left.0 ∙ is.lane_of.requests
