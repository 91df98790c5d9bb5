-- What each lane did, by what the reader brought to it and what it took.
use Rattle.std.proofs.Common.{◌≡◌, ℕ, zero, suc, ◌+◌, ◌≤◌, List, [], ◌∷◌, ◌++◌, length, Some, refl, ap, sym, ◌∙◌, subst, arith}
use Rattle.std.specs.Prelude.{slice_get}
use Rattle.atomic_table.specs.Seated.{TableId}
use Rattle.board_machine.specs.declared.events.Entry.{Entry}
use Rattle.acq_core.specs.Receiver.{config_of, Stands}
use Rattle.gev_lanes.specs.declared.cell.Cell.{Cell}
use Rattle.gev_lanes.specs.declared.parts.LaneQueues.{LaneQueues}
use Rattle.gev_lanes.specs.declared.parts.ReaderLane.{ReaderLane}
use Rattle.gev_lanes.specs.Sides.{IsNew, AreNew, Met, MetAt}
use Rattle.gev_lanes.specs.Messages.{message_of, messages, GoOn}
use Rattle.gev_lanes.specs.Acts.{Ends}
use Rattle.board_calls.specs.declared.mode.Mode.{Mode}
use Rattle.lane_reader.specs.LanesTurns.{ReaderTurn, Each}
use Rattle.lane_reader.specs.Brought.{IsSublist, datagrams_in, parts_of, news_of, Brought}
use Rattle.lane_reader.proofs.Bringing.{take_turns, turns_bring, take_all}
use Rattle.lane_crew.specs.Lane.{messages_in, ServesCells}
use Rattle.lane_crew.specs.declared.lane_tools.LaneTools.{LaneTools}
use Rattle.lane_crew.specs.Tools.{IsReady, AreReady, IsServed, AreServed, ends_in, IsJoined, AreJoined, AreMet}
use Rattle.lane_crew.specs.Reader.{BringsAll}
use Rattle.lane_crew.specs.Did.{LaneDid, LanesDid}
use Rattle.lane_crew.proofs.Parts.{part_of_lane}

-- ---- lists

some_same : {A : Type 0} (x y : A) → Some x ≡ Some y → x ≡ y
some_same x y e = cc

-- two lists that are the same have the same last members
record SameEnds {A : Type 0} (xs ys : List A) (x y : A) : Type 0 where
  before : xs ≡ ys
  last : x ≡ y

same_ends : {A : Type 0} (xs ys : List A) (x y : A) → xs ++ x ∷ [] ≡ ys ++ y ∷ [] → SameEnds xs ys x y
same_ends [] [] x y is = record { before = refl; last = cc }
same_ends [] (b ∷ []) x y is = absurd cc
same_ends [] (b ∷ c ∷ ys) x y is = absurd cc
same_ends (a ∷ []) [] x y is = absurd cc
same_ends (a ∷ c ∷ xs) [] x y is = absurd cc
same_ends {A} (a ∷ xs) (b ∷ ys) x y is = more a b xs ys x y (first is) (same_ends xs ys x y (rest_of is))
  where
    first : a ∷ (xs ++ x ∷ []) ≡ b ∷ (ys ++ y ∷ []) → a ≡ b
    first e = cc

    rest_of : a ∷ (xs ++ x ∷ []) ≡ b ∷ (ys ++ y ∷ []) → xs ++ x ∷ [] ≡ ys ++ y ∷ []
    rest_of e = cc

    more : (c d : A) (cs ds : List A) (v w : A) → c ≡ d → SameEnds cs ds v w → SameEnds (c ∷ cs) (d ∷ ds) v w
    more c d cs ds v w head rest = record { before = ap (λ z. z ∷ cs) head ∙ ap (λ l. d ∷ l) rest.before; last = rest.last }

-- ---- the end at one lane

ends_at : (i k : ℕ) (ss us : List ReaderLane) (s : ReaderLane) → Each (λ j. Ends 0) k ss us → slice_get ss i ≡ Some s
    → (u : ReaderLane) × (slice_get us i ≡ Some u) × Ends 0 s u
ends_at i k [] us s each at = let bad : ⊥ = none at in absurd bad
  where
    none : slice_get [] i ≡ Some s → ⊥
    none e = cc
ends_at i k (x ∷ ss) [] s each at = absurd each
ends_at zero k (x ∷ ss) (t ∷ ts) s each at = (t, refl, subst (λ y. Ends 0 y t) (some_same x s at) each.0)
ends_at (suc i) k (x ∷ ss) (t ∷ ts) s each at = ends_at i (suc k) ss ts s each.1 at

-- ---- one lane

-- all cells of a lane, as the reader gave them and as the lane took them
record AllTaken (brought : List Cell) (e : Cell) (side : ReaderLane) (cells : List Cell) (last : Cell) : Type 0 where
  given : side.cells.given ≡ brought ++ e ∷ []
  same : SameEnds cells brought last e

all_taken : (mode : Mode) (s b side : ReaderLane) (x y : LaneTools) (parts : List (List ℕ)) (news : List _) (q : LaneQueues) (k : ℕ) (New : List _ → Type 0)
    → IsNew q s x.ends k → (brings : Brought parts news s b) → (ends : Ends 0 b side) → Met side y.ends.hands
    → (so : ServesCells mode (config_of x.acq) (Stands x.acq) New x.ends y.ends x.pass y.pass)
    → AllTaken brings.cells ends.cell side so.cells so.last
all_taken mode s b side x y parts news q k New new brings ends met so = record {
  given = given;
  same = same_ends so.cells brings.cells so.last ends.cell
      (take_all so.cells brings.cells so.last ends.cell so.go_on so.ends brings.go_on
      (record { rest = met.cells.rest; is = sym given ∙ (met.cells.is ∙ ap (λ l. l ++ met.cells.rest) taken) }));
}
  where
    given : side.cells.given ≡ brings.cells ++ ends.cell ∷ []
    given =
        ap (λ (r : ReaderLane). r.cells.given) ends.is
        ∙ (ap (λ l. l ++ ends.cell ∷ []) (ap (λ g. g.given) brings.given)
        ∙ ap (λ l. (l ++ brings.cells) ++ ends.cell ∷ []) new.none_sent)

    taken : y.ends.hands.cells.taken ≡ so.cells ++ so.last ∷ []
    taken = ap (λ t. t.taken) so.taken ∙ ap (λ l. l ++ (so.cells ++ so.last ∷ [])) new.none_come

-- the side at which the lane met the reader is the lane's
side_is : (us : List ReaderLane) (k number : ℕ) (u side : ReaderLane) → number ≡ k → slice_get us k ≡ Some u → slice_get us number ≡ Some side → side ≡ u
side_is us k number u side is at met = some_same side u (sym met ∙ (ap (λ j. slice_get us j) is ∙ at))

no_more : (k m n : ℕ) → k ≡ m + n → m ≡ 0 → k ≡ n
no_more k m n is none = omega (arith, is, none)

lane_did : (mode : Mode) (n k : ℕ) (made : List ReaderTurn) (ss us : List ReaderLane) (board : TableId) (qs : List LaneQueues) (q : LaneQueues) (s : ReaderLane) (x y : LaneTools) (h : List Entry)
    → IsNew q s x.ends k → slice_get ss k ≡ Some s → BringsAll n made ss us → IsReady board qs x → IsServed mode qs x y → IsJoined h y → MetAt us y.ends
    → LaneDid mode n k made us x h
lane_did mode n k made ss us board qs q s x y h new at lanes ready served joined met =
    let turned = take_turns n k made ss lanes.before s lanes.turns at in
    let brings : Brought (parts_of n k made) (news_of n k made) s turned.0 = turns_bring n k made s turned.0 turned.2 in
    let end = ends_at k 0 lanes.before us turned.0 lanes.ends turned.1 in
    let side : met.side ≡ end.0 = side_is us k y.ends.number end.0 met.side (served.serves.number ∙ new.numbered) end.1 met.at in
    let so : Met end.0 y.ends.hands = subst (λ r. Met r y.ends.hands) side met.met in
    let all : AllTaken brings.cells end.2.cell end.0 served.serves.cells served.serves.last =
    all_taken mode s turned.0 end.0 x y (parts_of n k made) (news_of n k made) q k (Stands y.acq) new brings end.2 so served.serves in
    let are : messages_in served.serves.served ≡ messages brings.cells = served.serves.are ∙ ap messages all.same.before in
    let misses : end.0.free.misses ≡ brings.misses =
    no_more end.0.free.misses s.free.misses brings.misses (ap (λ (r : ReaderLane). r.free.misses) end.2.is ∙ ap (λ f. f.misses) brings.taken) new.none_missed in
    record {
      served = served.serves.served;
      heard = record {
        go_on = subst GoOn (sym are) brings.go_on;
        datagrams = subst (λ l. IsSublist (datagrams_in l) (parts_of n k made)) (sym are) brings.datagrams;
        news = subst (λ l. IsSublist l (news_of n k made)) (sym are) brings.news_are;
      };
      queued = record {
        cells = served.serves.cells;
        last = served.serves.last;
        are = served.serves.are;
        ends = ap message_of all.same.last ∙ end.2.message;
        side = end.0;
        at = end.1;
        all = all.given ∙ (ap (λ l. l ++ end.2.cell ∷ []) (sym all.same.before) ∙ ap (λ z. served.serves.cells ++ z ∷ []) (sym all.same.last));
        left_out = subst (λ l. length (parts_of n k made) ≤ length (datagrams_in l) + end.0.free.misses) (sym are)
            (subst (λ m. length (parts_of n k made) ≤ length (datagrams_in (messages brings.cells)) + m) (sym misses) brings.left_out);
        hands = y.ends.hands;
        taken = served.serves.taken;
        given_back = served.serves.given_back;
        puts = served.serves.puts [] ready.new;
        met = so;
      };
      part = part_of_lane mode x y h ready.unborn ready.new served.serves joined;
    }

-- ---- all lanes

pub lanes_did : (mode : Mode) (n k : ℕ) (made : List ReaderTurn) (ss us rest : List ReaderLane) (board : TableId) (qs later : List LaneQueues) (xs ys : List LaneTools) (h : List Entry)
    → AreNew k later rest (ends_in xs) → ((j : ℕ) → slice_get rest j ≡ slice_get ss (k + j)) → BringsAll n made ss us → AreReady board qs xs → AreServed mode qs xs ys
    → AreJoined h ys → AreMet us ys → LanesDid mode n k made us xs h
lanes_did mode n k made ss us rest board qs later [] ys h new at lanes ready served joined met = tt
lanes_did mode n k made ss us rest board qs later (x ∷ xs) [] h new at lanes ready served joined met = absurd served
lanes_did mode n k made ss us [] board qs [] (x ∷ xs) (y ∷ ys) h new at lanes ready served joined met = absurd new
lanes_did mode n k made ss us (s ∷ rest) board qs [] (x ∷ xs) (y ∷ ys) h new at lanes ready served joined met = absurd new
lanes_did mode n k made ss us [] board qs (q ∷ later) (x ∷ xs) (y ∷ ys) h new at lanes ready served joined met = absurd new
lanes_did mode n k made ss us (s ∷ rest) board qs (q ∷ later) (x ∷ xs) (y ∷ ys) h new at lanes ready served joined met = (
  lane_did mode n k made ss us board qs q s x y h new.0 (sym (at 0 ∙ ap (λ j. slice_get ss j) (here k))) lanes ready.0 served.0 joined.0 met.0,
  lanes_did mode n (suc k) made ss us rest board qs later xs ys h new.1 (λ j. at (suc j) ∙ ap (λ i. slice_get ss i) (next k j)) lanes ready.1 served.1 joined.1 met.1,
)
  where
    here : (a : ℕ) → a + 0 ≡ a
    here a = omega arith

    next : (a b : ℕ) → a + suc b ≡ suc a + b
    next a b = omega arith
