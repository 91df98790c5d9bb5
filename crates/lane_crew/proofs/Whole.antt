-- The whole of it, up to the stop.
use Rattle.std.proofs.Common.{◌≡◌, ℕ, suc, ◌+◌, false, List, [], ◌∷◌, ◌++◌, length, Result, refl, ap, sym, ◌∙◌, subst, append_assoc, arith}
use Rattle.std.specs.Prelude.{slice_get}
use Rattle.atomic_table.specs.Seated.{TableId}
use Rattle.board_machine.specs.declared.events.Event.TheVariants.{Join, Stop}
use Rattle.gev_links.specs.Links.{Address}
use Rattle.buffer_words.specs.Passes.{Token, Enters}
use Rattle.buffer_words.specs.Several.{EntersEach}
use Rattle.buffer_words.specs.Workers.{Works}
use Rattle.buffer_words.proofs.Several.{each_one, each_then}
use Rattle.buffer_words.proofs.Working.{works_each, works_then}
use Rattle.gev_control.specs.declared.acq_end.AcqEnd.{AcqEnd}
use Rattle.gev_acq.specs.Turns.{Outside}
use Rattle.gev_lanes.specs.declared.parts.LaneQueues.{LaneQueues}
use Rattle.gev_lanes.specs.declared.parts.ReaderLane.{ReaderLane}
use Rattle.gev_lanes.specs.Sides.{LaneEnd, AreKept, AreNew}
use Rattle.board_calls.specs.declared.mode.Mode.{Mode}
use Rattle.lane_reader.specs.Reads.{looks_in}
use Rattle.lane_crew.specs.declared.lane_tools.LaneTools.{LaneTools}
use Rattle.lane_crew.specs.Kinds.{is_lane_readers}
use Rattle.lane_crew.specs.Tools.{AreReady, AreServed, ends_in, AreJoined, AreMet, joins_of}
use Rattle.lane_crew.specs.Reader.{ReadsAll}
use Rattle.lane_crew.specs.Crew.{ReadsByLanes}
use Rattle.lane_crew.proofs.OfKind.{both_are, looks_are, last_is, joins_are}
use Rattle.lane_crew.proofs.Lanes.{lanes_did}

-- a lane's pass keeps its number
same_joins : (mode : Mode) (qs : List LaneQueues) (xs ys : List LaneTools) → AreServed mode qs xs ys → joins_of ys ≡ joins_of xs
same_joins mode qs [] [] served = refl
same_joins mode qs [] (y ∷ ys) served = absurd served
same_joins mode qs (x ∷ xs) [] served = absurd served
same_joins mode qs (x ∷ xs) (y ∷ ys) served =
    ap (λ l. l ++ Join y.pass.number ∷ []) (same_joins mode qs xs ys served.1) ∙ ap (λ a. joins_of xs ++ Join a ∷ []) served.0.serves.serves.enters.number

new_count : (k : ℕ) (qs : List LaneQueues) (ss : List ReaderLane) (xs : List LaneTools) → AreNew k qs ss (ends_in xs) → length qs ≡ length xs
new_count k [] [] [] new = refl
new_count k [] [] (x ∷ xs) new = absurd new
new_count k [] (s ∷ ss) [] new = absurd new
new_count k [] (s ∷ ss) (x ∷ xs) new = absurd new
new_count k (q ∷ qs) [] [] new = absurd new
new_count k (q ∷ qs) [] (x ∷ xs) new = absurd new
new_count k (q ∷ qs) (s ∷ ss) [] new = absurd new
new_count k (q ∷ qs) (s ∷ ss) (x ∷ xs) new = ap suc (new_count (suc k) qs ss xs new.1)

pub new_kept : (k : ℕ) (qs : List LaneQueues) (ss : List ReaderLane) (es : List LaneEnd) → AreNew k qs ss es → AreKept ss
new_kept k [] [] [] new = tt
new_kept k [] [] (e ∷ es) new = absurd new
new_kept k [] (s ∷ ss) es new = absurd new
new_kept k (q ∷ qs) [] es new = absurd new
new_kept k (q ∷ qs) (s ∷ ss) [] new = absurd new
new_kept k (q ∷ qs) (s ∷ ss) (e ∷ es) new = (new.0.end_there, new_kept (suc k) qs ss es new.1)

pub crew_reads : (mode : Mode) (camera stream : Address) (o m : Outside) (board : TableId) (qs : List LaneQueues) (ss us : List ReaderLane) (xs ys : List LaneTools) (turns : ℕ) (end : AcqEnd)
    (answer : Result (Unit {0}) ℕ) (s t u v : Token) → AreNew 0 qs ss (ends_in xs) → AreReady board qs xs → ReadsAll (length qs) camera stream o m turns end ss us s t
    → AreServed mode qs xs ys → EntersEach t (joins_of ys) u → AreJoined u.seen ys → AreMet us ys → Enters u (Stop false answer) v
    → ReadsByLanes mode camera stream o m ss xs turns end s v
crew_reads mode camera stream o m board qs ss us xs ys turns end answer s t u v new ready reads served joins joined met stops = record {
  made = so.made;
  last = so.last;
  on = so.on;
  after = us;
  lanes = so.lanes;
  answer = answer;
  joined = u;
  enters = subst (λ l. EntersEach s l u) (append_assoc (looks_in so.made) so.last (joins_of xs))
      (each_then s t u (looks_in so.made ++ so.last) (joins_of xs) so.enters (subst (λ l. EntersEach t l u) (same_joins mode qs xs ys served) joins));
  did = lanes_did mode (length xs) 0 so.made ss us ss board qs qs xs ys u.seen new (λ j. ap (λ i. slice_get ss i) (sym (at_zero j))) so.lanes ready served joined met;
  stops = each_one u v (Stop false answer) stops refl;
  run = stops.run;
}
  where
    at_zero : (j : ℕ) → 0 + j ≡ j
    at_zero j = omega arith

    so : ReadsAll (length xs) camera stream o m turns end ss us s t
    so = subst (λ n. ReadsAll n camera stream o m turns end ss us s t) (new_count 0 qs ss xs new) reads

pub crew_works : (mode : Mode) (camera stream : Address) (o m : Outside) (ss : List ReaderLane) (xs : List LaneTools) (turns : ℕ) (end : AcqEnd) (s t : Token)
    → ReadsByLanes mode camera stream o m ss xs turns end s t → Works is_lane_readers s t
crew_works mode camera stream o m ss xs turns end s t reads =
    works_then is_lane_readers s reads.joined t
    (works_each is_lane_readers s reads.joined (looks_in reads.made ++ (reads.last ++ joins_of xs))
    (both_are is_lane_readers (looks_in reads.made) (reads.last ++ joins_of xs) (looks_are reads.made)
    (both_are is_lane_readers reads.last (joins_of xs) (last_is end reads.last reads.on.looks) (joins_are xs))) reads.enters)
    (works_each is_lane_readers reads.joined t (Stop false reads.answer ∷ []) (refl, tt) reads.stops)
