-- The lanes come home one after another, the last one first.
use Rattle.std.proofs.Common.{◌≡◌, List, [], ◌∷◌, ◌++◌, refl, ap, sym, ◌∙◌, subst, append_assoc}
use Rattle.std.proofs.lemmas.List.{append-nil}
use Rattle.atomic_table.specs.Seated.{TableId}
use Rattle.board_machine.specs.declared.events.Entry.{Entry}
use Rattle.board_machine.specs.declared.events.Event.TheVariants.{Join}
use Rattle.board_machine.specs.Machine.{entry}
use Rattle.board_machine.specs.Histories.{Run}
use Rattle.buffer_words.specs.Passes.{Token, Enters}
use Rattle.buffer_words.specs.Several.{EntersEach}
use Rattle.buffer_words.proofs.Several.{each_none, each_push}
use Rattle.buffer_words.proofs.Working.{own_for_good}
use Rattle.gev_lanes.specs.declared.parts.LaneQueues.{LaneQueues}
use Rattle.gev_lanes.specs.declared.parts.ReaderLane.{ReaderLane}
use Rattle.gev_lanes.specs.Sides.{MetAt}
use Rattle.lane_crew.specs.declared.lane_tools.LaneTools.{LaneTools}
use Rattle.lane_crew.specs.Tools.{IsBack, AreBack, IsJoined, AreJoined, AreMet, joins_of}
use Rattle.lane_crew.proofs.Staying.{ended_on}

joined_on : (seen more later : List Entry) (y : LaneTools) → later ≡ seen ++ more → Run later → IsJoined seen y → IsJoined later y
joined_on seen more later y is run joined = subst (λ l. IsJoined l y) (sym is) (record {
  front = record { rest = joined.front.rest ++ more; is = ap (λ l. l ++ more) joined.front.is ∙ append_assoc y.pass.seen joined.front.rest more };
  own_is = own_for_good y.pass.number seen _ joined.ended joined.own_is more whole;
  ended = ended_on seen more y.pass.number whole joined.ended;
})
  where
    whole : Run (seen ++ more)
    whole = subst Run is run

all_on : (seen more later : List Entry) (ys : List LaneTools) → later ≡ seen ++ more → Run later → AreJoined seen ys → AreJoined later ys
all_on seen more later [] is run all = tt
all_on seen more later (y ∷ ys) is run all = (joined_on seen more later y is run all.0, all_on seen more later ys is run all.1)

back_last : (board : TableId) (qs : List LaneQueues) (xs : List LaneTools) (x : LaneTools) → AreBack board qs (xs ++ x ∷ []) → AreBack board qs xs × IsBack board qs x
back_last board qs [] x all = (tt, all.0)
back_last board qs (y ∷ xs) x all = let rest = back_last board qs xs x all.1 in ((all.0, rest.0), rest.1)

-- Of these lanes those at the end are home, and the others are left.
pub record IsHoming (board : TableId) (qs : List LaneQueues) (us : List ReaderLane) (all left : List LaneTools) (s t : Token) : Type 0 where
  pub home : List LaneTools
  pub is : all ≡ left ++ home
  pub back : AreBack board qs left
  pub enters : EntersEach s (joins_of home) t
  pub joined : AreJoined t.seen home
  pub met : AreMet us home

pub homing_begins : (board : TableId) (qs : List LaneQueues) (us : List ReaderLane) (all : List LaneTools) (s : Token) → AreBack board qs all → IsHoming board qs us all all s s
homing_begins board qs us all s back = record { home = []; is = sym (append-nil all); back = back; enters = each_none s; joined = tt; met = tt }

pub one_left : (board : TableId) (qs : List LaneQueues) (us : List ReaderLane) (all left rest : List LaneTools) (x : LaneTools) (s t : Token)
    → IsHoming board qs us all left s t → left ≡ rest ++ x ∷ [] → IsBack board qs x
one_left board qs us all left rest x s t so is = (back_last board qs rest x (subst (AreBack board qs) is so.back)).1

pub homing_goes_on : (board : TableId) (qs : List LaneQueues) (us : List ReaderLane) (all left rest : List LaneTools) (x : LaneTools) (s t u : Token)
    → IsHoming board qs us all left s t → left ≡ rest ++ x ∷ [] → Enters t (Join x.pass.number) u → IsJoined u.seen x → MetAt us x.ends
    → IsHoming board qs us all rest s u
homing_goes_on board qs us all left rest x s t u so is enters joined met = record {
  home = x ∷ so.home;
  is = so.is ∙ (ap (λ l. l ++ so.home) is ∙ append_assoc rest (x ∷ []) so.home);
  back = (back_last board qs rest x (subst (AreBack board qs) is so.back)).0;
  enters = each_push s t u (joins_of so.home) (Join x.pass.number) so.enters enters refl;
  joined = (
    joined,
    all_on t.seen (enters.between ++ entry t.number (Join x.pass.number) ∷ []) u.seen so.home
        (enters.seen ∙ append_assoc t.seen enters.between (entry t.number (Join x.pass.number) ∷ [])) enters.run so.joined,
  );
  met = (met, so.met);
}

pub homing_ends : (board : TableId) (qs : List LaneQueues) (us : List ReaderLane) (all left : List LaneTools) (s t : Token) → IsHoming board qs us all left s t → left ≡ []
    → EntersEach s (joins_of all) t × (AreJoined t.seen all) × AreMet us all
homing_ends board qs us all left s t so none =
    (subst (λ l. EntersEach s (joins_of l) t) (sym same) so.enters, subst (AreJoined t.seen) (sym same) so.joined, subst (AreMet us) (sym same) so.met)
  where
    same : all ≡ so.home
    same = so.is ∙ ap (λ l. l ++ so.home) none
