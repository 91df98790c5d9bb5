-- Lists of lanes' tools.
use Rattle.std.proofs.Common.{◌≡◌, List, [], ◌∷◌, ◌++◌, refl, ap, sym, subst, ◌∙◌}
use Rattle.atomic_table.specs.Seated.{TableId}
use Rattle.buffer_words.specs.Passes.{Token, IsEmptyHanded}
use Rattle.acquisition_machine.specs.Blocks.{Given}
use Rattle.gev_acq.specs.Buffers.{HoldsAlone}
use Rattle.gev_lanes.specs.declared.parts.LaneQueues.{LaneQueues}
use Rattle.board_calls.specs.declared.mode.Mode.{Mode}
use Rattle.lane_crew.specs.declared.lane_tools.LaneTools.{LaneTools}
use Rattle.lane_crew.specs.Tools.{IsReady, AreReady, IsServed, AreServed, AreBack, ends_in}

pub ready_last : (board : TableId) (qs : List LaneQueues) (xs : List LaneTools) (x : LaneTools) → AreReady board qs (xs ++ x ∷ []) → AreReady board qs xs × IsReady board qs x
ready_last board qs [] x all = (tt, all.0)
ready_last board qs (y ∷ xs) x all = let rest = ready_last board qs xs x all.1 in ((all.0, rest.0), rest.1)

pub ready_more : (board : TableId) (qs : List LaneQueues) (xs : List LaneTools) (x : LaneTools) → AreReady board qs xs → IsReady board qs x → AreReady board qs (xs ++ x ∷ [])
ready_more board qs [] x all one = (one, tt)
ready_more board qs (y ∷ xs) x all one = (all.0, ready_more board qs xs x all.1 one)

pub ends_more : (xs : List LaneTools) (x : LaneTools) → ends_in (xs ++ x ∷ []) ≡ ends_in xs ++ x.ends ∷ []
ends_more [] x = refl
ends_more (y ∷ xs) x = ap (λ l. y.ends ∷ l) (ends_more xs x)

pub served_last : (mode : Mode) (qs : List LaneQueues) (xs ys : List LaneTools) (x y : LaneTools) → AreServed mode qs xs ys → IsServed mode qs x y → AreServed mode qs (xs ++ x ∷ []) (ys ++ y ∷ [])
served_last mode qs [] [] x y all one = (one, tt)
served_last mode qs [] (z ∷ ys) x y all one = absurd all
served_last mode qs (z ∷ xs) [] x y all one = absurd all
served_last mode qs (z ∷ xs) (w ∷ ys) x y all one = (all.0, served_last mode qs xs ys x y all.1 one)

pub served_back : (mode : Mode) (board : TableId) (qs : List LaneQueues) (xs ys : List LaneTools) → AreReady board qs xs → AreServed mode qs xs ys → AreBack board qs ys
served_back mode board qs [] [] ready served = tt
served_back mode board qs [] (y ∷ ys) ready served = absurd served
served_back mode board qs (x ∷ xs) [] ready served = absurd served
served_back mode board qs (x ∷ xs) (y ∷ ys) ready served =
    (record { table = served.0.table ∙ ready.0.table; empty = served.0.empty; lane = served.0.lane }, served_back mode board qs xs ys ready.1 served.1)

pub alone_none : (s : Token) (gs : List Given) → gs ≡ [] → IsEmptyHanded s → HoldsAlone s gs
alone_none s gs none empty = subst (HoldsAlone s) (sym none) (λ i some. absurd (some (empty i)))
