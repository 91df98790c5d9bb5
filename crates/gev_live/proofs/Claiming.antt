-- A lane without a claim does nothing on the board.
use Rattle.std.proofs.Common.{◌≡◌, ◌⊎◌, inl, inr, ℕ, suc, ◌≤◌, false, List, [], ◌∷◌, ◌++◌, refl, sym, subst, arith}
use Rattle.board_machine.specs.declared.events.Entry.{Entry}
use Rattle.board_machine.specs.Places.{times}
use Rattle.board_machine.specs.Adding.{entries_of}
use Rattle.board_machine.specs.Histories.{own_of}
use Rattle.board_machine.specs.Kinds.{HasNone, is_taken}
use Rattle.acquisition_machine.specs.Machine.{stop}
use Rattle.acquisition_machine.specs.Runs.{first_state}
use Rattle.acquisition_machine.proofs.Window.{blocks_are_in_order}
use Rattle.board_calls.specs.declared.mode.Mode.{Mode}
use Rattle.gev_lanes.specs.declared.parts.ReaderLane.{ReaderLane}
use Rattle.gev_lanes.specs.Sides.{LaneEnd}
use Rattle.lane_reader.specs.LanesTurns.{ReaderTurn}
use Rattle.lane_crew.specs.Cells.{inputs_in}
use Rattle.gev_live.specs.Told.{live_config}
use Rattle.gev_live.specs.Acquirers.{is_claim, acquires}
use Rattle.gev_live.proofs.Splitting.{member_or}
use Rattle.gev_live.proofs.Acquiring.{TakesByAcquirers}
use Rattle.gev_live.proofs.Untaken.{IsIdle, serves_idle, own_unclaimed, lacks_entries}
use Rattle.gev_live.specs.LanesParts.{LaneShare, LanesShare}

lane_untaken : (mode : Mode) (n k a : ℕ) (made : List ReaderTurn) (sides : List ReaderLane) (e : LaneEnd) (h : List Entry) → LaneShare mode live_config n k a made sides e h
    → acquires h a ≡ false → HasNone is_taken (own_of a h)
lane_untaken mode n k a made sides e h share free =
    subst (HasNone is_taken) (sym share.part.home.did) (subst (λ l. HasNone is_taken (entries_of a l)) (sym idle.nothing) tt)
  where
    some : 1 ≤ live_config.window
    some = omega arith

    idle : IsIdle live_config first_state (inputs_in share.served ++ stop ∷ []) share.part.events
    idle =
        serves_idle mode live_config first_state (inputs_in share.served ++ stop ∷ []) share.part.events some (blocks_are_in_order live_config [] some) refl share.part.serves
        (lacks_entries is_claim a share.part.events (subst (HasNone is_claim) share.part.home.did (own_unclaimed a h free)))

pub lanes_untaken : (mode : Mode) (n k : ℕ) (lanes : List ℕ) (made : List ReaderTurn) (sides : List ReaderLane) (ends : List LaneEnd) (h : List Entry)
    → LanesShare mode live_config n k lanes made sides ends h → TakesByAcquirers (acquires h) lanes h
lanes_untaken mode n k [] made sides ends h shares i member free = absurd (omega (arith, member))
lanes_untaken mode n k (a ∷ lanes) made sides [] h shares i member free = absurd shares
lanes_untaken mode n k (a ∷ lanes) made sides (e ∷ es) h shares i member free = go (member_or i a lanes member) (λ more. lanes_untaken mode n (suc k) lanes made sides es h shares.1 i more free)
  where
    go : (i ≡ a) ⊎ (1 ≤ times i lanes) → (1 ≤ times i lanes → HasNone is_taken (own_of i h)) → HasNone is_taken (own_of i h)
    go (inl is) later = subst (λ j. HasNone is_taken (own_of j h)) (sym is) (lane_untaken mode n k a made sides e h shares.0 (subst (λ j. acquires h j ≡ false) is free))
    go (inr more) later = later more
