-- What others than the lanes took is what was handed out.
use Rattle.std.proofs.Common.{◌≡◌, ℕ, suc, ◌==◌, ◌||◌, Bool, false, List, [], ◌∷◌, refl, ap, subst, ◌∙◌, arith, ne_eqb}
use Rattle.board_machine.specs.declared.events.Entry.{Entry}
use Rattle.board_machine.specs.Places.{same, times}
use Rattle.board_machine.specs.Handout.{taken_items}
use Rattle.board_machine.proofs.Places.{same_self, times-append}
use Rattle.acquisition_machine.specs.declared.config.AcqConfig.{AcqConfig}
use Rattle.board_calls.specs.declared.mode.Mode.{Mode}
use Rattle.board_calls.specs.Dropped.{handed_out_items}
use Rattle.gev_lanes.specs.declared.parts.ReaderLane.{ReaderLane}
use Rattle.gev_lanes.specs.Sides.{LaneEnd}
use Rattle.lane_reader.specs.LanesTurns.{ReaderTurn}
use Rattle.gev_live.specs.Acquirers.{handed_out}
use Rattle.gev_live.specs.History.{live_size}
use Rattle.live_promises.specs.Headline.{is_acquirer}
use Rattle.live_promises.proofs.Accounts.{one_account}
use Rattle.gev_live.specs.LanesHistory.{LanesCrew, LanesHistory}
use Rattle.gev_live.specs.LanesParts.{LanesShare}
use Rattle.live_promises.specs.LanesPromises.{acquirers_in}
use Rattle.live_promises.proofs.LanesFilling.{is_lane}

or_false : (a b : Bool) → a ≡ false → b ≡ false → (a || b) ≡ false
or_false a b first second = ap (λ (x : Bool). x || b) first ∙ second

module _ (mode : Mode) (c : AcqConfig) (n : ℕ) (made : List ReaderTurn) (sides : List ReaderLane) (h : List Entry) where
  no_lane : (k : ℕ) (lanes : List ℕ) (ends : List LaneEnd) (shares : LanesShare mode c n k lanes made sides ends h) (i : ℕ) → times i lanes ≡ 0 → is_acquirer (acquirers_in mode c n k lanes made sides ends h shares) i ≡ false
  no_lane k [] ends shares i none = refl
  no_lane k (a ∷ lanes) [] shares i none = absurd shares
  no_lane k (a ∷ lanes) (e ∷ es) shares i none =
      or_false (is_acquirer (acquirers_in mode c n (suc k) lanes made sides es h shares.1) i) (i == a)
      (no_lane (suc k) lanes es shares.1 i (omega (arith, none)))
      (ne_eqb i a (λ its. let one : same i a ≡ 1 = subst (λ m. same i m ≡ 1) its (same_self i) in absurd (omega (arith, none, one))))

  pub lanes_account : (buffers : ℕ) (crew : LanesCrew) (ends : List LaneEnd) (shares : LanesShare mode c n 0 crew.lanes made sides ends h) → LanesHistory mode buffers crew h
      → handed_out h ≡ taken_items crew.application h → handed_out_items (is_acquirer (acquirers_in mode c n 0 crew.lanes made sides ends h shares)) h ≡ handed_out h
  lanes_account buffers crew ends shares history handed =
      one_account mode (is_acquirer (acquirers_in mode c n 0 crew.lanes made sides ends h shares)) crew.application crew.lanes live_size buffers history.prepared history.since h
      history.prepares history.begins history.takes (no_lane 0 crew.lanes ends shares crew.application apart) (is_lane mode c n made sides h 0 crew.lanes ends shares) handed
    where
      apart : times crew.application crew.lanes ≡ 0
      apart =
          omega (arith, history.apart crew.application, times-append crew.application crew.lanes (crew.application ∷ crew.reader ∷ crew.camera ∷ []), same_self crew.application)
