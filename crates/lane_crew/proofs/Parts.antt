-- A lane's part in the history in which its pass was joined.
use Rattle.std.proofs.Common.{◌≡◌, List, [], ◌∷◌, ◌++◌, refl, ap, sym, ◌∙◌, subst}
use Rattle.board_machine.specs.declared.events.Entry.{Entry}
use Rattle.board_machine.specs.declared.events.Event.{Event}
use Rattle.board_machine.specs.Machine.{empty_board}
use Rattle.board_machine.specs.Histories.{own_of, After}
use Rattle.board_machine.specs.Adding.{entries_of}
use Rattle.board_machine.specs.Laws.{IsEnded}
use Rattle.board_machine.proofs.Runs.{own_of-append}
use Rattle.acquisition_machine.specs.Machine.{Input, datagram, claimed, tick, stop, restart}
use Rattle.acquisition_machine.specs.Runs.{first_state}
use Rattle.acq_core.specs.Receiver.{config_of, Stands}
use Rattle.buffer_words.specs.Passes.{Token, own}
use Rattle.buffer_words.specs.Several.{EntersEach}
use Rattle.buffer_words.proofs.Working.{are_of_entries}
use Rattle.board_calls.specs.declared.mode.Mode.{Mode}
use Rattle.gev_acq.specs.Claims.{claims_in, claims_by}
use Rattle.gev_acq.proofs.Whole.{claims_whole}
use Rattle.lane_crew.specs.Cells.{inputs_in}
use Rattle.lane_crew.specs.Lane.{ServesCells}
use Rattle.lane_crew.specs.declared.lane_tools.LaneTools.{LaneTools}
use Rattle.lane_crew.specs.Kinds.{is_lanes}
use Rattle.lane_crew.specs.Tools.{IsJoined}
use Rattle.lane_crew.specs.Did.{LanePart}
use Rattle.lane_crew.proofs.OfKind.{served_are}

-- all that a new pass did is what it entered
own_entered : (s t : Token) (events : List Event) → own s ≡ [] → EntersEach s events t → own t ≡ entries_of s.number events
own_entered s t events none e =
    ap (λ n. own_of n t.seen) e.number
    ∙ (ap (λ l. own_of s.number l) e.seen
    ∙ (own_of-append s.number s.seen e.between ∙ (ap (λ l. l ++ own_of s.number e.between) none ∙ e.own)))

-- a stop claims nothing
claims_stop : (is : List Input) → claims_in (is ++ stop ∷ []) ≡ claims_in is
claims_stop [] = refl
claims_stop (datagram bytes ∷ is) = claims_stop is
claims_stop (claimed given ∷ is) = ap (λ l. given ∷ l) (claims_stop is)
claims_stop (tick moment ∷ is) = claims_stop is
claims_stop (stop ∷ is) = claims_stop is
claims_stop (restart ∷ is) = claims_stop is

pub part_of_lane : (mode : Mode) (x y : LaneTools) (h : List Entry) → own x.pass ≡ [] → Stands x.acq []
    → (so : ServesCells mode (config_of x.acq) (Stands x.acq) (Stands y.acq) x.ends y.ends x.pass y.pass) → IsJoined h y
    → LanePart mode (config_of x.acq) x.pass.number h so.served
part_of_lane mode x y h none new so joined = record {
  events = so.serves.events;
  serves = so.serves.serves [] new;
  claimed = so.claims [] new;
  home = record {
    ended = subst (λ a. IsEnded (After h) a) number joined.ended;
    did = mine ∙ own_entered x.pass y.pass so.serves.events none so.serves.enters;
    of_kind = are_of_entries (is_lanes mode) x.pass.number so.serves.events
        (served_are mode (config_of x.acq) first_state (inputs_in so.served ++ stop ∷ []) so.serves.events (so.serves.serves [] new));
  };
  claims = sym (claims_stop (inputs_in so.served))
      ∙ (claims_whole mode (inputs_in so.served ++ stop ∷ []) x.pass y.pass joined.front.rest none number (subst (λ l. own_of x.pass.number l ≡ own y.pass) joined.front.is mine)
      so.serves.claims
      ∙ ap (λ l. claims_by mode x.pass.number empty_board l) (sym joined.front.is));
}
  where
    number : y.pass.number ≡ x.pass.number
    number = so.serves.enters.number

    mine : own_of x.pass.number h ≡ own y.pass
    mine = ap (λ a. own_of a h) (sym number) ∙ joined.own_is
