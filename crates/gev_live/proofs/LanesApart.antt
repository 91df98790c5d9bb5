-- Which kinds of acts have nothing in common, and what lanes never do.
use Rattle.std.proofs.Common.{◌≡◌, true, false, List, [], ◌∷◌, refl}
use Rattle.board_machine.specs.declared.events.Entry.{Entry}
use Rattle.board_machine.specs.declared.events.Event.{Event}
use Rattle.board_machine.specs.declared.events.Event.TheVariants.{LookRun, Lay, Claim, Take, Pool, Fill, Stop, Join}
use Rattle.board_machine.specs.Kinds.{HasNone, is_stop}
use Rattle.buffer_words.specs.Workers.{AreOf, AreApart, IsChildless}
use Rattle.board_calls.specs.declared.mode.Mode.{Mode}
use Rattle.board_calls.specs.declared.mode.Mode.TheVariants.{OldestFirst}
use Rattle.gev_live.specs.Kinds.{is_filling, is_taking, is_handing}
use Rattle.gev_live.proofs.Apart.{is_other}
use Rattle.lane_crew.specs.Kinds.{is_lanes, is_lane_readers}
use Rattle.gev_live.specs.LanesKinds.{is_strict_lanes}

pub readers_live : AreApart is_lane_readers is_other
readers_live (LookRun run) is = refl
readers_live (Join n) is = refl
readers_live (Stop kill answer) is = refl
readers_live _ is = absurd (cc)

pub readers_fill : AreApart is_lane_readers is_filling
readers_fill (LookRun run) is = refl
readers_fill (Join n) is = refl
readers_fill (Stop kill answer) is = refl
readers_fill _ is = absurd (cc)

pub readers_hand : AreApart is_lane_readers is_handing
readers_hand (LookRun run) is = refl
readers_hand (Join n) is = refl
readers_hand (Stop kill answer) is = refl
readers_hand _ is = absurd (cc)

pub readers_take : AreApart is_lane_readers is_taking
readers_take (LookRun run) is = refl
readers_take (Join n) is = refl
readers_take (Stop kill answer) is = refl
readers_take _ is = absurd (cc)

pub lanes_live : (mode : Mode) → AreApart (is_lanes mode) is_other
lanes_live mode (Claim place) is = refl
lanes_live mode (Take end) is = refl
lanes_live mode (Pool place) is = refl
lanes_live mode (Fill place filling filled) is = refl
lanes_live mode (Lay place) is = refl
lanes_live mode _ is = absurd (cc)

pub strict_live : (mode : Mode) → AreApart (is_strict_lanes mode) is_other
strict_live mode (Claim place) is = refl
strict_live mode (Take end) is = refl
strict_live mode (Pool place) is = refl
strict_live mode (Fill place filling filled) is = refl
strict_live mode _ is = absurd (cc)

pub strict_hand : (mode : Mode) → AreApart (is_strict_lanes mode) is_handing
strict_hand mode (Claim place) is = refl
strict_hand mode (Take end) is = refl
strict_hand mode (Pool place) is = refl
strict_hand mode (Fill place filling filled) is = refl
strict_hand mode _ is = absurd (cc)

-- with OldestFirst a lane takes nothing
pub strict_take : AreApart (is_strict_lanes OldestFirst) is_taking
strict_take (Claim place) is = refl
strict_take (Fill place filling filled) is = refl
strict_take _ is = absurd (cc)

pub childless_readers : IsChildless is_lane_readers
childless_readers n = refl

pub childless_lanes : (mode : Mode) → IsChildless (is_lanes mode)
childless_lanes mode n = refl

pub childless_strict : (mode : Mode) → IsChildless (is_strict_lanes mode)
childless_strict mode n = refl

lane_no_stop : (mode : Mode) (event : Event) → is_lanes mode event ≡ true → is_stop event ≡ false
lane_no_stop mode (Claim place) is = refl
lane_no_stop mode (Take end) is = refl
lane_no_stop mode (Pool place) is = refl
lane_no_stop mode (Fill place filling filled) is = refl
lane_no_stop mode (Lay place) is = refl
lane_no_stop mode _ is = absurd (cc)

pub lanes_no_stop : (mode : Mode) (es : List Entry) → AreOf (is_lanes mode) es → HasNone is_stop es
lanes_no_stop mode [] are = tt
lanes_no_stop mode (e ∷ es) are = (lane_no_stop mode e.event are.0, lanes_no_stop mode es are.1)
