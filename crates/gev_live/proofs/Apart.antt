-- Which kinds of acts have nothing in common.
use Rattle.std.proofs.Common.{◌≡◌, Bool, true, false, ◌≤◌, List, [], ◌∷◌, refl, arith}
use Rattle.board_machine.specs.declared.events.Entry.{Entry}
use Rattle.board_machine.specs.declared.events.Event.{Event}
use Rattle.board_machine.specs.declared.events.Event.TheVariants.{LookOut, LookRun, Grab, Lay, Pool, Claim, Fill, Take, Unpost, Stop, Split, Join}
use Rattle.buffer_words.specs.Workers.{AreApart, AreOf, OnlyBy, IsChildless}
use Rattle.board_calls.specs.declared.mode.Mode.{Mode}
use Rattle.board_calls.specs.declared.mode.Mode.TheVariants.{OldestFirst}
use Rattle.gev_serve.specs.Kinds.{is_cameras}
use Rattle.gev_apply.specs.Kinds.{is_applications}
use Rattle.live_crew.specs.Kinds.{is_hosts}
use Rattle.gev_acq.specs.Kinds.{is_readers, is_strict_readers}
use Rattle.gev_live.specs.Kinds.{is_live, is_filling, is_taking, is_handing}

-- what isn't of a live run
abbrev pub is_other : Event → Bool
is_other (Claim place) = false
is_other (Fill place filling filled) = false
is_other (Take end) = false
is_other (Lay place) = false
is_other (Grab place generation answer) = false
is_other (Pool place) = false
is_other (Unpost stood) = false
is_other (LookOut output closed) = false
is_other (LookRun run) = false
is_other (Split number) = false
is_other (Join number) = false
is_other (Stop kill answer) = false
is_other _ = true

pub hosts_live : AreApart is_hosts is_other
hosts_live (Split n) is = refl
hosts_live (Join n) is = refl
hosts_live _ is = absurd (cc)

pub cameras_live : AreApart is_cameras is_other
cameras_live (LookRun run) is = refl
cameras_live (Stop kill answer) is = refl
cameras_live _ is = absurd (cc)

pub readers_live : (mode : Mode) → AreApart (is_readers mode) is_other
readers_live mode (LookRun run) is = refl
readers_live mode (Claim place) is = refl
readers_live mode (Take end) is = refl
readers_live mode (Pool place) is = refl
readers_live mode (Fill place filling filled) is = refl
readers_live mode (Lay place) is = refl
readers_live mode (Stop kill answer) is = refl
readers_live mode _ is = absurd (cc)

pub applications_live : AreApart is_applications is_other
applications_live (LookRun run) is = refl
applications_live (Take end) is = refl
applications_live (Unpost stood) is = refl
applications_live (Lay place) is = refl
applications_live (LookOut output closed) is = refl
applications_live (Grab place generation answer) is = refl
applications_live (Pool place) is = refl
applications_live (Stop kill answer) is = refl
applications_live _ is = absurd (cc)

pub hosts_fill : AreApart is_hosts is_filling
hosts_fill (Split n) is = refl
hosts_fill (Join n) is = refl
hosts_fill _ is = absurd (cc)

pub cameras_fill : AreApart is_cameras is_filling
cameras_fill (LookRun run) is = refl
cameras_fill (Stop kill answer) is = refl
cameras_fill _ is = absurd (cc)

pub applications_fill : AreApart is_applications is_filling
applications_fill (LookRun run) is = refl
applications_fill (Take end) is = refl
applications_fill (Unpost stood) is = refl
applications_fill (Lay place) is = refl
applications_fill (LookOut output closed) is = refl
applications_fill (Grab place generation answer) is = refl
applications_fill (Pool place) is = refl
applications_fill (Stop kill answer) is = refl
applications_fill _ is = absurd (cc)

pub hosts_hand : AreApart is_hosts is_handing
hosts_hand (Split n) is = refl
hosts_hand (Join n) is = refl
hosts_hand _ is = absurd (cc)

pub cameras_hand : AreApart is_cameras is_handing
cameras_hand (LookRun run) is = refl
cameras_hand (Stop kill answer) is = refl
cameras_hand _ is = absurd (cc)

pub strict_hand : (mode : Mode) → AreApart (is_strict_readers mode) is_handing
strict_hand mode (LookRun run) is = refl
strict_hand mode (Claim place) is = refl
strict_hand mode (Take end) is = refl
strict_hand mode (Pool place) is = refl
strict_hand mode (Fill place filling filled) is = refl
strict_hand mode (Stop kill answer) is = refl
strict_hand mode _ is = absurd (cc)

pub hosts_take : AreApart is_hosts is_taking
hosts_take (Split n) is = refl
hosts_take (Join n) is = refl
hosts_take _ is = absurd (cc)

pub cameras_take : AreApart is_cameras is_taking
cameras_take (LookRun run) is = refl
cameras_take (Stop kill answer) is = refl
cameras_take _ is = absurd (cc)

-- with OldestFirst the reader takes nothing
pub strict_take : AreApart (is_strict_readers OldestFirst) is_taking
strict_take (LookRun run) is = refl
strict_take (Claim place) is = refl
strict_take (Fill place filling filled) is = refl
strict_take (Stop kill answer) is = refl
strict_take _ is = absurd (cc)

pub childless_cameras : IsChildless is_cameras
childless_cameras n = refl

pub childless_readers : (mode : Mode) → IsChildless (is_readers mode)
childless_readers mode n = refl

pub childless_strict : (mode : Mode) → IsChildless (is_strict_readers mode)
childless_strict mode n = refl

pub childless_applications : IsChildless is_applications
childless_applications n = refl

-- what is nobody's kind isn't there
not_other : (event : Event) → is_other event ≡ false → is_live event ≡ true
not_other (Claim place) is = refl
not_other (Fill place filling filled) is = refl
not_other (Take end) is = refl
not_other (Lay place) is = refl
not_other (Grab place generation answer) is = refl
not_other (Pool place) is = refl
not_other (Unpost stood) is = refl
not_other (LookOut output closed) is = refl
not_other (LookRun run) is = refl
not_other (Split number) is = refl
not_other (Join number) is = refl
not_other (Stop kill answer) is = refl
not_other _ is = absurd (cc)

bool_false : (b : Bool) → (b ≡ true → 1 ≤ 0) → b ≡ false
bool_false true bad = absurd (omega (arith, bad refl))
bool_false false bad = refl

pub all_live : (es : List Entry) → OnlyBy is_other [] es → AreOf is_live es
all_live [] only = tt
all_live (e ∷ es) only = (not_other e.event (bool_false (is_other e.event) only.0), all_live es only.1)

pub strict_live : (mode : Mode) → AreApart (is_strict_readers mode) is_other
strict_live mode (LookRun run) is = refl
strict_live mode (Claim place) is = refl
strict_live mode (Take end) is = refl
strict_live mode (Pool place) is = refl
strict_live mode (Fill place filling filled) is = refl
strict_live mode (Stop kill answer) is = refl
strict_live mode _ is = absurd (cc)
