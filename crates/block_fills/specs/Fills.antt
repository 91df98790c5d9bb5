-- The fills of a history, whatever they were answered, and the retired blocks that they come from: one set of
-- words for the traces of scripts and for the worker of a live run.
use Rattle.std.specs.Prelude.{◌≡◌, ◌⊎◌, ℕ, Bool, List, [], ◌∷◌, ◌++◌, map, Option, Some}
use Rattle.gev_types.specs.declared.frame.Frame.{Frame}
use Rattle.gev_types.specs.Filling.{empty_record}
use Rattle.block_image.specs.OneBlock.{AreSent}
use Rattle.board_machine.specs.declared.events.Entry.{Entry}
use Rattle.board_machine.specs.declared.events.Event.{Event}
use Rattle.board_machine.specs.declared.events.Event.TheVariants.{Fill}
use Rattle.board_machine.specs.Machine.{Item, item}
use Rattle.board_calls.specs.Rounds.{filled_or_laid}
use Rattle.acquisition_machine.specs.declared.config.AcqConfig.{AcqConfig}
use Rattle.acquisition_machine.specs.declared.retired.Retired.{Retired}
use Rattle.acquisition_machine.specs.Blocks.{Given, Retirement, filling_in, fills}
use Rattle.acquisition_machine.specs.Machine.{Input, restart}
use Rattle.acquisition_machine.specs.Runs.{first_state, turn, retired_from, packets_in}
use Rattle.acquisition_machine.specs.Laws.{HasNoRestart}
use Rattle.acquisition_machine.specs.FrameLaws.{IsSince, HoldsOfFrame}

-- what an event tried to put into the output
abbrev pub tried_by : Event → List Item
tried_by (Fill i f filled) = item i f ∷ []
tried_by _ = []

-- all that was tried to be put into the output, in order
abbrev pub tried : List Entry → List Item
tried [] = []
tried (e ∷ es) = tried_by e.event ++ tried es

abbrev pub item_of : Retired → Item
item_of x = item x.place x.buf

-- Each of these is filled into the output, in order, and laid where the close mark stands.
abbrev pub FillsRetired : List Retired → List Event → Type 0
FillsRetired [] events = events ≡ []
FillsRetired (x ∷ xs) events =
    (filled : Bool) × (rest : List Event) × (events ≡ filled_or_laid x.place x.buf filled ++ rest) × FillsRetired xs rest

-- the blocks that retire with a buffer as these inputs come, in order, each as an entry of the output
abbrev pub retired_items : AcqConfig → List Input → List Item
retired_items c inputs = map item_of (fills c.p (retired_from c first_state inputs))

-- what comes before an acquisition: nothing, or inputs of which the last begins it
abbrev pub IsBeginning : List Input → Type 0
IsBeginning before = (before ≡ []) ⊎ ((earlier : List Input) × (before ≡ earlier ++ restart ∷ []))

-- one of the blocks that retired
pub record IsAmong (whole : List Retirement) (r : Retirement) : Type 0 where
  pub front : List Retirement
  pub back : List Retirement
  pub is : whole ≡ front ++ r ∷ back

-- It is a block that retired with its buffer, when the last of these inputs of one acquisition came. It
-- holds the packets of its id that came since a buffer was claimed for it. Under each map of frames from
-- which the datagrams of this acquisition were sent: where it's marked complete it is its block's frame;
-- in every case each received byte is in place, and 0 elsewhere, and the image that it tells is that frame's;
-- and in a large enough buffer, where all its packets came, it is marked complete.
pub record IsRetired (c : AcqConfig) (inputs : List Input) (x : Item) : Type 0 where
  pub before : List Input
  pub since : List Input
  pub last : Input
  pub rest : List Input
  pub parts : inputs ≡ before ++ since ++ last ∷ rest
  pub begins : IsBeginning before
  pub one_acquisition : HasNoRestart since
  pub block : Retirement
  pub among : IsAmong (turn c (before ++ since) last).retired block
  pub given : Given
  pub has : block.was.given ≡ Some given
  pub is : x ≡ item given.place (filling_in c.p block given)
  pub came : IsSince c ((before ++ since) ++ last ∷ []) block.was
  pub holds : (frames : ℕ → Option Frame) → AreSent frames c.p (packets_in (since ++ last ∷ [])) → HoldsOfFrame frames c.p block given

-- A buffer that was handed out was filled with a retired block, or has the empty record.
abbrev pub IsHandedSo : AcqConfig → List Input → Item → Type 0
IsHandedSo c inputs x = IsRetired c inputs x ⊎ (x.filling.rec ≡ empty_record)
