-- What every run of the receiver promises of its buffers, whether a script is replayed or frames are received live.
use Rattle.std.specs.Prelude.{◌≡◌, ◌⊎◌, ⊤, ℕ, ◌==◌, Bool, true, false, ◌||◌, List, [], ◌∷◌, ◌++◌, Option}
use Rattle.std.specs.List.{AllByRecursion}
use Rattle.gev_types.specs.declared.frame.Frame.{Frame}
use Rattle.gev_types.specs.Filling.{empty_record}
use Rattle.board_machine.specs.declared.events.Entry.{Entry}
use Rattle.board_machine.specs.declared.events.Event.{Event}
use Rattle.board_machine.specs.declared.events.Event.TheVariants.{Fill}
use Rattle.board_machine.specs.Machine.{Item}
use Rattle.board_machine.specs.Histories.{Run, After, own_of}
use Rattle.board_machine.specs.Handout.{IsLegal}
use Rattle.board_machine.specs.Owners.{IsOwned}
use Rattle.board_calls.specs.Dropped.{handed_out_items}
use Rattle.acquisition_machine.specs.declared.config.AcqConfig.{AcqConfig}
use Rattle.acquisition_machine.specs.Machine.{Input}
use Rattle.acquisition_machine.specs.FrameLaws.{HoldsOfFrame}
use Rattle.block_fills.specs.Fills.{tried, retired_items, IsRetired}

-- An actor that fills buffers for an acquisition, and what that acquisition was told.
pub record Acquirer : Type 0 where
  pub actor : ℕ
  pub inputs : List Input

abbrev pub is_acquirer : List Acquirer → ℕ → Bool
is_acquirer [] k = false
is_acquirer (a ∷ acquirers) k = is_acquirer acquirers k || (k == a.actor)

-- What the actor filled, or tried to fill where the stream was closed, are the blocks that its acquisition retires
-- with a buffer, all of them and in order; and each of them holds its block's frame, or what came of it.
pub record FillsItsBlocks (c : AcqConfig) (h : List Entry) (a : Acquirer) : Type 0 where
  pub retired : tried (own_of a.actor h) ≡ retired_items c a.inputs
  pub blocks : AllByRecursion (IsRetired c a.inputs) (tried (own_of a.actor h))

-- Actor k is one of the acquirers, where the event is a fill, or fills with the empty record.
abbrev pub FillsAsAcquirer : List Acquirer → ℕ → Event → Type 0
FillsAsAcquirer acquirers k (Fill i f filled) = (is_acquirer acquirers k ≡ true) ⊎ (f.rec ≡ empty_record)
FillsAsAcquirer acquirers k _ = ⊤

abbrev pub FillsByAcquirers : List Acquirer → List Entry → Type 0
FillsByAcquirers acquirers h = AllByRecursion (λ (e : Entry). FillsAsAcquirer acquirers e.by e.event) h

-- a block that retired from one of these acquisitions
abbrev pub IsBlockOf : AcqConfig → List Acquirer → Item → Type 0
IsBlockOf c [] x = ⊥
IsBlockOf c (a ∷ acquirers) x = IsRetired c a.inputs x ⊎ IsBlockOf c acquirers x

-- The same, or an entry that a flush or a step of a script put into the output, whose record is empty: it isn't
-- complete and no byte of an image is told of it.
abbrev pub HoldsBlock : AcqConfig → List Acquirer → Item → Type 0
HoldsBlock c acquirers x = IsBlockOf c acquirers x ⊎ (x.filling.rec ≡ empty_record)

-- The history is one that the board machine makes. At each step of it each buffer has one owner. Filled buffers are
-- removed from the output once, in the order of their fills, and none after a close. What the acquirers fill are the
-- blocks that their acquisitions retire, and nobody else fills more than empty records. And each buffer that was
-- handed out, which is one that another actor than the acquirers took, holds such a block: with every received byte in
-- place and 0 elsewhere, with no other image told than its block's frame's, as that frame where it's marked complete, and
-- marked complete where the buffer is large enough and all packets came before it was filled.
pub record KeepsHeadline (c : AcqConfig) (acquirers : List Acquirer) (h : List Entry) : Type 0 where
  pub run : Run h
  pub owned : (front rest : List Entry) → h ≡ front ++ rest → IsOwned (After front)
  pub legal : IsLegal h
  pub fills : AllByRecursion (FillsItsBlocks c h) acquirers
  pub others : FillsByAcquirers acquirers h
  pub handed : AllByRecursion (HoldsBlock c acquirers) (handed_out_items (is_acquirer acquirers) h)

-- Of a block that retired from an acquisition, under a map of frames from which its datagrams were sent: where the
-- buffer is marked complete it is its block's frame; in every case each received byte is in place, and 0 elsewhere,
-- and the image that it tells is that frame's; and in a large enough buffer, where all its packets came before it was
-- filled, it is marked complete.
pub record HoldsUnder (frames : ℕ → Option Frame) (c : AcqConfig) (inputs : List Input) (x : Item) : Type 0 where
  pub retired : IsRetired c inputs x
  pub holds : HoldsOfFrame frames c.p retired.block retired.given
