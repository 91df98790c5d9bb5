-- Laws of what the blocks hold: what came for them, and the frames that were sent.
use Rattle.std.specs.Prelude.{◌≡◌, ⊤, ℕ, ◌≤◌, ◌==◌, true, List, [], ◌∷◌, ◌++◌, length, Option, Some, None, if◌then◌else◌}
use Rattle.std.specs.List.{AllByRecursion}
use Rattle.gev_types.specs.declared.frame.Frame.{Frame}
use Rattle.gev_types.specs.declared.image_info.ImageInfo.{ImageInfo}
use Rattle.stream_packets.specs.Packets.{StreamPacket, head_of}
use Rattle.block_image.specs.AllPackets.{HasAllPackets}
use Rattle.block_image.specs.Infos.{IsInfoOf}
use Rattle.block_image.specs.OneBlock.{AreSent, HoldsFrame, HasBytesInPlace}
use Rattle.acquisition_machine.specs.declared.config.AcqConfig.{AcqConfig}
use Rattle.acquisition_machine.specs.declared.retired.Retired.{Retired}
use Rattle.missing_ranges.specs.Accounts.{retired_image}
use Rattle.acquisition_machine.specs.Blocks.{Given, Open, Cause, cause_of, Retirement, kept_in, filling_in, fills}
use Rattle.acquisition_machine.specs.Machine.{Input, claimed}
use Rattle.acquisition_machine.specs.Runs.{After, turn, packets_in}

-- ---- what came

-- those of block b
abbrev pub of_block : ℕ → List StreamPacket → List StreamPacket
of_block b [] = []
of_block b (x ∷ xs) = if (head_of x).block == b then x ∷ of_block b xs else of_block b xs

-- The block was opened by one of the inputs, with the buffer that this input tells, and holds the packets of
-- its id that came since.
pub record IsSince (c : AcqConfig) (q : List Input) (o : Open) : Type 0 where
  pub before : List Input
  pub since : List Input
  pub parts : q ≡ before ++ claimed o.given ∷ since
  pub asked : (After c before).asked ≡ Some o.block
  pub heard : o.heard ≡ of_block o.block (packets_in since)

-- so it is of each open block
abbrev pub HeardIsWhatCame : Type 0
HeardIsWhatCame = (c : AcqConfig) (q : List Input) → 1 ≤ c.window → AllByRecursion (IsSince c q) (After c q).opens

-- and of each block as it was when it retired
abbrev pub RetiredHeardWhatCame : Type 0
RetiredHeardWhatCame =
    (c : AcqConfig) (q : List Input) (i : Input) → 1 ≤ c.window
    → AllByRecursion (λ r. IsSince c (q ++ i ∷ []) r.was) (turn c q i).retired

-- What comes back was given by a claim, for a block that was asked for, and is the image of the packets of that
-- block that came since, with its account for some cause.
pub record IsImageSince (c : AcqConfig) (q : List Input) (f : Retired) : Type 0 where
  pub block : ℕ
  pub size : ℕ
  pub before : List Input
  pub since : List Input
  pub parts : q ≡ before ++ claimed (Some (record { place = f.place; size = size })) ∷ since
  pub asked : (After c before).asked ≡ Some block
  pub cause : Cause
  pub filling : f.buf ≡ retired_image (cause_of cause) c.p block size (of_block block (packets_in since))

-- so it is of each buffer that comes back
abbrev pub FillsAreImages : Type 0
FillsAreImages =
    (c : AcqConfig) (q : List Input) (i : Input) → 1 ≤ c.window
    → AllByRecursion (IsImageSince c (q ++ i ∷ [])) (fills c.p (turn c q i).retired)

-- ---- frames that were sent

-- What the buffer holds of its block's frame: the frame itself where it is marked complete; in every case
-- each received byte in place, and 0 elsewhere; where it tells an image, that frame's; and where the buffer is
-- large enough and all packets came, it is marked complete.
pub record HoldsOfFrame (frames : ℕ → Option Frame) (p : ℕ) (r : Retirement) (g : Given) : Type 0 where
  pub complete : (filling_in p r g).rec.complete ≡ true → HoldsFrame frames r.was.block (filling_in p r g)
  pub in_place : HasBytesInPlace frames p r.was.block g.size (kept_in p r.was) (filling_in p r g).bytes
  pub tells : (frame : Frame) (info : ImageInfo) → frames r.was.block ≡ Some frame
      → (filling_in p r g).rec.image ≡ Some info → IsInfoOf frame info
  pub whole : (frame : Frame) → frames r.was.block ≡ Some frame → length frame.pixels ≤ g.size
      → HasAllPackets frame p r.was.heard → (filling_in p r g).rec.complete ≡ true

abbrev pub HoldsIfGiven : (ℕ → Option Frame) → ℕ → Retirement → Option Given → Type 0
HoldsIfGiven frames p r None = ⊤
HoldsIfGiven frames p r (Some g) = HoldsOfFrame frames p r g

abbrev pub HoldFrames : (ℕ → Option Frame) → ℕ → List Retirement → Type 0
HoldFrames frames p rs = AllByRecursion (λ r. HoldsIfGiven frames p r r.was.given) rs

-- From where no block was open, with datagrams of one map of frames, each buffer that comes back holds that.
abbrev pub FillsKeepFrames : Type 0
FillsKeepFrames =
    (frames : ℕ → Option Frame) (c : AcqConfig) (q rest : List Input) (i : Input) → 1 ≤ c.window
    → (After c q).opens ≡ [] → AreSent frames c.p (packets_in (rest ++ i ∷ []))
    → HoldFrames frames c.p (turn c (q ++ rest) i).retired
