-- The take lines in the text of a soak run, and the images whose digests they have.
use Rattle.std.specs.Prelude.{◌≡◌, ◌⊎◌, ℕ, suc, Bool, true, List, [], ◌∷◌, ◌++◌, Option}
use Rattle.std.specs.List.{AllByRecursion}
use Rattle.hex.specs.Hex.{encode_lower}
use Rattle.sha2.specs.Sha256.{sha256}
use Rattle.gev_types.specs.declared.frame.Frame.{Frame}
use Rattle.gev_types.specs.declared.frame.Shape.{Shape}
use Rattle.gev_types.specs.Filling.{Filling}
use Rattle.gentl_types.specs.declared.buffer_id.BufferId.{BufferId}
use Rattle.gev_frames.specs.Frames.{camera_frame}
use Rattle.gev_report.specs.ReplayLines.{digest_text, take_line}
use Rattle.world_machine.specs.State.{Run, World, image_shape}
use Rattle.world_machine.specs.ClientTurn.{End}
use Rattle.world_machine.specs.Rounds.{last_line}
use Rattle.world_machine.specs.Laws.{EndsAfter}
use Rattle.world_laws.specs.Receiver.{Receiver, soak_config, soak_host, start}
use Rattle.world_laws.specs.RunLaws.{RunHears}

-- a buffer that was taken
pub record Taken : Type 0 where
  pub id : BufferId
  pub filling : Filling

-- their take lines, in order
abbrev pub take_text : List Taken → List ℕ
take_text [] = []
take_text (x ∷ xs) = take_line x.id x.filling ++ take_text xs

-- Where the buffer is marked complete, its digest is that of the image that the generator makes under the
-- block's id, a short one where frames are short.
abbrev pub HasDigest : Bool → ℕ → Shape → Filling → Type 0
HasDigest short seed shape f =
    f.rec.complete ≡ true → digest_text f ≡ encode_lower (sha256 (camera_frame short seed f.rec.block shape).pixels)

-- The text is the take lines of such buffers.
pub record AreTakeLines (short : Bool) (seed : ℕ) (shape : Shape) (text : List ℕ) : Type 0 where
  pub taken : List Taken
  pub is : text ≡ take_text taken
  pub digests : AllByRecursion (λ x. HasDigest short seed shape x.filling) taken

-- nothing, or the line that ends a run
abbrev pub IsLastLine : Run → List ℕ → Type 0
IsLastLine run text = (text ≡ []) ⊎ ((w : World Receiver) × (text ≡ last_line run soak_host w))

-- The text of a run is take lines of such buffers, and then the last line, if there is one.
pub record HasTakeLines (run : Run) (text : List ℕ) : Type 0 where
  pub lines : List ℕ
  pub last : List ℕ
  pub is : text ≡ lines ++ last
  pub take : AreTakeLines run.short run.seed image_shape lines
  pub is_last : IsLastLine run last

-- So it is of each run whose receiver hears packets of frames of the run's seed, up to its last round.
abbrev pub TextHasTakeLines : Run → List ℕ → End → ℕ → Type 0
TextHasTakeLines run text e n =
    (frames : ℕ → Option Frame) → RunHears run soak_host start (suc n) frames soak_config.p → EndsAfter run soak_host start text e n
    → HasTakeLines run text
