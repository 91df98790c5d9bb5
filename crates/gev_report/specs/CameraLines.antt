-- The lines of a camera script's report, each with its line feed.
use Rattle.std.specs.Prelude.{ℕ, List, [], ◌∷◌, codes, Option, Some, None}
use Rattle.std.specs.List.{concat}
use Rattle.std.specs.Fmt.{decimal}
use Rattle.hex.specs.Hex.{encode_lower}

-- an acknowledge that is sent to this port
abbrev pub ack_line : ℕ → List ℕ → List ℕ
ack_line peer bytes = concat (codes "a " ∷ decimal peer ∷ codes " " ∷ encode_lower bytes ∷ codes "\n" ∷ [])

-- a stream datagram that is sent to this port
abbrev pub stream_line : ℕ → List ℕ → List ℕ
stream_line port bytes = concat (codes "s " ∷ decimal port ∷ codes " " ∷ encode_lower bytes ∷ codes "\n" ∷ [])

-- a frame's block id and the number of its packets, or that the stream channel is closed
abbrev pub frame_line : Option (ℕ × ℕ) → List ℕ
frame_line (Some (block, packets)) =
    concat (codes "frame " ∷ decimal block ∷ codes " " ∷ decimal packets ∷ codes "\n" ∷ [])
frame_line None = concat (codes "frame closed\n" ∷ [])

-- the last line: how many commands the camera executed
abbrev pub executed_line : ℕ → List ℕ
executed_line executed = concat (codes "end executed=" ∷ decimal executed ∷ codes "\n" ∷ [])
