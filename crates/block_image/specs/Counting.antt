-- How many payloads are there, as a counter holds it.
use Rattle.std.specs.Prelude.{ℕ, ◌+◌, ◌&&◌, nat_le, List, [], ◌∷◌, length, if◌then◌else◌}
use Rattle.stream_packets.specs.Packets.{StreamPacket, leader, payload, trailer, notice}
use Rattle.block_image.specs.Image.{is_long_enough}

-- how many kept payloads have an id from 1 to n and are as long as they have to be
abbrev pub good_count : ℕ → ℕ → ℕ → List StreamPacket → ℕ
good_count p len n [] = 0
good_count p len n (leader h i ∷ xs) = good_count p len n xs
good_count p len n (payload h d ∷ xs) =
    (if nat_le 1 h.id && nat_le h.id n && is_long_enough p len h.id (length d) then 1 else 0) + good_count p len n xs
good_count p len n (trailer h y ∷ xs) = good_count p len n xs
good_count p len n (notice h ∷ xs) = good_count p len n xs
