-- The lines of a list of cameras, each with its line feed.
use Rattle.std.specs.Prelude.{ℕ, ◌/◌, ◌%◌, ◌^◌, ◌==◌, ◌&&◌, not, nat_le, Bool, List, [], ◌∷◌, ◌++◌, take, drop, codes, if◌then◌else◌}
use Rattle.std.specs.List.{concat, flat_map, before_first}
use Rattle.std.specs.Fmt.{decimal}
use Rattle.hex.specs.Hex.{encode_lower}
use Rattle.camera_search.specs.declared.discovery_ack.DiscoveryAck.{DiscoveryAck}

-- an IPv4 address: four numbers from 0 to 255
abbrev pub address_text : ℕ → List ℕ
address_text address = concat (
    decimal (address / 2 ^ 24)
    ∷ codes "." ∷ decimal (address / 2 ^ 16 % 256)
    ∷ codes "." ∷ decimal (address / 2 ^ 8 % 256)
    ∷ codes "." ∷ decimal (address % 256) ∷ [])

-- two hex digits behind a colon
abbrev pub behind_colon : ℕ → List ℕ
behind_colon byte = codes ":" ++ encode_lower (byte ∷ [])

-- a MAC address: two hex digits for each byte, joined by colons
abbrev pub mac_text : List ℕ → List ℕ
mac_text bytes = encode_lower (take 1 bytes) ++ flat_map behind_colon (drop 1 bytes)

-- It stands for itself: a printable ASCII character but `"` and `\`.
abbrev pub stands_for_itself : ℕ → Bool
stands_for_itself byte = nat_le 0x20 byte && nat_le byte 0x7E && not (byte == 0x22) && not (byte == 0x5C)

abbrev pub shown_byte : ℕ → List ℕ
shown_byte byte = if stands_for_itself byte then byte ∷ [] else codes "\\x" ++ encode_lower (byte ∷ [])

-- a register's text, up to its first zero byte
abbrev pub shown_text : List ℕ → List ℕ
shown_text bytes = flat_map shown_byte (before_first (λ byte. byte == 0) bytes)

abbrev pub camera_line : DiscoveryAck → List ℕ
camera_line d = concat (
    codes "camera " ∷ address_text d.current_ip
    ∷ codes " mac=" ∷ mac_text d.mac_address
    ∷ codes " mask=" ∷ address_text d.current_subnet_mask
    ∷ codes " manufacturer=\"" ∷ shown_text d.manufacturer_name
    ∷ codes "\" model=\"" ∷ shown_text d.model_name
    ∷ codes "\" version=\"" ∷ shown_text d.device_version
    ∷ codes "\" serial=\"" ∷ shown_text d.serial_number
    ∷ codes "\" name=\"" ∷ shown_text d.user_defined_name
    ∷ codes "\"\n" ∷ [])

-- the last line, behind those of so many cameras
abbrev pub count_line : ℕ → List ℕ
count_line cameras = concat (codes "end cameras=" ∷ decimal cameras ∷ codes "\n" ∷ [])
