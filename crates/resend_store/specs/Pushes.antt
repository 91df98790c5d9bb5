-- The resend store, over the list of all frames that were pushed since the last clear: the last `room`
-- of them are held. Block ids count the frames from 1 on, so block b is the frame at place b - 1.
use Rattle.std.specs.Prelude.{ℕ, ◌-◌, Bool, ◌&&◌, ◌==◌, nat_lt, nat_le, min, if◌then◌else◌, List, length, drop, slice_get, Option, Some, None}
use Rattle.gvcp_wire.specs.declared.status.Status.TheVariants.{PacketUnavailable, PacketNotYetAvailable, PacketRemovedFromMemory}
use Rattle.gvcp_wire.specs.Status.{status_code}
use Rattle.resend_store.specs.declared.reply.Reply.{Reply}
use Rattle.resend_store.specs.declared.reply.Reply.TheVariants.{Packets, Notice}
use Rattle.resend_store.specs.declared.sent.SentFrame.{SentFrame}
use Rattle.resend_store.specs.Sent.{trailer_id}

-- the last n members of a list, or all where there are fewer
abbrev pub last_of : {A : Type 0} → ℕ → List A → List A
last_of n xs = drop (length xs - n) xs

-- whether block b is one of the last `room` of so many frames
abbrev pub is_held : ℕ → ℕ → ℕ → Bool
is_held room count b = nat_le 1 b && nat_le b count && nat_lt (count - b) room

-- the frame of block b, where it's held
abbrev pub held_of : ℕ → List SentFrame → ℕ → Option SentFrame
held_of room pushed b = if is_held room (length pushed) b then slice_get pushed (b - 1) else None

-- what falls out where one more frame is pushed: the oldest, where there is no room for it
abbrev pub fallen_of : ℕ → List SentFrame → Option SentFrame
fallen_of room pushed = if nat_lt (length pushed) room then None else slice_get pushed (length pushed - room)

-- ---- the reply to a range of packets of block b (GigE Vision 2.0, PACKETRESEND and its status codes)

-- A held frame: the packets of the range up to the trailer. None is there where the range begins
-- behind the trailer, or ends before it begins.
abbrev pub packets_reply : SentFrame → ℕ → ℕ → Reply
packets_reply sent first last =
    if nat_le first (trailer_id sent) && nat_le first last then Packets first (min last (trailer_id sent))
    else Notice (status_code PacketUnavailable)

-- No held frame: not yet sent, sent and gone, or never sent, which is block 0.
abbrev pub missing_reply : ℕ → ℕ → Reply
missing_reply count b =
    if nat_lt count b then Notice (status_code PacketNotYetAvailable)
    else (if b == 0 then Notice (status_code PacketUnavailable) else Notice (status_code PacketRemovedFromMemory))

-- what the camera answers where so many frames were sent and this one of block b is held
abbrev pub reply_for : Option SentFrame → ℕ → ℕ → ℕ → ℕ → Reply
reply_for (Some sent) count first last b = packets_reply sent first last
reply_for None count first last b = missing_reply count b

abbrev pub reply_of : ℕ → List SentFrame → ℕ → ℕ → ℕ → Reply
reply_of room pushed first last b = reply_for (held_of room pushed b) (length pushed) first last b
