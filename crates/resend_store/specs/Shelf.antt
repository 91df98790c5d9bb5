-- What the resend store keeps of the frames that were pushed: their number, and the last of them.
use Rattle.std.specs.Prelude.{◌≡◌, ℕ, ◌+◌, ◌-◌, ◌≤◌, nat_lt, min, if◌then◌else◌, List, [], ◌∷◌, ◌++◌, length, drop, slice_get, Option, None, IfSome}
use Rattle.resend_store.specs.declared.reply.Reply.{Reply}
use Rattle.resend_store.specs.declared.sent.SentFrame.{SentFrame}
use Rattle.resend_store.specs.Sent.{IsSentFrame}
use Rattle.resend_store.specs.Pushes.{is_held, reply_for}

pub record Shelf : Type 0 where
  -- how many frames are held at most
  pub room : ℕ
  -- how many frames were pushed since the last clear
  pub count : ℕ
  -- the last of them, oldest first
  pub frames : List SentFrame

abbrev pub empty_shelf : ℕ → Shelf
empty_shelf room = record { room = room; count = 0; frames = [] }

-- the held frames that stay where one more is pushed
abbrev pub staying : ℕ → List SentFrame → List SentFrame
staying room frames = if nat_lt (length frames) room then frames else drop 1 frames

-- what falls out then
abbrev pub oldest_out : ℕ → List SentFrame → Option SentFrame
oldest_out room frames = if nat_lt (length frames) room then None else slice_get frames 0

abbrev pub with_pushed : Shelf → SentFrame → Shelf
with_pushed shelf sent = record shelf {
  count = shelf.count + 1;
  frames = staying shelf.room shelf.frames ++ sent ∷ [];
}

-- the held frame of block b, counted from the last one
abbrev pub shelved : ℕ → ℕ → List SentFrame → ℕ → Option SentFrame
shelved room count frames b = if is_held room count b then slice_get frames (length frames - 1 - (count - b)) else None

abbrev pub held_in : Shelf → ℕ → Option SentFrame
held_in shelf b = shelved shelf.room shelf.count shelf.frames b

abbrev pub reply_in : Shelf → ℕ → ℕ → ℕ → Reply
reply_in shelf first last b = reply_for (held_in shelf b) shelf.count first last b

-- One of the held frames, at a place: it's a sent frame, and its block id is its number among all.
pub record IsShelved (held count place : ℕ) (sent : SentFrame) : Type 0 where
  pub good : IsSentFrame sent
  pub numbered : sent.frame.block + held ≡ count + place + 1

-- Each store keeps the last frames, as many as there is room for.
pub record IsShelf (room count : ℕ) (frames : List SentFrame) : Type 0 where
  pub some : 1 ≤ room
  pub few : room ≤ 8
  pub filled : length frames ≡ min room count
  pub members : (place : ℕ) → IfSome (slice_get frames place) (IsShelved (length frames) count place)
