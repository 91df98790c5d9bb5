-- What is heard of a stream with standard identifiers: its datagrams with extended ones, of at most 9,000 bytes.
use Rattle.std.specs.Prelude.{◌≡◌, ⊤, ℕ, ◌+◌, ◌-◌, ◌^◌, ◌≤◌, nat_le, min, Bool, if◌then◌else◌, List, [], ◌∷◌, ◌++◌, length, take, drop, Option, Some, None, is_none, Result, Ok, Err}
use Rattle.gvsp_std.specs.declared.std_error.StdError.{StdError}
use Rattle.gvsp_std.specs.declared.std_error.StdError.TheVariants.{Short, Extended, Zero, Before}
use Rattle.gvsp_std.specs.Widening.{widened, top_after}
use Rattle.gev_links.specs.Links.{Answer, Address, nothing, failed, came, receive_room}

-- ---- one datagram

-- What is heard of a datagram, by what widening makes of it; None where it is refused. One that has no whole
-- header, or extended identifiers already, is heard as it came.
abbrev pub wide_of : Result (ℕ × List ℕ) StdError → List ℕ → Option (List ℕ)
wide_of (Ok x) bytes = Some (take receive_room x.1)
wide_of (Err (Short len)) bytes = Some bytes
wide_of (Err Extended) bytes = Some bytes
wide_of (Err Zero) bytes = None
wide_of (Err (Before id)) bytes = None

-- Behind so great a block, which no stream comes to, every datagram is refused.
abbrev pub may_widen : ℕ → Bool
may_widen top = nat_le top (2 ^ 63)

abbrev pub wide_bytes : ℕ → List ℕ → Option (List ℕ)
wide_bytes top bytes = if may_widen top then wide_of (widened top bytes) bytes else None

-- the greatest block behind it
abbrev pub top_behind : ℕ → List ℕ → ℕ
top_behind top bytes = if may_widen top then top_after top (widened top bytes) else top

-- ---- one answer

abbrev pub told_of : Option (List ℕ) → Address → Answer
told_of None peer = nothing
told_of (Some bytes) peer = came bytes peer

abbrev pub wide_answer : ℕ → Answer → Answer
wide_answer top nothing = nothing
wide_answer top failed = failed
wide_answer top (came bytes peer) = told_of (wide_bytes top bytes) peer

abbrev pub next_top : ℕ → Answer → ℕ
next_top top nothing = top
next_top top failed = top
next_top top (came bytes peer) = top_behind top bytes

-- 1 for a datagram that is refused
abbrev pub refusals : ℕ → Answer → ℕ
refusals top nothing = 0
refusals top failed = 0
refusals top (came bytes peer) = if is_none (wide_bytes top bytes) then 1 else 0

-- ---- answers, one after the other

-- what is heard of them, where this was the greatest block before the first
abbrev pub wide_answers : ℕ → List Answer → List Answer
wide_answers top [] = []
wide_answers top (a ∷ xs) = wide_answer top a ∷ wide_answers (next_top top a) xs

-- the greatest block behind them
abbrev pub last_top : ℕ → List Answer → ℕ
last_top top [] = top
last_top top (a ∷ xs) = last_top (next_top top a) xs

-- how many of them are refused
abbrev pub count_refused : ℕ → List Answer → ℕ
count_refused top [] = 0
count_refused top (a ∷ xs) = refusals top a + count_refused (next_top top a) xs

-- ---- widening that begins behind the first so many answers

-- the first ones as they came, and then each with extended identifiers
abbrev pub heard_wide : ℕ → List Answer → List Answer
heard_wide before answers = take before answers ++ wide_answers 0 (drop before answers)

-- So many answers were told, where the link tells them.
abbrev pub HasTold : ℕ → Option (List Answer) → Type 0
HasTold before None = ⊤
HasTold before (Some answers) = length answers ≡ before

-- So many answers were refused since, where the link tells them. The count stands still at the counter's end.
abbrev pub CountsRefused : ℕ → Option (List Answer) → ℕ → Type 0
CountsRefused before None count = ⊤
CountsRefused before (Some answers) count = count ≡ min (count_refused 0 (drop before answers)) (2 ^ 64 - 1)

-- what is kept of the answers
pub record IsWidening (before top refused : ℕ) (answers : List Answer) : Type 0 where
  pub begun : before ≤ length answers
  pub greatest : top ≡ last_top 0 (drop before answers)
  pub counted : refused ≡ min (count_refused 0 (drop before answers)) (2 ^ 64 - 1)

abbrev pub KeepsWide : ℕ → ℕ → ℕ → Option (List Answer) → Type 0
KeepsWide before top refused None = ⊤
KeepsWide before top refused (Some answers) = IsWidening before top refused answers
