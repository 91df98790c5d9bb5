-- What arrives on the link of a camera's stream, and what the receiver hears of it, by the form of the stream's identifiers
-- (GigE Vision 1.x and 2.0, GVSP packet headers).
use Rattle.std.specs.Prelude.{◌≡◌, ℕ, ◌+◌, ◌-◌, ◌^◌, min, Bool, List, [], ◌∷◌, Option, is_some}
use Rattle.gev_links.specs.Links.{Answer}
use Rattle.gev_links.specs.Moments.{Tells}
use Rattle.link_filters.specs.Wide.{wide_answer, next_top, refusals, wide_answers, last_top, count_refused}
use Rattle.packet_requests.specs.declared.id_mode.IdMode.{IdMode}
use Rattle.packet_requests.specs.declared.id_mode.IdMode.TheVariants.{Standard, Extended}
use Rattle.gev_acq.specs.Turns.{Turned, bytes_in}
use Rattle.gev_acq.specs.Acquired.{answers_in, moments_in}

-- ---- one answer

-- what a turn's receive on the link gave, and the turn's moment
pub record Arrival : Type 0 where
  pub answer : Answer
  pub moment : ℕ

-- A datagram came: also one that is foreign, or that widening refuses.
abbrev pub is_datagram : Answer → Bool
is_datagram answer = is_some (bytes_in answer)

-- what is heard of an answer, where this was the greatest block before it
abbrev pub heard_answer : IdMode → ℕ → Answer → Answer
heard_answer Standard top answer = wide_answer top answer
heard_answer Extended top answer = answer

-- the greatest block behind it; with extended identifiers none is kept
abbrev pub top_behind : IdMode → ℕ → Answer → ℕ
top_behind Standard top answer = next_top top answer
top_behind Extended top answer = top

-- 1 for a datagram that widening refuses
abbrev pub refused_of : IdMode → ℕ → Answer → ℕ
refused_of Standard top answer = refusals top answer
refused_of Extended top answer = 0

-- ---- answers, one after the other, from the first on

-- what is heard of them: with standard identifiers each datagram with extended ones
abbrev pub heard_as : IdMode → List Answer → List Answer
heard_as Standard answers = wide_answers 0 answers
heard_as Extended answers = answers

abbrev pub top_of : IdMode → List Answer → ℕ
top_of Standard answers = last_top 0 answers
top_of Extended answers = 0

-- how many of them widening refuses
abbrev pub refused_in : IdMode → List Answer → ℕ
refused_in Standard answers = count_refused 0 answers
refused_in Extended answers = 0

abbrev pub answers_of : List Arrival → List Answer
answers_of [] = []
answers_of (a ∷ xs) = a.answer ∷ answers_of xs

abbrev pub moments_of : List Arrival → List ℕ
moments_of [] = []
moments_of (a ∷ xs) = a.moment ∷ moments_of xs

-- ---- receives

-- One receive on the link, and what is heard of it: the greatest block, and the count of what widening refused, before and
-- after. The count stands still at the counter's end.
pub record HearsOnce (ids : IdMode) (top refused top_after refused_after : ℕ) (received received_after : Option (List Answer)) (answer : Answer) (came : Bool) : Type 0 where
  pub arrived : Answer
  pub told : Tells received received_after arrived
  pub heard : answer ≡ heard_answer ids top arrived
  pub greatest : top_after ≡ top_behind ids top arrived
  pub counted : refused_after ≡ min (refused + refused_of ids top arrived) (2 ^ 64 - 1)
  pub came_is : came ≡ is_datagram arrived

-- In these turns the receiver heard what arrived, all of it and in order, and so many datagrams were refused.
pub record HearsEach (ids : IdMode) (made : List Turned) (arrivals : List Arrival) (refused : ℕ) : Type 0 where
  pub moments : moments_of arrivals ≡ moments_in made
  pub heard : answers_in made ≡ heard_as ids (answers_of arrivals)
  pub counted : refused ≡ min (refused_in ids (answers_of arrivals)) (2 ^ 64 - 1)
