-- What a link tells of itself, and what a part of a worker sent on it.
use Rattle.std.specs.Prelude.{◌≡◌, ℕ, List, [], ◌++◌, Option, Result, Ok, Err}
use Rattle.gev_links.specs.Faults.{Rose}
use Rattle.gev_links.specs.Links.{Answer, Address, Adds}

-- What a link received and sent, where it tells it, and how many of its calls failed.
pub record Wire : Type 0 where
  pub received : Option (List Answer)
  pub sent : Option (List (Address × List ℕ))
  pub faults : ℕ

abbrev pub wire : Option (List Answer) → Option (List (Address × List ℕ)) → ℕ → Wire
wire received sent faults = record { received = received; sent = sent; faults = faults }

pub data SendEnd : Type 0 where
  -- all was sent
  all_sent : SendEnd
  -- a send failed, and nothing was sent after it
  send_failed : SendEnd
  -- memory ran out before all was sent
  gave_up : SendEnd

-- what the rest and the count of faults are at the end
abbrev pub EndsSending : SendEnd → List (Address × List ℕ) → ℕ → ℕ → Type 0
EndsSending all_sent rest old new = (rest ≡ []) × (new ≡ old)
EndsSending send_failed rest old new = Rose old new
EndsSending gave_up rest old new = new ≡ old

-- These datagrams were to be sent: they were, in order, all of them or up to the end. Nothing was received.
pub record Sends (every : List (Address × List ℕ)) (end : SendEnd) (old new : Wire) : Type 0 where
  pub done : List (Address × List ℕ)
  pub rest : List (Address × List ℕ)
  pub is : every ≡ done ++ rest
  pub sent : Adds old.sent new.sent done
  pub received : new.received ≡ old.received
  pub ends : EndsSending end rest old.faults new.faults

-- how a part ends that sends until a send fails
abbrev pub end_of_sends : {A E : Type 0} → Result A E → SendEnd
end_of_sends (Ok done) = all_sent
end_of_sends (Err failed) = send_failed
