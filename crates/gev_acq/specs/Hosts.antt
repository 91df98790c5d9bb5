-- What a reader has of the outside.
use Rattle.std.specs.Prelude.{ℕ, List, Option}
use Rattle.gev_links.specs.Links.{Address, Answer}
use Rattle.gev_acq.specs.Turns.{Outside}
use Rattle.gev_acq.specs.declared.host.Host.{Host}

-- what its links and its clock told, with its client, by what the stream's link received, what the control link received
-- and sent, and what the clock told
abbrev pub outside_of : {S M C : Type 0} → (S → Option (List Answer)) → (M → Option (List Answer)) → (M → Option (List (Address × List ℕ))) → (C → Option (List ℕ)) → Host S M C → Outside
outside_of received heard sent told h = record { received = received h.stream; heard = heard h.control; sent = sent h.control; told = told h.clock; client = h.client }
