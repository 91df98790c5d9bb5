-- The packet goes to the peer of the stream.
use Rattle.std.proofs.Common.{◌≡◌, ℕ, List, [], ◌∷◌, Option, subst}
use Rattle.gev_links.specs.Links.{Address, Adds}
use Rattle.gev_serve.proofs.sending.send_next.Goals as goal

sent_to : (old new : Option (List (Address × List ℕ))) (peer to : Address) (bytes spelled : List ℕ) → peer ≡ to → bytes ≡ spelled
    → Adds old new ((peer, bytes) ∷ []) → Adds old new ((to, spelled) ∷ [])
sent_to old new peer to bytes spelled is says sent =
    subst (λ (p : Address). Adds old new ((p, spelled) ∷ [])) is (subst (λ (l : List ℕ). Adds old new ((peer, l) ∷ [])) says sent)

pub returns-in-Ok : goal.returns-in-Ok
returns-in-Ok g c = record {
  packet = c.in-Some.ensures.packet;
  first = c.in-Some.ensures.first;
  sent = sent_to (g.L.Link.sent c.args.link.now) (g.L.Link.sent c.send.new.self) _ _ _ _ c.in-Some.ensures.to c.in-Some.ensures.spelled c.in-Ok.ensures.sent;
  received = c.send.ensures.received;
  no_fault = c.in-Ok.ensures.no_fault;
  rest = c.in-Some.ensures.rest;
}
