-- What was sent in parts: nothing, one part after the other, a part that was cut.
use Rattle.std.proofs.Common.{◌≡◌, ℕ, List, [], ◌++◌, refl, sym, ap, subst, ◌∙◌, append_assoc}
use Rattle.std.proofs.lemmas.List.{append-nil}
use Rattle.gev_links.specs.Faults.{Rose}
use Rattle.gev_links.specs.Links.{Address, Adds}
use Rattle.gev_links.proofs.Growing.{adds_none, adds_then}
use Rattle.gev_serve.specs.Wires.{Wire, SendEnd, all_sent, send_failed, gave_up, EndsSending, Sends}

pub sends_none : (w : Wire) → Sends [] all_sent w w
sends_none w = record { done = []; rest = []; is = refl; sent = adds_none w.sent; received = refl; ends = (refl, refl) }

-- nothing was sent for want of memory
pub sends_stop : (xs : List (Address × List ℕ)) (w : Wire) → Sends xs gave_up w w
sends_stop xs w = record { done = []; rest = xs; is = refl; sent = adds_none w.sent; received = refl; ends = refl }

-- a part, and then another
pub sends_then : (xs ys : List (Address × List ℕ)) (end : SendEnd) (u v w : Wire) → Sends xs all_sent u v → Sends ys end v w → Sends (xs ++ ys) end u w
sends_then xs ys end u v w first second = record {
  done = first.done ++ second.done;
  rest = second.rest;
  is = ap (λ l. l ++ ys) whole ∙ (ap (λ l. first.done ++ l) second.is ∙ sym (append_assoc first.done second.done second.rest));
  sent = adds_then u.sent v.sent w.sent first.done second.done first.sent second.sent;
  received = second.received ∙ first.received;
  ends = subst (λ n. EndsSending end second.rest n w.faults) first.ends.1 second.ends;
}
  where
    whole : xs ≡ first.done
    whole = first.is ∙ (ap (λ l. first.done ++ l) first.ends.0 ∙ append-nil first.done)

-- a part that was cut, before others
pub sends_cut : (xs ys : List (Address × List ℕ)) (v w : Wire) → Sends xs send_failed v w → Sends (xs ++ ys) send_failed v w
sends_cut xs ys v w cut = record {
  done = cut.done;
  rest = cut.rest ++ ys;
  is = ap (λ l. l ++ ys) cut.is ∙ append_assoc cut.done cut.rest ys;
  sent = cut.sent;
  received = cut.received;
  ends = cut.ends;
}

-- the first send of a part failed
pub sends_failed : (xs : List (Address × List ℕ)) (v w : Wire) → w.sent ≡ v.sent → w.received ≡ v.received → Rose v.faults w.faults
    → Sends xs send_failed v w
sends_failed xs v w unsent received rose = record {
  done = [];
  rest = xs;
  is = refl;
  sent = subst (λ l. Adds v.sent l []) (sym unsent) (adds_none v.sent);
  received = received;
  ends = rose;
}
