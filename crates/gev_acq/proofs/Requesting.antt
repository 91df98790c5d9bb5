-- The requests that wait are sent one after the other.
use Rattle.std.proofs.Common.{◌≡◌, ℕ, Bool, List, [], ◌∷◌, ◌++◌, Option, refl, ap, sym, ◌∙◌, append_assoc}
use Rattle.acq_core.specs.declared.window.Window.{Window}
use Rattle.acq_core.specs.Receiver.{KeepsBlocks}
use Rattle.acq_core.specs.Waiting.{waiting_fills, waiting_requests}
use Rattle.gev_links.specs.Links.{Address, Answer}
use Rattle.gev_control.specs.Sends.{SendsOn, Fails}
use Rattle.gev_control.proofs.Fronts.{fails_then, fails_none, sends_none, sends_then}
use Rattle.gev_acq.proofs.Emptying.{keeps_then, keeps_all}

-- Some of the requests that waited are taken out.
pub record IsSending (peer : Address) (was : Bool) (sent : Option (List (Address × List ℕ))) (received : Option (List Answer)) (faults : ℕ) (old : Window)
    (now : Bool) (sent_now : Option (List (Address × List ℕ))) (received_now : Option (List Answer)) (faults_now : ℕ) (m : Window) : Type 0 where
  pub taken : List (List ℕ)
  pub parts : waiting_requests old ≡ taken ++ waiting_requests m
  pub sends : SendsOn peer taken was now sent sent_now
  pub fails : Fails was now faults faults_now
  pub same_received : received_now ≡ received
  pub fills : waiting_fills m ≡ waiting_fills old
  pub rest : KeepsBlocks old m

pub sending_begins : (peer : Address) (was : Bool) (sent : Option (List (Address × List ℕ))) (received : Option (List Answer)) (faults : ℕ) (m : Window)
    → IsSending peer was sent received faults m was sent received faults m
sending_begins peer was sent received faults m = record {
  taken = [];
  parts = refl;
  sends = sends_none peer was sent;
  fails = fails_none was faults;
  same_received = refl;
  fills = refl;
  rest = keeps_all m;
}

pub sending_goes_on : (peer : Address) (was : Bool) (sent : Option (List (Address × List ℕ))) (received : Option (List Answer)) (faults : ℕ) (old : Window)
    (a b : Bool) (o n : Option (List (Address × List ℕ))) (r s : Option (List Answer)) (x y : ℕ) (m k : Window) (bytes : List ℕ)
    → IsSending peer was sent received faults old a o r x m → waiting_requests m ≡ bytes ∷ waiting_requests k → waiting_fills k ≡ waiting_fills m → KeepsBlocks m k
    → SendsOn peer (bytes ∷ []) a b o n → Fails a b x y → s ≡ r → IsSending peer was sent received faults old b n s y k
sending_goes_on peer was sent received faults old a b o n r s x y m k bytes so first fills keeps sends fails same_received = record {
  taken = so.taken ++ bytes ∷ [];
  parts = so.parts ∙ (ap (λ l. so.taken ++ l) first ∙ sym (append_assoc so.taken (bytes ∷ []) (waiting_requests k)));
  sends = sends_then peer so.taken (bytes ∷ []) was a b sent o n so.sends sends;
  fails = fails_then was a b faults x y so.fails fails;
  same_received = same_received ∙ so.same_received;
  fills = fills ∙ so.fills;
  rest = keeps_then old m k so.rest keeps;
}
