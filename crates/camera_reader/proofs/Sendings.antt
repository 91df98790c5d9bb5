-- The requests that wait are sent one after the other, in the form of the stream's identifiers.
use Rattle.std.proofs.Common.{◌≡◌, ℕ, Bool, List, [], ◌∷◌, ◌++◌, map, Option, refl, ap, sym, ◌∙◌, subst, append_assoc}
use Rattle.std.proofs.lemmas.List.{append-nil, map-append}
use Rattle.acq_core.specs.declared.window.Window.{Window}
use Rattle.acq_core.specs.Receiver.{KeepsBlocks}
use Rattle.acq_core.specs.Waiting.{waiting_fills, waiting_requests}
use Rattle.gev_links.specs.Links.{Address, Answer}
use Rattle.gev_control.specs.Sends.{SendsOn, Fails}
use Rattle.gev_control.proofs.Fronts.{fails_then, fails_none, sends_none, sends_then}
use Rattle.gev_acq.proofs.Emptying.{keeps_then, keeps_all}
use Rattle.packet_requests.specs.declared.id_mode.IdMode.{IdMode}
use Rattle.packet_requests.specs.Requests.{control_request}

-- Some of the requests that waited are taken out.
pub record IsSending (peer : Address) (ids : IdMode) (was : Bool) (sent : Option (List (Address × List ℕ))) (received : Option (List Answer)) (faults : ℕ) (old : Window)
    (now : Bool) (sent_now : Option (List (Address × List ℕ))) (received_now : Option (List Answer)) (faults_now : ℕ) (m : Window) : Type 0 where
  pub taken : List (List ℕ)
  pub parts : waiting_requests old ≡ taken ++ waiting_requests m
  pub sends : SendsOn peer (map (control_request ids) taken) was now sent sent_now
  pub fails : Fails was now faults faults_now
  pub same_received : received_now ≡ received
  pub fills : waiting_fills m ≡ waiting_fills old
  pub rest : KeepsBlocks old m

pub sending_begins : (peer : Address) (ids : IdMode) (was : Bool) (sent : Option (List (Address × List ℕ))) (received : Option (List Answer)) (faults : ℕ) (m : Window)
    → IsSending peer ids was sent received faults m was sent received faults m
sending_begins peer ids was sent received faults m = record {
  taken = [];
  parts = refl;
  sends = sends_none peer was sent;
  fails = fails_none was faults;
  same_received = refl;
  fills = refl;
  rest = keeps_all m;
}

pub sending_goes_on : (peer : Address) (ids : IdMode) (was : Bool) (sent : Option (List (Address × List ℕ))) (received : Option (List Answer)) (faults : ℕ) (old : Window)
    (a b : Bool) (o n : Option (List (Address × List ℕ))) (r s : Option (List Answer)) (x y : ℕ) (m k : Window) (bytes : List ℕ)
    → IsSending peer ids was sent received faults old a o r x m → waiting_requests m ≡ bytes ∷ waiting_requests k → waiting_fills k ≡ waiting_fills m → KeepsBlocks m k
    → SendsOn peer (control_request ids bytes ∷ []) a b o n → Fails a b x y → s ≡ r → IsSending peer ids was sent received faults old b n s y k
sending_goes_on peer ids was sent received faults old a b o n r s x y m k bytes so first fills keeps sends fails same_received = record {
  taken = so.taken ++ bytes ∷ [];
  parts = so.parts ∙ (ap (λ l. so.taken ++ l) first ∙ sym (append_assoc so.taken (bytes ∷ []) (waiting_requests k)));
  sends = subst (λ l. SendsOn peer l was b sent n) (sym (map-append (control_request ids) so.taken (bytes ∷ [])))
      (sends_then peer (map (control_request ids) so.taken) (control_request ids bytes ∷ []) was a b sent o n so.sends sends);
  fails = fails_then was a b faults x y so.fails fails;
  same_received = same_received ∙ so.same_received;
  fills = fills ∙ so.fills;
  rest = keeps_then old m k so.rest keeps;
}

-- none waits any more
pub sending_over : (peer : Address) (ids : IdMode) (was : Bool) (sent : Option (List (Address × List ℕ))) (received : Option (List Answer)) (faults : ℕ) (old : Window)
    (now : Bool) (sent_now : Option (List (Address × List ℕ))) (received_now : Option (List Answer)) (faults_now : ℕ) (m : Window)
    → IsSending peer ids was sent received faults old now sent_now received_now faults_now m → waiting_requests m ≡ []
    → SendsOn peer (map (control_request ids) (waiting_requests old)) was now sent sent_now
sending_over peer ids was sent received faults old now sent_now received_now faults_now m so none =
    let whole : waiting_requests old ≡ so.taken = so.parts ∙ (ap (λ l. so.taken ++ l) none ∙ append-nil so.taken) in
    subst (λ l. SendsOn peer (map (control_request ids) l) was now sent sent_now) (sym whole) so.sends
