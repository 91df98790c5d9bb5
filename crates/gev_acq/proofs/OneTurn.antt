-- One turn of the reader, put together from its calls.
use Rattle.std.proofs.Common.{◌≡◌, ◌≢◌, ℕ, Bool, true, false, List, [], ◌++◌, Option, Some, None, Result, Ok, Err, refl, ap, sym, ◌∙◌, subst, inl, inr}
use Rattle.std.specs.Prelude.{is_some, IfOk, OnErr}
use Rattle.std.proofs.lemmas.List.{append-nil}
use Rattle.client_machine.specs.Machine.{Client}
use Rattle.acquisition_machine.specs.declared.config.AcqConfig.{AcqConfig}
use Rattle.acquisition_machine.specs.Machine.{Input}
use Rattle.gev_links.specs.declared.failed.Failed.{Failed}
use Rattle.gev_links.specs.Faults.{Rose}
use Rattle.gev_links.specs.Links.{Address, Answer, failed, answer_of}
use Rattle.gev_links.specs.Moments.{Tells, TellsEach}
use Rattle.buffer_words.specs.Passes.{Token}
use Rattle.gev_control.specs.declared.turn_end.TurnEnd.{TurnEnd}
use Rattle.gev_control.specs.declared.turn_end.TurnEnd.TheVariants as ends
use Rattle.board_calls.specs.declared.mode.Mode.{Mode}
use Rattle.gev_acq.specs.declared.turn.Turn.{Turn}
use Rattle.gev_control.specs.Sends.{SendsOn, Fails}
use Rattle.gev_control.specs.Controlled.{EndsAs, listed, sent_by, control_of, ClientTurn}
use Rattle.gev_acq.specs.Reading.{is_lost, has_come, FaultsOf}
use Rattle.gev_acq.specs.Turning.{ServesTurn}
use Rattle.gev_acq.specs.Turns.{bytes_in, heard_of, SendsAll, TakesOne}
use Rattle.gev_control.proofs.Fronts.{added_then, fails_then}

pub failed_is_lost : (r : Result (Option (ℕ × Address)) Failed) (out : List ℕ) → answer_of r out ≡ failed → is_lost r ≡ true
failed_is_lost (Ok None) out is = let bad : ⊥ = cc in absurd bad
failed_is_lost (Ok (Some datagram)) out is = let bad : ⊥ = cc in absurd bad
failed_is_lost (Err error) out is = refl

pub come_is_some : (r : Result (Option (ℕ × Address)) Failed) (out : List ℕ) → has_come r ≡ is_some (bytes_in (answer_of r out))
come_is_some (Ok None) out = refl
come_is_some (Ok (Some datagram)) out = refl
come_is_some (Err error) out = refl

-- without a fault of the stream's the faults are those of the control link
pub control_faults : (fault : Bool) (stream stream_after control control_after : ℕ) → stream_after ≡ stream → Fails false fault control control_after
    → FaultsOf fault stream stream_after control control_after
control_faults true stream stream_after control control_after same fails = inr (same, fails)
control_faults false stream stream_after control control_after same fails = (same, fails)

-- where the receive failed nothing else does
stream_faults : (fault : Bool) (stream stream_after control control_after : ℕ) → Rose stream stream_after → Fails true fault control control_after
    → FaultsOf fault stream stream_after control control_after
stream_faults true stream stream_after control control_after rose fails = inl (rose, fails)
stream_faults false stream stream_after control control_after rose fails = absurd fails

-- the receive, the requests, and the client's part
pub turn_faults : (r : Result (Option (ℕ × Address)) Failed) (lost unsent fault : Bool) (stream stream_after control control_then control_after : ℕ) → lost ≡ is_lost r
    → IfOk r (λ came. stream_after ≡ stream) → OnErr r (Rose stream stream_after) → Fails lost unsent control control_then → Fails unsent fault control_then control_after
    → FaultsOf fault stream stream_after control control_after
turn_faults (Ok came) lost unsent fault stream stream_after control control_then control_after is same rose first second =
    control_faults fault stream stream_after control control_after same
    (subst (λ (was : Bool). Fails was fault control control_after) is (fails_then lost unsent fault control control_then control_after first second))
turn_faults (Err error) lost unsent fault stream stream_after control control_then control_after is same rose first second =
    stream_faults fault stream stream_after control control_after rose
    (subst (λ (was : Bool). Fails was fault control control_after) is (fails_then lost unsent fault control control_then control_after first second))

-- a turn in which a link failed before the client's receive ends by a fault
ends_failed : (s : Client) (heard : Option Answer) (moment : ℕ) (end : TurnEnd) → heard ≡ None → EndsAs end (control_of s heard moment).end → end ≡ ends.Fault
ends_failed s (Some answer) moment end is how_so = let bad : ⊥ = cc in absurd bad
ends_failed s None moment ends.GoesOn is how_so = let bad : ⊥ = cc in absurd bad
ends_failed s None moment ends.Fault is how_so = refl
ends_failed s None moment (ends.NoAnswer req) is how_so = let bad : ⊥ = cc in absurd bad
ends_failed s None moment (ends.Refused status) is how_so = let bad : ⊥ = cc in absurd bad

-- without a fault all requests were sent
rest_none : (peer : Address) (asks : List (List ℕ)) (was now : Bool) (o n : Option (List (Address × List ℕ))) (s : Client) (heard : Option Answer) (moment : ℕ) (end : TurnEnd)
    → (sends : SendsOn peer asks was now o n) → (now ≡ true → heard ≡ None) → EndsAs end (control_of s heard moment).end → end ≢ ends.Fault → sends.rest ≡ []
rest_none peer asks was false o n s heard moment end sends lost how_so fine = sends.whole refl
rest_none peer asks was true o n s heard moment end sends lost how_so fine = absurd (fine (ends_failed s heard moment end (lost refl) how_so))

-- where the control link was received from all requests were sent
rest_before : (peer : Address) (asks : List (List ℕ)) (was now : Bool) (o n : Option (List (Address × List ℕ))) (heard : Option Answer) (answer : Answer)
    → (sends : SendsOn peer asks was now o n) → (now ≡ true → heard ≡ None) → heard ≡ Some answer → sends.rest ≡ []
rest_before peer asks was false o n heard answer sends lost is = sends.whole refl
rest_before peer asks was true o n heard answer sends lost is = let none : heard ≡ None = lost refl in let bad : ⊥ = cc in absurd bad

done_whole : (asks done rest : List (List ℕ)) → asks ≡ done ++ rest → rest ≡ [] → done ≡ asks
done_whole asks done rest is none = sym (is ∙ (ap (λ l. done ++ l) none ∙ append-nil done))

-- what was sent of the requests and of the client's bytes
sends_all : (end : TurnEnd) (asks done rest : List (List ℕ)) (send : Option (List ℕ)) → asks ≡ done ++ rest → (end ≢ ends.Fault → rest ≡ [])
    → SendsAll end (asks ++ sent_by end send) (done ++ sent_by end send)
sends_all ends.GoesOn asks done rest send is whole = ap (λ l. l ++ listed send) (done_whole asks done rest is (whole (λ bad. let no : ⊥ = cc in absurd no)))
sends_all ends.Fault asks done rest send is whole = (rest, append-nil asks ∙ (is ∙ ap (λ l. l ++ rest) (sym (append-nil done))))
sends_all (ends.NoAnswer req) asks done rest send is whole = ap (λ l. l ++ []) (done_whole asks done rest is (whole (λ bad. let no : ⊥ = cc in absurd no)))
sends_all (ends.Refused status) asks done rest send is whole = ap (λ l. l ++ []) (done_whole asks done rest is (whole (λ bad. let no : ⊥ = cc in absurd no)))

pub takes_one : (mode : Mode) (c : AcqConfig) (camera : Address) (Old Mid New : List Input → Type 0) (Says : ℕ → ℕ → Type 0) (r m h k l : Option (List Answer)) (w v x : Option (List (Address × List ℕ)))
    (d b : Option (List ℕ)) (s u : Client) (answer : Answer) (e : Turn) (said : ℕ) (requests : List (List ℕ)) (was now : Bool) (end : TurnEnd) (p q : Token)
    → Tells r m answer → Tells d b e.moment → Says e.moment said → (answer ≡ failed → was ≡ true) → e.datagram ≡ is_some (bytes_in answer)
    → ServesTurn mode c Old Mid (bytes_in answer) said (heard_of e) requests p q → ((i : List Input) → Mid i → New i)
    → SendsOn camera requests was now w v → k ≡ h → ClientTurn camera s e.moment now end u k l v x
    → TakesOne mode c camera Old New Says (record { received = r; heard = h; sent = w; told = d; client = s }) (record { received = m; heard = l; sent = x; told = b; client = u }) e end p q
takes_one mode c camera Old Mid New Says r m h k l w v x d b s u answer e said requests was now end p q received told says lost datagram serves keeps sends same turn = record {
  turned = record {
    answer = answer;
    moment = e.moment;
    told = said;
    given = serves.given;
    heard = turn.heard;
    sent = sends.done ++ sent_by end (control_of s turn.heard e.moment).send;
    end = end;
  };
  ended = refl;
  says = says;
  takes = record {
    serves = record {
      events = serves.serves.events;
      enters = serves.serves.enters;
      serves = serves.serves.serves;
      stands = λ i old. keeps _ (serves.serves.stands i old);
      claims = serves.serves.claims;
    };
    notes = λ i old. record { moment = refl; datagram = datagram; heard = serves.heard i old };
    controlled = λ i old. record {
      ends_as = turn.does.ends_as;
      sends = sends_all end _ sends.done sends.rest (control_of s turn.heard e.moment).send (sym (serves.asks i old) ∙ sends.is)
          (rest_none camera requests was now w v s turn.heard e.moment end sends turn.lost turn.does.ends_as);
      lost = λ gone.
          let none : turn.heard ≡ None = turn.lost (sends.stays (lost gone)) in
          let fault : end ≡ ends.Fault = ends_failed s turn.heard e.moment end none turn.does.ends_as in
          let quiet : sent_by end (control_of s turn.heard e.moment).send ≡ [] = ap (λ n. sent_by n (control_of s turn.heard e.moment).send) fault in
          (none, ap (λ y. y ++ sent_by end (control_of s turn.heard e.moment).send) (sends.none (lost gone)) ∙ quiet);
      after = λ heard is. (
        sent_by end (control_of s turn.heard e.moment).send,
        ap (λ y. y ++ sent_by end (control_of s turn.heard e.moment).send)
            (done_whole requests sends.done sends.rest sends.is (rest_before camera requests was now w v turn.heard heard sends turn.lost is) ∙ serves.asks i old),
      );
    };
    client = turn.does.state;
    received = received;
    told = told;
    heard = subst (λ (y : Option (List Answer)). TellsEach y l (listed turn.heard)) same turn.told;
    sent = added_then camera w v x sends.done (sent_by end (control_of s turn.heard e.moment).send) sends.sent turn.does.sent;
  };
}
