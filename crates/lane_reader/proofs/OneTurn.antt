-- One turn of the reader, put together from its calls.
use Rattle.std.proofs.Common.{◌≡◌, ◌≢◌, ℕ, Bool, true, false, List, [], ◌++◌, Option, Some, None, Result, Ok, Err, refl, ap, sym, ◌∙◌, subst}
use Rattle.std.proofs.lemmas.List.{append-nil}
use Rattle.client_machine.specs.Machine.{Client}
use Rattle.gev_links.specs.declared.failed.Failed.{Failed}
use Rattle.gev_links.specs.Links.{Address, Answer, failed, answer_of}
use Rattle.gev_links.specs.Moments.{Tells, TellsEach}
use Rattle.gev_control.specs.declared.turn_end.TurnEnd.{TurnEnd}
use Rattle.gev_control.specs.declared.turn_end.TurnEnd.TheVariants as ends
use Rattle.gev_control.specs.Sends.{SendsOn}
use Rattle.gev_control.specs.Controlled.{EndsAs, listed, sent_by, control_of, ClientTurn}
use Rattle.gev_control.proofs.Fronts.{added_then}
use Rattle.gev_acq.specs.Reading.{is_lost}
use Rattle.gev_acq.specs.Turns.{SendsAll}
use Rattle.gev_lanes.specs.declared.parts.ReaderLane.{ReaderLane}
use Rattle.gev_lanes.specs.Acts.{Hears, Ticks}
use Rattle.lane_reader.specs.LanesTurns.{part_of, Each, joined, AsksAndSends}
use Rattle.lane_reader.specs.Turned.{TakesOne}

pub failed_is_lost : (r : Result (Option (ℕ × Address)) Failed) (out : List ℕ) → answer_of r out ≡ failed → is_lost r ≡ true
failed_is_lost (Ok None) out is = let bad : ⊥ = cc in absurd bad
failed_is_lost (Ok (Some datagram)) out is = let bad : ⊥ = cc in absurd bad
failed_is_lost (Err error) out is = refl

-- a turn in which a link failed before the client's receive ends by a fault
ends_failed : (s : Client) (heard : Option Answer) (moment : ℕ) (end : TurnEnd) → heard ≡ None → EndsAs end (control_of s heard moment).end → end ≡ ends.Fault
ends_failed s (Some answer) moment end is how_so = let bad : ⊥ = cc in absurd bad
ends_failed s None moment ends.GoesOn is how_so = let bad : ⊥ = cc in absurd bad
ends_failed s None moment ends.Fault is how_so = refl
ends_failed s None moment (ends.NoAnswer req) is how_so = let bad : ⊥ = cc in absurd bad
ends_failed s None moment (ends.Refused status) is how_so = let bad : ⊥ = cc in absurd bad

-- without a fault all requests were sent
rest_none : (peer : Address) (asks : List (List ℕ)) (was now : Bool) (o n : Option (List (Address × List ℕ))) (s : Client) (heard : Option Answer) (moment : ℕ) (end : TurnEnd)
    → (sends : SendsOn peer asks was now o n) → (now ≡ true → heard ≡ None) → EndsAs end (control_of s heard moment).end → end ≢ ends.Fault → sends.rest ≡ []
rest_none peer asks was false o n s heard moment end sends lost how_so fine = sends.whole refl
rest_none peer asks was true o n s heard moment end sends lost how_so fine = absurd (fine (ends_failed s heard moment end (lost refl) how_so))

-- where the control link was received from all requests were sent
rest_before : (peer : Address) (asks : List (List ℕ)) (was now : Bool) (o n : Option (List (Address × List ℕ))) (heard : Option Answer) (answer : Answer)
    → (sends : SendsOn peer asks was now o n) → (now ≡ true → heard ≡ None) → heard ≡ Some answer → sends.rest ≡ []
rest_before peer asks was false o n heard answer sends lost is = sends.whole refl
rest_before peer asks was true o n heard answer sends lost is = let none : heard ≡ None = lost refl in let bad : ⊥ = cc in absurd bad

done_whole : (asks done rest : List (List ℕ)) → asks ≡ done ++ rest → rest ≡ [] → done ≡ asks
done_whole asks done rest is none = sym (is ∙ (ap (λ l. done ++ l) none ∙ append-nil done))

-- what was sent of the requests and of the client's bytes
sends_all : (end : TurnEnd) (asks done rest : List (List ℕ)) (send : Option (List ℕ)) → asks ≡ done ++ rest → (end ≢ ends.Fault → rest ≡ [])
    → SendsAll end (asks ++ sent_by end send) (done ++ sent_by end send)
sends_all ends.GoesOn asks done rest send is whole = ap (λ l. l ++ listed send) (done_whole asks done rest is (whole (λ bad. let no : ⊥ = cc in absurd no)))
sends_all ends.Fault asks done rest send is whole = (rest, append-nil asks ∙ (is ∙ ap (λ l. l ++ rest) (sym (append-nil done))))
sends_all (ends.NoAnswer req) asks done rest send is whole = ap (λ l. l ++ []) (done_whole asks done rest is (whole (λ bad. let no : ⊥ = cc in absurd no)))
sends_all (ends.Refused status) asks done rest send is whole = ap (λ l. l ++ []) (done_whole asks done rest is (whole (λ bad. let no : ⊥ = cc in absurd no)))

pub takes_one : (n : ℕ) (camera : Address) (r m h k l : Option (List Answer)) (w v x : Option (List (Address × List ℕ)))
    (d b : Option (List ℕ)) (s u : Client) (answer : Answer) (moment : ℕ) (was now : Bool) (end : TurnEnd) (ss hearing told us : List ReaderLane)
    → Tells r m answer → Tells d b moment → (answer ≡ failed → was ≡ true)
    → Each (λ k. Hears (part_of n k answer) moment) 0 ss hearing → Each (λ k. Ticks moment) 0 hearing told
    → AsksAndSends camera was now w v told us → k ≡ h → ClientTurn camera s moment now end u k l v x
    → TakesOne n camera (record { received = r; heard = h; sent = w; told = d; client = s }) (record { received = m; heard = l; sent = x; told = b; client = u }) end ss us
takes_one n camera r m h k l w v x d b s u answer moment was now end ss hearing told us received clock lost hears ticks asks same turn = record {
  turned = record {
    answer = answer;
    moment = moment;
    asked = asks.asked;
    heard = turn.heard;
    sent = asks.sends.done ++ sent_by end (control_of s turn.heard moment).send;
    end = end;
  };
  ended = refl;
  takes = record {
    lanes = record { hearing = hearing; told = told; hears = hears; ticks = ticks; asks = asks.asks };
    controlled = record {
      ends_as = turn.does.ends_as;
      sends = sends_all end (joined asks.asked) asks.sends.done asks.sends.rest (control_of s turn.heard moment).send asks.sends.is
          (rest_none camera (joined asks.asked) was now w v s turn.heard moment end asks.sends turn.lost turn.does.ends_as);
      lost = λ gone.
          let none : turn.heard ≡ None = turn.lost (asks.sends.stays (lost gone)) in
          let fault : end ≡ ends.Fault = ends_failed s turn.heard moment end none turn.does.ends_as in
          let quiet : sent_by end (control_of s turn.heard moment).send ≡ [] = ap (λ y. sent_by y (control_of s turn.heard moment).send) fault in
          (none, ap (λ y. y ++ sent_by end (control_of s turn.heard moment).send) (asks.sends.none (lost gone)) ∙ quiet);
      after = λ heard is. (
        sent_by end (control_of s turn.heard moment).send,
        ap (λ y. y ++ sent_by end (control_of s turn.heard moment).send)
            (done_whole (joined asks.asked) asks.sends.done asks.sends.rest asks.sends.is
            (rest_before camera (joined asks.asked) was now w v turn.heard heard asks.sends turn.lost is)),
      );
    };
    client = turn.does.state;
    received = received;
    told = clock;
    heard = subst (λ (y : Option (List Answer)). TellsEach y l (listed turn.heard)) same turn.told;
    sent = added_then camera w v x asks.sends.done (sent_by end (control_of s turn.heard moment).send) asks.sends.sent turn.does.sent;
  };
}
