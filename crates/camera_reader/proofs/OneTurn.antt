-- One turn of the reader, put together from its calls.
use Rattle.std.proofs.Common.{◌≡◌, ◌≢◌, ℕ, Bool, true, false, List, [], ◌++◌, map, Option, Some, None, Ok, refl, ap, sym, ◌∙◌, subst}
use Rattle.std.specs.Prelude.{is_some}
use Rattle.std.proofs.lemmas.List.{append-nil}
use Rattle.client_machine.specs.Machine.{Client}
use Rattle.acquisition_machine.specs.declared.config.AcqConfig.{AcqConfig}
use Rattle.acquisition_machine.specs.Machine.{Input, tick, request_bytes}
use Rattle.acquisition_machine.specs.Runs.{turn as turn_on}
use Rattle.gev_links.specs.Links.{Address, Answer, failed, answer_of}
use Rattle.gev_links.specs.Moments.{Tells, TellsEach}
use Rattle.buffer_words.specs.Passes.{Token}
use Rattle.gev_control.specs.declared.turn_end.TurnEnd.{TurnEnd}
use Rattle.gev_control.specs.declared.turn_end.TurnEnd.TheVariants as ends
use Rattle.gev_control.specs.Sends.{SendsOn}
use Rattle.gev_control.specs.Controlled.{EndsAs, listed, sent_by, control_of, ClientTurn}
use Rattle.gev_control.proofs.Fronts.{added_then}
use Rattle.board_calls.specs.declared.mode.Mode.{Mode}
use Rattle.packet_requests.specs.declared.id_mode.IdMode.{IdMode}
use Rattle.packet_requests.specs.Requests.{control_request}
use Rattle.gev_acq.specs.declared.heard.Heard.{Heard}
use Rattle.gev_acq.specs.Turning.{inputs_if, ServesTurn}
use Rattle.gev_acq.specs.Turns.{bytes_in, SendsAll}
use Rattle.camera_reader.specs.Hearing.{is_datagram, HearsOnce}
use Rattle.camera_reader.specs.declared.receiver_clock.ReceiverClock.{ReceiverClock}
use Rattle.camera_reader.specs.ReceiverClock.{told_at, read_at}
use Rattle.camera_reader.specs.Turns.{TakesOne}

pub some_came : (came : Option (ℕ × Address)) (out : List ℕ) → is_some came ≡ is_datagram (answer_of (Ok came) out)
some_came None out = refl
some_came (Some datagram) out = refl

-- a turn in which a link failed before the client's receive ends by a fault
ends_failed : (s : Client) (heard : Option Answer) (moment : ℕ) (end : TurnEnd) → heard ≡ None → EndsAs end (control_of s heard moment).end → end ≡ ends.Fault
ends_failed s (Some answer) moment end is how_so = let bad : ⊥ = cc in absurd bad
ends_failed s None moment ends.GoesOn is how_so = let bad : ⊥ = cc in absurd bad
ends_failed s None moment ends.Fault is how_so = refl
ends_failed s None moment (ends.NoAnswer req) is how_so = let bad : ⊥ = cc in absurd bad
ends_failed s None moment (ends.Refused status) is how_so = let bad : ⊥ = cc in absurd bad

-- without a fault all requests were sent
rest_none : (peer : Address) (asks : List (List ℕ)) (was now : Bool) (o n : Option (List (Address × List ℕ))) (s : Client) (heard : Option Answer) (moment : ℕ) (end : TurnEnd)
    → (sends : SendsOn peer asks was now o n) → (now ≡ true → heard ≡ None) → EndsAs end (control_of s heard moment).end → end ≢ ends.Fault → sends.rest ≡ []
rest_none peer asks was false o n s heard moment end sends lost how_so fine = sends.whole refl
rest_none peer asks was true o n s heard moment end sends lost how_so fine = absurd (fine (ends_failed s heard moment end (lost refl) how_so))

-- where the control link was received from all requests were sent
rest_before : (peer : Address) (asks : List (List ℕ)) (was now : Bool) (o n : Option (List (Address × List ℕ))) (heard : Option Answer) (answer : Answer)
    → (sends : SendsOn peer asks was now o n) → (now ≡ true → heard ≡ None) → heard ≡ Some answer → sends.rest ≡ []
rest_before peer asks was false o n heard answer sends lost is = sends.whole refl
rest_before peer asks was true o n heard answer sends lost is = let none : heard ≡ None = lost refl in let bad : ⊥ = cc in absurd bad

done_whole : (asks done rest : List (List ℕ)) → asks ≡ done ++ rest → rest ≡ [] → done ≡ asks
done_whole asks done rest is none = sym (is ∙ (ap (λ l. done ++ l) none ∙ append-nil done))

-- what was sent of the requests and of the client's bytes
sends_all : (end : TurnEnd) (asks done rest : List (List ℕ)) (send : Option (List ℕ)) → asks ≡ done ++ rest → (end ≢ ends.Fault → rest ≡ [])
    → SendsAll end (asks ++ sent_by end send) (done ++ sent_by end send)
sends_all ends.GoesOn asks done rest send is whole = ap (λ l. l ++ listed send) (done_whole asks done rest is (whole (λ bad. let no : ⊥ = cc in absurd no)))
sends_all ends.Fault asks done rest send is whole = (rest, append-nil asks ∙ (is ∙ ap (λ l. l ++ rest) (sym (append-nil done))))
sends_all (ends.NoAnswer req) asks done rest send is whole = ap (λ l. l ++ []) (done_whole asks done rest is (whole (λ bad. let no : ⊥ = cc in absurd no)))
sends_all (ends.Refused status) asks done rest send is whole = ap (λ l. l ++ []) (done_whole asks done rest is (whole (λ bad. let no : ⊥ = cc in absurd no)))

pub takes_one : (mode : Mode) (c : AcqConfig) (ids : IdMode) (camera : Address) (Old Mid New : List Input → Type 0) (p q : ReceiverClock)
    (top refused top_after refused_after : ℕ) (r m h k l : Option (List Answer)) (w v x : Option (List (Address × List ℕ)))
    (d b : Option (List ℕ)) (s u : Client) (answer : Answer) (came : Bool) (heard : Heard) (moment said : ℕ) (requests : List (List ℕ)) (was now : Bool) (end : TurnEnd)
    (before later : Token)
    → HearsOnce ids top refused top_after refused_after r m answer came → Tells d b moment → said ≡ told_at p moment came → q ≡ read_at p moment came → (answer ≡ failed → was ≡ true)
    → ServesTurn mode c Old Mid (bytes_in answer) said heard requests before later → ((i : List Input) → Mid i → New i)
    → SendsOn camera (map (control_request ids) requests) was now w v → k ≡ h → ClientTurn camera s moment now end u k l v x
    → TakesOne mode c ids camera Old New p q top refused top_after refused_after (record { received = r; heard = h; sent = w; told = d; client = s })
    (record { received = m; heard = l; sent = x; told = b; client = u }) moment came end before later
takes_one mode c ids camera Old Mid New p q top refused top_after refused_after r m h k l w v x d b s u answer came heard moment said requests was now end before later
    hears tells is goes lost serves keeps sends same turn = record {
      turned = record {
        answer = answer;
        moment = moment;
        told = said;
        given = serves.given;
        heard = turn.heard;
        sent = sends.done ++ sent_by end (control_of s turn.heard moment).send;
        end = end;
      };
      arrival = record { answer = hears.arrived; moment = moment };
      ended = refl;
      told = is ∙ ap (told_at p moment) hears.came_is;
      read = goes ∙ ap (read_at p moment) hears.came_is;
      hears = record { moment = refl; heard = hears.heard; greatest = hears.greatest; counted = hears.counted };
      takes = record {
        serves = record {
          events = serves.serves.events;
          enters = serves.serves.enters;
          serves = serves.serves.serves;
          stands = λ i old. keeps _ (serves.serves.stands i old);
          claims = serves.serves.claims;
        };
        entry = record { moment = moment; datagram = is_some (bytes_in answer); kept = heard.kept; opened = heard.opened; claim = heard.claim };
        notes = λ i old. record { moment = refl; datagram = refl; heard = serves.heard i old };
        controlled = λ i old. record {
          ends_as = turn.does.ends_as;
          sends = sends_all end _ sends.done sends.rest (control_of s turn.heard moment).send (sym (asked i old) ∙ sends.is)
              (rest_none camera (map (control_request ids) requests) was now w v s turn.heard moment end sends turn.lost turn.does.ends_as);
          lost = λ gone.
              let none : turn.heard ≡ None = turn.lost (sends.stays (lost gone)) in
              let fault : end ≡ ends.Fault = ends_failed s turn.heard moment end none turn.does.ends_as in
              let quiet : sent_by end (control_of s turn.heard moment).send ≡ [] = ap (λ n. sent_by n (control_of s turn.heard moment).send) fault in
              (none, ap (λ y. y ++ sent_by end (control_of s turn.heard moment).send) (sends.none (lost gone)) ∙ quiet);
          after = λ got is. (
            sent_by end (control_of s turn.heard moment).send,
            ap (λ y. y ++ sent_by end (control_of s turn.heard moment).send)
                (done_whole (map (control_request ids) requests) sends.done sends.rest sends.is
                (rest_before camera (map (control_request ids) requests) was now w v turn.heard got sends turn.lost is) ∙ asked i old),
          );
        };
        client = turn.does.state;
        received = hears.told;
        told = tells;
        heard = subst (λ (y : Option (List Answer)). TellsEach y l (listed turn.heard)) same turn.told;
        sent = added_then camera w v x sends.done (sent_by end (control_of s turn.heard moment).send) sends.sent turn.does.sent;
      };
      moment_is = refl;
      came_is = hears.came_is;
    }
  where
    asked : (i : List Input) → Old i → map (control_request ids) requests
        ≡ map (control_request ids) (map request_bytes (turn_on c (i ++ inputs_if (bytes_in answer) serves.given) (tick said)).requests)
    asked i old = ap (map (control_request ids)) (serves.asks i old)
