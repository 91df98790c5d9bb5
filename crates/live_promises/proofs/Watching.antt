-- The wait for the first leader and the turns of the reader, as acts of the client.
use Rattle.std.proofs.Common.{◌≡◌, ℕ, ◌≤◌, Bool, true, false, List, [], ◌∷◌, ◌++◌, map, Option, Some, None, Result, Ok, Err, refl, ap, sym, subst, ◌∙◌, append_assoc, arith}
use Rattle.std.proofs.lemmas.List.{append-nil}
use Rattle.std.specs.List.{AllByRecursion}
use Rattle.gvcp_wire.specs.Messages.{PlainCommand}
use Rattle.client_machine.specs.Machine.{Client}
use Rattle.acquisition_machine.specs.declared.config.AcqConfig.{AcqConfig}
use Rattle.acquisition_machine.specs.Machine.{Input, State, Turn as MachineTurn, Request as Resend, tick, request_bytes}
use Rattle.acquisition_machine.specs.Runs.{After, turn}
use Rattle.acquisition_machine.specs.RequestLaws.{IsAsked}
use Rattle.acquisition_machine.proofs.Asking.{requests_are_missing}
use Rattle.gev_links.specs.Links.{Address, Answer, Adds}
use Rattle.gev_links.specs.Moments.{Tells, TellsEach}
use Rattle.gev_links.proofs.Growing.{tells_first, tells_none, adds_none}
use Rattle.gev_control.specs.declared.turn_end.TurnEnd.{TurnEnd}
use Rattle.gev_control.specs.declared.turn_end.TurnEnd.TheVariants as ends
use Rattle.gev_control.specs.Controlled.{control_of, listed, sent_by}
use Rattle.gev_control.specs.CarriesOut.{ControlSide}
use Rattle.gev_control.specs.Sends.{addressed}
use Rattle.camera_control.specs.declared.control_end.ControlEnd.{ControlEnd}
use Rattle.packet_requests.specs.declared.id_mode.IdMode.{IdMode}
use Rattle.packet_requests.specs.Requests.{control_request}
use Rattle.first_leader.specs.declared.leading.FirstLeader.{FirstLeader}
use Rattle.first_leader.specs.declared.no_leader.NoLeader.{NoLeader}
use Rattle.first_leader.specs.declared.no_leader.NoLeader.TheVariants as waits
use Rattle.first_leader.specs.declared.patience.Patience.{Patience}
use Rattle.first_leader.specs.declared.silence.Pace.{Pace}
use Rattle.first_leader.specs.Waiting.{WaitSide, TakesTurn, Waits, begins, goes_on, EndsTurn, found, unseen, ended, silent, EndsWait, by_turn, by_input, AwaitsLeader}
use Rattle.gev_acq.specs.Turns.{Turned, inputs_before, inputs_of, SendsAll}
use Rattle.gev_acq.specs.Acquired.{heards_in, sends_in, moments_in}
use Rattle.camera_reader.specs.declared.reader_end.ReaderEnd.{ReaderEnd}
use Rattle.camera_reader.specs.declared.reader_end.ReaderEnd.TheVariants as reads
use Rattle.camera_reader.specs.Hearing.{Arrival}
use Rattle.camera_reader.specs.Asking.{requests_of, IsControlled, ControlEach}
use Rattle.camera_reader.specs.Listening.{turn_cause, client_after, NoneEnded}
use Rattle.gev_receive.specs.Receives.{control_part}
use Rattle.gev_receive.specs.Reader.{EndsReading}
use Rattle.live_promises.specs.Moves.{moves_sent, moves_heard, datagrams}
use Rattle.live_promises.proofs.Links.{sent-append, heard-append, datagrams-append}
use Rattle.live_promises.specs.Acts.{Act, asks, behind_all, moves_in, AreTimed, HasActed, NoneLost, submitted_in, asked_in}
use Rattle.live_promises.specs.Commands.{IsResend}
use Rattle.live_promises.proofs.Acting.{behind-append, moves-append, submitted-append, asked-append, timed_both, acted_none, acted_then}
use Rattle.live_promises.proofs.Stepping.{Outs}
use Rattle.live_promises.proofs.Logs.{Awaited}
use Rattle.live_promises.proofs.Parts.{control_acts, is_on, control_behind, control_sent, control_heard, control_timed, control_submits, control_asks, control_outs, CausedIf, control_caused, caused_later}

-- What was done without a command, up to this cause, if it ended all. Where packets may not be asked for again none were.
pub record WatchCame (camera : Address) (allowed : Bool) (o n : ControlSide) (cause : Option ControlEnd) : Type 0 where
  pub acts : List Act
  pub acted : HasActed camera o n acts
  pub submits : submitted_in o.client acts ≡ []
  pub resends : AllByRecursion IsResend (asked_in acts)
  pub unasked : allowed ≡ false → asked_in acts ≡ []
  pub outs : Outs (Awaited true) n.client
  pub caused : CausedIf o.client acts cause

both_resend : (xs ys : List (List ℕ)) → AllByRecursion IsResend xs → AllByRecursion IsResend ys → AllByRecursion IsResend (xs ++ ys)
both_resend [] ys first second = second
both_resend (x ∷ xs) ys first second = (first.0, both_resend xs ys first.1 second)

pub watch_none : (camera : Address) (allowed : Bool) (o n : ControlSide) → n ≡ o → Outs (Awaited true) o.client → WatchCame camera allowed o n None
watch_none camera allowed o n same outs = record {
  acts = [];
  acted = acted_none camera o n same;
  submits = refl;
  resends = tt;
  unasked = λ none. refl;
  outs = subst (λ (x : ControlSide). Outs (Awaited true) x.client) (sym same) outs;
  caused = tt;
}

pub watch_then : (camera : Address) (allowed : Bool) (o m n : ControlSide) (cause : Option ControlEnd) → WatchCame camera allowed o m None → WatchCame camera allowed m n cause
    → WatchCame camera allowed o n cause
watch_then camera allowed o m n cause first second = record {
  acts = first.acts ++ second.acts;
  acted = acted_then camera o m n first.acts second.acts first.acted second.acted;
  submits =
      submitted-append o.client first.acts second.acts
      ∙ (ap (λ (l : List PlainCommand). l ++ submitted_in (behind_all o.client first.acts) second.acts) first.submits
      ∙ (ap (λ (s : Client). submitted_in s second.acts) (sym first.acted.client) ∙ second.submits));
  resends = subst (AllByRecursion IsResend) (sym (asked-append first.acts second.acts)) (both_resend (asked_in first.acts) (asked_in second.acts) first.resends second.resends);
  unasked = λ none.
      asked-append first.acts second.acts ∙ (ap (λ (l : List (List ℕ)). l ++ asked_in second.acts) (first.unasked none) ∙ second.unasked none);
  outs = second.outs;
  caused =
      caused_later o.client first.acts second.acts cause first.caused
      (subst (λ (s : Client). CausedIf s second.acts cause) first.acted.client second.caused);
}

-- ---- the wait

turn_watch : (camera : Address) (allowed : Bool) (o n : WaitSide) (moment : ℕ) (cause : Option ControlEnd) → TakesTurn camera o n moment cause → Outs (Awaited true) o.client
    → WatchCame camera allowed (control_part o) (control_part n) cause
turn_watch camera allowed o n moment cause takes outs = record {
  acts = acts;
  acted = record {
    client = takes.beats.turn.does.state ∙ control_behind o.client heard moment (is_on end);
    answers = listed heard;
    heard = takes.beats.turn.told;
    came = control_heard o.client heard moment (is_on end);
    sent =
        subst (λ (l : List (List ℕ)). Adds o.sent n.sent (addressed camera l)) (sym (control_sent o.client heard moment end)) takes.beats.turn.does.sent;
    moments = moment ∷ [];
    told = tells_first o.told n.told moment takes.told;
    timed = control_timed o.client heard moment (is_on end);
  };
  submits = control_submits o.client heard moment (is_on end);
  resends = subst (AllByRecursion IsResend) (sym (control_asks o.client heard moment (is_on end))) tt;
  unasked = λ none. control_asks o.client heard moment (is_on end);
  outs =
      subst (Outs (Awaited true)) (sym (takes.beats.turn.does.state ∙ control_behind o.client heard moment (is_on end)))
      (control_outs o.client heard moment (is_on end) outs);
  caused =
      subst (CausedIf o.client acts) (sym takes.beats.cause_is)
      (control_caused o.client heard moment end n.client takes.beats.turn.does.ends_as takes.beats.turn.does.state outs);
}
  where
    end : TurnEnd
    end = takes.beats.end

    heard : Option Answer
    heard = takes.beats.turn.heard

    acts : List Act
    acts = control_acts o.client heard moment (is_on end)

waits_watch : (camera : Address) (allowed : Bool) (silence begin : ℕ) (o : WaitSide) (pace : Pace) (n : WaitSide) → Waits camera silence begin o pace n → Outs (Awaited true) o.client
    → WatchCame camera allowed (control_part o) (control_part n) None
waits_watch camera allowed silence begin o _ _ begins outs = watch_none camera allowed (control_part o) (control_part o) refl outs
waits_watch camera allowed silence begin o _ _ (goes_on pace m n moment so takes on) outs =
    let first : WatchCame camera allowed (control_part o) (control_part m) None = waits_watch camera allowed silence begin o pace m so outs in
    watch_then camera allowed (control_part o) (control_part m) (control_part n) None first (turn_watch camera allowed m n moment None takes first.outs)

-- how control ended, if it did
abbrev pub wait_cause : Result FirstLeader NoLeader → Option ControlEnd
wait_cause (Ok leader) = None
wait_cause (Err waits.Silent) = None
wait_cause (Err waits.InputEnded) = None
wait_cause (Err (waits.Ended cause)) = Some cause

last_watch : (camera : Address) (allowed : Bool) (patience : Patience) (begin : ℕ) (pace : Pace) (m n : WaitSide) (result : Result FirstLeader NoLeader)
    → EndsTurn camera patience begin pace m n result → Outs (Awaited true) m.client → WatchCame camera allowed (control_part m) (control_part n) (wait_cause result)
last_watch camera allowed patience begin pace m n _ (found leader is same) outs = watch_none camera allowed (control_part m) (control_part n) (ap control_part same) outs
last_watch camera allowed patience begin pace m n _ (unseen drops same) outs =
    let none : WatchCame camera allowed (control_part m) (control_part n) None =
    watch_none camera allowed (control_part m) (control_part n) (ap control_part same) outs in
    record { acts = none.acts; acted = none.acted; submits = none.submits; resends = none.resends; unasked = none.unasked; outs = none.outs; caused = tt }
last_watch camera allowed patience begin pace m n _ (ended moment cause takes) outs = turn_watch camera allowed m n moment (Some cause) takes outs
last_watch camera allowed patience begin pace m n _ (silent moment takes over) outs = turn_watch camera allowed m n moment None takes outs

end_watch : (camera : Address) (allowed : Bool) (patience : Patience) (begin : ℕ) (pace : Pace) (m n : WaitSide) (result : Result FirstLeader NoLeader)
    → EndsWait camera patience begin pace m n result → Outs (Awaited true) m.client → WatchCame camera allowed (control_part m) (control_part n) (wait_cause result)
end_watch camera allowed patience begin pace m n _ (by_turn result turn) outs = last_watch camera allowed patience begin pace m n result turn outs
end_watch camera allowed patience begin pace m n _ (by_input until same) outs = watch_none camera allowed (control_part m) (control_part n) (ap control_part same) outs

-- the begin of the wait reads the clock
begin_watch : (camera : Address) (allowed : Bool) (o : ControlSide) (told : Option (List ℕ)) (begin : ℕ) → Tells o.told told begin → Outs (Awaited true) o.client
    → WatchCame camera allowed o (record o { told = told }) None
begin_watch camera allowed o told begin tells outs = record {
  acts = [];
  acted = record {
    client = refl;
    answers = [];
    heard = tells_none o.heard;
    came = refl;
    sent = adds_none o.sent;
    moments = begin ∷ [];
    told = tells_first o.told told begin tells;
    timed = tt;
  };
  submits = refl;
  resends = tt;
  unasked = λ none. refl;
  outs = outs;
  caused = tt;
}

pub wait_watch : (camera : Address) (allowed : Bool) (patience : Patience) (o n : WaitSide) (result : Result FirstLeader NoLeader) → AwaitsLeader camera patience o n result
    → Outs (Awaited true) o.client → WatchCame camera allowed (control_part o) (control_part n) (wait_cause result)
wait_watch camera allowed patience o n result awaits outs =
    let from : WaitSide = record o { told = awaits.first } in
    let first : WatchCame camera allowed (control_part o) (control_part from) None = begin_watch camera allowed (control_part o) awaits.first awaits.begin awaits.begun outs in
    let second : WatchCame camera allowed (control_part from) (control_part awaits.m) None =
    waits_watch camera allowed patience.silence awaits.begin from awaits.pace awaits.m awaits.waits outs in
    watch_then camera allowed (control_part o) (control_part from) (control_part n) (wait_cause result) first
    (watch_then camera allowed (control_part from) (control_part awaits.m) (control_part n) (wait_cause result) second
    (end_watch camera allowed patience awaits.begin awaits.pace awaits.m n result awaits.ends second.outs))

-- ---- packets that are asked for again

abbrev pub asks_all : List (List ℕ) → List Act
asks_all [] = []
asks_all (bytes ∷ rest) = asks bytes ∷ asks_all rest

asks_behind : (s : Client) (xs : List (List ℕ)) → behind_all s (asks_all xs) ≡ s
asks_behind s [] = refl
asks_behind s (x ∷ xs) = asks_behind s xs

asks_sent : (s : Client) (xs : List (List ℕ)) → moves_sent (moves_in s (asks_all xs)) ≡ xs
asks_sent s [] = refl
asks_sent s (x ∷ xs) = ap (λ (l : List (List ℕ)). x ∷ l) (asks_sent s xs)

asks_heard : (s : Client) (xs : List (List ℕ)) → moves_heard (moves_in s (asks_all xs)) ≡ []
asks_heard s [] = refl
asks_heard s (x ∷ xs) = asks_heard s xs

asks_timed : (moments : List ℕ) (xs : List (List ℕ)) → AreTimed moments (asks_all xs)
asks_timed moments [] = tt
asks_timed moments (x ∷ xs) = (tt, asks_timed moments xs)

asks_submit : (s : Client) (xs : List (List ℕ)) → submitted_in s (asks_all xs) ≡ []
asks_submit s [] = refl
asks_submit s (x ∷ xs) = asks_submit s xs

asks_ask : (xs : List (List ℕ)) → asked_in (asks_all xs) ≡ xs
asks_ask [] = refl
asks_ask (x ∷ xs) = ap (λ (l : List (List ℕ)). x ∷ l) (asks_ask xs)

asks_whole : (xs : List (List ℕ)) → NoneLost (asks_all xs)
asks_whole [] = tt
asks_whole (x ∷ xs) = (refl, asks_whole xs)

-- a receiver's requests
resend_all : (ids : IdMode) (rs : List Resend) → AllByRecursion IsResend (map (control_request ids) (map request_bytes rs))
resend_all ids [] = tt
resend_all ids (r ∷ rs) = ((ids, (r, refl)), resend_all ids rs)

front_resend : (xs ys all : List (List ℕ)) → all ≡ xs ++ ys → AllByRecursion IsResend all → AllByRecursion IsResend xs
front_resend xs ys all is so = go xs ys (subst (AllByRecursion IsResend) is so)
  where
    go : (xs ys : List (List ℕ)) → AllByRecursion IsResend (xs ++ ys) → AllByRecursion IsResend xs
    go [] ys every = tt
    go (x ∷ xs) ys every = (every.0, go xs ys every.1)

none_of : (c : AcqConfig) (s : State) (t : MachineTurn) (rs : List Resend) → c.rounds ≡ 0 → AllByRecursion (IsAsked c s t) rs → rs ≡ []
none_of c s t [] none all = refl
none_of c s t (r ∷ rs) none all = absurd (omega (arith, none, all.0.rounds_left))

none_asked : (ids : IdMode) (c : AcqConfig) (q : List Input) (t : Turned) → 1 ≤ c.window → c.rounds ≡ 0 → requests_of ids c q t ≡ []
none_asked ids c q t wide none =
    ap (λ (rs : List Resend). map (control_request ids) (map request_bytes rs))
    (none_of c (After c (q ++ inputs_before t)) (turn c (q ++ inputs_before t) (tick t.told)) (turn c (q ++ inputs_before t) (tick t.told)).requests none
    (requests_are_missing c (q ++ inputs_before t) (tick t.told) wide))

no_front : (xs ys all : List (List ℕ)) → all ≡ xs ++ ys → all ≡ [] → xs ≡ []
no_front [] ys all is none = refl
no_front (x ∷ xs) ys all is none = let bad : [] ≡ x ∷ (xs ++ ys) = sym none ∙ is in absurd (cc)

-- ---- a turn of the reader

-- what a turn asked for, a front of the requests, and what else it sent
record Asks (ids : IdMode) (c : AcqConfig) (q : List Input) (s : Client) (t : Turned) : Type 0 where
  asked : List (List ℕ)
  rest : List (List ℕ)
  front : requests_of ids c q t ≡ asked ++ rest
  sent : t.sent ≡ asked ++ sent_by t.end (control_of s t.heard t.moment).send

asks_by : (ids : IdMode) (c : AcqConfig) (q : List Input) (s : Client) (t : Turned) (end : TurnEnd) (send : Option (List ℕ)) → SendsAll end (requests_of ids c q t ++ sent_by end send) t.sent
    → (asked : List (List ℕ)) × ((rest : List (List ℕ)) × ((requests_of ids c q t ≡ asked ++ rest) × (t.sent ≡ asked ++ sent_by end send)))
asks_by ids c q s t ends.GoesOn send all = (requests_of ids c q t, ([], (sym (append-nil (requests_of ids c q t)), all)))
asks_by ids c q s t ends.Fault send all = (t.sent, (all.0, (sym (append-nil (requests_of ids c q t)) ∙ all.1, sym (append-nil t.sent))))
asks_by ids c q s t (ends.NoAnswer req) send all = (requests_of ids c q t, ([], (sym (append-nil (requests_of ids c q t)), all)))
asks_by ids c q s t (ends.Refused status) send all = (requests_of ids c q t, ([], (sym (append-nil (requests_of ids c q t)), all)))

asks_of_turn : (ids : IdMode) (c : AcqConfig) (q : List Input) (s : Client) (t : Turned) → IsControlled ids c q s t → Asks ids c q s t
asks_of_turn ids c q s t controlled =
    let x = asks_by ids c q s t t.end (control_of s t.heard t.moment).send controlled.sends in
    record { asked = x.0; rest = x.1.0; front = x.1.1.0; sent = x.1.1.1 }

-- what turns were, up to this cause, if it ended all
pub record ReadCame (c : AcqConfig) (s u : Client) (made : List Turned) (cause : Option ControlEnd) : Type 0 where
  pub acts : List Act
  pub client : u ≡ behind_all s acts
  pub sent : sends_in made ≡ moves_sent (moves_in s acts)
  pub heard : datagrams (heards_in made) ≡ moves_heard (moves_in s acts)
  pub timed : AreTimed (moments_in made) acts
  pub submits : submitted_in s acts ≡ []
  pub resends : AllByRecursion IsResend (asked_in acts)
  pub unasked : c.rounds ≡ 0 → asked_in acts ≡ []
  pub outs : Outs (Awaited true) u
  pub caused : CausedIf s acts cause

module _ (ids : IdMode) (c : AcqConfig) (q : List Input) (s : Client) (t : Turned) (wide : 1 ≤ c.window) (controlled : IsControlled ids c q s t) (outs : Outs (Awaited true) s) where
  abbrev u : Client
  u = (control_of s t.heard t.moment).state

  own : List Act
  own = control_acts s t.heard t.moment (is_on t.end)

  a : Asks ids c q s t
  a = asks_of_turn ids c q s t controlled

  there : behind_all s (asks_all a.asked) ≡ s
  there = asks_behind s a.asked

  one_read : ReadCame c s u (t ∷ []) (turn_cause s t)
  one_read = record {
    acts = asks_all a.asked ++ control_acts s t.heard t.moment (is_on t.end);
    client =
        control_behind s t.heard t.moment (is_on t.end)
        ∙ sym
        (behind-append s (asks_all a.asked) (control_acts s t.heard t.moment (is_on t.end))
        ∙ ap (λ (x : Client). behind_all x (control_acts s t.heard t.moment (is_on t.end))) there);
    sent =
        append-nil t.sent
        ∙ (a.sent
        ∙ sym
        (ap moves_sent (moves-append s (asks_all a.asked) (control_acts s t.heard t.moment (is_on t.end)))
        ∙ (sent-append (moves_in s (asks_all a.asked)) (moves_in (behind_all s (asks_all a.asked)) (control_acts s t.heard t.moment (is_on t.end)))
        ∙ (ap (λ (l : List (List ℕ)). l ++ moves_sent (moves_in (behind_all s (asks_all a.asked)) (control_acts s t.heard t.moment (is_on t.end)))) (asks_sent s a.asked)
        ∙ ap (λ (l : List (List ℕ)). a.asked ++ l)
        (ap (λ (x : Client). moves_sent (moves_in x (control_acts s t.heard t.moment (is_on t.end)))) there ∙ control_sent s t.heard t.moment t.end)))));
    heard =
        ap datagrams (append-nil (listed t.heard))
        ∙ (control_heard s t.heard t.moment (is_on t.end)
        ∙ sym
        (ap moves_heard (moves-append s (asks_all a.asked) (control_acts s t.heard t.moment (is_on t.end)))
        ∙ (heard-append (moves_in s (asks_all a.asked)) (moves_in (behind_all s (asks_all a.asked)) (control_acts s t.heard t.moment (is_on t.end)))
        ∙ (ap (λ (l : List (List ℕ)). l ++ moves_heard (moves_in (behind_all s (asks_all a.asked)) (control_acts s t.heard t.moment (is_on t.end)))) (asks_heard s a.asked)
        ∙ ap (λ (x : Client). moves_heard (moves_in x (control_acts s t.heard t.moment (is_on t.end)))) there))));
    timed = timed_both [] (t.moment ∷ []) (asks_all a.asked) (control_acts s t.heard t.moment (is_on t.end)) (asks_timed [] a.asked) (control_timed s t.heard t.moment (is_on t.end));
    submits =
        submitted-append s (asks_all a.asked) (control_acts s t.heard t.moment (is_on t.end))
        ∙ (ap (λ (l : List PlainCommand). l ++ submitted_in (behind_all s (asks_all a.asked)) (control_acts s t.heard t.moment (is_on t.end))) (asks_submit s a.asked)
        ∙ (ap (λ (x : Client). submitted_in x (control_acts s t.heard t.moment (is_on t.end))) there ∙ control_submits s t.heard t.moment (is_on t.end)));
    resends =
        subst (AllByRecursion IsResend) (sym asked_is)
        (front_resend a.asked a.rest (requests_of ids c q t) a.front (resend_all ids (turn c (q ++ inputs_before t) (tick t.told)).requests));
    unasked = λ none. asked_is ∙ no_front a.asked a.rest (requests_of ids c q t) a.front (none_asked ids c q t wide none);
    outs = subst (Outs (Awaited true)) (sym (control_behind s t.heard t.moment (is_on t.end))) (control_outs s t.heard t.moment (is_on t.end) outs);
    caused =
        caused_later s (asks_all a.asked) (control_acts s t.heard t.moment (is_on t.end)) (turn_cause s t) (asks_whole a.asked)
        (subst (λ (x : Client). CausedIf x (control_acts s t.heard t.moment (is_on t.end)) (turn_cause s t)) (sym there)
        (control_caused s t.heard t.moment t.end u controlled.ends_as refl outs));
  }
    where
      asked_is : asked_in (asks_all a.asked ++ control_acts s t.heard t.moment (is_on t.end)) ≡ a.asked
      asked_is =
          asked-append (asks_all a.asked) (control_acts s t.heard t.moment (is_on t.end))
          ∙ (ap (λ (l : List (List ℕ)). asked_in (asks_all a.asked) ++ l) (control_asks s t.heard t.moment (is_on t.end))
          ∙ (append-nil (asked_in (asks_all a.asked)) ∙ asks_ask a.asked))

-- ---- turns, one after the other

sends-append : (xs ys : List Turned) → sends_in (xs ++ ys) ≡ sends_in xs ++ sends_in ys
sends-append [] ys = refl
sends-append (x ∷ xs) ys = ap (λ (l : List (List ℕ)). x.sent ++ l) (sends-append xs ys) ∙ sym (append_assoc x.sent (sends_in xs) (sends_in ys))

heards-append : (xs ys : List Turned) → heards_in (xs ++ ys) ≡ heards_in xs ++ heards_in ys
heards-append [] ys = refl
heards-append (x ∷ xs) ys = ap (λ (l : List Answer). listed x.heard ++ l) (heards-append xs ys) ∙ sym (append_assoc (listed x.heard) (heards_in xs) (heards_in ys))

moments-append : (xs ys : List Turned) → moments_in (xs ++ ys) ≡ moments_in xs ++ moments_in ys
moments-append [] ys = refl
moments-append (x ∷ xs) ys = ap (λ (l : List ℕ). x.moment ∷ l) (moments-append xs ys)

module _ (c : AcqConfig) (s m u : Client) (xs ys : List Turned) (cause : Option ControlEnd) (first : ReadCame c s m xs None) (second : ReadCame c m u ys cause) where
  read_then : ReadCame c s u (xs ++ ys) cause
  read_then = record {
    acts = first.acts ++ second.acts;
    client = second.client ∙ (ap (λ (x : Client). behind_all x second.acts) first.client ∙ sym (behind-append s first.acts second.acts));
    sent =
        sends-append xs ys
        ∙ (ap (λ (l : List (List ℕ)). l ++ sends_in ys) first.sent
        ∙ (ap (λ (l : List (List ℕ)). moves_sent (moves_in s first.acts) ++ l) (second.sent ∙ ap (λ (x : Client). moves_sent (moves_in x second.acts)) first.client)
        ∙ (sym (sent-append (moves_in s first.acts) (moves_in (behind_all s first.acts) second.acts)) ∙ ap moves_sent (sym (moves-append s first.acts second.acts)))));
    heard =
        ap datagrams (heards-append xs ys)
        ∙ (datagrams-append (heards_in xs) (heards_in ys)
        ∙ (ap (λ (l : List (List ℕ)). l ++ datagrams (heards_in ys)) first.heard
        ∙ (ap (λ (l : List (List ℕ)). moves_heard (moves_in s first.acts) ++ l) (second.heard ∙ ap (λ (x : Client). moves_heard (moves_in x second.acts)) first.client)
        ∙ (sym (heard-append (moves_in s first.acts) (moves_in (behind_all s first.acts) second.acts)) ∙ ap moves_heard (sym (moves-append s first.acts second.acts))))));
    timed =
        subst (λ (l : List ℕ). AreTimed l (first.acts ++ second.acts)) (sym (moments-append xs ys))
        (timed_both (moments_in xs) (moments_in ys) first.acts second.acts first.timed second.timed);
    submits =
        submitted-append s first.acts second.acts
        ∙ (ap (λ (l : List PlainCommand). l ++ submitted_in (behind_all s first.acts) second.acts) first.submits
        ∙ (ap (λ (x : Client). submitted_in x second.acts) (sym first.client) ∙ second.submits));
    resends = subst (AllByRecursion IsResend) (sym (asked-append first.acts second.acts)) (both_resend (asked_in first.acts) (asked_in second.acts) first.resends second.resends);
    unasked = λ none.
        asked-append first.acts second.acts ∙ (ap (λ (l : List (List ℕ)). l ++ asked_in second.acts) (first.unasked none) ∙ second.unasked none);
    outs = second.outs;
    caused =
        caused_later s first.acts second.acts cause first.caused (subst (λ (x : Client). CausedIf x second.acts cause) first.client second.caused);
  }

-- how control ended, if it did
abbrev pub read_cause : ReaderEnd → Option ControlEnd
read_cause reads.Stopped = None
read_cause reads.Silent = None
read_cause (reads.Ended cause) = Some cause

module _ (ids : IdMode) (c : AcqConfig) (wide : 1 ≤ c.window) where
  -- turns of which none ended control
  all_read : (q : List Input) (s u : Client) (made : List Turned) → ControlEach ids c q s made u → NoneEnded s made → Outs (Awaited true) s → ReadCame c s u made None
  all_read q s u [] each none outs = record {
    acts = [];
    client = each;
    sent = refl;
    heard = refl;
    timed = tt;
    submits = refl;
    resends = tt;
    unasked = λ rounds. refl;
    outs = subst (Outs (Awaited true)) (sym each) outs;
    caused = tt;
  }
  all_read q s u (t ∷ ts) each none outs =
      let m : Client = (control_of s t.heard t.moment).state in
      let first : ReadCame c s m (t ∷ []) None = subst (ReadCame c s m (t ∷ [])) none.0 (one_read ids c q s t wide each.0 outs) in
      read_then c s m u (t ∷ []) ts None first (all_read (q ++ inputs_of t) m u ts each.1 none.1 first.outs)

  -- and one more, which may have
  last_read : (q : List Input) (s u : Client) (before : List Turned) (last : Turned) (cause : Option ControlEnd) → ControlEach ids c q s (before ++ last ∷ []) u → NoneEnded s before
      → turn_cause (client_after s before) last ≡ cause → Outs (Awaited true) s → ReadCame c s u (before ++ last ∷ []) cause
  last_read q s u [] last cause each none is outs =
      subst (λ (x : Client). ReadCame c s x (last ∷ []) cause) (sym each.1) (subst (ReadCame c s (control_of s last.heard last.moment).state (last ∷ [])) is (one_read ids c q s last wide each.0 outs))
  last_read q s u (t ∷ ts) last cause each none is outs =
      let m : Client = (control_of s t.heard t.moment).state in
      let first : ReadCame c s m (t ∷ []) None = subst (ReadCame c s m (t ∷ [])) none.0 (one_read ids c q s t wide each.0 outs) in
      read_then c s m u (t ∷ []) (ts ++ last ∷ []) cause first (last_read (q ++ inputs_of t) m u ts last cause each.1 none.1 is first.outs)

  pub read_came : (q : List Input) (s u : Client) (end : ReaderEnd) (silence begin : ℕ) (made : List Turned) (arrivals : List Arrival) → ControlEach ids c q s made u
      → EndsReading end silence begin s made arrivals → Outs (Awaited true) s → ReadCame c s u made (read_cause end)
  read_came q s u reads.Stopped silence begin made arrivals each ends outs = all_read q s u made each ends.0 outs
  read_came q s u reads.Silent silence begin made arrivals each ends outs =
      subst (λ (l : List Turned). ReadCame c s u l None) (sym ends.0.are)
      (last_read q s u ends.0.before ends.0.last None (subst (λ (l : List Turned). ControlEach ids c q s l u) ends.0.are each) ends.0.controlled ends.0.cause_is outs)
  read_came q s u (reads.Ended cause) silence begin made arrivals each ends outs =
      subst (λ (l : List Turned). ReadCame c s u l (Some cause)) (sym ends.are)
      (last_read q s u ends.before ends.last (Some cause) (subst (λ (l : List Turned). ControlEach ids c q s l u) ends.are each) ends.controlled ends.cause_is outs)

pub read_watch : (camera : Address) (allowed : Bool) (c : AcqConfig) (o n : ControlSide) (begin : ℕ) (made : List Turned) (cause : Option ControlEnd) → ReadCame c o.client n.client made cause
    → (allowed ≡ false → c.rounds ≡ 0) → TellsEach o.heard n.heard (heards_in made) → Adds o.sent n.sent (addressed camera (sends_in made))
    → TellsEach o.told n.told (begin ∷ moments_in made) → WatchCame camera allowed o n cause
read_watch camera allowed c o n begin made cause read rounds heard sent told = record {
  acts = read.acts;
  acted = record {
    client = read.client;
    answers = heards_in made;
    heard = heard;
    came = read.heard;
    sent = subst (λ (l : List (List ℕ)). Adds o.sent n.sent (addressed camera l)) read.sent sent;
    moments = begin ∷ moments_in made;
    told = told;
    timed = timed_both (begin ∷ []) (moments_in made) [] read.acts tt read.timed;
  };
  submits = read.submits;
  resends = read.resends;
  unasked = λ none. read.unasked (rounds none);
  outs = read.outs;
  caused = read.caused;
}
