-- A whole run has its causes and sends its commands.
use Rattle.std.proofs.Common.{◌≡◌, ◌≢◌, ◌⊎◌, inl, inr, ℕ, ◌<◌, ◌≤◌, Bool, true, false, List, [], ◌++◌, length, Option, Some, None, Result, Ok, Err, refl, ap, sym, subst, ◌∙◌, arith}
use Rattle.std.proofs.lemmas.Bool.{leb-true}
use Rattle.std.proofs.lemmas.List.{append-nil}
use Rattle.std.specs.List.{AllByRecursion}
use Rattle.board_machine.specs.declared.events.Entry.{Entry}
use Rattle.gvcp_wire.specs.Messages.{PlainCommand}
use Rattle.client_machine.specs.Machine.{Client}
use Rattle.gev_links.specs.Links.{Address}
use Rattle.gev_control.specs.CarriesOut.{ControlSide}
use Rattle.camera_control.specs.declared.control_end.ControlEnd.{ControlEnd}
use Rattle.camera_control.specs.declared.control_end.ControlEnd.TheVariants as causes
use Rattle.camera_control.specs.declared.taken.Taken.{Taken}
use Rattle.camera_control.specs.declared.taken.NotTaken.{NotTaken}
use Rattle.camera_control.specs.Taking.{Takes}
use Rattle.camera_control.specs.Laws.{commands_of}
use Rattle.camera_words.specs.declared.settings.Settings.{Settings}
use Rattle.camera_words.specs.declared.register_write.Stage.TheVariants as stages
use Rattle.first_leader.specs.Waiting.{WaitSide}
use Rattle.gev_status.specs.declared.status.Status.{Status}
use Rattle.gev_status.specs.declared.status.Status.TheVariants as status
use Rattle.frame_writing.specs.declared.receive_counts.ReceiveCounts.{ReceiveCounts}
use Rattle.gev_receive.specs.Answers.{control_status, leave_status, rank, weightier, is_lost}
use Rattle.gev_receive.specs.Starting.{writes_at}
use Rattle.gev_receive.specs.Receives.{control_part, wish_of, LeavesUnless, LeavesHeld, TakesBy, MeetsNot, MeetsAndStreams, Meets}
use Rattle.live_promises.specs.Acts.{Act, behind_all, HasActed, NoneLost, Ended, ended_in, submitted_in, asked_in}
use Rattle.live_promises.specs.ReceiveCauses.{IsRefused, first_tells_held, HasLost}
use Rattle.live_promises.specs.Commands.{CarriesFront, IsResend, AllowsResends, SendsCommands}
use Rattle.live_promises.specs.Reception.{steps_to_take, steps_to_leave, HasCauses}
use Rattle.live_promises.proofs.Acting.{ended-append, acted_none, acted_then}
use Rattle.live_promises.proofs.Stepping.{GaveUp, gave_later, gave_sooner, Outs}
use Rattle.live_promises.proofs.Logs.{Awaited, refused_later, refused_sooner}
use Rattle.live_promises.proofs.Parts.{is_other, CausedIf, lost_later, lost_sooner, outs_none}
use Rattle.live_promises.proofs.GivingUp.{had_no_answer}
use Rattle.live_promises.proofs.Fronts.{none_front, is_gone}
use Rattle.live_promises.proofs.Taking.{TookCame, took_came, TookNot, took_not, LeftWith, LeftBy, LeaveCame, leave_came}
use Rattle.live_promises.proofs.Weights.{Follows, cause_rank, rank_control, which, no_answer_of, refused_of, controlled_of, lost_of}
use Rattle.live_promises.proofs.Streaming.{StreamCame, stream_came}

-- ---- the stop

-- the answer with the stop: the one before, or that the run was done, or the stop's
abbrev pub AnsweredBy : Bool → Client → List Act → ℕ → Status → Status → Type 0
AnsweredBy beats p acts frames first answer =
    (answer ≡ first)
    ⊎ ((answer ≡ status.Done)
    ⊎ ((cause : ControlEnd) × ((answer ≡ control_status cause frames) × (rank (control_status cause frames) < rank first) × LeftWith beats p acts cause)))

record LeftSo (beats : Bool) (camera : Address) (settings : Settings) (p n : ControlSide) (frames : ℕ) (first answer : Status) : Type 0 where
  acts : List Act
  acted : HasActed camera p n acts
  front : CarriesFront p.client (commands_of (steps_to_leave settings)) acts
  answered : AnsweredBy beats p.client acts frames first answer

nothing_left : (beats : Bool) (camera : Address) (settings : Settings) (p n : ControlSide) (frames : ℕ) (first answer : Status) → n ≡ p → answer ≡ first
    → LeftSo beats camera settings p n frames first answer
nothing_left beats camera settings p n frames first answer same is = record {
  acts = [];
  acted = acted_none camera p n same;
  front = none_front p.client (commands_of (steps_to_leave settings));
  answered = inl is;
}

answered_by : (beats : Bool) (p : Client) (acts : List Act) (frames : ℕ) (first answer : Status) (result : Result (Unit {0}) ControlEnd)
    → answer ≡ weightier first (leave_status result frames) → LeftBy beats p acts result → AnsweredBy beats p acts frames first answer
answered_by beats p acts frames first answer (Ok done) is left = go (which first status.Done)
  where
    go : (weightier first status.Done ≡ first) ⊎ ((weightier first status.Done ≡ status.Done) × (rank status.Done < rank first)) → AnsweredBy beats p acts frames first answer
    go (inl same) = inl (is ∙ same)
    go (inr same) = inr (inl (is ∙ same.0))
answered_by beats p acts frames first answer (Err cause) is left = go (which first (control_status cause frames))
  where
    go : (weightier first (control_status cause frames) ≡ first)
        ⊎ ((weightier first (control_status cause frames) ≡ control_status cause frames) × (rank (control_status cause frames) < rank first))
        → AnsweredBy beats p acts frames first answer
    go (inl same) = inl (is ∙ same)
    go (inr same) = inr (inr (cause, (is ∙ same.0, same.1, left)))

left_so : (lost beats : Bool) (camera : Address) (settings : Settings) (p n : ControlSide) (frames faults faults_after : ℕ) (first answer : Status)
    → LeavesUnless lost settings camera beats frames first p n faults faults_after answer → Outs (Awaited beats) p.client → LeftSo beats camera settings p n frames first answer
left_so true beats camera settings p n frames faults faults_after first answer leaves outs = nothing_left beats camera settings p n frames first answer leaves.0 leaves.2
left_so false beats camera settings p n frames faults faults_after first answer leaves outs =
    let came : LeaveCame beats camera (writes_at stages.Stop settings.writes.items) p n leaves.0 =
    leave_came beats camera (writes_at stages.Stop settings.writes.items) p n outs leaves.0 leaves.1.0 in
    record {
      acts = came.acts;
      acted = came.acted;
      front = came.front;
      answered = answered_by beats p.client came.acts frames first answer leaves.0 leaves.1.2 came.left;
    }

-- ---- three parts, one after the other

module _ (camera : Address) (takes stops : List PlainCommand) (o m p n : ControlSide) (a b c : List Act) (acted_a : HasActed camera o m a) (acted_b : HasActed camera m p b)
    (acted_c : HasActed camera p n c) where
  all_acted : HasActed camera o n (a ++ (b ++ c))
  all_acted = acted_then camera o m n a (b ++ c) acted_a (acted_then camera m p n b c acted_b acted_c)

  all_ended : ended_in o.client (a ++ (b ++ c)) ≡ ended_in o.client a ++ (ended_in m.client b ++ ended_in p.client c)
  all_ended =
      ended-append o.client a (b ++ c)
      ∙ ap (λ (l : List Ended). ended_in o.client a ++ l)
      (ap (λ (s : Client). ended_in s (b ++ c)) (sym acted_a.client)
      ∙ (ended-append m.client b c ∙ ap (λ (l : List Ended). ended_in m.client b ++ l) (ap (λ (s : Client). ended_in s c) (sym acted_b.client))))

  all_sends : CarriesFront o.client takes a → submitted_in m.client b ≡ [] → AllByRecursion IsResend (asked_in b) → (asked_in b ≢ [] → AllowsResends (ended_in o.client a))
      → CarriesFront p.client stops c → SendsCommands takes stops o.client (a ++ (b ++ c))
  all_sends front_a silent resends allowed front_c = record {
    taking = a;
    watching = b;
    leaving = c;
    are = refl;
    takes_front = front_a;
    watches = ap (λ (s : Client). submitted_in s b) (sym acted_a.client) ∙ silent;
    resends = resends;
    allowed = allowed;
    stops_front =
        subst (λ (s : Client). CarriesFront s stops c) (acted_b.client ∙ ap (λ (s : Client). behind_all s b) acted_a.client) front_c;
  }

  gave_first : (req : ℕ) → GaveUp req o.client a → GaveUp req o.client (a ++ (b ++ c))
  gave_first req gave = gave_sooner req o.client a (b ++ c) gave

  gave_second : (req : ℕ) → NoneLost a → GaveUp req m.client b → GaveUp req o.client (a ++ (b ++ c))
  gave_second req whole gave =
      gave_later req o.client a (b ++ c) whole (subst (λ (s : Client). GaveUp req s (b ++ c)) acted_a.client (gave_sooner req m.client b c gave))

  gave_third : (req : ℕ) → NoneLost a → NoneLost b → GaveUp req p.client c → GaveUp req o.client (a ++ (b ++ c))
  gave_third req whole_a whole_b gave =
      gave_later req o.client a (b ++ c) whole_a
      (subst (λ (s : Client). GaveUp req s (b ++ c)) acted_a.client
      (gave_later req m.client b c whole_b (subst (λ (s : Client). GaveUp req s c) acted_b.client gave)))

  refused_first : (register code : ℕ) → IsRefused register code (ended_in o.client a) → IsRefused register code (ended_in o.client (a ++ (b ++ c)))
  refused_first register code is =
      subst (IsRefused register code) (sym all_ended) (refused_sooner register code (ended_in o.client a) (ended_in m.client b ++ ended_in p.client c) is)

  refused_second : (register code : ℕ) → IsRefused register code (ended_in m.client b) → IsRefused register code (ended_in o.client (a ++ (b ++ c)))
  refused_second register code is =
      subst (IsRefused register code) (sym all_ended)
      (refused_later register code (ended_in o.client a) (ended_in m.client b ++ ended_in p.client c) (refused_sooner register code (ended_in m.client b) (ended_in p.client c) is))

  refused_third : (register code : ℕ) → IsRefused register code (ended_in p.client c) → IsRefused register code (ended_in o.client (a ++ (b ++ c)))
  refused_third register code is =
      subst (IsRefused register code) (sym all_ended)
      (refused_later register code (ended_in o.client a) (ended_in m.client b ++ ended_in p.client c) (refused_later register code (ended_in m.client b) (ended_in p.client c) is))

  lost_second : (count : ℕ) → length (ended_in o.client a) ≡ count → HasLost 0 (ended_in m.client b) → HasLost count (ended_in o.client (a ++ (b ++ c)))
  lost_second count many is =
      subst (HasLost count) (sym all_ended)
      (lost_later 0 count (ended_in o.client a) (ended_in m.client b ++ ended_in p.client c) (omega (arith, many)) (lost_sooner 0 (ended_in m.client b) (ended_in p.client c) is))

  lost_third : (count : ℕ) → length (ended_in o.client a) ≡ count → HasLost 0 (ended_in p.client c) → HasLost count (ended_in o.client (a ++ (b ++ c)))
  lost_third count many is =
      subst (HasLost count) (sym all_ended)
      (lost_later 0 count (ended_in o.client a) (ended_in m.client b ++ ended_in p.client c) (omega (arith, many))
      (lost_later 0 0 (ended_in m.client b) (ended_in p.client c) (omega arith) is))

  held_so : (held : Bool) → first_tells_held (ended_in o.client a ++ (ended_in m.client b ++ ended_in p.client c)) ≡ held → first_tells_held (ended_in o.client (a ++ (b ++ c))) ≡ held
  held_so held is = ap first_tells_held all_ended ∙ is

-- ---- a cause

-- where an answer weighs less than a fault and a command without answer, no send had failed
whole_by : (s : Client) (acts : List Act) (cause : Option ControlEnd) (first : Status) → CausedIf s acts cause → rank first ≤ cause_rank cause → 5 < rank first → NoneLost acts
whole_by s acts None first so heavy more = so
whole_by s acts (Some causes.LinkFault) first so heavy more = absurd (omega (arith, heavy, more))
whole_by s acts (Some (causes.NoAnswer req)) first so heavy more = absurd (omega (arith, heavy, more))
whole_by s acts (Some (causes.RefusedAt register code)) first so heavy more = so.1
whole_by s acts (Some causes.Controlled) first so heavy more = so
whole_by s acts (Some causes.ControlLost) first so heavy more = so.1

-- ---- a camera that was taken

module _ (settings : Settings) (camera own : Address) (o n : WaitSide) (stream stream_after control control_after : ℕ)
    (app app_after written written_after : Option (List ℕ)) (faults faults_after : ℕ) (left : Option (List ℕ)) (h : List Entry) (answer : Status) (counts : ReceiveCounts)
    (x : MeetsAndStreams settings camera own o n stream stream_after control control_after app app_after written written_after faults faults_after left h answer counts)
    (wide : 1 ≤ settings.window) (idle : o.client.asked ≡ None) (some : 0 < o.client.limit) where
  took : TookCame camera (steps_to_take settings own) (control_part o) (control_part x.m) x.taken.resends
  took = took_came camera (wish_of settings own) (writes_at stages.Set settings.writes.items) (writes_at stages.Start settings.writes.items) (control_part o) (control_part x.m) x.taken
      (subst (λ (r : Result Taken NotTaken). TakesBy settings camera own (control_part o) (control_part x.m) r) x.is x.takes) (outs_none (Awaited true) o.client idle)

  between : StreamCame camera x.taken.resends (control_part x.m) (control_part x.p) x.first.status
  between = stream_came settings camera x.taken x.m x.p stream stream_after x.control_m x.control_p app app_after written written_after faults faults_after left h x.first counts wide took.outs x.streams

  stop : LeftSo true camera settings (control_part x.p) (control_part n) counts.taken x.first.status answer
  stop = left_so x.first.lost true camera settings (control_part x.p) (control_part n) counts.taken x.control_p control_after x.first.status answer x.leaves between.watch.outs

  abbrev a : List Act
  a = took.acts

  abbrev b : List Act
  b = between.watch.acts

  abbrev c : List Act
  c = stop.acts

  -- packets were asked for again only where the camera allows it
  allowed : (resends : Bool) → x.taken.resends ≡ resends → asked_in b ≢ [] → AllowsResends (ended_in o.client a)
  allowed true is asked = took.allows is
  allowed false is asked = absurd (asked (between.watch.unasked is))

  unanswered_by : (req : ℕ) → AnsweredBy true x.p.client c counts.taken x.first.status answer → answer ≡ status.NoAnswer req → GaveUp req o.client (a ++ (b ++ c))
  unanswered_by req (inl same) is =
      gave_second camera [] [] (control_part o) (control_part x.m) (control_part x.p) (control_part n) a b c took.acted between.watch.acted stop.acted req took.whole
      (subst (CausedIf x.m.client b) (subst (Follows between.cause) (sym same ∙ is) between.follows) between.watch.caused)
  unanswered_by req (inr (inl done)) is = let bad : status.Done ≡ status.NoAnswer req = sym done ∙ is in absurd (cc)
  unanswered_by req (inr (inr stopped)) is =
      let same : stopped.0 ≡ causes.NoAnswer req = no_answer_of stopped.0 counts.taken req (sym stopped.1.0 ∙ is) in
      gave_third camera [] [] (control_part o) (control_part x.m) (control_part x.p) (control_part n) a b c took.acted between.watch.acted stop.acted req took.whole
      (whole_by x.m.client b between.cause x.first.status between.watch.caused between.heavy
      (subst (λ (y : ControlEnd). rank (control_status y counts.taken) < rank x.first.status) same stopped.1.1))
      (subst (LeftWith true x.p.client c) same stopped.1.2)

  refused_by : (register code : ℕ) → AnsweredBy true x.p.client c counts.taken x.first.status answer → answer ≡ status.RefusedAt register code
      → IsRefused register code (ended_in o.client (a ++ (b ++ c)))
  refused_by register code (inl same) is =
      refused_second camera [] [] (control_part o) (control_part x.m) (control_part x.p) (control_part n) a b c took.acted between.watch.acted stop.acted register code
      (subst (CausedIf x.m.client b) (subst (Follows between.cause) (sym same ∙ is) between.follows) between.watch.caused).0
  refused_by register code (inr (inl done)) is = let bad : status.Done ≡ status.RefusedAt register code = sym done ∙ is in absurd (cc)
  refused_by register code (inr (inr stopped)) is =
      refused_third camera [] [] (control_part o) (control_part x.m) (control_part x.p) (control_part n) a b c took.acted between.watch.acted stop.acted register code
      (subst (LeftWith true x.p.client c) (refused_of stopped.0 counts.taken register code (sym stopped.1.0 ∙ is)) stopped.1.2)

  lost_by : (frames : ℕ) → AnsweredBy true x.p.client c counts.taken x.first.status answer → answer ≡ status.ControlLost frames
      → HasLost (length (steps_to_take settings own)) (ended_in o.client (a ++ (b ++ c)))
  lost_by frames (inl same) is =
      lost_second camera [] [] (control_part o) (control_part x.m) (control_part x.p) (control_part n) a b c took.acted between.watch.acted stop.acted (length (steps_to_take settings own)) took.many
      (subst (CausedIf x.m.client b) (subst (Follows between.cause) (sym same ∙ is) between.follows) between.watch.caused).0
  lost_by frames (inr (inl done)) is = let bad : status.Done ≡ status.ControlLost frames = sym done ∙ is in absurd (cc)
  lost_by frames (inr (inr stopped)) is =
      lost_third camera [] [] (control_part o) (control_part x.m) (control_part x.p) (control_part n) a b c took.acted between.watch.acted stop.acted (length (steps_to_take settings own)) took.many
      (subst (LeftWith true x.p.client c) (lost_of stopped.0 counts.taken frames (sym stopped.1.0 ∙ is)) stopped.1.2).0

  never_held : AnsweredBy true x.p.client c counts.taken x.first.status answer → answer ≡ status.Controlled → ⊥
  never_held (inl same) is = subst (Follows between.cause) (sym same ∙ is) between.follows
  never_held (inr (inl done)) is = let bad : status.Done ≡ status.Controlled = sym done ∙ is in cc
  never_held (inr (inr stopped)) is = subst (LeftWith true x.p.client c) (controlled_of stopped.0 counts.taken (sym stopped.1.0 ∙ is)) stopped.1.2

  not_held : first_tells_held (ended_in o.client (a ++ (b ++ c))) ≡ false
  not_held =
      held_so camera [] [] (control_part o) (control_part x.m) (control_part x.p) (control_part n) a b c took.acted between.watch.acted stop.acted false
      (took.held (ended_in x.m.client b ++ ended_in x.p.client c))

  pub taken_causes : HasCauses settings camera own o n answer
  taken_causes = record {
    acts = a ++ (b ++ c);
    acted = all_acted camera [] [] (control_part o) (control_part x.m) (control_part x.p) (control_part n) a b c took.acted between.watch.acted stop.acted;
    commands =
        all_sends camera (commands_of (steps_to_take settings own)) (commands_of (steps_to_leave settings)) (control_part o) (control_part x.m) (control_part x.p) (control_part n) a b c
        took.acted between.watch.acted stop.acted took.front between.watch.submits between.watch.resends (allowed x.taken.resends refl) stop.front;
    unanswered = λ req is. had_no_answer req o.client (a ++ (b ++ c)) idle some (unanswered_by req stop.answered is);
    refused = λ register code is. refused_by register code stop.answered is;
    controlled = (λ is. absurd (never_held stop.answered is), λ held. (let bad : false ≡ true = sym not_held ∙ held in absurd (cc)));
    lost = λ frames is. lost_by frames stop.answered is;
  }

-- ---- a camera that wasn't

controlled_is : (cause : ControlEnd) → is_other cause ≡ true → cause ≡ causes.Controlled
controlled_is causes.LinkFault is = let bad : false ≡ true = is in absurd (cc)
controlled_is (causes.NoAnswer req) is = let bad : false ≡ true = is in absurd (cc)
controlled_is (causes.RefusedAt register code) is = let bad : false ≡ true = is in absurd (cc)
controlled_is causes.Controlled is = refl
controlled_is causes.ControlLost is = let bad : false ≡ true = is in absurd (cc)

true_not_false : (b : Bool) → b ≡ true → b ≡ false → ⊥
true_not_false b is not_is = let bad : true ≡ false = sym is ∙ not_is in cc

module _ (settings : Settings) (camera own : Address) (o n : WaitSide) (stream stream_after control control_after : ℕ)
    (app app_after written written_after : Option (List ℕ)) (faults faults_after : ℕ) (h : List Entry) (answer : Status) (counts : ReceiveCounts)
    (x : MeetsNot settings camera own o n stream stream_after control control_after app app_after written written_after faults faults_after h answer counts)
    (idle : o.client.asked ≡ None) (some : 0 < o.client.limit) where
  takes : Takes camera (wish_of settings own) (writes_at stages.Set settings.writes.items) (writes_at stages.Start settings.writes.items) (control_part o) x.m (Err x.fault)
  takes = subst (λ (r : Result Taken NotTaken). TakesBy settings camera own (control_part o) x.m r) x.is x.takes

  not_taken : TookNot camera (steps_to_take settings own) takes.0 (control_part o) x.m x.fault.end
  not_taken = took_not camera (wish_of settings own) (writes_at stages.Set settings.writes.items) (writes_at stages.Start settings.writes.items) takes.0 (control_part o) x.m x.fault.end takes.1.0

  -- the stop was made of a camera that was held alone
  stopped_if : (held : Bool) → x.fault.held ≡ held → LeavesHeld held settings camera x.fault.end x.m (control_part n) x.control_mid control_after answer
      → (l : LeftSo false camera settings x.m (control_part n) 0 (control_status x.fault.end 0) answer)
      × (((answer ≡ control_status x.fault.end 0) × (l.acts ≡ [])) ⊎ (1 ≤ takes.0))
  unfolding nothing_left
  stopped_if false is leaves = (nothing_left false camera settings x.m (control_part n) 0 (control_status x.fault.end 0) answer leaves.0 leaves.2, inl (leaves.2, refl))
  stopped_if true is leaves = (
    left_so (is_lost x.fault.end) false camera settings x.m (control_part n) 0 x.control_mid control_after (control_status x.fault.end 0) answer leaves (λ asked out. tt),
    inr (let two : 2 ≤ takes.0 = leb-true 2 takes.0 (sym takes.1.1 ∙ is) in omega (arith, two)),
  )

  stopped : (l : LeftSo false camera settings x.m (control_part n) 0 (control_status x.fault.end 0) answer)
      × (((answer ≡ control_status x.fault.end 0) × (l.acts ≡ [])) ⊎ (1 ≤ takes.0))
  stopped = stopped_if x.fault.held refl x.leaves

  abbrev front : List Act
  front = not_taken.acts

  abbrev end : List Act
  end = stopped.0.acts

  none_between : HasActed camera x.m x.m []
  none_between = acted_none camera x.m x.m refl

  unheld_gives : (req : ℕ) → AnsweredBy false x.m.client end 0 (control_status x.fault.end 0) answer → answer ≡ status.NoAnswer req → GaveUp req o.client (front ++ ([] ++ end))
  unheld_gives req (inl same) is =
      gave_first camera [] [] (control_part o) x.m x.m (control_part n) front [] end not_taken.acted none_between stopped.0.acted req
      (subst (λ (y : ControlEnd). CausedIf o.client front (Some y)) (no_answer_of x.fault.end 0 req (sym same ∙ is)) not_taken.caused)
  unheld_gives req (inr (inl done)) is = let bad : status.Done ≡ status.NoAnswer req = sym done ∙ is in absurd (cc)
  unheld_gives req (inr (inr later)) is =
      let same : later.0 ≡ causes.NoAnswer req = no_answer_of later.0 0 req (sym later.1.0 ∙ is) in
      gave_third camera [] [] (control_part o) x.m x.m (control_part n) front [] end not_taken.acted none_between stopped.0.acted req
      (whole_by o.client front (Some x.fault.end) (control_status x.fault.end 0) not_taken.caused (rank_control x.fault.end 0)
      (subst (λ (y : ControlEnd). rank (control_status y 0) < rank (control_status x.fault.end 0)) same later.1.1)) tt
      (subst (LeftWith false x.m.client end) same later.1.2)

  unheld_refused : (register code : ℕ) → AnsweredBy false x.m.client end 0 (control_status x.fault.end 0) answer → answer ≡ status.RefusedAt register code
      → IsRefused register code (ended_in o.client (front ++ ([] ++ end)))
  unheld_refused register code (inl same) is =
      refused_first camera [] [] (control_part o) x.m x.m (control_part n) front [] end not_taken.acted none_between stopped.0.acted register code
      (subst (λ (y : ControlEnd). CausedIf o.client front (Some y)) (refused_of x.fault.end 0 register code (sym same ∙ is)) not_taken.caused).0
  unheld_refused register code (inr (inl done)) is = let bad : status.Done ≡ status.RefusedAt register code = sym done ∙ is in absurd (cc)
  unheld_refused register code (inr (inr later)) is =
      refused_third camera [] [] (control_part o) x.m x.m (control_part n) front [] end not_taken.acted none_between stopped.0.acted register code
      (subst (LeftWith false x.m.client end) (refused_of later.0 0 register code (sym later.1.0 ∙ is)) later.1.2)

  unheld_lost : (frames : ℕ) → AnsweredBy false x.m.client end 0 (control_status x.fault.end 0) answer → answer ≡ status.ControlLost frames → ⊥
  unheld_lost frames (inl same) is = true_not_false (is_gone x.fault.end) (ap is_gone (lost_of x.fault.end 0 frames (sym same ∙ is))) not_taken.gone
  unheld_lost frames (inr (inl done)) is = let bad : status.Done ≡ status.ControlLost frames = sym done ∙ is in cc
  unheld_lost frames (inr (inr later)) is =
      let bad : false ≡ true = (subst (LeftWith false x.m.client end) (lost_of later.0 0 frames (sym later.1.0 ∙ is)) later.1.2).1 in cc

  -- where the stop was made the first acknowledge told of no other application
  unheld_controlled : (few : 1 ≤ takes.0) → AnsweredBy false x.m.client end 0 (control_status x.fault.end 0) answer → answer ≡ status.Controlled → ⊥
  unheld_controlled few (inl same) is = true_not_false (is_other x.fault.end) (ap is_other (controlled_of x.fault.end 0 (sym same ∙ is))) (not_taken.other few)
  unheld_controlled few (inr (inl done)) is = let bad : status.Done ≡ status.Controlled = sym done ∙ is in cc
  unheld_controlled few (inr (inr later)) is = subst (LeftWith false x.m.client end) (controlled_of later.0 0 (sym later.1.0 ∙ is)) later.1.2

  exactly : (((answer ≡ control_status x.fault.end 0) × (end ≡ [])) ⊎ (1 ≤ takes.0))
      → (answer ≡ status.Controlled → first_tells_held (ended_in o.client (front ++ ([] ++ end))) ≡ true)
      × (first_tells_held (ended_in o.client (front ++ ([] ++ end))) ≡ true → answer ≡ status.Controlled)
  exactly (inl none_left) = (
    λ is. told ∙ ap is_other (controlled_of x.fault.end 0 (sym none_left.0 ∙ is)),
    λ held. none_left.0 ∙ ap (λ (y : ControlEnd). control_status y 0) (controlled_is x.fault.end (sym told ∙ held)),
  )
    where
      told : first_tells_held (ended_in o.client (front ++ ([] ++ end))) ≡ is_other x.fault.end
      told =
          ap (λ (l : List Act). first_tells_held (ended_in o.client (front ++ l))) none_left.1
          ∙ (ap (λ (l : List Act). first_tells_held (ended_in o.client l)) (append-nil front) ∙ not_taken.held)
  exactly (inr few) = (
    λ is. absurd (unheld_controlled few stopped.0.answered is),
    λ held. absurd (true_not_false (first_tells_held (ended_in o.client (front ++ ([] ++ end)))) held
        (held_so camera [] [] (control_part o) x.m x.m (control_part n) front [] end not_taken.acted none_between stopped.0.acted false
        (not_taken.more_held few ([] ++ ended_in x.m.client end)))),
  )

  pub untaken_causes : HasCauses settings camera own o n answer
  untaken_causes = record {
    acts = front ++ ([] ++ end);
    acted = all_acted camera [] [] (control_part o) x.m x.m (control_part n) front [] end not_taken.acted none_between stopped.0.acted;
    commands =
        all_sends camera (commands_of (steps_to_take settings own)) (commands_of (steps_to_leave settings)) (control_part o) x.m x.m (control_part n) front [] end
        not_taken.acted none_between stopped.0.acted not_taken.front refl tt (λ asked. absurd (asked refl)) stopped.0.front;
    unanswered = λ req is. had_no_answer req o.client (front ++ ([] ++ end)) idle some (unheld_gives req stopped.0.answered is);
    refused = λ register code is. unheld_refused register code stopped.0.answered is;
    controlled = exactly stopped.1;
    lost = λ frames is. absurd (unheld_lost frames stopped.0.answered is);
  }

pub meeting_causes : (settings : Settings) (camera own : Address) (o n : WaitSide) (stream stream_after control control_after : ℕ)
    (app app_after written written_after : Option (List ℕ)) (faults faults_after : ℕ) (left : Option (List ℕ)) (h : List Entry) (answer : Status) (counts : ReceiveCounts) → 1 ≤ settings.window
    → o.client.asked ≡ None → 0 < o.client.limit
    → Meets settings camera own o n stream stream_after control control_after app app_after written written_after faults faults_after left h answer counts → HasCauses settings camera own o n answer
meeting_causes settings camera own o n stream stream_after control control_after app app_after written written_after faults faults_after left h answer counts wide idle some (inl untaken) =
    untaken_causes settings camera own o n stream stream_after control control_after app app_after written written_after faults faults_after h answer counts untaken idle some
meeting_causes settings camera own o n stream stream_after control control_after app app_after written written_after faults faults_after left h answer counts wide idle some (inr taken) =
    taken_causes settings camera own o n stream stream_after control control_after app app_after written written_after faults faults_after left h answer counts taken wide idle some
