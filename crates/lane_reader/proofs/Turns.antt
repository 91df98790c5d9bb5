-- All turns of the reader, one after the other.
use Rattle.std.proofs.Common.{◌≡◌, ◌≢◌, ℕ, ◌+◌, ◌<◌, ◌≤◌, List, [], ◌∷◌, ◌++◌, length, refl, ap, sym, ◌∙◌, subst, append_assoc, length-append, arith}
use Rattle.std.proofs.lemmas.List.{append-nil}
use Rattle.board_machine.specs.declared.events.Event.TheVariants.{LookRun}
use Rattle.client_machine.specs.Machine.{Client}
use Rattle.gev_links.specs.Links.{Address, Adds}
use Rattle.gev_links.specs.Moments.{TellsEach}
use Rattle.gev_links.proofs.Growing.{tells_none, tells_more, tells_then, adds_none}
use Rattle.buffer_words.specs.Passes.{Token, Enters}
use Rattle.buffer_words.specs.Several.{EntersEach}
use Rattle.buffer_words.proofs.Several.{each_none, each_one, each_then}
use Rattle.gev_control.specs.declared.turn_end.TurnEnd.{TurnEnd}
use Rattle.gev_control.specs.declared.turn_end.TurnEnd.TheVariants as ends
use Rattle.gev_control.specs.declared.acq_end.AcqEnd.TheVariants as how
use Rattle.gev_control.specs.Sends.{addressed}
use Rattle.gev_control.specs.Controlled.{listed, control_of, is_fault}
use Rattle.gev_control.proofs.Fronts.{added_then}
use Rattle.gev_acq.specs.Reading.{FaultsOf}
use Rattle.gev_acq.specs.Turns.{Outside}
use Rattle.gev_lanes.specs.declared.parts.ReaderLane.{ReaderLane}
use Rattle.lane_reader.specs.LanesTurns.{ReaderTurn, TakesLanesTurn, TakesLanesTurns}
use Rattle.lane_reader.specs.Turned.{IsControlled, TakesTurn, TakesOne}
use Rattle.lane_reader.specs.Reads.{answers_in, moments_in, heards_in, sends_in, looks_in, ControlEach, TurnsOn, AllGoOn, EndsIn, ReadsTurns}

-- ---- one turn more

answers-push : (ts : List ReaderTurn) (t : ReaderTurn) → answers_in (ts ++ t ∷ []) ≡ answers_in ts ++ t.answer ∷ []
answers-push [] t = refl
answers-push (x ∷ ts) t = ap (λ l. x.answer ∷ l) (answers-push ts t)

moments-push : (ts : List ReaderTurn) (t : ReaderTurn) → moments_in (ts ++ t ∷ []) ≡ moments_in ts ++ t.moment ∷ []
moments-push [] t = refl
moments-push (x ∷ ts) t = ap (λ l. x.moment ∷ l) (moments-push ts t)

heards-push : (ts : List ReaderTurn) (t : ReaderTurn) → heards_in (ts ++ t ∷ []) ≡ heards_in ts ++ listed t.heard
heards-push [] t = append-nil (listed t.heard)
heards-push (x ∷ ts) t = ap (λ l. listed x.heard ++ l) (heards-push ts t) ∙ sym (append_assoc (listed x.heard) (heards_in ts) (listed t.heard))

sends-push : (ts : List ReaderTurn) (t : ReaderTurn) → sends_in (ts ++ t ∷ []) ≡ sends_in ts ++ t.sent
sends-push [] t = append-nil t.sent
sends-push (x ∷ ts) t = ap (λ l. x.sent ++ l) (sends-push ts t) ∙ sym (append_assoc x.sent (sends_in ts) t.sent)

looks-push : (ts : List ReaderTurn) (t : ReaderTurn) → looks_in (ts ++ t ∷ []) ≡ looks_in ts ++ LookRun 1 ∷ []
looks-push [] t = refl
looks-push (x ∷ ts) t = ap (λ l. LookRun 1 ∷ l) (looks-push ts t)

go_on-push : (ts : List ReaderTurn) (t : ReaderTurn) → AllGoOn ts → t.end ≡ ends.GoesOn → AllGoOn (ts ++ t ∷ [])
go_on-push [] t on more = (more, tt)
go_on-push (x ∷ ts) t on more = (on.0, go_on-push ts t on.1 more)

lanes-push : (n : ℕ) (ts : List ReaderTurn) (t : ReaderTurn) (ss us vs : List ReaderLane) → TakesLanesTurns n ts ss us → TakesLanesTurn n t us vs
    → TakesLanesTurns n (ts ++ t ∷ []) ss vs
lanes-push n [] t ss us vs none one = (vs, subst (λ l. TakesLanesTurn n t l vs) none one, refl)
lanes-push n (x ∷ ts) t ss us vs each one = (each.0, each.1, lanes-push n ts t each.0 us vs each.2 one)

controls-push : (s u v : Client) (ts : List ReaderTurn) (t : ReaderTurn) → ControlEach s ts u → IsControlled u t → v ≡ (control_of u t.heard t.moment).state
    → ControlEach s (ts ++ t ∷ []) v
controls-push s u v [] t none one is =
    (subst (λ (x : Client). IsControlled x t) none one, is ∙ ap (λ (x : Client). (control_of x t.heard t.moment).state) none)
controls-push s u v (x ∷ ts) t each one is = (each.0, controls-push (control_of s x.heard x.moment).state u v ts t each.1 one is)

turns_more : (n : ℕ) (camera : Address) (o m p : Outside) (made : List ReaderTurn) (turned : ReaderTurn) (ss us vs : List ReaderLane) (s t u : Token)
    → TurnsOn n camera o m made ss us s t → Enters t (LookRun 1) u → TakesTurn n camera m p turned us vs → TurnsOn n camera o p (made ++ turned ∷ []) ss vs s u
turns_more n camera o m p made turned ss us vs s t u on look one = record {
  enters = subst (λ l. EntersEach s l u) (sym (looks-push made turned))
      (each_then s t u (looks_in made) (LookRun 1 ∷ []) on.enters (each_one t u (LookRun 1) look refl));
  lanes = lanes-push n made turned ss us vs on.lanes one.lanes;
  controlled = controls-push o.client m.client p.client made turned on.controlled one.controlled one.client;
  received = subst (λ l. TellsEach o.received p.received l) (sym (answers-push made turned))
      (tells_more o.received m.received p.received (answers_in made) turned.answer on.received one.received);
  heard = subst (λ l. TellsEach o.heard p.heard l) (sym (heards-push made turned))
      (tells_then o.heard m.heard p.heard (heards_in made) (listed turned.heard) on.heard one.heard);
  sent = subst (λ l. Adds o.sent p.sent (addressed camera l)) (sym (sends-push made turned))
      (added_then camera o.sent m.sent p.sent (sends_in made) turned.sent on.sent one.sent);
  told = subst (λ l. TellsEach o.told p.told l) (sym (moments-push made turned))
      (tells_more o.told m.told p.told (moments_in made) turned.moment on.told one.told);
}

-- ---- the loop

-- So many turns were made, and all went on.
pub record GoesOn (n : ℕ) (camera : Address) (o m : Outside) (count : ℕ) (ss us : List ReaderLane) (s t : Token) : Type 0 where
  pub made : List ReaderTurn
  pub on : TurnsOn n camera o m made ss us s t
  pub number : length made ≡ count
  pub all : AllGoOn made

pub begins : (n : ℕ) (camera : Address) (o : Outside) (ss : List ReaderLane) (s : Token) → GoesOn n camera o o 0 ss ss s s
begins n camera o ss s = record {
  made = [];
  on = record {
    enters = each_none s;
    lanes = refl;
    controlled = refl;
    received = tells_none o.received;
    heard = tells_none o.heard;
    sent = adds_none o.sent;
    told = tells_none o.told;
  };
  number = refl;
  all = tt;
}

-- The turns so far, a look that found the run word 1, and one more turn that ended so.
record OneMore (n : ℕ) (camera : Address) (o p : Outside) (count : ℕ) (end : TurnEnd) (ss vs : List ReaderLane) (s u : Token) : Type 0 where
  made : List ReaderTurn
  turned : ReaderTurn
  on : TurnsOn n camera o p (made ++ turned ∷ []) ss vs s u
  number : length made ≡ count
  all : AllGoOn made
  ended : turned.end ≡ end

one_more : (n : ℕ) (camera : Address) (o m p : Outside) (count run : ℕ) (end : TurnEnd) (ss us vs : List ReaderLane) (s t u : Token)
    → GoesOn n camera o m count ss us s t → Enters t (LookRun run) u → run ≡ 1 → TakesOne n camera m p end us vs → OneMore n camera o p count end ss vs s u
one_more n camera o m p count run end ss us vs s t u so look one takes = record {
  made = so.made;
  turned = takes.turned;
  on = turns_more n camera o m p so.made takes.turned ss us vs s t u so.on (subst (λ k. Enters t (LookRun k) u) one look) takes.takes;
  number = so.number;
  all = so.all;
  ended = takes.ended;
}

-- the turn went on
pub goes_on : (n : ℕ) (camera : Address) (o m p : Outside) (count run : ℕ) (end : TurnEnd) (ss us vs : List ReaderLane) (s t u : Token)
    → GoesOn n camera o m count ss us s t → Enters t (LookRun run) u → run ≡ 1 → TakesOne n camera m p end us vs → end ≡ ends.GoesOn
    → GoesOn n camera o p (count + 1) ss vs s u
goes_on n camera o m p count run end ss us vs s t u so look one takes fine = record {
  made = more.made ++ more.turned ∷ [];
  on = more.on;
  number = omega (arith, length-append more.made (more.turned ∷ []), more.number);
  all = go_on-push more.made more.turned more.all (more.ended ∙ fine);
}
  where
    more : OneMore n camera o p count end ss vs s u
    more = one_more n camera o m p count run end ss us vs s t u so look one takes

ends_in : (n : ℕ) (camera : Address) (o p : Outside) (count turns : ℕ) (end : TurnEnd) (ss vs : List ReaderLane) (s u : Token)
    → (more : OneMore n camera o p count end ss vs s u) → count < turns
    → (length (more.made ++ more.turned ∷ []) ≤ turns) × EndsIn end (more.made ++ more.turned ∷ [])
ends_in n camera o p count turns end ss vs s u more few = (
  omega (arith, length-append more.made (more.turned ∷ []), more.number, few),
  record { before = more.made; last = more.turned; is = refl; on = more.all; ended = more.ended },
)

pub ends_fault : (n : ℕ) (camera : Address) (o m p : Outside) (count turns run : ℕ) (end : TurnEnd) (ss us vs : List ReaderLane) (s t u : Token)
    → GoesOn n camera o m count ss us s t → Enters t (LookRun run) u → run ≡ 1 → TakesOne n camera m p end us vs → count < turns → end ≡ ends.Fault
    → ReadsTurns n camera o p turns how.Fault ss vs s u
ends_fault n camera o m p count turns run end ss us vs s t u so look one takes few is = record {
  made = more.made ++ more.turned ∷ [];
  middle = u;
  on = more.on;
  last = refl;
  ends = ends_in n camera o p count turns ends.Fault ss vs s u more few;
}
  where
    more : OneMore n camera o p count ends.Fault ss vs s u
    more = one_more n camera o m p count run ends.Fault ss us vs s t u so look one (subst (λ e. TakesOne n camera m p e us vs) is takes)

pub ends_unanswered : (n : ℕ) (camera : Address) (o m p : Outside) (count turns run req : ℕ) (end : TurnEnd) (ss us vs : List ReaderLane) (s t u : Token)
    → GoesOn n camera o m count ss us s t → Enters t (LookRun run) u → run ≡ 1 → TakesOne n camera m p end us vs → count < turns → end ≡ ends.NoAnswer req
    → ReadsTurns n camera o p turns (how.NoAnswer req) ss vs s u
ends_unanswered n camera o m p count turns run req end ss us vs s t u so look one takes few is = record {
  made = more.made ++ more.turned ∷ [];
  middle = u;
  on = more.on;
  last = refl;
  ends = ends_in n camera o p count turns (ends.NoAnswer req) ss vs s u more few;
}
  where
    more : OneMore n camera o p count (ends.NoAnswer req) ss vs s u
    more = one_more n camera o m p count run (ends.NoAnswer req) ss us vs s t u so look one (subst (λ e. TakesOne n camera m p e us vs) is takes)

pub ends_refused : (n : ℕ) (camera : Address) (o m p : Outside) (count turns run status : ℕ) (end : TurnEnd) (ss us vs : List ReaderLane) (s t u : Token)
    → GoesOn n camera o m count ss us s t → Enters t (LookRun run) u → run ≡ 1 → TakesOne n camera m p end us vs → count < turns → end ≡ ends.Refused status
    → ReadsTurns n camera o p turns (how.Refused status) ss vs s u
ends_refused n camera o m p count turns run status end ss us vs s t u so look one takes few is = record {
  made = more.made ++ more.turned ∷ [];
  middle = u;
  on = more.on;
  last = refl;
  ends = ends_in n camera o p count turns (ends.Refused status) ss vs s u more few;
}
  where
    more : OneMore n camera o p count (ends.Refused status) ss vs s u
    more = one_more n camera o m p count run (ends.Refused status) ss us vs s t u so look one (subst (λ e. TakesOne n camera m p e us vs) is takes)

pub ends_stopped : (n : ℕ) (camera : Address) (o m : Outside) (count turns run : ℕ) (ss us : List ReaderLane) (s t u : Token)
    → GoesOn n camera o m count ss us s t → Enters t (LookRun run) u → run ≢ 1 → count < turns → ReadsTurns n camera o m turns how.Stopped ss us s u
ends_stopped n camera o m count turns run ss us s t u so look other few = record {
  made = so.made;
  middle = t;
  on = so.on;
  last = record { run = run; stopped = other; enters = each_one t u (LookRun run) look refl };
  ends = (omega (arith, so.number, few), so.all);
}

pub ends_spent : (n : ℕ) (camera : Address) (o m : Outside) (count turns : ℕ) (ss us : List ReaderLane) (s t : Token)
    → GoesOn n camera o m count ss us s t → count ≡ turns → ReadsTurns n camera o m turns how.Spent ss us s t
ends_spent n camera o m count turns ss us s t so all = record {
  made = so.made;
  middle = t;
  on = so.on;
  last = refl;
  ends = (so.number ∙ all, so.all);
}

-- a turn that went on had no fault
pub counts_stay : (end : TurnEnd) (stream stream_after control control_after : ℕ) → FaultsOf (is_fault end) stream stream_after control control_after → end ≡ ends.GoesOn
    → (stream_after ≡ stream) × (control_after ≡ control)
counts_stay end stream stream_after control control_after faults fine =
    subst (λ e. FaultsOf (is_fault e) stream stream_after control control_after) fine faults
