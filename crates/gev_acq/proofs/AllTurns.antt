-- All turns of the reader, one after the other.
use Rattle.std.proofs.Common.{◌≡◌, ◌≢◌, ℕ, Bool, ◌+◌, ◌<◌, ◌≤◌, List, [], ◌∷◌, ◌++◌, length, Some, None, refl, ap, sym, ◌∙◌, subst, append_assoc, length-append, arith}
use Rattle.std.proofs.lemmas.List.{append-nil}
use Rattle.board_machine.specs.declared.events.Event.TheVariants.{LookRun}
use Rattle.acquisition_machine.specs.declared.config.AcqConfig.{AcqConfig}
use Rattle.acquisition_machine.specs.Machine.{Input}
use Rattle.acquisition_machine.specs.Runs.{first_state, After}
use Rattle.acquisition_machine.proofs.Joining.{after_from-append}
use Rattle.gev_links.specs.Links.{Address, Adds}
use Rattle.gev_links.specs.Moments.{TellsEach}
use Rattle.gev_links.proofs.Growing.{tells_none, tells_more, tells_then, adds_none}
use Rattle.buffer_words.specs.Passes.{Token, Enters}
use Rattle.buffer_words.proofs.Several.{each_none, each_one, each_first, each_then}
use Rattle.board_calls.specs.declared.mode.Mode.{Mode}
use Rattle.gev_acq.specs.declared.turn.Turn.{Turn}
use Rattle.gev_control.specs.declared.turn_end.TurnEnd.{TurnEnd}
use Rattle.gev_control.specs.declared.turn_end.TurnEnd.TheVariants as ends
use Rattle.gev_control.specs.declared.acq_end.AcqEnd.{AcqEnd}
use Rattle.gev_control.specs.declared.acq_end.AcqEnd.TheVariants as how
use Rattle.gev_acq.specs.Serving.{Serves}
use Rattle.gev_acq.specs.Claims.{Claims}
use Rattle.gev_control.specs.Sends.{addressed}
use Rattle.gev_control.specs.Controlled.{listed, is_fault}
use Rattle.gev_control.specs.Ends.{is_fault_end}
use Rattle.gev_acq.specs.Reading.{FaultsOf}
use Rattle.gev_acq.specs.Turns.{Turned, Outside, inputs_of, TakesTurn, TakesOne}
use Rattle.gev_acq.specs.Acquired.{inputs_in, answers_in, moments_in, heards_in, sends_in, TurnsOn, TellsOwn, AllGoOn, EndsIn, EndsBy, ended_by, LooksLast, Acquires}
use Rattle.gev_acq.proofs.Owning.{claims_none, claims_then}
use Rattle.gev_control.proofs.Fronts.{added_then}
use Rattle.gev_acq.proofs.TurnLists.{inputs-push, answers-push, moments-push, heards-push, sends-push, own-push, go_on-push, turns-push, notes-push, controls-push}

-- what a reader tells that tells each turn's moment
abbrev Own : ℕ → ℕ → Type 0
Own moment told = told ≡ moment

-- So many turns were made, and all went on.
pub record GoesOn (mode : Mode) (c : AcqConfig) (camera : Address) (Old New : List Input → Type 0) (o n : Outside) (journal journal_now : List Turn) (count : ℕ) (s t : Token) : Type 0 where
  pub made : List Turned
  pub entries : List Turn
  pub on : TurnsOn mode c camera Old New o n made entries s t
  pub own : TellsOwn made
  pub number : length made ≡ count
  pub all : AllGoOn made
  pub journal_is : journal_now ≡ journal ++ entries

-- no turn
pub turns_none : (mode : Mode) (c : AcqConfig) (camera : Address) (Old : List Input → Type 0) (o : Outside) (s : Token) → TurnsOn mode c camera Old Old o o [] [] s s
turns_none mode c camera Old o s = record {
  events = [];
  enters = each_none s;
  serves = λ q old. refl;
  stands = λ q old. subst Old (sym (append-nil q)) old;
  claims = claims_none mode [] s s [] refl tt (each_none s);
  notes = λ q old. tt;
  controlled = λ q old. refl;
  received = tells_none o.received;
  heard = tells_none o.heard;
  sent = adds_none o.sent;
  told = tells_none o.told;
}

pub begins : (mode : Mode) (c : AcqConfig) (camera : Address) (Old : List Input → Type 0) (o : Outside) (journal : List Turn) (s : Token) → GoesOn mode c camera Old Old o o journal journal 0 s s
begins mode c camera Old o journal s = record {
  made = [];
  entries = [];
  on = turns_none mode c camera Old o s;
  own = tt;
  number = refl;
  all = tt;
  journal_is = sym (append-nil journal);
}

-- a look before the turn
looked_claims : (mode : Mode) (is : List Input) (s t u : Token) (run : ℕ) → Enters s (LookRun run) t → Claims mode is t u → Claims mode is s u
looked_claims mode is s t u run look claims =
    claims_then mode [] is s t u look.number (claims_none mode [] s t (LookRun run ∷ []) refl (λ m b ms. refl, tt) (each_one s t (LookRun run) look refl)) claims

-- a look that found the run word 1, and one more turn
pub turns_more : (mode : Mode) (c : AcqConfig) (camera : Address) (Old Mid New : List Input → Type 0) (o m n : Outside) (made : List Turned) (entries : List Turn) (turned : Turned) (entry : Turn) (s t u v : Token)
    → TurnsOn mode c camera Old Mid o m made entries s t → Enters t (LookRun 1) u → TakesTurn mode c camera Mid New m n turned entry u v
    → TurnsOn mode c camera Old New o n (made ++ turned ∷ []) (entries ++ entry ∷ []) s v
turns_more mode c camera Old Mid New o m n made entries turned entry s t u v on look one = record {
  events = on.events ++ LookRun 1 ∷ one.serves.events;
  enters = each_then s t v on.events (LookRun 1 ∷ one.serves.events) on.enters (each_first t u v (LookRun 1) one.serves.events look refl one.serves.enters);
  serves = λ q old.
      turns-push mode c (After c q) made turned on.events one.serves.events (on.serves q old)
      (subst (λ x. Serves mode c x (inputs_of turned) one.serves.events) (after_from-append c first_state q (inputs_in made))
      (one.serves.serves (q ++ inputs_in made) (on.stands q old)));
  stands = λ q old. subst New (ends_at q) (one.serves.stands (q ++ inputs_in made) (on.stands q old));
  claims = subst (λ l. Claims mode l s v) (sym (inputs-push made turned))
      (claims_then mode (inputs_in made) (inputs_of turned) s t v on.enters.number on.claims (looked_claims mode (inputs_of turned) t u v 1 look one.serves.claims));
  notes = λ q old. notes-push c q made turned entries entry (on.notes q old) (one.notes (q ++ inputs_in made) (on.stands q old));
  controlled = λ q old.
      controls-push c q o.client m.client n.client made turned (on.controlled q old) (one.controlled (q ++ inputs_in made) (on.stands q old)) one.client;
  received = subst (λ l. TellsEach o.received n.received l) (sym (answers-push made turned))
      (tells_more o.received m.received n.received (answers_in made) turned.answer on.received one.received);
  heard = subst (λ l. TellsEach o.heard n.heard l) (sym (heards-push made turned))
      (tells_then o.heard m.heard n.heard (heards_in made) (listed turned.heard) on.heard one.heard);
  sent = subst (λ l. Adds o.sent n.sent (addressed camera l)) (sym (sends-push made turned))
      (added_then camera o.sent m.sent n.sent (sends_in made) turned.sent on.sent one.sent);
  told = subst (λ l. TellsEach o.told n.told l) (sym (moments-push made turned))
      (tells_more o.told m.told n.told (moments_in made) turned.moment on.told one.told);
}
  where
    ends_at : (q : List Input) → (q ++ inputs_in made) ++ inputs_of turned ≡ q ++ inputs_in (made ++ turned ∷ [])
    ends_at q = append_assoc q (inputs_in made) (inputs_of turned) ∙ ap (λ l. q ++ l) (sym (inputs-push made turned))

-- The turns so far, a look that found the run word 1, and one more turn that ended so.
record OneMore (mode : Mode) (c : AcqConfig) (camera : Address) (Old New : List Input → Type 0) (o n : Outside) (journal journal_after : List Turn) (count : ℕ) (end : TurnEnd) (s v : Token) : Type 0 where
  made : List Turned
  turned : Turned
  entries : List Turn
  on : TurnsOn mode c camera Old New o n (made ++ turned ∷ []) entries s v
  own : TellsOwn (made ++ turned ∷ [])
  number : length made ≡ count
  all : AllGoOn made
  ended : turned.end ≡ end
  journal_is : journal_after ≡ journal ++ entries

one_more : (mode : Mode) (c d : AcqConfig) (camera : Address) (Old Mid New : List Input → Type 0) (o m n : Outside) (journal journal_now journal_after : List Turn) (count run : ℕ) (entry : Turn) (end : TurnEnd) (s t u v : Token)
    → GoesOn mode c camera Old Mid o m journal journal_now count s t → d ≡ c → Enters t (LookRun run) u → run ≡ 1 → TakesOne mode d camera Mid New Own m n entry end u v → journal_after ≡ journal_now ++ entry ∷ []
    → OneMore mode c camera Old New o n journal journal_after count end s v
one_more mode c d camera Old Mid New o m n journal journal_now journal_after count run entry end s t u v so config look one takes pushed = record {
  made = so.made;
  turned = takes.turned;
  entries = so.entries ++ entry ∷ [];
  on = turns_more mode c camera Old Mid New o m n so.made so.entries takes.turned entry s t u v so.on (subst (λ k. Enters t (LookRun k) u) one look)
      (subst (λ (x : AcqConfig). TakesTurn mode x camera Mid New m n takes.turned entry u v) config takes.takes);
  own = own-push so.made takes.turned so.own takes.says;
  number = so.number;
  all = so.all;
  ended = takes.ended;
  journal_is = pushed ∙ (ap (λ l. l ++ entry ∷ []) so.journal_is ∙ append_assoc journal so.entries (entry ∷ []));
}

-- the turn went on
pub goes_on : (mode : Mode) (c d : AcqConfig) (camera : Address) (Old Mid New : List Input → Type 0) (o m n : Outside) (journal journal_now journal_after : List Turn) (count run : ℕ) (entry : Turn) (end : TurnEnd) (s t u v : Token)
    → GoesOn mode c camera Old Mid o m journal journal_now count s t → d ≡ c → Enters t (LookRun run) u → run ≡ 1 → TakesOne mode d camera Mid New Own m n entry end u v → journal_after ≡ journal_now ++ entry ∷ []
    → end ≡ ends.GoesOn → GoesOn mode c camera Old New o n journal journal_after (count + 1) s v
goes_on mode c d camera Old Mid New o m n journal journal_now journal_after count run entry end s t u v so config look one takes pushed fine = record {
  made = more.made ++ more.turned ∷ [];
  entries = more.entries;
  on = more.on;
  own = more.own;
  number = omega (arith, length-append more.made (more.turned ∷ []), more.number);
  all = go_on-push more.made more.turned more.all (more.ended ∙ fine);
  journal_is = more.journal_is;
}
  where
    more : OneMore mode c camera Old New o n journal journal_after count end s v
    more = one_more mode c d camera Old Mid New o m n journal journal_now journal_after count run entry end s t u v so config look one takes pushed

-- ---- the ends

ends_in : (mode : Mode) (c : AcqConfig) (camera : Address) (Old New : List Input → Type 0) (o n : Outside) (journal journal_after : List Turn) (count turns : ℕ) (end : TurnEnd) (s v : Token)
    → (more : OneMore mode c camera Old New o n journal journal_after count end s v) → count < turns
    → (length (more.made ++ more.turned ∷ []) ≤ turns) × EndsIn end (more.made ++ more.turned ∷ [])
ends_in mode c camera Old New o n journal journal_after count turns end s v more few = (
  omega (arith, length-append more.made (more.turned ∷ []), more.number, few),
  record { before = more.made; last = more.turned; is = refl; on = more.all; ended = more.ended },
)

-- a turn with such an end goes on
pub then_on : (end : TurnEnd) → None ≡ ended_by end → end ≡ ends.GoesOn
then_on ends.GoesOn none = refl
then_on ends.Fault none = cc
then_on (ends.NoAnswer req) none = cc
then_on (ends.Refused status) none = cc

-- the reader's end is a fault where the turn's is
pub then_fault : (end : TurnEnd) (last : AcqEnd) → Some last ≡ ended_by end → is_fault end ≡ is_fault_end last
then_fault ends.GoesOn last some = cc
then_fault ends.Fault last some = let same : how.Fault ≡ last = cc in ap is_fault_end same
then_fault (ends.NoAnswer req) last some = let same : how.NoAnswer req ≡ last = cc in ap is_fault_end same
then_fault (ends.Refused status) last some = let same : how.Refused status ≡ last = cc in ap is_fault_end same

-- how the turns ended, by the last turn's end, and that there was no further look
then_ends : (end : TurnEnd) (last : AcqEnd) (turns : ℕ) (made : List Turned) (v : Token) → Some last ≡ ended_by end → (length made ≤ turns) × EndsIn end made
    → LooksLast last v v × EndsBy last turns made
then_ends ends.GoesOn last turns made v some so = cc
then_ends ends.Fault last turns made v some so =
    let same : how.Fault ≡ last = cc in subst (λ (e : AcqEnd). LooksLast e v v × EndsBy e turns made) same (refl, so)
then_ends (ends.NoAnswer req) last turns made v some so =
    let same : how.NoAnswer req ≡ last = cc in subst (λ (e : AcqEnd). LooksLast e v v × EndsBy e turns made) same (refl, so)
then_ends (ends.Refused status) last turns made v some so =
    let same : how.Refused status ≡ last = cc in subst (λ (e : AcqEnd). LooksLast e v v × EndsBy e turns made) same (refl, so)

-- the turn was the last one
pub ends_with : (mode : Mode) (c d : AcqConfig) (camera : Address) (Old Mid New : List Input → Type 0) (o m n : Outside) (journal journal_now journal_after : List Turn) (count turns run : ℕ) (entry : Turn) (end : TurnEnd) (last : AcqEnd) (s t u v : Token)
    → GoesOn mode c camera Old Mid o m journal journal_now count s t → d ≡ c → Enters t (LookRun run) u → run ≡ 1 → TakesOne mode d camera Mid New Own m n entry end u v → journal_after ≡ journal_now ++ entry ∷ []
    → count < turns → Some last ≡ ended_by end → Acquires mode c camera Old New o n journal journal_after turns last s v
ends_with mode c d camera Old Mid New o m n journal journal_now journal_after count turns run entry end last s t u v so config look one takes pushed few some = record {
  made = more.made ++ more.turned ∷ [];
  entries = more.entries;
  middle = v;
  on = more.on;
  own = more.own;
  last = ended.0;
  ends = ended.1;
  journal_is = more.journal_is;
}
  where
    more : OneMore mode c camera Old New o n journal journal_after count end s v
    more = one_more mode c d camera Old Mid New o m n journal journal_now journal_after count run entry end s t u v so config look one takes pushed

    ended : LooksLast last v v × EndsBy last turns (more.made ++ more.turned ∷ [])
    ended = then_ends end last turns (more.made ++ more.turned ∷ []) v some
        (ends_in mode c camera Old New o n journal journal_after count turns end s v more few)

pub ends_stopped : (mode : Mode) (c : AcqConfig) (camera : Address) (Old New : List Input → Type 0) (o n : Outside) (journal journal_now : List Turn) (count turns run : ℕ) (s t u : Token)
    → GoesOn mode c camera Old New o n journal journal_now count s t → Enters t (LookRun run) u → run ≢ 1 → count < turns → Acquires mode c camera Old New o n journal journal_now turns how.Stopped s u
ends_stopped mode c camera Old New o n journal journal_now count turns run s t u so look other few = record {
  made = so.made;
  entries = so.entries;
  middle = t;
  on = so.on;
  own = so.own;
  last = record { run = run; stopped = other; enters = each_one t u (LookRun run) look refl };
  ends = (omega (arith, so.number, few), so.all);
  journal_is = so.journal_is;
}

pub ends_spent : (mode : Mode) (c : AcqConfig) (camera : Address) (Old New : List Input → Type 0) (o n : Outside) (journal journal_now : List Turn) (count turns : ℕ) (s t : Token)
    → GoesOn mode c camera Old New o n journal journal_now count s t → count ≡ turns → Acquires mode c camera Old New o n journal journal_now turns how.Spent s t
ends_spent mode c camera Old New o n journal journal_now count turns s t so all = record {
  made = so.made;
  entries = so.entries;
  middle = t;
  on = so.on;
  own = so.own;
  last = refl;
  ends = (so.number ∙ all, so.all);
  journal_is = so.journal_is;
}

-- nothing had failed before
pub faults_later : (is was : Bool) (stream stream_then stream_after control control_then control_after : ℕ) → was ≡ is → stream_then ≡ stream → control_then ≡ control
    → FaultsOf was stream_then stream_after control_then control_after → FaultsOf is stream stream_after control control_after
faults_later is was stream stream_then stream_after control control_then control_after same stream_stays control_stays faults = rw (← same, ← stream_stays, ← control_stays) faults

-- a turn that went on had no fault
pub counts_stay : (end : TurnEnd) (stream stream_after control control_after : ℕ) → FaultsOf (is_fault end) stream stream_after control control_after → end ≡ ends.GoesOn
    → (stream_after ≡ stream) × (control_after ≡ control)
counts_stay end stream stream_after control control_after faults fine =
    subst (λ e. FaultsOf (is_fault e) stream stream_after control control_after) fine faults
