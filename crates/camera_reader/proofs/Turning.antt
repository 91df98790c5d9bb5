-- Turns of the reader, one after the other.
use Rattle.std.proofs.Common.{◌≡◌, ◌≢◌, ℕ, Bool, true, false, List, [], ◌∷◌, ◌++◌, Option, Some, None, refl, ap, sym, ◌∙◌, subst}
use Rattle.std.specs.Prelude.{◌↔◌, not, is_some, IsTrue, if◌then◌else◌}
use Rattle.client_machine.specs.Machine.{Asked, Client}
use Rattle.board_machine.specs.declared.events.Event.TheVariants.{LookRun}
use Rattle.gev_links.specs.Links.{Address}
use Rattle.gev_control.specs.declared.turn_end.TurnEnd.{TurnEnd}
use Rattle.gev_control.specs.declared.turn_end.TurnEnd.TheVariants as ends
use Rattle.gev_control.specs.Controlled.{is_fault as is_turn_fault, control_of}
use Rattle.gev_control.specs.Telling.{told_value}
use Rattle.acquisition_machine.specs.declared.config.AcqConfig.{AcqConfig}
use Rattle.acquisition_machine.specs.Machine.{Input}
use Rattle.buffer_words.specs.Passes.{Token, Enters}
use Rattle.buffer_words.proofs.Several.{each_one}
use Rattle.board_calls.specs.declared.mode.Mode.{Mode}
use Rattle.gev_acq.specs.Turns.{Turned, Outside}
use Rattle.gev_acq.specs.Reading.{FaultsOf}
use Rattle.packet_requests.specs.declared.id_mode.IdMode.{IdMode}
use Rattle.camera_control.specs.declared.control_end.ControlEnd.{ControlEnd}
use Rattle.camera_control.specs.declared.control_end.ControlEnd.TheVariants as causes
use Rattle.camera_control.specs.Steps.{is_held, lost_cause}
use Rattle.first_leader.specs.Waiting.{beat_cause}
use Rattle.camera_reader.specs.declared.listening.Listening.{Listening}
use Rattle.camera_reader.specs.declared.reader_end.ReaderEnd.TheVariants.{Stopped, Silent, Ended}
use Rattle.camera_reader.specs.Hearing.{Arrival, is_datagram, top_of, answers_of}
use Rattle.camera_reader.specs.declared.receiver_clock.ReceiverClock.{ReceiverClock}
use Rattle.camera_reader.specs.ReceiverClock.{begins_at}
use Rattle.camera_reader.specs.Listening.{is_silent, listened, is_silent_behind, listened_behind, begins_listening, listened_to, NoneSilent, turn_cause, client_after, NoneEnded}
use Rattle.camera_reader.specs.Turns.{TakesTurn, TakesOne, TurnsOn}
use Rattle.camera_reader.specs.Reading.{TakesCameraTurn, KeepsOn, LastTurn, ReadsTurns, stopped, silent, ended, cause_faults}
use Rattle.camera_reader.proofs.Arriving.{hears_none, hears_more, top_none, top_more}
use Rattle.camera_reader.proofs.Steps.{clock_behind, told_more, behind_more}
use Rattle.camera_reader.proofs.AllTurns.{turns_none, turns_more}

-- ---- one more turn

client-push : (s : Client) (ts : List Turned) (t : Turned) → client_after s (ts ++ t ∷ []) ≡ (control_of (client_after s ts) t.heard t.moment).state
client-push s [] t = refl
client-push s (x ∷ xs) t = client-push (control_of s x.heard x.moment).state xs t

ended-push : (s : Client) (ts : List Turned) (t : Turned) → NoneEnded s ts → turn_cause (client_after s ts) t ≡ None → NoneEnded s (ts ++ t ∷ [])
ended-push s [] t none is = (is, tt)
ended-push s (x ∷ xs) t none is = (none.0, ended-push (control_of s x.heard x.moment).state xs t none.1 is)

listened-push : (silence : ℕ) (l : Listening) (xs : List Arrival) (a : Arrival)
    → listened_to silence l (xs ++ a ∷ []) ≡ listened_behind silence (listened_to silence l xs) a
listened-push silence l [] a = refl
listened-push silence l (x ∷ xs) a = listened-push silence (listened_behind silence l x) xs a

silent-push : (silence : ℕ) (l : Listening) (xs : List Arrival) (a : Arrival) → NoneSilent silence l xs
    → is_silent_behind silence (listened_to silence l xs) a ≡ false → NoneSilent silence l (xs ++ a ∷ [])
silent-push silence l [] a none is = (is, tt)
silent-push silence l (x ∷ xs) a none is = (none.0, silent-push silence (listened_behind silence l x) xs a none.1 is)

-- what a turn of this moment, in which a datagram came or none, makes of a silence
silent_so : (silence : ℕ) (l : Listening) (a : Arrival) (moment : ℕ) (came b : Bool) → moment ≡ a.moment → came ≡ is_datagram a.answer
    → is_silent silence l moment came ≡ b → is_silent_behind silence l a ≡ b
silent_so silence l a moment came b at so is =
    ap (λ (x : Bool). is_silent silence l a.moment x) (sym so) ∙ (ap (λ (m : ℕ). is_silent silence l m came) (sym at) ∙ is)

listened_so : (silence : ℕ) (l next : Listening) (a : Arrival) (moment : ℕ) (came : Bool) → moment ≡ a.moment → came ≡ is_datagram a.answer
    → next ≡ listened silence l moment came → next ≡ listened_behind silence l a
listened_so silence l next a moment came at so is =
    is ∙ (ap (λ (m : ℕ). listened silence l m came) at ∙ ap (λ (x : Bool). listened silence l a.moment x) so)

-- ---- so far

-- the turns so far, and what is known behind them
pub record SoFar (mode : Mode) (c : AcqConfig) (ids : IdMode) (camera : Address) (silence begin : ℕ) (Old New : List Input → Type 0) (o n : Outside) (clock : ReceiverClock)
    (top refused : ℕ) (l : Listening) (s u : Token) : Type 0 where
  pub made : List Turned
  pub arrivals : List Arrival
  pub keeps : KeepsOn mode c ids camera silence begin Old New o n refused made arrivals s u
  pub ticks : clock ≡ clock_behind (begins_at begin) arrivals
  pub greatest : top ≡ top_of ids (answers_of arrivals)
  pub listens : l ≡ listened_to silence (begins_listening begin) arrivals

pub nothing_yet : (mode : Mode) (c : AcqConfig) (ids : IdMode) (camera : Address) (silence begin : ℕ) (Old : List Input → Type 0) (o : Outside) (clock : ReceiverClock)
    (top refused : ℕ) (s : Token)
    → clock ≡ begins_at begin → top ≡ 0 → refused ≡ 0 → SoFar mode c ids camera silence begin Old Old o o clock top refused (begins_listening begin) s s
nothing_yet mode c ids camera silence begin Old o clock top refused s is new none = record {
  made = [];
  arrivals = [];
  keeps = record {
    on = turns_none mode c ids camera Old o s;
    hears = hears_none ids refused none;
    told = refl;
    client = refl;
    controlled = tt;
    heard = tt;
  };
  ticks = is;
  greatest = top_none ids top new;
  listens = refl;
}

-- a look that found the run word 1, and a turn of the same configuration
looks_on : (mode : Mode) (c d : AcqConfig) (ids : IdMode) (camera : Address) (Old Mid New : List Input → Type 0) (o m n : Outside) (made : List Turned)
    (arrivals : List Arrival) (turned : Turned) (a : Arrival) (run : ℕ) (s t u v : Token) → TurnsOn mode c ids camera Old Mid o m made arrivals s t → d ≡ c
    → Enters t (LookRun run) u → run ≡ 1
    → TakesTurn mode d ids camera Mid New m n turned a u v → TurnsOn mode c ids camera Old New o n (made ++ turned ∷ []) (arrivals ++ a ∷ []) s v
looks_on mode c d ids camera Old Mid New o m n made arrivals turned a run s t u v on config look one takes =
    turns_more mode c ids camera Old Mid New o m n made arrivals turned a s t u v on (subst (λ (k : ℕ). Enters t (LookRun k) u) one look)
    (subst (λ (x : AcqConfig). TakesTurn mode x ids camera Mid New m n turned a u v) config takes)

-- the turn was the last one
last_turn : (mode : Mode) (c d : AcqConfig) (ids : IdMode) (camera : Address) (silence begin : ℕ) (Old Mid New : List Input → Type 0) (o m n : Outside)
    (clock later : ReceiverClock) (top refused top_after refused_after : ℕ) (l : Listening) (moment : ℕ) (came : Bool) (cause : Option ControlEnd) (run : ℕ) (s t u v : Token)
    → (so : SoFar mode c ids camera silence begin Old Mid o m clock top refused l s t) → d ≡ c → Enters t (LookRun run) u → run ≡ 1
    → (takes : TakesCameraTurn mode d ids camera Mid New clock later top refused top_after refused_after m n moment came cause u v)
    → LastTurn mode c ids camera silence begin Old New o n refused_after so.made takes.turned so.arrivals takes.arrival cause s v
last_turn mode c d ids camera silence begin Old Mid New o m n clock later top refused top_after refused_after l moment came cause run s t u v so config look one takes = record {
  on = looks_on mode c d ids camera Old Mid New o m n so.made so.arrivals takes.turned takes.arrival run s t u v so.keeps.on config look one takes.takes;
  hears = hears_more ids so.made so.arrivals takes.turned takes.arrival top refused top_after refused_after so.greatest so.keeps.hears takes.hears;
  told = told_more begin clock so.made so.arrivals takes.turned takes.arrival so.ticks so.keeps.told takes.told;
  controlled = so.keeps.controlled;
  heard = so.keeps.heard;
  cause_is = ap (λ (k : Client). turn_cause k takes.turned) (sym so.keeps.client) ∙ takes.cause_is;
}

pub one_more : (mode : Mode) (c d : AcqConfig) (ids : IdMode) (camera : Address) (silence begin : ℕ) (Old Mid New : List Input → Type 0) (o m n : Outside)
    (clock later : ReceiverClock) (top refused top_after refused_after : ℕ) (l next : Listening) (moment : ℕ) (came : Bool) (run : ℕ) (s t u v : Token)
    → SoFar mode c ids camera silence begin Old Mid o m clock top refused l s t → d ≡ c → Enters t (LookRun run) u → run ≡ 1
    → TakesCameraTurn mode d ids camera Mid New clock later top refused top_after refused_after m n moment came None u v → is_silent silence l moment came ≡ false
    → next ≡ listened silence l moment came → SoFar mode c ids camera silence begin Old New o n later top_after refused_after next s v
one_more mode c d ids camera silence begin Old Mid New o m n clock later top refused top_after refused_after l next moment came run s t u v so config look one takes loud follows = record {
  made = so.made ++ takes.turned ∷ [];
  arrivals = so.arrivals ++ takes.arrival ∷ [];
  keeps = record {
    on = looks_on mode c d ids camera Old Mid New o m n so.made so.arrivals takes.turned takes.arrival run s t u v so.keeps.on config look one takes.takes;
    hears = hears_more ids so.made so.arrivals takes.turned takes.arrival top refused top_after refused_after so.greatest so.keeps.hears takes.hears;
    told = told_more begin clock so.made so.arrivals takes.turned takes.arrival so.ticks so.keeps.told takes.told;
    client =
        takes.takes.client
        ∙ (ap (λ (k : Client). (control_of k takes.turned.heard takes.turned.moment).state) so.keeps.client ∙ sym (client-push o.client so.made takes.turned));
    controlled =
        ended-push o.client so.made takes.turned so.keeps.controlled (ap (λ (k : Client). turn_cause k takes.turned) (sym so.keeps.client) ∙ takes.cause_is);
    heard =
        silent-push silence (begins_listening begin) so.arrivals takes.arrival so.keeps.heard
        (ap (λ (k : Listening). is_silent_behind silence k takes.arrival) (sym so.listens)
        ∙ silent_so silence l takes.arrival moment came false takes.moment_is takes.came_is loud);
  };
  ticks = behind_more begin clock later so.arrivals takes.arrival so.ticks takes.read;
  greatest = top_more ids so.arrivals takes.turned takes.arrival top refused top_after refused_after so.greatest takes.hears;
  listens =
      listened_so silence l next takes.arrival moment came takes.moment_is takes.came_is follows
      ∙ (ap (λ (k : Listening). listened_behind silence k takes.arrival) so.listens
      ∙ sym (listened-push silence (begins_listening begin) so.arrivals takes.arrival));
}

-- the same turn, by what became of control
pub caused : (mode : Mode) (d : AcqConfig) (ids : IdMode) (camera : Address) (Mid New : List Input → Type 0) (clock later : ReceiverClock)
    (top refused top_after refused_after : ℕ) (m n : Outside) (moment : ℕ) (came : Bool) (x y : Option ControlEnd) (u v : Token)
    → TakesCameraTurn mode d ids camera Mid New clock later top refused top_after refused_after m n moment came x u v → x ≡ y
    → TakesCameraTurn mode d ids camera Mid New clock later top refused top_after refused_after m n moment came y u v
caused mode d ids camera Mid New clock later top refused top_after refused_after m n moment came x y u v takes is =
    subst (λ (k : Option ControlEnd). TakesCameraTurn mode d ids camera Mid New clock later top refused top_after refused_after m n moment came k u v) is takes

-- ---- the ends

pub ends_stopped : (mode : Mode) (c : AcqConfig) (ids : IdMode) (camera : Address) (silence begin : ℕ) (Old New : List Input → Type 0) (o n : Outside) (clock : ReceiverClock)
    (top refused : ℕ) (l : Listening) (run : ℕ) (s t u : Token) → SoFar mode c ids camera silence begin Old New o n clock top refused l s t → Enters t (LookRun run) u
    → run ≢ 1 → ReadsTurns mode c ids camera silence begin Old New o n refused s u Stopped
ends_stopped mode c ids camera silence begin Old New o n clock top refused l run s t u so look other =
    stopped so.made so.arrivals t so.keeps (record { run = run; stopped = other; enters = each_one t u (LookRun run) look refl })

pub ends_silent : (mode : Mode) (c d : AcqConfig) (ids : IdMode) (camera : Address) (silence begin : ℕ) (Old Mid New : List Input → Type 0) (o m n : Outside)
    (clock later : ReceiverClock) (top refused top_after refused_after : ℕ) (l : Listening) (moment : ℕ) (came : Bool) (cause : Option ControlEnd) (run : ℕ) (s t u v : Token)
    → SoFar mode c ids camera silence begin Old Mid o m clock top refused l s t → d ≡ c → Enters t (LookRun run) u → run ≡ 1
    → TakesCameraTurn mode d ids camera Mid New clock later top refused top_after refused_after m n moment came cause u v → cause ≡ None
    → is_silent silence l moment came ≡ true
    → ReadsTurns mode c ids camera silence begin Old New o n refused_after s v Silent
ends_silent mode c d ids camera silence begin Old Mid New o m n clock later top refused top_after refused_after l moment came cause run s t u v so config look one takes_so is quiet =
    silent so.made takes.turned so.arrivals takes.arrival
    (last_turn mode c d ids camera silence begin Old Mid New o m n clock later top refused top_after refused_after l moment came None run s t u v so config look one takes)
    (ap (λ (k : Listening). is_silent_behind silence k takes.arrival) (sym so.listens)
    ∙ silent_so silence l takes.arrival moment came true takes.moment_is takes.came_is quiet)
  where
    takes : TakesCameraTurn mode d ids camera Mid New clock later top refused top_after refused_after m n moment came None u v
    takes = caused mode d ids camera Mid New clock later top refused top_after refused_after m n moment came cause None u v takes_so is

pub ends_ended : (mode : Mode) (c d : AcqConfig) (ids : IdMode) (camera : Address) (silence begin : ℕ) (Old Mid New : List Input → Type 0) (o m n : Outside)
    (clock later : ReceiverClock) (top refused top_after refused_after : ℕ) (l : Listening) (moment : ℕ) (came : Bool) (told : Option ControlEnd) (cause : ControlEnd) (run : ℕ)
    (s t u v : Token)
    → SoFar mode c ids camera silence begin Old Mid o m clock top refused l s t → d ≡ c → Enters t (LookRun run) u → run ≡ 1
    → TakesCameraTurn mode d ids camera Mid New clock later top refused top_after refused_after m n moment came told u v → told ≡ Some cause
    → ReadsTurns mode c ids camera silence begin Old New o n refused_after s v (Ended cause)
ends_ended mode c d ids camera silence begin Old Mid New o m n clock later top refused top_after refused_after l moment came told cause run s t u v so config look one takes_so is =
    ended so.made takes.turned so.arrivals takes.arrival cause
    (last_turn mode c d ids camera silence begin Old Mid New o m n clock later top refused top_after refused_after l moment came (Some cause) run s t u v so config look one takes)
  where
    takes : TakesCameraTurn mode d ids camera Mid New clock later top refused top_after refused_after m n moment came (Some cause) u v
    takes = caused mode d ids camera Mid New clock later top refused top_after refused_after m n moment came told (Some cause) u v takes_so is

-- ---- one turn

-- a command was outstanding
pub was_waiting : (b : Bool) (o : Option Asked) → (IsTrue b ↔ (o ≡ None)) → not b ≡ is_some o
was_waiting true None so = refl
was_waiting true (Some asked) so = let bad : Some asked ≡ None = so.0 refl in absurd (cc)
was_waiting false None so = let bad : false ≡ true = so.1 refl in absurd (cc)
was_waiting false (Some asked) so = refl

-- the turn of the receiver and the client, by what became of control
pub camera_turn : (mode : Mode) (c : AcqConfig) (ids : IdMode) (camera : Address) (Old New : List Input → Type 0) (p q : ReceiverClock)
    (top refused top_after refused_after : ℕ) (o n : Outside) (moment : ℕ) (came : Bool) (end : TurnEnd)
    (waited : Bool) (s u : Token) (cause : Option ControlEnd)
    → TakesOne mode c ids camera Old New p q top refused top_after refused_after o n moment came end s u
    → cause ≡ beat_cause end (told_value waited n.client.asked n.client) → waited ≡ is_some o.client.asked
    → TakesCameraTurn mode c ids camera Old New p q top refused top_after refused_after o n moment came cause s u
camera_turn mode c ids camera Old New p q top refused top_after refused_after o n moment came end waited s u cause one is was =
    let later : Client = (control_of o.client one.turned.heard one.turned.moment).state in
    record {
      turned = one.turned;
      arrival = one.arrival;
      told = one.told;
      read = one.read;
      hears = one.hears;
      takes = one.takes;
      moment_is = one.moment_is;
      came_is = one.came_is;
      cause_is =
          ap (λ (e : TurnEnd). beat_cause e (told_value (is_some o.client.asked) later.asked later)) one.ended
          ∙ (ap (λ (k : Client). beat_cause end (told_value (is_some o.client.asked) k.asked k)) (sym one.takes.client)
          ∙ (ap (λ (b : Bool). beat_cause end (told_value b n.client.asked n.client)) (sym was) ∙ sym is));
    }

lost_faults : (told : Option ℕ) → cause_faults (lost_cause true told) ≡ false
lost_faults None = refl
lost_faults (Some privilege) = go (is_held privilege)
  where
    go : (held : Bool) → cause_faults (if held then None else Some causes.ControlLost) ≡ false
    go true = refl
    go false = refl

beat_faults : (end : TurnEnd) (told : Option ℕ) → cause_faults (beat_cause end told) ≡ is_turn_fault end
beat_faults ends.GoesOn told = lost_faults told
beat_faults ends.Fault told = refl
beat_faults (ends.NoAnswer req) told = refl
beat_faults (ends.Refused status) told = refl

pub same_faults : (end : TurnEnd) (told : Option ℕ) (cause : Option ControlEnd) (x y z w : ℕ) → cause ≡ beat_cause end told → FaultsOf (is_turn_fault end) x y z w
    → FaultsOf (cause_faults cause) x y z w
same_faults end told cause x y z w is faults =
    subst (λ (b : Bool). FaultsOf b x y z w) (sym (ap cause_faults is ∙ beat_faults end told)) faults

-- a turn that went on had no fault
pub still : {cause : Option ControlEnd} → {x y z w : ℕ} → cause ≡ None → FaultsOf (cause_faults cause) x y z w → (y ≡ x) × (w ≡ z)
still {x = x} {y = y} {z = z} {w = w} is faults = subst (λ (k : Option ControlEnd). FaultsOf (cause_faults k) x y z w) is faults
