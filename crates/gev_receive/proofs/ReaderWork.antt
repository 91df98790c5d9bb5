-- The reader's worker: the turns, and the stop of the receiver and of the run.
use Rattle.std.proofs.Common.{◌≡◌, ℕ, false, List, [], ◌∷◌, ◌++◌, Option, Some, None, Result, refl, sym, ap, subst, ◌∙◌, append_assoc, arith}
use Rattle.std.proofs.lemmas.List.{append-nil}
use Rattle.board_machine.specs.declared.events.Event.{Event}
use Rattle.board_machine.specs.declared.events.Event.TheVariants.{LookRun, Stop}
use Rattle.acquisition_machine.specs.declared.config.AcqConfig.{AcqConfig}
use Rattle.acquisition_machine.specs.declared.counts.Counts.{Counts}
use Rattle.acquisition_machine.specs.Machine.{Input, tick, stop}
use Rattle.acq_core.specs.Standing.{capped}
use Rattle.acquisition_machine.specs.Runs.{After}
use Rattle.buffer_words.specs.Passes.{Token, Enters}
use Rattle.buffer_words.specs.Workers.{AreEvents, Works}
use Rattle.buffer_words.specs.Several.{EntersEach}
use Rattle.buffer_words.proofs.Several.{each_one, each_then}
use Rattle.buffer_words.proofs.Working.{works_each}
use Rattle.board_calls.specs.declared.mode.Mode.{Mode}
use Rattle.gev_links.specs.Links.{Address, Answer}
use Rattle.gev_links.specs.Moments.{Tells, TellsEach}
use Rattle.gev_links.proofs.Growing.{tells_first, tells_then}
use Rattle.client_machine.specs.Machine.{Client}
use Rattle.packet_requests.specs.declared.id_mode.IdMode.{IdMode}
use Rattle.gev_acq.specs.Buffers.{Backs}
use Rattle.acquisition_machine.specs.Blocks.{Given}
use Rattle.gev_acq.specs.Claims.{Claims, ServesOn}
use Rattle.gev_acq.specs.Turns.{Turned, Outside}
use Rattle.gev_acq.specs.Acquired.{inputs_in, moments_in}
use Rattle.gev_acq.specs.Kinds.{is_readers}
use Rattle.gev_acq.specs.Moments.{told_in}
use Rattle.gev_acq.proofs.Owning.{claims_none, claims_then}
use Rattle.gev_acq.proofs.OfKind.{served_are, turns_are}
use Rattle.camera_control.specs.declared.control_end.ControlEnd.{ControlEnd}
use Rattle.camera_reader.specs.declared.reader_end.ReaderEnd.{ReaderEnd}
use Rattle.camera_reader.specs.declared.reader_end.ReaderEnd.TheVariants.{Stopped, Silent, Ended}
use Rattle.camera_reader.specs.Hearing.{Arrival, HearsEach}
use Rattle.camera_reader.specs.ReceiverClock.{receiver_moments}
use Rattle.camera_reader.specs.Turns.{TurnsOn}
use Rattle.camera_reader.specs.Reading.{LastTurn, ReadsTurns, stopped, silent, ended}
use Rattle.gev_receive.specs.Reader.{EndsLast, EndsReading, LastLook, ReadsOn, inputs_from, ReadsTo, with_refused, ReadsFrames}

-- ---- the turns

-- calls that claim nothing, after these inputs
claims_on : (mode : Mode) (is : List Input) (s t u : Token) → t.number ≡ s.number → Claims mode is s t → Claims mode [] t u → Claims mode is s u
claims_on mode is s t u number first second = subst (λ l. Claims mode l s u) (append-nil is) (claims_then mode is [] s t u number first second)

-- what the clock told: the moment before the first turn, and the turns' own
told_all : (old first new : Option (List ℕ)) (begin : ℕ) (ms : List ℕ) → Tells old first begin → TellsEach first new ms → TellsEach old new (begin ∷ ms)
told_all old first new begin ms begun rest = tells_then old first new (begin ∷ []) ms (tells_first old first begin begun) rest

-- turns and what they told, from a receiver that was told a moment
turns_on : (mode : Mode) (c : AcqConfig) (ids : IdMode) (camera : Address) (silence begin : ℕ) (Old New : List Input → Type 0) (r m h k : Option (List Answer))
    (w v : Option (List (Address × List ℕ))) (d first e : Option (List ℕ)) (x y : Client) (refused : ℕ) (end : ReaderEnd) (made : List Turned)
    (arrivals : List Arrival) (last : List Event) (s t : Token)
    → Old (tick begin ∷ []) → Tells d first begin
    → (on : TurnsOn mode c ids camera Old New (record { received = r; heard = h; sent = w; told = first; client = x }) (record { received = m; heard = k; sent = v; told = e; client = y }) made arrivals s t)
    → HearsEach ids made arrivals refused → told_in made ≡ receiver_moments begin arrivals → EndsReading end silence begin x made arrivals → LastLook end last
    → ReadsOn mode c ids camera silence begin (record { received = r; heard = h; sent = w; told = d; client = x }) (record { received = m; heard = k; sent = v; told = e; client = y }) refused end made on.events last
turns_on mode c ids camera silence begin Old New r m h k w v d first e x y refused end made arrivals last s t stands begun on hears says ends looks = record {
  serves = on.serves (tick begin ∷ []) stands;
  says = says;
  controlled = on.controlled (tick begin ∷ []) stands;
  entries = on.entries;
  notes = on.notes (tick begin ∷ []) stands;
  arrivals = arrivals;
  hears = hears;
  ends = ends;
  looks = looks;
  received = on.received;
  heard = on.heard;
  sent = on.sent;
  told = told_all d first e begin (moments_in made) begun on.told;
}

-- the end behind a last turn
abbrev ends_last : (mode : Mode) (c : AcqConfig) (ids : IdMode) (camera : Address) (silence begin : ℕ) (Old New : List Input → Type 0) (o n : Outside) (refused : ℕ)
    (before : List Turned) (last : Turned) (earlier : List Arrival) (arrival : Arrival) (cause : Option ControlEnd) (s u : Token)
    → LastTurn mode c ids camera silence begin Old New o n refused before last earlier arrival cause s u
    → EndsLast silence begin o.client (before ++ last ∷ []) (earlier ++ arrival ∷ []) cause
ends_last mode c ids camera silence begin Old New o n refused before last earlier arrival cause s u l = record {
  before = before;
  last = last;
  are = refl;
  earlier = earlier;
  arrival = arrival;
  arrived = refl;
  controlled = l.controlled;
  heard = l.heard;
  cause_is = l.cause_is;
}

-- a look that finds the run stopped claims nothing
look_claims : (mode : Mode) (s t : Token) (run : ℕ) → EntersEach s (LookRun run ∷ []) t → Claims mode [] s t
look_claims mode s t run enters = claims_none mode [] s t (LookRun run ∷ []) refl (λ m b ms. refl, tt) enters

reads_so : (mode : Mode) (c : AcqConfig) (ids : IdMode) (camera : Address) (silence begin : ℕ) (Old New : List Input → Type 0) (r m h k : Option (List Answer))
    (w v : Option (List (Address × List ℕ))) (d first e : Option (List ℕ)) (x y : Client) (refused : ℕ) (end : ReaderEnd) (s u : Token) → Old (tick begin ∷ []) → Tells d first begin
    → ReadsTurns mode c ids camera silence begin Old New (record { received = r; heard = h; sent = w; told = first; client = x }) (record { received = m; heard = k; sent = v; told = e; client = y }) refused s u end
    → ReadsTo mode c ids camera silence New (record { received = r; heard = h; sent = w; told = d; client = x }) (record { received = m; heard = k; sent = v; told = e; client = y }) refused end s u
reads_so mode c ids camera silence begin Old New r m h k w v d first e x y refused Stopped s u stands begun (stopped made arrivals middle keeps finds) = record {
  begin = begin;
  made = made;
  turned = keeps.on.events;
  last = LookRun finds.run ∷ [];
  on = turns_on mode c ids camera silence begin Old New r m h k w v d first e x y refused Stopped made arrivals (LookRun finds.run ∷ []) s middle stands begun keeps.on
      keeps.hears keeps.told (keeps.controlled, keeps.heard) (finds.run, finds.stopped, refl);
  enters = each_then s middle u keeps.on.events (LookRun finds.run ∷ []) keeps.on.enters finds.enters;
  claims = claims_on mode (inputs_in made) s middle u keeps.on.enters.number keeps.on.claims (look_claims mode middle u finds.run finds.enters);
  stands = keeps.on.stands (tick begin ∷ []) stands;
}
reads_so mode c ids camera silence begin Old New r m h k w v d first e x y refused Silent s u stands begun (silent before last earlier arrival ends quiet) = record {
  begin = begin;
  made = before ++ last ∷ [];
  turned = ends.on.events;
  last = [];
  on = turns_on mode c ids camera silence begin Old New r m h k w v d first e x y refused Silent (before ++ last ∷ []) (earlier ++ arrival ∷ []) [] s u stands begun ends.on
      ends.hears ends.told (ends_last mode c ids camera silence begin Old New _ _ refused before last earlier arrival None s u ends, quiet) refl;
  enters = subst (λ l. EntersEach s l u) (sym (append-nil ends.on.events)) ends.on.enters;
  claims = ends.on.claims;
  stands = ends.on.stands (tick begin ∷ []) stands;
}
reads_so mode c ids camera silence begin Old New r m h k w v d first e x y refused (Ended cause) s u stands begun (ended before last earlier arrival _ ends) = record {
  begin = begin;
  made = before ++ last ∷ [];
  turned = ends.on.events;
  last = [];
  on = turns_on mode c ids camera silence begin Old New r m h k w v d first e x y refused (Ended cause) (before ++ last ∷ []) (earlier ++ arrival ∷ []) [] s u stands begun
      ends.on ends.hears ends.told (ends_last mode c ids camera silence begin Old New _ _ refused before last earlier arrival (Some cause) s u ends) refl;
  enters = subst (λ l. EntersEach s l u) (sym (append-nil ends.on.events)) ends.on.enters;
  claims = ends.on.claims;
  stands = ends.on.stands (tick begin ∷ []) stands;
}

-- the same by a receiver's own configuration
pub reads_to : (mode : Mode) (c d : AcqConfig) (ids : IdMode) (camera : Address) (silence begin : ℕ) (Old New : List Input → Type 0) (r m h k : Option (List Answer))
    (w v : Option (List (Address × List ℕ))) (d0 first e : Option (List ℕ)) (x y : Client) (refused : ℕ) (end : ReaderEnd) (s u : Token)
    → Old (tick begin ∷ []) → Tells d0 first begin → d ≡ c
    → ReadsTurns mode d ids camera silence begin Old New (record { received = r; heard = h; sent = w; told = first; client = x }) (record { received = m; heard = k; sent = v; told = e; client = y }) refused s u end
    → ReadsTo mode c ids camera silence New (record { received = r; heard = h; sent = w; told = d0; client = x }) (record { received = m; heard = k; sent = v; told = e; client = y }) refused end s u
reads_to mode c d ids camera silence begin Old New r m h k w v d0 first e x y refused end s u stands begun config reads =
    reads_so mode c ids camera silence begin Old New r m h k w v d0 first e x y refused end s u stands begun
    (subst (λ (z : AcqConfig). ReadsTurns mode z ids camera silence begin Old New (record { received = r; heard = h; sent = w; told = first; client = x })
    (record { received = m; heard = k; sent = v; told = e; client = y }) refused s u end) config reads)

-- ---- the stops

-- what the stop of a receiver claims: nothing
no_claims : (mode : Mode) (s t : Token) → Claims mode (stop ∷ []) s t → Claims mode [] s t
no_claims mode s t claims = record { between = claims.between; seen = claims.seen; are = claims.are }

-- then the receiver was stopped, and the run
pub reads_frames : (mode : Mode) (c d e : AcqConfig) (ids : IdMode) (camera : Address) (silence : ℕ) (Old New : List Input → Type 0) (o n : Outside) (refused : ℕ)
    (own counts : Counts) (end : ReaderEnd) (answer : Result (Unit {0}) ℕ) (s t u v : Token)
    → ReadsTo mode c ids camera silence Old o n refused end s t → d ≡ c → ServesOn mode d Old New (stop ∷ []) t u → Enters u (Stop false answer) v
    → e ≡ d → ((q : List Input) → New q → own ≡ capped (After e q).counts) → counts ≡ with_refused own refused
    → ReadsFrames mode c ids camera silence o n counts end s v
reads_frames mode c d e ids camera silence Old New o n refused own counts end answer s t u v so config drain enters same counted sum = record {
  begin = so.begin;
  refused = refused;
  made = so.made;
  turned = so.turned;
  last = so.last;
  on = so.on;
  drained = drained.events;
  drains = drained.serves (inputs_from so.begin so.made) so.stands;
  answer = answer;
  enters = subst (λ l. EntersEach s l v) (append_assoc so.turned so.last (drained.events ++ Stop false answer ∷ []))
      (each_then s t v (so.turned ++ so.last) (drained.events ++ Stop false answer ∷ []) so.enters
      (each_then t u v drained.events (Stop false answer ∷ []) drained.enters stops));
  claims = claims_on mode (inputs_in so.made) s u v (drained.enters.number ∙ so.enters.number)
      (claims_on mode (inputs_in so.made) s t u so.enters.number so.claims (no_claims mode t u drained.claims))
      (claims_none mode [] u v (Stop false answer ∷ []) refl (λ m b ms. refl, tt) stops);
  counted = sum
      ∙ (ap (λ (x : Counts). with_refused x refused) (counted (inputs_from so.begin so.made ++ stop ∷ []) (drained.stands (inputs_from so.begin so.made) so.stands))
      ∙ ap (λ (x : AcqConfig). with_refused (capped (After x (inputs_from so.begin so.made ++ stop ∷ [])).counts) refused) (same ∙ config));
}
  where
    stops : EntersEach u (Stop false answer ∷ []) v
    stops = each_one u v (Stop false answer) enters refl

    drained : ServesOn mode c Old New (stop ∷ []) t u
    drained = subst (λ (x : AcqConfig). ServesOn mode x Old New (stop ∷ []) t u) config drain

-- ---- its acts

same_are : (mode : Mode) (es fs : List Event) → es ≡ fs → AreEvents (is_readers mode) fs → AreEvents (is_readers mode) es
same_are mode es fs is are = subst (λ (gs : List Event). AreEvents (is_readers mode) gs) (sym is) are

both_are : (mode : Mode) (es fs : List Event) → AreEvents (is_readers mode) es → AreEvents (is_readers mode) fs → AreEvents (is_readers mode) (es ++ fs)
both_are mode [] fs first second = second
both_are mode (e ∷ es) fs first second = (first.0, both_are mode es fs first.1 second)

last_is : (mode : Mode) (end : ReaderEnd) (es : List Event) → LastLook end es → AreEvents (is_readers mode) es
last_is mode Stopped es look = same_are mode es (LookRun look.0 ∷ []) look.2 (refl, tt)
last_is mode Silent es none = same_are mode es [] none tt
last_is mode (Ended cause) es none = same_are mode es [] none tt

pub frames_work : (mode : Mode) (c : AcqConfig) (ids : IdMode) (camera : Address) (silence : ℕ) (o n : Outside) (counts : Counts) (end : ReaderEnd) (s t : Token)
    → ReadsFrames mode c ids camera silence o n counts end s t → Works (is_readers mode) s t
frames_work mode c ids camera silence o n counts end s t reads =
    works_each (is_readers mode) s t (reads.turned ++ (reads.last ++ (reads.drained ++ Stop false reads.answer ∷ [])))
    (both_are mode reads.turned (reads.last ++ (reads.drained ++ Stop false reads.answer ∷ []))
    (turns_are mode c (After c (tick reads.begin ∷ [])) reads.made reads.turned reads.on.serves)
    (both_are mode reads.last (reads.drained ++ Stop false reads.answer ∷ []) (last_is mode end reads.last reads.on.looks)
    (both_are mode reads.drained (Stop false reads.answer ∷ [])
    (served_are mode c (After c (inputs_from reads.begin reads.made)) (stop ∷ []) reads.drained reads.drains) (refl, tt))))
    reads.enters

-- ---- the hands

pub no_backs : (s : Token) (gs : List Given) → gs ≡ [] → Backs s gs
no_backs s gs none = subst (Backs s) (sym none) (record { single = λ i. omega arith; backed = tt })
