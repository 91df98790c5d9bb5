-- Where fewer frames were handed out than asked, and nothing failed, the output is empty.
use Rattle.std.proofs.Common.{◌≡◌, ◌⊎◌, inl, inr, ℕ, ◌==◌, Bool, true, false, List, [], ◌∷◌, Option, Result, Ok, Err, refl, sym, ap, subst, ◌∙◌}
use Rattle.gev_types.specs.declared.memory.NoMemory as memory
use Rattle.board_machine.specs.declared.events.Entry.{Entry}
use Rattle.board_machine.specs.declared.events.Event.{Event}
use Rattle.board_machine.specs.declared.events.Event.TheVariants.{LookRun, LookOut, Enrol, Lay, Grab, Pool, Start, Split, Join}
use Rattle.board_machine.specs.Histories.{After, own_of}
use Rattle.board_machine.specs.Kinds.{HasNone, is_stop}
use Rattle.board_machine.specs.Adding.{entries_of}
use Rattle.board_machine.proofs.Runs.{own_of-append}
use Rattle.acquisition_machine.specs.declared.config.AcqConfig.{AcqConfig}
use Rattle.buffer_words.specs.Passes.{Token, own}
use Rattle.buffer_words.specs.Workers.{AreOf, AreEvents, Works, Worker, Hosts}
use Rattle.buffer_words.proofs.Working.{works_enters, works_each, works_then, works_own}
use Rattle.camera_machine.specs.Camera.{Camera}
use Rattle.gev_status.specs.declared.status.Status.{Status}
use Rattle.gev_serve.specs.declared.ends.ServeEnd.{ServeEnd}
use Rattle.gev_serve.specs.declared.ends.ServeEnd.TheVariants as serves
use Rattle.gev_serve.specs.Wires.{Wire}
use Rattle.gev_serve.specs.Turns.{Served, looks_in}
use Rattle.gev_serve.specs.Serving.{ServesOn, ServesTo}
use Rattle.board_calls.specs.declared.mode.Mode.{Mode}
use Rattle.gev_control.specs.declared.acq_end.AcqEnd.{AcqEnd}
use Rattle.gev_control.specs.declared.acq_end.AcqEnd.TheVariants as reads
use Rattle.gev_acq.specs.Turns.{Turned}
use Rattle.gev_apply.specs.Applied.{IsEnough}
use Rattle.gev_acq.specs.History.{LiveReading}
use Rattle.live_crew.specs.Prepared.{Prepares, SawOnly}
use Rattle.live_crew.specs.Kinds.{is_hosts}
use Rattle.live_crew.specs.Stops.{StopsIf}
use Rattle.gev_serve.specs.Work.{has_failed, most_turns, ServesAndStops}
use Rattle.gev_live.specs.History.{Crew, LiveHistory}
use Rattle.gev_live.specs.Endings.{taken_of, camera_status, status_by, is_told, FailsLast}
use Rattle.gev_live.specs.Parts.{LiveApplication}
use Rattle.gev_live.proofs.Quiet.{is_beginning, beginning_are, none_both, own_none}
use Rattle.gev_live.proofs.Emptied.{emptied}

-- ---- the camera stops nothing where it didn't fail

abbrev pub is_look : Event → Bool
is_look (LookRun run) = true
is_look _ = false

looks_are : (made : List Served) → AreEvents is_look (looks_in made)
looks_are [] = tt
looks_are (t ∷ made) = (refl, looks_are made)

on_looks : (s now : Camera) (v w : Wire) (told now_told : Option (List ℕ)) (p q : Token) (n : ℕ) → ServesOn s now v w told now_told p q n → Works is_look p q
on_looks s now v w told now_told p q n on = works_each is_look p q (looks_in on.made) (looks_are on.made) on.on.entries

serves_looks : (end : ServeEnd) (s new : Camera) (v w : Wire) (told now_told : Option (List ℕ)) (p q : Token) (most : ℕ) → has_failed end ≡ false → ServesTo end s new v w told now_told p q most → Works is_look p q
serves_looks serves.Stopped s new v w told now_told p q most well does =
    works_then is_look p does.middle q (on_looks s new v w told now_told p does.middle does.n does.on) (works_enters is_look does.middle q (LookRun does.run) refl does.look)
serves_looks serves.Spent s new v w told now_told p q most well does = on_looks s new v w told now_told p q most does
serves_looks serves.NoMemory s new v w told now_told p q most well does = absurd (cc)
serves_looks serves.Fault s new v w told now_told p q most well does = absurd (cc)

not_stopped : (over : Bool) (s t : Token) → over ≡ false → StopsIf over s t → t ≡ s
not_stopped true s t e stops = absurd (cc)
not_stopped false s t e stops = stops

look_no_stop : (event : Event) → is_look event ≡ true → is_stop event ≡ false
look_no_stop (LookRun run) is = refl
look_no_stop _ is = absurd (cc)

looks_no_stop : (es : List Entry) → AreOf is_look es → HasNone is_stop es
looks_no_stop [] are = tt
looks_no_stop (e ∷ es) are = (look_no_stop e.event are.0, looks_no_stop es are.1)

pub camera_stops_nothing : (end : ServeEnd) (s : Camera) (v w : Wire) (told now_told : Option (List ℕ)) (p q : Token) → has_failed end ≡ false → own p ≡ [] → ServesAndStops end s v w told now_told p q → HasNone is_stop (own q)
camera_stops_nothing end s v w told now_told p q well new does =
    looks_no_stop (own q) (works_own is_look p q new
    (subst (λ t. Works is_look p t) (sym (not_stopped (has_failed end) does.middle q well does.stops))
    (serves_looks end s does.camera v w told now_told p does.middle most_turns well does.serves)))

-- ---- nor does the host

host_no_stop : (event : Event) → is_hosts event ≡ true → is_stop event ≡ false
host_no_stop (Split n) is = refl
host_no_stop (Join n) is = refl
host_no_stop _ is = absurd (cc)

hosts_no_stop : (es : List Entry) → AreOf is_hosts es → HasNone is_stop es
hosts_no_stop [] are = tt
hosts_no_stop (e ∷ es) are = (host_no_stop e.event are.0, hosts_no_stop es are.1)

begin_no_stop : (event : Event) → is_beginning event ≡ true → is_stop event ≡ false
begin_no_stop (LookOut output closed) is = refl
begin_no_stop (Enrol place size answer) is = refl
begin_no_stop (Lay place) is = refl
begin_no_stop (Grab place generation answer) is = refl
begin_no_stop (Pool place) is = refl
begin_no_stop (Start answer) is = refl
begin_no_stop _ is = absurd (cc)

begins_no_stop : (n : ℕ) (es : List Event) → AreEvents is_beginning es → HasNone is_stop (entries_of n es)
begins_no_stop n [] are = tt
begins_no_stop n (e ∷ es) are = (begin_no_stop e are.0, begins_no_stop n es are.1)

pub host_stops_nothing : (size buffers : ℕ) (s u : Token) (away : List ℕ) (home : List Worker) → SawOnly (Prepares size buffers) s → Hosts s.seen is_hosts u away home → HasNone is_stop (own_of 0 u.seen)
host_stops_nothing size buffers s u away home saw hosts =
    subst (λ l. HasNone is_stop l) (sym (ap (own_of 0) hosts.seen ∙ own_of-append 0 s.seen hosts.since))
    (none_both is_stop (own_of 0 s.seen) (own_of 0 hosts.since)
    (own_none is_stop 0 s.seen (subst (λ l. HasNone is_stop l) (sym saw.seen) (begins_no_stop 0 saw.events (beginning_are size buffers saw.events saw.kind))))
    (hosts_no_stop (own_of 0 hosts.since) hosts.of_kind))

-- ---- an answer with which all is written

abbrev pub IsWell : {E : Type 0} → ServeEnd → Result ℕ E → Type 0
IsWell served (Ok taken) = has_failed served ≡ false
IsWell served (Err error) = ⊥

camera_well : {E : Type 0} (served : ServeEnd) (end : AcqEnd) (frames turns : ℕ) (answer : Result ℕ E) → is_told (camera_status served end frames turns answer) ≡ true → IsWell served answer
camera_well serves.Stopped end frames turns (Ok taken) told = refl
camera_well serves.Stopped end frames turns (Err error) told = absurd (cc)
camera_well serves.Fault end frames turns answer told = absurd (cc)
camera_well serves.NoMemory end frames turns answer told = absurd (cc)
camera_well serves.Spent end frames turns (Ok taken) told = refl
camera_well serves.Spent end frames turns (Err error) told = absurd (cc)

told_well : {E : Type 0} (served : ServeEnd) (end : AcqEnd) (frames turns : ℕ) (answer : Result ℕ E) → is_told (status_by served end frames turns answer) ≡ true → IsWell served answer
told_well served reads.Stopped frames turns answer told = camera_well served reads.Stopped frames turns answer told
told_well served reads.Spent frames turns answer told = camera_well served reads.Spent frames turns answer told
told_well served reads.Fault frames turns answer told = absurd (cc)
told_well served (reads.NoAnswer req) frames turns answer told = camera_well served (reads.NoAnswer req) frames turns answer told
told_well served (reads.Refused code) frames turns answer told = camera_well served (reads.Refused code) frames turns answer told

first_told : (first answer : Status) → (answer ≡ first) ⊎ ((is_told first ≡ true) × FailsLast answer) → is_told answer ≡ true → is_told first ≡ true
first_told first answer (inl e) told = ap is_told (sym e) ∙ told
first_told first answer (inr fails) told = fails.0

pub all_or_empty : (mode : Mode) (c : AcqConfig) (buffers : ℕ) (k : Crew) (served : ServeEnd) (end : AcqEnd) (made : List Turned) (told now : Option (List ℕ)) (frames turns : ℕ) (lines : List ℕ) (applied : Result ℕ memory.NoMemory) (answer : Status) (h : List Entry)
    → LiveHistory mode buffers k h → LiveReading mode c k.reader end made h → LiveApplication mode told now frames k.application lines applied h
    → (has_failed served ≡ false → HasNone is_stop (own_of k.camera h)) → HasNone is_stop (own_of 0 h)
    → (answer ≡ status_by served end frames turns applied) ⊎ ((is_told (status_by served end frames turns applied) ≡ true) × FailsLast answer) → is_told answer ≡ true
    → (taken_of applied ≡ frames) ⊎ ((After h).out ≡ [])
all_or_empty mode c buffers k served end made told now frames turns lines (Ok taken) answer h history reading application camera host cause is = go application.told_lines.2
  where
    well : has_failed served ≡ false
    well = told_well served end frames turns (Ok taken) (first_told (status_by served end frames turns (Ok taken)) answer cause is)

    go : IsEnough frames taken application.made → (taken ≡ frames) ⊎ ((After h).out ≡ [])
    go (inl all) = inl all.0
    go (inr stopped) = inr (emptied mode c buffers k end made (taken == frames) application.made h history reading application.takes stopped (camera well) host)
all_or_empty mode c buffers k served end made told now frames turns lines (Err error) answer h history reading application camera host cause is =
    absurd (told_well served end frames turns (Err error) (first_told (status_by served end frames turns (Err error)) answer cause is))
