-- The laws on whose the entries of a history are, where a host splits workers off and joins them again.
use Rattle.std.specs.Prelude.{◌≡◌, ℕ, ◌≤◌, Bool, true, List, [], ◌∷◌, ◌++◌}
use Rattle.board_machine.specs.declared.events.Entry.{Entry}
use Rattle.board_machine.specs.declared.events.Event.{Event}
use Rattle.board_machine.specs.declared.events.Event.TheVariants.{Split, Join}
use Rattle.board_machine.specs.Places.{times}
use Rattle.board_machine.specs.Machine.{IsActor}
use Rattle.board_machine.specs.Histories.{Run, After, own_of}
use Rattle.board_machine.specs.Actors.{born}
use Rattle.board_machine.specs.Laws.{IsEnded}
use Rattle.buffer_words.specs.Passes.{Token, own, Enters, GrowsTo}
use Rattle.buffer_words.specs.Several.{EntersEach, BearNone}
use Rattle.buffer_words.specs.Workers.{AreOf, AreEvents, Works, Worker, numbers, Hosts, AreChildless, HostedAll}

-- A worker's calls, one after another.
abbrev pub WorksCompose : Type 0
WorksCompose = (kind : Event → Bool) (s t u : Token) (events : List Event) → Works kind s t → AreEvents kind events → EntersEach t events u → Works kind s u

-- All that a worker did which had done nothing before.
abbrev pub NewWorkersDoTheirKind : Type 0
NewWorkersDoTheirKind = (kind : Event → Bool) (s t : Token) → own s ≡ [] → Works kind s t → AreOf kind (own t)

abbrev pub HostsBegin : Type 0
HostsBegin = (kind : Event → Bool) (s : Token) → s.number ≡ 0 → Run s.seen → born (own s) ≡ [] → Hosts s.seen kind s [] []

abbrev pub HostsSplit : Type 0
HostsSplit = (front : List Entry) (kind : Event → Bool) (s t : Token) (away : List ℕ) (home : List Worker) (n : ℕ)
    → Hosts front kind s away home → kind (Split n) ≡ true → Enters s (Split n) t → Hosts front kind t (away ++ n ∷ []) home

-- the worker that was split off as this pass, and came back as that one
abbrev pub worker_of : (Event → Bool) → Token → Token → Worker
worker_of acts given worked = record { number = given.number; kind = acts; did = own worked }

abbrev pub HostsJoin : Type 0
HostsJoin = (front : List Entry) (kind acts : Event → Bool) (s t given worked : Token) (away : List ℕ) (home : List Worker)
    → Hosts front kind s away home → own given ≡ [] → Works acts given worked → kind (Join worked.number) ≡ true → Enters s (Join worked.number) t
    → own_of worked.number t.seen ≡ own worked → IsEnded (After t.seen) worked.number → Hosts front kind t away (worker_of acts given worked ∷ home)

abbrev pub HostsAct : Type 0
HostsAct = (front : List Entry) (kind : Event → Bool) (s t : Token) (away : List ℕ) (home : List Worker) (events : List Event)
    → Hosts front kind s away home → AreEvents kind events → BearNone events → EntersEach s events t → Hosts front kind t away home

abbrev pub HostsSeeMore : Type 0
HostsSeeMore = (front : List Entry) (kind : Event → Bool) (s t : Token) (away : List ℕ) (home : List Worker)
    → Hosts front kind s away home → GrowsTo s t → Run t.seen → Hosts front kind t away home

abbrev pub HostedHistoriesAreTheirs : Type 0
HostedHistoriesAreTheirs = (front : List Entry) (kind : Event → Bool) (s : Token) (away : List ℕ) (home : List Worker)
    → Hosts front kind s away home → IsActor (After s.seen) 0 → AreChildless home → ((n : ℕ) → 1 ≤ times n away → 1 ≤ times n (numbers home))
    → HostedAll front kind s.seen home
