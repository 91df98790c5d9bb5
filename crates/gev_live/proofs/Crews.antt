-- The lanes as workers that came home, by what each did.
use Rattle.std.proofs.Common.{◌≡◌, ◌⊎◌, inl, inr, ℕ, suc, Bool, ◌≤◌, List, [], ◌∷◌, ◌++◌, refl, sym, ap, subst, arith}
use Rattle.board_machine.specs.declared.events.Entry.{Entry}
use Rattle.board_machine.specs.declared.events.Event.{Event}
use Rattle.board_machine.specs.Places.{times, IsPrefix}
use Rattle.board_machine.specs.Adding.{entries_of}
use Rattle.board_machine.specs.Histories.{RunsFrom, After, own_of}
use Rattle.board_machine.specs.Kinds.{HasNone, is_stop, is_fill_refused}
use Rattle.board_machine.proofs.Ended.{ended_nothing}
use Rattle.board_machine.proofs.Places.{same_self}
use Rattle.acquisition_machine.specs.Runs.{first_state}
use Rattle.buffer_words.specs.Passes.{Token}
use Rattle.buffer_words.specs.Workers.{AreApart, IsChildless, Worker, numbers, IsHome, Hosts, AreChildless, OthersAreApart}
use Rattle.buffer_words.proofs.Working.{are_of_entries}
use Rattle.board_calls.specs.declared.mode.Mode.{Mode}
use Rattle.gev_lanes.specs.declared.parts.ReaderLane.{ReaderLane}
use Rattle.lane_reader.specs.LanesTurns.{ReaderTurn}
use Rattle.gev_live.proofs.Quiet.{own_none}
use Rattle.gev_live.proofs.Splitting.{member_or}
use Rattle.lane_crew.specs.declared.lane_tools.LaneTools.{LaneTools}
use Rattle.lane_crew.specs.Kinds.{is_lanes}
use Rattle.lane_crew.specs.Did.{LaneDid, LanesDid}
use Rattle.live_crew.proofs.Bringing.{bring_home}
use Rattle.gev_live.specs.LanesKinds.{is_strict_lanes}
use Rattle.gev_live.specs.LanesMade.{numbers_in}
use Rattle.gev_live.proofs.LanesApart.{lanes_no_stop}
use Rattle.gev_live.proofs.Strict.{served_are}

-- What the lanes did, in this history.
abbrev pub Did : Mode → ℕ → ℕ → List ReaderTurn → List ReaderLane → List LaneTools → List Entry → Type 0
Did mode n k made us tools h = LanesDid mode n k made us tools h

abbrev lane_worker : (Event → Bool) → ℕ → List Event → Worker
lane_worker kind a events = record { number = a; kind = kind; did = entries_of a events }

-- the lanes as workers of this kind, and then these
abbrev pub lane_workers : (Event → Bool) → (mode : Mode) (n k : ℕ) (made : List ReaderTurn) (us : List ReaderLane) (tools : List LaneTools) (h : List Entry) → Did mode n k made us tools h → List Worker → List Worker
lane_workers kind mode n k made us [] h did rest = rest
lane_workers kind mode n k made us (x ∷ xs) h did rest = lane_worker kind x.pass.number did.0.part.events ∷ lane_workers kind mode n (suc k) made us xs h did.1 rest

pub workers_numbers : (kind : Event → Bool) (mode : Mode) (n k : ℕ) (made : List ReaderTurn) (us : List ReaderLane) (tools : List LaneTools) (h : List Entry) (did : Did mode n k made us tools h) (rest : List Worker)
    → numbers (lane_workers kind mode n k made us tools h did rest) ≡ numbers_in tools ++ numbers rest
workers_numbers kind mode n k made us [] h did rest = refl
workers_numbers kind mode n k made us (x ∷ xs) h did rest = ap (λ l. x.pass.number ∷ l) (workers_numbers kind mode n (suc k) made us xs h did.1 rest)

-- ---- home

pub lanes_home : (front : List Entry) (kind : Event → Bool) (s : Token) (away : List ℕ) (home : List Worker) (mode : Mode) (n k : ℕ) (made : List ReaderTurn) (us : List ReaderLane) (tools : List LaneTools) (h : List Entry)
    → IsPrefix h s.seen → (did : Did mode n k made us tools h) → Hosts front kind s away home → Hosts front kind s away (lane_workers (is_lanes mode) mode n k made us tools h did home)
lanes_home front kind s away home mode n k made us [] h begins did hosts = hosts
lanes_home front kind s away home mode n k made us (x ∷ xs) h begins did hosts =
    bring_home front kind s away (lane_workers (is_lanes mode) mode n (suc k) made us xs h did.1 home) h _
    (lanes_home front kind s away home mode n (suc k) made us xs h begins did.1 hosts) begins did.0.part.home

strict_home : (mode : Mode) (n k : ℕ) (made : List ReaderTurn) (us : List ReaderLane) (x : LaneTools) (h : List Entry) → HasNone is_fill_refused h → (did : LaneDid mode n k made us x h)
    → IsHome h (lane_worker (is_strict_lanes mode) x.pass.number did.part.events)
strict_home mode n k made us x h none did = record {
  ended = did.part.home.ended;
  did = did.part.home.did;
  of_kind = are_of_entries (is_strict_lanes mode) x.pass.number did.part.events
      (served_are mode x.pass.number _ first_state _ did.part.events did.part.serves
      (subst (λ l. HasNone is_fill_refused l) did.part.home.did (own_none is_fill_refused x.pass.number h none)));
}

pub strict_lanes_home : (front : List Entry) (kind : Event → Bool) (s : Token) (away : List ℕ) (home : List Worker) (mode : Mode) (n k : ℕ) (made : List ReaderTurn) (us : List ReaderLane) (tools : List LaneTools) (h : List Entry)
    → IsPrefix h s.seen → HasNone is_fill_refused h → (did : Did mode n k made us tools h) → Hosts front kind s away home → Hosts front kind s away (lane_workers (is_strict_lanes mode) mode n k made us tools h did home)
strict_lanes_home front kind s away home mode n k made us [] h begins none did hosts = hosts
strict_lanes_home front kind s away home mode n k made us (x ∷ xs) h begins none did hosts =
    bring_home front kind s away (lane_workers (is_strict_lanes mode) mode n (suc k) made us xs h did.1 home) h _
    (strict_lanes_home front kind s away home mode n (suc k) made us xs h begins none did.1 hosts) begins (strict_home mode n k made us x h none did.0)

-- ---- kinds

pub lanes_childless : (kind : Event → Bool) (mode : Mode) (n k : ℕ) (made : List ReaderTurn) (us : List ReaderLane) (tools : List LaneTools) (h : List Entry) (did : Did mode n k made us tools h) (rest : List Worker)
    → IsChildless kind → AreChildless rest → AreChildless (lane_workers kind mode n k made us tools h did rest)
lanes_childless kind mode n k made us [] h did rest none others = others
lanes_childless kind mode n k made us (x ∷ xs) h did rest none others = (none, lanes_childless kind mode n (suc k) made us xs h did.1 rest none others)

-- the lanes are apart from these acts
pub lanes_apart : (kind part : Event → Bool) (ks : List ℕ) (mode : Mode) (n k : ℕ) (made : List ReaderTurn) (us : List ReaderLane) (tools : List LaneTools) (h : List Entry) (did : Did mode n k made us tools h) (rest : List Worker)
    → AreApart kind part → OthersAreApart part ks rest → OthersAreApart part ks (lane_workers kind mode n k made us tools h did rest)
lanes_apart kind part ks mode n k made us [] h did rest apart others = others
lanes_apart kind part ks mode n k made us (x ∷ xs) h did rest apart others = (inr apart, lanes_apart kind part ks mode n (suc k) made us xs h did.1 rest apart others)

-- or they are those that do them
pub lanes_among : (kind part : Event → Bool) (ks : List ℕ) (mode : Mode) (n k : ℕ) (made : List ReaderTurn) (us : List ReaderLane) (tools : List LaneTools) (h : List Entry) (did : Did mode n k made us tools h) (rest : List Worker)
    → ((i : ℕ) → times i (numbers_in tools) ≤ times i ks) → OthersAreApart part ks rest → OthersAreApart part ks (lane_workers kind mode n k made us tools h did rest)
lanes_among kind part ks mode n k made us [] h did rest among others = others
lanes_among kind part ks mode n k made us (x ∷ xs) h did rest among others = (
  inl (omega (arith, among x.pass.number, same_self x.pass.number)),
  lanes_among kind part ks mode n (suc k) made us xs h did.1 rest (λ i. omega (arith, among i)) others,
)

-- ---- each lane's own entries

pub lanes_stop_nothing : (mode : Mode) (n k : ℕ) (made : List ReaderTurn) (us : List ReaderLane) (tools : List LaneTools) (h : List Entry) → Did mode n k made us tools h
    → (i : ℕ) → 1 ≤ times i (numbers_in tools) → HasNone is_stop (own_of i h)
lanes_stop_nothing mode n k made us [] h did i member = absurd (omega (arith, member))
lanes_stop_nothing mode n k made us (x ∷ xs) h did i member = go (member_or i x.pass.number (numbers_in xs) member) (λ more. lanes_stop_nothing mode n (suc k) made us xs h did.1 i more)
  where
    go : (i ≡ x.pass.number) ⊎ (1 ≤ times i (numbers_in xs)) → (1 ≤ times i (numbers_in xs) → HasNone is_stop (own_of i h)) → HasNone is_stop (own_of i h)
    go (inl is) later =
        subst (λ j. HasNone is_stop (own_of j h)) (sym is)
        (subst (λ l. HasNone is_stop l) (sym did.0.part.home.did) (lanes_no_stop mode _ did.0.part.home.of_kind))
    go (inr more) later = later more

-- a lane that has ended does nothing more
pub lanes_do_no_more : (mode : Mode) (n k : ℕ) (made : List ReaderTurn) (us : List ReaderLane) (tools : List LaneTools) (h more : List Entry) → Did mode n k made us tools h → RunsFrom (After h) more
    → (i : ℕ) → 1 ≤ times i (numbers_in tools) → own_of i more ≡ []
lanes_do_no_more mode n k made us [] h more did runs i member = absurd (omega (arith, member))
lanes_do_no_more mode n k made us (x ∷ xs) h more did runs i member = go (member_or i x.pass.number (numbers_in xs) member) (λ rest. lanes_do_no_more mode n (suc k) made us xs h more did.1 runs i rest)
  where
    go : (i ≡ x.pass.number) ⊎ (1 ≤ times i (numbers_in xs)) → (1 ≤ times i (numbers_in xs) → own_of i more ≡ []) → own_of i more ≡ []
    go (inl is) later = subst (λ j. own_of j more ≡ []) (sym is) (ended_nothing (After h) x.pass.number more did.0.part.home.ended runs)
    go (inr rest) later = later rest
