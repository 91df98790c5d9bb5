-- What a call of the plain board is to the line that makes it.
use Rattle.std.proofs.Common.{◌≡◌, ◌≢◌, ℕ, ◌≤◌, List, [], ◌∷◌, ◌++◌, length, Option, refl, sym, ap, subst, ◌∙◌, inl, inr, arith}
use Rattle.gev_types.specs.Filling.{Filling}
use Rattle.board_machine.specs.declared.events.Entry.{Entry}
use Rattle.board_machine.specs.declared.events.Event.{Event}
use Rattle.board_machine.specs.Places.{times}
use Rattle.board_machine.specs.Machine.{Board, InHand, hand, next, entry}
use Rattle.board_machine.specs.Adding.{entries_of, AddsOf}
use Rattle.board_machine.proofs.Adding.{adds_nothing}
use Rattle.board_machine.specs.Histories.{RunsFrom, after_from}
use Rattle.board_machine.specs.Handout.{handed}
use Rattle.board_machine.proofs.Runs.{stands_lists}
use Rattle.board_machine.proofs.Others.{hand_stays}
use Rattle.board_model.specs.Plain.{PlainState, lying}
use Rattle.script_trace.specs.Trace.{Trace, Part, board, acts, acquirer}
use Rattle.script_trace.specs.Contents.{contents_of, contents_from, FillsFrom}
use Rattle.script_replay.specs.Boards.{LiesAsTold, IsLeftBy, IsReady, ActsAs, Acts}
use Rattle.script_replay.proofs.Quiet.{AreQuiet, contents_stay, quiet_fills, quiet_hands}

-- the contents after more entries
pub contents-append : (c : List (Option Filling)) (g h : List Entry) → contents_from c (g ++ h) ≡ contents_from (contents_from c g) h
contents-append c [] h = refl
contents-append c (e ∷ g) h = contents-append _ g h

-- another actor's hands stay as they are
pub hands_stay : (b : Board) (k n : ℕ) (es : List Event) → n ≢ k → RunsFrom b (entries_of k es) → hand (after_from b (entries_of k es)) n ≡ hand b n
hands_stay b k n [] apart runs = refl
hands_stay b k n (e ∷ es) apart runs = hands_stay (next b (entry k e)) k n es apart runs.1 ∙ hand_stays b k n e runs.0.meets apart

-- what the acquisition has in its hands stays there
pub stays_in_hand : (s : PlainState) (new : Board) (k : ℕ) (Kind : List Event → Type 0) (i : ℕ) → acquirer ≢ k → (called : AddsOf s.board k Kind new) → InHand s.board acquirer i → InHand new acquirer i
stays_in_hand s new k Kind i apart called has =
    let same : hand new acquirer ≡ hand s.board acquirer =
    ap (λ (b : Board). hand b acquirer) called.adds.after ∙ hands_stay s.board k acquirer called.events apart called.adds.runs in
    subst (λ (is : List ℕ). 1 ≤ times i is) (sym same) has

-- the events can stand behind any history that left the board
pub runs_behind : (s : PlainState) (new : Board) (k : ℕ) (Kind : List Event → Type 0) (t : Trace) (called : AddsOf s.board k Kind new) → IsLeftBy s t.entries → RunsFrom (board t) (entries_of k called.events)
runs_behind s new k Kind t called left = subst (λ (b : Board). RunsFrom b (entries_of k called.events)) left.board.state called.adds.runs

-- what lies at a place that nothing was done to
lies_on : (s new : PlainState) (h : List Entry) (told : List (Option Filling)) (i : ℕ) → (InHand s.board acquirer i → InHand new.board acquirer i) → lying new.contents i ≡ lying s.contents i → lying told i ≡ lying (contents_of h) i
    → LiesAsTold s.board s.contents (contents_of h) i → LiesAsTold new.board new.contents told i
lies_on s new h told i hands same told_same (inl e) = inl (same ∙ e ∙ sym told_same)
lies_on s new h told i hands same told_same (inr lifted) = inr (same ∙ lifted.0, hands lifted.1)

-- the board is left by the history with the events, where nothing is done to what lies at the places
pub left_quiet : (s new : PlainState) (k : ℕ) (Kind : List Event → Type 0) (h : List Entry) → acquirer ≢ k → (called : AddsOf s.board k Kind new.board) → AreQuiet called.events → new.contents ≡ s.contents → IsLeftBy s h → IsLeftBy new (h ++ entries_of k called.events)
left_quiet s new k Kind h apart called quiet same left =
    let told : contents_of (h ++ entries_of k called.events) ≡ contents_of h = contents-append _ h (entries_of k called.events) ∙ contents_stay (contents_of h) k called.events quiet in
    record {
      board = stands_lists s.board new.board h k called.events left.board called.adds;
      lies = λ i. lies_on s new h _ i (stays_in_hand s new.board k Kind i apart called) (ap (λ c. lying c i) same) (ap (λ c. lying c i) told) (left.lies i);
    }

-- A call whose events leave alone what lies at the places, and hand nothing out.
pub quiet_acts : (s new : PlainState) (k : ℕ) (Kind : List Event → Type 0) (Line : Trace → Part → Type 0) (text said : List ℕ) → acquirer ≢ k
    → ((es : List Event) → Kind es → AreQuiet es)
    → ((t : Trace) (es : List Event) → Kind es → Line t (acts t k es text))
    → AddsOf s.board k Kind new.board → new.contents ≡ s.contents → said ≡ text → Acts Line k 0 s said new
quiet_acts s new k Kind Line text said apart quiet spells called same is t left =
    let calm : AreQuiet called.events = quiet called.events called.kind in
    record {
      events = called.events;
      spells = subst (λ (w : List ℕ). Line t (acts t k called.events w)) (sym is) (spells t called.events called.kind);
      runs = runs_behind s new.board k Kind t called left;
      fills = quiet_fills (contents_of t.entries) k called.events calm;
      taken = ap length (quiet_hands k called.events calm);
      left = left_quiet s new k Kind t.entries apart called calm same left;
    }

-- the board is ready for the next line
pub ready_by : (s new : PlainState) (k : ℕ) (Kind : List Event → Type 0) → IsReady s → (called : AddsOf s.board k Kind new.board) → ((h : List Entry) → IsLeftBy s h → IsLeftBy new (h ++ entries_of k called.events)) → IsReady new
ready_by s new k Kind ready called leaves = record {
  actors = λ n low. called.actors n (ready.actors n low);
  history = ready.history ++ entries_of k called.events;
  left = leaves ready.history ready.left;
}

pub quiet_ready : (s new : PlainState) (k : ℕ) (Kind : List Event → Type 0) → acquirer ≢ k → ((es : List Event) → Kind es → AreQuiet es) → IsReady s → AddsOf s.board k Kind new.board → new.contents ≡ s.contents → IsReady new
quiet_ready s new k Kind apart quiet ready called same =
    ready_by s new k Kind ready called (λ h left. left_quiet s new k Kind h apart called (quiet called.events called.kind) same left)

-- the caller of the lines isn't the acquisition
pub caller_apart : acquirer ≢ 0
caller_apart e = omega (arith, e)

-- ---- calls that change what lies at the places

-- the board is left by the history with the events, if what lies at the places is what they tell
pub left_by : (s new : PlainState) (k : ℕ) (Kind : List Event → Type 0) (h : List Entry) (called : AddsOf s.board k Kind new.board)
    → ((i : ℕ) → LiesAsTold new.board new.contents (contents_from (contents_of h) (entries_of k called.events)) i) → IsLeftBy s h → IsLeftBy new (h ++ entries_of k called.events)
left_by s new k Kind h called lies left = record {
  board = stands_lists s.board new.board h k called.events left.board called.adds;
  lies = λ i. subst (λ (told : List (Option Filling)). LiesAsTold new.board new.contents told i) (sym (contents-append _ h (entries_of k called.events))) (lies i);
}

-- the same of the board after a call of another actor
pub lies_after : (s : PlainState) (new : Board) (k : ℕ) (Kind : List Event → Type 0) (told : List (Option Filling)) (i : ℕ) → acquirer ≢ k → AddsOf s.board k Kind new → LiesAsTold s.board s.contents told i → LiesAsTold new s.contents told i
lies_after s new k Kind told i apart called (inl e) = inl e
lies_after s new k Kind told i apart called (inr lifted) = inr (lifted.0, stays_in_hand s new k Kind i apart called lifted.1)

pub acts_by : (s new : PlainState) (k count : ℕ) (Kind : List Event → Type 0) (Line : Trace → Part → Type 0) (text said : List ℕ) (called : AddsOf s.board k Kind new.board)
    → ((t : Trace) → IsLeftBy s t.entries → Line t (acts t k called.events text))
    → ((h : List Entry) → IsLeftBy s h → FillsFrom (contents_of h) (entries_of k called.events))
    → length (handed (entries_of k called.events)) ≡ count
    → ((h : List Entry) → IsLeftBy s h → IsLeftBy new (h ++ entries_of k called.events))
    → said ≡ text → Acts Line k count s said new
acts_by s new k count Kind Line text said called spells fills taken leaves is t left = record {
  events = called.events;
  spells = subst (λ (w : List ℕ). Line t (acts t k called.events w)) (sym is) (spells t left);
  runs = runs_behind s new.board k Kind t called left;
  fills = fills t.entries left;
  taken = taken;
  left = leaves t.entries left;
}

-- events that leave alone what lies at the places, behind a history that left the board
pub calm_acts : (s new : PlainState) (k : ℕ) (Kind : List Event → Type 0) (Line : Trace → Part → Type 0) (text said : List ℕ) → acquirer ≢ k → (called : AddsOf s.board k Kind new.board)
    → AreQuiet called.events → ((t : Trace) → IsLeftBy s t.entries → Line t (acts t k called.events text)) → new.contents ≡ s.contents → said ≡ text → Acts Line k 0 s said new
calm_acts s new k Kind Line text said apart called calm spells same is =
    acts_by s new k 0 Kind Line text said called spells (λ h left. quiet_fills (contents_of h) k called.events calm)
    (ap length (quiet_hands k called.events calm)) (λ h left. left_quiet s new k Kind h apart called calm same left) is

-- what is a part of the one line at this trace is one of the other
pub acts_line : (Line Other : Trace → Part → Type 0) (k count : ℕ) (said : List ℕ) (new : PlainState) (t : Trace) → ((part : Part) → Line t part → Other t part) → ActsAs Line k count said new t → ActsAs Other k count said new t
acts_line Line Other k count said new t turned acts_so = record {
  events = acts_so.events;
  spells = turned (acts t k acts_so.events said) acts_so.spells;
  runs = acts_so.runs;
  fills = acts_so.fills;
  taken = acts_so.taken;
  left = acts_so.left;
}

-- a line that does nothing but tell this
pub silent_as : (s : PlainState) (k : ℕ) (Line : Trace → Part → Type 0) (text said : List ℕ) (t : Trace) → acquirer ≢ k → Line t (acts t k [] text) → said ≡ text → IsLeftBy s t.entries → ActsAs Line k 0 said s t
silent_as s k Line text said t apart spells is left =
    let Tells : Trace → Part → Type 0 = λ (u : Trace) (part : Part). part ≡ acts u k [] text in
    let none = adds_nothing s.board k (λ es. es ≡ []) refl in
    acts_line Tells Line k 0 said s t (λ part e. subst (λ (p : Part). Line t p) (sym e) spells)
    (calm_acts s s k (λ es. es ≡ []) Tells text said apart none (subst AreQuiet (sym none.kind) tt) (λ u behind. ap (λ es. acts u k es text) none.kind) refl is t left)
