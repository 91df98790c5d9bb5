-- Lines that don't drive the acquisition leave it at rest.
use Rattle.std.proofs.Common.{◌≡◌, ◌≢◌, ◌⊎◌, ℕ, ◌≤◌, ◌<◌, List, [], ◌∷◌, ◌++◌, length, set, Option, Some, Result, Ok, Err, IfOk, OnErr, refl, sym, ap, subst, ◌∙◌, inl, inr, ◌==◌, false, ne_eqb}
use Rattle.std.proofs.lemmas.Bool.{cases_eq, cond-false}
use Rattle.std.proofs.lemmas.List.{length-set}
use Rattle.gev_types.specs.Filling.{Filling}
use Rattle.gentl_types.specs.declared.buffer_id.BufferId.{BufferId}
use Rattle.gentl_types.specs.declared.errors.GcError.{GcError}
use Rattle.gentl_types.specs.declared.word.State.TheVariants.{Vacant, Away}
use Rattle.gentl_types.specs.declared.word.Word.{Word}
use Rattle.board_machine.specs.declared.events.Entry.{Entry}
use Rattle.board_machine.specs.declared.events.Event.{Event}
use Rattle.board_machine.specs.declared.events.Event.TheVariants.{LookOut, Enrol, Lay}
use Rattle.board_machine.specs.Places.{times}
use Rattle.board_machine.specs.Machine.{Board, InHand, hand, word_at, entry}
use Rattle.board_machine.specs.Adding.{entries_of, AddsOf}
use Rattle.board_machine.proofs.Adding.{entries_of-append}
use Rattle.board_machine.proofs.Counts.{stands_away, hand_tally}
use Rattle.board_calls.specs.Rounds.{refused_from}
use Rattle.board_calls.specs.Calls.{Announces}
use Rattle.board_machine.specs.Histories.{RunsFrom, after_from, own_of}
use Rattle.board_machine.specs.Owners.{IsCounted}
use Rattle.board_machine.proofs.Runs.{run_owned, owned_from, after-append, runs_front, runs_rest}
use Rattle.board_machine.proofs.Others.{others_run}
use Rattle.board_model.specs.Plain.{PlainState, lying, nothing}
use Rattle.board_model.specs.Holdings.{emptied, fresh, with_empty_records}
use Rattle.acquisition_machine.specs.Blocks.{Given}
use Rattle.acq_core.specs.declared.window.Window.{Window}
use Rattle.acq_core.specs.Receiver.{buffers}
use Rattle.script_trace.specs.Trace.{Trace, board, acquirer}
use Rattle.script_replay.specs.Boards.{IsLeftBy, IsReady}
use Rattle.script_replay.specs.Acquiring.{IsAway, AreAway, IsAtRest, KeepsLifted}
use Rattle.script_replay.proofs.Lines.{hands_stay, caller_apart}
use Rattle.script_replay.proofs.Places.{set_apart, set_nothing}

pub none_own : (k : ℕ) (es : List Event) → acquirer ≢ k → own_of acquirer (entries_of k es) ≡ []
none_own k [] apart = refl
none_own k (e ∷ es) apart =
    cond-false (k == acquirer) (entry k e ∷ own_of acquirer (entries_of k es)) (own_of acquirer (entries_of k es)) (ne_eqb k acquirer (λ e. apart (sym e))) ∙ none_own k es apart

-- events of another actor, that keep what is lifted, leave a buffer where it is
stays_away : (s new : PlainState) (k : ℕ) (es : List Event) (g : Given) → acquirer ≢ k → IsCounted s.board → RunsFrom s.board (entries_of k es) → new.board ≡ after_from s.board (entries_of k es) → KeepsLifted s new → IsAway s g → IsAway new g
stays_away s new k es g apart owned runs after keeps away = record {
  in_hand = subst (λ (is : List ℕ). 1 ≤ times g.place is) (sym (ap (λ (b : Board). hand b acquirer) after ∙ kept.0)) away.in_hand;
  lifted = keeps.lifted g.place away.in_hand away.lifted;
  size = away.size ∙ sym (ap (λ w. w.size) (ap (λ (b : Board). word_at b g.place) after ∙ kept.1 g.place away.in_hand));
  within = subst (λ n. g.place < n) (sym keeps.wide) away.within;
}
  where
    kept : (hand (after_from s.board (entries_of k es)) acquirer ≡ hand s.board acquirer) × ((i : ℕ) → InHand s.board acquirer i → word_at (after_from s.board (entries_of k es)) i ≡ word_at s.board i)
    kept = others_run s.board acquirer (entries_of k es) owned runs (none_own k es apart)

stay_away : (s new : PlainState) (k : ℕ) (es : List Event) (gs : List Given) → acquirer ≢ k → IsCounted s.board → RunsFrom s.board (entries_of k es) → new.board ≡ after_from s.board (entries_of k es) → KeepsLifted s new → AreAway s gs → AreAway new gs
stay_away s new k es [] apart owned runs after keeps away = away
stay_away s new k es (g ∷ gs) apart owned runs after keeps away =
    (stays_away s new k es g apart owned runs after keeps away.0, away.1, stay_away s new k es gs apart owned runs after keeps away.2)

-- A line that is acts of another actor, and keeps what is lifted, leaves the acquisition at rest.
pub rest_by : (k : ℕ) (es : List Event) (s new : PlainState) (m : Window) (t : Trace) → acquirer ≢ k → IsLeftBy s t.entries → RunsFrom (board t) (entries_of k es) → IsLeftBy new (t.entries ++ entries_of k es) → IsReady new → KeepsLifted s new → IsAtRest s m → IsAtRest new m
rest_by k es s new m t apart left runs_so left_new ready keeps rest = record {
  ready = ready;
  config = rest.config;
  inputs = rest.inputs;
  stands = rest.stands;
  no_fill = rest.no_fill;
  no_request = rest.no_request;
  unasked = rest.unasked;
  away = stay_away s new k es (buffers m) apart owned runs after keeps rest.away;
}
  where
    owned : IsCounted s.board
    owned = subst IsCounted (sym left.board.state) (run_owned t.entries left.board.run)

    runs : RunsFrom s.board (entries_of k es)
    runs = subst (λ (b : Board). RunsFrom b (entries_of k es)) (sym left.board.state) runs_so

    after : new.board ≡ after_from s.board (entries_of k es)
    after = left_new.board.state ∙ after-append _ t.entries (entries_of k es) ∙ ap (λ (b : Board). after_from b (entries_of k es)) (sym left.board.state)

-- ---- what keeps what is lifted

pub lifted_same : (s new : PlainState) → new.contents ≡ s.contents → KeepsLifted s new
lifted_same s new same = record { lifted = λ i mine none. ap (λ c. lying c i) same ∙ none; wide = ap length same }

-- a buffer was taken away from its place
pub lifted_gone : (s new : PlainState) (j : ℕ) → new.contents ≡ set s.contents j nothing → KeepsLifted s new
lifted_gone s new j gone = record { lifted = λ i mine none. ap (λ c. lying c i) gone ∙ go i none (cases_eq i j); wide = ap length gone ∙ length-set s.contents j nothing }
  where
    go : (i : ℕ) → lying s.contents i ≡ nothing → (i ≡ j) ⊎ (i ≢ j) → lying (set s.contents j nothing) i ≡ nothing
    go i none (inl e) = ap (λ n. lying (set s.contents j nothing) n) e ∙ set_nothing s.contents j
    go i none (inr apart) = set_apart s.contents j i nothing apart ∙ none

-- a buffer was put at a place that isn't in the acquisition's hands
pub lifted_put : (s new : PlainState) (j : ℕ) (x : Option Filling) → ((i : ℕ) → InHand s.board acquirer i → i ≢ j) → new.contents ≡ set s.contents j x → KeepsLifted s new
lifted_put s new j x others put = record {
  lifted = λ i mine none. ap (λ c. lying c i) put ∙ set_apart s.contents j i x (others i mine) ∙ none;
  wide = ap length put ∙ length-set s.contents j x;
}

-- a buffer that lay at its place was lifted and put back with another record
pub lifted_back : (s between new : PlainState) (j : ℕ) (f old : Filling) → lying s.contents j ≡ Some old → between.contents ≡ set s.contents j nothing → new.contents ≡ set between.contents j (Some f) → KeepsLifted s new
lifted_back s between new j f old lies gone put = record {
  lifted = λ i mine none. ap (λ c. lying c i) (put ∙ ap (λ c. set c j (Some f)) gone) ∙ set_apart (set s.contents j nothing) j i (Some f) (other i none) ∙ set_apart s.contents j i nothing (other i none) ∙ none;
  wide = ap length put ∙ length-set between.contents j (Some f) ∙ ap length gone ∙ length-set s.contents j nothing;
}
  where
    other : (i : ℕ) → lying s.contents i ≡ nothing → i ≢ j
    other i none e = let both : Some old ≡ nothing = sym lies ∙ ap (λ n. lying s.contents n) (sym e) ∙ none in cc

-- buffers were given the empty record
none_emptied : (c : List (Option Filling)) (j i : ℕ) → lying c i ≡ nothing → lying (set c j (emptied (lying c j))) i ≡ nothing
none_emptied c j i none = go (cases_eq i j)
  where
    go : (i ≡ j) ⊎ (i ≢ j) → lying (set c j (emptied (lying c j))) i ≡ nothing
    go (inl e) =
        let none_there : lying c j ≡ nothing = ap (λ n. lying c n) (sym e) ∙ none in
        ap (λ n. lying (set c j (emptied (lying c j))) n) e ∙ ap (λ o. lying (set c j (emptied o)) j) none_there ∙ set_nothing c j
    go (inr apart) = set_apart c j i (emptied (lying c j)) apart ∙ none

all_emptied : (is : List ℕ) (c : List (Option Filling)) (i : ℕ) → lying c i ≡ nothing → lying (with_empty_records is c) i ≡ nothing
all_emptied [] c i none = none
all_emptied (j ∷ is) c i none = all_emptied is (set c j (emptied (lying c j))) i (none_emptied c j i none)

emptied_wide : (is : List ℕ) (c : List (Option Filling)) → length (with_empty_records is c) ≡ length c
emptied_wide [] c = refl
emptied_wide (j ∷ is) c = emptied_wide is (set c j (emptied (lying c j))) ∙ length-set c j (emptied (lying c j))

pub lifted_emptied : (s new : PlainState) (is : List ℕ) → new.contents ≡ with_empty_records is s.contents → KeepsLifted s new
lifted_emptied s new is now = record {
  lifted = λ i mine none. ap (λ c. lying c i) now ∙ all_emptied is s.contents i none;
  wide = ap length now ∙ emptied_wide is s.contents;
}

-- ---- an announce

not_vacant : (w : Word) → w.state ≡ Away → w.state ≡ Vacant → ⊥
not_vacant w away vacant = let both : Away ≡ Vacant = sym away ∙ vacant in cc

-- a place that takes a new buffer is in no hand of the acquisition
enrolled_apart : (b : Board) (id : BufferId) (size : ℕ) (words : List Word) (i : ℕ) → IsCounted b → RunsFrom b (entries_of 0 (refused_from 0 size words ++ Enrol id.place size (Ok id.generation) ∷ Lay id.place ∷ [])) → InHand b acquirer i → i ≢ id.place
enrolled_apart b id size words i owned runs mine e =
    not_vacant (word_at before id.place) (stands_away before id.place (owned_from b refused owned front) (hand_tally before acquirer id.place there)) rest.0.meets.3.0
  where
    refused : List Entry
    refused = entries_of 0 (refused_from 0 size words)

    before : Board
    before = after_from b refused

    split : RunsFrom b (refused ++ entries_of 0 (Enrol id.place size (Ok id.generation) ∷ Lay id.place ∷ []))
    split = subst (λ (h : List Entry). RunsFrom b h) (entries_of-append 0 (refused_from 0 size words) (Enrol id.place size (Ok id.generation) ∷ Lay id.place ∷ [])) runs

    front : RunsFrom b refused
    front = runs_front b refused (entries_of 0 (Enrol id.place size (Ok id.generation) ∷ Lay id.place ∷ [])) split

    rest : RunsFrom before (entries_of 0 (Enrol id.place size (Ok id.generation) ∷ Lay id.place ∷ []))
    rest = runs_rest b refused (entries_of 0 (Enrol id.place size (Ok id.generation) ∷ Lay id.place ∷ [])) split

    there : InHand before acquirer id.place
    there = subst (λ n. 1 ≤ times n (hand before acquirer)) e (subst (λ (is : List ℕ). 1 ≤ times i is) (sym (hands_stay b 0 acquirer (refused_from 0 size words) caller_apart front)) mine)

pub lifted_announced : (answer : Result BufferId GcError) (s new : PlainState) (size : ℕ) → IsReady s → AddsOf s.board 0 (Announces size answer) new.board
    → IfOk answer (λ id. new.contents ≡ set s.contents id.place (Some (fresh size))) → OnErr answer (new.contents ≡ s.contents) → KeepsLifted s new
lifted_announced (Ok id) s new size ready called put same =
    let owned : IsCounted s.board = subst IsCounted (sym ready.left.board.state) (run_owned ready.history ready.left.board.run) in
    let runs : RunsFrom s.board (entries_of 0 (LookOut called.kind.1.2.output false ∷ refused_from 0 size called.kind.1.0 ++ Enrol id.place size (Ok id.generation) ∷ Lay id.place ∷ [])) =
    subst (λ (es : List Event). RunsFrom s.board (entries_of 0 es)) called.kind.1.2.is called.adds.runs in
    lifted_put s new id.place (Some (fresh size)) (λ i mine. enrolled_apart s.board id size called.kind.1.0 i owned runs.1 mine) put
lifted_announced (Err refusal) s new size ready called put same = lifted_same s new same
