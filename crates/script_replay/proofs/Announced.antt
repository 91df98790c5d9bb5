-- A buffer that comes to a place, and one that is taken away.
use Rattle.std.proofs.Common.{◌≡◌, ◌≢◌, ℕ, zero, suc, ◌<◌, false, List, [], ◌∷◌, ◌++◌, length, set, codes, Option, Some, Result, Ok, Err, IfOk, OnErr, refl, sym, ap, subst, ◌∙◌, inl, inr, arith}
use Rattle.std.proofs.lemmas.List.{get_or-set_same}
use Rattle.gev_types.specs.Filling.{Filling}
use Rattle.gev_types.specs.Limits.{place_count}
use Rattle.gentl_types.specs.declared.buffer_id.BufferId.{BufferId}
use Rattle.gentl_types.specs.declared.errors.GcError.{GcError}
use Rattle.gentl_types.specs.declared.errors.GcError.TheVariants.{OutOfMemory}
use Rattle.gentl_types.specs.declared.word.Word.{Word}
use Rattle.gentl_types.specs.declared.word.State.TheVariants.{Held}
use Rattle.board_machine.specs.declared.events.Entry.{Entry}
use Rattle.board_machine.specs.declared.events.Event.{Event}
use Rattle.board_machine.specs.declared.events.Event.TheVariants.{LookOut, Enrol, Grab, Lay, Vacate}
use Rattle.board_machine.specs.Machine.{Board, word_at, vacant, next, entry}
use Rattle.board_machine.specs.Adding.{entries_of, AddsOf}
use Rattle.board_machine.specs.Histories.{RunsFrom, after_from}
use Rattle.board_machine.specs.Handout.{handed}
use Rattle.board_machine.proofs.Adding.{entries_of-append}
use Rattle.board_machine.proofs.Handed.{handed-append}
use Rattle.board_machine.proofs.Runs.{after-append, runs_rest}
use Rattle.board_calls.specs.Rounds.{refused_from}
use Rattle.board_calls.specs.Calls.{Announces, Revokes}
use Rattle.board_model.specs.Plain.{PlainState, lying, nothing, AreKept}
use Rattle.board_model.specs.Holdings.{fresh}
use Rattle.script_trace.specs.Answers.{id_text}
use Rattle.script_trace.specs.BoardLines.{AnnounceLine}
use Rattle.script_trace.specs.Contents.{contents_of, contents_from, FillsFrom}
use Rattle.script_replay.specs.Boards.{LiesAsTold, IsLeftBy, IsReady, Acts}
use Rattle.script_replay.proofs.Quiet.{contents_stay, quiet_refused, quiet_fills, quiet_hands, announce_quiet}
use Rattle.script_replay.proofs.Places.{set_read, set_nothing, lies_set, told_wide}
use Rattle.script_replay.proofs.Lines.{contents-append, left_by, lies_after, acts_by, ready_by, quiet_acts, quiet_ready, caller_apart}

-- ---- revoke

-- what a revoke that is done adds
abbrev pub taken_away : BufferId → List Event
taken_away id = Grab id.place id.generation (Ok tt) ∷ Vacate id.place ∷ []

pub revoke_leaves : (T : Type 0) (s new : PlainState) (id : BufferId) (buffer : T) (h : List Entry) (called : AddsOf s.board 0 (Revokes {T = T} id (Ok buffer)) new.board) → new.contents ≡ set s.contents id.place nothing → IsLeftBy s h → IsLeftBy new (h ++ entries_of 0 called.events)
revoke_leaves T s new id buffer h called gone left = left_by s new 0 (Revokes {T = T} id (Ok buffer)) h called lies left
  where
    lies : (i : ℕ) → LiesAsTold new.board new.contents (contents_from (contents_of h) (entries_of 0 called.events)) i
    lies i =
        subst (λ (es : List Event). LiesAsTold new.board new.contents (contents_from (contents_of h) (entries_of 0 es)) i) (sym called.kind.1)
        (subst (λ (c : List (Option Filling)). LiesAsTold new.board c (set (contents_of h) id.place nothing) i) (sym gone)
        (lies_set new.board s.contents (contents_of h) id.place i nothing (set_nothing s.contents id.place ∙ sym (set_nothing (contents_of h) id.place))
        (lies_after s new.board 0 (Revokes {T = T} id (Ok buffer)) (contents_of h) i caller_apart called (left.lies i))))

pub revoke_fills : (T : Type 0) (s : PlainState) (new : Board) (id : BufferId) (buffer : T) (h : List Entry) (called : AddsOf s.board 0 (Revokes {T = T} id (Ok buffer)) new) → FillsFrom (contents_of h) (entries_of 0 called.events)
revoke_fills T s new id buffer h called = subst (λ (es : List Event). FillsFrom (contents_of h) (entries_of 0 es)) (sym called.kind.1) (tt, (tt, tt))

pub revoke_hands : (T : Type 0) (s : PlainState) (new : Board) (id : BufferId) (buffer : T) (called : AddsOf s.board 0 (Revokes {T = T} id (Ok buffer)) new) → length (handed (entries_of 0 called.events)) ≡ 0
revoke_hands T s new id buffer called = ap (λ es. length (handed (entries_of 0 es))) called.kind.1

-- ---- announce

-- the places that refuse, and the one that takes the buffer
abbrev pub brought : BufferId → ℕ → List Word → List Event
brought id size words = refused_from 0 size words ++ Enrol id.place size (Ok id.generation) ∷ Lay id.place ∷ []

-- what an announce that is done adds
abbrev pub announced : BufferId → ℕ → List Word → List ℕ → List Event
announced id size words output = LookOut output false ∷ brought id size words

told_then : (c : List (Option Filling)) (k : ℕ) (es fs : List Event) → contents_from c (entries_of k (es ++ fs)) ≡ contents_from (contents_from c (entries_of k es)) (entries_of k fs)
told_then c k es fs = ap (λ h. contents_from c h) (entries_of-append k es fs) ∙ contents-append c (entries_of k es) (entries_of k fs)

told_announced : (c : List (Option Filling)) (id : BufferId) (size : ℕ) (words : List Word) (output : List ℕ) → contents_from c (entries_of 0 (announced id size words output)) ≡ set c id.place (Some (fresh size))
told_announced c id size words output =
    told_then c 0 (refused_from 0 size words) (Enrol id.place size (Ok id.generation) ∷ Lay id.place ∷ [])
    ∙ ap (λ d. set d id.place (Some (fresh size))) (contents_stay c 0 (refused_from 0 size words) (quiet_refused 0 size words))

after_then : (b : Board) (k : ℕ) (es fs : List Event) → after_from b (entries_of k (es ++ fs)) ≡ after_from (after_from b (entries_of k es)) (entries_of k fs)
after_then b k es fs = ap (λ h. after_from b h) (entries_of-append k es fs) ∙ after-append b (entries_of k es) (entries_of k fs)

runs_then : (b : Board) (k : ℕ) (es fs : List Event) → RunsFrom b (entries_of k (es ++ fs)) → RunsFrom (after_from b (entries_of k es)) (entries_of k fs)
runs_then b k es fs runs = runs_rest b (entries_of k es) (entries_of k fs) (subst (λ (h : List Entry). RunsFrom b h) (entries_of-append k es fs) runs)

-- the place that took the buffer is one of the 15
brought_below : (b : Board) (id : BufferId) (size : ℕ) (words : List Word) (output : List ℕ) → RunsFrom b (entries_of 0 (announced id size words output)) → id.place < place_count
brought_below b id size words output runs =
    (runs_then b 0 (refused_from 0 size words) (Enrol id.place size (Ok id.generation) ∷ Lay id.place ∷ []) runs.1).0.meets.0

length-set_word : (ws : List Word) (i : ℕ) (w : Word) → length (set ws i w) ≡ length ws
length-set_word [] i w = refl
length-set_word (v ∷ ws) zero w = refl
length-set_word (v ∷ ws) (suc i) w = ap suc (length-set_word ws i w)

-- a buffer that was just laid is the application's
laid_held : (b : Board) (k i : ℕ) → length (next b (entry k (Lay i))).words ≡ place_count → i < place_count → (word_at (next b (entry k (Lay i))) i).state ≡ Held
laid_held b k i wide below =
    let there : i < length b.words = omega (arith, wide, below, length-set_word b.words i (record (word_at b i) { state = Held })) in
    ap (λ w. w.state) (get_or-set_same b.words i (record (word_at b i) { state = Held }) vacant there)

pub announce_leaves : (s new : PlainState) (id : BufferId) (size : ℕ) (h : List Entry) (called : AddsOf s.board 0 (Announces size (Ok id)) new.board) → new.contents ≡ set s.contents id.place (Some (fresh size))
    → AreKept new → length new.board.words ≡ place_count → IsLeftBy s h → IsLeftBy new (h ++ entries_of 0 called.events)
announce_leaves s new id size h called put kept wide left = left_by s new 0 (Announces size (Ok id)) h called lies left
  where
    words : List Word
    words = called.kind.1.0

    output : List ℕ
    output = called.kind.1.2.output

    is : called.events ≡ announced id size words output
    is = called.kind.1.2.is

    refused : Board
    refused = after_from s.board (entries_of 0 (refused_from 0 size words))

    enrolled : Board
    enrolled = next refused (entry 0 (Enrol id.place size (Ok id.generation)))

    runs : RunsFrom s.board (entries_of 0 (announced id size words output))
    runs = subst (λ (es : List Event). RunsFrom s.board (entries_of 0 es)) is called.adds.runs

    below : id.place < place_count
    below = brought_below s.board id size words output runs

    laid : new.board ≡ next enrolled (entry 0 (Lay id.place))
    laid =
        called.adds.after ∙ ap (λ es. after_from s.board (entries_of 0 es)) is
        ∙ after_then s.board 0 (refused_from 0 size words) (Enrol id.place size (Ok id.generation) ∷ Lay id.place ∷ [])

    held : (word_at new.board id.place).state ≡ Held
    held =
        subst (λ (b : Board). (word_at b id.place).state ≡ Held) (sym laid)
        (laid_held enrolled 0 id.place (subst (λ (b : Board). length b.words ≡ place_count) laid wide) below)

    has : lying new.contents id.place ≢ nothing
    has = kept.held id.place held

    there : lying (set s.contents id.place (Some (fresh size))) id.place ≡ lying (set (contents_of h) id.place (Some (fresh size))) id.place
    there = elim (set_read s.contents id.place (Some (fresh size))) [
      | inl e ↦ e ∙ sym (get_or-set_same (contents_of h) id.place (Some (fresh size)) nothing (subst (λ n. id.place < n) (sym (told_wide h)) below))
      | inr none ↦ absurd (has (ap (λ c. lying c id.place) put ∙ none))
    ]

    lies : (i : ℕ) → LiesAsTold new.board new.contents (contents_from (contents_of h) (entries_of 0 called.events)) i
    lies i =
        subst (λ (c : List (Option Filling)). LiesAsTold new.board new.contents c i) (sym (ap (λ es. contents_from (contents_of h) (entries_of 0 es)) is ∙ told_announced (contents_of h) id size words output))
        (subst (λ (c : List (Option Filling)). LiesAsTold new.board c (set (contents_of h) id.place (Some (fresh size))) i) (sym put)
        (lies_set new.board s.contents (contents_of h) id.place i (Some (fresh size)) there
        (lies_after s new.board 0 (Announces size (Ok id)) (contents_of h) i caller_apart called (left.lies i))))

fills_then : (c : List (Option Filling)) (k : ℕ) (es fs : List Event) → FillsFrom c (entries_of k es) → FillsFrom c (entries_of k fs) → FillsFrom c (entries_of k (es ++ fs))
fills_then c k [] fs first second = second
fills_then c k (e ∷ es) fs first second = (first.0, fills_then c k es fs first.1 second)

hands_then : (k : ℕ) (es fs : List Event) → handed (entries_of k es) ≡ [] → handed (entries_of k fs) ≡ [] → handed (entries_of k (es ++ fs)) ≡ []
hands_then k es fs first second = ap handed (entries_of-append k es fs) ∙ handed-append (entries_of k es) (entries_of k fs) ∙ ap (λ is. is ++ handed (entries_of k fs)) first ∙ second

pub announce_fills : (s : PlainState) (new : Board) (id : BufferId) (size : ℕ) (h : List Entry) (called : AddsOf s.board 0 (Announces size (Ok id)) new) → FillsFrom (contents_of h) (entries_of 0 called.events)
announce_fills s new id size h called =
    subst (λ (es : List Event). FillsFrom (contents_of h) (entries_of 0 es)) (sym called.kind.1.2.is)
    (tt, fills_then (contents_of h) 0 (refused_from 0 size called.kind.1.0) (Enrol id.place size (Ok id.generation) ∷ Lay id.place ∷ []) (quiet_fills (contents_of h) 0 (refused_from 0 size called.kind.1.0) (quiet_refused 0 size called.kind.1.0)) (tt, (tt, tt)))

pub announce_hands : (s : PlainState) (new : Board) (id : BufferId) (size : ℕ) (called : AddsOf s.board 0 (Announces size (Ok id)) new) → length (handed (entries_of 0 called.events)) ≡ 0
announce_hands s new id size called =
    ap (λ es. length (handed (entries_of 0 es))) called.kind.1.2.is
    ∙ ap length (hands_then 0 (refused_from 0 size called.kind.1.0) (Enrol id.place size (Ok id.generation) ∷ Lay id.place ∷ []) (quiet_hands 0 (refused_from 0 size called.kind.1.0) (quiet_refused 0 size called.kind.1.0)) refl)

-- ---- the line

pub announce_acts : (answer : Result BufferId GcError) (s new : PlainState) (size : ℕ) (said : List ℕ) → answer ≢ Err OutOfMemory → AddsOf s.board 0 (Announces size answer) new.board
    → IfOk answer (λ id. new.contents ≡ set s.contents id.place (Some (fresh size))) → OnErr answer (new.contents ≡ s.contents) → AreKept new → length new.board.words ≡ place_count
    → said ≡ id_text (codes "announce") answer → Acts (λ t. AnnounceLine t size) 0 0 s said new
announce_acts (Ok id) s new size said memory called put same kept wide is =
    acts_by s new 0 0 (Announces size (Ok id)) (λ t. AnnounceLine t size) (id_text (codes "announce") (Ok id)) said called
    (λ t left. (Ok id, memory, record { events = called.events; kind = called.kind; is = refl }))
    (λ h left. announce_fills s new.board id size h called) (announce_hands s new.board id size called)
    (λ h left. announce_leaves s new id size h called put kept wide left) is
announce_acts (Err refusal) s new size said memory called put same kept wide is =
    quiet_acts s new 0 (Announces size (Err refusal)) (λ t. AnnounceLine t size) (id_text (codes "announce") (Err refusal)) said caller_apart (announce_quiet size refusal)
    (λ t es kind. (Err refusal, memory, record { events = es; kind = kind; is = refl })) called same is

pub announce_ready : (answer : Result BufferId GcError) (s new : PlainState) (size : ℕ) → AddsOf s.board 0 (Announces size answer) new.board
    → IfOk answer (λ id. new.contents ≡ set s.contents id.place (Some (fresh size))) → OnErr answer (new.contents ≡ s.contents) → AreKept new → length new.board.words ≡ place_count
    → IsReady s → IsReady new
announce_ready (Ok id) s new size called put same kept wide ready =
    ready_by s new 0 (Announces size (Ok id)) ready called (λ h left. announce_leaves s new id size h called put kept wide left)
announce_ready (Err refusal) s new size called put same kept wide ready =
    quiet_ready s new 0 (Announces size (Err refusal)) caller_apart (announce_quiet size refusal) ready called same
