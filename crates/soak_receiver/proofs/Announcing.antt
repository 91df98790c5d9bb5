-- The lines with which a host begins, and the board that each of them leaves.
use Rattle.std.proofs.Common.{◌≡◌, ◌≢◌, ℕ, zero, suc, ◌+◌, ◌≤◌, ◌<◌, true, false, List, [], ◌∷◌, ◌++◌, length, replicate, get_or, refl, sym, ap, subst, ◌∙◌, append-nil, zero-add, arith, lit≤, inl, inr, ◌⊎◌}
use Rattle.std.specs.Prelude.{Result, Ok, Err}
use Rattle.std.proofs.lemmas.Bool.{cases_lt}
use Rattle.gev_types.specs.Limits.{place_count}
use Rattle.gentl_types.specs.declared.buffer_id.BufferId.{BufferId}
use Rattle.gentl_types.specs.declared.errors.GcError.{GcError}
use Rattle.gentl_types.specs.declared.errors.GcError.TheVariants.{InvalidHandle, InvalidParameter, ResourceInUse, ResourceExhausted, OutOfMemory}
use Rattle.gentl_types.specs.declared.errors.Shown.TheVariants as shown
use Rattle.gentl_types.specs.declared.word.Word.{Word}
use Rattle.gentl_types.specs.declared.word.State.TheVariants.{Vacant, Away}
use Rattle.gev_script.specs.Lines as line
use Rattle.gev_script.specs.Lines.{ScriptLine}
use Rattle.board_machine.specs.declared.events.Entry.{Entry}
use Rattle.board_machine.specs.declared.events.Event.{Event}
use Rattle.board_machine.specs.declared.events.Event.TheVariants.{LookOut, Enrol, Lay, Start}
use Rattle.board_machine.specs.Machine.{Board, CanEnrol, word_at, vacant, empty_board, IsHeldAs}
use Rattle.board_machine.specs.Adding.{entries_of}
use Rattle.board_machine.specs.Histories.{RunsFrom, after_from}
use Rattle.board_machine.proofs.Runs.{after-append}
use Rattle.board_calls.specs.Calls.{Announces, Starts}
use Rattle.board_calls.specs.Rounds.{refused_from}
use Rattle.acquisition_machine.specs.declared.config.AcqConfig.{AcqConfig}
use Rattle.acquisition_machine.specs.Machine.{restart}
use Rattle.acquisition_machine.specs.Runs.{After as AcqAfter}
use Rattle.acq_core.specs.Receiver.{config_of}
use Rattle.script_trace.specs.Trace.{Trace, Part, board, grown, caller}
use Rattle.script_trace.specs.Adding.{AddsPart}
use Rattle.script_trace.specs.BoardLines.{buffer}
use Rattle.script_trace.specs.StreamLines.{Restarts}
use Rattle.script_trace.specs.Opening.{opening}
use Rattle.script_replay.specs.declared.running.Running.{Running}
use Rattle.script_replay.specs.Replays.{StandsAt, IsReplaying, AddsAt, Goes}
use Rattle.script_replay.proofs.Replaying.{leads_on}
use Rattle.world_laws.specs.Receiver.{soak_config, SOAK_BUFFER_SIZE, pooled_word, start}
use Rattle.soak_receiver.specs.Moves.{IsOpen, IsLeft}
use Rattle.soak_receiver.specs.Taking.{queued}
use Rattle.soak_receiver.specs.Stocking.{stock_lines, stocked, announced, IsBeginning, IsStocked, IsAnnounced, HasBegun}
use Rattle.soak_receiver.proofs.Lending.{queue_leaves}

-- ---- the header

pub begun : (r : Running) → StandsAt r opening → IsReplaying r → config_of r.acq ≡ soak_config → IsStocked 0 r
begun r stands keeps config = record {
  keeps = keeps;
  config = config;
  handles = stands.handles;
  oldest_first = stands.mode;
  board = stands.behind.board.board.state;
  trace = opening;
  leads = refl;
  stands = stands;
  untold = refl;
}

-- one more line, which tells the acquisition nothing
record TellsNothing (after : Board) (t : Trace) (part : Part) : Type 0 where
  untold : part.inputs ≡ []
  leaves : after_from (board t) part.entries ≡ after

begun_on : (l : ScriptLine) (lines : List ScriptLine) (b after : Board) (old new : Running) (said : List ℕ) → IsBeginning lines b old → Goes l old said new → new.tree ≡ old.tree → new.mode ≡ old.mode
    → ((t : Trace) (part : Part) → board t ≡ b → AddsPart soak_config t l part → TellsNothing after t part) → IsBeginning (lines ++ l ∷ []) after new
begun_on l lines b after old new said was goes same same_mode tells_none = record {
  keeps = goes.keeps;
  config = goes.config ∙ was.config;
  handles = same ∙ was.handles;
  oldest_first = same_mode ∙ was.oldest_first;
  board = one.stands.behind.board.board.state ∙ (after-append empty_board was.trace.entries one.part.entries ∙ none.leaves);
  trace = grown was.trace one.part;
  leads = leads_on soak_config opening lines was.trace l one.part was.leads adds;
  stands = one.stands;
  untold = ap (λ q. q ++ one.part.inputs) was.untold ∙ none.untold;
}
  where
    one : AddsAt (config_of old.acq) l said new was.trace
    one = goes.adds was.trace was.stands

    adds : AddsPart soak_config was.trace l one.part
    adds = subst (λ (c : AcqConfig). AddsPart c was.trace l one.part) was.config one.adds

    none : TellsNothing after was.trace one.part
    none = tells_none was.trace one.part (sym was.stands.behind.board.board.state ∙ was.board) adds

-- ---- words of a stocked board

word_below : (n j : ℕ) (ws : List Word) → j < n → get_or (replicate n pooled_word ++ ws) j vacant ≡ pooled_word
word_below zero j ws less = absurd (omega (arith, less))
word_below (suc n) zero ws less = refl
word_below (suc n) (suc j) ws less = let fewer : j < n = omega (arith, less) in word_below n j ws fewer

word_of_next : (n : ℕ) → n < 4 → word_at (stocked n) n ≡ vacant
word_of_next zero few = refl
word_of_next (suc zero) few = refl
word_of_next (suc (suc zero)) few = refl
word_of_next (suc (suc (suc zero))) few = refl
word_of_next (suc (suc (suc (suc n)))) few = absurd (omega (arith, few))

-- the next place takes a buffer
can_enrol_next : (n : ℕ) → n < 4 → CanEnrol (word_at (stocked n) n)
can_enrol_next n few = subst CanEnrol (sym (word_of_next n few)) (refl, lit≤ tt)

-- a place with a buffer takes none
below_is_full : (n j : ℕ) → j < n → CanEnrol (word_at (stocked n) j) → ⊥
below_is_full n j less can =
    let away : (word_at (stocked n) j).state ≡ Away = ap (λ (w : Word). w.state) (word_below n j _ less) in
    let vacated : (word_at (stocked n) j).state ≡ Vacant = can.0 in
    cc

-- ---- announce

-- refused places stay as they are, and none of them takes a buffer
record Refuses (b : Board) (i size : ℕ) (words : List Word) (rest : List Event) : Type 0 where
  none : (j : ℕ) → j < length words → CanEnrol (word_at b (i + j)) → ⊥
  runs : RunsFrom b (entries_of caller rest)
  leaves : after_from b (entries_of caller (refused_from i size words ++ rest)) ≡ after_from b (entries_of caller rest)

refuses : (b : Board) (i size : ℕ) (words : List Word) (rest : List Event) → RunsFrom b (entries_of caller (refused_from i size words ++ rest)) → Refuses b i size words rest
refuses b i size [] rest runs = record { none = λ j less can. omega (arith, less); runs = runs; leaves = refl }
refuses b i size (w ∷ words) rest runs =
    let more : Refuses b (i + 1) size words rest = refuses b (i + 1) size words rest runs.1 in
    record { none = go more.none; runs = more.runs; leaves = more.leaves }
  where
    go : ((j : ℕ) → j < length words → CanEnrol (word_at b (i + 1 + j)) → ⊥) → (j : ℕ) → j < suc (length words) → CanEnrol (word_at b (i + j)) → ⊥
    go later zero less can =
        let here : i + 0 ≡ i = omega arith in
        let refused : CanEnrol w → ⊥ = runs.0.meets.4 in
        refused (subst CanEnrol (sym runs.0.meets.3) (subst (λ k. CanEnrol (word_at b k)) here can))
    go later (suc j) less can =
        let there : i + suc j ≡ i + 1 + j = omega arith in
        later j (omega (arith, less)) (subst (λ k. CanEnrol (word_at b k)) there can)

enrolled : (n : ℕ) → n < 4 → after_from (stocked n) (entries_of caller (Enrol n SOAK_BUFFER_SIZE (Ok 1) ∷ Lay n ∷ [])) ≡ announced n
enrolled zero few = refl
enrolled (suc zero) few = refl
enrolled (suc (suc zero)) few = refl
enrolled (suc (suc (suc zero))) few = refl
enrolled (suc (suc (suc (suc n)))) few = absurd (omega (arith, few))

-- the place that takes the buffer is the next one
place_is : (n place : ℕ) → n < 4 → CanEnrol (word_at (stocked n) place) → ((j : ℕ) → j < place → CanEnrol (word_at (stocked n) j) → ⊥) → place ≡ n
place_is n place few can none = go (cases_lt n place) (cases_lt place n)
  where
    go : (n < place) ⊎ (place ≤ n) → (place < n) ⊎ (n ≤ place) → place ≡ n
    go (inl above) other = absurd (none n above (can_enrol_next n few))
    go (inr most) (inl below) = absurd (below_is_full n place below can)
    go (inr most) (inr least) = omega (arith, most, least)

announce_leaves : (n : ℕ) (answer : Result BufferId GcError) (es : List Event) → n < 4 → answer ≢ Err OutOfMemory → Announces SOAK_BUFFER_SIZE answer es → RunsFrom (stocked n) (entries_of caller es)
    → after_from (stocked n) (entries_of caller es) ≡ announced n
announce_leaves n (Ok id) es few some (sized, (words, wide, opens)) runs =
    ap (λ fs. after_from (stocked n) (entries_of caller fs)) opens.is
    ∙ (refused.leaves
    ∙ (ap (λ k. after_from (stocked n) (entries_of caller (Enrol k SOAK_BUFFER_SIZE (Ok id.generation) ∷ Lay k ∷ []))) place
    ∙ (ap (λ g. after_from (stocked n) (entries_of caller (Enrol n SOAK_BUFFER_SIZE (Ok g) ∷ Lay n ∷ []))) generation
    ∙ enrolled n few)))
  where
    brought : List Event
    brought = Enrol id.place SOAK_BUFFER_SIZE (Ok id.generation) ∷ Lay id.place ∷ []

    now : RunsFrom (stocked n) (entries_of caller (LookOut opens.output false ∷ refused_from 0 SOAK_BUFFER_SIZE words ++ brought))
    now = subst (λ (fs : List Event). RunsFrom (stocked n) (entries_of caller fs)) opens.is runs

    refused : Refuses (stocked n) 0 SOAK_BUFFER_SIZE words brought
    refused = refuses (stocked n) 0 SOAK_BUFFER_SIZE words brought now.1

    place : id.place ≡ n
    place = place_is n id.place few refused.runs.0.meets.3
        (λ j less can. let within : j < length words = omega (arith, less, wide) in refused.none j within (subst (λ k. CanEnrol (word_at (stocked n) k)) (sym (zero-add j)) can))

    generation : id.generation ≡ 1
    generation = refused.runs.0.meets.4 ∙ ap (λ (w : Word). w.generation + 1) (ap (word_at (stocked n)) place ∙ word_of_next n few)
announce_leaves n (Err (InvalidHandle shown.Closed)) es few some looks runs =
    let now : RunsFrom (stocked n) (entries_of caller (LookOut looks.output true ∷ [])) = subst (λ (fs : List Event). RunsFrom (stocked n) (entries_of caller fs)) looks.is runs in
    let closed : true ≡ false = now.0.meets.1 in
    absurd cc
announce_leaves n (Err (InvalidParameter m)) es few some (same, unsized, looks) runs = absurd (unsized (lit≤ tt, lit≤ tt))
announce_leaves n (Err OutOfMemory) es few some kind runs = absurd (some refl)
announce_leaves n (Err ResourceExhausted) es few some (sized, (words, wide, opens)) runs =
    let all : entries_of caller (refused_from 0 SOAK_BUFFER_SIZE words ++ []) ≡ entries_of caller (refused_from 0 SOAK_BUFFER_SIZE words) = ap (entries_of caller) (append-nil (refused_from 0 SOAK_BUFFER_SIZE words)) in
    let now : RunsFrom (stocked n) (entries_of caller (LookOut opens.output false ∷ refused_from 0 SOAK_BUFFER_SIZE words)) = subst (λ (fs : List Event). RunsFrom (stocked n) (entries_of caller fs)) opens.is runs in
    let refused : Refuses (stocked n) 0 SOAK_BUFFER_SIZE words [] = refuses (stocked n) 0 SOAK_BUFFER_SIZE words [] (subst (λ (h : List Entry). RunsFrom (stocked n) h) (sym all) now.1) in
    let within : n < length words = omega (arith, few, wide) in
    absurd (refused.none n within (subst (λ k. CanEnrol (word_at (stocked n) k)) (sym (zero-add n)) (can_enrol_next n few)))
announce_leaves n (Err error) es few some kind runs = absurd kind

pub announced_one : (n : ℕ) (old new : Running) (said : List ℕ) → n < 4 → IsStocked n old → Goes (line.announce SOAK_BUFFER_SIZE) old said new → new.tree ≡ old.tree → new.mode ≡ old.mode → IsAnnounced n new
announced_one n old new said few was goes same same_mode =
    begun_on (line.announce SOAK_BUFFER_SIZE) (stock_lines n) (stocked n) (announced n) old new said was goes same same_mode adds_one
  where
    adds_one : (t : Trace) (part : Part) → board t ≡ stocked n → AddsPart soak_config t (line.announce SOAK_BUFFER_SIZE) part → TellsNothing (announced n) t part
    adds_one t part is adds =
        let calls = adds.spells.2 in
        let runs : RunsFrom (stocked n) (entries_of caller calls.events) = subst (λ (b : Board). RunsFrom b (entries_of caller calls.events)) is (subst (λ (p : Part). RunsFrom (board t) p.entries) calls.is adds.runs) in
        record {
          untold = ap (λ (p : Part). p.inputs) calls.is;
          leaves = ap (λ (p : Part). after_from (board t) p.entries) calls.is ∙ (ap (λ (b : Board). after_from b (entries_of caller calls.events)) is ∙ announce_leaves n adds.spells.0 calls.events few adds.spells.1 calls.kind runs);
        }

-- ---- queue

held_next : (n : ℕ) → n < 4 → IsHeldAs (word_at (announced n) n) 1
held_next zero few = (refl, refl)
held_next (suc zero) few = (refl, refl)
held_next (suc (suc zero)) few = (refl, refl)
held_next (suc (suc (suc zero))) few = (refl, refl)
held_next (suc (suc (suc (suc n)))) few = absurd (omega (arith, few))

queued_next : (n : ℕ) → n < 4 → queued (buffer n 1) (announced n) ≡ stocked (n + 1)
queued_next zero few = refl
queued_next (suc zero) few = refl
queued_next (suc (suc zero)) few = refl
queued_next (suc (suc (suc zero))) few = refl
queued_next (suc (suc (suc (suc n)))) few = absurd (omega (arith, few))

lines_next : (n : ℕ) → n < 4 → (stock_lines n ++ line.announce SOAK_BUFFER_SIZE ∷ []) ++ line.queue n 1 ∷ [] ≡ stock_lines (n + 1)
lines_next zero few = refl
lines_next (suc zero) few = refl
lines_next (suc (suc zero)) few = refl
lines_next (suc (suc (suc zero))) few = refl
lines_next (suc (suc (suc (suc n)))) few = absurd (omega (arith, few))

pub queued_one : (n : ℕ) (old new : Running) (said : List ℕ) → n < 4 → IsAnnounced n old → Goes (line.queue n 1) old said new → new.tree ≡ old.tree → new.mode ≡ old.mode → IsStocked (n + 1) new
queued_one n old new said few was goes same same_mode =
    subst (λ (lines : List ScriptLine). IsBeginning lines (stocked (n + 1)) new) (lines_next n few)
    (begun_on (line.queue n 1) (stock_lines n ++ line.announce SOAK_BUFFER_SIZE ∷ []) (announced n) (stocked (n + 1)) old new said was goes same same_mode adds_one)
  where
    adds_one : (t : Trace) (part : Part) → board t ≡ announced n → AddsPart soak_config t (line.queue n 1) part → TellsNothing (stocked (n + 1)) t part
    adds_one t part is adds =
        let calls = adds.spells.1 in
        let runs : RunsFrom (announced n) (entries_of caller calls.events) = subst (λ (b : Board). RunsFrom b (entries_of caller calls.events)) is (subst (λ (p : Part). RunsFrom (board t) p.entries) calls.is adds.runs) in
        let within : n < place_count = omega (arith, few) in
        record {
          untold = ap (λ (p : Part). p.inputs) calls.is;
          leaves =
              ap (λ (p : Part). after_from (board t) p.entries) calls.is
              ∙ (ap (λ (b : Board). after_from b (entries_of caller calls.events)) is
              ∙ (queue_leaves (announced n) (buffer n 1) adds.spells.0 calls.events refl within (held_next n few) calls.kind runs ∙ queued_next n few));
        }

-- ---- start

start_left : (t : Trace) (part : Part) (answer : Result (Unit {0}) GcError) (calls : List Event) → board t ≡ stocked 4 → t.inputs ≡ [] → Starts answer calls → Restarts t calls answer part → RunsFrom (board t) part.entries → IsLeft (grown t part) start
start_left t part (Ok done) calls is untold starts restarts runs = record {
  acquisition = ap (λ q. AcqAfter soak_config (q ++ restart ∷ [])) (sym untold) ∙ ap (λ (p : Part). AcqAfter soak_config (t.inputs ++ p.inputs)) (sym restarts);
  board =
      sym (after-append empty_board t.entries part.entries
      ∙ (ap (λ (p : Part). after_from (board t) p.entries) restarts
      ∙ (ap (λ fs. after_from (board t) (entries_of caller fs ++ [])) starts.is
      ∙ ap (λ (b : Board). record b { run = 1 }) is)));
}
start_left t part (Err (InvalidHandle shown.Closed)) calls is untold starts restarts runs =
    let now : RunsFrom (board t) (entries_of caller calls) = subst (λ (p : Part). RunsFrom (board t) p.entries) restarts runs in
    let looked : RunsFrom (board t) (entries_of caller (LookOut starts.output true ∷ [])) = subst (λ (fs : List Event). RunsFrom (board t) (entries_of caller fs)) starts.is now in
    let closed : true ≡ (board t).closed = looked.0.meets.1 in
    let unclosed : (board t).closed ≡ false = ap (λ (b : Board). b.closed) is in
    absurd cc
start_left t part (Err (ResourceInUse (shown.Word w))) calls is untold (r, word, opens) restarts runs =
    let now : RunsFrom (board t) (entries_of caller calls) = subst (λ (p : Part). RunsFrom (board t) p.entries) restarts runs in
    let tried : RunsFrom (board t) (entries_of caller (LookOut opens.output false ∷ Start (Err r) ∷ [])) = subst (λ (fs : List Event). RunsFrom (board t) (entries_of caller fs)) opens.is now in
    let run_is : r ≡ (board t).run = tried.1.0.meets.0 in
    let one : r ≡ 1 = tried.1.0.meets.1 in
    let none : (board t).run ≡ 0 = ap (λ (b : Board). b.run) is in
    absurd (omega (arith, run_is, one, none))
start_left t part (Err error) calls is untold starts restarts runs = absurd starts

pub started : (old new : Running) (said : List ℕ) → IsStocked 4 old → Goes line.start old said new → new.tree ≡ old.tree → new.mode ≡ old.mode → HasBegun new
started old new said was goes same same_mode = record {
  hosting = record { keeps = goes.keeps; config = goes.config ∙ was.config; handles = same ∙ was.handles; oldest_first = same_mode ∙ was.oldest_first; opened = opened };
  trace = grown was.trace one.part;
  leads = leads_on soak_config opening (stock_lines 4) was.trace line.start one.part was.leads adds;
  stands = one.stands;
  left = left;
}
  where
    one : AddsAt (config_of old.acq) line.start said new was.trace
    one = goes.adds was.trace was.stands

    adds : AddsPart soak_config was.trace line.start one.part
    adds = subst (λ (c : AcqConfig). AddsPart c was.trace line.start one.part) was.config one.adds

    left : IsLeft (grown was.trace one.part) start
    left = start_left was.trace one.part adds.spells.0 adds.spells.1 (sym was.stands.behind.board.board.state ∙ was.board) was.untold adds.spells.2 adds.spells.3 adds.runs

    opened : IsOpen new.board.board
    opened = subst IsOpen (left.board ∙ sym one.stands.behind.board.board.state) (record { unclosed = refl; unkilled = refl; running = refl })
