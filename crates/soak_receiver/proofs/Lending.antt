-- A buffer that the application takes, returns and queues, on an open stream.
use Rattle.std.proofs.Common.{◌≡◌, ℕ, ◌+◌, ◌-◌, ◌^◌, ◌≤◌, ◌<◌, min, Bool, true, false, List, [], ◌∷◌, ◌++◌, length, refl, sym, ap, subst, ◌∙◌, arith, append-nil, get_or-set_same, inl, inr}
use Rattle.std.specs.Prelude.{Option, None, Some, Result, Ok, Err, if◌then◌else◌, codes, option_map}
use Rattle.gev_types.specs.Filling.{Filling}
use Rattle.gev_types.specs.Limits.{place_count}
use Rattle.gentl_types.specs.declared.buffer_id.BufferId.{BufferId}
use Rattle.gentl_types.specs.declared.errors.GcError.{GcError}
use Rattle.gentl_types.specs.declared.errors.GcError.TheVariants.{InvalidHandle, ResourceInUse, Timeout, Abort}
use Rattle.gentl_types.specs.declared.errors.Shown.TheVariants as shown
use Rattle.gentl_types.specs.declared.word.Word.{Word}
use Rattle.gentl_types.specs.declared.word.State.TheVariants.{Held}
use Rattle.gentl_handles.specs.declared.opened.Opened.{Opened}
use Rattle.gentl_handles.specs.Handles.{Handles, child_of}
use Rattle.gev_report.specs.ReplayLines.{take_line}
use Rattle.gev_script.specs.Lines as line
use Rattle.board_machine.specs.declared.events.Event.{Event}
use Rattle.board_machine.specs.declared.events.Event.TheVariants.{Take, Unpost, LookOut, Lay, Grab}
use Rattle.board_machine.specs.declared.events.TakeEnd.TheVariants as taken
use Rattle.board_machine.specs.Machine.{Board, Item, item, places, word_at, vacant, with_state, IsHeldAs}
use Rattle.board_machine.specs.Owners.{IsCounted, tally}
use Rattle.board_machine.specs.Places.{times, same}
use Rattle.board_machine.specs.Adding.{AddsOf, entries_of}
use Rattle.board_machine.specs.Histories.{RunsFrom, after_from}
use Rattle.board_machine.proofs.Counts.{stands_below}
use Rattle.board_machine.proofs.Places.{same_self}
use Rattle.board_calls.specs.Calls.{Gets, Returns, Queues, RefusesGrab, itself}
use Rattle.board_model.specs.Plain.{PlainState, AreKept, content_at, lying}
use Rattle.acquisition_machine.specs.Machine.{Input}
use Rattle.acquisition_machine.specs.Runs.{After as AcqAfter}
use Rattle.script_trace.specs.Trace.{Trace, Part, grown, caller}
use Rattle.script_trace.specs.Answers.{refused_text, answer_text}
use Rattle.script_trace.specs.BoardLines.{TakeIfOpen, TakeLine, QueueLine, buffer, open_event}
use Rattle.script_replay.specs.declared.running.Running.{Running}
use Rattle.script_replay.specs.Replays.{StandsAt, Goes}
use Rattle.script_replay.proofs.Lent.{take_acts, take_ready, no_take_acts, take_under, taken_first, takes_one as taken_one, first_lies}
use Rattle.script_replay.proofs.Lines.{caller_apart, quiet_acts, quiet_ready}
use Rattle.script_replay.proofs.Quiet.{get_quiet, queue_quiet}
use Rattle.script_replay.proofs.Replaying.{under_goes, call_goes, still}
use Rattle.script_replay.proofs.Resting.{lifted_same}
use Rattle.world_laws.specs.Receiver.{Receiver, soak_config, waiting, takes_one}
use Rattle.soak_receiver.specs.Moves.{IsOpen, IsHosting, IsLeft, Moves, unchanged}
use Rattle.soak_receiver.specs.Taking.{returned, queued, on_board, TookFirst, TookNothing, TakesItem}
use Rattle.soak_receiver.proofs.Moving.{left_at, moves_by, moves_both, hosting_by, StaysOpen}

-- ---- acts on the board alone

-- the line told the acquisition nothing, and the board changed so
board_left : (change : Board → Board) (old new : Running) (t : Trace) (part : Part) (r : Receiver) → StandsAt old t → StandsAt new (grown t part) → new.board.board ≡ change old.board.board → part.inputs ≡ []
    → IsLeft (grown t part) (on_board change (left_at t r))
board_left change old new t part r stands stands_new is told = record {
  acquisition = ap (AcqAfter soak_config) (sym (append-nil t.inputs)) ∙ ap (λ (q : List Input). AcqAfter soak_config (t.inputs ++ q)) (sym told);
  board = ap change (sym stands.behind.board.board.state) ∙ (sym is ∙ stands_new.behind.board.board.state);
}

-- ---- take

waiting_open : (b : Board) → b.closed ≡ false → waiting b ≡ b.out
waiting_open b opened = ap (λ (mark : Bool). if mark then [] else b.out) opened

pub take_tells_nothing : (t : Trace) (event : Option Opened) (part : Part) → TakeIfOpen t event part → part.inputs ≡ []
take_tells_nothing t None part is = ap (λ (p : Part). p.inputs) is
take_tells_nothing t (Some event) part (moment, inl takes) = ap (λ (p : Part). p.inputs) takes.is
take_tells_nothing t (Some event) part (moment, inr none) = ap (λ (p : Part). p.inputs) none.calls.is

event_open : (old : Running) → IsHosting old → Some 5 ≡ option_map (λ (o : Opened). o.serial) (child_of (Some 4) 0 old.tree.handles)
event_open old hosting = subst (λ (hs : Handles). Some 5 ≡ option_map (λ (o : Opened). o.serial) (child_of (Some 4) 0 hs.handles)) (sym hosting.handles) refl

-- what a take left
abbrev pub taken_from : Running → PlainState → ℕ → Running
taken_from old new_board count = record old { board = new_board; taken = count }

-- The first buffer was taken and returned.
pub record IsReturned (place generation : ℕ) (old : Running) (mid new_board : PlainState) (count : ℕ) : Type 0 where
  pub counted : IsCounted old.board.board
  pub kept : AreKept old.board
  pub got : AddsOf old.board.board 0 (Gets {T = ℕ} 0 itself (Ok place)) mid.board
  pub got_contents : mid.contents ≡ old.board.contents
  pub generation_is : generation ≡ (word_at mid.board place).generation
  pub back : AddsOf mid.board 0 (Returns place) new_board.board
  pub back_contents : new_board.contents ≡ mid.contents
  pub count_is : count ≡ min (old.taken + 1) (2 ^ 64 - 1)

-- what the take found
found : (place generation : ℕ) (old : Running) (mid new_board : PlainState) (count : ℕ) → IsReturned place generation old mid new_board count → (f : Filling) × (rest : List Item) × (old.board.board.out ≡ item place f ∷ rest)
found place generation old mid new_board count is =
    taken_first old.board.board new_board.board place (taken_one old.board.board mid.board new_board.board place is.got is.back)

taken_leaves : (b new : Board) (place : ℕ) → AddsOf b 0 (Gets {T = ℕ} 0 itself (Ok place)) new → new ≡ after_from b (entries_of caller (Take (taken.Taken place) ∷ []))
taken_leaves b new place got = got.adds.after ∙ ap (λ es. after_from b (entries_of 0 es)) got.kind

return_leaves : (b mid new : Board) (place : ℕ) → AddsOf b 0 (Gets {T = ℕ} 0 itself (Ok place)) mid → AddsOf mid 0 (Returns place) new → new ≡ returned place b
return_leaves b mid new place got back =
    back.adds.after ∙ (ap (λ es. after_from mid (entries_of 0 es)) back.kind ∙ ap (λ (m : Board). after_from m (entries_of 0 (Lay place ∷ []))) (taken_leaves b mid place got))

-- a place that stands first in the output is a place of the board
first_within : (b : Board) (place : ℕ) (f : Filling) (rest : List Item) → IsCounted b → b.out ≡ item place f ∷ rest → place < place_count
first_within b place f rest counted is = stands_below b place counted some
  where
    once : times place (places b.out) ≡ same place place + times place (places rest)
    once = ap (λ out. times place (places out)) is

    some : 1 ≤ tally b place
    some = omega (arith, once, same_self place)

-- a buffer that was returned is held, with the generation that it had
held_again : (b : Board) (place : ℕ) → place < length b.words → IsHeldAs (word_at (returned place b) place) (word_at b place).generation
held_again b place within =
    let set_to : word_at (returned place b) place ≡ with_state (word_at b place) Held = get_or-set_same b.words place (with_state (word_at b place) Held) vacant within in
    (ap (λ (w : Word). w.state) set_to, ap (λ (w : Word). w.generation) set_to)

took_goes : (place generation : ℕ) (old : Running) (mid new_board : PlainState) (count : ℕ) → IsHosting old → (is : IsReturned place generation old mid new_board count)
    → Goes line.take old (take_line (buffer place generation) (found place generation old mid new_board count is).0) (taken_from old new_board count)
took_goes place generation old mid new_board count hosting is =
    under_goes line.take TakeLine caller 1 old said new_board caller_apart hosting.keeps
    (take_under old.board new_board old.tree 4 5 1 said refl (event_open old hosting) (λ event. take_acts old.board mid new_board place generation first.0 said event is.kept is.got is.got_contents is.generation_is is.back is.back_contents lies refl))
    (take_ready old.board mid new_board place is.got is.got_contents is.back is.back_contents hosting.keeps.rest.ready)
    (lifted_same old.board new_board (is.back_contents ∙ is.got_contents))
    (λ t part spells. spells) count is.count_is
  where
    first : (f : Filling) × (rest : List Item) × (old.board.board.out ≡ item place f ∷ rest)
    first = found place generation old mid new_board count is

    said : List ℕ
    said = take_line (buffer place generation) first.0

    lies : content_at new_board place ≡ Some first.0
    lies = ap (λ c. lying c place) (is.back_contents ∙ is.got_contents) ∙ first_lies old.board place first.0 first.1 is.kept first.2

took_moves : (place generation : ℕ) (old : Running) (mid new_board : PlainState) (count : ℕ) → IsHosting old → IsReturned place generation old mid new_board count
    → Moves (line.take ∷ []) (on_board (returned place)) old (taken_from old new_board count)
took_moves place generation old mid new_board count hosting is =
    moves_by line.take (on_board (returned place)) old (taken_from old new_board count) _ hosting (took_goes place generation old mid new_board count hosting is)
    (λ t part r stands adds new_stands. board_left (returned place) old (taken_from old new_board count) t part r stands new_stands
    (return_leaves old.board.board mid.board new_board.board place is.got is.back) (take_tells_nothing t (open_event t) part adds.spells))

returned_open : (place : ℕ) → StaysOpen (on_board (returned place))
returned_open place r opened = record { unclosed = opened.unclosed; unkilled = opened.unkilled; running = opened.running }

pub took_hosting : (place generation : ℕ) (old : Running) (mid new_board : PlainState) (count : ℕ) → IsHosting old → IsReturned place generation old mid new_board count → IsHosting (taken_from old new_board count)
took_hosting place generation old mid new_board count hosting is =
    hosting_by line.take (line.take ∷ []) (on_board (returned place)) old (taken_from old new_board count) _ hosting (took_goes place generation old mid new_board count hosting is) refl refl
    (took_moves place generation old mid new_board count hosting is) (returned_open place)

pub took_first : (place generation : ℕ) (old : Running) (mid new_board : PlainState) (count : ℕ) → IsHosting old → IsReturned place generation old mid new_board count → TookFirst (buffer place generation) old (taken_from old new_board count)
took_first place generation old mid new_board count hosting is = record {
  filling = first.0;
  rest = first.1;
  first = waiting_open old.board.board hosting.opened.unclosed ∙ first.2;
  is = ap (buffer place) told;
  lies = ap (λ c. lying c place) (is.back_contents ∙ is.got_contents) ∙ first_lies old.board place first.0 first.1 is.kept first.2;
  within = within;
  held = subst (λ (b : Board). IsHeldAs (word_at b place) generation) (sym (return_leaves old.board.board mid.board new_board.board place is.got is.back))
      (subst (λ g. IsHeldAs (word_at (returned place old.board.board) place) g) (sym told) (held_again old.board.board place wide));
  moves = took_moves place generation old mid new_board count hosting is;
}
  where
    first : (f : Filling) × (rest : List Item) × (old.board.board.out ≡ item place f ∷ rest)
    first = found place generation old mid new_board count is

    within : place < place_count
    within = first_within old.board.board place first.0 first.1 is.counted first.2

    wide : place < length old.board.board.words
    wide = subst (λ n. place < n) (sym is.counted.wide) within

    told : generation ≡ (word_at old.board.board place).generation
    told = is.generation_is ∙ ap (λ (b : Board). (word_at b place).generation) (taken_leaves old.board.board mid.board place is.got)

-- ---- nothing to take

-- On an open stream a take that is refused found nothing, and leaves the board as it was.
record FoundNothing (b new : Board) : Type 0 where
  none : b.out ≡ []
  same : new ≡ b

found_nothing : (b new : Board) (refusal : GcError) → IsOpen b → AddsOf b 0 (Gets {T = ℕ} 0 itself (Err refusal)) new → FoundNothing b new
found_nothing b new (InvalidHandle shown.Closed) opened called =
    let runs : RunsFrom b (entries_of 0 (Take taken.Closed ∷ [])) = subst (λ (es : List Event). RunsFrom b (entries_of 0 es)) called.kind called.adds.runs in
    let closed : b.closed ≡ true = runs.0.meets in
    let unclosed : b.closed ≡ false = opened.unclosed in
    absurd cc
found_nothing b new Abort opened called =
    let runs : RunsFrom b (entries_of 0 (Take taken.Empty ∷ Unpost true ∷ [])) = subst (λ (es : List Event). RunsFrom b (entries_of 0 es)) called.kind called.adds.runs in
    let killed : true ≡ b.kill = runs.1.0.meets in
    let unkilled : b.kill ≡ false = opened.unkilled in
    absurd cc
found_nothing b new (Timeout first last) opened called =
    let runs : RunsFrom b (entries_of 0 (Take taken.Empty ∷ Unpost false ∷ [])) = subst (λ (es : List Event). RunsFrom b (entries_of 0 es)) called.kind.2 called.adds.runs in
    record {
      none = runs.0.meets.1;
      same = called.adds.after ∙ (ap (λ es. after_from b (entries_of 0 es)) called.kind.2 ∙ ap (λ (mark : Bool). record b { kill = mark }) (sym opened.unkilled));
    }
found_nothing b new error opened called = absurd called.kind

no_take_goes : (old : Running) (new_board : PlainState) (refusal : GcError) → IsHosting old → AddsOf old.board.board 0 (Gets {T = ℕ} 0 itself (Err refusal)) new_board.board → new_board.contents ≡ old.board.contents
    → Goes line.take old (refused_text (codes "take") refusal) (taken_from old new_board old.taken)
no_take_goes old new_board refusal hosting called same =
    under_goes line.take TakeLine caller 0 old (refused_text (codes "take") refusal) new_board caller_apart hosting.keeps
    (take_under old.board new_board old.tree 4 5 0 (refused_text (codes "take") refusal) refl (event_open old hosting) (λ event. no_take_acts old.board new_board refusal (refused_text (codes "take") refusal) event called same refl))
    (quiet_ready old.board new_board 0 (Gets {T = ℕ} 0 itself (Err refusal)) caller_apart (get_quiet {T = ℕ} 0 itself refusal) hosting.keeps.rest.ready called same)
    (lifted_same old.board new_board same) (λ t part spells. spells) old.taken (still old.taken _ hosting.keeps.stands.taken)

no_take_moves : (old : Running) (new_board : PlainState) (refusal : GcError) → IsHosting old → AddsOf old.board.board 0 (Gets {T = ℕ} 0 itself (Err refusal)) new_board.board → new_board.contents ≡ old.board.contents
    → Moves (line.take ∷ []) unchanged old (taken_from old new_board old.taken)
no_take_moves old new_board refusal hosting called same =
    moves_by line.take unchanged old (taken_from old new_board old.taken) _ hosting (no_take_goes old new_board refusal hosting called same)
    (λ t part r stands adds new_stands.
    let left = board_left (λ b. b) old (taken_from old new_board old.taken) t part r stands new_stands (found_nothing old.board.board new_board.board refusal hosting.opened called).same (take_tells_nothing t (open_event t) part adds.spells) in
    record { acquisition = left.acquisition; board = left.board })

pub no_take_hosting : (old : Running) (new_board : PlainState) (refusal : GcError) → IsHosting old → AddsOf old.board.board 0 (Gets {T = ℕ} 0 itself (Err refusal)) new_board.board → new_board.contents ≡ old.board.contents
    → IsHosting (taken_from old new_board old.taken)
no_take_hosting old new_board refusal hosting called same =
    hosting_by line.take (line.take ∷ []) unchanged old (taken_from old new_board old.taken) _ hosting (no_take_goes old new_board refusal hosting called same) refl refl
    (no_take_moves old new_board refusal hosting called same) (λ r opened. opened)

pub took_nothing : (old : Running) (new_board : PlainState) (refusal : GcError) → IsHosting old → AddsOf old.board.board 0 (Gets {T = ℕ} 0 itself (Err refusal)) new_board.board → new_board.contents ≡ old.board.contents
    → TookNothing old (taken_from old new_board old.taken)
took_nothing old new_board refusal hosting called same = record {
  none = waiting_open old.board.board hosting.opened.unclosed ∙ (found_nothing old.board.board new_board.board refusal hosting.opened called).none;
  moves = no_take_moves old new_board refusal hosting called same;
}

-- ---- queue

-- A held buffer of an open stream is queued.
pub queue_leaves : (b : Board) (id : BufferId) (answer : Result (Unit {0}) GcError) (es : List Event) → b.closed ≡ false → id.place < place_count → IsHeldAs (word_at b id.place) id.generation
    → Queues id answer es → RunsFrom b (entries_of caller es) → after_from b (entries_of caller es) ≡ queued id b
queue_leaves b id (Ok done) es opened within held kind runs = ap (λ fs. after_from b (entries_of caller fs)) kind.1.is
queue_leaves b id (Err (InvalidHandle shown.Closed)) es opened within held kind runs =
    let found : RunsFrom b (entries_of caller (LookOut kind.output true ∷ [])) = subst (λ (fs : List Event). RunsFrom b (entries_of caller fs)) kind.is runs in
    let closed : true ≡ b.closed = found.0.meets.1 in
    absurd cc
queue_leaves b id (Err error) es opened within held (rest, refused, opens) runs =
    absurd (not_refused error rest refused (subst (λ (fs : List Event). RunsFrom b (entries_of caller fs)) opens.is runs).1)
  where
    not_refused : (error : GcError) (fs : List Event) → RefusesGrab id error fs → RunsFrom b (entries_of caller fs) → ⊥
    not_refused (InvalidHandle (shown.NoHandle n)) fs grab runs = omega (arith, within, grab.0)
    not_refused (InvalidHandle (shown.Word w)) fs grab runs =
        let found : RunsFrom b (entries_of caller (Grab id.place id.generation (Err w) ∷ [])) = subst (λ (gs : List Event). RunsFrom b (entries_of caller gs)) grab.2 runs in
        found.0.meets.2 (subst (λ (v : Word). IsHeldAs v id.generation) (sym found.0.meets.1) held)
    not_refused (ResourceInUse (shown.Word w)) fs grab runs =
        let found : RunsFrom b (entries_of caller (Grab id.place id.generation (Err w) ∷ [])) = subst (λ (gs : List Event). RunsFrom b (entries_of caller gs)) grab.2 runs in
        found.0.meets.2 (subst (λ (v : Word). IsHeldAs v id.generation) (sym found.0.meets.1) held)
    not_refused other fs grab runs = absurd grab

queue_goes : (old : Running) (id : BufferId) (answer : Result (Unit {0}) GcError) (new_board : PlainState) → IsHosting old → AddsOf old.board.board 0 (Queues id answer) new_board.board → new_board.contents ≡ old.board.contents
    → Goes (line.queue id.place id.generation) old (answer_text (codes "queue") answer) (record old { board = new_board })
queue_goes old id answer new_board hosting called same =
    call_goes (line.queue id.place id.generation) old (answer_text (codes "queue") answer) new_board hosting.keeps
    (quiet_acts old.board new_board 0 (Queues id answer) (λ t. QueueLine t id) (answer_text (codes "queue") answer) (answer_text (codes "queue") answer) caller_apart (queue_quiet id answer) (λ t es kind. (answer, record { events = es; kind = kind; is = refl })) called same refl)
    (quiet_ready old.board new_board 0 (Queues id answer) caller_apart (queue_quiet id answer) hosting.keeps.rest.ready called same) (lifted_same old.board new_board same)

pub queue_moves : (old : Running) (id : BufferId) (answer : Result (Unit {0}) GcError) (new_board : PlainState) → IsHosting old → id.place < place_count → IsHeldAs (word_at old.board.board id.place) id.generation
    → AddsOf old.board.board 0 (Queues id answer) new_board.board → new_board.contents ≡ old.board.contents → Moves (line.queue id.place id.generation ∷ []) (on_board (queued id)) old (record old { board = new_board })
queue_moves old id answer new_board hosting within held called same =
    moves_by (line.queue id.place id.generation) (on_board (queued id)) old (record old { board = new_board }) _ hosting (queue_goes old id answer new_board hosting called same)
    (λ t part r stands adds new_stands. board_left (queued id) old (record old { board = new_board }) t part r stands new_stands
    (called.adds.after ∙ queue_leaves old.board.board id answer called.events hosting.opened.unclosed within held called.kind called.adds.runs) (ap (λ (p : Part). p.inputs) adds.spells.1.is))

queued_open : (id : BufferId) → StaysOpen (on_board (queued id))
queued_open id r opened = record { unclosed = opened.unclosed; unkilled = opened.unkilled; running = opened.running }

pub queue_hosting : (old : Running) (id : BufferId) (answer : Result (Unit {0}) GcError) (new_board : PlainState) → IsHosting old → id.place < place_count → IsHeldAs (word_at old.board.board id.place) id.generation
    → AddsOf old.board.board 0 (Queues id answer) new_board.board → new_board.contents ≡ old.board.contents → IsHosting (record old { board = new_board })
queue_hosting old id answer new_board hosting within held called same =
    hosting_by (line.queue id.place id.generation) (line.queue id.place id.generation ∷ []) (on_board (queued id)) old (record old { board = new_board }) _ hosting (queue_goes old id answer new_board hosting called same) refl refl
    (queue_moves old id answer new_board hosting within held called same) (queued_open id)

-- ---- both

pub takes_item : (id : BufferId) (old mid new : Running) (complete : Bool) (buf : Filling) (said said_after : List ℕ) → (took : TookFirst id old mid) → Moves (line.queue id.place id.generation ∷ []) (on_board (queued id)) mid new
    → content_at mid.board id.place ≡ Some buf → complete ≡ buf.rec.complete → said_after ≡ said ++ take_line id buf → TakesItem complete old said said_after new
takes_item id old mid new complete buf said said_after took moves lies complete_is told = record {
  first = item id.place took.filling;
  rest = took.rest;
  waits = took.first;
  complete_is = complete_is ∙ ap (λ (f : Filling). f.rec.complete) is_buf;
  told = told ∙ ap (λ (f : Filling). said ++ take_line id f) is_buf ∙ ap (λ (at : BufferId). said ++ take_line at took.filling) took.is;
  moves =
      subst (λ g. Moves (line.take ∷ line.queue id.place g ∷ []) (takes_one (item id.place took.filling)) old new) (ap (λ (at : BufferId). at.generation) took.is)
      (moves_both (line.take ∷ []) (line.queue id.place id.generation ∷ []) (on_board (returned id.place)) (on_board (queued id)) (takes_one (item id.place took.filling)) old mid new took.moves moves (λ r. refl) (λ r. refl));
}
  where
    same_buf : (x : Option Filling) (f g : Filling) → x ≡ Some f → x ≡ Some g → f ≡ g
    same_buf x f g e d = cc

    is_buf : buf ≡ took.filling
    is_buf = same_buf (content_at mid.board id.place) buf took.filling lies took.lies
