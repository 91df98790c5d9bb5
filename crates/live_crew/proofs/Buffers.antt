-- What the preparation of one buffer leaves of a board, and why it's refused for want of memory alone.
use Rattle.std.proofs.Common.{◌≡◌, inl, inr, ℕ, ◌+◌, ◌<◌, true, false, List, [], ◌∷◌, ◌++◌, length, set, Ok, Err, refl, sym, ap, subst, ◌∙◌, arith, append-nil, length-set}
use Rattle.std.proofs.lemmas.List.{get_or-set_same}
use Rattle.gev_types.specs.Limits.{place_count}
use Rattle.gentl_types.specs.declared.buffer_id.BufferId.{BufferId}
use Rattle.gentl_types.specs.declared.errors.GcError.{GcError}
use Rattle.gentl_types.specs.declared.errors.GcError.TheVariants.{InvalidHandle, InvalidParameter, ResourceInUse, ResourceExhausted, OutOfMemory}
use Rattle.gentl_types.specs.declared.errors.Shown.TheVariants as shown
use Rattle.gentl_types.specs.declared.word.Word.{Word}
use Rattle.gentl_types.specs.declared.word.State.TheVariants.{Held, Away}
use Rattle.board_machine.specs.declared.events.Event.{Event}
use Rattle.board_machine.specs.declared.events.Event.TheVariants.{LookOut, Enrol, Grab, Lay, Pool, Start}
use Rattle.board_machine.specs.Machine.{Board, word_at, vacant, with_state, after_event, IsHeldAs}
use Rattle.board_machine.specs.Histories.{after_from, RunsFrom}
use Rattle.board_machine.specs.Adding.{entries_of}
use Rattle.board_machine.proofs.Adding.{entries_of-append}
use Rattle.board_machine.proofs.Runs.{after-append, runs_front, runs_rest}
use Rattle.board_calls.specs.Rounds.{refused_from}
use Rattle.board_calls.specs.Calls.{IsSize, LooksOut, Announces, Queues, Starts}
use Rattle.live_crew.specs.Prepared.{PreparesOne, PreparesBuffer, HasBuffers}
use Rattle.live_crew.proofs.Vacancies.{after_refused, not_free, takes_lowest, has_more}

-- These events are the next ones, and leave this board.
pub record Goes (b : Board) (k : ℕ) (events : List Event) (c : Board) : Type 0 where
  pub runs : RunsFrom b (entries_of k events)
  pub after : c ≡ after_from b (entries_of k events)

pub goes_first : (b : Board) (k : ℕ) (es fs : List Event) (c : Board) → Goes b k (es ++ fs) c → Goes b k es (after_from b (entries_of k es))
goes_first b k es fs c goes = record {
  runs = runs_front b (entries_of k es) (entries_of k fs) (subst (λ l. RunsFrom b l) (entries_of-append k es fs) goes.runs);
  after = refl;
}

pub goes_second : (b : Board) (k : ℕ) (es fs : List Event) (c : Board) → Goes b k (es ++ fs) c → Goes (after_from b (entries_of k es)) k fs c
goes_second b k es fs c goes = record {
  runs = runs_rest b (entries_of k es) (entries_of k fs) (subst (λ l. RunsFrom b l) (entries_of-append k es fs) goes.runs);
  after = goes.after ∙ (ap (λ l. after_from b l) (entries_of-append k es fs) ∙ after-append b (entries_of k es) (entries_of k fs));
}

goes_as : (b : Board) (k : ℕ) (es fs : List Event) (c : Board) → es ≡ fs → Goes b k es c → Goes b k fs c
goes_as b k es fs c e goes = subst (λ l. Goes b k l c) e goes

-- the output has no close mark
not_closed : (n : ℕ) (b : Board) (k : ℕ) (es : List Event) (c : Board) → HasBuffers n b → Goes b k es c → LooksOut true es → ⊥
not_closed n b k es c has goes looks =
    let g = goes_as b k es (LookOut looks.output true ∷ []) c looks.is goes in
    let e : true ≡ b.closed = g.runs.0.meets.1 in
    let f : b.closed ≡ false = has.unclosed in
    absurd (cc)

-- ---- an announce

-- a refused announce
pub announce_lacks : (n size : ℕ) (b : Board) (k : ℕ) (error : GcError) (es : List Event) (c : Board) → HasBuffers n b → n < place_count → IsSize size → Goes b k es c
    → Announces size (Err error) es → LooksOut false es
announce_lacks n size b k (InvalidHandle shown.Closed) es c has below fits goes announces = absurd (not_closed n b k es c has goes announces)
announce_lacks n size b k (InvalidParameter m) es c has below fits goes announces = absurd (announces.1 fits)
announce_lacks n size b k OutOfMemory es c has below fits goes announces = announces.1
announce_lacks n size b k ResourceExhausted es c has below fits goes announces =
    let words = announces.1.0 in
    let opens = announces.1.2 in
    let g = goes_as b k es (LookOut opens.output false ∷ refused_from 0 size words) c opens.is goes in
    let few = not_free n b k size words [] has below (subst (λ l. RunsFrom b (entries_of k l)) (sym (append-nil (refused_from 0 size words))) g.runs.1) in
    absurd (omega (arith, few, announces.1.1, below))
announce_lacks n size b k _ es c has below fits goes announces = absurd announces

-- the announce of a buffer, after its look and its refused tries
abbrev pub laid : Board → ℕ → ℕ → ℕ → ℕ → Board
laid b k size p g = after_from b (entries_of k (Enrol p size (Ok g) ∷ Lay p ∷ []))

pub announced_leaves : (b : Board) (k size : ℕ) (id : BufferId) (es : List Event) (c : Board) → Goes b k es c → Announces size (Ok id) es → c ≡ laid b k size id.place id.generation
announced_leaves b k size id es c goes announces =
    let opens = announces.1.2 in
    let events = Enrol id.place size (Ok id.generation) ∷ Lay id.place ∷ [] in
    let g = goes_as b k es (LookOut opens.output false ∷ (refused_from 0 size announces.1.0 ++ events)) c opens.is goes in
    g.after ∙ after_refused b k 0 size announces.1.0 events

pub announced_lowest : (n : ℕ) (b : Board) (k size : ℕ) (id : BufferId) (es : List Event) (c : Board) → HasBuffers n b → n < place_count → Goes b k es c → Announces size (Ok id) es → id.place ≡ n
announced_lowest n b k size id es c has below goes announces =
    let opens = announces.1.2 in
    let g = goes_as b k es (LookOut opens.output false ∷ (refused_from 0 size announces.1.0 ++ Enrol id.place size (Ok id.generation) ∷ Lay id.place ∷ [])) c opens.is goes in
    takes_lowest n b k size id.place id.generation announces.1.0 (Lay id.place ∷ []) has below announces.1.1 g.runs.1

-- the place is Held with the generation of the id
enrolled_word : (b : Board) (k size p g : ℕ) → length b.words ≡ place_count → p < place_count → word_at (after_event b k (Enrol p size (Ok g))) p ≡ record { state = Away; size = size; generation = g }
enrolled_word b k size p g wide below = get_or-set_same b.words p (record { state = Away; size = size; generation = g }) vacant (omega (arith, wide, below))

laid_word : (b : Board) (k size p g : ℕ) → length b.words ≡ place_count → p < place_count → word_at (laid b k size p g) p ≡ record { state = Held; size = size; generation = g }
laid_word b k size p g wide below =
    get_or-set_same (set b.words p (record { state = Away; size = size; generation = g })) p (with_state (word_at (after_event b k (Enrol p size (Ok g))) p) Held) vacant
    (omega (arith, wide, below, length-set b.words p (record { state = Away; size = size; generation = g })))
    ∙ ap (λ w. with_state w Held) (enrolled_word b k size p g wide below)

laid_held : (b : Board) (k size p g : ℕ) → length b.words ≡ place_count → p < place_count → IsHeldAs (word_at (laid b k size p g) p) g
laid_held b k size p g wide below =
    (ap (λ (w : Word). w.state) (laid_word b k size p g wide below), ap (λ (w : Word). w.generation) (laid_word b k size p g wide below))

-- ---- a queueing

-- a refused grab isn't one of a place that is Held so
grab_lacks : (b : Board) (k p g : ℕ) (w : Word) (es : List Event) (c : Board) (output : List ℕ) → IsHeldAs (word_at b p) g → Goes b k es c → es ≡ LookOut output false ∷ Grab p g (Err w) ∷ [] → ⊥
grab_lacks b k p g w es c output held goes is =
    let go = goes_as b k es (LookOut output false ∷ Grab p g (Err w) ∷ []) c is goes in
    go.runs.1.0.meets.2 (subst (λ v. IsHeldAs v g) (sym go.runs.1.0.meets.1) held)

queue_never_lacks : (b : Board) (k : ℕ) (id : BufferId) (error : GcError) (es : List Event) (c : Board) → b.closed ≡ false → id.place < place_count → IsHeldAs (word_at b id.place) id.generation
    → Goes b k es c → Queues id (Err error) es → ⊥
queue_never_lacks b k id (InvalidHandle shown.Closed) es c unclosed below held goes queues =
    let g = goes_as b k es (LookOut queues.output true ∷ []) c queues.is goes in
    let e : true ≡ b.closed = g.runs.0.meets.1 in absurd (cc)
queue_never_lacks b k id (InvalidHandle (shown.NoHandle n)) es c unclosed below held goes queues = absurd (omega (arith, queues.1.0, below))
queue_never_lacks b k id (InvalidHandle (shown.Word w)) es c unclosed below held goes queues =
    grab_lacks b k id.place id.generation w es c queues.2.output held goes (queues.2.is ∙ ap (λ l. LookOut queues.2.output false ∷ l) queues.1.2)
queue_never_lacks b k id (ResourceInUse (shown.Word w)) es c unclosed below held goes queues =
    grab_lacks b k id.place id.generation w es c queues.2.output held goes (queues.2.is ∙ ap (λ l. LookOut queues.2.output false ∷ l) queues.1.2)
queue_never_lacks b k id _ es c unclosed below held goes queues = absurd queues.1

queued_leaves : (b : Board) (k : ℕ) (id : BufferId) (es : List Event) (c : Board) → Goes b k es c → Queues id (Ok tt) es → c ≡ after_from b (entries_of k (Grab id.place id.generation (Ok tt) ∷ Pool id.place ∷ []))
queued_leaves b k id es c goes queues =
    (goes_as b k es (LookOut queues.1.output false ∷ Grab id.place id.generation (Ok tt) ∷ Pool id.place ∷ []) c queues.1.is goes).after

-- ---- the preparation of one buffer

-- a refused preparation wanted memory at its announce
pub one_lacks : (n size : ℕ) (b : Board) (k : ℕ) (error : GcError) (es : List Event) (c : Board) → HasBuffers n b → n < place_count → IsSize size → Goes b k es c
    → PreparesBuffer size (Err error) es → LooksOut false es
one_lacks n size b k error es c has below fits goes (inl announces) = announce_lacks n size b k error es c has below fits goes announces
one_lacks n size b k error es c has below fits goes (inr later) = absurd bad
  where
    id : BufferId
    id = later.0

    both : Goes b k (later.1.announced ++ later.1.queued) c
    both = goes_as b k es (later.1.announced ++ later.1.queued) c later.1.is goes

    middle : Board
    middle = after_from b (entries_of k later.1.announced)

    first : Goes b k later.1.announced middle
    first = goes_first b k later.1.announced later.1.queued c both

    lowest : id.place ≡ n
    lowest = announced_lowest n b k size id later.1.announced middle has below first later.1.announces

    is_laid : middle ≡ laid b k size id.place id.generation
    is_laid = announced_leaves b k size id later.1.announced middle first later.1.announces

    there : id.place < place_count
    there = omega (arith, lowest, below)

    bad : ⊥
    bad = queue_never_lacks middle k id error later.1.queued c (ap (λ (d : Board). d.closed) is_laid ∙ has.unclosed) there
        (subst (λ (d : Board). IsHeldAs (word_at d id.place) id.generation) (sym is_laid) (laid_held b k size id.place id.generation has.wide there))
        (goes_second b k later.1.announced later.1.queued c both) later.1.queues

-- a preparation puts a buffer at the lowest free place
pub one_has : (n size : ℕ) (b : Board) (k : ℕ) (id : BufferId) (es : List Event) (c : Board) → HasBuffers n b → n < place_count → Goes b k es c → PreparesOne size id (Ok tt) es → HasBuffers (n + 1) c
one_has n size b k id es c has below goes one = subst (λ m. HasBuffers (m + 1) c) lowest (subst (λ (d : Board). HasBuffers (id.place + 1) d) (sym is_queued) more)
  where
    both : Goes b k (one.announced ++ one.queued) c
    both = goes_as b k es (one.announced ++ one.queued) c one.is goes

    middle : Board
    middle = after_from b (entries_of k one.announced)

    first : Goes b k one.announced middle
    first = goes_first b k one.announced one.queued c both

    lowest : id.place ≡ n
    lowest = announced_lowest n b k size id one.announced middle has below first one.announces

    on : Board
    on = laid b k size id.place id.generation

    is_laid : middle ≡ on
    is_laid = announced_leaves b k size id one.announced middle first one.announces

    queued : List Event
    queued = Grab id.place id.generation (Ok tt) ∷ Pool id.place ∷ []

    is_queued : c ≡ after_from on (entries_of k queued)
    is_queued = queued_leaves middle k id one.queued c (goes_second b k one.announced one.queued c both) one.queues ∙ ap (λ (d : Board). after_from d (entries_of k queued)) is_laid

    more : HasBuffers (id.place + 1) (after_from on (entries_of k queued))
    more = has_more id.place b (after_from on (entries_of k queued))
        (record { state = Away; size = size; generation = id.generation })
        (with_state (word_at (after_event b k (Enrol id.place size (Ok id.generation))) id.place) Held)
        (with_state (word_at on id.place) Away)
        (subst (λ m. HasBuffers m b) (sym lowest) has) (omega (arith, lowest, below)) refl refl refl refl

-- ---- the start

pub start_never_lacks : (n : ℕ) (b : Board) (k : ℕ) (error : GcError) (es : List Event) (c : Board) → HasBuffers n b → Goes b k es c → Starts (Err error) es → ⊥
start_never_lacks n b k (InvalidHandle shown.Closed) es c has goes starts = not_closed n b k es c has goes starts
start_never_lacks n b k (ResourceInUse (shown.Word w)) es c has goes starts =
    let g = goes_as b k es (LookOut starts.2.output false ∷ Start (Err starts.0) ∷ []) c starts.2.is goes in
    absurd (omega (arith, g.runs.1.0.meets.0, g.runs.1.0.meets.1, has.idle))
start_never_lacks n b k _ es c has goes starts = absurd starts
