-- The beginning of a live run, buffer by buffer, by a pass that is alone on an empty board.
use Rattle.std.proofs.Common.{◌≡◌, inl, inr, ℕ, zero, suc, ◌+◌, ◌<◌, ◌≤◌, List, [], ◌∷◌, ◌++◌, Ok, Err, refl, sym, ap, subst, ◌∙◌, arith, append_assoc, append-nil, length-append, eq-eqb, ◌==◌}
use Rattle.std.proofs.lemmas.List.{get_or-replicate}
use Rattle.std.proofs.lemmas.Bool.{cond-true}
use Rattle.gev_types.specs.Limits.{place_count}
use Rattle.gentl_types.specs.declared.buffer_id.BufferId.{BufferId}
use Rattle.gentl_types.specs.declared.errors.GcError.{GcError}
use Rattle.board_machine.specs.declared.events.Event.{Event}
use Rattle.board_machine.specs.Machine.{empty_board, IsActor, vacant, entry}
use Rattle.board_machine.specs.Histories.{Run, After, own_of}
use Rattle.board_machine.specs.Adding.{entries_of}
use Rattle.board_machine.specs.Actors.{born}
use Rattle.board_machine.specs.Laws.{IsAlone}
use Rattle.board_machine.proofs.Runs.{after-append, runs_rest}
use Rattle.board_calls.specs.Rounds.{refused_from}
use Rattle.board_calls.specs.Calls.{IsSize, OpensWith, Announces, Queues, Starts}
use Rattle.gentl_types.specs.declared.word.Word.{Word}
use Rattle.buffer_words.specs.Passes.{Token, own}
use Rattle.buffer_words.specs.Several.{EntersEach, EntersOf, BearNone}
use Rattle.buffer_words.proofs.Several.{each_none, each_then, of_then}
use Rattle.buffer_words.proofs.Working.{born_none}
use Rattle.live_crew.specs.Prepared.{PreparesOne, PreparesBuffer, PreparesEach, Prepares, LooksLast, FallsShort, SawOnly, HasBuffers, HasPrepared, LacksMemory}
use Rattle.live_crew.proofs.Buffers.{Goes, one_lacks, one_has, start_never_lacks}

-- ---- one buffer's two calls

pub queue_refused : (s t u : Token) (size : ℕ) (id : BufferId) (error : GcError) → EntersOf s (Announces size (Ok id)) t → EntersOf t (Queues id (Err error)) u → EntersOf s (PreparesBuffer size (Err error)) u
queue_refused s t u size id error first second =
    of_then s t u (Announces size (Ok id)) (Queues id (Err error)) (PreparesBuffer size (Err error))
    (λ es fs one two. inr (id, record { announced = es; queued = fs; is = refl; announces = one; queues = two })) first second

pub both_done : (s t u : Token) (size : ℕ) (id : BufferId) → EntersOf s (Announces size (Ok id)) t → EntersOf t (Queues id (Ok tt)) u → EntersOf s (PreparesBuffer size (Ok id)) u
both_done s t u size id first second =
    of_then s t u (Announces size (Ok id)) (Queues id (Ok tt)) (PreparesBuffer size (Ok id))
    (λ es fs one two. record { announced = es; queued = fs; is = refl; announces = one; queues = two }) first second

-- ---- a pass that is alone

-- the first actor is alone on the empty board
alone_there : IsAlone empty_board 0
alone_there = record { actor = λ e. cc; only = λ n is_one. only n is_one }
  where
    only : (n : ℕ) → IsActor empty_board n → n ≡ 0
    only zero is_one = refl
    only (suc n) is_one = absurd (is_one refl)

begins_alone : (s : Token) → s.number ≡ 0 → s.seen ≡ [] → IsAlone (After s.seen) s.number
begins_alone s number unseen = subst (λ l. IsAlone (After l) s.number) (sym unseen) (subst (λ n. IsAlone empty_board n) (sym number) alone_there)

no_buffers : HasBuffers 0 empty_board
no_buffers = record {
  unclosed = refl;
  idle = refl;
  wide = refl;
  taken = λ i less. absurd (omega arith);
  free = λ i more within. get_or-replicate place_count i vacant vacant within;
}

goes_alone : (s t : Token) (events : List Event) → Run t.seen → IsAlone (After s.seen) s.number → EntersEach s events t → Goes (After s.seen) s.number events (After t.seen)
goes_alone s t events run alone each =
    let only = (each.alone alone).only in
    let seen : t.seen ≡ s.seen ++ entries_of s.number events = each.seen ∙ ap (λ l. s.seen ++ l) only in
    record {
      runs = runs_rest empty_board s.seen (entries_of s.number events) (subst (λ l. Run l) seen run);
      after = ap (λ l. After l) seen ∙ after-append empty_board s.seen (entries_of s.number events);
    }

run_then : (s t u : Token) (K L : List Event → Type 0) → s.seen ≡ [] → EntersOf s K t → EntersOf t L u → Run u.seen
run_then s t u K L unseen first second = second.enters.run (first.enters.run (subst (λ l. Run l) (sym unseen) tt))

-- ---- buffer by buffer

pub none_prepared : (s : Token) (size : ℕ) → s.number ≡ 0 → s.seen ≡ [] → HasPrepared size 0 s s
none_prepared s size number unseen = record {
  ids = [];
  number = refl;
  enters = record { events = []; kind = refl; enters = each_none s };
  alone = begins_alone s number unseen;
  has = subst (λ l. HasBuffers 0 (After l)) (sym unseen) no_buffers;
}

each_later : (size : ℕ) (ids : List BufferId) (id : BufferId) (es fs : List Event) → PreparesEach size ids es → PreparesOne size id (Ok tt) fs → PreparesEach size (ids ++ id ∷ []) (es ++ fs)
each_later size [] id es fs none one = record { first = fs; rest = []; prepares = one; later = refl; is = ap (λ l. l ++ fs) none ∙ sym (append-nil fs) }
each_later size (i ∷ ids) id es fs many one = record {
  first = many.first;
  rest = many.rest ++ fs;
  prepares = many.prepares;
  later = each_later size ids id many.rest fs many.later one;
  is = ap (λ l. l ++ fs) many.is ∙ append_assoc many.first many.rest fs;
}

pub one_more_prepared : (size n : ℕ) (s t u : Token) (id : BufferId) → s.seen ≡ [] → HasPrepared size n s t → n < place_count → EntersOf t (PreparesBuffer size (Ok id)) u → HasPrepared size (n + 1) s u
one_more_prepared size n s t u id unseen before below one = record {
  ids = before.ids ++ id ∷ [];
  number = length-append before.ids (id ∷ []) ∙ ap (λ m. m + 1) before.number;
  enters = of_then s t u (PreparesEach size before.ids) (PreparesBuffer size (Ok id)) (PreparesEach size (before.ids ++ id ∷ []))
      (λ es fs many last. each_later size before.ids id es fs many last) before.enters one;
  alone = subst (λ m. IsAlone (After u.seen) m) (sym one.enters.number) (one.enters.alone before.alone).alone;
  has = one_has n size (After t.seen) t.number id one.events (After u.seen) before.has below (goes_alone t u one.events (run_then s t u (PreparesEach size before.ids) (PreparesBuffer size (Ok id)) unseen before.enters one) before.alone one.enters) one.kind;
}

pub lacks_memory : (size n buffers : ℕ) (s t u : Token) (error : GcError) → s.seen ≡ [] → HasPrepared size n s t → n < buffers → buffers ≤ place_count → IsSize size → EntersOf t (PreparesBuffer size (Err error)) u
    → LacksMemory size buffers s u
lacks_memory size n buffers s t u error unseen before fewer few fits one = record {
  ids = before.ids;
  fewer = omega (arith, before.number, fewer);
  last = one.events;
  looks = inr (one_lacks n size (After t.seen) t.number error one.events (After u.seen) before.has (omega (arith, fewer, few)) fits (goes_alone t u one.events (run_then s t u (PreparesEach size before.ids) (PreparesBuffer size (Err error)) unseen before.enters one) before.alone one.enters) one.kind);
  enters = record {
    events = before.enters.events ++ one.events;
    kind = (before.enters.events, before.enters.kind, refl);
    enters = each_then s t u before.enters.events one.events before.enters.enters one.enters;
  };
}

-- ---- what was seen

all_seen : (s t : Token) (events : List Event) → s.number ≡ 0 → s.seen ≡ [] → EntersEach s events t → t.seen ≡ entries_of 0 events
all_seen s t events number unseen each =
    each.seen ∙ (ap (λ l. l ++ each.between) unseen ∙ ((each.alone (begins_alone s number unseen)).only ∙ ap (λ n. entries_of n events) number))

pub saw_only : (s t : Token) (K : List Event → Type 0) → s.number ≡ 0 → s.seen ≡ [] → EntersOf s K t → SawOnly K t
saw_only s t K number unseen of = record { events = of.events; kind = of.kind; seen = all_seen s t of.events number unseen of.enters }

pub short_seen : (s t : Token) (size buffers : ℕ) → s.number ≡ 0 → s.seen ≡ [] → LacksMemory size buffers s t → SawOnly (FallsShort size buffers) t
short_seen s t size buffers number unseen lacks = record {
  events = lacks.enters.events;
  kind = record { ids = lacks.ids; fewer = lacks.fewer; prepared = lacks.enters.kind.0; each = lacks.enters.kind.1; last = lacks.last; looks = lacks.looks; is = lacks.enters.kind.2 };
  seen = all_seen s t lacks.enters.events number unseen lacks.enters.enters;
}

pub started : (s t u : Token) (size buffers : ℕ) → HasPrepared size buffers s t → EntersOf t (Starts (Ok tt)) u → EntersOf s (Prepares size buffers) u
started s t u size buffers before starts =
    of_then s t u (PreparesEach size before.ids) (Starts (Ok tt)) (Prepares size buffers)
    (λ es fs many last. record { ids = before.ids; number = before.number; prepared = es; each = many; started = fs; starts = last; is = refl }) before.enters starts

pub start_refused : (s t u : Token) (size buffers : ℕ) (error : GcError) (A : Type 0) → s.seen ≡ [] → HasPrepared size buffers s t → EntersOf t (Starts (Err error)) u → A
start_refused s t u size buffers error A unseen before starts =
    absurd (start_never_lacks buffers (After t.seen) t.number error starts.events (After u.seen) before.has (goes_alone t u starts.events (run_then s t u (PreparesEach size before.ids) (Starts (Err error)) unseen before.enters starts) before.alone starts.enters) starts.kind)

pub alone_still : (s t : Token) (K : List Event → Type 0) → s.number ≡ 0 → s.seen ≡ [] → EntersOf s K t → IsAlone (After t.seen) 0
alone_still s t K number unseen of = subst (λ n. IsAlone (After t.seen) n) number (of.enters.alone (begins_alone s number unseen)).alone

-- ---- nobody is split off

bear_both : (es fs : List Event) → BearNone es → BearNone fs → BearNone (es ++ fs)
bear_both [] fs first second = second
bear_both (e ∷ es) fs first second = (first.0, bear_both es fs first.1 second)

bear_refused : (i size : ℕ) (words : List Word) → BearNone (refused_from i size words)
bear_refused i size [] = tt
bear_refused i size (w ∷ words) = (refl, bear_refused (i + 1) size words)

bear_opens : (rest es : List Event) → BearNone rest → OpensWith rest es → BearNone es
bear_opens rest es none opens = subst (λ (fs : List Event). BearNone fs) (sym opens.is) (refl, none)

bear_one : (size : ℕ) (id : BufferId) (es : List Event) → PreparesOne size id (Ok tt) es → BearNone es
bear_one size id es one = subst (λ (fs : List Event). BearNone fs) (sym one.is) (bear_both one.announced one.queued announced queued)
  where
    announced : BearNone one.announced
    announced = bear_opens _ one.announced (bear_both (refused_from 0 size one.announces.1.0) _ (bear_refused 0 size one.announces.1.0) (refl, (refl, tt))) one.announces.1.2

    queued : BearNone one.queued
    queued = bear_opens _ one.queued (refl, (refl, tt)) one.queues.1

bear_each : (size : ℕ) (ids : List BufferId) (es : List Event) → PreparesEach size ids es → BearNone es
bear_each size [] es none = subst (λ (fs : List Event). BearNone fs) (sym none) tt
bear_each size (id ∷ ids) es many =
    subst (λ (fs : List Event). BearNone fs) (sym many.is) (bear_both many.first many.rest (bear_one size id many.first many.prepares) (bear_each size ids many.rest many.later))

pub bear_prepared : (size buffers : ℕ) (es : List Event) → Prepares size buffers es → BearNone es
bear_prepared size buffers es p =
    subst (λ (fs : List Event). BearNone fs) (sym p.is) (bear_both p.prepared p.started (bear_each size p.ids p.prepared p.each) (bear_opens _ p.started (refl, tt) p.starts))

bear_last : (es : List Event) → LooksLast es → BearNone es
bear_last es (inl none) = subst (λ (fs : List Event). BearNone fs) (sym none) tt
bear_last es (inr looks) = subst (λ (fs : List Event). BearNone fs) (sym looks.is) (refl, tt)

pub bear_short : (size buffers : ℕ) (es : List Event) → FallsShort size buffers es → BearNone es
bear_short size buffers es p = subst (λ (fs : List Event). BearNone fs) (sym p.is) (bear_both p.prepared p.last (bear_each size p.ids p.prepared p.each) (bear_last p.last p.looks))

-- the pass of the first actor
own_only : (n : ℕ) (events : List Event) → own_of n (entries_of n events) ≡ entries_of n events
own_only n [] = refl
own_only n (e ∷ events) = cond-true (n == n) (entry n e ∷ own_of n (entries_of n events)) (own_of n (entries_of n events)) (eq-eqb n n refl) ∙ ap (λ l. entry n e ∷ l) (own_only n events)

pub childless : (t : Token) (K : List Event → Type 0) → ((es : List Event) → K es → BearNone es) → t.number ≡ 0 → SawOnly K t → born (own t) ≡ []
childless t K bear number saw =
    ap (λ n. born (own_of n t.seen)) number
    ∙ (ap (λ l. born (own_of 0 l)) saw.seen
    ∙ (ap (λ l. born l) (own_only 0 saw.events) ∙ born_none 0 saw.events (bear saw.events saw.kind)))

-- ---- where memory was wanting

pub short_table : (s t : Token) (size buffers : ℕ) → LacksMemory size buffers s t → t.table ≡ s.table
short_table s t size buffers lacks = lacks.enters.enters.table

pub short_number : (s t : Token) (size buffers : ℕ) → s.number ≡ 0 → LacksMemory size buffers s t → t.number ≡ 0
short_number s t size buffers number lacks = lacks.enters.enters.number ∙ number

pub short_alone : (s t : Token) (size buffers : ℕ) → s.number ≡ 0 → s.seen ≡ [] → LacksMemory size buffers s t → IsAlone (After t.seen) 0
short_alone s t size buffers number unseen lacks = alone_still s t (λ events. (prepared : List Event) × PreparesEach size lacks.ids prepared × (events ≡ prepared ++ lacks.last)) number unseen lacks.enters

pub short_childless : (s t : Token) (size buffers : ℕ) → s.number ≡ 0 → s.seen ≡ [] → LacksMemory size buffers s t → born (own t) ≡ []
short_childless s t size buffers number unseen lacks =
    childless t (FallsShort size buffers) (bear_short size buffers) (short_number s t size buffers number lacks) (short_seen s t size buffers number unseen lacks)

-- ---- where all was done

pub started_only : (s t u : Token) (size buffers : ℕ) → s.number ≡ 0 → s.seen ≡ [] → HasPrepared size buffers s t → EntersOf t (Starts (Ok tt)) u → SawOnly (Prepares size buffers) u
started_only s t u size buffers number unseen before starts = saw_only s u (Prepares size buffers) number unseen (started s t u size buffers before starts)

pub started_table : (s t u : Token) (size buffers : ℕ) → HasPrepared size buffers s t → EntersOf t (Starts (Ok tt)) u → u.table ≡ s.table
started_table s t u size buffers before starts = (started s t u size buffers before starts).enters.table

pub started_number : (s t u : Token) (size buffers : ℕ) → s.number ≡ 0 → HasPrepared size buffers s t → EntersOf t (Starts (Ok tt)) u → u.number ≡ 0
started_number s t u size buffers number before starts = (started s t u size buffers before starts).enters.number ∙ number

pub started_alone : (s t u : Token) (size buffers : ℕ) → s.number ≡ 0 → s.seen ≡ [] → HasPrepared size buffers s t → EntersOf t (Starts (Ok tt)) u → IsAlone (After u.seen) 0
started_alone s t u size buffers number unseen before starts = alone_still s u (Prepares size buffers) number unseen (started s t u size buffers before starts)

pub started_childless : (s t u : Token) (size buffers : ℕ) → s.number ≡ 0 → s.seen ≡ [] → HasPrepared size buffers s t → EntersOf t (Starts (Ok tt)) u → born (own u) ≡ []
started_childless s t u size buffers number unseen before starts =
    childless u (Prepares size buffers) (bear_prepared size buffers) (started_number s t u size buffers number before starts) (started_only s t u size buffers number unseen before starts)
