-- What a preparation adds: nobody is split off, and where the pass was alone nothing else was added.
use Rattle.std.proofs.Common.{◌≡◌, ℕ, zero, suc, ◌+◌, List, [], ◌∷◌, ◌++◌, Ok, Err, refl, sym, ap, subst, ◌∙◌, inr}
use Rattle.gentl_types.specs.declared.buffer_id.BufferId.{BufferId}
use Rattle.gentl_types.specs.declared.errors.GcError.{GcError}
use Rattle.gentl_types.specs.declared.word.Word.{Word}
use Rattle.board_machine.specs.declared.events.Entry.{Entry}
use Rattle.board_machine.specs.declared.events.Event.{Event}
use Rattle.board_machine.specs.Machine.{empty_board, IsActor}
use Rattle.board_machine.specs.Histories.{After, own_of}
use Rattle.board_machine.specs.Adding.{entries_of}
use Rattle.board_machine.specs.Actors.{born}
use Rattle.board_machine.specs.Laws.{IsAlone}
use Rattle.board_calls.specs.Rounds.{refused_from}
use Rattle.board_calls.specs.Calls.{OpensWith, Announces, Queues}
use Rattle.buffer_words.specs.Passes.{Token, own}
use Rattle.buffer_words.specs.Several.{EntersOf, BearNone}
use Rattle.buffer_words.proofs.Several.{of_then}
use Rattle.buffer_words.proofs.Working.{born_none}
use Rattle.gentl_events.specs.Shares.{Prepares, Divides, Shares}

-- the entries of both calls
pub queue_refused : (s t u : Token) (size : ℕ) (id : BufferId) (error : GcError) → EntersOf s (Announces size (Ok id)) t → EntersOf t (Queues id (Err error)) u → EntersOf s (Prepares size (Err error)) u
queue_refused s t u size id error first second =
    of_then s t u (Announces size (Ok id)) (Queues id (Err error)) (Prepares size (Err error))
    (λ es fs one two. inr (id, record { announced = es; queued = fs; is = refl; announces = one; queues = two })) first second

pub prepared : (s t u : Token) (size : ℕ) (id : BufferId) → EntersOf s (Announces size (Ok id)) t → EntersOf t (Queues id (Ok tt)) u → EntersOf s (Prepares size (Ok id)) u
prepared s t u size id first second =
    of_then s t u (Announces size (Ok id)) (Queues id (Ok tt)) (Prepares size (Ok id))
    (λ es fs one two. record { announced = es; queued = fs; is = refl; announces = one; queues = two }) first second

-- nobody is split off
bear_both : (es fs : List Event) → BearNone es → BearNone fs → BearNone (es ++ fs)
bear_both [] fs first second = second
bear_both (e ∷ es) fs first second = (first.0, bear_both es fs first.1 second)

bear_refused : (i size : ℕ) (words : List Word) → BearNone (refused_from i size words)
bear_refused i size [] = tt
bear_refused i size (w ∷ words) = (refl, bear_refused (i + 1) size words)

bear_opens : (rest es : List Event) → BearNone rest → OpensWith rest es → BearNone es
bear_opens rest es none opens = subst (λ (fs : List Event). BearNone fs) (sym opens.is) (refl, none)

bear_none : (size : ℕ) (id : BufferId) (es : List Event) → Prepares size (Ok id) es → BearNone es
bear_none size id es prepares = subst (λ (fs : List Event). BearNone fs) (sym prepares.is) (bear_both prepares.announced prepares.queued announced queued)
  where
    announced : BearNone prepares.announced
    announced = bear_opens _ prepares.announced (bear_both (refused_from 0 size prepares.announces.1.0) _ (bear_refused 0 size prepares.announces.1.0) (refl, (refl, tt))) prepares.announces.1.2

    queued : BearNone prepares.queued
    queued = bear_opens _ prepares.queued (refl, (refl, tt)) prepares.queues.1

-- the first actor is alone on the empty board
alone_there : IsAlone empty_board 0
alone_there = record { actor = λ e. cc; only = λ n is_one. only n is_one }
  where
    only : (n : ℕ) → IsActor empty_board n → n ≡ 0
    only zero is_one = refl
    only (suc n) is_one = absurd (is_one refl)

begins_alone : (s : Token) → s.number ≡ 0 → s.seen ≡ [] → IsAlone (After s.seen) s.number
begins_alone s number unseen = subst (λ l. IsAlone (After l) s.number) (sym unseen) (subst (λ n. IsAlone empty_board n) (sym number) alone_there)

pub alone_after : (s t : Token) (K : List Event → Type 0) → s.number ≡ 0 → s.seen ≡ [] → EntersOf s K t → IsAlone (After t.seen) 0
alone_after s t K number unseen of = subst (λ n. IsAlone (After t.seen) n) number (of.enters.alone (begins_alone s number unseen)).alone

-- what was added is all that was seen
all_seen : (s t : Token) (K : List Event → Type 0) → s.number ≡ 0 → s.seen ≡ [] → (of : EntersOf s K t) → t.seen ≡ entries_of 0 of.events
all_seen s t K number unseen of =
    of.enters.seen ∙ (ap (λ l. l ++ of.enters.between) unseen ∙ ((of.enters.alone (begins_alone s number unseen)).only ∙ ap (λ n. entries_of n of.events) number))

first_number : (s t : Token) (K : List Event → Type 0) → s.number ≡ 0 → EntersOf s K t → t.number ≡ 0
first_number s t K number of = of.enters.number ∙ number

pub none_born : (s t : Token) (size : ℕ) (id : BufferId) → s.number ≡ 0 → s.seen ≡ [] → EntersOf s (Prepares size (Ok id)) t → born (own t) ≡ []
none_born s t size id number unseen of =
    let own_is : own_of 0 t.seen ≡ entries_of 0 of.events =
    ap (own_of 0) (of.enters.seen ∙ ap (λ l. l ++ of.enters.between) unseen)
    ∙ subst (λ n. own_of n of.enters.between ≡ entries_of n of.events) number of.enters.own in
    ap (λ n. born (own_of n t.seen)) (first_number s t (Prepares size (Ok id)) number of)
    ∙ (ap born own_is ∙ born_none 0 of.events (bear_none size id of.events of.kind))

pub shared : (s t : Token) (seen : List Entry) (size : ℕ) (id : BufferId) → s.number ≡ 0 → s.seen ≡ [] → EntersOf s (Prepares size (Ok id)) t → Divides t.seen seen → Shares size id seen
shared s t seen size id number unseen of divided = record {
  prepared = of.events;
  prepares = of.kind;
  divides = subst (λ l. Divides l seen) (all_seen s t (Prepares size (Ok id)) number unseen of) divided;
}
