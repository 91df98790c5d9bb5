-- Each step keeps what a plain board keeps.
use Rattle.std.proofs.Common.{◌≡◌, ◌≢◌, ℕ, zero, suc, ◌+◌, ◌≤◌, ◌<◌, true, false, List, [], ◌∷◌, ◌++◌, length, get_or, set, slice_get, replicate, Option, Some, Ok, refl, sym, ap, subst, ◌∙◌, inl, inr, ◌⊎◌, arith, get_or-set_same, get_or-set_other}
use Rattle.gev_types.specs.Limits.{place_count, max_buffer_size}
use Rattle.std.proofs.lemmas.Bool.{cases_eq}
use Rattle.std.proofs.lemmas.List.{length-set, length-replicate}
use Rattle.gentl_types.specs.declared.word.Word.{Word}
use Rattle.gentl_types.specs.declared.word.State.{State}
use Rattle.gentl_types.specs.declared.word.State.TheVariants.{Vacant, Held, Away}
use Rattle.gev_types.specs.Filling.{Filling}
use Rattle.board_machine.specs.declared.events.Event.TheVariants.{Enrol, Grab, Lay, Vacate, Pool, Claim, SweepPool, Fill, Take, SweepOut, Split, Join}
use Rattle.board_machine.specs.declared.events.TakeEnd.TheVariants.{Taken}
use Rattle.board_machine.specs.Places.{same, times, put_all, tail}
use Rattle.board_machine.specs.Machine.{Board, Item, item, vacant, word_at, hand_at, hand, held, places, no_actor, empty_hands, empty_board, IsActor, InHand, IsHeldAs, CanEnrol, next, set_word, picks, drops, with_state, entry}
use Rattle.board_machine.specs.Owners.{tally, due, in_hands, IsCounted}
use Rattle.board_machine.proofs.Places.{same_self, same_other, times-put_all}
use Rattle.board_machine.proofs.Boards.{in_hands-set, in_hands-push, in_hand_of-le, actor_within, empty_is_actor}
use Rattle.board_machine.proofs.Counts.{due_le, in_places, tally_hand, tally_picks, tally_drops, stands_away, stands_below, hand_tally}
use Rattle.board_machine.proofs.Room.{has_room}
use Rattle.board_machine.proofs.Keeps.{keeps_next, empty_owned, empty_words}
use Rattle.board_calls.specs.Infos.{used}
use Rattle.board_model.specs.Plain.{PlainState, nothing, lying, IsPlain, AreKept}

-- a fact of a board at a view that is known
pub at_board : (P : Board → Type 0) (v s : PlainState) → v ≡ s → P s.board → P v.board
at_board P v s e h = subst (λ (t : PlainState). P t.board) (sym e) h

pub at_state : (P : PlainState → Type 0) (v s : PlainState) → v ≡ s → P s → P v
at_state P v s e h = subst P (sym e) h

due_used : (s : State) → due s ≤ used s
due_used Vacant = omega arith
due_used Held = omega arith
due_used Away = omega arith

-- where nothing lies, the place is in no queue
pub lifted_nowhere : (b : Board) (c : List (Option Filling)) (i : ℕ) → IsPlain b c → lying c i ≡ nothing → times i b.pool + times i (places b.out) ≡ 0
lifted_nowhere b c i p e = omega (arith, p.lifted i e, p.owned.once i, due_used (word_at b i).state)

pub held_has : (b : Board) (c : List (Option Filling)) (i : ℕ) → IsPlain b c → (word_at b i).state ≡ Held → lying c i ≢ nothing
held_has b c i p e none =
    let one : used (word_at b i).state ≡ 1 = ap used e in
    let zero_due : due (word_at b i).state ≡ 0 = ap due e in
    omega (arith, p.lifted i none, p.owned.once i, one, zero_due)

pub pooled_has : (b : Board) (c : List (Option Filling)) (i : ℕ) → IsPlain b c → 1 ≤ times i b.pool → lying c i ≢ nothing
pooled_has b c i p some none = omega (arith, lifted_nowhere b c i p none, some)

pub output_has : (b : Board) (c : List (Option Filling)) (i : ℕ) → IsPlain b c → 1 ≤ times i (places b.out) → lying c i ≢ nothing
output_has b c i p some none = omega (arith, lifted_nowhere b c i p none, some)

pub are_kept : (s : PlainState) → IsPlain s.board s.contents → AreKept s
are_kept s p = record {
  held = λ i e. held_has s.board s.contents i p e;
  pooled = λ i some. pooled_has s.board s.contents i p some;
  output = p.kept;
}

-- what has to hold at a place that a step changes
pub record Here (b : Board) (c : List (Option Filling)) (i : ℕ) : Type 0 where
  pub sized : (f : Filling) → lying c i ≡ Some f → length f.bytes ≡ (word_at b i).size
  pub empty : (word_at b i).state ≡ Vacant → lying c i ≡ nothing
  pub lifted : lying c i ≡ nothing → used (word_at b i).state ≡ in_hands i b.hands

-- what a step at one place leaves
pub record Apart (b new : Board) (c d : List (Option Filling)) (i : ℕ) : Type 0 where
  pub words : (j : ℕ) → j ≢ i → word_at new j ≡ word_at b j
  pub lying_there : (j : ℕ) → j ≢ i → lying d j ≡ lying c j
  pub hands : (j : ℕ) → j ≢ i → in_hands j new.hands ≡ in_hands j b.hands

-- the output's entries have what lies at their places
abbrev pub OutKept : List Item → List (Option Filling) → Type 0
OutKept out c = (n : ℕ) (x : Item) → slice_get out n ≡ Some x → lying c x.place ≡ Some x.filling

pub plain_at : (b new : Board) (c d : List (Option Filling)) (i : ℕ) → IsPlain b c → IsCounted new → length d ≡ place_count → Apart b new c d i → Here new d i → OutKept new.out d → IsPlain new d
plain_at b new c d i p owned wide apart here kept = record {
  owned = owned;
  wide = wide;
  sized = λ j f e. sized_at j f e (cases_eq j i);
  empty = λ j e. empty_at j e (cases_eq j i);
  lifted = λ j e. lifted_at j e (cases_eq j i);
  kept = kept;
}
  where
    sized_at : (j : ℕ) (f : Filling) → lying d j ≡ Some f → (j ≡ i) ⊎ (j ≢ i) → length f.bytes ≡ (word_at new j).size
    sized_at j f e (inl at) =
        let P : ℕ → Type 0 = λ n. lying d n ≡ Some f → length f.bytes ≡ (word_at new n).size in
        subst P (sym at) (here.sized f) e
    sized_at j f e (inr off) =
        p.sized j f (sym (apart.lying_there j off) ∙ e) ∙ sym (ap (λ (w : Word). w.size) (apart.words j off))

    empty_at : (j : ℕ) → (word_at new j).state ≡ Vacant → (j ≡ i) ⊎ (j ≢ i) → lying d j ≡ nothing
    empty_at j e (inl at) =
        let P : ℕ → Type 0 = λ n. (word_at new n).state ≡ Vacant → lying d n ≡ nothing in
        subst P (sym at) here.empty e
    empty_at j e (inr off) =
        apart.lying_there j off ∙ p.empty j (sym (ap (λ (w : Word). w.state) (apart.words j off)) ∙ e)

    lifted_at : (j : ℕ) → lying d j ≡ nothing → (j ≡ i) ⊎ (j ≢ i) → used (word_at new j).state ≡ in_hands j new.hands
    lifted_at j e (inl at) =
        let P : ℕ → Type 0 = λ n. lying d n ≡ nothing → used (word_at new n).state ≡ in_hands n new.hands in
        subst P (sym at) here.lifted e
    lifted_at j e (inr off) =
        ap (λ (w : Word). used w.state) (apart.words j off) ∙ p.lifted j (sym (apart.lying_there j off) ∙ e) ∙ sym (apart.hands j off)

other_word : (b : Board) (i j : ℕ) (w : Word) → j ≢ i → get_or (set b.words i w) j vacant ≡ word_at b j
other_word b i j w off = get_or-set_other b.words i j w vacant off

other_lying : (c : List (Option Filling)) (i j : ℕ) (x : Option Filling) → j ≢ i → lying (set c i x) j ≡ lying c j
other_lying c i j x off = get_or-set_other c i j x nothing off

-- in a hand, and so in no queue, and in one hand once
pub in_hand_once : (b : Board) (k i : ℕ) → IsCounted b → InHand b k i → (times i b.pool + times i (places b.out) ≡ 0) × (in_hands i b.hands ≡ 1)
in_hand_once b k i owned h =
    let some : 1 ≤ in_hands i b.hands = omega (arith, in_hand_of-le i b.hands k, h) in (
      omega (arith, some, owned.once i, due_le (word_at b i).state),
      omega (arith, some, owned.once i, due_le (word_at b i).state),
    )

pub in_hand_below : (b : Board) (k i : ℕ) → IsCounted b → InHand b k i → i < place_count
in_hand_below b k i owned h = stands_below b i owned (hand_tally b k i h)

pub in_hand_away : (b : Board) (k i : ℕ) → IsCounted b → InHand b k i → (word_at b i).state ≡ Away
in_hand_away b k i owned h = stands_away b i owned (hand_tally b k i h)

-- a place whose word is not Away stands nowhere
pub nowhere : (b : Board) (i : ℕ) → IsCounted b → due (word_at b i).state ≡ 0 → tally b i ≡ 0
nowhere b i owned none = owned.once i ∙ none

not_vacant : (s t : State) → s ≡ t → t ≢ Vacant → s ≢ Vacant
not_vacant s t e used_up v = used_up (sym e ∙ v)

away_used : Away ≢ Vacant
away_used e = cc

held_used : Held ≢ Vacant
held_used e = cc

-- entries of the output at other places
pub out_apart : (out : List Item) (c : List (Option Filling)) (i : ℕ) (x : Option Filling) → times i (places out) ≡ 0 → OutKept out c → OutKept out (set c i x)
out_apart out c i x none kept n y e = other_lying c i y.place x off ∙ kept n y e
  where
    off : y.place ≢ i
    off at =
        let equal : times y.place (places out) ≡ times i (places out) = ap (λ j. times j (places out)) at in
        omega (arith, in_places out n y e, equal, none)

pub out_tail : (out : List Item) (c : List (Option Filling)) → OutKept out c → OutKept (tail out) c
out_tail [] c kept n x e = kept n x e
out_tail (y ∷ out) c kept n x e = kept (suc n) x e

pub out_push : (out : List Item) (c : List (Option Filling)) (y : Item) → lying c y.place ≡ Some y.filling → OutKept out c → OutKept (out ++ y ∷ []) c
out_push [] c y here kept zero x e =
    let same_item : y ≡ x = cc in
    subst (λ (v : Item). lying c v.place ≡ Some v.filling) same_item here
out_push [] c y here kept (suc n) x e = absurd (cc)
out_push (z ∷ out) c y here kept zero x e = kept zero x e
out_push (z ∷ out) c y here kept (suc n) x e = out_push out c y here (λ m v h. kept (suc m) v h) n x e

-- the changed place, where its buffer lies and its word keeps the size
here_lying : (b new : Board) (c : List (Option Filling)) (i : ℕ) → IsPlain b c → lying c i ≢ nothing → (word_at new i).size ≡ (word_at b i).size → (word_at new i).state ≢ Vacant → Here new c i
here_lying b new c i p has size used_up = record {
  sized = λ f e. p.sized i f e ∙ sym size;
  empty = λ e. absurd (used_up e);
  lifted = λ e. absurd (has e);
}

-- the changed place, where a buffer comes to lie
here_put : (new : Board) (c : List (Option Filling)) (i : ℕ) (f : Filling) → i < length c → length f.bytes ≡ (word_at new i).size → (word_at new i).state ≢ Vacant → Here new (set c i (Some f)) i
here_put new c i f within size used_up = record {
  sized = λ g e. let equal : f ≡ g = one_filling f g (sym lies ∙ e) in sym (ap (λ (h : Filling). length h.bytes) equal) ∙ size;
  empty = λ e. absurd (used_up e);
  lifted = λ e. absurd (some_nothing f (sym lies ∙ e));
}
  where
    lies : lying (set c i (Some f)) i ≡ Some f
    lies = get_or-set_same c i (Some f) nothing within

    one_filling : (f g : Filling) → Some f ≡ Some g → f ≡ g
    one_filling f g e = cc

    some_nothing : (f : Filling) → Some f ≢ nothing
    some_nothing f e = cc

-- the changed place, where nothing lies any more
here_gone : (new : Board) (c : List (Option Filling)) (i : ℕ) → i < length c → used (word_at new i).state ≡ in_hands i new.hands → Here new (set c i nothing) i
here_gone new c i within count = record {
  sized = λ f e. absurd (nothing_some f (sym lies ∙ e));
  empty = λ e. lies;
  lifted = λ e. count;
}
  where
    lies : lying (set c i nothing) i ≡ nothing
    lies = get_or-set_same c i nothing nothing within

    nothing_some : (f : Filling) → nothing ≢ Some f
    nothing_some f e = cc

within_words : (b : Board) (i : ℕ) → IsCounted b → i < place_count → i < length b.words
within_words b i owned below = omega (arith, owned.wide, below)

-- a place that comes into a hand with another word
picks_apart : (b : Board) (c d : List (Option Filling)) (k i : ℕ) (w : Word) → IsActor b k → ((j : ℕ) → j ≢ i → lying d j ≡ lying c j) → Apart b (set_word (picks b k i) i w) c d i
picks_apart b c d k i w actor lies = record {
  words = λ j off. other_word b i j w off;
  lying_there = lies;
  hands = λ j off. omega (arith, tally_picks b k i j actor, same_other j i off);
}

-- a place that leaves a hand with another word
drops_apart : (b : Board) (c d : List (Option Filling)) (k i : ℕ) (w : Word) → IsActor b k → InHand b k i → ((j : ℕ) → j ≢ i → lying d j ≡ lying c j) → Apart b (set_word (drops b k i) i w) c d i
drops_apart b c d k i w actor in_hand lies = record {
  words = λ j off. other_word b i j w off;
  lying_there = lies;
  hands = λ j off. omega (arith, tally_drops b k i j actor in_hand, same_other j i off);
}

pub plain_enrol : (b : Board) (c : List (Option Filling)) (k i g : ℕ) (f : Filling) → IsPlain b c → IsActor b k → i < place_count → 1 ≤ length f.bytes → length f.bytes ≤ max_buffer_size → CanEnrol (word_at b i) → g ≡ (word_at b i).generation + 1 → IsPlain (next b (entry k (Enrol i (length f.bytes) (Ok g)))) (set c i (Some f))
plain_enrol b c k i g f p actor below some in_limits can next_one =
    plain_at b new c (set c i (Some f)) i p owned (length-set c i (Some f) ∙ p.wide)
    (picks_apart b c (set c i (Some f)) k i w actor (λ j off. other_lying c i j (Some f) off))
    (here_put new c i f (omega (arith, p.wide, below)) (sym (ap (λ (v : Word). v.size) is_word)) (not_vacant (word_at new i).state Away (ap (λ (v : Word). v.state) is_word) away_used))
    (out_apart b.out c i (Some f) (omega (arith, nowhere b i p.owned (ap due can.0))) p.kept)
  where
    w : Word
    w = record { state = Away; size = length f.bytes; generation = g }

    new : Board
    new = set_word (picks b k i) i w

    owned : IsCounted new
    owned = keeps_next b (entry k (Enrol i (length f.bytes) (Ok g))) p.owned (record { actor = actor; meets = (below, some, in_limits, can, next_one) })

    is_word : word_at new i ≡ w
    is_word = get_or-set_same b.words i w vacant (within_words b i p.owned below)

pub plain_grab : (b : Board) (c : List (Option Filling)) (k i g : ℕ) (done : Unit {0}) → IsPlain b c → IsActor b k → i < place_count → IsHeldAs (word_at b i) g → IsPlain (next b (entry k (Grab i g (Ok done)))) c
plain_grab b c k i g done p actor below is_held =
    plain_at b new c c i p owned p.wide
    (picks_apart b c c k i w actor (λ j off. refl))
    (here_lying b new c i p (held_has b c i p is_held.0) (ap (λ (v : Word). v.size) is_word) (not_vacant (word_at new i).state Away (ap (λ (v : Word). v.state) is_word) away_used))
    p.kept
  where
    w : Word
    w = with_state (word_at b i) Away

    new : Board
    new = set_word (picks b k i) i w

    owned : IsCounted new
    owned = keeps_next b (entry k (Grab i g (Ok done))) p.owned (record { actor = actor; meets = (below, is_held) })

    is_word : word_at new i ≡ w
    is_word = get_or-set_same b.words i w vacant (within_words b i p.owned below)

pub plain_lay : (b : Board) (c : List (Option Filling)) (k i : ℕ) → IsPlain b c → IsActor b k → InHand b k i → lying c i ≢ nothing → IsPlain (next b (entry k (Lay i))) c
plain_lay b c k i p actor in_hand has =
    plain_at b new c c i p owned p.wide
    (drops_apart b c c k i w actor in_hand (λ j off. refl))
    (here_lying b new c i p has (ap (λ (v : Word). v.size) is_word) (not_vacant (word_at new i).state Held (ap (λ (v : Word). v.state) is_word) held_used))
    p.kept
  where
    w : Word
    w = with_state (word_at b i) Held

    new : Board
    new = set_word (drops b k i) i w

    owned : IsCounted new
    owned = keeps_next b (entry k (Lay i)) p.owned (record { actor = actor; meets = in_hand })

    is_word : word_at new i ≡ w
    is_word = get_or-set_same b.words i w vacant (within_words b i p.owned (in_hand_below b k i p.owned in_hand))

pub plain_vacate : (b : Board) (c : List (Option Filling)) (k i : ℕ) → IsPlain b c → IsActor b k → InHand b k i → IsPlain (next b (entry k (Vacate i))) (set c i nothing)
plain_vacate b c k i p actor in_hand =
    plain_at b new c (set c i nothing) i p owned (length-set c i nothing ∙ p.wide)
    (drops_apart b c (set c i nothing) k i w actor in_hand (λ j off. other_lying c i j nothing off))
    (here_gone new c i (omega (arith, p.wide, below)) (omega (arith, unused, tally_drops b k i i actor in_hand, same_self i, (in_hand_once b k i p.owned in_hand).1)))
    (out_apart b.out c i nothing (omega (arith, (in_hand_once b k i p.owned in_hand).0)) p.kept)
  where
    w : Word
    w = with_state (word_at b i) Vacant

    new : Board
    new = set_word (drops b k i) i w

    below : i < place_count
    below = in_hand_below b k i p.owned in_hand

    owned : IsCounted new
    owned = keeps_next b (entry k (Vacate i)) p.owned (record { actor = actor; meets = in_hand })

    unused : used (word_at new i).state ≡ 0
    unused = ap (λ (v : Word). used v.state) (get_or-set_same b.words i w vacant (within_words b i p.owned below))

pub plain_lift : (b : Board) (c : List (Option Filling)) (k i : ℕ) → IsPlain b c → InHand b k i → IsPlain b (set c i nothing)
plain_lift b c k i p in_hand =
    plain_at b b c (set c i nothing) i p p.owned (length-set c i nothing ∙ p.wide)
    (record { words = λ j off. refl; lying_there = λ j off. other_lying c i j nothing off; hands = λ j off. refl })
    (here_gone b c i (omega (arith, p.wide, in_hand_below b k i p.owned in_hand)) (omega (arith, one, (in_hand_once b k i p.owned in_hand).1)))
    (out_apart b.out c i nothing (omega (arith, (in_hand_once b k i p.owned in_hand).0)) p.kept)
  where
    one : used (word_at b i).state ≡ 1
    one = ap used (in_hand_away b k i p.owned in_hand)

pub plain_set_down : (b : Board) (c : List (Option Filling)) (k i : ℕ) (f : Filling) → IsPlain b c → InHand b k i → length f.bytes ≡ (word_at b i).size → IsPlain b (set c i (Some f))
plain_set_down b c k i f p in_hand size =
    plain_at b b c (set c i (Some f)) i p p.owned (length-set c i (Some f) ∙ p.wide)
    (record { words = λ j off. refl; lying_there = λ j off. other_lying c i j (Some f) off; hands = λ j off. refl })
    (here_put b c i f (omega (arith, p.wide, in_hand_below b k i p.owned in_hand)) size (not_vacant (word_at b i).state Away (in_hand_away b k i p.owned in_hand) away_used))
    (out_apart b.out c i (Some f) (omega (arith, (in_hand_once b k i p.owned in_hand).0)) p.kept)

pub plain_pool : (b : Board) (c : List (Option Filling)) (k i : ℕ) → IsPlain b c → IsActor b k → InHand b k i → lying c i ≢ nothing → IsPlain (next b (entry k (Pool i))) c
plain_pool b c k i p actor in_hand has =
    plain_at b (next b (entry k (Pool i))) c c i p
    (keeps_next b (entry k (Pool i)) p.owned (record { actor = actor; meets = in_hand }))
    p.wide
    (record { words = λ j off. refl; lying_there = λ j off. refl; hands = λ j off. omega (arith, tally_drops b k i j actor in_hand, same_other j i off) })
    (here_lying b (next b (entry k (Pool i))) c i p has refl (not_vacant (word_at b i).state Away (in_hand_away b k i p.owned in_hand) away_used))
    p.kept

pub plain_claim : (b : Board) (c : List (Option Filling)) (k i : ℕ) (rest : List ℕ) → IsPlain b c → IsActor b k → b.pool ≡ i ∷ rest → IsPlain (next b (entry k (Claim (Some i)))) c
plain_claim b c k i rest p actor first =
    plain_at b (next b (entry k (Claim (Some i)))) c c i p
    (keeps_next b (entry k (Claim (Some i))) p.owned (record { actor = actor; meets = (rest, first) }))
    p.wide
    (record { words = λ j off. refl; lying_there = λ j off. refl; hands = λ j off. omega (arith, tally_picks b k i j actor, same_other j i off) })
    (here_lying b (next b (entry k (Claim (Some i)))) c i p (pooled_has b c i p some) refl (not_vacant (word_at b i).state Away (stands_away b i p.owned (omega (arith, some))) away_used))
    p.kept
  where
    some : 1 ≤ times i b.pool
    some = let e : times i b.pool ≡ same i i + times i rest = ap (λ is. times i is) first in omega (arith, e, same_self i)

pub plain_take : (b : Board) (c : List (Option Filling)) (k i : ℕ) (f : Filling) (rest : List Item) → IsPlain b c → IsActor b k → b.closed ≡ false → b.out ≡ item i f ∷ rest → IsPlain (next b (entry k (Take (Taken i)))) c
plain_take b c k i f rest p actor open_mark first =
    plain_at b (next b (entry k (Take (Taken i)))) c c i p
    (keeps_next b (entry k (Take (Taken i))) p.owned (record { actor = actor; meets = (open_mark, (f, rest, first)) }))
    p.wide
    (record { words = λ j off. refl; lying_there = λ j off. refl; hands = λ j off. omega (arith, tally_picks b k i j actor, same_other j i off) })
    (here_lying b (next b (entry k (Take (Taken i)))) c i p (output_has b c i p some) refl (not_vacant (word_at b i).state Away (stands_away b i p.owned (omega (arith, some))) away_used))
    (out_tail b.out c p.kept)
  where
    some : 1 ≤ times i (places b.out)
    some = let e : times i (places b.out) ≡ same i i + times i (places rest) = ap (λ xs. times i (places xs)) first in omega (arith, e, same_self i)

pub plain_fill : (b : Board) (c : List (Option Filling)) (k i : ℕ) (f : Filling) → IsPlain b c → IsActor b k → InHand b k i → length f.bytes ≡ (word_at b i).size → b.closed ≡ false → IsPlain (next b (entry k (Fill i f true))) (set c i (Some f))
plain_fill b c k i f p actor in_hand size open_mark =
    plain_at b (next b (entry k (Fill i f true))) c (set c i (Some f)) i p
    (keeps_next b (entry k (Fill i f true)) p.owned (record { actor = actor; meets = (in_hand, size, open_mark) }))
    (length-set c i (Some f) ∙ p.wide)
    (record { words = λ j off. refl; lying_there = λ j off. other_lying c i j (Some f) off; hands = λ j off. omega (arith, tally_drops b k i j actor in_hand, same_other j i off) })
    (here_put (next b (entry k (Fill i f true))) c i f within size (not_vacant (word_at b i).state Away (in_hand_away b k i p.owned in_hand) away_used))
    (out_push b.out (set c i (Some f)) (item i f) (get_or-set_same c i (Some f) nothing within)
    (out_apart b.out c i (Some f) (omega (arith, (in_hand_once b k i p.owned in_hand).0)) p.kept))
  where
    within : i < length c
    within = omega (arith, p.wide, in_hand_below b k i p.owned in_hand)

-- where nothing lies, a sweep brings nothing into a hand
swept_count : (b : Board) (c : List (Option Filling)) (k j : ℕ) (is : List ℕ) → IsPlain b c → IsActor b k → times j is ≤ times j b.pool + times j (places b.out) → lying c j ≡ nothing → used (word_at b j).state ≡ in_hands j (set b.hands k (Some (put_all is (hand b k))))
swept_count b c k j is p actor few e =
    omega (arith, p.lifted j e, few, lifted_nowhere b c j p e, tally_hand b k j (put_all is (hand b k)) actor, times-put_all j is (hand b k))

pub plain_sweep_pool : (b : Board) (c : List (Option Filling)) (k : ℕ) → IsPlain b c → IsActor b k → IsPlain (next b (entry k (SweepPool b.pool))) c
plain_sweep_pool b c k p actor = record {
  owned = keeps_next b (entry k (SweepPool b.pool)) p.owned (record { actor = actor; meets = refl });
  wide = p.wide;
  sized = p.sized;
  empty = p.empty;
  lifted = λ j e. swept_count b c k j b.pool p actor (omega arith) e;
  kept = p.kept;
}

pub plain_sweep_out : (b : Board) (c : List (Option Filling)) (k : ℕ) → IsPlain b c → IsActor b k → IsPlain (next b (entry k (SweepOut (places b.out)))) c
plain_sweep_out b c k p actor = record {
  owned = keeps_next b (entry k (SweepOut (places b.out))) p.owned (record { actor = actor; meets = refl });
  wide = p.wide;
  sized = p.sized;
  empty = p.empty;
  lifted = λ j e. swept_count b c k j (places b.out) p actor (omega arith) e;
  kept = λ n x e. absurd (cc);
}

pub plain_split : (b : Board) (c : List (Option Filling)) (k : ℕ) → IsPlain b c → IsActor b k → IsPlain (next b (entry k (Split (length b.hands)))) c
plain_split b c k p actor = record {
  owned = keeps_next b (entry k (Split (length b.hands))) p.owned (record { actor = actor; meets = refl });
  wide = p.wide;
  sized = p.sized;
  empty = p.empty;
  lifted = λ j e. omega (arith, p.lifted j e, in_hands-push j b.hands empty_hands);
  kept = p.kept;
}

pub plain_join : (b : Board) (c : List (Option Filling)) (k n : ℕ) → IsPlain b c → IsActor b k → hand_at b n ≡ empty_hands → n ≢ k → IsPlain (next b (entry k (Join n))) c
plain_join b c k n p actor empty other = record {
  owned = keeps_next b (entry k (Join n)) p.owned (record { actor = actor; meets = (empty, other) });
  wide = p.wide;
  sized = p.sized;
  empty = p.empty;
  lifted = λ j e. omega (arith, p.lifted j e, in_hands-set j b.hands n no_actor (actor_within b n (empty_is_actor b n empty)), none j);
  kept = p.kept;
}
  where
    none : (j : ℕ) → times j (hand b n) ≡ 0
    none j = ap (λ h. times j (held h)) empty

nothing_lies : (n i : ℕ) → lying (replicate n nothing) i ≡ nothing
nothing_lies zero i = refl
nothing_lies (suc n) zero = refl
nothing_lies (suc n) (suc i) = nothing_lies n i

pub plain_empty : IsPlain empty_board (replicate place_count nothing)
plain_empty = record {
  owned = empty_owned;
  wide = length-replicate place_count nothing;
  sized = λ i f e. absurd (nothing_some f (sym (nothing_lies place_count i) ∙ e));
  empty = λ i e. nothing_lies place_count i;
  lifted = λ i e. ap (λ (w : Word). used w.state) (empty_words place_count i);
  kept = λ n x e. absurd (cc);
}
  where
    nothing_some : (f : Filling) → nothing ≢ Some f
    nothing_some f e = cc

-- a place that waits in the pool, or in the output, is in no hand
pub pool_missing : (b : Board) (k : ℕ) (is : List ℕ) → is ≡ b.pool → IsCounted b → (i : ℕ) → times i is + times i (hand b k) ≤ 1
pool_missing b k is all owned i =
    let e : times i is ≡ times i b.pool = ap (λ js. times i js) all in
    omega (arith, e, owned.once i, due_le (word_at b i).state, in_hand_of-le i b.hands k)

pub out_missing : (b : Board) (k : ℕ) (is : List ℕ) → is ≡ places b.out → IsCounted b → (i : ℕ) → times i is + times i (hand b k) ≤ 1
out_missing b k is all owned i =
    let e : times i is ≡ times i (places b.out) = ap (λ js. times i js) all in
    omega (arith, e, owned.once i, due_le (word_at b i).state, in_hand_of-le i b.hands k)

pub out_below : (b : Board) (is : List ℕ) → is ≡ places b.out → IsCounted b → (i : ℕ) → 1 ≤ times i is → i < place_count
out_below b is all owned i some =
    let e : times i is ≡ times i (places b.out) = ap (λ js. times i js) all in
    stands_below b i owned (omega (arith, e, some))

pub first_missing : (b : Board) (k i : ℕ) (is rest : List ℕ) → is ≡ i ∷ rest → ((j : ℕ) → times j is + times j (hand b k) ≤ 1) → times i (hand b k) ≡ 0
first_missing b k i is rest first missing =
    let e : times i is ≡ same i i + times i rest = ap (λ js. times i js) first in
    omega (arith, e, same_self i, missing i)

pub hand_missing : (b : Board) (k i : ℕ) → IsCounted b → due (word_at b i).state ≡ 0 → times i (hand b k) ≡ 0
hand_missing b k i owned none = omega (arith, nowhere b i owned none, in_hand_of-le i b.hands k)

-- a place in hand isn't in the pool, and isn't in the output
pub hand_not_pooled : (b : Board) (k i : ℕ) → IsCounted b → InHand b k i → times i b.pool ≡ 0
hand_not_pooled b k i owned h = omega (arith, (in_hand_once b k i owned h).0)

pub hand_not_out : (b : Board) (k i : ℕ) (is : List ℕ) → is ≡ places b.out → IsCounted b → InHand b k i → times i is ≡ 0
hand_not_out b k i is all owned h =
    let e : times i is ≡ times i (places b.out) = ap (λ js. times i js) all in
    omega (arith, e, (in_hand_once b k i owned h).0)

pub vacant_not_out : (b : Board) (i : ℕ) (is : List ℕ) → is ≡ places b.out → IsCounted b → (word_at b i).state ≡ Vacant → times i is ≡ 0
vacant_not_out b i is all owned state =
    let e : times i is ≡ times i (places b.out) = ap (λ js. times i js) all in
    omega (arith, e, nowhere b i owned (ap due state))

-- the output has room for a place in hand
pub out_room : (b : Board) (k i : ℕ) (is : List ℕ) → is ≡ places b.out → IsCounted b → InHand b k i → length is < place_count
out_room b k i is all owned h =
    has_room place_count i is (record { once = λ j. few j; below = out_below b is all owned }) (in_hand_below b k i owned h) (hand_not_out b k i is all owned h)
  where
    few : (j : ℕ) → times j is ≤ 1
    few j =
        let e : times j is ≡ times j (places b.out) = ap (λ js. times j js) all in
        omega (arith, e, owned.once j, due_le (word_at b j).state)
