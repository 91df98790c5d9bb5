-- The ids of taken buffers: what adds to them, and what doesn't.
use Rattle.std.proofs.Common.{◌≡◌, ℕ, ◌≤◌, ◌==◌, cond, List, [], ◌∷◌, ◌++◌, Option, Ok, refl, sym, ap, subst, ◌∙◌, append_assoc, eq-eqb}
use Rattle.std.proofs.lemmas.Bool.{cond_both, cond-true, cond-false}
use Rattle.gentl_types.specs.declared.buffer_id.BufferId.{BufferId}
use Rattle.board_machine.specs.declared.events.Entry.{Entry}
use Rattle.board_machine.specs.declared.events.Event.{Event}
use Rattle.board_machine.specs.declared.events.Event.TheVariants.{Take}
use Rattle.board_machine.specs.declared.events.TakeEnd.TheVariants.{Taken, Empty, Closed}
use Rattle.board_machine.specs.Places.{times}
use Rattle.board_machine.specs.Machine.{Board, empty_board, entry, word_at, hand, held, InHand, next}
use Rattle.board_machine.specs.Histories.{after_from, After, own_of}
use Rattle.board_machine.specs.Handout.{handed_by, handed}
use Rattle.board_machine.specs.Adding.{entries_of}
use Rattle.board_machine.specs.Ids.{buffer_at}
use Rattle.board_machine.proofs.Runs.{after-append, own_of-append}
use Rattle.board_machine.proofs.Handed.{handed-append}
use Rattle.board_machine.proofs.Adding.{entries_of-append}
use Rattle.buffer_words.specs.Passes.{Token, lifted, gone, GrowsTo}
use Rattle.buffer_words.specs.Loans.{Lent, IsLoanOf}
use Rattle.buffer_words.specs.Witness.{HoldsSlots}
use Rattle.buffer_words.specs.Several.{EndsWith, EntersEach, EntersThen}
use Rattle.gentl_events.specs.Turns.{idle_turns}
use Rattle.gentl_events.specs.Waits.{Waits}
use Rattle.gev_apply.specs.TakenIds.{id_taken, ids_from, taken_ids, TakesIds}

pub ids-append : (n : ℕ) (b : Board) (g h : List Entry) → ids_from n b (g ++ h) ≡ ids_from n b g ++ ids_from n (after_from b g) h
ids-append n b [] h = refl
ids-append n b (e ∷ g) h =
    ap (λ xs. cond (e.by == n) (id_taken b e.event) [] ++ xs) (ids-append n (next b e) g h)
    ∙ sym (append_assoc (cond (e.by == n) (id_taken b e.event) []) (ids_from n (next b e) g) (ids_from n (after_from (next b e) g) h))

-- ---- entries without a take of the actor's

none_left : {A : Type 0} (xs ys : List A) → xs ++ ys ≡ [] → xs ≡ []
none_left [] ys none_there = refl
none_left (x ∷ xs) ys none_there = absurd (cc)

none_right : {A : Type 0} (xs ys : List A) → xs ++ ys ≡ [] → ys ≡ []
none_right [] ys none_there = none_there
none_right (x ∷ xs) ys none_there = absurd (cc)

no_id : (b : Board) (event : Event) → handed_by event ≡ [] → id_taken b event ≡ []
no_id b (Take (Taken i)) none_there = absurd (cc)
no_id b (Take Empty) none_there = refl
no_id b (Take Closed) none_there = refl
no_id b _ none_there = refl

pub ids_none : (n : ℕ) (b : Board) (h : List Entry) → handed (own_of n h) ≡ [] → ids_from n b h ≡ []
ids_none n b [] none_there = refl
ids_none n b (e ∷ h) none_there =
    cond_both (e.by == n) (e ∷ own_of n h) (own_of n h) (λ own. handed own ≡ [] → ids_from n b (e ∷ h) ≡ [])
    (λ mine none_own.
    ap (λ xs. xs ++ ids_from n (next b e) h) (cond-true (e.by == n) (id_taken b e.event) [] mine ∙ no_id b e.event (none_left (handed_by e.event) (handed (own_of n h)) none_own))
    ∙ ids_none n (next b e) h (none_right (handed_by e.event) (handed (own_of n h)) none_own))
    (λ other none_own.
    ap (λ xs. xs ++ ids_from n (next b e) h) (cond-false (e.by == n) (id_taken b e.event) [] other)
    ∙ ids_none n (next b e) h none_own)
    none_there

pub ids_stay : (s t : Token) (between : List Entry) → t.seen ≡ s.seen ++ between → handed (own_of s.number between) ≡ [] → TakesIds [] s t
ids_stay s t between seen none_there =
    ap (λ l. taken_ids s.number l) seen
    ∙ (ids-append s.number empty_board s.seen between
    ∙ ap (λ xs. taken_ids s.number s.seen ++ xs) (ids_none s.number (After s.seen) between none_there))

pub ids_then : (s t u : Token) (xs ys : List BufferId) → t.number ≡ s.number → TakesIds xs s t → TakesIds ys t u → TakesIds (xs ++ ys) s u
ids_then s t u xs ys number first second =
    subst (λ n. taken_ids n u.seen ≡ taken_ids n t.seen ++ ys) number second
    ∙ (ap (λ l. l ++ ys) first ∙ append_assoc (taken_ids s.number s.seen) xs ys)

-- ---- a wait that took a buffer

pub handed_idle : (n : ℕ) (moments : List ℕ) → handed (entries_of n (idle_turns moments)) ≡ []
handed_idle n [] = refl
handed_idle n (moment ∷ moments) = handed_idle n moments

-- the entry of the last event ends the entries
pub record EndsAt (n : ℕ) (event : Event) (between : List Entry) : Type 0 where
  pub front : List Entry
  pub is : between ≡ front ++ entry n event ∷ []

ends_at : (n : ℕ) (es : List Event) (event : Event) (between : List Entry) → EndsWith n (es ++ event ∷ []) between → EndsAt n event between
ends_at n [] event between ends = record { front = ends.0; is = ends.1 }
ends_at n (e ∷ []) event between ends = record { front = ends.0; is = ends.1 }
ends_at n (e ∷ f ∷ es) event between ends = ends_at n (f ∷ es) event between ends

-- what stands before the one member of a list is nothing
before_one : (xs : List ℕ) (p q : ℕ) → xs ++ p ∷ [] ≡ q ∷ [] → xs ≡ []
before_one [] p q e = refl
before_one (x ∷ []) p q e = absurd (cc)
before_one (x ∷ y ∷ xs) p q e = absurd (cc)

one_entry : (n : ℕ) (b : Board) (place : ℕ) → ids_from n b (entry n (Take (Taken place)) ∷ []) ≡ buffer_at b place ∷ []
one_entry n b place = ap (λ xs. xs ++ []) (cond-true (n == n) (buffer_at b place ∷ []) [] (eq-eqb n n refl))

one_own : (n place : ℕ) → handed (own_of n (entry n (Take (Taken place)) ∷ [])) ≡ place ∷ []
one_own n place = ap handed (cond-true (n == n) (entry n (Take (Taken place)) ∷ []) [] (eq-eqb n n refl))

-- the entries before the take have none of the actor's
front_none : (n place : ℕ) (moments : List ℕ) (front between : List Entry) → between ≡ front ++ entry n (Take (Taken place)) ∷ []
    → own_of n between ≡ entries_of n (idle_turns moments ++ Take (Taken place) ∷ []) → handed (own_of n front) ≡ []
front_none n place moments front between is own = before_one (handed (own_of n front)) place place (sym left ∙ (ap handed own ∙ right))
  where
    left : handed (own_of n between) ≡ handed (own_of n front) ++ place ∷ []
    left = ap (λ l. handed (own_of n l)) is
        ∙ (ap handed (own_of-append n front (entry n (Take (Taken place)) ∷ []))
        ∙ (handed-append (own_of n front) (own_of n (entry n (Take (Taken place)) ∷ []))
        ∙ ap (λ xs. handed (own_of n front) ++ xs) (one_own n place)))

    right : handed (entries_of n (idle_turns moments ++ Take (Taken place) ∷ [])) ≡ place ∷ []
    right = ap handed (entries_of-append n (idle_turns moments) (Take (Taken place) ∷ []))
        ∙ (handed-append (entries_of n (idle_turns moments)) (entries_of n (Take (Taken place) ∷ []))
        ∙ ap (λ xs. xs ++ place ∷ []) (handed_idle n moments))

-- the id of a loan is that of its place where its generation is the word's
same_id : (id : BufferId) (b : Board) → id.generation ≡ (word_at b id.place).generation → id ≡ buffer_at b id.place
same_id id b same_generation =
    let P : ℕ → BufferId = λ g. record { place = id.place; generation = g } in
    ap P same_generation

-- the word at the take is the one that the loan knows
known : (m u : Token) (loan : Lent) (front : List Entry) (b : Board) → After m.seen ≡ next b (entry m.number (Take (Taken loan.id.place))) → GrowsTo m u → HoldsSlots u → IsLoanOf u loan
    → loan.id.generation ≡ (word_at b loan.id.place).generation
known m u loan front b after grows holds is =
    is.generation
    ∙ (ap (λ l. (word_at (After l) loan.id.place).generation) grows.seen
    ∙ (ap (λ w. w.generation) (grows.grew.words loan.id.place in_hand)
    ∙ ap (λ c. (word_at c loan.id.place).generation) after))
  where
    there : InHand (After u.seen) u.number loan.id.place
    there = holds loan.id.place (λ none_there. let e : lifted ≡ gone = sym is.lifted ∙ none_there in cc)

    in_hand : InHand (After m.seen) m.number loan.id.place
    in_hand =
        let here : 1 ≤ times loan.id.place (hand (After (m.seen ++ grows.between)) m.number) =
        subst (λ l. 1 ≤ times loan.id.place (hand (After l) m.number)) grows.seen (subst (λ n. 1 ≤ times loan.id.place (hand (After u.seen) n)) grows.number there) in
        subst (λ is. 1 ≤ times loan.id.place (held is)) grows.grew.hand here

pub ids_taken : (told now : Option (List ℕ)) (s u : Token) (loan : Lent) → EntersThen s (Waits 0 told now (Ok loan)) u → HoldsSlots u → IsLoanOf u loan → TakesIds (loan.id ∷ []) s u
ids_taken told now s u loan wait holds is =
    ids_then s m u (loan.id ∷ []) [] enters.number taken (ids_stay m u wait.grows.between wait.grows.seen (ap handed wait.grows.grew.others))
  where
    m : Token
    m = wait.middle

    place : ℕ
    place = loan.id.place

    enters : EntersEach s (idle_turns wait.enters.kind.moments ++ Take (Taken place) ∷ []) m
    enters = subst (λ es. EntersEach s es m) wait.enters.kind.is wait.enters.enters

    ends : EndsAt s.number (Take (Taken place)) enters.between
    ends = ends_at s.number (idle_turns wait.enters.kind.moments) (Take (Taken place)) enters.between enters.last

    b : Board
    b = after_from (After s.seen) ends.front

    after : After m.seen ≡ next b (entry m.number (Take (Taken place)))
    after = ap (λ l. After l) (enters.seen ∙ ap (λ l. s.seen ++ l) ends.is)
        ∙ (after-append empty_board s.seen (ends.front ++ entry s.number (Take (Taken place)) ∷ [])
        ∙ (after-append (After s.seen) ends.front (entry s.number (Take (Taken place)) ∷ [])
        ∙ ap (λ n. next b (entry n (Take (Taken place)))) (sym enters.number)))

    added : ids_from s.number (After s.seen) enters.between ≡ loan.id ∷ []
    added = ap (λ l. ids_from s.number (After s.seen) l) ends.is
        ∙ (ids-append s.number (After s.seen) ends.front (entry s.number (Take (Taken place)) ∷ [])
        ∙ (ap (λ xs. xs ++ ids_from s.number b (entry s.number (Take (Taken place)) ∷ []))
        (ids_none s.number (After s.seen) ends.front (front_none s.number place wait.enters.kind.moments ends.front enters.between ends.is enters.own))
        ∙ (one_entry s.number b place
        ∙ ap (λ id. id ∷ []) (sym (same_id loan.id b (known m u loan ends.front b after wait.grows holds is))))))

    taken : TakesIds (loan.id ∷ []) s m
    taken = ap (λ l. taken_ids s.number l) enters.seen
        ∙ (ids-append s.number empty_board s.seen enters.between ∙ ap (λ xs. taken_ids s.number s.seen ++ xs) added)
