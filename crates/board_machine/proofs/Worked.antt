-- The worked history is a run: each of its acts may stand, and each of its answers is the machine's.
use Rattle.std.proofs.Common.{◌≡◌, ◌≢◌, ℕ, ◌==◌, nat_lt, nat_le, not, ◌&&◌, true, false, Bool, List, [], ◌∷◌, length, Option, Some, None, refl, subst, ltb-true, leb-true, eqb-true}
use Rattle.std.proofs.lemmas.Bool.{and_parts, eqb-false, not-true}
use Rattle.gev_types.specs.Limits.{place_count, max_buffer_size}
use Rattle.board_machine.specs.declared.events.Entry.{Entry}
use Rattle.board_machine.specs.Places.{times}
use Rattle.board_machine.specs.Machine.{Board, entry, next, empty_board, word_at, hand, hand_at, no_actor, empty_hands}
use Rattle.board_machine.specs.Histories.{RunsFrom, Run}
use Rattle.board_machine.specs.Acts.{Act, to_look, to_look_pool, to_look_out, to_look_run, to_enrol, to_grab, to_lay, to_vacate, to_pool, to_claim, to_sweep_pool, to_fill, to_take, to_sweep_out, to_close, to_post, to_unpost, to_start, to_stop, to_split, to_join, act_of, IsAllowed, MayStand}
use Rattle.board_machine.specs.Worked.{worked}
use Rattle.board_machine.proofs.Answers.{answer_to, answer_stands}

-- tests for what may stand

is_actor : Option (List ℕ) → Bool
is_actor None = false
is_actor (Some is) = true

has_empty_hands : Option (List ℕ) → Bool
has_empty_hands None = false
has_empty_hands (Some []) = true
has_empty_hands (Some (i ∷ is)) = false

abbrev has_in_hand : Board → ℕ → ℕ → Bool
has_in_hand b k i = nat_le 1 (times i (hand b k))

abbrev may_ask : Board → ℕ → Act → Bool
may_ask b k (to_look i) = nat_lt i place_count
may_ask b k to_look_pool = true
may_ask b k to_look_out = true
may_ask b k to_look_run = true
may_ask b k (to_enrol i size) = nat_lt i place_count && (nat_le 1 size && nat_le size (max_buffer_size))
may_ask b k (to_grab i g) = nat_lt i place_count
may_ask b k (to_lay i) = has_in_hand b k i
may_ask b k (to_vacate i) = has_in_hand b k i
may_ask b k (to_pool i) = has_in_hand b k i
may_ask b k to_claim = true
may_ask b k to_sweep_pool = true
may_ask b k (to_fill i f) = has_in_hand b k i && (length f.bytes == (word_at b i).size)
may_ask b k to_take = true
may_ask b k to_sweep_out = true
may_ask b k to_close = true
may_ask b k to_post = true
may_ask b k to_unpost = true
may_ask b k to_start = true
may_ask b k (to_stop kill) = true
may_ask b k to_split = true
may_ask b k (to_join n) = has_empty_hands (hand_at b n) && not (n == k)

actor_from : (h : Option (List ℕ)) → is_actor h ≡ true → h ≢ no_actor
unfolding is_actor
actor_from None holds none = absurd (cc)
actor_from (Some is) holds none = absurd (cc)

empty_from : (h : Option (List ℕ)) → has_empty_hands h ≡ true → h ≡ empty_hands
unfolding has_empty_hands
empty_from None holds = absurd (cc)
empty_from (Some []) holds = refl
empty_from (Some (i ∷ is)) holds = absurd (cc)

asks : (b : Board) (k : ℕ) (a : Act) → may_ask b k a ≡ true → IsAllowed b k a
asks b k (to_look i) holds = ltb-true i place_count holds
asks b k to_look_pool holds = tt
asks b k to_look_out holds = tt
asks b k to_look_run holds = tt
asks b k (to_enrol i size) holds =
    let first = and_parts (nat_lt i place_count) (nat_le 1 size && nat_le size (max_buffer_size)) holds in
    let sizes = and_parts (nat_le 1 size) (nat_le size (max_buffer_size)) first.1 in
    (ltb-true i place_count first.0, leb-true 1 size sizes.0, leb-true size (max_buffer_size) sizes.1)
asks b k (to_grab i g) holds = ltb-true i place_count holds
asks b k (to_lay i) holds = leb-true 1 (times i (hand b k)) holds
asks b k (to_vacate i) holds = leb-true 1 (times i (hand b k)) holds
asks b k (to_pool i) holds = leb-true 1 (times i (hand b k)) holds
asks b k to_claim holds = tt
asks b k to_sweep_pool holds = tt
asks b k (to_fill i f) holds =
    let parts = and_parts (has_in_hand b k i) (length f.bytes == (word_at b i).size) holds in
    (leb-true 1 (times i (hand b k)) parts.0, eqb-true (length f.bytes) (word_at b i).size parts.1)
asks b k to_take holds = tt
asks b k to_sweep_out holds = tt
asks b k to_close holds = tt
asks b k to_post holds = tt
asks b k to_unpost holds = tt
asks b k to_start holds = tt
asks b k (to_stop kill) holds = tt
asks b k to_split holds = tt
asks b k (to_join n) holds =
    let parts = and_parts (has_empty_hands (hand_at b n)) (not (n == k)) holds in
    (empty_from (hand_at b n) parts.0, eqb-false n k (not-true (n == k) parts.1))

abbrev stands_test : Board → ℕ → Act → Bool
stands_test b k a = is_actor (hand_at b k) && may_ask b k a

stands_from : (b : Board) (k : ℕ) (a : Act) → stands_test b k a ≡ true → MayStand b k a
stands_from b k a holds =
    let parts = and_parts (is_actor (hand_at b k)) (may_ask b k a) holds in
    record { actor = actor_from (hand_at b k) parts.0; allowed = asks b k a parts.1 }

-- the entry's act with the machine's answer
abbrev answered_entry : Board → Entry → Entry
answered_entry b e = entry e.by (answer_to b (act_of e.event))

-- the history with each answer put in by the machine
abbrev answered : Board → List Entry → List Entry
answered b [] = []
answered b (e ∷ es) = answered_entry b e ∷ answered (next b (answered_entry b e)) es

-- each act may stand
abbrev all_stand : Board → List Entry → Bool
all_stand b [] = true
all_stand b (e ∷ es) = stands_test b e.by (act_of e.event) && all_stand (next b (answered_entry b e)) es

answered_runs : (b : Board) (es : List Entry) → all_stand b es ≡ true → RunsFrom b (answered b es)
answered_runs b [] holds = tt
answered_runs b (e ∷ es) holds =
    let parts = and_parts (stands_test b e.by (act_of e.event)) (all_stand (next b (answered_entry b e)) es) holds in
    (answer_stands b e.by (act_of e.event) (stands_from b e.by (act_of e.event) parts.0), answered_runs (next b (answered_entry b e)) es parts.1)

worked_stands : all_stand empty_board worked ≡ true
unfolding is_actor has_empty_hands
worked_stands = refl

worked_answers : answered empty_board worked ≡ worked
worked_answers = refl

pub worked_runs : Run worked
worked_runs = subst (λ h. Run h) worked_answers (answered_runs empty_board worked worked_stands)
