-- One owner by cases and by counting are the same.
use Rattle.std.proofs.Common.{◌≡◌, ◌≢◌, ◌↔◌, ℕ, ◌≤◌, ◌<◌, List, ◌++◌, refl, ap, inl, inr, ◌⊎◌, arith}
use Rattle.std.proofs.lemmas.Bool.{cases_lt, cases_eq}
use Rattle.gentl_types.specs.declared.word.State.{State}
use Rattle.gentl_types.specs.declared.word.State.TheVariants.{Vacant, Held, Away}
use Rattle.board_machine.specs.Places.{times}
use Rattle.board_machine.specs.Machine.{Board, word_at, hand, places, empty_board, CanBeNext, next}
use Rattle.board_machine.specs.Owners.{Owner, nobody, application, input_pool, output_queue, actor, InNoHands, InOneHand, Owns, IsOwned, in_hands, tally, due, IsCounted}
use Rattle.board_machine.proofs.Boards.{in_hand_of-le, two_hands, in_no_hands, in_one_hand, some_hand}
use Rattle.board_machine.specs.declared.events.Entry.{Entry}
use Rattle.board_machine.specs.Laws.{LeavesOthers}
use Rattle.board_machine.specs.Histories.{Run, After}
use Rattle.board_machine.proofs.Keeps.{empty_owned, keeps_next}
use Rattle.board_machine.proofs.Runs.{run_owned, run_front}
use Rattle.board_machine.proofs.Others.{hand_stays, word_stays, actor_stays}

no_hands : (b : Board) (i : ℕ) → in_hands i b.hands ≡ 0 → InNoHands b i
no_hands b i none k = omega (arith, in_hand_of-le i b.hands k)

only_hand : (b : Board) (i k : ℕ) → in_hands i b.hands ≡ 1 → 1 ≤ times i (hand b k) → InOneHand b i k
only_hand b i k one some = record {
  once = omega (arith, in_hand_of-le i b.hands k);
  others = λ n apart. omega (arith, two_hands i b.hands n k apart);
}

-- the owner of a place whose word is Away
away_owner : (b : Board) (i : ℕ) → (word_at b i).state ≡ Away → tally b i ≡ 1 → (o : Owner) × Owns b i o
away_owner b i away one = in_the_pool (cases_lt 0 (times i b.pool))
  where
    in_a_hand : times i b.pool ≡ 0 → times i (places b.out) ≡ 0 → (o : Owner) × Owns b i o
    in_a_hand no_pool no_out =
        let all : in_hands i b.hands ≡ 1 = omega (arith, one, no_pool, no_out) in
        let found = some_hand i b.hands (omega (arith, all)) in
        (actor found.0, (away, no_pool, no_out, only_hand b i found.0 all found.1))

    in_the_output : times i b.pool ≡ 0 → (0 < times i (places b.out)) ⊎ (times i (places b.out) ≤ 0) → (o : Owner) × Owns b i o
    in_the_output no_pool (inl some) = (output_queue, (away, no_pool, omega (arith, one, some), no_hands b i (omega (arith, one, some))))
    in_the_output no_pool (inr none) = in_a_hand no_pool (omega (arith, none))

    in_the_pool : (0 < times i b.pool) ⊎ (times i b.pool ≤ 0) → (o : Owner) × Owns b i o
    in_the_pool (inl some) = (input_pool, (away, omega (arith, one, some), omega (arith, one, some), no_hands b i (omega (arith, one, some))))
    in_the_pool (inr none) = in_the_output (omega (arith, none)) (cases_lt 0 (times i (places b.out)))

-- the owner of a place by its word's state
owner_at : (b : Board) (i : ℕ) (s : State) → (word_at b i).state ≡ s → tally b i ≡ due s → (o : Owner) × Owns b i o
owner_at b i Vacant is counted = (nobody, (is, omega (arith, counted), omega (arith, counted), no_hands b i (omega (arith, counted))))
owner_at b i Held is counted = (application, (is, omega (arith, counted), omega (arith, counted), no_hands b i (omega (arith, counted))))
owner_at b i Away is counted = away_owner b i is counted

same_hand : (b : Board) (i k n : ℕ) → InOneHand b i k → InOneHand b i n → k ≡ n
same_hand b i k n mine other = go (cases_eq k n)
  where
    go : (k ≡ n) ⊎ (k ≢ n) → k ≡ n
    go (inl e) = e
    go (inr apart) = absurd (omega (arith, mine.once, other.others k apart))

owners_same : (b : Board) (i : ℕ) (o p : Owner) → Owns b i o → Owns b i p → o ≡ p
owners_same b i nobody nobody p q = refl
owners_same b i nobody application p q = absurd (cc (p.0, q.0))
owners_same b i nobody input_pool p q = absurd (cc (p.0, q.0))
owners_same b i nobody output_queue p q = absurd (cc (p.0, q.0))
owners_same b i nobody (actor n) p q = absurd (cc (p.0, q.0))
owners_same b i application nobody p q = absurd (cc (p.0, q.0))
owners_same b i application application p q = refl
owners_same b i application input_pool p q = absurd (cc (p.0, q.0))
owners_same b i application output_queue p q = absurd (cc (p.0, q.0))
owners_same b i application (actor n) p q = absurd (cc (p.0, q.0))
owners_same b i input_pool nobody p q = absurd (cc (p.0, q.0))
owners_same b i input_pool application p q = absurd (cc (p.0, q.0))
owners_same b i input_pool input_pool p q = refl
owners_same b i input_pool output_queue p q = absurd (omega (arith, p.1, p.2, q.1, q.2))
owners_same b i input_pool (actor n) p q = absurd (omega (arith, p.1, p.2, q.1, q.2))
owners_same b i output_queue nobody p q = absurd (cc (p.0, q.0))
owners_same b i output_queue application p q = absurd (cc (p.0, q.0))
owners_same b i output_queue input_pool p q = absurd (omega (arith, p.1, p.2, q.1, q.2))
owners_same b i output_queue output_queue p q = refl
owners_same b i output_queue (actor n) p q = absurd (omega (arith, p.1, p.2, q.1, q.2))
owners_same b i (actor k) nobody p q = absurd (cc (p.0, q.0))
owners_same b i (actor k) application p q = absurd (cc (p.0, q.0))
owners_same b i (actor k) input_pool p q = absurd (omega (arith, p.1, p.2, q.1, q.2))
owners_same b i (actor k) output_queue p q = absurd (omega (arith, p.1, p.2, q.1, q.2))
owners_same b i (actor k) (actor n) p q = ap actor (same_hand b i k n p.3 q.3)

-- counted once is having one owner
pub owned_cases : (b : Board) → IsCounted b → IsOwned b
owned_cases b owned = record {
  wide = owned.wide;
  owner = λ i. owner_at b i (word_at b i).state refl (owned.once i);
  single = owners_same b;
  words = owned.words;
  sized = owned.sized;
}

count_of : (b : Board) (i : ℕ) (o : Owner) → Owns b i o → tally b i ≡ due (word_at b i).state
count_of b i nobody is = omega (arith, ap due is.0, is.1, is.2, in_no_hands i b.hands is.3)
count_of b i application is = omega (arith, ap due is.0, is.1, is.2, in_no_hands i b.hands is.3)
count_of b i input_pool is = omega (arith, ap due is.0, is.1, is.2, in_no_hands i b.hands is.3)
count_of b i output_queue is = omega (arith, ap due is.0, is.1, is.2, in_no_hands i b.hands is.3)
count_of b i (actor k) is = omega (arith, ap due is.0, is.1, is.2, in_one_hand i b.hands k is.3.once is.3.others)

-- having one owner is being counted once
pub cases_owned : (b : Board) → IsOwned b → IsCounted b
cases_owned b owned = record {
  wide = owned.wide;
  once = λ i. count_of b i (owned.owner i).0 (owned.owner i).1;
  words = owned.words;
  sized = owned.sized;
}

pub both_forms : (b : Board) → IsOwned b ↔ IsCounted b
both_forms b = (cases_owned b, owned_cases b)

pub empty_cases : IsOwned empty_board
empty_cases = owned_cases empty_board empty_owned

pub keeps_cases : (b : Board) (e : Entry) → IsOwned b → CanBeNext b e → IsOwned (next b e)
keeps_cases b e owned stands = owned_cases (next b e) (keeps_next b e (cases_owned b owned) stands)

pub prefix_cases : (h front rest : List Entry) → Run h → h ≡ front ++ rest → IsOwned (After front)
prefix_cases h front rest run split = owned_cases (After front) (run_owned front (run_front h front rest run split))

pub leaves_cases : (b : Board) (e : Entry) (n : ℕ) → IsOwned b → CanBeNext b e → n ≢ e.by → LeavesOthers b e n
leaves_cases b e n owned stands apart = record {
  hands = hand_stays b e.by n e.event stands.meets apart;
  words = λ i mine. word_stays b e.by n i e.event (cases_owned b owned) stands.meets apart mine;
  actor = λ actor other. actor_stays b e.by n e.event actor apart other;
}
