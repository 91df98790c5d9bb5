-- What is asked for is missing.
use Rattle.std.proofs.Common.{◌≡◌, ◌≢◌, ◌⊎◌, inl, inr, ℕ, suc, ◌+◌, ◌-◌, ◌<◌, ◌≤◌, zero, List, [], ◌∷◌, ◌++◌, length, take, Bool, true, false, refl, sym, ap, subst, arith}
use Rattle.std.specs.Prelude.{⊤, ◌==◌, ◌&&◌, ◌||◌, nat_lt, nat_le, Option, Some, None, is_some, if◌then◌else◌}
use Rattle.std.specs.List.{AllByRecursion, Contains}
use Rattle.std.proofs.lemmas.Bool.{cases_eq, and_parts, or_cases, eqb-true, ltb-true, leb-true, ne_eqb}
use Rattle.std.proofs.lemmas.List.{length-take}
use Rattle.std.proofs.lemmas.List.Elements.{recursion_from_All, All-contains_itself, Contains-append_right}
use Rattle.stream_packets.specs.Packets.{StreamPacket}
use Rattle.missing_ranges.specs.Ranges.{holes}
use Rattle.missing_ranges.specs.RangeLaws.{IsHole, AreHoles}
use Rattle.missing_ranges.proofs.HoleLemmas.{holes_are_maximal}
use Rattle.missing_ranges.specs.Missing.{top_of, is_settled, missing_to, missing}
use Rattle.acquisition_machine.specs.declared.config.AcqConfig.{AcqConfig}
use Rattle.acquisition_machine.specs.Blocks.{Open, Retirement, kept_in, is_ready, ranges_asked, after_asking, after_round}
use Rattle.acquisition_machine.specs.Machine.{Input, datagram, claimed, tick, stop, restart, State, Turn, Request, resend_of, next_number, number_after, requests_for, requests_of, after_rounds, staying, leaving, step}
use Rattle.acquisition_machine.specs.Runs.{first_state, After, packets_in}
use Rattle.acquisition_machine.specs.Sound.{RiseFrom, AreOthers, IsRequestNumber, IsSound}
use Rattle.acquisition_machine.specs.RequestLaws.{IsAsked, RequestsAreMissing, times_of, RequestsAreFew, RoundsAreFew}
use Rattle.acquisition_machine.proofs.Order.{all_append, all_back, all_weaker, rise_others}
use Rattle.acquisition_machine.proofs.Numbers.{next_number-keeps, number_after-keeps}
use Rattle.acquisition_machine.proofs.Retiring.{were, settle_parts, rise_rest}
use Rattle.acquisition_machine.proofs.Turned.{Hears}
use Rattle.acquisition_machine.proofs.Keeping.{Keeps, step_all, run_all}
use Rattle.acquisition_machine.proofs.Counting.{datagrams_ask_nothing}
use Rattle.acquisition_machine.proofs.Window.{first_sound, blocks_are_in_order}

-- ---- one block

if_some : (v : Bool) (ys : List (ℕ × ℕ)) (r : ℕ × ℕ) (rs : List (ℕ × ℕ)) → (if v then ys else []) ≡ r ∷ rs → (v ≡ true) × (ys ≡ r ∷ rs)
if_some true ys r rs e = (refl, e)
if_some false ys r rs e = absurd cc

all_take : {X : Type 0} (P : X → Type 0) (n : ℕ) (xs : List X) → AllByRecursion P xs → AllByRecursion P (take n xs)
all_take P zero xs a = tt
all_take P (suc n) [] a = tt
all_take P (suc n) (x ∷ xs) a = (a.0, all_take P n xs a.1)

-- The ranges below some top, each of them a hole.
record AreMissing (p b : ℕ) (heard : List StreamPacket) (top : Option ℕ) (rs : List (ℕ × ℕ)) : Type 0 where
  pub highest : ℕ
  pub is : top ≡ Some highest
  pub holes : AllByRecursion (IsHole (is_settled p b heard) 0 (highest + 1)) rs

are_missing : (p b : ℕ) (heard : List StreamPacket) (top : Option ℕ) (r : ℕ × ℕ) (rs : List (ℕ × ℕ)) → take 8 (missing_to p b heard top) ≡ r ∷ rs → AreMissing p b heard top (r ∷ rs)
are_missing p b heard None r rs e = absurd cc
are_missing p b heard (Some m) r rs e =
    let there : ℕ → Bool = is_settled p b heard in
    let to : 0 + (m + 1) ≡ m + 1 = omega arith in
    let all = subst (λ n. AreHoles there 0 n (holes there 0 (m + 1))) to (holes_are_maximal there 0 (m + 1)) in
    record {
      highest = m;
      is = refl;
      holes = subst (λ l. AllByRecursion (IsHole there 0 (m + 1)) l) e (all_take (IsHole there 0 (m + 1)) 8 (holes there 0 (m + 1)) all.each);
    }

-- The block is ready, and asks for these.
record Asks (c : AcqConfig) (now : ℕ) (o : Open) (rs : List (ℕ × ℕ)) : Type 0 where
  pub has_buffer : is_some o.given ≡ true
  pub rounds_left : o.rounds < c.rounds
  pub age : c.age ≤ now - o.last
  pub pause : (o.rounds ≡ 0) ⊎ (c.age ≤ now - o.round_at)
  pub missing : AreMissing c.p o.block o.heard (top_of c.p (kept_in c.p o)) rs

pause_from : (rounds age ago : ℕ) → ((rounds == 0 || nat_le age ago) ≡ true) → (rounds ≡ 0) ⊎ (age ≤ ago)
pause_from rounds age ago e = go (or_cases (rounds == 0) (nat_le age ago) e) where
  go : ((rounds == 0) ≡ true) ⊎ (nat_le age ago ≡ true) → (rounds ≡ 0) ⊎ (age ≤ ago)
  go (inl first) = inl (eqb-true rounds 0 first)
  go (inr long) = inr (leb-true age ago long)

asks_from : (c : AcqConfig) (now : ℕ) (o : Open) (r : ℕ × ℕ) (rs : List (ℕ × ℕ)) → ranges_asked c now o ≡ r ∷ rs → Asks c now o (r ∷ rs)
asks_from c now o r rs e =
    let both = if_some (is_ready c now o) (take 8 (missing c.p o.block o.heard)) r rs e in
    let three = and_parts (is_some o.given && nat_lt o.rounds c.rounds && nat_le c.age (now - o.last)) (o.rounds == 0 || nat_le c.age (now - o.round_at)) both.0 in
    let two = and_parts (is_some o.given && nat_lt o.rounds c.rounds) (nat_le c.age (now - o.last)) three.0 in
    let one = and_parts (is_some o.given) (nat_lt o.rounds c.rounds) two.0 in
    record {
      has_buffer = one.0;
      rounds_left = ltb-true o.rounds c.rounds one.1;
      age = leb-true c.age (now - o.last) two.1;
      pause = pause_from o.rounds c.age (now - o.round_at) three.1;
      missing = are_missing c.p o.block o.heard (top_of c.p (kept_in c.p o)) r rs both.1;
    }

-- ---- the requests of one block

asked_each : (P : Request → Type 0) (Q : ℕ × ℕ → Type 0) (b n : ℕ) (rs : List (ℕ × ℕ)) → ((k : ℕ) (r : ℕ × ℕ) → IsRequestNumber k → Q r → P (record { number = k; resend = resend_of b r })) → IsRequestNumber n → AllByRecursion Q rs → AllByRecursion P (requests_for n b rs)
asked_each P Q b n [] f h a = tt
asked_each P Q b n (r ∷ rs) f h a = (f n r h a.0, asked_each P Q b (next_number n) rs f (next_number-keeps n h) a.1)

-- where it stands before and after its round
abbrev Stands : AcqConfig → ℕ → List Open → List Open → Open → Type 0
Stands c now before after o = Contains before o × Contains after (after_round c now o)

asked_block : (c : AcqConfig) (s : State) (t : Turn) (o : Open) (n : ℕ) (rs : List (ℕ × ℕ)) → ranges_asked c t.after.now o ≡ rs → IsRequestNumber n → Contains s.opens o → Contains t.after.opens (after_asking t.after.now o rs) → AllByRecursion (IsAsked c s t) (requests_for n o.block rs)
asked_block c s t o n [] e h was is = tt
asked_block c s t o n (r ∷ rs) e h was is =
    let a = asks_from c t.after.now o r rs e in
    asked_each (IsAsked c s t) (IsHole (is_settled c.p o.block o.heard) 0 (a.missing.highest + 1)) o.block n (r ∷ rs)
    (λ k hole number whole. record {
      asking = o;
      was_open = was;
      is_open = is;
      of_block = refl;
      has_buffer = a.has_buffer;
      rounds_left = a.rounds_left;
      age = a.age;
      pause = a.pause;
      top = a.missing.highest;
      top_is = a.missing.is;
      hole = whole;
      number = number;
    })
    h a.missing.holes

asked_all : (c : AcqConfig) (s : State) (t : Turn) (n : ℕ) (os : List Open) → IsRequestNumber n → AllByRecursion (Stands c t.after.now s.opens t.after.opens) os → AllByRecursion (IsAsked c s t) (requests_of c t.after.now n os)
asked_all c s t n [] h a = tt
asked_all c s t n (o ∷ os) h a =
    let rs : List (ℕ × ℕ) = ranges_asked c t.after.now o in
    all_append (IsAsked c s t) (requests_for n o.block rs) (requests_of c t.after.now (number_after n rs) os)
    (asked_block c s t o n rs refl h a.0.0 a.0.1)
    (asked_all c s t (number_after n rs) os (number_after-keeps n rs h) a.1)

-- ---- where the blocks stand

rounds_have : (c : AcqConfig) (now : ℕ) (os : List Open) → AllByRecursion (λ o. Contains (after_rounds c now os) (after_round c now o)) os
rounds_have c now [] = tt
rounds_have c now (o ∷ os) = (
  (0, lt-first (length (after_rounds c now os)), refl),
  all_weaker (λ (n : Open). Contains (after_rounds c now os) (after_round c now n)) (λ (n : Open). Contains (after_rounds c now (o ∷ os)) (after_round c now n))
      (λ n h. Contains-append_right (after_round c now o ∷ []) (after_rounds c now os) (after_round c now n) h) os (rounds_have c now os),
) where
  lt-first : (k : ℕ) → 0 < suc k
  lt-first k = omega arith

each_stands : (c : AcqConfig) (now : ℕ) (before after : List Open) (os : List Open) → AllByRecursion (Contains before) os → AllByRecursion (λ o. Contains after (after_round c now o)) os → AllByRecursion (Stands c now before after) os
each_stands c now before after [] a b = tt
each_stands c now before after (o ∷ os) a b = ((a.0, b.0), each_stands c now before after os a.1 b.1)

stand_all : (c : AcqConfig) (now : ℕ) (before : List Open) (rs : List Retirement) (os : List Open) → were rs ++ os ≡ before → AllByRecursion (Stands c now before (after_rounds c now os)) os
stand_all c now before rs os e =
    let all = recursion_from_All (Contains (were rs ++ os)) (were rs ++ os) (All-contains_itself (were rs ++ os)) in
    let kept = subst (λ l. AllByRecursion (Contains l) os) e (all_back (Contains (were rs ++ os)) (were rs) os all) in
    each_stands c now before (after_rounds c now os) os kept (rounds_have c now os)

asked_tick : (c : AcqConfig) (s : State) (moment : ℕ) → IsSound c s → AllByRecursion (IsAsked c s (step c s (tick moment))) (step c s (tick moment)).requests
asked_tick c s moment sound =
    let now : ℕ = (step c s (tick moment)).after.now in
    asked_all c s (step c s (tick moment)) s.number (staying c now s.opens) sound.number
    (stand_all c now s.opens (leaving c now s.opens) (staying c now s.opens) (settle_parts c now s.opens))

asked_turn : (c : AcqConfig) (s : State) (i : Input) → IsSound c s → AllByRecursion (IsAsked c s (step c s i)) (step c s i).requests
asked_turn c s (datagram bytes) sound =
    subst (λ l. AllByRecursion (IsAsked c s (step c s (datagram bytes))) l) (sym (datagrams_ask_nothing c s bytes)) tt
asked_turn c s (claimed given) sound = tt
asked_turn c s (tick moment) sound = asked_tick c s moment sound
asked_turn c s stop sound = tt
asked_turn c s restart sound = tt

pub requests_are_missing : RequestsAreMissing
requests_are_missing c q i some = asked_turn c (After c q) i (blocks_are_in_order c q some)

-- ---- how many

times_of-append : (b : ℕ) (rs ss : List Request) → times_of b (rs ++ ss) ≡ times_of b rs + times_of b ss
times_of-append b [] ss = omega arith
times_of-append b (r ∷ rs) ss = let rest = times_of-append b rs ss in omega (arith, rest)

one_at_most : (v : Bool) → (if v then 1 else 0) ≤ 1
one_at_most true = omega arith
one_at_most false = omega arith

times_few : (b n k : ℕ) (rs : List (ℕ × ℕ)) → times_of b (requests_for n k rs) ≤ length rs
times_few b n k [] = omega arith
times_few b n k (r ∷ rs) = let first = one_at_most (k == b) in let rest = times_few b (next_number n) k rs in omega (arith, first, rest)

times_other : (b n k : ℕ) (rs : List (ℕ × ℕ)) → k ≢ b → times_of b (requests_for n k rs) ≡ 0
times_other b n k [] apart = refl
times_other b n k (r ∷ rs) apart = rw (ne_eqb k b apart, times_other b (next_number n) k rs apart) refl

times_none : (c : AcqConfig) (now n b : ℕ) (os : List Open) → AreOthers b os → times_of b (requests_of c now n os) ≡ 0
times_none c now n b [] a = refl
times_none c now n b (o ∷ os) a =
    let rs : List (ℕ × ℕ) = ranges_asked c now o in
    let all = times_of-append b (requests_for n o.block rs) (requests_of c now (number_after n rs) os) in
    let first = times_other b n o.block rs a.0 in
    let rest = times_none c now (number_after n rs) b os a.1 in
    omega (arith, all, first, rest)

length-asked_step : (v : Bool) (ys : List (ℕ × ℕ)) → length (if v then take 8 ys else []) ≤ 8
length-asked_step true ys = let few = length-take 8 ys in omega (arith, few)
length-asked_step false ys = omega arith

length-asked : (c : AcqConfig) (now : ℕ) (o : Open) → length (ranges_asked c now o) ≤ 8
length-asked c now o = length-asked_step (is_ready c now o) (missing c.p o.block o.heard)

times_open : (c : AcqConfig) (now n b low : ℕ) (os : List Open) → RiseFrom low os → times_of b (requests_of c now n os) ≤ 8
times_open c now n b low [] r = omega arith
times_open c now n b low (o ∷ os) r = go (cases_eq o.block b) (times_open c now (number_after n (ranges_asked c now o)) b (o.block + 1) os r.1) where
  all : times_of b (requests_of c now n (o ∷ os)) ≡ times_of b (requests_for n o.block (ranges_asked c now o)) + times_of b (requests_of c now (number_after n (ranges_asked c now o)) os)
  all = times_of-append b (requests_for n o.block (ranges_asked c now o)) (requests_of c now (number_after n (ranges_asked c now o)) os)

  go : (o.block ≡ b) ⊎ (o.block ≡ b → ⊥) → times_of b (requests_of c now (number_after n (ranges_asked c now o)) os) ≤ 8 → times_of b (requests_of c now n (o ∷ os)) ≤ 8
  go (inl e) rest =
      let below : b < o.block + 1 = omega arith in
      let none = times_none c now (number_after n (ranges_asked c now o)) b os (rise_others b (o.block + 1) os below r.1) in
      let few = times_few b n o.block (ranges_asked c now o) in
      let eight = length-asked c now o in
      omega (arith, all, none, few, eight)
  go (inr apart) rest =
      let none = times_other b n o.block (ranges_asked c now o) apart in
      omega (arith, all, none, rest)

times_tick : (c : AcqConfig) (s : State) (moment b : ℕ) → IsSound c s → times_of b (step c s (tick moment)).requests ≤ 8
times_tick c s moment b sound =
    let now : ℕ = (step c s (tick moment)).after.now in
    let rise = subst (λ l. RiseFrom s.floor l) (sym (settle_parts c now s.opens)) sound.rise in
    times_open c now s.number b (step c s (tick moment)).after.floor (staying c now s.opens) (rise_rest s.floor (leaving c now s.opens) (staying c now s.opens) rise)

times_turn : (c : AcqConfig) (s : State) (i : Input) (b : ℕ) → IsSound c s → times_of b (step c s i).requests ≤ 8
times_turn c s (datagram bytes) b sound =
    let none = ap (times_of b) (datagrams_ask_nothing c s bytes) in omega (arith, none)
times_turn c s (claimed given) b sound = omega arith
times_turn c s (tick moment) b sound = times_tick c s moment b sound
times_turn c s stop b sound = omega arith
times_turn c s restart b sound = omega arith

pub requests_are_few : RequestsAreFew
requests_are_few c q i b some = times_turn c (After c q) i b (blocks_are_in_order c q some)

-- ---- rounds

abbrev HasFewRounds : AcqConfig → Open → Type 0
HasFewRounds c o = o.rounds ≤ c.rounds

few_hears : (c : AcqConfig) (now : ℕ) (x : StreamPacket) (o n : Open) → Hears now x o n → HasFewRounds c o → HasFewRounds c n
few_hears c now x o n (inl e) h = subst (HasFewRounds c) (sym e) h
few_hears c now x o n (inr e) h = subst (HasFewRounds c) (sym e) h

few_round : (c : AcqConfig) (now : ℕ) (o : Open) (rs : List (ℕ × ℕ)) → ranges_asked c now o ≡ rs → HasFewRounds c o → HasFewRounds c (after_asking now o rs)
few_round c now o [] e h = h
few_round c now o (r ∷ rs) e h = let left = (asks_from c now o r rs e).rounds_left in omega (arith, left)

keeps_few : (c : AcqConfig) → Keeps c (HasFewRounds c) (λ x. ⊤)
keeps_few c = record {
  opening = λ b given now. zero_few c.rounds;
  hears = λ now x o n any h. few_hears c now x o n h;
  round = λ now o. few_round c now o (ranges_asked c now o) refl;
} where
  zero_few : (n : ℕ) → 0 ≤ n
  zero_few n = omega arith

all_any : {X : Type 0} (xs : List X) → AllByRecursion (λ x. ⊤) xs
all_any [] = tt
all_any (x ∷ xs) = (tt, all_any xs)

few_open : (c : AcqConfig) (q : List Input) → 1 ≤ c.window → AllByRecursion (HasFewRounds c) (After c q).opens
few_open c q some = run_all c (HasFewRounds c) (λ x. ⊤) first_state q some (first_sound c) (keeps_few c) (all_any (packets_in q)) tt

pub rounds_are_few : RoundsAreFew
rounds_are_few = record {
  of_open = few_open;
  of_retired = λ c q i some.
      (step_all c (HasFewRounds c) (λ x. ⊤) (After c q) i some (blocks_are_in_order c q some) (keeps_few c) (all_any (packets_in (i ∷ []))) (few_open c q some)).retired;
}
