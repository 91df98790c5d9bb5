-- What a moment makes of the receiver: its blocks grow old, and what it asks for uses up rounds.
use Rattle.std.proofs.Common.{◌≡◌, ◌⊎◌, inl, inr, ℕ, ◌+◌, ◌-◌, ◌*◌, ◌<◌, ◌≤◌, max, List, [], ◌∷◌, ◌++◌, length, Bool, true, false, Some, None, refl, sym, ap, subst, arith}
use Rattle.std.specs.Prelude.{◌||◌, ◌&&◌, ◌==◌, nat_lt, nat_le, take, is_some, if◌then◌else◌, map}
use Rattle.std.specs.List.{AllByRecursion}
use Rattle.std.proofs.lemmas.Bool.{and_parts, ltb-true, leb-false}
use Rattle.missing_ranges.specs.Missing.{missing}
use Rattle.acquisition_machine.specs.Blocks.{Open, complete, old, is_complete, is_old, is_ready, ranges_asked, after_asking}
use Rattle.acquisition_machine.specs.Machine.{tick, State, Turn, Request, request_bytes, leaving, staying, next_number, requests_for, requests_of, number_after, after_rounds, step}
use Rattle.acquisition_machine.specs.Sound.{IsRequestNumber, IsSound}
use Rattle.acquisition_machine.specs.TurnLaws.{IsSettledFor}
use Rattle.acquisition_machine.proofs.Order.{all_append, all_back, all_weaker}
use Rattle.acquisition_machine.proofs.Retiring.{were, settle_parts, block-round}
use Rattle.acquisition_machine.proofs.Numbers.{of_numbered}
use Rattle.acquisition_machine.proofs.Counting.{machine_settles}
use Rattle.acquisition_machine.proofs.Window.{step_sound}
use Rattle.world_laws.specs.Receiver.{soak_config}
use Rattle.world_laws.specs.Tail.{REPLY_ROUNDS, asks_left, ages_left, HasBlock, IsRecent, ReceiverGoes, AsksOpen}
use Rattle.world_laws.proofs.TailBlocks.{asks-append, ages-append, ages-rounds, recent_rounds, Standing}

-- ---- requests use up rounds

-- what requests bring
abbrev pub owed : List Request → ℕ
owed [] = 0
owed (r ∷ rs) = REPLY_ROUNDS

if_some : (v : Bool) (ys : List (ℕ × ℕ)) (r : ℕ × ℕ) (rs : List (ℕ × ℕ)) → (if v then ys else []) ≡ r ∷ rs → v ≡ true
if_some true ys r rs e = refl
if_some false ys r rs e = absurd cc

has_rounds_left : (now : ℕ) (o : Open) (r : ℕ × ℕ) (rs : List (ℕ × ℕ)) → ranges_asked soak_config now o ≡ r ∷ rs → o.rounds < soak_config.rounds
has_rounds_left now o r rs e =
    let ready = if_some (is_ready soak_config now o) (take 8 (missing soak_config.p o.block o.heard)) r rs e in
    let aged = and_parts (is_some o.given && nat_lt o.rounds soak_config.rounds && nat_le soak_config.age (now - o.last)) (o.rounds == 0 || nat_le soak_config.age (now - o.round_at)) ready in
    let left = and_parts (is_some o.given && nat_lt o.rounds soak_config.rounds) (nat_le soak_config.age (now - o.last)) aged.0 in
    ltb-true o.rounds soak_config.rounds (and_parts (is_some o.given) (nat_lt o.rounds soak_config.rounds) left.0).1

rounds_pay : (now n : ℕ) (os : List Open) → asks_left (after_rounds soak_config now os) + owed (requests_of soak_config now n os) ≤ asks_left os
rounds_pay now n [] = omega arith
rounds_pay now n (o ∷ os) = go (ranges_asked soak_config now o) refl (λ m. rounds_pay now m os)
  where
    go : (rs : List (ℕ × ℕ)) → ranges_asked soak_config now o ≡ rs
        → ((m : ℕ) → asks_left (after_rounds soak_config now os) + owed (requests_of soak_config now m os) ≤ asks_left os)
        → asks_left (after_asking now o rs ∷ after_rounds soak_config now os) + owed (requests_for n o.block rs ++ requests_of soak_config now (number_after n rs) os) ≤ asks_left (o ∷ os)
    go [] e rest = let later = rest n in omega arith
    go (r ∷ rs) e rest = let some = has_rounds_left now o r rs e in let later = rest (number_after n (r ∷ rs)) in omega arith

-- ---- what is asked for

for_block : (Q : ℕ → Type 0) (n b : ℕ) (rs : List (ℕ × ℕ)) → Q b → AllByRecursion (λ q. Q q.resend.block) (requests_for n b rs)
for_block Q n b [] h = tt
for_block Q n b (r ∷ rs) h = (h, for_block Q (next_number n) b rs h)

of_blocks : (now n : ℕ) (os all : List Open) → ((b : ℕ) → HasBlock b (after_rounds soak_config now os) → HasBlock b all)
    → AllByRecursion (λ q. HasBlock q.resend.block all) (requests_of soak_config now n os)
of_blocks now n [] all h = tt
of_blocks now n (o ∷ os) all h =
    all_append (λ q. HasBlock q.resend.block all) (requests_for n o.block (ranges_asked soak_config now o)) (requests_of soak_config now (number_after n (ranges_asked soak_config now o)) os)
    (for_block (λ b. HasBlock b all) n o.block (ranges_asked soak_config now o) (h o.block (inl (block-round now o (ranges_asked soak_config now o)))))
    (of_blocks now (number_after n (ranges_asked soak_config now o)) os all (λ b there. h b (inr there)))

-- where no block stays, nothing is asked for
none_ask : (now n : ℕ) (os : List Open) → after_rounds soak_config now os ≡ [] → requests_of soak_config now n os ≡ []
none_ask now n [] e = refl
none_ask now n (o ∷ os) e = absurd cc

-- ---- ages

ages_most : (before now : ℕ) (os : List Open) → before + 10 ≤ now → AllByRecursion (IsRecent before) os → ages_left now os ≤ 19 * length os
ages_most before now [] h a = omega arith
ages_most before now (o ∷ os) h a = let early = a.0.last in let rest = ages_most before now os h a.1 in omega arith

ages_later : (before now : ℕ) (os : List Open) → before ≤ now → ages_left now os ≤ ages_left before os
ages_later before now [] h = omega arith
ages_later before now (o ∷ os) h = let rest = ages_later before now os h in omega arith

not_old : (v w : Bool) → (if v then Some complete else if w then Some old else None) ≡ None → w ≡ false
not_old true w e = absurd cc
not_old false true e = absurd cc
not_old false false e = refl

-- the lowest block that stays is young enough to have grown older
ages_fall : (before now : ℕ) (os : List Open) → before + 10 ≤ now → AllByRecursion (IsRecent before) os → IsSettledFor soak_config now os
    → (os ≡ []) ⊎ (ages_left now os + 1 ≤ ages_left before os)
ages_fall before now [] h a settled = inl refl
ages_fall before now (o ∷ os) h a settled =
    let young = leb-false soak_config.timeout (now - o.last) (not_old (is_complete soak_config.p o) (is_old soak_config.timeout now o) settled) in
    let early = a.0.last in
    let rest = ages_later before now os (omega arith) in
    inr (omega arith)

-- ---- a moment

-- What the receiver is and asks for after a moment.
pub record Ticked (moment : ℕ) (s : State) (t : Turn) : Type 0 where
  pub goes : ReceiverGoes moment t.after
  pub pays : asks_left t.after.opens + owed t.requests ≤ asks_left s.opens
  pub young : ages_left t.after.now t.after.opens ≤ 38
  pub older : (t.after.opens ≡ []) ⊎ (ages_left t.after.now t.after.opens + 1 ≤ ages_left s.now s.opens)
  pub none : t.after.opens ≡ [] → t.requests ≡ []
  pub asks : AllByRecursion (AsksOpen t.after.opens) (map request_bytes t.requests)

asks_open : (all : List Open) (rs : List Request) → AllByRecursion (λ q. IsRequestNumber q.number) rs → AllByRecursion (λ q. HasBlock q.resend.block all) rs
    → AllByRecursion (AsksOpen all) (map request_bytes rs)
asks_open all [] n h = tt
asks_open all (r ∷ rs) n h = (record { request = r; spelled = refl; number = n.0; is_open = h.0 }, asks_open all rs n.1 h.1)

recent_later : (before now : ℕ) (os : List Open) → before ≤ now → AllByRecursion (IsRecent before) os → AllByRecursion (IsRecent now) os
recent_later before now os h a = all_weaker (IsRecent before) (IsRecent now) (λ o r. record { last = let early = r.last in omega arith; block = r.block }) os a

pub ticked : (now moment : ℕ) (s : State) → now + 10 ≤ moment → Standing now s → Ticked moment s (step soak_config s (tick moment))
ticked now moment s h st = record {
  goes = record { sound = sound; recent = recent_later now t.after.now t.after.opens (omega arith) recent; now = omega (arith, st.now_is) };
  pays = omega (arith, pays, kept);
  young = omega (arith, most, sound.room);
  older = older (ages_fall now t.after.now t.after.opens (omega arith) recent (machine_settles.told soak_config s moment));
  none = none_ask t.after.now s.number stay;
  asks = asks_open t.after.opens t.requests (of_numbered soak_config t.after.now s.number stay st.sound.number) (of_blocks t.after.now s.number stay t.after.opens (λ b there. there));
}
  where
    t : Turn
    t = step soak_config s (tick moment)

    stay : List Open
    stay = staying soak_config (max s.now moment) s.opens

    parts : were (leaving soak_config (max s.now moment) s.opens) ++ stay ≡ s.opens
    parts = settle_parts soak_config (max s.now moment) s.opens

    sound : IsSound soak_config t.after
    sound = step_sound soak_config s (tick moment) (omega arith) st.sound

    recent : AllByRecursion (IsRecent now) t.after.opens
    recent = recent_rounds now t.after.now stay (all_back (IsRecent now) (were (leaving soak_config (max s.now moment) s.opens)) stay (subst (AllByRecursion (IsRecent now)) (sym parts) st.recent))

    pays : asks_left t.after.opens + owed t.requests ≤ asks_left stay
    pays = rounds_pay t.after.now s.number stay

    kept : asks_left stay ≤ asks_left s.opens
    kept = omega (arith, asks-append (were (leaving soak_config (max s.now moment) s.opens)) stay, ap asks_left parts)

    most : ages_left t.after.now t.after.opens ≤ 19 * length t.after.opens
    most = ages_most now t.after.now t.after.opens (omega arith) recent

    older : (t.after.opens ≡ []) ⊎ (ages_left t.after.now t.after.opens + 1 ≤ ages_left now t.after.opens)
        → (t.after.opens ≡ []) ⊎ (ages_left t.after.now t.after.opens + 1 ≤ ages_left s.now s.opens)
    older (inl none) = inl none
    older (inr fall) =
        inr (omega (arith, fall, ages-rounds now t.after.now stay, ages-append now (were (leaving soak_config (max s.now moment) s.opens)) stay, ap (ages_left now) parts, ap (λ (n : ℕ). ages_left n s.opens) st.now_is))
