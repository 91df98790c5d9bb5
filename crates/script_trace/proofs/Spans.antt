-- Each block id of an acquisition stands in exactly one span.
use Rattle.std.proofs.Common.{◌≡◌, ◌⊎◌, inl, inr, ℕ, ◌+◌, ◌-◌, ◌<◌, ◌≤◌, max, List, [], ◌∷◌, ◌++◌, Bool, true, false, refl, sym, ap, subst, ◌∙◌, append_assoc, arith}
use Rattle.std.specs.Prelude.{◌==◌, ◌&&◌, nat_lt, nat_le, Option, Some, None, if◌then◌else◌}
use Rattle.std.proofs.lemmas.Bool.{cases_lt, le-leb, lt-leb, lt-ltb, le-ltb, ne_eqb, and_left, and_right, and_from}
use Rattle.std.proofs.lemmas.List.{append-nil}
use Rattle.stream_packets.specs.Packets.{StreamPacket, leader, payload, trailer, notice}
use Rattle.gvsp_wire.specs.Reading.{packet_of}
use Rattle.board_machine.specs.Machine.{Board, Item}
use Rattle.acquisition_machine.specs.declared.config.AcqConfig.{AcqConfig}
use Rattle.acquisition_machine.specs.declared.need.Need.{Need}
use Rattle.acquisition_machine.specs.declared.need.Need.TheVariants.{Buffer, Done, Ignored}
use Rattle.acquisition_machine.specs.Blocks.{Given, Open, Cause, Retirement, ranges_asked}
use Rattle.acquisition_machine.specs.Machine.{Input, datagram, claimed, tick, stop, restart, State, Turn, floor_after, settled, unasked, step}
use Rattle.acquisition_machine.specs.Runs.{first_state, After}
use Rattle.acquisition_machine.specs.Laws.{HasNoRestart, RetireFrom, RetiresInOrder}
use Rattle.acquisition_machine.proofs.Joining.{after_from-append}
use Rattle.acquisition_machine.proofs.Window.{blocks_retire_in_order}
use Rattle.script_trace.specs.Notes.{Note, idle, ignored, unwidened, leads, opens, asks, first, absent, drops, done, unbuffered}
use Rattle.script_trace.specs.Inputs.{drop_notes, first_dropped, gap, ended_notes, after_end, retired_notes, kept_note, need_notes, open_notes, ask_notes, round_notes, turn_notes, after_turn, notes_from}
use Rattle.script_trace.specs.Spans.{spans, times_in, AreCovered, AreAccounted}
use Rattle.script_trace.specs.InputLaws.{IsBeginning, BlocksAreAccounted}

-- ---- spans that join

-- each begins where the one before it ended
abbrev pub Joins : ℕ → ℕ → List (ℕ × ℕ) → Type 0
Joins low high [] = low ≡ high
Joins low high (r ∷ rs) = (r.0 ≡ low) × (r.0 ≤ r.1) × Joins (r.1 + 1) high rs

joins_on : (low mid high : ℕ) (xs ys : List (ℕ × ℕ)) → Joins low mid xs → Joins mid high ys → Joins low high (xs ++ ys)
joins_on low mid high [] ys a b = subst (λ (k : ℕ). Joins k high ys) (sym a) b
joins_on low mid high (r ∷ rs) ys a b = (a.0, a.1, joins_on (r.1 + 1) mid high rs ys a.2 b)

joins_rise : (low high : ℕ) (rs : List (ℕ × ℕ)) → Joins low high rs → low ≤ high
joins_rise low high [] j = omega arith
joins_rise low high (r ∷ rs) j = let rest = joins_rise (r.1 + 1) high rs j.2 in omega (arith, rest, j.0, j.1)

inside : (k a b : ℕ) → a ≤ k → k ≤ b → (nat_le a k && nat_le k b) ≡ true
inside k a b low high = and_from (nat_le a k) (nat_le k b) (le-leb a k low) (le-leb k b high)

before : (k a b : ℕ) → k < a → (nat_le a k && nat_le k b) ≡ false
before k a b less = and_left (nat_le a k) (nat_le k b) (lt-leb a k less)

behind : (k a b : ℕ) → b < k → (nat_le a k && nat_le k b) ≡ false
behind k a b more = and_right (nat_le a k) (nat_le k b) (lt-leb k b more)

abbrev one_if : Bool → ℕ
one_if v = if v then 1 else 0

counted_here : (k : ℕ) (r : ℕ × ℕ) (rs : List (ℕ × ℕ)) (v : Bool) → (nat_le r.0 k && nat_le k r.1) ≡ v → times_in k (r ∷ rs) ≡ one_if v + times_in k rs
counted_here k r rs v e = ap (λ (w : Bool). one_if w + times_in k rs) e

covered_on : (low high : ℕ) (r : ℕ × ℕ) (rs : List (ℕ × ℕ)) → r.0 ≡ low → r.0 ≤ r.1 → AreCovered (r.1 + 1) high rs → AreCovered low high (r ∷ rs)
covered_on low high r rs from rises rest = record {
  rise = omega (arith, rest.rise);
  within = λ k low_k below. elim (cases_lt r.1 k) [
    | inl more ↦
        counted_here k r rs false (behind k r.0 r.1 more) ∙ (let later : times_in k rs ≡ 1 = rest.within k (omega arith) below in let e : 0 + times_in k rs ≡ 1 = omega arith in e)
    | inr here ↦
        counted_here k r rs true (inside k r.0 r.1 (omega arith) here) ∙ (let later : times_in k rs ≡ 0 = rest.below k (omega arith) in let e : 1 + times_in k rs ≡ 1 = omega arith in e)
  ];
  below = λ k less.
      counted_here k r rs false (before k r.0 r.1 (omega arith))
      ∙ (let later : times_in k rs ≡ 0 = rest.below k (omega arith) in let e : 0 + times_in k rs ≡ 0 = omega arith in e);
  above = λ k more.
      counted_here k r rs false (behind k r.0 r.1 (omega (arith, rest.rise)))
      ∙ (let later : times_in k rs ≡ 0 = rest.above k more in let e : 0 + times_in k rs ≡ 0 = omega arith in e);
}

covered : (low high : ℕ) (rs : List (ℕ × ℕ)) → Joins low high rs → AreCovered low high rs
covered low high [] j = record {
  rise = omega arith;
  within = λ k from below. absurd (omega arith);
  below = λ k less. refl;
  above = λ k more. refl;
}
covered low high (r ∷ rs) j = covered_on low high r rs j.0 j.1 (covered (r.1 + 1) high rs j.2)

-- ---- the spans of notes

pub spans-append : (xs ys : List Note) → spans (xs ++ ys) ≡ spans xs ++ spans ys
spans-append [] ys = refl
spans-append (idle bytes ∷ xs) ys = spans-append xs ys
spans-append (ignored why x ∷ xs) ys = spans-append xs ys
spans-append (unwidened e ∷ xs) ys = spans-append xs ys
spans-append (leads b i ∷ xs) ys = spans-append xs ys
spans-append (opens b buffer ∷ xs) ys = spans-append xs ys
spans-append (asks b r round ∷ xs) ys = spans-append xs ys
spans-append (first b ∷ xs) ys = spans-append xs ys
spans-append (absent r ∷ xs) ys = ap (λ l. r ∷ l) (spans-append xs ys)
spans-append (drops b buffer ∷ xs) ys = spans-append xs ys
spans-append (done o ∷ xs) ys = ap (λ l. (o.block, o.block) ∷ l) (spans-append xs ys)
spans-append (unbuffered b cause ∷ xs) ys = ap (λ l. (b, b) ∷ l) (spans-append xs ys)

of_drops : (b : Board) (xs : List Item) → spans (drop_notes b xs) ≡ []
of_drops b [] = refl
of_drops b (x ∷ xs) = of_drops b xs

of_ended : (c : AcqConfig) (b : Board) (ds : List (List Item)) (o : Open) (cause : Cause) (given : Option Given) → spans (ended_notes c b ds o cause given) ≡ (o.block, o.block) ∷ []
of_ended c b ds o cause None = refl
of_ended c b ds o cause (Some g) = spans-append (drop_notes b (first_dropped ds)) _ ∙ ap (λ l. l ++ (o.block, o.block) ∷ []) (of_drops b (first_dropped ds))

of_kept : (x : Option StreamPacket) → spans (kept_note x) ≡ []
of_kept None = refl
of_kept (Some (leader h i)) = refl
of_kept (Some (payload h d)) = refl
of_kept (Some (trailer h y)) = refl
of_kept (Some (notice h)) = refl

of_need : (x : Option StreamPacket) (need : Option Need) → spans (need_notes x need) ≡ []
of_need x None = refl
of_need x (Some (Buffer b)) = refl
of_need x (Some Done) = of_kept x
of_need x (Some (Ignored why)) = refl

of_open : (b : Board) (ds : List (List Item)) (asked : Option ℕ) (given : Option Given) → spans (open_notes b ds asked given) ≡ []
of_open b ds None given = refl
of_open b ds (Some block) given = spans-append (drop_notes b (first_dropped ds)) _ ∙ ap (λ l. l ++ []) (of_drops b (first_dropped ds))

of_asks : (b round : ℕ) (rs : List (ℕ × ℕ)) → spans (ask_notes b round rs) ≡ []
of_asks b round [] = refl
of_asks b round (r ∷ rs) = of_asks b round rs

of_rounds : (c : AcqConfig) (now : ℕ) (os : List Open) → spans (round_notes c now os) ≡ []
of_rounds c now [] = refl
of_rounds c now (o ∷ os) =
    spans-append (ask_notes o.block (o.rounds + 1) (ranges_asked c now o)) (round_notes c now os)
    ∙ ap (λ l. l ++ spans (round_notes c now os)) (of_asks o.block (o.rounds + 1) (ranges_asked c now o)) ∙ of_rounds c now os

-- ---- what retires

-- behind a block that retired
gap_joins : (low b : ℕ) → 2 ≤ low → low ≤ b → Joins low b (spans (gap low b))
gap_joins low b some rise = elim (cases_lt low b) [
  | inl less ↦ rw (lt-ltb low b less, ne_eqb low 1 (λ e. omega arith)) (refl, omega arith, omega arith)
  | inr same ↦ rw (le-ltb low b same) (omega arith)
]

-- in front of the first
gap_first : (b : ℕ) → spans (gap 1 b) ≡ []
gap_first b = go (nat_lt 1 b) where
  go : (v : Bool) → spans (if v then (if 1 == 1 then first b ∷ [] else absent (1, b - 1) ∷ []) else []) ≡ []
  go true = refl
  go false = refl

retired_parts : (c : AcqConfig) (b : Board) (ds : List (List Item)) (floor : ℕ) (r : Retirement) (rs : List Retirement)
    → spans (retired_notes c b ds floor (r ∷ rs))
    ≡ spans (gap floor r.was.block) ++ ((r.was.block, r.was.block) ∷ spans (retired_notes c b (after_end ds r.was.given) (r.was.block + 1) rs))
retired_parts c b ds floor r rs =
    let rest : List Note = retired_notes c b (after_end ds r.was.given) (r.was.block + 1) rs in
    let own : List Note = ended_notes c b ds r.was r.cause r.was.given in
    spans-append (gap floor r.was.block) (own ++ rest)
    ∙ ap (λ l. spans (gap floor r.was.block) ++ l) (spans-append own rest ∙ ap (λ l. l ++ spans rest) (of_ended c b ds r.was r.cause r.was.given))

retired_joins : (c : AcqConfig) (b : Board) (ds : List (List Item)) (low : ℕ) (rs : List Retirement) → 2 ≤ low → RetireFrom low rs
    → Joins low (floor_after low rs) (spans (retired_notes c b ds low rs))
retired_joins c b ds low [] some r = refl
retired_joins c b ds low (x ∷ rs) some r =
    let rest = retired_joins c b (after_end ds x.was.given) (x.was.block + 1) rs (omega (arith, r.0)) r.1 in
    subst (λ l. Joins low (floor_after low (x ∷ rs)) l) (sym (retired_parts c b ds low x rs))
    (joins_on low x.was.block (floor_after low (x ∷ rs)) (spans (gap low x.was.block)) ((x.was.block, x.was.block) ∷ spans (retired_notes c b (after_end ds x.was.given) (x.was.block + 1) rs))
    (gap_joins low x.was.block some r.0) (refl, omega arith, rest))

-- The spans since the acquisition began: none while nothing retired, else they join from the first block on.
pub record HasBegun (floor : ℕ) (rs : List (ℕ × ℕ)) : Type 0 where
  pub block : ℕ
  pub rest : List (ℕ × ℕ)
  pub some : 1 ≤ block
  pub are : rs ≡ (block, block) ∷ rest
  pub joins : Joins (block + 1) floor rest

abbrev pub Accounts : ℕ → List (ℕ × ℕ) → Type 0
Accounts floor rs = ((rs ≡ []) × (floor ≡ 1)) ⊎ HasBegun floor rs

from_first : (c : AcqConfig) (b : Board) (ds : List (List Item)) (rs : List Retirement) → RetireFrom 1 rs → Accounts (floor_after 1 rs) (spans (retired_notes c b ds 1 rs))
from_first c b ds [] r = inl (refl, refl)
from_first c b ds (x ∷ rs) r = inr (record {
  block = x.was.block;
  rest = spans (retired_notes c b (after_end ds x.was.given) (x.was.block + 1) rs);
  some = r.0;
  are = retired_parts c b ds 1 x rs ∙ ap (λ l. l ++ ((x.was.block, x.was.block) ∷ spans (retired_notes c b (after_end ds x.was.given) (x.was.block + 1) rs))) (gap_first x.was.block);
  joins = retired_joins c b (after_end ds x.was.given) (x.was.block + 1) rs (omega (arith, r.0)) r.1;
})

grows : (c : AcqConfig) (b : Board) (ds : List (List Item)) (floor : ℕ) (before : List (ℕ × ℕ)) (rs : List Retirement) → Accounts floor before → RetireFrom floor rs
    → Accounts (floor_after floor rs) (before ++ spans (retired_notes c b ds floor rs))
grows c b ds floor before rs (inl none) r =
    let more : Accounts (floor_after 1 rs) (spans (retired_notes c b ds 1 rs)) = from_first c b ds rs (subst (λ (k : ℕ). RetireFrom k rs) none.1 r) in
    subst (λ l. Accounts (floor_after floor rs) (l ++ spans (retired_notes c b ds floor rs))) (sym none.0)
    (subst (λ (k : ℕ). Accounts (floor_after k rs) (spans (retired_notes c b ds k rs))) (sym none.1) more)
grows c b ds floor before rs (inr begun) r =
    let rise = joins_rise (begun.block + 1) floor begun.rest begun.joins in
    let some : 2 ≤ floor = omega (arith, rise, begun.some) in
    inr (record {
      block = begun.block;
      rest = begun.rest ++ spans (retired_notes c b ds floor rs);
      some = begun.some;
      are = ap (λ l. l ++ spans (retired_notes c b ds floor rs)) begun.are;
      joins = joins_on (begun.block + 1) floor (floor_after floor rs) begun.rest (spans (retired_notes c b ds floor rs)) begun.joins (retired_joins c b ds floor rs some r);
    })

-- ---- inputs

-- what an input tells of block ids is what it retires
turn_spans : (c : AcqConfig) (b : Board) (ds : List (List Item)) (s : State) (i : Input) (q : List Input) → HasNoRestart (i ∷ q)
    → spans (turn_notes c b ds s i (step c s i)) ≡ spans (retired_notes c b ds s.floor (step c s i).retired)
turn_spans c b ds s (datagram bytes) q h =
    let t : Turn = step c s (datagram bytes) in
    spans-append (need_notes (packet_of bytes) t.need) (retired_notes c b ds s.floor t.retired)
    ∙ ap (λ l. l ++ spans (retired_notes c b ds s.floor t.retired)) (of_need (packet_of bytes) t.need)
turn_spans c b ds s (claimed given) q h = of_open b ds s.asked given
turn_spans c b ds s (tick moment) q h =
    let t : Turn = step c s (tick moment) in
    let told : State = record (unasked s) { now = max s.now moment } in
    spans-append (retired_notes c b ds s.floor t.retired) (round_notes c told.now (settled c told).opens)
    ∙ ap (λ l. spans (retired_notes c b ds s.floor t.retired) ++ l) (of_rounds c told.now (settled c told).opens)
    ∙ append-nil (spans (retired_notes c b ds s.floor t.retired))
turn_spans c b ds s stop q h = refl
turn_spans c b ds s restart q h = absurd h

one_alone : (i : Input) (q : List Input) → HasNoRestart (i ∷ q) → HasNoRestart (i ∷ [])
one_alone (datagram bytes) q h = tt
one_alone (claimed given) q h = tt
one_alone (tick moment) q h = tt
one_alone stop q h = tt
one_alone restart q h = absurd h

the_rest : (i : Input) (q : List Input) → HasNoRestart (i ∷ q) → HasNoRestart q
the_rest (datagram bytes) q h = h
the_rest (claimed given) q h = h
the_rest (tick moment) q h = h
the_rest stop q h = h
the_rest restart q h = absurd h

-- from the inputs before on
pub run_accounts : (c : AcqConfig) (b : Board) (ds : List (List Item)) (before : List Input) (told : List (ℕ × ℕ)) (q : List Input) → 1 ≤ c.window → HasNoRestart q
    → Accounts (After c before).floor told → Accounts (After c (before ++ q)).floor (told ++ spans (notes_from c b ds (After c before) q))
run_accounts c b ds before told [] some h a =
    subst (λ (l : List Input). Accounts (After c l).floor (told ++ [])) (sym (append-nil before))
    (subst (λ l. Accounts (After c before).floor l) (sym (append-nil told)) a)
run_accounts c b ds before told (i ∷ q) some h a =
    let s : State = After c before in
    let t : Turn = step c s i in
    let o : RetiresInOrder c before (i ∷ []) = blocks_retire_in_order c before (i ∷ []) some (one_alone i q h) in
    let rising : RetireFrom s.floor t.retired = subst (λ (l : List Retirement). RetireFrom s.floor l) (append-nil t.retired) o.rising in
    let next : After c (before ++ i ∷ []) ≡ t.after = after_from-append c first_state before (i ∷ []) in
    let floor : (After c (before ++ i ∷ [])).floor ≡ floor_after s.floor t.retired = o.floor ∙ ap (floor_after s.floor) (append-nil t.retired) in
    let mine : List (ℕ × ℕ) = spans (retired_notes c b ds s.floor t.retired) in
    let one : Accounts (floor_after s.floor t.retired) (told ++ mine) = grows c b ds s.floor told t.retired a rising in
    let rest = run_accounts c b (after_turn ds s i t) (before ++ i ∷ []) (told ++ mine) q some (the_rest i q h) (subst (λ (k : ℕ). Accounts k (told ++ mine)) (sym floor) one) in
    let all : spans (notes_from c b ds s (i ∷ q)) ≡ mine ++ spans (notes_from c b (after_turn ds s i t) t.after q) =
    spans-append (turn_notes c b ds s i t) (notes_from c b (after_turn ds s i t) t.after q)
    ∙ ap (λ l. l ++ spans (notes_from c b (after_turn ds s i t) t.after q)) (turn_spans c b ds s i q h) in
    let parts : (told ++ mine) ++ spans (notes_from c b (after_turn ds s i t) (After c (before ++ i ∷ [])) q) ≡ told ++ spans (notes_from c b ds s (i ∷ q)) =
    ap (λ (n : State). (told ++ mine) ++ spans (notes_from c b (after_turn ds s i t) n q)) next
    ∙ append_assoc told mine (spans (notes_from c b (after_turn ds s i t) t.after q)) ∙ ap (λ l. told ++ l) (sym all) in
    subst (λ l. Accounts (After c (before ++ i ∷ q)).floor l) parts
    (subst (λ (l : List Input). Accounts (After c l).floor ((told ++ mine) ++ spans (notes_from c b (after_turn ds s i t) (After c (before ++ i ∷ [])) q))) (append_assoc before (i ∷ []) q) rest)

begins_low : (c : AcqConfig) (before : List Input) → IsBeginning before → (After c before).floor ≡ 1
begins_low c before (inl none) = ap (λ (l : List Input). (After c l).floor) none
begins_low c before (inr begun) = ap (λ (l : List Input). (After c l).floor) begun.1 ∙ ap (λ (s : State). s.floor) (after_from-append c first_state begun.0 (restart ∷ []))

pub accounted : (floor : ℕ) (rs : List (ℕ × ℕ)) → Accounts floor rs → AreAccounted rs floor
accounted floor rs (inl none) = subst (λ l. AreAccounted l floor) (sym none.0) none.1
accounted floor rs (inr begun) =
    subst (λ l. AreAccounted l floor) (sym begun.are)
    (refl, covered begun.block floor ((begun.block, begun.block) ∷ begun.rest) (refl, omega arith, begun.joins))

pub blocks_are_accounted : BlocksAreAccounted
blocks_are_accounted c b ds before since some begins h =
    accounted (After c (before ++ since)).floor (spans (notes_from c b ds (After c before) since))
    (run_accounts c b ds before [] since some h (inl (refl, begins_low c before begins)))
