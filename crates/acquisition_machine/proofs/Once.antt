-- After Buffer and a claim's outcome the same datagram never asks again.
use Rattle.std.proofs.Common.{◌≡◌, ◌≢◌, ◌⊎◌, inl, inr, ℕ, ◌+◌, ◌<◌, ◌≤◌, List, [], ◌∷◌, ◌++◌, Bool, true, false, refl, sym, ap, subst, ◌∙◌, arith}
use Rattle.std.specs.Prelude.{◌&&◌, nat_lt, not, Option, Some, None, Result, Ok, Err, if◌then◌else◌}
use Rattle.std.proofs.lemmas.Bool.{cases_order, lt-ltb, le-ltb, eq-eqb, ne_eqb, not-false}
use Rattle.stream_packets.specs.Packets.{StreamPacket, head_of, is_notice, is_trailer}
use Rattle.gvsp_wire.specs.declared.wire_error.WireError.{WireError}
use Rattle.gvsp_wire.specs.Reading.{reading}
use Rattle.block_image.specs.Kept.{fits, takes}
use Rattle.acquisition_machine.specs.declared.config.AcqConfig.{AcqConfig}
use Rattle.acquisition_machine.specs.declared.need.Need.TheVariants.{Buffer}
use Rattle.acquisition_machine.specs.declared.need.Why.TheVariants.{Late, Repeat, Misfit, Notice}
use Rattle.acquisition_machine.specs.Blocks.{Given, Open, opened, is_new}
use Rattle.acquisition_machine.specs.Machine.{datagram, claimed, State, Turn, bound_of, bound, shown, open_at, put, unasked, ignored, noted, noted_in, keeps, wants, hears_open, hears_fitting, hears_packet, hears, step}
use Rattle.acquisition_machine.specs.Runs.{first_state, After}
use Rattle.acquisition_machine.specs.Sound.{RiseFrom, AreOthers, IsSound}
use Rattle.acquisition_machine.specs.TurnLaws.{answer_again, AsksOnce}
use Rattle.acquisition_machine.proofs.Order.{put_new, rise_at}
use Rattle.acquisition_machine.proofs.Retiring.{bound_below_lowest}
use Rattle.acquisition_machine.proofs.Window.{step_sound, blocks_are_in_order}
use Rattle.acquisition_machine.proofs.Joining.{after_from-append}

-- ---- which packet asks

-- the turn asks for a buffer for block b, since this packet fits and its block isn't open
record WantedBy (c : AcqConfig) (s : State) (x : StreamPacket) (b : ℕ) (t : Turn) : Type 0 where
  pub of_block : (head_of x).block ≡ b
  pub no_notice : is_notice x ≡ false
  pub fits : fits c.p x ≡ true
  pub is : t ≡ wants c (head_of x).block (unasked s)

never_new : (c : AcqConfig) (s : State) (x : StreamPacket) (o : Open) (b : ℕ) (v : Bool) → (if v then keeps c x o (unasked s) else ignored Repeat (noted x o (unasked s))).need ≡ Some (Buffer b) → ⊥
never_new c s x o b true e = cc
never_new c s x o b false e = cc

never_open : (c : AcqConfig) (s : State) (x : StreamPacket) (o : Open) (b : ℕ) (given : Option Given) → (hears_open c x o given (unasked s)).need ≡ Some (Buffer b) → ⊥
never_open c s x o b None e = cc
never_open c s x o b (Some g) e = never_new c s x o b (is_new c.p o x) e

wanted_fitting : (c : AcqConfig) (s : State) (x : StreamPacket) (b : ℕ) (found : Option Open) → is_notice x ≡ false → fits c.p x ≡ true → (hears_fitting c x found (unasked s)).need ≡ Some (Buffer b) → WantedBy c s x b (hears_fitting c x found (unasked s))
wanted_fitting c s x b None n f e = record { of_block = cc; no_notice = n; fits = f; is = refl }
wanted_fitting c s x b (Some o) n f e = absurd (never_open c s x o b o.given e)

wanted_packet : (c : AcqConfig) (s : State) (x : StreamPacket) (b : ℕ) (found : Option Open) (v w : Bool) → is_notice x ≡ v → not (fits c.p x) ≡ w → (if v then ignored Notice (noted_in x found (unasked s)) else if w then ignored Misfit (noted_in x found (unasked s)) else hears_fitting c x found (unasked s)).need ≡ Some (Buffer b) → WantedBy c s x b (if v then ignored Notice (noted_in x found (unasked s)) else if w then ignored Misfit (noted_in x found (unasked s)) else hears_fitting c x found (unasked s))
wanted_packet c s x b found true w n f e = absurd cc
wanted_packet c s x b found false true n f e = absurd cc
wanted_packet c s x b found false false n f e = wanted_fitting c s x b found n (not-false (fits c.p x) f) e

wanted_ok : (c : AcqConfig) (s : State) (x : StreamPacket) (b : ℕ) (v : Bool) → (if v then ignored (Late (shown (bound c s))) (unasked s) else hears_packet c x (open_at (head_of x).block s.opens) (unasked s)).need ≡ Some (Buffer b) → WantedBy c s x b (if v then ignored (Late (shown (bound c s))) (unasked s) else hears_packet c x (open_at (head_of x).block s.opens) (unasked s))
wanted_ok c s x b true e = absurd cc
wanted_ok c s x b false e = wanted_packet c s x b (open_at (head_of x).block s.opens) (is_notice x) (not (fits c.p x)) refl refl e

-- the packet that the bytes are
record Wanted (c : AcqConfig) (s : State) (bytes : List ℕ) (b : ℕ) : Type 0 where
  pub packet : StreamPacket
  pub read : reading bytes ≡ Ok packet
  pub wanted : WantedBy c s packet b (step c s (datagram bytes))

wanted_read : (c : AcqConfig) (s : State) (bytes : List ℕ) (b : ℕ) (r : Result StreamPacket WireError) → reading bytes ≡ r → (hears c r (unasked s)).need ≡ Some (Buffer b) → Wanted c s bytes b
wanted_read c s bytes b (Err d) is e = absurd cc
wanted_read c s bytes b (Ok x) is e = record {
  packet = x;
  read = is;
  wanted = subst (λ r. WantedBy c s x b (hears c r (unasked s))) (sym is) (wanted_ok c s x b (nat_lt (head_of x).block (bound c s)) e);
}

-- ---- the block as it is opened

bound_below : (c : AcqConfig) (low : ℕ) (front : List Open) (n : Open) (back : List Open) → RiseFrom low (front ++ n ∷ back) → bound_of c low (front ++ n ∷ back) ≤ n.block
bound_below c low [] n back r = bound_below_lowest c low n back r
bound_below c low (f ∷ front) n back r =
    let first = bound_below_lowest c low f (front ++ n ∷ back) r in
    let later = rise_at (f.block + 1) front n back r.1 in
    omega (arith, first, later)

open_at-put : (n : Open) (os : List Open) → AreOthers n.block os → open_at n.block (put n os) ≡ Some n
open_at-put n [] a = rw (eq-eqb n.block n.block refl) refl
open_at-put n (f ∷ os) a = go (cases_order n.block f.block) (open_at-put n os a.1) where
  go : (n.block ≡ f.block) ⊎ ((n.block < f.block) ⊎ (f.block < n.block)) → open_at n.block (put n os) ≡ Some n → open_at n.block (put n (f ∷ os)) ≡ Some n
  go (inl e) rest = absurd (a.0 (sym e))
  go (inr (inl l)) rest = rw (lt-ltb n.block f.block l, eq-eqb n.block n.block refl) refl
  go (inr (inr l)) rest =
      let above : f.block ≤ n.block = omega arith in
      let apart : n.block ≢ f.block = λ same. omega arith in
      let other : f.block ≢ n.block = λ same. omega arith in
      rw (le-ltb n.block f.block above, ne_eqb n.block f.block apart, ne_eqb f.block n.block other) rest

-- nothing was kept of it
new_first : (p : ℕ) (x : StreamPacket) → is_notice x ≡ false → fits p x ≡ true → takes p (head_of x).block [] x ≡ true
new_first p x n f = rw (eq-eqb (head_of x).block (head_of x).block refl, n, f) (no_second (is_trailer x)) where
  no_second : (v : Bool) → not (v && false) ≡ true
  no_second true = refl
  no_second false = refl

answers_again : (c : AcqConfig) (s : State) (x : StreamPacket) (now : ℕ) (given : Option Given) → is_notice x ≡ false → fits c.p x ≡ true → (hears_open c x (opened (head_of x).block given now) given (unasked s)).need ≡ Some (answer_again given)
answers_again c s x now None n f = refl
answers_again c s x now (Some g) n f = rw (new_first c.p x n f) refl

hears_again : (c : AcqConfig) (s : State) (x : StreamPacket) (o : Open) → bound c s ≤ (head_of x).block → open_at (head_of x).block s.opens ≡ Some o → is_notice x ≡ false → fits c.p x ≡ true → hears c (Ok x) (unasked s) ≡ hears_open c x o o.given (unasked s)
hears_again c s x o above found n f = rw (le-ltb (head_of x).block (bound c s) above, found, n, f) refl

-- ---- the law

once_from : (c : AcqConfig) (s : State) (bytes : List ℕ) (x : StreamPacket) (given : Option Given) → 1 ≤ c.window → IsSound c (wants c (head_of x).block (unasked s)).after → reading bytes ≡ Ok x → is_notice x ≡ false → fits c.p x ≡ true
    → (step c (step c (wants c (head_of x).block (unasked s)).after (claimed given)).after (datagram bytes)).need ≡ Some (answer_again given)
once_from c s bytes x given some sound read n f =
    let b : ℕ = (head_of x).block in
    let s1 : State = (wants c b (unasked s)).after in
    let s2 : State = (step c s1 (claimed given)).after in
    let o : Open = opened b given s1.now in
    let others = (sound.claim b refl).others in
    let sound2 = step_sound c s1 (claimed given) some sound in
    let p = put_new o s1.opens others in
    let rise = subst (λ l. RiseFrom s2.floor l) p.now sound2.rise in
    let above : bound c s2 ≤ b = subst (λ l. bound_of c s2.floor l ≤ b) (sym p.now) (bound_below c s2.floor p.front o p.back rise) in
    let again = hears_again c s2 x o above (open_at-put o s1.opens others) n f in
    ap (λ r. (hears c r (unasked s2)).need) read ∙ ap (λ (t : Turn). t.need) again ∙ answers_again c s2 x s1.now given n f

once_after : (c : AcqConfig) (s : State) (bytes : List ℕ) (b : ℕ) (given : Option Given) → 1 ≤ c.window → IsSound c s → (step c s (datagram bytes)).need ≡ Some (Buffer b)
    → (step c (step c (step c s (datagram bytes)).after (claimed given)).after (datagram bytes)).need ≡ Some (answer_again given)
once_after c s bytes b given some sound e =
    let w = wanted_read c s bytes b (reading bytes) refl e in
    let is = w.wanted.is in
    let sound1 = subst (λ (t : Turn). IsSound c t.after) is (step_sound c s (datagram bytes) some sound) in
    subst (λ (t : Turn). (step c (step c t.after (claimed given)).after (datagram bytes)).need ≡ Some (answer_again given)) (sym is)
    (once_from c s bytes w.packet given some sound1 w.read w.wanted.no_notice w.wanted.fits)

pub asks_once : AsksOnce
asks_once c q bytes b given some e =
    subst (λ s. (step c s (datagram bytes)).need ≡ Some (answer_again given)) (sym (after_from-append c first_state q (datagram bytes ∷ claimed given ∷ [])))
    (once_after c (After c q) bytes b given some (blocks_are_in_order c q some) e)
