-- Each block holds what came since it was opened.
use Rattle.std.proofs.Common.{◌≡◌, ◌≢◌, ◌⊎◌, inl, inr, ℕ, ◌≤◌, List, [], ◌∷◌, ◌++◌, Bool, true, false, refl, sym, ap, subst, ◌∙◌, append_assoc}
use Rattle.std.specs.Prelude.{◌==◌, Option, Some, None, if◌then◌else◌}
use Rattle.std.specs.List.{AllByRecursion}
use Rattle.std.proofs.lemmas.Bool.{eq-eqb, ne_eqb}
use Rattle.stream_packets.specs.Packets.{StreamPacket, head_of}
use Rattle.missing_ranges.specs.Accounts.{retired_image}
use Rattle.gvsp_wire.specs.Reading.{packet_of}
use Rattle.acquisition_machine.specs.declared.config.AcqConfig.{AcqConfig}
use Rattle.acquisition_machine.specs.Blocks.{Given, Retirement, cause_of, fill_of, fills, Open, opened, hearing, keeping, ranges_asked, after_asking}
use Rattle.acquisition_machine.specs.Machine.{Input, datagram, claimed, Turn, after_rounds}
use Rattle.acquisition_machine.specs.Runs.{first_state, After, turn, packets_in, with_packet}
use Rattle.acquisition_machine.specs.FrameLaws.{of_block, IsImageSince, FillsAreImages, IsSince, HeardIsWhatCame, RetiredHeardWhatCame}
use Rattle.acquisition_machine.proofs.Order.{all_append, all_front, all_back, all_weaker, all_both}
use Rattle.acquisition_machine.proofs.Retiring.{were}
use Rattle.acquisition_machine.proofs.Turned.{Hears, Changed, nothing, passed, heard, taken, Turned, turned}
use Rattle.acquisition_machine.proofs.Window.{blocks_are_in_order}
use Rattle.acquisition_machine.proofs.Keeping.{all_were, AllOf}
use Rattle.acquisition_machine.proofs.Joining.{after_from-append, packets_in-append}

append_nil : {X : Type 0} (xs : List X) → xs ++ [] ≡ xs
append_nil [] = refl
append_nil (x ∷ xs) = ap (λ l. x ∷ l) (append_nil xs)

of_block_step : (b : ℕ) (x : StreamPacket) (v : Bool) (xs ys zs : List StreamPacket) → zs ≡ xs ++ ys → (if v then x ∷ zs else zs) ≡ (if v then x ∷ xs else xs) ++ ys
of_block_step b x true xs ys zs e = ap (λ l. x ∷ l) e
of_block_step b x false xs ys zs e = e

of_block-append : (b : ℕ) (xs ys : List StreamPacket) → of_block b (xs ++ ys) ≡ of_block b xs ++ of_block b ys
of_block-append b [] ys = refl
of_block-append b (x ∷ xs) ys =
    of_block_step b x ((head_of x).block == b) (of_block b xs) (of_block b ys) (of_block b (xs ++ ys)) (of_block-append b xs ys)

-- ---- one block, one more input

since_more : (c : AcqConfig) (q : List Input) (i : Input) (o n : Open) → n.block ≡ o.block → n.given ≡ o.given → n.heard ≡ o.heard ++ of_block o.block (packets_in (i ∷ [])) → IsSince c q o → IsSince c (q ++ i ∷ []) n
since_more c q i o n block given came s = record {
  before = s.before;
  since = s.since ++ i ∷ [];
  parts = ap (λ l. l ++ i ∷ []) s.parts ∙ append_assoc s.before (claimed o.given ∷ s.since) (i ∷ [])
      ∙ ap (λ g. s.before ++ claimed g ∷ (s.since ++ i ∷ [])) (sym given);
  asked = s.asked ∙ ap (λ b. Some b) (sym block);
  heard = came ∙ ap (λ l. l ++ of_block o.block (packets_in (i ∷ []))) s.heard
      ∙ sym (of_block-append o.block (packets_in s.since) (packets_in (i ∷ [])))
      ∙ ap (of_block o.block) (sym (packets_in-append s.since (i ∷ [])))
      ∙ ap (λ b. of_block b (packets_in (s.since ++ i ∷ []))) (sym block);
}

-- nothing came for it
since_other : (c : AcqConfig) (q : List Input) (i : Input) (o : Open) → of_block o.block (packets_in (i ∷ [])) ≡ [] → IsSince c q o → IsSince c (q ++ i ∷ []) o
since_other c q i o none s =
    since_more c q i o o refl refl (sym (ap (λ l. o.heard ++ l) none ∙ append_nil o.heard)) s

-- what a datagram brings for a block
brings_none : (bytes : List ℕ) (x : StreamPacket) (b : ℕ) → packet_of bytes ≡ Some x → b ≢ (head_of x).block → of_block b (packets_in (datagram bytes ∷ [])) ≡ []
brings_none bytes x b is apart =
    let other : (head_of x).block ≢ b = λ e. apart (sym e) in
    ap (λ o. of_block b (with_packet o [])) is ∙ ap (λ v. if v then x ∷ [] else []) (ne_eqb (head_of x).block b other)

brings_one : (bytes : List ℕ) (x : StreamPacket) (b : ℕ) → packet_of bytes ≡ Some x → b ≡ (head_of x).block → of_block b (packets_in (datagram bytes ∷ [])) ≡ x ∷ []
brings_one bytes x b is same =
    ap (λ o. of_block b (with_packet o [])) is ∙ ap (λ v. if v then x ∷ [] else []) (eq-eqb (head_of x).block b (sym same))

since_hears : (c : AcqConfig) (q : List Input) (bytes : List ℕ) (x : StreamPacket) (now : ℕ) (o n : Open) → packet_of bytes ≡ Some x → o.block ≡ (head_of x).block → Hears now x o n → IsSince c q o → IsSince c (q ++ datagram bytes ∷ []) n
since_hears c q bytes x now o n is same (inl e) s =
    subst (IsSince c (q ++ datagram bytes ∷ [])) (sym e)
    (since_more c q (datagram bytes) o (hearing x o) refl refl (ap (λ l. o.heard ++ l) (sym (brings_one bytes x o.block is same))) s)
since_hears c q bytes x now o n is same (inr e) s =
    subst (IsSince c (q ++ datagram bytes ∷ [])) (sym e)
    (since_more c q (datagram bytes) o (keeping now x o) refl refl (ap (λ l. o.heard ++ l) (sym (brings_one bytes x o.block is same))) s)

since_round : (c : AcqConfig) (q : List Input) (now : ℕ) (o : Open) (rs : List (ℕ × ℕ)) → IsSince c q o → IsSince c q (after_asking now o rs)
since_round c q now o [] s = s
since_round c q now o (r ∷ rs) s = record { before = s.before; since = s.since; parts = s.parts; asked = s.asked; heard = s.heard }

-- ---- all blocks, one more input

all_brings_none : (c : AcqConfig) (q : List Input) (bytes : List ℕ) (x : StreamPacket) (os : List Open) → packet_of bytes ≡ Some x → AllByRecursion (λ o. o.block ≢ (head_of x).block) os → AllByRecursion (IsSince c q) os → AllByRecursion (IsSince c (q ++ datagram bytes ∷ [])) os
all_brings_none c q bytes x os is others a =
    all_both (λ (o : Open). o.block ≢ (head_of x).block) (IsSince c q) (IsSince c (q ++ datagram bytes ∷ []))
    (λ o apart s. since_other c q (datagram bytes) o (brings_none bytes x o.block is apart) s) os others a

all_nothing : (c : AcqConfig) (q : List Input) (i : Input) (os : List Open) → packets_in (i ∷ []) ≡ [] → AllByRecursion (IsSince c q) os → AllByRecursion (IsSince c (q ++ i ∷ [])) os
all_nothing c q i os none a =
    all_weaker (IsSince c q) (IsSince c (q ++ i ∷ [])) (λ o s. since_other c q i o (ap (of_block o.block) none) s) os a

since_changed : (c : AcqConfig) (q : List Input) {i : Input} {mid : List Open} → AllByRecursion (IsSince c q) (After c q).opens → Changed (After c q) i mid → AllByRecursion (IsSince c (q ++ i ∷ [])) mid
since_changed c q {i = i} a (nothing none) = all_nothing c q i (After c q).opens none a
since_changed c q a (passed bytes x is others) = all_brings_none c q bytes x (After c q).opens is others a
since_changed c q a (heard bytes x o n f is h) =
    let were = subst (λ l. AllByRecursion (IsSince c q) l) f.parts a in
    let later = all_back (IsSince c q) f.front (o ∷ f.back) were in
    all_append (IsSince c (q ++ datagram bytes ∷ [])) f.front (n ∷ f.back)
    (all_brings_none c q bytes x f.front is f.others_before (all_front (IsSince c q) f.front (o ∷ f.back) were))
    (since_hears c q bytes x (After c q).now o n is f.of_block h later.0, all_brings_none c q bytes x f.back is f.others_behind later.1)
since_changed c q a (taken b given f e) =
    let were = subst (λ l. AllByRecursion (IsSince c q) l) f.was a in
    all_append (IsSince c (q ++ claimed given ∷ [])) f.front (opened b given (After c q).now ∷ f.back)
    (all_nothing c q (claimed given) f.front refl (all_front (IsSince c q) f.front f.back were)) (
      record { before = q; since = []; parts = refl; asked = e; heard = refl },
      all_nothing c q (claimed given) f.back refl (all_back (IsSince c q) f.front f.back were),
    )

since_rounds : (c : AcqConfig) (q : List Input) (now : ℕ) (os : List Open) → AllByRecursion (IsSince c q) os → AllByRecursion (IsSince c q) (after_rounds c now os)
since_rounds c q now [] a = tt
since_rounds c q now (o ∷ os) a = (since_round c q now o (ranges_asked c now o) a.0, since_rounds c q now os a.1)

since_opens : (c : AcqConfig) (q : List Input) (now : ℕ) (rest opens : List Open) → (opens ≡ rest) ⊎ (opens ≡ after_rounds c now rest) → AllByRecursion (IsSince c q) rest → AllByRecursion (IsSince c q) opens
since_opens c q now rest opens (inl e) a = subst (λ l. AllByRecursion (IsSince c q) l) (sym e) a
since_opens c q now rest opens (inr e) a = subst (λ l. AllByRecursion (IsSince c q) l) (sym e) (since_rounds c q now rest a)

since_turned : (c : AcqConfig) (q : List Input) (i : Input) (t : Turn) → AllByRecursion (IsSince c q) (After c q).opens → Turned c (After c q) i t → AllOf (IsSince c (q ++ i ∷ [])) t
since_turned c q i t a d =
    let P : Open → Type 0 = IsSince c (q ++ i ∷ []) in
    let all = subst (λ l. AllByRecursion P l) (sym d.parts) (since_changed c q a d.changed) in
    record {
      opens = since_opens c (q ++ i ∷ []) t.after.now d.rest t.after.opens d.opens (all_back P (were t.retired) d.rest all);
      retired = all_were P t.retired (all_front P (were t.retired) d.rest all);
    }

since_turn : (c : AcqConfig) (q : List Input) (i : Input) → 1 ≤ c.window → AllByRecursion (IsSince c q) (After c q).opens → AllOf (IsSince c (q ++ i ∷ [])) (turn c q i)
since_turn c q i some a = since_turned c q i (turn c q i) a (turned c (After c q) i some (blocks_are_in_order c q some))

-- ---- all inputs

since_run : (c : AcqConfig) (q rest : List Input) → 1 ≤ c.window → AllByRecursion (IsSince c q) (After c q).opens → AllByRecursion (IsSince c (q ++ rest)) (After c (q ++ rest)).opens
since_run c q [] some a = subst (λ l. AllByRecursion (IsSince c l) (After c l).opens) (sym (append_nil q)) a
since_run c q (i ∷ rest) some a =
    let one = subst (λ s. AllByRecursion (IsSince c (q ++ i ∷ [])) s.opens) (sym (after_from-append c first_state q (i ∷ []))) (since_turn c q i some a).opens in
    subst (λ l. AllByRecursion (IsSince c l) (After c l).opens) (append_assoc q (i ∷ []) rest) (since_run c (q ++ i ∷ []) rest some one)

pub heard_is_what_came : HeardIsWhatCame
heard_is_what_came c q some = since_run c [] q some tt

pub retired_heard_what_came : RetiredHeardWhatCame
retired_heard_what_came c q i some = (since_turn c q i some (heard_is_what_came c q some)).retired

-- ---- what comes back

image_fill : (c : AcqConfig) (q : List Input) (r : Retirement) (given : Option Given) → r.was.given ≡ given → IsSince c q r.was → AllByRecursion (IsImageSince c q) (fill_of c.p r given)
image_fill c q r None e s = tt
image_fill c q r (Some g) e s = (
  record {
    block = r.was.block;
    size = g.size;
    before = s.before;
    since = s.since;
    parts = s.parts ∙ ap (λ x. s.before ++ claimed x ∷ s.since) e;
    asked = s.asked;
    cause = r.cause;
    filling = ap (λ l. retired_image (cause_of r.cause) c.p r.was.block g.size l) s.heard;
  },
  tt,
)

image_fills : (c : AcqConfig) (q : List Input) (rs : List Retirement) → AllByRecursion (λ r. IsSince c q r.was) rs → AllByRecursion (IsImageSince c q) (fills c.p rs)
image_fills c q [] a = tt
image_fills c q (r ∷ rs) a =
    all_append (IsImageSince c q) (fill_of c.p r r.was.given) (fills c.p rs) (image_fill c q r r.was.given refl a.0) (image_fills c q rs a.1)

pub fills_are_images : FillsAreImages
fills_are_images c q i some = image_fills c (q ++ i ∷ []) (turn c q i).retired (retired_heard_what_came c q i some)
