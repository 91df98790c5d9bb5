-- What a datagram and a moment make of the receiver's open blocks.
use Rattle.std.proofs.Common.{◌≡◌, ◌⊎◌, inl, inr, ℕ, ◌+◌, ◌-◌, ◌*◌, ◌^◌, ◌<◌, ◌≤◌, List, [], ◌∷◌, ◌++◌, Bool, true, false, Option, Some, None, Result, Ok, Err, refl, sym, ap, subst, ◌∙◌, arith}
use Rattle.std.specs.Prelude.{nat_lt, not, if◌then◌else◌, IfSome}
use Rattle.std.specs.List.{AllByRecursion}
use Rattle.stream_packets.specs.Packets.{StreamPacket, head_of, is_notice}
use Rattle.gvsp_wire.specs.declared.wire_error.WireError.{WireError}
use Rattle.gvsp_wire.specs.Reading.{reading, packet_of, ok_of}
use Rattle.block_image.specs.Kept.{fits}
use Rattle.acquisition_machine.specs.declared.need.Why.{Why}
use Rattle.acquisition_machine.specs.declared.need.Why.TheVariants.{Foreign, Late, Repeat, Misfit, Notice}
use Rattle.acquisition_machine.specs.Blocks.{Given, Open, Retirement, opened, is_new, ranges_asked, after_asking}
use Rattle.acquisition_machine.specs.Machine.{Input, datagram, claimed, tick, stop, restart, State, Turn, bound, shown, open_at, unasked, ignored, noted, noted_in, keeps, hears_open, hears_fitting, hears_packet, hears, floor_after, after_rounds, step}
use Rattle.acquisition_machine.specs.Sound.{RiseFrom, AreOthers, IsSound}
use Rattle.acquisition_machine.specs.TurnLaws.{asked_by}
use Rattle.acquisition_machine.proofs.Order.{all_append, all_front, all_back, rise_swap, rise_put}
use Rattle.acquisition_machine.proofs.Retiring.{were, floor_rises}
use Rattle.acquisition_machine.proofs.Keeping.{all_swap}
use Rattle.acquisition_machine.proofs.Counting.{claims_follow_buffer}
use Rattle.acquisition_machine.proofs.Turned.{Hears, Changed, nothing, passed, heard, taken, Turned, turned}
use Rattle.acquisition_machine.proofs.Window.{hears-block, step_sound}
use Rattle.world_laws.specs.Receiver.{soak_config}
use Rattle.world_laws.specs.Tail.{REPLY_ROUNDS, asks_left, ages_left, HasBlock, IsRecent}

-- ---- lists of blocks

pub asks-append : (xs ys : List Open) → asks_left (xs ++ ys) ≡ asks_left xs + asks_left ys
asks-append [] ys = omega arith
asks-append (o ∷ xs) ys = let rest = asks-append xs ys in omega arith

pub ages-append : (now : ℕ) (xs ys : List Open) → ages_left now (xs ++ ys) ≡ ages_left now xs + ages_left now ys
ages-append now [] ys = omega arith
ages-append now (o ∷ xs) ys = let rest = ages-append now xs ys in omega arith

pub has_front : (b : ℕ) (xs ys : List Open) → HasBlock b xs → HasBlock b (xs ++ ys)
has_front b [] ys h = absurd h
has_front b (o ∷ xs) ys (inl e) = inl e
has_front b (o ∷ xs) ys (inr h) = inr (has_front b xs ys h)

pub has_back : (b : ℕ) (xs ys : List Open) → HasBlock b ys → HasBlock b (xs ++ ys)
has_back b [] ys h = h
has_back b (o ∷ xs) ys h = inr (has_back b xs ys h)

has_cases : (b : ℕ) (xs ys : List Open) → HasBlock b (xs ++ ys) → HasBlock b xs ⊎ HasBlock b ys
has_cases b [] ys h = inr h
has_cases b (o ∷ xs) ys (inl e) = inl (inl e)
has_cases b (o ∷ xs) ys (inr h) = elim (has_cases b xs ys h) [ inl f ↦ inl (inr f) | inr f ↦ inr f ]

pub has_others : (b : ℕ) (os : List Open) → HasBlock b os → AreOthers b os → ⊥
has_others b [] h a = h
has_others b (o ∷ os) (inl e) a = a.0 e
has_others b (o ∷ os) (inr h) a = has_others b os h a.1

pub has_of : {P : Open → Type 0} (b : ℕ) (os : List Open) (Q : ℕ → Type 0) → ((o : Open) → P o → Q o.block) → AllByRecursion P os → HasBlock b os → Q b
has_of b [] Q f a h = absurd h
has_of b (o ∷ os) Q f a (inl e) = subst Q e (f o a.0)
has_of {P} b (o ∷ os) Q f a (inr h) = has_of {P = P} b os Q f a.1 h

-- ---- rounds change no ids and no moments

asking-block : (now : ℕ) (o : Open) (rs : List (ℕ × ℕ)) → (after_asking now o rs).block ≡ o.block
asking-block now o [] = refl
asking-block now o (r ∷ rs) = refl

asking-last : (now : ℕ) (o : Open) (rs : List (ℕ × ℕ)) → (after_asking now o rs).last ≡ o.last
asking-last now o [] = refl
asking-last now o (r ∷ rs) = refl

has_rounds : (b now : ℕ) (os : List Open) → HasBlock b os → HasBlock b (after_rounds soak_config now os)
has_rounds b now [] h = h
has_rounds b now (o ∷ os) (inl e) = inl (asking-block now o (ranges_asked soak_config now o) ∙ e)
has_rounds b now (o ∷ os) (inr h) = inr (has_rounds b now os h)

pub ages-rounds : (n now : ℕ) (os : List Open) → ages_left n (after_rounds soak_config now os) ≡ ages_left n os
ages-rounds n now [] = refl
ages-rounds n now (o ∷ os) = rw (asking-last now o (ranges_asked soak_config now o), ages-rounds n now os) refl

recent_round : (n now : ℕ) (o : Open) (rs : List (ℕ × ℕ)) → IsRecent n o → IsRecent n (after_asking now o rs)
recent_round n now o [] h = h
recent_round n now o (r ∷ rs) h = record { last = h.last; block = h.block }

pub recent_rounds : (n now : ℕ) (os : List Open) → AllByRecursion (IsRecent n) os → AllByRecursion (IsRecent n) (after_rounds soak_config now os)
recent_rounds n now [] a = tt
recent_rounds n now (o ∷ os) a = (recent_round n now o (ranges_asked soak_config now o) a.0, recent_rounds n now os a.1)

-- ---- one datagram, or the outcome of a claim

-- what an input that opens a block adds
abbrev pub added_by : Input → ℕ
added_by (datagram bytes) = 0
added_by (claimed given) = REPLY_ROUNDS * soak_config.rounds
added_by (tick moment) = 0
added_by stop = 0
added_by restart = 0

-- the block for which a claim's outcome comes has an id of 64 bits
abbrev pub ClaimIsLow : State → Input → Type 0
ClaimIsLow s (datagram bytes) = Unit {0}
ClaimIsLow s (claimed given) = (b : ℕ) → s.asked ≡ Some b → b < 2 ^ 64
ClaimIsLow s (tick moment) = Unit {0}
ClaimIsLow s stop = Unit {0}
ClaimIsLow s restart = Unit {0}

hears-asks : (now : ℕ) (x : StreamPacket) (o n : Open) → Hears now x o n → n.rounds ≡ o.rounds
hears-asks now x o n (inl e) = ap (λ (m : Open). m.rounds) e
hears-asks now x o n (inr e) = ap (λ (m : Open). m.rounds) e

hears-recent : (now : ℕ) (x : StreamPacket) (o n : Open) → Hears now x o n → IsRecent now o → IsRecent now n
hears-recent now x o n (inl e) h = subst (IsRecent now) (sym e) (record { last = h.last; block = h.block })
hears-recent now x o n (inr e) h = subst (IsRecent now) (sym e) (record { last = omega arith; block = h.block })

-- What the blocks are before any retires.
pub record Mid (s : State) (i : Input) (mid : List Open) : Type 0 where
  pub asks : asks_left mid ≤ asks_left s.opens + added_by i
  pub has : (b : ℕ) → HasBlock b s.opens → HasBlock b mid
  pub recent : AllByRecursion (IsRecent s.now) mid
  pub rise : RiseFrom s.floor mid

mid_same : (s : State) (i : Input) → IsSound soak_config s → AllByRecursion (IsRecent s.now) s.opens → Mid s i s.opens
mid_same s i sound recent = record { asks = omega arith; has = λ b h. h; recent = recent; rise = sound.rise }

mid_heard : (s : State) (i : Input) (now : ℕ) (x : StreamPacket) (front : List Open) (o n : Open) (back : List Open) → now ≡ s.now → s.opens ≡ front ++ o ∷ back → Hears now x o n
    → IsSound soak_config s → AllByRecursion (IsRecent s.now) s.opens → Mid s i (front ++ n ∷ back)
mid_heard s i now x front o n back same parts h sound recent = record {
  asks = omega (arith, asks-append front (o ∷ back), asks-append front (n ∷ back), hears-asks now x o n h, ap asks_left parts);
  has = λ b was. moved b (has_cases b front (o ∷ back) (subst (HasBlock b) parts was));
  recent = all_swap (IsRecent s.now) front o n back (subst (AllByRecursion (IsRecent s.now)) parts recent)
      (subst (λ (k : ℕ). IsRecent k o → IsRecent k n) same (hears-recent now x o n h));
  rise = rise_swap s.floor front o n back (hears-block now x o n h) (subst (RiseFrom s.floor) parts sound.rise);
}
  where
    moved : (b : ℕ) → HasBlock b front ⊎ HasBlock b (o ∷ back) → HasBlock b (front ++ n ∷ back)
    moved b (inl f) = has_front b front (n ∷ back) f
    moved b (inr (inl e)) = has_back b front (n ∷ back) (inl (hears-block now x o n h ∙ e))
    moved b (inr (inr f)) = has_back b front (n ∷ back) (inr f)

mid_taken : (s : State) (b : ℕ) (given : Option Given) (front back : List Open) → s.opens ≡ front ++ back → RiseFrom s.floor (front ++ opened b given s.now ∷ back) → b < 2 ^ 64
    → AllByRecursion (IsRecent s.now) s.opens → Mid s (claimed given) (front ++ opened b given s.now ∷ back)
mid_taken s b given front back parts rise low recent =
    let all = subst (AllByRecursion (IsRecent s.now)) parts recent in
    record {
      asks = omega (arith, asks-append front back, asks-append front (opened b given s.now ∷ back), ap asks_left parts);
      has = λ k was. moved k (has_cases k front back (subst (HasBlock k) parts was));
      recent = all_append (IsRecent s.now) front (opened b given s.now ∷ back) (all_front (IsRecent s.now) front back all)
          (record { last = omega arith; block = low }, all_back (IsRecent s.now) front back all);
      rise = rise;
    }
  where
    moved : (k : ℕ) → HasBlock k front ⊎ HasBlock k back → HasBlock k (front ++ opened b given s.now ∷ back)
    moved k (inl f) = has_front k front (opened b given s.now ∷ back) f
    moved k (inr f) = has_back k front (opened b given s.now ∷ back) (inr f)

pub mid_of : (s : State) {i : Input} {mid : List Open} → IsSound soak_config s → AllByRecursion (IsRecent s.now) s.opens → ClaimIsLow s i → Changed s i mid → Mid s i mid
mid_of s sound recent low (nothing none) = mid_same s _ sound recent
mid_of s sound recent low (passed bytes x is others) = mid_same s _ sound recent
mid_of s sound recent low (heard bytes x o n f is h) = mid_heard s _ s.now x f.front o n f.back refl f.parts h sound recent
mid_of s sound recent low (taken b given f e) =
    mid_taken s b given f.front f.back f.was
    (subst (RiseFrom s.floor) f.now (rise_put s.floor (opened b given s.now) s.opens (sound.claim b e).above (sound.claim b e).others sound.rise))
    (low b e) recent

-- The block is open, or it retired: none of its packets opens a block.
abbrev pub IsKnown : State → ℕ → Type 0
IsKnown s b = HasBlock b s.opens ⊎ (b < s.floor)

-- what retired lies below the floor
below_floor : (b low : ℕ) (rs : List Retirement) (os : List Open) → RiseFrom low (were rs ++ os) → HasBlock b (were rs) → b < floor_after low rs
below_floor b low [] os r h = absurd h
below_floor b low (x ∷ rs) os r (inl e) = let above = floor_rises (x.was.block + 1) rs os r.1 in omega arith
below_floor b low (x ∷ rs) os r (inr h) = below_floor b (x.was.block + 1) rs os r.1 h

-- What an input leaves that isn't a moment, a stop or a start.
pub record Left (s : State) (i : Input) (t : State) : Type 0 where
  pub asks : asks_left t.opens ≤ asks_left s.opens + added_by i
  pub known : (b : ℕ) → IsKnown s b → IsKnown t b
  pub recent : AllByRecursion (IsRecent s.now) t.opens

-- the floor goes on above what retired
abbrev pub GoesOn : State → Turn → Type 0
GoesOn s t = t.after.floor ≡ floor_after s.floor t.retired

pub asks-rounds : (now : ℕ) (o : Open) (rs : List (ℕ × ℕ)) → soak_config.rounds - (after_asking now o rs).rounds ≤ soak_config.rounds - o.rounds
asks-rounds now o [] = omega arith
asks-rounds now o (r ∷ rs) = omega arith

rounds_asks : (now : ℕ) (os : List Open) → asks_left (after_rounds soak_config now os) ≤ asks_left os
rounds_asks now [] = omega arith
rounds_asks now (o ∷ os) = let first = asks-rounds now o (ranges_asked soak_config now o) in let rest = rounds_asks now os in omega arith

pub left_from : (s : State) (i : Input) (t : Turn) (mid rest : List Open) → GoesOn s t → Mid s i mid → were t.retired ++ rest ≡ mid
    → (t.after.opens ≡ rest) ⊎ (t.after.opens ≡ after_rounds soak_config t.after.now rest) → Left s i t.after
left_from s i t mid rest floor m parts opens = record {
  asks = asks opens;
  known = known;
  recent = recent opens (all_back (IsRecent s.now) (were t.retired) rest (subst (AllByRecursion (IsRecent s.now)) (sym parts) m.recent));
}
  where
    rise : RiseFrom s.floor (were t.retired ++ rest)
    rise = subst (RiseFrom s.floor) (sym parts) m.rise

    asks : (t.after.opens ≡ rest) ⊎ (t.after.opens ≡ after_rounds soak_config t.after.now rest) → asks_left t.after.opens ≤ asks_left s.opens + added_by i
    asks (inl e) = let all = m.asks in omega (arith, ap asks_left e, ap asks_left parts, asks-append (were t.retired) rest)
    asks (inr e) = let all = m.asks in omega (arith, ap asks_left e, ap asks_left parts, asks-append (were t.retired) rest, rounds_asks t.after.now rest)

    stays : (b : ℕ) → (t.after.opens ≡ rest) ⊎ (t.after.opens ≡ after_rounds soak_config t.after.now rest) → HasBlock b rest → HasBlock b t.after.opens
    stays b (inl e) h = subst (HasBlock b) (sym e) h
    stays b (inr e) h = subst (HasBlock b) (sym e) (has_rounds b t.after.now rest h)

    known : (b : ℕ) → IsKnown s b → IsKnown t.after b
    known b (inr low) = let higher = floor_rises s.floor t.retired rest rise in inr (omega arith)
    known b (inl h) = go (has_cases b (were t.retired) rest (subst (HasBlock b) (sym parts) (m.has b h)))
      where
        go : HasBlock b (were t.retired) ⊎ HasBlock b rest → IsKnown t.after b
        go (inl gone) = let low = below_floor b s.floor t.retired rest rise gone in inr (omega arith)
        go (inr here) = inl (stays b opens here)

    recent : (t.after.opens ≡ rest) ⊎ (t.after.opens ≡ after_rounds soak_config t.after.now rest) → AllByRecursion (IsRecent s.now) rest → AllByRecursion (IsRecent s.now) t.after.opens
    recent (inl e) a = subst (AllByRecursion (IsRecent s.now)) (sym e) a
    recent (inr e) a = subst (AllByRecursion (IsRecent s.now)) (sym e) (recent_rounds s.now t.after.now rest a)

-- ---- which block a datagram asks a buffer for

-- P holds of the block of the packet that the bytes are, if they are one.
abbrev pub IsOf : (ℕ → Type 0) → List ℕ → Type 0
IsOf P bytes = (x : StreamPacket) → packet_of bytes ≡ Some x → P (head_of x).block

-- The turn leaves the moment, and asks for a buffer for such a block alone.
record AsksOf (P : ℕ → Type 0) (now : ℕ) (t : Turn) : Type 0 where
  now_is : t.after.now ≡ now
  asked : IfSome (asked_by t.need) P

asks_if : (P : ℕ → Type 0) (now : ℕ) (b : Bool) (t u : Turn) → AsksOf P now t → AsksOf P now u → AsksOf P now (if b then t else u)
asks_if P now true t u h k = h
asks_if P now false t u h k = k

asks_ignored : (P : ℕ → Type 0) (s : State) (why : Why) → AsksOf P s.now (ignored why s)
asks_ignored P s why = record { now_is = refl; asked = tt }

asks_noted : (P : ℕ → Type 0) (s : State) (x : StreamPacket) (found : Option Open) (why : Why) → AsksOf P s.now (ignored why (noted_in x found s))
asks_noted P s x None why = record { now_is = refl; asked = tt }
asks_noted P s x (Some o) why = record { now_is = refl; asked = tt }

asks_open : (P : ℕ → Type 0) (s : State) (x : StreamPacket) (o : Open) (given : Option Given) → AsksOf P s.now (hears_open soak_config x o given s)
asks_open P s x o None = record { now_is = refl; asked = tt }
asks_open P s x o (Some g) =
    asks_if P s.now (is_new soak_config.p o x) (keeps soak_config x o s) (ignored Repeat (noted x o s)) (record { now_is = refl; asked = tt }) (record { now_is = refl; asked = tt })

asks_fitting : (P : ℕ → Type 0) (s : State) (x : StreamPacket) (found : Option Open) → P (head_of x).block → AsksOf P s.now (hears_fitting soak_config x found s)
asks_fitting P s x None h = record { now_is = refl; asked = h }
asks_fitting P s x (Some o) h = asks_open P s x o o.given

asks_read : (P : ℕ → Type 0) (s : State) (r : Result StreamPacket WireError) → ((x : StreamPacket) → ok_of r ≡ Some x → P (head_of x).block) → AsksOf P s.now (hears soak_config r s)
asks_read P s (Err e) h = asks_ignored P s (Foreign e)
asks_read P s (Ok x) h =
    asks_if P s.now (nat_lt (head_of x).block (bound soak_config s)) (ignored (Late (shown (bound soak_config s))) s) (hears_packet soak_config x found s)
    (asks_ignored P s (Late (shown (bound soak_config s))))
    (asks_if P s.now (is_notice x) (ignored Notice (noted_in x found s)) (if not (fits soak_config.p x) then ignored Misfit (noted_in x found s) else hears_fitting soak_config x found s)
    (asks_noted P s x found Notice)
    (asks_if P s.now (not (fits soak_config.p x)) (ignored Misfit (noted_in x found s)) (hears_fitting soak_config x found s)
    (asks_noted P s x found Misfit) (asks_fitting P s x found (h x refl))))
  where
    found : Option Open
    found = open_at (head_of x).block s.opens

-- ---- the receiver's state between two moments

-- the state while time stands at a moment
pub record Standing (now : ℕ) (s : State) : Type 0 where
  pub sound : IsSound soak_config s
  pub recent : AllByRecursion (IsRecent now) s.opens
  pub now_is : s.now ≡ now

-- what datagrams of known blocks leave
pub record Follows (s t : State) : Type 0 where
  pub asks : asks_left t.opens ≤ asks_left s.opens
  pub known : (b : ℕ) → IsKnown s b → IsKnown t b

pub follows_itself : (s : State) → Follows s s
follows_itself s = record { asks = omega arith; known = λ b h. h }

pub follows_both : (s t u : State) → Follows s t → Follows t u → Follows s u
follows_both s t u f g = record { asks = let first = f.asks in let second = g.asks in omega arith; known = λ b h. g.known b (f.known b h) }

-- a datagram is told
pub record Told (P : ℕ → Type 0) (now : ℕ) (s : State) (t : Turn) : Type 0 where
  pub standing : Standing now t.after
  pub follows : Follows s t.after
  pub asked : IfSome (asked_by t.need) P
  pub is_asked : t.after.asked ≡ asked_by t.need

pub told_datagram : (P : ℕ → Type 0) (now : ℕ) (s : State) (bytes : List ℕ) → IsOf P bytes → Standing now s → Told P now s (step soak_config s (datagram bytes))
told_datagram P now s bytes h st = record {
  standing = record { sound = step_sound soak_config s (datagram bytes) (omega arith) st.sound; recent = subst (λ (n : ℕ). AllByRecursion (IsRecent n) t.after.opens) st.now_is l.recent; now_is = a.now_is ∙ st.now_is };
  follows = record { asks = let fewer = l.asks in omega arith; known = l.known };
  asked = a.asked;
  is_asked = claims_follow_buffer soak_config s (datagram bytes);
}
  where
    t : Turn
    t = step soak_config s (datagram bytes)

    a : AsksOf P s.now t
    a = asks_read P (unasked s) (reading bytes) h

    d : Turned soak_config s (datagram bytes) t
    d = turned soak_config s (datagram bytes) (omega arith) st.sound

    recent : AllByRecursion (IsRecent s.now) s.opens
    recent = subst (λ (n : ℕ). AllByRecursion (IsRecent n) s.opens) (sym st.now_is) st.recent

    l : Left s (datagram bytes) t.after
    l = left_from s (datagram bytes) t d.mid d.rest d.floor (mid_of s st.sound recent tt d.changed) d.parts d.opens
