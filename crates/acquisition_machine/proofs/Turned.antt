-- What one input makes of a state, in three stages: a block changes or is opened, the lowest blocks retire,
-- and the others do their rounds.
use Rattle.std.proofs.Common.{◌≡◌, ◌≢◌, ◌⊎◌, inl, inr, ℕ, ◌+◌, ◌-◌, ◌<◌, ◌≤◌, max, List, [], ◌∷◌, ◌++◌, length, Bool, true, false, refl, sym, ap, subst, ◌∙◌, arith}
use Rattle.std.specs.Prelude.{⊤, nat_lt, not, Option, Some, None, Result, Ok, Err, if◌then◌else◌}
use Rattle.std.specs.List.{AllByRecursion}
use Rattle.std.proofs.lemmas.Bool.{cond_both, leb-true, leb-false, ltb-true, ltb-false}
use Rattle.stream_packets.specs.Packets.{StreamPacket, head_of, is_notice}
use Rattle.gvsp_wire.specs.declared.wire_error.WireError.{WireError}
use Rattle.gvsp_wire.specs.Reading.{reading, packet_of, ok_of}
use Rattle.block_image.specs.Kept.{fits}
use Rattle.acquisition_machine.specs.declared.config.AcqConfig.{AcqConfig}
use Rattle.acquisition_machine.specs.declared.need.Why.{Why}
use Rattle.acquisition_machine.specs.declared.need.Why.TheVariants.{Foreign, Late, Repeat, Misfit, Starved, Notice}
use Rattle.acquisition_machine.specs.Blocks.{Given, Open, Cause, complete, old, Retirement, opened, hearing, keeping, is_new, has_whole, is_complete, is_old, due}
use Rattle.acquisition_machine.specs.Machine.{Input, datagram, claimed, tick, stop, restart, State, Turn, is_full, lowest_or, bound_of, bound, shown, open_at, put, leave_if, leaving, staying, floor_after, unasked, quiet, ignored, noted, noted_in, keeps, displaced_of, rest_of, wants, hears_open, hears_fitting, hears_packet, hears, opens_block, step, all_stopped, after_rounds}
use Rattle.acquisition_machine.specs.Runs.{packets_in, with_packet}
use Rattle.acquisition_machine.specs.Sound.{RiseFrom, AreOthers, MayOpen, IsRequestNumber, IsSound}
use Rattle.acquisition_machine.specs.TurnLaws.{IsWhole, IsTrueCause, HaveTrueCauses}
use Rattle.acquisition_machine.proofs.Order.{all_back, rise_others, rise_here, IsFound, Finds, find, put_found, IsPut, put_new}
use Rattle.acquisition_machine.proofs.Retiring.{were, settle_parts, displaced_parts, stopped_parts, bound_below_lowest}
use Rattle.acquisition_machine.proofs.Numbers.{number_past-keeps}

-- one more packet came for the block, and maybe is kept
abbrev pub Hears : ℕ → StreamPacket → Open → Open → Type 0
Hears now x o n = (n ≡ hearing x o) ⊎ (n ≡ keeping now x o)

-- which blocks are open before any retires
pub data Changed (s : State) : Input → List Open → Type 0 where
  -- no packet came, and no block is opened
  nothing : {i : Input} → packets_in (i ∷ []) ≡ [] → Changed s i s.opens
  -- a packet of no open block
  passed : (bytes : List ℕ) (x : StreamPacket) → packet_of bytes ≡ Some x → AreOthers (head_of x).block s.opens → Changed s (datagram bytes) s.opens
  heard : (bytes : List ℕ) (x : StreamPacket) (o n : Open) (f : IsFound (head_of x).block s.opens o) → packet_of bytes ≡ Some x → Hears s.now x o n → Changed s (datagram bytes) (f.front ++ n ∷ f.back)
  taken : (b : ℕ) (given : Option Given) (f : IsPut (opened b given s.now) s.opens (put (opened b given s.now) s.opens)) → s.asked ≡ Some b → Changed s (claimed given) (f.front ++ opened b given s.now ∷ f.back)

-- the floor goes on above what retired, and a start sets it to 1
abbrev pub FloorIs : State → Input → Turn → Type 0
FloorIs s (datagram bytes) t = t.after.floor ≡ floor_after s.floor t.retired
FloorIs s (claimed given) t = t.after.floor ≡ floor_after s.floor t.retired
FloorIs s (tick moment) t = t.after.floor ≡ floor_after s.floor t.retired
FloorIs s stop t = t.after.floor ≡ floor_after s.floor t.retired
FloorIs s restart t = t.after.floor ≡ 1

pub record Turned (c : AcqConfig) (s : State) (i : Input) (t : Turn) : Type 0 where
  pub mid : List Open
  pub rest : List Open
  pub changed : Changed s i mid
  pub parts : were t.retired ++ rest ≡ mid
  pub opens : (t.after.opens ≡ rest) ⊎ (t.after.opens ≡ after_rounds c t.after.now rest)
  pub floor : FloorIs s i t
  pub claim : (b : ℕ) → t.after.asked ≡ Some b → MayOpen c t.after b
  pub number : IsRequestNumber s.number → IsRequestNumber t.after.number
  pub causes : HaveTrueCauses c s i t

-- ---- causes of what settles

whole_is : (p : ℕ) (o : Open) (given : Option Given) → o.given ≡ given → has_whole p o given ≡ true → IsWhole p o
whole_is p o None e h = absurd cc
whole_is p o (Some g) e h = record { given = g; has = e; whole = h }

abbrev DueIs : AcqConfig → State → Input → ℕ → Open → Option Cause → Type 0
DueIs c s i now o None = ⊤
DueIs c s i now o (Some cause) = IsTrueCause c s i now o cause

due_step : (c : AcqConfig) (s : State) (i : Input) (now : ℕ) (o : Open) (v w : Bool) → (v ≡ true → IsWhole c.p o) → (w ≡ true → c.timeout ≤ now - o.last) → DueIs c s i now o (if v then Some complete else if w then Some old else None)
due_step c s i now o true w whole age = whole refl
due_step c s i now o false true whole age = age refl
due_step c s i now o false false whole age = tt

due_is : (c : AcqConfig) (s : State) (i : Input) (now : ℕ) (o : Open) → DueIs c s i now o (due c now o)
due_is c s i now o =
    due_step c s i now o (is_complete c.p o) (is_old c.timeout now o)
    (whole_is c.p o o.given refl)
    (leb-true c.timeout (now - o.last))

leave_step : (c : AcqConfig) (s : State) (i : Input) (now : ℕ) (o : Open) (d : Option Cause) (rs : List Retirement) → DueIs c s i now o d → AllByRecursion (λ r. IsTrueCause c s i now r.was r.cause) rs → AllByRecursion (λ r. IsTrueCause c s i now r.was r.cause) (leave_if d o rs)
leave_step c s i now o None rs d a = tt
leave_step c s i now o (Some cause) rs d a = (d, a)

leaving_causes : (c : AcqConfig) (s : State) (i : Input) (now : ℕ) (os : List Open) → AllByRecursion (λ r. IsTrueCause c s i now r.was r.cause) (leaving c now os)
leaving_causes c s i now [] = tt
leaving_causes c s i now (o ∷ os) = leave_step c s i now o (due c now o) (leaving c now os) (due_is c s i now o) (leaving_causes c s i now os)

-- ---- a datagram

turned_ignored : (c : AcqConfig) (s : State) (bytes : List ℕ) (why : Why) → Changed s (datagram bytes) s.opens → Turned c s (datagram bytes) (ignored why (unasked s))
turned_ignored c s bytes why ch = record {
  mid = s.opens;
  rest = s.opens;
  changed = ch;
  parts = refl;
  opens = inl refl;
  floor = refl;
  claim = λ b e. absurd cc;
  number = λ n. n;
  causes = tt;
}

put_is : (c : AcqConfig) (s : State) (b : ℕ) (o n : Open) (f : IsFound b s.opens o) → IsSound c s → n.block ≡ o.block → put n s.opens ≡ f.front ++ n ∷ f.back
put_is c s b o n f sound e =
    subst (λ l. put n l ≡ f.front ++ n ∷ f.back) (sym f.parts)
    (put_found s.floor f.front o n f.back e (subst (λ l. RiseFrom s.floor l) f.parts sound.rise))

turned_noted : (c : AcqConfig) (s : State) (bytes : List ℕ) (x : StreamPacket) (o : Open) (why : Why) → IsSound c s → packet_of bytes ≡ Some x → IsFound (head_of x).block s.opens o → Turned c s (datagram bytes) (ignored why (noted x o (unasked s)))
turned_noted c s bytes x o why sound is f = record {
  mid = f.front ++ hearing x o ∷ f.back;
  rest = f.front ++ hearing x o ∷ f.back;
  changed = heard bytes x o (hearing x o) f is (inl refl);
  parts = refl;
  opens = inl (put_is c s (head_of x).block o (hearing x o) f sound refl);
  floor = refl;
  claim = λ b e. absurd cc;
  number = λ n. n;
  causes = tt;
}

turned_noted_in : (c : AcqConfig) (s : State) (bytes : List ℕ) (x : StreamPacket) (found : Option Open) (why : Why) → IsSound c s → packet_of bytes ≡ Some x → Finds (head_of x).block s.opens found → Turned c s (datagram bytes) (ignored why (noted_in x found (unasked s)))
turned_noted_in c s bytes x None why sound is f = turned_ignored c s bytes why (passed bytes x is f)
turned_noted_in c s bytes x (Some o) why sound is f = turned_noted c s bytes x o why sound is f

turned_keeps : (c : AcqConfig) (s : State) (bytes : List ℕ) (x : StreamPacket) (o : Open) → IsSound c s → packet_of bytes ≡ Some x → IsFound (head_of x).block s.opens o → Turned c s (datagram bytes) (keeps c x o (unasked s))
turned_keeps c s bytes x o sound is f = record {
  mid = f.front ++ keeping s.now x o ∷ f.back;
  rest = staying c s.now (put (keeping s.now x o) s.opens);
  changed = heard bytes x o (keeping s.now x o) f is (inr refl);
  parts = settle_parts c s.now (put (keeping s.now x o) s.opens) ∙ put_is c s (head_of x).block o (keeping s.now x o) f sound refl;
  opens = inl refl;
  floor = refl;
  claim = λ b e. absurd cc;
  number = λ n. n;
  causes = leaving_causes c s (datagram bytes) s.now (put (keeping s.now x o) s.opens);
}

-- a window with room, or its lowest block gives its place
may_open_after : (c : AcqConfig) (low b : ℕ) (full : Bool) (os : List Open) → 1 ≤ c.window → length os ≤ c.window → is_full c os ≡ full → AreOthers b os → (if full then lowest_or low os else low) ≤ b → (floor_after low (displaced_of full os) ≤ b) × (length (rest_of full os) < c.window)
may_open_after c low b true [] some room e others above = absurd (let none = leb-true c.window 0 e in omega arith)
may_open_after c low b true (o ∷ os) some room e others above =
    let apart : o.block ≢ b = others.0 in
    let later : o.block + 1 ≤ b = omega (arith, apart) in
    let fewer : length os < c.window = omega arith in
    (later, fewer)
may_open_after c low b false os some room e others above = (above, leb-false c.window (length os) e)

displaced_causes : (c : AcqConfig) (s : State) (bytes : List ℕ) (x : StreamPacket) (now : ℕ) (full : Bool) (os : List Open) → s.opens ≡ os → is_full c os ≡ full → packet_of bytes ≡ Some x → AreOthers (head_of x).block os → AllByRecursion (λ r. IsTrueCause c s (datagram bytes) now r.was r.cause) (displaced_of full os)
displaced_causes c s bytes x now false os same e is others = tt
displaced_causes c s bytes x now true [] same e is others = tt
displaced_causes c s bytes x now true (o ∷ os) same e is others = (
  record {
    bytes = bytes;
    packet = x;
    came = refl;
    is_packet = is;
    of_other = subst (λ l. AreOthers (head_of x).block l) (sym same) others;
    full = subst (λ l. c.window ≤ length l) (sym same) (leb-true c.window (length (o ∷ os)) e);
    later = os;
    lowest = same;
  },
  tt,
)

turned_wants : (c : AcqConfig) (s : State) (bytes : List ℕ) (x : StreamPacket) → 1 ≤ c.window → IsSound c s → packet_of bytes ≡ Some x → AreOthers (head_of x).block s.opens → bound c s ≤ (head_of x).block → Turned c s (datagram bytes) (wants c (head_of x).block (unasked s))
turned_wants c s bytes x some sound is others above =
    let free = may_open_after c s.floor (head_of x).block (is_full c s.opens) s.opens some sound.room refl others above in
    let parts = displaced_parts (is_full c s.opens) s.opens in
    record {
      mid = s.opens;
      rest = rest_of (is_full c s.opens) s.opens;
      changed = passed bytes x is others;
      parts = parts;
      opens = inl refl;
      floor = refl;
      claim = λ b e.
          let same : (head_of x).block ≡ b = cc in
          subst (λ k. MayOpen c (wants c (head_of x).block (unasked s)).after k) same
          (record {
            others = all_back (λ o. o.block ≢ (head_of x).block) (were (displaced_of (is_full c s.opens) s.opens)) (rest_of (is_full c s.opens) s.opens)
                (subst (λ l. AreOthers (head_of x).block l) (sym parts) others);
            above = free.0;
            room = free.1;
          });
      number = λ n. n;
      causes = displaced_causes c s bytes x s.now (is_full c s.opens) s.opens refl refl is others;
    }

turned_open : (c : AcqConfig) (s : State) (bytes : List ℕ) (x : StreamPacket) (o : Open) (given : Option Given) → IsSound c s → packet_of bytes ≡ Some x → IsFound (head_of x).block s.opens o → Turned c s (datagram bytes) (hears_open c x o given (unasked s))
turned_open c s bytes x o None sound is f = turned_noted c s bytes x o Starved sound is f
turned_open c s bytes x o (Some g) sound is f =
    cond_both (is_new c.p o x) (keeps c x o (unasked s)) (ignored Repeat (noted x o (unasked s))) (Turned c s (datagram bytes))
    (λ _. turned_keeps c s bytes x o sound is f)
    (λ _. turned_noted c s bytes x o Repeat sound is f)

turned_fitting : (c : AcqConfig) (s : State) (bytes : List ℕ) (x : StreamPacket) (found : Option Open) → 1 ≤ c.window → IsSound c s → packet_of bytes ≡ Some x → Finds (head_of x).block s.opens found → bound c s ≤ (head_of x).block → Turned c s (datagram bytes) (hears_fitting c x found (unasked s))
turned_fitting c s bytes x None some sound is f above = turned_wants c s bytes x some sound is f above
turned_fitting c s bytes x (Some o) some sound is f above = turned_open c s bytes x o o.given sound is f

turned_packet : (c : AcqConfig) (s : State) (bytes : List ℕ) (x : StreamPacket) (found : Option Open) → 1 ≤ c.window → IsSound c s → packet_of bytes ≡ Some x → Finds (head_of x).block s.opens found → bound c s ≤ (head_of x).block → Turned c s (datagram bytes) (hears_packet c x found (unasked s))
turned_packet c s bytes x found some sound is f above =
    cond_both (is_notice x) (ignored Notice (noted_in x found (unasked s)))
    (if not (fits c.p x) then ignored Misfit (noted_in x found (unasked s)) else hears_fitting c x found (unasked s))
    (Turned c s (datagram bytes))
    (λ _. turned_noted_in c s bytes x found Notice sound is f)
    (λ _. cond_both (not (fits c.p x)) (ignored Misfit (noted_in x found (unasked s))) (hears_fitting c x found (unasked s))
    (Turned c s (datagram bytes))
    (λ _. turned_noted_in c s bytes x found Misfit sound is f)
    (λ _. turned_fitting c s bytes x found some sound is f above))

-- what lies below the bound is none of the open blocks
late_others : (c : AcqConfig) (low b : ℕ) (os : List Open) → RiseFrom low os → b < bound_of c low os → AreOthers b os
late_others c low b [] r h = tt
late_others c low b (o ∷ os) r h =
    let within = bound_below_lowest c low o os r in
    let below : b < o.block = omega (arith, h, within) in
    rise_others b o.block (o ∷ os) below (rise_here low o os r)

turned_ok : (c : AcqConfig) (s : State) (bytes : List ℕ) (x : StreamPacket) → 1 ≤ c.window → IsSound c s → packet_of bytes ≡ Some x → Turned c s (datagram bytes) (hears c (Ok x) (unasked s))
turned_ok c s bytes x some sound is =
    cond_both (nat_lt (head_of x).block (bound c s)) (ignored (Late (shown (bound c s))) (unasked s))
    (hears_packet c x (open_at (head_of x).block s.opens) (unasked s))
    (Turned c s (datagram bytes))
    (λ e. turned_ignored c s bytes (Late (shown (bound c s)))
    (passed bytes x is (late_others c s.floor (head_of x).block s.opens sound.rise (ltb-true (head_of x).block (bound c s) e))))
    (λ e. turned_packet c s bytes x (open_at (head_of x).block s.opens) some sound is
    (find (head_of x).block s.floor s.opens sound.rise)
    (ltb-false (head_of x).block (bound c s) e))

turned_datagram : (c : AcqConfig) (s : State) (bytes : List ℕ) (r : Result StreamPacket WireError) → 1 ≤ c.window → IsSound c s → reading bytes ≡ r → Turned c s (datagram bytes) (hears c r (unasked s))
turned_datagram c s bytes (Err e) some sound is =
    let none : packet_of bytes ≡ None = ap ok_of is in
    turned_ignored c s bytes (Foreign e) (nothing (ap (λ o. with_packet o []) none))
turned_datagram c s bytes (Ok x) some sound is = turned_ok c s bytes x some sound (ap ok_of is)

-- ---- the other inputs

turned_claimed : (c : AcqConfig) (s : State) (given : Option Given) (asked : Option ℕ) → IsSound c s → s.asked ≡ asked → Turned c s (claimed given) (quiet (opens_block given asked (unasked s)))
turned_claimed c s given None sound e = record {
  mid = s.opens;
  rest = s.opens;
  changed = nothing refl;
  parts = refl;
  opens = inl refl;
  floor = refl;
  claim = λ b e. absurd cc;
  number = λ n. n;
  causes = tt;
}
turned_claimed c s given (Some b) sound e =
    let f = put_new (opened b given s.now) s.opens (sound.claim b e).others in
    record {
      mid = f.front ++ opened b given s.now ∷ f.back;
      rest = f.front ++ opened b given s.now ∷ f.back;
      changed = taken b given f e;
      parts = refl;
      opens = inl f.now;
      floor = refl;
      claim = λ b e. absurd cc;
      number = λ n. n;
      causes = tt;
    }

turned_tick : (c : AcqConfig) (s : State) (moment : ℕ) → Turned c s (tick moment) (step c s (tick moment))
turned_tick c s moment = record {
  mid = s.opens;
  rest = staying c (max s.now moment) s.opens;
  changed = nothing refl;
  parts = settle_parts c (max s.now moment) s.opens;
  opens = inr refl;
  floor = refl;
  claim = λ b e. absurd cc;
  number = number_past-keeps c (max s.now moment) s.number (staying c (max s.now moment) s.opens);
  causes = leaving_causes c s (tick moment) (max s.now moment) s.opens;
}

stopped_causes : (c : AcqConfig) (s : State) (now : ℕ) (os : List Open) → AllByRecursion (λ r. IsTrueCause c s stop now r.was r.cause) (all_stopped os)
stopped_causes c s now [] = tt
stopped_causes c s now (o ∷ os) = (refl, stopped_causes c s now os)

turned_stop : (c : AcqConfig) (s : State) → Turned c s stop (step c s stop)
turned_stop c s = record {
  mid = s.opens;
  rest = [];
  changed = nothing refl;
  parts = stopped_parts s.opens;
  opens = inl refl;
  floor = refl;
  claim = λ b e. absurd cc;
  number = λ n. n;
  causes = stopped_causes c s s.now s.opens;
}

turned_restart : (c : AcqConfig) (s : State) → Turned c s restart (step c s restart)
turned_restart c s = record {
  mid = s.opens;
  rest = s.opens;
  changed = nothing refl;
  parts = refl;
  opens = inl refl;
  floor = refl;
  claim = λ b e. absurd cc;
  number = λ n. n;
  causes = tt;
}

pub turned : (c : AcqConfig) (s : State) (i : Input) → 1 ≤ c.window → IsSound c s → Turned c s i (step c s i)
turned c s (datagram bytes) some sound = turned_datagram c s bytes (reading bytes) some sound refl
turned c s (claimed given) some sound = turned_claimed c s given s.asked sound refl
turned c s (tick moment) some sound = turned_tick c s moment
turned c s stop some sound = turned_stop c s
turned c s restart some sound = turned_restart c s
