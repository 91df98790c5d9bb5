-- Each block that was opened retired, or is open.
use Rattle.std.proofs.Common.{◌≡◌, ℕ, ◌+◌, ◌-◌, ◌≤◌, max, List, [], ◌∷◌, ◌++◌, length, Bool, true, false, refl, sym, ap, ◌∙◌, arith}
use Rattle.std.specs.Prelude.{⊤, ◌==◌, nat_lt, Option, Some, None, if◌then◌else◌}
use Rattle.std.proofs.lemmas.List.{length-append}
use Rattle.stream_packets.specs.Packets.{StreamPacket, leader, payload, trailer, notice}
use Rattle.gvsp_wire.specs.Reading.{packet_of}
use Rattle.board_machine.specs.Machine.{Board, Item}
use Rattle.acquisition_machine.specs.declared.config.AcqConfig.{AcqConfig}
use Rattle.acquisition_machine.specs.declared.need.Need.{Need}
use Rattle.acquisition_machine.specs.declared.need.Need.TheVariants.{Buffer, Done, Ignored}
use Rattle.acquisition_machine.specs.Blocks.{Given, Open, Cause, Retirement, opened, ranges_asked}
use Rattle.acquisition_machine.specs.Machine.{Input, datagram, claimed, tick, stop, restart, State, Turn, put, opens_block, settled, unasked, step}
use Rattle.acquisition_machine.specs.Runs.{first_state, after_from}
use Rattle.acquisition_machine.specs.Sound.{IsSound}
use Rattle.acquisition_machine.proofs.Order.{length-swap, length-put, IsPut, put_new}
use Rattle.acquisition_machine.proofs.Retiring.{were}
use Rattle.acquisition_machine.proofs.Turned.{Changed, nothing, passed, heard, taken, Turned, turned}
use Rattle.acquisition_machine.proofs.Window.{length-opens, step_sound, first_sound}
use Rattle.script_trace.specs.Notes.{Note, first, absent}
use Rattle.script_trace.specs.Inputs.{drop_notes, first_dropped, gap, ended_notes, after_end, retired_notes, kept_note, need_notes, open_notes, ask_notes, round_notes, turn_notes, after_turn, notes_from}
use Rattle.script_trace.specs.Counted.{is_opening, is_ending, times_so}
use Rattle.script_trace.specs.InputLaws.{OpenedAreAccounted}

pub times-append : (test : Note → Bool) (xs ys : List Note) → times_so test (xs ++ ys) ≡ times_so test xs + times_so test ys
times-append test [] ys = let e : times_so test ys ≡ 0 + times_so test ys = omega arith in e
times-append test (x ∷ xs) ys = omega (arith, times-append test xs ys)

-- how many open a block, and how many end one
record Tells (xs : List Note) (opening ending : ℕ) : Type 0 where
  pub opens : times_so is_opening xs ≡ opening
  pub ends : times_so is_ending xs ≡ ending

none : Tells [] 0 0
none = record { opens = refl; ends = refl }

both : (xs ys : List Note) (a b e f : ℕ) → Tells xs a e → Tells ys b f → Tells (xs ++ ys) (a + b) (e + f)
both xs ys a b e f s t = record {
  opens = times-append is_opening xs ys ∙ ap (λ (k : ℕ). k + times_so is_opening ys) s.opens ∙ ap (λ (k : ℕ). a + k) t.opens;
  ends = times-append is_ending xs ys ∙ ap (λ (k : ℕ). k + times_so is_ending ys) s.ends ∙ ap (λ (k : ℕ). e + k) t.ends;
}

of_drops : (b : Board) (xs : List Item) → Tells (drop_notes b xs) 0 0
of_drops b [] = none
of_drops b (x ∷ xs) = let rest = of_drops b xs in record { opens = omega (arith, rest.opens); ends = omega (arith, rest.ends) }

of_gap : (floor b : ℕ) → Tells (gap floor b) 0 0
of_gap floor b = go (nat_lt floor b) (floor == 1) where
  go : (v w : Bool) → Tells (if v then (if w then first b ∷ [] else absent (floor, b - 1) ∷ []) else []) 0 0
  go true true = record { opens = omega arith; ends = omega arith }
  go true false = record { opens = omega arith; ends = omega arith }
  go false w = none

of_ended : (c : AcqConfig) (b : Board) (ds : List (List Item)) (o : Open) (cause : Cause) (given : Option Given) → Tells (ended_notes c b ds o cause given) 0 1
of_ended c b ds o cause None = record { opens = omega arith; ends = omega arith }
of_ended c b ds o cause (Some g) = both (drop_notes b (first_dropped ds)) _ 0 0 0 1 (of_drops b (first_dropped ds)) (record { opens = omega arith; ends = omega arith })

of_retired : (c : AcqConfig) (b : Board) (ds : List (List Item)) (floor : ℕ) (rs : List Retirement) → Tells (retired_notes c b ds floor rs) 0 (length rs)
of_retired c b ds floor [] = none
of_retired c b ds floor (r ∷ rs) =
    let rest = of_retired c b (after_end ds r.was.given) (r.was.block + 1) rs in
    let own = both (ended_notes c b ds r.was r.cause r.was.given) (retired_notes c b (after_end ds r.was.given) (r.was.block + 1) rs) 0 0 1 (length rs)
    (of_ended c b ds r.was r.cause r.was.given) rest in
    let all = both (gap floor r.was.block) _ 0 (0 + 0) 0 (1 + length rs) (of_gap floor r.was.block) own in
    record { opens = omega (arith, all.opens); ends = omega (arith, all.ends) }

of_kept : (x : Option StreamPacket) → Tells (kept_note x) 0 0
of_kept None = none
of_kept (Some (leader h i)) = record { opens = omega arith; ends = omega arith }
of_kept (Some (payload h d)) = none
of_kept (Some (trailer h y)) = none
of_kept (Some (notice h)) = none

of_need : (x : Option StreamPacket) (need : Option Need) → Tells (need_notes x need) 0 0
of_need x None = none
of_need x (Some (Buffer b)) = none
of_need x (Some Done) = of_kept x
of_need x (Some (Ignored why)) = record { opens = omega arith; ends = omega arith }

of_asks : (b round : ℕ) (rs : List (ℕ × ℕ)) → Tells (ask_notes b round rs) 0 0
of_asks b round [] = none
of_asks b round (r ∷ rs) = let rest = of_asks b round rs in record { opens = omega (arith, rest.opens); ends = omega (arith, rest.ends) }

of_rounds : (c : AcqConfig) (now : ℕ) (os : List Open) → Tells (round_notes c now os) 0 0
of_rounds c now [] = none
of_rounds c now (o ∷ os) =
    both (ask_notes o.block (o.rounds + 1) (ranges_asked c now o)) (round_notes c now os) 0 0 0 0 (of_asks o.block (o.rounds + 1) (ranges_asked c now o)) (of_rounds c now os)

-- ---- what one input changes

abbrev IsClaim : Input → Type 0
IsClaim (datagram bytes) = ⊥
IsClaim (claimed given) = ⊤
IsClaim (tick moment) = ⊥
IsClaim stop = ⊥
IsClaim restart = ⊥

same_changed : (s : State) {i : Input} {mid : List Open} → Changed s i mid → (IsClaim i → ⊥) → length mid ≡ length s.opens
same_changed s (nothing e) apart = refl
same_changed s (passed bytes x e others) apart = refl
same_changed s (heard bytes x o n f e h) apart = length-swap f.front o n f.back ∙ sym (ap length f.parts)
same_changed s (taken b given f e) apart = absurd (apart tt)

length-were : (rs : List Retirement) → length (were rs) ≡ length rs
length-were [] = refl
length-were (r ∷ rs) = omega (arith, length-were rs)

-- where no block is opened
kept_open : (c : AcqConfig) (s : State) (i : Input) → 1 ≤ c.window → IsSound c s → (IsClaim i → ⊥) → length s.opens ≡ length (step c s i).retired + length (step c s i).after.opens
kept_open c s i some sound apart =
    let t : Turn = step c s i in
    let d : Turned c s i t = turned c s i some sound in
    let mid = same_changed s d.changed apart in
    let parts = ap length d.parts in
    let all = length-append (were t.retired) d.rest in
    let gone = length-were t.retired in
    let stay = length-opens c t.after.now d.rest t.after.opens d.opens in
    omega (arith, mid, parts, all, gone, stay)

-- how many notes of opened blocks come, how many of ended ones, and how many blocks are open before and after
record Balances (xs : List Note) (before after : ℕ) : Type 0 where
  pub opened : ℕ
  pub ended : ℕ
  pub tells : Tells xs opened ended
  pub balance : before + opened ≡ ended + after

claim_balances : (c : AcqConfig) (b : Board) (ds : List (List Item)) (s : State) (given : Option Given) (asked : Option ℕ) → IsSound c s → s.asked ≡ asked
    → Balances (open_notes b ds asked given) (length s.opens) (length (opens_block given asked (unasked s)).opens)
claim_balances c b ds s given None sound e = record { opened = 0; ended = 0; tells = none; balance = omega arith }
claim_balances c b ds s given (Some block) sound e =
    let o : Open = opened block given s.now in
    let p : IsPut o s.opens (put o s.opens) = put_new o s.opens (sound.claim block e).others in
    let was = ap length p.was in
    let now = ap length p.now ∙ length-put p.front o p.back in
    record {
      opened = 1;
      ended = 0;
      tells = both (drop_notes b (first_dropped ds)) _ 0 1 0 0 (of_drops b (first_dropped ds)) (record { opens = omega arith; ends = omega arith });
      balance = omega (arith, was, now);
    }

turn_balances : (c : AcqConfig) (b : Board) (ds : List (List Item)) (s : State) (i : Input) → 1 ≤ c.window → IsSound c s
    → Balances (turn_notes c b ds s i (step c s i)) (length s.opens) (length (step c s i).after.opens)
turn_balances c b ds s (datagram bytes) some sound =
    let t : Turn = step c s (datagram bytes) in
    record {
      opened = 0 + 0;
      ended = 0 + length t.retired;
      tells = both (need_notes (packet_of bytes) t.need) (retired_notes c b ds s.floor t.retired) 0 0 0 (length t.retired) (of_need (packet_of bytes) t.need) (of_retired c b ds s.floor t.retired);
      balance = omega (arith, kept_open c s (datagram bytes) some sound (λ claim. claim));
    }
turn_balances c b ds s (claimed given) some sound = claim_balances c b ds s given s.asked sound refl
turn_balances c b ds s (tick moment) some sound =
    let t : Turn = step c s (tick moment) in
    let told : State = record (unasked s) { now = max s.now moment } in
    record {
      opened = 0 + 0;
      ended = length t.retired + 0;
      tells = both (retired_notes c b ds s.floor t.retired) (round_notes c told.now (settled c told).opens) 0 0 (length t.retired) 0 (of_retired c b ds s.floor t.retired)
          (of_rounds c told.now (settled c told).opens);
      balance = omega (arith, kept_open c s (tick moment) some sound (λ claim. claim));
    }
turn_balances c b ds s stop some sound =
    let t : Turn = step c s stop in
    record {
      opened = 0;
      ended = length t.retired;
      tells = of_retired c b ds s.floor t.retired;
      balance = omega (arith, kept_open c s stop some sound (λ claim. claim));
    }
turn_balances c b ds s restart some sound =
    record { opened = 0; ended = 0; tells = none; balance = omega (arith, kept_open c s restart some sound (λ claim. claim)) }

pub run_balances : (c : AcqConfig) (b : Board) (ds : List (List Item)) (s : State) (q : List Input) → 1 ≤ c.window → IsSound c s
    → length s.opens + times_so is_opening (notes_from c b ds s q) ≡ times_so is_ending (notes_from c b ds s q) + length (after_from c s q).opens
run_balances c b ds s [] some sound = omega arith
run_balances c b ds s (i ∷ q) some sound =
    let mine : List Note = turn_notes c b ds s i (step c s i) in
    let rest : List Note = notes_from c b (after_turn ds s i (step c s i)) (step c s i).after q in
    let one = turn_balances c b ds s i some sound in
    let more = run_balances c b (after_turn ds s i (step c s i)) (step c s i).after q some (step_sound c s i some sound) in
    let opening = times-append is_opening mine rest in
    let ending = times-append is_ending mine rest in
    omega (arith, one.tells.opens, one.tells.ends, one.balance, more, opening, ending)

pub opened_are_accounted : OpenedAreAccounted
opened_are_accounted c b ds q some =
    let all = run_balances c b ds first_state q some (first_sound c) in omega (arith, all)
