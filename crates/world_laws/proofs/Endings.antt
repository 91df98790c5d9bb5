-- A soak run ends, and its commands act once.
use Rattle.std.proofs.Common.{◌≡◌, ◌⊎◌, inl, inr, ℕ, zero, suc, ◌+◌, ◌-◌, ◌<◌, ◌≤◌, Bool, true, false, List, [], ◌∷◌, ◌++◌, Option, Some, None, refl, ap, subst, arith}
use Rattle.std.specs.Prelude.{◌≢◌, ◌==◌, ◌||◌, not, nat_lt, if◌then◌else◌, map}
use Rattle.std.specs.List.{AllByRecursion}
use Rattle.std.proofs.lemmas.Bool.{cases_eq, eq-eqb, ne_eqb, ltb-true}
use Rattle.world_machine.specs.State.{Run, World, new_world}
use Rattle.world_machine.specs.ClientTurn.{End, SETUP_SIZE}
use Rattle.world_machine.specs.CameraTurn.{is_due}
use Rattle.world_machine.specs.Rounds.{round, world_after}
use Rattle.world_machine.specs.Soak.{Runs, last_round, round_more}
use Rattle.gvcp_wire.specs.Reading.{command_reading}
use Rattle.world_machine.specs.Schedule.{IsNoAccess}
use Rattle.acquisition_machine.specs.Machine.{Request, request_bytes, tick, step}
use Rattle.world_laws.specs.Receiver.{Receiver, soak_config, soak_host, start}
use Rattle.world_machine.specs.Laws.{AsksNoAccess}
use Rattle.world_laws.specs.Setup.{setup_left, GoesOn}
use Rattle.world_laws.specs.Tail.{tail_left, MOST_TAIL}
use Rattle.world_laws.specs.Ending.{is_sent_out, run_left, most_rounds, RunGoes, RunStep, RunEnds, HasText, SoakActsOnce}
use Rattle.world_laws.proofs.SetupRounds.{setup_step, setup_begins}
use Rattle.world_laws.proofs.BeatsRounds.{commands_are_few}
use Rattle.world_laws.proofs.TailBytes.{request_is_no_access}
use Rattle.world_laws.proofs.TailWorld.{FramesGoOn}
use Rattle.world_laws.proofs.TailFalls.{host_goes_on, host_begins, frames_go_on, IsSentOut, not_due, tail_falls, tail_most}

-- ---- how many rounds are left

or_true : (b : Bool) → (b || true) ≡ true
or_true true = refl
or_true false = refl

-- the last phase's part
abbrev tail_part : Bool → ℕ → ℕ
tail_part out tail = if out then tail else MOST_TAIL

tail_small : (out : Bool) (tail : ℕ) → tail ≤ MOST_TAIL → tail_part out tail ≤ MOST_TAIL
tail_small true tail h = h
tail_small false tail h = omega arith

abbrev frames_at : ℕ → ℕ → Bool → ℕ
frames_at frames made over = if over then 0 else frames - made

-- where a frame is due fewer are left after it
due_falls : (frames made made_after : ℕ) (over over_after : Bool) → over ≡ false → made < frames → FramesGoOn true made over made_after over_after
    → frames_at frames made_after over_after < frames_at frames made over
due_falls frames made made_after over over_after n h (inl same) = rw (same.0, same.1, n) (omega arith)
due_falls frames made made_after over over_after n h (inr ended) = rw (ended.1, n) (omega arith)

frames_stay : (frames made made_after : ℕ) (over over_after : Bool) → FramesGoOn false made over made_after over_after
    → frames_at frames made_after over_after ≡ frames_at frames made over
frames_stay frames made made_after over over_after same = rw (same.0, same.1) refl

-- What a round from w to v does to each part of what is left.
record Parts (run : Run) (w v : World Receiver) : Type 0 where
  setup : w.done ≢ SETUP_SIZE → setup_left v < setup_left w
  set : w.done ≡ SETUP_SIZE → (setup_left v ≡ 0) × (v.done ≡ SETUP_SIZE)
  frames : FramesGoOn (is_due run w) w.made w.is_over v.made v.is_over
  tail : w.done ≡ SETUP_SIZE → IsSentOut run w → tail_left v < tail_left w
  most : tail_left v ≤ MOST_TAIL

module _ (run : Run) (w v : World Receiver) (p : Parts run w v) where
  abbrev IsLater : Bool → Type 0
  IsLater due = FramesGoOn due w.made w.is_over v.made v.is_over

  -- while the setup isn't done
  falls_first : w.done ≢ SETUP_SIZE → run_left run v < run_left run w
  falls_first n =
      let apart : (w.done == SETUP_SIZE) ≡ false = ne_eqb w.done SETUP_SIZE n in
      let none_is_due : is_due run w ≡ false = rw apart refl in
      let none_is_out : is_sent_out run w ≡ false = rw apart refl in
      let still = frames_stay run.frames w.made v.made w.is_over v.is_over (subst IsLater none_is_due p.frames) in
      let less = p.setup n in
      omega (arith, tail_small (is_sent_out run v) (tail_left v) p.most, ap (λ (out : Bool). tail_part out (tail_left w)) none_is_out)

  -- while frames are left
  falls_then : w.done ≡ SETUP_SIZE → w.is_over ≡ false → nat_lt w.made run.frames ≡ true → run_left run v < run_left run w
  falls_then d n more =
      let same : (w.done == SETUP_SIZE) ≡ true = eq-eqb w.done SETUP_SIZE d in
      let one_is_due : is_due run w ≡ true = rw (same, n, more) refl in
      let none_is_out : is_sent_out run w ≡ false = rw (same, n, more) refl in
      let less = due_falls run.frames w.made v.made w.is_over v.is_over n (ltb-true w.made run.frames more) (subst IsLater one_is_due p.frames) in
      omega (arith, (p.set d).0, tail_small (is_sent_out run v) (tail_left v) p.most, ap (λ (out : Bool). tail_part out (tail_left w)) none_is_out)

  -- in the last phase
  falls_last : w.done ≡ SETUP_SIZE → IsSentOut run w → run_left run v < run_left run w
  falls_last d sent =
      let same = subst IsLater (not_due run w sent) p.frames in
      let still = frames_stay run.frames w.made v.made w.is_over v.is_over same in
      let out : is_sent_out run w ≡ true = rw (eq-eqb w.done SETUP_SIZE d, sent) refl in
      let out_after : is_sent_out run v ≡ true = rw (eq-eqb v.done SETUP_SIZE (p.set d).1, same.0, same.1, sent) refl in
      let less = p.tail d sent in
      omega (arith, (p.set d).0, ap (λ (b : Bool). tail_part b (tail_left w)) out, ap (λ (b : Bool). tail_part b (tail_left v)) out_after)

  falls : run_left run v < run_left run w
  falls = first (cases_eq w.done SETUP_SIZE)
    where
      then_last : w.done ≡ SETUP_SIZE → (over left : Bool) → w.is_over ≡ over → nat_lt w.made run.frames ≡ left → run_left run v < run_left run w
      then_last d false true o l = falls_then d o l
      then_last d true left o l = falls_last d (rw o (or_true (not (nat_lt w.made run.frames))))
      then_last d false false o l = falls_last d (rw (o, l) refl)

      first : (w.done ≡ SETUP_SIZE) ⊎ (w.done ≢ SETUP_SIZE) → run_left run v < run_left run w
      first (inl d) = then_last d w.is_over (nat_lt w.made run.frames) refl refl
      first (inr n) = falls_first n

pub run_step : (run : Run) (w : World Receiver) → RunGoes w → (round run soak_host w).end ≡ None → RunStep run w
run_step run w g e =
    let setup = setup_step run soak_host w g.setup e in
    let host = host_goes_on run w g.host e in
    record {
      goes = record { setup = setup.goes; host = host };
      falls = falls run w (round run soak_host w).world (record {
        setup = setup.falls;
        set = λ d. (setup.none_left d, setup.stays d);
        frames = frames_go_on run w g.host e;
        tail = λ d sent. tail_falls run w g.host sent e (setup.stays d);
        most = tail_most (round run soak_host w).world host;
      });
    }

-- ---- a run from the start

run_begins : (run : Run) → RunGoes (new_world run start)
run_begins run = record { setup = setup_begins run start; host = host_begins run }

few_at_first : (run : Run) → run_left run (new_world run start) ≤ most_rounds run
few_at_first run = omega (arith, tail_small (is_sent_out run (new_world run start)) (tail_left (new_world run start)) (tail_most (new_world run start) (host_begins run)))

-- What holds after n rounds that went on.
pub record IsRunning (run : Run) (w : World Receiver) (n : ℕ) : Type 0 where
  pub goes : RunGoes w
  pub few : run_left run w + n ≤ most_rounds run

running_more : (run : Run) (w : World Receiver) (n : ℕ) → IsRunning run w n → (round run soak_host w).end ≡ None → IsRunning run (round run soak_host w).world (suc n)
running_more run w n r e =
    let s = run_step run w r.goes e in
    record { goes = s.goes; few = let fewer = s.falls in let few = r.few in omega arith }

pub running : (run : Run) (n : ℕ) → GoesOn run soak_host start n → IsRunning run (world_after run soak_host start n) n
running run zero h = record { goes = run_begins run; few = omega (arith, few_at_first run) }
running run (suc n) h = running_more run (world_after run soak_host start n) n (running run n (λ m below. h m (omega arith))) (h n (omega arith))

pub run_ends : (run : Run) → RunEnds run
run_ends run = record {
  begins = run_begins run;
  few = few_at_first run;
  steps = run_step run;
  rounds = λ n h. let few = (running run n h).few in omega arith;
}

text_from : (run : Run) (fuel : ℕ) (w : World Receiver) → RunGoes w → run_left run w < fuel → (text : List ℕ) × (e : End) × Runs run soak_host w text e
text_from run zero w g h = absurd (omega arith)
text_from run (suc fuel) w g h = go (round run soak_host w).end refl (λ e. let s = run_step run w g e in text_from run fuel (round run soak_host w).world s.goes (let fewer = s.falls in omega arith))
  where
    go : (o : Option End) → (round run soak_host w).end ≡ o
        → ((round run soak_host w).end ≡ None → (text : List ℕ) × (e : End) × Runs run soak_host (round run soak_host w).world text e) → (text : List ℕ) × (e : End) × Runs run soak_host w text e
    go (Some e) is more = ((round run soak_host w).text, e, last_round w (round run soak_host w).text e is refl)
    go None is more =
        let rest = more is in
        ((round run soak_host w).text ++ rest.0, rest.1, round_more w ((round run soak_host w).text ++ rest.0) rest.0 rest.1 is rest.2 refl)

pub has_text : (run : Run) → HasText run
has_text run = text_from run (suc (run_left run (new_world run start))) (new_world run start) (run_begins run) (omega arith)

-- ---- its commands

asks_none : (rs : List Request) → AllByRecursion (λ bytes. IsNoAccess (command_reading bytes)) (map request_bytes rs)
asks_none [] = tt
asks_none (r ∷ rs) = (request_is_no_access r, asks_none rs)

pub soak_acts_once : (run : Run) → SoakActsOnce run
soak_acts_once run = record {
  packets = packets;
  once = λ few n h.
      let short = (run_ends run).rounds (n - 1) h in
      (commands_are_few run soak_host start n packets h).once (omega arith);
}
  where
    packets : AsksNoAccess soak_host
    packets r moment = asks_none (step soak_config r.acquisition (tick moment)).requests
