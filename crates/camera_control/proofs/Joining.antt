-- Steps behind other steps.
use Rattle.std.proofs.Common.{◌≡◌, ℕ, Bool, true, false, IsSome, inl, zero, suc, ◌+◌, ◌<◌, ◌≤◌, List, [], ◌∷◌, ◌++◌, length, take, drop, map, Option, Some, None, Result, Ok, Err, refl, ap, sym, ◌∙◌, subst, append_assoc, length-append, arith}
use Rattle.std.proofs.lemmas.Bool.{le-leb, lt-leb}
use Rattle.std.proofs.lemmas.List.{append-nil}
use Rattle.std.specs.Prelude.{slice_get, get_or, nat_le}
use Rattle.std.proofs.lemmas.Option.{slice_get-get_or}
use Rattle.client_machine.specs.Machine.{Asked}
use Rattle.control_client.specs.Values.{value_of}
use Rattle.gev_links.specs.Links.{Address}
use Rattle.gev_control.specs.declared.acq_end.AcqEnd.{AcqEnd}
use Rattle.gev_control.specs.declared.acq_end.AcqEnd.TheVariants as how
use Rattle.gev_control.specs.CarriesOut.{ControlSide}
use Rattle.camera_control.specs.declared.step.Step.{Step}
use Rattle.camera_control.specs.declared.step.Step.TheVariants as step
use Rattle.camera_control.specs.declared.control_end.ControlEnd.{ControlEnd}
use Rattle.camera_control.specs.declared.register_write.RegisterWrite.{RegisterWrite}
use Rattle.camera_control.specs.Steps.{refusal_in, readings_of, await_steps, leave_steps}
use Rattle.camera_control.specs.Taking.{MakesStep, Made, made_so, Passes, begins, goes_on, steps_in, readings_in, earlier, refusal_among, Goes, Halts, Runs, RunsAndReads, end_by, Leaves}

-- ---- lists of steps that were made

pub steps-append : (xs ys : List Made) → steps_in (xs ++ ys) ≡ steps_in xs ++ steps_in ys
steps-append [] ys = refl
steps-append (x ∷ xs) ys = ap (λ (l : List Step). x.step ∷ l) (steps-append xs ys)

readings-append : (xs ys : List Made) → readings_in (xs ++ ys) ≡ readings_in xs ++ readings_in ys
readings-append [] ys = refl
readings-append (x ∷ xs) ys =
    ap (λ (l : List (Option ℕ)). readings_of x.step x.end x.told ++ l) (readings-append xs ys)
    ∙ sym (append_assoc (readings_of x.step x.end x.told) (readings_in xs) (readings_in ys))

earlier-assoc : (p q r : Option ControlEnd) → earlier p (earlier q r) ≡ earlier (earlier p q) r
earlier-assoc None q r = refl
earlier-assoc (Some e) q r = refl

earlier-none : (p : Option ControlEnd) → earlier p None ≡ p
earlier-none None = refl
earlier-none (Some e) = refl

refusal-append : (xs ys : List Made) → refusal_among (xs ++ ys) ≡ earlier (refusal_among xs) (refusal_among ys)
refusal-append [] ys = refl
refusal-append (x ∷ xs) ys =
    ap (earlier (refusal_in x.step x.end)) (refusal-append xs ys) ∙ earlier-assoc (refusal_in x.step x.end) (refusal_among xs) (refusal_among ys)

steps-length : (xs : List Made) → length (steps_in xs) ≡ length xs
steps-length [] = refl
steps-length (x ∷ xs) = ap suc (steps-length xs)

-- ---- behind others

pub passes_then : (camera : Address) (o m : ControlSide) (xs : List Made) (ys : List Made) (n : ControlSide) → Passes camera o xs m → Passes camera m ys n
    → Passes camera o (xs ++ ys) n
passes_then camera o m xs _ _ first begins = subst (λ (l : List Made). Passes camera o l m) (sym (append-nil xs)) first
passes_then camera o m xs _ _ first (goes_on ys k n s end passes makes is) =
    subst (λ (l : List Made). Passes camera o l n) (append_assoc xs ys (made_so s end n ∷ []))
    (goes_on (xs ++ ys) k n s end (passes_then camera o m xs ys k first passes) makes is)

pub goes_then : (camera : Address) (xs ys : List Step) (r s : List (Option ℕ)) (p q : Option ControlEnd) (o m n : ControlSide) → Goes camera xs r p o m
    → Goes camera ys s q m n → Goes camera (xs ++ ys) (r ++ s) (earlier p q) o n
goes_then camera xs ys r s p q o m n first second = record {
  log = first.log ++ second.log;
  passes = passes_then camera o m first.log second.log n first.passes second.passes;
  are = steps-append first.log second.log ∙ (ap (λ (l : List Step). l ++ steps_in second.log) first.are ∙ ap (λ (l : List Step). xs ++ l) second.are);
  read =
      readings-append first.log second.log
      ∙ (ap (λ (l : List (Option ℕ)). l ++ readings_in second.log) first.read ∙ ap (λ (l : List (Option ℕ)). r ++ l) second.read);
  first =
      refusal-append first.log second.log
      ∙ (ap (λ (x : Option ControlEnd). earlier x (refusal_among second.log)) first.first ∙ ap (λ (x : Option ControlEnd). earlier p x) second.first);
}

pub halts_later : (camera : Address) (xs ys : List Step) (r : List (Option ℕ)) (p : Option ControlEnd) (done : ℕ) (o m n : ControlSide) (cause : ControlEnd)
    → Goes camera xs r p o m → Halts camera ys done m n cause → Halts camera (xs ++ ys) (length xs + done) o n cause
halts_later camera xs ys r p done o m n cause first halts = record {
  log = first.log ++ halts.log;
  last = halts.last;
  rest = halts.rest;
  are =
      ap (λ (l : List Step). xs ++ l) halts.are
      ∙ (sym (append_assoc xs (steps_in halts.log) (halts.last ∷ halts.rest))
      ∙ ap (λ (l : List Step). l ++ halts.last ∷ halts.rest)
      (ap (λ (l : List Step). l ++ steps_in halts.log) (sym first.are) ∙ sym (steps-append first.log halts.log)));
  count =
      length-append first.log halts.log
      ∙ (ap (λ (k : ℕ). k + length halts.log) (sym (steps-length first.log) ∙ ap (λ (l : List Step). length l) first.are)
      ∙ ap (λ (k : ℕ). length xs + k) halts.count);
  m = halts.m;
  passes = passes_then camera o m first.log halts.log halts.m first.passes halts.passes;
  end = halts.end;
  makes = halts.makes;
  ended = halts.ended;
}

pub halts_sooner : (camera : Address) (xs ys : List Step) (done : ℕ) (o n : ControlSide) (cause : ControlEnd) → Halts camera xs done o n cause
    → Halts camera (xs ++ ys) done o n cause
halts_sooner camera xs ys done o n cause halts = record {
  log = halts.log;
  last = halts.last;
  rest = halts.rest ++ ys;
  are = ap (λ (l : List Step). l ++ ys) halts.are ∙ append_assoc (steps_in halts.log) (halts.last ∷ halts.rest) ys;
  count = halts.count;
  m = halts.m;
  passes = halts.passes;
  end = halts.end;
  makes = halts.makes;
  ended = halts.ended;
}

-- fewer were made than there are
pub halts_within : (camera : Address) (xs : List Step) (done : ℕ) (o n : ControlSide) (cause : ControlEnd) → Halts camera xs done o n cause → done < length xs
halts_within camera xs done o n cause halts =
    let whole : length xs ≡ length (steps_in halts.log) + length (halts.last ∷ halts.rest) =
    ap (λ (l : List Step). length l) halts.are ∙ length-append (steps_in halts.log) (halts.last ∷ halts.rest) in
    omega (arith, whole, steps-length halts.log, halts.count)

-- ---- one step

pub none_goes : (camera : Address) (o : ControlSide) → Goes camera [] [] None o o
none_goes camera o = record { log = []; passes = begins; are = refl; read = refl; first = refl }

pub one_goes : (camera : Address) (s : Step) (o n : ControlSide) (end : AcqEnd) → MakesStep camera s o n (Ok end)
    → Goes camera (s ∷ []) (readings_of s end (value_of n.client.body)) (refusal_in s end) o n
one_goes camera s o n end makes = record {
  log = made_so s end n ∷ [];
  passes = goes_on [] o n s end begins makes.0 makes.1;
  are = refl;
  read = append-nil (readings_of s end (value_of n.client.body));
  first = earlier-none (refusal_in s end);
}

pub one_halts : (camera : Address) (s : Step) (o n : ControlSide) (cause : ControlEnd) → MakesStep camera s o n (Err cause) → Halts camera (s ∷ []) 0 o n cause
one_halts camera s o n cause makes = record {
  log = [];
  last = s;
  rest = [];
  are = refl;
  count = refl;
  m = o;
  passes = begins;
  end = makes.0;
  makes = makes.1.0;
  ended = makes.1.1;
}

write_refusal : (register value : ℕ) (end : AcqEnd) → refusal_in (step.Write register value) end ≡ None
write_refusal register value how.Stopped = refl
write_refusal register value how.Spent = refl
write_refusal register value how.Fault = refl
write_refusal register value (how.NoAnswer req) = refl
write_refusal register value (how.Refused status) = refl

read_refusal : (register : ℕ) (end : AcqEnd) → refusal_in (step.Read register) end ≡ None
read_refusal register how.Stopped = refl
read_refusal register how.Spent = refl
read_refusal register how.Fault = refl
read_refusal register (how.NoAnswer req) = refl
read_refusal register (how.Refused status) = refl

ask_refusal : (end : AcqEnd) → refusal_in step.Ask end ≡ None
ask_refusal how.Stopped = refl
ask_refusal how.Spent = refl
ask_refusal how.Fault = refl
ask_refusal (how.NoAnswer req) = refl
ask_refusal (how.Refused status) = refl

pub ask_goes : (camera : Address) (o n : ControlSide) (end : AcqEnd) → MakesStep camera step.Ask o n (Ok end) → Goes camera (step.Ask ∷ []) [] None o n
ask_goes camera o n end makes = subst (λ (p : Option ControlEnd). Goes camera (step.Ask ∷ []) [] p o n) (ask_refusal end) (one_goes camera step.Ask o n end makes)

pub write_goes : (camera : Address) (register value : ℕ) (o n : ControlSide) (end : AcqEnd) → MakesStep camera (step.Write register value) o n (Ok end)
    → Goes camera (step.Write register value ∷ []) [] None o n
write_goes camera register value o n end makes =
    subst (λ (p : Option ControlEnd). Goes camera (step.Write register value ∷ []) [] p o n) (write_refusal register value end)
    (one_goes camera (step.Write register value) o n end makes)

pub read_goes : (camera : Address) (register : ℕ) (o n : ControlSide) (end : AcqEnd) → (makes : MakesStep camera (step.Read register) o n (Ok end))
    → Goes camera (step.Read register ∷ []) (readings_of (step.Read register) end (value_of n.client.body)) None o n
read_goes camera register o n end makes =
    subst (λ (p : Option ControlEnd). Goes camera (step.Read register ∷ []) (readings_of (step.Read register) end (value_of n.client.body)) p o n)
    (read_refusal register end) (one_goes camera (step.Read register) o n end makes)

-- ---- how calls end behind others

pub runs_then : (camera : Address) (xs ys : List Step) (o m n : ControlSide) (r : Result (Unit {0}) ControlEnd) → Goes camera xs [] None o m → Runs camera ys m n r
    → Runs camera (xs ++ ys) o n r
runs_then camera xs ys o m n (Ok done) first runs = goes_then camera xs ys [] [] None None o m n first runs
runs_then camera xs ys o m n (Err cause) first runs = (length xs + runs.0, halts_later camera xs ys [] None runs.0 o m n cause first runs.1)

pub reads_then : (camera : Address) (xs ys : List Step) (o m n : ControlSide) (r : Result (Option ℕ) ControlEnd) → Goes camera xs [] None o m
    → RunsAndReads camera ys m n r → RunsAndReads camera (xs ++ ys) o n r
reads_then camera xs ys o m n (Ok reading) first runs = goes_then camera xs ys [] (reading ∷ []) None None o m n first runs
reads_then camera xs ys o m n (Err cause) first runs = (length xs + runs.0, halts_later camera xs ys [] None runs.0 o m n cause first runs.1)

-- ---- loops

map_split : (f : RegisterWrite → Step) (xs : List RegisterWrite) (n : ℕ) (x : RegisterWrite) → slice_get xs n ≡ Some x
    → map f xs ≡ map f (take n xs) ++ f x ∷ map f (drop (suc n) xs)
map_split f [] n x e = let bad : ⊥ = cc in absurd bad
map_split f (y ∷ ys) zero x e = let same : y ≡ x = cc in ap (λ (z : RegisterWrite). f z ∷ map f ys) same
map_split f (y ∷ ys) (suc n) x e = ap (λ (l : List Step). f y ∷ l) (map_split f ys n x e)

take_more : (f : RegisterWrite → Step) (xs : List RegisterWrite) (n : ℕ) (x : RegisterWrite) → slice_get xs n ≡ Some x
    → map f (take n xs) ++ f x ∷ [] ≡ map f (take (suc n) xs)
take_more f [] n x e = let bad : ⊥ = cc in absurd bad
take_more f (y ∷ ys) zero x e = let same : y ≡ x = cc in ap (λ (z : RegisterWrite). f z ∷ []) (sym same)
take_more f (y ∷ ys) (suc n) x e = ap (λ (l : List Step). f y ∷ l) (take_more f ys n x e)

take_next : (f : RegisterWrite → Step) (xs : List RegisterWrite) (n : ℕ) (x : RegisterWrite) → slice_get xs n ≡ Some x
    → map f (take n xs) ++ f x ∷ [] ≡ map f (take (n + 1) xs)
take_next f xs n x e = take_more f xs n x e ∙ ap (λ (k : ℕ). map f (take k xs)) (over n)
  where
    over : (k : ℕ) → suc k ≡ k + 1
    over k = omega arith

-- one more was made
pub more_goes : (camera : Address) (f : RegisterWrite → Step) (xs : List RegisterWrite) (place : ℕ) (d : RegisterWrite) (p q : Option ControlEnd) (o m n : ControlSide)
    → place < length xs → Goes camera (map f (take place xs)) [] p o m → Goes camera (f (get_or xs place d) ∷ []) [] q m n
    → Goes camera (map f (take (place + 1) xs)) [] (earlier p q) o n
more_goes camera f xs place d p q o m n low so one =
    subst (λ (l : List Step). Goes camera l [] (earlier p q) o n) (take_next f xs place (get_or xs place d) (slice_get-get_or xs place d low))
    (goes_then camera (map f (take place xs)) (f (get_or xs place d) ∷ []) [] [] p q o m n so one)

-- one ended all
pub more_halts : (camera : Address) (f : RegisterWrite → Step) (xs : List RegisterWrite) (place : ℕ) (d : RegisterWrite) (p : Option ControlEnd) (o m n : ControlSide)
    (cause : ControlEnd) → place < length xs → Goes camera (map f (take place xs)) [] p o m
    → ((done : ℕ) × Halts camera (f (get_or xs place d) ∷ []) done m n cause) → (done : ℕ) × Halts camera (map f xs) done o n cause
more_halts camera f xs place d p o m n cause low so one =
    let x = get_or xs place d in
    let here = halts_sooner camera (f x ∷ []) (map f (drop (suc place) xs)) one.0 m n cause one.1 in (
      length (map f (take place xs)) + one.0,
      subst (λ (l : List Step). Halts camera l (length (map f (take place xs)) + one.0) o n cause)
          (sym (map_split f xs place x (slice_get-get_or xs place d low)))
          (halts_later camera (map f (take place xs)) (f x ∷ map f (drop (suc place) xs)) [] p one.0 o m n cause so here),
    )

take_whole : (f : RegisterWrite → Step) (xs : List RegisterWrite) (n : ℕ) → length xs ≤ n → map f (take n xs) ≡ map f xs
take_whole f [] n le = go n
  where
    go : (k : ℕ) → map f (take k []) ≡ []
    go zero = refl
    go (suc k) = refl
take_whole f (x ∷ xs) zero le = let bad : ⊥ = omega (arith, le) in absurd bad
take_whole f (x ∷ xs) (suc n) le = ap (λ (l : List Step). f x ∷ l) (take_whole f xs n (omega (arith, le)))

-- all were made
pub all_go : (camera : Address) (f : RegisterWrite → Step) (xs : List RegisterWrite) (place : ℕ) (p : Option ControlEnd) (o n : ControlSide) → length xs ≤ place
    → Goes camera (map f (take place xs)) [] p o n → Goes camera (map f xs) [] p o n
all_go camera f xs place p o n all so = subst (λ (l : List Step). Goes camera l [] p o n) (take_whole f xs place all) so

-- ---- the command that is outstanding

pub await_none : (camera : Address) (heartbeat : Bool) (asked : Option Asked) (o : ControlSide) → asked ≡ None → Goes camera (await_steps asked heartbeat) [] None o o
await_none camera heartbeat None o is = none_goes camera o
await_none camera heartbeat (Some a) o is = let bad : ⊥ = cc in absurd bad

pub await_goes : (camera : Address) (heartbeat : Bool) (asked : Option Asked) (p : Option ControlEnd) (o n : ControlSide) → IsSome asked
    → Goes camera (step.Await heartbeat ∷ []) [] p o n → Goes camera (await_steps asked heartbeat) [] p o n
await_goes camera heartbeat None p o n some goes = let bad : false ≡ true = some in absurd (cc)
await_goes camera heartbeat (Some a) p o n some goes = goes

pub await_halts : (camera : Address) (heartbeat : Bool) (asked : Option Asked) (o n : ControlSide) (cause : ControlEnd) → IsSome asked
    → Halts camera (step.Await heartbeat ∷ []) 0 o n cause → (done : ℕ) × Halts camera (await_steps asked heartbeat) done o n cause
await_halts camera heartbeat None o n cause some halts = let bad : false ≡ true = some in absurd (cc)
await_halts camera heartbeat (Some a) o n cause some halts = (0, halts)

pub let_go_ends : (camera : Address) (heartbeat : Bool) (stops : List RegisterWrite) (o n : ControlSide) (p : Option ControlEnd)
    → Goes camera (leave_steps o.client.asked heartbeat stops) [] p o n → Leaves camera heartbeat stops o n (end_by p)
let_go_ends camera heartbeat stops o n None goes = goes
let_go_ends camera heartbeat stops o n (Some cause) goes = inl goes

-- ---- whether the camera is held

pub held_two : (done : ℕ) → true ≡ nat_le 2 (2 + done)
held_two done = sym (le-leb 2 (2 + done) (omega arith))

pub not_held : (done : ℕ) → done < 2 → false ≡ nat_le 2 done
not_held done few = sym (lt-leb 2 done few)
