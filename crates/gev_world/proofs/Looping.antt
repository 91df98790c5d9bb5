-- The loop over the rounds of a run.
use Rattle.std.proofs.Common.{◌≡◌, ◌<◌, ◌+◌, ◌-◌, ◌*◌, ◌^◌, ℕ, suc, List, [], ◌++◌, Option, Some, None, Result, Ok, Err, refl, sym, ap, subst, ◌∙◌, arith, inl, inr}
use Rattle.std.proofs.lemmas.Bool.{cases_order}
use Rattle.gev_make.specs.declared.stop.Stop.{Stop}
use Rattle.gev_make.specs.declared.stop.Stop.TheVariants as stops
use Rattle.gev_make.specs.Writing.{Writes}
use Rattle.gev_make.proofs.Texts.{Leads, leads_start, leads_on, leads_stops, writes_none}
use Rattle.world_laws.specs.Receiver.{Receiver, soak_config, soak_host, start}
use Rattle.soak_receiver.specs.Standing.{Hosting}
use Rattle.world_laws.specs.Setup.{GoesOn}
use Rattle.world_laws.specs.Ending.{most_rounds}
use Rattle.world_laws.proofs.BeatsRounds.{beating}
use Rattle.world_laws.proofs.Endings.{run_ends, has_text, soak_acts_once}
use Rattle.world_machine.specs.State.{Run, World}
use Rattle.world_machine.specs.ClientTurn.{End}
use Rattle.std.specs.Prelude.{◌⊎◌, OnOk}
use Rattle.gev_script.specs.Lines.{ScriptLine}
use Rattle.script_trace.specs.Adding as adding
use Rattle.script_trace.specs.Opening.{opening}
use Rattle.world_machine.specs.Rounds.{Round, round, world_after}
use Rattle.world_machine.specs.Soak.{Soak, Runs, last_round, round_more}
use Rattle.world_machine.specs.HostActs.{HostAct, host_acts_after, with_host_round}
use Rattle.world_machine.specs.Laws.{EndsAfter}
use Rattle.world_machine.proofs.Texts.{ends_in_a_round}
use Rattle.world_laws.specs.SoakApplication.{soak_application}
use Rattle.world_laws.proofs.Runs.{run_is_world, soak_applies}
use Rattle.gev_world.specs.declared.run_end.RunEnd.{RunEnd}
use Rattle.gev_world.specs.declared.run_end.RunEnd.TheVariants as run_ends_as
use Rattle.gev_world.specs.declared.stage.Stage.{Stage}
use Rattle.gev_world.specs.declared.world.World.{World as Code}
use Rattle.gev_world.specs.declared.soak_end.SoakEnd.TheVariants as ends
use Rattle.gev_world.specs.Seen.{run_of, IsBetween}
use Rattle.gev_world.specs.Ends.{meant}
use Rattle.gev_world.specs.Hosts.{Stands}
use Rattle.gev_world.specs.Rounds.{EndsRound}
use Rattle.gev_world.specs.Runs.{IsNew, IsEndOf, answer_of, stopped_by, written_as, HasTrace, RunsSoak}
use Rattle.gev_world.proofs.Holding.{soak_holds}

-- ---- between two rounds

-- So many rounds went on. What is left of a text of the run is written by the rest of it.
pub record Going (run : Run) (w v : Option (List ℕ)) (f g : ℕ) (x : Code) : Type 0 where
  pub rounds : ℕ
  pub goes : GoesOn run soak_host start rounds
  pub stands : Stands x.stage x.host (host_acts_after run soak_host start rounds) (world_after run soak_host start rounds)
  pub between : IsBetween x.stage
  pub empty : x.tools.arriving ≡ []
  pub run_is : run_of x.stage ≡ run
  pub few : run.frames < 2 ^ 32
  pub text : List ℕ
  pub end : End
  pub soak : Soak run soak_host start text end
  pub rest : List ℕ
  pub runs : Runs run soak_host (world_after run soak_host start rounds) rest end
  pub leads : Leads w v f g text rest

pub going_first : (x : Code) (w : Option (List ℕ)) (f : ℕ) → IsNew x → Going (run_of x.stage) w w f f x
going_first x w f new = record {
  rounds = 0;
  goes = λ m below. absurd (omega (arith, below));
  stands = new.stands;
  between = new.between;
  empty = new.empty;
  run_is = refl;
  few = new.few;
  text = t.0;
  end = t.1;
  soak = t.2;
  rest = t.0;
  runs = t.2;
  leads = leads_start w f t.0;
}
  where
    t : (text : List ℕ) × (e : End) × Soak (run_of x.stage) soak_host start text e
    t = has_text (run_of x.stage)

-- ---- the time

moment_is : (run : Run) (w v : Option (List ℕ)) (f g : ℕ) (x : Code) (k : Going run w v f g x) → x.stage.moment ≡ 10 * k.rounds
moment_is run w v f g x k =
    sym (ap (λ (u : World Receiver). u.moment) k.stands.is) ∙ (beating run soak_host start k.rounds (soak_acts_once run).packets k.goes).moment_is

pub has_time : (run : Run) (w v : Option (List ℕ)) (f g : ℕ) (x : Code) (k : Going run w v f g x) → x.stage.moment + 10 < 2 ^ 64
has_time run w v f g x k = omega (arith, moment_is run w v f g x k, (run_ends run).rounds k.rounds k.goes, k.few)

fewer_left : (run : Run) (w v u : Option (List ℕ)) (f g h : ℕ) (x y : Code) → (k : Going run w v f g x) (l : Going run w u f h y) → l.rounds ≡ suc k.rounds
    → 10 * suc (most_rounds run) - y.stage.moment < 10 * suc (most_rounds run) - x.stage.moment
fewer_left run w v u f g h x y k l later =
    omega (arith, moment_is run w v f g x k, moment_is run w u f h y l, (run_ends run).rounds l.rounds l.goes, later)

-- ---- a round

-- the rest of a run's text, where the round goes on
record Onward (run : Run) (w : World Receiver) (text : List ℕ) (e : End) : Type 0 where
  more : List ℕ
  is : text ≡ (round run soak_host w).text ++ more
  runs : Runs run soak_host (round run soak_host w).world more e

some_isnt_none : {B : Type 0} (x : B) → Some x ≡ None → ⊥
some_isnt_none x h = cc

no_some : {B : Type 0} (o : Option B) (x : B) → o ≡ Some x → o ≡ None → {C : Type 0} → C
no_some o x a b = absurd (some_isnt_none x (sym a ∙ b))

goes_onward : (run : Run) (w : World Receiver) (text : List ℕ) (e : End) → Runs run soak_host w text e → (round run soak_host w).end ≡ None → Onward run w text e
goes_onward run _ _ _ (last_round w text e ends is) none = no_some _ e ends none
goes_onward run _ _ _ (round_more w text more e goes runs is) none = record { more = more; is = is; runs = runs }

-- and where the run ends with it
some_is : {B : Type 0} (x y : B) → Some x ≡ Some y → x ≡ y
some_is x y h = cc

record Ends (run : Run) (w : World Receiver) (text : List ℕ) (e x : End) : Type 0 where
  is : text ≡ (round run soak_host w).text
  same : x ≡ e

ends_here : (run : Run) (w : World Receiver) (text : List ℕ) (e x : End) → Runs run soak_host w text e → (round run soak_host w).end ≡ Some x → Ends run w text e x
ends_here run _ _ _ x (last_round w text e ends is) some = record { is = is; same = some_is x e (sym some ∙ ends) }
ends_here run _ _ _ x (round_more w text more e goes runs is) some = no_some _ x some goes

-- what a round did
abbrev pub Did : Result (Option RunEnd) Stop → Code → Code → Option (List ℕ) → Option (List ℕ) → ℕ → ℕ → Type 0
Did r x y v u g h =
    (acts : List HostAct) (at : World Receiver) → Stands x.stage x.host acts at
    → EndsRound r (round (run_of x.stage) soak_host at) (with_host_round (run_of x.stage) soak_host at acts) y.stage y.host v u g h

-- on the run's own words
round_was : (run : Run) (w v u : Option (List ℕ)) (f g h : ℕ) (x : Code) (r : Result (Option RunEnd) Stop) (y : Code) → (k : Going run w v f g x)
    → Did r x y v u g h
    → EndsRound r (round run soak_host (world_after run soak_host start k.rounds)) (host_acts_after run soak_host start (suc k.rounds)) y.stage y.host v u g h
round_was run w v u f g h x r y k did =
    subst
    (λ (o : Run). EndsRound r (round o soak_host (world_after run soak_host start k.rounds))
    (with_host_round o soak_host (world_after run soak_host start k.rounds) (host_acts_after run soak_host start k.rounds)) y.stage y.host v u g h)
    k.run_is (did (host_acts_after run soak_host start k.rounds) (world_after run soak_host start k.rounds) k.stands)

goes_more : (run : Run) (n : ℕ) → GoesOn run soak_host start n → (round run soak_host (world_after run soak_host start n)).end ≡ None → GoesOn run soak_host start (suc n)
goes_more run n goes none m below = go (cases_order m n)
  where
    go : ((m ≡ n) ⊎ ((m < n) ⊎ (n < m))) → (round run soak_host (world_after run soak_host start m)).end ≡ None
    go (inl same) = subst (λ (i : ℕ). (round run soak_host (world_after run soak_host start i)).end ≡ None) (sym same) none
    go (inr (inl less)) = goes m less
    go (inr (inr more)) = absurd (omega (arith, below, more))

-- it went on
pub going_on : (run : Run) (w v u : Option (List ℕ)) (f g h : ℕ) (x y : Code) → (k : Going run w v f g x)
    → (o : Option RunEnd) → o ≡ None → Did (Ok o) x y v u g h
    → run_of y.stage ≡ run_of x.stage → IsBetween y.stage → y.tools.arriving ≡ [] → Going run w u f h y
going_on run w v u f g h x y k o is did same between empty = record {
  rounds = suc k.rounds;
  goes = goes_more run k.rounds k.goes none;
  stands = was.passed.stands;
  between = between;
  empty = empty;
  run_is = same ∙ k.run_is;
  few = k.few;
  text = k.text;
  end = k.end;
  soak = k.soak;
  rest = onward.more;
  runs = onward.runs;
  leads = leads_on w v u f g h k.text k.rest (round run soak_host (world_after run soak_host start k.rounds)).text onward.more k.leads onward.is was.wrote;
}
  where
    was : EndsRound (Ok None) (round run soak_host (world_after run soak_host start k.rounds)) (host_acts_after run soak_host start (suc k.rounds)) y.stage y.host v u g h
    was = round_was run w v u f g h x (Ok None) y k (subst (λ (p : Option RunEnd). Did (Ok p) x y v u g h) is did)

    none : (round run soak_host (world_after run soak_host start k.rounds)).end ≡ None
    none = sym was.passed.ends

    onward : Onward run (world_after run soak_host start k.rounds) k.rest k.end
    onward = goes_onward run (world_after run soak_host start k.rounds) k.rest k.end k.runs none

-- and fewer are left
pub left_falls : (run : Run) (w v u : Option (List ℕ)) (f g h : ℕ) (x y : Code) → (k : Going run w v f g x)
    → (o : Option RunEnd) → o ≡ None → Did (Ok o) x y v u g h
    → run_of y.stage ≡ run_of x.stage → IsBetween y.stage → y.tools.arriving ≡ []
    → 10 * suc (most_rounds run) - y.stage.moment < 10 * suc (most_rounds run) - x.stage.moment
unfolding going_on
left_falls run w v u f g h x y k o is did same between empty =
    fewer_left run w v u f g h x y k (going_on run w v u f g h x y k o is did same between empty) refl

-- ---- the end

is_end : (end : RunEnd) (e : End) → meant end ≡ e → IsEndOf (answer_of end) e
is_end run_ends_as.Done e same = sym same
is_end (run_ends_as.NoAnswer req) e same = sym same
is_end (run_ends_as.Refused status) e same = sym same

wrote_all : (end : RunEnd) (w v : Option (List ℕ)) (f g : ℕ) (text : List ℕ) → Writes (Ok tt) w v f g text → Writes (written_as (answer_of end)) w v f g text
wrote_all run_ends_as.Done w v f g text wrote = wrote
wrote_all (run_ends_as.NoAnswer req) w v f g text wrote = wrote
wrote_all (run_ends_as.Refused status) w v f g text wrote = wrote

traced_all : (end : RunEnd) (run : Run) (last : ℕ) → HasTrace run last → OnOk (written_as (answer_of end)) (HasTrace run last)
traced_all run_ends_as.Done run last t = t
traced_all (run_ends_as.NoAnswer req) run last t = t
traced_all (run_ends_as.Refused status) run last t = t

wrote_front : (stop : Stop) (w v : Option (List ℕ)) (f g : ℕ) (text : List ℕ) → Writes (Err stop) w v f g text → Writes (written_as (stopped_by stop)) w v f g text
wrote_front stops.WriteFault w v f g text wrote = wrote
wrote_front stops.NoMemory w v f g text wrote = wrote

stopped_is : (stop : Stop) (e : End) → IsEndOf (stopped_by stop) e
stopped_is stops.WriteFault e = tt
stopped_is stops.NoMemory e = tt

untraced : (stop : Stop) (run : Run) (last : ℕ) → OnOk (written_as (stopped_by stop)) (HasTrace run last)
untraced stops.WriteFault run last = tt
untraced stops.NoMemory run last = tt

-- A run has one round that ends it.
same_round : (run : Run) (n m : ℕ) (x y : End) → GoesOn run soak_host start n → GoesOn run soak_host start m
    → (round run soak_host (world_after run soak_host start n)).end ≡ Some x → (round run soak_host (world_after run soak_host start m)).end ≡ Some y → n ≡ m
same_round run n m x y goes_n goes_m ends_n ends_m = go (cases_order n m)
  where
    go : ((n ≡ m) ⊎ ((n < m) ⊎ (m < n))) → n ≡ m
    go (inl same) = same
    go (inr (inl less)) = no_some _ x ends_n (goes_m n less)
    go (inr (inr less)) = no_some _ y ends_m (goes_n m less)

-- the receiver's history is one of the run's events
has_trace : (run : Run) (n : ℕ) (s : Stage) (h : Hosting) (w : World Receiver) → Stands s h (host_acts_after run soak_host start (suc n)) w → HasTrace run n
has_trace run n s h w stands = record {
  trace = stands.hosts.stands.trace;
  of_run = record {
    window = omega arith;
    leads = subst (λ (ls : List ScriptLine). adding.Leads soak_config opening ls stands.hosts.stands.trace)
        (sym (run_is_world run soak_host soak_application start (suc n) soak_applies).lines) stands.hosts.stands.leads;
  };
}

pub run_ended : (run : Run) (w v u : Option (List ℕ)) (f g h : ℕ) (x y : Code) (end : RunEnd) → (k : Going run w v f g x)
    → (o : Option RunEnd) → o ≡ Some end → Did (Ok o) x y v u g h → RunsSoak (answer_of end) run w u f h
run_ended run w v u f g h x y end k o is did = record {
  text = k.text;
  end = k.end;
  soak = k.soak;
  is_end = is_end end k.end here.same;
  wrote = wrote_all end w u f h k.text (k.leads.to (Ok tt) u h (subst (λ (t : List ℕ). Writes (Ok tt) v u g h t) (sym here.is) was.wrote));
  last = last.0;
  holds = soak_holds run k.text k.end last.0 (omega (arith, k.few)) last.1;
  traced = traced_all end run last.0 (subst (HasTrace run) (same_round run k.rounds last.0 (meant end) k.end k.goes last.1.goes_on (sym was.passed.ends) last.1.ends)
      (has_trace run k.rounds y.stage y.host at.world was.passed.stands));
}
  where
    at : Round Receiver
    at = round run soak_host (world_after run soak_host start k.rounds)

    was : EndsRound (Ok (Some end)) at (host_acts_after run soak_host start (suc k.rounds)) y.stage y.host v u g h
    was = round_was run w v u f g h x (Ok (Some end)) y k (subst (λ (p : Option RunEnd). Did (Ok p) x y v u g h) is did)

    here : Ends run (world_after run soak_host start k.rounds) k.rest k.end (meant end)
    here = ends_here run (world_after run soak_host start k.rounds) k.rest k.end (meant end) k.runs (sym was.passed.ends)

    last : (n : ℕ) × EndsAfter run soak_host start k.text k.end n
    last = ends_in_a_round run soak_host start k.text k.end k.soak

-- writing it stopped
stops_in : (stop : Stop) (run : Run) (w v u : Option (List ℕ)) (f g h : ℕ) (at : World Receiver) (text rest : List ℕ) (e : End) → Leads w v f g text rest
    → Runs run soak_host at rest e → Writes (Err stop) v u g h (round run soak_host at).text → Writes (Err stop) w u f h text
stops_in stop run w v u f g h _ text _ _ leads (last_round at rest e ends is) wrote =
    leads.to (Err stop) u h (subst (λ (t : List ℕ). Writes (Err stop) v u g h t) (sym is) wrote)
stops_in stop run w v u f g h _ text _ _ leads (round_more at rest more e goes runs is) wrote =
    leads_stops stop w v u f g h text rest (round run soak_host at).text more leads is wrote

pub run_stopped : (run : Run) (w v u : Option (List ℕ)) (f g h : ℕ) (x y : Code) (stop : Stop) → (k : Going run w v f g x)
    → Did (Err stop) x y v u g h → RunsSoak (stopped_by stop) run w u f h
run_stopped run w v u f g h x y stop k did = record {
  text = k.text;
  end = k.end;
  soak = k.soak;
  is_end = stopped_is stop k.end;
  wrote = wrote_front stop w u f h k.text
      (stops_in stop run w v u f g h (world_after run soak_host start k.rounds) k.text k.rest k.end k.leads k.runs
      (round_was run w v u f g h x (Err stop) y k did).wrote);
  last = last.0;
  holds = soak_holds run k.text k.end last.0 (omega (arith, k.few)) last.1;
  traced = untraced stop run last.0;
}
  where
    last : (n : ℕ) × EndsAfter run soak_host start k.text k.end n
    last = ends_in_a_round run soak_host start k.text k.end k.soak

-- nothing was run, for want of memory
pub unrun : (run : Run) (w : Option (List ℕ)) (f : ℕ) → run.frames < 2 ^ 32 → RunsSoak ends.NoMemory run w w f f
unrun run w f few = record {
  text = t.0;
  end = t.1;
  soak = t.2;
  is_end = tt;
  wrote = writes_none w f t.0;
  last = last.0;
  holds = soak_holds run t.0 t.1 last.0 (omega (arith, few)) last.1;
  traced = tt;
}
  where
    t : (text : List ℕ) × (e : End) × Soak run soak_host start text e
    t = has_text run

    last : (n : ℕ) × EndsAfter run soak_host start t.0 t.1 n
    last = ends_in_a_round run soak_host start t.0 t.1 t.2
