-- Whoever lets a camera go submits the commands of the stop, or a front of them for a cause.
use Rattle.std.proofs.Common.{◌≡◌, inl, inr, ℕ, Bool, true, false, cond, List, [], ◌∷◌, ◌++◌, map, Option, Some, None, Ok, Err, refl, sym, ap, subst, ◌∙◌, append_assoc}
use Rattle.std.specs.Prelude.{⊤}
use Rattle.bootstrap_regs.specs.Addresses.{CCP, SCP0}
use Rattle.client_machine.specs.Machine.{Asked}
use Rattle.client_machine.specs.Setup.{write_of}
use Rattle.gev_links.specs.Links.{Address}
use Rattle.gev_control.specs.declared.acq_end.AcqEnd.{AcqEnd}
use Rattle.gev_control.specs.declared.acq_end.AcqEnd.TheVariants as how
use Rattle.gev_control.specs.CarriesOut.{ControlSide}
use Rattle.camera_control.specs.declared.step.Step.{Step}
use Rattle.camera_control.specs.declared.step.Step.TheVariants as step
use Rattle.camera_control.specs.declared.register_write.RegisterWrite.{RegisterWrite}
use Rattle.camera_control.specs.declared.control_end.ControlEnd.{ControlEnd}
use Rattle.camera_control.specs.declared.control_end.ControlEnd.TheVariants as causes
use Rattle.camera_control.specs.Steps.{commands_in, is_held, cause_of, stop_step, await_steps, leave_steps}
use Rattle.camera_control.specs.Taking.{steps_in, Goes, Halts}
use Rattle.camera_control.specs.Laws.{commands_of}
use Rattle.camera_control.proofs.Fronts.{steps_in_order, front_in_order}
use Rattle.live_promises.specs.Stopping.{command_of, stop_commands, Cuts, StopsAll, StopsFront, LeavingMakesTheStop}

-- ---- what the steps of a stop submit

commands-append : (xs ys : List Step) → commands_of (xs ++ ys) ≡ commands_of xs ++ commands_of ys
commands-append [] ys = refl
commands-append (s ∷ xs) ys = ap (λ l. commands_in s ++ l) (commands-append xs ys) ∙ sym (append_assoc (commands_in s) (commands_of xs) (commands_of ys))

stops_submit : (stops : List RegisterWrite) → commands_of (map stop_step stops) ≡ map command_of stops
stops_submit [] = refl
stops_submit (x ∷ xs) = ap (λ l. write_of x.register x.value ∷ l) (stops_submit xs)

await_submits : (asked : Option Asked) (heartbeat : Bool) → commands_of (await_steps asked heartbeat) ≡ []
await_submits None heartbeat = refl
await_submits (Some asked) heartbeat = refl

leave_submits : (asked : Option Asked) (heartbeat : Bool) (stops : List RegisterWrite) → commands_of (leave_steps asked heartbeat stops) ≡ stop_commands stops
leave_submits asked heartbeat stops =
    commands-append (await_steps asked heartbeat) (map stop_step stops ++ step.Stop SCP0 0 ∷ step.Stop CCP 0 ∷ [])
    ∙ (ap (λ l. l ++ commands_of (map stop_step stops ++ step.Stop SCP0 0 ∷ step.Stop CCP 0 ∷ [])) (await_submits asked heartbeat)
    ∙ (commands-append (map stop_step stops) (step.Stop SCP0 0 ∷ step.Stop CCP 0 ∷ [])
    ∙ ap (λ l. l ++ write_of SCP0 0 ∷ write_of CCP 0 ∷ []) (stops_submit stops)))

-- ---- what cuts it short

-- the steps of a stop are no others than these
abbrev OfStop : Step → Type 0
OfStop step.Ask = ⊥
OfStop (step.Read register) = ⊥
OfStop (step.Write register value) = ⊥
OfStop (step.Stop register value) = ⊤
OfStop (step.Await heartbeat) = ⊤

abbrev AreOfStop : List Step → Type 0
AreOfStop [] = ⊤
AreOfStop (s ∷ rest) = OfStop s × AreOfStop rest

both_of_stop : (xs ys : List Step) → AreOfStop xs → AreOfStop ys → AreOfStop (xs ++ ys)
both_of_stop [] ys first second = second
both_of_stop (s ∷ xs) ys first second = (first.0, both_of_stop xs ys first.1 second)

rest_of_stop : (xs ys : List Step) → AreOfStop (xs ++ ys) → AreOfStop ys
rest_of_stop [] ys all = all
rest_of_stop (s ∷ xs) ys all = rest_of_stop xs ys all.1

stops_of_stop : (stops : List RegisterWrite) → AreOfStop (map stop_step stops)
stops_of_stop [] = tt
stops_of_stop (x ∷ xs) = (tt, stops_of_stop xs)

await_of_stop : (asked : Option Asked) (heartbeat : Bool) → AreOfStop (await_steps asked heartbeat)
await_of_stop None heartbeat = tt
await_of_stop (Some asked) heartbeat = (tt, tt)

leave_of_stop : (asked : Option Asked) (heartbeat : Bool) (stops : List RegisterWrite) → AreOfStop (leave_steps asked heartbeat stops)
leave_of_stop asked heartbeat stops = both_of_stop (await_steps asked heartbeat) _ (await_of_stop asked heartbeat) (both_of_stop (map stop_step stops) _ (stops_of_stop stops) (tt, (tt, tt)))

-- an end of all is one that cuts, if there is one
abbrev CutsIf : Option ControlEnd → Type 0
CutsIf None = ⊤
CutsIf (Some cause) = Cuts cause

lost_cuts : (held : Bool) → CutsIf (cond held None (Some causes.ControlLost))
lost_cuts true = tt
lost_cuts false = tt

step_cuts : (s : Step) (end : AcqEnd) (told : Option ℕ) → OfStop s → CutsIf (cause_of s end told)
step_cuts step.Ask end told of_stop = absurd of_stop
step_cuts (step.Read register) end told of_stop = absurd of_stop
step_cuts (step.Write register value) end told of_stop = absurd of_stop
step_cuts (step.Stop register value) how.Stopped told of_stop = tt
step_cuts (step.Stop register value) how.Spent told of_stop = tt
step_cuts (step.Stop register value) how.Fault told of_stop = tt
step_cuts (step.Stop register value) (how.NoAnswer req) told of_stop = tt
step_cuts (step.Stop register value) (how.Refused status) told of_stop = tt
step_cuts (step.Await false) how.Stopped told of_stop = tt
step_cuts (step.Await true) how.Stopped None of_stop = tt
step_cuts (step.Await true) how.Stopped (Some privilege) of_stop = lost_cuts (is_held privilege)
step_cuts (step.Await heartbeat) how.Spent told of_stop = tt
step_cuts (step.Await heartbeat) how.Fault told of_stop = tt
step_cuts (step.Await heartbeat) (how.NoAnswer req) told of_stop = tt
step_cuts (step.Await heartbeat) (how.Refused status) told of_stop = tt

halt_cuts : (camera : Address) (steps : List Step) (done : ℕ) (o n : ControlSide) (cause : ControlEnd) → AreOfStop steps → (halts : Halts camera steps done o n cause) → Cuts cause
halt_cuts camera steps done o n cause all halts =
    subst CutsIf halts.ended (step_cuts halts.last halts.end _ (rest_of_stop (steps_in halts.log) (halts.last ∷ halts.rest) (subst AreOfStop halts.are all)).0)

-- ---- the stop

goes_all : (camera : Address) (heartbeat : Bool) (stops : List RegisterWrite) (refused : Option ControlEnd) (o n : ControlSide) → Goes camera (leave_steps o.client.asked heartbeat stops) [] refused o n
    → StopsAll camera stops o n
goes_all camera heartbeat stops refused o n goes = record {
  log = goes.log;
  passes = goes.passes;
  submitted = steps_in_order camera o goes.log n goes.passes ∙ (ap commands_of goes.are ∙ leave_submits o.client.asked heartbeat stops);
}

halts_front : (camera : Address) (heartbeat : Bool) (stops : List RegisterWrite) (done : ℕ) (o n : ControlSide) (cause : ControlEnd) → Halts camera (leave_steps o.client.asked heartbeat stops) done o n cause
    → StopsFront camera heartbeat stops o n cause
halts_front camera heartbeat stops done o n cause halts = record {
  done = done;
  halts = halts;
  rest = commands_of halts.rest;
  submitted =
      sym (leave_submits o.client.asked heartbeat stops)
      ∙ (ap commands_of (halts.are ∙ sym (append_assoc (steps_in halts.log) (halts.last ∷ []) halts.rest))
      ∙ (commands-append (steps_in halts.log ++ halts.last ∷ []) halts.rest
      ∙ ap (λ l. l ++ commands_of halts.rest) (sym (front_in_order camera (leave_steps o.client.asked heartbeat stops) done o n cause halts))));
  cut = halt_cuts camera (leave_steps o.client.asked heartbeat stops) done o n cause (leave_of_stop o.client.asked heartbeat stops) halts;
}

pub leaving_stops : LeavingMakesTheStop
leaving_stops camera heartbeat stops o n (Ok done) leaves = goes_all camera heartbeat stops None o n leaves
leaving_stops camera heartbeat stops o n (Err cause) (inl goes) = inl (goes_all camera heartbeat stops (Some cause) o n goes)
leaving_stops camera heartbeat stops o n (Err cause) (inr halts) = inr (halts_front camera heartbeat stops halts.0 o n cause halts.1)
