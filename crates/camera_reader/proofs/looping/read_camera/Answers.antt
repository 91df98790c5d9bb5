use Rattle.std.proofs.Common.{◌≡◌, ℕ, Bool, None, ◌∙◌, sym, refl, ap}
use Rattle.acq_core.specs.Receiver.{config_of, buffers, Stands}
use Rattle.gev_acq.specs.Reading.{FaultsOf}
use Rattle.camera_reader.specs.Reading.{cause_faults}
use Rattle.gev_acq.proofs.Backing.{same_backs, same_alone}
use Rattle.camera_reader.proofs.Turning.{nothing_yet, one_more, ends_stopped, ends_silent, ends_ended, caused, still}
use Rattle.camera_reader.proofs.looping.read_camera.Goals as goal

faults_later : (is was : Bool) (stream stream_then stream_after control control_then control_after : ℕ) → was ≡ is → stream_then ≡ stream → control_then ≡ control
    → FaultsOf was stream_then stream_after control_then control_after → FaultsOf is stream stream_after control control_after
faults_later is was stream stream_then stream_after control control_then control_after same stream_stays control_stays faults = rw (← same, ← stream_stays, ← control_stays) faults

pub turns-init : goal.turns-init
turns-init g c =
    record {
      so = nothing_yet _ _ _ _ _ _ _ _ _ _ _ _ c.new-state.ensures.begins c.new-state.ensures.top c.new-state.ensures.refused;
      stream_count = refl;
      control_count = refl;
      table = refl;
      config = refl;
      fills = c.requires.fills;
      requests = c.requires.requests;
      backs = c.requires.backs;
      alone = λ alone. alone;
    }

pub returns-then-run-ne1-clause-reads : goal.returns-then-run-ne1-clause-reads
returns-then-run-ne1-clause-reads g c =
    ends_stopped c.args.words.mode (config_of c.args.acq.now) c.args.words.ids c.args.words.camera c.args.words.silence c.args.begin (Stands c.args.acq.now) (Stands c.turns.acq) (record { received = g.L.Link.received c.args.host.now.stream; heard = g.M.Link.received c.args.host.now.control; sent = g.M.Link.sent c.args.host.now.control; told = g.C.Clock.told c.args.host.now.clock; client = c.args.host.now.client }) (record { received = g.L.Link.received c.turns.host.stream; heard = g.M.Link.received c.turns.host.control; sent = g.M.Link.sent c.turns.host.control; told = g.C.Clock.told c.turns.host.clock; client = c.turns.host.client }) c.turns.state.clock c.turns.state.hearing.widener c.turns.state.hearing.refused c.turns.listening c.look_run-run.result c.args.pass.now c.turns.pass c.look_run-run.new.pass c.turns.invariant.so c.look_run-run.ensures.entry c.if-run-ne1.true

pub returns-then-run-ne1-clause-backs : goal.returns-then-run-ne1-clause-backs
returns-then-run-ne1-clause-backs g c =
    same_backs c.turns.pass c.look_run-run.new.pass (buffers c.turns.acq) c.look_run-run.ensures.hands c.turns.invariant.backs

pub returns-then-run-ne1-clause-alone : goal.returns-then-run-ne1-clause-alone
returns-then-run-ne1-clause-alone g c =
    λ alone. same_alone c.turns.pass c.look_run-run.new.pass (buffers c.turns.acq) c.look_run-run.ensures.hands (c.turns.invariant.alone alone)

pub take_turn-ended-requires-clause-backs : goal.take_turn-ended-requires-clause-backs
take_turn-ended-requires-clause-backs g c =
    same_backs c.turns.pass c.look_run-run.new.pass (buffers c.turns.acq) c.look_run-run.ensures.hands c.turns.invariant.backs

pub returns-in-Some-ended-clause-reads : goal.returns-in-Some-ended-clause-reads
returns-in-Some-ended-clause-reads g c =
    ends_ended c.args.words.mode (config_of c.args.acq.now) (config_of c.turns.acq) c.args.words.ids c.args.words.camera c.args.words.silence c.args.begin (Stands c.args.acq.now) (Stands c.turns.acq) (Stands c.take_turn-ended.new.acq) (record { received = g.L.Link.received c.args.host.now.stream; heard = g.M.Link.received c.args.host.now.control; sent = g.M.Link.sent c.args.host.now.control; told = g.C.Clock.told c.args.host.now.clock; client = c.args.host.now.client }) (record { received = g.L.Link.received c.turns.host.stream; heard = g.M.Link.received c.turns.host.control; sent = g.M.Link.sent c.turns.host.control; told = g.C.Clock.told c.turns.host.clock; client = c.turns.host.client }) (record { received = g.L.Link.received c.take_turn-ended.new.host.stream; heard = g.M.Link.received c.take_turn-ended.new.host.control; sent = g.M.Link.sent c.take_turn-ended.new.host.control; told = g.C.Clock.told c.take_turn-ended.new.host.clock; client = c.take_turn-ended.new.host.client }) c.turns.state.clock c.take_turn-ended.new.state.clock c.turns.state.hearing.widener c.turns.state.hearing.refused c.take_turn-ended.new.state.hearing.widener c.take_turn-ended.new.state.hearing.refused c.turns.listening c.take_turn-ended.result.0.moment c.take_turn-ended.result.0.came _ c.in-Some-ended.cause c.look_run-run.result c.args.pass.now c.turns.pass c.look_run-run.new.pass c.take_turn-ended.new.pass c.turns.invariant.so c.turns.invariant.config c.look_run-run.ensures.entry c.if-run-ne1.false c.take_turn-ended.ensures.takes c.in-Some-ended.is

pub returns-then-is_silent-clause-reads : goal.returns-then-is_silent-clause-reads
returns-then-is_silent-clause-reads g c =
    ends_silent c.args.words.mode (config_of c.args.acq.now) (config_of c.turns.acq) c.args.words.ids c.args.words.camera c.args.words.silence c.args.begin (Stands c.args.acq.now) (Stands c.turns.acq) (Stands c.take_turn-ended.new.acq) (record { received = g.L.Link.received c.args.host.now.stream; heard = g.M.Link.received c.args.host.now.control; sent = g.M.Link.sent c.args.host.now.control; told = g.C.Clock.told c.args.host.now.clock; client = c.args.host.now.client }) (record { received = g.L.Link.received c.turns.host.stream; heard = g.M.Link.received c.turns.host.control; sent = g.M.Link.sent c.turns.host.control; told = g.C.Clock.told c.turns.host.clock; client = c.turns.host.client }) (record { received = g.L.Link.received c.take_turn-ended.new.host.stream; heard = g.M.Link.received c.take_turn-ended.new.host.control; sent = g.M.Link.sent c.take_turn-ended.new.host.control; told = g.C.Clock.told c.take_turn-ended.new.host.clock; client = c.take_turn-ended.new.host.client }) c.turns.state.clock c.take_turn-ended.new.state.clock c.turns.state.hearing.widener c.turns.state.hearing.refused c.take_turn-ended.new.state.hearing.widener c.take_turn-ended.new.state.hearing.refused c.turns.listening c.take_turn-ended.result.0.moment c.take_turn-ended.result.0.came _ c.look_run-run.result c.args.pass.now c.turns.pass c.look_run-run.new.pass c.take_turn-ended.new.pass c.turns.invariant.so c.turns.invariant.config c.look_run-run.ensures.entry c.if-run-ne1.false c.take_turn-ended.ensures.takes c.in-None-ended.is (sym c.is_silent.ensures ∙ c.if-is_silent.true)

pub turns-preserved : goal.turns-preserved
turns-preserved g c =
    record {
      so = one_more c.args.words.mode (config_of c.args.acq.now) (config_of c.turns.acq) c.args.words.ids c.args.words.camera c.args.words.silence c.args.begin (Stands c.args.acq.now) (Stands c.turns.acq) (Stands c.take_turn-ended.new.acq) (record { received = g.L.Link.received c.args.host.now.stream; heard = g.M.Link.received c.args.host.now.control; sent = g.M.Link.sent c.args.host.now.control; told = g.C.Clock.told c.args.host.now.clock; client = c.args.host.now.client }) (record { received = g.L.Link.received c.turns.host.stream; heard = g.M.Link.received c.turns.host.control; sent = g.M.Link.sent c.turns.host.control; told = g.C.Clock.told c.turns.host.clock; client = c.turns.host.client }) (record { received = g.L.Link.received c.take_turn-ended.new.host.stream; heard = g.M.Link.received c.take_turn-ended.new.host.control; sent = g.M.Link.sent c.take_turn-ended.new.host.control; told = g.C.Clock.told c.take_turn-ended.new.host.clock; client = c.take_turn-ended.new.host.client }) c.turns.state.clock c.take_turn-ended.new.state.clock c.turns.state.hearing.widener c.turns.state.hearing.refused c.take_turn-ended.new.state.hearing.widener c.take_turn-ended.new.state.hearing.refused c.turns.listening c.listened-listening.result c.take_turn-ended.result.0.moment c.take_turn-ended.result.0.came c.look_run-run.result c.args.pass.now c.turns.pass c.look_run-run.new.pass c.take_turn-ended.new.pass c.turns.invariant.so c.turns.invariant.config c.look_run-run.ensures.entry c.if-run-ne1.false (caused c.args.words.mode (config_of c.turns.acq) c.args.words.ids c.args.words.camera (Stands c.turns.acq) (Stands c.take_turn-ended.new.acq) c.turns.state.clock c.take_turn-ended.new.state.clock c.turns.state.hearing.widener c.turns.state.hearing.refused c.take_turn-ended.new.state.hearing.widener c.take_turn-ended.new.state.hearing.refused (record { received = g.L.Link.received c.turns.host.stream; heard = g.M.Link.received c.turns.host.control; sent = g.M.Link.sent c.turns.host.control; told = g.C.Clock.told c.turns.host.clock; client = c.turns.host.client }) (record { received = g.L.Link.received c.take_turn-ended.new.host.stream; heard = g.M.Link.received c.take_turn-ended.new.host.control; sent = g.M.Link.sent c.take_turn-ended.new.host.control; told = g.C.Clock.told c.take_turn-ended.new.host.clock; client = c.take_turn-ended.new.host.client }) c.take_turn-ended.result.0.moment c.take_turn-ended.result.0.came _ None c.look_run-run.new.pass c.take_turn-ended.new.pass c.take_turn-ended.ensures.takes c.in-None-ended.is) (sym c.is_silent.ensures ∙ c.if-is_silent.false) c.listened-listening.ensures;
      stream_count = (still c.in-None-ended.is c.take_turn-ended.ensures.faults).0 ∙ c.turns.invariant.stream_count;
      control_count = (still c.in-None-ended.is c.take_turn-ended.ensures.faults).1 ∙ c.turns.invariant.control_count;
      table = c.take_turn-ended.ensures.table ∙ (c.look_run-run.ensures.entry.table ∙ c.turns.invariant.table);
      config = c.take_turn-ended.ensures.config ∙ c.turns.invariant.config;
      fills = c.take_turn-ended.ensures.fills;
      requests = c.take_turn-ended.ensures.requests;
      backs = c.take_turn-ended.ensures.backs;
      alone = λ alone. c.take_turn-ended.ensures.alone
          (same_alone c.turns.pass c.look_run-run.new.pass (buffers c.turns.acq) c.look_run-run.ensures.hands (c.turns.invariant.alone alone));
    }

pub returns-then-run-ne1-clause-faults : goal.returns-then-run-ne1-clause-faults
returns-then-run-ne1-clause-faults g c = (c.turns.invariant.stream_count, c.turns.invariant.control_count)

pub returns-then-run-ne1-clause-table : goal.returns-then-run-ne1-clause-table
returns-then-run-ne1-clause-table g c = c.look_run-run.ensures.entry.table ∙ c.turns.invariant.table

pub returns-then-run-ne1-clause-config : goal.returns-then-run-ne1-clause-config
returns-then-run-ne1-clause-config g c = c.turns.invariant.config

pub returns-then-run-ne1-clause-fills : goal.returns-then-run-ne1-clause-fills
returns-then-run-ne1-clause-fills g c = c.turns.invariant.fills

pub returns-then-run-ne1-clause-requests : goal.returns-then-run-ne1-clause-requests
returns-then-run-ne1-clause-requests g c = c.turns.invariant.requests

pub returns-in-Some-ended-clause-faults : goal.returns-in-Some-ended-clause-faults
returns-in-Some-ended-clause-faults g c = faults_later _ _ _ _ _ _ _ _ (ap cause_faults c.in-Some-ended.is) c.turns.invariant.stream_count c.turns.invariant.control_count c.take_turn-ended.ensures.faults

pub returns-then-is_silent-clause-faults : goal.returns-then-is_silent-clause-faults
returns-then-is_silent-clause-faults g c = ((still c.in-None-ended.is c.take_turn-ended.ensures.faults).0 ∙ c.turns.invariant.stream_count, (still c.in-None-ended.is c.take_turn-ended.ensures.faults).1 ∙ c.turns.invariant.control_count)

pub returns-in-Some-ended-clause-table : goal.returns-in-Some-ended-clause-table
returns-in-Some-ended-clause-table g c = c.take_turn-ended.ensures.table ∙ c.look_run-run.ensures.entry.table ∙ c.turns.invariant.table

pub returns-in-Some-ended-clause-config : goal.returns-in-Some-ended-clause-config
returns-in-Some-ended-clause-config g c = c.take_turn-ended.ensures.config ∙ c.turns.invariant.config

pub returns-in-Some-ended-clause-fills : goal.returns-in-Some-ended-clause-fills
returns-in-Some-ended-clause-fills g c = c.take_turn-ended.ensures.fills

pub returns-in-Some-ended-clause-requests : goal.returns-in-Some-ended-clause-requests
returns-in-Some-ended-clause-requests g c = c.take_turn-ended.ensures.requests

pub returns-in-Some-ended-clause-backs : goal.returns-in-Some-ended-clause-backs
returns-in-Some-ended-clause-backs g c = c.take_turn-ended.ensures.backs

pub returns-in-Some-ended-clause-alone : goal.returns-in-Some-ended-clause-alone
returns-in-Some-ended-clause-alone g c = λ alone. c.take_turn-ended.ensures.alone (same_alone c.turns.pass c.look_run-run.new.pass (buffers c.turns.acq) c.look_run-run.ensures.hands (c.turns.invariant.alone alone))

pub returns-then-is_silent-clause-table : goal.returns-then-is_silent-clause-table
returns-then-is_silent-clause-table g c = c.take_turn-ended.ensures.table ∙ c.look_run-run.ensures.entry.table ∙ c.turns.invariant.table

pub returns-then-is_silent-clause-config : goal.returns-then-is_silent-clause-config
returns-then-is_silent-clause-config g c = c.take_turn-ended.ensures.config ∙ c.turns.invariant.config

pub returns-then-is_silent-clause-fills : goal.returns-then-is_silent-clause-fills
returns-then-is_silent-clause-fills g c = c.take_turn-ended.ensures.fills

pub returns-then-is_silent-clause-requests : goal.returns-then-is_silent-clause-requests
returns-then-is_silent-clause-requests g c = c.take_turn-ended.ensures.requests

pub returns-then-is_silent-clause-backs : goal.returns-then-is_silent-clause-backs
returns-then-is_silent-clause-backs g c = c.take_turn-ended.ensures.backs

pub returns-then-is_silent-clause-alone : goal.returns-then-is_silent-clause-alone
returns-then-is_silent-clause-alone g c = λ alone. c.take_turn-ended.ensures.alone (same_alone c.turns.pass c.look_run-run.new.pass (buffers c.turns.acq) c.look_run-run.ensures.hands (c.turns.invariant.alone alone))

pub look_run-run-requires : goal.look_run-run-requires
look_run-run-requires g c = record { table = c.turns.invariant.table ∙ c.requires.table }

pub take_turn-ended-requires-clause-table : goal.take_turn-ended-requires-clause-table
take_turn-ended-requires-clause-table g c = c.look_run-run.ensures.entry.table ∙ c.turns.invariant.table ∙ c.requires.table

pub take_turn-ended-requires-clause-fills : goal.take_turn-ended-requires-clause-fills
take_turn-ended-requires-clause-fills g c = c.turns.invariant.fills

pub take_turn-ended-requires-clause-requests : goal.take_turn-ended-requires-clause-requests
take_turn-ended-requires-clause-requests g c = c.turns.invariant.requests
