-- Turn by turn, and the end.
use Rattle.std.proofs.Common.{◌≡◌, ◌∙◌, ℕ, Bool, refl, ap, length, arith, rules}
use Rattle.buffer_words.proofs.Retries.{hands_self, hands_then}
use Rattle.gev_control.specs.Controlled.{is_fault}
use Rattle.gev_acq.specs.Reading.{FaultsOf}
use Rattle.lane_reader.proofs.Turns.{begins, goes_on, ends_fault, ends_unanswered, ends_refused, ends_stopped, ends_spent, counts_stay}
use Rattle.lane_reader.proofs.reading.make_turns.Goals as goal

faults_later : (is was : Bool) (stream stream_then stream_after control control_then control_after : ℕ) → was ≡ is → stream_then ≡ stream → control_then ≡ control
    → FaultsOf was stream_then stream_after control_then control_after → FaultsOf is stream stream_after control control_after
faults_later is was stream stream_then stream_after control control_then control_after same stream_stays control_stays faults = rw (← same, ← stream_stays, ← control_stays) faults

pub turns-init : goal.turns-init
turns-init g c = record {
  on = begins _ _ _ _ _;
  reader = c.requires.reader;
  stream_count = refl;
  control_count = refl;
  same_stream = refl;
  same_control = refl;
  same_clock = refl;
  same_client = refl;
  table = refl;
  hands = hands_self _;
}

pub returns-then-run-ne1-clause-reads : goal.returns-then-run-ne1-clause-reads
returns-then-run-ne1-clause-reads g c =
    ends_stopped (length c.args.lanes.now) c.args.camera _ _ c.turns._turn c.args.turns c.look_run-run.result c.args.reader.now c.turns.reader c.args.pass.now
    c.turns.pass c.look_run-run.new.pass c.turns.invariant.on c.look_run-run.ensures.entry c.if-run-ne1.true c.turns-test.true

pub returns-then-run-ne1-clause-hands : goal.returns-then-run-ne1-clause-hands
returns-then-run-ne1-clause-hands g c =
    hands_then c.args.pass.now c.turns.pass c.look_run-run.new.pass c.turns.invariant.hands c.look_run-run.ensures.hands

pub returns-then-run-ne1-clause-reader : goal.returns-then-run-ne1-clause-reader
returns-then-run-ne1-clause-reader g c = c.turns.invariant.reader

pub returns-then-run-ne1-clause-faults : goal.returns-then-run-ne1-clause-faults
returns-then-run-ne1-clause-faults g c = (c.turns.invariant.stream_count, c.turns.invariant.control_count)

pub returns-then-run-ne1-clause-same_stream : goal.returns-then-run-ne1-clause-same_stream
returns-then-run-ne1-clause-same_stream g c = c.turns.invariant.same_stream

pub returns-then-run-ne1-clause-same_control : goal.returns-then-run-ne1-clause-same_control
returns-then-run-ne1-clause-same_control g c = c.turns.invariant.same_control

pub returns-then-run-ne1-clause-same_clock : goal.returns-then-run-ne1-clause-same_clock
returns-then-run-ne1-clause-same_clock g c = c.turns.invariant.same_clock

pub returns-then-run-ne1-clause-same_client : goal.returns-then-run-ne1-clause-same_client
returns-then-run-ne1-clause-same_client g c = c.turns.invariant.same_client

pub returns-then-run-ne1-clause-table : goal.returns-then-run-ne1-clause-table
returns-then-run-ne1-clause-table g c = c.look_run-run.ensures.entry.table ∙ c.turns.invariant.table

pub read_turn-end-requires-clause-reader : goal.read_turn-end-requires-clause-reader
read_turn-end-requires-clause-reader g c = c.turns.invariant.reader

pub read_turn-end-requires-clause-some : goal.read_turn-end-requires-clause-some
read_turn-end-requires-clause-some g c = c.requires.some

pub returns-in-Fault-clause-reads : goal.returns-in-Fault-clause-reads
returns-in-Fault-clause-reads g c =
    let one : c.look_run-run.result ≡ 1 = first_of (search rules, grind arith) in
    ends_fault (length c.args.lanes.now) c.args.camera _ _ _ c.turns._turn c.args.turns c.look_run-run.result c.read_turn-end.result c.args.reader.now
    c.turns.reader c.read_turn-end.new.reader c.args.pass.now c.turns.pass c.look_run-run.new.pass c.turns.invariant.on c.look_run-run.ensures.entry one
    c.read_turn-end.ensures.takes c.turns-test.true c.in-Fault.is

pub returns-in-Fault-clause-hands : goal.returns-in-Fault-clause-hands
returns-in-Fault-clause-hands g c =
    hands_then c.args.pass.now c.turns.pass c.look_run-run.new.pass c.turns.invariant.hands c.look_run-run.ensures.hands

pub returns-in-Fault-clause-reader : goal.returns-in-Fault-clause-reader
returns-in-Fault-clause-reader g c = c.read_turn-end.ensures.reader

pub returns-in-Fault-clause-faults : goal.returns-in-Fault-clause-faults
returns-in-Fault-clause-faults g c = faults_later _ _ _ _ _ _ _ _ (ap is_fault c.in-Fault.is) c.turns.invariant.stream_count c.turns.invariant.control_count c.read_turn-end.ensures.faults

pub returns-in-Fault-clause-same_stream : goal.returns-in-Fault-clause-same_stream
returns-in-Fault-clause-same_stream g c = c.read_turn-end.ensures.same_stream ∙ c.turns.invariant.same_stream

pub returns-in-Fault-clause-same_control : goal.returns-in-Fault-clause-same_control
returns-in-Fault-clause-same_control g c = c.read_turn-end.ensures.same_control ∙ c.turns.invariant.same_control

pub returns-in-Fault-clause-same_clock : goal.returns-in-Fault-clause-same_clock
returns-in-Fault-clause-same_clock g c = c.read_turn-end.ensures.same_clock ∙ c.turns.invariant.same_clock

pub returns-in-Fault-clause-same_client : goal.returns-in-Fault-clause-same_client
returns-in-Fault-clause-same_client g c = c.read_turn-end.ensures.same_client ∙ c.turns.invariant.same_client

pub returns-in-Fault-clause-table : goal.returns-in-Fault-clause-table
returns-in-Fault-clause-table g c = c.look_run-run.ensures.entry.table ∙ c.turns.invariant.table

pub returns-in-NoAnswer-clause-reads : goal.returns-in-NoAnswer-clause-reads
returns-in-NoAnswer-clause-reads g c =
    let one : c.look_run-run.result ≡ 1 = first_of (search rules, grind arith) in
    ends_unanswered (length c.args.lanes.now) c.args.camera _ _ _ c.turns._turn c.args.turns c.look_run-run.result c.in-NoAnswer.req c.read_turn-end.result c.args.reader.now
    c.turns.reader c.read_turn-end.new.reader c.args.pass.now c.turns.pass c.look_run-run.new.pass c.turns.invariant.on c.look_run-run.ensures.entry one
    c.read_turn-end.ensures.takes c.turns-test.true c.in-NoAnswer.is

pub returns-in-NoAnswer-clause-hands : goal.returns-in-NoAnswer-clause-hands
returns-in-NoAnswer-clause-hands g c =
    hands_then c.args.pass.now c.turns.pass c.look_run-run.new.pass c.turns.invariant.hands c.look_run-run.ensures.hands

pub returns-in-NoAnswer-clause-reader : goal.returns-in-NoAnswer-clause-reader
returns-in-NoAnswer-clause-reader g c = c.read_turn-end.ensures.reader

pub returns-in-NoAnswer-clause-faults : goal.returns-in-NoAnswer-clause-faults
returns-in-NoAnswer-clause-faults g c = faults_later _ _ _ _ _ _ _ _ (ap is_fault c.in-NoAnswer.is) c.turns.invariant.stream_count c.turns.invariant.control_count c.read_turn-end.ensures.faults

pub returns-in-NoAnswer-clause-same_stream : goal.returns-in-NoAnswer-clause-same_stream
returns-in-NoAnswer-clause-same_stream g c = c.read_turn-end.ensures.same_stream ∙ c.turns.invariant.same_stream

pub returns-in-NoAnswer-clause-same_control : goal.returns-in-NoAnswer-clause-same_control
returns-in-NoAnswer-clause-same_control g c = c.read_turn-end.ensures.same_control ∙ c.turns.invariant.same_control

pub returns-in-NoAnswer-clause-same_clock : goal.returns-in-NoAnswer-clause-same_clock
returns-in-NoAnswer-clause-same_clock g c = c.read_turn-end.ensures.same_clock ∙ c.turns.invariant.same_clock

pub returns-in-NoAnswer-clause-same_client : goal.returns-in-NoAnswer-clause-same_client
returns-in-NoAnswer-clause-same_client g c = c.read_turn-end.ensures.same_client ∙ c.turns.invariant.same_client

pub returns-in-NoAnswer-clause-table : goal.returns-in-NoAnswer-clause-table
returns-in-NoAnswer-clause-table g c = c.look_run-run.ensures.entry.table ∙ c.turns.invariant.table

pub returns-in-Refused-clause-reads : goal.returns-in-Refused-clause-reads
returns-in-Refused-clause-reads g c =
    let one : c.look_run-run.result ≡ 1 = first_of (search rules, grind arith) in
    ends_refused (length c.args.lanes.now) c.args.camera _ _ _ c.turns._turn c.args.turns c.look_run-run.result c.in-Refused.status c.read_turn-end.result c.args.reader.now
    c.turns.reader c.read_turn-end.new.reader c.args.pass.now c.turns.pass c.look_run-run.new.pass c.turns.invariant.on c.look_run-run.ensures.entry one
    c.read_turn-end.ensures.takes c.turns-test.true c.in-Refused.is

pub returns-in-Refused-clause-hands : goal.returns-in-Refused-clause-hands
returns-in-Refused-clause-hands g c =
    hands_then c.args.pass.now c.turns.pass c.look_run-run.new.pass c.turns.invariant.hands c.look_run-run.ensures.hands

pub returns-in-Refused-clause-reader : goal.returns-in-Refused-clause-reader
returns-in-Refused-clause-reader g c = c.read_turn-end.ensures.reader

pub returns-in-Refused-clause-faults : goal.returns-in-Refused-clause-faults
returns-in-Refused-clause-faults g c = faults_later _ _ _ _ _ _ _ _ (ap is_fault c.in-Refused.is) c.turns.invariant.stream_count c.turns.invariant.control_count c.read_turn-end.ensures.faults

pub returns-in-Refused-clause-same_stream : goal.returns-in-Refused-clause-same_stream
returns-in-Refused-clause-same_stream g c = c.read_turn-end.ensures.same_stream ∙ c.turns.invariant.same_stream

pub returns-in-Refused-clause-same_control : goal.returns-in-Refused-clause-same_control
returns-in-Refused-clause-same_control g c = c.read_turn-end.ensures.same_control ∙ c.turns.invariant.same_control

pub returns-in-Refused-clause-same_clock : goal.returns-in-Refused-clause-same_clock
returns-in-Refused-clause-same_clock g c = c.read_turn-end.ensures.same_clock ∙ c.turns.invariant.same_clock

pub returns-in-Refused-clause-same_client : goal.returns-in-Refused-clause-same_client
returns-in-Refused-clause-same_client g c = c.read_turn-end.ensures.same_client ∙ c.turns.invariant.same_client

pub returns-in-Refused-clause-table : goal.returns-in-Refused-clause-table
returns-in-Refused-clause-table g c = c.look_run-run.ensures.entry.table ∙ c.turns.invariant.table

pub returns-clause-reads : goal.returns-clause-reads
returns-clause-reads g c =
    ends_spent (length c.args.lanes.now) c.args.camera _ _ c.turns._turn c.args.turns c.args.reader.now c.turns.reader c.args.pass.now c.turns.pass
    c.turns.invariant.on (omega (arith, c.turns-test.false, c.turns.auto._turn-end))

pub returns-clause-reader : goal.returns-clause-reader
returns-clause-reader g c = c.turns.invariant.reader

pub returns-clause-faults : goal.returns-clause-faults
returns-clause-faults g c = (c.turns.invariant.stream_count, c.turns.invariant.control_count)

pub returns-clause-same_stream : goal.returns-clause-same_stream
returns-clause-same_stream g c = c.turns.invariant.same_stream

pub returns-clause-same_control : goal.returns-clause-same_control
returns-clause-same_control g c = c.turns.invariant.same_control

pub returns-clause-same_clock : goal.returns-clause-same_clock
returns-clause-same_clock g c = c.turns.invariant.same_clock

pub returns-clause-same_client : goal.returns-clause-same_client
returns-clause-same_client g c = c.turns.invariant.same_client

pub returns-clause-table : goal.returns-clause-table
returns-clause-table g c = c.turns.invariant.table

pub returns-clause-hands : goal.returns-clause-hands
returns-clause-hands g c = c.turns.invariant.hands

pub turns-preserved : goal.turns-preserved
turns-preserved g c =
    let one : c.look_run-run.result ≡ 1 = first_of (search rules, grind arith) in
    let stay = counts_stay _ _ _ _ _ c.read_turn-end.ensures.faults c.in-GoesOn.is in
    record {
      on = goes_on (length c.args.lanes.now) c.args.camera _ _ _ c.turns._turn c.look_run-run.result c.read_turn-end.result c.args.reader.now
          c.turns.reader c.read_turn-end.new.reader c.args.pass.now c.turns.pass c.look_run-run.new.pass c.turns.invariant.on c.look_run-run.ensures.entry one
          c.read_turn-end.ensures.takes c.in-GoesOn.is;
      reader = c.read_turn-end.ensures.reader;
      stream_count = stay.0 ∙ c.turns.invariant.stream_count;
      control_count = stay.1 ∙ c.turns.invariant.control_count;
      same_stream = c.read_turn-end.ensures.same_stream ∙ c.turns.invariant.same_stream;
      same_control = c.read_turn-end.ensures.same_control ∙ c.turns.invariant.same_control;
      same_clock = c.read_turn-end.ensures.same_clock ∙ c.turns.invariant.same_clock;
      same_client = c.read_turn-end.ensures.same_client ∙ c.turns.invariant.same_client;
      table = c.look_run-run.ensures.entry.table ∙ c.turns.invariant.table;
      hands = hands_then c.args.pass.now c.turns.pass c.look_run-run.new.pass c.turns.invariant.hands c.look_run-run.ensures.hands;
    }
