use Rattle.std.proofs.Common.{◌∙◌}
use Rattle.acquisition_machine.specs.Machine.{datagram}
use Rattle.script_replay.proofs.Retiring.{ready_after}
use Rattle.acq_core.specs.Waiting.{waiting_fills}
use Rattle.acq_core.specs.Receiver.{config_of}
use Rattle.explain_lines.proofs.Datagrams.{retires_by}
use Rattle.explain_lines.proofs.hearing.fill_what_retires.Goals as goal

pub returns : goal.returns
returns c = record {
  need_is = c.datagram-need.ensures.need;
  mid = c.tape_need.new.tape.items;
  named = c.in_ok-tape_need.ensures (config_of c.args.acq.now) c.requires.telling.inputs (c.datagram-need.ensures.need c.requires.telling.inputs c.requires.telling.stands);
  retires = retires_by c.args.mode (datagram c.args.bytes.now) c.args.board.now c.tape_retired.new.board c.args.acq.now c.datagram-need.new.self c.tape_retired.new.acq c.args.counts.now c.tape_retired.new.counts c.tape_need.new.tape.items c.tape_retired.new.tape.items
      c.requires.telling.telling c.requires.no_fill c.datagram-need.ensures.takes c.in_ok-tape_retired.ensures.rest c.in_ok-tape_retired.ensures.told;
  ready = ready_after (waiting_fills c.datagram-need.new.self) c.args.board.now c.tape_retired.new.board c.in_ok-tape_retired.ensures.told.all c.requires.ready;
  no_fill = c.in_ok-tape_retired.ensures.no_fill;
  no_request = c.in_ok-tape_retired.ensures.requests ∙ c.datagram-need.ensures.requests;
  asked = c.in_ok-tape_retired.ensures.rest.asked ∙ c.datagram-need.ensures.asked;
  away = c.in_ok-tape_retired.ensures.away;
  telling = c.in_ok-tape_retired.ensures.telling ∙ (c.datagram-need.ensures.takes.telling ∙ c.requires.telling.telling);
}
