use Rattle.std.proofs.Common.{◌∙◌}
use Rattle.gentl_handles.proofs.Sortings.{any_serial}
use Rattle.script_replay.proofs.closing_lines.names_stream.Goals as goal

pub returns : goal.returns
returns c = c.has_serial.ensures ∙ any_serial 4 c.args.closed.now
