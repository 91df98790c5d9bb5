use Rattle.std.proofs.Common.{◌≡◌, ◌++◌, take}
use Rattle.capture_streams.specs.Texts.{stream_lines}
use Rattle.capture_streams.proofs.stream_text.add_streams.Given as goal

abbrev pub invariant-loop-stream : goal.invariant-loop-stream
invariant-loop-stream l = l.out.items ≡ l.initial.out.items ++ stream_lines (take l.stream-index l.streams)
