use Rattle.std.proofs.Common.{map, drop}
use Rattle.std.specs.List.{All}
use Rattle.gev_script.specs.Lines.{view}
use Rattle.gev_script.specs.Spelling.{IsScriptLine}
use Rattle.gev_make.specs.MakeText.{text_of}
use Rattle.gev_make.proofs.Texts.{Leads}
use Rattle.gev_make.proofs.lines.write_lines.Given as goal

abbrev pub invariant-loop-line : goal.invariant-loop-line
invariant-loop-line g l = record {
  leads :
      Leads (g.K.Sink.written l.initial.sink) (g.K.Sink.written l.sink) (g.K.Sink.faults l.initial.sink) (g.K.Sink.faults l.sink)
      (text_of (map view l.lines)) (text_of (map view (drop l.line-index l.lines)));
  lines : All IsScriptLine (map view (drop l.line-index l.lines));
}
