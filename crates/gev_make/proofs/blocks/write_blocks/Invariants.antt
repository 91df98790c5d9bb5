use Rattle.std.proofs.Common.{◌≡◌, ◌+◌, ◌-◌, []}
use Rattle.gev_make.specs.MakeText.{block_lines, text_of}
use Rattle.gev_make.proofs.Texts.{Leads}
use Rattle.gev_make.proofs.blocks.write_blocks.Given as goal

abbrev pub invariant-loop-made : goal.invariant-loop-made
invariant-loop-made g l = record {
  leads :
      Leads (g.K.Sink.written l.initial.sink) (g.K.Sink.written l.sink) (g.K.Sink.faults l.initial.sink) (g.K.Sink.faults l.sink)
      (text_of (block_lines l.initial.network l.seed 1 l.frames)) (text_of (block_lines l.network l.seed (l.made + 1) (l.frames - l.made)));
  empty : l.network.queue ≡ [];
}
