use Rattle.std.proofs.Common.{◌++◌, ap, ◌∙◌}
use Rattle.std.proofs.lemmas.Result.{on_ok_weaker}
use Rattle.script_trace.specs.Texts.{words_line}
use Rattle.note_tape.proofs.Ends.{done_words, unbuffered_is}
use Rattle.note_tape.proofs.printing.print_done.Goals as goal

pub returns-in-Some-buffer : goal.returns-in-Some-buffer
returns-in-Some-buffer c note is =
    on_ok_weaker c.note_done.result
    (λ told. told ∙ ap (λ words. c.args.out.now.items ++ words_line c.args.at.line c.args.at.moment words) (done_words c.args.end.now c.in-Some.held c.in-Some-buffer.id c.args.buffer c.args.filled note is c.in-Some.is c.in-Some-buffer.is))
    c.note_done.ensures

pub returns-in-None : goal.returns-in-None
returns-in-None c note is =
    on_ok_weaker c.note_unbuffered.result
    (λ told. told ∙ ap (λ words. c.args.out.now.items ++ words_line c.args.at.line c.args.at.moment words) (unbuffered_is c.args.end.now c.args.buffer c.args.filled note is c.in-None.is))
    c.note_unbuffered.ensures
