use Rattle.gev_record.proofs.Answering.{on_ok}
use Rattle.gev_record.proofs.Turning.{last_on}
use Rattle.gev_record.proofs.writing.add_last.Goals as goal

pub returns : goal.returns
returns c =
    on_ok c.add_line.result c.add_line.ensures
    (λ e. last_on c.args.player.now c.args.used.now c.args.text.now.items c.stop.new.text.items c.add_line.new.out.items c.in_ok-stop.ensures e)
