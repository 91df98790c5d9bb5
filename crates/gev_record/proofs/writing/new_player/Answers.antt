use Rattle.gev_record.proofs.Turning.{started}
use Rattle.gev_record.proofs.writing.new_player.Goals as goal

pub returns : goal.returns
returns c = started c.new.result c.new.ensures.took c.new.ensures.config c.new.ensures.size
