use Rattle.frame_pictures.proofs.Heads.{heads_tell_their_record}
use Rattle.frame_pictures.proofs.laws.heads_tell_their_record.Goals as goal

pub returns : goal.returns
returns c = heads_tell_their_record
