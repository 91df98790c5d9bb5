use Rattle.std.proofs.Common.{sym}
use Rattle.packet_bitmap.proofs.BitLemmas.{length_is}
use Rattle.packet_bitmap.proofs.bitmap.Bitmap.ids.Goals as goal

pub returns : goal.returns
returns c = sym (length_is c.self.inside.words.items c.self.inside.ids c.args.self.now c.self.view_is)
