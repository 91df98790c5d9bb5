use Rattle.std.proofs.Common.{rules, arith}
use Rattle.camera_words.proofs.Once.{room}
use Rattle.camera_words.proofs.WordByWord.{read_more}
use Rattle.camera_words.proofs.reading.Reading.choose.Goals as goal

pub push-requires : goal.push-requires
push-requires c = (omega arith, room c.self.inside.choices.items c.args.choice c.self.invariant.once (search rules))

pub invariant_of-self : goal.invariant_of-self
invariant_of-self c = read_more _ c.self.inside.choices.items _ c.args.choice c.self.invariant (search rules) c.requires c.push.ensures.items
