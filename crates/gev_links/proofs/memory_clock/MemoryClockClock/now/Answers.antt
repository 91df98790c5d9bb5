use Rattle.std.proofs.Common.{rules}
use Rattle.gev_links.proofs.Telling.{tells_on}
use Rattle.gev_links.proofs.memory_clock.MemoryClockClock.now.Goals as goal

-- src/memory_clock.rt:62:5
pub returns-in-Some : goal.returns-in-Some
returns-in-Some c = record {
  told = tells_on c.args.self.now.moments c.self.inside.moments.now c.args.self.now.count c.in-Some.count c.one_more-self-inside.result c.moment_at.result
      (search rules) (search rules) (search rules)
      c.one_more-self-inside.ensures.more c.one_more-self-inside.ensures.most (search rules);
}
