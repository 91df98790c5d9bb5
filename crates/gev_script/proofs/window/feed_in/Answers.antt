use Rattle.gev_script.proofs.Windows.{feed_none, feed_some}
use Rattle.gev_script.proofs.window.feed_in.Goals as goal

pub returns-in-Some : goal.returns-in-Some
returns-in-Some c = feed_some c.args.held.now c.args.searched c.requires c.in-Some.place c.in-Some.ensures

pub returns-in-None : goal.returns-in-None
returns-in-None c = feed_none c.args.held.now c.args.searched c.requires c.in-None.ensures
