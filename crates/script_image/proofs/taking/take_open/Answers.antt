use Rattle.script_image.proofs.Finding.{open_some, open_none, not_open}
use Rattle.script_image.proofs.taking.take_open.Goals as goal

pub returns-in-None : goal.returns-in-None
returns-in-None c = record { runs = not_open c.args.running.now c.requires.keeps c.in-None.ensures }

pub returns-in-None-take_first : goal.returns-in-None-take_first
returns-in-None-take_first c = record {
  runs = open_none c.args.running.now c.take_first.new.board c.in-Some._event.serial c.requires.keeps c.in-Some.ensures c.in-None-take_first.ensures.takes;
}

pub returns-in-Some-take_first : goal.returns-in-Some-take_first
returns-in-Some-take_first c = record {
  runs =
      open_some c.args.running.now c.take_first.new.board c.in-Some._event.serial c.in-Some-take_first.place c.saturating_add-running.result c.requires.keeps
      c.in-Some.ensures c.in-Some-take_first.ensures.takes c.saturating_add-running.ensures;
}
