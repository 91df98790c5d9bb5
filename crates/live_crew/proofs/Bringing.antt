-- A worker that came home to a worker.
use Rattle.std.proofs.Common.{List, ◌++◌, sym, subst}
use Rattle.board_machine.specs.declared.events.Entry.{Entry}
use Rattle.board_machine.specs.Places.{IsPrefix}
use Rattle.board_machine.specs.Machine.{empty_board}
use Rattle.board_machine.specs.Histories.{Run, RunsFrom, After}
use Rattle.board_machine.specs.Laws.{IsEnded}
use Rattle.board_machine.proofs.Runs.{after-append, runs_rest}
use Rattle.board_machine.proofs.Ended.{ended_stays}
use Rattle.buffer_words.specs.Workers.{Worker, IsHome}
use Rattle.buffer_words.proofs.Working.{own_for_good}
use Rattle.live_crew.specs.HomeLaws.{WorkersBringHome}

pub home_later : (seen more : List Entry) (w : Worker) → Run (seen ++ more) → IsHome seen w → IsHome (seen ++ more) w
home_later seen more w run home = record {
  ended = subst (λ b. IsEnded b w.number) (sym (after-append empty_board seen more)) (ended_stays (After seen) w.number more home.ended after);
  did = own_for_good w.number seen w.did home.ended home.did more run;
  of_kind = home.of_kind;
}
  where
    after : RunsFrom (After seen) more
    after = runs_rest empty_board seen more run

pub home_in : (seen h : List Entry) (w : Worker) → IsPrefix seen h → Run h → IsHome seen w → IsHome h w
home_in seen h w front run home =
    subst (λ l. IsHome l w) (sym front.is) (home_later seen front.rest w (subst (λ l. Run l) front.is run) home)

pub bring_home : WorkersBringHome
bring_home front kind s away home seen w hosts begins is_home = record {
  number = hosts.number;
  run = hosts.run;
  since = hosts.since;
  seen = hosts.seen;
  of_kind = hosts.of_kind;
  bore = hosts.bore;
  are_home = (home_in seen s.seen w begins hosts.run is_home, hosts.are_home);
}
