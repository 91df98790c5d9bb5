-- What each command did.
use Rattle.std.proofs.Common.{refl, sym, arith}
use Rattle.gev_program.proofs.Errands.{never_links}
use Rattle.gev_program.proofs.Done.{does_is, nothing_kept}
use Rattle.gev_program.proofs.top.run_errand.Goals as goal

pub returns-in-Plain : goal.returns-in-Plain
returns-in-Plain g c = record {
  understood = c.run_command.ensures.understood;
  does = does_is _ _ _ _ _ _ _ _ _ _ _ _ (record { cause = c.run_command.ensures.cause; exact = c.run_command.ensures.exact; ports = (refl, refl, refl, refl, refl, c.requires.unkept); reads_steady = c.run_command.ensures.reads_steady; writes_steady = c.run_command.ensures.writes_steady }) (sym c.in-Plain.is);
  alone = nothing_kept _ _ _ c.requires.unkept;
  own = nothing_kept _ _ _ c.requires.unkept;
  few_binds = omega arith;
  links_steady = λ _. refl;
  link_fault = λ is. absurd (never_links c.in-Plain.command c.run_command.result _ _ _ _ _ _ _ _ c.run_command.ensures.cause is);
}

pub returns-in-Live : goal.returns-in-Live
returns-in-Live g c = record {
  understood = c.run_live.ensures.understood;
  does = does_is _ _ _ _ _ _ _ _ _ _ _ _ (record { unread = record { left = refl; reads = refl }; runs = c.run_live.ensures.live; none = c.run_live.ensures.none; writes_steady = c.run_live.ensures.writes_steady; complete = c.run_live.ensures.complete }) (sym c.in-Live.is);
  alone = c.run_live.ensures.alone;
  own = c.run_live.ensures.own;
  few_binds = c.run_live.ensures.binds;
  links_steady = c.run_live.ensures.links_steady;
  link_fault = c.run_live.ensures.link_fault;
}

pub returns-in-Record : goal.returns-in-Record
returns-in-Record g c = record {
  understood = c.run_recorded.ensures.understood;
  does = does_is _ _ _ _ _ _ _ _ _ _ _ _ (record { unread = record { left = refl; reads = refl }; runs = c.run_recorded.ensures.recorded; none = c.run_recorded.ensures.none; writes_steady = c.run_recorded.ensures.writes_steady; complete = c.run_recorded.ensures.complete }) (sym c.in-Record.is);
  alone = c.run_recorded.ensures.alone;
  own = c.run_recorded.ensures.own;
  few_binds = c.run_recorded.ensures.binds;
  links_steady = c.run_recorded.ensures.links_steady;
  link_fault = c.run_recorded.ensures.link_fault;
}

pub returns-in-Discover : goal.returns-in-Discover
returns-in-Discover g c = record {
  understood = c.run_discover.ensures.understood;
  does = does_is _ _ _ _ _ _ _ _ _ _ _ _ (record { asks = c.run_discover.ensures.discovers; unread = record { left = refl; reads = refl }; unkept = c.requires.unkept; writes_steady = c.run_discover.ensures.writes_steady; complete = c.run_discover.ensures.complete }) (sym c.in-Discover.is);
  alone = nothing_kept _ _ _ c.requires.unkept;
  own = nothing_kept _ _ _ c.requires.unkept;
  few_binds = c.run_discover.ensures.binds;
  links_steady = c.run_discover.ensures.links_steady;
  link_fault = c.run_discover.ensures.link_fault;
}

pub returns-in-Description : goal.returns-in-Description
returns-in-Description g c = record {
  understood = c.run_description.ensures.understood;
  does = does_is _ _ _ _ _ _ _ _ _ _ _ _ (record { asks = c.run_description.ensures.describes; unread = record { left = refl; reads = refl }; unkept = c.requires.unkept; writes_steady = c.run_description.ensures.writes_steady; complete = c.run_description.ensures.complete }) (sym c.in-Description.is);
  alone = nothing_kept _ _ _ c.requires.unkept;
  own = nothing_kept _ _ _ c.requires.unkept;
  few_binds = c.run_description.ensures.binds;
  links_steady = c.run_description.ensures.links_steady;
  link_fault = c.run_description.ensures.link_fault;
}

pub returns-in-Simulate : goal.returns-in-Simulate
returns-in-Simulate g c = record {
  understood = c.run_simulate.ensures.understood;
  does = does_is _ _ _ _ _ _ _ _ _ _ _ _ (record { simulates = c.run_simulate.ensures.simulates; unkept = c.requires.unkept; writes_steady = c.run_simulate.ensures.writes_steady; complete = c.run_simulate.ensures.complete }) (sym c.in-Simulate.is);
  alone = nothing_kept _ _ _ c.requires.unkept;
  own = nothing_kept _ _ _ c.requires.unkept;
  few_binds = c.run_simulate.ensures.binds;
  links_steady = c.run_simulate.ensures.links_steady;
  link_fault = c.run_simulate.ensures.link_fault;
}

pub returns-in-Receive : goal.returns-in-Receive
returns-in-Receive g c = record {
  understood = c.run_receive.ensures.understood;
  does = does_is _ _ _ _ _ _ _ _ _ _ _ _ (record { receives = c.run_receive.ensures.receives; writes_steady = c.run_receive.ensures.writes_steady; complete = c.run_receive.ensures.complete }) (sym c.in-Receive.is);
  alone = c.run_receive.ensures.alone;
  own = c.run_receive.ensures.own;
  few_binds = c.run_receive.ensures.binds;
  links_steady = c.run_receive.ensures.links_steady;
  link_fault = c.run_receive.ensures.link_fault;
}

pub returns-in-Register : goal.returns-in-Register
returns-in-Register g c = record {
  understood = c.run_register.ensures.understood;
  does = does_is _ _ _ _ _ _ _ _ _ _ _ _ (record { registers = c.run_register.ensures.registers; unread = record { left = refl; reads = refl }; unkept = c.requires.unkept; writes_steady = c.run_register.ensures.writes_steady; complete = c.run_register.ensures.complete }) (sym c.in-Register.is);
  alone = nothing_kept _ _ _ c.requires.unkept;
  own = nothing_kept _ _ _ c.requires.unkept;
  few_binds = c.run_register.ensures.binds;
  links_steady = c.run_register.ensures.links_steady;
  link_fault = c.run_register.ensures.link_fault;
}
