-- Each of the lists of inputs that are written out gives what is written beside it.
use Rattle.acquisition_machine.specs.Worked.{IsWorked, in_order, last_first, repeated, one_byte, with_rest, without_rest, small_buffer, large_buffer, starves, displaces, spends_ids, restarts, hostile}
use Rattle.acquisition_machine.specs.WorkedTimes.{stops_early, not_yet_old, grows_old, asks_twice, asks_once, asks_again, asks_for_leader, asks_for_eight}

pub record BlocksAreWorked : Type 0 where
  pub in_order : IsWorked in_order
  pub last_first : IsWorked last_first
  pub repeated : IsWorked repeated
  pub one_byte : IsWorked one_byte
  pub with_rest : IsWorked with_rest
  pub without_rest : IsWorked without_rest
  pub small_buffer : IsWorked small_buffer
  pub large_buffer : IsWorked large_buffer
  pub starves : IsWorked starves
  pub displaces : IsWorked displaces
  pub spends_ids : IsWorked spends_ids
  pub restarts : IsWorked restarts
  pub hostile : IsWorked hostile

pub record TimesAreWorked : Type 0 where
  pub stops_early : IsWorked stops_early
  pub not_yet_old : IsWorked not_yet_old
  pub grows_old : IsWorked grows_old
  pub asks_twice : IsWorked asks_twice
  pub asks_once : IsWorked asks_once
  pub asks_again : IsWorked asks_again
  pub asks_for_leader : IsWorked asks_for_leader
  pub asks_for_eight : IsWorked asks_for_eight
