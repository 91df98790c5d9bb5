-- Lists that go on behind a refusal, order by order.
use Rattle.std.proofs.Common.{◌≡◌, ℕ, ◌+◌, ◌<◌, false, List, length, Option, Some, None, refl, ap, sym, ◌∙◌, inl, inr}
use Rattle.std.specs.Prelude.{slice_get, get_or, option_map}
use Rattle.std.proofs.lemmas.List.{length-map}
use Rattle.std.proofs.lemmas.Option.{slice_get-map, slice_get-get_or}
use Rattle.gev_links.specs.Links.{Address}
use Rattle.gev_control.specs.declared.order.Order.{Order}
use Rattle.gev_control.specs.declared.acq_end.AcqEnd.{AcqEnd}
use Rattle.gev_control.specs.declared.acq_end.AcqEnd.TheVariants as how
use Rattle.gev_control.specs.declared.carried.Refusal.{Refusal}
use Rattle.gev_control.specs.Ends.{is_fault_end, ends_in_fault}
use Rattle.gev_control.specs.Sends.{Fails}
use Rattle.gev_control.specs.Orders.{command_of, commands_of}
use Rattle.gev_control.specs.CarriesOut.{ControlSide}
use Rattle.gev_control.specs.CarriesThrough.{given_up, CarriesOne, GoesThrough, goes_on, CarriesThrough}

-- the count of faults rises with the same ends
pub same_fault : (end : AcqEnd) (old new : ℕ) → Fails false (is_fault_end end) old new → Fails false (ends_in_fault (given_up end)) old new
same_fault how.Stopped old new fails = fails
same_fault how.Spent old new fails = fails
same_fault how.Fault old new fails = fails
same_fault (how.NoAnswer req) old new fails = fails
same_fault (how.Refused status) old new fails = fails

place_of : (orders : List Order) (place : ℕ) (d : Order) → place < length orders
    → slice_get (commands_of orders) place ≡ Some (command_of (get_or orders place d))
place_of orders place d low = slice_get-map command_of orders place ∙ ap (option_map command_of) (slice_get-get_or orders place d low)

pub through_on : (camera : Address) (orders : List Order) (place : ℕ) (d : Order) (o m n : ControlSide) (refused refused_after : Option Refusal) → place < length orders
    → GoesThrough camera (commands_of orders) o place m refused
    → CarriesOne camera (command_of (get_or orders place d)) place refused refused_after m n None
    → GoesThrough camera (commands_of orders) o (place + 1) n refused_after
through_on camera orders place d o m n refused refused_after low through one =
    goes_on place m n refused refused_after (command_of (get_or orders place d)) through (place_of orders place d low) one

pub through_given_up : (camera : Address) (orders : List Order) (place : ℕ) (d : Order) (o m n : ControlSide) (refused refused_after : Option Refusal) (end : AcqEnd)
    → place < length orders → GoesThrough camera (commands_of orders) o place m refused
    → CarriesOne camera (command_of (get_or orders place d)) place refused refused_after m n (Some end)
    → CarriesThrough camera (commands_of orders) o n (record { end = end; refused = refused_after })
through_given_up camera orders place d o m n refused refused_after end low through one = record {
  done = place;
  side = m;
  refused = refused;
  through = through;
  rest = inr (record { command = command_of (get_or orders place d); there = place_of orders place d low; one = one });
}

pub through_all : (camera : Address) (orders : List Order) (place : ℕ) (o n : ControlSide) (refused : Option Refusal) → place ≡ length orders
    → GoesThrough camera (commands_of orders) o place n refused
    → CarriesThrough camera (commands_of orders) o n (record { end = how.Stopped; refused = refused })
through_all camera orders place o n refused all through = record {
  done = place;
  side = n;
  refused = refused;
  through = through;
  rest = inl (record { all = all ∙ sym (length-map orders command_of); same = refl; refusal = refl; ended = refl });
}
