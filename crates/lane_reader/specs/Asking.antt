-- Requests that are taken of one lane and sent.
use Rattle.std.specs.Prelude.{ℕ, List, Option, Bool}
use Rattle.gev_lanes.specs.declared.parts.ReaderLane.{ReaderLane}
use Rattle.gev_lanes.specs.Acts.{DoesAt}
use Rattle.gev_links.specs.Links.{Address}
use Rattle.gev_control.specs.Sends.{SendsOn}
use Rattle.lane_reader.specs.LanesTurns.{Asks}

pub record AsksAt (lane : ℕ) (camera : Address) (was now : Bool) (old new : Option (List (Address × List ℕ))) (ss ts : List ReaderLane) : Type 0 where
  pub requests : List (List ℕ)
  pub asks : DoesAt (Asks requests) lane ss ts
  pub sends : SendsOn camera requests was now old new
