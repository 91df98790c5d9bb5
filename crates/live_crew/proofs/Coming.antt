-- A worker that was split off, came back and was joined.
use Rattle.std.proofs.Common.{◌≡◌, []}
use Rattle.board_machine.specs.declared.events.Event.TheVariants.{Split}
use Rattle.buffer_words.specs.Passes.{Token, own, Enters}
use Rattle.live_crew.specs.Homes.{CameHome, Joins}
use Rattle.live_crew.specs.Crews.{ComesBack}

pub came_back : (s t given worked u v : Token) → Enters s (Split given.number) t → own given ≡ [] → ComesBack given worked → Joins u worked v → CameHome s t given worked u v
came_back s t given worked u v splits new back joins = record {
  splits = splits;
  new = new;
  number = back.number;
  joins = joins.enters;
  begins = joins.begins;
  did = joins.did;
  ended = joins.ended;
}
