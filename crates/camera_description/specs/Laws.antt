-- What is promised of the bytes that are written.
use Rattle.std.specs.Prelude.{◌≡◌, ℕ, List, length, Option, Some}
use Rattle.gev_links.specs.Links.{Address, Answer}
use Rattle.gev_control.specs.CarriesOut.{ControlSide}
use Rattle.camera_description.specs.declared.location.Location.{Location}
use Rattle.camera_description.specs.Describing.{HasCopied}

-- Over a link that tells its receives each piece is whole: so many bytes of the description were read, so many bytes
-- has their text. With Done it has all of them.
abbrev pub PiecesAreWhole : Type 0
PiecesAreWhole =
    (camera : Address) (location : Location) (o : ControlSide) (place : ℕ) (m : ControlSide) (text : List ℕ) (heard : List Answer)
    → HasCopied camera location o place m text → m.heard ≡ Some heard → length text ≡ place
