-- What the calls that look for a description give, by what was read.
use Rattle.std.specs.Prelude.{◌≡◌, ◌⊎◌, ℕ, false, Option, Some, None, Result, Ok, Err}
use Rattle.gev_links.specs.Links.{Address}
use Rattle.gev_control.specs.CarriesOut.{ControlSide}
use Rattle.gev_control.specs.Sends.{Fails}
use Rattle.camera_description.specs.declared.describe_end.DescribeEnd.{DescribeEnd}
use Rattle.camera_description.specs.declared.describe_end.DescribeEnd.TheVariants.{NoDescription}
use Rattle.camera_description.specs.declared.location.Location.{Location}
use Rattle.camera_description.specs.Url.{URL_SIZE, SECOND_URL}
use Rattle.camera_description.specs.Describing.{FailsRead, TellsUrl, Locates, LocatesNone, is_fault}

abbrev pub GivesUrl : Address → ControlSide → ℕ → ControlSide → Result (Option Location) DescribeEnd → Type 0
GivesUrl camera o address n (Ok found) = TellsUrl camera o address n found
GivesUrl camera o address n (Err end) = FailsRead camera o address URL_SIZE n end

-- the second URL, where the first one tells nothing
abbrev pub GivesSecond : Address → ControlSide → ControlSide → Result Location DescribeEnd → Type 0
GivesSecond camera o n (Ok location) = TellsUrl camera o SECOND_URL n (Some location)
GivesSecond camera o n (Err end) = FailsRead camera o SECOND_URL URL_SIZE n end ⊎ (TellsUrl camera o SECOND_URL n None × (end ≡ NoDescription))

abbrev pub GivesLocation : Address → ControlSide → ControlSide → Result Location DescribeEnd → Type 0
GivesLocation camera o n (Ok location) = Locates camera o n location
GivesLocation camera o n (Err end) = LocatesNone camera o n end

-- the count of faults of the link, by how a call ended
abbrev pub FailsAs : {A : Type 0} → Result A DescribeEnd → ℕ → ℕ → Type 0
FailsAs (Ok given) old new = new ≡ old
FailsAs (Err end) old new = Fails false (is_fault end) old new
