-- A description that is fetched: the URLs, and then its bytes by their addresses.
use Rattle.std.specs.Prelude.{◌≡◌, ⊤, ℕ, ◌+◌, ◌-◌, ◌<◌, ◌≤◌, min, Bool, true, false, List, [], ◌++◌, Option, Some, None, option_map}
use Rattle.gev_links.specs.Links.{Address, Answer, IsBlank}
use Rattle.gev_links.specs.Told.{Appends, WritesPart}
use Rattle.gev_links.specs.Given.{ToldOfThree}
use Rattle.client_machine.specs.Machine.{Client, new_client}
use Rattle.link_filters.specs.Strangers.{all_from}
use Rattle.gev_control.specs.declared.acq_end.AcqEnd.{AcqEnd}
use Rattle.gev_control.specs.declared.acq_end.AcqEnd.TheVariants as how
use Rattle.gev_control.specs.CarriesOut.{ControlSide}
use Rattle.camera_description.specs.declared.describe_end.DescribeEnd.{DescribeEnd}
use Rattle.camera_description.specs.declared.describe_end.DescribeEnd.TheVariants.{Done, NoDescription, LinkFault, WriteFault, NoAnswer, Refused}
use Rattle.camera_description.specs.declared.location.Location.{Location}
use Rattle.camera_description.specs.Url.{URL_SIZE, FIRST_URL, SECOND_URL, location_in}
use Rattle.camera_description.specs.Memory.{PIECE_SIZE, asked_count, memory_in, Reads, HasRead}

-- the end that the end of a read is, if it is one
abbrev pub end_by : AcqEnd → Option DescribeEnd
end_by how.Stopped = None
end_by how.Spent = Some LinkFault
end_by how.Fault = Some LinkFault
end_by (how.NoAnswer req) = Some (NoAnswer req)
end_by (how.Refused status) = Some (Refused status)

-- A read failed, and so all ended.
pub record FailsRead (camera : Address) (o : ControlSide) (address count : ℕ) (n : ControlSide) (end : DescribeEnd) : Type 0 where
  pub how : AcqEnd
  pub reads : Reads camera o address count n how
  pub ended : end_by how ≡ Some end

-- ---- the URLs

-- The register of a URL was read, and it tells this.
pub record TellsUrl (camera : Address) (o : ControlSide) (address : ℕ) (n : ControlSide) (found : Option Location) : Type 0 where
  pub reads : HasRead camera o address URL_SIZE n
  pub is : location_in (memory_in URL_SIZE n.client.body) ≡ found

-- The first URL tells where the description lies, or else the second one.
pub data Locates (camera : Address) (o n : ControlSide) (location : Location) : Type 0 where
  first : TellsUrl camera o FIRST_URL n (Some location) → Locates camera o n location
  second : (m : ControlSide) → TellsUrl camera o FIRST_URL m None → TellsUrl camera m SECOND_URL n (Some location) → Locates camera o n location

-- Neither does, or a read failed.
pub data LocatesNone (camera : Address) (o n : ControlSide) (end : DescribeEnd) : Type 0 where
  first_fails : FailsRead camera o FIRST_URL URL_SIZE n end → LocatesNone camera o n end
  second_fails : (m : ControlSide) → TellsUrl camera o FIRST_URL m None → FailsRead camera m SECOND_URL URL_SIZE n end → LocatesNone camera o n end
  elsewhere : (m : ControlSide) → TellsUrl camera o FIRST_URL m None → TellsUrl camera m SECOND_URL n None → end ≡ NoDescription → LocatesNone camera o n end

-- ---- the bytes

-- So many bytes of the description were read, in the order of their addresses, and this is their text: the last piece
-- goes to the description's end.
pub data HasCopied (camera : Address) (location : Location) (o : ControlSide) : ℕ → ControlSide → List ℕ → Type 0 where
  nothing_yet : HasCopied camera location o 0 o []
  one_more : (place : ℕ) (m n : ControlSide) (text : List ℕ) → HasCopied camera location o place m text → place < location.size
      → HasRead camera m (location.address + place) (asked_count (location.size - place)) n
      → HasCopied camera location o (place + min (location.size - place) PIECE_SIZE) n
      (text ++ memory_in (min (location.size - place) PIECE_SIZE) n.client.body)

-- How it ended behind so many bytes.
pub data CopyEnds (camera : Address) (location : Location) (place : ℕ) (m n : ControlSide) (text : List ℕ) (end : DescribeEnd)
    (written written_after : Option (List ℕ)) : Type 0 where
  whole : end ≡ Done → place ≡ location.size → n ≡ m → Appends written written_after text
      → CopyEnds camera location place m n text end written written_after
  unread : FailsRead camera m (location.address + place) (asked_count (location.size - place)) n end → place < location.size
      → Appends written written_after text → CopyEnds camera location place m n text end written written_after
  unwritten : end ≡ WriteFault → n ≡ m → WritesPart written written_after text
      → CopyEnds camera location place m n text end written written_after

pub record Copies (camera : Address) (location : Location) (o n : ControlSide) (end : DescribeEnd) (written written_after : Option (List ℕ)) : Type 0 where
  pub place : ℕ
  pub m : ControlSide
  pub text : List ℕ
  pub so : HasCopied camera location o place m text
  pub ended : CopyEnds camera location place m n text end written written_after

-- ---- the whole

-- The description was fetched, or it wasn't found and nothing was written.
pub data Describes (camera : Address) (o n : ControlSide) (end : DescribeEnd) (written written_after : Option (List ℕ)) : Type 0 where
  found : (m : ControlSide) (location : Location) → Locates camera o m location → Copies camera location m n end written written_after
      → Describes camera o n end written written_after
  not_found : LocatesNone camera o n end → written_after ≡ written → Describes camera o n end written written_after

abbrev pub is_fault : DescribeEnd → Bool
is_fault Done = false
is_fault NoDescription = false
is_fault LinkFault = true
is_fault WriteFault = false
is_fault (NoAnswer req) = false
is_fault (Refused status) = false

-- ---- over ports

-- how many milliseconds after a send the next one comes: a camera is slower than the simulated one
abbrev pub SEND_LIMIT : ℕ
SEND_LIMIT = 500

abbrev pub control_peer : ℕ → Address
control_peer address = record { address = address; port = 3956 }

-- A link that was bound for it, a clock of its own and a client to which nothing was submitted, as they were before.
pub record IsNewSide (o : ControlSide) : Type 0 where
  pub heard : IsBlank o.heard
  pub sent : IsBlank o.sent
  pub told : IsBlank o.told
  pub client : o.client ≡ new_client SEND_LIMIT

-- The ports bound a link towards the camera, over which its description was fetched by what came from its address,
-- and got it back with the clock; or they bound none.
pub data Fetches {L C : Type 0} (heard : L → Option (List Answer)) (sent : L → Option (List (Address × List ℕ))) (told : C → Option (List ℕ))
    (address : ℕ) (end : DescribeEnd) (links links_after : Option (List L)) (clocks clocks_after : Option (List C))
    (written written_after : Option (List ℕ)) : Type 0 where
  unbound : end ≡ LinkFault → links_after ≡ links → clocks_after ≡ clocks → written_after ≡ written
      → Fetches heard sent told address end links links_after clocks clocks_after written written_after
  described : (link : L) (clock : C) → ToldOfThree links links_after link → ToldOfThree clocks clocks_after clock
      → (o : ControlSide) (client : Client) → IsNewSide o
      → Describes (control_peer address) o
      (record { heard = option_map (all_from address) (heard link); sent = sent link; told = told clock; client = client }) end written written_after
      → Fetches heard sent told address end links links_after clocks clocks_after written written_after
