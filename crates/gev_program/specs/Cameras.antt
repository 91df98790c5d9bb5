-- What the commands do that meet a camera on the network: by the answer, and by what the ports' link told.
use Rattle.std.specs.Prelude.{◌≡◌, ℕ, List, Option, Ok, Err}
use Rattle.gev_links.specs.Links.{Address, Answer}
use Rattle.gev_status.specs.declared.status.Status.{Status}
use Rattle.gev_status.specs.declared.status.Status.TheVariants as status
use Rattle.camera_search.specs.declared.search_end.SearchEnd.{SearchEnd}
use Rattle.camera_search.specs.declared.search_end.SearchEnd.TheVariants as search
use Rattle.camera_search.specs.Searched.{Discovers}
use Rattle.camera_description.specs.declared.describe_end.DescribeEnd.{DescribeEnd}
use Rattle.camera_description.specs.declared.describe_end.DescribeEnd.TheVariants as describe
use Rattle.camera_description.specs.Describing.{Fetches}
use Rattle.camera_words.specs.declared.access.RegisterWords.{RegisterWords}
use Rattle.camera_registers.specs.declared.register_fault.RegisterFault.TheVariants as fault
use Rattle.camera_registers.specs.Registers.{Outcome, Registers}

abbrev pub search_status : SearchEnd → Status
search_status search.Done = status.Done
search_status search.LinkFault = status.LinkFault
search_status search.WriteFault = status.WriteFault
search_status search.NoMemory = status.NoMemory

abbrev pub describe_status : DescribeEnd → Status
describe_status describe.Done = status.Done
describe_status describe.NoDescription = status.NoDescription
describe_status describe.LinkFault = status.LinkFault
describe_status describe.WriteFault = status.WriteFault
describe_status (describe.NoAnswer req) = status.NoAnswer req
describe_status (describe.Refused code) = status.Refused code

abbrev pub register_status : Outcome → Status
register_status (Ok done) = status.Done
register_status (Err fault.LinkFault) = status.LinkFault
register_status (Err fault.WriteFault) = status.WriteFault
register_status (Err (fault.NoAnswer req)) = status.NoAnswer req
register_status (Err (fault.RefusedAt register code)) = status.RefusedAt register code
register_status (Err fault.Controlled) = status.Controlled

-- Cameras were looked for at this address.
abbrev pub DiscoversOver : {L C : Type 0} → (L → Option (List Answer)) → (L → Option (List (Address × List ℕ))) → (C → Option (List ℕ)) → ℕ → Status
    → Option (List L) → Option (List L) → Option (List C) → Option (List C) → Option (List ℕ) → Option (List ℕ) → Type 0
DiscoversOver heard sent told address answer links links_after clocks clocks_after written written_after =
    (end : SearchEnd) × (answer ≡ search_status end)
    × Discovers heard sent told address end links links_after clocks clocks_after written written_after

-- The description of the camera at this address was fetched.
abbrev pub DescribesOver : {L C : Type 0} → (L → Option (List Answer)) → (L → Option (List (Address × List ℕ))) → (C → Option (List ℕ)) → ℕ → Status
    → Option (List L) → Option (List L) → Option (List C) → Option (List C) → Option (List ℕ) → Option (List ℕ) → Type 0
DescribesOver heard sent told address answer links links_after clocks clocks_after written written_after =
    (end : DescribeEnd) × (answer ≡ describe_status end)
    × Fetches heard sent told address end links links_after clocks clocks_after written written_after

-- The registers of a camera were read and written as the words ask.
abbrev pub RegistersOver : {L C : Type 0} → (L → Option (List Answer)) → (L → Option (List (Address × List ℕ))) → (C → Option (List ℕ)) → RegisterWords → Status
    → Option (List L) → Option (List L) → Option (List C) → Option (List C) → Option (List ℕ) → Option (List ℕ) → Type 0
RegistersOver heard sent told asked answer links links_after clocks clocks_after written written_after =
    (end : Outcome) × (answer ≡ register_status end)
    × Registers heard sent told asked.camera asked.accesses.items end links links_after clocks clocks_after written written_after
