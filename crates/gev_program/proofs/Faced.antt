-- How the commands end that meet a camera on the network.
use Rattle.std.proofs.Common.{◌≡◌, ◌≢◌, ℕ, false, refl}
use Rattle.gev_links.specs.Faults.{Rose}
use Rattle.gev_control.specs.Sends.{Fails}
use Rattle.gev_status.specs.declared.status.Status.TheVariants as status
use Rattle.camera_search.specs.declared.search_end.SearchEnd.{SearchEnd}
use Rattle.camera_search.specs.declared.search_end.SearchEnd.TheVariants as search
use Rattle.camera_description.specs.declared.describe_end.DescribeEnd.{DescribeEnd}
use Rattle.camera_description.specs.declared.describe_end.DescribeEnd.TheVariants as describe
use Rattle.camera_description.specs.Describing.{is_fault}
use Rattle.gev_top.specs.Completeness.{NoneRose, EndsSearch, EndsDescription}
use Rattle.gev_program.specs.Cameras.{search_status, describe_status}

-- ---- a search

pub search_links : (end : SearchEnd) → search_status end ≡ status.LinkFault → end ≡ search.LinkFault
search_links search.Done is = let bad : ⊥ = cc in absurd bad
search_links search.LinkFault is = refl
search_links search.WriteFault is = let bad : ⊥ = cc in absurd bad
search_links search.NoMemory is = let bad : ⊥ = cc in absurd bad

pub search_says : (end : SearchEnd) (place : ℕ) → search_status end ≢ status.Usage place
search_says search.Done place = λ is. let bad : ⊥ = cc in bad
search_says search.LinkFault place = λ is. let bad : ⊥ = cc in bad
search_says search.WriteFault place = λ is. let bad : ⊥ = cc in bad
search_says search.NoMemory place = λ is. let bad : ⊥ = cc in bad

pub search_ends : (end : SearchEnd) (links links_after writes writes_after : ℕ) → (end ≡ search.LinkFault → Rose links links_after)
    → (end ≡ search.WriteFault → Rose writes writes_after) → NoneRose writes writes_after → NoneRose links links_after → EndsSearch (search_status end)
search_ends search.Done links links_after writes writes_after failed unwritten none_written none = tt
search_ends search.LinkFault links links_after writes writes_after failed unwritten none_written none = absurd (none (failed refl))
search_ends search.WriteFault links links_after writes writes_after failed unwritten none_written none = absurd (none_written (unwritten refl))
search_ends search.NoMemory links links_after writes writes_after failed unwritten none_written none = tt

-- ---- a description

pub describe_links : (end : DescribeEnd) (links links_after : ℕ) → Fails false (is_fault end) links links_after → describe_status end ≡ status.LinkFault → Rose links links_after
describe_links describe.Done links links_after fails is = let bad : ⊥ = cc in absurd bad
describe_links describe.NoDescription links links_after fails is = let bad : ⊥ = cc in absurd bad
describe_links describe.LinkFault links links_after fails is = fails
describe_links describe.WriteFault links links_after fails is = let bad : ⊥ = cc in absurd bad
describe_links (describe.NoAnswer req) links links_after fails is = let bad : ⊥ = cc in absurd bad
describe_links (describe.Refused code) links links_after fails is = let bad : ⊥ = cc in absurd bad

pub describe_steady : (end : DescribeEnd) (links links_after : ℕ) → Fails false (is_fault end) links links_after → describe_status end ≢ status.LinkFault
    → links_after ≡ links
describe_steady describe.Done links links_after fails other = fails
describe_steady describe.NoDescription links links_after fails other = fails
describe_steady describe.LinkFault links links_after fails other = absurd (other refl)
describe_steady describe.WriteFault links links_after fails other = fails
describe_steady (describe.NoAnswer req) links links_after fails other = fails
describe_steady (describe.Refused code) links links_after fails other = fails

pub describe_writes : (end : DescribeEnd) → describe_status end ≡ status.WriteFault → end ≡ describe.WriteFault
describe_writes describe.Done is = let bad : ⊥ = cc in absurd bad
describe_writes describe.NoDescription is = let bad : ⊥ = cc in absurd bad
describe_writes describe.LinkFault is = let bad : ⊥ = cc in absurd bad
describe_writes describe.WriteFault is = refl
describe_writes (describe.NoAnswer req) is = let bad : ⊥ = cc in absurd bad
describe_writes (describe.Refused code) is = let bad : ⊥ = cc in absurd bad

pub describe_says : (end : DescribeEnd) (place : ℕ) → describe_status end ≢ status.Usage place
describe_says describe.Done place = λ is. let bad : ⊥ = cc in bad
describe_says describe.NoDescription place = λ is. let bad : ⊥ = cc in bad
describe_says describe.LinkFault place = λ is. let bad : ⊥ = cc in bad
describe_says describe.WriteFault place = λ is. let bad : ⊥ = cc in bad
describe_says (describe.NoAnswer req) place = λ is. let bad : ⊥ = cc in bad
describe_says (describe.Refused code) place = λ is. let bad : ⊥ = cc in bad

pub describe_ends : (end : DescribeEnd) (links links_after writes writes_after : ℕ) → Fails false (is_fault end) links links_after
    → (end ≡ describe.WriteFault → Rose writes writes_after) → NoneRose writes writes_after → NoneRose links links_after
    → EndsDescription (describe_status end)
describe_ends describe.Done links links_after writes writes_after fails unwritten none_written none = tt
describe_ends describe.NoDescription links links_after writes writes_after fails unwritten none_written none = tt
describe_ends describe.LinkFault links links_after writes writes_after fails unwritten none_written none = absurd (none fails)
describe_ends describe.WriteFault links links_after writes writes_after fails unwritten none_written none = absurd (none_written (unwritten refl))
describe_ends (describe.NoAnswer req) links links_after writes writes_after fails unwritten none_written none = tt
describe_ends (describe.Refused code) links links_after writes writes_after fails unwritten none_written none = tt
