-- A simulated camera on the network, by the answer.
use Rattle.std.specs.Prelude.{◌≡◌, ℕ, false, List, Option}
use Rattle.camera_words.specs.declared.simulate_words.SimulateWords.{SimulateWords}
use Rattle.gev_links.specs.Links.{Address, Answer}
use Rattle.gev_status.specs.declared.status.Status.{Status}
use Rattle.gev_status.specs.declared.status.Status.TheVariants as status
use Rattle.camera_serving.specs.declared.ends.SimulateEnd.{SimulateEnd}
use Rattle.camera_serving.specs.declared.ends.SimulateEnd.TheVariants.{Done, LinkFault, WriteFault, NoMemory}
use Rattle.camera_serving.specs.Simulated.{Simulates}

abbrev pub simulate_status : SimulateEnd → Status
simulate_status Done = status.Done
simulate_status LinkFault = status.LinkFault
simulate_status WriteFault = status.WriteFault
simulate_status NoMemory = status.NoMemory

-- A camera was simulated as the words ask. Of standard input no read failed, and without a word that says so nothing
-- of it was taken.
pub record SimulatesSo {L C : Type 0} (heard : L → Option (List Answer)) (sent : L → Option (List (Address × List ℕ))) (faults : L → ℕ) (told : C → Option (List ℕ))
    (stands_at : Address → Address → Type 0) (w : SimulateWords) (answer : Status) (bound bound_after : Option (List Address)) (links links_after : Option (List L))
    (clocks clocks_after : Option (List C)) (left left_after : Option (List ℕ)) (reads reads_after : ℕ) (written written_after : Option (List ℕ)) : Type 0 where
  pub end : SimulateEnd
  pub answered : answer ≡ simulate_status end
  pub simulates : Simulates heard sent faults told stands_at w end bound bound_after links links_after clocks clocks_after left left_after written written_after
  pub unread : w.with_input ≡ false → left_after ≡ left
  pub reads_steady : reads_after ≡ reads
