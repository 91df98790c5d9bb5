-- A search, by what its link, its clock and its sink told.
use Rattle.std.specs.Prelude.{◌≡◌, ◌≢◌, ⊤, ℕ, ◌≤◌, Bool, true, false, List, [], ◌∷◌, ◌++◌, map, Option, Some, None}
use Rattle.std.specs.List.{list_any}
use Rattle.gev_links.specs.Links.{Address, Answer, failed, Adds, IsBlank}
use Rattle.gev_links.specs.Moments.{TellsEach}
use Rattle.gev_links.specs.Told.{Appends, WritesFront, WritesPart}
use Rattle.gev_links.specs.Given.{ToldOfThree}
use Rattle.camera_search.specs.declared.discovery_ack.DiscoveryAck.{DiscoveryAck}
use Rattle.camera_search.specs.declared.search_end.SearchEnd.{SearchEnd}
use Rattle.camera_search.specs.declared.search_end.SearchEnd.TheVariants.{Done, LinkFault, WriteFault, NoMemory}
use Rattle.camera_search.specs.Asking.{asked, is_over, is_second, was_second, sends_in, control_peer}
use Rattle.camera_search.specs.Found.{cameras_in, lines_of, text_of}

-- what is told of the outside
pub record SearchSide : Type 0 where
  pub heard : Option (List Answer)
  pub sent : Option (List (Address × List ℕ))
  pub told : Option (List ℕ)
  pub written : Option (List ℕ)

-- a turn in which a receive was made
pub record Turned : Type 0 where
  pub moment : ℕ
  pub heard : Answer

abbrev pub turned : ℕ → Answer → Turned
turned moment heard = record { moment = moment; heard = heard }

abbrev pub moments_of : List Turned → List ℕ
moments_of turns = map (λ (t : Turned). t.moment) turns

abbrev pub answers_of : List Turned → List Answer
answers_of turns = map (λ (t : Turned). t.heard) turns

-- the moment of a turn that made no receive, if there was one
abbrev pub listed : Option ℕ → List ℕ
listed None = []
listed (Some moment) = moment ∷ []

-- ---- how it ended

-- A call of the link failed: the first send, the second one, or a receive.
pub data LinkFails (begun : ℕ) (turns : List Turned) (rest : Option ℕ) (sends : ℕ) : Type 0 where
  first_send : turns ≡ [] → rest ≡ None → sends ≡ 0 → LinkFails begun turns rest sends
  second_send : (moment : ℕ) → rest ≡ Some moment → is_over begun moment ≡ false → is_second begun moment ≡ true
      → was_second begun (moments_of turns) ≡ false → sends ≡ 1 → LinkFails begun turns rest sends
  receive : (before : List Turned) (moment : ℕ) → turns ≡ before ++ turned moment failed ∷ [] → rest ≡ None
      → sends ≡ sends_in begun (moments_of turns) → LinkFails begun turns rest sends

-- the first turn at which the time was over
pub record IsOver (begun : ℕ) (turns : List Turned) (rest : Option ℕ) (sends : ℕ) : Type 0 where
  pub moment : ℕ
  pub last : rest ≡ Some moment
  pub over : is_over begun moment ≡ true
  pub asked : sends ≡ sends_in begun (moments_of turns)

abbrev pub EndsSo : SearchEnd → ℕ → List Turned → Option ℕ → ℕ → Type 0
EndsSo Done begun turns rest sends = IsOver begun turns rest sends
EndsSo LinkFault begun turns rest sends = LinkFails begun turns rest sends
EndsSo WriteFault begun turns rest sends = sends ≡ sends_in begun (moments_of turns)
EndsSo NoMemory begun turns rest sends = sends ≤ sends_in begun (moments_of turns)

-- What was written with this end, where these are the cameras that answered: a line for each of them, and with Done
-- the last line too; where the sink failed or memory was wanting a front of that.
abbrev pub WroteSo : SearchEnd → List DiscoveryAck → Option (List ℕ) → Option (List ℕ) → Type 0
WroteSo Done cameras written written_after = Appends written written_after (text_of cameras)
WroteSo LinkFault cameras written written_after = Appends written written_after (lines_of cameras)
WroteSo WriteFault cameras written written_after = WritesPart written written_after (text_of cameras)
WroteSo NoMemory cameras written written_after = WritesFront written written_after (text_of cameras)

-- ---- the whole

-- The search began at this moment and made these turns, none of them when its time was over, and ended so: its lines
-- are those of the cameras that answered in them.
pub record Searches (to : Address) (o n : SearchSide) (end : SearchEnd) : Type 0 where
  pub begun : ℕ
  pub turns : List Turned
  pub rest : Option ℕ
  pub sends : ℕ
  pub on : list_any (is_over begun) (moments_of turns) ≡ false
  pub heard : TellsEach o.heard n.heard (answers_of turns)
  pub told : TellsEach o.told n.told (begun ∷ (moments_of turns ++ listed rest))
  pub sent : Adds o.sent n.sent (asked to sends)
  pub ended : EndsSo end begun turns rest sends
  pub wrote : WroteSo end (cameras_in (answers_of turns)) o.written n.written

-- while it goes on
pub record Searching (to : Address) (o n : SearchSide) (begun : ℕ) (turns : List Turned) (again : Bool) (found : List DiscoveryAck) : Type 0 where
  pub on : list_any (is_over begun) (moments_of turns) ≡ false
  pub heard : TellsEach o.heard n.heard (answers_of turns)
  pub told : TellsEach o.told n.told (begun ∷ moments_of turns)
  pub sent : Adds o.sent n.sent (asked to (sends_in begun (moments_of turns)))
  pub again_is : again ≡ was_second begun (moments_of turns)
  pub found_are : found ≡ cameras_in (answers_of turns)
  pub wrote : Appends o.written n.written (lines_of found)

-- ---- over ports

-- a link that was bound for the search, and a clock of its own, as they were before
pub record IsBlankSide (o : SearchSide) : Type 0 where
  pub heard : IsBlank o.heard
  pub sent : IsBlank o.sent
  pub told : IsBlank o.told

-- The ports bound a link for broadcasts, over which cameras were looked for at this address, and got it back with the
-- clock; or they bound none.
pub data Discovers {L C : Type 0} (heard : L → Option (List Answer)) (sent : L → Option (List (Address × List ℕ))) (told : C → Option (List ℕ))
    (address : ℕ) (end : SearchEnd) (links links_after : Option (List L)) (clocks clocks_after : Option (List C))
    (written written_after : Option (List ℕ)) : Type 0 where
  unbound : end ≡ LinkFault → links_after ≡ links → clocks_after ≡ clocks → written_after ≡ written
      → Discovers heard sent told address end links links_after clocks clocks_after written written_after
  searched : (link : L) (clock : C) → ToldOfThree links links_after link → ToldOfThree clocks clocks_after clock
      → (o : SearchSide) → IsBlankSide o → o.written ≡ written
      → Searches (control_peer address) o (record { heard = heard link; sent = sent link; told = told clock; written = written_after }) end
      → Discovers heard sent told address end links links_after clocks clocks_after written written_after
