-- The last of some new links or clocks, if there is one, and those before it.
use Rattle.std.proofs.Common.{◌≡◌, ℕ, List, [], ◌∷◌, ◌++◌, Option, Some, refl, subst, sym, ◌∙◌, ◌≤◌, ap}
use Rattle.std.specs.Option.{option_to_list, option_map}
use Rattle.gev_links.specs.Links.{Answer, Address, IsBlank}
use Rattle.gev_links.specs.Moments.{ClockState, told_by}
use Rattle.gev_links.specs.PortsState.{IsNew, AreNew, AreUntold, IsHolding}

new_parts : {L : Type 0} (received : L → Option (List Answer)) (sent : L → Option (List (Address × List ℕ))) (faults : L → ℕ) (ls ms : List L)
    → AreNew received sent faults (ls ++ ms) → AreNew received sent faults ls × AreNew received sent faults ms
new_parts received sent faults [] ms are = (tt, are)
new_parts received sent faults (l ∷ ls) ms are = let more = new_parts received sent faults ls ms are.1 in ((are.0, more.0), more.1)

untold_parts : (cs ds : List ClockState) → AreUntold (cs ++ ds) → AreUntold cs × AreUntold ds
untold_parts [] ds are = (tt, are)
untold_parts (c ∷ cs) ds are = let more = untold_parts cs ds are.1 in ((are.0, more.0), more.1)

-- without the last link, and with an address more
pub gives_link : {L : Type 0} (received : L → Option (List Answer)) (sent : L → Option (List (Address × List ℕ))) (faults : L → ℕ)
    (links rest : List L) (o : Option L) (clocks : List ClockState) (a b k more : ℕ)
    → IsHolding received sent faults links clocks a b k → links ≡ rest ++ option_to_list o → 3 ≤ more → IsHolding received sent faults rest clocks a b more
gives_link received sent faults links rest o clocks a b k more held is room = record {
  new_links = (new_parts received sent faults rest (option_to_list o) (subst (AreNew received sent faults) is held.new_links)).0;
  new_clocks = held.new_clocks;
  room_for_links = held.room_for_links;
  room_for_clocks = held.room_for_clocks;
  room_for_bound = room;
}

-- and that link is new
pub given_link : {L : Type 0} (received : L → Option (List Answer)) (sent : L → Option (List (Address × List ℕ))) (faults : L → ℕ)
    (links rest : List L) (o : Option L) (l : L) (clocks : List ClockState) (a b k : ℕ)
    → IsHolding received sent faults links clocks a b k → links ≡ rest ++ option_to_list o → o ≡ Some l → IsNew (received l) (sent l) (faults l)
given_link received sent faults links rest o l clocks a b k held is some =
    (new_parts received sent faults rest (l ∷ [])
    (subst (AreNew received sent faults) (is ∙ ap (λ p. rest ++ option_to_list p) some) held.new_links)).1.0

-- without the last clock
pub gives_clock : {L : Type 0} (received : L → Option (List Answer)) (sent : L → Option (List (Address × List ℕ))) (faults : L → ℕ)
    (links : List L) (clocks rest : List ClockState) (o : Option ClockState) (a b k : ℕ)
    → IsHolding received sent faults links clocks a b k → clocks ≡ rest ++ option_to_list o → IsHolding received sent faults links rest a b k
gives_clock received sent faults links clocks rest o a b k held is = record {
  new_links = held.new_links;
  new_clocks = (untold_parts rest (option_to_list o) (subst AreUntold is held.new_clocks)).0;
  room_for_links = held.room_for_links;
  room_for_clocks = held.room_for_clocks;
  room_for_bound = held.room_for_bound;
}

blank_clock : (c : ClockState) → c.count ≡ Some 0 → IsBlank (option_map (told_by c.moments) c.count)
blank_clock c none = subst (λ n. IsBlank (option_map (told_by c.moments) n)) (sym none) refl

-- and that clock has told nothing
pub given_clock : {L : Type 0} (received : L → Option (List Answer)) (sent : L → Option (List (Address × List ℕ))) (faults : L → ℕ)
    (links : List L) (clocks rest : List ClockState) (o : Option ClockState) (c d : ClockState) (a b k : ℕ)
    → IsHolding received sent faults links clocks a b k → clocks ≡ rest ++ option_to_list o → o ≡ Some c → d ≡ c
    → IsBlank (option_map (told_by d.moments) d.count)
given_clock received sent faults links clocks rest o c d a b k held is some same =
    let are = untold_parts rest (c ∷ []) (subst AreUntold (is ∙ ap (λ p. rest ++ option_to_list p) some) held.new_clocks) in
    subst (λ (e : ClockState). IsBlank (option_map (told_by e.moments) e.count)) (sym same) (blank_clock c are.1.0)

-- nor has a new clock
pub blank_new : (c d : ClockState) → c.count ≡ Some 0 → d ≡ c → IsBlank (option_map (told_by d.moments) d.count)
blank_new c d none same = subst (λ (e : ClockState). IsBlank (option_map (told_by e.moments) e.count)) (sym same) (blank_clock c none)
