-- What a turn hears, and its moment, by the receiver that runs over a tape.
use Rattle.std.proofs.Common.{◌≡◌, ℕ, ◌+◌, ◌≤◌, Bool, List, [], ◌∷◌, ◌++◌, length, map, refl, sym, ap, subst, ◌∙◌, arith, append_assoc}
use Rattle.std.specs.Prelude.{Option, Some, None}
use Rattle.hex.specs.Hex.{encode_lower}
use Rattle.gev_script.specs.Lines as line
use Rattle.gev_script.specs.Lines.{ScriptLine}
use Rattle.board_machine.specs.Places.{times}
use Rattle.board_machine.proofs.Places.{times-append}
use Rattle.acquisition_machine.specs.declared.retired.Retired.{Retired}
use Rattle.acquisition_machine.specs.Machine.{Input, datagram, claimed, tick, State, step}
use Rattle.acquisition_machine.specs.Runs.{first_state, After, after_from}
use Rattle.acquisition_machine.specs.TurnLaws.{asked_by, given_of}
use Rattle.acquisition_machine.proofs.Joining.{after_from-append}
use Rattle.acquisition_machine.specs.declared.mark.Mark.{Mark}
use Rattle.acquisition_machine.specs.Turns.{Noted, with_byte}
use Rattle.take_lines.specs.Players.{PlayerState}
use Rattle.gev_record.specs.Script.{live_config, held_places, queued_place, told_outcome, told, heard, told_in, takes, queue_lines, heard_lines, turn_lines}
use Rattle.gev_record.proofs.Holding.{places_in, came_back, settled_datagram, reaches_on, is_free}
use Rattle.gev_record.proofs.TurnLines.{take_each, takes_one}
use Rattle.gev_record.proofs.ClaimLines.{given_state, takes_three}
use Rattle.gev_record.specs.declared.used.Used.{Used}
use Rattle.gev_record.specs.Places.{lowest_in}
use Rattle.gev_record.specs.Standing.{StandsAt, TakesInputs, IsFreeFor, queued_at, turn_of}
use Rattle.gev_record.specs.Writing.{text_of}
use Rattle.gev_record.proofs.Steps.{live_of, line_first}
use Rattle.take_lines.proofs.Texts.{text_of-append}

-- ---- text

text_joins : (xs ys : List ScriptLine) (old mid new : List ℕ) → mid ≡ old ++ text_of xs → new ≡ mid ++ text_of ys → new ≡ old ++ text_of (xs ++ ys)
text_joins xs ys old mid new first rest =
    rest ∙ (ap (λ t. t ++ text_of ys) first ∙ (append_assoc old (text_of xs) (text_of ys) ∙ ap (λ t. old ++ t) (sym (text_of-append xs ys))))

-- the place that was chosen is that of the script
place_is : (player : PlayerState) (used : Used) (q : List Input) (place : ℕ) → place ≡ lowest_in used → StandsAt player used q → place ≡ queued_place (After live_config q)
place_is player used q place chosen s = chosen ∙ ap lowest_in s.used_is

heard_text : (player : PlayerState) (used : Used) (q : List Input) (place : ℕ) (bytes : List ℕ) (m : Mark) (ls : List ScriptLine) (old t1 t2 new : List ℕ) → place ≡ lowest_in used → StandsAt player used q
    → t1 ≡ old ++ text_of (queued_at place m) → t2 ≡ t1 ++ text_of (line.datagram (encode_lower bytes) ∷ []) → new ≡ t2 ++ text_of ls
    → new ≡ old ++ text_of (queue_lines (After live_config q) m ++ line.datagram (encode_lower bytes) ∷ ls)
heard_text player used q place bytes m ls old t1 t2 new chosen s queued dl rest =
    text_joins (queue_lines (After live_config q) m) (line.datagram (encode_lower bytes) ∷ ls) old t1 new
    (queued ∙ ap (λ p. old ++ text_of (queued_at p m)) (place_is player used q place chosen s))
    (line_first (line.datagram (encode_lower bytes)) ls t1 t2 new dl rest)

abbrev Tells : PlayerState → PlayerState → Used → Used → List ℕ → List ℕ → List ℕ → Type 0
Tells player player1 used used1 bytes old new =
    TakesInputs player player1 used used1 (λ q. datagram bytes ∷ []) (λ q. text_of (takes (After live_config q) (datagram bytes ∷ []))) old new

abbrev pub Hears : PlayerState → PlayerState → Used → Used → List ℕ → Mark → List ℕ → List ℕ → Type 0
Hears player player1 used used1 bytes m old new =
    TakesInputs player player1 used used1 (λ q. heard (After live_config q) (Some bytes) m.claimed) (λ q. text_of (heard_lines (After live_config q) (Some bytes) m)) old new

abbrev Asks : PlayerState → Used → List ℕ → Option ℕ → Type 0
Asks player used bytes a = (q : List Input) → StandsAt player used q → asked_by (step live_config (After live_config q) (datagram bytes)).need ≡ a

-- ---- a datagram that asks for no buffer

pub hears_none : (player player1 : PlayerState) (used used1 : Used) (place : ℕ) (bytes : List ℕ) (m : Mark) (old t1 t2 new : List ℕ) → place ≡ lowest_in used
    → t1 ≡ old ++ text_of (queued_at place m) → t2 ≡ t1 ++ text_of (line.datagram (encode_lower bytes) ∷ []) → Tells player player1 used used1 bytes t2 new
    → Asks player used bytes None → Hears player player1 used used1 bytes m old new
hears_none player player1 used used1 place bytes m old t1 t2 new chosen queued dl tells asks = record {
  stands = λ q s. subst (λ a. StandsAt player1 used1 (q ++ told bytes m.claimed (queued_place (After live_config q)) a)) (sym (asks q s)) (tells.stands q s);
  said = λ q s. heard_text player used q place bytes m (takes (After live_config q) (heard (After live_config q) (Some bytes) m.claimed)) old t1 t2 new chosen s queued dl
      (tells.said q s ∙ ap (λ a. t2 ++ text_of (takes (After live_config q) (told bytes m.claimed (queued_place (After live_config q)) a))) (sym (asks q s)));
}

-- ---- one that asks

pub is_free_for : (player player1 : PlayerState) (used used1 : Used) (place : ℕ) (bytes : List ℕ) (q : List Input) → place ≡ lowest_in used → StandsAt player used q → IsFreeFor place (q ++ datagram bytes ∷ [])
is_free_for player player1 used used1 place bytes q chosen s =
    let was : State = After live_config q in
    let p : ℕ = queued_place was in
    let new : State = (step live_config was (datagram bytes)).after in
    let live = live_of player used q s in
    let free = is_free was live in
    let settled = settled_datagram was bytes live in
    let gone : List ℕ = places_in (map given_of (came_back was (datagram bytes))) in
    let split : times p (held_places was) ≡ times p gone + times p (held_places new) = ap (times p) settled.places ∙ times-append p gone (held_places new) in
    let none : times p (held_places was) ≡ 0 = free.free in
    let there : After live_config (q ++ datagram bytes ∷ []) ≡ new = reaches_on q was (datagram bytes) refl in
    let own : times p (held_places new) ≡ 0 = omega (arith, split, none) in
    subst (λ i. IsFreeFor i (q ++ datagram bytes ∷ [])) (sym (place_is player used q place chosen s))
    (record { low = free.low; free = subst (λ (u : State). times p (held_places u) ≡ 0) (sym there) own })

map-append : (xs ys : List Retired) → take_each (xs ++ ys) ≡ take_each xs ++ take_each ys
map-append [] ys = refl
map-append (x ∷ xs) ys = ap (λ l. line.take ∷ l) (map-append xs ys)

-- the takes of all three inputs
takes_both : (q : List Input) (bytes : List ℕ) (claim : Bool) (p : ℕ)
    → takes (After live_config q) (datagram bytes ∷ claimed (told_outcome claim p) ∷ datagram bytes ∷ [])
    ≡ takes (After live_config q) (datagram bytes ∷ []) ++ takes (After live_config ((q ++ datagram bytes ∷ []) ++ claimed (told_outcome claim p) ∷ [])) (datagram bytes ∷ [])
takes_both q bytes claim p =
    let s : State = After live_config q in
    let d : Input = datagram bytes in
    let o : Input = claimed (told_outcome claim p) in
    let mid : State = given_state s bytes claim p in
    let there : After live_config ((q ++ d ∷ []) ++ o ∷ []) ≡ mid =
    reaches_on (q ++ d ∷ []) (After live_config (q ++ d ∷ [])) o refl ∙ ap (λ u. (step live_config u o).after) (reaches_on q s d refl) in
    let xs : List Retired = came_back s d in
    let ys : List Retired = came_back mid d in
    takes_three s bytes claim p
    ∙ (map-append xs ys
    ∙ (ap (λ l. l ++ take_each ys) (sym (takes_one s d))
    ∙ ap (λ l. takes s (d ∷ []) ++ l) (sym (takes_one mid d) ∙ ap (λ u. takes u (d ∷ [])) (sym there))))

joins_three : (q : List Input) (a b d : Input) → ((q ++ a ∷ []) ++ b ∷ []) ++ d ∷ [] ≡ q ++ a ∷ b ∷ d ∷ []
joins_three q a b d = append_assoc (q ++ a ∷ []) (b ∷ []) (d ∷ []) ∙ append_assoc q (a ∷ []) (b ∷ d ∷ [])

pub hears_some : (player player1 player2 player3 : PlayerState) (used used1 used2 used3 : Used) (place b : ℕ) (bytes : List ℕ) (m : Mark) (old t1 t2 t3 new : List ℕ) → place ≡ lowest_in used
    → t1 ≡ old ++ text_of (queued_at place m) → t2 ≡ t1 ++ text_of (line.datagram (encode_lower bytes) ∷ []) → Tells player player1 used used1 bytes t2 t3
    → Asks player used bytes (Some b)
    → ((q : List Input) → StandsAt player1 used1 q → IsFreeFor place q → StandsAt player2 used2 (q ++ claimed (told_outcome m.claimed place) ∷ []))
    → Tells player2 player3 used2 used3 bytes t3 new
    → Hears player player3 used used3 bytes m old new
hears_some player player1 player2 player3 used used1 used2 used3 place b bytes m old t1 t2 t3 new chosen queued dl tells asks claims again = record {
  stands = λ q s. subst (λ a. StandsAt player3 used3 (q ++ told bytes m.claimed (queued_place (After live_config q)) a)) (sym (asks q s))
      (subst (λ p. StandsAt player3 used3 (q ++ datagram bytes ∷ claimed (told_outcome m.claimed p) ∷ datagram bytes ∷ [])) (place_is player used q place chosen s)
      (subst (λ l. StandsAt player3 used3 l) (joins_three q (datagram bytes) (claimed (told_outcome m.claimed place)) (datagram bytes))
      (again.stands ((q ++ datagram bytes ∷ []) ++ claimed (told_outcome m.claimed place) ∷ []) (given q s))));
  said = λ q s. heard_text player used q place bytes m (takes (After live_config q) (heard (After live_config q) (Some bytes) m.claimed)) old t1 t2 new chosen s queued dl
      (text_joins (takes (After live_config q) (datagram bytes ∷ []))
      (takes (After live_config ((q ++ datagram bytes ∷ []) ++ claimed (told_outcome m.claimed place) ∷ [])) (datagram bytes ∷ [])) t2 t3 new
      (tells.said q s) (again.said ((q ++ datagram bytes ∷ []) ++ claimed (told_outcome m.claimed place) ∷ []) (given q s))
      ∙ (ap (λ l. t2 ++ text_of l) (sym (takes_both q bytes m.claimed place))
      ∙ (ap (λ p. t2 ++ text_of (takes (After live_config q) (datagram bytes ∷ claimed (told_outcome m.claimed p) ∷ datagram bytes ∷ []))) (place_is player used q place chosen s)
      ∙ ap (λ a. t2 ++ text_of (takes (After live_config q) (told bytes m.claimed (queued_place (After live_config q)) a))) (sym (asks q s)))));
}
  where
    given : (q : List Input) → StandsAt player used q → StandsAt player2 used2 ((q ++ datagram bytes ∷ []) ++ claimed (told_outcome m.claimed place) ∷ [])
    given q s = claims (q ++ datagram bytes ∷ []) (tells.stands q s) (is_free_for player player1 used used1 place bytes q chosen s)

-- ---- the moment

abbrev pub Ticks : PlayerState → PlayerState → Used → Used → ℕ → List ℕ → List ℕ → Type 0
Ticks player player1 used used1 moment old new =
    TakesInputs player player1 used used1 (λ q. tick moment ∷ []) (λ q. text_of (line.tick moment ∷ takes (After live_config q) (tick moment ∷ []))) old new

abbrev pub Turns : PlayerState → PlayerState → Used → Used → Noted → List ℕ → List ℕ → Type 0
Turns player player1 used used1 n old new =
    TakesInputs player player1 used used1 (λ q. told_in (After live_config q) n) (λ q. text_of (turn_lines (After live_config q) n)) old new

with_some : (bytes : List ℕ) → 1 ≤ length bytes → with_byte (Some bytes) ≡ Some bytes
with_some [] some = absurd (omega arith)
with_some (b ∷ bytes) some = refl

pub turns_silent : (player player1 : PlayerState) (used used1 : Used) (received : Option (List ℕ)) (m : Mark) (old new : List ℕ) → with_byte received ≡ None → Ticks player player1 used used1 m.moment old new
    → Turns player player1 used used1 (turn_of received m) old new
turns_silent player player1 used used1 received m old new none ticks =
    subst (λ (r : Option (List ℕ)). Turns player player1 used used1 (record { received = r; mark = m }) old new) (sym none) (record { stands = ticks.stands; said = ticks.said })

empty_silent : (bytes : List ℕ) → length bytes ≡ 0 → with_byte (Some bytes) ≡ None
empty_silent [] e = refl
empty_silent (b ∷ bytes) e = absurd (omega (arith, e))

pub turns_empty : (player player1 : PlayerState) (used used1 : Used) (bytes : List ℕ) (m : Mark) (old new : List ℕ) → length bytes ≡ 0 → Ticks player player1 used used1 m.moment old new
    → Turns player player1 used used1 (turn_of (Some bytes) m) old new
turns_empty player player1 used used1 bytes m old new e ticks = turns_silent player player1 used used1 (Some bytes) m old new (empty_silent bytes e) ticks

pub turns_heard : (player player1 player2 : PlayerState) (used used1 used2 : Used) (bytes : List ℕ) (m : Mark) (old mid new : List ℕ) → 1 ≤ length bytes
    → Hears player player1 used used1 bytes m old mid → Ticks player1 player2 used1 used2 m.moment mid new → Turns player player2 used used2 (turn_of (Some bytes) m) old new
turns_heard player player1 player2 used used1 used2 bytes m old mid new some hears ticks =
    subst (λ (r : Option (List ℕ)). Turns player player2 used used2 (record { received = r; mark = m }) old new) (sym (with_some bytes some)) (record {
      stands = λ q s. subst (λ l. StandsAt player2 used2 l) (append_assoc q (heard (After live_config q) (Some bytes) m.claimed) (tick m.moment ∷ []))
          (ticks.stands (q ++ heard (After live_config q) (Some bytes) m.claimed) (hears.stands q s));
      said = λ q s. text_joins (heard_lines (After live_config q) (Some bytes) m)
          (line.tick m.moment ∷ takes (after_from live_config (After live_config q) (heard (After live_config q) (Some bytes) m.claimed)) (tick m.moment ∷ [])) old mid new
          (hears.said q s)
          (ticks.said (q ++ heard (After live_config q) (Some bytes) m.claimed) (hears.stands q s)
          ∙ ap (λ u. mid ++ text_of (line.tick m.moment ∷ takes u (tick m.moment ∷ [])))
          (after_from-append live_config first_state q (heard (After live_config q) (Some bytes) m.claimed)));
    })
