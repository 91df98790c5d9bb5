-- One input of the receiver that runs over a tape.
use Rattle.std.proofs.Common.{◌≡◌, ℕ, ◌≤◌, true, false, List, [], ◌∷◌, ◌++◌, map, refl, sym, ap, subst, ◌∙◌, append_assoc}
use Rattle.std.specs.Prelude.{Option, Some, None, IsSome}
use Rattle.std.specs.List.{AllByRecursion}
use Rattle.std.proofs.lemmas.List.{append-nil}
use Rattle.gev_script.specs.Lines as line
use Rattle.gev_script.specs.Lines.{ScriptLine}
use Rattle.board_machine.specs.Places.{times}
use Rattle.acquisition_machine.specs.declared.config.AcqConfig.{AcqConfig}
use Rattle.acquisition_machine.specs.declared.retired.Retired.{Retired}
use Rattle.acquisition_machine.specs.Blocks.{Given, Retirement, fills}
use Rattle.acquisition_machine.specs.Machine.{Input, datagram, claimed, tick, stop, State, step}
use Rattle.acquisition_machine.specs.Runs.{After, turn}
use Rattle.acquisition_machine.specs.declared.need.Need.{Need}
use Rattle.acquisition_machine.specs.TurnLaws.{asked_by, held}
use Rattle.acq_core.proofs.Receiving.{receivers_show}
use Rattle.take_lines.specs.Players.{PlayerState, config_in, asked_in, outcome_of, places_of, places_back, Plays}
use Rattle.gev_record.specs.Script.{live_config, held_places, told_outcome, takes, stop_lines}
use Rattle.gev_record.proofs.Holding.{IsLive, Live, came_back, Settled, settled_datagram, settled_tick, reaches_on, HoldsMore, none_given, one_given}
use Rattle.gev_record.proofs.TurnLines.{take_each, takes_one}
use Rattle.gev_record.specs.declared.used.Used.{Used}
use Rattle.gev_record.specs.Places.{used_of, taken, all_freed}
use Rattle.gev_record.specs.Standing.{IsOwn, StandsAt, TakesInputs, IsFreeFor}
use Rattle.gev_record.specs.Writing.{text_of}
use Rattle.gev_record.proofs.InUse.{freed_all, taken_middle}
use Rattle.take_lines.proofs.Texts.{text_of-append}

-- ---- the two ways to say where buffers are

all_live : (gs : List Given) → AllByRecursion IsOwn gs → AllByRecursion IsLive gs
all_live [] all = tt
all_live (g ∷ gs) all = (record { low = all.0.low; sized = all.0.sized }, all_live gs all.1)

all_own : (gs : List Given) → AllByRecursion IsLive gs → AllByRecursion IsOwn gs
all_own [] all = tt
all_own (g ∷ gs) all = (record { low = all.0.low; sized = all.0.sized }, all_own gs all.1)

pub live_of : (player : PlayerState) (used : Used) (q : List Input) → StandsAt player used q → Live (After live_config q)
live_of player used q s = record { inputs = q; reached = refl; each = all_live (held (After live_config q).opens) s.each; once = s.once }

-- what comes back at this input
comes_back : (player player1 : PlayerState) (used : Used) (q : List Input) (i : Input) (back : List ℕ) → StandsAt player used q → Plays player player1 i back → back ≡ places_of (came_back (After live_config q) i)
comes_back player player1 used q i back s t =
    t.back_is q s.took
    ∙ (ap (λ (c : AcqConfig). places_back c q (i ∷ [])) s.config
    ∙ ap (λ (rs : List Retirement). places_of (fills live_config.p rs)) (append-nil (step live_config (After live_config q) i).retired))

-- ---- inputs that settle

pub settles : (player player1 : PlayerState) (used used1 : Used) (q : List Input) (i : Input) (back : List ℕ) → StandsAt player used q → Plays player player1 i back → Settled (After live_config q) i
    → used1 ≡ all_freed back used → StandsAt player1 used1 (q ++ i ∷ [])
settles player player1 used used1 q i back s t settled frees =
    let was : State = After live_config q in
    let new : State = (step live_config was i).after in
    let there : After live_config (q ++ i ∷ []) ≡ new = reaches_on q was i refl in
    let free : used1 ≡ used_of (held_places new) =
    frees
    ∙ (ap (λ (ps : List ℕ). all_freed ps used) (comes_back player player1 used q i back s t)
    ∙ (ap (all_freed (places_of (came_back was i))) (s.used_is ∙ ap used_of settled.places)
    ∙ freed_all (came_back was i) (held_places new) settled.back (λ k. subst (λ l. times k l ≤ 1) settled.places (s.once k)))) in
    record {
      took = t.took q s.took;
      config = t.config ∙ s.config;
      size = t.size ∙ s.size;
      used_is = free ∙ ap (λ (u : State). used_of (held_places u)) (sym there);
      each = subst (λ (u : State). AllByRecursion IsOwn (held u.opens)) (sym there) (all_own (held new.opens) settled.live.each);
      once = λ k. subst (λ (u : State). times k (held_places u) ≤ 1) (sym there) (settled.live.once k);
    }

-- a take for each place is one for each block
each_take : (xs : List Retired) → map (λ (i : ℕ). line.take) (places_of xs) ≡ take_each xs
each_take [] = refl
each_take (x ∷ xs) = ap (λ (ls : List ScriptLine). line.take ∷ ls) (each_take xs)

-- the takes that were told are those of the input
pub says_takes : (player player1 : PlayerState) (used : Used) (q : List Input) (i : Input) (back : List ℕ) (old new : List ℕ) → StandsAt player used q → Plays player player1 i back
    → new ≡ old ++ text_of (map (λ x. line.take) back) → new ≡ old ++ text_of (takes (After live_config q) (i ∷ []))
says_takes player player1 used q i back old new s t said =
    said
    ∙ ap (λ (ls : List ScriptLine). old ++ text_of ls)
    (ap (λ (ps : List ℕ). map (λ (i : ℕ). line.take) ps) (comes_back player player1 used q i back s t)
    ∙ (each_take (came_back (After live_config q) i) ∙ sym (takes_one (After live_config q) i)))

pub tells : (player player1 : PlayerState) (used used1 : Used) (bytes back : List ℕ) (old new : List ℕ) → Plays player player1 (datagram bytes) back
    → used1 ≡ all_freed back used → new ≡ old ++ text_of (map (λ x. line.take) back)
    → TakesInputs player player1 used used1 (λ q. datagram bytes ∷ []) (λ q. text_of (takes (After live_config q) (datagram bytes ∷ []))) old new
tells player player1 used used1 bytes back old new t frees said = record {
  stands = λ q s. settles player player1 used used1 q (datagram bytes) back s t (settled_datagram (After live_config q) bytes (live_of player used q s)) frees;
  said = λ q s. says_takes player player1 used q (datagram bytes) back old new s t said;
}

-- what the datagram's answer asks for
pub asks : (player : PlayerState) (used : Used) (q : List Input) (bytes : List ℕ) (need : Need) → StandsAt player used q → (turn (config_in player) q (datagram bytes)).need ≡ Some need
    → asked_by (step live_config (After live_config q) (datagram bytes)).need ≡ asked_by (Some need)
asks player used q bytes need s is =
    ap asked_by (sym (ap (λ (c : AcqConfig). (turn c q (datagram bytes)).need) s.config) ∙ is)

-- a line before its takes
pub line_first : (l : ScriptLine) (ls : List ScriptLine) (old mid new : List ℕ) → mid ≡ old ++ text_of (l ∷ []) → new ≡ mid ++ text_of ls → new ≡ old ++ text_of (l ∷ ls)
line_first l ls old mid new first rest =
    rest ∙ (ap (λ t. t ++ text_of ls) first ∙ (append_assoc old (text_of (l ∷ [])) (text_of ls) ∙ ap (λ t. old ++ t) (sym (text_of-append (l ∷ []) ls))))

pub ticks : (player player1 : PlayerState) (used used1 : Used) (moment : ℕ) (back : List ℕ) (old mid new : List ℕ) → Plays player player1 (tick moment) back
    → used1 ≡ all_freed back used → mid ≡ old ++ text_of (line.tick moment ∷ []) → new ≡ mid ++ text_of (map (λ x. line.take) back)
    → TakesInputs player player1 used used1 (λ q. tick moment ∷ []) (λ q. text_of (line.tick moment ∷ takes (After live_config q) (tick moment ∷ []))) old new
ticks player player1 used used1 moment back old mid new t frees first said = record {
  stands = λ q s. settles player player1 used used1 q (tick moment) back s t (settled_tick (After live_config q) moment (live_of player used q s)) frees;
  said = λ q s. line_first (line.tick moment) (takes (After live_config q) (tick moment ∷ [])) old mid new first
      (says_takes player player1 used q (tick moment) back mid new s t said);
}

pub stops : (player player1 : PlayerState) (used : Used) (back : List ℕ) (old mid new : List ℕ) (q : List Input) → StandsAt player used q → Plays player player1 stop back
    → mid ≡ old ++ text_of (line.stop 0 ∷ []) → new ≡ mid ++ text_of (map (λ x. line.take) back) → new ≡ old ++ text_of (stop_lines (After live_config q))
stops player player1 used back old mid new q s t first said =
    line_first (line.stop 0) (takes (After live_config q) (stop ∷ [])) old mid new first (says_takes player player1 used q stop back mid new s t said)

-- ---- the outcome of a claim

pub given_none : (player player1 : PlayerState) (used : Used) (place : ℕ) (q : List Input) → StandsAt player used q → Plays player player1 (claimed None) []
    → StandsAt player1 used (q ++ claimed (told_outcome false place) ∷ [])
given_none player player1 used place q s t =
    let was : State = After live_config q in
    let n = none_given was (live_of player used q s) in
    let new : State = (step live_config was (claimed None)).after in
    let there : After live_config (q ++ claimed None ∷ []) ≡ new = reaches_on q was (claimed None) refl in
    record {
      took = t.took q s.took;
      config = t.config ∙ s.config;
      size = t.size ∙ s.size;
      used_is = s.used_is ∙ (ap used_of (sym n.1) ∙ ap (λ (u : State). used_of (held_places u)) (sym there));
      each = subst (λ (u : State). AllByRecursion IsOwn (held u.opens)) (sym there) (all_own (held new.opens) n.0.each);
      once = λ k. subst (λ (u : State). times k (held_places u) ≤ 1) (sym there) (n.0.once k);
    }

asked_some : (v : Option ℕ) (s : State) → v ≡ s.asked → IsSome v → (b : ℕ) × (s.asked ≡ Some b)
asked_some None s e some = absurd cc
asked_some (Some b) s e some = (b, sym e)

pub given_one : (player player1 : PlayerState) (used used1 : Used) (place : ℕ) (q : List Input) → StandsAt player used q → IsFreeFor place q → IsSome (asked_in player)
    → Plays player player1 (claimed (outcome_of player.size (Some place))) [] → used1 ≡ taken place used → StandsAt player1 used1 (q ++ claimed (told_outcome true place) ∷ [])
given_one player player1 used used1 place q s free some t takes_it =
    let was : State = After live_config q in
    let shows : asked_in player ≡ was.asked = (receivers_show player.acq q s.took).asked ∙ ap (λ (c : AcqConfig). (After c q).asked) s.config in
    let asked = asked_some (asked_in player) was shows some in
    let told : claimed (outcome_of player.size (Some place)) ≡ claimed (told_outcome true place) =
    ap (λ (n : ℕ). claimed (Some (record { place = place; size = n }))) s.size in
    let t1 : Plays player player1 (claimed (told_outcome true place)) [] = subst (λ (i : Input). Plays player player1 i []) told t in
    let more : HoldsMore place was (step live_config was (claimed (told_outcome true place))).after = one_given place asked.0 was (live_of player used q s) free.low free.free asked.1 in
    let new : State = (step live_config was (claimed (told_outcome true place))).after in
    let there : After live_config (q ++ claimed (told_outcome true place) ∷ []) ≡ new = reaches_on q was (claimed (told_outcome true place)) refl in
    record {
      took = t1.took q s.took;
      config = t1.config ∙ s.config;
      size = t1.size ∙ s.size;
      used_is = takes_it
          ∙ (ap (taken place) (s.used_is ∙ ap used_of more.were)
          ∙ (taken_middle place more.front more.back free.low
          ∙ (ap used_of (sym more.are) ∙ ap (λ (u : State). used_of (held_places u)) (sym there))));
      each = subst (λ (u : State). AllByRecursion IsOwn (held u.opens)) (sym there) (all_own (held new.opens) more.live.each);
      once = λ k. subst (λ (u : State). times k (held_places u) ≤ 1) (sym there) (more.live.once k);
    }
