-- An actor that serves a receiver's inputs and has no claim takes nothing: it has no buffer to fill.
use Rattle.std.proofs.Common.{◌≡◌, ℕ, ◌≤◌, ◌==◌, ◌&&◌, ◌||◌, Bool, true, false, List, [], ◌∷◌, ◌++◌, map, Option, Some, None, refl, sym, ap, subst, ◌∙◌}
use Rattle.std.proofs.lemmas.Bool.{cond_both}
use Rattle.board_machine.specs.declared.events.Entry.{Entry}
use Rattle.board_machine.specs.declared.events.Event.{Event}
use Rattle.board_machine.specs.declared.events.Event.TheVariants.{LookRun, Stop}
use Rattle.board_machine.specs.Histories.{own_of}
use Rattle.board_machine.specs.Adding.{entries_of}
use Rattle.board_machine.specs.Kinds.{HasNone, is_taken}
use Rattle.acquisition_machine.specs.declared.config.AcqConfig.{AcqConfig}
use Rattle.acquisition_machine.specs.declared.retired.Retired.{Retired}
use Rattle.acquisition_machine.specs.Blocks.{Given, fills}
use Rattle.acquisition_machine.specs.Machine.{Input, datagram, claimed, tick, stop, restart, State, step}
use Rattle.acquisition_machine.specs.Runs.{first_state, after_from, After}
use Rattle.acquisition_machine.specs.Sound.{IsSound}
use Rattle.acquisition_machine.specs.TurnLaws.{held, given_of, GivesBack, KeepsBuffers}
use Rattle.acquisition_machine.proofs.Buffers.{keeps_buffers}
use Rattle.acquisition_machine.proofs.Joining.{after_from-append}
use Rattle.acquisition_machine.proofs.Window.{step_sound, blocks_are_in_order}
use Rattle.board_calls.specs.declared.mode.Mode.{Mode}
use Rattle.board_calls.specs.declared.mode.Mode.TheVariants.{OldestFirst, OldestFirstOverwrite, NewestOnly}
use Rattle.board_calls.specs.Modes.{ClaimsOnly, ClaimsOrTakes, ClaimsFor}
use Rattle.gev_control.specs.declared.acq_end.AcqEnd.{AcqEnd}
use Rattle.gev_control.specs.declared.acq_end.AcqEnd.TheVariants as how
use Rattle.gev_acq.specs.Serving.{ClaimsOf, Serves}
use Rattle.gev_acq.specs.Filling.{FillsRetiredFor}
use Rattle.gev_acq.specs.Turns.{Turned, inputs_of}
use Rattle.gev_acq.specs.Acquired.{inputs_in, ServesTurns}
use Rattle.gev_acq.specs.Reads.{LastLook}
use Rattle.gev_acq.specs.History.{LiveReading}
use Rattle.gev_live.specs.Acquirers.{is_claim, acquires}

-- ---- events without a claim

-- no event is of the kind
abbrev pub Lacks : (Event → Bool) → List Event → Type 0
Lacks kind [] = Unit {0}
Lacks kind (e ∷ es) = (kind e ≡ false) × Lacks kind es

pub lacks_front : (kind : Event → Bool) (es fs : List Event) → Lacks kind (es ++ fs) → Lacks kind es
lacks_front kind [] fs none = tt
lacks_front kind (e ∷ es) fs none = (none.0, lacks_front kind es fs none.1)

pub lacks_rest : (kind : Event → Bool) (es fs : List Event) → Lacks kind (es ++ fs) → Lacks kind fs
lacks_rest kind [] fs none = none
lacks_rest kind (e ∷ es) fs none = lacks_rest kind es fs none.1

pub lacks_both : (kind : Event → Bool) (es fs : List Event) → Lacks kind es → Lacks kind fs → Lacks kind (es ++ fs)
lacks_both kind [] fs first second = second
lacks_both kind (e ∷ es) fs first second = (first.0, lacks_both kind es fs first.1 second)

pub lacks_as : (kind : Event → Bool) (es fs : List Event) → es ≡ fs → Lacks kind fs → Lacks kind es
lacks_as kind es fs is none = subst (Lacks kind) (sym is) none

pub lacks_entries : (kind : Event → Bool) (n : ℕ) (es : List Event) → HasNone kind (entries_of n es) → Lacks kind es
lacks_entries kind n [] none = tt
lacks_entries kind n (e ∷ es) none = (none.0, lacks_entries kind n es none.1)

pub entries_lack : (kind : Event → Bool) (n : ℕ) (es : List Event) → Lacks kind es → HasNone kind (entries_of n es)
entries_lack kind n [] none = tt
entries_lack kind n (e ∷ es) none = (none.0, entries_lack kind n es none.1)

-- ---- a claim's events begin with a claim

claim_alone : (answer : Option (ℕ × Bool)) (es : List Event) → ClaimsOnly answer es → Lacks is_claim es → ⊥
claim_alone None es claims none = let bad : true ≡ false = (subst (Lacks is_claim) claims none).0 in cc
claim_alone (Some (i, false)) es claims none = let bad : true ≡ false = (subst (Lacks is_claim) claims none).0 in cc
claim_alone (Some (i, true)) es claims none = claims

claim_or_take : (answer : Option (ℕ × Bool)) (es : List Event) → ClaimsOrTakes answer es → Lacks is_claim es → ⊥
claim_or_take None es claims none = let bad : true ≡ false = (subst (Lacks is_claim) claims.2 none).0 in cc
claim_or_take (Some (i, false)) es claims none = let bad : true ≡ false = (subst (Lacks is_claim) claims none).0 in cc
claim_or_take (Some (i, true)) es claims none = let bad : true ≡ false = (subst (Lacks is_claim) claims none).0 in cc

claims_claim : (mode : Mode) (answer : Option (ℕ × Bool)) (es : List Event) → ClaimsFor mode answer es → Lacks is_claim es → ⊥
claims_claim OldestFirst answer es claims none = claim_alone answer es claims none
claims_claim OldestFirstOverwrite answer es claims none = claim_or_take answer es claims none
claims_claim NewestOnly answer es claims none = claim_or_take answer es claims none

-- ---- a receiver that holds no buffer fills none

nothing_given : (fs : List Retired) (gs : List Given) → map given_of fs ++ gs ≡ [] → (fs ≡ []) × (gs ≡ [])
nothing_given [] gs is = (refl, is)
nothing_given (f ∷ fs) gs is = absurd (cc)

-- Served without a claim by a receiver that holds no buffer: nothing was done, and it still holds none.
pub record IsIdle (c : AcqConfig) (s : State) (is : List Input) (es : List Event) : Type 0 where
  pub nothing : es ≡ []
  pub sound : IsSound c (after_from c s is)
  pub empty : held (after_from c s is).opens ≡ []

-- one input
record StaysIdle (c : AcqConfig) (s : State) (i : Input) (claiming : List Event) : Type 0 where
  unclaimed : claiming ≡ []
  unfilled : fills c.p (step c s i).retired ≡ []
  empty : held (step c s i).after.opens ≡ []

given_back : (c : AcqConfig) (s : State) (i : Input) (claiming : List Event) → claiming ≡ [] → held s.opens ≡ [] → GivesBack c.p s.opens (step c s i) → StaysIdle c s i claiming
given_back c s i claiming none empty back =
    let both : (fills c.p (step c s i).retired ≡ []) × (held (step c s i).after.opens ≡ []) = nothing_given (fills c.p (step c s i).retired) (held (step c s i).after.opens) (back ∙ empty) in
    record { unclaimed = none; unfilled = both.0; empty = both.1 }

stays_idle : (mode : Mode) (c : AcqConfig) (s : State) (i : Input) (claiming : List Event) → held s.opens ≡ [] → ClaimsOf mode i claiming → Lacks is_claim claiming → KeepsBuffers c s i (step c s i) → StaysIdle c s i claiming
stays_idle mode c s (datagram bytes) claiming empty claims none keeps = given_back c s (datagram bytes) claiming claims empty keeps
stays_idle mode c s (claimed None) claiming empty claims none keeps = absurd (claims_claim mode None claiming claims none)
stays_idle mode c s (claimed (Some g)) claiming empty claims none keeps = absurd (claims_claim mode (Some (g.place, claims.0)) claiming claims.1 none)
stays_idle mode c s (tick moment) claiming empty claims none keeps = given_back c s (tick moment) claiming claims empty keeps
stays_idle mode c s stop claiming empty claims none keeps = given_back c s stop claiming claims empty keeps
stays_idle mode c s restart claiming empty claims none keeps = given_back c s restart claiming claims empty keeps

-- an input that does nothing, and then inputs that do nothing
idle_then : (mode : Mode) (c : AcqConfig) (s : State) (i : Input) (is : List Input) (es claiming filling rest : List Event) → es ≡ claiming ++ (filling ++ rest) → StaysIdle c s i claiming
    → FillsRetiredFor mode (fills c.p (step c s i).retired) filling → IsIdle c (step c s i).after is rest → IsIdle c s (i ∷ is) es
idle_then mode c s i is es claiming filling rest parts one filled later = record {
  nothing = parts ∙ (ap (λ l. l ++ (filling ++ rest)) one.unclaimed ∙ (ap (λ l. l ++ rest) unfilled ∙ later.nothing));
  sound = later.sound;
  empty = later.empty;
}
  where
    unfilled : filling ≡ []
    unfilled = subst (λ (xs : List Retired). FillsRetiredFor mode xs filling) one.unfilled filled

pub serves_idle : (mode : Mode) (c : AcqConfig) (s : State) (is : List Input) (es : List Event) → 1 ≤ c.window → IsSound c s → held s.opens ≡ [] → Serves mode c s is es → Lacks is_claim es
    → IsIdle c s is es
serves_idle mode c s [] es some sound empty serves none = record { nothing = serves; sound = sound; empty = empty }
serves_idle mode c s (i ∷ is) es some sound empty (claiming, filling, rest, claims, filled, served, parts) none =
    let whole : Lacks is_claim (claiming ++ (filling ++ rest)) = subst (Lacks is_claim) parts none in
    let one : StaysIdle c s i claiming = stays_idle mode c s i claiming empty claims (lacks_front is_claim claiming (filling ++ rest) whole) (keeps_buffers c s i some sound) in
    idle_then mode c s i is es claiming filling rest parts one filled
    (serves_idle mode c (step c s i).after is rest some (step_sound c s i some sound) one.empty served
    (lacks_rest is_claim filling rest (lacks_rest is_claim claiming (filling ++ rest) whole)))

-- ---- the reader

-- the turns of a receiver that holds no buffer, without a claim
record AreIdle (c : AcqConfig) (s : State) (made : List Turned) (es : List Event) : Type 0 where
  untaken : Lacks is_taken es
  sound : IsSound c (after_from c s (inputs_in made))
  empty : held (after_from c s (inputs_in made)).opens ≡ []

turn_then : (mode : Mode) (c : AcqConfig) (s : State) (t : Turned) (ts : List Turned) (es front rest : List Event) → es ≡ LookRun 1 ∷ (front ++ rest) → IsIdle c s (inputs_of t) front
    → AreIdle c (after_from c s (inputs_of t)) ts rest → AreIdle c s (t ∷ ts) es
turn_then mode c s t ts es front rest parts first later = record {
  untaken = lacks_as is_taken es (LookRun 1 ∷ (front ++ rest)) parts (refl, lacks_both is_taken front rest (lacks_as is_taken front [] first.nothing tt) later.untaken);
  sound = subst (IsSound c) (sym joined) later.sound;
  empty = ap (λ (u : State). held u.opens) joined ∙ later.empty;
}
  where
    joined : after_from c s (inputs_of t ++ inputs_in ts) ≡ after_from c (after_from c s (inputs_of t)) (inputs_in ts)
    joined = after_from-append c s (inputs_of t) (inputs_in ts)

turns_idle : (mode : Mode) (c : AcqConfig) (s : State) (made : List Turned) (es : List Event) → 1 ≤ c.window → IsSound c s → held s.opens ≡ [] → ServesTurns mode c s made es → Lacks is_claim es
    → AreIdle c s made es
turns_idle mode c s [] es some sound empty serves none = record { untaken = lacks_as is_taken es [] serves tt; sound = sound; empty = empty }
turns_idle mode c s (t ∷ ts) es some sound empty (front, rest, served, later_served, parts) none =
    let whole : Lacks is_claim (front ++ rest) = (subst (Lacks is_claim) parts none).1 in
    let first : IsIdle c s (inputs_of t) front = serves_idle mode c s (inputs_of t) front some sound empty served (lacks_front is_claim front rest whole) in
    turn_then mode c s t ts es front rest parts first
    (turns_idle mode c (after_from c s (inputs_of t)) ts rest some first.sound first.empty later_served (lacks_rest is_claim front rest whole))

last_untaken : (end : AcqEnd) (es : List Event) → LastLook end es → Lacks is_taken es
last_untaken how.Stopped es look = lacks_as is_taken es (LookRun look.0 ∷ []) look.2 (refl, tt)
last_untaken how.Spent es none = lacks_as is_taken es [] none tt
last_untaken how.Fault es none = lacks_as is_taken es [] none tt
last_untaken (how.NoAnswer req) es none = lacks_as is_taken es [] none tt
last_untaken (how.Refused status) es none = lacks_as is_taken es [] none tt

-- an actor without a claim has none among its own entries
pub own_unclaimed : (n : ℕ) (h : List Entry) → acquires h n ≡ false → HasNone is_claim (own_of n h)
own_unclaimed n [] free = tt
own_unclaimed n (e ∷ h) free =
    cond_both (e.by == n) (e ∷ own_of n h) (own_of n h) (λ l. HasNone is_claim l)
    (λ mine. (here mine (is_claim e.event) refl, own_unclaimed n h (later (is_claim e.event && (e.by == n)) (acquires h n) free)))
    (λ other. own_unclaimed n h (later (is_claim e.event && (e.by == n)) (acquires h n) free))
  where
    later : (a b : Bool) → (a || b) ≡ false → b ≡ false
    later true b is = absurd (cc)
    later false b is = is

    here : (e.by == n) ≡ true → (b : Bool) → is_claim e.event ≡ b → is_claim e.event ≡ false
    here mine false is = is
    here mine true is =
        let acquired : (is_claim e.event && (e.by == n)) ≡ true = ap (λ (x : Bool). x && (e.by == n)) is ∙ mine in
        let bad : true ≡ false = sym (ap (λ (x : Bool). x || acquires h n) acquired) ∙ free in
        absurd (cc)

-- A reader without a claim takes nothing.
pub reader_untaken : (mode : Mode) (c : AcqConfig) (n : ℕ) (end : AcqEnd) (made : List Turned) (h : List Entry) → 1 ≤ c.window → LiveReading mode c n end made h → acquires h n ≡ false
    → HasNone is_taken (own_of n h)
reader_untaken mode c n end made h some reading free =
    subst (HasNone is_taken) (sym reading.own)
    (entries_lack is_taken n (reading.turned ++ (reading.last ++ (reading.drained ++ Stop false reading.answer ∷ [])))
    (lacks_both is_taken reading.turned (reading.last ++ (reading.drained ++ Stop false reading.answer ∷ [])) turns.untaken
    (lacks_both is_taken reading.last (reading.drained ++ Stop false reading.answer ∷ []) (last_untaken end reading.last reading.looks)
    (lacks_both is_taken reading.drained (Stop false reading.answer ∷ []) (lacks_as is_taken reading.drained [] drained.nothing tt) (refl, tt)))))
  where
    unclaimed : Lacks is_claim (reading.turned ++ (reading.last ++ (reading.drained ++ Stop false reading.answer ∷ [])))
    unclaimed = lacks_entries is_claim n _ (subst (HasNone is_claim) reading.own (own_unclaimed n h free))

    turns : AreIdle c first_state made reading.turned
    turns = turns_idle mode c first_state made reading.turned some (blocks_are_in_order c [] some) refl reading.turns (lacks_front is_claim reading.turned _ unclaimed)

    drained : IsIdle c (After c (inputs_in made)) (stop ∷ []) reading.drained
    drained =
        serves_idle mode c (After c (inputs_in made)) (stop ∷ []) reading.drained some turns.sound turns.empty reading.drains
        (lacks_front is_claim reading.drained (Stop false reading.answer ∷ []) (lacks_rest is_claim reading.last _ (lacks_rest is_claim reading.turned _ unclaimed)))
