-- Which events are claims of a pass, and what they gave.
use Rattle.std.proofs.Common.{◌≡◌, ℕ, ◌==◌, Bool, true, false, cond, List, [], ◌∷◌, ◌++◌, refl, ap, sym, ◌∙◌, subst, append_assoc, eq-eqb}
use Rattle.std.proofs.lemmas.List.{append-nil, append_cancel_right}
use Rattle.std.proofs.lemmas.Bool.{cond-true}
use Rattle.board_machine.specs.declared.events.Entry.{Entry}
use Rattle.board_machine.specs.declared.events.Event.{Event}
use Rattle.board_machine.specs.Machine.{Board, empty_board, entry, next, after_event}
use Rattle.board_machine.specs.Histories.{after_from, After, own_of}
use Rattle.board_machine.specs.Adding.{entries_of}
use Rattle.board_machine.proofs.Runs.{after-append, own_of-append}
use Rattle.board_machine.proofs.Adding.{entries_of-append}
use Rattle.acquisition_machine.specs.Machine.{Input, datagram, claimed, tick, stop, restart}
use Rattle.buffer_words.specs.Passes.{Token}
use Rattle.buffer_words.specs.Several.{EntersEach}
use Rattle.buffer_words.proofs.Several.{own_entry}
use Rattle.board_calls.specs.declared.mode.Mode.{Mode}
use Rattle.gev_acq.specs.Claims.{claims_in, Met, met, met_by, given_by, claims_of, Claims}

claims_in-append : (is js : List Input) → claims_in (is ++ js) ≡ claims_in is ++ claims_in js
claims_in-append [] js = refl
claims_in-append (datagram bytes ∷ is) js = claims_in-append is js
claims_in-append (claimed given ∷ is) js = ap (λ l. given ∷ l) (claims_in-append is js)
claims_in-append (tick moment ∷ is) js = claims_in-append is js
claims_in-append (stop ∷ is) js = claims_in-append is js
claims_in-append (restart ∷ is) js = claims_in-append is js

pub met_by-append : (n : ℕ) (b : Board) (g h : List Entry) → met_by n b (g ++ h) ≡ met_by n b g ++ met_by n (after_from b g) h
met_by-append n b [] h = refl
met_by-append n b (e ∷ g) h =
    ap (λ l. cond (e.by == n) (met b e.event ∷ []) [] ++ l) (met_by-append n (next b e) g h)
    ∙ sym (append_assoc (cond (e.by == n) (met b e.event ∷ []) []) (met_by n (next b e) g) (met_by n (after_from (next b e) g) h))

abbrev pub events_in : List Met → List Event
events_in [] = []
events_in (m ∷ ms) = m.event ∷ events_in ms

pub met_events : (n : ℕ) (b : Board) (h : List Entry) (events : List Event) → own_of n h ≡ entries_of n events → events_in (met_by n b h) ≡ events
met_events n b [] [] own = refl
met_events n b [] (event ∷ events) own = cc
met_events n b (e ∷ h) events own = go (e.by == n) events own (λ fs. met_events n (next b e) h fs)
  where
    go : (v : Bool) (es : List Event) → cond v (e ∷ own_of n h) (own_of n h) ≡ entries_of n es
        → ((fs : List Event) → own_of n h ≡ entries_of n fs → events_in (met_by n (next b e) h) ≡ fs)
        → events_in (cond v (met b e.event ∷ []) [] ++ met_by n (next b e) h) ≡ es
    go false es is more = more es is
    go true [] is more = cc
    go true (event ∷ es) is more =
        let first : e ≡ entry n event = cc in
        let rest : own_of n h ≡ entries_of n es = cc in
        ap (λ (x : Entry). x.event ∷ events_in (met_by n (next b e) h)) first ∙ ap (λ l. event ∷ l) (more es rest)

pub no_events : (ms : List Met) → events_in ms ≡ [] → ms ≡ []
no_events [] is = refl
no_events (m ∷ ms) is = let bad : ⊥ = cc in absurd bad

pub one_event : (ms : List Met) (event : Event) → events_in ms ≡ event ∷ [] → (b : Board) × (ms ≡ met b event ∷ [])
one_event [] event is = let bad : ⊥ = cc in absurd bad
one_event (m ∷ []) event is =
    let same : m.event ≡ event = cc in
    (m.board, ap (λ (x : Event). met m.board x ∷ []) same)
one_event (m ∷ x ∷ ms) event is = let bad : ⊥ = cc in absurd bad

-- an actor that did nothing here
pub met_none : (n : ℕ) (b : Board) (h : List Entry) → own_of n h ≡ [] → met_by n b h ≡ []
met_none n b h none = no_events (met_by n b h) (met_events n b h [] none)

-- none of these events is a claim
abbrev pub ClaimNothing : List Event → Type 0
ClaimNothing [] = Unit {0}
ClaimNothing (event ∷ events) = ((mode : Mode) (b : Board) (ms : List Met) → given_by mode b event ms ≡ []) × ClaimNothing events

pub claim_nothing-append : (es fs : List Event) → ClaimNothing es → ClaimNothing fs → ClaimNothing (es ++ fs)
claim_nothing-append [] fs first second = second
claim_nothing-append (e ∷ es) fs first second = (first.0, claim_nothing-append es fs first.1 second)

quiet_then : (mode : Mode) (ms later : List Met) → ClaimNothing (events_in ms) → claims_of mode (ms ++ later) ≡ claims_of mode later
quiet_then mode [] later quiet = refl
quiet_then mode (m ∷ ms) later quiet =
    ap (λ l. l ++ claims_of mode (ms ++ later)) (quiet.0 mode m.board (ms ++ later)) ∙ quiet_then mode ms later quiet.1

-- A call whose own entries have no claim tells of none.
pub claims_none : (mode : Mode) (is : List Input) (s t : Token) (events : List Event) → claims_in is ≡ [] → ClaimNothing events → EntersEach s events t → Claims mode is s t
claims_none mode is s t events none quiet e = record {
  between = e.between;
  seen = e.seen;
  are = λ later. ap (λ l. l ++ claims_of mode later) none
      ∙ sym (quiet_then mode (met_by s.number (After s.seen) e.between) later
      (subst (λ (es : List Event). ClaimNothing es) (sym (met_events s.number (After s.seen) e.between events e.own)) quiet));
}

-- two calls, one after the other
pub claims_then : (mode : Mode) (is js : List Input) (s t u : Token) → t.number ≡ s.number → Claims mode is s t → Claims mode js t u → Claims mode (is ++ js) s u
claims_then mode is js s t u number first second = record {
  between = first.between ++ second.between;
  seen = second.seen ∙ (ap (λ l. l ++ second.between) first.seen ∙ append_assoc s.seen first.between second.between);
  are = λ later. ap (λ l. l ++ claims_of mode later) (claims_in-append is js)
      ∙ (append_assoc (claims_in is) (claims_in js) (claims_of mode later)
      ∙ (ap (λ l. claims_in is ++ l) (second.are later)
      ∙ (first.are (met_by t.number (After t.seen) second.between ++ later)
      ∙ (sym (ap (λ l. claims_of mode l) (append_assoc ahead (met_by t.number (After t.seen) second.between) later))
      ∙ sym (ap (λ l. claims_of mode (l ++ later)) both)))));
}
  where
    ahead : List Met
    ahead = met_by s.number (After s.seen) first.between

    by_board : After t.seen ≡ after_from (After s.seen) first.between
    by_board = ap (λ l. After l) first.seen ∙ after-append empty_board s.seen first.between

    both : met_by s.number (After s.seen) (first.between ++ second.between) ≡ ahead ++ met_by t.number (After t.seen) second.between
    both =
        met_by-append s.number (After s.seen) first.between second.between
        ∙ ap (λ l. ahead ++ l)
        (sym (ap (λ (n : ℕ). met_by n (After t.seen) second.between) number ∙ ap (λ b. met_by s.number b second.between) by_board))

-- ---- the last entry of a call

-- The last of these entries is the pass's own, with this event, and its own before it have these events.
pub record LastMet (s t : Token) (es : List Event) (event : Event) (between : List Entry) : Type 0 where
  pub board : Board
  pub before : List Met
  pub are : events_in before ≡ es
  pub is : met_by s.number (After s.seen) between ≡ before ++ met board event ∷ []
  pub after : After t.seen ≡ after_event board s.number event

pub last_met : (s t : Token) (es : List Event) (event : Event) (between front : List Entry) → t.seen ≡ s.seen ++ between
    → own_of s.number between ≡ entries_of s.number (es ++ event ∷ []) → between ≡ front ++ entry s.number event ∷ [] → LastMet s t es event between
last_met s t es event between front seen own ends = record {
  board = after_from (After s.seen) front;
  before = met_by s.number (After s.seen) front;
  are = met_events s.number (After s.seen) front es own_front;
  is = ap (λ l. met_by s.number (After s.seen) l) ends
      ∙ (met_by-append s.number (After s.seen) front (entry s.number event ∷ [])
      ∙ ap (λ l. met_by s.number (After s.seen) front ++ l)
      (append-nil (cond (s.number == s.number) (met (after_from (After s.seen) front) event ∷ []) [])
      ∙ cond-true (s.number == s.number) (met (after_from (After s.seen) front) event ∷ []) [] (eq-eqb s.number s.number refl)));
  after = ap (λ l. After l) (seen ∙ ap (λ l. s.seen ++ l) ends)
      ∙ (after-append empty_board s.seen (front ++ entry s.number event ∷ [])
      ∙ after-append (After s.seen) front (entry s.number event ∷ []));
}
  where
    own_front : own_of s.number front ≡ entries_of s.number es
    own_front =
        append_cancel_right (own_of s.number front) (entries_of s.number es) (entry s.number event ∷ [])
        (sym (own_of-append s.number front (entry s.number event ∷ []) ∙ ap (λ l. own_of s.number front ++ l) (own_entry s.number event))
        ∙ (sym (ap (λ l. own_of s.number l) ends) ∙ (own ∙ entries_of-append s.number es (event ∷ []))))
