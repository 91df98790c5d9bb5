-- One claim, and what the receiver and the pass have after it.
use Rattle.std.proofs.Common.{◌≡◌, ℕ, Bool, true, false, List, [], ◌∷◌, ◌++◌, Option, Some, None, refl, ap, sym, ◌∙◌, subst}
use Rattle.std.proofs.lemmas.List.{append-nil}
use Rattle.std.specs.Option.{option_map}
use Rattle.std.specs.Prelude.{IsSome}
use Rattle.board_machine.specs.declared.events.Entry.{Entry}
use Rattle.board_machine.specs.declared.events.Event.{Event}
use Rattle.board_machine.specs.declared.events.Event.TheVariants.{Claim, Take}
use Rattle.board_machine.specs.declared.events.TakeEnd.{TakeEnd}
use Rattle.board_machine.specs.declared.events.TakeEnd.TheVariants.{Taken, Empty, Closed}
use Rattle.board_machine.specs.Machine.{Board, word_at, after_event}
use Rattle.board_machine.specs.Histories.{After}
use Rattle.acquisition_machine.specs.declared.config.AcqConfig.{AcqConfig}
use Rattle.acquisition_machine.specs.Blocks.{Given}
use Rattle.acquisition_machine.specs.Machine.{Input, claimed}
use Rattle.acquisition_machine.specs.TurnLaws.{TakesGiven, HasOneMore}
use Rattle.buffer_words.specs.Passes.{Token, size_at, Stays}
use Rattle.buffer_words.specs.Several.{EntersEach, EntersOf}
use Rattle.buffer_words.proofs.Several.{stays_after}
use Rattle.board_calls.specs.declared.mode.Mode.{Mode}
use Rattle.board_calls.specs.declared.mode.Mode.TheVariants.{OldestFirst, OldestFirstOverwrite, NewestOnly}
use Rattle.board_calls.specs.Modes.{GotNothing, ClaimsFor}
use Rattle.gev_acq.specs.Serving.{ClaimsOf}
use Rattle.gev_acq.specs.Claims.{Met, met, met_by, taken_next, given_later, given_by, claims_of, Claims}
use Rattle.gev_acq.specs.Claiming.{ClaimsOne}
use Rattle.gev_acq.proofs.Owning.{no_events, one_event, LastMet, last_met}

place_in : Given → ℕ
place_in g = g.place

-- Stands for one more input, as the receiver says of a claim's outcome.
abbrev pub TakesClaim : (List Input → Type 0) → (List Input → Type 0) → Option Given → Type 0
TakesClaim Old New given = (q : List Input) → Old q → New (q ++ claimed given ∷ [])

-- What the pass's own events gave, whatever comes later.
abbrev Gave : Mode → Token → Token → Option Given → Type 0
Gave mode s t given = Claims mode (claimed given ∷ []) s t

gave_so : (mode : Mode) (s t : Token) (given : Option Given) (between : List Entry) → t.seen ≡ s.seen ++ between
    → ((later : List Met) → claims_of mode (met_by s.number (After s.seen) between ++ later) ≡ given ∷ claims_of mode later) → Gave mode s t given
gave_so mode s t given between seen are = record { between = between; seen = seen; are = λ later. sym (are later) }

-- a claim alone
one_gave : (mode : Mode) (s t : Token) (place : Option ℕ) (given : Option Given) → (e : EntersEach s (Claim place ∷ []) t)
    → ((b : Board) → After t.seen ≡ after_event b s.number (Claim place) → (later : List Met) → given_by mode b (Claim place) later ≡ given ∷ []) → Gave mode s t given
one_gave mode s t place given e gives = gave_so mode s t given e.between e.seen so
  where
    last : LastMet s t [] (Claim place) e.between
    last = last_met s t [] (Claim place) e.between e.last.0 e.seen e.own e.last.1

    so : (later : List Met) → claims_of mode (met_by s.number (After s.seen) e.between ++ later) ≡ given ∷ claims_of mode later
    so later =
        ap (λ ms. claims_of mode (ms ++ later)) (last.is ∙ ap (λ ms. ms ++ met last.board (Claim place) ∷ []) (no_events last.before last.are))
        ∙ ap (λ l. l ++ claims_of mode later) (gives last.board last.after later)

-- a claim that got nothing, and its take
both_gave : (mode : Mode) (s t : Token) (end : TakeEnd) (given : Option Given) → (e : EntersEach s (Claim None ∷ Take end ∷ []) t)
    → ((b : Board) → After t.seen ≡ after_event b s.number (Take end) → (later : List Met) → given_later mode (met b (Take end) ∷ later) ≡ given) → Gave mode s t given
both_gave mode s t end given e gives = gave_so mode s t given e.between e.seen so
  where
    last : LastMet s t (Claim None ∷ []) (Take end) e.between
    last = last_met s t (Claim None ∷ []) (Take end) e.between e.last.0 e.seen e.own e.last.1

    first : (b : Board) × (last.before ≡ met b (Claim None) ∷ [])
    first = one_event last.before (Claim None) last.are

    so : (later : List Met) → claims_of mode (met_by s.number (After s.seen) e.between ++ later) ≡ given ∷ claims_of mode later
    so later =
        ap (λ ms. claims_of mode (ms ++ later)) (last.is ∙ ap (λ ms. ms ++ met last.board (Take end) ∷ []) first.1)
        ∙ ap (λ g. g ∷ claims_of mode later) (gives last.board last.after later)

as_events : (s t : Token) (es fs : List Event) → es ≡ fs → EntersEach s es t → EntersEach s fs t
as_events s t es fs is e = subst (λ (l : List Event). EntersEach s l t) is e

-- what is given of a place that the pass has got
abbrev pub got_at : Token → ℕ → Option Given
got_at t i = Some (record { place = i; size = size_at t i })

claim_got : (mode : Mode) (s t : Token) (i : ℕ) → EntersEach s (Claim (Some i) ∷ []) t → Gave mode s t (got_at t i)
claim_got mode s t i e =
    one_gave mode s t (Some i) (got_at t i) e (λ b after later. ap (λ (c : Board). Some (record { place = i; size = (word_at c i).size }) ∷ []) (sym after))

took : (mode : Mode) (s t : Token) (i : ℕ) → ((ms : List Met) → given_later mode ms ≡ taken_next ms) → EntersEach s (Claim None ∷ Take (Taken i) ∷ []) t
    → Gave mode s t (got_at t i)
took mode s t i next e =
    both_gave mode s t (Taken i) (got_at t i) e
    (λ b after later. next (met b (Take (Taken i)) ∷ later) ∙ ap (λ (c : Board). Some (record { place = i; size = (word_at c i).size })) (sym after))

took_nothing : (mode : Mode) (s t : Token) (end : TakeEnd) → ((ms : List Met) → given_later mode ms ≡ taken_next ms) → GotNothing end
    → EntersEach s (Claim None ∷ Take end ∷ []) t → Gave mode s t None
took_nothing mode s t (Taken i) next never e = absurd never
took_nothing mode s t Empty next got e = both_gave mode s t Empty None e (λ b after later. next (met b (Take Empty) ∷ later))
took_nothing mode s t Closed next got e = both_gave mode s t Closed None e (λ b after later. next (met b (Take Closed) ∷ later))

-- a claim that got a place
pub some_gave : (mode : Mode) (s t : Token) (i : ℕ) (dropped : Bool) (es : List Event) → ClaimsFor mode (Some (i, dropped)) es → EntersEach s es t
    → Gave mode s t (got_at t i)
some_gave OldestFirst s t i false es is e = claim_got OldestFirst s t i (as_events s t es _ is e)
some_gave OldestFirst s t i true es never e = absurd never
some_gave OldestFirstOverwrite s t i false es is e = claim_got OldestFirstOverwrite s t i (as_events s t es _ is e)
some_gave OldestFirstOverwrite s t i true es is e = took OldestFirstOverwrite s t i (λ ms. refl) (as_events s t es _ is e)
some_gave NewestOnly s t i false es is e = claim_got NewestOnly s t i (as_events s t es _ is e)
some_gave NewestOnly s t i true es is e = took NewestOnly s t i (λ ms. refl) (as_events s t es _ is e)

-- and one that got none
pub none_gave : (mode : Mode) (s t : Token) (es : List Event) → ClaimsFor mode None es → EntersEach s es t → Gave mode s t None
none_gave OldestFirst s t es is e = one_gave OldestFirst s t None None (as_events s t es _ is e) (λ b after later. refl)
none_gave OldestFirstOverwrite s t es is e = took_nothing OldestFirstOverwrite s t is.0 (λ ms. refl) is.1 (as_events s t es _ is.2 e)
none_gave NewestOnly s t es is e = took_nothing NewestOnly s t is.0 (λ ms. refl) is.1 (as_events s t es _ is.2 e)

-- ---- what the receiver is told

gave_stays : (mode : Mode) (s t u : Token) (given : Option Given) → Stays t u → Gave mode s t given → Gave mode s u given
gave_stays mode s t u given stays gave = record { between = gave.between; seen = stays.seen ∙ gave.seen; are = gave.are }

claim_serves : (mode : Mode) (c : AcqConfig) (Old New : List Input → Type 0) (s u : Token) (place : Option ℕ) (given : Option Given) (es : List Event)
    → place ≡ option_map (λ (g : Given). g.place) given → ClaimsOf mode (claimed given) es → EntersEach s es u → Gave mode s u given → TakesClaim Old New given
    → ClaimsOne mode c Old New place s u
claim_serves mode c Old New s u place given es is claims enters gave takes = record {
  given = given;
  is = is;
  serves = record {
    events = es;
    enters = enters;
    serves = λ q old. (es, [], [], claims, refl, refl, sym (append-nil es));
    stands = takes;
    claims = gave;
  };
}

pub claimed_some : (mode : Mode) (c : AcqConfig) (Old New : List Input → Type 0) (s t u : Token) (i n : ℕ) (dropped : Bool)
    → EntersOf s (ClaimsFor mode (Some (i, dropped))) t → Stays t u → n ≡ size_at t i → TakesClaim Old New (Some (record { place = i; size = n }))
    → ClaimsOne mode c Old New (Some i) s u
claimed_some mode c Old New s t u i n dropped enters stays size takes =
    claim_serves mode c Old New s u (Some i) (Some (record { place = i; size = n })) enters.events refl (dropped, enters.kind)
    (stays_after s t u enters.events enters.enters stays)
    (subst (λ (k : ℕ). Gave mode s u (Some (record { place = i; size = k }))) (sym size)
    (gave_stays mode s t u (got_at t i) stays (some_gave mode s t i dropped enters.events enters.kind enters.enters)))
    takes

pub claimed_none : (mode : Mode) (c : AcqConfig) (Old New : List Input → Type 0) (s t : Token) → EntersOf s (ClaimsFor mode None) t → TakesClaim Old New None
    → ClaimsOne mode c Old New None s t
claimed_none mode c Old New s t enters takes =
    claim_serves mode c Old New s t None None enters.events refl enters.kind enters.enters
    (none_gave mode s t enters.events enters.kind enters.enters) takes

pub one_more : (g : Given) (asked : Option ℕ) (gs hs : List Given) → IsSome asked → TakesGiven (Some g) asked gs hs → HasOneMore g gs hs
one_more g None gs hs some takes = let bad : ⊥ = cc in absurd bad
one_more g (Some b) gs hs some takes = takes

pub size_stays : (t u : Token) (i : ℕ) → Stays t u → size_at u i ≡ size_at t i
size_stays t u i stays = ap (λ l. (word_at (After l) i).size) stays.seen
