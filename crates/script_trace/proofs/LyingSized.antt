-- At each place that isn't vacant the history tells of a buffer, with as many bytes as the place's word says.
use Rattle.std.proofs.Common.{◌≡◌, ◌≢◌, ◌⊎◌, inl, inr, ℕ, ◌<◌, ◌≤◌, true, false, List, [], ◌∷◌, length, set, get_or, Option, Some, None, Ok, Err, refl, sym, ap, subst, ◌∙◌, arith, get_or-set_same, get_or-set_other}
use Rattle.std.proofs.lemmas.Bool.{cases_eq}
use Rattle.std.proofs.lemmas.List.{length-set, length-replicate}
use Rattle.gev_types.specs.Filling.{Filling}
use Rattle.gev_types.specs.Limits.{place_count}
use Rattle.gentl_types.specs.declared.word.Word.{Word}
use Rattle.gentl_types.specs.declared.word.State.{State}
use Rattle.gentl_types.specs.declared.word.State.TheVariants.{Vacant, Held, Away}
use Rattle.board_machine.specs.declared.events.Entry.{Entry}
use Rattle.board_machine.specs.declared.events.Event.{Event}
use Rattle.board_machine.specs.declared.events.Event.TheVariants.{Enrol, Grab, Lay, Vacate, Claim, Fill, Take, Start, Stop}
use Rattle.board_machine.specs.declared.events.TakeEnd.TheVariants.{Taken, Empty, Closed}
use Rattle.board_machine.specs.Places.{times}
use Rattle.board_machine.specs.Machine.{Board, vacant, word_at, InHand, Meets, after_event, next, empty_board, with_state}
use Rattle.board_machine.specs.Histories.{RunsFrom, Run, After, after_from}
use Rattle.board_machine.specs.Owners.{IsCounted}
use Rattle.board_machine.proofs.Counts.{stands_away, stands_below, hand_tally}
use Rattle.board_machine.proofs.Keeps.{keeps_next, empty_owned, empty_words}
use Rattle.board_machine.proofs.Others.{other_word}
use Rattle.board_machine.proofs.Runs.{run_owned}
use Rattle.board_model.specs.Plain.{lying, nothing}
use Rattle.board_model.specs.Holdings.{fresh}
use Rattle.script_trace.specs.Contents.{content_after, contents_from, contents_of}
use Rattle.script_trace.proofs.FlushesGo.{LiesSized, size_stays}

abbrev AllLie : Board → List (Option Filling) → Type 0
AllLie b c = (i : ℕ) → (word_at b i).state ≢ Vacant → LiesSized c b i

held_used : (w : Word) → w.state ≡ Held → w.state ≢ Vacant
held_used w e f = let both : Held ≡ Vacant = sym e ∙ f in cc

away_used : (w : Word) → w.state ≡ Away → w.state ≢ Vacant
away_used w e f = let both : Away ≡ Vacant = sym e ∙ f in cc

keeps_length : (c : List (Option Filling)) (e : Event) → length (content_after c e) ≡ length c
keeps_length c (Enrol i size (Ok g)) = length-set c i _
keeps_length c (Vacate i) = length-set c i _
keeps_length c (Fill i f filled) = length-set c i _
keeps_length c e = refl

-- where no word changes
still : (b : Board) (c : List (Option Filling)) (new : Board) → new.words ≡ b.words → AllLie b c → AllLie new c
still b c new is all i used =
    let same : word_at new i ≡ word_at b i = ap (λ (ws : List Word). get_or ws i vacant) is in
    let lies : LiesSized c b i = all i (subst (λ (v : Word). v.state ≢ Vacant) same used) in
    record { filling = lies.filling; lies = lies.lies; sized = lies.sized ∙ sym (ap (λ (v : Word). v.size) same) }

-- where a word gets another state
state_lies : (b : Board) (c : List (Option Filling)) (i j : ℕ) (s : State) (new : Board) → (word_at b j).state ≢ Vacant
    → new.words ≡ set b.words j (with_state (word_at b j) s) → AllLie b c → (word_at new i).state ≢ Vacant → LiesSized c new i
state_lies b c i j s new used is all still =
    let lies : LiesSized c b i = all i (go (cases_eq i j)) in
    record {
      filling = lies.filling;
      lies = lies.lies;
      sized = lies.sized ∙ sym (ap (λ (ws : List Word). (get_or ws i vacant).size) is ∙ size_stays b.words j s i);
    }
  where
    go : (i ≡ j) ⊎ (i ≢ j) → (word_at b i).state ≢ Vacant
    go (inl e) = subst (λ n. (word_at b n).state ≢ Vacant) (sym e) used
    go (inr apart) =
        subst (λ (v : Word). v.state ≢ Vacant) (ap (λ (ws : List Word). get_or ws i vacant) is ∙ other_word b i j _ apart) still

hand_used : (b : Board) (k i : ℕ) → IsCounted b → InHand b k i → (word_at b i).state ≢ Vacant
hand_used b k i owned mine = away_used (word_at b i) (stands_away b i owned (hand_tally b k i mine))

fill_lies : (b : Board) (c : List (Option Filling)) (i j : ℕ) (f : Filling) (new : Board) → j < length c → length f.bytes ≡ (word_at b j).size
    → new.words ≡ b.words → AllLie b c → (word_at new i).state ≢ Vacant → LiesSized (set c j (Some f)) new i
fill_lies b c i j f new within sized is all used = go (cases_eq i j)
  where
    word_same : word_at new i ≡ word_at b i
    word_same = ap (λ (ws : List Word). get_or ws i vacant) is

    go : (i ≡ j) ⊎ (i ≢ j) → LiesSized (set c j (Some f)) new i
    go (inl e) = record {
      filling = f;
      lies = ap (λ n. lying (set c j (Some f)) n) e ∙ get_or-set_same c j (Some f) nothing within;
      sized = sized ∙ (ap (λ n. (word_at b n).size) (sym e) ∙ sym (ap (λ (w : Word). w.size) word_same));
    }
    go (inr apart) =
        let lies : LiesSized c b i = all i (subst (λ (v : Word). v.state ≢ Vacant) word_same used) in
        record {
          filling = lies.filling;
          lies = get_or-set_other c j i (Some f) nothing apart ∙ lies.lies;
          sized = lies.sized ∙ sym (ap (λ (w : Word). w.size) word_same);
        }

lie_next : (b : Board) (c : List (Option Filling)) (k : ℕ) (e : Event) → IsCounted b → length c ≡ place_count → Meets b k e → AllLie b c
    → AllLie (after_event b k e) (content_after c e)
lie_next b c k (Enrol j size (Ok g)) owned wide m all i used = go (cases_eq i j)
  where
    w : Word
    w = record { state = Away; size = size; generation = g }

    within : j < length b.words
    within = omega (arith, m.0, owned.wide)

    in_contents : j < length c
    in_contents = omega (arith, m.0, wide)

    go : (i ≡ j) ⊎ (i ≢ j) → LiesSized (set c j (Some (fresh size))) (after_event b k (Enrol j size (Ok g))) i
    go (inl e) = record {
      filling = fresh size;
      lies = ap (λ n. lying (set c j (Some (fresh size))) n) e ∙ get_or-set_same c j (Some (fresh size)) nothing in_contents;
      sized =
          length-replicate size 0
          ∙ sym (ap (λ n. (get_or (set b.words j w) n vacant).size) e ∙ ap (λ (v : Word). v.size) (get_or-set_same b.words j w vacant within));
    }
    go (inr apart) =
        let same : get_or (set b.words j w) i vacant ≡ word_at b i = other_word b i j w apart in
        let lies : LiesSized c b i = all i (subst (λ (v : Word). v.state ≢ Vacant) same used) in
        record {
          filling = lies.filling;
          lies = get_or-set_other c j i (Some (fresh size)) nothing apart ∙ lies.lies;
          sized = lies.sized ∙ sym (ap (λ (v : Word). v.size) same);
        }
lie_next b c k (Grab j g (Ok done)) owned wide m all i used =
    state_lies b c i j Away (after_event b k (Grab j g (Ok done))) (held_used (word_at b j) m.1.0) refl all used
lie_next b c k (Lay j) owned wide m all i used = state_lies b c i j Held (after_event b k (Lay j)) (hand_used b k j owned m) refl all used
lie_next b c k (Vacate j) owned wide m all i used = go (cases_eq i j)
  where
    within : j < length b.words
    within = let low : j < place_count = stands_below b j owned (hand_tally b k j m) in omega (arith, low, owned.wide)

    go : (i ≡ j) ⊎ (i ≢ j) → LiesSized (set c j nothing) (after_event b k (Vacate j)) i
    go (inl e) =
        absurd (used (ap (λ n. (word_at (after_event b k (Vacate j)) n).state) e
        ∙ ap (λ (w : Word). w.state) (get_or-set_same b.words j (with_state (word_at b j) Vacant) vacant within)))
    go (inr apart) =
        let same : get_or (set b.words j (with_state (word_at b j) Vacant)) i vacant ≡ word_at b i = other_word b i j _ apart in
        let lies : LiesSized c b i = all i (subst (λ (v : Word). v.state ≢ Vacant) same used) in
        record {
          filling = lies.filling;
          lies = get_or-set_other c j i nothing nothing apart ∙ lies.lies;
          sized = lies.sized ∙ sym (ap (λ (v : Word). v.size) same);
        }
lie_next b c k (Fill j f true) owned wide m all i used =
    let low : j < place_count = stands_below b j owned (hand_tally b k j m.0) in
    fill_lies b c i j f (after_event b k (Fill j f true)) (omega (arith, low, wide)) m.1 refl all used
lie_next b c k (Fill j f false) owned wide m all i used =
    let low : j < place_count = stands_below b j owned (hand_tally b k j m.0) in
    fill_lies b c i j f (after_event b k (Fill j f false)) (omega (arith, low, wide)) m.1 refl all used
lie_next b c k (Enrol j size (Err w)) owned wide m all i used = all i used
lie_next b c k (Grab j g (Err w)) owned wide m all i used = all i used
lie_next b c k (Claim (Some j)) owned wide m all i used = still b c (after_event b k (Claim (Some j))) refl all i used
lie_next b c k (Claim None) owned wide m all i used = all i used
lie_next b c k (Take (Taken j)) owned wide m all i used = still b c (after_event b k (Take (Taken j))) refl all i used
lie_next b c k (Take Empty) owned wide m all i used = all i used
lie_next b c k (Take Closed) owned wide m all i used = all i used
lie_next b c k (Start (Ok done)) owned wide m all i used = still b c (after_event b k (Start (Ok done))) refl all i used
lie_next b c k (Start (Err r)) owned wide m all i used = all i used
lie_next b c k (Stop kill (Ok done)) owned wide m all i used = still b c (after_event b k (Stop kill (Ok done))) refl all i used
lie_next b c k (Stop kill (Err r)) owned wide m all i used = all i used
lie_next b c k e owned wide m all i used = still b c (after_event b k e) refl all i used

lie_from : (b : Board) (c : List (Option Filling)) (h : List Entry) → IsCounted b → length c ≡ place_count → RunsFrom b h → AllLie b c
    → AllLie (after_from b h) (contents_from c h)
lie_from b c [] owned wide runs all = all
lie_from b c (e ∷ h) owned wide runs all =
    lie_from (next b e) (content_after c e.event) h (keeps_next b e owned runs.0) (keeps_length c e.event ∙ wide) runs.1
    (lie_next b c e.by e.event owned wide runs.0.meets all)

none_lie : AllLie empty_board (contents_of [])
none_lie i used = absurd (used (ap (λ (w : Word). w.state) (empty_words place_count i)))

pub run_lies : (h : List Entry) → Run h → (i : ℕ) → (word_at (After h) i).state ≢ Vacant → LiesSized (contents_of h) (After h) i
run_lies h run = lie_from empty_board (contents_of []) h empty_owned refl run none_lie

-- what lies at the places of the pool, and at those in hand
pub pool_lies : (h : List Entry) → Run h → (i : ℕ) → 1 ≤ times i (After h).pool → LiesSized (contents_of h) (After h) i
pool_lies h run i some =
    let owned : IsCounted (After h) = run_owned h run in
    run_lies h run i (away_used (word_at (After h) i) (stands_away (After h) i owned (omega (arith, some))))

pub hand_lies : (h : List Entry) → Run h → (k i : ℕ) → InHand (After h) k i → LiesSized (contents_of h) (After h) i
hand_lies h run k i mine = run_lies h run i (hand_used (After h) k i (run_owned h run) mine)
