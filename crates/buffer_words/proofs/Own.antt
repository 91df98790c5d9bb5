-- The steps on a place's word keep the rule.
use Rattle.std.proofs.Common.{◌≡◌, ◌≢◌, ℕ, ◌+◌, ◌<◌, ◌≤◌, Bool, true, false, List, [], ◌∷◌, ◌++◌, length, set, get_or, Option, Some, Ok, Err, refl, sym, ap, subst, ◌∙◌, eqb, arith}
use Rattle.std.proofs.lemmas.List.{set-get_or, get_or-set_same}
use mathlib.Core.Option as opt
use prog.Atomic.{either}
use lib.ListN.{get_elem?}
use Rattle.atomic_table.specs.Table.{State, step, Act, keeps, takes, gives, put_back, carried_after, Valid, stepped, Allows}
use Rattle.atomic_table.proofs.Lists.{exchanged}
use Rattle.gev_types.specs.Filling.{Filling}
use Rattle.gev_types.specs.Limits.{max_buffer_size}
use Rattle.gentl_types.specs.declared.word.Word.{Word}
use Rattle.gentl_types.specs.declared.word.State.TheVariants.{Vacant, Held, Away}
use Rattle.board_machine.specs.declared.events.Entry.{Entry}
use Rattle.board_machine.specs.declared.events.Event.{Event}
use Rattle.board_machine.specs.declared.events.Event.TheVariants.{Look, Enrol, Grab, Lay, Vacate, Join}
use Rattle.board_machine.specs.Places.{times}
use Rattle.board_machine.specs.Machine.{Board, vacant, word_at, held, InHand, IsHeldAs, CanEnrol, with_state, Meets, entry, next, picks, drops}
use Rattle.board_machine.specs.Histories.{Run, After}
use Rattle.board_machine.specs.Owners.{due}
use Rattle.board_machine.specs.Laws.{Renews}
use Rattle.board_machine.proofs.Runs.{run_owned, run_in_hand, run_front, after-push}
use Rattle.board_machine.proofs.Generations.{run_renews, renewed_held}
use Rattle.board_machine.proofs.Answers.{is_held_as, held_as_true, held_as_false, can_enrol, can_enrol_true, can_enrol_false}
use Rattle.buffer_words.specs.declared.view.View.{View}
use Rattle.buffer_words.specs.declared.view.Stage.TheVariants.{Idle}
use Rattle.buffer_words.specs.Codes.{code, decode}
use Rattle.buffer_words.specs.Rule.{Slot, Slots, nothing, idle, Shows, Shelved, Stored, Follows, Knows, Kept}
use Rattle.buffer_words.specs.Plays.{Seated, Reads, LooksAt, GivesBack, looked, reading, sought, grabbed, vacancy, enrolled, laid, vacated}
use Rattle.buffer_words.proofs.Decoding.{decoded, grabbed_code}
use Rattle.buffer_words.proofs.Frames.{idle_adds, idle_waits}
use Rattle.buffer_words.proofs.Shelves.{with_word, shows_word, shelved_word, HasBuffer, IsApart, apart_by_state, apart_in_hand}

-- the view of an idle pass, with the history that it stands in
pub follows_idle : (s : State Slot View) (k : Kept s) (id : ℕ) (v : View) → v.stage ≡ Idle → get_elem? s.views id ≡ opt.some v → Follows k.history v.number v.seen
follows_idle s k id v st at = subst (λ g. Knows k.history v.number v.seen g) st (k.seats.knows id v at)

word_is : (s : State Slot View) (k : Kept s) (i : ℕ) → i < 15 → decode (get_or s.words i 0) ≡ word_at (After k.history) i
word_is s k i below = decoded (get_or s.words i 0) (word_at (After k.history) i) ((run_owned k.history k.run).words i) (k.shows.own i below)

shows_same : (b : Board) (words : List ℕ) (i : ℕ) → Shows b words → Shows b (set words i (get_or words i 0))
shows_same b words i shows = subst (λ ws. Shows b ws) (sym (set-get_or words i 0)) shows

-- a step that adds an entry and changes nothing
pub looking : (s : State Slot View) (id i : ℕ) (me : Seated) (event : Event) (k : Kept s) → me.0.stage ≡ Idle → get_elem? s.views id ≡ opt.some me.0
    → Meets (After k.history) me.0.number event → ((j : ℕ) → event ≢ Join j)
    → next (After k.history) (entry me.0.number event) ≡ After k.history
    → Kept (stepped s i (get_or s.words i 0) id me.1 (idle me.0.number (k.history ++ entry me.0.number event ∷ [])) keeps)
    × LooksAt me event (idle me.0.number (k.history ++ entry me.0.number event ∷ []), me.1)
looking s id i me event k st at meets no_join same =
    let both = idle_adds s id i (get_or s.words i 0) me.1 keeps me.0 event k st at meets no_join
    (subst (λ b. Shows b (set s.words i (get_or s.words i 0))) (sym same) (shows_same (After k.history) s.words i k.shows))
    (subst (λ b. Shelved b s.homes) (sym same) k.shelved) in
    (both.0, record { entered = both.1; slots = refl })

-- a step that adds nothing and changes nothing
waiting : (s : State Slot View) (id i : ℕ) (me : Seated) (k : Kept s) → i < 15 → me.0.stage ≡ Idle → get_elem? s.views id ≡ opt.some me.0
    → Kept (stepped s i (get_or s.words i 0) id me.1 (idle me.0.number k.history) keeps)
    × Reads me i (get_or s.words i 0) (idle me.0.number k.history, me.1)
waiting s id i me k below st at =
    let both = idle_waits s id i me.1 me.0 k st at in
    (both.0, record { waited = both.1; slots = refl; word = k.shows.own i below })

pub looks : (slots id i : ℕ) (me : Seated) → me.0.stage ≡ Idle → i < 15
    → Allows Kept slots id me i (λ n. n) (looked (step slots i 0 0 opt.none) me)
looks slots id i me st below s k homes at small =
    let event = Look i (decode (get_or s.words i 0)) in
    let both = looking s id i me event k st at (below, word_is s k i below) (λ j e. cc) refl in
    (idle me.0.number (k.history ++ entry me.0.number event ∷ []), keeps, tt, both.0, both.1)

pub reads : (slots id i : ℕ) (me : Seated) → me.0.stage ≡ Idle → i < 15
    → Allows Kept slots id me i (λ n. n) (reading (step slots i 0 0 opt.none) me)
reads slots id i me st below s k homes at small =
    let both = waiting s id i me k below st at in
    (idle me.0.number k.history, keeps, tt, both.0, both.1)

-- some new view and act keep the rule, where the word i becomes m, and tell this
abbrev pub Makes : State Slot View → ℕ → ℕ → ℕ → Seated → (Seated → Type 0) → Type 0
Makes s id i m me tells = (w : View) × (a : Act Slot) × Valid s.homes me.1 a × Kept (stepped s i m id me.1 w a) × tells (w, carried_after me.1 a)

seeks_by : (g slots id i : ℕ) (me : Seated) → me.0.stage ≡ Idle → i < 15 → (s : State Slot View) (k : Kept s) → get_elem? s.views id ≡ opt.some me.0
    → (t : Bool) → is_held_as (decode (get_or s.words i 0)) g ≡ t
    → Makes s id i (get_or s.words i 0) me (sought g (step slots i 0 0 opt.none) me (get_or s.words i 0))
seeks_by g slots id i me st below s k at true e =
    let yes = held_as_true (decode (get_or s.words i 0)) g e in
    let both = waiting s id i me k below st at in
    (idle me.0.number k.history, keeps, tt, both.0, ((λ _. both.1), λ no. absurd (no yes)))
seeks_by g slots id i me st below s k at false e =
    let no = held_as_false (decode (get_or s.words i 0)) g e in
    let event = Grab i g (Err (decode (get_or s.words i 0))) in
    let both = looking s id i me event k st at (below, word_is s k i below, no) (λ j q. cc) refl in
    (idle me.0.number (k.history ++ entry me.0.number event ∷ []), keeps, tt, both.0, ((λ yes. absurd (no yes)), λ _. both.1))

pub seeks : (g slots id i : ℕ) (me : Seated) → me.0.stage ≡ Idle → i < 15
    → Allows Kept slots id me i (λ n. n) (sought g (step slots i 0 0 opt.none) me)
seeks g slots id i me st below s k homes at small = seeks_by g slots id i me st below s k at (is_held_as (decode (get_or s.words i 0)) g) refl

vacancies_by : (size slots id i : ℕ) (me : Seated) → me.0.stage ≡ Idle → i < 15 → 1 ≤ size → size ≤ max_buffer_size → (s : State Slot View) (k : Kept s) → get_elem? s.views id ≡ opt.some me.0
    → (t : Bool) → can_enrol (decode (get_or s.words i 0)) ≡ t
    → Makes s id i (get_or s.words i 0) me (vacancy size (step slots i 0 0 opt.none) me (get_or s.words i 0))
vacancies_by size slots id i me st below least most s k at true e =
    let yes = can_enrol_true (decode (get_or s.words i 0)) e in
    let both = waiting s id i me k below st at in
    (idle me.0.number k.history, keeps, tt, both.0, ((λ _. both.1), λ no. absurd (no yes)))
vacancies_by size slots id i me st below least most s k at false e =
    let no = can_enrol_false (decode (get_or s.words i 0)) e in
    let event = Enrol i size (Err (decode (get_or s.words i 0))) in
    let both = looking s id i me event k st at (below, least, most, word_is s k i below, no) (λ j q. cc) refl in
    (idle me.0.number (k.history ++ entry me.0.number event ∷ []), keeps, tt, both.0, ((λ yes. absurd (no yes)), λ _. both.1))

pub vacancies : (size slots id i : ℕ) (me : Seated) → me.0.stage ≡ Idle → i < 15 → 1 ≤ size → size ≤ max_buffer_size
    → Allows Kept slots id me i (λ n. n) (vacancy size (step slots i 0 0 opt.none) me)
vacancies size slots id i me st below least most s k homes at small = vacancies_by size slots id i me st below least most s k at (can_enrol (decode (get_or s.words i 0))) refl

-- the word that a pass saw, and the word now
renews_since : (s : State Slot View) (k : Kept s) (n : ℕ) (seen : List Entry) (i : ℕ) → Follows k.history n seen → Renews (word_at (After seen) i) (word_at (After k.history) i)
renews_since s k n seen i f =
    subst (λ h. Renews (word_at (After seen) i) (word_at (After h) i)) (sym f.begins.is)
    (run_renews seen f.begins.rest i (subst (λ h. Run h) f.begins.is k.run))

seen_word : (s : State Slot View) (k : Kept s) (n : ℕ) (seen : List Entry) (i old : ℕ) → Follows k.history n seen → old ≡ code (word_at (After seen) i) → decode old ≡ word_at (After seen) i
seen_word s k n seen i old f e = decoded old (word_at (After seen) i) ((run_owned seen (run_front k.history seen f.begins.rest k.run f.begins.is)).words i) e

-- the size of a place's word after an entry that set it
taken_size : (h : List Entry) (i n : ℕ) (event : Event) (hands : List (Option (List ℕ))) (w : Word) → i < 15 → length (After h).words ≡ 15
    → next (After h) (entry n event) ≡ with_word (After h) hands i w → (word_at (After (h ++ entry n event ∷ [])) i).size ≡ w.size
taken_size h i n event hands w below wide after =
    ap (λ b. (word_at b i).size) (after-push h (entry n event) ∙ after) ∙ ap (λ v. v.size) (get_or-set_same (After h).words i w vacant (omega (arith, wide)))

grabs_hit : (slots id i old : ℕ) (me : Seated) → me.0.stage ≡ Idle → i < 15 → (decode old).state ≡ Held → (s : State Slot View) (k : Kept s) → get_elem? s.views id ≡ opt.some me.0
    → get_or s.words i 0 ≡ old
    → Makes s id i (old + 1) me (grabbed (step slots i old (old + 1) opt.none) me (get_or s.words i 0))
grabs_hit slots id i old me st below is_held s k at hit =
    let b = After k.history in
    let owned = run_owned k.history k.run in
    let word : decode old ≡ word_at b i = sym (ap decode hit) ∙ word_is s k i below in
    let held_now : (word_at b i).state ≡ Held = ap (λ w. w.state) (sym word) ∙ is_held in
    let stored : Stored b s.homes i = k.shelved.laid i held_now in
    let event = Grab i (decode old).generation (Ok tt) in
    let apart : IsApart b i = apart_by_state b i owned (ap due held_now) in
    let taken = with_state (word_at b i) Away in
    let number : old + 1 ≡ code taken = ap (λ n. n + 1) (sym hit ∙ k.shows.own i below) ∙ sym (grabbed_code (word_at b i) held_now) in
    let both = idle_adds s id i (old + 1) me.1 (takes i (Some stored.filling)) me.0 event k st at
    (below, (held_now, ap (λ w. w.generation) (sym word))) (λ j q. cc)
    (shows_word b (picks b me.0.number i).hands s.words i taken (old + 1) below owned.wide number k.shows)
    (shelved_word b (picks b me.0.number i).hands s.homes i taken opt.none below owned.wide apart.pool apart.out (λ q. absurd (cc)) (λ q. absurd (cc)) k.shelved) in (
      idle me.0.number (k.history ++ entry me.0.number event ∷ []),
      takes i (Some stored.filling),
      stored.is,
      both.0,
      ((λ _. record { filling = stored.filling; takes = record { entered = both.1; slots = refl }; size = stored.size ∙ sym (taken_size k.history i me.0.number event (picks b me.0.number i).hands taken below owned.wide refl) }), λ ne. absurd (ne hit)),
    )

grabs_miss : (slots id i old : ℕ) (me : Seated) → me.0.stage ≡ Idle → i < 15 → (decode old).state ≡ Held → old ≡ code (word_at (After me.0.seen) i)
    → (s : State Slot View) (k : Kept s) → get_elem? s.views id ≡ opt.some me.0 → get_or s.words i 0 ≢ old
    → Makes s id i (get_or s.words i 0) me (grabbed (step slots i old (old + 1) opt.none) me (get_or s.words i 0))
grabs_miss slots id i old me st below is_held was s k at miss =
    let b = After k.history in
    let f = follows_idle s k id me.0 st at in
    let before : decode old ≡ word_at (After me.0.seen) i = seen_word s k me.0.number me.0.seen i old f was in
    let event = Grab i (decode old).generation (Err (decode (get_or s.words i 0))) in
    let renewed = renews_since s k me.0.number me.0.seen i f in
    let held_then : IsHeldAs (word_at (After me.0.seen) i) (decode old).generation = subst (λ w. IsHeldAs w (decode old).generation) before (is_held, refl) in
    let other : ¬ IsHeldAs (decode (get_or s.words i 0)) (decode old).generation =
    λ yes. miss (k.shows.own i below ∙ (ap code (renewed_held (word_at (After me.0.seen) i) (word_at b i) (decode old).generation renewed held_then
    (subst (λ w. IsHeldAs w (decode old).generation) (word_is s k i below) yes)) ∙ sym was)) in
    let both = looking s id i me event k st at (below, word_is s k i below, other) (λ j q. cc) refl in
    (idle me.0.number (k.history ++ entry me.0.number event ∷ []), keeps, tt, both.0, ((λ hit. absurd (miss hit)), λ _. both.1))

pub grabs : (slots id i old : ℕ) (me : Seated) → me.0.stage ≡ Idle → i < 15 → (decode old).state ≡ Held → old ≡ code (word_at (After me.0.seen) i)
    → Allows Kept slots id me i (λ n. either (eqb n old) (old + 1) n) (grabbed (step slots i old (old + 1) opt.none) me)
grabs slots id i old me st below is_held was s k homes at small =
    exchanged (get_or s.words i 0) old (old + 1)
    (λ m. Makes s id i m me (grabbed (step slots i old (old + 1) opt.none) me (get_or s.words i 0)))
    (grabs_hit slots id i old me st below is_held s k at)
    (grabs_miss slots id i old me st below is_held was s k at)

-- the word of an announced place
abbrev pub away_word : ℕ → ℕ → Word
away_word size generation = record { state = Away; size = size; generation = generation }

enrols_hit : (size slots id i old new : ℕ) (me : Seated) → me.0.stage ≡ Idle → i < 15 → 1 ≤ size → size ≤ max_buffer_size → CanEnrol (decode old)
    → new ≡ code (away_word size ((decode old).generation + 1)) → (s : State Slot View) (k : Kept s) → get_elem? s.views id ≡ opt.some me.0
    → get_or s.words i 0 ≡ old
    → Makes s id i new me (enrolled size (step slots i old new opt.none) me (get_or s.words i 0))
enrols_hit size slots id i old new me st below least most can number s k at hit =
    let b = After k.history in
    let owned = run_owned k.history k.run in
    let word : decode old ≡ word_at b i = sym (ap decode hit) ∙ word_is s k i below in
    let can_now : CanEnrol (word_at b i) = subst (λ w. CanEnrol w) word can in
    let event = Enrol i size (Ok ((decode old).generation + 1)) in
    let apart : IsApart b i = apart_by_state b i owned (ap due can_now.0) in
    let taken = away_word size ((decode old).generation + 1) in
    let both = idle_adds s id i new me.1 (takes i nothing) me.0 event k st at
    (below, least, most, can_now, ap (λ w. w.generation + 1) word) (λ j q. cc)
    (shows_word b (picks b me.0.number i).hands s.words i taken new below owned.wide number k.shows)
    (shelved_word b (picks b me.0.number i).hands s.homes i taken opt.none below owned.wide apart.pool apart.out (λ q. absurd (cc)) (λ q. absurd (cc)) k.shelved) in (
      idle me.0.number (k.history ++ entry me.0.number event ∷ []),
      takes i nothing,
      k.shelved.vacant i below can_now.0,
      both.0,
      ((λ _. record { entered = both.1; slots = refl }), λ ne. absurd (ne hit)),
    )

enrols_miss : (size slots id i old new : ℕ) (me : Seated) → me.0.stage ≡ Idle → i < 15
    → (s : State Slot View) (k : Kept s) → get_elem? s.views id ≡ opt.some me.0 → get_or s.words i 0 ≢ old
    → Makes s id i (get_or s.words i 0) me (enrolled size (step slots i old new opt.none) me (get_or s.words i 0))
enrols_miss size slots id i old new me st below s k at miss =
    let both = waiting s id i me k below st at in
    (idle me.0.number k.history, keeps, tt, both.0, ((λ hit. absurd (miss hit)), λ _. both.1))

pub enrols : (size slots id i old new : ℕ) (me : Seated) → me.0.stage ≡ Idle → i < 15 → 1 ≤ size → size ≤ max_buffer_size → CanEnrol (decode old)
    → new ≡ code (away_word size ((decode old).generation + 1))
    → Allows Kept slots id me i (λ n. either (eqb n old) new n) (enrolled size (step slots i old new opt.none) me)
enrols size slots id i old new me st below least most can number s k homes at small =
    exchanged (get_or s.words i 0) old new
    (λ m. Makes s id i m me (enrolled size (step slots i old new opt.none) me (get_or s.words i 0)))
    (enrols_hit size slots id i old new me st below least most can number s k at)
    (enrols_miss size slots id i old new me st below s k at)

-- what the holder of a place gives back: its slot with this value, the word in this state
gives_back : (slots id i new : ℕ) (me : Seated) (event : Event) (slot : Slot) (others : Slots) (w : Word) (s : State Slot View) (k : Kept s)
    → me.0.stage ≡ Idle → get_elem? s.views id ≡ opt.some me.0 → me.1 ≡ (i, slot) ∷ others
    → InHand (After k.history) me.0.number i → Meets (After k.history) me.0.number event → ((j : ℕ) → event ≢ Join j)
    → next (After k.history) (entry me.0.number event) ≡ with_word (After k.history) (drops (After k.history) me.0.number i).hands i w
    → new ≡ code w → (w.state ≡ Vacant → opt.some slot ≡ opt.some nothing) → (w.state ≡ Held → HasBuffer (opt.some slot) w)
    → Makes s id i new me (GivesBack me event)
gives_back slots id i new me event slot others w s k st at mine in_hand meets no_join after number empty has =
    let b = After k.history in
    let owned = run_owned k.history k.run in
    let below : i < 15 = run_in_hand k.history me.0.number i k.run in_hand in
    let apart : IsApart b i = apart_in_hand b me.0.number i owned in_hand in
    let hands = (drops b me.0.number i).hands in
    let homes' : put_back s.homes me.1 ≡ set s.homes i (opt.some slot) = ap (λ c. put_back s.homes c) mine in
    let both = idle_adds s id i new me.1 gives me.0 event k st at meets no_join
    (subst (λ b'. Shows b' (set s.words i new)) (sym after) (shows_word b hands s.words i w new below owned.wide number k.shows))
    (subst (λ b'. Shelved b' (put_back s.homes me.1)) (sym after)
    (subst (λ hs. Shelved (with_word b hands i w) hs) (sym homes') (shelved_word b hands s.homes i w (opt.some slot) below owned.wide apart.pool apart.out empty has k.shelved))) in
    (idle me.0.number (k.history ++ entry me.0.number event ∷ []), gives, tt, both.0, record { entered = both.1; slots = refl })

-- a place in hand is still in hand, with its word
pub hand_now : (s : State Slot View) (k : Kept s) (n : ℕ) (seen : List Entry) (i : ℕ) → Follows k.history n seen → InHand (After seen) n i → InHand (After k.history) n i
hand_now s k n seen i f mine = subst (λ h. 1 ≤ times i (held h)) (sym f.hand) mine

pub lays : (slots id i new : ℕ) (me : Seated) (f : Filling) (others : Slots) → me.0.stage ≡ Idle → me.1 ≡ (i, Some f) ∷ others
    → InHand (After me.0.seen) me.0.number i → new ≡ code (with_state (word_at (After me.0.seen) i) Held)
    → length f.bytes ≡ (word_at (After me.0.seen) i).size
    → Allows Kept slots id me i (λ _. new) (laid (step slots i new 0 opt.none) me)
lays slots id i new me f others st mine in_hand number size s k homes at small =
    let follows = follows_idle s k id me.0 st at in
    let now = hand_now s k me.0.number me.0.seen i follows in_hand in
    let word : word_at (After k.history) i ≡ word_at (After me.0.seen) i = follows.words i now in
    gives_back slots id i new me (Lay i) (Some f) others (with_state (word_at (After k.history) i) Held) s k st at mine now now (λ j q. cc) refl
    (number ∙ ap (λ w. code (with_state w Held)) (sym word)) (λ q. absurd (cc))
    (λ _. record { filling = f; is = refl; size = size ∙ ap (λ w. w.size) (sym word) })

pub vacates : (slots id i new : ℕ) (me : Seated) (others : Slots) → me.0.stage ≡ Idle → me.1 ≡ (i, nothing) ∷ others
    → InHand (After me.0.seen) me.0.number i → new ≡ code (with_state (word_at (After me.0.seen) i) Vacant)
    → Allows Kept slots id me i (λ _. new) (vacated (step slots i new 0 opt.none) me)
vacates slots id i new me others st mine in_hand number s k homes at small =
    let follows = follows_idle s k id me.0 st at in
    let now = hand_now s k me.0.number me.0.seen i follows in_hand in
    let word : word_at (After k.history) i ≡ word_at (After me.0.seen) i = follows.words i now in
    gives_back slots id i new me (Vacate i) nothing others (with_state (word_at (After k.history) i) Vacant) s k st at mine now now (λ j q. cc) refl
    (number ∙ ap (λ w. code (with_state w Vacant)) (sym word)) (λ _. refl) (λ q. absurd (cc))
