-- The steps on the output's word keep the rule.
use Rattle.std.proofs.Common.{◌≡◌, ◌≢◌, ◌⊎◌, ℕ, suc, ◌+◌, ◌^◌, ◌<◌, ◌≤◌, Bool, true, false, List, [], ◌∷◌, ◌++◌, set, get_or, Option, Some, refl, sym, ap, subst, ◌∙◌, inl, inr, arith}
use Rattle.std.proofs.lemmas.List.{length-set, get_or-set_same, get_or-set_other}
use Rattle.std.proofs.lemmas.Bool.{cases_eq}
use Rattle.std.proofs.lemmas.Nat.Bits.{and_pow}
use Rattle.std.specs.Int.Bits.{or_add_and}
use Rattle.std.specs.Prelude.{bit_and, bit_or, slice_get}
use Rattle.std.specs.Int.{bit_at}
use mathlib.Core.Option as opt
use lib.ListN.{get_elem?}
use Rattle.atomic_table.specs.Table.{State, step, keeps, homes_after, stepped, Allows}
use Rattle.atomic_table.proofs.Lists.{set_else}
use Rattle.gentl_types.specs.declared.word.State.TheVariants.{Vacant, Held, Away}
use Rattle.board_machine.specs.declared.events.Event.TheVariants.{LookOut, SweepOut, Close}
use Rattle.board_machine.specs.Places.{times, put_all}
use Rattle.board_machine.specs.Machine.{Board, Item, word_at, hand, places, entry, set_hand}
use Rattle.board_machine.specs.Histories.{After}
use Rattle.board_machine.specs.Owners.{due, IsCounted}
use Rattle.board_machine.proofs.Runs.{run_owned, after-push}
use Rattle.board_machine.proofs.Places.{same_other}
use Rattle.board_machine.proofs.Counts.{due_le}
use Rattle.board_machine.proofs.Room.{out_few}
use Rattle.buffer_words.specs.declared.view.View.{View}
use Rattle.buffer_words.specs.declared.view.Stage.TheVariants.{Idle}
use Rattle.buffer_words.specs.Codes.{IsPool, out_code, mark_code}
use Rattle.buffer_words.specs.Rule.{Slot, Slots, Homes, idle, Shows, Stored, Shelved, Kept}
use Rattle.buffer_words.specs.Plays.{Seated}
use Rattle.buffer_words.specs.Passes.{slot_places}
use Rattle.buffer_words.specs.Output.{AreFields, IsOut, ReadsOut, looked_out, closed_out, swept_out}
use Rattle.buffer_words.proofs.Frames.{idle_adds, idle_waits}
use Rattle.buffer_words.proofs.Own.{looking}
use Rattle.buffer_words.proofs.Sweeps.{takes_all, carried_all, homes_else, homes_wide, gather}
use Rattle.buffer_words.proofs.Fields.{out_is, out_small}

-- the board with another output, other hands and another close mark
abbrev pub with_out : Board → List (Option (List ℕ)) → List Item → Bool → Board
with_out b hands out closed = record b { hands = hands; out = out; closed = closed }

pub shows_out : (b : Board) (hands : List (Option (List ℕ))) (out : List Item) (closed : Bool) (words : List ℕ) (n : ℕ) → n ≡ out_code (places out) + mark_code closed
    → Shows b words → Shows (with_out b hands out closed) (set words 16 n)
shows_out b hands out closed words n is shows = record {
  wide = length-set words 16 n ∙ shows.wide;
  own = λ i lt. get_or-set_other words 16 i n 0 (λ e. absurd (omega arith)) ∙ shows.own i lt;
  pool = subst (λ m. IsPool m b.pool) (sym (get_or-set_other words 16 15 n 0 (λ e. absurd (omega arith)))) shows.pool;
  out = get_or-set_same words 16 n 0 (omega (arith, shows.wide)) ∙ is;
  kill = get_or-set_other words 16 17 n 0 (λ e. absurd (omega arith)) ∙ shows.kill;
  run = get_or-set_other words 16 18 n 0 (λ e. absurd (omega arith)) ∙ shows.run;
}

-- the output's places as fields
pub out_fields : (b : Board) → IsCounted b → AreFields (out_code (places b.out)) (places b.out)
out_fields b owned = let few = out_few b owned in record { number = refl; single = few.once; below = few.below }

pub out_now : (s : State Slot View) (k : Kept s) → IsOut (get_or s.words 16 0) (places (After k.history).out) (After k.history).closed
out_now s k =
    out_is (get_or s.words 16 0) (places (After k.history).out) (After k.history).closed k.shows.out
    (out_fields (After k.history) (run_owned k.history k.run))

-- a step that adds nothing
pub waiting_out : (s : State Slot View) (id : ℕ) (me : Seated) (k : Kept s) → me.0.stage ≡ Idle → get_elem? s.views id ≡ opt.some me.0
    → Kept (stepped s 16 (get_or s.words 16 0) id me.1 (idle me.0.number k.history) keeps)
    × ReadsOut me (get_or s.words 16 0) (idle me.0.number k.history, me.1)
waiting_out s id me k st at =
    let both = idle_waits s id 16 me.1 me.0 k st at in
    (both.0, record { waited = both.1; slots = refl; sees = k.shows.out })

pub looks_out : (slots id : ℕ) (me : Seated) → me.0.stage ≡ Idle → Allows Kept slots id me 16 (λ n. n) (looked_out (step slots 16 0 0 opt.none) me)
looks_out slots id me st s k homes at small =
    let event = LookOut (places (After k.history).out) (After k.history).closed in
    let both = looking s id 16 me event k st at (refl, refl) (λ j e. cc) refl in (
      idle me.0.number (k.history ++ entry me.0.number event ∷ []),
      keeps,
      tt,
      both.0,
      record { places = places (After k.history).out; closed = (After k.history).closed; is = out_now s k; looks = both.1 },
    )

-- slots where the output has changed, and one place whose buffer comes to it or leaves it
pub shelved_out : (b : Board) (hands : List (Option (List ℕ))) (out : List Item) (homes : Homes) (i : ℕ) (x : opt.Option Slot)
    → (word_at b i).state ≡ Away → times i b.pool ≡ 0
    → ((n : ℕ) (y : Item) → slice_get out n ≡ Some y → get_elem? (set homes i x) y.place ≡ opt.some (opt.some (Some y.filling)))
    → Shelved b homes → Shelved (with_out b hands out b.closed) (set homes i x)
shelved_out b hands out homes i x away unpooled filled sh = record {
  wide = length-set homes i x ∙ sh.wide;
  vacant = λ j lt v. set_else homes i j x (λ e. let q : (word_at b i).state ≡ Vacant = ap (λ m. (word_at b m).state) (sym e) ∙ v in absurd (cc)) ∙ sh.vacant j lt v;
  laid = λ j h. stays j (λ e. let q : (word_at b i).state ≡ Held = ap (λ m. (word_at b m).state) (sym e) ∙ h in absurd (cc)) (sh.laid j h);
  pooled = λ j more. stays j (λ e. absurd (omega (arith, more, unpooled, ap (λ m. times m b.pool) e))) (sh.pooled j more);
  filled = filled;
}
  where
    stays : (j : ℕ) → j ≢ i → Stored b homes j → Stored (with_out b hands out b.closed) (set homes i x) j
    stays j ne st = record { filling = st.filling; is = set_else homes i j x ne ∙ st.is; size = st.size }

-- the mark stands after it's set
closed_number : (n c : ℕ) (closed : Bool) → n ≡ c + mark_code closed → c < 1152921504606846976 → bit_or n 1152921504606846976 ≡ c + 1152921504606846976
closed_number n c true e small =
    let stands : bit_at n 60 ≡ 1 = omega arith in
    omega (arith, or_add_and n 1152921504606846976, and_pow n 60)
closed_number n c false e small =
    let none : bit_at n 60 ≡ 0 = omega arith in
    omega (arith, or_add_and n 1152921504606846976, and_pow n 60)

shelved_closed : (b : Board) (homes : Homes) → Shelved b homes → Shelved (with_out b b.hands b.out true) homes
shelved_closed b homes sh = record {
  wide = sh.wide;
  vacant = sh.vacant;
  laid = λ i h. stays i (sh.laid i h);
  pooled = λ i more. stays i (sh.pooled i more);
  filled = sh.filled;
}
  where
    stays : (i : ℕ) → Stored b homes i → Stored (with_out b b.hands b.out true) homes i
    stays i st = record { filling = st.filling; is = st.is; size = st.size }

pub closes : (slots id mark : ℕ) (me : Seated) → me.0.stage ≡ Idle → mark ≡ 2 ^ 60 → Allows Kept slots id me 16 (λ n. bit_or n mark) (closed_out (step slots 16 mark 0 opt.none) me)
closes slots id mark me st is s k homes at small =
    let b = After k.history in
    let number : bit_or (get_or s.words 16 0) mark ≡ out_code (places b.out) + 1152921504606846976 =
    ap (λ m. bit_or (get_or s.words 16 0) m) is
    ∙ closed_number (get_or s.words 16 0) (out_code (places b.out)) b.closed k.shows.out (out_small (places b.out) (out_fields b (run_owned k.history k.run))) in
    let both = idle_adds s id 16 (bit_or (get_or s.words 16 0) mark) me.1 keeps me.0 Close k st at tt (λ j q. cc)
    (shows_out b b.hands b.out true s.words (bit_or (get_or s.words 16 0) mark) number k.shows)
    (shelved_closed b s.homes k.shelved) in
    (idle me.0.number (k.history ++ entry me.0.number Close ∷ []), keeps, tt, both.0, record { entered = both.1; slots = refl })

-- an entry of the output with this place
pub record FoundItem (xs : List Item) (i : ℕ) : Type 0 where
  pub position : ℕ
  pub item : Item
  pub there : slice_get xs position ≡ Some item
  pub place : item.place ≡ i

find_item : (xs : List Item) (i : ℕ) → 1 ≤ times i (places xs) → FoundItem xs i
find_item [] i some = absurd (omega (arith, some))
find_item (x ∷ xs) i some = go (cases_eq i x.place) (λ more. find_item xs i more)
  where
    go : (i ≡ x.place) ⊎ (i ≢ x.place) → (1 ≤ times i (places xs) → FoundItem xs i) → FoundItem (x ∷ xs) i
    go (inl e) later = record { position = 0; item = x; there = refl; place = sym e }
    go (inr ne) later =
        let found = later (omega (arith, some, same_other i x.place ne)) in
        record { position = suc found.position; item = found.item; there = found.there; place = found.place }

-- the slot of a place in the output holds its buffer
stored_out : (b : Board) (homes : Homes) (i : ℕ) → IsCounted b → Shelved b homes → 1 ≤ times i (places b.out) → Stored b homes i
stored_out b homes i owned sh some =
    let found = find_item b.out i some in
    subst (λ j. Stored b homes j) found.place (record {
      filling = found.item.filling;
      is = sh.filled found.position found.item found.there;
      size = owned.sized found.position found.item found.there;
    })

-- slots of an output that was swept
shelved_swept_out : (b : Board) (hands : List (Option (List ℕ))) (hs : Homes) (c xs : Slots) → IsCounted b → slot_places xs ≡ places b.out
    → Shelved b hs → Shelved (with_out b hands [] b.closed) (homes_after hs c (takes_all xs))
shelved_swept_out b hands hs c xs owned all sh = record {
  wide = homes_wide hs c xs ∙ sh.wide;
  vacant = λ j lt v. homes_else hs c xs j (out_of j (omega (arith, ap due v))) ∙ sh.vacant j lt v;
  laid = λ j h. stays j (out_of j (omega (arith, ap due h))) (sh.laid j h);
  pooled = λ j more. stays j (out_of j (omega (arith, more, due_le (word_at b j).state))) (sh.pooled j more);
  filled = λ n y e. absurd (cc);
}
  where
    out_of : (j : ℕ) → due (word_at b j).state ≤ times j b.pool → times j (slot_places xs) ≡ 0
    out_of j none = omega (arith, ap (λ l. times j l) all, owned.once j, none)

    stays : (j : ℕ) → times j (slot_places xs) ≡ 0 → Stored b hs j → Stored (with_out b hands [] b.closed) (homes_after hs c (takes_all xs)) j
    stays j none st = record { filling = st.filling; is = homes_else hs c xs j none ∙ st.is; size = st.size }

-- the mark alone is left
mark_left : (n c : ℕ) (closed : Bool) → n ≡ c + mark_code closed → c < 1152921504606846976 → bit_and n 1152921504606846976 ≡ 0 + mark_code closed
mark_left n c true e small =
    let stands : bit_at n 60 ≡ 1 = omega arith in
    omega (arith, and_pow n 60)
mark_left n c false e small =
    let none : bit_at n 60 ≡ 0 = omega arith in
    omega (arith, and_pow n 60)

pub sweeps_out : (slots id mark : ℕ) (me : Seated) → me.0.stage ≡ Idle → mark ≡ 2 ^ 60 → Allows Kept slots id me 16 (λ n. bit_and n mark) (swept_out (step slots 16 mark 0 opt.none) me)
sweeps_out slots id mark me st is s k homes at small =
    let b = After k.history in
    let owned = run_owned k.history k.run in
    let event = SweepOut (places b.out) in
    let left = bit_and (get_or s.words 16 0) mark in
    let number : left ≡ 0 + mark_code b.closed =
    ap (λ m. bit_and (get_or s.words 16 0) m) is ∙ mark_left (get_or s.words 16 0) (out_code (places b.out)) b.closed k.shows.out (out_small (places b.out) (out_fields b owned)) in
    let got = gather b s.homes (places b.out) (out_few b owned).once (λ i some. stored_out b s.homes i owned k.shelved some) in
    let hands = (set_hand b me.0.number (put_all (places b.out) (hand b me.0.number))).hands in
    let both = idle_adds s id 16 left me.1 (takes_all got.slots) me.0 event k st at refl (λ j q. cc)
    (shows_out b hands [] b.closed s.words left number k.shows)
    (shelved_swept_out b hands s.homes me.1 got.slots owned got.places k.shelved) in
    let word : (i : ℕ) → word_at (After (k.history ++ entry me.0.number event ∷ [])) i ≡ word_at b i = λ i. ap (λ c. word_at c i) (after-push k.history (entry me.0.number event)) in (
      idle me.0.number (k.history ++ entry me.0.number event ∷ []),
      takes_all got.slots,
      got.valid me.1,
      both.0,
      record {
        places = places b.out;
        fields = (out_now s k).fields;
        takes = record {
          entered = both.1;
          taken = got.slots;
          places = got.places;
          slots = carried_all me.1 got.slots;
          full = λ i more. let there = got.full i more in record { filling = there.filling; is = there.is; size = there.size ∙ ap (λ w. w.size) (sym (word i)) };
        };
      },
    )
