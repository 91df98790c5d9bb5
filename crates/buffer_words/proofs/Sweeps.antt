-- The sweep of the pool keeps the rule.
use Rattle.std.proofs.Common.{◌≡◌, ◌≢◌, ◌⊎◌, ℕ, ◌≤◌, List, [], ◌∷◌, ◌++◌, length, Option, Some, refl, sym, ap, subst, ◌∙◌, inl, inr, arith}
use Rattle.std.proofs.lemmas.List.{length-set}
use Rattle.std.proofs.lemmas.Bool.{cases_eq}
use Rattle.std.proofs.lemmas.Nat.Bits.{bit_at-zero}
use mathlib.Core.Option as opt
use lib.ListN.{get_elem?}
use Rattle.gev_types.specs.Filling.{Filling}
use Rattle.atomic_table.specs.Table.{Act, step, keeps, takes, chain, carried_after, homes_after, Valid, Allows}
use Rattle.atomic_table.proofs.Lists.{set_else}
use Rattle.board_machine.specs.declared.events.Event.TheVariants.{SweepPool}
use Rattle.board_machine.specs.Places.{same, times, put_all}
use Rattle.board_machine.specs.Machine.{Board, word_at, hand, entry, set_hand}
use Rattle.board_machine.specs.Histories.{After}
use Rattle.board_machine.specs.Owners.{due, IsCounted}
use Rattle.board_machine.proofs.Places.{same_self, same_other}
use Rattle.board_machine.proofs.Counts.{in_places, due_le}
use Rattle.board_machine.proofs.Runs.{run_owned, after-push}
use Rattle.board_machine.proofs.Rising.{run_rises}
use Rattle.buffer_words.specs.declared.view.Stage.TheVariants.{Idle}
use Rattle.buffer_words.specs.Rule.{Slot, Slots, Homes, idle, Stored, Shelved, Kept}
use Rattle.buffer_words.specs.Plays.{Seated}
use Rattle.buffer_words.specs.Passes.{slot_places, slot_of}
use Rattle.buffer_words.specs.Swept.{swept_pool}
use Rattle.buffer_words.proofs.Frames.{idle_adds}
use Rattle.buffer_words.proofs.Pools.{with_pool, shows_pool}
use Rattle.buffer_words.proofs.Turns.{slot_here, slot_else}

-- the act that takes these slots, the first one last
abbrev pub takes_all : Slots → Act Slot
takes_all [] = keeps
takes_all (x ∷ xs) = chain (takes_all xs) (takes x.0 x.1)

pub carried_all : (c xs : Slots) → carried_after c (takes_all xs) ≡ xs ++ c
carried_all c [] = refl
carried_all c (x ∷ xs) = ap (λ l. x ∷ l) (carried_all c xs)

pub homes_else : (hs : Homes) (c xs : Slots) (j : ℕ) → times j (slot_places xs) ≡ 0 → get_elem? (homes_after hs c (takes_all xs)) j ≡ get_elem? hs j
homes_else hs c [] j none = refl
homes_else hs c (x ∷ xs) j none =
    set_else (homes_after hs c (takes_all xs)) x.0 j opt.none
    (λ e. let one : same j x.0 ≡ 1 = ap (λ m. same j m) (sym e) ∙ same_self j in absurd (omega (arith, none)))
    ∙ homes_else hs c xs j (omega (arith, none))

pub homes_wide : (hs : Homes) (c xs : Slots) → length (homes_after hs c (takes_all xs)) ≡ length hs
homes_wide hs c [] = refl
homes_wide hs c (x ∷ xs) = length-set (homes_after hs c (takes_all xs)) x.0 opt.none ∙ homes_wide hs c xs

-- the slot of a place among these holds its buffer
pub record Found (b : Board) (xs : Slots) (i : ℕ) : Type 0 where
  pub filling : Filling
  pub is : slot_of i xs ≡ Some (Some filling)
  pub size : length filling.bytes ≡ (word_at b i).size

-- the slots of these places, as they stand at home
pub record Gathered (b : Board) (hs : Homes) (is : List ℕ) : Type 0 where
  pub slots : Slots
  pub places : slot_places slots ≡ is
  pub valid : (c : Slots) → Valid hs c (takes_all slots)
  pub full : (i : ℕ) → 1 ≤ times i is → Found b slots i

gather_one : (b : Board) (hs : Homes) (i : ℕ) (is : List ℕ) → ((j : ℕ) → times j (i ∷ is) ≤ 1) → ((j : ℕ) → 1 ≤ times j (i ∷ is) → Stored b hs j)
    → Gathered b hs is → Gathered b hs (i ∷ is)
gather_one b hs i is single stored others = record {
  slots = (i, Some first.filling) ∷ others.slots;
  places = ap (λ l. i ∷ l) others.places;
  valid = λ c. (
    others.valid c,
    homes_else hs c others.slots i (ap (λ l. times i l) others.places ∙ alone) ∙ first.is,
  );
  full = λ j more. at j more (cases_eq j i);
}
  where
    first : Stored b hs i
    first = stored i (omega (arith, same_self i))

    alone : times i is ≡ 0
    alone = omega (arith, single i, same_self i)

    at : (j : ℕ) → 1 ≤ times j (i ∷ is) → (j ≡ i) ⊎ (j ≢ i) → Found b ((i, Some first.filling) ∷ others.slots) j
    at j more (inl e) = subst (λ m. Found b ((i, Some first.filling) ∷ others.slots) m) (sym e)
        (record { filling = first.filling; is = slot_here i (Some first.filling) others.slots; size = first.size })
    at j more (inr ne) =
        let apart : same j i ≡ 0 = same_other j i ne in
        let there = others.full j (omega (arith, more)) in
        record { filling = there.filling; is = slot_else j i (Some first.filling) others.slots ne ∙ there.is; size = there.size }

pub gather : (b : Board) (hs : Homes) (is : List ℕ) → ((i : ℕ) → times i is ≤ 1) → ((i : ℕ) → 1 ≤ times i is → Stored b hs i) → Gathered b hs is
gather b hs [] single stored = record { slots = []; places = refl; valid = λ c. tt; full = λ i more. absurd (omega (arith, more)) }
gather b hs (i ∷ is) single stored =
    gather_one b hs i is single stored (gather b hs is (λ j. omega (arith, single j)) (λ j more. stored j (omega (arith, more))))

-- slots of a pool that was swept
pub shelved_swept : (b : Board) (hands : List (Option (List ℕ))) (hs : Homes) (c xs : Slots) → IsCounted b → slot_places xs ≡ b.pool
    → Shelved b hs → Shelved (with_pool b hands []) (homes_after hs c (takes_all xs))
shelved_swept b hands hs c xs owned all sh = record {
  wide = homes_wide hs c xs ∙ sh.wide;
  vacant = λ j lt v. homes_else hs c xs j (out_of j (ap due v)) ∙ sh.vacant j lt v;
  laid = λ j h. let st = sh.laid j h in record { filling = st.filling; is = homes_else hs c xs j (out_of j (ap due h)) ∙ st.is; size = st.size };
  pooled = λ j more. absurd (omega (arith, more));
  filled = λ n y e. homes_else hs c xs y.place (omega (arith, ap (λ l. times y.place l) all, in_places b.out n y e, owned.once y.place, due_le (word_at b y.place).state)) ∙ sh.filled n y e;
}
  where
    out_of : (j : ℕ) → due (word_at b j).state ≡ 0 → times j (slot_places xs) ≡ 0
    out_of j none = omega (arith, ap (λ l. times j l) all, owned.once j, none)

pub sweeps : (slots id : ℕ) (me : Seated) → me.0.stage ≡ Idle → Allows Kept slots id me 15 (λ _. 0) (swept_pool (step slots 15 0 0 opt.none) me)
sweeps slots id me st s k homes at small =
    let b = After k.history in
    let owned = run_owned k.history k.run in
    let event = SweepPool b.pool in
    let got = gather b s.homes b.pool (λ i. omega (arith, owned.once i, due_le (word_at b i).state)) k.shelved.pooled in
    let hands = (set_hand b me.0.number (put_all b.pool (hand b me.0.number))).hands in
    let both = idle_adds s id 15 0 me.1 (takes_all got.slots) me.0 event k st at refl (λ j q. cc)
    (shows_pool b hands [] s.words 0 (omega arith, λ i. bit_at-zero i) k.shows)
    (shelved_swept b hands s.homes me.1 got.slots owned got.places k.shelved) in
    let word : (i : ℕ) → word_at (After (k.history ++ entry me.0.number event ∷ [])) i ≡ word_at b i = λ i. ap (λ c. word_at c i) (after-push k.history (entry me.0.number event)) in (
      idle me.0.number (k.history ++ entry me.0.number event ∷ []),
      takes_all got.slots,
      got.valid me.1,
      both.0,
      record {
        places = b.pool;
        is = k.shows.pool;
        rising = (run_rises k.history k.run).pool;
        takes = record {
          entered = both.1;
          taken = got.slots;
          places = got.places;
          slots = carried_all me.1 got.slots;
          full = λ i more. let there = got.full i more in record { filling = there.filling; is = there.is; size = there.size ∙ ap (λ w. w.size) (sym (word i)) };
        };
      },
    )
