-- Counts of fills and drops follow what was filled and dropped.
use Rattle.std.proofs.Common.{◌≡◌, ◌≢◌, ℕ, zero, suc, ◌+◌, ◌==◌, min, not, Bool, true, false, cond, ne_eqb, if◌then◌else◌, List, [], ◌∷◌, ◌++◌, length, refl, sym, ap, ◌∙◌, arith, append-nil, append_assoc}
use Rattle.std.proofs.lemmas.Bool.{cond-false}
use Rattle.std.proofs.lemmas.List.{length-append}
use Rattle.std.proofs.lemmas.List.Sums.{sum_by-append}
use Rattle.std.specs.List.{count_by}
use Rattle.board_machine.specs.declared.events.Entry.{Entry}
use Rattle.board_machine.specs.declared.events.Event.{Event}
use Rattle.board_machine.specs.Machine.{Item}
use Rattle.board_machine.specs.Adding.{entries_of}
use Rattle.board_machine.specs.Histories.{own_of}
use Rattle.board_machine.specs.Handout.{filled, handed, handed_by}
use Rattle.board_machine.proofs.Runs.{own_of-append}
use Rattle.board_machine.proofs.Handed.{filled-append}
use Rattle.script_trace.specs.Trace.{acquirer}
use Rattle.script_trace.specs.Modes.{taken_by, handed_out, dropped}
use Rattle.script_replay.specs.declared.fill_counts.FillCounts.{FillCounts}
use Rattle.script_replay.specs.Counting.{most_count, one_more, with_fill, with_dropped, counted_on, counted_in, blocks_in}
use Rattle.script_replay.proofs.Resting.{none_own}

pub counted-append : (a : FillCounts) (xs ys : List Item) → counted_on a (xs ++ ys) ≡ counted_on (counted_on a xs) ys
counted-append a [] ys = refl
counted-append a (x ∷ xs) ys = counted-append (with_fill a x.filling.rec.complete) xs ys

-- what was filled by more entries
pub blocks_grow : (es more : List Entry) → blocks_in (es ++ more) ≡ blocks_in es ++ blocks_in more
blocks_grow es more = ap filled (own_of-append acquirer es more) ∙ filled-append (own_of acquirer es) (own_of acquirer more)

-- another actor's events fill nothing for the acquisition
pub none_by : (k : ℕ) (es : List Event) → acquirer ≢ k → blocks_in (entries_of k es) ≡ []
none_by k es apart = ap filled (none_own k es apart)

-- ---- the counts

abbrev complete_in : List Item → ℕ
complete_in xs = count_by (λ x. x.filling.rec.complete) xs

-- Where the counts were those of these buffers, they are those of these and of what was filled since.
pub counts_follow : (a : FillCounts) (xs ys : List Item) → a.fills ≡ min (length xs) most_count → a.complete ≡ min (count_by (λ x. x.filling.rec.complete) xs) most_count
    → ((counted_on a ys).fills ≡ min (length (xs ++ ys)) most_count) × ((counted_on a ys).complete ≡ min (count_by (λ x. x.filling.rec.complete) (xs ++ ys)) most_count)
counts_follow a xs [] fills complete =
    (fills ∙ ap (λ zs. min (length zs) most_count) (sym (append-nil xs)), complete ∙ ap (λ zs. min (complete_in zs) most_count) (sym (append-nil xs)))
counts_follow a xs (y ∷ ys) fills complete =
    let on = counts_follow (with_fill a y.filling.rec.complete) (xs ++ y ∷ []) ys (fills_more a.fills xs y fills) (complete_more a.complete xs y y.filling.rec.complete refl complete) in (
      on.0 ∙ ap (λ zs. min (length zs) most_count) (append_assoc xs (y ∷ []) ys),
      on.1 ∙ ap (λ zs. min (complete_in zs) most_count) (append_assoc xs (y ∷ []) ys),
    )
  where
    fills_more : (n : ℕ) (zs : List Item) (z : Item) → n ≡ min (length zs) most_count → one_more n ≡ min (length (zs ++ z ∷ [])) most_count
    fills_more n zs z e = omega (arith, e, length-append zs (z ∷ []))

    complete_more : (n : ℕ) (zs : List Item) (z : Item) (b : Bool) → z.filling.rec.complete ≡ b → n ≡ min (complete_in zs) most_count → (if b then one_more n else n) ≡ min (complete_in (zs ++ z ∷ [])) most_count
    complete_more n zs z true is e =
        let more : complete_in (zs ++ z ∷ []) ≡ complete_in zs + (0 + 1) = sum_by-append (λ x. cond x.filling.rec.complete 1 0) zs (z ∷ []) ∙ ap (λ b. complete_in zs + (0 + cond b 1 0)) is in
        omega (arith, more, e)
    complete_more n zs z false is e =
        let more : complete_in (zs ++ z ∷ []) ≡ complete_in zs + (0 + 0) = sum_by-append (λ x. cond x.filling.rec.complete 1 0) zs (z ∷ []) ∙ ap (λ b. complete_in zs + (0 + cond b 1 0)) is in
        omega (arith, more, e)

-- ---- drops

pub taken-append : (who : ℕ → Bool) (es more : List Entry) → taken_by who (es ++ more) ≡ taken_by who es ++ taken_by who more
taken-append who [] more = refl
taken-append who (e ∷ es) more =
    let first : List ℕ = cond (who e.by) (handed_by e.event) [] in
    ap (λ is. first ++ is) (taken-append who es more) ∙ sym (append_assoc first (taken_by who es) (taken_by who more))

-- what takes took is counted on
pub taken_counts : (who : ℕ → Bool) (h es : List Entry) → length (taken_by who (h ++ es)) ≡ length (taken_by who h) + length (taken_by who es)
taken_counts who h es = ap length (taken-append who h es) ∙ length-append (taken_by who h) (taken_by who es)

-- the acquisition hands nothing out
pub own_hands : (es : List Event) → handed_out (entries_of acquirer es) ≡ []
own_hands [] = refl
own_hands (e ∷ es) = own_hands es

other_actor : (k : ℕ) → acquirer ≢ k → (k == acquirer) ≡ false
other_actor k apart = ne_eqb k acquirer (λ e. apart (sym e))

-- another actor drops nothing, and what it takes is handed out
pub none_dropped : (k : ℕ) (es : List Event) → acquirer ≢ k → dropped (entries_of k es) ≡ []
none_dropped k [] apart = refl
none_dropped k (e ∷ es) apart = ap (λ b. cond b (handed_by e) [] ++ dropped (entries_of k es)) (other_actor k apart) ∙ none_dropped k es apart

pub others_hand : (k : ℕ) (es : List Event) → acquirer ≢ k → handed_out (entries_of k es) ≡ handed (entries_of k es)
others_hand k [] apart = refl
others_hand k (e ∷ es) apart =
    ap (λ b. cond (not b) (handed_by e) [] ++ handed_out (entries_of k es)) (other_actor k apart) ∙ ap (λ is. handed_by e ++ is) (others_hand k es apart)

fills_apart : (a : FillCounts) (d : ℕ) (xs : List Item) → counted_on (record a { dropped = d }) xs ≡ record (counted_on a xs) { dropped = d }
fills_apart a d [] = refl
fills_apart a d (x ∷ xs) = fills_apart (with_fill a x.filling.rec.complete) d xs

dropped_apart : (a : FillCounts) (xs : List Item) → (counted_on a xs).dropped ≡ a.dropped
dropped_apart a [] = refl
dropped_apart a (x ∷ xs) = dropped_apart (with_fill a x.filling.rec.complete) xs

some_dropped : (a : FillCounts) (n : ℕ) → with_dropped a (suc n) ≡ record a { dropped = min (a.dropped + suc n) most_count }
some_dropped a n =
    let apart : suc n ≢ 0 = λ e. omega (arith, e) in
    cond-false (suc n == 0) a (record a { dropped = min (a.dropped + suc n) most_count }) (ne_eqb (suc n) 0 apart)

drops_past_fills : (a : FillCounts) (n : ℕ) (xs : List Item) → counted_on (with_dropped a n) xs ≡ with_dropped (counted_on a xs) n
drops_past_fills a zero xs = refl
drops_past_fills a (suc n) xs =
    ap (λ (c : FillCounts). counted_on c xs) (some_dropped a n)
    ∙ (fills_apart a (min (a.dropped + suc n) most_count) xs
    ∙ (ap (λ d. record (counted_on a xs) { dropped = min (d + suc n) most_count }) (sym (dropped_apart a xs)) ∙ sym (some_dropped (counted_on a xs) n)))

dropped_twice : (a : FillCounts) (m n : ℕ) → with_dropped (with_dropped a m) n ≡ with_dropped a (m + n)
dropped_twice a zero n = let same : n ≡ zero + n = omega arith in ap (with_dropped a) same
dropped_twice a (suc m) zero = let same : suc m ≡ suc m + zero = omega arith in ap (with_dropped a) same
dropped_twice a (suc m) (suc n) =
    let same : suc (m + suc n) ≡ suc m + suc n = omega arith in
    let most : min (min (a.dropped + suc m) most_count + suc n) most_count ≡ min (a.dropped + suc (m + suc n)) most_count = omega arith in
    ap (λ (c : FillCounts). with_dropped c (suc n)) (some_dropped a m)
    ∙ (some_dropped (record a { dropped = min (a.dropped + suc m) most_count }) n
    ∙ (ap (λ d. record a { dropped = d }) most ∙ (sym (some_dropped a (m + suc n)) ∙ ap (with_dropped a) same)))

-- with more entries
pub counted-more : (a : FillCounts) (es more : List Entry) → counted_in a (es ++ more) ≡ counted_in (counted_in a es) more
counted-more a es more =
    let n : ℕ = length (dropped es) in
    let m : ℕ = length (dropped more) in
    let b : FillCounts = counted_on a (blocks_in es) in
    ap (λ xs. with_dropped (counted_on a xs) (length (dropped (es ++ more)))) (blocks_grow es more)
    ∙ (ap (λ c. with_dropped c (length (dropped (es ++ more)))) (counted-append a (blocks_in es) (blocks_in more))
    ∙ (ap (with_dropped (counted_on b (blocks_in more))) (taken_counts _ es more)
    ∙ (sym (dropped_twice (counted_on b (blocks_in more)) n m) ∙ ap (λ c. with_dropped c m) (sym (drops_past_fills b n (blocks_in more))))))

-- another actor's events count nothing
pub counted-none : (a : FillCounts) (k : ℕ) (es : List Event) → acquirer ≢ k → counted_in a (entries_of k es) ≡ a
counted-none a k es apart =
    ap (λ xs. with_dropped (counted_on a xs) (length (dropped (entries_of k es)))) (none_by k es apart) ∙ ap (λ is. with_dropped a (length is)) (none_dropped k es apart)

-- what was counted before and what is dropped now
pub drops_follow : (b : FillCounts) (m n : ℕ) → b.dropped ≡ min m most_count → (with_dropped b n).dropped ≡ min (m + n) most_count
drops_follow b m zero was = omega (arith, was)
drops_follow b m (suc n) was =
    let more : min (b.dropped + suc n) most_count ≡ min (m + suc n) most_count = omega (arith, was) in
    ap (λ (c : FillCounts). c.dropped) (some_dropped b n) ∙ more

pub same_fills : (b : FillCounts) (n : ℕ) → (with_dropped b n).fills ≡ b.fills
same_fills b zero = refl
same_fills b (suc n) = ap (λ (c : FillCounts). c.fills) (some_dropped b n)

pub same_complete : (b : FillCounts) (n : ℕ) → (with_dropped b n).complete ≡ b.complete
same_complete b zero = refl
same_complete b (suc n) = ap (λ (c : FillCounts). c.complete) (some_dropped b n)

pub still_dropped : (b : FillCounts) (xs : List Item) → (counted_on b xs).dropped ≡ b.dropped
still_dropped b xs = dropped_apart b xs
