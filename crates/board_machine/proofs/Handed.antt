-- What takes handed out, with the content of its fill.
use Rattle.std.proofs.Common.{◌≡◌, ℕ, zero, suc, Bool, true, false, cond, List, [], ◌∷◌, ◌++◌, ◌==◌, length, take, replicate, refl, sym, ap, subst, ◌∙◌, arith, append_assoc, append-nil, length-append, eq-eqb}
use Rattle.std.proofs.lemmas.Bool.{cond_both}
use Rattle.std.proofs.lemmas.List.{take_at, length-replicate}
use Rattle.gev_types.specs.Filling.{Filling}
use Rattle.board_machine.specs.declared.events.Entry.{Entry}
use Rattle.board_machine.specs.declared.events.Event.{Event}
use Rattle.board_machine.specs.declared.events.Event.TheVariants.{Take, SweepOut}
use Rattle.board_machine.specs.declared.events.TakeEnd.TheVariants.{Taken, Empty, Closed}
use Rattle.board_machine.specs.Machine.{Item, item, places, Meets, empty_board}
use Rattle.board_machine.specs.Histories.{after_from, After, Run, own_of}
use Rattle.board_machine.specs.Handout.{filled_by, removed_by, handed_by, marks_by, filled, removed, handed, marks, marked, removed_items, handed_items, items_handed_to, every_actor, only_actor, taken_items}
use Rattle.board_machine.specs.Laws.{HandsOut, TakesFirst}
use Rattle.board_machine.proofs.Runs.{runs_front, runs_rest}
use Rattle.board_machine.proofs.Handouts.{Passes, run_passes, gone_length, length-places, gone_items, run_removed, run_out}

pub filled-append : (g h : List Entry) → filled (g ++ h) ≡ filled g ++ filled h
filled-append [] h = refl
filled-append (e ∷ g) h = ap (λ xs. filled_by e.event ++ xs) (filled-append g h) ∙ sym (append_assoc (filled_by e.event) (filled g) (filled h))

pub removed-append : (g h : List Entry) → removed (g ++ h) ≡ removed g ++ removed h
removed-append [] h = refl
removed-append (e ∷ g) h = ap (λ xs. removed_by e.event ++ xs) (removed-append g h) ∙ sym (append_assoc (removed_by e.event) (removed g) (removed h))

pub handed-append : (g h : List Entry) → handed (g ++ h) ≡ handed g ++ handed h
handed-append [] h = refl
handed-append (e ∷ g) h = ap (λ xs. handed_by e.event ++ xs) (handed-append g h) ∙ sym (append_assoc (handed_by e.event) (handed g) (handed h))

pub marks-append : (who : ℕ → Bool) (g h : List Entry) → marks who (g ++ h) ≡ marks who g ++ marks who h
marks-append who [] h = refl
marks-append who (e ∷ g) h = ap (λ xs. marks_by who e.by e.event ++ xs) (marks-append who g h) ∙ sym (append_assoc (marks_by who e.by e.event) (marks who g) (marks who h))

marked_none : {A : Type 0} (n : ℕ) (xs : List A) → marked (replicate n false) xs ≡ []
marked_none zero xs = refl
marked_none (suc n) [] = refl
marked_none (suc n) (x ∷ xs) = marked_none n xs

pub marked-append : {A : Type 0} (ms ns : List Bool) (xs ys : List A) → length ms ≡ length xs → marked (ms ++ ns) (xs ++ ys) ≡ marked ms xs ++ marked ns ys
marked-append [] ns [] ys e = refl
marked-append [] ns (x ∷ xs) ys e = absurd (omega arith)
marked-append (m ∷ ms) ns [] ys e = absurd (omega arith)
marked-append (true ∷ ms) ns (x ∷ xs) ys e = ap (λ zs. x ∷ zs) (marked-append ms ns xs ys (omega arith))
marked-append (false ∷ ms) ns (x ∷ xs) ys e = marked-append ms ns xs ys (omega arith)

pub places-marked : (ms : List Bool) (xs : List Item) → places (marked ms xs) ≡ marked ms (places xs)
places-marked [] xs = refl
places-marked (m ∷ ms) [] = refl
places-marked (true ∷ ms) (x ∷ xs) = ap (λ is. x.place ∷ is) (places-marked ms xs)
places-marked (false ∷ ms) (x ∷ xs) = places-marked ms xs

length-marks_by : (who : ℕ → Bool) (k : ℕ) (event : Event) → length (marks_by who k event) ≡ length (removed_by event)
length-marks_by who k (Take (Taken i)) = refl
length-marks_by who k (Take Empty) = refl
length-marks_by who k (Take Closed) = refl
length-marks_by who k (SweepOut is) = length-replicate (length is) false
length-marks_by who k _ = refl

pub length-marks : (who : ℕ → Bool) (h : List Entry) → length (marks who h) ≡ length (removed h)
length-marks who [] = refl
length-marks who (e ∷ h) =
    omega (arith, length-append (marks_by who e.by e.event) (marks who h), length-append (removed_by e.event) (removed h), length-marks_by who e.by e.event, length-marks who h)

-- the marked ones of the places that an event removed
marked_all_by : (k : ℕ) (event : Event) → marked (marks_by every_actor k event) (removed_by event) ≡ handed_by event
marked_all_by k (Take (Taken i)) = refl
marked_all_by k (Take Empty) = refl
marked_all_by k (Take Closed) = refl
marked_all_by k (SweepOut is) = marked_none (length is) is
marked_all_by k _ = refl

-- the marked ones of the removed places are the handed ones
marked_all : (h : List Entry) → marked (marks every_actor h) (removed h) ≡ handed h
marked_all [] = refl
marked_all (e ∷ h) =
    marked-append (marks_by every_actor e.by e.event) (marks every_actor h) (removed_by e.event) (removed h) (length-marks_by every_actor e.by e.event)
    ∙ (ap (λ is. is ++ marked (marks every_actor h) (removed h)) (marked_all_by e.by e.event) ∙ ap (λ is. handed_by e.event ++ is) (marked_all h))

marked_own_by : (k n : ℕ) (event : Event) → (n == k) ≡ true → marked (marks_by (only_actor k) n event) (removed_by event) ≡ handed_by event
marked_own_by k n (Take (Taken i)) holds = ap (λ mark. cond mark (i ∷ []) []) holds
marked_own_by k n (Take Empty) holds = refl
marked_own_by k n (Take Closed) holds = refl
marked_own_by k n (SweepOut is) holds = marked_none (length is) is
marked_own_by k n _ holds = refl

marked_other_by : (k n : ℕ) (event : Event) → (n == k) ≡ false → marked (marks_by (only_actor k) n event) (removed_by event) ≡ []
marked_other_by k n (Take (Taken i)) fails = ap (λ mark. cond mark (i ∷ []) []) fails
marked_other_by k n (Take Empty) fails = refl
marked_other_by k n (Take Closed) fails = refl
marked_other_by k n (SweepOut is) fails = marked_none (length is) is
marked_other_by k n _ fails = refl

-- those that one actor's takes marked are the ones handed in its own entries
marked_own : (k : ℕ) (h : List Entry) → marked (marks (only_actor k) h) (removed h) ≡ handed (own_of k h)
marked_own k [] = refl
marked_own k (e ∷ h) =
    marked-append (marks_by (only_actor k) e.by e.event) (marks (only_actor k) h) (removed_by e.event) (removed h) (length-marks_by (only_actor k) e.by e.event)
    ∙ (ap (λ is. marked (marks_by (only_actor k) e.by e.event) (removed_by e.event) ++ is) (marked_own k h)
    ∙ cond_both (e.by == k) (e ∷ own_of k h) (own_of k h)
    (λ es. marked (marks_by (only_actor k) e.by e.event) (removed_by e.event) ++ handed (own_of k h) ≡ handed es)
    (λ holds. ap (λ is. is ++ handed (own_of k h)) (marked_own_by k e.by e.event holds))
    (λ fails. ap (λ is. is ++ handed (own_of k h)) (marked_other_by k e.by e.event fails)))

pub run_handed : (h : List Entry) → Run h → places (handed_items h) ≡ handed h
run_handed h run = places-marked (marks every_actor h) (removed_items h) ∙ (ap (λ is. marked (marks every_actor h) is) (run_removed h run) ∙ marked_all h)

pub run_taken : (h : List Entry) (k : ℕ) → Run h → places (taken_items k h) ≡ handed (own_of k h)
run_taken h k run = places-marked (marks (only_actor k) h) (removed_items h) ∙ (ap (λ is. marked (marks (only_actor k) h) is) (run_removed h run) ∙ marked_own k h)

pub run_hands_out : (h : List Entry) → Run h → HandsOut h
run_hands_out h run = record { fills = run_removed h run; takes = run_handed h run; own_takes = λ k. run_taken h k run; waiting = run_out h run }

-- what more entries removed, and that it follows what was removed before
pub record RemovesMore (front more : List Entry) : Type 0 where
  pub items : List Item
  pub are : places items ≡ removed more
  pub after : removed_items (front ++ more) ≡ removed_items front ++ items

pub removed_more : (front more : List Entry) → Run (front ++ more) → RemovesMore front more
removed_more front more run = record {
  items = second.gone;
  are = second.are;
  after =
      ap (λ xs. take (length (removed (front ++ more))) xs) came
      ∙ (take_at (first.gone ++ second.gone) (after_from (After front) more).out (length (removed (front ++ more))) same_length
      ∙ ap (λ xs. xs ++ second.gone) (sym (gone_items front first)));
}
  where
    first : Passes [] (filled front) (removed front) (After front).out
    first = run_passes empty_board front (runs_front empty_board front more run)

    second : Passes (After front).out (filled more) (removed more) (after_from (After front) more).out
    second = run_passes (After front) more (runs_rest empty_board front more run)

    came : filled (front ++ more) ≡ (first.gone ++ second.gone) ++ (after_from (After front) more).out
    came =
        filled-append front more
        ∙ (ap (λ xs. xs ++ filled more) first.split
        ∙ (append_assoc first.gone (After front).out (filled more)
        ∙ (ap (λ xs. first.gone ++ xs) second.split ∙ sym (append_assoc first.gone second.gone (after_from (After front) more).out))))

    same_length : length (first.gone ++ second.gone) ≡ length (removed (front ++ more))
    same_length =
        omega (arith, length-append first.gone second.gone, ap length (removed-append front more), length-append (removed front) (removed more), gone_length front first, length-places second.gone, ap length second.are)

-- what these actors were handed grows by what they were handed in the entries that follow
pub handed_more : (who : ℕ → Bool) (front more : List Entry) (m : RemovesMore front more) → Run front → items_handed_to who (front ++ more) ≡ items_handed_to who front ++ marked (marks who more) m.items
handed_more who front more m run =
    ap (λ xs. marked (marks who (front ++ more)) xs) m.after
    ∙ (ap (λ ms. marked ms (removed_items front ++ m.items)) (marks-append who front more)
    ∙ marked-append (marks who front) (marks who more) (removed_items front) m.items same_length)
  where
    first : Passes [] (filled front) (removed front) (After front).out
    first = run_passes empty_board front run

    same_length : length (marks who front) ≡ length (removed_items front)
    same_length = length-marks who front ∙ (sym (gone_length front first) ∙ sym (ap length (gone_items front first)))

no_places : (xs : List Item) → places xs ≡ [] → xs ≡ []
no_places [] e = refl
no_places (x ∷ xs) e = absurd (cc)

-- what an actor took stays where it takes nothing more
pub taken_stays : (front more : List Entry) (k : ℕ) → Run (front ++ more) → handed (own_of k more) ≡ [] → taken_items k (front ++ more) ≡ taken_items k front
taken_stays front more k run none =
    handed_more (only_actor k) front more m (runs_front empty_board front more run)
    ∙ (ap (λ xs. taken_items k front ++ xs) nothing_more ∙ append-nil (taken_items k front))
  where
    m : RemovesMore front more
    m = removed_more front more run

    nothing_more : marked (marks (only_actor k) more) m.items ≡ []
    nothing_more = no_places _ (places-marked (marks (only_actor k) more) m.items ∙ (ap (λ is. marked (marks (only_actor k) more) is) m.are ∙ (marked_own k more ∙ none)))

-- the output's first entry, taken
taken_first : (h : List Entry) (e : Entry) (i : ℕ) (f : Filling) (rest : List Item) → Run h → e.event ≡ Take (Taken i) → (After h).out ≡ item i f ∷ rest → removed_items (h ++ e ∷ []) ≡ removed_items h ++ item i f ∷ []
taken_first h e i f rest run is first =
    ap (λ xs. take (length (removed (h ++ e ∷ []))) xs) came
    ∙ (take_at (before.gone ++ item i f ∷ []) rest (length (removed (h ++ e ∷ []))) same_length
    ∙ ap (λ xs. xs ++ item i f ∷ []) (sym (gone_items h before)))
  where
    before : Passes [] (filled h) (removed h) (After h).out
    before = run_passes empty_board h run

    came : filled (h ++ e ∷ []) ≡ (before.gone ++ item i f ∷ []) ++ rest
    came =
        filled-append h (e ∷ [])
        ∙ (ap (λ event. filled h ++ (filled_by event ++ [])) is
        ∙ (append-nil (filled h)
        ∙ (before.split ∙ (ap (λ xs. before.gone ++ xs) first ∙ sym (append_assoc before.gone (item i f ∷ []) rest)))))

    went : removed (h ++ e ∷ []) ≡ removed h ++ i ∷ []
    went = removed-append h (e ∷ []) ∙ ap (λ event. removed h ++ (removed_by event ++ [])) is

    same_length : length (before.gone ++ item i f ∷ []) ≡ length (removed (h ++ e ∷ []))
    same_length =
        omega (arith, ap length went, length-append before.gone (item i f ∷ []), length-append (removed h) (i ∷ []), gone_length h before)

pub take_hands : (h : List Entry) (e : Entry) (i : ℕ) → Run (h ++ e ∷ []) → e.event ≡ Take (Taken i) → TakesFirst h i e
take_hands h e i runs is = record {
  filling = meets.1.0;
  rest = meets.1.1;
  first = meets.1.2;
  removes = removes;
  hands = handed_to every_actor refl;
  taken = handed_to (only_actor e.by) (eq-eqb e.by e.by refl);
}
  where
    run : Run h
    run = runs_front empty_board h (e ∷ []) runs

    meets : Meets (After h) e.by (Take (Taken i))
    meets = subst (λ event. Meets (After h) e.by event) is (runs_rest empty_board h (e ∷ []) runs).0.meets

    removes : removed_items (h ++ e ∷ []) ≡ removed_items h ++ item i meets.1.0 ∷ []
    removes = taken_first h e i meets.1.0 meets.1.1 run is meets.1.2

    before : Passes [] (filled h) (removed h) (After h).out
    before = run_passes empty_board h run

    same_length : (who : ℕ → Bool) → length (marks who h) ≡ length (removed_items h)
    same_length who = length-marks who h ∙ (sym (gone_length h before) ∙ sym (ap length (gone_items h before)))

    mark : (who : ℕ → Bool) → who e.by ≡ true → marks who (h ++ e ∷ []) ≡ marks who h ++ true ∷ []
    mark who holds = marks-append who h (e ∷ []) ∙ (ap (λ event. marks who h ++ (marks_by who e.by event ++ [])) is ∙ ap (λ m. marks who h ++ m ∷ []) holds)

    handed_to : (who : ℕ → Bool) → who e.by ≡ true → items_handed_to who (h ++ e ∷ []) ≡ items_handed_to who h ++ item i meets.1.0 ∷ []
    handed_to who holds =
        ap (λ ms. marked ms (removed_items (h ++ e ∷ []))) (mark who holds)
        ∙ (ap (λ xs. marked (marks who h ++ true ∷ []) xs) removes
        ∙ marked-append (marks who h) (true ∷ []) (removed_items h) (item i meets.1.0 ∷ []) (same_length who))
