-- The trees of informations and of takes.
use Rattle.std.proofs.Common.{◌≡◌, ◌≢◌, ◌⊎◌, inl, inr, ℕ, ◌+◌, ◌<◌, ◌≤◌, Bool, true, false, List, [], ◌∷◌, ◌++◌, length, refl, sym, ap, subst, ◌∙◌, arith}
use Rattle.std.specs.Prelude.{◌==◌, nat_le, cond, codes, Result, Ok, Err, if◌then◌else◌}
use Rattle.std.proofs.lemmas.Bool.{eq-eqb, ne_eqb, le-leb, lt-leb}
use Rattle.std.proofs.Math.Decide.{dec_le}
use Rattle.gentl_types.specs.declared.word.Word.{Word}
use Rattle.gentl_types.specs.declared.word.State.{State}
use Rattle.gentl_types.specs.declared.word.State.TheVariants.{Vacant, Held, Away}
use Rattle.gentl_types.specs.declared.buffer_id.BufferId.{BufferId}
use Rattle.gentl_types.specs.declared.errors.GcError.{GcError}
use Rattle.gentl_types.specs.declared.errors.GcError.TheVariants.{InvalidHandle, Timeout, Abort, NotAvailable}
use Rattle.gentl_types.specs.declared.errors.Shown.TheVariants as shown
use Rattle.gev_types.specs.Filling.{Filling}
use Rattle.gev_types.specs.Limits.{place_count}
use Rattle.gev_report.specs.ReplayLines.{take_line}
use Rattle.board_machine.specs.declared.events.Event.{Event}
use Rattle.board_machine.specs.declared.events.Event.TheVariants.{Look, LookPool, LookOut, LookRun, Lay, Take, Unpost}
use Rattle.board_machine.specs.declared.events.TakeEnd.TheVariants as end
use Rattle.board_machine.specs.Places.{times}
use Rattle.board_machine.specs.Machine.{Item, entry}
use Rattle.board_machine.specs.Adding.{entries_of}
use Rattle.board_machine.specs.Acts.{to_look, to_look_pool, to_look_out, to_look_run, to_lay, to_take, to_unpost}
use Rattle.board_calls.specs.Calls.{Gets, itself, IsGone}
use Rattle.board_calls.specs.Infos.{IsOneWhere, Infos, IsStreamInfo, IsLive, BufferInfos}
use Rattle.board_model.specs.Plain.{no_filling}
use Rattle.script_trace.specs.Trace.{Trace, Part, board, caller, only_says}
use Rattle.script_trace.specs.Answers.{refused_text, value_text}
use Rattle.board_machine.specs.Ids.{buffer_at}
use Rattle.script_trace.specs.BoardLines.{TakesBuffer}
use Rattle.script_trace.proofs.Trees.{Tree, asks, Follows, nowhere, follows_along, looks_tree, looks_follow}
use Rattle.script_trace.proofs.CallTrees.{leaf, at_leaf}

-- 1 where the test holds, else 0
abbrev one_if : Bool → ℕ
one_if b = cond b 1 0

one_where : (value : ℕ) (P : Type 0) (b : Bool) → (P → b ≡ true) → ((P → ⊥) → b ≡ false) → IsOneWhere value P → value ≡ one_if b
one_where value P b holds fails (inl (is, so)) = is ∙ sym (ap one_if (holds so))
one_where value P b holds fails (inr (is, none)) = is ∙ sym (ap one_if (fails none))

-- ---- info

abbrev told : Trace → ℕ → ℕ → Tree
told t which value = leaf t (value_text (codes "info") which (Ok value))

abbrev out_told : Trace → ℕ → Event → Tree
out_told t which (LookOut output closed) = told t which (length output)
out_told t which _ = nowhere

abbrev run_told : Trace → ℕ → Event → Tree
run_told t which (LookRun run) = told t which (one_if (run == 1))
run_told t which _ = nowhere

abbrev pool_told : Trace → ℕ → Event → Tree
pool_told t which (LookPool pooled) = told t which (length pooled)
pool_told t which _ = nowhere

abbrev info_by : Trace → ℕ → ℕ → Tree
info_by t which n =
    if n == 3 then looks_tree caller 0 place_count (told t which)
    else if n == 5 then asks caller to_look_out (out_told t which)
    else if n == 8 then asks caller to_look_run (run_told t which)
    else if n == 1000 then asks caller to_look_pool (pool_told t which)
    else leaf t (value_text (codes "info") which (Err (NotAvailable which)))

abbrev pub info_tree : Trace → ℕ → Tree
info_tree t which = info_by t which which

info_other : (t : Trace) (which : ℕ) → ¬ IsStreamInfo which → info_tree t which ≡ leaf t (value_text (codes "info") which (Err (NotAvailable which)))
info_other t which none =
    let n3 : which ≢ 3 = λ e. none (inl e) in
    let n5 : which ≢ 5 = λ e. none (inr (inl e)) in
    let n8 : which ≢ 8 = λ e. none (inr (inr (inl e))) in
    let n1000 : which ≢ 1000 = λ e. none (inr (inr (inr e))) in
    let last : Tree = leaf t (value_text (codes "info") which (Err (NotAvailable which))) in
    let looks : Tree = looks_tree caller 0 place_count (told t which) in
    let outs : Tree = asks caller to_look_out (out_told t which) in
    let runs : Tree = asks caller to_look_run (run_told t which) in
    let pool : Tree = asks caller to_look_pool (pool_told t which) in
    ap (λ x. if x then looks else if which == 5 then outs else if which == 8 then runs else if which == 1000 then pool else last) (ne_eqb which 3 n3)
    ∙ (ap (λ x. if x then outs else if which == 8 then runs else if which == 1000 then pool else last) (ne_eqb which 5 n5)
    ∙ (ap (λ x. if x then runs else if which == 1000 then pool else last) (ne_eqb which 8 n8)
    ∙ ap (λ x. if x then pool else last) (ne_eqb which 1000 n1000)))

at_value : (t : Trace) (which a b : ℕ) → a ≡ b → Follows (told t which b) [] (only_says t (value_text (codes "info") which (Ok a)))
at_value t which a b is = (refl, ap (λ n. only_says t (value_text (codes "info") which (Ok n))) is)

pub info_follows : (t : Trace) (which : ℕ) (answer : Result ℕ GcError) (es : List Event) → Infos which answer es → Follows (info_tree t which) (entries_of caller es) (only_says t (value_text (codes "info") which answer))
info_follows t which (Ok value) es h = by h.known
  where
    At : ℕ → Type 0
    At n = Follows (info_by t which n) (entries_of caller es) (only_says t (value_text (codes "info") which (Ok value)))

    by : IsStreamInfo which → Follows (info_tree t which) (entries_of caller es) (only_says t (value_text (codes "info") which (Ok value)))
    by (inl e) = subst At (sym e)
        (follows_along (looks_tree caller 0 place_count (told t which)) caller es _ _ (h.announced e).is
        (looks_follow caller 0 place_count (h.announced e).words (told t which) _ (h.announced e).all (at_value t which value _ (h.announced e).value)))
    by (inr (inl e)) = subst At (sym e)
        (follows_along (asks caller to_look_out (out_told t which)) caller es _ _ (h.awaiting e).is
        (LookOut (h.awaiting e).output (h.awaiting e).closed, [], refl, refl, at_value t which value _ (h.awaiting e).value))
    by (inr (inr (inl e))) = subst At (sym e)
        (follows_along (asks caller to_look_run (run_told t which)) caller es _ _ (h.grabbing e).is (
          LookRun (h.grabbing e).run,
          [],
          refl,
          refl,
          at_value t which value _ (one_where value ((h.grabbing e).run ≡ 1) ((h.grabbing e).run == 1) (eq-eqb (h.grabbing e).run 1) (ne_eqb (h.grabbing e).run 1) (h.grabbing e).value),
        ))
    by (inr (inr (inr e))) = subst At (sym e)
        (follows_along (asks caller to_look_pool (pool_told t which)) caller es _ _ (h.pooled e).is
        (LookPool (h.pooled e).pooled, [], refl, refl, at_value t which value _ (h.pooled e).value))
info_follows t which (Err (NotAvailable n)) es (same, none, is) =
    subst (λ tree. Follows tree (entries_of caller es) (only_says t (value_text (codes "info") which (Err (NotAvailable n))))) (sym (info_other t which none))
    (ap (λ l. entries_of caller l) is, refl)
info_follows t which (Err _) es h = absurd h

-- ---- binfo of a buffer that isn't a loan

abbrev value_leaf : Trace → ℕ → ℕ → Tree
value_leaf t which value = leaf t (value_text (codes "binfo") which (Ok value))

abbrev gone_leaf : Trace → ℕ → Tree
gone_leaf t which = leaf t (value_text (codes "binfo") which (Err (InvalidHandle shown.Closed)))

abbrev out_seen : Trace → ℕ → ℕ → List ℕ → Event → Tree
out_seen t place which pooled (LookOut output closed) = value_leaf t which (one_if (nat_le 1 (times place pooled + times place output)))
out_seen t place which pooled _ = nowhere

abbrev pool_seen : Trace → ℕ → ℕ → Event → Tree
pool_seen t place which (LookPool pooled) = asks caller to_look_out (out_seen t place which pooled)
pool_seen t place which _ = nowhere

abbrev live_by : Trace → ℕ → ℕ → ℕ → ℕ → Tree
live_by t place which size n =
    if n == 1 then value_leaf t which size
    else if n == 1000 then asks caller to_look_pool (pool_seen t place which)
    else leaf t (value_text (codes "binfo") which (Err (NotAvailable which)))

abbrev by_word : Tree → Tree → State → Bool → Tree
by_word live gone Vacant same = gone
by_word live gone Held true = live
by_word live gone Held false = gone
by_word live gone Away true = live
by_word live gone Away false = gone

abbrev word_seen : Trace → BufferId → ℕ → Event → Tree
word_seen t id which (Look i w) = by_word (live_by t id.place which w.size which) (gone_leaf t which) w.state (w.generation == id.generation)
word_seen t id which _ = nowhere

abbrev binfo_at : (t : Trace) (id : BufferId) (which : ℕ) → Dec (place_count ≤ id.place) → Tree
binfo_at t id which (yes high) = gone_leaf t which
binfo_at t id which (no low) = asks caller (to_look id.place) (word_seen t id which)

abbrev pub binfo_tree : Trace → BufferId → ℕ → Tree
binfo_tree t id which = binfo_at t id which (dec_le place_count id.place)

live_state : (live gone : Tree) (s : State) → s ≢ Vacant → by_word live gone s true ≡ live
live_state live gone Vacant apart = absurd (apart refl)
live_state live gone Held apart = refl
live_state live gone Away apart = refl

gone_state : (live gone : Tree) (s : State) → by_word live gone s false ≡ gone
gone_state live gone Vacant = refl
gone_state live gone Held = refl
gone_state live gone Away = refl

is_live : (live gone : Tree) (w : Word) (g : ℕ) → IsLive w g → by_word live gone w.state (w.generation == g) ≡ live
is_live live gone w g (apart, same) = ap (λ b. by_word live gone w.state b) (eq-eqb w.generation g same) ∙ live_state live gone w.state apart

is_gone : (live gone : Tree) (w : Word) (g : ℕ) → IsGone w g → by_word live gone w.state (w.generation == g) ≡ gone
is_gone live gone w g (inl vacant) = ap (λ s. by_word live gone s (w.generation == g)) vacant
is_gone live gone w g (inr apart) = ap (λ b. by_word live gone w.state b) (ne_eqb w.generation g apart) ∙ gone_state live gone w.state

binfo_high : (t : Trace) (id : BufferId) (which : ℕ) (d : Dec (place_count ≤ id.place)) (q : Part) → place_count ≤ id.place → Follows (gone_leaf t which) [] q → Follows (binfo_at t id which d) [] q
binfo_high t id which (yes high) q is h = h
binfo_high t id which (no low) q is h = absurd (low is)

binfo_low : (t : Trace) (id : BufferId) (which : ℕ) (d : Dec (place_count ≤ id.place)) (w : Word) (rest : List Event) (q : Part) → id.place < place_count → Follows (word_seen t id which (Look id.place w)) (entries_of caller rest) q → Follows (binfo_at t id which d) (entries_of caller (Look id.place w ∷ rest)) q
binfo_low t id which (yes high) w rest q low h = absurd (omega (arith, high, low))
binfo_low t id which (no high) w rest q low h = (Look id.place w, entries_of caller rest, refl, refl, h)

live_other : (t : Trace) (place which size : ℕ) → which ≢ 1 → which ≢ 1000 → live_by t place which size which ≡ leaf t (value_text (codes "binfo") which (Err (NotAvailable which)))
live_other t place which size n1 n1000 =
    let last : Tree = leaf t (value_text (codes "binfo") which (Err (NotAvailable which))) in
    let pool : Tree = asks caller to_look_pool (pool_seen t place which) in
    ap (λ x. if x then value_leaf t which size else if which == 1000 then pool else last) (ne_eqb which 1 n1) ∙ ap (λ x. if x then pool else last) (ne_eqb which 1000 n1000)

pub binfo_follows : (t : Trace) (id : BufferId) (which : ℕ) (answer : Result ℕ GcError) (es : List Event) → BufferInfos id which answer es → Follows (binfo_tree t id which) (entries_of caller es) (only_says t (value_text (codes "binfo") which answer))
binfo_follows t id which (Ok value) es h = by h.known
  where
    q : Part
    q = only_says t (value_text (codes "binfo") which (Ok value))

    seen : (rest : List Event) → Follows (live_by t id.place which h.word.size which) (entries_of caller rest) q → Follows (binfo_tree t id which) (entries_of caller (Look id.place h.word ∷ rest)) q
    seen rest f =
        binfo_low t id which (dec_le place_count id.place) h.word rest q h.in_range
        (subst (λ tree. Follows tree (entries_of caller rest) q) (sym (is_live (live_by t id.place which h.word.size which) (gone_leaf t which) h.word id.generation h.live)) f)

    at : (n : ℕ) → Follows (value_leaf t which n) [] (only_says t (value_text (codes "binfo") which (Ok n)))
    at n = (refl, refl)

    by : (which ≡ 1) ⊎ (which ≡ 1000) → Follows (binfo_tree t id which) (entries_of caller es) q
    by (inl e) =
        follows_along (binfo_tree t id which) caller es (Look id.place h.word ∷ []) q (h.size e).is
        (seen [] (subst (λ n. Follows (live_by t id.place which h.word.size n) [] q) (sym e) (refl, ap (λ n. only_says t (value_text (codes "binfo") which (Ok n))) (h.size e).value)))
    by (inr e) =
        let looks = (h.queued e).looks in
        let count : ℕ = times id.place looks.pooled + times id.place looks.output in
        let value_is : value ≡ one_if (nat_le 1 count)
        = one_where value (1 ≤ count) (nat_le 1 count) (le-leb 1 count) (λ none. lt-leb 1 count (omega (arith, none))) looks.value in
        follows_along (binfo_tree t id which) caller es (Look id.place h.word ∷ LookPool looks.pooled ∷ LookOut looks.output looks.closed ∷ []) q
        ((h.queued e).is ∙ ap (λ l. Look id.place h.word ∷ l) looks.is)
        (seen (LookPool looks.pooled ∷ LookOut looks.output looks.closed ∷ [])
        (subst (λ n. Follows (live_by t id.place which h.word.size n) (entries_of caller (LookPool looks.pooled ∷ LookOut looks.output looks.closed ∷ [])) q) (sym e) (
          LookPool looks.pooled,
          entries_of caller (LookOut looks.output looks.closed ∷ []),
          refl,
          refl,
          (LookOut looks.output looks.closed, [], refl, refl, (refl, ap (λ n. only_says t (value_text (codes "binfo") which (Ok n))) value_is)),
        )))
binfo_follows t id which (Err (InvalidHandle (shown.NoHandle n))) es (high, same, is) =
    follows_along (binfo_tree t id which) caller es [] _ is (binfo_high t id which (dec_le place_count id.place) _ high (refl, refl))
binfo_follows t id which (Err (InvalidHandle (shown.Word w))) es (low, gone, is) =
    follows_along (binfo_tree t id which) caller es (Look id.place w ∷ []) _ is
    (binfo_low t id which (dec_le place_count id.place) w [] _ low
    (subst (λ tree. Follows tree [] (only_says t (value_text (codes "binfo") which (Err (InvalidHandle (shown.Word w))))))
    (sym (is_gone (live_by t id.place which w.size which) (gone_leaf t which) w id.generation gone)) (refl, refl)))
binfo_follows t id which (Err (NotAvailable n)) es (low, same, n1, n1000, (w, live, is)) =
    follows_along (binfo_tree t id which) caller es (Look id.place w ∷ []) _ is
    (binfo_low t id which (dec_le place_count id.place) w [] _ low
    (subst (λ tree. Follows tree [] (only_says t (value_text (codes "binfo") which (Err (NotAvailable n)))))
    (sym (is_live (live_by t id.place which w.size which) (gone_leaf t which) w id.generation live ∙ live_other t id.place which w.size n1 n1000)) (refl, refl)))
binfo_follows t id which (Err _) es h = absurd h

-- ---- take

abbrev first_filling : List Item → Filling
first_filling [] = no_filling
first_filling (x ∷ xs) = x.filling

abbrev unposted : Trace → Event → Tree
unposted t (Unpost true) = leaf t (refused_text (codes "take") Abort)
unposted t (Unpost false) = leaf t (refused_text (codes "take") (Timeout 0 0))
unposted t _ = nowhere

abbrev took : Trace → Event → Tree
took t (Take (end.Taken i)) = asks caller (to_lay i) (λ e. leaf t (take_line (buffer_at (board t) i) (first_filling (board t).out)))
took t (Take end.Empty) = asks caller to_unpost (unposted t)
took t (Take end.Closed) = leaf t (refused_text (codes "take") (InvalidHandle shown.Closed))
took t _ = nowhere

abbrev pub take_tree : Trace → Tree
take_tree t = asks caller to_take (took t)

pub takes_follow : (t : Trace) (moment : ℕ) (part : Part) (takes : TakesBuffer t moment part) → Follows (take_tree t) (entries_of caller (takes.gets ++ takes.returns)) (only_says t (take_line (buffer_at (board t) takes.place) takes.filling))
takes_follow t moment part takes =
    follows_along (take_tree t) caller (takes.gets ++ takes.returns) (Take (end.Taken takes.place) ∷ Lay takes.place ∷ []) _
    (ap (λ l. l ++ takes.returns) takes.got ∙ ap (λ l. Take (end.Taken takes.place) ∷ l) takes.returned) (
      Take (end.Taken takes.place),
      entry caller (Lay takes.place) ∷ [],
      refl,
      refl,
      (
        Lay takes.place,
        [],
        refl,
        refl,
        at_leaf t (take_line (buffer_at (board t) takes.place) (first_filling (board t).out)) _ (ap (λ f. take_line (buffer_at (board t) takes.place) f) (sym (ap first_filling takes.first))),
      ),
    )

pub takes_none : (t : Trace) (moment : ℕ) (refusal : GcError) (es : List Event) → Gets {T = ℕ} moment itself (Err refusal) es → Follows (take_tree t) (entries_of caller es) (only_says t (refused_text (codes "take") refusal))
takes_none t moment (InvalidHandle shown.Closed) es is = follows_along (take_tree t) caller es _ _ is (Take end.Closed, [], refl, refl, (refl, refl))
takes_none t moment Abort es is =
    follows_along (take_tree t) caller es _ _ is (Take end.Empty, entry caller (Unpost true) ∷ [], refl, refl, (Unpost true, [], refl, refl, (refl, refl)))
takes_none t moment (Timeout one two) es (first, last, is) =
    follows_along (take_tree t) caller es _ _ is (Take end.Empty, entry caller (Unpost false) ∷ [], refl, refl, (Unpost false, [], refl, refl, (refl, refl)))
takes_none t moment _ es h = absurd h
