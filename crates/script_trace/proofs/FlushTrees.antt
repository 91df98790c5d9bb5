-- The trees of flushes, of a kill and of a close.
use Rattle.std.proofs.Common.{◌≡◌, ◌≢◌, ℕ, ◌<◌, List, [], ◌∷◌, ◌++◌, refl, sym, ap, subst, ◌∙◌, arith}
use Rattle.std.specs.Prelude.{◌==◌, codes, Result, Ok, Err, if◌then◌else◌}
use Rattle.std.proofs.lemmas.Bool.{ne_eqb}
use Rattle.gentl_types.specs.declared.errors.GcError.{GcError}
use Rattle.gentl_types.specs.declared.errors.GcError.TheVariants.{InvalidParameter}
use Rattle.gev_types.specs.Limits.{place_count}
use Rattle.board_machine.specs.declared.events.Entry.{Entry}
use Rattle.board_machine.specs.declared.events.Event.{Event}
use Rattle.board_machine.specs.declared.events.Event.TheVariants.{SweepPool, SweepOut, Close, Post}
use Rattle.board_machine.specs.Machine.{entry}
use Rattle.board_machine.specs.Adding.{entries_of}
use Rattle.board_machine.specs.Acts.{to_sweep_pool, to_sweep_out, to_close, to_post}
use Rattle.board_calls.specs.Calls.{Flushes, FlushesToOutput, FlushesToInput, DiscardsOutput, DiscardsAll, Kills, Closes}
use Rattle.board_calls.specs.Rounds.{lays, pools, PoolsHeld}
use Rattle.script_trace.specs.Trace.{Trace, Part, caller, acquirer, only_says}
use Rattle.script_trace.specs.Contents.{contents_of, FillsFrom}
use Rattle.script_trace.specs.Answers.{refused_text, done_text, answer_text}
use Rattle.script_trace.proofs.Trees.{Tree, asks, Follows, nowhere, follows_along, follows_parts, follows_all, lays_tree, lays_follow, pools_tree, pools_follow, empties_tree, empties_follow, held_tree, held_follow}
use Rattle.script_trace.proofs.CallTrees.{leaf}
use Rattle.script_trace.proofs.RunWord.{five}

-- lists that were swept
abbrev pool_swept : (List ℕ → Tree) → Event → Tree
pool_swept later (SweepPool is) = later is
pool_swept later _ = nowhere

abbrev out_swept : (List ℕ → Tree) → Event → Tree
out_swept later (SweepOut is) = later is
out_swept later _ = nowhere

sweeps_pool : (later : List ℕ → Tree) (is : List ℕ) (rest : List Entry) (q : Part) → Follows (later is) rest q → Follows (asks caller to_sweep_pool (pool_swept later)) (entry caller (SweepPool is) ∷ rest) q
sweeps_pool later is rest q h = (SweepPool is, rest, refl, refl, h)

sweeps_out : (later : List ℕ → Tree) (is : List ℕ) (rest : List Entry) (q : Part) → Follows (later is) rest q → Follows (asks caller to_sweep_out (out_swept later)) (entry caller (SweepOut is) ∷ rest) q
sweeps_out later is rest q h = (SweepOut is, rest, refl, refl, h)

-- places that are laid last
lays_last : (is : List ℕ) (later : Tree) (q : Part) → Follows later [] q → Follows (lays_tree caller is later) (entries_of caller (lays is)) q
lays_last is later q h = follows_all (lays_tree caller is later) (entries_of caller (lays is)) q (lays_follow caller is later [] q h)

-- two lists that are laid
lays_both : (is js : List ℕ) (later : Tree) (q : Part) → Follows later [] q → Follows (lays_tree caller is (lays_tree caller js later)) (entries_of caller (lays is ++ lays js)) q
lays_both is js later q h =
    follows_parts (lays_tree caller is (lays_tree caller js later)) caller (lays is) (lays js) q
    (lays_follow caller is (lays_tree caller js later) (entries_of caller (lays js)) q (lays_last js later q h))

-- ---- the operations

abbrev to_output : Trace → Tree → Tree
to_output t later = asks caller to_sweep_pool (pool_swept (λ is. empties_tree caller (contents_of t.entries) is later))

abbrev pub discard_tree : Tree → Tree
discard_tree later = asks caller to_sweep_out (out_swept (λ is. lays_tree caller is later))

abbrev to_input : Tree → Tree
to_input later = asks caller to_sweep_out (out_swept (λ is. pools_tree caller is (held_tree caller 0 place_count later)))

abbrev discard_all : Tree → Tree
discard_all later =
    asks caller to_sweep_pool (pool_swept (λ is. asks caller to_sweep_out (out_swept (λ js. lays_tree caller is (lays_tree caller js later)))))

pub discards_follow : (later : Tree) (es : List Event) (q : Part) → DiscardsOutput es → Follows later [] q → Follows (discard_tree later) (entries_of caller es) q
discards_follow later es q d h =
    follows_along (discard_tree later) caller es _ q d.is
    (sweeps_out (λ is. lays_tree caller is later) d.output (entries_of caller (lays d.output)) q (lays_last d.output later q h))

to_output_follows : (t : Trace) (later : Tree) (es : List Event) (q : Part) → FlushesToOutput es → FillsFrom (contents_of t.entries) (entries_of caller es) → Follows later [] q → Follows (to_output t later) (entries_of caller es) q
to_output_follows t later es q f from h =
    let froms : FillsFrom (contents_of t.entries) (entries_of caller (SweepPool f.pooled ∷ f.rest)) = subst (λ l. FillsFrom (contents_of t.entries) (entries_of caller l)) f.is from in
    let apart : caller ≢ acquirer = λ e. omega (arith, e) in
    follows_along (to_output t later) caller es (SweepPool f.pooled ∷ f.rest) q f.is
    (sweeps_pool (λ is. empties_tree caller (contents_of t.entries) is later) f.pooled (entries_of caller f.rest) q
    (empties_follow (contents_of t.entries) caller f.pooled f.rest later q apart f.fills froms.1 h))

held_all : (later : Tree) (es : List Event) (q : Part) → PoolsHeld es → Follows later [] q → Follows (held_tree caller 0 place_count later) (entries_of caller es) q
held_all later es q p h = follows_along (held_tree caller 0 place_count later) caller es _ q p.is (held_follow caller 0 place_count p.seen later q p.all p.grabbed h)

to_input_follows : (later : Tree) (es : List Event) (q : Part) → FlushesToInput es → Follows later [] q → Follows (to_input later) (entries_of caller es) q
to_input_follows later es q f h =
    follows_along (to_input later) caller es (SweepOut f.output ∷ (pools f.output ++ f.rest)) q f.is
    (sweeps_out (λ is. pools_tree caller is (held_tree caller 0 place_count later)) f.output (entries_of caller (pools f.output ++ f.rest)) q
    (follows_parts (pools_tree caller f.output (held_tree caller 0 place_count later)) caller (pools f.output) f.rest q
    (pools_follow caller f.output (held_tree caller 0 place_count later) (entries_of caller f.rest) q (held_all later f.rest q f.held h))))

discards_all_follow : (later : Tree) (es : List Event) (q : Part) → DiscardsAll es → Follows later [] q → Follows (discard_all later) (entries_of caller es) q
discards_all_follow later es q d h =
    follows_along (discard_all later) caller es (SweepPool d.pooled ∷ SweepOut d.output ∷ (lays d.pooled ++ lays d.output)) q d.is
    (sweeps_pool _ d.pooled (entries_of caller (SweepOut d.output ∷ (lays d.pooled ++ lays d.output))) q
    (sweeps_out _ d.output (entries_of caller (lays d.pooled ++ lays d.output)) q (lays_both d.pooled d.output later q h)))

-- by the operation's number
abbrev by_number : ℕ → Tree → Tree → Tree → Tree → Tree → Tree → Tree
by_number n a b c d e other =
    if n == 0 then a else if n == 1 then b else if n == 2 then c else if n == 3 then d else if n == 4 then e else other

number_high : (n : ℕ) (a b c d e other : Tree) → 4 < n → by_number n a b c d e other ≡ other
number_high n a b c d e other high =
    let n0 : n ≢ 0 = λ is. omega (arith, is, high) in
    let n1 : n ≢ 1 = λ is. omega (arith, is, high) in
    let n2 : n ≢ 2 = λ is. omega (arith, is, high) in
    let n3 : n ≢ 3 = λ is. omega (arith, is, high) in
    let n4 : n ≢ 4 = λ is. omega (arith, is, high) in
    ap (λ x. if x then a else if n == 1 then b else if n == 2 then c else if n == 3 then d else if n == 4 then e else other) (ne_eqb n 0 n0)
    ∙ (ap (λ x. if x then b else if n == 2 then c else if n == 3 then d else if n == 4 then e else other) (ne_eqb n 1 n1)
    ∙ (ap (λ x. if x then c else if n == 3 then d else if n == 4 then e else other) (ne_eqb n 2 n2)
    ∙ (ap (λ x. if x then d else if n == 4 then e else other) (ne_eqb n 3 n3) ∙ ap (λ x. if x then e else other) (ne_eqb n 4 n4))))

abbrev done_leaf : Trace → Tree
done_leaf t = leaf t (done_text (codes "flush"))

abbrev flush_by : Trace → ℕ → Tree → Tree
flush_by t n other =
    by_number n (to_output t (done_leaf t)) (discard_tree (done_leaf t)) (to_input (done_leaf t)) (held_tree caller 0 place_count (done_leaf t)) (discard_all (done_leaf t)) other

abbrev pub flush_tree : Trace → ℕ → Tree
flush_tree t operation = flush_by t operation (leaf t (refused_text (codes "flush") (InvalidParameter operation)))

pub flush_follows : (t : Trace) (operation : ℕ) (answer : Result (Unit {0}) GcError) (es : List Event) → FillsFrom (contents_of t.entries) (entries_of caller es) → Flushes operation answer es → Follows (flush_tree t operation) (entries_of caller es) (only_says t (answer_text (codes "flush") answer))
flush_follows t operation (Ok done) es from f =
    let q : Part = only_says t (done_text (codes "flush")) in
    let l : List Entry = entries_of caller es in
    let last : Tree = leaf t (refused_text (codes "flush") (InvalidParameter operation)) in
    let h : Follows (done_leaf t) [] q = (refl, refl) in
    let At : ℕ → Type 0 = λ n. Follows (flush_by t n last) l q in
    five operation f.in_range
    (λ e. subst At (sym e) (to_output_follows t (done_leaf t) es q (f.to_output e) from h))
    (λ e. subst At (sym e) (discards_follow (done_leaf t) es q (f.discards_output e) h))
    (λ e. subst At (sym e) (to_input_follows (done_leaf t) es q (f.to_input e) h))
    (λ e. subst At (sym e) (held_all (done_leaf t) es q (f.unqueued_to_input e) h))
    (λ e. subst At (sym e) (discards_all_follow (done_leaf t) es q (f.discards_all e) h))
flush_follows t operation (Err (InvalidParameter n)) es from (same, high, is) =
    let last : Tree = leaf t (refused_text (codes "flush") (InvalidParameter operation)) in
    let at : flush_tree t operation ≡ last = number_high operation _ _ _ _ _ last high in
    subst (λ tree. Follows tree (entries_of caller es) (only_says t (refused_text (codes "flush") (InvalidParameter n)))) (sym at)
    (ap (λ l. entries_of caller l) is, refl)
flush_follows t operation (Err _) es from h = absurd h

-- ---- kill and close

abbrev pub kill_tree : Trace → Tree
kill_tree t = asks caller to_post (λ e. leaf t (done_text (codes "kill")))

pub kill_follows : (t : Trace) (es : List Event) → Kills es → Follows (kill_tree t) (entries_of caller es) (only_says t (done_text (codes "kill")))
kill_follows t es is = follows_along (kill_tree t) caller es _ _ is (Post, [], refl, refl, (refl, refl))

abbrev pub closes_tree : Tree → Tree
closes_tree later =
    asks caller to_close
    (λ e. asks caller to_sweep_out (out_swept (λ is. asks caller to_sweep_pool (pool_swept (λ js. lays_tree caller is (lays_tree caller js later))))))

pub closes_follow : (later : Tree) (es : List Event) (q : Part) → Closes es → Follows later [] q → Follows (closes_tree later) (entries_of caller es) q
closes_follow later es q c h =
    follows_along (closes_tree later) caller es (Close ∷ SweepOut c.output ∷ SweepPool c.pooled ∷ (lays c.output ++ lays c.pooled)) q c.is (
      Close,
      entries_of caller (SweepOut c.output ∷ SweepPool c.pooled ∷ (lays c.output ++ lays c.pooled)),
      refl,
      refl,
      sweeps_out _ c.output (entries_of caller (SweepPool c.pooled ∷ (lays c.output ++ lays c.pooled))) q
          (sweeps_pool _ c.pooled (entries_of caller (lays c.output ++ lays c.pooled)) q (lays_both c.output c.pooled later q h)),
    )
