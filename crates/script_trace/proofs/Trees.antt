-- What a line asks for, as a tree: each act follows from the answers before it. Two lists of entries that
-- follow one tree and run from one board are the same.
use Rattle.std.proofs.Common.{◌≡◌, ◌≢◌, ◌⊎◌, inl, inr, ℕ, zero, suc, ◌+◌, ◌<◌, Bool, true, false, List, [], ◌∷◌, ◌++◌, length, refl, sym, ap, subst, ◌∙◌, append_assoc, append-nil, arith}
use Rattle.std.specs.Prelude.{◌==◌, Option, Some, None, Result, Ok, Err}
use Rattle.std.proofs.lemmas.Bool.{eq-eqb, ne_eqb}
use Rattle.gentl_types.specs.declared.word.Word.{Word}
use Rattle.gentl_types.specs.declared.word.State.{State}
use Rattle.gentl_types.specs.declared.word.State.TheVariants.{Vacant, Held, Away}
use Rattle.gev_types.specs.Filling.{Filling}
use Rattle.gev_types.specs.Limits.{place_count}
use Rattle.gentl_handles.specs.Handles.{no_handles}
use Rattle.board_machine.specs.declared.events.Entry.{Entry}
use Rattle.board_machine.specs.declared.events.Event.{Event}
use Rattle.board_machine.specs.declared.events.Event.TheVariants.{Look, LookOut, Grab, Lay, Pool, Fill, Claim, Take}
use Rattle.board_machine.specs.declared.events.TakeEnd.{TakeEnd}
use Rattle.board_machine.specs.declared.events.TakeEnd.TheVariants as taken
use Rattle.board_machine.specs.Machine.{Board, entry, next}
use Rattle.board_machine.specs.Histories.{RunsFrom}
use Rattle.board_machine.specs.Adding.{entries_of}
use Rattle.board_machine.specs.Acts.{Act, act_of, to_look, to_look_out, to_grab, to_lay, to_pool, to_fill, to_claim, to_take}
use Rattle.board_machine.proofs.Answers.{answer_to, only_answer}
use Rattle.board_calls.specs.Calls.{LooksOut, OpensWith}
use Rattle.board_calls.specs.Rounds.{lays, pools, looks_from, filled_or_laid, FillsEach, Seen, pools_seen, pools_from, IsGrabOf, AreGrabbedIfHeld}
use Rattle.board_calls.specs.Infos.{announced, used}
use Rattle.board_model.specs.Plain.{lying}
use Rattle.board_model.specs.Holdings.{emptied}
use Rattle.acquisition_machine.specs.declared.retired.Retired.{Retired}
use Rattle.script_trace.specs.Trace.{Part, acquirer}
use Rattle.script_trace.specs.Contents.{FillsFrom}
use Rattle.board_calls.specs.declared.mode.Mode.{Mode}
use Rattle.board_calls.specs.declared.mode.Mode.TheVariants.{OldestFirst, OldestFirstOverwrite, NewestOnly}
use Rattle.board_calls.specs.Modes.{GotNothing, ClaimsOnly, ClaimsOrTakes, ClaimsFor, takes_and_pools, DropsFor}
use Rattle.script_trace.specs.Modes.{FillsInMode, place_of}
use Rattle.script_trace.proofs.Quiet.{BlockParts, block_parts}

pub data Tree : Type 0 where
  -- nothing more is asked, and this is the rest of the part
  ends : Part → Tree
  -- an actor asks for an act, and its answer says how it goes on
  asks : ℕ → Act → (Event → Tree) → Tree

abbrev pub Follows : Tree → List Entry → Part → Type 0
Follows (ends p) es q = (es ≡ []) × (q ≡ p)
Follows (asks k a later) es q = (e : Event) × (rest : List Entry) × (es ≡ entry k e ∷ rest) × (act_of e ≡ a) × Follows (later e) rest q

pub record AreOne (es fs : List Entry) (p q : Part) : Type 0 where
  pub entries : es ≡ fs
  pub part : p ≡ q

pub one_way : (b : Board) (tree : Tree) (es fs : List Entry) (p q : Part) → Follows tree es p → Follows tree fs q → RunsFrom b es → RunsFrom b fs → AreOne es fs p q
one_way b (ends x) es fs p q (is, same) (is_also, same_also) runs runs_also = record { entries = is ∙ sym is_also; part = same ∙ sym same_also }
one_way b (asks k a later) es fs p q (e, rest, is, act, more) (f, others, is_also, act_also, more_also) runs runs_also =
    let r : RunsFrom b (entry k e ∷ rest) = subst (RunsFrom b) is runs in
    let s : RunsFrom b (entry k f ∷ others) = subst (RunsFrom b) is_also runs_also in
    let same : f ≡ e = only_answer b k f s.0.meets ∙ (ap (answer_to b) (act_also ∙ sym act) ∙ sym (only_answer b k e r.0.meets)) in
    let went : Follows (later e) others q = subst (λ x. Follows (later x) others q) same more_also in
    let ran : RunsFrom (next b (entry k e)) others = subst (λ x. RunsFrom (next b (entry k x)) others) same s.1 in
    let one : AreOne rest others p q = one_way (next b (entry k e)) (later e) rest others p q more went r.1 ran in
    record {
      entries = is ∙ (ap (λ l. entry k e ∷ l) one.entries ∙ (ap (λ x. entry k x ∷ others) (sym same) ∙ sym is_also));
      part = one.part;
    }

-- an answer that no act has
abbrev pub nowhere : Tree
nowhere = ends (record { entries = []; inputs = []; handles = no_handles; idle = 0; text = []; mode = OldestFirst; told_mode = false })

pub ask : (k : ℕ) (a : Act) (later : Event → Tree) (e : Event) (rest : List Entry) (q : Part) → act_of e ≡ a → Follows (later e) rest q → Follows (asks k a later) (entry k e ∷ rest) q
ask k a later e rest q act more = (e, rest, refl, act, more)

pub follows_along : (tree : Tree) (k : ℕ) (es fs : List Event) (q : Part) → es ≡ fs → Follows tree (entries_of k fs) q → Follows tree (entries_of k es) q
follows_along tree k es fs q is h = subst (λ l. Follows tree (entries_of k l) q) (sym is) h

pub entries-append : (k : ℕ) (es fs : List Event) → entries_of k (es ++ fs) ≡ entries_of k es ++ entries_of k fs
entries-append k [] fs = refl
entries-append k (e ∷ es) fs = ap (λ l. entry k e ∷ l) (entries-append k es fs)

-- a part of a list of events, and the rest
pub follows_parts : (tree : Tree) (k : ℕ) (es fs : List Event) (q : Part) → Follows tree (entries_of k es ++ entries_of k fs) q → Follows tree (entries_of k (es ++ fs)) q
follows_parts tree k es fs q h = subst (λ l. Follows tree l q) (sym (entries-append k es fs)) h

pub follows_all : (tree : Tree) (es : List Entry) (q : Part) → Follows tree (es ++ []) q → Follows tree es q
follows_all tree es q h = subst (λ l. Follows tree l q) (append-nil es) h

-- ---- the output is looked at

abbrev pub looked : Tree → Tree → Event → Tree
looked closed opened (LookOut output true) = closed
looked closed opened (LookOut output false) = opened
looked closed opened _ = nowhere

abbrev pub look_tree : ℕ → Tree → Tree → Tree
look_tree k closed opened = asks k to_look_out (looked closed opened)

pub looks_closed : (k : ℕ) (closed opened : Tree) (es : List Event) (q : Part) → LooksOut true es → Follows closed [] q → Follows (look_tree k closed opened) (entries_of k es) q
looks_closed k closed opened es q looks h = follows_along (look_tree k closed opened) k es _ q looks.is (LookOut looks.output true, [], refl, refl, h)

pub looks_open : (k : ℕ) (closed opened : Tree) (es : List Event) (q : Part) → LooksOut false es → Follows opened [] q → Follows (look_tree k closed opened) (entries_of k es) q
looks_open k closed opened es q looks h = follows_along (look_tree k closed opened) k es _ q looks.is (LookOut looks.output false, [], refl, refl, h)

pub opens_with : (k : ℕ) (closed opened : Tree) (rest es : List Event) (q : Part) → OpensWith rest es → Follows opened (entries_of k rest) q → Follows (look_tree k closed opened) (entries_of k es) q
opens_with k closed opened rest es q looks h =
    follows_along (look_tree k closed opened) k es (LookOut looks.output false ∷ rest) q looks.is (LookOut looks.output false, entries_of k rest, refl, refl, h)

-- ---- places that are laid or pooled

abbrev pub lays_tree : ℕ → List ℕ → Tree → Tree
lays_tree k [] later = later
lays_tree k (i ∷ is) later = asks k (to_lay i) (λ e. lays_tree k is later)

pub lays_follow : (k : ℕ) (is : List ℕ) (later : Tree) (rest : List Entry) (q : Part) → Follows later rest q → Follows (lays_tree k is later) (entries_of k (lays is) ++ rest) q
lays_follow k [] later rest q h = h
lays_follow k (i ∷ is) later rest q h = (Lay i, entries_of k (lays is) ++ rest, refl, refl, lays_follow k is later rest q h)

abbrev pub pools_tree : ℕ → List ℕ → Tree → Tree
pools_tree k [] later = later
pools_tree k (i ∷ is) later = asks k (to_pool i) (λ e. pools_tree k is later)

pub pools_follow : (k : ℕ) (is : List ℕ) (later : Tree) (rest : List Entry) (q : Part) → Follows later rest q → Follows (pools_tree k is later) (entries_of k (pools is) ++ rest) q
pools_follow k [] later rest q h = h
pools_follow k (i ∷ is) later rest q h = (Pool i, entries_of k (pools is) ++ rest, refl, refl, pools_follow k is later rest q h)

-- ---- fills

abbrev pub filled_then : ℕ → ℕ → Tree → Event → Tree
filled_then k i later (Fill j f true) = later
filled_then k i later (Fill j f false) = asks k (to_lay i) (λ e. later)
filled_then k i later _ = nowhere

abbrev pub fill_tree : ℕ → ℕ → Filling → Tree → Tree
fill_tree k i f later = asks k (to_fill i f) (filled_then k i later)

pub fill_follow : (k i : ℕ) (f : Filling) (filled : Bool) (later : Tree) (rest : List Entry) (q : Part) → Follows later rest q → Follows (fill_tree k i f later) (entries_of k (filled_or_laid i f filled) ++ rest) q
fill_follow k i f true later rest q h = (Fill i f true, rest, refl, refl, h)
fill_follow k i f false later rest q h = (Fill i f false, entry k (Lay i) ∷ rest, refl, refl, (Lay i, rest, refl, refl, h))

-- places that are taken and pooled, at most so many, until a take gets nothing
abbrev pub dropped_then : ℕ → Tree → Tree → Event → Tree
dropped_then k more later (Take (taken.Taken i)) = asks k (to_pool i) (λ e. more)
dropped_then k more later (Take taken.Empty) = later
dropped_then k more later (Take taken.Closed) = later
dropped_then k more later _ = nowhere

abbrev pub drops_tree : ℕ → ℕ → Tree → Tree
drops_tree k zero later = later
drops_tree k (suc n) later = asks k to_take (dropped_then k (drops_tree k n later) later)

-- how takes end after at most so many
abbrev pub EndsDrops : ℕ → List ℕ → List Event → Type 0
EndsDrops n dropped tail =
    ((end : TakeEnd) × GotNothing end × (length dropped < n) × (tail ≡ Take end ∷ [])) ⊎ ((length dropped ≡ n) × (tail ≡ []))

pub one_fewer : (n i : ℕ) (is : List ℕ) (tail : List Event) → EndsDrops (suc n) (i ∷ is) tail → EndsDrops n is tail
one_fewer n i is tail (inl (end, nothing, few, is_tail)) = inl (end, nothing, omega (arith, few), is_tail)
one_fewer n i is tail (inr (all, is_tail)) = inr (omega (arith, all), is_tail)

nothing_follows : (k : ℕ) (end : TakeEnd) (more later : Tree) (rest : List Entry) (q : Part) → GotNothing end → Follows later rest q → Follows (asks k to_take (dropped_then k more later)) (entry k (Take end) ∷ rest) q
nothing_follows k (taken.Taken i) more later rest q nothing h = absurd nothing
nothing_follows k taken.Empty more later rest q nothing h = (Take taken.Empty, rest, refl, refl, h)
nothing_follows k taken.Closed more later rest q nothing h = (Take taken.Closed, rest, refl, refl, h)

drops_follow : (k n : ℕ) (dropped : List ℕ) (tail : List Event) (later : Tree) (rest : List Entry) (q : Part) → EndsDrops n dropped tail → Follows later rest q → Follows (drops_tree k n later) (entries_of k (takes_and_pools dropped ++ tail) ++ rest) q
drops_follow k zero [] tail later rest q (inl (end, nothing, few, is)) h = absurd (omega (arith, few))
drops_follow k zero [] tail later rest q (inr (all, is)) h = subst (λ l. Follows later (entries_of k l ++ rest) q) (sym is) h
drops_follow k zero (i ∷ is) tail later rest q (inl (end, nothing, few, is_tail)) h = absurd (omega (arith, few))
drops_follow k zero (i ∷ is) tail later rest q (inr (all, is_tail)) h = absurd (omega (arith, all))
drops_follow k (suc n) [] tail later rest q (inl (end, nothing, few, is)) h =
    subst (λ l. Follows (drops_tree k (suc n) later) (entries_of k l ++ rest) q) (sym is) (nothing_follows k end (drops_tree k n later) later rest q nothing h)
drops_follow k (suc n) [] tail later rest q (inr (all, is)) h = absurd (omega (arith, all))
drops_follow k (suc n) (i ∷ is) tail later rest q drops h =
    let others : List Entry = entries_of k (takes_and_pools is ++ tail) ++ rest in (
      Take (taken.Taken i),
      entry k (Pool i) ∷ others,
      refl,
      refl,
      (Pool i, others, refl, refl, drops_follow k n is tail later rest q (one_fewer n i is tail drops) h),
    )

-- what the mode drops before a fill
abbrev pub mode_tree : Mode → Tree → Tree
mode_tree OldestFirst later = later
mode_tree OldestFirstOverwrite later = later
mode_tree NewestOnly later = drops_tree acquirer place_count later

mode_follow : (mode : Mode) (dropped : List ℕ) (front : List Event) (later : Tree) (rest : List Entry) (q : Part) → DropsFor mode dropped front → Follows later rest q → Follows (mode_tree mode later) (entries_of acquirer front ++ rest) q
mode_follow OldestFirst dropped front later rest q (none, is) h = subst (λ l. Follows later (entries_of acquirer l ++ rest) q) (sym is) h
mode_follow OldestFirstOverwrite dropped front later rest q (none, is) h = subst (λ l. Follows later (entries_of acquirer l ++ rest) q) (sym is) h
mode_follow NewestOnly dropped front later rest q (inl d) h =
    subst (λ l. Follows (drops_tree acquirer place_count later) (entries_of acquirer l ++ rest) q) (sym d.is)
    (drops_follow acquirer place_count dropped (Take d.end ∷ []) later rest q (inl (d.end, d.nothing, d.few, refl)) h)
mode_follow NewestOnly dropped front later rest q (inr d) h =
    subst (λ l. Follows (drops_tree acquirer place_count later) (entries_of acquirer l ++ rest) q) (sym (d.is ∙ sym (append-nil (takes_and_pools dropped))))
    (drops_follow acquirer place_count dropped [] later rest q (inr (d.all, refl)) h)

-- the acquisition's
abbrev pub retired_tree : Mode → List Retired → Tree → Tree
retired_tree mode [] later = later
retired_tree mode (x ∷ xs) later = mode_tree mode (fill_tree acquirer x.place x.buf (retired_tree mode xs later))

pub retired_follow : (mode : Mode) (xs : List Retired) (es : List Event) (later : Tree) (rest : List Entry) (q : Part) → FillsInMode mode xs es → Follows later rest q → Follows (retired_tree mode xs later) (entries_of acquirer es ++ rest) q
retired_follow mode [] es later rest q is h = subst (λ l. Follows later (entries_of acquirer l ++ rest) q) (sym is) h
retired_follow mode (x ∷ xs) es later rest q (first, others, parts, block, more) h =
    let p : BlockParts mode x first = block_parts mode x first block in
    let fill : List Event = filled_or_laid x.place x.buf p.filled in
    let behind : List Entry = entries_of acquirer others ++ rest in
    let along : entries_of acquirer es ++ rest ≡ entries_of acquirer p.front ++ (entries_of acquirer fill ++ behind)
    = ap (λ l. entries_of acquirer l ++ rest) parts
    ∙ (ap (λ l. l ++ rest) (entries-append acquirer first others)
    ∙ (append_assoc (entries_of acquirer first) (entries_of acquirer others) rest
    ∙ (ap (λ l. entries_of acquirer l ++ behind) p.is
    ∙ (ap (λ l. l ++ behind) (entries-append acquirer p.front fill) ∙ append_assoc (entries_of acquirer p.front) (entries_of acquirer fill) behind)))) in
    subst (λ l. Follows (retired_tree mode (x ∷ xs) later) l q) (sym along)
    (mode_follow mode p.dropped p.front (fill_tree acquirer x.place x.buf (retired_tree mode xs later)) (entries_of acquirer fill ++ behind) q p.drops
    (fill_follow acquirer x.place x.buf p.filled (retired_tree mode xs later) behind q (retired_follow mode xs others later rest q more h)))

-- ---- claims

abbrev pub took_then : (Option ℕ → Tree) → Event → Tree
took_then later (Take (taken.Taken i)) = later (Some i)
took_then later (Take taken.Empty) = later None
took_then later (Take taken.Closed) = later None
took_then later _ = nowhere

abbrev pub nothing_then : Mode → (Option ℕ → Tree) → Tree
nothing_then OldestFirst later = later None
nothing_then OldestFirstOverwrite later = asks acquirer to_take (took_then later)
nothing_then NewestOnly later = asks acquirer to_take (took_then later)

abbrev pub claimed_then : Tree → (Option ℕ → Tree) → Event → Tree
claimed_then nothing later (Claim (Some i)) = later (Some i)
claimed_then nothing later (Claim None) = nothing
claimed_then nothing later _ = nowhere

abbrev pub claim_tree : Mode → (Option ℕ → Tree) → Tree
claim_tree mode later = asks acquirer to_claim (claimed_then (nothing_then mode later) later)

none_follows : (end : TakeEnd) (later : Option ℕ → Tree) (rest : List Entry) (q : Part) → GotNothing end → Follows (later None) rest q → Follows (asks acquirer to_take (took_then later)) (entry acquirer (Take end) ∷ rest) q
none_follows (taken.Taken i) later rest q nothing h = absurd nothing
none_follows taken.Empty later rest q nothing h = (Take taken.Empty, rest, refl, refl, h)
none_follows taken.Closed later rest q nothing h = (Take taken.Closed, rest, refl, refl, h)

only_follows : (claim : Option (ℕ × Bool)) (es : List Event) (later : Option ℕ → Tree) (rest : List Entry) (q : Part) → ClaimsOnly claim es → Follows (later (place_of claim)) rest q → Follows (claim_tree OldestFirst later) (entries_of acquirer es ++ rest) q
only_follows None es later rest q is h =
    subst (λ l. Follows (claim_tree OldestFirst later) (entries_of acquirer l ++ rest) q) (sym is) (Claim None, rest, refl, refl, h)
only_follows (Some (i, false)) es later rest q is h =
    subst (λ l. Follows (claim_tree OldestFirst later) (entries_of acquirer l ++ rest) q) (sym is) (Claim (Some i), rest, refl, refl, h)
only_follows (Some (i, true)) es later rest q is h = absurd is

-- a claim, and a take behind one that got nothing
abbrev takes_tree : (Option ℕ → Tree) → Tree
takes_tree later = claim_tree OldestFirstOverwrite later

takes_follow : (claim : Option (ℕ × Bool)) (es : List Event) (later : Option ℕ → Tree) (rest : List Entry) (q : Part) → ClaimsOrTakes claim es → Follows (later (place_of claim)) rest q → Follows (takes_tree later) (entries_of acquirer es ++ rest) q
takes_follow None es later rest q (end, nothing, is) h =
    subst (λ l. Follows (takes_tree later) (entries_of acquirer l ++ rest) q) (sym is)
    (Claim None, entry acquirer (Take end) ∷ rest, refl, refl, none_follows end later rest q nothing h)
takes_follow (Some (i, false)) es later rest q is h =
    subst (λ l. Follows (takes_tree later) (entries_of acquirer l ++ rest) q) (sym is) (Claim (Some i), rest, refl, refl, h)
takes_follow (Some (i, true)) es later rest q is h =
    subst (λ l. Follows (takes_tree later) (entries_of acquirer l ++ rest) q) (sym is)
    (Claim None, entry acquirer (Take (taken.Taken i)) ∷ rest, refl, refl, (Take (taken.Taken i), rest, refl, refl, h))

pub claims_follow : (mode : Mode) (claim : Option (ℕ × Bool)) (es : List Event) (later : Option ℕ → Tree) (rest : List Entry) (q : Part) → ClaimsFor mode claim es → Follows (later (place_of claim)) rest q → Follows (claim_tree mode later) (entries_of acquirer es ++ rest) q
claims_follow OldestFirst claim es later rest q claims h = only_follows claim es later rest q claims h
claims_follow OldestFirstOverwrite claim es later rest q claims h = takes_follow claim es later rest q claims h
claims_follow NewestOnly claim es later rest q claims h = takes_follow claim es later rest q claims h

-- those of a flush
abbrev pub fill_if : ℕ → ℕ → Option Filling → Tree → Tree
fill_if k i None later = nowhere
fill_if k i (Some f) later = fill_tree k i f later

abbrev pub empties_tree : ℕ → List (Option Filling) → List ℕ → Tree → Tree
empties_tree k contents [] later = later
empties_tree k contents (i ∷ is) later = fill_if k i (emptied (lying contents i)) (empties_tree k contents is later)

fills_first : (contents : List (Option Filling)) (k i : ℕ) (f : Filling) (filled : Bool) (rest : List Event) → k ≢ acquirer → FillsFrom contents (entries_of k (filled_or_laid i f filled ++ rest)) → (Some f ≡ emptied (lying contents i)) × FillsFrom contents (entries_of k rest)
fills_first contents k i f true rest apart (inl own, more) = absurd (apart own)
fills_first contents k i f true rest apart (inr lay, more) = (lay, more)
fills_first contents k i f false rest apart (inl own, more) = absurd (apart own)
fills_first contents k i f false rest apart (inr lay, more) = (lay, more.1)

pub empties_follow : (contents : List (Option Filling)) (k : ℕ) (is : List ℕ) (es : List Event) (later : Tree) (q : Part) → k ≢ acquirer → FillsEach is es → FillsFrom contents (entries_of k es) → Follows later [] q → Follows (empties_tree k contents is later) (entries_of k es) q
empties_follow contents k [] es later q apart is from h = subst (λ l. Follows later (entries_of k l) q) (sym is) h
empties_follow contents k (i ∷ is) es later q apart (f, filled, rest, empty, parts, more) from h =
    let fill : List Event = filled_or_laid i f filled in
    let froms : (Some f ≡ emptied (lying contents i)) × FillsFrom contents (entries_of k rest)
    = fills_first contents k i f filled rest apart (subst (λ l. FillsFrom contents (entries_of k l)) parts from) in
    subst (λ l. Follows (empties_tree k contents (i ∷ is) later) (entries_of k l) q) (sym parts)
    (follows_parts (empties_tree k contents (i ∷ is) later) k fill rest q
    (subst (λ o. Follows (fill_if k i o (empties_tree k contents is later)) (entries_of k fill ++ entries_of k rest) q) froms.0
    (fill_follow k i f filled (empties_tree k contents is later) (entries_of k rest) q
    (empties_follow contents k is rest later q apart more froms.1 h))))

-- ---- Held places that are grabbed and pooled

abbrev pub pooled_then : ℕ → ℕ → Tree → Event → Tree
pooled_then k i later (Grab j g (Ok done)) = asks k (to_pool i) (λ e. later)
pooled_then k i later (Grab j g (Err w)) = later
pooled_then k i later _ = nowhere

abbrev pub grab_if_held : ℕ → ℕ → ℕ → Tree → State → Tree
grab_if_held k i g later Vacant = later
grab_if_held k i g later Held = asks k (to_grab i g) (pooled_then k i later)
grab_if_held k i g later Away = later

abbrev pub looked_at : ℕ → ℕ → Tree → Event → Tree
looked_at k i later (Look j w) = grab_if_held k i w.generation later w.state
looked_at k i later _ = nowhere

abbrev pub held_tree : ℕ → ℕ → ℕ → Tree → Tree
held_tree k i zero later = later
held_tree k i (suc n) later = asks k (to_look i) (looked_at k i (held_tree k (i + 1) n later))

not_held : (k i g : ℕ) (later : Tree) (s : State) → s ≢ Held → grab_if_held k i g later s ≡ later
not_held k i g later Vacant apart = refl
not_held k i g later Held apart = absurd (apart refl)
not_held k i g later Away apart = refl

seen_follow : (k i : ℕ) (w : Word) (grab : Option (Result (Unit {0}) Word)) (later : Tree) (rest : List Entry) (q : Part) → IsGrabOf w grab → Follows later rest q → Follows (asks k (to_look i) (looked_at k i later)) (entries_of k (pools_seen i w grab) ++ rest) q
seen_follow k i w None later rest q apart h =
    (Look i w, rest, refl, refl, subst (λ tree. Follows tree rest q) (sym (not_held k i w.generation later w.state apart)) h)
seen_follow k i w (Some (Ok done)) later rest q is h =
    let grabs : Follows (asks k (to_grab i w.generation) (pooled_then k i later)) (entry k (Grab i w.generation (Ok tt)) ∷ entry k (Pool i) ∷ rest) q
    = (Grab i w.generation (Ok tt), entry k (Pool i) ∷ rest, refl, refl, (Pool i, rest, refl, refl, h)) in (
      Look i w,
      entry k (Grab i w.generation (Ok tt)) ∷ entry k (Pool i) ∷ rest,
      refl,
      refl,
      subst (λ s. Follows (grab_if_held k i w.generation later s) (entry k (Grab i w.generation (Ok tt)) ∷ entry k (Pool i) ∷ rest) q) (sym is) grabs,
    )
seen_follow k i w (Some (Err found)) later rest q is h =
    let grabs : Follows (asks k (to_grab i w.generation) (pooled_then k i later)) (entry k (Grab i w.generation (Err found)) ∷ rest) q
    = (Grab i w.generation (Err found), rest, refl, refl, h) in (
      Look i w,
      entry k (Grab i w.generation (Err found)) ∷ rest,
      refl,
      refl,
      subst (λ s. Follows (grab_if_held k i w.generation later s) (entry k (Grab i w.generation (Err found)) ∷ rest) q) (sym is) grabs,
    )

pub held_follow : (k i n : ℕ) (seen : List Seen) (later : Tree) (q : Part) → length seen ≡ n → AreGrabbedIfHeld seen → Follows later [] q → Follows (held_tree k i n later) (entries_of k (pools_from i seen)) q
held_follow k i zero [] later q all grabbed h = h
held_follow k i zero (s ∷ seen) later q all grabbed h = absurd (omega (arith, all))
held_follow k i (suc n) [] later q all grabbed h = absurd (omega (arith, all))
held_follow k i (suc n) (s ∷ seen) later q all grabbed h =
    let rest : List Event = pools_from (i + 1) seen in
    follows_parts (held_tree k i (suc n) later) k (pools_seen i s.word s.grab) rest q
    (seen_follow k i s.word s.grab (held_tree k (i + 1) n later) (entries_of k rest) q grabbed.0
    (held_follow k (i + 1) n seen later q (omega (arith, all)) grabbed.1 h))

-- ---- places that are looked at and counted

abbrev pub counted : (ℕ → Tree) → Event → ℕ → Tree
counted later (Look i w) n = later (used w.state + n)
counted later _ n = nowhere

abbrev pub looks_tree : ℕ → ℕ → ℕ → (ℕ → Tree) → Tree
looks_tree k i zero later = later 0
looks_tree k i (suc n) later = asks k (to_look i) (λ e. looks_tree k (i + 1) n (counted later e))

pub looks_follow : (k i n : ℕ) (words : List Word) (later : ℕ → Tree) (q : Part) → length words ≡ n → Follows (later (announced words)) [] q → Follows (looks_tree k i n later) (entries_of k (looks_from i words)) q
looks_follow k i zero [] later q all h = h
looks_follow k i zero (w ∷ words) later q all h = absurd (omega (arith, all))
looks_follow k i (suc n) [] later q all h = absurd (omega (arith, all))
looks_follow k i (suc n) (w ∷ words) later q all h =
    (Look i w, entries_of k (looks_from (i + 1) words), refl, refl, looks_follow k (i + 1) n words (counted later (Look i w)) q (omega (arith, all)) h)

-- ---- a grab by a buffer's id

abbrev pub grabbed : Tree → (Word → Tree) → Event → Tree
grabbed done refused (Grab i g (Ok x)) = done
grabbed done refused (Grab i g (Err w)) = refused w
grabbed done refused _ = nowhere

-- one text where the buffer is gone, and another where it's away
abbrev pub found_by : List ℕ → List ℕ → State → Bool → List ℕ
found_by gone away Vacant same = gone
found_by gone away Held same = gone
found_by gone away Away true = away
found_by gone away Away false = gone

abbrev pub found : List ℕ → List ℕ → ℕ → Word → List ℕ
found gone away g w = found_by gone away w.state (w.generation == g)

other_gone : (gone away : List ℕ) (s : State) → found_by gone away s false ≡ gone
other_gone gone away Vacant = refl
other_gone gone away Held = refl
other_gone gone away Away = refl

pub gone_found : (gone away : List ℕ) (g : ℕ) (w : Word) → (w.state ≡ Vacant) ⊎ (w.generation ≢ g) → found gone away g w ≡ gone
gone_found gone away g w (inl is) = ap (λ s. found_by gone away s (w.generation == g)) is
gone_found gone away g w (inr apart) = ap (λ b. found_by gone away w.state b) (ne_eqb w.generation g apart) ∙ other_gone gone away w.state

pub away_found : (gone away : List ℕ) (g : ℕ) (w : Word) → w.state ≡ Away → w.generation ≡ g → found gone away g w ≡ away
away_found gone away g w is same = ap (λ s. found_by gone away s (w.generation == g)) is ∙ ap (λ b. found_by gone away Away b) (eq-eqb w.generation g same)
