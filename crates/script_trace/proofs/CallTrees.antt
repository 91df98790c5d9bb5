-- The trees of the calls of lines, and that each call follows its tree.
use Rattle.std.proofs.Common.{◌≡◌, ◌≢◌, ℕ, zero, suc, ◌+◌, ◌<◌, ◌≤◌, false, List, [], ◌∷◌, ◌++◌, length, refl, sym, ap, subst, ◌∙◌, arith}
use Rattle.std.specs.Prelude.{codes, Result, Ok, Err}
use Rattle.std.proofs.Math.Decide.{dec_le}
use Rattle.gentl_types.specs.declared.word.Word.{Word}
use Rattle.gentl_types.specs.declared.word.State.TheVariants.{Vacant}
use Rattle.gentl_types.specs.declared.buffer_id.BufferId.{BufferId}
use Rattle.gentl_types.specs.declared.errors.GcError.{GcError}
use Rattle.gentl_types.specs.declared.errors.GcError.TheVariants.{ResourceInUse, InvalidHandle, InvalidParameter, ResourceExhausted, OutOfMemory, Busy}
use Rattle.gentl_types.specs.declared.errors.Shown.TheVariants as shown
use Rattle.gev_types.specs.Limits.{place_count, max_buffer_size}
use Rattle.board_machine.specs.declared.events.Event.{Event}
use Rattle.board_machine.specs.declared.events.Event.TheVariants.{LookOut, Enrol, Grab, Lay, Vacate, Pool}
use Rattle.board_machine.specs.Machine.{Board, entry}
use Rattle.board_machine.specs.Histories.{RunsFrom}
use Rattle.board_machine.specs.Adding.{entries_of}
use Rattle.board_machine.specs.Acts.{to_enrol, to_grab, to_lay, to_vacate, to_pool}
use Rattle.board_machine.proofs.Runs.{runs_rest}
use Rattle.board_calls.specs.Calls.{IsSize, Announces, Queues, Revokes, Borrows, RefusesGrab}
use Rattle.board_calls.specs.Rounds.{refused_from}
use Rattle.script_trace.specs.Trace.{Trace, Part, caller, only_says}
use Rattle.script_trace.specs.Answers.{refused_text, done_text, answer_text, id_text}
use Rattle.script_trace.specs.BoardLines.{buffer}
use Rattle.script_trace.proofs.Trees.{Tree, ends, asks, Follows, nowhere, follows_along, entries-append, look_tree, looks_closed, looks_open, opens_with, grabbed, found, gone_found, away_found}

-- nothing more is asked, and this is the report
abbrev pub leaf : Trace → List ℕ → Tree
leaf t said = ends (only_says t said)

-- at the end of a call
pub at_leaf : (t : Trace) (said other : List ℕ) → other ≡ said → Follows (leaf t said) [] (only_says t other)
at_leaf t said other is = (refl, ap (only_says t) is)

-- a closed stream's refusal, and the texts of refused calls, whatever they found
abbrev no_handle : List ℕ → List ℕ
no_handle word = refused_text word (InvalidHandle shown.Closed)

abbrev in_use : List ℕ → List ℕ
in_use word = refused_text word (ResourceInUse shown.Closed)

-- ---- announce

abbrev tried_one : Trace → Tree → Event → Tree
tried_one t later (Enrol i size (Ok g)) = asks caller (to_lay i) (λ e. leaf t (id_text (codes "announce") (Ok (buffer i g))))
tried_one t later (Enrol i size (Err w)) = later
tried_one t later _ = nowhere

abbrev tries_tree : Trace → ℕ → ℕ → ℕ → Tree
tries_tree t size i zero = leaf t (id_text (codes "announce") (Err ResourceExhausted))
tries_tree t size i (suc n) = asks caller (to_enrol i size) (tried_one t (tries_tree t size (i + 1) n))

tries_found : (t : Trace) (size i n : ℕ) (words : List Word) (place g : ℕ) → i + length words ≡ place → place < i + n → Follows (tries_tree t size i n) (entries_of caller (refused_from i size words ++ Enrol place size (Ok g) ∷ Lay place ∷ [])) (only_says t (id_text (codes "announce") (Ok (buffer place g))))
tries_found t size i zero [] place g at low = absurd (omega (arith, at, low))
tries_found t size i zero (w ∷ words) place g at low = absurd (omega (arith, at, low))
tries_found t size i (suc n) [] place g at low =
    let here : place ≡ i = omega (arith, at) in
    (Enrol place size (Ok g), entry caller (Lay place) ∷ [], refl, ap (λ j. to_enrol j size) here, (Lay place, [], refl, refl, (refl, refl)))
tries_found t size i (suc n) (w ∷ words) place g at low = (
  Enrol i size (Err w),
  entries_of caller (refused_from (i + 1) size words ++ Enrol place size (Ok g) ∷ Lay place ∷ []),
  refl,
  refl,
  tries_found t size (i + 1) n words place g (omega (arith, at)) (omega (arith, low)),
)

tries_full : (t : Trace) (size i n : ℕ) (words : List Word) → length words ≡ n → Follows (tries_tree t size i n) (entries_of caller (refused_from i size words)) (only_says t (id_text (codes "announce") (Err ResourceExhausted)))
tries_full t size i zero [] all = (refl, refl)
tries_full t size i zero (w ∷ words) all = absurd (omega (arith, all))
tries_full t size i (suc n) [] all = absurd (omega (arith, all))
tries_full t size i (suc n) (w ∷ words) all =
    (Enrol i size (Err w), entries_of caller (refused_from (i + 1) size words), refl, refl, tries_full t size (i + 1) n words (omega (arith, all)))

abbrev sized_tree : (t : Trace) (size : ℕ) → Dec (1 ≤ size) → Dec (size ≤ max_buffer_size) → Tree
sized_tree t size (yes some) (yes few) = tries_tree t size 0 place_count
sized_tree t size (yes some) (no many) = leaf t (id_text (codes "announce") (Err (InvalidParameter size)))
sized_tree t size (no none) few = leaf t (id_text (codes "announce") (Err (InvalidParameter size)))

abbrev pub announce_tree : Trace → ℕ → Tree
announce_tree t size = look_tree caller (leaf t (no_handle (codes "announce"))) (sized_tree t size (dec_le 1 size) (dec_le size max_buffer_size))

-- a size that a buffer can have
sized_good : (t : Trace) (size : ℕ) (es : _) (q : Part) (some : Dec (1 ≤ size)) (few : Dec (size ≤ max_buffer_size)) → IsSize size → Follows (tries_tree t size 0 place_count) es q → Follows (sized_tree t size some few) es q
sized_good t size es q (yes some) (yes few) is h = h
sized_good t size es q (yes some) (no many) is h = absurd (many is.1)
sized_good t size es q (no none) few is h = absurd (none is.0)

sized_bad : (t : Trace) (size : ℕ) (some : Dec (1 ≤ size)) (few : Dec (size ≤ max_buffer_size)) → ¬ IsSize size → Follows (sized_tree t size some few) [] (only_says t (id_text (codes "announce") (Err (InvalidParameter size))))
sized_bad t size (yes some) (yes few) not = absurd (not (some, few))
sized_bad t size (yes some) (no many) not = (refl, refl)
sized_bad t size (no none) few not = (refl, refl)

-- the place of an enrol is one of the fifteen
enrol_place : (b : Board) (front : List Event) (place size g : ℕ) (rest : List Event) → RunsFrom b (entries_of caller (front ++ Enrol place size (Ok g) ∷ rest)) → place < place_count
enrol_place b front place size g rest runs =
    let parted : RunsFrom b (entries_of caller front ++ entries_of caller (Enrol place size (Ok g) ∷ rest))
    = subst (RunsFrom b) (entries-append caller front (Enrol place size (Ok g) ∷ rest)) runs in
    (runs_rest b (entries_of caller front) (entries_of caller (Enrol place size (Ok g) ∷ rest)) parted).0.meets.0

pub announce_follows : (t : Trace) (b : Board) (size : ℕ) (answer : Result BufferId GcError) (es : List Event) → answer ≢ Err OutOfMemory → RunsFrom b (entries_of caller es) → Announces size answer es → Follows (announce_tree t size) (entries_of caller es) (only_says t (id_text (codes "announce") answer))
announce_follows t b size (Ok id) es some runs (sized, (words, tries, opens)) =
    let rest : List Event = refused_from 0 size words ++ Enrol id.place size (Ok id.generation) ∷ Lay id.place ∷ [] in
    let ran : RunsFrom b (entries_of caller (LookOut opens.output false ∷ rest)) = subst (λ l. RunsFrom b (entries_of caller l)) opens.is runs in
    let low : id.place < place_count = enrol_place b (LookOut opens.output false ∷ refused_from 0 size words) id.place size id.generation (Lay id.place ∷ []) ran in
    opens_with caller (leaf t (no_handle (codes "announce"))) (sized_tree t size (dec_le 1 size) (dec_le size max_buffer_size)) rest es (only_says t (id_text (codes "announce") (Ok id))) opens
    (sized_good t size (entries_of caller rest) (only_says t (id_text (codes "announce") (Ok id))) (dec_le 1 size) (dec_le size max_buffer_size) sized
    (tries_found t size 0 place_count words id.place id.generation (omega (arith, tries)) (omega (arith, low))))
announce_follows t b size (Err (InvalidHandle shown.Closed)) es some runs looks =
    looks_closed caller (leaf t (no_handle (codes "announce"))) (sized_tree t size (dec_le 1 size) (dec_le size max_buffer_size)) es _ looks (refl, refl)
announce_follows t b size (Err (InvalidParameter n)) es some runs (same, bad, looks) =
    looks_open caller (leaf t (no_handle (codes "announce"))) (sized_tree t size (dec_le 1 size) (dec_le size max_buffer_size)) es _ looks
    (sized_bad t size (dec_le 1 size) (dec_le size max_buffer_size) bad)
announce_follows t b size (Err OutOfMemory) es some runs h = absurd (some refl)
announce_follows t b size (Err ResourceExhausted) es some runs (sized, (words, all, opens)) =
    opens_with caller (leaf t (no_handle (codes "announce"))) (sized_tree t size (dec_le 1 size) (dec_le size max_buffer_size)) (refused_from 0 size words) es _ opens
    (sized_good t size (entries_of caller (refused_from 0 size words)) (only_says t (id_text (codes "announce") (Err ResourceExhausted))) (dec_le 1 size) (dec_le size max_buffer_size) sized (tries_full t size 0 place_count words all))
announce_follows t b size (Err _) es some runs h = absurd h

-- ---- a grab by a buffer's id

abbrev grab_at : (id : BufferId) (bad done : Tree) (refused : Word → Tree) → Dec (place_count ≤ id.place) → Tree
grab_at id bad done refused (yes high) = bad
grab_at id bad done refused (no low) = asks caller (to_grab id.place id.generation) (grabbed done refused)

abbrev grab_tree : BufferId → Tree → Tree → (Word → Tree) → Tree
grab_tree id bad done refused = grab_at id bad done refused (dec_le place_count id.place)

grab_high : (id : BufferId) (bad done : Tree) (refused : Word → Tree) (d : Dec (place_count ≤ id.place)) (q : Part) → place_count ≤ id.place → Follows bad [] q → Follows (grab_at id bad done refused d) [] q
grab_high id bad done refused (yes high) q is h = h
grab_high id bad done refused (no low) q is h = absurd (low is)

grab_low : (id : BufferId) (bad done : Tree) (refused : Word → Tree) (d : Dec (place_count ≤ id.place)) (rest : List Event) (answer : Result (Unit {0}) Word) (q : Part) → id.place < place_count → Follows (grabbed done refused (Grab id.place id.generation answer)) (entries_of caller rest) q → Follows (grab_at id bad done refused d) (entries_of caller (Grab id.place id.generation answer ∷ rest)) q
grab_low id bad done refused (yes high) rest answer q low h = absurd (omega (arith, high, low))
grab_low id bad done refused (no high) rest answer q low h = (Grab id.place id.generation answer, entries_of caller rest, refl, refl, h)

-- the refusals of a line with this word; a buffer that is away gives the second text
abbrev refusing_tree : Trace → List ℕ → List ℕ → BufferId → Tree → Tree
refusing_tree t word away id done = grab_tree id (leaf t (no_handle word)) done (λ w. leaf t (found (no_handle word) away id.generation w))

refuses_follow : (t : Trace) (word : List ℕ) (id : BufferId) (done : Tree) (error : GcError) (es : List Event) → RefusesGrab id error es → Follows (refusing_tree t word (in_use word) id done) (entries_of caller es) (only_says t (refused_text word error))
refuses_follow t word id done (InvalidHandle (shown.NoHandle n)) es (high, same, is) =
    follows_along (refusing_tree t word (in_use word) id done) caller es [] _ is
    (grab_high id (leaf t (no_handle word)) done _ (dec_le place_count id.place) _ high (refl, refl))
refuses_follow t word id done (InvalidHandle (shown.Word w)) es (low, gone, is) =
    follows_along (refusing_tree t word (in_use word) id done) caller es _ _ is
    (grab_low id (leaf t (no_handle word)) done _ (dec_le place_count id.place) [] (Err w) _ low
    (at_leaf t _ _ (sym (gone_found (no_handle word) (in_use word) id.generation w gone))))
refuses_follow t word id done (ResourceInUse (shown.Word w)) es (low, away, is) =
    follows_along (refusing_tree t word (in_use word) id done) caller es _ _ is
    (grab_low id (leaf t (no_handle word)) done _ (dec_le place_count id.place) [] (Err w) _ low
    (at_leaf t _ _ (sym (away_found (no_handle word) (in_use word) id.generation w away.0 away.1))))
refuses_follow t word id done _ es h = absurd h

abbrev pub queue_tree : Trace → BufferId → Tree
queue_tree t id =
    look_tree caller (leaf t (no_handle (codes "queue")))
    (refusing_tree t (codes "queue") (in_use (codes "queue")) id (asks caller (to_pool id.place) (λ e. leaf t (done_text (codes "queue")))))

pub queue_follows : (t : Trace) (id : BufferId) (answer : Result (Unit {0}) GcError) (es : List Event) → Queues id answer es → Follows (queue_tree t id) (entries_of caller es) (only_says t (answer_text (codes "queue") answer))
queue_follows t id (Ok done) es (low, opens) =
    opens_with caller _ _ (Grab id.place id.generation (Ok tt) ∷ Pool id.place ∷ []) es _ opens
    (grab_low id (leaf t (no_handle (codes "queue"))) _ _ (dec_le place_count id.place) (Pool id.place ∷ []) (Ok tt) _ low
    (Pool id.place, [], refl, refl, (refl, refl)))
queue_follows t id (Err (InvalidHandle shown.Closed)) es looks = looks_closed caller _ _ es _ looks (refl, refl)
queue_follows t id (Err error) es (rest, refuses, opens) =
    opens_with caller _ _ rest es _ opens (refuses_follow t (codes "queue") id _ error rest refuses)

-- a loan: what is told of it is a function of the trace
abbrev pub loan_tree : Trace → BufferId → List ℕ → Tree
loan_tree t id told =
    refusing_tree t (codes "binfo") (in_use (codes "binfo")) id (asks caller (to_lay id.place) (λ e. leaf t told))

pub loan_follows : (t : Trace) (id : BufferId) (told : List ℕ) (borrows returns : List Event) → Borrows {T = Unit {0}} id (Ok tt) borrows → returns ≡ Lay id.place ∷ [] → Follows (loan_tree t id told) (entries_of caller (borrows ++ returns)) (only_says t told)
loan_follows t id told borrows returns (low, is) back =
    follows_along (loan_tree t id told) caller (borrows ++ returns) (Grab id.place id.generation (Ok tt) ∷ Lay id.place ∷ []) (only_says t told)
    (ap (λ l. l ++ returns) is ∙ ap (λ l. Grab id.place id.generation (Ok tt) ∷ l) back)
    (grab_low id (leaf t (no_handle (codes "binfo"))) _ _ (dec_le place_count id.place) (Lay id.place ∷ []) (Ok tt) _ low
    (Lay id.place, [], refl, refl, (refl, refl)))

pub no_loan_follows : (t : Trace) (id : BufferId) (told : List ℕ) (refusal : GcError) (es : List Event) → Borrows {T = Unit {0}} id (Err refusal) es → Follows (loan_tree t id told) (entries_of caller es) (only_says t (refused_text (codes "binfo") refusal))
no_loan_follows t id told refusal es refuses = refuses_follow t (codes "binfo") id _ refusal es refuses

abbrev busy : List ℕ
busy = refused_text (codes "revoke") (Busy (record { state = Vacant; size = 0; generation = 0 }))

abbrev pub revoke_tree : Trace → BufferId → Tree
revoke_tree t id = refusing_tree t (codes "revoke") busy id (asks caller (to_vacate id.place) (λ e. leaf t (done_text (codes "revoke"))))

pub revoke_follows : (t : Trace) (id : BufferId) (answer : Result (Unit {0}) GcError) (es : List Event) → Revokes id answer es → Follows (revoke_tree t id) (entries_of caller es) (only_says t (answer_text (codes "revoke") answer))
revoke_follows t id (Ok done) es (low, is) =
    follows_along (revoke_tree t id) caller es _ _ is
    (grab_low id (leaf t (no_handle (codes "revoke"))) _ _ (dec_le place_count id.place) (Vacate id.place ∷ []) (Ok tt) _ low
    (Vacate id.place, [], refl, refl, (refl, refl)))
revoke_follows t id (Err (InvalidHandle (shown.NoHandle n))) es (high, same, is) =
    follows_along (revoke_tree t id) caller es [] _ is
    (grab_high id (leaf t (no_handle (codes "revoke"))) _ _ (dec_le place_count id.place) _ high (refl, refl))
revoke_follows t id (Err (InvalidHandle (shown.Word w))) es (low, gone, is) =
    follows_along (revoke_tree t id) caller es _ _ is
    (grab_low id (leaf t (no_handle (codes "revoke"))) _ _ (dec_le place_count id.place) [] (Err w) _ low
    (at_leaf t _ _ (sym (gone_found (no_handle (codes "revoke")) busy id.generation w gone))))
revoke_follows t id (Err (Busy w)) es (low, away, is) =
    follows_along (revoke_tree t id) caller es _ _ is
    (grab_low id (leaf t (no_handle (codes "revoke"))) _ _ (dec_le place_count id.place) [] (Err w) _ low
    (at_leaf t _ _ (sym (away_found (no_handle (codes "revoke")) busy id.generation w away.0 away.1))))
revoke_follows t id (Err _) es h = absurd h
