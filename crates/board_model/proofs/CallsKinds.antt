-- How the events of a call are made up of those of its parts.
use Rattle.std.proofs.Common.{◌≡◌, ℕ, ◌≤◌, ◌<◌, false, List, [], ◌∷◌, ◌++◌, Result, Ok, Err, refl, sym, ap, subst, ◌∙◌, ◌==◌}
use Rattle.gev_types.specs.Limits.{place_count}
use Rattle.gentl_types.specs.declared.buffer_id.BufferId.{BufferId}
use Rattle.gentl_types.specs.declared.errors.GcError.{GcError}
use Rattle.gentl_types.specs.declared.errors.GcError.TheVariants.{ResourceInUse}
use Rattle.gentl_types.specs.declared.errors.Shown.{Shown}
use Rattle.gentl_types.specs.declared.errors.Shown.TheVariants as shown
use Rattle.board_machine.specs.declared.events.Event.{Event}
use Rattle.board_machine.specs.declared.events.Event.TheVariants.{Grab, Pool, Vacate, Start, Stop, SweepOut, SweepPool, Close}
use Rattle.board_machine.specs.Machine.{Board}
use Rattle.board_machine.specs.Adding.{AddsEntry, AddsOf}
use Rattle.board_machine.proofs.Adding.{adds_more, adds_as, adds_first}
use Rattle.board_calls.specs.Rounds.{lays, pools, LaysEach, PoolsEach, PoolsHeld}
use Rattle.board_calls.specs.Calls.{LooksOut, OpensWith, RefusesGrab, Queues, Borrows, Revokes, Starts, Stops, run_word, busy_of, DiscardsOutput, DiscardsAll, Closes, FlushesToInput}
use Rattle.board_calls.proofs.Refused.{opens, queue_refused, revoke_refused}

pub queue_refusal : (b mid new : Board) (k : ℕ) (id : BufferId) (error : GcError) → AddsOf b k (LooksOut false) mid → AddsOf mid k (RefusesGrab id error) new → AddsOf b k (Queues id (Err error)) new
queue_refusal b mid new k id error look refused =
    adds_more b mid new k (LooksOut false) (RefusesGrab id error) (Queues id (Err error))
    (λ es fs first second. queue_refused id error fs (es ++ fs) second (opens es fs first)) look refused

pub queue_done : (b mid new : Board) (k : ℕ) (id : BufferId) → id.place < place_count → AddsOf b k (LooksOut false) mid → AddsOf mid k (λ es. es ≡ Grab id.place id.generation (Ok tt) ∷ Pool id.place ∷ []) new → AddsOf b k (Queues id (Ok tt)) new
queue_done b mid new k id below look rest =
    adds_more b mid new k (LooksOut false) (λ es. es ≡ Grab id.place id.generation (Ok tt) ∷ Pool id.place ∷ []) (Queues id (Ok tt))
    (λ es fs first second. (below, subst (λ (gs : List Event). OpensWith gs (es ++ fs)) second (opens es fs first))) look rest

-- the answer of a grab that was made
abbrev pub made : Result (Unit {0}) GcError
made = Ok tt

-- a grab, then one more event
pub grab_then : (b mid new : Board) (k : ℕ) (id : BufferId) (event : Event) → AddsOf b k (Borrows id made) mid → AddsOf mid k (λ es. es ≡ event ∷ []) new
    → AddsOf b k (λ es. es ≡ Grab id.place id.generation (Ok tt) ∷ event ∷ []) new
grab_then b mid new k id event grab more =
    adds_more b mid new k (Borrows id made) (λ es. es ≡ event ∷ []) (λ es. es ≡ Grab id.place id.generation (Ok tt) ∷ event ∷ [])
    (λ es fs first second. ap (λ gs. gs ++ fs) first.1 ∙ ap (λ gs. Grab id.place id.generation (Ok tt) ∷ gs) second) grab more

pub revoke_done : (T : Type 0) (b mid new : Board) (k : ℕ) (id : BufferId) (buffer : T) → AddsOf b k (Borrows id made) mid → AddsOf mid k (λ es. es ≡ Vacate id.place ∷ []) new → AddsOf b k (Revokes id (Ok buffer)) new
revoke_done T b mid new k id buffer grab more =
    adds_as b new k (λ es. es ≡ Grab id.place id.generation (Ok tt) ∷ Vacate id.place ∷ []) (Revokes id (Ok buffer))
    (λ es whole. (grab.kind.0, whole)) (grab_then b mid new k id (Vacate id.place) grab more)

pub revoke_refusal : (T : Type 0) (b new : Board) (k : ℕ) (id : BufferId) (error answer : GcError) → answer ≡ busy_of error → AddsOf b k (RefusesGrab id error) new → AddsOf b k (Revokes {T = T} id (Err answer)) new
revoke_refusal T b new k id error answer e refused =
    subst (λ (a : GcError). AddsOf b k (Revokes {T = T} id (Err a)) new) (sym e)
    (adds_as b new k (RefusesGrab id error) (Revokes {T = T} id (Err (busy_of error))) (revoke_refused T id error) refused)

pub start_done : (b mid new : Board) (k : ℕ) → AddsOf b k (LooksOut false) mid → AddsOf mid k (λ es. es ≡ Start (Ok tt) ∷ []) new → AddsOf b k (Starts (Ok tt)) new
start_done b mid new k look step =
    adds_more b mid new k (LooksOut false) (λ es. es ≡ Start (Ok tt) ∷ []) (Starts (Ok tt))
    (λ es fs first second. subst (λ (gs : List Event). OpensWith gs (es ++ fs)) second (opens es fs first)) look step

pub start_refused : (b mid new : Board) (k r : ℕ) (found : Shown) → found ≡ shown.Word (run_word r) → AddsOf b k (LooksOut false) mid → AddsOf mid k (λ es. es ≡ Start (Err r) ∷ []) new → AddsOf b k (Starts (Err (ResourceInUse found))) new
start_refused b mid new k r found e look step =
    subst (λ (a : Shown). AddsOf b k (Starts (Err (ResourceInUse a))) new) (sym e)
    (adds_more b mid new k (LooksOut false) (λ es. es ≡ Start (Err r) ∷ []) (Starts (Err (ResourceInUse (shown.Word (run_word r)))))
    (λ es fs first second. (r, refl, subst (λ (gs : List Event). OpensWith gs (es ++ fs)) second (opens es fs first))) look step)

pub stop_refused : (b new : Board) (k r flags : ℕ) (found : Shown) → flags ≤ 1 → found ≡ shown.Word (run_word r) → AddsOf b k (λ es. es ≡ Stop (flags == 1) (Err r) ∷ []) new → AddsOf b k (Stops flags (Err (ResourceInUse found))) new
stop_refused b new k r flags found small e step =
    subst (λ (a : Shown). AddsOf b k (Stops flags (Err (ResourceInUse a))) new) (sym e)
    (adds_as b new k (λ es. es ≡ Stop (flags == 1) (Err r) ∷ []) (Stops flags (Err (ResourceInUse (shown.Word (run_word r)))))
    (λ es is. (small, (r, refl, is))) step)

-- sweeps, and what is done with the places that they swept
pub discards_output : (b mid new : Board) (k : ℕ) (is js : List ℕ) → js ≡ is → AddsEntry b k (SweepOut is) mid → AddsOf mid k (LaysEach js) new → AddsOf b k DiscardsOutput new
discards_output b mid new k is js e swept laid =
    adds_first b mid new k (SweepOut is) (LaysEach js) DiscardsOutput tt
    (λ es kind. record { output = is; is = ap (λ fs. SweepOut is ∷ fs) (kind ∙ ap lays e) }) swept laid

both_laid : (b mid new : Board) (k : ℕ) (is js ks ls : List ℕ) → ks ≡ is → ls ≡ js → AddsOf b k (LaysEach ks) mid → AddsOf mid k (LaysEach ls) new → AddsOf b k (λ es. es ≡ lays is ++ lays js) new
both_laid b mid new k is js ks ls e f first second =
    adds_more b mid new k (LaysEach ks) (LaysEach ls) (λ es. es ≡ lays is ++ lays js)
    (λ es fs one two. ap (λ gs. gs ++ fs) (one ∙ ap lays e) ∙ ap (λ gs. lays is ++ gs) (two ∙ ap lays f)) first second

pub discards_all : (b one two laid new : Board) (k : ℕ) (is js ks ls : List ℕ) → ks ≡ is → ls ≡ js
    → AddsEntry b k (SweepPool is) one → AddsEntry one k (SweepOut js) two
    → AddsOf two k (LaysEach ks) laid → AddsOf laid k (LaysEach ls) new → AddsOf b k DiscardsAll new
discards_all b one two laid new k is js ks ls e f swept swept_too first second =
    adds_first b one new k (SweepPool is) (λ es. es ≡ SweepOut js ∷ lays is ++ lays js) DiscardsAll tt
    (λ es kind. record { pooled = is; output = js; is = ap (λ fs. SweepPool is ∷ fs) kind }) swept
    (adds_first one two new k (SweepOut js) (λ es. es ≡ lays is ++ lays js) (λ es. es ≡ SweepOut js ∷ lays is ++ lays js) tt
    (λ es kind. ap (λ fs. SweepOut js ∷ fs) kind) swept_too (both_laid two laid new k is js ks ls e f first second))

pub closes : (b marked one two laid new : Board) (k : ℕ) (is js ks ls : List ℕ) → ks ≡ is → ls ≡ js
    → AddsEntry b k Close marked
    → AddsEntry marked k (SweepOut is) one → AddsEntry one k (SweepPool js) two
    → AddsOf two k (LaysEach ks) laid → AddsOf laid k (LaysEach ls) new → AddsOf b k Closes new
closes b marked one two laid new k is js ks ls e f mark swept swept_too first second =
    adds_first b marked new k Close (λ es. es ≡ SweepOut is ∷ SweepPool js ∷ lays is ++ lays js) Closes tt
    (λ es kind. record { output = is; pooled = js; is = ap (λ fs. Close ∷ fs) kind }) mark
    (adds_first marked one new k (SweepOut is) (λ es. es ≡ SweepPool js ∷ lays is ++ lays js) (λ es. es ≡ SweepOut is ∷ SweepPool js ∷ lays is ++ lays js) tt
    (λ es kind. ap (λ fs. SweepOut is ∷ fs) kind) swept
    (adds_first one two new k (SweepPool js) (λ es. es ≡ lays is ++ lays js) (λ es. es ≡ SweepPool js ∷ lays is ++ lays js) tt
    (λ es kind. ap (λ fs. SweepPool js ∷ fs) kind) swept_too (both_laid two laid new k is js ks ls e f first second)))

pub flushes_to_input : (b mid there new : Board) (k : ℕ) (is js : List ℕ) → js ≡ is → AddsEntry b k (SweepOut is) mid
    → AddsOf mid k (PoolsEach js) there → AddsOf there k PoolsHeld new → AddsOf b k FlushesToInput new
flushes_to_input b mid there new k is js e swept pooled held =
    adds_first b mid new k (SweepOut is) (λ es. PoolsThenHeld es) FlushesToInput tt
    (λ es kind. record { output = is; rest = kind.0; is = ap (λ fs. SweepOut is ∷ fs) kind.2; held = kind.1 }) swept
    (adds_more mid there new k (PoolsEach js) PoolsHeld (λ es. PoolsThenHeld es)
    (λ es fs one two. (fs, two, ap (λ gs. gs ++ fs) (one ∙ ap pools e))) pooled held)
  where
    PoolsThenHeld : List Event → Type 0
    PoolsThenHeld es = (rest : List Event) × PoolsHeld rest × (es ≡ pools is ++ rest)
