-- The events of the information calls, from those of their parts.
use Rattle.std.proofs.Common.{◌≡◌, ◌≢◌, ℕ, ◌+◌, ◌≤◌, ◌<◌, ◌⊎◌, Bool, List, [], ◌∷◌, Ok, refl, ap, inl, inr, arith}
use Rattle.gev_types.specs.Limits.{place_count}
use Rattle.gentl_types.specs.declared.buffer_id.BufferId.{BufferId}
use Rattle.gentl_types.specs.declared.word.Word.{Word}
use Rattle.gentl_types.specs.declared.word.State.{State}
use Rattle.gentl_types.specs.declared.word.State.TheVariants.{Vacant, Held, Away}
use Rattle.board_machine.specs.declared.events.Event.TheVariants.{Look, LookRun, LookPool, LookOut}
use Rattle.board_machine.specs.Places.{times}
use Rattle.board_machine.specs.Machine.{Board}
use Rattle.board_calls.specs.Infos.{used}
use Rattle.board_machine.specs.Adding.{AddsEntry, AddsOf}
use Rattle.board_calls.specs.Infos.{announced, CountsBelow, CountsAnnounced, CountsOutput, TellsGrabbing, CountsPool, Infos, IsOneWhere, IsLive, LooksForPlace, BufferInfos}
use Rattle.board_machine.proofs.Adding.{adds_more, adds_as, adds_step, adds_nothing, adds_first}
use Rattle.board_calls.proofs.Lists.{counts_more}

pub used_le : (s : State) → used s ≤ 1
used_le Vacant = omega arith
used_le Held = omega arith
used_le Away = omega arith

pub counts_none : (b : Board) (k : ℕ) → AddsOf b k (CountsBelow 0 0) b
counts_none b k = adds_nothing b k (CountsBelow 0 0) (record { words = []; all = refl; is = refl; value = refl })

pub one_more_counted : (b mid new : Board) (k n told one : ℕ) (w : Word) → one ≡ used w.state → AddsOf b k (CountsBelow n told) mid → AddsEntry mid k (Look n w) new → AddsOf b k (CountsBelow (n + 1) (told + one)) new
one_more_counted b mid new k n told one w counted before step =
    adds_more b mid new k (CountsBelow n told) (λ es. es ≡ Look n w ∷ []) (CountsBelow (n + 1) (told + one)) (counts_more n told one w counted) before
    (adds_step mid new k (Look n w) tt step)

pub tells_grabbing : (b new : Board) (k r : ℕ) → r ≡ 1 → AddsEntry b k (LookRun r) new → AddsOf b k (TellsGrabbing 1) new
tells_grabbing b new k r at step =
    adds_as b new k (λ es. es ≡ LookRun r ∷ []) (TellsGrabbing 1) (λ es is. record { run = r; is = is; value = inl (refl, at) }) (adds_step b new k (LookRun r) tt step)

pub tells_idle : (b new : Board) (k r : ℕ) → r ≢ 1 → AddsEntry b k (LookRun r) new → AddsOf b k (TellsGrabbing 0) new
tells_idle b new k r off step =
    adds_as b new k (λ es. es ≡ LookRun r ∷ []) (TellsGrabbing 0) (λ es is. record { run = r; is = is; value = inr (refl, off) }) (adds_step b new k (LookRun r) tt step)

pub info_announced : (b new : Board) (k which told : ℕ) → which ≡ 3 → AddsOf b k (CountsAnnounced told) new → AddsOf b k (Infos which (Ok told)) new
info_announced b new k which told at =
    adds_as b new k (CountsAnnounced told) (Infos which (Ok told))
    (λ es kind. record { known = inl at; announced = λ e. kind; awaiting = λ e. absurd (omega (arith, at, e)); grabbing = λ e. absurd (omega (arith, at, e)); pooled = λ e. absurd (omega (arith, at, e)) })

pub info_awaiting : (b new : Board) (k which told : ℕ) → which ≡ 5 → AddsOf b k (CountsOutput told) new → AddsOf b k (Infos which (Ok told)) new
info_awaiting b new k which told at =
    adds_as b new k (CountsOutput told) (Infos which (Ok told))
    (λ es kind. record { known = inr (inl at); announced = λ e. absurd (omega (arith, at, e)); awaiting = λ e. kind; grabbing = λ e. absurd (omega (arith, at, e)); pooled = λ e. absurd (omega (arith, at, e)) })

pub info_grabbing : (b new : Board) (k which told : ℕ) → which ≡ 8 → AddsOf b k (TellsGrabbing told) new → AddsOf b k (Infos which (Ok told)) new
info_grabbing b new k which told at =
    adds_as b new k (TellsGrabbing told) (Infos which (Ok told))
    (λ es kind. record { known = inr (inr (inl at)); announced = λ e. absurd (omega (arith, at, e)); awaiting = λ e. absurd (omega (arith, at, e)); grabbing = λ e. kind; pooled = λ e. absurd (omega (arith, at, e)) })

pub info_pooled : (b new : Board) (k which told : ℕ) → which ≡ 1000 → AddsOf b k (CountsPool told) new → AddsOf b k (Infos which (Ok told)) new
info_pooled b new k which told at =
    adds_as b new k (CountsPool told) (Infos which (Ok told))
    (λ es kind. record { known = inr (inr (inr at)); announced = λ e. absurd (omega (arith, at, e)); awaiting = λ e. absurd (omega (arith, at, e)); grabbing = λ e. absurd (omega (arith, at, e)); pooled = λ e. kind })

-- the pool and the output, looked at one after the other
pub looked_for : (b mid new : Board) (k place told : ℕ) (is js : List ℕ) (closed : Bool) → IsOneWhere told (1 ≤ times place is + times place js) → AddsEntry b k (LookPool is) mid → AddsEntry mid k (LookOut js closed) new → AddsOf b k (LooksForPlace place told) new
looked_for b mid new k place told is js closed value first second =
    adds_first b mid new k (LookPool is) (λ es. es ≡ LookOut js closed ∷ []) (LooksForPlace place told) tt
    (λ es kind. record { pooled = is; output = js; closed = closed; is = ap (λ fs. LookPool is ∷ fs) kind; value = value }) first
    (adds_step mid new k (LookOut js closed) tt second)

pub is_one : (place : ℕ) (is js ks ls : List ℕ) → ks ≡ is → ls ≡ js → (1 ≤ times place ks) ⊎ (1 ≤ times place ls) → IsOneWhere 1 (1 ≤ times place is + times place js)
is_one place is js ks ls e f (inl some) = let equal : times place ks ≡ times place is = ap (times place) e in inl (refl, omega (arith, equal, some))
is_one place is js ks ls e f (inr some) = let equal : times place ls ≡ times place js = ap (times place) f in inl (refl, omega (arith, equal, some))

pub is_zero : (place : ℕ) (is js ks ls : List ℕ) → ks ≡ is → ls ≡ js → ¬ (1 ≤ times place ks) → ¬ (1 ≤ times place ls) → IsOneWhere 0 (1 ≤ times place is + times place js)
is_zero place is js ks ls e f none none_too =
    let equal : times place ks ≡ times place is = ap (times place) e in
    let equal_too : times place ls ≡ times place js = ap (times place) f in
    inr (refl, λ some. omega (arith, equal, equal_too, some, none, none_too))

pub told_queued : (b mid new : Board) (k which told : ℕ) (id : BufferId) (w : Word) → which ≡ 1000 → id.place < place_count → IsLive w id.generation → AddsEntry b k (Look id.place w) mid → AddsOf mid k (LooksForPlace id.place told) new → AddsOf b k (BufferInfos id which (Ok told)) new
told_queued b mid new k which told id w at below live step looks =
    adds_first b mid new k (Look id.place w) (LooksForPlace id.place told) (BufferInfos id which (Ok told)) tt
    (λ es kind. record { in_range = below; word = w; live = live; known = inr at; size = λ e. absurd (omega (arith, at, e)); queued = λ e. record { rest = es; is = refl; looks = kind } })
    step looks
