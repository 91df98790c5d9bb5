-- What the information calls add, from what their parts add.
use Rattle.std.proofs.Common.{◌≡◌, ℕ, ◌+◌, ◌≤◌, ◌<◌, Bool, List, [], ◌∷◌, Ok, refl, subst, inr, arith}
use Rattle.gev_types.specs.Limits.{place_count}
use Rattle.gentl_types.specs.declared.buffer_id.BufferId.{BufferId}
use Rattle.gentl_types.specs.declared.word.Word.{Word}
use Rattle.gentl_types.specs.declared.word.State.{State}
use Rattle.gentl_types.specs.declared.word.State.TheVariants.{Vacant, Held, Away}
use Rattle.board_machine.specs.declared.events.Event.TheVariants.{Look, LookPool, LookOut}
use Rattle.board_machine.specs.Places.{times}
use Rattle.board_calls.specs.Infos.{used, CountsBelow, IsOneWhere, IsLive, LooksForPlace, BufferInfos}
use Rattle.board_calls.proofs.Lists.{counts_more}
use Rattle.buffer_words.specs.Passes.{Token, Enters}
use Rattle.buffer_words.specs.Several.{EntersOf}
use Rattle.buffer_words.proofs.Several.{each_none, each_two, of_kind, of_push, of_first}

pub used_le : (s : State) → used s ≤ 1
used_le Vacant = omega arith
used_le Held = omega arith
used_le Away = omega arith

pub counts_none : (s : Token) → EntersOf s (CountsBelow 0 0) s
counts_none s = of_kind s s (CountsBelow 0 0) [] (record { words = []; all = refl; is = refl; value = refl }) (each_none s)

pub one_more_counted : (s t u : Token) (n told one : ℕ) (w : Word) → one ≡ used w.state → EntersOf s (CountsBelow n told) t → Enters t (Look n w) u → EntersOf s (CountsBelow (n + 1) (told + one)) u
one_more_counted s t u n told one w counted before step =
    of_push s t u (CountsBelow n told) (CountsBelow (n + 1) (told + one)) (Look n w) (λ es kind. counts_more n told one w counted es (Look n w ∷ []) kind refl) refl before step

-- the pool and the output, looked at one after the other and read as slices
pub looked_for : (s t u : Token) (place told : ℕ) (is js ks ls : List ℕ) (closed : Bool) → ks ≡ is → ls ≡ js → IsOneWhere told (1 ≤ times place ks + times place ls)
    → Enters s (LookPool is) t → Enters t (LookOut js closed) u → EntersOf s (LooksForPlace place told) u
looked_for s t u place told is js ks ls closed e f value first second =
    of_kind s u (LooksForPlace place told) (LookPool is ∷ LookOut js closed ∷ [])
    (record {
      pooled = is;
      output = js;
      closed = closed;
      is = refl;
      value = subst (λ (xs : List ℕ). IsOneWhere told (1 ≤ times place xs + times place js)) e (subst (λ (ys : List ℕ). IsOneWhere told (1 ≤ times place ks + times place ys)) f value);
    })
    (each_two s t u (LookPool is) (LookOut js closed) first second refl refl)

pub told_queued : (s t u : Token) (which told : ℕ) (id : BufferId) (w : Word) → which ≡ 1000 → id.place < place_count → IsLive w id.generation → Enters s (Look id.place w) t
    → EntersOf t (LooksForPlace id.place told) u → EntersOf s (BufferInfos id which (Ok told)) u
told_queued s t u which told id w at below live step looks =
    of_first s t u (LooksForPlace id.place told) (BufferInfos id which (Ok told)) (Look id.place w)
    (λ es kind. record { in_range = below; word = w; live = live; known = inr at; size = λ e. absurd (omega (arith, at, e)); queued = λ e. record { rest = es; is = refl; looks = kind } })
    refl step looks
