-- One more turn: what arrived, what is heard of it, what is kept, and what is counted.
use Rattle.std.proofs.Common.{◌≡◌, ℕ, ◌+◌, List, [], ◌∷◌, ◌++◌, refl, ap, sym, ◌∙◌, arith}
use Rattle.gev_links.specs.Links.{Answer}
use Rattle.link_filters.proofs.Growing.{wide_push, top_push, refused_push}
use Rattle.packet_requests.specs.declared.id_mode.IdMode.{IdMode}
use Rattle.packet_requests.specs.declared.id_mode.IdMode.TheVariants.{Standard, Extended}
use Rattle.gev_acq.specs.Turns.{Turned}
use Rattle.gev_acq.specs.Acquired.{moments_in}
use Rattle.gev_acq.proofs.TurnLists.{answers-push, moments-push}
use Rattle.camera_reader.specs.Hearing.{Arrival, heard_answer, top_behind, refused_of, heard_as, top_of, refused_in, answers_of, moments_of, HearsEach}
use Rattle.camera_reader.specs.Turns.{HearsTurn}

pub arrived-push : (xs : List Arrival) (a : Arrival) → answers_of (xs ++ a ∷ []) ≡ answers_of xs ++ a.answer ∷ []
arrived-push [] a = refl
arrived-push (x ∷ xs) a = ap (λ l. x.answer ∷ l) (arrived-push xs a)

times-push : (xs : List Arrival) (a : Arrival) → moments_of (xs ++ a ∷ []) ≡ moments_of xs ++ a.moment ∷ []
times-push [] a = refl
times-push (x ∷ xs) a = ap (λ l. x.moment ∷ l) (times-push xs a)

heard-push : (ids : IdMode) (xs : List Answer) (a : Answer) → heard_as ids (xs ++ a ∷ []) ≡ heard_as ids xs ++ heard_answer ids (top_of ids xs) a ∷ []
heard-push Standard xs a = wide_push 0 xs a
heard-push Extended xs a = refl

top-push : (ids : IdMode) (xs : List Answer) (a : Answer) → top_of ids (xs ++ a ∷ []) ≡ top_behind ids (top_of ids xs) a
top-push Standard xs a = top_push 0 xs a
top-push Extended xs a = refl

refused-push : (ids : IdMode) (xs : List Answer) (a : Answer) → refused_in ids (xs ++ a ∷ []) ≡ refused_in ids xs + refused_of ids (top_of ids xs) a
refused-push Standard xs a = refused_push 0 xs a
refused-push Extended xs a = refl

pub hears_none : (ids : IdMode) (refused : ℕ) → refused ≡ 0 → HearsEach ids [] [] refused
hears_none Standard refused none = record { moments = refl; heard = refl; counted = omega (arith, none) }
hears_none Extended refused none = record { moments = refl; heard = refl; counted = omega (arith, none) }

pub top_none : (ids : IdMode) (top : ℕ) → top ≡ 0 → top ≡ top_of ids []
top_none Standard top none = none
top_none Extended top none = none

pub hears_more : (ids : IdMode) (made : List Turned) (arrivals : List Arrival) (t : Turned) (a : Arrival) (top refused top_after refused_after : ℕ)
    → top ≡ top_of ids (answers_of arrivals) → HearsEach ids made arrivals refused → HearsTurn ids top refused top_after refused_after t a
    → HearsEach ids (made ++ t ∷ []) (arrivals ++ a ∷ []) refused_after
hears_more ids made arrivals t a top refused top_after refused_after is each one = record {
  moments = times-push arrivals a
      ∙ (ap (λ l. l ++ a.moment ∷ []) each.moments
      ∙ (ap (λ (m : ℕ). moments_in made ++ m ∷ []) one.moment ∙ sym (moments-push made t)));
  heard = answers-push made t
      ∙ (ap (λ l. l ++ t.answer ∷ []) each.heard
      ∙ (ap (λ (x : Answer). heard_as ids (answers_of arrivals) ++ x ∷ []) (one.heard ∙ ap (λ (n : ℕ). heard_answer ids n a.answer) is)
      ∙ (sym (heard-push ids (answers_of arrivals) a.answer) ∙ ap (heard_as ids) (sym (arrived-push arrivals a)))));
  counted =
      let here : refused_of ids top a.answer ≡ refused_of ids (top_of ids (answers_of arrivals)) a.answer = ap (λ (n : ℕ). refused_of ids n a.answer) is in
      omega (arith, one.counted, each.counted, here, refused-push ids (answers_of arrivals) a.answer, ap (refused_in ids) (arrived-push arrivals a));
}

pub top_more : (ids : IdMode) (arrivals : List Arrival) (t : Turned) (a : Arrival) (top refused top_after refused_after : ℕ)
    → top ≡ top_of ids (answers_of arrivals) → HearsTurn ids top refused top_after refused_after t a → top_after ≡ top_of ids (answers_of (arrivals ++ a ∷ []))
top_more ids arrivals t a top refused top_after refused_after is one =
    one.greatest
    ∙ (ap (λ (n : ℕ). top_behind ids n a.answer) is
    ∙ (sym (top-push ids (answers_of arrivals) a.answer) ∙ ap (top_of ids) (sym (arrived-push arrivals a))))
