-- What is told after each other.
use Rattle.std.proofs.Common.{◌≡◌, ℕ, ◌<◌, ◌≤◌, ◌+◌, List, [], ◌∷◌, ◌++◌, length, map, drop, get_or, Some, refl, sym, ap, subst, ◌∙◌, append-nil, append_assoc}
use Rattle.std.proofs.lemmas.List.{drop_more, get_or_past}
use Rattle.gentl_types.specs.declared.buffer_id.BufferId.{BufferId}
use Rattle.gentl_types.specs.declared.word.Word.{Word}
use Rattle.board_machine.specs.Machine.{Board, Item, vacant}
use Rattle.board_machine.specs.Ids.{buffer_at}
use Rattle.board_model.specs.declared.gone.Gone.{Gone}
use Rattle.board_model.specs.Gone.{gone_of}
use Rattle.script_trace.specs.Notes.{Note, drops, opens}
use Rattle.script_trace.specs.Inputs.{drop_notes}
use Rattle.note_tape.specs.declared.told.Told.{Told}
use Rattle.note_tape.specs.declared.told.Told.TheVariants.{Opened}
use Rattle.note_tape.specs.Telling.{AreNoted}
use Rattle.note_tape.specs.Tells.{Tells}
use Rattle.explain_lines.specs.Marks.{KeepsMarks}

noted_both : (xs ys : List Told) (ns ms : List Note) → AreNoted xs ns → AreNoted ys ms → AreNoted (xs ++ ys) (ns ++ ms)
noted_both [] ys [] ms first second = second
noted_both [] ys (n ∷ ns) ms first second = absurd first
noted_both (x ∷ xs) ys [] ms first second = absurd first
noted_both (x ∷ xs) ys (n ∷ ns) ms first second = (first.0, noted_both xs ys ns ms first.1 second)

pub tells_none : (tape : List Told) → Tells tape tape []
tells_none tape = record { more = []; is = sym (append-nil tape); noted = tt }

pub tells_both : (a b c : List Told) (ns ms : List Note) → Tells a b ns → Tells b c ms → Tells a c (ns ++ ms)
tells_both a b c ns ms first second = record {
  more = first.more ++ second.more;
  is = second.is ∙ (ap (λ l. l ++ second.more) first.is ∙ append_assoc a first.more second.more);
  noted = noted_both first.more second.more ns ms first.noted second.noted;
}

pub tells_as : (a b : List Told) (ns ms : List Note) → ns ≡ ms → Tells a b ns → Tells a b ms
tells_as a b ns ms is tells = subst (Tells a b) is tells

-- what was told on an empty tape
pub tells_all_of : (a b : List Told) (ns : List Note) → a ≡ [] → Tells a b ns → AreNoted b ns
tells_all_of a b ns empty tells = subst (λ l. AreNoted l ns) (sym (tells.is ∙ ap (λ l. l ++ tells.more) empty)) tells.noted

-- ---- what gave way, told one by one

-- what is left to be told, behind what was
pub record GoneOn (left : List Gone) (start now : List Told) (before : Board) (xs : List Item) : Type 0 where
  pub rest : List Item
  pub are : left ≡ map gone_of rest
  pub goes_on : (end : List Told) → Tells now end (drop_notes before rest) → Tells start end (drop_notes before xs)

pub gone_begin : (left : List Gone) (start : List Told) (before : Board) (xs : List Item) → left ≡ map gone_of xs → GoneOn left start start before xs
gone_begin left start before xs are = record { rest = xs; are = are; goes_on = λ end tells. tells }

same_gone : (x y : Gone) (xs ys : List Gone) → x ∷ xs ≡ y ∷ ys → x ≡ y
same_gone x y xs ys e = cc

same_rest : (x y : Gone) (xs ys : List Gone) → x ∷ xs ≡ y ∷ ys → xs ≡ ys
same_rest x y xs ys e = cc

none_gone : (x : Gone) (xs : List Gone) → x ∷ xs ≡ [] → ⊥
none_gone x xs e = cc

gone_one : (x : Gone) (left : List Gone) (start now next : List Told) (before : Board) (xs rest : List Item) → x ∷ left ≡ map gone_of rest → ((end : List Told) → Tells now end (drop_notes before rest) → Tells start end (drop_notes before xs))
    → Tells now next (drops x.block (buffer_at before x.place) ∷ []) → GoneOn left start next before xs
gone_one x left start now next before xs [] are goes_on told = absurd (none_gone x left are)
gone_one x left start now next before xs (y ∷ rest) are goes_on told =
    let here : x ≡ gone_of y = same_gone x (gone_of y) left (map gone_of rest) are in
    record {
      rest = rest;
      are = same_rest x (gone_of y) left (map gone_of rest) are;
      goes_on = λ end tells. goes_on end
          (tells_both now next end (drops y.filling.rec.block (buffer_at before y.place) ∷ []) (drop_notes before rest)
          (tells_as now next (drops x.block (buffer_at before x.place) ∷ []) (drops y.filling.rec.block (buffer_at before y.place) ∷ [])
          (ap (λ (g : Gone). drops g.block (buffer_at before g.place) ∷ []) here) told)
          tells);
    }

pub gone_more : (i : ℕ) (gone : List Gone) (d : Gone) (start now next : List Told) (before : Board) (xs : List Item) → i < length gone → GoneOn (drop i gone) start now before xs
    → Tells now next (drops (get_or gone i d).block (buffer_at before (get_or gone i d).place) ∷ []) → GoneOn (drop (i + 1) gone) start next before xs
gone_more i gone d start now next before xs less on told =
    gone_one (get_or gone i d) (drop (i + 1) gone) start now next before xs on.rest (sym (drop_more gone i d less) ∙ on.are) on.goes_on told

none_items : (xs : List Item) → [] ≡ map gone_of xs → xs ≡ []
none_items [] e = refl
none_items (x ∷ xs) e = absurd cc

pub all_gone : (left : List Gone) (start now : List Told) (before : Board) (xs : List Item) → left ≡ [] → GoneOn left start now before xs → Tells start now (drop_notes before xs)
all_gone left start now before xs none on =
    on.goes_on now (tells_as now now [] (drop_notes before on.rest) (ap (drop_notes before) (sym (none_items on.rest (sym none ∙ on.are)))) (tells_none now))

-- a number that is no place has the word of a vacant one
pub past_id : (before now : Board) (place : ℕ) → KeepsMarks before now → length now.words ≤ place → record { place = place; generation = 0 } ≡ buffer_at before place
past_id before now place marks past =
    ap (λ (g : ℕ). record { place = place; generation = g }) (sym (ap (λ (w : Word). w.generation) (get_or_past now.words place vacant past)) ∙ marks.generation place)

-- a claim that got a buffer
pub tells_opened : (a b c : List Told) (before : Board) (block place : ℕ) (id : BufferId) (ways : List Note) → Tells a b ways → c ≡ b ++ Opened block (Some id) ∷ [] → id ≡ buffer_at before place → Tells a c (ways ++ opens block (Some (buffer_at before place)) ∷ [])
tells_opened a b c before block place id ways first grown is =
    tells_both a b c ways (opens block (Some (buffer_at before place)) ∷ []) first
    (record { more = Opened block (Some id) ∷ []; is = grown; noted = (ap (λ (i : BufferId). opens block (Some i)) (sym is), tt) })
