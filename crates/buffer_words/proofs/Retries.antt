-- A call that added nothing, and then a call that is tried again.
use Rattle.std.proofs.Common.{◌≡◌, ℕ, Bool, true, false, List, [], ◌∷◌, ◌++◌, Option, Some, None, refl, sym, ap, subst, ◌∙◌, append_assoc}
use Rattle.std.proofs.lemmas.List.{append-nil}
use Rattle.board_machine.specs.declared.events.Entry.{Entry}
use Rattle.board_machine.specs.declared.events.Event.{Event}
use Rattle.board_machine.specs.declared.events.Event.TheVariants.{Fill, Take}
use Rattle.board_machine.specs.declared.events.TakeEnd.{TakeEnd}
use Rattle.board_machine.specs.declared.events.TakeEnd.TheVariants.{Taken, Empty, Closed}
use Rattle.board_machine.specs.Machine.{empty_board, item, word_at, hand_at, entry}
use Rattle.board_machine.specs.Histories.{Run, After}
use Rattle.board_machine.specs.Handout.{handed, taken_items}
use Rattle.board_machine.proofs.Runs.{runs_front}
use Rattle.board_machine.proofs.Handed.{taken_stays}
use Rattle.buffer_words.specs.Rule.{Slot}
use Rattle.buffer_words.specs.Told.{Grew}
use Rattle.buffer_words.specs.Passes.{Token, gone, Enters, GrowsTo, SamePlace, SameHands, Has, Gets}
use Rattle.buffer_words.specs.Tries.{GetsOne}
use Rattle.buffer_words.specs.Handing.{AfterFill, DidFill, HandsOver, HandsOne}
use Rattle.buffer_words.proofs.Grown.{grew_then}

-- what was seen in between, by its number and list
grew_at : (n m : ℕ) (s t b : List Entry) → m ≡ n → t ≡ s → Grew m t b → Grew n s b
grew_at n m s t b number seen grew = subst (λ k. Grew k s b) number (subst (λ l. Grew m l b) seen grew)

pub grows_self : (s : Token) → GrowsTo s s
grows_self s = record {
  table = refl;
  number = refl;
  between = [];
  seen = sym (append-nil s.seen);
  grew = record {
    others = refl;
    alone = λ _. refl;
    hand = ap (λ l. hand_at (After l) s.number) (append-nil s.seen);
    words = λ i mine. ap (λ l. word_at (After l) i) (append-nil s.seen);
  };
}

pub grows_then : (s t u : Token) → GrowsTo s t → GrowsTo t u → GrowsTo s u
grows_then s t u first second = record {
  table = second.table ∙ first.table;
  number = second.number ∙ first.number;
  between = first.between ++ second.between;
  seen = second.seen ∙ (ap (λ l. l ++ second.between) first.seen ∙ append_assoc s.seen first.between second.between);
  grew = grew_then s.number s.seen first.between second.between first.grew (grew_at s.number t.number (s.seen ++ first.between) t.seen second.between first.number first.seen second.grew);
}

pub grows_then_enters : (s t u : Token) (event : Event) → GrowsTo s t → Enters t event u → Enters s event u
grows_then_enters s t u event first second = record {
  table = second.table ∙ first.table;
  number = second.number ∙ first.number;
  run = second.run;
  between = first.between ++ second.between;
  seen = second.seen ∙ (ap (λ l. (l ++ second.between) ++ entry t.number event ∷ []) first.seen
      ∙ (ap (λ l. l ++ entry t.number event ∷ []) (append_assoc s.seen first.between second.between)
      ∙ ap (λ n. (s.seen ++ (first.between ++ second.between)) ++ entry n event ∷ []) first.number));
  grew = grew_then s.number s.seen first.between second.between first.grew (grew_at s.number t.number (s.seen ++ first.between) t.seen second.between first.number first.seen second.grew);
}

pub hands_self : (s : Token) → SameHands s s
hands_self s i = record { slot = refl; buffer = λ some. record { size = refl; generation = refl } }

pub place_then : (i : ℕ) (s t u : Token) → SamePlace i s t → SamePlace i t u → SamePlace i s u
place_then i s t u first second = record {
  slot = second.slot ∙ first.slot;
  buffer = λ some.
      let one = first.buffer some in
      let two = second.buffer (λ none. some (sym first.slot ∙ none)) in
      record { size = two.size ∙ one.size; generation = two.generation ∙ one.generation };
}

pub hands_then : (s t u : Token) → SameHands s t → SameHands t u → SameHands s u
hands_then s t u first second i = place_then i s t u (first i) (second i)

pub hands_then_has : (i : ℕ) (x : Option Slot) (s t u : Token) → SameHands s t → Has i x t u → Has i x s u
hands_then_has i x s t u first second = record {
  here = second.here;
  others = λ j ne. place_then j s t u (first j) (second.others j ne);
}

pub hands_then_gets : (i : ℕ) (s t u : Token) → SameHands s t → Gets i t u → Gets i s u
hands_then_gets i s t u first second = record {
  below = second.below;
  new = sym (first i).slot ∙ second.new;
  filling = second.filling;
  has = hands_then_has i (Some (Some second.filling)) s t u first second.has;
  size = second.size;
}

pub hands_then_one : (place : Option ℕ) (s t u : Token) → SameHands s t → GetsOne place t u → GetsOne place s u
hands_then_one None s t u first second = hands_then s t u first second
hands_then_one (Some i) s t u first second = hands_then_gets i s t u first second

-- what was set down before, and then a fill of it
pub grows_then_fill : (i : ℕ) (filled : Bool) (s t u : Token) → GrowsTo s t → SameHands s t → DidFill i filled t u → DidFill i filled s u
grows_then_fill i filled s t u grows same did = record {
  filling = did.filling;
  was = sym (same i).slot ∙ did.was;
  entry = grows_then_enters s t u (Fill i did.filling filled) grows did.entry;
  hands = go filled did.hands;
}
  where
    go : (end : Bool) → AfterFill end i t u → AfterFill end i s u
    go true after = hands_then_has i gone s t u same after
    go false after = hands_then s t u same after

hands_then_over : (i : ℕ) (s t u : Token) → GrowsTo s t → Run t.seen → SameHands s t → HandsOver i t u → HandsOver i s u
hands_then_over i s t u grows run same over = record {
  below = over.below;
  new = sym (same i).slot ∙ over.new;
  filling = over.filling;
  has = hands_then_has i (Some (Some over.filling)) s t u same over.has;
  size = over.size;
  earlier = over.earlier;
  removed = over.removed;
  taken = ap (λ n. taken_items n u.seen) (sym grows.number)
      ∙ (over.taken ∙ (ap (λ n. taken_items n t.seen ++ item i over.filling ∷ []) grows.number
      ∙ ap (λ xs. xs ++ item i over.filling ∷ []) (ap (λ l. taken_items s.number l) grows.seen ∙ stays)));
}
  where
    stays : taken_items s.number (s.seen ++ grows.between) ≡ taken_items s.number s.seen
    stays = taken_stays s.seen grows.between s.number (subst (λ l. Run l) grows.seen run) (ap handed grows.grew.others)

-- a take after tries that were lost
pub grows_then_take : (end : TakeEnd) (s t u : Token) → GrowsTo s t → SameHands s t → Enters t (Take end) u → HandsOne end t u → HandsOne end s u
grows_then_take (Taken i) s t u grows same enters one =
    hands_then_over i s t u grows
    (runs_front empty_board t.seen (enters.between ++ entry t.number (Take (Taken i)) ∷ [])
    (subst (λ l. Run l) (enters.seen ∙ append_assoc t.seen enters.between (entry t.number (Take (Taken i)) ∷ [])) enters.run)) same one
grows_then_take Empty s t u grows same enters one = hands_then s t u same one
grows_then_take Closed s t u grows same enters one = hands_then s t u same one
