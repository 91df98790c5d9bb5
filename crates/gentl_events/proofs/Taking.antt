-- What a turn adds, what it leaves in the pass's hands, and what the pass has taken after it.
use Rattle.std.proofs.Common.{◌≡◌, ℕ, Bool, List, [], ◌∷◌, ◌++◌, refl, sym, ap, subst, ◌∙◌, append_assoc}
use Rattle.std.proofs.lemmas.List.{append-nil}
use Rattle.gev_types.specs.Filling.{Filling}
use Rattle.board_machine.specs.declared.events.Entry.{Entry}
use Rattle.board_machine.specs.declared.events.Event.{Event}
use Rattle.board_machine.specs.declared.events.Event.TheVariants.{Take, Unpost}
use Rattle.board_machine.specs.declared.events.TakeEnd.TheVariants.{Taken, Empty}
use Rattle.board_machine.specs.Machine.{Item, item}
use Rattle.board_machine.specs.Histories.{Run, own_of}
use Rattle.board_machine.specs.Handout.{handed, taken_items}
use Rattle.board_machine.specs.Adding.{entries_of}
use Rattle.board_machine.proofs.Handed.{taken_stays}
use Rattle.buffer_words.specs.Passes.{Token, down, lifted, IsDown, Enters, GrowsTo, SameHands, Has}
use Rattle.buffer_words.specs.Loans.{Lent, IsLoanOf}
use Rattle.buffer_words.specs.Several.{EntersEach, BearsNobody}
use Rattle.buffer_words.specs.Handing.{HandsOver}
use Rattle.buffer_words.proofs.Several.{each_one, each_two}
use Rattle.buffer_words.proofs.Partings.{has_then}
use Rattle.buffer_words.proofs.Retries.{hands_then}
use Rattle.gentl_events.specs.Turns.{TakesMore, HasLoan, TurnsWith, TurnsToLoan}

-- a pass that took nothing more
takes_none : (s t : Token) (between : List Entry) → t.seen ≡ s.seen ++ between → handed (own_of s.number between) ≡ [] → Run t.seen → TakesMore [] s t
takes_none s t between seen none run =
    ap (λ l. taken_items s.number l) seen
    ∙ (taken_stays s.seen between s.number (subst (λ l. Run l) seen run) none ∙ sym (append-nil (taken_items s.number s.seen)))

pub takes_then : (s t u : Token) (xs ys : List Item) → t.number ≡ s.number → TakesMore xs s t → TakesMore ys t u → TakesMore (xs ++ ys) s u
takes_then s t u xs ys number first second =
    subst (λ n. taken_items n u.seen ≡ taken_items n t.seen ++ ys) number second
    ∙ (ap (λ l. l ++ ys) first ∙ append_assoc (taken_items s.number s.seen) xs ys)

turns_with : (s t : Token) (events : List Event) → EntersEach s events t → Run t.seen → handed (entries_of s.number events) ≡ [] → SameHands s t → TurnsWith events s t
turns_with s t events enters run none hands = record {
  enters = enters;
  hands = hands;
  takes = takes_none s t enters.between enters.seen (ap handed enters.own ∙ none) run;
}

-- a turn of one act, and one of two
pub one_act : (s t : Token) (event : Event) → BearsNobody event → Enters s event t → handed (entries_of s.number (event ∷ [])) ≡ [] → SameHands s t → TurnsWith (event ∷ []) s t
one_act s t event nobody enters none hands = turns_with s t (event ∷ []) (each_one s t event enters nobody) enters.run none hands

pub two_acts : (s t u : Token) (stood : Bool) → Enters s (Take Empty) t → SameHands s t → Enters t (Unpost stood) u → SameHands t u → TurnsWith (Take Empty ∷ Unpost stood ∷ []) s u
two_acts s t u stood first hands second more =
    turns_with s u (Take Empty ∷ Unpost stood ∷ []) (each_two s t u (Take Empty) (Unpost stood) first second refl refl) second.run refl (hands_then s t u hands more)

-- the loan of a taken buffer
loan_of : (s t u : Token) (loan : Lent) → HandsOver loan.id.place s t → IsLoanOf u loan → Has loan.id.place lifted t u → HasLoan loan s u
loan_of s t u loan over is has = record {
  is = is;
  new = over.new;
  hands = has_then loan.id.place (down over.filling) lifted s t u over.has has;
}

lends : (s t u : Token) (loan : Lent) → Enters s (Take (Taken loan.id.place)) t → HandsOver loan.id.place s t → GrowsTo t u → Run u.seen → IsDown t loan.id.place loan.filling → IsLoanOf u loan → Has loan.id.place lifted t u
    → TurnsToLoan loan s u
lends s t u loan enters over grows run was is has = record {
  middle = t;
  enters = each_one s t (Take (Taken loan.id.place)) enters refl;
  grows = grows;
  has = loan_of s t u loan over is has;
  takes =
      let same : over.filling ≡ loan.filling = let there = over.has.here in cc in
      let more : TakesMore (item loan.id.place loan.filling ∷ []) s t = subst (λ (f : Filling). TakesMore (item loan.id.place f ∷ []) s t) same over.taken in
      takes_then s t u (item loan.id.place loan.filling ∷ []) [] enters.number more (takes_none t u grows.between grows.seen (ap handed grows.grew.others) run);
}

pub lends_at : (s t u : Token) (place : ℕ) (loan : Lent) → loan.id.place ≡ place → Enters s (Take (Taken place)) t → HandsOver place s t → GrowsTo t u → Run u.seen → IsDown t place loan.filling → IsLoanOf u loan → Has place lifted t u
    → TurnsToLoan loan s u
lends_at s t u place loan e enters over grows run was is has =
    lends s t u loan (subst (λ (p : ℕ). Enters s (Take (Taken p)) t) (sym e) enters) (subst (λ (p : ℕ). HandsOver p s t) (sym e) over) grows run
    (subst (λ (p : ℕ). IsDown t p loan.filling) (sym e) was) is (subst (λ (p : ℕ). Has p lifted t u) (sym e) has)
