-- The application's part in the whole history.
use Rattle.std.proofs.Common.{◌≡◌, ℕ, Bool, true, false, List, [], ◌∷◌, ◌++◌, refl, sym, ap, subst, ◌∙◌, append_assoc}
use Rattle.std.proofs.lemmas.List.{append-nil, append_cancel_left}
use Rattle.gentl_types.specs.declared.buffer_id.BufferId.{BufferId}
use Rattle.board_machine.specs.declared.events.Entry.{Entry}
use Rattle.board_machine.specs.declared.events.Event.{Event}
use Rattle.board_machine.specs.declared.events.Event.TheVariants.{Stop}
use Rattle.board_machine.specs.Machine.{Item, empty_board}
use Rattle.board_machine.specs.Histories.{Run, After, own_of}
use Rattle.board_machine.specs.Handout.{handed, taken_items}
use Rattle.board_machine.specs.Adding.{entries_of}
use Rattle.board_machine.proofs.Runs.{own_of-append, runs_front}
use Rattle.board_machine.proofs.Adding.{entries_of-append}
use Rattle.board_machine.proofs.Handed.{taken_stays}
use Rattle.buffer_words.specs.Passes.{Token, own}
use Rattle.buffer_words.specs.Several.{EntersEach}
use Rattle.buffer_words.proofs.Several.{each_one, each_then}
use Rattle.gev_apply.specs.TakenIds.{taken_ids}
use Rattle.gev_apply.specs.Looks.{lent_in, items_of, ids_of}
use Rattle.gev_apply.specs.History.{StopsAfter, IsStopAfter, ApplicationsPartStays}
use Rattle.gev_apply.proofs.Ids.{ids-append, ids_none}

-- all that a new pass did is what it entered
own_entered : (s t : Token) (events : List Event) → own s ≡ [] → EntersEach s events t → own t ≡ entries_of s.number events
own_entered s t events none_there e =
    ap (λ n. own_of n t.seen) e.number
    ∙ (ap (λ l. own_of s.number l) e.seen
    ∙ (own_of-append s.number s.seen e.between ∙ (ap (λ l. l ++ own_of s.number e.between) none_there ∙ e.own)))

-- ---- what a pass did after its turns

-- So much was seen after the turns, and of the pass it has the stop alone, where there had to be one.
pub record Later (stopped : Bool) (s t u : Token) (events : List Event) : Type 0 where
  pub stops : List Event
  pub are : IsStopAfter stopped stops
  pub between : List Entry
  pub seen : u.seen ≡ t.seen ++ between
  pub own : own u ≡ entries_of s.number (events ++ stops)

pub later : (stopped : Bool) (s t u : Token) (events : List Event) → own s ≡ [] → EntersEach s events t → StopsAfter stopped t u → Later stopped s t u events
later false s t u events none_there e same = record {
  stops = [];
  are = refl;
  between = [];
  seen = ap (λ (x : Token). x.seen) same ∙ sym (append-nil t.seen);
  own = ap own same ∙ (own_entered s t events none_there e ∙ ap (λ l. entries_of s.number l) (sym (append-nil events)));
}
later true s t u events none_there e stop =
    let one : EntersEach t (Stop false stop.0 ∷ []) u = each_one t u (Stop false stop.0) stop.1 refl in
    record {
      stops = Stop false stop.0 ∷ [];
      are = (stop.0, refl);
      between = one.between;
      seen = one.seen;
      own = own_entered s u (events ++ Stop false stop.0 ∷ []) none_there (each_then s t u events (Stop false stop.0 ∷ []) e one);
    }

stop_hands : (n : ℕ) (stopped : Bool) (stops : List Event) → IsStopAfter stopped stops → handed (entries_of n stops) ≡ []
stop_hands n false stops none_there = ap (λ l. handed (entries_of n l)) none_there
stop_hands n true stops stop = ap (λ l. handed (entries_of n l)) stop.1

-- ---- what was taken

taken_whole : (n : ℕ) (seen front more h : List Entry) (items : List Item) → Run h → h ≡ front ++ more → own_of n seen ≡ [] → handed (own_of n more) ≡ []
    → Run seen → taken_items n front ≡ taken_items n seen ++ items → taken_items n h ≡ items
taken_whole n seen front more h items run is new none_there before takes =
    ap (λ l. taken_items n l) is
    ∙ (taken_stays front more n (subst (λ l. Run l) is run) none_there
    ∙ (takes ∙ ap (λ l. l ++ items) (taken_stays [] seen n before (ap handed new))))

ids_whole : (n : ℕ) (seen front more h : List Entry) (ids : List BufferId) → h ≡ front ++ more → own_of n seen ≡ [] → handed (own_of n more) ≡ []
    → taken_ids n front ≡ taken_ids n seen ++ ids → taken_ids n h ≡ ids
ids_whole n seen front more h ids is new none_there takes =
    ap (λ l. taken_ids n l) is
    ∙ (ids-append n empty_board front more
    ∙ (ap (λ l. taken_ids n front ++ l) (ids_none n (After front) more none_there)
    ∙ (append-nil (taken_ids n front) ∙ (takes ∙ ap (λ l. l ++ ids) (ids_none n empty_board seen (ap handed new))))))

pub part_stays : ApplicationsPartStays
part_stays told now made stopped s t u h looks stops new run front whole = record {
  looked = looks.events;
  looks = looks.looks;
  stops = then.stops;
  are_stops = then.are;
  own = whole ∙ then.own;
  taken =
      taken_whole s.number s.seen t.seen more h (items_of (lent_in made)) run is new none_there
      (runs_front empty_board s.seen looks.enters.between (subst (λ l. Run l) looks.enters.seen (runs_front empty_board t.seen more (subst (λ l. Run l) is run))))
      looks.takes;
  ids = ids_whole s.number s.seen t.seen more h (ids_of (lent_in made)) is new none_there looks.ids;
}
  where
    then : Later stopped s t u looks.events
    then = later stopped s t u looks.events new looks.enters stops

    more : List Entry
    more = then.between ++ front.rest

    is : h ≡ t.seen ++ more
    is = front.is ∙ (ap (λ l. l ++ front.rest) then.seen ∙ append_assoc t.seen then.between front.rest)

    own_before : own_of s.number t.seen ≡ entries_of s.number looks.events
    own_before = sym (ap (λ n. own_of n t.seen) looks.enters.number) ∙ own_entered s t looks.events new looks.enters

    own_more : own_of s.number more ≡ entries_of s.number then.stops
    own_more =
        append_cancel_left (own_of s.number t.seen) (own_of s.number more) (entries_of s.number then.stops)
        (sym (own_of-append s.number t.seen more)
        ∙ (sym (ap (λ l. own_of s.number l) is)
        ∙ (whole
        ∙ (then.own
        ∙ (entries_of-append s.number looks.events then.stops ∙ ap (λ l. l ++ entries_of s.number then.stops) (sym own_before))))))

    none_there : handed (own_of s.number more) ≡ []
    none_there = ap handed own_more ∙ stop_hands s.number stopped then.stops then.are
