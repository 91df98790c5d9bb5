-- Calls that follow one another: none, one, one more, a list and then a list.
use Rattle.std.proofs.Common.{◌≡◌, ◌≢◌, ℕ, ◌==◌, List, [], ◌∷◌, ◌++◌, refl, sym, ap, subst, ◌∙◌, append_assoc, eq-eqb}
use Rattle.std.proofs.lemmas.List.{append-nil}
use Rattle.std.proofs.lemmas.Bool.{cond-true}
use Rattle.board_machine.specs.declared.events.Entry.{Entry}
use Rattle.board_machine.specs.declared.events.Event.{Event}
use Rattle.board_machine.specs.declared.events.Event.TheVariants.{Split}
use Rattle.board_machine.specs.Machine.{empty_board, entry, CanBeNext, next}
use Rattle.board_machine.specs.Histories.{Run, After, own_of}
use Rattle.board_machine.specs.Adding.{entries_of}
use Rattle.board_machine.specs.Actors.{born_by}
use Rattle.board_machine.specs.Laws.{IsAlone}
use Rattle.board_machine.proofs.Runs.{after-push, own_of-append, runs_rest}
use Rattle.board_machine.proofs.Actors.{alone_on}
use Rattle.board_machine.proofs.Adding.{entries_of-append}
use Rattle.buffer_words.specs.Passes.{Token, Enters, GrowsTo, Stays}
use Rattle.buffer_words.specs.Several.{EndsWith, AddsAlone, EntersEach, EntersOf, EntersThen, BearsNobody}

-- an event that adds no actor is no split
pub no_split : (event : Event) (n : ℕ) → BearsNobody event → event ≢ Split n
no_split event n nobody splits = let one : born_by event ≡ n ∷ [] = ap born_by splits in cc

-- the entry of its own actor
pub own_entry : (n : ℕ) (event : Event) → own_of n (entry n event ∷ []) ≡ entry n event ∷ []
own_entry n event = cond-true (n == n) (entry n event ∷ []) [] (eq-eqb n n refl)

-- what an entry adds of its actor's own
pub enters_own : (s t : Token) (event : Event) → (e : Enters s event t) → own_of s.number (e.between ++ entry s.number event ∷ []) ≡ entry s.number event ∷ []
enters_own s t event e =
    own_of-append s.number e.between (entry s.number event ∷ [])
    ∙ (ap (λ l. l ++ own_of s.number (entry s.number event ∷ [])) e.grew.others ∙ own_entry s.number event)

-- the board before the entry, and what may be said of it
enters_runs : (s t : Token) (event : Event) → (e : Enters s event t) → Run ((s.seen ++ e.between) ++ entry s.number event ∷ [])
enters_runs s t event e = subst (λ l. Run l) e.seen e.run

pub enters_may : (s t : Token) (event : Event) → (e : Enters s event t) → CanBeNext (After (s.seen ++ e.between)) (entry s.number event)
enters_may s t event e = (runs_rest empty_board (s.seen ++ e.between) (entry s.number event ∷ []) (enters_runs s t event e)).0

pub enters_after : (s t : Token) (event : Event) → (e : Enters s event t) → After t.seen ≡ next (After (s.seen ++ e.between)) (entry s.number event)
enters_after s t event e = ap (λ l. After l) e.seen ∙ after-push (s.seen ++ e.between) (entry s.number event)

pub each_stays : (s t : Token) → Stays s t → EntersEach s [] t
each_stays s t stays = record {
  table = stays.table;
  number = stays.number;
  between = [];
  seen = stays.seen ∙ sym (append-nil s.seen);
  own = refl;
  last = refl;
  alone = λ alone. record { only = refl; alone = subst (λ l. IsAlone (After l) s.number) (sym stays.seen) alone };
  run = λ run. subst (λ l. Run l) (sym stays.seen) run;
}

pub each_none : (s : Token) → EntersEach s [] s
each_none s = each_stays s s (record { table = refl; number = refl; seen = refl })

pub each_one : (s t : Token) (event : Event) → Enters s event t → BearsNobody event → EntersEach s (event ∷ []) t
each_one s t event e nobody = record {
  table = e.table;
  number = e.number;
  between = e.between ++ entry s.number event ∷ [];
  seen = e.seen ∙ append_assoc s.seen e.between (entry s.number event ∷ []);
  own = enters_own s t event e;
  last = (e.between, refl);
  alone = λ alone. record {
    only = ap (λ l. l ++ entry s.number event ∷ []) (e.grew.alone alone);
    alone = subst (λ b. IsAlone b s.number) (sym (enters_after s t event e))
        (alone_on (After (s.seen ++ e.between)) (entry s.number event) (enters_may s t event e)
        (subst (λ l. IsAlone (After l) s.number) (sym (ap (λ l. s.seen ++ l) (e.grew.alone alone) ∙ append-nil s.seen)) alone)
        (λ n. no_split event n nobody));
  };
  run = λ _. e.run;
}

-- the end of two lists is that of the second
ends_later : (n : ℕ) (e : Event) (es : List Event) (a b : List Entry) → EndsWith n (e ∷ es) b → EndsWith n (e ∷ es) (a ++ b)
ends_later n e [] a b ends = (a ++ ends.0, ap (λ l. a ++ l) ends.1 ∙ sym (append_assoc a ends.0 (entry n e ∷ [])))
ends_later n e (f ∷ es) a b ends = ends_later n f es a b ends

ends_more : (n : ℕ) (es fs : List Event) (f : Event) (a b : List Entry) → EndsWith n (f ∷ fs) b → EndsWith n (es ++ (f ∷ fs)) (a ++ b)
ends_more n [] fs f a b ends = ends_later n f fs a b ends
ends_more n (e ∷ []) fs f a b ends = ends_later n f fs a b ends
ends_more n (e ∷ d ∷ es) fs f a b ends = ends_more n (d ∷ es) fs f a b ends

pub ends_both : (n : ℕ) (es fs : List Event) (a b : List Entry) → EndsWith n es a → EndsWith n fs b → EndsWith n (es ++ fs) (a ++ b)
ends_both n es [] a b first second =
    subst (λ l. EndsWith n l (a ++ b)) (sym (append-nil es)) (subst (λ l. EndsWith n es l) (sym (ap (λ l. a ++ l) second ∙ append-nil a)) first)
ends_both n es (f ∷ fs) a b first second = ends_more n es fs f a b second

pub each_then : (s t u : Token) (es fs : List Event) → EntersEach s es t → EntersEach t fs u → EntersEach s (es ++ fs) u
each_then s t u es fs first second = record {
  table = second.table ∙ first.table;
  number = second.number ∙ first.number;
  between = first.between ++ second.between;
  seen = second.seen ∙ (ap (λ l. l ++ second.between) first.seen ∙ append_assoc s.seen first.between second.between);
  own = own_of-append s.number first.between second.between
      ∙ (ap (λ l. l ++ own_of s.number second.between) first.own
      ∙ (ap (λ l. entries_of s.number es ++ l) (subst (λ n. own_of n second.between ≡ entries_of n fs) first.number second.own)
      ∙ sym (entries_of-append s.number es fs)));
  last = ends_both s.number es fs first.between second.between first.last (subst (λ n. EndsWith n fs second.between) first.number second.last);
  alone = λ alone.
      let one = first.alone alone in
      let two : AddsAlone s.number fs second.between u.seen =
      subst (λ n. AddsAlone n fs second.between u.seen) first.number (second.alone (subst (λ n. IsAlone (After t.seen) n) (sym first.number) one.alone)) in
      record {
        only = ap (λ l. l ++ second.between) one.only ∙ (ap (λ l. entries_of s.number es ++ l) two.only ∙ sym (entries_of-append s.number es fs));
        alone = two.alone;
      };
  run = λ run. second.run (first.run run);
}

-- one more entry after a list
pub each_push : (s t u : Token) (es : List Event) (event : Event) → EntersEach s es t → Enters t event u → BearsNobody event → EntersEach s (es ++ event ∷ []) u
each_push s t u es event first second nobody = each_then s t u es (event ∷ []) first (each_one t u event second nobody)

-- one entry before a list
pub each_first : (s t u : Token) (event : Event) (es : List Event) → Enters s event t → BearsNobody event → EntersEach t es u → EntersEach s (event ∷ es) u
each_first s t u event es first nobody second = each_then s t u (event ∷ []) es (each_one s t event first nobody) second

-- two entries, one after the other
pub each_two : (s t u : Token) (first second : Event) → Enters s first t → Enters t second u → BearsNobody first → BearsNobody second → EntersEach s (first ∷ second ∷ []) u
each_two s t u first second one two nobody nobody_more = each_first s t u first (second ∷ []) one nobody (each_one t u second two nobody_more)

-- a call that adds nothing after a list, and before it
pub stays_after : (s t u : Token) (es : List Event) → EntersEach s es t → Stays t u → EntersEach s es u
stays_after s t u es first second = subst (λ l. EntersEach s l u) (append-nil es) (each_then s t u es [] first (each_stays t u second))

pub stays_before : (s t u : Token) (es : List Event) → Stays s t → EntersEach t es u → EntersEach s es u
stays_before s t u es first second = each_then s t u [] es (each_stays s t first) second

-- the same by kinds
pub of_kind : (s t : Token) (K : List Event → Type 0) (es : List Event) → K es → EntersEach s es t → EntersOf s K t
of_kind s t K es kind enters = record { events = es; kind = kind; enters = enters }

pub of_none : (s t : Token) (K : List Event → Type 0) → K [] → Stays s t → EntersOf s K t
of_none s t K kind stays = of_kind s t K [] kind (each_stays s t stays)

pub of_one : (s t : Token) (K : List Event → Type 0) (event : Event) → K (event ∷ []) → BearsNobody event → Enters s event t → EntersOf s K t
of_one s t K event kind nobody enters = of_kind s t K (event ∷ []) kind (each_one s t event enters nobody)

pub of_as : (s t : Token) (K L : List Event → Type 0) → ((es : List Event) → K es → L es) → EntersOf s K t → EntersOf s L t
of_as s t K L weaker of = record { events = of.events; kind = weaker of.events of.kind; enters = of.enters }

pub of_then : (s t u : Token) (K L M : List Event → Type 0) → ((es fs : List Event) → K es → L fs → M (es ++ fs)) → EntersOf s K t → EntersOf t L u → EntersOf s M u
of_then s t u K L M whole first second = record {
  events = first.events ++ second.events;
  kind = whole first.events second.events first.kind second.kind;
  enters = each_then s t u first.events second.events first.enters second.enters;
}

pub of_push : (s t u : Token) (K M : List Event → Type 0) (event : Event) → ((es : List Event) → K es → M (es ++ event ∷ [])) → BearsNobody event → EntersOf s K t → Enters t event u → EntersOf s M u
of_push s t u K M event whole nobody first second = record {
  events = first.events ++ event ∷ [];
  kind = whole first.events first.kind;
  enters = each_push s t u first.events event first.enters second nobody;
}

pub of_first : (s t u : Token) (K M : List Event → Type 0) (event : Event) → ((es : List Event) → K es → M (event ∷ es)) → BearsNobody event → Enters s event t → EntersOf t K u → EntersOf s M u
of_first s t u K M event whole nobody first second = record {
  events = event ∷ second.events;
  kind = whole second.events second.kind;
  enters = each_first s t u event second.events first nobody second.enters;
}

-- a call that ends with a look at others' entries
pub then_grows : (s t u : Token) (K : List Event → Type 0) → EntersOf s K t → GrowsTo t u → EntersThen s K u
then_grows s t u K enters grows = record { middle = t; enters = enters; grows = grows }

-- a call that sees others' entries, before a list that has an entry
pub grows_then_each : (s t u : Token) (event : Event) (events : List Event) → GrowsTo s t → Run t.seen → EntersEach t (event ∷ events) u → EntersEach s (event ∷ events) u
grows_then_each s t u event events grows run each = record {
  table = each.table ∙ grows.table;
  number = each.number ∙ grows.number;
  between = grows.between ++ each.between;
  seen = each.seen ∙ (ap (λ l. l ++ each.between) grows.seen ∙ append_assoc s.seen grows.between each.between);
  own = own_of-append s.number grows.between each.between
      ∙ (ap (λ l. l ++ own_of s.number each.between) grows.grew.others
      ∙ subst (λ n. own_of n each.between ≡ entries_of n (event ∷ events)) grows.number each.own);
  last = ends_later s.number event events grows.between each.between (subst (λ n. EndsWith n (event ∷ events) each.between) grows.number each.last);
  alone = λ alone.
      let nothing : grows.between ≡ [] = grows.grew.alone alone in
      let same_seen : t.seen ≡ s.seen = grows.seen ∙ (ap (λ l. s.seen ++ l) nothing ∙ append-nil s.seen) in
      let still : IsAlone (After t.seen) t.number =
      subst (λ n. IsAlone (After t.seen) n) (sym grows.number) (subst (λ l. IsAlone (After l) s.number) (sym same_seen) alone) in
      let adds : AddsAlone s.number (event ∷ events) each.between u.seen = subst (λ n. AddsAlone n (event ∷ events) each.between u.seen) grows.number (each.alone still) in
      record { only = ap (λ l. l ++ each.between) nothing ∙ adds.only; alone = adds.alone };
  run = λ _. each.run run;
}

-- a call after one that ended with a look at others' entries
pub then_each : (s t u : Token) (K M : List Event → Type 0) (event : Event) (events : List Event) → ((es : List Event) → K es → M (es ++ event ∷ events)) → EntersThen s K t → Run t.seen → EntersEach t (event ∷ events) u → EntersOf s M u
then_each s t u K M event events whole first run second = record {
  events = first.enters.events ++ event ∷ events;
  kind = whole first.enters.events first.enters.kind;
  enters = each_then s first.middle u first.enters.events (event ∷ events) first.enters.enters (grows_then_each first.middle t u event events first.grows run second);
}

pub then_of : (s t u : Token) (K L M : List Event → Type 0) → ((es fs : List Event) → K es → L fs → M (es ++ fs)) → ¬ (L []) → EntersThen s K t → Run t.seen → EntersOf t L u → EntersOf s M u
then_of s t u K L M whole some_entry first run second = go second.events second.kind second.enters
  where
    go : (fs : List Event) → L fs → EntersEach t fs u → EntersOf s M u
    go [] kind each = absurd (some_entry kind)
    go (event ∷ events) kind each = then_each s t u K M event events (λ es of. whole es (event ∷ events) of kind) first run each
