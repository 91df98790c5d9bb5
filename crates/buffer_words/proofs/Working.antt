-- Workers that a host splits off and joins again, and whose the entries are.
use Rattle.std.proofs.Common.{◌≡◌, ◌≢◌, ◌⊎◌, ℕ, ◌≤◌, ◌==◌, Bool, true, false, List, [], ◌∷◌, ◌++◌, refl, sym, ap, subst, ◌∙◌, inl, inr, ⊎_elim, append_assoc, arith, eq-eqb}
use Rattle.std.proofs.lemmas.List.{append-nil}
use Rattle.std.proofs.lemmas.Bool.{cond_both, cond-true, cases_eq}
use Rattle.board_machine.specs.declared.events.Entry.{Entry}
use Rattle.board_machine.specs.declared.events.Event.{Event}
use Rattle.board_machine.specs.declared.events.Event.TheVariants.{Split, Join}
use Rattle.board_machine.specs.Places.{times}
use Rattle.board_machine.specs.Machine.{empty_board, entry, hand_at, IsActor}
use Rattle.board_machine.specs.Histories.{Run, RunsFrom, After, own_of}
use Rattle.board_machine.specs.Adding.{entries_of}
use Rattle.board_machine.specs.Actors.{born_by, born, AllBy}
use Rattle.board_machine.specs.Laws.{IsEnded, OnlyTheseAct}
use Rattle.board_machine.proofs.Places.{same_other}
use Rattle.board_machine.proofs.Runs.{after-append, own_of-append, runs_rest}
use Rattle.board_machine.proofs.Ended.{ended_nothing, ended_stays}
use Rattle.board_machine.proofs.Actors.{all_by}
use Rattle.buffer_words.specs.Passes.{Token, own, Enters, GrowsTo, Stays}
use Rattle.buffer_words.specs.Several.{EntersEach, BearsNobody, BearNone}
use Rattle.buffer_words.specs.Workers.{AreOf, AreEvents, OnlyBy, AreApart, IsChildless, Works, Worker, numbers, IsHome, AreHome, Hosts, AreChildless, OthersAreApart, HostedAll}
use Rattle.buffer_words.specs.WorkLaws.{worker_of}
use Rattle.buffer_words.specs.Witness.{StaysOwn}
use Rattle.buffer_words.proofs.Several.{enters_own}

pub are_of-append : (kind : Event → Bool) (g h : List Entry) → AreOf kind g → AreOf kind h → AreOf kind (g ++ h)
are_of-append kind [] h first second = second
are_of-append kind (e ∷ g) h first second = (first.0, are_of-append kind g h first.1 second)

pub are_of_later : (kind : Event → Bool) (g h : List Entry) → AreOf kind (g ++ h) → AreOf kind h
are_of_later kind [] h all = all
are_of_later kind (e ∷ g) h all = are_of_later kind g h all.1

pub are_of_entries : (kind : Event → Bool) (n : ℕ) (events : List Event) → AreEvents kind events → AreOf kind (entries_of n events)
are_of_entries kind n [] all = tt
are_of_entries kind n (event ∷ events) all = (all.0, are_of_entries kind n events all.1)

-- one worker's calls
pub works_stays : (kind : Event → Bool) (s t : Token) → Stays s t → Works kind s t
works_stays kind s t stays = record { table = stays.table; number = stays.number; between = []; seen = stays.seen ∙ sym (append-nil s.seen); of_kind = tt }

pub works_grows : (kind : Event → Bool) (s t : Token) → GrowsTo s t → Works kind s t
works_grows kind s t grows = record {
  table = grows.table;
  number = grows.number;
  between = grows.between;
  seen = grows.seen;
  of_kind = subst (λ l. AreOf kind l) (sym grows.grew.others) tt;
}

pub works_enters : (kind : Event → Bool) (s t : Token) (event : Event) → kind event ≡ true → Enters s event t → Works kind s t
works_enters kind s t event is e = record {
  table = e.table;
  number = e.number;
  between = e.between ++ entry s.number event ∷ [];
  seen = e.seen ∙ append_assoc s.seen e.between (entry s.number event ∷ []);
  of_kind = subst (λ l. AreOf kind l) (sym (enters_own s t event e)) (is, tt);
}

pub works_each : (kind : Event → Bool) (s t : Token) (events : List Event) → AreEvents kind events → EntersEach s events t → Works kind s t
works_each kind s t events are e = record {
  table = e.table;
  number = e.number;
  between = e.between;
  seen = e.seen;
  of_kind = subst (λ l. AreOf kind l) (sym e.own) (are_of_entries kind s.number events are);
}

pub works_then : (kind : Event → Bool) (s t u : Token) → Works kind s t → Works kind t u → Works kind s u
works_then kind s t u first second = record {
  table = second.table ∙ first.table;
  number = second.number ∙ first.number;
  between = first.between ++ second.between;
  seen = second.seen ∙ (ap (λ l. l ++ second.between) first.seen ∙ append_assoc s.seen first.between second.between);
  of_kind = subst (λ l. AreOf kind l) (sym (own_of-append s.number first.between second.between))
      (are_of-append kind (own_of s.number first.between) (own_of s.number second.between) first.of_kind
      (subst (λ n. AreOf kind (own_of n second.between)) first.number second.of_kind));
}

pub works_more : (kind : Event → Bool) (s t u : Token) (events : List Event) → Works kind s t → AreEvents kind events → EntersEach t events u → Works kind s u
works_more kind s t u events first are second = works_then kind s t u first (works_each kind t u events are second)

-- all that a new worker did is of its kind
pub works_own : (kind : Event → Bool) (s t : Token) → own s ≡ [] → Works kind s t → AreOf kind (own t)
works_own kind s t none works =
    subst (λ l. AreOf kind l) (sym (ap (λ n. own_of n t.seen) works.number
    ∙ (ap (λ l. own_of s.number l) works.seen
    ∙ (own_of-append s.number s.seen works.between ∙ ap (λ l. l ++ own_of s.number works.between) none)))) works.of_kind

-- an actor's entries, once it has ended
pub own_for_good : (n : ℕ) (seen entries : List Entry) → IsEnded (After seen) n → own_of n seen ≡ entries → StaysOwn n seen entries
own_for_good n seen entries ended is more run =
    own_of-append n seen more
    ∙ (ap (λ l. own_of n seen ++ l) (ended_nothing (After seen) n more ended (runs_rest empty_board seen more run))
    ∙ (append-nil (own_of n seen) ∙ is))

-- a worker that is home stays so
home_later : (seen more : List Entry) (w : Worker) → Run (seen ++ more) → IsHome seen w → IsHome (seen ++ more) w
home_later seen more w run home = record {
  ended = subst (λ b. IsEnded b w.number) (sym (after-append empty_board seen more)) (ended_stays (After seen) w.number more home.ended after);
  did = own_for_good w.number seen w.did home.ended home.did more run;
  of_kind = home.of_kind;
}
  where
    after : RunsFrom (After seen) more
    after = runs_rest empty_board seen more run

homes_later : (seen more : List Entry) (ws : List Worker) → Run (seen ++ more) → AreHome seen ws → AreHome (seen ++ more) ws
homes_later seen more [] run home = tt
homes_later seen more (w ∷ ws) run home = (home_later seen more w run home.0, homes_later seen more ws run home.1)

pub born-append : (g h : List Entry) → born (g ++ h) ≡ born g ++ born h
born-append [] h = refl
born-append (e ∷ g) h = ap (λ l. born_by e.event ++ l) (born-append g h) ∙ sym (append_assoc (born_by e.event) (born g) (born h))

-- the host begins
pub hosts_first : (kind : Event → Bool) (s : Token) → s.number ≡ 0 → Run s.seen → born (own s) ≡ [] → Hosts s.seen kind s [] []
hosts_first kind s number run nobody = record {
  number = number;
  run = run;
  since = [];
  seen = sym (append-nil s.seen);
  of_kind = tt;
  bore = ap (λ n. born (own_of n s.seen)) (sym number) ∙ nobody;
  are_home = tt;
}

-- The history grows: what the host adds is of its kind, and it splits these numbers off.
hosts_more : (front : List Entry) (kind : Event → Bool) (s t : Token) (away new : List ℕ) (home : List Worker) (more : List Entry)
    → Hosts front kind s away home → t.number ≡ s.number → t.seen ≡ s.seen ++ more → Run t.seen → AreOf kind (own_of s.number more) → born (own_of s.number more) ≡ new
    → Hosts front kind t (away ++ new) home
hosts_more front kind s t away new home more hosts number seen run of_kind bears = record {
  number = number ∙ hosts.number;
  run = run;
  since = hosts.since ++ more;
  seen = seen ∙ (ap (λ l. l ++ more) hosts.seen ∙ append_assoc front hosts.since more);
  of_kind = subst (λ l. AreOf kind l) (sym (own_of-append 0 hosts.since more))
      (are_of-append kind (own_of 0 hosts.since) (own_of 0 more) hosts.of_kind (subst (λ n. AreOf kind (own_of n more)) hosts.number of_kind));
  bore = ap (λ l. born (own_of 0 l)) seen
      ∙ (ap (λ l. born l) (own_of-append 0 s.seen more)
      ∙ (born-append (own_of 0 s.seen) (own_of 0 more)
      ∙ (ap (λ l. l ++ born (own_of 0 more)) hosts.bore
      ∙ ap (λ l. away ++ l) (ap (λ n. born (own_of n more)) (sym hosts.number) ∙ bears))));
  are_home = subst (λ l. AreHome l home) (sym seen) (homes_later s.seen more home (subst (λ l. Run l) seen run) hosts.are_home);
}

same_away : (front : List Entry) (kind : Event → Bool) (t : Token) (away : List ℕ) (home : List Worker) → Hosts front kind t (away ++ []) home → Hosts front kind t away home
same_away front kind t away home hosts = subst (λ l. Hosts front kind t l home) (append-nil away) hosts

-- the host sees more
pub hosts_grows : (front : List Entry) (kind : Event → Bool) (s t : Token) (away : List ℕ) (home : List Worker) → Hosts front kind s away home → GrowsTo s t → Run t.seen → Hosts front kind t away home
hosts_grows front kind s t away home hosts grows run =
    same_away front kind t away home (hosts_more front kind s t away [] home grows.between hosts grows.number grows.seen run
    (subst (λ l. AreOf kind l) (sym grows.grew.others) tt) (ap (λ l. born l) grows.grew.others))

-- an entry, with whom it splits off
hosts_entry : (front : List Entry) (kind : Event → Bool) (s t : Token) (away : List ℕ) (home : List Worker) (event : Event) → Hosts front kind s away home → kind event ≡ true → Enters s event t
    → Hosts front kind t (away ++ born_by event) home
hosts_entry front kind s t away home event hosts is e =
    hosts_more front kind s t away (born_by event) home (e.between ++ entry s.number event ∷ []) hosts e.number (e.seen ∙ append_assoc s.seen e.between (entry s.number event ∷ [])) e.run
    (subst (λ l. AreOf kind l) (sym (enters_own s t event e)) (is, tt))
    (ap (λ l. born l) (enters_own s t event e) ∙ append-nil (born_by event))

pub hosts_enters : (front : List Entry) (kind : Event → Bool) (s t : Token) (away : List ℕ) (home : List Worker) (event : Event) → Hosts front kind s away home → kind event ≡ true → BearsNobody event → Enters s event t
    → Hosts front kind t away home
hosts_enters front kind s t away home event hosts is nobody e =
    same_away front kind t away home (subst (λ l. Hosts front kind t (away ++ l) home) nobody (hosts_entry front kind s t away home event hosts is e))

pub hosts_splits : (front : List Entry) (kind : Event → Bool) (s t : Token) (away : List ℕ) (home : List Worker) (n : ℕ) → Hosts front kind s away home → kind (Split n) ≡ true → Enters s (Split n) t
    → Hosts front kind t (away ++ n ∷ []) home
hosts_splits front kind s t away home n hosts is e = hosts_entry front kind s t away home (Split n) hosts is e

pub born_none : (n : ℕ) (events : List Event) → BearNone events → born (entries_of n events) ≡ []
born_none n [] none = refl
born_none n (event ∷ events) none = ap (λ l. l ++ born (entries_of n events)) none.0 ∙ born_none n events none.1

pub hosts_each : (front : List Entry) (kind : Event → Bool) (s t : Token) (away : List ℕ) (home : List Worker) (events : List Event) → Hosts front kind s away home → AreEvents kind events → BearNone events → EntersEach s events t
    → Hosts front kind t away home
hosts_each front kind s t away home events hosts are none e =
    same_away front kind t away home (hosts_more front kind s t away [] home e.between hosts e.number e.seen (e.run hosts.run)
    (subst (λ l. AreOf kind l) (sym e.own) (are_of_entries kind s.number events are)) (ap (λ l. born l) e.own ∙ born_none s.number events none))

-- a worker comes home
pub hosts_joins : (front : List Entry) (kind : Event → Bool) (s t : Token) (away : List ℕ) (home : List Worker) (w : Worker) → Hosts front kind s away home → kind (Join w.number) ≡ true → Enters s (Join w.number) t
    → IsHome t.seen w → Hosts front kind t away (w ∷ home)
hosts_joins front kind s t away home w hosts is e back =
    let more = hosts_enters front kind s t away home (Join w.number) hosts is refl e in record {
      number = more.number;
      run = more.run;
      since = more.since;
      seen = more.seen;
      of_kind = more.of_kind;
      bore = more.bore;
      are_home = (back, more.are_home);
    }

-- the same, by what its split, its work and its join ensured
pub hosts_joins_worker : (front : List Entry) (kind acts : Event → Bool) (s t given worked : Token) (away : List ℕ) (home : List Worker) → Hosts front kind s away home → own given ≡ [] → Works acts given worked
    → kind (Join worked.number) ≡ true → Enters s (Join worked.number) t → own_of worked.number t.seen ≡ own worked → IsEnded (After t.seen) worked.number → Hosts front kind t away (worker_of acts given worked ∷ home)
hosts_joins_worker front kind acts s t given worked away home hosts new works is e did ended =
    hosts_joins front kind s t away home (worker_of acts given worked) hosts
    (subst (λ n. kind (Join n) ≡ true) works.number is)
    (subst (λ n. Enters s (Join n) t) works.number e)
    (record {
      ended = subst (λ n. IsEnded (After t.seen) n) works.number ended;
      did = subst (λ n. own_of n t.seen ≡ own worked) works.number did;
      of_kind = works_own acts given worked new works;
    })

-- who splits nobody off has no child
childless : (kind : Event → Bool) (es : List Entry) → IsChildless kind → AreOf kind es → born es ≡ []
childless kind [] no_child all = refl
childless kind (e ∷ es) no_child all = ap (λ l. l ++ born es) (none e.event all.0) ∙ childless kind es no_child all.1
  where
    none : (event : Event) → kind event ≡ true → born_by event ≡ []
    none (Split n) is = let no = no_child n in absurd (cc)
    none _ is = refl

-- a worker's number among those of all
find_home : (seen : List Entry) (ws : List Worker) (k : ℕ) (P : Type 0) → 1 ≤ times k (numbers ws) → AreHome seen ws → AreChildless ws
    → ((w : Worker) → IsHome seen w → IsChildless w.kind → k ≡ w.number → P) → P
find_home seen [] k P there home no_child found = absurd (omega (arith, there))
find_home seen (w ∷ ws) k P there home no_child found =
    go (cases_eq k w.number) (λ apart. find_home seen ws k P (omega (arith, there, same_other k w.number apart)) home.1 no_child.1 found)
  where
    go : (k ≡ w.number) ⊎ (k ≢ w.number) → (k ≢ w.number → P) → P
    go (inl e) others = found w home.0 no_child.0 e
    go (inr apart) others = others apart

-- none of these entries is of the kind
abbrev NoneOf : (Event → Bool) → List Entry → Type 0
NoneOf part [] = Unit {0}
NoneOf part (e ∷ es) = (part e.event ≡ false) × NoneOf part es

none_later : (part : Event → Bool) (g h : List Entry) → NoneOf part (g ++ h) → NoneOf part h
none_later part [] h none = none
none_later part (e ∷ g) h none = none_later part g h none.1

apart_none : (one part : Event → Bool) (es : List Entry) → AreApart one part → AreOf one es → NoneOf part es
apart_none one part [] apart all = tt
apart_none one part (e ∷ es) apart all = (apart e.event all.0, apart_none one part es apart all.1)

none_rest : (part : Event → Bool) (k : ℕ) (e : Entry) (es : List Entry) → NoneOf part (own_of k (e ∷ es)) → NoneOf part (own_of k es)
none_rest part k e es none =
    cond_both (e.by == k) (e ∷ own_of k es) (own_of k es) (λ l. NoneOf part l → NoneOf part (own_of k es)) (λ _ all. all.1) (λ _ all. all) none

none_here : (part : Event → Bool) (e : Entry) (es : List Entry) → NoneOf part (own_of e.by (e ∷ es)) → part e.event ≡ false
none_here part e es none =
    let first : own_of e.by (e ∷ es) ≡ e ∷ own_of e.by es = cond-true (e.by == e.by) (e ∷ own_of e.by es) (own_of e.by es) (eq-eqb e.by e.by refl) in
    (subst (λ l. NoneOf part l) first none).0

only_by : (part : Event → Bool) (ks all : List ℕ) (h : List Entry) → AllBy all h → ((k : ℕ) → 1 ≤ times k all → (1 ≤ times k ks) ⊎ NoneOf part (own_of k h)) → OnlyBy part ks h
only_by part ks all [] by others = tt
only_by part ks all (e ∷ h) by others = (
  λ is. ⊎_elim (λ mine. mine) (λ none. let no : part e.event ≡ false = none_here part e h none in absurd (cc)) (others e.by by.0),
  only_by part ks all h by.1 (λ k there. ⊎_elim (λ mine. inl mine) (λ none. inr (none_rest part k e h none)) (others k there)),
)

all_later : (ks : List ℕ) (g h : List Entry) → AllBy ks (g ++ h) → AllBy ks h
all_later ks [] h all = all
all_later ks (e ∷ g) h all = all_later ks g h all.1

find_apart : (seen : List Entry) (ws : List Worker) (part : Event → Bool) (ks : List ℕ) (k : ℕ) → 1 ≤ times k (numbers ws) → AreHome seen ws → OthersAreApart part ks ws
    → (1 ≤ times k ks) ⊎ NoneOf part (own_of k seen)
find_apart seen [] part ks k there home apart = absurd (omega (arith, there))
find_apart seen (w ∷ ws) part ks k there home apart =
    go (cases_eq k w.number) apart.0 (λ ne. find_apart seen ws part ks k (omega (arith, there, same_other k w.number ne)) home.1 apart.1)
  where
    go : (k ≡ w.number) ⊎ (k ≢ w.number) → (1 ≤ times w.number ks) ⊎ AreApart w.kind part → (k ≢ w.number → (1 ≤ times k ks) ⊎ NoneOf part (own_of k seen)) → (1 ≤ times k ks) ⊎ NoneOf part (own_of k seen)
    go (inl e) (inl mine) others = inl (subst (λ n. 1 ≤ times n ks) (sym e) mine)
    go (inl e) (inr other) others =
        inr (subst (λ n. NoneOf part (own_of n seen)) (sym e) (subst (λ l. NoneOf part l) (sym home.0.did) (apart_none w.kind part w.did other home.0.of_kind)))
    go (inr ne) _ others = others ne

-- the whole history, once all are home
pub hosted_all : (front : List Entry) (kind : Event → Bool) (s : Token) (away : List ℕ) (home : List Worker) → Hosts front kind s away home → IsActor (After s.seen) 0
    → AreChildless home → ((n : ℕ) → 1 ≤ times n away → 1 ≤ times n (numbers home)) → HostedAll front kind s.seen home
hosted_all front kind s away home hosts actor no_child back = record {
  entries = theirs.entries;
  alone = record { actor = actor; only = λ n is_one. alone n is_one (cases_eq n 0) };
  since = hosts.since;
  seen_since = hosts.seen;
  only = λ part ks of_host of_others. only_by part ks (0 ∷ numbers home) hosts.since
      (all_later (0 ∷ numbers home) front hosts.since (subst (λ l. AllBy (0 ∷ numbers home) l) hosts.seen theirs.entries))
      (λ k there. others part ks of_host of_others k there (cases_eq k 0));
}
  where
    bears : (k n : ℕ) → 1 ≤ times k (0 ∷ numbers home) → 1 ≤ times n (born (own_of k s.seen)) → (k ≡ 0) ⊎ (k ≢ 0) → 1 ≤ times n (0 ∷ numbers home)
    bears k n there child (inl e) =
        let split_off : 1 ≤ times n away = subst (λ l. 1 ≤ times n l) hosts.bore (subst (λ m. 1 ≤ times n (born (own_of m s.seen))) e child) in
        omega (arith, back n split_off)
    bears k n there child (inr apart) =
        find_home s.seen home k (1 ≤ times n (0 ∷ numbers home)) (omega (arith, there, same_other k 0 apart)) hosts.are_home no_child
        (λ w is_home no e.
        let none : born (own_of k s.seen) ≡ [] = ap (λ m. born (own_of m s.seen)) e ∙ (ap (λ l. born l) is_home.did ∙ childless w.kind w.did no is_home.of_kind) in
        absurd (omega (arith, child, ap (λ l. times n l) none)))

    theirs : OnlyTheseAct (0 ∷ numbers home) s.seen
    theirs = all_by (0 ∷ numbers home) s.seen hosts.run (omega arith) (λ k n there child. bears k n there child (cases_eq k 0))

    alone : (n : ℕ) → IsActor (After s.seen) n → (n ≡ 0) ⊎ (n ≢ 0) → n ≡ 0
    alone n is_one (inl e) = e
    alone n is_one (inr apart) =
        find_home s.seen home n (n ≡ 0) (omega (arith, theirs.actors n is_one, same_other n 0 apart)) hosts.are_home no_child
        (λ w is_home no e. absurd (is_one (ap (λ m. hand_at (After s.seen) m) e ∙ is_home.ended.ended)))

    others : (part : Event → Bool) (ks : List ℕ) → (1 ≤ times 0 ks) ⊎ AreApart kind part → OthersAreApart part ks home → (k : ℕ) → 1 ≤ times k (0 ∷ numbers home) → (k ≡ 0) ⊎ (k ≢ 0)
        → (1 ≤ times k ks) ⊎ NoneOf part (own_of k hosts.since)
    others part ks (inl mine) of_others k there (inl e) = inl (subst (λ n. 1 ≤ times n ks) (sym e) mine)
    others part ks (inr apart) of_others k there (inl e) =
        inr (subst (λ n. NoneOf part (own_of n hosts.since)) (sym e) (apart_none kind part (own_of 0 hosts.since) apart hosts.of_kind))
    others part ks of_host of_others k there (inr apart) =
        ⊎_elim (λ mine. inl mine)
        (λ none. inr (none_later part (own_of k front) (own_of k hosts.since) (subst (λ l. NoneOf part l) (ap (λ l. own_of k l) hosts.seen ∙ own_of-append k front hosts.since) none)))
        (find_apart s.seen home part ks k (omega (arith, there, same_other k 0 apart)) hosts.are_home of_others)
