-- Blocks that retired are filled and told, one by one.
use Rattle.std.proofs.Common.{◌≡◌, ℕ, ◌+◌, Bool, true, false, not, List, [], ◌∷◌, ◌++◌, length, map, take, Option, Some, None, is_some, Result, Ok, Err, OnOk, refl, sym, ap, subst, ◌∙◌, append-nil}
use Rattle.gentl_types.specs.declared.buffer_id.BufferId.{BufferId}
use Rattle.board_machine.specs.declared.events.Entry.{Entry}
use Rattle.board_machine.specs.declared.events.Event.{Event}
use Rattle.board_machine.specs.Machine.{Board, Item, IsActor}
use Rattle.board_machine.specs.Ids.{buffer_at}
use Rattle.board_machine.specs.Adding.{entries_of, Adds}
use Rattle.board_machine.specs.Histories.{After, after_from}
use Rattle.board_machine.proofs.Adding.{adds_none, adds_both, entries_of-append}
use Rattle.board_machine.proofs.Runs.{after-append}
use Rattle.board_calls.specs.Rounds.{filled_or_laid}
use Rattle.board_model.specs.Plain.{PlainState}
use Rattle.board_model.specs.declared.gone.Gone.{Gone}
use Rattle.board_model.specs.Gone.{gone_of}
use Rattle.acquisition_machine.specs.declared.config.AcqConfig.{AcqConfig}
use Rattle.acquisition_machine.specs.declared.retired.Retired.{Retired}
use Rattle.acquisition_machine.specs.Blocks.{Given, Open, Cause, Retirement, fill_of, filling_in, fills}
use Rattle.acquisition_machine.specs.Machine.{shown}
use Rattle.acquisition_machine.specs.TurnLaws.{given_of}
use Rattle.acq_core.specs.declared.ended.Ended.{Ended}
use Rattle.acq_core.specs.declared.ended.Held.{Held}
use Rattle.acq_core.specs.declared.window.Window.{Window}
use Rattle.acquisition_machine.specs.Blocks.{cause_of}
use Rattle.acq_core.specs.Ending.{held_of, end_of, ends_of}
use Rattle.acq_core.specs.Receiver.{is_telling, buffers, KeepsBlocks}
use Rattle.acq_core.specs.Waiting.{waiting_fills, waiting_requests, waiting_resends, waiting_ends}
use Rattle.board_calls.specs.declared.mode.Mode.{Mode}
use Rattle.script_trace.specs.Notes.{Note}
use Rattle.script_trace.specs.Inputs.{drop_notes, gap, ended_notes, after_end, after_ends, retired_notes}
use Rattle.note_tape.specs.declared.told.Told.{Told}
use Rattle.note_tape.specs.Tells.{Tells, own_note_of, own_note, buffer_of, IsFilledOn}
use Rattle.script_trace.specs.Trace.{acquirer}
use Rattle.script_trace.specs.Modes.{FillsInMode}
use Rattle.script_replay.specs.declared.fill_counts.FillCounts.{FillCounts}
use Rattle.script_replay.specs.Boards.{IsLeftBy}
use Rattle.script_replay.specs.Acquiring.{IsAway, AreAway, FillsAll}
use Rattle.script_replay.specs.Telling.{TellsOne}
use Rattle.script_replay.proofs.Retiring.{FillsOn, fills_on, first_away, away_done, keeps_twice, keeps_itself}
use Rattle.explain_lines.specs.Marks.{KeepsMarks}
use Rattle.explain_lines.specs.Dropping.{DropsAs}
use Rattle.explain_lines.specs.Retiring.{Gives, GivesSome, TellsFill, TellsAll}
use Rattle.explain_lines.proofs.Marks.{same_marks, marks_then, one_marks, one_open}
use Rattle.explain_lines.proofs.Dropped.{drops_none, drops_both, fill_drops}
use Rattle.explain_lines.proofs.Filling.{fill_events, FillsWith, fills_before}
use Rattle.explain_lines.proofs.Tapes.{tells_none, tells_both, tells_as}

-- ---- one buffer

pub tells_fill : (mode : Mode) (end : Ended) (x : Retired) (s new : PlainState) (a b : FillCounts) (tape mid after : List Told) (filled : Bool) (seen : List Gone) (id : BufferId)
    → ((before : Board) → KeepsMarks before s.board → id ≡ buffer_at before x.place)
    → TellsOne mode x s a new b filled seen
    → ((before : Board) → KeepsMarks before new.board → (xs : List Item) → seen ≡ map gone_of xs → Tells tape mid (drop_notes before xs))
    → ((c : AcqConfig) (b : Board) (low : ℕ) (cause : Cause) (o : Open) → end ≡ end_of c.p low (cause_of cause) o → Some id ≡ buffer_of b o.given → IsFilledOn b o.given filled → Tells mid after (own_note c b o cause ∷ []))
    → TellsFill mode end x s a tape new b after
tells_fill mode end x s new a b tape mid after filled seen id id_is told gone done = record {
  one = told.one;
  told = λ c floor cause o g is given place before marks.
      tells_both tape mid after (drop_notes before (take (length told.one.dropped) s.board.out)) (own_note c before o cause ∷ [])
      (gone before (marks_then before s.board new.board marks (one_marks mode x s new a b told.one)) (take (length told.one.dropped) s.board.out) told.gone)
      (done c before floor cause o is
      (ap (λ (i : BufferId). Some i) (id_is before marks ∙ ap (buffer_at before) place) ∙ ap (buffer_of before) (sym given))
      (subst (λ (h : Option Given). IsFilledOn before h filled) (sym given) (told.filled ∙ one_open mode x s new a b told.one ∙ ap not (marks.closed))));
}

-- ---- what waits

same_end : (x y : Ended) (xs ys : List Ended) → x ∷ xs ≡ y ∷ ys → x ≡ y
same_end x y xs ys e = cc

same_ends : (x y : Ended) (xs ys : List Ended) → x ∷ xs ≡ y ∷ ys → xs ≡ ys
same_ends x y xs ys e = cc

some_ends : (x : Ended) (xs : List Ended) → x ∷ xs ≡ [] → ⊥
some_ends x xs e = cc

same_fill : (x y : Retired) (xs ys : List Retired) → x ∷ xs ≡ y ∷ ys → x ≡ y
same_fill x y xs ys e = cc

same_fills : (x y : Retired) (xs ys : List Retired) → x ∷ xs ≡ y ∷ ys → xs ≡ ys
same_fills x y xs ys e = cc

some_fills : (x : Retired) (xs : List Retired) → x ∷ xs ≡ [] → ⊥
some_fills x xs e = cc

some_held : (h : Held) → Some h ≡ None → ⊥
some_held h e = cc

none_given : (p b : ℕ) (o : Open) (given : Option Given) → held_of p b given o.heard ≡ None → given ≡ None
none_given p b o None e = refl
none_given p b o (Some g) e = absurd (some_held _ e)

some_given : (p b : ℕ) (o : Open) (given : Option Given) → is_some (held_of p b given o.heard) ≡ true → (g : Given) × (given ≡ Some g)
some_given p b o None e = absurd cc
some_given p b o (Some g) e = (g, refl)

none_of : (h : Option Held) → is_some h ≡ false → h ≡ None
none_of None e = refl
none_of (Some h) e = absurd cc

-- the first block that is told: what is known of it, and what waits behind it
pub record FirstOf (c : AcqConfig) (floor : ℕ) (end : Ended) (r : Retirement) (rs : List Retirement) (m : Window) (left : List Ended) : Type 0 where
  pub is : end ≡ end_of c.p floor (cause_of r.cause) r.was
  pub ends : left ≡ ends_of true c.p (r.was.block + 1) rs
  pub fills_are : waiting_fills m ≡ fill_of c.p r r.was.given ++ fills c.p rs

first_of : (c : AcqConfig) (floor : ℕ) (end : Ended) (r : Retirement) (rs : List Retirement) (m : Window) (left : List Ended) → waiting_ends m ≡ end ∷ left → Gives c floor (r ∷ rs) m → FirstOf c floor end r rs m left
first_of c floor end r rs m left ends gives = record {
  is = same_end end (end_of c.p floor (cause_of r.cause) r.was) left (ends_of true c.p (r.was.block + 1) rs) (sym ends ∙ gives.ends);
  ends = same_ends end (end_of c.p floor (cause_of r.cause) r.was) left (ends_of true c.p (r.was.block + 1) rs) (sym ends ∙ gives.ends);
  fills_are = gives.fills;
}

-- nothing retired where nothing is told
no_block : (c : AcqConfig) (floor : ℕ) (rs : List Retirement) (m : Window) → waiting_ends m ≡ [] → Gives c floor rs m → rs ≡ []
no_block c floor [] m none gives = refl
no_block c floor (r ∷ rs) m none gives = absurd (some_ends _ _ (sym gives.ends ∙ none))

no_first : {X : Type 0} (c : AcqConfig) (floor : ℕ) (end : Ended) (m : Window) (left : List Ended) → waiting_ends m ≡ end ∷ left → Gives c floor [] m → X
no_first c floor end m left ends gives = absurd (some_ends end left (sym ends ∙ gives.ends))

-- ---- without a buffer

-- what waits behind a block without a buffer
behind_none : (c : AcqConfig) (floor : ℕ) (end : Ended) (r : Retirement) (rs : List Retirement) (m n : Window) → end.held ≡ None → FirstOf c floor end r rs m (waiting_ends n) → waiting_fills n ≡ waiting_fills m → (r.was.given ≡ None) × Gives c (r.was.block + 1) rs n
behind_none c floor end r rs m n held first same =
    let none : r.was.given ≡ None = none_given c.p r.was.block r.was r.was.given (sym (ap (λ (e : Ended). e.held) first.is) ∙ held) in (
      none,
      record {
        ends = first.ends;
        fills = same ∙ first.fills_are ∙ ap (λ (g : Option Given). fill_of c.p r g ++ fills c.p rs) none;
      },
    )

-- and behind one with a buffer
behind_some : (c : AcqConfig) (floor : ℕ) (end : Ended) (x : Retired) (r : Retirement) (rs : List Retirement) (m n : Window) → is_some end.held ≡ true → FirstOf c floor end r rs m (waiting_ends n) → waiting_fills m ≡ x ∷ waiting_fills n
    → (g : Given) × (r.was.given ≡ Some g) × (x.place ≡ g.place) × Gives c (r.was.block + 1) rs n
behind_some c floor end x r rs m n held first waits =
    let some : (g : Given) × (r.was.given ≡ Some g) = some_given c.p r.was.block r.was r.was.given (sym (ap (λ (e : Ended). is_some e.held) first.is) ∙ held) in
    let is : x ∷ waiting_fills n ≡ (record { place = some.0.place; buf = filling_in c.p r some.0 }) ∷ fills c.p rs
    = sym waits ∙ first.fills_are ∙ ap (λ (g : Option Given). fill_of c.p r g ++ fills c.p rs) some.1 in (
      some.0,
      some.1,
      ap (λ (y : Retired). y.place) (same_fill x _ (waiting_fills n) (fills c.p rs) is),
      record { ends = first.ends; fills = same_fills x _ (waiting_fills n) (fills c.p rs) is },
    )

-- ---- all of them

pub tells_all_none : (mode : Mode) (m : Window) (s : PlainState) (a : FillCounts) (tape : List Told) → waiting_ends m ≡ [] → waiting_fills m ≡ [] → TellsAll mode m s a tape s a tape
tells_all_none mode m s a tape none_end none_fill = record {
  all = record {
    events = [];
    filled = subst (λ (xs : List Retired). FillsInMode mode xs []) (sym none_fill) refl;
    adds = adds_none s.board acquirer;
    actors = λ n actor. actor;
    sizes = λ i. refl;
    left = λ h left. subst (λ g. IsLeftBy s g) (sym (append-nil h)) left;
    counted = refl;
  };
  gone = [];
  dropped = λ h is. drops_none h;
  marks = same_marks s.board;
  used = λ c floor rs gives rest. ap (after_ends rest) (no_block c floor rs m none_end gives);
  told = λ c floor rs gives before marks rest.
      tells_as tape tape [] (retired_notes c before rest floor rs) (ap (retired_notes c before rest floor) (sym (no_block c floor rs m none_end gives))) (tells_none tape);
}

-- a gap and a note without a buffer
unbuffered_as : (c : AcqConfig) (b : Board) (ds : List (List Item)) (o : Open) (cause : Cause) (given : Option Given) → given ≡ None → own_note_of c b o cause given ∷ [] ≡ ended_notes c b ds o cause given
unbuffered_as c b ds o cause None e = refl
unbuffered_as c b ds o cause (Some g) e = absurd cc

none_after : (ds : List (List Item)) (given : Option Given) → given ≡ None → ds ≡ after_end ds given
none_after ds None e = refl
none_after ds (Some g) e = absurd cc

some_after : (d : List Item) (ds : List (List Item)) (given : Option Given) (g : Given) → given ≡ Some g → ds ≡ after_end (d ∷ ds) given
some_after d ds None g e = absurd cc
some_after d ds (Some h) g e = refl

done_as : (c : AcqConfig) (b : Board) (d : List Item) (ds : List (List Item)) (o : Open) (cause : Cause) (given : Option Given) (g : Given) → given ≡ Some g → drop_notes b d ++ own_note_of c b o cause given ∷ [] ≡ ended_notes c b (d ∷ ds) o cause given
done_as c b d ds o cause None g e = absurd cc
done_as c b d ds o cause (Some h) g e = refl

not_filled : (b : Board) (given : Option Given) → given ≡ None → IsFilledOn b given false
not_filled b None e = tt
not_filled b (Some g) e = absurd cc

-- one block's notes before those of the others
pub block_notes : (c : AcqConfig) (b : Board) (ds rest : List (List Item)) (floor : ℕ) (r : Retirement) (rs : List Retirement) (own : List Note) (tape one two end : List Told)
    → own ≡ ended_notes c b ds r.was r.cause r.was.given → rest ≡ after_end ds r.was.given
    → Tells tape one (gap floor r.was.block) → Tells one two own → Tells two end (retired_notes c b rest (r.was.block + 1) rs)
    → Tells tape end (retired_notes c b ds floor (r ∷ rs))
block_notes c b ds rest floor r rs own tape one two end is left gaps owns others =
    tells_both tape one end (gap floor r.was.block) (ended_notes c b ds r.was r.cause r.was.given ++ retired_notes c b (after_end ds r.was.given) (r.was.block + 1) rs) gaps
    (tells_both one two end (ended_notes c b ds r.was r.cause r.was.given) (retired_notes c b (after_end ds r.was.given) (r.was.block + 1) rs)
    (tells_as one two own (ended_notes c b ds r.was r.cause r.was.given) is owns)
    (tells_as two end (retired_notes c b rest (r.was.block + 1) rs) (retired_notes c b (after_end ds r.was.given) (r.was.block + 1) rs) (ap (λ es. retired_notes c b es (r.was.block + 1) rs) left) others))

gap_of : (c : AcqConfig) (floor : ℕ) (end : Ended) (r : Retirement) (rs : List Retirement) (m : Window) (left : List Ended) (tape one : List Told) → FirstOf c floor end r rs m left
    → ((low : ℕ) → end.floor ≡ shown low → Tells tape one (gap low end.block)) → Tells tape one (gap floor r.was.block)
gap_of c floor end r rs m left tape one first gaps =
    tells_as tape one (gap floor end.block) (gap floor r.was.block) (ap (λ (e : Ended). gap floor e.block) first.is) (gaps floor (ap (λ (e : Ended). e.floor) first.is))

-- a block without a buffer, then the others
pub tells_unbuffered : (mode : Mode) (m n : Window) (s new : PlainState) (a b : FillCounts) (tape one two after : List Told) (end : Ended)
    → waiting_ends m ≡ end ∷ waiting_ends n → waiting_fills n ≡ waiting_fills m → is_some end.held ≡ false
    → ((low : ℕ) → end.floor ≡ shown low → Tells tape one (gap low end.block))
    → ((c : AcqConfig) (b : Board) (low : ℕ) (cause : Cause) (o : Open) → end ≡ end_of c.p low (cause_of cause) o → None ≡ buffer_of b o.given → IsFilledOn b o.given false → Tells one two (own_note c b o cause ∷ []))
    → TellsAll mode n s a two new b after → TellsAll mode m s a tape new b after
tells_unbuffered mode m n s new a b tape one two after end ends same held gaps done all = record {
  all = record {
    events = all.all.events;
    filled = subst (λ (xs : List Retired). FillsInMode mode xs all.all.events) same all.all.filled;
    adds = all.all.adds;
    actors = all.all.actors;
    sizes = all.all.sizes;
    left = all.all.left;
    counted = all.all.counted;
  };
  gone = all.gone;
  dropped = all.dropped;
  marks = all.marks;
  used = used;
  told = told;
}
  where
    used : (c : AcqConfig) (floor : ℕ) (rs : List Retirement) → Gives c floor rs m → (rest : List (List Item)) → after_ends (all.gone ++ rest) rs ≡ rest
    used c floor [] gives rest = no_first c floor end m (waiting_ends n) ends gives
    used c floor (r ∷ rs) gives rest =
        let behind = behind_none c floor end r rs m n (none_of end.held held) (first_of c floor end r rs m (waiting_ends n) ends gives) same in
        ap (λ ds. after_ends ds rs) (sym (none_after (all.gone ++ rest) r.was.given behind.0)) ∙ all.used c (r.was.block + 1) rs behind.1 rest

    told : (c : AcqConfig) (floor : ℕ) (rs : List Retirement) → Gives c floor rs m → (before : Board) → KeepsMarks before s.board → (rest : List (List Item)) → Tells tape after (retired_notes c before (all.gone ++ rest) floor rs)
    told c floor [] gives before marks rest = no_first c floor end m (waiting_ends n) ends gives
    told c floor (r ∷ rs) gives before marks rest =
        let first : FirstOf c floor end r rs m (waiting_ends n) = first_of c floor end r rs m (waiting_ends n) ends gives in
        let behind = behind_none c floor end r rs m n (none_of end.held held) first same in
        block_notes c before (all.gone ++ rest) (all.gone ++ rest) floor r rs (own_note c before r.was r.cause ∷ []) tape one two after
        (unbuffered_as c before (all.gone ++ rest) r.was r.cause r.was.given behind.0) (none_after (all.gone ++ rest) r.was.given behind.0)
        (gap_of c floor end r rs m (waiting_ends n) tape one first gaps)
        (done c before floor r.cause r.was first.is (ap (buffer_of before) (sym behind.0)) (not_filled before r.was.given behind.0))
        (all.told c (r.was.block + 1) rs behind.1 before marks rest)

-- a block with a buffer, then the others
pub tells_filled : (mode : Mode) (m n : Window) (s mid new : PlainState) (a b d : FillCounts) (tape one two after : List Told) (end : Ended) (x : Retired)
    → waiting_ends m ≡ end ∷ waiting_ends n → waiting_fills m ≡ x ∷ waiting_fills n → is_some end.held ≡ true → IsAway s (given_of x)
    → ((low : ℕ) → end.floor ≡ shown low → Tells tape one (gap low end.block))
    → TellsFill mode end x s a one mid b two
    → TellsAll mode n mid b two new d after → TellsAll mode m s a tape new d after
tells_filled mode m n s mid new a b d tape one two after end x ends waits held away gaps fill all = record {
  all = record {
    events = first_events ++ all.all.events;
    filled = subst (λ (xs : List Retired). FillsInMode mode xs (first_events ++ all.all.events)) (sym waits) with_first.filled;
    adds = with_first.adds;
    actors = with_first.actors;
    sizes = with_first.sizes;
    left = with_first.left;
    counted = with_first.counted;
  };
  gone = took ∷ all.gone;
  dropped = dropped;
  marks = marks_then s.board mid.board new.board (one_marks mode x s mid a b fill.one) all.marks;
  used = used;
  told = told;
}
  where
    took : List Item
    took = take (length fill.one.dropped) s.board.out

    first_events : List Event
    first_events = fill_events mode x s mid a b fill.one

    with_first : FillsWith mode (x ∷ waiting_fills n) s a new d (first_events ++ all.all.events)
    with_first = fills_before mode x (waiting_fills n) s mid new a b d away fill.one all.all

    both : Adds s.board acquirer first_events mid.board
    both = adds_both s.board fill.one.mid mid.board acquirer fill.one.front (filled_or_laid x.place x.buf fill.one.one.filled) fill.one.adds fill.one.one.adds

    dropped : (h : List Entry) → s.board ≡ After h → DropsAs h (entries_of acquirer (first_events ++ all.all.events)) (took ∷ all.gone)
    dropped h is =
        subst (λ es. DropsAs h es (took ∷ all.gone)) (sym (entries_of-append acquirer first_events all.all.events))
        (drops_both h (entries_of acquirer first_events) (entries_of acquirer all.all.events) (took ∷ []) all.gone
        (fill_drops mode s.board fill.one.mid h fill.one.dropped fill.one.front x.place x.buf fill.one.one.filled is fill.one.drops fill.one.adds)
        (all.dropped (h ++ entries_of acquirer first_events) (both.after ∙ ap (λ (c : Board). after_from c (entries_of acquirer first_events)) is ∙ sym (after-append _ h (entries_of acquirer first_events)))))

    used : (c : AcqConfig) (floor : ℕ) (rs : List Retirement) → Gives c floor rs m → (rest : List (List Item)) → after_ends ((took ∷ all.gone) ++ rest) rs ≡ rest
    used c floor [] gives rest = no_first c floor end m (waiting_ends n) ends gives
    used c floor (r ∷ rs) gives rest =
        let behind = behind_some c floor end x r rs m n held (first_of c floor end r rs m (waiting_ends n) ends gives) waits in
        ap (λ ds. after_ends ds rs) (sym (some_after took (all.gone ++ rest) r.was.given behind.0 behind.1)) ∙ all.used c (r.was.block + 1) rs behind.3 rest

    told : (c : AcqConfig) (floor : ℕ) (rs : List Retirement) → Gives c floor rs m → (before : Board) → KeepsMarks before s.board → (rest : List (List Item)) → Tells tape after (retired_notes c before ((took ∷ all.gone) ++ rest) floor rs)
    told c floor [] gives before marks rest = no_first c floor end m (waiting_ends n) ends gives
    told c floor (r ∷ rs) gives before marks rest =
        let first : FirstOf c floor end r rs m (waiting_ends n) = first_of c floor end r rs m (waiting_ends n) ends gives in
        let behind = behind_some c floor end x r rs m n held first waits in
        block_notes c before (took ∷ (all.gone ++ rest)) (all.gone ++ rest) floor r rs (drop_notes before took ++ own_note c before r.was r.cause ∷ []) tape one two after
        (done_as c before took (all.gone ++ rest) r.was r.cause r.was.given behind.0 behind.1) (some_after took (all.gone ++ rest) r.was.given behind.0 behind.1)
        (gap_of c floor end r rs m (waiting_ends n) tape one first gaps)
        (fill.told c floor r.cause r.was behind.0 first.is behind.1 behind.2 before marks)
        (all.told c (r.was.block + 1) rs behind.3 before (marks_then before s.board mid.board marks (one_marks mode x s mid a b fill.one)) rest)

-- ---- the loop

-- the same fills of a list that is the same
refilled : (mode : Mode) (xs ys : List Retired) (s new : PlainState) (a b : FillCounts) → xs ≡ ys → FillsAll mode xs s a new b → FillsAll mode ys s a new b
refilled mode xs ys s new a b is all = subst (λ (zs : List Retired). FillsAll mode zs s a new b) is all

still_waits : (mode : Mode) (s now : PlainState) (a b : FillCounts) (m n after : Window) → FillsOn mode s a now b m n → waiting_fills after ≡ waiting_fills n → waiting_requests after ≡ waiting_requests n → KeepsBlocks n after → FillsOn mode s a now b m after
still_waits mode s now a b m n after on same requests rest = record {
  goes_on = λ new d all. on.goes_on new d (refilled mode (waiting_fills after) (waiting_fills n) now new b d same all);
  away = subst (λ (gs : List Given). AreAway now gs) (sym (ap (λ xs. map given_of xs ++ buffers after) same ∙ ap (λ gs. map given_of (waiting_fills n) ++ gs) rest.buffers)) on.away;
  actor = on.actor;
  requests = requests ∙ on.requests;
  rest = keeps_twice m n after on.rest rest;
}

-- What is still to be filled and told, then what was.
pub record TellsOn (mode : Mode) (s : PlainState) (a : FillCounts) (start : List Told) (now : PlainState) (b : FillCounts) (tape : List Told) (m n : Window) : Type 0 where
  pub on : FillsOn mode s a now b m n
  pub goes_on : (new : PlainState) (d : FillCounts) (after : List Told) → TellsAll mode n now b tape new d after → TellsAll mode m s a start new d after
  pub gives : GivesSome n
  pub resends : waiting_resends n ≡ waiting_resends m
  pub telling : is_telling n ≡ is_telling m

pub tells_begin : (mode : Mode) (s : PlainState) (a : FillCounts) (tape : List Told) (m : Window) → IsActor s.board acquirer → GivesSome m → AreAway s (map given_of (waiting_fills m) ++ buffers m) → TellsOn mode s a tape s a tape m m
tells_begin mode s a tape m actor gives away = record {
  on = record { goes_on = λ new c all. all; away = away; actor = actor; requests = refl; rest = keeps_itself m };
  goes_on = λ new d after all. all;
  gives = gives;
  resends = refl;
  telling = refl;
}

gives_behind_none : (end : Ended) (m n : Window) → waiting_ends m ≡ end ∷ waiting_ends n → waiting_fills n ≡ waiting_fills m → is_some end.held ≡ false → GivesSome m → GivesSome n
gives_behind_none end m n ends same held some = go some.retired some.gives
  where
    go : (rs : List Retirement) → Gives some.config some.floor rs m → GivesSome n
    go [] gives = no_first some.config some.floor end m (waiting_ends n) ends gives
    go (r ∷ rs) gives =
        let behind = behind_none some.config some.floor end r rs m n (none_of end.held held) (first_of some.config some.floor end r rs m (waiting_ends n) ends gives) same in
        record { config = some.config; floor = r.was.block + 1; retired = rs; gives = behind.1 }

gives_behind_some : (end : Ended) (x : Retired) (m n : Window) → waiting_ends m ≡ end ∷ waiting_ends n → waiting_fills m ≡ x ∷ waiting_fills n → is_some end.held ≡ true → GivesSome m → GivesSome n
gives_behind_some end x m n ends waits held some = go some.retired some.gives
  where
    go : (rs : List Retirement) → Gives some.config some.floor rs m → GivesSome n
    go [] gives = no_first some.config some.floor end m (waiting_ends n) ends gives
    go (r ∷ rs) gives =
        let behind = behind_some some.config some.floor end x r rs m n held (first_of some.config some.floor end r rs m (waiting_ends n) ends gives) waits in
        record { config = some.config; floor = r.was.block + 1; retired = rs; gives = behind.3 }

pub tells_on_unbuffered : (mode : Mode) (s now : PlainState) (a b : FillCounts) (start tape one two : List Told) (m n after : Window) (end : Ended) → TellsOn mode s a start now b tape m n
    → waiting_ends n ≡ end ∷ waiting_ends after → waiting_fills after ≡ waiting_fills n → waiting_requests after ≡ waiting_requests n → waiting_resends after ≡ waiting_resends n → is_telling after ≡ is_telling n → KeepsBlocks n after → is_some end.held ≡ false
    → ((low : ℕ) → end.floor ≡ shown low → Tells tape one (gap low end.block))
    → ((c : AcqConfig) (b : Board) (low : ℕ) (cause : Cause) (o : Open) → end ≡ end_of c.p low (cause_of cause) o → None ≡ buffer_of b o.given → IsFilledOn b o.given false → Tells one two (own_note c b o cause ∷ []))
    → TellsOn mode s a start now b two m after
tells_on_unbuffered mode s now a b start tape one two m n after end on ends same requests resends telling rest held gaps done = record {
  on = still_waits mode s now a b m n after on.on same requests rest;
  goes_on = λ new d last all. on.goes_on new d last (tells_unbuffered mode n after now new b d tape one two last end ends same held gaps done all);
  gives = gives_behind_none end n after ends same held on.gives;
  resends = resends ∙ on.resends;
  telling = telling ∙ on.telling;
}

pub tells_on_filled : (mode : Mode) (s now next : PlainState) (a b c : FillCounts) (start tape one two : List Told) (m n mid after : Window) (end : Ended) (x : Retired) → TellsOn mode s a start now b tape m n
    → waiting_ends n ≡ end ∷ waiting_ends mid → waiting_fills mid ≡ waiting_fills n → waiting_requests mid ≡ waiting_requests n → waiting_resends mid ≡ waiting_resends n → is_telling mid ≡ is_telling n → KeepsBlocks n mid → is_some end.held ≡ true
    → waiting_fills mid ≡ x ∷ waiting_fills after → waiting_requests after ≡ waiting_requests mid → waiting_resends after ≡ waiting_resends mid → waiting_ends after ≡ waiting_ends mid → is_telling after ≡ is_telling mid → KeepsBlocks mid after
    → ((low : ℕ) → end.floor ≡ shown low → Tells tape one (gap low end.block))
    → TellsFill mode end x now b one next c two
    → TellsOn mode s a start next c two m after
tells_on_filled mode s now next a b c start tape one two m n mid after end x on ends same requests resends telling rest held waits requests_too resends_too ends_too telling_too rest_too gaps fill =
    let ends_now : waiting_ends n ≡ end ∷ waiting_ends after = ends ∙ ap (λ es. end ∷ es) (sym ends_too) in
    let waits_now : waiting_fills n ≡ x ∷ waiting_fills after = sym same ∙ waits in
    let next_on : FillsOn mode s a next c m after = fills_on mode s now next a b c m n after x on.on waits_now (requests_too ∙ requests) (keeps_twice n mid after rest rest_too) fill.one in
    record {
      on = next_on;
      goes_on = λ new d last all. on.goes_on new d last
          (tells_filled mode n after now next new b c d tape one two last end x ends_now waits_now held (filled_away mode s now a b m n after x on.on waits_now) gaps fill all);
      gives = gives_behind_some end x n after ends_now waits_now held on.gives;
      resends = resends_too ∙ resends ∙ on.resends;
      telling = telling_too ∙ telling ∙ on.telling;
    }
  where
    filled_away : (mode : Mode) (s now : PlainState) (a b : FillCounts) (m n after : Window) (x : Retired) → FillsOn mode s a now b m n → waiting_fills n ≡ x ∷ waiting_fills after → IsAway now (given_of x)
    filled_away mode s now a b m n after x fills_so is = first_away s now m n x (waiting_fills after) fills_so is

-- a block with a buffer that waits for none
pub no_fill_left : {X : Type 0} (end : Ended) (n mid : Window) → GivesSome n → waiting_ends n ≡ end ∷ waiting_ends mid → waiting_fills mid ≡ waiting_fills n → is_some end.held ≡ true → waiting_fills mid ≡ [] → X
no_fill_left end n mid some ends same held none = go some.retired some.gives
  where
    go : {X : Type 0} (rs : List Retirement) → Gives some.config some.floor rs n → X
    go [] gives = no_first some.config some.floor end n (waiting_ends mid) ends gives
    go (r ∷ rs) gives =
        let first : FirstOf some.config some.floor end r rs n (waiting_ends mid) = first_of some.config some.floor end r rs n (waiting_ends mid) ends gives in
        let given : (g : Given) × (r.was.given ≡ Some g) = some_given some.config.p r.was.block r.was r.was.given (sym (ap (λ (e : Ended). is_some e.held) first.is) ∙ held) in
        absurd (some_fills (record { place = given.0.place; buf = filling_in some.config.p r given.0 }) (fills some.config.p rs)
        (sym (first.fills_are ∙ ap (λ (g : Option Given). fill_of some.config.p r g ++ fills some.config.p rs) given.1) ∙ sym same ∙ none))

none_left : (m : Window) → GivesSome m → waiting_ends m ≡ [] → waiting_fills m ≡ []
none_left m some none = some.gives.fills ∙ ap (fills some.config.p) (no_block some.config some.floor some.retired m none some.gives)

pub tells_done : (mode : Mode) (s now : PlainState) (a b : FillCounts) (start tape : List Told) (m n : Window) → TellsOn mode s a start now b tape m n → waiting_ends n ≡ [] → TellsAll mode m s a start now b tape
tells_done mode s now a b start tape m n on none = on.goes_on now b tape (tells_all_none mode n now b tape none (none_left n on.gives none))

pub fills_left : (mode : Mode) (s now : PlainState) (a b : FillCounts) (start tape : List Told) (m n : Window) → TellsOn mode s a start now b tape m n → waiting_ends n ≡ [] → waiting_fills n ≡ []
fills_left mode s now a b start tape m n on none = none_left n on.gives none

pub away_left : (mode : Mode) (s now : PlainState) (a b : FillCounts) (start tape : List Told) (m n after : Window) → TellsOn mode s a start now b tape m n → waiting_ends n ≡ [] → KeepsBlocks n after → AreAway now (buffers after)
away_left mode s now a b start tape m n after on none rest = away_done s now m n after (none_left n on.gives none) rest on.on

-- where the last call had memory
pub tells_fill_ok : {A E : Type 0} (r : Result A E) (mode : Mode) (end : Ended) (x : Retired) (s new : PlainState) (a b : FillCounts) (tape mid after : List Told) (filled : Bool) (seen : List Gone) (id : BufferId)
    → ((before : Board) → KeepsMarks before s.board → id ≡ buffer_at before x.place)
    → TellsOne mode x s a new b filled seen
    → ((before : Board) → KeepsMarks before new.board → (xs : List Item) → seen ≡ map gone_of xs → Tells tape mid (drop_notes before xs))
    → ((c : AcqConfig) (b : Board) (low : ℕ) (cause : Cause) (o : Open) → end ≡ end_of c.p low (cause_of cause) o → Some id ≡ buffer_of b o.given → IsFilledOn b o.given filled → OnOk r (Tells mid after (own_note c b o cause ∷ [])))
    → OnOk r (TellsFill mode end x s a tape new b after)
tells_fill_ok (Ok v) mode end x s new a b tape mid after filled seen id id_is told gone done = tells_fill mode end x s new a b tape mid after filled seen id id_is told gone done
tells_fill_ok (Err e) mode end x s new a b tape mid after filled seen id id_is told gone done = tt
