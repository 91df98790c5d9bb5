-- The notes of blocks whose buffers went into the output are the acquisition's fills.
use Rattle.std.proofs.Common.{◌≡◌, ◌⊎◌, inl, inr, ℕ, ◌+◌, ◌-◌, ◌==◌, Bool, true, false, cond, List, [], ◌∷◌, ◌++◌, length, map, refl, sym, ap, subst, ◌∙◌, append_assoc, append-nil, arith}
use Rattle.std.specs.Prelude.{not, nat_lt, ◌&&◌, count_by, Option, Some, None, Ok, Err, if◌then◌else◌}
use Rattle.std.specs.List.{AllByRecursion}
use Rattle.std.proofs.lemmas.List.Recursion.{is_count_by}
use Rattle.std.proofs.lemmas.List.{append_cancel_left, length-append, length-map, map-append}
use Rattle.stream_packets.specs.Packets.{StreamPacket, leader, payload, trailer, notice}
use Rattle.gvsp_wire.specs.Reading.{packet_of}
use Rattle.board_machine.specs.declared.events.Entry.{Entry}
use Rattle.board_machine.specs.declared.events.Event.{Event}
use Rattle.board_machine.specs.declared.events.Event.TheVariants.{Look, LookPool, LookOut, LookRun, Enrol, Grab, Lay, Vacate, Pool, Claim, SweepPool, Fill, Take, SweepOut, Close, Post, Unpost, Start, Stop, Split, Join}
use Rattle.board_machine.specs.declared.events.TakeEnd.TheVariants as taken
use Rattle.board_machine.specs.Machine.{Board, Item, item, Meets, after_event, next}
use Rattle.board_machine.specs.Histories.{RunsFrom, own_of}
use Rattle.board_machine.specs.Handout.{filled_by, filled}
use Rattle.board_machine.proofs.Runs.{own_of-append}
use Rattle.board_machine.proofs.Handed.{filled-append}
use Rattle.block_fills.specs.Fills.{tried_by, tried, item_of, retired_items}
use Rattle.block_fills.proofs.Tries.{tried-append, fills-append, items_from, items_from-append}
use Rattle.acquisition_machine.specs.declared.config.AcqConfig.{AcqConfig}
use Rattle.acquisition_machine.specs.declared.need.Need.{Need}
use Rattle.acquisition_machine.specs.declared.need.Need.TheVariants.{Buffer, Done, Ignored}
use Rattle.acquisition_machine.specs.Blocks.{Given, Open, Cause, Retirement, fill_of, fills, ranges_asked}
use Rattle.acquisition_machine.specs.Machine.{Input, datagram, claimed, tick, stop, restart, State, settled, unasked, step}
use Rattle.acquisition_machine.specs.Runs.{first_state, After, retired_from}
use Rattle.script_trace.specs.Notes.{Note, first, absent, done}
use Rattle.script_trace.specs.Inputs.{drop_notes, first_dropped, gap, ended_notes, after_end, retired_notes, kept_note, need_notes, open_notes, ask_notes, round_notes, turn_notes, after_turn, notes_from}
use Rattle.script_trace.specs.Counted.{times_so}
use Rattle.gev_script.specs.Lines.{ScriptLine}
use Rattle.script_trace.specs.Trace.{Trace, Part, grown, board, acquirer}
use Rattle.script_trace.specs.Adding.{AddsPart}
use Rattle.script_trace.specs.Ending.{filled_blocks}
use Rattle.script_trace.specs.Fills.{tried_blocks}
use Rattle.script_trace.proofs.BlockFills.{IsByOther, leads_agree}
use Rattle.script_trace.specs.NoteLaws.{is_filled, is_filled_whole, ToldFill, told_fill, told_fills_of, told_fills, fill_told}
use Rattle.script_trace.proofs.Shapes.{IsShaped, KeepsOpen, StaysOpen}

-- ---- what notes tell

pub told-append : (xs ys : List Note) → told_fills (xs ++ ys) ≡ told_fills xs ++ told_fills ys
told-append [] ys = refl
told-append (x ∷ xs) ys = ap (λ l. told_fills_of x ++ l) (told-append xs ys) ∙ sym (append_assoc (told_fills_of x) (told_fills xs) (told_fills ys))

-- how many are of whole images
abbrev trues : List ToldFill → ℕ
trues [] = 0
trues (f ∷ fs) = (if f.complete then 1 else 0) + trues fs

one_filled : (x : Note) → (if is_filled x then 1 else 0) ≡ length (told_fills_of x)
one_filled (done o) = by o.out (told_fill o) where
  by : (out : Bool) (f : ToldFill) → (if out then 1 else 0) ≡ length (if out then f ∷ [] else [])
  by true f = omega arith
  by false f = refl
one_filled _ = refl

pub filled_told : (xs : List Note) → times_so is_filled xs ≡ length (told_fills xs)
filled_told [] = refl
filled_told (x ∷ xs) = omega (arith, one_filled x, filled_told xs, length-append (told_fills_of x) (told_fills xs))

trues-append : (xs ys : List ToldFill) → trues (xs ++ ys) ≡ trues xs + trues ys
trues-append [] ys = omega arith
trues-append (x ∷ xs) ys = omega (arith, trues-append xs ys)

one_whole : (x : Note) → (if is_filled_whole x then 1 else 0) ≡ trues (told_fills_of x)
one_whole (done o) = by o.out (told_fill o) where
  by : (out : Bool) (f : ToldFill) → (if out && f.complete then 1 else 0) ≡ trues (if out then f ∷ [] else [])
  by true f = omega arith
  by false f = refl
one_whole _ = refl

whole_told : (xs : List Note) → times_so is_filled_whole xs ≡ trues (told_fills xs)
whole_told [] = refl
whole_told (x ∷ xs) = omega (arith, one_whole x, whole_told xs, trues-append (told_fills_of x) (told_fills xs))

-- ---- what entries and retired blocks are

-- what is to be told of these entries
abbrev pub fills_in : List Item → List ToldFill
fills_in xs = map fill_told xs

trues_in : (xs : List Item) → trues (fills_in xs) ≡ count_by (λ x. x.filling.rec.complete) xs
trues_in = is_count_by (λ l. trues (fills_in l)) (λ x. x.filling.rec.complete) refl (λ x l. by x.filling.rec.complete (trues (fills_in l))) where
  by : (whole : Bool) (n : ℕ) → (if whole then 1 else 0) + n ≡ cond whole (1 + n) n
  by true n = refl
  by false n = omega arith

pub whole_counted : (notes : List Note) (xs : List Item) → told_fills notes ≡ fills_in xs → times_so is_filled_whole notes ≡ count_by (λ x. x.filling.rec.complete) xs
whole_counted notes xs e = whole_told notes ∙ (ap trues e ∙ trues_in xs)

pub filled_counted : (notes : List Note) (xs : List Item) → told_fills notes ≡ fills_in xs → times_so is_filled notes ≡ length xs
filled_counted notes xs e = filled_told notes ∙ (ap length e ∙ length-map xs fill_told)

-- where the stream is closed nothing goes into the output
abbrev pub unless : {A : Type 0} → Bool → List A → List A
unless true xs = []
unless false xs = xs

unless-nil : {A : Type 0} (closed : Bool) → ◌≡◌ {A = List A} (unless closed []) []
unless-nil true = refl
unless-nil false = refl

unless-append : {A : Type 0} (closed : Bool) (xs ys : List A) → unless closed (xs ++ ys) ≡ unless closed xs ++ unless closed ys
unless-append true xs ys = refl
unless-append false xs ys = refl

unless-fills : (closed : Bool) (xs : List Item) → unless closed (fills_in xs) ≡ fills_in (unless closed xs)
unless-fills true xs = refl
unless-fills false xs = refl

-- what these blocks give the output
abbrev given : AcqConfig → Board → List Retirement → List ToldFill
given c b rs = unless b.closed (fills_in (map item_of (fills c.p rs)))

given-append : (c : AcqConfig) (b : Board) (rs qs : List Retirement) → given c b (rs ++ qs) ≡ given c b rs ++ given c b qs
given-append c b rs qs =
    ap (λ l. unless b.closed (fills_in (map item_of l))) (fills-append c.p rs qs)
    ∙ (ap (λ l. unless b.closed (fills_in l)) (map-append item_of (fills c.p rs) (fills c.p qs))
    ∙ (ap (unless b.closed) (map-append fill_told (map item_of (fills c.p rs)) (map item_of (fills c.p qs)))
    ∙ unless-append b.closed (fills_in (map item_of (fills c.p rs))) (fills_in (map item_of (fills c.p qs)))))

-- ---- the notes of inputs

abbrev Silent : List Note → Type 0
Silent xs = told_fills xs ≡ []

both : (xs ys : List Note) (fs bs : List ToldFill) → told_fills xs ≡ fs → told_fills ys ≡ bs → told_fills (xs ++ ys) ≡ fs ++ bs
both xs ys fs bs e f = told-append xs ys ∙ (ap (λ l. l ++ told_fills ys) e ∙ ap (λ l. fs ++ l) f)

of_drops : (b : Board) (xs : List Item) → Silent (drop_notes b xs)
of_drops b [] = refl
of_drops b (x ∷ xs) = of_drops b xs

of_gap : (floor b : ℕ) → Silent (gap floor b)
of_gap floor b = go (nat_lt floor b) (floor == 1) where
  go : (v w : Bool) → Silent (if v then (if w then first b ∷ [] else absent (floor, b - 1) ∷ []) else [])
  go true true = refl
  go true false = refl
  go false w = refl

of_ended : (c : AcqConfig) (b : Board) (ds : List (List Item)) (r : Retirement) (got : Option Given)
    → told_fills (ended_notes c b ds r.was r.cause got) ≡ unless b.closed (fills_in (map item_of (fill_of c.p r got)))
of_ended c b ds r None = sym (unless-nil b.closed)
of_ended c b ds r (Some g) =
    both (drop_notes b (first_dropped ds)) _ [] _ (of_drops b (first_dropped ds)) (by b.closed _)
  where
    by : (closed : Bool) (f : ToldFill) → (if not closed then f ∷ [] else []) ++ [] ≡ unless closed (f ∷ [])
    by true f = refl
    by false f = refl

of_retired : (c : AcqConfig) (b : Board) (ds : List (List Item)) (floor : ℕ) (rs : List Retirement) → told_fills (retired_notes c b ds floor rs) ≡ given c b rs
of_retired c b ds floor [] = sym (unless-nil b.closed)
of_retired c b ds floor (r ∷ rs) =
    both (gap floor r.was.block) _ [] _ (of_gap floor r.was.block)
    (both (ended_notes c b ds r.was r.cause r.was.given) _ (unless b.closed (fills_in (map item_of (fill_of c.p r r.was.given)))) (given c b rs)
    (of_ended c b ds r r.was.given) (of_retired c b (after_end ds r.was.given) (r.was.block + 1) rs))
    ∙ (sym (unless-append b.closed (fills_in (map item_of (fill_of c.p r r.was.given))) (fills_in (map item_of (fills c.p rs))))
    ∙ (ap (unless b.closed) (sym (map-append fill_told (map item_of (fill_of c.p r r.was.given)) (map item_of (fills c.p rs))))
    ∙ ap (λ l. unless b.closed (fills_in l)) (sym (map-append item_of (fill_of c.p r r.was.given) (fills c.p rs)))))

of_kept : (x : Option StreamPacket) → Silent (kept_note x)
of_kept None = refl
of_kept (Some (leader h i)) = refl
of_kept (Some (payload h d)) = refl
of_kept (Some (trailer h y)) = refl
of_kept (Some (notice h)) = refl

of_need : (x : Option StreamPacket) (need : Option Need) → Silent (need_notes x need)
of_need x None = refl
of_need x (Some (Buffer b)) = refl
of_need x (Some Done) = of_kept x
of_need x (Some (Ignored why)) = refl

of_open : (b : Board) (ds : List (List Item)) (asked : Option ℕ) (got : Option Given) → Silent (open_notes b ds asked got)
of_open b ds None got = refl
of_open b ds (Some block) got = both (drop_notes b (first_dropped ds)) _ [] [] (of_drops b (first_dropped ds)) refl

of_asks : (b round : ℕ) (rs : List (ℕ × ℕ)) → Silent (ask_notes b round rs)
of_asks b round [] = refl
of_asks b round (r ∷ rs) = of_asks b round rs

of_rounds : (c : AcqConfig) (now : ℕ) (os : List Open) → Silent (round_notes c now os)
of_rounds c now [] = refl
of_rounds c now (o ∷ os) =
    both (ask_notes o.block (o.rounds + 1) (ranges_asked c now o)) _ [] [] (of_asks o.block (o.rounds + 1) (ranges_asked c now o)) (of_rounds c now os)

of_turn : (c : AcqConfig) (b : Board) (ds : List (List Item)) (s : State) (i : Input) → told_fills (turn_notes c b ds s i (step c s i)) ≡ given c b (step c s i).retired
of_turn c b ds s (datagram bytes) =
    both (need_notes (packet_of bytes) (step c s (datagram bytes)).need) _ [] _ (of_need (packet_of bytes) (step c s (datagram bytes)).need)
    (of_retired c b ds s.floor (step c s (datagram bytes)).retired)
of_turn c b ds s (claimed got) = of_open b ds s.asked got ∙ sym (unless-nil b.closed)
of_turn c b ds s (tick moment) =
    both (retired_notes c b ds s.floor (step c s (tick moment)).retired) _ (given c b (step c s (tick moment)).retired) [] (of_retired c b ds s.floor (step c s (tick moment)).retired)
    (of_rounds c (step c s (tick moment)).after.now (settled c (record (unasked s) { now = (step c s (tick moment)).after.now })).opens)
    ∙ append-nil (given c b (step c s (tick moment)).retired)
of_turn c b ds s stop = of_retired c b ds s.floor (step c s stop).retired
of_turn c b ds s restart = sym (unless-nil b.closed)

of_inputs : (c : AcqConfig) (b : Board) (ds : List (List Item)) (s : State) (q : List Input) → told_fills (notes_from c b ds s q) ≡ given c b (retired_from c s q)
of_inputs c b ds s [] = sym (unless-nil b.closed)
of_inputs c b ds s (i ∷ q) =
    both (turn_notes c b ds s i (step c s i)) _ (given c b (step c s i).retired) (given c b (retired_from c (step c s i).after q)) (of_turn c b ds s i)
    (of_inputs c b (after_turn ds s i (step c s i)) (step c s i).after q)
    ∙ sym (given-append c b (step c s i).retired (retired_from c (step c s i).after q))

-- ---- fills, and what was tried

stays_open : (b : Board) (k : ℕ) (e : Event) → KeepsOpen e → (after_event b k e).closed ≡ b.closed
stays_open b k (Look i w) h = refl
stays_open b k (LookPool is) h = refl
stays_open b k (LookOut is closed) h = refl
stays_open b k (LookRun r) h = refl
stays_open b k (Enrol i size (Ok g)) h = refl
stays_open b k (Enrol i size (Err w)) h = refl
stays_open b k (Grab i g (Ok ok)) h = refl
stays_open b k (Grab i g (Err w)) h = refl
stays_open b k (Lay i) h = refl
stays_open b k (Vacate i) h = refl
stays_open b k (Pool i) h = refl
stays_open b k (Claim (Some i)) h = refl
stays_open b k (Claim None) h = refl
stays_open b k (SweepPool is) h = refl
stays_open b k (Fill i f true) h = refl
stays_open b k (Fill i f false) h = refl
stays_open b k (Take (taken.Taken i)) h = refl
stays_open b k (Take taken.Empty) h = refl
stays_open b k (Take taken.Closed) h = refl
stays_open b k (SweepOut is) h = refl
stays_open b k Close h = absurd h
stays_open b k Post h = refl
stays_open b k (Unpost stood) h = refl
stays_open b k (Start (Ok ok)) h = refl
stays_open b k (Start (Err r)) h = refl
stays_open b k (Stop kill (Ok ok)) h = refl
stays_open b k (Stop kill (Err r)) h = refl
stays_open b k (Split n) h = refl
stays_open b k (Join n) h = refl

-- a fill goes into the output where the close mark doesn't stand
event_fills : (b : Board) (k : ℕ) (e : Event) → Meets b k e → filled_by e ≡ unless b.closed (tried_by e)
event_fills b k (Fill i f true) m = sym (ap (λ v. unless v (item i f ∷ [])) m.2)
event_fills b k (Fill i f false) m = sym (ap (λ v. unless v (item i f ∷ [])) m.2)
event_fills b k _ m = sym (unless-nil b.closed)

entry_fills : (b : Board) (mine : Bool) (e : Entry) (es : List Entry) → filled_by e.event ≡ unless b.closed (tried_by e.event) → filled es ≡ unless b.closed (tried es)
    → filled (cond mine (e ∷ es) es) ≡ unless b.closed (tried (cond mine (e ∷ es) es))
entry_fills b true e es one rest =
    ap (λ l. l ++ filled es) one ∙ (ap (λ l. unless b.closed (tried_by e.event) ++ l) rest ∙ sym (unless-append b.closed (tried_by e.event) (tried es)))
entry_fills b false e es one rest = rest

own_fill : (k : ℕ) (b : Board) (es : List Entry) → AllByRecursion StaysOpen es → RunsFrom b es → filled (own_of k es) ≡ unless b.closed (tried (own_of k es))
own_fill k b [] all runs = sym (unless-nil b.closed)
own_fill k b (e ∷ es) all runs =
    let later = own_fill k (next b e) es all.1 runs.1 in
    let same : (next b e).closed ≡ b.closed = stays_open b e.by e.event all.0 in
    entry_fills b (e.by == k) e (own_of k es) (event_fills b e.by e.event runs.0.meets) (later ∙ ap (λ v. unless v (tried (own_of k es))) same)

part_fills : (b : Board) (part : Part) → (own_of acquirer part.entries ≡ []) ⊎ AllByRecursion StaysOpen part.entries → RunsFrom b part.entries
    → filled (own_of acquirer part.entries) ≡ unless b.closed (tried (own_of acquirer part.entries))
part_fills b part (inl none) runs = ap filled none ∙ (sym (unless-nil b.closed) ∙ ap (λ l. unless b.closed (tried l)) (sym none))
part_fills b part (inr all) runs = own_fill acquirer b part.entries all runs

-- ---- one line

-- what the acquisition tried to fill so far are the blocks that retired
abbrev pub Agrees : AcqConfig → Trace → Type 0
Agrees c t = tried_blocks t ≡ retired_items c t.inputs

-- What a line with these inputs adds, and with these words of the board before it.
pub record Fills (c : AcqConfig) (t after : Trace) (b : Board) (inputs : List Input) : Type 0 where
  pub agrees : Agrees c after
  pub fills : fills_in (filled_blocks after) ≡ fills_in (filled_blocks t) ++ given c b (retired_from c (After c t.inputs) inputs)

part_tried : (c : AcqConfig) (t : Trace) (part : Part) → Agrees c t → Agrees c (grown t part)
    → tried (own_of acquirer part.entries) ≡ items_from c (After c t.inputs) part.inputs
part_tried c t part before after =
    append_cancel_left (tried_blocks t) (tried (own_of acquirer part.entries)) (items_from c (After c t.inputs) part.inputs)
    (sym (tried-append (own_of acquirer t.entries) (own_of acquirer part.entries))
    ∙ (ap tried (sym (own_of-append acquirer t.entries part.entries))
    ∙ (after
    ∙ (items_from-append c first_state t.inputs part.inputs
    ∙ ap (λ l. l ++ items_from c (After c t.inputs) part.inputs) (sym before)))))

pub line_fills : (c : AcqConfig) (t : Trace) (l : ScriptLine) (part : Part) → IsByOther l → AddsPart c t l part → IsShaped c t part → Agrees c t → Fills c t (grown t part) (board t) part.inputs
line_fills c t l part other adds shape before =
    let after : Agrees c (grown t part) = leads_agree c t (l ∷ []) (grown t part) (other, tt) (part, adds, refl) before in
    let mine : filled (own_of acquirer part.entries) ≡ unless (board t).closed (items_from c (After c t.inputs) part.inputs) =
    part_fills (board t) part shape.stays adds.runs ∙ ap (unless (board t).closed) (part_tried c t part before after) in
    record {
      agrees = after;
      fills =
          ap (λ l. fills_in (filled l)) (own_of-append acquirer t.entries part.entries)
          ∙ (ap fills_in (filled-append (own_of acquirer t.entries) (own_of acquirer part.entries))
          ∙ (map-append fill_told (filled_blocks t) (filled (own_of acquirer part.entries))
          ∙ ap (λ l. fills_in (filled_blocks t) ++ l)
          (ap fills_in mine ∙ sym (unless-fills (board t).closed (items_from c (After c t.inputs) part.inputs)))));
    }

-- a line that changes nothing
pub nothing_fills : (c : AcqConfig) (t after : Trace) → after ≡ t → Agrees c t → Fills c t after (board t) []
nothing_fills c t after same before = record {
  agrees = subst (Agrees c) (sym same) before;
  fills = ap (λ (u : Trace). fills_in (filled_blocks u)) same
      ∙ (sym (append-nil (fills_in (filled_blocks t))) ∙ ap (λ l. fills_in (filled_blocks t) ++ l) (sym (unless-nil (board t).closed)));
}

-- the notes of a line tell what its fills are
pub fills_told : (c : AcqConfig) (t after : Trace) (b : Board) (ds : List (List Item)) (notes front : List Note) (inputs : List Input)
    → told_fills notes ≡ fills_in (filled_blocks t) → Silent front → Fills c t after b inputs
    → told_fills (notes ++ (front ++ notes_from c b ds (After c t.inputs) inputs)) ≡ fills_in (filled_blocks after)
fills_told c t after b ds notes front inputs before none f =
    both notes (front ++ notes_from c b ds (After c t.inputs) inputs) (fills_in (filled_blocks t)) (given c b (retired_from c (After c t.inputs) inputs)) before
    (both front (notes_from c b ds (After c t.inputs) inputs) [] (given c b (retired_from c (After c t.inputs) inputs)) none (of_inputs c b ds (After c t.inputs) inputs))
    ∙ sym f.fills
