-- The lines of a recorded script, each from one stage to the next.
use Rattle.std.proofs.Common.{◌≡◌, inl, ℕ, ◌<◌, ◌≤◌, true, false, List, [], ◌∷◌, ◌++◌, map, refl, sym, ap, subst, arith, append_assoc, append-nil}
use Rattle.std.specs.Prelude.{Ok, codes}
use Rattle.std.specs.List.{AllByRecursion}
use Rattle.gev_types.specs.Filling.{Filling}
use Rattle.gev_script.specs.Lines as line
use Rattle.gev_report.specs.ReplayLines.{take_line}
use Rattle.board_machine.specs.declared.events.Entry.{Entry}
use Rattle.board_machine.specs.declared.events.Event.{Event}
use Rattle.board_machine.specs.declared.events.Event.TheVariants.{LookOut, Grab, Lay, Pool, Fill, Take}
use Rattle.board_machine.specs.declared.events.TakeEnd.TheVariants.{Taken}
use Rattle.board_machine.specs.Places.{times}
use Rattle.board_machine.specs.Machine.{Board, Item, item}
use Rattle.board_machine.specs.Ids.{buffer_at}
use Rattle.board_machine.specs.Adding.{entries_of}
use Rattle.board_machine.specs.Handout.{removed}
use Rattle.acquisition_machine.specs.declared.retired.Retired.{Retired}
use Rattle.acquisition_machine.specs.TurnLaws.{given_of}
use Rattle.block_fills.specs.Fills.{item_of}
use Rattle.board_calls.specs.declared.mode.Mode.TheVariants.{OldestFirst}
use Rattle.script_trace.specs.Trace.{Trace, board, caller, acquirer}
use Rattle.script_trace.specs.Answers.{done_text}
use Rattle.script_trace.specs.Modes.{FillsInMode}
use Rattle.script_trace.specs.BoardLines.{TakeIfOpen}
use Rattle.gev_record.proofs.Desk.{desk, uses, Done, done_both, done_none, fill_done, take_done, queue_done}
use Rattle.gev_record.proofs.Holding.{places_in, IsLive}
use Rattle.gev_record.proofs.Saying.{says_take, says_queued, tells_quiet}
use Rattle.gev_record.proofs.Stages.{IsRecorded, Stage, Goes, adds, one_line, no_line, goes_both, has_event}

-- ---- fills

abbrev pub fill_events : List Retired → List Event
fill_events [] = []
fill_events (x ∷ xs) = Fill x.place x.buf true ∷ fill_events xs

pub in_mode : (xs : List Retired) → FillsInMode OldestFirst xs (fill_events xs)
in_mode [] = refl
in_mode (x ∷ xs) = (
  Fill x.place x.buf true ∷ [],
  fill_events xs,
  refl,
  record {
    dropped = [];
    filled = true;
    call = Fill x.place x.buf true ∷ [];
    fills = record { front = []; drops = (refl, refl); is = refl };
    is = refl;
  },
  in_mode xs,
)

pub fills_remove : (xs : List Retired) → removed (entries_of acquirer (fill_events xs)) ≡ []
fills_remove [] = refl
fills_remove (x ∷ xs) = fills_remove xs

pub fills_recorded : (xs : List Retired) → AllByRecursion IsRecorded (entries_of acquirer (fill_events xs))
fills_recorded [] = tt
fills_recorded (x ∷ xs) = (refl, fills_recorded xs)

-- the buffers come back in the order in which they are held
pub fills_done : (r : ℕ) (xs : List Retired) (his : List ℕ) (out : List Item) (pool : List ℕ) → AllByRecursion IsLive (map given_of xs)
    → Done (desk r (places_in (map given_of xs) ++ his) out pool) (entries_of acquirer (fill_events xs)) (desk r his (out ++ map item_of xs) pool)
fills_done r [] his out pool all = subst (λ l. Done (desk r his out pool) [] (desk r his l pool)) (sym (append-nil out)) (done_none (desk r his out pool))
fills_done r (x ∷ xs) his out pool all =
    let first = fill_done r x.place x.buf (places_in (map given_of xs) ++ his) out pool all.0.low all.0.sized in
    let rest = fills_done r xs his (out ++ item_of x ∷ []) pool all.1 in
    subst (λ l. Done (desk r (places_in (map given_of (x ∷ xs)) ++ his) out pool) (entries_of acquirer (fill_events (x ∷ xs))) (desk r his l pool))
    (append_assoc out (item_of x ∷ []) (map item_of xs))
    (done_both (desk r (places_in (map given_of (x ∷ xs)) ++ his) out pool) (desk r (places_in (map given_of xs) ++ his) (out ++ item_of x ∷ []) pool)
    (desk r his ((out ++ item_of x ∷ []) ++ map item_of xs) pool)
    (entries_of acquirer (Fill x.place x.buf true ∷ [])) (entries_of acquirer (fill_events xs)) first rest)

-- ---- takes

pub take_goes : (t : Trace) (r p : ℕ) (f : Filling) (his : List ℕ) (out : List Item) → Stage t r his (item p f ∷ out) [] → p < 3 → uses his (item p f ∷ out) [] p ≤ 1
    → Goes t (line.take ∷ []) [] r his out []
take_goes t r p f his out s low once =
    let event = has_event t s.handles in
    let said : List ℕ = take_line (buffer_at (board t) p) f in
    let es : List Entry = entries_of caller (Take (Taken p) ∷ Lay p ∷ []) in
    one_line t line.take es [] said r r his his out (item p f ∷ out) [] [] s
    (subst (λ e. TakeIfOpen t e (adds t es [] said)) (sym event.is_open) (
      0,
      inl (record {
        place = p;
        filling = f;
        rest = out;
        first = ap (λ (b : Board). b.out) s.is;
        gets = Take (Taken p) ∷ [];
        got = refl;
        returns = Lay p ∷ [];
        returned = refl;
        is = refl;
      }),
    ))
    (take_done r p f his out low once)
    (refl, (tt, tt))
    (record { gone = item p f ∷ []; rest = out; split = append-nil (item p f ∷ out); went = refl; says = says_take (buffer_at (board t) p) f })

-- as many as wait
pub takes_go : (t : Trace) (r : ℕ) (xs : List Retired) (his : List ℕ) → Stage t r his (map item_of xs) [] → AllByRecursion IsLive (map given_of xs)
    → ((i : ℕ) → uses his (map item_of xs) [] i ≤ 1) → Goes t (map (λ x. line.take) xs) [] r his [] []
takes_go t r [] his s all once = no_line t r his [] [] s
takes_go t r (x ∷ xs) his s all once =
    let first = take_goes t r x.place x.buf his (map item_of xs) s all.0.low (once x.place) in
    let rest = takes_go first.to r xs his first.stage all.1 (λ i. (let o = once i in omega (arith, o))) in
    goes_both t (line.take ∷ []) (map (λ x. line.take) xs) [] [] r r his his [] (map item_of xs) [] [] first rest

-- ---- queue

pub queue_goes : (t : Trace) (r p : ℕ) (his : List ℕ) → Stage t r his [] [] → p < 3 → times p his ≡ 0 → Goes t (line.queue p 1 ∷ []) [] r his [] (p ∷ [])
queue_goes t r p his s low free =
    let within : p < 15 = omega arith in
    one_line t (line.queue p 1) (entries_of caller (LookOut [] false ∷ Grab p 1 (Ok tt) ∷ Pool p ∷ [])) [] (done_text (codes "queue"))
    r r his his [] [] (p ∷ []) [] s (
      Ok tt,
      record {
        events = LookOut [] false ∷ Grab p 1 (Ok tt) ∷ Pool p ∷ [];
        kind = (within, record { output = []; is = refl });
        is = refl;
      },
    )
    (queue_done r p his low free)
    (tt, (tt, (tt, tt)))
    (tells_quiet [] (entries_of caller (LookOut [] false ∷ Grab p 1 (Ok tt) ∷ Pool p ∷ [])) _ refl says_queued)
