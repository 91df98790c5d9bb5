-- The lines of a captured script, each from one stage to the next.
use Rattle.std.proofs.Common.{zero, suc, Bool, if◌then◌else◌, ◌∙◌, replicate, length, ◌≡◌, inl, ℕ, ◌<◌, ◌≤◌, true, List, [], ◌∷◌, ◌++◌, map, refl, sym, ap, subst, arith, append_assoc, append-nil}
use Rattle.std.specs.Prelude.{Ok, codes}
use Rattle.std.specs.List.{AllByRecursion}
use Rattle.gev_types.specs.Filling.{Filling}
use Rattle.gev_script.specs.Lines as line
use Rattle.gev_script.specs.Lines.{ScriptLine}
use Rattle.gev_report.specs.ReplayLines.{take_line}
use Rattle.board_machine.specs.declared.events.Entry.{Entry}
use Rattle.board_machine.specs.declared.events.Event.{Event}
use Rattle.board_machine.specs.declared.events.Event.TheVariants.{Lay, Fill, Take}
use Rattle.board_machine.specs.declared.events.TakeEnd.TheVariants.{Taken}
use Rattle.board_machine.specs.Machine.{Board, Item, item}
use Rattle.board_machine.specs.Ids.{buffer_at}
use Rattle.board_machine.specs.Adding.{entries_of}
use Rattle.acquisition_machine.specs.declared.retired.Retired.{Retired}
use Rattle.acquisition_machine.specs.TurnLaws.{given_of}
use Rattle.block_fills.specs.Fills.{item_of}
use Rattle.board_calls.specs.declared.mode.Mode.TheVariants.{OldestFirst}
use Rattle.script_trace.specs.Trace.{Trace, board, caller, acquirer}
use Rattle.script_trace.specs.Answers.{done_text}
use Rattle.script_trace.specs.Modes.{FillsInMode}
use Rattle.script_trace.specs.BoardLines.{TakeIfOpen}
use Rattle.capture_script.proofs.Desk.{desk, uses, Done, done_both, done_none, fill_done, take_done, seen_at, looked, flush_seen, flush_events, look_entries, last_looks, looks_from_4, looks_from_3, looks_from_2, looks_from_1, flush_parts, flushed, flush_done, IsFull, full_flushed}
use Rattle.capture_script.specs.Script.{taking}
use Rattle.acquisition_machine.specs.Machine.{Input}
use Rattle.board_calls.specs.Rounds.{IsGrabOf, AreGrabbedIfHeld}
use Rattle.gentl_types.specs.declared.word.State.TheVariants.{Held, Away, Vacant}
use Rattle.acquisition_machine.proofs.Order.{all_append}
use Rattle.std.proofs.lemmas.Bool.{ne_eqb}
use Rattle.capture_script.proofs.Holding.{places_in, IsLive}
use Rattle.capture_script.proofs.Stages.{IsRecorded, Stage, Goes, adds, one_line, no_line, goes_both, has_event}

-- ---- fills

abbrev pub fill_events : List Retired → List Event
fill_events [] = []
fill_events (x ∷ xs) = Fill x.place x.buf true ∷ fill_events xs

pub in_mode : (xs : List Retired) → FillsInMode OldestFirst xs (fill_events xs)
in_mode [] = refl
in_mode (x ∷ xs) = (
  Fill x.place x.buf true ∷ [],
  fill_events xs,
  refl,
  record {
    dropped = [];
    filled = true;
    call = Fill x.place x.buf true ∷ [];
    fills = record { front = []; drops = (refl, refl); is = refl };
    is = refl;
  },
  in_mode xs,
)

pub fills_recorded : (xs : List Retired) → AllByRecursion IsRecorded (entries_of acquirer (fill_events xs))
fills_recorded [] = tt
fills_recorded (x ∷ xs) = (refl, fills_recorded xs)

-- the buffers come back in the order in which they are held
pub fills_done : (pp ss : ℕ) → (r : ℕ) (xs : List Retired) (his : List ℕ) (out : List Item) (pool : List ℕ) → AllByRecursion (IsLive pp ss) (map given_of xs)
    → Done (desk pp ss r (places_in (map given_of xs) ++ his) out pool) (entries_of acquirer (fill_events xs)) (desk pp ss r his (out ++ map item_of xs) pool)
fills_done pp ss r [] his out pool all = subst (λ l. Done (desk pp ss r his out pool) [] (desk pp ss r his l pool)) (sym (append-nil out)) (done_none (desk pp ss r his out pool))
fills_done pp ss r (x ∷ xs) his out pool all =
    let first = fill_done pp ss r x.place x.buf (places_in (map given_of xs) ++ his) out pool all.0.low all.0.sized in
    let rest = fills_done pp ss r xs his (out ++ item_of x ∷ []) pool all.1 in
    subst (λ l. Done (desk pp ss r (places_in (map given_of (x ∷ xs)) ++ his) out pool) (entries_of acquirer (fill_events (x ∷ xs))) (desk pp ss r his l pool))
    (append_assoc out (item_of x ∷ []) (map item_of xs))
    (done_both (desk pp ss r (places_in (map given_of (x ∷ xs)) ++ his) out pool) (desk pp ss r (places_in (map given_of xs) ++ his) (out ++ item_of x ∷ []) pool)
    (desk pp ss r his ((out ++ item_of x ∷ []) ++ map item_of xs) pool)
    (entries_of acquirer (Fill x.place x.buf true ∷ [])) (entries_of acquirer (fill_events xs)) first rest)

-- ---- takes

pub take_goes : (pp ss : ℕ) → (t : Trace) (r p : ℕ) (f : Filling) (his : List ℕ) (out : List Item) (ps : List ℕ) → Stage pp ss t r his (item p f ∷ out) ps → p < 5 → uses his (item p f ∷ out) ps p ≤ 1
    → Goes pp ss t (line.take ∷ []) [] r his out ps
take_goes pp ss t r p f his out ps s low once =
    let event = has_event t s.handles in
    let said : List ℕ = take_line (buffer_at (board t) p) f in
    let es : List Entry = entries_of caller (Take (Taken p) ∷ Lay p ∷ []) in
    one_line pp ss t line.take es [] said r r his his out (item p f ∷ out) ps ps s
    (subst (λ e. TakeIfOpen t e (adds t es [] said)) (sym event.is_open) (
      0,
      inl (record {
        place = p;
        filling = f;
        rest = out;
        first = ap (λ (b : Board). b.out) s.is;
        gets = Take (Taken p) ∷ [];
        got = refl;
        returns = Lay p ∷ [];
        returned = refl;
        is = refl;
      }),
    ))
    (take_done pp ss r p f his out ps low once)
    (refl, (tt, tt))

-- as many as wait
pub takes_go : (pp ss : ℕ) → (t : Trace) (r : ℕ) (xs : List Retired) (his ps : List ℕ) → Stage pp ss t r his (map item_of xs) ps → AllByRecursion (IsLive pp ss) (map given_of xs)
    → ((i : ℕ) → i < 5 → uses his (map item_of xs) ps i ≤ 1) → Goes pp ss t (replicate (length xs) line.take) [] r his [] ps
takes_go pp ss t r [] his ps s all once = no_line pp ss t r his [] ps s
takes_go pp ss t r (x ∷ xs) his ps s all once =
    let first = take_goes pp ss t r x.place x.buf his (map item_of xs) ps s all.0.low (once x.place all.0.low) in
    let rest = takes_go pp ss first.to r xs his ps first.stage all.1 (λ i low. (let o = once i low in omega (arith, o))) in
    goes_both pp ss t (line.take ∷ []) (replicate (length xs) line.take) [] [] r r his his [] (map item_of xs) ps ps first rest

-- ---- the flush

grab_of : (ss n : ℕ) → IsGrabOf (seen_at ss n).word (seen_at ss n).grab
grab_of ss zero = refl
grab_of ss (suc n) = λ e. let f : Away ≡ Held = ap (λ (b : Bool). if b then Held else Away) (sym (ne_eqb (suc n) 0 (λ z. cc))) ∙ e in cc

not_held : Vacant ≡ Held → ⊥
not_held e = cc

all_grabbed : (ss : ℕ) (u : ℕ → ℕ) → AreGrabbedIfHeld (flush_seen ss u)
all_grabbed ss u = (grab_of ss (u 0), (grab_of ss (u 1), (grab_of ss (u 2), (grab_of ss (u 3), (grab_of ss (u 4), (not_held, (not_held, (not_held, (not_held, (not_held, (not_held, (not_held, (not_held, (not_held, (not_held, tt)))))))))))))))

looked_recorded : (ss i n : ℕ) → AllByRecursion IsRecorded (entries_of caller (looked ss i n))
looked_recorded ss i zero = (tt, (tt, (tt, tt)))
looked_recorded ss i (suc n) = (tt, tt)

flush_recorded : (ss : ℕ) (u : ℕ → ℕ) → AllByRecursion IsRecorded (entries_of caller (flush_events ss u))
flush_recorded ss u =
    subst (λ (es : List Entry). AllByRecursion IsRecorded es) (sym (flush_parts ss u))
    (all_append IsRecorded (look_entries ss 0 u) (looks_from_1 ss u) (looked_recorded ss 0 (u 0))
    (all_append IsRecorded (look_entries ss 1 u) (looks_from_2 ss u) (looked_recorded ss 1 (u 1))
    (all_append IsRecorded (look_entries ss 2 u) (looks_from_3 ss u) (looked_recorded ss 2 (u 2))
    (all_append IsRecorded (look_entries ss 3 u) (looks_from_4 ss u) (looked_recorded ss 3 (u 3))
    (all_append IsRecorded (look_entries ss 4 u) last_looks (looked_recorded ss 4 (u 4))
    (tt, (tt, (tt, (tt, (tt, (tt, (tt, (tt, (tt, (tt, tt)))))))))))))))

pub flush_goes : (pp ss : ℕ) → (t : Trace) (r : ℕ) (his ps : List ℕ) → Stage pp ss t r his [] ps → Goes pp ss t (line.flush 3 ∷ []) [] r his [] (flushed his ps)
flush_goes pp ss t r his ps s =
    let u : ℕ → ℕ = λ i. uses his [] ps i in
    one_line pp ss t (line.flush 3) (entries_of caller (flush_events ss u)) [] (done_text (codes "flush")) r r his his [] [] (flushed his ps) ps s (
      Ok tt,
      record {
        events = flush_events ss u;
        kind = record {
          in_range = omega arith;
          to_output = λ e. absurd (omega (arith, e));
          discards_output = λ e. absurd (omega (arith, e));
          to_input = λ e. absurd (omega (arith, e));
          unqueued_to_input = λ e. record { seen = flush_seen ss u; all = refl; grabbed = all_grabbed ss u; is = refl };
          discards_all = λ e. absurd (omega (arith, e));
        };
        is = refl;
      },
    )
    (flush_done pp ss r his ps)
    (flush_recorded ss u)

-- ---- takes and the flush behind them

-- These lines lead to a stage where nothing waits, and all that isn't held is pooled.
pub record Rests (pp ss : ℕ) (t : Trace) (lines : List ScriptLine) (told : List Input) (r : ℕ) (his : List ℕ) : Type 0 where
  pub pool : List ℕ
  pub goes : Goes pp ss t lines told r his [] pool
  pub full : IsFull his pool

taken_go : (pp ss : ℕ) → (t : Trace) (r : ℕ) (x : Retired) (xs : List Retired) (his ps : List ℕ) → Stage pp ss t r his (map item_of (x ∷ xs)) ps → AllByRecursion (IsLive pp ss) (map given_of (x ∷ xs))
    → AllByRecursion (λ i. i < 5) ps → ((i : ℕ) → i < 5 → uses his (map item_of (x ∷ xs)) ps i ≡ 1) → Rests pp ss t (replicate (suc (length xs)) line.take ++ line.flush 3 ∷ []) [] r his
taken_go pp ss t r x xs his ps s all low each =
    let takes = takes_go pp ss t r (x ∷ xs) his ps s all (λ i small. (let e = each i small in omega (arith, e))) in
    let flush = flush_goes pp ss takes.to r his ps takes.stage in
    record {
      pool = flushed his ps;
      goes = goes_both pp ss t (replicate (suc (length xs)) line.take) (line.flush 3 ∷ []) [] [] r r his his [] [] (flushed his ps) ps takes flush;
      full = full_flushed his ps low (λ i small. (let e = each i small in omega (arith, e)));
    }

-- what waits is taken, and goes back
pub taking_goes : (pp ss : ℕ) → (t : Trace) (r : ℕ) (xs : List Retired) (his ps : List ℕ) → Stage pp ss t r his (map item_of xs) ps → AllByRecursion (IsLive pp ss) (map given_of xs)
    → AllByRecursion (λ i. i < 5) ps → ((i : ℕ) → i < 5 → uses his (map item_of xs) ps i ≡ 1) → Rests pp ss t (taking (length xs)) [] r his
taking_goes pp ss t r [] his ps s all low each = record {
  pool = ps;
  goes = no_line pp ss t r his [] ps s;
  full = record { low = low; each = λ i small. (let e = each i small in omega (arith, e)) };
}
taking_goes pp ss t r (x ∷ xs) his ps s all low each =
    subst (λ (b : Bool). Rests pp ss t (if b then [] else replicate (suc (length xs)) line.take ++ line.flush 3 ∷ []) [] r his)
    (sym (ne_eqb (suc (length xs)) 0 (λ z. cc))) (taken_go pp ss t r x xs his ps s all low each)
