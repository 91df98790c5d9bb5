-- What was filled is what was removed, and then what is in the output, in order.
use Rattle.std.proofs.Common.{◌≡◌, ℕ, suc, true, false, List, [], ◌∷◌, ◌++◌, length, take, drop, Some, None, Ok, Err, refl, sym, ap, subst, ◌∙◌, append_assoc, append-nil}
use Rattle.std.proofs.lemmas.List.{take_at, drop_at}
use Rattle.gev_types.specs.Filling.{Filling}
use Rattle.board_machine.specs.declared.events.Entry.{Entry}
use Rattle.board_machine.specs.declared.events.Event.{Event}
use Rattle.board_machine.specs.declared.events.Event.TheVariants.{Look, LookPool, LookOut, LookRun, Enrol, Grab, Lay, Vacate, Pool, Claim, SweepPool, Fill, Take, SweepOut, Close, Post, Unpost, Start, Stop, Split, Join}
use Rattle.board_machine.specs.declared.events.TakeEnd.TheVariants.{Taken, Empty, Closed}
use Rattle.board_machine.specs.Places.{IsPrefix, tail}
use Rattle.board_machine.specs.Machine.{Board, Item, item, places, Meets, after_event, next, empty_board}
use Rattle.board_machine.specs.Histories.{after_from, RunsFrom, After, Run}
use Rattle.board_machine.specs.Handout.{filled_by, removed_by, handed_by, filled, removed, handed, removed_items, IsLegal}
use Rattle.board_machine.proofs.Counts.{places-append}
use Rattle.board_machine.proofs.Runs.{runs_rest, run_front}

-- The output before, with what came in, is what went out, with the output after.
pub record Passes (before came : List Item) (went : List ℕ) (after : List Item) : Type 0 where
  pub gone : List Item
  pub split : before ++ came ≡ gone ++ after
  pub are : places gone ≡ went

stays : (out : List Item) → Passes out [] [] out
stays out = record { gone = []; split = append-nil out; are = refl }

takes : (out : List Item) (i : ℕ) (f : Filling) (rest : List Item) → out ≡ item i f ∷ rest → Passes out [] (i ∷ []) (tail out)
takes out i f rest first = record {
  gone = item i f ∷ [];
  split = append-nil out ∙ (first ∙ ap (λ xs. item i f ∷ xs) (sym (ap tail first)));
  are = refl;
}

sweeps : (out : List Item) (is : List ℕ) → is ≡ places out → Passes out [] is []
sweeps out is all = record { gone = out; split = refl; are = sym all }

-- one act passes the output on
pub act_passes : (b : Board) (k : ℕ) (event : Event) → Meets b k event → Passes b.out (filled_by event) (removed_by event) (after_event b k event).out
act_passes b k (Look i w) m = stays b.out
act_passes b k (LookPool is) m = stays b.out
act_passes b k (LookOut is closed) m = stays b.out
act_passes b k (LookRun r) m = stays b.out
act_passes b k (Enrol i size (Ok g)) m = stays b.out
act_passes b k (Enrol i size (Err w)) m = stays b.out
act_passes b k (Grab i g (Ok done)) m = stays b.out
act_passes b k (Grab i g (Err w)) m = stays b.out
act_passes b k (Lay i) m = stays b.out
act_passes b k (Vacate i) m = stays b.out
act_passes b k (Pool i) m = stays b.out
act_passes b k (Claim (Some i)) m = stays b.out
act_passes b k (Claim None) m = stays b.out
act_passes b k (SweepPool is) m = stays b.out
act_passes b k (Fill i f true) m = record { gone = []; split = refl; are = refl }
act_passes b k (Fill i f false) m = stays b.out
act_passes b k (Take (Taken i)) m = takes b.out i m.1.0 m.1.1 m.1.2
act_passes b k (Take Empty) m = stays b.out
act_passes b k (Take Closed) m = stays b.out
act_passes b k (SweepOut is) m = sweeps b.out is m
act_passes b k Close m = stays b.out
act_passes b k Post m = stays b.out
act_passes b k (Unpost stood) m = stays b.out
act_passes b k (Start (Ok done)) m = stays b.out
act_passes b k (Start (Err r)) m = stays b.out
act_passes b k (Stop kill (Ok done)) m = stays b.out
act_passes b k (Stop kill (Err r)) m = stays b.out
act_passes b k (Split n) m = stays b.out
act_passes b k (Join n) m = stays b.out

joined : (a b c : List Item) (in1 in2 : List Item) (out1 out2 : List ℕ) → Passes a in1 out1 b → Passes b in2 out2 c → Passes a (in1 ++ in2) (out1 ++ out2) c
joined a b c in1 in2 out1 out2 p q = record {
  gone = p.gone ++ q.gone;
  split = sym (append_assoc a in1 in2)
      ∙ (ap (λ xs. xs ++ in2) p.split
      ∙ (append_assoc p.gone b in2
      ∙ (ap (λ xs. p.gone ++ xs) q.split ∙ sym (append_assoc p.gone q.gone c))));
  are = places-append p.gone q.gone ∙ (ap (λ is. is ++ places q.gone) p.are ∙ ap (λ is. out1 ++ is) q.are);
}

pub run_passes : (b : Board) (h : List Entry) → RunsFrom b h → Passes b.out (filled h) (removed h) (after_from b h).out
run_passes b [] runs = stays b.out
run_passes b (e ∷ h) runs =
    joined b.out (next b e).out (after_from b (e ∷ h)).out (filled_by e.event) (filled h) (removed_by e.event) (removed h)
    (act_passes b e.by e.event runs.0.meets)
    (run_passes (next b e) h runs.1)

pub length-places : (xs : List Item) → length (places xs) ≡ length xs
length-places [] = refl
length-places (x ∷ xs) = ap suc (length-places xs)

-- what went out is the first part of what came in, and the output is the rest of it
pub gone_length : (h : List Entry) (p : Passes [] (filled h) (removed h) (After h).out) → length p.gone ≡ length (removed h)
gone_length h p = sym (length-places p.gone) ∙ ap length p.are

pub gone_items : (h : List Entry) (p : Passes [] (filled h) (removed h) (After h).out) → removed_items h ≡ p.gone
gone_items h p = ap (λ xs. take (length (removed h)) xs) p.split ∙ take_at p.gone (After h).out (length (removed h)) (gone_length h p)

pub run_removed : (h : List Entry) → Run h → places (removed_items h) ≡ removed h
run_removed h run = let p = run_passes empty_board h run in ap places (gone_items h p) ∙ p.are

pub run_out : (h : List Entry) → Run h → (After h).out ≡ drop (length (removed h)) (filled h)
run_out h run =
    let p = run_passes empty_board h run in
    sym (ap (λ xs. drop (length (removed h)) xs) p.split ∙ drop_at p.gone (After h).out (length (removed h)) (gone_length h p))

pub run_in_order : (h : List Entry) → Run h → IsPrefix (removed h) (places (filled h))
run_in_order h run =
    let p = run_passes empty_board h run in
    record {
      rest = places (After h).out;
      is = ap places p.split ∙ (places-append p.gone (After h).out ∙ ap (λ is. is ++ places (After h).out) p.are);
    }

-- the close mark stays
pub stays_closed : (b : Board) (k : ℕ) (event : Event) → b.closed ≡ true → (after_event b k event).closed ≡ true
stays_closed b k Close closed = refl
stays_closed b k (Look i w) closed = closed
stays_closed b k (LookPool is) closed = closed
stays_closed b k (LookOut is mark) closed = closed
stays_closed b k (LookRun r) closed = closed
stays_closed b k (Enrol i size (Ok g)) closed = closed
stays_closed b k (Enrol i size (Err w)) closed = closed
stays_closed b k (Grab i g (Ok done)) closed = closed
stays_closed b k (Grab i g (Err w)) closed = closed
stays_closed b k (Lay i) closed = closed
stays_closed b k (Vacate i) closed = closed
stays_closed b k (Pool i) closed = closed
stays_closed b k (Claim (Some i)) closed = closed
stays_closed b k (Claim None) closed = closed
stays_closed b k (SweepPool is) closed = closed
stays_closed b k (Fill i f true) closed = closed
stays_closed b k (Fill i f false) closed = closed
stays_closed b k (Take (Taken i)) closed = closed
stays_closed b k (Take Empty) closed = closed
stays_closed b k (Take Closed) closed = closed
stays_closed b k (SweepOut is) closed = closed
stays_closed b k Post closed = closed
stays_closed b k (Unpost stood) closed = closed
stays_closed b k (Start (Ok done)) closed = closed
stays_closed b k (Start (Err r)) closed = closed
stays_closed b k (Stop kill (Ok done)) closed = closed
stays_closed b k (Stop kill (Err r)) closed = closed
stays_closed b k (Split n) closed = closed
stays_closed b k (Join n) closed = closed

closed_fill : (b : Board) (k : ℕ) (event : Event) → b.closed ≡ true → Meets b k event → filled_by event ≡ []
closed_fill b k (Fill i f true) closed m = absurd (cc (m.2, closed))
closed_fill b k (Fill i f false) closed m = refl
closed_fill b k _ closed m = refl

closed_take : (b : Board) (k : ℕ) (event : Event) → b.closed ≡ true → Meets b k event → handed_by event ≡ []
closed_take b k (Take (Taken i)) closed m = absurd (cc (m.0, closed))
closed_take b k (Take Empty) closed m = refl
closed_take b k (Take Closed) closed m = refl
closed_take b k _ closed m = refl

pub closed_filled : (b : Board) (h : List Entry) → b.closed ≡ true → RunsFrom b h → filled h ≡ []
closed_filled b [] closed runs = refl
closed_filled b (e ∷ h) closed runs =
    ap (λ xs. xs ++ filled h) (closed_fill b e.by e.event closed runs.0.meets)
    ∙ closed_filled (next b e) h (stays_closed b e.by e.event closed) runs.1

pub closed_handed : (b : Board) (h : List Entry) → b.closed ≡ true → RunsFrom b h → handed h ≡ []
closed_handed b [] closed runs = refl
closed_handed b (e ∷ h) closed runs =
    ap (λ xs. xs ++ handed h) (closed_take b e.by e.event closed runs.0.meets)
    ∙ closed_handed (next b e) h (stays_closed b e.by e.event closed) runs.1

-- after a close the board is closed, and what follows runs from there
closes : (b : Board) (e : Entry) → e.event ≡ Close → (next b e).closed ≡ true
closes b e is = ap (λ event. (after_event b e.by event).closed) is

rest_runs : (h front rest : List Entry) (e : Entry) → Run h → h ≡ front ++ e ∷ rest → RunsFrom (next (After front) e) rest
rest_runs h front rest e run split = (runs_rest empty_board front (e ∷ rest) (subst (λ g. Run g) split run)).1

pub run_legal : (h : List Entry) → Run h → IsLegal h
run_legal h run = record {
  in_order = λ front rest split. run_in_order front (run_front h front rest run split);
  no_fill = λ front rest e split is. closed_filled (next (After front) e) rest (closes (After front) e is) (rest_runs h front rest e run split);
  no_take = λ front rest e split is. closed_handed (next (After front) e) rest (closes (After front) e is) (rest_runs h front rest e run split);
}
