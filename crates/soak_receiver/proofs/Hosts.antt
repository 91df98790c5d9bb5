-- What a host stands for, before and after a call.
use Rattle.std.proofs.Common.{◌≡◌, ℕ, ◌+◌, ◌-◌, ◌^◌, ◌==◌, min, Bool, true, false, List, [], ◌∷◌, ◌++◌, refl, sym, ap, subst, ◌∙◌, arith}
use Rattle.std.specs.Prelude.{Option, None, Some, Result, Ok, Err, OnOk, if◌then◌else◌, map}
use Rattle.std.specs.List.{AllByRecursion}
use Rattle.gev_report.specs.ReplayLines.{take_line}
use Rattle.gev_script.specs.Lines as line
use Rattle.gev_script.specs.Lines.{ScriptLine}
use Rattle.board_machine.specs.Machine.{Board, Item, word_at}
use Rattle.acquisition_machine.specs.Machine.{State, step, datagram, tick, request_bytes}
use Rattle.acquisition_machine.specs.TurnLaws.{asked_by}
use Rattle.acquisition_machine.proofs.Order.{all_append}
use Rattle.board_machine.specs.Ids.{buffer_at}
use Rattle.script_trace.specs.Opening.{opening}
use Rattle.script_trace.specs.Ending.{as_count}
use Rattle.script_replay.specs.declared.running.Running.{Running}
use Rattle.world_laws.specs.Receiver.{Receiver, soak_config, start, hears, told, told_again, waiting, takes_one}
use Rattle.soak_receiver.specs.Moves.{MovesAt, Moves, Asks, heard_line, unchanged}
use Rattle.soak_receiver.specs.Taking.{TakesItem, TakesFirst}
use Rattle.soak_receiver.specs.Stocking.{start_lines, HasBegun}
use Rattle.soak_receiver.specs.Standing.{Hosting, IsHostLine, HostStands, HostTakes}
use Rattle.soak_receiver.proofs.Moving.{leads_both}

-- ---- the start

pub stands_first : (running : Running) → HasBegun running → HostStands (record { running = running; taken = 0; complete = 0; incomplete = 0 }) start_lines start
stands_first running begun = record {
  trace = begun.trace;
  are = (tt, (tt, (tt, (tt, (tt, (tt, (tt, (tt, (tt, tt)))))))));
  leads = begun.leads;
  stands = begun.stands;
  left = begun.left;
  taken = refl;
  complete = refl;
  incomplete = refl;
}

-- ---- one move on

-- the counts of the code are the receiver's
pub record Counts (h : Hosting) (r : Receiver) : Type 0 where
  pub taken : h.taken ≡ as_count r.taken
  pub complete : h.complete ≡ as_count r.complete
  pub incomplete : h.incomplete ≡ as_count r.incomplete

stands_on : (old new : Hosting) (lines more : List ScriptLine) (change : Receiver → Receiver) (r : Receiver) → HostStands old lines r → Moves more change old.running new.running → AllByRecursion IsHostLine more → Counts new (change r)
    → HostStands new (lines ++ more) (change r)
stands_on old new lines more change r was moves are counts =
    let moved : MovesAt more change new.running was.trace = moves was.trace was.stands in
    record {
      trace = moved.trace;
      are = all_append IsHostLine lines more was.are are;
      leads = leads_both soak_config opening lines was.trace more moved.trace was.leads moved.leads;
      stands = moved.stands;
      left = moved.left r was.left;
      taken = counts.taken;
      complete = counts.complete;
      incomplete = counts.incomplete;
    }

-- the same host over other parts
abbrev pub over : Hosting → Running → Hosting
over h running = record h { running = running }

-- the same counts
record SameCounts (r s : Receiver) : Type 0 where
  taken : s.taken ≡ r.taken
  complete : s.complete ≡ r.complete
  incomplete : s.incomplete ≡ r.incomplete

counts_same : (h : Hosting) (running : Running) (lines : List ScriptLine) (r s : Receiver) → HostStands h lines r → SameCounts r s → Counts (over h running) s
counts_same h running lines r s was same = record {
  taken = was.taken ∙ ap as_count (sym same.taken);
  complete = was.complete ∙ ap as_count (sym same.complete);
  incomplete = was.incomplete ∙ ap as_count (sym same.incomplete);
}

again_counts : (asked : Option ℕ) (bytes : List ℕ) (r : Receiver) → SameCounts r (told_again asked bytes r)
again_counts None bytes r = record { taken = refl; complete = refl; incomplete = refl }
again_counts (Some block) bytes r = record { taken = refl; complete = refl; incomplete = refl }

hears_counts : (bytes : List ℕ) (r : Receiver) → SameCounts r (hears r bytes)
hears_counts bytes r = go (r.board.run == 1)
  where
    asked : Option ℕ
    asked = asked_by (step soak_config r.acquisition (datagram bytes)).need

    again : SameCounts (told (datagram bytes) r) (told_again asked bytes (told (datagram bytes) r))
    again = again_counts asked bytes (told (datagram bytes) r)

    go : (runs : Bool) → SameCounts r (if runs then told_again asked bytes (told (datagram bytes) r) else r)
    go true = record { taken = again.taken; complete = again.complete; incomplete = again.incomplete }
    go false = record { taken = refl; complete = refl; incomplete = refl }

pub stands_heard : (h : Hosting) (running : Running) (bytes : List ℕ) → Moves (heard_line bytes ∷ []) (λ r. hears r bytes) h.running running
    → (lines : List ScriptLine) (r : Receiver) → HostStands h lines r → HostStands (over h running) (lines ++ heard_line bytes ∷ []) (hears r bytes)
stands_heard h running bytes moves lines r was =
    stands_on h (over h running) lines (heard_line bytes ∷ []) (λ s. hears s bytes) r was moves (tt, tt) (counts_same h running lines r (hears r bytes) was (hears_counts bytes r))

pub stands_told : (h : Hosting) (running : Running) (moment : ℕ) → Moves (line.tick moment ∷ []) (λ r. told (tick moment) r) h.running running
    → (lines : List ScriptLine) (r : Receiver) → HostStands h lines r → HostStands (over h running) (lines ++ line.tick moment ∷ []) (told (tick moment) r)
stands_told h running moment moves lines r was =
    stands_on h (over h running) lines (line.tick moment ∷ []) (λ s. told (tick moment) s) r was moves (tt, tt) (record { taken = was.taken; complete = was.complete; incomplete = was.incomplete })

pub requests_are : {E : Type 0} (result : Result (Unit {0}) E) (h : Hosting) (moment : ℕ) (before after : List (List ℕ)) → OnOk result (Asks moment h.running before after)
    → (lines : List ScriptLine) (r : Receiver) → HostStands h lines r → OnOk result (after ≡ before ++ map request_bytes (step soak_config r.acquisition (tick moment)).requests)
requests_are (Ok done) h moment before after asks lines r was =
    asks was.trace was.stands ∙ ap (λ (s : State). before ++ map request_bytes (step soak_config s (tick moment)).requests) (sym was.left.acquisition)
requests_are (Err e) h moment before after asks lines r was = tt

-- ---- a take

-- what waits on the code's board waits on the receiver's
waits_same : (h : Hosting) (lines : List ScriptLine) (r : Receiver) → HostStands h lines r → h.running.board.board ≡ r.board
waits_same h lines r was = was.stands.behind.board.board.state ∙ sym was.left.board

pub stands_empty : (took : Option Bool) (h : Hosting) (running : Running) (said said_after : List ℕ) → TakesFirst took h.running said said_after running → took ≡ None
    → (lines : List ScriptLine) (r : Receiver) → HostStands h lines r → HostTakes (waiting r.board) false lines r said said_after (over h running)
stands_empty (Some complete) h running said said_after takes is lines r was = absurd cc
stands_empty None h running said said_after (unsaid, nothing) is lines r was =
    subst (λ (xs : List Item). HostTakes xs false lines r said said_after (over h running)) (sym none)
    (refl, unsaid, stands_on h (over h running) lines (line.take ∷ []) unchanged r was nothing.moves (tt, tt) (record { taken = was.taken; complete = was.complete; incomplete = was.incomplete }))
  where
    none : waiting r.board ≡ []
    none = ap waiting (sym (waits_same h lines r was)) ∙ nothing.none

-- one more, up to where a count stands still
one_more : (n m : ℕ) → n ≡ as_count m → min (n + 1) (2 ^ 64 - 1) ≡ as_count (m + 1)
one_more n m e = omega (arith, e)

-- the code counts a buffer as complete or not
pub record CountsOne (complete : Bool) (h new : Hosting) : Type 0 where
  pub taken : new.taken ≡ min (h.taken + 1) (2 ^ 64 - 1)
  pub complete_is : new.complete ≡ (if complete then min (h.complete + 1) (2 ^ 64 - 1) else h.complete)
  pub incomplete_is : new.incomplete ≡ (if complete then h.incomplete else min (h.incomplete + 1) (2 ^ 64 - 1))

counts_one : (complete : Bool) (h new : Hosting) (lines : List ScriptLine) (x : Item) (r : Receiver) → HostStands h lines r → CountsOne complete h new → complete ≡ x.filling.rec.complete → Counts new (takes_one x r)
counts_one complete h new lines x r was one is = record {
  taken = one.taken ∙ one_more h.taken r.taken was.taken;
  complete = one.complete_is ∙ (completes complete ∙ ap (λ (whole : Bool). as_count (if whole then r.complete + 1 else r.complete)) is);
  incomplete = one.incomplete_is ∙ (incompletes complete ∙ ap (λ (whole : Bool). as_count (if whole then r.incomplete else r.incomplete + 1)) is);
}
  where
    completes : (whole : Bool) → (if whole then min (h.complete + 1) (2 ^ 64 - 1) else h.complete) ≡ as_count (if whole then r.complete + 1 else r.complete)
    completes true = one_more h.complete r.complete was.complete
    completes false = was.complete

    incompletes : (whole : Bool) → (if whole then h.incomplete else min (h.incomplete + 1) (2 ^ 64 - 1)) ≡ as_count (if whole then r.incomplete else r.incomplete + 1)
    incompletes true = was.incomplete
    incompletes false = one_more h.incomplete r.incomplete was.incomplete

stands_item : (complete : Bool) (h new : Hosting) (said said_after : List ℕ) → TakesItem complete h.running said said_after new.running → CountsOne complete h new
    → (lines : List ScriptLine) (r : Receiver) → HostStands h lines r → HostTakes (waiting r.board) true lines r said said_after new
stands_item complete h new said said_after takes one lines r was =
    subst (λ (b : Board). HostTakes (waiting b) true lines r said said_after new) same
    (subst (λ (xs : List Item). HostTakes xs true lines r said said_after new) (sym takes.waits) (
      refl,
      takes.told ∙ ap (λ (b : Board). said ++ take_line (buffer_at b takes.first.place) takes.first.filling) same,
      subst (λ g. HostStands new (lines ++ line.take ∷ line.queue takes.first.place g ∷ []) (takes_one takes.first r)) (ap (λ (b : Board). (word_at b takes.first.place).generation) same)
          (stands_on h new lines (line.take ∷ line.queue takes.first.place (word_at h.running.board.board takes.first.place).generation ∷ []) (takes_one takes.first) r was takes.moves (tt, (tt, tt))
          (counts_one complete h new lines takes.first r was one takes.complete_is)),
    ))
  where
    same : h.running.board.board ≡ r.board
    same = waits_same h lines r was

pub stands_taken : (took : Option Bool) (complete : Bool) (h new : Hosting) (said said_after : List ℕ) → TakesFirst took h.running said said_after new.running → took ≡ Some complete → CountsOne complete h new
    → (lines : List ScriptLine) (r : Receiver) → HostStands h lines r → HostTakes (waiting r.board) true lines r said said_after new
stands_taken took complete h new said said_after takes is one =
    stands_item complete h new said said_after (subst (λ (of : Option Bool). TakesFirst of h.running said said_after new.running) is takes) one
