-- A line makes as many lists of drops as its inputs take.
use Rattle.std.proofs.Common.{◌≡◌, ℕ, ◌+◌, ◌-◌, ◌==◌, false, List, [], ◌∷◌, ◌++◌, length, map, refl, sym, ap, subst, ◌∙◌, append-nil, arith}
use Rattle.std.specs.Prelude.{Some}
use Rattle.board_machine.specs.declared.events.Entry.{Entry}
use Rattle.board_machine.specs.declared.events.Event.{Event}
use Rattle.board_machine.specs.Machine.{Board, Item}
use Rattle.board_machine.specs.Adding.{entries_of}
use Rattle.block_fills.proofs.Tries.{entries-append}
use Rattle.acquisition_machine.specs.declared.config.AcqConfig.{AcqConfig}
use Rattle.acquisition_machine.specs.declared.retired.Retired.{Retired}
use Rattle.acquisition_machine.specs.Blocks.{fills}
use Rattle.acquisition_machine.specs.Machine.{Input, datagram, claimed, restart, State, step}
use Rattle.acquisition_machine.specs.Runs.{first_state, After, turn}
use Rattle.acquisition_machine.specs.TurnLaws.{asked_by}
use Rattle.acquisition_machine.proofs.Counting.{claims_follow_buffer}
use Rattle.acquisition_machine.proofs.Joining.{after_from-append}
use Rattle.script_trace.specs.Inputs.{rest_dropped, after_ends, after_claim, after_turn, notes_from}
use Rattle.script_trace.specs.Trace.{Trace, Part, board, caller, acquirer}
use Rattle.script_trace.specs.Modes.{place_of}
use Rattle.script_trace.specs.StreamLines.{retired_by, tells, outcome, Settles, HeardAgain}
use Rattle.script_trace.specs.Drops.{drops_in}
use Rattle.script_trace.specs.NoteLaws.{told_drops, drop_told}
use Rattle.script_trace.proofs.Yields.{dropped_in, gathers_none, yields_none, fills_yield, Ends, ends_so, ends_behind, claim_ends, others_yield}
use Rattle.script_trace.proofs.Told.{left_by, length_rest, length_ends, tells_all}

-- So many lists are made, and the inputs take so many.
pub record IsListed (c : AcqConfig) (t : Trace) (part : Part) : Type 0 where
  pub count : ℕ
  pub ends : Ends t.entries part.entries count
  pub left : (ds : List (List Item)) → length (left_by c ds (After c t.inputs) part.inputs) ≡ length ds - count

-- Then the notes tell what the acts drop.
pub drops_are_told : (c : AcqConfig) (t : Trace) (part : Part) (b : Board) → IsListed c t part
    → told_drops (notes_from c b (drops_in t part) (After c t.inputs) part.inputs) ≡ map drop_told (dropped_in t.entries part.entries)
drops_are_told c t part b x =
    let many : length (drops_in t part) ≡ x.count = x.ends.many in
    let none : length (drops_in t part) - x.count ≡ 0 = omega (arith, many) in
    tells_all c b (drops_in t part) (After c t.inputs) part.inputs (x.left (drops_in t part) ∙ none) ∙ ap (map drop_told) x.ends.items

no_entry : (h : List Entry) → Ends h [] 0
no_entry h = ends_so h [] 0 (yields_none h [] (gathers_none h) refl)

-- ---- lines that tell the acquisition nothing

pub still_listed : (c : AcqConfig) (t : Trace) (part : Part) → part.entries ≡ [] → part.inputs ≡ [] → IsListed c t part
still_listed c t part quiet silent = record {
  count = 0;
  ends = subst (λ es. Ends t.entries es 0) (sym quiet) (no_entry t.entries);
  left = λ ds. ap (λ q. length (left_by c ds (After c t.inputs) q)) silent ∙ omega arith;
}

-- acts of another
pub others_listed : (c : AcqConfig) (t : Trace) (part : Part) (k : ℕ) (es : List Event) → (k == acquirer) ≡ false → part.entries ≡ entries_of k es → part.inputs ≡ [] → IsListed c t part
others_listed c t part k es apart are silent = record {
  count = 0;
  ends = subst (λ l. Ends t.entries l 0) (sym are) (ends_so t.entries (entries_of k es) 0 (others_yield k es t.entries apart));
  left = λ ds. ap (λ q. length (left_by c ds (After c t.inputs) q)) silent ∙ omega arith;
}

pub restart_listed : (c : AcqConfig) (t : Trace) (calls : List Event) (said : List ℕ) → IsListed c t (tells t calls restart [] said)
restart_listed c t calls said = record {
  count = 0;
  ends = subst (λ l. Ends t.entries l 0) (sym (append-nil (entries_of caller calls))) (ends_so t.entries (entries_of caller calls) 0 (others_yield caller calls t.entries refl));
  left = λ ds. omega arith;
}

-- ---- lines that tell it something

-- the input takes a list for each block that retires with a buffer
pub settles_listed : (c : AcqConfig) (t : Trace) (calls : List Event) (i : Input) (said : List ℕ) (part : Part)
    → ((ds : List (List Item)) → after_turn ds (After c t.inputs) i (turn c t.inputs i) ≡ after_ends ds (turn c t.inputs i).retired)
    → (s : Settles c t calls i said part) → IsListed c t (tells t calls i s.events said)
settles_listed c t calls i said part takes s =
    let blocks : List Retired = retired_by c t.inputs i in
    record {
      count = 0 + length blocks;
      ends = ends_behind t.entries (entries_of caller calls) (entries_of acquirer s.events) 0 (length blocks) (others_yield caller calls t.entries refl)
          (ends_so (t.entries ++ entries_of caller calls) (entries_of acquirer s.events) (length blocks)
          (fills_yield t.mode blocks s.events (t.entries ++ entries_of caller calls) s.filled));
      left = λ ds.
          let all : length (left_by c ds (After c t.inputs) (i ∷ [])) ≡ length ds - length blocks =
          ap length (takes ds) ∙ length_ends c.p ds (turn c t.inputs i).retired in
          omega (arith, all);
    }

-- a claim comes between two such inputs
pub again_listed : (c : AcqConfig) (t : Trace) (bytes : List ℕ) (block : ℕ) (part : Part) → asked_by (turn c t.inputs (datagram bytes)).need ≡ Some block → HeardAgain c t bytes part → IsListed c t part
again_listed c t bytes block part asks h = subst (IsListed c t) (sym h.is) (record {
  count = length firsts + (1 + length seconds);
  ends = subst (λ l. Ends t.entries l (length firsts + (1 + length seconds))) (sym are)
      (ends_behind t.entries (entries_of acquirer h.first) (entries_of acquirer h.claims ++ entries_of acquirer h.second) (length firsts) (1 + length seconds)
      (fills_yield t.mode firsts h.first t.entries h.displaced)
      (claim_ends t.mode h.claim h.claims seconds h.second (t.entries ++ entries_of acquirer h.first) h.got h.filled));
  left = left;
})
  where
    heard : Input
    heard = datagram bytes

    outcome_is : Input
    outcome_is = claimed (outcome (board t) (place_of h.claim))

    start : State
    start = After c t.inputs

    mid : State
    mid = (step c start heard).after

    late : State
    late = (step c mid outcome_is).after

    firsts : List Retired
    firsts = retired_by c t.inputs heard

    seconds : List Retired
    seconds = retired_by c (t.inputs ++ heard ∷ outcome_is ∷ []) heard

    are : entries_of acquirer (h.first ++ (h.claims ++ h.second)) ≡ entries_of acquirer h.first ++ (entries_of acquirer h.claims ++ entries_of acquirer h.second)
    are = entries-append acquirer h.first (h.claims ++ h.second) ∙ ap (λ l. entries_of acquirer h.first ++ l) (entries-append acquirer h.claims h.second)

    same : seconds ≡ fills c.p (step c late heard).retired
    same = ap (λ s. fills c.p (step c s heard).retired) (after_from-append c first_state t.inputs (heard ∷ outcome_is ∷ []))

    left : (ds : List (List Item)) → length (left_by c ds start (heard ∷ outcome_is ∷ heard ∷ [])) ≡ length ds - (length firsts + (1 + length seconds))
    left ds =
        let one : List (List Item) = after_ends ds (step c start heard).retired in
        let two : List (List Item) = after_claim one mid.asked in
        let taken : two ≡ rest_dropped one = ap (after_claim one) (claims_follow_buffer c start heard ∙ asks) in
        let a : length one ≡ length ds - length firsts = length_ends c.p ds (step c start heard).retired in
        let b : length two ≡ length one - 1 = ap length taken ∙ length_rest one in
        let d : length (after_ends two (step c late heard).retired) ≡ length two - length (fills c.p (step c late heard).retired) = length_ends c.p two (step c late heard).retired in
        let e : length seconds ≡ length (fills c.p (step c late heard).retired) = ap length same in
        let all : length (after_ends two (step c late heard).retired) ≡ length ds - (length firsts + (1 + length seconds)) = omega (arith, a, b, d, e) in
        all
