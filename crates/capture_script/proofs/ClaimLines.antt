-- A datagram that asks for a buffer, in a captured script.
use Rattle.std.proofs.Common.{length, ◌≡◌, ℕ, ◌+◌, ◌<◌, false, List, [], ◌∷◌, ◌++◌, map, refl, sym, ap, subst, ◌∙◌, arith}
use Rattle.std.specs.Prelude.{Option, Some, Ok}
use Rattle.std.specs.List.{AllByRecursion}
use Rattle.hex.specs.Hex.{decode_of, encode_lower}
use Rattle.gev_script.specs.Lines as line
use Rattle.board_machine.specs.declared.events.Entry.{Entry}
use Rattle.board_machine.specs.declared.events.Event.{Event}
use Rattle.board_machine.specs.declared.events.Event.TheVariants.{Claim}
use Rattle.board_machine.specs.Places.{same, times, put_all}
use Rattle.board_machine.specs.Machine.{Board, Item, places, word_at}
use Rattle.board_machine.specs.Adding.{entries_of}
use Rattle.board_machine.proofs.Adding.{entries_of-append}
use Rattle.board_machine.proofs.Places.{times-append, same_self}
use Rattle.acquisition_machine.specs.declared.retired.Retired.{Retired}
use Rattle.acquisition_machine.specs.Blocks.{Given}
use Rattle.acquisition_machine.specs.Machine.{Input, datagram, claimed, State, step}
use Rattle.acquisition_machine.specs.Runs.{first_state}
use Rattle.acquisition_machine.specs.TurnLaws.{asked_by, given_of}
use Rattle.acquisition_machine.proofs.Joining.{after_from-append}
use Rattle.acquisition_machine.proofs.Counting.{claims_follow_buffer}
use Rattle.acquisition_machine.proofs.Order.{all_append}
use Rattle.block_fills.specs.Fills.{item_of}
use Rattle.block_fills.proofs.Tries.{items-append}
use Rattle.board_calls.specs.declared.mode.Mode.{Mode}
use Rattle.board_calls.specs.declared.mode.Mode.TheVariants.{OldestFirst}
use Rattle.board_calls.specs.Modes.{ClaimsFor}
use Rattle.script_trace.specs.Trace.{Trace, Part, board, acquirer}
use Rattle.script_trace.specs.Modes.{FillsInMode}
use Rattle.script_trace.specs.StreamLines.{retired_by, outcome, told_twice, HeardAgain, HearsIfRunning, Hears}
use Rattle.script_trace.specs.Adding.{Spells}
use Rattle.capture_script.specs.Playing.{config}
use Rattle.capture_script.specs.Script.{taking}
use Rattle.capture_script.proofs.Desk.{desk, uses, Done, done_both, done_to, is_sized, claim_done, desk_middle, IsFull}
use Rattle.capture_script.proofs.Holding.{held_places, places_in, places_in-append, IsLive, Live, came_back, settled_datagram, HoldsMore, one_given}
use Rattle.capture_script.proofs.Stages.{IsRecorded, Stage, Goes, adds, one_line, goes_both}
use Rattle.capture_script.proofs.StageLines.{fill_events, fills_recorded, Rests, taking_goes}
use Rattle.capture_script.proofs.TurnLines.{state_of, places-items, mode_fills, fills_back, running}

-- ---- the claim

-- the outcome of a claim that finds the buffer at this place
abbrev pub outcome_at : (pp ss : ℕ) → ℕ → Option Given
outcome_at pp ss p = Some (record { place = p; size = ss })

-- what the claim leaves
record Claims (pp ss : ℕ) (p : ℕ) (out : List Item) (qs : List ℕ) (s new : State) : Type 0 where
  live : Live pp ss new
  done : Done (desk pp ss 1 (held_places s) out (p ∷ qs)) (entries_of acquirer (Claim (Some p) ∷ [])) (desk pp ss 1 (held_places new) out qs)
  counts : (k : ℕ) → times k (held_places new) ≡ times k (held_places s) + same k p

claim_leaves : (pp ss : ℕ) → (p b : ℕ) (out : List Item) (qs : List ℕ) (s : State) → Live pp ss s → p < 5 → times p (held_places s) ≡ 0 → s.asked ≡ Some b
    → Claims pp ss p out qs s (step (config pp) s (claimed (outcome_at pp ss p))).after
claim_leaves pp ss p b out qs s live low free asked =
    let more : HoldsMore pp ss p s (step (config pp) s (claimed (outcome_at pp ss p))).after = one_given pp ss p b s live low free asked in
    let new : State = (step (config pp) s (claimed (outcome_at pp ss p))).after in
    record {
      live = more.live;
      done = done_to (desk pp ss 1 (held_places s) out (p ∷ qs)) (desk pp ss 1 (p ∷ held_places s) out qs) (desk pp ss 1 (held_places new) out qs)
          (entries_of acquirer (Claim (Some p) ∷ [])) (claim_done pp ss 1 p (held_places s) out qs)
          (ap (λ h. desk pp ss 1 (p ∷ h) out qs) more.were ∙ (desk_middle pp ss 1 p more.front more.back out qs ∙ ap (λ h. desk pp ss 1 h out qs) (sym more.are)));
      counts = λ k. more_counts k (held_places s) (held_places new) more.front more.back more.were more.are;
    }
  where
    more_counts : (k : ℕ) (were are front back : List ℕ) → were ≡ front ++ back → are ≡ front ++ p ∷ back → times k are ≡ times k were + same k p
    more_counts k were are front back w a =
        let x : times k were ≡ times k front + times k back = ap (times k) w ∙ times-append k front back in
        let y : times k are ≡ times k front + (same k p + times k back) = ap (times k) a ∙ times-append k front (p ∷ back) in
        omega (arith, x, y)

-- ---- the line

-- the entries: what gave its place is filled, a place is claimed, and what retires then is filled
abbrev asking : List Retired → ℕ → List Retired → List Event
asking xs p ys = fill_events xs ++ (Claim (Some p) ∷ [] ++ fill_events ys)

asking_parts : (xs : List Retired) (p : ℕ) (ys : List Retired)
    → entries_of acquirer (asking xs p ys)
    ≡ entries_of acquirer (fill_events xs) ++ (entries_of acquirer (Claim (Some p) ∷ []) ++ entries_of acquirer (fill_events ys))
asking_parts xs p ys = entries_of-append acquirer (fill_events xs) (Claim (Some p) ∷ [] ++ fill_events ys)

outcome_is : (pp ss : ℕ) → (t : Trace) (p : ℕ) (his pool : List ℕ) → Stage pp ss t 1 his [] pool → p < 5 → outcome (board t) (Some p) ≡ outcome_at pp ss p
outcome_is pp ss t p his pool s low =
    ap (λ (b : Board). Some (record { place = p; size = (word_at b p).size })) s.is
    ∙ ap (λ (n : ℕ). Some (record { place = p; size = n })) (is_sized pp ss 1 (λ i. uses his [] pool i) [] pool (put_all his []) p low)

claims_for : (m : Mode) (p : ℕ) → m ≡ OldestFirst → ClaimsFor m (Some (p, false)) (Claim (Some p) ∷ [])
claims_for m p e = subst (λ n. ClaimsFor n (Some (p, false)) (Claim (Some p) ∷ [])) (sym e) refl

-- the states on the way
abbrev pub asked_state : (pp ss : ℕ) → State → List ℕ → State
asked_state pp ss s bytes = (step (config pp) s (datagram bytes)).after

abbrev pub given_state : (pp ss : ℕ) → State → List ℕ → ℕ → State
given_state pp ss s bytes p = (step (config pp) (asked_state pp ss s bytes) (claimed (outcome_at pp ss p))).after

abbrev pub twice : List ℕ → Option Given → List Input
twice bytes given = datagram bytes ∷ claimed given ∷ datagram bytes ∷ []

-- what is retired when the datagram is told again
again_is : (pp ss : ℕ) → (t : Trace) (bytes : List ℕ) (p : ℕ) (his pool : List ℕ) → Stage pp ss t 1 his [] pool → p < 5
    → retired_by (config pp) (t.inputs ++ datagram bytes ∷ claimed (outcome (board t) (Some p)) ∷ []) (datagram bytes)
    ≡ came_back pp ss (given_state pp ss (state_of pp ss t) bytes p) (datagram bytes)
again_is pp ss t bytes p his pool s low =
    ap (λ u. came_back pp ss u (datagram bytes))
    (after_from-append (config pp) first_state t.inputs (datagram bytes ∷ claimed (outcome (board t) (Some p)) ∷ [])
    ∙ ap (λ o. (step (config pp) (asked_state pp ss (state_of pp ss t) bytes) (claimed o)).after) (outcome_is pp ss t p his pool s low))

heard_again : (pp ss : ℕ) → (t : Trace) (bytes : List ℕ) (p : ℕ) (his pool : List ℕ) → Stage pp ss t 1 his [] pool → p < 5
    → HeardAgain (config pp) t bytes
    (adds t (entries_of acquirer (asking (came_back pp ss (state_of pp ss t) (datagram bytes)) p (came_back pp ss (given_state pp ss (state_of pp ss t) bytes p) (datagram bytes))))
    (told_twice t bytes (Some p)) [])
heard_again pp ss t bytes p his pool s low =
    let ys : List Retired = came_back pp ss (given_state pp ss (state_of pp ss t) bytes p) (datagram bytes) in
    record {
      first = fill_events (came_back pp ss (state_of pp ss t) (datagram bytes));
      claim = Some (p, false);
      claims = Claim (Some p) ∷ [];
      second = fill_events ys;
      displaced = mode_fills t.mode (came_back pp ss (state_of pp ss t) (datagram bytes)) s.mode;
      got = claims_for t.mode p s.mode;
      filled = subst (λ xs. FillsInMode t.mode xs (fill_events ys)) (sym (again_is pp ss t bytes p his pool s low)) (mode_fills t.mode ys s.mode);
      is = refl;
    }

given-append : (xs ys : List Retired) → map given_of (xs ++ ys) ≡ map given_of xs ++ map given_of ys
given-append [] ys = refl
given-append (x ∷ xs) ys = ap (λ l. given_of x ∷ l) (given-append xs ys)

-- The datagram is told, with the outcome of the claim, and once more. A buffer waits, since four blocks at most hold
-- one.
pub asks_goes : (pp ss : ℕ) → (t : Trace) (bytes : List ℕ) (p b : ℕ) (qs : List ℕ) → Stage pp ss t 1 (held_places (state_of pp ss t)) [] (p ∷ qs) → IsFull (held_places (state_of pp ss t)) (p ∷ qs) → Live pp ss (state_of pp ss t)
    → decode_of (encode_lower bytes) ≡ Ok bytes → asked_by (step (config pp) (state_of pp ss t) (datagram bytes)).need ≡ Some b
    → Rests pp ss t
    (line.datagram (encode_lower bytes) ∷ taking (length (came_back pp ss (state_of pp ss t) (datagram bytes) ++ came_back pp ss (given_state pp ss (state_of pp ss t) bytes p) (datagram bytes))))
    (twice bytes (outcome_at pp ss p)) 1 (held_places (asked_state pp ss (given_state pp ss (state_of pp ss t) bytes p) bytes))
asks_goes pp ss t bytes p b qs stage full live decoded asked =
    let s : State = state_of pp ss t in
    let low : p < 5 = full.low.0 in
    let d : Input = datagram bytes in
    let xs : List Retired = came_back pp ss s d in
    let s1 : State = asked_state pp ss s bytes in
    let s2 : State = given_state pp ss s bytes p in
    let ys : List Retired = came_back pp ss s2 d in
    let his : List ℕ = held_places (asked_state pp ss s2 bytes) in
    let first = settled_datagram pp ss s bytes live in
    let gone : List ℕ = places_in (map given_of xs) in
    let split : (k : ℕ) → times k (held_places s) ≡ times k gone + times k (held_places s1) =
    λ k. ap (times k) first.places ∙ times-append k gone (held_places s1) in
    let free1 : times p (held_places s1) ≡ 0 = (let e = split p in let f = full.each p low in let g = same_self p in omega (arith, e, f, g)) in
    let wants : s1.asked ≡ Some b = claims_follow_buffer (config pp) s d ∙ asked in
    let claiming = claim_leaves pp ss p b (map item_of xs) qs s1 first.live low free1 wants in
    let second = settled_datagram pp ss s2 bytes claiming.live in
    let out : List Item = map item_of xs ++ map item_of ys in
    let es : List Entry = entries_of acquirer (asking xs p ys) in
    let one : List Entry = entries_of acquirer (fill_events xs) in
    let two : List Entry = entries_of acquirer (Claim (Some p) ∷ []) in
    let three : List Entry = entries_of acquirer (fill_events ys) in
    let all_done : Done (desk pp ss 1 (held_places s) [] (p ∷ qs)) (one ++ (two ++ three)) (desk pp ss 1 his out qs) =
    done_both (desk pp ss 1 (held_places s) [] (p ∷ qs)) (desk pp ss 1 (held_places s1) (map item_of xs) (p ∷ qs)) (desk pp ss 1 his out qs) one (two ++ three)
    (fills_back pp ss 1 s d [] (p ∷ qs) first)
    (done_both (desk pp ss 1 (held_places s1) (map item_of xs) (p ∷ qs)) (desk pp ss 1 (held_places s2) (map item_of xs) qs) (desk pp ss 1 his out qs) two three
    claiming.done (fills_back pp ss 1 s2 d (map item_of xs) qs second)) in
    let parts : es ≡ one ++ (two ++ three) = asking_parts xs p ys in
    let done : Done (desk pp ss 1 (held_places s) [] (p ∷ qs)) es (desk pp ss 1 his out qs) =
    subst (λ l. Done (desk pp ss 1 (held_places s) [] (p ∷ qs)) l (desk pp ss 1 his out qs)) (sym parts) all_done in
    let recorded : AllByRecursion IsRecorded es =
    subst (λ l. AllByRecursion IsRecorded l) (sym parts)
    (all_append IsRecorded one (two ++ three) (fills_recorded xs) (all_append IsRecorded two three (tt, tt) (fills_recorded ys))) in
    let told : List Input = told_twice t bytes (Some p) in
    let part : Part = adds t es told [] in
    let spells : Spells (config pp) t (line.datagram (encode_lower bytes)) part = (
      bytes,
      decoded,
      subst (λ v. HearsIfRunning (config pp) t bytes v part) (sym (running pp ss t (held_places s) [] (p ∷ qs) stage))
          (subst (λ a. Hears (config pp) t bytes a part) (sym asked) (heard_again pp ss t bytes p (held_places s) (p ∷ qs) stage low)),
    ) in
    let same_told : told ≡ twice bytes (outcome_at pp ss p) = ap (twice bytes) (outcome_is pp ss t p (held_places s) (p ∷ qs) stage low) in
    let led : Goes pp ss t (line.datagram (encode_lower bytes) ∷ []) (twice bytes (outcome_at pp ss p)) 1 his (map item_of (xs ++ ys)) qs =
    subst (λ o. Goes pp ss t (line.datagram (encode_lower bytes) ∷ []) (twice bytes (outcome_at pp ss p)) 1 his o qs) (sym (items-append xs ys))
    (subst (λ q. Goes pp ss t (line.datagram (encode_lower bytes) ∷ []) q 1 his out qs) same_told
    (one_line pp ss t (line.datagram (encode_lower bytes)) es told [] 1 1 his (held_places s) out [] qs (p ∷ qs) stage spells done recorded)) in
    let each : (k : ℕ) → k < 5 → uses his (map item_of (xs ++ ys)) qs k ≡ 1 =
    λ k small. (let waits : times k (places (map item_of (xs ++ ys))) ≡ times k gone + times k (places_in (map given_of ys)) =
    ap (times k) (places-items (xs ++ ys) ∙ ap places_in (given-append xs ys) ∙ places_in-append (map given_of xs) (map given_of ys))
    ∙ times-append k gone (places_in (map given_of ys)) in
    let last : times k (held_places s2) ≡ times k (places_in (map given_of ys)) + times k his = ap (times k) second.places ∙ times-append k (places_in (map given_of ys)) his in
    let c = claiming.counts k in let f = full.each k small in let e = split k in
    omega (arith, waits, last, c, f, e)) in
    let rest = taking_goes pp ss led.to 1 (xs ++ ys) his qs led.stage
    (subst (λ l. AllByRecursion (IsLive pp ss) l) (sym (given-append xs ys)) (all_append (IsLive pp ss) (map given_of xs) (map given_of ys) first.back second.back)) full.low.1 each in
    record {
      pool = rest.pool;
      goes = goes_both pp ss t (line.datagram (encode_lower bytes) ∷ []) (taking (length (xs ++ ys))) (twice bytes (outcome_at pp ss p)) [] 1 1 his his [] (map item_of (xs ++ ys)) rest.pool qs led rest.goes;
      full = rest.full;
    }

-- no two blocks share a place after that
pub asks_live : (pp ss : ℕ) → (s : State) (bytes : List ℕ) (p b : ℕ) → Live pp ss s → p < 5 → times p (held_places s) ≡ 0
    → asked_by (step (config pp) s (datagram bytes)).need ≡ Some b → Live pp ss (asked_state pp ss (given_state pp ss s bytes p) bytes)
asks_live pp ss s bytes p b live low free asked =
    let first = settled_datagram pp ss s bytes live in
    let gone : List ℕ = places_in (map given_of (came_back pp ss s (datagram bytes))) in
    let mid : List ℕ = held_places (asked_state pp ss s bytes) in
    let split : times p (held_places s) ≡ times p gone + times p mid = ap (times p) first.places ∙ times-append p gone mid in
    let free1 : times p mid ≡ 0 = omega (arith, split, free) in
    let wants : (asked_state pp ss s bytes).asked ≡ Some b = claims_follow_buffer (config pp) s (datagram bytes) ∙ asked in
    let claiming = claim_leaves pp ss p b [] [] (asked_state pp ss s bytes) first.live low free1 wants in
    (settled_datagram pp ss (given_state pp ss s bytes p) bytes claiming.live).live
