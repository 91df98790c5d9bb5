-- A datagram that asks for a buffer, in the script of a recorded run.
use Rattle.std.proofs.Common.{◌≡◌, ◌≢◌, ◌⊎◌, inl, inr, ℕ, ◌+◌, ◌<◌, ◌≤◌, Bool, true, false, List, [], ◌∷◌, ◌++◌, map, refl, sym, ap, subst, ◌∙◌, arith, append-nil, ap₂}
use Rattle.std.specs.Prelude.{Option, Some, None, Ok}
use Rattle.std.specs.List.{AllByRecursion}
use Rattle.std.proofs.lemmas.Bool.{cases_eq}
use Rattle.hex.specs.Hex.{decode_of, encode_lower}
use Rattle.gev_script.specs.Lines as line
use Rattle.board_machine.specs.declared.events.Entry.{Entry}
use Rattle.board_machine.specs.declared.events.Event.{Event}
use Rattle.board_machine.specs.declared.events.Event.TheVariants.{Claim}
use Rattle.board_machine.specs.Places.{same, times, put_all}
use Rattle.board_machine.specs.Machine.{Board, Item, places, word_at}
use Rattle.board_machine.specs.Adding.{entries_of}
use Rattle.board_machine.specs.Handout.{removed}
use Rattle.board_machine.proofs.Handed.{removed-append}
use Rattle.board_machine.proofs.Adding.{entries_of-append}
use Rattle.board_machine.proofs.Places.{times-append, same_other, same_le}
use Rattle.acquisition_machine.specs.declared.retired.Retired.{Retired}
use Rattle.acquisition_machine.specs.Blocks.{Given, Retirement, fills}
use Rattle.acquisition_machine.specs.Machine.{Input, datagram, claimed, State, step}
use Rattle.acquisition_machine.specs.Runs.{first_state}
use Rattle.acquisition_machine.specs.TurnLaws.{asked_by, given_of}
use Rattle.acquisition_machine.proofs.Joining.{after_from-append}
use Rattle.acquisition_machine.proofs.Counting.{claims_follow_buffer}
use Rattle.acquisition_machine.proofs.Order.{all_append}
use Rattle.block_fills.specs.Fills.{item_of}
use Rattle.block_fills.proofs.Tries.{items-append, fills-append}
use Rattle.board_calls.specs.declared.mode.Mode.{Mode}
use Rattle.board_calls.specs.declared.mode.Mode.TheVariants.{OldestFirst}
use Rattle.board_calls.specs.Modes.{ClaimsFor}
use Rattle.script_trace.specs.Trace.{Trace, Part, board, acquirer}
use Rattle.script_trace.specs.Modes.{FillsInMode, place_of}
use Rattle.script_trace.specs.StreamLines.{retired_by, outcome, told_twice, HeardAgain, HearsIfRunning, Hears}
use Rattle.script_trace.specs.Adding.{Spells}
use Rattle.gev_record.specs.Script.{live_config, held_places, told_outcome, takes}
use Rattle.gev_record.proofs.Desk.{desk, uses, Done, done_both, done_to, is_sized, claim_done, claims_none, desk_middle}
use Rattle.gev_record.proofs.Holding.{places_in, places_in-append, IsLive, Live, came_back, settled_datagram, HoldsMore, none_given, one_given}
use Rattle.gev_record.proofs.Stages.{IsRecorded, Stage, Goes, adds, one_line, goes_both}
use Rattle.gev_record.proofs.Saying.{says_nothing, tells_quiet}
use Rattle.gev_record.proofs.StageLines.{fill_events, fills_remove, fills_recorded, takes_go}
use Rattle.gev_record.proofs.TurnLines.{state_of, places-items, take_each, mode_fills, fills_back, running}

-- ---- the claim

-- the place that was queued, where one was
abbrev pub pool_of : Bool → ℕ → List ℕ
pool_of false p = []
pool_of true p = p ∷ []

abbrev got_of : Bool → ℕ → Option (ℕ × Bool)
got_of false p = None
got_of true p = Some (p, false)

abbrev claim_of : Bool → ℕ → Option ℕ
claim_of false p = None
claim_of true p = Some p

-- what the claim leaves
record Claims (claim : Bool) (p : ℕ) (out : List Item) (s new : State) : Type 0 where
  live : Live new
  done : Done (desk 1 (held_places s) out (pool_of claim p)) (entries_of acquirer (Claim (claim_of claim p) ∷ [])) (desk 1 (held_places new) out [])
  counts : (k n : ℕ) → n + times k (held_places s) ≤ 1 → (k ≡ p → n + times k (held_places s) ≡ 0) → n + times k (held_places new) ≤ 1

claims : (claim : Bool) (p b : ℕ) (out : List Item) (s : State) → Live s → p < 3 → times p (held_places s) ≡ 0 → s.asked ≡ Some b
    → Claims claim p out s (step live_config s (claimed (told_outcome claim p))).after
claims false p b out s live low free asked =
    let n = none_given s live in
    let new : State = (step live_config s (claimed None)).after in
    record {
      live = n.0;
      done = subst (λ h. Done (desk 1 (held_places s) out []) (entries_of acquirer (Claim None ∷ [])) (desk 1 h out [])) (sym n.1) (claims_none 1 (held_places s) out);
      counts = λ k m few none. subst (λ h. m + times k h ≤ 1) (sym n.1) few;
    }
claims true p b out s live low free asked =
    let more : HoldsMore p s (step live_config s (claimed (told_outcome true p))).after = one_given p b s live low free asked in
    let new : State = (step live_config s (claimed (told_outcome true p))).after in
    record {
      live = more.live;
      done = done_to (desk 1 (held_places s) out (p ∷ [])) (desk 1 (p ∷ held_places s) out []) (desk 1 (held_places new) out [])
          (entries_of acquirer (Claim (Some p) ∷ [])) (claim_done 1 p (held_places s) out)
          (ap (λ h. desk 1 (p ∷ h) out []) more.were ∙ (desk_middle 1 p more.front more.back out [] ∙ ap (λ h. desk 1 h out []) (sym more.are)));
      counts = λ k m few none. more_counts k m (held_places s) (held_places new) more.front more.back more.were more.are few none;
    }
  where
    more_counts : (k m : ℕ) (were are front back : List ℕ) → were ≡ front ++ back → are ≡ front ++ p ∷ back → m + times k were ≤ 1 → (k ≡ p → m + times k were ≡ 0) → m + times k are ≤ 1
    more_counts k m were are front back w a few none =
        let x : times k were ≡ times k front + times k back = ap (times k) w ∙ times-append k front back in
        let y : times k are ≡ times k front + (same k p + times k back) = ap (times k) a ∙ times-append k front (p ∷ back) in
        go (cases_eq k p) x y where
          go : (k ≡ p) ⊎ (k ≢ p) → times k were ≡ times k front + times k back → times k are ≡ times k front + (same k p + times k back) → m + times k are ≤ 1
          go (inl e) x y = let z = none e in let l = same_le k p in omega (arith, x, y, z, l)
          go (inr apart) x y = let z = same_other k p apart in omega (arith, x, y, z, few)

-- ---- the line

-- the entries: what gave its place is filled, a place is claimed, and what retires then is filled
abbrev asking : List Retired → Bool → ℕ → List Retired → List Event
asking xs claim p ys = fill_events xs ++ (Claim (claim_of claim p) ∷ [] ++ fill_events ys)

asking_parts : (xs : List Retired) (claim : Bool) (p : ℕ) (ys : List Retired)
    → entries_of acquirer (asking xs claim p ys)
    ≡ entries_of acquirer (fill_events xs) ++ (entries_of acquirer (Claim (claim_of claim p) ∷ []) ++ entries_of acquirer (fill_events ys))
asking_parts xs claim p ys = entries_of-append acquirer (fill_events xs) (Claim (claim_of claim p) ∷ [] ++ fill_events ys)

outcome_is : (t : Trace) (claim : Bool) (p : ℕ) (his : List ℕ) (pool : List ℕ) → Stage t 1 his [] pool → p < 3 → outcome (board t) (place_of (got_of claim p)) ≡ told_outcome claim p
outcome_is t false p his pool s low = refl
outcome_is t true p his pool s low =
    ap (λ (b : Board). Some (record { place = p; size = (word_at b p).size })) s.is
    ∙ ap (λ (n : ℕ). Some (record { place = p; size = n })) (is_sized 1 (uses his [] pool 0) (uses his [] pool 1) (uses his [] pool 2) [] pool (put_all his []) p low)

claims_for : (m : Mode) (claim : Bool) (p : ℕ) → m ≡ OldestFirst → ClaimsFor m (got_of claim p) (Claim (claim_of claim p) ∷ [])
claims_for m claim p e = subst (λ n. ClaimsFor n (got_of claim p) (Claim (claim_of claim p) ∷ [])) (sym e) (go claim) where
  go : (claim : Bool) → ClaimsFor OldestFirst (got_of claim p) (Claim (claim_of claim p) ∷ [])
  go false = refl
  go true = refl

-- the states on the way
abbrev pub asked_state : State → List ℕ → State
asked_state s bytes = (step live_config s (datagram bytes)).after

abbrev pub given_state : State → List ℕ → Bool → ℕ → State
given_state s bytes claim p = (step live_config (asked_state s bytes) (claimed (told_outcome claim p))).after

abbrev pub twice : List ℕ → Option Given → List Input
twice bytes given = datagram bytes ∷ claimed given ∷ datagram bytes ∷ []

-- what is retired when the datagram is told again
again_is : (t : Trace) (bytes : List ℕ) (claim : Bool) (p : ℕ) (his : List ℕ) (pool : List ℕ) → Stage t 1 his [] pool → p < 3
    → retired_by live_config (t.inputs ++ datagram bytes ∷ claimed (outcome (board t) (place_of (got_of claim p))) ∷ []) (datagram bytes)
    ≡ came_back (given_state (state_of t) bytes claim p) (datagram bytes)
again_is t bytes claim p his pool s low =
    ap (λ u. came_back u (datagram bytes))
    (after_from-append live_config first_state t.inputs (datagram bytes ∷ claimed (outcome (board t) (place_of (got_of claim p))) ∷ [])
    ∙ ap (λ o. (step live_config (asked_state (state_of t) bytes) (claimed o)).after) (outcome_is t claim p his pool s low))

heard_again : (t : Trace) (bytes : List ℕ) (claim : Bool) (p : ℕ) (his : List ℕ) (pool : List ℕ) → Stage t 1 his [] pool → p < 3
    → HeardAgain live_config t bytes
    (adds t (entries_of acquirer (asking (came_back (state_of t) (datagram bytes)) claim p (came_back (given_state (state_of t) bytes claim p) (datagram bytes))))
    (told_twice t bytes (place_of (got_of claim p))) [])
heard_again t bytes claim p his pool s low =
    let ys : List Retired = came_back (given_state (state_of t) bytes claim p) (datagram bytes) in
    record {
      first = fill_events (came_back (state_of t) (datagram bytes));
      claim = got_of claim p;
      claims = Claim (claim_of claim p) ∷ [];
      second = fill_events ys;
      displaced = mode_fills t.mode (came_back (state_of t) (datagram bytes)) s.mode;
      got = claims_for t.mode claim p s.mode;
      filled = subst (λ xs. FillsInMode t.mode xs (fill_events ys)) (sym (again_is t bytes claim p his pool s low)) (mode_fills t.mode ys s.mode);
      is = refl;
    }

given-append : (xs ys : List Retired) → map given_of (xs ++ ys) ≡ map given_of xs ++ map given_of ys
given-append [] ys = refl
given-append (x ∷ xs) ys = ap (λ l. given_of x ∷ l) (given-append xs ys)

pub takes_three : (s : State) (bytes : List ℕ) (claim : Bool) (p : ℕ)
    → takes s (twice bytes (told_outcome claim p))
    ≡ take_each (came_back s (datagram bytes) ++ came_back (given_state s bytes claim p) (datagram bytes))
takes_three s bytes claim p =
    let rs : List Retirement = (step live_config s (datagram bytes)).retired in
    let qs : List Retirement = (step live_config (given_state s bytes claim p) (datagram bytes)).retired in
    ap (λ (l : List Retirement). take_each (fills live_config.p (rs ++ l))) (append-nil qs) ∙ ap take_each (fills-append live_config.p rs qs)

-- the datagram is told, with the outcome of the claim, and once more
pub asks_goes : (t : Trace) (bytes : List ℕ) (claim : Bool) (p b : ℕ) → Stage t 1 (held_places (state_of t)) [] (pool_of claim p) → Live (state_of t)
    → p < 3 → times p (held_places (state_of t)) ≡ 0
    → decode_of (encode_lower bytes) ≡ Ok bytes → asked_by (step live_config (state_of t) (datagram bytes)).need ≡ Some b
    → Goes t (line.datagram (encode_lower bytes) ∷ takes (state_of t) (twice bytes (told_outcome claim p))) (twice bytes (told_outcome claim p)) 1
    (held_places (asked_state (given_state (state_of t) bytes claim p) bytes)) [] []
asks_goes t bytes claim p b stage live low free decoded asked =
    let s : State = state_of t in
    let d : Input = datagram bytes in
    let xs : List Retired = came_back s d in
    let s1 : State = asked_state s bytes in
    let s2 : State = given_state s bytes claim p in
    let ys : List Retired = came_back s2 d in
    let his : List ℕ = held_places (asked_state s2 bytes) in
    let first = settled_datagram s bytes live in
    let gone : List ℕ = places_in (map given_of xs) in
    let split : (k : ℕ) → times k (held_places s) ≡ times k gone + times k (held_places s1) =
    λ k. ap (times k) first.places ∙ times-append k gone (held_places s1) in
    let free1 : times p (held_places s1) ≡ 0 = (let e = split p in omega (arith, e, free)) in
    let wants : s1.asked ≡ Some b = claims_follow_buffer live_config s d ∙ asked in
    let claiming = claims claim p b (map item_of xs) s1 first.live low free1 wants in
    let second = settled_datagram s2 bytes claiming.live in
    let out : List Item = map item_of xs ++ map item_of ys in
    let es : List Entry = entries_of acquirer (asking xs claim p ys) in
    let one : List Entry = entries_of acquirer (fill_events xs) in
    let two : List Entry = entries_of acquirer (Claim (claim_of claim p) ∷ []) in
    let three : List Entry = entries_of acquirer (fill_events ys) in
    let all_done : Done (desk 1 (held_places s) [] (pool_of claim p)) (one ++ (two ++ three)) (desk 1 his out []) =
    done_both (desk 1 (held_places s) [] (pool_of claim p)) (desk 1 (held_places s1) (map item_of xs) (pool_of claim p)) (desk 1 his out []) one (two ++ three)
    (fills_back 1 s d [] (pool_of claim p) first)
    (done_both (desk 1 (held_places s1) (map item_of xs) (pool_of claim p)) (desk 1 (held_places s2) (map item_of xs) []) (desk 1 his out []) two three
    claiming.done (fills_back 1 s2 d (map item_of xs) [] second)) in
    let parts : es ≡ one ++ (two ++ three) = asking_parts xs claim p ys in
    let done : Done (desk 1 (held_places s) [] (pool_of claim p)) es (desk 1 his out []) =
    subst (λ l. Done (desk 1 (held_places s) [] (pool_of claim p)) l (desk 1 his out [])) (sym parts) all_done in
    let recorded : AllByRecursion IsRecorded es =
    subst (λ l. AllByRecursion IsRecorded l) (sym parts)
    (all_append IsRecorded one (two ++ three) (fills_recorded xs) (all_append IsRecorded two three (tt, tt) (fills_recorded ys))) in
    let none_removed : removed es ≡ [] =
    ap removed parts ∙ (removed-append one (two ++ three) ∙ ap₂ (λ a b. a ++ b) (fills_remove xs) (removed-append two three ∙ ap (λ b. removed two ++ b) (fills_remove ys))) in
    let told : List Input = told_twice t bytes (place_of (got_of claim p)) in
    let part : Part = adds t es told [] in
    let spells : Spells live_config t (line.datagram (encode_lower bytes)) part = (
      bytes,
      decoded,
      subst (λ v. HearsIfRunning live_config t bytes v part) (sym (running t (held_places s) [] (pool_of claim p) stage))
          (subst (λ a. Hears live_config t bytes a part) (sym asked) (heard_again t bytes claim p (held_places s) (pool_of claim p) stage low)),
    ) in
    let same_told : told ≡ twice bytes (told_outcome claim p) = ap (twice bytes) (outcome_is t claim p (held_places s) (pool_of claim p) stage low) in
    let led : Goes t (line.datagram (encode_lower bytes) ∷ []) (twice bytes (told_outcome claim p)) 1 his (map item_of (xs ++ ys)) [] =
    subst (λ o. Goes t (line.datagram (encode_lower bytes) ∷ []) (twice bytes (told_outcome claim p)) 1 his o []) (sym (items-append xs ys))
    (subst (λ q. Goes t (line.datagram (encode_lower bytes) ∷ []) q 1 his out []) same_told
    (one_line t (line.datagram (encode_lower bytes)) es told [] 1 1 his (held_places s) out [] [] (pool_of claim p) stage spells done recorded
    (tells_quiet [] es [] none_removed says_nothing))) in
    let once : (k : ℕ) → uses his (map item_of (xs ++ ys)) [] k ≤ 1 =
    λ k. waits_once k xs ys (held_places s) (held_places s1) (held_places s2) his p (split k) (live.once k) free (claiming.counts k)
    (ap (times k) second.places ∙ times-append k (places_in (map given_of ys)) his) in
    let rest = takes_go led.to 1 (xs ++ ys) his led.stage
    (subst (λ l. AllByRecursion IsLive l) (sym (given-append xs ys)) (all_append IsLive (map given_of xs) (map given_of ys) first.back second.back)) once in
    subst (λ ls. Goes t (line.datagram (encode_lower bytes) ∷ ls) (twice bytes (told_outcome claim p)) 1 his [] []) (sym (takes_three s bytes claim p))
    (goes_both t (line.datagram (encode_lower bytes) ∷ []) (take_each (xs ++ ys)) (twice bytes (told_outcome claim p)) [] 1 1 his his [] (map item_of (xs ++ ys)) [] [] led rest)
  where
    waits_once : (k : ℕ) (xs ys : List Retired) (were mid after his : List ℕ) (p : ℕ) → times k were ≡ times k (places_in (map given_of xs)) + times k mid
        → times k were ≤ 1 → times p were ≡ 0 → ((n : ℕ) → n + times k mid ≤ 1 → (k ≡ p → n + times k mid ≡ 0) → n + times k after ≤ 1)
        → times k after ≡ times k (places_in (map given_of ys)) + times k his → uses his (map item_of (xs ++ ys)) [] k ≤ 1
    waits_once k xs ys were mid after his p sum few free counts parts =
        let x : ℕ = times k (places_in (map given_of xs)) in
        let few1 : times k (places_in (map given_of xs)) + times k mid ≤ 1 = omega (arith, sum, few) in
        let none : k ≡ p → times k (places_in (map given_of xs)) + times k mid ≡ 0 =
        λ e. (let z : times k were ≡ 0 = subst (λ j. times j were ≡ 0) (sym e) free in omega (arith, sum, z)) in
        let bound = counts (times k (places_in (map given_of xs))) few1 none in
        let waits : times k (places (map item_of (xs ++ ys))) ≡ times k (places_in (map given_of xs)) + times k (places_in (map given_of ys)) =
        ap (times k) (places-items (xs ++ ys) ∙ ap places_in (given-append xs ys) ∙ places_in-append (map given_of xs) (map given_of ys))
        ∙ times-append k (places_in (map given_of xs)) (places_in (map given_of ys)) in
        omega (arith, bound, waits, parts)

-- no two blocks share a place after that
pub asks_live : (s : State) (bytes : List ℕ) (claim : Bool) (p b : ℕ) → Live s → p < 3 → times p (held_places s) ≡ 0
    → asked_by (step live_config s (datagram bytes)).need ≡ Some b → Live (asked_state (given_state s bytes claim p) bytes)
asks_live s bytes claim p b live low free asked =
    let first = settled_datagram s bytes live in
    let gone : List ℕ = places_in (map given_of (came_back s (datagram bytes))) in
    let mid : List ℕ = held_places (asked_state s bytes) in
    let split : times p (held_places s) ≡ times p gone + times p mid = ap (times p) first.places ∙ times-append p gone mid in
    let free1 : times p mid ≡ 0 = omega (arith, split, free) in
    let wants : (asked_state s bytes).asked ≡ Some b = claims_follow_buffer live_config s (datagram bytes) ∙ asked in
    let claiming = claims claim p b [] (asked_state s bytes) first.live low free1 wants in
    (settled_datagram (given_state s bytes claim p) bytes claiming.live).live
