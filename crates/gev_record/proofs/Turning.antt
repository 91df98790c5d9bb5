-- The turns of a tape, one after the other, and the text of the whole script.
use Rattle.std.proofs.Common.{◌≡◌, ℕ, zero, suc, ◌+◌, ◌<◌, ◌≤◌, List, [], ◌∷◌, ◌++◌, length, map, drop, get_or, refl, sym, ap, subst, ◌∙◌, arith, append_assoc, drop_of_length-le}
use Rattle.std.specs.Prelude.{Option, None, Result, Ok, Err, IfOk}
use Rattle.gev_script.specs.Lines as line
use Rattle.gev_script.specs.Lines.{ScriptLine}
use Rattle.acquisition_machine.specs.Machine.{Input, State}
use Rattle.acquisition_machine.specs.Runs.{first_state, After}
use Rattle.acquisition_machine.proofs.Joining.{after_from-append}
use Rattle.acquisition_machine.specs.declared.mark.Mark.{Mark}
use Rattle.acquisition_machine.specs.Turns.{Noted, buffer_size, with_bytes}
use Rattle.take_lines.specs.Players.{PlayerState, config_in, Took}
use Rattle.gev_record.specs.Script.{live_config, live_header, told_in, after_turn, after_turns, turn_lines, turns_lines, stop_lines, first_lines, script_of}
use Rattle.gev_record.specs.declared.record_end.RecordEnd.{RecordEnd}
use Rattle.gev_record.specs.declared.used.Used.{Used}
use Rattle.gev_record.specs.Standing.{StandsAt, StandsIn, none_used, turn_of}
use Rattle.gev_record.specs.Writing.{text_of, noted, Writes}
use Rattle.gev_record.proofs.Hearing.{Turns}
use Rattle.gev_record.proofs.Texts.{Leads, leads_start, leads_on, leads_stops, leads_end, writes_then, writes_stops}
use Rattle.take_lines.proofs.Texts.{text_of-append}

-- a receiver that heard nothing yet
pub started : {E : Type 0} (r : Result PlayerState E) → IfOk r (λ s. Took s []) → IfOk r (λ s. config_in s ≡ live_config) → IfOk r (λ s. s.size ≡ buffer_size)
    → IfOk r (λ s. StandsIn s none_used first_state)
started (Ok s) took config size = record {
  inputs = [];
  stands = record { took = took; config = config; size = size; used_is = refl; each = tt; once = λ i. omega arith };
  is = refl;
}
started (Err e) took config size = tt

-- a turn, from one state to the next
pub stands_on : (player player1 : PlayerState) (used used1 : Used) (n : Noted) (old new : List ℕ) → Turns player player1 used used1 n old new → (s : State) → StandsIn player used s → StandsIn player1 used1 (after_turn s n)
stands_on player player1 used used1 n old new turns s at = record {
  inputs = at.inputs ++ told_in (After live_config at.inputs) n;
  stands = turns.stands at.inputs at.stands;
  is = after_from-append live_config first_state at.inputs (told_in (After live_config at.inputs) n)
      ∙ ap (λ u. after_turn u n) at.is;
}

pub said_on : (player player1 : PlayerState) (used used1 : Used) (n : Noted) (old new : List ℕ) → Turns player player1 used used1 n old new → (s : State) → StandsIn player used s → new ≡ old ++ text_of (turn_lines s n)
said_on player player1 used used1 n old new turns s at = turns.said at.inputs at.stands ∙ ap (λ u. old ++ text_of (turn_lines u n)) at.is

-- the end, behind the stop
pub last_on : (player : PlayerState) (used : Used) (old mid new : List ℕ) → ((q : List Input) → StandsAt player used q → mid ≡ old ++ text_of (stop_lines (After live_config q)))
    → new ≡ mid ++ text_of (line.end_of_script ∷ []) → (s : State) → StandsIn player used s → new ≡ old ++ text_of (stop_lines s ++ line.end_of_script ∷ [])
last_on player used old mid new stops ends s at =
    ends
    ∙ (ap (λ t. t ++ text_of (line.end_of_script ∷ [])) (stops at.inputs at.stands ∙ ap (λ u. old ++ text_of (stop_lines u)) at.is)
    ∙ (append_assoc old (text_of (stop_lines s)) (text_of (line.end_of_script ∷ []))
    ∙ ap (λ t. old ++ t) (sym (text_of-append (stop_lines s) (line.end_of_script ∷ [])))))

-- ---- the turns that are left

abbrev pub all_turns : List (Option (List ℕ)) → List Mark → List Noted
all_turns kept marks = map with_bytes (noted kept marks)

pub turn_left : (i : ℕ) (kept : List (Option (List ℕ))) (marks : List Mark) (d : Mark) → i < length marks
    → drop i (all_turns kept marks) ≡ turn_of (get_or kept i None) (get_or marks i d) ∷ drop (i + 1) (all_turns kept marks)
turn_left i kept [] d low = absurd (omega arith)
turn_left zero [] (m ∷ ms) d low = refl
turn_left zero (k ∷ kept) (m ∷ ms) d low = refl
turn_left (suc i) [] (m ∷ ms) d low =
    let next : suc (i + 1) ≡ suc i + 1 = omega arith in
    subst (λ n. drop i (all_turns [] ms) ≡ turn_of None (get_or ms i d) ∷ drop n (all_turns [] (m ∷ ms))) next (turn_left i [] ms d (omega (arith, low)))
turn_left (suc i) (k ∷ kept) (m ∷ ms) d low =
    let next : suc (i + 1) ≡ suc i + 1 = omega arith in
    subst (λ n. drop i (all_turns kept ms) ≡ turn_of (get_or kept i None) (get_or ms i d) ∷ drop n (all_turns (k ∷ kept) (m ∷ ms))) next (turn_left i kept ms d (omega (arith, low)))

-- the same, with what the tape gives
pub turn_next : (i : ℕ) (kept : List (Option (List ℕ))) (marks : List Mark) (d : Mark) (r : Option (List ℕ)) → r ≡ get_or kept i None → i < length marks
    → drop i (all_turns kept marks) ≡ turn_of r (get_or marks i d) ∷ drop (i + 1) (all_turns kept marks)
turn_next i kept marks d r is low =
    turn_left i kept marks d low ∙ ap (λ (x : Option (List ℕ)). turn_of x (get_or marks i d) ∷ drop (i + 1) (all_turns kept marks)) (sym is)

length-turns : (kept : List (Option (List ℕ))) (marks : List Mark) → length (all_turns kept marks) ≡ length marks
length-turns kept [] = refl
length-turns [] (m ∷ ms) = ap suc (length-turns [] ms)
length-turns (k ∷ kept) (m ∷ ms) = ap suc (length-turns kept ms)

pub none_left : (i : ℕ) (kept : List (Option (List ℕ))) (marks : List Mark) → length marks ≤ i → drop i (all_turns kept marks) ≡ []
none_left i kept marks full = drop_of_length-le (all_turns kept marks) (let same = length-turns kept marks in omega (arith, same, full))

-- Some turns were written; from here the others lead to the same.
pub record IsTurning (player : PlayerState) (used : Used) (written written_now : Option (List ℕ)) (faults faults_now : ℕ) (s : State) (ns left : List Noted) : Type 0 where
  pub now : State
  pub stands : StandsIn player used now
  pub leads : Leads written written_now faults faults_now (text_of (turns_lines s ns)) (text_of (turns_lines now left))
  pub same : after_turns s ns ≡ after_turns now left

pub turning_begins : (player : PlayerState) (used : Used) (w : Option (List ℕ)) (f : ℕ) (s : State) (ns : List Noted) → StandsIn player used s → IsTurning player used w w f f s ns ns
turning_begins player used w f s ns at = record { now = s; stands = at; leads = leads_start w f (text_of (turns_lines s ns)); same = refl }

pub turning_goes_on : (player player1 : PlayerState) (used used1 : Used) (w v u : Option (List ℕ)) (f g h : ℕ) (s : State) (ns left rest : List Noted) (n : Noted) → left ≡ n ∷ rest
    → ((now : State) → StandsIn player used now → StandsIn player1 used1 (after_turn now n))
    → ((now : State) → StandsIn player used now → Writes (Ok tt) v u g h (text_of (turn_lines now n)))
    → IsTurning player used w v f g s ns left → IsTurning player1 used1 w u f h s ns rest
turning_goes_on player player1 used used1 w v u f g h s ns left rest n is stands writes t = record {
  now = after_turn t.now n;
  stands = stands t.now t.stands;
  leads = leads_on w v u f g h (text_of (turns_lines s ns)) (text_of (turns_lines t.now left)) (text_of (turn_lines t.now n)) (text_of (turns_lines (after_turn t.now n) rest)) t.leads
      (ap (λ l. text_of (turns_lines t.now l)) is ∙ text_of-append (turn_lines t.now n) (turns_lines (after_turn t.now n) rest)) (writes t.now t.stands);
  same = t.same ∙ ap (after_turns t.now) is;
}

pub turning_stops : (player : PlayerState) (used : Used) (w v u : Option (List ℕ)) (f g h : ℕ) (s : State) (ns left rest : List Noted) (n : Noted) (stop : RecordEnd) → left ≡ n ∷ rest
    → ((now : State) → StandsIn player used now → Writes (Err stop) v u g h (text_of (turn_lines now n)))
    → IsTurning player used w v f g s ns left → Writes (Err stop) w u f h (text_of (turns_lines s ns))
turning_stops player used w v u f g h s ns left rest n stop is writes t =
    leads_stops stop w v u f g h (text_of (turns_lines s ns)) (text_of (turns_lines t.now left)) (text_of (turn_lines t.now n)) (text_of (turns_lines (after_turn t.now n) rest)) t.leads
    (ap (λ l. text_of (turns_lines t.now l)) is ∙ text_of-append (turn_lines t.now n) (turns_lines (after_turn t.now n) rest)) (writes t.now t.stands)

pub turning_ends : (player : PlayerState) (used : Used) (w v : Option (List ℕ)) (f g : ℕ) (s : State) (ns left : List Noted) → left ≡ [] → IsTurning player used w v f g s ns left
    → Writes (Ok tt) w v f g (text_of (turns_lines s ns)) × StandsIn player used (after_turns s ns)
turning_ends player used w v f g s ns left none t = (
  leads_end w v f g (text_of (turns_lines s ns)) (text_of (turns_lines t.now left)) t.leads (ap (λ l. text_of (turns_lines t.now l)) none),
  subst (StandsIn player used) (sym (t.same ∙ ap (after_turns t.now) none)) t.stands,
)

-- ---- the whole script

abbrev pub head_text : List ℕ
head_text = text_of (line.header live_header ∷ first_lines)

pub script_parts : (ns : List Noted) → script_of ns
    ≡ head_text ++ (text_of (turns_lines first_state (map with_bytes ns)) ++ text_of (stop_lines (after_turns first_state (map with_bytes ns)) ++ line.end_of_script ∷ []))
script_parts ns =
    let turns : List ScriptLine = turns_lines first_state (map with_bytes ns) in
    let stops : List ScriptLine = stop_lines (after_turns first_state (map with_bytes ns)) in
    let end : List ScriptLine = line.end_of_script ∷ [] in
    let head : List ScriptLine = line.header live_header ∷ first_lines in
    ap text_of (append_assoc head (turns ++ stops) end ∙ ap (λ l. head ++ l) (append_assoc turns stops end))
    ∙ (text_of-append head (turns ++ (stops ++ end)) ∙ ap (λ t. head_text ++ t) (text_of-append turns (stops ++ end)))

pub script_stops_first : (stop : RecordEnd) (w v : Option (List ℕ)) (f g : ℕ) (ns : List Noted) → Writes (Err stop) w v f g head_text → Writes (Err stop) w v f g (script_of ns)
script_stops_first stop w v f g ns one =
    subst (Writes (Err stop) w v f g) (sym (script_parts ns))
    (writes_stops stop w v f g head_text
    (text_of (turns_lines first_state (map with_bytes ns)) ++ text_of (stop_lines (after_turns first_state (map with_bytes ns)) ++ line.end_of_script ∷ [])) one)

pub script_stops : (stop : RecordEnd) (w v u : Option (List ℕ)) (f g h : ℕ) (ns : List Noted) → Writes (Ok tt) w v f g head_text
    → Writes (Err stop) v u g h (text_of (turns_lines first_state (map with_bytes ns))) → Writes (Err stop) w u f h (script_of ns)
script_stops stop w v u f g h ns one two =
    let turns : List ℕ = text_of (turns_lines first_state (map with_bytes ns)) in
    let last : List ℕ = text_of (stop_lines (after_turns first_state (map with_bytes ns)) ++ line.end_of_script ∷ []) in
    subst (Writes (Err stop) w u f h) (sym (script_parts ns))
    (writes_then (Err stop) w v u f g h head_text (turns ++ last) one (writes_stops stop v u g h turns last two))

pub script_ends : (r : Result (Unit {0}) RecordEnd) (w v u t : Option (List ℕ)) (f g h k : ℕ) (ns : List Noted) → Writes (Ok tt) w v f g head_text
    → Writes (Ok tt) v u g h (text_of (turns_lines first_state (map with_bytes ns)))
    → Writes r u t h k (text_of (stop_lines (after_turns first_state (map with_bytes ns)) ++ line.end_of_script ∷ [])) → Writes r w t f k (script_of ns)
script_ends r w v u t f g h k ns one two three =
    let turns : List ℕ = text_of (turns_lines first_state (map with_bytes ns)) in
    let last : List ℕ = text_of (stop_lines (after_turns first_state (map with_bytes ns)) ++ line.end_of_script ∷ []) in
    subst (Writes r w t f k) (sym (script_parts ns))
    (writes_then r w v t f g k head_text (turns ++ last) one (writes_then r v u t g h k turns last two three))
