-- One step of the board is a `step` line.
use Rattle.std.proofs.Common.{◌≡◌, ◌≢◌, ◌⊎◌, ℕ, ◌<◌, ◌≤◌, nat_le, Bool, true, false, List, [], ◌∷◌, ◌++◌, length, set, Option, Some, Result, codes, refl, sym, ap, subst, ◌∙◌, inl, inr, arith}
use Rattle.gentl_types.specs.declared.word.Word.{Word}
use Rattle.gev_report.specs.declared.step_text.StepText.{StepText}
use Rattle.gev_report.specs.declared.step_text.StepText.TheVariants as said
use Rattle.gev_report.specs.StepLine.{step_line}
use Rattle.board_machine.specs.declared.events.Event.{Event}
use Rattle.board_machine.specs.declared.events.Event.TheVariants.{Grab, Claim, SweepPool, SweepOut, Close, Take, Fill}
use Rattle.board_machine.specs.declared.events.Entry.{Entry}
use Rattle.board_machine.specs.declared.events.TakeEnd.{TakeEnd}
use Rattle.board_machine.specs.declared.events.TakeEnd.TheVariants.{Taken}
use Rattle.board_machine.specs.Handout.{handed}
use Rattle.gev_types.specs.Filling.{Filling, empty_record}
use Rattle.gev_types.specs.declared.block_record.Record.{Record}
use Rattle.std.proofs.lemmas.List.{get_or-set_same}
use Rattle.gev_script.specs.declared.act.Act.{Act}
use Rattle.gev_script.specs.declared.act.Act.TheVariants as act
use Rattle.std.proofs.lemmas.Bool.{cases_eq}
use Rattle.board_machine.specs.Machine.{Board, word_at, hand, InHand}
use Rattle.board_machine.specs.Places.{times}
use Rattle.board_machine.specs.Adding.{AddsEntry, AddsOf, entries_of}
use Rattle.board_machine.proofs.Adding.{EndsNobody, adds_step}
use Rattle.board_model.specs.Plain.{PlainState, lying, nothing}
use Rattle.board_model.specs.Holdings.{emptied}
use Rattle.script_trace.specs.Trace.{Trace, Part, board, acts, acquirer}
use Rattle.script_trace.specs.StepLines.{GrabStep, StepInHand, ClaimStep, TakeStep, FillStep, SweepPoolStep, SweepOutStep, StepBy, is_in_hand, grab_text, claim_text, take_text, fill_text, steps}
use Rattle.script_trace.specs.Contents.{contents_of, contents_from, FillsFrom}
use Rattle.script_replay.specs.Steps.{word_of}
use Rattle.script_replay.specs.Boards.{LiesAsTold, IsLeftBy, IsReady}
use Rattle.script_replay.specs.Acquiring.{KeepsLifted, StepsBoard}
use Rattle.script_replay.proofs.Quiet.{IsQuiet, AreQuiet}
use Rattle.script_replay.proofs.Lines.{calm_acts, acts_by, ready_by, left_by, lies_after, stays_in_hand, quiet_ready, silent_as, acts_line}
use Rattle.script_replay.proofs.Places.{set_lies, set_apart, lies_within, length-set_at}
use Rattle.script_replay.proofs.Resting.{lifted_same, lifted_back}
use Rattle.script_replay.proofs.Flushed.{emptied_told, some_of}

pub stepper_apart : (k : ℕ) → k ≤ 4 → acquirer ≢ k
stepper_apart k low e = omega (arith, e, low)

-- a step that leaves alone what lies at the places, and hands nothing out
steps_by : (s new : PlainState) (k : ℕ) (e : Event) (Line : Trace → Part → Type 0) (a : Act) (plain text : StepText) → acquirer ≢ k → EndsNobody e → IsQuiet e → IsReady s → AddsEntry s.board k e new.board → new.contents ≡ s.contents
    → ((t : Trace) → IsLeftBy s t.entries → Line t (acts t k (e ∷ []) (step_line k (word_of a) plain))) → text ≡ plain → StepsBoard Line k 0 a text s new
steps_by s new k e Line a plain text apart nobody quiet ready step same spells says =
    let called = adds_step s.board new.board k e nobody step in
    record {
      acts = λ told is. calm_acts s new k (λ es. es ≡ e ∷ []) Line (step_line k (word_of a) plain) told apart called (subst AreQuiet (sym called.kind) (quiet, tt))
          (λ t left. subst (λ (es : List Event). Line t (acts t k es (step_line k (word_of a) plain))) (sym called.kind) (spells t left)) same (is ∙ ap (λ x. step_line k (word_of a) x) says);
      ready = quiet_ready s new k (λ es. es ≡ e ∷ []) apart (λ es is. subst AreQuiet (sym is) (quiet, tt)) ready called same;
      lifted = lifted_same s new same;
    }

pub grab_steps : (s new : PlainState) (k i generation : ℕ) (answer : Result (Unit {0}) Word) (text : StepText) → acquirer ≢ k → IsReady s → generation ≡ (word_at s.board i).generation → AddsEntry s.board k (Grab i generation answer) new.board → new.contents ≡ s.contents
    → text ≡ grab_text answer → StepsBoard (λ t. GrabStep t k i) k 0 act.Grab text s new
grab_steps s new k i generation answer text apart ready seen step same says =
    steps_by s new k (Grab i generation answer) (λ t. GrabStep t k i) act.Grab (grab_text answer) text apart (grab_nobody i generation answer) (grab_quiet i generation answer) ready step same
    (λ t left. (answer, ap (λ g. steps t k (Grab i g answer ∷ []) (codes "grab") (grab_text answer)) (seen ∙ ap (λ (b : Board). (word_at b i).generation) left.board.state))) says
  where
    grab_nobody : (j g : ℕ) (a : Result (Unit {0}) Word) → EndsNobody (Grab j g a)
    grab_nobody j g a = tt

    grab_quiet : (j g : ℕ) (a : Result (Unit {0}) Word) → IsQuiet (Grab j g a)
    grab_quiet j g a = tt

-- ---- acts on a place in hand

yes_in_hand : (n : ℕ) → 1 ≤ n → nat_le 1 n ≡ true
yes_in_hand n some = grind arith

no_in_hand : (n : ℕ) → (1 ≤ n → ⊥) → nat_le 1 n ≡ false
no_in_hand n nothing = grind arith

pub in_hand_steps : (s new : PlainState) (k i : ℕ) (e : Event) (a : Act) (text : StepText) → acquirer ≢ k → EndsNobody e → IsQuiet e → IsReady s → InHand s.board k i → AddsEntry s.board k e new.board → new.contents ≡ s.contents
    → text ≡ said.Done → StepsBoard (λ t. StepInHand t k e (word_of a) (is_in_hand (board t) k i)) k 0 a text s new
in_hand_steps s new k i e a text apart nobody quiet ready mine step same says =
    steps_by s new k e (λ t. StepInHand t k e (word_of a) (is_in_hand (board t) k i)) a said.Done text apart nobody quiet ready step same
    (λ t left. subst (λ (b : Bool). StepInHand t k e (word_of a) b (acts t k (e ∷ []) (step_line k (word_of a) said.Done)))
    (sym (ap (λ (b : Board). is_in_hand b k i) (sym left.board.state) ∙ yes_in_hand (times i (hand s.board k)) mine)) refl) says

pub not_held_steps : (s : PlainState) (k i : ℕ) (e : Event) (a : Act) → acquirer ≢ k → IsReady s → (InHand s.board k i → ⊥) → StepsBoard (λ t. StepInHand t k e (word_of a) (is_in_hand (board t) k i)) k 0 a said.NotHeld s s
not_held_steps s k i e a apart ready other = record {
  acts = λ told is t left. silent_as s k (λ t. StepInHand t k e (word_of a) (is_in_hand (board t) k i)) (step_line k (word_of a) said.NotHeld) told t apart
      (subst (λ (b : Bool). StepInHand t k e (word_of a) b (acts t k [] (step_line k (word_of a) said.NotHeld)))
      (sym (ap (λ (b : Board). is_in_hand b k i) (sym left.board.state) ∙ no_in_hand (times i (hand s.board k)) other)) refl) is left;
  ready = ready;
  lifted = lifted_same s s refl;
}

pub not_so : {P : Type 0} (b : Bool) → b ≡ false → (P → b ≡ true) → P → ⊥
not_so b fails holds p = let both : true ≡ false = sym (holds p) ∙ fails in absurd cc

-- ---- acts on the pool and on the output

pub claim_steps : (s new : PlainState) (k : ℕ) (answer : Option ℕ) (text : StepText) → acquirer ≢ k → IsReady s → AddsEntry s.board k (Claim answer) new.board → new.contents ≡ s.contents → text ≡ claim_text answer → StepsBoard (λ t. ClaimStep t k) k 0 act.Claim text s new
claim_steps s new k answer text apart ready step same says =
    steps_by s new k (Claim answer) (λ t. ClaimStep t k) act.Claim (claim_text answer) text apart tt tt ready step same (λ t left. (answer, refl)) says

pub sweep_pool_steps : (s new : PlainState) (k : ℕ) (pooled : List ℕ) (text : StepText) → acquirer ≢ k → IsReady s → AddsEntry s.board k (SweepPool pooled) new.board → new.contents ≡ s.contents → text ≡ said.Number (length pooled) → StepsBoard (λ t. SweepPoolStep t k) k 0 act.SweepPool text s new
sweep_pool_steps s new k pooled text apart ready step same says =
    steps_by s new k (SweepPool pooled) (λ t. SweepPoolStep t k) act.SweepPool (said.Number (length pooled)) text apart tt tt ready step same (λ t left. (pooled, refl)) says

pub sweep_out_steps : (s new : PlainState) (k : ℕ) (output : List ℕ) (text : StepText) → acquirer ≢ k → IsReady s → AddsEntry s.board k (SweepOut output) new.board → new.contents ≡ s.contents → text ≡ said.Number (length output) → StepsBoard (λ t. SweepOutStep t k) k 0 act.SweepOut text s new
sweep_out_steps s new k output text apart ready step same says =
    steps_by s new k (SweepOut output) (λ t. SweepOutStep t k) act.SweepOut (said.Number (length output)) text apart tt tt ready step same (λ t left. (output, refl)) says

pub close_steps : (s new : PlainState) (k : ℕ) → acquirer ≢ k → IsReady s → AddsEntry s.board k Close new.board → new.contents ≡ s.contents → StepsBoard (λ t. StepBy t k act.Close 0) k 0 act.Close said.Done s new
close_steps s new k apart ready step same = steps_by s new k Close (λ t. StepBy t k act.Close 0) act.Close said.Done said.Done apart tt tt ready step same (λ t left. refl) refl

-- a take that found nothing
pub none_taken_steps : (s new : PlainState) (k : ℕ) (answer : TakeEnd) (text : StepText) → acquirer ≢ k → IsQuiet (Take answer) → IsReady s → AddsEntry s.board k (Take answer) new.board → new.contents ≡ s.contents → text ≡ take_text answer → StepsBoard (λ t. TakeStep t k) k 0 act.Take text s new
none_taken_steps s new k answer text apart quiet ready step same says =
    steps_by s new k (Take answer) (λ t. TakeStep t k) act.Take (take_text answer) text apart tt quiet ready step same (λ t left. (answer, refl)) says

took_leaves : (s new : PlainState) (k place : ℕ) (h : List Entry) → acquirer ≢ k → (called : AddsOf s.board k (λ es. es ≡ Take (Taken place) ∷ []) new.board) → new.contents ≡ s.contents → IsLeftBy s h → IsLeftBy new (h ++ entries_of k called.events)
took_leaves s new k place h apart called same left =
    left_by s new k (λ es. es ≡ Take (Taken place) ∷ []) h called
    (λ i. subst (λ (es : List Event). LiesAsTold new.board new.contents (contents_from (contents_of h) (entries_of k es)) i) (sym called.kind)
    (subst (λ (c : List (Option Filling)). LiesAsTold new.board c (contents_of h) i) (sym same)
    (lies_after s new.board k (λ es. es ≡ Take (Taken place) ∷ []) (contents_of h) i apart called (left.lies i))))
    left

pub took_steps : (s new : PlainState) (k place : ℕ) (text : StepText) → acquirer ≢ k → IsReady s → AddsEntry s.board k (Take (Taken place)) new.board → new.contents ≡ s.contents → text ≡ said.Number place → StepsBoard (λ t. TakeStep t k) k 1 act.Take text s new
took_steps s new k place text apart ready step same says =
    let called = adds_step s.board new.board k (Take (Taken place)) tt step in
    record {
      acts = λ told is. acts_by s new k 1 (λ es. es ≡ Take (Taken place) ∷ []) (λ t. TakeStep t k) (step_line k (codes "take") (said.Number place)) told called
          (λ t left. subst (λ (es : List Event). TakeStep t k (acts t k es (step_line k (codes "take") (said.Number place)))) (sym called.kind) (Taken place, refl))
          (λ h left. subst (λ (es : List Event). FillsFrom (contents_of h) (entries_of k es)) (sym called.kind) (tt, tt))
          (ap (λ es. length (handed (entries_of k es))) called.kind) (λ h left. took_leaves s new k place h apart called same left) (is ∙ ap (λ x. step_line k (codes "take") x) says);
      ready = ready_by s new k (λ es. es ≡ Take (Taken place) ∷ []) ready called (λ h left. took_leaves s new k place h apart called same left);
      lifted = lifted_same s new same;
    }

-- ---- a fill

fill_lies : (s new : PlainState) (k i : ℕ) (f : Filling) (filled : Bool) (h : List Entry) → acquirer ≢ k → (called : AddsOf s.board k (λ es. es ≡ Fill i f filled ∷ []) new.board)
    → ((j : ℕ) → j ≢ i → lying new.contents j ≡ lying s.contents j) → lying new.contents i ≡ Some f → Some f ≡ emptied (lying s.contents i) → IsLeftBy s h → IsLeftBy new (h ++ entries_of k called.events)
fill_lies s new k i f filled h apart called others there was left = left_by s new k (λ es. es ≡ Fill i f filled ∷ []) h called lies left
  where
    told : Some f ≡ emptied (lying (contents_of h) i)
    told = emptied_told s.board s.contents (contents_of h) i f (left.lies i) was

    lies_at : (j : ℕ) → (j ≡ i) ⊎ (j ≢ i) → LiesAsTold s.board s.contents (contents_of h) j → LiesAsTold new.board new.contents (set (contents_of h) i (Some f)) j
    lies_at j (inl e) before =
        let some = some_of (lying (contents_of h) i) f told in
        inl (subst (λ n. lying new.contents n ≡ lying (set (contents_of h) i (Some f)) n) (sym e) (there ∙ sym (set_lies (contents_of h) i f some.0 some.1)))
    lies_at j (inr away) (inl e) = inl (others j away ∙ e ∙ sym (set_apart (contents_of h) i j (Some f) away))
    lies_at j (inr away) (inr lifted) = inr (others j away ∙ lifted.0, stays_in_hand s new.board k (λ es. es ≡ Fill i f filled ∷ []) j apart called lifted.1)

    lies : (j : ℕ) → LiesAsTold new.board new.contents (contents_from (contents_of h) (entries_of k called.events)) j
    lies j =
        subst (λ (es : List Event). LiesAsTold new.board new.contents (contents_from (contents_of h) (entries_of k es)) j) (sym called.kind)
        (lies_at j (cases_eq j i) (left.lies j))

fill_steps : (s new : PlainState) (k i : ℕ) (f : Filling) (filled : Bool) (text : StepText) → acquirer ≢ k → IsReady s → AddsEntry s.board k (Fill i f filled) new.board
    → ((j : ℕ) → j ≢ i → lying new.contents j ≡ lying s.contents j) → lying new.contents i ≡ Some f → Some f ≡ emptied (lying s.contents i)
    → KeepsLifted s new → text ≡ fill_text filled → StepsBoard (λ t. FillStep t k i true) k 0 act.Fill text s new
fill_steps s new k i f filled text apart ready step others there was lifted says =
    let called = adds_step s.board new.board k (Fill i f filled) tt step in
    record {
      acts = λ told is. acts_by s new k 0 (λ es. es ≡ Fill i f filled ∷ []) (λ t. FillStep t k i true) (step_line k (codes "fill") (fill_text filled)) told called
          (λ t left. subst (λ (es : List Event). FillStep t k i true (acts t k es (step_line k (codes "fill") (fill_text filled)))) (sym called.kind) (f, filled, refl))
          (λ h left. subst (λ (es : List Event). FillsFrom (contents_of h) (entries_of k es)) (sym called.kind) (inr (emptied_told s.board s.contents (contents_of h) i f (left.lies i) was), tt))
          (ap (λ es. length (handed (entries_of k es))) called.kind) (λ h left. fill_lies s new k i f filled h apart called others there was left) (is ∙ ap (λ x. step_line k (codes "fill") x) says);
      ready = ready_by s new k (λ es. es ≡ Fill i f filled ∷ []) ready called (λ h left. fill_lies s new k i f filled h apart called others there was left);
      lifted = lifted;
    }

-- a lifted buffer that got the empty record
emptied_so : (f old : Filling) (x : Option Filling) → x ≡ Some old → f.bytes ≡ old.bytes → f.rec ≡ empty_record → Some f ≡ emptied x
emptied_so f old x lies bytes rec =
    ap (λ (bs : List ℕ). some_filling bs f.rec) bytes ∙ ap (λ (r : Record). some_filling old.bytes r) rec ∙ ap emptied (sym lies)
  where
    some_filling : List ℕ → Record → Option Filling
    some_filling bs r = Some (record { bytes = bs; rec = r })

-- and was set down again, or put into the output
put_back : (c : List (Option Filling)) (i : ℕ) (f old : Filling) → lying c i ≡ Some old → lying (set (set c i nothing) i (Some f)) i ≡ Some f
put_back c i f old lies =
    let below : i < length c = lies_within c i old lies in
    get_or-set_same (set c i nothing) i (Some f) nothing (omega (arith, below, length-set_at c i nothing))

put_others : (c : List (Option Filling)) (i j : ℕ) (f : Filling) → j ≢ i → lying (set (set c i nothing) i (Some f)) j ≡ lying c j
put_others c i j f apart = set_apart (set c i nothing) i j (Some f) apart ∙ set_apart c i j nothing apart

pub refill_steps : (s lifted mid new : PlainState) (k i : ℕ) (f old : Filling) (filled : Bool) (text : StepText) → acquirer ≢ k → IsReady s → lifted.board ≡ s.board → lying s.contents i ≡ Some old → lifted.contents ≡ set s.contents i nothing → f.bytes ≡ old.bytes → f.rec ≡ empty_record
    → AddsEntry lifted.board k (Fill i f filled) mid.board → new.board ≡ mid.board → new.contents ≡ set lifted.contents i (Some f) → text ≡ fill_text filled → StepsBoard (λ t. FillStep t k i true) k 0 act.Fill text s new
refill_steps s lifted mid new k i f old filled text apart ready same lies gone bytes rec step same_too put says =
    fill_steps s new k i f filled text apart ready (subst (λ (b : Board). AddsEntry b k (Fill i f filled) new.board) same (subst (λ (b : Board). AddsEntry lifted.board k (Fill i f filled) b) (sym same_too) step))
    (λ j away. ap (λ c. lying c j) (put ∙ ap (λ c. set c i (Some f)) gone) ∙ put_others s.contents i j f away)
    (ap (λ c. lying c i) (put ∙ ap (λ c. set c i (Some f)) gone) ∙ put_back s.contents i f old lies) (emptied_so f old (lying s.contents i) lies bytes rec)
    (lifted_back s lifted new i f old lies gone put) says

pub not_held_fill : (s : PlainState) (k i : ℕ) → acquirer ≢ k → IsReady s → (InHand s.board k i → ⊥) → StepsBoard (λ t. FillStep t k i (is_in_hand (board t) k i)) k 0 act.Fill said.NotHeld s s
not_held_fill s k i apart ready other = record {
  acts = λ told is t left. silent_as s k (λ t. FillStep t k i (is_in_hand (board t) k i)) (step_line k (codes "fill") said.NotHeld) told t apart
      (subst (λ (b : Bool). FillStep t k i b (acts t k [] (step_line k (codes "fill") said.NotHeld)))
      (sym (ap (λ (b : Board). is_in_hand b k i) (sym left.board.state) ∙ no_in_hand (times i (hand s.board k)) other)) refl) is left;
  ready = ready;
  lifted = lifted_same s s refl;
}

pub held_fill : (s new : PlainState) (k i : ℕ) (text : StepText) → InHand s.board k i → StepsBoard (λ t. FillStep t k i true) k 0 act.Fill text s new → StepsBoard (λ t. FillStep t k i (is_in_hand (board t) k i)) k 0 act.Fill text s new
held_fill s new k i text mine did = record {
  acts = λ told is t left. acts_line (λ t. FillStep t k i true) (λ t. FillStep t k i (is_in_hand (board t) k i)) k 0 told new t
      (λ part line. subst (λ (b : Bool). FillStep t k i b part) (sym (ap (λ (b : Board). is_in_hand b k i) (sym left.board.state) ∙ yes_in_hand (times i (hand s.board k)) mine)) line) (did.acts told is t left);
  ready = did.ready;
  lifted = did.lifted;
}

-- the act of the line
pub as_act : (a b : Act) (k place count : ℕ) (text : StepText) (s new : PlainState) → a ≡ b → StepsBoard (λ t. StepBy t k b place) k count b text s new → StepsBoard (λ t. StepBy t k a place) k count a text s new
as_act a b k place count text s new e = subst (λ (x : Act). StepsBoard (λ t. StepBy t k x place) k count x text s new) (sym e)
