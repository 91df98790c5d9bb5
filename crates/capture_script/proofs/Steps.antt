-- The script and its trace side by side: between two packets, and from one to the next.
use Rattle.std.proofs.Common.{◌≡◌, ℕ, zero, suc, ◌+◌, ◌≤◌, List, [], ◌∷◌, ◌++◌, length, map, replicate, Bool, if◌then◌else◌, refl, sym, ap, subst, ◌∙◌, arith, append_assoc, append-nil, length-append, lit<}
use Rattle.std.specs.Prelude.{⊤, None}
use Rattle.std.specs.List.{AllByRecursion}
use Rattle.gev_script.specs.Lines as line
use Rattle.gev_script.specs.Lines.{ScriptLine}
use Rattle.std.proofs.lemmas.Bool.{ne_eqb}
use Rattle.board_machine.specs.Places.{same, times}
use Rattle.board_machine.proofs.Places.{same_other}
use Rattle.acquisition_machine.specs.declared.config.AcqConfig.{AcqConfig}
use Rattle.acquisition_machine.specs.Blocks.{fills}
use Rattle.acquisition_machine.specs.Machine.{Input, claimed, State}
use Rattle.acquisition_machine.specs.Runs.{first_state, After, after_from, retired_from}
use Rattle.acquisition_machine.proofs.Joining.{after_from-append, retired_from-append}
use Rattle.acquisition_machine.proofs.Order.{all_append}
use Rattle.block_fills.proofs.Tries.{fills-append}
use Rattle.acquisition_machine.specs.Erased.{bare_state, bare_input}
use Rattle.script_trace.specs.Trace.{Trace, Part, grown}
use Rattle.script_trace.specs.Adding.{AddsPart}
use Rattle.script_trace.specs.Wide.{Wide}
use Rattle.capture_script.specs.Playing.{config, Played}
use Rattle.capture_script.specs.Script.{taking}
use Rattle.capture_script.specs.Traces.{takes_in}
use Rattle.capture_script.proofs.Desk.{IsFull}
use Rattle.capture_script.proofs.Holding.{held_places, Live}
use Rattle.capture_script.proofs.Stages.{Stage}
use Rattle.capture_script.proofs.StageLines.{Rests}
use Rattle.capture_script.proofs.TurnLines.{state_of, state_after}
use Rattle.capture_script.proofs.Walking.{walks-append, WalksOn, IsInner, DoesSo, line_walks}
use Rattle.capture_script.proofs.Alike.{after_alike}

-- each claim that is told got a buffer
abbrev pub IsGot : Input → Type 0
IsGot (claimed None) = ⊥
IsGot _ = ⊤

-- The trace stands between two packets, and the script's acquisition stands as the trace's does, places aside.
pub record Stands (pp ss : ℕ) (t : Trace) (w : Wide) (s : Played) : Type 0 where
  pub pool : List ℕ
  pub stage : Stage pp ss t 1 (held_places (state_of pp ss t)) [] pool
  pub full : IsFull (held_places (state_of pp ss t)) pool
  pub live : Live pp ss (state_of pp ss t)
  pub version : w.version ≡ 2
  pub top : w.top ≡ s.top
  pub alike : After (config pp) s.inputs ≡ bare_state (state_of pp ss t)

-- These lines lead on to where the script's acquisition is this one; and there is a take for each fill.
pub record Steps (pp ss : ℕ) (t : Trace) (w : Wide) (ls : List ScriptLine) (new : Played) : Type 0 where
  pub to : Trace
  pub wide : Wide
  pub on : WalksOn (config pp) w t ls wide to
  pub told : List Input
  pub inputs : to.inputs ≡ t.inputs ++ told
  pub got : AllByRecursion IsGot told
  pub counted : takes_in ls ≡ length (fills pp (retired_from (config pp) (state_of pp ss t) told))
  pub stands : Stands pp ss to wide new

pub no_step : (pp ss : ℕ) (t : Trace) (w : Wide) (s : Played) → Stands pp ss t w s → Steps pp ss t w [] s
no_step pp ss t w s stands = record {
  to = t;
  wide = w;
  on = record { text = []; walks = (refl, refl, refl) };
  told = [];
  inputs = sym (append-nil t.inputs);
  got = tt;
  counted = refl;
  stands = stands;
}

pub takes-append : (ls ms : List ScriptLine) → takes_in (ls ++ ms) ≡ takes_in ls + takes_in ms
takes-append [] ms = omega arith
takes-append (line.take ∷ ls) ms = let e = takes-append ls ms in omega (arith, e)
takes-append (line.header c ∷ ls) ms = takes-append ls ms
takes-append (line.announce size ∷ ls) ms = takes-append ls ms
takes-append (line.queue place generation ∷ ls) ms = takes-append ls ms
takes-append (line.revoke place generation ∷ ls) ms = takes-append ls ms
takes-append (line.flush operation ∷ ls) ms = takes-append ls ms
takes-append (line.start ∷ ls) ms = takes-append ls ms
takes-append (line.stop flags ∷ ls) ms = takes-append ls ms
takes-append (line.tick moment ∷ ls) ms = takes-append ls ms
takes-append (line.datagram digits ∷ ls) ms = takes-append ls ms
takes-append (line.kill ∷ ls) ms = takes-append ls ms
takes-append (line.event_flush ∷ ls) ms = takes-append ls ms
takes-append (line.info which ∷ ls) ms = takes-append ls ms
takes-append (line.buffer_info place generation which ∷ ls) ms = takes-append ls ms
takes-append (line.open_child parent index ∷ ls) ms = takes-append ls ms
takes-append (line.close_all serial ∷ ls) ms = takes-append ls ms
takes-append (line.step actor act place ∷ ls) ms = takes-append ls ms
takes-append (line.mode n ∷ ls) ms = takes-append ls ms
takes-append (line.end_of_script ∷ ls) ms = takes-append ls ms
takes-append (line.camera_header ∷ ls) ms = takes-append ls ms
takes-append (line.command peer digits ∷ ls) ms = takes-append ls ms
takes-append (line.frame ∷ ls) ms = takes-append ls ms

-- what these inputs fill, and then those
pub filled_both : (c : AcqConfig) (p : ℕ) (s : State) (q r : List Input)
    → length (fills p (retired_from c s (q ++ r))) ≡ length (fills p (retired_from c s q)) + length (fills p (retired_from c (after_from c s q) r))
filled_both c p s q r =
    ap (λ l. length (fills p l)) (retired_from-append c s q r)
    ∙ (ap length (fills-append p (retired_from c s q) (retired_from c (after_from c s q) r))
    ∙ length-append (fills p (retired_from c s q)) (fills p (retired_from c (after_from c s q) r)))

pub both_steps : (pp ss : ℕ) (t : Trace) (w : Wide) (ls ms : List ScriptLine) (mid new : Played) → (first : Steps pp ss t w ls mid)
    → Steps pp ss first.to first.wide ms new → Steps pp ss t w (ls ++ ms) new
both_steps pp ss t w ls ms mid new first second =
    let there : state_of pp ss first.to ≡ after_from (config pp) (state_of pp ss t) first.told = state_after pp ss t first.to first.told first.inputs in
    let n : takes_in ms ≡ length (fills pp (retired_from (config pp) (after_from (config pp) (state_of pp ss t) first.told) second.told)) =
    second.counted ∙ ap (λ u. length (fills pp (retired_from (config pp) u second.told))) there in
    record {
      to = second.to;
      wide = second.wide;
      on = record {
        text = first.on.text ++ second.on.text;
        walks = walks-append (config pp) w t ls ms first.on.text second.on.text first.wide first.to second.wide second.to first.on.walks second.on.walks;
      };
      told = first.told ++ second.told;
      inputs = second.inputs ∙ (ap (λ q. q ++ second.told) first.inputs ∙ append_assoc t.inputs first.told second.told);
      got = all_append IsGot first.told second.told first.got second.got;
      counted = (let a = takes-append ls ms in let b = first.counted in let c = filled_both (config pp) pp (state_of pp ss t) first.told second.told in omega (arith, a, b, c, n));
      stands = second.stands;
    }

-- ---- a line, and the takes behind it

takes_only : (n : ℕ) → takes_in (replicate n line.take ++ line.flush 3 ∷ []) ≡ n
takes_only zero = refl
takes_only (suc n) = let e = takes_only n in omega (arith, e)

pub takes_taking : (n : ℕ) → takes_in (taking n) ≡ n
takes_taking zero = refl
takes_taking (suc n) =
    subst (λ (b : Bool). takes_in (if b then [] else replicate (suc n) line.take ++ line.flush 3 ∷ []) ≡ suc n) (sym (ne_eqb (suc n) 0 (λ z. cc))) (takes_only (suc n))

-- the lines of a stage as a step, where the script's line is this one
pub rests_step : (pp ss : ℕ) (t : Trace) (w v : Wide) (new : Played) (l told_line : ScriptLine) (n : ℕ) (q : List Input)
    → Rests pp ss t (told_line ∷ taking n) q 1 (held_places (after_from (config pp) (state_of pp ss t) q)) → Live pp ss (after_from (config pp) (state_of pp ss t) q)
    → IsInner told_line → ((part : Part) → AddsPart (config pp) t told_line part → DoesSo (config pp) w t l v (grown t part))
    → v.version ≡ 2 → v.top ≡ new.top → After (config pp) new.inputs ≡ bare_state (after_from (config pp) (state_of pp ss t) q) → AllByRecursion IsGot q
    → takes_in (l ∷ taking n) ≡ length (fills pp (retired_from (config pp) (state_of pp ss t) q))
    → Steps pp ss t w (l ∷ taking n) new
rests_step pp ss t w v new l told_line n q rest live inner does version top alike got counted =
    let to : Trace = rest.goes.to in
    let there : state_of pp ss to ≡ after_from (config pp) (state_of pp ss t) q = state_after pp ss t to q rest.goes.inputs in
    record {
      to = to;
      wide = v;
      on = line_walks (config pp) w v t l told_line n to inner does rest.goes.leads;
      told = q;
      inputs = rest.goes.inputs;
      got = got;
      counted = counted;
      stands = record {
        pool = rest.pool;
        stage = subst (λ u. Stage pp ss to 1 (held_places u) [] rest.pool) (sym there) rest.goes.stage;
        full = subst (λ u. IsFull (held_places u) rest.pool) (sym there) rest.full;
        live = subst (Live pp ss) (sym there) live;
        version = version;
        top = top;
        alike = alike ∙ ap bare_state (sym there);
      };
    }

-- ---- what the script's acquisition is told

pub told_alike : (pp ss : ℕ) (t : Trace) (s : Played) (q : List Input) → After (config pp) s.inputs ≡ bare_state (state_of pp ss t)
    → After (config pp) (s.inputs ++ map bare_input q) ≡ bare_state (after_from (config pp) (state_of pp ss t) q)
told_alike pp ss t s q e =
    after_from-append (config pp) first_state s.inputs (map bare_input q) ∙ after_alike (config pp) (After (config pp) s.inputs) (state_of pp ss t) q e

-- ---- a buffer waits

few_low : (n : ℕ) → same 0 n + same 1 n + same 2 n + same 3 n + same 4 n ≤ 1
few_low zero = omega arith
few_low (suc zero) = omega arith
few_low (suc (suc zero)) = omega arith
few_low (suc (suc (suc zero))) = omega arith
few_low (suc (suc (suc (suc zero)))) = omega arith
few_low (suc (suc (suc (suc (suc n))))) =
    let a = same_other 0 (suc (suc (suc (suc (suc n))))) (λ e. cc) in
    let b = same_other 1 (suc (suc (suc (suc (suc n))))) (λ e. cc) in
    let c = same_other 2 (suc (suc (suc (suc (suc n))))) (λ e. cc) in
    let d = same_other 3 (suc (suc (suc (suc (suc n))))) (λ e. cc) in
    let e = same_other 4 (suc (suc (suc (suc (suc n))))) (λ e. cc) in
    omega (arith, a, b, c, d, e)

few_times : (his : List ℕ) → times 0 his + times 1 his + times 2 his + times 3 his + times 4 his ≤ length his
few_times [] = omega arith
few_times (n ∷ his) = let a = few_low n in let b = few_times his in omega (arith, a, b)

pub record HasPooled (ps : List ℕ) : Type 0 where
  pub place : ℕ
  pub rest : List ℕ
  pub is : ps ≡ place ∷ rest

pub has_pooled : (his ps : List ℕ) → IsFull his ps → length his ≤ 4 → HasPooled ps
has_pooled his [] full few = absurd (let a = full.each 0 (lit< tt) in let b = full.each 1 (lit< tt) in let c = full.each 2 (lit< tt) in let d = full.each 3 (lit< tt) in let e = full.each 4 (lit< tt) in
    let n = few_times his in omega (arith, a, b, c, d, e, n, few))
has_pooled his (p ∷ ps) full few = record { place = p; rest = ps; is = refl }
