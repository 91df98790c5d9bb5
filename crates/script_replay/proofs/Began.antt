-- The board behind the header.
use Rattle.std.proofs.Common.{◌≡◌, ℕ, zero, suc, ◌≤◌, [], length, sym, ap, subst, ◌∙◌, inl, arith}
use Rattle.board_machine.specs.declared.events.Event.TheVariants.{Split}
use Rattle.board_machine.specs.Machine.{Board, IsActor, empty_board, entry, next}
use Rattle.board_machine.specs.Adding.{AddsEntry}
use Rattle.board_machine.specs.Histories.{After}
use Rattle.board_model.specs.Plain.{PlainState, lying}
use Rattle.script_trace.specs.Opening.{opening}
use Rattle.script_trace.specs.Contents.{contents_of}
use Rattle.script_trace.proofs.Histories.{opening_runs}
use Rattle.script_replay.specs.Boards.{IsLeftBy, IsReady}

-- one more actor is split off
pub one_split : (b new known : Board) (n r : ℕ) → b ≡ known → length known.hands ≡ n → AddsEntry b 0 (Split r) new → new ≡ next known (entry 0 (Split n))
one_split b new known n r is count step =
    let number : r ≡ n = step.may.meets ∙ ap (λ (c : Board). length c.hands) is ∙ count in
    step.after ∙ ap (λ (c : Board). next c (entry 0 (Split r))) is ∙ ap (λ m. next known (entry 0 (Split m))) number

-- after n of them
abbrev pub split_times : ℕ → Board
split_times zero = empty_board
split_times (suc n) = next (split_times n) (entry 0 (Split (suc n)))

pub opened_left : (s : PlainState) → s.board ≡ After opening.entries → s.contents ≡ contents_of [] → IsLeftBy s opening.entries
opened_left s is contents = record {
  board = record { run = opening_runs; state = is };
  lies = λ i. inl (ap (λ c. lying c i) contents);
}

actor_opened : (k : ℕ) → k ≤ 5 → IsActor (After opening.entries) k
actor_opened zero low none_there = cc
actor_opened (suc zero) low none_there = cc
actor_opened (suc (suc zero)) low none_there = cc
actor_opened (suc (suc (suc zero))) low none_there = cc
actor_opened (suc (suc (suc (suc zero)))) low none_there = cc
actor_opened (suc (suc (suc (suc (suc zero))))) low none_there = cc
actor_opened (suc (suc (suc (suc (suc (suc k)))))) low none_there = omega (arith, low)

pub opened_ready : (s : PlainState) → s.board ≡ After opening.entries → s.contents ≡ contents_of [] → IsReady s
opened_ready s is contents = record {
  actors = λ k low. subst (λ (b : Board). IsActor b k) (sym is) (actor_opened k low);
  history = opening.entries;
  left = opened_left s is contents;
}
