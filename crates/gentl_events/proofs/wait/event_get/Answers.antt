use Rattle.std.proofs.Common.{ℕ, ◌-◌, ◌<◌, ◌≤◌, subst}
use Rattle.gentl_events.proofs.Waiting.{waiting_first, waits_on, waits_answer, waits_timeout}
use Rattle.gentl_events.proofs.wait.event_get.Goals as goal

pub turns-init : goal.turns-init
turns-init g c = waiting_first _ _ _ _ _ c.now-first.ensures.told

pub returns-in-Some-turn-clause-entries : goal.returns-in-Some-turn-clause-entries
returns-in-Some-turn-clause-entries g c = (waits_answer _ _ _ _ _ _ _ _ c.turns.invariant c.in-Some-turn.ensures.turns).entries

pub returns-in-Some-turn-clause-refused : goal.returns-in-Some-turn-clause-refused
returns-in-Some-turn-clause-refused g c = (waits_answer _ _ _ _ _ _ _ _ c.turns.invariant c.in-Some-turn.ensures.turns).refused

pub returns-then-saturating_sub-timeout-clause-entries : goal.returns-then-saturating_sub-timeout-clause-entries
returns-then-saturating_sub-timeout-clause-entries g c =
    let late : c.args.timeout ≤ c.now-last.result - c.now-first.result =
    subst (λ (n : ℕ). c.args.timeout ≤ n) c.saturating_sub.ensures c.if-saturating_sub-timeout.true in
    (waits_timeout _ _ _ _ _ _ _ _ _ c.turns.invariant c.in-None-turn.ensures.turns c.now-last.ensures.told late).entries

pub returns-then-saturating_sub-timeout-clause-refused : goal.returns-then-saturating_sub-timeout-clause-refused
returns-then-saturating_sub-timeout-clause-refused g c =
    let late : c.args.timeout ≤ c.now-last.result - c.now-first.result =
    subst (λ (n : ℕ). c.args.timeout ≤ n) c.saturating_sub.ensures c.if-saturating_sub-timeout.true in
    (waits_timeout _ _ _ _ _ _ _ _ _ c.turns.invariant c.in-None-turn.ensures.turns c.now-last.ensures.told late).refused

pub turns-preserved : goal.turns-preserved
turns-preserved g c =
    let early : c.now-last.result - c.now-first.result < c.args.timeout =
    subst (λ (n : ℕ). n < c.args.timeout) c.saturating_sub.ensures c.if-saturating_sub-timeout.false in
    waits_on _ _ _ _ _ _ _ _ _ c.turns.invariant c.in-None-turn.ensures.turns c.now-last.ensures.told early
