-- The time is over where so many milliseconds went by, and no sooner.
use Rattle.std.proofs.Common.{◌≡◌, ◌≤◌, ◌<◌, ◌+◌, ℕ, Bool, false, sym, ap, ◌∙◌}
use Rattle.std.specs.Prelude.{nat_le, not, ◌&&◌, ◌||◌}
use Rattle.std.proofs.lemmas.Bool.{le-leb, lt-leb}
use Rattle.first_leader.specs.Waiting.{jumps}
use Rattle.first_leader.proofs.silence.is_over.Goals as goal

over : (end moment : ℕ) (b v : Bool) → end ≤ moment → v ≡ b → v ≡ (nat_le end moment && b)
over end moment b v late is = is ∙ sym (ap (λ (x : Bool). x && b) (le-leb end moment late))

early : (end moment : ℕ) (b : Bool) → moment < end → false ≡ (nat_le end moment && b)
early end moment b soon = sym (ap (λ (x : Bool). x && b) (lt-leb end moment soon))

pub returns-then-not-jumps : goal.returns-then-not-jumps
returns-then-not-jumps c =
    over (c.args.begin + c.args.silence) c.args.moment (not (jumps c.args.silence c.args.pace c.args.moment) || c.args.pace.spared) _
    (rw (c.from.ensures, c.from-2.ensures, c.from-3.ensures) at c.if-from.true)
    (ap not c.if-not-jumps.true ∙ sym (ap (λ (j : Bool). not j || c.args.pace.spared) (sym c.jumps.ensures ∙ c.if-not-jumps.true)))

pub returns-else-not-jumps : goal.returns-else-not-jumps
returns-else-not-jumps c =
    over (c.args.begin + c.args.silence) c.args.moment (not (jumps c.args.silence c.args.pace c.args.moment) || c.args.pace.spared) _
    (rw (c.from.ensures, c.from-2.ensures, c.from-3.ensures) at c.if-from.true)
    (sym (ap (λ (j : Bool). not j || c.args.pace.spared) (sym c.jumps.ensures ∙ c.if-not-jumps.false)))

pub returns-else-from : goal.returns-else-from
returns-else-from c =
    lt-leb (c.from.result + c.from-2.result) c.from-3.result c.if-from.false
    ∙ early (c.args.begin + c.args.silence) c.args.moment (not (jumps c.args.silence c.args.pace c.args.moment) || c.args.pace.spared)
    (rw (c.from.ensures, c.from-2.ensures, c.from-3.ensures) at c.if-from.false)
