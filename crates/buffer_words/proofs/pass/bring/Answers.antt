use Rattle.std.proofs.Common.{refl, sym, ap, subst, ◌∙◌, ◌++◌, ◌∷◌, [], List, ℕ, get_or}
use Rattle.buffer_words.specs.Rule.{Slots}
use Rattle.buffer_words.specs.Plays.{Seated}
use Rattle.buffer_words.proofs.Turns.{Turning, turning_turn, turning_nearer, turning_front}
use Rattle.buffer_words.proofs.pass.bring.Goals as goal

pub loop-held-init : goal.loop-held-init
loop-held-init c = (refl, refl, record { order = c.requires.order; single = c.requires.single; has = c.requires.has; counts = λ i. refl; slots = λ i. refl })

pub loop-held-preserved : goal.loop-held-preserved
loop-held-preserved c = (
  c.turn.ensures.0 ∙ c.loop-held.invariant.0,
  ap (λ (m : Seated). m.0) c.turn.ensures.2 ∙ c.loop-held.invariant.1,
  subst (λ (d : Slots). Turning c.args.place c.args.seat.now.me.1 d c.push.new.self.items) (sym (ap (λ (m : Seated). m.1) c.turn.ensures.2))
      (turning_turn _ _ _ _ _ _ c.loop-held.invariant.2 c.remove-first.ensures.value
      (c.push.ensures.items ∙ ap (λ (l : List ℕ). l ++ c.remove-first.result ∷ []) c.remove-first.ensures.items)),
)

pub loop-held-smaller : goal.loop-held-smaller
loop-held-smaller c =
    turning_nearer _ _ _ _ _ _ c.loop-held.invariant.2 c.remove-first.ensures.value
    (c.push.ensures.items ∙ ap (λ (l : List ℕ). l ++ c.remove-first.result ∷ []) c.remove-first.ensures.items)
    (λ e. c.loop-held-test.true (ap (λ (l : List ℕ). get_or l 0 0) c.deref.ensures.0 ∙ e))

pub returns : goal.returns
returns c =
    let t = c.loop-held.invariant.2 in
    let front = turning_front _ _ _ _ t (ap (λ (l : List ℕ). get_or l 0 0) (sym c.deref.ensures.0) ∙ c.loop-held-test.false) in
    record {
      order = t.order;
      table = c.loop-held.invariant.0;
      view = c.loop-held.invariant.1;
      times = t.counts;
      slots = t.slots;
      front = record { slot = front.0; front = front.1 };
    }
