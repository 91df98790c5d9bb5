use Rattle.std.proofs.Common.{[], ◌∷◌, None, refl, sym, subst, Option}
use Rattle.note_tape.specs.declared.told.Told.TheVariants.{Opened}
use Rattle.note_tape.specs.Tells.{Tells}
use Rattle.script_replay.specs.declared.got.Got.{Got}
use Rattle.explain_lines.specs.Hearing.{way_notes, claim_notes}
use Rattle.explain_lines.proofs.Tapes.{tells_opened}
use Rattle.explain_lines.proofs.hearing.tape_claim.Goals as goal

pub returns-in_ok-push-in-Some : goal.returns-in_ok-push-in-Some
returns-in_ok-push-in-Some c before marks =
    subst (λ (got : Option Got). Tells c.args.tape.now.items c.push.new.self.items (claim_notes before c.args.block got)) (sym c.in-Some.is)
    (tells_opened c.args.tape.now.items c.tape_way.new.tape.items c.push.new.self.items before c.args.block c.in-Some.got.place c.id_at.result (way_notes before c.in-Some.got.place c.in-Some.got.dropped)
    (c.in_ok-tape_way-in-Some.ensures before marks) c.in_ok-push-in-Some.ensures.items (c.id_at.ensures before marks))

pub returns-in_ok-push-in-None : goal.returns-in_ok-push-in-None
returns-in_ok-push-in-None c before marks =
    subst (λ (got : Option Got). Tells c.args.tape.now.items c.push-in-None.new.self.items (claim_notes before c.args.block got)) (sym c.in-None.is)
    (record { more = Opened c.args.block None ∷ []; is = c.in_ok-push-in-None.ensures.items; noted = (refl, tt) })
