-- The claimed buffer is one more of the receiver's, and lifted in hand.
use Rattle.std.proofs.Common.{length, sym, ◌∙◌, subst}
use Rattle.acquisition_machine.specs.Blocks.{Given}
use Rattle.acq_core.specs.Receiver.{Stands, asked_block, buffers}
use Rattle.gev_acq.specs.Buffers.{Backs}
use Rattle.gev_acq.proofs.Backing.{got_place, same_backs, claimed_backs, claimed_alone}
use Rattle.gev_acq.proofs.Picking.{claimed_some, claimed_none, one_more, size_stays}
use Rattle.gev_acq.proofs.claiming.claim_one.Goals as goal

pub returns-in-Some-clause-claims : goal.returns-in-Some-clause-claims
returns-in-Some-clause-claims g c =
    claimed_some c.args.mode _ (Stands c.args.acq.now) (Stands c.give.new.self) c.args.pass.now c.claim_for.new.pass c.lift-buf.new.pass c.in-Some.place
    (length c.lift-buf.result.bytes) c.in-Some._dropped c.in-Some.ensures.enters c.lift-buf.ensures.stays c.lift-buf.ensures.size c.give.ensures.takes.stands

pub returns-in-Some-clause-backs : goal.returns-in-Some-clause-backs
returns-in-Some-clause-backs g c =
    let given : Given = record { place = c.in-Some.place; size = length c.lift-buf.result.bytes } in
    claimed_backs c.args.pass.now c.lift-buf.new.pass given (buffers c.args.acq.now) (buffers c.give.new.self) c.in-Some.ensures.hands.new
    (λ j ne. got_place c.in-Some.place j c.args.pass.now c.claim_for.new.pass c.lift-buf.new.pass c.in-Some.ensures.hands c.lift-buf.ensures.hands ne)
    (record {
      lifted = c.lift-buf.ensures.hands.here;
      size = c.lift-buf.ensures.size ∙ sym (size_stays c.claim_for.new.pass c.lift-buf.new.pass c.in-Some.place c.lift-buf.ensures.stays);
    })
    (one_more given (asked_block c.args.acq.now) _ _ c.requires.asked c.give.ensures.buffers) c.requires.backs

pub returns-in-Some-clause-alone : goal.returns-in-Some-clause-alone
returns-in-Some-clause-alone g c =
    let given : Given = record { place = c.in-Some.place; size = length c.lift-buf.result.bytes } in
    claimed_alone c.args.pass.now c.lift-buf.new.pass given (buffers c.args.acq.now) (buffers c.give.new.self)
    (λ j ne. got_place c.in-Some.place j c.args.pass.now c.claim_for.new.pass c.lift-buf.new.pass c.in-Some.ensures.hands c.lift-buf.ensures.hands ne)
    (one_more given (asked_block c.args.acq.now) _ _ c.requires.asked c.give.ensures.buffers)

pub returns-in-None-clause-claims : goal.returns-in-None-clause-claims
returns-in-None-clause-claims g c =
    claimed_none c.args.mode _ (Stands c.args.acq.now) (Stands c.give-in-None.new.self) c.args.pass.now c.claim_for.new.pass c.in-None.ensures.enters
    c.give-in-None.ensures.takes.stands

pub returns-in-None-clause-backs : goal.returns-in-None-clause-backs
returns-in-None-clause-backs g c =
    subst (Backs c.claim_for.new.pass) (sym c.give-in-None.ensures.buffers)
    (same_backs c.args.pass.now c.claim_for.new.pass (buffers c.args.acq.now) c.in-None.ensures.hands c.requires.backs)
