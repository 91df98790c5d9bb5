use Rattle.std.proofs.Common.{subst}
use Rattle.board_machine.specs.Machine.{IsActor}
use Rattle.board_machine.specs.Histories.{After}
use Rattle.buffer_words.specs.Passes.{Token}
use Rattle.buffer_words.specs.Witness.{HoldsSlots, SizesFit, SawOneOwner}
use Rattle.buffer_words.proofs.Witnessing.{saw_one_owner, holds_slots, sizes_fit}
use Rattle.buffer_words.proofs.pass.Pass.witness.Goals as goal

pub returns : goal.returns
returns c =
    let seen = subst (λ (s : Token). SawOneOwner s.seen) c.self.view_is (saw_one_owner c.self.inside.seat.me.0.seen c.self.invariant.carries.run) in
    record {
      run = seen.run;
      owned = seen.owned;
      legal = seen.legal;
      actor = subst (λ (s : Token). IsActor (After s.seen) s.number) c.self.view_is c.self.invariant.carries.actor;
      holds = subst (λ (s : Token). HoldsSlots s) c.self.view_is (holds_slots c.self.inside.seat.table_id _ _ c.self.invariant);
      sizes = subst (λ (s : Token). SizesFit s) c.self.view_is (sizes_fit c.self.inside.seat.table_id _ _ c.self.invariant);
    }
