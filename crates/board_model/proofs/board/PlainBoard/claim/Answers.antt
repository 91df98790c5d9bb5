use Rattle.std.proofs.Common.{rules, arith, ◌≡◌, ◌<◌, ◌∷◌, refl, ◌∙◌}
use Rattle.gev_types.specs.Limits.{place_count}
use Rattle.board_machine.specs.Places.{tail}
use Rattle.board_machine.specs.Machine.{Board, IsActor}
use Rattle.board_model.specs.contracts.board.PlainBoard.{the_view}
use Rattle.board_model.proofs.Items.{without_first}
use Rattle.board_model.proofs.Keeps.{at_board, plain_claim, pool_missing, first_missing}
use Rattle.board_model.proofs.CallsHands.{picked_in}
use Rattle.board_model.proofs.board.PlainBoard.claim.Goals as goal

pub put-requires-clause-missing : goal.put-requires-clause-missing
put-requires-clause-missing c =
    let b : Board = (the_view c.self.inside).board in
    let first : (c.in_ok-place.place < place_count) × (c.self.inside.pool ≡ c.in_ok-place.place ∷ tail c.self.inside.pool) = c.in_ok-place.ensures in
    first_missing b c.args.actor c.in_ok-place.place c.self.inside.pool (tail c.self.inside.pool) first.1
    (pool_missing b c.args.actor c.self.inside.pool refl c.self.invariant.owned)

pub invariant_of-self : goal.invariant_of-self
invariant_of-self c =
    let first : (c.in_ok-place.place < place_count) × (c.self.inside.pool ≡ c.in_ok-place.place ∷ tail c.self.inside.pool) = c.in_ok-place.ensures in
    let fewer : c.remove.new.self ≡ tail c.self.inside.pool = c.remove.ensures ∙ without_first c.in_ok-place.place c.self.inside.pool first.1 in
    rw (c.put.ensures, fewer)
    (plain_claim _ _ c.args.actor c.in_ok-place.place (tail c.self.inside.pool) c.self.invariant
    (at_board (λ (b : Board). IsActor b c.args.actor) _ _ c.self.view_is c.requires.actor)
    first.1)

pub returns-clause-step : goal.returns-clause-step
returns-clause-step c =
    let first : (c.in_ok-place.place < place_count) × (c.self.inside.pool ≡ c.in_ok-place.place ∷ tail c.self.inside.pool) = c.in_ok-place.ensures in
    record {
      may = rw (← c.self.view_is)
          (record {
            actor = (at_board (λ (b : Board). IsActor b c.args.actor) _ _ c.self.view_is c.requires.actor);
            meets = (tail c.self.inside.pool, first.1);
          });
      after = first_of (search rules, grind arith);
    }

pub returns-clause-in_hand : goal.returns-clause-in_hand
returns-clause-in_hand c =
    rw c.put.ensures (picked_in (the_view c.self.inside).board c.args.actor c.in_ok-place.place (at_board (λ (b : Board). IsActor b c.args.actor) _ _ c.self.view_is c.requires.actor))
