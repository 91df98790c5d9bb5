use Rattle.std.proofs.Common.{rules, arith, refl, sym, ◌∙◌}
use Rattle.board_machine.specs.Machine.{Board, IsActor}
use Rattle.board_model.proofs.Items.{places_items}
use Rattle.board_model.proofs.Keeps.{at_board}
use Rattle.board_model.proofs.board.PlainBoard.look_out.Goals as goal

pub returns-clause-step : goal.returns-clause-step
returns-clause-step c =
    record {
      may = rw (← c.self.view_is)
          (record {
            actor = (at_board (λ (b : Board). IsActor b c.args.actor) _ _ c.self.view_is c.requires.actor);
            meets = (c.copied.ensures ∙ (sym (places_items c.self.inside.bufs.items c.self.inside.out.items)), refl);
          });
      after = first_of (search rules, grind arith);
    }
