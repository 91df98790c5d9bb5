-- The mark has what the entry of the journal tells.
use Rattle.std.proofs.Common.{◌≡◌, Bool, List, [], ◌∷◌, ◌++◌, ap, ◌∙◌}
use Rattle.std.specs.Prelude.{is_some}
use Rattle.acquisition_machine.specs.declared.mark.Mark.{Mark}
use Rattle.gev_acq.specs.declared.turn.Turn.{Turn}
use Rattle.live_recording.specs.Marks.{mark_of}
use Rattle.live_recording.proofs.marks.add_mark.Goals as goal

added : (old new : List Mark) (turn : Turn) (claimed : Bool) → new ≡ old ++ (record { moment = turn.moment; opened = turn.opened; claimed = claimed }) ∷ []
    → claimed ≡ is_some turn.claim → new ≡ old ++ mark_of turn ∷ []
added old new turn claimed is got =
    is ∙ ap (λ (b : Bool). old ++ (record { moment = turn.moment; opened = turn.opened; claimed = b }) ∷ []) got

pub returns-clause-items : goal.returns-clause-items
returns-clause-items c = added _ _ c.args.turn _ c.in_ok-push.ensures.items assumption
