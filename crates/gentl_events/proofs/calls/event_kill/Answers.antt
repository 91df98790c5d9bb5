use Rattle.std.proofs.Common.{refl}
use Rattle.board_machine.specs.declared.events.Event.TheVariants.{Post}
use Rattle.board_calls.specs.Calls.{Kills}
use Rattle.buffer_words.proofs.Several.{of_one}
use Rattle.gentl_events.proofs.calls.event_kill.Goals as goal

pub returns-clause-entries : goal.returns-clause-entries
returns-clause-entries c = of_one _ _ Kills Post refl refl c.post.ensures.entry
