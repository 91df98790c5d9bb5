-- The application of a soak run, as lines of a replay script.
use Rattle.std.specs.Prelude.{List, [], ◌∷◌}
use Rattle.gev_script.specs.Lines as line
use Rattle.gev_script.specs.Lines.{ScriptLine}
use Rattle.board_machine.specs.Machine.{Item, word_at}
use Rattle.world_laws.specs.Receiver.{Receiver, SOAK_BUFFER_SIZE, waiting, takes_one}
use Rattle.world_laws.specs.RunEvents.{Application}

-- Four buffers are announced and queued, one after the other, and the stream is started.
abbrev pub soak_opens : List ScriptLine
soak_opens =
    line.announce SOAK_BUFFER_SIZE ∷ line.queue 0 1 ∷ line.announce SOAK_BUFFER_SIZE ∷ line.queue 1 1
    ∷ line.announce SOAK_BUFFER_SIZE ∷ line.queue 2 1 ∷ line.announce SOAK_BUFFER_SIZE ∷ line.queue 3 1 ∷ line.start ∷ []

-- Each of these buffers is taken and queued, and a last take finds nothing.
abbrev pub soak_takes : List Item → Receiver → List ScriptLine
soak_takes [] r = line.take ∷ []
soak_takes (x ∷ xs) r = line.take ∷ line.queue x.place (word_at r.board x.place).generation ∷ soak_takes xs (takes_one x r)

-- both
abbrev pub soak_application : Application Receiver
soak_application = record { opens = soak_opens; takes = λ r. soak_takes (waiting r.board) r }
