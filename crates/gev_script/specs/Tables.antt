-- The words that stand for themselves: the first words of lines, and the acts of a step.
use Rattle.std.specs.Prelude.{ℕ, List, [], ◌∷◌, codes, Err, Ok, if◌then◌else◌}
use Rattle.std.specs.Str.{bytes_eq}
use Rattle.gev_script.specs.declared.act.Act.{Act}
use Rattle.gev_script.specs.declared.act.Act.TheVariants as act
use Rattle.gev_script.specs.declared.name.Name.{Name}
use Rattle.gev_script.specs.declared.name.Name.TheVariants as name
use Rattle.gev_script.specs.declared.kind.ScriptKind.TheVariants.{Word}
use Rattle.gev_script.specs.Words.{Read}

-- what stands in a table beside this word
abbrev pub row_of : {Row : Type 0} → List (List ℕ × Row) → List ℕ → Read Row
row_of [] word = Err Word
row_of (row ∷ rows) word = if bytes_eq word row.0 then Ok row.1 else row_of rows word

-- the later rows of the table of first words; those of the camera's scripts alone stand last
abbrev pub later_names : List (List ℕ × Name)
later_names =
    (codes "info", name.Info)
    ∷ (codes "binfo", name.BufferInfo)
    ∷ (codes "open", name.OpenChild)
    ∷ (codes "close", name.CloseAll)
    ∷ (codes "step", name.Step)
    ∷ (codes "mode", name.Mode)
    ∷ (codes "end", name.End)
    ∷ (codes "gevacq-camera", name.CameraHeader)
    ∷ (codes "c", name.Command)
    ∷ (codes "frame", name.Frame)
    ∷ []

-- the first words of lines
abbrev pub names : List (List ℕ × Name)
names =
    (codes "gevacq", name.Header)
    ∷ (codes "announce", name.Announce)
    ∷ (codes "queue", name.Queue)
    ∷ (codes "revoke", name.Revoke)
    ∷ (codes "flush", name.Flush)
    ∷ (codes "start", name.Start)
    ∷ (codes "stop", name.Stop)
    ∷ (codes "t", name.Tick)
    ∷ (codes "d", name.Datagram)
    ∷ (codes "take", name.Take)
    ∷ (codes "kill", name.Kill)
    ∷ (codes "event-flush", name.EventFlush)
    ∷ later_names

-- the acts that name no place
abbrev pub acts_alone : List (List ℕ × Act)
acts_alone =
    (codes "claim", act.Claim)
    ∷ (codes "take", act.Take)
    ∷ (codes "sweep-pool", act.SweepPool)
    ∷ (codes "sweep-out", act.SweepOut)
    ∷ (codes "close", act.Close)
    ∷ []

-- the acts on a place
abbrev pub acts_at_place : List (List ℕ × Act)
acts_at_place =
    (codes "grab", act.Grab)
    ∷ (codes "lay", act.Lay)
    ∷ (codes "pool", act.Pool)
    ∷ (codes "fill", act.Fill)
    ∷ []
