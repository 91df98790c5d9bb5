-- What the receiver of a soak run stands for: the receiver of the definitions, behind lines of a replay script.
use Rattle.std.specs.Prelude.{◌≡◌, ⊤, ℕ, Bool, true, false, List, [], ◌∷◌, ◌++◌, Ok}
use Rattle.std.specs.List.{AllByRecursion}
use Rattle.hex.specs.Hex.{decode_of}
use Rattle.gev_report.specs.ReplayLines.{take_line}
use Rattle.gev_script.specs.Lines as line
use Rattle.gev_script.specs.Lines.{ScriptLine}
use Rattle.board_machine.specs.Machine.{Item, word_at}
use Rattle.acquisition_machine.specs.Machine.{Input, datagram}
use Rattle.script_trace.specs.Trace.{Trace}
use Rattle.script_trace.specs.Adding.{Leads}
use Rattle.script_trace.specs.Opening.{opening}
use Rattle.script_trace.specs.Ending.{as_count}
use Rattle.script_trace.specs.Laws.{KeepsPromises}
use Rattle.board_machine.specs.Ids.{buffer_at}
use Rattle.script_replay.specs.declared.running.Running.{Running}
use Rattle.script_replay.specs.Replays.{StandsAt}
use Rattle.world_machine.specs.State.{HostNumbers}
use Rattle.world_laws.specs.Receiver.{Receiver, soak_config, takes_one}
use Rattle.soak_receiver.specs.declared.counts.SoakCounts.{SoakCounts}
use Rattle.soak_receiver.specs.Moves.{IsLeft}

-- what the code holds
pub record Hosting : Type 0 where
  pub running : Running
  -- how many buffers were taken, those of them with a complete record, and those without
  pub taken : ℕ
  pub complete : ℕ
  pub incomplete : ℕ

-- the lines that a host runs: those of its start, datagrams, moments, takes and queues
abbrev pub IsHostLine : ScriptLine → Type 0
IsHostLine (line.announce size) = ⊤
IsHostLine (line.queue place generation) = ⊤
IsHostLine line.start = ⊤
IsHostLine (line.tick moment) = ⊤
IsHostLine (line.datagram digits) = ⊤
IsHostLine line.take = ⊤
IsHostLine _ = ⊥

-- These lines led to a trace that leaves what the code holds, and that has the receiver's acquisition and board.
-- Its counts are the receiver's.
pub record HostStands (h : Hosting) (lines : List ScriptLine) (r : Receiver) : Type 0 where
  pub trace : Trace
  pub are : AllByRecursion IsHostLine lines
  pub leads : Leads soak_config opening lines trace
  pub stands : StandsAt h.running trace
  pub left : IsLeft trace r
  pub taken : h.taken ≡ as_count r.taken
  pub complete : h.complete ≡ as_count r.complete
  pub incomplete : h.incomplete ≡ as_count r.incomplete

-- What a take comes to, by what waits: false where there is nothing to take, else the first buffer's take line is
-- added, and the buffer is queued.
abbrev pub HostTakes : List Item → Bool → List ScriptLine → Receiver → List ℕ → List ℕ → Hosting → Type 0
HostTakes [] took lines r said said_after new =
    (took ≡ false) × (said_after ≡ said) × HostStands new (lines ++ line.take ∷ []) r
HostTakes (x ∷ xs) took lines r said said_after new =
    (took ≡ true) × (said_after ≡ said ++ take_line (buffer_at r.board x.place) x.filling)
    × HostStands new (lines ++ line.take ∷ line.queue x.place (word_at r.board x.place).generation ∷ []) (takes_one x r)

-- the counts as the world sees them
abbrev pub numbers_in : SoakCounts → HostNumbers
numbers_in n = record {
  taken = n.taken;
  complete = n.complete;
  incomplete = n.incomplete;
  underrun = n.underrun;
  requests = n.requests;
}

-- ---- laws

-- The trace behind which a host stands keeps the promises of each trace of a script: buffers that were taken hold
-- retired blocks, each once and in order.
abbrev pub HostsKeepPromises : Type 0
HostsKeepPromises =
    (h : Hosting) (lines : List ScriptLine) (r : Receiver) (stands : HostStands h lines r) → KeepsPromises soak_config stands.trace

-- the datagram is one that a line of these tells
abbrev pub IsHeardIn : List ScriptLine → Input → Type 0
IsHeardIn lines (datagram bytes) =
    (front : List ScriptLine) × (digits : List ℕ) × (back : List ScriptLine)
    × (lines ≡ front ++ line.datagram digits ∷ back) × (decode_of digits ≡ Ok bytes)
IsHeardIn lines _ = ⊤

-- Each datagram that the acquisition was told is one that a line tells.
abbrev pub InputsAreHeard : Type 0
InputsAreHeard =
    (h : Hosting) (lines : List ScriptLine) (r : Receiver) (stands : HostStands h lines r)
    → AllByRecursion (IsHeardIn lines) stands.trace.inputs
