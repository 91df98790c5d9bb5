-- What a world's schedule says of its control session, of its lines and of its datagrams.
use Rattle.std.proofs.Common.{◌≡◌, ◌⊎◌, inl, inr, ℕ, List, [], ◌∷◌, sym, subst}
use Rattle.std.specs.Prelude.{IfSome}
use Rattle.std.specs.List.{AllByRecursion, Contains}
use Rattle.gev_types.specs.declared.frame.Shape.{Shape}
use Rattle.gev_types.specs.declared.peer.Peer.{Peer}
use Rattle.stream_packets.specs.Packets.{StreamPacket}
use Rattle.gvsp_wire.specs.Plain.{AreBytes}
use Rattle.gvsp_wire.specs.Reading.{packet_of}
use Rattle.gev_script.specs.Lines as line
use Rattle.gev_script.specs.Lines.{ScriptLine}
use Rattle.acquisition_machine.proofs.Order.{all_append}
use Rattle.script_trace.proofs.BlockFills.{IsByOther}
use Rattle.script_trace.proofs.Promises.{traces_keep_by}
use Rattle.script_trace.specs.Laws.{IsInPlace}
use Rattle.script_trace.proofs.LinesGo.{lines_have_a_trace}
use Rattle.hex.proofs.HexLemmas.{decode_of-encode_lower}
use Rattle.world_machine.specs.Schedule.{Line, new_line, after, IsSchedule}
use Rattle.world_machine.proofs.Lines.{acts_once}
use Rattle.world_machine.specs.HostActs.{given_at, given_in, IsGiven}
use Rattle.world_machine.proofs.Fits.{none_in, head_in, tail_in, cons_in, kept_in}
use Rattle.world_laws.specs.Schedule.{WorldEvent, at_session, hears, passes, applies, session_acts, lines_of, host_lines, IsApplied, MayCome, IsWorld}
use Rattle.world_laws.specs.Laws.{CommandsActOnce, TraceKeepsPromises, ScheduleHasATrace}
use Rattle.world_laws.proofs.Digits.{read_back}
use Rattle.world_laws.proofs.Inputs.{Tells}
use Rattle.world_laws.proofs.GivenBytes.{given_bytes}

-- ---- the control session

pub session_is_schedule : (peer : Peer) (start : Line) (es : List WorldEvent) → IsWorld peer start es → IsSchedule peer start (session_acts es)
session_is_schedule peer start [] w = tt
session_is_schedule peer start (at_session a ∷ es) w = (w.0, session_is_schedule peer start es w.1)
session_is_schedule peer start (hears bytes ∷ es) w = session_is_schedule peer start es w.1
session_is_schedule peer start (passes moment ∷ es) w = session_is_schedule peer start es w.1
session_is_schedule peer start (applies l ∷ es) w = session_is_schedule peer start es w.1

pub commands_once : (seed : ℕ) (shape : Shape) (room : ℕ) (peer : Peer) (es : List WorldEvent) → CommandsActOnce seed shape room peer es
commands_once seed shape room peer es w few =
    acts_once seed shape room peer (session_acts es)
    (record { schedule = session_is_schedule peer (new_line seed shape room) es w; few = few })

-- ---- the lines

applied_by_other : (l : ScriptLine) → IsApplied l → IsByOther l
applied_by_other (line.step actor act place) is = is.actor_to
applied_by_other _ is = tt

event_lines : (peer : Peer) (start : Line) (es : List WorldEvent) (e : WorldEvent) → MayCome peer start es e → AllByRecursion IsByOther (lines_of e)
event_lines peer start es (at_session a) may = tt
event_lines peer start es (hears bytes) may = (tt, tt)
event_lines peer start es (passes moment) may = (tt, tt)
event_lines peer start es (applies l) may = (applied_by_other l may, tt)

pub lines_are_by_others : (peer : Peer) (start : Line) (es : List WorldEvent) → IsWorld peer start es → AllByRecursion IsByOther (host_lines es)
lines_are_by_others peer start [] w = tt
lines_are_by_others peer start (e ∷ es) w =
    all_append IsByOther (host_lines es) (lines_of e) (lines_are_by_others peer start es w.1) (event_lines peer start es e w.0)

pub trace_keeps : (seed : ℕ) (shape : Shape) (room : ℕ) (peer : Peer) (es : List WorldEvent) → TraceKeepsPromises seed shape room peer es
trace_keeps seed shape room peer es c t w is =
    traces_keep_by c (host_lines es) t is.window (lines_are_by_others peer (new_line seed shape room) es w) is.leads

-- ---- the datagrams

-- what was given by now stays so
given_later : (start : Line) (e : WorldEvent) (es : List WorldEvent) (bytes : List ℕ) → IsGiven (given_in start (session_acts es)) bytes
    → IsGiven (given_in start (session_acts (e ∷ es))) bytes
given_later start (at_session a) es bytes given = record {
  packet = given.packet;
  among = kept_in (given_in start (session_acts es)) (given_at (after start (session_acts es)) a) given.packet given.among;
  spelled = given.spelled;
}
given_later start (hears other) es bytes given = given
given_later start (passes moment) es bytes given = given
given_later start (applies l) es bytes given = given

given_here : (peer : Peer) (start : Line) (e : WorldEvent) (es : List WorldEvent) (bytes : List ℕ) → MayCome peer start es e → e ≡ hears bytes
    → IsGiven (given_in start (session_acts es)) bytes
given_here peer start (at_session a) es bytes may same = absurd cc
given_here peer start (hears other) es bytes may same =
    let equal : other ≡ bytes = cc in subst (IsGiven (given_in start (session_acts es))) equal may
given_here peer start (passes moment) es bytes may same = absurd cc
given_here peer start (applies l) es bytes may same = absurd cc

pub heard_is_given : (peer : Peer) (start : Line) (es : List WorldEvent) → IsWorld peer start es → (bytes : List ℕ) → Contains es (hears bytes)
    → IsGiven (given_in start (session_acts es)) bytes
heard_is_given peer start [] w bytes among = absurd (none_in (hears bytes) among)
heard_is_given peer start (e ∷ es) w bytes among =
    given_later start e es bytes (go (cons_in e (hears bytes) es among.0 among.1 among.2) (λ earlier. heard_is_given peer start es w.1 bytes earlier))
  where
    go : (e ≡ hears bytes) ⊎ Contains es (hears bytes) → (Contains es (hears bytes) → IsGiven (given_in start (session_acts es)) bytes)
        → IsGiven (given_in start (session_acts es)) bytes
    go (inl same) rest = given_here peer start e es bytes w.0 same
    go (inr earlier) rest = rest earlier

-- what each datagram that is heard is read as
abbrev ReadAs : (StreamPacket → Type 0) → List WorldEvent → Type 0
ReadAs P es = (bytes : List ℕ) → Contains es (hears bytes) → IfSome (packet_of bytes) P

applied_tells : (P : StreamPacket → Type 0) (l : ScriptLine) → IsApplied l → Tells P l
applied_tells P (line.datagram digits) is = absurd is
applied_tells P _ is = tt

event_tells : (P : StreamPacket → Type 0) (peer : Peer) (start : Line) (e : WorldEvent) (es : List WorldEvent) → MayCome peer start es e → ReadAs P (e ∷ es)
    → AllByRecursion (Tells P) (lines_of e)
event_tells P peer start (at_session a) es may read = tt
event_tells P peer start (hears bytes) es may read = (
  λ others decoded. subst (λ (l : List ℕ). IfSome (packet_of l) P) (sym (read_back bytes others decoded)) (read bytes (head_in (hears bytes) es)),
  tt,
)
event_tells P peer start (passes moment) es may read = (tt, tt)
event_tells P peer start (applies l) es may read = (applied_tells P l may, tt)

-- the lines of a world tell what it hears
pub lines_tell : (P : StreamPacket → Type 0) (peer : Peer) (start : Line) (es : List WorldEvent) → IsWorld peer start es → ReadAs P es
    → AllByRecursion (Tells P) (host_lines es)
lines_tell P peer start [] w read = tt
lines_tell P peer start (e ∷ es) w read =
    all_append (Tells P) (host_lines es) (lines_of e) (lines_tell P peer start es w.1 (λ bytes among. read bytes (tail_in e (hears bytes) es among)))
    (event_tells P peer start e es w.0 read)

-- ---- a trace

applied_in_place : (l : ScriptLine) → IsApplied l → IsInPlace l
applied_in_place (line.header config) is = absurd is
applied_in_place (line.tick moment) is = tt
applied_in_place (line.datagram digits) is = absurd is
applied_in_place (line.step actor act place) is = is
applied_in_place (line.mode n) is = absurd is
applied_in_place line.end_of_script is = absurd is
applied_in_place line.camera_header is = absurd is
applied_in_place (line.command peer digits) is = absurd is
applied_in_place line.frame is = absurd is
applied_in_place _ is = tt

-- what is heard are bytes
abbrev HearsBytes : List WorldEvent → Type 0
HearsBytes es = (bytes : List ℕ) → Contains es (hears bytes) → AreBytes bytes

event_in_place : (peer : Peer) (start : Line) (es : List WorldEvent) (e : WorldEvent) → MayCome peer start es e → HearsBytes (e ∷ es)
    → AllByRecursion IsInPlace (lines_of e)
event_in_place peer start es (at_session a) may small = tt
event_in_place peer start es (hears bytes) may small =
    ((bytes, decode_of-encode_lower bytes (small bytes (head_in (hears bytes) es))), tt)
event_in_place peer start es (passes moment) may small = (tt, tt)
event_in_place peer start es (applies l) may small = (applied_in_place l may, tt)

lines_in_place : (peer : Peer) (start : Line) (es : List WorldEvent) → IsWorld peer start es → HearsBytes es → AllByRecursion IsInPlace (host_lines es)
lines_in_place peer start [] w small = tt
lines_in_place peer start (e ∷ es) w small =
    all_append IsInPlace (host_lines es) (lines_of e)
    (lines_in_place peer start es w.1 (λ bytes among. small bytes (tail_in e (hears bytes) es among))) (event_in_place peer start es e w.0 small)

pub has_a_trace : (seed : ℕ) (shape : Shape) (room : ℕ) (peer : Peer) (es : List WorldEvent) → ScheduleHasATrace seed shape room peer es
has_a_trace seed shape room peer es c some w =
    let small : HearsBytes es = λ bytes among.
    given_bytes seed shape room (session_acts es) bytes (heard_is_given peer (new_line seed shape room) es w bytes among) in
    let found = lines_have_a_trace c (host_lines es) some (lines_in_place peer (new_line seed shape room) es w small) in
    (found.0, record { window = some; leads = found.1 })
