-- How the counts of faults stand by the answer of a run.
use Rattle.std.proofs.Common.{◌≡◌, ◌≢◌, ◌⊎◌, inl, inr, ℕ, ◌≤◌, ◌<◌, ◌==◌, Bool, true, false, List, zero, suc, Option, Result, Ok, Err, refl, sym, subst, ◌∙◌, arith}
use Rattle.std.specs.Prelude.{nat_lt}
use Rattle.std.proofs.lemmas.Bool.{cond_both, ltb-true, ltb-false}
use Rattle.board_machine.specs.declared.events.Entry.{Entry}
use Rattle.gev_links.specs.Faults.{Rose}
use Rattle.gev_links.specs.Links.{Address}
use Rattle.gev_acq.specs.Turns.{Outside}
use Rattle.gev_acq.specs.Reading.{FaultsOf as ReadFaults}
use Rattle.gev_apply.specs.Looks.{Looked}
use Rattle.gev_control.specs.CarriesOut.{ControlSide}
use Rattle.camera_control.specs.declared.control_end.ControlEnd.{ControlEnd}
use Rattle.camera_control.specs.declared.control_end.ControlEnd.TheVariants as causes
use Rattle.camera_control.specs.declared.taken.Taken.{Taken}
use Rattle.camera_control.specs.declared.taken.NotTaken.{NotTaken}
use Rattle.camera_control.specs.Taking.{FailsAs, TakeFails}
use Rattle.camera_reader.specs.declared.reader_end.ReaderEnd.{ReaderEnd}
use Rattle.camera_reader.specs.declared.reader_end.ReaderEnd.TheVariants as reads
use Rattle.camera_reader.specs.Reading.{is_fault as read_fault}
use Rattle.camera_words.specs.declared.settings.Settings.{Settings}
use Rattle.camera_words.specs.declared.settings.Output.{Output}
use Rattle.camera_words.specs.declared.settings.Output.TheVariants.{Lines, Pictures, Counts}
use Rattle.first_leader.specs.declared.leading.FirstLeader.{FirstLeader}
use Rattle.first_leader.specs.declared.no_leader.NoLeader.{NoLeader}
use Rattle.first_leader.specs.declared.no_leader.NoLeader.TheVariants as waits
use Rattle.first_leader.specs.Waiting.{WaitSide, FaultsOf, is_fault}
use Rattle.frame_writing.specs.declared.handed_out.HandedEnd.{HandedEnd}
use Rattle.frame_writing.specs.declared.handed_out.HandedEnd.TheVariants as hands
use Rattle.frame_writing.specs.HandsOut.{EndsBy}
use Rattle.gev_status.specs.declared.status.Status.{Status}
use Rattle.gev_status.specs.declared.status.Status.TheVariants as status
use Rattle.frame_writing.specs.declared.receive_counts.ReceiveCounts.{ReceiveCounts}
use Rattle.gev_receive.specs.Answers.{rank, control_status, leader_status, reader_status, handed_status, leave_status, weightier, is_lost, is_told, StreamEnd}
use Rattle.gev_receive.specs.Ending.{has_last, WritesLast, EndsWith}
use Rattle.gev_receive.specs.Frames.{RanFrames, Runs}
use Rattle.gev_receive.specs.Receives.{Told, Streams, unled, undrawn, streamed, LeavesUnless, LeavesHeld, Meets, Receives}

-- ---- ranks

-- the rank of the weightier of two answers
abbrev Heavier : ℕ → ℕ → ℕ → Type 0
Heavier r first later = ((r ≡ later) × (later < first)) ⊎ ((r ≡ first) × (first ≤ later))

heavier : (first later : Status) → Heavier (rank (weightier first later)) (rank first) (rank later)
heavier first later =
    cond_both (nat_lt (rank later) (rank first)) later first (λ (s : Status). Heavier (rank s) (rank first) (rank later))
    (λ e. inl (refl, ltb-true (rank later) (rank first) e)) (λ e. inr (refl, ltb-false (rank later) (rank first) e))

-- an answer with this rank is that of a link that failed, or of a write that failed
pub is_link_fault : (answer : Status) → rank answer ≡ 0 → answer ≡ status.LinkFault
is_link_fault status.LinkFault is = refl
is_link_fault status.NoMemory is = absurd (omega (arith, is))
is_link_fault status.WriteFault is = absurd (omega (arith, is))
is_link_fault (status.NoPicture why) is = absurd (omega (arith, is))
is_link_fault (status.ControlLost frames) is = absurd (omega (arith, is))
is_link_fault (status.NoAnswer req) is = absurd (omega (arith, is))
is_link_fault (status.RefusedAt register code) is = absurd (omega (arith, is))
is_link_fault status.Controlled is = absurd (omega (arith, is))
is_link_fault (status.Silent frames) is = absurd (omega (arith, is))
is_link_fault status.Done is = absurd (omega (arith, is))
is_link_fault (status.Usage place) is = absurd (omega (arith, is))
is_link_fault (status.BadScript line kind) is = absurd (omega (arith, is))
is_link_fault (status.BadCapture number kind) is = absurd (omega (arith, is))
is_link_fault status.NoDescription is = absurd (omega (arith, is))
is_link_fault (status.NoDatagram port) is = absurd (omega (arith, is))
is_link_fault (status.Refused code) is = absurd (omega (arith, is))
is_link_fault (status.TurnsSpent turns frames) is = absurd (omega (arith, is))
is_link_fault status.ReadFault is = absurd (omega (arith, is))

pub is_write_fault : (answer : Status) → rank answer ≡ 2 → answer ≡ status.WriteFault
is_write_fault status.LinkFault is = absurd (omega (arith, is))
is_write_fault status.NoMemory is = absurd (omega (arith, is))
is_write_fault status.WriteFault is = refl
is_write_fault (status.NoPicture why) is = absurd (omega (arith, is))
is_write_fault (status.ControlLost frames) is = absurd (omega (arith, is))
is_write_fault (status.NoAnswer req) is = absurd (omega (arith, is))
is_write_fault (status.RefusedAt register code) is = absurd (omega (arith, is))
is_write_fault status.Controlled is = absurd (omega (arith, is))
is_write_fault (status.Silent frames) is = absurd (omega (arith, is))
is_write_fault status.Done is = absurd (omega (arith, is))
is_write_fault (status.Usage place) is = absurd (omega (arith, is))
is_write_fault (status.BadScript line kind) is = absurd (omega (arith, is))
is_write_fault (status.BadCapture number kind) is = absurd (omega (arith, is))
is_write_fault status.NoDescription is = absurd (omega (arith, is))
is_write_fault (status.NoDatagram port) is = absurd (omega (arith, is))
is_write_fault (status.Refused code) is = absurd (omega (arith, is))
is_write_fault (status.TurnsSpent turns frames) is = absurd (omega (arith, is))
is_write_fault status.ReadFault is = absurd (omega (arith, is))

-- with the last line there is a light answer
told_rank : (answer : Status) → is_told answer ≡ true → 4 ≤ rank answer
told_rank status.LinkFault is = absurd (cc)
told_rank status.NoMemory is = absurd (cc)
told_rank status.WriteFault is = absurd (cc)
told_rank (status.NoPicture why) is = absurd (cc)
told_rank (status.ControlLost frames) is = omega arith
told_rank (status.NoAnswer req) is = omega arith
told_rank (status.RefusedAt register code) is = omega arith
told_rank status.Controlled is = omega arith
told_rank (status.Silent frames) is = omega arith
told_rank status.Done is = omega arith
told_rank (status.Usage place) is = absurd (cc)
told_rank (status.BadScript line kind) is = absurd (cc)
told_rank (status.BadCapture number kind) is = absurd (cc)
told_rank status.NoDescription is = absurd (cc)
told_rank (status.NoDatagram port) is = absurd (cc)
told_rank (status.Refused code) is = absurd (cc)
told_rank (status.TurnsSpent turns frames) is = absurd (cc)
told_rank status.ReadFault is = absurd (cc)

last_rank : (output : Output) (answer : Status) → has_last output answer ≡ true → 4 ≤ rank answer
last_rank (Lines digest) answer is = told_rank answer is
last_rank Pictures answer is = absurd (cc)
last_rank Counts answer is = told_rank answer is

-- ---- by the rank of an answer

-- one of the two counts isn't 0
abbrev SomeFault : ℕ → ℕ → Type 0
SomeFault stream control = (1 ≤ stream) ⊎ (1 ≤ control)

-- a count that rose isn't 0
rose_some : (a b : ℕ) → Rose a b → 1 ≤ b
rose_some a b (inl less) = omega (arith, less)
rose_some a b (inr last) = omega (arith, last)

-- how the counts of the links and of the sink stand with an answer of this rank
pub record StandsBy (r stream stream_after control control_after faults faults_after : ℕ) : Type 0 where
  pub few : r ≤ 9
  pub stream_steady : 1 ≤ r → stream_after ≡ stream
  pub control_steady : 1 ≤ r → control_after ≡ control
  pub link_failed : r ≡ 0 → SomeFault stream_after control_after
  pub write_steady : 1 ≤ r → r ≢ 2 → faults_after ≡ faults
  pub write_failed : r ≡ 2 → Rose faults faults_after

-- of the links alone, by how one part ended that writes nothing
record LinksBy (r stream stream_after control control_after : ℕ) : Type 0 where
  few : r ≤ 9
  light : 1 ≤ r → 3 ≤ r
  stream_steady : 1 ≤ r → stream_after ≡ stream
  control_steady : 1 ≤ r → control_after ≡ control
  link_failed : r ≡ 0 → SomeFault stream_after control_after

-- of the control link alone
record ControlBy (r control control_after : ℕ) : Type 0 where
  few : r ≤ 9
  light : 1 ≤ r → 3 ≤ r
  control_steady : 1 ≤ r → control_after ≡ control
  link_failed : r ≡ 0 → 1 ≤ control_after

-- of the sink alone
record WritesBy (r faults faults_after : ℕ) : Type 0 where
  few : r ≤ 9
  some_rank : 1 ≤ r
  write_steady : r ≢ 2 → faults_after ≡ faults
  write_failed : r ≡ 2 → Rose faults faults_after

links_same : (r stream stream_after control control_after : ℕ) → r ≤ 9 → 3 ≤ r → stream_after ≡ stream → control_after ≡ control → LinksBy r stream stream_after control control_after
links_same r stream stream_after control control_after few light a b =
    record { few = few; light = λ _. light; stream_steady = λ _. a; control_steady = λ _. b; link_failed = λ is. absurd (omega (arith, is, light)) }

links_fault : (stream stream_after control control_after : ℕ) → (Rose stream stream_after × (control_after ≡ control)) ⊎ ((stream_after ≡ stream) × Rose control control_after)
    → LinksBy 0 stream stream_after control control_after
links_fault stream stream_after control control_after rose = record {
  few = omega arith;
  light = λ le. absurd (omega (arith, le));
  stream_steady = λ le. absurd (omega (arith, le));
  control_steady = λ le. absurd (omega (arith, le));
  link_failed = λ _. one rose;
}
  where
    one : (Rose stream stream_after × (control_after ≡ control)) ⊎ ((stream_after ≡ stream) × Rose control control_after) → SomeFault stream_after control_after
    one (inl x) = inl (rose_some stream stream_after x.0)
    one (inr x) = inr (rose_some control control_after x.1)

stands_so : (r stream stream_after control control_after faults faults_after : ℕ) → LinksBy r stream stream_after control control_after → faults_after ≡ faults
    → StandsBy r stream stream_after control control_after faults faults_after
stands_so r stream stream_after control control_after faults faults_after links same = record {
  few = links.few;
  stream_steady = links.stream_steady;
  control_steady = links.control_steady;
  link_failed = links.link_failed;
  write_steady = λ _ _. same;
  write_failed = λ is. let light = links.light (omega (arith, is)) in absurd (omega (arith, is, light));
}

-- ---- frames

read_links : (read : ReaderEnd) (frames taken stream stream_after control control_after : ℕ) → ReadFaults (read_fault read) stream stream_after control control_after
    → LinksBy (rank (reader_status read frames taken)) stream stream_after control control_after
read_links reads.Stopped frames taken stream stream_after control control_after same = links_same 9 stream stream_after control control_after (omega arith) (omega arith) same.0 same.1
read_links reads.Silent frames taken stream stream_after control control_after same =
    cond_both (taken == frames) status.Done (status.Silent taken) (λ (s : Status). LinksBy (rank s) stream stream_after control control_after)
    (λ _. links_same 9 stream stream_after control control_after (omega arith) (omega arith) same.0 same.1)
    (λ _. links_same 8 stream stream_after control control_after (omega arith) (omega arith) same.0 same.1)
read_links (reads.Ended causes.LinkFault) frames taken stream stream_after control control_after rose = links_fault stream stream_after control control_after rose
read_links (reads.Ended (causes.NoAnswer req)) frames taken stream stream_after control control_after same = links_same 5 stream stream_after control control_after (omega arith) (omega arith) same.0 same.1
read_links (reads.Ended (causes.RefusedAt register code)) frames taken stream stream_after control control_after same = links_same 6 stream stream_after control control_after (omega arith) (omega arith) same.0 same.1
read_links (reads.Ended causes.Controlled) frames taken stream stream_after control control_after same = links_same 7 stream stream_after control control_after (omega arith) (omega arith) same.0 same.1
read_links (reads.Ended causes.ControlLost) frames taken stream stream_after control control_after same = links_same 4 stream stream_after control control_after (omega arith) (omega arith) same.0 same.1

writes_same : (r faults faults_after : ℕ) → r ≤ 9 → 1 ≤ r → r ≢ 2 → faults_after ≡ faults → WritesBy r faults faults_after
writes_same r faults faults_after few some other same = record { few = few; some_rank = some; write_steady = λ _. same; write_failed = λ is. absurd (other is) }

handed_writes : (end : HandedEnd) (frames taken : ℕ) (output : Output) (made : List Looked) (written written_after : Option (List ℕ)) (faults faults_after : ℕ) (on : Bool) (left : Option (List ℕ))
    → EndsBy end frames output taken made written written_after faults faults_after on left → WritesBy (rank (handed_status end)) faults faults_after
handed_writes hands.Enough frames taken output made written written_after faults faults_after on left ends =
    writes_same 9 faults faults_after (omega arith) (omega arith) (λ e. absurd (omega (arith, e))) ends.2.1
handed_writes hands.Over frames taken output made written written_after faults faults_after on left ends =
    writes_same 9 faults faults_after (omega arith) (omega arith) (λ e. absurd (omega (arith, e))) ends.2.1
handed_writes hands.InputEnded frames taken output made written written_after faults faults_after on left ends =
    writes_same 9 faults faults_after (omega arith) (omega arith) (λ e. absurd (omega (arith, e))) ends.4.1
handed_writes hands.WriteFault frames taken output made written written_after faults faults_after on left ends =
    record { few = omega arith; some_rank = omega arith; write_steady = λ other. absurd (other refl); write_failed = λ _. ends.1 }
handed_writes hands.NoMemory frames taken output made written written_after faults faults_after on left ends =
    writes_same 1 faults faults_after (omega arith) (omega arith) (λ e. absurd (omega (arith, e))) ends.1

stands_both : (r a b stream stream_after control control_after faults faults_after : ℕ) → Heavier r a b → WritesBy a faults faults_after → LinksBy b stream stream_after control control_after
    → StandsBy r stream stream_after control control_after faults faults_after
stands_both r a b stream stream_after control control_after faults faults_after (inl later) writes links = record {
  few = omega (arith, later.0, links.few);
  stream_steady = λ some. links.stream_steady (omega (arith, later.0, some));
  control_steady = λ some. links.control_steady (omega (arith, later.0, some));
  link_failed = λ is. links.link_failed (omega (arith, later.0, is));
  write_steady = λ some _. let light = links.light (omega (arith, later.0, some)) in writes.write_steady (λ e. absurd (omega (arith, e, later.1, light)));
  write_failed = λ is. let light = links.light (omega (arith, later.0, is)) in absurd (omega (arith, is, later.0, light));
}
stands_both r a b stream stream_after control control_after faults faults_after (inr first) writes links = record {
  few = omega (arith, first.0, writes.few);
  stream_steady = λ _. links.stream_steady (omega (arith, first.1, writes.some_rank));
  control_steady = λ _. links.control_steady (omega (arith, first.1, writes.some_rank));
  link_failed = λ is. absurd (omega (arith, first.0, is, writes.some_rank));
  write_steady = λ _ other. writes.write_steady (λ e. absurd (other (omega (arith, first.0, e))));
  write_failed = λ is. writes.write_failed (omega (arith, first.0, is));
}

frames_stand : (settings : Settings) (camera : Address) (leader : FirstLeader) (resends : Bool) (o n : Outside) (stream stream_after control control_after : ℕ)
    (app app_after written written_after : Option (List ℕ)) (faults faults_after : ℕ) (input left : Option (List ℕ)) (misses misses_after : ℕ) (end : StreamEnd) (counts : ReceiveCounts) (h : List Entry)
    → RanFrames settings camera leader resends o n stream stream_after control control_after app app_after written written_after faults faults_after input left misses misses_after end counts h
    → StandsBy (rank end.status) stream stream_after control control_after faults faults_after
frames_stand settings camera leader resends o n stream stream_after control control_after app app_after written written_after faults faults_after input left misses misses_after end counts h ran =
    subst (λ (e : StreamEnd). StandsBy (rank e.status) stream stream_after control control_after faults faults_after) (sym ran.ended)
    (stands_both (rank (weightier (handed_status ran.handed.end) (reader_status ran.read settings.frames ran.handed.taken))) (rank (handed_status ran.handed.end))
    (rank (reader_status ran.read settings.frames ran.handed.taken)) stream stream_after control control_after faults faults_after
    (heavier (handed_status ran.handed.end) (reader_status ran.read settings.frames ran.handed.taken))
    (handed_writes ran.handed.end _ _ _ _ _ _ faults faults_after _ _ ran.ran.did_second.0.hands_out.ends)
    (read_links ran.read settings.frames ran.handed.taken stream stream_after control control_after ran.ran.did_first.2))

runs_stand : (settings : Settings) (camera : Address) (leader : FirstLeader) (resends : Bool) (o n : Outside) (stream stream_after control control_after : ℕ)
    (app app_after written written_after : Option (List ℕ)) (faults faults_after : ℕ) (input left : Option (List ℕ)) (misses misses_after : ℕ) (end : StreamEnd) (counts : ReceiveCounts) (h : List Entry)
    → Runs settings camera leader resends o n stream stream_after control control_after app app_after written written_after faults faults_after input left misses misses_after end counts h
    → StandsBy (rank end.status) stream stream_after control control_after faults faults_after
runs_stand settings camera leader resends o n stream stream_after control control_after app app_after written written_after faults faults_after input left misses misses_after end counts h (inl ran) =
    frames_stand settings camera leader resends o n stream stream_after control control_after app app_after written written_after faults faults_after input left misses misses_after end counts h ran
runs_stand settings camera leader resends o n stream stream_after control control_after app app_after written written_after faults faults_after input left misses misses_after end counts h (inr none) =
    subst (λ (e : StreamEnd). StandsBy (rank e.status) stream stream_after control control_after faults faults_after) (sym none.wanted) (record {
      few = omega arith;
      stream_steady = λ _. none.stream_same;
      control_steady = λ _. none.control_same;
      link_failed = λ is. absurd (omega (arith, is));
      write_steady = λ _ _. none.no_fault;
      write_failed = λ is. absurd (omega (arith, is));
    })

-- ---- the stream

leader_links : (found : Result FirstLeader NoLeader) (why : NoLeader) (stream stream_after control control_after : ℕ) → found ≡ Err why
    → FaultsOf (is_fault found) stream stream_after control control_after → LinksBy (rank (leader_status why)) stream stream_after control control_after
leader_links found why stream stream_after control control_after is faults =
    by why (subst (λ (f : Result FirstLeader NoLeader). FaultsOf (is_fault f) stream stream_after control control_after) is faults)
  where
    by : (why : NoLeader) → FaultsOf (is_fault (Err why)) stream stream_after control control_after → LinksBy (rank (leader_status why)) stream stream_after control control_after
    by waits.Silent same = links_same 8 stream stream_after control control_after (omega arith) (omega arith) same.0 same.1
    by waits.InputEnded same = links_same 9 stream stream_after control control_after (omega arith) (omega arith) same.0 same.1
    by (waits.Ended causes.LinkFault) rose = links_fault stream stream_after control control_after rose
    by (waits.Ended (causes.NoAnswer req)) same = links_same 5 stream stream_after control control_after (omega arith) (omega arith) same.0 same.1
    by (waits.Ended (causes.RefusedAt register code)) same = links_same 6 stream stream_after control control_after (omega arith) (omega arith) same.0 same.1
    by (waits.Ended causes.Controlled) same = links_same 7 stream stream_after control control_after (omega arith) (omega arith) same.0 same.1
    by (waits.Ended causes.ControlLost) same = links_same 4 stream stream_after control control_after (omega arith) (omega arith) same.0 same.1

leader_none : (found : Result FirstLeader NoLeader) (leader : FirstLeader) (stream stream_after control control_after : ℕ) → found ≡ Ok leader
    → FaultsOf (is_fault found) stream stream_after control control_after → (stream_after ≡ stream) × (control_after ≡ control)
leader_none found leader stream stream_after control control_after is faults =
    subst (λ (f : Result FirstLeader NoLeader). FaultsOf (is_fault f) stream stream_after control control_after) is faults

stands_behind : (r stream stream_mid stream_after control control_mid control_after faults faults_mid faults_after : ℕ) → stream_mid ≡ stream → control_mid ≡ control → faults_mid ≡ faults
    → StandsBy r stream_mid stream_after control_mid control_after faults_mid faults_after → StandsBy r stream stream_after control control_after faults faults_after
stands_behind r stream stream_mid stream_after control control_mid control_after faults faults_mid faults_after a b c stands =
    subst (λ (k : ℕ). StandsBy r k stream_after control control_after faults faults_after) a
    (subst (λ (k : ℕ). StandsBy r stream_mid stream_after k control_after faults faults_after) b
    (subst (λ (k : ℕ). StandsBy r stream_mid stream_after control_mid control_after k faults_after) c stands))

streams_stand : (settings : Settings) (camera : Address) (taken : Taken) (o n : WaitSide) (stream stream_after control control_after : ℕ)
    (app app_after written written_after : Option (List ℕ)) (faults faults_after : ℕ) (left : Option (List ℕ)) (h : List Entry) (end : StreamEnd) (counts : ReceiveCounts)
    → Streams settings camera taken o n stream stream_after control control_after app app_after written written_after faults faults_after left h end counts
    → StandsBy (rank end.status) stream stream_after control control_after faults faults_after
streams_stand settings camera taken o n stream stream_after control control_after app app_after written written_after faults faults_after left h end counts
    (unled found why awaits is input fails app_same unwritten no_fault none end_is counts_are) =
    subst (λ (e : StreamEnd). StandsBy (rank e.status) stream stream_after control control_after faults faults_after) (sym end_is)
    (stands_so (rank (leader_status why)) stream stream_after control control_after faults faults_after (leader_links found why stream stream_after control control_after is fails) no_fault)
streams_stand settings camera taken o n stream stream_after control control_after app app_after written written_after faults faults_after left h end counts
    (undrawn found leader why awaits is fails missing app_same unwritten no_fault none end_is counts_are) =
    let same = leader_none found leader stream stream_after control control_after is fails in
    subst (λ (e : StreamEnd). StandsBy (rank e.status) stream stream_after control control_after faults faults_after) (sym end_is)
    (stands_so 3 stream stream_after control control_after faults faults_after (links_same 3 stream stream_after control control_after (omega arith) (omega arith) same.0 same.1) no_fault)
streams_stand settings camera taken o n stream stream_after control control_after app app_after written written_after faults faults_after left h end counts
    (streamed found leader m stream_mid control_mid faults_mid written_mid input misses misses_after awaits is fails written_same faults_same drawn runs) =
    let same = leader_none found leader stream stream_mid control control_mid is fails in
    stands_behind (rank end.status) stream stream_mid stream_after control control_mid control_after faults faults_mid faults_after same.0 same.1 faults_same
    (runs_stand settings camera leader taken.resends _ _ stream_mid stream_after control_mid control_after _ _ _ _ faults_mid faults_after _ _ _ _ end _ _ runs)

-- ---- the camera

control_by : (cause : ControlEnd) (frames control control_after : ℕ) → FailsAs {A = Unit {0}} (Err cause) control control_after → ControlBy (rank (control_status cause frames)) control control_after
control_by causes.LinkFault frames control control_after rose = record {
  few = omega arith;
  light = λ le. absurd (omega (arith, le));
  control_steady = λ le. absurd (omega (arith, le));
  link_failed = λ _. rose_some control control_after rose;
}
control_by (causes.NoAnswer req) frames control control_after same =
    record { few = omega arith; light = λ _. omega arith; control_steady = λ _. same; link_failed = λ is. absurd (omega (arith, is)) }
control_by (causes.RefusedAt register code) frames control control_after same =
    record { few = omega arith; light = λ _. omega arith; control_steady = λ _. same; link_failed = λ is. absurd (omega (arith, is)) }
control_by causes.Controlled frames control control_after same =
    record { few = omega arith; light = λ _. omega arith; control_steady = λ _. same; link_failed = λ is. absurd (omega (arith, is)) }
control_by causes.ControlLost frames control control_after same =
    record { few = omega arith; light = λ _. omega arith; control_steady = λ _. same; link_failed = λ is. absurd (omega (arith, is)) }

leave_by : (result : Result (Unit {0}) ControlEnd) (frames control control_after : ℕ) → FailsAs result control control_after → ControlBy (rank (leave_status result frames)) control control_after
leave_by (Ok done) frames control control_after same =
    record { few = omega arith; light = λ _. omega arith; control_steady = λ _. same; link_failed = λ is. absurd (omega (arith, is)) }
leave_by (Err cause) frames control control_after fails = control_by cause frames control control_after fails

-- a count that isn't 0 isn't 0 behind it
some_then : (r control control_after : ℕ) → ControlBy r control control_after → 1 ≤ control → 1 ≤ control_after
some_then zero control control_after by some = by.link_failed refl
some_then (suc r) control control_after by some = let same = by.control_steady (omega arith) in omega (arith, same, some)

-- behind a part with an answer of the rank a the control link was used alone, with one of the rank b
stands_then : (r a b stream stream_after control control_mid control_after faults faults_after : ℕ) → Heavier r a b
    → StandsBy a stream stream_after control control_mid faults faults_after → ControlBy b control_mid control_after → StandsBy r stream stream_after control control_after faults faults_after
stands_then r a b stream stream_after control control_mid control_after faults faults_after (inl later) part by = record {
  few = omega (arith, later.0, by.few);
  stream_steady = λ some. part.stream_steady (omega (arith, later.0, later.1, some));
  control_steady = λ some. by.control_steady (omega (arith, later.0, some)) ∙ part.control_steady (omega (arith, later.0, later.1, some));
  link_failed = λ is. inr (by.link_failed (omega (arith, later.0, is)));
  write_steady = λ some _. let light = by.light (omega (arith, later.0, some)) in part.write_steady (omega (arith, later.1)) (λ e. absurd (omega (arith, e, later.1, light)));
  write_failed = λ is. let light = by.light (omega (arith, later.0, is)) in absurd (omega (arith, is, later.0, light));
}
stands_then r a b stream stream_after control control_mid control_after faults faults_after (inr first) part by = record {
  few = omega (arith, first.0, part.few);
  stream_steady = λ some. part.stream_steady (omega (arith, first.0, some));
  control_steady = λ some. by.control_steady (omega (arith, first.0, first.1, some)) ∙ part.control_steady (omega (arith, first.0, some));
  link_failed = λ is. one (part.link_failed (omega (arith, first.0, is)));
  write_steady = λ some other. part.write_steady (omega (arith, first.0, some)) (λ e. other (first.0 ∙ e));
  write_failed = λ is. part.write_failed (omega (arith, first.0, is));
}
  where
    one : SomeFault stream_after control_mid → SomeFault stream_after control_after
    one (inl some) = inl some
    one (inr some) = inr (some_then b control_mid control_after by some)

leaves_stand : (lost : Bool) (settings : Settings) (camera : Address) (heartbeat : Bool) (frames : ℕ) (first answer : Status) (o n : ControlSide)
    (stream stream_after control control_mid control_after faults faults_after : ℕ)
    → StandsBy (rank first) stream stream_after control control_mid faults faults_after
    → LeavesUnless lost settings camera heartbeat frames first o n control_mid control_after answer
    → StandsBy (rank answer) stream stream_after control control_after faults faults_after
leaves_stand true settings camera heartbeat frames first answer o n stream stream_after control control_mid control_after faults faults_after part leaves =
    subst (λ (s : Status). StandsBy (rank s) stream stream_after control control_after faults faults_after) (sym leaves.2)
    (subst (λ (k : ℕ). StandsBy (rank first) stream stream_after control k faults faults_after) (sym leaves.1) part)
leaves_stand false settings camera heartbeat frames first answer o n stream stream_after control control_mid control_after faults faults_after part leaves =
    subst (λ (s : Status). StandsBy (rank s) stream stream_after control control_after faults faults_after) (sym leaves.1.2)
    (stands_then (rank (weightier first (leave_status leaves.0 frames))) (rank first) (rank (leave_status leaves.0 frames)) stream stream_after control control_mid control_after faults faults_after
    (heavier first (leave_status leaves.0 frames)) part (leave_by leaves.0 frames control_mid control_after leaves.1.1))

held_stand : (held : Bool) (settings : Settings) (camera : Address) (cause : ControlEnd) (answer : Status) (o n : ControlSide)
    (stream stream_after control control_mid control_after faults faults_after : ℕ)
    → StandsBy (rank (control_status cause 0)) stream stream_after control control_mid faults faults_after
    → LeavesHeld held settings camera cause o n control_mid control_after answer
    → StandsBy (rank answer) stream stream_after control control_after faults faults_after
held_stand false settings camera cause answer o n stream stream_after control control_mid control_after faults faults_after part leaves =
    subst (λ (s : Status). StandsBy (rank s) stream stream_after control control_after faults faults_after) (sym leaves.2)
    (subst (λ (k : ℕ). StandsBy (rank (control_status cause 0)) stream stream_after control k faults faults_after) (sym leaves.1) part)
held_stand true settings camera cause answer o n stream stream_after control control_mid control_after faults faults_after part leaves =
    leaves_stand (is_lost cause) settings camera false 0 (control_status cause 0) answer o n stream stream_after control control_mid control_after faults faults_after part leaves

not_taken : (found : Result Taken NotTaken) (fault : NotTaken) (stream stream_after control control_after faults faults_after : ℕ) → found ≡ Err fault → TakeFails found control control_after
    → stream_after ≡ stream → faults_after ≡ faults → StandsBy (rank (control_status fault.end 0)) stream stream_after control control_after faults faults_after
not_taken found fault stream stream_after control control_after faults faults_after is fails same no_fault =
    stands_so (rank (control_status fault.end 0)) stream stream_after control control_after faults faults_after (links (by fails_so)) no_fault
  where
    fails_so : TakeFails (Err fault) control control_after
    fails_so = subst (λ (f : Result Taken NotTaken). TakeFails f control control_after) is fails

    by : TakeFails (Err fault) control control_after → ControlBy (rank (control_status fault.end 0)) control control_after
    by so = control_by fault.end 0 control control_after so

    links : ControlBy (rank (control_status fault.end 0)) control control_after → LinksBy (rank (control_status fault.end 0)) stream stream_after control control_after
    links c = record { few = c.few; light = c.light; stream_steady = λ _. same; control_steady = c.control_steady; link_failed = λ zero_rank. inr (c.link_failed zero_rank) }

meets_stand : (settings : Settings) (camera own : Address) (o n : WaitSide) (stream stream_after control control_after : ℕ)
    (app app_after written written_after : Option (List ℕ)) (faults faults_after : ℕ) (left : Option (List ℕ)) (h : List Entry) (answer : Status) (counts : ReceiveCounts)
    → Meets settings camera own o n stream stream_after control control_after app app_after written written_after faults faults_after left h answer counts
    → StandsBy (rank answer) stream stream_after control control_after faults faults_after
meets_stand settings camera own o n stream stream_after control control_after app app_after written written_after faults faults_after left h answer counts (inl x) =
    held_stand x.fault.held settings camera x.fault.end answer x.m _ stream stream_after control x.control_mid control_after faults faults_after
    (not_taken x.found x.fault stream stream_after control x.control_mid faults faults_after x.is x.take_fails x.stream_same x.no_fault) x.leaves
meets_stand settings camera own o n stream stream_after control control_after app app_after written written_after faults faults_after left h answer counts (inr x) =
    leaves_stand x.first.lost settings camera true counts.taken x.first.status answer _ _ stream stream_after control x.control_p control_after faults faults_after
    (subst (λ (k : ℕ). StandsBy (rank x.first.status) stream stream_after k x.control_p faults faults_after)
    (subst (λ (f : Result Taken NotTaken). TakeFails f control x.control_m) x.is x.take_fails)
    (streams_stand settings camera x.taken x.m x.p stream stream_after x.control_m x.control_p app app_after written written_after faults faults_after left h x.first counts x.streams))
    x.leaves

-- ---- the last line

last_stands : (first answer : Status) (line : List ℕ) (written written_after : Option (List ℕ)) (stream stream_after control control_after faults faults_mid faults_after : ℕ)
    → StandsBy (rank first) stream stream_after control control_after faults faults_mid → 4 ≤ rank first → WritesLast first line written written_after faults_mid faults_after answer
    → StandsBy (rank answer) stream stream_after control control_after faults faults_after
last_stands first answer line written written_after stream stream_after control control_after faults faults_mid faults_after part light (WritesLast.wrote appends same) =
    subst (λ (k : ℕ). StandsBy (rank first) stream stream_after control control_after faults k) (sym same) part
last_stands first answer line written written_after stream stream_after control control_after faults faults_mid faults_after part light (WritesLast.failed front rose) = record {
  few = omega arith;
  stream_steady = λ _. part.stream_steady (omega (arith, light));
  control_steady = λ _. part.control_steady (omega (arith, light));
  link_failed = λ is. absurd (omega (arith, is));
  write_steady = λ _ other. absurd (other refl);
  write_failed = λ _. subst (λ (k : ℕ). Rose k faults_after) (part.write_steady (omega (arith, light)) (λ e. absurd (omega (arith, e, light)))) rose;
}
last_stands first answer line written written_after stream stream_after control control_after faults faults_mid faults_after part light (WritesLast.lacked unwritten same) = record {
  few = omega arith;
  stream_steady = λ _. part.stream_steady (omega (arith, light));
  control_steady = λ _. part.control_steady (omega (arith, light));
  link_failed = λ is. absurd (omega (arith, is));
  write_steady = λ _ _. same ∙ part.write_steady (omega (arith, light)) (λ e. absurd (omega (arith, e, light)));
  write_failed = λ is. absurd (omega (arith, is));
}

ends_stand : (b : Bool) (first answer : Status) (line : List ℕ) (written written_after : Option (List ℕ)) (stream stream_after control control_after faults faults_mid faults_after : ℕ)
    → (b ≡ true → 4 ≤ rank first) → StandsBy (rank first) stream stream_after control control_after faults faults_mid → EndsWith b first answer line written written_after faults_mid faults_after
    → StandsBy (rank answer) stream stream_after control control_after faults faults_after
ends_stand true first answer line written written_after stream stream_after control control_after faults faults_mid faults_after light part last =
    last_stands first answer line written written_after stream stream_after control control_after faults faults_mid faults_after part (light refl) last
ends_stand false first answer line written written_after stream stream_after control control_after faults faults_mid faults_after light part none =
    subst (λ (s : Status). StandsBy (rank s) stream stream_after control control_after faults faults_after) (sym none.0)
    (subst (λ (k : ℕ). StandsBy (rank first) stream stream_after control control_after faults k) (sym none.2) part)

pub receives_stand : (settings : Settings) (camera own : Address) (o e : Told) (stream stream_after control control_after : ℕ)
    (written written_after : Option (List ℕ)) (faults faults_after : ℕ) (left : Option (List ℕ)) (h : List Entry) (answer : Status)
    → Receives settings camera own o e stream stream_after control control_after written written_after faults faults_after left h answer
    → StandsBy (rank answer) stream stream_after control control_after faults faults_after
receives_stand settings camera own o e stream stream_after control control_after written written_after faults faults_after left h answer x =
    ends_stand (has_last settings.output x.first) x.first answer _ x.written_mid written_after stream stream_after control control_after faults x.faults_mid faults_after
    (last_rank settings.output x.first)
    (meets_stand settings camera own _ _ stream stream_after control control_after _ _ written x.written_mid faults x.faults_mid left h x.first x.counts x.meets) x.finishes
