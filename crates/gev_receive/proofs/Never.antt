-- Reader and application never ran.
use Rattle.std.proofs.Common.{◌≡◌, ℕ, ◌≤◌, List, [], Option, inl, refl, sym, subst}
use Rattle.board_machine.specs.declared.events.Entry.{Entry}
use Rattle.board_machine.specs.Histories.{Run}
use Rattle.buffer_words.specs.Passes.{Token}
use Rattle.live_crew.specs.Prepared.{FallsShort, SawOnly}
use Rattle.gev_acq.specs.Turns.{Outside}
use Rattle.camera_words.specs.declared.settings.Settings.{Settings}
use Rattle.first_leader.specs.declared.leading.FirstLeader.{FirstLeader}
use Rattle.gev_status.specs.declared.status.Status.TheVariants as status
use Rattle.frame_writing.specs.declared.receive_counts.ReceiveCounts.{ReceiveCounts}
use Rattle.gev_receive.specs.Answers.{StreamEnd, unread_end}
use Rattle.gev_receive.specs.Starting.{buffer_size, leader_counts}
use Rattle.gev_receive.specs.Frames.{NeverRan}

-- memory or a thread was wanting before there was a board
pub never_made : (settings : Settings) (leader : FirstLeader) (o : Outside) (stream control : ℕ) (app written : Option (List ℕ)) (faults : ℕ) (input : Option (List ℕ)) (misses : ℕ)
    (end : StreamEnd) (counts : ReceiveCounts) (h : List Entry) → 1 ≤ settings.buffers → end ≡ unread_end status.NoMemory → counts ≡ leader_counts settings leader → h ≡ []
    → NeverRan settings leader o o stream stream control control app app written written faults faults input input misses misses end counts h
never_made settings leader o stream control app written faults input misses end counts h some wanted counts_are none = record {
  wanted = wanted;
  events = [];
  short = record { ids = []; fewer = some; prepared = []; each = refl; last = []; looks = inl refl; is = refl };
  seen = none;
  run = subst Run (sym none) tt;
  untold = refl;
  stream_same = refl;
  control_same = refl;
  app_same = refl;
  unwritten = refl;
  no_fault = refl;
  undropped = refl;
  unmissed = refl;
  counts_are = counts_are;
}

-- memory was wanting for one of its buffers
pub never_prepared : (settings : Settings) (leader : FirstLeader) (o : Outside) (stream control : ℕ) (app written : Option (List ℕ)) (faults : ℕ) (input : Option (List ℕ)) (misses : ℕ)
    (end : StreamEnd) (counts : ReceiveCounts) (size : ℕ) (pass : Token) → size ≡ buffer_size settings leader → SawOnly (FallsShort size settings.buffers) pass → Run pass.seen
    → end ≡ unread_end status.NoMemory → counts ≡ leader_counts settings leader
    → NeverRan settings leader o o stream stream control control app app written written faults faults input input misses misses end counts pass.seen
never_prepared settings leader o stream control app written faults input misses end counts size pass size_is saw is_run wanted counts_are = record {
  wanted = wanted;
  events = saw.events;
  short = subst (λ (k : ℕ). FallsShort k settings.buffers saw.events) size_is saw.kind;
  seen = saw.seen;
  run = is_run;
  untold = refl;
  stream_same = refl;
  control_same = refl;
  app_same = refl;
  unwritten = refl;
  no_fault = refl;
  undropped = refl;
  unmissed = refl;
  counts_are = counts_are;
}
