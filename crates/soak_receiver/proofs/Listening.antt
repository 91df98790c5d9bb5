-- A datagram that was heard, and a moment that was told, on an open stream.
use Rattle.std.proofs.Common.{◌≡◌, ℕ, ◌==◌, Bool, true, false, List, [], ◌∷◌, ◌++◌, refl, sym, ap, subst, ◌∙◌, eq-eqb}
use Rattle.std.specs.Prelude.{Option, None, Some, Result, Ok, if◌then◌else◌, map}
use Rattle.hex.specs.declared.error.FromHexError.{FromHexError}
use Rattle.hex.specs.Hex.{decode_of, encode_lower, IsBytes}
use Rattle.hex.proofs.HexLemmas.{decode_of-encode_lower}
use Rattle.gev_script.specs.Lines as line
use Rattle.gev_script.specs.Lines.{ScriptLine}
use Rattle.board_machine.specs.declared.events.Event.TheVariants.{Claim}
use Rattle.board_machine.specs.Machine.{Board}
use Rattle.board_machine.specs.Histories.{RunsFrom}
use Rattle.board_model.specs.Plain.{PlainState}
use Rattle.acquisition_machine.specs.declared.config.AcqConfig.{AcqConfig}
use Rattle.acquisition_machine.specs.declared.retired.Retired.{Retired}
use Rattle.acquisition_machine.specs.Blocks.{Given, fills}
use Rattle.acquisition_machine.specs.Machine.{Input, step, datagram, tick, request_bytes}
use Rattle.acquisition_machine.specs.Runs.{turn}
use Rattle.acquisition_machine.specs.TurnLaws.{asked_by}
use Rattle.acq_core.specs.declared.window.Window.{Window}
use Rattle.acq_core.specs.Receiver.{config_of, asked_block, Takes, KeepsBlocks, buffers}
use Rattle.acq_core.specs.Waiting.{waiting_fills, waiting_requests}
use Rattle.board_calls.specs.declared.mode.Mode.{Mode}
use Rattle.board_calls.specs.declared.mode.Mode.TheVariants.{OldestFirst}
use Rattle.script_trace.specs.Trace.{Trace, Part, board, grown, acquirer}
use Rattle.script_trace.specs.Adding.{Spells}
use Rattle.script_trace.specs.StreamLines.{Hears, HearsIfRunning, DatagramLine}
use Rattle.script_replay.specs.declared.fill_counts.FillCounts.{FillCounts}
use Rattle.script_replay.specs.declared.running.Running.{Running}
use Rattle.script_replay.specs.Acquiring.{IsAtRest, Drives, FillsAll, AreAway, lines_of}
use Rattle.script_replay.specs.Replays.{StandsAt, Goes}
use Rattle.script_replay.proofs.Claiming.{HearsIn}
use Rattle.script_replay.proofs.Decoding.{running_drives}
use Rattle.script_replay.proofs.Driving.{tick_drives, rests}
use Rattle.script_replay.proofs.Replaying.{drive_goes}
use Rattle.script_replay.proofs.Retiring.{keeps_twice}
use Rattle.world_laws.specs.Receiver.{Receiver, soak_config, hears, told, told_again, claims, claim_of, acts_on, fills_all}
use Rattle.soak_receiver.specs.Moves.{IsOpen, IsHosting, IsLeft, Moves, Asks, heard_line}
use Rattle.soak_receiver.proofs.Fillings.{LeavesOpen, fills_leave}
use Rattle.soak_receiver.proofs.Moving.{left_at, moves_by, hosting_by, StaysOpen}
use Rattle.soak_receiver.proofs.Retelling.{settles_left, hears_left}

-- ---- the stream stays open

fills_open : (xs : List Retired) (b : Board) → IsOpen b → IsOpen (fills_all xs b)
fills_open xs b opened =
    let leaves : LeavesOpen b (fills_all xs b) = fills_leave xs b opened.unclosed in
    record { unclosed = leaves.closed ∙ opened.unclosed; unkilled = leaves.kill ∙ opened.unkilled; running = leaves.run ∙ opened.running }

pub told_open : (i : Input) → StaysOpen (λ r. told i r)
told_open i r opened = fills_open (fills soak_config.p (step soak_config r.acquisition i).retired) r.board opened

claim_open : (b : Board) (claim : Option ℕ) → IsOpen b → IsOpen (acts_on acquirer (Claim claim ∷ []) b)
claim_open b None opened = opened
claim_open b (Some i) opened = record { unclosed = opened.unclosed; unkilled = opened.unkilled; running = opened.running }

again_open : (asked : Option ℕ) (bytes : List ℕ) → StaysOpen (λ r. told_again asked bytes r)
again_open None bytes r opened = opened
again_open (Some block) bytes r opened = told_open (datagram bytes) (claims r) (claim_open r.board (claim_of r.board) opened)

hears_open : (bytes : List ℕ) → StaysOpen (λ r. hears r bytes)
hears_open bytes r opened = go (r.board.run == 1)
  where
    again : Receiver
    again = told_again (asked_by (step soak_config r.acquisition (datagram bytes)).need) bytes (told (datagram bytes) r)

    go : (runs : Bool) → IsOpen (if runs then again else r).board
    go true = again_open (asked_by (step soak_config r.acquisition (datagram bytes)).need) bytes (told (datagram bytes) r) (told_open (datagram bytes) r opened)
    go false = opened

-- ---- a datagram

ok_same : (bytes found : List ℕ) (r : Result (List ℕ) FromHexError) → r ≡ Ok bytes → r ≡ Ok found → found ≡ bytes
ok_same bytes found r e d = cc

datagram_left : (t : Trace) (digits bytes : List ℕ) (part : Part) (r : Receiver) → t.mode ≡ OldestFirst → IsOpen (board t) → decode_of digits ≡ Ok bytes → DatagramLine soak_config t digits part → RunsFrom (board t) part.entries
    → IsLeft (grown t part) (hears (left_at t r) bytes)
datagram_left t digits bytes part r oldest opened is (found, decoded, heard) runs =
    subst (λ (on : Bool). IsLeft (grown t part) (if on then told_again asked bytes (told (datagram bytes) (left_at t r)) else left_at t r)) (sym running)
    (hears_left t bytes asked part r oldest opened.unclosed heard_so runs)
  where
    asked : Option ℕ
    asked = asked_by (turn soak_config t.inputs (datagram bytes)).need

    running : ((board t).run == 1) ≡ true
    running = eq-eqb (board t).run 1 opened.running

    heard_so : Hears soak_config t bytes asked part
    heard_so =
        subst (λ (on : Bool). HearsIfRunning soak_config t bytes on part) running
        (subst (λ bs. HearsIfRunning soak_config t bs ((board t).run == 1) part) (ok_same bytes found (decode_of digits) is decoded) heard)

-- the board that a trace leaves is open
pub open_at : (old : Running) (t : Trace) → IsHosting old → StandsAt old t → IsOpen (board t)
open_at old t hosting stands = subst IsOpen stands.behind.board.board.state hosting.opened

-- what hearing leaves
abbrev pub driven : Running → PlainState → Window → FillCounts → Running
driven old new_board acq counts = record old { board = new_board; acq = acq; counts = counts }

-- a line that is driven where waiting buffers stay is driven in the mode of a host
drives_in : (l : ScriptLine) (old : Running) (said : List ℕ) (new_board : PlainState) (acq : Window) (counts : FillCounts) → IsHosting old
    → Drives (λ t part. t.mode ≡ OldestFirst → Spells (config_of old.acq) t l part) 0 old.board old.acq old.counts said new_board acq counts
    → Drives (λ t part. t.mode ≡ old.mode → Spells (config_of old.acq) t l part) 0 old.board old.acq old.counts said new_board acq counts
drives_in l old said new_board acq counts hosting drives =
    subst (λ (mode : Mode). Drives (λ t part. t.mode ≡ mode → Spells (config_of old.acq) t l part) 0 old.board old.acq old.counts said new_board acq counts) (sym hosting.oldest_first) drives

-- the mode of a trace that a host stands behind
mode_at : (old : Running) (t : Trace) → IsHosting old → StandsAt old t → t.mode ≡ OldestFirst
mode_at old t hosting stands = sym stands.mode ∙ hosting.oldest_first

heard_goes : (old : Running) (bytes : List ℕ) (new_board : PlainState) (acq : Window) (counts : FillCounts) → IsHosting old → IsBytes bytes
    → Drives (HearsIn (config_of old.acq) OldestFirst bytes) 0 old.board old.acq old.counts [] new_board acq counts
    → IsAtRest new_board acq → config_of acq ≡ config_of old.acq → Goes (heard_line bytes) old [] (driven old new_board acq counts)
heard_goes old bytes new_board acq counts hosting small drives rest config =
    drive_goes (heard_line bytes) old [] new_board acq counts hosting.keeps
    (drives_in (heard_line bytes) old [] new_board acq counts hosting (running_drives (config_of old.acq) OldestFirst old.board new_board old.acq acq old.counts counts (encode_lower bytes) bytes (decode_of-encode_lower bytes small) hosting.opened.running drives)) rest config

pub heard_moves : (old : Running) (bytes : List ℕ) (new_board : PlainState) (acq : Window) (counts : FillCounts) → IsHosting old → IsBytes bytes
    → Drives (HearsIn (config_of old.acq) OldestFirst bytes) 0 old.board old.acq old.counts [] new_board acq counts
    → IsAtRest new_board acq → config_of acq ≡ config_of old.acq → Moves (heard_line bytes ∷ []) (λ r. hears r bytes) old (driven old new_board acq counts)
heard_moves old bytes new_board acq counts hosting small drives rest config =
    moves_by (heard_line bytes) (λ r. hears r bytes) old (driven old new_board acq counts) [] hosting (heard_goes old bytes new_board acq counts hosting small drives rest config)
    (λ t part r stands adds new_stands. datagram_left t (encode_lower bytes) bytes part r (mode_at old t hosting stands) (open_at old t hosting stands) (decode_of-encode_lower bytes small) adds.spells adds.runs)

pub heard_hosting : (old : Running) (bytes : List ℕ) (new_board : PlainState) (acq : Window) (counts : FillCounts) → IsHosting old → IsBytes bytes
    → Drives (HearsIn (config_of old.acq) OldestFirst bytes) 0 old.board old.acq old.counts [] new_board acq counts
    → IsAtRest new_board acq → config_of acq ≡ config_of old.acq → IsHosting (driven old new_board acq counts)
heard_hosting old bytes new_board acq counts hosting small drives rest config =
    hosting_by (heard_line bytes) (heard_line bytes ∷ []) (λ r. hears r bytes) old (driven old new_board acq counts) [] hosting (heard_goes old bytes new_board acq counts hosting small drives rest config) refl refl
    (heard_moves old bytes new_board acq counts hosting small drives rest config) (hears_open bytes)

-- ---- a moment

-- The receiver was told the moment, what retired was filled, and no request waits any more.
pub record IsTold (moment : ℕ) (old : Running) (new_board : PlainState) (mid fed acq : Window) (counts : FillCounts) : Type 0 where
  pub takes : Takes old.acq mid (tick moment)
  pub all : FillsAll OldestFirst (waiting_fills mid) old.board old.counts new_board counts
  pub keeps : KeepsBlocks mid fed
  pub requests : waiting_requests fed ≡ waiting_requests mid
  pub keeps_too : KeepsBlocks fed acq
  pub rest : IsAtRest new_board acq

moment_goes : (moment : ℕ) (old : Running) (new_board : PlainState) (mid fed acq : Window) (counts : FillCounts) → IsHosting old → IsTold moment old new_board mid fed acq counts
    → Goes (line.tick moment) old (lines_of (waiting_requests fed)) (driven old new_board acq counts)
moment_goes moment old new_board mid fed acq counts hosting is =
    drive_goes (line.tick moment) old (lines_of (waiting_requests fed)) new_board acq counts hosting.keeps
    (drives_in (line.tick moment) old (lines_of (waiting_requests fed)) new_board acq counts hosting
    (tick_drives OldestFirst old.board new_board old.acq mid fed acq old.counts counts moment [] (lines_of (waiting_requests fed)) hosting.keeps.rest is.takes is.all is.keeps is.requests is.keeps_too refl refl))
    is.rest (is.keeps_too.config ∙ (is.keeps.config ∙ is.takes.config))

pub moment_moves : (moment : ℕ) (old : Running) (new_board : PlainState) (mid fed acq : Window) (counts : FillCounts) → IsHosting old → IsTold moment old new_board mid fed acq counts
    → Moves (line.tick moment ∷ []) (λ r. told (tick moment) r) old (driven old new_board acq counts)
moment_moves moment old new_board mid fed acq counts hosting is =
    moves_by (line.tick moment) (λ r. told (tick moment) r) old (driven old new_board acq counts) (lines_of (waiting_requests fed)) hosting (moment_goes moment old new_board mid fed acq counts hosting is)
    (λ t part r stands adds new_stands. settles_left t (tick moment) _ part r (mode_at old t hosting stands) adds.spells adds.runs)

pub moment_hosting : (moment : ℕ) (old : Running) (new_board : PlainState) (mid fed acq : Window) (counts : FillCounts) → IsHosting old → IsTold moment old new_board mid fed acq counts
    → IsHosting (driven old new_board acq counts)
moment_hosting moment old new_board mid fed acq counts hosting is =
    hosting_by (line.tick moment) (line.tick moment ∷ []) (λ r. told (tick moment) r) old (driven old new_board acq counts) (lines_of (waiting_requests fed)) hosting (moment_goes moment old new_board mid fed acq counts hosting is) refl refl
    (moment_moves moment old new_board mid fed acq counts hosting is) (told_open (tick moment))

-- the requests of the moment are those that waited
pub moment_asks : (moment : ℕ) (old : Running) (mid fed : Window) (before after : List (List ℕ)) → IsHosting old → Takes old.acq mid (tick moment) → waiting_requests fed ≡ waiting_requests mid
    → after ≡ before ++ waiting_requests fed → Asks moment old before after
moment_asks moment old mid fed before after hosting takes same added t stands =
    added ∙ ap (λ rs. before ++ rs) (same ∙ (takes.requests t.inputs stands.behind.inputs
    ∙ (ap (λ rs. rs ++ map request_bytes (turn (config_of old.acq) t.inputs (tick moment)).requests) hosting.keeps.rest.no_request
    ∙ ap (λ (c : AcqConfig). map request_bytes (turn c t.inputs (tick moment)).requests) hosting.config)))

pub is_told : (moment : ℕ) (old : Running) (new_board : PlainState) (mid fed acq : Window) (counts : FillCounts) → IsHosting old → Takes old.acq mid (tick moment) → asked_block mid ≡ None
    → FillsAll OldestFirst (waiting_fills mid) old.board old.counts new_board counts → KeepsBlocks mid fed → waiting_requests fed ≡ waiting_requests mid → waiting_fills fed ≡ [] → AreAway new_board (buffers fed)
    → KeepsBlocks fed acq → waiting_fills acq ≡ waiting_fills fed → waiting_requests acq ≡ [] → IsTold moment old new_board mid fed acq counts
is_told moment old new_board mid fed acq counts hosting takes asked all keeps same no_fill away keeps_too fills_same no_request = record {
  takes = takes;
  all = all;
  keeps = keeps;
  requests = same;
  keeps_too = keeps_too;
  rest =
      rests (waiting_fills mid) old.board new_board old.acq mid acq (tick moment) hosting.keeps.rest takes (keeps_twice mid fed acq keeps keeps_too) asked hosting.keeps.rest.ready all (fills_same ∙ no_fill) no_request
      (subst (λ (gs : List Given). AreAway new_board gs) (sym keeps_too.buffers) away);
}
