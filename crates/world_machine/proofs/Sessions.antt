-- What a camera keeps fits the session that lasts: its members were submitted in order, the kept command last.
use Rattle.std.proofs.Common.{◌≡◌, ℕ, suc, ◌<◌, Bool, true, false, List, [], ◌∷◌, ◌++◌, Option, Some, None, refl, arith}
use Rattle.std.specs.Prelude.{if◌then◌else◌, All}
use Rattle.std.proofs.lemmas.Bool.{eq-eqb}
use Rattle.std.proofs.lemmas.List.Elements.{All-cons, All-weaker}
use Rattle.gev_types.specs.declared.peer.Peer.{Peer}
use Rattle.gvcp_wire.specs.declared.message.CommandHead.{CommandHead}
use Rattle.gvcp_wire.specs.Messages.{PlainCommand}
use Rattle.bootstrap_regs.specs.Changes as changes
use Rattle.control_privilege.specs.declared.holder.Holder.{Holder}
use Rattle.control_privilege.specs.Control.{is_peer, is_primary, primary_of}
use Rattle.camera_machine.specs.Camera.{Kept, Camera, has_lost, released, looked}
use Rattle.camera_machine.specs.Access.{Write, written, change_of}
use Rattle.camera_machine.specs.Commands.{Executed, kept_of, finished}
use Rattle.camera_machine.proofs.Walk.{written_is, writes_keep, writes_in, executes, executes_is}
use Rattle.world_machine.specs.Sessions.{Sessions, with_ended, closed, begun, changed_by, all_changed_by, joined, after_look}
use Rattle.world_machine.proofs.Lists.{At, Within, within_more, within_push, at_more}

-- ---- what fits

-- the members were submitted, each after the one before
abbrev pub Rises : List (List ℕ) → List (List ℕ) → Type 0
Rises subs xs = (hi : ℕ) × Within subs 0 xs hi

abbrev pub HasFirst : List (List ℕ) → Type 0
HasFirst [] = ⊥
HasFirst (x ∷ xs) = Unit {0}

-- nobody has control
pub record IsFree (kept : Option Kept) (running : List (List ℕ)) : Type 0 where
  pub nothing_kept : kept ≡ None
  pub none_runs : running ≡ []

-- the client has control, and its session's members stand below a place
pub record Runs (peer : Peer) (subs : List (List ℕ)) (hi : ℕ) (primary : Peer) (running : List (List ℕ)) : Type 0 where
  pub peer_is : primary ≡ peer
  pub begun : HasFirst running
  pub rises : Within subs 0 running hi

-- the kept command is the session's last
pub record Serves (peer : Peer) (subs : List (List ℕ)) (primary : Peer) (k : Kept) (running : List (List ℕ)) : Type 0 where
  pub place : ℕ
  pub req_is : k.req ≡ suc place
  pub at : At subs place k.bytes
  pub runs : Runs peer subs (suc place) primary running

abbrev pub FitsAs : Peer → List (List ℕ) → Option Peer → Option Kept → List (List ℕ) → Type 0
FitsAs peer subs None kept running = IsFree kept running
FitsAs peer subs (Some primary) None running = ⊥
FitsAs peer subs (Some primary) (Some k) running = Serves peer subs primary k running

-- What the camera holds between commands fits its sessions.
pub record Fits (peer : Peer) (subs : List (List ℕ)) (s : Camera) (z : Sessions) : Type 0 where
  pub ended : All (Rises subs) z.ended
  pub state : FitsAs peer subs (primary_of s.holder) s.kept z.running

abbrev pub MidAs : Peer → List (List ℕ) → ℕ → Option Peer → Option Kept → List (List ℕ) → Type 0
MidAs peer subs hi None kept running = IsFree kept running
MidAs peer subs hi (Some primary) kept running = Runs peer subs hi primary running

-- the same within a command, whose place is below hi
pub record Mid (peer : Peer) (subs : List (List ℕ)) (hi : ℕ) (s : Camera) (z : Sessions) : Type 0 where
  pub ended : All (Rises subs) z.ended
  pub state : MidAs peer subs hi (primary_of s.holder) s.kept z.running

-- ---- releases

pub is_peer-refl : (p : Peer) → is_peer p p ≡ true
is_peer-refl p = rw (eq-eqb p.address p.address refl, eq-eqb p.port p.port refl) refl

ended_more : (subs running : List (List ℕ)) (ended : List (List (List ℕ))) → Rises subs running → All (Rises subs) ended → All (Rises subs) (with_ended running ended)
ended_more subs [] ended r h = h
ended_more subs (x ∷ xs) ended r h = All-cons (Rises subs) (x ∷ xs) ended r h

free_rises : (subs running : List (List ℕ)) → running ≡ [] → Rises subs running
free_rises subs running e = rw e (0, tt)

mid_rises : (peer : Peer) (subs : List (List ℕ)) (hi : ℕ) (primary : Option Peer) (kept : Option Kept) (running : List (List ℕ))
    → MidAs peer subs hi primary kept running → Rises subs running
mid_rises peer subs hi None kept running m = free_rises subs running m.none_runs
mid_rises peer subs hi (Some p) kept running m = (hi, m.rises)

fits_rises : (peer : Peer) (subs : List (List ℕ)) (primary : Option Peer) (kept : Option Kept) (running : List (List ℕ))
    → FitsAs peer subs primary kept running → Rises subs running
fits_rises peer subs None kept running m = free_rises subs running m.none_runs
fits_rises peer subs (Some p) None running m = absurd m
fits_rises peer subs (Some p) (Some k) running m = (suc m.place, m.runs.rises)

pub running_rises : (peer : Peer) (subs : List (List ℕ)) (s : Camera) (z : Sessions) → Fits peer subs s z → Rises subs z.running
running_rises peer subs s z f = fits_rises peer subs (primary_of s.holder) s.kept z.running f.state

mid_released : (peer : Peer) (subs : List (List ℕ)) (hi : ℕ) (s : Camera) (z : Sessions) → Mid peer subs hi s z → Mid peer subs hi (released s) (closed z)
mid_released peer subs hi s z m = record {
  ended = ended_more subs z.running z.ended (mid_rises peer subs hi (primary_of s.holder) s.kept z.running m.state) m.ended;
  state = record { nothing_kept = refl; none_runs = refl };
}

-- a look at the heartbeat
pub fits_looked : (peer : Peer) (subs : List (List ℕ)) (s : Camera) (moment : ℕ) (z : Sessions) → Fits peer subs s z
    → Fits peer subs (looked s moment) (after_look s moment z)
fits_looked peer subs s moment z f = go (has_lost s moment)
  where
    go : (b : Bool) → Fits peer subs (if b then released s else s) (if b then closed z else z)
    go true = record {
      ended = ended_more subs z.running z.ended (running_rises peer subs s z f) f.ended;
      state = record { nothing_kept = refl; none_runs = refl };
    }
    go false = f

-- ---- writes

runs_begun : (peer : Peer) (subs : List (List ℕ)) (place : ℕ) (primary : Option Peer) (kept : Option Kept) (running : List (List ℕ)) (bytes : List ℕ)
    → At subs place bytes → MidAs peer subs (suc place) primary kept running → Runs peer subs (suc place) peer (begun running bytes)
runs_begun peer subs place None kept running bytes at m =
    rw m.none_runs (record { peer_is = refl; begun = tt; rises = (place, omega arith, omega arith, at, tt) })
runs_begun peer subs place (Some p) kept [] bytes at m = absurd m.begun
runs_begun peer subs place (Some p) kept (x ∷ xs) bytes at m = record { peer_is = refl; begun = tt; rises = m.rises }

mid_written : (peer : Peer) (subs : List (List ℕ)) (place : ℕ) (bytes : List ℕ) (s : Camera) (z : Sessions) (moment : ℕ) (w : Write) → At subs place bytes
    → Mid peer subs (suc place) s z → Mid peer subs (suc place) (written s peer moment w) (changed_by bytes (change_of w) z)
mid_written peer subs place bytes s z moment w at m =
    written_is (λ t c. Mid peer subs (suc place) t (changed_by bytes c z)) s peer moment w (λ here. mid_released peer subs (suc place) s z m)
    (λ here v. rw v (record { ended = m.ended; state = runs_begun peer subs place (primary_of s.holder) s.kept z.running bytes at m.state }))
    (record { ended = m.ended; state = m.state }) (λ c q. rw c (record { ended = m.ended; state = m.state }))

-- ---- commands

mid_executes : (peer : Peer) (subs : List (List ℕ)) (place : ℕ) (bytes : List ℕ) (s : Camera) (z : Sessions) (moment : ℕ) (c : PlainCommand) → At subs place bytes
    → Mid peer subs (suc place) s z → Mid peer subs (suc place) (executes s peer moment c).camera (all_changed_by bytes (executes s peer moment c).changes z)
mid_executes peer subs place bytes s z moment c at m =
    executes_is (λ e. Mid peer subs (suc place) e.camera (all_changed_by bytes e.changes z)) s peer moment c (λ status body. m)
    (λ each. writes_keep (λ t cs. Mid peer subs (suc place) t (all_changed_by bytes cs z)) peer moment
    (λ t cs w e. mid_written peer subs place bytes t (all_changed_by bytes cs z) moment w at) s (writes_in c) m)

-- the command is kept where the client has control after it
fits_kept : (peer : Peer) (subs : List (List ℕ)) (place : ℕ) (k : Kept) (holder : Option Holder) (kept : Option Kept) (running : List (List ℕ))
    → k.req ≡ suc place → At subs place k.bytes → MidAs peer subs (suc place) (primary_of holder) kept running
    → FitsAs peer subs (primary_of holder) (if is_primary holder peer then Some k else kept) running
fits_kept peer subs place k None kept running r at m = m
fits_kept peer subs place k (Some h) kept running r at m =
    let own : is_peer h.peer peer ≡ true = rw m.peer_is (is_peer-refl peer) in
    rw own (record { place = place; req_is = r; at = at; runs = m })

fits_finished : (peer : Peer) (subs : List (List ℕ)) (place : ℕ) (bytes : List ℕ) (was_primary : Bool) (head : CommandHead) (e : Executed) (z : Sessions)
    → head.req ≡ suc place → At subs place bytes → Mid peer subs (suc place) e.camera z
    → Fits peer subs (finished was_primary peer bytes head e).camera z
fits_finished peer subs place bytes was_primary head e z r at m = record {
  ended = m.ended;
  state = fits_kept peer subs place (kept_of bytes head e) e.camera.holder e.camera.kept z.running r at m.state;
}

-- The command is none of the session yet: it comes after the kept one.
abbrev pub IsLater : Option Kept → ℕ → Type 0
IsLater None req = Unit {0}
IsLater (Some k) req = k.req < req

mid_joined : (peer : Peer) (subs : List (List ℕ)) (place : ℕ) (bytes : List ℕ) (holder : Option Holder) (kept : Option Kept) (running : List (List ℕ))
    → At subs place bytes → (is_primary holder peer ≡ true → IsLater kept (suc place)) → FitsAs peer subs (primary_of holder) kept running
    → MidAs peer subs (suc place) (primary_of holder) kept (if is_primary holder peer then running ++ bytes ∷ [] else running)
mid_joined peer subs place bytes None kept running at later f = f
mid_joined peer subs place bytes (Some h) None running at later f = absurd f
mid_joined peer subs place bytes (Some h) (Some k) running at later f =
    let own : is_peer h.peer peer ≡ true = rw f.runs.peer_is (is_peer-refl peer) in
    let after : k.req < suc place = later own in
    rw own (record {
      peer_is = f.runs.peer_is;
      begun = first running;
      rises = within_push subs 0 running (suc f.place) place (suc place) bytes f.runs.rises (omega (arith, f.req_is)) (omega arith) (omega arith) at;
    })
  where
    first : (xs : List (List ℕ)) → HasFirst (xs ++ bytes ∷ [])
    first [] = tt
    first (x ∷ xs) = tt

joined_parts : (was : Bool) (bytes : List ℕ) (z : Sessions) → joined was bytes z ≡ record z { running = if was then z.running ++ bytes ∷ [] else z.running }
joined_parts true bytes z = refl
joined_parts false bytes z = refl

-- the client's command is executed
pub fits_acts : (peer : Peer) (subs : List (List ℕ)) (place : ℕ) (bytes : List ℕ) (s : Camera) (z : Sessions) (moment : ℕ) (head : CommandHead) (c : PlainCommand)
    → head.req ≡ suc place → At subs place bytes → (is_primary s.holder peer ≡ true → IsLater s.kept (suc place)) → Fits peer subs s z
    → Fits peer subs (finished (is_primary s.holder peer) peer bytes head (executes s peer moment c)).camera
    (all_changed_by bytes (executes s peer moment c).changes (joined (is_primary s.holder peer) bytes z))
fits_acts peer subs place bytes s z moment head c r at later f =
    fits_finished peer subs place bytes (is_primary s.holder peer) head (executes s peer moment c)
    (all_changed_by bytes (executes s peer moment c).changes (joined (is_primary s.holder peer) bytes z)) r at
    (mid_executes peer subs place bytes s (joined (is_primary s.holder peer) bytes z) moment c at
    (rw (joined_parts (is_primary s.holder peer) bytes z) (record {
      ended = f.ended;
      state = mid_joined peer subs place bytes s.holder s.kept z.running at later f.state;
    })))

-- ---- steps that keep all of this

pub fits_quiet : (peer : Peer) (subs : List (List ℕ)) (s t : Camera) (z : Sessions) → primary_of t.holder ≡ primary_of s.holder → t.kept ≡ s.kept
    → Fits peer subs s z → Fits peer subs t z
fits_quiet peer subs s t z p k f = record { ended = f.ended; state = rw (p, k) f.state }

as_more : (peer : Peer) (subs more : List (List ℕ)) (primary : Option Peer) (kept : Option Kept) (running : List (List ℕ))
    → FitsAs peer subs primary kept running → FitsAs peer (subs ++ more) primary kept running
as_more peer subs more None kept running f = f
as_more peer subs more (Some p) None running f = absurd f
as_more peer subs more (Some p) (Some k) running f = record {
  place = f.place;
  req_is = f.req_is;
  at = at_more subs more f.place k.bytes f.at;
  runs = record { peer_is = f.runs.peer_is; begun = f.runs.begun; rises = within_more subs more 0 running (suc f.place) f.runs.rises };
}

pub fits_more : (peer : Peer) (subs more : List (List ℕ)) (s : Camera) (z : Sessions) → Fits peer subs s z → Fits peer (subs ++ more) s z
fits_more peer subs more s z f = record {
  ended = All-weaker (Rises subs) (Rises (subs ++ more)) (λ xs h. (h.0, within_more subs more 0 xs h.0 h.1)) z.ended f.ended;
  state = as_more peer subs more (primary_of s.holder) s.kept z.running f.state;
}
