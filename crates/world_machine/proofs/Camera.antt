-- What a datagram does to the sessions, and what was answered to whom, is kept in line with what was submitted.
use Rattle.std.proofs.Common.{◌≡◌, ◌⊎◌, ℕ, suc, ◌+◌, ◌-◌, ◌%◌, ◌^◌, ◌<◌, Bool, true, false, List, [], ◌∷◌, ◌++◌, length, Option, Some, None, Ok, refl, sym, ap, ◌∙◌, subst, inl, inr, arith}
use Rattle.std.specs.Prelude.{◌≢◌, ◌||◌, if◌then◌else◌}
use Rattle.std.specs.List.{Contains}
use Rattle.std.proofs.lemmas.Bool.{le-leb}
use Rattle.std.proofs.lemmas.List.Elements.{Contains-append_left, Contains-push}
use Rattle.gev_types.specs.declared.peer.Peer.{Peer}
use Rattle.gvcp_wire.specs.Status.{status_code}
use Rattle.gvcp_wire.specs.Messages.{PlainCommand, PlainAck}
use Rattle.gvcp_wire.specs.Reading.{command_reading, ack_reading}
use Rattle.gvcp_wire.specs.Answer.{plain_ack}
use Rattle.client_machine.specs.Commands.{code_of, head_for}
use Rattle.control_privilege.specs.declared.holder.Holder.{Holder}
use Rattle.control_privilege.specs.Control.{is_peer, is_primary, primary_of}
use Rattle.camera_machine.specs.Camera.{Kept, Camera, has_lost, looked, released}
use Rattle.camera_machine.specs.Commands.{Executed, Execution, Answered, ack_code, ack_for, kept_of, finished, is_behind, obeyed, renewed, commanded}
use Rattle.world_machine.specs.Sessions.{Sessions, all_changed_by, joined, executed_in, after_look}
use Rattle.world_machine.specs.Schedule.{with_last, IsNoAccess}
use Rattle.world_machine.proofs.Lists.{At, at_below, at_same, at_more}
use Rattle.world_machine.proofs.Clients.{IsNumbered}
use Rattle.camera_machine.proofs.Walk.{executes}
use Rattle.world_machine.proofs.Sessions.{is_peer-refl, FitsAs, Fits, IsLater, fits_looked, fits_acts, fits_quiet}
use Rattle.world_machine.proofs.Acks.{low_status, status_read, req_read, IsForeign, QuietAck, no_ack, kept_ack, foreign_ack}
use Rattle.world_machine.proofs.SessionTurns.{IsQuiet, Acts, Turn, client_turn, primary_renewed, is_primary_renewed, other_turn}

-- ---- acknowledges

-- The bytes answer the execution of a submitted command: whatever they're read as has its request number
-- and its status.
pub record Answers (subs : List (List ℕ)) (executed : List Execution) (bytes : List ℕ) : Type 0 where
  pub place : ℕ
  pub execution : Execution
  pub at : At subs place execution.kept.bytes
  pub among : Contains executed execution
  pub answered : execution.kept.ack ≡ Some bytes
  pub reads : (ack : PlainAck) → ack_reading bytes ≡ Ok ack → (ack.req ≡ suc place) × (ack.status ≡ status_code execution.status)

abbrev pub IsAnswer : List (List ℕ) → List Execution → List ℕ → Type 0
IsAnswer subs executed bytes = Answers subs executed bytes ⊎ IsForeign bytes

-- the kept acknowledge is one of these
abbrev pub KeptFits : List (List ℕ) → List Execution → Option Kept → Type 0
KeptFits subs executed kept = (k : Kept) (bytes : List ℕ) → kept ≡ Some k → k.ack ≡ Some bytes → IsAnswer subs executed bytes

pub answer_more : (subs more : List (List ℕ)) (executed : List Execution) (bytes : List ℕ) → IsAnswer subs executed bytes → IsAnswer (subs ++ more) executed bytes
answer_more subs more executed bytes (inl a) = inl (record {
  place = a.place;
  execution = a.execution;
  at = at_more subs more a.place a.execution.kept.bytes a.at;
  among = a.among;
  answered = a.answered;
  reads = a.reads;
})
answer_more subs more executed bytes (inr f) = inr f

pub answer_later : (subs : List (List ℕ)) (executed : List Execution) (next : Option Execution) (bytes : List ℕ) → IsAnswer subs executed bytes
    → IsAnswer subs (with_last executed next) bytes
answer_later subs executed None bytes a = a
answer_later subs executed (Some x) bytes (inl a) = inl (record {
  place = a.place;
  execution = a.execution;
  at = a.at;
  among = Contains-append_left executed (x ∷ []) a.execution a.among;
  answered = a.answered;
  reads = a.reads;
})
answer_later subs executed (Some x) bytes (inr f) = inr f

-- ---- a command that isn't behind the kept one

not_behind : (p place : ℕ) → p < 32767 → place < p → is_behind (suc p) (suc place) ≡ true
not_behind p place low less =
    let places : (suc p + 65535 - suc place) % 65535 ≡ p - place = omega arith in
    rw (places, le-leb 1 (p - place) (omega arith), le-leb (p - place) 32767 (omega arith)) refl

later_of : (peer : Peer) (subs : List (List ℕ)) (place : ℕ) (bytes : List ℕ) (primary : Option Peer) (kept : Option Kept) (running : List (List ℕ))
    → length subs < 32767 → At subs place bytes → FitsAs peer subs primary kept running
    → ((k : Kept) → kept ≡ Some k → (bytes ≢ k.bytes) × (is_behind k.req (suc place) ≡ false)) → IsLater kept (suc place)
later_of peer subs place bytes None kept running few at f new = rw f.nothing_kept tt
later_of peer subs place bytes (Some p) None running few at f new = tt
later_of peer subs place bytes (Some p) (Some k) running few at f new =
    let below : f.place < length subs = at_below subs f.place k.bytes f.at in
    omega (arith, f.req_is, less below)
  where
    other_place : place ≢ f.place
    other_place e = (new k refl).0 (at_same subs f.place bytes k.bytes (rw (← e) at) f.at)

    ahead : f.place < length subs → place < f.place → ⊥
    ahead below e =
        let behind : is_behind k.req (suc place) ≡ true = rw f.req_is (not_behind f.place place (omega (arith, below, few)) e) in
        let not_so : is_behind k.req (suc place) ≡ false = (new k refl).1 in
        cc

    less : f.place < length subs → f.place < place
    less below = omega (arith, other_place, ahead below)

-- ---- what a datagram does

-- What was answered and done fits, after a look at the heartbeat.
pub record Effect (peer : Peer) (subs : List (List ℕ)) (executed : List Execution) (was_primary : Bool) (bytes : List ℕ) (z : Sessions) (a : Answered) : Type 0 where
  pub fits : Fits peer subs a.camera (executed_in a.execution was_primary bytes a.changes z)
  pub ack : (x : List ℕ) → a.ack ≡ Some x → IsAnswer subs (with_last executed a.execution) x
  pub kept : KeptFits subs (with_last executed a.execution) a.camera.kept

quiet_answer : (subs : List (List ℕ)) (executed : List Execution) (kept : Option Kept) (o : Option (List ℕ)) (x : List ℕ) → KeptFits subs executed kept
    → o ≡ Some x → QuietAck kept o → IsAnswer subs executed x
quiet_answer subs executed kept o x f e (no_ack n) = let both : None ≡ Some x = sym n ∙ e in absurd (cc)
quiet_answer subs executed kept o x f e (kept_ack k is same) = f k x is (sym same ∙ e)
quiet_answer subs executed kept o x f e (foreign_ack y is foreign) =
    let both : Some y ≡ Some x = sym is ∙ e in
    let same : y ≡ x = cc in
    inr (subst IsForeign same foreign)

effect_quiet : (peer : Peer) (subs : List (List ℕ)) (executed : List Execution) (was_primary : Bool) (bytes : List ℕ) (s : Camera) (z : Sessions) (a : Answered)
    → Fits peer subs s z → KeptFits subs executed s.kept → IsQuiet s a → Effect peer subs executed was_primary bytes z a
effect_quiet peer subs executed was_primary bytes s z a f k q = record {
  fits = rw q.execution (fits_quiet peer subs s a.camera z q.primary q.kept f);
  ack = λ x e. rw q.execution (quiet_answer subs executed s.kept a.ack x k e q.ack);
  kept = λ l x is e. rw q.execution (k l x (sym q.kept ∙ is) e);
}

-- a register command's acknowledge
ack_is : (req : ℕ) (c : PlainCommand) (e : Executed) (x : List ℕ) → ack_for (head_for req c) e.status e.body ≡ Some x
    → plain_ack (record { status = status_code e.status; code = ack_code (code_of c); req = req; body = e.body }) ≡ x
ack_is req c e x is = cc

acts_answer : (subs : List (List ℕ)) (executed : List Execution) (place : ℕ) (was_primary : Bool) (peer : Peer) (bytes : List ℕ) (c : PlainCommand) (e : Executed) (x : List ℕ)
    → length subs < 32767 → At subs place bytes → ack_for (head_for (suc place) c) e.status e.body ≡ Some x
    → IsAnswer subs (with_last executed (finished was_primary peer bytes (head_for (suc place) c) e).execution) x
acts_answer subs executed place was_primary peer bytes c e x few at is = inl (record {
  place = place;
  execution = execution;
  at = at;
  among = Contains-push executed execution;
  answered = is;
  reads = λ ack r. reads ack (subst (λ (b : List ℕ). ack_reading b ≡ Ok ack) (sym (ack_is (suc place) c e x is)) r);
})
  where
    y : PlainAck
    y = record { status = status_code e.status; code = ack_code (code_of c); req = suc place; body = e.body }

    execution : Execution
    execution = record { peer = peer; kept = kept_of bytes (head_for (suc place) c) e; status = e.status; is_primary = is_primary e.camera.holder peer; counts = was_primary || e.has_granted }

    low : suc place < 2 ^ 16
    low = let below : place < length subs = at_below subs place bytes at in omega arith

    reads : (ack : PlainAck) → ack_reading (plain_ack y) ≡ Ok ack → (ack.req ≡ suc place) × (ack.status ≡ status_code e.status)
    reads ack r = (req_read y ack low r, status_read y ack (low_status e.status) r)

-- what is kept after it is the command itself
kept_after : (peer : Peer) (subs : List (List ℕ)) (k : Kept) (holder : Option Holder) (kept : Option Kept) (running : List (List ℕ))
    → FitsAs peer subs (primary_of holder) (if is_primary holder peer then Some k else kept) running → (l : Kept)
    → (if is_primary holder peer then Some k else kept) ≡ Some l → k ≡ l
kept_after peer subs k None kept running f l e = let both : None ≡ Some l = sym f.nothing_kept ∙ e in absurd (cc)
kept_after peer subs k (Some h) kept running f l e = go (is_peer h.peer peer) refl kept f e
  where
    go : (b : Bool) → is_peer h.peer peer ≡ b → (kept : Option Kept) → FitsAs peer subs (Some h.peer) (if b then Some k else kept) running
        → (if b then Some k else kept) ≡ Some l → k ≡ l
    go true own kept f e = cc
    go false own None f e = absurd f
    go false own (Some m) f e = let is : is_peer h.peer peer ≡ true = rw f.runs.peer_is (is_peer-refl peer) in absurd (cc)

effect_acts : (peer : Peer) (subs : List (List ℕ)) (executed : List Execution) (place : ℕ) (bytes : List ℕ) (s : Camera) (z : Sessions) (moment : ℕ) (c : PlainCommand) (a : Answered)
    → length subs < 32767 → At subs place bytes → Fits peer subs s z → Acts s peer bytes moment (head_for (suc place) c) c a
    → Effect peer subs executed (is_primary s.holder peer) bytes z a
effect_acts peer subs executed place bytes s z moment c a few at f acts = rw acts.is (record {
  fits = left;
  ack = answers;
  kept = λ l x is e. answers x (ap (λ (m : Kept). m.ack) (kept_after peer subs (kept_of bytes (head_for (suc place) c) done) done.camera.holder done.camera.kept after.running left.state l is) ∙ e);
})
  where
    done : Executed
    done = executes s peer moment c

    after : Sessions
    after = all_changed_by bytes done.changes (joined (is_primary s.holder peer) bytes z)

    later : is_primary s.holder peer ≡ true → IsLater s.kept (suc place)
    later p = later_of peer subs place bytes (primary_of s.holder) s.kept z.running few at f.state (λ k is. acts.new k p is)

    left : Fits peer subs (finished (is_primary s.holder peer) peer bytes (head_for (suc place) c) done).camera after
    left = fits_acts peer subs place bytes s z moment (head_for (suc place) c) c refl at later f

    answers : (x : List ℕ) → ack_for (head_for (suc place) c) done.status done.body ≡ Some x
        → IsAnswer subs (with_last executed (finished (is_primary s.holder peer) peer bytes (head_for (suc place) c) done).execution) x
    answers x e = acts_answer subs executed place (is_primary s.holder peer) peer bytes c done x few at e

-- ---- a datagram that reaches the camera

pub kept_looked : (subs : List (List ℕ)) (executed : List Execution) (s : Camera) (moment : ℕ) → KeptFits subs executed s.kept
    → KeptFits subs executed (looked s moment).kept
kept_looked subs executed s moment k = go (has_lost s moment)
  where
    go : (b : Bool) → KeptFits subs executed (if b then released s else s).kept
    go true = λ l x is e. absurd (cc is)
    go false = k

-- one of the client's commands
pub effect_client : (peer : Peer) (subs : List (List ℕ)) (executed : List Execution) (place : ℕ) (bytes : List ℕ) (s : Camera) (z : Sessions) (moment : ℕ)
    → length subs < 32767 → At subs place bytes → IsNumbered bytes (suc place) → Fits peer subs s z → KeptFits subs executed s.kept
    → Effect peer subs executed (is_primary (looked s moment).holder peer) bytes (after_look s moment z) (commanded s peer bytes moment)
effect_client peer subs executed place bytes s z moment few at n f k =
    rw n.read (go (client_turn t peer bytes moment (suc place) n.command n.access))
  where
    t : Camera
    t = renewed (looked s moment) peer moment

    now : Sessions
    now = after_look s moment z

    fits : Fits peer subs t now
    fits = fits_quiet peer subs (looked s moment) t now (primary_renewed (looked s moment).holder peer moment) refl (fits_looked peer subs s moment z f)

    answer : Answered
    answer = obeyed t peer bytes moment (head_for (suc place) n.command) (Some n.command)

    go : Turn t peer bytes moment (head_for (suc place) n.command) n.command answer
        → Effect peer subs executed (is_primary (looked s moment).holder peer) bytes now answer
    go (inl q) = effect_quiet peer subs executed (is_primary (looked s moment).holder peer) bytes t now answer fits (kept_looked subs executed s moment k) q
    go (inr a) =
        subst (λ (b : Bool). Effect peer subs executed b bytes now answer) (is_primary_renewed (looked s moment).holder peer moment)
        (effect_acts peer subs executed place bytes t now moment n.command answer few at fits a)

-- anything else, from anyone
pub effect_other : (peer : Peer) (subs : List (List ℕ)) (executed : List Execution) (from : Peer) (bytes : List ℕ) (s : Camera) (z : Sessions) (moment : ℕ)
    → IsNoAccess (command_reading bytes) → Fits peer subs s z → KeptFits subs executed s.kept
    → Effect peer subs executed (is_primary (looked s moment).holder from) bytes (after_look s moment z) (commanded s from bytes moment)
effect_other peer subs executed from bytes s z moment n f k =
    effect_quiet peer subs executed (is_primary (looked s moment).holder from) bytes (looked s moment) (after_look s moment z) (commanded s from bytes moment)
    (fits_looked peer subs s moment z f) (kept_looked subs executed s moment k) (other_turn (looked s moment) from bytes moment n)
