-- What a datagram comes to, case by case: a property that is shown of each case holds of every command.
use Rattle.std.proofs.Common.{◌≡◌, ℕ, Bool, true, false, List, [], ◌∷◌, ◌++◌, length, Option, Some, None, Result, Ok, Err, refl, sym, ap, ◌∙◌, subst, append_assoc, append-nil, arith}
use Rattle.std.specs.Prelude.{◌≢◌, ◌/◌, ◌%◌, ◌==◌, ◌&&◌, ◌||◌, take, if◌then◌else◌}
use Rattle.std.specs.Option.{option_or}
use Rattle.std.proofs.lemmas.Bool.{eqb-true}
use Rattle.gev_types.specs.declared.peer.Peer.{Peer}
use Rattle.wire_fields.specs.Fields.{spelled}
use Rattle.gvcp_wire.specs.Codes.{PACKETRESEND_CMD, DISCOVERY_CMD}
use Rattle.gvcp_wire.specs.Control.{IsInTable}
use Rattle.gvcp_wire.specs.declared.message.CommandHead.{CommandHead}
use Rattle.gvcp_wire.specs.declared.message.ControlError.{ControlError}
use Rattle.gvcp_wire.specs.declared.message.ControlError.TheVariants.{Short, Key, ZeroReq, Length, Form}
use Rattle.gvcp_wire.specs.declared.status.Status.{Status}
use Rattle.gvcp_wire.specs.declared.status.Status.TheVariants.{Success, NotImplemented, InvalidParameter, InvalidHeader, BadAlignment}
use Rattle.gvcp_wire.specs.Status.{status_code}
use Rattle.gvcp_wire.specs.Messages.{PlainCommand, read_reg, write_reg, read_mem, write_mem, other}
use Rattle.gvcp_wire.specs.Reading.{command_reading}
use Rattle.gvcp_wire.proofs.Commands.{reads_command}
use Rattle.gvcp_wire.specs.declared.resend.Resend.{Resend}
use Rattle.bootstrap_regs.specs.Addresses.{CCP, SCP0, DISCOVERY_WORDS}
use Rattle.bootstrap_regs.specs.Registers.{address_refusal, value_refusal}
use Rattle.bootstrap_regs.specs.Words.{with_word, released_words}
use Rattle.bootstrap_regs.specs.Changes as changes
use Rattle.bootstrap_regs.specs.Changes.{Change}
use Rattle.control_privilege.specs.declared.holder.Holder.{Holder}
use Rattle.control_privilege.specs.Control.{is_primary, may_write, granted, renewed_by}
use Rattle.resend_store.specs.Shelf.{empty_shelf}
use Rattle.camera_machine.specs.Words.{bytes_of, addresses_from}
use Rattle.camera_machine.specs.Camera.{Kept, Camera, is_open, has_lost, released, looked}
use Rattle.camera_machine.specs.Access.{Write, denied_unless, refusal_of, with_port, written, change_of, write_all, ended_by, after_one, read_all, addresses_in, pairs_in, words_in}
use Rattle.camera_machine.specs.Stream.{with_reply, asked_again}
use Rattle.camera_machine.specs.Commands.{Executed, Answered, answered, read_answer, write_answer, read_memory, is_memory_size, ack_for, only_answered, silent, finished, executed_as, from_primary, same_bytes, is_behind, is_access, resend_in, resent, obeyed, renewed, heard, commanded}
use Rattle.camera_machine.specs.Sending.{asked_in}

-- ---- writes

-- what a write has that isn't refused
pub record IsAllowed (s : Camera) (peer : Peer) (w : Write) : Type 0 where
  pub address : address_refusal w.address ≡ None
  pub access : may_write s.holder peer (w.address == CCP) ≡ true
  pub value : value_refusal w.address w.value ≡ None

pub allowed : (s : Camera) (peer : Peer) (w : Write) → refusal_of s peer w ≡ None → IsAllowed s peer w
allowed s peer w = go (address_refusal w.address) refl (may_write s.holder peer (w.address == CCP)) refl
  where
    go : (a : Option Status) → address_refusal w.address ≡ a → (b : Bool) → may_write s.holder peer (w.address == CCP) ≡ b
        → option_or a (option_or (denied_unless b) (value_refusal w.address w.value)) ≡ None → IsAllowed s peer w
    go None a true b e = record { address = a; access = b; value = e }
    go None a false b e = absurd (cc)
    go (Some status) a b c e = absurd (cc)

-- A write does one of four things: it releases control, gives it, sets the host port, or sets another word.
pub written_is : (P : Camera → Change → Type 0) (s : Camera) (peer : Peer) (moment : ℕ) (w : Write) → (w.address ≡ CCP → P (released s) changes.released)
    → (w.address ≡ CCP → (w.value == 0) ≡ false
    → P (record s { words = with_word s.words CCP w.value; holder = granted peer w.value moment }) (changes.written CCP w.value))
    → P (with_port s w.value) (changes.written SCP0 w.value)
    → ((w.address == CCP) ≡ false → (w.address == SCP0) ≡ false → P (record s { words = with_word s.words w.address w.value }) (changes.written w.address w.value))
    → P (written s peer moment w) (change_of w)
written_is P s peer moment w releases grants port word = go (w.address == CCP) refl (w.address == SCP0) refl (w.value == 0) refl
  where
    go : (c : Bool) → (w.address == CCP) ≡ c → (p : Bool) → (w.address == SCP0) ≡ p → (z : Bool) → (w.value == 0) ≡ z
        → P (if c then (if z then released s else record s { words = with_word s.words CCP w.value; holder = granted peer w.value moment })
        else (if p then with_port s w.value else record s { words = with_word s.words w.address w.value }))
        (if c && z then changes.released else changes.written w.address w.value)
    go true c p q true z = releases (eqb-true w.address CCP c)
    go true c p q false z =
        let here : w.address ≡ CCP = eqb-true w.address CCP c in
        subst (λ (a : ℕ). P (record s { words = with_word s.words CCP w.value; holder = granted peer w.value moment }) (changes.written a w.value)) (sym here) (grants here z)
    go false c true q z v = subst (λ (a : ℕ). P (with_port s w.value) (changes.written a w.value)) (sym (eqb-true w.address SCP0 q)) port
    go false c false q z v = word c q

-- what each write keeps, of the camera and of what was changed so far, the latest first
abbrev pub KeptByWrites : (Camera → List Change → Type 0) → Peer → ℕ → Type 0
KeptByWrites Q peer moment =
    (s : Camera) (cs : List Change) (w : Write) → refusal_of s peer w ≡ None → Q s cs → Q (written s peer moment w) (change_of w ∷ cs)

writes_after : (Q : Camera → List Change → Type 0) (peer : Peer) (moment : ℕ) → KeptByWrites Q peer moment → (s : Camera) (cs : List Change) (ws : List Write) → Q s cs
    → Q (write_all s peer moment ws).camera ((write_all s peer moment ws).changes ++ cs)
writes_after Q peer moment f s cs [] h = h
writes_after Q peer moment f s cs (w ∷ ws) h =
    go (refusal_of s peer w) refl (λ e. writes_after Q peer moment f (written s peer moment w) (change_of w ∷ cs) ws (f s cs w e h))
  where
    go : (r : Option Status) → refusal_of s peer w ≡ r
        → (refusal_of s peer w ≡ None → Q (write_all (written s peer moment w) peer moment ws).camera ((write_all (written s peer moment w) peer moment ws).changes ++ change_of w ∷ cs))
        → Q (ended_by r s (after_one w (write_all (written s peer moment w) peer moment ws))).camera
        ((ended_by r s (after_one w (write_all (written s peer moment w) peer moment ws))).changes ++ cs)
    go None e k = rw append_assoc (k e)
    go (Some status) e k = h

pub writes_keep : (Q : Camera → List Change → Type 0) (peer : Peer) (moment : ℕ) → KeptByWrites Q peer moment → (s : Camera) (ws : List Write) → Q s []
    → Q (write_all s peer moment ws).camera (write_all s peer moment ws).changes
writes_keep Q peer moment f s ws h =
    subst (λ (cs : List Change). Q (write_all s peer moment ws).camera cs) (append-nil (write_all s peer moment ws).changes) (writes_after Q peer moment f s [] ws h)

-- ---- register and memory commands

abbrev pub IsRegister : PlainCommand → Type 0
IsRegister (read_reg addresses) = Unit {0}
IsRegister (write_reg pairs) = Unit {0}
IsRegister (read_mem address count) = Unit {0}
IsRegister (write_mem address data_bytes) = Unit {0}
IsRegister (other code body) = ⊥

-- the writes of a command, in order
abbrev pub writes_in : PlainCommand → List Write
writes_in (read_reg addresses) = []
writes_in (write_reg pairs) = pairs_in (length pairs / 8) pairs
writes_in (read_mem address count) = []
writes_in (write_mem address data_bytes) = words_in (length data_bytes / 4) address data_bytes
writes_in (other code body) = []

-- what executing a register or memory command leaves; any other leaves all as it is
abbrev pub executes : Camera → Peer → ℕ → PlainCommand → Executed
executes s peer moment (read_reg addresses) = read_answer s [] (read_all s peer (addresses_in (length addresses / 4) addresses))
executes s peer moment (write_reg pairs) = write_answer 1 (write_all s peer moment (pairs_in (length pairs / 8) pairs))
executes s peer moment (read_mem address count) = read_memory s peer address count
executes s peer moment (write_mem address data_bytes) = write_answer 4 (write_all s peer moment (words_in (length data_bytes / 4) address data_bytes))
executes s peer moment (other code body) = answered s Success []

-- It reads, and changes nothing, or it does its writes.
pub executes_is : (E : Executed → Type 0) (s : Camera) (peer : Peer) (moment : ℕ) (c : PlainCommand) → ((status : Status) (body : List ℕ) → E (answered s status body))
    → ((each : ℕ) → E (write_answer each (write_all s peer moment (writes_in c)))) → E (executes s peer moment c)
executes_is E s peer moment c reads writes = go c writes
  where
    read : (front : List ℕ) (r : Result (List ℕ) Status) → E (read_answer s front r)
    read front (Ok values) = reads Success (front ++ bytes_of values)
    read front (Err status) = reads status []

    memory : (address count : ℕ) (a b : Bool)
        → E (if a then (if b then read_answer s (spelled ((4, address) ∷ [])) (read_all s peer (addresses_from (count / 4) address)) else answered s InvalidParameter []) else answered s BadAlignment [])
    memory address count true true = read (spelled ((4, address) ∷ [])) (read_all s peer (addresses_from (count / 4) address))
    memory address count true false = reads InvalidParameter []
    memory address count false b = reads BadAlignment []

    go : (c : PlainCommand) → ((each : ℕ) → E (write_answer each (write_all s peer moment (writes_in c)))) → E (executes s peer moment c)
    go (read_reg addresses) writes = read [] (read_all s peer (addresses_in (length addresses / 4) addresses))
    go (write_reg pairs) writes = writes 1
    go (read_mem address count) writes = memory address count (address % 4 == 0) (is_memory_size count)
    go (write_mem address data_bytes) writes = writes 4
    go (other code body) writes = reads Success []

-- a register or memory command that was read has the code of one
pub register_code : (bytes : List ℕ) (head : CommandHead) (c : PlainCommand) → command_reading bytes ≡ Ok (head, c) → IsRegister c → is_access head.code ≡ true
register_code bytes head c e r = go c (((reads_command bytes).given head c).0 e).form.allowed r
  where
    go : (c : PlainCommand) → IsInTable head c → IsRegister c → is_access head.code ≡ true
    go (read_reg addresses) t r = rw t.0 refl
    go (write_reg pairs) t r = rw t.0 refl
    go (read_mem address count) t r = rw t refl
    go (write_mem address data_bytes) t r = rw t.0 refl
    go (other code body) t r = absurd r

-- ---- what a command comes to

-- What is answered where nothing else happens: nothing, the kept acknowledge, a refusal, or the words of DISCOVERY.
pub data Replies (s : Camera) (head : CommandHead) : Option (List ℕ) → Type 0 where
  nothing : Replies s head None
  again : (k : Kept) → s.kept ≡ Some k → Replies s head k.ack
  refused : (status : Status) → status_code status ≢ 0 → Replies s head (ack_for head status [])
  discovered : head.code ≡ DISCOVERY_CMD → Replies s head (ack_for head Success (bytes_of (take DISCOVERY_WORDS s.words)))

-- What has to be shown of a datagram that is a command, or one whose body hasn't the form of its code: only an answer goes out, packets
-- that are asked for again wait, or a register or memory command is executed.
pub record Outcomes (A : Answered → Type 0) (s : Camera) (peer : Peer) (bytes : List ℕ) (moment : ℕ) : Type 0 where
  pub replies : (head : CommandHead) (ack : Option (List ℕ)) → Replies s head ack → A (only_answered s ack)
  pub asks : (r : Resend) → is_primary s.holder peer ≡ true → asked_in (command_reading bytes) ≡ Some r → A (silent (with_reply s r))
  pub acts : (head : CommandHead) (c : PlainCommand) → command_reading bytes ≡ Ok (head, c) → IsRegister c
      → A (finished (is_primary s.holder peer) peer bytes head (executes s peer moment c))

-- the bytes are this command, or one whose body hasn't the form of its code
abbrev Reads : List ℕ → CommandHead → Option PlainCommand → Type 0
Reads bytes head (Some c) = command_reading bytes ≡ Ok (head, c)
Reads bytes head None = command_reading bytes ≡ Err (Form head)

any_of : (A : Answered → Type 0) (b : Bool) (x y : Answered) → A x → A y → A (if b then x else y)
any_of A true x y p q = p
any_of A false x y p q = q

executed_is : (A : Answered → Type 0) (s : Camera) (peer : Peer) (bytes : List ℕ) (moment : ℕ) (head : CommandHead) (c : Option PlainCommand) → Outcomes A s peer bytes moment
    → Reads bytes head c → A (executed_as s peer bytes moment head c)
executed_is A s peer bytes moment head None o e = o.replies head _ (refused InvalidHeader (λ z. omega arith))
executed_is A s peer bytes moment head (Some (read_reg addresses)) o e = o.acts head (read_reg addresses) e tt
executed_is A s peer bytes moment head (Some (write_reg pairs)) o e = o.acts head (write_reg pairs) e tt
executed_is A s peer bytes moment head (Some (read_mem address count)) o e = o.acts head (read_mem address count) e tt
executed_is A s peer bytes moment head (Some (write_mem address data_bytes)) o e = o.acts head (write_mem address data_bytes) e tt
executed_is A s peer bytes moment head (Some (other code body)) o e = go (head.code == DISCOVERY_CMD) refl
  where
    go : (b : Bool) → (head.code == DISCOVERY_CMD) ≡ b
        → A (if b then only_answered s (ack_for head Success (bytes_of (take DISCOVERY_WORDS s.words))) else only_answered s (ack_for head NotImplemented []))
    go true d = o.replies head _ (discovered (eqb-true head.code DISCOVERY_CMD d))
    go false d = o.replies head _ (refused NotImplemented (λ z. omega arith))

primary_is : (A : Answered → Type 0) (s : Camera) (peer : Peer) (bytes : List ℕ) (moment : ℕ) (head : CommandHead) (c : Option PlainCommand) (kept : Option Kept) → s.kept ≡ kept
    → Outcomes A s peer bytes moment → A (executed_as s peer bytes moment head c) → A (from_primary kept s peer bytes moment head c)
primary_is A s peer bytes moment head c None k o h = h
primary_is A s peer bytes moment head c (Some kept) k o h =
    any_of A (same_bytes bytes kept.bytes) (only_answered s kept.ack) (if is_behind kept.req head.req then silent s else executed_as s peer bytes moment head c)
    (o.replies head kept.ack (again kept k))
    (any_of A (is_behind kept.req head.req) (silent s) (executed_as s peer bytes moment head c) (o.replies head None nothing) h)

resent_is : (A : Answered → Type 0) (s : Camera) (peer : Peer) (bytes : List ℕ) (moment : ℕ) (head : CommandHead) (c : Option PlainCommand) → Outcomes A s peer bytes moment
    → Reads bytes head c → A (silent (resent s peer (resend_in head c)))
resent_is A s peer bytes moment head c o e = go (is_primary s.holder peer) refl (is_open s) (resend_in head c) (asked c e)
  where
    asked : (c : Option PlainCommand) → Reads bytes head c → (r : Resend) → resend_in head c ≡ Some r → asked_in (command_reading bytes) ≡ Some r
    asked None e r f = absurd (cc)
    asked (Some x) e r f = ap asked_in e ∙ f

    go : (p : Bool) → is_primary s.holder peer ≡ p → (b : Bool) (q : Option Resend) → ((r : Resend) → q ≡ Some r → asked_in (command_reading bytes) ≡ Some r)
        → A (silent (if p && b then asked_again s q else s))
    go true p true (Some r) f = o.asks r p (f r refl)
    go true p true None f = o.replies head None nothing
    go true p false q f = o.replies head None nothing
    go false p b q f = o.replies head None nothing

pub obeyed_is : (A : Answered → Type 0) (s : Camera) (peer : Peer) (bytes : List ℕ) (moment : ℕ) (head : CommandHead) (c : Option PlainCommand) → Outcomes A s peer bytes moment
    → Reads bytes head c → A (obeyed s peer bytes moment head c)
obeyed_is A s peer bytes moment head c o e =
    any_of A (head.code == PACKETRESEND_CMD) (silent (resent s peer (resend_in head c)))
    (if is_access head.code && is_primary s.holder peer then from_primary s.kept s peer bytes moment head c else executed_as s peer bytes moment head c)
    (resent_is A s peer bytes moment head c o e)
    (any_of A (is_access head.code && is_primary s.holder peer) (from_primary s.kept s peer bytes moment head c) (executed_as s peer bytes moment head c)
    (primary_is A s peer bytes moment head c s.kept refl o executes) executes)
  where
    executes : A (executed_as s peer bytes moment head c)
    executes = executed_is A s peer bytes moment head c o e

-- a datagram, after the look at the heartbeat
pub heard_is : (A : Answered → Type 0) (s : Camera) (peer : Peer) (bytes : List ℕ) (moment : ℕ) → A (silent s) → Outcomes A (renewed s peer moment) peer bytes moment
    → A (heard s peer bytes moment (command_reading bytes))
heard_is A s peer bytes moment dropped o = go (command_reading bytes) refl
  where
    go : (r : Result (CommandHead × PlainCommand) ControlError) → command_reading bytes ≡ r → A (heard s peer bytes moment r)
    go (Ok x) e = obeyed_is A (renewed s peer moment) peer bytes moment x.0 (Some x.1) o e
    go (Err (Form head)) e = obeyed_is A (renewed s peer moment) peer bytes moment head None o e
    go (Err (Short len)) e = dropped
    go (Err (Key key)) e = dropped
    go (Err ZeroReq) e = dropped
    go (Err (Length field real)) e = dropped

-- ---- properties of the camera alone

-- What keeps such a property: registers, control, and the kept command with its count don't matter to it; it stays where what waits is dropped,
-- where the frames that were sent are forgotten, and where a reply to such a request waits too.
pub record Stays (P : Camera → Type 0) (Asks : Resend → Type 0) : Type 0 where
  pub rest : (s : Camera) (words : List ℕ) (holder : Option Holder) (kept : Option Kept) (executed : ℕ) → P s
      → P (record s { words = words; holder = holder; kept = kept; executed = executed })
  pub dropped : (s : Camera) → P s → P (record s { waiting = [] })
  pub forgotten : (s : Camera) → P s → P (record s { shelf = empty_shelf s.shelf.room })
  pub replied : (s : Camera) (r : Resend) → Asks r → P s → P (with_reply s r)

stays_released : (P : Camera → Type 0) (Asks : Resend → Type 0) → Stays P Asks → (s : Camera) → P s → P (released s)
stays_released P Asks k s h = k.dropped _ (k.rest s (released_words s.words) None None s.executed h)

pub stays_looked : (P : Camera → Type 0) (Asks : Resend → Type 0) → Stays P Asks → (s : Camera) (moment : ℕ) → P s → P (looked s moment)
stays_looked P Asks k s moment h = go (has_lost s moment)
  where
    go : (b : Bool) → P (if b then released s else s)
    go true = stays_released P Asks k s h
    go false = h

stays_written : (P : Camera → Type 0) (Asks : Resend → Type 0) → Stays P Asks → (s : Camera) (peer : Peer) (moment : ℕ) (w : Write) → P s → P (written s peer moment w)
stays_written P Asks k s peer moment w h =
    written_is (λ t c. P t) s peer moment w (λ c. stays_released P Asks k s h)
    (λ c z. k.rest s (with_word s.words CCP w.value) (granted peer w.value moment) s.kept s.executed h)
    (port (is_open s || (w.value == 0)) (w.value == 0)) (λ c p. k.rest s (with_word s.words w.address w.value) s.holder s.kept s.executed h)
  where
    t : Camera
    t = record s { words = with_word s.words SCP0 w.value }

    has : P t
    has = k.rest s (with_word s.words SCP0 w.value) s.holder s.kept s.executed h

    port : (b z : Bool) → P (record t { shelf = if b then s.shelf else empty_shelf s.shelf.room; waiting = if z then [] else s.waiting })
    port true true = k.dropped t has
    port true false = has
    port false true = k.dropped _ (k.forgotten t has)
    port false false = k.forgotten t has

-- So each command keeps it, if what the command asks for again is such a request.
pub stays_commanded : (P : Camera → Type 0) (Asks : Resend → Type 0) → Stays P Asks → (s : Camera) (peer : Peer) (bytes : List ℕ) (moment : ℕ)
    → ((r : Resend) → asked_in (command_reading bytes) ≡ Some r → Asks r) → P s → P (commanded s peer bytes moment).camera
stays_commanded P Asks k s peer bytes moment asks h =
    heard_is (λ a. P a.camera) (looked s moment) peer bytes moment there (record {
      replies = λ head ack is. has;
      asks = λ r p e. k.replied t r (asks r e) has;
      acts = λ head c e is. k.rest _ _ _ _ _
          (executes_is (λ e. P e.camera) t peer moment c (λ status body. has)
          (λ each. writes_keep (λ v cs. P v) peer moment (λ v cs w e h. stays_written P Asks k v peer moment w h) t (writes_in c) has));
    })
  where
    there : P (looked s moment)
    there = stays_looked P Asks k s moment h

    t : Camera
    t = renewed (looked s moment) peer moment

    has : P t
    has = k.rest (looked s moment) (looked s moment).words (renewed_by (looked s moment).holder peer moment) (looked s moment).kept (looked s moment).executed there
