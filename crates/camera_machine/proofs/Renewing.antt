-- A command of the peer that has control renews its heartbeat, and one of another peer writes nothing.
use Rattle.std.proofs.Common.{◌≡◌, ℕ, Bool, true, false, List, Option, Some, None, Result, Ok, Err, refl, ap, sym, ◌∙◌}
use Rattle.std.specs.Prelude.{◌==◌, if◌then◌else◌}
use Rattle.std.specs.Option.{option_or}
use Rattle.std.proofs.lemmas.Bool.{eq-eqb}
use Rattle.gev_types.specs.declared.peer.Peer.{Peer}
use Rattle.gvcp_wire.specs.declared.message.CommandHead.{CommandHead}
use Rattle.gvcp_wire.specs.declared.message.ControlError.{ControlError}
use Rattle.gvcp_wire.specs.declared.message.ControlError.TheVariants.{Short, Key, ZeroReq, Length, Form}
use Rattle.gvcp_wire.specs.declared.status.Status.{Status}
use Rattle.gvcp_wire.specs.declared.status.Status.TheVariants.{AccessDenied}
use Rattle.gvcp_wire.specs.Messages.{PlainCommand}
use Rattle.gvcp_wire.specs.Reading.{command_reading}
use Rattle.bootstrap_regs.specs.Addresses.{CCP}
use Rattle.bootstrap_regs.specs.Changes.{Change}
use Rattle.bootstrap_regs.specs.Registers.{address_refusal, value_refusal}
use Rattle.control_privilege.specs.declared.holder.Holder.{Holder}
use Rattle.control_privilege.specs.Control.{renewed_by, is_peer, may_write, granted}
use Rattle.camera_machine.specs.Camera.{Camera}
use Rattle.camera_machine.specs.Access.{Write, refusal_of, written, change_of, denied_unless}
use Rattle.camera_machine.specs.Commands.{Answered, renewed, heard}
use Rattle.camera_machine.specs.Primary.{head_in}
use Rattle.camera_machine.specs.Renewing.{IsRenewed, CommandsRenew, StrangersAreRefused, OneControls}
use Rattle.camera_machine.proofs.Passing.{same_peer, control_passes}
use Rattle.camera_machine.proofs.Strangers.{stranger_changes}
use Rattle.camera_machine.proofs.Walk.{Outcomes, written_is, writes_keep, writes_in, executes_is, obeyed_is}

-- ---- who has control

some_is : (a h : Holder) → Some a ≡ Some h → a ≡ h
some_is a h e = cc

is_self : (a h : Holder) (peer : Peer) (moment : ℕ) → a.peer ≡ peer → a.last ≡ moment → Some a ≡ Some h → (h.peer ≡ peer) × (h.last ≡ moment)
is_self a h peer moment p m e =
    let same : h ≡ a = sym (some_is a h e) in
    (ap (λ (x : Holder). x.peer) same ∙ p, ap (λ (x : Holder). x.last) same ∙ m)

renewed_write : (s : Camera) (peer : Peer) (moment : ℕ) (w : Write) → IsRenewed s.holder peer moment → IsRenewed (written s peer moment w).holder peer moment
renewed_write s peer moment w has =
    written_is (λ t c. IsRenewed t.holder peer moment) s peer moment w (λ here h e. absurd cc) given has (λ c p. has)
  where
    given : w.address ≡ CCP → (w.value == 0) ≡ false → IsRenewed (granted peer w.value moment) peer moment
    given here z = rw z (λ h e. is_self (record { peer = peer; last = moment; exclusive = w.value == 1 }) h peer moment refl refl e)

renewed_self : (s : Camera) (h : Holder) (moment : ℕ) → s.holder ≡ Some h → IsRenewed (renewed s h.peer moment).holder h.peer moment
renewed_self s h moment k = rw k (go (is_peer h.peer h.peer) self)
  where
    self : is_peer h.peer h.peer ≡ true
    self = rw (eq-eqb h.peer.address h.peer.address refl, eq-eqb h.peer.port h.peer.port refl) refl

    go : (b : Bool) → b ≡ true → IsRenewed (if b then Some (record h { last = moment }) else Some h) h.peer moment
    go true e x f = is_self (record h { last = moment }) x h.peer moment refl refl f
    go false e x f = absurd cc

abbrev IsRenewedIn : Peer → ℕ → Answered → Type 0
IsRenewedIn peer moment a = IsRenewed a.camera.holder peer moment

pub commands_renew : (s : Camera) → CommandsRenew s
commands_renew s h bytes moment head k alive is = rw alive (go (command_reading bytes) refl is)
  where
    t : Camera
    t = renewed s h.peer moment

    has : IsRenewed t.holder h.peer moment
    has = renewed_self s h moment k

    outcomes : Outcomes (IsRenewedIn h.peer moment) t h.peer bytes moment
    outcomes = record {
      replies = λ head ack is. has;
      asks = λ r p e. has;
      acts = λ head c e is. executes_is (λ x. IsRenewed x.camera.holder h.peer moment) t h.peer moment c (λ status body. has)
          (λ each. writes_keep (λ v cs. IsRenewed v.holder h.peer moment) h.peer moment (λ v cs w e q. renewed_write v h.peer moment w q) t (writes_in c) has);
    }

    go : (r : Result (CommandHead × PlainCommand) ControlError) → command_reading bytes ≡ r → head_in r ≡ Some head → IsRenewedIn h.peer moment (heard s h.peer bytes moment r)
    go (Ok x) e f = obeyed_is (IsRenewedIn h.peer moment) t h.peer bytes moment x.0 (Some x.1) outcomes e
    go (Err (Form head)) e f = obeyed_is (IsRenewedIn h.peer moment) t h.peer bytes moment head None outcomes e
    go (Err (Short len)) e f = absurd cc
    go (Err (Key key)) e f = absurd cc
    go (Err ZeroReq) e f = absurd cc
    go (Err (Length field real)) e f = absurd cc

-- ---- all others

pub strangers_refused : (s : Camera) → StrangersAreRefused s
strangers_refused s h peer w k ne = rw k (go (is_peer h.peer peer) refl (w.address == CCP))
  where
    go : (b : Bool) → is_peer h.peer peer ≡ b → (c : Bool)
        → option_or (address_refusal w.address) (option_or (denied_unless (may_write (Some h) peer c)) (value_refusal w.address w.value))
        ≡ option_or (address_refusal w.address) (Some AccessDenied)
    go true e c = absurd (ne (sym (same_peer h.peer peer e)))
    go false e true = rw e refl
    go false e false = rw e refl

pub one_controls : (s : Camera) → OneControls s
one_controls s = record { keeps = control_passes s; refused = strangers_refused s; unchanged = stranger_changes s }
