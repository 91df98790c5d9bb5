-- What acts do with the control, and the laws of it.
use Rattle.std.specs.Prelude.{◌≡◌, ◌≢◌, ◌⊎◌, ℕ, ◌+◌, ◌<◌, ◌≤◌, true, IsTrue, Option, Some, None}
use Rattle.gev_types.specs.declared.peer.Peer.{Peer}
use Rattle.control_privilege.specs.declared.holder.Holder.{Holder}
use Rattle.control_privilege.specs.Control.{is_primary, may_write, granted, ccp_of, renewed_by, ticked}

pub data Act : Type 0 where
  -- a look at the heartbeat, at a moment with this timeout
  looks : ℕ → ℕ → Act
  -- a command of a peer at a moment
  commands : Peer → ℕ → Act
  -- a write of a peer to CCP, with its value and its moment
  sets : Peer → ℕ → ℕ → Act

abbrev pub after : Option Holder → Act → Option Holder
after holder (looks moment heartbeat) = ticked holder moment heartbeat
after holder (commands peer moment) = renewed_by holder peer moment
after holder (sets peer value moment) = granted peer value moment

-- the conditions of the calls
abbrev pub IsAllowed : Option Holder → Act → Type 0
IsAllowed holder (looks moment heartbeat) = Unit {0}
IsAllowed holder (commands peer moment) = Unit {0}
IsAllowed holder (sets peer value moment) = IsTrue (may_write holder peer true) × (value ≤ 2)

-- the act releases the holder's control, or finds that its heartbeat ran out
abbrev pub EndsControl : Holder → Act → Type 0
EndsControl h (looks moment heartbeat) = h.last + heartbeat ≤ moment
EndsControl h (commands peer moment) = ⊥
EndsControl h (sets peer value moment) = (peer ≡ h.peer) × (value ≡ 0)

-- ---- laws

-- at most one peer has control
abbrev pub OnePrimary : Type 0
OnePrimary = (holder : Option Holder) (p q : Peer) → IsTrue (is_primary holder p) → IsTrue (is_primary holder q) → p ≡ q

-- The peer that has control has it after the act too.
pub record KeepsControl (h : Holder) (act : Act) : Type 0 where
  pub holder : Holder
  pub is : after (Some h) act ≡ Some holder
  pub same_peer : holder.peer ≡ h.peer

-- Nobody has control after the act, which ended it.
pub record LosesControl (h : Holder) (act : Act) : Type 0 where
  pub nobody : after (Some h) act ≡ None
  pub cause : EndsControl h act

-- Control passes to another peer only after it was released or lost.
abbrev pub ControlPasses : Type 0
ControlPasses = (h : Holder) (act : Act) → IsAllowed (Some h) act → KeepsControl h act ⊎ LosesControl h act

-- what CCP holds is what was last written to it
abbrev pub PrivilegeIsWritten : Type 0
PrivilegeIsWritten = (peer : Peer) (value moment : ℕ) → value ≤ 2 → ccp_of (granted peer value moment) ≡ value

-- A command of the peer that has control keeps it alive: at each moment before the heartbeat's time after the command it
-- has control, and from then on it hasn't.
pub record LivesOn (h : Holder) (moment heartbeat : ℕ) : Type 0 where
  pub alive : (later : ℕ) → later < moment + heartbeat
      → ticked (after (Some h) (commands h.peer moment)) later heartbeat ≡ Some (record h { last = moment })
  pub lost : (later : ℕ) → moment + heartbeat ≤ later → ticked (after (Some h) (commands h.peer moment)) later heartbeat ≡ None

abbrev pub CommandsKeepAlive : Type 0
CommandsKeepAlive = (h : Holder) (moment heartbeat : ℕ) → LivesOn h moment heartbeat

-- One of another peer doesn't.
abbrev pub OthersKeepNothingAlive : Type 0
OthersKeepNothingAlive = (h : Holder) (peer : Peer) (moment : ℕ) → peer ≢ h.peer → after (Some h) (commands peer moment) ≡ Some h
