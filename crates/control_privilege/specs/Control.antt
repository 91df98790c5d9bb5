-- Who has control, and what it allows (GigE Vision 2.0, control channel privilege and heartbeat).
use Rattle.std.specs.Prelude.{ℕ, ◌+◌, Bool, false, ◌&&◌, not, ◌==◌, nat_le, Option, Some, None, if◌then◌else◌}
use Rattle.gev_types.specs.declared.peer.Peer.{Peer}
use Rattle.control_privilege.specs.declared.holder.Holder.{Holder}

abbrev pub is_peer : Peer → Peer → Bool
is_peer a b = (a.address == b.address) && (a.port == b.port)

-- whether this peer has control
abbrev pub is_primary : Option Holder → Peer → Bool
is_primary None peer = false
is_primary (Some h) peer = is_peer h.peer peer

-- whether another peer has control
abbrev pub is_other : Option Holder → Peer → Bool
is_other None peer = false
is_other (Some h) peer = not (is_peer h.peer peer)

abbrev pub is_exclusive : Option Holder → Bool
is_exclusive None = false
is_exclusive (Some h) = h.exclusive

abbrev pub primary_of : Option Holder → Option Peer
primary_of None = None
primary_of (Some h) = Some h.peer

-- ---- what a peer may do

-- whether a peer may read registers and memory: another peer with exclusive access keeps it from that
abbrev pub may_read : Option Holder → Peer → Bool
may_read holder peer = not (is_exclusive holder && is_other holder peer)

-- Whether a peer may write a word. CCP may be written by any peer while no other one has control, and
-- every other word by the peer that has control alone.
abbrev pub may_write : Option Holder → Peer → Bool → Bool
may_write holder peer ccp = if ccp then not (is_other holder peer) else is_primary holder peer

-- ---- how control comes, stays and goes

-- The peer that writes 1 to CCP gets exclusive access, and with 2 control access, from this moment on.
-- A write of 0 releases it.
abbrev pub granted : Peer → ℕ → ℕ → Option Holder
granted peer value moment =
    if value == 0 then None else Some (record { peer = peer; last = moment; exclusive = value == 1 })

-- what CCP holds
abbrev pub ccp_of : Option Holder → ℕ
ccp_of None = 0
ccp_of (Some h) = if h.exclusive then 1 else 2

-- the moment of a command becomes the last one of its sender, where that has control
abbrev pub renewed_by : Option Holder → Peer → ℕ → Option Holder
renewed_by None peer moment = None
renewed_by (Some h) peer moment = if is_peer h.peer peer then Some (record h { last = moment }) else Some h

-- whether the heartbeat ran out: the moment is at least so much after the last one
abbrev pub is_lost : Option Holder → ℕ → ℕ → Bool
is_lost None moment heartbeat = false
is_lost (Some h) moment heartbeat = nat_le (h.last + heartbeat) moment

abbrev pub ticked : Option Holder → ℕ → ℕ → Option Holder
ticked holder moment heartbeat = if is_lost holder moment heartbeat then None else holder
