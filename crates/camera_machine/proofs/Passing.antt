-- Control stays with the peer that has it until it's released or lost.
use Rattle.std.proofs.Common.{◌≡◌, ◌⊎◌, ℕ, suc, Bool, true, false, List, [], ◌∷◌, ◌++◌, length, Option, Some, None, refl, ap, sym, ◌∙◌, subst, inl, inr, arith}
use Rattle.std.specs.Prelude.{◌==◌, ◌||◌, not, if◌then◌else◌, IsTrue}
use Rattle.std.proofs.lemmas.Bool.{eqb-true, and_parts}
use Rattle.gev_types.specs.declared.peer.Peer.{Peer}
use Rattle.gvcp_wire.specs.declared.message.CommandHead.{CommandHead}
use Rattle.gvcp_wire.specs.declared.status.Status.{Status}
use Rattle.gvcp_wire.specs.Reading.{command_reading}
use Rattle.bootstrap_regs.specs.Addresses.{CCP}
use Rattle.bootstrap_regs.specs.Changes.{Change}
use Rattle.control_privilege.specs.declared.holder.Holder.{Holder}
use Rattle.control_privilege.specs.Control.{is_peer, is_primary, is_other, may_write}
use Rattle.camera_machine.specs.Camera.{Camera, is_open, has_lost, released}
use Rattle.camera_machine.specs.Access.{Write, refusal_of, written, change_of, write_all, ended_by, after_one}
use Rattle.camera_machine.specs.Stream.{with_frame, next_frame}
use Rattle.camera_machine.specs.Commands.{Executed, Answered, finished, renewed, heard, commanded}
use Rattle.camera_machine.specs.Events.{Event, command, tick, make_frame, next_packet, set_short, is_release}
use Rattle.camera_machine.specs.Primary.{OnePrimary, has_release, KeepsControl, Releases, ControlPasses, RefusedWriteEnds}
use Rattle.camera_machine.proofs.Walk.{allowed, written_is, writes_keep, writes_in, executes, executes_is, heard_is}

pub same_peer : (a b : Peer) → is_peer a b ≡ true → a ≡ b
same_peer a b e =
    let parts = and_parts (a.address == b.address) (a.port == b.port) e in
    let address : a.address ≡ b.address = eqb-true a.address b.address parts.0 in
    let port : a.port ≡ b.port = eqb-true a.port b.port parts.1 in
    let of : ℕ → ℕ → Peer = λ x y. record { address = x; port = y } in
    ap (λ (x : ℕ). of x a.port) address ∙ ap (λ (y : ℕ). of b.address y) port

pub one_primary : (s : Camera) → OnePrimary s
one_primary s p q = go s.holder
  where
    go : (holder : Option Holder) → IsTrue (is_primary holder p) → IsTrue (is_primary holder q) → p ≡ q
    go None a b = absurd (cc)
    go (Some h) a b = sym (same_peer h.peer p a) ∙ same_peer h.peer q b

-- ---- one write

abbrev Passes : Camera → Holder → Peer → List Change → Type 0
Passes s h peer cs = KeepsControl s h ⊎ Releases h peer cs

not_not : (b : Bool) → not (not b) ≡ true → b ≡ true
not_not true e = refl
not_not false e = e

or_true : (b c : Bool) → c ≡ true → b || c ≡ true
or_true true c e = refl
or_true false c e = e

may_set : (s : Camera) (h : Holder) (peer : Peer) → KeepsControl s h → may_write s.holder peer true ≡ true → peer ≡ h.peer
may_set s h peer k e =
    let other : not (is_other (Some k.holder) peer) ≡ true = subst (λ (o : Option Holder). not (is_other o peer) ≡ true) k.is e in
    sym (same_peer k.holder.peer peer (not_not (is_peer k.holder.peer peer) other)) ∙ k.same_peer

passes_written : (s : Camera) (h : Holder) (peer : Peer) (moment : ℕ) (cs : List Change) (w : Write) → refusal_of s peer w ≡ None → Passes s h peer cs
    → Passes (written s peer moment w) h peer (change_of w ∷ cs)
passes_written s h peer moment cs w e (inr r) = inr (record { own = r.own; release = or_true (is_release (change_of w)) (has_release cs) r.release })
passes_written s h peer moment cs w e (inl k) =
    written_is (λ t c. Passes t h peer (c ∷ cs)) s peer moment w
    (λ here. inr (record { own = own here; release = refl }))
    (λ here z. inl (record { holder = record { peer = peer; last = moment; exclusive = w.value == 1 }; is = rw z refl; same_peer = own here }))
    (inl (record { holder = k.holder; is = k.is; same_peer = k.same_peer }))
    (λ c q. inl (record { holder = k.holder; is = k.is; same_peer = k.same_peer }))
  where
    own : w.address ≡ CCP → peer ≡ h.peer
    own here = may_set s h peer k (rw here at (allowed s peer w e).access)

-- a refused write ends its command
pub refused_ends : (s : Camera) (peer : Peer) (moment : ℕ) (before : List Write) (w : Write) (rest : List Write) (status : Status)
    → RefusedWriteEnds s peer moment before w rest status
refused_ends s peer moment [] w rest status none e = record { left = rw e refl; done = refl }
refused_ends s peer moment (x ∷ before) w rest status none e =
    let both = go (refusal_of s peer x) (refused_ends (written s peer moment x) peer moment before w rest status) none e in
    record { left = both.0; done = both.1 }
  where
    go : (r : Option Status) → RefusedWriteEnds (written s peer moment x) peer moment before w rest status
        → (ended_by r s (after_one x (write_all (written s peer moment x) peer moment before))).refusal ≡ None
        → refusal_of (ended_by r s (after_one x (write_all (written s peer moment x) peer moment before))).camera peer w ≡ Some status
        → (ended_by r s (after_one x (write_all (written s peer moment x) peer moment (before ++ w ∷ rest)))
        ≡ record (ended_by r s (after_one x (write_all (written s peer moment x) peer moment before))) { refusal = Some status })
        × ((ended_by r s (after_one x (write_all (written s peer moment x) peer moment before))).done ≡ suc (length before))
    go None f none e = let l = f none e in (ap (after_one x) l.left, omega (arith, l.done))
    go (Some refusal) f none e = absurd (cc)

-- ---- commands

abbrev PassesIn : Answered → Holder → Peer → Type 0
PassesIn a h peer = Passes a.camera h peer a.changes

passes_finished : (was_primary : Bool) (peer : Peer) (bytes : List ℕ) (head : CommandHead) (e : Executed) (h : Holder)
    → Passes e.camera h peer e.changes → PassesIn (finished was_primary peer bytes head e) h peer
passes_finished was_primary peer bytes head e h (inl k) = inl (record { holder = k.holder; is = k.is; same_peer = k.same_peer })
passes_finished was_primary peer bytes head e h (inr r) = inr r

keeps_renewed : (s : Camera) (h : Holder) (peer : Peer) (moment : ℕ) → KeepsControl s h → KeepsControl (renewed s peer moment) h
keeps_renewed s h peer moment k = go (is_peer k.holder.peer peer) refl
  where
    go : (b : Bool) → is_peer k.holder.peer peer ≡ b → KeepsControl (renewed s peer moment) h
    go true e = record { holder = record k.holder { last = moment }; is = rw (k.is, e) refl; same_peer = k.same_peer }
    go false e = record { holder = k.holder; is = rw (k.is, e) refl; same_peer = k.same_peer }

passes_heard : (s : Camera) (h : Holder) (peer : Peer) (bytes : List ℕ) (moment : ℕ) → KeepsControl s h
    → PassesIn (heard s peer bytes moment (command_reading bytes)) h peer
passes_heard s h peer bytes moment k =
    heard_is (λ a. PassesIn a h peer) s peer bytes moment (inl k) (record {
      replies = λ head ack is. inl has;
      asks = λ r p e. inl (record { holder = has.holder; is = has.is; same_peer = has.same_peer });
      acts = λ head c e is. passes_finished (is_primary t.holder peer) peer bytes head (executes t peer moment c) h
          (executes_is (λ x. Passes x.camera h peer x.changes) t peer moment c (λ status body. inl has)
          (λ each. writes_keep (λ v cs. Passes v h peer cs) peer moment (λ v cs w. passes_written v h peer moment cs w) t (writes_in c) (inl has)));
    })
  where
    t : Camera
    t = renewed s peer moment

    has : KeepsControl t h
    has = keeps_renewed s h peer moment k

pub control_passes : (s : Camera) (e : Event) → ControlPasses s e
control_passes s (command peer bytes moment) h k = go (has_lost s moment) refl
  where
    here : KeepsControl s h
    here = record { holder = h; is = k; same_peer = refl }

    told : PassesIn (heard s peer bytes moment (command_reading bytes)) h peer
        → KeepsControl (heard s peer bytes moment (command_reading bytes)).camera h
        ⊎ (IsTrue false ⊎ Releases h peer (heard s peer bytes moment (command_reading bytes)).changes)
    told (inl x) = inl x
    told (inr r) = inr (inr r)

    go : (b : Bool) → has_lost s moment ≡ b
        → KeepsControl (commanded s peer bytes moment).camera h ⊎ (IsTrue (has_lost s moment) ⊎ Releases h peer (commanded s peer bytes moment).changes)
    go true e = inr (inl e)
    go false e = rw e (told (passes_heard s h peer bytes moment here))
control_passes s (tick moment) h k = go (has_lost s moment) refl
  where
    go : (b : Bool) → has_lost s moment ≡ b → KeepsControl (if b then released s else s) h ⊎ IsTrue (has_lost s moment)
    go true e = inr e
    go false e = inl (record { holder = h; is = k; same_peer = refl })
control_passes s make_frame h k = inl (go (is_open s))
  where
    go : (b : Bool) → KeepsControl (if b then with_frame s (next_frame s) else s) h
    go true = record { holder = h; is = k; same_peer = refl }
    go false = record { holder = h; is = k; same_peer = refl }
control_passes s next_packet h k = inl (record { holder = h; is = k; same_peer = refl })
control_passes s (set_short short) h k = inl (record { holder = h; is = k; same_peer = refl })
