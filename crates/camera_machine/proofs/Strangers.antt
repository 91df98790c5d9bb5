-- While a peer has control, another peer changes nothing.
use Rattle.std.proofs.Common.{◌≡◌, ℕ, Bool, true, false, List, [], ◌∷◌, Option, Some, None, refl, ap, sym, ◌∙◌, subst}
use Rattle.std.specs.Prelude.{◌==◌, ◌||◌}
use Rattle.gev_types.specs.declared.peer.Peer.{Peer}
use Rattle.gvcp_wire.specs.declared.message.CommandHead.{CommandHead}
use Rattle.gvcp_wire.specs.declared.status.Status.{Status}
use Rattle.bootstrap_regs.specs.Addresses.{CCP}
use Rattle.control_privilege.specs.declared.holder.Holder.{Holder}
use Rattle.control_privilege.specs.Control.{renewed_by, is_peer, is_primary, is_other, may_write}
use Rattle.camera_machine.specs.Camera.{Kept, Camera}
use Rattle.camera_machine.specs.Access.{Write, refusal_of, written, write_all, ended_by, after_one}
use Rattle.camera_machine.specs.Commands.{remembered, counted, kept_of, Executed, write_answer, finished, renewed}
use Rattle.camera_machine.specs.Primary.{StrangerChangesNothing}
use Rattle.camera_machine.proofs.Passing.{same_peer}
use Rattle.camera_machine.proofs.Walk.{allowed, Outcomes, writes_in, executes, executes_is, heard_is}

-- another peer has control
record IsStranger (s : Camera) (peer : Peer) : Type 0 where
  primary : is_primary s.holder peer ≡ false
  other : is_other s.holder peer ≡ true

stranger_of : (s : Camera) (h : Holder) (peer : Peer) → s.holder ≡ Some h → is_peer h.peer peer ≡ false → IsStranger s peer
stranger_of s h peer k e = record { primary = rw k e; other = rw (k, e) refl }

never_writes : (s : Camera) (peer : Peer) (w : Write) → IsStranger s peer → refusal_of s peer w ≡ None → ⊥
never_writes s peer w n e = go (w.address == CCP) (allowed s peer w e).access
  where
    go : (c : Bool) → may_write s.holder peer c ≡ true → ⊥
    go true may = cc n.other
    go false may = cc n.primary

-- the camera is the same, and control wasn't granted
record IsSame (s : Camera) (e : Executed) : Type 0 where
  camera : e.camera ≡ s
  none : e.has_granted ≡ false

same_all : (s : Camera) (peer : Peer) (moment each : ℕ) (ws : List Write) → IsStranger s peer → IsSame s (write_answer each (write_all s peer moment ws))
same_all s peer moment each [] n = record { camera = refl; none = refl }
same_all s peer moment each (w ∷ ws) n = go (refusal_of s peer w) refl
  where
    go : (r : Option Status) → refusal_of s peer w ≡ r → IsSame s (write_answer each (ended_by r s (after_one w (write_all (written s peer moment w) peer moment ws))))
    go None e = absurd (never_writes s peer w n e)
    go (Some status) e = record { camera = refl; none = refl }

unchanged : (s : Camera) (counts primary : Bool) (kept : Kept) → counts ≡ false → primary ≡ false → remembered (counted s counts) primary kept ≡ s
unchanged s false false kept a b = refl
unchanged s true p kept a b = absurd (cc)
unchanged s false true kept a b = absurd (cc)

same_finished : (s : Camera) (peer : Peer) (bytes : List ℕ) (head : CommandHead) (e : Executed) → IsStranger s peer → IsSame s e
    → (finished (is_primary s.holder peer) peer bytes head e).camera ≡ s
same_finished s peer bytes head e n same =
    ap (λ (t : Camera). remembered (counted t (is_primary s.holder peer || e.has_granted)) (is_primary t.holder peer) (kept_of bytes head e)) same.camera
    ∙ unchanged s (is_primary s.holder peer || e.has_granted) (is_primary s.holder peer) (kept_of bytes head e) (rw (n.primary, same.none) refl) n.primary

same_outcomes : (s : Camera) (peer : Peer) (bytes : List ℕ) (moment : ℕ) → IsStranger s peer → Outcomes (λ a. a.camera ≡ s) s peer bytes moment
same_outcomes s peer bytes moment n = record {
  replies = λ head ack is. refl;
  asks = λ r p e. cc n.primary;
  acts = λ head c e is. same_finished s peer bytes head (executes s peer moment c) n
      (executes_is (IsSame s) s peer moment c (λ status body. record { camera = refl; none = refl }) (λ each. same_all s peer moment each (writes_in c) n));
}

same_renewed : (s : Camera) (h : Holder) (peer : Peer) (moment : ℕ) → s.holder ≡ Some h → is_peer h.peer peer ≡ false → renewed s peer moment ≡ s
same_renewed s h peer moment k e =
    let stays : renewed_by (Some h) peer moment ≡ Some h = rw e refl in
    let same : renewed_by s.holder peer moment ≡ s.holder = ap (λ (o : Option Holder). renewed_by o peer moment) k ∙ (stays ∙ sym k) in
    ap (λ (o : Option Holder). record s { holder = o }) same

pub stranger_changes : (s : Camera) → StrangerChangesNothing s
stranger_changes s h peer bytes moment k ne alive =
    rw alive (heard_is (λ a. a.camera ≡ s) s peer bytes moment refl
    (subst (λ (t : Camera). Outcomes (λ a. a.camera ≡ s) t peer bytes moment) (sym (same_renewed s h peer moment k other))
    (same_outcomes s peer bytes moment (stranger_of s h peer k other))))
  where
    go : (b : Bool) → is_peer h.peer peer ≡ b → b ≡ false
    go true e = absurd (ne (sym (same_peer h.peer peer e)))
    go false e = refl

    other : is_peer h.peer peer ≡ false
    other = go (is_peer h.peer peer) refl
