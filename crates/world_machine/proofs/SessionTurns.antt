-- What a datagram does: a command of the client is executed, or control and the kept command stay; anything else leaves both.
use Rattle.std.proofs.Common.{◌≡◌, ◌⊎◌, ℕ, Bool, true, false, List, [], Option, Some, None, refl, sym, subst, ◌∙◌, inl, inr}
use Rattle.std.specs.Prelude.{◌≢◌, take, if◌then◌else◌}
use Rattle.gev_types.specs.declared.peer.Peer.{Peer}
use Rattle.gvcp_wire.specs.declared.message.CommandHead.{CommandHead}
use Rattle.gvcp_wire.specs.declared.status.Status.TheVariants.{Success}
use Rattle.gvcp_wire.specs.Messages.{PlainCommand, read_reg, write_reg, read_mem, write_mem, other}
use Rattle.gvcp_wire.specs.Reading.{command_reading}
use Rattle.client_machine.specs.Commands.{IsAccess, head_for}
use Rattle.control_privilege.specs.declared.holder.Holder.{Holder}
use Rattle.control_privilege.specs.Control.{is_peer, is_primary, primary_of, renewed_by}
use Rattle.bootstrap_regs.specs.Addresses.{DISCOVERY_WORDS}
use Rattle.camera_machine.specs.Words.{bytes_of}
use Rattle.camera_machine.specs.Camera.{Kept, Camera}
use Rattle.camera_machine.specs.Commands.{Answered, only_answered, silent, finished, executed_as, from_primary, same_bytes, is_behind, obeyed, renewed, heard}
use Rattle.camera_machine.proofs.Repeats.{same_bytes-refl}
use Rattle.world_machine.specs.Schedule.{IsNoAccess}
use Rattle.camera_machine.proofs.Walk.{IsRegister, executes, Replies, nothing, again, refused, discovered, heard_is}
use Rattle.world_machine.proofs.Acks.{QuietAck, no_ack, kept_ack, foreign_for}

-- nothing was executed, and control and the kept command are as before
pub record IsQuiet (s : Camera) (a : Answered) : Type 0 where
  pub primary : primary_of a.camera.holder ≡ primary_of s.holder
  pub kept : a.camera.kept ≡ s.kept
  pub execution : a.execution ≡ None
  pub ack : QuietAck s.kept a.ack

-- The command was executed: it's no repeat of the kept one of its sender, and not behind it.
pub record Acts (s : Camera) (peer : Peer) (bytes : List ℕ) (moment : ℕ) (head : CommandHead) (c : PlainCommand) (a : Answered) : Type 0 where
  pub is : a ≡ finished (is_primary s.holder peer) peer bytes head (executes s peer moment c)
  pub new : (k : Kept) → is_primary s.holder peer ≡ true → s.kept ≡ Some k → (bytes ≢ k.bytes) × (is_behind k.req head.req ≡ false)

abbrev pub Turn : Camera → Peer → List ℕ → ℕ → CommandHead → PlainCommand → Answered → Type 0
Turn s peer bytes moment head c a = IsQuiet s a ⊎ Acts s peer bytes moment head c a

-- only an answer goes out
quiet_replies : (s : Camera) (head : CommandHead) (ack : Option (List ℕ)) → Replies s head ack → IsQuiet s (only_answered s ack)
quiet_replies s head ack is = record { primary = refl; kept = refl; execution = refl; ack = go ack is }
  where
    go : (ack : Option (List ℕ)) → Replies s head ack → QuietAck s.kept ack
    go _ nothing = no_ack refl
    go _ (again k e) = kept_ack k e refl
    go _ (refused status ne) = foreign_for s.kept head status [] (inl ne)
    go _ (discovered e) = foreign_for s.kept head Success (bytes_of (take DISCOVERY_WORDS s.words)) (inr e)

-- ---- commands of the client

not_same : (xs ys : List ℕ) → same_bytes xs ys ≡ false → xs ≢ ys
not_same xs ys e same =
    let is : same_bytes xs ys ≡ true = rw (← same) (same_bytes-refl xs) in
    cc

executed_is : (s : Camera) (peer : Peer) (bytes : List ℕ) (moment : ℕ) (head : CommandHead) (c : PlainCommand) → IsAccess c
    → executed_as s peer bytes moment head (Some c) ≡ finished (is_primary s.holder peer) peer bytes head (executes s peer moment c)
executed_is s peer bytes moment head (read_reg addresses) a = refl
executed_is s peer bytes moment head (write_reg pairs) a = refl
executed_is s peer bytes moment head (read_mem address count) a = refl
executed_is s peer bytes moment head (write_mem address data_bytes) a = refl
executed_is s peer bytes moment head (other code body) a = absurd a

obeyed_is : (s : Camera) (peer : Peer) (bytes : List ℕ) (moment req : ℕ) (c : PlainCommand) → IsAccess c
    → obeyed s peer bytes moment (head_for req c) (Some c)
    ≡ (if is_primary s.holder peer then from_primary s.kept s peer bytes moment (head_for req c) (Some c) else executed_as s peer bytes moment (head_for req c) (Some c))
obeyed_is s peer bytes moment req (read_reg addresses) a = refl
obeyed_is s peer bytes moment req (write_reg pairs) a = refl
obeyed_is s peer bytes moment req (read_mem address count) a = refl
obeyed_is s peer bytes moment req (write_mem address data_bytes) a = refl
obeyed_is s peer bytes moment req (other code body) a = absurd a

turn_primary : (s : Camera) (peer : Peer) (bytes : List ℕ) (moment : ℕ) (head : CommandHead) (c : PlainCommand) (kept : Option Kept) → IsAccess c → s.kept ≡ kept
    → Turn s peer bytes moment head c (from_primary kept s peer bytes moment head (Some c))
turn_primary s peer bytes moment head c None a e =
    inr (record { is = executed_is s peer bytes moment head c a; new = λ k p is. let both : None ≡ Some k = sym e ∙ is in absurd (cc) })
turn_primary s peer bytes moment head c (Some k) a e = go (same_bytes bytes k.bytes) refl (is_behind k.req head.req) refl
  where
    fresh : (l : Kept) → s.kept ≡ Some l → k ≡ l
    fresh l is = let both : Some k ≡ Some l = sym e ∙ is in cc

    go : (same : Bool) → same_bytes bytes k.bytes ≡ same → (behind : Bool) → is_behind k.req head.req ≡ behind
        → Turn s peer bytes moment head c (if same then only_answered s k.ack else (if behind then silent s else executed_as s peer bytes moment head (Some c)))
    go true d behind b = inl (quiet_replies s head k.ack (again k e))
    go false d true b = inl (quiet_replies s head None nothing)
    go false d false b = inr (record {
      is = executed_is s peer bytes moment head c a;
      new = λ l p is. rw (← (fresh l is)) (not_same bytes k.bytes d, b);
    })

pub client_turn : (s : Camera) (peer : Peer) (bytes : List ℕ) (moment req : ℕ) (c : PlainCommand) → IsAccess c
    → Turn s peer bytes moment (head_for req c) c (obeyed s peer bytes moment (head_for req c) (Some c))
client_turn s peer bytes moment req c a = rw (obeyed_is s peer bytes moment req c a) (go (is_primary s.holder peer) refl)
  where
    go : (p : Bool) → is_primary s.holder peer ≡ p
        → Turn s peer bytes moment (head_for req c) c
        (if p then from_primary s.kept s peer bytes moment (head_for req c) (Some c) else executed_as s peer bytes moment (head_for req c) (Some c))
    go true p = turn_primary s peer bytes moment (head_for req c) c s.kept a refl
    go false p = inr (record {
      is = executed_is s peer bytes moment (head_for req c) c a;
      new = λ k is e. let both : true ≡ false = sym is ∙ p in absurd (cc);
    })

-- ---- a renewal

pub primary_renewed : (holder : Option Holder) (peer : Peer) (moment : ℕ) → primary_of (renewed_by holder peer moment) ≡ primary_of holder
primary_renewed None peer moment = refl
primary_renewed (Some h) peer moment = go (is_peer h.peer peer)
  where
    go : (b : Bool) → primary_of (if b then Some (record h { last = moment }) else Some h) ≡ Some h.peer
    go true = refl
    go false = refl

pub is_primary_renewed : (holder : Option Holder) (peer : Peer) (moment : ℕ) → is_primary (renewed_by holder peer moment) peer ≡ is_primary holder peer
is_primary_renewed None peer moment = refl
is_primary_renewed (Some h) peer moment = go (is_peer h.peer peer)
  where
    go : (b : Bool) → is_primary (if b then Some (record h { last = moment }) else Some h) peer ≡ is_peer h.peer peer
    go true = refl
    go false = refl

-- ---- anything else

quiet_renewed : (s : Camera) (peer : Peer) (moment : ℕ) (a : Answered) → IsQuiet (renewed s peer moment) a → IsQuiet s a
quiet_renewed s peer moment a q =
    record { primary = q.primary ∙ primary_renewed s.holder peer moment; kept = q.kept; execution = q.execution; ack = q.ack }

no_register : (c : PlainCommand) → (IsAccess c → ⊥) → IsRegister c → ⊥
no_register (read_reg addresses) n = n
no_register (write_reg pairs) n = n
no_register (read_mem address count) n = n
no_register (write_mem address data_bytes) n = n
no_register (other code body) n = n

pub other_turn : (s : Camera) (peer : Peer) (bytes : List ℕ) (moment : ℕ) → IsNoAccess (command_reading bytes)
    → IsQuiet s (heard s peer bytes moment (command_reading bytes))
other_turn s peer bytes moment n =
    heard_is (IsQuiet s) s peer bytes moment (record { primary = refl; kept = refl; execution = refl; ack = no_ack refl }) (record {
      replies = λ head ack is. quiet_renewed s peer moment _ (quiet_replies (renewed s peer moment) head ack is);
      asks = λ r p e. quiet_renewed s peer moment _ (record { primary = refl; kept = refl; execution = refl; ack = no_ack refl });
      acts = λ head c e is. absurd (no_register c (subst IsNoAccess e n) is);
    })
