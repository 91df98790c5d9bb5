-- Each command of the setup may be submitted.
use Rattle.std.proofs.Common.{◌≡◌, ℕ, zero, suc, List, [], ◌∷◌, Some, refl, subst, arith}
use Rattle.std.specs.Prelude.{slice_get}
use Rattle.std.specs.List.{AllByRecursion}
use Rattle.gev_types.specs.declared.peer.Peer.{Peer}
use Rattle.gvcp_wire.specs.Messages.{PlainCommand}
use Rattle.bootstrap_regs.specs.Addresses.{CCP, SCP0, SCPS0, SCDA0}
use Rattle.client_machine.specs.Commands.{MaySubmit}
use Rattle.client_machine.specs.Setup.{CONTROL_ACCESS, SETUP_PACKET_SIZE, write_of, setup_commands, SetupIsSubmitted}

pub write_submitted : (address value : ℕ) → MaySubmit (write_of address value)
write_submitted address value = record {
  access = tt;
  command = λ req some. record { request = some; allowed = (refl, record { count = 1; some = omega arith; few = omega arith; whole = refl }); fits = omega arith };
}

one_of : (P : PlainCommand → Type 0) (xs : List PlainCommand) (i : ℕ) (c : PlainCommand) → AllByRecursion P xs → slice_get xs i ≡ Some c → P c
one_of P [] i c all e = absurd (cc)
one_of P (x ∷ xs) zero c all e = let same : x ≡ c = cc in subst P same all.0
one_of P (x ∷ xs) (suc i) c all e = one_of P xs i c all.1 e

pub setup_submitted : (peer : Peer) → SetupIsSubmitted peer
setup_submitted peer i c e =
    one_of MaySubmit (setup_commands peer) i c (
      write_submitted CCP CONTROL_ACCESS,
      (write_submitted SCPS0 SETUP_PACKET_SIZE, (write_submitted SCDA0 peer.address, (write_submitted SCP0 peer.port, tt))),
    )
    e
