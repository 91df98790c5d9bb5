-- Runs of lists that are joined.
use Rattle.std.proofs.Common.{◌≡◌, List, [], ◌∷◌, ◌++◌, refl, sym, ap, ◌∙◌, append_assoc}
use Rattle.std.specs.Prelude.{Option, Some, None}
use Rattle.stream_packets.specs.Packets.{StreamPacket}
use Rattle.gvsp_wire.specs.Reading.{packet_of}
use Rattle.acquisition_machine.specs.declared.config.AcqConfig.{AcqConfig}
use Rattle.acquisition_machine.specs.Machine.{Input, datagram, claimed, tick, stop, restart, State, step}
use Rattle.acquisition_machine.specs.Runs.{after_from, retired_from, requests_from, with_packet, packets_in}
use Rattle.acquisition_machine.specs.Laws.{RunsAreJoined}

pub after_from-append : (c : AcqConfig) (s : State) (q r : List Input) → after_from c s (q ++ r) ≡ after_from c (after_from c s q) r
after_from-append c s [] r = refl
after_from-append c s (i ∷ q) r = after_from-append c (step c s i).after q r

pub retired_from-append : (c : AcqConfig) (s : State) (q r : List Input) → retired_from c s (q ++ r) ≡ retired_from c s q ++ retired_from c (after_from c s q) r
retired_from-append c s [] r = refl
retired_from-append c s (i ∷ q) r =
    ap (λ l. (step c s i).retired ++ l) (retired_from-append c (step c s i).after q r)
    ∙ sym (append_assoc (step c s i).retired (retired_from c (step c s i).after q) (retired_from c (after_from c (step c s i).after q) r))

pub requests_from-append : (c : AcqConfig) (s : State) (q r : List Input) → requests_from c s (q ++ r) ≡ requests_from c s q ++ requests_from c (after_from c s q) r
requests_from-append c s [] r = refl
requests_from-append c s (i ∷ q) r =
    ap (λ l. (step c s i).requests ++ l) (requests_from-append c (step c s i).after q r)
    ∙ sym (append_assoc (step c s i).requests (requests_from c (step c s i).after q) (requests_from c (after_from c (step c s i).after q) r))

with_packet-append : (x : Option StreamPacket) (xs ys : List StreamPacket) → with_packet x (xs ++ ys) ≡ with_packet x xs ++ ys
with_packet-append None xs ys = refl
with_packet-append (Some x) xs ys = refl

pub packets_in-append : (q r : List Input) → packets_in (q ++ r) ≡ packets_in q ++ packets_in r
packets_in-append [] r = refl
packets_in-append (datagram bytes ∷ q) r =
    ap (with_packet (packet_of bytes)) (packets_in-append q r) ∙ with_packet-append (packet_of bytes) (packets_in q) (packets_in r)
packets_in-append (claimed given ∷ q) r = packets_in-append q r
packets_in-append (tick moment ∷ q) r = packets_in-append q r
packets_in-append (stop ∷ q) r = packets_in-append q r
packets_in-append (restart ∷ q) r = packets_in-append q r

pub runs_are_joined : RunsAreJoined
runs_are_joined = record {
  after = after_from-append;
  retired = retired_from-append;
  requests = requests_from-append;
  packets = packets_in-append;
}
