-- The machine's turns with their counts left out.
use Rattle.std.proofs.Common.{◌≡◌, ℕ, Bool, true, false, refl, ap}
use Rattle.std.specs.Prelude.{nat_lt, not, Option, Some, None, Result, Ok, Err, if◌then◌else◌}
use Rattle.stream_packets.specs.Packets.{StreamPacket, head_of, is_notice}
use Rattle.gvsp_wire.specs.declared.wire_error.WireError.{WireError}
use Rattle.gvsp_wire.specs.Reading.{reading}
use Rattle.block_image.specs.Kept.{fits}
use Rattle.acquisition_machine.specs.declared.config.AcqConfig.{AcqConfig}
use Rattle.acquisition_machine.specs.Blocks.{Given, Open, is_new}
use Rattle.acquisition_machine.specs.Machine.{Input, datagram, claimed, tick, stop, restart, State, Turn, bound, open_at, unasked, quiet, hears_open, hears_fitting, hears_packet, hears, opens_block, step}
use Rattle.acquisition_machine.specs.Erased.{uncounted, uncounted_turn}

-- either branch may be left uncounted
both : (v : Bool) (a b d e : Turn) → uncounted_turn a ≡ uncounted_turn d → uncounted_turn b ≡ uncounted_turn e
    → uncounted_turn (if v then a else b) ≡ uncounted_turn (if v then d else e)
both true a b d e yes_is no_is = yes_is
both false a b d e yes_is no_is = no_is

open-uncounted : (c : AcqConfig) (x : StreamPacket) (o : Open) (g : Option Given) (s : State) → uncounted_turn (hears_open c x o g (uncounted s)) ≡ uncounted_turn (hears_open c x o g s)
open-uncounted c x o None s = refl
open-uncounted c x o (Some g) s = both (is_new c.p o x) _ _ _ _ refl refl

fitting-uncounted : (c : AcqConfig) (x : StreamPacket) (found : Option Open) (s : State) → uncounted_turn (hears_fitting c x found (uncounted s)) ≡ uncounted_turn (hears_fitting c x found s)
fitting-uncounted c x None s = refl
fitting-uncounted c x (Some o) s = open-uncounted c x o o.given s

packet-uncounted : (c : AcqConfig) (x : StreamPacket) (found : Option Open) (s : State) → uncounted_turn (hears_packet c x found (uncounted s)) ≡ uncounted_turn (hears_packet c x found s)
packet-uncounted c x None s =
    both (is_notice x) _ _ _ _ refl (both (not (fits c.p x)) _ _ _ _ refl (fitting-uncounted c x None s))
packet-uncounted c x (Some o) s =
    both (is_notice x) _ _ _ _ refl (both (not (fits c.p x)) _ _ _ _ refl (fitting-uncounted c x (Some o) s))

hears-uncounted : (c : AcqConfig) (r : Result StreamPacket WireError) (s : State) → uncounted_turn (hears c r (uncounted s)) ≡ uncounted_turn (hears c r s)
hears-uncounted c (Err e) s = refl
hears-uncounted c (Ok x) s =
    both (nat_lt (head_of x).block (bound c s)) _ _ _ _ refl (packet-uncounted c x (open_at (head_of x).block s.opens) s)

block-uncounted : (given : Option Given) (asked : Option ℕ) (s : State) → uncounted (opens_block given asked (uncounted s)) ≡ uncounted (opens_block given asked s)
block-uncounted given None s = refl
block-uncounted given (Some b) s = refl

pub step-uncounted : (c : AcqConfig) (s : State) (i : Input) → uncounted_turn (step c (uncounted s) i) ≡ uncounted_turn (step c s i)
step-uncounted c s (datagram bytes) = hears-uncounted c (reading bytes) (unasked s)
step-uncounted c s (claimed given) = ap quiet (block-uncounted given s.asked (unasked s))
step-uncounted c s (tick moment) = refl
step-uncounted c s stop = refl
step-uncounted c s restart = refl
