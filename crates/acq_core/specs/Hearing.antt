-- What a packet of an open block makes of it, and what the packet is answered.
use Rattle.std.specs.Prelude.{ℕ, not, Option, Some, None, if◌then◌else◌}
use Rattle.stream_packets.specs.Packets.{StreamPacket, is_notice}
use Rattle.block_image.specs.Kept.{fits}
use Rattle.block_assembly.specs.declared.verdict.Verdict.{Verdict}
use Rattle.block_assembly.specs.declared.verdict.Verdict.TheVariants.{Kept as is_kept, Repeat as is_repeat, Misfit as is_misfit, Notice as is_refused}
use Rattle.acquisition_machine.specs.declared.need.Need.{Need}
use Rattle.acquisition_machine.specs.declared.need.Need.TheVariants.{Buffer, Done, Ignored}
use Rattle.acquisition_machine.specs.declared.need.Why.TheVariants.{Repeat, Misfit, Starved, Notice}
use Rattle.acquisition_machine.specs.Blocks.{Given, Open, hearing, keeping, is_new}

-- the answer by what an assembly says of the packet
abbrev pub need_of_verdict : Verdict → Need
need_of_verdict is_kept = Done
need_of_verdict is_repeat = Ignored Repeat
need_of_verdict is_misfit = Ignored Misfit
need_of_verdict is_refused = Ignored Notice

-- the answer where the block has no buffer
abbrev pub need_without : ℕ → StreamPacket → Need
need_without p x = if is_notice x then Ignored Notice else if not (fits p x) then Ignored Misfit else Ignored Starved

-- the answer where it has one
abbrev pub need_with : ℕ → Open → StreamPacket → Need
need_with p o x =
    if is_notice x then Ignored Notice
    else if not (fits p x) then Ignored Misfit
    else if is_new p o x then Done else Ignored Repeat

abbrev pub need_given : ℕ → Open → Option Given → StreamPacket → Need
need_given p o None x = need_without p x
need_given p o (Some g) x = need_with p o x

abbrev pub need_in : ℕ → Open → StreamPacket → Need
need_in p o x = need_given p o o.given x

-- the block after the packet came and was answered that
abbrev pub heard_as : ℕ → Open → StreamPacket → Need → Open
heard_as now o x (Buffer b) = hearing x o
heard_as now o x Done = keeping now x o
heard_as now o x (Ignored why) = hearing x o

abbrev pub heard_in : ℕ → ℕ → Open → StreamPacket → Open
heard_in now p o x = heard_as now o x (need_in p o x)
