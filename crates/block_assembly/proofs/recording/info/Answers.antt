-- The record has the lines of the kept trailer.
use Rattle.std.proofs.Common.{◌≡◌, ℕ, refl, ◌∙◌}
use Rattle.std.specs.Prelude.{Option}
use Rattle.stream_packets.specs.declared.fields.LeaderInfo.{LeaderInfo}
use Rattle.block_image.specs.Infos.{info_of}
use Rattle.block_assembly.proofs.recording.info.Goals as goal

same_info : (leader told : Option LeaderInfo) (lines rows : Option ℕ) → leader ≡ told → lines ≡ rows → info_of leader lines ≡ info_of told rows
same_info leader told lines rows e f = rw (e, f) refl

pub returns : goal.returns
returns c ks s = c.info_of.ensures ∙ same_info _ _ _ _ s.leader (c.lines_of.ensures ∙ s.lines)
