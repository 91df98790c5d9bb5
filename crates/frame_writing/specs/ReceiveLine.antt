-- The last line of a run over a camera's frames, with its line feed.
use Rattle.std.specs.Prelude.{ℕ, List, [], ◌∷◌, codes}
use Rattle.std.specs.List.{concat}
use Rattle.std.specs.Fmt.{decimal}
use Rattle.frame_writing.specs.declared.receive_counts.BlockIds.{BlockIds}
use Rattle.frame_writing.specs.declared.receive_counts.BlockIds.TheVariants.{Standard, Extended, Unknown}
use Rattle.frame_writing.specs.declared.receive_counts.ReceiveCounts.{ReceiveCounts}

abbrev pub ids_text : BlockIds → List ℕ
ids_text Standard = codes "standard"
ids_text Extended = codes "extended"
ids_text Unknown = codes "none"

abbrev pub receive_line : ReceiveCounts → List ℕ
receive_line counts = concat (
    codes "receive frames=" ∷ decimal counts.frames
    ∷ codes " taken=" ∷ decimal counts.taken
    ∷ codes " complete=" ∷ decimal counts.complete
    ∷ codes " p=" ∷ decimal counts.p
    ∷ codes " bytes=" ∷ decimal counts.bytes
    ∷ codes " ids=" ∷ ids_text counts.ids
    ∷ codes " underrun=" ∷ decimal counts.underrun
    ∷ codes " requests=" ∷ decimal counts.requests
    ∷ codes " foreign=" ∷ decimal counts.foreign
    ∷ codes " late=" ∷ decimal counts.late
    ∷ codes " repeat=" ∷ decimal counts.repeat
    ∷ codes " misfit=" ∷ decimal counts.misfit
    ∷ codes " starved=" ∷ decimal counts.starved
    ∷ codes " notice=" ∷ decimal counts.notice
    ∷ codes " strangers=" ∷ decimal counts.strangers ∷ codes "\n" ∷ [])
