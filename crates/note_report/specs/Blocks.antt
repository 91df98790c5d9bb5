-- The words of the end of a script.
use Rattle.std.specs.Prelude.{ℕ, List, [], ◌∷◌, codes}
use Rattle.std.specs.List.{concat}
use Rattle.std.specs.Fmt.{decimal}
use Rattle.note_report.specs.declared.block_counts.BlockCounts.{BlockCounts}

-- what blocks came to, and how many are open
abbrev pub counts_words : BlockCounts → ℕ → List ℕ
counts_words n open_blocks = concat (
    codes "blocks opened=" ∷ decimal n.opened ∷ codes " complete=" ∷ decimal n.complete ∷ codes " incomplete=" ∷ decimal n.incomplete
    ∷ codes " unbuffered=" ∷ decimal n.unbuffered ∷ codes " open=" ∷ decimal open_blocks ∷ codes " absent=" ∷ decimal n.absent
    ∷ codes " dropped=" ∷ decimal n.dropped ∷ [])
