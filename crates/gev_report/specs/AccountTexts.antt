-- The words for what became of a block that retired with a buffer.
use Rattle.std.specs.Prelude.{ℕ, ◌==◌, nat_lt, min, Bool, List, [], ◌∷◌, ◌++◌, map, take, codes, if◌then◌else◌}
use Rattle.std.specs.List.{concat}
use Rattle.std.specs.Fmt.{decimal}
use Rattle.gev_types.specs.declared.block_account.Cause.{Cause}
use Rattle.gev_types.specs.declared.block_account.Cause.TheVariants.{Complete, Old, Displaced, Stopped}
use Rattle.gev_types.specs.declared.block_account.Lost.{Lost}
use Rattle.gev_types.specs.declared.reasons.Reasons.{Reasons}

-- ---- lists

-- with a comma before each
abbrev pub behind_commas : List (List ℕ) → List ℕ
behind_commas [] = []
behind_commas (x ∷ xs) = codes "," ++ (x ++ behind_commas xs)

-- joined by commas, and `-` where there is none
abbrev pub listed : List (List ℕ) → List ℕ
listed [] = codes "-"
listed (x ∷ xs) = x ++ behind_commas xs

abbrev pub where_so : Bool → List ℕ → List (List ℕ)
where_so holds word = if holds then word ∷ [] else []

-- ---- words

-- a span of numbers
abbrev pub span_text : ℕ × ℕ → List ℕ
span_text r = if r.0 == r.1 then decimal r.0 else concat (decimal r.0 ∷ codes "-" ∷ decimal r.1 ∷ [])

-- why a block retired
abbrev pub cause_word : Cause → List ℕ
cause_word Complete = codes "complete"
cause_word Old = codes "old"
cause_word Displaced = codes "displaced"
cause_word Stopped = codes "stopped"

-- why its image isn't whole
abbrev pub why_text : Reasons → List ℕ
why_text r = listed (
    where_so r.no_leader (codes "leader") ++ (where_so r.small (codes "small") ++ (where_so r.no_trailer (codes "trailer")
    ++ (where_so r.no_payload (codes "payloads") ++ where_so r.short (codes "short")))))

-- what stands behind the ranges that are named, where there are more
abbrev pub further_text : ℕ → List ℕ
further_text ranges = if nat_lt 8 ranges then codes ",.." else []

-- the first eight ranges of lost ids, and `..` where there are more
abbrev pub lost_text : Lost → List ℕ
lost_text l = listed (map span_text (take (min l.ranges 8) l.first)) ++ further_text l.ranges
