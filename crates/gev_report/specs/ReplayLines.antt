-- The lines of a replay's report, each with its line feed.
use Rattle.std.specs.Prelude.{ℕ, ℤ, List, [], ◌∷◌, take, codes, Result, Ok, Err}
use Rattle.std.specs.List.{concat}
use Rattle.std.specs.Fmt.{decimal, signed_decimal}
use Rattle.hex.specs.Hex.{encode_lower}
use Rattle.sha2.specs.Sha256.{sha256}
use Rattle.gentl_types.specs.declared.buffer_id.BufferId.{BufferId}
use Rattle.gev_types.specs.Filling.{Filling}
use Rattle.gev_report.specs.declared.end_counts.EndCounts.{EndCounts}
use Rattle.gev_report.specs.Pieces.{flag_text}

-- the SHA-256 digest (FIPS 180-4) of the image in a buffer, in hex
abbrev pub digest_text : Filling → List ℕ
digest_text buf = encode_lower (sha256 (take buf.rec.data_len buf.bytes))

-- a buffer that was taken: its id, its record, and the digest of its image
abbrev pub take_line : BufferId → Filling → List ℕ
take_line id buf = concat (
    codes "take " ∷ decimal id.place ∷ codes "." ∷ decimal id.generation
    ∷ codes " block=" ∷ decimal buf.rec.block
    ∷ codes " complete=" ∷ flag_text buf.rec.complete
    ∷ codes " larger=" ∷ flag_text buf.rec.larger
    ∷ codes " leader=" ∷ flag_text buf.rec.has_leader
    ∷ codes " len=" ∷ decimal buf.rec.data_len
    ∷ codes " filled=" ∷ decimal buf.rec.filled
    ∷ codes " sha256=" ∷ digest_text buf ∷ codes "\n" ∷ [])

-- a call that was done, or the number of its refusal
abbrev pub result_line : List ℕ → Result (Unit {0}) ℤ → List ℕ
result_line word (Ok done) = concat (word ∷ codes " ok\n" ∷ [])
result_line word (Err code) = concat (word ∷ codes " " ∷ signed_decimal code ∷ codes "\n" ∷ [])

-- a call that answered a buffer's id
abbrev pub id_line : List ℕ → BufferId → List ℕ
id_line word id = concat (word ∷ codes " " ∷ decimal id.place ∷ codes "." ∷ decimal id.generation ∷ codes "\n" ∷ [])

-- a call that answered an information: its number, and its value
abbrev pub value_line : List ℕ → ℕ → ℕ → List ℕ
value_line word which value = concat (word ∷ codes " " ∷ decimal which ∷ codes " " ∷ decimal value ∷ codes "\n" ∷ [])

-- a call that answered a number
abbrev pub number_line : List ℕ → ℕ → List ℕ
number_line word value = concat (word ∷ codes " " ∷ decimal value ∷ codes "\n" ∷ [])

-- a packet resend command, in hex
abbrev pub request_line : List ℕ → List ℕ
request_line bytes = concat (codes "request " ∷ encode_lower bytes ∷ codes "\n" ∷ [])

-- the last line
abbrev pub end_line : EndCounts → List ℕ
end_line counts = concat (
    codes "end taken=" ∷ decimal counts.taken
    ∷ codes " fills=" ∷ decimal counts.fills
    ∷ codes " complete=" ∷ decimal counts.complete
    ∷ codes " underrun=" ∷ decimal counts.underrun
    ∷ codes " requests=" ∷ decimal counts.requests
    ∷ codes " foreign=" ∷ decimal counts.foreign
    ∷ codes " late=" ∷ decimal counts.late
    ∷ codes " repeat=" ∷ decimal counts.repeat
    ∷ codes " misfit=" ∷ decimal counts.misfit
    ∷ codes " starved=" ∷ decimal counts.starved
    ∷ codes " notice=" ∷ decimal counts.notice
    ∷ codes " idle=" ∷ decimal counts.idle ∷ codes "\n" ∷ [])
