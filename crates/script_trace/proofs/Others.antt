-- A line that is read names no actor but those of scripts, however long it is.
use Rattle.std.proofs.Common.{◌≡◌, ℕ, List, [], ◌∷◌, refl, subst, Ok, Err}
use Rattle.std.specs.Prelude.{⊤, codes}
use Rattle.gev_script.specs.declared.kind.ScriptKind.{ScriptKind}
use Rattle.gev_script.specs.declared.kind.ScriptKind.TheVariants as kinds
use Rattle.gev_script.specs.declared.name.Name.{Name}
use Rattle.gev_script.specs.declared.name.Name.TheVariants as name
use Rattle.gev_script.specs.Lines as line
use Rattle.gev_script.specs.Lines.{ScriptLine}
use Rattle.gev_script.specs.Words.{Read, ◌>>=◌, refused_as, words_of, next_of, one_of, two_of, none_left}
use Rattle.gev_script.specs.Tables.{row_of, names, acts_alone, acts_at_place}
use Rattle.gev_script.specs.Numbers.{number_in, hex_of}
use Rattle.gev_script.specs.Fields.{most_u32, most_u64, number_after, next_number, id_of, id_after, parent_of, after_word, most_p}
use Rattle.gev_script.specs.Grammar.{alone, times_of, header_fields, step_of, camera_header_fields, line_named, line_of}
use Rattle.gev_script.proofs.NumberWords.{number_ok}
use Rattle.script_trace.proofs.BlockFills.{IsByOther}

-- what is read is by another than the acquisition, if anything is read
abbrev Gives : Read ScriptLine → Type 0
Gives (Ok l) = IsByOther l
Gives (Err kind) = ⊤

gives_bind : {A : Type 0} (r : Read A) (f : A → Read ScriptLine) → ((x : A) → r ≡ Ok x → Gives (f x)) → Gives (r >>= f)
gives_bind (Ok x) f h = h x refl
gives_bind (Err kind) f h = tt

gives_refused : (kind : ScriptKind) (r : Read ScriptLine) → Gives r → Gives (refused_as kind r)
gives_refused kind (Ok x) h = h
gives_refused kind (Err other) h = tt

gives_alone : (l : ScriptLine) (words : List (List ℕ)) → IsByOther l → Gives (alone l words)
gives_alone l words other = gives_bind (none_left words) _ (λ done is. other)

gives_step : (actor act : List ℕ) (words : List (List ℕ)) → Gives (step_of actor act words)
gives_step actor act [] =
    gives_bind (row_of acts_alone act) _ (λ found was. gives_bind (number_in 1 4 actor) _ (λ number is. (number_ok 1 4 actor number is).to))
gives_step actor act (place ∷ words) =
    gives_bind (none_left words) _ (λ done none. gives_bind (row_of acts_at_place act) _
    (λ found was. gives_bind (number_in 1 4 actor) _ (λ number is. gives_bind (number_in 0 14 place) _ (λ at there. (number_ok 1 4 actor number is).to))))

gives_named : (n : Name) (words : List (List ℕ)) → Gives (line_named n words)
gives_named name.Header words =
    gives_refused kinds.Header (header_fields words)
    (gives_bind (next_number 1 2 words) _ (λ version a. gives_bind (next_number 528 (most_p version.0) version.1) _
    (λ p b. gives_bind (next_number 1 4 p.1) _ (λ window d. gives_bind (times_of window.1) _ (λ times e. tt)))))
gives_named name.Announce words = gives_bind (number_after most_u64 words) _ (λ size is. tt)
gives_named name.Queue words = gives_bind (id_after words) _ (λ id is. tt)
gives_named name.Revoke words = gives_bind (id_after words) _ (λ id is. tt)
gives_named name.Flush words = gives_bind (number_after most_u32 words) _ (λ operation is. tt)
gives_named name.Start words = gives_alone line.start words tt
gives_named name.Stop words = gives_bind (number_after most_u32 words) _ (λ flags is. tt)
gives_named name.Tick words = gives_bind (number_after most_u64 words) _ (λ moment is. tt)
gives_named name.Datagram words = gives_bind (one_of words) _ (λ word is. gives_bind (hex_of word) _ (λ digits are. tt))
gives_named name.Take words = gives_alone line.take words tt
gives_named name.Kill words = gives_alone line.kill words tt
gives_named name.EventFlush words = gives_alone line.event_flush words tt
gives_named name.Info words = gives_bind (number_after most_u32 words) _ (λ which is. tt)
gives_named name.BufferInfo words =
    gives_bind (two_of words) _ (λ both a. gives_bind (id_of both.0) _ (λ id b. gives_bind (number_in 0 most_u32 both.1) _ (λ which d. tt)))
gives_named name.OpenChild words =
    gives_bind (two_of words) _ (λ both a. gives_bind (parent_of both.0) _ (λ parent b. gives_bind (number_in 0 most_u32 both.1) _ (λ index d. tt)))
gives_named name.CloseAll words = gives_bind (number_after most_u64 words) _ (λ serial is. tt)
gives_named name.Step words = gives_bind (next_of words) _ (λ actor a. gives_bind (next_of actor.1) _ (λ act b. gives_step actor.0 act.0 act.1))
gives_named name.Mode words = gives_bind (number_after 2 words) _ (λ n is. tt)
gives_named name.End words = gives_alone line.end_of_script words tt
gives_named name.CameraHeader words =
    gives_refused kinds.Header (camera_header_fields words)
    (gives_bind (after_word (codes "1") words) _ (λ after is. gives_alone line.camera_header after tt))
gives_named name.Command words =
    gives_bind (two_of words) _ (λ both a. gives_bind (number_in 1 65535 both.0) _ (λ peer b. gives_bind (hex_of both.1) _ (λ digits d. tt)))
gives_named name.Frame words = gives_alone line.frame words tt

gives_line : (text : List ℕ) → Gives (line_of text)
gives_line text =
    gives_bind (next_of (words_of text)) _ (λ word a. gives_bind (row_of names word.0) _ (λ named b. gives_named named word.1))

pub read_by_other : (text : List ℕ) (l : ScriptLine) → line_of text ≡ Ok l → IsByOther l
read_by_other text l is = subst Gives is (gives_line text)
