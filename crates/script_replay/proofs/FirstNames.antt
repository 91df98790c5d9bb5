-- A line that says something begins with the word of its name.
use Rattle.std.proofs.Common.{◌≡◌, ℕ, List, [], ◌∷◌, refl, sym, ap, subst, Ok, Err}
use Rattle.std.specs.Prelude.{⊤, codes}
use Rattle.gev_script.specs.declared.kind.ScriptKind.{ScriptKind}
use Rattle.gev_script.specs.declared.kind.ScriptKind.TheVariants as kinds
use Rattle.gev_script.specs.declared.name.Name.{Name}
use Rattle.gev_script.specs.declared.name.Name.TheVariants as name
use Rattle.gev_script.specs.Lines as line
use Rattle.gev_script.specs.Lines.{ScriptLine}
use Rattle.gev_script.specs.Words.{Read, ◌>>=◌, refused_as, words_of, next_of, one_of, two_of, none_left}
use Rattle.gev_script.specs.Tables.{row_of, names, acts_alone, acts_at_place}
use Rattle.gev_script.specs.Numbers.{number_in, hex_of}
use Rattle.gev_script.specs.Fields.{most_u32, most_u64, number_after, next_number, id_of, id_after, parent_of, after_word, most_p}
use Rattle.gev_script.specs.Grammar.{alone, times_of, header_fields, step_of, camera_header_fields, line_named, line_of_words, line_of, name_of_words, first_name}

abbrev pub name_of_line : ScriptLine → Name
name_of_line (line.header c) = name.Header
name_of_line (line.announce size) = name.Announce
name_of_line (line.queue place generation) = name.Queue
name_of_line (line.revoke place generation) = name.Revoke
name_of_line (line.flush operation) = name.Flush
name_of_line line.start = name.Start
name_of_line (line.stop flags) = name.Stop
name_of_line (line.tick moment) = name.Tick
name_of_line (line.datagram digits) = name.Datagram
name_of_line line.take = name.Take
name_of_line line.kill = name.Kill
name_of_line line.event_flush = name.EventFlush
name_of_line (line.info which) = name.Info
name_of_line (line.buffer_info place generation which) = name.BufferInfo
name_of_line (line.open_child parent index) = name.OpenChild
name_of_line (line.close_all serial) = name.CloseAll
name_of_line (line.step actor act place) = name.Step
name_of_line (line.mode n) = name.Mode
name_of_line line.end_of_script = name.End
name_of_line line.camera_header = name.CameraHeader
name_of_line (line.command peer digits) = name.Command
name_of_line line.frame = name.Frame

-- P of what is read, if anything is
abbrev Gives : {A : Type 0} → (A → Type 0) → Read A → Type 0
Gives P (Ok x) = P x
Gives P (Err kind) = ⊤

gives_bind : {A B : Type 0} (P : B → Type 0) (r : Read A) (f : A → Read B) → ((x : A) → Gives P (f x)) → Gives P (r >>= f)
gives_bind P (Ok x) f h = h x
gives_bind P (Err kind) f h = tt

gives_refused : {A : Type 0} (P : A → Type 0) (kind : ScriptKind) (r : Read A) → Gives P r → Gives P (refused_as kind r)
gives_refused P kind (Ok x) h = h
gives_refused P kind (Err other) h = tt

gives_known : {A : Type 0} (P : A → Type 0) (r : Read A) (x : A) → r ≡ Ok x → Gives P r → P x
gives_known P r x e h = subst (λ (s : Read _). Gives P s) e h

-- the line is of this name
abbrev Is : Name → ScriptLine → Type 0
Is n l = name_of_line l ≡ n

gives_alone : (n : Name) (l : ScriptLine) (words : List (List ℕ)) → Is n l → Gives (Is n) (alone l words)
gives_alone n l words is = gives_bind (Is n) (none_left words) _ (λ done. is)

gives_step_of : (actor act : List ℕ) (words : List (List ℕ)) → Gives (Is name.Step) (step_of actor act words)
gives_step_of actor act [] = gives_bind (Is name.Step) (row_of acts_alone act) _ (λ found. gives_bind (Is name.Step) (number_in 1 4 actor) _ (λ number. refl))
gives_step_of actor act (place ∷ words) =
    gives_bind (Is name.Step) (none_left words) _ (λ done. gives_bind (Is name.Step) (row_of acts_at_place act) _
    (λ found. gives_bind (Is name.Step) (number_in 1 4 actor) _ (λ number. gives_bind (Is name.Step) (number_in 0 14 place) _ (λ at. refl))))

gives_named : (n : Name) (words : List (List ℕ)) → Gives (Is n) (line_named n words)
gives_named name.Header words =
    gives_refused (Is name.Header) kinds.Header (header_fields words)
    (gives_bind (Is name.Header) (next_number 1 2 words) _ (λ version. gives_bind (Is name.Header) (next_number 528 (most_p version.0) version.1) _
    (λ p. gives_bind (Is name.Header) (next_number 1 4 p.1) _ (λ window. gives_bind (Is name.Header) (times_of window.1) _ (λ times. refl)))))
gives_named name.Announce words = gives_bind (Is name.Announce) (number_after most_u64 words) _ (λ size. refl)
gives_named name.Queue words = gives_bind (Is name.Queue) (id_after words) _ (λ id. refl)
gives_named name.Revoke words = gives_bind (Is name.Revoke) (id_after words) _ (λ id. refl)
gives_named name.Flush words = gives_bind (Is name.Flush) (number_after most_u32 words) _ (λ operation. refl)
gives_named name.Start words = gives_alone name.Start line.start words refl
gives_named name.Stop words = gives_bind (Is name.Stop) (number_after most_u32 words) _ (λ flags. refl)
gives_named name.Tick words = gives_bind (Is name.Tick) (number_after most_u64 words) _ (λ moment. refl)
gives_named name.Datagram words = gives_bind (Is name.Datagram) (one_of words) _ (λ word. gives_bind (Is name.Datagram) (hex_of word) _ (λ digits. refl))
gives_named name.Take words = gives_alone name.Take line.take words refl
gives_named name.Kill words = gives_alone name.Kill line.kill words refl
gives_named name.EventFlush words = gives_alone name.EventFlush line.event_flush words refl
gives_named name.Info words = gives_bind (Is name.Info) (number_after most_u32 words) _ (λ which. refl)
gives_named name.BufferInfo words =
    gives_bind (Is name.BufferInfo) (two_of words) _ (λ both. gives_bind (Is name.BufferInfo) (id_of both.0) _ (λ id. gives_bind (Is name.BufferInfo) (number_in 0 most_u32 both.1) _ (λ which. refl)))
gives_named name.OpenChild words =
    gives_bind (Is name.OpenChild) (two_of words) _ (λ both. gives_bind (Is name.OpenChild) (parent_of both.0) _ (λ parent. gives_bind (Is name.OpenChild) (number_in 0 most_u32 both.1) _ (λ index. refl)))
gives_named name.CloseAll words = gives_bind (Is name.CloseAll) (number_after most_u64 words) _ (λ serial. refl)
gives_named name.Step words = gives_bind (Is name.Step) (next_of words) _ (λ actor. gives_bind (Is name.Step) (next_of actor.1) _ (λ act. gives_step_of actor.0 act.0 act.1))
gives_named name.Mode words = gives_bind (Is name.Mode) (number_after 2 words) _ (λ n. refl)
gives_named name.End words = gives_alone name.End line.end_of_script words refl
gives_named name.CameraHeader words =
    gives_refused (Is name.CameraHeader) kinds.Header (camera_header_fields words)
    (gives_bind (Is name.CameraHeader) (after_word (codes "1") words) _ (λ after. gives_alone name.CameraHeader line.camera_header after refl))
gives_named name.Command words =
    gives_bind (Is name.Command) (two_of words) _ (λ both. gives_bind (Is name.Command) (number_in 1 65535 both.0) _ (λ peer. gives_bind (Is name.Command) (hex_of both.1) _ (λ digits. refl)))
gives_named name.Frame words = gives_alone name.Frame line.frame words refl

-- the name that a line's words begin with
abbrev BeginsSo : Read Name → ScriptLine → Type 0
BeginsSo named l = named ≡ Ok (name_of_line l)

begins_named : (row : Read Name) (words : List (List ℕ)) (l : ScriptLine) → (row >>= λ n. line_named n words) ≡ Ok l → BeginsSo row l
begins_named (Ok n) words l is = ap (λ m. Ok m) (sym (gives_known (Is n) (line_named n words) l is (gives_named n words)))
begins_named (Err kind) words l is = absurd cc

begins_words : (words : List (List ℕ)) (l : ScriptLine) → line_of_words words ≡ Ok l → BeginsSo (name_of_words words) l
begins_words [] l is = absurd cc
begins_words (word ∷ words) l is = begins_named (row_of names word) words l is

pub begins_so : (text : List ℕ) (l : ScriptLine) → line_of text ≡ Ok l → first_name text ≡ Ok (name_of_line l)
begins_so text l is = begins_words (words_of text) l is
