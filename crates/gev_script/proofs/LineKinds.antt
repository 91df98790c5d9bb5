-- The kinds for which lines are refused.
use Rattle.std.proofs.Common.{◌≡◌, ℕ, List, [], ◌∷◌, Option, Some, None, refl, sym, Ok, Err, true, false, subst}
use Rattle.std.specs.Prelude.{⊤, codes, ◌&&◌, nat_le, if◌then◌else◌, Bool}
use Rattle.std.specs.Str.{bytes_eq}
use Rattle.gev_script.specs.declared.kind.ScriptKind.{ScriptKind}
use Rattle.gev_script.specs.declared.kind.ScriptKind.TheVariants as kinds
use Rattle.gev_script.specs.declared.name.Name.{Name}
use Rattle.gev_script.specs.declared.name.Name.TheVariants as name
use Rattle.gev_script.specs.Lines as line
use Rattle.gev_script.specs.Lines.{ScriptLine}
use Rattle.gev_script.specs.Words.{Read, ◌>>=◌, refused_as, parts_of, next_of, one_of, two_of, none_left}
use Rattle.gev_script.specs.Tables.{row_of, names, acts_alone, acts_at_place}
use Rattle.gev_script.specs.Numbers.{number_in, bounded, value_of, is_hex, hex_of}
use Rattle.gev_script.specs.Fields.{most_u32, most_u64, number_after, id_parts, id_of, id_after, parent_of}
use Rattle.gev_script.specs.Grammar.{alone, header_fields, step_of, step_line, buffer_info_line, open_child_line, command_line, datagram_line, camera_header_fields, line_named, line_of_words, line_of, name_of_words, first_name}
use Rattle.gev_script.specs.Laws.{IsHeaderName, IsLineKind, IsBadHeader, HasKinds}
use Rattle.gev_script.proofs.Splitting.{parts_first}

-- a kind of a line that doesn't begin as a header
abbrev IsWordKind : ScriptKind → Type 0
IsWordKind kinds.Word = ⊤
IsWordKind kinds.Number = ⊤
IsWordKind kinds.Hex = ⊤
IsWordKind kinds.Header = ⊥
IsWordKind kinds.Long = ⊥
IsWordKind kinds.NoEnd = ⊥
IsWordKind kinds.Many = ⊥

-- what is refused is of such a kind
abbrev Plain : {A : Type 0} → Read A → Type 0
Plain (Ok x) = ⊤
Plain (Err kind) = IsWordKind kind

plain_bind : {A B : Type 0} (r : Read A) (f : A → Read B) → Plain r → ((x : A) → Plain (f x)) → Plain (r >>= f)
plain_bind (Ok x) f h k = k x
plain_bind (Err kind) f h k = h

plain_if : {A : Type 0} (b : Bool) (r s : Read A) → Plain r → Plain s → Plain (if b then r else s)
plain_if true r s h k = h
plain_if false r s h k = k

plain_none : (words : List (List ℕ)) → Plain (none_left words)
plain_none [] = tt
plain_none (word ∷ words) = tt

plain_next : (words : List (List ℕ)) → Plain (next_of words)
plain_next [] = tt
plain_next (word ∷ words) = tt

plain_one : (words : List (List ℕ)) → Plain (one_of words)
plain_one words = plain_bind (next_of words) _ (plain_next words) (λ w. plain_bind (none_left w.1) _ (plain_none w.1) (λ _. tt))

plain_two : (words : List (List ℕ)) → Plain (two_of words)
plain_two words = plain_bind (next_of words) _ (plain_next words) (λ w. plain_bind (one_of w.1) _ (plain_one w.1) (λ _. tt))

plain_bounded : (low high : ℕ) (found : Option ℕ) → Plain (bounded low high found)
plain_bounded low high None = tt
plain_bounded low high (Some n) = plain_if (nat_le low n && nat_le n high) (Ok n) (Err kinds.Number) tt tt

plain_number : (low high : ℕ) (word : List ℕ) → Plain (number_in low high word)
plain_number low high word = plain_bounded low high (value_of word)

plain_hex : (word : List ℕ) → Plain (hex_of word)
plain_hex word = plain_if (is_hex word) (Ok word) (Err kinds.Hex) tt tt

plain_row : {Row : Type 0} (rows : List (List ℕ × Row)) (word : List ℕ) → Plain (row_of rows word)
plain_row [] word = tt
plain_row (row ∷ rows) word = plain_if (bytes_eq word row.0) (Ok row.1) (row_of rows word) tt (plain_row rows word)

plain_as : {A : Type 0} (r : Read A) → Plain (refused_as kinds.Number r)
plain_as (Ok x) = tt
plain_as (Err kind) = tt

plain_parent : (word : List ℕ) → Plain (parent_of word)
plain_parent word =
    plain_if (bytes_eq word (codes "-")) (Ok None) _ tt (plain_bind (number_in 0 most_u64 word) (λ n. Ok (Some n)) (plain_number 0 most_u64 word) (λ _. tt))

plain_id : (word : List ℕ) → Plain (id_of word)
plain_id word = plain_as (id_parts (parts_of 46 word))

plain_number_after : (most : ℕ) (words : List (List ℕ)) → Plain (number_after most words)
plain_number_after most words = plain_bind (one_of words) _ (plain_one words) (λ w. plain_number 0 most w)

plain_id_after : (words : List (List ℕ)) → Plain (id_after words)
plain_id_after words = plain_bind (one_of words) _ (plain_one words) (λ w. plain_id w)

plain_alone : (l : ScriptLine) (words : List (List ℕ)) → Plain (alone l words)
plain_alone l words = plain_bind (none_left words) (λ _. Ok l) (plain_none words) (λ _. tt)

plain_step_of : (actor act : List ℕ) (words : List (List ℕ)) → Plain (step_of actor act words)
plain_step_of actor act [] =
    plain_bind (row_of acts_alone act) _ (plain_row acts_alone act) (λ a. plain_bind (number_in 1 4 actor) _ (plain_number 1 4 actor) (λ _. tt))
plain_step_of actor act (place ∷ words) =
    plain_bind (none_left words) _ (plain_none words)
    (λ _. plain_bind (row_of acts_at_place act) _ (plain_row acts_at_place act)
    (λ a. plain_bind (number_in 1 4 actor) _ (plain_number 1 4 actor) (λ n. plain_bind (number_in 0 14 place) _ (plain_number 0 14 place) (λ _. tt))))

-- A line that is refused begins as a header does, and is of kind Header, or is of one of these kinds.
abbrev Named : Name → Read ScriptLine → Type 0
Named found (Ok l) = ⊤
Named found (Err kinds.Header) = IsHeaderName found
Named found (Err kinds.Word) = ¬ IsHeaderName found
Named found (Err kinds.Number) = ¬ IsHeaderName found
Named found (Err kinds.Hex) = ¬ IsHeaderName found
Named found (Err kinds.Long) = ⊥
Named found (Err kinds.NoEnd) = ⊥
Named found (Err kinds.Many) = ⊥

named_plain : (found : Name) (r : Read ScriptLine) → ¬ IsHeaderName found → Plain r → Named found r
named_plain found (Ok l) no_header h = tt
named_plain found (Err kinds.Header) no_header h = absurd h
named_plain found (Err kinds.Word) no_header h = no_header
named_plain found (Err kinds.Number) no_header h = no_header
named_plain found (Err kinds.Hex) no_header h = no_header
named_plain found (Err kinds.Long) no_header h = absurd h
named_plain found (Err kinds.NoEnd) no_header h = absurd h
named_plain found (Err kinds.Many) no_header h = absurd h

named_header : (found : Name) (r : Read ScriptLine) → IsHeaderName found → Named found (refused_as kinds.Header r)
named_header found (Ok l) h = tt
named_header found (Err kind) h = h

number_plain : (found : Name) (make : ℕ → ScriptLine) (most : ℕ) (words : List (List ℕ)) → ¬ IsHeaderName found → Named found (number_after most words >>= (λ n. Ok (make n)))
number_plain found make most words no_header =
    named_plain found (number_after most words >>= (λ n. Ok (make n))) no_header (plain_bind (number_after most words) (λ n. Ok (make n)) (plain_number_after most words) (λ _. tt))

id_plain : (found : Name) (make : ℕ → ℕ → ScriptLine) (words : List (List ℕ)) → ¬ IsHeaderName found → Named found (id_after words >>= (λ id. Ok (make id.0 id.1)))
id_plain found make words no_header =
    named_plain found (id_after words >>= (λ id. Ok (make id.0 id.1))) no_header (plain_bind (id_after words) (λ id. Ok (make id.0 id.1)) (plain_id_after words) (λ _. tt))

alone_plain : (found : Name) (l : ScriptLine) (words : List (List ℕ)) → ¬ IsHeaderName found → Named found (alone l words)
alone_plain found l words no_header = named_plain found (alone l words) no_header (plain_alone l words)

line_kinds : (found : Name) (words : List (List ℕ)) → Named found (line_named found words)
line_kinds name.Header words = named_header name.Header (header_fields words) tt
line_kinds name.Announce words = number_plain name.Announce (λ n. line.announce n) most_u64 words (λ h. h)
line_kinds name.Queue words = id_plain name.Queue (λ i g. line.queue i g) words (λ h. h)
line_kinds name.Revoke words = id_plain name.Revoke (λ i g. line.revoke i g) words (λ h. h)
line_kinds name.Flush words = number_plain name.Flush (λ n. line.flush n) most_u32 words (λ h. h)
line_kinds name.Start words = alone_plain name.Start line.start words (λ h. h)
line_kinds name.Stop words = number_plain name.Stop (λ n. line.stop n) most_u32 words (λ h. h)
line_kinds name.Tick words = number_plain name.Tick (λ n. line.tick n) most_u64 words (λ h. h)
line_kinds name.Datagram words =
    named_plain name.Datagram (datagram_line words) (λ h. h)
    (plain_bind (one_of words) _ (plain_one words) (λ w. plain_bind (hex_of w) _ (plain_hex w) (λ _. tt)))
line_kinds name.Take words = alone_plain name.Take line.take words (λ h. h)
line_kinds name.Kill words = alone_plain name.Kill line.kill words (λ h. h)
line_kinds name.EventFlush words = alone_plain name.EventFlush line.event_flush words (λ h. h)
line_kinds name.Info words = number_plain name.Info (λ n. line.info n) most_u32 words (λ h. h)
line_kinds name.BufferInfo words =
    named_plain name.BufferInfo (buffer_info_line words) (λ h. h)
    (plain_bind (two_of words) _ (plain_two words)
    (λ b. plain_bind (id_of b.0) _ (plain_id b.0) (λ i. plain_bind (number_in 0 most_u32 b.1) _ (plain_number 0 most_u32 b.1) (λ _. tt))))
line_kinds name.OpenChild words =
    named_plain name.OpenChild (open_child_line words) (λ h. h)
    (plain_bind (two_of words) _ (plain_two words)
    (λ b. plain_bind (parent_of b.0) _ (plain_parent b.0) (λ p. plain_bind (number_in 0 most_u32 b.1) _ (plain_number 0 most_u32 b.1) (λ _. tt))))
line_kinds name.CloseAll words = number_plain name.CloseAll (λ n. line.close_all n) most_u64 words (λ h. h)
line_kinds name.Step words =
    named_plain name.Step (step_line words) (λ h. h)
    (plain_bind (next_of words) _ (plain_next words) (λ a. plain_bind (next_of a.1) _ (plain_next a.1) (λ b. plain_step_of a.0 b.0 b.1)))
line_kinds name.Mode words = number_plain name.Mode (λ n. line.mode n) 2 words (λ h. h)
line_kinds name.End words = alone_plain name.End line.end_of_script words (λ h. h)
line_kinds name.CameraHeader words = named_header name.CameraHeader (camera_header_fields words) tt
line_kinds name.Command words =
    named_plain name.Command (command_line words) (λ h. h)
    (plain_bind (two_of words) _ (plain_two words)
    (λ b. plain_bind (number_in 1 65535 b.0) _ (plain_number 1 65535 b.0) (λ p. plain_bind (hex_of b.1) _ (plain_hex b.1) (λ _. tt))))
line_kinds name.Frame words = alone_plain name.Frame line.frame words (λ h. h)

word_is_line_kind : (kind : ScriptKind) → IsWordKind kind → IsLineKind kind
word_is_line_kind kinds.Word h = tt
word_is_line_kind kinds.Number h = tt
word_is_line_kind kinds.Hex h = tt
word_is_line_kind kinds.Header h = absurd h
word_is_line_kind kinds.Long h = absurd h
word_is_line_kind kinds.NoEnd h = absurd h
word_is_line_kind kinds.Many h = absurd h

same_kind : {A : Type 0} (a b : ScriptKind) → ◌≡◌ {A = Read A} (Err a) (Err b) → a ≡ b
same_kind a b e = cc

-- no line of a name
unknown : (kind : ScriptKind) → IsWordKind kind → HasKinds (Err kind) (Err kind)
unknown kind h = record {
  header = (λ e. absurd (subst IsWordKind (same_kind kind kinds.Header e) h), λ bad. absurd bad.header_name);
  kinds_of = λ other e. subst IsLineKind (same_kind kind other e) (word_is_line_kind kind h);
}

-- a line of a name
bad_header : (found : Name) → IsHeaderName found → IsBadHeader (Ok found) (Err kinds.Header)
bad_header found h = record { header_name = h; refused = λ l e. absurd (cc) }

known : (found : Name) (r : Read ScriptLine) → Named found r → HasKinds (Ok found) r
known found (Ok l) h = record {
  header = (λ e. absurd (cc), λ bad. absurd (bad.refused l refl));
  kinds_of = λ kind e. absurd (cc);
}
known found (Err kinds.Header) h = record {
  header = (λ e. bad_header found h, λ bad. refl);
  kinds_of = λ kind e. subst IsLineKind (same_kind kinds.Header kind e) tt;
}
known found (Err kinds.Word) h = record {
  header = (λ e. absurd (cc), λ bad. absurd (h bad.header_name));
  kinds_of = λ kind e. subst IsLineKind (same_kind kinds.Word kind e) tt;
}
known found (Err kinds.Number) h = record {
  header = (λ e. absurd (cc), λ bad. absurd (h bad.header_name));
  kinds_of = λ kind e. subst IsLineKind (same_kind kinds.Number kind e) tt;
}
known found (Err kinds.Hex) h = record {
  header = (λ e. absurd (cc), λ bad. absurd (h bad.header_name));
  kinds_of = λ kind e. subst IsLineKind (same_kind kinds.Hex kind e) tt;
}
known found (Err kinds.Long) h = absurd h
known found (Err kinds.NoEnd) h = absurd h
known found (Err kinds.Many) h = absurd h

named_kinds : (found : Read Name) (words : List (List ℕ)) → Plain found → HasKinds found (found >>= (λ n. line_named n words))
named_kinds (Ok found) words h = known found (line_named found words) (line_kinds found words)
named_kinds (Err kind) words h = unknown kind h

pub has_kinds : (bytes : List ℕ) → HasKinds (first_name bytes) (line_of bytes)
has_kinds bytes =
    let parts = parts_first 32 bytes in
    let P : List (List ℕ) → Type 0 = λ words. HasKinds (name_of_words words) (line_of_words words) in
    subst P (sym parts.is) (named_kinds (row_of names parts.first) parts.others (plain_row names parts.first))
