-- A line that begins as one of a camera script and is read is one of its lines.
use Rattle.std.proofs.Common.{◌≡◌, ℕ, List, [], ◌∷◌, Bool, true, false, refl, subst}
use Rattle.std.specs.Prelude.{Option, Some, None, Ok, Err, if◌then◌else◌}
use Rattle.gev_script.specs.declared.kind.ScriptKind.{ScriptKind}
use Rattle.gev_script.specs.declared.kind.ScriptKind.TheVariants as kinds
use Rattle.gev_script.specs.declared.name.Name.{Name}
use Rattle.gev_script.specs.declared.name.Name.TheVariants.{Tick, Command, Frame, End}
use Rattle.gev_script.specs.Lines as line
use Rattle.gev_script.specs.Lines.{ScriptLine}
use Rattle.gev_script.specs.Words.{Read, ◌>>=◌, words_of, two_of}
use Rattle.gev_script.specs.Tables.{row_of, names}
use Rattle.gev_script.specs.Numbers.{number_in, hex_of}
use Rattle.gev_script.specs.Fields.{most_u64, number_after}
use Rattle.gev_script.specs.Grammar.{alone, tick_line, command_line, line_named, name_of_words, first_name, line_of_words, line_of}
use Rattle.camera_replay.specs.Standing.{is_in_place, kind_of_read, IsCameraLine}
use Rattle.camera_replay.specs.Laws.{LinesAreInPlace}

abbrev word : Option ScriptKind
word = Some kinds.Word

abbrev read_as : ScriptLine → Read ScriptLine
read_as l = Ok l

same_line : (said l : ScriptLine) → IsCameraLine said → read_as said ≡ read_as l → IsCameraLine l
same_line said l is read = let same : said ≡ l = cc in subst IsCameraLine same is

alone_is : (said l : ScriptLine) (words : List (List ℕ)) → IsCameraLine said → alone said words ≡ Ok l → IsCameraLine l
alone_is said l [] is read = same_line said l is read
alone_is said l (word ∷ words) is read = absurd (cc)

tick_is : (words : List (List ℕ)) (l : ScriptLine) → tick_line words ≡ Ok l → IsCameraLine l
tick_is words l read = go (number_after most_u64 words) read
  where
    go : (moment : Read ℕ) → (moment >>= λ m. Ok (line.tick m)) ≡ Ok l → IsCameraLine l
    go (Ok m) e = same_line (line.tick m) l tt e
    go (Err kind) e = absurd (cc)

command_is : (words : List (List ℕ)) (l : ScriptLine) → command_line words ≡ Ok l → IsCameraLine l
command_is words l read = go (two_of words) read
  where
    digits : (port : ℕ) (word : Read (List ℕ)) → (word >>= λ ds. Ok (line.command port ds)) ≡ Ok l → IsCameraLine l
    digits port (Ok ds) e = same_line (line.command port ds) l tt e
    digits port (Err kind) e = absurd (cc)

    port_of : (word : List ℕ) (port : Read ℕ) → (port >>= λ p. hex_of word >>= λ ds. Ok (line.command p ds)) ≡ Ok l → IsCameraLine l
    port_of word (Ok p) e = digits p (hex_of word) e
    port_of word (Err kind) e = absurd (cc)

    go : (both : Read (List ℕ × List ℕ)) → (both >>= λ b. number_in 1 65535 b.0 >>= λ p. hex_of b.1 >>= λ ds. Ok (line.command p ds)) ≡ Ok l → IsCameraLine l
    go (Ok b) e = port_of b.1 (number_in 1 65535 b.0) e
    go (Err kind) e = absurd (cc)

named_is : (words : List (List ℕ)) (l : ScriptLine) (named : Read Name) → is_in_place named ≡ true → (named >>= λ n. line_named n words) ≡ Ok l → IsCameraLine l
named_is words l (Ok Tick) place read = tick_is words l read
named_is words l (Ok Command) place read = command_is words l read
named_is words l (Ok Frame) place read = alone_is line.frame l words tt read
named_is words l (Ok End) place read = alone_is line.end_of_script l words tt read
named_is words l (Ok _) place read = absurd (cc)
named_is words l (Err _) place read = absurd (cc)

words_in_place : (words : List (List ℕ)) (l : ScriptLine) → is_in_place (name_of_words words) ≡ true → line_of_words words ≡ Ok l → IsCameraLine l
words_in_place [] l place read = absurd (cc)
words_in_place (word ∷ words) l place read = named_is words l (row_of names word) place read

pub in_place : LinesAreInPlace
in_place text l allowed read = go (is_in_place (first_name text)) refl allowed
  where
    go : (b : Bool) → is_in_place (first_name text) ≡ b → (if b then kind_of_read (line_of text) else word) ≡ None → IsCameraLine l
    go true place e = words_in_place (words_of text) l place read
    go false place e = absurd (cc)
