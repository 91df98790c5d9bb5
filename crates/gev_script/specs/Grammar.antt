-- The lines of the scripts for `replay` and `camera`: what each line of bytes says, or the kind of its
-- refusal. The first word's table comes first, then the number of words and the act of a step, then
-- the numbers in the order of the line, and hex digits last.
use Rattle.std.specs.Prelude.{ℕ, List, [], ◌∷◌, codes, Some, None, Ok}
use Rattle.gev_script.specs.declared.name.Name.{Name}
use Rattle.gev_script.specs.declared.name.Name.TheVariants as name
use Rattle.gev_script.specs.declared.kind.ScriptKind.TheVariants.{Header}
use Rattle.gev_script.specs.Lines as line
use Rattle.gev_script.specs.Lines.{ScriptLine}
use Rattle.gev_script.specs.Words.{Read, ◌>>=◌, refused_as, words_of, none_left, next_of, one_of, two_of}
use Rattle.gev_script.specs.Tables.{row_of, names, acts_alone, acts_at_place}
use Rattle.gev_script.specs.Numbers.{number_in, hex_of}
use Rattle.gev_script.specs.Fields.{most_u32, most_u64, number_after, next_number, id_of, id_after, parent_of, after_word, most_p}

-- a line of its first word alone
abbrev pub alone : ScriptLine → List (List ℕ) → Read ScriptLine
alone l words = do
  done ← none_left words
  Ok l

-- the last numbers of a header
abbrev pub times_of : List (List ℕ) → Read (ℕ × ℕ × ℕ)
times_of words = do
  timeout ← next_number 1 60000 words
  age ← next_number 1 60000 timeout.1
  rounds ← next_number 0 8 age.1
  done ← none_left rounds.1
  Ok (timeout.0, age.0, rounds.0)

abbrev pub header_fields : List (List ℕ) → Read ScriptLine
header_fields words = do
  version ← next_number 1 2 words
  p ← next_number 528 (most_p version.0) version.1
  window ← next_number 1 4 p.1
  times ← times_of window.1
  Ok (line.header (record { version = version.0; p = p.0; window = window.0; timeout = times.0; age = times.1; rounds = times.2 }))

-- `gevacq <version> <p> <window> <timeout> <age> <rounds>`
abbrev pub header_line : List (List ℕ) → Read ScriptLine
header_line words = refused_as Header (header_fields words)

-- `announce <size>`
abbrev pub announce_line : List (List ℕ) → Read ScriptLine
announce_line words = do
  size ← number_after most_u64 words
  Ok (line.announce size)

-- `queue <id>`
abbrev pub queue_line : List (List ℕ) → Read ScriptLine
queue_line words = do
  id ← id_after words
  Ok (line.queue id.0 id.1)

-- `revoke <id>`
abbrev pub revoke_line : List (List ℕ) → Read ScriptLine
revoke_line words = do
  id ← id_after words
  Ok (line.revoke id.0 id.1)

-- `flush <n>`
abbrev pub flush_line : List (List ℕ) → Read ScriptLine
flush_line words = do
  operation ← number_after most_u32 words
  Ok (line.flush operation)

-- `stop <n>`
abbrev pub stop_line : List (List ℕ) → Read ScriptLine
stop_line words = do
  flags ← number_after most_u32 words
  Ok (line.stop flags)

-- `t <moment>`
abbrev pub tick_line : List (List ℕ) → Read ScriptLine
tick_line words = do
  moment ← number_after most_u64 words
  Ok (line.tick moment)

-- `d <hex>`
abbrev pub datagram_line : List (List ℕ) → Read ScriptLine
datagram_line words = do
  word ← one_of words
  digits ← hex_of word
  Ok (line.datagram digits)

-- `info <n>`
abbrev pub info_line : List (List ℕ) → Read ScriptLine
info_line words = do
  which ← number_after most_u32 words
  Ok (line.info which)

-- `binfo <id> <n>`
abbrev pub buffer_info_line : List (List ℕ) → Read ScriptLine
buffer_info_line words = do
  both ← two_of words
  id ← id_of both.0
  which ← number_in 0 most_u32 both.1
  Ok (line.buffer_info id.0 id.1 which)

-- `open <parent> <index>`
abbrev pub open_child_line : List (List ℕ) → Read ScriptLine
open_child_line words = do
  both ← two_of words
  parent ← parent_of both.0
  index ← number_in 0 most_u32 both.1
  Ok (line.open_child parent index)

-- `close <serial>`
abbrev pub close_all_line : List (List ℕ) → Read ScriptLine
close_all_line words = do
  serial ← number_after most_u64 words
  Ok (line.close_all serial)

-- a step of an act that names no place
abbrev pub step_alone : List ℕ → List ℕ → Read ScriptLine
step_alone actor act = do
  found ← row_of acts_alone act
  number ← number_in 1 4 actor
  Ok (line.step number found None)

-- a step of an act on a place
abbrev pub step_at_place : List ℕ → List ℕ → List ℕ → Read ScriptLine
step_at_place actor act place = do
  found ← row_of acts_at_place act
  number ← number_in 1 4 actor
  at ← number_in 0 14 place
  Ok (line.step number found (Some at))

abbrev pub step_of : List ℕ → List ℕ → List (List ℕ) → Read ScriptLine
step_of actor act [] = step_alone actor act
step_of actor act (place ∷ words) = do
  done ← none_left words
  step_at_place actor act place

-- `step <actor> <act>` or `step <actor> <act> <place>`
abbrev pub step_line : List (List ℕ) → Read ScriptLine
step_line words = do
  actor ← next_of words
  act ← next_of actor.1
  step_of actor.0 act.0 act.1

-- `mode <n>`
abbrev pub mode_line : List (List ℕ) → Read ScriptLine
mode_line words = do
  mode ← number_after 2 words
  Ok (line.mode mode)

abbrev pub camera_header_fields : List (List ℕ) → Read ScriptLine
camera_header_fields words = do
  after ← after_word (codes "1") words
  alone line.camera_header after

-- `gevacq-camera 1`
abbrev pub camera_header_line : List (List ℕ) → Read ScriptLine
camera_header_line words = refused_as Header (camera_header_fields words)

-- `c <peer> <hex>`
abbrev pub command_line : List (List ℕ) → Read ScriptLine
command_line words = do
  both ← two_of words
  peer ← number_in 1 65535 both.0
  digits ← hex_of both.1
  Ok (line.command peer digits)

-- the line with this first word and these others
abbrev pub line_named : Name → List (List ℕ) → Read ScriptLine
line_named name.Header words = header_line words
line_named name.Announce words = announce_line words
line_named name.Queue words = queue_line words
line_named name.Revoke words = revoke_line words
line_named name.Flush words = flush_line words
line_named name.Start words = alone line.start words
line_named name.Stop words = stop_line words
line_named name.Tick words = tick_line words
line_named name.Datagram words = datagram_line words
line_named name.Take words = alone line.take words
line_named name.Kill words = alone line.kill words
line_named name.EventFlush words = alone line.event_flush words
line_named name.Info words = info_line words
line_named name.BufferInfo words = buffer_info_line words
line_named name.OpenChild words = open_child_line words
line_named name.CloseAll words = close_all_line words
line_named name.Step words = step_line words
line_named name.Mode words = mode_line words
line_named name.End words = alone line.end_of_script words
line_named name.CameraHeader words = camera_header_line words
line_named name.Command words = command_line words
line_named name.Frame words = alone line.frame words

-- the name of a line with these words
abbrev pub name_of_words : List (List ℕ) → Read Name
name_of_words words = do
  word ← next_of words
  row_of names word.0

-- the name that a line's first word is
abbrev pub first_name : List ℕ → Read Name
first_name bytes = name_of_words (words_of bytes)

abbrev pub line_of_words : List (List ℕ) → Read ScriptLine
line_of_words words = do
  word ← next_of words
  named ← row_of names word.0
  line_named named word.1

-- what a line says, or the kind of its refusal
abbrev pub line_of : List ℕ → Read ScriptLine
line_of bytes = line_of_words (words_of bytes)
