-- Scripts that are written out.
use Rattle.std.proofs.Common.{ℕ, ◌≡◌, ◌+◌, List, [], ◌∷◌, ◌++◌, refl}
use Rattle.std.specs.Fmt.{digits}
use Rattle.std.specs.Prelude.{codes, None, Ok}
use Rattle.byteorder.specs.Endian.{big_bytes}
use Rattle.hex.specs.Hex.{decode_pairs, encode_with}
use Rattle.wire_fields.specs.Fields.{number_at}
use Rattle.bootstrap_regs.specs.Registers.{register_at}
use Rattle.gev_script.specs.Lines as line
use Rattle.gev_script.specs.Lines.{ScriptLine}
use Rattle.gev_script.specs.Grammar.{line_of}
use Rattle.gev_report.specs.CameraLines.{executed_line}
use Rattle.script_runs.specs.Runs.{RunsLines}
use Rattle.camera_machine.specs.Words.{words_from, initial_words}
use Rattle.camera_replay.specs.Serving.{Serving, Part, opening, with_command, with_tick, with_frame_line, Does}
use Rattle.camera_replay.specs.Standing.{Standing, first, running, later_kind, CameraRuns}
use Rattle.camera_replay.specs.Worked.{IsWorked, header_line, stranger, nothing_sent, second_peer, ScriptsAreWorked}

-- one more line, and those after it
goes_on : (s : Serving) (n : ℕ) (text : List ℕ) (l : ScriptLine) (part : Part) (lines : List (List ℕ)) (rest : List ℕ) (new : Standing) → later_kind text ≡ None → line_of text ≡ Ok l → Does s l part → RunsLines CameraRuns (running part.serving) (n + 1) lines rest new → RunsLines CameraRuns (running s) n (text ∷ lines) (part.text ++ rest) new
goes_on s n text l part lines rest new in_place read does more = (
  running part.serving,
  part.text,
  rest,
  record { in_place = in_place; says = l; read = read; part = part; does = does; said = refl; after = refl },
  more,
  refl,
)

-- the header, and the lines after it
begins : (lines : List (List ℕ)) (rest : List ℕ) (new : Standing) → RunsLines CameraRuns (running opening) 1 lines rest new → RunsLines CameraRuns first 0 (header_line ∷ lines) rest new
begins lines rest new more = (running opening, [], rest, record { read = refl; silent = refl; after = refl }, more, refl)

-- ---- the row `stranger`

abbrev stranger_part1 : Part
stranger_part1 = with_command opening 1 (big_bytes 12 0x420100800004000100000004)

abbrev stranger_part2 : Part
stranger_part2 = with_command stranger_part1.serving 1 (big_bytes 16 0x4201008200080002000009380000012c)

abbrev stranger_lines2 : List (List ℕ)
stranger_lines2 = []

abbrev stranger_text2 : List ℕ
stranger_text2 = []

abbrev stranger_lines1 : List (List ℕ)
stranger_lines1 = codes "c 1 4201008200080002000009380000012c" ∷ stranger_lines2

abbrev stranger_text1 : List ℕ
stranger_text1 = stranger_part2.text ++ stranger_text2

abbrev stranger_lines0 : List (List ℕ)
stranger_lines0 = codes "c 1 420100800004000100000004" ∷ stranger_lines1

abbrev stranger_text0 : List ℕ
stranger_text0 = stranger_part1.text ++ stranger_text1

abbrev stranger_now : Standing
stranger_now = running stranger_part2.serving

stranger_runs1 : RunsLines CameraRuns (running stranger_part1.serving) 2 stranger_lines1 stranger_text1 stranger_now
unfolding decode_pairs
stranger_runs1 = goes_on stranger_part1.serving 2 (codes "c 1 4201008200080002000009380000012c") (line.command 1 (codes "4201008200080002000009380000012c")) stranger_part2 stranger_lines2 stranger_text2 stranger_now refl refl (big_bytes 16 0x4201008200080002000009380000012c, refl, refl) (refl, refl)

stranger_runs0 : RunsLines CameraRuns (running opening) 1 stranger_lines0 stranger_text0 stranger_now
unfolding decode_pairs
stranger_runs0 = goes_on opening 1 (codes "c 1 420100800004000100000004") (line.command 1 (codes "420100800004000100000004")) stranger_part1 stranger_lines1 stranger_text1 stranger_now refl refl (big_bytes 12 0x420100800004000100000004, refl, refl) stranger_runs1

of_stranger : IsWorked stranger
unfolding digits number_at register_at words_from initial_words encode_with
of_stranger = record {
  text = stranger_text0;
  now = stranger_now;
  runs = begins stranger_lines0 stranger_text0 stranger_now stranger_runs0;
  last = executed_line (stranger_part2.serving.camera.executed);
  new = stranger_now;
  ended = record { in_place = refl; read = refl; said = refl; after = refl };
  is = refl;
}

-- ---- the row `nothing_sent`

abbrev nothing_sent_part1 : Part
nothing_sent_part1 = with_command opening 1 (big_bytes 16 0x420100820008000100000a0000000002)

abbrev nothing_sent_part2 : Part
nothing_sent_part2 = with_frame_line nothing_sent_part1.serving

abbrev nothing_sent_part3 : Part
nothing_sent_part3 = with_command nothing_sent_part2.serving 1 (big_bytes 16 0x420100820008000200000d000000c000)

abbrev nothing_sent_part4 : Part
nothing_sent_part4 = with_command nothing_sent_part3.serving 1 (big_bytes 28 0x42100040001400030000000000000003000000030000000000000001)

abbrev nothing_sent_lines4 : List (List ℕ)
nothing_sent_lines4 = []

abbrev nothing_sent_text4 : List ℕ
nothing_sent_text4 = []

abbrev nothing_sent_lines3 : List (List ℕ)
nothing_sent_lines3 = codes "c 1 42100040001400030000000000000003000000030000000000000001" ∷ nothing_sent_lines4

abbrev nothing_sent_text3 : List ℕ
nothing_sent_text3 = nothing_sent_part4.text ++ nothing_sent_text4

abbrev nothing_sent_lines2 : List (List ℕ)
nothing_sent_lines2 = codes "c 1 420100820008000200000d000000c000" ∷ nothing_sent_lines3

abbrev nothing_sent_text2 : List ℕ
nothing_sent_text2 = nothing_sent_part3.text ++ nothing_sent_text3

abbrev nothing_sent_lines1 : List (List ℕ)
nothing_sent_lines1 = codes "frame" ∷ nothing_sent_lines2

abbrev nothing_sent_text1 : List ℕ
nothing_sent_text1 = nothing_sent_part2.text ++ nothing_sent_text2

abbrev nothing_sent_lines0 : List (List ℕ)
nothing_sent_lines0 = codes "c 1 420100820008000100000a0000000002" ∷ nothing_sent_lines1

abbrev nothing_sent_text0 : List ℕ
nothing_sent_text0 = nothing_sent_part1.text ++ nothing_sent_text1

abbrev nothing_sent_now : Standing
nothing_sent_now = running nothing_sent_part4.serving

nothing_sent_runs3 : RunsLines CameraRuns (running nothing_sent_part3.serving) 4 nothing_sent_lines3 nothing_sent_text3 nothing_sent_now
unfolding decode_pairs
nothing_sent_runs3 = goes_on nothing_sent_part3.serving 4 (codes "c 1 42100040001400030000000000000003000000030000000000000001") (line.command 1 (codes "42100040001400030000000000000003000000030000000000000001")) nothing_sent_part4 nothing_sent_lines4 nothing_sent_text4 nothing_sent_now refl refl (big_bytes 28 0x42100040001400030000000000000003000000030000000000000001, refl, refl) (refl, refl)

nothing_sent_runs2 : RunsLines CameraRuns (running nothing_sent_part2.serving) 3 nothing_sent_lines2 nothing_sent_text2 nothing_sent_now
unfolding decode_pairs
nothing_sent_runs2 = goes_on nothing_sent_part2.serving 3 (codes "c 1 420100820008000200000d000000c000") (line.command 1 (codes "420100820008000200000d000000c000")) nothing_sent_part3 nothing_sent_lines3 nothing_sent_text3 nothing_sent_now refl refl (big_bytes 16 0x420100820008000200000d000000c000, refl, refl) nothing_sent_runs3

nothing_sent_runs1 : RunsLines CameraRuns (running nothing_sent_part1.serving) 2 nothing_sent_lines1 nothing_sent_text1 nothing_sent_now
nothing_sent_runs1 = goes_on nothing_sent_part1.serving 2 (codes "frame") line.frame nothing_sent_part2 nothing_sent_lines2 nothing_sent_text2 nothing_sent_now refl refl refl nothing_sent_runs2

nothing_sent_runs0 : RunsLines CameraRuns (running opening) 1 nothing_sent_lines0 nothing_sent_text0 nothing_sent_now
unfolding decode_pairs
nothing_sent_runs0 = goes_on opening 1 (codes "c 1 420100820008000100000a0000000002") (line.command 1 (codes "420100820008000100000a0000000002")) nothing_sent_part1 nothing_sent_lines1 nothing_sent_text1 nothing_sent_now refl refl (big_bytes 16 0x420100820008000100000a0000000002, refl, refl) nothing_sent_runs1

of_nothing_sent : IsWorked nothing_sent
unfolding digits number_at register_at words_from initial_words encode_with
of_nothing_sent = record {
  text = nothing_sent_text0;
  now = nothing_sent_now;
  runs = begins nothing_sent_lines0 nothing_sent_text0 nothing_sent_now nothing_sent_runs0;
  last = executed_line (nothing_sent_part4.serving.camera.executed);
  new = nothing_sent_now;
  ended = record { in_place = refl; read = refl; said = refl; after = refl };
  is = refl;
}

-- ---- the row `second_peer`

abbrev second_peer_part1 : Part
second_peer_part1 = with_command opening 1 (big_bytes 16 0x420100820008000100000a0000000002)

abbrev second_peer_part2 : Part
second_peer_part2 = with_command second_peer_part1.serving 2 (big_bytes 16 0x420100820008000700000a0000000002)

abbrev second_peer_part3 : Part
second_peer_part3 = with_tick second_peer_part2.serving 3000

abbrev second_peer_part4 : Part
second_peer_part4 = with_command second_peer_part3.serving 2 (big_bytes 16 0x420100820008000700000a0000000002)

abbrev second_peer_part5 : Part
second_peer_part5 = with_command second_peer_part4.serving 2 (big_bytes 16 0x420100820008000700000a0000000002)

abbrev second_peer_part6 : Part
second_peer_part6 = with_command second_peer_part5.serving 2 (big_bytes 16 0x42010084000800080000000000000219)

abbrev second_peer_part7 : Part
second_peer_part7 = with_command second_peer_part6.serving 2 (big_bytes 12 0x420100800004000900000a01)

abbrev second_peer_part8 : Part
second_peer_part8 = with_command second_peer_part7.serving 2 (big_bytes 16 0x420100800008000a0000000000000a00)

abbrev second_peer_lines8 : List (List ℕ)
second_peer_lines8 = []

abbrev second_peer_text8 : List ℕ
second_peer_text8 = []

abbrev second_peer_lines7 : List (List ℕ)
second_peer_lines7 = codes "c 2 420100800008000a0000000000000a00" ∷ second_peer_lines8

abbrev second_peer_text7 : List ℕ
second_peer_text7 = second_peer_part8.text ++ second_peer_text8

abbrev second_peer_lines6 : List (List ℕ)
second_peer_lines6 = codes "c 2 420100800004000900000a01" ∷ second_peer_lines7

abbrev second_peer_text6 : List ℕ
second_peer_text6 = second_peer_part7.text ++ second_peer_text7

abbrev second_peer_lines5 : List (List ℕ)
second_peer_lines5 = codes "c 2 42010084000800080000000000000219" ∷ second_peer_lines6

abbrev second_peer_text5 : List ℕ
second_peer_text5 = second_peer_part6.text ++ second_peer_text6

abbrev second_peer_lines4 : List (List ℕ)
second_peer_lines4 = codes "c 2 420100820008000700000a0000000002" ∷ second_peer_lines5

abbrev second_peer_text4 : List ℕ
second_peer_text4 = second_peer_part5.text ++ second_peer_text5

abbrev second_peer_lines3 : List (List ℕ)
second_peer_lines3 = codes "c 2 420100820008000700000a0000000002" ∷ second_peer_lines4

abbrev second_peer_text3 : List ℕ
second_peer_text3 = second_peer_part4.text ++ second_peer_text4

abbrev second_peer_lines2 : List (List ℕ)
second_peer_lines2 = codes "t 3000" ∷ second_peer_lines3

abbrev second_peer_text2 : List ℕ
second_peer_text2 = second_peer_part3.text ++ second_peer_text3

abbrev second_peer_lines1 : List (List ℕ)
second_peer_lines1 = codes "c 2 420100820008000700000a0000000002" ∷ second_peer_lines2

abbrev second_peer_text1 : List ℕ
second_peer_text1 = second_peer_part2.text ++ second_peer_text2

abbrev second_peer_lines0 : List (List ℕ)
second_peer_lines0 = codes "c 1 420100820008000100000a0000000002" ∷ second_peer_lines1

abbrev second_peer_text0 : List ℕ
second_peer_text0 = second_peer_part1.text ++ second_peer_text1

abbrev second_peer_now : Standing
second_peer_now = running second_peer_part8.serving

second_peer_runs7 : RunsLines CameraRuns (running second_peer_part7.serving) 8 second_peer_lines7 second_peer_text7 second_peer_now
unfolding decode_pairs
second_peer_runs7 = goes_on second_peer_part7.serving 8 (codes "c 2 420100800008000a0000000000000a00") (line.command 2 (codes "420100800008000a0000000000000a00")) second_peer_part8 second_peer_lines8 second_peer_text8 second_peer_now refl refl (big_bytes 16 0x420100800008000a0000000000000a00, refl, refl) (refl, refl)

second_peer_runs6 : RunsLines CameraRuns (running second_peer_part6.serving) 7 second_peer_lines6 second_peer_text6 second_peer_now
unfolding decode_pairs
second_peer_runs6 = goes_on second_peer_part6.serving 7 (codes "c 2 420100800004000900000a01") (line.command 2 (codes "420100800004000900000a01")) second_peer_part7 second_peer_lines7 second_peer_text7 second_peer_now refl refl (big_bytes 12 0x420100800004000900000a01, refl, refl) second_peer_runs7

second_peer_runs5 : RunsLines CameraRuns (running second_peer_part5.serving) 6 second_peer_lines5 second_peer_text5 second_peer_now
unfolding decode_pairs
second_peer_runs5 = goes_on second_peer_part5.serving 6 (codes "c 2 42010084000800080000000000000219") (line.command 2 (codes "42010084000800080000000000000219")) second_peer_part6 second_peer_lines6 second_peer_text6 second_peer_now refl refl (big_bytes 16 0x42010084000800080000000000000219, refl, refl) second_peer_runs6

second_peer_runs4 : RunsLines CameraRuns (running second_peer_part4.serving) 5 second_peer_lines4 second_peer_text4 second_peer_now
unfolding decode_pairs
second_peer_runs4 = goes_on second_peer_part4.serving 5 (codes "c 2 420100820008000700000a0000000002") (line.command 2 (codes "420100820008000700000a0000000002")) second_peer_part5 second_peer_lines5 second_peer_text5 second_peer_now refl refl (big_bytes 16 0x420100820008000700000a0000000002, refl, refl) second_peer_runs5

second_peer_runs3 : RunsLines CameraRuns (running second_peer_part3.serving) 4 second_peer_lines3 second_peer_text3 second_peer_now
unfolding decode_pairs
second_peer_runs3 = goes_on second_peer_part3.serving 4 (codes "c 2 420100820008000700000a0000000002") (line.command 2 (codes "420100820008000700000a0000000002")) second_peer_part4 second_peer_lines4 second_peer_text4 second_peer_now refl refl (big_bytes 16 0x420100820008000700000a0000000002, refl, refl) second_peer_runs4

second_peer_runs2 : RunsLines CameraRuns (running second_peer_part2.serving) 3 second_peer_lines2 second_peer_text2 second_peer_now
second_peer_runs2 = goes_on second_peer_part2.serving 3 (codes "t 3000") (line.tick 3000) second_peer_part3 second_peer_lines3 second_peer_text3 second_peer_now refl refl refl second_peer_runs3

second_peer_runs1 : RunsLines CameraRuns (running second_peer_part1.serving) 2 second_peer_lines1 second_peer_text1 second_peer_now
unfolding decode_pairs
second_peer_runs1 = goes_on second_peer_part1.serving 2 (codes "c 2 420100820008000700000a0000000002") (line.command 2 (codes "420100820008000700000a0000000002")) second_peer_part2 second_peer_lines2 second_peer_text2 second_peer_now refl refl (big_bytes 16 0x420100820008000700000a0000000002, refl, refl) second_peer_runs2

second_peer_runs0 : RunsLines CameraRuns (running opening) 1 second_peer_lines0 second_peer_text0 second_peer_now
unfolding decode_pairs
second_peer_runs0 = goes_on opening 1 (codes "c 1 420100820008000100000a0000000002") (line.command 1 (codes "420100820008000100000a0000000002")) second_peer_part1 second_peer_lines1 second_peer_text1 second_peer_now refl refl (big_bytes 16 0x420100820008000100000a0000000002, refl, refl) second_peer_runs1

of_second_peer : IsWorked second_peer
unfolding digits number_at register_at words_from initial_words encode_with
of_second_peer = record {
  text = second_peer_text0;
  now = second_peer_now;
  runs = begins second_peer_lines0 second_peer_text0 second_peer_now second_peer_runs0;
  last = executed_line (second_peer_part8.serving.camera.executed);
  new = second_peer_now;
  ended = record { in_place = refl; read = refl; said = refl; after = refl };
  is = refl;
}

pub scripts_worked : ScriptsAreWorked
scripts_worked = record { of_stranger = of_stranger; with_nothing_sent = of_nothing_sent; of_second_peer = of_second_peer }
