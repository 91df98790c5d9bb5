-- A script with a datagram, written out.
use Rattle.std.proofs.Common.{inl, inr, ℕ, true, false, lit<, lit≤, List, [], ◌∷◌, ◌++◌, refl}
use Rattle.std.specs.Fmt.{digits}
use Rattle.std.specs.Prelude.{codes, Some, Ok, Err}
use Rattle.gentl_types.specs.declared.errors.GcError.TheVariants.{ResourceInUse}
use Rattle.gentl_types.specs.declared.errors.Shown.TheVariants as shown
use Rattle.gev_script.specs.Lines as line
use Rattle.gev_script.specs.Lines.{ScriptLine}
use Rattle.board_machine.specs.declared.events.Event.{Event}
use Rattle.board_machine.specs.declared.events.Event.TheVariants.{LookOut, LookPool, Start, Stop, Enrol, Grab, Lay, Pool, Claim, Fill}
use Rattle.gev_types.specs.Filling.{Filling}
use Rattle.script_trace.specs.BoardLines.{buffer}
use Rattle.script_trace.specs.Trace.{acquirer, Trace, Part, grown, caller, acts}
use Rattle.script_trace.specs.Answers.{value_text, refused_text, done_text, id_text}
use Rattle.script_trace.specs.Adding.{AddsPart}
use Rattle.script_trace.specs.Opening.{opening}
use Rattle.script_trace.specs.Ending.{end_text}
use Rattle.script_trace.specs.Standing.{running}
use Rattle.script_trace.specs.Worked.{leader_line, killed_with_block, IsWorked}
use Rattle.gev_types.specs.declared.block_account.Cause.TheVariants.{Stopped}
use Rattle.board_machine.specs.Adding.{entries_of}
use Rattle.board_calls.specs.Calls.{run_word}
use Rattle.board_calls.specs.Infos.{InfosBy}
use Rattle.acquisition_machine.specs.Machine.{stop, restart}
use Rattle.acquisition_machine.specs.Worked.{seen, leader_alone}
use Rattle.script_trace.specs.StreamLines.{tells, idles, told_twice}
use Rattle.board_calls.specs.declared.mode.Mode.TheVariants.{OldestFirst}
use Rattle.script_trace.specs.Modes.{FillsBlock}
use Rattle.hex.specs.Hex.{decode_pairs}
use Rattle.wire_fields.specs.Fields.{number_at}
use Rattle.gvsp_wire.specs.Reading.{reading, header_of, leader_of, sized_info}
use Rattle.script_trace.proofs.WorkedLines.{goes_on, config, nothing_kept, begins}

abbrev bytes : List ℕ
bytes = 0 ∷ 0 ∷ 0 ∷ 0 ∷ 129 ∷ 0 ∷ 0 ∷ 0 ∷ 0 ∷ 0 ∷ 0 ∷ 0 ∷ 0 ∷ 0 ∷ 0 ∷ 1 ∷ 0 ∷ 0 ∷ 0 ∷ 0 ∷ 0 ∷ 0 ∷ 0 ∷ 1 ∷ 0 ∷ 0 ∷ 0 ∷ 0 ∷ 0 ∷ 0 ∷ 0 ∷ 0 ∷ 1 ∷ 8 ∷ 0 ∷ 1 ∷ 0 ∷ 0 ∷ 0 ∷ 3 ∷ 0 ∷ 0 ∷ 0 ∷ 1 ∷ 0 ∷ 0 ∷ 0 ∷ 0 ∷ 0 ∷ 0 ∷ 0 ∷ 0 ∷ 0 ∷ 0 ∷ 0 ∷ 0 ∷ []

abbrev leader_only : Filling
leader_only = record { bytes = 0 ∷ 0 ∷ 0 ∷ []; rec = record { block = 1; complete = false; larger = false; has_leader = true; data_len = 3; filled = 0; image = seen 3 1; account = Some (leader_alone Stopped) } }

told_pool : InfosBy 1000 0 (LookPool [] ∷ [])
told_pool = record {
  known = inr (inr (inr refl));
  announced = λ e. absurd cc;
  awaiting = λ e. absurd cc;
  grabbing = λ e. absurd cc;
  pooled = λ e. record { pooled = []; is = refl; value = refl };
}

told_out : InfosBy 5 1 (LookOut (0 ∷ []) false ∷ [])
told_out = record {
  known = inr (inl refl);
  announced = λ e. absurd cc;
  awaiting = λ e. record { output = 0 ∷ []; closed = false; is = refl; value = refl };
  grabbing = λ e. absurd cc;
  pooled = λ e. absurd cc;
}

abbrev s0 : Trace
s0 = opening

abbrev events1 : List Event
events1 = LookOut [] false ∷ Enrol 0 3 (Ok 1) ∷ Lay 0 ∷ []

abbrev part1 : Part
part1 = acts s0 caller events1 (id_text (codes "announce") (Ok (buffer 0 1)))

abbrev s1 : Trace
s1 = grown s0 part1

adds1 : AddsPart config s0 (line.announce 3) part1
adds1 = record {
  spells = (Ok (buffer 0 1), (λ e. cc), record { events = events1; kind = ((lit≤ tt, lit≤ tt), ([], refl, record { output = []; is = refl })); is = refl });
  runs = (record { actor = λ e. cc; meets = (refl, refl) }, (record { actor = λ e. cc; meets = (lit< tt, lit≤ tt, lit≤ tt, (refl, lit< tt), refl) }, (record { actor = λ e. cc; meets = lit≤ tt }, tt)));
  fills = (tt, (tt, (tt, tt)));
}

abbrev events2 : List Event
events2 = LookOut [] false ∷ Grab 0 1 (Ok tt) ∷ Pool 0 ∷ []

abbrev part2 : Part
part2 = acts s1 caller events2 (done_text (codes "queue"))

abbrev s2 : Trace
s2 = grown s1 part2

adds2 : AddsPart config s1 (line.queue 0 1) part2
adds2 = record {
  spells = (Ok tt, record { events = events2; kind = (lit< tt, record { output = []; is = refl }); is = refl });
  runs = (record { actor = λ e. cc; meets = (refl, refl) }, (record { actor = λ e. cc; meets = (lit< tt, (refl, refl)) }, (record { actor = λ e. cc; meets = lit≤ tt }, tt)));
  fills = (tt, (tt, (tt, tt)));
}

abbrev part3 : Part
part3 = idles s2

abbrev s3 : Trace
s3 = grown s2 part3

adds3 : AddsPart config s2 (line.datagram (codes "00")) part3
unfolding decode_pairs
adds3 = record {
  spells = (0 ∷ [], refl, refl);
  runs = tt;
  fills = tt;
}

abbrev events4 : List Event
events4 = LookOut [] false ∷ Start (Ok tt) ∷ []

abbrev part4 : Part
part4 = tells s3 events4 restart [] (done_text (codes "start"))

abbrev s4 : Trace
s4 = grown s3 part4

adds4 : AddsPart config s3 (line.start) part4
adds4 = record {
  spells = (Ok tt, events4, record { output = []; is = refl }, refl);
  runs = (record { actor = λ e. cc; meets = (refl, refl) }, (record { actor = λ e. cc; meets = λ e. cc }, tt));
  fills = (tt, (tt, tt));
}

abbrev part5 : Part
part5 = record { entries = entries_of acquirer (Claim (Some 0) ∷ []); inputs = told_twice s4 bytes (Some 0); handles = s4.handles; idle = 0; text = []; mode = s4.mode; told_mode = s4.told_mode }

abbrev s5 : Trace
s5 = grown s4 part5

adds5 : AddsPart config s4 (line.datagram (codes "0000000081000000000000000000000100000000000000010000000000000000010800010000000300000001000000000000000000000000")) part5
unfolding decode_pairs reading header_of number_at leader_of sized_info
adds5 = record {
  spells = (bytes, refl, record { first = []; claim = Some (0, false); claims = Claim (Some 0) ∷ []; second = []; displaced = refl; got = refl; filled = refl; is = refl });
  runs = (record { actor = λ e. cc; meets = ([], refl) }, tt);
  fills = (tt, tt);
}

abbrev events6 : List Event
events6 = Stop true (Ok tt) ∷ []

abbrev part6 : Part
part6 = tells s5 events6 stop (Fill 0 leader_only true ∷ []) (done_text (codes "stop"))

abbrev s6 : Trace
s6 = grown s5 part6

-- the one block that is open
fills_leader : FillsBlock OldestFirst (record { place = 0; buf = leader_only }) (Fill 0 leader_only true ∷ [])
fills_leader = record {
  dropped = [];
  filled = true;
  call = Fill 0 leader_only true ∷ [];
  fills = record { front = []; drops = (refl, refl); is = refl };
  is = refl;
}

adds6 : AddsPart config s5 (line.stop 1) part6
unfolding decode_pairs reading header_of number_at leader_of sized_info
adds6 = record {
  spells = (Ok tt, events6, (lit≤ tt, refl), record { events = Fill 0 leader_only true ∷ []; filled = (Fill 0 leader_only true ∷ [], [], refl, fills_leader, refl); is = refl });
  runs = (record { actor = λ e. cc; meets = refl }, (record { actor = λ e. cc; meets = (lit≤ tt, refl, refl) }, tt));
  fills = (tt, (inl refl, tt));
}

abbrev part7 : Part
part7 = acts s6 caller (LookPool [] ∷ []) (value_text (codes "info") 1000 (Ok 0))

abbrev s7 : Trace
s7 = grown s6 part7

adds7 : AddsPart config s6 (line.info 1000) part7
adds7 = record {
  spells = (Ok 0, record { events = LookPool [] ∷ []; kind = told_pool; is = refl });
  runs = (record { actor = λ e. cc; meets = refl }, tt);
  fills = (tt, tt);
}

abbrev part8 : Part
part8 = acts s7 caller (LookOut (0 ∷ []) false ∷ []) (value_text (codes "info") 5 (Ok 1))

abbrev s8 : Trace
s8 = grown s7 part8

adds8 : AddsPart config s7 (line.info 5) part8
adds8 = record {
  spells = (Ok 1, record { events = LookOut (0 ∷ []) false ∷ []; kind = told_out; is = refl });
  runs = (record { actor = λ e. cc; meets = (refl, refl) }, tt);
  fills = (tt, tt);
}

abbrev part9 : Part
part9 = acts s8 caller (Stop false (Err 2) ∷ []) (refused_text (codes "stop") (ResourceInUse (shown.Word (run_word 2))))

abbrev s9 : Trace
s9 = grown s8 part9

adds9 : AddsPart config s8 (line.stop 0) part9
adds9 = record {
  spells = (Err (ResourceInUse (shown.Word (run_word 2))), Stop false (Err 2) ∷ [], (lit≤ tt, (2, refl, refl)), refl);
  runs = (record { actor = λ e. cc; meets = (refl, λ e. cc) }, tt);
  fills = (tt, tt);
}

abbrev lines9 : List (List ℕ)
lines9 = []

abbrev lines8 : List (List ℕ)
lines8 = codes "stop 0" ∷ lines9

abbrev lines7 : List (List ℕ)
lines7 = codes "info 5" ∷ lines8

abbrev lines6 : List (List ℕ)
lines6 = codes "info 1000" ∷ lines7

abbrev lines5 : List (List ℕ)
lines5 = codes "stop 1" ∷ lines6

abbrev lines4 : List (List ℕ)
lines4 = leader_line ∷ lines5

abbrev lines3 : List (List ℕ)
lines3 = codes "start" ∷ lines4

abbrev lines2 : List (List ℕ)
lines2 = codes "d 00" ∷ lines3

abbrev lines1 : List (List ℕ)
lines1 = codes "queue 0.1" ∷ lines2

abbrev lines0 : List (List ℕ)
lines0 = codes "announce 3" ∷ lines1

abbrev text9 : List ℕ
text9 = []

abbrev text8 : List ℕ
text8 = part9.text ++ text9

abbrev text7 : List ℕ
text7 = part8.text ++ text8

abbrev text6 : List ℕ
text6 = part7.text ++ text7

abbrev text5 : List ℕ
text5 = part6.text ++ text6

abbrev text4 : List ℕ
text4 = part5.text ++ text5

abbrev text3 : List ℕ
text3 = part4.text ++ text4

abbrev text2 : List ℕ
text2 = part3.text ++ text3

abbrev text1 : List ℕ
text1 = part2.text ++ text2

abbrev text0 : List ℕ
text0 = part1.text ++ text1

pub with_block : IsWorked killed_with_block
unfolding digits reading header_of number_at leader_of sized_info
with_block = record {
  text = text0;
  now = running config nothing_kept s9;
  runs =
      begins lines0 text0 (running config nothing_kept s9)
      (goes_on config s0 1 (codes "announce 3") (line.announce 3) part1 lines1 text1 (running config nothing_kept s9) refl refl adds1
      (goes_on config s1 2 (codes "queue 0.1") (line.queue 0 1) part2 lines2 text2 (running config nothing_kept s9) refl refl adds2
      (goes_on config s2 3 (codes "d 00") (line.datagram (codes "00")) part3 lines3 text3 (running config nothing_kept s9) refl refl adds3
      (goes_on config s3 4 (codes "start") (line.start) part4 lines4 text4 (running config nothing_kept s9) refl refl adds4
      (goes_on config s4 5 leader_line (line.datagram (codes "0000000081000000000000000000000100000000000000010000000000000000010800010000000300000001000000000000000000000000")) part5 lines5 text5 (running config nothing_kept s9) refl refl adds5
      (goes_on config s5 6 (codes "stop 1") (line.stop 1) part6 lines6 text6 (running config nothing_kept s9) refl refl adds6
      (goes_on config s6 7 (codes "info 1000") (line.info 1000) part7 lines7 text7 (running config nothing_kept s9) refl refl adds7
      (goes_on config s7 8 (codes "info 5") (line.info 5) part8 lines8 text8 (running config nothing_kept s9) refl refl adds8
      (goes_on config s8 9 (codes "stop 0") (line.stop 0) part9 lines9 text9 (running config nothing_kept s9) refl refl adds9
      (refl, refl))))))))));
  last = end_text config 0 s9;
  new = running config nothing_kept s9;
  ended = record { in_place = refl; read = refl; said = refl; after = refl };
  is = refl;
}
