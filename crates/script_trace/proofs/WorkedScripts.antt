-- Scripts that are written out.
use Rattle.std.proofs.Common.{inr, ℕ, true, false, lit<, lit≤, List, [], ◌∷◌, ◌++◌, refl}
use Rattle.std.specs.Fmt.{digits}
use Rattle.std.specs.Prelude.{codes, Option, Some, None, Ok, Err}
use Rattle.gentl_types.specs.declared.errors.GcError.TheVariants.{InvalidHandle}
use Rattle.gentl_types.specs.declared.errors.Shown.TheVariants as shown
use Rattle.gentl_handles.specs.Opening.{opening as opening_handle, with_opened}
use Rattle.gev_script.specs.Lines as line
use Rattle.gev_script.specs.Lines.{ScriptLine}
use Rattle.board_machine.specs.declared.events.Event.{Event}
use Rattle.board_machine.specs.declared.events.Event.TheVariants.{LookOut, Enrol, Grab, Lay, Vacate, Pool, Claim, Fill, Take, SweepOut, SweepPool, Close}
use Rattle.board_machine.specs.declared.events.TakeEnd.TheVariants as end
use Rattle.gev_types.specs.Filling.{Filling, empty_record}
use Rattle.gev_report.specs.StepLine.{step_line}
use Rattle.gev_report.specs.declared.step_text.StepText.TheVariants as said
use Rattle.gev_script.specs.declared.act.Act.TheVariants as act
use Rattle.script_trace.specs.BoardLines.{buffer}
use Rattle.script_trace.specs.Trace.{Trace, Part, grown, caller, acts}
use Rattle.script_trace.specs.Answers.{refused_text, done_text, id_text}
use Rattle.script_trace.specs.HandleLines.{handles_are, opened_text, left_open}
use Rattle.script_trace.specs.Adding.{AddsPart}
use Rattle.script_trace.specs.Opening.{opening}
use Rattle.script_trace.specs.Ending.{end_text}
use Rattle.script_trace.specs.Standing.{running}
use Rattle.script_trace.proofs.WorkedBlock.{with_block}
use Rattle.script_trace.proofs.WorkedLines.{goes_on, config, nothing_kept, begins}
use Rattle.script_trace.specs.Worked.{IsWorked, nothing_done, device_closed, closed_before_fill, ScriptsAreWorked}

with_nothing : IsWorked nothing_done
unfolding digits
with_nothing = record {
  text = [];
  now = running config nothing_kept opening;
  runs = begins [] [] (running config nothing_kept opening) (refl, refl);
  last = end_text config 0 opening;
  new = running config nothing_kept opening;
  ended = record { in_place = refl; read = refl; said = refl; after = refl };
  is = refl;
}

-- ---- handles

abbrev opens : Trace → Option ℕ → ℕ → Part
opens t parent index = handles_are t [] (with_opened t.handles (opening_handle t.handles parent index)) (opened_text (opening_handle t.handles parent index))

open_adds : (t : Trace) (parent : Option ℕ) (index : ℕ) → AddsPart config t (line.open_child parent index) (opens t parent index)
open_adds t parent index = record { spells = refl; runs = tt; fills = tt }

abbrev closing_events : List Event
closing_events = Close ∷ SweepOut [] ∷ SweepPool [] ∷ []

abbrev h1 : Trace
h1 = grown opening (opens opening (Some 3) 0)

abbrev h2 : Trace
h2 = grown h1 (opens h1 (Some 3) 4)

abbrev h3 : Trace
h3 = grown h2 (opens h2 (Some 3) 1)

abbrev h4 : Trace
h4 = grown h3 (opens h3 (Some 9) 0)

abbrev closes_device : Part
closes_device = handles_are h4 closing_events (left_open h4 3) (done_text (codes "close"))

abbrev h5 : Trace
h5 = grown h4 closes_device

abbrev not_open : Part
not_open = handles_are h5 [] h5.handles (refused_text (codes "close") (InvalidHandle (shown.NoHandle 4)))

abbrev h6 : Trace
h6 = grown h5 not_open

abbrev not_announced : Part
not_announced = acts h6 caller (LookOut [] true ∷ []) (refused_text (codes "announce") (InvalidHandle shown.Closed))

abbrev h7 : Trace
h7 = grown h6 not_announced

abbrev lines7 : List (List ℕ)
lines7 = []

abbrev lines6 : List (List ℕ)
lines6 = codes "announce 3" ∷ lines7

abbrev lines5 : List (List ℕ)
lines5 = codes "close 4" ∷ lines6

abbrev lines4 : List (List ℕ)
lines4 = codes "close 3" ∷ lines5

abbrev lines3 : List (List ℕ)
lines3 = codes "open 9 0" ∷ lines4

abbrev lines2 : List (List ℕ)
lines2 = codes "open 3 1" ∷ lines3

abbrev lines1 : List (List ℕ)
lines1 = codes "open 3 4" ∷ lines2

abbrev lines0 : List (List ℕ)
lines0 = codes "open 3 0" ∷ lines1

abbrev text7 : List ℕ
text7 = []

abbrev text6 : List ℕ
text6 = (not_announced).text ++ text7

abbrev text5 : List ℕ
text5 = (not_open).text ++ text6

abbrev text4 : List ℕ
text4 = (closes_device).text ++ text5

abbrev text3 : List ℕ
text3 = (opens h3 (Some 9) 0).text ++ text4

abbrev text2 : List ℕ
text2 = (opens h2 (Some 3) 1).text ++ text3

abbrev text1 : List ℕ
text1 = (opens h1 (Some 3) 4).text ++ text2

abbrev text0 : List ℕ
text0 = (opens opening (Some 3) 0).text ++ text1

with_handles : IsWorked device_closed
unfolding digits
with_handles = record {
  text = text0;
  now = running config nothing_kept h7;
  runs =
      begins lines0 text0 (running config nothing_kept h7)
      (goes_on config opening 1 (codes "open 3 0") (line.open_child (Some 3) 0) (opens opening (Some 3) 0) lines1 text1 (running config nothing_kept h7) refl refl (open_adds opening (Some 3) 0)
      (goes_on config h1 2 (codes "open 3 4") (line.open_child (Some 3) 4) (opens h1 (Some 3) 4) lines2 text2 (running config nothing_kept h7) refl refl (open_adds h1 (Some 3) 4)
      (goes_on config h2 3 (codes "open 3 1") (line.open_child (Some 3) 1) (opens h2 (Some 3) 1) lines3 text3 (running config nothing_kept h7) refl refl (open_adds h2 (Some 3) 1)
      (goes_on config h3 4 (codes "open 9 0") (line.open_child (Some 9) 0) (opens h3 (Some 9) 0) lines4 text4 (running config nothing_kept h7) refl refl (open_adds h3 (Some 9) 0)
      (goes_on config h4 5 (codes "close 3") (line.close_all 3) closes_device lines5 text5 (running config nothing_kept h7) refl refl
      (record {
        spells = (closing_events, record { output = []; pooled = []; is = refl }, refl);
        runs = (record { actor = λ e. cc; meets = tt }, (record { actor = λ e. cc; meets = refl }, (record { actor = λ e. cc; meets = refl }, tt)));
        fills = (tt, (tt, (tt, tt)));
      })
      (goes_on config h5 6 (codes "close 4") (line.close_all 4) not_open lines6 text6 (running config nothing_kept h7) refl refl (record { spells = refl; runs = tt; fills = tt })
      (goes_on config h6 7 (codes "announce 3") (line.announce 3) not_announced lines7 text7 (running config nothing_kept h7) refl refl
      (record {
        spells = (Err (InvalidHandle shown.Closed), (λ e. cc), record { events = LookOut [] true ∷ []; kind = record { output = []; is = refl }; is = refl });
        runs = (record { actor = λ e. cc; meets = (refl, refl) }, tt);
        fills = (tt, tt);
      })
      (refl, refl))))))));
  last = end_text config 0 h7;
  new = running config nothing_kept h7;
  ended = record { in_place = refl; read = refl; said = refl; after = refl };
  is = refl;
}

-- ---- steps

abbrev zeros_of_three : Filling
zeros_of_three = record { bytes = 0 ∷ 0 ∷ 0 ∷ []; rec = empty_record }

abbrev s0 : Trace
s0 = opening

abbrev events1 : List Event
events1 = LookOut [] false ∷ Enrol 0 3 (Ok 1) ∷ Lay 0 ∷ []

abbrev part1 : Part
part1 = acts s0 caller events1 (id_text (codes "announce") (Ok (buffer 0 1)))

abbrev s1 : Trace
s1 = grown s0 part1

adds1 : AddsPart config s0 (line.announce 3) part1
adds1 = record {
  spells = (Ok (buffer 0 1), (λ e. cc), record { events = events1; kind = ((lit≤ tt, lit≤ tt), ([], refl, record { output = []; is = refl })); is = refl });
  runs = (record { actor = λ e. cc; meets = (refl, refl) }, (record { actor = λ e. cc; meets = (lit< tt, lit≤ tt, lit≤ tt, (refl, lit< tt), refl) }, (record { actor = λ e. cc; meets = lit≤ tt }, tt)));
  fills = (tt, (tt, (tt, tt)));
}

abbrev events2 : List Event
events2 = LookOut [] false ∷ Grab 0 1 (Ok tt) ∷ Pool 0 ∷ []

abbrev part2 : Part
part2 = acts s1 caller events2 (done_text (codes "queue"))

abbrev s2 : Trace
s2 = grown s1 part2

adds2 : AddsPart config s1 (line.queue 0 1) part2
adds2 = record {
  spells = (Ok tt, record { events = events2; kind = (lit< tt, record { output = []; is = refl }); is = refl });
  runs = (record { actor = λ e. cc; meets = (refl, refl) }, (record { actor = λ e. cc; meets = (lit< tt, (refl, refl)) }, (record { actor = λ e. cc; meets = lit≤ tt }, tt)));
  fills = (tt, (tt, (tt, tt)));
}

abbrev events3 : List Event
events3 = Claim (Some 0) ∷ []

abbrev part3 : Part
part3 = acts s2 1 events3 (step_line 1 (codes "claim") (said.Number 0))

abbrev s3 : Trace
s3 = grown s2 part3

adds3 : AddsPart config s2 (line.step 1 act.Claim None) part3
adds3 = record {
  spells = (Some 0, refl);
  runs = (record { actor = λ e. cc; meets = ([], refl) }, tt);
  fills = (tt, tt);
}

abbrev events4 : List Event
events4 = Close ∷ []

abbrev part4 : Part
part4 = acts s3 2 events4 (step_line 2 (codes "close") said.Done)

abbrev s4 : Trace
s4 = grown s3 part4

adds4 : AddsPart config s3 (line.step 2 act.Close None) part4
adds4 = record {
  spells = refl;
  runs = (record { actor = λ e. cc; meets = tt }, tt);
  fills = (tt, tt);
}

abbrev events5 : List Event
events5 = Fill 0 zeros_of_three false ∷ []

abbrev part5 : Part
part5 = acts s4 1 events5 (step_line 1 (codes "fill") said.Closed)

abbrev s5 : Trace
s5 = grown s4 part5

adds5 : AddsPart config s4 (line.step 1 act.Fill (Some 0)) part5
adds5 = record {
  spells = (zeros_of_three, false, refl);
  runs = (record { actor = λ e. cc; meets = (lit≤ tt, refl, refl) }, tt);
  fills = (inr refl, tt);
}

abbrev events6 : List Event
events6 = Lay 0 ∷ []

abbrev part6 : Part
part6 = acts s5 1 events6 (step_line 1 (codes "lay") said.Done)

abbrev s6 : Trace
s6 = grown s5 part6

adds6 : AddsPart config s5 (line.step 1 act.Lay (Some 0)) part6
adds6 = record {
  spells = refl;
  runs = (record { actor = λ e. cc; meets = lit≤ tt }, tt);
  fills = (tt, tt);
}

abbrev events7 : List Event
events7 = Take end.Closed ∷ []

abbrev part7 : Part
part7 = acts s6 caller events7 (refused_text (codes "take") (InvalidHandle shown.Closed))

abbrev s7 : Trace
s7 = grown s6 part7

adds7 : AddsPart config s6 (line.take) part7
adds7 = record {
  spells = (0, inr (record { refusal = InvalidHandle shown.Closed; calls = record { events = events7; kind = refl; is = refl } }));
  runs = (record { actor = λ e. cc; meets = refl }, tt);
  fills = (tt, tt);
}

abbrev events8 : List Event
events8 = LookOut [] true ∷ []

abbrev part8 : Part
part8 = acts s7 caller events8 (refused_text (codes "queue") (InvalidHandle shown.Closed))

abbrev s8 : Trace
s8 = grown s7 part8

adds8 : AddsPart config s7 (line.queue 0 1) part8
adds8 = record {
  spells = (Err (InvalidHandle shown.Closed), record { events = events8; kind = record { output = []; is = refl }; is = refl });
  runs = (record { actor = λ e. cc; meets = (refl, refl) }, tt);
  fills = (tt, tt);
}

abbrev events9 : List Event
events9 = Grab 0 1 (Ok tt) ∷ Vacate 0 ∷ []

abbrev part9 : Part
part9 = acts s8 caller events9 (done_text (codes "revoke"))

abbrev s9 : Trace
s9 = grown s8 part9

adds9 : AddsPart config s8 (line.revoke 0 1) part9
adds9 = record {
  spells = (Ok tt, record { events = events9; kind = (lit< tt, refl); is = refl });
  runs = (record { actor = λ e. cc; meets = (lit< tt, (refl, refl)) }, (record { actor = λ e. cc; meets = lit≤ tt }, tt));
  fills = (tt, (tt, tt));
}

abbrev step_lines9 : List (List ℕ)
step_lines9 = []

abbrev step_lines8 : List (List ℕ)
step_lines8 = codes "revoke 0.1" ∷ step_lines9

abbrev step_lines7 : List (List ℕ)
step_lines7 = codes "queue 0.1" ∷ step_lines8

abbrev step_lines6 : List (List ℕ)
step_lines6 = codes "take" ∷ step_lines7

abbrev step_lines5 : List (List ℕ)
step_lines5 = codes "step 1 lay 0" ∷ step_lines6

abbrev step_lines4 : List (List ℕ)
step_lines4 = codes "step 1 fill 0" ∷ step_lines5

abbrev step_lines3 : List (List ℕ)
step_lines3 = codes "step 2 close" ∷ step_lines4

abbrev step_lines2 : List (List ℕ)
step_lines2 = codes "step 1 claim" ∷ step_lines3

abbrev step_lines1 : List (List ℕ)
step_lines1 = codes "queue 0.1" ∷ step_lines2

abbrev step_lines0 : List (List ℕ)
step_lines0 = codes "announce 3" ∷ step_lines1

abbrev step_text9 : List ℕ
step_text9 = []

abbrev step_text8 : List ℕ
step_text8 = part9.text ++ step_text9

abbrev step_text7 : List ℕ
step_text7 = part8.text ++ step_text8

abbrev step_text6 : List ℕ
step_text6 = part7.text ++ step_text7

abbrev step_text5 : List ℕ
step_text5 = part6.text ++ step_text6

abbrev step_text4 : List ℕ
step_text4 = part5.text ++ step_text5

abbrev step_text3 : List ℕ
step_text3 = part4.text ++ step_text4

abbrev step_text2 : List ℕ
step_text2 = part3.text ++ step_text3

abbrev step_text1 : List ℕ
step_text1 = part2.text ++ step_text2

abbrev step_text0 : List ℕ
step_text0 = part1.text ++ step_text1

with_steps : IsWorked closed_before_fill
unfolding digits
with_steps = record {
  text = step_text0;
  now = running config nothing_kept s9;
  runs =
      begins step_lines0 step_text0 (running config nothing_kept s9)
      (goes_on config s0 1 (codes "announce 3") (line.announce 3) part1 step_lines1 step_text1 (running config nothing_kept s9) refl refl adds1
      (goes_on config s1 2 (codes "queue 0.1") (line.queue 0 1) part2 step_lines2 step_text2 (running config nothing_kept s9) refl refl adds2
      (goes_on config s2 3 (codes "step 1 claim") (line.step 1 act.Claim None) part3 step_lines3 step_text3 (running config nothing_kept s9) refl refl adds3
      (goes_on config s3 4 (codes "step 2 close") (line.step 2 act.Close None) part4 step_lines4 step_text4 (running config nothing_kept s9) refl refl adds4
      (goes_on config s4 5 (codes "step 1 fill 0") (line.step 1 act.Fill (Some 0)) part5 step_lines5 step_text5 (running config nothing_kept s9) refl refl adds5
      (goes_on config s5 6 (codes "step 1 lay 0") (line.step 1 act.Lay (Some 0)) part6 step_lines6 step_text6 (running config nothing_kept s9) refl refl adds6
      (goes_on config s6 7 (codes "take") (line.take) part7 step_lines7 step_text7 (running config nothing_kept s9) refl refl adds7
      (goes_on config s7 8 (codes "queue 0.1") (line.queue 0 1) part8 step_lines8 step_text8 (running config nothing_kept s9) refl refl adds8
      (goes_on config s8 9 (codes "revoke 0.1") (line.revoke 0 1) part9 step_lines9 step_text9 (running config nothing_kept s9) refl refl adds9
      (refl, refl))))))))));
  last = end_text config 0 s9;
  new = running config nothing_kept s9;
  ended = record { in_place = refl; read = refl; said = refl; after = refl };
  is = refl;
}

pub scripts_worked : ScriptsAreWorked
scripts_worked = record { with_nothing = with_nothing; with_handles = with_handles; with_steps = with_steps; with_block = with_block }
