-- The first lines of a recorded script: three buffers, and the start.
use Rattle.std.proofs.Common.{◌≡◌, ◌≢◌, ℕ, false, List, [], ◌∷◌, ◌++◌, replicate, refl, lit<, lit≤}
use Rattle.std.specs.Prelude.{Some, None, Ok, Err, codes}
use Rattle.gentl_types.specs.declared.errors.GcError.TheVariants.{OutOfMemory}
use Rattle.gentl_types.specs.declared.word.Word.{Word}
use Rattle.gentl_types.specs.declared.word.State.TheVariants.{Vacant, Held}
use Rattle.gev_script.specs.Lines as line
use Rattle.board_machine.specs.declared.events.Event.{Event}
use Rattle.board_machine.specs.declared.events.Event.TheVariants.{LookOut, Enrol, Lay, Start}
use Rattle.board_machine.specs.Machine.{Board, vacant, empty_hands}
use Rattle.board_machine.specs.Adding.{entries_of}
use Rattle.acquisition_machine.specs.Machine.{restart}
use Rattle.script_trace.specs.Trace.{Trace, caller}
use Rattle.script_trace.specs.Opening.{opening}
use Rattle.script_trace.specs.Answers.{done_text, id_text}
use Rattle.script_trace.specs.BoardLines.{buffer}
use Rattle.acquisition_machine.specs.Turns.{buffer_size}
use Rattle.gev_record.specs.Script.{first_lines}
use Rattle.script_trace.proofs.Histories.{opening_runs}
use Rattle.gev_record.proofs.Desk.{desk, live_word, Done}
use Rattle.gev_record.proofs.Saying.{says_nothing, says_announced, says_started, tells_quiet}
use Rattle.gev_record.proofs.Stages.{On, GoesTo, Goes, line_on, to_both}

-- before the start, with these words
abbrev before : List Word → Board
before words = record {
  words = words;
  pool = [];
  out = [];
  hands = empty_hands ∷ empty_hands ∷ empty_hands ∷ empty_hands ∷ empty_hands ∷ empty_hands ∷ [];
  closed = false;
  kill = false;
  run = 0;
}

abbrev free : Word
free = live_word 0

abbrev none : Board
none = before (replicate 15 vacant)

abbrev one : Board
one = before (free ∷ replicate 14 vacant)

abbrev two : Board
two = before (free ∷ free ∷ replicate 13 vacant)

abbrev three : Board
three = before (free ∷ free ∷ free ∷ replicate 12 vacant)

abbrev first_events : List Event
first_events = LookOut [] false ∷ Enrol 0 buffer_size (Ok 1) ∷ Lay 0 ∷ []

abbrev second_events : List Event
second_events = LookOut [] false ∷ Enrol 0 buffer_size (Err free) ∷ Enrol 1 buffer_size (Ok 1) ∷ Lay 1 ∷ []

abbrev third_events : List Event
third_events = LookOut [] false ∷ Enrol 0 buffer_size (Err free) ∷ Enrol 1 buffer_size (Err free) ∷ Enrol 2 buffer_size (Ok 1) ∷ Lay 2 ∷ []

is_held : Held ≡ Vacant → ⊥
is_held e = cc

is_empty : empty_hands ≡ None → ⊥
is_empty e = cc

has_one : (i : ℕ) → Some (i ∷ []) ≡ None → ⊥
has_one i e = cc

first_done : Done none (entries_of caller first_events) one
first_done = record {
  runs = (
    record { actor = is_empty; meets = (refl, refl) },
    (
      record { actor = is_empty; meets = (lit< tt, lit≤ tt, lit≤ tt, (refl, lit< tt), refl) },
      (record { actor = has_one 0; meets = lit≤ tt }, tt),
    ),
  );
  after = refl;
}

second_done : Done one (entries_of caller second_events) two
second_done = record {
  runs = (
    record { actor = is_empty; meets = (refl, refl) },
    (
      record { actor = is_empty; meets = (lit< tt, lit≤ tt, lit≤ tt, refl, λ can. is_held can.0) },
      (
        record { actor = is_empty; meets = (lit< tt, lit≤ tt, lit≤ tt, (refl, lit< tt), refl) },
        (record { actor = has_one 1; meets = lit≤ tt }, tt),
      ),
    ),
  );
  after = refl;
}

third_done : Done two (entries_of caller third_events) three
third_done = record {
  runs = (
    record { actor = is_empty; meets = (refl, refl) },
    (
      record { actor = is_empty; meets = (lit< tt, lit≤ tt, lit≤ tt, refl, λ can. is_held can.0) },
      (
        record { actor = is_empty; meets = (lit< tt, lit≤ tt, lit≤ tt, refl, λ can. is_held can.0) },
        (
          record { actor = is_empty; meets = (lit< tt, lit≤ tt, lit≤ tt, (refl, lit< tt), refl) },
          (record { actor = has_one 2; meets = lit≤ tt }, tt),
        ),
      ),
    ),
  );
  after = refl;
}

start_done : Done three (entries_of caller (LookOut [] false ∷ Start (Ok tt) ∷ [])) (desk 1 [] [] [])
start_done = record {
  runs = (record { actor = is_empty; meets = (refl, refl) }, (record { actor = is_empty; meets = λ e. absurd cc }, tt));
  after = refl;
}

open_on : On opening none
open_on = record { is = refl; handles = refl; mode = refl; entries = (tt, (tt, (tt, (tt, (tt, tt))))); run = opening_runs; says = says_nothing }

not_memory : (place : ℕ) → Ok (buffer place 1) ≢ Err OutOfMemory
not_memory place e = cc

one_goes : GoesTo opening (line.announce buffer_size ∷ []) [] one
one_goes =
    line_on opening (line.announce buffer_size) (entries_of caller first_events) [] (id_text (codes "announce") (Ok (buffer 0 1))) none one open_on
    (Ok (buffer 0 1), not_memory 0, record { events = first_events; kind = ((lit≤ tt, lit≤ tt), ([], refl, record { output = []; is = refl })); is = refl })
    first_done (tt, (tt, (tt, tt))) (tells_quiet [] (entries_of caller first_events) _ refl (says_announced (buffer 0 1)))

two_goes : (t : Trace) → On t one → GoesTo t (line.announce buffer_size ∷ []) [] two
two_goes t s =
    line_on t (line.announce buffer_size) (entries_of caller second_events) [] (id_text (codes "announce") (Ok (buffer 1 1))) one two s
    (Ok (buffer 1 1), not_memory 1, record { events = second_events; kind = ((lit≤ tt, lit≤ tt), (free ∷ [], refl, record { output = []; is = refl })); is = refl })
    second_done (tt, (tt, (tt, (tt, tt)))) (tells_quiet [] (entries_of caller second_events) _ refl (says_announced (buffer 1 1)))

three_goes : (t : Trace) → On t two → GoesTo t (line.announce buffer_size ∷ []) [] three
three_goes t s =
    line_on t (line.announce buffer_size) (entries_of caller third_events) [] (id_text (codes "announce") (Ok (buffer 2 1))) two three s
    (Ok (buffer 2 1), not_memory 2, record { events = third_events; kind = ((lit≤ tt, lit≤ tt), (free ∷ free ∷ [], refl, record { output = []; is = refl })); is = refl })
    third_done (tt, (tt, (tt, (tt, (tt, tt))))) (tells_quiet [] (entries_of caller third_events) _ refl (says_announced (buffer 2 1)))

start_goes : (t : Trace) → On t three → GoesTo t (line.start ∷ []) (restart ∷ []) (desk 1 [] [] [])
start_goes t s =
    line_on t line.start (entries_of caller (LookOut [] false ∷ Start (Ok tt) ∷ []) ++ []) (restart ∷ []) (done_text (codes "start")) three (desk 1 [] [] []) s
    (Ok tt, LookOut [] false ∷ Start (Ok tt) ∷ [], record { output = []; is = refl }, refl)
    start_done (tt, (tt, tt)) (tells_quiet [] (entries_of caller (LookOut [] false ∷ Start (Ok tt) ∷ []) ++ []) _ refl says_started)

pub begins : Goes opening first_lines (restart ∷ []) 1 [] [] []
begins =
    let a = one_goes in
    let b = two_goes a.to a.stage in
    let c = three_goes b.to b.stage in
    let d = start_goes c.to c.stage in
    to_both opening (line.announce buffer_size ∷ []) (line.announce buffer_size ∷ line.announce buffer_size ∷ line.start ∷ []) [] (restart ∷ []) one (desk 1 [] [] []) a
    (to_both a.to (line.announce buffer_size ∷ []) (line.announce buffer_size ∷ line.start ∷ []) [] (restart ∷ []) two (desk 1 [] [] []) b
    (to_both b.to (line.announce buffer_size ∷ []) (line.start ∷ []) [] (restart ∷ []) three (desk 1 [] [] []) c d))
