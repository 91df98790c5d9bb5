-- The first lines of a captured script: five buffers, which are pooled, and the start.
use Rattle.std.proofs.Common.{◌≤◌, ◌≡◌, ◌≢◌, ℕ, false, List, [], ◌∷◌, ◌++◌, replicate, refl, lit<, lit≤}
use Rattle.std.specs.Prelude.{Some, None, Ok, Err, codes}
use Rattle.gentl_types.specs.declared.errors.GcError.TheVariants.{OutOfMemory}
use Rattle.gentl_types.specs.declared.word.Word.{Word}
use Rattle.gentl_types.specs.declared.word.State.TheVariants.{Vacant, Held}
use Rattle.gev_script.specs.Lines as line
use Rattle.board_machine.specs.declared.events.Event.{Event}
use Rattle.board_machine.specs.declared.events.Event.TheVariants.{LookOut, Enrol, Lay, Start}
use Rattle.board_machine.specs.Machine.{Board, vacant, empty_hands}
use Rattle.board_machine.specs.Adding.{entries_of}
use Rattle.acquisition_machine.specs.Machine.{restart}
use Rattle.script_trace.specs.Trace.{Trace, caller}
use Rattle.script_trace.specs.Opening.{opening}
use Rattle.script_trace.specs.Answers.{done_text, id_text}
use Rattle.script_trace.specs.BoardLines.{buffer}
use Rattle.capture_script.proofs.Desk.{desk, live_word, Done}
use Rattle.capture_script.proofs.Stages.{On, GoesTo, Goes, line_on, to_both}
use Rattle.capture_script.proofs.StageLines.{flush_goes}
use Rattle.gev_script.specs.Lines.{ScriptLine}
use Rattle.capture_script.specs.Script.{script_buffers, announce_lines}

-- board_before the start, with these words
abbrev board_before : List Word → Board
board_before words = record {
  words = words;
  pool = [];
  out = [];
  hands = empty_hands ∷ empty_hands ∷ empty_hands ∷ empty_hands ∷ empty_hands ∷ empty_hands ∷ [];
  closed = false;
  kill = false;
  run = 0;
}

abbrev free_word : (pp ss : ℕ) → Word
free_word pp ss = live_word pp ss 0

abbrev board_none : Board
board_none = board_before (replicate 15 vacant)

abbrev board_one : (pp ss : ℕ) → Board
board_one pp ss = board_before (free_word pp ss ∷ replicate 14 vacant)

abbrev board_two : (pp ss : ℕ) → Board
board_two pp ss = board_before (free_word pp ss ∷ (free_word pp ss) ∷ replicate 13 vacant)

abbrev board_three : (pp ss : ℕ) → Board
board_three pp ss = board_before (free_word pp ss ∷ (free_word pp ss) ∷ (free_word pp ss) ∷ replicate 12 vacant)

abbrev board_four : (pp ss : ℕ) → Board
board_four pp ss = board_before (free_word pp ss ∷ (free_word pp ss) ∷ (free_word pp ss) ∷ (free_word pp ss) ∷ replicate 11 vacant)

abbrev board_five : (pp ss : ℕ) → Board
board_five pp ss = board_before (free_word pp ss ∷ (free_word pp ss) ∷ (free_word pp ss) ∷ (free_word pp ss) ∷ (free_word pp ss) ∷ replicate 10 vacant)

abbrev first_events : (pp ss : ℕ) → List Event
first_events pp ss = LookOut [] false ∷ Enrol 0 ss (Ok 1) ∷ Lay 0 ∷ []

abbrev second_events : (pp ss : ℕ) → List Event
second_events pp ss = LookOut [] false ∷ Enrol 0 ss (Err (free_word pp ss)) ∷ Enrol 1 ss (Ok 1) ∷ Lay 1 ∷ []

abbrev third_events : (pp ss : ℕ) → List Event
third_events pp ss = LookOut [] false ∷ Enrol 0 ss (Err (free_word pp ss)) ∷ Enrol 1 ss (Err (free_word pp ss)) ∷ Enrol 2 ss (Ok 1) ∷ Lay 2 ∷ []

abbrev fourth_events : (pp ss : ℕ) → List Event
fourth_events pp ss = LookOut [] false ∷ Enrol 0 ss (Err (free_word pp ss)) ∷ Enrol 1 ss (Err (free_word pp ss)) ∷ Enrol 2 ss (Err (free_word pp ss)) ∷ Enrol 3 ss (Ok 1) ∷ Lay 3 ∷ []

abbrev fifth_events : (pp ss : ℕ) → List Event
fifth_events pp ss = LookOut [] false ∷ Enrol 0 ss (Err (free_word pp ss)) ∷ Enrol 1 ss (Err (free_word pp ss)) ∷ Enrol 2 ss (Err (free_word pp ss)) ∷ Enrol 3 ss (Err (free_word pp ss)) ∷ Enrol 4 ss (Ok 1) ∷ Lay 4 ∷ []

-- all five places
abbrev pub all_pooled : List ℕ
all_pooled = 0 ∷ 1 ∷ 2 ∷ 3 ∷ 4 ∷ []

is_held : Held ≡ Vacant → ⊥
is_held e = cc

is_empty : empty_hands ≡ None → ⊥
is_empty e = cc

has_one : (i : ℕ) → Some (i ∷ []) ≡ None → ⊥
has_one i e = cc

first_done : (pp ss : ℕ) → 1 ≤ ss → ss ≤ 67108864 → Done board_none (entries_of caller (first_events pp ss)) (board_one pp ss)
first_done pp ss lo hi = record {
  runs = (record { actor = is_empty; meets = (refl, refl) }, (record { actor = is_empty; meets = (lit< tt, lo, hi, (refl, lit< tt), refl) }, (record { actor = has_one 0; meets = lit≤ tt }, tt)));
  after = refl;
}

second_done : (pp ss : ℕ) → 1 ≤ ss → ss ≤ 67108864 → Done (board_one pp ss) (entries_of caller (second_events pp ss)) (board_two pp ss)
second_done pp ss lo hi = record {
  runs = (record { actor = is_empty; meets = (refl, refl) }, (record { actor = is_empty; meets = (lit< tt, lo, hi, refl, λ can. is_held can.0) }, (record { actor = is_empty; meets = (lit< tt, lo, hi, (refl, lit< tt), refl) }, (record { actor = has_one 1; meets = lit≤ tt }, tt))));
  after = refl;
}

third_done : (pp ss : ℕ) → 1 ≤ ss → ss ≤ 67108864 → Done (board_two pp ss) (entries_of caller (third_events pp ss)) (board_three pp ss)
third_done pp ss lo hi = record {
  runs = (record { actor = is_empty; meets = (refl, refl) }, (record { actor = is_empty; meets = (lit< tt, lo, hi, refl, λ can. is_held can.0) }, (record { actor = is_empty; meets = (lit< tt, lo, hi, refl, λ can. is_held can.0) }, (record { actor = is_empty; meets = (lit< tt, lo, hi, (refl, lit< tt), refl) }, (record { actor = has_one 2; meets = lit≤ tt }, tt)))));
  after = refl;
}

fourth_done : (pp ss : ℕ) → 1 ≤ ss → ss ≤ 67108864 → Done (board_three pp ss) (entries_of caller (fourth_events pp ss)) (board_four pp ss)
fourth_done pp ss lo hi = record {
  runs = (record { actor = is_empty; meets = (refl, refl) }, (record { actor = is_empty; meets = (lit< tt, lo, hi, refl, λ can. is_held can.0) }, (record { actor = is_empty; meets = (lit< tt, lo, hi, refl, λ can. is_held can.0) }, (record { actor = is_empty; meets = (lit< tt, lo, hi, refl, λ can. is_held can.0) }, (record { actor = is_empty; meets = (lit< tt, lo, hi, (refl, lit< tt), refl) }, (record { actor = has_one 3; meets = lit≤ tt }, tt))))));
  after = refl;
}

fifth_done : (pp ss : ℕ) → 1 ≤ ss → ss ≤ 67108864 → Done (board_four pp ss) (entries_of caller (fifth_events pp ss)) (board_five pp ss)
fifth_done pp ss lo hi = record {
  runs = (record { actor = is_empty; meets = (refl, refl) }, (record { actor = is_empty; meets = (lit< tt, lo, hi, refl, λ can. is_held can.0) }, (record { actor = is_empty; meets = (lit< tt, lo, hi, refl, λ can. is_held can.0) }, (record { actor = is_empty; meets = (lit< tt, lo, hi, refl, λ can. is_held can.0) }, (record { actor = is_empty; meets = (lit< tt, lo, hi, refl, λ can. is_held can.0) }, (record { actor = is_empty; meets = (lit< tt, lo, hi, (refl, lit< tt), refl) }, (record { actor = has_one 4; meets = lit≤ tt }, tt)))))));
  after = refl;
}

start_done : (pp ss : ℕ) → Done (desk pp ss 0 [] [] all_pooled) (entries_of caller (LookOut [] false ∷ Start (Ok tt) ∷ [])) (desk pp ss 1 [] [] all_pooled)
start_done pp ss = record {
  runs = (record { actor = is_empty; meets = (refl, refl) }, (record { actor = is_empty; meets = λ e. absurd cc }, tt));
  after = refl;
}

open_on : On opening board_none
open_on = record { is = refl; handles = refl; mode = refl; entries = (tt, (tt, (tt, (tt, (tt, tt))))) }

not_memory : (place : ℕ) → Ok (buffer place 1) ≢ Err OutOfMemory
not_memory place e = cc

one_goes : (pp ss : ℕ) → 1 ≤ ss → ss ≤ 67108864 → GoesTo pp ss opening (line.announce ss ∷ []) [] (board_one pp ss)
one_goes pp ss lo hi =
    (line_on pp ss) opening (line.announce ss) (entries_of caller (first_events pp ss)) [] (id_text (codes "announce") (Ok (buffer 0 1))) board_none (board_one pp ss) open_on
    (Ok (buffer 0 1), not_memory 0, record { events = (first_events pp ss); kind = ((lo, hi), ([], refl, record { output = []; is = refl })); is = refl })
    (first_done pp ss lo hi) (tt, (tt, (tt, tt)))

two_goes : (pp ss : ℕ) → 1 ≤ ss → ss ≤ 67108864 → (t : Trace) → On t (board_one pp ss) → GoesTo pp ss t (line.announce ss ∷ []) [] (board_two pp ss)
two_goes pp ss lo hi t s =
    (line_on pp ss) t (line.announce ss) (entries_of caller (second_events pp ss)) [] (id_text (codes "announce") (Ok (buffer 1 1))) (board_one pp ss) (board_two pp ss) s
    (Ok (buffer 1 1), not_memory 1, record { events = (second_events pp ss); kind = ((lo, hi), (free_word pp ss ∷ [], refl, record { output = []; is = refl })); is = refl })
    (second_done pp ss lo hi) (tt, (tt, (tt, (tt, tt))))

three_goes : (pp ss : ℕ) → 1 ≤ ss → ss ≤ 67108864 → (t : Trace) → On t (board_two pp ss) → GoesTo pp ss t (line.announce ss ∷ []) [] (board_three pp ss)
three_goes pp ss lo hi t s =
    (line_on pp ss) t (line.announce ss) (entries_of caller (third_events pp ss)) [] (id_text (codes "announce") (Ok (buffer 2 1))) (board_two pp ss) (board_three pp ss) s
    (Ok (buffer 2 1), not_memory 2, record { events = (third_events pp ss); kind = ((lo, hi), (free_word pp ss ∷ (free_word pp ss) ∷ [], refl, record { output = []; is = refl })); is = refl })
    (third_done pp ss lo hi) (tt, (tt, (tt, (tt, (tt, tt)))))

four_goes : (pp ss : ℕ) → 1 ≤ ss → ss ≤ 67108864 → (t : Trace) → On t (board_three pp ss) → GoesTo pp ss t (line.announce ss ∷ []) [] (board_four pp ss)
four_goes pp ss lo hi t s =
    (line_on pp ss) t (line.announce ss) (entries_of caller (fourth_events pp ss)) [] (id_text (codes "announce") (Ok (buffer 3 1))) (board_three pp ss) (board_four pp ss) s
    (Ok (buffer 3 1), not_memory 3, record { events = (fourth_events pp ss); kind = ((lo, hi), (free_word pp ss ∷ (free_word pp ss) ∷ (free_word pp ss) ∷ [], refl, record { output = []; is = refl })); is = refl })
    (fourth_done pp ss lo hi) (tt, (tt, (tt, (tt, (tt, (tt, tt))))))

five_goes : (pp ss : ℕ) → 1 ≤ ss → ss ≤ 67108864 → (t : Trace) → On t (board_four pp ss) → GoesTo pp ss t (line.announce ss ∷ []) [] (board_five pp ss)
five_goes pp ss lo hi t s =
    (line_on pp ss) t (line.announce ss) (entries_of caller (fifth_events pp ss)) [] (id_text (codes "announce") (Ok (buffer 4 1))) (board_four pp ss) (board_five pp ss) s
    (Ok (buffer 4 1), not_memory 4, record { events = (fifth_events pp ss); kind = ((lo, hi), (free_word pp ss ∷ (free_word pp ss) ∷ (free_word pp ss) ∷ (free_word pp ss) ∷ [], refl, record { output = []; is = refl })); is = refl })
    (fifth_done pp ss lo hi) (tt, (tt, (tt, (tt, (tt, (tt, (tt, tt)))))))

start_goes : (pp ss : ℕ) → (t : Trace) → On t (desk pp ss 0 [] [] all_pooled) → GoesTo pp ss t (line.start ∷ []) (restart ∷ []) (desk pp ss 1 [] [] all_pooled)
start_goes pp ss t s =
    line_on pp ss t line.start (entries_of caller (LookOut [] false ∷ Start (Ok tt) ∷ []) ++ []) (restart ∷ []) (done_text (codes "start")) (desk pp ss 0 [] [] all_pooled) (desk pp ss 1 [] [] all_pooled) s
    (Ok tt, LookOut [] false ∷ Start (Ok tt) ∷ [], record { output = []; is = refl }, refl)
    (start_done pp ss) (tt, (tt, tt))

-- five buffers, the flush, and the start
abbrev pub first_lines : ℕ → List ScriptLine
first_lines ss = announce_lines script_buffers ss ++ line.flush 3 ∷ line.start ∷ []

pub begins : (pp ss : ℕ) → 1 ≤ ss → ss ≤ 67108864 → Goes pp ss opening (first_lines ss) (restart ∷ []) 1 [] [] all_pooled
begins pp ss lo hi =
    let a = one_goes pp ss lo hi in
    let b = two_goes pp ss lo hi a.to a.stage in
    let c = three_goes pp ss lo hi b.to b.stage in
    let d = four_goes pp ss lo hi c.to c.stage in
    let e = five_goes pp ss lo hi d.to d.stage in
    let f = flush_goes pp ss e.to 0 [] [] e.stage in
    let g = start_goes pp ss f.to f.stage in
    to_both pp ss opening (line.announce ss ∷ []) (announce_lines 4 ss ++ line.flush 3 ∷ line.start ∷ []) [] (restart ∷ []) (board_one pp ss) (desk pp ss 1 [] [] all_pooled) a
    (to_both pp ss a.to (line.announce ss ∷ []) (announce_lines 3 ss ++ line.flush 3 ∷ line.start ∷ []) [] (restart ∷ []) (board_two pp ss) (desk pp ss 1 [] [] all_pooled) b
    (to_both pp ss b.to (line.announce ss ∷ []) (announce_lines 2 ss ++ line.flush 3 ∷ line.start ∷ []) [] (restart ∷ []) (board_three pp ss) (desk pp ss 1 [] [] all_pooled) c
    (to_both pp ss c.to (line.announce ss ∷ []) (announce_lines 1 ss ++ line.flush 3 ∷ line.start ∷ []) [] (restart ∷ []) (board_four pp ss) (desk pp ss 1 [] [] all_pooled) d
    (to_both pp ss d.to (line.announce ss ∷ []) (announce_lines 0 ss ++ line.flush 3 ∷ line.start ∷ []) [] (restart ∷ []) (board_five pp ss) (desk pp ss 1 [] [] all_pooled) e
    (to_both pp ss e.to (line.flush 3 ∷ []) (line.start ∷ []) [] (restart ∷ []) (desk pp ss 0 [] [] all_pooled) (desk pp ss 1 [] [] all_pooled) f g)))))
