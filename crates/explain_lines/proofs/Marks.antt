-- Claims, takes, poolings, fills, layings and stops leave generations and the close mark.
use Rattle.std.proofs.Common.{◌≡◌, ◌≢◌, ◌⊎◌, inl, inr, ℕ, ◌<◌, ◌≤◌, Bool, true, false, not, List, [], ◌∷◌, length, set, get_or, Option, Some, None, Ok, Err, refl, sym, ap, subst, ◌∙◌}
use Rattle.std.specs.Prelude.{⊤}
use Rattle.std.specs.List.{AllByRecursion}
use Rattle.std.proofs.lemmas.List.{get_or-set_same, set_past}
use Rattle.std.proofs.lemmas.Bool.{cases_eq, cases_lt}
use Rattle.gev_types.specs.Filling.{Filling}
use Rattle.gentl_types.specs.declared.word.Word.{Word}
use Rattle.gentl_types.specs.declared.word.State.TheVariants.{Held}
use Rattle.board_machine.specs.declared.events.Event.{Event}
use Rattle.board_machine.specs.declared.events.Event.TheVariants.{Lay, Pool, Claim, Fill, Take, Stop}
use Rattle.board_machine.specs.declared.events.TakeEnd.TheVariants.{Taken, Empty, Closed}
use Rattle.board_machine.specs.Machine.{Board, word_at, vacant, with_state, after_event, entry, next}
use Rattle.board_machine.specs.Adding.{entries_of, Adds}
use Rattle.board_machine.specs.Histories.{after_from}
use Rattle.board_machine.proofs.Others.{other_word}
use Rattle.board_calls.specs.Rounds.{filled_or_laid}
use Rattle.board_calls.specs.Calls.{Stops}
use Rattle.board_model.specs.Plain.{PlainState}
use Rattle.acquisition_machine.specs.declared.retired.Retired.{Retired}
use Rattle.board_calls.specs.declared.mode.Mode.{Mode}
use Rattle.board_calls.specs.Modes.{ClaimsFor, DropsFor}
use Rattle.script_trace.specs.Trace.{acquirer}
use Rattle.script_trace.proofs.Quiet.{AreQuiet, drops_quiet, claims_quiet}
use Rattle.script_replay.specs.declared.fill_counts.FillCounts.{FillCounts}
use Rattle.script_replay.specs.Acquiring.{CountsOne}
use Rattle.explain_lines.specs.Marks.{KeepsMarks}

pub same_marks : (b : Board) → KeepsMarks b b
same_marks b = record { generation = λ i. refl; closed = refl }

pub marks_then : (a b c : Board) → KeepsMarks a b → KeepsMarks b c → KeepsMarks a c
marks_then a b c first second = record {
  generation = λ i. second.generation i ∙ first.generation i;
  closed = second.closed ∙ first.closed;
}

pub marks_as : (b new : Board) → new ≡ b → KeepsMarks b new
marks_as b new is = subst (KeepsMarks b) (sym is) (same_marks b)

-- acts that leave both
abbrev LeavesMarks : Event → Type 0
LeavesMarks (Lay i) = ⊤
LeavesMarks (Pool i) = ⊤
LeavesMarks (Claim answer) = ⊤
LeavesMarks (Fill i f filled) = ⊤
LeavesMarks (Take end) = ⊤
LeavesMarks (Stop kill answer) = ⊤
LeavesMarks _ = ⊥

abbrev LeaveMarks : List Event → Type 0
LeaveMarks es = AllByRecursion LeavesMarks es

laid_word : (b : Board) (j i : ℕ) → (get_or (set b.words j (with_state (word_at b j) Held)) i vacant).generation ≡ (word_at b i).generation
laid_word b j i = go (cases_eq i j)
  where
    w : Word
    w = with_state (word_at b j) Held

    here : (j < length b.words) ⊎ (length b.words ≤ j) → (get_or (set b.words j w) j vacant).generation ≡ (word_at b j).generation
    here (inl within) = ap (λ (v : Word). v.generation) (get_or-set_same b.words j w vacant within)
    here (inr past) = ap (λ (ws : List Word). (get_or ws j vacant).generation) (set_past b.words j w past)

    go : (i ≡ j) ⊎ (i ≢ j) → (get_or (set b.words j w) i vacant).generation ≡ (word_at b i).generation
    go (inl e) = subst (λ n. (get_or (set b.words j w) n vacant).generation ≡ (word_at b n).generation) (sym e) (here (cases_lt j (length b.words)))
    go (inr apart) = ap (λ (v : Word). v.generation) (other_word b i j w apart)

one_leaves : (b : Board) (k : ℕ) (e : Event) → LeavesMarks e → KeepsMarks b (after_event b k e)
one_leaves b k (Lay j) h = record { generation = λ i. laid_word b j i; closed = refl }
one_leaves b k (Pool j) h = record { generation = λ i. refl; closed = refl }
one_leaves b k (Claim (Some j)) h = record { generation = λ i. refl; closed = refl }
one_leaves b k (Claim None) h = same_marks b
one_leaves b k (Fill j f true) h = record { generation = λ i. refl; closed = refl }
one_leaves b k (Fill j f false) h = same_marks b
one_leaves b k (Take (Taken j)) h = record { generation = λ i. refl; closed = refl }
one_leaves b k (Take Empty) h = same_marks b
one_leaves b k (Take Closed) h = same_marks b
one_leaves b k (Stop kill (Ok done)) h = record { generation = λ i. refl; closed = refl }
one_leaves b k (Stop kill (Err r)) h = same_marks b
one_leaves b k _ h = absurd h

all_leave : (b : Board) (k : ℕ) (es : List Event) → LeaveMarks es → KeepsMarks b (after_from b (entries_of k es))
all_leave b k [] h = same_marks b
all_leave b k (e ∷ es) h = marks_then b (next b (entry k e)) (after_from b (entries_of k (e ∷ es))) (one_leaves b k e h.0) (all_leave (next b (entry k e)) k es h.1)

adds_leave : (b new : Board) (k : ℕ) (es : List Event) → LeaveMarks es → Adds b k es new → KeepsMarks b new
adds_leave b new k es h adds = subst (KeepsMarks b) (sym adds.after) (all_leave b k es h)

quiet_leave : (es : List Event) → AreQuiet es → LeaveMarks es
quiet_leave [] h = tt
quiet_leave (Claim answer ∷ es) h = (tt, quiet_leave es h.1)
quiet_leave (Take end ∷ es) h = (tt, quiet_leave es h.1)
quiet_leave (Pool i ∷ es) h = (tt, quiet_leave es h.1)
quiet_leave (_ ∷ es) h = absurd h.0

filled_leave : (i : ℕ) (f : Filling) (filled : Bool) → LeaveMarks (filled_or_laid i f filled)
filled_leave i f true = (tt, tt)
filled_leave i f false = (tt, (tt, tt))

pub claim_marks : (mode : Mode) (claim : Option (ℕ × Bool)) (es : List Event) (b new : Board) → ClaimsFor mode claim es → Adds b acquirer es new → KeepsMarks b new
claim_marks mode claim es b new claims adds = adds_leave b new acquirer es (quiet_leave es (claims_quiet mode claim es claims)) adds

pub drops_marks : (mode : Mode) (is : List ℕ) (es : List Event) (b new : Board) → DropsFor mode is es → Adds b acquirer es new → KeepsMarks b new
drops_marks mode is es b new drops adds = adds_leave b new acquirer es (quiet_leave es (drops_quiet mode is es drops)) adds

pub one_marks : (mode : Mode) (x : Retired) (s new : PlainState) (a b : FillCounts) → CountsOne mode x s a new b → KeepsMarks s.board new.board
one_marks mode x s new a b one =
    marks_then s.board one.mid new.board (drops_marks mode one.dropped one.front s.board one.mid one.drops one.adds)
    (adds_leave one.mid new.board acquirer (filled_or_laid x.place x.buf one.one.filled) (filled_leave x.place x.buf one.one.filled) one.one.adds)

stops_leave : (flags : ℕ) (es : List Event) → Stops flags (Ok tt) es → LeaveMarks es
stops_leave flags es kind = subst LeaveMarks (sym kind.1) (tt, tt)

pub stop_marks : (flags : ℕ) (es : List Event) (k : ℕ) (b new : Board) → Stops flags (Ok tt) es → Adds b k es new → KeepsMarks b new
stop_marks flags es k b new kind adds = adds_leave b new k es (stops_leave flags es kind) adds

-- ---- the close mark where a buffer is filled

fill_open : (i : ℕ) (f : Filling) (filled : Bool) (b new : Board) → Adds b acquirer (filled_or_laid i f filled) new → filled ≡ not b.closed
fill_open i f true b new adds = let open_still = adds.runs.0.meets.2 in sym (ap not open_still)
fill_open i f false b new adds = let closed_now = adds.runs.0.meets.2 in sym (ap not closed_now)

pub one_open : (mode : Mode) (x : Retired) (s new : PlainState) (a b : FillCounts) (one : CountsOne mode x s a new b) → one.one.filled ≡ not s.board.closed
one_open mode x s new a b one =
    fill_open x.place x.buf one.one.filled one.mid new.board one.one.adds
    ∙ ap not (let mid = drops_marks mode one.dropped one.front s.board one.mid one.drops one.adds in mid.closed)
