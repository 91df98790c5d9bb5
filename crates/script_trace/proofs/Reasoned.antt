-- The notes of blocks that retired tell each one's end.
use Rattle.std.proofs.Common.{◌≡◌, ℕ, ◌+◌, ◌-◌, ◌≤◌, List, [], ◌∷◌, ◌++◌, Bool, true, false, refl, sym, ap, subst, ◌∙◌, append-nil}
use Rattle.std.specs.Prelude.{◌==◌, nat_lt, Option, Some, None, if◌then◌else◌}
use Rattle.stream_packets.specs.Packets.{StreamPacket, leader, payload, trailer, notice}
use Rattle.gvsp_wire.specs.Reading.{packet_of}
use Rattle.missing_ranges.proofs.ReasonLemmas.{reasons_are_reasons}
use Rattle.missing_ranges.proofs.LostLemmas.{lost_ids_have_no_packet}
use Rattle.board_machine.specs.Machine.{Board, Item}
use Rattle.acquisition_machine.specs.declared.config.AcqConfig.{AcqConfig}
use Rattle.acquisition_machine.specs.declared.need.Need.{Need}
use Rattle.acquisition_machine.specs.declared.need.Need.TheVariants.{Buffer, Done, Ignored}
use Rattle.acquisition_machine.specs.Blocks.{Given, Open, Retirement, kept_in, ranges_asked}
use Rattle.acquisition_machine.specs.Machine.{Input, datagram, claimed, tick, stop, restart, State, settled, unasked, step}
use Rattle.acquisition_machine.specs.Runs.{retired_from}
use Rattle.script_trace.specs.Notes.{Note, first, absent, done, unbuffered}
use Rattle.script_trace.specs.Inputs.{drop_notes, first_dropped, gap, outcome_of, ended_notes, after_end, retired_notes, kept_note, need_notes, open_notes, ask_notes, round_notes, turn_notes, after_turn, notes_from}
use Rattle.script_trace.specs.Counted.{is_ending, endings}
use Rattle.script_trace.specs.InputLaws.{IsReasoned, TellsEnd, TellEnds, NotesAreReasoned}

-- ---- lists joined end to end

pub endings-append : (xs ys : List Note) → endings (xs ++ ys) ≡ endings xs ++ endings ys
endings-append [] ys = refl
endings-append (x ∷ xs) ys = go (is_ending x) (endings-append xs ys) where
  go : (v : Bool) → endings (xs ++ ys) ≡ endings xs ++ endings ys
      → (if v then x ∷ endings (xs ++ ys) else endings (xs ++ ys)) ≡ (if v then x ∷ endings xs else endings xs) ++ endings ys
  go true e = ap (λ l. x ∷ l) e
  go false e = e

pub ends_both : (c : AcqConfig) (rs qs : List Retirement) (xs ys : List Note) → TellEnds c rs xs → TellEnds c qs ys → TellEnds c (rs ++ qs) (xs ++ ys)
ends_both c [] qs xs ys a b = subst (λ l. TellEnds c qs (l ++ ys)) (sym a) b
ends_both c (r ∷ rs) qs [] ys a b = absurd a
ends_both c (r ∷ rs) qs (x ∷ xs) ys a b = (a.0, ends_both c rs qs xs ys a.1 b)

-- ---- notes that tell no end

abbrev Silent : List Note → Type 0
Silent xs = endings xs ≡ []

-- in front of others
behind : (xs ys : List Note) → Silent xs → endings (xs ++ ys) ≡ endings ys
behind xs ys none = endings-append xs ys ∙ ap (λ l. l ++ endings ys) none

of_drops : (b : Board) (xs : List Item) → Silent (drop_notes b xs)
of_drops b [] = refl
of_drops b (x ∷ xs) = of_drops b xs

of_gap : (floor b : ℕ) → Silent (gap floor b)
of_gap floor b = go (nat_lt floor b) (floor == 1) where
  go : (v w : Bool) → Silent (if v then (if w then first b ∷ [] else absent (floor, b - 1) ∷ []) else [])
  go true true = refl
  go true false = refl
  go false w = refl

of_kept : (x : Option StreamPacket) → Silent (kept_note x)
of_kept None = refl
of_kept (Some (leader h i)) = refl
of_kept (Some (payload h d)) = refl
of_kept (Some (trailer h y)) = refl
of_kept (Some (notice h)) = refl

of_need : (x : Option StreamPacket) (need : Option Need) → Silent (need_notes x need)
of_need x None = refl
of_need x (Some (Buffer b)) = refl
of_need x (Some Done) = of_kept x
of_need x (Some (Ignored why)) = refl

of_open : (b : Board) (ds : List (List Item)) (asked : Option ℕ) (given : Option Given) → Silent (open_notes b ds asked given)
of_open b ds None given = refl
of_open b ds (Some block) given = behind (drop_notes b (first_dropped ds)) _ (of_drops b (first_dropped ds))

of_asks : (b round : ℕ) (rs : List (ℕ × ℕ)) → Silent (ask_notes b round rs)
of_asks b round [] = refl
of_asks b round (r ∷ rs) = of_asks b round rs

of_rounds : (c : AcqConfig) (now : ℕ) (os : List Open) → Silent (round_notes c now os)
of_rounds c now [] = refl
of_rounds c now (o ∷ os) =
    behind (ask_notes o.block (o.rounds + 1) (ranges_asked c now o)) (round_notes c now os) (of_asks o.block (o.rounds + 1) (ranges_asked c now o))
    ∙ of_rounds c now os

-- ---- what retires

outcome_reasoned : (c : AcqConfig) (b : Board) (r : Retirement) (g : Given) → 1 ≤ c.p → IsReasoned c r g (outcome_of c b r.was r.cause g)
outcome_reasoned c b r g some = record {
  of_block = refl;
  by = refl;
  place = refl;
  as_recorded = refl;
  kept = refl;
  why = reasons_are_reasons.none c.p r.was.block g.size r.was.heard some;
  lost = λ top known. lost_ids_have_no_packet.up_to_the_top c.p top (kept_in c.p r.was) known;
  nothing = λ unknown. lost_ids_have_no_packet.with_nothing c.p (kept_in c.p r.was) unknown;
  told = refl;
}

-- one note tells the end of this block
record TellsOne (c : AcqConfig) (r : Retirement) (given : Option Given) (xs : List Note) : Type 0 where
  pub note : Note
  pub alone : endings xs ≡ note ∷ []
  pub tells : TellsEnd c r given note

of_ended : (c : AcqConfig) (b : Board) (ds : List (List Item)) (r : Retirement) (given : Option Given) → 1 ≤ c.p → TellsOne c r given (ended_notes c b ds r.was r.cause given)
of_ended c b ds r None some = record { note = unbuffered r.was.block r.cause; alone = refl; tells = refl }
of_ended c b ds r (Some g) some = record {
  note = done (outcome_of c b r.was r.cause g);
  alone = behind (drop_notes b (first_dropped ds)) _ (of_drops b (first_dropped ds));
  tells = (outcome_of c b r.was r.cause g, refl, outcome_reasoned c b r g some);
}

of_retired : (c : AcqConfig) (b : Board) (ds : List (List Item)) (floor : ℕ) (rs : List Retirement) → 1 ≤ c.p → TellEnds c rs (endings (retired_notes c b ds floor rs))
of_retired c b ds floor [] some = refl
of_retired c b ds floor (r ∷ rs) some =
    let own : List Note = ended_notes c b ds r.was r.cause r.was.given in
    let rest : List Note = retired_notes c b (after_end ds r.was.given) (r.was.block + 1) rs in
    let one = of_ended c b ds r r.was.given some in
    let are : endings (gap floor r.was.block ++ (own ++ rest)) ≡ one.note ∷ endings rest =
    behind (gap floor r.was.block) (own ++ rest) (of_gap floor r.was.block) ∙ (endings-append own rest ∙ ap (λ l. l ++ endings rest) one.alone) in
    subst (λ l. TellEnds c (r ∷ rs) l) (sym are) (one.tells, of_retired c b (after_end ds r.was.given) (r.was.block + 1) rs some)

-- ---- inputs

of_turn : (c : AcqConfig) (b : Board) (ds : List (List Item)) (s : State) (i : Input) → 1 ≤ c.p → TellEnds c (step c s i).retired (endings (turn_notes c b ds s i (step c s i)))
of_turn c b ds s (datagram bytes) some =
    subst (λ l. TellEnds c (step c s (datagram bytes)).retired l)
    (sym (behind (need_notes (packet_of bytes) (step c s (datagram bytes)).need) _ (of_need (packet_of bytes) (step c s (datagram bytes)).need)))
    (of_retired c b ds s.floor (step c s (datagram bytes)).retired some)
of_turn c b ds s (claimed given) some = of_open b ds s.asked given
of_turn c b ds s (tick moment) some =
    let gone : List Retirement = (step c s (tick moment)).retired in
    let now : ℕ = (step c s (tick moment)).after.now in
    let left : List Open = (settled c (record (unasked s) { now = now })).opens in
    let notes : List Note = retired_notes c b ds s.floor gone in
    let are : endings (notes ++ round_notes c now left) ≡ endings notes =
    endings-append notes (round_notes c now left) ∙ (ap (λ l. endings notes ++ l) (of_rounds c now left) ∙ append-nil (endings notes)) in
    subst (λ l. TellEnds c gone l) (sym are) (of_retired c b ds s.floor gone some)
of_turn c b ds s stop some = of_retired c b ds s.floor (step c s stop).retired some
of_turn c b ds s restart some = refl

pub notes_are_reasoned : NotesAreReasoned
notes_are_reasoned c b ds s [] some = refl
notes_are_reasoned c b ds s (i ∷ q) some =
    let notes : List Note = turn_notes c b ds s i (step c s i) in
    let rest : List Note = notes_from c b (after_turn ds s i (step c s i)) (step c s i).after q in
    subst (λ l. TellEnds c (retired_from c s (i ∷ q)) l) (sym (endings-append notes rest))
    (ends_both c (step c s i).retired (retired_from c (step c s i).after q) (endings notes) (endings rest) (of_turn c b ds s i some)
    (notes_are_reasoned c b (after_turn ds s i (step c s i)) (step c s i).after q some))
