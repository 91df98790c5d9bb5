-- The counts are those of the notes.
use Rattle.std.proofs.Common.{◌≡◌, ℕ, ◌+◌, ◌-◌, max, List, [], ◌∷◌, ◌++◌, length, Bool, true, false, refl, sym, ap, ◌∙◌, arith}
use Rattle.std.specs.Prelude.{◌==◌, nat_lt, Option, Some, None, if◌then◌else◌}
use Rattle.std.proofs.lemmas.List.{length-append}
use Rattle.stream_packets.specs.Packets.{StreamPacket, leader, payload, trailer, notice}
use Rattle.gvsp_wire.specs.Reading.{packet_of}
use Rattle.board_machine.specs.Machine.{Board, Item}
use Rattle.acquisition_machine.specs.declared.config.AcqConfig.{AcqConfig}
use Rattle.acquisition_machine.specs.declared.counts.Counts.{Counts as CountsOf}
use Rattle.acquisition_machine.specs.declared.need.Need.{Need}
use Rattle.acquisition_machine.specs.declared.need.Need.TheVariants.{Buffer, Done, Ignored}
use Rattle.acquisition_machine.specs.Blocks.{Given, Open, Cause, Retirement, ranges_asked}
use Rattle.acquisition_machine.specs.Machine.{Input, datagram, claimed, tick, stop, restart, State, Turn, Request, next_number, number_after, requests_for, requests_of, settled, unasked, step}
use Rattle.acquisition_machine.specs.Runs.{first_state, after_from}
use Rattle.acquisition_machine.specs.TurnLaws.{count_need, count_claim, IsAnswered}
use Rattle.acquisition_machine.proofs.Counting.{turns_are_counted}
use Rattle.script_trace.specs.Notes.{Note, first, absent}
use Rattle.script_trace.specs.Inputs.{drop_notes, first_dropped, gap, ended_notes, after_end, retired_notes, kept_note, need_notes, open_notes, ask_notes, round_notes, turn_notes, after_turn, notes_from}
use Rattle.script_trace.specs.Counted.{count_note, counted}
use Rattle.script_trace.specs.InputLaws.{CountsAreAccounted}

pub counted-append : (xs ys : List Note) (n : CountsOf) → counted (xs ++ ys) n ≡ counted ys (counted xs n)
counted-append [] ys n = refl
counted-append (x ∷ xs) ys n = counted-append xs ys (count_note x n)

-- ---- notes that count nothing

drops_silent : (b : Board) (xs : List Item) (n : CountsOf) → counted (drop_notes b xs) n ≡ n
drops_silent b [] n = refl
drops_silent b (x ∷ xs) n = drops_silent b xs n

gap_silent : (floor b : ℕ) (n : CountsOf) → counted (gap floor b) n ≡ n
gap_silent floor b n = go (nat_lt floor b) (floor == 1) where
  go : (v w : Bool) → counted (if v then (if w then first b ∷ [] else absent (floor, b - 1) ∷ []) else []) n ≡ n
  go true true = refl
  go true false = refl
  go false w = refl

ended_silent : (c : AcqConfig) (b : Board) (ds : List (List Item)) (o : Open) (cause : Cause) (given : Option Given) (n : CountsOf) → counted (ended_notes c b ds o cause given) n ≡ n
ended_silent c b ds o cause None n = refl
ended_silent c b ds o cause (Some g) n = counted-append (drop_notes b (first_dropped ds)) _ n ∙ drops_silent b (first_dropped ds) n

retired_silent : (c : AcqConfig) (b : Board) (ds : List (List Item)) (floor : ℕ) (rs : List Retirement) (n : CountsOf) → counted (retired_notes c b ds floor rs) n ≡ n
retired_silent c b ds floor [] n = refl
retired_silent c b ds floor (r ∷ rs) n =
    let own : List Note = ended_notes c b ds r.was r.cause r.was.given in
    let rest : List Note = retired_notes c b (after_end ds r.was.given) (r.was.block + 1) rs in
    counted-append (gap floor r.was.block) (own ++ rest) n ∙ ap (counted (own ++ rest)) (gap_silent floor r.was.block n)
    ∙ counted-append own rest n ∙ ap (counted rest) (ended_silent c b ds r.was r.cause r.was.given n)
    ∙ retired_silent c b (after_end ds r.was.given) (r.was.block + 1) rs n

kept_silent : (x : Option StreamPacket) (n : CountsOf) → counted (kept_note x) n ≡ n
kept_silent None n = refl
kept_silent (Some (leader h i)) n = refl
kept_silent (Some (payload h d)) n = refl
kept_silent (Some (trailer h y)) n = refl
kept_silent (Some (notice h)) n = refl

-- ---- a datagram

answer_counted : (x : Option StreamPacket) (answer : Need) (n : CountsOf) → counted (need_notes x (Some answer)) n ≡ count_need answer n
answer_counted x (Buffer b) n = refl
answer_counted x Done n = kept_silent x n
answer_counted x (Ignored why) n = refl

-- ---- the outcome of a claim

claim_counted : (b : Board) (ds : List (List Item)) (asked : Option ℕ) (given : Option Given) (n : CountsOf) → counted (open_notes b ds asked given) n ≡ count_claim given asked n
claim_counted b ds None given n = refl
claim_counted b ds (Some block) None n = counted-append (drop_notes b (first_dropped ds)) _ n ∙ ap (λ (k : CountsOf). record k { underrun = k.underrun + 1 }) (drops_silent b (first_dropped ds) n)
claim_counted b ds (Some block) (Some g) n = counted-append (drop_notes b (first_dropped ds)) _ n ∙ drops_silent b (first_dropped ds) n

-- ---- a moment

abbrev with_requests : CountsOf → ℕ → CountsOf
with_requests n k = record n { requests = n.requests + k }

none_more : (n : CountsOf) → n ≡ with_requests n 0
none_more n = let e : n.requests ≡ n.requests + 0 = omega arith in ap (λ (k : ℕ). record n { requests = k }) e

some_more : (n : CountsOf) (a b : ℕ) → with_requests (with_requests n a) b ≡ with_requests n (a + b)
some_more n a b = let e : n.requests + a + b ≡ n.requests + (a + b) = omega arith in ap (λ (k : ℕ). record n { requests = k }) e

asks_counted : (b round : ℕ) (rs : List (ℕ × ℕ)) (n : CountsOf) → counted (ask_notes b round rs) n ≡ with_requests n (length rs)
asks_counted b round [] n = none_more n
asks_counted b round (r ∷ rs) n =
    asks_counted b round rs (with_requests n 1) ∙ some_more n 1 (length rs) ∙ ap (with_requests n) (let e : 1 + length rs ≡ length (r ∷ rs) = omega arith in e)

pub length-for : (k b : ℕ) (rs : List (ℕ × ℕ)) → length (requests_for k b rs) ≡ length rs
length-for k b [] = refl
length-for k b (r ∷ rs) = omega (arith, length-for (next_number k) b rs)

rounds_counted : (c : AcqConfig) (now number : ℕ) (os : List Open) (n : CountsOf) → counted (round_notes c now os) n ≡ with_requests n (length (requests_of c now number os))
rounds_counted c now number [] n = none_more n
rounds_counted c now number (o ∷ os) n =
    let mine : List Note = ask_notes o.block (o.rounds + 1) (ranges_asked c now o) in
    let made : List Request = requests_for number o.block (ranges_asked c now o) in
    let next : ℕ = number_after number (ranges_asked c now o) in
    let all : length (made ++ requests_of c now next os) ≡ length (ranges_asked c now o) + length (requests_of c now next os) =
    length-append made (requests_of c now next os) ∙ ap (λ (k : ℕ). k + length (requests_of c now next os)) (length-for number o.block (ranges_asked c now o)) in
    counted-append mine (round_notes c now os) n
    ∙ ap (counted (round_notes c now os)) (asks_counted o.block (o.rounds + 1) (ranges_asked c now o) n)
    ∙ rounds_counted c now next os (with_requests n (length (ranges_asked c now o)))
    ∙ some_more n (length (ranges_asked c now o)) (length (requests_of c now next os))
    ∙ ap (with_requests n) (sym all)

-- ---- an input

input_counted : (c : AcqConfig) (b : Board) (ds : List (List Item)) (s : State) (i : Input) → counted (turn_notes c b ds s i (step c s i)) s.counts ≡ (step c s i).after.counts
input_counted c b ds s (datagram bytes) =
    let t : Turn = step c s (datagram bytes) in
    let a : IsAnswered s.counts t = turns_are_counted c s (datagram bytes) in
    counted-append (need_notes (packet_of bytes) t.need) (retired_notes c b ds s.floor t.retired) s.counts
    ∙ retired_silent c b ds s.floor t.retired (counted (need_notes (packet_of bytes) t.need) s.counts)
    ∙ ap (λ (o : Option Need). counted (need_notes (packet_of bytes) o) s.counts) a.is_answer
    ∙ answer_counted (packet_of bytes) a.answer s.counts ∙ sym a.counts
input_counted c b ds s (claimed given) = claim_counted b ds s.asked given s.counts ∙ sym (turns_are_counted c s (claimed given)).1
input_counted c b ds s (tick moment) =
    let t : Turn = step c s (tick moment) in
    let told : State = record (unasked s) { now = max s.now moment } in
    counted-append (retired_notes c b ds s.floor t.retired) (round_notes c told.now (settled c told).opens) s.counts
    ∙ ap (counted (round_notes c told.now (settled c told).opens)) (retired_silent c b ds s.floor t.retired s.counts)
    ∙ rounds_counted c told.now s.number (settled c told).opens s.counts
    ∙ sym (turns_are_counted c s (tick moment)).1
input_counted c b ds s stop = retired_silent c b ds s.floor (step c s stop).retired s.counts ∙ sym (turns_are_counted c s stop).1
input_counted c b ds s restart = sym (turns_are_counted c s restart).1

pub inputs_counted : (c : AcqConfig) (b : Board) (ds : List (List Item)) (s : State) (q : List Input) → counted (notes_from c b ds s q) s.counts ≡ (after_from c s q).counts
inputs_counted c b ds s [] = refl
inputs_counted c b ds s (i ∷ q) =
    let rest : List Note = notes_from c b (after_turn ds s i (step c s i)) (step c s i).after q in
    counted-append (turn_notes c b ds s i (step c s i)) rest s.counts
    ∙ ap (counted rest) (input_counted c b ds s i)
    ∙ inputs_counted c b (after_turn ds s i (step c s i)) (step c s i).after q

pub counts_are_accounted : CountsAreAccounted
counts_are_accounted c b ds q = inputs_counted c b ds first_state q
