-- The notes of drops tell the lists that the notes of inputs are handed.
use Rattle.std.proofs.Common.{◌≡◌, ℕ, ◌+◌, ◌-◌, ◌==◌, Bool, true, false, List, [], ◌∷◌, ◌++◌, length, map, refl, sym, ap, ◌∙◌, append_assoc, append-nil, length-append, arith}
use Rattle.std.specs.Prelude.{nat_lt, Option, Some, None, if◌then◌else◌}
use Rattle.std.proofs.lemmas.List.{map-append}
use Rattle.stream_packets.specs.Packets.{StreamPacket, leader, payload, trailer, notice}
use Rattle.gvsp_wire.specs.Reading.{packet_of}
use Rattle.board_machine.specs.Machine.{Board, Item}
use Rattle.acquisition_machine.specs.declared.config.AcqConfig.{AcqConfig}
use Rattle.acquisition_machine.specs.declared.need.Need.{Need}
use Rattle.acquisition_machine.specs.declared.need.Need.TheVariants.{Buffer, Done, Ignored}
use Rattle.acquisition_machine.specs.Blocks.{Given, Open, Cause, Retirement, fill_of, fills, ranges_asked}
use Rattle.acquisition_machine.specs.Machine.{Input, datagram, claimed, tick, stop, restart, State, settled, unasked, step}
use Rattle.script_trace.specs.Notes.{Note, first, absent}
use Rattle.script_trace.specs.Inputs.{drop_notes, first_dropped, rest_dropped, gap, ended_notes, after_end, after_ends, retired_notes, kept_note, need_notes, open_notes, after_claim, ask_notes, round_notes, turn_notes, after_turn, notes_from}
use Rattle.script_trace.specs.NoteLaws.{ToldDrop, told_drops_of, told_drops, drop_told}
use Rattle.script_trace.proofs.Yields.{joined}

pub drops-append : (xs ys : List Note) → told_drops (xs ++ ys) ≡ told_drops xs ++ told_drops ys
drops-append [] ys = refl
drops-append (x ∷ xs) ys = ap (λ l. told_drops_of x ++ l) (drops-append xs ys) ∙ sym (append_assoc (told_drops_of x) (told_drops xs) (told_drops ys))

-- what is to be told of lists
abbrev pub all_told : List (List Item) → List ToldDrop
all_told ds = map drop_told (joined ds)

-- Of the first lists the notes tell what they have, and the others are left.
abbrev Tells : List (List Item) → List Note → List (List Item) → Type 0
Tells ds xs left = all_told ds ≡ told_drops xs ++ all_told left

abbrev Silent : List Note → Type 0
Silent xs = told_drops xs ≡ []

tells_none : (ds : List (List Item)) (xs : List Note) → Silent xs → Tells ds xs ds
tells_none ds xs none = ap (λ l. l ++ all_told ds) (sym none)

tells_both : (ds mid left : List (List Item)) (xs ys : List Note) → Tells ds xs mid → Tells mid ys left → Tells ds (xs ++ ys) left
tells_both ds mid left xs ys a b =
    a ∙ (ap (λ l. told_drops xs ++ l) b ∙ (sym (append_assoc (told_drops xs) (told_drops ys) (all_told left)) ∙ ap (λ l. l ++ all_told left) (sym (drops-append xs ys))))

-- ---- one list

of_drops : (b : Board) (xs : List Item) → told_drops (drop_notes b xs) ≡ map drop_told xs
of_drops b [] = refl
of_drops b (x ∷ xs) = ap (λ l. drop_told x ∷ l) (of_drops b xs)

first_and_rest : (ds : List (List Item)) → joined ds ≡ first_dropped ds ++ joined (rest_dropped ds)
first_and_rest [] = refl
first_and_rest (d ∷ ds) = refl

-- the first list, and then notes that tell none
of_first : (b : Board) (ds : List (List Item)) (ys : List Note) → Silent ys → Tells ds (drop_notes b (first_dropped ds) ++ ys) (rest_dropped ds)
of_first b ds ys none =
    let front : List Item = first_dropped ds in
    let rest : List Item = joined (rest_dropped ds) in
    let notes : told_drops (drop_notes b front ++ ys) ≡ map drop_told front =
    drops-append (drop_notes b front) ys ∙ (ap (λ l. told_drops (drop_notes b front) ++ l) none ∙ (append-nil (told_drops (drop_notes b front)) ∙ of_drops b front)) in
    ap (map drop_told) (first_and_rest ds) ∙ (map-append drop_told front rest ∙ ap (λ l. l ++ map drop_told rest) (sym notes))

-- ---- the notes of inputs

of_gap : (floor b : ℕ) → Silent (gap floor b)
of_gap floor b = go (nat_lt floor b) (floor == 1) where
  go : (v w : Bool) → Silent (if v then (if w then first b ∷ [] else absent (floor, b - 1) ∷ []) else [])
  go true true = refl
  go true false = refl
  go false w = refl

of_ended : (c : AcqConfig) (b : Board) (ds : List (List Item)) (o : Open) (cause : Cause) (got : Option Given) → Tells ds (ended_notes c b ds o cause got) (after_end ds got)
of_ended c b ds o cause None = refl
of_ended c b ds o cause (Some g) = of_first b ds _ refl

of_retired : (c : AcqConfig) (b : Board) (ds : List (List Item)) (floor : ℕ) (rs : List Retirement) → Tells ds (retired_notes c b ds floor rs) (after_ends ds rs)
of_retired c b ds floor [] = refl
of_retired c b ds floor (r ∷ rs) =
    let left : List (List Item) = after_end ds r.was.given in
    tells_both ds ds (after_ends left rs) (gap floor r.was.block) _ (tells_none ds (gap floor r.was.block) (of_gap floor r.was.block))
    (tells_both ds left (after_ends left rs) (ended_notes c b ds r.was r.cause r.was.given) _ (of_ended c b ds r.was r.cause r.was.given)
    (of_retired c b left (r.was.block + 1) rs))

of_kept : (x : Option StreamPacket) → Silent (kept_note x)
of_kept None = refl
of_kept (Some (leader h i)) = refl
of_kept (Some (payload h d)) = refl
of_kept (Some (trailer h y)) = refl
of_kept (Some (notice h)) = refl

of_need : (x : Option StreamPacket) (need : Option Need) → Silent (need_notes x need)
of_need x None = refl
of_need x (Some (Buffer b)) = refl
of_need x (Some Done) = of_kept x
of_need x (Some (Ignored why)) = refl

of_open : (b : Board) (ds : List (List Item)) (asked : Option ℕ) (got : Option Given) → Tells ds (open_notes b ds asked got) (after_claim ds asked)
of_open b ds None got = refl
of_open b ds (Some block) got = of_first b ds _ refl

of_asks : (b round : ℕ) (rs : List (ℕ × ℕ)) → Silent (ask_notes b round rs)
of_asks b round [] = refl
of_asks b round (r ∷ rs) = of_asks b round rs

of_rounds : (c : AcqConfig) (now : ℕ) (os : List Open) → Silent (round_notes c now os)
of_rounds c now [] = refl
of_rounds c now (o ∷ os) =
    drops-append (ask_notes o.block (o.rounds + 1) (ranges_asked c now o)) (round_notes c now os)
    ∙ (ap (λ l. l ++ told_drops (round_notes c now os)) (of_asks o.block (o.rounds + 1) (ranges_asked c now o)) ∙ of_rounds c now os)

of_turn : (c : AcqConfig) (b : Board) (ds : List (List Item)) (s : State) (i : Input) → Tells ds (turn_notes c b ds s i (step c s i)) (after_turn ds s i (step c s i))
of_turn c b ds s (datagram bytes) =
    let gone : List Retirement = (step c s (datagram bytes)).retired in
    let need : Option Need = (step c s (datagram bytes)).need in
    tells_both ds ds (after_ends ds gone) (need_notes (packet_of bytes) need) _ (tells_none ds (need_notes (packet_of bytes) need) (of_need (packet_of bytes) need))
    (of_retired c b ds s.floor gone)
of_turn c b ds s (claimed got) = of_open b ds s.asked got
of_turn c b ds s (tick moment) =
    let gone : List Retirement = (step c s (tick moment)).retired in
    let now : ℕ = (step c s (tick moment)).after.now in
    let left : List Open = (settled c (record (unasked s) { now = now })).opens in
    tells_both ds (after_ends ds gone) (after_ends ds gone) (retired_notes c b ds s.floor gone) (round_notes c now left) (of_retired c b ds s.floor gone)
    (tells_none (after_ends ds gone) (round_notes c now left) (of_rounds c now left))
of_turn c b ds s stop = of_retired c b ds s.floor (step c s stop).retired
of_turn c b ds s restart = refl

-- the lists that these inputs leave
abbrev pub left_by : AcqConfig → List (List Item) → State → List Input → List (List Item)
left_by c ds s [] = ds
left_by c ds s (i ∷ q) = left_by c (after_turn ds s i (step c s i)) (step c s i).after q

of_inputs : (c : AcqConfig) (b : Board) (ds : List (List Item)) (s : State) (q : List Input) → Tells ds (notes_from c b ds s q) (left_by c ds s q)
of_inputs c b ds s [] = refl
of_inputs c b ds s (i ∷ q) =
    let mid : List (List Item) = after_turn ds s i (step c s i) in
    tells_both ds mid (left_by c mid (step c s i).after q) (turn_notes c b ds s i (step c s i)) _ (of_turn c b ds s i) (of_inputs c b mid (step c s i).after q)

-- ---- how many lists are left

pub length_rest : (ds : List (List Item)) → length (rest_dropped ds) ≡ length ds - 1
length_rest [] = refl
length_rest (d ∷ ds) = omega arith

length_end : (p : ℕ) (ds : List (List Item)) (r : Retirement) (got : Option Given) → length (after_end ds got) ≡ length ds - length (fill_of p r got)
length_end p ds r None = omega arith
length_end p ds r (Some g) = length_rest ds

pub length_ends : (p : ℕ) (ds : List (List Item)) (rs : List Retirement) → length (after_ends ds rs) ≡ length ds - length (fills p rs)
length_ends p ds [] = omega arith
length_ends p ds (r ∷ rs) =
    let rest = length_ends p (after_end ds r.was.given) rs in
    let one = length_end p ds r r.was.given in
    let all = length-append (fill_of p r r.was.given) (fills p rs) in
    omega (arith, rest, one, all)

nothing_left : (ds : List (List Item)) → length ds ≡ 0 → ◌≡◌ {A = List (List Item)} ds []
nothing_left [] e = refl
nothing_left (d ∷ ds) e = absurd (omega arith)

-- Where as many lists are taken as there are, the notes tell them all.
pub tells_all : (c : AcqConfig) (b : Board) (ds : List (List Item)) (s : State) (q : List Input) → length (left_by c ds s q) ≡ 0 → told_drops (notes_from c b ds s q) ≡ all_told ds
tells_all c b ds s q none =
    sym (of_inputs c b ds s q ∙ (ap (λ l. told_drops (notes_from c b ds s q) ++ all_told l) (nothing_left (left_by c ds s q) none) ∙ append-nil (told_drops (notes_from c b ds s q))))
