-- Inputs are told: what a datagram needs, what retires, and what a claim got.
use Rattle.std.specs.Prelude.{IsSome}
use Rattle.std.proofs.Common.{◌≡◌, ℕ, Bool, true, false, is_some, List, [], ◌∷◌, ◌++◌, take, Option, Some, None, refl, sym, ap, subst, ◌∙◌, append-nil}
use Rattle.gvsp_wire.specs.Reading.{packet_of}
use Rattle.board_machine.specs.declared.events.Entry.{Entry}
use Rattle.board_machine.specs.declared.events.Event.{Event}
use Rattle.board_machine.specs.Machine.{Board, Item, word_at}
use Rattle.board_machine.specs.Ids.{buffer_at}
use Rattle.board_machine.specs.Adding.{entries_of, Adds}
use Rattle.board_machine.specs.Histories.{After, after_from}
use Rattle.board_machine.proofs.Adding.{entries_of-append}
use Rattle.board_machine.proofs.Runs.{after-append}
use Rattle.board_model.specs.Plain.{PlainState}
use Rattle.acquisition_machine.specs.declared.config.AcqConfig.{AcqConfig}
use Rattle.acquisition_machine.specs.declared.retired.Retired.{Retired}
use Rattle.acquisition_machine.specs.declared.need.Need.{Need}
use Rattle.acquisition_machine.specs.declared.need.Need.TheVariants.{Buffer}
use Rattle.acquisition_machine.specs.Blocks.{Given, Retirement, fills}
use Rattle.acquisition_machine.specs.Machine.{Input, State, datagram, claimed, step}
use Rattle.acquisition_machine.specs.Runs.{turn, first_state}
use Rattle.acquisition_machine.specs.Runs.{After as StateAfter}
use Rattle.acquisition_machine.specs.TurnLaws.{asked_by}
use Rattle.acquisition_machine.proofs.Joining.{after_from-append}
use Rattle.acquisition_machine.proofs.Counting.{claims_follow_buffer}
use Rattle.acq_core.specs.declared.window.Window.{Window}
use Rattle.acq_core.specs.Ending.{ends_of}
use Rattle.acq_core.specs.Standing.{IsConfig}
use Rattle.acq_core.specs.Receiver.{config_of, is_telling, asked_block, Stands, Takes, KeepsBlocks}
use Rattle.acq_core.specs.Waiting.{waiting_fills, waiting_requests}
use Rattle.board_calls.specs.declared.mode.Mode.{Mode}
use Rattle.board_calls.specs.Modes.{ClaimsFor}
use Rattle.script_trace.specs.Notes.{Note, opens, drops}
use Rattle.script_trace.specs.Inputs.{drop_notes, buffer_of, need_notes, open_notes, after_claim, after_ends, retired_notes, turn_notes, notes_from}
use Rattle.note_tape.specs.declared.told.Told.{Told}
use Rattle.note_tape.specs.Tells.{Tells}
use Rattle.script_trace.specs.Trace.{Trace, Part, acquirer}
use Rattle.script_trace.specs.Trace.{board as board_of}
use Rattle.script_trace.specs.Modes.{FillsInMode, place_of}
use Rattle.script_trace.specs.StreamLines.{outcome, tells, told_twice}
use Rattle.script_trace.specs.Drops.{drops_from}
use Rattle.script_replay.specs.declared.fill_counts.FillCounts.{FillCounts}
use Rattle.script_replay.specs.declared.got.Got.{Got}
use Rattle.script_replay.specs.Acquiring.{AreAway, IsAtRest, IsBehindTrace, DrivesAt, Drives, Claims}
use Rattle.script_replay.specs.Telling.{claim_of, GaveWay, GaveWayFor, TellsClaim}
use Rattle.script_replay.proofs.Driving.{turned}
use Rattle.script_replay.proofs.Claiming.{hears_with, hears_twice_with, heard_part, asks_no_more, hear_rests, hear_rests_again}
use Rattle.explain_lines.specs.Marks.{KeepsMarks}
use Rattle.explain_lines.specs.Dropping.{DropsAs}
use Rattle.explain_lines.specs.Retiring.{Gives, GivesSome, TellsAll}
use Rattle.explain_lines.specs.Hearing.{IsTelling, Retires, SettlesTold, way_notes, claim_notes, HearsIn, TellsPart}
use Rattle.explain_lines.proofs.Marks.{marks_as, marks_then, claim_marks}
use Rattle.explain_lines.proofs.Dropped.{drops_end, dropped_by, claim_drops, fills_begin}
use Rattle.explain_lines.proofs.Tapes.{tells_both, tells_as}

-- ---- an input

pub gives_by : (m mid : Window) (i : Input) (q : List Input) → is_telling m ≡ true → waiting_fills m ≡ [] → Takes m mid i → Stands m q → Gives (config_of m) (StateAfter (config_of m) q).floor (turn (config_of m) q i).retired mid
gives_by m mid i q telling none takes stands = record {
  ends = takes.ends q stands ∙ ap (λ t. ends_of t (config_of m).p (StateAfter (config_of m) q).floor (turn (config_of m) q i).retired) telling;
  fills = takes.fills q stands ∙ ap (λ xs. xs ++ fills (config_of m).p (turn (config_of m) q i).retired) none;
}

pub gives_some : (m mid : Window) (i : Input) (q : List Input) → is_telling m ≡ true → waiting_fills m ≡ [] → Takes m mid i → Stands m q → GivesSome mid
gives_some m mid i q telling none takes stands = record {
  config = config_of m;
  floor = (StateAfter (config_of m) q).floor;
  retired = (turn (config_of m) q i).retired;
  gives = gives_by m mid i q telling none takes stands;
}

pub retires_by : (mode : Mode) (i : Input) (s new : PlainState) (m mid n : Window) (a b : FillCounts) (tape after : List Told) → is_telling m ≡ true → waiting_fills m ≡ [] → Takes m mid i → KeepsBlocks mid n → TellsAll mode mid s a tape new b after
    → Retires mode i s m a tape new n b after
retires_by mode i s new m mid n a b tape after telling none takes keeps all = record {
  settled = record { retired = waiting_fills mid; turned = turned m mid n i takes keeps none; all = all.all };
  gone = all.gone;
  dropped = all.dropped;
  marks = all.marks;
  used = λ q stands rest. all.used (config_of m) (StateAfter (config_of m) q).floor (turn (config_of m) q i).retired (gives_by m mid i q telling none takes stands) rest;
  told = λ q stands before marks rest. all.told (config_of m) (StateAfter (config_of m) q).floor (turn (config_of m) q i).retired (gives_by m mid i q telling none takes stands) before marks rest;
}

-- ---- claims

claimed_notes : (b now : Board) (block : ℕ) (got : Option Got) → GaveWayFor now.out got
    → claim_notes b block got ≡ drop_notes b (dropped_by (claim_of got) now) ++ opens block (buffer_of b (outcome b (place_of (claim_of got)))) ∷ []
claimed_notes b now block None way = refl
claimed_notes b now block (Some g) way = ap (λ ns. ns ++ opens block (Some (buffer_at b g.place)) ∷ []) (go g.dropped way)
  where
    go : (dropped : Option ℕ) → GaveWay now.out g.place dropped → way_notes b g.place dropped ≡ drop_notes b (dropped_by (Some (g.place, is_some dropped)) now)
    go None w = refl
    go (Some blk) (x, rest, first, place, record_of) =
        ap (λ k. drops k (buffer_at b g.place) ∷ []) (sym record_of)
        ∙ ap (λ i. drops x.filling.rec.block (buffer_at b i) ∷ []) (sym place)
        ∙ ap (drop_notes b) (sym (ap (take 1) first))

-- ---- a datagram that wants no buffer

behind_marks : (t : Trace) (s : PlainState) (m : Window) → IsBehindTrace t s m → KeepsMarks (board_of t) s.board
behind_marks t s m behind = marks_as (board_of t) s.board behind.board.board.state

heard_once : (mode : Mode) (s new : PlainState) (m n : Window) (a b : FillCounts) (bytes : List ℕ) (tape after : List Told) (need : Need) (told : SettlesTold mode bytes s m a tape need new n b after) (t : Trace) → IsBehindTrace t s m
    → TellsPart (config_of m) tape after t (tells t [] (datagram bytes) told.retires.settled.all.events [])
heard_once mode s new m n a b bytes tape after need told t behind =
    let c : AcqConfig = config_of m in
    let es : List Entry = entries_of acquirer told.retires.settled.all.events in
    let gone : List (List Item) = told.retires.gone in
    let floor : ℕ = (StateAfter c t.inputs).floor in
    let rs : List Retirement = (turn c t.inputs (datagram bytes)).retired in
    tells_as tape after (need_notes (packet_of bytes) (Some need) ++ retired_notes c (board_of t) (gone ++ []) floor rs) _
    (ap (λ (k : Option Need). need_notes (packet_of bytes) k ++ retired_notes c (board_of t) (gone ++ []) floor rs) (sym (told.need_is t.inputs behind.inputs))
    ∙ ap (λ ds. need_notes (packet_of bytes) (turn c t.inputs (datagram bytes)).need ++ retired_notes c (board_of t) ds floor rs) (sym (drops_end t.entries es gone (told.retires.dropped t.entries behind.board.board.state)))
    ∙ sym (append-nil _))
    (tells_both tape told.mid after (need_notes (packet_of bytes) (Some need)) (retired_notes c (board_of t) (gone ++ []) floor rs) told.named
    (told.retires.told t.inputs behind.inputs (board_of t) (behind_marks t s m behind) []))

pub hear_once : (mode : Mode) (s new : PlainState) (m n : Window) (a b : FillCounts) (bytes : List ℕ) (tape after : List Told) (need : Need) → SettlesTold mode bytes s m a tape need new n b after → asked_by (Some need) ≡ None
    → Drives (λ t part. HearsIn (config_of m) mode bytes t part × TellsPart (config_of m) tape after t part) 0 s m a [] new n b
hear_once mode s new m n a b bytes tape after need told none t behind =
    hears_with mode s new m n a b bytes need told.retires.settled told.need_is none (TellsPart (config_of m) tape after) t behind (heard_once mode s new m n a b bytes tape after need told t behind)

-- ---- a datagram that wants a buffer

-- the notes of the three inputs, where what the first drops is used up by it
three_notes : (c : AcqConfig) (b : Board) (ds rest : List (List Item)) (way : List Item) (s : State) (bytes : List ℕ) (given : Option Given) (block : ℕ)
    → after_ends ds (step c s (datagram bytes)).retired ≡ way ∷ rest → (step c s (datagram bytes)).after.asked ≡ Some block
    → turn_notes c b ds s (datagram bytes) (step c s (datagram bytes))
    ++ ((drop_notes b way ++ opens block (buffer_of b given) ∷ [])
    ++ (turn_notes c b rest (step c (step c s (datagram bytes)).after (claimed given)).after (datagram bytes) (step c (step c (step c s (datagram bytes)).after (claimed given)).after (datagram bytes)) ++ []))
    ≡ notes_from c b ds s (datagram bytes ∷ claimed given ∷ datagram bytes ∷ [])
three_notes c b ds rest way s bytes given block used asked = sym (ap (λ l. one ++ l) (ap (λ d. two d mid.asked) used ∙ ap (two (way ∷ rest)) asked))
  where
    one : List Note
    one = turn_notes c b ds s (datagram bytes) (step c s (datagram bytes))

    mid : State
    mid = (step c s (datagram bytes)).after

    last : State
    last = (step c mid (claimed given)).after

    two : List (List Item) → Option ℕ → List Note
    two d k = open_notes b d k given ++ (turn_notes c b (after_claim d k) last (datagram bytes) (step c last (datagram bytes)) ++ [])

-- what the three parts drop
three_drops : (mode : Mode) (h : List Entry) (s mid : Board) (one get two : List Event) (first last : List (List Item)) (claim : Option (ℕ × Bool)) (xs : List Retired) → s ≡ After h → DropsAs h (entries_of acquirer one) first → mid ≡ After (h ++ entries_of acquirer one) → ClaimsFor mode claim get
    → DropsAs ((h ++ entries_of acquirer one) ++ entries_of acquirer get) (entries_of acquirer two) last → FillsInMode mode xs two
    → drops_from h false [] (entries_of acquirer (one ++ (get ++ two))) ≡ first ++ (dropped_by claim mid ∷ (last ++ []))
three_drops mode h s mid one get two first last claim xs stands dropped mid_stands got dropped_too filled =
    ap (drops_from h false []) (entries_of-append acquirer one (get ++ two) ∙ ap (λ es. entries_of acquirer one ++ es) (entries_of-append acquirer get two))
    ∙ dropped (entries_of acquirer get ++ entries_of acquirer two)
    ∙ ap (λ ds. first ++ ds)
    (claim_drops mode claim get mid (h ++ entries_of acquirer one) (entries_of acquirer two) mid_stands got (fills_begin mode xs two filled)
    ∙ ap (λ ds. dropped_by claim mid ∷ ds) (drops_end ((h ++ entries_of acquirer one) ++ entries_of acquirer get) (entries_of acquirer two) last dropped_too))

-- a board after acts behind a history
acts_behind : (b new : Board) (h : List Entry) (es : List Event) → b ≡ After h → Adds b acquirer es new → new ≡ After (h ++ entries_of acquirer es)
acts_behind b new h es stands adds = adds.after ∙ ap (λ (c : Board). after_from c (entries_of acquirer es)) stands ∙ sym (after-append _ h (entries_of acquirer es))

heard_twice : (mode : Mode) (s given_up given new : PlainState) (m first held n : Window) (a b k d : FillCounts) (bytes : List ℕ) (block : ℕ) (got : Option Got) (tape one_tape two_tape after : List Told) (need : Need)
    (settled : SettlesTold mode bytes s m a tape (Buffer block) given_up first b one_tape) (claims : Claims mode given_up first b given held k) → claims.claim ≡ claim_of got → GaveWayFor given_up.board.out got
    → ((before : Board) → KeepsMarks before given.board → Tells one_tape two_tape (claim_notes before block got))
    → (again : SettlesTold mode bytes given held k two_tape need new n d after) → (t : Trace) → IsBehindTrace t s m
    → TellsPart (config_of m) tape after t (heard_part t bytes (settled.retires.settled.all.events ++ (claims.events ++ again.retires.settled.all.events)) (place_of claims.claim))
heard_twice mode s given_up given new m first held n a b k d bytes block got tape one_tape two_tape after need settled claims claim_is way told again t behind =
    tells_as tape after (turn_one ++ (claim_part ++ (turn_two ++ []))) _ all_notes
    (tells_both tape one_tape after turn_one (claim_part ++ (turn_two ++ [])) told_one
    (tells_both one_tape two_tape after claim_part (turn_two ++ []) told_claim (tells_as two_tape after turn_two (turn_two ++ []) (sym (append-nil turn_two)) told_two)))
  where
    c : AcqConfig
    c = config_of m

    b_start : Board
    b_start = board_of t

    dg : Input
    dg = datagram bytes

    one : List Event
    one = settled.retires.settled.all.events

    two : List Event
    two = again.retires.settled.all.events

    place : Option ℕ
    place = place_of claims.claim

    given_now : Option Given
    given_now = outcome b_start place

    start : State
    start = StateAfter c t.inputs

    mid : State
    mid = (step c start dg).after

    last : State
    last = (step c mid (claimed given_now)).after

    rest : List (List Item)
    rest = again.retires.gone ++ []

    took : List Item
    took = dropped_by claims.claim given_up.board

    ds : List (List Item)
    ds = settled.retires.gone ++ (took ∷ rest)

    given_up_is : given_up.board ≡ After (t.entries ++ entries_of acquirer one)
    given_up_is = acts_behind s.board given_up.board t.entries one behind.board.board.state settled.retires.settled.all.adds

    given_is : given.board ≡ After ((t.entries ++ entries_of acquirer one) ++ entries_of acquirer claims.events)
    given_is = acts_behind given_up.board given.board (t.entries ++ entries_of acquirer one) claims.events given_up_is claims.adds

    drops_are : drops_from t.entries false [] (entries_of acquirer (one ++ (claims.events ++ two))) ≡ ds
    drops_are =
        three_drops mode t.entries s.board given_up.board one claims.events two settled.retires.gone again.retires.gone claims.claim again.retires.settled.retired behind.board.board.state
        (settled.retires.dropped t.entries behind.board.board.state) given_up_is claims.got
        (again.retires.dropped ((t.entries ++ entries_of acquirer one) ++ entries_of acquirer claims.events) given_is) again.retires.settled.all.filled

    turn_one : List Note
    turn_one = turn_notes c b_start ds start dg (step c start dg)

    claim_part : List Note
    claim_part = drop_notes b_start took ++ opens block (buffer_of b_start given_now) ∷ []

    turn_two : List Note
    turn_two = turn_notes c b_start rest last dg (step c last dg)

    all_notes : turn_one ++ (claim_part ++ (turn_two ++ [])) ≡ notes_from c b_start (drops_from t.entries false [] (entries_of acquirer (one ++ (claims.events ++ two)))) start (told_twice t bytes place)
    all_notes =
        three_notes c b_start ds rest took start bytes given_now block (settled.retires.used t.inputs behind.inputs (took ∷ rest))
        (claims_follow_buffer c start dg ∙ ap asked_by (settled.need_is t.inputs behind.inputs))
        ∙ ap (λ xs. notes_from c b_start xs start (told_twice t bytes place)) (sym drops_are)

    marks_one : KeepsMarks b_start s.board
    marks_one = behind_marks t s m behind

    marks_two : KeepsMarks b_start given_up.board
    marks_two = marks_then b_start s.board given_up.board marks_one settled.retires.marks

    marks_three : KeepsMarks b_start given.board
    marks_three = marks_then b_start given_up.board given.board marks_two (claim_marks mode claims.claim claims.events given_up.board given.board claims.got claims.adds)

    told_one : Tells tape one_tape turn_one
    told_one =
        tells_as tape one_tape (need_notes (packet_of bytes) (Some (Buffer block)) ++ retired_notes c b_start ds start.floor (step c start dg).retired) turn_one
        (ap (λ (x : Option Need). need_notes (packet_of bytes) x ++ retired_notes c b_start ds start.floor (step c start dg).retired) (sym (settled.need_is t.inputs behind.inputs)))
        (tells_both tape settled.mid one_tape (need_notes (packet_of bytes) (Some (Buffer block))) (retired_notes c b_start ds start.floor (step c start dg).retired) settled.named
        (settled.retires.told t.inputs behind.inputs b_start marks_one (took ∷ rest)))

    told_claim : Tells one_tape two_tape claim_part
    told_claim =
        tells_as one_tape two_tape (claim_notes b_start block got) claim_part
        (claimed_notes b_start given_up.board block got way
        ∙ ap (λ (x : Option (ℕ × Bool)). drop_notes b_start (dropped_by x given_up.board) ++ opens block (buffer_of b_start (outcome b_start (place_of x))) ∷ []) (sym claim_is))
        (told b_start marks_three)

    same_words : (x : Option ℕ) → outcome given_up.board x ≡ outcome b_start x
    same_words None = refl
    same_words (Some i) =
        ap (λ (z : ℕ). Some (record { place = i; size = z })) (settled.retires.settled.all.sizes i ∙ ap (λ (x : Board). (word_at x i).size) behind.board.board.state)

    inputs : List Input
    inputs = (t.inputs ++ dg ∷ []) ++ claimed given_now ∷ []

    held_stands : Stands held inputs
    held_stands =
        subst (λ (g : Option Given). Stands held ((t.inputs ++ dg ∷ []) ++ claimed g ∷ [])) (same_words place)
        (claims.takes.stands (t.inputs ++ dg ∷ []) (settled.retires.settled.turned.stands t.inputs behind.inputs))

    config_held : config_of held ≡ c
    config_held = claims.takes.config ∙ settled.retires.settled.turned.config

    last_is : StateAfter c inputs ≡ last
    last_is = after_from-append c first_state (t.inputs ++ dg ∷ []) (claimed given_now ∷ []) ∙ ap (λ (x : State). (step c x (claimed given_now)).after) (after_from-append c first_state t.inputs (dg ∷ []))

    turn_from : AcqConfig → State → List Note
    turn_from cc st = turn_notes cc b_start rest st dg (step cc st dg)

    told_two : Tells two_tape after turn_two
    told_two =
        tells_as two_tape after (need_notes (packet_of bytes) (Some need) ++ retired_notes (config_of held) b_start rest (StateAfter (config_of held) inputs).floor (turn (config_of held) inputs dg).retired) turn_two
        (ap (λ (x : Option Need). need_notes (packet_of bytes) x ++ retired_notes (config_of held) b_start rest (StateAfter (config_of held) inputs).floor (turn (config_of held) inputs dg).retired) (sym (again.need_is inputs held_stands))
        ∙ ap (λ (cc : AcqConfig). turn_from cc (StateAfter cc inputs)) config_held
        ∙ ap (turn_from c) last_is)
        (tells_both two_tape again.mid after (need_notes (packet_of bytes) (Some need)) (retired_notes (config_of held) b_start rest (StateAfter (config_of held) inputs).floor (turn (config_of held) inputs dg).retired) again.named
        (again.retires.told inputs held_stands b_start marks_three []))

pub hear_twice : (mode : Mode) (s given_up given new : PlainState) (m first held n : Window) (a b k d : FillCounts) (bytes : List ℕ) (block : ℕ) (got : Option Got) (tape one_tape two_tape after : List Told) (need : Need)
    → SettlesTold mode bytes s m a tape (Buffer block) given_up first b one_tape → TellsClaim got mode given_up first b given held k
    → ((before : Board) → KeepsMarks before given.board → Tells one_tape two_tape (claim_notes before block got))
    → SettlesTold mode bytes given held k two_tape need new n d after
    → Drives (λ t part. HearsIn (config_of m) mode bytes t part × TellsPart (config_of m) tape after t part) 0 s m a [] new n d
hear_twice mode s given_up given new m first held n a b k d bytes block got tape one_tape two_tape after need settled claim told again t behind =
    hears_twice_with mode s given_up given new m first held n a b k d bytes block settled.retires.settled claim.claims again.retires.settled settled.need_is (TellsPart (config_of m) tape after) t behind
    (heard_twice mode s given_up given new m first held n a b k d bytes block got tape one_tape two_tape after need settled claim.claims claim.is claim.gave_way told again t behind)

-- ---- at rest

pub hear_rests_once : (mode : Mode) (s new : PlainState) (m n : Window) (a b : FillCounts) (bytes : List ℕ) (tape after : List Told) (need : Need) → IsAtRest s m → SettlesTold mode bytes s m a tape need new n b after → asked_by (Some need) ≡ None → IsAtRest new n
hear_rests_once mode s new m n a b bytes tape after need rest told none =
    hear_rests s new m n bytes rest told.retires.settled told.ready told.no_fill told.no_request (told.asked ∙ none) told.away

pub hear_rests_twice : (mode : Mode) (s given_up given new : PlainState) (m first held n : Window) (a b k d : FillCounts) (bytes : List ℕ) (block : ℕ) (tape one_tape two_tape after : List Told) (need : Need) → IsAtRest s m
    → SettlesTold mode bytes s m a tape (Buffer block) given_up first b one_tape → Claims mode given_up first b given held k
    → SettlesTold mode bytes given held k two_tape need new n d after → IsAtRest new n
hear_rests_twice mode s given_up given new m first held n a b k d bytes block tape one_tape two_tape after need rest settled claims again =
    hear_rests_again s given_up given new m first held n bytes rest settled.retires.settled claims again.retires.settled again.ready again.no_fill again.no_request
    (again.asked ∙ asks_no_more s given_up given m first held bytes block rest.inputs need rest.config rest.stands settled.retires.settled claims settled.need_is again.need_is)
    again.away

-- ---- before the ends are told

pub rest_kept : (s : PlainState) (m n : Window) → IsAtRest s m → KeepsBlocks m n → waiting_fills n ≡ waiting_fills m → waiting_requests n ≡ waiting_requests m → IsAtRest s n
rest_kept s m n rest keeps fills_same requests_same = record {
  ready = rest.ready;
  config = subst IsConfig (sym keeps.config) rest.config;
  inputs = rest.inputs;
  stands = keeps.stands rest.inputs rest.stands;
  no_fill = fills_same ∙ rest.no_fill;
  no_request = requests_same ∙ rest.no_request;
  unasked = keeps.asked ∙ rest.unasked;
  away = subst (λ (gs : List Given). AreAway s gs) (sym keeps.buffers) rest.away;
}

pub drives_kept : (Line : AcqConfig → Trace → Part → Type 0) (said : List ℕ) (s new : PlainState) (m n last : Window) (a b : FillCounts) → KeepsBlocks m n → Drives (Line (config_of n)) 0 s n a said new last b → Drives (Line (config_of m)) 0 s m a said new last b
drives_kept Line said s new m n last a b keeps drives t behind =
    subst (λ (c : AcqConfig). DrivesAt (Line c) 0 a said new last b t) keeps.config (drives t (record { board = behind.board; inputs = keeps.stands t.inputs behind.inputs }))

-- ---- by the answer

pub drives_twice : (mode : Mode) (s given_up given new : PlainState) (m telling first held n : Window) (a b k d : FillCounts) (bytes : List ℕ) (wants : Need) (block : ℕ) (got : Option Got) (tape one_tape two_tape after : List Told) (need : Need) → KeepsBlocks m telling
    → wants ≡ Buffer block → SettlesTold mode bytes s telling a tape wants given_up first b one_tape → TellsClaim got mode given_up first b given held k
    → ((before : Board) → KeepsMarks before given.board → Tells one_tape two_tape (claim_notes before block got))
    → SettlesTold mode bytes given held k two_tape need new n d after
    → Drives (λ t part. HearsIn (config_of m) mode bytes t part × TellsPart (config_of m) tape after t part) 0 s m a [] new n d
drives_twice mode s given_up given new m telling first held n a b k d bytes wants block got tape one_tape two_tape after need begun is settled claim told again =
    drives_kept (λ c t part. HearsIn c mode bytes t part × TellsPart c tape after t part) [] s new m telling n a d begun
    (hear_twice mode s given_up given new telling first held n a b k d bytes block got tape one_tape two_tape after need (subst (λ (x : Need). SettlesTold mode bytes s telling a tape x given_up first b one_tape) is settled) claim told again)

pub rests_twice : (mode : Mode) (s given_up given new : PlainState) (m telling first held n : Window) (a b k d : FillCounts) (bytes : List ℕ) (wants : Need) (block : ℕ) (tape one_tape two_tape after : List Told) (need : Need) → IsAtRest s m → KeepsBlocks m telling → waiting_fills telling ≡ waiting_fills m → waiting_requests telling ≡ waiting_requests m
    → wants ≡ Buffer block → SettlesTold mode bytes s telling a tape wants given_up first b one_tape → Claims mode given_up first b given held k
    → SettlesTold mode bytes given held k two_tape need new n d after → IsAtRest new n
rests_twice mode s given_up given new m telling first held n a b k d bytes wants block tape one_tape two_tape after need rest begun fills_same requests_same is settled claims again =
    hear_rests_twice mode s given_up given new telling first held n a b k d bytes block tape one_tape two_tape after need (rest_kept s m telling rest begun fills_same requests_same)
    (subst (λ (x : Need). SettlesTold mode bytes s telling a tape x given_up first b one_tape) is settled) claims again

pub drives_once : (mode : Mode) (s new : PlainState) (m telling n : Window) (a b : FillCounts) (bytes : List ℕ) (tape after : List Told) (need : Need) → KeepsBlocks m telling → SettlesTold mode bytes s telling a tape need new n b after → asked_by (Some need) ≡ None
    → Drives (λ t part. HearsIn (config_of m) mode bytes t part × TellsPart (config_of m) tape after t part) 0 s m a [] new n b
drives_once mode s new m telling n a b bytes tape after need begun told none =
    drives_kept (λ c t part. HearsIn c mode bytes t part × TellsPart c tape after t part) [] s new m telling n a b begun (hear_once mode s new telling n a b bytes tape after need told none)

pub rests_once : (mode : Mode) (s new : PlainState) (m telling n : Window) (a b : FillCounts) (bytes : List ℕ) (tape after : List Told) (need : Need) → IsAtRest s m → KeepsBlocks m telling → waiting_fills telling ≡ waiting_fills m → waiting_requests telling ≡ waiting_requests m
    → SettlesTold mode bytes s telling a tape need new n b after → asked_by (Some need) ≡ None → IsAtRest new n
rests_once mode s new m telling n a b bytes tape after need rest begun fills_same requests_same told none =
    hear_rests_once mode s new telling n a b bytes tape after need (rest_kept s m telling rest begun fills_same requests_same) told none

pub asks_some : (mode : Mode) (s new : PlainState) (m n : Window) (a b : FillCounts) (bytes : List ℕ) (tape after : List Told) (need : Need) (block : ℕ) → SettlesTold mode bytes s m a tape need new n b after → need ≡ Buffer block → IsSome (asked_block n)
asks_some mode s new m n a b bytes tape after need block told is = subst IsSome (sym (told.asked ∙ ap (λ (x : Need). asked_by (Some x)) is)) refl

-- the receiver tells on behind a claim
pub telling_again : (mode : Mode) (s given_up given : PlainState) (m telling first held : Window) (a b k : FillCounts) (bytes : List ℕ) (tape after : List Told) (need : Need) → IsAtRest s m → KeepsBlocks m telling → SettlesTold mode bytes s telling a tape need given_up first b after
    → Claims mode given_up first b given held k → IsTelling held
telling_again mode s given_up given m telling first held a b k bytes tape after need rest begun told claims = record {
  inputs = (rest.inputs ++ datagram bytes ∷ []) ++ claimed (outcome given_up.board (place_of claims.claim)) ∷ [];
  stands = claims.takes.stands (rest.inputs ++ datagram bytes ∷ []) (told.retires.settled.turned.stands rest.inputs (begun.stands rest.inputs rest.stands));
  telling = claims.takes.telling ∙ told.telling;
}

pub telling_first : (s : PlainState) (m telling : Window) → IsAtRest s m → KeepsBlocks m telling → is_telling telling ≡ true → IsTelling telling
telling_first s m telling rest begun now = record { inputs = rest.inputs; stands = begun.stands rest.inputs rest.stands; telling = now }
