-- The tree of each line, and that what a line adds follows it.
use Rattle.std.proofs.Common.{◌≡◌, ◌≢◌, inl, inr, ℕ, ◌<◌, ◌≤◌, Bool, true, false, List, [], ◌∷◌, ◌++◌, length, refl, sym, subst, append-nil, arith}
use Rattle.std.specs.Prelude.{◌==◌, codes, Option, Some, None, unwrap_or, Result, Ok, Err}
use Rattle.std.proofs.Math.Decide.{dec_le}
use Rattle.hex.specs.declared.error.FromHexError.{FromHexError}
use Rattle.hex.specs.Hex.{decode_of}
use Rattle.gentl_types.specs.declared.errors.GcError.{GcError}
use Rattle.gentl_types.specs.declared.errors.GcError.TheVariants.{ResourceInUse, InvalidHandle, InvalidParameter}
use Rattle.gentl_types.specs.declared.errors.Shown.TheVariants as shown
use Rattle.gentl_handles.specs.declared.opened.Opened.{Opened}
use Rattle.gentl_handles.specs.Handles.{Handles}
use Rattle.gentl_handles.specs.Opening.{opening as opening_handle, with_opened}
use Rattle.gentl_handles.specs.Closing.{closing, is_among}
use Rattle.gev_types.specs.Filling.{Filling}
use Rattle.gev_report.specs.StepLine.{step_line}
use Rattle.gev_report.specs.declared.step_text.StepText.TheVariants as said
use Rattle.gev_script.specs.declared.act.Act as script_act
use Rattle.gev_script.specs.declared.act.Act.TheVariants as act
use Rattle.gev_script.specs.Lines as line
use Rattle.gev_script.specs.Lines.{ScriptLine}
use Rattle.board_machine.specs.declared.events.Entry.{Entry}
use Rattle.board_machine.specs.declared.events.Event.{Event}
use Rattle.board_machine.specs.declared.events.Event.TheVariants.{Grab, Lay, Pool, Claim, SweepPool, Fill, Take, SweepOut, Close, Start, Stop}
use Rattle.board_machine.specs.Machine.{entry, word_at}
use Rattle.board_machine.specs.Histories.{RunsFrom}
use Rattle.board_machine.specs.Adding.{entries_of}
use Rattle.board_machine.specs.Acts.{to_grab, to_lay, to_pool, to_claim, to_sweep_pool, to_fill, to_take, to_sweep_out, to_close, to_start, to_stop, Act, act_of}
use Rattle.board_calls.specs.Calls.{Starts, Stops}
use Rattle.board_calls.specs.Loans.{loan_value}
use Rattle.board_model.specs.Plain.{filling_of, lying}
use Rattle.board_model.specs.Holdings.{emptied}
use Rattle.acquisition_machine.specs.declared.config.AcqConfig.{AcqConfig}
use Rattle.acquisition_machine.specs.Machine.{Input, datagram, claimed, tick, stop, restart}
use Rattle.acquisition_machine.specs.Runs.{turn}
use Rattle.acquisition_machine.specs.TurnLaws.{asked_by}
use Rattle.script_trace.specs.Trace.{Trace, Part, board, caller, acquirer, acts, only_says, Calls}
use Rattle.script_trace.specs.Contents.{contents_of, FillsFrom}
use Rattle.script_trace.specs.Answers.{refused_text, done_text, value_text}
use Rattle.script_trace.specs.BoardLines.{buffer, TakeIfOpen, open_event, is_of_loan, AsksLoan, AsksBuffer}
use Rattle.script_trace.specs.StreamLines.{retired_by, Settles, Restarts, StopsAcquiring, requests_text, idles, outcome, told_twice, HeardAgain, Hears, HearsIfRunning, sets_mode, ModeIfRunning}
use Rattle.script_trace.specs.Modes.{mode_of, FillsInMode, place_of}
use Rattle.script_trace.specs.HandleLines.{opened_text, left_open, ClosesStream, ClosesHandle}
use Rattle.script_trace.specs.StepLines.{is_in_hand, grab_text, StepInHand, fill_text, FillStep, claim_text, take_text, StepBy}
use Rattle.script_trace.specs.Adding.{Spells, AddsPart}
use Rattle.script_trace.proofs.BlockFills.{IsByOther}
use Rattle.script_trace.proofs.Trees.{Tree, ends, asks, Follows, nowhere, follows_along, follows_parts, follows_all, look_tree, looks_closed, opens_with, retired_tree, retired_follow, claim_tree, claims_follow}
use Rattle.script_trace.proofs.CallTrees.{leaf, announce_tree, announce_follows, queue_tree, queue_follows, loan_tree, loan_follows, no_loan_follows, revoke_tree, revoke_follows}
use Rattle.script_trace.proofs.FlushTrees.{discard_tree, discards_follow, flush_tree, flush_follows, kill_tree, kill_follows, closes_tree, closes_follow}
use Rattle.script_trace.proofs.InfoTrees.{info_tree, info_follows, binfo_tree, binfo_follows, take_tree, takes_follow, takes_none}

-- the part without its entries
abbrev pub rest_of : Part → Part
rest_of part = record part { entries = [] }

abbrev pub FollowsPart : Tree → Part → Type 0
FollowsPart tree part = Follows tree part.entries (rest_of part)

acts_part : (t : Trace) (k : ℕ) (es : List Event) (text : List ℕ) (tree : Tree) (part : Part) → part ≡ acts t k es text → Follows tree (entries_of k es) (only_says t text) → FollowsPart tree part
acts_part t k es text tree part is h = subst (FollowsPart tree) (sym is) h

calls_part : (t : Trace) (Kind : List Event → Type 0) (text : List ℕ) (tree : Tree) (part : Part) (calls : Calls t caller Kind text part) → Follows tree (entries_of caller calls.events) (only_says t text) → FollowsPart tree part
calls_part t Kind text tree part calls h = acts_part t caller calls.events text tree part calls.is h

-- what a part's entries fulfil
entries_fulfil : (P : List Entry → Type 0) (t : Trace) (k : ℕ) (es : List Event) (text : List ℕ) (part : Part) → part ≡ acts t k es text → P part.entries → P (entries_of k es)
entries_fulfil P t k es text part is h = subst (λ p. P p.entries) is h

-- ---- start, stop, t and d

abbrev told_leaf : Trace → Input → List ℕ → Tree
told_leaf t i text = ends (record { entries = []; inputs = i ∷ []; handles = t.handles; idle = 0; text = text; mode = t.mode; told_mode = t.told_mode })

abbrev started : Trace → Event → Tree
started t (Start (Ok done)) = told_leaf t restart (done_text (codes "start"))
started t (Start (Err r)) = leaf t (refused_text (codes "start") (ResourceInUse shown.Closed))
started t _ = nowhere

abbrev start_tree : Trace → Tree
start_tree t = look_tree caller (leaf t (refused_text (codes "start") (InvalidHandle shown.Closed))) (asks caller to_start (started t))

start_refused : (t : Trace) (error : GcError) (es : List Event) → Starts (Err error) es → Follows (start_tree t) (entries_of caller es) (only_says t (refused_text (codes "start") error))
start_refused t (InvalidHandle shown.Closed) es looks = looks_closed caller _ _ es _ looks (refl, refl)
start_refused t (ResourceInUse (shown.Word w)) es (r, is, opens) =
    opens_with caller _ _ (Start (Err r) ∷ []) es _ opens (Start (Err r), [], refl, refl, (refl, refl))
start_refused t _ es h = absurd h

start_part : (t : Trace) (calls : List Event) (answer : Result (Unit {0}) GcError) (part : Part) → Starts answer calls → Restarts t calls answer part → FollowsPart (start_tree t) part
start_part t calls (Ok done) part starts is =
    let q : Part = record { entries = []; inputs = restart ∷ []; handles = t.handles; idle = 0; text = done_text (codes "start"); mode = t.mode; told_mode = t.told_mode } in
    let h : Follows (start_tree t) (entries_of caller calls) q
    = opens_with caller _ (asks caller to_start (started t)) (Start (Ok tt) ∷ []) calls q starts (Start (Ok tt), [], refl, refl, (refl, refl)) in
    subst (FollowsPart (start_tree t)) (sym is) (subst (λ l. Follows (start_tree t) l q) (sym (append-nil (entries_of caller calls))) h)
start_part t calls (Err error) part starts is = acts_part t caller calls _ (start_tree t) part is (start_refused t error calls starts)

abbrev stopped : AcqConfig → Trace → Event → Tree
stopped c t (Stop kill (Ok done)) = retired_tree t.mode (retired_by c t.inputs stop) (told_leaf t stop (done_text (codes "stop")))
stopped c t (Stop kill (Err r)) = leaf t (refused_text (codes "stop") (ResourceInUse shown.Closed))
stopped c t _ = nowhere

abbrev stop_at : AcqConfig → (t : Trace) (flags : ℕ) → Dec (flags ≤ 1) → Tree
stop_at c t flags (yes low) = asks caller (to_stop (flags == 1)) (stopped c t)
stop_at c t flags (no high) = leaf t (refused_text (codes "stop") (InvalidParameter flags))

abbrev stop_tree : AcqConfig → Trace → ℕ → Tree
stop_tree c t flags = stop_at c t flags (dec_le flags 1)

stop_low : (c : AcqConfig) (t : Trace) (flags : ℕ) (d : Dec (flags ≤ 1)) (answer : Result (Unit {0}) ℕ) (rest : List Entry) (q : Part) → flags ≤ 1 → Follows (stopped c t (Stop (flags == 1) answer)) rest q → Follows (stop_at c t flags d) (entry caller (Stop (flags == 1) answer) ∷ rest) q
stop_low c t flags (yes low) answer rest q is h = (Stop (flags == 1) answer, rest, refl, refl, h)
stop_low c t flags (no high) answer rest q is h = absurd (high is)

stop_high : (c : AcqConfig) (t : Trace) (flags : ℕ) (d : Dec (flags ≤ 1)) → 1 < flags → Follows (stop_at c t flags d) [] (only_says t (refused_text (codes "stop") (InvalidParameter flags)))
stop_high c t flags (yes low) is = absurd (omega (arith, low, is))
stop_high c t flags (no high) is = (refl, refl)

stop_refused : (c : AcqConfig) (t : Trace) (flags : ℕ) (error : GcError) (es : List Event) → Stops flags (Err error) es → Follows (stop_tree c t flags) (entries_of caller es) (only_says t (refused_text (codes "stop") error))
stop_refused c t flags (InvalidParameter n) es (same, high, is) = follows_along (stop_tree c t flags) caller es [] _ is (stop_high c t flags (dec_le flags 1) high)
stop_refused c t flags (ResourceInUse (shown.Word w)) es (low, (r, same, is)) =
    follows_along (stop_tree c t flags) caller es (Stop (flags == 1) (Err r) ∷ []) _ is (stop_low c t flags (dec_le flags 1) (Err r) [] _ low (refl, refl))
stop_refused c t flags _ es h = absurd h

-- the acquisition's fills, last
retired_last : (c : AcqConfig) (t : Trace) (i : Input) (text : List ℕ) (events : List Event) → FillsInMode t.mode (retired_by c t.inputs i) events → Follows (retired_tree t.mode (retired_by c t.inputs i) (told_leaf t i text)) (entries_of acquirer events) (record { entries = []; inputs = i ∷ []; handles = t.handles; idle = 0; text = text; mode = t.mode; told_mode = t.told_mode })
retired_last c t i text events filled =
    follows_all (retired_tree t.mode (retired_by c t.inputs i) (told_leaf t i text)) (entries_of acquirer events) _
    (retired_follow t.mode (retired_by c t.inputs i) events (told_leaf t i text) [] _ filled (refl, refl))

stop_part : (c : AcqConfig) (t : Trace) (flags : ℕ) (calls : List Event) (answer : Result (Unit {0}) GcError) (part : Part) → Stops flags answer calls → StopsAcquiring c t calls answer part → FollowsPart (stop_tree c t flags) part
stop_part c t flags calls (Ok done) part (low, is) s =
    let q : Part = record { entries = []; inputs = stop ∷ []; handles = t.handles; idle = 0; text = done_text (codes "stop"); mode = t.mode; told_mode = t.told_mode } in
    let h : Follows (stop_tree c t flags) (entry caller (Stop (flags == 1) (Ok tt)) ∷ entries_of acquirer s.events) q
    = stop_low c t flags (dec_le flags 1) (Ok tt) (entries_of acquirer s.events) q low (retired_last c t stop (done_text (codes "stop")) s.events s.filled) in
    subst (FollowsPart (stop_tree c t flags)) (sym s.is)
    (subst (λ l. Follows (stop_tree c t flags) (entries_of caller l ++ entries_of acquirer s.events) q) (sym is) h)
stop_part c t flags calls (Err error) part stops is = acts_part t caller calls _ (stop_tree c t flags) part is (stop_refused c t flags error calls stops)

abbrev settles_tree : AcqConfig → Trace → Input → List ℕ → Tree
settles_tree c t i text = retired_tree t.mode (retired_by c t.inputs i) (told_leaf t i text)

settles_part : (c : AcqConfig) (t : Trace) (i : Input) (text : List ℕ) (part : Part) → Settles c t [] i text part → FollowsPart (settles_tree c t i text) part
settles_part c t i text part s = subst (FollowsPart (settles_tree c t i text)) (sym s.is) (retired_last c t i text s.events s.filled)

abbrev twice_leaf : Trace → List ℕ → Option ℕ → Tree
twice_leaf t bytes claim = ends (record { entries = []; inputs = told_twice t bytes claim; handles = t.handles; idle = 0; text = []; mode = t.mode; told_mode = t.told_mode })

abbrev after_claim : AcqConfig → Trace → List ℕ → Option ℕ → Tree
after_claim c t bytes claim =
    retired_tree t.mode (retired_by c (t.inputs ++ datagram bytes ∷ claimed (outcome (board t) claim) ∷ []) (datagram bytes)) (twice_leaf t bytes claim)

abbrev again_tree : AcqConfig → Trace → List ℕ → Tree
again_tree c t bytes = retired_tree t.mode (retired_by c t.inputs (datagram bytes)) (claim_tree t.mode (after_claim c t bytes))

again_part : (c : AcqConfig) (t : Trace) (bytes : List ℕ) (part : Part) → HeardAgain c t bytes part → FollowsPart (again_tree c t bytes) part
again_part c t bytes part h =
    let got : Option ℕ = place_of h.claim in
    let q : Part = record { entries = []; inputs = told_twice t bytes got; handles = t.handles; idle = 0; text = []; mode = t.mode; told_mode = t.told_mode } in
    let later : List Input = t.inputs ++ datagram bytes ∷ claimed (outcome (board t) got) ∷ [] in
    let second : Follows (after_claim c t bytes got) (entries_of acquirer h.second) q
    = follows_all (after_claim c t bytes got) (entries_of acquirer h.second) q
    (retired_follow t.mode (retired_by c later (datagram bytes)) h.second (twice_leaf t bytes got) [] q h.filled (refl, refl)) in
    let claims : Follows (claim_tree t.mode (after_claim c t bytes)) (entries_of acquirer (h.claims ++ h.second)) q
    = follows_parts (claim_tree t.mode (after_claim c t bytes)) acquirer h.claims h.second q
    (claims_follow t.mode h.claim h.claims (after_claim c t bytes) (entries_of acquirer h.second) q h.got second) in
    subst (FollowsPart (again_tree c t bytes)) (sym h.is)
    (follows_parts (again_tree c t bytes) acquirer h.first (h.claims ++ h.second) q
    (retired_follow t.mode (retired_by c t.inputs (datagram bytes)) h.first (claim_tree t.mode (after_claim c t bytes)) (entries_of acquirer (h.claims ++ h.second)) q h.displaced claims))

abbrev hears_tree : AcqConfig → Trace → List ℕ → Option ℕ → Tree
hears_tree c t bytes None = settles_tree c t (datagram bytes) []
hears_tree c t bytes (Some block) = again_tree c t bytes

hears_part : (c : AcqConfig) (t : Trace) (bytes : List ℕ) (asked : Option ℕ) (part : Part) → Hears c t bytes asked part → FollowsPart (hears_tree c t bytes asked) part
hears_part c t bytes None part s = settles_part c t (datagram bytes) [] part s
hears_part c t bytes (Some block) part h = again_part c t bytes part h

abbrev running_tree : AcqConfig → Trace → List ℕ → Bool → Tree
running_tree c t bytes false = ends (idles t)
running_tree c t bytes true = hears_tree c t bytes (asked_by (turn c t.inputs (datagram bytes)).need)

running_part : (c : AcqConfig) (t : Trace) (bytes : List ℕ) (running : Bool) (part : Part) → HearsIfRunning c t bytes running part → FollowsPart (running_tree c t bytes running) part
running_part c t bytes false part is = subst (FollowsPart (ends (idles t))) (sym is) (refl, refl)
running_part c t bytes true part h = hears_part c t bytes (asked_by (turn c t.inputs (datagram bytes)).need) part h

abbrev decoded_tree : AcqConfig → Trace → Result (List ℕ) FromHexError → Tree
decoded_tree c t (Ok bytes) = running_tree c t bytes ((board t).run == 1)
decoded_tree c t (Err e) = nowhere

-- ---- take, binfo, open and close

abbrev take_if_open : Trace → Option Opened → Tree
take_if_open t None = leaf t (refused_text (codes "take") (InvalidHandle shown.Closed))
take_if_open t (Some event) = take_tree t

take_part : (t : Trace) (event : Option Opened) (part : Part) → TakeIfOpen t event part → FollowsPart (take_if_open t event) part
take_part t None part is = subst (FollowsPart (take_if_open t None)) (sym is) (refl, refl)
take_part t (Some event) part (moment, inl takes) = acts_part t caller (takes.gets ++ takes.returns) _ (take_tree t) part takes.is (takes_follow t moment part takes)
take_part t (Some event) part (moment, inr none) = calls_part t _ _ (take_tree t) part none.calls (takes_none t moment none.refusal none.calls.events none.calls.kind)

abbrev binfo_text : Trace → ℕ → ℕ → ℕ → List ℕ
binfo_text t place generation which = value_text (codes "binfo") which (loan_value (filling_of (lying (contents_of t.entries) place)).rec which)

loan_part : (t : Trace) (place generation which : ℕ) (answer : Result (Unit {0}) GcError) (part : Part) → AsksLoan t (buffer place generation) which answer part → FollowsPart (loan_tree t (buffer place generation) (binfo_text t place generation which)) part
loan_part t place generation which (Ok done) part (borrows, returns, b, r, is) =
    acts_part t caller (borrows ++ returns) _ (loan_tree t (buffer place generation) (binfo_text t place generation which)) part is
    (loan_follows t (buffer place generation) (binfo_text t place generation which) borrows returns b r)
loan_part t place generation which (Err refusal) part calls =
    calls_part t _ _ (loan_tree t (buffer place generation) (binfo_text t place generation which)) part calls
    (no_loan_follows t (buffer place generation) (binfo_text t place generation which) refusal calls.events calls.kind)

abbrev asks_tree : Trace → ℕ → ℕ → ℕ → Bool → Tree
asks_tree t place generation which true = loan_tree t (buffer place generation) (binfo_text t place generation which)
asks_tree t place generation which false = binfo_tree t (buffer place generation) which

asks_part : (t : Trace) (place generation which : ℕ) (loan : Bool) (part : Part) → AsksBuffer t (buffer place generation) which loan part → FollowsPart (asks_tree t place generation which loan) part
asks_part t place generation which true part (answer, asked) = loan_part t place generation which answer part asked
asks_part t place generation which false part (answer, calls) =
    calls_part t _ _ (binfo_tree t (buffer place generation) which) part calls (binfo_follows t (buffer place generation) which answer calls.events calls.kind)

abbrev handles_leaf : Trace → Handles → List ℕ → Tree
handles_leaf t handles text = ends (record { entries = []; inputs = []; handles = handles; idle = 0; text = text; mode = t.mode; told_mode = t.told_mode })

abbrev stream_tree : Trace → ℕ → Bool → Tree
stream_tree t serial false = handles_leaf t (left_open t serial) (done_text (codes "close"))
stream_tree t serial true = closes_tree (handles_leaf t (left_open t serial) (done_text (codes "close")))

stream_part : (t : Trace) (serial : ℕ) (closes : Bool) (part : Part) → ClosesStream t serial closes part → FollowsPart (stream_tree t serial closes) part
stream_part t serial false part is = subst (FollowsPart (stream_tree t serial false)) (sym is) (refl, refl)
stream_part t serial true part (events, closes, is) =
    subst (FollowsPart (stream_tree t serial true)) (sym is) (closes_follow (handles_leaf t (left_open t serial) (done_text (codes "close"))) events _ closes (refl, refl))

abbrev close_tree : Trace → ℕ → Result (List ℕ) GcError → Tree
close_tree t serial (Ok closed) = stream_tree t serial (is_among closed (Some 4))
close_tree t serial (Err error) = handles_leaf t t.handles (refused_text (codes "close") error)

close_part : (t : Trace) (serial : ℕ) (answer : Result (List ℕ) GcError) (part : Part) → ClosesHandle t serial answer part → FollowsPart (close_tree t serial answer) part
close_part t serial (Ok closed) part h = stream_part t serial (is_among closed (Some 4)) part h
close_part t serial (Err error) part is = subst (FollowsPart (close_tree t serial (Err error))) (sym is) (refl, refl)

-- ---- step

abbrev step_answered : Trace → ℕ → Event → Tree
step_answered t k (Grab i g answer) = leaf t (step_line k (codes "grab") (grab_text answer))
step_answered t k (Lay i) = leaf t (step_line k (codes "lay") said.Done)
step_answered t k (Pool i) = leaf t (step_line k (codes "pool") said.Done)
step_answered t k (Fill i f filled) = leaf t (step_line k (codes "fill") (fill_text filled))
step_answered t k (Claim answer) = leaf t (step_line k (codes "claim") (claim_text answer))
step_answered t k (Take answer) = leaf t (step_line k (codes "take") (take_text answer))
step_answered t k (SweepPool pooled) = leaf t (step_line k (codes "sweep-pool") (said.Number (length pooled)))
step_answered t k (SweepOut output) = leaf t (step_line k (codes "sweep-out") (said.Number (length output)))
step_answered t k Close = leaf t (step_line k (codes "close") said.Done)
step_answered t k _ = nowhere

abbrev one_step : Trace → ℕ → Act → Tree
one_step t k a = asks k a (step_answered t k)

abbrev hand_tree : Trace → ℕ → Act → List ℕ → Bool → Tree
hand_tree t k a word true = one_step t k a
hand_tree t k a word false = leaf t (step_line k word said.NotHeld)

abbrev empty_fill_tree : Trace → ℕ → ℕ → Option Filling → Tree
empty_fill_tree t k i None = nowhere
empty_fill_tree t k i (Some f) = one_step t k (to_fill i f)

abbrev fill_step_tree : Trace → ℕ → ℕ → Bool → Tree
fill_step_tree t k i true = empty_fill_tree t k i (emptied (lying (contents_of t.entries) i))
fill_step_tree t k i false = leaf t (step_line k (codes "fill") said.NotHeld)

abbrev step_tree : Trace → ℕ → script_act.Act → ℕ → Tree
step_tree t k act.Grab i = one_step t k (to_grab i (word_at (board t) i).generation)
step_tree t k act.Lay i = hand_tree t k (to_lay i) (codes "lay") (is_in_hand (board t) k i)
step_tree t k act.Pool i = hand_tree t k (to_pool i) (codes "pool") (is_in_hand (board t) k i)
step_tree t k act.Fill i = fill_step_tree t k i (is_in_hand (board t) k i)
step_tree t k act.Claim i = one_step t k to_claim
step_tree t k act.Take i = one_step t k to_take
step_tree t k act.SweepPool i = one_step t k to_sweep_pool
step_tree t k act.SweepOut i = one_step t k to_sweep_out
step_tree t k act.Close i = one_step t k to_close

one_part : (t : Trace) (k : ℕ) (e : Event) (text : List ℕ) (part : Part) → part ≡ acts t k (e ∷ []) text → step_answered t k e ≡ leaf t text → FollowsPart (one_step t k (act_of e)) part
one_part t k e text part is at =
    acts_part t k (e ∷ []) text (one_step t k (act_of e)) part is
    (e, [], refl, refl, subst (λ tree. Follows tree [] (only_says t text)) (sym at) (refl, refl))

hand_part : (t : Trace) (k : ℕ) (e : Event) (word : List ℕ) (mine : Bool) (part : Part) → step_answered t k e ≡ leaf t (step_line k word said.Done) → StepInHand t k e word mine part → FollowsPart (hand_tree t k (act_of e) word mine) part
hand_part t k e word true part at is = one_part t k e _ part is at
hand_part t k e word false part at is = subst (FollowsPart (leaf t (step_line k word said.NotHeld))) (sym is) (refl, refl)

own_lay : (t : Trace) (k i : ℕ) (f : Filling) (filled : Bool) → k ≢ acquirer → FillsFrom (contents_of t.entries) (entries_of k (Fill i f filled ∷ [])) → Some f ≡ emptied (lying (contents_of t.entries) i)
own_lay t k i f filled apart (inl own, rest) = absurd (apart own)
own_lay t k i f filled apart (inr lay, rest) = lay

fill_part : (t : Trace) (k i : ℕ) (mine : Bool) (part : Part) → k ≢ acquirer → FillsFrom (contents_of t.entries) part.entries → FillStep t k i mine part → FollowsPart (fill_step_tree t k i mine) part
fill_part t k i true part apart from (f, filled, is) =
    let lay : Some f ≡ emptied (lying (contents_of t.entries) i)
    = own_lay t k i f filled apart (entries_fulfil (FillsFrom (contents_of t.entries)) t k (Fill i f filled ∷ []) _ part is from) in
    subst (λ o. FollowsPart (empty_fill_tree t k i o) part) lay (one_part t k (Fill i f filled) _ part is refl)
fill_part t k i false part apart from is = subst (FollowsPart (fill_step_tree t k i false)) (sym is) (refl, refl)

step_part : (t : Trace) (k : ℕ) (a : script_act.Act) (i : ℕ) (part : Part) → k ≢ acquirer → FillsFrom (contents_of t.entries) part.entries → StepBy t k a i part → FollowsPart (step_tree t k a i) part
step_part t k act.Grab i part apart from (answer, is) = one_part t k (Grab i (word_at (board t) i).generation answer) _ part is refl
step_part t k act.Lay i part apart from s = hand_part t k (Lay i) (codes "lay") (is_in_hand (board t) k i) part refl s
step_part t k act.Pool i part apart from s = hand_part t k (Pool i) (codes "pool") (is_in_hand (board t) k i) part refl s
step_part t k act.Fill i part apart from s = fill_part t k i (is_in_hand (board t) k i) part apart from s
step_part t k act.Claim i part apart from (answer, is) = one_part t k (Claim answer) _ part is refl
step_part t k act.Take i part apart from (answer, is) = one_part t k (Take answer) _ part is refl
step_part t k act.SweepPool i part apart from (pooled, is) = one_part t k (SweepPool pooled) _ part is refl
step_part t k act.SweepOut i part apart from (output, is) = one_part t k (SweepOut output) _ part is refl
step_part t k act.Close i part apart from is = one_part t k Close _ part is refl

-- ---- mode

abbrev mode_line_tree : Trace → ℕ → Bool → Tree
mode_line_tree t n true = leaf t (refused_text (codes "mode") (ResourceInUse shown.Closed))
mode_line_tree t n false = ends (sets_mode t (mode_of n))

mode_part : (t : Trace) (n : ℕ) (running : Bool) (part : Part) → ModeIfRunning t n running part → FollowsPart (mode_line_tree t n running) part
mode_part t n true part is = subst (FollowsPart (mode_line_tree t n true)) (sym is) (refl, refl)
mode_part t n false part is = subst (FollowsPart (mode_line_tree t n false)) (sym is) (refl, refl)

-- ---- all lines

abbrev pub line_tree : AcqConfig → Trace → ScriptLine → Tree
line_tree c t (line.header config) = nowhere
line_tree c t (line.announce size) = announce_tree t size
line_tree c t (line.queue place generation) = queue_tree t (buffer place generation)
line_tree c t (line.revoke place generation) = revoke_tree t (buffer place generation)
line_tree c t (line.flush operation) = flush_tree t operation
line_tree c t line.start = start_tree t
line_tree c t (line.stop flags) = stop_tree c t flags
line_tree c t (line.tick moment) = settles_tree c t (tick moment) (requests_text (turn c t.inputs (tick moment)).requests)
line_tree c t (line.datagram digits) = decoded_tree c t (decode_of digits)
line_tree c t line.take = take_if_open t (open_event t)
line_tree c t line.kill = kill_tree t
line_tree c t line.event_flush = discard_tree (leaf t (done_text (codes "event-flush")))
line_tree c t (line.info which) = info_tree t which
line_tree c t (line.buffer_info place generation which) = asks_tree t place generation which (is_of_loan which)
line_tree c t (line.open_child parent index) = handles_leaf t (with_opened t.handles (opening_handle t.handles parent index)) (opened_text (opening_handle t.handles parent index))
line_tree c t (line.close_all serial) = close_tree t serial (closing t.handles serial)
line_tree c t (line.step actor a place) = step_tree t actor a (unwrap_or place 0)
line_tree c t (line.mode n) = mode_line_tree t n ((board t).run == 1)
line_tree c t line.end_of_script = nowhere
line_tree c t line.camera_header = nowhere
line_tree c t (line.command peer digits) = nowhere
line_tree c t line.frame = nowhere

part_follows : (c : AcqConfig) (t : Trace) (l : ScriptLine) (part : Part) → IsByOther l → RunsFrom (board t) part.entries → FillsFrom (contents_of t.entries) part.entries → Spells c t l part → FollowsPart (line_tree c t l) part
part_follows c t (line.header config) part ok runs from s = absurd s
part_follows c t (line.announce size) part ok runs from (answer, some, calls) =
    calls_part t _ _ (announce_tree t size) part calls
    (announce_follows t (board t) size answer calls.events some (entries_fulfil (RunsFrom (board t)) t caller calls.events _ part calls.is runs) calls.kind)
part_follows c t (line.queue place generation) part ok runs from (answer, calls) =
    calls_part t _ _ (queue_tree t (buffer place generation)) part calls (queue_follows t (buffer place generation) answer calls.events calls.kind)
part_follows c t (line.revoke place generation) part ok runs from (answer, calls) =
    calls_part t _ _ (revoke_tree t (buffer place generation)) part calls (revoke_follows t (buffer place generation) answer calls.events calls.kind)
part_follows c t (line.flush operation) part ok runs from (answer, calls) =
    calls_part t _ _ (flush_tree t operation) part calls
    (flush_follows t operation answer calls.events (entries_fulfil (FillsFrom (contents_of t.entries)) t caller calls.events _ part calls.is from) calls.kind)
part_follows c t line.start part ok runs from (answer, calls, starts, restarts) = start_part t calls answer part starts restarts
part_follows c t (line.stop flags) part ok runs from (answer, calls, stops, settles) = stop_part c t flags calls answer part stops settles
part_follows c t (line.tick moment) part ok runs from s = settles_part c t (tick moment) _ part s
part_follows c t (line.datagram digits) part ok runs from (bytes, decoded, hears) =
    subst (λ d. FollowsPart (decoded_tree c t d) part) (sym decoded) (running_part c t bytes ((board t).run == 1) part hears)
part_follows c t line.take part ok runs from takes = take_part t (open_event t) part takes
part_follows c t line.kill part ok runs from calls = calls_part t _ _ (kill_tree t) part calls (kill_follows t calls.events calls.kind)
part_follows c t line.event_flush part ok runs from calls =
    calls_part t _ _ (discard_tree (leaf t (done_text (codes "event-flush")))) part calls (discards_follow (leaf t (done_text (codes "event-flush"))) calls.events _ calls.kind (refl, refl))
part_follows c t (line.info which) part ok runs from (answer, calls) = calls_part t _ _ (info_tree t which) part calls (info_follows t which answer calls.events calls.kind)
part_follows c t (line.buffer_info place generation which) part ok runs from asked = asks_part t place generation which (is_of_loan which) part asked
part_follows c t (line.open_child parent index) part ok runs from is = subst (FollowsPart (line_tree c t (line.open_child parent index))) (sym is) (refl, refl)
part_follows c t (line.close_all serial) part ok runs from closes = close_part t serial (closing t.handles serial) part closes
part_follows c t (line.step actor a place) part ok runs from steps =
    let few : actor ≤ 4 = ok in
    let apart : actor ≢ acquirer = λ e. omega (arith, e, few) in
    step_part t actor a (unwrap_or place 0) part apart from steps
part_follows c t (line.mode n) part ok runs from is = mode_part t n ((board t).run == 1) part is
part_follows c t line.end_of_script part ok runs from s = absurd s
part_follows c t line.camera_header part ok runs from s = absurd s
part_follows c t (line.command peer digits) part ok runs from s = absurd s
part_follows c t line.frame part ok runs from s = absurd s

pub line_follows : (c : AcqConfig) (t : Trace) (l : ScriptLine) (part : Part) → IsByOther l → AddsPart c t l part → FollowsPart (line_tree c t l) part
line_follows c t l part ok adds = part_follows c t l part ok adds.runs adds.fills adds.spells
