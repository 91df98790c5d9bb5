-- The headline of traces of scripts, and of any run whose fills are known.
use Rattle.std.proofs.Common.{◌≡◌, inl, inr, ℕ, ◌==◌, ◌≤◌, Bool, true, false, ◌||◌, cond, List, [], ◌∷◌, ◌++◌, refl, sym, ap, subst, ◌∙◌, append_assoc}
use Rattle.std.specs.List.{All, AllByRecursion}
use Rattle.std.proofs.lemmas.Bool.{eq-eqb}
use Rattle.std.proofs.lemmas.List.Elements.{All-from_recursion, recursion_from_All}
use Rattle.stream_packets.specs.Packets.{StreamPacket}
use Rattle.stream_packets.specs.Sent.{IsSent}
use Rattle.acquisition_machine.specs.Machine.{Input}
use Rattle.acquisition_machine.specs.Runs.{packets_in}
use Rattle.acquisition_machine.proofs.Joining.{packets_in-append}
use Rattle.board_machine.specs.declared.events.Entry.{Entry}
use Rattle.board_machine.specs.declared.events.Event.{Event}
use Rattle.board_machine.specs.declared.events.Event.TheVariants.{Fill}
use Rattle.board_machine.specs.Machine.{Item, item}
use Rattle.board_machine.specs.Histories.{own_of}
use Rattle.board_machine.specs.Handout.{filled_by, filled}
use Rattle.board_machine.proofs.Forms.{prefix_cases}
use Rattle.board_machine.proofs.Handouts.{run_legal}
use Rattle.board_calls.specs.Dropped.{others}
use Rattle.acquisition_machine.specs.declared.config.AcqConfig.{AcqConfig}
use Rattle.acquisition_machine.proofs.Order.{all_append, all_front, all_back, all_weaker}
use Rattle.block_fills.specs.Fills.{tried_by, tried, IsRetired, IsHandedSo}
use Rattle.block_fills.proofs.Acquisitions.{retired_blocks}
use Rattle.script_trace.specs.Trace.{acquirer}
use Rattle.script_trace.specs.Fills.{FillsEmpty, IsEmptyElse}
use Rattle.script_trace.proofs.Handing.{taken_all}
use Rattle.live_promises.specs.Headline.{Acquirer, is_acquirer, FillsItsBlocks, FillsAsAcquirer, FillsByAcquirers, IsBlockOf, HoldsBlock}
use Rattle.live_promises.specs.HeadlineLaws.{receiver_of, TracesKeepHeadline, FillsWhatRetires, RunsKeepHeadline, BlocksHoldFrames}

-- ---- scripts

one_handed : (c : AcqConfig) (a : Acquirer) (x : Item) → IsHandedSo c a.inputs x → HoldsBlock c (a ∷ []) x
one_handed c a x (inl is) = inl (inl is)
one_handed c a x (inr none) = inr none

-- the acquisition is the one acquirer of a script
one_acquires : (inputs : List Input) (k : ℕ) (event : Event) → FillsEmpty k event → FillsAsAcquirer (record { actor = acquirer; inputs = inputs } ∷ []) k event
one_acquires inputs k (Fill i f filled) (inl own) = inl (eq-eqb k acquirer own)
one_acquires inputs k (Fill i f filled) (inr none) = inr none
one_acquires inputs k _ fills = tt

all_acquire : (inputs : List Input) (h : List Entry) → AllByRecursion IsEmptyElse h → FillsByAcquirers (record { actor = acquirer; inputs = inputs } ∷ []) h
all_acquire inputs [] empty = tt
all_acquire inputs (e ∷ h) empty = (one_acquires inputs e.by e.event empty.0, all_acquire inputs h empty.1)

pub traces_headline : TracesKeepHeadline
traces_headline c t keeps = record {
  run = keeps.run;
  owned = keeps.owned;
  legal = keeps.legal;
  fills = (record { retired = keeps.retired; blocks = keeps.blocks }, tt);
  others = all_acquire t.inputs t.entries keeps.others;
  handed = all_weaker (IsHandedSo c t.inputs) (HoldsBlock c (receiver_of t ∷ [])) (λ x so. one_handed c (receiver_of t) x so) _ keeps.handed;
}

-- ---- what an acquirer filled holds its blocks

abbrev OwnAre : AcqConfig → List Entry → Acquirer → Type 0
OwnAre c h a = AllByRecursion (IsRetired c a.inputs) (tried (own_of a.actor h))

-- the first entry's, where it's the acquirer's
abbrev FirstIs : AcqConfig → ℕ → Event → Acquirer → Type 0
FirstIs c k event a = (k == a.actor) ≡ true → AllByRecursion (IsRetired c a.inputs) (tried_by event)

first_by : (P : Item → Type 0) (e : Entry) (own : List Entry) (mine : Bool) → mine ≡ true → AllByRecursion P (tried (cond mine (e ∷ own) own)) → AllByRecursion P (tried_by e.event)
first_by P e own true yes_it all = all_front P (tried_by e.event) (tried own) all
first_by P e own false yes_it all = absurd (cc)

later_by : (P : Item → Type 0) (e : Entry) (own : List Entry) (mine : Bool) → AllByRecursion P (tried (cond mine (e ∷ own) own)) → AllByRecursion P (tried own)
later_by P e own true all = all_back P (tried_by e.event) (tried own) all
later_by P e own false all = all

firsts : (c : AcqConfig) (e : Entry) (h : List Entry) (acquirers : List Acquirer) → AllByRecursion (OwnAre c (e ∷ h)) acquirers → AllByRecursion (FirstIs c e.by e.event) acquirers
firsts c e h acquirers all =
    all_weaker (OwnAre c (e ∷ h)) (FirstIs c e.by e.event) (λ a own mine. first_by (IsRetired c a.inputs) e (own_of a.actor h) (e.by == a.actor) mine own) acquirers all

laters : (c : AcqConfig) (e : Entry) (h : List Entry) (acquirers : List Acquirer) → AllByRecursion (OwnAre c (e ∷ h)) acquirers → AllByRecursion (OwnAre c h) acquirers
laters c e h acquirers all =
    all_weaker (OwnAre c (e ∷ h)) (OwnAre c h) (λ a own. later_by (IsRetired c a.inputs) e (own_of a.actor h) (e.by == a.actor) own) acquirers all

-- ---- all that was filled

found : (c : AcqConfig) (acquirers : List Acquirer) (k i : ℕ) (f : _) (filled : Bool) → AllByRecursion (FirstIs c k (Fill i f filled)) acquirers → is_acquirer acquirers k ≡ true → IsBlockOf c acquirers (item i f)
found c [] k i f filled all is = absurd (cc)
found c (a ∷ acquirers) k i f filled all is = go (is_acquirer acquirers k) (k == a.actor) (λ so. found c acquirers k i f filled all.1 so) refl refl is
  where
    go : (other mine : Bool) → (is_acquirer acquirers k ≡ true → IsBlockOf c acquirers (item i f)) → is_acquirer acquirers k ≡ other → (k == a.actor) ≡ mine → (other || mine) ≡ true
        → IsBlockOf c (a ∷ acquirers) (item i f)
    go true mine rest so own either = inr (rest so)
    go false true rest so own either = inl (all.0 own).0
    go false false rest so own either = absurd (cc)

first_holds : (c : AcqConfig) (acquirers : List Acquirer) (k : ℕ) (event : Event) → AllByRecursion (FirstIs c k event) acquirers → FillsAsAcquirer acquirers k event → AllByRecursion (HoldsBlock c acquirers) (filled_by event)
first_holds c acquirers k (Fill i f true) all (inl is) = (inl (found c acquirers k i f true all is), tt)
first_holds c acquirers k (Fill i f true) all (inr none) = (inr none, tt)
first_holds c acquirers k (Fill i f false) all by = tt
first_holds c acquirers k _ all by = tt

filled_hold : (c : AcqConfig) (acquirers : List Acquirer) (h : List Entry) → AllByRecursion (OwnAre c h) acquirers → FillsByAcquirers acquirers h → AllByRecursion (HoldsBlock c acquirers) (filled h)
filled_hold c acquirers [] all by = tt
filled_hold c acquirers (e ∷ h) all by =
    all_append (HoldsBlock c acquirers) (filled_by e.event) (filled h) (first_holds c acquirers e.by e.event (firsts c e h acquirers all) by.0) (filled_hold c acquirers h (laters c e h acquirers all) by.1)

-- ---- any run

own_blocks : (c : AcqConfig) (h : List Entry) (a : Acquirer) → 1 ≤ c.window → FillsWhatRetires c h a → FillsItsBlocks c h a
own_blocks c h a some fills = record {
  retired = fills.retired;
  blocks = subst (λ l. AllByRecursion (IsRetired c a.inputs) l) (sym fills.retired) (retired_blocks c a.inputs some fills.clean);
}

pub runs_headline : RunsKeepHeadline
runs_headline c acquirers h some run fills by = record {
  run = run;
  owned = λ front rest is. prefix_cases h front rest run is;
  legal = run_legal h run;
  fills = blocks;
  others = by;
  handed = taken_all (HoldsBlock c acquirers) (others (is_acquirer acquirers)) h
      (filled_hold c acquirers h (all_weaker (FillsItsBlocks c h) (OwnAre c h) (λ a its. its.blocks) acquirers blocks) by);
}
  where
    blocks : AllByRecursion (FillsItsBlocks c h) acquirers
    blocks = all_weaker (FillsWhatRetires c h) (FillsItsBlocks c h) (λ a its. own_blocks c h a some its) acquirers fills

-- ---- frames

-- what holds of all packets of some inputs holds of those of a part
part_sent : (P : StreamPacket → Type 0) (front part back : List Input) → All P (packets_in (front ++ (part ++ back))) → All P (packets_in part)
part_sent P front part back all =
    All-from_recursion P (packets_in part)
    (all_front P (packets_in part) (packets_in back)
    (subst (λ l. AllByRecursion P l) (packets_in-append part back)
    (all_back P (packets_in front) (packets_in (part ++ back))
    (subst (λ l. AllByRecursion P l) (packets_in-append front (part ++ back)) (recursion_from_All P (packets_in (front ++ (part ++ back))) all)))))

pub blocks_frames : BlocksHoldFrames
blocks_frames frames c inputs x r sent = record {
  retired = r;
  holds = r.holds frames (record {
    are_frames = sent.are_frames;
    payload_size = sent.payload_size;
    sent = part_sent (IsSent frames c.p) r.before (r.since ++ r.last ∷ []) r.rest
        (subst (λ q. All (IsSent frames c.p) (packets_in q)) (r.parts ∙ (append_assoc r.before r.since (r.last ∷ r.rest) ∙ ap (λ l. r.before ++ l) (sym (append_assoc r.since (r.last ∷ []) r.rest)))) sent.sent);
  });
}
