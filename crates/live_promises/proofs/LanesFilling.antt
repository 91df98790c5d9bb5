-- Nobody fills buffers but the lanes.
use Rattle.std.proofs.Common.{◌≡◌, ◌⊎◌, inl, inr, ℕ, suc, ◌==◌, ◌≤◌, Bool, true, false, ◌||◌, cond, List, [], ◌∷◌, ◌++◌, refl, sym, ap, subst, ◌∙◌, arith, eq-eqb}
use Rattle.std.specs.Prelude.{⊤}
use Rattle.std.specs.List.{AllByRecursion}
use Rattle.board_machine.specs.declared.events.Entry.{Entry}
use Rattle.board_machine.specs.declared.events.Event.{Event}
use Rattle.board_machine.specs.declared.events.Event.TheVariants.{Fill}
use Rattle.board_machine.specs.Machine.{Item}
use Rattle.board_machine.specs.Places.{times}
use Rattle.board_machine.specs.Histories.{own_of}
use Rattle.board_machine.specs.Handout.{filled_by, filled}
use Rattle.board_machine.specs.Adding.{entries_of}
use Rattle.acquisition_machine.specs.declared.config.AcqConfig.{AcqConfig}
use Rattle.acquisition_machine.specs.Machine.{Input, stop}
use Rattle.acquisition_machine.specs.Runs.{first_state}
use Rattle.acquisition_machine.proofs.Order.{all_append, all_front, all_back, all_weaker}
use Rattle.block_fills.specs.Fills.{tried_by, tried, IsRetired}
use Rattle.block_fills.proofs.Acquisitions.{retired_blocks}
use Rattle.buffer_words.specs.Workers.{AreEvents, OnlyBy}
use Rattle.board_calls.specs.declared.mode.Mode.{Mode}
use Rattle.gev_lanes.specs.declared.parts.ReaderLane.{ReaderLane}
use Rattle.gev_lanes.specs.Sides.{LaneEnd}
use Rattle.lane_reader.specs.LanesTurns.{ReaderTurn}
use Rattle.lane_crew.specs.Cells.{inputs_in}
use Rattle.gev_live.specs.Kinds.{is_filling}
use Rattle.gev_live.specs.History.{live_size}
use Rattle.gev_live.proofs.Quiet.{is_beginning, beginning_are}
use Rattle.gev_live.proofs.Splitting.{member_or}
use Rattle.live_promises.specs.Headline.{Acquirer, is_acquirer, FillsAsAcquirer, FillsByAcquirers, IsBlockOf}
use Rattle.live_promises.specs.HeadlineLaws.{FillsWhatRetires}
use Rattle.gev_live.specs.LanesHistory.{LanesCrew, LanesHistory}
use Rattle.gev_live.specs.LanesParts.{LanesShare}
use Rattle.live_promises.specs.LanesPromises.{acquirers_in}
use Rattle.live_promises.proofs.LanesSending.{cells_clean}

-- ---- by whom the fills are

-- the event is no fill, or one of these actors'
abbrev FillsAs : List ℕ → ℕ → Event → Type 0
FillsAs ks by (Fill i f filled) = 1 ≤ times by ks
FillsAs ks by _ = ⊤

abbrev pub FillsAmong : List ℕ → List Entry → Type 0
FillsAmong ks h = AllByRecursion (λ (e : Entry). FillsAs ks e.by e.event) h

begins_not : (ks : List ℕ) (by : ℕ) (event : Event) → is_beginning event ≡ true → FillsAs ks by event
begins_not ks by (Fill i f filled) is = absurd (cc)
begins_not ks by _ is = tt

beginning_not : (ks : List ℕ) (by : ℕ) (es : List Event) → AreEvents is_beginning es → FillsAmong ks (entries_of by es)
beginning_not ks by [] are = tt
beginning_not ks by (e ∷ es) are = (begins_not ks by e are.0, beginning_not ks by es are.1)

one_among : (ks : List ℕ) (by : ℕ) (event : Event) → (is_filling event ≡ true → 1 ≤ times by ks) → FillsAs ks by event
one_among ks by (Fill i f filled) only = only refl
one_among ks by _ only = tt

since_among : (ks : List ℕ) (es : List Entry) → OnlyBy is_filling ks es → FillsAmong ks es
since_among ks [] only = tt
since_among ks (e ∷ es) only = (one_among ks e.by e.event only.0, since_among ks es only.1)

pub lanes_alone : (mode : Mode) (buffers : ℕ) (k : LanesCrew) (h : List Entry) → LanesHistory mode buffers k h → FillsAmong k.lanes h
lanes_alone mode buffers k h history =
    subst (FillsAmong k.lanes) (sym history.begins)
    (all_append (λ (e : Entry). FillsAs k.lanes e.by e.event) (entries_of 0 history.prepared) history.since
    (beginning_not k.lanes 0 history.prepared (beginning_are live_size buffers history.prepared history.prepares)) (since_among k.lanes history.since history.fills))

-- ---- as acquirers

or_true : (b : Bool) → (b || true) ≡ true
or_true true = refl
or_true false = refl

or_first : (b other : Bool) → b ≡ true → (b || other) ≡ true
or_first true other is = refl
or_first false other is = absurd (cc)

module _ (mode : Mode) (c : AcqConfig) (n : ℕ) (made : List ReaderTurn) (sides : List ReaderLane) (h : List Entry) where
  pub is_lane : (k : ℕ) (lanes : List ℕ) (ends : List LaneEnd) (shares : LanesShare mode c n k lanes made sides ends h) (i : ℕ) → 1 ≤ times i lanes → is_acquirer (acquirers_in mode c n k lanes made sides ends h shares) i ≡ true
  is_lane k [] ends shares i member = absurd (omega (arith, member))
  is_lane k (a ∷ lanes) [] shares i member = absurd shares
  is_lane k (a ∷ lanes) (e ∷ es) shares i member = go (member_or i a lanes member) (λ more. is_lane (suc k) lanes es shares.1 i more)
    where
      go : (i ≡ a) ⊎ (1 ≤ times i lanes) → (1 ≤ times i lanes → is_acquirer (acquirers_in mode c n (suc k) lanes made sides es h shares.1) i ≡ true)
          → (is_acquirer (acquirers_in mode c n (suc k) lanes made sides es h shares.1) i || (i == a)) ≡ true
      go (inl is) rest = ap (λ b. is_acquirer (acquirers_in mode c n (suc k) lanes made sides es h shares.1) i || b) (eq-eqb i a is) ∙ or_true (is_acquirer (acquirers_in mode c n (suc k) lanes made sides es h shares.1) i)
      go (inr more) rest = or_first (is_acquirer (acquirers_in mode c n (suc k) lanes made sides es h shares.1) i) (i == a) (rest more)

  pub lanes_fill : (k : ℕ) (lanes : List ℕ) (ends : List LaneEnd) (shares : LanesShare mode c n k lanes made sides ends h) → AllByRecursion (FillsWhatRetires c h) (acquirers_in mode c n k lanes made sides ends h shares)
  lanes_fill k [] ends shares = tt
  lanes_fill k (a ∷ lanes) [] shares = absurd shares
  lanes_fill k (a ∷ lanes) (e ∷ es) shares = (record { clean = cells_clean c first_state shares.0.served; retired = shares.0.fills }, lanes_fill (suc k) lanes es shares.1)

  -- what a lane put into the output are blocks of its machine
  pub lane_blocks : (k : ℕ) (lanes : List ℕ) (ends : List LaneEnd) (shares : LanesShare mode c n k lanes made sides ends h) → 1 ≤ c.window → (i : ℕ) → 1 ≤ times i lanes
      → AllByRecursion (IsBlockOf c (acquirers_in mode c n k lanes made sides ends h shares)) (tried (own_of i h))
  lane_blocks k [] ends shares some i member = absurd (omega (arith, member))
  lane_blocks k (a ∷ lanes) [] shares some i member = absurd shares
  lane_blocks k (a ∷ lanes) (e ∷ es) shares some i member = go (member_or i a lanes member) (λ more. lane_blocks (suc k) lanes es shares.1 some i more)
    where
      q : List Input
      q = inputs_in shares.0.served ++ stop ∷ []

      all : List Acquirer
      all = acquirers_in mode c n k (a ∷ lanes) made sides (e ∷ es) h shares

      rest_of : List Acquirer
      rest_of = acquirers_in mode c n (suc k) lanes made sides es h shares.1

      go : (i ≡ a) ⊎ (1 ≤ times i lanes) → (1 ≤ times i lanes → AllByRecursion (IsBlockOf c rest_of) (tried (own_of i h))) → AllByRecursion (IsBlockOf c all) (tried (own_of i h))
      go (inl is) rest =
          subst (λ j. AllByRecursion (IsBlockOf c all) (tried (own_of j h))) (sym is)
          (all_weaker (IsRetired c q) (IsBlockOf c all) (λ x its. inl its) (tried (own_of a h))
          (subst (λ l. AllByRecursion (IsRetired c q) l) (sym shares.0.fills) (retired_blocks c q some (cells_clean c first_state shares.0.served))))
      go (inr more) rest = all_weaker (IsBlockOf c rest_of) (IsBlockOf c all) (λ x its. inr its) (tried (own_of i h)) (rest more)

one_acquires : (acquirers : List Acquirer) (ks : List ℕ) (by : ℕ) (event : Event) → ((i : ℕ) → 1 ≤ times i ks → is_acquirer acquirers i ≡ true) → FillsAs ks by event → FillsAsAcquirer acquirers by event
one_acquires acquirers ks by (Fill i f filled) are own = inl (are by own)
one_acquires acquirers ks by _ are own = tt

pub all_acquire : (acquirers : List Acquirer) (ks : List ℕ) (h : List Entry) → ((i : ℕ) → 1 ≤ times i ks → is_acquirer acquirers i ≡ true) → FillsAmong ks h → FillsByAcquirers acquirers h
all_acquire acquirers ks [] are among = tt
all_acquire acquirers ks (e ∷ h) are among = (one_acquires acquirers ks e.by e.event are among.0, all_acquire acquirers ks h are among.1)

-- ---- all that was filled is theirs

first_by : (P : Item → Type 0) (e : Entry) (own : List Entry) (mine : Bool) → mine ≡ true → AllByRecursion P (tried (cond mine (e ∷ own) own)) → AllByRecursion P (tried_by e.event)
first_by P e own true it_is all = all_front P (tried_by e.event) (tried own) all
first_by P e own false it_is all = absurd (cc)

later_by : (P : Item → Type 0) (e : Entry) (own : List Entry) (mine : Bool) → AllByRecursion P (tried (cond mine (e ∷ own) own)) → AllByRecursion P (tried own)
later_by P e own true all = all_back P (tried_by e.event) (tried own) all
later_by P e own false all = all

fill_here : (P : Item → Type 0) (ks : List ℕ) (by : ℕ) (event : Event) → FillsAs ks by event → (1 ≤ times by ks → AllByRecursion P (tried_by event)) → AllByRecursion P (filled_by event)
fill_here P ks by (Fill i f true) among own = own among
fill_here P ks by (Fill i f false) among own = tt
fill_here P ks by _ among own = tt

pub filled_all : (P : Item → Type 0) (ks : List ℕ) (h : List Entry) → FillsAmong ks h → ((i : ℕ) → 1 ≤ times i ks → AllByRecursion P (tried (own_of i h))) → AllByRecursion P (filled h)
filled_all P ks [] among own = tt
filled_all P ks (e ∷ h) among own =
    all_append P (filled_by e.event) (filled h)
    (fill_here P ks e.by e.event among.0 (λ member. first_by P e (own_of e.by h) (e.by == e.by) (eq-eqb e.by e.by refl) (own e.by member)))
    (filled_all P ks h among.1 (λ i member. later_by P e (own_of i h) (e.by == i) (own i member)))
