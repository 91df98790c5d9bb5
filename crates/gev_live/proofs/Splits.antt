-- Passes that were split off for the lanes, one after another.
use Rattle.std.proofs.Common.{◌≡◌, Bool, true, ℕ, suc, List, [], ◌∷◌, ◌++◌, length, refl, sym, ap, subst, ◌∙◌, append_assoc}
use Rattle.std.proofs.lemmas.List.{append-nil}
use Rattle.atomic_table.specs.Seated.{TableId}
use Rattle.board_machine.specs.declared.events.Entry.{Entry}
use Rattle.board_machine.specs.declared.events.Event.{Event}
use Rattle.board_machine.specs.declared.events.Event.TheVariants.{Split}
use Rattle.acq_core.specs.Receiver.{config_of}
use Rattle.buffer_words.specs.Passes.{Token}
use Rattle.buffer_words.specs.Workers.{Worker, Hosts}
use Rattle.buffer_words.proofs.Working.{hosts_splits}
use Rattle.gev_lanes.specs.declared.parts.LaneQueues.{LaneQueues}
use Rattle.gev_lanes.specs.declared.parts.ReaderLane.{ReaderLane}
use Rattle.gev_lanes.specs.Sides.{LaneEnd, IsLaneAt, AreNew}
use Rattle.lane_crew.specs.declared.lane_tools.LaneTools.{LaneTools}
use Rattle.lane_crew.specs.Tools.{IsReady, AreReady, ends_in}
use Rattle.live_crew.specs.HomeLaws.{SplitsEach}
use Rattle.gev_live.specs.Told.{IsNewReceiver}
use Rattle.gev_live.specs.LanesMade.{NewPart, IsNewPart, AreNewParts, ends_of, IsSplit, AreSplit, numbers_in, AreLiveTools}

pub split_last : (board : TableId) (ps : List NewPart) (s : Token) (xs : List LaneTools) (t : Token) (p : NewPart) (x : LaneTools) (u : Token)
    → AreSplit board ps s xs t → IsSplit board p t x u → AreSplit board (ps ++ p ∷ []) s (xs ++ x ∷ []) u
split_last board [] s [] t p x u none last = (u, subst (λ v. IsSplit board p v x u) none last, refl)
split_last board [] s (y ∷ xs) t p x u none last = absurd none
split_last board (q ∷ ps) s [] t p x u none last = absurd none
split_last board (q ∷ ps) s (y ∷ xs) t p x u each last = (each.0, each.1, split_last board ps each.0 xs t p x u each.2 last)

pub splits_each : (board : TableId) (ps : List NewPart) (s : Token) (xs : List LaneTools) (u : Token) → AreSplit board ps s xs u → SplitsEach s (numbers_in xs) u
splits_each board [] s [] u none = none
splits_each board [] s (x ∷ xs) u none = absurd none
splits_each board (p ∷ ps) s [] u none = absurd none
splits_each board (p ∷ ps) s (x ∷ xs) u each = (each.0, each.1.splits, splits_each board ps each.0 xs u each.2)

pub ends_same : (board : TableId) (ps : List NewPart) (s : Token) (xs : List LaneTools) (u : Token) → AreSplit board ps s xs u → ends_in xs ≡ ends_of ps
ends_same board [] s [] u none = refl
ends_same board [] s (x ∷ xs) u none = absurd none
ends_same board (p ∷ ps) s [] u none = absurd none
ends_same board (p ∷ ps) s (x ∷ xs) u each =
    ap (λ e. e ∷ ends_in xs) each.1.ends ∙ ap (λ l. p.0 ∷ l) (ends_same board ps each.0 xs u each.2)

pub as_many : (board : TableId) (ps : List NewPart) (s : Token) (xs : List LaneTools) (u : Token) → AreSplit board ps s xs u → length xs ≡ length ps
as_many board [] s [] u none = refl
as_many board [] s (x ∷ xs) u none = absurd none
as_many board (p ∷ ps) s [] u none = absurd none
as_many board (p ∷ ps) s (x ∷ xs) u each = ap suc (as_many board ps each.0 xs u each.2)

one_ready : (board : TableId) (qs : List LaneQueues) (p : NewPart) (s : Token) (x : LaneTools) (t : Token) → IsNewPart qs p → IsSplit board p s x t → IsReady board qs x
one_ready board qs p s x t new split = record {
  table = split.table;
  unborn = split.unborn;
  empty = split.empty;
  lane = subst (λ e. IsLaneAt qs e) (sym split.ends) new.lane;
  new = receiver.stands;
  fills = receiver.fills;
  requests = receiver.requests;
  buffers_none = receiver.buffers_none;
}
  where
    receiver : IsNewReceiver x.acq
    receiver = subst (λ a. IsNewReceiver a) (sym split.acq) new.receiver

pub are_ready : (board : TableId) (qs : List LaneQueues) (ps : List NewPart) (s : Token) (xs : List LaneTools) (u : Token) → AreNewParts qs ps → AreSplit board ps s xs u → AreReady board qs xs
are_ready board qs [] s [] u new none = tt
are_ready board qs [] s (x ∷ xs) u new none = absurd none
are_ready board qs (p ∷ ps) s [] u new none = absurd none
are_ready board qs (p ∷ ps) s (x ∷ xs) u new each = (one_ready board qs p s x each.0 new.0 each.1, are_ready board qs ps each.0 xs u new.1 each.2)

pub are_live : (board : TableId) (qs : List LaneQueues) (ps : List NewPart) (s : Token) (xs : List LaneTools) (u : Token) → AreNewParts qs ps → AreSplit board ps s xs u → AreLiveTools xs
are_live board qs [] s [] u new none = tt
are_live board qs [] s (x ∷ xs) u new none = absurd none
are_live board qs (p ∷ ps) s [] u new none = absurd none
are_live board qs (p ∷ ps) s (x ∷ xs) u new each = (ap config_of each.1.acq ∙ new.0.receiver.config, are_live board qs ps each.0 xs u new.1 each.2)

-- ---- counts

pub new_count : (k : ℕ) (qs : List LaneQueues) (ss : List ReaderLane) (es : List LaneEnd) → AreNew k qs ss es → length es ≡ length qs
new_count k [] [] [] new = refl
new_count k [] [] (e ∷ es) new = absurd new
new_count k [] (s ∷ ss) [] new = absurd new
new_count k [] (s ∷ ss) (e ∷ es) new = absurd new
new_count k (q ∷ qs) [] [] new = absurd new
new_count k (q ∷ qs) [] (e ∷ es) new = absurd new
new_count k (q ∷ qs) (s ∷ ss) [] new = absurd new
new_count k (q ∷ qs) (s ∷ ss) (e ∷ es) new = ap suc (new_count (suc k) qs ss es new.1)

pub ends_count : (ps : List NewPart) → length (ends_of ps) ≡ length ps
ends_count [] = refl
ends_count (p ∷ ps) = ap suc (ends_count ps)

pub numbers_count : (xs : List LaneTools) → length (numbers_in xs) ≡ length xs
numbers_count [] = refl
numbers_count (x ∷ xs) = ap suc (numbers_count xs)

-- ---- the host

pub hosts_split_each : (front : List Entry) (kind : Event → Bool) (s u : Token) (away : List ℕ) (home : List Worker) (ns : List ℕ) → ((n : ℕ) → kind (Split n) ≡ true)
    → Hosts front kind s away home → SplitsEach s ns u → Hosts front kind u (away ++ ns) home
hosts_split_each front kind s u away home [] is hosts none =
    subst (λ l. Hosts front kind u l home) (sym (append-nil away)) (subst (λ t. Hosts front kind t away home) (sym none) hosts)
hosts_split_each front kind s u away home (n ∷ ns) is hosts each =
    subst (λ l. Hosts front kind u l home) (append_assoc away (n ∷ []) ns)
    (hosts_split_each front kind each.0 u (away ++ n ∷ []) home ns is (hosts_splits front kind s each.0 away home n hosts (is n) each.1) each.2)
