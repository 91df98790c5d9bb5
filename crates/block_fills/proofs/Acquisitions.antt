-- Each block that retires belongs to one acquisition, whose datagrams alone it holds.
use Rattle.std.proofs.Common.{◌≡◌, inl, inr, ℕ, ◌≤◌, List, [], ◌∷◌, ◌++◌, map, refl, sym, ap, subst, ◌∙◌, append_assoc, append-nil}
use Rattle.std.specs.Prelude.{Option, Some, None}
use Rattle.std.specs.List.{AllByRecursion}
use Rattle.gev_types.specs.declared.frame.Frame.{Frame}
use Rattle.block_image.specs.OneBlock.{AreSent}
use Rattle.board_machine.specs.Machine.{Item, item}
use Rattle.acquisition_machine.specs.declared.config.AcqConfig.{AcqConfig}
use Rattle.acquisition_machine.specs.Blocks.{Given, Retirement, filling_in, fills, fill_of}
use Rattle.acquisition_machine.specs.Machine.{Input, State, step, datagram, claimed, tick, stop, restart}
use Rattle.acquisition_machine.specs.Runs.{first_state, After, after_from, turn, retired_from, packets_in}
use Rattle.acquisition_machine.specs.Laws.{HasNoRestart}
use Rattle.acquisition_machine.specs.FrameLaws.{IsSince, HoldsIfGiven}
use Rattle.acquisition_machine.proofs.Joining.{after_from-append}
use Rattle.acquisition_machine.proofs.Order.{all_append, all_both, all_weaker}
use Rattle.acquisition_machine.proofs.Frames.{fills_keep_frames}
use Rattle.acquisition_machine.proofs.Since.{retired_heard_what_came}
use Rattle.block_fills.specs.Fills.{item_of, retired_items, IsBeginning, IsAmong, IsRetired}
use Rattle.block_fills.specs.Laws.{StartsClean}
use Rattle.block_fills.proofs.Tries.{items-append, fills-append}

-- ---- lists

-- each member is among all
among_all : (whole front rs : List Retirement) → whole ≡ front ++ rs → AllByRecursion (IsAmong whole) rs
among_all whole front [] is = tt
among_all whole front (r ∷ rs) is = (
  record { front = front; back = rs; is = is },
  among_all whole (front ++ r ∷ []) rs (is ∙ sym (append_assoc front (r ∷ []) rs)),
)

-- what holds of each member under each map of frames
swapped : (S : (ℕ → Option Frame) → Type 0) (P : (ℕ → Option Frame) → Retirement → Type 0) (rs : List Retirement) → ((f : ℕ → Option Frame) → S f → AllByRecursion (P f) rs) → AllByRecursion (λ r. (f : ℕ → Option Frame) → S f → P f r) rs
swapped S P [] h = tt
swapped S P (r ∷ rs) h = ((λ f s. (h f s).0), swapped S P rs (λ f s. (h f s).1))

-- what a retirement gives holds of its item
abbrev OfItem : ℕ → (Item → Type 0) → Retirement → Type 0
OfItem p P r = (g : Given) → r.was.given ≡ Some g → P (item g.place (filling_in p r g))

item_all : (p : ℕ) (P : Item → Type 0) (r : Retirement) (given : Option Given) → r.was.given ≡ given → OfItem p P r → AllByRecursion P (map item_of (fill_of p r given))
item_all p P r None is h = tt
item_all p P r (Some g) is h = (h g is, tt)

items_all : (p : ℕ) (P : Item → Type 0) (rs : List Retirement) → AllByRecursion (OfItem p P) rs → AllByRecursion P (map item_of (fills p rs))
items_all p P [] h = tt
items_all p P (r ∷ rs) h =
    subst (λ l. AllByRecursion P l) (sym (items-append (fill_of p r r.was.given) (fills p rs)))
    (all_append P (map item_of (fill_of p r r.was.given)) (map item_of (fills p rs)) (item_all p P r r.was.given refl h.0) (items_all p P rs h.1))

no_restarts : (q r : List Input) → HasNoRestart q → HasNoRestart r → HasNoRestart (q ++ r)
no_restarts [] r a b = b
no_restarts (datagram bytes ∷ q) r a b = no_restarts q r a b
no_restarts (claimed given ∷ q) r a b = no_restarts q r a b
no_restarts (tick moment ∷ q) r a b = no_restarts q r a b
no_restarts (stop ∷ q) r a b = no_restarts q r a b
no_restarts (restart ∷ q) r a b = absurd a

pub starts-append : (c : AcqConfig) (s : State) (q r : List Input) → StartsClean c s q → StartsClean c (after_from c s q) r → StartsClean c s (q ++ r)
starts-append c s [] r a b = b
starts-append c s (datagram bytes ∷ q) r a b = starts-append c (step c s (datagram bytes)).after q r a b
starts-append c s (claimed given ∷ q) r a b = starts-append c (step c s (claimed given)).after q r a b
starts-append c s (tick moment ∷ q) r a b = starts-append c (step c s (tick moment)).after q r a b
starts-append c s (stop ∷ q) r a b = starts-append c (step c s stop).after q r a b
starts-append c s (restart ∷ q) r a b = (a.0, starts-append c (step c s restart).after q r a.1 b)

-- ---- one input

-- how far one acquisition has come
record Begun (c : AcqConfig) (whole before since : List Input) : Type 0 where
  some : 1 ≤ c.window
  begins : IsBeginning before
  none_open : (After c before).opens ≡ []
  one : HasNoRestart since

-- what is known of each retirement
record Known (c : AcqConfig) (before since : List Input) (i : Input) (r : Retirement) : Type 0 where
  among : IsAmong (turn c (before ++ since) i).retired r
  came : IsSince c ((before ++ since) ++ i ∷ []) r.was
  holds : (frames : ℕ → Option Frame) → AreSent frames c.p (packets_in (since ++ i ∷ [])) → HoldsIfGiven frames c.p r r.was.given

retired_is : (c : AcqConfig) (whole before since : List Input) (i : Input) (rest : List Input) (r : Retirement) → Begun c whole before since → whole ≡ before ++ since ++ i ∷ rest → Known c before since i r → OfItem c.p (IsRetired c whole) r
retired_is c whole before since i rest r b parts k g has = record {
  before = before;
  since = since;
  last = i;
  rest = rest;
  parts = parts;
  begins = b.begins;
  one_acquisition = b.one;
  block = r;
  among = k.among;
  given = g;
  has = has;
  is = refl;
  came = k.came;
  holds = λ frames sent. subst (HoldsIfGiven frames c.p r) has (k.holds frames sent);
}

known_all : (c : AcqConfig) (whole before since : List Input) (i : Input) → Begun c whole before since → AllByRecursion (Known c before since i) (turn c (before ++ since) i).retired
known_all c whole before since i b =
    let rs : List Retirement = (turn c (before ++ since) i).retired in
    let Holds : Retirement → Type 0 = λ r. (frames : ℕ → Option Frame) → AreSent frames c.p (packets_in (since ++ i ∷ [])) → HoldsIfGiven frames c.p r r.was.given in
    let Came : Retirement → Type 0 = λ r. IsSince c ((before ++ since) ++ i ∷ []) r.was in
    let Both : Retirement → Type 0 = λ r. IsAmong rs r × Came r in
    let two : AllByRecursion Both rs = all_both (IsAmong rs) Came Both (λ r x y. (x, y)) rs (among_all rs [] rs refl) (retired_heard_what_came c (before ++ since) i b.some) in
    let third : AllByRecursion Holds rs
    = swapped (λ f. AreSent f c.p (packets_in (since ++ i ∷ []))) (λ f r. HoldsIfGiven f c.p r r.was.given) rs
    (λ f sent. fills_keep_frames f c before since i b.some b.none_open sent) in
    all_both Both Holds (Known c before since i) (λ r x y. record { among = x.0; came = x.1; holds = y }) rs two third

-- what this input retires
one_input : (c : AcqConfig) (whole before since : List Input) (i : Input) (rest : List Input) → Begun c whole before since → whole ≡ before ++ since ++ i ∷ rest → AllByRecursion (IsRetired c whole) (map item_of (fills c.p (turn c (before ++ since) i).retired))
one_input c whole before since i rest b parts =
    items_all c.p (IsRetired c whole) (turn c (before ++ since) i).retired
    (all_weaker (Known c before since i) (OfItem c.p (IsRetired c whole)) (λ r k. retired_is c whole before since i rest r b parts k)
    (turn c (before ++ since) i).retired (known_all c whole before since i b))

-- ---- all inputs

abbrev AllRetired : AcqConfig → List Input → State → List Input → Type 0
AllRetired c whole s rest = AllByRecursion (IsRetired c whole) (map item_of (fills c.p (retired_from c s rest)))

longer : (c : AcqConfig) (whole before since : List Input) (i : Input) → HasNoRestart (i ∷ []) → Begun c whole before since → Begun c whole before (since ++ i ∷ [])
longer c whole before since i none b = record { some = b.some; begins = b.begins; none_open = b.none_open; one = no_restarts since (i ∷ []) b.one none }

state_on : (c : AcqConfig) (before since : List Input) (i : Input) → After c (before ++ (since ++ i ∷ [])) ≡ (step c (After c (before ++ since)) i).after
state_on c before since i = ap (After c) (sym (append_assoc before since (i ∷ []))) ∙ after_from-append c first_state (before ++ since) (i ∷ [])

parts_on : (whole before since : List Input) (i : Input) (rest : List Input) → whole ≡ before ++ since ++ i ∷ rest → whole ≡ before ++ (since ++ i ∷ []) ++ rest
parts_on whole before since i rest is = is ∙ (sym (append_assoc (before ++ since) (i ∷ []) rest) ∙ ap (λ l. l ++ rest) (append_assoc before since (i ∷ [])))

clean_on : (c : AcqConfig) (before since : List Input) (i : Input) (rest : List Input) → StartsClean c (step c (After c (before ++ since)) i).after rest → StartsClean c (After c (before ++ (since ++ i ∷ []))) rest
clean_on c before since i rest clean = subst (λ s. StartsClean c s rest) (sym (state_on c before since i)) clean

walk_on : (c : AcqConfig) (whole before since : List Input) (i : Input) (rest : List Input) → Begun c whole before since → whole ≡ before ++ since ++ i ∷ rest → AllRetired c whole (After c (before ++ (since ++ i ∷ []))) rest → AllRetired c whole (After c (before ++ since)) (i ∷ rest)
walk_on c whole before since i rest b parts later =
    let s : State = After c (before ++ since) in
    let P : Item → Type 0 = IsRetired c whole in
    let here : List Retirement = (step c s i).retired in
    let there : List Retirement = retired_from c (step c s i).after rest in
    let moved : AllByRecursion P (map item_of (fills c.p there)) = subst (λ u. AllRetired c whole u rest) (state_on c before since i) later in
    let joined : map item_of (fills c.p (here ++ there)) ≡ map item_of (fills c.p here) ++ map item_of (fills c.p there)
    = ap (λ l. map item_of l) (fills-append c.p here there) ∙ items-append (fills c.p here) (fills c.p there) in
    subst (λ l. AllByRecursion P l) (sym joined)
    (all_append P (map item_of (fills c.p here)) (map item_of (fills c.p there)) (one_input c whole before since i rest b parts) moved)

-- a restart begins another one
begun_anew : (c : AcqConfig) (whole before since : List Input) → Begun c whole before since → (After c (before ++ since)).opens ≡ [] → Begun c whole ((before ++ since) ++ restart ∷ []) []
begun_anew c whole before since b none = record {
  some = b.some;
  begins = inr (before ++ since, refl);
  none_open = ap (λ s. s.opens) (after_from-append c first_state (before ++ since) (restart ∷ [])) ∙ none;
  one = tt;
}

state_anew : (c : AcqConfig) (before since : List Input) → After c (((before ++ since) ++ restart ∷ []) ++ []) ≡ (step c (After c (before ++ since)) restart).after
state_anew c before since = ap (After c) (append-nil ((before ++ since) ++ restart ∷ [])) ∙ after_from-append c first_state (before ++ since) (restart ∷ [])

walk : (c : AcqConfig) (whole before since rest : List Input) → Begun c whole before since → whole ≡ before ++ since ++ rest → StartsClean c (After c (before ++ since)) rest → AllRetired c whole (After c (before ++ since)) rest
walk c whole before since [] b parts clean = tt
walk c whole before since (datagram bytes ∷ rest) b parts clean =
    walk_on c whole before since (datagram bytes) rest b parts
    (walk c whole before (since ++ datagram bytes ∷ []) rest (longer c whole before since (datagram bytes) tt b) (parts_on whole before since (datagram bytes) rest parts) (clean_on c before since (datagram bytes) rest clean))
walk c whole before since (claimed given ∷ rest) b parts clean =
    walk_on c whole before since (claimed given) rest b parts
    (walk c whole before (since ++ claimed given ∷ []) rest (longer c whole before since (claimed given) tt b) (parts_on whole before since (claimed given) rest parts) (clean_on c before since (claimed given) rest clean))
walk c whole before since (tick moment ∷ rest) b parts clean =
    walk_on c whole before since (tick moment) rest b parts
    (walk c whole before (since ++ tick moment ∷ []) rest (longer c whole before since (tick moment) tt b) (parts_on whole before since (tick moment) rest parts) (clean_on c before since (tick moment) rest clean))
walk c whole before since (stop ∷ rest) b parts clean =
    walk_on c whole before since stop rest b parts
    (walk c whole before (since ++ stop ∷ []) rest (longer c whole before since stop tt b) (parts_on whole before since stop rest parts) (clean_on c before since stop rest clean))
walk c whole before since (restart ∷ rest) b parts clean =
    subst (λ u. AllRetired c whole u rest) (state_anew c before since)
    (walk c whole ((before ++ since) ++ restart ∷ []) [] rest (begun_anew c whole before since b clean.0)
    (parts ∙ (sym (append_assoc (before ++ since) (restart ∷ []) rest) ∙ ap (λ l. l ++ rest) (sym (append-nil ((before ++ since) ++ restart ∷ [])))))
    (subst (λ u. StartsClean c u rest) (sym (state_anew c before since)) clean.1))

pub retired_blocks : (c : AcqConfig) (q : List Input) → 1 ≤ c.window → StartsClean c first_state q → AllByRecursion (IsRetired c q) (retired_items c q)
retired_blocks c q some clean = walk c q [] [] q (record { some = some; begins = inl refl; none_open = refl; one = tt }) refl clean
