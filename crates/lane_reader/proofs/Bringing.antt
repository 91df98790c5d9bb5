-- What turns bring to one lane, step by step.
use Rattle.std.proofs.Common.{◌≡◌, ℕ, zero, suc, ◌+◌, ◌≤◌, Bool, true, false, List, [], ◌∷◌, ◌++◌, length, Option, Some, None, refl, ap, sym, ◌∙◌, subst, inl, inr, append_assoc, length-append, arith}
use Rattle.std.specs.Prelude.{slice_get, nat_lt, MatchBool}
use Rattle.std.proofs.lemmas.List.{append-nil, map-append}
use Rattle.gev_control.specs.Controlled.{listed}
use Rattle.gev_lanes.specs.LineEnds.{GiverEnd, TakerEnd, gave, took, missed}
use Rattle.gev_lanes.specs.declared.cell.Cell.{Cell}
use Rattle.gev_lanes.specs.declared.parts.ReaderLane.{ReaderLane}
use Rattle.gev_lanes.specs.Messages.{Says, Message, heard, told, ended, message_of, messages, GoOn}
use Rattle.gev_lanes.specs.Acts.{Brings, Tries, TriesTo, Hears, Ticks}
use Rattle.lane_reader.specs.LanesTurns.{ReaderTurn, part_of, Each, Asks, AsksEach, TakesLanesTurn}
use Rattle.lane_reader.specs.Brought.{IsSublist, datagram_in, datagrams_in, parts_of, heard_at, news_of, took_in_tries, Brought, LaneTurn}
use Rattle.lane_reader.specs.Laws.{LanesTakeTurns, TurnsBring, LanesTakeAll, OnlyMissesLeaveOut, FirstCellsAreBrought}

-- ---- lists

sublist-append : {A : Type 0} (xs zs ys bs : List A) → IsSublist xs ys → IsSublist zs bs → IsSublist (xs ++ zs) (ys ++ bs)
sublist-append xs zs [] bs first second = subst (λ l. IsSublist (l ++ zs) bs) (sym first) second
sublist-append xs zs (y ∷ ys) bs (inl more) second = inl (sublist-append xs zs ys bs more second)
sublist-append xs zs (y ∷ ys) bs (inr one) second =
    inr (one.0 ++ zs, ap (λ l. l ++ zs) one.1, sublist-append one.0 zs ys bs one.2 second)

sublist_none : {A : Type 0} (ys : List A) → IsSublist [] ys
sublist_none [] = refl
sublist_none (y ∷ ys) = inl (sublist_none ys)

sublist_one : {A : Type 0} (x : A) → IsSublist (x ∷ []) (x ∷ [])
sublist_one x = inr ([], refl, refl)

go_on-append : (ms ns : List Message) → GoOn ms → GoOn ns → GoOn (ms ++ ns)
go_on-append [] ns first second = second
go_on-append (m ∷ ms) ns first second = (first.0, go_on-append ms ns first.1 second)

datagrams-append : (ms ns : List Message) → datagrams_in (ms ++ ns) ≡ datagrams_in ms ++ datagrams_in ns
datagrams-append [] ns = refl
datagrams-append (m ∷ ms) ns =
    ap (λ l. datagram_in m.says ++ l) (datagrams-append ms ns) ∙ sym (append_assoc (datagram_in m.says) (datagrams_in ms) (datagrams_in ns))

-- the same end with this list and this count
end_with : TakerEnd Cell → List Cell → ℕ → TakerEnd Cell
end_with e taken misses = record { line = e.line; least = e.least; taken = taken; misses = misses }

took_so : (e f : TakerEnd Cell) (cells taken : List Cell) (some misses : ℕ) → f ≡ end_with e taken misses → taken ≡ e.taken ++ cells → misses ≡ e.misses + some
    → f ≡ took_in_tries e cells some
unfolding end_with
took_so e f cells taken some misses is list count =
    is ∙ (ap (λ l. end_with e l misses) list ∙ ap (λ n. end_with e (e.taken ++ cells) n) count)

took_none : (e f : TakerEnd Cell) → f ≡ e → f ≡ took_in_tries e [] 0
unfolding end_with
took_none e f is = took_so e f [] e.taken 0 e.misses is (sym (append-nil e.taken)) (omega arith)

took_one : (e f : TakerEnd Cell) (cell : Cell) → f ≡ took e (cell ∷ []) → f ≡ took_in_tries e (cell ∷ []) 0
unfolding end_with
took_one e f cell is = took_so e f (cell ∷ []) (e.taken ++ cell ∷ []) 0 e.misses is refl (omega arith)

missed_one : (e f : TakerEnd Cell) → f ≡ missed e → f ≡ took_in_tries e [] 1
unfolding end_with
missed_one e f is = took_so e f [] e.taken 1 (suc e.misses) is (sym (append-nil e.taken)) (omega arith)

took_more : (e f g : TakerEnd Cell) (xs ys : List Cell) (m n : ℕ) → f ≡ took_in_tries e xs m → g ≡ took_in_tries f ys n → g ≡ took_in_tries e (xs ++ ys) (m + n)
unfolding end_with
took_more e f g xs ys m n first second =
    took_so e g (xs ++ ys) ((e.taken ++ xs) ++ ys) (m + n) ((e.misses + m) + n) (second ∙ ap (λ x. took_in_tries x ys n) first) (append_assoc e.taken xs ys) (omega arith)

gave_none : (e : GiverEnd Cell) → e ≡ gave e []
gave_none e = ap (λ l. record { line = e.line; given = l; refusals = e.refusals }) (sym (append-nil e.given))

gave_more : (e : GiverEnd Cell) (xs ys : List Cell) → gave (gave e xs) ys ≡ gave e (xs ++ ys)
gave_more e xs ys = ap (λ l. record { line = e.line; given = l; refusals = e.refusals }) (append_assoc e.given xs ys)

-- ---- one after the other

brought_then : (p q : List (List ℕ)) (a b : List Message) (s t u : ReaderLane) → Brought p a s t → Brought q b t u → Brought (p ++ q) (a ++ b) s u
brought_then p q a b s t u first second = record {
  free = first.free ++ second.free;
  cells = first.cells ++ second.cells;
  misses = first.misses + second.misses;
  taken = took_more s.free t.free u.free first.free second.free first.misses second.misses first.taken second.taken;
  given = second.given ∙ (ap (λ x. gave x second.cells) first.given ∙ gave_more s.cells first.cells second.cells);
  as_many = omega (arith, length-append first.free second.free, length-append first.cells second.cells, first.as_many, second.as_many);
  go_on = subst GoOn (sym both) (go_on-append (messages first.cells) (messages second.cells) first.go_on second.go_on);
  datagrams = subst (λ l. IsSublist l (p ++ q)) (sym (ap datagrams_in both ∙ datagrams-append (messages first.cells) (messages second.cells)))
      (sublist-append (datagrams_in (messages first.cells)) (datagrams_in (messages second.cells)) p q first.datagrams second.datagrams);
  left_out = left_both (length p) (length q) (length (p ++ q)) (length (datagrams_in (messages first.cells))) (length (datagrams_in (messages second.cells)))
      (length (datagrams_in (messages (first.cells ++ second.cells)))) first.misses second.misses (length-append p q)
      (ap length (ap datagrams_in both ∙ datagrams-append (messages first.cells) (messages second.cells))
      ∙ length-append (datagrams_in (messages first.cells)) (datagrams_in (messages second.cells)))
      first.left_out second.left_out;
  news_are = subst (λ l. IsSublist l (a ++ b)) (sym both) (sublist-append (messages first.cells) (messages second.cells) a b first.news_are second.news_are);
}
  where
    both : messages (first.cells ++ second.cells) ≡ messages first.cells ++ messages second.cells
    both = map-append message_of first.cells second.cells

    left_both : (a b ab c d cd m k : ℕ) → ab ≡ a + b → cd ≡ c + d → a ≤ c + m → b ≤ d + k → ab ≤ cd + (m + k)
    left_both a b ab c d cd m k parts has front rest = omega (arith, parts, has, front, rest)

-- no cell, though one might have come where a try found none
brought_none : (p : List (List ℕ)) (a : List Message) (misses : ℕ) (s t : ReaderLane) → t.free ≡ took_in_tries s.free [] misses → t.cells ≡ s.cells → length p ≤ misses
    → Brought p a s t
brought_none p a misses s t free cells few = record {
  free = [];
  cells = [];
  misses = misses;
  taken = free;
  given = cells ∙ gave_none s.cells;
  as_many = refl;
  go_on = tt;
  datagrams = sublist_none p;
  left_out = omega (arith, few);
  news_are = sublist_none a;
}

-- nothing came, and nothing was tried
brought_nothing : (a : List Message) (s t : ReaderLane) → t.free ≡ s.free → t.cells ≡ s.cells → Brought [] a s t
brought_nothing a s t free cells = brought_none [] a 0 s t (took_none s.free t.free free) cells (omega arith)

brought_one : (p : List (List ℕ)) (m : Message) (s t : ReaderLane) → (m.says ≡ ended → ⊥) → datagram_in m.says ≡ p → Brings m s t → Brought p (m ∷ []) s t
brought_one p m s t goes says brings = record {
  free = brings.free ∷ [];
  cells = brings.cell ∷ [];
  misses = 0;
  taken = took_one s.free t.free brings.free (ap (λ (x : ReaderLane). x.free) brings.is);
  given = ap (λ (x : ReaderLane). x.cells) brings.is;
  as_many = refl;
  go_on = ((λ is. goes (sym (ap (λ (x : Message). x.says) brings.message) ∙ is)), tt);
  datagrams = subst (λ l. IsSublist l p) (sym here) (whole p);
  left_out = all_there (length p) _ (sym (ap length here));
  news_are = subst (λ x. IsSublist (x ∷ []) (m ∷ [])) (sym brings.message) (sublist_one m);
}
  where
    here : datagrams_in (messages (brings.cell ∷ [])) ≡ p
    here = append-nil (datagram_in (message_of brings.cell).says) ∙ (ap (λ (x : Message). datagram_in x.says) brings.message ∙ says)

    all_there : (a b : ℕ) → a ≡ b → a ≤ b + 0
    all_there a b e = omega (arith, e)

    whole : (l : List (List ℕ)) → IsSublist l l
    whole [] = refl
    whole (x ∷ l) = inr (l, refl, whole l)

few_in : (y : Says) → length (datagram_in y) ≤ 1
few_in (heard bytes) = omega arith
few_in told = omega arith
few_in ended = omega arith

tried : (p : List (List ℕ)) (m : Message) (done : Bool) (s t : ReaderLane) → (m.says ≡ ended → ⊥) → datagram_in m.says ≡ p → Tries m done s t → Brought p (m ∷ []) s t
tried p m true s t goes says tries = brought_one p m s t goes says tries
tried p m false s t goes says tries =
    brought_none p (m ∷ []) 1 s t (missed_one s.free t.free (ap (λ (x : ReaderLane). x.free) tries.is)) (ap (λ (x : ReaderLane). x.cells) tries.is)
    (subst (λ l. length l ≤ 1) says (few_in m.says))

heard_brings : (part : Option (List ℕ)) (moment : ℕ) (s t : ReaderLane) → Hears part moment s t → Brought (listed part) (heard_at part moment) s t
heard_brings None moment s t same = brought_nothing [] s t (ap (λ (x : ReaderLane). x.free) same) (ap (λ (x : ReaderLane). x.cells) same)
heard_brings (Some bytes) moment s t tries =
    tried (bytes ∷ []) (record { moment = moment; says = heard bytes }) tries.brought s t (λ e. cc) refl tries.tries

ticks_brings : (moment : ℕ) (s t : ReaderLane) → Ticks moment s t → Brought [] (record { moment = moment; says = told } ∷ []) s t
ticks_brings moment s t ticks = go (nat_lt s.last moment) ticks
  where
    go : (b : Bool) → MatchBool b (TriesTo (record { moment = moment; says = told }) s t) (t ≡ s) → Brought [] (record { moment = moment; says = told } ∷ []) s t
    go true tries = tried [] (record { moment = moment; says = told }) tries.brought s t (λ e. cc) refl tries.tries
    go false same = brought_nothing (record { moment = moment; says = told } ∷ []) s t (ap (λ (x : ReaderLane). x.free) same) (ap (λ (x : ReaderLane). x.cells) same)

asks_brings : (requests : List (List ℕ)) (s t : ReaderLane) → Asks requests s t → Brought [] [] s t
asks_brings requests s t (inl asks) = brought_nothing [] s t (ap (λ (x : ReaderLane). x.free) asks.is) (ap (λ (x : ReaderLane). x.cells) asks.is)
asks_brings requests s t (inr asks) = brought_nothing [] s t (ap (λ (x : ReaderLane). x.free) asks.is) (ap (λ (x : ReaderLane). x.cells) asks.is)

turn_brings : (n k : ℕ) (t : ReaderTurn) (s u : ReaderLane) → LaneTurn n k t s u
    → Brought (listed (part_of n k t.answer)) (heard_at (part_of n k t.answer) t.moment ++ (record { moment = t.moment; says = told } ∷ [])) s u
turn_brings n k t s u turn =
    subst (λ p. Brought p (heard_at part t.moment ++ tick ∷ []) s u) (append-nil (listed part))
    (brought_then (listed part) [] (heard_at part t.moment) (tick ∷ []) s turn.hearing u (heard_brings part t.moment s turn.hearing turn.hears)
    (brought_then [] [] (tick ∷ []) [] turn.hearing turn.after u (ticks_brings t.moment turn.hearing turn.after turn.ticks)
    (asks_brings turn.requests turn.after u turn.asks)))
  where
    part : Option (List ℕ)
    part = part_of n k t.answer

    tick : Message
    tick = record { moment = t.moment; says = told }

pub turns_bring : TurnsBring
turns_bring n k [] s u same = brought_nothing [] s u (ap (λ (x : ReaderLane). x.free) same) (ap (λ (x : ReaderLane). x.cells) same)
turns_bring n k (t ∷ ts) s u turns =
    brought_then (listed (part_of n k t.answer)) (parts_of n k ts)
    (heard_at (part_of n k t.answer) t.moment ++ (record { moment = t.moment; says = told } ∷ [])) (news_of n k ts) s turns.0 u
    (turn_brings n k t s turns.0 turns.1) (turns_bring n k ts turns.0 u turns.2)

-- ---- nothing is left out

sublist_length : {A : Type 0} (xs ys : List A) → IsSublist xs ys → length xs ≤ length ys
sublist_length xs [] none = subst (λ l. length l ≤ 0) (sym none) (omega arith)
sublist_length xs (y ∷ ys) (inl more) = omega (arith, sublist_length xs ys more)
sublist_length xs (y ∷ ys) (inr one) = subst (λ l. length l ≤ suc (length ys)) (sym one.1) (omega (arith, sublist_length one.0 ys one.2))

-- some of a list that are as many are all
sublist_whole : {A : Type 0} (xs ys : List A) → IsSublist xs ys → length ys ≤ length xs → xs ≡ ys
sublist_whole xs [] none many = none
sublist_whole xs (y ∷ ys) (inl more) many = absurd (omega (arith, sublist_length xs ys more, many))
sublist_whole xs (y ∷ ys) (inr one) many = one.1 ∙ ap (λ l. y ∷ l) (sublist_whole one.0 ys one.2 (omega (arith, many, ap length one.1)))

pub misses_leave_out : OnlyMissesLeaveOut
misses_leave_out n k ts s u turns same = (so.cells, so.given, sublist_whole _ _ so.datagrams (all_there _ _ so.misses none so.left_out))
  where
    so : Brought (parts_of n k ts) (news_of n k ts) s u
    so = turns_bring n k ts s u turns

    none : so.misses ≡ 0
    none = omega (arith, same, ap (λ e. e.misses) so.taken)

    all_there : (a b m : ℕ) → m ≡ 0 → a ≤ b + m → a ≤ b
    all_there a b m e le = omega (arith, e, le)

-- ---- each of all lanes

some_same : {A : Type 0} (x y : A) → Some x ≡ Some y → x ≡ y
some_same x y e = cc

each_at : (Does : ℕ → ReaderLane → ReaderLane → Type 0) (i k n : ℕ) (ss ts : List ReaderLane) (s : ReaderLane) → n ≡ k + i → Each Does k ss ts → slice_get ss i ≡ Some s
    → (t : ReaderLane) × (slice_get ts i ≡ Some t) × Does n s t
each_at Does i k n [] ts s is each at = let bad : ⊥ = none at in absurd bad
  where
    none : slice_get [] i ≡ Some s → ⊥
    none e = cc
each_at Does i k n (x ∷ ss) [] s is each at = absurd each
each_at Does zero k n (x ∷ ss) (t ∷ ts) s is each at =
    (t, refl, subst (λ m. Does m s t) (here k n is) (subst (λ y. Does k y t) (some_same x s at) each.0))
  where
    here : (a b : ℕ) → b ≡ a + 0 → a ≡ b
    here a b e = omega (arith, e)
each_at Does (suc i) k n (x ∷ ss) (t ∷ ts) s is each at = each_at Does i (suc k) n ss ts s (next n k i is) each.1 at
  where
    next : (a b c : ℕ) → a ≡ b + suc c → a ≡ suc b + c
    next a b c e = omega (arith, e)

asked_at : (i : ℕ) (rss : List (List (List ℕ))) (ss ts : List ReaderLane) (s : ReaderLane) → AsksEach rss ss ts → slice_get ss i ≡ Some s
    → (t : ReaderLane) × (slice_get ts i ≡ Some t) × (rs : List (List ℕ)) × Asks rs s t
asked_at i [] [] ts s each at = let bad : ⊥ = none at in absurd bad
  where
    none : slice_get [] i ≡ Some s → ⊥
    none e = cc
asked_at i [] (x ∷ ss) ts s each at = absurd each
asked_at i (rs ∷ rss) [] ts s each at = absurd each
asked_at i (rs ∷ rss) (x ∷ ss) [] s each at = absurd each
asked_at zero (rs ∷ rss) (x ∷ ss) (t ∷ ts) s each at = (t, refl, rs, subst (λ y. Asks rs y t) (some_same x s at) each.0)
asked_at (suc i) (rs ∷ rss) (x ∷ ss) (t ∷ ts) s each at = asked_at i rss ss ts s each.1 at

lane_turn : (n k : ℕ) (t : ReaderTurn) (ss us : List ReaderLane) (s : ReaderLane) → TakesLanesTurn n t ss us → slice_get ss k ≡ Some s
    → (u : ReaderLane) × (slice_get us k ≡ Some u) × LaneTurn n k t s u
lane_turn n k t ss us s turn at =
    let one = each_at (λ j. Hears (part_of n j t.answer) t.moment) k 0 k ss turn.hearing s (omega arith) turn.hears at in
    let two = each_at (λ j. Ticks t.moment) k 0 k turn.hearing turn.told one.0 (omega arith) turn.ticks one.1 in
    let three = asked_at k t.asked turn.told us two.0 turn.asks two.1 in
    (three.0, three.1, record { hearing = one.0; after = two.0; requests = three.2; hears = one.2; ticks = two.2; asks = three.3 })

pub take_turns : LanesTakeTurns
take_turns n k [] ss us s same at = (s, subst (λ l. slice_get l k ≡ Some s) (sym same) at, refl)
take_turns n k (t ∷ ts) ss us s turns at =
    let one = lane_turn n k t ss turns.0 s turns.1 at in
    let rest = take_turns n k ts turns.0 us one.0 turns.2 one.1 in
    (rest.0, rest.1, (one.0, one.2, rest.2))

-- ---- all is taken

pub take_all : LanesTakeAll
take_all [] [] last e on ends go begins = let same : last ≡ e = cc_from begins.is in ap (λ x. x ∷ []) same
  where
    cc_from : e ∷ [] ≡ last ∷ begins.rest → last ≡ e
    cc_from is = cc
take_all [] (y ∷ given) last e on ends go begins = absurd (go.0 (ap (λ x. (message_of x).says) (first begins.is) ∙ ends))
  where
    first : y ∷ (given ++ e ∷ []) ≡ last ∷ begins.rest → y ≡ last
    first is = cc
take_all (x ∷ taken) [] last e on ends go begins = absurd (none (rest_of begins.is))
  where
    rest_of : e ∷ [] ≡ x ∷ ((taken ++ last ∷ []) ++ begins.rest) → [] ≡ (taken ++ last ∷ []) ++ begins.rest
    rest_of is = cc

    none : [] ≡ (taken ++ last ∷ []) ++ begins.rest → ⊥
    none is = omega (arith, ap length is, length-append (taken ++ last ∷ []) begins.rest, length-append taken (last ∷ []))
take_all (x ∷ taken) (y ∷ given) last e on ends go begins =
    ap (λ z. z ∷ (taken ++ last ∷ [])) (sym (first begins.is)) ∙ ap (λ l. y ∷ l) (take_all taken given last e on.1 ends go.1 (record { rest = begins.rest; is = rest_of begins.is }))
  where
    first : y ∷ (given ++ e ∷ []) ≡ x ∷ ((taken ++ last ∷ []) ++ begins.rest) → y ≡ x
    first is = cc

    rest_of : y ∷ (given ++ e ∷ []) ≡ x ∷ ((taken ++ last ∷ []) ++ begins.rest) → given ++ e ∷ [] ≡ (taken ++ last ∷ []) ++ begins.rest
    rest_of is = cc

pub first_cells : FirstCellsAreBrought
first_cells s t least left = subst (λ n. n ≤ length s.free.taken) least (subst (λ l. s.free.least ≤ length l) left.empty.all_taken left.empty.least)
