-- The lists of drops that acts make, one for each claim and each fill of the acquisition.
use Rattle.std.proofs.Common.{◌≡◌, inl, inr, ℕ, ◌+◌, ◌==◌, Bool, true, false, List, [], ◌∷◌, ◌++◌, length, refl, sym, ap, subst, ◌∙◌, append_assoc, append-nil, length-append, arith}
use Rattle.std.specs.Prelude.{⊤, Option, Some, None, if◌then◌else◌}
use Rattle.gev_types.specs.Filling.{Filling}
use Rattle.board_machine.specs.declared.events.Entry.{Entry}
use Rattle.board_machine.specs.declared.events.Event.{Event}
use Rattle.board_machine.specs.declared.events.Event.TheVariants.{Lay, Pool, Claim, Fill, Take}
use Rattle.board_machine.specs.declared.events.TakeEnd.{TakeEnd}
use Rattle.board_machine.specs.declared.events.TakeEnd.TheVariants.{Taken, Empty, Closed}
use Rattle.board_machine.specs.Machine.{Item, entry}
use Rattle.board_machine.specs.Adding.{entries_of}
use Rattle.block_fills.proofs.Tries.{entries-append}
use Rattle.board_calls.specs.declared.mode.Mode.{Mode}
use Rattle.board_calls.specs.declared.mode.Mode.TheVariants.{OldestFirst, OldestFirstOverwrite, NewestOnly}
use Rattle.board_calls.specs.Modes.{GotNothing, ClaimsOrTakes, ClaimsFor, takes_and_pools, DropsFor}
use Rattle.acquisition_machine.specs.declared.retired.Retired.{Retired}
use Rattle.script_trace.specs.Trace.{acquirer}
use Rattle.script_trace.specs.Modes.{laid_unless, FillsBlock, FillsInMode}
use Rattle.script_trace.specs.Drops.{Doing, drops, fills, gets, seeks, other, doing_of, doing, first_item, sought, told_at, waits, is_seeking, drops_from}

-- ---- what entries drop

-- what an act drops, where this is the output's first entry
abbrev pub drops_now : Doing → List Item → List Item
drops_now drops item = item
drops_now fills item = []
drops_now gets item = []
drops_now seeks item = []
drops_now other item = []

-- what these entries drop behind this history, in order
abbrev pub dropped_in : List Entry → List Entry → List Item
dropped_in h [] = []
dropped_in h (e ∷ es) = drops_now (doing e) (first_item h) ++ dropped_in (h ++ e ∷ []) es

pub dropped_in-append : (h es fs : List Entry) → dropped_in h (es ++ fs) ≡ dropped_in h es ++ dropped_in (h ++ es) fs
dropped_in-append h [] fs = ap (λ k. dropped_in k fs) (sym (append-nil h))
dropped_in-append h (e ∷ es) fs =
    let mine : List Item = drops_now (doing e) (first_item h) in
    let front : List Item = dropped_in (h ++ e ∷ []) es in
    ap (λ l. mine ++ l) (dropped_in-append (h ++ e ∷ []) es fs)
    ∙ (ap (λ k. mine ++ (front ++ dropped_in k fs)) (append_assoc h (e ∷ []) es)
    ∙ sym (append_assoc mine front (dropped_in (h ++ (e ∷ es)) fs)))

-- all lists, one after the other
abbrev pub joined : List (List Item) → List Item
joined [] = []
joined (d ∷ ds) = d ++ joined ds

pub joined-append : (xs ys : List (List Item)) → joined (xs ++ ys) ≡ joined xs ++ joined ys
joined-append [] ys = refl
joined-append (x ∷ xs) ys = ap (λ l. x ++ l) (joined-append xs ys) ∙ sym (append_assoc x (joined xs) (joined ys))

-- ---- entries that make no list

-- What these drop waits for the next fill.
pub record Gathers (h es : List Entry) : Type 0 where
  pub are : (before : List Item) (more : List Entry) → drops_from h false before (es ++ more) ≡ drops_from (h ++ es) false (before ++ dropped_in h es) more

pub gathers_none : (h : List Entry) → Gathers h []
gathers_none h = record {
  are = λ before more. ap (λ k. drops_from k false before more) (sym (append-nil h)) ∙ ap (λ l. drops_from (h ++ []) false l more) (sym (append-nil before));
}

pub gathers_both : (h es fs : List Entry) → Gathers h es → Gathers (h ++ es) fs → Gathers h (es ++ fs)
gathers_both h es fs a b = record {
  are = λ before more.
      let mine : List Item = dropped_in h es in
      let theirs : List Item = dropped_in (h ++ es) fs in
      ap (drops_from h false before) (append_assoc es fs more)
      ∙ (a.are before (fs ++ more)
      ∙ (b.are (before ++ mine) more
      ∙ (ap (λ k. drops_from k false ((before ++ mine) ++ theirs) more) (append_assoc h es fs)
      ∙ ap (λ l. drops_from (h ++ (es ++ fs)) false l more) (append_assoc before mine theirs ∙ ap (λ l. before ++ l) (sym (dropped_in-append h es fs))))));
}

-- the lists from an act on that is this to the output
abbrev lists_at : List Entry → Entry → List Item → List Entry → Doing → List (List Item)
lists_at h e before more d =
    sought false d (first_item h) ++ (told_at d before ++ drops_from (h ++ e ∷ []) (is_seeking d) (waits false d (first_item h) before) more)

-- an act that is nothing to the output
pub gathers_quiet : (h : List Entry) (e : Entry) → doing e ≡ other → Gathers h (e ∷ [])
gathers_quiet h e quiet = record {
  are = λ before more.
      let none : before ++ dropped_in h (e ∷ []) ≡ before = ap (λ d. before ++ (drops_now d (first_item h) ++ [])) quiet ∙ append-nil before in
      ap (lists_at h e before more) quiet ∙ ap (λ l. drops_from (h ++ e ∷ []) false l more) (sym none);
}

gathers_take : (h : List Entry) (i : ℕ) → Gathers h (entry acquirer (Take (Taken i)) ∷ [])
gathers_take h i = record {
  are = λ before more.
      ap (λ l. drops_from (h ++ entry acquirer (Take (Taken i)) ∷ []) false (before ++ l) more) (sym (append-nil (first_item h)));
}

takes_gather : (is : List ℕ) (h : List Entry) → Gathers h (entries_of acquirer (takes_and_pools is))
takes_gather [] h = gathers_none h
takes_gather (i ∷ is) h =
    let take : Entry = entry acquirer (Take (Taken i)) in
    let pool : Entry = entry acquirer (Pool i) in
    let behind : List Entry = h ++ take ∷ [] in
    gathers_both h (take ∷ []) (pool ∷ entries_of acquirer (takes_and_pools is)) (gathers_take h i)
    (gathers_both behind (pool ∷ []) (entries_of acquirer (takes_and_pools is)) (gathers_quiet behind pool refl) (takes_gather is (behind ++ pool ∷ [])))

nothing_else : (end : TakeEnd) → GotNothing end → doing (entry acquirer (Take end)) ≡ other
nothing_else (Taken i) none = absurd none
nothing_else Empty none = refl
nothing_else Closed none = refl

-- what comes before a fill
front_gathers : (mode : Mode) (dropped : List ℕ) (es : List Event) (h : List Entry) → DropsFor mode dropped es → Gathers h (entries_of acquirer es)
front_gathers OldestFirst dropped es h (none, is) = subst (λ l. Gathers h (entries_of acquirer l)) (sym is) (gathers_none h)
front_gathers OldestFirstOverwrite dropped es h (none, is) = subst (λ l. Gathers h (entries_of acquirer l)) (sym is) (gathers_none h)
front_gathers NewestOnly dropped es h (inl d) =
    let front : List Entry = entries_of acquirer (takes_and_pools dropped) in
    let last : Entry = entry acquirer (Take d.end) in
    subst (λ l. Gathers h (entries_of acquirer l)) (sym d.is)
    (subst (λ l. Gathers h l) (sym (entries-append acquirer (takes_and_pools dropped) (Take d.end ∷ [])))
    (gathers_both h front (last ∷ []) (takes_gather dropped h) (gathers_quiet (h ++ front) last (nothing_else d.end d.nothing))))
front_gathers NewestOnly dropped es h (inr d) = subst (λ l. Gathers h (entries_of acquirer l)) (sym d.is) (takes_gather dropped h)

-- ---- entries that make lists

-- These make so many lists, whatever follows.
pub record Yields (h es : List Entry) (n : ℕ) : Type 0 where
  pub lists : List (List Item)
  pub many : length lists ≡ n
  pub items : joined lists ≡ dropped_in h es
  pub are : (more : List Entry) → drops_from h false [] (es ++ more) ≡ lists ++ drops_from (h ++ es) false [] more

pub yields_none : (h es : List Entry) → Gathers h es → dropped_in h es ≡ [] → Yields h es 0
yields_none h es g none = record {
  lists = [];
  many = refl;
  items = sym none;
  are = λ more. g.are [] more ∙ ap (λ l. drops_from (h ++ es) false l more) none;
}

pub yields_both : (h es fs : List Entry) (n m : ℕ) → Yields h es n → Yields (h ++ es) fs m → Yields h (es ++ fs) (n + m)
yields_both h es fs n m a b = record {
  lists = a.lists ++ b.lists;
  many = omega (arith, length-append a.lists b.lists, a.many, b.many);
  items = joined-append a.lists b.lists ∙ (ap (λ l. l ++ joined b.lists) a.items ∙ (ap (λ l. dropped_in h es ++ l) b.items ∙ sym (dropped_in-append h es fs)));
  are = λ more.
      ap (drops_from h false []) (append_assoc es fs more)
      ∙ (a.are (fs ++ more)
      ∙ (ap (λ l. a.lists ++ l) (b.are more ∙ ap (λ k. b.lists ++ drops_from k false [] more) (append_assoc h es fs))
      ∙ sym (append_assoc a.lists b.lists (drops_from (h ++ (es ++ fs)) false [] more))));
}

yields_fill : (h front : List Entry) (i : ℕ) (f : Filling) (filled : Bool) → Gathers h front → Yields h (front ++ entry acquirer (Fill i f filled) ∷ []) 1
yields_fill h front i f filled g =
    let fill : Entry = entry acquirer (Fill i f filled) in
    record {
      lists = dropped_in h front ∷ [];
      many = refl;
      items = sym (dropped_in-append h front (fill ∷ []));
      are = λ more.
          ap (drops_from h false []) (append_assoc front (fill ∷ []) more)
          ∙ (g.are [] (fill ∷ more) ∙ ap (λ k. dropped_in h front ∷ drops_from k false [] more) (append_assoc h front (fill ∷ [])));
    }

laid_yields : (filled : Bool) (i : ℕ) (h : List Entry) → Yields h (entries_of acquirer (laid_unless filled i)) 0
laid_yields true i h = yields_none h [] (gathers_none h) refl
laid_yields false i h = yields_none h (entry acquirer (Lay i) ∷ []) (gathers_quiet h (entry acquirer (Lay i)) refl) refl

block_yields : (mode : Mode) (x : Retired) (es : List Event) (h : List Entry) → FillsBlock mode x es → Yields h (entries_of acquirer es) 1
block_yields mode x es h f =
    let front : List Event = f.fills.front in
    let fill : Event = Fill x.place x.buf f.filled in
    let laid : List Event = laid_unless f.filled x.place in
    let call : Yields h (entries_of acquirer f.call) 1 =
    subst (λ l. Yields h (entries_of acquirer l) 1) (sym f.fills.is)
    (subst (λ l. Yields h l 1) (sym (entries-append acquirer front (fill ∷ [])))
    (yields_fill h (entries_of acquirer front) x.place x.buf f.filled (front_gathers mode f.dropped front h f.fills.drops))) in
    subst (λ l. Yields h (entries_of acquirer l) 1) (sym f.is)
    (subst (λ l. Yields h l 1) (sym (entries-append acquirer f.call laid))
    (yields_both h (entries_of acquirer f.call) (entries_of acquirer laid) 1 0 call (laid_yields f.filled x.place (h ++ entries_of acquirer f.call))))

pub fills_yield : (mode : Mode) (xs : List Retired) (es : List Event) (h : List Entry) → FillsInMode mode xs es → Yields h (entries_of acquirer es) (length xs)
fills_yield mode [] es h is = subst (λ l. Yields h (entries_of acquirer l) 0) (sym is) (yields_none h [] (gathers_none h) refl)
fills_yield mode (x ∷ xs) es h (first, rest, is, block, more) =
    let all : Yields h (entries_of acquirer first ++ entries_of acquirer rest) (1 + length xs) =
    yields_both h (entries_of acquirer first) (entries_of acquirer rest) 1 (length xs) (block_yields mode x first h block)
    (fills_yield mode xs rest (h ++ entries_of acquirer first) more) in
    let many : 1 + length xs ≡ length (x ∷ xs) = omega arith in
    subst (λ (n : ℕ). Yields h (entries_of acquirer es) n) many
    (subst (λ l. Yields h (entries_of acquirer l) (1 + length xs)) (sym is)
    (subst (λ l. Yields h l (1 + length xs)) (sym (entries-append acquirer first rest)) all))

-- ---- claims

got_yields : (i : ℕ) (h : List Entry) → Yields h (entry acquirer (Claim (Some i)) ∷ []) 1
got_yields i h = record { lists = [] ∷ []; many = refl; items = refl; are = λ more. refl }

took_yields : (i : ℕ) (h : List Entry) → Yields h (entry acquirer (Claim None) ∷ entry acquirer (Take (Taken i)) ∷ []) 1
took_yields i h =
    let claim : Entry = entry acquirer (Claim None) in
    let take : Entry = entry acquirer (Take (Taken i)) in
    record {
      lists = first_item (h ++ claim ∷ []) ∷ [];
      many = refl;
      items = refl;
      are = λ more. ap (λ k. first_item (h ++ claim ∷ []) ∷ drops_from k false [] more) (append_assoc h (claim ∷ []) (take ∷ []));
    }

missed_yields : (end : TakeEnd) (h : List Entry) → GotNothing end → Yields h (entry acquirer (Claim None) ∷ entry acquirer (Take end) ∷ []) 1
missed_yields (Taken i) h none = absurd none
missed_yields Empty h none = record {
  lists = [] ∷ [];
  many = refl;
  items = refl;
  are = λ more. ap (λ k. [] ∷ drops_from k false [] more) (append_assoc h (entry acquirer (Claim None) ∷ []) (entry acquirer (Take Empty) ∷ []));
}
missed_yields Closed h none = record {
  lists = [] ∷ [];
  many = refl;
  items = refl;
  are = λ more. ap (λ k. [] ∷ drops_from k false [] more) (append_assoc h (entry acquirer (Claim None) ∷ []) (entry acquirer (Take Closed) ∷ []));
}

taken_yields : (answer : Option (ℕ × Bool)) (es : List Event) (h : List Entry) → ClaimsOrTakes answer es → Yields h (entries_of acquirer es) 1
taken_yields None es h (end, none, is) = subst (λ l. Yields h (entries_of acquirer l) 1) (sym is) (missed_yields end h none)
taken_yields (Some (i, false)) es h is = subst (λ l. Yields h (entries_of acquirer l) 1) (sym is) (got_yields i h)
taken_yields (Some (i, true)) es h is = subst (λ l. Yields h (entries_of acquirer l) 1) (sym is) (took_yields i h)

-- ---- where nothing follows

-- all lists of these entries
pub record Ends (h es : List Entry) (n : ℕ) : Type 0 where
  pub many : length (drops_from h false [] es) ≡ n
  pub items : joined (drops_from h false [] es) ≡ dropped_in h es

pub ends_so : (h es : List Entry) (n : ℕ) → Yields h es n → Ends h es n
ends_so h es n y =
    let all : drops_from h false [] es ≡ y.lists = ap (drops_from h false []) (sym (append-nil es)) ∙ (y.are [] ∙ append-nil y.lists) in
    record { many = ap length all ∙ y.many; items = ap joined all ∙ y.items }

pub ends_behind : (h es fs : List Entry) (n m : ℕ) → Yields h es n → Ends (h ++ es) fs m → Ends h (es ++ fs) (n + m)
ends_behind h es fs n m y e =
    let rest : List (List Item) = drops_from (h ++ es) false [] fs in
    record {
      many = ap length (y.are fs) ∙ (let both = length-append y.lists rest in omega (arith, both, y.many, e.many));
      items = ap joined (y.are fs)
          ∙ (joined-append y.lists rest ∙ (ap (λ l. l ++ joined rest) y.items ∙ (ap (λ l. dropped_in h es ++ l) e.items ∙ sym (dropped_in-append h es fs))));
    }

-- ---- a claim alone

abbrev IsNoDrop : Doing → Type 0
IsNoDrop drops = ⊥
IsNoDrop fills = ⊤
IsNoDrop gets = ⊤
IsNoDrop seeks = ⊤
IsNoDrop other = ⊤

-- the first of these drops nothing
abbrev StartsClean : List Entry → Type 0
StartsClean [] = ⊤
StartsClean (e ∷ es) = IsNoDrop (doing e)

-- a claim that found nothing dropped nothing
sought_nothing : (h es : List Entry) → StartsClean es → drops_from h true [] es ≡ [] ∷ drops_from h false [] es
sought_nothing h [] clean = refl
sought_nothing h (e ∷ es) clean = go (doing e) clean where
  go : (d : Doing) → IsNoDrop d
      → sought true d (first_item h) ++ (told_at d [] ++ drops_from (h ++ e ∷ []) (is_seeking d) (waits true d (first_item h) []) es)
      ≡ [] ∷ (sought false d (first_item h) ++ (told_at d [] ++ drops_from (h ++ e ∷ []) (is_seeking d) (waits false d (first_item h) []) es))
  go drops never = absurd never
  go fills fine = refl
  go gets fine = refl
  go seeks fine = refl
  go other fine = refl

alone_ends : (h es : List Entry) (n : ℕ) → StartsClean es → Ends (h ++ entry acquirer (Claim None) ∷ []) es n → Ends h (entry acquirer (Claim None) ∷ es) (1 + n)
alone_ends h es n clean e =
    let behind : List Entry = h ++ entry acquirer (Claim None) ∷ [] in
    let all : drops_from behind true [] es ≡ [] ∷ drops_from behind false [] es = sought_nothing behind es clean in
    record { many = ap length all ∙ (let rest = e.many in omega (arith, rest)); items = ap joined all ∙ e.items }

-- a fill comes first, where no mode drops
starts_clean : (xs : List Retired) (es : List Event) → FillsInMode OldestFirst xs es → StartsClean (entries_of acquirer es)
starts_clean [] es is = subst (λ l. StartsClean (entries_of acquirer l)) (sym is) tt
starts_clean (x ∷ xs) es (first, rest, is, block, more) =
    let fill : Event = Fill x.place x.buf block.filled in
    let call : block.call ≡ fill ∷ [] = block.fills.is ∙ ap (λ l. l ++ fill ∷ []) block.fills.drops.1 in
    let all : es ≡ fill ∷ (laid_unless block.filled x.place ++ rest) = is ∙ ap (λ l. l ++ rest) (block.is ∙ ap (λ l. l ++ laid_unless block.filled x.place) call) in
    subst (λ l. StartsClean (entries_of acquirer l)) (sym all) tt

-- a claim by the mode, and the fills behind it
pub claim_ends : (mode : Mode) (answer : Option (ℕ × Bool)) (claims : List Event) (xs : List Retired) (seconds : List Event) (h : List Entry) → ClaimsFor mode answer claims → FillsInMode mode xs seconds
    → Ends h (entries_of acquirer claims ++ entries_of acquirer seconds) (1 + length xs)
claim_ends OldestFirst None claims xs seconds h is filled =
    let behind : List Entry = h ++ entry acquirer (Claim None) ∷ [] in
    subst (λ l. Ends h (entries_of acquirer l ++ entries_of acquirer seconds) (1 + length xs)) (sym is)
    (alone_ends h (entries_of acquirer seconds) (length xs) (starts_clean xs seconds filled)
    (ends_so behind (entries_of acquirer seconds) (length xs) (fills_yield OldestFirst xs seconds behind filled)))
claim_ends OldestFirst (Some (i, false)) claims xs seconds h is filled =
    let behind : List Entry = h ++ entry acquirer (Claim (Some i)) ∷ [] in
    subst (λ l. Ends h (entries_of acquirer l ++ entries_of acquirer seconds) (1 + length xs)) (sym is)
    (ends_behind h (entry acquirer (Claim (Some i)) ∷ []) (entries_of acquirer seconds) 1 (length xs) (got_yields i h)
    (ends_so behind (entries_of acquirer seconds) (length xs) (fills_yield OldestFirst xs seconds behind filled)))
claim_ends OldestFirst (Some (i, true)) claims xs seconds h is filled = absurd is
claim_ends OldestFirstOverwrite answer claims xs seconds h got filled =
    let behind : List Entry = h ++ entries_of acquirer claims in
    ends_behind h (entries_of acquirer claims) (entries_of acquirer seconds) 1 (length xs) (taken_yields answer claims h got)
    (ends_so behind (entries_of acquirer seconds) (length xs) (fills_yield OldestFirstOverwrite xs seconds behind filled))
claim_ends NewestOnly answer claims xs seconds h got filled =
    let behind : List Entry = h ++ entries_of acquirer claims in
    ends_behind h (entries_of acquirer claims) (entries_of acquirer seconds) 1 (length xs) (taken_yields answer claims h got)
    (ends_so behind (entries_of acquirer seconds) (length xs) (fills_yield NewestOnly xs seconds behind filled))

-- ---- entries of others

quiet_entry : (k : ℕ) (e : Event) → (k == acquirer) ≡ false → doing (entry k e) ≡ other
quiet_entry k e apart = ap (λ (v : Bool). if v then doing_of e else other) apart

others_gather : (k : ℕ) (es : List Event) (h : List Entry) → (k == acquirer) ≡ false → Gathers h (entries_of k es)
others_gather k [] h apart = gathers_none h
others_gather k (e ∷ es) h apart =
    gathers_both h (entry k e ∷ []) (entries_of k es) (gathers_quiet h (entry k e) (quiet_entry k e apart)) (others_gather k es (h ++ entry k e ∷ []) apart)

others_drop : (k : ℕ) (es : List Event) (h : List Entry) → (k == acquirer) ≡ false → dropped_in h (entries_of k es) ≡ []
others_drop k [] h apart = refl
others_drop k (e ∷ es) h apart =
    ap (λ d. drops_now d (first_item h) ++ dropped_in (h ++ entry k e ∷ []) (entries_of k es)) (quiet_entry k e apart) ∙ others_drop k es (h ++ entry k e ∷ []) apart

pub others_yield : (k : ℕ) (es : List Event) (h : List Entry) → (k == acquirer) ≡ false → Yields h (entries_of k es) 0
others_yield k es h apart = yields_none h (entries_of k es) (others_gather k es h apart) (others_drop k es h apart)
