-- Fills of retired blocks, over lists joined end to end.
use Rattle.std.proofs.Common.{◌≡◌, ℕ, Bool, true, false, List, [], ◌∷◌, ◌++◌, map, refl, sym, ap, ◌∙◌, append_assoc}
use Rattle.board_machine.specs.declared.events.Entry.{Entry}
use Rattle.board_machine.specs.declared.events.Event.{Event}
use Rattle.board_machine.specs.Machine.{Item, entry}
use Rattle.board_machine.specs.Adding.{entries_of}
use Rattle.board_calls.specs.Rounds.{filled_or_laid}
use Rattle.acquisition_machine.specs.declared.config.AcqConfig.{AcqConfig}
use Rattle.acquisition_machine.specs.declared.retired.Retired.{Retired}
use Rattle.acquisition_machine.specs.Blocks.{Retirement, fills, fill_of}
use Rattle.acquisition_machine.specs.Machine.{Input, State}
use Rattle.acquisition_machine.specs.Runs.{after_from, retired_from}
use Rattle.acquisition_machine.proofs.Joining.{retired_from-append}
use Rattle.block_fills.specs.Fills.{tried_by, tried, item_of, FillsRetired}

pub tried-append : (g h : List Entry) → tried (g ++ h) ≡ tried g ++ tried h
tried-append [] h = refl
tried-append (e ∷ g) h =
    ap (λ l. tried_by e.event ++ l) (tried-append g h) ∙ sym (append_assoc (tried_by e.event) (tried g) (tried h))

pub fills-append : (p : ℕ) (rs qs : List Retirement) → fills p (rs ++ qs) ≡ fills p rs ++ fills p qs
fills-append p [] qs = refl
fills-append p (r ∷ rs) qs =
    ap (λ l. fill_of p r r.was.given ++ l) (fills-append p rs qs)
    ∙ sym (append_assoc (fill_of p r r.was.given) (fills p rs) (fills p qs))

pub items-append : (xs ys : List Retired) → map item_of (xs ++ ys) ≡ map item_of xs ++ map item_of ys
items-append [] ys = refl
items-append (x ∷ xs) ys = ap (λ l. item_of x ∷ l) (items-append xs ys)

-- what these inputs retire from this state, as items
abbrev pub items_from : AcqConfig → State → List Input → List Item
items_from c s q = map item_of (fills c.p (retired_from c s q))

pub items_from-append : (c : AcqConfig) (s : State) (q r : List Input) → items_from c s (q ++ r) ≡ items_from c s q ++ items_from c (after_from c s q) r
items_from-append c s q r =
    ap (λ l. map item_of (fills c.p l)) (retired_from-append c s q r)
    ∙ (ap (λ l. map item_of l) (fills-append c.p (retired_from c s q) (retired_from c (after_from c s q) r))
    ∙ items-append (fills c.p (retired_from c s q)) (fills c.p (retired_from c (after_from c s q) r)))

-- ---- the events of fills

pub entries-append : (k : ℕ) (es fs : List Event) → entries_of k (es ++ fs) ≡ entries_of k es ++ entries_of k fs
entries-append k [] fs = refl
entries-append k (e ∷ es) fs = ap (λ l. entry k e ∷ l) (entries-append k es fs)

-- What the events of these fills try to put into the output are just these blocks.
filled_tried : (k : ℕ) (x : Retired) (filled : Bool) → tried (entries_of k (filled_or_laid x.place x.buf filled)) ≡ item_of x ∷ []
filled_tried k x true = refl
filled_tried k x false = refl

pub retired_tried : (k : ℕ) (xs : List Retired) (es : List Event) → FillsRetired xs es → tried (entries_of k es) ≡ map item_of xs
retired_tried k [] es is = ap (λ l. tried (entries_of k l)) is
retired_tried k (x ∷ xs) es (filled, rest, is, more) =
    let first : List Event = filled_or_laid x.place x.buf filled in
    ap (λ l. tried (entries_of k l)) is
    ∙ (ap tried (entries-append k first rest)
    ∙ (tried-append (entries_of k first) (entries_of k rest)
    ∙ (ap (λ l. l ++ tried (entries_of k rest)) (filled_tried k x filled)
    ∙ ap (λ l. item_of x ∷ l) (retired_tried k xs rest more))))
