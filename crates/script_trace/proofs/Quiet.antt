-- What the acquisition does beside its fills: claims, takes and poolings. They try no fill, and leave the run
-- word.
use Rattle.std.proofs.Common.{◌≡◌, ◌⊎◌, inl, inr, ℕ, Bool, true, false, List, [], ◌∷◌, ◌++◌, map, refl, sym, ap, subst, ◌∙◌, append_assoc}
use Rattle.std.specs.Prelude.{⊤, Option, Some, None}
use Rattle.std.specs.List.{AllByRecursion}
use Rattle.gev_types.specs.Filling.{Filling}
use Rattle.board_machine.specs.declared.events.Event.{Event}
use Rattle.board_machine.specs.declared.events.Event.TheVariants.{Claim, Take, Pool, Fill}
use Rattle.board_machine.specs.Adding.{entries_of}
use Rattle.board_calls.specs.Rounds.{filled_or_laid}
use Rattle.acquisition_machine.specs.declared.retired.Retired.{Retired}
use Rattle.acquisition_machine.proofs.Order.{all_append}
use Rattle.block_fills.specs.Fills.{tried_by, tried, item_of}
use Rattle.block_fills.proofs.Tries.{tried-append, entries-append}
use Rattle.board_calls.specs.declared.mode.Mode.{Mode}
use Rattle.board_calls.specs.declared.mode.Mode.TheVariants.{OldestFirst, OldestFirstOverwrite, NewestOnly}
use Rattle.board_calls.specs.Modes.{ClaimsOnly, ClaimsOrTakes, ClaimsFor, takes_and_pools, DropsUntilNothing, DropsAll, DropsFor}
use Rattle.script_trace.specs.Modes.{laid_unless, FillsBlock, FillsInMode}
use Rattle.script_trace.proofs.RunWord.{KeepsRun, KeepRun}

abbrev pub IsQuiet : Event → Type 0
IsQuiet (Claim answer) = ⊤
IsQuiet (Take end) = ⊤
IsQuiet (Pool i) = ⊤
IsQuiet _ = ⊥

abbrev pub AreQuiet : List Event → Type 0
AreQuiet es = AllByRecursion IsQuiet es

quiet_along : (es fs : List Event) → es ≡ fs → AreQuiet fs → AreQuiet es
quiet_along es fs is h = subst AreQuiet (sym is) h

pools_quiet : (is : List ℕ) → AreQuiet (takes_and_pools is)
pools_quiet [] = tt
pools_quiet (i ∷ is) = (tt, (tt, pools_quiet is))

newest_quiet : (dropped : List ℕ) (es : List Event) → DropsUntilNothing dropped es ⊎ DropsAll dropped es → AreQuiet es
newest_quiet dropped es (inl d) =
    quiet_along es (takes_and_pools dropped ++ Take d.end ∷ []) d.is (all_append IsQuiet (takes_and_pools dropped) (Take d.end ∷ []) (pools_quiet dropped) (tt, tt))
newest_quiet dropped es (inr d) = quiet_along es (takes_and_pools dropped) d.is (pools_quiet dropped)

pub drops_quiet : (mode : Mode) (dropped : List ℕ) (es : List Event) → DropsFor mode dropped es → AreQuiet es
drops_quiet OldestFirst dropped es (none, is) = quiet_along es [] is tt
drops_quiet OldestFirstOverwrite dropped es (none, is) = quiet_along es [] is tt
drops_quiet NewestOnly dropped es drops = newest_quiet dropped es drops

only_quiet : (claim : Option (ℕ × Bool)) (es : List Event) → ClaimsOnly claim es → AreQuiet es
only_quiet None es is = quiet_along es (Claim None ∷ []) is (tt, tt)
only_quiet (Some (i, false)) es is = quiet_along es (Claim (Some i) ∷ []) is (tt, tt)
only_quiet (Some (i, true)) es h = absurd h

takes_quiet : (claim : Option (ℕ × Bool)) (es : List Event) → ClaimsOrTakes claim es → AreQuiet es
takes_quiet None es (end, nothing, is) = quiet_along es (Claim None ∷ Take end ∷ []) is (tt, (tt, tt))
takes_quiet (Some (i, false)) es is = quiet_along es (Claim (Some i) ∷ []) is (tt, tt)
takes_quiet (Some (i, true)) es is = quiet_along es _ is (tt, (tt, tt))

pub claims_quiet : (mode : Mode) (claim : Option (ℕ × Bool)) (es : List Event) → ClaimsFor mode claim es → AreQuiet es
claims_quiet OldestFirst claim es claims = only_quiet claim es claims
claims_quiet OldestFirstOverwrite claim es claims = takes_quiet claim es claims
claims_quiet NewestOnly claim es claims = takes_quiet claim es claims

-- ---- no fill is tried, and the run word stays

quiet_by : (e : Event) → IsQuiet e → tried_by e ≡ []
quiet_by (Claim answer) h = refl
quiet_by (Take end) h = refl
quiet_by (Pool i) h = refl
quiet_by _ h = absurd h

pub quiet_tried : (k : ℕ) (es : List Event) → AreQuiet es → tried (entries_of k es) ≡ []
quiet_tried k [] h = refl
quiet_tried k (e ∷ es) h = ap (λ l. l ++ tried (entries_of k es)) (quiet_by e h.0) ∙ quiet_tried k es h.1

quiet_keeps : (e : Event) → IsQuiet e → KeepsRun e
quiet_keeps (Claim answer) h = tt
quiet_keeps (Take end) h = tt
quiet_keeps (Pool i) h = tt
quiet_keeps _ h = absurd h

pub quiet_keep : (es : List Event) → AreQuiet es → KeepRun es
quiet_keep [] h = tt
quiet_keep (e ∷ es) h = (quiet_keeps e h.0, quiet_keep es h.1)

-- ---- fills by the mode

-- what is dropped, and then a fill
pub record BlockParts (mode : Mode) (x : Retired) (es : List Event) : Type 0 where
  pub dropped : List ℕ
  pub front : List Event
  pub filled : Bool
  pub drops : DropsFor mode dropped front
  pub quiet : AreQuiet front
  pub is : es ≡ front ++ filled_or_laid x.place x.buf filled

with_laid : (i : ℕ) (f : Filling) (filled : Bool) → Fill i f filled ∷ laid_unless filled i ≡ filled_or_laid i f filled
with_laid i f true = refl
with_laid i f false = refl

pub block_parts : (mode : Mode) (x : Retired) (es : List Event) → FillsBlock mode x es → BlockParts mode x es
block_parts mode x es b = record {
  dropped = b.dropped;
  front = b.fills.front;
  filled = b.filled;
  drops = b.fills.drops;
  quiet = drops_quiet mode b.dropped b.fills.front b.fills.drops;
  is =
      b.is
      ∙ (ap (λ l. l ++ laid_unless b.filled x.place) b.fills.is
      ∙ (append_assoc b.fills.front (Fill x.place x.buf b.filled ∷ []) (laid_unless b.filled x.place)
      ∙ ap (λ l. b.fills.front ++ l) (with_laid x.place x.buf b.filled)));
}

-- drops and a fill are one
pub fills_block : (mode : Mode) (x : Retired) (places : List ℕ) (front : List Event) (filled : Bool) → DropsFor mode places front
    → FillsBlock mode x (front ++ filled_or_laid x.place x.buf filled)
fills_block mode x places front filled drops = record {
  dropped = places;
  filled = filled;
  call = front ++ Fill x.place x.buf filled ∷ [];
  fills = record { front = front; drops = drops; is = refl };
  is =
      sym (append_assoc front (Fill x.place x.buf filled ∷ []) (laid_unless filled x.place)
      ∙ ap (λ l. front ++ l) (with_laid x.place x.buf filled));
}

fill_tried : (k : ℕ) (x : Retired) (filled : Bool) → tried (entries_of k (filled_or_laid x.place x.buf filled)) ≡ item_of x ∷ []
fill_tried k x true = refl
fill_tried k x false = refl

block_tried : (k : ℕ) (mode : Mode) (x : Retired) (es : List Event) → FillsBlock mode x es → tried (entries_of k es) ≡ item_of x ∷ []
block_tried k mode x es b =
    let p : BlockParts mode x es = block_parts mode x es b in
    let fill : List Event = filled_or_laid x.place x.buf p.filled in
    ap (λ l. tried (entries_of k l)) p.is
    ∙ (ap tried (entries-append k p.front fill)
    ∙ (tried-append (entries_of k p.front) (entries_of k fill)
    ∙ (ap (λ l. l ++ tried (entries_of k fill)) (quiet_tried k p.front p.quiet) ∙ fill_tried k x p.filled)))

-- what the fills try is what retires
pub retired_tried : (k : ℕ) (mode : Mode) (xs : List Retired) (es : List Event) → FillsInMode mode xs es → tried (entries_of k es) ≡ map item_of xs
retired_tried k mode [] es is = ap (λ l. tried (entries_of k l)) is
retired_tried k mode (x ∷ xs) es (first, rest, parts, block, more) =
    ap (λ l. tried (entries_of k l)) parts
    ∙ (ap tried (entries-append k first rest)
    ∙ (tried-append (entries_of k first) (entries_of k rest)
    ∙ (ap (λ l. l ++ tried (entries_of k rest)) (block_tried k mode x first block)
    ∙ ap (λ l. item_of x ∷ l) (retired_tried k mode xs rest more))))

fill_keep : (i : ℕ) (f : Filling) (filled : Bool) → KeepRun (filled_or_laid i f filled)
fill_keep i f true = (tt, tt)
fill_keep i f false = (tt, (tt, tt))

block_keep : (mode : Mode) (x : Retired) (es : List Event) → FillsBlock mode x es → KeepRun es
block_keep mode x es b =
    let p : BlockParts mode x es = block_parts mode x es b in
    subst KeepRun (sym p.is)
    (all_append KeepsRun p.front (filled_or_laid x.place x.buf p.filled) (quiet_keep p.front p.quiet) (fill_keep x.place x.buf p.filled))

pub retired_keep : (mode : Mode) (xs : List Retired) (es : List Event) → FillsInMode mode xs es → KeepRun es
retired_keep mode [] es is = subst KeepRun (sym is) tt
retired_keep mode (x ∷ xs) es (first, rest, parts, block, more) =
    subst KeepRun (sym parts) (all_append KeepsRun first rest (block_keep mode x first block) (retired_keep mode xs rest more))
