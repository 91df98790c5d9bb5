-- Fills that were recorded are the fills that the definitions compute.
use Rattle.std.proofs.Common.{◌≡◌, ℕ, Bool, true, false, not, List, [], ◌∷◌, ◌++◌, refl, sym, ap, subst, ◌∙◌}
use Rattle.gev_types.specs.Filling.{Filling}
use Rattle.board_machine.specs.declared.events.Event.{Event}
use Rattle.board_machine.specs.declared.events.Entry.{Entry}
use Rattle.board_machine.specs.Machine.{Board}
use Rattle.board_machine.specs.Adding.{entries_of}
use Rattle.board_machine.specs.Histories.{after_from, RunsFrom}
use Rattle.board_machine.proofs.Adding.{entries_of-append}
use Rattle.board_machine.proofs.Runs.{after-append, runs_rest}
use Rattle.board_calls.specs.Rounds.{filled_or_laid}
use Rattle.acquisition_machine.specs.declared.retired.Retired.{Retired}
use Rattle.script_trace.specs.Trace.{acquirer}
use Rattle.block_fills.specs.Fills.{FillsRetired}
use Rattle.world_laws.specs.Receiver.{acts_on, fills_all}

-- a fill is answered by the close mark
fill_answer : (b : Board) (i : ℕ) (f : Filling) (filled : Bool) (rest : List Event) → RunsFrom b (entries_of acquirer (filled_or_laid i f filled ++ rest)) → filled ≡ not b.closed
fill_answer b i f true rest runs = ap not (sym runs.0.meets.2)
fill_answer b i f false rest runs = ap not (sym runs.0.meets.2)

pub fills_compute : (xs : List Retired) (es : List Event) (b : Board) → FillsRetired xs es → RunsFrom b (entries_of acquirer es) → after_from b (entries_of acquirer es) ≡ fills_all xs b
fills_compute [] es b none runs = ap (λ fs. after_from b (entries_of acquirer fs)) none
fills_compute (x ∷ xs) es b (filled, rest, is, more) runs =
    let first : List Event = filled_or_laid x.place x.buf filled in
    let mid : Board = after_from b (entries_of acquirer first) in
    let now : RunsFrom b (entries_of acquirer (first ++ rest)) = subst (λ fs. RunsFrom b (entries_of acquirer fs)) is runs in
    let joined : entries_of acquirer (first ++ rest) ≡ entries_of acquirer first ++ entries_of acquirer rest = entries_of-append acquirer first rest in
    let both : RunsFrom b (entries_of acquirer first ++ entries_of acquirer rest) = subst (λ (h : List Entry). RunsFrom b h) joined now in
    ap (λ fs. after_from b (entries_of acquirer fs)) is
    ∙ (ap (λ h. after_from b h) joined
    ∙ (after-append b (entries_of acquirer first) (entries_of acquirer rest)
    ∙ (fills_compute xs rest mid more (runs_rest b (entries_of acquirer first) (entries_of acquirer rest) both)
    ∙ ap (λ (answer : Bool). fills_all xs (acts_on acquirer (filled_or_laid x.place x.buf answer) b)) (fill_answer b x.place x.buf filled rest now))))

-- what a fill leaves as it is where the stream isn't closed
pub record LeavesOpen (b new : Board) : Type 0 where
  pub words : new.words ≡ b.words
  pub closed : new.closed ≡ b.closed
  pub kill : new.kill ≡ b.kill
  pub run : new.run ≡ b.run

one_leaves : (x : Retired) (b : Board) (answer : Bool) → answer ≡ true → LeavesOpen b (acts_on acquirer (filled_or_laid x.place x.buf answer) b)
one_leaves x b true e = record { words = refl; closed = refl; kill = refl; run = refl }
one_leaves x b false e = absurd cc

pub fills_leave : (xs : List Retired) (b : Board) → b.closed ≡ false → LeavesOpen b (fills_all xs b)
fills_leave [] b opened = record { words = refl; closed = refl; kill = refl; run = refl }
fills_leave (x ∷ xs) b opened =
    let mid : Board = acts_on acquirer (filled_or_laid x.place x.buf (not b.closed)) b in
    let one : LeavesOpen b mid = one_leaves x b (not b.closed) (ap not opened) in
    let rest : LeavesOpen mid (fills_all xs mid) = fills_leave xs mid (one.closed ∙ opened) in
    record { words = rest.words ∙ one.words; closed = rest.closed ∙ one.closed; kill = rest.kill ∙ one.kill; run = rest.run ∙ one.run }
