-- Places that come free one after the other, and a take for each.
use Rattle.std.proofs.Common.{◌≡◌, ℕ, ◌+◌, ◌<◌, List, [], ◌++◌, length, map, drop, get_or, sym, ap, ◌∙◌}
use Rattle.std.proofs.lemmas.List.{drop_more}
use Rattle.gev_script.specs.Lines as line
use Rattle.gev_script.specs.Lines.{ScriptLine}
use Rattle.take_lines.specs.Texts.{text_of, take_lines}
use Rattle.take_lines.proofs.Texts.{take_for_each}
use Rattle.gev_record.specs.declared.used.Used.{Used}
use Rattle.gev_record.specs.Places.{freed, all_freed}

-- From here on those that are left free what all of them do.
abbrev pub IsFreeing : List ℕ → List ℕ → Used → Used → Type 0
IsFreeing all left used now = all_freed all used ≡ all_freed left now

pub freeing_goes_on : (n : ℕ) (all : List ℕ) (d : ℕ) (used was is : Used) → n < length all → IsFreeing all (drop n all) used was → is ≡ freed (get_or all n d) was
    → IsFreeing all (drop (n + 1) all) used is
freeing_goes_on n all d used was is less t free =
    t ∙ ap (λ (l : List ℕ). all_freed l was) (drop_more all n d less) ∙ ap (all_freed (drop (n + 1) all)) (sym free)

pub freed_all_of : (all left : List ℕ) (used now : Used) → left ≡ [] → IsFreeing all left used now → now ≡ all_freed all used
freed_all_of all left used now none t = sym (t ∙ ap (λ (l : List ℕ). all_freed l now) none)

-- as many takes are a take for each
pub takes_of_each : (back : List ℕ) (old new : List ℕ) → new ≡ old ++ text_of (take_lines (length back)) → new ≡ old ++ text_of (map (λ i. line.take) back)
takes_of_each back old new said = said ∙ ap (λ (ls : List ScriptLine). old ++ text_of ls) (take_for_each back)
