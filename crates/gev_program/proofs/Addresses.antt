-- What is so of a run's addresses, once its links were bound.
use Rattle.std.proofs.Common.{◌≡◌, List, [], ◌∷◌, Option, Some, None, sym, subst}
use Rattle.std.specs.Prelude.{IfSome}
use Rattle.gev_links.specs.Links.{Address}
use Rattle.gev_program.specs.Bound.{AllToldOfThree}
use Rattle.gev_program.specs.Runs.{IsBound}

-- Of what was kept, with links and clocks that stood still meanwhile.
pub bound_so : {K L C : Type 0} (kept : Option K) (runs : K → Address → Address → L → C → Type 0) (bound bound_then bound_after : Option (List Address)) (links links_then : L) (clocks clocks_then : C)
    (camera stream control : Address) → AllToldOfThree bound bound_then (camera ∷ stream ∷ control ∷ []) → bound_after ≡ bound_then → links_then ≡ links → clocks_then ≡ clocks
    → IfSome kept (λ k. runs k camera stream links_then clocks_then) → IfSome kept (λ k. IsBound bound bound_after (λ first second. runs k first second links clocks))
bound_so None runs bound bound_then bound_after links links_then clocks clocks_then camera stream control told same still steady so = tt
bound_so (Some k) runs bound bound_then bound_after links links_then clocks clocks_then camera stream control told same still steady so = record {
  camera = camera;
  stream = stream;
  control = control;
  are = subst (λ b. AllToldOfThree bound b (camera ∷ stream ∷ control ∷ [])) (sym same) told;
  so = subst (λ l. runs k camera stream l clocks) still (subst (λ d. runs k camera stream links_then d) steady so);
}
