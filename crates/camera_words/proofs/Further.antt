-- Words behind the last that a command takes.
use Rattle.std.proofs.Common.{◌≡◌, ℕ, List, map, Some, None, Ok, Err, ap, sym, ◌∙◌}
use Rattle.std.specs.List.{slice_get}
use Rattle.std.specs.Option.{option_map}
use Rattle.std.proofs.lemmas.Option.{slice_get-map}
use Rattle.camera_words.specs.Words.{Said, and_none, camera_of}
use Rattle.camera_words.specs.SimulateWords.{◌>>=◌, setting_of, none_of, no_settings, simulation, simulate_of}
use Rattle.camera_words.specs.declared.simulate_words.SimulateSettings.{SimulateSettings}

module _ {A : Type 0} (text_of : A → List ℕ) (words : List A) (place : ℕ) (said : ℕ) where
  pub one_further : (word : A) (r : Said ℕ) → slice_get words place ≡ Some word → Ok said ≡ r → Err place ≡ and_none place (slice_get (map text_of words) place) r
  one_further word r there was =
      sym (ap (λ w. and_none place w (Ok said)) (slice_get-map text_of words place ∙ ap (option_map text_of) there))
      ∙ ap (and_none place (slice_get (map text_of words) place)) was

  pub none_further : (r : Said ℕ) → slice_get words place ≡ None → Ok said ≡ r → Ok said ≡ and_none place (slice_get (map text_of words) place) r
  none_further r none was =
      sym (ap (λ w. and_none place w (Ok said)) (slice_get-map text_of words place ∙ ap (option_map text_of) none))
      ∙ ap (and_none place (slice_get (map text_of words) place)) was

-- what the words of `simulate` ask for, by what each of them says
pub simulated : {A : Type 0} (text_of : A → List ℕ) (words : List A) (address : ℕ) (first second third fourth : SimulateSettings) (rest : Said (Unit {0}))
    → Ok address ≡ camera_of 1 (slice_get (map text_of words) 1)
    → Ok first ≡ setting_of 2 (slice_get (map text_of words) 2) no_settings
    → Ok second ≡ setting_of 3 (slice_get (map text_of words) 3) first
    → Ok third ≡ setting_of 4 (slice_get (map text_of words) 4) second
    → Ok fourth ≡ setting_of 5 (slice_get (map text_of words) 5) third
    → rest ≡ none_of 6 (slice_get (map text_of words) 6)
    → (rest >>= (λ done. Ok (simulation address fourth))) ≡ simulate_of (map text_of words)
simulated text_of words address first second third fourth rest a b c d e f = rw (← a, ← b, ← c, ← d, ← e, ← f)
