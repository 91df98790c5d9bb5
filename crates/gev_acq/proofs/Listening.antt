-- A datagram that asked for a buffer and was told again.
use Rattle.std.proofs.Common.{◌≡◌, ℕ, Bool, List, [], ◌∷◌, ◌++◌, Option, Some, None, ap, refl, sym, ◌∙◌, subst, append_assoc}
use Rattle.std.specs.Prelude.{is_some}
use Rattle.acquisition_machine.specs.declared.config.AcqConfig.{AcqConfig}
use Rattle.acquisition_machine.specs.declared.need.Need.{Need}
use Rattle.acquisition_machine.specs.declared.need.Need.TheVariants.{Buffer}
use Rattle.acquisition_machine.specs.Machine.{Input, datagram, claimed}
use Rattle.acquisition_machine.specs.TurnLaws.{asked_by}
use Rattle.buffer_words.specs.Passes.{Token}
use Rattle.board_calls.specs.declared.mode.Mode.{Mode}
use Rattle.gev_acq.specs.Claiming.{ClaimsOne}
use Rattle.gev_acq.specs.Heard.{or_zero, kept_by}
use Rattle.gev_acq.specs.Receiving.{TellsOnce, Receives}
use Rattle.gev_acq.proofs.Serves.{serves_then}

twice : (mode : Mode) (c : AcqConfig) (A B C D : List Input → Type 0) (bytes : List ℕ) (block : ℕ) (place : Option ℕ) (need : Need) (kept : Bool) (s t u v : Token)
    → TellsOnce mode c A B bytes (Buffer block) s t → ClaimsOne mode c B C place t u → TellsOnce mode c C D bytes need u v → kept ≡ kept_by (Some need)
    → Receives mode c A D bytes (record { kept = kept; opened = block; claim = place }) s v
twice mode c A B C D bytes block place need kept s t u v first second third is = record {
  given = Some second.given;
  serves = serves_then mode c A B D (datagram bytes ∷ []) (claimed second.given ∷ datagram bytes ∷ []) s t v first.serves
      (serves_then mode c B C D (claimed second.given ∷ []) (datagram bytes ∷ []) t u v second.serves third.serves);
  heard = λ q old. record {
    asked = sym (ap (λ n. is_some (asked_by n)) (first.need_is q old));
    opened = sym (ap (λ n. or_zero (asked_by n)) (first.need_is q old));
    kept = is ∙ sym (ap kept_by (third.need_is (q ++ (datagram bytes ∷ claimed second.given ∷ []))
        (subst C (append_assoc q (datagram bytes ∷ []) (claimed second.given ∷ [])) (second.serves.stands (q ++ datagram bytes ∷ []) (first.serves.stands q old)))));
    claim = second.is;
  };
}

-- a datagram that asked for none
pub heard_once : (mode : Mode) (c : AcqConfig) (A B : List Input → Type 0) (bytes : List ℕ) (need : Need) (s t : Token) → TellsOnce mode c A B bytes need s t
    → asked_by (Some need) ≡ None → Receives mode c A B bytes (record { kept = kept_by (Some need); opened = 0; claim = None }) s t
heard_once mode c A B bytes need s t told none = record {
  given = None;
  serves = told.serves;
  heard = λ q old. record {
    asked = sym (ap (λ n. is_some (asked_by n)) (told.need_is q old) ∙ ap is_some none);
    opened = sym (ap (λ n. or_zero (asked_by n)) (told.need_is q old) ∙ ap or_zero none);
    kept = sym (ap kept_by (told.need_is q old));
    claim = refl;
  };
}

-- the configuration stays
pub heard_twice : (mode : Mode) (c d e : AcqConfig) (A B C D : List Input → Type 0) (bytes : List ℕ) (block : ℕ) (place : Option ℕ) (need : Need) (kept : Bool) (s t u v : Token)
    → d ≡ c → e ≡ d → TellsOnce mode c A B bytes (Buffer block) s t → ClaimsOne mode d B C place t u → TellsOnce mode e C D bytes need u v → kept ≡ kept_by (Some need)
    → Receives mode c A D bytes (record { kept = kept; opened = block; claim = place }) s v
heard_twice mode c d e A B C D bytes block place need kept s t u v one two first second third is =
    twice mode c A B C D bytes block place need kept s t u v first
    (subst (λ (x : AcqConfig). ClaimsOne mode x B C place t u) one second)
    (subst (λ (x : AcqConfig). TellsOnce mode x C D bytes need u v) (two ∙ one) third) is
