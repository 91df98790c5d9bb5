-- What the answers to packets say.
use Rattle.std.proofs.Common.{◌≡◌, inl, inr, ℕ, Bool, true, false, List, [], ◌∷◌, ◌++◌, length, refl, ap, sym, ◌∙◌, arith}
use Rattle.std.proofs.lemmas.Bool.{cases_Bool, false≢true}
use Rattle.std.proofs.lemmas.List.{length-append}
use Rattle.stream_packets.specs.Packets.{StreamPacket, is_notice}
use Rattle.block_image.specs.Kept.{fits, kept, takes}
use Rattle.block_image.proofs.KeptLemmas.{kept-push, keep-taken, keep-left}
use Rattle.block_assembly.specs.declared.verdict.Verdict.TheVariants.{Kept, Misfit, Notice}
use Rattle.block_assembly.specs.Laws.{VerdictsTell}
use Rattle.block_assembly.specs.Verdicts.{verdict_of}
use Rattle.block_assembly.proofs.Accepts.{verdict_by, takes-notice, takes-misfit}

kept_by : (n f t : Bool) → verdict_by n f t ≡ Kept → t ≡ true
kept_by true f t e = absurd (cc)
kept_by false false t e = absurd (cc)
kept_by false true true e = refl
kept_by false true false e = absurd (cc)

to_kept : (n f t : Bool) → (n ≡ true → t ≡ false) → (f ≡ false → t ≡ false) → t ≡ true → verdict_by n f t ≡ Kept
to_kept true f t none misfit e = absurd (false≢true (sym (none refl) ∙ e))
to_kept false false t none misfit e = absurd (false≢true (sym (misfit refl) ∙ e))
to_kept false true true none misfit e = refl
to_kept false true false none misfit e = absurd (false≢true e)

notice_by : (n f t : Bool) → verdict_by n f t ≡ Notice → n ≡ true
notice_by true f t e = refl
notice_by false false t e = absurd (cc)
notice_by false true true e = absurd (cc)
notice_by false true false e = absurd (cc)

to_notice : (n f t : Bool) → n ≡ true → verdict_by n f t ≡ Notice
to_notice true f t e = refl
to_notice false f t e = absurd (false≢true e)

misfit_by : (n f t : Bool) → verdict_by n f t ≡ Misfit → (n ≡ false) × (f ≡ false)
misfit_by true f t e = absurd (cc)
misfit_by false false t e = (refl, refl)
misfit_by false true true e = absurd (cc)
misfit_by false true false e = absurd (cc)

to_misfit : (n f t : Bool) → (n ≡ false) × (f ≡ false) → verdict_by n f t ≡ Misfit
to_misfit true f t e = absurd (false≢true (sym e.0))
to_misfit false false t e = refl
to_misfit false true t e = absurd (false≢true (sym e.1))

longer : (ks : List StreamPacket) (x : StreamPacket) → ks ≡ ks ++ x ∷ [] → ⊥
longer ks x e = omega (arith, ap length e, length-append ks (x ∷ []))

is_kept : (p b : ℕ) (heard : List StreamPacket) (x : StreamPacket) → takes p b (kept p b heard) x ≡ true → verdict_of p b heard x ≡ Kept
is_kept p b heard x t =
    to_kept (is_notice x) (fits p x) (takes p b (kept p b heard) x) (takes-notice p b (kept p b heard) x) (takes-misfit p b (kept p b heard) x) t

pub verdicts_tell : VerdictsTell
verdicts_tell = record {
  grows = λ p b heard x. (
    (λ e. kept-push p b heard x ∙ keep-taken p b (kept p b heard) x (kept_by (is_notice x) (fits p x) (takes p b (kept p b heard) x) e)),
    (λ e. elim (cases_Bool (takes p b (kept p b heard) x)) [
      | inl taken ↦ is_kept p b heard x taken
      | inr left ↦ absurd (longer (kept p b heard) x (sym (kept-push p b heard x ∙ keep-left p b (kept p b heard) x left) ∙ e))
    ]),
  );
  stays = λ p b heard x other. elim (cases_Bool (takes p b (kept p b heard) x)) [
    | inl taken ↦ absurd (other (is_kept p b heard x taken))
    | inr left ↦ kept-push p b heard x ∙ keep-left p b (kept p b heard) x left
  ];
  notices = λ p b heard x. (notice_by (is_notice x) (fits p x) (takes p b (kept p b heard) x), to_notice (is_notice x) (fits p x) (takes p b (kept p b heard) x));
  misfits = λ p b heard x. (misfit_by (is_notice x) (fits p x) (takes p b (kept p b heard) x), to_misfit (is_notice x) (fits p x) (takes p b (kept p b heard) x));
}
