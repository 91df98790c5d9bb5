use Rattle.std.proofs.Common.{inl, inr, sym, ◌∙◌, ap}
use Rattle.std.specs.Prelude.{not}
use Rattle.std.proofs.lemmas.Bool.{cases_Bool}
use Rattle.block_assembly.proofs.Missed.{lacks_by_trailer, lacks_by_bitmap, lacks_none}
use Rattle.block_assembly.proofs.account.lacks_payload.Goals as goal

pub returns-then-is_trailer_within : goal.returns-then-is_trailer_within
returns-then-is_trailer_within c ks s =
    c.if-is_trailer_within.true ∙ sym (ap not (lacks_by_trailer c.args.assembly.now c.args.last ks s (sym c.is_trailer_within.ensures ∙ c.if-is_trailer_within.true)))

pub returns-else-is_trailer_within : goal.returns-else-is_trailer_within
returns-else-is_trailer_within c ks s = elim (cases_Bool c.is_some_clear.result) [
  | inl there ↦ there ∙ sym (ap not (lacks_by_bitmap c.args.assembly.now c.args.last ks s (c.is_some_clear.ensures.some there)))
  | inr none ↦
      none ∙ sym (ap not (lacks_none c.args.assembly.now c.args.last ks s (sym c.is_trailer_within.ensures ∙ c.if-is_trailer_within.false) (c.is_some_clear.ensures.none none)))
]
