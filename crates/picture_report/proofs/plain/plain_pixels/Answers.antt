use Rattle.std.proofs.Common.{◌≡◌, ℕ, ◌*◌, ◌≤◌, length, take, refl, ap, ◌∙◌, subst}
use Rattle.picture_report.proofs.PlainRows.{plain_rows}
use Rattle.picture_report.proofs.plain.plain_pixels.Goals as goal

-- as many bytes are there
enough : (n m rows columns len : ℕ) → n ≡ rows → m ≡ columns → n * m ≤ len → rows * columns ≤ len
enough n m rows columns len is_rows is_columns few = subst (λ k. k * columns ≤ len) is_rows (subst (λ k. n * k ≤ len) is_columns few)

pub returns : goal.returns
returns c =
    ap (λ n. take (n * c.from-2.result) c.args.image.now) c.from.ensures
    ∙ ap (λ n. take (c.args.info.rows * n) c.args.image.now) c.from-2.ensures
    ∙ plain_rows c.args.samples c.args.info c.args.image.now (c.if-not-is_plain.ensures.samples refl) (c.if-not-is_plain.ensures.padding refl)
    (enough c.from.result c.from-2.result c.args.info.rows c.args.info.size_x (length c.args.image.now) c.from.ensures c.from-2.ensures c.if-count-image.false)
