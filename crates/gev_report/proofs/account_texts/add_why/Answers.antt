use Rattle.std.proofs.Common.{◌≡◌, ◌++◌, List, ℕ, OnOk, subst}
use Rattle.gev_report.proofs.Joining.{why_is}
use Rattle.gev_report.proofs.account_texts.add_why.Goals as goal

pub returns-clause-text : goal.returns-clause-text
returns-clause-text c =
    subst (λ (l : List ℕ). OnOk c.add.result (c.add.new.out.items ≡ c.args.out.now.items ++ l))
    (why_is c.args.why c.either-two.result c.either-three.result c.either-four.result c.any.result c.text_if.result c.comma_if.result c.text_if-2.result c.comma_if-2.result c.text_if-3.result
    c.comma_if-3.result c.text_if-4.result c.comma_if-4.result c.text_if-5.result c.text_if-6.result c.either-two.ensures c.either-three.ensures c.either-four.ensures c.any.ensures
    c.text_if.ensures c.comma_if.ensures c.text_if-2.ensures c.comma_if-2.ensures c.text_if-3.ensures c.comma_if-3.ensures c.text_if-4.ensures c.comma_if-4.ensures
    c.text_if-5.ensures c.text_if-6.ensures)
    c.add.ensures.text
