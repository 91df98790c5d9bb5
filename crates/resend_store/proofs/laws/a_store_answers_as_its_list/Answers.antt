use Rattle.resend_store.proofs.Standing.{store_answers}
use Rattle.resend_store.proofs.laws.a_store_answers_as_its_list.Goals as goal

pub returns : goal.returns
returns c = store_answers
