use Rattle.note_report.proofs.Rows.{ended_words_are_outcomes}
use Rattle.note_report.proofs.laws.ended_words_are_outcomes.Goals as goal

pub returns : goal.returns
returns c = ended_words_are_outcomes
