-- The words of a block that retired, by what the receiver tells of it.
use Rattle.std.specs.Prelude.{◌≡◌, ℕ, not, Bool, List, [], ◌∷◌, codes}
use Rattle.std.specs.List.{concat}
use Rattle.std.specs.Fmt.{decimal}
use Rattle.gentl_types.specs.declared.buffer_id.BufferId.{BufferId}
use Rattle.block_assembly.specs.declared.account.Account.{Account}
use Rattle.block_assembly.specs.Accounts.{account_of}
use Rattle.board_machine.specs.Machine.{Board}
use Rattle.board_machine.specs.Ids.{buffer_at}
use Rattle.acquisition_machine.specs.declared.config.AcqConfig.{AcqConfig}
use Rattle.acquisition_machine.specs.Blocks.{Given, Open, kept_in}
use Rattle.acquisition_machine.specs.Blocks.{Cause as Reason}
use Rattle.gev_types.specs.declared.block_account.Cause.{Cause}
use Rattle.acquisition_machine.specs.Blocks.{cause_of}
use Rattle.script_trace.specs.Notes.{done, unbuffered}
use Rattle.script_trace.specs.Inputs.{outcome_of}
use Rattle.script_trace.specs.Texts.{id_text, flag_text, words_of}
use Rattle.gev_report.specs.AccountTexts.{cause_word, why_text, lost_text}

abbrev pub ended_words : ℕ → BufferId → Cause → Account → Bool → List ℕ
ended_words block id cause account out = concat (
    codes "done block=" ∷ decimal block ∷ codes " buffer=" ∷ id_text id ∷ codes " cause=" ∷ cause_word cause
    ∷ codes " complete=" ∷ flag_text account.complete ∷ codes " kept=" ∷ decimal account.kept ∷ codes " missing=" ∷ decimal account.lost.ids
    ∷ codes " why=" ∷ why_text account.why ∷ codes " ids=" ∷ lost_text account.lost ∷ codes " out=" ∷ flag_text out ∷ [])

abbrev pub unbuffered_words : ℕ → Cause → List ℕ
unbuffered_words block cause = concat (codes "done block=" ∷ decimal block ∷ codes " buffer=none cause=" ∷ cause_word cause ∷ [])

-- These are the words of the block's note.
pub record EndedWordsAreOutcomes : Type 0 where
  pub done :
      (c : AcqConfig) (b : Board) (o : Open) (cause : Reason) (g : Given)
      → ended_words o.block (buffer_at b g.place) (cause_of cause) (account_of c.p g.size (kept_in c.p o)) (not b.closed)
      ≡ words_of (done (outcome_of c b o cause g))
  pub unbuffered : (block : ℕ) (cause : Reason) → unbuffered_words block (cause_of cause) ≡ words_of (unbuffered block cause)
