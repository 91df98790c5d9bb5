-- What is printed of a block that retired are the words of its note.
use Rattle.std.proofs.Common.{◌≡◌, Bool, Option, Some, None, sym, ap, ◌∙◌}
use Rattle.gentl_types.specs.declared.buffer_id.BufferId.{BufferId}
use Rattle.block_assembly.specs.Accounts.{account_of}
use Rattle.board_machine.specs.Ids.{buffer_at}
use Rattle.acquisition_machine.specs.Blocks.{Given, kept_in}
use Rattle.gev_types.specs.declared.block_account.Cause.{Cause}
use Rattle.acq_core.specs.declared.ended.Ended.{Ended}
use Rattle.acq_core.specs.declared.ended.Held.{Held}
use Rattle.acquisition_machine.specs.Blocks.{cause_of}
use Rattle.script_trace.specs.Notes.{Note}
use Rattle.script_trace.specs.Texts.{words_of}
use Rattle.note_report.specs.Ended.{ended_words, unbuffered_words}
use Rattle.note_report.proofs.Rows.{ended_words_are_outcomes}
use Rattle.note_tape.specs.Telling.{IsEnd, IsEndWith}

none_is_some : (held : Held) → None ≡ Some held → ⊥
none_is_some held e = cc

no_buffer_is_some : (id : BufferId) → None ≡ Some id → ⊥
no_buffer_is_some id e = cc

some_is : (a b : Held) → Some a ≡ Some b → a ≡ b
some_is a b e = cc

some_id : (a b : BufferId) → Some a ≡ Some b → a ≡ b
some_id a b e = cc

-- a block with a buffer
pub done_words : (end : Ended) (held : Held) (id : BufferId) (buffer : Option BufferId) (filled : Bool) (note : Note) → IsEnd end buffer filled note → end.held ≡ Some held → buffer ≡ Some id
    → ended_words end.block id end.cause held.account filled ≡ words_of note
done_words end held id buffer filled note is has mine = go is.given is.noted
  where
    go : (given : Option Given) → IsEndWith end buffer filled is.config is.board is.cause is.was given note → ended_words end.block id end.cause held.account filled ≡ words_of note
    go None n = absurd (none_is_some held (sym n.0 ∙ has))
    go (Some g) n =
        let held_is : held ≡ record { place = g.place; account = account_of is.config.p g.size (kept_in is.config.p is.was) } = some_is held _ (sym has ∙ n.0) in
        let id_is : id ≡ buffer_at is.board g.place = some_id id (buffer_at is.board g.place) (sym mine ∙ n.1) in
        ap (λ k. ended_words k id end.cause held.account filled) is.block
        ∙ (ap (λ (i : BufferId). ended_words is.was.block i end.cause held.account filled) id_is
        ∙ (ap (λ (k : Cause). ended_words is.was.block (buffer_at is.board g.place) k held.account filled) is.because
        ∙ (ap (λ (h : Held). ended_words is.was.block (buffer_at is.board g.place) (cause_of is.cause) h.account filled) held_is
        ∙ (ap (λ (f : Bool). ended_words is.was.block (buffer_at is.board g.place) (cause_of is.cause) (account_of is.config.p g.size (kept_in is.config.p is.was)) f) n.2
        ∙ (ended_words_are_outcomes.done is.config is.board is.was is.cause g ∙ ap words_of (sym n.3))))))

-- it had one
pub has_buffer : (end : Ended) (held : Held) (buffer : Option BufferId) (filled : Bool) (note : Note) → IsEnd end buffer filled note → end.held ≡ Some held → buffer ≡ None → ⊥
has_buffer end held buffer filled note is has none = go is.given is.noted
  where
    go : (given : Option Given) → IsEndWith end buffer filled is.config is.board is.cause is.was given note → ⊥
    go None n = none_is_some held (sym n.0 ∙ has)
    go (Some g) n = no_buffer_is_some (buffer_at is.board g.place) (sym none ∙ n.1)

-- a block without a buffer
pub unbuffered_is : (end : Ended) (buffer : Option BufferId) (filled : Bool) (note : Note) → IsEnd end buffer filled note → end.held ≡ None → unbuffered_words end.block end.cause ≡ words_of note
unbuffered_is end buffer filled note is none = go is.given is.noted
  where
    go : (given : Option Given) → IsEndWith end buffer filled is.config is.board is.cause is.was given note → unbuffered_words end.block end.cause ≡ words_of note
    go None n =
        ap (λ k. unbuffered_words k end.cause) is.block
        ∙ (ap (λ (k : Cause). unbuffered_words is.was.block k) is.because
        ∙ (ended_words_are_outcomes.unbuffered is.was.block is.cause ∙ ap words_of (sym n.2)))
    go (Some g) n = absurd (none_is_some _ (sym none ∙ n.0))
