-- The history of a run over a camera's frames, by what the preparation, the splits, the workers and the joins ensured.
use Rattle.std.proofs.Common.{inl, inr, ℕ, List, [], ◌∷◌, ◌++◌, refl, ap, subst, ◌∙◌, arith}
use Rattle.board_machine.specs.declared.events.Entry.{Entry}
use Rattle.board_machine.specs.Histories.{Run, After}
use Rattle.board_machine.specs.Owners.{IsOwned}
use Rattle.board_machine.specs.Handout.{IsLegal}
use Rattle.board_machine.specs.Kinds.{HasNone, is_close, is_fill_refused}
use Rattle.board_machine.specs.declared.events.Event.TheVariants.{Join}
use Rattle.board_machine.proofs.Places.{same_self}
use Rattle.board_machine.proofs.Quiet.{open_takes_fills}
use Rattle.buffer_words.specs.Passes.{Token, own}
use Rattle.buffer_words.specs.Workers.{AreOf, OnlyBy, Works, HostedAll}
use Rattle.buffer_words.proofs.Working.{works_own}
use Rattle.live_crew.specs.Prepared.{Prepares, SawOnly}
use Rattle.live_crew.specs.Kinds.{is_hosts}
use Rattle.live_crew.proofs.Crews.{home_worker}
use Rattle.board_calls.specs.declared.mode.Mode.{Mode}
use Rattle.board_calls.specs.declared.mode.Mode.TheVariants.{OldestFirst, OldestFirstOverwrite, NewestOnly}
use Rattle.gev_acq.specs.Kinds.{is_readers, is_strict_readers}
use Rattle.gev_apply.specs.Kinds.{is_applications}
use Rattle.gev_live.specs.Kinds.{is_live, is_filling, is_taking, is_handing}
use Rattle.gev_live.specs.Acquirers.{takers}
use Rattle.gev_live.proofs.Apart.{is_other, hosts_live, readers_live, applications_live, hosts_fill, applications_fill, hosts_hand, strict_hand, hosts_take, strict_take, childless_readers, childless_strict, childless_applications, all_live, strict_live}
use Rattle.gev_live.proofs.Quiet.{never_closed, own_none}
use Rattle.gev_live.proofs.Stories.{seen_more, home_own}
use Rattle.gev_receive.specs.Frames.{Pair, FramesHistory}
use Rattle.live_promises.proofs.Crew.{PairHome, pair_hosted, pair_apart}

abbrev pub pair_of : Token → Token → Pair
pair_of a b = record { reader = a.number; application = b.number }

-- What the preparation, the splits, the reader a, the application b and the joins ensured, from the empty board on.
pub record Story (mode : Mode) (size buffers : ℕ) (s one two home u a worked_a b worked_b : Token) : Type 0 where
  pub prepared : SawOnly (Prepares size buffers) s
  pub pair : PairHome s one two home u a worked_a b worked_b
  pub reader : Works (is_readers mode) a worked_a
  pub application : Works is_applications b worked_b
  -- where no fill was refused the reader laid nothing
  pub strict : HasNone is_fill_refused (own worked_a) → AreOf (is_strict_readers mode) (own worked_a)
  pub owned : IsOwned (After u.seen)
  pub legal : IsLegal u.seen

none_refused : (h : List Entry) → Run h → HasNone is_close h → HasNone is_fill_refused h
none_refused h run none = open_takes_fills [] h run refl none

-- Who takes and pools by the mode.
takes_alone : (mode : Mode) (front seen : List Entry) (a b : Token) (worked_a worked_b : Token)
    → (hosted : HostedAll front is_hosts seen (home_worker is_applications b worked_b ∷ home_worker (is_strict_readers mode) a worked_a ∷ []))
    → OnlyBy is_taking (takers mode b.number (a.number ∷ [])) hosted.since
takes_alone OldestFirst front seen a b worked_a worked_b hosted =
    hosted.only is_taking (b.number ∷ []) (inr hosts_take) (inl (omega (arith, same_self b.number)), (inr strict_take, tt))
takes_alone OldestFirstOverwrite front seen a b worked_a worked_b hosted =
    hosted.only is_taking (b.number ∷ a.number ∷ []) (inr hosts_take) (inl (omega (arith, same_self b.number)), (inl (omega (arith, same_self a.number)), tt))
takes_alone NewestOnly front seen a b worked_a worked_b hosted =
    hosted.only is_taking (b.number ∷ a.number ∷ []) (inr hosts_take) (inl (omega (arith, same_self b.number)), (inl (omega (arith, same_self a.number)), tt))

pub frames_history : (mode : Mode) (size buffers : ℕ) (s one two home u a worked_a b worked_b : Token) → Story mode size buffers s one two home u a worked_a b worked_b
    → FramesHistory mode size buffers (pair_of a b) u.seen
frames_history mode size buffers s one two home u a worked_a b worked_b w = record {
  run = w.pair.ended_run;
  owned = w.owned;
  legal = w.legal;
  alone = tight.alone;
  apart = pair_apart s one two home u a worked_a b worked_b w.pair;
  entries = tight.entries;
  prepared = w.prepared.events;
  prepares = w.prepared.kind;
  since = tight.since;
  begins = tight.seen_since ∙ ap (λ l. l ++ tight.since) w.prepared.seen;
  kinds = live tight.since (tight.only is_other [] (inr hosts_live) (inr applications_live, (inr (strict_live mode), tt)));
  fills = tight.only is_filling (a.number ∷ []) (inr hosts_fill) (inr applications_fill, (inl (omega (arith, same_self a.number)), tt));
  takes = takes_alone mode s.seen u.seen a b worked_a worked_b tight;
  hands = tight.only is_handing (b.number ∷ []) (inr hosts_hand) (inl (omega (arith, same_self b.number)), (inr (strict_hand mode), tt));
}
  where
    live : (es : List Entry) → OnlyBy is_other [] es → AreOf is_live es
    live es only = all_live es only

    of_a : AreOf (is_readers mode) (own worked_a)
    of_a = works_own (is_readers mode) a worked_a w.pair.first.new w.reader

    of_b : AreOf is_applications (own worked_b)
    of_b = works_own is_applications b worked_b w.pair.second.new w.application

    loose : HostedAll s.seen is_hosts u.seen (home_worker is_applications b worked_b ∷ home_worker (is_readers mode) a worked_a ∷ [])
    loose = pair_hosted s one two home u a worked_a b worked_b (is_readers mode) is_applications w.pair of_a of_b (childless_readers mode) childless_applications

    unclosed : HasNone is_close u.seen
    unclosed = never_closed size buffers w.prepared.events loose.since u.seen w.prepared.kind (loose.seen_since ∙ ap (λ l. l ++ loose.since) w.prepared.seen)
        (live loose.since (loose.only is_other [] (inr hosts_live) (inr applications_live, (inr (readers_live mode), tt))))

    unrefused : HasNone is_fill_refused (own worked_a)
    unrefused = subst (λ l. HasNone is_fill_refused l) (home_own s one a worked_a two home u.seen w.pair.first (seen_more home u (Join worked_b.number) w.pair.second.joins) w.pair.ended_run)
        (own_none is_fill_refused a.number u.seen (none_refused u.seen w.pair.ended_run unclosed))

    tight : HostedAll s.seen is_hosts u.seen (home_worker is_applications b worked_b ∷ home_worker (is_strict_readers mode) a worked_a ∷ [])
    tight = pair_hosted s one two home u a worked_a b worked_b (is_strict_readers mode) is_applications w.pair (w.strict unrefused) of_b (childless_strict mode) childless_applications
