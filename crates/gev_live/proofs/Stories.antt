-- The history of a live run, by what the preparation, the splits, the workers and the joins ensured.
use Rattle.std.proofs.Common.{◌≡◌, inl, inr, ℕ, ◌≤◌, List, [], ◌∷◌, ◌++◌, refl, sym, ap, subst, ◌∙◌, arith, append_assoc}
use Rattle.board_machine.specs.declared.events.Entry.{Entry}
use Rattle.board_machine.specs.declared.events.Event.{Event}
use Rattle.board_machine.specs.declared.events.Event.TheVariants.{Join}
use Rattle.board_machine.specs.Places.{times, IsPrefix}
use Rattle.board_machine.specs.Machine.{entry}
use Rattle.board_machine.specs.Histories.{Run, After, own_of}
use Rattle.board_machine.specs.Owners.{IsOwned}
use Rattle.board_machine.specs.Handout.{IsLegal}
use Rattle.board_machine.specs.Kinds.{HasNone, is_close, is_fill_refused}
use Rattle.board_machine.specs.Adding.{entries_of}
use Rattle.board_machine.proofs.Places.{same_self}
use Rattle.board_machine.proofs.Quiet.{open_takes_fills}
use Rattle.buffer_words.specs.Passes.{Token, own, Enters}
use Rattle.buffer_words.specs.Workers.{AreOf, OnlyBy, Works, HostedAll}
use Rattle.buffer_words.proofs.Working.{works_own, own_for_good}
use Rattle.live_crew.specs.Prepared.{Prepares, SawOnly}
use Rattle.gev_serve.specs.Kinds.{is_cameras}
use Rattle.gev_apply.specs.Kinds.{is_applications}
use Rattle.live_crew.specs.Kinds.{is_hosts}
use Rattle.live_crew.specs.Homes.{CameHome, CrewHome}
use Rattle.live_crew.proofs.Crews.{home_worker, crew_hosted, crew_apart}
use Rattle.gev_acq.specs.Kinds.{is_readers, is_strict_readers}
use Rattle.board_calls.specs.declared.mode.Mode.{Mode}
use Rattle.board_calls.specs.declared.mode.Mode.TheVariants.{OldestFirst, OldestFirstOverwrite, NewestOnly}
use Rattle.gev_live.specs.Kinds.{is_live, is_filling, is_taking, is_handing}
use Rattle.gev_live.specs.Acquirers.{takers}
use Rattle.gev_live.specs.History.{Crew, live_size, LiveHistory}
use Rattle.gev_live.proofs.Apart.{is_other, hosts_live, cameras_live, readers_live, applications_live, hosts_fill, cameras_fill, applications_fill, hosts_hand, cameras_hand, strict_hand, hosts_take, cameras_take, strict_take, childless_cameras, childless_readers, childless_strict, childless_applications, all_live, strict_live}
use Rattle.gev_live.proofs.Quiet.{never_closed, own_none}

-- ---- a worker's entries in the whole history

-- what an entry adds stands behind what was seen
pub seen_more : (s t : Token) (event : Event) → Enters s event t → IsPrefix s.seen t.seen
seen_more s t event e = record { rest = e.between ++ entry s.number event ∷ []; is = e.seen ∙ append_assoc s.seen e.between (entry s.number event ∷ []) }

pub prefix_then : (f g h : List Entry) → IsPrefix f g → IsPrefix g h → IsPrefix f h
prefix_then f g h first second = record { rest = first.rest ++ second.rest; is = second.is ∙ (ap (λ l. l ++ second.rest) first.is ∙ append_assoc f first.rest second.rest) }

-- What a worker had done when it came home is all that it does in each later history.
pub home_own : (s t given worked u v : Token) (h : List Entry) → CameHome s t given worked u v → IsPrefix v.seen h → Run h → own_of given.number h ≡ own worked
home_own s t given worked u v h came front run =
    subst (λ n. own_of n h ≡ own worked) came.number
    (subst (λ l. own_of worked.number l ≡ own worked) (sym front.is)
    (own_for_good worked.number v.seen (own worked) came.ended came.did front.rest (subst (λ l. Run l) front.is run)))

pub home_prefix : (s t given worked u v : Token) (h : List Entry) → CameHome s t given worked u v → IsPrefix v.seen h → IsPrefix worked.seen h
home_prefix s t given worked u v h came front = prefix_then worked.seen v.seen h came.begins front

-- ---- the history

-- What the preparation, the splits, the workers and the joins ensured, from the empty board on.
pub record Story (mode : Mode) (buffers : ℕ) (s one two three home back u a worked_a b worked_b d worked_d : Token) : Type 0 where
  pub prepared : SawOnly (Prepares live_size buffers) s
  pub crew : CrewHome s one two three home back u a worked_a b worked_b d worked_d
  pub camera : Works is_cameras a worked_a
  pub reader : Works (is_readers mode) b worked_b
  pub application : Works is_applications d worked_d
  -- where no fill was refused the reader laid nothing
  pub strict : HasNone is_fill_refused (own worked_b) → AreOf (is_strict_readers mode) (own worked_b)
  pub owned : IsOwned (After u.seen)
  pub legal : IsLegal u.seen

abbrev pub crew_of : Token → Token → Token → Crew
crew_of a b d = record { camera = a.number; reader = b.number; application = d.number }

none_refused : (h : List Entry) → Run h → HasNone is_close h → HasNone is_fill_refused h
none_refused h run none = open_takes_fills [] h run refl none

apart_again : (i a b d : ℕ) → times i (a ∷ b ∷ d ∷ []) ≤ 1 → times i (d ∷ b ∷ a ∷ []) ≤ 1
apart_again i a b d once = omega (arith, once)

-- Who takes and pools by the mode.
takes_alone : (mode : Mode) (front seen : List Entry) (a b d : Token) (worked_a worked_b worked_d : Token)
    → (hosted : HostedAll front is_hosts seen (home_worker is_applications d worked_d ∷ home_worker (is_strict_readers mode) b worked_b ∷ home_worker is_cameras a worked_a ∷ []))
    → OnlyBy is_taking (takers mode d.number (b.number ∷ [])) hosted.since
takes_alone OldestFirst front seen a b d worked_a worked_b worked_d hosted =
    hosted.only is_taking (d.number ∷ []) (inr hosts_take) (inl (omega (arith, same_self d.number)), (inr strict_take, (inr cameras_take, tt)))
takes_alone OldestFirstOverwrite front seen a b d worked_a worked_b worked_d hosted =
    hosted.only is_taking (d.number ∷ b.number ∷ []) (inr hosts_take) (inl (omega (arith, same_self d.number)), (inl (omega (arith, same_self b.number)), (inr cameras_take, tt)))
takes_alone NewestOnly front seen a b d worked_a worked_b worked_d hosted =
    hosted.only is_taking (d.number ∷ b.number ∷ []) (inr hosts_take) (inl (omega (arith, same_self d.number)), (inl (omega (arith, same_self b.number)), (inr cameras_take, tt)))

pub live_history : (mode : Mode) (buffers : ℕ) (s one two three home back u a worked_a b worked_b d worked_d : Token) → Story mode buffers s one two three home back u a worked_a b worked_b d worked_d
    → LiveHistory mode buffers (crew_of a b d) u.seen
live_history mode buffers s one two three home back u a worked_a b worked_b d worked_d w = record {
  run = w.crew.ended_run;
  owned = w.owned;
  legal = w.legal;
  alone = tight.alone;
  apart = λ i. apart_again i a.number b.number d.number (crew_apart s one two three home back u a worked_a b worked_b d worked_d w.crew i);
  entries = tight.entries;
  prepared = w.prepared.events;
  prepares = w.prepared.kind;
  since = tight.since;
  begins = begins_tight;
  kinds = live tight.since (tight.only is_other [] (inr hosts_live) (inr applications_live, (inr (strict_live mode), (inr cameras_live, tt))));
  fills = tight.only is_filling (b.number ∷ []) (inr hosts_fill) (inr applications_fill, (inl (omega (arith, same_self b.number)), (inr cameras_fill, tt)));
  takes = takes_alone mode s.seen u.seen a b d worked_a worked_b worked_d tight;
  hands = tight.only is_handing (d.number ∷ []) (inr hosts_hand) (inl (omega (arith, same_self d.number)), (inr (strict_hand mode), (inr cameras_hand, tt)));
}
  where
    live : (es : List Entry) → OnlyBy is_other [] es → AreOf is_live es
    live es only = all_live es only

    of_a : AreOf is_cameras (own worked_a)
    of_a = works_own is_cameras a worked_a w.crew.first.new w.camera

    of_b : AreOf (is_readers mode) (own worked_b)
    of_b = works_own (is_readers mode) b worked_b w.crew.second.new w.reader

    of_d : AreOf is_applications (own worked_d)
    of_d = works_own is_applications d worked_d w.crew.third.new w.application

    loose : HostedAll s.seen is_hosts u.seen (home_worker is_applications d worked_d ∷ home_worker (is_readers mode) b worked_b ∷ home_worker is_cameras a worked_a ∷ [])
    loose = crew_hosted s one two three home back u a worked_a b worked_b d worked_d is_cameras (is_readers mode) is_applications w.crew of_a of_b of_d childless_cameras (childless_readers mode) childless_applications

    unclosed : HasNone is_close u.seen
    unclosed = never_closed live_size buffers w.prepared.events loose.since u.seen w.prepared.kind (loose.seen_since ∙ ap (λ l. l ++ loose.since) w.prepared.seen)
        (live loose.since (loose.only is_other [] (inr hosts_live) (inr applications_live, (inr (readers_live mode), (inr cameras_live, tt)))))

    unrefused : HasNone is_fill_refused (own worked_b)
    unrefused = subst (λ l. HasNone is_fill_refused l) (home_own one two b worked_b home back u.seen w.crew.second (seen_more back u (Join worked_d.number) w.crew.third.joins) w.crew.ended_run)
        (own_none is_fill_refused b.number u.seen (none_refused u.seen w.crew.ended_run unclosed))

    tight : HostedAll s.seen is_hosts u.seen (home_worker is_applications d worked_d ∷ home_worker (is_strict_readers mode) b worked_b ∷ home_worker is_cameras a worked_a ∷ [])
    tight = crew_hosted s one two three home back u a worked_a b worked_b d worked_d is_cameras (is_strict_readers mode) is_applications w.crew of_a (w.strict unrefused) of_d childless_cameras (childless_strict mode) childless_applications

    begins_tight : u.seen ≡ entries_of 0 w.prepared.events ++ tight.since
    begins_tight = tight.seen_since ∙ ap (λ l. l ++ tight.since) w.prepared.seen
