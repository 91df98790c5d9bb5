-- Whose the entries are after two workers came home.
use Rattle.std.proofs.Common.{◌≡◌, ◌≢◌, ℕ, ◌+◌, [], ◌∷◌, ◌++◌, length, refl, ap, subst, ◌∙◌, inl, inr, arith, length-append}
use Rattle.board_machine.specs.declared.events.Event.TheVariants.{Split, Join, Claim, Fill, Take, Lay, Unpost}
use Rattle.board_machine.specs.Machine.{Board, empty_board, empty_hands, IsActor}
use Rattle.board_machine.specs.Histories.{Run, After, own_of, splits}
use Rattle.board_machine.specs.Actors.{born}
use Rattle.board_machine.specs.Laws.{IsEnded, IsAlone}
use Rattle.board_machine.proofs.Places.{same_self}
use Rattle.board_machine.proofs.Runs.{after-append}
use Rattle.board_machine.proofs.Ended.{splits_from}
use Rattle.buffer_words.specs.Passes.{Token, own, Enters}
use Rattle.buffer_words.specs.Workers.{AreApart, Works, Worker, Hosts, HostedAll}
use Rattle.buffer_words.specs.WorkLaws.{worker_of}
use Rattle.buffer_words.proofs.Several.{enters_may, enters_after}
use Rattle.buffer_words.proofs.Working.{hosts_first, hosts_splits, hosts_joins_worker, hosted_all}
use Rattle.gentl_events.specs.Kinds.{is_hosts, is_fill, is_take, is_fillers, is_takers}
use Rattle.gentl_events.specs.Shares.{Divides}

-- two splits of one actor give two numbers
pub two_numbers : (s t u : Token) (a b : ℕ) → Enters s (Split a) t → Enters t (Split b) u → a ≢ b
two_numbers s t u a b first second e =
    let before : Board = After (s.seen ++ first.between) in
    let one : a ≡ length before.hands = (enters_may s t (Split a) first).meets in
    let two : b ≡ length (After (t.seen ++ second.between)).hands = (enters_may t u (Split b) second).meets in
    let more : length (After t.seen).hands ≡ length before.hands + 1 =
    ap (λ (c : Board). length c.hands) (enters_after s t (Split a) first) ∙ length-append before.hands (empty_hands ∷ []) in
    let later : length (After (t.seen ++ second.between)).hands ≡ length (After t.seen).hands + splits second.between =
    ap (λ (c : Board). length c.hands) (after-append empty_board t.seen second.between) ∙ splits_from (After t.seen) second.between in
    omega (arith, one, two, more, later, e)

-- what each of the three does of the kinds that are divided
hosts_apart_fill : AreApart is_hosts is_fill
hosts_apart_fill (Split n) is = refl
hosts_apart_fill (Join n) is = refl
hosts_apart_fill _ is = absurd (cc)

hosts_apart_take : AreApart is_hosts is_take
hosts_apart_take (Split n) is = refl
hosts_apart_take (Join n) is = refl
hosts_apart_take _ is = absurd (cc)

takers_apart_fill : AreApart is_takers is_fill
takers_apart_fill (Take end) is = refl
takers_apart_fill (Unpost stood) is = refl
takers_apart_fill (Lay place) is = refl
takers_apart_fill _ is = absurd (cc)

fillers_apart_take : AreApart is_fillers is_take
fillers_apart_take (Claim place) is = refl
fillers_apart_take (Fill place filling filled) is = refl
fillers_apart_take (Lay place) is = refl
fillers_apart_take _ is = absurd (cc)

-- What the splits, the workers and the joins ensured, from the token s on.
pub record Worked (s one two home u a worked_a b worked_b : Token) : Type 0 where
  pub number : s.number ≡ 0
  pub run : Run s.seen
  pub childless : born (own s) ≡ []
  pub splits_a : Enters s (Split a.number) one
  pub new_a : own a ≡ []
  pub splits_b : Enters one (Split b.number) two
  pub new_b : own b ≡ []
  pub works_a : Works is_fillers a worked_a
  pub works_b : Works is_takers b worked_b
  pub joins_a : Enters two (Join worked_a.number) home
  pub did_a : own_of worked_a.number home.seen ≡ own worked_a
  pub ended_a : IsEnded (After home.seen) worked_a.number
  pub joins_b : Enters home (Join worked_b.number) u
  pub did_b : own_of worked_b.number u.seen ≡ own worked_b
  pub ended_b : IsEnded (After u.seen) worked_b.number
  pub actor : IsActor (After u.seen) u.number

hosted : (s one two home u a worked_a b worked_b : Token) → Worked s one two home u a worked_a b worked_b
    → HostedAll s.seen is_hosts u.seen (worker_of is_takers b worked_b ∷ worker_of is_fillers a worked_a ∷ [])
hosted s one two home u a worked_a b worked_b w =
    hosted_all s.seen is_hosts u (a.number ∷ b.number ∷ []) (worker_of is_takers b worked_b ∷ filled ∷ []) both_home
    (subst (λ n. IsActor (After u.seen) n) both_home.number w.actor) (λ n. refl, (λ n. refl, tt)) (λ n there. omega (arith, there))
  where
    filled : Worker
    filled = worker_of is_fillers a worked_a

    away : Hosts s.seen is_hosts two (a.number ∷ b.number ∷ []) []
    away = hosts_splits s.seen is_hosts one two (a.number ∷ []) [] b.number
        (hosts_splits s.seen is_hosts s one [] [] a.number (hosts_first is_hosts s w.number w.run w.childless) refl w.splits_a) refl w.splits_b

    both_home : Hosts s.seen is_hosts u (a.number ∷ b.number ∷ []) (worker_of is_takers b worked_b ∷ filled ∷ [])
    both_home = hosts_joins_worker s.seen is_hosts is_takers home u b worked_b (a.number ∷ b.number ∷ []) (filled ∷ [])
        (hosts_joins_worker s.seen is_hosts is_fillers two home a worked_a (a.number ∷ b.number ∷ []) [] away w.new_a w.works_a refl w.joins_a w.did_a w.ended_a)
        w.new_b w.works_b refl w.joins_b w.did_b w.ended_b

pub alone_again : (s one two home u a worked_a b worked_b : Token) → Worked s one two home u a worked_a b worked_b → IsAlone (After u.seen) 0
alone_again s one two home u a worked_a b worked_b w = (hosted s one two home u a worked_a b worked_b w).alone

pub divides : (s one two home u a worked_a b worked_b : Token) → Worked s one two home u a worked_a b worked_b → Divides s.seen u.seen
divides s one two home u a worked_a b worked_b w =
    let all = hosted s one two home u a worked_a b worked_b w in
    record {
      since = all.since;
      is = all.seen_since;
      filler = a.number;
      taker = b.number;
      apart = two_numbers s one two a.number b.number w.splits_a w.splits_b;
      fills = all.only is_fill (a.number ∷ []) (inr hosts_apart_fill) (inr takers_apart_fill, (inl (omega (arith, same_self a.number)), tt));
      takes = all.only is_take (b.number ∷ []) (inr hosts_apart_take) (inl (omega (arith, same_self b.number)), (inr fillers_apart_take, tt));
    }
