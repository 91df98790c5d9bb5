-- Whose the entries are after two workers came home.
use Rattle.std.proofs.Common.{◌≡◌, ◌≢◌, ◌⊎◌, inl, inr, ℕ, Bool, ◌+◌, ◌≤◌, List, [], ◌∷◌, refl, subst, arith}
use Rattle.std.proofs.lemmas.Bool.{cases_eq}
use Rattle.board_machine.specs.declared.events.Event.{Event}
use Rattle.board_machine.specs.declared.events.Event.TheVariants.{Join}
use Rattle.board_machine.specs.Places.{times}
use Rattle.board_machine.specs.Machine.{IsActor}
use Rattle.board_machine.specs.Histories.{Run, After, own_of}
use Rattle.board_machine.specs.Actors.{born}
use Rattle.board_machine.specs.Laws.{IsEnded}
use Rattle.board_machine.proofs.Places.{same_le, same_other}
use Rattle.buffer_words.specs.Passes.{Token, own, Enters}
use Rattle.buffer_words.specs.Workers.{AreOf, IsChildless, Worker, IsHome, Hosts, HostedAll}
use Rattle.buffer_words.proofs.Working.{hosts_first, hosts_splits, hosts_joins, hosted_all}
use Rattle.live_crew.specs.Kinds.{is_hosts}
use Rattle.live_crew.specs.Homes.{CameHome}
use Rattle.live_crew.proofs.Crews.{home_worker, higher}

-- The first actor's pass, which had split nobody off, split two passes off from the token s on, and joined them again up
-- to the token u, in the same order.
pub record PairHome (s one two home u a worked_a b worked_b : Token) : Type 0 where
  pub number : s.number ≡ 0
  pub run : Run s.seen
  pub childless : born (own s) ≡ []
  pub first : CameHome s one a worked_a two home
  pub second : CameHome one two b worked_b home u
  pub ended_run : Run u.seen
  pub actor : IsActor (After u.seen) u.number

came_home : (acts : Event → Bool) (s t given worked u v : Token) → CameHome s t given worked u v → AreOf acts (own worked) → IsHome v.seen (home_worker acts given worked)
came_home acts s t given worked u v c are = record {
  ended = subst (λ n. IsEnded (After v.seen) n) c.number c.ended;
  did = subst (λ n. own_of n v.seen ≡ own worked) c.number c.did;
  of_kind = are;
}

joins_given : (s t given worked u v : Token) → CameHome s t given worked u v → Enters u (Join given.number) v
joins_given s t given worked u v c = subst (λ n. Enters u (Join n) v) c.number c.joins

pub pair_hosts : (s one two home u a worked_a b worked_b : Token) (ka kb : Event → Bool) → PairHome s one two home u a worked_a b worked_b → AreOf ka (own worked_a) → AreOf kb (own worked_b)
    → Hosts s.seen is_hosts u (a.number ∷ b.number ∷ []) (home_worker kb b worked_b ∷ home_worker ka a worked_a ∷ [])
pair_hosts s one two home u a worked_a b worked_b ka kb w are_a are_b = all_home
  where
    split_off : List ℕ
    split_off = a.number ∷ b.number ∷ []

    first : Worker
    first = home_worker ka a worked_a

    second : Worker
    second = home_worker kb b worked_b

    away : Hosts s.seen is_hosts two split_off []
    away = hosts_splits s.seen is_hosts one two (a.number ∷ []) [] b.number
        (hosts_splits s.seen is_hosts s one [] [] a.number (hosts_first is_hosts s w.number w.run w.childless) refl w.first.splits) refl w.second.splits

    one_home : Hosts s.seen is_hosts home split_off (first ∷ [])
    one_home = hosts_joins s.seen is_hosts two home split_off [] first away refl
        (joins_given s one a worked_a two home w.first) (came_home ka s one a worked_a two home w.first are_a)

    all_home : Hosts s.seen is_hosts u split_off (second ∷ first ∷ [])
    all_home = hosts_joins s.seen is_hosts home u split_off (first ∷ []) second one_home refl
        (joins_given one two b worked_b home u w.second) (came_home kb one two b worked_b home u w.second are_b)

pub pair_hosted : (s one two home u a worked_a b worked_b : Token) (ka kb : Event → Bool) → PairHome s one two home u a worked_a b worked_b → AreOf ka (own worked_a) → AreOf kb (own worked_b)
    → IsChildless ka → IsChildless kb → HostedAll s.seen is_hosts u.seen (home_worker kb b worked_b ∷ home_worker ka a worked_a ∷ [])
pair_hosted s one two home u a worked_a b worked_b ka kb w are_a are_b none_a none_b =
    hosted_all s.seen is_hosts u (a.number ∷ b.number ∷ []) (home_worker kb b worked_b ∷ home_worker ka a worked_a ∷ []) hosts
    (subst (λ n. IsActor (After u.seen) n) hosts.number w.actor) (none_b, (none_a, tt)) (λ n there. omega (arith, there))
  where
    hosts : Hosts s.seen is_hosts u (a.number ∷ b.number ∷ []) (home_worker kb b worked_b ∷ home_worker ka a worked_a ∷ [])
    hosts = pair_hosts s one two home u a worked_a b worked_b ka kb w are_a are_b

-- each worker has a number of its own
pub pair_apart : (s one two home u a worked_a b worked_b : Token) → PairHome s one two home u a worked_a b worked_b → (i : ℕ) → times i (b.number ∷ a.number ∷ []) ≤ 1
pair_apart s one two home u a worked_a b worked_b w i = go (cases_eq i a.number)
  where
    ab : a.number + 1 ≤ b.number
    ab = higher s one two a.number b.number w.first.splits w.second.splits

    go : (i ≡ a.number) ⊎ (i ≢ a.number) → times i (b.number ∷ a.number ∷ []) ≤ 1
    go (inl e) = omega (arith, same_le i a.number, same_other i b.number (λ f. absurd (omega (arith, ab, e, f))))
    go (inr e) = omega (arith, same_other i a.number e, same_le i b.number)
