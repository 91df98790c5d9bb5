-- Whose the entries are after three workers came home.
use Rattle.std.proofs.Common.{◌≡◌, ◌≢◌, ◌⊎◌, inl, inr, ℕ, Bool, ◌+◌, ◌≤◌, List, [], ◌∷◌, ◌++◌, length, refl, ap, subst, ◌∙◌, arith, length-append}
use Rattle.std.proofs.lemmas.Bool.{cases_eq}
use Rattle.board_machine.specs.declared.events.Event.{Event}
use Rattle.board_machine.specs.declared.events.Event.TheVariants.{Split, Join}
use Rattle.board_machine.specs.Places.{times}
use Rattle.board_machine.specs.Machine.{Board, empty_board, empty_hands, IsActor}
use Rattle.board_machine.specs.Histories.{After, own_of, splits}
use Rattle.board_machine.specs.Laws.{IsEnded}
use Rattle.board_machine.proofs.Places.{same_le, same_other}
use Rattle.board_machine.proofs.Runs.{after-append}
use Rattle.board_machine.proofs.Ended.{splits_from}
use Rattle.buffer_words.specs.Passes.{Token, own, Enters}
use Rattle.buffer_words.specs.Workers.{AreOf, IsChildless, Worker, IsHome, Hosts, HostedAll}
use Rattle.buffer_words.proofs.Several.{enters_may, enters_after}
use Rattle.buffer_words.proofs.Working.{hosts_first, hosts_splits, hosts_joins, hosted_all}
use Rattle.live_crew.specs.Kinds.{is_hosts}
use Rattle.live_crew.specs.Homes.{CameHome, CrewHome}

-- an actor's number is one less than how many there are after its split
number_of : (s t : Token) (a : ℕ) → Enters s (Split a) t → a + 1 ≡ length (After t.seen).hands
number_of s t a split =
    let before : Board = After (s.seen ++ split.between) in
    let one : a ≡ length before.hands = (enters_may s t (Split a) split).meets in
    let more : length (After t.seen).hands ≡ length before.hands + 1 =
    ap (λ (c : Board). length c.hands) (enters_after s t (Split a) split) ∙ length-append before.hands (empty_hands ∷ []) in
    omega (arith, one, more)

-- a later split of the pass gives a higher number
pub higher : (s t u : Token) (a b : ℕ) → Enters s (Split a) t → Enters t (Split b) u → a + 1 ≤ b
higher s t u a b first second =
    let two : b ≡ length (After (t.seen ++ second.between)).hands = (enters_may t u (Split b) second).meets in
    let later : length (After (t.seen ++ second.between)).hands ≡ length (After t.seen).hands + splits second.between =
    ap (λ (c : Board). length c.hands) (after-append empty_board t.seen second.between) ∙ splits_from (After t.seen) second.between in
    omega (arith, number_of s t a first, two, later)

abbrev pub home_worker : (Event → Bool) → Token → Token → Worker
home_worker acts given worked = record { number = given.number; kind = acts; did = own worked }

came_home : (acts : Event → Bool) (s t given worked u v : Token) → CameHome s t given worked u v → AreOf acts (own worked) → IsHome v.seen (home_worker acts given worked)
came_home acts s t given worked u v c are = record {
  ended = subst (λ n. IsEnded (After v.seen) n) c.number c.ended;
  did = subst (λ n. own_of n v.seen ≡ own worked) c.number c.did;
  of_kind = are;
}

joins_given : (s t given worked u v : Token) → CameHome s t given worked u v → Enters u (Join given.number) v
joins_given s t given worked u v c = subst (λ n. Enters u (Join n) v) c.number c.joins

pub crew_hosts : (s one two three home back u a worked_a b worked_b d worked_d : Token) (ka kb kd : Event → Bool) → CrewHome s one two three home back u a worked_a b worked_b d worked_d
    → AreOf ka (own worked_a) → AreOf kb (own worked_b) → AreOf kd (own worked_d)
    → Hosts s.seen is_hosts u (a.number ∷ b.number ∷ d.number ∷ []) (home_worker kd d worked_d ∷ home_worker kb b worked_b ∷ home_worker ka a worked_a ∷ [])
crew_hosts s one two three home back u a worked_a b worked_b d worked_d ka kb kd w are_a are_b are_d = all_home
  where
    split_off : List ℕ
    split_off = a.number ∷ b.number ∷ d.number ∷ []

    first : Worker
    first = home_worker ka a worked_a

    second : Worker
    second = home_worker kb b worked_b

    third : Worker
    third = home_worker kd d worked_d

    away : Hosts s.seen is_hosts three split_off []
    away = hosts_splits s.seen is_hosts two three (a.number ∷ b.number ∷ []) [] d.number
        (hosts_splits s.seen is_hosts one two (a.number ∷ []) [] b.number
        (hosts_splits s.seen is_hosts s one [] [] a.number (hosts_first is_hosts s w.number w.run w.childless) refl w.first.splits) refl w.second.splits) refl w.third.splits

    one_home : Hosts s.seen is_hosts home split_off (first ∷ [])
    one_home = hosts_joins s.seen is_hosts three home split_off [] first away refl
        (joins_given s one a worked_a three home w.first) (came_home ka s one a worked_a three home w.first are_a)

    two_home : Hosts s.seen is_hosts back split_off (second ∷ first ∷ [])
    two_home = hosts_joins s.seen is_hosts home back split_off (first ∷ []) second one_home refl
        (joins_given one two b worked_b home back w.second) (came_home kb one two b worked_b home back w.second are_b)

    all_home : Hosts s.seen is_hosts u split_off (third ∷ second ∷ first ∷ [])
    all_home = hosts_joins s.seen is_hosts back u split_off (second ∷ first ∷ []) third two_home refl
        (joins_given two three d worked_d back u w.third) (came_home kd two three d worked_d back u w.third are_d)

pub crew_hosted : (s one two three home back u a worked_a b worked_b d worked_d : Token) (ka kb kd : Event → Bool) → CrewHome s one two three home back u a worked_a b worked_b d worked_d
    → AreOf ka (own worked_a) → AreOf kb (own worked_b) → AreOf kd (own worked_d) → IsChildless ka → IsChildless kb → IsChildless kd
    → HostedAll s.seen is_hosts u.seen (home_worker kd d worked_d ∷ home_worker kb b worked_b ∷ home_worker ka a worked_a ∷ [])
crew_hosted s one two three home back u a worked_a b worked_b d worked_d ka kb kd w are_a are_b are_d none_a none_b none_d =
    hosted_all s.seen is_hosts u (a.number ∷ b.number ∷ d.number ∷ []) (home_worker kd d worked_d ∷ home_worker kb b worked_b ∷ home_worker ka a worked_a ∷ []) hosts
    (subst (λ n. IsActor (After u.seen) n) hosts.number w.actor) (none_d, (none_b, (none_a, tt))) (λ n there. omega (arith, there))
  where
    hosts : Hosts s.seen is_hosts u (a.number ∷ b.number ∷ d.number ∷ []) (home_worker kd d worked_d ∷ home_worker kb b worked_b ∷ home_worker ka a worked_a ∷ [])
    hosts = crew_hosts s one two three home back u a worked_a b worked_b d worked_d ka kb kd w are_a are_b are_d

-- each worker has a number of its own
pub crew_apart : (s one two three home back u a worked_a b worked_b d worked_d : Token) → CrewHome s one two three home back u a worked_a b worked_b d worked_d
    → (i : ℕ) → times i (a.number ∷ b.number ∷ d.number ∷ []) ≤ 1
crew_apart s one two three home back u a worked_a b worked_b d worked_d w i = go (cases_eq i a.number) (cases_eq i b.number)
  where
    ab : a.number + 1 ≤ b.number
    ab = higher s one two a.number b.number w.first.splits w.second.splits

    bd : b.number + 1 ≤ d.number
    bd = higher one two three b.number d.number w.second.splits w.third.splits

    go : (i ≡ a.number) ⊎ (i ≢ a.number) → (i ≡ b.number) ⊎ (i ≢ b.number) → times i (a.number ∷ b.number ∷ d.number ∷ []) ≤ 1
    go (inl e) two = omega (arith, same_le i a.number, same_other i b.number (λ f. absurd (omega (arith, ab, e, f))), same_other i d.number (λ f. absurd (omega (arith, ab, bd, e, f))))
    go (inr e) (inl f) = omega (arith, same_other i a.number e, same_le i b.number, same_other i d.number (λ g. absurd (omega (arith, bd, f, g))))
    go (inr e) (inr f) = omega (arith, same_other i a.number e, same_other i b.number f, same_le i d.number)
