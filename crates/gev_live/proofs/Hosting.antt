-- Whose the entries are after the workers and the lanes came home.
use Rattle.std.proofs.Common.{◌≡◌, ℕ, ◌≤◌, List, [], ◌∷◌, ◌++◌, refl, sym, subst, arith}
use Rattle.board_machine.specs.Places.{times}
use Rattle.board_machine.specs.Machine.{IsActor}
use Rattle.board_machine.specs.Histories.{After}
use Rattle.board_machine.proofs.Places.{times-append}
use Rattle.buffer_words.specs.Passes.{Token}
use Rattle.buffer_words.specs.Workers.{Works, Worker, numbers, Hosts, AreChildless, HostedAll}
use Rattle.buffer_words.specs.WorkLaws.{worker_of}
use Rattle.buffer_words.proofs.Working.{hosts_first, hosts_splits, hosts_joins_worker, hosted_all}
use Rattle.gev_serve.specs.Kinds.{is_cameras}
use Rattle.gev_apply.specs.Kinds.{is_applications}
use Rattle.live_crew.specs.Kinds.{is_hosts}
use Rattle.lane_crew.specs.Kinds.{is_lane_readers}
use Rattle.live_crew.specs.HomeLaws.{SplitsEach}
use Rattle.live_crew.proofs.Rising.{numbers_apart}
use Rattle.gev_live.specs.LanesHomes.{LanesHome}
use Rattle.gev_live.proofs.Splits.{hosts_split_each}

-- the three workers that came home
abbrev pub three_home : (a worked_a b worked_b d worked_d : Token) → List Worker
three_home a worked_a b worked_b d worked_d =
    worker_of is_applications d worked_d ∷ worker_of is_lane_readers b worked_b ∷ worker_of is_cameras a worked_a ∷ []

-- what was split off
abbrev pub split_off : (a b d : Token) → List ℕ → List ℕ
split_off a b d lanes = ((lanes ++ a.number ∷ []) ++ b.number ∷ []) ++ d.number ∷ []

splits_then : (s t u : Token) (ns ms : List ℕ) → SplitsEach s ns t → SplitsEach t ms u → SplitsEach s (ns ++ ms) u
splits_then s t u [] ms none more = subst (λ v. SplitsEach v ms u) none more
splits_then s t u (n ∷ ns) ms each more = (each.0, each.1, splits_then each.0 t u ns ms each.2 more)

pub three_hosts : (s off one two three home back u a worked_a b worked_b d worked_d : Token) (lanes : List ℕ) → LanesHome s off one two three home back u a worked_a b worked_b d worked_d lanes
    → Works is_cameras a worked_a → Works is_lane_readers b worked_b → Works is_applications d worked_d
    → Hosts s.seen is_hosts u (split_off a b d lanes) (three_home a worked_a b worked_b d worked_d)
three_hosts s off one two three home back u a worked_a b worked_b d worked_d lanes w works_a works_b works_d = all_home
  where
    none_home : Hosts s.seen is_hosts three (split_off a b d lanes) []
    none_home = hosts_splits s.seen is_hosts two three ((lanes ++ a.number ∷ []) ++ b.number ∷ []) [] d.number
        (hosts_splits s.seen is_hosts one two (lanes ++ a.number ∷ []) [] b.number
        (hosts_splits s.seen is_hosts off one lanes [] a.number
        (hosts_split_each s.seen is_hosts s off [] [] lanes (λ n. refl) (hosts_first is_hosts s w.number w.run w.childless) w.lanes_off) refl w.first.splits) refl w.second.splits) refl w.third.splits

    one_home : Hosts s.seen is_hosts home (split_off a b d lanes) (worker_of is_cameras a worked_a ∷ [])
    one_home = hosts_joins_worker s.seen is_hosts is_cameras three home a worked_a (split_off a b d lanes) [] none_home w.first.new works_a refl w.first.joins w.first.did w.first.ended

    two_home : Hosts s.seen is_hosts back (split_off a b d lanes) (worker_of is_lane_readers b worked_b ∷ worker_of is_cameras a worked_a ∷ [])
    two_home = hosts_joins_worker s.seen is_hosts is_lane_readers home back b worked_b (split_off a b d lanes) (worker_of is_cameras a worked_a ∷ []) one_home w.second.new works_b refl w.second.joins w.second.did w.second.ended

    all_home : Hosts s.seen is_hosts u (split_off a b d lanes) (three_home a worked_a b worked_b d worked_d)
    all_home = hosts_joins_worker s.seen is_hosts is_applications back u d worked_d (split_off a b d lanes) (worker_of is_lane_readers b worked_b ∷ worker_of is_cameras a worked_a ∷ []) two_home
        w.third.new works_d refl w.third.joins w.third.did w.third.ended

-- all are home
pub hosted : (s off one two three home back u a worked_a b worked_b d worked_d : Token) (lanes : List ℕ) (others : List Worker) → LanesHome s off one two three home back u a worked_a b worked_b d worked_d lanes
    → Hosts s.seen is_hosts u (split_off a b d lanes) others → AreChildless others → numbers others ≡ lanes ++ (d.number ∷ b.number ∷ a.number ∷ [])
    → HostedAll s.seen is_hosts u.seen others
hosted s off one two three home back u a worked_a b worked_b d worked_d lanes others w hosts childless are =
    hosted_all s.seen is_hosts u (split_off a b d lanes) others hosts (subst (λ n. IsActor (After u.seen) n) hosts.number w.actor) childless
    (λ n there. subst (λ l. 1 ≤ times n l) (sym are)
    (omega (
      arith,
      there,
      times-append n lanes (d.number ∷ b.number ∷ a.number ∷ []),
      times-append n lanes (a.number ∷ []),
      times-append n (lanes ++ a.number ∷ []) (b.number ∷ []),
      times-append n ((lanes ++ a.number ∷ []) ++ b.number ∷ []) (d.number ∷ []),
    )))

-- each has a number of its own
pub all_apart : (s off one two three home back u a worked_a b worked_b d worked_d : Token) (lanes : List ℕ) → LanesHome s off one two three home back u a worked_a b worked_b d worked_d lanes
    → (i : ℕ) → times i (lanes ++ (d.number ∷ b.number ∷ a.number ∷ [])) ≤ 1
all_apart s off one two three home back u a worked_a b worked_b d worked_d lanes w i =
    omega (
      arith,
      times-append i lanes (d.number ∷ b.number ∷ a.number ∷ []),
      times-append i lanes (a.number ∷ b.number ∷ d.number ∷ []),
      numbers_apart s three (lanes ++ (a.number ∷ b.number ∷ d.number ∷ [])) i all,
    )
  where
    all : SplitsEach s (lanes ++ (a.number ∷ b.number ∷ d.number ∷ [])) three
    all = splits_then s off three lanes (a.number ∷ b.number ∷ d.number ∷ []) w.lanes_off
        (one, w.first.splits, (two, w.second.splits, (three, w.third.splits, refl)))
