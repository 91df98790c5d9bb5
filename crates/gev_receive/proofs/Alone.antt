-- The first actor is alone again behind two workers.
use Rattle.std.proofs.Common.{ℕ, ◌≡◌, List, [], ◌∷◌, refl, subst, arith}
use Rattle.board_machine.specs.Machine.{IsActor}
use Rattle.board_machine.specs.Histories.{After}
use Rattle.board_machine.specs.Laws.{IsAlone}
use Rattle.board_machine.specs.Actors.{born}
use Rattle.buffer_words.specs.Passes.{Token, own}
use Rattle.buffer_words.specs.Workers.{Works, Hosts}
use Rattle.buffer_words.specs.WorkLaws.{worker_of}
use Rattle.buffer_words.proofs.Working.{hosts_first, hosts_splits, hosts_joins_worker, hosted_all}
use Rattle.board_calls.specs.declared.mode.Mode.{Mode}
use Rattle.live_crew.specs.Kinds.{is_hosts}
use Rattle.live_crew.specs.Crews.{RanTwo}
use Rattle.gev_acq.specs.Kinds.{is_readers}
use Rattle.gev_apply.specs.Kinds.{is_applications}
use Rattle.gev_live.proofs.Apart.{childless_readers, childless_applications}

pub two_alone : (mode : Mode) (First Second : Token → Token → Type 0) (s u : Token) → s.number ≡ 0 → born (own s) ≡ [] → RanTwo First Second s u
    → ((given back : Token) → First given back → Works (is_readers mode) given back)
    → ((given back : Token) → Second given back → Works is_applications given back) → IsAlone (After u.seen) 0
two_alone mode First Second s u number childless w reads applies =
    (hosted_all s.seen is_hosts u away _ two_home (subst (λ n. IsActor (After u.seen) n) two_home.number w.actor)
    (childless_applications, (childless_readers mode, tt)) (λ n there. omega (arith, there))).alone
  where
    away : List ℕ
    away = w.a.number ∷ w.b.number ∷ []

    none_home : Hosts s.seen is_hosts w.two away []
    none_home = hosts_splits s.seen is_hosts w.one w.two (w.a.number ∷ []) [] w.b.number
        (hosts_splits s.seen is_hosts s w.one [] [] w.a.number (hosts_first is_hosts s number w.run childless) refl w.first.splits) refl w.second.splits

    one_home : Hosts s.seen is_hosts w.home away (worker_of (is_readers mode) w.a w.worked_a ∷ [])
    one_home = hosts_joins_worker s.seen is_hosts (is_readers mode) w.two w.home w.a w.worked_a away [] none_home w.first.new
        (reads w.a w.worked_a w.did_first) refl w.first.joins w.first.did w.first.ended

    two_home : Hosts s.seen is_hosts u away (worker_of is_applications w.b w.worked_b ∷ worker_of (is_readers mode) w.a w.worked_a ∷ [])
    two_home = hosts_joins_worker s.seen is_hosts is_applications w.home u w.b w.worked_b away (worker_of (is_readers mode) w.a w.worked_a ∷ []) one_home w.second.new
        (applies w.b w.worked_b w.did_second) refl w.second.joins w.second.did w.second.ended
