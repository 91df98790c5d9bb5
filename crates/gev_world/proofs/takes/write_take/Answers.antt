use Rattle.std.proofs.Common.{List, ℕ, subst}
use Rattle.std.proofs.lemmas.Result.{err_from_is_err_and}
use Rattle.gev_links.specs.Told.{Appends, WritesFront}
use Rattle.world_laws.specs.Receiver.{waiting}
use Rattle.soak_receiver.specs.Standing.{HostTakes}
use Rattle.gev_world.proofs.Taking.{take_written, take_stopped}
use Rattle.gev_world.proofs.takes.write_take.Goals as goal

pub returns-in_err-write_all : goal.returns-in_err-write_all
returns-in_err-write_all g c lines r was =
    let p = err_from_is_err_and c.from_residual-in_err-write_all.result c.from_residual-in_err-write_all.ensures.1 in
    let takes = subst (λ (said : List ℕ). HostTakes (waiting r.board) c.in_ok-took.took lines r said c.take.new.out.items c.take.new.self) c.clear.ensures.items (c.in_ok-took.ensures.takes lines r was) in
    rw (p.1, p.2)
    (take_stopped c.in_ok-took.took lines r c.take.new.out.items c.take.new.self _ _ _ _ takes (subst (WritesFront _ _) c.as_slice.ensures.value c.in_err-write_all.ensures.front) c.in_err-write_all.ensures.failed)

pub returns : goal.returns
returns g c lines r was =
    let takes = subst (λ (said : List ℕ). HostTakes (waiting r.board) c.in_ok-took.took lines r said c.take.new.out.items c.take.new.self) c.clear.ensures.items (c.in_ok-took.ensures.takes lines r was) in
    take_written c.in_ok-took.took lines r c.take.new.out.items c.take.new.self _ _ _ _ takes (subst (Appends _ _) c.as_slice.ensures.value c.in_ok-write_all.ensures.written) c.in_ok-write_all.ensures.no_fault
