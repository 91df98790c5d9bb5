use Rattle.camera_registers.proofs.registering.access_from.Goals as goal

pub returns-clause-accesses : goal.returns-clause-accesses
returns-clause-accesses g c =
    rw (c.new-reads.ensures, c.new-filter.ensures.inner, ← c.into_inner.ensures, ← c.into_inner-2.ensures) at c.access_registers-end.ensures.accesses
