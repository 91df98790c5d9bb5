-- The answer is how the making ended.
use Rattle.std.proofs.Common.{◌≡◌, refl}
use Rattle.gev_make.specs.declared.make_end.MakeEnd.TheVariants as ends
use Rattle.gev_top.proofs.making.make_script.Goals as goal

differ : ends.Done ≡ ends.WriteFault → ⊥
differ is = cc

differ_too : ends.NoMemory ≡ ends.WriteFault → ⊥
differ_too is = cc

pub returns-in-Done-clause-cause : goal.returns-in-Done-clause-cause
returns-in-Done-clause-cause g c = c.in-Done.ensures.done refl

pub returns-in-Done-clause-writes_steady : goal.returns-in-Done-clause-writes_steady
returns-in-Done-clause-writes_steady g c = λ steady. c.in-Done.ensures.steady differ

pub returns-in-WriteFault-clause-cause : goal.returns-in-WriteFault-clause-cause
returns-in-WriteFault-clause-cause g c = (c.in-WriteFault.ensures.failed refl, c.in-WriteFault.ensures.front)

pub returns-in-WriteFault-clause-writes_steady : goal.returns-in-WriteFault-clause-writes_steady
returns-in-WriteFault-clause-writes_steady g c = λ steady. absurd (steady refl)

pub returns-in-NoMemory-clause-cause : goal.returns-in-NoMemory-clause-cause
returns-in-NoMemory-clause-cause g c = c.in-NoMemory.ensures.front

pub returns-in-NoMemory-clause-writes_steady : goal.returns-in-NoMemory-clause-writes_steady
returns-in-NoMemory-clause-writes_steady g c = λ steady. c.in-NoMemory.ensures.steady differ_too
