-- The words of `step` lines.
use Rattle.std.specs.Prelude.{ℕ, List, codes}
use Rattle.gev_script.specs.declared.act.Act.{Act}
use Rattle.gev_script.specs.declared.act.Act.TheVariants.{Grab, Lay, Pool, Fill, Claim, Take, SweepPool, SweepOut, Close}

abbrev pub word_of : Act → List ℕ
word_of Grab = codes "grab"
word_of Lay = codes "lay"
word_of Pool = codes "pool"
word_of Fill = codes "fill"
word_of Claim = codes "claim"
word_of Take = codes "take"
word_of SweepPool = codes "sweep-pool"
word_of SweepOut = codes "sweep-out"
word_of Close = codes "close"
