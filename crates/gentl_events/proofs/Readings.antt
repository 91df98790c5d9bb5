-- One more early moment.
use Rattle.std.proofs.Common.{ℕ, ◌-◌, ◌<◌, List, [], ◌∷◌, ◌++◌}
use Rattle.gentl_events.specs.Readings.{AreEarly}

pub early_more : (timeout first : ℕ) (moments : List ℕ) (moment : ℕ) → AreEarly timeout first moments → moment - first < timeout → AreEarly timeout first (moments ++ moment ∷ [])
early_more timeout first [] moment early more = (more, tt)
early_more timeout first (m ∷ moments) moment early more = (early.0, early_more timeout first moments moment early.1 more)
