-- Laws of the lossy queue, which `src/laws.rt` proves.
use Rattle.std.specs.Prelude.{◌≡◌, ◌⊎◌, ℕ, ◌+◌, ◌≤◌, List, [], ◌∷◌, ◌++◌, length, Contains}
use Rattle.gev_frames.specs.Generator.{after_draws}
use Rattle.lossy_queue.specs.declared.datagram.Datagram.{Datagram}
use Rattle.lossy_queue.specs.declared.rates.Rates.{Rates}
use Rattle.lossy_queue.specs.Lossy.{after_put, put_lossy}

-- A put draws three numbers.
abbrev pub DrawsThree : Type 0
DrawsThree = (x : ℕ) → after_put x ≡ after_draws 3 x

-- A put adds the datagram at most twice, and what else is in the queue was in it.
pub record IsPut (d : Datagram) (old new : List Datagram) : Type 0 where
  pub kept : length old ≤ length new
  pub few : length new ≤ length old + 2
  pub only : (e : Datagram) → Contains new e → (e ≡ d) ⊎ Contains old e

abbrev pub PutsOneDatagram : Type 0
PutsOneDatagram = (rates : Rates) (x : ℕ) (d : Datagram) (queue : List Datagram) → IsPut d queue (put_lossy rates x d queue)

-- A network that loses, repeats and swaps none keeps the order.
abbrev pub KeepsOrder : Type 0
KeepsOrder = (rates : Rates) (x : ℕ) (d : Datagram) (queue : List Datagram)
    → rates.loss ≡ 0 → rates.repeat ≡ 0 → rates.swap ≡ 0 → put_lossy rates x d queue ≡ queue ++ d ∷ []

-- A network that loses each of a thousand lets none through.
abbrev pub LosesAll : Type 0
LosesAll = (rates : Rates) (x : ℕ) (d : Datagram) (queue : List Datagram) → 1000 ≤ rates.loss → put_lossy rates x d queue ≡ queue
