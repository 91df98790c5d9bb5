-- What a network does to a datagram: it's lost, or put once or twice into a queue, at its end or just
-- before the last entry.
use Rattle.std.specs.Prelude.{ℕ, ◌%◌, Bool, nat_lt, if◌then◌else◌, List, [], ◌∷◌, ◌++◌}
use Rattle.gev_frames.specs.Generator.{next, draw}
use Rattle.lossy_queue.specs.declared.rates.Rates.{Rates}
use Rattle.lossy_queue.specs.declared.fate.Fate.{Fate}
use Rattle.lossy_queue.specs.declared.fate.Fate.TheVariants.{Lost, Once, Twice}

-- what happens at this rate, in thousandths, happens by what is drawn at x
abbrev pub happens : ℕ → ℕ → Bool
happens rate x = nat_lt (draw x % 1000) rate

-- Three numbers are drawn, one for each rate, also where the datagram is lost.
abbrev pub fate_of : Rates → ℕ → Fate
fate_of rates x =
    let swapped = happens rates.swap (next (next x)) in
    if happens rates.loss x then Lost
    else if happens rates.repeat (next x) then Twice swapped
    else Once swapped

-- the number after the three draws
unfoldable pub after_put : ℕ → ℕ
after_put x = next (next (next x))

-- just before the last entry, if there is one
abbrev pub before_last : {A : Type 0} → A → List A → List A
before_last d [] = d ∷ []
before_last d (e ∷ []) = d ∷ e ∷ []
before_last d (e ∷ f ∷ queue) = e ∷ before_last d (f ∷ queue)

-- one putting: at the end, or just before the last entry
abbrev pub placed : {A : Type 0} → Bool → A → List A → List A
placed swapped d queue = if swapped then before_last d queue else queue ++ d ∷ []

-- the puttings of a datagram with this fate
abbrev pub put_as : {A : Type 0} → Fate → A → List A → List A
put_as Lost d queue = queue
put_as (Once swapped) d queue = placed swapped d queue
put_as (Twice swapped) d queue = placed swapped d (placed swapped d queue)

-- the queue after a datagram was put into it, with the generator at x
unfoldable pub put_lossy : {A : Type 0} → Rates → ℕ → A → List A → List A
put_lossy rates x d queue = put_as (fate_of rates x) d queue
