-- Which of the three places of a recorded script are in use.
use Rattle.std.specs.Prelude.{ℕ, zero, suc, List, [], ◌∷◌, true, false, if◌then◌else◌}
use Rattle.gev_record.specs.Script.{is_among}
use Rattle.gev_record.specs.declared.used.Used.{Used}

-- those among these places
abbrev pub used_of : List ℕ → Used
used_of is = record { first = is_among 0 is; second = is_among 1 is; third = is_among 2 is }

abbrev pub lowest_in : Used → ℕ
lowest_in u = if u.first then (if u.second then 2 else 1) else 0

abbrev pub freed : ℕ → Used → Used
freed zero u = record u { first = false }
freed (suc zero) u = record u { second = false }
freed (suc (suc zero)) u = record u { third = false }
freed (suc (suc (suc n))) u = u

abbrev pub taken : ℕ → Used → Used
taken zero u = record u { first = true }
taken (suc zero) u = record u { second = true }
taken (suc (suc zero)) u = record u { third = true }
taken (suc (suc (suc n))) u = u

-- these places are free again
abbrev pub all_freed : List ℕ → Used → Used
all_freed [] u = u
all_freed (i ∷ is) u = all_freed is (freed i u)
