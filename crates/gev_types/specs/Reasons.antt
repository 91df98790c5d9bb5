-- Why the image of a block isn't whole in its buffer.
use Rattle.std.specs.Prelude.{◌||◌, Bool, true, false}
use Rattle.gev_types.specs.declared.reasons.Reasons.{Reasons}

abbrev pub no_reason : Reasons
no_reason = record { no_leader = false; small = false; no_trailer = false; no_payload = false; short = false }

-- some reason holds
abbrev pub has_reason : Reasons → Bool
has_reason r = r.no_leader || r.small || r.no_trailer || r.no_payload || r.short
