-- A refusal ends nothing.
use Rattle.std.proofs.Common.{ap, sym}
use Rattle.gev_control.specs.CarriesThrough.{given_up}
use Rattle.gev_control.proofs.going_through.given_up.Goals as goal

pub returns-in-Refused : goal.returns-in-Refused
returns-in-Refused c = sym (ap given_up c.in-Refused.is)
