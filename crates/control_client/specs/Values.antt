-- What the acknowledge of a READREG of one register tells (GigE Vision 2.0, GVCP: READREG_ACK).
use Rattle.std.specs.Prelude.{ℕ, ◌==◌, if◌then◌else◌, List, length, Option, Some, None}
use Rattle.byteorder.specs.Endian.{big_number}

-- the value in the body of an acknowledge: a body of 4 bytes has one
abbrev pub value_of : List ℕ → Option ℕ
value_of body = if length body == 4 then Some (big_number 4 body) else None
