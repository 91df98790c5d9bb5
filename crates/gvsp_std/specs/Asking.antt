-- PACKETRESEND with standard identifiers (GigE Vision 1.x, GVCP PACKETRESEND command).
use Rattle.std.specs.Prelude.{ℕ, List, [], ◌∷◌, length}
use Rattle.wire_fields.specs.Fields.{HasFields}
use Rattle.gvcp_wire.specs.Codes.{KEY, PACKETRESEND_CMD}
use Rattle.gvcp_wire.specs.declared.message.CommandHead.{CommandHead}
use Rattle.gvcp_wire.specs.Control.{IsCommandOf}
use Rattle.gvcp_wire.specs.declared.resend.Resend.{Resend}
use Rattle.gvsp_std.specs.Blocks.{narrow}

-- standard identifiers, and no acknowledge is asked for
abbrev pub std_resend_head : ℕ → CommandHead
std_resend_head req = record { flags = 0; code = PACKETRESEND_CMD; req = req }

-- the fields of the body, each with its number of bytes
abbrev pub std_resend_body_fields : Resend → List (ℕ × ℕ)
std_resend_body_fields resend = (2, resend.channel) ∷ (2, narrow resend.block) ∷ (4, resend.first) ∷ (4, resend.last) ∷ []

-- the fields of the whole command: key, flags, code, length and request number, and then the body
abbrev pub std_resend_fields : ℕ → Resend → List (ℕ × ℕ)
std_resend_fields req resend =
    (1, 0x42) ∷ (1, 0) ∷ (2, 0x0040) ∷ (2, 12) ∷ (2, req) ∷ std_resend_body_fields resend

-- The bytes are read as the command with its header, and its body as what was asked for.
pub record IsStandardResend (bytes : List ℕ) (req : ℕ) (resend : Resend) : Type 0 where
  pub body : List ℕ
  pub header : IsCommandOf bytes KEY (std_resend_head req) (length body) body
  pub asked : HasFields body (std_resend_body_fields resend) []
