-- What is written is in the wire relation.
use Rattle.std.proofs.Common.{◌≡◌, ℕ, ◌^◌, ◌<◌, List, length, refl, sym, ap, arith, length-append, length-drop}
use Rattle.wire_fields.specs.Fields.{spelled}
use Rattle.wire_fields.proofs.Spellings.{fields_spelled, whole_spelled, length-spelled}
use Rattle.gvcp_wire.specs.declared.message.CommandHead.{CommandHead}
use Rattle.gvcp_wire.specs.Messages.{PlainCommand, read_reg, write_reg, read_mem, write_mem, other, PlainAck}
use Rattle.gvcp_wire.specs.Control.{header_fields, read_mem_fields, write_mem_fields, IsBody, Control, plain_body, plain, IsCommand, HasWidths, AreWithin}
use Rattle.gvcp_wire.specs.Answer.{ack_fields}
use Rattle.gvcp_wire.specs.Laws.{IsWrittenCommand, IsWrittenAck}
use Rattle.gvcp_wire.proofs.Pieces.{reads_mem, writes_mem}

body_is_written : (command : PlainCommand) → HasWidths command → IsBody (plain_body command) command
body_is_written (read_reg addresses) w = refl
body_is_written (write_reg pairs) w = refl
body_is_written (read_mem address count) w = record { reserved = 0; fields = whole_spelled (read_mem_fields address 0 count) (w.0, (omega arith, (w.1, tt))) }
body_is_written (write_mem address bytes) w = fields_spelled (write_mem_fields address) bytes (w, tt)
body_is_written (other code body) w = refl

written_again : (head : CommandHead) (command : PlainCommand) → IsCommand head command → AreWithin head command → Control (plain head command) head command
written_again head command c w =
    let body = plain_body command in
    let len : length body < 2 ^ 16 = omega (arith, c.fits) in
    record {
      body = body;
      header = fields_spelled (header_fields 66 head (length body)) body (omega arith, (w.flags, (w.code, (len, (w.request, tt)))));
      request = c.request;
      form = record { fits = c.fits; allowed = c.allowed; spelled = body_is_written command w.body };
    }

length_written : (body : List ℕ) (command : PlainCommand) → IsBody body command → length (plain_body command) ≡ length body
length_written body (read_reg addresses) h = ap length (sym h)
length_written body (write_reg pairs) h = ap length (sym h)
length_written body (read_mem address count) h = omega (arith, length-spelled (read_mem_fields address 0 count), (reads_mem body address count h).whole)
length_written body (write_mem address bytes) h =
    let m = writes_mem body address bytes h in
    omega (arith, length-append (spelled (write_mem_fields address)) bytes, length-spelled (write_mem_fields address), ap length m.bytes_are, length-drop 4 body, m.long)
length_written body (other code rest) h = ap length (sym h)

pub is_written_command : (head : CommandHead) (command : PlainCommand) → IsWrittenCommand head command
is_written_command head command = record {
  read_again = written_again head command;
  only = λ bytes c. record {
    request = c.request;
    allowed = c.form.allowed;
    fits = omega (arith, c.form.fits, length_written c.body command c.form.spelled);
  };
}

pub is_written_ack : (ack : PlainAck) → IsWrittenAck ack
is_written_ack ack h = record {
  header = fields_spelled (ack_fields ack (length ack.body)) ack.body (h.status, (h.code, (h.fits, (h.req, tt))));
  request = h.request;
}
