use Rattle.std.proofs.Common.{◌+◌, ◌-◌, ◌≤◌, ◌++◌, length, refl, arith}
use Rattle.byteorder.specs.Endian.{big_bytes}
use Rattle.gvcp_wire.specs.Messages.{ack_view}
use Rattle.gvcp_wire.specs.Answer.{plain_ack}
use Rattle.wire_fields.proofs.Placed.{put_after, whole_after}
use Rattle.gvcp_wire.proofs.Written.{is_written_ack}
use Rattle.gvcp_wire.proofs.writing.write_ack.Goals as goal

pub returns-clause-written : goal.returns-clause-written
returns-clause-written c =
    let old = c.args.out.now in
    let ack = ack_view c.args.ack.now in
    let room : length (plain_ack ack) ≤ length old = c.requires.room in
    let status = big_bytes 2 ack.status in
    let code = big_bytes 2 ack.code in
    let size = big_bytes 2 (length ack.body) in
    let req = big_bytes 2 ack.req in
    let two = put_after old status code _ _ 2 2 refl (omega arith) c.write_u16.ensures c.write_u16-2.ensures in
    let three = put_after old (status ++ code) size _ _ 4 2 refl (omega arith) two c.write_u16-3.ensures in
    let four = put_after old ((status ++ code) ++ size) req _ _ 6 2 refl (omega arith) three c.write_u16-4.ensures in
    whole_after old (((status ++ code) ++ size) ++ req) ack.body _ _ 8 (8 + length ack.body - 8) (length (plain_ack ack)) refl (omega arith) four c.copy_from_slice.ensures.after

pub returns-clause-read_again : goal.returns-clause-read_again
returns-clause-read_again c =
    is_written_ack (ack_view c.args.ack.now)
    (record { status = omega arith; code = omega arith; req = omega arith; request = c.requires.request; fits = omega arith })
