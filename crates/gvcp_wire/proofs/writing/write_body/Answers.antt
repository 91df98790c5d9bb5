-- The numbers of a body are written one after the other, and bytes behind them.
use Rattle.std.proofs.Common.{◌+◌, ◌-◌, ◌≤◌, ◌++◌, length, refl, arith}
use Rattle.byteorder.specs.Endian.{big_bytes}
use Rattle.gvcp_wire.specs.Messages.{read_mem, write_mem}
use Rattle.gvcp_wire.specs.Control.{plain_body}
use Rattle.wire_fields.proofs.Placed.{put_after, whole_after}
use Rattle.gvcp_wire.proofs.writing.write_body.Goals as goal

pub returns-in-ReadMem-clause-written : goal.returns-in-ReadMem-clause-written
returns-in-ReadMem-clause-written c =
    let old = c.args.out.now in
    let room : length (plain_body (read_mem c.in-ReadMem.address c.in-ReadMem.count)) ≤ length old = rw c.in-ReadMem.is at c.requires in
    let address = big_bytes 4 c.in-ReadMem.address in
    let two = put_after old address (big_bytes 2 0) _ _ 4 2 refl (omega arith) c.write_u32.ensures c.write_u16.ensures in
    rw c.in-ReadMem.is
    (put_after old (address ++ big_bytes 2 0) (big_bytes 2 c.in-ReadMem.count) _ _ 6 2 refl (omega arith) two c.write_u16-in-ReadMem.ensures)

pub returns-in-WriteMem-clause-written : goal.returns-in-WriteMem-clause-written
returns-in-WriteMem-clause-written c =
    let address = c.in-WriteMem.address in
    let bytes = c.in-WriteMem.bytes.now in
    rw c.in-WriteMem.is
    (whole_after c.args.out.now (big_bytes 4 address) bytes _ _ 4 (4 + length bytes - 4) (length (plain_body (write_mem address bytes))) refl (omega arith)
    c.write_u32-in-WriteMem.ensures c.copy_from_slice.ensures.after)
