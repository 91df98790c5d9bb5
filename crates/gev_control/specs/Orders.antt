-- What an order asks of a camera.
use Rattle.std.specs.Prelude.{List, map}
use Rattle.byteorder.specs.Endian.{big_bytes}
use Rattle.gvcp_wire.specs.Messages.{PlainCommand, read_reg, read_mem}
use Rattle.client_machine.specs.Setup.{write_of}
use Rattle.gev_control.specs.declared.order.Order.{Order}
use Rattle.gev_control.specs.declared.order.Order.TheVariants as order

-- the command that an order is: WRITEREG or READREG of one register, or READMEM
abbrev pub command_of : Order → PlainCommand
command_of (order.WriteReg address value) = write_of address value
command_of (order.ReadReg address) = read_reg (big_bytes 4 address)
command_of (order.ReadMem address count) = read_mem address count

abbrev pub commands_of : List Order → List PlainCommand
commands_of orders = map command_of orders
