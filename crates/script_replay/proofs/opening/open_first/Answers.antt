use Rattle.script_replay.proofs.opening.open_first.Goals as goal

pub open_one-stream-requires : goal.open_one-stream-requires
open_one-stream-requires c =
    let system = rw c.requires.empty at c.open_one-system.ensures.after in
    let system_serial = rw c.requires.empty at c.open_one-system.ensures.serial in
    let interface = rw (system, system_serial) at c.open_one-interface.ensures.after in
    let interface_serial = rw (system, system_serial) at c.open_one-interface.ensures.serial in
    let device = rw (interface, interface_serial) at c.open_one-device.ensures.after in
    let device_serial = rw (interface, interface_serial) at c.open_one-device.ensures.serial in
    rw (device, device_serial)

pub open_one-requires : goal.open_one-requires
open_one-requires c =
    let system = rw c.requires.empty at c.open_one-system.ensures.after in
    let system_serial = rw c.requires.empty at c.open_one-system.ensures.serial in
    let interface = rw (system, system_serial) at c.open_one-interface.ensures.after in
    let interface_serial = rw (system, system_serial) at c.open_one-interface.ensures.serial in
    let device = rw (interface, interface_serial) at c.open_one-device.ensures.after in
    let device_serial = rw (interface, interface_serial) at c.open_one-device.ensures.serial in
    let stream = rw (device, device_serial) at c.open_one-stream.ensures.after in
    let stream_serial = rw (device, device_serial) at c.open_one-stream.ensures.serial in
    rw (stream, stream_serial)

pub returns-clause-after : goal.returns-clause-after
returns-clause-after c =
    let system = rw c.requires.empty at c.open_one-system.ensures.after in
    let system_serial = rw c.requires.empty at c.open_one-system.ensures.serial in
    let interface = rw (system, system_serial) at c.open_one-interface.ensures.after in
    let interface_serial = rw (system, system_serial) at c.open_one-interface.ensures.serial in
    let device = rw (interface, interface_serial) at c.open_one-device.ensures.after in
    let device_serial = rw (interface, interface_serial) at c.open_one-device.ensures.serial in
    let stream = rw (device, device_serial) at c.open_one-stream.ensures.after in
    let stream_serial = rw (device, device_serial) at c.open_one-stream.ensures.serial in
    rw (stream, stream_serial) at c.open_one.ensures.after

pub returns-clause-stream : goal.returns-clause-stream
returns-clause-stream c =
    let system = rw c.requires.empty at c.open_one-system.ensures.after in
    let system_serial = rw c.requires.empty at c.open_one-system.ensures.serial in
    let interface = rw (system, system_serial) at c.open_one-interface.ensures.after in
    let interface_serial = rw (system, system_serial) at c.open_one-interface.ensures.serial in
    let device = rw (interface, interface_serial) at c.open_one-device.ensures.after in
    let device_serial = rw (interface, interface_serial) at c.open_one-device.ensures.serial in
    rw (device, device_serial) at c.open_one-stream.ensures.serial
