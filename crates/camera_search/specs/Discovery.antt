-- What the acknowledge of DISCOVERY tells (GigE Vision 2.0, DISCOVERY_ACK): the bootstrap registers at 0x0000 to
-- 0x00F7, each at its own address.
use Rattle.std.specs.Prelude.{ℕ, ◌&&◌, ◌==◌, List, length, take, drop, Option, Some, None, if◌then◌else◌}
use Rattle.wire_fields.specs.Fields.{number_at}
use Rattle.gvcp_wire.specs.Codes.{DISCOVERY_ACK}
use Rattle.gvcp_wire.specs.declared.status.Status.TheVariants.{Success}
use Rattle.gvcp_wire.specs.Status.{status_code}
use Rattle.gvcp_wire.specs.Messages.{PlainAck}
use Rattle.camera_search.specs.declared.discovery_ack.DiscoveryAck.{DiscoveryAck}

-- how many bytes it has
abbrev pub DISCOVERY_SIZE : ℕ
DISCOVERY_SIZE = 248

-- the bytes of the register with this address and width
abbrev pub bytes_at : ℕ → ℕ → List ℕ → List ℕ
bytes_at address width body = take width (drop address body)

-- the fields of a body
abbrev pub discovery_at : List ℕ → DiscoveryAck
discovery_at body = record {
  spec_version = number_at 0x0000 4 body;
  device_mode = number_at 0x0004 4 body;
  -- behind 2 reserved bytes
  mac_address = bytes_at 0x000A 6 body;
  ip_config_options = number_at 0x0010 4 body;
  ip_config_current = number_at 0x0014 4 body;
  current_ip = number_at 0x0024 4 body;
  current_subnet_mask = number_at 0x0034 4 body;
  default_gateway = number_at 0x0044 4 body;
  manufacturer_name = bytes_at 0x0048 32 body;
  model_name = bytes_at 0x0068 32 body;
  device_version = bytes_at 0x0088 32 body;
  manufacturer_specific_information = bytes_at 0x00A8 48 body;
  serial_number = bytes_at 0x00D8 16 body;
  user_defined_name = bytes_at 0x00E8 16 body;
}

-- what an acknowledge tells, if it is one of DISCOVERY with success and of the right size
abbrev pub discovery_reading : PlainAck → Option DiscoveryAck
discovery_reading ack =
    if (ack.status == status_code Success) && (ack.code == DISCOVERY_ACK) && (length ack.body == DISCOVERY_SIZE)
    then Some (discovery_at ack.body) else None
