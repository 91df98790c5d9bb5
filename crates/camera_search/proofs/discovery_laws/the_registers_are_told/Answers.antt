use Rattle.std.proofs.Common.{◌≤◌, length, arith}
use Rattle.camera_search.proofs.Spelled.{length_told, spelled_part, spelled_number, mac_part}
use Rattle.camera_search.proofs.discovery_laws.the_registers_are_told.Goals as goal

pub returns : goal.returns
returns c words size small =
    let fits : 62 ≤ length words = omega (arith, size) in
    record {
      size = length_told 62 words fits;
      spec_version = spelled_number 0 62 words (omega arith) fits small;
      device_mode = spelled_number 1 62 words (omega arith) fits small;
      mac_address = mac_part 62 words (omega arith) fits;
      ip_config_options = spelled_number 4 62 words (omega arith) fits small;
      ip_config_current = spelled_number 5 62 words (omega arith) fits small;
      current_ip = spelled_number 9 62 words (omega arith) fits small;
      current_subnet_mask = spelled_number 13 62 words (omega arith) fits small;
      default_gateway = spelled_number 17 62 words (omega arith) fits small;
      manufacturer_name = spelled_part 18 8 62 words (omega arith) fits;
      model_name = spelled_part 26 8 62 words (omega arith) fits;
      device_version = spelled_part 34 8 62 words (omega arith) fits;
      manufacturer_specific_information = spelled_part 42 12 62 words (omega arith) fits;
      serial_number = spelled_part 54 4 62 words (omega arith) fits;
      user_defined_name = spelled_part 58 4 62 words (omega arith) fits;
    }
