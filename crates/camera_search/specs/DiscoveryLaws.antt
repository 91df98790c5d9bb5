-- What is told is what the bootstrap registers hold.
use Rattle.std.specs.Prelude.{◌≡◌, ℕ, ◌^◌, ◌<◌, List, length, take, drop, flat_map}
use Rattle.std.specs.List.{All}
use Rattle.byteorder.specs.Endian.{big_bytes}
use Rattle.bootstrap_regs.specs.Addresses.{WORDS, DISCOVERY_WORDS}
use Rattle.bootstrap_regs.specs.Words.{word_at}
use Rattle.camera_search.specs.Discovery.{DISCOVERY_SIZE, discovery_at}

-- the bytes of so many words from this place on
abbrev pub bytes_of_words : ℕ → ℕ → List ℕ → List ℕ
bytes_of_words place count words = flat_map (big_bytes 4) (take count (drop place words))

-- what a camera with these registers answers to DISCOVERY
abbrev pub discovery_body : List ℕ → List ℕ
discovery_body words = flat_map (big_bytes 4) (take DISCOVERY_WORDS words)

-- The fields that are read of it are the words at their addresses, and the bytes of those of a text.
pub record TellsTheRegisters (words : List ℕ) : Type 0 where
  pub size : length (discovery_body words) ≡ DISCOVERY_SIZE
  pub spec_version : (discovery_at (discovery_body words)).spec_version ≡ word_at words 0x0000
  pub device_mode : (discovery_at (discovery_body words)).device_mode ≡ word_at words 0x0004
  pub mac_address : (discovery_at (discovery_body words)).mac_address ≡ drop 2 (bytes_of_words 2 2 words)
  pub ip_config_options : (discovery_at (discovery_body words)).ip_config_options ≡ word_at words 0x0010
  pub ip_config_current : (discovery_at (discovery_body words)).ip_config_current ≡ word_at words 0x0014
  pub current_ip : (discovery_at (discovery_body words)).current_ip ≡ word_at words 0x0024
  pub current_subnet_mask : (discovery_at (discovery_body words)).current_subnet_mask ≡ word_at words 0x0034
  pub default_gateway : (discovery_at (discovery_body words)).default_gateway ≡ word_at words 0x0044
  pub manufacturer_name : (discovery_at (discovery_body words)).manufacturer_name ≡ bytes_of_words 18 8 words
  pub model_name : (discovery_at (discovery_body words)).model_name ≡ bytes_of_words 26 8 words
  pub device_version : (discovery_at (discovery_body words)).device_version ≡ bytes_of_words 34 8 words
  pub manufacturer_specific_information : (discovery_at (discovery_body words)).manufacturer_specific_information ≡ bytes_of_words 42 12 words
  pub serial_number : (discovery_at (discovery_body words)).serial_number ≡ bytes_of_words 54 4 words
  pub user_defined_name : (discovery_at (discovery_body words)).user_defined_name ≡ bytes_of_words 58 4 words

abbrev pub RegistersAreTold : Type 0
RegistersAreTold = (words : List ℕ) → length words ≡ WORDS → All (λ word. word < 2 ^ 32) words → TellsTheRegisters words
