-- What a request asks for.
use Rattle.std.proofs.Common.{◌≡◌, ℕ, ◌^◌, ◌<◌, ◌≤◌, Bool, true, false, ◌&&◌, List, length, slice_index, take, drop, Some, refl, sym, ap, ◌∙◌, subst, arith, length-drop}
use Rattle.std.proofs.lemmas.List.{take_all}
use Rattle.wire_fields.specs.Fields.{number_at}
use Rattle.wire_fields.proofs.InOrder.{fields_read}
use Rattle.wire_fields.proofs.Spellings.{fields_spelled}
use Rattle.gvcp_wire.specs.Flags.{has_flag}
use Rattle.gvcp_wire.specs.Control.{header_fields}
use Rattle.gvcp_wire.specs.declared.resend.Resend.{Resend}
use Rattle.gvcp_wire.specs.Bodies.{IsWithin, resend_head, resend_body}
use Rattle.gvcp_wire.specs.BodyReading.{resend_at, resend_reading}
use Rattle.gvcp_wire.proofs.Resends.{reads_resend}
use Rattle.gvcp_wire.proofs.BodiesWritten.{writes_resend}
use Rattle.gvsp_std.proofs.Asked.{asked_again}
use Rattle.packet_requests.specs.declared.id_mode.IdMode.{IdMode}
use Rattle.packet_requests.specs.declared.id_mode.IdMode.TheVariants.{Standard, Extended}
use Rattle.packet_requests.specs.Requests.{request_number, asked_in, is_narrow, is_standard, command_in, control_request}
use Rattle.packet_requests.specs.Laws.{IsCommandIn, receiver_request, RequestsAskTheSame}
use Rattle.packet_requests.proofs.Numbered.{has_the_bit}

-- what the code has read of a request, and made of it
same_command : (ids : IdMode) (bytes : List ℕ) (resend : Resend) (own number : ℕ) (standard : Bool) → resend ≡ asked_in bytes → own ≡ number_at 6 2 bytes
    → number ≡ request_number own → standard ≡ is_standard ids resend → command_in standard number resend ≡ control_request ids bytes
same_command ids bytes resend own number standard asked is_own is_number form = rw (form, is_number, is_own, asked) refl

-- the same where the body was lent
pub written_command : (ids : IdMode) (bytes : List ℕ) (resend : Resend) (own number : ℕ) (standard : Bool) → length bytes ≡ 28
    → resend ≡ resend_at (take 20 (drop 8 bytes)) → own ≡ number_at 6 2 bytes → number ≡ request_number own → standard ≡ is_standard ids resend
    → command_in standard number resend ≡ control_request ids bytes
written_command ids bytes resend own number standard long asked is_own is_number form =
    let short : length (drop 8 bytes) ≤ 20 = omega (arith, long, length-drop 8 bytes) in
    same_command ids bytes resend own number standard (asked ∙ ap resend_at (take_all 20 (drop 8 bytes) short)) is_own is_number form

-- ---- a receiver's request

own_number : (number : ℕ) (resend : Resend) → number < 2 ^ 16 → number_at 6 2 (receiver_request number resend) ≡ number
own_number number resend fits =
    let (key_fits, key_is, (flags_fit, flags_are, (code_fits, code_is, (size_fits, size_is, (number_fits, number_is, rest_is))))) =
    fields_read 0 (header_fields 0x42 (resend_head number) 20) (resend_body resend) (receiver_request number resend)
    (fields_spelled (header_fields 0x42 (resend_head number) 20) (resend_body resend) (omega arith, (omega arith, (omega arith, (omega arith, (fits, tt)))))) in
    number_is

same_packets : (resend : Resend) → IsWithin resend → resend_at (resend_body resend) ≡ resend
same_packets resend within =
    let written = writes_resend 1 resend (omega arith) (omega arith) within in
    let read : resend_reading (resend_head 1) (resend_body resend) ≡ Some resend = ((reads_resend (resend_head 1) (resend_body resend)).given resend).1 written.body in
    cc

-- ---- a command in one of the forms

from_one : (x y : Bool) → (x && y) ≡ true → x ≡ true
from_one true y e = refl
from_one false y e = absurd cc

narrow_block : (resend : Resend) → is_narrow resend ≡ true → 1 ≤ resend.block
narrow_block resend e = grind arith

standard_block : (ids : IdMode) (resend : Resend) → is_standard ids resend ≡ true → 1 ≤ resend.block
standard_block Standard resend e = narrow_block resend e
standard_block Extended resend e = absurd cc

is_command : (standard : Bool) (number : ℕ) (resend : Resend) → 1 ≤ number → number < 2 ^ 16 → IsWithin resend
    → (standard ≡ true → 1 ≤ resend.block) → IsCommandIn standard (command_in standard number resend) number resend
is_command true number resend some fits within block = asked_again number resend fits within.channel within.first within.last (block refl)
is_command false number resend some fits within block =
    let written = writes_resend number resend some fits within in record { command = written.command; body = written.body }

no_acknowledge : (standard : Bool) (number : ℕ) (resend : Resend) → has_flag 0x01 (slice_index (command_in standard number resend) 1) ≡ false
no_acknowledge true number resend = refl
no_acknowledge false number resend = refl

pub asks_the_same : RequestsAskTheSame
asks_the_same ids number resend fits within =
    let standard = is_standard ids resend in
    let marked = request_number number in
    let bit = has_the_bit number fits in
    let is : control_request ids (receiver_request number resend) ≡ command_in standard marked resend =
    sym (same_command ids (receiver_request number resend) resend number marked standard (sym (same_packets resend within)) (sym (own_number number resend fits)) refl refl) in
    record {
      is = is;
      read_again = subst (λ (l : List ℕ). IsCommandIn standard l marked resend) (sym is)
          (is_command standard marked resend (omega (arith, bit.from)) bit.fits within (standard_block ids resend));
      unacknowledged = subst (λ (l : List ℕ). has_flag 0x01 (slice_index l 1) ≡ false) (sym is) (no_acknowledge standard marked resend);
    }
