-- A line that stands in its place behind the header is one that is run there.
use Rattle.std.proofs.Common.{◌≡◌, ℕ, ◌+◌, ◌*◌, ◌%◌, ◌==◌, ◌<◌, ◌≤◌, ◌&&◌, nat_le, Bool, true, false, List, length, Option, Some, None, Result, Ok, IsOk, unwrap_or, slice_index_or, refl, sym, ap, subst, ◌∙◌, arith}
use Rattle.std.specs.List.{list_all, AllPass}
use Rattle.std.proofs.lemmas.List.Sums.{AllPass-from_list_all}
use Rattle.std.proofs.lemmas.Bool.{eqb-true}
use Rattle.hex.specs.declared.error.FromHexError.{FromHexError}
use Rattle.hex.specs.Hex.{decode_of, is_hex_digit as is_digit}
use Rattle.hex.proofs.HexLemmas.{decode_of-digits}
use Rattle.gev_types.specs.Limits.{place_count}
use Rattle.gev_script.specs.declared.act.Act.{Act}
use Rattle.gev_script.specs.declared.act.Act.TheVariants as act
use Rattle.gev_script.specs.Lines as line
use Rattle.gev_script.specs.Lines.{ScriptLine}
use Rattle.gev_script.specs.Numbers.{is_hex, is_hex_digit}
use Rattle.gev_script.specs.Grammar.{line_of, first_name}
use Rattle.gev_script.specs.Spelling.{IsScriptLine, TakesPlace}
use Rattle.script_trace.specs.Standing.{is_out_of_place}
use Rattle.script_replay.specs.declared.datagram_rooms.TheConstants.{ROOM}
use Rattle.script_replay.specs.Replays.{Fits, IsLaterIn}
use Rattle.script_replay.proofs.FirstNames.{begins_so, name_of_line}

-- ---- digits

lower_digit : (b : ℕ) → is_hex_digit b ≡ true → is_digit b ≡ true
lower_digit b h = grind (arith, h)

all_digits : (xs : List ℕ) → AllPass is_hex_digit xs → AllPass is_digit xs
all_digits xs h = λ i d low. lower_digit (slice_index_or xs i d) (h i d low)

ok_of : (r : Result (List ℕ) FromHexError) → (bytes : List ℕ) × (r ≡ Ok bytes) → IsOk r
ok_of r h = subst IsOk (sym h.1) refl

both_true : (a b : Bool) → (a && b) ≡ true → (a ≡ true) × (b ≡ true)
both_true true true h = (refl, refl)
both_true true false h = absurd cc
both_true false b h = absurd cc

hex_fits : (digits : List ℕ) (room : ℕ) → is_hex digits ≡ true → 2 + length digits ≤ 2 * room → Fits room digits
hex_fits digits room hex short = record {
  spelled = ok_of (decode_of digits) (decode_of-digits digits even (all_digits digits (AllPass-from_list_all is_hex_digit digits parts.1)));
  large = omega (arith, short);
}
  where
    parts : ((nat_le 1 (length digits) && (length digits % 2 == 0)) ≡ true) × (list_all is_hex_digit digits ≡ true)
    parts = both_true (nat_le 1 (length digits) && (length digits % 2 == 0)) (list_all is_hex_digit digits) hex

    even : length digits % 2 ≡ 0
    even = eqb-true (length digits % 2) 0 (both_true (nat_le 1 (length digits)) (length digits % 2 == 0) parts.0).1

-- ---- steps

place_in : (a : Act) (place : Option ℕ) → TakesPlace a place → unwrap_or place 0 < place_count
place_in a None h = omega arith
place_in act.Grab (Some place) h = omega (arith, h)
place_in act.Lay (Some place) h = omega (arith, h)
place_in act.Pool (Some place) h = omega (arith, h)
place_in act.Fill (Some place) h = omega (arith, h)
place_in act.Claim (Some place) h = absurd h
place_in act.Take (Some place) h = absurd h
place_in act.SweepPool (Some place) h = absurd h
place_in act.SweepOut (Some place) h = absurd h
place_in act.Close (Some place) h = absurd h

-- ---- the lines

out_of : (text : List ℕ) (l : ScriptLine) → line_of text ≡ Ok l → is_out_of_place (Ok (name_of_line l)) ≡ true → is_out_of_place (first_name text) ≡ false → ⊥
out_of text l read out in_place = let both : true ≡ false = sym out ∙ sym (ap is_out_of_place (begins_so text l read)) ∙ in_place in cc

pub later_in : (text : List ℕ) (l : ScriptLine) → line_of text ≡ Ok l → IsScriptLine l → is_out_of_place (first_name text) ≡ false → IsLaterIn ROOM l
later_in text (line.header c) read is in_place = out_of text (line.header c) read refl in_place
later_in text (line.announce size) read is in_place = tt
later_in text (line.queue place generation) read is in_place = tt
later_in text (line.revoke place generation) read is in_place = tt
later_in text (line.flush operation) read is in_place = tt
later_in text line.start read is in_place = tt
later_in text (line.stop flags) read is in_place = tt
later_in text (line.tick moment) read is in_place = tt
later_in text (line.datagram digits) read is in_place = hex_fits digits ROOM is.hex (omega (arith, is.short))
later_in text line.take read is in_place = tt
later_in text line.kill read is in_place = tt
later_in text line.event_flush read is in_place = tt
later_in text (line.info which) read is in_place = tt
later_in text (line.buffer_info place generation which) read is in_place = tt
later_in text (line.open_child parent index) read is in_place = tt
later_in text (line.close_all serial) read is in_place = tt
later_in text (line.step actor a place) read is in_place = record { actor_most = is.actor_to; in_range = place_in a place is.takes }
later_in text (line.mode n) read is in_place = tt
later_in text line.end_of_script read is in_place = tt
later_in text line.camera_header read is in_place = out_of text line.camera_header read refl in_place
later_in text (line.command peer digits) read is in_place = out_of text (line.command peer digits) read refl in_place
later_in text line.frame read is in_place = out_of text line.frame read refl in_place
