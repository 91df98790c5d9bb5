-- Over a link that tells its receives each piece of a description is whole.
use Rattle.std.proofs.Common.{◌≡◌, ℕ, ◌+◌, ◌-◌, ◌≤◌, List, length, drop, Option, Some, None, refl, sym, subst, length-append, length-drop, arith}
use Rattle.std.specs.Prelude.{min, nat_le, ◌==◌, IsTrue}
use Rattle.std.proofs.lemmas.Bool.{and_parts, leb-true}
use Rattle.std.proofs.lemmas.List.{length-take-le}
use Rattle.wire_fields.specs.Fields.{number_at}
use Rattle.gev_links.specs.Links.{Address, Answer}
use Rattle.gev_links.specs.Moments.{TellsEach}
use Rattle.gev_control.specs.CarriesOut.{ControlSide}
use Rattle.link_filters.specs.Reads.{has_memory}
use Rattle.camera_description.specs.declared.location.Location.{Location}
use Rattle.camera_description.specs.Memory.{PIECE_SIZE, asked_count, memory_in, heard_of, TellsMemory, IsToldMemory}
use Rattle.camera_description.specs.Describing.{HasCopied, nothing_yet, one_more}

-- a link that tells told before
told_before : (old new : Option (List Answer)) (address count : ℕ) (heard xs : List Answer) → TellsEach old (heard_of old address count new) xs → new ≡ Some heard
    → (before : List Answer) × (old ≡ Some before)
told_before (Some old) new address count heard xs tells is = (old, refl)
told_before None new address count heard xs tells is =
    absurd (subst (λ (v : Option (List Answer)). TellsEach None (heard_of None address count v) xs) is tells)

long_enough : (rest address : ℕ) (body : List ℕ) → IsTrue (has_memory address (asked_count rest) body) → min rest PIECE_SIZE ≤ length (drop 4 body)
long_enough rest address body has =
    let parts = and_parts (nat_le (4 + asked_count rest) (length body)) (number_at 0 4 body == address) has in
    omega (arith, leb-true (4 + asked_count rest) (length body) parts.0, length-drop 4 body)

length_piece : (rest address : ℕ) (body : List ℕ) → IsTrue (has_memory address (asked_count rest) body)
    → length (memory_in (min rest PIECE_SIZE) body) ≡ min rest PIECE_SIZE
length_piece rest address body has = length-take-le (min rest PIECE_SIZE) (drop 4 body) (long_enough rest address body has)

piece_told : (old new : Option (List Answer)) (before heard : List Answer) (rest address : ℕ) (body : List ℕ) → old ≡ Some before → new ≡ Some heard
    → IsToldMemory old new address (asked_count rest) body → length (memory_in (min rest PIECE_SIZE) body) ≡ min rest PIECE_SIZE
piece_told old new before heard rest address body was is told =
    let tells : TellsMemory before heard address (asked_count rest) body =
    subst (λ (v : Option (List Answer)). IsToldMemory (Some before) v address (asked_count rest) body) is
    (subst (λ (v : Option (List Answer)). IsToldMemory v new address (asked_count rest) body) was told) in
    length_piece rest address body (subst (λ (b : List ℕ). IsTrue (has_memory address (asked_count rest) b)) (sym tells.body_is) tells.has)

pub whole : (camera : Address) (location : Location) (o : ControlSide) (place : ℕ) (m : ControlSide) (text : List ℕ) (heard : List Answer)
    → HasCopied camera location o place m text → m.heard ≡ Some heard → length text ≡ place
whole camera location o _ _ _ heard nothing_yet is = refl
whole camera location o _ _ _ heard (one_more place m n text so below read) is =
    let before = told_before m.heard n.heard (location.address + place) (asked_count (location.size - place)) heard _ read.reads.1.turns.heard is in
    let so_far : length text ≡ place = whole camera location o place m text before.0 so before.1 in
    let piece : length (memory_in (min (location.size - place) PIECE_SIZE) n.client.body) ≡ min (location.size - place) PIECE_SIZE =
    piece_told m.heard n.heard before.0 heard (location.size - place) (location.address + place) n.client.body before.1 is read.told in
    omega (arith, length-append text (memory_in (min (location.size - place) PIECE_SIZE) n.client.body), so_far, piece)
