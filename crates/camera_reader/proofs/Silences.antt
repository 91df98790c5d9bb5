-- A silence, by the moment of the last datagram.
use Rattle.std.proofs.Common.{◌≡◌, ℕ, ◌+◌, true, List, [], ◌∷◌, ◌++◌, refl, arith}
use Rattle.std.specs.Prelude.{◌||◌, not, nat_le}
use Rattle.std.proofs.lemmas.Bool.{leb-true, and_parts}
use Rattle.first_leader.specs.Waiting.{jumps}
use Rattle.camera_reader.specs.declared.listening.Listening.{Listening}
use Rattle.camera_reader.specs.Hearing.{Arrival, is_datagram}
use Rattle.camera_reader.specs.Listening.{last_heard, listened_behind, begins_listening, listened_to}
use Rattle.camera_reader.specs.Laws.{last_datagram, SilenceIsWaited}

heard-last : (silence : ℕ) (l : Listening) (xs : List Arrival) (a : Arrival)
    → last_heard (listened_to silence l xs) a.moment (is_datagram a.answer) ≡ last_datagram l.heard (xs ++ a ∷ [])
heard-last silence l [] a = refl
heard-last silence l (x ∷ xs) a = heard-last silence (listened_behind silence l x) xs a

pub silence_is_waited : SilenceIsWaited
silence_is_waited silence begin arrivals last quiet =
    let l : Listening = listened_to silence (begins_listening begin) arrivals in
    let heard : ℕ = last_heard l last.moment (is_datagram last.answer) in
    let over : nat_le (heard + silence) last.moment ≡ true =
    (and_parts (nat_le (heard + silence) last.moment) (not (jumps silence l.pace last.moment) || l.pace.spared) quiet).0 in
    omega (arith, leb-true (heard + silence) last.moment over, heard-last silence (begins_listening begin) arrivals last)
