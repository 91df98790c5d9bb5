-- What the receiver was told, by what came on the stream's link.
use Rattle.std.proofs.Common.{ℕ, List, [], ◌∷◌, ◌++◌, Option, Some, None, sym, subst}
use Rattle.std.specs.List.{AllByRecursion}
use Rattle.std.proofs.lemmas.List.Elements.{All-from_recursion, recursion_from_All}
use Rattle.gev_types.specs.declared.frame.Frame.{Frame}
use Rattle.stream_packets.specs.Packets.{StreamPacket}
use Rattle.stream_packets.specs.Sent.{IsSent}
use Rattle.gvsp_wire.specs.Reading.{packet_of}
use Rattle.block_image.specs.OneBlock.{AreSent}
use Rattle.acquisition_machine.specs.declared.config.AcqConfig.{AcqConfig}
use Rattle.acquisition_machine.specs.Blocks.{Given}
use Rattle.acquisition_machine.specs.Machine.{Input, State, step, datagram, claimed, tick, stop, restart}
use Rattle.acquisition_machine.specs.Runs.{with_packet, packets_in}
use Rattle.acquisition_machine.specs.Laws.{HasNoRestart}
use Rattle.acquisition_machine.proofs.Joining.{packets_in-append}
use Rattle.acquisition_machine.proofs.Order.{all_append}
use Rattle.block_fills.specs.Laws.{StartsClean}
use Rattle.gev_links.specs.Links.{Answer, nothing, failed, came}
use Rattle.gev_acq.specs.Turning.{inputs_if}
use Rattle.gev_acq.specs.Turns.{Turned, bytes_in, inputs_of}
use Rattle.gev_acq.specs.Acquired.{inputs_in, answers_in}
use Rattle.live_promises.specs.Promises.{packets_among}

-- ---- the packets of the inputs came on the link

abbrev pub EachIs : (StreamPacket → Type 0) → List StreamPacket → Type 0
EachIs P xs = AllByRecursion P xs

behind : (P : StreamPacket → Type 0) (o : Option StreamPacket) (xs : List StreamPacket) → EachIs P (with_packet o xs) → EachIs P xs
behind P None xs all = all
behind P (Some x) xs all = all.1

pub before_others : (P : StreamPacket → Type 0) (o : Option StreamPacket) (xs ys : List StreamPacket) → EachIs P (with_packet o xs) → EachIs P ys → EachIs P (with_packet o ys)
before_others P None xs ys all others = others
before_others P (Some x) xs ys all others = (all.0, others)

turn_came : (P : StreamPacket → Type 0) (answer : Answer) (given : Option (Option Given)) (moment : ℕ) (rest : List Answer) → EachIs P (packets_among (answer ∷ rest))
    → EachIs P (packets_in (inputs_if (bytes_in answer) given ++ tick moment ∷ []))
turn_came P nothing given moment rest all = tt
turn_came P failed given moment rest all = tt
turn_came P (came bytes peer) None moment rest all = before_others P (packet_of bytes) (packets_among rest) [] all tt
turn_came P (came bytes peer) (Some given) moment rest all =
    before_others P (packet_of bytes) (packets_among rest) (with_packet (packet_of bytes) []) all (before_others P (packet_of bytes) (packets_among rest) [] all tt)

pub later_came : (P : StreamPacket → Type 0) (answer : Answer) (rest : List Answer) → EachIs P (packets_among (answer ∷ rest)) → EachIs P (packets_among rest)
later_came P nothing rest all = all
later_came P failed rest all = all
later_came P (came bytes peer) rest all = behind P (packet_of bytes) (packets_among rest) all

turns_came : (P : StreamPacket → Type 0) (made : List Turned) → EachIs P (packets_among (answers_in made)) → EachIs P (packets_in (inputs_in made))
turns_came P [] all = tt
turns_came P (t ∷ ts) all =
    subst (EachIs P) (sym (packets_in-append (inputs_of t) (inputs_in ts)))
    (all_append P (packets_in (inputs_of t)) (packets_in (inputs_in ts)) (turn_came P t.answer t.given t.told (answers_in ts) all) (turns_came P ts (later_came P t.answer (answers_in ts) all)))

whole_came : (P : StreamPacket → Type 0) (made : List Turned) → EachIs P (packets_among (answers_in made)) → EachIs P (packets_in (inputs_in made ++ stop ∷ []))
whole_came P made all =
    subst (EachIs P) (sym (packets_in-append (inputs_in made) (stop ∷ []))) (all_append P (packets_in (inputs_in made)) [] (turns_came P made all) tt)

pub inputs_sent : (frames : ℕ → Option Frame) (p : ℕ) (made : List Turned) → AreSent frames p (packets_among (answers_in made)) → AreSent frames p (packets_in (inputs_in made ++ stop ∷ []))
inputs_sent frames p made sent = record {
  are_frames = sent.are_frames;
  payload_size = sent.payload_size;
  sent = All-from_recursion (IsSent frames p) (packets_in (inputs_in made ++ stop ∷ []))
      (whole_came (IsSent frames p) made (recursion_from_All (IsSent frames p) (packets_among (answers_in made)) sent.sent));
}

-- ---- no acquisition begins among them

pub none_restart : (q r : List Input) → HasNoRestart q → HasNoRestart r → HasNoRestart (q ++ r)
none_restart [] r a b = b
none_restart (datagram bytes ∷ q) r a b = none_restart q r a b
none_restart (claimed given ∷ q) r a b = none_restart q r a b
none_restart (tick moment ∷ q) r a b = none_restart q r a b
none_restart (stop ∷ q) r a b = none_restart q r a b
none_restart (restart ∷ q) r a b = absurd a

turn_restarts_none : (came : Option (List ℕ)) (given : Option (Option Given)) (moment : ℕ) → HasNoRestart (inputs_if came given ++ tick moment ∷ [])
turn_restarts_none None given moment = tt
turn_restarts_none (Some bytes) None moment = tt
turn_restarts_none (Some bytes) (Some given) moment = tt

turns_restart_none : (made : List Turned) → HasNoRestart (inputs_in made)
turns_restart_none [] = tt
turns_restart_none (t ∷ ts) = none_restart (inputs_of t) (inputs_in ts) (turn_restarts_none (bytes_in t.answer) t.given t.told) (turns_restart_none ts)

pub one_acquisition : (c : AcqConfig) (s : State) (q : List Input) → HasNoRestart q → StartsClean c s q
one_acquisition c s [] none = tt
one_acquisition c s (datagram bytes ∷ q) none = one_acquisition c (step c s (datagram bytes)).after q none
one_acquisition c s (claimed given ∷ q) none = one_acquisition c (step c s (claimed given)).after q none
one_acquisition c s (tick moment ∷ q) none = one_acquisition c (step c s (tick moment)).after q none
one_acquisition c s (stop ∷ q) none = one_acquisition c (step c s stop).after q none
one_acquisition c s (restart ∷ q) none = absurd none

pub inputs_clean : (c : AcqConfig) (s : State) (made : List Turned) → StartsClean c s (inputs_in made ++ stop ∷ [])
inputs_clean c s made = one_acquisition c s (inputs_in made ++ stop ∷ []) (none_restart (inputs_in made) (stop ∷ []) (turns_restart_none made) tt)
