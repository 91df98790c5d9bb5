-- What a lane's machine was told, by what came on the stream's link.
use Rattle.std.proofs.Common.{ℕ, Bool, true, false, List, [], ◌∷◌, ◌++◌, Option, Some, None, inl, inr, sym, subst}
use Rattle.std.specs.Prelude.{◌==◌, if◌then◌else◌}
use Rattle.std.specs.List.{AllByRecursion}
use Rattle.std.proofs.lemmas.List.Elements.{All-from_recursion, recursion_from_All}
use Rattle.gev_types.specs.declared.frame.Frame.{Frame}
use Rattle.stream_packets.specs.Packets.{StreamPacket}
use Rattle.stream_packets.specs.Sent.{IsSent}
use Rattle.gvsp_wire.specs.Reading.{packet_of}
use Rattle.block_image.specs.OneBlock.{AreSent}
use Rattle.acquisition_machine.specs.declared.config.AcqConfig.{AcqConfig}
use Rattle.acquisition_machine.specs.Blocks.{Given}
use Rattle.acquisition_machine.specs.Machine.{State, tick, stop}
use Rattle.acquisition_machine.specs.Runs.{with_packet, packets_in}
use Rattle.acquisition_machine.specs.Laws.{HasNoRestart}
use Rattle.acquisition_machine.proofs.Joining.{packets_in-append}
use Rattle.acquisition_machine.proofs.Order.{all_append, all_front, all_back}
use Rattle.block_fills.specs.Laws.{StartsClean}
use Rattle.gev_links.specs.Links.{Answer, nothing, failed, came}
use Rattle.gev_control.specs.Controlled.{listed}
use Rattle.gev_acq.specs.Turning.{inputs_if}
use Rattle.gev_lanes.specs.Messages.{Says, heard, told, ended}
use Rattle.lane_reader.specs.LanesTurns.{ReaderTurn, lane_of, part_of}
use Rattle.lane_reader.specs.Brought.{IsSublist, datagram_in, datagrams_in, parts_of}
use Rattle.lane_reader.specs.Reads.{answers_in}
use Rattle.lane_crew.specs.Cells.{CellServed, came_in, inputs_of, inputs_in}
use Rattle.lane_crew.specs.Lane.{messages_in}
use Rattle.live_promises.specs.Promises.{packets_among}
use Rattle.live_promises.proofs.Sending.{EachIs, before_others, later_came, none_restart, one_acquisition}

-- ---- the packets of the inputs came on the link

-- what holds of the packet of this datagram, if it is one
abbrev OfBytes : (StreamPacket → Type 0) → List ℕ → Type 0
OfBytes P bytes = EachIs P (with_packet (packet_of bytes) [])

-- what came for a lane
part_came : (P : StreamPacket → Type 0) (n k : ℕ) (answer : Answer) (rest : List Answer) → EachIs P (packets_among (answer ∷ rest)) → AllByRecursion (OfBytes P) (listed (part_of n k answer))
part_came P n k nothing rest all = tt
part_came P n k failed rest all = tt
part_came P n k (came bytes peer) rest all = go (lane_of n bytes == k)
  where
    go : (b : Bool) → AllByRecursion (OfBytes P) (listed (if b then Some bytes else None))
    go true = (before_others P (packet_of bytes) (packets_among rest) [] all tt, tt)
    go false = tt

parts_came : (P : StreamPacket → Type 0) (n k : ℕ) (made : List ReaderTurn) → EachIs P (packets_among (answers_in made)) → AllByRecursion (OfBytes P) (parts_of n k made)
parts_came P n k [] all = tt
parts_came P n k (t ∷ ts) all =
    all_append (OfBytes P) (listed (part_of n k t.answer)) (parts_of n k ts) (part_came P n k t.answer (answers_in ts) all)
    (parts_came P n k ts (later_came P t.answer (answers_in ts) all))

sublist_all : {A : Type 0} (Q : A → Type 0) (xs ys : List A) → IsSublist xs ys → AllByRecursion Q ys → AllByRecursion Q xs
sublist_all Q xs [] none all = subst (AllByRecursion Q) (sym none) tt
sublist_all Q xs (y ∷ ys) (inl more) all = sublist_all Q xs ys more all.1
sublist_all Q xs (y ∷ ys) (inr one) all = subst (AllByRecursion Q) (sym one.1) (all.0, sublist_all Q one.0 ys one.2 all.1)

-- the packets of a cell's inputs
cell_came : (P : StreamPacket → Type 0) (says : Says) (given : Option (Option Given)) (moment : ℕ) → AllByRecursion (OfBytes P) (datagram_in says)
    → EachIs P (packets_in (inputs_if (came_in says) given ++ tick moment ∷ []))
cell_came P told given moment all = tt
cell_came P ended given moment all = tt
cell_came P (heard bytes) None moment all = before_others P (packet_of bytes) [] [] all.0 tt
cell_came P (heard bytes) (Some given) moment all =
    before_others P (packet_of bytes) [] (with_packet (packet_of bytes) []) all.0 (before_others P (packet_of bytes) [] [] all.0 tt)

cells_came : (P : StreamPacket → Type 0) (served : List CellServed) → AllByRecursion (OfBytes P) (datagrams_in (messages_in served)) → EachIs P (packets_in (inputs_in served))
cells_came P [] all = tt
cells_came P (x ∷ xs) all =
    subst (EachIs P) (sym (packets_in-append (inputs_of x) (inputs_in xs)))
    (all_append P (packets_in (inputs_of x)) (packets_in (inputs_in xs))
    (cell_came P x.message.says x.given x.message.moment (all_front (OfBytes P) (datagram_in x.message.says) (datagrams_in (messages_in xs)) all))
    (cells_came P xs (all_back (OfBytes P) (datagram_in x.message.says) (datagrams_in (messages_in xs)) all)))

whole_came : (P : StreamPacket → Type 0) (n k : ℕ) (made : List ReaderTurn) (served : List CellServed) → IsSublist (datagrams_in (messages_in served)) (parts_of n k made)
    → EachIs P (packets_among (answers_in made)) → EachIs P (packets_in (inputs_in served ++ stop ∷ []))
whole_came P n k made served some all =
    subst (EachIs P) (sym (packets_in-append (inputs_in served) (stop ∷ [])))
    (all_append P (packets_in (inputs_in served)) []
    (cells_came P served (sublist_all (OfBytes P) (datagrams_in (messages_in served)) (parts_of n k made) some (parts_came P n k made all))) tt)

-- a lane's packets are sent where the received ones are
pub lane_sent : (frames : ℕ → Option Frame) (p n k : ℕ) (made : List ReaderTurn) (served : List CellServed) → IsSublist (datagrams_in (messages_in served)) (parts_of n k made)
    → AreSent frames p (packets_among (answers_in made)) → AreSent frames p (packets_in (inputs_in served ++ stop ∷ []))
lane_sent frames p n k made served some sent = record {
  are_frames = sent.are_frames;
  payload_size = sent.payload_size;
  sent = All-from_recursion (IsSent frames p) (packets_in (inputs_in served ++ stop ∷ []))
      (whole_came (IsSent frames p) n k made served some (recursion_from_All (IsSent frames p) (packets_among (answers_in made)) sent.sent));
}

-- ---- no acquisition begins among them

cell_restarts_none : (came : Option (List ℕ)) (given : Option (Option Given)) (moment : ℕ) → HasNoRestart (inputs_if came given ++ tick moment ∷ [])
cell_restarts_none None given moment = tt
cell_restarts_none (Some bytes) None moment = tt
cell_restarts_none (Some bytes) (Some given) moment = tt

cells_restart_none : (served : List CellServed) → HasNoRestart (inputs_in served)
cells_restart_none [] = tt
cells_restart_none (x ∷ xs) = none_restart (inputs_of x) (inputs_in xs) (cell_restarts_none (came_in x.message.says) x.given x.message.moment) (cells_restart_none xs)

pub cells_clean : (c : AcqConfig) (s : State) (served : List CellServed) → StartsClean c s (inputs_in served ++ stop ∷ [])
cells_clean c s served = one_acquisition c s (inputs_in served ++ stop ∷ []) (none_restart (inputs_in served) (stop ∷ []) (cells_restart_none served) tt)
