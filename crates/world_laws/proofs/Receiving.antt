-- The buffers of a soak run's receiver hold frames, where the datagrams that it heard carry them.
use Rattle.std.proofs.Common.{◌≡◌, ℕ, ◌==◌, Bool, true, false, List, [], ◌∷◌, ◌++◌, refl, sym, ap, ◌∙◌, subst, arith}
use Rattle.std.specs.Prelude.{⊤, not, if◌then◌else◌, Option, Some, None, IfSome}
use Rattle.std.specs.List.{AllByRecursion}
use Rattle.std.proofs.lemmas.List.Elements.{All-from_recursion}
use Rattle.gev_types.specs.declared.frame.Frame.{Frame}
use Rattle.stream_packets.specs.Packets.{StreamPacket}
use Rattle.stream_packets.specs.Sent.{AreFrames, IsSent}
use Rattle.gvsp_wire.specs.Reading.{packet_of}
use Rattle.block_image.specs.Sizes.{IsPayloadSize}
use Rattle.block_image.specs.OneBlock.{AreSent, HoldsFrame}
use Rattle.board_machine.specs.declared.events.Event.TheVariants.{Claim}
use Rattle.board_machine.specs.Machine.{Board, Item, item}
use Rattle.board_machine.specs.Places.{tail}
use Rattle.board_calls.specs.Rounds.{filled_or_laid}
use Rattle.acquisition_machine.specs.declared.retired.Retired.{Retired}
use Rattle.acquisition_machine.specs.Blocks.{Given, Open, Retirement, fill_of, fills}
use Rattle.acquisition_machine.specs.Machine.{Input, datagram, claimed, tick, step}
use Rattle.acquisition_machine.specs.Runs.{first_state, After, with_packet, packets_in}
use Rattle.acquisition_machine.specs.TurnLaws.{asked_by}
use Rattle.acquisition_machine.specs.FrameLaws.{HoldsIfGiven, HoldFrames}
use Rattle.acquisition_machine.proofs.Order.{all_append}
use Rattle.acquisition_machine.proofs.Joining.{after_from-append, packets_in-append}
use Rattle.acquisition_machine.proofs.Frames.{fills_keep_frames}
use Rattle.script_trace.specs.Trace.{acquirer}
use Rattle.script_trace.specs.StreamLines.{outcome}
use Rattle.world_machine.specs.HostActs.{HostAct, host_hears, host_ticks, host_takes, host_after}
use Rattle.world_laws.specs.Receiver.{Receiver, soak_config, start, acts_on, fills_all, told, claim_of, claims, told_again, hears, takes_one, takes_each, waiting, soak_host}

-- ---- what is kept

-- where the buffer is marked complete, it holds its block's frame
abbrev pub HoldsIfComplete : (ℕ → Option Frame) → Item → Type 0
HoldsIfComplete frames x = x.filling.rec.complete ≡ true → HoldsFrame frames x.filling.rec.block x.filling

-- frames that may stand behind a receiver's packets
pub record AreFramesFor (frames : ℕ → Option Frame) : Type 0 where
  pub are_frames : AreFrames frames
  pub payload_size : IsPayloadSize soak_config.p

-- The acquisition was told sent packets alone, and each buffer in the output holds its block's frame where it's
-- marked complete.
pub record HoldsFrames (frames : ℕ → Option Frame) (r : Receiver) : Type 0 where
  pub inputs : List Input
  pub acquisition : r.acquisition ≡ After soak_config inputs
  pub sent : AllByRecursion (IsSent frames soak_config.p) (packets_in inputs)
  pub out : AllByRecursion (HoldsIfComplete frames) r.board.out

-- ---- fills

filled_holds : (frames : ℕ → Option Frame) (r : Retirement) (given : Option Given) → HoldsIfGiven frames soak_config.p r given
    → AllByRecursion (λ (x : Retired). HoldsIfComplete frames (item x.place x.buf)) (fill_of soak_config.p r given)
filled_holds frames r None h = tt
filled_holds frames r (Some g) h = (h.complete, tt)

fills_hold : (frames : ℕ → Option Frame) (rs : List Retirement) → HoldFrames frames soak_config.p rs
    → AllByRecursion (λ (x : Retired). HoldsIfComplete frames (item x.place x.buf)) (fills soak_config.p rs)
fills_hold frames [] h = tt
fills_hold frames (r ∷ rs) h =
    all_append (λ (x : Retired). HoldsIfComplete frames (item x.place x.buf)) (fill_of soak_config.p r r.was.given) (fills soak_config.p rs)
    (filled_holds frames r r.was.given h.0) (fills_hold frames rs h.1)

-- one buffer comes into the output, or is laid
fill_kept : (frames : ℕ → Option Frame) (x : Retired) (b : Board) (filled : Bool) → HoldsIfComplete frames (item x.place x.buf)
    → AllByRecursion (HoldsIfComplete frames) b.out
    → AllByRecursion (HoldsIfComplete frames) (acts_on acquirer (filled_or_laid x.place x.buf filled) b).out
fill_kept frames x b true h all = all_append (HoldsIfComplete frames) b.out (item x.place x.buf ∷ []) all (h, tt)
fill_kept frames x b false h all = all

fills_kept : (frames : ℕ → Option Frame) (xs : List Retired) (b : Board) → AllByRecursion (λ (x : Retired). HoldsIfComplete frames (item x.place x.buf)) xs
    → AllByRecursion (HoldsIfComplete frames) b.out → AllByRecursion (HoldsIfComplete frames) (fills_all xs b).out
fills_kept frames [] b h all = all
fills_kept frames (x ∷ xs) b h all =
    fills_kept frames xs (acts_on acquirer (filled_or_laid x.place x.buf (not b.closed)) b) h.1 (fill_kept frames x b (not b.closed) h.0 all)

-- ---- what it is told

more_sent : (P : StreamPacket → Type 0) (q : List Input) (i : Input) → AllByRecursion P (packets_in q) → AllByRecursion P (packets_in (i ∷ []))
    → AllByRecursion P (packets_in (q ++ i ∷ []))
more_sent P q i a b = subst (AllByRecursion P) (sym (packets_in-append q (i ∷ []))) (all_append P (packets_in q) (packets_in (i ∷ [])) a b)

state_more : (r : Receiver) (q : List Input) (i : Input) → r.acquisition ≡ After soak_config q → (step soak_config r.acquisition i).after ≡ After soak_config (q ++ i ∷ [])
state_more r q i is = ap (λ s. (step soak_config s i).after) is ∙ sym (after_from-append soak_config first_state q (i ∷ []))

holds_told : (frames : ℕ → Option Frame) (i : Input) (r : Receiver) → AreFramesFor frames → AllByRecursion (IsSent frames soak_config.p) (packets_in (i ∷ []))
    → HoldsFrames frames r → HoldsFrames frames (told i r)
holds_told frames i r are one h =
    let P : StreamPacket → Type 0 = IsSent frames soak_config.p in
    let all : AllByRecursion P (packets_in (h.inputs ++ i ∷ [])) = more_sent P h.inputs i h.sent one in
    let sent : AreSent frames soak_config.p (packets_in (h.inputs ++ i ∷ []))
    = record { are_frames = are.are_frames; payload_size = are.payload_size; sent = All-from_recursion P (packets_in (h.inputs ++ i ∷ [])) all } in
    let retired : HoldFrames frames soak_config.p (step soak_config (After soak_config h.inputs) i).retired
    = fills_keep_frames frames soak_config [] h.inputs i (omega arith) refl sent in
    record {
      inputs = h.inputs ++ i ∷ [];
      acquisition = state_more r h.inputs i h.acquisition;
      sent = all;
      out = fills_kept frames (fills soak_config.p (step soak_config r.acquisition i).retired) r.board
          (fills_hold frames (step soak_config r.acquisition i).retired
          (subst (λ s. HoldFrames frames soak_config.p (step soak_config s i).retired) (sym h.acquisition) retired)) h.out;
    }

claim_kept : (b : Board) (claim : Option ℕ) → (acts_on acquirer (Claim claim ∷ []) b).out ≡ b.out
claim_kept b None = refl
claim_kept b (Some i) = refl

holds_claims : (frames : ℕ → Option Frame) (r : Receiver) → HoldsFrames frames r → HoldsFrames frames (claims r)
holds_claims frames r h =
    let i : Input = claimed (outcome r.board (claim_of r.board)) in
    record {
      inputs = h.inputs ++ i ∷ [];
      acquisition = state_more r h.inputs i h.acquisition;
      sent = more_sent (IsSent frames soak_config.p) h.inputs i h.sent tt;
      out = subst (AllByRecursion (HoldsIfComplete frames)) (sym (claim_kept r.board (claim_of r.board))) h.out;
    }

one_packet : (P : StreamPacket → Type 0) (o : Option StreamPacket) → IfSome o P → AllByRecursion P (with_packet o [])
one_packet P None h = tt
one_packet P (Some x) h = (h, tt)

holds_again : (frames : ℕ → Option Frame) (asked : Option ℕ) (bytes : List ℕ) (r : Receiver) → AreFramesFor frames
    → IfSome (packet_of bytes) (IsSent frames soak_config.p) → HoldsFrames frames r → HoldsFrames frames (told_again asked bytes r)
holds_again frames None bytes r are one h = h
holds_again frames (Some block) bytes r are one h =
    holds_told frames (datagram bytes) (claims r) are (one_packet (IsSent frames soak_config.p) (packet_of bytes) one) (holds_claims frames r h)

holds_heard : (frames : ℕ → Option Frame) (bytes : List ℕ) (r : Receiver) → AreFramesFor frames → IfSome (packet_of bytes) (IsSent frames soak_config.p)
    → HoldsFrames frames r → HoldsFrames frames (hears r bytes)
holds_heard frames bytes r are one h = go (r.board.run == 1)
  where
    first : HoldsFrames frames (told (datagram bytes) r)
    first = holds_told frames (datagram bytes) r are (one_packet (IsSent frames soak_config.p) (packet_of bytes) one) h

    go : (running : Bool)
        → HoldsFrames frames (if running then told_again (asked_by (step soak_config r.acquisition (datagram bytes)).need) bytes (told (datagram bytes) r) else r)
    go true = holds_again frames (asked_by (step soak_config r.acquisition (datagram bytes)).need) bytes (told (datagram bytes) r) are one first
    go false = h

-- ---- what is taken

all_tail : (P : Item → Type 0) (xs : List Item) → AllByRecursion P xs → AllByRecursion P (tail xs)
all_tail P [] all = tt
all_tail P (x ∷ xs) all = all.1

holds_taken : (frames : ℕ → Option Frame) (xs : List Item) (r : Receiver) → HoldsFrames frames r → HoldsFrames frames (takes_each xs r)
holds_taken frames [] r h = h
holds_taken frames (x ∷ xs) r h =
    holds_taken frames xs (takes_one x r)
    (record { inputs = h.inputs; acquisition = h.acquisition; sent = h.sent; out = all_tail (HoldsIfComplete frames) r.board.out h.out })

-- ---- acts

-- where a datagram is heard that is a packet, it's a sent one
abbrev pub HearsSent : (ℕ → Option Frame) → HostAct → Type 0
HearsSent frames (host_hears bytes) = IfSome (packet_of bytes) (IsSent frames soak_config.p)
HearsSent frames (host_ticks moment) = ⊤
HearsSent frames host_takes = ⊤

pub holds_after : (frames : ℕ → Option Frame) (hs : List HostAct) → AreFramesFor frames → AllByRecursion (HearsSent frames) hs
    → HoldsFrames frames (host_after soak_host start hs)
holds_after frames [] are sent = record { inputs = []; acquisition = refl; sent = tt; out = tt }
holds_after frames (host_hears bytes ∷ hs) are sent =
    holds_heard frames bytes (host_after soak_host start hs) are sent.0 (holds_after frames hs are sent.1)
holds_after frames (host_ticks moment ∷ hs) are sent =
    holds_told frames (tick moment) (host_after soak_host start hs) are tt (holds_after frames hs are sent.1)
holds_after frames (host_takes ∷ hs) are sent =
    let r : Receiver = host_after soak_host start hs in holds_taken frames (waiting r.board) r (holds_after frames hs are sent.1)

-- what waits to be taken
pub waiting_holds : (frames : ℕ → Option Frame) (b : Board) → AllByRecursion (HoldsIfComplete frames) b.out → AllByRecursion (HoldsIfComplete frames) (waiting b)
waiting_holds frames b all = go b.closed
  where
    go : (closed : Bool) → AllByRecursion (HoldsIfComplete frames) (if closed then [] else b.out)
    go true = tt
    go false = all
