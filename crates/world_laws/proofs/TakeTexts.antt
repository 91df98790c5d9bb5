-- The take lines of a soak run have the digests of the generator's images.
use Rattle.std.proofs.Common.{◌≡◌, arith, Bool, ℕ, suc, List, [], ◌∷◌, ◌++◌, refl, sym, ap, ◌∙◌, append_assoc}
use Rattle.std.specs.Prelude.{Option, IfSome}
use Rattle.std.specs.List.{AllByRecursion, Contains}
use Rattle.hex.specs.Hex.{encode_lower}
use Rattle.sha2.specs.Sha256.{sha256}
use Rattle.gev_types.specs.declared.frame.Frame.{Frame}
use Rattle.gev_types.specs.declared.frame.Shape.{Shape}
use Rattle.gev_types.specs.FrameSize.{IsImageSize}
use Rattle.gev_frames.specs.Frames.{shape_size}
use Rattle.gev_report.specs.ReplayLines.{take_line}
use Rattle.stream_packets.specs.Sent.{IsSent}
use Rattle.gvsp_wire.specs.Reading.{packet_of}
use Rattle.block_image.specs.OneBlock.{HoldsFrame}
use Rattle.board_machine.specs.Machine.{Item}
use Rattle.acquisition_machine.proofs.Order.{all_append}
use Rattle.camera_machine.specs.Sending.{AreGenerated}
use Rattle.board_machine.specs.Ids.{buffer_at}
use Rattle.world_machine.specs.State.{Run, image_shape}
use Rattle.world_machine.specs.ClientTurn.{End}
use Rattle.world_machine.specs.HostActs.{HostAct, host_hears, host_ticks, host_takes, host_after, host_acts_after}
use Rattle.world_machine.proofs.Fits.{head_in, tail_in}
use Rattle.world_laws.specs.Receiver.{Receiver, soak_config, start, takes_one, lines_each, waiting, soak_host}
use Rattle.world_laws.specs.TakeLines.{Taken, take_text, HasDigest, AreTakeLines, TextHasTakeLines}
use Rattle.world_laws.proofs.RunTexts.{texts_of, text_is}
use Rattle.world_laws.proofs.Receiving.{HoldsIfComplete, AreFramesFor, HearsSent, holds_after, waiting_holds}

-- ---- take lines

digest_is : (short : Bool) (seed : ℕ) (shape : Shape) (frames : ℕ → Option Frame) (x : Item) → AreGenerated short seed shape frames
    → HoldsIfComplete frames x → HasDigest short seed shape x.filling
digest_is short seed shape frames x made h complete =
    let holds : HoldsFrame frames x.filling.rec.block x.filling = h complete in
    ap (λ (l : List ℕ). encode_lower (sha256 l)) (holds.pixels ∙ ap (λ (f : Frame). f.pixels) (made.same x.filling.rec.block holds.frame holds.of_block))

take_text-append : (xs ys : List Taken) → take_text (xs ++ ys) ≡ take_text xs ++ take_text ys
take_text-append [] ys = refl
take_text-append (x ∷ xs) ys =
    ap (λ (l : List ℕ). take_line x.id x.filling ++ l) (take_text-append xs ys)
    ∙ sym (append_assoc (take_line x.id x.filling) (take_text xs) (take_text ys))

lines_both : (short : Bool) (seed : ℕ) (shape : Shape) (a b : List ℕ) → AreTakeLines short seed shape a → AreTakeLines short seed shape b
    → AreTakeLines short seed shape (a ++ b)
lines_both short seed shape a b p q = record {
  taken = p.taken ++ q.taken;
  is = ap (λ (l : List ℕ). l ++ b) p.is ∙ (ap (λ (l : List ℕ). take_text p.taken ++ l) q.is ∙ sym (take_text-append p.taken q.taken));
  digests = all_append (λ (x : Taken). HasDigest short seed shape x.filling) p.taken q.taken p.digests q.digests;
}

each_line : (short : Bool) (seed : ℕ) (shape : Shape) (frames : ℕ → Option Frame) (xs : List Item) (r : Receiver) → AreGenerated short seed shape frames
    → AllByRecursion (HoldsIfComplete frames) xs → AreTakeLines short seed shape (lines_each xs r)
each_line short seed shape frames [] r made all = record { taken = []; is = refl; digests = tt }
each_line short seed shape frames (x ∷ xs) r made all =
    let rest = each_line short seed shape frames xs (takes_one x r) made all.1 in
    let first : Taken = record { id = buffer_at r.board x.place; filling = x.filling } in
    record {
      taken = first ∷ rest.taken;
      is = ap (λ (l : List ℕ). take_line first.id first.filling ++ l) rest.is;
      digests = (digest_is short seed shape frames x made all.0, rest.digests);
    }

-- ---- all that is told

texts_are : (short : Bool) (seed : ℕ) (shape : Shape) (frames : ℕ → Option Frame) (hs : List HostAct) → AreGenerated short seed shape frames
    → AreFramesFor frames → AllByRecursion (HearsSent frames) hs → AreTakeLines short seed shape (texts_of soak_host start hs)
texts_are short seed shape frames [] made are sent = record { taken = []; is = refl; digests = tt }
texts_are short seed shape frames (host_hears bytes ∷ hs) made are sent = texts_are short seed shape frames hs made are sent.1
texts_are short seed shape frames (host_ticks moment ∷ hs) made are sent = texts_are short seed shape frames hs made are sent.1
texts_are short seed shape frames (host_takes ∷ hs) made are sent =
    let r : Receiver = host_after soak_host start hs in
    lines_both short seed shape (texts_of soak_host start hs) (lines_each (waiting r.board) r) (texts_are short seed shape frames hs made are sent.1)
    (each_line short seed shape frames (waiting r.board) r made (waiting_holds frames r.board (holds_after frames hs are sent.1).out))

-- ---- a run

hearing_sent : (frames : ℕ → Option Frame) (h : HostAct) (hs : List HostAct)
    → ((bytes : List ℕ) → Contains (h ∷ hs) (host_hears bytes) → IfSome (packet_of bytes) (IsSent frames soak_config.p)) → HearsSent frames h
hearing_sent frames (host_hears bytes) hs all = all bytes (head_in (host_hears bytes) hs)
hearing_sent frames (host_ticks moment) hs all = tt
hearing_sent frames host_takes hs all = tt

hearings_sent : (frames : ℕ → Option Frame) (hs : List HostAct)
    → ((bytes : List ℕ) → Contains hs (host_hears bytes) → IfSome (packet_of bytes) (IsSent frames soak_config.p)) → AllByRecursion (HearsSent frames) hs
hearings_sent frames [] all = tt
hearings_sent frames (h ∷ hs) all =
    (hearing_sent frames h hs all, hearings_sent frames hs (λ bytes among. all bytes (tail_in h (host_hears bytes) hs among)))

pub text_has_take_lines : (run : Run) (text : List ℕ) (e : End) (n : ℕ) → TextHasTakeLines run text e n
text_has_take_lines run text e n frames hear ends =
    let hs : List HostAct = host_acts_after run soak_host start (suc n) in
    let size : IsImageSize (shape_size image_shape) = (omega arith, omega arith) in
    let said = text_is run soak_host start n ends.goes_on in
    record {
      lines = texts_of soak_host start hs;
      last = said.last;
      is = ends.text_is ∙ said.is;
      take = texts_are run.short run.seed image_shape frames hs hear.generated
          (record { are_frames = hear.generated.valid size (λ short. omega arith); payload_size = hear.payload_size }) (hearings_sent frames hs hear.heard);
      is_last = said.is_last;
    }
