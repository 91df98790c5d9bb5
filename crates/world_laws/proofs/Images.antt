-- What was handed out holds what came of frames that stand behind the packets.
use Rattle.std.proofs.Common.{◌≡◌, inl, inr, Bool, false, ℕ, List, [], ◌∷◌, ◌++◌, length, take, drop, Option, sym, ap, ◌∙◌, subst, append_assoc}
use Rattle.std.specs.List.{AllByRecursion}
use Rattle.std.proofs.lemmas.List.{take-append-drop}
use Rattle.std.proofs.lemmas.List.Elements.{All-from_recursion, All-contains}
use Rattle.gev_types.specs.declared.block_record.Record.{Record}
use Rattle.gev_types.specs.declared.frame.Frame.{Frame}
use Rattle.gev_types.specs.declared.frame.Shape.{Shape}
use Rattle.gev_types.specs.declared.peer.Peer.{Peer}
use Rattle.stream_packets.specs.Packets.{StreamPacket}
use Rattle.stream_packets.specs.Sent.{IsSent}
use Rattle.block_image.specs.OneBlock.{AreSent}
use Rattle.board_machine.specs.Machine.{Item}
use Rattle.board_machine.specs.Handout.{filled, removed, every_actor, handed_items}
use Rattle.board_machine.proofs.Handouts.{run_out}
use Rattle.acquisition_machine.specs.declared.config.AcqConfig.{AcqConfig}
use Rattle.acquisition_machine.specs.Machine.{Input}
use Rattle.acquisition_machine.specs.Runs.{packets_in}
use Rattle.acquisition_machine.proofs.Joining.{packets_in-append}
use Rattle.acquisition_machine.proofs.Order.{all_front, all_back, all_weaker}
use Rattle.script_trace.specs.Opening.{opening}
use Rattle.script_trace.specs.Trace.{Trace, board}
use Rattle.script_trace.specs.Fills.{tried_blocks, IsRetired}
use Rattle.script_trace.specs.Laws.{KeepsPromises}
use Rattle.script_trace.proofs.Handing.{leads_empty, opening_empty, filled_all, taken_all}
use Rattle.camera_machine.specs.Sending.{AreGenerated}
use Rattle.world_machine.specs.Schedule.{new_line}
use Rattle.world_machine.specs.HostActs.{given_in}
use Rattle.world_laws.specs.Schedule.{WorldEvent, session_acts, host_lines}
use Rattle.world_laws.specs.Images.{IsReadAsSent, HearsFrames, HoldsBlock, IsTrueImage, HasTrueImages, made_in, AreOfMade, IsGenerated, HasGeneratedImages}
use Rattle.world_laws.specs.Laws.{HeardImagesAreTrue, GivenPacketsAreHeard, ImagesAreTrue, ImagesAreOfMadeFrames}
use Rattle.world_laws.proofs.Worlds.{heard_is_given, lines_tell, trace_keeps}
use Rattle.world_laws.proofs.Inputs.{Tells, leads_tell}
use Rattle.world_laws.proofs.Reading.{sent_is_read}
use Rattle.world_laws.proofs.Made.{of_made_frames}

-- ---- what the acquisition was told

-- the packets of one acquisition, up to one of its inputs
part_sent : (P : StreamPacket → Type 0) (inputs before since : List Input) (last : Input) (rest : List Input) → inputs ≡ before ++ since ++ last ∷ rest
    → AllByRecursion P (packets_in inputs) → AllByRecursion P (packets_in (since ++ last ∷ []))
part_sent P inputs before since last rest parts all =
    let here : List Input = since ++ last ∷ [] in
    let split : inputs ≡ (before ++ here) ++ rest
    = parts ∙ (sym (append_assoc (before ++ since) (last ∷ []) rest) ∙ ap (λ (l : List Input). l ++ rest) (append_assoc before since (last ∷ []))) in
    let first : packets_in inputs ≡ packets_in (before ++ here) ++ packets_in rest = ap packets_in split ∙ packets_in-append (before ++ here) rest in
    let front : AllByRecursion P (packets_in (before ++ here))
    = all_front P (packets_in (before ++ here)) (packets_in rest) (subst (AllByRecursion P) first all) in
    all_back P (packets_in before) (packets_in here) (subst (AllByRecursion P) (packets_in-append before here) front)

-- ---- what was handed out

retired_holds : (frames : ℕ → Option Frame) (c : AcqConfig) (es : List WorldEvent) (inputs : List Input) → HearsFrames frames c.p es
    → AllByRecursion (IsSent frames c.p) (packets_in inputs) → (x : Item) → IsRetired c inputs x → HoldsBlock frames c inputs x
retired_holds frames c es inputs hear all x r =
    let P : StreamPacket → Type 0 = IsSent frames c.p in
    let here : List StreamPacket = packets_in (r.since ++ r.last ∷ []) in
    let sent : AreSent frames c.p here
    = record {
      are_frames = hear.are_frames;
      payload_size = hear.payload_size;
      sent = All-from_recursion P here (part_sent P inputs r.before r.since r.last r.rest r.parts all);
    } in
    record {
      front = (r.before ++ r.since) ++ r.last ∷ [];
      rest = r.rest;
      parts = r.parts ∙ sym (append_assoc (r.before ++ r.since) (r.last ∷ []) r.rest);
      block = r.block;
      came = r.came;
      given = r.given;
      has = r.has;
      is = r.is;
      holds = r.holds frames sent;
    }

-- what is left of a list without its first members
all_left : (P : Item → Type 0) (n : ℕ) (xs : List Item) → AllByRecursion P xs → AllByRecursion P (drop n xs)
all_left P n xs all = all_back P (take n xs) (drop n xs) (subst (AllByRecursion P) (sym (take-append-drop n xs)) all)

pub heard_images : (seed : ℕ) (shape : Shape) (room : ℕ) (peer : Peer) (es : List WorldEvent) → HeardImagesAreTrue seed shape room peer es
heard_images seed shape room peer es frames c t w hear is =
    let told : AllByRecursion (Tells (IsSent frames c.p)) (host_lines es) = lines_tell (IsSent frames c.p) peer (new_line seed shape room) es w hear.heard in
    let heard : AllByRecursion (IsSent frames c.p) (packets_in t.inputs) = leads_tell (IsSent frames c.p) c opening (host_lines es) t told is.leads tt in
    let keeps : KeepsPromises c t = trace_keeps seed shape room peer es c t w is in
    let P : Item → Type 0 = IsTrueImage frames c t.inputs in
    let blocks : AllByRecursion (HoldsBlock frames c t.inputs) (tried_blocks t)
    = all_weaker (IsRetired c t.inputs) (HoldsBlock frames c t.inputs) (retired_holds frames c es t.inputs hear heard) (tried_blocks t) keeps.blocks in
    let all : AllByRecursion P (filled t.entries)
    = filled_all (HoldsBlock frames c t.inputs) t.entries (leads_empty c opening (host_lines es) t is.leads opening_empty) blocks in
    record {
      blocks = blocks;
      handed = taken_all P every_actor t.entries all;
      waiting = subst (AllByRecursion P) (sym (run_out t.entries keeps.run)) (all_left P (length (removed t.entries)) (filled t.entries) all);
    }

-- ---- what the camera gave

pub given_heard : (seed : ℕ) (shape : Shape) (room : ℕ) (peer : Peer) (es : List WorldEvent) → GivenPacketsAreHeard seed shape room peer es
given_heard seed shape room peer es frames p w are =
    let packets : List StreamPacket = given_in (new_line seed shape room) (session_acts es) in
    record {
      are_frames = are.sent.are_frames;
      payload_size = are.sent.payload_size;
      heard = λ bytes among. let given = heard_is_given peer (new_line seed shape room) es w bytes among in
          subst (IsReadAsSent frames p) (sym given.spelled)
          (sent_is_read frames p packets are given.packet (All-contains (IsSent frames p) packets given.packet are.sent.sent given.among));
    }

pub images_true : (seed : ℕ) (shape : Shape) (room : ℕ) (peer : Peer) (es : List WorldEvent) → ImagesAreTrue seed shape room peer es
images_true seed shape room peer es frames c t w are is =
    heard_images seed shape room peer es frames c t w (given_heard seed shape room peer es frames c.p w are) is

-- ---- what the generator made

block_generated : (short : Bool) (seed : ℕ) (shape : Shape) (frames : ℕ → Option Frame) (c : AcqConfig) (inputs : List Input) (x : Item)
    → AreGenerated short seed shape frames → HoldsBlock frames c inputs x → IsGenerated short seed shape x
block_generated short seed shape frames c inputs x made h =
    subst (IsGenerated short seed shape) (sym h.is)
    (λ complete. let holds = h.holds.complete complete in holds.pixels ∙ ap (λ (f : Frame). f.pixels) (made.same h.block.was.block holds.frame holds.of_block))

image_generated : (short : Bool) (seed : ℕ) (shape : Shape) (frames : ℕ → Option Frame) (c : AcqConfig) (inputs : List Input)
    → AreGenerated short seed shape frames → (x : Item) → IsTrueImage frames c inputs x → IsGenerated short seed shape x
image_generated short seed shape frames c inputs made x (inl h) = block_generated short seed shape frames c inputs x made h
image_generated short seed shape frames c inputs made x (inr none) =
    λ complete. let apart : x.filling.rec.complete ≡ false = ap (λ (r : Record). r.complete) none in absurd cc

pub images_generated : (short : Bool) (seed : ℕ) (shape : Shape) (frames : ℕ → Option Frame) (c : AcqConfig) (t : Trace)
    → AreGenerated short seed shape frames → HasTrueImages frames c t → HasGeneratedImages short seed shape frames c t
images_generated short seed shape frames c t made images =
    let one : (x : Item) → IsTrueImage frames c t.inputs x → IsGenerated short seed shape x = image_generated short seed shape frames c t.inputs made in
    record {
      images = images;
      handed = all_weaker (IsTrueImage frames c t.inputs) (IsGenerated short seed shape) one (handed_items t.entries) images.handed;
      waiting = all_weaker (IsTrueImage frames c t.inputs) (IsGenerated short seed shape) one (board t).out images.waiting;
    }

pub images_of_made : (seed : ℕ) (shape : Shape) (room : ℕ) (peer : Peer) (es : List WorldEvent) → ImagesAreOfMadeFrames seed shape room peer es
images_of_made seed shape room peer es c t short w sends is =
    let frames : ℕ → Option Frame = made_in seed shape room es in
    let of_made : AreOfMade seed shape room c.p short es (given_in (new_line seed shape room) (session_acts es)) = of_made_frames seed shape room es c.p short sends in
    images_generated short seed shape frames c t of_made.generated (images_true seed shape room peer es frames c t w of_made.frames is)
