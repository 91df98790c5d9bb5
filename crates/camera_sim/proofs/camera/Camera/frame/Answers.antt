-- While the channel is open a frame more is pushed.
use Rattle.std.proofs.Common.{◌≡◌, ◌≢◌, ◌∙◌, ℕ, ◌+◌, Bool, true, not, ap, ap₂, sym, subst}
use Rattle.std.specs.Prelude.{◌==◌, if◌then◌else◌}
use Rattle.gev_types.specs.declared.frame.Frame.{Frame}
use Rattle.gev_frames.specs.Frames.{camera_frame}
use Rattle.resend_store.specs.declared.sent.SentFrame.{SentFrame}
use Rattle.bootstrap_regs.specs.Addresses.{SCP0}
use Rattle.bootstrap_regs.specs.Words.{word_at}
use Rattle.camera_machine.specs.Camera.{Camera, is_open}
use Rattle.camera_machine.specs.Stream.{StreamState, stream_of, with_stream, with_frame, frame_pushed, next_frame, payload_size_of, framed}
use Rattle.camera_sim.specs.Seen.{kept_of}
use Rattle.camera_sim.proofs.camera.Camera.frame.Goals as goal

not_zero : (n : ℕ) → not (n == 0) ≡ true → n ≢ 0
not_zero n opened zero = let bad : not (0 == 0) ≡ true = subst (λ (k : ℕ). not (k == 0) ≡ true) zero opened in cc

is_next : (s : Camera) (count payload_size : ℕ) (frame : Frame) → frame ≡ camera_frame s.short s.seed (count + 1) s.shape → count ≡ s.shelf.count → payload_size ≡ payload_size_of s
    → record { frame = frame; payload_size = payload_size } ≡ next_frame s
is_next s count payload_size frame made counts size =
    ap₂ (λ (f : Frame) (p : ℕ). record { frame = f; payload_size = p }) (made ∙ ap (λ (n : ℕ). camera_frame s.short s.seed (n + 1) s.shape) counts) size

frames : (s : Camera) (t : StreamState) (sent : SentFrame) → is_open s ≡ true → sent ≡ next_frame s → t ≡ frame_pushed (stream_of s) sent → with_stream s t ≡ framed s
frames s t sent opened next pushed =
    ap (with_stream s) (pushed ∙ ap (frame_pushed (stream_of s)) next) ∙ ap (λ (b : Bool). if b then with_frame s (next_frame s) else s) (sym opened)

pub invariant_of-self : goal.invariant_of-self
invariant_of-self c =
    let opened : is_open c.args.self.now ≡ true = sym c.is_open.ensures ∙ c.if-not-is_open.false in
    let port : not (word_at c.self.inside.regs SCP0 == 0) ≡ true = ap is_open c.self.view_is ∙ opened in
    record {
      image = c.self.invariant.image;
      lines = c.self.invariant.lines;
      registers = c.self.invariant.registers;
      closed = λ zero. absurd (not_zero (word_at c.self.inside.regs SCP0) port zero);
      keeps = c.self.invariant.keeps;
      command_size = c.self.invariant.command_size;
      answer_size = c.self.invariant.answer_size;
    }

pub push_frame-requires-clause-valid : goal.push_frame-requires-clause-valid
push_frame-requires-clause-valid c =
    record { valid = c.in-Ok.ensures.valid; at_least = c.payload_size-payload_size.ensures.least; at_most = c.payload_size-payload_size.ensures.most }

pub push_frame-requires-clause-next : goal.push_frame-requires-clause-next
push_frame-requires-clause-next c = ap (λ (f : Frame). f.block) c.in-Ok.ensures.made ∙ ap (λ (n : ℕ). n + 1) c.frame_count-block.ensures

pub returns-in-Ok-clause-state : goal.returns-in-Ok-clause-state
returns-in-Ok-clause-state c =
    let s : Camera = record {
      seed = c.self.inside.seed;
      shape = c.self.inside.shape;
      words = c.self.inside.regs;
      holder = c.self.inside.privilege;
      kept = kept_of c.self.inside.kept c.self.inside.command c.self.inside.answer;
      shelf = c.self.inside.stream.shelf;
      waiting = c.self.inside.stream.waiting;
      executed = c.self.inside.executed;
      short = c.self.inside.short;
    } in
    let is : s ≡ c.args.self.now = c.self.view_is in
    let opened : is_open s ≡ true = ap is_open is ∙ (sym c.is_open.ensures ∙ c.if-not-is_open.false) in
    let next : record { frame = c.in-Ok.frame; payload_size = c.payload_size-payload_size.result } ≡ next_frame s =
    is_next s c.frame_count-block.result c.payload_size-payload_size.result c.in-Ok.frame c.in-Ok.ensures.made c.frame_count-block.ensures
    (c.payload_size-payload_size.ensures.value ∙ ap payload_size_of (sym is)) in
    frames s c.push_frame.new.self _ opened next c.push_frame.ensures.pushed ∙ ap framed is
