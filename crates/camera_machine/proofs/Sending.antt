-- The packets that a camera gives are those of the frames that it made.
use Rattle.std.proofs.Common.{◌≡◌, ℕ, ◌+◌, ◌≤◌, Bool, true, false, List, [], ◌∷◌, Option, Some, refl, ap, sym, ◌∙◌, subst, arith}
use Rattle.std.specs.Prelude.{◌==◌, if◌then◌else◌, IfSome}
use Rattle.std.proofs.lemmas.Bool.{eqb-true, eq-eqb}
use Rattle.std.proofs.lemmas.List.Elements.{All-nil}
use Rattle.gev_types.specs.declared.frame.Frame.{Frame}
use Rattle.gev_types.specs.declared.frame.Shape.{Shape}
use Rattle.gev_types.specs.declared.peer.Peer.{Peer}
use Rattle.gev_types.specs.FrameSize.{IsImageSize, IsFrame}
use Rattle.gev_frames.specs.Frames.{shape_size, short_frame_of, rows_of, camera_frame, MayBeShort}
use Rattle.gev_frames.proofs.Draws.{camera_makes}
use Rattle.stream_packets.specs.Sent.{AreFrames, IsSent}
use Rattle.resend_store.specs.declared.sent.SentFrame.{SentFrame}
use Rattle.resend_store.specs.Pushes.{reply_of}
use Rattle.resend_store.proofs.Standing.{store_answers}
use Rattle.camera_machine.specs.Camera.{Camera, new_camera, is_open}
use Rattle.camera_machine.specs.Stream.{stream_of, next_frame, with_frame}
use Rattle.gvcp_wire.specs.declared.resend.Resend.{Resend}
use Rattle.camera_machine.specs.Events.{Event, command, tick, make_frame, next_packet, set_short, step, Deed, changed, executed, made, with_look, past_with, after, past, last_short, frames_made, frames_since_opening}
use Rattle.camera_machine.specs.Sending.{HaveRows, FramesAreGenerated, IsNeverSet, IsSetFirst, FramesAreShort, HaveSize, AskFromOne, PacketsAreSent, RepliesSayThePast}
use Rattle.camera_machine.specs.Laws.{IsLeftBy}
use Rattle.camera_machine.proofs.Past.{state_says}
use Rattle.camera_machine.proofs.FrameCounts.{short_is}
use Rattle.camera_machine.proofs.Walk.{stays_looked, stays_commanded}
use Rattle.camera_machine.proofs.Deeds.{GoesOn, on_look, on_command, on_event}
use Rattle.camera_machine.proofs.Waiting.{waiting_rest, next_sent}
use Rattle.camera_machine.proofs.Sound.{Frames, Grows, IsStored, IsSound, sound_more, sound_pushed, sound_stays}

-- ---- replies

pub replies_say : (seed : ℕ) (shape : Shape) (room : ℕ) (es : List Event) → RepliesSayThePast seed shape room es
replies_say seed shape room es some first last b =
    let s : Camera = after (new_camera seed shape room) es in
    let left = state_says seed shape room es in
    (store_answers s.shelf (frames_since_opening (past (new_camera seed shape room) es)) (omega (arith, left.room_is)) (left.store some)).reply first last b
    ∙ ap (λ (n : ℕ). reply_of n (frames_since_opening (past (new_camera seed shape room) es)) first last b) left.room_is

-- ---- the map of frames that were made

-- each made frame is the generator's, whole or short
abbrev AreMade : ℕ → Shape → List Deed → Type 0
AreMade seed shape [] = Unit {0}
AreMade seed shape (changed c ∷ ds) = AreMade seed shape ds
AreMade seed shape (executed x ∷ ds) = AreMade seed shape ds
AreMade seed shape (made sent ∷ ds) =
    ((short : Bool) × (sent.frame ≡ camera_frame short seed sent.frame.block shape)) × (1 ≤ sent.frame.block) × AreMade seed shape ds

made_is : (seed : ℕ) (shape : Shape) (ds : List Deed) (b : ℕ) (f : Frame) → AreMade seed shape ds → frames_made ds b ≡ Some f
    → ((short : Bool) × (f ≡ camera_frame short seed b shape)) × (1 ≤ b)
made_is seed shape [] b f h e = absurd (cc)
made_is seed shape (changed c ∷ ds) b f h e = made_is seed shape ds b f h e
made_is seed shape (executed x ∷ ds) b f h e = made_is seed shape ds b f h e
made_is seed shape (made sent ∷ ds) b f h e = go (sent.frame.block == b) refl e (made_is seed shape ds b f h.2)
  where
    go : (t : Bool) → (sent.frame.block == b) ≡ t → (if t then Some sent.frame else frames_made ds b) ≡ Some f
        → (frames_made ds b ≡ Some f → ((short : Bool) × (f ≡ camera_frame short seed b shape)) × (1 ≤ b))
        → ((short : Bool) × (f ≡ camera_frame short seed b shape)) × (1 ≤ b)
    go true t e k =
        let same : sent.frame ≡ f = cc in
        let id : sent.frame.block ≡ b = eqb-true sent.frame.block b t in
        ((h.0.0, sym same ∙ (h.0.1 ∙ ap (λ (n : ℕ). camera_frame h.0.0 seed n shape) id)), omega (arith, id, h.1))
    go false t e k = k e

-- where all were made with one shortness, a frame has the lines of it
rows_are : (short : Bool) (shape : Shape) (ds : List Deed) (b : ℕ) (f : Frame) → HaveRows short shape ds → frames_made ds b ≡ Some f
    → f.rows ≡ rows_of short b shape
rows_are short shape [] b f h e = absurd (cc)
rows_are short shape (changed c ∷ ds) b f h e = rows_are short shape ds b f h e
rows_are short shape (executed x ∷ ds) b f h e = rows_are short shape ds b f h e
rows_are short shape (made sent ∷ ds) b f h e = go (sent.frame.block == b) refl e (rows_are short shape ds b f h.1)
  where
    go : (t : Bool) → (sent.frame.block == b) ≡ t → (if t then Some sent.frame else frames_made ds b) ≡ Some f
        → (frames_made ds b ≡ Some f → f.rows ≡ rows_of short b shape) → f.rows ≡ rows_of short b shape
    go true t e k =
        let same : sent.frame ≡ f = cc in
        let id : sent.frame.block ≡ b = eqb-true sent.frame.block b t in
        ap (λ (g : Frame). g.rows) (sym same) ∙ (h.0 ∙ ap (λ (n : ℕ). rows_of short n shape) id)
    go false t e k = k e

-- a frame of the generator with the lines of one shortness is that of this shortness
of_shortness : (short : Bool) (seed b : ℕ) (shape : Shape) (f : Frame) → (also : Bool) × (f ≡ camera_frame also seed b shape)
    → f.rows ≡ rows_of short b shape → f ≡ camera_frame short seed b shape
of_shortness short seed b shape f is rows =
    is.1 ∙ ap (λ (n : ℕ). short_frame_of seed b shape n) (sym (ap (λ (g : Frame). g.rows) is.1) ∙ rows)

frame_is : (short : Bool) (seed : ℕ) (shape : Shape) (ds : List Deed) (b : ℕ) (f : Frame) → AreMade seed shape ds → HaveRows short shape ds
    → frames_made ds b ≡ Some f → f ≡ camera_frame short seed b shape
frame_is short seed shape ds b f all rows e =
    of_shortness short seed b shape f (made_is seed shape ds b f all e).0 (rows_are short shape ds b f rows e)

-- one more frame
made_grows : (short : Bool) (seed : ℕ) (shape : Shape) (ds : List Deed) (sent : SentFrame) → AreMade seed shape (made sent ∷ ds)
    → HaveRows short shape (made sent ∷ ds) → Grows (frames_made ds) (frames_made (made sent ∷ ds))
made_grows short seed shape ds sent h rows b f e = go (sent.frame.block == b) refl
  where
    go : (t : Bool) → (sent.frame.block == b) ≡ t → (if t then Some sent.frame else frames_made ds b) ≡ Some f
    go true t =
        let id : sent.frame.block ≡ b = eqb-true sent.frame.block b t in
        let new : sent.frame ≡ camera_frame short seed sent.frame.block shape = of_shortness short seed sent.frame.block shape sent.frame h.0 rows.0 in
        let old : f ≡ camera_frame short seed b shape = frame_is short seed shape ds b f h.2 rows.1 e in
        ap (λ (x : Frame). Some x) (new ∙ (ap (λ (n : ℕ). camera_frame short seed n shape) id ∙ sym old))
    go false t = e

frames_on : (ds : List Deed) → GoesOn (λ xs. (b : ℕ) → frames_made xs b ≡ frames_made ds b)
frames_on ds = record { change = λ c xs h. h; execution = λ x xs h. h }

frames_look : (s : Camera) (moment : ℕ) (ds : List Deed) (b : ℕ) → frames_made (with_look s moment ds) b ≡ frames_made ds b
frames_look s moment ds = on_look (λ xs. (b : ℕ) → frames_made xs b ≡ frames_made ds b) (λ xs h. h) s moment ds (λ b. refl)

frames_command : (s : Camera) (peer : Peer) (bytes : List ℕ) (moment : ℕ) (ds : List Deed) (b : ℕ)
    → frames_made (past_with s (command peer bytes moment) ds) b ≡ frames_made ds b
frames_command s peer bytes moment ds = on_command (λ xs. (b : ℕ) → frames_made xs b ≡ frames_made ds b) (frames_on ds) s peer bytes moment ds (λ b. refl)

next_is_made : (seed : ℕ) (shape : Shape) (s : Camera) (ds : List Deed) → s.seed ≡ seed → s.shape ≡ shape → AreMade seed shape ds
    → AreMade seed shape (made (next_frame s) ∷ ds)
next_is_made seed shape s ds a b h = (
  (
    s.short,
    ap (λ (n : ℕ). camera_frame s.short n (s.shelf.count + 1) s.shape) a ∙ ap (λ (x : Shape). camera_frame s.short seed (s.shelf.count + 1) x) b,
  ),
  omega arith,
  h,
)

made_step : (seed : ℕ) (shape : Shape) (s : Camera) (e : Event) (ds : List Deed) → s.seed ≡ seed → s.shape ≡ shape → AreMade seed shape ds
    → AreMade seed shape (past_with s e ds)
made_step seed shape s e ds a b h =
    on_event (AreMade seed shape) (record { change = λ c xs k. k; execution = λ x xs k. k }) s e ds (next_is_made seed shape s ds a b h) h

grows_same : (frames more : Frames) → ((b : ℕ) → more b ≡ frames b) → Grows frames more
grows_same frames more same b f e = same b ∙ e

grows_step : (short : Bool) (seed : ℕ) (shape : Shape) (s : Camera) (e : Event) (ds : List Deed) → s.seed ≡ seed → s.shape ≡ shape → AreMade seed shape ds
    → HaveRows short shape (past_with s e ds) → Grows (frames_made ds) (frames_made (past_with s e ds))
grows_step short seed shape s e ds a b h =
    on_event (λ xs. HaveRows short shape xs → Grows (frames_made ds) (frames_made xs)) (record { change = λ c xs k. k; execution = λ x xs k. k }) s e ds
    (made_grows short seed shape ds (next_frame s) (next_is_made seed shape s ds a b h)) (λ rows k f e. e)

made_past : (seed : ℕ) (shape : Shape) (room : ℕ) (es : List Event) → AreMade seed shape (past (new_camera seed shape room) es)
made_past seed shape room [] = tt
made_past seed shape room (e ∷ es) =
    let left = state_says seed shape room es in
    made_step seed shape (after (new_camera seed shape room) es) e (past (new_camera seed shape room) es) left.seed_is left.shape_is (made_past seed shape room es)

-- no frame is lost from the map of those that were made with one shortness
pub frames_grow : (short : Bool) (seed : ℕ) (shape : Shape) (room : ℕ) (e : Event) (es : List Event) → HaveRows short shape (past (new_camera seed shape room) (e ∷ es))
    → Grows (frames_made (past (new_camera seed shape room) es)) (frames_made (past (new_camera seed shape room) (e ∷ es)))
frames_grow short seed shape room e es rows =
    let left = state_says seed shape room es in
    grows_step short seed shape (after (new_camera seed shape room) es) e (past (new_camera seed shape room) es) left.seed_is left.shape_is (made_past seed shape room es) rows

-- frames of the generator under their own ids are valid ones
are_frames : (seed : ℕ) (shape : Shape) (ds : List Deed) → AreMade seed shape ds → IsImageSize (shape_size shape)
    → ((b : ℕ) (f : Frame) → frames_made ds b ≡ Some f → (short : Bool) × (f ≡ camera_frame short seed b shape) × MayBeShort short shape)
    → AreFrames (frames_made ds)
are_frames seed shape ds all fits each = record {
  valid = λ b f e.
      let is = each b f e in
      subst IsFrame (sym is.1) ((camera_makes is.0 seed b shape).valid fits is.2);
  own_id = λ b f e. ap (λ (x : Frame). x.block) (each b f e).1;
  from_one = λ b f e. (made_is seed shape ds b f all e).1;
}

pub frames_are : (seed : ℕ) (shape : Shape) (room : ℕ) (es : List Event) → FramesAreGenerated seed shape room es
frames_are seed shape room es =
    let ds : List Deed = past (new_camera seed shape room) es in
    let all : AreMade seed shape ds = made_past seed shape room es in
    record {
      each = λ b f e. (made_is seed shape ds b f all e).0;
      valid = λ fits lines. are_frames seed shape ds all fits (λ b f e.
          let is = (made_is seed shape ds b f all e).0 in
          (is.0, is.1, λ short. lines));
      all = λ short rows. record {
        same = λ b f e. frame_is short seed shape ds b f all rows e;
        valid = λ fits lines. are_frames seed shape ds all fits (λ b f e. (short, frame_is short seed shape ds b f all rows e, lines));
      };
    }

-- ---- short frames

-- a frame that is made has the lines of the camera's shortness
rows_step : (short : Bool) (shape : Shape) (s : Camera) (e : Event) (ds : List Deed) → s.short ≡ short → s.shape ≡ shape → HaveRows short shape ds
    → HaveRows short shape (past_with s e ds)
rows_step short shape s e ds a b h =
    on_event (HaveRows short shape) (record { change = λ c xs k. k; execution = λ x xs k. k }) s e ds
    (ap (λ (t : Bool). rows_of t (s.shelf.count + 1) s.shape) a ∙ ap (λ (x : Shape). rows_of short (s.shelf.count + 1) x) b, h) h

rows_past : (short : Bool) (seed : ℕ) (shape : Shape) (room : ℕ) (e : Event) (es : List Event) → last_short es ≡ short
    → HaveRows short shape (past (new_camera seed shape room) es) → HaveRows short shape (past (new_camera seed shape room) (e ∷ es))
rows_past short seed shape room e es told h =
    rows_step short shape (after (new_camera seed shape room) es) e (past (new_camera seed shape room) es)
    (short_is seed shape room es ∙ told) (state_says seed shape room es).shape_is h

never_short : (es : List Event) → IsNeverSet es → last_short es ≡ false
never_short [] h = refl
never_short (command peer bytes moment ∷ es) h = never_short es h
never_short (tick moment ∷ es) h = never_short es h
never_short (make_frame ∷ es) h = never_short es h
never_short (next_packet ∷ es) h = never_short es h
never_short (set_short short ∷ es) h = absurd h

never_rest : (e : Event) (es : List Event) → IsNeverSet (e ∷ es) → IsNeverSet es
never_rest (command peer bytes moment) es h = h
never_rest (tick moment) es h = h
never_rest make_frame es h = h
never_rest next_packet es h = h
never_rest (set_short short) es h = absurd h

pub rows_never : (seed : ℕ) (shape : Shape) (room : ℕ) (es : List Event) → IsNeverSet es → HaveRows false shape (past (new_camera seed shape room) es)
rows_never seed shape room [] h = tt
rows_never seed shape room (e ∷ es) h =
    rows_past false seed shape room e es (never_short es (never_rest e es h)) (rows_never seed shape room es (never_rest e es h))

first_short : (short : Bool) (es : List Event) → IsSetFirst short es → last_short es ≡ short
first_short short [] h = absurd h
first_short short (command peer bytes moment ∷ es) h = first_short short es h
first_short short (tick moment ∷ es) h = first_short short es h
first_short short (make_frame ∷ es) h = first_short short es h
first_short short (next_packet ∷ es) h = first_short short es h
first_short short (set_short to ∷ es) h = h.0

pub rows_first : (short : Bool) (seed : ℕ) (shape : Shape) (room : ℕ) (es : List Event) → IsSetFirst short es
    → HaveRows short shape (past (new_camera seed shape room) es)
rows_first short seed shape room [] h = absurd h
rows_first short seed shape room (command peer bytes moment ∷ es) h =
    rows_past short seed shape room (command peer bytes moment) es (first_short short es h) (rows_first short seed shape room es h)
rows_first short seed shape room (tick moment ∷ es) h = rows_past short seed shape room (tick moment) es (first_short short es h) (rows_first short seed shape room es h)
rows_first short seed shape room (make_frame ∷ es) h = rows_past short seed shape room make_frame es (first_short short es h) (rows_first short seed shape room es h)
rows_first short seed shape room (next_packet ∷ es) h = rows_past short seed shape room next_packet es (first_short short es h) (rows_first short seed shape room es h)
rows_first short seed shape room (set_short to ∷ es) h =
    subst (λ (xs : List Event). HaveRows short shape (past (new_camera seed shape room) xs)) (sym h.1) tt

pub frames_short : (seed : ℕ) (shape : Shape) (room : ℕ) (es : List Event) → FramesAreShort seed shape room es
frames_short seed shape room es =
    let s : Camera = after (new_camera seed shape room) es in
    let left = state_says seed shape room es in
    record {
      next =
          ap (λ (t : Bool). camera_frame t s.seed (s.shelf.count + 1) s.shape) (short_is seed shape room es)
          ∙ (ap (λ (n : ℕ). camera_frame (last_short es) n (s.shelf.count + 1) s.shape) left.seed_is
          ∙ ap (λ (x : Shape). camera_frame (last_short es) seed (s.shelf.count + 1) x) left.shape_is);
      never = rows_never seed shape room es;
      first = λ short h. rows_first short seed shape room es h;
    }

-- ---- any events

pub size_step : (p : ℕ) (s : Camera) (e : Event) (ds : List Deed) → HaveSize p (past_with s e ds) → HaveSize p ds
size_step p s e ds =
    on_event (λ xs. HaveSize p xs → HaveSize p ds) (record { change = λ c xs k. k; execution = λ x xs k. k }) s e ds (λ h. h.1) (λ h. h)

pub lines_step : (short : Bool) (shape : Shape) (s : Camera) (e : Event) (ds : List Deed) → HaveRows short shape (past_with s e ds) → HaveRows short shape ds
lines_step short shape s e ds =
    on_event (λ xs. HaveRows short shape xs → HaveRows short shape ds) (record { change = λ c xs k. k; execution = λ x xs k. k }) s e ds (λ h. h.1) (λ h. h)

pub asks_rest : (e : Event) (es : List Event) → AskFromOne (e ∷ es) → AskFromOne es
asks_rest (command peer bytes moment) es h = h.1
asks_rest (tick moment) es h = h
asks_rest make_frame es h = h
asks_rest next_packet es h = h
asks_rest (set_short short) es h = h

-- The camera after these events holds frames of the map that it made, and its packets are of them.
abbrev SoundAfter : ℕ → ℕ → Shape → ℕ → List Event → Type 0
SoundAfter p seed shape room es =
    IsSound (frames_made (past (new_camera seed shape room) es)) p (stream_of (after (new_camera seed shape room) es))

sound_framed : (p seed : ℕ) (shape : Shape) (short : Bool) (s : Camera) (ds : List Deed) → s.seed ≡ seed → s.shape ≡ shape → AreMade seed shape ds
    → HaveSize p (past_with s make_frame ds) → HaveRows short shape (past_with s make_frame ds) → IsSound (frames_made ds) p (stream_of s)
    → IsSound (frames_made (past_with s make_frame ds)) p (stream_of (step s make_frame))
sound_framed p seed shape short s ds a b all size rows h = go (is_open s) size rows
  where
    go : (t : Bool) → HaveSize p (if t then made (next_frame s) ∷ ds else ds) → HaveRows short shape (if t then made (next_frame s) ∷ ds else ds)
        → IsSound (frames_made (if t then made (next_frame s) ∷ ds else ds)) p (stream_of (if t then with_frame s (next_frame s) else s))
    go true size rows =
        let more : AreMade seed shape (made (next_frame s) ∷ ds) = next_is_made seed shape s ds a b all in
        sound_pushed (frames_made (made (next_frame s) ∷ ds)) p (stream_of s) (next_frame s)
        (record { of_block = rw (eq-eqb (s.shelf.count + 1) (s.shelf.count + 1) refl) refl; size = size.0 })
        (sound_more (frames_made ds) (frames_made (made (next_frame s) ∷ ds)) p (stream_of s) (made_grows short seed shape ds (next_frame s) more rows) h)
    go false size rows = h

sound_past : (p seed : ℕ) (shape : Shape) (room : ℕ) (short : Bool) (es : List Event) → AskFromOne es → HaveSize p (past (new_camera seed shape room) es)
    → HaveRows short shape (past (new_camera seed shape room) es) → SoundAfter p seed shape room es
sound_past p seed shape room short [] asks size rows =
    record { stored = All-nil (IsStored (frames_made []) p); waiting = All-nil (IsSent (frames_made []) p) }
sound_past p seed shape room short (e ∷ es) asks size rows = go e asks size rows
    (sound_past p seed shape room short es (asks_rest e es asks) (size_step p s e ds size) (lines_step short shape s e ds rows))
  where
    s : Camera
    s = after (new_camera seed shape room) es

    ds : List Deed
    ds = past (new_camera seed shape room) es

    left : IsLeftBy (new_camera seed shape room) s ds
    left = state_says seed shape room es

    go : (e : Event) → AskFromOne (e ∷ es) → HaveSize p (past_with s e ds) → HaveRows short shape (past_with s e ds) → IsSound (frames_made ds) p (stream_of s)
        → IsSound (frames_made (past_with s e ds)) p (stream_of (step s e))
    go (command peer bytes moment) asks size rows h =
        sound_more (frames_made ds) (frames_made (past_with s (command peer bytes moment) ds)) p _
        (grows_same (frames_made ds) (frames_made (past_with s (command peer bytes moment) ds)) (frames_command s peer bytes moment ds))
        (stays_commanded _ _ (sound_stays (frames_made ds) p) s peer bytes moment
        (λ r e. subst (λ (o : Option Resend). IfSome o (λ x. 1 ≤ x.block)) e asks.0) h)
    go (tick moment) asks size rows h =
        sound_more (frames_made ds) (frames_made (with_look s moment ds)) p _
        (grows_same (frames_made ds) (frames_made (with_look s moment ds)) (frames_look s moment ds)) (stays_looked _ _ (sound_stays (frames_made ds) p) s moment h)
    go make_frame asks size rows h = sound_framed p seed shape short s ds left.seed_is left.shape_is (made_past seed shape room es) size rows h
    go next_packet asks size rows h = record { stored = h.stored; waiting = waiting_rest (IsSent (frames_made ds) p) s.waiting h.waiting }
    go (set_short to) asks size rows h = h

pub packets_sent : (seed : ℕ) (shape : Shape) (room p : ℕ) (short : Bool) (es : List Event) → PacketsAreSent seed shape room p short es
packets_sent seed shape room p short es asks size rows =
    let sound : SoundAfter p seed shape room es = sound_past p seed shape room short es asks size rows in
    record {
      waiting = sound.waiting;
      next = next_sent (IsSent (frames_made (past (new_camera seed shape room) es)) p) (after (new_camera seed shape room) es).waiting sound.waiting;
    }
