-- What a client, a camera and the network between them did, act by act, and what follows of each session and each acknowledge.
use Rattle.std.proofs.Common.{◌≡◌, ◌⊎◌, ℕ, ◌+◌, ◌<◌, ◌≤◌, Bool, true, false, List, [], ◌∷◌, length, Option, Some, None, refl, sym, ap, ◌∙◌, subst, inl, inr, arith, length-append}
use Rattle.std.specs.Prelude.{◌==◌, ◌&&◌, nat_le, option_map, if◌then◌else◌}
use Rattle.std.specs.List.{Contains}
use Rattle.std.proofs.lemmas.Bool.{eqb-true, and_parts}
use Rattle.std.proofs.lemmas.List.Elements.{All-nil, All-weaker, Contains-push_cases}
use Rattle.gev_types.specs.declared.frame.Shape.{Shape}
use Rattle.gev_types.specs.declared.peer.Peer.{Peer}
use Rattle.gvcp_wire.specs.Codes.{MAX_BODY_SIZE}
use Rattle.control_privilege.specs.Control.{is_primary, primary_of}
use Rattle.client_machine.specs.Machine.{Asked}
use Rattle.client_machine.specs.Events as clients
use Rattle.client_machine.specs.Laws.{IsAnswered}
use Rattle.client_machine.proofs.Ends.{ends_exact}
use Rattle.camera_machine.specs.Camera.{Camera, is_open, looked}
use Rattle.camera_machine.specs.Stream.{next_frame, with_frame, framed}
use Rattle.camera_machine.specs.Commands.{Execution, commanded}
use Rattle.camera_machine.specs.Events as cameras
use Rattle.world_machine.specs.Sessions.{Sessions, after_look}
use Rattle.world_machine.specs.Schedule.{Act, at_client, at_camera, Line, new_line, submission_of, with_last, bytes_of, step, after, AllowedAtClient, AllowedAtCamera, IsAllowed, IsSchedule}
use Rattle.world_machine.specs.SessionLaws.{Once, ActOnce, IsShort, CommandsActOnce, WasExecuted, AckedMeansExecuted}
use Rattle.world_machine.proofs.Lists.{at_same, once_within}
use Rattle.world_machine.proofs.Clients.{IsAsked, AskedFits, ClientFits, distinct, Submits, client_step}
use Rattle.world_machine.proofs.Sessions.{Rises, Fits, running_rises, fits_looked, fits_quiet, fits_more}
use Rattle.world_machine.proofs.Acks.{success_is}
use Rattle.world_machine.proofs.Camera.{IsAnswer, KeptFits, answer_more, answer_later, Effect, kept_looked, effect_client, effect_other}

-- what holds of a line at each moment
record Good (peer : Peer) (l : Line) : Type 0 where
  client : ClientFits l.submitted l.sent l.client
  fits : Fits peer l.submitted l.camera l.sessions
  acks : (bytes : List ℕ) → Contains l.acks bytes → IsAnswer l.submitted l.executed bytes
  kept : KeptFits l.submitted l.executed l.camera.kept

none_in : {A : Type 0} (x : A) → Contains [] x → ⊥
none_in x h = omega (arith, h.1)

good_new : (peer : Peer) (seed : ℕ) (shape : Shape) (room : ℕ) → Good peer (new_line seed shape room)
good_new peer seed shape room = record {
  client = record { numbered = λ i x at. absurd at; last = refl; asked = tt; were_submitted = λ x among. absurd (none_in x among) };
  fits = record { ended = All-nil (Rises []); state = record { nothing_kept = refl; none_runs = refl } };
  acks = λ x among. absurd (none_in x among);
  kept = λ k x is e. absurd (cc is);
}

-- ---- acts at the client

fits_last : (peer : Peer) (subs : List (List ℕ)) (o : Option (List ℕ)) (s : Camera) (z : Sessions) → Fits peer subs s z → Fits peer (with_last subs o) s z
fits_last peer subs None s z f = f
fits_last peer subs (Some x) s z f = fits_more peer subs (x ∷ []) s z f

answer_last : (subs : List (List ℕ)) (o : Option (List ℕ)) (executed : List Execution) (bytes : List ℕ) → IsAnswer subs executed bytes
    → IsAnswer (with_last subs o) executed bytes
answer_last subs None executed bytes a = a
answer_last subs (Some x) executed bytes a = answer_more subs (x ∷ []) executed bytes a

submits_of : (l : Line) (e : clients.Event) → AllowedAtClient l e → Submits e
submits_of l (clients.submits c moment) h = h
submits_of l (clients.ticks moment) h = tt
submits_of l clients.takes h = tt
submits_of l (clients.receives bytes moment) h = tt

good_client : (peer : Peer) (l : Line) (e : clients.Event) → AllowedAtClient l e → length (step l (at_client e)).submitted < 32767 → Good peer l
    → Good peer (step l (at_client e))
good_client peer l e h few g = record {
  client = client_step l.submitted l.sent l.client e (submits_of l e h) few g.client;
  fits = fits_last peer l.submitted (option_map bytes_of (submission_of l.client e)) l.camera l.sessions g.fits;
  acks = λ x among. answer_last l.submitted (option_map bytes_of (submission_of l.client e)) l.executed x (g.acks x among);
  kept = λ k x is a. answer_last l.submitted (option_map bytes_of (submission_of l.client e)) l.executed x (g.kept k x is a);
}

-- ---- acts at the camera

acks_last : (subs : List (List ℕ)) (executed : List Execution) (acks : List (List ℕ)) (o : Option (List ℕ))
    → ((x : List ℕ) → Contains acks x → IsAnswer subs executed x) → ((x : List ℕ) → o ≡ Some x → IsAnswer subs executed x)
    → (x : List ℕ) → Contains (with_last acks o) x → IsAnswer subs executed x
acks_last subs executed acks None f g x among = f x among
acks_last subs executed acks (Some y) f g x among = go (Contains-push_cases acks y x among)
  where
    go : Contains acks x ⊎ (y ≡ x) → IsAnswer subs executed x
    go (inl old) = f x old
    go (inr same) = g x (ap (λ (b : List ℕ). Some b) same)

-- a frame leaves control and the kept command
record KeepsControl (s t : Camera) : Type 0 where
  primary : primary_of t.holder ≡ primary_of s.holder
  kept : t.kept ≡ s.kept

framed_keeps : (s : Camera) → KeepsControl s (framed s)
framed_keeps s = go (is_open s)
  where
    go : (b : Bool) → KeepsControl s (if b then with_frame s (next_frame s) else s)
    go true = record { primary = refl; kept = refl }
    go false = record { primary = refl; kept = refl }

effect_of : (peer : Peer) (l : Line) (from : Peer) (bytes : List ℕ) (moment : ℕ) → AllowedAtCamera peer l (cameras.command from bytes moment)
    → length l.submitted < 32767 → Good peer l
    → Effect peer l.submitted l.executed (is_primary (looked l.camera moment).holder from) bytes (after_look l.camera moment l.sessions) (commanded l.camera from bytes moment)
effect_of peer l from bytes moment (inl own) few g =
    let sent = g.client.were_submitted bytes own.was_sent in
    subst (λ (p : Peer). Effect peer l.submitted l.executed (is_primary (looked l.camera moment).holder p) bytes (after_look l.camera moment l.sessions) (commanded l.camera p bytes moment))
    (sym own.peer_is)
    (effect_client peer l.submitted l.executed sent.0 bytes l.camera l.sessions moment few sent.1 (g.client.numbered sent.0 bytes sent.1) g.fits g.kept)
effect_of peer l from bytes moment (inr other) few g =
    effect_other peer l.submitted l.executed from bytes l.camera l.sessions moment other g.fits g.kept

good_command : (peer : Peer) (l : Line) (from : Peer) (bytes : List ℕ) (moment : ℕ)
    → Effect peer l.submitted l.executed (is_primary (looked l.camera moment).holder from) bytes (after_look l.camera moment l.sessions) (commanded l.camera from bytes moment)
    → Good peer l → Good peer (step l (at_camera (cameras.command from bytes moment)))
good_command peer l from bytes moment e g = record {
  client = g.client;
  fits = e.fits;
  acks = acks_last l.submitted (with_last l.executed (commanded l.camera from bytes moment).execution) l.acks (commanded l.camera from bytes moment).ack
      (λ x among. answer_later l.submitted l.executed (commanded l.camera from bytes moment).execution x (g.acks x among)) e.ack;
  kept = e.kept;
}

good_camera : (peer : Peer) (l : Line) (e : cameras.Event) → AllowedAtCamera peer l e → length l.submitted < 32767 → Good peer l
    → Good peer (step l (at_camera e))
good_camera peer l (cameras.command from bytes moment) h few g = good_command peer l from bytes moment (effect_of peer l from bytes moment h few g) g
good_camera peer l (cameras.tick moment) h few g = record {
  client = g.client;
  fits = fits_looked peer l.submitted l.camera moment l.sessions g.fits;
  acks = g.acks;
  kept = kept_looked l.submitted l.executed l.camera moment g.kept;
}
good_camera peer l cameras.make_frame h few g =
    let k = framed_keeps l.camera in
    record {
      client = g.client;
      fits = fits_quiet peer l.submitted l.camera (framed l.camera) l.sessions k.primary k.kept g.fits;
      acks = g.acks;
      kept = λ m x is a. g.kept m x (sym k.kept ∙ is) a;
    }
good_camera peer l cameras.next_packet h few g = record {
  client = g.client;
  fits = record { ended = g.fits.ended; state = g.fits.state };
  acks = g.acks;
  kept = g.kept;
}
good_camera peer l (cameras.set_short short) h few g = record {
  client = g.client;
  fits = record { ended = g.fits.ended; state = g.fits.state };
  acks = g.acks;
  kept = g.kept;
}

-- ---- schedules

longer_last : (xs : List (List ℕ)) (o : Option (List ℕ)) → length xs ≤ length (with_last xs o)
longer_last xs None = omega arith
longer_last xs (Some x) = omega (arith, length-append xs (x ∷ []))

-- what was submitted only grows
grows : (l : Line) (a : Act) → length l.submitted ≤ length (step l a).submitted
grows l (at_client e) = longer_last l.submitted (option_map bytes_of (submission_of l.client e))
grows l (at_camera e) = omega arith

good_step : (peer : Peer) (l : Line) (a : Act) → IsAllowed peer l a → length (step l a).submitted < 32767 → Good peer l → Good peer (step l a)
good_step peer l (at_client e) h few g = good_client peer l e h few g
good_step peer l (at_camera e) h few g = good_camera peer l e h few g

good_after : (peer : Peer) (start : Line) (acts : List Act) → Good peer start → IsSchedule peer start acts → length (after start acts).submitted < 32767
    → Good peer (after start acts)
good_after peer start [] g s few = g
good_after peer start (a ∷ rest) g s few =
    let longer : length (after start rest).submitted ≤ length (step (after start rest) a).submitted = grows (after start rest) a in
    good_step peer (after start rest) a s.0 few (good_after peer start rest g s.1 (omega (arith, longer, few)))

good : (seed : ℕ) (shape : Shape) (room : ℕ) (peer : Peer) (acts : List Act) → IsShort peer (new_line seed shape room) acts → Good peer (after (new_line seed shape room) acts)
good seed shape room peer acts s = good_after peer (new_line seed shape room) acts (good_new peer seed shape room) s.schedule s.few

-- ---- the laws

act_once : (peer : Peer) (l : Line) → Good peer l → ActOnce l
act_once peer l g = record {
  ended = All-weaker (Rises l.submitted) (Once l.submitted) once l.sessions.ended g.fits.ended;
  running = once l.sessions.running (running_rises peer l.submitted l.camera l.sessions g.fits);
}
  where
    once : (xs : List (List ℕ)) → Rises l.submitted xs → Once l.submitted xs
    once xs r = once_within l.submitted xs r.0 (distinct l.submitted l.sent l.client g.client) r.1

pub acts_once : (seed : ℕ) (shape : Shape) (room : ℕ) (peer : Peer) (acts : List Act) → CommandsActOnce seed shape room peer acts
acts_once seed shape room peer acts s = act_once peer (after (new_line seed shape room) acts) (good seed shape room peer acts s)

answered_by : (l : Line) (peer : Peer) (bytes : List ℕ) → Good peer l → (a : IsAnswered l.client bytes 0) → IsAsked l.submitted a.asked
    → IsAnswer l.submitted l.executed bytes → WasExecuted l bytes
answered_by l peer bytes g a asked (inl x) =
    let read = x.reads a.ack a.read in
    let parts = and_parts ((a.ack.req == a.asked.req) && (a.ack.code == a.asked.code + 1)) (nat_le (length a.ack.body) MAX_BODY_SIZE) a.matches in
    let both = and_parts (a.ack.req == a.asked.req) (a.ack.code == a.asked.code + 1) parts.0 in
    let req : a.ack.req ≡ a.asked.req = eqb-true a.ack.req a.asked.req both.0 in
    let place : x.place ≡ asked.place = omega (arith, read.0, req, asked.req_is) in
    record {
      asked = a.asked;
      outstanding = a.outstanding;
      execution = x.execution;
      among = x.among;
      same = at_same l.submitted asked.place x.execution.kept.bytes a.asked.bytes (rw (← place) x.at) asked.at;
      answered = x.answered;
      succeeded = success_is x.execution.status (sym read.1 ∙ a.status_is);
    }
answered_by l peer bytes g a asked (inr f) =
    let code_is = f.reads a.ack a.read a.status_is in
    let parts = and_parts ((a.ack.req == a.asked.req) && (a.ack.code == a.asked.code + 1)) (nat_le (length a.ack.body) MAX_BODY_SIZE) a.matches in
    let both = and_parts (a.ack.req == a.asked.req) (a.ack.code == a.asked.code + 1) parts.0 in
    let code : a.ack.code ≡ a.asked.code + 1 = eqb-true a.ack.code (a.asked.code + 1) both.1 in
    absurd (omega (arith, code_is, code, asked.code))

asked_is : (subs : List (List ℕ)) (o : Option Asked) (asked : Asked) → o ≡ Some asked → AskedFits subs o → IsAsked subs asked
asked_is subs None asked e f = absurd (cc)
asked_is subs (Some x) asked e f = let same : x ≡ asked = cc in subst (IsAsked subs) same f

pub acked_executed : (seed : ℕ) (shape : Shape) (room : ℕ) (peer : Peer) (acts : List Act) → AckedMeansExecuted seed shape room peer acts
acked_executed seed shape room peer acts s bytes moment among acked =
    answered_by l peer bytes g a (asked_is l.submitted l.client.asked a.asked a.outstanding g.client.asked) (g.acks bytes among)
  where
    l : Line
    l = after (new_line seed shape room) acts

    g : Good peer l
    g = good seed shape room peer acts s

    a : IsAnswered l.client bytes 0
    a = ((ends_exact l.client).acked bytes moment).0 acked
