-- Repeats of the kept command, and commands behind it.
use Rattle.std.proofs.Common.{◌≡◌, ℕ, Bool, true, false, List, [], ◌∷◌, Option, Some, None, Result, Ok, Err, refl, ap, sym, ◌∙◌, subst}
use Rattle.std.specs.Prelude.{◌==◌, ◌&&◌, if◌then◌else◌}
use Rattle.std.proofs.lemmas.Bool.{eqb-true, eq-eqb, and_parts}
use Rattle.gev_types.specs.declared.frame.Shape.{Shape}
use Rattle.gev_types.specs.declared.peer.Peer.{Peer}
use Rattle.gvcp_wire.specs.Codes.{PACKETRESEND_CMD}
use Rattle.gvcp_wire.specs.declared.message.CommandHead.{CommandHead}
use Rattle.gvcp_wire.specs.declared.message.ControlError.{ControlError}
use Rattle.gvcp_wire.specs.declared.message.ControlError.TheVariants.{Short, Key, ZeroReq, Length, Form}
use Rattle.gvcp_wire.specs.Messages.{PlainCommand}
use Rattle.gvcp_wire.specs.Reading.{command_reading}
use Rattle.control_privilege.specs.declared.holder.Holder.{Holder}
use Rattle.control_privilege.specs.Control.{is_primary, renewed_by}
use Rattle.camera_machine.specs.Camera.{Kept, Camera, new_camera, looked}
use Rattle.camera_machine.specs.Commands.{only_answered, silent, executed_as, from_primary, same_bytes, is_behind, is_access, resend_in, resent, obeyed, renewed, heard}
use Rattle.camera_machine.specs.Events.{Event, command, tick, make_frame, next_packet, set_short, after, Deed, changed, executed, made, with_look, with_answer, past_with, past, last_kept, is_release}
use Rattle.camera_machine.specs.Primary.{head_in, IsAccess, RepeatIsAnswered, BehindIsDropped}
use Rattle.camera_machine.proofs.Past.{state_says}
use Rattle.camera_machine.proofs.Walk.{register_code, executes, heard_is}
use Rattle.camera_machine.proofs.Deeds.{on_changes, on_look, on_frame}

-- ---- a command of the primary that reads as a register command

pub same_bytes-refl : (xs : List ℕ) → same_bytes xs xs ≡ true
same_bytes-refl [] = refl
same_bytes-refl (x ∷ xs) = rw (eq-eqb x x refl) (same_bytes-refl xs)

same_bytes-true : (xs ys : List ℕ) → same_bytes xs ys ≡ true → xs ≡ ys
same_bytes-true [] [] e = refl
same_bytes-true [] (y ∷ ys) e = absurd (cc)
same_bytes-true (x ∷ xs) [] e = absurd (cc)
same_bytes-true (x ∷ xs) (y ∷ ys) e =
    let parts = and_parts (x == y) (same_bytes xs ys) e in
    let first : x ≡ y = eqb-true x y parts.0 in
    let rest : xs ≡ ys = same_bytes-true xs ys parts.1 in
    cc

no_resend : (code : ℕ) → is_access code ≡ true → (code == PACKETRESEND_CMD) ≡ false
no_resend code a = go (code == PACKETRESEND_CMD) refl
  where
    go : (b : Bool) → (code == PACKETRESEND_CMD) ≡ b → b ≡ false
    go true e = sym (subst (λ (n : ℕ). is_access n ≡ true) (eqb-true code PACKETRESEND_CMD e) a)
    go false e = refl

primary_renewed : (holder : Option Holder) (peer : Peer) (moment : ℕ) → is_primary holder peer ≡ true → is_primary (renewed_by holder peer moment) peer ≡ true
primary_renewed None peer moment e = e
primary_renewed (Some h) peer moment e = rw (e, e) refl

chosen : {A : Type 0} (r a p : Bool) (w x y : A) → r ≡ false → a ≡ true → p ≡ true → (if r then w else (if a && p then x else y)) ≡ x
chosen false true true w x y e f g = refl
chosen true a p w x y e f g = absurd (cc)
chosen false false p w x y e f g = absurd (cc)
chosen false true false w x y e f g = absurd (cc)

obeyed_as : (t : Camera) (peer : Peer) (bytes : List ℕ) (moment : ℕ) (head : CommandHead) (c : Option PlainCommand) (kept : Kept)
    → t.kept ≡ Some kept → is_primary t.holder peer ≡ true → is_access head.code ≡ true
    → (same : Bool) → same_bytes bytes kept.bytes ≡ same → (same ≡ false → is_behind kept.req head.req ≡ true)
    → obeyed t peer bytes moment head c ≡ (if same then only_answered t kept.ack else silent t)
obeyed_as t peer bytes moment head c kept k p a same b f =
    chosen (head.code == PACKETRESEND_CMD) (is_access head.code) (is_primary t.holder peer) (silent (resent t peer (resend_in head c)))
    (from_primary t.kept t peer bytes moment head c) (executed_as t peer bytes moment head c) (no_resend head.code a) a p
    ∙ (ap (λ (o : Option Kept). from_primary o t peer bytes moment head c) k ∙ go same b f)
  where
    go : (same : Bool) → same_bytes bytes kept.bytes ≡ same → (same ≡ false → is_behind kept.req head.req ≡ true)
        → from_primary (Some kept) t peer bytes moment head c ≡ (if same then only_answered t kept.ack else silent t)
    go true b f = rw b refl
    go false b f = rw (b, f refl) refl

-- what is heard of it
heard_as : (s : Camera) (peer : Peer) (bytes : List ℕ) (moment : ℕ) (r : Result (CommandHead × PlainCommand) ControlError) (kept : Kept) (head : CommandHead)
    → s.kept ≡ Some kept → is_primary s.holder peer ≡ true → head_in r ≡ Some head → is_access head.code ≡ true
    → (same : Bool) → same_bytes bytes kept.bytes ≡ same → (same ≡ false → is_behind kept.req head.req ≡ true)
    → heard s peer bytes moment r ≡ (if same then only_answered (renewed s peer moment) kept.ack else silent (renewed s peer moment))
heard_as s peer bytes moment (Ok x) kept head k p h a same b f =
    let here : x.0 ≡ head = cc in
    obeyed_as (renewed s peer moment) peer bytes moment x.0 (Some x.1) kept k (primary_renewed s.holder peer moment p) (rw here a) same b (rw here f)
heard_as s peer bytes moment (Err (Form y)) kept head k p h a same b f =
    let here : y ≡ head = cc in
    obeyed_as (renewed s peer moment) peer bytes moment y None kept k (primary_renewed s.holder peer moment p) (rw here a) same b (rw here f)
heard_as s peer bytes moment (Err (Short len)) kept head k p h a same b f = absurd (cc)
heard_as s peer bytes moment (Err (Key key)) kept head k p h a same b f = absurd (cc)
heard_as s peer bytes moment (Err ZeroReq) kept head k p h a same b f = absurd (cc)
heard_as s peer bytes moment (Err (Length field real)) kept head k p h a same b f = absurd (cc)

pub behind_dropped : (s : Camera) → BehindIsDropped s
behind_dropped s kept peer bytes moment req held a ne behind =
    rw held.alive (heard_as s peer bytes moment (command_reading bytes) kept a.head held.kept_is held.primary a.read a.access false
    (go (same_bytes bytes kept.bytes) refl) (λ _. rw a.req_is behind))
  where
    go : (b : Bool) → same_bytes bytes kept.bytes ≡ b → b ≡ false
    go true e = absurd (ne (same_bytes-true bytes kept.bytes e))
    go false e = refl

-- ---- each that was executed is a register command

abbrev AllAccess : List Deed → Type 0
AllAccess [] = Unit {0}
AllAccess (changed c ∷ ds) = AllAccess ds
AllAccess (executed x ∷ ds) = IsAccess x.kept.bytes x.kept.req × AllAccess ds
AllAccess (made sent ∷ ds) = AllAccess ds

all_heard : (s : Camera) (peer : Peer) (bytes : List ℕ) (moment : ℕ) (ds : List Deed) → AllAccess ds
    → AllAccess (with_answer (heard s peer bytes moment (command_reading bytes)) ds)
all_heard s peer bytes moment ds h =
    heard_is (λ a. AllAccess (with_answer a ds)) s peer bytes moment h (record {
      replies = λ head ack is. h;
      asks = λ r p e. h;
      acts = λ head c e is. (
        record { head = head; read = ap head_in e; access = register_code bytes head c e is; req_is = refl },
        on_changes AllAccess (λ d xs k. k) (executes (renewed s peer moment) peer moment c).changes ds h,
      );
    })

all_step : (s : Camera) (e : Event) (ds : List Deed) → AllAccess ds → AllAccess (past_with s e ds)
all_step s (command peer bytes moment) ds h = all_heard (looked s moment) peer bytes moment (with_look s moment ds) (on_look AllAccess (λ xs k. k) s moment ds h)
all_step s (tick moment) ds h = on_look AllAccess (λ xs k. k) s moment ds h
all_step s make_frame ds h = on_frame AllAccess s ds h h
all_step s next_packet ds h = h
all_step s (set_short short) ds h = h

all_past : (start : Camera) (es : List Event) → AllAccess (past start es)
all_past start [] = tt
all_past start (e ∷ es) = all_step (after start es) e (past start es) (all_past start es)

kept_access : (ds : List Deed) (kept : Kept) → AllAccess ds → last_kept ds ≡ Some kept → IsAccess kept.bytes kept.req
kept_access [] kept h e = absurd (cc)
kept_access (changed c ∷ ds) kept h e = go (is_release c) e (kept_access ds kept h)
  where
    go : (b : Bool) → (if b then None else last_kept ds) ≡ Some kept → (last_kept ds ≡ Some kept → IsAccess kept.bytes kept.req) → IsAccess kept.bytes kept.req
    go true e f = absurd (cc)
    go false e f = f e
kept_access (executed x ∷ ds) kept h e = go x.is_primary e (kept_access ds kept h.1)
  where
    go : (b : Bool) → (if b then Some x.kept else last_kept ds) ≡ Some kept → (last_kept ds ≡ Some kept → IsAccess kept.bytes kept.req) → IsAccess kept.bytes kept.req
    go true e f = let same : x.kept ≡ kept = cc in subst (λ (k : Kept). IsAccess k.bytes k.req) same h.0
    go false e f = f e
kept_access (made sent ∷ ds) kept h e = kept_access ds kept h e

pub repeat_answered : (seed : ℕ) (shape : Shape) (room : ℕ) (es : List Event) → RepeatIsAnswered seed shape room es
repeat_answered seed shape room es kept peer moment held =
    rw held.alive (heard_as s peer kept.bytes moment (command_reading kept.bytes) kept a.head held.kept_is held.primary a.read a.access true
    (same_bytes-refl kept.bytes) (λ e. absurd (cc)))
  where
    s : Camera
    s = after (new_camera seed shape room) es

    a : IsAccess kept.bytes kept.req
    a = kept_access (past (new_camera seed shape room) es) kept (all_past (new_camera seed shape room) es)
        (sym (state_says seed shape room es).kept ∙ held.kept_is)
