-- A reader that ends with NoAnswer sent its command three times.
use Rattle.std.proofs.Common.{◌≡◌, ◌≢◌, ◌<◌, ℕ, List, [], ◌∷◌, ◌++◌, refl, ap, sym, ◌∙◌, subst}
use Rattle.std.proofs.lemmas.List.{append-nil}
use Rattle.std.specs.Prelude.{⊤}
use Rattle.board_machine.specs.declared.events.Event.{Event as Act}
use Rattle.client_machine.specs.Machine.{Client, HasSubmittedNone}
use Rattle.gev_links.specs.Links.{Address}
use Rattle.gev_control.specs.declared.turn_end.TurnEnd.TheVariants as ends
use Rattle.gev_control.specs.declared.acq_end.AcqEnd.{AcqEnd}
use Rattle.gev_control.specs.declared.acq_end.AcqEnd.TheVariants as how
use Rattle.gev_control.specs.Controlled.{control_of, listed, sent_by}
use Rattle.gev_control.specs.SetupTurns.{set_up, SetupTurned}
use Rattle.gev_control.specs.SetsUp.{setup_sent, setup_heards}
use Rattle.gev_acq.specs.Turns.{Outside}
use Rattle.gev_acq.specs.Reads.{IsSetUp}
use Rattle.lane_reader.specs.LanesTurns.{ReaderTurn, joined}
use Rattle.lane_reader.specs.Turned.{IsControlled}
use Rattle.lane_reader.specs.Reads.{heards_in, sends_in, ControlEach, AllGoOn, EndsIn}
use Rattle.lane_crew.specs.Reader.{EndsAfter, ReadsOn}
use Rattle.live_promises.specs.Moves.{Move, sends_all, hears_of, setup_moves, moves_sent, moves_heard, datagrams, later_moves}
use Rattle.live_promises.specs.ClientCauses.{IsUnanswered}
use Rattle.live_promises.proofs.ClientKeeping.{Kept, later-append, kept_sends}
use Rattle.live_promises.proofs.Turns.{CameTo, KeptOf, control_came, on_by, up_by}
use Rattle.live_promises.proofs.Links.{sent-append, heard-append, datagrams-append, setup_sent_is, setup_heard_is, sent_whole, turn_sent, turn_heard}
use Rattle.live_promises.specs.Causes.{HadNoAnswer}
use Rattle.live_promises.specs.LanesCauses.{turn_moves, reader_moves}
use Rattle.live_promises.proofs.Unanswered.{stopped_kept, setup_unanswered}

-- ---- the reader's turns

-- the moves of a turn by its parts
by_parts : (s : Client) (t : ReaderTurn) (ms : List Move)
    → later_moves ms (turn_moves s t)
    ≡ later_moves (later_moves (later_moves ms (sends_all (joined t.asked))) (hears_of t.heard))
    (sends_all (sent_by t.end (control_of s t.heard t.moment).send))
by_parts s t ms =
    later-append ms (sends_all (joined t.asked)) (hears_of t.heard ++ sends_all (sent_by t.end (control_of s t.heard t.moment).send))
    ∙ later-append (later_moves ms (sends_all (joined t.asked))) (hears_of t.heard) (sends_all (sent_by t.end (control_of s t.heard t.moment).send))

asked_came : (s : Client) (t : ReaderTurn) (ms : List Move) → Kept s.asked ms
    → CameTo (control_of s t.heard t.moment).end (control_of s t.heard t.moment).state (control_of s t.heard t.moment).send
    (later_moves (later_moves ms (sends_all (joined t.asked))) (hears_of t.heard))
asked_came s t ms kept = control_came s t.heard t.moment (later_moves ms (sends_all (joined t.asked))) (kept_sends s.asked (joined t.asked) ms kept)

-- a turn that goes on

turn_goes_on : (s : Client) (t : ReaderTurn) (ms : List Move) → t.end ≡ ends.GoesOn → IsControlled s t → Kept s.asked ms
    → Kept (control_of s t.heard t.moment).state.asked (later_moves ms (turn_moves s t))
turn_goes_on s t ms is controlled kept =
    subst (Kept (control_of s t.heard t.moment).state.asked) (sym (by_parts s t ms))
    (on_by (control_of s t.heard t.moment) t.end (later_moves (later_moves ms (sends_all (joined t.asked))) (hears_of t.heard)) is controlled.ends_as
    (asked_came s t ms kept))

-- a turn whose command had no answer

turn_gives_up : (s : Client) (t : ReaderTurn) (req : ℕ) (ms : List Move) → t.end ≡ ends.NoAnswer req → IsControlled s t
    → Kept s.asked ms → IsUnanswered req (later_moves ms (turn_moves s t))
turn_gives_up s t req ms is controlled kept =
    subst (IsUnanswered req) (sym (by_parts s t ms))
    (up_by (control_of s t.heard t.moment) t.end req (later_moves (later_moves ms (sends_all (joined t.asked))) (hears_of t.heard)) is controlled.ends_as
    (asked_came s t ms kept))

-- ---- what is sent and heard

-- no turn ended by a fault
abbrev NoneFails : List ReaderTurn → Type 0
NoneFails [] = ⊤
NoneFails (t ∷ ts) = (t.end ≢ ends.Fault) × NoneFails ts

reader_sent_is : (s u : Client) (ts : List ReaderTurn) → ControlEach s ts u → NoneFails ts
    → moves_sent (reader_moves s ts) ≡ sends_in ts
reader_sent_is s u [] each fine = refl
reader_sent_is s u (t ∷ ts) each fine =
    let rest : List Move = reader_moves (control_of s t.heard t.moment).state ts in
    let every : List (List ℕ) = joined t.asked ++ sent_by t.end (control_of s t.heard t.moment).send in
    sent-append (turn_moves s t) rest
    ∙ (ap (λ l. l ++ moves_sent rest) (turn_sent (joined t.asked) (sent_by t.end (control_of s t.heard t.moment).send) t.heard)
    ∙ (ap (λ l. l ++ moves_sent rest) (sym (sent_whole t.end every t.sent fine.0 each.0.sends))
    ∙ ap (λ l. t.sent ++ l) (reader_sent_is (control_of s t.heard t.moment).state u ts each.1 fine.1)))

reader_heard_is : (s : Client) (ts : List ReaderTurn) → moves_heard (reader_moves s ts) ≡ datagrams (heards_in ts)
reader_heard_is s [] = refl
reader_heard_is s (t ∷ ts) =
    let rest : List Move = reader_moves (control_of s t.heard t.moment).state ts in
    heard-append (turn_moves s t) rest
    ∙ (ap (λ l. l ++ moves_heard rest) (turn_heard (joined t.asked) (sent_by t.end (control_of s t.heard t.moment).send) t.heard)
    ∙ (ap (λ l. datagrams (listed t.heard) ++ l) (reader_heard_is (control_of s t.heard t.moment).state ts)
    ∙ sym (datagrams-append (listed t.heard) (heards_in ts))))

-- ---- the reader

turns_give_up : (s u : Client) (before : List ReaderTurn) (last : ReaderTurn) (req : ℕ) (ms : List Move)
    → ControlEach s (before ++ last ∷ []) u → AllGoOn before → last.end ≡ ends.NoAnswer req → Kept s.asked ms
    → IsUnanswered req (later_moves ms (reader_moves s (before ++ last ∷ [])))
turns_give_up s u [] last req ms each on is kept =
    subst (λ l. IsUnanswered req (later_moves ms l)) (sym (append-nil (turn_moves s last))) (turn_gives_up s last req ms is each.0 kept)
turns_give_up s u (t ∷ ts) last req ms each on is kept =
    subst (IsUnanswered req)
    (sym (later-append ms (turn_moves s t) (reader_moves (control_of s t.heard t.moment).state (ts ++ last ∷ []))))
    (turns_give_up (control_of s t.heard t.moment).state u ts last req (later_moves ms (turn_moves s t)) each.1 on.1 is
    (turn_goes_on s t ms on.0 each.0 kept))

none_fails : (before : List ReaderTurn) (last : ReaderTurn) (req : ℕ) → AllGoOn before → last.end ≡ ends.NoAnswer req → NoneFails (before ++ last ∷ [])
none_fails [] last req on is = (λ e. let bad : ends.NoAnswer req ≡ ends.Fault = sym is ∙ e in cc, tt)
none_fails (t ∷ ts) last req on is = (λ e. let bad : ends.GoesOn ≡ ends.Fault = sym on.0 ∙ e in cc, none_fails ts last req on.1 is)

-- ---- the run

-- what is shown of the two lists of turns
record Shown (stream : Address) (s u v : Client) (setup : List SetupTurned) (made : List ReaderTurn) (req : ℕ) : Type 0 where
  unanswered : IsUnanswered req (later_moves [] (setup_moves stream (set_up s 0) setup ++ reader_moves u made))
  fine : NoneFails made

from_turns : (stream : Address) (s u v : Client) (setup : List SetupTurned) (made : List ReaderTurn) (req : ℕ) → KeptOf s []
    → IsSetUp stream s setup how.Stopped u → EndsIn (ends.NoAnswer req) made → ControlEach u made v → Shown stream s u v setup made req
from_turns stream s u v setup made req kept set ended each = record {
  unanswered =
      subst (IsUnanswered req) (sym (later-append [] (setup_moves stream (set_up s 0) setup) (reader_moves u made)))
      (subst (λ l. IsUnanswered req (later_moves (later_moves [] (setup_moves stream (set_up s 0) setup)) (reader_moves u l))) (sym ended.is)
      (turns_give_up u v ended.before ended.last req (later_moves [] (setup_moves stream (set_up s 0) setup))
      (subst (λ l. ControlEach u l v) ended.is each) ended.on ended.ended (stopped_kept stream s u setup kept set)));
  fine = subst NoneFails (sym ended.is) (none_fails ended.before ended.last req ended.on ended.ended);
}

from_setup : (stream : Address) (s u v : Client) (setup : List SetupTurned) (made : List ReaderTurn) (req : ℕ) → KeptOf s []
    → IsSetUp stream s setup (how.NoAnswer req) u → made ≡ [] → Shown stream s u v setup made req
from_setup stream s u v setup made req kept set none_made = record {
  unanswered =
      subst (IsUnanswered req)
      (ap (later_moves []) (sym (append-nil (setup_moves stream (set_up s 0) setup)) ∙ ap (λ l. setup_moves stream (set_up s 0) setup ++ reader_moves u l) (sym none_made)))
      (setup_unanswered stream s u setup req kept set);
  fine = subst NoneFails (sym none_made) tt;
}

by_setup_end : (stream : Address) (s u v : Client) (setup : List SetupTurned) (made : List ReaderTurn) (turns req : ℕ) (setup_end : AcqEnd)
    → KeptOf s [] → IsSetUp stream s setup setup_end u → EndsAfter setup_end (how.NoAnswer req) turns made → ControlEach u made v
    → Shown stream s u v setup made req
by_setup_end stream s u v setup made turns req how.Stopped kept set after each = from_turns stream s u v setup made req kept set after.1 each
by_setup_end stream s u v setup made turns req how.Spent kept set after each = let bad : ⊥ = cc in absurd bad
by_setup_end stream s u v setup made turns req how.Fault kept set after each = let bad : ⊥ = cc in absurd bad
by_setup_end stream s u v setup made turns req (how.NoAnswer found) kept set after each =
    let same : found ≡ req = number after.0 in
    from_setup stream s u v setup made req kept (subst (λ n. IsSetUp stream s setup (how.NoAnswer n) u) same set) after.1
  where
    number : how.NoAnswer req ≡ how.NoAnswer found → found ≡ req
    number e = cc
by_setup_end stream s u v setup made turns req (how.Refused status) kept set after each = let bad : ⊥ = cc in absurd bad

pub given_up : (camera stream : Address) (o n : Outside) (turns : ℕ) (end : AcqEnd) (made : List ReaderTurn) (last : List Act) (on : ReadsOn camera stream o n turns end made last) → HasSubmittedNone o.client → 0 < o.client.limit → (req : ℕ) → end ≡ how.NoAnswer req
    → HadNoAnswer req (setup_moves stream (set_up o.client 0) on.setup ++ reader_moves on.client made)
    (setup_sent stream (set_up o.client 0) on.setup ++ sends_in made) (datagrams (setup_heards on.setup ++ heards_in made))
given_up camera stream o n turns end made last on new some req is =
    let shown : Shown stream o.client on.client n.client on.setup made req =
    by_setup_end stream o.client on.client n.client on.setup made turns req on.setup_end (some, subst (λ (k : Client). Kept k.asked []) (sym new) tt)
    on.set_up_by (subst (λ x. EndsAfter on.setup_end x turns made) is on.ends) on.controlled
    in
    record {
      unanswered = shown.unanswered;
      sent_are =
          sent-append (setup_moves stream (set_up o.client 0) on.setup) (reader_moves on.client made)
          ∙ (ap (λ l. l ++ moves_sent (reader_moves on.client made)) (setup_sent_is stream (set_up o.client 0) on.setup)
          ∙ ap (λ l. setup_sent stream (set_up o.client 0) on.setup ++ l) (reader_sent_is on.client n.client made on.controlled shown.fine));
      heard_are =
          heard-append (setup_moves stream (set_up o.client 0) on.setup) (reader_moves on.client made)
          ∙ (ap (λ l. l ++ moves_heard (reader_moves on.client made)) (setup_heard_is stream (set_up o.client 0) on.setup)
          ∙ (ap (λ l. datagrams (setup_heards on.setup) ++ l) (reader_heard_is on.client made)
          ∙ sym (datagrams-append (setup_heards on.setup) (heards_in made))));
    }
