-- A reader that ends with NoAnswer sent its command three times.
use Rattle.std.proofs.Common.{◌≡◌, ℕ, List, [], ◌∷◌, ◌++◌, refl, ap, sym, ◌∙◌, subst}
use Rattle.std.proofs.lemmas.List.{append-nil}
use Rattle.client_machine.specs.Machine.{Client}
use Rattle.acquisition_machine.specs.declared.config.AcqConfig.{AcqConfig}
use Rattle.acquisition_machine.specs.Machine.{Input}
use Rattle.gev_links.specs.Links.{Address}
use Rattle.gev_control.specs.declared.turn_end.TurnEnd.TheVariants as ends
use Rattle.gev_control.specs.declared.acq_end.AcqEnd.{AcqEnd}
use Rattle.gev_control.specs.declared.acq_end.AcqEnd.TheVariants as how
use Rattle.gev_control.specs.Controlled.{control_of}
use Rattle.gev_control.specs.SetupTurns.{SetUp, set_up, SetupTurned, setup_turn, sent_if_heard}
use Rattle.gev_control.specs.SetsUp.{setup_after, SetupGoesOn, setup_sent, setup_heards}
use Rattle.gev_acq.specs.Turns.{Turned, inputs_of}
use Rattle.gev_acq.specs.Acquired.{heards_in, ControlEach, AllGoOn, EndsIn}
use Rattle.gev_acq.specs.Reads.{IsSetUp, EndsAfter}
use Rattle.live_promises.specs.Moves.{Move, sends_all, hears_of, setup_moves, turn_moves, reader_moves, moves_sent, moves_heard, datagrams, later_moves}
use Rattle.live_promises.specs.ClientCauses.{IsUnanswered, NoAnswerIsUnanswered}
use Rattle.live_promises.proofs.ClientKeeping.{later-append, Kept}
use Rattle.live_promises.proofs.Turns.{KeptOf, turn_goes_on, turn_gives_up, GoesOnOrStops, setup_goes_on, setup_gives_up}
use Rattle.live_promises.proofs.Links.{sent-append, heard-append, datagrams-append, setup_sent_is, setup_heard_is, NoneFails, reader_sent_is, reader_heard_is}

-- ---- the setup

-- the setup's moves up to its last turn, and that turn's
last_moves : (stream : Address) (s : SetUp) (before : List SetupTurned) (last : SetupTurned) (ms : List Move)
    → later_moves ms (setup_moves stream s (before ++ last ∷ []))
    ≡ later_moves (later_moves ms (setup_moves stream s before))
    (sends_all (sent_if_heard last.heard (setup_turn stream (setup_after stream s before) last).send) ++ hears_of last.heard)
last_moves stream s [] last ms = ap (later_moves ms) (append-nil (sends_all (sent_if_heard last.heard (setup_turn stream s last).send) ++ hears_of last.heard))
last_moves stream s (t ∷ ts) last ms =
    let here : List Move = sends_all (sent_if_heard t.heard (setup_turn stream s t).send) ++ hears_of t.heard in
    later-append ms here (setup_moves stream (setup_turn stream s t).state (ts ++ last ∷ []))
    ∙ (last_moves stream (setup_turn stream s t).state ts last (later_moves ms here)
    ∙ ap
    (λ l.
    later_moves l
    (sends_all (sent_if_heard last.heard (setup_turn stream (setup_after stream (setup_turn stream s t).state ts) last).send) ++ hears_of last.heard))
    (sym (later-append ms here (setup_moves stream (setup_turn stream s t).state ts))))

after_last : (stream : Address) (s : SetUp) (before : List SetupTurned) (last : SetupTurned)
    → setup_after stream s (before ++ last ∷ []) ≡ (setup_turn stream (setup_after stream s before) last).state
after_last stream s [] last = refl
after_last stream s (t ∷ ts) last = after_last stream (setup_turn stream s t).state ts last

setup_kept : (stream : Address) (s : SetUp) (ts : List SetupTurned) (ms : List Move) → SetupGoesOn stream s ts → KeptOf s.client ms
    → KeptOf (setup_after stream s ts).client (later_moves ms (setup_moves stream s ts))
setup_kept stream s [] ms on kept = kept
setup_kept stream s (t ∷ ts) ms on kept =
    let here : List Move = sends_all (sent_if_heard t.heard (setup_turn stream s t).send) ++ hears_of t.heard in
    subst (KeptOf (setup_after stream (setup_turn stream s t).state ts).client)
    (sym (later-append ms here (setup_moves stream (setup_turn stream s t).state ts)))
    (setup_kept stream (setup_turn stream s t).state ts (later_moves ms here) on.1
    (setup_goes_on stream s t ms (subst GoesOnOrStops (sym on.0) tt) kept))

-- the client after a setup that stopped
pub stopped_kept : (stream : Address) (s u : Client) (made : List SetupTurned) → KeptOf s [] → IsSetUp stream s made how.Stopped u
    → Kept u.asked (later_moves [] (setup_moves stream (set_up s 0) made))
stopped_kept stream s u made kept set =
    let there : SetUp = setup_after stream (set_up s 0) set.before in
    let last : KeptOf (setup_turn stream there set.last).state.client (later_moves (later_moves [] (setup_moves stream (set_up s 0) set.before))
    (sends_all (sent_if_heard set.last.heard (setup_turn stream there set.last).send) ++ hears_of set.last.heard)) =
    setup_goes_on stream there set.last (later_moves [] (setup_moves stream (set_up s 0) set.before)) (subst GoesOnOrStops (sym set.ended) tt)
    (setup_kept stream (set_up s 0) set.before [] set.on kept)
    in
    let whole : KeptOf (setup_turn stream there set.last).state.client (later_moves [] (setup_moves stream (set_up s 0) made)) =
    subst (KeptOf (setup_turn stream there set.last).state.client)
    (sym (ap (λ l. later_moves [] (setup_moves stream (set_up s 0) l)) set.is ∙ last_moves stream (set_up s 0) set.before set.last [])) last
    in
    subst (λ (k : Client). Kept k.asked (later_moves [] (setup_moves stream (set_up s 0) made)))
    (sym (set.client ∙ ap (λ x. x.client) (ap (setup_after stream (set_up s 0)) set.is ∙ after_last stream (set_up s 0) set.before set.last))) whole.1

-- a setup without an answer
pub setup_unanswered : (stream : Address) (s u : Client) (made : List SetupTurned) (req : ℕ) → KeptOf s [] → IsSetUp stream s made (how.NoAnswer req) u
    → IsUnanswered req (later_moves [] (setup_moves stream (set_up s 0) made))
setup_unanswered stream s u made req kept set =
    subst (IsUnanswered req)
    (sym (ap (λ l. later_moves [] (setup_moves stream (set_up s 0) l)) set.is ∙ last_moves stream (set_up s 0) set.before set.last []))
    (setup_gives_up stream (setup_after stream (set_up s 0) set.before) set.last req (later_moves [] (setup_moves stream (set_up s 0) set.before)) set.ended
    set.may_hear (setup_kept stream (set_up s 0) set.before [] set.on kept))

-- ---- the reader

turns_give_up : (c : AcqConfig) (q : List Input) (s u : Client) (before : List Turned) (last : Turned) (req : ℕ) (ms : List Move)
    → ControlEach c q s (before ++ last ∷ []) u → AllGoOn before → last.end ≡ ends.NoAnswer req → Kept s.asked ms
    → IsUnanswered req (later_moves ms (reader_moves c q s (before ++ last ∷ [])))
turns_give_up c q s u [] last req ms each on is kept =
    subst (λ l. IsUnanswered req (later_moves ms l)) (sym (append-nil (turn_moves c q s last))) (turn_gives_up c q s last req ms is each.0 kept)
turns_give_up c q s u (t ∷ ts) last req ms each on is kept =
    subst (IsUnanswered req)
    (sym (later-append ms (turn_moves c q s t) (reader_moves c (q ++ inputs_of t) (control_of s t.heard t.moment).state (ts ++ last ∷ []))))
    (turns_give_up c (q ++ inputs_of t) (control_of s t.heard t.moment).state u ts last req (later_moves ms (turn_moves c q s t)) each.1 on.1 is
    (turn_goes_on c q s t ms on.0 each.0 kept))

none_fails : (before : List Turned) (last : Turned) (req : ℕ) → AllGoOn before → last.end ≡ ends.NoAnswer req → NoneFails (before ++ last ∷ [])
none_fails [] last req on is = (λ e. let bad : ends.NoAnswer req ≡ ends.Fault = sym is ∙ e in cc, tt)
none_fails (t ∷ ts) last req on is = (λ e. let bad : ends.GoesOn ≡ ends.Fault = sym on.0 ∙ e in cc, none_fails ts last req on.1 is)

-- ---- the run

-- what is shown of the two lists of turns
record Shown (c : AcqConfig) (stream : Address) (s u v : Client) (setup : List SetupTurned) (made : List Turned) (req : ℕ) : Type 0 where
  unanswered : IsUnanswered req (later_moves [] (setup_moves stream (set_up s 0) setup ++ reader_moves c [] u made))
  fine : NoneFails made

from_turns : (c : AcqConfig) (stream : Address) (s u v : Client) (setup : List SetupTurned) (made : List Turned) (req : ℕ) → KeptOf s []
    → IsSetUp stream s setup how.Stopped u → EndsIn (ends.NoAnswer req) made → ControlEach c [] u made v → Shown c stream s u v setup made req
from_turns c stream s u v setup made req kept set ended each = record {
  unanswered =
      subst (IsUnanswered req) (sym (later-append [] (setup_moves stream (set_up s 0) setup) (reader_moves c [] u made)))
      (subst (λ l. IsUnanswered req (later_moves (later_moves [] (setup_moves stream (set_up s 0) setup)) (reader_moves c [] u l))) (sym ended.is)
      (turns_give_up c [] u v ended.before ended.last req (later_moves [] (setup_moves stream (set_up s 0) setup))
      (subst (λ l. ControlEach c [] u l v) ended.is each) ended.on ended.ended (stopped_kept stream s u setup kept set)));
  fine = subst NoneFails (sym ended.is) (none_fails ended.before ended.last req ended.on ended.ended);
}

from_setup : (c : AcqConfig) (stream : Address) (s u v : Client) (setup : List SetupTurned) (made : List Turned) (req : ℕ) → KeptOf s []
    → IsSetUp stream s setup (how.NoAnswer req) u → made ≡ [] → Shown c stream s u v setup made req
from_setup c stream s u v setup made req kept set none_made = record {
  unanswered =
      subst (IsUnanswered req)
      (ap (later_moves []) (sym (append-nil (setup_moves stream (set_up s 0) setup)) ∙ ap (λ l. setup_moves stream (set_up s 0) setup ++ reader_moves c [] u l) (sym none_made)))
      (setup_unanswered stream s u setup req kept set);
  fine = subst NoneFails (sym none_made) tt;
}

by_setup_end : (c : AcqConfig) (stream : Address) (s u v : Client) (setup : List SetupTurned) (made : List Turned) (turns req : ℕ) (setup_end : AcqEnd)
    → KeptOf s [] → IsSetUp stream s setup setup_end u → EndsAfter setup_end (how.NoAnswer req) turns made → ControlEach c [] u made v
    → Shown c stream s u v setup made req
by_setup_end c stream s u v setup made turns req how.Stopped kept set after each = from_turns c stream s u v setup made req kept set after.1 each
by_setup_end c stream s u v setup made turns req how.Spent kept set after each = let bad : ⊥ = cc in absurd bad
by_setup_end c stream s u v setup made turns req how.Fault kept set after each = let bad : ⊥ = cc in absurd bad
by_setup_end c stream s u v setup made turns req (how.NoAnswer found) kept set after each =
    let same : found ≡ req = number after.0 in
    from_setup c stream s u v setup made req kept (subst (λ n. IsSetUp stream s setup (how.NoAnswer n) u) same set) after.1
  where
    number : how.NoAnswer req ≡ how.NoAnswer found → found ≡ req
    number e = cc
by_setup_end c stream s u v setup made turns req (how.Refused status) kept set after each = let bad : ⊥ = cc in absurd bad

pub no_answer : NoAnswerIsUnanswered
no_answer mode c camera stream o n journal journal_after turns req made turned last on new some =
    let shown : Shown c stream o.client on.client n.client on.setup made req =
    by_setup_end c stream o.client on.client n.client on.setup made turns req on.setup_end (some, subst (λ (k : Client). Kept k.asked []) (sym new) tt)
    on.set_up_by on.ends on.controlled
    in
    record {
      unanswered = shown.unanswered;
      sent =
          sent-append (setup_moves stream (set_up o.client 0) on.setup) (reader_moves c [] on.client made)
          ∙ (ap (λ l. l ++ moves_sent (reader_moves c [] on.client made)) (setup_sent_is stream (set_up o.client 0) on.setup)
          ∙ ap (λ l. setup_sent stream (set_up o.client 0) on.setup ++ l) (reader_sent_is c [] on.client n.client made on.controlled shown.fine));
      heard =
          heard-append (setup_moves stream (set_up o.client 0) on.setup) (reader_moves c [] on.client made)
          ∙ (ap (λ l. l ++ moves_heard (reader_moves c [] on.client made)) (setup_heard_is stream (set_up o.client 0) on.setup)
          ∙ (ap (λ l. datagrams (setup_heards on.setup) ++ l) (reader_heard_is c [] on.client made)
          ∙ sym (datagrams-append (setup_heards on.setup) (heards_in made))));
    }
