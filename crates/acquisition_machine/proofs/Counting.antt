-- Answers and counts.
use Rattle.std.proofs.Common.{◌≡◌, ℕ, List, [], ◌∷◌, refl}
use Rattle.std.specs.Prelude.{nat_lt, not, Option, Some, None, Result, Ok, Err, if◌then◌else◌}
use Rattle.std.proofs.lemmas.Bool.{cond_both}
use Rattle.stream_packets.specs.Packets.{StreamPacket, head_of, is_notice}
use Rattle.gvsp_wire.specs.declared.wire_error.WireError.{WireError}
use Rattle.gvsp_wire.specs.Reading.{reading}
use Rattle.block_image.specs.Kept.{fits}
use Rattle.acquisition_machine.specs.declared.config.AcqConfig.{AcqConfig}
use Rattle.acquisition_machine.specs.declared.need.Need.TheVariants.{Buffer, Done, Ignored}
use Rattle.acquisition_machine.specs.declared.need.Why.{Why}
use Rattle.acquisition_machine.specs.declared.need.Why.TheVariants.{Foreign, Late, Repeat, Misfit, Starved, Notice}
use Rattle.acquisition_machine.specs.Blocks.{Given, Open, Cause, keeping, is_new, due, ranges_asked, after_asking}
use Rattle.acquisition_machine.specs.Machine.{datagram, claimed, tick, stop, restart, State, Turn, bound, shown, open_at, put, stay_if, staying, unasked, quiet, ignored, noted, noted_in, keeps, wants, hears_open, hears_fitting, hears_packet, hears, opens_block, after_rounds, step}
use Rattle.acquisition_machine.specs.TurnLaws.{IsSettledFor, MachineSettles, IsAnswered, IsCounted, TurnsAreCounted, asked_by, ClaimsFollowBuffer}

-- What the turn of a datagram tells: its counts, whether a claim follows, and that a kept packet settles.
record Tells (c : AcqConfig) (s : State) (t : Turn) : Type 0 where
  pub answered : IsAnswered s.counts t
  pub asked : t.after.asked ≡ asked_by t.need
  pub requests : t.requests ≡ []
  pub settled : t.need ≡ Some Done → IsSettledFor c s.now t.after.opens

tells_ignored : (c : AcqConfig) (s : State) (why : Why) → Tells c s (ignored why (unasked s))
tells_ignored c s why = record {
  answered = record { answer = Ignored why; is_answer = refl; counts = refl };
  asked = refl;
  requests = refl;
  settled = λ e. absurd cc;
}

tells_noted : (c : AcqConfig) (s : State) (x : StreamPacket) (o : Open) (why : Why) → Tells c s (ignored why (noted x o (unasked s)))
tells_noted c s x o why = record {
  answered = record { answer = Ignored why; is_answer = refl; counts = refl };
  asked = refl;
  requests = refl;
  settled = λ e. absurd cc;
}

tells_noted_in : (c : AcqConfig) (s : State) (x : StreamPacket) (found : Option Open) (why : Why) → Tells c s (ignored why (noted_in x found (unasked s)))
tells_noted_in c s x None why = tells_ignored c s why
tells_noted_in c s x (Some o) why = tells_noted c s x o why

-- the first that stays isn't due
stay_step : (c : AcqConfig) (now : ℕ) (o : Open) (os rest : List Open) (d : Option Cause) → due c now o ≡ d → IsSettledFor c now rest → IsSettledFor c now (stay_if d (o ∷ os) rest)
stay_step c now o os rest None e s = e
stay_step c now o os rest (Some cause) e s = s

staying_first : (c : AcqConfig) (now : ℕ) (os : List Open) → IsSettledFor c now (staying c now os)
staying_first c now [] = tt
staying_first c now (o ∷ os) = stay_step c now o os (staying c now os) (due c now o) refl (staying_first c now os)

tells_keeps : (c : AcqConfig) (s : State) (x : StreamPacket) (o : Open) → Tells c s (keeps c x o (unasked s))
tells_keeps c s x o = record {
  answered = record { answer = Done; is_answer = refl; counts = refl };
  asked = refl;
  requests = refl;
  settled = λ e. staying_first c s.now (put (keeping s.now x o) s.opens);
}

tells_wants : (c : AcqConfig) (s : State) (b : ℕ) → Tells c s (wants c b (unasked s))
tells_wants c s b = record {
  answered = record { answer = Buffer b; is_answer = refl; counts = refl };
  asked = refl;
  requests = refl;
  settled = λ e. absurd cc;
}

tells_open : (c : AcqConfig) (s : State) (x : StreamPacket) (o : Open) (given : Option Given) → Tells c s (hears_open c x o given (unasked s))
tells_open c s x o None = tells_noted c s x o Starved
tells_open c s x o (Some g) =
    cond_both (is_new c.p o x) (keeps c x o (unasked s)) (ignored Repeat (noted x o (unasked s))) (Tells c s)
    (λ _. tells_keeps c s x o)
    (λ _. tells_noted c s x o Repeat)

tells_fitting : (c : AcqConfig) (s : State) (x : StreamPacket) (found : Option Open) → Tells c s (hears_fitting c x found (unasked s))
tells_fitting c s x None = tells_wants c s (head_of x).block
tells_fitting c s x (Some o) = tells_open c s x o o.given

tells_packet : (c : AcqConfig) (s : State) (x : StreamPacket) (found : Option Open) → Tells c s (hears_packet c x found (unasked s))
tells_packet c s x found =
    cond_both (is_notice x) (ignored Notice (noted_in x found (unasked s)))
    (if not (fits c.p x) then ignored Misfit (noted_in x found (unasked s)) else hears_fitting c x found (unasked s))
    (Tells c s)
    (λ _. tells_noted_in c s x found Notice)
    (λ _. cond_both (not (fits c.p x)) (ignored Misfit (noted_in x found (unasked s))) (hears_fitting c x found (unasked s)) (Tells c s)
    (λ _. tells_noted_in c s x found Misfit)
    (λ _. tells_fitting c s x found))

tells_datagram : (c : AcqConfig) (s : State) (r : Result StreamPacket WireError) → Tells c s (hears c r (unasked s))
tells_datagram c s (Err e) = tells_ignored c s (Foreign e)
tells_datagram c s (Ok x) =
    cond_both (nat_lt (head_of x).block (bound c s)) (ignored (Late (shown (bound c s))) (unasked s))
    (hears_packet c x (open_at (head_of x).block s.opens) (unasked s)) (Tells c s)
    (λ _. tells_ignored c s (Late (shown (bound c s))))
    (λ _. tells_packet c s x (open_at (head_of x).block s.opens))

tells : (c : AcqConfig) (s : State) (bytes : List ℕ) → Tells c s (step c s (datagram bytes))
tells c s bytes = tells_datagram c s (reading bytes)

pub datagrams_ask_nothing : (c : AcqConfig) (s : State) (bytes : List ℕ) → (step c s (datagram bytes)).requests ≡ []
datagrams_ask_nothing c s bytes = (tells c s bytes).requests

counted_claim : (c : AcqConfig) (s : State) (given : Option Given) (asked : Option ℕ) → s.asked ≡ asked → IsCounted (record s { asked = asked }) (claimed given) (quiet (opens_block given asked (unasked s)))
counted_claim c s given None e = (refl, refl)
counted_claim c s given (Some b) e = (refl, refl)

pub turns_are_counted : TurnsAreCounted
turns_are_counted c s (datagram bytes) = (tells c s bytes).answered
turns_are_counted c s (claimed given) = counted_claim c s given s.asked refl
turns_are_counted c s (tick moment) = (refl, refl)
turns_are_counted c s stop = (refl, refl)
turns_are_counted c s restart = (refl, refl)

claim_over : (s : State) (given : Option Given) (asked : Option ℕ) → (opens_block given asked (unasked s)).asked ≡ None
claim_over s given None = refl
claim_over s given (Some b) = refl

pub claims_follow_buffer : ClaimsFollowBuffer
claims_follow_buffer c s (datagram bytes) = (tells c s bytes).asked
claims_follow_buffer c s (claimed given) = claim_over s given s.asked
claims_follow_buffer c s (tick moment) = refl
claims_follow_buffer c s stop = refl
claims_follow_buffer c s restart = refl

-- a round makes no block complete or old
due-round : (c : AcqConfig) (now : ℕ) (o : Open) (rs : List (ℕ × ℕ)) → due c now (after_asking now o rs) ≡ due c now o
due-round c now o [] = refl
due-round c now o (r ∷ rs) = refl

settled_rounds : (c : AcqConfig) (now : ℕ) (os : List Open) → IsSettledFor c now os → IsSettledFor c now (after_rounds c now os)
settled_rounds c now [] s = tt
settled_rounds c now (o ∷ os) s = rw (due-round c now o (ranges_asked c now o)) s

pub machine_settles : MachineSettles
machine_settles = record {
  kept = λ c s bytes. (tells c s bytes).settled;
  told = λ c s moment. settled_rounds c (step c s (tick moment)).after.now (staying c (step c s (tick moment)).after.now s.opens)
      (staying_first c (step c s (tick moment)).after.now s.opens);
}
