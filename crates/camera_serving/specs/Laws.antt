-- What the order of the turns comes to.
use Rattle.std.specs.Prelude.{◌≡◌, ⊤, ℕ, ◌+◌, ◌*◌, ◌<◌, ◌≤◌, false, List, [], ◌∷◌, ◌++◌, length, Some, is_none}
use Rattle.camera_serving.specs.declared.kinds.TurnKind.TheVariants.{Serving, Framing}
use Rattle.camera_serving.specs.Turns.{Turn, period, latest_moment, last_frame, MOST_SERVING, serving_left, next_kind, AreInOrder}

-- A frame turn comes where the clock had risen by the period since the frame turn before, and no serving turn had still to
-- come before it.
pub record ComesInTime (rate : ℕ) (t : Turn) (before : List Turn) : Type 0 where
  pub time : (begun : ℕ) → last_frame before ≡ Some begun → begun + period rate ≤ latest_moment before
  pub served : serving_left before ≡ 0

abbrev pub FrameTurnsAreApart : ℕ → Turn → List Turn → Type 0
FrameTurnsAreApart rate t before = AreInOrder rate (t ∷ before) → t.kind ≡ Framing → ComesInTime rate t before

-- the least number of milliseconds that, so many times a second, fill it
pub record IsRoundedUp (rate : ℕ) : Type 0 where
  pub enough : 1000 ≤ rate * period rate
  pub least : (n : ℕ) → 1000 ≤ rate * n → period rate ≤ n

-- serving turns, each of which got a datagram
abbrev pub AreServed : List Turn → Type 0
AreServed [] = ⊤
AreServed (t ∷ before) = AreServed before × (t.kind ≡ Serving) × (is_none t.served.arrived ≡ false)

-- At the beginning, and behind a frame turn, all that waits is served before the next frame turn, 64 datagrams at most.
abbrev pub AllIsServedFirst : ℕ → List Turn → List Turn → Type 0
AllIsServedFirst rate before ts =
    serving_left before ≡ MOST_SERVING → AreServed ts → length ts < MOST_SERVING → next_kind rate (ts ++ before) ≡ Serving
