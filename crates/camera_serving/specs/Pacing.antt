-- What the code keeps of the turns that were made.
use Rattle.std.specs.Prelude.{◌≡◌, ℕ, List, Option, Some}
use Rattle.camera_serving.specs.declared.kinds.TurnKind.{TurnKind}
use Rattle.camera_serving.specs.declared.kinds.Made.{Made}
use Rattle.camera_serving.specs.declared.pacing.Pace.{Pace}
use Rattle.camera_serving.specs.Turns.{Turn, period, latest_moment, frame_moment, last_frame, left_by, serving_left, look_moment, last_look}

pub record IsPace (rate : ℕ) (made : List Turn) (p : Pace) : Type 0 where
  pub period_is : p.period ≡ period rate
  pub framed : p.framed ≡ last_frame made
  pub latest : p.latest ≡ latest_moment made
  pub left : p.left ≡ serving_left made
  pub looked : p.looked ≡ last_look made

-- behind a turn of this kind that told this
abbrev pub passed : Pace → TurnKind → Made → Pace
passed p kind made = record p {
  framed = frame_moment kind made.moment p.framed;
  latest = made.moment;
  left = left_by kind made.is_quiet p.left;
  looked = Some (look_moment p.looked p.latest made.moment);
}
