-- What came is brought to its lane, and to no other.
use Rattle.std.proofs.Common.{◌≡◌, ℕ, ◌==◌, Bool, true, false, List, Some, None, refl, sym, ◌∙◌, subst, arith, eq-eqb, ne_eqb}
use Rattle.std.specs.Prelude.{if◌then◌else◌}
use Rattle.gev_lanes.specs.declared.parts.ReaderLane.{ReaderLane}
use Rattle.gev_lanes.specs.Messages.{heard}
use Rattle.gev_lanes.specs.Acts.{Tries, Hears, DoesAt}
use Rattle.gev_links.specs.Links.{Address, Answer, nothing, failed, came}
use Rattle.lane_reader.specs.LanesTurns.{lane_of, part_of, Each}
use Rattle.lane_reader.proofs.Looping.{each_same, each_at}

chosen : (b : Bool) (bytes : List ℕ) (moment : ℕ) (done : Bool) (s t : ReaderLane) → b ≡ true → Tries (record { moment = moment; says = heard bytes }) done s t
    → Hears (if b then Some bytes else None) moment s t
chosen true bytes moment done s t is tries = record { brought = done; tries = tries }
chosen false bytes moment done s t is tries = let bad : ⊥ = cc in absurd bad

not_chosen : (b : Bool) (bytes : List ℕ) (moment : ℕ) (s : ReaderLane) → b ≡ false → Hears (if b then Some bytes else None) moment s s
not_chosen true bytes moment s is = let bad : ⊥ = cc in absurd bad
not_chosen false bytes moment s is = refl

pub heard_at : (n moment lane : ℕ) (bytes : List ℕ) (peer : Address) (done : Bool) (ss ts : List ReaderLane) → lane ≡ lane_of n bytes
    → DoesAt (Tries (record { moment = moment; says = heard bytes }) done) lane ss ts → Each (λ k. Hears (part_of n k (came bytes peer)) moment) 0 ss ts
heard_at n moment lane bytes peer done ss ts is one =
    each_at (λ k. Hears (part_of n k (came bytes peer)) moment) lane 0 lane ss ts (omega arith)
    (record {
      side = one.side;
      at = one.at;
      after = one.after;
      does = chosen (lane_of n bytes == lane) bytes moment done one.side one.after (eq-eqb (lane_of n bytes) lane (sym is)) one.does;
      is = one.is;
    })
    (λ j s other. not_chosen (lane_of n bytes == j) bytes moment s (ne_eqb (lane_of n bytes) j (λ e. other (sym e ∙ sym is))))

-- nothing came
pub heard_nothing : (n moment : ℕ) (answer : Answer) (ss : List ReaderLane) → answer ≡ nothing → Each (λ k. Hears (part_of n k answer) moment) 0 ss ss
heard_nothing n moment answer ss is = subst (λ a. Each (λ k. Hears (part_of n k a) moment) 0 ss ss) (sym is)
    (each_same (λ k. Hears (part_of n k nothing) moment) 0 ss (λ m s. refl))

pub heard_failed : (n moment : ℕ) (answer : Answer) (ss : List ReaderLane) → answer ≡ failed → Each (λ k. Hears (part_of n k answer) moment) 0 ss ss
heard_failed n moment answer ss is = subst (λ a. Each (λ k. Hears (part_of n k a) moment) 0 ss ss) (sym is)
    (each_same (λ k. Hears (part_of n k failed) moment) 0 ss (λ m s. refl))
