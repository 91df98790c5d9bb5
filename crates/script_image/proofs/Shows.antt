-- What was done with a buffer that was taken, and the state before the first line.
use Rattle.std.proofs.Common.{◌≡◌, ◌≢◌, ℕ, ◌+◌, ◌<◌, ◌==◌, min, List, [], Bool, true, false, Option, Some, None, Result, refl, sym, ap, subst, ◌∙◌, arith}
use Rattle.std.specs.Prelude.{◌||◌, if◌then◌else◌}
use Rattle.frame_pictures.specs.declared.no_picture.NoPicture.{NoPicture}
use Rattle.frame_pictures.specs.declared.no_picture.NoPicture.TheVariants.{Taken, NoneOf}
use Rattle.script_runs.specs.declared.stop.Stop.{Stop}
use Rattle.script_runs.specs.declared.stop.Stop.TheVariants as stops
use Rattle.script_trace.specs.Standing.{first}
use Rattle.script_replay.specs.declared.script.Script.{Script}
use Rattle.script_replay.specs.Replays.{StandsFor}
use Rattle.script_image.specs.declared.image_end.ImageEnd.{ImageEnd}
use Rattle.script_image.specs.declared.image_end.ImageEnd.TheVariants as ends
use Rattle.script_image.specs.declared.wanted.Wanted.{Wanted}
use Rattle.script_image.specs.declared.wanted.Wanted.TheVariants.{One, All}
use Rattle.script_image.specs.Drawing.{DrawsTo}
use Rattle.script_image.specs.Ends.{IsInRange}
use Rattle.script_image.specs.Taking.{beginning}
use Rattle.script_image.specs.Showing.{ShowingState, Counts, IsShowing, IsBelow, DrawsIn, is_done, stop_by, last_end, stopped, ShowsThere, ShowsTaken}

-- ---- before the first line

begins_so : (w : Wanted) → IsInRange w → Counts w [] 0 false 0
begins_so (One k) some = (refl, some, refl)
begins_so All some = (refl, refl)

pub begins : (w : Wanted) (i : ShowingState) → IsInRange w → i.wanted ≡ w → i.script ≡ None → i.taken ≡ 0 → i.shown ≡ false → IsShowing w [] i beginning
begins w i some is none zero_taken unshown = record {
  same = is;
  script = subst (λ (o : Option Script). StandsFor o first) (sym none) tt;
  counts = subst (λ t. Counts w [] t i.shown 0) (sym zero_taken) (subst (λ b. Counts w [] 0 b 0) (sym unshown) (begins_so w some));
}

pub below_first : (w : Wanted) → IsInRange w → IsBelow w 0
below_first (One k) some = some
below_first All some = tt

-- ---- counts

below_one_at : (w : Wanted) (k taken : ℕ) → w ≡ One k → IsBelow w taken → taken < k
below_one_at w k taken is below = subst (λ v. IsBelow v taken) is below

pub below_one : (w : Wanted) (k taken : ℕ) → w ≡ One k → IsBelow w taken → taken < k
below_one = below_one_at

pub below_next : (w : Wanted) (k taken : ℕ) → w ≡ One k → IsBelow w taken → taken + 1 ≢ k → IsBelow w (taken + 1)
below_next w k taken is below other =
    let less : taken < k = below_one_at w k taken is below in
    let next : taken + 1 < k = omega (arith, less, other) in
    subst (λ v. IsBelow v (taken + 1)) (sym is) next

pub below_all : (w : Wanted) (taken : ℕ) → w ≡ All → IsBelow w taken
below_all w taken is = subst (λ v. IsBelow v taken) (sym is) tt

-- ---- a buffer

module _ (old new : ShowingState) (place : ℕ) (written written_after : Option (List ℕ)) (writes writes_after : ℕ) where
  pub one_last : (k : ℕ) (end : ImageEnd) → old.wanted ≡ One k → old.taken + 1 ≡ k → new.script ≡ old.script → new.wanted ≡ old.wanted → DrawsIn end old.script place written written_after writes writes_after
      → ShowsTaken (Some end) old new place written written_after writes writes_after
  one_last k end is last script wanted draws = record {
    script = script;
    wanted = wanted;
    did = subst (λ w. ShowsThere w (Some end) old new place written written_after writes writes_after) (sym is) (last, draws);
  }

  pub one_on : (k : ℕ) → old.wanted ≡ One k → old.taken + 1 ≢ k → new.taken ≡ old.taken + 1 → new.script ≡ old.script → new.wanted ≡ old.wanted → written_after ≡ written → writes_after ≡ writes
      → ShowsTaken None old new place written written_after writes writes_after
  one_on k is other counted script wanted same steady = record {
    script = script;
    wanted = wanted;
    did = subst (λ w. ShowsThere w None old new place written written_after writes writes_after) (sym is) (other, counted, same, steady);
  }

  pub each_on : (end : ImageEnd) (stop : Option ImageEnd) → old.wanted ≡ All → new.taken ≡ min (old.taken + 1) 4294967295 → stop ≡ stop_by end → new.shown ≡ (old.shown || is_done end)
      → new.script ≡ old.script → new.wanted ≡ old.wanted → DrawsIn end old.script place written written_after writes writes_after
      → ShowsTaken stop old new place written written_after writes writes_after
  each_on end stop is counted stops marked script wanted draws = record {
    script = script;
    wanted = wanted;
    did = subst (λ w. ShowsThere w stop old new place written written_after writes writes_after) (sym is) (counted, (end, stops, marked, draws));
  }

-- ---- faults

draws_steady : (end : ImageEnd) (shown : Result (List ℕ) NoPicture) (written written_after : Option (List ℕ)) (writes writes_after : ℕ) → DrawsTo end shown written written_after writes writes_after
    → end ≢ ends.WriteFault → writes_after ≡ writes
draws_steady ends.Done shown written written_after writes writes_after d other = d.1
draws_steady (ends.NoPicture why) shown written written_after writes writes_after d other = d.2
draws_steady (ends.BadLine number kind) shown written written_after writes writes_after d other = absurd d
draws_steady ends.ReadFault shown written written_after writes writes_after d other = absurd d
draws_steady ends.WriteFault shown written written_after writes writes_after d other = absurd (other refl)
draws_steady ends.NoMemory shown written written_after writes writes_after d other = d.1

draws_read : (end : ImageEnd) (shown : Result (List ℕ) NoPicture) (written written_after : Option (List ℕ)) (writes writes_after : ℕ) → DrawsTo end shown written written_after writes writes_after
    → end ≢ ends.ReadFault
draws_read end shown written written_after writes writes_after d is = subst (λ e. DrawsTo e shown written written_after writes writes_after) is d

stop_read : (end : ImageEnd) → end ≢ ends.ReadFault → stop_by end ≢ Some ends.ReadFault
stop_read ends.Done other e = cc
stop_read (ends.NoPicture why) other e = cc
stop_read (ends.BadLine number kind) other e = cc
stop_read ends.ReadFault other e = other refl
stop_read ends.WriteFault other e = cc
stop_read ends.NoMemory other e = cc

some_end : (x y : ImageEnd) → Some x ≡ Some y → x ≡ y
some_end x y e = cc

module _ (old new : ShowingState) (place : ℕ) (written written_after : Option (List ℕ)) (writes writes_after : ℕ) where
  there_steady : (w : Wanted) (stop : Option ImageEnd) → ShowsThere w stop old new place written written_after writes writes_after → stop ≢ Some ends.WriteFault → writes_after ≡ writes
  there_steady (One k) None there other = there.3
  there_steady (One k) (Some end) there other = draws_steady end _ written written_after writes writes_after there.1.there.drawn (λ e. other (ap (λ (x : ImageEnd). Some x) e))
  there_steady All stop (counted, (end, stops, now, draws)) other =
      draws_steady end _ written written_after writes writes_after draws.there.drawn (λ e. other (stops ∙ ap stop_by e))

  there_read : (w : Wanted) (stop : Option ImageEnd) → ShowsThere w stop old new place written written_after writes writes_after → stop ≢ Some ends.ReadFault
  there_read (One k) None there e = cc
  there_read (One k) (Some end) there e = draws_read end _ written written_after writes writes_after there.1.there.drawn (some_end end ends.ReadFault e)
  there_read All stop (counted, (end, stops, now, draws)) e = stop_read end (draws_read end _ written written_after writes writes_after draws.there.drawn) (sym stops ∙ e)

  pub shows_steady : (stop : Option ImageEnd) → ShowsTaken stop old new place written written_after writes writes_after → stop ≢ Some ends.WriteFault → writes_after ≡ writes
  shows_steady stop shows other = there_steady old.wanted stop shows.did other

  pub shows_read : (stop : Option ImageEnd) → ShowsTaken stop old new place written written_after writes writes_after → stop ≢ Some ends.ReadFault
  shows_read stop shows e = there_read old.wanted stop shows.did e

-- behind the last line nothing failed
last_not : (w : Wanted) (taken : ℕ) (shown : Bool) (other : ImageEnd) → other ≢ ends.Done → ((why : NoPicture) → other ≢ ends.NoPicture why) → last_end w taken shown ≢ other
last_not (One k) taken shown other done none e = none _ (sym e)
last_not All taken true other done none e = done (sym e)
last_not All taken false other done none e = go (taken == 0) e where
  go : (b : Bool) → (if b then ends.NoPicture (Taken 0) else ends.NoPicture (NoneOf taken)) ≡ other → ⊥
  go true h = none _ (sym h)
  go false h = none _ (sym h)

pub last_read : (w : Wanted) (taken : ℕ) (shown : Bool) → Some (last_end w taken shown) ≢ Some ends.ReadFault
last_read w taken shown e = last_not w taken shown ends.ReadFault (λ d. cc) (λ why d. cc) (some_end _ _ e)

-- and where a line wasn't run no read failed
pub stopped_read : (number : ℕ) (stop : Stop) → Some (stopped number stop) ≢ Some ends.ReadFault
stopped_read number (stops.Refused kind) e = cc
stopped_read number stops.NoMemory e = cc
