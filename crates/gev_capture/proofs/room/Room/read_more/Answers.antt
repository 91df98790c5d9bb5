-- What was held stays, and what came stands behind it.
use Rattle.std.proofs.Common.{◌≡◌, ℕ, ◌+◌, ◌-◌, ◌≤◌, ◌<◌, List, length, take, drop, Result, Ok, Err, OnErr, sym, ap, ◌∙◌, arith}
use Rattle.std.specs.List.{between}
use Rattle.std.proofs.lemmas.List.Edits.{length-between}
use Rattle.std.proofs.lemmas.Slice.{between_is}
use Rattle.gev_script.proofs.Windows.{holds_more}
use Rattle.gev_capture.specs.Reading.{IsRoom}
use Rattle.gev_capture.proofs.room.Room.read_more.Goals as goal

held_size : (room held : List ℕ) (start end : ℕ) → IsRoom room start end → between start end room ≡ held → length held ≤ 1048576 → end - start ≤ 1048576
held_size room held start end is view few = omega (arith, length-between room start end (omega (arith, is.size, is.within)), ap length view, few)

held_still : (old new : List ℕ) (start end : ℕ) → take end new ≡ take end old → between start end new ≡ between start end old
held_still old new start end same = between_is new start end ∙ ap (drop start) same ∙ sym (between_is old start end)

room_with : (room : List ℕ) (start end size count : ℕ) → length room ≡ 1114112 → end ≡ start + size → end + count ≤ 1114112 → IsRoom room start (end + count)
room_with room start end size count whole order few = record { size = whole; order = omega arith; within = few }

room_still : (room : List ℕ) (start end size : ℕ) → length room ≡ 1114112 → end ≡ start + size → end < 1114112 → IsRoom room start end
room_still room start end size whole order few = record { size = whole; order = omega arith; within = omega arith }

few_held : (room : List ℕ) (start end : ℕ) → IsRoom room start end → length (between start end room) ≤ 1114112
few_held room start end is = omega (arith, length-between room start end (omega (arith, is.size, is.within)), is.within)

on_err : {T E : Type 0} (result : Result T E) (P : Type 0) → P → OnErr result P
on_err (Ok x) P p = tt
on_err (Err e) P p = p

pub make_room-start-requires-clause-size : goal.make_room-start-requires-clause-size
make_room-start-requires-clause-size g c = omega (arith, c.self.invariant.size)

pub make_room-start-requires-clause-order : goal.make_room-start-requires-clause-order
make_room-start-requires-clause-order g c = c.self.invariant.order

pub make_room-start-requires-clause-within : goal.make_room-start-requires-clause-within
make_room-start-requires-clause-within g c = c.self.invariant.within

pub make_room-start-requires-clause-short : goal.make_room-start-requires-clause-short
make_room-start-requires-clause-short g c =
    held_size c.self.inside.room.items c.args.self.now c.self.inside.start c.self.inside.end c.self.invariant c.self.view_is c.requires

pub read_room-requires-clause-size : goal.read_room-requires-clause-size
read_room-requires-clause-size g c = c.make_room-start.ensures.size

pub read_room-requires-clause-some : goal.read_room-requires-clause-some
read_room-requires-clause-some g c = c.make_room-start.ensures.some

pub invariant_of-self : goal.invariant_of-self
invariant_of-self g c =
    room_still c.read_room.new.room.items c.make_room-start.result.0 c.make_room-start.result.1 _ (omega (arith, c.read_room.ensures.size)) c.make_room-start.ensures.length
    c.make_room-start.ensures.some

pub returns-in_err-count-clause-kept : goal.returns-in_err-count-clause-kept
returns-in_err-count-clause-kept g c =
    on_err c.from_residual.result _
    (held_still c.make_room-start.new.room.items c.read_room.new.room.items c.make_room-start.result.0 c.make_room-start.result.1 c.read_room.ensures.front
    ∙ c.make_room-start.ensures.kept
    ∙ c.self.view_is)

pub returns-in_err-count-clause-untaken : goal.returns-in_err-count-clause-untaken
returns-in_err-count-clause-untaken g c = on_err c.from_residual.result _ c.in_err-count.ensures.untaken

pub returns-in_err-count-clause-failed : goal.returns-in_err-count-clause-failed
returns-in_err-count-clause-failed g c = on_err c.from_residual.result _ c.in_err-count.ensures.failed

pub returns-in_err-count-clause-never_falls : goal.returns-in_err-count-clause-never_falls
returns-in_err-count-clause-never_falls g c = c.read_room.ensures.never_falls

pub returns-in_err-count-clause-few : goal.returns-in_err-count-clause-few
returns-in_err-count-clause-few g c = few_held c.read_room.new.room.items c.make_room-start.result.0 c.make_room-start.result.1 (invariant_of-self g c)

pub invariant_of-self-2 : goal.invariant_of-self-2
invariant_of-self-2 g c =
    room_with c.read_room.new.room.items c.make_room-start.result.0 c.make_room-start.result.1 _ c.in_ok-count.count (omega (arith, c.read_room.ensures.size)) c.make_room-start.ensures.length
    c.in_ok-count.ensures.count

pub returns-clause-more : goal.returns-clause-more
returns-clause-more g c =
    holds_more (g.S.Source.left c.args.source.now) (g.S.Source.left c.read_room.new.source) c.args.self.now
    c.make_room-start.new.room.items c.read_room.new.room.items c.make_room-start.result.0 c.make_room-start.result.1 c.in_ok-count.count
    (c.make_room-start.ensures.kept ∙ c.self.view_is)
    (omega (arith, c.make_room-start.ensures.length))
    (omega (arith, c.in_ok-count.ensures.count, c.read_room.ensures.size))
    c.read_room.ensures.front
    c.in_ok-count.ensures.given
    c.in_ok-count.ensures.spent

pub returns-clause-no_fault : goal.returns-clause-no_fault
returns-clause-no_fault g c = c.in_ok-count.ensures.no_fault

pub returns-clause-never_falls : goal.returns-clause-never_falls
returns-clause-never_falls g c = c.read_room.ensures.never_falls

pub returns-clause-few : goal.returns-clause-few
returns-clause-few g c = few_held c.read_room.new.room.items c.make_room-start.result.0 _ (invariant_of-self-2 g c)
