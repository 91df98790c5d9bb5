-- The two steps of a split, and those of a join, put together.
use Rattle.std.proofs.Common.{◌≡◌, [], refl, sym, subst}
use Rattle.buffer_words.specs.declared.view.View.{View}
use Rattle.buffer_words.specs.Rule.{Slots}
use Rattle.buffer_words.specs.Plays.{Seated, stays_idle, newborn, joining, Ends}
use Rattle.buffer_words.specs.Meeting.{IsBearing, HasBorne, HasParted, IsJoining, HasMet}
use Rattle.buffer_words.proofs.Meets.{joined, ended_at}
use Rattle.buffer_words.specs.Plays.{number_in, seen_in}

pub is_bearing : (before after : Seated) → HasBorne before after → IsBearing after
is_bearing before after borne = record { number = before.0.number; seen = after.0.seen; child = borne.child; view = borne.bears.view }

-- the two passes after the cut
pub has_cut : (before me : Seated) → HasBorne before me → HasParted before (stays_idle me.0, me.1) (newborn me.0, [])
has_cut before me borne =
    subst (λ (v : View). HasParted before (stays_idle v, me.1) (newborn v, [])) (sym borne.bears.view) (record {
      splits = record { entered = borne.bears.entered; slots = borne.bears.slots };
      new = refl;
      unborn = borne.bears.unborn;
    })

pub is_joining : (stays other : View) (slots : Slots) (me : Seated) → me ≡ (joining stays other, slots) → IsJoining me
is_joining stays other slots me is = record { stays = stays; other = other; slots = slots; is = is }

-- what the load of a join tells
pub has_ended : (me stays after : Seated) (other : View) → Ends me (number_in me.0.stage) (seen_in me.0.stage) after → me ≡ (joining stays.0 other, stays.1) → HasMet stays other after
has_ended me stays after other told is =
    let ends = ended_at me stays.0 other stays.1 after is told in
    record { joins = joined stays.0 other stays.1 after ends; begins = ends.begins; own = ends.own; ended = ends.ended }

-- the load told so of whatever was joined
pub has_met : (me stays after : Seated) (other : View) → ((s : Seated) (w : View) → me ≡ (joining s.0 w, s.1) → HasMet s w after) → me ≡ (joining stays.0 other, stays.1) → HasMet stays other after
has_met me stays after other met is = met stays other is
