use Rattle.std.proofs.Common.{◌≡◌, ℕ, false, length, replicate, Err, refl, ap, ◌∙◌, arith}
use Rattle.std.proofs.lemmas.List.{length-replicate}
use Rattle.gev_types.specs.Filling.{Filling, empty_record}
use Rattle.gentl_types.specs.declared.errors.GcError.TheVariants.{OutOfMemory, InvalidParameter}
use Rattle.board_calls.specs.Calls.{LooksOut, IsSize, Announces}
use Rattle.buffer_words.specs.Passes.{Token, down}
use Rattle.buffer_words.specs.Several.{EntersOf}
use Rattle.buffer_words.proofs.Retries.{hands_then}
use Rattle.gentl_stream.specs.Announced.{fresh}
use Rattle.gentl_stream.proofs.Announcing.{announce_done, announce_full}
use Rattle.gentl_stream.proofs.Giving.{brought_gone}
use Rattle.gentl_stream.proofs.announce.ds_announce.Goals as goal
use Rattle.gentl_stream.proofs.announce.ds_announce.Goals.{then-size-eq0-via-then-size-eq0, then-size-eq0-via-else-size-eq0+then-size-from}

is_fresh : (f : Filling) (size : ℕ) → f.bytes ≡ replicate size 0 → f.rec ≡ empty_record → f ≡ fresh size
is_fresh f size bytes rec = grind arith

looked : (s t : Token) (size : ℕ) → IsSize size → EntersOf s (LooksOut false) t → EntersOf s (Announces size (Err OutOfMemory)) t
looked s t size fits look = record { events = look.events; kind = (fits, look.kind); enters = look.enters }

unfit : (s t : Token) (size : ℕ) → (IsSize size → ⊥) → EntersOf s (LooksOut false) t → EntersOf s (Announces size (Err (InvalidParameter size))) t
unfit s t size unfits look = record { events = look.events; kind = (refl, unfits, look.kind); enters = look.enters }

pub lay-requires : goal.lay-requires
lay-requires c = record {
  table = c.in-Some.ensures.entries.enters.table ∙ c.look_closed.ensures.table ∙ c.requires.table;
  holds = record { filling = c.in-Ok.buf; is = c.in-Some.ensures.hands.has.here };
}

pub returns-then-size-eq0-clause-entries : goal.returns-then-size-eq0-clause-entries
returns-then-size-eq0-clause-entries c =
    let unfits : IsSize c.args.size → ⊥ =
    λ fits. elim c.then-size-eq0.branch [ then-size-eq0-via-then-size-eq0 w ↦ absurd (omega (arith, fits.0)) | then-size-eq0-via-else-size-eq0+then-size-from w ↦ absurd (omega (arith, fits.1)) ] in
    unfit _ _ c.args.size unfits c.if-look_closed.ensures.entries

pub returns-in-Err-clause-entries : goal.returns-in-Err-clause-entries
returns-in-Err-clause-entries c = looked _ _ c.args.size (omega arith, omega arith) c.if-look_closed.ensures.entries

pub returns-in-Some-clause-entries : goal.returns-in-Some-clause-entries
returns-in-Some-clause-entries c =
    let size_is : length c.in-Ok.buf.bytes ≡ c.args.size = ap length c.in-Ok.ensures.bytes ∙ length-replicate c.args.size 0 in
    announce_done _ _ _ _ _ c.args.size c.in-Some.id size_is (omega arith, omega arith) c.if-look_closed.ensures.entries c.in-Some.ensures.entries c.lay.ensures.entry

pub returns-in-None-clause-entries : goal.returns-in-None-clause-entries
returns-in-None-clause-entries c =
    let size_is : length c.in-Ok.buf.bytes ≡ c.args.size = ap length c.in-Ok.ensures.bytes ∙ length-replicate c.args.size 0 in
    announce_full _ _ _ _ c.args.size size_is (omega arith, omega arith) c.if-look_closed.ensures.entries c.in-None.ensures.entries

pub returns-in-None-clause-hands : goal.returns-in-None-clause-hands
returns-in-None-clause-hands c = hands_then _ _ _ c.if-look_closed.ensures.hands c.in-None.ensures.hands

pub returns-in-Some-clause-hands : goal.returns-in-Some-clause-hands
returns-in-Some-clause-hands c = hands_then _ _ _ c.if-look_closed.ensures.hands (brought_gone _ _ _ _ _ c.in-Some.ensures.hands c.lay.ensures.hands)

pub returns-in-Some-clause-buffer : goal.returns-in-Some-clause-buffer
returns-in-Some-clause-buffer c = record {
  middle = c.enrol_lowest.new.pass;
  fresh_there = c.in-Some.ensures.hands.has.here ∙ ap down (is_fresh _ c.args.size c.in-Ok.ensures.bytes c.in-Ok.ensures.rec);
  lays = c.lay.ensures.entry;
}
