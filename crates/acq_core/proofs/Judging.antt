-- What an assembly's answers are to the block.
use Rattle.std.proofs.Common.{◌≡◌, ℕ, List, [], ◌∷◌, ◌++◌, Bool, true, false, refl, sym, ap, subst, ◌∙◌}
use Rattle.std.specs.Prelude.{not, Option, Some, None, if◌then◌else◌}
use Rattle.gev_types.specs.declared.block_account.Cause.{Cause}
use Rattle.gev_types.specs.Filling.{Filling}
use Rattle.stream_packets.specs.Packets.{StreamPacket, is_notice}
use Rattle.block_image.specs.Kept.{fits}
use Rattle.missing_ranges.specs.Accounts.{retired_image}
use Rattle.block_assembly.specs.declared.progress.Progress.{Progress}
use Rattle.block_assembly.specs.declared.verdict.Verdict.TheVariants.{Kept as is_kept, Repeat as is_repeat, Misfit as is_misfit, Notice as is_refused}
use Rattle.block_assembly.specs.Assembly.{AssemblyStands}
use Rattle.block_assembly.specs.Verdicts.{verdict_of}
use Rattle.acquisition_machine.specs.declared.need.Need.{Need}
use Rattle.acquisition_machine.specs.declared.need.Need.TheVariants.{Done, Ignored}
use Rattle.acquisition_machine.specs.declared.need.Why.TheVariants.{Repeat, Misfit, Notice}
use Rattle.acquisition_machine.specs.declared.retired.Retired.{Retired}
use Rattle.acquisition_machine.specs.Blocks.{Given, Open, hearing, is_new, given_back}
use Rattle.acq_core.specs.declared.slot.Hold.{Hold}
use Rattle.acq_core.specs.declared.slot.Hold.TheVariants.{Without, With}
use Rattle.acq_core.specs.declared.slot.Slot.{Slot}
use Rattle.acq_core.specs.declared.slot.Spare.{Spare}
use Rattle.acq_core.specs.Standing.{HoldsFor, SlotStands}
use Rattle.acq_core.specs.Hearing.{need_of_verdict, need_without, need_with, need_given, need_in}
use Rattle.acq_core.proofs.Acting.{append_nil}

verdict_step : (v w u : Bool) → need_of_verdict (if v then is_refused else if w then is_misfit else if u then is_kept else is_repeat) ≡ (if v then Ignored Notice else if w then Ignored Misfit else if u then Done else Ignored Repeat)
verdict_step true w u = refl
verdict_step false true u = refl
verdict_step false false true = refl
verdict_step false false false = refl

verdict_need : (p : ℕ) (o : Open) (x : StreamPacket) → need_of_verdict (verdict_of p o.block o.heard x) ≡ need_with p o x
verdict_need p o x = verdict_step (is_notice x) (not (fits p x)) (is_new p o x)

need_filling : (p : ℕ) (o : Open) (x : StreamPacket) (place : ℕ) (a : Progress) (given : Option Given) (need : Need) → HoldsFor p o.block (With place a) given o.heard → ((q b size : ℕ) (heard : List StreamPacket) → AssemblyStands a q b size heard → need ≡ need_of_verdict (verdict_of q b heard x)) → need ≡ need_given p o given x
need_filling p o x place a None need h f = absurd h
need_filling p o x place a (Some g) need h f = f p o.block g.size o.heard h.stands ∙ verdict_need p o x

-- the answer to a packet of a block with a buffer
pub need_stands : (p : ℕ) (slot : Slot) (o : Open) (x : StreamPacket) (place : ℕ) (a : Progress) (need : Need) → SlotStands p slot o → slot.hold ≡ With place a → ((q b size : ℕ) (heard : List StreamPacket) → AssemblyStands a q b size heard → need ≡ need_of_verdict (verdict_of q b heard x)) → need ≡ need_in p o x
need_stands p slot o x place a need s e f =
    need_filling p o x place a o.given need (subst (λ h. HoldsFor p o.block h o.given o.heard) e s.hold) f

need_nothing : (p : ℕ) (o : Open) (x : StreamPacket) (spare : Spare) (given : Option Given) (need : Need) → HoldsFor p o.block (Without spare) given o.heard → need ≡ need_without p x → need ≡ need_given p o given x
need_nothing p o x spare None need h is = is
need_nothing p o x spare (Some g) need h is = absurd h

-- the answer to a packet of a block without one
pub need_starved : (p : ℕ) (slot : Slot) (o : Open) (x : StreamPacket) (spare : Spare) (need : Need) → SlotStands p slot o → slot.hold ≡ Without spare → need ≡ need_without p x → need ≡ need_in p o x
need_starved p slot o x spare need s e is =
    need_nothing p o x spare o.given need (subst (λ h. HoldsFor p o.block h o.given o.heard) e s.hold) is

holds_nothing : (p b : ℕ) (spare : Spare) (given : Option Given) (heard more : List StreamPacket) → HoldsFor p b (Without spare) given heard → HoldsFor p b (Without spare) given more
holds_nothing p b spare None heard more h = h
holds_nothing p b spare (Some g) heard more h = absurd h

-- which it doesn't keep
pub hears_starved : (p : ℕ) (slot : Slot) (o : Open) (x : StreamPacket) (spare : Spare) → SlotStands p slot o → slot.hold ≡ Without spare → SlotStands p slot (hearing x o)
hears_starved p slot o x spare s e = record {
  block = s.block;
  hold = subst (λ h. HoldsFor p o.block h o.given (hearing x o).heard) (sym e)
      (holds_nothing p o.block spare o.given o.heard (hearing x o).heard (subst (λ h. HoldsFor p o.block h o.given o.heard) e s.hold));
  last = s.last;
  rounds = s.rounds;
  round_at = s.round_at;
}

fill_filling : (cause : Cause) (p : ℕ) (o : Open) (place : ℕ) (a : Progress) (given : Option Given) (buf : Filling) (old new : List Retired) → HoldsFor p o.block (With place a) given o.heard → ((q b size : ℕ) (heard : List StreamPacket) → AssemblyStands a q b size heard → buf ≡ retired_image cause q b size heard) → new ≡ old ++ record { place = place; buf = buf } ∷ [] → new ≡ old ++ given_back p cause o given
fill_filling cause p o place a None buf old new h f e = absurd h
fill_filling cause p o place a (Some g) buf old new h f e =
    e ∙ ap (λ k. old ++ record { place = k; buf = buf } ∷ []) h.place
    ∙ ap (λ b. old ++ record { place = g.place; buf = b } ∷ []) (f p o.block g.size o.heard h.stands)

-- what a block with a buffer gives back
pub release_fills : (cause : Cause) (p : ℕ) (hold : Hold) (o : Open) (place : ℕ) (a : Progress) (buf : Filling) (old new : List Retired) → HoldsFor p o.block hold o.given o.heard → hold ≡ With place a → ((q b size : ℕ) (heard : List StreamPacket) → AssemblyStands a q b size heard → buf ≡ retired_image cause q b size heard) → new ≡ old ++ record { place = place; buf = buf } ∷ [] → new ≡ old ++ given_back p cause o o.given
release_fills cause p hold o place a buf old new s e f is =
    fill_filling cause p o place a o.given buf old new (subst (λ h. HoldsFor p o.block h o.given o.heard) e s) f is

fill_nothing : (cause : Cause) (p : ℕ) (o : Open) (spare : Spare) (given : Option Given) (items : List Retired) → HoldsFor p o.block (Without spare) given o.heard → items ≡ items ++ given_back p cause o given
fill_nothing cause p o spare None items h = sym (append_nil items)
fill_nothing cause p o spare (Some g) items h = absurd h

-- a block without a buffer gives none back
pub release_nothing : (cause : Cause) (p : ℕ) (hold : Hold) (o : Open) (spare : Spare) (items : List Retired) → HoldsFor p o.block hold o.given o.heard → hold ≡ Without spare → items ≡ items ++ given_back p cause o o.given
release_nothing cause p hold o spare items s e = fill_nothing cause p o spare o.given items (subst (λ h. HoldsFor p o.block h o.given o.heard) e s)
