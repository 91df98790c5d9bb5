-- What the receiver makes of a datagram, and of a moment.
use Rattle.std.proofs.Common.{◌≡◌, inl, inr, ℕ, ◌^◌, ◌<◌, List, [], ◌∷◌, Bool, true, false, Option, Some, None, Result, Ok, Err, refl, sym, subst, ◌∙◌, arith}
use Rattle.std.specs.Prelude.{◌==◌, if◌then◌else◌, IfSome}
use Rattle.std.specs.List.{AllByRecursion}
use Rattle.board_machine.specs.Machine.{Item}
use Rattle.acquisition_machine.specs.Blocks.{Given}
use Rattle.stream_packets.specs.Packets.{StreamPacket}
use Rattle.gvsp_wire.specs.declared.wire_error.WireError.{WireError}
use Rattle.gvsp_wire.specs.Reading.{reading, ok_of}
use Rattle.acquisition_machine.specs.Machine as turns
use Rattle.acquisition_machine.specs.Machine.{datagram, claimed, State, Turn, unasked, opens_block, step}
use Rattle.acquisition_machine.specs.TurnLaws.{asked_by}
use Rattle.acquisition_machine.proofs.Turned.{turned}
use Rattle.acquisition_machine.proofs.Window.{step_sound}
use Rattle.script_trace.specs.StreamLines.{outcome}
use Rattle.world_laws.specs.Receiver.{Receiver, soak_config, told, told_again, claims, claim_of, hears, takes_one, takes_each}
use Rattle.world_laws.specs.Tail.{IsRecent}
use Rattle.world_laws.proofs.TailBlocks.{has_others, IsKnown, Left, left_from, mid_of, IsOf, Standing, Follows, follows_itself, Told, told_datagram}

-- ---- a datagram

claim_leaves : (s : State) (given : Option Given) (asked : Option ℕ) → (opens_block given asked (unasked s)).now ≡ s.now
claim_leaves s given None = refl
claim_leaves s given (Some b) = refl

claim_stands : (now : ℕ) (s : State) (given : Option Given) → ((b : ℕ) → s.asked ≡ Some b → b < 2 ^ 64) → Standing now s
    → Standing now (step soak_config s (claimed given)).after
claim_stands now s given low st = record {
  sound = step_sound soak_config s (claimed given) (omega arith) st.sound;
  recent = subst (λ (n : ℕ). AllByRecursion (IsRecent n) t.after.opens) st.now_is l.recent;
  now_is = claim_leaves s given s.asked ∙ st.now_is;
}
  where
    t : Turn
    t = step soak_config s (claimed given)

    recent : AllByRecursion (IsRecent s.now) s.opens
    recent = subst (λ (n : ℕ). AllByRecursion (IsRecent n) s.opens) (sym st.now_is) st.recent

    l : Left s (claimed given) t.after
    l =
        let d = turned soak_config s (claimed given) (omega arith) st.sound in
        left_from s (claimed given) t d.mid d.rest d.floor (mid_of s st.sound recent low d.changed) d.parts d.opens

-- a datagram of blocks whose ids have 64 bits
pub hears_stands : (P : ℕ → Type 0) (now : ℕ) (r : Receiver) (bytes : List ℕ) → ((b : ℕ) → P b → b < 2 ^ 64) → IsOf P bytes → Standing now r.acquisition
    → Standing now (hears r bytes).acquisition
hears_stands P now r bytes low h st = either (r.board.run == 1)
  where
    first : Told P now r.acquisition (step soak_config r.acquisition (datagram bytes))
    first = told_datagram P now r.acquisition bytes h st

    again : (asked : Option ℕ) → asked_by (step soak_config r.acquisition (datagram bytes)).need ≡ asked → IfSome asked P
        → Standing now (told_again asked bytes (told (datagram bytes) r)).acquisition
    again None e p = first.standing
    again (Some b) e p =
        (told_datagram P now (claims (told (datagram bytes) r)).acquisition bytes h
        (claim_stands now (told (datagram bytes) r).acquisition (outcome (told (datagram bytes) r).board (claim_of (told (datagram bytes) r).board))
        (λ k is. let same : Some b ≡ Some k = sym (first.is_asked ∙ e) ∙ is in let id : b ≡ k = cc in subst (λ (n : ℕ). n < 2 ^ 64) id (low b p))
        first.standing)).standing

    either : (b : Bool) → Standing now (if b then told_again (asked_by (step soak_config r.acquisition (datagram bytes)).need) bytes (told (datagram bytes) r) else r).acquisition
    either true = again (asked_by (step soak_config r.acquisition (datagram bytes)).need) refl first.asked
    either false = st

-- a datagram of known blocks opens none
pub hears_follows : (P : ℕ → Type 0) (now : ℕ) (r : Receiver) (bytes : List ℕ) → ((b : ℕ) → P b → IsKnown r.acquisition b) → IsOf P bytes → Standing now r.acquisition
    → Follows r.acquisition (hears r bytes).acquisition
hears_follows P now r bytes known h st = either (r.board.run == 1)
  where
    first : Told P now r.acquisition (step soak_config r.acquisition (datagram bytes))
    first = told_datagram P now r.acquisition bytes h st

    none : (b : ℕ) → (step soak_config r.acquisition (datagram bytes)).after.asked ≡ Some b → IsKnown (step soak_config r.acquisition (datagram bytes)).after b → ⊥
    none b e (inl is_open) = has_others b (step soak_config r.acquisition (datagram bytes)).after.opens is_open (first.standing.sound.claim b e).others
    none b e (inr below) = let above = (first.standing.sound.claim b e).above in omega arith

    again : (asked : Option ℕ) → asked_by (step soak_config r.acquisition (datagram bytes)).need ≡ asked → IfSome asked P
        → Follows r.acquisition (told_again asked bytes (told (datagram bytes) r)).acquisition
    again None e p = first.follows
    again (Some b) e p = absurd (none b (first.is_asked ∙ e) (first.follows.known b (known b p)))

    either : (b : Bool) → Follows r.acquisition (if b then told_again (asked_by (step soak_config r.acquisition (datagram bytes)).need) bytes (told (datagram bytes) r) else r).acquisition
    either true = again (asked_by (step soak_config r.acquisition (datagram bytes)).need) refl first.asked
    either false = follows_itself r.acquisition

-- bytes that are no packet leave the blocks as they are
pub hears_nothing : (r : Receiver) (bytes : List ℕ) → IsOf (λ b. ⊥) bytes → (hears r bytes).acquisition.opens ≡ r.acquisition.opens
hears_nothing r bytes h = either (r.board.run == 1)
  where
    read : (x : Result StreamPacket WireError) → ((y : StreamPacket) → ok_of x ≡ Some y → ⊥)
        → (told_again (asked_by (turns.hears soak_config x (unasked r.acquisition)).need) bytes (record (told (datagram bytes) r) { acquisition = (turns.hears soak_config x (unasked r.acquisition)).after })).acquisition.opens
        ≡ r.acquisition.opens
    read (Ok y) n = absurd (n y refl)
    read (Err e) n = refl

    either : (b : Bool)
        → (if b then told_again (asked_by (step soak_config r.acquisition (datagram bytes)).need) bytes (told (datagram bytes) r) else r).acquisition.opens ≡ r.acquisition.opens
    either true = read (reading bytes) h
    either false = refl

-- its application's takes leave the stream alone
pub takes_leave : (xs : List Item) (r : Receiver) → (takes_each xs r).acquisition ≡ r.acquisition
takes_leave [] r = refl
takes_leave (x ∷ xs) r = takes_leave xs (takes_one x r)
