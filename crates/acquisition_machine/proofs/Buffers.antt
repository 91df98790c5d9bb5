-- No buffer is lost or doubled.
use Rattle.std.proofs.Common.{◌≡◌, ◌⊎◌, inl, inr, ℕ, ◌≤◌, List, [], ◌∷◌, ◌++◌, length, map, refl, sym, ap, ◌∙◌}
use Rattle.std.specs.Prelude.{⊤, Option, Some, None}
use Rattle.stream_packets.specs.Packets.{StreamPacket}
use Rattle.block_image.proofs.ImageLemmas.{length-image_bytes}
use Rattle.block_image.specs.Kept.{kept}
use Rattle.acquisition_machine.specs.declared.config.AcqConfig.{AcqConfig}
use Rattle.acquisition_machine.specs.declared.retired.Retired.{Retired}
use Rattle.acquisition_machine.specs.Blocks.{Given, Open, Retirement, opened, filling_in, fill_of, fills, ranges_asked, after_asking}
use Rattle.acquisition_machine.specs.Machine.{Input, datagram, claimed, tick, stop, restart, State, Turn, unasked, opens_block, put, after_rounds, step}
use Rattle.acquisition_machine.specs.Runs.{After}
use Rattle.acquisition_machine.specs.Sound.{IsSound}
use Rattle.acquisition_machine.specs.TurnLaws.{with_given, held, given_up, given_of, FillsHaveSizes, TakesGiven, GivesBack, KeepsBuffers, NoBufferIsLost}
use Rattle.acquisition_machine.proofs.Order.{IsPut, put_new}
use Rattle.acquisition_machine.proofs.Retiring.{were}
use Rattle.acquisition_machine.proofs.Turned.{Hears, Changed, nothing, passed, heard, taken, Turned, turned}
use Rattle.acquisition_machine.proofs.Window.{blocks_are_in_order}

with_given-append : (g : Option Given) (xs ys : List Given) → with_given g (xs ++ ys) ≡ with_given g xs ++ ys
with_given-append None xs ys = refl
with_given-append (Some g) xs ys = refl

held-append : (os ps : List Open) → held (os ++ ps) ≡ held os ++ held ps
held-append [] ps = refl
held-append (o ∷ os) ps = ap (with_given o.given) (held-append os ps) ∙ with_given-append o.given (held os) (held ps)

held-were : (rs : List Retirement) → held (were rs) ≡ given_up rs
held-were [] = refl
held-were (r ∷ rs) = ap (with_given r.was.given) (held-were rs)

held-swap : (front : List Open) (o n : Open) (back : List Open) → n.given ≡ o.given → held (front ++ n ∷ back) ≡ held (front ++ o ∷ back)
held-swap [] o n back e = ap (λ g. with_given g (held back)) e
held-swap (f ∷ front) o n back e = ap (with_given f.given) (held-swap front o n back e)

given-round : (now : ℕ) (o : Open) (rs : List (ℕ × ℕ)) → (after_asking now o rs).given ≡ o.given
given-round now o [] = refl
given-round now o (r ∷ rs) = refl

held-rounds : (c : AcqConfig) (now : ℕ) (os : List Open) → held (after_rounds c now os) ≡ held os
held-rounds c now [] = refl
held-rounds c now (o ∷ os) =
    ap (λ g. with_given g (held (after_rounds c now os))) (given-round now o (ranges_asked c now o))
    ∙ ap (with_given o.given) (held-rounds c now os)

held-opens : (c : AcqConfig) (now : ℕ) (rest opens : List Open) → (opens ≡ rest) ⊎ (opens ≡ after_rounds c now rest) → held opens ≡ held rest
held-opens c now rest opens (inl e) = ap held e
held-opens c now rest opens (inr e) = ap held e ∙ held-rounds c now rest

hears-given : (now : ℕ) (x : StreamPacket) (o n : Open) → Hears now x o n → n.given ≡ o.given
hears-given now x o n (inl e) = ap (λ (m : Open). m.given) e
hears-given now x o n (inr e) = ap (λ (m : Open). m.given) e

-- the fills of these blocks
fill_sizes : (p : ℕ) (r : Retirement) (given : Option Given) (fs : List Retired) (gs : List Given) → map given_of fs ≡ gs → map given_of (fill_of p r given ++ fs) ≡ with_given given gs
fill_sizes p r None fs gs e = e
fill_sizes p r (Some g) fs gs e =
    let size : length (filling_in p r g).bytes ≡ g.size = length-image_bytes p (kept p r.was.block r.was.heard) g.size in
    rw (size, e) refl

pub fills_have_sizes : FillsHaveSizes
fills_have_sizes p [] = refl
fills_have_sizes p (r ∷ rs) = fill_sizes p r r.was.given (fills p rs) (given_up rs) (fills_have_sizes p rs)

-- ---- one input

held-parts : (c : AcqConfig) (s : State) (i : Input) (t : Turn) → (d : Turned c s i t) → map given_of (fills c.p t.retired) ++ held t.after.opens ≡ held d.mid
held-parts c s i t d =
    ap (λ l. l ++ held t.after.opens) (fills_have_sizes c.p t.retired ∙ sym (held-were t.retired))
    ∙ ap (λ l. held (were t.retired) ++ l) (held-opens c t.after.now d.rest t.after.opens d.opens)
    ∙ sym (held-append (were t.retired) d.rest)
    ∙ ap held d.parts

-- no claim's outcome came
abbrev IsNoClaim : Input → Type 0
IsNoClaim (datagram bytes) = ⊤
IsNoClaim (claimed given) = ⊥
IsNoClaim (tick moment) = ⊤
IsNoClaim stop = ⊤
IsNoClaim restart = ⊤

held-changed : (s : State) {i : Input} {mid : List Open} → IsNoClaim i → Changed s i mid → held mid ≡ held s.opens
held-changed s free (nothing none) = refl
held-changed s free (passed bytes x is others) = refl
held-changed s free (heard bytes x o n f is h) = held-swap f.front o n f.back (hears-given s.now x o n h) ∙ ap held (sym f.parts)
held-changed s free (taken b given f e) = absurd free

gives_back : (c : AcqConfig) (s : State) (i : Input) (t : Turn) → IsNoClaim i → Turned c s i t → GivesBack c.p s.opens t
gives_back c s i t free d = held-parts c s i t d ∙ held-changed s free d.changed

-- the block that is opened
takes_put : (given : Option Given) (b now : ℕ) (os : List Open) → IsPut (opened b given now) os (put (opened b given now) os) → TakesGiven given (Some b) (held os) (held (put (opened b given now) os))
takes_put None b now os f =
    ap held f.now ∙ held-append f.front (opened b None now ∷ f.back) ∙ sym (held-append f.front f.back) ∙ ap held (sym f.was)
takes_put (Some g) b now os f = record {
  front = held f.front;
  back = held f.back;
  were = ap held f.was ∙ held-append f.front f.back;
  are = ap held f.now ∙ held-append f.front (opened b (Some g) now ∷ f.back);
}

takes_none : (given : Option Given) (gs : List Given) → TakesGiven given None gs gs
takes_none None gs = refl
takes_none (Some g) gs = refl

takes_claim : (c : AcqConfig) (s : State) (given : Option Given) (asked : Option ℕ) → IsSound c s → s.asked ≡ asked → TakesGiven given asked (held s.opens) (held (opens_block given asked (unasked s)).opens)
takes_claim c s given None sound e = takes_none given (held s.opens)
takes_claim c s given (Some b) sound e = takes_put given b s.now s.opens (put_new (opened b given s.now) s.opens (sound.claim b e).others)

pub keeps_buffers : (c : AcqConfig) (s : State) (i : Input) → 1 ≤ c.window → IsSound c s → KeepsBuffers c s i (step c s i)
keeps_buffers c s (datagram bytes) some sound = gives_back c s (datagram bytes) (step c s (datagram bytes)) tt (turned c s (datagram bytes) some sound)
keeps_buffers c s (claimed given) some sound = (refl, takes_claim c s given s.asked sound refl)
keeps_buffers c s (tick moment) some sound = gives_back c s (tick moment) (step c s (tick moment)) tt (turned c s (tick moment) some sound)
keeps_buffers c s stop some sound = gives_back c s stop (step c s stop) tt (turned c s stop some sound)
keeps_buffers c s restart some sound = gives_back c s restart (step c s restart) tt (turned c s restart some sound)

pub no_buffer_is_lost : NoBufferIsLost
no_buffer_is_lost c q i some = keeps_buffers c (After c q) i some (blocks_are_in_order c q some)
