-- A player's buffers, which wait beside the acquisition or are in its hands.
use Rattle.std.proofs.Common.{◌≡◌, ℕ, suc, ◌+◌, ◌<◌, ◌≤◌, List, [], ◌∷◌, ◌++◌, length, map, Option, Some, None, refl, ap, sym, ◌∙◌, subst, arith, length-append}
use Rattle.std.specs.Prelude.{IsSome, replicate}
use Rattle.std.specs.List.{AllByRecursion}
use Rattle.std.proofs.lemmas.List.{length-map, length-replicate}
use Rattle.gev_types.specs.Filling.{Filling}
use Rattle.acquisition_machine.specs.declared.config.AcqConfig.{AcqConfig}
use Rattle.acquisition_machine.specs.declared.retired.Retired.{Retired}
use Rattle.acquisition_machine.specs.Blocks.{Given, Open}
use Rattle.acquisition_machine.specs.Runs.{After}
use Rattle.acquisition_machine.specs.TurnLaws.{with_given, held, given_of, HasOneMore, TakesGiven}
use Rattle.acquisition_machine.proofs.Order.{all_append, all_front, all_back}
use Rattle.acquisition_machine.proofs.Window.{blocks_are_in_order}
use Rattle.acq_core.specs.declared.window.Window.{Window}
use Rattle.acq_core.specs.Standing.{IsConfig}
use Rattle.acq_core.specs.Waiting.{waiting_fills, waiting_requests}
use Rattle.acq_core.specs.Receiver.{config_of, asked_block, buffers, Stands}
use Rattle.acq_core.proofs.Receiving.{receivers_show}
use Rattle.take_lines.specs.Pool.{about, HasBuffers, IsPlaying}

abbrev pub HasSize : ℕ → Given → Type 0
HasSize size g = g.size ≡ size

abbrev pub IsSized : ℕ → Filling → Type 0
IsSized size f = length f.bytes ≡ size

window_is : (old new : Window) → config_of new ≡ config_of old → (config_of new).window ≡ (config_of old).window
window_is old new e = ap (λ (c : AcqConfig). c.window) e

-- what the acquisition has stays what it was
pub has_kept : (size : ℕ) (old new : Window) (spare : List Filling) → about new ≡ about old → config_of new ≡ config_of old → HasBuffers size old spare → HasBuffers size new spare
has_kept size old new spare e same h = record {
  count = ap (λ (gs : List Given). length spare + length gs) e ∙ (h.count ∙ sym (window_is old new same));
  spare_sized = h.spare_sized;
  sized = subst (λ (gs : List Given). AllByRecursion (HasSize size) gs) (sym e) h.sized;
  config = subst IsConfig (sym same) h.config;
}

-- the first fill that waits, and the others
about_first : (old new : Window) (f : Retired) → waiting_fills old ≡ f ∷ waiting_fills new → buffers new ≡ buffers old → about old ≡ given_of f ∷ about new
about_first old new f e b =
    ap (λ (ws : List Retired). map given_of ws ++ buffers old) e ∙ ap (λ (gs : List Given). given_of f ∷ (map given_of (waiting_fills new) ++ gs)) (sym b)

-- a fill's buffer comes back
pub has_taken : (size : ℕ) (old new : Window) (spare : List Filling) (f : Retired) → waiting_fills old ≡ f ∷ waiting_fills new → buffers new ≡ buffers old → config_of new ≡ config_of old
    → HasBuffers size old spare → HasBuffers size new (spare ++ f.buf ∷ [])
has_taken size old new spare f e b same h =
    let first = about_first old new f e b in
    let all = subst (λ (gs : List Given). AllByRecursion (HasSize size) gs) first h.sized in
    let longer : length (about old) ≡ length (about new) + 1 = ap (λ (gs : List Given). length gs) first ∙ omega arith in
    let window = window_is old new same in
    record {
      count = omega (arith, h.count, longer, window, length-append spare (f.buf ∷ []));
      spare_sized = all_append (IsSized size) spare (f.buf ∷ []) h.spare_sized (all.0, tt);
      sized = all.1;
      config = subst IsConfig (sym same) h.config;
    }

-- there is room for a fill's buffer
pub room_for_one : (size : ℕ) (old new : Window) (spare : List Filling) (f : Retired) → waiting_fills old ≡ f ∷ waiting_fills new → buffers new ≡ buffers old
    → HasBuffers size old spare → length spare < 4
room_for_one size old new spare f e b h =
    let longer : length (about old) ≡ length (about new) + 1 = ap (λ (gs : List Given). length gs) (about_first old new f e b) ∙ omega arith in
    let few = h.config.window_few in
    omega (arith, h.count, longer, few)

pub few_wait : (size : ℕ) (m : Window) (spare : List Filling) → HasBuffers size m spare → length (waiting_fills m) ≤ 4
few_wait size m spare h =
    let few = h.config.window_few in
    omega (arith, h.count, few, length-append (map given_of (waiting_fills m)) (buffers m), length-map (waiting_fills m) given_of)

-- a buffer goes to a block that asked for one, where no fill waits
pub has_given : (size place : ℕ) (old new : Window) (spare : List Filling) (f : Filling) (b : ℕ) → waiting_fills old ≡ [] → waiting_fills new ≡ [] → asked_block old ≡ Some b
    → config_of new ≡ config_of old
    → TakesGiven (Some (record { place = place; size = length f.bytes })) (asked_block old) (buffers old) (buffers new)
    → HasBuffers size old (spare ++ f ∷ []) → HasBuffers size new spare
has_given size place old new spare f b no_fill no_fill_new asked same takes h =
    let g : Given = record { place = place; size = length f.bytes } in
    let one : HasOneMore g (buffers old) (buffers new) = subst (λ (a : Option ℕ). TakesGiven (Some g) a (buffers old) (buffers new)) asked takes in
    let were : about old ≡ one.front ++ one.back = ap (λ (ws : List Retired). map given_of ws ++ buffers old) no_fill ∙ one.were in
    let are : about new ≡ one.front ++ g ∷ one.back = ap (λ (ws : List Retired). map given_of ws ++ buffers new) no_fill_new ∙ one.are in
    let sizes = subst (λ (gs : List Given). AllByRecursion (HasSize size) gs) were h.sized in
    let last = all_back (IsSized size) spare (f ∷ []) h.spare_sized in
    let window = window_is old new same in
    record {
      count = omega (arith, h.count, window, ap (λ (gs : List Given). length gs) were, ap (λ (gs : List Given). length gs) are, length-append one.front one.back, length-append one.front (g ∷ one.back), length-append spare (f ∷ []));
      spare_sized = all_front (IsSized size) spare (f ∷ []) h.spare_sized;
      sized =
          subst (λ (gs : List Given). AllByRecursion (HasSize size) gs) (sym are)
          (all_append (HasSize size) one.front (g ∷ one.back) (all_front (HasSize size) one.front one.back sizes) (last.0, all_back (HasSize size) one.front one.back sizes));
      config = subst IsConfig (sym same) h.config;
    }

few_with : (g : Option Given) (gs : List Given) (n : ℕ) → length gs ≤ n → length (with_given g gs) ≤ suc n
few_with None gs n few = omega (arith, few)
few_with (Some g) gs n few = omega (arith, few)

-- of blocks at most as many have a buffer
few_held : (os : List Open) → length (held os) ≤ length os
few_held [] = omega arith
few_held (o ∷ os) = few_with o.given (held os) (length os) (few_held os)

pub block_asked : (a : Option ℕ) → IsSome a → (b : ℕ) × (a ≡ Some b)
block_asked None some = absurd cc
block_asked (Some b) some = (b, refl)

-- where a block asks for a buffer, one waits
pub some_spare : (size : ℕ) (m : Window) (spare : List Filling) → IsPlaying size m spare → IsSome (asked_block m) → 0 < length spare
some_spare size m spare playing some =
    let c = config_of m in
    let q = playing.inputs in
    let shows = receivers_show m q playing.stands in
    let sound = blocks_are_in_order c q playing.has.config.window_some in
    let asked = block_asked (asked_block m) some in
    let asked_in : (After c q).asked ≡ Some asked.0 = sym shows.asked ∙ asked.1 in
    let may = sound.claim asked.0 asked_in in
    let room : length (After c q).opens < c.window = may.room in
    let had : length (about m) ≡ length (buffers m) = ap (λ (ws : List Retired). length (map given_of ws ++ buffers m)) playing.no_fill in
    let few : length (buffers m) ≡ length (held (After c q).opens) = ap (λ (gs : List Given). length gs) shows.buffers in
    omega (arith, playing.has.count, room, had, few, few_held (After c q).opens)

-- ---- the buffers of a new player

pub sized_more : (size : ℕ) (fs gs : List Filling) (f : Filling) → AllByRecursion (IsSized size) fs → f.bytes ≡ replicate size 0 → gs ≡ fs ++ f ∷ [] → AllByRecursion (IsSized size) gs
sized_more size fs gs f all zeros e =
    let wide : length f.bytes ≡ size = ap (λ (bs : List ℕ). length bs) zeros ∙ length-replicate {A = ℕ} size 0 in
    subst (λ (xs : List Filling). AllByRecursion (IsSized size) xs) (sym e) (all_append (IsSized size) fs (f ∷ []) all (wide, tt))

pub one_longer : (fs gs : List Filling) (f : Filling) (n : ℕ) → length fs ≡ n → gs ≡ fs ++ f ∷ [] → length gs ≡ n + 1
one_longer fs gs f n count e =
    let longer : length gs ≡ length fs + 1 = ap (λ (xs : List Filling). length xs) e ∙ length-append fs (f ∷ []) in
    omega (arith, count, longer)

-- the last buffer that waits
pub last_sized : (size : ℕ) (all spare : List Filling) (f : Filling) → all ≡ spare ++ f ∷ [] → AllByRecursion (IsSized size) all → length f.bytes ≡ size
last_sized size all spare f e sized = (all_back (IsSized size) spare (f ∷ []) (subst (λ (xs : List Filling). AllByRecursion (IsSized size) xs) e sized)).0

-- a new player
pub begins : (size : ℕ) (m : Window) (spare : List Filling) (k : AcqConfig) → IsConfig k → config_of m ≡ k → Stands m [] → waiting_fills m ≡ [] → waiting_requests m ≡ [] → buffers m ≡ []
    → length spare ≡ k.window → AllByRecursion (IsSized size) spare → IsPlaying size m spare
begins size m spare k ok is stands no_fill no_request none count sized =
    let empty : about m ≡ [] = ap (λ (ws : List Retired). map given_of ws ++ buffers m) no_fill ∙ none in
    let had : length (about m) ≡ 0 = ap (λ (gs : List Given). length gs) empty in
    let window : (config_of m).window ≡ k.window = ap (λ (c : AcqConfig). c.window) is in
    record {
      inputs = [];
      stands = stands;
      no_fill = no_fill;
      no_request = no_request;
      has = record {
        count = omega (arith, count, had, window);
        spare_sized = sized;
        sized = subst (λ (gs : List Given). AllByRecursion (HasSize size) gs) (sym empty) tt;
        config = subst IsConfig (sym is) ok;
      };
    }
