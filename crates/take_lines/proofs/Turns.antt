-- What a turn of the acquisition gives back.
use Rattle.std.proofs.Common.{◌≡◌, ℕ, List, [], ◌∷◌, ◌++◌, length, Option, Some, refl, ap, sym, ◌∙◌, subst}
use Rattle.std.proofs.lemmas.List.{append-nil}
use Rattle.gev_types.specs.Filling.{Filling}
use Rattle.acquisition_machine.specs.declared.retired.Retired.{Retired}
use Rattle.acquisition_machine.specs.Blocks.{Given, Retirement, fills}
use Rattle.acquisition_machine.specs.Machine.{Input, claimed}
use Rattle.acquisition_machine.specs.Runs.{turn}
use Rattle.acq_core.specs.declared.window.Window.{Window}
use Rattle.acq_core.specs.Waiting.{waiting_fills, waiting_requests}
use Rattle.acq_core.specs.Receiver.{config_of, Takes, KeepsBlocks}
use Rattle.take_lines.specs.Players.{places_of, places_back, Plays}
use Rattle.take_lines.specs.Pool.{HasBuffers, IsPlaying}

pub keeps_none : (m : Window) → KeepsBlocks m m
keeps_none m = record { stands = λ q s. s; buffers = refl; opens = refl; asked = refl; config = refl }

pub keeps_both : (m n o : Window) → KeepsBlocks m n → KeepsBlocks n o → KeepsBlocks m o
keeps_both m n o k l = record {
  stands = λ q s. l.stands q (k.stands q s);
  buffers = l.buffers ∙ k.buffers;
  opens = l.opens ∙ k.opens;
  asked = l.asked ∙ k.asked;
  config = l.config ∙ k.config;
}

-- what comes back at one input
pub back_at : (m : Window) (q : List Input) (i : Input) → places_of (fills (config_of m).p (turn (config_of m) q i).retired) ≡ places_back (config_of m) q (i ∷ [])
back_at m q i = ap (λ (rs : List Retirement). places_of (fills (config_of m).p rs)) (sym (append-nil (turn (config_of m) q i).retired))

-- An input came, and what waited then was taken back.
pub plays : (size : ℕ) (old mid new : Window) (i : Input) (back : List ℕ) → waiting_fills old ≡ [] → Takes old mid i → KeepsBlocks mid new → back ≡ places_of (waiting_fills mid)
    → Plays (record { acq = old; size = size }) (record { acq = new; size = size }) i back
plays size old mid new i back none t k is = record {
  took = λ q stands. k.stands (q ++ i ∷ []) (t.stands q stands);
  back_is = λ q stands.
      is
      ∙ (ap places_of (t.fills q stands ∙ ap (λ (fs : List Retired). fs ++ fills (config_of old).p (turn (config_of old) q i).retired) none)
      ∙ back_at old q i);
  config = k.config ∙ t.config;
  size = refl;
}

-- A claim's outcome came.
pub plays_claim : (size : ℕ) (old new : Window) (given : Option Given) → Takes old new (claimed given) → Plays (record { acq = old; size = size }) (record { acq = new; size = size }) (claimed given) []
plays_claim size old new given t = record {
  took = t.stands;
  back_is = λ q stands. refl;
  config = t.config;
  size = refl;
}

-- It was a buffer at this place.
pub plays_given : (size place : ℕ) (old new : Window) (f : Filling) → length f.bytes ≡ size → Takes old new (claimed (Some (record { place = place; size = length f.bytes })))
    → Plays (record { acq = old; size = size }) (record { acq = new; size = size }) (claimed (Some (record { place = place; size = size }))) []
plays_given size place old new f wide t =
    plays_claim size old new (Some (record { place = place; size = size }))
    (subst (λ (n : ℕ). Takes old new (claimed (Some (record { place = place; size = n })))) wide t)

-- it goes on playing
pub playing_on : (size : ℕ) (old mid new : Window) (spare spare_new : List Filling) (i : Input) → IsPlaying size old spare → Takes old mid i → KeepsBlocks mid new
    → waiting_fills new ≡ [] → waiting_requests new ≡ [] → HasBuffers size new spare_new → IsPlaying size new spare_new
playing_on size old mid new spare spare_new i playing t k no_fill no_request has = record {
  inputs = playing.inputs ++ i ∷ [];
  stands = k.stands (playing.inputs ++ i ∷ []) (t.stands playing.inputs playing.stands);
  no_fill = no_fill;
  no_request = no_request;
  has = has;
}
