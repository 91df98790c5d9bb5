-- A turn of the receiver, and its end.
use Rattle.std.proofs.Common.{◌≡◌, ◌≢◌, ℕ, ◌≤◌, List, [], ◌∷◌, ◌++◌, map, Option, Some, None, refl, ap, sym, ◌∙◌, subst, arith}
use Rattle.acquisition_machine.specs.declared.config.AcqConfig.{AcqConfig}
use Rattle.acquisition_machine.specs.Machine.{Input, tick, request_bytes}
use Rattle.acquisition_machine.specs.Runs.{turn}
use Rattle.acq_core.specs.declared.window.Window.{Window}
use Rattle.acq_core.specs.Receiver.{config_of, Stands, Takes, KeepsBlocks}
use Rattle.acq_core.specs.Waiting.{waiting_fills, waiting_requests}
use Rattle.buffer_words.specs.Rule.{Slot}
use Rattle.buffer_words.specs.Passes.{Token, slot_at, gone, IsEmptyHanded}
use Rattle.buffer_words.specs.Several.{EntersOf}
use Rattle.board_calls.specs.declared.mode.Mode.{Mode}
use Rattle.gev_acq.specs.declared.heard.Heard.{Heard}
use Rattle.gev_acq.specs.Filling.{FillsRetiredFor}
use Rattle.gev_acq.specs.Buffers.{HoldsAlone}
use Rattle.gev_acq.specs.Turning.{inputs_if, unheard, ReceivesIf, TicksOnce, ServesTurn}
use Rattle.gev_acq.proofs.Serves.{serves_then, serves_none, serves_filled}

pub ticks_once : (mode : Mode) (m mid new : Window) (moment : ℕ) (s t : Token) → waiting_fills m ≡ [] → waiting_requests m ≡ [] → Takes m mid (tick moment)
    → waiting_requests new ≡ waiting_requests mid → KeepsBlocks mid new → EntersOf s (FillsRetiredFor mode (waiting_fills mid)) t
    → TicksOnce mode (config_of m) (Stands m) (Stands new) moment (waiting_requests new) s t
ticks_once mode m mid new moment s t fills requests takes same keeps filled = record {
  serves = serves_filled mode m mid new (tick moment) s t refl refl fills takes keeps filled;
  asks = λ q old.
      same ∙ (takes.requests q old ∙ ap (λ l. l ++ map request_bytes (turn (config_of m) q (tick moment)).requests) requests);
}

receives_none : (mode : Mode) (c : AcqConfig) (Old : List Input → Type 0) (s : Token) → ReceivesIf mode c Old Old None unheard s s
receives_none mode c Old s = record { given = None; serves = serves_none mode c Old s; heard = λ q old. (refl, refl) }

-- where nothing came
pub receives_nothing : (mode : Mode) (c : AcqConfig) (Old : List Input → Type 0) (came : Option (List ℕ)) (s : Token) → came ≡ None → ReceivesIf mode c Old Old came unheard s s
receives_nothing mode c Old came s is = subst (λ (o : Option (List ℕ)). ReceivesIf mode c Old Old o unheard s s) (sym is) (receives_none mode c Old s)

turned : (mode : Mode) (c : AcqConfig) (Old Mid New : List Input → Type 0) (came : Option (List ℕ)) (moment : ℕ) (r : Heard) (requests : List (List ℕ)) (s t u : Token)
    → ReceivesIf mode c Old Mid came r s t → TicksOnce mode c Mid New moment requests t u → ServesTurn mode c Old New came moment r requests s u
turned mode c Old Mid New came moment r requests s t u first second = record {
  given = first.given;
  serves = serves_then mode c Old Mid New (inputs_if came first.given) (tick moment ∷ []) s t u first.serves second.serves;
  heard = first.heard;
  asks = λ q old. second.asks (q ++ inputs_if came first.given) (first.serves.stands q old);
}

pub serves_turn : (mode : Mode) (c d : AcqConfig) (Old Mid New : List Input → Type 0) (came : Option (List ℕ)) (moment : ℕ) (r : Heard) (requests : List (List ℕ)) (s t u : Token)
    → d ≡ c → ReceivesIf mode c Old Mid came r s t → TicksOnce mode d Mid New moment requests t u → ServesTurn mode c Old New came moment r requests s u
serves_turn mode c d Old Mid New came moment r requests s t u is first second =
    turned mode c Old Mid New came moment r requests s t u first (subst (λ (x : AcqConfig). TicksOnce mode x Mid New moment requests t u) is second)

none_held : (o : Option Slot) → (o ≢ gone → ⊥) → o ≡ gone
none_held None none = refl
none_held (Some x) none = absurd (none (λ is. let bad : ⊥ = cc in bad))

-- a pass that holds nothing else holds nothing
pub empty_handed : (t : Token) → HoldsAlone t [] → IsEmptyHanded t
empty_handed t alone i = none_held (slot_at t i) (λ some. let one : 1 ≤ 0 = alone i some in absurd (omega (arith, one)))
