-- A datagram by its header.
use Rattle.std.proofs.Common.{◌≡◌, ℕ, List, Bool, true, false, Result, Ok, Err, ◌++◌, refl, ap, sym, ◌∙◌, subst}
use Rattle.std.specs.Prelude.{max, if◌then◌else◌, length, take}
use Rattle.std.proofs.lemmas.List.{take_at}
use Rattle.gvsp_std.specs.declared.std_error.StdError.{StdError}
use Rattle.gvsp_std.specs.Widening.{widened}
use Rattle.acquisition_machine.specs.Machine.{Input, datagram}
use Rattle.acquisition_machine.specs.Runs.{turn}
use Rattle.take_lines.specs.Players.{PlayerState, Took}
use Rattle.capture_script.specs.Playing.{Played, Line, config, told, inputs_by, hears, is_standard, hears_widened, heard}
use Rattle.capture_script.specs.Standing.{PlayingState, StandsAt, Plays, PlaysLine, Hears}

-- the datagram was told
told_line : (p size : ℕ) (bytes : List ℕ) (s : Played) (m : PlayerState) (top n : ℕ) → Plays p s.inputs (inputs_by size bytes (turn (config p) s.inputs (datagram bytes)).need) m n
    → (top_new : ℕ) → top_new ≡ top → Hears (hears p size bytes (record s { top = top })) m top_new n
told_line p size bytes s m top n plays top_new e = record { stands = plays.stands; top_is = e; filled_is = plays.filled_is }

chosen : (b c : Bool) (x y : Line) (m : PlayerState) (top n : ℕ) → b ≡ c → Hears (if c then x else y) m top n → Hears (if b then x else y) m top n
chosen b c x y m top n e h = subst (λ (d : Bool). Hears (if d then x else y) m top n) (sym e) h

-- one with extended identifiers, or too short for a header
pub hears_plain : (player player_new : PlayerState) (p size top n : ℕ) (bytes : List ℕ) (s : Played) → is_standard top bytes ≡ false
    → ((q : List Input) → Took player q → Plays p q (inputs_by size bytes (turn (config p) q (datagram bytes)).need) player_new n)
    → Took player s.inputs → top ≡ s.top → Hears (heard p size bytes s) player_new top n
hears_plain player player_new p size top n bytes s standard plays stands at =
    chosen (is_standard s.top bytes) false (hears_widened p size (widened s.top bytes) s) (hears p size bytes s) player_new top n
    (ap (λ (t : ℕ). is_standard t bytes) (sym at) ∙ standard)
    (told_line p size bytes s player_new s.top n (plays s.inputs stands) top at)

widened_line : (p size : ℕ) (bytes : List ℕ) (s : Played) (m : PlayerState) (top top_new n : ℕ) (r : Result (ℕ × List ℕ) StdError) → top ≡ s.top → is_standard top bytes ≡ true → widened top bytes ≡ r
    → Hears (hears_widened p size r s) m top_new n → Hears (heard p size bytes s) m top_new n
widened_line p size bytes s m top top_new n r at standard is h =
    chosen (is_standard s.top bytes) true (hears_widened p size (widened s.top bytes) s) (hears p size bytes s) m top_new n
    (ap (λ (t : ℕ). is_standard t bytes) (sym at) ∙ standard)
    (subst (λ (x : Result (ℕ × List ℕ) StdError). Hears (hears_widened p size x s) m top_new n)
    (sym (ap (λ (t : ℕ). widened t bytes) (sym at) ∙ is)) h)

-- one with standard identifiers that is widened
pub hears_wide : (player player_new : PlayerState) (p size top top_new n block : ℕ) (bytes wide : List ℕ) (s : Played) → is_standard top bytes ≡ true
    → widened top bytes ≡ Ok (block, wide) → top_new ≡ max top block → (sent : List ℕ) → sent ≡ wide
    → ((q : List Input) → Took player q → Plays p q (inputs_by size sent (turn (config p) q (datagram sent)).need) player_new n)
    → Took player s.inputs → top ≡ s.top → Hears (heard p size bytes s) player_new top_new n
hears_wide player player_new p size top top_new n block bytes wide s standard is top_is sent same plays stands at =
    let wide_plays = subst (λ (x : List ℕ). Plays p s.inputs (inputs_by size x (turn (config p) s.inputs (datagram x)).need) player_new n) same (plays s.inputs stands) in
    widened_line p size bytes s player_new top top_new n (Ok (block, wide)) at standard is
    (told_line p size wide s player_new (max s.top block) n wide_plays top_new (top_is ∙ ap (λ (t : ℕ). max t block) at))

-- one whose id names no block
pub hears_refused : (player : PlayerState) (p size top top_new : ℕ) (bytes : List ℕ) (s : Played) (refusal : StdError) → is_standard top bytes ≡ true → widened top bytes ≡ Err refusal → top_new ≡ top
    → Took player s.inputs → top ≡ s.top → Hears (heard p size bytes s) player top_new 0
hears_refused player p size top top_new bytes s refusal standard is top_is stands at =
    widened_line p size bytes s player top top_new 0 (Err refusal) at standard is (record { stands = stands; top_is = top_is ∙ at; filled_is = refl })

pub front_is : (out wide rest : List ℕ) (len : ℕ) → out ≡ wide ++ rest → len ≡ length wide → take len out ≡ wide
front_is out wide rest len is size = ap (take len) is ∙ take_at wide rest len (sym size)

-- inputs that are no datagram's
pub told_here : (p : ℕ) (is : List Input) (s : Played) (new : PlayerState) (top n : ℕ) → Plays p s.inputs is new n → top ≡ s.top → Hears (told p is s) new top n
told_here p is s new top n plays at = record { stands = plays.stands; top_is = at; filled_is = plays.filled_is }

-- a line that was played, as callers see it
pub plays_line : (old new now : PlayingState) (line : PlayingState → Played → Line) (s : Played) (n : ℕ) → old ≡ now → new.p ≡ old.p → new.size ≡ old.size
    → (StandsAt old s → Hears (line old s) new.player new.top n) → StandsAt now s → PlaysLine (line now s) now new n
plays_line old new now line s n e is_p is_size hears stands =
    subst (λ (o : PlayingState). StandsAt o s → PlaysLine (line o s) o new n) e
    (λ at. let h = hears at in record { stands = record { stands = h.stands; top = h.top_is }; filled_is = h.filled_is; p = is_p; size = is_size })
    stands
