-- The machine's turns with their places erased: in the order of the machine's own cases.
use Rattle.std.proofs.Common.{◌≡◌, ℕ, List, [], map, max, Bool, true, false, refl, sym, ap, ◌∙◌}
use Rattle.std.specs.Prelude.{nat_lt, not, Option, Some, None, Result, Ok, Err, if◌then◌else◌}
use mathlib.Core.Path.{ap₂}
use Rattle.stream_packets.specs.Packets.{StreamPacket, head_of, is_notice}
use Rattle.gvsp_wire.specs.declared.wire_error.WireError.{WireError}
use Rattle.gvsp_wire.specs.Reading.{reading}
use Rattle.block_image.specs.Kept.{fits}
use Rattle.acquisition_machine.specs.declared.config.AcqConfig.{AcqConfig}
use Rattle.acquisition_machine.specs.declared.need.Need.{Need}
use Rattle.acquisition_machine.specs.declared.need.Need.TheVariants.{Buffer, Done}
use Rattle.acquisition_machine.specs.declared.need.Why.TheVariants.{Late, Repeat, Misfit, Starved, Notice}
use Rattle.acquisition_machine.specs.Blocks.{Given, Open, Retirement, opened, hearing, keeping, is_new}
use Rattle.acquisition_machine.specs.Machine.{Input, datagram, claimed, tick, stop, restart, State, Request, Turn, is_full, bound, shown, open_at, put, leaving, without, settled, unasked, quiet, settles, ignored, noted, noted_in, keeps, displaced_of, rest_of, wants, hears_open, hears_fitting, hears_packet, hears, count_given, opens_block, requests_of, number_past, after_rounds, count_requests, asks, ticks, all_stopped, stops, step}
use Rattle.acquisition_machine.specs.Erased.{bare_given, bare, bare_state, bare_input, bare_retirement, bare_turn}
use Rattle.acquisition_machine.proofs.Bare.{push, full-bares, bound-bares, bare_if, at-bares, put-bares, leaving-bares, without-bares, settled-bares, displaced-bares, rest-bares, stopped-bares, rounds-bares, requests-bares, past-bares}

abbrev turn_of : State → Option Need → List Retirement → List Request → Turn
turn_of s need rs qs = record { after = s; need = need; retired = rs; requests = qs }

-- ---- a datagram

settles-bares : (c : AcqConfig) (need : Option Need) (s : State) → settles c need (bare_state s) ≡ bare_turn (settles c need s)
settles-bares c need s = ap₂ (λ a rs. turn_of a need rs []) (settled-bares c s) (leaving-bares c s.now s.opens)

noted-bare : (x : StreamPacket) (o : Open) (s : State) → noted x (bare o) (bare_state s) ≡ bare_state (noted x o s)
noted-bare x o s = ap (λ (os : List Open). record s { opens = os }) (put-bares (hearing x o) s.opens)

noted_in-bare : (x : StreamPacket) (found : Option Open) (s : State) → noted_in x (bare_if found) (bare_state s) ≡ bare_state (noted_in x found s)
noted_in-bare x None s = refl
noted_in-bare x (Some o) s = noted-bare x o s

keeps-bare : (c : AcqConfig) (x : StreamPacket) (o : Open) (s : State) → keeps c x (bare o) (bare_state s) ≡ bare_turn (keeps c x o s)
keeps-bare c x o s =
    ap (λ (os : List Open). settles c (Some Done) (record s { opens = os })) (put-bares (keeping s.now x o) s.opens)
    ∙ settles-bares c (Some Done) (record s { opens = put (keeping s.now x o) s.opens })

-- by whether the window is full
abbrev wants_at : Bool → ℕ → State → Turn
wants_at full b s =
    turn_of (record (without (displaced_of full s.opens) (rest_of full s.opens) s) { asked = Some b }) (Some (Buffer b)) (displaced_of full s.opens) []

wants_at-bares : (full : Bool) (b : ℕ) (s : State) → wants_at full b (bare_state s) ≡ bare_turn (wants_at full b s)
wants_at-bares full b s =
    ap₂ (λ rs os. turn_of (record (without rs os (bare_state s)) { asked = Some b }) (Some (Buffer b)) rs []) (displaced-bares full s.opens) (rest-bares full s.opens)
    ∙ ap (λ (a : State). turn_of (record a { asked = Some b }) (Some (Buffer b)) (map bare_retirement (displaced_of full s.opens)) [])
    (without-bares (displaced_of full s.opens) (rest_of full s.opens) s)

wants-bares : (c : AcqConfig) (b : ℕ) (s : State) → wants c b (bare_state s) ≡ bare_turn (wants c b s)
wants-bares c b s = ap (λ full. wants_at full b (bare_state s)) (full-bares c s.opens) ∙ wants_at-bares (is_full c s.opens) b s

open-bares : (c : AcqConfig) (x : StreamPacket) (o : Open) (g : Option Given) (s : State) → hears_open c x (bare o) (bare_given g) (bare_state s) ≡ bare_turn (hears_open c x o g s)
open-bares c x o None s = ap (ignored Starved) (noted-bare x o s)
open-bares c x o (Some g) s =
    ap₂ (λ k i. if is_new c.p o x then k else i) (keeps-bare c x o s) (ap (ignored Repeat) (noted-bare x o s))
    ∙ sym (push bare_turn (is_new c.p o x) (keeps c x o s) (ignored Repeat (noted x o s)))

fitting-bares : (c : AcqConfig) (x : StreamPacket) (found : Option Open) (s : State) → hears_fitting c x (bare_if found) (bare_state s) ≡ bare_turn (hears_fitting c x found s)
fitting-bares c x None s = wants-bares c (head_of x).block s
fitting-bares c x (Some o) s = open-bares c x o o.given s

packet-bares : (c : AcqConfig) (x : StreamPacket) (found : Option Open) (s : State) → hears_packet c x (bare_if found) (bare_state s) ≡ bare_turn (hears_packet c x found s)
packet-bares c x found s = go (is_notice x) (not (fits c.p x)) where
  go : (v w : Bool)
      → (if v then ignored Notice (noted_in x (bare_if found) (bare_state s)) else if w then ignored Misfit (noted_in x (bare_if found) (bare_state s)) else hears_fitting c x (bare_if found) (bare_state s))
      ≡ bare_turn (if v then ignored Notice (noted_in x found s) else if w then ignored Misfit (noted_in x found s) else hears_fitting c x found s)
  go true w = ap (ignored Notice) (noted_in-bare x found s)
  go false true = ap (ignored Misfit) (noted_in-bare x found s)
  go false false = fitting-bares c x found s

hears-bares : (c : AcqConfig) (r : Result StreamPacket WireError) (s : State) → hears c r (bare_state s) ≡ bare_turn (hears c r s)
hears-bares c (Err e) s = refl
hears-bares c (Ok x) s =
    ap₂ (λ low found. if nat_lt (head_of x).block low then ignored (Late (shown low)) (bare_state s) else hears_packet c x found (bare_state s))
    (bound-bares c s.floor s.opens) (at-bares (head_of x).block s.opens)
    ∙ (ap (λ t. if nat_lt (head_of x).block (bound c s) then ignored (Late (shown (bound c s))) (bare_state s) else t)
    (packet-bares c x (open_at (head_of x).block s.opens) s)
    ∙ sym (push bare_turn (nat_lt (head_of x).block (bound c s)) (ignored (Late (shown (bound c s))) s) (hears_packet c x (open_at (head_of x).block s.opens) s)))

-- ---- the outcome of a claim

count_given-bare : (g : Option Given) → count_given (bare_given g) ≡ count_given g
count_given-bare None = refl
count_given-bare (Some g) = refl

block-bares : (given : Option Given) (asked : Option ℕ) (s : State) → opens_block (bare_given given) asked (bare_state s) ≡ bare_state (opens_block given asked s)
block-bares given None s = refl
block-bares given (Some b) s =
    ap₂ (λ os count. record s { opens = os; counts = count s.counts }) (put-bares (opened b given s.now) s.opens) (count_given-bare given)

-- ---- a moment

abbrev asks_with : List Retirement → List Open → List Request → ℕ → State → Turn
asks_with rs os qs n s = turn_of (record s { opens = os; counts = count_requests qs s.counts; number = n }) None rs qs

asks-bares : (c : AcqConfig) (rs : List Retirement) (s : State) → asks c (map bare_retirement rs) (bare_state s) ≡ bare_turn (asks c rs s)
asks-bares c rs s =
    ap (λ os. asks_with (map bare_retirement rs) os (requests_of c s.now s.number (map bare s.opens)) (number_past c s.now s.number (map bare s.opens)) s)
    (rounds-bares c s.now s.opens)
    ∙ ap₂ (λ qs n. asks_with (map bare_retirement rs) (map bare (after_rounds c s.now s.opens)) qs n s)
    (requests-bares c s.now s.number s.opens) (past-bares c s.now s.number s.opens)

ticks-bares : (c : AcqConfig) (s : State) → ticks c (bare_state s) ≡ bare_turn (ticks c s)
ticks-bares c s =
    ap₂ (asks c) (leaving-bares c s.now s.opens) (settled-bares c s) ∙ asks-bares c (leaving c s.now s.opens) (settled c s)

-- ---- a stop

stops-bares : (s : State) → stops (bare_state s) ≡ bare_turn (stops s)
stops-bares s =
    ap (λ rs. turn_of (without rs [] (bare_state s)) None rs []) (stopped-bares s.opens)
    ∙ ap (λ a. turn_of a None (map bare_retirement (all_stopped s.opens)) []) (without-bares (all_stopped s.opens) [] s)

-- ---- a step

pub step-bare : (c : AcqConfig) (s : State) (i : Input) → step c (bare_state s) (bare_input i) ≡ bare_turn (step c s i)
step-bare c s (datagram bytes) = hears-bares c (reading bytes) (unasked s)
step-bare c s (claimed given) = ap quiet (block-bares given s.asked (unasked s))
step-bare c s (tick moment) = ticks-bares c (record (unasked s) { now = max s.now moment })
step-bare c s stop = stops-bares (unasked s)
step-bare c s restart = refl
