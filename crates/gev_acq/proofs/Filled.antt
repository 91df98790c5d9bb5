-- The fills of served inputs, and what the client goes through in turns.
use Rattle.std.proofs.Common.{◌≡◌, ℕ, Bool, true, false, List, [], ◌∷◌, ◌++◌, map, Option, Some, None, refl, ap, sym, ◌∙◌, append_assoc}
use Rattle.board_machine.specs.declared.events.Event.{Event}
use Rattle.board_machine.specs.Adding.{entries_of}
use Rattle.board_machine.specs.declared.events.Event.TheVariants.{Fill}
use Rattle.client_machine.specs.declared.outcome.Outcome.{Outcome}
use Rattle.client_machine.specs.declared.outcome.Outcome.TheVariants.{Waiting, Idle, Acked, Refused, NoAnswer}
use Rattle.client_machine.specs.Machine.{Client, ticked, received, taken}
use Rattle.client_machine.specs.Events.{Event as ClientEvent, receives, ticks, takes, after as after_events}
use Rattle.acquisition_machine.specs.declared.config.AcqConfig.{AcqConfig}
use Rattle.acquisition_machine.specs.declared.retired.Retired.{Retired}
use Rattle.acquisition_machine.specs.Blocks.{fills}
use Rattle.acquisition_machine.specs.Machine.{Input, stop, State, step}
use Rattle.acquisition_machine.specs.Runs.{first_state, after_from, After, retired_from}
use Rattle.gev_links.specs.Links.{Answer, nothing, failed, came}
use Rattle.block_fills.specs.Fills.{tried, item_of}
use Rattle.block_fills.proofs.Tries.{tried-append, fills-append, items-append, items_from, items_from-append, entries-append}
use Rattle.gev_control.specs.Controlled.{after_tick, after_receive, ticks_turn, control_of}
use Rattle.board_calls.specs.declared.mode.Mode.{Mode}
use Rattle.gev_acq.specs.Filling.{laid_unless, FillsOne, FillsRetiredFor}
use Rattle.gev_acq.specs.Serving.{ClaimsOf, Serves}
use Rattle.gev_acq.specs.Turns.{Turned, inputs_of}
use Rattle.gev_acq.specs.Acquired.{inputs_in, ServesTurns, ControlEach}
use Rattle.gev_acq.specs.Laws.{client_events, and_then}
use Rattle.gev_acq.proofs.Parts.{Holds, drops_hold, claimed_hold}

-- what two lists of events put into the output
pub tried_both : (k : ℕ) (es fs : List Event) → tried (entries_of k (es ++ fs)) ≡ tried (entries_of k es) ++ tried (entries_of k fs)
tried_both k es fs = ap tried (entries-append k es fs) ∙ tried-append (entries_of k es) (entries_of k fs)

-- events that put nothing into the output
abbrev TryNothing : ℕ → List Event → Type 0
TryNothing k es = tried (entries_of k es) ≡ []

nothing_holds : (mode : Mode) (k : ℕ) → Holds mode (TryNothing k)
nothing_holds mode k = record {
  none = refl;
  both = λ es fs first second. tried_both k es fs ∙ (ap (λ l. l ++ tried (entries_of k fs)) first ∙ second);
  take = λ may end. refl;
  pool = λ may i. refl;
}

claims_try_nothing : (mode : Mode) (k : ℕ) (i : Input) (es : List Event) → ClaimsOf mode i es → tried (entries_of k es) ≡ []
claims_try_nothing mode k i es claims = claimed_hold mode (TryNothing k) i es (nothing_holds mode k) (λ place. refl) claims

laid_tries : (k : ℕ) (x : Retired) (filled : Bool) → tried (entries_of k (Fill x.place x.buf filled ∷ laid_unless filled x.place)) ≡ item_of x ∷ []
laid_tries k x true = refl
laid_tries k x false = refl

fill_tries : (mode : Mode) (k : ℕ) (x : Retired) (es : List Event) → FillsOne mode x es → tried (entries_of k es) ≡ item_of x ∷ []
fill_tries mode k x es one =
    ap (λ l. tried (entries_of k l)) (one.is ∙ (ap (λ l. l ++ laid_unless one.filled x.place) one.fills.is
    ∙ append_assoc one.fills.front (Fill x.place x.buf one.filled ∷ []) (laid_unless one.filled x.place)))
    ∙ (tried_both k one.fills.front (Fill x.place x.buf one.filled ∷ laid_unless one.filled x.place)
    ∙ (ap (λ l. l ++ tried (entries_of k (Fill x.place x.buf one.filled ∷ laid_unless one.filled x.place)))
    (drops_hold mode (TryNothing k) one.dropped one.fills.front (nothing_holds mode k) one.fills.drops)
    ∙ laid_tries k x one.filled))

pub retired_tries : (mode : Mode) (k : ℕ) (xs : List Retired) (es : List Event) → FillsRetiredFor mode xs es → tried (entries_of k es) ≡ map item_of xs
retired_tries mode k [] es none = ap (λ l. tried (entries_of k l)) none
retired_tries mode k (x ∷ xs) es each =
    ap (λ l. tried (entries_of k l)) each.4
    ∙ (tried_both k each.0 each.1
    ∙ (ap (λ l. l ++ tried (entries_of k each.1)) (fill_tries mode k x each.0 each.2)
    ∙ ap (λ l. item_of x ∷ l) (retired_tries mode k xs each.1 each.3)))

pub served_fills : (mode : Mode) (k : ℕ) (c : AcqConfig) (s : State) (is : List Input) (es : List Event) → Serves mode c s is es → tried (entries_of k es) ≡ items_from c s is
served_fills mode k c s [] es none = ap (λ l. tried (entries_of k l)) none
served_fills mode k c s (i ∷ is) es each =
    ap (λ l. tried (entries_of k l)) each.6
    ∙ (tried_both k each.0 (each.1 ++ each.2)
    ∙ (ap (λ l. l ++ tried (entries_of k (each.1 ++ each.2))) (claims_try_nothing mode k i each.0 each.3)
    ∙ (tried_both k each.1 each.2
    ∙ (ap (λ l. l ++ tried (entries_of k each.2)) (retired_tries mode k (fills c.p (step c s i).retired) each.1 each.4)
    ∙ (ap (λ l. map item_of (fills c.p (step c s i).retired) ++ l) (served_fills mode k c (step c s i).after is each.2 each.5)
    ∙ sym joined)))))
  where
    joined : items_from c s (i ∷ is) ≡ map item_of (fills c.p (step c s i).retired) ++ items_from c (step c s i).after is
    joined =
        ap (λ l. map item_of l) (fills-append c.p (step c s i).retired (retired_from c (step c s i).after is))
        ∙ items-append (fills c.p (step c s i).retired) (fills c.p (retired_from c (step c s i).after is))

pub turns_fill : (mode : Mode) (k : ℕ) (c : AcqConfig) (s : State) (made : List Turned) (es : List Event) → ServesTurns mode c s made es → tried (entries_of k es) ≡ items_from c s (inputs_in made)
turns_fill mode k c s [] es none = ap (λ l. tried (entries_of k l)) none
turns_fill mode k c s (t ∷ ts) es each =
    ap (λ l. tried (entries_of k l)) each.4
    ∙ (tried_both k each.0 each.1
    ∙ (ap (λ l. l ++ tried (entries_of k each.1)) (served_fills mode k c s (inputs_of t) each.0 each.2)
    ∙ (ap (λ l. items_from c s (inputs_of t) ++ l) (turns_fill mode k c (after_from c s (inputs_of t)) ts each.1 each.3)
    ∙ sym (items_from-append c s (inputs_of t) (inputs_in ts)))))

pub readers_fill : (mode : Mode) (k : ℕ) (c : AcqConfig) (made : List Turned) (es fs : List Event) → ServesTurns mode c first_state made es
    → Serves mode c (After c (inputs_in made)) (stop ∷ []) fs → tried (entries_of k (es ++ fs)) ≡ items_from c first_state (inputs_in made ++ stop ∷ [])
readers_fill mode k c made es fs turns last =
    tried_both k es fs
    ∙ (ap (λ l. l ++ tried (entries_of k fs)) (turns_fill mode k c first_state made es turns)
    ∙ (ap (λ l. items_from c first_state (inputs_in made) ++ l) (served_fills mode k c (After c (inputs_in made)) (stop ∷ []) fs last)
    ∙ sym (items_from-append c first_state (inputs_in made) (stop ∷ []))))

-- ---- the client

then_one : (es xs : List ClientEvent) (x : ClientEvent) → and_then es (xs ++ x ∷ []) ≡ x ∷ and_then es xs
then_one es [] x = refl
then_one es (y ∷ xs) x = then_one (y ∷ es) xs x

then_both : (es xs ys : List ClientEvent) → and_then es (xs ++ ys) ≡ and_then (and_then es xs) ys
then_both es [] ys = refl
then_both es (x ∷ xs) ys = then_both (x ∷ es) xs ys

takes_then : (limit : ℕ) (es xs : List ClientEvent) (s : Client) → s ≡ after_events limit (and_then es xs) → taken s ≡ after_events limit (and_then es (xs ++ takes ∷ []))
takes_then limit es xs s is = ap taken is ∙ sym (ap (after_events limit) (then_one es xs takes))

tick_goes : (limit : ℕ) (es xs : List ClientEvent) (s : Client) (outcome : Outcome) → s ≡ after_events limit (and_then es xs)
    → (after_tick xs s outcome).state ≡ after_events limit (and_then es (after_tick xs s outcome).events)
tick_goes limit es xs s (Waiting req) is = takes_then limit es xs s is
tick_goes limit es xs s Idle is = takes_then limit es xs s is
tick_goes limit es xs s Acked is = takes_then limit es xs s is
tick_goes limit es xs s (Refused status) is = takes_then limit es xs s is
tick_goes limit es xs s (NoAnswer req) is = is

ticks_go : (limit : ℕ) (es xs : List ClientEvent) (s : Client) (moment : ℕ) → s ≡ after_events limit (and_then es xs)
    → (ticks_turn xs s moment).state ≡ after_events limit (and_then es (ticks_turn xs s moment).events)
ticks_go limit es xs s moment is =
    tick_goes limit es (xs ++ ticks moment ∷ []) (ticked s moment).client (ticked s moment).outcome
    (ap (λ (x : Client). (ticked x moment).client) is ∙ sym (ap (after_events limit) (then_one es xs (ticks moment))))

receive_goes : (limit : ℕ) (es xs : List ClientEvent) (s : Client) (outcome : Outcome) (moment : ℕ) → s ≡ after_events limit (and_then es xs)
    → (after_receive xs s outcome moment).state ≡ after_events limit (and_then es (after_receive xs s outcome moment).events)
receive_goes limit es xs s (Waiting req) moment is = ticks_go limit es xs s moment is
receive_goes limit es xs s Idle moment is = ticks_go limit es xs s moment is
receive_goes limit es xs s Acked moment is = ticks_go limit es xs s moment is
receive_goes limit es xs s (Refused status) moment is = is
receive_goes limit es xs s (NoAnswer req) moment is = ticks_go limit es xs s moment is

-- the client's part of a turn
turn_goes : (limit : ℕ) (es : List ClientEvent) (s : Client) (heard : Option Answer) (moment : ℕ) → s ≡ after_events limit es
    → (control_of s heard moment).state ≡ after_events limit (and_then es (control_of s heard moment).events)
turn_goes limit es s None moment is = is
turn_goes limit es s (Some failed) moment is = is
turn_goes limit es s (Some nothing) moment is = ticks_go limit es [] s moment is
turn_goes limit es s (Some (came bytes peer)) moment is =
    receive_goes limit es (receives bytes moment ∷ []) (received s bytes moment).client (received s bytes moment).outcome moment
    (ap (λ (x : Client). (received x bytes moment).client) is)

pub client_goes : (limit : ℕ) (c : AcqConfig) (q : List Input) (s u : Client) (made : List Turned) (es : List ClientEvent) → ControlEach c q s made u → s ≡ after_events limit es
    → u ≡ after_events limit (and_then es (client_events s made))
client_goes limit c q s u [] es same is = same ∙ is
client_goes limit c q s u (t ∷ ts) es each is =
    client_goes limit c (q ++ inputs_of t) (control_of s t.heard t.moment).state u ts (and_then es (control_of s t.heard t.moment).events) each.1
    (turn_goes limit es s t.heard t.moment is)
    ∙ sym (ap (after_events limit)
    (then_both es (control_of s t.heard t.moment).events (client_events (control_of s t.heard t.moment).state ts)))
