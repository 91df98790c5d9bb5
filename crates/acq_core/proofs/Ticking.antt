-- A moment: blocks retire, and then the others do their rounds.
use Rattle.std.proofs.Common.{◌≡◌, ℕ, ◌+◌, ◌-◌, ◌^◌, List, [], ◌∷◌, ◌++◌, length, map, refl, sym, ap, subst, ◌∙◌, arith}
use Rattle.std.specs.Prelude.{min, max, None, vec_len}
use Rattle.std.proofs.lemmas.List.{length-map}
use Rattle.acquisition_machine.specs.declared.config.AcqConfig.{AcqConfig}
use Rattle.acquisition_machine.specs.declared.counts.Counts.{Counts}
use Rattle.acquisition_machine.specs.Blocks.{Open, Retirement}
use Rattle.acquisition_machine.specs.Machine.{State, leaving, staying, settled, requests_of, number_past, after_rounds, asks, tick, step}
use Rattle.acq_core.specs.declared.asked.Asked.{Asked}
use Rattle.acq_core.specs.declared.window.Window.{Window}
use Rattle.acq_core.specs.Standing.{SlotsStand, Acts, asked_of, floor_of, capped}
use Rattle.acq_core.specs.Retiring.{ChangesSlots, RetiresAll}
use Rattle.acq_core.specs.Rounds.{AsksAll}
use Rattle.acq_core.specs.Turning.{Gives}
use Rattle.acq_core.proofs.Acting.{settles_gives}

-- the moment was told, if it is a later one
abbrev pub told : Window → ℕ → Window
told m moment = record m { asked = None; moment = max m.moment moment }

abbrev told_state : State → ℕ → State
told_state s moment = record s { asked = None; now = max s.now moment }

acts_told : (m : Window) (s : State) (moment : ℕ) → Acts m s → Acts (told m moment) (told_state s moment)
acts_told m s moment acts = record {
  moment = ap (λ k. max k moment) acts.moment;
  floor = acts.floor;
  slots = acts.slots;
  asked = refl;
  counts = acts.counts;
  number = acts.number;
}

-- so many requests are counted
counted : (a : Window) (k : Counts) (made more total : ℕ) → a.counts ≡ capped k → made ≡ more → total ≡ min (a.counts.requests + made) (2 ^ 64 - 1)
    → record a.counts { requests = total } ≡ capped (record k { requests = k.requests + more })
counted a k made more total is same e =
    let before : a.counts.requests ≡ min k.requests (2 ^ 64 - 1) = ap (λ (n : Counts). n.requests) is in
    let all : total ≡ min (k.requests + more) (2 ^ 64 - 1) = omega arith in
    ap (λ (n : Counts). record n { requests = total }) is ∙ ap (λ n. record (capped k) { requests = n }) all

-- what the rounds add, where nothing waited
asked_now : (a b : Window) (s : State) → Acts a s → AsksAll a b s.opens → a.requests.items ≡ [] → b.requests.items ≡ map asked_of (requests_of a.config s.now s.number s.opens)
asked_now a b s acts r none =
    r.requests ∙ ap (λ l. l ++ map asked_of (requests_of a.config a.moment a.number s.opens)) none
    ∙ ap (λ now. map asked_of (requests_of a.config now a.number s.opens)) acts.moment ∙ ap (λ n. map asked_of (requests_of a.config s.now n s.opens)) acts.number

asks_acts : (a b : Window) (s : State) (rs : List Retirement) (total : ℕ) → Acts a s → AsksAll a b s.opens → b ≡ record a { slots = b.slots; number = b.number; requests = b.requests }
    → a.requests.items ≡ [] → total ≡ min (b.counts.requests + vec_len b.requests) (2 ^ 64 - 1) → Acts (record b { counts = record b.counts { requests = total } }) (asks a.config rs s).after
asks_acts a b s rs total acts r rest none e =
    let config : b.config ≡ a.config = ap (λ (m : Window). m.config) rest in
    let made : vec_len b.requests ≡ length (requests_of a.config s.now s.number s.opens) =
    b.requests.ok.0 ∙ ap length (asked_now a b s acts r none) ∙ length-map (requests_of a.config s.now s.number s.opens) asked_of in
    record {
      moment = ap (λ (m : Window). m.moment) rest ∙ acts.moment;
      floor = ap (λ (m : Window). floor_of m.floor) rest ∙ acts.floor;
      slots = subst (λ (k : AcqConfig). SlotsStand k.p b.slots.items (after_rounds a.config s.now s.opens)) (sym config)
          (subst (λ now. SlotsStand a.config.p b.slots.items (after_rounds a.config now s.opens)) acts.moment r.slots);
      asked = ap (λ (m : Window). m.asked) rest ∙ acts.asked;
      counts = counted b s.counts (vec_len b.requests) (length (requests_of a.config s.now s.number s.opens)) total (ap (λ (m : Window). m.counts) rest ∙ acts.counts) made e;
      number = r.number ∙ ap (λ now. number_past a.config now a.number s.opens) acts.moment ∙ ap (λ n. number_past a.config s.now n s.opens) acts.number;
    }

none_waits : (m : Window) → vec_len m.requests ≡ 0 → m.requests.items ≡ []
none_waits m none = empty m.requests.items (sym m.requests.ok.0 ∙ none) where
  empty : (xs : List Asked) → length xs ≡ 0 → xs ≡ []
  empty [] e = refl
  empty (x ∷ xs) e = absurd (omega arith)

-- the turn
pub tick_gives : (a b n : Window) (s : State) (moment total : ℕ) → Acts a s → vec_len a.requests ≡ 0
    → ((os : List Open) → SlotsStand a.config.p a.slots.items os → RetiresAll (told a moment) b (leaving a.config (max a.moment moment) os) (staying a.config (max a.moment moment) os))
    → ChangesSlots (told a moment) b → ((os : List Open) → SlotsStand b.config.p b.slots.items os → AsksAll b n os)
    → n ≡ record b { slots = n.slots; number = n.number; requests = n.requests } → total ≡ min (n.counts.requests + vec_len n.requests) (2 ^ 64 - 1)
    → Gives a (record n { counts = record n.counts { requests = total } }) (step a.config s (tick moment))
tick_gives a b n s moment total acts drained retires ch asks_all rest e =
    let t : State = told_state s moment in
    let rs : List Retirement = leaving a.config t.now t.opens in
    let g = settles_gives (told a moment) b t None (acts_told a s moment acts) (retires s.opens acts.slots) ch in
    let none : b.requests.items ≡ [] = ap (λ (m : Window). m.requests.items) ch ∙ none_waits a drained in
    let r : AsksAll b n (settled a.config t).opens = asks_all (settled a.config t).opens g.acts.slots in
    record {
      acts = subst (λ (k : AcqConfig). Acts (record n { counts = record n.counts { requests = total } }) (asks k rs (settled a.config t)).after) g.config
          (asks_acts b n (settled a.config t) rs total g.acts r rest none e);
      fills = ap (λ (m : Window). m.fills.items) rest ∙ g.fills;
      ends = ap (λ (m : Window). m.ends.items) rest ∙ g.ends;
      requests = asked_now b n (settled a.config t) g.acts r none ∙ ap (λ (k : AcqConfig). map asked_of (requests_of k t.now t.number (settled a.config t).opens)) g.config
          ∙ ap (λ l. l ++ map asked_of (requests_of a.config t.now t.number (settled a.config t).opens)) (sym (none_waits a drained));
      config = ap (λ (m : Window). m.config) rest ∙ g.config;
      telling = ap (λ (m : Window). m.telling) rest ∙ g.telling;
    }
