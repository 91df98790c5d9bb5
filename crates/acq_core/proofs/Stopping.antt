-- All blocks retire.
use Rattle.std.proofs.Common.{◌≡◌, ℕ, ◌+◌, ◌<◌, List, [], ◌∷◌, ◌++◌, length, Bool, refl, sym, ap, subst, ◌∙◌, append_assoc, arith}
use Rattle.std.specs.Prelude.{Some, None, vec_len}
use Rattle.acquisition_machine.specs.declared.config.AcqConfig.{AcqConfig}
use Rattle.acquisition_machine.specs.Blocks.{Open, given_back, fills}
use Rattle.acquisition_machine.specs.Machine.{State, stop, restart, floor_after, all_stopped, step}
use Rattle.gev_types.specs.declared.block_account.Cause.TheVariants.{Stopped}
use Rattle.acq_core.specs.declared.window.Window.{Window}
use Rattle.acq_core.specs.Standing.{SlotsStand, AreSlots, Acts, floor_of, HasRoom}
use Rattle.acq_core.specs.Ending.{end_of, told_end, ends_of}
use Rattle.acq_core.specs.Retiring.{ChangesSlots, RetiresFirst, RetiresAll}
use Rattle.acq_core.specs.Turning.{Gives}
use Rattle.acq_core.proofs.Acting.{append_nil}
use Rattle.acq_core.proofs.Settling.{no_left, mid_config, mid_telling, slots_left}

-- how far stopping has come from the blocks with which it began
pub record StopsTo (first last : Window) (os : List Open) : Type 0 where
  pub left : List Open
  pub slots : SlotsStand first.config.p last.slots.items left
  pub fills : last.fills.items ++ fills first.config.p (all_stopped left) ≡ first.fills.items ++ fills first.config.p (all_stopped os)
  pub ends : last.ends.items ++ ends_of first.telling first.config.p (floor_of last.floor) (all_stopped left) ≡ first.ends.items ++ ends_of first.telling first.config.p (floor_of first.floor) (all_stopped os)
  pub floor : floor_after (floor_of last.floor) (all_stopped left) ≡ floor_after (floor_of first.floor) (all_stopped os)

pub record Stopping (first last : Window) : Type 0 where
  pub part : (os : List Open) → SlotsStand first.config.p first.slots.items os → StopsTo first last os
  pub slots : AreSlots last
  pub changes : ChangesSlots first last
  pub room : HasRoom last

stop_left : (first mid last : Window) (os left : List Open) → SlotsStand first.config.p mid.slots.items left → mid.config ≡ first.config → mid.telling ≡ first.telling → 0 < length mid.slots.items
    → ((o : Open) (rest : List Open) → SlotsStand mid.config.p mid.slots.items (o ∷ rest) → RetiresFirst mid last Stopped o rest)
    → mid.fills.items ++ fills first.config.p (all_stopped left) ≡ first.fills.items ++ fills first.config.p (all_stopped os)
    → mid.ends.items ++ ends_of first.telling first.config.p (floor_of mid.floor) (all_stopped left) ≡ first.ends.items ++ ends_of first.telling first.config.p (floor_of first.floor) (all_stopped os)
    → floor_after (floor_of mid.floor) (all_stopped left) ≡ floor_after (floor_of first.floor) (all_stopped os)
    → StopsTo first last os
stop_left first mid last os [] s config tell some r fill end floor = absurd (no_left first.config.p mid.slots.items s some)
stop_left first mid last os (o ∷ left) s config tell some r fill end floor =
    let one = r o left (subst (λ (k : AcqConfig). SlotsStand k.p mid.slots.items (o ∷ left)) (sym config) s) in
    let p : ℕ = first.config.p in
    let t : Bool = first.telling in
    record {
      left = left;
      slots = subst (λ (k : AcqConfig). SlotsStand k.p last.slots.items left) config one.slots;
      fills = ap (λ l. l ++ fills p (all_stopped left)) (one.fills ∙ ap (λ (k : AcqConfig). mid.fills.items ++ given_back k.p Stopped o o.given) config)
          ∙ append_assoc mid.fills.items (given_back p Stopped o o.given) (fills p (all_stopped left)) ∙ fill;
      ends = ap (λ l. l ++ ends_of t p (floor_of last.floor) (all_stopped left)) (one.ends ∙ ap (λ (k : AcqConfig). mid.ends.items ++ told_end mid.telling (end_of k.p (floor_of mid.floor) Stopped o)) config
          ∙ ap (λ (v : Bool). mid.ends.items ++ told_end v (end_of p (floor_of mid.floor) Stopped o)) tell)
          ∙ ap (λ (k : ℕ). (mid.ends.items ++ told_end t (end_of p (floor_of mid.floor) Stopped o)) ++ ends_of t p k (all_stopped left)) one.floor
          ∙ append_assoc mid.ends.items (told_end t (end_of p (floor_of mid.floor) Stopped o)) (ends_of t p (o.block + 1) (all_stopped left)) ∙ end;
      floor = ap (λ k. floor_after k (all_stopped left)) one.floor ∙ floor;
    }

pub stopping_one : (first mid last : Window) → Stopping first mid → 0 < vec_len mid.slots
    → ((o : Open) (rest : List Open) → SlotsStand mid.config.p mid.slots.items (o ∷ rest) → RetiresFirst mid last Stopped o rest)
    → ChangesSlots mid last → HasRoom last → Stopping first last
stopping_one first mid last s some r ch room =
    let count : mid.slots.len ≡ length mid.slots.items = mid.slots.ok.0 in
    let more : 0 < length mid.slots.items = omega arith in
    record {
      part = λ os stands.
          let m = s.part os stands in
          stop_left first mid last os m.left m.slots (mid_config first mid s.changes) (mid_telling first mid s.changes) more r m.fills m.ends m.floor;
      slots = slots_left mid last s.slots.0 Stopped s.slots.1 (mid_config mid last ch) more r;
      changes = ch ∙ ap (λ (m : Window). record m { floor = last.floor; slots = last.slots; spare = last.spare; fills = last.fills; ends = last.ends }) s.changes;
      room = room;
    }

-- the turn
pub stop_gives : (a b : Window) (s : State) → Acts a s → RetiresAll (record a { asked = None }) b (all_stopped s.opens) [] → ChangesSlots (record a { asked = None }) b → Gives a b (step a.config s stop)
stop_gives a b s acts r ch =
    let config : b.config ≡ a.config = ap (λ (m : Window). m.config) ch in
    record {
      acts = record {
        moment = ap (λ (m : Window). m.moment) ch ∙ acts.moment;
        floor = r.floor ∙ ap (λ low. floor_after low (all_stopped s.opens)) acts.floor;
        slots = subst (λ (k : AcqConfig). SlotsStand k.p b.slots.items []) (sym config) r.slots;
        asked = ap (λ (m : Window). m.asked) ch;
        counts = ap (λ (m : Window). m.counts) ch ∙ acts.counts;
        number = ap (λ (m : Window). m.number) ch ∙ acts.number;
      };
      fills = r.fills;
      ends = r.ends;
      requests = ap (λ (m : Window). m.requests.items) ch ∙ sym (append_nil a.requests.items);
      config = config;
      telling = ap (λ (m : Window). m.telling) ch;
    }

pub restart_gives : (a : Window) (s : State) → Acts a s → Gives a (record a { asked = None; floor = Some 1 }) (step a.config s restart)
restart_gives a s acts = record {
  acts = record { moment = acts.moment; floor = refl; slots = acts.slots; asked = refl; counts = acts.counts; number = acts.number };
  fills = sym (append_nil a.fills.items);
  ends = sym (append_nil a.ends.items);
  telling = refl;
  requests = sym (append_nil a.requests.items);
  config = refl;
}
