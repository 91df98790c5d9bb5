-- Turns of the receiver's state.
use Rattle.std.proofs.Common.{◌≡◌, List, [], ◌∷◌, ◌++◌, Bool, true, false, refl, sym, ap, subst, ◌∙◌}
use Rattle.std.specs.Prelude.{not, map, Option, Some, None, if◌then◌else◌}
use Rattle.stream_packets.specs.Packets.{StreamPacket, is_notice}
use Rattle.block_image.specs.Kept.{fits}
use Rattle.acquisition_machine.specs.declared.config.AcqConfig.{AcqConfig}
use Rattle.acquisition_machine.specs.declared.need.Need.{Need}
use Rattle.acquisition_machine.specs.declared.need.Need.TheVariants.{Done, Ignored}
use Rattle.acquisition_machine.specs.declared.need.Why.TheVariants.{Repeat, Misfit, Starved, Notice}
use Rattle.acquisition_machine.specs.Blocks.{Given, Open, fills, is_new}
use Rattle.acquisition_machine.specs.Machine.{State, Turn, leaving, staying, floor_after, settled, settles, ignored, noted, keeps, put, hears_open, hears_packet}
use Rattle.acq_core.specs.declared.window.Window.{Window}
use Rattle.acq_core.specs.Standing.{SlotsStand, Acts, asked_of, floor_of}
use Rattle.acq_core.specs.Ending.{ends_of}
use Rattle.acq_core.specs.Hearing.{need_given, need_in, heard_as}
use Rattle.acq_core.specs.Retiring.{ChangesSlots, RetiresAll}
use Rattle.acq_core.specs.Turning.{Gives, Answers, turn_of, with_heard}

pub append_nil : {X : Type 0} (xs : List X) → xs ++ [] ≡ xs
append_nil [] = refl
append_nil (x ∷ xs) = ap (λ l. x ∷ l) (append_nil xs)

-- settling is the machine's
pub settles_acts : (a b : Window) (s : State) → Acts a s → RetiresAll a b (leaving a.config a.moment s.opens) (staying a.config a.moment s.opens) → ChangesSlots a b → Acts b (settled a.config s)
settles_acts a b s acts r ch =
    let config : b.config ≡ a.config = ap (λ (m : Window). m.config) ch in
    let moment : a.moment ≡ s.now = acts.moment in
    record {
      moment = ap (λ (m : Window). m.moment) ch ∙ moment;
      floor = r.floor ∙ ap (λ low. floor_after low (leaving a.config a.moment s.opens)) acts.floor
          ∙ ap (λ now. floor_after s.floor (leaving a.config now s.opens)) moment;
      slots = subst (λ (k : AcqConfig). SlotsStand k.p b.slots.items (staying a.config s.now s.opens)) (sym config)
          (subst (λ now. SlotsStand a.config.p b.slots.items (staying a.config now s.opens)) moment r.slots);
      asked = ap (λ (m : Window). m.asked) ch ∙ acts.asked;
      counts = ap (λ (m : Window). m.counts) ch ∙ acts.counts;
      number = ap (λ (m : Window). m.number) ch ∙ acts.number;
    }

pub settles_gives : (a b : Window) (s : State) (need : Option Need) → Acts a s → RetiresAll a b (leaving a.config a.moment s.opens) (staying a.config a.moment s.opens) → ChangesSlots a b → Gives a b (settles a.config need s)
settles_gives a b s need acts r ch = record {
  acts = settles_acts a b s acts r ch;
  fills = r.fills ∙ ap (λ now. a.fills.items ++ fills a.config.p (leaving a.config now s.opens)) acts.moment;
  ends = r.ends ∙ ap (λ now. a.ends.items ++ ends_of a.telling a.config.p (floor_of a.floor) (leaving a.config now s.opens)) acts.moment;
  requests = ap (λ (m : Window). m.requests.items) ch ∙ sym (append_nil a.requests.items);
  config = ap (λ (m : Window). m.config) ch;
  telling = ap (λ (m : Window). m.telling) ch;
}

-- ---- a packet of an open block

turn_without : (c : AcqConfig) (x : StreamPacket) (o : Open) (s : State) (v w : Bool) → (if v then ignored Notice (noted x o s) else if w then ignored Misfit (noted x o s) else ignored Starved (noted x o s))
    ≡ turn_of c (if v then Ignored Notice else if w then Ignored Misfit else Ignored Starved) (record s { opens = put (heard_as s.now o x (if v then Ignored Notice else if w then Ignored Misfit else Ignored Starved)) s.opens })
turn_without c x o s true w = refl
turn_without c x o s false true = refl
turn_without c x o s false false = refl

turn_with : (c : AcqConfig) (x : StreamPacket) (o : Open) (s : State) (v w u : Bool) → (if v then ignored Notice (noted x o s) else if w then ignored Misfit (noted x o s) else if u then keeps c x o s else ignored Repeat (noted x o s))
    ≡ turn_of c (if v then Ignored Notice else if w then Ignored Misfit else if u then Done else Ignored Repeat) (record s { opens = put (heard_as s.now o x (if v then Ignored Notice else if w then Ignored Misfit else if u then Done else Ignored Repeat)) s.opens })
turn_with c x o s true w u = refl
turn_with c x o s false true u = refl
turn_with c x o s false false true = refl
turn_with c x o s false false false = refl

packet_given : (c : AcqConfig) (x : StreamPacket) (o : Open) (s : State) (given : Option Given) → (if is_notice x then ignored Notice (noted x o s) else if not (fits c.p x) then ignored Misfit (noted x o s) else hears_open c x o given s)
    ≡ turn_of c (need_given c.p o given x) (record s { opens = put (heard_as s.now o x (need_given c.p o given x)) s.opens })
packet_given c x o s None = turn_without c x o s (is_notice x) (not (fits c.p x))
packet_given c x o s (Some g) = turn_with c x o s (is_notice x) (not (fits c.p x)) (is_new c.p o x)

pub packet_turn : (c : AcqConfig) (x : StreamPacket) (o : Open) (s : State) → hears_packet c x (Some o) s ≡ turn_of c (need_in c.p o x) (with_heard c.p x o s)
packet_turn c x o s = packet_given c x o s o.given

-- the turn of a packet, from where it was noted
pub answers_packet : (a m b : Window) (s : State) (x : StreamPacket) (o : Open) (need answer : Need) → m ≡ record a { slots = m.slots } → need ≡ need_in a.config.p o x → Answers m b answer (turn_of m.config need (with_heard a.config.p x o s)) → Answers a b answer (hears_packet a.config x (Some o) s)
answers_packet a m b s x o need answer rest is r =
    let config : m.config ≡ a.config = ap (λ (k : Window). k.config) rest in
    let fills_is : m.fills.items ≡ a.fills.items = ap (λ (k : Window). k.fills.items) rest in
    let requests_is : m.requests.items ≡ a.requests.items = ap (λ (k : Window). k.requests.items) rest in
    let turn : turn_of m.config need (with_heard a.config.p x o s) ≡ hears_packet a.config x (Some o) s =
    ap (λ (c : AcqConfig). turn_of c need (with_heard a.config.p x o s)) config
    ∙ ap (λ n. turn_of a.config n (with_heard a.config.p x o s)) is ∙ sym (packet_turn a.config x o s) in
    let t : Answers m b answer (hears_packet a.config x (Some o) s) = subst (λ (t : Turn). Answers m b answer t) turn r in
    record {
      gives = record {
        acts = t.gives.acts;
        fills = t.gives.fills ∙ ap (λ l. l ++ fills m.config.p (hears_packet a.config x (Some o) s).retired) fills_is
            ∙ ap (λ (c : AcqConfig). a.fills.items ++ fills c.p (hears_packet a.config x (Some o) s).retired) config;
        ends = t.gives.ends ∙ ap (λ (k : Window). k.ends.items ++ ends_of k.telling k.config.p (floor_of k.floor) (hears_packet a.config x (Some o) s).retired) rest;
        requests = t.gives.requests ∙ ap (λ l. l ++ map asked_of (hears_packet a.config x (Some o) s).requests) requests_is;
        config = t.gives.config ∙ config;
        telling = t.gives.telling ∙ ap (λ (k : Window). k.telling) rest;
      };
      need = t.need;
    }
