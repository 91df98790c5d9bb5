-- A receiver takes one more input.
use Rattle.std.proofs.Common.{◌≡◌, ℕ, ◌+◌, ◌≤◌, List, [], ◌∷◌, ◌++◌, length, map, refl, sym, ap, subst, ◌∙◌, append_assoc, arith}
use Rattle.std.specs.Prelude.{max, Option, Some, None, vec_len, vec_capacity}
use Rattle.std.specs.List.{AllByRecursion}
use Rattle.std.proofs.lemmas.List.{map-append, length-append}
use Rattle.stream_packets.specs.Packets.{StreamPacket}
use Rattle.acquisition_machine.specs.declared.config.AcqConfig.{AcqConfig}
use Rattle.acquisition_machine.specs.declared.retired.Retired.{Retired}
use Rattle.acquisition_machine.specs.declared.need.Need.{Need}
use Rattle.acquisition_machine.specs.Blocks.{Given, Open, Retirement, fill_of, fills}
use Rattle.acquisition_machine.specs.Machine.{Input, datagram, claimed, tick, stop, restart, State, Turn, Request, request_bytes, settled, unasked, step}
use Rattle.acquisition_machine.specs.Runs.{first_state, After, turn}
use Rattle.acquisition_machine.specs.TurnLaws.{with_given, held, given_of, GivesBack, TakesGiven, asked_by}
use Rattle.acquisition_machine.specs.Sound.{IsSound, IsRequestNumber}
use Rattle.acquisition_machine.proofs.Order.{all_append}
use Rattle.acquisition_machine.proofs.Retiring.{were}
use Rattle.acquisition_machine.proofs.Numbers.{of_numbered}
use Rattle.acquisition_machine.proofs.Turned.{turned}
use Rattle.acquisition_machine.proofs.Joining.{after_from-append}
use Rattle.acquisition_machine.proofs.Window.{room_changed, length-opens, step_sound, blocks_are_in_order}
use Rattle.acquisition_machine.proofs.Counting.{datagrams_ask_nothing, claims_follow_buffer}
use Rattle.acquisition_machine.proofs.Buffers.{keeps_buffers}
use Rattle.acq_core.specs.declared.asked.Asked.{Asked}
use Rattle.acq_core.specs.declared.slot.Slot.{Slot}
use Rattle.acq_core.specs.declared.slot.Hold.{Hold}
use Rattle.acq_core.specs.declared.slot.Hold.TheVariants.{Without, With}
use Rattle.acq_core.specs.declared.window.Window.{Window}
use Rattle.acq_core.specs.Standing.{HoldsFor, SlotsStand, Acts, HasRoom, HasPlace, asked_of, floor_of}
use Rattle.acq_core.specs.Turning.{Gives, Answers}
use Rattle.acq_core.specs.Ending.{ends_of}
use Rattle.acq_core.specs.Waiting.{asked_bytes, waiting_fills, waiting_requests, waiting_ends, AreNumbered}
use Rattle.acq_core.specs.Receiver.{config_of, open_count, given_in, given_to, buffers, Stands, ReceiversShowTheirInputs, Takes, KeepsBuffers, IsReceiver}
use Rattle.acq_core.proofs.Wanting.{length-stand}

-- ---- buffers and the number of open blocks

hold_given : (p b : ℕ) (hold : Hold) (given : Option Given) (heard : List StreamPacket) → HoldsFor p b hold given heard → given_in hold ≡ given
hold_given p b (Without spare) None heard h = refl
hold_given p b (Without spare) (Some g) heard h = absurd h
hold_given p b (With place a) None heard h = absurd h
hold_given p b (With place a) (Some g) heard h =
    ap (λ k. Some (record { place = k; size = a.size })) h.place ∙ ap (λ k. Some (record { place = g.place; size = k })) h.stands.buffer_size

given_held : (p : ℕ) (xs : List Slot) (os : List Open) → SlotsStand p xs os → given_to xs ≡ held os
given_held p [] [] s = refl
given_held p [] (o ∷ os) s = absurd s
given_held p (x ∷ xs) [] s = absurd s
given_held p (x ∷ xs) (o ∷ os) s =
    ap (λ g. with_given g (given_to xs)) (hold_given p o.block x.hold o.given o.heard s.0.hold) ∙ ap (with_given o.given) (given_held p xs os s.1)

pub buffers_held : (m : Window) (s : State) → Acts m s → buffers m ≡ held s.opens
buffers_held m s acts = given_held m.config.p m.slots.items s.opens acts.slots

pub opens_count : (m : Window) (s : State) → Acts m s → open_count m ≡ length s.opens
opens_count m s acts = length-stand m.config.p m.slots.items s.opens acts.slots

pub receivers_show : ReceiversShowTheirInputs
receivers_show m q s = record {
  buffers = buffers_held m (After (config_of m) q) s;
  opens = opens_count m (After (config_of m) q) s;
  asked = s.asked;
}

-- ---- requests

bytes_made : (rs : List Request) → map asked_bytes (map asked_of rs) ≡ map request_bytes rs
bytes_made [] = refl
bytes_made (r ∷ rs) = ap (λ l. request_bytes r ∷ l) (bytes_made rs)

requests_added : (xs ys : List Asked) (rs : List Request) → ys ≡ xs ++ map asked_of rs → map asked_bytes ys ≡ map asked_bytes xs ++ map request_bytes rs
requests_added xs ys rs e =
    ap (map asked_bytes) e ∙ map-append asked_bytes xs (map asked_of rs) ∙ ap (λ l. map asked_bytes xs ++ l) (bytes_made rs)

resends_made : (rs : List Request) → map (λ (a : Asked). a.resend) (map asked_of rs) ≡ map (λ (r : Request). r.resend) rs
resends_made [] = refl
resends_made (r ∷ rs) = ap (λ l. r.resend ∷ l) (resends_made rs)

resends_added : (xs ys : List Asked) (rs : List Request) → ys ≡ xs ++ map asked_of rs → map (λ (a : Asked). a.resend) ys ≡ map (λ (a : Asked). a.resend) xs ++ map (λ (r : Request). r.resend) rs
resends_added xs ys rs e =
    ap (map (λ (a : Asked). a.resend)) e ∙ map-append (λ (a : Asked). a.resend) xs (map asked_of rs) ∙ ap (λ l. map (λ (a : Asked). a.resend) xs ++ l) (resends_made rs)

made_numbered : (rs : List Request) → AllByRecursion (λ q. IsRequestNumber q.number) rs → AllByRecursion (λ a. 1 ≤ a.number) (map asked_of rs)
made_numbered [] a = tt
made_numbered (r ∷ rs) a = (a.0.from_one, made_numbered rs a.1)

turn_numbered : (c : AcqConfig) (s : State) (i : Input) → IsSound c s → AllByRecursion (λ q. IsRequestNumber q.number) (step c s i).requests
turn_numbered c s (datagram bytes) sound =
    subst (λ l. AllByRecursion (λ (q : Request). IsRequestNumber q.number) l) (sym (datagrams_ask_nothing c s bytes)) tt
turn_numbered c s (claimed given) sound = tt
turn_numbered c s (tick moment) sound =
    let t : State = record (unasked s) { now = max s.now moment } in
    of_numbered c t.now t.number (settled c t).opens sound.number
turn_numbered c s stop sound = tt
turn_numbered c s restart sound = tt

-- ---- room for one more fill

fill_few : (p : ℕ) (r : Retirement) (given : Option Given) → length (fill_of p r given) ≤ 1
fill_few p r None = omega arith
fill_few p r (Some g) = omega arith

fills_few : (p : ℕ) (rs : List Retirement) → length (fills p rs) ≤ length (were rs)
fills_few p [] = omega arith
fills_few p (r ∷ rs) =
    let one = fill_few p r r.was.given in
    let rest = fills_few p rs in
    let all = length-append (fill_of p r r.was.given) (fills p rs) in
    omega (arith, one, rest, all)

-- what retires with a buffer and what stays open are no more than the window has
turn_room : (c : AcqConfig) (s : State) (i : Input) → 1 ≤ c.window → IsSound c s → length (fills c.p (step c s i).retired) + length (step c s i).after.opens ≤ c.window
turn_room c s i some sound =
    let t : Turn = step c s i in
    let d = turned c s i some sound in
    let few = fills_few c.p t.retired in
    let both = length-append (were t.retired) d.rest in
    let parts = ap length d.parts in
    let same = length-opens c t.after.now d.rest t.after.opens d.opens in
    let room = room_changed c s sound d.changed in
    omega (arith, few, both, parts, same, room)

pub place_drained : (m n : Window) (s : State) (i : Input) → 1 ≤ m.config.window → IsSound m.config s → waiting_fills m ≡ [] → Gives m n (step m.config s i) → HasPlace n
place_drained m n s i some sound drained g =
    let room = turn_room m.config s i some sound in
    let fill = ap length (g.fills ∙ ap (λ l. l ++ fills m.config.p (step m.config s i).retired) drained) in
    let opens = opens_count n (step m.config s i).after g.acts in
    let fills_len : n.fills.len ≡ length n.fills.items = n.fills.ok.0 in
    let slots_len : n.slots.len ≡ length n.slots.items = n.slots.ok.0 in
    let window = ap (λ (c : AcqConfig). c.window) g.config in
    omega (arith, room, fill, opens, fills_len, slots_len, window)

-- ---- one more input

pub receiver_after : (m n : Window) (s : State) (i : Input) → IsReceiver m → Acts m s → IsSound m.config s → Gives m n (step m.config s i) → HasRoom n → ((b : ℕ) → n.asked ≡ Some b → HasPlace n) → IsReceiver n
receiver_after m n s i is acts sound g room place = record {
  acts = record {
    state = (step m.config s i).after;
    acts = g.acts;
    sound = subst (λ (c : AcqConfig). IsSound c (step m.config s i).after) (sym g.config) (step_sound m.config s i is.room.config.window_some sound);
  };
  room = room;
  numbered = subst (λ l. AllByRecursion (λ (a : Asked). 1 ≤ a.number) l) (sym g.requests)
      (all_append (λ (a : Asked). 1 ≤ a.number) m.requests.items (map asked_of (step m.config s i).requests) is.numbered
      (made_numbered (step m.config s i).requests (turn_numbered m.config s i sound)));
  place = place;
}

pub receiver_drained : (m n : Window) (i : Input) → IsReceiver m → waiting_fills m ≡ [] → ((s : State) → Acts m s → IsSound m.config s → Gives m n (step m.config s i)) → HasRoom n → IsReceiver n
receiver_drained m n i is drained f room =
    let s : State = is.acts.state in
    let g = f s is.acts.acts is.acts.sound in
    receiver_after m n s i is is.acts.acts is.acts.sound g room
    (λ b e. place_drained m n s i is.room.config.window_some is.acts.sound drained g)

-- no claim is awaited after it
pub receiver_unasked : (m n : Window) (i : Input) → IsReceiver m → ((s : State) → Acts m s → IsSound m.config s → Gives m n (step m.config s i)) → HasRoom n → n.asked ≡ None → IsReceiver n
receiver_unasked m n i is f room none =
    receiver_after m n is.acts.state i is is.acts.acts is.acts.sound (f is.acts.state is.acts.acts is.acts.sound) room (λ b e. absurd cc)

stands_after : (m n : Window) (q : List Input) (i : Input) → Gives m n (turn m.config q i) → Stands n (q ++ i ∷ [])
stands_after m n q i g =
    subst (λ s. Acts n s) (sym (after_from-append n.config first_state q (i ∷ [])))
    (subst (λ (c : AcqConfig). Acts n (turn c q i).after) (sym g.config) g.acts)

-- nothing that was told before waits
ends_alone : (m n : Window) (s : State) (i : Input) → waiting_ends m ≡ [] → Acts m s → Gives m n (step m.config s i) → waiting_ends n ≡ ends_of m.telling m.config.p s.floor (step m.config s i).retired
ends_alone m n s i none acts g =
    g.ends ∙ ap (λ l. l ++ ends_of m.telling m.config.p (floor_of m.floor) (step m.config s i).retired) none
    ∙ ap (λ k. ends_of m.telling m.config.p k (step m.config s i).retired) acts.floor

pub takes : (m n : Window) (i : Input) → IsReceiver m → waiting_ends m ≡ [] → ((s : State) → Acts m s → IsSound m.config s → Gives m n (step m.config s i)) → Takes m n i
takes m n i is none f =
    let some : 1 ≤ m.config.window = is.room.config.window_some in
    record {
      stands = λ q s. stands_after m n q i (f (After m.config q) s (blocks_are_in_order m.config q some));
      fills = λ q s. (f (After m.config q) s (blocks_are_in_order m.config q some)).fills;
      requests = λ q s. requests_added m.requests.items n.requests.items (turn m.config q i).requests (f (After m.config q) s (blocks_are_in_order m.config q some)).requests;
      resends = λ q s. resends_added m.requests.items n.requests.items (turn m.config q i).requests (f (After m.config q) s (blocks_are_in_order m.config q some)).requests;
      ends = λ q s. ends_alone m n (After m.config q) i none s (f (After m.config q) s (blocks_are_in_order m.config q some));
      buffers = λ q s. buffers_held n (turn m.config q i).after (f (After m.config q) s (blocks_are_in_order m.config q some)).acts;
      opens = λ q s. opens_count n (turn m.config q i).after (f (After m.config q) s (blocks_are_in_order m.config q some)).acts;
      config = (f is.acts.state is.acts.acts is.acts.sound).config;
      telling = (f is.acts.state is.acts.acts is.acts.sound).telling;
    }

-- ---- buffers

kept_each : (m n : Window) (s : State) (t : Turn) → Acts m s → Gives m n t → GivesBack m.config.p s.opens t → KeepsBuffers m n
kept_each m n s t acts g back =
    let were_there : List Given = map given_of m.fills.items in
    let back_now : List Retired = fills m.config.p t.retired in
    ap (λ l. map given_of l ++ buffers n) g.fills
    ∙ ap (λ l. l ++ buffers n) (map-append given_of m.fills.items back_now)
    ∙ append_assoc were_there (map given_of back_now) (buffers n)
    ∙ ap (λ l. were_there ++ (map given_of back_now ++ l)) (buffers_held n t.after g.acts)
    ∙ ap (λ l. were_there ++ l) (back ∙ sym (buffers_held m s acts))

pub keeps_datagram : (m n : Window) (bytes : List ℕ) → IsReceiver m → ((s : State) → Acts m s → IsSound m.config s → Gives m n (step m.config s (datagram bytes))) → KeepsBuffers m n
keeps_datagram m n bytes is f =
    let s : State = is.acts.state in
    kept_each m n s (step m.config s (datagram bytes)) is.acts.acts (f s is.acts.acts is.acts.sound)
    (keeps_buffers m.config s (datagram bytes) is.room.config.window_some is.acts.sound)

pub keeps_tick : (m n : Window) (moment : ℕ) → IsReceiver m → ((s : State) → Acts m s → IsSound m.config s → Gives m n (step m.config s (tick moment))) → KeepsBuffers m n
keeps_tick m n moment is f =
    let s : State = is.acts.state in
    kept_each m n s (step m.config s (tick moment)) is.acts.acts (f s is.acts.acts is.acts.sound)
    (keeps_buffers m.config s (tick moment) is.room.config.window_some is.acts.sound)

pub keeps_stop : (m n : Window) → IsReceiver m → ((s : State) → Acts m s → IsSound m.config s → Gives m n (step m.config s stop)) → KeepsBuffers m n
keeps_stop m n is f =
    let s : State = is.acts.state in
    kept_each m n s (step m.config s stop) is.acts.acts (f s is.acts.acts is.acts.sound)
    (keeps_buffers m.config s stop is.room.config.window_some is.acts.sound)

pub takes_given : (m n : Window) (given : Option Given) → IsReceiver m → ((s : State) → Acts m s → IsSound m.config s → Gives m n (step m.config s (claimed given))) → TakesGiven given m.asked (buffers m) (buffers n)
takes_given m n given is f =
    let s : State = is.acts.state in
    let t : Turn = step m.config s (claimed given) in
    let g = f s is.acts.acts is.acts.sound in
    subst (λ asked. TakesGiven given asked (buffers m) (buffers n)) (sym is.acts.acts.asked)
    (subst (λ l. TakesGiven given s.asked l (buffers n)) (sym (buffers_held m s is.acts.acts))
    (subst (λ l. TakesGiven given s.asked (held s.opens) l) (sym (buffers_held n t.after g.acts))
    (keeps_buffers m.config s (claimed given) is.room.config.window_some is.acts.sound).1))

-- the block for which a buffer is asked
pub asked_then : (m n : Window) (i : Input) (answer : Option Need) → IsReceiver m → ((s : State) → Acts m s → IsSound m.config s → Gives m n (step m.config s i)) → ((s : State) → Acts m s → IsSound m.config s → (step m.config s i).need ≡ answer) → n.asked ≡ asked_by answer
asked_then m n i answer is f need =
    let s : State = is.acts.state in
    (f s is.acts.acts is.acts.sound).acts.asked ∙ claims_follow_buffer m.config s i ∙ ap asked_by (need s is.acts.acts is.acts.sound)

-- ---- a datagram

pub answered : (m n : Window) (answer : Need) (bytes : List ℕ) → IsReceiver m → ((s : State) → Acts m s → IsSound m.config s → Answers m n answer (step m.config s (datagram bytes))) → (q : List Input) → Stands m q → (turn m.config q (datagram bytes)).need ≡ Some answer
answered m n answer bytes is f q s = (f (After m.config q) s (blocks_are_in_order m.config q is.room.config.window_some)).need

-- it makes no request
pub requests_same : (m n : Window) (bytes : List ℕ) → IsReceiver m → ((s : State) → Acts m s → IsSound m.config s → Gives m n (step m.config s (datagram bytes))) → waiting_requests m ≡ [] → waiting_requests n ≡ []
requests_same m n bytes is f none =
    let s : State = is.acts.state in
    requests_added m.requests.items n.requests.items (step m.config s (datagram bytes)).requests (f s is.acts.acts is.acts.sound).requests
    ∙ ap (λ l. l ++ map request_bytes (step m.config s (datagram bytes)).requests) none
    ∙ ap (map request_bytes) (datagrams_ask_nothing m.config s bytes)

-- ---- nothing is open

no_opens : (os : List Open) → length os ≡ 0 → os ≡ []
no_opens [] e = refl
no_opens (o ∷ os) e = absurd (omega arith)

pub none_after : (m n : Window) (s : State) → Acts n s → s.opens ≡ [] → (buffers n ≡ []) × (open_count n ≡ 0)
none_after m n s acts none = (buffers_held n s acts ∙ ap held none, opens_count n s acts ∙ ap length none)

pub none_restarted : (m n : Window) → IsReceiver m → open_count m ≡ 0 → ((s : State) → Acts m s → IsSound m.config s → Gives m n (step m.config s restart)) → (buffers n ≡ []) × (open_count n ≡ 0)
none_restarted m n is none f =
    let s : State = is.acts.state in
    none_after m n (step m.config s restart).after (f s is.acts.acts is.acts.sound).acts
    (no_opens s.opens (sym (opens_count m s is.acts.acts) ∙ none))

pub none_stopped : (m n : Window) → IsReceiver m → ((s : State) → Acts m s → IsSound m.config s → Gives m n (step m.config s stop)) → (buffers n ≡ []) × (open_count n ≡ 0)
none_stopped m n is f =
    let s : State = is.acts.state in
    none_after m n (step m.config s stop).after (f s is.acts.acts is.acts.sound).acts refl

-- ---- what waits is taken

pub fill_taken : (m n : Window) → IsReceiver m → n ≡ record m { fills = n.fills } → vec_len n.fills ≤ vec_len m.fills → vec_capacity n.fills ≡ vec_capacity m.fills → IsReceiver n
fill_taken m n is rest fewer capacity =
    let before = is.room.fills in
    let all = is.room.fills_all in
    subst IsReceiver (sym rest) (record {
      acts = record { state = is.acts.state; acts = record { moment = is.acts.acts.moment; floor = is.acts.acts.floor; slots = is.acts.acts.slots; asked = is.acts.acts.asked; counts = is.acts.acts.counts; number = is.acts.acts.number }; sound = is.acts.sound };
      room = record {
        config = is.room.config;
        slots = is.room.slots;
        spare = is.room.spare;
        fills = omega (arith, before, fewer, capacity);
        fills_all = omega (arith, all, capacity);
        ends = is.room.ends;
        ends_all = is.room.ends_all;
        pairs = is.room.pairs;
        wide = is.room.wide;
        requests = is.room.requests;
      };
      numbered = is.numbered;
      place = λ b e. let place = is.place b e in omega (arith, place, fewer);
    })

pub request_taken : (m n : Window) → IsReceiver m → n ≡ record m { requests = n.requests } → AreNumbered n → vec_capacity n.requests ≡ vec_capacity m.requests → IsReceiver n
request_taken m n is rest numbered capacity =
    let all = is.room.requests in
    subst IsReceiver (sym rest) (record {
      acts = record { state = is.acts.state; acts = record { moment = is.acts.acts.moment; floor = is.acts.acts.floor; slots = is.acts.acts.slots; asked = is.acts.acts.asked; counts = is.acts.acts.counts; number = is.acts.acts.number }; sound = is.acts.sound };
      room = record {
        config = is.room.config;
        slots = is.room.slots;
        spare = is.room.spare;
        fills = is.room.fills;
        fills_all = is.room.fills_all;
        ends = is.room.ends;
        ends_all = is.room.ends_all;
        pairs = is.room.pairs;
        wide = is.room.wide;
        requests = omega (arith, all, capacity);
      };
      numbered = numbered;
      place = is.place;
    })

-- of what is told
pub ends_taken : (m n : Window) → IsReceiver m → n ≡ record m { ends = n.ends } → vec_len n.ends ≤ vec_len m.ends → vec_capacity n.ends ≡ vec_capacity m.ends → IsReceiver n
ends_taken m n is rest fewer capacity =
    let before = is.room.ends in
    let all = is.room.ends_all in
    subst IsReceiver (sym rest) (record {
      acts = record { state = is.acts.state; acts = record { moment = is.acts.acts.moment; floor = is.acts.acts.floor; slots = is.acts.acts.slots; asked = is.acts.acts.asked; counts = is.acts.acts.counts; number = is.acts.acts.number }; sound = is.acts.sound };
      room = record {
        config = is.room.config;
        slots = is.room.slots;
        spare = is.room.spare;
        fills = is.room.fills;
        fills_all = is.room.fills_all;
        ends = omega (arith, before, fewer, capacity);
        ends_all = omega (arith, all, capacity);
        pairs = is.room.pairs;
        wide = is.room.wide;
        requests = is.room.requests;
      };
      numbered = is.numbered;
      place = is.place;
    })

-- they are told from now on
pub receiver_telling : (m n : Window) → IsReceiver m → n ≡ record m { telling = n.telling } → IsReceiver n
receiver_telling m n is rest =
    subst IsReceiver (sym rest) (record {
      acts = record { state = is.acts.state; acts = record { moment = is.acts.acts.moment; floor = is.acts.acts.floor; slots = is.acts.acts.slots; asked = is.acts.acts.asked; counts = is.acts.acts.counts; number = is.acts.acts.number }; sound = is.acts.sound };
      room = record {
        config = is.room.config;
        slots = is.room.slots;
        spare = is.room.spare;
        fills = is.room.fills;
        fills_all = is.room.fills_all;
        ends = is.room.ends;
        ends_all = is.room.ends_all;
        pairs = is.room.pairs;
        wide = is.room.wide;
        requests = is.room.requests;
      };
      numbered = is.numbered;
      place = is.place;
    })

-- ---- what was told before an input is forgotten

other_ends : (m : Window) (n : Window) (s : State) → Acts m s → Acts (record m { ends = n.ends }) s
other_ends m n s acts = record { moment = acts.moment; floor = acts.floor; slots = acts.slots; asked = acts.asked; counts = acts.counts; number = acts.number }

pub acts_forgotten : (m mid : Window) (s : State) → mid ≡ record m { ends = mid.ends } → Acts m s → Acts mid s
acts_forgotten m mid s rest acts = subst (λ (k : Window). Acts k s) (sym rest) (other_ends m mid s acts)

pub forgotten : (m mid : Window) → IsReceiver m → mid ≡ record m { ends = mid.ends } → vec_len mid.ends ≡ 0 → vec_capacity mid.ends ≡ vec_capacity m.ends → IsReceiver mid
forgotten m mid is rest none capacity = ends_taken m mid is rest (omega arith) capacity

takes_kept : (m mid n : Window) (i : Input) → Takes (record m { ends = mid.ends }) n i → Takes m n i
takes_kept m mid n i t = record {
  stands = λ q s. t.stands q (other_ends m mid (After m.config q) s);
  fills = λ q s. t.fills q (other_ends m mid (After m.config q) s);
  requests = λ q s. t.requests q (other_ends m mid (After m.config q) s);
  resends = λ q s. t.resends q (other_ends m mid (After m.config q) s);
  ends = λ q s. t.ends q (other_ends m mid (After m.config q) s);
  buffers = λ q s. t.buffers q (other_ends m mid (After m.config q) s);
  opens = λ q s. t.opens q (other_ends m mid (After m.config q) s);
  config = t.config;
  telling = t.telling;
}

pub takes_forgotten : (m mid n : Window) (i : Input) → mid ≡ record m { ends = mid.ends } → Takes mid n i → Takes m n i
takes_forgotten m mid n i rest t = takes_kept m mid n i (subst (λ (k : Window). Takes k n i) rest t)

pub keeps_forgotten : (m mid n : Window) → mid ≡ record m { ends = mid.ends } → KeepsBuffers mid n → KeepsBuffers m n
keeps_forgotten m mid n rest k = subst (λ (a : Window). KeepsBuffers a n) rest k

pub given_forgotten : (m mid n : Window) (given : Option Given) → mid ≡ record m { ends = mid.ends } → TakesGiven given mid.asked (buffers mid) (buffers n) → TakesGiven given m.asked (buffers m) (buffers n)
given_forgotten m mid n given rest t = subst (λ (a : Window). TakesGiven given a.asked (buffers a) (buffers n)) rest t

answered_kept : (m mid : Window) (answer : Need) (bytes : List ℕ) → ((q : List Input) → Stands (record m { ends = mid.ends }) q → (turn m.config q (datagram bytes)).need ≡ Some answer)
    → (q : List Input) → Stands m q → (turn m.config q (datagram bytes)).need ≡ Some answer
answered_kept m mid answer bytes f q s = f q (other_ends m mid (After m.config q) s)

pub answered_forgotten : (m mid : Window) (answer : Need) (bytes : List ℕ) → mid ≡ record m { ends = mid.ends } → ((q : List Input) → Stands mid q → (turn mid.config q (datagram bytes)).need ≡ Some answer)
    → (q : List Input) → Stands m q → (turn m.config q (datagram bytes)).need ≡ Some answer
answered_forgotten m mid answer bytes rest f =
    answered_kept m mid answer bytes (subst (λ (a : Window). (q : List Input) → Stands a q → (turn a.config q (datagram bytes)).need ≡ Some answer) rest f)
