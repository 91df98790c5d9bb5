-- A lane's cells, one after the other.
use Rattle.std.proofs.Common.{◌≡◌, ◌≢◌, ℕ, true, false, List, [], ◌∷◌, ◌++◌, refl, ap, sym, ◌∙◌, subst, append_assoc}
use Rattle.std.proofs.lemmas.List.{append-nil, map-append}
use Rattle.acquisition_machine.specs.declared.config.AcqConfig.{AcqConfig}
use Rattle.acquisition_machine.specs.Machine.{Input, stop}
use Rattle.acq_core.specs.declared.window.Window.{Window}
use Rattle.acq_core.specs.Receiver.{KeepsBlocks}
use Rattle.acq_core.specs.Waiting.{waiting_fills, waiting_requests}
use Rattle.buffer_words.specs.Passes.{Token}
use Rattle.gev_lanes.specs.LineEnds.{GiverEnd, TakerEnd, gave, took}
use Rattle.board_calls.specs.declared.mode.Mode.{Mode}
use Rattle.gev_acq.specs.Claims.{ServesOn}
use Rattle.gev_acq.proofs.Serves.{serves_then, serves_none}
use Rattle.gev_acq.proofs.Emptying.{keeps_then, keeps_all}
use Rattle.gev_lanes.specs.declared.cell.Cell.{Cell}
use Rattle.gev_lanes.specs.Sides.{LaneEnd}
use Rattle.gev_lanes.specs.Messages.{Message, Says, heard, told, ended, message_of, messages, GoOn}
use Rattle.gev_lanes.specs.Acts.{Puts, PutsOne, with_taken, with_freed, with_requests}
use Rattle.lane_crew.specs.Cells.{CellServed, came_in, is_end, inputs_of, inputs_in, asks_of, IsClaimed, ServesCell}
use Rattle.lane_crew.specs.Lane.{messages_in, ClaimEach, PutsAll, PutsEach, PutsRequests, ServesCells}

-- ---- requests

puts-push : (rs : List (List ℕ)) (r : List ℕ) (s t u : GiverEnd (List ℕ)) → PutsAll rs s t → Puts r t u → PutsAll (rs ++ r ∷ []) s u
puts-push [] r s t u none one = (u, subst (λ x. Puts r x u) none one, refl)
puts-push (x ∷ rs) r s t u each one = (each.0, each.1, puts-push rs r each.0 t u each.2 one)

-- Some of the requests that waited are given.
pub record IsPutting (e : LaneEnd) (old : Window) (f : LaneEnd) (m : Window) : Type 0 where
  pub done : List (List ℕ)
  pub parts : waiting_requests old ≡ done ++ waiting_requests m
  pub puts : PutsRequests done e f
  pub fills : waiting_fills m ≡ waiting_fills old
  pub rest : KeepsBlocks old m

pub putting_begins : (e : LaneEnd) (m : Window) → IsPutting e m e m
putting_begins e m = record {
  done = [];
  parts = refl;
  puts = record { after = e.hands.requests; puts = refl; is = refl };
  fills = refl;
  rest = keeps_all m;
}

pub putting_goes_on : (e : LaneEnd) (old : Window) (f : LaneEnd) (m : Window) (g : LaneEnd) (k : Window) (request : List ℕ)
    → IsPutting e old f m → waiting_requests m ≡ request ∷ waiting_requests k → waiting_fills k ≡ waiting_fills m → KeepsBlocks m k → PutsOne request f g
    → IsPutting e old g k
putting_goes_on e old f m g k request so first fills keeps one = record {
  done = so.done ++ request ∷ [];
  parts = so.parts ∙ (ap (λ l. so.done ++ l) first ∙ sym (append_assoc so.done (request ∷ []) (waiting_requests k)));
  puts = record {
    after = one.requests;
    puts = puts-push so.done request e.hands.requests so.puts.after one.requests so.puts.puts
        (subst (λ (x : LaneEnd). Puts request x.hands.requests one.requests) so.puts.is one.puts);
    is = one.is ∙ ap (λ (x : LaneEnd). with_requests x one.requests) so.puts.is;
  };
  fills = fills ∙ so.fills;
  rest = keeps_then old m k so.rest keeps;
}

pub putting_ends : (e : LaneEnd) (old : Window) (f : LaneEnd) (m : Window) → IsPutting e old f m → waiting_requests m ≡ [] → PutsRequests (waiting_requests old) e f
putting_ends e old f m so none = subst (λ l. PutsRequests l e f) (sym (so.parts ∙ (ap (λ l. so.done ++ l) none ∙ append-nil so.done))) so.puts

-- ---- one cell more

inputs-push : (xs : List CellServed) (x : CellServed) → inputs_in (xs ++ x ∷ []) ≡ inputs_in xs ++ inputs_of x
inputs-push [] x = append-nil (inputs_of x)
inputs-push (y ∷ xs) x = ap (λ l. inputs_of y ++ l) (inputs-push xs x) ∙ sym (append_assoc (inputs_of y) (inputs_in xs) (inputs_of x))

go_on-push : (ms : List Message) (m : Message) → GoOn ms → m.says ≢ ended → GoOn (ms ++ m ∷ [])
go_on-push [] m on one = (one, tt)
go_on-push (x ∷ ms) m on one = (on.0, go_on-push ms m on.1 one)

-- the inputs before the one after these
inputs_between : (q : List Input) (y : CellServed) (xs : List CellServed) → q ++ inputs_in (y ∷ xs) ≡ (q ++ inputs_of y) ++ inputs_in xs
inputs_between q y xs = sym (append_assoc q (inputs_of y) (inputs_in xs))

claims-push : (c : AcqConfig) (q : List Input) (xs : List CellServed) (x : CellServed) → ClaimEach c q xs
    → IsClaimed c (q ++ inputs_in xs) (came_in x.message.says) x.given → ClaimEach c q (xs ++ x ∷ [])
claims-push c q [] x none one = (subst (λ l. IsClaimed c l (came_in x.message.says) x.given) (append-nil q) one, tt)
claims-push c q (y ∷ xs) x each one =
    (each.0, claims-push c (q ++ inputs_of y) xs x each.1 (subst (λ l. IsClaimed c l (came_in x.message.says) x.given) (inputs_between q y xs) one))

each-push : (c : AcqConfig) (q : List Input) (xs : List CellServed) (x : CellServed) (s t u : GiverEnd (List ℕ)) → PutsEach c q xs s t
    → PutsAll (asks_of c (q ++ inputs_in xs) x) t u → PutsEach c q (xs ++ x ∷ []) s u
each-push c q [] x s t u none one =
    (u, subst (λ y. PutsAll (asks_of c q x) y u) none (subst (λ l. PutsAll (asks_of c l x) t u) (append-nil q) one), refl)
each-push c q (y ∷ xs) x s t u each one =
    (each.0, each.1, each-push c (q ++ inputs_of y) xs x each.0 t u each.2 (subst (λ l. PutsAll (asks_of c l x) t u) (inputs_between q y xs) one))

took_none : (e : TakerEnd Cell) → e ≡ took e []
took_none e = ap (λ l. record { line = e.line; least = e.least; taken = l; misses = e.misses }) (sym (append-nil e.taken))

took_more : (e : TakerEnd Cell) (xs ys : List Cell) → took (took e xs) ys ≡ took e (xs ++ ys)
took_more e xs ys = ap (λ l. record { line = e.line; least = e.least; taken = l; misses = e.misses }) (append_assoc e.taken xs ys)

gave_none : (e : GiverEnd Cell) → e ≡ gave e []
gave_none e = ap (λ l. record { line = e.line; given = l; refusals = e.refusals }) (sym (append-nil e.given))

gave_more : (e : GiverEnd Cell) (xs ys : List Cell) → gave (gave e xs) ys ≡ gave e (xs ++ ys)
gave_more e xs ys = ap (λ l. record { line = e.line; given = l; refusals = e.refusals }) (append_assoc e.given xs ys)

-- Some cells were served, none of them the end.
pub record Serving (mode : Mode) (c : AcqConfig) (Old New : List Input → Type 0) (e f : LaneEnd) (s t : Token) : Type 0 where
  pub served : List CellServed
  pub cells : List Cell
  pub are : messages_in served ≡ messages cells
  pub go_on : GoOn (messages cells)
  pub number : f.number ≡ e.number
  pub taken : f.hands.cells ≡ took e.hands.cells cells
  pub given_back : f.hands.free ≡ gave e.hands.free cells
  pub serves : ServesOn mode c Old New (inputs_in served) s t
  pub claims : (q : List Input) → Old q → ClaimEach c q served
  pub puts : (q : List Input) → Old q → PutsEach c q served e.hands.requests f.hands.requests

pub begins : (mode : Mode) (c : AcqConfig) (Old : List Input → Type 0) (e : LaneEnd) (s : Token) → Serving mode c Old Old e e s s
begins mode c Old e s = record {
  served = [];
  cells = [];
  are = refl;
  go_on = tt;
  number = refl;
  taken = took_none e.hands.cells;
  given_back = gave_none e.hands.free;
  serves = serves_none mode c Old s;
  claims = λ q old. tt;
  puts = λ q old. refl;
}

not_end : (s : Says) → is_end s ≡ false → s ≢ ended
not_end s goes is = let bad : true ≡ false = ap is_end (sym is) ∙ goes in cc

pub goes_on : (mode : Mode) (c d : AcqConfig) (Old Mid New Then : List Input → Type 0) (e f g h i : LaneEnd) (cell : Cell) (requests : List (List ℕ)) (s t u : Token)
    → Serving mode c Old Mid e f s t → d ≡ c → g ≡ with_taken f cell → is_end (message_of cell).says ≡ false → ServesCell mode d Mid New (message_of cell) requests t u
    → h ≡ with_freed g cell → PutsRequests requests h i → ((q : List Input) → New q → Then q) → Serving mode c Old Then e i s u
goes_on mode c d Old Mid New Then e f g h i cell requests s t u so config take goes one freed puts keeps = record {
  served = so.served ++ here ∷ [];
  cells = so.cells ++ cell ∷ [];
  are =
      map-append (λ (x : CellServed). x.message) so.served (here ∷ [])
      ∙ (ap (λ l. l ++ message_of cell ∷ []) so.are ∙ sym (map-append message_of so.cells (cell ∷ [])));
  go_on = subst GoOn (sym (map-append message_of so.cells (cell ∷ []))) (go_on-push (messages so.cells) (message_of cell) so.go_on (not_end (message_of cell).says goes));
  number = ap (λ (x : LaneEnd). x.number) same ∙ so.number;
  taken =
      ap (λ (x : LaneEnd). x.hands.cells) same
      ∙ (ap (λ x. took x (cell ∷ [])) so.taken ∙ took_more e.hands.cells so.cells (cell ∷ []));
  given_back =
      ap (λ (x : LaneEnd). x.hands.free) same
      ∙ (ap (λ x. gave x (cell ∷ [])) so.given_back ∙ gave_more e.hands.free so.cells (cell ∷ []));
  serves = subst (λ l. ServesOn mode c Old Then l s u) (sym (inputs-push so.served here)) (record {
    events = both.events;
    enters = both.enters;
    serves = both.serves;
    stands = λ q old. keeps _ (both.stands q old);
    claims = both.claims;
  });
  claims = λ q old. claims-push c q so.served here (so.claims q old)
      (subst (λ (x : AcqConfig). IsClaimed x (q ++ inputs_in so.served) (came_in (message_of cell).says) one.given) config
      (one.claimed (q ++ inputs_in so.served) (so.serves.stands q old)));
  puts = λ q old. each-push c q so.served here e.hands.requests f.hands.requests i.hands.requests (so.puts q old)
      (subst (λ l. PutsAll l f.hands.requests i.hands.requests)
      (one.asks (q ++ inputs_in so.served) (so.serves.stands q old) ∙ ap (λ (x : AcqConfig). asks_of x (q ++ inputs_in so.served) here) config) given);
}
  where
    here : CellServed
    here = record { message = message_of cell; given = one.given }

    both : ServesOn mode c Old New (inputs_in so.served ++ inputs_of here) s u
    both = serves_then mode c Old Mid New (inputs_in so.served) (inputs_of here) s t u so.serves (subst (λ (x : AcqConfig). ServesOn mode x Mid New (inputs_of here) t u) config one.serves)

    before : h ≡ with_freed (with_taken f cell) cell
    before = freed ∙ ap (λ (x : LaneEnd). with_freed x cell) take

    same : i ≡ with_requests (with_freed (with_taken f cell) cell) puts.after
    same = puts.is ∙ ap (λ (x : LaneEnd). with_requests x puts.after) before

    given : PutsAll requests f.hands.requests i.hands.requests
    given = subst (λ x. PutsAll requests f.hands.requests x) (sym (ap (λ (x : LaneEnd). x.hands.requests) same))
        (subst (λ (x : LaneEnd). PutsAll requests x.hands.requests puts.after) before puts.puts)

pub ends_so : (mode : Mode) (c d : AcqConfig) (Old Mid New : List Input → Type 0) (e f g h : LaneEnd) (last : Cell) (s t u : Token)
    → Serving mode c Old Mid e f s t → d ≡ c → g ≡ with_taken f last → is_end (message_of last).says ≡ true → h ≡ with_freed g last
    → ServesOn mode d Mid New (stop ∷ []) t u → ServesCells mode c Old New e h s u
ends_so mode c d Old Mid New e f g h last s t u so config take is freed stopped = record {
  served = so.served;
  cells = so.cells;
  last = last;
  are = so.are;
  go_on = so.go_on;
  ends = the_end (message_of last).says is;
  number = ap (λ (x : LaneEnd). x.number) same ∙ so.number;
  taken =
      ap (λ (x : LaneEnd). x.hands.cells) same
      ∙ (ap (λ x. took x (last ∷ [])) so.taken ∙ took_more e.hands.cells so.cells (last ∷ []));
  given_back =
      ap (λ (x : LaneEnd). x.hands.free) same
      ∙ (ap (λ x. gave x (last ∷ [])) so.given_back ∙ gave_more e.hands.free so.cells (last ∷ []));
  serves = serves_then mode c Old Mid New (inputs_in so.served) (stop ∷ []) s t u so.serves (subst (λ (x : AcqConfig). ServesOn mode x Mid New (stop ∷ []) t u) config stopped);
  claims = so.claims;
  puts = λ q old. subst (λ x. PutsEach c q so.served e.hands.requests x) (sym (ap (λ (x : LaneEnd). x.hands.requests) same)) (so.puts q old);
}
  where
    same : h ≡ with_freed (with_taken f last) last
    same = freed ∙ ap (λ (x : LaneEnd). with_freed x last) take

    the_end : (y : Says) → is_end y ≡ true → y ≡ ended
    the_end (heard bytes) bad_one = let bad : ⊥ = cc in absurd bad
    the_end told bad_one = let bad : ⊥ = cc in absurd bad
    the_end ended so_it_is = refl
