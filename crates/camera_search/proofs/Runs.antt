-- A search, turn by turn, and how it ends.
use Rattle.std.proofs.Common.{◌≡◌, ℕ, Bool, true, false, ◌||◌, List, [], ◌∷◌, ◌++◌, length, Option, Some, None, refl, ap, sym, subst, ◌∙◌, append_assoc, arith}
use Rattle.std.specs.List.{list_any}
use Rattle.std.proofs.lemmas.List.{append-nil, map-append}
use Rattle.std.proofs.lemmas.List.Concat.{flat_map-append}
use Rattle.std.proofs.lemmas.List.Folds.{list_any-append}
use Rattle.gev_links.specs.Links.{Address, Answer, failed, Adds}
use Rattle.gev_links.specs.Moments.{Tells, TellsEach}
use Rattle.gev_links.specs.Told.{Appends, WritesFront, WritesPart}
use Rattle.gev_links.proofs.Growing.{tells_first, tells_more, tells_none, adds_none, adds_then}
use Rattle.camera_search.specs.declared.discovery_ack.DiscoveryAck.{DiscoveryAck}
use Rattle.camera_search.specs.CameraLine.{camera_line, count_line}
use Rattle.camera_search.specs.declared.search_end.SearchEnd.{SearchEnd}
use Rattle.camera_search.specs.declared.search_end.SearchEnd.TheVariants.{Done, LinkFault, WriteFault, NoMemory}
use Rattle.camera_search.specs.Asking.{asked, is_over, is_second, was_second, sends_of, sends_in, more_sends}
use Rattle.camera_search.specs.Found.{told_in, new_among, found_after, cameras_in, lines_of, text_of}
use Rattle.camera_search.specs.Writing.{WroteText, WroteLast}
use Rattle.camera_search.specs.Searched.{SearchSide, Turned, turned, moments_of, answers_of, first_send, second_send, receive, WroteSo, EndsSo, Searches, Searching}
use Rattle.camera_search.proofs.Texts.{wrote_none, wrote_then, whole_front, part_then}

-- ---- what is told by equations

pub told_from : {A : Type 0} (h m n : Option (List A)) (x : A) → h ≡ m → Tells h n x → Tells m n x
told_from {A = A} h m n x same tells = subst (λ (v : Option (List A)). Tells v n x) same tells

pub added_to : {A : Type 0} (m k n : Option (List A)) (xs : List A) → n ≡ k → Adds m k xs → Adds m n xs
added_to {A = A} m k n xs same adds = subst (λ (v : Option (List A)). Adds m v xs) (sym same) adds

-- ---- one more turn

or_none : (a b : Bool) → (a || (b || false)) ≡ (a || b)
or_none true b = refl
or_none false true = refl
or_none false false = refl

moments_push : (turns : List Turned) (moment : ℕ) (answer : Answer) → moments_of (turns ++ turned moment answer ∷ []) ≡ moments_of turns ++ moment ∷ []
moments_push turns moment answer = map-append (λ (t : Turned). t.moment) turns (turned moment answer ∷ [])

answers_push : (turns : List Turned) (moment : ℕ) (answer : Answer) → answers_of (turns ++ turned moment answer ∷ []) ≡ answers_of turns ++ answer ∷ []
answers_push turns moment answer = map-append (λ (t : Turned). t.heard) turns (turned moment answer ∷ [])

any_push : (p : ℕ → Bool) (turns : List Turned) (moment : ℕ) (answer : Answer)
    → list_any p (moments_of (turns ++ turned moment answer ∷ [])) ≡ (list_any p (moments_of turns) || p moment)
any_push p turns moment answer =
    ap (list_any p) (moments_push turns moment answer)
    ∙ (list_any-append p (moments_of turns) (moment ∷ []) ∙ or_none (list_any p (moments_of turns)) (p moment))

found_push : (found : List DiscoveryAck) (xs : List Answer) (a : Answer)
    → found_after found (xs ++ a ∷ []) ≡ found_after found xs ++ new_among (found_after found xs) (told_in a)
found_push found [] a = refl
found_push found (b ∷ xs) a = found_push (found ++ new_among found (told_in b)) xs a

pub cameras_push : (turns : List Turned) (moment : ℕ) (answer : Answer)
    → cameras_in (answers_of (turns ++ turned moment answer ∷ []))
    ≡ cameras_in (answers_of turns) ++ new_among (cameras_in (answers_of turns)) (told_in answer)
cameras_push turns moment answer = ap cameras_in (answers_push turns moment answer) ∙ found_push [] (answers_of turns) answer

asked_more : (to : Address) (a b : Bool) → asked to (sends_of (a || b)) ≡ asked to (sends_of a) ++ asked to (more_sends a b)
asked_more to true b = refl
asked_more to false true = refl
asked_more to false false = refl

-- what was sent by the end of a turn
sent_more : (to : Address) (o m n : Option (List (Address × List ℕ))) (begun moment : ℕ) (turns : List Turned) (answer : Answer) (again : Bool)
    → again ≡ was_second begun (moments_of turns) → Adds o m (asked to (sends_in begun (moments_of turns)))
    → Adds m n (asked to (more_sends again (is_second begun moment)))
    → Adds o n (asked to (sends_in begun (moments_of (turns ++ turned moment answer ∷ []))))
sent_more to o m n begun moment turns answer again is first second =
    let now : Adds m n (asked to (more_sends (was_second begun (moments_of turns)) (is_second begun moment))) =
    subst (λ (b : Bool). Adds m n (asked to (more_sends b (is_second begun moment)))) is second in
    subst (λ (b : Bool). Adds o n (asked to (sends_of b))) (sym (any_push (is_second begun) turns moment answer))
    (subst (Adds o n) (sym (asked_more to (was_second begun (moments_of turns)) (is_second begun moment)))
    (adds_then o m n (asked to (sends_in begun (moments_of turns))) (asked to (more_sends (was_second begun (moments_of turns)) (is_second begun moment))) first now))

-- The first DISCOVERY was sent.
pub search_begins : (to : Address) (heard heard_after : Option (List Answer)) (sent sent_after : Option (List (Address × List ℕ))) (told told_after : Option (List ℕ))
    (written : Option (List ℕ)) (begun : ℕ) → heard_after ≡ heard → Tells told told_after begun → Adds sent sent_after (asked to 1)
    → Searching to (record { heard = heard; sent = sent; told = told; written = written })
    (record { heard = heard_after; sent = sent_after; told = told_after; written = written }) begun [] false []
search_begins to heard heard_after sent sent_after told told_after written begun same tells asks = record {
  on = refl;
  heard = subst (λ (h : Option (List Answer)). TellsEach heard h []) (sym same) (tells_none heard);
  told = tells_first told told_after begun tells;
  sent = asks;
  again_is = refl;
  found_are = refl;
  wrote = wrote_none written;
}

on_more : (begun moment : ℕ) (turns : List Turned) (answer : Answer) → list_any (is_over begun) (moments_of turns) ≡ false → is_over begun moment ≡ false
    → list_any (is_over begun) (moments_of (turns ++ turned moment answer ∷ [])) ≡ false
on_more begun moment turns answer before now =
    any_push (is_over begun) turns moment answer
    ∙ (ap (λ (b : Bool). b || is_over begun moment) before ∙ now)

told_more : (o m n : Option (List ℕ)) (begun moment : ℕ) (turns : List Turned) (answer : Answer) → TellsEach o m (begun ∷ moments_of turns) → Tells m n moment
    → TellsEach o n (begun ∷ moments_of (turns ++ turned moment answer ∷ []))
told_more o m n begun moment turns answer before now =
    subst (λ (l : List ℕ). TellsEach o n (begun ∷ l)) (sym (moments_push turns moment answer))
    (tells_more o m n (begun ∷ moments_of turns) moment before now)

heard_more : (o m n : Option (List Answer)) (moment : ℕ) (turns : List Turned) (answer : Answer) → TellsEach o m (answers_of turns) → Tells m n answer
    → TellsEach o n (answers_of (turns ++ turned moment answer ∷ []))
heard_more o m n moment turns answer before now =
    subst (TellsEach o n) (sym (answers_push turns moment answer)) (tells_more o m n (answers_of turns) answer before now)

-- A turn was made after which the search goes on.
pub search_goes_on : (to : Address) (o m : SearchSide) (heard : Option (List Answer)) (sent : Option (List (Address × List ℕ))) (told written : Option (List ℕ))
    (begun moment : ℕ) (turns : List Turned) (again again_after : Bool) (found found_now : List DiscoveryAck) (answer : Answer) (tells : Option DiscoveryAck)
    → Searching to o m begun turns again found → is_over begun moment ≡ false → Tells m.told told moment
    → Adds m.sent sent (asked to (more_sends again (is_second begun moment))) → again_after ≡ (again || is_second begun moment)
    → Tells m.heard heard answer → tells ≡ told_in answer → found_now ≡ found ++ new_among found tells
    → Appends m.written written (lines_of (new_among found tells))
    → Searching to o (record { heard = heard; sent = sent; told = told; written = written }) begun (turns ++ turned moment answer ∷ []) again_after found_now
search_goes_on to o m heard sent told written begun moment turns again again_after found found_now answer tells s on tell asks again_is hears tells_is found_is wrote =
    let now : found_now ≡ found ++ new_among found (told_in answer) = found_is ∙ ap (λ (t : Option DiscoveryAck). found ++ new_among found t) tells_is in
    record {
      on = on_more begun moment turns answer s.on on;
      heard = heard_more o.heard m.heard heard moment turns answer s.heard hears;
      told = told_more o.told m.told told begun moment turns answer s.told tell;
      sent = sent_more to o.sent m.sent sent begun moment turns answer again s.again_is s.sent asks;
      again_is =
          again_is
          ∙ (ap (λ (b : Bool). b || is_second begun moment) s.again_is ∙ sym (any_push (is_second begun) turns moment answer));
      found_are =
          now
          ∙ (ap (λ (l : List DiscoveryAck). l ++ new_among l (told_in answer)) s.found_are ∙ sym (cameras_push turns moment answer));
      wrote =
          subst (λ (l : List DiscoveryAck). Appends o.written written (lines_of l)) (sym found_is)
          (subst (Appends o.written written) (sym (flat_map-append camera_line found (new_among found tells)))
          (wrote_then o.written m.written written (lines_of found) (lines_of (new_among found tells)) s.wrote wrote));
    }

-- ---- ends

-- the last line, behind those of these cameras
last_wrote : (end : SearchEnd) (found : List DiscoveryAck) (o m n : Option (List ℕ)) → Appends o m (lines_of found)
    → WroteLast end (count_line (length found)) m n → WroteSo end found o n
last_wrote Done found o m n lines last = wrote_then o m n (lines_of found) (count_line (length found)) lines last
last_wrote LinkFault found o m n lines last = absurd last
last_wrote WriteFault found o m n lines last =
    subst (λ (l : List ℕ). WritesPart o n (lines_of found ++ l)) (append-nil (count_line (length found)))
    (part_then o m n (lines_of found) (count_line (length found)) [] lines last)
last_wrote NoMemory found o m n lines last =
    subst (λ (w : Option (List ℕ)). WritesFront o w (text_of found)) (sym last) (whole_front o m (lines_of found) (count_line (length found)) lines)

ends_over : (end : SearchEnd) (text : List ℕ) (w x : Option (List ℕ)) (begun moment : ℕ) (turns : List Turned) → is_over begun moment ≡ true
    → WroteLast end text w x → EndsSo end begun turns (Some moment) (sends_in begun (moments_of turns))
ends_over Done text w x begun moment turns over last = record { moment = moment; last = refl; over = over; asked = refl }
ends_over LinkFault text w x begun moment turns over last = absurd last
ends_over WriteFault text w x begun moment turns over last = refl
ends_over NoMemory text w x begun moment turns over last = omega arith

-- Its time was over.
pub search_over : (to : Address) (o m : SearchSide) (told written : Option (List ℕ)) (begun moment : ℕ) (turns : List Turned) (again : Bool)
    (found : List DiscoveryAck) (end : SearchEnd) → Searching to o m begun turns again found → is_over begun moment ≡ true → Tells m.told told moment
    → WroteLast end (count_line (length found)) m.written written
    → Searches to o (record { heard = m.heard; sent = m.sent; told = told; written = written }) end
search_over to o m told written begun moment turns again found end s over tell last = record {
  begun = begun;
  turns = turns;
  rest = Some moment;
  sends = sends_in begun (moments_of turns);
  on = s.on;
  heard = s.heard;
  told = tells_more o.told m.told told (begun ∷ moments_of turns) moment s.told tell;
  sent = s.sent;
  ended = ends_over end (count_line (length found)) m.written written begun moment turns over last;
  wrote = subst (λ (l : List DiscoveryAck). WroteSo end l o.written written) s.found_are (last_wrote end found o.written m.written written s.wrote last);
}

-- Memory was wanting before the first DISCOVERY.
pub search_lacks : (to : Address) (heard : Option (List Answer)) (sent : Option (List (Address × List ℕ))) (told told_after written : Option (List ℕ)) (begun : ℕ)
    → Tells told told_after begun
    → Searches to (record { heard = heard; sent = sent; told = told; written = written })
    (record { heard = heard; sent = sent; told = told_after; written = written }) NoMemory
search_lacks to heard sent told told_after written begun tells = record {
  begun = begun;
  turns = [];
  rest = None;
  sends = 0;
  on = refl;
  heard = tells_none heard;
  told = tells_first told told_after begun tells;
  sent = adds_none sent;
  ended = omega arith;
  wrote = whole_front written written [] (text_of []) (wrote_none written);
}

-- The first send failed.
pub search_unsent : (to : Address) (heard heard_after : Option (List Answer)) (sent sent_after : Option (List (Address × List ℕ))) (told told_after written : Option (List ℕ))
    (begun : ℕ) → heard_after ≡ heard → Tells told told_after begun → sent_after ≡ sent
    → Searches to (record { heard = heard; sent = sent; told = told; written = written })
    (record { heard = heard_after; sent = sent_after; told = told_after; written = written }) LinkFault
search_unsent to heard heard_after sent sent_after told told_after written begun unheard tells same = record {
  begun = begun;
  turns = [];
  rest = None;
  sends = 0;
  on = refl;
  heard = subst (λ (h : Option (List Answer)). TellsEach heard h []) (sym unheard) (tells_none heard);
  told = tells_first told told_after begun tells;
  sent = subst (λ (w : Option (List (Address × List ℕ))). Adds sent w []) (sym same) (adds_none sent);
  ended = first_send refl refl refl;
  wrote = wrote_none written;
}

-- The second send failed.
pub search_lost : (to : Address) (o m : SearchSide) (heard : Option (List Answer)) (sent : Option (List (Address × List ℕ))) (told : Option (List ℕ)) (begun moment : ℕ) (turns : List Turned)
    (again : Bool) (found : List DiscoveryAck) → Searching to o m begun turns again found → is_over begun moment ≡ false → Tells m.told told moment
    → is_second begun moment ≡ true → again ≡ false → sent ≡ m.sent → heard ≡ m.heard
    → Searches to o (record { heard = heard; sent = sent; told = told; written = m.written }) LinkFault
search_lost to o m heard sent told begun moment turns again found s on tell due first same unheard =
    let never : was_second begun (moments_of turns) ≡ false = sym s.again_is ∙ first in
    let once : sends_in begun (moments_of turns) ≡ 1 = ap sends_of never in
    record {
      begun = begun;
      turns = turns;
      rest = Some moment;
      sends = 1;
      on = s.on;
      heard = subst (λ (h : Option (List Answer)). TellsEach o.heard h (answers_of turns)) (sym unheard) s.heard;
      told = tells_more o.told m.told told (begun ∷ moments_of turns) moment s.told tell;
      sent =
          subst (λ (w : Option (List (Address × List ℕ))). Adds o.sent w (asked to 1)) (sym same)
          (subst (λ (n : ℕ). Adds o.sent m.sent (asked to n)) once s.sent);
      ended = second_send moment refl on due never refl;
      wrote = subst (λ (l : List DiscoveryAck). WroteSo LinkFault l o.written m.written) s.found_are s.wrote;
    }

-- A receive failed.
pub search_deaf : (to : Address) (o m : SearchSide) (heard : Option (List Answer)) (sent : Option (List (Address × List ℕ))) (told : Option (List ℕ))
    (begun moment : ℕ) (turns : List Turned) (again : Bool) (found : List DiscoveryAck) → Searching to o m begun turns again found
    → is_over begun moment ≡ false → Tells m.told told moment → Adds m.sent sent (asked to (more_sends again (is_second begun moment)))
    → Tells m.heard heard failed → Searches to o (record { heard = heard; sent = sent; told = told; written = m.written }) LinkFault
search_deaf to o m heard sent told begun moment turns again found s on tell asks hears =
    let same : found ≡ cameras_in (answers_of (turns ++ turned moment failed ∷ [])) =
    s.found_are ∙ (sym (append-nil (cameras_in (answers_of turns))) ∙ sym (cameras_push turns moment failed)) in
    record {
      begun = begun;
      turns = turns ++ turned moment failed ∷ [];
      rest = None;
      sends = sends_in begun (moments_of (turns ++ turned moment failed ∷ []));
      on = on_more begun moment turns failed s.on on;
      heard = heard_more o.heard m.heard heard moment turns failed s.heard hears;
      told =
          subst (λ (l : List ℕ). TellsEach o.told told (begun ∷ l)) (sym (append-nil (moments_of (turns ++ turned moment failed ∷ []))))
          (told_more o.told m.told told begun moment turns failed s.told tell);
      sent = sent_more to o.sent m.sent sent begun moment turns failed again s.again_is s.sent asks;
      ended = receive turns moment refl refl refl;
      wrote = subst (λ (l : List DiscoveryAck). WroteSo LinkFault l o.written m.written) same s.wrote;
    }

-- a line behind those of these cameras, which wasn't written whole
line_wrote : (end : SearchEnd) (found more : List DiscoveryAck) (o m n : Option (List ℕ)) → Appends o m (lines_of found)
    → WroteText (Some end) (lines_of more) m n → WroteSo end (found ++ more) o n
line_wrote Done found more o m n lines last = absurd last
line_wrote LinkFault found more o m n lines last = absurd last
line_wrote WriteFault found more o m n lines last =
    subst (λ (l : List ℕ). WritesPart o n (l ++ count_line (length (found ++ more)))) (sym (flat_map-append camera_line found more))
    (subst (WritesPart o n) (sym (append_assoc (lines_of found) (lines_of more) (count_line (length (found ++ more)))))
    (part_then o m n (lines_of found) (lines_of more) (count_line (length (found ++ more))) lines last))
line_wrote NoMemory found more o m n lines last =
    subst (λ (w : Option (List ℕ)). WritesFront o w (text_of (found ++ more))) (sym last)
    (subst (λ (l : List ℕ). WritesFront o m (l ++ count_line (length (found ++ more)))) (sym (flat_map-append camera_line found more))
    (subst (WritesFront o m) (sym (append_assoc (lines_of found) (lines_of more) (count_line (length (found ++ more)))))
    (whole_front o m (lines_of found) (lines_of more ++ count_line (length (found ++ more))) lines)))

line_ends : (end : SearchEnd) (text : List ℕ) (w x : Option (List ℕ)) (begun : ℕ) (turns : List Turned) → WroteText (Some end) text w x
    → EndsSo end begun turns None (sends_in begun (moments_of turns))
line_ends Done text w x begun turns last = absurd last
line_ends LinkFault text w x begun turns last = absurd last
line_ends WriteFault text w x begun turns last = refl
line_ends NoMemory text w x begun turns last = omega arith

-- A line wasn't written whole.
pub search_untold : (to : Address) (o m : SearchSide) (heard : Option (List Answer)) (sent : Option (List (Address × List ℕ))) (told written : Option (List ℕ))
    (begun moment : ℕ) (turns : List Turned) (again : Bool) (found : List DiscoveryAck) (answer : Answer) (tells : Option DiscoveryAck) (end : SearchEnd)
    → Searching to o m begun turns again found → is_over begun moment ≡ false → Tells m.told told moment
    → Adds m.sent sent (asked to (more_sends again (is_second begun moment)))
    → Tells m.heard heard answer → tells ≡ told_in answer
    → WroteText (Some end) (lines_of (new_among found tells)) m.written written
    → Searches to o (record { heard = heard; sent = sent; told = told; written = written }) end
search_untold to o m heard sent told written begun moment turns again found answer tells end s on tell asks hears tells_is wrote =
    let same : found ++ new_among found tells ≡ cameras_in (answers_of (turns ++ turned moment answer ∷ [])) =
    ap (λ (t : Option DiscoveryAck). found ++ new_among found t) tells_is
    ∙ (ap (λ (l : List DiscoveryAck). l ++ new_among l (told_in answer)) s.found_are ∙ sym (cameras_push turns moment answer)) in
    record {
      begun = begun;
      turns = turns ++ turned moment answer ∷ [];
      rest = None;
      sends = sends_in begun (moments_of (turns ++ turned moment answer ∷ []));
      on = on_more begun moment turns answer s.on on;
      heard = heard_more o.heard m.heard heard moment turns answer s.heard hears;
      told =
          subst (λ (l : List ℕ). TellsEach o.told told (begun ∷ l)) (sym (append-nil (moments_of (turns ++ turned moment answer ∷ []))))
          (told_more o.told m.told told begun moment turns answer s.told tell);
      sent = sent_more to o.sent m.sent sent begun moment turns answer again s.again_is s.sent asks;
      ended = line_ends end (lines_of (new_among found tells)) m.written written begun (turns ++ turned moment answer ∷ []) wrote;
      wrote = subst (λ (l : List DiscoveryAck). WroteSo end l o.written written) same (line_wrote end found (new_among found tells) o.written m.written written s.wrote wrote);
    }
