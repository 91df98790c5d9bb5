-- Lines in a room, and bytes that come behind those that are held.
use Rattle.std.proofs.Common.{◌≡◌, ℕ, ◌+◌, ◌-◌, ◌<◌, ◌≤◌, List, [], ◌∷◌, ◌++◌, length, get_or, take, drop, Option, Some, None, Result, Ok, Err, OnErr, refl, ap, sym, ◌∙◌, subst, arith, inl, inr, length-drop, length-take, length-append, get_or-take, append_assoc}
use Rattle.std.specs.List.{between}
use Rattle.std.proofs.lemmas.Bool.{eq-eqb, eqb-true, cases_lt}
use Rattle.std.proofs.lemmas.List.{append-nil, take-append-drop, get_or-drop, get_or_append_left, take-take, drop-drop, drop-take, take_rest, drop-append-le, nil_from_length}
use Rattle.std.proofs.lemmas.List.Edits.{length-between}
use Rattle.std.proofs.lemmas.Slice.{between_is}
use Rattle.memchr.specs.Find.{IsFirstByte, is_byte}
use Rattle.gev_links.specs.Faults.{Rose}
use Rattle.gev_links.specs.Told.{Gives, IsSpent}
use Rattle.gev_script.specs.Streams.{IsOpen, IsLine, IsPrompt, ReadsOn}
use Rattle.gev_script.specs.Window.{NoFeedBelow, FindsFeed, Holds, IsWindow}
use Rattle.gev_script.proofs.Splitting.{cut_at}
use Rattle.gev_script.proofs.Tellings.{spent_after, Gives-append, Gives-same}

-- a search of the bytes behind those that were searched
module _ (held : List ℕ) (searched : ℕ) (within : searched ≤ length held) where
  read_at : (i : ℕ) → searched ≤ i → get_or (take (length held - searched) (drop searched held)) (i - searched) 0 ≡ get_or held i 0
  read_at i low =
      let e : searched + (i - searched) ≡ i = omega arith in
      ap (λ b. get_or b (i - searched) 0) (take_rest held searched) ∙ get_or-drop searched held (i - searched) 0 ∙ ap (λ k. get_or held k 0) e

  rest_length : length (take (length held - searched) (drop searched held)) ≡ length held - searched
  rest_length = ap length (take_rest held searched) ∙ length-drop searched held

  pub feed_none : IsFirstByte (is_byte 10) (take (length held - searched) (drop searched held)) None → FindsFeed held searched None
  feed_none h i low high e = h (i - searched) (omega arith) (omega (arith, rest_length)) (eq-eqb _ _ (read_at i low ∙ e))

  pub feed_some : (place : ℕ) → IsFirstByte (is_byte 10) (take (length held - searched) (drop searched held)) (Some place) → FindsFeed held searched (Some (searched + place))
  feed_some place h =
      let high : place < length (take (length held - searched) (drop searched held)) = h.0.high in
      let same : (searched + place) - searched ≡ place = omega arith in (
        omega arith,
        omega (arith, rest_length),
        sym (read_at (searched + place) (omega arith)) ∙ ap (λ k. get_or (take (length held - searched) (drop searched held)) k 0) same ∙ eqb-true _ _ h.1,
        λ i low below e. h.0.before (i - searched) (omega arith) (omega arith) (eq-eqb _ _ (read_at i low ∙ e)),
      )

-- parts of a part of the room
take-between : (room : List ℕ) (start end n : ℕ) → start + n ≤ end → take n (between start end room) ≡ between start (start + n) room
take-between room start end n fits =
    let same : (start + n) - start ≡ n = omega arith in
    take-take n (end - start) (drop start room) (omega arith) ∙ ap (λ k. take k (drop start room)) (sym same)

drop-between : (room : List ℕ) (start end n : ℕ) → drop n (between start end room) ≡ between (start + n) end room
drop-between room start end n =
    ap (drop n) (between_is room start end) ∙ drop-drop n start (take end room) ∙ sym (between_is room (start + n) end)

-- no line feed below a place, by what was searched and what was found
none_below : (held : List ℕ) (searched place : ℕ) → NoFeedBelow searched held → ((i : ℕ) → searched ≤ i → i < place → get_or held i 0 ≡ 10 → ⊥) → NoFeedBelow place held
none_below held searched place a b i lt e =
    elim (cases_lt i searched) [ inl low ↦ a i low e | inr high ↦ b i high lt e ]

pub line_found : (room : List ℕ) (start end searched place : ℕ) → NoFeedBelow searched (between start end room)
    → FindsFeed (between start end room) searched (Some place) → end ≤ length room → start ≤ end → place ≤ 20000
    → IsLine (between start end room) (between start (start + place) room) (between (start + place + 1) end room)
line_found room start end searched place none found within order short =
    let held : List ℕ = between start end room in
    let size : length held ≡ end - start = length-between room start end within in
    let inside : place < length held = found.1 in
    let front : take place held ≡ between start (start + place) room = take-between room start end place (omega arith) in
    let behind : drop (place + 1) held ≡ between (start + place + 1) end room =
    drop-between room start end (place + 1) ∙ ap (λ k. between k end room) (omega arith) in
    let before = none_below held searched place none found.3 in
    let front_size : length (between start (start + place) room) ≡ (start + place) - start = length-between room start (start + place) (omega arith) in
    record {
      parts =
          cut_at place held inside
          ∙ ap (λ b. take place held ++ b ∷ drop (place + 1) held) found.2
          ∙ ap (λ t. t ++ 10 ∷ drop (place + 1) held) front
          ∙ ap (λ t. between start (start + place) room ++ 10 ∷ t) behind;
      no_feed = λ i lt e.
          let below : i < place = omega (arith, front_size) in
          before i below (sym (get_or-take place held i 0 below) ∙ ap (λ t. get_or t i 0) front ∙ e);
      short = omega (arith, front_size);
    }

pub still_open : (held : List ℕ) (searched : ℕ) → NoFeedBelow searched held → FindsFeed held searched None → length held ≤ 20000 → IsOpen held
still_open held searched none found short = record {
  no_feed = none_below held searched (length held) none (λ i low high e. found i low high e);
  short = short;
}

-- bytes that were read into the room
take-more : (room : List ℕ) (end n : ℕ) → take (end + n) room ≡ take end room ++ take n (drop end room)
take-more room end n =
    sym (take-append-drop end (take (end + n) room))
    ∙ ap (λ t. t ++ drop end (take (end + n) room)) (take-take end (end + n) room (omega arith))
    ∙ ap (λ t. take end room ++ t) (drop-take end n room)

pub more_held : (old new : List ℕ) (start end n : ℕ) → start ≤ end → end + n ≤ length new → take end new ≡ take end old
    → between start (end + n) new ≡ between start end old ++ between end (end + n) new
more_held old new start end n order fits same =
    let size = length-take end new in
    between_is new start (end + n)
    ∙ ap (drop start) (take-more new end n)
    ∙ drop-append-le start (take end new) (take n (drop end new)) (omega arith)
    ∙ ap (λ t. drop start t ++ take n (drop end new)) same
    ∙ ap (λ t. t ++ take n (drop end new)) (sym (between_is old start end))
    ∙ ap (λ t. between start end old ++ t) (sym (drop-take end n new) ∙ sym (between_is new end (end + n)))

-- what holds anyway, said of a refusal
pub on_err : {T E : Type 0} (r : Result T E) (P : Type 0) → P → OnErr r P
on_err (Ok x) P p = tt
on_err (Err e) P p = p

-- the bytes that are held, where the room before their end is as it was
pub held_still : (old new : List ℕ) (start end : ℕ) → take end new ≡ take end old → between start end new ≡ between start end old
held_still old new start end same = between_is new start end ∙ ap (drop start) same ∙ sym (between_is old start end)

pub few_held : (room : List ℕ) (start end : ℕ) → length room ≡ 32768 → end ≤ 32768 → length (between start end room) ≤ 32768
few_held room start end size within = omega (arith, length-between room start end (omega arith))

-- a window whose held bytes stand elsewhere, and one into which bytes were read
pub moved_window : (old new : List ℕ) (line_start line_end start end searched start_now end_now : ℕ)
    → IsWindow old line_start line_end start end searched → between start_now end_now new ≡ between start end old
    → end_now ≡ start_now + (end - start) → length new ≡ 32768 → end_now ≤ 32768
    → IsWindow new 0 0 start_now end_now searched
moved_window old new line_start line_end start end searched start_now end_now w same long size within = record {
  size = size;
  line_order = omega arith;
  line_within = omega arith;
  order = omega arith;
  within = within;
  searched_within = omega (arith, w.order, w.searched_within);
  no_feed = subst (NoFeedBelow searched) (sym same) w.no_feed;
}

pub longer_window : (room : List ℕ) (start end n searched : ℕ) → IsWindow room 0 0 start end searched → end + n ≤ 32768 → IsWindow room 0 0 start (end + n) searched
longer_window room start end n searched w fits =
    let more = more_held room room start end n w.order (omega (arith, w.size)) refl in
    let long = length-between room start end (omega (arith, w.size)) in
    record {
      size = w.size;
      line_order = omega arith;
      line_within = omega arith;
      order = omega (arith, w.order);
      within = fits;
      searched_within = omega (arith, w.searched_within);
      no_feed = λ i low e.
          w.no_feed i low (sym (get_or_append_left (between start end room) (between end (end + n) room) 0 i (omega (arith, long, w.searched_within))) ∙ ap (λ t. get_or t i 0) (sym more) ∙ e);
    }

pub holds_more : (l m : Option (List ℕ)) (held old new : List ℕ) (start end n : ℕ)
    → between start end old ≡ held → start ≤ end → end + n ≤ length new → take end new ≡ take end old
    → Gives l m (between end (end + n) new) → (n ≡ 0 → IsSpent l)
    → Holds n held (between start (end + n) new) l m
holds_more l m held old new start end n was order fits same given spent =
    let size : length (between end (end + n) new) ≡ n = length-between new end (end + n) fits ∙ omega arith in
    record {
      piece = between end (end + n) new;
      size = size;
      is = more_held old new start end n order fits same ∙ ap (λ t. t ++ between end (end + n) new) was;
      given = given;
      spent = λ none. spent_after l m (subst (Gives l m) (nil_from_length _ (size ∙ none)) given) (spent none);
    }

-- These bytes are held now; what came of them came no sooner than it was wanted.
pub record Came (held now : List ℕ) (left left_now : Option (List ℕ)) : Type 0 where
  pub more : List ℕ
  pub given : Gives left left_now more
  pub prompt : IsPrompt held more
  pub is : now ≡ held ++ more

pub came_none : (held : List ℕ) (left : Option (List ℕ)) → Came held held left left
came_none held left = record {
  more = [];
  given = Gives-same left;
  prompt = inl refl;
  is = sym (append-nil held);
}

-- what begins bytes without a whole line has none either
open_front : (front more : List ℕ) → IsOpen (front ++ more) → IsOpen front
open_front front more h = record {
  no_feed = λ i low e. h.no_feed i (omega (arith, length-append front more)) (get_or_append_left front more 0 i low ∙ e);
  short = omega (arith, length-append front more, h.short);
}

pub came_more : (held now after : List ℕ) (l m n : Option (List ℕ)) (count : ℕ) → Came held now l m → IsOpen now → Holds count now after m n → Came held after l n
came_more held now after l m n count c is_open h = record {
  more = c.more ++ h.piece;
  given = Gives-append l m n c.more h.piece c.given h.given;
  prompt = inr (open_front held c.more (subst IsOpen c.is is_open));
  is = h.is ∙ ap (λ t. t ++ h.piece) c.is ∙ append_assoc held c.more h.piece;
}

pub reads_on : (held now : List ℕ) (l m : Option (List ℕ)) (P : List ℕ → Type 0) → Came held now l m → length now ≤ 32768 → P now → ReadsOn held l m P
reads_on held now l m P c few p =
    let Few : List ℕ → Type 0 = λ bytes. length bytes ≤ 32768 in
    record { more = c.more; given = c.given; prompt = c.prompt; few = subst Few c.is few; holds = subst P c.is p }

-- nothing came
pub open_still : (now after : List ℕ) (l m : Option (List ℕ)) → IsOpen now → Holds 0 now after l m → IsOpen after
open_still now after l m is_open h =
    subst IsOpen (sym (h.is ∙ ap (λ t. now ++ t) (nil_from_length h.piece h.size) ∙ append-nil now)) is_open

-- bytes that were read behind those that a search left as they were
pub came_behind : (held now found after : List ℕ) (l m n : Option (List ℕ)) (count : ℕ) → Came held now l m → IsOpen now → found ≡ now → Holds count found after m n → Came held after l n
came_behind held now found after l m n count c is_open same h = came_more held now after l m n count c is_open (subst (λ t. Holds count t after m n) same h)

pub longer_behind : (now found after : List ℕ) (m n : Option (List ℕ)) (count : ℕ) → IsOpen now → found ≡ now → Holds count found after m n → 0 < count → 40000 - length after < 40000 - length now
longer_behind now found after m n count is_open same h some =
    let long : length after ≡ length found + length h.piece = ap length h.is ∙ length-append found h.piece in
    omega (arith, long, ap length same, h.size, is_open.short)

-- why no line was taken: nothing is left, or the source failed
pub ends_spent : (held now found after : List ℕ) (l m n : Option (List ℕ)) (count : ℕ) → Came held now l m → IsOpen now → found ≡ now → Holds count found after m n → count ≡ 0
    → length after ≤ 32768 → ReadsOn held l n (λ bytes. IsOpen bytes × (after ≡ bytes) × IsSpent n)
ends_spent held now found after l m n count c is_open same h none few =
    let h0 = subst (λ k. Holds k now after m n) none (subst (λ t. Holds count t after m n) same h) in
    reads_on held after l n (λ bytes. IsOpen bytes × (after ≡ bytes) × IsSpent n) (came_behind held now found after l m n count c is_open same h) few
    (open_still now after m n is_open h0, refl, h.spent none)

pub ends_failed : (held now found after : List ℕ) (l m n : Option (List ℕ)) (faults faults_after : ℕ) → Came held now l m → IsOpen now → found ≡ now → after ≡ found → n ≡ m
    → length now ≤ 32768 → Rose faults faults_after → ReadsOn held l n (λ bytes. IsOpen bytes × (after ≡ bytes) × Rose faults faults_after)
ends_failed held now found after l m n faults faults_after c is_open same kept untaken few rose =
    reads_on held now l n (λ bytes. IsOpen bytes × (after ≡ bytes) × Rose faults faults_after) (subst (Came held now l) (sym untaken) c) few (is_open, kept ∙ same, rose)
