-- Bytes that come behind those that are held.
use Rattle.std.proofs.Common.{◌≡◌, ℕ, ◌+◌, ◌≤◌, List, [], ◌++◌, length, take, drop, Option, refl, ap, sym, ◌∙◌, subst, inl, inr, append_assoc}
use Rattle.std.specs.List.{between}
use Rattle.std.proofs.lemmas.List.{append-nil, nil_from_length, drop-drop}
use Rattle.std.proofs.lemmas.Slice.{between_is}
use Rattle.gev_links.specs.Told.{Gives}
use Rattle.gev_script.specs.Window.{Holds}
use Rattle.gev_script.proofs.Tellings.{Gives-append, Gives-same}
use Rattle.gev_capture.specs.Files.{Format, Told, wants, refused, given, told}
use Rattle.gev_capture.specs.Captures.{IsOpen}
use Rattle.gev_capture.specs.Laws.{Stays}
use Rattle.gev_capture.specs.Reading.{FirstIsWanted, ReadsOn}
use Rattle.gev_capture.proofs.Pieces.{pieces_tell}

-- These bytes are held now; the first of them that came were wanted.
pub record Came (format : Format) (held now : List ℕ) (left left_now : Option (List ℕ)) : Type 0 where
  pub more : List ℕ
  pub given : Gives left left_now more
  pub first : FirstIsWanted format held more
  pub is : now ≡ held ++ more

pub came_none : (format : Format) (held : List ℕ) (left : Option (List ℕ)) → Came format held held left left
came_none format held left = record {
  more = [];
  given = Gives-same left;
  first = inl refl;
  is = sym (append-nil held);
}

-- what begins bytes that tell of no record tells of none either
open_front : (format : Format) (front more : List ℕ) → IsOpen format (front ++ more) → IsOpen format front
open_front format front more h = go (told format front) refl (pieces_tell format front more) where
  go : (t : Told) → told format front ≡ t → Stays (length front) t (told format (front ++ more)) → IsOpen format front
  go (wants k) e stays = (k, e)
  go (refused kind) e stays = let both : wants h.0 ≡ refused kind = sym h.1 ∙ stays in absurd (cc)
  go (given k next packet) e stays = let both : wants h.0 ≡ given k next packet = sym h.1 ∙ stays.0 in absurd (cc)

pub came_more : (format : Format) (held now after : List ℕ) (l m n : Option (List ℕ)) (count : ℕ) → Came format held now l m → IsOpen format now → Holds count now after m n → Came format held after l n
came_more format held now after l m n count c is_open h = record {
  more = c.more ++ h.piece;
  given = Gives-append l m n c.more h.piece c.given h.given;
  first = inr (open_front format held c.more (subst (IsOpen format) c.is is_open));
  is = h.is ∙ ap (λ t. t ++ h.piece) c.is ∙ append_assoc held c.more h.piece;
}

pub reads_on : (format : Format) (held now : List ℕ) (l m : Option (List ℕ)) (P : List ℕ → Type 0) → Came format held now l m → length now ≤ 1114112 → P now → ReadsOn format held l m P
reads_on format held now l m P c few p =
    let Few : List ℕ → Type 0 = λ bytes. length bytes ≤ 1114112 in
    record { more = c.more; given = c.given; first = c.first; few = subst Few c.is few; holds = subst P c.is p }

-- nothing came
pub same_still : (now after : List ℕ) (l m : Option (List ℕ)) → Holds 0 now after l m → after ≡ now
same_still now after l m h = h.is ∙ ap (λ t. now ++ t) (nil_from_length h.piece h.size) ∙ append-nil now

-- what is left of a part of the room without its first bytes
pub drop-between : (room : List ℕ) (start end n : ℕ) → drop n (between start end room) ≡ between (start + n) end room
drop-between room start end n =
    ap (drop n) (between_is room start end) ∙ drop-drop n start (take end room) ∙ sym (between_is room (start + n) end)
