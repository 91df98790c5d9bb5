-- What is written of a text: all of it, or a front.
use Rattle.std.proofs.Common.{◌≡◌, ℕ, List, [], ◌++◌, Option, Some, None, refl, ap, sym, ◌∙◌, subst, append_assoc}
use Rattle.std.proofs.lemmas.List.{append-nil}
use Rattle.gev_links.specs.Told.{Appends, WritesFront}
use Rattle.capture_runs.specs.Turns.{Drains}

pub Appends-same : (w : Option (List ℕ)) → Appends w w []
Appends-same None = refl
Appends-same (Some w) = ap (λ (l : List ℕ). Some l) (sym (append-nil w))

pub Appends-append : (w x y : Option (List ℕ)) (xs ys : List ℕ) → Appends w x xs → Appends x y ys → Appends w y (xs ++ ys)
Appends-append None x y xs ys g h = subst (λ (v : Option (List ℕ)). Appends v y ys) g h
Appends-append (Some w) x y xs ys g h =
    let last : Appends (Some (w ++ xs)) y ys = subst (λ (v : Option (List ℕ)). Appends v y ys) g h in
    last ∙ ap (λ (t : List ℕ). Some t) (append_assoc w xs ys)

-- nothing is written yet
pub drains_none : (w : Option (List ℕ)) (text : List ℕ) → Drains w w text text
drains_none w text = record { front = []; parts = refl; appended = Appends-same w }

-- more text comes, and more is written
pub drains_more : (w x y : Option (List ℕ)) (text more held held_after : List ℕ) → Drains w x text held → Drains x y (held ++ more) held_after → Drains w y (text ++ more) held_after
drains_more w x y text more held held_after d e = record {
  front = d.front ++ e.front;
  parts =
      ap (λ (t : List ℕ). t ++ more) d.parts ∙ append_assoc d.front held more ∙ ap (λ (t : List ℕ). d.front ++ t) e.parts
      ∙ sym (append_assoc d.front e.front held_after);
  appended = Appends-append w x y d.front e.front d.appended e.appended;
}

-- the rest of the text is written
pub drained_whole : (w x y : Option (List ℕ)) (text more held : List ℕ) → Drains w x text held → Appends x y (held ++ more) → Appends w y (text ++ more)
drained_whole w x y text more held d e =
    subst (λ (t : List ℕ). Appends w y t)
    (sym (append_assoc d.front held more) ∙ ap (λ (t : List ℕ). t ++ more) (sym d.parts))
    (Appends-append w x y d.front (held ++ more) d.appended e)

-- a front of the rest is written
pub drained_front : (w x y : Option (List ℕ)) (text more held : List ℕ) → Drains w x text held → WritesFront x y (held ++ more) → WritesFront w y (text ++ more)
drained_front w x y text more held d e = record {
  front = d.front ++ e.front;
  rest = e.rest;
  parts =
      ap (λ (t : List ℕ). t ++ more) d.parts ∙ append_assoc d.front held more ∙ ap (λ (t : List ℕ). d.front ++ t) e.parts
      ∙ sym (append_assoc d.front e.front e.rest);
  appended = Appends-append w x y d.front e.front d.appended e.appended;
}

pub front_none : (w x : Option (List ℕ)) (text : List ℕ) → x ≡ w → WritesFront w x text
front_none w x text e = record { front = []; rest = text; parts = refl; appended = subst (λ (v : Option (List ℕ)). Appends w v []) (sym e) (Appends-same w) }

-- a front of a text is one of a longer text
pub front_more : (w x : Option (List ℕ)) (text more : List ℕ) → WritesFront w x text → WritesFront w x (text ++ more)
front_more w x text more f = record {
  front = f.front;
  rest = f.rest ++ more;
  parts = ap (λ (t : List ℕ). t ++ more) f.parts ∙ append_assoc f.front f.rest more;
  appended = f.appended;
}

-- nothing more was written
pub still_front : (text held : List ℕ) (written written_mid written_after : Option (List ℕ)) → Drains written written_mid text held → written_after ≡ written_mid → WritesFront written written_after text
still_front text held written written_mid written_after d e =
    record { front = d.front; rest = held; parts = d.parts; appended = subst (λ (v : Option (List ℕ)). Appends written v d.front) (sym e) d.appended }
