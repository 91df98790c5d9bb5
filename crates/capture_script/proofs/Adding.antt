-- Lines that are added to the text.
use Rattle.std.proofs.Common.{◌≡◌, ℕ, zero, suc, ◌+◌, ◌≤◌, Bool, List, [], ◌∷◌, ◌++◌, refl, ap, sym, ◌∙◌, subst, arith, add-one}
use Rattle.std.specs.Prelude.{◌||◌, if◌then◌else◌}
use Rattle.std.proofs.lemmas.Bool.{ne_eqb}
use Rattle.std.proofs.lemmas.List.{append-nil}
use Rattle.hex.specs.Hex.{encode_lower}
use Rattle.gev_script.specs.Lines as line
use Rattle.gev_script.specs.Lines.{ScriptLine}
use Rattle.gev_capture.specs.Sightings.{Sighting}
use Rattle.capture_runs.specs.Texts.{Tells}
use Rattle.capture_script.specs.Playing.{Played, Line, heard, ticked, stopped}
use Rattle.capture_script.specs.Standing.{PlayingState, StandsAt, PlaysLine}
use Rattle.capture_script.specs.Script.{Scripted, Written, stands_in, Lines, text_of, take_lines, announce_lines, taking, with_takes, no_lines, both, goes_on, ticks, carries, sighted, script_texts, closing_lines}
use Rattle.capture_script.specs.Scripting.{ScriptingState, StandsFor, AddsLines, IsWritten}
use Rattle.take_lines.proofs.Texts.{added_both}

one_announce : (n size : ℕ) → announce_lines n size ++ line.announce size ∷ [] ≡ announce_lines (n + 1) size
one_announce zero size = refl
one_announce (suc n) size = rw add-one (ap (λ (ls : List ScriptLine). line.announce size ∷ ls) (one_announce n size ∙ rw add-one refl))

-- one more buffer
pub announced_one : (n size : ℕ) (t0 t1 t2 : List ℕ) → t1 ≡ t0 ++ text_of (announce_lines n size) → t2 ≡ t1 ++ text_of (line.announce size ∷ []) → t2 ≡ t0 ++ text_of (announce_lines (n + 1) size)
announced_one n size t0 t1 t2 e f = added_both (announce_lines n size) (line.announce size ∷ []) t0 t1 t2 e f ∙ ap (λ (ls : List ScriptLine). t0 ++ text_of ls) (one_announce n size)

-- a line and the takes behind it
added_line : (l : ScriptLine) (filled n : ℕ) (t0 t1 t2 : List ℕ) → filled ≡ n → t1 ≡ t0 ++ text_of (l ∷ []) → t2 ≡ t1 ++ text_of (taking filled) → t2 ≡ t0 ++ text_of (l ∷ taking n)
added_line l filled n t0 t1 t2 g e f = added_both (l ∷ []) (taking filled) t0 t1 t2 e f ∙ ap (λ (k : ℕ). t0 ++ text_of (l ∷ taking k)) g

line_adds : (l : ScriptLine) (played : Line) (s : Scripted) (old new : ScriptingState) (moment filled : ℕ) (t0 t1 t2 : List ℕ) → PlaysLine played old.playing new.playing filled
    → new.port ≡ old.port → new.moment ≡ moment → StandsFor old s → t1 ≡ t0 ++ text_of (l ∷ []) → t2 ≡ t1 ++ text_of (taking filled)
    → AddsLines (record { lines = with_takes l played; after = record s { played = played.after; moment = moment } }) new t0 t2
line_adds l played s old new moment filled t0 t1 t2 plays port is_moment at e f = record {
  stands = record {
    port = port ∙ at.port;
    p = plays.p ∙ at.p;
    size = plays.size ∙ at.size;
    played = plays.stands;
    moment = is_moment;
  };
  text_is = added_line l filled played.filled t0 t1 t2 plays.filled_is e f;
}

stands_inside : (inside now : ScriptingState) (s : Scripted) → inside ≡ now → StandsFor now s → StandsFor inside s
stands_inside inside now s e at = subst (λ (x : ScriptingState). StandsFor x s) (sym e) at

-- a `t` line
pub tick_adds : (inside now new : ScriptingState) (moment filled : ℕ) (s : Scripted) (t0 t1 t2 : List ℕ) → inside ≡ now → new.port ≡ inside.port → new.moment ≡ moment
    → ((q : Played) → StandsAt inside.playing q → PlaysLine (ticked inside.playing.p moment q) inside.playing new.playing filled)
    → t1 ≡ t0 ++ text_of (line.tick moment ∷ []) → t2 ≡ t1 ++ text_of (taking filled) → StandsFor now s → AddsLines (goes_on moment s) new t0 t2
tick_adds inside now new moment filled s t0 t1 t2 same port is_moment ticks e f stands =
    let at = stands_inside inside now s same stands in
    let plays = subst (λ (p : ℕ). PlaysLine (ticked p moment s.played) inside.playing new.playing filled) at.p (ticks s.played at.played) in
    line_adds (line.tick moment) (ticked s.p moment s.played) s inside new moment filled t0 t1 t2 plays port is_moment at e f

-- a `d` line
pub carry_adds : (inside now new : ScriptingState) (bytes : List ℕ) (filled : ℕ) (s : Scripted) (t0 t1 t2 : List ℕ) → inside ≡ now → new.port ≡ inside.port → new.moment ≡ inside.moment
    → ((q : Played) → StandsAt inside.playing q → PlaysLine (heard inside.playing.p inside.playing.size bytes q) inside.playing new.playing filled)
    → t1 ≡ t0 ++ text_of (line.datagram (encode_lower bytes) ∷ []) → t2 ≡ t1 ++ text_of (taking filled) → StandsFor now s → AddsLines (carries bytes s) new t0 t2
carry_adds inside now new bytes filled s t0 t1 t2 same port is_moment hears e f stands =
    let at = stands_inside inside now s same stands in
    let sized = subst (λ (n : ℕ). PlaysLine (heard inside.playing.p n bytes s.played) inside.playing new.playing filled) at.size (hears s.played at.played) in
    let plays = subst (λ (p : ℕ). PlaysLine (heard p s.size bytes s.played) inside.playing new.playing filled) at.p sized in
    line_adds (line.datagram (encode_lower bytes)) (heard s.p s.size bytes s.played) s inside new s.moment filled t0 t1 t2 plays port (is_moment ∙ at.moment) at e f

-- nothing is added
pub none_adds : (now : ScriptingState) (s : Scripted) (t : List ℕ) → StandsFor now s → AddsLines (no_lines s) now t t
none_adds now s t at = record { stands = at; text_is = sym (append-nil t) }

-- the one and then the other
pub both_add : (first : Lines) (next : Scripted → Lines) (mid new : ScriptingState) (t0 t1 t2 : List ℕ) → AddsLines first mid t0 t1
    → ((s : Scripted) → StandsFor mid s → AddsLines (next s) new t1 t2) → AddsLines (both first next) new t0 t2
both_add first next mid new t0 t1 t2 one two =
    let h = two first.after one.stands in
    record { stands = h.stands; text_is = added_both first.lines (next first.after).lines t0 t1 t2 one.text_is h.text_is }

-- the lines of a packet
pub tells_packet : (w : Written) (x : Sighting) (new : ScriptingState) (told : Bool) (t0 t1 : List ℕ) → AddsLines (sighted w.script x) new t0 t1 → told ≡ (w.told || stands_in w.script.port x.what)
    → Tells script_texts w (x ∷ []) (IsWritten new told) t0 t1
tells_packet w x new told t0 t1 h e = record {
  stands = record { stands = h.stands; told_is = e };
  added = h.text_is ∙ ap (λ (t : List ℕ). t0 ++ t) (sym (append-nil (text_of (sighted w.script x).lines)));
}

-- all takes stand, and the flush behind them
pub taken_all : (filled : ℕ) (t0 t1 t2 : List ℕ) → 1 ≤ filled → t1 ≡ t0 ++ text_of (take_lines filled) → t2 ≡ t1 ++ text_of (line.flush 3 ∷ []) → t2 ≡ t0 ++ text_of (taking filled)
taken_all filled t0 t1 t2 some e f =
    added_both (take_lines filled) (line.flush 3 ∷ []) t0 t1 t2 e f
    ∙ ap (λ (b : Bool). t0 ++ text_of (if b then [] else take_lines filled ++ line.flush 3 ∷ [])) (sym (ne_eqb filled 0 (λ e. omega (arith, some, e))))

-- the stream stops, and the script ends
pub close_adds : (inside now : ScriptingState) (after : PlayingState) (filled : ℕ) (s : Scripted) (t0 t1 t2 t3 : List ℕ) → inside ≡ now
    → ((q : Played) → StandsAt inside.playing q → PlaysLine (stopped inside.playing.p q) inside.playing after filled)
    → t1 ≡ t0 ++ text_of (line.stop 0 ∷ []) → t2 ≡ t1 ++ text_of (taking filled) → t3 ≡ t2 ++ text_of (line.end_of_script ∷ []) → StandsFor now s
    → t3 ≡ t0 ++ text_of (closing_lines s)
close_adds inside now after filled s t0 t1 t2 t3 same stops e f g stands =
    let at = stands_inside inside now s same stands in
    let plays = subst (λ (p : ℕ). PlaysLine (stopped p s.played) inside.playing after filled) at.p (stops s.played at.played) in
    added_both (with_takes (line.stop 0) (stopped s.p s.played)) (line.end_of_script ∷ []) t0 t2 t3
    (added_line (line.stop 0) filled (stopped s.p s.played).filled t0 t1 t2 plays.filled_is e f) g
