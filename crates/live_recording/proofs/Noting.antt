-- The journal's marks are those of the turns.
use Rattle.std.proofs.Common.{◌≡◌, ℕ, suc, ◌+◌, ◌<◌, ◌≤◌, ◌^◌, Bool, List, [], ◌∷◌, ◌++◌, length, map, take, get_or, Option, Some, None, refl, sym, ap, subst, ◌∙◌, arith}
use Rattle.std.proofs.lemmas.List.{take_more, take_all, map-append}
use Rattle.std.specs.Prelude.{is_some}
use Rattle.std.specs.List.{AllByRecursion}
use Rattle.acquisition_machine.specs.Blocks.{Given}
use Rattle.acquisition_machine.specs.Machine.{Input, datagram}
use Rattle.acquisition_machine.specs.Runs.{After, turn}
use Rattle.acquisition_machine.specs.TurnLaws.{asked_by}
use Rattle.acquisition_machine.specs.declared.mark.Mark.{Mark}
use Rattle.gev_links.specs.Links.{Answer, nothing, failed, came}
use Rattle.gev_record.specs.Script.{live_config}
use Rattle.gev_record.specs.Marks.{block_or_zero, opened_in, IsReceived, HasWidths}
use Rattle.gev_record.specs.Taped.{datagram_of}
use Rattle.gev_record.specs.Writing.{noted}
use Rattle.gev_acq.specs.declared.turn.Turn.{Turn}
use Rattle.gev_acq.specs.declared.heard.Heard.{Heard}
use Rattle.gev_acq.specs.Heard.{or_zero, claimed_place}
use Rattle.gev_acq.specs.Turning.{IsHeardIf}
use Rattle.gev_acq.specs.Turns.{Turned, bytes_in, inputs_of, heard_of, Notes}
use Rattle.gev_acq.specs.Acquired.{answers_in, NoteEach}
use Rattle.live_recording.specs.Marks.{has_got, mark_in, marks_in, mark_of}

-- ---- one turn

zero_same : (n : Option ℕ) → or_zero n ≡ block_or_zero n
zero_same None = refl
zero_same (Some n) = refl

got_same : (given : Option (Option Given)) → is_some (claimed_place given) ≡ has_got given
got_same None = refl
got_same (Some None) = refl
got_same (Some (Some g)) = refl

opened_same : (q : List Input) (bytes : Option (List ℕ)) (given : Option (Option Given)) (r : Heard) → IsHeardIf live_config q bytes given r → r.opened ≡ opened_in (After live_config q) bytes
opened_same q None given r heard = ap (λ (x : Heard). x.opened) heard.1
opened_same q (Some bytes) given r heard = heard.opened ∙ zero_same (asked_by (turn live_config q (datagram bytes)).need)

claim_same : (q : List Input) (bytes : Option (List ℕ)) (given : Option (Option Given)) (r : Heard) → IsHeardIf live_config q bytes given r → is_some r.claim ≡ has_got given
claim_same q None given r heard = ap (λ (x : Heard). is_some x.claim) heard.1 ∙ sym (ap has_got heard.0)
claim_same q (Some bytes) given r heard = ap is_some heard.claim ∙ got_same given

abbrev a_mark : ℕ → ℕ → Bool → Mark
a_mark moment block claim = record { moment = moment; opened = block; claimed = claim }

mark_same : (q : List Input) (t : Turned) (e : Turn) → Notes live_config q t e → mark_of e ≡ mark_in q t
mark_same q t e notes =
    let block = opened_same q (bytes_in t.answer) t.given (heard_of e) notes.heard in
    let claim = claim_same q (bytes_in t.answer) t.given (heard_of e) notes.heard in
    ap (λ m. a_mark m e.opened (is_some e.claim)) notes.moment
    ∙ (ap (λ b. a_mark t.moment b (is_some e.claim)) block ∙ ap (λ c. a_mark t.moment (opened_in (After live_config q) (bytes_in t.answer)) c) claim)

-- ---- all turns

pub marks_same : (q : List Input) (made : List Turned) (es : List Turn) → NoteEach live_config q made es → map mark_of es ≡ marks_in q made
marks_same q [] [] notes = refl
marks_same q [] (e ∷ es) notes = absurd notes
marks_same q (t ∷ ts) [] notes = absurd notes
marks_same q (t ∷ ts) (e ∷ es) notes =
    ap (λ (m : Mark). m ∷ map mark_of es) (mark_same q t e notes.0) ∙ ap (λ (ms : List Mark). mark_in q t ∷ ms) (marks_same (q ++ inputs_of t) ts es notes.1)

pub notes_counted : (q : List Input) (made : List Turned) (es : List Turn) → NoteEach live_config q made es → length es ≡ length made
notes_counted q [] [] notes = refl
notes_counted q [] (e ∷ es) notes = absurd notes
notes_counted q (t ∷ ts) [] notes = absurd notes
notes_counted q (t ∷ ts) (e ∷ es) notes = ap suc (notes_counted (q ++ inputs_of t) ts es notes.1)

pub answers_counted : (made : List Turned) → length (map datagram_of (answers_in made)) ≡ length made
answers_counted [] = refl
answers_counted (t ∷ ts) = ap suc (answers_counted ts)

pub marks_counted : (q : List Input) (made : List Turned) → length (marks_in q made) ≡ length made
marks_counted q [] = refl
marks_counted q (t ∷ ts) = ap suc (marks_counted (q ++ inputs_of t) ts)

-- ---- what came

datagram_same : (a : Answer) → datagram_of a ≡ bytes_in a
datagram_same nothing = refl
datagram_same failed = refl
datagram_same (came bytes peer) = refl

pub datagrams_same : (answers : List Answer) → map datagram_of answers ≡ map bytes_in answers
datagrams_same [] = refl
datagrams_same (a ∷ answers) =
    ap (λ (d : Option (List ℕ)). d ∷ map datagram_of answers) (datagram_same a) ∙ ap (λ (ds : List (Option (List ℕ))). bytes_in a ∷ ds) (datagrams_same answers)

-- ---- widths

pub noted_counted : (ks : List (Option (List ℕ))) (ms : List Mark) → length (noted ks ms) ≡ length ms
noted_counted ks [] = refl
noted_counted [] (m ∷ ms) = ap suc (noted_counted [] ms)
noted_counted (k ∷ ks) (m ∷ ms) = ap suc (noted_counted ks ms)

pub all_wide : (ks : List (Option (List ℕ))) (es : List Turn) → AllByRecursion IsReceived ks → AllByRecursion (λ (e : Turn). e.moment < 2 ^ 64) es → AllByRecursion HasWidths (noted ks (map mark_of es))
all_wide ks [] received small = tt
all_wide [] (e ∷ es) received small = (record { moment = small.0; received = tt }, all_wide [] es tt small.1)
all_wide (k ∷ ks) (e ∷ es) received small = (record { moment = small.0; received = received.0 }, all_wide ks es received.1 small.1)

-- ---- marks that are made one by one

-- so many entries of the journal were marked, and their moments are small
pub record MarksFront (journal : List Turn) (i : ℕ) (marks : List Mark) : Type 0 where
  pub items : marks ≡ map mark_of (take i journal)
  pub small : AllByRecursion (λ (e : Turn). e.moment < 2 ^ 64) (take i journal)

small_more : (es : List Turn) (e : Turn) → AllByRecursion (λ (x : Turn). x.moment < 2 ^ 64) es → e.moment < 2 ^ 64 → AllByRecursion (λ (x : Turn). x.moment < 2 ^ 64) (es ++ e ∷ [])
small_more [] e all one = (one, tt)
small_more (x ∷ es) e all one = (all.0, small_more es e all.1 one)

pub marks_none : (journal : List Turn) (marks : List Mark) → marks ≡ [] → MarksFront journal 0 marks
marks_none journal marks none = record { items = none; small = tt }

pub marks_more : (journal : List Turn) (i : ℕ) (d : Turn) (marks new : List Mark) → i < length journal → MarksFront journal i marks → new ≡ marks ++ mark_of (get_or journal i d) ∷ []
    → (get_or journal i d).moment < 2 ^ 64 → MarksFront journal (i + 1) new
marks_more journal i d marks new low front is one =
    let next : take (i + 1) journal ≡ take i journal ++ get_or journal i d ∷ [] = take_more journal i d low in
    record {
      items = is ∙ (ap (λ (l : List Mark). l ++ mark_of (get_or journal i d) ∷ []) front.items
          ∙ (sym (map-append mark_of (take i journal) (get_or journal i d ∷ [])) ∙ ap (map mark_of) (sym next)));
      small = subst (λ (l : List Turn). AllByRecursion (λ (x : Turn). x.moment < 2 ^ 64) l) (sym next) (small_more (take i journal) (get_or journal i d) front.small one);
    }

pub marks_all : (journal : List Turn) (i : ℕ) (marks : List Mark) → length journal ≤ i → MarksFront journal i marks → MarksFront journal (length journal) marks
marks_all journal i marks full front =
    let same : take i journal ≡ take (length journal) journal = take_all i journal full ∙ sym (take_all (length journal) journal (omega arith)) in
    record {
      items = front.items ∙ ap (map mark_of) same;
      small = subst (λ (l : List Turn). AllByRecursion (λ (x : Turn). x.moment < 2 ^ 64) l) same front.small;
    }

pub all_items : (journal : List Turn) (marks : List Mark) → MarksFront journal (length journal) marks → marks ≡ map mark_of journal
all_items journal marks front = front.items ∙ ap (map mark_of) (take_all (length journal) journal (omega arith))

pub all_small : (journal : List Turn) (marks : List Mark) → MarksFront journal (length journal) marks → AllByRecursion (λ (x : Turn). x.moment < 2 ^ 64) journal
all_small journal marks front = subst (λ (l : List Turn). AllByRecursion (λ (x : Turn). x.moment < 2 ^ 64) l) (take_all (length journal) journal (omega arith)) front.small
