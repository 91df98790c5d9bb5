-- Turns one after another.
use Rattle.std.proofs.Common.{◌≡◌, ℕ, List, [], ◌∷◌, ◌++◌, Option, refl, sym, ap, subst, ◌∙◌, append_assoc}
use Rattle.std.proofs.lemmas.List.{append-nil}
use Rattle.board_machine.specs.declared.events.Event.{Event}
use Rattle.board_machine.specs.Machine.{item}
use Rattle.buffer_words.specs.Passes.{Token}
use Rattle.buffer_words.specs.Loans.{Lent}
use Rattle.buffer_words.proofs.Several.{each_none, each_then}
use Rattle.gentl_events.specs.Turns.{TakesMore}
use Rattle.gev_links.specs.Moments.{TellsEach}
use Rattle.gev_report.specs.ReplayLines.{take_line}
use Rattle.gev_apply.specs.TakenIds.{taken_ids, TakesIds}
use Rattle.gev_apply.specs.Looks.{Looked, LooksOnce, LookEach, lent_by, lent_in, moments_in, items_of, ids_of, lines_of}
use Rattle.gev_apply.specs.Applied.{Looks}
use Rattle.gev_links.proofs.Growing.{tells_none, tells_then}
use Rattle.gev_apply.proofs.Ids.{ids_then}
use Rattle.gev_apply.proofs.Quiet.{takes_then}

look_each_then : (ts us : List Looked) (es fs : List Event) → LookEach ts es → LookEach us fs → LookEach (ts ++ us) (es ++ fs)
look_each_then [] us es fs first second = subst (λ l. LookEach us l) (sym (ap (λ l. l ++ fs) first)) second
look_each_then (t ∷ ts) us es fs first second = record {
  first = first.first;
  rest = first.rest ++ fs;
  looks = first.looks;
  later = look_each_then ts us first.rest fs first.later second;
  is = ap (λ l. l ++ fs) first.is ∙ append_assoc first.first first.rest fs;
}

pub look_each_one : (t : Looked) (es : List Event) → LooksOnce t es → LookEach (t ∷ []) es
look_each_one t es looks = record { first = es; rest = []; looks = looks; later = refl; is = sym (append-nil es) }

pub lent-append : (ts us : List Looked) → lent_in (ts ++ us) ≡ lent_in ts ++ lent_in us
lent-append [] us = refl
lent-append (t ∷ ts) us = ap (λ l. lent_by t.answer ++ l) (lent-append ts us) ∙ sym (append_assoc (lent_by t.answer) (lent_in ts) (lent_in us))

moments-append : (ts us : List Looked) → moments_in (ts ++ us) ≡ moments_in ts ++ moments_in us
moments-append [] us = refl
moments-append (t ∷ ts) us = ap (λ l. t.moments ++ l) (moments-append ts us) ∙ sym (append_assoc t.moments (moments_in ts) (moments_in us))

items-append : (ks ls : List Lent) → items_of (ks ++ ls) ≡ items_of ks ++ items_of ls
items-append [] ls = refl
items-append (k ∷ ks) ls = ap (λ l. item k.id.place k.filling ∷ l) (items-append ks ls)

ids-append : (ks ls : List Lent) → ids_of (ks ++ ls) ≡ ids_of ks ++ ids_of ls
ids-append [] ls = refl
ids-append (k ∷ ks) ls = ap (λ l. k.id ∷ l) (ids-append ks ls)

lines-append : (ks ls : List Lent) → lines_of (ks ++ ls) ≡ lines_of ks ++ lines_of ls
lines-append [] ls = refl
lines-append (k ∷ ks) ls =
    ap (λ l. take_line k.id k.filling ++ l) (lines-append ks ls) ∙ sym (append_assoc (take_line k.id k.filling) (lines_of ks) (lines_of ls))

pub looks_none : (told : Option (List ℕ)) (s : Token) → Looks told told [] s s
looks_none told s = record {
  events = [];
  enters = each_none s;
  looks = refl;
  takes = sym (append-nil _);
  ids = sym (append-nil (taken_ids s.number s.seen));
  tells = tells_none told;
}

pub looks_then : (told mid now : Option (List ℕ)) (ts us : List Looked) (s t u : Token) → Looks told mid ts s t → Looks mid now us t u → Looks told now (ts ++ us) s u
looks_then told mid now ts us s t u first second = record {
  events = first.events ++ second.events;
  enters = each_then s t u first.events second.events first.enters second.enters;
  looks = look_each_then ts us first.events second.events first.looks second.looks;
  takes = subst (λ l. TakesMore l s u) (sym (ap items_of (lent-append ts us) ∙ items-append (lent_in ts) (lent_in us)))
      (takes_then s t u (items_of (lent_in ts)) (items_of (lent_in us)) first.enters.number first.takes second.takes);
  ids = subst (λ l. TakesIds l s u) (sym (ap ids_of (lent-append ts us) ∙ ids-append (lent_in ts) (lent_in us)))
      (ids_then s t u (ids_of (lent_in ts)) (ids_of (lent_in us)) first.enters.number first.ids second.ids);
  tells = subst (λ l. TellsEach told now l) (sym (moments-append ts us)) (tells_then told mid now (moments_in ts) (moments_in us) first.tells second.tells);
}

-- the lines of one more turn
pub lines_more : (old mid new : List ℕ) (ts : List Looked) (t : Looked) → mid ≡ old ++ lines_of (lent_in ts) → new ≡ mid ++ lines_of (lent_by t.answer) → new ≡ old ++ lines_of (lent_in (ts ++ t ∷ []))
lines_more old mid new ts t first second =
    second
    ∙ (ap (λ l. l ++ lines_of (lent_by t.answer)) first
    ∙ (append_assoc old (lines_of (lent_in ts)) (lines_of (lent_by t.answer))
    ∙ ap (λ l. old ++ l) (sym (ap lines_of (lent-append ts (t ∷ []))
    ∙ (lines-append (lent_in ts) (lent_by t.answer ++ [])
    ∙ ap (λ l. lines_of (lent_in ts) ++ lines_of l) (append-nil (lent_by t.answer)))))))
