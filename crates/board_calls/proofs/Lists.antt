-- Lists of events that grow by those of one more place.
use Rattle.std.proofs.Common.{◌≡◌, ℕ, ◌+◌, suc, List, [], ◌∷◌, ◌++◌, length, Err, refl, sym, ap, ◌∙◌, arith, append_assoc, append-nil}
use Rattle.std.proofs.lemmas.List.{length-append}
use Rattle.gentl_types.specs.declared.word.Word.{Word}
use Rattle.board_machine.specs.declared.events.Event.{Event}
use Rattle.board_machine.specs.declared.events.Event.TheVariants.{Look, Enrol, Lay, Pool}
use Rattle.board_machine.proofs.Adding.{EndNobody}
use Rattle.board_calls.specs.Rounds.{lays, pools, refused_from, RefusedBelow, looks_from, filled_or_laid, FillsEach, FillsOne, Seen, IsGrabOf, AreGrabbedIfHeld, pools_seen, pools_from, PoolsIfHeld, PoolsHeldBelow}
use Rattle.board_calls.specs.Infos.{used, announced, CountsBelow}

pub lays-append : (is js : List ℕ) → lays (is ++ js) ≡ lays is ++ lays js
lays-append [] js = refl
lays-append (i ∷ is) js = ap (λ es. Lay i ∷ es) (lays-append is js)

pub pools-append : (is js : List ℕ) → pools (is ++ js) ≡ pools is ++ pools js
pools-append [] js = refl
pools-append (i ∷ is) js = ap (λ es. Pool i ∷ es) (pools-append is js)

-- none of them joins an actor into another
pub lays_end : (is : List ℕ) → EndNobody (lays is)
lays_end [] = tt
lays_end (i ∷ is) = (tt, lays_end is)

pub pools_end : (is : List ℕ) → EndNobody (pools is)
pools_end [] = tt
pools_end (i ∷ is) = (tt, pools_end is)

-- rounds over all places
index_more : (i n : ℕ) → (i + 1) + n ≡ i + suc n
index_more i n = omega arith

pub refused-push : (i size : ℕ) (words : List Word) (w : Word) → refused_from i size (words ++ w ∷ []) ≡ refused_from i size words ++ Enrol (i + length words) size (Err w) ∷ []
refused-push i size [] w = let e : i ≡ i + 0 = omega arith in ap (λ n. Enrol n size (Err w) ∷ []) e
refused-push i size (x ∷ words) w =
    ap (λ es. Enrol i size (Err x) ∷ es) (refused-push (i + 1) size words w ∙ ap (λ n. refused_from (i + 1) size words ++ Enrol n size (Err w) ∷ []) (index_more i (length words)))

pub refused_more : (n size : ℕ) (w : Word) (es fs : List Event) → RefusedBelow n size es → fs ≡ Enrol n size (Err w) ∷ [] → RefusedBelow (n + 1) size (es ++ fs)
refused_more n size w es fs below last = record {
  words = below.words ++ w ∷ [];
  all = length-append below.words (w ∷ []) ∙ ap (λ m. m + 1) below.all;
  is = ap (λ gs. gs ++ fs) below.is ∙ ap (λ gs. refused_from 0 size below.words ++ gs) last
      ∙ ap (λ m. refused_from 0 size below.words ++ Enrol m size (Err w) ∷ []) (let e : n ≡ 0 + length below.words = omega (arith, below.all) in e)
      ∙ sym (refused-push 0 size below.words w);
}

pools_from-push : (i : ℕ) (seen : List Seen) (s : Seen) → pools_from i (seen ++ s ∷ []) ≡ pools_from i seen ++ pools_seen (i + length seen) s.word s.grab
pools_from-push i [] s = let e : i ≡ i + 0 = omega arith in append-nil (pools_seen i s.word s.grab) ∙ ap (λ n. pools_seen n s.word s.grab) e
pools_from-push i (x ∷ seen) s =
    ap (λ es. pools_seen i x.word x.grab ++ es) (pools_from-push (i + 1) seen s ∙ ap (λ n. pools_from (i + 1) seen ++ pools_seen n s.word s.grab) (index_more i (length seen)))
    ∙ sym (append_assoc (pools_seen i x.word x.grab) (pools_from (i + 1) seen) (pools_seen (i + suc (length seen)) s.word s.grab))

grabbed-push : (seen : List Seen) (s : Seen) → AreGrabbedIfHeld seen → IsGrabOf s.word s.grab → AreGrabbedIfHeld (seen ++ s ∷ [])
grabbed-push [] s all one = (one, tt)
grabbed-push (x ∷ seen) s all one = (all.0, grabbed-push seen s all.1 one)

pub held_more : (n : ℕ) (es fs : List Event) → PoolsHeldBelow n es → PoolsIfHeld n fs → PoolsHeldBelow (n + 1) (es ++ fs)
held_more n es fs below one = record {
  seen = below.seen ++ one.seen ∷ [];
  all = length-append below.seen (one.seen ∷ []) ∙ ap (λ m. m + 1) below.all;
  grabbed = grabbed-push below.seen one.seen below.grabbed one.grabbed;
  is = ap (λ gs. gs ++ fs) below.is ∙ ap (λ gs. pools_from 0 below.seen ++ gs) one.is
      ∙ ap (λ m. pools_from 0 below.seen ++ pools_seen m one.seen.word one.seen.grab) (let e : n ≡ 0 + length below.seen = omega (arith, below.all) in e)
      ∙ sym (pools_from-push 0 below.seen one.seen);
}

pub fills_push : (is : List ℕ) (i : ℕ) (es fs : List Event) → FillsEach is es → FillsOne i fs → FillsEach (is ++ i ∷ []) (es ++ fs)
fills_push [] i es fs all one =
    (one.filling, one.filled, [], one.empty, ap (λ gs. gs ++ fs) all ∙ one.is ∙ sym (append-nil (filled_or_laid i one.filling one.filled)), refl)
fills_push (j ∷ is) i es fs all one =
    (all.0, all.1, all.2 ++ fs, all.3, ap (λ gs. gs ++ fs) all.4 ∙ append_assoc (filled_or_laid j all.0 all.1) all.2 fs, fills_push is i all.2 fs all.5 one)

looks-push : (i : ℕ) (words : List Word) (w : Word) → looks_from i (words ++ w ∷ []) ≡ looks_from i words ++ Look (i + length words) w ∷ []
looks-push i [] w = let e : i ≡ i + 0 = omega arith in ap (λ n. Look n w ∷ []) e
looks-push i (x ∷ words) w =
    let e : (i + 1) + length words ≡ i + length (x ∷ words) = omega arith in
    ap (λ es. Look i x ∷ es) (looks-push (i + 1) words w ∙ ap (λ n. looks_from (i + 1) words ++ Look n w ∷ []) e)

announced-push : (words : List Word) (w : Word) → announced (words ++ w ∷ []) ≡ announced words + used w.state
announced-push [] w = omega arith
announced-push (x ∷ words) w = omega (arith, announced-push words w)

pub counts_more : (n told one : ℕ) (w : Word) → one ≡ used w.state → (es fs : List Event) → CountsBelow n told es → fs ≡ Look n w ∷ [] → CountsBelow (n + 1) (told + one) (es ++ fs)
counts_more n told one w counted es fs below last = record {
  words = below.words ++ w ∷ [];
  all = length-append below.words (w ∷ []) ∙ ap (λ m. m + 1) below.all;
  is = ap (λ gs. gs ++ fs) below.is ∙ ap (λ gs. looks_from 0 below.words ++ gs) last
      ∙ ap (λ m. looks_from 0 below.words ++ Look m w ∷ []) (let e : n ≡ 0 + length below.words = omega (arith, below.all) in e)
      ∙ sym (looks-push 0 below.words w);
  value = omega (arith, below.value, counted, announced-push below.words w);
}
