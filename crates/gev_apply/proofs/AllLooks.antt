-- All turns of the application.
use Rattle.std.proofs.Common.{◌≡◌, ◌≢◌, ℕ, ◌+◌, ◌≤◌, List, [], ◌∷◌, ◌++◌, length, Option, Result, Ok, Err, refl, sym, ap, subst, ◌∙◌, inl, inr, arith, length-append}
use Rattle.std.proofs.lemmas.List.{append-nil}
use Rattle.gentl_types.specs.declared.errors.GcError.{GcError}
use Rattle.gev_apply.specs.declared.look_end.LookEnd.{LookEnd}
use Rattle.gev_apply.specs.declared.look_end.LookEnd.TheVariants.{Handed, Idle, Over}
use Rattle.buffer_words.specs.Passes.{Token}
use Rattle.buffer_words.specs.Loans.{Lent}
use Rattle.gev_apply.specs.Looks.{Looked, lent_by, lent_in, lines_of}
use Rattle.gev_apply.specs.Applied.{Looks, IsLast, GotNothing, AllGoOn, LooksWell, LooksShort, AppliesWell, AppliesShort}
use Rattle.gev_apply.proofs.Turns.{looks_none, looks_then, lent-append, lines_more}

-- The application goes on: these turns were made, and none was the last.
pub record GoesOn (frames taken : ℕ) (told now : Option (List ℕ)) (old new : List ℕ) (s t : Token) : Type 0 where
  pub made : List Looked
  pub looks : Looks told now made s t
  pub number : taken ≡ length (lent_in made)
  pub few : taken ≤ frames
  pub on : AllGoOn made
  pub lines : new ≡ old ++ lines_of (lent_in made)

pub begins : (frames : ℕ) (told : Option (List ℕ)) (old : List ℕ) (s : Token) → GoesOn frames 0 told told old old s s
begins frames told old s = record {
  made = [];
  looks = looks_none told s;
  number = refl;
  few = omega arith;
  on = tt;
  lines = sym (append-nil old);
}

on_more : (ts : List Looked) (t : Looked) → AllGoOn ts → ¬ IsLast t → AllGoOn (ts ++ t ∷ [])
on_more [] t on more = (more, tt)
on_more (u ∷ ts) t on more = (on.0, on_more ts t on.1 more)

-- how many buffers there are with one more turn
count_more : (ts : List Looked) (t : Looked) → length (lent_in (ts ++ t ∷ [])) ≡ length (lent_in ts) + length (lent_by t.answer)
count_more ts t =
    ap length (lent-append ts (t ∷ []))
    ∙ (length-append (lent_in ts) (lent_by t.answer ++ []) ∙ ap (λ l. length (lent_in ts) + length l) (append-nil (lent_by t.answer)))

-- one more turn
turns_on : (frames taken more : ℕ) (told mid now : Option (List ℕ)) (old between new : List ℕ) (s t u : Token) (turn : Looked) → (g : GoesOn frames taken told mid old between s t) → Looks mid now (turn ∷ []) t u → ¬ IsLast turn
    → new ≡ between ++ lines_of (lent_by turn.answer) → more ≡ taken + length (lent_by turn.answer) → more ≤ frames → GoesOn frames more told now old new s u
turns_on frames taken more told mid now old between new s t u turn g looks on lines number few = record {
  made = g.made ++ turn ∷ [];
  looks = looks_then told mid now g.made (turn ∷ []) s t u g.looks looks;
  number = omega (arith, number, g.number, count_more g.made turn);
  few = few;
  on = on_more g.made turn g.on on;
  lines = lines_more old between new g.made turn g.lines lines;
}

lent_one : (turn : Looked) (loan : Lent) → turn.answer ≡ Ok loan → lent_by turn.answer ≡ loan ∷ []
lent_one turn loan got = ap lent_by got

lent_nothing : (turn : Looked) → GotNothing turn.answer → lent_by turn.answer ≡ []
lent_nothing turn nothing = go turn.answer nothing
  where
    go : (answer : Result Lent GcError) → GotNothing answer → lent_by answer ≡ []
    go (Ok loan) none_there = absurd none_there
    go (Err error) none_there = refl

as_end : (told now : Option (List ℕ)) (old new : List ℕ) (end other : LookEnd) (s t : Token) → end ≡ other → LooksWell told now old new end s t → LooksWell told now old new other s t
as_end told now old new end other s t is w = subst (λ e. LooksWell told now old new e s t) is w

one_more : (frames taken more : ℕ) (told mid now : Option (List ℕ)) (old between new : List ℕ) (s t u : Token) → GoesOn frames taken told mid old between s t → LooksWell mid now between new Handed t u → taken ≢ frames → more ≡ taken + 1
    → GoesOn frames more told now old new s u
one_more frames taken more told mid now old between new s t u g w fewer number =
    turns_on frames taken more told mid now old between new s t u w.turn g w.looks
    (λ last. subst (λ answer. GotNothing answer) w.ends.1 last.nothing)
    w.lines (omega (arith, number, ap length (lent_one w.turn w.ends.0 w.ends.1))) (omega (arith, number, g.few, fewer))

pub hands_one : (frames taken more : ℕ) (told mid now : Option (List ℕ)) (old between new : List ℕ) (end : LookEnd) (s t u : Token) → GoesOn frames taken told mid old between s t → LooksWell mid now between new end t u → end ≡ Handed → taken ≢ frames → more ≡ taken + 1
    → GoesOn frames more told now old new s u
hands_one frames taken more told mid now old between new end s t u g w is fewer number =
    one_more frames taken more told mid now old between new s t u g (as_end mid now between new end Handed t u is w) fewer number

none_more : (frames taken : ℕ) (told mid now : Option (List ℕ)) (old between new : List ℕ) (s t u : Token) → GoesOn frames taken told mid old between s t → LooksWell mid now between new Idle t u → GoesOn frames taken told now old new s u
none_more frames taken told mid now old between new s t u g w =
    turns_on frames taken taken told mid now old between new s t u w.turn g w.looks (λ last. last.stopped w.ends.1) w.lines
    (omega (arith, ap length (lent_nothing w.turn w.ends.0))) g.few

pub idles_on : (frames taken : ℕ) (told mid now : Option (List ℕ)) (old between new : List ℕ) (end : LookEnd) (s t u : Token) → GoesOn frames taken told mid old between s t → LooksWell mid now between new end t u → end ≡ Idle → GoesOn frames taken told now old new s u
idles_on frames taken told mid now old between new end s t u g w is =
    none_more frames taken told mid now old between new s t u g (as_end mid now between new end Idle t u is w)

-- ---- the ends

pub all_taken : (frames taken : ℕ) (told now : Option (List ℕ)) (old new : List ℕ) (s t : Token) → GoesOn frames taken told now old new s t → taken ≡ frames → AppliesWell frames taken told now old new s t
all_taken frames taken told now old new s t g all = record {
  made = g.made;
  looks = g.looks;
  number = g.number;
  few = g.few;
  enough = inl (all, g.on);
  lines = g.lines;
}

over : (frames taken : ℕ) (told mid now : Option (List ℕ)) (old between new : List ℕ) (s t u : Token) → GoesOn frames taken told mid old between s t → LooksWell mid now between new Over t u → AppliesWell frames taken told now old new s u
over frames taken told mid now old between new s t u g w = record {
  made = g.made ++ w.turn ∷ [];
  looks = looks_then told mid now g.made (w.turn ∷ []) s t u g.looks w.looks;
  number = omega (arith, g.number, count_more g.made w.turn, ap length (lent_nothing w.turn w.ends.nothing));
  few = g.few;
  enough = inr (record { before = g.made; last = w.turn; is = refl; on = g.on; over = w.ends });
  lines = lines_more old between new g.made w.turn g.lines w.lines;
}

pub is_over : (frames taken : ℕ) (told mid now : Option (List ℕ)) (old between new : List ℕ) (end : LookEnd) (s t u : Token) → GoesOn frames taken told mid old between s t → LooksWell mid now between new end t u → end ≡ Over → AppliesWell frames taken told now old new s u
is_over frames taken told mid now old between new end s t u g w is =
    over frames taken told mid now old between new s t u g (as_end mid now between new end Over t u is w)

pub wants_memory : (frames taken : ℕ) (told mid now : Option (List ℕ)) (old between new : List ℕ) (s t u : Token) → GoesOn frames taken told mid old between s t → LooksShort mid now between new t u → taken ≢ frames
    → AppliesShort frames told now old new s u
wants_memory frames taken told mid now old between new s t u g w fewer = record {
  made = g.made;
  last = w.turn;
  loan = w.loan;
  got = w.got;
  looks = looks_then told mid now g.made (w.turn ∷ []) s t u g.looks w.looks;
  on = g.on;
  few = omega (arith, g.number, g.few, fewer);
  lines = w.unchanged ∙ g.lines;
}
