-- All turns of the application.
use Rattle.std.proofs.Common.{◌≡◌, ◌≢◌, ℕ, ◌+◌, ◌≤◌, Bool, true, false, cond, List, [], ◌∷◌, ◌++◌, length, Option, Result, Ok, Err, refl, sym, ap, subst, ◌∙◌, arith, append_assoc, length-append}
use Rattle.std.proofs.lemmas.List.{append-nil}
use Rattle.gentl_types.specs.declared.errors.GcError.{GcError}
use Rattle.buffer_words.specs.Passes.{Token}
use Rattle.buffer_words.specs.Loans.{Lent}
use Rattle.gev_links.specs.Faults.{Rose}
use Rattle.gev_links.specs.Told.{Appends, WritesFront, IsSpent}
use Rattle.gev_apply.specs.Looks.{Looked, lent_by, lent_in}
use Rattle.gev_apply.specs.Applied.{Looks, IsLast, GotNothing, AllGoOn}
use Rattle.gev_apply.proofs.Turns.{looks_none, looks_then, lent-append}
use Rattle.camera_words.specs.declared.settings.Output.{Output}
use Rattle.frame_writing.specs.declared.write_stop.WriteStop.{WriteStop}
use Rattle.frame_writing.specs.declared.write_stop.WriteStop.TheVariants as stops
use Rattle.frame_writing.specs.declared.handed_out.HandedEnd.TheVariants.{Enough, Over, InputEnded, WriteFault, NoMemory}
use Rattle.frame_writing.specs.declared.handed_out.HandedOut.{HandedOut}
use Rattle.frame_writing.specs.Texts.{text_of, texts_of, complete_in}
use Rattle.frame_writing.specs.declared.turn_end.TurnEnd.TheVariants as turns
use Rattle.frame_writing.specs.Turns.{HandsOne, TurnsTo}
use Rattle.frame_writing.specs.HandsOut.{WritesAll, WritesButLast, handed_out, HandsOut}
use Rattle.frame_writing.proofs.Written.{wrote_none, wrote_then, wrote_same}

-- ---- lists of buffers

texts-append : (output : Output) (ks ls : List Lent) → texts_of output (ks ++ ls) ≡ texts_of output ks ++ texts_of output ls
texts-append output [] ls = refl
texts-append output (k ∷ ks) ls =
    ap (λ l. text_of output k.id k.filling ++ l) (texts-append output ks ls)
    ∙ sym (append_assoc (text_of output k.id k.filling) (texts_of output ks) (texts_of output ls))

complete-append : (ks ls : List Lent) → complete_in (ks ++ ls) ≡ complete_in ks + complete_in ls
complete-append [] ls = omega arith
complete-append (k ∷ ks) ls = omega (arith, complete-append ks ls)

at_most_one : (flag : Bool) → cond flag 1 0 ≤ 1
at_most_one true = omega arith
at_most_one false = omega arith

complete_few : (ks : List Lent) → complete_in ks ≤ length ks
complete_few [] = omega arith
complete_few (k ∷ ks) = omega (arith, complete_few ks, at_most_one k.filling.rec.complete)

-- ---- turns that go on

-- These turns were made, and none was the last; all texts were written.
pub record GoesOn (frames : ℕ) (output : Output) (told now : Option (List ℕ)) (taken complete : ℕ) (s t : Token) (written written_after : Option (List ℕ)) (faults faults_after : ℕ) : Type 0 where
  pub made : List Looked
  pub looks : Looks told now made s t
  pub number : taken ≡ length (lent_in made)
  pub few : taken ≤ frames
  pub whole : complete ≡ complete_in (lent_in made)
  pub less : complete ≤ taken
  pub on : AllGoOn made
  pub wrote : WritesAll output made written written_after faults faults_after

pub begins : (frames : ℕ) (output : Output) (told : Option (List ℕ)) (s : Token) (written : Option (List ℕ)) (faults : ℕ) → GoesOn frames output told told 0 0 s s written written faults faults
begins frames output told s written faults = record {
  made = [];
  looks = looks_none told s;
  number = refl;
  few = omega arith;
  whole = refl;
  less = omega arith;
  on = tt;
  wrote = (wrote_none written, refl);
}

on_more : (ts : List Looked) (t : Looked) → AllGoOn ts → ¬ IsLast t → AllGoOn (ts ++ t ∷ [])
on_more [] t on more = (more, tt)
on_more (u ∷ ts) t on more = (on.0, on_more ts t on.1 more)

-- the buffers with one more turn
lent_more : (ts : List Looked) (t : Looked) (loans : List Lent) → lent_by t.answer ≡ loans → lent_in (ts ++ t ∷ []) ≡ lent_in ts ++ loans
lent_more ts t loans is = lent-append ts (t ∷ []) ∙ ap (λ l. lent_in ts ++ l) (append-nil (lent_by t.answer) ∙ is)

lent_nothing : (answer : Result Lent GcError) → GotNothing answer → lent_by answer ≡ []
lent_nothing (Ok loan) none_there = absurd none_there
lent_nothing (Err error) none_there = refl

-- a turn that got none leaves the buffers as they were
lent_same : (ts : List Looked) (t : Looked) → GotNothing t.answer → lent_in (ts ++ t ∷ []) ≡ lent_in ts
lent_same ts t none_there = lent_more ts t [] (lent_nothing t.answer none_there) ∙ append-nil (lent_in ts)

-- with one more buffer
length_one : (ts : List Looked) (t : Looked) (loan : Lent) → t.answer ≡ Ok loan → length (lent_in (ts ++ t ∷ [])) ≡ length (lent_in ts) + 1
length_one ts t loan got = ap length (lent_more ts t (loan ∷ []) (ap lent_by got)) ∙ length-append (lent_in ts) (loan ∷ [])

complete_one : (ts : List Looked) (t : Looked) (loan : Lent) → t.answer ≡ Ok loan → complete_in (lent_in (ts ++ t ∷ [])) ≡ complete_in (lent_in ts) + cond loan.filling.rec.complete 1 0
complete_one ts t loan got = omega (arith, ap complete_in (lent_more ts t (loan ∷ []) (ap lent_by got)), complete-append (lent_in ts) (loan ∷ []))

texts_one : (output : Output) (ts : List Looked) (t : Looked) (loan : Lent) → t.answer ≡ Ok loan → texts_of output (lent_in (ts ++ t ∷ [])) ≡ texts_of output (lent_in ts) ++ text_of output loan.id loan.filling
texts_one output ts t loan got =
    ap (λ l. texts_of output l) (lent_more ts t (loan ∷ []) (ap lent_by got))
    ∙ (texts-append output (lent_in ts) (loan ∷ [])
    ∙ ap (λ l. texts_of output (lent_in ts) ++ l) (append-nil (text_of output loan.id loan.filling)))

got_one : (answer : Result Lent GcError) (loan : Lent) → answer ≡ Ok loan → ¬ GotNothing answer
got_one answer loan got none_there = subst (λ a. GotNothing a) got none_there

-- one more buffer, whose text was written
pub hands_on : (frames : ℕ) (output : Output) (told mid now : Option (List ℕ)) (taken complete more whole : ℕ) (flag : Bool) (s t u : Token) (written between after : Option (List ℕ)) (faults faults_between faults_after : ℕ)
    → GoesOn frames output told mid taken complete s t written between faults faults_between
    → HandsOne output mid now flag (Ok tt) between after faults_between faults_after t u
    → taken ≢ frames → more ≡ taken + 1 → whole ≡ complete + cond flag 1 0
    → GoesOn frames output told now more whole s u written after faults faults_after
hands_on frames output told mid now taken complete more whole flag s t u written between after faults faults_between faults_after g h fewer number added = record {
  made = g.made ++ h.one.turn ∷ [];
  looks = looks_then told mid now g.made (h.one.turn ∷ []) s t u g.looks h.one.looks;
  number = omega (arith, number, g.number, length_one g.made h.one.turn h.loan h.one.got);
  few = omega (arith, number, g.few, fewer);
  whole = omega (arith, added, g.whole, complete_one g.made h.one.turn h.loan h.one.got, ap {B = ℕ} (λ (b : Bool). cond b 1 0) h.flag);
  less = omega (arith, number, added, g.less, at_most_one flag);
  on = on_more g.made h.one.turn g.on (λ last. got_one h.one.turn.answer h.loan h.one.got last.nothing);
  wrote = (
    subst (λ l. Appends written after l) (sym (texts_one output g.made h.one.turn h.loan h.one.got))
        (wrote_then written between after (texts_of output (lent_in g.made)) (text_of output h.loan.id h.loan.filling) g.wrote.0 h.wrote_it.0),
    h.wrote_it.1 ∙ g.wrote.1,
  );
}

-- a turn without a buffer, behind which all is as it was
wrote_still : (output : Output) (ts : List Looked) (t : Looked) (written between after : Option (List ℕ)) (faults faults_between faults_after : ℕ) → GotNothing t.answer
    → WritesAll output ts written between faults faults_between → after ≡ between → faults_after ≡ faults_between
    → WritesAll output (ts ++ t ∷ []) written after faults faults_after
wrote_still output ts t written between after faults faults_between faults_after none_there wrote same same_faults = (
  subst (λ l. Appends written after (texts_of output l)) (sym (lent_same ts t none_there)) (wrote_same written between after (texts_of output (lent_in ts)) wrote.0 same),
  same_faults ∙ wrote.1,
)

pub idles_on : (frames : ℕ) (output : Output) (told mid now : Option (List ℕ)) (taken complete : ℕ) (s t u : Token) (written between after : Option (List ℕ)) (faults faults_between faults_after : ℕ)
    → GoesOn frames output told mid taken complete s t written between faults faults_between
    → TurnsTo turns.Idle output mid now between after faults_between faults_after t u
    → GoesOn frames output told now taken complete s u written after faults faults_after
idles_on frames output told mid now taken complete s t u written between after faults faults_between faults_after g idle = record {
  made = g.made ++ idle.0.turn ∷ [];
  looks = looks_then told mid now g.made (idle.0.turn ∷ []) s t u g.looks idle.0.looks;
  number = g.number ∙ ap length (sym (lent_same g.made idle.0.turn idle.0.nothing));
  few = g.few;
  whole = g.whole ∙ ap complete_in (sym (lent_same g.made idle.0.turn idle.0.nothing));
  less = g.less;
  on = on_more g.made idle.0.turn g.on (λ last. last.stopped idle.0.word);
  wrote = wrote_still output g.made idle.0.turn written between after faults faults_between faults_after idle.0.nothing g.wrote idle.1 idle.2;
}

-- the same, by what is equal of the clock and of the sink
pub goes_still : (frames : ℕ) (output : Output) (told now later : Option (List ℕ)) (taken complete : ℕ) (s t : Token) (written between after : Option (List ℕ)) (faults faults_between faults_after : ℕ)
    → GoesOn frames output told now taken complete s t written between faults faults_between
    → later ≡ now → after ≡ between → faults_after ≡ faults_between
    → GoesOn frames output told later taken complete s t written after faults faults_after
goes_still frames output told now later taken complete s t written between after faults faults_between faults_after g same_told same same_faults =
    subst (λ v. GoesOn frames output told v taken complete s t written after faults faults_after) (sym same_told)
    (subst (λ v. GoesOn frames output told now taken complete s t written v faults faults_after) (sym same)
    (subst (λ n. GoesOn frames output told now taken complete s t written between faults n) (sym same_faults) g))

-- ---- the ends

pub has_enough : (frames : ℕ) (output : Output) (told now : Option (List ℕ)) (taken complete : ℕ) (s t : Token) (written written_after : Option (List ℕ)) (faults faults_after : ℕ) (watched : Bool) (left : Option (List ℕ)) (result : HandedOut)
    → GoesOn frames output told now taken complete s t written written_after faults faults_after → taken ≡ frames
    → result ≡ handed_out taken complete Enough → HandsOut frames output told now result s t written written_after faults faults_after watched left
has_enough frames output told now taken complete s t written written_after faults faults_after watched left result g all told_so =
    subst (λ (r : HandedOut). HandsOut frames output told now r s t written written_after faults faults_after watched left) (sym told_so) (record {
      made = g.made;
      looks = g.looks;
      number = g.number;
      few = g.few;
      complete = g.whole;
      ends = (all, g.on, g.wrote);
    })

pub input_ended : (frames : ℕ) (output : Output) (told now : Option (List ℕ)) (taken complete : ℕ) (s t : Token) (written written_after : Option (List ℕ)) (faults faults_after : ℕ) (watched : Bool) (left : Option (List ℕ)) (result : HandedOut)
    → GoesOn frames output told now taken complete s t written written_after faults faults_after → taken ≢ frames → watched ≡ true → IsSpent left
    → result ≡ handed_out taken complete InputEnded → HandsOut frames output told now result s t written written_after faults faults_after watched left
input_ended frames output told now taken complete s t written written_after faults faults_after watched left result g fewer is_on spent told_so =
    subst (λ (r : HandedOut). HandsOut frames output told now r s t written written_after faults faults_after watched left) (sym told_so) (record {
      made = g.made;
      looks = g.looks;
      number = g.number;
      few = g.few;
      complete = g.whole;
      ends = (omega (arith, g.few, fewer), is_on, spent, g.on, g.wrote);
    })

pub is_over : (frames : ℕ) (output : Output) (told mid now : Option (List ℕ)) (taken complete : ℕ) (s t u : Token) (written between after : Option (List ℕ)) (faults faults_between faults_after : ℕ) (watched : Bool) (left : Option (List ℕ)) (result : HandedOut)
    → GoesOn frames output told mid taken complete s t written between faults faults_between
    → TurnsTo turns.Over output mid now between after faults_between faults_after t u → taken ≢ frames
    → result ≡ handed_out taken complete Over → HandsOut frames output told now result s u written after faults faults_after watched left
is_over frames output told mid now taken complete s t u written between after faults faults_between faults_after watched left result g over fewer told_so =
    subst (λ (r : HandedOut). HandsOut frames output told now r s u written after faults faults_after watched left) (sym told_so) (record {
      made = g.made ++ over.0.turn ∷ [];
      looks = looks_then told mid now g.made (over.0.turn ∷ []) s t u g.looks over.0.looks;
      number = g.number ∙ ap length (sym (lent_same g.made over.0.turn over.0.nothing));
      few = g.few;
      complete = g.whole ∙ ap complete_in (sym (lent_same g.made over.0.turn over.0.nothing));
      ends = (
        omega (arith, g.few, fewer),
        record { before = g.made; last = over.0.turn; is = refl; on = g.on; over = record { stopped = over.0.word; nothing = over.0.nothing } },
        wrote_still output g.made over.0.turn written between after faults faults_between faults_after over.0.nothing g.wrote over.1 over.2,
      );
    })

-- A buffer came last whose text was cut, and this is what was written of it.
cut_last : (frames : ℕ) (output : Output) (told mid now : Option (List ℕ)) (taken complete : ℕ) (flag : Bool) (wrote : Result (Unit {0}) WriteStop) (s t u : Token) (written between after : Option (List ℕ)) (faults faults_between faults_after : ℕ)
    → (g : GoesOn frames output told mid taken complete s t written between faults faults_between)
    → (h : HandsOne output mid now flag wrote between after faults_between faults_after t u)
    → (f : WritesFront between after (text_of output h.loan.id h.loan.filling))
    → WritesButLast output (g.made ++ h.one.turn ∷ []) f.front written after
cut_last frames output told mid now taken complete flag wrote s t u written between after faults faults_between faults_after g h f = record {
  before = g.made;
  last = h.one.turn;
  is = refl;
  on = g.on;
  loan = h.loan;
  got = h.one.got;
  rest = f.rest;
  parts = f.parts;
  appended = wrote_then written between after (texts_of output (lent_in g.made)) f.front g.wrote.0 f.appended;
}

pub write_failed : (frames : ℕ) (output : Output) (told mid now : Option (List ℕ)) (taken complete more whole : ℕ) (flag : Bool) (s t u : Token) (written between after : Option (List ℕ)) (faults faults_between faults_after : ℕ) (watched : Bool) (left : Option (List ℕ)) (result : HandedOut)
    → GoesOn frames output told mid taken complete s t written between faults faults_between
    → HandsOne output mid now flag (Err stops.WriteFault) between after faults_between faults_after t u
    → taken ≢ frames → more ≡ taken + 1 → whole ≡ complete + cond flag 1 0
    → result ≡ handed_out more whole WriteFault → HandsOut frames output told now result s u written after faults faults_after watched left
write_failed frames output told mid now taken complete more whole flag s t u written between after faults faults_between faults_after watched left result g h fewer number added told_so =
    subst (λ (r : HandedOut). HandsOut frames output told now r s u written after faults faults_after watched left) (sym told_so) (record {
      made = g.made ++ h.one.turn ∷ [];
      looks = looks_then told mid now g.made (h.one.turn ∷ []) s t u g.looks h.one.looks;
      number = omega (arith, number, g.number, length_one g.made h.one.turn h.loan h.one.got);
      few = omega (arith, number, g.few, fewer);
      complete = omega (arith, added, g.whole, complete_one g.made h.one.turn h.loan h.one.got, ap {B = ℕ} (λ (b : Bool). cond b 1 0) h.flag);
      ends = (
        (h.wrote_it.0.front, cut_last frames output told mid now taken complete flag (Err stops.WriteFault) s t u written between after faults faults_between faults_after g h h.wrote_it.0),
        subst (λ n. Rose n faults_after) g.wrote.1 h.wrote_it.1,
      );
    })

abbrev nothing_of : (between after : Option (List ℕ)) (text : List ℕ) → after ≡ between → WritesFront between after text
nothing_of between after text same = record { front = []; rest = text; parts = refl; appended = subst (λ v. Appends between v []) (sym same) (wrote_none between) }

pub memory_ended : (frames : ℕ) (output : Output) (told mid now : Option (List ℕ)) (taken complete more whole : ℕ) (flag : Bool) (s t u : Token) (written between after : Option (List ℕ)) (faults faults_between faults_after : ℕ) (watched : Bool) (left : Option (List ℕ)) (result : HandedOut)
    → GoesOn frames output told mid taken complete s t written between faults faults_between
    → HandsOne output mid now flag (Err stops.NoMemory) between after faults_between faults_after t u
    → taken ≢ frames → more ≡ taken + 1 → whole ≡ complete + cond flag 1 0
    → result ≡ handed_out more whole NoMemory → HandsOut frames output told now result s u written after faults faults_after watched left
memory_ended frames output told mid now taken complete more whole flag s t u written between after faults faults_between faults_after watched left result g h fewer number added told_so =
    subst (λ (r : HandedOut). HandsOut frames output told now r s u written after faults faults_after watched left) (sym told_so) (record {
      made = g.made ++ h.one.turn ∷ [];
      looks = looks_then told mid now g.made (h.one.turn ∷ []) s t u g.looks h.one.looks;
      number = omega (arith, number, g.number, length_one g.made h.one.turn h.loan h.one.got);
      few = omega (arith, number, g.few, fewer);
      complete = omega (arith, added, g.whole, complete_one g.made h.one.turn h.loan h.one.got, ap {B = ℕ} (λ (b : Bool). cond b 1 0) h.flag);
      ends = (
        cut_last frames output told mid now taken complete flag (Err stops.NoMemory) s t u written between after faults faults_between faults_after g h
            (nothing_of between after (text_of output h.loan.id h.loan.filling) h.wrote_it.0),
        h.wrote_it.1 ∙ g.wrote.1,
      );
    })
