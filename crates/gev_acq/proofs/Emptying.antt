-- The buffers that wait are filled one after the other.
use Rattle.std.proofs.Common.{◌≡◌, ℕ, Bool, List, [], ◌∷◌, ◌++◌, map, true, false, refl, ap, sym, ◌∙◌, subst, append_assoc}
use Rattle.std.proofs.lemmas.List.{append-nil}
use Rattle.board_machine.specs.declared.events.Event.{Event}
use Rattle.board_machine.specs.declared.events.Event.TheVariants.{Lay}
use Rattle.acquisition_machine.specs.declared.retired.Retired.{Retired}
use Rattle.acquisition_machine.specs.TurnLaws.{given_of}
use Rattle.acq_core.specs.declared.window.Window.{Window}
use Rattle.acq_core.specs.Receiver.{buffers, KeepsBlocks}
use Rattle.acq_core.specs.Waiting.{waiting_fills, waiting_requests}
use Rattle.buffer_words.specs.Passes.{Token, gone, down, Enters, Stays, SameHands, Has}
use Rattle.buffer_words.specs.Several.{EntersOf}
use Rattle.buffer_words.proofs.Partings.{same_then}
use Rattle.buffer_words.proofs.Several.{each_push, each_then, each_none, stays_after, of_kind, of_as}
use Rattle.board_calls.specs.declared.mode.Mode.{Mode}
use Rattle.board_calls.specs.Modes.{FillsDropping}
use Rattle.gev_acq.specs.Buffers.{Backs, HoldsAlone}
use Rattle.gev_acq.specs.Filling.{FillsRetiredFor}
use Rattle.gev_acq.proofs.Backing.{first_left, first_left_alone}

-- a fill that was done
pub fills_once : (mode : Mode) (s t : Token) (r : Retired) (count : ℕ) (filled : Bool) → filled ≡ true → EntersOf s (FillsDropping mode count r.place r.buf filled) t
    → EntersOf s (FillsRetiredFor mode (r ∷ [])) t
fills_once mode s t r count filled is enters =
    of_as s t (FillsDropping mode count r.place r.buf true) (FillsRetiredFor mode (r ∷ []))
    (λ es did. (
      es,
      [],
      record { dropped = did.dropped; filled = true; call = es; fills = did.fills; is = sym (append-nil es) },
      refl,
      sym (append-nil es),
    ))
    (subst (λ (v : Bool). EntersOf s (FillsDropping mode count r.place r.buf v) t) is enters)

-- a fill that found the output closed: the buffer was set down and laid
laid_once : (mode : Mode) (s t u v : Token) (r : Retired) (count : ℕ) → EntersOf s (FillsDropping mode count r.place r.buf false) t → Stays t u
    → Enters u (Lay r.place) v → EntersOf s (FillsRetiredFor mode (r ∷ [])) v
laid_once mode s t u v r count filled stays laid =
    of_kind s v (FillsRetiredFor mode (r ∷ [])) (filled.events ++ Lay r.place ∷ []) (
      filled.events ++ Lay r.place ∷ [],
      [],
      record { dropped = filled.kind.dropped; filled = false; call = filled.events; fills = filled.kind.fills; is = refl },
      refl,
      sym (append-nil (filled.events ++ Lay r.place ∷ [])),
    )
    (each_push s u v filled.events (Lay r.place) (stays_after s t u filled.events filled.enters stays) laid refl)

pub lays_once : (mode : Mode) (s t u v : Token) (r : Retired) (count : ℕ) (filled : Bool) → filled ≡ false → EntersOf s (FillsDropping mode count r.place r.buf filled) t
    → Stays t u → Enters u (Lay r.place) v → EntersOf s (FillsRetiredFor mode (r ∷ [])) v
lays_once mode s t u v r count filled is enters stays laid =
    laid_once mode s t u v r count (subst (λ (b : Bool). EntersOf s (FillsDropping mode count r.place r.buf b) t) is enters) stays laid

pub laid_hands : (s t u v : Token) (r : Retired) → SameHands s t → Has r.place (down r.buf) t u → Has r.place gone u v → Has r.place gone s v
laid_hands s t u v r same set laid = record {
  here = laid.here;
  others = λ j ne. same_then j s t v (same j) (same_then j t u v (set.others j ne) (laid.others j ne));
}

fills-push : (mode : Mode) (rs : List Retired) (r : Retired) (es fs : List Event) → FillsRetiredFor mode rs es → FillsRetiredFor mode (r ∷ []) fs
    → FillsRetiredFor mode (rs ++ r ∷ []) (es ++ fs)
fills-push mode [] r es fs none one = subst (FillsRetiredFor mode (r ∷ [])) (sym (ap (λ l. l ++ fs) none)) one
fills-push mode (x ∷ rs) r es fs each one = (
  each.0,
  each.1 ++ fs,
  each.2,
  fills-push mode rs r each.1 fs each.3 one,
  ap (λ l. l ++ fs) each.4 ∙ append_assoc each.0 each.1 fs,
)

pub keeps_then : (a b c : Window) → KeepsBlocks a b → KeepsBlocks b c → KeepsBlocks a c
keeps_then a b c first second = record {
  stands = λ q old. second.stands q (first.stands q old);
  buffers = second.buffers ∙ first.buffers;
  opens = second.opens ∙ first.opens;
  asked = second.asked ∙ first.asked;
  config = second.config ∙ first.config;
}

pub keeps_all : (a : Window) → KeepsBlocks a a
keeps_all a = record { stands = λ q old. old; buffers = refl; opens = refl; asked = refl; config = refl }

-- Some of the buffers that waited are filled.
pub record IsFilling (mode : Mode) (s : Token) (old : Window) (t : Token) (m : Window) : Type 0 where
  pub done : List Retired
  pub parts : waiting_fills old ≡ done ++ waiting_fills m
  pub enters : EntersOf s (FillsRetiredFor mode done) t
  pub requests : waiting_requests m ≡ waiting_requests old
  pub rest : KeepsBlocks old m
  pub backs : Backs t (map given_of (waiting_fills m) ++ buffers m)
  pub alone : HoldsAlone s (map given_of (waiting_fills old) ++ buffers old) → HoldsAlone t (map given_of (waiting_fills m) ++ buffers m)

pub filling_begins : (mode : Mode) (s : Token) (m : Window) → Backs s (map given_of (waiting_fills m) ++ buffers m) → IsFilling mode s m s m
filling_begins mode s m backs = record {
  done = [];
  parts = refl;
  enters = of_kind s s (FillsRetiredFor mode []) [] refl (each_none s);
  requests = refl;
  rest = keeps_all m;
  backs = backs;
  alone = λ alone. alone;
}

-- the next one is taken off
pub next_backs : (t : Token) (m n : Window) (r : Retired) → waiting_fills m ≡ r ∷ waiting_fills n → KeepsBlocks m n
    → Backs t (map given_of (waiting_fills m) ++ buffers m) → Backs t (given_of r ∷ (map given_of (waiting_fills n) ++ buffers n))
next_backs t m n r first keeps backs =
    subst (λ l. Backs t (given_of r ∷ (map given_of (waiting_fills n) ++ l))) (sym keeps.buffers)
    (subst (λ rs. Backs t (map given_of rs ++ buffers m)) first backs)

next_alone : (t : Token) (m n : Window) (r : Retired) → waiting_fills m ≡ r ∷ waiting_fills n → KeepsBlocks m n
    → HoldsAlone t (map given_of (waiting_fills m) ++ buffers m) → HoldsAlone t (given_of r ∷ (map given_of (waiting_fills n) ++ buffers n))
next_alone t m n r first keeps alone =
    subst (λ l. HoldsAlone t (given_of r ∷ (map given_of (waiting_fills n) ++ l))) (sym keeps.buffers)
    (subst (λ rs. HoldsAlone t (map given_of rs ++ buffers m)) first alone)

pub filling_goes_on : (mode : Mode) (s t u : Token) (old m n : Window) (r : Retired) → IsFilling mode s old t m → waiting_fills m ≡ r ∷ waiting_fills n
    → waiting_requests n ≡ waiting_requests m → KeepsBlocks m n → EntersOf t (FillsRetiredFor mode (r ∷ [])) u → Has r.place gone t u → IsFilling mode s old u n
filling_goes_on mode s t u old m n r so first requests keeps filled hands = record {
  done = so.done ++ r ∷ [];
  parts = so.parts ∙ (ap (λ l. so.done ++ l) first ∙ sym (append_assoc so.done (r ∷ []) (waiting_fills n)));
  enters = of_kind s u (FillsRetiredFor mode (so.done ++ r ∷ [])) (so.enters.events ++ filled.events)
      (fills-push mode so.done r so.enters.events filled.events so.enters.kind filled.kind)
      (each_then s t u so.enters.events filled.events so.enters.enters filled.enters);
  requests = requests ∙ so.requests;
  rest = keeps_then old m n so.rest keeps;
  backs = first_left t u (given_of r) (map given_of (waiting_fills n) ++ buffers n) (next_backs t m n r first keeps so.backs) hands;
  alone = λ alone. first_left_alone t u (given_of r) (map given_of (waiting_fills n) ++ buffers n) hands (next_alone t m n r first keeps (so.alone alone));
}

-- all of them are
pub record AreFilled (mode : Mode) (s : Token) (old : Window) (t : Token) (m : Window) : Type 0 where
  pub enters : EntersOf s (FillsRetiredFor mode (waiting_fills old)) t
  pub requests : waiting_requests m ≡ waiting_requests old
  pub rest : KeepsBlocks old m
  pub backs : Backs t (buffers m)
  pub alone : HoldsAlone s (map given_of (waiting_fills old) ++ buffers old) → HoldsAlone t (buffers m)

pub filling_ends : (mode : Mode) (s t : Token) (old m n : Window) → IsFilling mode s old t m → waiting_fills m ≡ [] → waiting_requests n ≡ waiting_requests m → KeepsBlocks m n
    → AreFilled mode s old t n
filling_ends mode s t old m n so none requests keeps = record {
  enters = subst (λ rs. EntersOf s (FillsRetiredFor mode rs) t) (sym (so.parts ∙ (ap (λ l. so.done ++ l) none ∙ append-nil so.done))) so.enters;
  requests = requests ∙ so.requests;
  rest = keeps_then old m n so.rest keeps;
  backs = subst (Backs t) (sym keeps.buffers) (subst (λ rs. Backs t (map given_of rs ++ buffers m)) none so.backs);
  alone = λ alone. subst (HoldsAlone t) (sym keeps.buffers) (subst (λ rs. HoldsAlone t (map given_of rs ++ buffers m)) none (so.alone alone));
}
