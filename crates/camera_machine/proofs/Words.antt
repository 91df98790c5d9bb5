-- What the words hold after changes.
use Rattle.std.proofs.Common.{◌≡◌, ℕ, zero, suc, ◌+◌, ◌*◌, ◌/◌, ◌<◌, Bool, true, false, List, [], ◌∷◌, length, Some, None, refl, ap, sym, ◌∙◌, arith, get_or-set_other, get_or-set_same}
use Rattle.std.specs.Prelude.{◌≢◌, ◌%◌, ◌==◌, ◌||◌, nat_lt, if◌then◌else◌, slice_index, slice_set}
use Rattle.std.proofs.Math.ListN.{length-set}
use Rattle.std.proofs.lemmas.Bool.{eqb-true, eqb-false, ne_eqb, ltb-true}
use Rattle.gvcp_wire.specs.declared.status.Status.TheVariants.{InvalidAddress, BadAlignment}
use Rattle.bootstrap_regs.specs.Addresses.{CCP, SCP0, WORDS, END}
use Rattle.bootstrap_regs.specs.Registers.{initial_at, address_refusal}
use Rattle.bootstrap_regs.specs.Words.{with_word, released_words}
use Rattle.bootstrap_regs.specs.Changes as changes
use Rattle.bootstrap_regs.specs.Changes.{Change, value_after, Holds}
use Rattle.camera_machine.specs.Words.{words_from, initial_words}
use Rattle.std.proofs.lemmas.List.{ext_get_or}

-- where a word has an address
pub is_word : (address : ℕ) → address_refusal address ≡ None → (address ≡ 4 * (address / 4)) × (address < END)
is_word address e = go (address % 4 == 0) (nat_lt address END) refl refl e
  where
    go : (a b : Bool) → (address % 4 == 0) ≡ a → nat_lt address END ≡ b
        → (if a then (if b then None else Some InvalidAddress) else Some BadAlignment) ≡ None → (address ≡ 4 * (address / 4)) × (address < END)
    go true true p q x = let even : address % 4 ≡ 0 = eqb-true (address % 4) 0 p in (omega arith, ltb-true address END q)
    go true false p q x = absurd (cc)
    go false b p q x = absurd (cc)

pub holds_written : (words : List ℕ) (cs : List Change) (address value : ℕ) → address_refusal address ≡ None → Holds words cs
    → Holds (with_word words address value) (changes.written address value ∷ cs)
holds_written words cs address value e h = record { size = simp length-set h.size; values = λ i b. go i b (address == 4 * i) refl }
  where
    go : (i : ℕ) → i < WORDS → (t : Bool) → (address == 4 * i) ≡ t
        → slice_index (slice_set words (address / 4) value) i ≡ (if t then value else value_after cs (4 * i))
    go i b true p =
        let same : address ≡ 4 * i = eqb-true address (4 * i) p in
        let place : address / 4 ≡ i = omega arith in
        let inside : i < length words = omega (arith, h.size) in
        rw place (get_or-set_same words i value 0 inside)
    go i b false p =
        let aligned : address ≡ 4 * (address / 4) = (is_word address e).0 in
        let other_place : i ≢ address / 4 = λ k. eqb-false address (4 * i) p (omega arith) in
        get_or-set_other words (address / 4) i value 0 other_place ∙ h.values i b

released_value : (cs : List Change) (a : ℕ)
    → value_after (changes.written SCP0 0 ∷ changes.written CCP 0 ∷ cs) a ≡ value_after (changes.released ∷ cs) a
released_value cs a = go (a == CCP) refl (a == SCP0) refl
  where
    go : (p : Bool) → (a == CCP) ≡ p → (q : Bool) → (a == SCP0) ≡ q
        → (if SCP0 == a then 0 else (if CCP == a then 0 else value_after cs a)) ≡ (if p || q then 0 else value_after cs a)
    go true p q x = let same : a ≡ CCP = eqb-true a CCP p in rw same refl
    go false p true x = let same : a ≡ SCP0 = eqb-true a SCP0 x in rw same refl
    go false p false x =
        let first : (SCP0 == a) ≡ false = ne_eqb SCP0 a (λ k. eqb-false a SCP0 x (sym k)) in
        let second : (CCP == a) ≡ false = ne_eqb CCP a (λ k. eqb-false a CCP p (sym k)) in
        rw (first, second) refl

pub holds_released : (words : List ℕ) (cs : List Change) → Holds words cs → Holds (released_words words) (changes.released ∷ cs)
holds_released words cs h =
    let twice : Holds (released_words words) (changes.written SCP0 0 ∷ changes.written CCP 0 ∷ cs) =
    holds_written (with_word words CCP 0) (changes.written CCP 0 ∷ cs) SCP0 0 refl (holds_written words cs CCP 0 refl h) in
    record { size = twice.size; values = λ i b. twice.values i b ∙ released_value cs (4 * i) }

words_from-none : (a : ℕ) → words_from 0 a ≡ []
unfolding words_from
words_from-none a = refl

words_from-more : (n a : ℕ) → words_from (suc n) a ≡ initial_at a ∷ words_from n (a + 4)
unfolding words_from
words_from-more n a = refl

length-words_from : (n a : ℕ) → length (words_from n a) ≡ n
length-words_from zero a = rw (words_from-none a) refl
length-words_from (suc n) a = rw (words_from-more n a) (omega (arith, length-words_from n (a + 4)))

words_from-at : (n a i : ℕ) → i < n → slice_index (words_from n a) i ≡ initial_at (a + 4 * i)
words_from-at zero a i b = absurd (omega arith)
words_from-at (suc n) a zero b =
    let same : a ≡ a + 4 * 0 = omega arith in
    rw (words_from-more n a) (ap initial_at same)
words_from-at (suc n) a (suc i) b =
    let same : (a + 4) + 4 * i ≡ a + 4 * suc i = omega arith in
    rw (words_from-more n a) (words_from-at n (a + 4) i (omega arith) ∙ ap initial_at same)

initial_words-is : initial_words ≡ words_from WORDS 0
unfolding initial_words
initial_words-is = refl

pub initial_holds : Holds initial_words []
initial_holds = record {
  size = rw initial_words-is (length-words_from WORDS 0);
  values = λ i b. rw initial_words-is (words_from-at WORDS 0 i b ∙ ap initial_at (omega arith));
}

-- the words of which nothing was written yet
pub initial_is : (words : List ℕ) → Holds words [] → words ≡ initial_words
initial_is words h =
    let same_size : length words ≡ length initial_words = omega (arith, h.size, initial_holds.size) in
    ext_get_or 0 words initial_words same_size (λ i b. h.values i (omega (arith, h.size)) ∙ sym (initial_holds.values i (omega (arith, h.size))))
