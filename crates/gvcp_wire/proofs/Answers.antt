-- What the reading of an acknowledge computes is what the wire relation and the refusals say.
use Rattle.std.specs.Prelude.{◌↔◌, ◌⊎◌}
use Rattle.std.proofs.Common.{◌≡◌, ℕ, ◌≤◌, cond, ltb, eqb, List, length, drop, Result, Ok, Err, refl, sym, ap, subst, ◌∙◌, arith, inl, inr}
use Rattle.std.proofs.lemmas.Bool.{cond_both, eqb-true, eqb-false, eq-eqb, ne_eqb, ltb-true, ltb-false, lt-ltb, le-ltb}
use Rattle.wire_fields.specs.Fields.{number_at}
use Rattle.wire_fields.proofs.InOrder.{fields_read, fields_made}
use Rattle.gvcp_wire.specs.declared.message.ControlError.{ControlError}
use Rattle.gvcp_wire.specs.declared.message.ControlError.TheVariants.{Short, Key, ZeroReq, Length, Form}
use Rattle.gvcp_wire.specs.Messages.{PlainAck}
use Rattle.gvcp_wire.specs.Answer.{ack_fields, IsAnswerOf, Answer, AnswerRefused}
use Rattle.gvcp_wire.specs.Reading.{told, ack_of, ack_reading}
use Rattle.gvcp_wire.specs.Laws.{ReadsAck, IsOneAck}
use Rattle.gvcp_wire.proofs.Commands.{body_by}

-- the acknowledge in bytes of which at least 8 stand there
abbrev ack_at : List ℕ → PlainAck
ack_at bytes = record { status = number_at 0 2 bytes; code = number_at 2 2 bytes; req = number_at 6 2 bytes; body = drop 8 bytes }

-- what is read of an acknowledge whose length field is this
abbrev ack_by : PlainAck → ℕ → Result PlainAck ControlError
ack_by ack len =
    cond (eqb ack.req 0) (Err ZeroReq) (cond (eqb len (length ack.body)) (Ok ack) (Err (Length len (told (length ack.body)))))

-- ---- the header

header_at : (bytes : List ℕ) → 8 ≤ length bytes → IsAnswerOf bytes (ack_at bytes) (number_at 4 2 bytes)
header_at bytes long =
    fields_made 0 (ack_fields (ack_at bytes) (number_at 4 2 bytes)) (drop 8 bytes) bytes
    (omega arith, refl, (omega arith, refl, (omega arith, refl, (omega arith, refl, refl))))

record HasAckParts (bytes : List ℕ) (ack : PlainAck) (len : ℕ) : Type 0 where
  pub long : 8 ≤ length bytes
  pub ack_is : ack_at bytes ≡ ack
  pub length_is : number_at 4 2 bytes ≡ len

same_ack : (a b : PlainAck) → a.status ≡ b.status → a.code ≡ b.code → a.req ≡ b.req → a.body ≡ b.body → a ≡ b
same_ack a b p q r s =
    let of_parts : ℕ → ℕ → ℕ → List ℕ → PlainAck = λ status code req body. record { status = status; code = code; req = req; body = body } in
    ap (λ (n : ℕ). of_parts n a.code a.req a.body) p
    ∙ ap (λ (n : ℕ). of_parts b.status n a.req a.body) q
    ∙ ap (λ (n : ℕ). of_parts b.status b.code n a.body) r
    ∙ ap (λ (x : List ℕ). of_parts b.status b.code b.req x) s

parts_of : (bytes : List ℕ) (ack : PlainAck) (len : ℕ) → IsAnswerOf bytes ack len → HasAckParts bytes ack len
parts_of bytes ack len h =
    let (status_fits, status_is, (code_fits, code_is, (length_fits, length_is, (request_fits, request_is, body_is)))) =
    fields_read 0 (ack_fields ack len) ack.body bytes h in
    record {
      long = omega (arith, request_fits);
      ack_is = same_ack (ack_at bytes) ack status_is code_is request_is body_is;
      length_is = length_is;
    }

-- what is read of bytes that are long enough
read_parts : (bytes : List ℕ) → ack_of bytes (body_by (number_at 4 2 bytes) (number_at 6 2 bytes) (drop 8 bytes)) ≡ ack_by (ack_at bytes) (number_at 4 2 bytes)
read_parts bytes =
    cond_both (eqb (number_at 6 2 bytes) 0) (Err ZeroReq) _ (λ (r : Result (List ℕ) ControlError). ack_of bytes r ≡ ack_by (ack_at bytes) (number_at 4 2 bytes))
    (λ e. rw e refl)
    (λ e. cond_both (eqb (number_at 4 2 bytes) (length (drop 8 bytes))) (Ok (drop 8 bytes)) (Err (Length (number_at 4 2 bytes) (told (length (drop 8 bytes)))))
    (λ (r : Result (List ℕ) ControlError). ack_of bytes r ≡ ack_by (ack_at bytes) (number_at 4 2 bytes))
    (λ f. rw (e, f) refl)
    (λ f. rw (e, f) refl))

-- ---- from the reading to the relation

abbrev Says : List ℕ → Result PlainAck ControlError → Type 0
Says bytes (Ok ack) = Answer bytes ack
Says bytes (Err e) = AnswerRefused bytes e

says_header : (bytes : List ℕ) (ack : PlainAck) (len : ℕ) → IsAnswerOf bytes ack len → Says bytes (ack_by ack len)
says_header bytes ack len header =
    cond_both (eqb ack.req 0) (Err ZeroReq) _ (Says bytes)
    (λ e. record { ack = ack; len = len; header = header; zero = eqb-true ack.req 0 e })
    (λ z.
    let request : 1 ≤ ack.req = omega (arith, eqb-false ack.req 0 z) in
    cond_both (eqb len (length ack.body)) (Ok ack) (Err (Length len (told (length ack.body)))) (Says bytes)
    (λ e. record { header = subst (λ (n : ℕ). IsAnswerOf bytes ack n) (eqb-true len (length ack.body) e) header; request = request })
    (λ n. record { ack = ack; header = header; request = request; wrong = eqb-false len (length ack.body) n; told = refl }))

says : (bytes : List ℕ) → Says bytes (ack_reading bytes)
says bytes =
    cond_both (ltb (length bytes) 8) (Err (Short (length bytes))) _ (Says bytes)
    (λ e. (ltb-true (length bytes) 8 e, refl))
    (λ e. subst (Says bytes) (sym (read_parts bytes)) (says_header bytes (ack_at bytes) (number_at 4 2 bytes) (header_at bytes (ltb-false (length bytes) 8 e))))

-- ---- from the relation to the reading

reads_header : (bytes : List ℕ) (ack : PlainAck) (len : ℕ) → IsAnswerOf bytes ack len → ack_reading bytes ≡ ack_by ack len
reads_header bytes ack len header =
    let p = parts_of bytes ack len header in
    let long : ack_reading bytes ≡ ack_of bytes (body_by (number_at 4 2 bytes) (number_at 6 2 bytes) (drop 8 bytes)) = rw (le-ltb (length bytes) 8 p.long) refl in
    long ∙ read_parts bytes ∙ ap (λ (a : PlainAck). ack_by a (number_at 4 2 bytes)) p.ack_is ∙ ap (ack_by ack) p.length_is

pub reads_answer : (bytes : List ℕ) (ack : PlainAck) → Answer bytes ack → ack_reading bytes ≡ Ok ack
reads_answer bytes ack a =
    reads_header bytes ack (length ack.body) a.header
    ∙ rw (ne_eqb ack.req 0 (omega (arith, a.request)), eq-eqb (length ack.body) (length ack.body) refl) refl

reads_refused : (bytes : List ℕ) (e : ControlError) → AnswerRefused bytes e → ack_reading bytes ≡ Err e
reads_refused bytes (Short len) r = rw (lt-ltb (length bytes) 8 r.0, r.1) refl
reads_refused bytes (Key key) r = absurd r
reads_refused bytes ZeroReq r = reads_header bytes r.ack r.len r.header ∙ rw r.zero refl
reads_refused bytes (Length field real) r =
    reads_header bytes r.ack field r.header
    ∙ rw (ne_eqb r.ack.req 0 (omega (arith, r.request)), ne_eqb field (length r.ack.body) r.wrong, r.told) refl
reads_refused bytes (Form head) r = absurd r

-- ---- the laws

pub reads_ack : (bytes : List ℕ) → ReadsAck bytes
reads_ack bytes = record {
  given = λ ack. (λ e. subst (Says bytes) e (says bytes), reads_answer bytes ack);
  refused = λ e. (λ is. subst (Says bytes) is (says bytes), reads_refused bytes e);
}

either_of : (bytes : List ℕ) (r : Result PlainAck ControlError) → Says bytes r → ((ack : PlainAck) × Answer bytes ack) ⊎ ((e : ControlError) × AnswerRefused bytes e)
either_of bytes (Ok ack) h = inl (ack, h)
either_of bytes (Err e) h = inr (e, h)

same_given : (a b : PlainAck) (r : Result PlainAck ControlError) → r ≡ Ok a → r ≡ Ok b → a ≡ b
same_given a b r p q = cc

same_error : (e f : ControlError) (r : Result PlainAck ControlError) → r ≡ Err e → r ≡ Err f → e ≡ f
same_error e f r p q = cc

not_both : (a : PlainAck) (e : ControlError) (r : Result PlainAck ControlError) → r ≡ Ok a → r ≡ Err e → ⊥
not_both a e r p q = cc

pub is_one_ack : (bytes : List ℕ) → IsOneAck bytes
is_one_ack bytes = record {
  either = either_of bytes (ack_reading bytes) (says bytes);
  one_ack = λ a b p q. same_given a b (ack_reading bytes) (reads_answer bytes a p) (reads_answer bytes b q);
  one_refusal = λ e f p q. same_error e f (ack_reading bytes) (reads_refused bytes e p) (reads_refused bytes f q);
  never_both = λ ack e p q. not_both ack e (ack_reading bytes) (reads_answer bytes ack p) (reads_refused bytes e q);
}

-- what a parser gave whose answer is the reading
pub given_by : (bytes : List ℕ) (r : Result PlainAck ControlError) → r ≡ ack_reading bytes → (ack : PlainAck) → (r ≡ Ok ack) ↔ Answer bytes ack
given_by bytes r e ack = rw e ((reads_ack bytes).given ack)

pub refused_by : (bytes : List ℕ) (r : Result PlainAck ControlError) → r ≡ ack_reading bytes → (f : ControlError) → (r ≡ Err f) ↔ AnswerRefused bytes f
refused_by bytes r e f = rw e ((reads_ack bytes).refused f)
