-- What the reading of a command computes is what the wire relation and the refusals say.
use Rattle.std.specs.Prelude.{◌↔◌, ◌⊎◌}
use Rattle.std.proofs.Common.{◌≡◌, ℕ, ◌≤◌, cond, ltb, eqb, List, length, drop, slice_index, Option, Some, None, Result, Ok, Err, refl, ap, subst, ◌∙◌, arith, inl, inr}
use Rattle.std.proofs.lemmas.Bool.{cond_both, eqb-true, eqb-false, eq-eqb, ne_eqb, ltb-true, ltb-false, lt-ltb, le-ltb}
use Rattle.wire_fields.specs.Fields.{number_at}
use Rattle.gvcp_wire.specs.declared.message.CommandHead.{CommandHead}
use Rattle.gvcp_wire.specs.declared.message.ControlError.{ControlError}
use Rattle.gvcp_wire.specs.declared.message.ControlError.TheVariants.{Short, Key, ZeroReq, Length, Form}
use Rattle.gvcp_wire.specs.Messages.{PlainCommand}
use Rattle.gvcp_wire.specs.Control.{IsCommandOf, HasForm, Control, Refused}
use Rattle.gvcp_wire.specs.Reading.{head_at, told, or_form, command_in, command_of, command_reading}
use Rattle.gvcp_wire.specs.Laws.{ReadsCommand, IsOneCommand}
use Rattle.gvcp_wire.proofs.Pieces.{parts_of, header_at}
use Rattle.gvcp_wire.proofs.Forms.{form_of, form_found}

-- the body of a message with this length field, this request number and these bytes after the header
abbrev pub body_by : ℕ → ℕ → List ℕ → Result (List ℕ) ControlError
body_by len req body = cond (eqb req 0) (Err ZeroReq) (cond (eqb len (length body)) (Ok body) (Err (Length len (told (length body)))))

-- what is read of bytes with this header
abbrev pub command_by : ℕ → CommandHead → ℕ → List ℕ → Result (CommandHead × PlainCommand) ControlError
command_by key head len body = cond (eqb key 66) (command_of head (body_by len head.req body)) (Err (Key key))

-- ---- from the reading to the relation

abbrev Says : List ℕ → Result (CommandHead × PlainCommand) ControlError → Type 0
Says bytes (Ok given) = Control bytes given.0 given.1
Says bytes (Err e) = Refused bytes e

says_form : (bytes : List ℕ) (head : CommandHead) (body : List ℕ) → IsCommandOf bytes 66 head (length body) body → 1 ≤ head.req
    → (found : Option PlainCommand) → command_in head body ≡ found → Says bytes (or_form head found)
says_form bytes head body header request None e =
    record { body = body; header = header; request = request; none = λ command h. absurd (cc (form_found head body command h)) }
says_form bytes head body header request (Some command) e =
    record { body = body; header = header; request = request; form = form_of head body command e }

says_body : (bytes : List ℕ) (head : CommandHead) (len : ℕ) (body : List ℕ) → IsCommandOf bytes 66 head len body → Says bytes (command_of head (body_by len head.req body))
says_body bytes head len body header =
    let P : Result (List ℕ) ControlError → Type 0 = λ r. Says bytes (command_of head r) in
    cond_both (eqb head.req 0) (Err ZeroReq) _ P
    (λ e. record { head = head; len = len; body = body; header = header; zero = eqb-true head.req 0 e })
    (λ z.
    let request : 1 ≤ head.req = omega (arith, eqb-false head.req 0 z) in
    cond_both (eqb len (length body)) (Ok body) (Err (Length len (told (length body)))) P
    (λ e. says_form bytes head body (subst (λ (n : ℕ). IsCommandOf bytes 66 head n body) (eqb-true len (length body) e) header) request (command_in head body) refl)
    (λ n. record { head = head; body = body; header = header; request = request; wrong = eqb-false len (length body) n; told = refl }))

says_header : (bytes : List ℕ) (key : ℕ) (head : CommandHead) (len : ℕ) (body : List ℕ) → IsCommandOf bytes key head len body → Says bytes (command_by key head len body)
says_header bytes key head len body header =
    cond_both (eqb key 66) (command_of head (body_by len head.req body)) (Err (Key key)) (Says bytes)
    (λ e. says_body bytes head len body (subst (λ (k : ℕ). IsCommandOf bytes k head len body) (eqb-true key 66 e) header))
    (λ n. record { head = head; len = len; body = body; header = header; wrong = eqb-false key 66 n })

says : (bytes : List ℕ) → Says bytes (command_reading bytes)
says bytes =
    cond_both (ltb (length bytes) 8) (Err (Short (length bytes))) _ (Says bytes)
    (λ e. (ltb-true (length bytes) 8 e, refl))
    (λ e. says_header bytes (slice_index bytes 0) (head_at bytes) (number_at 4 2 bytes) (drop 8 bytes) (header_at bytes (ltb-false (length bytes) 8 e)))

-- ---- from the relation to the reading

pub reads_header : (bytes : List ℕ) (key : ℕ) (head : CommandHead) (len : ℕ) (body : List ℕ) → IsCommandOf bytes key head len body → command_reading bytes ≡ command_by key head len body
reads_header bytes key head len body header =
    let p = parts_of bytes key head len body header in
    let long : command_reading bytes ≡ command_by (slice_index bytes 0) (head_at bytes) (number_at 4 2 bytes) (drop 8 bytes) = rw (le-ltb (length bytes) 8 p.long) refl in
    long
    ∙ ap (λ (k : ℕ). command_by k (head_at bytes) (number_at 4 2 bytes) (drop 8 bytes)) p.key_is
    ∙ ap (λ (h : CommandHead). command_by key h (number_at 4 2 bytes) (drop 8 bytes)) p.head_is
    ∙ ap (λ (n : ℕ). command_by key head n (drop 8 bytes)) p.length_is
    ∙ ap (λ (b : List ℕ). command_by key head len b) p.body_is

-- what is read under the key, with a request number and the right length
reads_body : (head : CommandHead) (body : List ℕ) → 1 ≤ head.req → command_by 66 head (length body) body ≡ or_form head (command_in head body)
reads_body head body request = rw (ne_eqb head.req 0 (omega arith), eq-eqb (length body) (length body) refl) refl

reads_control : (bytes : List ℕ) (head : CommandHead) (command : PlainCommand) → Control bytes head command → command_reading bytes ≡ Ok (head, command)
reads_control bytes head command c =
    reads_header bytes 66 head (length c.body) c.body c.header
    ∙ reads_body head c.body c.request
    ∙ ap (or_form head) (form_found head c.body command c.form)

none_found : (head : CommandHead) (body : List ℕ) → ((command : PlainCommand) → HasForm head body command → ⊥) → (found : Option PlainCommand) → command_in head body ≡ found → or_form head found ≡ Err (Form head)
none_found head body none None e = refl
none_found head body none (Some command) e = absurd (none command (form_of head body command e))

reads_refused : (bytes : List ℕ) (e : ControlError) → Refused bytes e → command_reading bytes ≡ Err e
reads_refused bytes (Short len) r = rw (lt-ltb (length bytes) 8 r.0, r.1) refl
reads_refused bytes (Key key) r = reads_header bytes key r.head r.len r.body r.header ∙ rw (ne_eqb key 66 r.wrong) refl
reads_refused bytes ZeroReq r = reads_header bytes 66 r.head r.len r.body r.header ∙ rw r.zero refl
reads_refused bytes (Length field real) r =
    reads_header bytes 66 r.head field r.body r.header
    ∙ rw (ne_eqb r.head.req 0 (omega (arith, r.request)), ne_eqb field (length r.body) r.wrong, r.told) refl
reads_refused bytes (Form head) r =
    reads_header bytes 66 head (length r.body) r.body r.header
    ∙ reads_body head r.body r.request
    ∙ none_found head r.body r.none (command_in head r.body) refl

-- ---- the laws

pub reads_command : (bytes : List ℕ) → ReadsCommand bytes
reads_command bytes = record {
  given = λ head command. (λ e. subst (Says bytes) e (says bytes), reads_control bytes head command);
  refused = λ e. (λ is. subst (Says bytes) is (says bytes), reads_refused bytes e);
}

either_of : (bytes : List ℕ) (r : Result (CommandHead × PlainCommand) ControlError) → Says bytes r
    → ((head : CommandHead) × (command : PlainCommand) × Control bytes head command) ⊎ ((e : ControlError) × Refused bytes e)
either_of bytes (Ok given) h = inl (given.0, given.1, h)
either_of bytes (Err e) h = inr (e, h)

same_given : (x y : CommandHead × PlainCommand) (r : Result (CommandHead × PlainCommand) ControlError) → r ≡ Ok x → r ≡ Ok y → x ≡ y
same_given x y r p q = cc

same_parts : (h g : CommandHead) (c d : PlainCommand) (r : Result (CommandHead × PlainCommand) ControlError) → r ≡ Ok (h, c) → r ≡ Ok (g, d) → (h ≡ g) × (c ≡ d)
same_parts h g c d r p q =
    let e = same_given (h, c) (g, d) r p q in
    (ap (λ (x : CommandHead × PlainCommand). x.0) e, ap (λ (x : CommandHead × PlainCommand). x.1) e)

same_error : (e f : ControlError) (r : Result (CommandHead × PlainCommand) ControlError) → r ≡ Err e → r ≡ Err f → e ≡ f
same_error e f r p q = cc

not_both : (x : CommandHead × PlainCommand) (e : ControlError) (r : Result (CommandHead × PlainCommand) ControlError) → r ≡ Ok x → r ≡ Err e → ⊥
not_both x e r p q = cc

pub is_one_command : (bytes : List ℕ) → IsOneCommand bytes
is_one_command bytes = record {
  either = either_of bytes (command_reading bytes) (says bytes);
  one_command = λ h g c d p q. same_parts h g c d (command_reading bytes) (reads_control bytes h c p) (reads_control bytes g d q);
  one_refusal = λ e f p q. same_error e f (command_reading bytes) (reads_refused bytes e p) (reads_refused bytes f q);
  never_both = λ head command e p q. not_both (head, command) e (command_reading bytes) (reads_control bytes head command p) (reads_refused bytes e q);
}

-- what a parser gave whose answer is the reading
pub given_by : (bytes : List ℕ) (r : Result (CommandHead × PlainCommand) ControlError) → r ≡ command_reading bytes → (head : CommandHead) (command : PlainCommand)
    → (r ≡ Ok (head, command)) ↔ Control bytes head command
given_by bytes r e head command = rw e ((reads_command bytes).given head command)

pub refused_by : (bytes : List ℕ) (r : Result (CommandHead × PlainCommand) ControlError) → r ≡ command_reading bytes → (f : ControlError)
    → (r ≡ Err f) ↔ Refused bytes f
refused_by bytes r e f = rw e ((reads_command bytes).refused f)
