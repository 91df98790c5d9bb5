-- What the lines of a recorded script report: whole lines, and take lines of what was taken alone.
use Rattle.std.proofs.Common.{◌≡◌, ℕ, zero, suc, ◌+◌, ◌/◌, ◌%◌, ◌<◌, ◌==◌, nat_eq, nat_lt, not, cond, Bool, true, false, List, [], ◌∷◌, ◌++◌, length, map, take, if◌then◌else◌, refl, sym, ap, subst, ◌∙◌, arith, append_assoc, append-nil, length-append}
use Rattle.std.specs.Prelude.{codes, slice_index, Ok}
use Rattle.std.specs.List.{AllByRecursion, concat, filter}
use Rattle.std.specs.Fmt.{decimal, digits, digits_onto, digit_glyph}
use Rattle.std.proofs.lemmas.Bool.{ne_eqb, and_from, and_parts, not_from_false}
use Rattle.std.proofs.lemmas.List.Folds.{list_all-append}
use Rattle.std.proofs.lemmas.List.{take_at}
use Rattle.hex.specs.Hex.{encode_with, encode_lower, lower_digits}
use Rattle.gev_types.specs.Filling.{Filling}
use Rattle.gentl_types.specs.declared.buffer_id.BufferId.{BufferId}
use Rattle.gev_report.specs.Pieces.{flag_text}
use Rattle.gev_report.specs.ReplayLines.{take_line, digest_text, request_line, result_line, id_line}
use Rattle.gev_script.proofs.Joined.{lacks}
use Rattle.script_runs.specs.Runs.{lines_text}
use Rattle.board_machine.specs.declared.events.Entry.{Entry}
use Rattle.board_machine.specs.Machine.{Item, empty_board}
use Rattle.board_machine.specs.Histories.{Run, After}
use Rattle.board_machine.specs.Handout.{filled, removed, removed_items}
use Rattle.board_machine.proofs.Handouts.{Passes, run_passes, gone_length, gone_items}
use Rattle.board_machine.proofs.Handed.{filled-append, removed-append}
use Rattle.acquisition_machine.specs.Machine.{Request, request_bytes}
use Rattle.acquisition_machine.proofs.Order.{all_append}
use Rattle.script_trace.specs.StreamLines.{requests_text}
use Rattle.gev_record.specs.TakeLines.{is_take_line, IsTakeOf, AreTakesOf}

-- ---- texts of lines

abbrev pub IsClean : List ℕ → Type 0
IsClean bytes = lacks 10 bytes ≡ true

-- The text is lines, and its take lines are of these contents.
pub record Says (text : List ℕ) (contents : List Filling) : Type 0 where
  pub lines : List (List ℕ)
  pub is : text ≡ lines_text lines
  pub clean : AllByRecursion IsClean lines
  pub takes : AreTakesOf (filter is_take_line lines) contents

pub says_nothing : Says [] []
says_nothing = record { lines = []; is = refl; clean = tt; takes = tt }

pub lines_text-append : (xs ys : List (List ℕ)) → lines_text (xs ++ ys) ≡ lines_text xs ++ lines_text ys
lines_text-append [] ys = refl
lines_text-append (x ∷ xs) ys =
    ap (λ l. x ++ 10 ∷ l) (lines_text-append xs ys) ∙ sym (append_assoc x (10 ∷ lines_text xs) (lines_text ys))

pub filter-append : (xs ys : List (List ℕ)) → filter is_take_line (xs ++ ys) ≡ filter is_take_line xs ++ filter is_take_line ys
filter-append [] ys = refl
filter-append (x ∷ xs) ys = go (is_take_line x) (filter-append xs ys) where
  go : (v : Bool) → filter is_take_line (xs ++ ys) ≡ filter is_take_line xs ++ filter is_take_line ys
      → cond v (x ∷ filter is_take_line (xs ++ ys)) (filter is_take_line (xs ++ ys)) ≡ cond v (x ∷ filter is_take_line xs) (filter is_take_line xs) ++ filter is_take_line ys
  go true e = ap (λ l. x ∷ l) e
  go false e = e

takes-append : (xs ys : List (List ℕ)) (fs gs : List Filling) → AreTakesOf xs fs → AreTakesOf ys gs → AreTakesOf (xs ++ ys) (fs ++ gs)
takes-append [] ys [] gs p q = q
takes-append [] ys (f ∷ fs) gs p q = absurd p
takes-append (x ∷ xs) ys [] gs p q = absurd p
takes-append (x ∷ xs) ys (f ∷ fs) gs p q = (p.0, takes-append xs ys fs gs p.1 q)

pub says_both : (a b : List ℕ) (fs gs : List Filling) → Says a fs → Says b gs → Says (a ++ b) (fs ++ gs)
says_both a b fs gs p q = record {
  lines = p.lines ++ q.lines;
  is = ap (λ l. l ++ b) p.is ∙ (ap (λ l. lines_text p.lines ++ l) q.is ∙ sym (lines_text-append p.lines q.lines));
  clean = all_append IsClean p.lines q.lines p.clean q.clean;
  takes = subst (λ l. AreTakesOf l (fs ++ gs)) (sym (filter-append p.lines q.lines))
      (takes-append (filter is_take_line p.lines) (filter is_take_line q.lines) fs gs p.takes q.takes);
}

-- ---- one line

-- a line of these parts
concat-last : (ps : List (List ℕ)) (l : List ℕ) → concat (ps ++ l ∷ []) ≡ concat ps ++ l
concat-last [] l = append-nil l
concat-last (p ∷ ps) l = ap (λ t. p ++ t) (concat-last ps l) ∙ sym (append_assoc p (concat ps) l)

pub clean_both : (a b : List ℕ) → IsClean a → IsClean b → IsClean (a ++ b)
clean_both a b p q = list_all-append (λ c. not (nat_eq c 10)) a b ∙ and_from _ _ p q

clean_parts : (ps : List (List ℕ)) → AllByRecursion IsClean ps → IsClean (concat ps)
clean_parts [] all = refl
clean_parts (p ∷ ps) all = clean_both p (concat ps) all.0 (clean_parts ps all.1)

filter_other : (v : Bool) (l : List ℕ) → v ≡ false → AreTakesOf (cond v (l ∷ []) []) []
filter_other true l e = absurd cc
filter_other false l e = tt

filter_take : (v : Bool) (l : List ℕ) (f : Filling) → v ≡ true → IsTakeOf l f → AreTakesOf (cond v (l ∷ []) []) (f ∷ [])
filter_take true l f e is = (is, tt)
filter_take false l f e is = absurd cc

pub says_other : (ps : List (List ℕ)) → AllByRecursion IsClean ps → is_take_line (concat ps) ≡ false → Says (concat (ps ++ codes "\n" ∷ [])) []
says_other ps all other = record {
  lines = concat ps ∷ [];
  is = concat-last ps (codes "\n");
  clean = (clean_parts ps all, tt);
  takes = filter_other (is_take_line (concat ps)) (concat ps) other;
}

-- ---- numbers and digits

clean_byte : (b : ℕ) → 10 < b → not (nat_eq b 10) ≡ true
clean_byte b above = not_from_false _ (ne_eqb b 10 (λ (e : b ≡ 10). absurd (omega (arith, above))))

clean_glyph : (d : ℕ) → not (nat_eq (digit_glyph false d) 10) ≡ true
clean_glyph d = go (nat_lt d 10) where
  go : (v : Bool) → not (nat_eq (if v then 48 + d else 87 + d) 10) ≡ true
  go true = clean_byte (48 + d) (omega arith)
  go false = clean_byte (87 + d) (omega arith)

clean_onto : (k n : ℕ) (acc : List ℕ) → IsClean acc → IsClean (digits_onto k 10 false n acc)
clean_onto zero n acc clean = clean
clean_onto (suc k) n acc clean = go (n / 10 == 0) more (clean_onto k (n / 10) (digit_glyph false (n % 10) ∷ acc) more) where
  more : IsClean (digit_glyph false (n % 10) ∷ acc)
  more = and_from _ _ (clean_glyph (n % 10)) clean

  go : (v : Bool) → IsClean (digit_glyph false (n % 10) ∷ acc) → IsClean (digits_onto k 10 false (n / 10) (digit_glyph false (n % 10) ∷ acc))
      → IsClean (if v then digit_glyph false (n % 10) ∷ acc else digits_onto k 10 false (n / 10) (digit_glyph false (n % 10) ∷ acc))
  go true last further = last
  go false last further = further

pub clean_number : (n : ℕ) → IsClean (decimal n)
unfolding digits
clean_number n = clean_onto 64 n [] refl

pub clean_flag : (b : Bool) → IsClean (flag_text b)
clean_flag true = refl
clean_flag false = refl

clean_at : (table : List ℕ) → IsClean table → (i : ℕ) → not (nat_eq (slice_index table i) 10) ≡ true
clean_at [] clean i = refl
clean_at (x ∷ xs) clean zero = (and_parts _ _ clean).0
clean_at (x ∷ xs) clean (suc i) = clean_at xs (and_parts _ _ clean).1 i

pub clean_hex : (bytes : List ℕ) → IsClean (encode_lower bytes)
unfolding encode_with
clean_hex [] = refl
clean_hex (b ∷ bytes) =
    and_from _ _ (clean_at lower_digits refl (b / 16)) (and_from _ _ (clean_at lower_digits refl (b % 16)) (clean_hex bytes))

-- ---- the lines of a report

abbrev take_parts : BufferId → Filling → List (List ℕ)
take_parts id buf =
    codes "take " ∷ decimal id.place ∷ codes "." ∷ decimal id.generation
    ∷ codes " block=" ∷ decimal buf.rec.block
    ∷ codes " complete=" ∷ flag_text buf.rec.complete
    ∷ codes " larger=" ∷ flag_text buf.rec.larger
    ∷ codes " leader=" ∷ flag_text buf.rec.has_leader
    ∷ codes " len=" ∷ decimal buf.rec.data_len
    ∷ codes " filled=" ∷ decimal buf.rec.filled
    ∷ codes " sha256=" ∷ digest_text buf ∷ []

take_clean : (id : BufferId) (buf : Filling) → AllByRecursion IsClean (take_parts id buf)
take_clean id buf =
    (refl, (clean_number id.place, (refl, (clean_number id.generation, (refl, (clean_number buf.rec.block, (refl, (clean_flag buf.rec.complete, (refl, (clean_flag buf.rec.larger, (refl, (clean_flag buf.rec.has_leader, (refl, (clean_number buf.rec.data_len, (refl, (clean_number buf.rec.filled, (refl, (clean_hex _, tt))))))))))))))))))

pub says_take : (id : BufferId) (f : Filling) → Says (take_line id f) (f ∷ [])
says_take id f =
    let ps : List (List ℕ) = take_parts id f in
    let is : take_line id f ≡ concat ps ++ 10 ∷ [] = concat-last ps (codes "\n") in
    record {
      lines = concat ps ∷ [];
      is = is;
      clean = (clean_parts ps (take_clean id f), tt);
      takes = filter_take (is_take_line (concat ps)) (concat ps) f refl (id, sym is);
    }

pub says_announced : (id : BufferId) → Says (id_line (codes "announce") id) []
says_announced id =
    says_other (codes "announce" ∷ codes " " ∷ decimal id.place ∷ codes "." ∷ decimal id.generation ∷ [])
    (refl, (refl, (clean_number id.place, (refl, (clean_number id.generation, tt))))) refl

pub says_request : (bytes : List ℕ) → Says (request_line bytes) []
says_request bytes = says_other (codes "request " ∷ encode_lower bytes ∷ []) (refl, (clean_hex bytes, tt)) refl

pub says_requests : (rs : List Request) → Says (requests_text rs) []
says_requests [] = says_nothing
says_requests (r ∷ rs) = says_both (request_line (request_bytes r)) (requests_text rs) [] [] (says_request (request_bytes r)) (says_requests rs)

pub says_started : Says (result_line (codes "start") (Ok tt)) []
says_started = record { lines = codes "start ok" ∷ []; is = refl; clean = (refl, tt); takes = tt }

pub says_stopped : Says (result_line (codes "stop") (Ok tt)) []
says_stopped = record { lines = codes "stop ok" ∷ []; is = refl; clean = (refl, tt); takes = tt }

pub says_queued : Says (result_line (codes "queue") (Ok tt)) []
says_queued = record { lines = codes "queue ok" ∷ []; is = refl; clean = (refl, tt); takes = tt }

-- ---- what is taken

abbrev pub contents : List Item → List Filling
contents xs = map (λ (x : Item). x.filling) xs

contents-append : (xs ys : List Item) → contents (xs ++ ys) ≡ contents xs ++ contents ys
contents-append [] ys = refl
contents-append (x ∷ xs) ys = ap (λ l. x.filling ∷ l) (contents-append xs ys)

-- Where this waits in the output, these entries take the first of it, or of what they fill, out of it, and the text
-- tells of that.
pub record Tells (out : List Item) (es : List Entry) (said : List ℕ) : Type 0 where
  pub gone : List Item
  pub rest : List Item
  pub split : out ++ filled es ≡ gone ++ rest
  pub went : length (removed es) ≡ length gone
  pub says : Says said (contents gone)

pub tells_quiet : (out : List Item) (es : List Entry) (said : List ℕ) → removed es ≡ [] → Says said [] → Tells out es said
tells_quiet out es said none says = record { gone = []; rest = out ++ filled es; split = refl; went = ap length none; says = says }

-- the text after these entries, where it told of all that was taken before them
pub says_on : (h es : List Entry) (text said : List ℕ) (out : List Item) → Run h → (After h).out ≡ out
    → Says text (contents (removed_items h)) → Tells out es said → Says (text ++ said) (contents (removed_items (h ++ es)))
says_on h es text said out run is says tells =
    subst (λ fs. Says (text ++ said) fs) (sym (ap contents grew ∙ contents-append (removed_items h) tells.gone))
    (says_both text said (contents (removed_items h)) (contents tells.gone) says tells.says)
  where
    p : Passes [] (filled h) (removed h) (After h).out
    p = run_passes empty_board h run

    came : filled (h ++ es) ≡ (p.gone ++ tells.gone) ++ tells.rest
    came =
        filled-append h es
        ∙ (ap (λ l. l ++ filled es) (p.split ∙ ap (λ l. p.gone ++ l) is)
        ∙ (append_assoc p.gone out (filled es)
        ∙ (ap (λ l. p.gone ++ l) tells.split ∙ sym (append_assoc p.gone tells.gone tells.rest))))

    same_length : length (p.gone ++ tells.gone) ≡ length (removed (h ++ es))
    same_length =
        omega (arith, length-append p.gone tells.gone, ap length (removed-append h es), length-append (removed h) (removed es), gone_length h p, tells.went)

    grew : removed_items (h ++ es) ≡ removed_items h ++ tells.gone
    grew =
        ap (λ l. take (length (removed (h ++ es))) l) came
        ∙ (take_at (p.gone ++ tells.gone) tells.rest (length (removed (h ++ es))) same_length
        ∙ ap (λ l. l ++ tells.gone) (sym (gone_items h p)))
