use Rattle.std.proofs.Common.{◌≡◌, ℕ, ◌^◌, ◌≤◌, List, length, take, drop, Some, None, Result, Ok, Err, sym, ap, ◌∙◌, arith}
use Rattle.std.specs.Prelude.{Bool, if◌then◌else◌}
use Rattle.std.proofs.lemmas.Bool.{le-leb}
use Rattle.std.proofs.lemmas.List.{take_at}
use Rattle.gvsp_std.specs.declared.std_error.StdError.{StdError}
use Rattle.gvsp_std.specs.Widening.{widened, top_after, IsWidened, IsRefused}
use Rattle.gvsp_std.proofs.Written.{widened_fits}
use Rattle.link_filters.specs.Wide.{wide_of, wide_bytes, top_behind}
use Rattle.link_filters.proofs.widened.widen.Goals as goal

wide_is : (top : ℕ) (bytes : List ℕ) (r : Result (ℕ × List ℕ) StdError) → top ≤ 2 ^ 63 → widened top bytes ≡ r → wide_bytes top bytes ≡ wide_of r bytes
wide_is top bytes r low is = ap (λ (b : Bool). if b then wide_of (widened top bytes) bytes else None) (le-leb top (2 ^ 63) low) ∙ ap (λ x. wide_of x bytes) is

top_is : (top : ℕ) (bytes : List ℕ) (r : Result (ℕ × List ℕ) StdError) → top ≤ 2 ^ 63 → widened top bytes ≡ r → top_behind top bytes ≡ top_after top r
top_is top bytes r low is = ap (λ (b : Bool). if b then top_after top (widened top bytes) else top) (le-leb top (2 ^ 63) low) ∙ ap (top_after top) is

took : (top next len : ℕ) (bytes old new front : List ℕ) → top ≤ 2 ^ 63 → IsWidened top bytes old len next new → front ≡ take 9000 (take len new)
    → (Some front ≡ wide_bytes top bytes) × (next ≡ top_behind top bytes)
took top next len bytes old new front low w is =
    let whole : take len new ≡ w.wide = ap (take len) w.written ∙ take_at w.wide (drop len old) len (sym w.len_is) in
    (ap Some (is ∙ ap (take 9000) whole) ∙ sym (wide_is top bytes (Ok (w.block, w.wide)) low w.is), w.top_is ∙ sym (top_is top bytes (Ok (w.block, w.wide)) low w.is))

refused : (top next : ℕ) (bytes old new : List ℕ) (seen error : StdError) → top ≤ 2 ^ 63 → IsRefused top bytes old seen next new → seen ≡ error
    → (wide_of (Err error) bytes ≡ wide_bytes top bytes) × (next ≡ top_behind top bytes)
refused top next bytes old new seen error low r is =
    (sym (wide_is top bytes (Err error) low (r.is ∙ ap Err is)), r.top_stays ∙ sym (top_is top bytes (Err error) low (r.is ∙ ap Err is)))

pub widen-requires-clause-room : goal.widen-requires-clause-room
widen-requires-clause-room c =
    widened_fits c.args.widener.now c.args.bytes.now (length c.args.wide.now) (omega (arith, c.requires.bytes, c.requires.wide))

pub returns-in-Ok : goal.returns-in-Ok
returns-in-Ok c =
    let is = took c.args.widener.now c.widen.new.self c.in-Ok.len c.args.bytes.now c.args.wide.now c.widen.new.out _ (omega arith) c.in-Ok.ensures.answer c.copy_front.ensures.front in
    record { count = omega arith; heard = is.0; top = is.1 }

pub returns-in-Err-Short : goal.returns-in-Err-Short
returns-in-Err-Short c =
    let is = refused c.args.widener.now c.widen.new.self c.args.bytes.now c.args.wide.now c.widen.new.out _ _ (omega arith) c.in-Err-Short.ensures.answer c.in-Err-Short.field-0-is in
    record { count = omega arith; heard = ap Some (c.copy_front-in-Err-Short.ensures.whole c.requires.bytes) ∙ is.0; top = is.1 }

pub returns-in-Err-Extended : goal.returns-in-Err-Extended
returns-in-Err-Extended c =
    let is = refused c.args.widener.now c.widen.new.self c.args.bytes.now c.args.wide.now c.widen.new.out _ _ (omega arith) c.in-Err-Extended.ensures.answer c.in-Err-Extended.field-0-is in
    record { count = omega arith; heard = ap Some (c.copy_front-in-Err-Extended.ensures.whole c.requires.bytes) ∙ is.0; top = is.1 }

pub returns-in-Err-Zero : goal.returns-in-Err-Zero
returns-in-Err-Zero c =
    let is = refused c.args.widener.now c.widen.new.self c.args.bytes.now c.args.wide.now c.widen.new.out _ _ (omega arith) c.in-Err-Zero.ensures.answer c.in-Err-Zero.field-0-is in
    record { count = tt; heard = is.0; top = is.1 }

pub returns-in-Err-Before : goal.returns-in-Err-Before
returns-in-Err-Before c =
    let is = refused c.args.widener.now c.widen.new.self c.args.bytes.now c.args.wide.now c.widen.new.out _ _ (omega arith) c.in-Err-Before.ensures.answer c.in-Err-Before.field-0-is in
    record { count = tt; heard = is.0; top = is.1 }
