-- The lines of a captured script tell its datagrams.
use Rattle.std.proofs.Common.{◌≡◌, ℕ, zero, suc, ◌-◌, ◌/◌, ◌^◌, ◌==◌, ◌≤◌, List, [], ◌∷◌, ◌++◌, Bool, true, false, refl, ap, sym, ◌∙◌, arith, append_assoc}
use Rattle.std.specs.Prelude.{◌||◌, max, min, nat_lt, replicate, if◌then◌else◌}
use Rattle.hex.specs.Hex.{encode_lower}
use Rattle.gev_script.specs.Lines as line
use Rattle.gev_script.specs.Lines.{ScriptLine}
use Rattle.gev_capture.specs.declared.moments.Moments.{Moments}
use Rattle.gev_capture.specs.Files.{Packet, captured, dropped}
use Rattle.gev_capture.specs.Contents.{Seen, other, fragment, cut, datagram, lost}
use Rattle.gev_capture.specs.Sightings as capture
use Rattle.gev_capture.specs.Sightings.{Sighting, no_moments, moment_in, moments_after, sighting_of}
use Rattle.capture_script.specs.Playing.{heard, ticked, stopped}
use Rattle.capture_script.specs.Script.{Scripted, Lines, new_script, taking, no_lines, both, goes_on, ticks, carries, is_for, stands_in, has_datagram, seen, sighted, script_lines, closing_lines, lines_from, script_behind}
use Rattle.capture_script.specs.Datagrams.{Told, told_if, told_of, datagrams_to, has_told, told_from}
use Rattle.capture_script.specs.Laws.{AreTold, DatagramsAreTold}

-- ---- takes tell nothing

takes_tell : (now k : ℕ) (ls : List ScriptLine) → told_from now ((replicate k line.take ++ line.flush 3 ∷ []) ++ ls) ≡ told_from now ls
takes_tell now zero ls = refl
takes_tell now (suc k) ls = takes_tell now k ls

taking_tells : (now n : ℕ) (ls : List ScriptLine) → told_from now (taking n ++ ls) ≡ told_from now ls
taking_tells now n ls = go (n == 0) where
  go : (b : Bool) → told_from now ((if b then [] else replicate n line.take ++ line.flush 3 ∷ []) ++ ls) ≡ told_from now ls
  go true = refl
  go false = takes_tell now n ls

-- ---- a packet

-- These lines tell this at the moments of `t` lines, of which none is later than this moment.
record Tells (s : Scripted) (moment : ℕ) (l : Lines) (told : List Told) : Type 0 where
  tells : (ls : List ScriptLine) → told_from s.moment (l.lines ++ ls) ≡ told ++ told_from l.after.moment ls
  port : l.after.port ≡ s.port
  past : l.after.moment ≤ moment

nothing_tells : (s : Scripted) (moment : ℕ) → s.moment ≤ moment → Tells s moment (no_lines s) []
nothing_tells s moment past = record { tells = λ ls. refl; port = refl; past = past }

max_later : (a b : ℕ) → a ≤ b → max a b ≡ b
max_later a b h = omega (arith, h)

-- Time goes on to just this moment.
record Ticks (s : Scripted) (moment : ℕ) (l : Lines) : Type 0 where
  told : Tells s moment l []
  at : l.after.moment ≡ moment

ticks_tell : (moment : ℕ) (s : Scripted) (b : Bool) → nat_lt s.moment moment ≡ b → s.moment ≤ moment → Ticks s moment (if b then goes_on moment s else no_lines s)
ticks_tell moment s true is past = record {
  told = record {
    tells = λ ls.
        taking_tells (max s.moment moment) (ticked s.p moment s.played).filled ls
        ∙ ap (λ (n : ℕ). told_from n ls) (max_later s.moment moment past);
    port = refl;
    past = omega arith;
  };
  at = refl;
}
ticks_tell moment s false is past = record { told = nothing_tells s moment past; at = same (s.moment) moment past is }
  where
    same : (a b : ℕ) → a ≤ b → nat_lt a b ≡ false → a ≡ b
    same a b h e = grind (arith, h, e)

carried_tells : (moment : ℕ) (bytes : List ℕ) (s : Scripted) → s.moment ≤ moment → Tells s moment (both (ticks moment s) (carries bytes)) (record { moment = moment; digits = encode_lower bytes } ∷ [])
carried_tells moment bytes s past =
    let t = ticks_tell moment s (nat_lt s.moment moment) refl past in
    let mid : Scripted = (ticks moment s).after in
    record {
      tells = λ ls.
          ap (told_from s.moment) (append_assoc (ticks moment s).lines (carries bytes mid).lines ls)
          ∙ t.told.tells ((carries bytes mid).lines ++ ls)
          ∙ ap (λ (ts : List Told). record { moment = mid.moment; digits = encode_lower bytes } ∷ ts) (taking_tells mid.moment (heard mid.p mid.size bytes mid.played).filled ls)
          ∙ ap (λ (n : ℕ). record { moment = n; digits = encode_lower bytes } ∷ told_from mid.moment ls) t.at;
      port = t.told.port;
      past = t.told.past;
    }

carried_if : (b : Bool) (moment : ℕ) (bytes : List ℕ) (s : Scripted) → s.moment ≤ moment
    → Tells s moment (if b then both (ticks moment s) (carries bytes) else no_lines s) (told_if b moment bytes)
carried_if true moment bytes s past = carried_tells moment bytes s past
carried_if false moment bytes s past = nothing_tells s moment past

seen_tells : (moment : ℕ) (what : Seen) (s : Scripted) → s.moment ≤ moment → Tells s moment (seen moment what s) (told_of s.port moment what)
seen_tells moment other s past = nothing_tells s moment past
seen_tells moment fragment s past = nothing_tells s moment past
seen_tells moment cut s past = nothing_tells s moment past
seen_tells moment (lost before now) s past = nothing_tells s moment past
seen_tells moment (datagram c) s past = carried_if (is_for s.port c.receiver.port c.bytes) moment c.bytes s past

-- ---- moments never fall

not_before : (m : Moments) (time : ℕ) → m.last ≤ 2 ^ 64 - 1 → m.last ≤ moment_in m time
not_before m time small = later m.last ((time - capture.first_time m.first time) / 1000000) small where
  later : (last n : ℕ) → last ≤ 2 ^ 64 - 1 → last ≤ min (2 ^ 64 - 1) (max last n)
  later last n h = omega (arith, h)

pub few_moments : (m : Moments) (time : ℕ) → moment_in m time ≤ 2 ^ 64 - 1
few_moments m time = below (max m.last ((time - capture.first_time m.first time) / 1000000)) where
  below : (n : ℕ) → min (2 ^ 64 - 1) n ≤ 2 ^ 64 - 1
  below n = omega arith

-- ---- all packets

packets_tell : (m : Moments) (packets : List Packet) (s : Scripted) (ls : List ScriptLine) → s.moment ≤ m.last → m.last ≤ 2 ^ 64 - 1
    → told_from s.moment (lines_from s (capture.sighted m packets) ++ ls)
    ≡ datagrams_to s.port (capture.sighted m packets) ++ told_from (script_behind s (capture.sighted m packets)).moment ls
packets_tell m [] s ls past small = refl
packets_tell m (dropped before now ∷ packets) s ls past small = packets_tell m packets s ls past small
packets_tell m (captured packet ∷ packets) s ls past small =
    let x : Sighting = sighting_of m (captured packet) in
    let up = not_before m packet.time small in
    let one = seen_tells x.moment x.what s (omega (arith, past, up)) in
    let new : Scripted = (sighted s x).after in
    let xs = capture.sighted (moments_after m packet.time) packets in
    ap (told_from s.moment) (append_assoc (sighted s x).lines (lines_from new xs) ls)
    ∙ one.tells (lines_from new xs ++ ls)
    ∙ ap (λ (ts : List Told). told_of s.port x.moment x.what ++ ts)
    (packets_tell (moments_after m packet.time) packets new ls one.past (few_moments m packet.time)
    ∙ ap (λ (n : ℕ). datagrams_to n xs ++ told_from (script_behind new xs).moment ls) one.port)
    ∙ sym (append_assoc (told_of s.port x.moment x.what) (datagrams_to s.port xs) (told_from (script_behind new xs).moment ls))

-- ---- the whole script

append-none : (ts : List Told) → ts ++ [] ≡ ts
append-none [] = refl
append-none (t ∷ ts) = ap (λ (us : List Told). t ∷ us) (append-none ts)

all_told : (port p size : ℕ) (packets : List Packet) → told_from 0 (script_lines port p size (capture.sightings packets)) ≡ datagrams_to port (capture.sightings packets)
all_told port p size packets =
    let xs = capture.sighted no_moments packets in
    let s : Scripted = new_script port p size in
    let last : Scripted = script_behind s xs in
    packets_tell no_moments packets s (closing_lines last) (omega arith) (omega arith)
    ∙ ap (λ (ts : List Told). datagrams_to port xs ++ ts) (taking_tells last.moment (stopped last.p last.played).filled (line.end_of_script ∷ []))
    ∙ append-none (datagrams_to port xs)

-- ---- whether there is one

some_told : (port moment : ℕ) (what : Seen) (ts : List Told) → (stands_in port what || has_told ts) ≡ has_told (told_of port moment what ++ ts)
some_told port moment other ts = refl
some_told port moment fragment ts = refl
some_told port moment cut ts = refl
some_told port moment (lost before now) ts = refl
some_told port moment (datagram c) ts = if_told (is_for port c.receiver.port c.bytes) where
  if_told : (b : Bool) → (b || has_told ts) ≡ has_told (told_if b moment c.bytes ++ ts)
  if_told true = refl
  if_told false = refl

has_some : (port : ℕ) (xs : List Sighting) → has_datagram port xs ≡ has_told (datagrams_to port xs)
has_some port [] = refl
has_some port (x ∷ xs) =
    ap (λ (b : Bool). stands_in port x.what || b) (has_some port xs) ∙ some_told port x.moment x.what (datagrams_to port xs)

pub datagrams_are_told : DatagramsAreTold
datagrams_are_told port p size packets = record {
  told = all_told port p size packets;
  some = has_some port (capture.sightings packets) ∙ ap has_told (sym (all_told port p size packets));
}
