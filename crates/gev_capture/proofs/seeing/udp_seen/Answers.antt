-- UDP that has room for its header, and for which IPv4 has room, is cut or a datagram.
use Rattle.std.proofs.Common.{◌≡◌, ℕ, ◌≤◌, List, length, Bool, true, false, refl, sym, ap, ◌∙◌}
use Rattle.std.specs.Prelude.{nat_lt, if◌then◌else◌}
use Rattle.std.proofs.lemmas.Bool.{lt-ltb, le-ltb}
use Rattle.gev_capture.specs.Contents.{Seen, other, cut, datagram_in, udp_sized}
use Rattle.gev_capture.proofs.seeing.udp_seen.Goals as goal

third_of : (p q r : Bool) (u v x y : Seen) → p ≡ false → q ≡ false → (if p then u else if q then v else if r then x else y) ≡ (if r then x else y)
third_of p q r u v x y first second = rw (first, second) refl

is_true : (r : Bool) (x y : Seen) → r ≡ true → (if r then x else y) ≡ x
is_true r x y e = rw e refl

is_false : (r : Bool) (x y : Seen) → r ≡ false → (if r then x else y) ≡ y
is_false r x y e = rw e refl

sized : (ip udp : List ℕ) (room n : ℕ) → 8 ≤ n → n ≤ room → udp_sized ip udp room n ≡ (if nat_lt (length udp) n then cut else datagram_in ip udp n)
sized ip udp room n some fits =
    third_of (nat_lt n 8) (nat_lt room n) (nat_lt (length udp) n) other other cut (datagram_in ip udp n) (le-ltb n 8 some) (le-ltb room n fits)

pub returns-then-udp-count-clause-seen : goal.returns-then-udp-count-clause-seen
returns-then-udp-count-clause-seen c =
    sym (sized c.args.ip.now c.args.udp.now c.args.room c.from-count.result c.if-count-lt-UDP_HEADER_SIZE.false c.if-room-count.false
    ∙ is_true (nat_lt (length c.args.udp.now) c.from-count.result) cut (datagram_in c.args.ip.now c.args.udp.now c.from-count.result) (lt-ltb (length c.args.udp.now) c.from-count.result c.if-udp-count.true))
    ∙ ap (λ (n : ℕ). udp_sized c.args.ip.now c.args.udp.now c.args.room n) (c.from-count.ensures ∙ c.u16_at.ensures)

pub returns-clause-seen : goal.returns-clause-seen
returns-clause-seen c =
    c.datagram_in.ensures.seen
    ∙ sym (sized c.args.ip.now c.args.udp.now c.args.room c.from-count.result c.if-count-lt-UDP_HEADER_SIZE.false c.if-room-count.false
    ∙ is_false (nat_lt (length c.args.udp.now) c.from-count.result) cut (datagram_in c.args.ip.now c.args.udp.now c.from-count.result) (le-ltb (length c.args.udp.now) c.from-count.result c.if-udp-count.false))
    ∙ ap (λ (n : ℕ). udp_sized c.args.ip.now c.args.udp.now c.args.room n) (c.from-count.ensures ∙ c.u16_at.ensures)
