-- A camera is new where there is room and its MAC address isn't known.
use Rattle.std.proofs.Common.{◌≡◌, true, false, length, nat_lt, lt-ltb, le-ltb, refl}
use Rattle.camera_search.proofs.noting.is_new.Goals as goal

pub returns-then-found-lt-MOST_CAMERAS : goal.returns-then-found-lt-MOST_CAMERAS
returns-then-found-lt-MOST_CAMERAS c =
    let low : nat_lt (length c.args.found.now) 256 ≡ true = lt-ltb (length c.args.found.now) 256 c.if-found-lt-MOST_CAMERAS.true in
    rw low (cc)

pub returns-else-found-lt-MOST_CAMERAS : goal.returns-else-found-lt-MOST_CAMERAS
returns-else-found-lt-MOST_CAMERAS c =
    let full : nat_lt (length c.args.found.now) 256 ≡ false = le-ltb (length c.args.found.now) 256 c.if-found-lt-MOST_CAMERAS.false in
    rw full refl
