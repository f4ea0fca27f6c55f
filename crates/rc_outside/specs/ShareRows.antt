-- Worked cases of the shares of workers, each by computation.
use Rattle.std.specs.Prelude.{◌≡◌, refl}
use Rattle.rc_outside.specs.Shares.{share_start}

-- 5 items and 2 workers: two items and three
pub share_begins : share_start 5 2 1 ≡ 2
share_begins = refl

pub shares_end : share_start 5 2 2 ≡ 5
shares_end = refl

-- 7 items and 3 workers: two, two and three
pub third_begins : share_start 7 3 2 ≡ 4
third_begins = refl

-- more workers than items: some have none
pub share_is_empty : share_start 1 4 2 ≡ share_start 1 4 1
share_is_empty = refl
