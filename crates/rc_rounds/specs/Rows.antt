-- Worked cases of the definitions, each by computation.
use Rattle.std.specs.Prelude.{◌≡◌, refl}
use Rattle.rc_rounds.specs.Rounds.{checkpoint}

-- the first round has the empty state as its checkpoint
pub first_checkpoint : checkpoint 1 ≡ 0
first_checkpoint = refl

pub second_checkpoint : checkpoint 2 ≡ 1
second_checkpoint = refl

-- a power of two is not below itself
pub checkpoint_of_a_power : checkpoint 4 ≡ 2
checkpoint_of_a_power = refl

pub checkpoint_after_a_power : checkpoint 5 ≡ 4
checkpoint_after_a_power = refl

pub checkpoint_later : checkpoint 8 ≡ 4
checkpoint_later = refl

pub checkpoint_far : checkpoint 1000 ≡ 512
checkpoint_far = refl
