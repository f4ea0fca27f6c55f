-- The ports of a test `eq` or `neq` of an access list: one to ten.
use Rattle.std.specs.Prelude.{◌≡◌, ℕ, ◌-◌, List, ◌++◌, length, replicate, take, Bool, true, ◌&&◌, nat_le, nat_lt, if◌then◌else◌, Option, Some, None}
use Rattle.std.proofs.Common.{ap, ◌∙◌}

-- a list of one to ten ports
abbrev pub are_ports : List ℕ → Bool
are_ports list = nat_lt 0 (length list) && nat_le (length list) 10

-- the ports that a list is, where they are one to ten
abbrev pub ports_of : List ℕ → Option (List ℕ)
ports_of list = if are_ports list then Some list else None

-- n ports in a field of 10, with zeros behind them
abbrev pub padded : ℕ → List ℕ → List ℕ
padded n list = list ++ replicate (10 - n) 0

-- the first len of the field are the ports, and zeros follow
pub record IsPadded (len : ℕ) (field : List ℕ) : Type 0 where
  pub few : are_ports (take len field) ≡ true
  pub long : length (take len field) ≡ len
  pub zeros : padded len (take len field) ≡ field

pub padded-take : (len : ℕ) (field : List ℕ) → IsPadded len field → padded (length (take len field)) (take len field) ≡ field
padded-take len field h = ap (λ n. padded n (take len field)) h.long ∙ h.zeros
