-- Sets over two prefixes and their cubes, by computation.
use Rattle.std.specs.Prelude.{◌≡◌, refl, ℕ, ◌+◌, if◌then◌else◌, [], ◌∷◌, drop, length, map, take}
use Rattle.rc_base.specs.Fields.{zeros}
use Rattle.rc_base.specs.Header.{bit, set_bit}
use Rattle.rc_base.specs.Prefix.{Cidr, prefix_at}
use Rattle.rc_base.specs.declared.header.Header.{Header}
use Rattle.rc_trees.specs.Combine as trees
use Rattle.rc_trees.specs.Trees.{holds}
use Rattle.rc_trees.specs.Recipes.{Recipe, and, or, minus, tree}
use Rattle.rc_trees.specs.Fields.{chain, masked}
use Rattle.rc_cubes.specs.Cubes.{cubes, with_test}

-- 10.0.0.0
abbrev ten : ℕ
ten = 167772160

-- a packet to an address
abbrev packet : ℕ → Header
packet to = record zeros { dst = to; proto = 17; sport = 53; dport = 53 }

abbrev if_held : Recipe → ℕ → ℕ → ℕ
if_held set to n = if holds (tree set) (packet to) then n else 0

-- which of the sets of both prefixes, of either and of the first alone hold a packet to an address: 4, 2 and 1 in all
abbrev holders : Cidr → Cidr → ℕ → ℕ
holders p q to = if_held (and (chain p) (chain q)) to 4 + if_held (or (chain p) (chain q)) to 2 + if_held (minus (chain p) (chain q)) to 1

pub one_inside_the_other :
    map (holders (prefix_at ten 8) (prefix_at (ten + 512) 24)) (167772159 ∷ ten ∷ (ten + 511) ∷ (ten + 512) ∷ (ten + 767) ∷ (ten + 768) ∷ [])
    ≡ 0 ∷ 3 ∷ 3 ∷ 6 ∷ 6 ∷ 3 ∷ []
unfolding masked bit trees.and trees.or trees.minus
one_inside_the_other = refl

pub apart :
    map (holders (prefix_at ten 24) (prefix_at (ten + 256) 24)) (167772159 ∷ ten ∷ (ten + 255) ∷ (ten + 256) ∷ (ten + 511) ∷ (ten + 512) ∷ [])
    ≡ 0 ∷ 3 ∷ 3 ∷ 2 ∷ 2 ∷ 0 ∷ []
unfolding masked bit trees.and trees.or trees.minus
apart = refl

pub a_prefix_and_itself : map (holders (prefix_at ten 30) (prefix_at ten 30)) (ten ∷ (ten + 3) ∷ (ten + 4) ∷ []) ≡ 6 ∷ 6 ∷ 0 ∷ []
unfolding masked bit trees.and trees.or trees.minus
a_prefix_and_itself = refl

pub every_address_and_a_host : map (holders (prefix_at 0 0) (prefix_at ten 32)) (0 ∷ 167772159 ∷ ten ∷ (ten + 1) ∷ []) ≡ 3 ∷ 3 ∷ 6 ∷ 3 ∷ []
unfolding masked bit trees.and trees.or trees.minus
every_address_and_a_host = refl

-- every address but 10.0.0.0/24: a cube for each bit of it, and the highest bit is 0 in all that come before the last
pub all_but_a_network :
    (length (cubes (tree (minus (chain (prefix_at 0 0)) (chain (prefix_at ten 24))))) ≡ 24)
    × (take 1 (cubes (tree (minus (chain (prefix_at 0 0)) (chain (prefix_at ten 24))))) ≡ record { value = zeros; mask = record zeros { dst = 0xf8000000 } } ∷ [])
    × (drop 23 (cubes (tree (minus (chain (prefix_at 0 0)) (chain (prefix_at ten 24))))) ≡ record { value = record zeros { dst = 0x80000000 }; mask = record zeros { dst = 0x80000000 } } ∷ [])
unfolding masked with_test set_bit trees.minus
all_but_a_network = (refl, refl, refl)

pub nothing_is_left : cubes (tree (minus (chain (prefix_at ten 24)) (chain (prefix_at ten 24)))) ≡ []
unfolding masked with_test set_bit trees.minus
nothing_is_left = refl
