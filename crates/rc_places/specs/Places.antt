-- The positions of a network as numbers: their places in its list, counted from 0.
use Rattle.std.specs.Prelude.{ℕ, ◌+◌, List, ◌∷◌, length, map, slice_index_or, flat_map}
use Rattle.std.specs.List.{range_with_len}
use Rattle.rc_base.specs.declared.position.Pos.{Pos}
use Rattle.rc_base.specs.declared.position.Pos.TheVariants.{Own, Entering}
use Rattle.rc_config.specs.Members.{interface_ids, positions}
use Rattle.rc_config.specs.declared.network.Network.{Network}

-- the positions of a router, in their order
abbrev pub positions_of : Network → ℕ → List Pos
positions_of net r = Own r ∷ map Entering (interface_ids net r)

-- the place of a router's first position: behind those of the routers before it
abbrev pub start_of : Network → ℕ → ℕ
start_of net r = length (flat_map (positions_of net) (range_with_len 0 r))

-- the number of a position: its place among all, in their order
abbrev pub number_of : Network → Pos → ℕ
number_of net (Own r) = start_of net r
number_of net (Entering i) = start_of net i.router + (i.index + 1)

-- the position of a number
abbrev pub position_at : Network → ℕ → Pos
position_at net p = slice_index_or (positions net) p (Own 0)
