-- Several paths to one prefix at once (multipath): the best one, and beside it those that are as good but for who sent them.
use Rattle.std.specs.Prelude.{ℕ, ◌==◌, Bool, not, ◌&&◌, if◌then◌else◌, List, [], ◌∷◌, map, filter, nat_eq, slice_get, take}
use Rattle.std.specs.Cmp.Lexicographic.{pointwise, slice_cmp}
use Rattle.std.specs.List.{enumerate_from, filter_map}
use Rattle.std.specs.Option.{option_map, option_map_or}
use Rattle.std.specs.Ordering.{nat_cmp}
use Rattle.std.specs.declared.cmp.Ordering.{Ordering}
use Rattle.rc_base.specs.Lists.{first_seen, in_order}
use Rattle.rc_route.specs.declared.path.BgpPath.{BgpPath}
use Rattle.rc_bgp_decide.specs.Decision.{eliminate, eliminations, first_left, is_originated, standing}
use Rattle.rc_bgp_decide.specs.declared.turn.Turn.{Turn}

-- what is read of a path that is as good as the best one: who sent it, its place among all, and its next hop
abbrev pub turn : ℕ × BgpPath → Turn
turn e = record { sender_id = e.1.sender_id; neighbor = e.1.neighbor; place = e.0; next_hop = e.1.next_hop }

-- by BGP identifier of the sender, then by its address, then by place, which is each path's own
abbrev pub turn_key : Turn → List ℕ
turn_key t = t.sender_id ∷ t.neighbor ∷ t.place ∷ t.next_hop ∷ []

abbrev pub turn_cmp : Turn → Turn → Ordering
turn_cmp t u = slice_cmp nat_cmp (turn_key t) (turn_key u)

abbrev pub same_next_hop : Turn → Turn → Bool
same_next_hop t u = t.next_hop == u.next_hop

-- one AS path, number by number: one of the same length isn't enough
abbrev pub same_as_path : BgpPath → BgpPath → Bool
same_as_path x y = pointwise nat_eq x.as_path y.as_path

-- those that the eliminations up to the lowest IGP metric leave (RFC 4271 s.9.1.2.2 a to e): behind these only who sent a path counts
abbrev pub as_good : List (ℕ × BgpPath) → List (ℕ × BgpPath)
as_good all = eliminate (λ (e : ℕ × BgpPath). standing e.1) (take 8 eliminations) all

-- of these the others that have the best path's whole AS path
abbrev pub others : ℕ × BgpPath → List (ℕ × BgpPath) → List (ℕ × BgpPath)
others best all = filter (λ (e : ℕ × BgpPath). not (e.0 == best.0) && same_as_path best.1 e.1) (as_good all)

-- the best path, and behind it, where a peer sent it, the others in their turn
abbrev pub turns : ℕ × BgpPath → List (ℕ × BgpPath) → List Turn
turns best all = turn best ∷ (if is_originated best.1.source then [] else in_order turn_cmp (map turn (others best all)))

-- of those that have one next hop the first stays, and of these so many
abbrev pub chosen : ℕ → ℕ × BgpPath → List (ℕ × BgpPath) → List Turn
chosen n best all = take n (first_seen same_next_hop (turns best all))

-- the turns of up to n paths to one prefix that a router uses at once
abbrev pub multi_turns : ℕ → List (ℕ × BgpPath) → List Turn
multi_turns n all = option_map_or (λ best. chosen n best all) (first_left (λ (e : ℕ × BgpPath). standing e.1) all) []

abbrev pub place_of : Turn → ℕ
place_of t = t.place

abbrev pub hop_of : Turn → ℕ
hop_of t = t.next_hop

-- the places of up to n paths to one prefix that a router uses at once, the best one's first
unfoldable pub multi_places : ℕ → List BgpPath → List ℕ
multi_places n paths = map place_of (multi_turns n (enumerate_from 0 paths))

-- the next hops of paths at some places
abbrev pub next_hops_at : List BgpPath → List ℕ → List ℕ
next_hops_at paths places = filter_map (λ i. option_map (λ (x : BgpPath). x.next_hop) (slice_get paths i)) places
