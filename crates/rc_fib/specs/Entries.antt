-- The entries of a prepared table: their order, and how they are made layer by layer.
use Rattle.std.specs.Prelude.{ℕ, Bool, true, false, not, ◌&&◌, List, [], ◌∷◌, map, Option, Some, None}
use Rattle.rc_base.specs.Prefix.{IsCidr}
use Rattle.rc_route.specs.Hops.{same_hop}
use Rattle.rc_route.specs.declared.route.Hop.{Hop}
use Rattle.rc_route.specs.declared.route.Hop.TheVariants.{Null, Dev, Via}
use Rattle.rc_route.specs.declared.route.Route.{Route}
use Rattle.rc_fib.specs.Entry.{Entry}
use Rattle.rc_trie.specs.Tree.{AreInOrder}
use Rattle.rc_fib.specs.Forwarding.{is_resolved, resolve_all, resolved_hops}

-- a prepared table's entries: one for each prefix, by address, then length
abbrev pub IsFib : List Entry → Type 0
IsFib entries = AreInOrder (λ (e : Entry). e.prefix) entries

-- its prefix has no bits beyond its length
abbrev pub HasCidr : Entry → Type 0
HasCidr e = IsCidr e.prefix

-- the gateway of a hop that names no interface
abbrev pub gateway_of : Hop → Option ℕ
gateway_of Null = None
gateway_of (Dev i) = None
gateway_of (Via g None) = Some g
gateway_of (Via g (Some i)) = None

-- hops that resolve to themselves, whatever the entries: each says where a packet goes, and none stands there twice
abbrev pub is_settled : List Hop → Bool
is_settled [] = true
is_settled (h ∷ []) = is_resolved h
is_settled (h ∷ k ∷ []) = (is_resolved h && is_resolved k) && not (same_hop k h)
is_settled (h ∷ k ∷ l ∷ hops) = false

-- a route's entry, where other entries give the hops of its gateways
abbrev pub entry_over : List Entry → Route → Entry
entry_over entries r = record { prefix = r.prefix; hops = resolve_all (resolved_hops entries) r.hops }

abbrev pub entries_over : List Entry → List Route → List Entry
entries_over entries table = map (entry_over entries) table
