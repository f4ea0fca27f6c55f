-- What a prepared table says of an address is what the table says.
use Rattle.std.proofs.Common.{refl, ◌≡◌, ap, ◌∙◌, ℕ, suc, List, [], map, Option, Some, None}
use Rattle.std.specs.List.{list_any}
use Rattle.std.specs.Option.{option_map, option_map_or}
use Rattle.rc_route.specs.declared.route.Hop.{Hop}
use Rattle.rc_route.specs.declared.route.Route.{Route}
use Rattle.rc_trie.proofs.ScanLaws.{longest_map}
use Rattle.rc_fib.specs.Entry.{Entry}
use Rattle.rc_fib.specs.Forwarding.{longest, resolve_all, hops_within, hops_of, resolved, resolved_within, entry_of, resolved_hops, resolved_prefix, resolves, has_interface}

-- the hops of a route may be any function of it
module _ (hops : Route → List Hop) where
  abbrev entry : Route → Entry
  entry r = record { prefix = r.prefix; hops = hops r }

  entry_of-entries : (table : List Route) (a : ℕ) → entry_of (map entry table) a ≡ option_map entry (longest table a)
  entry_of-entries table a = longest_map entry (λ (e : Entry). e.prefix) a table

  hops-entry : (o : Option Route) → option_map_or (λ (e : Entry). e.hops) (option_map entry o) [] ≡ option_map_or hops o []
  hops-entry None = refl
  hops-entry (Some r) = refl

  prefix-entry : (o : Option Route) → option_map (λ (e : Entry). e.prefix) (option_map entry o) ≡ option_map (λ (r : Route). r.prefix) o
  prefix-entry None = refl
  prefix-entry (Some r) = refl

  resolved_hops-entries : (table : List Route) (a : ℕ) → resolved_hops (map entry table) a ≡ option_map_or hops (longest table a) []
  resolved_hops-entries table a =
      ap (λ o. option_map_or (λ (e : Entry). e.hops) o []) (entry_of-entries table a) ∙ hops-entry (longest table a)

-- entries that were resolved to a depth give what the table gives at the next
pub resolved_hops-within : (table : List Route) (depth a : ℕ) → resolved_hops (resolved_within table depth) a ≡ hops_within table (suc depth) a
unfolding hops_within
resolved_hops-within table depth a = resolved_hops-entries (λ (r : Route). resolve_all (hops_within table depth) r.hops) table a

-- the hops of an address by the prepared table are those by the table
pub resolved_hops-resolved : (table : List Route) (a : ℕ) → resolved_hops (resolved table) a ≡ hops_of table a
resolved_hops-resolved table a = resolved_hops-within table 15 a

-- the longest prefix of an address by the prepared table is that of the table
pub resolved_prefix-resolved : (table : List Route) (a : ℕ) → resolved_prefix (resolved table) a ≡ option_map (λ (r : Route). r.prefix) (longest table a)
resolved_prefix-resolved table a =
    ap (option_map (λ (e : Entry). e.prefix)) (entry_of-entries (λ (r : Route). resolve_all (hops_within table 15) r.hops) table a) ∙ prefix-entry (λ (r : Route). resolve_all (hops_within table 15) r.hops) (longest table a)

-- an address resolves by the prepared table where some hop by the table names an interface
pub resolves-resolved : (table : List Route) (a : ℕ) → resolves (resolved table) a ≡ list_any has_interface (hops_of table a)
resolves-resolved table a = ap (list_any has_interface) (resolved_hops-resolved table a)
