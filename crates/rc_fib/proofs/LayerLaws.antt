-- Layer upon layer of entries comes to the resolved table.
use Rattle.std.proofs.Common.{refl, subst, All, ◌≡◌, ap, sym, ◌∙◌, ℕ, zero, suc, ◌+◌, ◌-◌, ◌<◌, ◌≤◌, arith, List, [], ◌∷◌, ◌++◌, map, Bool, true, false, cond, not, ◌&&◌, ◌||◌, Some, None}
use Rattle.std.specs.List.{list_all, flat_map}
use Rattle.std.specs.List.Sorted.{IsStrictlySortedBy}
use Rattle.rc_base.specs.Prefix.{IsCidr, prefix_cmp}
use Rattle.rc_route.specs.Tables.{IsTable}
use Rattle.rc_route.specs.declared.route.Route.{Route}
use Rattle.rc_route.specs.declared.route.Hop.{Hop}
use Rattle.rc_route.specs.declared.route.Hop.TheVariants.{Null, Dev, Via}
use Rattle.rc_route.specs.Hops.{same_hop}
use Rattle.rc_base.specs.Lists.{first_seen}
use Rattle.rc_fib.specs.Entry.{Entry}
use Rattle.rc_fib.specs.Entries.{IsFib, entries_over, is_settled}
use Rattle.rc_fib.specs.Forwarding.{resolve_all, resolve_hop, resolved_hops, is_resolved, hops_within, resolved, resolved_within}
use Rattle.rc_fib.proofs.ForwardingLaws.{resolved_hops-within}

-- the entries with so many layers more upon them
unfoldable pub more_layers : List Route → ℕ → List Entry → List Entry
more_layers table zero entries = entries
more_layers table (suc n) entries = more_layers table n (entries_over entries table)

first_layer : (table : List Route) → entries_over [] table ≡ resolved_within table 0
unfolding hops_within
first_layer table = refl

next_layer : (table : List Route) (depth : ℕ) → entries_over (resolved_within table depth) table ≡ resolved_within table (suc depth)
next_layer table depth =
    ap (λ (hops : ℕ → List Hop). map (λ (r : Route). record { prefix = r.prefix; hops = resolve_all hops r.hops }) table) (λ i a. resolved_hops-within table depth a i)

layers_within : (table : List Route) (n depth : ℕ) → more_layers table n (resolved_within table depth) ≡ resolved_within table (n + depth)
unfolding more_layers
layers_within table zero depth = ap (resolved_within table) (let e : depth ≡ zero + depth = omega arith in e)
layers_within table (suc n) depth =
    ap (more_layers table n) (next_layer table depth) ∙ layers_within table n (suc depth) ∙ ap (resolved_within table) (let e : n + suc depth ≡ suc n + depth = omega arith in e)

-- sixteen layers upon none are the resolved table
pub all_layers : (table : List Route) → more_layers table 16 [] ≡ resolved table
unfolding more_layers
all_layers table = ap (more_layers table 15) (first_layer table) ∙ layers_within table 15 0

-- where a layer changes nothing no later one does
pub layers_stay : (table : List Route) (n : ℕ) (entries : List Entry) → entries_over entries table ≡ entries → more_layers table n entries ≡ entries
unfolding more_layers
layers_stay table zero entries same = refl
layers_stay table (suc n) entries same = ap (more_layers table n) same ∙ layers_stay table n entries same

-- one of the layers that are left
pub next_of_layers : (table : List Route) (depth : ℕ) (entries next : List Entry) → depth < 16 → next ≡ entries_over entries table → more_layers table (16 - (depth + 1)) next ≡ more_layers table (16 - depth) entries
unfolding more_layers
next_of_layers table depth entries next within is =
    let left : 16 - depth ≡ suc (16 - (depth + 1)) = omega arith in
    ap (more_layers table (16 - (depth + 1))) is ∙ ap (λ n. more_layers table n entries) (sym left)

-- no layer is left
pub no_layers : (table : List Route) (depth : ℕ) (entries : List Entry) → 16 ≤ depth → more_layers table (16 - depth) entries ≡ resolved table → entries ≡ resolved table
unfolding more_layers
no_layers table depth entries past left =
    let none : zero ≡ 16 - depth = omega arith in
    ap (λ n. more_layers table n entries) none ∙ left

-- a layer that changes nothing is the last
pub last_layer : (table : List Route) (depth : ℕ) (entries next : List Entry) → next ≡ entries_over entries table → next ≡ entries → more_layers table (16 - depth) entries ≡ resolved table → next ≡ resolved table
last_layer table depth entries next is same left =
    same ∙ sym (layers_stay table (16 - depth) entries (sym is ∙ same)) ∙ left

-- ---- a table whose hops all say where a packet goes

both : (a b : Bool) → (a && b) ≡ true → (a ≡ true) × (b ≡ true)
both true true e = (refl, refl)
both true false e = absurd (cc e)
both false b e = absurd (cc e)

hop_plain : (f g : ℕ → List Hop) (h : Hop) → is_resolved h ≡ true → resolve_hop f h ≡ resolve_hop g h
hop_plain f g Null e = refl
hop_plain f g (Dev i) e = refl
hop_plain f g (Via a None) e = absurd (cc e)
hop_plain f g (Via a (Some i)) e = refl

hops_plain : (f g : ℕ → List Hop) (hs : List Hop) → list_all is_resolved hs ≡ true → flat_map (resolve_hop f) hs ≡ flat_map (resolve_hop g) hs
hops_plain f g [] e = refl
hops_plain f g (h ∷ hs) e = let (here, later) = both (is_resolved h) (list_all is_resolved hs) e in λ i. hop_plain f g h here i ++ hops_plain f g hs later i

-- hops that say where a packet goes, each once, are what they resolve to
itself : (f : ℕ → List Hop) (h : Hop) → is_resolved h ≡ true → h ∷ [] ≡ resolve_hop f h
itself f Null e = refl
itself f (Dev i) e = refl
itself f (Via a None) e = absurd (cc e)
itself f (Via a (Some i)) e = refl

other : (b : Bool) → not b ≡ true → b ≡ false
other true e = absurd (cc e)
other false e = refl

pub settled_stay : (f : ℕ → List Hop) (hops : List Hop) → is_settled hops ≡ true → hops ≡ resolve_all f hops
settled_stay f [] e = refl
settled_stay f (h ∷ []) e = ap (λ (hs : List Hop). first_seen same_hop (hs ++ [])) (itself f h e)
settled_stay f (h ∷ k ∷ []) e =
    let (each, twice) = both (is_resolved h && is_resolved k) (not (same_hop k h)) e in
    let (here, there) = both (is_resolved h) (is_resolved k) each in
    let once : h ∷ k ∷ [] ≡ first_seen same_hop (h ∷ k ∷ []) = ap (λ b. cond (b || false) (h ∷ []) (h ∷ k ∷ [])) (sym (other (same_hop k h) twice)) in
    once ∙ (λ i. first_seen same_hop (itself f h here i ++ (itself f k there i ++ [])))
settled_stay f (h ∷ k ∷ l ∷ hops) e = absurd (cc e)

entries_plain : (es fs : List Entry) (table : List Route) → list_all (λ (r : Route). list_all is_resolved r.hops) table ≡ true → entries_over es table ≡ entries_over fs table
entries_plain es fs [] e = refl
entries_plain es fs (r ∷ rs) e =
    let (here, later) = both (list_all is_resolved r.hops) (list_all (λ (q : Route). list_all is_resolved q.hops) rs) e in
    let hops = hops_plain (resolved_hops es) (resolved_hops fs) r.hops here in
    let rest = entries_plain es fs rs later in
    λ i. record { prefix = r.prefix; hops = first_seen same_hop (hops i) } ∷ rest i

-- any layer is enough for it
pub plain_layer : (table : List Route) (entries next : List Entry) → next ≡ entries_over entries table → list_all (λ (r : Route). list_all is_resolved r.hops) table ≡ true → next ≡ resolved table
unfolding more_layers
plain_layer table entries next is plain =
    is ∙ entries_plain entries [] table plain ∙ sym (layers_stay table 15 (entries_over [] table) (entries_plain (entries_over [] table) [] table plain)) ∙ all_layers table

-- ---- the order

prefixes_over : (entries : List Entry) (table : List Route) → map (λ (e : Entry). e.prefix) (entries_over entries table) ≡ map (λ (r : Route). r.prefix) table
prefixes_over entries [] = refl
prefixes_over entries (r ∷ rs) = ap (λ ps. r.prefix ∷ ps) (prefixes_over entries rs)

-- the entries of a table are in order
pub in_order_over : (entries next : List Entry) (table : List Route) → IsTable table → next ≡ entries_over entries table → All (λ (e : Entry). IsCidr e.prefix) next → IsFib next
in_order_over entries next table sorted is canonical = record {
  sorted = subst (IsStrictlySortedBy prefix_cmp) (sym (ap (map (λ (e : Entry). e.prefix)) is ∙ prefixes_over entries table)) sorted;
  canonical = canonical;
}
