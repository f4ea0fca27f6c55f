-- What tables are merged of is in order.
use Rattle.std.proofs.Common.{refl, ◌≡◌, ap, sym, ◌∙◌, subst, ℕ, Bool, true, false, not, cond, List, [], ◌∷◌, ◌++◌, map, filter, All, Option, Some, None, append_assoc}
use Rattle.std.specs.List.{AllByRecursion, cons_option, filter_map, slice_get}
use Rattle.std.specs.List.Sorted.{IsStrictlySortedBy}
use Rattle.std.specs.Option.{option_map, option_map_or, unwrap_or}
use Rattle.std.specs.declared.cmp.Ordering.TheVariants.{Less}
use Rattle.std.proofs.lemmas.Option.{none-some, slice_get_within, get_or_from_slice_get}
use Rattle.rc_base.specs.Lists.{in_order}
use Rattle.rc_base.specs.Prefix.{Cidr, prefix_cmp}
use Rattle.rc_base.proofs.OrderedLaws.{in_order-sorted, prefix_cmp_total}
use Rattle.rc_bgp.proofs.PrefixLaws.{made_in_order}
use Rattle.rc_bgp.specs.RouterStates.{table_of}
use Rattle.rc_bgp.specs.Learning.{learned_by, learned_route}
use Rattle.rc_external.specs.Externals.{IsByPrefix}
use Rattle.rc_external.specs.Routes.{external_routes, external_route_over, external_route_to}
use Rattle.rc_external.specs.Ways.{best_external_way}
use Rattle.rc_external.specs.declared.as_external.ExternalRow.{ExternalRow}
use Rattle.rc_external.specs.declared.cost.ExternalCost.{ExternalCost}
use Rattle.rc_ospf.specs.BoundaryPaths.{BoundaryPath}
use Rattle.rc_ospf.specs.Internal.{advertises, boundaries_of}
use Rattle.rc_ospf.specs.declared.model.Internal.{Internal as InternalRoutes}
use Rattle.rc_route.specs.Tables.{IsBestList, IsTable}
use Rattle.rc_route.specs.Ways.{Way}
use Rattle.rc_route.specs.declared.best.Best.{Best}
use Rattle.rc_route.specs.declared.path.PathSource.{PathSource}
use Rattle.rc_route.specs.declared.path.PathSource.TheVariants.{Network, Connected, Static, Ospf, External, Internal}
use Rattle.rc_route.specs.declared.route.Route.{Route}
use Rattle.rc_route.specs.declared.state.RouterState.{RouterState}
use Rattle.rc_rib.specs.Best.{best_routes}
use Rattle.rc_rib.specs.Merging.{merged}
use Rattle.rc_rib.specs.Next.{learned_routes, to_others}
use Rattle.rc_rib.specs.Offers.{prefix_of}
use Rattle.rc_rib.specs.Static.{lines_at, static_route, static_routes}
use Rattle.rc_rib.specs.declared.active.ActiveLine.{ActiveLine}
use Rattle.rc_rib.proofs.MergingLaws.{merged_is_best, two_merged}

-- ---- static routes

static_prefix : (p : Cidr) (lines : List ActiveLine) (x : Route) → static_route p lines ≡ Some x → x.prefix ≡ p
static_prefix p [] x e = absurd (none-some x e)
static_prefix p (l ∷ ls) x e = sym (ap (λ (o : Option Route). prefix_in o) e)
  where
    prefix_in : Option Route → Cidr
    prefix_in None = p
    prefix_in (Some y) = y.prefix

pub static_is_table : (lines : List ActiveLine) → IsTable (static_routes lines)
unfolding static_routes
static_is_table lines =
    made_in_order prefix_of (λ p. static_route p (lines_at p lines)) (λ p x e. static_prefix p (lines_at p lines) x e) (in_order prefix_cmp (map (λ (l : ActiveLine). l.prefix) lines))
    (in_order-sorted prefix_cmp prefix_cmp_total (map (λ (l : ActiveLine). l.prefix) lines))

-- ---- what keeps prefixes, or leaves some out, keeps the order

module _ {A B : Type 0} (prefix_a : A → Cidr) (prefix_b : B → Cidr) (f : A → Option B) (keeps : (x : A) (y : B) → f x ≡ Some y → prefix_b y ≡ prefix_a x) where
  pub all_kept : (P : Cidr → Type 0) (xs : List A) → AllByRecursion P (map prefix_a xs) → AllByRecursion P (map prefix_b (filter_map f xs))
  all_kept P [] all = tt
  all_kept P (x ∷ xs) all = by (f x) refl (all_kept P xs all.1)
    where
      by : (o : Option B) → f x ≡ o → AllByRecursion P (map prefix_b (filter_map f xs)) → AllByRecursion P (map prefix_b (cons_option o (filter_map f xs)))
      by None e rest = rest
      by (Some y) e rest = (subst P (sym (keeps x y e)) all.0, rest)

  kept_in_order : (xs : List A) → IsStrictlySortedBy prefix_cmp (map prefix_a xs) → IsStrictlySortedBy prefix_cmp (map prefix_b (filter_map f xs))
  unfolding IsStrictlySortedBy
  kept_in_order [] up = tt
  kept_in_order (x ∷ xs) up = by (f x) refl (kept_in_order xs up.1)
    where
      by : (o : Option B) → f x ≡ o → IsStrictlySortedBy prefix_cmp (map prefix_b (filter_map f xs)) → IsStrictlySortedBy prefix_cmp (map prefix_b (cons_option o (filter_map f xs)))
      by None e rest = rest
      by (Some y) e rest = (subst (λ p. AllByRecursion (λ q. prefix_cmp p q ≡ Less) (map prefix_b (filter_map f xs))) (sym (keeps x y e)) (all_kept (λ q. prefix_cmp (prefix_a x) q ≡ Less) xs up.0), rest)

all_left : (P : Cidr → Type 0) (p : Route → Bool) (xs : List Route) → AllByRecursion P (map prefix_of xs) → AllByRecursion P (map prefix_of (filter p xs))
all_left P p [] all = tt
all_left P p (x ∷ xs) all = by (p x) (all_left P p xs all.1)
  where
    by : (b : Bool) → AllByRecursion P (map prefix_of (filter p xs)) → AllByRecursion P (map prefix_of (cond b (x ∷ filter p xs) (filter p xs)))
    by true rest = (all.0, rest)
    by false rest = rest

left_in_order : (p : Route → Bool) (xs : List Route) → IsTable xs → IsTable (filter p xs)
unfolding IsStrictlySortedBy
left_in_order p [] up = tt
left_in_order p (x ∷ xs) up = by (p x) (left_in_order p xs up.1)
  where
    by : (b : Bool) → IsTable (filter p xs) → IsTable (cond b (x ∷ filter p xs) (filter p xs))
    by true rest = (all_left (λ q. prefix_cmp x.prefix q ≡ Less) p xs up.0, rest)
    by false rest = rest

-- ---- learned routes

pub learned_prefix : (b : Best) (y : Route) → learned_route b ≡ Some y → y.prefix ≡ b.path.prefix
learned_prefix b y e = by b.path.source e
  where
    prefix_in : Option Route → Cidr
    prefix_in None = b.path.prefix
    prefix_in (Some y) = y.prefix

    by : (s : PathSource) → learned_by b s ≡ Some y → y.prefix ≡ b.path.prefix
    by Network e = absurd (none-some y e)
    by Connected e = absurd (none-some y e)
    by Static e = absurd (none-some y e)
    by Ospf e = absurd (none-some y e)
    by External e = sym (ap prefix_in e)
    by Internal e = sym (ap prefix_in e)

pub learned_in_order : (paths : List Best) → IsBestList paths → IsTable (learned_routes paths)
learned_in_order paths up = kept_in_order (λ (b : Best). b.path.prefix) prefix_of learned_route learned_prefix paths up

-- ---- of lists in order each is, also past the end

pub at_in_order : {A : Type 0} (P : List A → Type 0) → P [] → (all : List (List A)) (r : ℕ) → All P all → P (unwrap_or (slice_get all r) [])
at_in_order {A} P none all r each = by (slice_get all r) refl
  where
    by : (o : Option (List A)) → slice_get all r ≡ o → P (unwrap_or o [])
    by None is = none
    by (Some xs) is = subst P (get_or_from_slice_get all r xs xs is) (each r xs (slice_get_within all r xs is))

pub none_is_table : IsTable []
unfolding IsStrictlySortedBy
none_is_table = tt

-- ---- what a router knows of itself

pub table_is : (state : List RouterState) (r : ℕ) (s : RouterState) → Some s ≡ slice_get state r → s.table ≡ table_of state r
table_is state r s is = ap (λ (o : Option RouterState). option_map_or (λ (s : RouterState). s.table) o []) is

pub no_table : (state : List RouterState) (r : ℕ) → None ≡ slice_get state r → [] ≡ table_of state r
no_table state r is = ap (λ (o : Option RouterState). option_map_or (λ (s : RouterState). s.table) o []) is

-- ---- routes to others

pub others_in_order : (internal : InternalRoutes) (r : ℕ) (routes others : List Route) → others ≡ to_others internal r routes → IsTable routes → IsTable others
others_in_order internal r routes others is up = subst IsTable (sym is) (left_in_order (λ (x : Route). not (advertises internal r x.prefix)) routes up)

external_prefix : (paths : List BoundaryPath) (row : ExternalRow) (y : Route) → external_route_to paths row ≡ Some y → y.prefix ≡ row.prefix
external_prefix paths row y e = by (best_external_way paths row.externals) e
  where
    prefix_in : Option Route → Cidr
    prefix_in None = row.prefix
    prefix_in (Some y) = y.prefix

    by : (w : Option (Way ExternalCost)) → option_map (external_route_over row.prefix) w ≡ Some y → y.prefix ≡ row.prefix
    by None e = absurd (none-some y e)
    by (Some w) e = sym (ap prefix_in e)

pub outside_in_order : (internal : InternalRoutes) (rows : List ExternalRow) (r : ℕ) → IsByPrefix rows → IsTable (to_others internal r (external_routes internal rows r))
outside_in_order internal rows r up =
    left_in_order (λ (x : Route). not (advertises internal r x.prefix)) (external_routes internal rows r)
    (kept_in_order (λ (row : ExternalRow). row.prefix) prefix_of (external_route_to (boundaries_of internal r)) (external_prefix (boundaries_of internal r)) rows up)

-- ---- all merged, one after another

pub five_merged : (c s l i o : List Route) → IsTable c → IsTable s → IsTable l → IsTable i → IsTable o
    → merged (merged (merged (merged c s) l) i) o ≡ best_routes (c ++ (s ++ (l ++ (i ++ o))))
five_merged c s l i o up-c up-s up-l up-i up-o =
    ap (λ t. merged (merged (merged t l) i) o) (two_merged c s up-c up-s)
    ∙ ap (λ t. merged (merged t i) o) (merged_is_best (c ++ s) l up-l)
    ∙ ap (λ t. merged t o) (merged_is_best ((c ++ s) ++ l) i up-i)
    ∙ merged_is_best (((c ++ s) ++ l) ++ i) o up-o
    ∙ ap best_routes (append_assoc ((c ++ s) ++ l) i o ∙ append_assoc (c ++ s) l (i ++ o) ∙ append_assoc c s (l ++ (i ++ o)))
