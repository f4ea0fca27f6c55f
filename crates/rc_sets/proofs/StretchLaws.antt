-- A table read by its stretches.
use Rattle.std.proofs.Common.{◌≡◌, ℕ, zero, suc, ◌+◌, ◌-◌, ◌<◌, ◌≤◌, Bool, true, false, cond, refl, sym, ap, subst, ◌∙◌, arith, List, [], ◌∷◌, ◌++◌, append-nil, append_assoc, length, map, filter, take, drop, get_or}
use Rattle.std.specs.BTreeSet.{insert_key}
use Rattle.std.specs.List.{AllByRecursion, flat_map, fold, list_any}
use Rattle.std.proofs.lemmas.List.{drop-drop, drop-map, drop_more, length-map, map-append, take-append-drop, take-map}
use Rattle.std.proofs.lemmas.List.Concat.{flat_map-append}
use Rattle.std.proofs.lemmas.List.Elements.{filter-append}
use Rattle.std.proofs.Math.ListN.{drop_of_length-le}
use Rattle.rc_base.specs.Prefix.{Cidr}
use Rattle.rc_fib.specs.Entry.{Entry}
use Rattle.rc_fib.specs.Stretches.{AreStretches}
use Rattle.rc_fib.specs.declared.stretch.Stretch.{Stretch}
use Rattle.rc_route.proofs.OrderLaws.{hop_cmp_total}
use Rattle.rc_route.specs.Hops.{hop_cmp, same_hop}
use Rattle.rc_route.specs.declared.route.Hop.{Hop}
use Rattle.rc_sets.specs.Marks.{prefixes_over}
use Rattle.rc_sets.specs.Regions.{gives}
use Rattle.rc_sets.proofs.KeyLaws.{twice}

abbrev prefix_of : Entry → Cidr
prefix_of e = e.prefix

abbrev HaveHops : List Hop → List Entry → Type 0
HaveHops hops es = AllByRecursion (λ (e : Entry). e.hops ≡ hops) es

-- the next stretch is the first one of those that are left
next_is : (ss : List Stretch) (k : ℕ) (s : Stretch) → k < length ss → s ≡ get_or ss k s → drop k ss ≡ s ∷ drop (k + 1) ss
next_is ss k s less is = drop_more ss k s less ∙ ap (λ t. t ∷ drop (k + 1) ss) (sym is)

-- ---- the prefixes of the routes that give a hop

module _ (x : Hop) where
  given-append : (es fs : List Entry) → prefixes_over x (es ++ fs) ≡ prefixes_over x es ++ prefixes_over x fs
  given-append es fs = ap (map prefix_of) (filter-append (gives x) es fs) ∙ map-append prefix_of (filter (gives x) es) (filter (gives x) fs)

  -- of routes with the same hops all give it, or none does
  given_with : (hops : List Hop) (es : List Entry) → HaveHops hops es → prefixes_over x es ≡ cond (list_any (same_hop x) hops) (map prefix_of es) []
  given_with hops [] h = by (list_any (same_hop x) hops)
    where
      none : List Cidr
      none = []

      by : (b : Bool) → none ≡ cond b none none
      by true = refl
      by false = refl
  given_with hops (e ∷ es) h =
      ap (λ b. map prefix_of (cond b (e ∷ filter (gives x) es) (filter (gives x) es))) (ap (list_any (same_hop x)) h.0) ∙ by (list_any (same_hop x) hops) (given_with hops es h.1)
    where
      by : (b : Bool) → prefixes_over x es ≡ cond b (map prefix_of es) [] → map prefix_of (cond b (e ∷ filter (gives x) es) (filter (gives x) es)) ≡ cond b (map prefix_of (e ∷ es)) []
      by true later = ap (λ ps. e.prefix ∷ ps) later
      by false later = later

-- what is found of a table up to a place, the prefixes that are left, and the stretches that are left
pub record AreFound (x : Hop) (fib : List Entry) (ss : List Stretch) (from : ℕ) (left given : List Cidr) : Type 0 where
  pub routes : left ≡ map prefix_of (drop from fib)
  pub found : given ++ prefixes_over x (drop from fib) ≡ prefixes_over x fib
  pub others : AreStretches from ss (drop from fib)

pub nothing_found : (x : Hop) (fib : List Entry) (ss : List Stretch) (left given : List Cidr) → left ≡ map prefix_of fib → given ≡ [] → AreStretches 0 ss fib → AreFound x fib ss 0 left given
nothing_found x fib ss left given all none are = record { routes = all; found = ap (λ ps. ps ++ prefixes_over x fib) none; others = are }

pub all_found : (x : Hop) (fib : List Entry) (ss : List Stretch) (k from : ℕ) (left given : List Cidr) → length ss ≤ k → AreFound x fib (drop k ss) from left given → given ≡ prefixes_over x fib
all_found x fib ss k from left given le a =
    let none : drop from fib ≡ [] = subst (λ ts. AreStretches from ts (drop from fib)) (drop_of_length-le ss le) a.others in
    sym (append-nil given) ∙ ap (λ es. given ++ prefixes_over x es) (sym none) ∙ a.found

module _ (x : Hop) (fib : List Entry) (ss : List Stretch) (k from : ℕ) (left given : List Cidr) (a : AreFound x fib (drop k ss) from left given) (s : Stretch) (less : k < length ss) (is : s ≡ get_or ss k s) where
  abbrev es : List Entry
  es = drop from fib

  abbrev n : ℕ
  n = s.end - from

  others : (from < s.end) × (n ≤ length es) × HaveHops s.hops (take n es) × AreStretches s.end (drop (k + 1) ss) (drop n es)
  others = subst (λ ts. AreStretches from ts es) (next_is ss k s less is) a.others

  pub is_behind : from < s.end
  is_behind = others.0

  pub fits : n ≤ length left
  fits = subst (λ m. n ≤ m) (sym (ap length a.routes ∙ length-map es prefix_of)) others.1

  behind : drop n es ≡ drop s.end fib
  behind = let lt = others.0 in drop-drop n from fib ∙ ap (λ m. drop m fib) (let e : from + n ≡ s.end = omega arith in e)

  module _ (these rest more : List Cidr) (front : these ≡ take n left) (back : rest ≡ drop n left) (push : more ≡ given ++ cond (list_any (same_hop x) s.hops) these []) where
    here : cond (list_any (same_hop x) s.hops) these [] ≡ prefixes_over x (take n es)
    here =
        ap (λ ps. cond (list_any (same_hop x) s.hops) ps []) (front ∙ ap (take n) a.routes ∙ take-map prefix_of n es)
        ∙ sym (given_with x s.hops (take n es) others.2)

    both : prefixes_over x (take n es) ++ prefixes_over x (drop n es) ≡ prefixes_over x es
    both = sym (given-append x (take n es) (drop n es)) ∙ ap (prefixes_over x) (take-append-drop n es)

    pub more_found : AreFound x fib (drop (k + 1) ss) s.end rest more
    more_found = record {
      routes = back ∙ ap (drop n) a.routes ∙ drop-map prefix_of n es ∙ ap (map prefix_of) behind;
      found =
          (λ i. push i ++ prefixes_over x (sym behind i))
          ∙ append_assoc given (cond (list_any (same_hop x) s.hops) these []) (prefixes_over x (drop n es))
          ∙ ap (λ ps. given ++ (ps ++ prefixes_over x (drop n es))) here
          ∙ ap (λ ps. given ++ ps) both
          ∙ a.found;
      others = subst (AreStretches s.end (drop (k + 1) ss)) behind others.3;
    }

-- ---- the hops of a table

abbrev pub put : List Hop → List Hop → List Hop
put ks hs = fold (insert_key hop_cmp) ks hs

abbrev all_hops : List Entry → List Hop
all_hops es = flat_map (λ (e : Entry). e.hops) es

abbrev pub stretch_hops : List Stretch → List Hop
stretch_hops ss = flat_map (λ (s : Stretch). s.hops) ss

put-append : (ks hs gs : List Hop) → put ks (hs ++ gs) ≡ put (put ks hs) gs
put-append ks [] gs = refl
put-append ks (h ∷ hs) gs = put-append (insert_key hop_cmp ks h) hs gs

-- the hops of one stretch more
pub one_more : (ss : List Stretch) (k : ℕ) (s : Stretch) → k < length ss → s ≡ get_or ss k s → (ks more : List Hop) → more ≡ put ks s.hops → put more (stretch_hops (drop (k + 1) ss)) ≡ put ks (stretch_hops (drop k ss))
one_more ss k s less is ks more push =
    ap (λ gs. put gs (stretch_hops (drop (k + 1) ss))) push
    ∙ sym (put-append ks s.hops (stretch_hops (drop (k + 1) ss)))
    ∙ ap (λ ts. put ks (stretch_hops ts)) (sym (next_is ss k s less is))

-- routes with hops that were put in put in nothing new
again : (hops : List Hop) (es : List Entry) → HaveHops hops es → (ks : List Hop) → put (put ks hops) (all_hops es) ≡ put ks hops
again hops [] h ks = refl
again hops (e ∷ es) h ks =
    put-append (put ks hops) e.hops (all_hops es)
    ∙ ap (λ gs. put gs (all_hops es)) (ap (put (put ks hops)) h.0 ∙ twice hop_cmp hop_cmp_total hops ks)
    ∙ again hops es h.1 ks

-- so some of them put in what one does
as_one : (hops : List Hop) (n : ℕ) (es : List Entry) → 0 < n → n ≤ length es → HaveHops hops (take n es) → (ks : List Hop) → put ks (all_hops (take n es)) ≡ put ks hops
as_one hops zero es some le h ks = absurd (omega arith)
as_one hops (suc n) [] some le h ks = absurd (omega arith)
as_one hops (suc n) (e ∷ es) some le h ks =
    put-append ks e.hops (all_hops (take n es))
    ∙ ap (λ gs. put (put ks gs) (all_hops (take n es))) h.0
    ∙ again hops (take n es) h.1 ks

-- the hops of all stretches are those of all routes
pub by_stretches : (ss : List Stretch) (from : ℕ) (es : List Entry) → AreStretches from ss es → (ks : List Hop) → put ks (stretch_hops ss) ≡ put ks (all_hops es)
by_stretches [] from es none ks = ap (λ fs. put ks (all_hops fs)) (sym none)
by_stretches (s ∷ ss) from es are ks =
    let n : ℕ = s.end - from in
    let lt = are.0 in
    put-append ks s.hops (stretch_hops ss)
    ∙ by_stretches ss s.end (drop n es) are.3 (put ks s.hops)
    ∙ ap (λ gs. put gs (all_hops (drop n es))) (sym (as_one s.hops n es (omega arith) are.1 are.2 ks))
    ∙ sym (put-append ks (all_hops (take n es)) (all_hops (drop n es)))
    ∙ ap (put ks) (sym (flat_map-append (λ (e : Entry). e.hops) (take n es) (drop n es)) ∙ ap all_hops (take-append-drop n es))
