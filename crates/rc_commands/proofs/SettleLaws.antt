-- Neighbours that are settled: each keeps its address, and those that are put by rising address stand as they come.
use Rattle.std.proofs.Common.{◌≡◌, ◌∙◌, ℕ, suc, ◌<◌, ◌==◌, cond, List, [], ◌∷◌, ◌++◌, Option, Some, None, length, map, get_or, append_assoc, refl, sym, ap, subst, arith}
use Rattle.std.specs.List.{AllByRecursion}
use Rattle.std.specs.Option.{option_map}
use Rattle.std.specs.Prelude.{IfSome}
use Rattle.std.proofs.lemmas.Bool.{le-ltb, ne_eqb}
use Rattle.std.proofs.lemmas.List.{get_or-map, length-map}
use Rattle.rc_config.specs.Bgp.{address_of, settled, IsLawfulBgp}
use Rattle.rc_config.specs.ByNumber.{placed, IsByNumber}
use Rattle.rc_config.specs.Lawful.{IsLawfulFile}
use Rattle.rc_config.specs.Peering.{settled_in}
use Rattle.rc_config.specs.Update.{settled_router}
use Rattle.rc_config.specs.declared.bgp.BgpProcess.{BgpProcess}
use Rattle.rc_config.specs.declared.router_text.RouterText.{RouterText}

module _ {A : Type 0} (number : A → ℕ) where
  -- one whose number is greater than all goes last
  placed_last : (x : A) (xs : List A) → AllByRecursion (λ y. number y < number x) xs → placed number x xs ≡ xs ++ x ∷ []
  placed_last x [] below = refl
  placed_last x (y ∷ ys) below =
      let less : number y < number x = below.0 in
      ap (λ b. cond b (x ∷ y ∷ ys) (cond (number x == number y) (x ∷ ys) (y ∷ placed number x ys))) (le-ltb (number x) (number y) (omega arith))
      ∙ ap (λ b. cond b (x ∷ ys) (y ∷ placed number x ys)) (ne_eqb (number x) (number y) (λ same. (let no : ⊥ = omega arith in no)))
      ∙ ap (λ (zs : List A). y ∷ zs) (placed_last x ys below.1)

  at_middle : (xs : List A) (x d : A) (ys : List A) → get_or (xs ++ x ∷ ys) (length xs) d ≡ x
  at_middle [] x d ys = refl
  at_middle (y ∷ xs) x d ys = at_middle xs x d ys

  long_enough : (xs : List A) (x : A) (ys : List A) → length xs < length (xs ++ x ∷ ys)
  long_enough [] x ys = omega arith
  long_enough (y ∷ xs) x ys = let h = long_enough xs x ys in omega arith

  -- in order, all in front of one are lower
  lower : (xs : List A) (x : A) (ys : List A) → IsByNumber number (xs ++ x ∷ ys) → AllByRecursion (λ y. number y < number x) xs
  lower [] x ys o = tt
  lower (y ∷ xs) x ys o = (
    subst (λ (z : A). number y < number z) (at_middle xs x y ys) (o 0 (suc (length xs)) y (omega arith) (let h = long_enough xs x ys in omega arith)),
    lower xs x ys (λ i j d less within. o (suc i) (suc j) d (omega arith) (omega arith)),
  )

  -- what is put next stands in front of what is left
  pub put-next : (x : A) (xs ys : List A) → IsByNumber number (xs ++ x ∷ ys) → placed number x xs ++ ys ≡ xs ++ x ∷ ys
  put-next x xs ys o = ap (λ (zs : List A). zs ++ ys) (placed_last x xs (lower xs x ys o)) ∙ append_assoc xs (x ∷ []) ys

  -- what keeps numbers keeps the order
  pub mapped : (f : A → A) → ((x : A) → number (f x) ≡ number x) → (xs : List A) → IsByNumber number xs → IsByNumber number (map f xs)
  mapped f keeps xs o = λ i j d less within.
      let long : length (map f xs) ≡ length xs = length-map xs f in
      let first : number (get_or (map f xs) i d) ≡ number (get_or xs i d) = ap number (get_or-map f xs i d d (omega arith)) ∙ keeps (get_or xs i d) in
      let second : number (get_or (map f xs) j d) ≡ number (get_or xs j d) = ap number (get_or-map f xs j d d (omega arith)) ∙ keeps (get_or xs j d) in
      let up : number (get_or xs i d) < number (get_or xs j d) = o i j d less (omega arith) in
      omega arith

  module _ (f : A → A) (keeps : (x : A) → number (f x) ≡ number x) where
    pub begin-all : (settled left all : List A) → settled ≡ [] → left ≡ all → settled ++ map f left ≡ map f all
    begin-all settled left all none is = λ i. none i ++ map f (is i)

    pub begin-order : (settled left all : List A) → settled ≡ [] → left ≡ all → IsByNumber number all → IsByNumber number (settled ++ map f left)
    begin-order settled left all none is o = subst (IsByNumber number) (sym (begin-all settled left all none is)) (mapped f keeps all o)

    next-same : (settled more left rest : List A) (x y : A) → left ≡ x ∷ rest → y ≡ f x → more ≡ placed number y settled → IsByNumber number (settled ++ map f left) → more ++ map f rest ≡ settled ++ map f left
    next-same settled more left rest x y is made put o =
        let o' : IsByNumber number (settled ++ f x ∷ map f rest) = subst (λ (l : List A). IsByNumber number (settled ++ map f l)) is o in
        ap (λ (m : List A). m ++ map f rest) (put ∙ ap (λ (z : A). placed number z settled) made)
        ∙ put-next (f x) settled (map f rest) o'
        ∙ ap (λ (l : List A). settled ++ map f l) (sym is)

    pub next-all : (settled more left rest whole : List A) (x y : A) → left ≡ x ∷ rest → y ≡ f x → more ≡ placed number y settled → IsByNumber number (settled ++ map f left) → settled ++ map f left ≡ whole → more ++ map f rest ≡ whole
    next-all settled more left rest whole x y is made put o all = next-same settled more left rest x y is made put o ∙ all

    pub next-order : (settled more left rest : List A) (x y : A) → left ≡ x ∷ rest → y ≡ f x → more ≡ placed number y settled → IsByNumber number (settled ++ map f left) → IsByNumber number (more ++ map f rest)
    next-order settled more left rest x y is made put o = subst (IsByNumber number) (sym (next-same settled more left rest x y is made put o)) o

-- a router stays lawful when its neighbours are settled
settled-bgp : (bgp : Option BgpProcess) → IfSome bgp IsLawfulBgp → IfSome (option_map settled bgp) IsLawfulBgp
settled-bgp None h = tt
settled-bgp (Some p) h = record {
  asn = h.asn;
  external_paths = h.external_paths;
  internal_paths = h.internal_paths;
  in_order = mapped address_of (settled_in p.peering) (λ n. refl) p.neighbors h.in_order;
}

pub settled_lawful : (r : RouterText) → IsLawfulFile r → IsLawfulFile (settled_router r)
settled_lawful r h = record {
  has_host = h.has_host;
  few = h.few;
  interfaces = h.interfaces;
  static_routes = h.static_routes;
  lists = record { access_lists = h.lists.access_lists; prefix_lists = h.lists.prefix_lists; route_maps = h.lists.route_maps };
  ospf = h.ospf;
  bgp = settled-bgp r.bgp h.bgp;
}
