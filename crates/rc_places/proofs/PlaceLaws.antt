-- Places and positions are one to one.
use Rattle.std.proofs.Common.{refl, ◌≡◌, ap, sym, ◌∙◌, subst, ℕ, zero, suc, ◌+◌, ◌-◌, ◌*◌, ◌≤◌, ◌<◌, List, [], ◌∷◌, ◌++◌, map, length, slice_index_or, All, ⊎_elim, append_assoc, append-nil, arith}
use Rattle.std.specs.Prelude.{slice_get, flat_map}
use Rattle.std.specs.List.{range_with_len}
use Rattle.std.specs.Option.{option_map, option_map_or}
use Rattle.std.proofs.lemmas.Bool.{cases_lt}
use Rattle.std.proofs.lemmas.List.{length-append, length-map, map-append, get_or_append_left, get_or-append_right}
use Rattle.std.proofs.lemmas.List.Elements.{All-head, All-tail}
use Rattle.std.proofs.lemmas.List.FromFn.{length-map-range_with_len, get_or-map-range_with_len, map-range_with_len_more}
use Rattle.rc_base.specs.declared.position.IfId.{IfId}
use Rattle.rc_base.specs.declared.position.Pos.{Pos}
use Rattle.rc_base.specs.declared.position.Pos.TheVariants.{Own, Entering}
use Rattle.rc_config.specs.Lawful.{IsLawful, IsLawfulFile, IsPosition}
use Rattle.rc_config.specs.Members.{interface_ids, interfaces_of, positions, router_ids}
use Rattle.rc_config.specs.declared.network.Network.{Network}
use Rattle.rc_config.specs.declared.router_text.RouterText.{RouterText}
use Rattle.rc_places.specs.Places.{number_of, position_at, positions_of, start_of}

-- ---- lists that are strung together, one for each number

module _ {A : Type 0} (F : ℕ → List A) where
  abbrev strung : ℕ → ℕ → List A
  strung a n = flat_map F (range_with_len a n)

  -- an element of the r-th list stands behind the lists before it
  pub strung-at : (n a r b : ℕ) (j : ℕ) (d : A) → b ≡ a + r → r < n → j < length (F b) → (length (strung a r) + j < length (strung a n)) × (slice_index_or (strung a n) (length (strung a r) + j) d ≡ slice_index_or (F b) j d)
  strung-at zero a r b j d e less fits = absurd (omega arith)
  strung-at (suc n) a zero b j d e less fits =
      let same : b ≡ a = omega arith in
      let here : j < length (F a) = subst (λ c. j < length (F c)) same fits in
      let zero-at : 0 + j ≡ j = omega arith in (
        omega (arith, length-append (F a) (strung (a + 1) n)),
        ap (λ k. slice_index_or (strung a (suc n)) k d) zero-at ∙ get_or_append_left (F a) (strung (a + 1) n) d j here ∙ ap (λ c. slice_index_or (F c) j d) (sym same),
      )
  strung-at (suc n) a (suc r) b j d e less fits =
      let later = strung-at n (a + 1) r b j d (omega arith) (omega arith) fits in
      let front = length-append (F a) (strung (a + 1) r) in
      let all = length-append (F a) (strung (a + 1) n) in
      let low : length (F a) ≤ length (strung a (suc r)) + j = omega arith in
      let back : length (strung a (suc r)) + j - length (F a) ≡ length (strung (a + 1) r) + j = omega arith in (
        omega (arith, later.0),
        get_or-append_right (F a) (strung (a + 1) n) (length (F a)) (length (strung a (suc r)) + j) d refl low ∙ ap (λ k. slice_index_or (strung (a + 1) n) k d) back ∙ later.1,
      )

  -- and each place is one of such an element
  pub record IsWithin (a n p : ℕ) : Type 0 where
    pub list : ℕ
    pub place : ℕ
    pub fits : list < n
    pub inside : place < length (F (a + list))
    pub is : p ≡ length (strung a list) + place

  pub within : (n a p : ℕ) → p < length (strung a n) → IsWithin a n p
  within zero a p less = absurd (omega arith)
  within (suc n) a p less =
      let all = length-append (F a) (strung (a + 1) n) in
      ⊎_elim (λ low. record {
        list = 0;
        place = p;
        fits = omega arith;
        inside = (let e : a ≡ a + 0 = omega arith in subst (λ c. p < length (F c)) e low);
        is = omega arith;
      })
      (λ high.
      let w = within n (a + 1) (p - length (F a)) (omega arith) in
      let f = w.fits in let is = w.is in
      let next : (a + 1) + w.list ≡ a + suc w.list = omega arith in
      record {
        list = suc w.list;
        place = w.place;
        fits = omega arith;
        inside = subst (λ c. w.place < length (F c)) next w.inside;
        is = omega (arith, length-append (F a) (strung (a + 1) w.list));
      }) (cases_lt p (length (F a)))

  -- one list more
  pub strung-more : (n a b : ℕ) → b ≡ a + n → strung a (suc n) ≡ strung a n ++ F b
  strung-more zero a b e = append-nil (F a) ∙ ap F (let same : a ≡ b = omega arith in same)
  strung-more (suc n) a b e = ap (λ xs. F a ++ xs) (strung-more n (a + 1) b (omega arith)) ∙ sym (append_assoc (F a) (strung (a + 1) n) (F b))

  pub strung-few : (n a : ℕ) → ((k : ℕ) → length (F k) ≤ 257) → length (strung a n) ≤ 257 * n
  strung-few zero a few = omega arith
  strung-few (suc n) a few =
      let later = strung-few n (a + 1) few in
      let here = few a in
      let all = length-append (F a) (strung (a + 1) n) in
      omega arith

-- ---- the positions of a router

at-map : {A B : Type 0} (g : A → B) (xs : List A) (i : ℕ) (d : B) (e : A) → i < length xs → slice_index_or (map g xs) i d ≡ g (slice_index_or xs i e)
at-map g [] i d e less = absurd (omega arith)
at-map g (x ∷ xs) zero d e less = refl
at-map g (x ∷ xs) (suc i) d e less = at-map g xs i d e (omega arith)

few_interfaces : (xs : List (List ℕ × RouterText)) → All (λ e. IsLawfulFile e.1) xs → (k : ℕ) → length (option_map_or (λ (text : RouterText). text.interfaces) (option_map (λ e. e.1) (slice_get xs k)) []) ≤ 256
few_interfaces [] all k = omega arith
few_interfaces (x ∷ xs) all zero = (All-head (λ e. IsLawfulFile e.1) x xs all).few
few_interfaces (x ∷ xs) all (suc k) = few_interfaces xs (All-tail (λ e. IsLawfulFile e.1) x xs all) k

abbrev of_router : ℕ → ℕ → IfId
of_router r i = record { router = r; index = i }

module _ (net : Network) where
  length-ids : (r : ℕ) → length (interface_ids net r) ≡ length (interfaces_of net r)
  length-ids r = length-map-range_with_len (of_router r) 0 (length (interfaces_of net r))

  length-own : (r : ℕ) → length (positions_of net r) ≡ length (interfaces_of net r) + 1
  length-own r = let ids = length-ids r in let all = length-map (interface_ids net r) Entering in omega arith

  entering-at : (r i : ℕ) (d : Pos) → i < length (interfaces_of net r) → slice_index_or (map Entering (interface_ids net r)) i d ≡ Entering (of_router r i)
  entering-at r i d less =
      let ids = length-ids r in
      at-map Entering (interface_ids net r) i d (of_router r i) (omega arith) ∙ ap Entering (get_or-map-range_with_len (of_router r) 0 (length (interfaces_of net r)) i i (of_router r i) less (omega arith))

  number-own : (r j : ℕ) (d : Pos) → j < length (positions_of net r) → number_of net (slice_index_or (positions_of net r) j d) ≡ start_of net r + j
  number-own r zero d less = omega arith
  number-own r (suc i) d less =
      let all = length-own r in
      let e = ap (number_of net) (entering-at r i d (omega arith)) in
      e ∙ (let next : i + 1 ≡ suc i = omega arith in ap (λ k. start_of net r + k) next)

  -- a position has a place, and stands there
  pub number_there : (q : Pos) → IsPosition net q → (number_of net q < length (positions net)) × (position_at net (number_of net q) ≡ q)
  number_there (Own r) there =
      let own = length-own r in
      let at = strung-at (positions_of net) (length net.routers) 0 r r 0 (Own 0) (omega arith) there (omega arith) in
      let e : start_of net r + 0 ≡ start_of net r = omega arith in
      (subst (λ n. n < length (positions net)) e at.0, subst (λ n. position_at net n ≡ Own r) e at.1)
  number_there (Entering i) there =
      let own = length-own i.router in
      let inside = there.1 in
      let at = strung-at (positions_of net) (length net.routers) 0 i.router i.router (suc i.index) (Own 0) (omega arith) there.0 (omega arith) in
      let e : start_of net i.router + suc i.index ≡ number_of net (Entering i) = omega arith in
      (subst (λ n. n < length (positions net)) e at.0, subst (λ n. position_at net n ≡ Entering i) e (at.1 ∙ entering-at i.router i.index (Own 0) inside))

  -- a place is that of its position alone
  pub number_at : (p : ℕ) → p < length (positions net) → number_of net (position_at net p) ≡ p
  number_at p less =
      let w = within (positions_of net) (length net.routers) 0 p less in
      let zero-at : 0 + w.list ≡ w.list = omega arith in
      let inside : w.place < length (positions_of net w.list) = subst (λ r. w.place < length (positions_of net r)) zero-at w.inside in
      let at = strung-at (positions_of net) (length net.routers) 0 w.list w.list w.place (Own 0) (sym zero-at) w.fits inside in
      ap (number_of net) (ap (position_at net) w.is ∙ at.1) ∙ number-own w.list w.place (Own 0) inside ∙ sym w.is

  -- a lawful network has at most 131,584 positions
  pub few_positions : IsLawful net → length (positions net) ≤ 131584
  few_positions lawful =
      let few = lawful.few in
      let all = strung-few (positions_of net) (length net.routers) 0 (λ r. let own = length-own r in let here = few_interfaces net.routers lawful.each r in omega arith) in
      omega arith

  -- where the positions of each router begin
  module _ (starts : List ℕ) (is : starts ≡ map (start_of net) (router_ids net)) (r : ℕ) (there : r < length net.routers) where
    pub start-there : r < length starts
    start-there = let long = ap length is in let count = length-map-range_with_len (start_of net) 0 (length net.routers) in omega arith

    pub start-at : (d : ℕ) → slice_index_or starts r d ≡ start_of net r
    start-at d = ap (λ xs. slice_index_or xs r d) is ∙ get_or-map-range_with_len (start_of net) 0 (length net.routers) r r d there (omega arith)

-- one router more
pub positions-more : (net : Network) (n : ℕ) (all more : List Pos) → all ≡ flat_map (positions_of net) (range_with_len 0 n) → more ≡ all ++ positions_of net n → more ≡ flat_map (positions_of net) (range_with_len 0 (n + 1))
positions-more net n all more e is =
    let next : suc n ≡ n + 1 = omega arith in
    is ∙ ap (λ xs. xs ++ positions_of net n) e ∙ sym (strung-more (positions_of net) n 0 n (omega arith)) ∙ ap (λ k. flat_map (positions_of net) (range_with_len 0 k)) next

pub starts-more : (net : Network) (n : ℕ) (all : List Pos) (starts more : List ℕ) → all ≡ flat_map (positions_of net) (range_with_len 0 n) → starts ≡ map (start_of net) (range_with_len 0 n) → more ≡ starts ++ length all ∷ [] → more ≡ map (start_of net) (range_with_len 0 (n + 1))
starts-more net n all starts more e is push =
    push ∙ (λ i. is i ++ length (e i) ∷ []) ∙ sym (map-range_with_len_more (start_of net) 0 n n (omega arith))

-- one interface more
pub entering-more : (before all more : List Pos) (r n : ℕ) → all ≡ before ++ (Own r ∷ map Entering (map (of_router r) (range_with_len 0 n))) → more ≡ all ++ Entering (record { router = r; index = n }) ∷ [] → more ≡ before ++ (Own r ∷ map Entering (map (of_router r) (range_with_len 0 (n + 1))))
entering-more before all more r n is push =
    push ∙ ap (λ xs. xs ++ Entering (of_router r n) ∷ []) is
    ∙ append_assoc before (Own r ∷ map Entering (map (of_router r) (range_with_len 0 n))) (Entering (of_router r n) ∷ [])
    ∙ ap (λ xs. before ++ (Own r ∷ xs)) (sym (map-append Entering (map (of_router r) (range_with_len 0 n)) (of_router r n ∷ [])) ∙ ap (map Entering) (sym (map-range_with_len_more (of_router r) 0 n n (omega arith))))
