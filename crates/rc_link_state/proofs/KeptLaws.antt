-- What is kept of an area.
use Rattle.std.proofs.Common.{refl, ◌≡◌, ap, sym, ◌∙◌, subst, ℕ, ◌+◌, ◌<◌, inl, inr, Bool, true, false, cond, ◌&&◌, nat_lt, List, [], ◌∷◌, ◌++◌, map, set, take, length, get_or, All, Contains, arith, eq-eqb, append_assoc}
use Rattle.std.specs.Prelude.{◌==◌}
use Rattle.std.specs.List.{slice_index_or}
use Rattle.std.proofs.lemmas.Bool.{cases_eq}
use Rattle.std.proofs.lemmas.Bool.Decides.{nat_tests}
use Rattle.std.proofs.lemmas.List.{get_or-set_same, get_or-set_other, length-set, map-append, take_more}
use Rattle.std.proofs.lemmas.List.Elements.{All-append, Contains-push_cases, Contains-get_or}
use Rattle.rc_link_state.specs.declared.end.End.{End}
use Rattle.rc_link_state.specs.declared.step.Step.{Step}
use Rattle.rc_link_state.specs.declared.table.AreaWalks.{AreaWalks}
use Rattle.rc_link_state.specs.declared.transit.Transit.{Transit}
use Rattle.rc_link_state.specs.Areas.{IsLeavingOne, HasEnds, with_end}
use Rattle.rc_link_state.specs.Kept.{area_of}
use Rattle.rc_link_state.specs.Graph.{AreOf, CostLittle, steps_in, transits_in}
use Rattle.rc_link_state.proofs.Members.{contains_in, in_contains, of_filter}
use Rattle.rc_link_state.proofs.WholeLaws.{and_true}

-- ---- the steps and networks of one area among all

own_step : (area : ℕ) (listed own : List Step) → own ≡ steps_in area listed → (x : Step) → Contains own x → Contains listed x
own_step area listed own is x has =
    in_contains listed x (of_filter (λ (y : Step). y.area == area) listed x (contains_in (steps_in area listed) x (subst (λ l. Contains l x) is has))).0

own_network : (area : ℕ) (transits own : List Transit) → own ≡ transits_in area transits → (t : Transit) → Contains own t → Contains transits t
own_network area transits own is t has =
    in_contains transits t (of_filter (λ (u : Transit). u.area == area) transits t (contains_in (transits_in area transits) t (subst (λ l. Contains l t) is has))).0

module _ (n area : ℕ) (listed own : List Step) (transits networks : List Transit) (is : own ≡ steps_in area listed) (are : networks ≡ transits_in area transits) where
  pub own_of : AreOf n listed transits → AreOf n own networks
  own_of of = record {
    leave = λ x has. of.leave x (own_step area listed own is x has);
    arrive = λ x has. of.arrive x (own_step area listed own is x has);
    attach = λ t i has has_i. of.attach t i (own_network area transits networks are t has) has_i;
  }

  pub own_little : CostLittle listed transits → CostLittle own networks
  own_little little = record {
    step = λ x has. little.step x (own_step area listed own is x has);
    interface = λ t i has has_i. little.interface t i (own_network area transits networks are t has) has_i;
  }

pub leaving_ones : (n area : ℕ) (listed own : List Step) (transits : List Transit) → own ≡ steps_in area listed → AreOf n listed transits → All (IsLeavingOne n) own
leaving_ones n area listed own transits is of k d lt = of.leave (get_or own k d) (own_step area listed own is (get_or own k d) (Contains-get_or own k d lt))

-- ---- ends that are wanted

still : (area : ℕ) (wanted : List Bool) (x : End) (k : ℕ) → slice_index_or wanted k false ≡ true → slice_index_or (with_end area wanted x) k false ≡ true
still area wanted x k is = by ((x.area == area) && nat_lt x.router (length wanted)) refl
  where
    by : (b : Bool) → ((x.area == area) && nat_lt x.router (length wanted)) ≡ b → slice_index_or (cond b (set wanted x.router true) wanted) k false ≡ true
    by false told = is
    by true told = elim (cases_eq k x.router) [
      | inl same ↦ (let lt : x.router < length wanted = grind (arith, nat_tests, told) in ap (λ j. slice_index_or (set wanted x.router true) j false) same ∙ get_or-set_same wanted x.router true false lt)
      | inr other ↦ get_or-set_other wanted x.router k true false other ∙ is
    ]

pub same_length : (area : ℕ) (wanted : List Bool) (x : End) → length (with_end area wanted x) ≡ length wanted
same_length area wanted x = by ((x.area == area) && nat_lt x.router (length wanted))
  where
    by : (b : Bool) → length (cond b (set wanted x.router true) wanted) ≡ length wanted
    by false = refl
    by true = length-set wanted x.router true

here : (area : ℕ) (wanted : List Bool) (x : End) → x.area ≡ area → x.router < length wanted → slice_index_or (with_end area wanted x) x.router false ≡ true
here area wanted x same lt =
    let test : nat_lt x.router (length wanted) ≡ true = grind (arith, nat_tests, lt) in
    ap (λ b. slice_index_or (cond b (set wanted x.router true) wanted) x.router false) (and_true (x.area == area) (nat_lt x.router (length wanted)) (eq-eqb x.area area same) test)
    ∙ get_or-set_same wanted x.router true false lt

pub no_ends : (area : ℕ) (wanted : List Bool) → HasEnds area [] wanted
no_ends area wanted = record { has = λ e there. absurd (let (k, bad, same) = there in omega (arith, bad)) }

pub one_end_more : (area : ℕ) (ends : List End) (i : ℕ) (d : End) (wanted new : List Bool) → i < length ends → HasEnds area (take i ends) wanted → new ≡ with_end area wanted (get_or ends i d) →
    HasEnds area (take (i + 1) ends) new
one_end_more area ends i d wanted new lt has is =
    let x : End = get_or ends i d in
    subst (HasEnds area (take (i + 1) ends)) (sym is) (subst (λ es. HasEnds area es (with_end area wanted x)) (sym (take_more ends i d lt)) (record {
      has = λ e there in_area in_range.
          (let lt : e.router < length wanted = let same : length (with_end area wanted x) ≡ length wanted = same_length area wanted x in omega (arith, same, in_range) in
          elim (Contains-push_cases (take i ends) x e there) [
            | inl old ↦ still area wanted x e.router (has.has e old in_area lt)
            | inr same ↦ subst (λ (y : End). slice_index_or (with_end area wanted x) y.router false ≡ true) same
                (here area wanted x (ap (λ (y : End). y.area) same ∙ in_area) (subst (λ (y : End). y.router < length wanted) (sym same) lt))
          ]);
    }))

-- ---- one area more

pub one_area_more : (P : AreaWalks → Type 0) (walks pushed : List AreaWalks) (w : AreaWalks) → pushed ≡ walks ++ w ∷ [] → All P walks → P w → All P pushed
one_area_more P walks pushed w is all last = subst (All P) (sym is) (All-append P walks (w ∷ []) all (λ k d less. let first : k ≡ 0 = omega (arith, less) in rw first last))

pub one_number_more : (walks pushed : List AreaWalks) (w : AreaWalks) (area : ℕ) (it rest areas : List ℕ) → pushed ≡ walks ++ w ∷ [] → w.area ≡ area → it ≡ area ∷ rest →
    map area_of walks ++ it ≡ areas → map area_of pushed ++ rest ≡ areas
one_number_more walks pushed w area it rest areas is same next all =
    ap (λ ws. map area_of ws ++ rest) is ∙ ap (λ l. l ++ rest) (map-append area_of walks (w ∷ [])) ∙ append_assoc (map area_of walks) (w.area ∷ []) rest
    ∙ ap (λ a. map area_of walks ++ a ∷ rest) same ∙ sym (ap (λ l. map area_of walks ++ l) next) ∙ all
