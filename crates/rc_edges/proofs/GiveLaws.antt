-- What a hop gives towards one interface, step by step.
use Rattle.std.proofs.Common.{refl, ◌≡◌, ap, sym, ◌∙◌, subst, ℕ, ◌==◌, Bool, true, false, not, ◌&&◌, cond, List, [], ◌∷◌, ◌++◌, append_assoc, length, Some, inr, Result, Ok, Err, IfOk}
use Rattle.std.proofs.lemmas.Bool.{eq-eqb}
use Rattle.rc_base.proofs.KeepLaws.{In}
use Rattle.rc_base.specs.declared.addr.Addr.{Addr}
use Rattle.rc_base.specs.declared.position.IfId.{IfId}
use Rattle.rc_base.specs.declared.position.Pos.{Pos}
use Rattle.rc_bdd.specs.declared.work.SetError.{SetError}
use Rattle.rc_router_sets.proofs.JoinLaws.{front, piece}
use Rattle.rc_edges.proofs.RowLaws.{row_kept}
use Rattle.rc_router_sets.specs.Edges.{onto_link, takes, towards, union}
use Rattle.rc_edges.specs.Given.{Gives, IsRow, MayGet, MayGive, joined, leads_onto, with_sets}
use Rattle.rc_router_sets.specs.Sent.{leaving}
use Rattle.rc_router_sets.specs.Steps.{device}
use Rattle.rc_edges.specs.declared.outgoing.Row.{Row}
use Rattle.rc_nodes.specs.Seats.{TableView, SeatView, Keeps, SeatKnows}
use Rattle.rc_route.specs.declared.route.Hop.{Hop}
use Rattle.rc_route.specs.declared.route.Hop.TheVariants.{Dev, Via}
use Rattle.rc_topology.specs.Links.{are_linked, port_is}
use Rattle.rc_topology.specs.Ports.{is_loopback}
use Rattle.rc_trees.proofs.PartLaws.{fold-each}
use Rattle.rc_trees.specs.Recipes.{Recipe, given, parts, tree}
use Rattle.rc_trees.specs.Trees.{never, HasNodes}
use Rattle.rc_moves.specs.Moves.{DataPlane}

-- ---- what may be given

in-behind : {A : Type 0} (x : A) (xs ys : List A) → In x ys → In x (xs ++ ys)
in-behind x [] ys there = there
in-behind x (y ∷ xs) ys there = inr (in-behind x xs ys there)

module _ (nodes : TableView) (v : SeatView) (row : Row) (onto : ℕ) where
  -- each of the sets
  pub get_each : (sets : List Recipe) → MayGet nodes v row onto sets → (s : Recipe) → In s sets → HasNodes nodes.may (parts s)
  get_each sets m s there = piece nodes.may (union (m.given onto ++ sets)) s (fold-each (λ s. s) (given never) (m.given onto ++ sets) s (in-behind s (m.given onto) sets there)) m.allowed

  -- the first of them
  pub get_front : (sets : List Recipe) (s : Recipe) (ss : List Recipe) → sets ≡ s ∷ ss → MayGet nodes v row onto sets → MayGet nodes v row onto (s ∷ [])
  get_front sets s ss e m = record {
    given = m.given;
    is_row = m.is_row;
    allowed = piece nodes.may (union ((m.given onto ++ s ∷ []) ++ ss)) (union (m.given onto ++ s ∷ [])) (front (λ s. s) (given never) (m.given onto ++ s ∷ []) ss)
        (subst (λ xs. HasNodes nodes.may (parts (union xs))) (ap (λ xs. m.given onto ++ xs) e ∙ sym (append_assoc (m.given onto) (s ∷ []) ss)) m.allowed);
  }

  -- and the second one after the first
  pub get_second : (sets : List Recipe) (s t : Recipe) → sets ≡ s ∷ t ∷ [] → (m : MayGet nodes v row onto sets) (w : SeatView) (next : Row) → Gives v w row next onto (s ∷ []) → MayGet nodes w next onto (t ∷ [])
  get_second sets s t e m w next g = record {
    given = with_sets m.given onto (s ∷ []);
    is_row = subst (λ n. IsRow w next n (joined (with_sets m.given onto (s ∷ [])))) (sym g.as_many) (g.gives m.given m.is_row);
    allowed = subst (λ xs. HasNodes nodes.may (parts (union xs)))
        (ap (λ xs. m.given onto ++ xs) e ∙ sym (append_assoc (m.given onto) (s ∷ []) (t ∷ [])) ∙ ap (λ b. cond b (m.given onto ++ s ∷ []) (m.given onto) ++ t ∷ []) (sym (eq-eqb onto onto refl)))
        m.allowed;
  }

  pub may_give : (w : SeatView) (set : ℕ) (s : Recipe) → MayGet nodes v row onto (s ∷ []) → Keeps v w → SeatKnows w set (tree s) → MayGive nodes w row onto set
  may_give w set s m keeps known = record {
    more = s;
    knows = known;
    may = record { given = m.given; is_row = row_kept v w keeps row (length row.sets.items) (joined m.given) m.is_row; allowed = m.allowed };
  }

-- ---- what is given

pub gives_after : (u v w : SeatView) (row next : Row) (onto set : ℕ) (r : Recipe) (result : Result (Unit {0}) SetError) → Keeps u v → SeatKnows v set (tree r) → IfOk result (λ _. (more : Recipe) → SeatKnows v set (tree more) → Gives v w row next onto (more ∷ [])) → IfOk result (λ _. Gives u w row next onto (r ∷ []))
gives_after u v w row next onto set r (Ok x) keeps known made =
    let g = made r known in
    record { as_many = g.as_many; gives = λ have is. g.gives have (row_kept u v keeps row (length row.sets.items) (joined have) is) }
gives_after u v w row next onto set r (Err e) keeps known made = tt

pub gives_like : (v w : SeatView) (row next : Row) (onto : ℕ) (xs ys : List Recipe) → xs ≡ ys → Gives v w row next onto xs → Gives v w row next onto ys
gives_like v w row next onto xs ys e g = subst (Gives v w row next onto) e g

twice : (have : ℕ → List Recipe) (onto : ℕ) (s t : Recipe) (n : ℕ) → with_sets (with_sets have onto (s ∷ [])) onto (t ∷ []) n ≡ with_sets have onto (s ∷ t ∷ []) n
twice have onto s t n = by (n == onto)
  where
    by : (b : Bool) → cond b (cond b (have n ++ s ∷ []) (have n) ++ t ∷ []) (cond b (have n ++ s ∷ []) (have n)) ≡ cond b (have n ++ s ∷ t ∷ []) (have n)
    by true = append_assoc (have n) (s ∷ []) (t ∷ [])
    by false = refl

pub gives_both : (u v w : SeatView) (row middle next : Row) (onto : ℕ) (s t : Recipe) (sets : List Recipe) → sets ≡ s ∷ t ∷ [] → Gives u v row middle onto (s ∷ []) → Gives v w middle next onto (t ∷ []) → Gives u w row next onto sets
gives_both u v w row middle next onto s t sets e one two = subst (Gives u w row next onto) (sym e) (record {
  as_many = two.as_many ∙ one.as_many;
  gives = λ have is.
      subst (λ (g : ℕ → List Recipe). IsRow w next (length row.sets.items) (joined g)) (λ i n. twice have onto s t n i)
      (subst (λ n. IsRow w next n (joined (with_sets (with_sets have onto (s ∷ [])) onto (t ∷ [])))) one.as_many
      (two.gives (with_sets have onto (s ∷ [])) (subst (λ n. IsRow v middle n (joined (with_sets have onto (s ∷ [])))) (sym one.as_many) (one.gives have is))));
})

pub gives_both_if : (u v w : SeatView) (row middle next : Row) (onto : ℕ) (s t : Recipe) (sets : List Recipe) (result : Result (Unit {0}) SetError) → sets ≡ s ∷ t ∷ [] → Gives u v row middle onto (s ∷ []) → IfOk result (λ _. Gives v w middle next onto (t ∷ [])) → IfOk result (λ _. Gives u w row next onto sets)
gives_both_if u v w row middle next onto s t sets (Ok x) e one two = gives_both u v w row middle next onto s t sets e one two
gives_both_if u v w row middle next onto s t sets (Err x) e one two = tt

pub gives_like_if : (v w : SeatView) (row next : Row) (onto : ℕ) (xs ys : List Recipe) (result : Result (Unit {0}) SetError) → xs ≡ ys → IfOk result (λ _. Gives v w row next onto xs) → IfOk result (λ _. Gives v w row next onto ys)
gives_like_if v w row next onto xs ys result e g = subst (λ zs. IfOk result (λ _. Gives v w row next onto zs)) e g

pub get_like : (nodes : TableView) (v : SeatView) (row : Row) (onto : ℕ) (xs ys : List Recipe) → xs ≡ ys → MayGet nodes v row onto xs → MayGet nodes v row onto ys
get_like nodes v row onto xs ys e m = subst (MayGet nodes v row onto) e m

-- ---- onto an interface where a hop leads

where_it_leads : (a b : Bool) (xs : List Recipe) → not a && b ≡ true → xs ≡ cond a [] (cond b xs [])
where_it_leads true b xs leads = absurd (let e : false ≡ true = leads in cc)
where_it_leads false true xs leads = refl
where_it_leads false false xs leads = absurd (let e : false ≡ true = leads in cc)

module _ (plane : DataPlane) (q : Pos) (t : IfId) (x : Hop) (leads : leads_onto plane.links x t ≡ true) where
  pub towards_linked : (i : IfId) → x ≡ Dev i → onto_link plane q t i ≡ towards plane q t x
  towards_linked i is =
      where_it_leads (port_is plane.links is_loopback i) (are_linked plane.links i t) (onto_link plane q t i) (ap (λ y. leads_onto plane.links y t) (sym is) ∙ leads)
      ∙ ap (towards plane q t) (sym is)

  pub towards_taker : (g : Addr) (i : IfId) → x ≡ Via g (Some i) → leaving plane q x (device x) ∷ [] ≡ towards plane q t x
  towards_taker g i is =
      ap (λ y. leaving plane q y (device y) ∷ []) is
      ∙ where_it_leads (port_is plane.links is_loopback i) (takes plane.links i g t) (leaving plane q (Via g (Some i)) i ∷ []) (ap (λ y. leads_onto plane.links y t) (sym is) ∙ leads)
      ∙ ap (towards plane q t) (sym is)
