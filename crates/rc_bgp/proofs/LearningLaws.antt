-- The hops of a learned route, part by part.
use Rattle.std.proofs.Common.{◌≡◌, ◌≢◌, ◌↔◌, ap, sym, ◌∙◌, ℕ, Bool, false, List, [], ◌∷◌, map, None}
use Rattle.std.specs.Prelude.{IsTrue}
use Rattle.std.proofs.lemmas.Bool.{false≢true}
use Rattle.std.specs.List.{fold}
use Rattle.std.specs.Ordering.{nat_cmp}
use Rattle.std.specs.BTreeSet.{insert_key}
use Rattle.rc_base.specs.Lists.{in_order}
use Rattle.rc_route.specs.declared.best.Best.{Best}
use Rattle.rc_route.specs.declared.route.Hop.TheVariants.{Via}
use Rattle.rc_bgp.specs.Learning.{gateway, hops_of_best}

-- without further next hops the path's own is the only one
pub no_further : (b : Best) → b.also ≡ [] → Via b.path.next_hop None ∷ [] ≡ hops_of_best b
no_further b none = sym (ap (λ also. map gateway (in_order nat_cmp (b.path.next_hop ∷ also))) none)

-- all are put into a set one after another
pub hops_in_parts : (hop : ℕ) (also shown first last : List ℕ) → first ≡ insert_key nat_cmp [] hop → shown ≡ also → last ≡ fold (insert_key nat_cmp) first shown → last ≡ in_order nat_cmp (hop ∷ also)
hops_in_parts hop also shown first last a b c = c ∙ (λ i. fold (insert_key nat_cmp) (a i) (b i))

-- where the test says that there are some, there are
pub some_further : (none : Bool) (also : List ℕ) → (IsTrue none ↔ (also ≡ [])) → none ≡ false → also ≢ []
some_further none also tells some = λ empty. false≢true (sym some ∙ tells.1 empty)
