-- The key by which hops are ordered tells them apart.
use Rattle.std.proofs.Common.{refl, ◌≡◌, ap, sym, ◌∙◌, ℕ, zero, suc, List, [], ◌∷◌, Some, None}
use Rattle.rc_route.specs.declared.route.Hop.{Hop}
use Rattle.rc_route.specs.declared.route.Hop.TheVariants.{Null, Dev, Via}
use Rattle.rc_route.specs.Hops.{hop_key}

hop_of : List ℕ → Hop
hop_of (suc zero ∷ r ∷ n ∷ []) = Dev (record { router = r; index = n })
hop_of (suc (suc zero) ∷ g ∷ []) = Via g None
hop_of (suc (suc zero) ∷ g ∷ r ∷ n ∷ []) = Via g (Some (record { router = r; index = n }))
hop_of _ = Null

hop_of-key : (x : Hop) → hop_of (hop_key x) ≡ x
unfolding hop_of
hop_of-key Null = refl
hop_of-key (Dev i) = refl
hop_of-key (Via g None) = refl
hop_of-key (Via g (Some i)) = refl

pub same_by_key : (x y : Hop) → hop_key x ≡ hop_key y → x ≡ y
same_by_key x y keys = sym (hop_of-key x) ∙ ap hop_of keys ∙ hop_of-key y
