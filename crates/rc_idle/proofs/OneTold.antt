-- Access lists have one telling.
use Rattle.std.proofs.Common.{refl, ◌≡◌, ◌∙◌, sym, ℕ, List, [], ◌∷◌, Option}
use Rattle.rc_config.specs.declared.access_list.AccessList.{AccessList}
use Rattle.rc_config.specs.declared.network.Network.{Network}
use Rattle.rc_report.specs.declared.idle.ListIdle.{ListIdle}
use Rattle.rc_report.specs.declared.idle.RouterIdle.{RouterIdle}
use Rattle.rc_sets.proofs.IdleLaws.{one_idle}
use Rattle.rc_sets.specs.LinesQuery.{access_lists_at, asked_routers}
use Rattle.rc_idle.specs.Told.{AreIdleIn, AreTold, IsListTold, IsRouterTold}

one_told : {A B : Type 0} (IsTold : A → B → Type 0) → ((x : A) (y z : B) → IsTold x y → IsTold x z → y ≡ z) → (xs : List A) (these those : List B) → AreTold IsTold xs these → AreTold IsTold xs those → these ≡ those
one_told IsTold one [] [] [] h g = refl
one_told IsTold one [] [] (z ∷ those) h g = absurd g
one_told IsTold one [] (y ∷ these) those h g = absurd h
one_told IsTold one (x ∷ xs) [] those h g = absurd h
one_told IsTold one (x ∷ xs) (y ∷ these) [] h g = absurd g
one_told IsTold one (x ∷ xs) (y ∷ these) (z ∷ those) (h, hs) (g, gs) =
    let first : y ≡ z = one x y z h g in
    let rest : these ≡ those = one_told IsTold one xs these those hs gs in
    λ i. first i ∷ rest i

one_list : (entry : List ℕ × AccessList) (this that : ListIdle) → IsListTold entry this → IsListTold entry that → this ≡ that
one_list entry this that (named, are) (named_too, are_too) =
    let names : this.name ≡ that.name = named ∙ sym named_too in
    let lines : this.idle ≡ that.idle = one_idle are are_too in
    λ i. record { name = names i; idle = lines i }

one_router : (net : Network) (r : ℕ) (this that : RouterIdle) → IsRouterTold net r this → IsRouterTold net r that → this ≡ that
one_router net r this that (named, lists) (named_too, lists_too) =
    let names : this.router ≡ that.router = named ∙ sym named_too in
    let same : this.lists ≡ that.lists = one_told IsListTold one_list (access_lists_at net r) this.lists that.lists lists lists_too in
    λ i. record { router = names i; lists = same i }

pub one_telling : (net : Network) (router : Option ℕ) (these those : List RouterIdle) → AreIdleIn net router these → AreIdleIn net router those → these ≡ those
one_telling net router these those h g = one_told (IsRouterTold net) (one_router net) (asked_routers net router) these those h g
