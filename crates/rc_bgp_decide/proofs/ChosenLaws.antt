-- Turns that are chosen one by one are the first of those with a next hop of their own.
use Rattle.std.proofs.Common.{◌≡◌, ℕ, ◌≤◌, ◌<◌, Bool, true, false, cond, List, [], ◌∷◌, ◌++◌, refl, ap, sym, ◌∙◌, arith, length, take}
use Rattle.std.specs.List.{fold, list_any}
use Rattle.std.proofs.lemmas.List.{length-append, take-append-le}
use Rattle.rc_bgp_decide.specs.Beside.{IsTaken, with_new}
use Rattle.rc_bgp_decide.specs.Multipath.{same_next_hop}
use Rattle.rc_bgp_decide.specs.declared.turn.Turn.{Turn}

append_none : (ks : List Turn) → ks ≡ ks ++ []
append_none [] = refl
append_none (k ∷ ks) = ap (λ js. k ∷ js) (append_none ks)

append_twice : (ks ls ms : List Turn) → (ks ++ ls) ++ ms ≡ ks ++ (ls ++ ms)
append_twice [] ls ms = refl
append_twice (k ∷ ks) ls ms = ap (λ js. k ∷ js) (append_twice ks ls ms)

-- what was chosen stays in front
abbrev pub Grown : List Turn → List Turn → Type 0
Grown ks all = (more : List Turn) × (all ≡ ks ++ more)

pub grown : (ks ts : List Turn) → Grown ks (fold with_new ks ts)
grown ks [] = ([], append_none ks)
grown ks (t ∷ ts) = by (list_any (same_next_hop t) ks) (grown ks ts) (grown (ks ++ t ∷ []) ts)
  where
    by : (b : Bool) → Grown ks (fold with_new ks ts) → Grown (ks ++ t ∷ []) (fold with_new (ks ++ t ∷ []) ts) → Grown ks (fold with_new (cond b ks (ks ++ t ∷ [])) ts)
    by true same longer = same
    by false same longer = (let (more, is) = longer in (t ∷ more, is ∙ append_twice ks (t ∷ []) more))

full : (n : ℕ) (ks ts : List Turn) → n ≤ length ks → take n (fold with_new ks ts) ≡ take n ks
full n ks ts le = (let (more, is) = grown ks ts in ap (take n) is ∙ take-append-le n ks more le)

module _ (n : ℕ) (ks : List Turn) (t : Turn) where
  pub no_room : n ≤ length ks → IsTaken n ks t ks
  no_room le = record { same = λ rest. full n ks rest le ∙ sym (full n ks (t ∷ rest) le); within = λ h. h }

  pub is_there : list_any (same_next_hop t) ks ≡ true → IsTaken n ks t ks
  is_there e = record { same = λ rest. ap (λ b. take n (fold with_new (cond b ks (ks ++ t ∷ [])) rest)) (sym e); within = λ h. h }

  pub one_more : length ks < n → list_any (same_next_hop t) ks ≡ false → (new : List Turn) → new ≡ ks ++ t ∷ [] → IsTaken n ks t new
  one_more less e new is = record {
    same = λ rest. ap (λ us. take n (fold with_new us rest)) is ∙ ap (λ b. take n (fold with_new (cond b ks (ks ++ t ∷ [])) rest)) (sym e);
    within = λ h. (let longer = ap length is ∙ length-append ks (t ∷ []) in omega arith);
  }
