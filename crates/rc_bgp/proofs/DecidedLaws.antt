-- A list that is edited by what is decided at some prefixes is the list that they update.
use Rattle.std.proofs.Common.{refl, ◌≡◌, ap, sym, ◌∙◌, subst, ℕ, ◌+◌, ◌<◌, ◌≤◌, append_assoc, append-nil, Bool, true, false, cond, ◌||◌, List, [], ◌∷◌, ◌++◌, length, get_or, drop, map, Option, Some, None, IfSome}
use Rattle.std.specs.List.{AllByRecursion, list_any}
use Rattle.std.proofs.lemmas.List.{drop_all, map-append}
use Rattle.std.specs.List.Sorted.{IsStrictlySortedBy}
use Rattle.std.specs.declared.cmp.Ordering.TheVariants.{Less}
use Rattle.std.proofs.lemmas.List.Elements.{All-from_recursion}
use Rattle.rc_base.specs.Prefix.{Cidr, prefix_cmp, same_prefix}
use Rattle.rc_pieces.specs.Editing.{AreEdits, SaysAsEdited, said}
use Rattle.rc_pieces.specs.declared.edit.Edit.{Edit}
use Rattle.rc_route.specs.Tables.{IsListed, listed_at}
use Rattle.rc_bgp.specs.Updating.{AreDecided, AreTaken, edit_of, updated}
use Rattle.rc_bgp.proofs.ListLaws.{first_left}
use Rattle.rc_bgp.proofs.ListedLaws.{at_updated, same_lists, up_updated}
use Rattle.rc_bgp.proofs.PrefixLaws.{same_is}

-- ---- a list without one of its prefixes

turned : (x y z : Bool) → x || (y || z) ≡ y || (x || z)
turned true true z = refl
turned true false z = refl
turned false y z = refl

or_true : (x : Bool) → x || true ≡ true
or_true true = refl
or_true false = refl

any_without : (t : Cidr → Bool) (front : List Cidr) (q : Cidr) (back : List Cidr) → list_any t (front ++ q ∷ back) ≡ t q || list_any t (front ++ back)
any_without t [] q back = refl
any_without t (p ∷ front) q back = ap (λ b. t p || b) (any_without t front q back) ∙ turned (t p) (t q) (list_any t (front ++ back))

all_without : (P : Cidr → Type 0) (front : List Cidr) (q : Cidr) (back : List Cidr) → AllByRecursion P (front ++ q ∷ back) → AllByRecursion P (front ++ back)
all_without P [] q back all = all.1
all_without P (p ∷ front) q back all = (all.0, all_without P front q back all.1)

up_without : (front : List Cidr) (q : Cidr) (back : List Cidr) → IsStrictlySortedBy prefix_cmp (front ++ q ∷ back) → IsStrictlySortedBy prefix_cmp (front ++ back)
unfolding IsStrictlySortedBy
up_without [] q back up = up.1
up_without (p ∷ front) q back up = (all_without (λ r. prefix_cmp p r ≡ Less) front q back up.0, up_without front q back up.1)

module _ {A : Type 0} (prefix_of : A → Cidr) (f : Cidr → Option A) (xs : List A) (ps : List Cidr) where
  -- ---- prefix by prefix: those that are taken, and then those that are left

  pub none_decided : IsStrictlySortedBy prefix_cmp ps → AreTaken prefix_of f xs ps ps
  none_decided up = record { in_order = up; among = λ p here. here; others = λ p here none. absurd (let clash : true ≡ false = sym here ∙ none in cc) }

  module _ (i : ℕ) (q : Cidr) (less : i < length ps) (is : q ≡ get_or ps i q) (taken : List Cidr) (so_far : AreTaken prefix_of f xs ps (taken ++ drop i ps)) where
    here : AreTaken prefix_of f xs ps (taken ++ q ∷ drop (i + 1) ps)
    here = subst (λ left. AreTaken prefix_of f xs ps (taken ++ left)) (first_left ps i q less is) so_far

    -- the list says there what the function says
    pub stays_known : listed_at prefix_of xs q ≡ f q → AreTaken prefix_of f xs ps (taken ++ drop (i + 1) ps)
    stays_known same = record {
      in_order = up_without taken q (drop (i + 1) ps) here.in_order;
      among = λ p among. here.among p (any_without (same_prefix p) taken q (drop (i + 1) ps) ∙ ap (λ b. same_prefix p q || b) among ∙ or_true (same_prefix p q));
      others = λ p among none. by p (same_prefix p q) refl among none;
    }
      where
        by : (p : Cidr) (b : Bool) → same_prefix p q ≡ b → list_any (same_prefix p) ps ≡ true → list_any (same_prefix p) (taken ++ drop (i + 1) ps) ≡ false → listed_at prefix_of xs p ≡ f p
        by p true e among none = subst (λ r. listed_at prefix_of xs r ≡ f r) (sym (same_is p q e)) same
        by p false e among none = here.others p among (any_without (same_prefix p) taken q (drop (i + 1) ps) ∙ (λ k. e k || none k))

    -- or the prefix is taken
    pub is_taken : (more : List Cidr) → more ≡ taken ++ q ∷ [] → AreTaken prefix_of f xs ps (more ++ drop (i + 1) ps)
    is_taken more pushed = subst (AreTaken prefix_of f xs ps) (sym (ap (λ t. t ++ drop (i + 1) ps) pushed ∙ append_assoc taken (q ∷ []) (drop (i + 1) ps))) here

  pub is_edited : (q : Cidr) (value : Option A) (taken more : List Cidr) (edits more_edits : List (Edit A)) → value ≡ f q → more ≡ taken ++ q ∷ [] → more_edits ≡ edits ++ (record { prefix = q; value = value }) ∷ [] → edits ≡ map (edit_of f) taken
      → more_edits ≡ map (edit_of f) more
  is_edited q value taken more edits more_edits best pushed put kept =
      put ∙ (λ i. kept i ++ (record { prefix = q; value = best i }) ∷ []) ∙ sym (map-append (edit_of f) taken (q ∷ [])) ∙ ap (map (edit_of f)) (sym pushed)

  pub all_taken : (i : ℕ) (taken : List Cidr) → length ps ≤ i → AreTaken prefix_of f xs ps (taken ++ drop i ps) → AreTaken prefix_of f xs ps taken
  all_taken i taken past so_far = subst (AreTaken prefix_of f xs ps) (ap (λ left. taken ++ left) (drop_all i ps past) ∙ append-nil taken) so_far

  pub all_decided : (i : ℕ) (taken : List Cidr) (edits : List (Edit A)) → length ps ≤ i → AreTaken prefix_of f xs ps (taken ++ drop i ps) → edits ≡ map (edit_of f) taken → AreDecided prefix_of f xs ps taken edits
  all_decided i taken edits past so_far kept = record { taken = all_taken i taken past so_far; values = kept }

  -- ---- what is decided, as edits

  says : (taken : List Cidr) (q : Cidr) (was : Option A) → said (map (edit_of f) taken) q was ≡ cond (list_any (same_prefix q) taken) (f q) was
  says [] q was = refl
  says (p ∷ rest) q was = by (same_prefix q p) refl (says rest q was)
    where
      by : (b : Bool) → same_prefix q p ≡ b → said (map (edit_of f) rest) q was ≡ cond (list_any (same_prefix q) rest) (f q) was
          → cond b (f p) (said (map (edit_of f) rest) q was) ≡ cond (b || list_any (same_prefix q) rest) (f q) was
      by true e later = ap f (sym (same_is q p e))
      by false e later = later

  prefixes_of : (taken : List Cidr) → map (λ (e : Edit A). e.prefix) (map (edit_of f) taken) ≡ taken
  prefixes_of [] = refl
  prefixes_of (p ∷ rest) = ap (λ t. p ∷ t) (prefixes_of rest)

  module _ (keeps : (p : Cidr) (x : A) → f p ≡ Some x → prefix_of x ≡ p) (taken : List Cidr) (edits : List (Edit A)) (decided : AreDecided prefix_of f xs ps taken edits) where
    own : (p : Cidr) (o : Option A) → f p ≡ o → IfSome o (λ x. prefix_of x ≡ p)
    own p None e = tt
    own p (Some x) e = keeps p x e

    all_own : (qs : List Cidr) → AllByRecursion (λ (e : Edit A). IfSome e.value (λ x. prefix_of x ≡ e.prefix)) (map (edit_of f) qs)
    all_own [] = tt
    all_own (q ∷ qs) = (own q (f q) refl, all_own qs)

    pub are_edits : AreEdits prefix_of edits
    are_edits =
        subst (AreEdits prefix_of) (sym decided.values)
        (record { in_order = subst (IsStrictlySortedBy prefix_cmp) (sym (prefixes_of taken)) decided.taken.in_order; own = All-from_recursion _ (map (edit_of f) taken) (all_own taken) })

    module _ (made : List A) (edited : SaysAsEdited prefix_of xs edits made) where
      says_decided : (q : Cidr) → listed_at prefix_of made q ≡ cond (list_any (same_prefix q) taken) (f q) (listed_at prefix_of xs q)
      says_decided q = edited.at q ∙ ap (λ es. said es q (listed_at prefix_of xs q)) decided.values ∙ says taken q (listed_at prefix_of xs q)

      -- what isn't taken stays
      pub stays_listed : (q : Cidr) → list_any (same_prefix q) taken ≡ false → listed_at prefix_of xs q ≡ listed_at prefix_of made q
      stays_listed q none = sym (says_decided q ∙ ap (λ b. cond b (f q) (listed_at prefix_of xs q)) none)

      pub edited_is_updated : IsListed prefix_of xs → IsStrictlySortedBy prefix_cmp ps → made ≡ updated prefix_of f xs ps
      edited_is_updated up sorted =
          same_lists prefix_of made (updated prefix_of f xs ps) edited.in_order (up_updated prefix_of f keeps ps sorted xs up)
          (λ q. says_decided q ∙ by q (list_any (same_prefix q) taken) refl (list_any (same_prefix q) ps) refl ∙ sym (at_updated prefix_of f keeps ps sorted xs q))
        where
          by : (q : Cidr) (b : Bool) → list_any (same_prefix q) taken ≡ b → (c : Bool) → list_any (same_prefix q) ps ≡ c
              → cond (list_any (same_prefix q) taken) (f q) (listed_at prefix_of xs q) ≡ cond (list_any (same_prefix q) ps) (f q) (listed_at prefix_of xs q)
          by q true e true g = (λ i. cond (e i) (f q) (listed_at prefix_of xs q)) ∙ sym (λ i. cond (g i) (f q) (listed_at prefix_of xs q))
          by q true e false g = absurd (let clash : true ≡ false = sym (decided.taken.among q e) ∙ g in cc)
          by q false e true g = (λ i. cond (e i) (f q) (listed_at prefix_of xs q)) ∙ decided.taken.others q g e ∙ sym (λ i. cond (g i) (f q) (listed_at prefix_of xs q))
          by q false e false g = (λ i. cond (e i) (f q) (listed_at prefix_of xs q)) ∙ sym (λ i. cond (g i) (f q) (listed_at prefix_of xs q))
