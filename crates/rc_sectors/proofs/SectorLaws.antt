-- What trees, and what is gathered of them, are in a sector.
use Rattle.std.proofs.Common.{refl, inl, inr, ◌&&◌, ◌||◌, ◌≡◌, ap, sym, ◌∙◌, ℕ, suc, ◌+◌, ◌<◌, ◌≤◌, Bool, true, false, cond, ◌==◌, List, [], ◌∷◌, ◌++◌, length, take, drop, slice_index_or, arith, eq-eqb, ne_eqb}
use Rattle.std.proofs.lemmas.List.{length-take-le, take-append-drop, take_more}
use Rattle.rc_base.specs.Header.{bit_count}
use Rattle.rc_trees.specs.Trees.{Tree, never, always, node, top, value, IsReduced, HasNodesOf, low_side, high_side}
use Rattle.rc_trees.specs.Combine.{combined, joined, and, or}
use Rattle.rc_trees.proofs.OperationLaws.{combined_step, low_starts, high_starts}
use Rattle.rc_trees.proofs.SideLaws.{joined_cases, low_reduced, high_reduced, low_top, high_top, low_value, high_value}
use Rattle.rc_bdd.specs.Work.{side}
use Rattle.rc_sectors.specs.Sectors.{within_from, within, BeginsWith}

-- ---- one side

pub side_reduced : (b : Bool) (v : ℕ) (t : Tree) → IsReduced t → IsReduced (side b v t)
side_reduced true v t r = high_reduced v t r
side_reduced false v t r = low_reduced v t r

pub side_top : (b : Bool) (v : ℕ) (t : Tree) → IsReduced t → v < bit_count → v ≤ top t → v < top (side b v t)
side_top true v t r lt le = high_top v t r lt le
side_top false v t r lt le = low_top v t r lt le

-- a tree that tests greater bits is its own side
low_behind : (v : ℕ) (t : Tree) → v < top t → low_side v t ≡ t
low_behind v never lt = refl
low_behind v always lt = refl
low_behind v (node w l h) lt = ap (λ b. cond b l (node w l h)) (ne_eqb v w (omega arith))

high_behind : (v : ℕ) (t : Tree) → v < top t → high_side v t ≡ t
high_behind v never lt = refl
high_behind v always lt = refl
high_behind v (node w l h) lt = ap (λ b. cond b h (node w l h)) (ne_eqb v w (omega arith))

-- the sides of a joined tree are what was joined
low_joined : (v : ℕ) (l h : Tree) → v < top l → low_side v (joined v l h) ≡ l
low_joined v l h lt = elim (joined_cases v l h) [
  | inl p ↦ ap (low_side v) p.1 ∙ low_behind v l lt
  | inr p ↦ ap (low_side v) p.1 ∙ ap (λ b. cond b l (node v l h)) (eq-eqb v v refl)
]

high_joined : (v : ℕ) (l h : Tree) → v < top h → high_side v (joined v l h) ≡ h
high_joined v l h lt = elim (joined_cases v l h) [
  | inl p ↦ ap (high_side v) (p.1 ∙ p.0) ∙ high_behind v h lt
  | inr p ↦ ap (high_side v) p.1 ∙ ap (λ b. cond b h (node v l h)) (eq-eqb v v refl)
]

-- operations go by sides
pub side_combined : (table : Bool → Bool → Bool) (b : Bool) (v : ℕ) (s t : Tree) → IsReduced s → IsReduced t → v < bit_count → v ≤ top s → v ≤ top t → side b v (combined table s t) ≡ combined table (side b v s) (side b v t)
side_combined table true v s t r q lt vs vt =
    ap (high_side v) (combined_step table v s t r q lt vs vt)
    ∙ high_joined v (combined table (low_side v s) (low_side v t)) (combined table (high_side v s) (high_side v t)) (let h = (high_starts table v s t r q lt vs vt).1 in omega arith)
side_combined table false v s t r q lt vs vt =
    ap (low_side v) (combined_step table v s t r q lt vs vt)
    ∙ low_joined v (combined table (low_side v s) (low_side v t)) (combined table (high_side v s) (high_side v t)) (let h = (low_starts table v s t r q lt vs vt).1 in omega arith)

-- ---- a sector

pub within_from-never : (bs : List Bool) (v : ℕ) → within_from v bs never ≡ never
within_from-never [] v = refl
within_from-never (true ∷ bs) v = within_from-never bs (suc v)
within_from-never (false ∷ bs) v = within_from-never bs (suc v)

pub within_from-always : (bs : List Bool) (v : ℕ) → within_from v bs always ≡ always
within_from-always [] v = refl
within_from-always (true ∷ bs) v = within_from-always bs (suc v)
within_from-always (false ∷ bs) v = within_from-always bs (suc v)

pub within_from-reduced : (bs : List Bool) (v : ℕ) (t : Tree) → IsReduced t → IsReduced (within_from v bs t)
within_from-reduced [] v t r = r
within_from-reduced (b ∷ bs) v t r = within_from-reduced bs (suc v) (side b v t) (side_reduced b v t r)

pub within_from-top : (bs : List Bool) (v : ℕ) (t : Tree) → IsReduced t → v + length bs ≤ bit_count → v ≤ top t → v + length bs ≤ top (within_from v bs t)
within_from-top [] v t r le vt = omega arith
within_from-top (b ∷ bs) v t r le vt =
    let less = side_top b v t r (omega arith) vt in
    let rest = within_from-top bs (suc v) (side b v t) (side_reduced b v t r) (omega arith) (omega arith) in
    omega arith

pub within_from-combined : (table : Bool → Bool → Bool) (bs : List Bool) (v : ℕ) (s t : Tree) → IsReduced s → IsReduced t → v + length bs ≤ bit_count → v ≤ top s → v ≤ top t
    → within_from v bs (combined table s t) ≡ combined table (within_from v bs s) (within_from v bs t)
within_from-combined table [] v s t r q le vs vt = refl
within_from-combined table (b ∷ bs) v s t r q le vs vt =
    let lt : v < bit_count = omega arith in
    let one = side_top b v s r lt vs in let two = side_top b v t q lt vt in
    ap (within_from (suc v) bs) (side_combined table b v s t r q lt vs vt)
    ∙ within_from-combined table bs (suc v) (side b v s) (side b v t) (side_reduced b v s r) (side_reduced b v t q) (omega arith) (omega arith) (omega arith)

-- one bit more
pub within_from-more : (bs : List Bool) (b : Bool) (v : ℕ) (t : Tree) → within_from v (bs ++ b ∷ []) t ≡ side b (v + length bs) (within_from v bs t)
within_from-more [] b v t = ap (λ n. side b n t) (let e : v ≡ v + 0 = omega arith in e)
within_from-more (c ∷ bs) b v t = within_from-more bs b (suc v) (side c v t) ∙ ap (λ n. side b n (within_from (suc v) bs (side c v t))) (let e : suc v + length bs ≡ v + suc (length bs) = omega arith in e)

-- some bits, and then the others
within_from-append : (bs cs : List Bool) (v : ℕ) (t : Tree) → within_from v (bs ++ cs) t ≡ within_from (v + length bs) cs (within_from v bs t)
within_from-append [] cs v t = ap (λ n. within_from n cs t) (let e : v ≡ v + 0 = omega arith in e)
within_from-append (b ∷ bs) cs v t = within_from-append bs cs (suc v) (side b v t) ∙ ap (λ n. within_from n cs (within_from (suc v) bs (side b v t))) (let e : suc v + length bs ≡ v + suc (length bs) = omega arith in e)

-- what stands in a sector of a tree stands in it
side_nodes : (may : List Tree) (b : Bool) (v : ℕ) (t : Tree) → HasNodesOf may t → HasNodesOf may (side b v t)
side_nodes may true v never has = tt
side_nodes may true v always has = tt
side_nodes may true v (node w l h) has = elim (v == w) as (λ b. HasNodesOf may (cond b h (node w l h))) [ true ↦ has.2 | false ↦ has ]
side_nodes may false v never has = tt
side_nodes may false v always has = tt
side_nodes may false v (node w l h) has = elim (v == w) as (λ b. HasNodesOf may (cond b l (node w l h))) [ true ↦ has.1 | false ↦ has ]

pub within_from-nodes : (may : List Tree) (bs : List Bool) (v : ℕ) (t : Tree) → HasNodesOf may t → HasNodesOf may (within_from v bs t)
within_from-nodes may [] v t has = has
within_from-nodes may (b ∷ bs) v t has = within_from-nodes may bs (suc v) (side b v t) (side_nodes may b v t has)

-- a tree has the headers of a sector that it has there
side_value : (b : Bool) (v : ℕ) (t : Tree) (bits : ℕ → Bool) → bits v ≡ b → value (side b v t) bits ≡ value t bits
side_value true v t bits e = high_value v t bits e
side_value false v t bits e = low_value v t bits e

-- ---- the whole headers' sectors

module _ (sector : List Bool) (short : length sector ≤ bit_count) where
  pub within-and : (s t : Tree) → IsReduced s → IsReduced t → within sector (and s t) ≡ and (within sector s) (within sector t)
  unfolding and
  within-and s t r q = within_from-combined ◌&&◌ sector 0 s t r q (omega arith) (omega arith) (omega arith)

  pub within-or : (s t : Tree) → IsReduced s → IsReduced t → within sector (or s t) ≡ or (within sector s) (within sector t)
  unfolding or
  within-or s t r q = within_from-combined ◌||◌ sector 0 s t r q (omega arith) (omega arith) (omega arith)

pub within-top : (sector : List Bool) (n : ℕ) (t : Tree) → IsReduced t → n ≤ length sector → length sector ≤ bit_count → n ≤ top (within (take n sector) t)
within-top sector n t r fits short =
    let long : length (take n sector) ≡ n = length-take-le n sector fits in
    let tops = within_from-top (take n sector) 0 t r (omega arith) (omega arith) in
    omega arith

pub within-more : (sector : List Bool) (n : ℕ) (d : Bool) (t : Tree) → n < length sector → within (take (n + 1) sector) t ≡ side (slice_index_or sector n d) n (within (take n sector) t)
within-more sector n d t less =
    ap (λ s. within s t) (take_more sector n d less)
    ∙ within_from-more (take n sector) (slice_index_or sector n d) 0 t
    ∙ ap (λ k. side (slice_index_or sector n d) k (within (take n sector) t)) (let long : length (take n sector) ≡ n = length-take-le n sector (omega arith) in let e : 0 + length (take n sector) ≡ n = omega arith in e)

-- what holds no header after some bits holds none after all
pub within-never : (sector : List Bool) (n : ℕ) (t : Tree) → within (take n sector) t ≡ never → within sector t ≡ never
within-never sector n t none =
    ap (λ s. within s t) (sym (take-append-drop n sector))
    ∙ within_from-append (take n sector) (drop n sector) 0 t
    ∙ ap (within_from (0 + length (take n sector)) (drop n sector)) none
    ∙ within_from-never (drop n sector) (0 + length (take n sector))

-- what stands behind the bits has the value of the whole
within_from-value : (bs : List Bool) (v : ℕ) (t : Tree) (bits : ℕ → Bool) → ((i : ℕ) (d : Bool) → i < length bs → bits (v + i) ≡ slice_index_or bs i d) → value (within_from v bs t) bits ≡ value t bits
within_from-value [] v t bits begins = refl
within_from-value (b ∷ bs) v t bits begins =
    within_from-value bs (suc v) (side b v t) bits (λ i d less. ap bits (let e : suc v + i ≡ v + suc i = omega arith in e) ∙ begins (suc i) d (omega arith))
    ∙ side_value b v t bits (ap bits (let e : v ≡ v + 0 = omega arith in e) ∙ begins 0 b (omega arith))

pub within-value : (sector : List Bool) (t : Tree) (bits : ℕ → Bool) → BeginsWith sector bits → value (within sector t) bits ≡ value t bits
within-value sector t bits begins = within_from-value sector 0 t bits (λ i d less. ap bits (let e : 0 + i ≡ i = omega arith in e) ∙ begins i d less)
