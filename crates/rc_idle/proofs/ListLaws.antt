-- Access lists are told one after another.
use Rattle.std.proofs.Common.{refl, ap, sym, subst, ◌≡◌, ◌∙◌, ℕ, zero, suc, ◌+◌, ◌<◌, ◌≤◌, arith, List, [], ◌∷◌, ◌++◌, None, Some, add-one, drop, flat_map, length, slice_get, take}
use Rattle.std.proofs.lemmas.List.{take_all}
use Rattle.std.proofs.lemmas.List.FromFn.{length-range_with_len, get_or-range_with_len}
use Rattle.std.proofs.lemmas.Option.{slice_get_read}
use Rattle.rc_config.specs.Members.{router_ids}
use Rattle.rc_config.specs.declared.access_list.AccessList.{AccessList}
use Rattle.rc_config.specs.declared.network.Network.{Network}
use Rattle.rc_config.specs.declared.router_text.RouterText.{RouterText}
use Rattle.rc_report.specs.declared.idle.ListIdle.{ListIdle}
use Rattle.rc_report.specs.declared.idle.RouterIdle.{RouterIdle}
use Rattle.rc_sets.proofs.IdleLaws.{idle_lines_are_idle}
use Rattle.rc_sets.specs.IdleLines.{AreIdle, idle_lines}
use Rattle.rc_sets.specs.LinesQuery.{access_lists_at, asked_lists, idle_in}
use Rattle.rc_sets.specs.declared.idle_line.IdleLine.{IdleLine}
use Rattle.rc_idle.specs.Told.{AreIdleIn, AreTold, IsListTold, IsRouterTold}

-- ---- one more of a list

told_behind : {A B : Type 0} (IsTold : A → B → Type 0) (xs : List A) (ys : List B) (x : A) (y : B) → AreTold IsTold xs ys → IsTold x y → AreTold IsTold (xs ++ x ∷ []) (ys ++ y ∷ [])
told_behind IsTold [] [] x y h g = (g, tt)
told_behind IsTold [] (z ∷ ys) x y h g = absurd h
told_behind IsTold (w ∷ xs) [] x y h g = absurd h
told_behind IsTold (w ∷ xs) (z ∷ ys) x y (h, hs) g = (h, told_behind IsTold xs ys x y hs g)

taken : {A : Type 0} (xs : List A) (i : ℕ) (x : A) → slice_get xs i ≡ Some x → take (suc i) xs ≡ take i xs ++ x ∷ []
taken [] i x is = absurd (cc)
taken (y ∷ xs) zero x is = let same : y ≡ x = cc in ap (λ z. z ∷ []) same
taken (y ∷ xs) (suc i) x is = ap (λ zs. y ∷ zs) (taken xs i x is)

left_of : {A : Type 0} (xs : List A) (i : ℕ) (x : A) → slice_get xs i ≡ Some x → drop i xs ≡ x ∷ drop (suc i) xs
left_of [] i x is = absurd (cc)
left_of (y ∷ xs) zero x is = let same : y ≡ x = cc in ap (λ z. z ∷ xs) same
left_of (y ∷ xs) (suc i) x is = left_of xs i x is

-- ---- the lists of a router

-- so many lists are told, and what is left belongs to those behind them
pub record AreToldSoFar (lists : List (List ℕ × AccessList)) (index : ℕ) (all left : List (List IdleLine)) (told : List ListIdle) : Type 0 where
  pub so_far : (behind : List (List ℕ × AccessList)) → all ≡ idle_in (lists ++ behind) → AreTold IsListTold (take index lists) told × (left ≡ idle_in (drop index lists ++ behind))

module _ (lists : List (List ℕ × AccessList)) where
  pub begun : (all : List (List IdleLine)) → AreToldSoFar lists 0 all all []
  begun all = record { so_far = λ behind is. (tt, is) }

  pub one_more : (index : ℕ) (all old left : List (List IdleLine)) (told : List ListIdle) (new : ListIdle) (list : AccessList) → slice_get lists index ≡ Some (new.name, list) → old ≡ new.idle ∷ left
      → AreToldSoFar lists index all old told → AreToldSoFar lists (index + 1) all left (told ++ new ∷ [])
  one_more index all old left told new list is next before = record {
    so_far = λ behind whole.
        let (are, rest) = before.so_far behind whole in
        let more : new.idle ∷ left ≡ idle_lines list.lines ∷ idle_in (drop (suc index) lists ++ behind) = sym next ∙ rest ∙ ap (λ ls. idle_in (ls ++ behind)) (left_of lists index (new.name, list) is) in
        let own : new.idle ≡ idle_lines list.lines = cc in
        let others : left ≡ idle_in (drop (suc index) lists ++ behind) = cc in
        let this : IsListTold (new.name, list) new = (refl, subst (AreIdle [] list.lines) (sym own) (idle_lines_are_idle list.lines)) in (
          subst (λ ls. AreTold IsListTold ls (told ++ new ∷ [])) (sym (ap (λ n. take n lists) (add-one index) ∙ taken lists index (new.name, list) is)) (told_behind IsListTold (take index lists) told (new.name, list) new are this),
          others ∙ ap (λ n. idle_in (drop n lists ++ behind)) (sym (add-one index)),
        );
  }

  pub all_told : (index : ℕ) (all left : List (List IdleLine)) (told : List ListIdle) → length lists ≤ index → AreToldSoFar lists index all left told
      → (behind : List (List ℕ × AccessList)) → all ≡ idle_in (lists ++ behind) → AreTold IsListTold lists told × (left ≡ idle_in behind)
  all_told index all left told past so behind whole =
      let (are, rest) = so.so_far behind whole in (
        subst (λ ls. AreTold IsListTold ls told) (take_all index lists past) are,
        rest ∙ ap (λ ls. idle_in (ls ++ behind)) (nothing_left lists index past),
      )
    where
      nothing_left : (ls : List (List ℕ × AccessList)) (n : ℕ) → length ls ≤ n → drop n ls ≡ []
      nothing_left [] zero le = refl
      nothing_left [] (suc n) le = refl
      nothing_left (l ∷ ls) zero le = absurd (omega arith)
      nothing_left (l ∷ ls) (suc n) le = nothing_left ls n (omega arith)

-- ---- routers

-- a router that is there is told by its name and its lists
pub router_is : (net : Network) (r : ℕ) (name : List ℕ) (text : RouterText) (told : RouterIdle) → slice_get net.routers r ≡ Some (name, text) → told.router ≡ name → AreTold IsListTold text.lists.access_lists told.lists → IsRouterTold net r told
router_is net r name text told there named are = rw there (named, are)

pub lists_are : (net : Network) (r : ℕ) (name : List ℕ) (text : RouterText) → slice_get net.routers r ≡ Some (name, text) → access_lists_at net r ≡ text.lists.access_lists
lists_are net r name text there = rw there

-- so many routers are told, and what is left belongs to those behind them
pub record AreRoutersSoFar (net : Network) (index : ℕ) (left : List (List IdleLine)) (told : List RouterIdle) : Type 0 where
  pub are : AreTold (IsRouterTold net) (take index (router_ids net)) told
  pub rest : left ≡ idle_in (flat_map (access_lists_at net) (drop index (router_ids net)))

module _ (net : Network) where
  -- the routers of a network are those of its indexes
  there : (r : ℕ) → r < length net.routers → slice_get (router_ids net) r ≡ Some r
  there r less = slice_get_read (router_ids net) (length (router_ids net)) r r refl (rw (length-range_with_len 0 (length net.routers)) less) (rw (get_or-range_with_len 0 (length net.routers) r r less) (omega arith))

  pub no_routers : (left : List (List IdleLine)) → left ≡ idle_in (asked_lists net None) → AreRoutersSoFar net 0 left []
  no_routers left is = record { are = tt; rest = is }

  pub one_router_more : (index : ℕ) (old left : List (List IdleLine)) (told : List RouterIdle) (new : RouterIdle) → index < length net.routers
      → ((behind : List (List ℕ × AccessList)) → old ≡ idle_in (access_lists_at net index ++ behind) → IsRouterTold net index new × (left ≡ idle_in behind))
      → AreRoutersSoFar net index old told → AreRoutersSoFar net (index + 1) left (told ++ new ∷ [])
  one_router_more index old left told new less tells before =
      let is = there index less in
      let behind = flat_map (access_lists_at net) (drop (suc index) (router_ids net)) in
      let whole : old ≡ idle_in (access_lists_at net index ++ behind) = before.rest ∙ ap (λ rs. idle_in (flat_map (access_lists_at net) rs)) (left_of (router_ids net) index index is) in
      let (this, others) = tells behind whole in
      record {
        are = subst (λ rs. AreTold (IsRouterTold net) rs (told ++ new ∷ [])) (sym (ap (λ n. take n (router_ids net)) (add-one index) ∙ taken (router_ids net) index index is)) (told_behind (IsRouterTold net) (take index (router_ids net)) told index new before.are this);
        rest = others ∙ ap (λ n. idle_in (flat_map (access_lists_at net) (drop n (router_ids net)))) (sym (add-one index));
      }

  pub all_routers : (index : ℕ) (left : List (List IdleLine)) (told : List RouterIdle) → length net.routers ≤ index → AreRoutersSoFar net index left told → AreIdleIn net None told
  all_routers index left told past so = subst (λ rs. AreTold (IsRouterTold net) rs told) (take_all index (router_ids net) (rw (length-range_with_len 0 (length net.routers)) past)) so.are
