-- Connected routes that lie over routes of OSPF, route by route.
use Rattle.std.proofs.Common.{refl, ◌≡◌, ◌≢◌, ap, sym, ◌∙◌, subst, true, false, List, [], ◌∷◌, ◌++◌, append_assoc, append-nil, Option, None, Some, IfSome, Result, Ok, Err, OnOk}
use Rattle.std.specs.Prelude.{if◌then◌else◌}
use Rattle.std.specs.Ordering.{match_ordering}
use Rattle.std.specs.declared.cmp.Ordering.{Ordering}
use Rattle.std.specs.declared.cmp.Ordering.TheVariants.{Less, Equal, Greater}
use Rattle.rc_base.specs.Prefix.{Cidr, prefix_cmp}
use Rattle.rc_fib.specs.Entry.{Entry}
use Rattle.rc_fib.specs.Forwarding.{resolved}
use Rattle.rc_fib.specs.Making.{IsMadeOf}
use Rattle.rc_fib.specs.declared.making.FibMaking.{FibMaking}
use Rattle.rc_route.specs.declared.route.Hop.{Hop}
use Rattle.rc_route.specs.declared.route.Route.{Route}
use Rattle.rc_alone.specs.Laying.{Becomes, GoesOn, IsLaidAs, front_order}
use Rattle.rc_route.specs.Tables.{IsTable}
use Rattle.rc_rib.specs.Merging.{merged}
use Rattle.rc_rib.specs.Best.{best_routes, better, is_preferred}
use Rattle.rc_rib.proofs.BestLaws.{best_is_table}
use Rattle.rc_rib.proofs.MergingLaws.{two_merged}
use Rattle.rc_alone.specs.declared.laying.Laying.{Laying}

-- ---- two tables from their fronts on

merged_by : (x : Route) (xs : List Route) (r : Route) (ys : List Route) (o : Ordering) → prefix_cmp x.prefix r.prefix ≡ o
    → merged (x ∷ xs) (r ∷ ys) ≡ match_ordering o (x ∷ merged xs (r ∷ ys)) (better x r ∷ merged xs ys) (r ∷ merged (x ∷ xs) ys)
merged_by x xs r ys o e = ap (λ o. match_ordering o (x ∷ merged xs (r ∷ ys)) (better x r ∷ merged xs ys) (r ∷ merged (x ∷ xs) ys)) e

merged_past : (left : List Route) (r : Route) (ys : List Route) → front_order left r.prefix ≢ Some Less → front_order left r.prefix ≢ Some Equal → merged left (r ∷ ys) ≡ r ∷ merged left ys
merged_past [] r ys not_before not_at = refl
merged_past (x ∷ xs) r ys not_before not_at = by (prefix_cmp x.prefix r.prefix) refl
  where
    by : (o : Ordering) → prefix_cmp x.prefix r.prefix ≡ o → merged (x ∷ xs) (r ∷ ys) ≡ r ∷ merged (x ∷ xs) ys
    by Less e = absurd (not_before (ap Some e))
    by Equal e = absurd (not_at (ap Some e))
    by Greater e = merged_by x xs r ys Greater e

-- ---- one route more

-- that a table in the making takes a route
abbrev Pushes : FibMaking → FibMaking → Cidr → List Hop → Type 0
Pushes old new p hops = (routes : List Route) (q : Route) → IsMadeOf routes old → q.prefix ≡ p → q.hops ≡ hops → IsMadeOf (routes ++ q ∷ []) new

-- it is the front of the whole
one_made : (old new : Laying) (ahead ahead-now : List Route) (x : Route) → Pushes old.made new.made x.prefix x.hops
    → ((behind : List Route) → merged old.connected.items (ahead ++ behind) ≡ x ∷ merged new.connected.items (ahead-now ++ behind)) → GoesOn old new ahead ahead-now
one_made old new ahead ahead-now x pushes front = record {
  goes_on = λ made is. (
    made ++ x ∷ [],
    pushes made x is refl refl,
    record { same = λ behind. ap (λ rs. made ++ rs) (front behind) ∙ sym (append_assoc made (x ∷ []) (merged new.connected.items (ahead-now ++ behind))) },
  );
}

module _ (old new : Laying) (r : Route) where
  -- a route past the front
  pub put_past : front_order old.connected.items r.prefix ≢ Some Less → front_order old.connected.items r.prefix ≢ Some Equal → new.connected.items ≡ old.connected.items → Pushes old.made new.made r.prefix r.hops → GoesOn old new (r ∷ []) []
  put_past not_before not_at same pushes =
      one_made old new (r ∷ []) [] r pushes (λ behind. merged_past old.connected.items r behind not_before not_at ∙ ap (λ left. r ∷ merged left behind) (sym same))

  -- a route that is preferred to the front
  pub put_over : (x : Route) → prefix_cmp x.prefix r.prefix ≡ Equal → old.connected.items ≡ x ∷ new.connected.items → is_preferred r x ≡ true → Pushes old.made new.made r.prefix r.hops → GoesOn old new (r ∷ []) []
  put_over x at front preferred pushes =
      one_made old new (r ∷ []) [] r pushes (λ behind.
      ap (λ left. merged left (r ∷ behind)) front ∙ merged_by x new.connected.items r behind Equal at ∙ ap (λ b. (if b then r else x) ∷ merged new.connected.items behind) preferred)

  -- the front, to which it isn't preferred
  pub put_front : (x : Route) → prefix_cmp x.prefix r.prefix ≡ Equal → old.connected.items ≡ x ∷ new.connected.items → is_preferred r x ≡ false → Pushes old.made new.made x.prefix x.hops → GoesOn old new (r ∷ []) []
  put_front x at front preferred pushes =
      one_made old new (r ∷ []) [] x pushes (λ behind.
      ap (λ left. merged left (r ∷ behind)) front ∙ merged_by x new.connected.items r behind Equal at ∙ ap (λ b. (if b then r else x) ∷ merged new.connected.items behind) preferred)

  -- the front, which stands before it
  put_one_before : (x : Route) → prefix_cmp x.prefix r.prefix ≡ Less → old.connected.items ≡ x ∷ new.connected.items → Pushes old.made new.made x.prefix x.hops → GoesOn old new (r ∷ []) (r ∷ [])
  put_one_before x before front pushes =
      one_made old new (r ∷ []) (r ∷ []) x pushes (λ behind. ap (λ left. merged left (r ∷ behind)) front ∙ merged_by x new.connected.items r behind Less before)

-- ---- one behind the other

pub no_step : (start : Laying) (ahead : List Route) → GoesOn start start ahead ahead
no_step start ahead = record { goes_on = λ made is. (made, is, record { same = λ behind. refl }) }

pub goes_further : (a b c : Laying) (xs ys zs : List Route) → GoesOn a b xs ys → GoesOn b c ys zs → GoesOn a c xs zs
goes_further a b c xs ys zs one other = record {
  goes_on = λ made is.
      (let (more, is_more, keeps) = one.goes_on made is in
      let (most, is_most, keeps_too) = other.goes_on more is_more in (most, is_most, record { same = λ behind. keeps.same behind ∙ keeps_too.same behind }));
}

pub one_before_more : (start old new : Laying) (r x : Route) → GoesOn start old (r ∷ []) (r ∷ []) → prefix_cmp x.prefix r.prefix ≡ Less → old.connected.items ≡ x ∷ new.connected.items → Pushes old.made new.made x.prefix x.hops → GoesOn start new (r ∷ []) (r ∷ [])
one_before_more start old new r x so_far before front pushes = goes_further start old new (r ∷ []) (r ∷ []) (r ∷ []) so_far (put_one_before old new r x before front pushes)

taken_more : (start old mid new : Laying) (routes : List Route) (r : Route) → GoesOn old mid (r ∷ []) (r ∷ []) → GoesOn mid new (r ∷ []) [] → Becomes start routes old → Becomes start (routes ++ r ∷ []) new
taken_more start old mid new routes r before at becomes = record {
  goes_on = λ made is.
      (let (more, is_more, keeps) = becomes.goes_on made is in
      let (most, is_most, keeps_too) = (goes_further old mid new (r ∷ []) (r ∷ []) [] before at).goes_on more is_more in
      (most, is_most, record { same = λ behind. ap (λ rs. made ++ merged start.connected.items rs) (append_assoc routes (r ∷ []) behind) ∙ keeps.same (r ∷ behind) ∙ keeps_too.same behind }));
}

pub taken_one : (start old new : Laying) (routes : List Route) (r : Route) → GoesOn old new (r ∷ []) [] → Becomes start routes old → Becomes start (routes ++ r ∷ []) new
taken_one start old new routes r at becomes = taken_more start old old new routes r (no_step old (r ∷ [])) at becomes

pub on_done : {A E : Type 0} (result : Result A E) (P Q : Type 0) → (P → Q) → OnOk result P → OnOk result Q
on_done (Ok v) P Q next done = next done
on_done (Err e) P Q next done = tt

-- nothing is taken
pub none_more : (start old new : Laying) (r : Route) → GoesOn start old (r ∷ []) (r ∷ []) → new.connected.items ≡ old.connected.items → new.made ≡ old.made → GoesOn start new (r ∷ []) (r ∷ [])
none_more start old new r so_far same same_made = goes_further start old new (r ∷ []) (r ∷ []) (r ∷ []) so_far (record {
  goes_on = λ made is. (made, subst (IsMadeOf made) (sym same_made) is, record { same = λ behind. ap (λ left. made ++ merged left (r ∷ behind)) (sym same) });
})

-- a table is what was made, and behind it what is left
abbrev pub AreLeft : List Route → List Route → FibMaking → Type 0
AreLeft table left m = (made : List Route) × IsMadeOf made m × (table ≡ made ++ left)

pub one_left_less : (table : List Route) (x : Route) (left : List Route) (old new : FibMaking) → Pushes old new x.prefix x.hops → AreLeft table (x ∷ left) old → AreLeft table left new
one_left_less table x left old new pushes (made, is, whole) = (made ++ x ∷ [], pushes made x is refl refl, whole ∙ sym (append_assoc made (x ∷ []) left))

pub none_left : (table left : List Route) (m : FibMaking) → left ≡ [] → AreLeft table left m → IsMadeOf table m
none_left table left m none (made, is, whole) = subst (λ rs. IsMadeOf rs m) (sym (whole ∙ ap (λ rs. made ++ rs) none ∙ append-nil made)) is

pub merged_alone : (xs : List Route) → merged xs [] ≡ xs
merged_alone [] = refl
merged_alone (x ∷ xs) = ap (λ rs. x ∷ rs) (merged_alone xs)

-- the table that is prepared in the end is any that the connected routes and what was made are
pub whole_table : (l : Laying) (left : List Route) (m : FibMaking) → left ≡ [] → ((table : List Route) → AreLeft table l.connected.items l.made → AreLeft table left m) → (table : List Route) → IsLaidAs table l → IsTable table × IsMadeOf table m
whole_table l left m none so_far table (made, is, whole, up) = (up, none_left table left m none (so_far table (made, is, whole)))

pub of_tables : (made : Option (List Entry)) (P Q R : List Route → Type 0) → ((table : List Route) → R table → P table × Q table) → IfSome made (λ fib. (table : List Route) → P table → Q table → fib ≡ resolved table)
    → IfSome made (λ fib. (table : List Route) → R table → fib ≡ resolved table)
of_tables None P Q R has are = tt
of_tables (Some fib) P Q R has are = λ table r. are table (has table r).0 (has table r).1

-- where all routes of a table were taken, over the connected ones and nothing made before, it is the best of both
pub all_laid : (old new : Laying) (connected routes : List Route) → old.connected.items ≡ connected → IsMadeOf [] old.made → IsTable connected → IsTable routes → Becomes old routes new → IsLaidAs (best_routes (connected ++ routes)) new
all_laid old new connected routes same none up up-routes becomes =
    (let (more, is, keeps) = becomes.goes_on [] none in (
      more,
      is,
      sym (two_merged connected routes up up-routes) ∙ ap (λ left. merged left routes) (sym same) ∙ ap (λ rs. merged old.connected.items rs) (sym (append-nil routes)) ∙ keeps.same [] ∙ ap (λ rs. more ++ rs) (merged_alone new.connected.items),
      best_is_table (connected ++ routes),
    ))
