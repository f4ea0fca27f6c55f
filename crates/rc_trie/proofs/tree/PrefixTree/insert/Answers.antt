use Rattle.std.proofs.Common.{◌≡◌, ◌<◌, List, [], ◌∷◌, ◌++◌, length, map, set, ap, sym, ◌∙◌, subst, arith}
use Rattle.std.specs.List.{insert}
use Rattle.rc_trie.specs.declared.row.Row.{Row}
use Rattle.rc_trie.specs.Tree.{with_row}
use Rattle.rc_trie.specs.Search.{AreRows, IsPlace, row_of}
use Rattle.rc_trie.proofs.InsertLaws.{at_end, in_front_of, in_order_with, in_place_of, other_by_test, same_by_test}
use Rattle.rc_trie.proofs.tree.PrefixTree.insert.Goals as goal

pub invariant_of-self-then-at-len : goal.invariant_of-self-then-at-len
invariant_of-self-then-at-len c =
    let all = c.self.inside.rows.items in
    let p = c.args.prefix in
    let v = c.args.value in
    let m = c.place-at.result in
    let long : c.len.result ≡ length all = c.len.ensures ∙ sym c.as_slice.ensures.len ∙ ap length c.as_slice.ensures.value in
    let place : IsPlace all p m = subst (λ rows. IsPlace rows p m) c.as_slice.ensures.value c.place-at.ensures in
    let made : List Row = all ++ record { prefix = p; value = v } ∷ [] in
    subst AreRows (sym c.in_ok-push.ensures.items) (in_order_with all made p v c.self.invariant c.network-network.ensures.canonical (at_end all p v m place (c.if-at-len.true ∙ long)))

pub returns-then-at-len-clause-rows : goal.returns-then-at-len-clause-rows
returns-then-at-len-clause-rows c =
    let all = c.self.inside.rows.items in
    let p = c.args.prefix in
    let v = c.args.value in
    let m = c.place-at.result in
    let long : c.len.result ≡ length all = c.len.ensures ∙ sym c.as_slice.ensures.len ∙ ap length c.as_slice.ensures.value in
    let place : IsPlace all p m = subst (λ rows. IsPlace rows p m) c.as_slice.ensures.value c.place-at.ensures in
    ap (map row_of) c.in_ok-push.ensures.items ∙ at_end all p v m place (c.if-at-len.true ∙ long) ∙ ap (λ xs. with_row xs p v) c.self.view_is

pub invariant_of-self-then-eq : goal.invariant_of-self-then-eq
invariant_of-self-then-eq c =
    let all = c.self.inside.rows.items in
    let p = c.args.prefix in
    let v = c.args.value in
    let m = c.place-at.result in
    let r = c.index.result.now in
    let long : c.len.result ≡ length all = c.len.ensures ∙ sym c.as_slice.ensures.len ∙ ap length c.as_slice.ensures.value in
    let place : IsPlace all p m = subst (λ rows. IsPlace rows p m) c.as_slice.ensures.value c.place-at.ensures in
    let within = place.within in
    let less : m < length all = omega (arith, c.if-at-len.false, long) in
    let same : r.prefix ≡ p = same_by_test r.prefix p (sym c.eq.ensures ∙ c.if-eq.true) in
    in_order_with all (set all m (record { prefix = p; value = v })) p v c.self.invariant c.network-network.ensures.canonical (in_place_of all p v m place less r c.index.ensures same)

pub returns-then-eq-clause-rows : goal.returns-then-eq-clause-rows
returns-then-eq-clause-rows c =
    let all = c.self.inside.rows.items in
    let p = c.args.prefix in
    let v = c.args.value in
    let m = c.place-at.result in
    let r = c.index.result.now in
    let long : c.len.result ≡ length all = c.len.ensures ∙ sym c.as_slice.ensures.len ∙ ap length c.as_slice.ensures.value in
    let place : IsPlace all p m = subst (λ rows. IsPlace rows p m) c.as_slice.ensures.value c.place-at.ensures in
    let within = place.within in
    let less : m < length all = omega (arith, c.if-at-len.false, long) in
    let same : r.prefix ≡ p = same_by_test r.prefix p (sym c.eq.ensures ∙ c.if-eq.true) in
    in_place_of all p v m place less r c.index.ensures same ∙ ap (λ xs. with_row xs p v) c.self.view_is

pub invariant_of-self-2 : goal.invariant_of-self-2
invariant_of-self-2 c =
    let all = c.self.inside.rows.items in
    let p = c.args.prefix in
    let v = c.args.value in
    let m = c.place-at.result in
    let r = c.index.result.now in
    let long : c.len.result ≡ length all = c.len.ensures ∙ sym c.as_slice.ensures.len ∙ ap length c.as_slice.ensures.value in
    let place : IsPlace all p m = subst (λ rows. IsPlace rows p m) c.as_slice.ensures.value c.place-at.ensures in
    let within = place.within in
    let less : m < length all = omega (arith, c.if-at-len.false, long) in
    let other : r.prefix ≡ p → ⊥ = other_by_test r.prefix p (sym c.eq.ensures ∙ c.if-eq.false) in
    subst AreRows (sym c.in_ok-insert.ensures.items) (in_order_with all (insert all m (record { prefix = p; value = v })) p v c.self.invariant c.network-network.ensures.canonical (in_front_of all p v m place less r c.index.ensures other))

pub returns-clause-rows : goal.returns-clause-rows
returns-clause-rows c =
    let all = c.self.inside.rows.items in
    let p = c.args.prefix in
    let v = c.args.value in
    let m = c.place-at.result in
    let r = c.index.result.now in
    let long : c.len.result ≡ length all = c.len.ensures ∙ sym c.as_slice.ensures.len ∙ ap length c.as_slice.ensures.value in
    let place : IsPlace all p m = subst (λ rows. IsPlace rows p m) c.as_slice.ensures.value c.place-at.ensures in
    let within = place.within in
    let less : m < length all = omega (arith, c.if-at-len.false, long) in
    let other : r.prefix ≡ p → ⊥ = other_by_test r.prefix p (sym c.eq.ensures ∙ c.if-eq.false) in
    ap (map row_of) c.in_ok-insert.ensures.items ∙ in_front_of all p v m place less r c.index.ensures other ∙ ap (λ xs. with_row xs p v) c.self.view_is
