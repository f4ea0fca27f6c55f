use Rattle.std.proofs.Common.{rules, ◌≡◌, ap, sym, ◌∙◌, subst, All, ◌∷◌, [], ◌++◌, map, append_assoc}
use Rattle.std.proofs.lemmas.List.Elements.{All-from_recursion, All-push, recursion_from_All}
use Rattle.rc_fib.specs.Entries.{IsFib}
use Rattle.rc_fib.specs.Forwarding.{resolved}
use Rattle.rc_route.specs.Tables.{IsRouterState}
use Rattle.rc_route.specs.declared.state.RouterState.{RouterState}
use Rattle.rc_moves.proofs.tables.fibs_of.Goals as goal

pub loop-known-preserved : goal.loop-known-preserved
loop-known-preserved c =
    let before = c.loop-known.invariant in
    let known = c.in-Some.known in
    let rest = c.pop_front.new.self.items in
    let fib = c.in_ok-of.field-0 in
    let first : c.loop-known.left.items ≡ known ∷ rest = c.in-Some.ensures.items in
    let pushed : c.push.new.self.items ≡ c.loop-known.fibs.items ++ fib ∷ [] = search rules in
    let is : fib ≡ resolved known.table = search rules in
    let all = recursion_from_All IsRouterState (known ∷ rest) (subst (All IsRouterState) first before.left) in
    record {
      value = before.value ∙ ap (λ (left : _). c.loop-known.fibs.items ++ map (λ (s : RouterState). resolved s.table) left) first
          ∙ ap (λ (table : _). c.loop-known.fibs.items ++ table ∷ map (λ (s : RouterState). resolved s.table) rest) (sym is)
          ∙ sym (append_assoc c.loop-known.fibs.items (fib ∷ []) (map (λ (s : RouterState). resolved s.table) rest))
          ∙ ap (λ (fibs : _). fibs ++ map (λ (s : RouterState). resolved s.table) rest) (sym pushed);
      in_order = subst (All IsFib) (sym pushed) (All-push IsFib c.loop-known.fibs.items fib before.in_order c.in_ok-of.ensures.in_order);
      left = All-from_recursion IsRouterState rest all.1;
    }
