use Rattle.std.proofs.Common.{◌≡◌, ap, ◌∙◌, true, List, Option, Some, None, IsSome, is_some, rules}
use Rattle.std.specs.Prelude.{slice_get}
use Rattle.std.specs.Iterator.{YieldsFirst}
use Rattle.rc_moves.specs.declared.walk.Move.{Move}
use Rattle.rc_walk.proofs.FirstLaws.{has_first_move}
use Rattle.rc_walk.proofs.walking.first_move.Goals as goal

yields : (xs ys : List Move) (r : Option Move) → is_some (slice_get xs 0) ≡ true → YieldsFirst (λ (left : List Move). left) xs r ys → IsSome r
yields xs ys None some y = absurd (let none : ⊥ = cc (some, ap (λ zs. is_some (slice_get zs 0)) y.0) in none)
yields xs ys (Some x) some y = search rules

pub unwrap-requires : goal.unwrap-requires
unwrap-requires c =
    let some : is_some (slice_get c.step-steps.result 0) ≡ true = ap (λ xs. is_some (slice_get xs 0)) c.step-steps.ensures ∙ has_first_move c.args.plane.now c.args.header.now c.fibs-fibs.ensures.prepared.resolved c.args.position.now in
    yields _ _ _ some c.next.ensures.steps
