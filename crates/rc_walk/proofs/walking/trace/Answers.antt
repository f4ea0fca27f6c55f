use Rattle.std.proofs.Common.{◌≡◌, ap, sym, subst, List, [], ◌∷◌, ◌++◌, length, arith}
use Rattle.std.proofs.lemmas.List.{length-append}
use Rattle.rc_base.specs.declared.position.Pos.{Pos}
use Rattle.rc_walk.proofs.FirstLaws.{IsUnderWay, setting_out, goes_on, few_walked, put_new}
use Rattle.rc_walk.proofs.walking.trace.Goals as goal

pub loop-kind-init : goal.loop-kind-init
loop-kind-init c =
    let plane = c.args.plane.now in
    let h = c.args.header.now in
    subst (λ (ps : List Pos). IsUnderWay plane h c.args.position ps c.args.position) (sym c.in_ok-walked.ensures) (setting_out plane h c.args.position)

pub loop-kind-preserved : goal.loop-kind-preserved
loop-kind-preserved c =
    let plane = c.args.plane.now in
    let h = c.args.header.now in
    let t = c.in-Next.next in
    let put = put_new c.loop-kind.walked t c.in_ok-put-in-Next.field-0 c.put.new.self c.in_ok-put-in-Next.ensures.added c.in_ok-put-in-Next.ensures.positions c.if-not-branch.false in
    subst (λ (ps : List Pos). IsUnderWay plane h c.args.position ps t) (sym put.1) (goes_on plane h c.args.position c.loop-kind.walked c.loop-kind.here c.loop-kind.invariant t c.in-Next.ensures put.0)

pub loop-kind-smaller : goal.loop-kind-smaller
loop-kind-smaller c =
    let plane = c.args.plane.now in
    let h = c.args.header.now in
    let t = c.in-Next.next in
    let put = put_new c.loop-kind.walked t c.in_ok-put-in-Next.field-0 c.put.new.self c.in_ok-put-in-Next.ensures.added c.in_ok-put-in-Next.ensures.positions c.if-not-branch.false in
    let few = few_walked plane h c.args.position (c.loop-kind.walked ++ t ∷ []) t (goes_on plane h c.args.position c.loop-kind.walked c.loop-kind.here c.loop-kind.invariant t c.in-Next.ensures put.0) in
    let long : length c.put.new.self ≡ length (c.loop-kind.walked ++ t ∷ []) = ap length put.1 in
    omega (arith, few, long, length-append c.loop-kind.walked (t ∷ []))
