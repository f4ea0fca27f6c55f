use Rattle.std.proofs.Common.{◌≡◌, ℕ, ◌+◌, List, length, ap, subst, ◌∙◌}
use Rattle.rc_nodes.specs.declared.words.Ref.{Ref}
use Rattle.rc_spread.specs.Alone.{ArePut, KnowsThese}
use Rattle.rc_spread.proofs.AloneLaws.{after_put}
use Rattle.rc_spread.proofs.alone.next_alone.Goals as goal

pub returns-clause-after : goal.returns-clause-after
returns-clause-after g c =
    let sets = g.S.Spread.set_after c.args.spread.now in
    let w = c.sets_at.new.work in
    let positions = c.in-Ok.positions.items in
    let made = c.in_ok-made.made.items in
    let earlier = c.args.sets.now.items in
    let now = c.put_made.new.sets.items in
    let marks = c.put_made.new.fresh.items in
    let many : length made ≡ length positions = c.in_ok-made.ensures.many ∙ ap length c.as_slice-3.ensures.value in
    let known : KnowsThese w made positions (sets (c.args.number + 1)) = subst (λ (qs : List ℕ). KnowsThese w made qs (sets (c.args.number + 1))) c.as_slice-3.ensures.value c.in_ok-made.ensures.made in
    let put : ArePut earlier positions made (length positions) now marks =
    subst (λ (rs : List Ref). ArePut earlier positions rs (length positions) now marks) c.as_slice-5.ensures.value
    (subst (λ (qs : List ℕ). ArePut earlier qs c.as_slice-5.result.now (length qs) now marks) c.as_slice-4.ensures.value c.in-Ok-put_made.ensures.put) in
    after_put c.requires.seat c.in_ok-made.ensures.seat c.in_ok-made.ensures.keeps c.requires.within.as_many c.requires.rest c.requires.after c.requires.listed c.in-Ok.ensures many known put
