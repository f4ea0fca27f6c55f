use Rattle.std.proofs.Common.{◌↔◌, ◌∙◌, ◌+◌, Bool, List, ℕ, ap, length, subst, sym}
use Rattle.std.specs.Prelude.{IsTrue}
use Rattle.rc_config.specs.Down.{is_down_within, IsDown}
use Rattle.rc_config.proofs.DownLaws.{down_decides}
use Rattle.rc_config.proofs.router_text.RouterText.is_down.Goals as goal

pub returns-clause-down : goal.returns-clause-down
returns-clause-down c =
    let bound = ap (λ (text : List ℕ). is_down_within (length text + 1) c.args.self.now.interfaces c.args.name.now) c.as_bytes.ensures.text in
    subst (λ (b : Bool). IsTrue b ↔ IsDown c.args.self.now.interfaces c.args.name.now) (sym (c.is_down_within.ensures ∙ bound)) (down_decides c.args.self.now.interfaces c.args.name.now)
