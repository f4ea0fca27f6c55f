-- A file that has room for one more interface has so many after a command that names one.
use Rattle.std.proofs.Common.{◌≡◌, ℕ, ◌-◌, ◌<◌, ◌≤◌, Bool, true, false, ◌&&◌, cond, List, [], ◌∷◌, length, None, is_none, nat_le, refl, sym, subst, arith}
use Rattle.std.proofs.lemmas.Bool.Decides.{nat_tests}
use Rattle.rc_base.specs.Name.{same_name}
use Rattle.rc_config.specs.Named.{named, with_value}
use Rattle.rc_config.specs.Update.{after}
use Rattle.rc_config.specs.declared.command.Command.{Command}
use Rattle.rc_config.specs.declared.command.Command.TheVariants as command
use Rattle.rc_config.specs.declared.router_text.RouterText.{RouterText}
use Rattle.rc_grammar.specs.File.{interface_of, is_one_too_many}

-- a value under a name makes at most one entry more, where the name is new
length-with_value : {V : Type 0} (es : List (List ℕ × V)) (name : List ℕ) (v : V) (n : ℕ) → (named es name ≡ None → length es < n) → length es ≤ n → length (with_value es name v) ≤ n
length-with_value [] name v n new few = let more : 0 < n = new refl in omega arith
length-with_value {V} (e ∷ es) name v n new few = by (same_name name e.0) refl (length-with_value es name v (n - 1))
  where
    by : (b : Bool) → same_name name e.0 ≡ b → ((named es name ≡ None → length es < n - 1) → length es ≤ n - 1 → length (with_value es name v) ≤ n - 1)
        → length (cond b ((e.0, v) ∷ es) (e ∷ with_value es name v)) ≤ n
    by true p rest = few
    by false p rest =
        let room : named es name ≡ None → length es < n - 1 = λ none. (let more : length (e ∷ es) < n = new (rw p none) in omega arith) in
        let short : length es ≤ n - 1 = omega arith in
        let made : length (with_value es name v) ≤ n - 1 = rest room short in
        omega arith

new_is_few : {V : Type 0} (es : List (List ℕ × V)) (name : List ℕ) → (nat_le 256 (length es) && is_none (named es name)) ≡ false → named es name ≡ None → length es < 256
new_is_few es name room none = let test : (nat_le 256 (length es) && true) ≡ false = rw none at room in grind (arith, nat_tests)

few-after : (r : RouterText) (c : Command) → is_one_too_many r (interface_of c) ≡ false → length r.interfaces ≤ 256 → length (after r c).interfaces ≤ 256
few-after r command.Passed room few = few
few-after r command.Remark room few = few
few-after r (command.Hostname name line) room few = few
few-after r (command.StaticRoute route) room few = few
few-after r (command.ListLine list line) room few = few
few-after r (command.MapOpened map n action) room few = few
few-after r (command.MapLine map n line) room few = few
few-after r (command.OspfOpened process) room few = few
few-after r (command.OspfLine line) room few = few
few-after r (command.BgpOpened asn) room few = few
few-after r (command.BgpLine line) room few = few
few-after r command.FamilyOpened room few = few
few-after r command.OtherFamilyOpened room few = few
few-after r command.FamilyClosed room few = few
few-after r (command.Interface name line) room few = length-with_value r.interfaces name _ 256 (new_is_few r.interfaces name room) few
few-after r (command.InterfaceLine name line) room few = length-with_value r.interfaces name _ 256 (new_is_few r.interfaces name room) few

-- of a model that a command made
pub few-made : (r made : RouterText) (c : Command) → is_one_too_many r (interface_of c) ≡ false → made ≡ after r c → length r.interfaces ≤ 256 → length made.interfaces ≤ 256
few-made r made c room is few = subst (λ (m : RouterText). length m.interfaces ≤ 256) (sym is) (few-after r c room few)
