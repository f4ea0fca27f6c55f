-- Worked cases of interfaces that are down, each by computation.
use Rattle.std.specs.Prelude.{◌≡◌, ℕ, true, false, List, [], ◌∷◌, Some, None, codes, refl}
use Rattle.rc_config.specs.declared.interface.Interface.{Interface}
use Rattle.rc_config.specs.Interface.{fresh}
use Rattle.rc_config.specs.MaskedAddr.{MaskedAddr}
use Rattle.rc_config.specs.Down.{parent_of, is_down}

abbrev shut_with : List MaskedAddr → Interface
shut_with addresses = record fresh { secondary = addresses; shutdown = true }

abbrev first : List ℕ
first = codes "Gi0/0"

abbrev sub : List ℕ
sub = codes "Gi0/0.10"

pub parent_of_subinterface : parent_of sub ≡ Some first
parent_of_subinterface = refl

-- the last point counts
pub parent_of_sub_subinterface : parent_of (codes "Gi0/0.10.5") ≡ Some sub
parent_of_sub_subinterface = refl

pub no_number_no_parent : parent_of (codes "Gi0/0.x") ≡ None
no_number_no_parent = refl

pub number_with_a_letter : parent_of (codes "Gi0/0.1x") ≡ None
number_with_a_letter = refl

pub no_digit_no_parent : parent_of (codes "Gi0/0.") ≡ None
no_digit_no_parent = refl

pub no_point_no_parent : parent_of first ≡ None
no_point_no_parent = refl

pub no_front_no_parent : parent_of (codes ".10") ≡ None
no_front_no_parent = refl

-- a subinterface is down with its parent
pub down_with_parent : is_down ((first, shut_with []) ∷ (sub, fresh) ∷ []) sub ≡ true
down_with_parent = refl

-- wherever that stands
pub down_with_later_parent : is_down ((sub, fresh) ∷ (first, shut_with []) ∷ []) sub ≡ true
down_with_later_parent = refl

pub up_with_parent : is_down ((first, fresh) ∷ (sub, fresh) ∷ []) sub ≡ false
up_with_parent = refl

-- a parent that isn't declared shuts nothing
pub up_without_parent : is_down ((codes "Gi0/1", shut_with []) ∷ (sub, fresh) ∷ []) sub ≡ false
up_without_parent = refl

-- a parent isn't down with its subinterface
pub up_over_subinterface : is_down ((first, fresh) ∷ (sub, shut_with []) ∷ []) first ≡ false
up_over_subinterface = refl

-- a parent's parent counts too, where the parent is declared
pub down_with_grandparent : is_down ((first, shut_with []) ∷ (sub, fresh) ∷ (codes "Gi0/0.10.5", fresh) ∷ []) (codes "Gi0/0.10.5") ≡ true
down_with_grandparent = refl

pub up_with_parent_undeclared : is_down ((first, shut_with []) ∷ (codes "Gi0/0.10.5", fresh) ∷ []) (codes "Gi0/0.10.5") ≡ false
up_with_parent_undeclared = refl
