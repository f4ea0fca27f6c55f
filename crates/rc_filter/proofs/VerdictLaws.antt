-- Lists line by line.
use Rattle.std.proofs.Common.{◌≡◌, Bool, true, false, cond, List, ◌∷◌, Some, refl, ap}
use Rattle.std.specs.List.{find}
use Rattle.std.specs.Option.{option_map_or}
use Rattle.rc_base.specs.declared.header.Header.{Header}
use Rattle.rc_config.specs.declared.access_list.AccessListLine.{AccessListLine}
use Rattle.rc_filter.specs.Verdict.{matches, permits, first_action}

-- a first line that matches decides
pub first_action-match : (l : AccessListLine) (lines : List AccessListLine) (h : Header) → matches l h ≡ true → first_action (l ∷ lines) h ≡ permits l.action
first_action-match l lines h is = ap (λ b. option_map_or (λ (m : AccessListLine). permits m.action) (cond b (Some l) (find (λ m. matches m h) lines)) false) is

-- and one that doesn't match is as if it weren't there
pub first_action-other : (l : AccessListLine) (lines : List AccessListLine) (h : Header) → matches l h ≡ false → first_action (l ∷ lines) h ≡ first_action lines h
first_action-other l lines h is = ap (λ b. option_map_or (λ (m : AccessListLine). permits m.action) (cond b (Some l) (find (λ m. matches m h) lines)) false) is

-- so a list is read line by line
pub first_action-cases : (l : AccessListLine) (lines : List AccessListLine) (h : Header) → first_action (l ∷ lines) h ≡ cond (matches l h) (permits l.action) (first_action lines h)
first_action-cases l lines h = by (matches l h)
  where
    by : (b : Bool) → option_map_or (λ (m : AccessListLine). permits m.action) (cond b (Some l) (find (λ m. matches m h) lines)) false ≡ cond b (permits l.action) (first_action lines h)
    by true = refl
    by false = refl
