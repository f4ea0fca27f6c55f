-- A number that a line gets is new in a list of its kind.
use Rattle.std.proofs.Common.{◌≡◌, ℕ, Bool, true, false, ◌&&◌, not, cond, List, Option, Some, None, refl, sym, subst}
use Rattle.std.specs.Prelude.{IfSome, unwrap_or}
use Rattle.std.proofs.lemmas.Bool.{true≢false}
use Rattle.std.proofs.lemmas.Option.{none-some, cond_some}
use Rattle.rc_config.specs.AccessList.{has_sequence, no_lines}
use Rattle.rc_config.specs.Named.{named}
use Rattle.rc_config.specs.declared.access_list.AccessList.{AccessList}
use Rattle.rc_config.specs.declared.access_list.AccessListKind.{AccessListKind}
use Rattle.rc_config.specs.declared.access_list.AccessListKind.TheVariants.{Standard, Extended}
use Rattle.rc_config.specs.declared.access_list.AccessListLine.{AccessListLine}
use Rattle.rc_config.specs.declared.router_text.RouterText.{RouterText}
use Rattle.rc_gram_acl.specs.Sequence.{if_free, sequence_for, number_behind}
use Rattle.rc_config.specs.AccessList.{last_sequence}
use Rattle.std.specs.Prelude.{nat_le}
use Rattle.rc_gram_acl.specs.Lists.{same_kind, may_be, sequence_by, sequence_in, HasRoom}

same_kind-is : (a b : AccessListKind) → same_kind a b ≡ true → a ≡ b
same_kind-is Standard Standard h = refl
same_kind-is Standard Extended h = absurd (true≢false (sym h))
same_kind-is Extended Standard h = absurd (true≢false (sym h))
same_kind-is Extended Extended h = refl

and_last : (x y z : Bool) → (x && y && z) ≡ true → z ≡ true
and_last true true z h = h
and_last true false z h = absurd (true≢false (sym h))
and_last false y z h = absurd (true≢false (sym h))

not-true : (b : Bool) → not b ≡ true → b ≡ false
not-true true h = absurd (true≢false (sym h))
not-true false h = refl

free-by : (lines : List AccessListLine) (m n : ℕ) → if_free lines m ≡ Some n → has_sequence lines n ≡ false
free-by lines m n e =
    let parts = cond_some (nat_le 1 m && nat_le m 2147483647 && not (has_sequence lines m)) m n e in
    subst (λ k. has_sequence lines k ≡ false) parts.1 (not-true (has_sequence lines m) (and_last (nat_le 1 m) (nat_le m 2147483647) (not (has_sequence lines m)) parts.0))

free-for : (lines : List AccessListLine) (written : Option ℕ) (n : ℕ) → sequence_for lines written ≡ Some n → has_sequence lines n ≡ false
free-for lines (Some w) n e = free-by lines w n e
free-for lines None n e = free-by lines (number_behind (last_sequence lines)) n e

room-by : (found : Option AccessList) (kind : AccessListKind) (written : Option ℕ) (n : ℕ) → sequence_by found kind written ≡ Some n
    → ((unwrap_or found (no_lines kind)).kind ≡ kind) × (has_sequence (unwrap_or found (no_lines kind)).lines n ≡ false)
room-by None kind written n e = (refl, refl)
room-by (Some f) kind written n e = by (same_kind f.kind kind) refl e
  where
    by : (b : Bool) → same_kind f.kind kind ≡ b → cond b (sequence_for f.lines written) None ≡ Some n → (f.kind ≡ kind) × (has_sequence f.lines n ≡ false)
    by true same is = (same_kind-is f.kind kind same, free-for f.lines written n is)
    by false other is = absurd (none-some n is)

pub room : (file : RouterText) (list : List ℕ) (kind : AccessListKind) (written : Option ℕ) (r : Option ℕ) → r ≡ sequence_in file list kind written → IfSome r (HasRoom file list kind)
room file list kind written None e = tt
room file list kind written (Some n) e = room-by (named file.lists.access_lists list) kind written n (sym e)

-- a list that may be of a kind is, where it is there
pub kind-fits : (found : Option AccessList) (kind : AccessListKind) → may_be found kind ≡ true → (unwrap_or found (no_lines kind)).kind ≡ kind
kind-fits None kind h = refl
kind-fits (Some f) kind h = same_kind-is f.kind kind h
