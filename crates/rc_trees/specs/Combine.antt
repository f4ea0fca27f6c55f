-- Operations on decision trees (Bryant 1986 s.4.3).
use Rattle.std.specs.Prelude.{ℕ, Bool, true, false, not, ◌&&◌, ◌||◌, if◌then◌else◌}
use Rattle.std.specs.Ordering.{nat_cmp}
use Rattle.std.specs.declared.cmp.Ordering.TheVariants.{Less, Equal, Greater}
use Rattle.rc_trees.specs.Trees.{Tree, never, always, node, same_tree}

-- a test of a bit, left out where both sides are one tree
abbrev pub joined : ℕ → Tree → Tree → Tree
joined v low high = if same_tree low high then low else node v low high

abbrev pub constant : Bool → Tree
constant false = never
constant true = always

-- the first and not the second
abbrev pub and_not : Bool → Bool → Bool
and_not x y = x && not y

-- ---- two trees, combined by a truth table: the least variable tested on top is tested first

module _ (table : Bool → Bool → Bool) where
  -- a constant with a tree
  abbrev pub with_constant : Bool → Tree → Tree
  with_constant b never = constant (table b false)
  with_constant b always = constant (table b true)
  with_constant b (node w m n) = joined w (with_constant b m) (with_constant b n)

  -- a tree that tests v with another tree, where its two sides are combined with any tree by `low` and `high`
  abbrev pub with_node : ℕ → (Tree → Tree) → (Tree → Tree) → Tree → Tree
  with_node v low high never = joined v (low never) (high never)
  with_node v low high always = joined v (low always) (high always)
  with_node v low high (node w m n) =
      elim (nat_cmp v w) [
        | Less ↦ joined v (low (node w m n)) (high (node w m n))
        | Equal ↦ joined v (low m) (high n)
        | Greater ↦ joined w (with_node v low high m) (with_node v low high n)
      ]

  -- two trees combined by a truth table
  abbrev pub combined : Tree → Tree → Tree
  combined never t = with_constant false t
  combined always t = with_constant true t
  combined (node v l h) t = with_node v (combined l) (combined h) t

-- the headers of both sets
unfoldable pub and : Tree → Tree → Tree
and s t = combined ◌&&◌ s t

-- the headers of either set
unfoldable pub or : Tree → Tree → Tree
or s t = combined ◌||◌ s t

-- the headers of the first set that aren't in the second
unfoldable pub minus : Tree → Tree → Tree
minus s t = combined and_not s t
