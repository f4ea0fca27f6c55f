-- How items are shared among workers.
use Rattle.std.specs.Prelude.{ℕ, ◌*◌, ◌/◌}

-- Worker w of W has those of n items from n w / W up to n (w + 1) / W, rounded down: the item with which its share begins. That of the worker
-- behind the last one is the number of items.
abbrev pub share_start : ℕ → ℕ → ℕ → ℕ
share_start n workers worker = n * worker / workers
