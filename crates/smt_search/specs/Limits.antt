-- How long to search.
use Rattle.std.specs.Prelude.{ℕ}
use Rattle.smt_search.specs.declared.limit.Limit.{Limit}

-- how many conflicts are left to learn from
abbrev pub left : Limit → ℕ
left l = l.conflicts
