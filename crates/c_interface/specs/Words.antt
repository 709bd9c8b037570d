-- How many words must be lent, as one number.
use Rattle.std.specs.Prelude.{◌≡◌, ℕ, ◌^◌, ◌<◌, ◌≤◌, ◌⊎◌}
use Rattle.search.specs.Answering.{needed}

-- 0 where the number has no place, and else the number, which is not 0
abbrev pub WordsAre : ℕ → ℕ → ℕ → Type 0
WordsAre row kinds n = ((n ≡ 0) × (2 ^ 64 ≤ needed row kinds)) ⊎ ((0 < n) × (n ≡ needed row kinds))
