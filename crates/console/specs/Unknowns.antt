-- What a word that names no position is told with.
use Rattle.std.specs.Prelude.{◌≡◌, ℕ, List, map, option_map, string_bytes, String}
use Rattle.std.specs.declared.alloc.Global.{Global}
use Rattle.console.specs.Names.{KnownIs}
use Rattle.console.specs.Nearness.{NearestIs}
use Rattle.console.specs.declared.positions.Unknown.{Unknown}

-- the word, the first name that is nearly it, and what positions there are
abbrev pub UnknownIs : List (String Global) → ℕ → List ℕ → Unknown → Type 0
UnknownIs names count word unknown =
    (string_bytes unknown.word ≡ word) × NearestIs (map string_bytes names) word (option_map string_bytes unknown.nearest)
    × KnownIs names count (string_bytes unknown.known)
