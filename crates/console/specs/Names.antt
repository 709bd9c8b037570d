-- Positions by their names, or by their numbers where they have none.
use Rattle.std.specs.Prelude.{◌≡◌, ℕ, ◌-◌, ◌<◌, ◌≤◌, ◌⊎◌, List, [], ◌++◌, length, codes, string_bytes, String, Some, None, decimal, Option, slice_index_or}
use Rattle.std.specs.declared.alloc.Global.{Global}
use Rattle.std.specs.List.{join_by}
use Rattle.console.specs.Numbers.{number_of}

-- the name of number n; some letters and the number where it has no name
abbrev pub called_text : List (List ℕ) → List ℕ → ℕ → List ℕ
called_text names letters n = slice_index_or names n (letters ++ decimal n)

-- the name of position n; its number where it has no name
abbrev pub name_text : List (List ℕ) → ℕ → List ℕ
name_text names n = called_text names [] n

abbrev pub Named : List (List ℕ) → List ℕ → ℕ → Type 0
Named names word n = (n < length names) × (slice_index_or names n [] ≡ word)

-- the first position that has the name
abbrev pub FirstIs : List (List ℕ) → List ℕ → Option ℕ → Type 0
FirstIs names word (Some n) = Named names word n × ((k : ℕ) → k < n → Named names word k → ⊥)
FirstIs names word None = (k : ℕ) → Named names word k → ⊥

-- the first position that has the name; where none has it, the one whose number the word is, if there is one
abbrev pub FoundIs : List (List ℕ) → ℕ → List ℕ → Option ℕ → Type 0
FoundIs names count word (Some n) =
    FirstIs names word (Some n) ⊎ (FirstIs names word None × (number_of word ≡ Some n) × (n < count))
FoundIs names count word None = FirstIs names word None × ((n : ℕ) → number_of word ≡ Some n → count ≤ n)

-- what positions there are: their names with commas between them, or their numbers where there are no names
abbrev pub KnownIs : List (String Global) → ℕ → List ℕ → Type 0
KnownIs names count text =
    (length names ≡ 0 → text ≡ codes "0 to " ++ decimal (count - 1)) × (0 < length names → text ≡ join_by string_bytes (codes ", ") names)
