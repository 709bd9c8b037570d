-- Why an option or its value is refused.
use Rattle.std.specs.Prelude.{◌≡◌, ℕ, List, None, option_map, string_bytes, String}
use Rattle.std.specs.declared.alloc.Global.{Global}
use Rattle.console.specs.declared.options.Mistake.{Mistake}
use Rattle.console.specs.declared.options.Mistake.TheVariants.{Memory, Unknown, SecondFile, SecondOutput, Twice, NoValue, Misplaced, NoNumber}
use Rattle.console.specs.Numbers.{number_of}
use Rattle.console.specs.Nearness.{NearestIs}

-- the word is told, and is no number
abbrev pub NumberRefused : String Global → Mistake → Type 0
NumberRefused word (NoNumber option found) = (found ≡ word) × (number_of (string_bytes word) ≡ None)
NumberRefused word Memory = ⊥
NumberRefused word (Unknown found nearest) = ⊥
NumberRefused word (SecondFile found) = ⊥
NumberRefused word (SecondOutput found) = ⊥
NumberRefused word (Twice option) = ⊥
NumberRefused word (NoValue option) = ⊥
NumberRefused word (Misplaced option) = ⊥

-- the word is told, with the first of the options that is nearly it
abbrev pub OptionRefused : List (List ℕ) → String Global → Mistake → Type 0
OptionRefused options word Memory = Unit {0}
OptionRefused options word (Unknown found nearest) =
    (found ≡ word) × NearestIs options (string_bytes word) (option_map (λ option. option.now) nearest)
OptionRefused options word (SecondFile found) = ⊥
OptionRefused options word (SecondOutput found) = ⊥
OptionRefused options word (Twice option) = ⊥
OptionRefused options word (NoValue option) = ⊥
OptionRefused options word (Misplaced option) = ⊥
OptionRefused options word (NoNumber option found) = ⊥
