-- What was found, by its copy.
use Rattle.std.proofs.Common.{◌≡◌, ℕ, List, None, Some, Option, string_bytes, String, Bor, Global, sym, subst}
use Rattle.std.specs.Option.{option_map, MatchOption, IsSomeAnd}
use Rattle.console.specs.Nearness.{NearestIs}

pub near_copy : (names : List (List ℕ)) (word : List ℕ) (found : Option (Bor (String Global))) (copy : Option (String Global)) → NearestIs names word (option_map (λ name. string_bytes name.now) found) → MatchOption found (copy ≡ None) (λ name. IsSomeAnd copy (λ text. string_bytes text ≡ string_bytes name.now)) → NearestIs names word (option_map string_bytes copy)
near_copy names word None None near is = near
near_copy names word None (Some text) near is = cc
near_copy names word (Some name) None near is = absurd is
near_copy names word (Some name) (Some text) near is =
    subst (λ (bytes : List ℕ). NearestIs names word (Some bytes)) (sym is) near
