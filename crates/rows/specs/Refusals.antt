-- How the rules of a row are told.
use Rattle.std.specs.Prelude.{ℕ, List, ◌++◌, codes, decimal}
use Rattle.rows.specs.declared.refusals.Rule.{Rule}
use Rattle.rows.specs.declared.refusals.Rule.TheVariants.{TooLong, Ends, Clocks, Locations, Clock, Relation, LowerBound, Bound, Location}

-- what is wrong at the word
abbrev pub rule_text : Rule → List ℕ
rule_text TooLong = codes "more than " ++ (decimal 16384 ++ codes " words")
rule_text Ends = codes "a row that ends in the middle"
rule_text Clocks = codes "not 1 to " ++ (decimal 8 ++ codes " clocks")
rule_text Locations = codes "not 1 to " ++ (decimal 256 ++ codes " locations")
rule_text Clock = codes "no such clock"
rule_text Relation = codes "no such relation"
rule_text LowerBound = codes "an invariant that bounds a clock from below"
rule_text Bound = codes "a number above " ++ decimal 10000
rule_text Location = codes "no such location"
