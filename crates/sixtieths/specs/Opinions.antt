-- What an opinion says, and when it is no agreement.
use Rattle.std.specs.Prelude.{◌≡◌, List, All, Bool, true, false, Option, Some, None, Result, Ok, Err, option_map}
use Rattle.sixtieths.specs.Judging.{Judged, kind_is}
use Rattle.sixtieths.specs.declared.comparison.Finding.{Finding}
use Rattle.sixtieths.specs.declared.comparison.Finding.TheVariants.{Exact, Later, Missing, Contradiction}
use Rattle.sixtieths.specs.declared.opinions.First.{First}
use Rattle.sixtieths.specs.declared.opinions.Opinion.{Opinion}
use Rattle.sixtieths.specs.declared.trails.Astray.{Astray}

-- its kind and its finding are those of the answer and of the first time on the grid
abbrev pub OpinionIs : Bool → Opinion → Type 0
OpinionIs way o = (o.kind ≡ kind_is o.asked way) × Judged o.asked (option_map (λ (f : First). f.time) o.first) o.finding

-- each is such an opinion
abbrev pub AllOpinions : List Opinion → Type 0
AllOpinions os = All (λ (o : Opinion). (way : Bool) × OpinionIs way o) os

-- whether moves went astray
abbrev pub astray : Result (Unit {0}) Astray → Bool
astray (Ok _) = false
astray (Err _) = true

-- whether there is a run on the grid that is none
abbrev pub no_run : Option First → Bool
no_run None = false
no_run (Some f) = astray f.followed

-- what a finding and a run say together
abbrev pub differs_by : Finding → Option First → Bool
differs_by Exact f = no_run f
differs_by Later f = no_run f
differs_by Missing f = no_run f
differs_by Contradiction f = true

-- the answer and the grid contradict each other, or the run of the grid is none
abbrev pub differing : Opinion → Bool
differing o = differs_by o.finding o.first
