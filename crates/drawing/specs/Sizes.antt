-- How many numbers each part of a clockwork takes in the row, and the room that is left for more.
use Rattle.std.specs.Prelude.{◌≡◌, ℕ, ◌+◌, ◌*◌, vec_items, vec_len}
use Rattle.std.specs.List.{sum_by}
use Rattle.clockworks.specs.declared.parts.Position.{Position}
use Rattle.clockworks.specs.declared.parts.Step.{Step}
use Rattle.clockworks.specs.declared.parts.Clockwork.{Clockwork}
use Rattle.drawing.specs.declared.reader.Comparison.{Comparison}
use Rattle.drawing.specs.declared.reader.Comparison.TheVariants.{One, Equal}
use Rattle.drawing.specs.declared.room.Room.{Room}

-- `=` stands for two tests
abbrev pub test_count : Comparison → ℕ
test_count (One r) = 1
test_count Equal = 2

abbrev pub position_size : Position → ℕ
position_size p = 1 + 3 * vec_len p.tests

abbrev pub step_size : Step → ℕ
step_size s = 4 + 3 * vec_len s.tests + vec_len s.resets

abbrev pub parts_size : Clockwork → ℕ
parts_size c = sum_by position_size (vec_items c.positions) + sum_by step_size (vec_items c.steps)

-- what has come to `now` numbers, and had `before` of them, took the room of those that came
abbrev pub Took : Room → Room → ℕ → ℕ → Type 0
Took old new before now = new.left + now ≡ old.left + before
