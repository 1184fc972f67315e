-- The invariant: the starts are those of the first `count` messages.
use Rattle.std.proofs.Common.{◌≡◌, length, take}
use Rattle.model.specs.Layout.{capacity}
use Rattle.image_table.specs.ReadingLaws.{Gathered}
use Rattle.image_table.proofs.read_table.Given as goal

abbrev pub invariant-loop-count : goal.invariant-loop-count
invariant-loop-count l = record { room : length l.starts ≡ capacity; gathered : Gathered l.b l.count (take l.count l.starts) }
