-- A start put in where those behind it were moved one on.
use Rattle.std.proofs.Common.{◌≡◌, List, ℕ, ◌+◌, ◌-◌, ◌≤◌, ◌<◌, length, take, set}
use Rattle.std.specs.List.{CopiedTo, SameBelow}
use Rattle.set_table.specs.Table.{insert_at}
use Rattle.set_table.specs.InsertLaws.{moved_copied, moved_insert}

pub copied_insert : (l now : List ℕ) (count p at : ℕ) → length now ≡ length l → CopiedTo l now p (p + 1) (count - p) → SameBelow l now (p + 1)
    → p ≤ count → count < length l → take (count + 1) (set now p at) ≡ insert_at p at (take count l)
copied_insert l now count p at size copied below h q = moved_insert l count p at now (moved_copied l now count p size copied below h) h q
