-- A purge (document 02, Paper 4): what a state becomes when the first log deltas go.
use Rattle.std.specs.Prelude.{not, List, ℕ, max, take}
use Rattle.model.specs.Lists.{has, keep, greatest}
use Rattle.model.specs.Message.{Message, sequence_of, group_of}
use Rattle.model.specs.Tops.{raise_tops}
use Rattle.model.specs.Order.{Origin, State, holding, sequences_of, effective_block, log_of}
use Rattle.model.specs.Setpoints.{start_values, run_log}

-- What a log starts from once these deltas, its first ones, are gone: "the setpoints after them become the base values"; their lines' floors
-- are raised to them; the greatest purged effective block and group count them too.
unfoldable pub origin_past : State → List Message → Origin
origin_past S gone = record {
  floors = raise_tops (sequences_of gone) S.origin.floors;
  base = run_log gone (start_values S);
  block = max S.origin.block (greatest (effective_block S) gone);
  group = max S.origin.group (greatest group_of gone);
}

-- The deltas of a set that are none of these.
abbrev pub without : List Message → List Message → List Message
without gone l = keep (λ m. not (has (sequence_of m) (sequences_of gone))) l

-- "drops the first K log messages"; the others stay, held ones too.
unfoldable pub purge_first : ℕ → State → State
purge_first K S = let gone = take K (log_of S) in holding (origin_past S gone) (without gone S.deltas)
