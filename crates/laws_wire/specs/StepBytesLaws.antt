-- Records in bytes: a record of at most eight pairs has 80.
use Rattle.std.specs.Prelude.{◌≡◌, refl, List, ◌++◌, map, ℕ, ◌*◌, ◌-◌, ◌≤◌, length, replicate}
use Rattle.std.proofs.Common.{sym, ◌∙◌, ap, arith, length-append}
use mathlib.Core.List.Memᴰ
use Rattle.std.proofs.lemmas.List.{length-map, length-replicate}
use Rattle.model.specs.Lists.{◌∈◌}
use Rattle.model.specs.Bytes.{bytes, word}
use Rattle.model.specs.Layout.{most_commands, value_size, pairs_at, pair_tag_size, pair_size, step_size}
use Rattle.model.specs.Steps.{Step, undo, execute, Pair, StepRecord, head_bytes, pair_bytes, pairs_bytes, record_bytes, records_bytes}
use Rattle.laws_wire.specs.BytesLaws.{length_join}

pub length_step : (s : Step) (count : ℕ) → length (head_bytes s count) ≡ pairs_at
length_step (undo s) count = refl
length_step (execute s) count = refl

pub length_pair : (p : Pair) → length (pair_bytes p) ≡ pair_size
length_pair p = length-append (bytes pair_tag_size p.tag) (bytes value_size (word p.value)) ∙ refl

pub length_pairs : (l : List Pair) → length (pairs_bytes l) ≡ pair_size * length l
length_pairs l =
    length_join pair_size (map pair_bytes l) (λ b k. let r = Memᴰ.of_map pair_bytes l k in ap length (sym r.2) ∙ length_pair r.0)
    ∙ omega (arith, length-map l pair_bytes)

-- A record that has room for its pairs.
abbrev pub Fits : StepRecord → Type 0
Fits r = length r.pairs ≤ most_commands

pub length_record : (r : StepRecord) → Fits r → length (record_bytes r) ≡ step_size
unfolding record_bytes
length_record r fits =
    let count = length r.pairs in
    length-append (head_bytes r.step count ++ pairs_bytes r.pairs) (replicate (pair_size * (most_commands - count)) 0)
    ∙ omega (
      arith,
      length-append (head_bytes r.step count) (pairs_bytes r.pairs),
      length_step r.step count,
      length_pairs r.pairs,
      length-replicate {A = ℕ} (pair_size * (most_commands - count)) 0,
    )

pub length_records_bytes : (l : List StepRecord) → ((r : StepRecord) → r ∈ l → Fits r) → length (records_bytes l) ≡ step_size * length l
length_records_bytes l fits =
    length_join step_size (map record_bytes l) (λ b k. let r = Memᴰ.of_map record_bytes l k in ap length (sym r.2) ∙ length_record r.0 (fits r.0 r.1))
    ∙ omega (arith, length-map l record_bytes)
