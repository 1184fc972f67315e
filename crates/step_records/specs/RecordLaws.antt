-- A delta's record of either kind: its parts, and that they are written.
use Rattle.std.specs.Prelude.{◌≡◌, refl, List, ◌∷◌, ◌++◌, ℕ, ◌+◌, ◌≤◌, T, ℤ, length, drop}
use Rattle.std.proofs.Common.{sym, ◌∙◌, ap, ap₂}
use Rattle.std.proofs.Math.Seq.{paste}
use Rattle.model.specs.Bytes.{bytes}
use Rattle.model.specs.Layout.{command_size, sequence_size, pair_count_size, pairs_at, step_size}
use Rattle.model.specs.Message.{Message, dependency_count, command_count, commands_start, commands_of, sequence_of, passes}
use Rattle.model.specs.Setpoints.{Change, changes_of}
use Rattle.model.specs.Steps.{Step, Pair, StepRecord, execution_of, undo_of, head_bytes, record_bytes}
use Rattle.laws_wire.specs.BytesLaws.{length_parts}
use Rattle.laws_wire.specs.RecordLaws.{length_changes, execution_fits, undo_fits}
use Rattle.laws_wire.specs.StepBytesLaws.{Fits}
use Rattle.step_pairs.specs.declared.kinds.Kind.{Kind}
use Rattle.step_pairs.specs.declared.kinds.Kind.TheVariants.{Undo, Execute}
use Rattle.step_pairs.specs.Kinds.{pairs_by}
use Rattle.step_pairs.specs.KindLaws.{pairs_count}
use Rattle.step_pairs.specs.Pairs.{with_pairs}
use Rattle.step_records.specs.Frame.{framed}
use Rattle.step_records.specs.FrameLaws.{record_parts}
use Rattle.step_records.specs.Records.{first_by, step_by, record_by}

-- ---- of either kind: the first byte, the step, the pairs, and room for them
first_bytes : (kind : Kind) (count s : ℕ) → first_by kind ∷ bytes pair_count_size count ++ bytes sequence_size s ≡ head_bytes (step_by kind s) count
first_bytes Undo count s = refl
first_bytes Execute count s = refl

record_step : (kind : Kind) (m : Message) (values : List ℤ) → step_by kind (sequence_of m) ≡ (record_by kind m values).step
unfolding undo_of execution_of
record_step Undo m values = refl
record_step Execute m values = refl

record_pairs : (kind : Kind) (m : Message) (values : List ℤ) → pairs_by kind (changes_of m values) ≡ (record_by kind m values).pairs
unfolding undo_of execution_of
record_pairs Undo m values = refl
record_pairs Execute m values = refl

pub record_fits : (kind : Kind) (m : Message) (values : List ℤ) → T (passes m) → Fits (record_by kind m values)
record_fits Undo m values t = undo_fits m values t
record_fits Execute m values t = execution_fits m values t

-- ---- as many pairs as commands
changes_count : (m : Message) (values : List ℤ) → length (changes_of m values) ≡ command_count m
unfolding changes_of
changes_count m values = length_changes (commands_of m) values ∙ length_parts (command_count m) command_size (drop (commands_start (dependency_count m)) m)

record_count : (kind : Kind) (m : Message) (values : List ℤ) → length (record_by kind m values).pairs ≡ command_count m
record_count kind m values = ap length (sym (record_pairs kind m values)) ∙ pairs_count kind (changes_of m values) ∙ changes_count m values

-- ---- once the frame is written, the pairs of the delta's changes complete its record
pub record_written : (b : List ℕ) (at : ℕ) (kind : Kind) (m : Message) (values : List ℤ) {first : ℕ} {kept : List Change} {frame written : List ℕ} → at + step_size ≤ length b → T (passes m)
    → first ≡ first_by kind → frame ≡ framed b at (first ∷ bytes pair_count_size (command_count m) ++ bytes sequence_size (sequence_of m)) (command_count m)
    → kept ≡ changes_of m values → written ≡ with_pairs frame (at + pairs_at) (pairs_by kind kept) → written ≡ paste b at (record_bytes (record_by kind m values)) step_size
record_written b at kind m values h t one f k w =
    w ∙ ap₂ (λ (x : List ℕ) (l : List Pair). with_pairs x (at + pairs_at) l) (f ∙ ap (λ (x : List ℕ). framed b at x count) (head one)) (ap (pairs_by kind) k ∙ record_pairs kind m values)
    ∙ ap (λ (n : ℕ). with_pairs (framed b at (head_bytes r.step n) n) (at + pairs_at) r.pairs) (sym (record_count kind m values))
    ∙ record_parts b at r h (record_fits kind m values t)
  where
    count : ℕ
    count = command_count m

    r : StepRecord
    r = record_by kind m values

    head : {first : ℕ} → first ≡ first_by kind → first ∷ bytes pair_count_size count ++ bytes sequence_size (sequence_of m) ≡ head_bytes r.step count
    head one =
        ap (λ (x : ℕ). x ∷ bytes pair_count_size count ++ bytes sequence_size (sequence_of m)) one
        ∙ first_bytes kind count (sequence_of m) ∙ ap (λ (s : Step). head_bytes s count) (record_step kind m values)
