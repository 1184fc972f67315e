-- The dependencies of a message by their places.
use Rattle.std.specs.Prelude.{◌≡◌, List, [], ℕ, ◌+◌, ◌*◌, ◌<◌, length, take, drop, get_or}
use Rattle.std.proofs.Common.{◌∙◌, ap, drop-drop}
use Rattle.std.proofs.Math.ListN.{get_or-map}
use Rattle.std.proofs.lemmas.List.{length-map}
use Rattle.model.specs.Bytes.{number, field, parts}
use Rattle.model.specs.Layout.{header_size, sequence_size}
use Rattle.model.specs.Message.{Message, dependency_count, dependencies_of}
use Rattle.laws_wire.specs.BytesLaws.{length_parts, parts_at}

pub length_dependencies : (m : Message) → length (dependencies_of m) ≡ dependency_count m
length_dependencies m = length-map (parts (dependency_count m) sequence_size (drop header_size m)) number ∙ length_parts (dependency_count m) sequence_size (drop header_size m)

pub dependency_at : (m : Message) (k : ℕ) → k < dependency_count m → get_or (dependencies_of m) k 0 ≡ field m (header_size + sequence_size * k) sequence_size
dependency_at m k h =
    get_or-map number (parts (dependency_count m) sequence_size (drop header_size m)) k [] ∙ ap number (parts_at (dependency_count m) sequence_size (drop header_size m) k h)
    ∙ ap (λ (l : List ℕ). number (take sequence_size l)) (drop-drop (sequence_size * k) header_size m)
