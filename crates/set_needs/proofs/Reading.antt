-- The sequences of a table's messages, read one after the other.
use Rattle.std.proofs.Common.{◌≡◌, refl, List, [], ◌∷◌, ◌++◌, map, ℕ, ◌+◌, ◌<◌, length, set, take, sym, ◌∙◌, ap, ap₂, arith, add-one, take-suc, take-suc-set, length-set, length-take-le}
use Rattle.std.proofs.lemmas.List.{map-append, length-map}
use Rattle.model.specs.Layout.{capacity}
use Rattle.model.specs.Message.{sequence_of}
use Rattle.model.specs.Order.{sequences_of}
use Rattle.message_sequence.specs.declared.Sequence.{Sequence}
use Rattle.message_sequence.specs.Sequence.{sequence_number}
use Rattle.set_table.specs.Table.{deltas_of, Holds}
use Rattle.set_table.specs.TableLaws.{deltas_length, table_count}
use Rattle.set_table.specs.Places.{sequence_in}
use Rattle.set_needs.specs.NameLaws.{sequence_at}

pub record Reading (pool starts : List ℕ) (q : List Sequence) (i : ℕ) : Type 0 where
  pub names : map sequence_number (take i q) ≡ take i (sequences_of (deltas_of pool starts))
  pub all : length q ≡ length starts

pub reading_none : (pool starts : List ℕ) (old : List Sequence) → Holds pool starts → length old ≡ capacity → Reading pool starts (take (length starts) old) 0
reading_none pool starts old h e = record {
  names = refl;
  all = length-take-le (length starts) old (omega (arith, table_count pool starts h));
}

pub reading_more : (pool starts : List ℕ) (q : List Sequence) (i : ℕ) (v : Sequence) → Reading pool starts q i → i < length q
    → sequence_number v ≡ sequence_in pool starts i → Reading pool starts (set q i v) (i + 1)
reading_more pool starts q i v r h e = record {
  names =
      let names = sequences_of (deltas_of pool starts) in
      ap (λ (n : ℕ). map sequence_number (take n (set q i v))) (add-one i) ∙ ap (map sequence_number) (take-suc-set q i v h)
      ∙ map-append sequence_number (take i q) (v ∷ [])
      ∙ ap₂ (λ (x : List ℕ) (y : ℕ). x ++ (y ∷ [])) r.names (e ∙ sym (sequence_at (deltas_of pool starts) i))
      ∙ sym (take-suc names i 0 (omega (arith, r.all, length-map (deltas_of pool starts) sequence_of, deltas_length pool starts)))
      ∙ ap (λ (n : ℕ). take n names) (sym (add-one i));
  all = length-set q i v ∙ r.all;
}

pub ruleset reading = (reading_none, reading_more)
