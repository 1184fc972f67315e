-- A late arrival only squeezes in: the log of a set is the log of a larger one, with the others left out.
use Rattle.std.specs.Prelude.{◌≡◌, ◌↔◌, List, T}
use Rattle.std.proofs.Math.Path.{refl}
use Rattle.std.proofs.Common.{sym, ◌∙◌, ap}
use mathlib.Core.List.Memᴰ
use Rattle.model.specs.Lists.{◌∈◌, has, keep}
use Rattle.model.specs.Message.{Message, sequence_of}
use Rattle.model.specs.Order.{Origin, State, holding, Ascending, sequences_of, needs, key_of, less, log_of}
use Rattle.laws_order.specs.KeepLaws.{keep_map}
use Rattle.laws_order.specs.TestLaws.{has→∈, ∈→has}
use Rattle.laws_order.specs.KeyOrder.{less_total}
use Rattle.laws_order.specs.Restriction.{Larger, restriction}
use Rattle.laws_state.specs.SetLaws.{ascending_names}
use Rattle.laws_state.specs.LogLaws.{keys_differ, log_received}
use Rattle.laws_state.specs.EffectiveLaws.{keys_agree}

-- deltas received besides, at the same origin
module _ (S : State) (all : List Message) (ascends : Ascending S.deltas) (ascends' : Ascending all) (more : (x : Message) → x ∈ S.deltas → x ∈ all) where
  abbrev R : State
  R = holding S.origin all

  larger : Larger sequence_of (needs S) less less_total (key_of S) (key_of R) S.deltas all
  unfolding log_of
  larger = record {
    names = ascending_names all ascends';
    keys = keys_differ S ascends;
    keys' = keys_differ R ascends';
    more = more;
    agree = keys_agree S R refl ascends ascends' more;
  }

  -- a sequence of the log tells its delta
  tells : (a : Message) → a ∈ all → T (has (sequence_of a) (sequences_of (log_of S))) ↔ (a ∈ log_of S)
  tells a k = (named, λ j. ∈→has (Memᴰ.map sequence_of j))
    where
      named : T (has (sequence_of a) (sequences_of (log_of S))) → a ∈ log_of S
      named t =
          let r = Memᴰ.of_map sequence_of (log_of S) (has→∈ (sequence_of a) (sequences_of (log_of S)) t) in
          Memᴰ.cast (ascending_names all ascends' a r.0 k (more r.0 (log_received S ascends r.0 r.1)) (sym r.2)) r.1

  log_within : keep (λ a. has (sequence_of a) (sequences_of (log_of S))) (log_of R) ≡ log_of S
  unfolding log_of needs
  log_within = restriction sequence_of (needs S) less less_total (key_of S) (key_of R) S.deltas all larger (λ a. has (sequence_of a) (sequences_of (log_of S))) tells

module _ (S R : State) (origin : S.origin ≡ R.origin) (ascends : Ascending S.deltas) (ascends' : Ascending R.deltas)
    (more : (x : Message) → x ∈ S.deltas → x ∈ R.deltas) where
  -- The log of the smaller set is that of the larger one, with the others left out:
  pub late_log : keep (λ a. has (sequence_of a) (sequences_of (log_of S))) (log_of R) ≡ log_of S
  late_log =
      ap (λ (O : Origin). keep (λ a. has (sequence_of a) (sequences_of (log_of S))) (log_of (holding O R.deltas))) (sym origin)
      ∙ log_within S R.deltas ascends ascends' more

  -- and so by sequences.
  pub late_sequences : keep (λ s. has s (sequences_of (log_of S))) (sequences_of (log_of R)) ≡ sequences_of (log_of S)
  late_sequences = sym (keep_map sequence_of (λ s. has s (sequences_of (log_of S))) (log_of R)) ∙ ap sequences_of late_log
