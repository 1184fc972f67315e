-- A purge moves nothing: the log of what is left is the rest of the log.
use Rattle.std.specs.Prelude.{◌≡◌, refl, ℕ, take, drop}
use Rattle.std.proofs.Common.{sym, ◌∙◌, inl, inr, ⊎_elim, take-append-drop}
use Rattle.model.specs.Message.{sequence_of}
use Rattle.model.specs.Listing as L
use Rattle.model.specs.Order.{State, RightSet, needs, key_of, less, log_of}
use Rattle.model.specs.Purge.{purge_first}
use Rattle.laws_order.specs.KeyOrder.{less_total}
use Rattle.laws_state.specs.SetLaws.{ascending_names}
use Rattle.laws_state.specs.LogLaws.{keys_differ}
use Rattle.laws_order.specs.Behind.{Left, behind_first}
use Rattle.laws_purge.specs.PurgedFloors.{placed_named, named_placed, left_is, left_ascends, needs_fewer, needs_others}
use Rattle.laws_purge.specs.PurgedBlocks.{key_stays}

log_first : (S : State) → log_of S ≡ L.first_of sequence_of (needs S) (key_of S) less S.deltas
unfolding log_of
log_first S = refl

module _ (S : State) (right : RightSet S) (K : ℕ) where
  left_behind : Left sequence_of less less_total (needs S) (needs (purge_first K S)) (key_of S) (key_of (purge_first K S))
      S.deltas (purge_first K S).deltas (take K (log_of S)) (drop K (log_of S))
  left_behind = record {
    names = ascending_names S.deltas right.ascends;
    keys = keys_differ S right.ascends;
    keys' = keys_differ (purge_first K S) (left_ascends S right K);
    split = sym (log_first S) ∙ sym (take-append-drop K (log_of S));
    left = λ m k. let r = (left_is S right K m).0 k in (r.0, λ j. r.1 (placed_named (take K (log_of S)) (sequence_of m) j));
    stays = λ m k f. (left_is S right K m).1 (k, λ j. f (named_placed (take K (log_of S)) (sequence_of m) j));
    fewer = λ m k s j. let r = needs_fewer S right K m k s j in (r.0, λ i. r.1 (placed_named (take K (log_of S)) s i));
    others = λ m k s j. ⊎_elim (λ i. inl (named_placed (take K (log_of S)) s i)) inr (needs_others S right K m k s j);
    agree = key_stays S right K;
  }

  -- The log is what was left of it.
  pub purge_log : log_of (purge_first K S) ≡ drop K (log_of S)
  purge_log =
      log_first (purge_first K S)
      ∙ behind_first sequence_of less less_total (needs S) (needs (purge_first K S)) (key_of S) (key_of (purge_first K S))
      S.deltas (purge_first K S).deltas (take K (log_of S)) (drop K (log_of S)) left_behind
