-- A valid state stays valid when the first deltas of its log are purged, where no more than 32 floors result.
use Rattle.std.specs.Prelude.{◌≡◌, Bool, true, false, cond, ◌||◌, ℕ, zero, suc, ◌^◌, ◌≤◌, ◌<◌, ℤ, pos, eqb, ltb, leb}
use Rattle.std.proofs.Math.Path.{refl, sym, ap, subst}
use Rattle.std.proofs.Common.{◌∙◌, arith, leb→le, lt→ltb}
use mathlib.Core.List.Memᴰ
use mathlib.Core.List.{List, [], ◌∷◌}
use Rattle.std.proofs.Math.Nat.{le_trans, max-le}
use Rattle.std.proofs.Math.ListN.{length, take}
use Rattle.std.specs.Int.Signed.{le_z}
use Rattle.std.proofs.Math.Dec.{T, le→leb}
use Rattle.model.specs.Lists.{◌∈◌, every}
use Rattle.model.specs.Layout.{lowest_value, highest_value, field_limit, sequence_size, tag_count, most_floors, capacity}
use Rattle.model.specs.Message.{Message, sequence_of, group_of, block_of, numbered, content_right, passes}
use Rattle.model.specs.Tops.{tops_right, raise_tops}
use Rattle.model.specs.Order.{Origin, State, in_range, all_zero, origin_right, find, sequences_of, needs, block_along, effective_block, log_of}
use Rattle.model.specs.Setpoints.{start_values, run_log}
use Rattle.model.specs.Image.{Valid}
use Rattle.model.specs.Purge.{origin_past, purge_first}
use Rattle.laws_order.specs.TestLaws.{∈_every, and_l, and_r, and_i, or_l, eq→eqb, keep_length}
use Rattle.laws_order.specs.ListLaws.{∈_get_d, greatest_≤, ∈_take, map_all}
use Rattle.laws_wire.specs.MessageLaws.{sequence_range}
use Rattle.laws_origin.specs.OriginLaws.{floors_right, base_length, block_limit, group_limit}
use Rattle.laws_state.specs.ValueLaws.{InRange, AllInRange, start_range, log_range}
use Rattle.laws_state.specs.ImageLaws.{length_run, log_passes}
use Rattle.laws_origin.specs.RaiseRight.{raised_right, raise_some}
use Rattle.laws_purge.specs.PurgedFloors.{own_numbered, left_is, left_ascends, left_above}
use Rattle.laws_purge.specs.PurgedState.{purge_nothing}

-- ---- group and block of a delta that passes
passes_group : (m : Message) → T (passes m) → group_of m ≤ field_limit
unfolding passes content_right
passes_group m t = leb→le (group_of m) field_limit (search (and_l, and_r) depth 8)

passes_block : (m : Message) → T (passes m) → block_of m ≤ field_limit
unfolding passes content_right
passes_block m t = leb→le (block_of m) field_limit (search (and_l, and_r) depth 8)

-- and of the one that is found under a sequence, also where none is
found_block : (l : List Message) → ((m : Message) → m ∈ l → block_of m ≤ field_limit) → (s : ℕ) → block_of (find l s) ≤ field_limit
found_block [] h s = omega arith
found_block (m ∷ l) h s = go (eqb (sequence_of m) s) (found_block l (λ x k. h x (Memᴰ.tail k)) s)
  where
    go : (b : Bool) → block_of (find l s) ≤ field_limit → block_of (cond b m (find l s)) ≤ field_limit
    go true ih = h m (Memᴰ.head refl)
    go false ih = ih

-- values in range pass the test
range_passes : (values : List ℤ) → AllInRange values → T (every in_range values)
range_passes values h = ∈_every in_range values (λ v k.
    let g = ∈_get_d (pos 0) k in
    let r : InRange v = subst InRange g.2 (h g.0) in
    and_i (le_z lowest_value v) (le_z v highest_value) r.0 r.1)

module _ (S : State) (valid : Valid S) where
  along_limit : (n s : ℕ) → block_along S n s ≤ field_limit
  along_limit zero s = omega arith
  along_limit (suc n) s =
      max-le (max-le (found_block S.deltas (λ m k. passes_block m (valid.pass m k)) s) (block_limit S.origin valid.right))
      (greatest_≤ (block_along S n) (needs S (find S.deltas s)) field_limit (λ t k. along_limit n t))

  -- an effective block is within the limit
  pub effective_limit : (m : Message) → effective_block S m ≤ field_limit
  effective_limit m = along_limit capacity (sequence_of m)

  -- ---- the origin past some deltas of the log, at least one
  module _ (first : Message) (l : List Message) (all : (m : Message) → m ∈ first ∷ l → m ∈ log_of S)
      (few : length (raise_tops (sequences_of (first ∷ l)) S.origin.floors) ≤ most_floors) where
    abbrev gone : List Message
    gone = first ∷ l

    abbrev floors : List ℕ
    floors = raise_tops (sequences_of gone) S.origin.floors

    pass : (m : Message) → m ∈ gone → T (passes m)
    pass m k = log_passes S valid m (all m k)

    raised : T (tops_right floors)
    raised = raised_right (sequences_of gone) S.origin.floors (floors_right S.origin valid.right)
        (map_all (λ s. T (numbered s)) sequence_of gone (λ m k. own_numbered m (pass m k)))
        (map_all (λ s. s < 256 ^ sequence_size) sequence_of gone (λ m k. sequence_range m (pass m k)))

    base_sized : length (run_log gone (start_values S)) ≡ tag_count
    unfolding start_values
    base_sized = length_run gone (start_values S) ∙ base_length S.origin valid.right

    past_right : T (origin_right (origin_past S (first ∷ l)))
    unfolding origin_right origin_past
    past_right =
        let O : Origin = origin_past S gone in
        let a : T (leb (length floors) most_floors) = le→leb (length floors) most_floors few in
        let b : T (tops_right floors) = raised in
        let c : T (eqb (length O.base) tag_count) = eq→eqb base_sized in
        let d : T (every in_range O.base) = range_passes O.base (log_range gone (start_values S) pass (start_range S valid)) in
        let e : T (leb O.block field_limit) = le→leb O.block field_limit
        (max-le (block_limit S.origin valid.right) (greatest_≤ (effective_block S) gone field_limit (λ m k. effective_limit m))) in
        let f : T (leb O.group field_limit) = le→leb O.group field_limit
        (max-le (group_limit S.origin valid.right) (greatest_≤ group_of gone field_limit (λ m k. passes_group m (pass m k)))) in
        let some : 0 < length floors = raise_some (sequences_of gone) S.origin.floors (omega arith) in
        let g : T (ltb 0 (length floors) || all_zero O) = or_l (ltb 0 (length floors)) (all_zero O) (lt→ltb 0 (length floors) some) in
        search and_i depth 8

  origin_past_lem : (gone : List Message) → ((m : Message) → m ∈ gone → m ∈ log_of S) → length (origin_past S gone).floors ≤ most_floors
      → (gone ≡ [] → T (origin_right (origin_past S gone))) → T (origin_right (origin_past S gone))
  unfolding origin_past
  origin_past_lem [] all few none = none refl
  origin_past_lem (m ∷ l) all few none = past_right m l all few

  left_fits : (K : ℕ) → length (purge_first K S).deltas ≤ capacity
  unfolding purge_first
  left_fits K = le_trans (keep_length _ S.deltas) valid.fits

  purge_origin : (K : ℕ) → (purge_first K S).origin ≡ origin_past S (take K (log_of S))
  unfolding purge_first
  purge_origin K = refl

  pub purge_valid : (K : ℕ) → length (purge_first K S).origin.floors ≤ most_floors → Valid (purge_first K S)
  unfolding purge_first
  purge_valid K few = record {
    ascends = left_ascends S valid K;
    fits = left_fits K;
    pass = λ m k. valid.pass m ((left_is S valid K m).0 k).0;
    above = left_above S valid K;
    right = origin_past_lem (take K (log_of S)) (λ m k. ∈_take K (log_of S) k) few
        (λ e. subst (λ (O : Origin). T (origin_right O)) (sym (same e)) valid.right);
  }
    where
      same : take K (log_of S) ≡ [] → origin_past S (take K (log_of S)) ≡ S.origin
      same e = sym (purge_origin K) ∙ ap (λ (R : State). R.origin) (purge_nothing K S e)
