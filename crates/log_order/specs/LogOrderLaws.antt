-- A log order that is right: its lengths, and how many are kept as it grows.
use Rattle.std.specs.Prelude.{◌≡◌, refl, List, [], ◌∷◌, ◌++◌, ℕ, suc, ◌+◌, ◌-◌, ◌≤◌, ◌<◌, length, get_or, take, set}
use Rattle.std.proofs.Common.{sym, ◌∙◌, ap, arith, add-one, length-take-le, get_or-take, take-suc-set}
use Rattle.model.specs.Layout.{capacity}
use Rattle.model.specs.Steps.{common, undos_of, executions_of}
use Rattle.laws_order.specs.StepLaws.{common_le}
use Rattle.log_order.specs.declared.LogOrder.{LogOrder}
use Rattle.log_order.specs.LogOrder.{old_of, places_of, OrderRight, Begun, Placed}
use Rattle.laws_order.specs.CommonLaws.{common_nil, common_parted, common_past, common_more, common_other}

-- nothing is placed yet
pub begun : (old places : List ℕ) (n : ℕ) → n ≤ capacity → Begun old n (record { old = old; old_count = n; places = places; count = 0; kept = 0 })
begun old places n h = record { olds = refl; size = refl; none = refl; right = record { olds = h; news = omega arith; kept = sym (common_nil (take n old)) } }

module _ (o : LogOrder) (olds : length o.old ≡ capacity) (news : length o.places ≡ capacity) (r : OrderRight o) where
  pub old_length : length (old_of o) ≡ o.old_count
  old_length = length-take-le o.old_count o.old (omega (arith, r.olds))

  pub places_length : length (places_of o) ≡ o.count
  places_length = length-take-le o.count o.places (omega (arith, r.news))

  pub kept_le : (o.kept ≤ o.old_count) × (o.kept ≤ o.count)
  kept_le = let le = common_le (old_of o) (places_of o) in (omega (arith, le.0, r.kept, old_length), omega (arith, le.1, r.kept, places_length))

  pub undos_is : o.old_count - o.kept ≡ undos_of (old_of o) (places_of o)
  undos_is = omega (arith, old_length, r.kept)

  pub executions_is : o.count - o.kept ≡ executions_of (old_of o) (places_of o)
  executions_is = omega (arith, places_length, r.kept)

  -- ---- one more
  pub kept_parted : (i : ℕ) → o.kept < o.count → o.kept ≡ common (old_of o) (places_of o ++ i ∷ [])
  kept_parted i h = r.kept ∙ sym (common_parted (old_of o) (places_of o) (i ∷ []) (omega (arith, r.kept, places_length)))

  pub kept_past : (i : ℕ) → o.old_count ≤ o.count → o.kept ≡ common (old_of o) (places_of o ++ i ∷ [])
  kept_past i h = r.kept ∙ sym (common_past (old_of o) (places_of o) (i ∷ []) (omega (arith, old_length, places_length)))

  -- the old log's next one
  old_next : o.count < o.old_count → get_or (old_of o) (length (places_of o)) 0 ≡ get_or o.old o.count 0
  old_next h = ap (λ (n : ℕ). get_or (old_of o) n 0) places_length ∙ get_or-take o.old_count o.old o.count 0 h

  all_kept : o.count ≤ o.kept → common (old_of o) (places_of o) ≡ length (places_of o)
  all_kept h = omega (arith, r.kept, places_length, kept_le.1)

  pub kept_other : (i : ℕ) → o.count ≤ o.kept → o.count < o.old_count → (get_or o.old o.count 0 ≡ i → ⊥) → o.kept ≡ common (old_of o) (places_of o ++ i ∷ [])
  kept_other i h k f =
      r.kept ∙ sym (common_other (old_of o) (places_of o) i (all_kept h) (omega (arith, old_length, places_length)) (λ e. f (sym (old_next k) ∙ e)))

  pub kept_more : (i : ℕ) → o.count ≤ o.kept → o.count < o.old_count → get_or o.old o.count 0 ≡ i → o.count + 1 ≡ common (old_of o) (places_of o ++ i ∷ [])
  kept_more i h k e =
      let more : common (old_of o) (places_of o ++ i ∷ []) ≡ suc (length (places_of o)) = common_more (old_of o) (places_of o) i (all_kept h) (omega (arith, old_length, places_length)) (old_next k ∙ e) in
      omega (arith, more, places_length)

  pub placed : (i k : ℕ) → o.count < capacity → k ≡ common (old_of o) (places_of o ++ i ∷ [])
      → Placed o i (record { old = o.old; old_count = o.old_count; places = set o.places o.count i; count = o.count + 1; kept = k })
  placed i k h e =
      let here : o.count < length o.places = omega arith in
      let grown : take (o.count + 1) (set o.places o.count i) ≡ places_of o ++ i ∷ [] = rw add-one (take-suc-set o.places o.count i here) in
      record { places = grown; count = refl; olds = refl; size = refl; right = record { olds = r.olds; news = omega arith; kept = e ∙ ap (common (old_of o)) (sym grown) } }
