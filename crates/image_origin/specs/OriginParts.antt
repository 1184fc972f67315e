-- An origin is right exactly if the parts are that the code looks at.
use Rattle.std.specs.Prelude.{◌≡◌, false, ◌||◌, List, [], ◌∷◌, map, ℕ, ◌+◌, ◌*◌, ◌^◌, ◌≤◌, ◌<◌, length, get_or, ℤ, pos, negsuc, eqb, ltb, leb}
use Rattle.std.proofs.Common.{sym, ◌∙◌, ap, subst, arith, eqb→eq, lt→ltb, leb→le}
use Rattle.std.proofs.Math.Dec.{T, le→leb}
use Rattle.std.specs.Int.Signed.{le_z}
use Rattle.model.specs.Lists.{◌∈◌, every, ascending}
use Rattle.model.specs.Bytes.{is_bytes, field, integer}
use Rattle.model.specs.Layout.{field_limit, sequence_size, value_size, tag_count, lowest_value, highest_value, base_start, floors_start, most_floors, purged_block_at, purged_group_at}
use Rattle.model.specs.Message.{line_of, numbered}
use Rattle.model.specs.Tops.{tops_right}
use Rattle.model.specs.Order.{Origin, in_range, is_zero, all_zero, origin_right}
use Rattle.model.specs.Image.{floor_count, messages_start_in, floors_in, base_in, origin_in}
use Rattle.laws_order.specs.TestLaws.{and_l, and_r, and_i, or_l, or_r, eq→eqb, false_of, same_test, every_∈, ∈_every}
use Rattle.laws_order.specs.ListLaws.{∈_get_d}
use Rattle.laws_wire.specs.BytesLaws.{field_range}
use Rattle.laws_origin.specs.OriginLaws.{few_floors, floors_ascend, floors_numbered, base_range, block_limit, group_limit, zero_without_floors, floors_length, floors_in_lem, floor_in, values_length, value_in, base_is}
use Rattle.image_origin.specs.Origins.{Counted, purged_right}

pub counted_start : {b : List ℕ} {count : ℕ} → Counted b count → messages_start_in b ≤ length b
unfolding messages_start_in
counted_start c = omega arith

-- ---- the base values by their places
module _ (b : List ℕ) (room : messages_start_in b ≤ length b) where
  pub base_count : length (base_in b) ≡ tag_count
  base_count = ap length (base_is b room) ∙ values_length base_start b

  pub base_value : (tag : ℕ) → tag < tag_count → get_or (base_in b) tag (pos 0) ≡ integer (field b (base_start + value_size * tag) value_size)
  base_value tag h = ap (λ (l : List ℤ). get_or l tag (pos 0)) (base_is b room) ∙ value_in base_start b tag h

-- ---- a right origin, from its parts
origin_in_lem : (O : Origin) → length O.floors ≤ most_floors → T (tops_right O.floors) → length O.base ≡ tag_count → T (every in_range O.base)
    → O.block ≤ field_limit → O.group ≤ field_limit → T (ltb 0 (length O.floors) || all_zero O) → T (origin_right O)
unfolding origin_right
origin_in_lem O few tops count range block group some =
    let few' : T (leb (length O.floors) most_floors) = le→leb (length O.floors) most_floors few in
    let count' : T (eqb (length O.base) tag_count) = eq→eqb count in
    let block' : T (leb O.block field_limit) = le→leb O.block field_limit block in
    let group' : T (leb O.group field_limit) = le→leb O.group field_limit group in
    search and_i depth 8

-- ---- more floors than there may be
pub many_floors : (b : List ℕ) → most_floors < floor_count b → origin_right (origin_in b) ≡ false
many_floors b h = false_of (origin_right (origin_in b)) (λ t. let z : ⊥ = omega (arith, few_floors (origin_in b) t, floors_in_lem b) in absurd z)

-- ---- no floor
zero_in_range : (v : ℤ) → T (is_zero v) → T (in_range v)
zero_in_range (pos n) t = and_i (le_z lowest_value (pos n)) (le_z (pos n) highest_value) tt (le→leb n 1000000 (omega (arith, leb→le n 0 (and_l (leb n 0) (leb 0 n) t))))
zero_in_range (negsuc n) t = absurd t

no_tops : (tops : List ℕ) → length tops ≡ 0 → T (tops_right tops)
unfolding tops_right
no_tops [] e = tt
no_tops (top ∷ tops) e = let z : ⊥ = omega arith in absurd z

zeros_right : (O : Origin) → length O.floors ≡ 0 → length O.base ≡ tag_count → T (all_zero O) → T (origin_right O)
zeros_right O none count t =
    let base : T (every is_zero O.base) = search (and_l, and_r) depth 5 in
    let block : O.block ≡ 0 = eqb→eq O.block 0 (search (and_l, and_r) depth 5) in
    let group : O.group ≡ 0 = eqb→eq O.group 0 (search (and_l, and_r) depth 5) in
    origin_in_lem O (omega arith) (no_tops O.floors none) count (∈_every in_range O.base (λ v m. zero_in_range v (every_∈ is_zero O.base base v m)))
    (omega arith) (omega arith) (or_r (ltb 0 (length O.floors)) (all_zero O) t)

module _ (b : List ℕ) (room : messages_start_in b ≤ length b) (none : floor_count b ≡ 0) where
  all_values : length (origin_in b).base ≡ tag_count
  unfolding origin_in
  all_values = base_count b room

  pub origin_unpurged : origin_right (origin_in b) ≡ all_zero (origin_in b)
  origin_unpurged =
      same_test (origin_right (origin_in b)) (all_zero (origin_in b))
      (λ t. zero_without_floors (origin_in b) t (floors_in_lem b ∙ none))
      (zeros_right (origin_in b) (floors_in_lem b ∙ none) all_values)

-- ---- floors: that each is a sequence of twelve bytes goes without saying
floors_small : (b : List ℕ) → T (is_bytes b) → T (every (λ top. ltb top (256 ^ sequence_size)) (floors_in b))
floors_small b t = ∈_every (λ top. ltb top (256 ^ sequence_size)) (floors_in b) small
  where
    small : (top : ℕ) → top ∈ floors_in b → T (ltb top (256 ^ sequence_size))
    small top m =
        let g = ∈_get_d 0 m in
        let e : top ≡ field b (floors_start + sequence_size * g.0) sequence_size = sym g.2 ∙ floor_in b g.0 (omega (arith, g.1, floors_length b)) in
        lt→ltb top (256 ^ sequence_size) (subst (λ (x : ℕ). x < 256 ^ sequence_size) (sym e) (field_range b (floors_start + sequence_size * g.0) sequence_size t))

module _ (b : List ℕ) (are : T (is_bytes b)) (room : messages_start_in b ≤ length b) (few : floor_count b ≤ most_floors) (some : 0 < floor_count b) where
  there : T (origin_right (origin_in b)) → T (purged_right b)
  unfolding origin_in purged_right
  there t =
      let ascend : T (ascending (map line_of (floors_in b))) = floors_ascend (origin_in b) t in
      let numbers : T (every numbered (floors_in b)) = floors_numbered (origin_in b) t in
      let range : T (every in_range (base_in b)) = base_range (origin_in b) t in
      let block : T (leb (field b purged_block_at 4) field_limit) = le→leb (field b purged_block_at 4) field_limit (block_limit (origin_in b) t) in
      let group : T (leb (field b purged_group_at 4) field_limit) = le→leb (field b purged_group_at 4) field_limit (group_limit (origin_in b) t) in
      search and_i depth 8

  tops_right_lem : T (ascending (map line_of (floors_in b))) → T (every numbered (floors_in b)) → T (tops_right (floors_in b))
  unfolding tops_right
  tops_right_lem ascend numbers = let small = floors_small b are in search and_i depth 5

  back : T (purged_right b) → T (origin_right (origin_in b))
  unfolding origin_in purged_right
  back t =
      let block : T (leb (field b purged_block_at 4) field_limit) = search (and_l, and_r) depth 8 in
      let group : T (leb (field b purged_group_at 4) field_limit) = search (and_l, and_r) depth 8 in
      origin_in_lem (origin_in b) (omega (arith, floors_length b)) (tops_right_lem (search (and_l, and_r) depth 8) (search (and_l, and_r) depth 8)) (base_count b room)
      (search (and_l, and_r) depth 8) (leb→le (field b purged_block_at 4) field_limit block) (leb→le (field b purged_group_at 4) field_limit group)
      (or_l (ltb 0 (length (floors_in b))) (all_zero (origin_in b)) (lt→ltb 0 (length (floors_in b)) (omega (arith, floors_length b))))

  pub origin_purged : origin_right (origin_in b) ≡ purged_right b
  origin_purged = same_test (origin_right (origin_in b)) (purged_right b) there back
