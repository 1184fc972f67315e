-- Group and block of a message are small; the highest block by index is the highest effective one.
use Rattle.std.specs.Prelude.{◌≡◌, refl, Bool, true, false, cond, List, [], ◌∷◌, ℕ, zero, suc, ◌≤◌, length, get_or, T, eqb, leb}
use Rattle.std.proofs.Common.{◌∙◌, subst, zero-le, arith, leb→le}
use mathlib.Core.List.Memᴰ
use Rattle.std.proofs.lemmas.List.{length-map}
use Rattle.model.specs.Lists.{◌∈◌, greatest}
use Rattle.model.specs.Layout.{field_limit, capacity}
use Rattle.model.specs.Message.{Message, sequence_of, group_of, block_of, content_right, passes}
use Rattle.model.specs.Order.{State, RightSet, find, needs, block_along, effective_block, log_of}
use Rattle.model.specs.Compose.{highest_block}
use Rattle.laws_order.specs.TestLaws.{and_l, and_r, greatest_cong}
use Rattle.laws_order.specs.MaxLaws.{greatest_map}
use Rattle.laws_order.specs.ListLaws.{greatest_≤, get_d_∈}
use Rattle.laws_origin.specs.OriginLaws.{block_limit}
use Rattle.laws_state.specs.LogLaws.{log_executable}
use Rattle.set_table.specs.Table.{message_from, deltas_at, set_in}
use Rattle.set_table.specs.Places.{AllBelow}
use Rattle.set_needs.specs.Rows.{RowsRight}
use Rattle.set_closure.specs.Closing.{Closed}
use Rattle.set_closure.specs.ClosingLaws.{closed_block}
use Rattle.image_sections.specs.LogPlaceLaws.{log_inside}
use Rattle.log_highest.specs.Logged.{LoggedPlaces}

-- ---- of a message that passes 3 to 6
passes_content : (m : Message) → T (passes m) → T (content_right m)
unfolding passes
passes_content m t = search (and_l, and_r)

pub group_small : (m : Message) → T (passes m) → group_of m ≤ field_limit
unfolding content_right
group_small m t = let c : T (content_right m) = passes_content m t in let h : T (leb (group_of m) field_limit) = search (and_l, and_r) depth 6 in leb→le (group_of m) field_limit h

block_small : (m : Message) → T (passes m) → block_of m ≤ field_limit
unfolding content_right
block_small m t = let c : T (content_right m) = passes_content m t in let h : T (leb (block_of m) field_limit) = search (and_l, and_r) depth 6 in leb→le (block_of m) field_limit h

-- ---- of any deltas of a set
module _ (S : State) (right : RightSet S) where
  find_block : (l : List Message) → ((m : Message) → m ∈ l → T (passes m)) → (s : ℕ) → block_of (find l s) ≤ field_limit
  find_block [] h s = omega arith
  find_block (m ∷ l) h s = go (eqb (sequence_of m) s) (block_small m (h m (Memᴰ.head refl))) (find_block l (λ x k. h x (Memᴰ.tail k)) s)
    where
      go : (c : Bool) → block_of m ≤ field_limit → block_of (find l s) ≤ field_limit → block_of (cond c m (find l s)) ≤ field_limit
      go true p q = p
      go false p q = q

  along_small : (n s : ℕ) → block_along S n s ≤ field_limit
  along_small zero s = zero-le
  along_small (suc n) s =
      omega (
        arith,
        find_block S.deltas right.pass s,
        block_limit S.origin right.right,
        greatest_≤ (block_along S n) (needs S (find S.deltas s)) field_limit (λ t k. along_small n t),
      )

  pub effective_small : (l : List Message) → highest_block S l ≤ field_limit
  effective_small l = greatest_≤ (effective_block S) l field_limit (λ m k. along_small capacity (sequence_of m))

-- ---- by index
module _ (pool starts places : List ℕ) (p : LoggedPlaces pool starts places) where
  abbrev S : State
  S = set_in pool starts

  pub places_below : AllBelow (length S.deltas) places
  places_below i k = omega (arith, length-map starts (message_from pool), (log_inside pool starts p.all p.log).inside i (p.among i k))

  -- each place's block is its delta's effective block, since what is logged is executable
  pub highest_effective : (rows counts : List ℕ) → RowsRight S rows counts → (blocks order : List ℕ) (count : ℕ) → Closed S rows counts blocks order count
      → greatest (λ i. get_or blocks i 0) places ≡ highest_block S (deltas_at S.deltas places)
  highest_effective rows counts filled blocks order count closed =
      greatest_cong (λ i. get_or blocks i 0) (λ i. effective_block S (get_or S.deltas i [])) places each ∙ greatest_map (effective_block S) (λ (i : ℕ). get_or S.deltas i []) places
    where
      each : (i : ℕ) → i ∈ places → get_or blocks i 0 ≡ effective_block S (get_or S.deltas i [])
      each i k =
          let logged : get_or S.deltas i [] ∈ log_of S = subst (λ (l : List Message). get_or S.deltas i [] ∈ l) p.log.log (Memᴰ.map (λ (j : ℕ). get_or S.deltas j []) (p.among i k)) in
          closed_block S p.log.holds rows counts filled blocks order count closed i (places_below i k) ((log_executable S p.log.holds.ascends (get_or S.deltas i []) (get_d_∈ S.deltas i [] (places_below i k))).0 logged)
