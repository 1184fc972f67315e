-- The floors of a state: no delta waits for what is at or below one, and no effective block counts below the purged one. Without a floor
-- nothing is left out.
use Rattle.std.specs.Prelude.{◌≡◌, refl, ◌↔◌, List, [], ◌∷◌, ℕ, ◌≤◌, T}
use Rattle.std.proofs.Common.{ap, arith}
use Rattle.std.proofs.Math.Bool.{not}
use Rattle.std.proofs.Math.Dec.{T_not, not_T}
use Rattle.model.specs.Lists.{◌∈◌, keep}
use Rattle.model.specs.Message.{Message, block_of, needs_of}
use Rattle.model.specs.Listing as L
use Rattle.model.specs.Order.{State, state_of, purged, needs, Reaches, Executable, own_block, effective_block}
use Rattle.model.specs.Image.{Valid}
use Rattle.laws_order.specs.TestLaws.{keep_∈, ∈_keep}
use Rattle.laws_state.specs.EffectiveLaws.{effective_is}

module _ (S : State) where
  pub needs_above : (m : Message) (s : ℕ) → (s ∈ needs S m) ↔ ((s ∈ needs_of m) × ¬ T (purged S s))
  unfolding needs
  needs_above m s = (
    λ k. let r = keep_∈ (λ x. not (purged S x)) (needs_of m) k in (r.0, T_not (purged S s) r.1),
    λ r. ∈_keep (λ x. not (purged S x)) r.0 (not_T (purged S s) r.1),
  )

  -- and so, step by step back, with all that it reaches
  pub reached_above : {m : Message} {s : ℕ} → Reaches S m s → ¬ T (purged S s)
  reached_above {m} {s} (L.needed k) = ((needs_above m s).0 k).1
  reached_above (L.through j k r) = reached_above r

  pub block_least : Valid S → (m : Message) → m ∈ S.deltas → Executable S m → S.origin.block ≤ effective_block S m
  block_least valid m k e = omega (arith, effective_is S valid.ascends valid.fits m k e)

-- ---- without a floor
none_purged : (l : List Message) (k : List ℕ) → keep (λ s. not (purged (state_of l) s)) k ≡ k
none_purged l [] = refl
none_purged l (s ∷ k) = ap (λ (r : List ℕ). s ∷ r) (none_purged l k)

pub first_needs : (l : List Message) (m : Message) → needs (state_of l) m ≡ needs_of m
unfolding needs
first_needs l m = none_purged l (needs_of m)

pub first_block : (l : List Message) (m : Message) → own_block (state_of l) m ≡ block_of m
first_block l m = omega arith
