-- A purge of the image of a valid state: its code and its answer are the plain station's, whose state stays valid.
use Rattle.std.specs.Prelude.{◌≡◌, refl, ◌↔◌, Bool, true, cond, not, ◌&&◌, [], ◌∷◌, ℕ, ◌≤◌, length, T, eqb}
use Rattle.std.proofs.Common.{◌∙◌, suc-ne-zero, nltb→le}
use Rattle.std.proofs.Math.Path.{ap, ap₂}
use Rattle.std.proofs.Math.Bool.{false}
use Rattle.model.specs.Layout.{image_size, most_floors}
use Rattle.model.specs.Order.{State, log_of}
use Rattle.model.specs.Purge.{purge_first}
use Rattle.model.specs.Image.{image_of, Valid, state_in, is_image}
use Rattle.model.specs.Codes.{lowest_code, exceeds_log, many_floors}
use Rattle.model.specs.Calls.{purge_answer, purge_code, purge}
use Rattle.model.specs.PlainStation.{accepts_purge, receive_purge}
use Rattle.laws_order.specs.TestLaws.{is_true, and_l, and_r}
use Rattle.laws_state.specs.ImageLaws.{state_back, image_size_lem, image_passes}
use Rattle.laws_purge.specs.PurgeValid.{purge_valid}

-- ---- the code that a state gives
unfoldable pub state_purge_code : State → ℕ → ℕ
state_purge_code S K = lowest_code ((15, exceeds_log S K) ∷ (16, many_floors S K) ∷ [])

-- the code, from whether 1 and 2 apply to the image
abbrev code_with : ℕ → Bool → Bool → State → ℕ
code_with K size image R = lowest_code ((1, size) ∷ (2, not image) ∷ (15, exceeds_log R K) ∷ (16, many_floors R K) ∷ [])

module _ (S : State) (valid : Valid S) where
  pub purge_code_is : (K : ℕ) → purge_code (image_of S) K ≡ state_purge_code S K
  unfolding purge_code state_purge_code
  purge_code_is K =
      ap (λ (n : ℕ). code_with K (not (eqb n image_size)) (is_image (image_of S)) (state_in (image_of S))) (image_size_lem S valid)
      ∙ ap (λ (c : Bool). code_with K false c (state_in (image_of S))) (is_true (is_image (image_of S)) (image_passes S valid))
      ∙ ap (code_with K false true) (state_back S valid)

  pub purge_is : (K : ℕ) → purge (image_of S) K ≡ purge_answer (state_purge_code S K) S (image_of S) K
  unfolding purge
  purge_is K = ap₂ (λ (n : ℕ) (R : State). purge_answer n R (image_of S) K) (purge_code_is K) (state_back S valid)

-- ---- it is 0 exactly where the plain station accepts
zero_exactly : (a b : Bool) → (◌≡◌ {A = ℕ} (cond a 15 (cond b 16 0)) 0) ↔ T (not a && not b)
zero_exactly true b = (λ e. absurd (suc-ne-zero 14 e), λ t. absurd t)
zero_exactly false true = (λ e. absurd (suc-ne-zero 15 e), λ t. absurd t)
zero_exactly false false = (λ e. tt, λ t. refl)

pub purge_code_zero : (S : State) (K : ℕ) → (state_purge_code S K ≡ 0) ↔ T (accepts_purge S K)
unfolding state_purge_code accepts_purge
purge_code_zero S K = zero_exactly (exceeds_log S K) (many_floors S K)

-- what an accepted purge is
pub accepts_purge_lem : (S : State) (K : ℕ) → T (accepts_purge S K) → (K ≤ length (log_of S)) × (length (purge_first K S).origin.floors ≤ most_floors)
unfolding accepts_purge
accepts_purge_lem S K t = (
  nltb→le (length (log_of S)) K (and_l (not (exceeds_log S K)) (not (many_floors S K)) t),
  nltb→le most_floors (length (purge_first K S).origin.floors) (and_r (not (exceeds_log S K)) (not (many_floors S K)) t),
)

pub receive_purge_refused : (S : State) (K : ℕ) → ¬ (state_purge_code S K ≡ 0) → receive_purge S K ≡ S
unfolding receive_purge
receive_purge_refused S K h = go (accepts_purge S K) (λ t. h ((purge_code_zero S K).1 t))
  where
    go : (b : Bool) → (T b → ⊥) → cond b (purge_first K S) S ≡ S
    go true f = absurd (f tt)
    go false f = refl

pub receive_purge_accepted : (S : State) (K : ℕ) → state_purge_code S K ≡ 0 → receive_purge S K ≡ purge_first K S
unfolding receive_purge
receive_purge_accepted S K e = go (accepts_purge S K) ((purge_code_zero S K).0 e)
  where
    go : (b : Bool) → T b → cond b (purge_first K S) S ≡ purge_first K S
    go true t = refl
    go false t = absurd t

-- the plain station's state stays valid
pub receive_purge_valid : (S : State) → Valid S → (K : ℕ) → Valid (receive_purge S K)
unfolding receive_purge
receive_purge_valid S valid K = go (accepts_purge S K) (λ t. t)
  where
    go : (b : Bool) → (T b → T (accepts_purge S K)) → Valid (cond b (purge_first K S) S)
    go true f = purge_valid S valid K (accepts_purge_lem S K (f tt)).1
    go false f = valid
