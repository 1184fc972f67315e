-- The codes: the lowest number whose condition holds is answered, 0 exactly where none does, and a refusal leaves every buffer.
use Rattle.std.specs.Prelude.{◌≡◌, refl, ◌⊎◌, Bool, true, false, cond, List, [], ◌∷◌, ℕ, zero, suc, ◌≤◌, ◌<◌, length, get_or, T, eqb, pos}
use Rattle.std.proofs.Common.{sym, ◌∙◌, ap, subst, inl, inr, ⊎_elim, arith, eqb→eq}
use mathlib.Core.List.Memᴰ
use Rattle.model.specs.Lists.{◌∈◌}
use Rattle.model.specs.Bytes.{number}
use Rattle.model.specs.Message.{Message}
use Rattle.model.specs.Image.{state_in, log_in}
use Rattle.model.specs.Compose.{composed}
use Rattle.model.specs.Codes.{Conditions, lowest_code, empty_conditions, deliver_conditions, compose_conditions, setpoint_conditions, purge_conditions}
use Rattle.model.specs.Calls.{empty, empty_answer, deliver, deliver_code, deliver_answer, purge, purge_code, purge_answer, compose, compose_code, compose_answer, log_message_code, log_message, setpoint, setpoint_answer}

-- ---- the lowest number
-- the numbers ascend, from one above `low` on
abbrev pub Above : ℕ → Conditions → Type 0
Above low [] = Unit {0}
Above low (c ∷ l) = (low < c.0) × Above c.0 l

pub record Lowest (l : Conditions) (code : ℕ) : Type 0 where
  -- it is answered only where its condition holds
  pub holds : (code ≡ 0) ⊎ ((code, true) ∈ l)
  -- and no lower one of the list does
  pub least : (n : ℕ) → (n, true) ∈ l → (0 < code) × (code ≤ n)

lowest_above : (low : ℕ) (l : Conditions) → Above low l → (n : ℕ) (b : Bool) → (n, b) ∈ l → low < n
lowest_above low [] h n b k = absurd (Memᴰ.not-nil k)
lowest_above low (c ∷ l) h n b k =
    ⊎_elim (λ e. omega (arith, h.0, ap (λ (x : ℕ × Bool). x.0) e)) (λ j. omega (arith, h.0, lowest_above c.0 l h.1 n b j)) (Memᴰ.cases_cons k)

pub lowest_is : (low : ℕ) (l : Conditions) → Above low l → Lowest l (lowest_code l)
lowest_is low [] h = record { holds = inl refl; least = λ n k. absurd (Memᴰ.not-nil k) }
lowest_is low (c ∷ l) h = go c.1 refl (lowest_is c.0 l h.1)
  where
    lower : (b : Bool) → c.1 ≡ b → (n : ℕ) → (n, true) ∈ l → c.0 ≤ n
    lower b e n k = let x : c.0 < n = lowest_above c.0 l h.1 n true k in omega arith

    named : (b : Bool) → c.1 ≡ b → (c.0, b) ≡ c
    named b e = λ i. (c.0, sym e i)

    other : (n : ℕ) → c.1 ≡ false → (n, true) ≡ c → ⊥
    other n e q = subst T (ap (λ (x : ℕ × Bool). x.1) q ∙ e) tt

    go : (b : Bool) → c.1 ≡ b → Lowest l (lowest_code l) → Lowest (c ∷ l) (cond b c.0 (lowest_code l))
    go true e r = record {
      holds = inr (Memᴰ.head (named true e));
      least = λ n k. (
        omega (arith, h.0),
        ⊎_elim (λ q. omega (arith, ap (λ (x : ℕ × Bool). x.0) q)) (λ j. lower true e n j) (Memᴰ.cases_cons k),
      );
    }
    go false e r = record {
      holds = ⊎_elim inl (λ j. inr (Memᴰ.tail j)) r.holds;
      least = λ n k. ⊎_elim (λ q. absurd (other n e q)) (λ j. r.least n j) (Memᴰ.cases_cons k);
    }

-- ---- the code of an answer is the one that was found
pub empty_code : (b : List ℕ) → (empty b).code ≡ lowest_code (empty_conditions b)
unfolding empty
empty_code b = go (lowest_code (empty_conditions b))
  where
    go : (n : ℕ) → (empty_answer n b).code ≡ n
    go zero = refl
    go (suc n) = refl

pub deliver_code_lem : (b : List ℕ) (m : Message) (steps : List ℕ) → (deliver b m steps).code ≡ lowest_code (deliver_conditions b m (length steps))
unfolding deliver deliver_code
deliver_code_lem b m steps = go (lowest_code (deliver_conditions b m (length steps)))
  where
    go : (n : ℕ) → (deliver_answer n (state_in b) b m steps).code ≡ n
    go zero = refl
    go (suc n) = refl

pub compose_code_lem : (b line commands : List ℕ) (flag priority : ℕ) (buffer : List ℕ)
    → (compose b line commands flag priority buffer).code ≡ lowest_code (compose_conditions b line commands flag priority (length buffer))
unfolding compose compose_code
compose_code_lem b line commands flag priority buffer =
    go (lowest_code (compose_conditions b line commands flag priority (length buffer))) (composed (state_in b) (number line) commands (eqb flag 1) priority)
  where
    go : (n : ℕ) (m : Message) → (compose_answer n m buffer).code ≡ n
    go zero m = refl
    go (suc n) m = refl

pub purge_code_lem : (b : List ℕ) (K : ℕ) → (purge b K).code ≡ lowest_code (purge_conditions b K)
unfolding purge purge_code
purge_code_lem b K = go (lowest_code (purge_conditions b K))
  where
    go : (n : ℕ) → (purge_answer n (state_in b) b K).code ≡ n
    go zero = refl
    go (suc n) = refl

pub setpoint_code : (b : List ℕ) (tag : ℕ) → (setpoint b tag).code ≡ lowest_code (setpoint_conditions b tag)
unfolding setpoint
setpoint_code b tag = go (lowest_code (setpoint_conditions b tag))
  where
    go : (n : ℕ) → (setpoint_answer n b tag).code ≡ n
    go zero = refl
    go (suc n) = refl

-- ---- a refusal
pub deliver_refused : (b : List ℕ) (m : Message) (steps : List ℕ) → ¬ ((deliver b m steps).code ≡ 0)
    → deliver b m steps ≡ record { code = deliver_code b m (length steps); undos = 0; executions = 0; image = b; steps = steps }
unfolding deliver
deliver_refused b m steps h = go (deliver_code b m (length steps)) h
  where
    go : (n : ℕ) → ¬ ((deliver_answer n (state_in b) b m steps).code ≡ 0)
        → deliver_answer n (state_in b) b m steps ≡ record { code = n; undos = 0; executions = 0; image = b; steps = steps }
    go zero h = absurd (h refl)
    go (suc n) h = refl

pub empty_refused : (b : List ℕ) → ¬ ((empty b).code ≡ 0) → (empty b).image ≡ b
unfolding empty
empty_refused b h = go (lowest_code (empty_conditions b)) h
  where
    go : (n : ℕ) → ¬ ((empty_answer n b).code ≡ 0) → (empty_answer n b).image ≡ b
    go zero h = absurd (h refl)
    go (suc n) h = refl

pub compose_refused : (b line commands : List ℕ) (flag priority : ℕ) (buffer : List ℕ) → ¬ ((compose b line commands flag priority buffer).code ≡ 0)
    → ((compose b line commands flag priority buffer).size ≡ 0) × ((compose b line commands flag priority buffer).message ≡ buffer)
unfolding compose
compose_refused b line commands flag priority buffer h =
    go (compose_code b line commands flag priority (length buffer)) (composed (state_in b) (number line) commands (eqb flag 1) priority) h
  where
    go : (n : ℕ) (m : Message) → ¬ ((compose_answer n m buffer).code ≡ 0) → ((compose_answer n m buffer).size ≡ 0) × ((compose_answer n m buffer).message ≡ buffer)
    go zero m h = absurd (h refl)
    go (suc n) m h = (refl, refl)

pub log_message_refused : (b : List ℕ) (place : ℕ) → ¬ (log_message_code b place ≡ 0) → log_message b place ≡ []
unfolding log_message
log_message_refused b place h = go (eqb (log_message_code b place) 0) (eqb→eq (log_message_code b place) 0)
  where
    go : (t : Bool) → (T t → log_message_code b place ≡ 0) → cond t (get_or (log_in b) place []) [] ≡ []
    go true f = absurd (h (f tt))
    go false f = refl

pub purge_refused : (b : List ℕ) (K : ℕ) → ¬ ((purge b K).code ≡ 0) → purge b K ≡ record { code = purge_code b K; image = b }
unfolding purge
purge_refused b K h = go (purge_code b K) h
  where
    go : (n : ℕ) → ¬ ((purge_answer n (state_in b) b K).code ≡ 0) → purge_answer n (state_in b) b K ≡ record { code = n; image = b }
    go zero h = absurd (h refl)
    go (suc n) h = refl

pub setpoint_refused : (b : List ℕ) (tag : ℕ) → ¬ ((setpoint b tag).code ≡ 0) → (setpoint b tag).value ≡ pos 0
unfolding setpoint
setpoint_refused b tag h = go (lowest_code (setpoint_conditions b tag)) h
  where
    go : (n : ℕ) → ¬ ((setpoint_answer n b tag).code ≡ 0) → (setpoint_answer n b tag).value ≡ pos 0
    go zero h = absurd (h refl)
    go (suc n) h = refl
