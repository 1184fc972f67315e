-- What compose counts stays through a purge: the floors, the greatest purged block and group stand for the deltas that are gone. Only on a
-- log that is emptied the group is one more.
use Rattle.std.specs.Prelude.{◌≡◌, Bool, true, false, cond, List, [], ◌∷◌, ◌++◌, ℕ, suc, ◌≤◌, ◌<◌, max, length, take, drop, T, eqb, ltb}
use Rattle.std.proofs.Math.Path.{refl, ap}
use Rattle.std.proofs.Common.{sym, ◌∙◌, ap₂, subst, ⊎_elim, arith, length-drop, take-append-drop, take_all, ltb→lt, nltb→le}
use Rattle.model.specs.Lists.{greatest}
use Rattle.model.specs.Message.{Message, sequence_of, group_of, line_of, number_of}
use Rattle.model.specs.Tops.{raise_top, raise_tops}
use Rattle.model.specs.Order.{State, RightSet, sequences_of, effective_block, log_of}
use Rattle.model.specs.Purge.{origin_past, purge_first}
use Rattle.model.specs.Compose.{number_on, highest_number, floor_number, new_number, last_sequence, highest_group, highest_block, group_after, new_group, new_block}
use Rattle.laws_order.specs.TestLaws.{decide, greatest_cong}
use Rattle.laws_order.specs.MaxLaws.{max_assoc, greatest_append, greatest_map}
use Rattle.laws_origin.specs.RaiseRight.{raise_cases}
use Rattle.laws_purge.specs.PurgedBlocks.{effective_stays}
use Rattle.laws_purge.specs.PurgeLaws.{purge_log}

-- ---- the number of a line's top, raised
number_up : (line s top : ℕ) → line_of s ≡ line_of top → number_of s ≤ number_of top → number_on line s ≤ number_on line top
number_up line s top e h = go (eqb (line_of s) line) (eqb (line_of top) line) (ap (λ (n : ℕ). eqb n line) e)
  where
    go : (b c : Bool) → b ≡ c → cond b (number_of s) 0 ≤ cond c (number_of top) 0
    go true true q = h
    go true false q = absurd (subst T q tt)
    go false c q = omega arith

number_greater : (line s top : ℕ) → line_of s ≡ line_of top → number_on line (max s top) ≡ max (number_on line s) (number_on line top)
number_greater line s top e = ⊎_elim
    (λ t. let h : s < top = ltb→lt s top t in
    let m : max s top ≡ top = omega arith in
    let up = number_up line s top e (omega arith) in
    ap (number_on line) m ∙ omega (arith, up))
    (λ t. let h : top ≤ s = nltb→le s top t in
    let m : max s top ≡ s = omega arith in
    let up = number_up line top s (sym e) (omega arith) in
    ap (number_on line) m ∙ omega (arith, up))
    (decide (ltb s top))

raise_number : (line s : ℕ) (tops : List ℕ) → greatest (number_on line) (raise_top s tops) ≡ max (greatest (number_on line) tops) (number_on line s)
raise_number line s [] = omega arith
raise_number line s (top ∷ l) =
    let f : ℕ → ℕ = number_on line in
    let ih : greatest f (raise_top s l) ≡ max (greatest f l) (f s) = raise_number line s l in
    raise_cases (λ k. greatest f k ≡ max (max (f top) (greatest f l)) (f s)) s top l
    (λ h. omega arith)
    (λ e. omega (arith, number_greater line s top e))
    (λ h. ap (max (f top)) ih ∙ sym (max_assoc (f top) (greatest f l) (f s)))

raised_number : (line : ℕ) (l tops : List ℕ)
    → greatest (number_on line) (raise_tops l tops) ≡ max (greatest (number_on line) tops) (greatest (number_on line) l)
raised_number line [] tops = omega arith
raised_number line (s ∷ l) tops =
    raised_number line l (raise_top s tops) ∙ ap (λ (n : ℕ). max n (greatest (number_on line) l)) (raise_number line s tops)
    ∙ max_assoc (greatest (number_on line) tops) (number_on line s) (greatest (number_on line) l)

-- ---- the last of a log, and the group past it
last_append : (p : List Message) (m : Message) (l : List Message) → last_sequence (p ++ m ∷ l) ≡ last_sequence (m ∷ l)
last_append [] m l = refl
last_append (a ∷ []) m l = refl
last_append (a ∷ b ∷ p) m l = last_append (b ∷ p) m l

-- the first deltas of a log count as purged ones, where others stand behind them
group_append : (group s : ℕ) (p q : List Message) → 0 < length q → group_after group (p ++ q) s ≡ group_after (max group (highest_group p)) q s
group_append group s p [] h = let z : ⊥ = omega arith in absurd z
group_append group s [] (m ∷ l) h = ap (λ (g : ℕ). group_after g (m ∷ l) s) {x = group} {y = max group 0} (omega arith)
group_append group s (a ∷ p) (m ∷ l) h =
    ap₂ (λ (highest last : ℕ). cond (ltb s last) (suc highest) highest)
    (ap (max group) (greatest_append group_of (a ∷ p) (m ∷ l)) ∙ sym (max_assoc group (highest_group (a ∷ p)) (highest_group (m ∷ l))))
    (last_append (a ∷ p) m l)

module _ (S : State) (right : RightSet S) (K : ℕ) where
  abbrev gone : List Message
  gone = take K (log_of S)

  abbrev rest : List Message
  rest = drop K (log_of S)

  -- the greatest over the log: of those that are gone and those that are left
  parted : (f : Message → ℕ) → max (greatest f gone) (greatest f rest) ≡ greatest f (log_of S)
  parted f = sym (greatest_append f gone rest) ∙ ap (greatest f) (take-append-drop K (log_of S))

  floor_number_lem : (line : ℕ) → floor_number (purge_first K S) line ≡ max (floor_number S line) (highest_number line gone)
  unfolding purge_first origin_past
  floor_number_lem line =
      raised_number line (sequences_of gone) S.origin.floors
      ∙ ap (max (floor_number S line)) (sym (greatest_map (number_on line) sequence_of gone))

  pub number_stays : (line : ℕ) → new_number (purge_first K S) line ≡ new_number S line
  number_stays line =
      let number : Message → ℕ = λ m. number_on line (sequence_of m) in
      ap₂ (λ (n : ℕ) (l : List Message). suc (max n (highest_number line l))) (floor_number_lem line) (purge_log S right K)
      ∙ ap suc (max_assoc (floor_number S line) (greatest number gone) (greatest number rest) ∙ ap (max (floor_number S line)) (parted number))

  purged_block : (purge_first K S).origin.block ≡ max S.origin.block (highest_block S gone)
  unfolding purge_first origin_past
  purged_block = refl

  highest_left : highest_block (purge_first K S) (log_of (purge_first K S)) ≡ highest_block S rest
  highest_left =
      ap (highest_block (purge_first K S)) (purge_log S right K)
      ∙ greatest_cong (effective_block (purge_first K S)) (effective_block S) rest (effective_stays S right K)

  pub block_stays : (flag : Bool) → new_block (purge_first K S) flag ≡ new_block S flag
  block_stays flag = ap (λ (n : ℕ). cond flag (suc n) 0)
      (ap₂ max purged_block highest_left ∙ max_assoc S.origin.block (highest_block S gone) (highest_block S rest)
      ∙ ap (max S.origin.block) (parted (effective_block S)))

  purged_group : (purge_first K S).origin.group ≡ max S.origin.group (highest_group gone)
  unfolding purge_first origin_past
  purged_group = refl

  pub group_stays : K < length (log_of S) → (s : ℕ) → new_group (purge_first K S) s ≡ new_group S s
  group_stays h s =
      ap₂ (λ (g : ℕ) (l : List Message). group_after g l s) purged_group (purge_log S right K)
      ∙ sym (group_append S.origin.group s gone rest (omega (arith, length-drop K (log_of S))))
      ∙ ap (λ (l : List Message). group_after S.origin.group l s) (take-append-drop K (log_of S))

  -- "on a log emptied by purging the group is the greatest purged group plus one"
  pub group_emptied : length (log_of S) ≤ K → (s : ℕ) → new_group (purge_first K S) s ≡ suc (max S.origin.group (highest_group (log_of S)))
  group_emptied h s =
      ap₂ (λ (g : ℕ) (l : List Message). group_after g l s) purged_group (purge_log S right K ∙ none rest (omega (arith, length-drop K (log_of S))))
      ∙ ap (λ (l : List Message). suc (max S.origin.group (highest_group l))) (take_all K (log_of S) h)
    where
      none : (l : List Message) → length l ≡ 0 → l ≡ []
      none [] e = refl
      none (m ∷ l) e = let z : ⊥ = omega arith in absurd z
