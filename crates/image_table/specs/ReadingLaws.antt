-- The messages of an image are taken in one by one: the first i of them make up the table.
use Rattle.std.specs.Prelude.{◌≡◌, refl, true, false, List, [], ◌∷◌, ◌++◌, ℕ, suc, ◌+◌, ◌≤◌, ◌<◌, length, take, drop, get_or, T, Result, Err}
use Rattle.std.proofs.Common.{sym, ◌∙◌, ap, subst, ⊎_elim, arith, take_all}
use mathlib.Core.List.Memᴰ
use Rattle.std.proofs.Math.Seq.{split_at}
use Rattle.model.specs.Lists.{◌∈◌, has}
use Rattle.model.specs.Message.{Message, sequence_of}
use Rattle.model.specs.Order.{holding, origin_right, purged, insert, sequences_of}
use Rattle.model.specs.Image.{messages_in, origin_in, state_in, is_image}
use Rattle.laws_order.specs.TestLaws.{Same, or_e, is_false, false_of, true_T, has→∈, ∈→has}
use Rattle.laws_order.specs.ListLaws.{get_d_∈, take_next}
use Rattle.laws_state.specs.SetLaws.{insert_from, insert_keeps, insert_has, set_of_same}
use Rattle.laws_state.specs.ImageSetLaws.{image_messages, distinct_places}
use Rattle.laws_state.specs.OffsetLaws.{count_messages}
use Rattle.refusals.specs.declared.Refusal.{Refusal}
use Rattle.refusals.specs.declared.Refusal.TheVariants.{NoImage}
use Rattle.set_table.specs.declared.Table.{Table}
use Rattle.image_table.specs.TableReading.{known, unfit, ReadsTable}
use Rattle.set_table.specs.Table.{message_from, deltas_of, set_in, Holds}
use Rattle.image_walk.specs.Walk.{count_in}

-- ---- the first i messages make up the table
pub record Gathered (b : List ℕ) (i : ℕ) (starts : List ℕ) : Type 0 where
  pub taken : Same (take i (messages_in b)) (deltas_of b starts)
  pub holds : Holds b starts

pub gathered_none : (b : List ℕ) → T (origin_right (origin_in b)) → Gathered b 0 []
gathered_none b right = record {
  taken = λ a. (λ k. k, λ k. k);
  holds = record { ascends = tt; fits = omega arith; pass = λ m k. absurd (Memᴰ.not-nil k); above = λ m k. absurd (Memᴰ.not-nil k); right = right };
}

-- all of them do in the end
pub gathered_all : (b : List ℕ) (i : ℕ) (starts : List ℕ) → Gathered b i starts → count_in b ≤ i → Same (messages_in b) (deltas_of b starts)
gathered_all b i starts g h =
    subst (λ (l : List Message). Same l (deltas_of b starts)) (take_all i (messages_in b) (omega (arith, count_messages b))) g.taken

pub gathered_set : (b : List ℕ) (i : ℕ) (starts : List ℕ) → Gathered b i starts → count_in b ≤ i → set_in b starts ≡ state_in b
gathered_set b i starts g h = sym (ap (holding (origin_in b)) (set_of_same (deltas_of b starts) (messages_in b) g.holds.ascends (gathered_all b i starts g h)))

-- ---- the message of place i, which starts at `at`
module _ (b : List ℕ) (i : ℕ) (starts : List ℕ) (g : Gathered b i starts) (more : i < count_in b) (at : ℕ) (here : message_from b at ≡ get_or (messages_in b) i []) where
  abbrev m : Message
  m = message_from b at

  abbrev D : List Message
  D = deltas_of b starts

  abbrev before : List Message
  before = take i (messages_in b)

  inside : i < length (messages_in b)
  inside = omega (arith, count_messages b)

  -- it is at or below a floor, or there already
  pub gathered_unfit : unfit b starts at ≡ true → is_image b ≡ false
  gathered_unfit e = false_of (is_image b) (λ t. ⊎_elim (below t) (twice t) (or_e (purged (set_in b starts) (sequence_of m)) (known b starts at) (true_T (unfit b starts at) e)))
    where
      below : T (is_image b) → T (purged (set_in b starts) (sequence_of m)) → ⊥
      below t u = subst T (is_false (purged (set_in b starts) (sequence_of m)) ((image_messages b t).above m (Memᴰ.cast here (get_d_∈ (messages_in b) i [] inside)))) u

      split : messages_in b ≡ before ++ m ∷ drop (suc i) (messages_in b)
      split = split_at (messages_in b) i [] inside ∙ ap (λ (x : Message). before ++ x ∷ drop (suc i) (messages_in b)) (sym here)

      twice : T (is_image b) → T (known b starts at) → ⊥
      twice t u =
          let r = Memᴰ.of_map sequence_of D (has→∈ (sequence_of m) (sequences_of D) u) in
          distinct_places before m (drop (suc i) (messages_in b)) (rw split at (image_messages b t).distinct) r.0 ((g.taken r.0).1 r.1) r.2

  -- it is taken in
  module _ (others : List ℕ) (new : has (sequence_of (message_from b at)) (sequences_of (deltas_of b starts)) ≡ false)
      (deltas : deltas_of b others ≡ insert (message_from b at) (deltas_of b starts)) where
    next_same : Same (before ++ m ∷ []) (insert m D)
    next_same = λ a. (
      λ k. ⊎_elim (λ j. insert_keeps m D a ((g.taken a).0 j)) (λ j. Memᴰ.cast (Memᴰ.eq_of_singleton j) added) (Memᴰ.append_cases before k),
      λ k. ⊎_elim (λ e. Memᴰ.append_right before (Memᴰ.head e)) (λ j. Memᴰ.append_left (m ∷ []) ((g.taken a).1 j)) (insert_from m D a k),
    )
      where
        added : m ∈ insert m D
        added = insert_has m D (λ x k e. absurd (subst T new (∈→has (Memᴰ.cast e (Memᴰ.map sequence_of k)))))

    next_take : take (i + 1) (messages_in b) ≡ before ++ m ∷ []
    next_take = take_next (messages_in b) i [] inside ∙ ap (λ (x : Message). before ++ x ∷ []) (sym here)

    pub gathered_next : Holds b others → Gathered b (i + 1) others
    gathered_next holds = record {
      taken = subst (λ (l : List Message). Same (take (i + 1) (messages_in b)) l) (sym deltas) (subst (λ (l : List Message). Same l (insert m D)) (sym next_take) next_same);
      holds = holds;
    }

-- ---- a refusal
pub wrong_reads : (b : List ℕ) (r : Result Table Refusal) → r ≡ Err NoImage → is_image b ≡ false → ReadsTable b r
wrong_reads b r e h = subst (ReadsTable b) (sym e) (refl, h)
