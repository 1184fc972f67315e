-- The walk, place by place: the value that it carries is the offset of the place, and the message of the place starts there. What can't be
-- walked is no image.
use Rattle.std.specs.Prelude.{◌≡◌, refl, false, List, [], ◌∷◌, ◌++◌, ℕ, ◌+◌, ◌≤◌, ◌<◌, length, take, get_or, set, T, ltb, Result, Ok, Err}
use Rattle.std.proofs.Common.{sym, ◌∙◌, ap, subst, ⊎_elim, arith, length-take, length-take-le, take_all, get_or-take, get_or-set_same, get_or-set_other, ltb→lt, nltb→le}
use mathlib.Core.List.Memᴰ
use Rattle.model.specs.Lists.{◌∈◌}
use Rattle.model.specs.Bytes.{field}
use Rattle.model.specs.Layout.{length_at, capacity}
use Rattle.model.specs.Message.{Message, passes}
use Rattle.model.specs.Image.{messages_start_in, messages_in, message_offset, used_count, is_image}
use Rattle.laws_order.specs.TestLaws.{decide, false_of}
use Rattle.laws_order.specs.ListLaws.{get_d_∈, take_next}
use Rattle.laws_state.specs.ImageSetLaws.{image_messages}
use Rattle.laws_state.specs.OffsetLaws.{offset_first, offset_next, count_messages, message_in, message_of, offset_used}
use Rattle.refusals.specs.declared.Refusal.{Refusal}
use Rattle.refusals.specs.declared.Refusal.TheVariants.{NoImage}
use Rattle.set_table.specs.Table.{message_from}
use Rattle.set_table.specs.TableLaws.{Lies, passes_lies}
use Rattle.image_walk.specs.declared.Walk.{Walk}
use Rattle.image_walk.specs.Walk.{count_in, Walking, Walkable, Offsets, offsets_of, Walks}

-- ---- at the first message
pub walking_first : (b offsets : List ℕ) {at : ℕ} → messages_start_in b ≤ length b → at ≡ messages_start_in b → Walking b offsets at 0
walking_first b offsets room e = record {
  here = e ∙ sym (offset_first (messages_start_in b) (messages_in b));
  inside = omega arith;
  pass = λ m k. absurd (Memᴰ.not-nil k);
  each = λ k h. let z : ⊥ = omega arith in absurd z;
}

-- ---- at a place
module _ (b offsets : List ℕ) (at place : ℕ) (w : Walking b offsets at place) where
  module _ (more : place < count_in b) where
    -- its message starts there
    message_is : message_from b at ≡ get_or (messages_in b) place []
    message_is = ap (message_from b) w.here ∙ message_in b place more w.pass

    here_message : place < length (messages_in b)
    here_message = omega (arith, count_messages b)

    -- refused
    pub walking_refused : passes (message_from b at) ≡ false → Walkable b → ⊥
    walking_refused e w' = subst T (ap passes (sym message_is) ∙ e) (w'.pass (get_or (messages_in b) place []) (get_d_∈ (messages_in b) place [] here_message))

    -- past it
    pub walking_next : T (passes (message_from b at)) → place < length offsets → Walking b (set offsets place at) (at + field b (at + length_at) 2) (place + 1)
    walking_next t room = record {
      here = omega (arith, w.here, offset_next (messages_start_in b) (messages_in b) place, ap length message_is, lies.size);
      inside = lies.inside;
      pass = λ m k. ⊎_elim (λ j. w.pass m j) (λ j. subst (λ (x : Message). T (passes x)) (message_is ∙ sym (Memᴰ.eq_of_singleton j)) t)
          (Memᴰ.append_cases (take place (messages_in b)) (subst (λ (l : List Message). m ∈ l) taken k));
      each = λ k h. ⊎_elim (λ t. older k (ltb→lt k place t)) (λ t. newest k (omega (arith, nltb→le k place t))) (decide (ltb k place));
    }
      where
        lies : Lies b at
        lies = passes_lies b at t

        taken : take (place + 1) (messages_in b) ≡ take place (messages_in b) ++ get_or (messages_in b) place [] ∷ []
        taken = take_next (messages_in b) place [] here_message

        older : (k : ℕ) → k < place → get_or (set offsets place at) k 0 ≡ message_offset b k
        older k h = get_or-set_other offsets place k at 0 (λ e. omega (arith, e)) ∙ w.each k h

        newest : (k : ℕ) → k ≡ place → get_or (set offsets place at) k 0 ≡ message_offset b k
        newest k e = ap (λ (j : ℕ). get_or (set offsets place at) j 0) e ∙ get_or-set_same offsets place at 0 room ∙ w.here ∙ ap (message_offset b) (sym e)

  -- past the last message
  module _ (end : place ≡ count_in b) where
    pub walking_end : at ≡ used_count b → place ≤ length offsets → count_in b ≤ capacity → Walkable b × Offsets b (count_in b) (take place offsets)
    walking_end e room few = (
      record {
        fits = few;
        pass = subst (λ (l : List Message). (m : Message) → m ∈ l → T (passes m)) (take_all place (messages_in b) (omega (arith, count_messages b))) w.pass;
        used = ap (message_offset b) (sym end) ∙ sym w.here ∙ e;
      },
      record {
        count = length-take-le place offsets room ∙ end;
        each = λ k h. get_or-take place offsets k 0 (omega arith) ∙ w.each k (omega arith);
      },
    )

    pub other_end : (at ≡ used_count b → ⊥) → Walkable b → ⊥
    other_end f w' = f (w.here ∙ ap (message_offset b) end ∙ w'.used)

pub too_many : (b : List ℕ) → capacity < count_in b → Walkable b → ⊥
too_many b h w = omega (arith, w.fits)

-- ---- by the answer
pub wrong_walks : (b : List ℕ) (r : Result Walk Refusal) → r ≡ Err NoImage → (Walkable b → ⊥) → Walks b r
wrong_walks b r e h = subst (Walks b) (sym e) (refl, h)

pub walks_right : (b : List ℕ) (r : Result Walk Refusal) (w : Walk) → Walks b r → r ≡ Ok w → Walkable b × (w.count ≡ count_in b) × Offsets b (count_in b) (offsets_of w)
walks_right b r w h e = subst (Walks b) e h

-- an image can be walked, so that what can't be is none
pub walks_wrong : (b : List ℕ) (r : Result Walk Refusal) (why : Refusal) → Walks b r → r ≡ Err why → is_image b ≡ false
walks_wrong b r why h e = let f = subst (Walks b) e h in false_of (is_image b) (λ t. f.1 (record {
  fits = (image_messages b t).fits;
  pass = (image_messages b t).pass;
  used = ap (message_offset b) (sym (count_messages b)) ∙ offset_used b t;
}))

-- ---- what those know who take the offsets
module _ (b : List ℕ) (n : ℕ) (offsets : List ℕ) (pass : (m : Message) → m ∈ messages_in b → T (passes m)) (o : Offsets b n offsets) (k : ℕ) (h : k < n) (inside : n ≤ count_in b) where
  pub walked_message : message_from b (get_or offsets k 0) ≡ get_or (messages_in b) k []
  walked_message = ap (message_from b) (o.each k h) ∙ message_of b pass k (omega arith)

  pub walked_passes : T (passes (message_from b (get_or offsets k 0)))
  walked_passes = subst (λ (m : Message). T (passes m)) (sym walked_message) (pass (get_or (messages_in b) k []) (get_d_∈ (messages_in b) k [] (omega (arith, count_messages b))))

  pub walked_lies : Lies b (get_or offsets k 0)
  walked_lies = passes_lies b (get_or offsets k 0) walked_passes

-- the first of some offsets
pub offsets_front : (b offsets : List ℕ) (count n : ℕ) → Offsets b (count_in b) (take count offsets) → n ≤ count_in b → Offsets b n (take n offsets)
offsets_front b offsets count n o h = record {
  count = length-take-le n offsets (omega (arith, o.count, length-take count offsets));
  each = λ k i. get_or-take n offsets k 0 i ∙ sym (get_or-take count offsets k 0 (omega (arith, o.count, length-take count offsets))) ∙ o.each k (omega arith);
}

pub ruleset refused = (too_many, other_end, wrong_walks)
