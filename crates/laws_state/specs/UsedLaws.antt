-- The bytes that the messages of a state take are those of its deltas, whatever their order: a message more takes more. So an image
-- is right once its used bytes are written over zeros, or over the image of a smaller set.
use Rattle.std.specs.Prelude.{◌≡◌, refl, Bool, true, false, cond, not, ◌||◌, ℕ, zero, suc, ◌+◌, ◌-◌, ◌≤◌, length, take, drop, replicate, T, eqb, ltb}
use Rattle.std.proofs.Common.{sym, ◌∙◌, ap₂, subst, ⊎_elim, drop_at, ne_eqb}
use Rattle.std.proofs.Math.Path.{ap}
use mathlib.Core.List.Memᴰ
use mathlib.Core.List.{List, [], ◌∷◌, ◌++◌}
use native.Mathlib.Omega.{arith}
use Rattle.std.proofs.Math.ListN.{length-append}
use Rattle.std.proofs.Math.Seq.{drop-append-add, take-append-add}
use Rattle.std.proofs.Math.Dec.{eqb_refl}
use Rattle.model.specs.Lists.{◌∈◌, has, keep}
use Rattle.model.specs.Bytes.{join}
use Rattle.model.specs.Layout.{image_size}
use Rattle.model.specs.Message.{Message, sequence_of}
use Rattle.model.specs.Listing as L
use Rattle.model.specs.Order.{State, Ascending, insert, add, needs, Listing, log_of, held_of}
use Rattle.model.specs.Image.{messages_of, used_of, image_of}
use Rattle.laws_order.specs.TestLaws.{is_true, keep_cong}
use Rattle.laws_order.specs.ListingLaws.{fresh, ready_fresh}
use Rattle.laws_state.specs.SetLaws.{insert_ascending}
use Rattle.laws_state.specs.LogLaws.{log_complete, log_received, held_fresh}
use Rattle.laws_state.specs.ImageLaws.{front_size, used_size}

-- the bytes of some messages
weight : List Message → ℕ
weight [] = 0
weight (m ∷ l) = length m + weight l

weight_join : (l : List Message) → length (join l) ≡ weight l
unfolding weight
weight_join [] = refl
weight_join (m ∷ l) = length-append m (join l) ∙ ap (λ (n : ℕ). length m + n) (weight_join l)

-- ---- a listing, and what of the set is not in it
-- a message that is another than the placed one is as fresh as before
fresh_other : (done : List ℕ) (s : ℕ) (x : Message) → (sequence_of x ≡ s → ⊥) → fresh sequence_of (s ∷ done) x ≡ fresh sequence_of done x
fresh_other done s x d = ap (λ (t : Bool). not (t || has (sequence_of x) done)) (ne_eqb (sequence_of x) s d)

-- of a set, a fresh message is weighed once
one_placed : (D : List Message) → Ascending D → (done : List ℕ) (a : Message) → a ∈ D → T (fresh sequence_of done a)
    → weight (keep (fresh sequence_of done) D) ≡ length a + weight (keep (fresh sequence_of (sequence_of a ∷ done)) D)
unfolding weight
one_placed [] asc done a k t = absurd (Memᴰ.not-nil k)
one_placed (x ∷ D) asc done a k t = ⊎_elim first (λ j. later j (one_placed D asc.1 done a j t)) (Memᴰ.cases_cons k)
  where
    first : a ≡ x → weight (keep (fresh sequence_of done) (x ∷ D)) ≡ length a + weight (keep (fresh sequence_of (sequence_of a ∷ done)) (x ∷ D))
    first e =
        ap (λ (b : Bool). weight (cond b (x ∷ keep (fresh sequence_of done) D) (keep (fresh sequence_of done) D))) (is_true (fresh sequence_of done x) (subst (λ (y : Message). T (fresh sequence_of done y)) e t))
        ∙ ap₂ (λ (m : Message) (l : List Message). length m + weight l) (sym e) (sym (keep_cong (fresh sequence_of (sequence_of a ∷ done)) (fresh sequence_of done) D (λ y j. fresh_other done (sequence_of a) y (λ f. let z : ⊥ = omega (arith, asc.0 y j, ap sequence_of e) in z))))
        ∙ ap (λ (b : Bool). length a + weight (cond b (x ∷ keep (fresh sequence_of (sequence_of a ∷ done)) D) (keep (fresh sequence_of (sequence_of a ∷ done)) D)))
        (sym (ap (λ (t : Bool). not (t || has (sequence_of x) done)) (is_true (eqb (sequence_of x) (sequence_of a)) (subst (λ (s : ℕ). T (eqb (sequence_of x) s)) (ap sequence_of (sym e)) (eqb_refl (sequence_of x))))))

    later : a ∈ D → weight (keep (fresh sequence_of done) D) ≡ length a + weight (keep (fresh sequence_of (sequence_of a ∷ done)) D) → weight (keep (fresh sequence_of done) (x ∷ D)) ≡ length a + weight (keep (fresh sequence_of (sequence_of a ∷ done)) (x ∷ D))
    later j ih =
        go (fresh sequence_of done x) ih
        ∙ ap (λ (b : Bool). length a + weight (cond b (x ∷ keep (fresh sequence_of (sequence_of a ∷ done)) D) (keep (fresh sequence_of (sequence_of a ∷ done)) D))) (sym (fresh_other done (sequence_of a) x (λ f. let z : ⊥ = omega (arith, asc.0 a j) in z)))
      where
        go : (b : Bool) → weight (keep (fresh sequence_of done) D) ≡ length a + weight (keep (fresh sequence_of (sequence_of a ∷ done)) D)
            → weight (cond b (x ∷ keep (fresh sequence_of done) D) (keep (fresh sequence_of done) D)) ≡ length a + weight (cond b (x ∷ keep (fresh sequence_of (sequence_of a ∷ done)) D) (keep (fresh sequence_of (sequence_of a ∷ done)) D))
        go true h = omega (arith, h)
        go false h = h

module _ (S : State) (ascends : Ascending S.deltas) where
  listed_weight : (l : List Message) (done : List ℕ) → Listing S done l → ((m : Message) → m ∈ l → m ∈ S.deltas)
      → weight l + weight (keep (fresh sequence_of (L.after sequence_of done l)) S.deltas) ≡ weight (keep (fresh sequence_of done) S.deltas)
  unfolding weight
  listed_weight [] done h all = omega arith
  listed_weight (a ∷ l) done h all = omega (
    arith,
    listed_weight l (sequence_of a ∷ done) h.1 (λ m k. all m (Memᴰ.tail k)),
    one_placed S.deltas ascends done a (all a (Memᴰ.head refl)) (ready_fresh sequence_of (needs S) done a h.0),
  )

  all_fresh : (l : List Message) → keep (fresh sequence_of []) l ≡ l
  all_fresh [] = refl
  all_fresh (m ∷ l) = ap (λ (k : List Message). m ∷ k) (all_fresh l)

  messages_weight : length (messages_of S) ≡ weight S.deltas
  unfolding messages_of
  messages_weight = omega (
    arith,
    length-append (join (log_of S)) (join (held_of S)),
    weight_join (log_of S),
    weight_join (held_of S),
    ap weight (held_fresh S ascends),
    listed_weight (log_of S) [] (log_complete S ascends).listing (log_received S ascends),
    ap weight (all_fresh S.deltas),
  )

-- ---- a message more
insert_weight : (m : Message) (l : List Message) → ((x : Message) → x ∈ l → sequence_of m ≡ sequence_of x → ⊥) → weight (insert m l) ≡ length m + weight l
unfolding weight
insert_weight m [] h = refl
insert_weight m (x ∷ l) h = go (ltb (sequence_of m) (sequence_of x)) (eqb (sequence_of m) (sequence_of x)) (ne_eqb (sequence_of m) (sequence_of x) (h x (Memᴰ.head refl))) (insert_weight m l (λ y k. h y (Memᴰ.tail k)))
  where
    go : (a b : Bool) → b ≡ false → weight (insert m l) ≡ length m + weight l → weight (cond a (m ∷ x ∷ l) (cond b (x ∷ l) (x ∷ insert m l))) ≡ length m + weight (x ∷ l)
    go true b e ih = refl
    go false true e ih = absurd (subst T e tt)
    go false false e ih = omega (arith, ih)

-- the sections before the messages take as many bytes as before
pub used_grows : (S : State) → Ascending S.deltas → (m : Message) → ((x : Message) → x ∈ S.deltas → sequence_of m ≡ sequence_of x → ⊥) → length (used_of S) ≤ length (used_of (add m S))
used_grows S ascends m new = omega (
  arith,
  used_size S,
  used_size (add m S),
  front_size S,
  front_size (add m S),
  messages_weight S ascends,
  messages_weight (add m S) (insert_ascending m S.deltas ascends),
  insert_weight m S.deltas new,
)

-- ---- used bytes written over zeros, and over an image that uses no more
drop_zeros : (n k : ℕ) → drop {A = ℕ} k (replicate n 0) ≡ replicate (n - k) 0
drop_zeros n zero = ap (λ (x : ℕ). replicate {A = ℕ} x 0) {x = n} {y = n - 0} (omega arith)
drop_zeros zero (suc k) = ap (λ (x : ℕ). replicate {A = ℕ} x 0) {x = 0} {y = 0 - suc k} (omega arith)
drop_zeros (suc n) (suc k) = drop_zeros n k ∙ ap (λ (x : ℕ). replicate {A = ℕ} x 0) {x = n - k} {y = suc n - suc k} (omega arith)

take_zeros : (n k : ℕ) → k ≤ n → take {A = ℕ} k (replicate n 0) ≡ replicate k 0
take_zeros n zero h = refl
take_zeros zero (suc k) h = let z : ⊥ = omega arith in absurd z
take_zeros (suc n) (suc k) h = ap (λ (l : List ℕ). 0 ∷ l) (take_zeros n k (omega arith))

pub over_zeros : (S : State) (n : ℕ) → image_size ≤ n → length (used_of S) ≤ image_size → take image_size (used_of S ++ drop (length (used_of S)) (replicate n 0)) ≡ image_of S
unfolding image_of
over_zeros S n h k =
    ap₂ (λ (size : ℕ) (l : List ℕ). take size (used_of S ++ l)) {x = image_size} {y = length (used_of S) + (image_size - length (used_of S))} (omega arith) (drop_zeros n (length (used_of S)))
    ∙ take-append-add (used_of S) (replicate (n - length (used_of S)) 0) (image_size - length (used_of S))
    ∙ ap (λ (l : List ℕ). used_of S ++ l) (take_zeros (n - length (used_of S)) (image_size - length (used_of S)) (omega arith))

-- past its used bytes an image is zero
pub past_used : (S : State) (n : ℕ) → n ≡ length (used_of S) → drop n (image_of S) ≡ replicate (image_size - n) 0
unfolding image_of
past_used S n e = drop_at (used_of S) (replicate (image_size - length (used_of S)) 0) n (sym e) ∙ ap (λ (k : ℕ). replicate (image_size - k) 0) (sym e)

pub over_smaller : (S R : State) → length (used_of S) ≤ length (used_of R) → used_of R ++ drop (length (used_of R)) (image_of S) ≡ image_of R
unfolding image_of
over_smaller S R h = ap (λ (l : List ℕ). used_of R ++ l)
    (ap (λ (n : ℕ). drop n (used_of S ++ replicate (image_size - length (used_of S)) 0)) {x = length (used_of R)} {y = length (used_of S) + (length (used_of R) - length (used_of S))} (omega arith)
    ∙ drop-append-add (used_of S) (replicate (image_size - length (used_of S)) 0) (length (used_of R) - length (used_of S))
    ∙ drop_zeros (image_size - length (used_of S)) (length (used_of R) - length (used_of S))
    ∙ ap (λ (n : ℕ). replicate n 0) {x = image_size - length (used_of S) - (length (used_of R) - length (used_of S))} {y = image_size - length (used_of R)} (omega arith))
