-- Where messages lie that stand one behind the other (document 02, Paper 3): what a walk carries is the offset of each place; what
-- stands there is the message of the place; past the last message of an image are its used bytes.
use Rattle.std.specs.Prelude.{◌≡◌, refl, ◌⊎◌, Bool, true, false, cond, T, eqb}
use Rattle.std.proofs.Math.Path.{sym, ap, ap₂}
use Rattle.std.proofs.Common.{◌∙◌, subst, inl, inr, add-one, length-append, take-append-drop, get_or-take, take-take, drop-cons, drop-drop, eqb-true, eq-eqb, ne_eqb}
use mathlib.Core.List.Memᴰ
use mathlib.Core.List.{List, [], ◌∷◌}
use Prim.Native.Nat.{ℕ, zero, suc, ◌+◌, ◌-◌, ◌≤◌, ◌<◌}
use native.Mathlib.Omega.{arith}
use Rattle.std.proofs.Math.ListN.{length, take, drop, get_or}
use Rattle.std.proofs.Math.Seq.{take-length}
use Rattle.model.specs.Lists.{◌∈◌, sum}
use Rattle.model.specs.Bytes.{number, field, join}
use Rattle.model.specs.Layout.{length_at}
use Rattle.model.specs.Message.{Message, passes}
use Rattle.model.specs.Order.{State, log_of, held_of}
use Rattle.model.specs.Image.{messages_start, messages_of, image_of, Valid, cut, log_count, held_count, messages_start_in, log_in, messages_in, offset_of, walk, message_offset, used_count, state_in, is_image}
use Rattle.model.specs.Calls.{message_at}
use Rattle.laws_order.specs.ListLaws.{get_d_∈, ∈_take}
use Rattle.laws_wire.specs.BytesLaws.{sum_lengths, join_append}
use Rattle.laws_wire.specs.MessageLaws.{Sized, passes_sized, sized_range, sized_cut}
use Rattle.laws_state.specs.ImageLaws.{messages_back, start_back, used_back, image_own, own_valid}
use Rattle.laws_state.specs.ImageSetLaws.{length_cut, image_messages}

-- ---- messages one behind the other, the first of them at `first`
one_more : (l : List Message) (k : ℕ) → sum length (take (suc k) l) ≡ sum length (take k l) + length (get_or l k [])
one_more [] zero = refl
one_more [] (suc k) = refl
one_more (m ∷ l) zero = omega arith
one_more (m ∷ l) (suc k) = omega (arith, one_more l k)

module _ (first : ℕ) (l : List Message) where
  pub offset_first : offset_of first l 0 ≡ first
  unfolding offset_of
  offset_first = omega arith

  -- past the last message there is none, and nothing is added
  pub offset_next : (k : ℕ) → offset_of first l (k + 1) ≡ offset_of first l k + length (get_or l k [])
  unfolding offset_of
  offset_next k = ap (λ (n : ℕ). first + sum length (take n l)) (add-one k) ∙ omega (arith, one_more l k)

  -- the lengths of some messages are the length of all of them together
  pub offset_join : (k : ℕ) → offset_of first l k ≡ first + length (join (take k l))
  unfolding offset_of
  offset_join k = ap (λ (n : ℕ). first + n) (sum_lengths (take k l))

  offset_end : offset_of first l (length l) ≡ first + length (join l)
  offset_end = offset_join (length l) ∙ ap (λ (x : List Message). first + length (join x)) (take-length l)

  -- from a place on stand its message and those behind it
  pub offset_left : (k : ℕ) → offset_of first l k + length (join (drop k l)) ≡ first + length (join l)
  offset_left k = omega (
    arith,
    offset_join k,
    length-append (join (take k l)) (join (drop k l)),
    ap length (join_append (take k l) (drop k l)),
    ap (λ (x : List Message). length (join x)) (take-append-drop k l),
  )

  -- those behind a place make no difference to it
  offset_front : (n k : ℕ) → k ≤ n → offset_of first (take n l) k ≡ offset_of first l k
  unfolding offset_of
  offset_front n k h = ap (λ (x : List Message). first + sum length x) (take-take k n l h)

-- A walk carries the offset of each place, and the one past the last message.
pub walk_offset : (first : ℕ) (l : List Message) (k : ℕ) → k ≤ length l → get_or (walk first l) k 0 ≡ offset_of first l k
unfolding offset_of
walk_offset first [] zero h = omega arith
walk_offset first [] (suc k) h = let z : ⊥ = omega arith in absurd z
walk_offset first (m ∷ l) zero h = omega arith
walk_offset first (m ∷ l) (suc k) h = walk_offset (first + length m) l k (omega arith) ∙ omega arith

-- At the offset of a place starts the message of that place, and past the last one none.
pub message_at_offset : (first : ℕ) (l : List Message) → ((m : Message) → m ∈ l → 0 < length m) → (k : ℕ) → message_at first l (offset_of first l k) ≡ get_or l k []
unfolding offset_of
message_at_offset first [] full k = refl
message_at_offset first (m ∷ l) full zero = ap (λ (t : Bool). cond t m (message_at (first + length m) l (first + 0))) (eq-eqb first (first + 0) (omega arith))
message_at_offset first (m ∷ l) full (suc k) =
    let s : ℕ = sum length (take k l) in
    ap (λ (t : Bool). cond t m (message_at (first + length m) l (first + (length m + s)))) (ne_eqb first (first + (length m + s)) (λ e. omega (arith, full m (Memᴰ.head refl))))
    ∙ ap (message_at (first + length m) l) {x = first + (length m + s)} {y = first + length m + s} (omega arith)
    ∙ message_at_offset (first + length m) l (λ x j. full x (Memᴰ.tail j)) k

-- And a message that starts at an offset is that of a place with this offset.
pub record Placed (first : ℕ) (l : List Message) (offset : ℕ) : Type 0 where
  pub place : ℕ
  pub inside : place < length l
  pub here : offset ≡ offset_of first l place
  pub message : message_at first l offset ≡ get_or l place []

pub message_placed : (first : ℕ) (l : List Message) (offset : ℕ) → (message_at first l offset ≡ []) ⊎ Placed first l offset
unfolding offset_of
message_placed first [] offset = inl refl
message_placed first (m ∷ l) offset = go (eqb first offset) refl (message_placed (first + length m) l offset)
  where
    by_test : {t : Bool} → eqb first offset ≡ t → message_at first (m ∷ l) offset ≡ cond t m (message_at (first + length m) l offset)
    by_test e = ap (λ (t : Bool). cond t m (message_at (first + length m) l offset)) e

    go : (t : Bool) → eqb first offset ≡ t → (message_at (first + length m) l offset ≡ []) ⊎ Placed (first + length m) l offset → (message_at first (m ∷ l) offset ≡ []) ⊎ Placed first (m ∷ l) offset
    go true e h = inr (record { place = 0; inside = omega arith; here = sym (eqb-true first offset e) ∙ omega arith; message = by_test e })
    go false e (inl z) = inl (by_test e ∙ z)
    go false e (inr p) = inr (record { place = suc p.place; inside = omega (arith, p.inside); here = p.here ∙ omega arith; message = by_test e ∙ p.message })

-- ---- messages that are cut by their length fields
-- past the first k of them are cut the others
cut_rest : (n k : ℕ) (b : List ℕ) → k ≤ n → ((m : Message) → m ∈ take k (cut n b) → Sized m)
    → drop k (cut n b) ≡ cut (n - k) (drop (sum length (take k (cut n b))) b)
cut_rest n zero b h sized = ap (λ (x : ℕ). cut x b) {x = n} {y = n - 0} (omega arith)
cut_rest zero (suc k) b h sized = let z : ⊥ = omega arith in absurd z
cut_rest (suc n) (suc k) b h sized =
    let f : ℕ = field b length_at 2 in
    let s : ℕ = sum length (take k (cut n (drop f b))) in
    cut_rest n k (drop f b) (omega arith) (λ m j. sized m (Memᴰ.tail j))
    ∙ ap₂ cut {x = n - k} {y = suc n - suc k} (omega arith) (drop-drop s f b ∙ ap (λ (x : ℕ). drop (x + s) b) (sym (sized_cut b 0 (sized (take f b) (Memᴰ.head refl)))))

-- the first of them are those that are cut of fewer
cut_first : (n m : ℕ) (b : List ℕ) → cut n b ≡ take n (cut (n + m) b)
cut_first zero m b = refl
cut_first (suc n) m b =
    ap (λ (l : List Message). take (field b length_at 2) b ∷ l) (cut_first n m (drop (field b length_at 2) b))
    ∙ ap (λ (k : ℕ). take (suc n) (cut k b)) {x = suc (n + m)} {y = suc n + m} (omega arith)

module _ (b : List ℕ) where
  abbrev count : ℕ
  count = log_count b + held_count b

  pub count_messages : length (messages_in b) ≡ count
  count_messages = length_cut count (drop (messages_start_in b) b)

  -- At the offset of a place stands its message, as long as it says, where those before the place pass 3 to 6.
  pub message_in : (k : ℕ) → k < count → ((m : Message) → m ∈ take k (messages_in b) → T (passes m))
      → take (field b (message_offset b k + length_at) 2) (drop (message_offset b k) b) ≡ get_or (messages_in b) k []
  unfolding offset_of
  message_in k more pass =
      let d : List ℕ = drop (message_offset b k) b in
      let s : ℕ = sum length (take k (messages_in b)) in
      let f : field d length_at 2 ≡ field b (message_offset b k + length_at) 2 = ap (λ (l : List ℕ). number (take 2 l)) (drop-drop length_at (message_offset b k) b) in
      let rest : drop k (messages_in b) ≡ cut (suc (count - (k + 1))) d =
      cut_rest count k (drop (messages_start_in b) b) (omega arith) (λ m j. passes_sized m (pass m j))
      ∙ ap₂ cut {x = count - k} {y = suc (count - (k + 1))} (omega arith) (drop-drop s (messages_start_in b) b) in
      sym (ap (λ (l : List Message). get_or l 0 []) (sym (drop-cons (messages_in b) k [] (omega (arith, count_messages))) ∙ rest) ∙ ap (λ (n : ℕ). take n d) f)

  -- or where all of them do
  pub message_of : ((m : Message) → m ∈ messages_in b → T (passes m)) → (k : ℕ) → k < count
      → take (field b (message_offset b k + length_at) 2) (drop (message_offset b k) b) ≡ get_or (messages_in b) k []
  message_of pass k more = message_in k more (λ m j. pass m (∈_take k (messages_in b) j))

  pub log_count_lem : length (log_in b) ≡ log_count b
  log_count_lem = length_cut (log_count b) (drop (messages_start_in b) b)

  -- the log's are the first of them
  log_first : log_in b ≡ take (log_count b) (messages_in b)
  log_first = cut_first (log_count b) (held_count b) (drop (messages_start_in b) b)

  pub log_message_lem : (k : ℕ) → k < log_count b → get_or (log_in b) k [] ≡ get_or (messages_in b) k []
  log_message_lem k h = ap (λ (l : List Message). get_or l k []) log_first ∙ get_or-take (log_count b) (messages_in b) k [] h

  pub log_offset_lem : (k : ℕ) → k ≤ log_count b → offset_of (messages_start_in b) (log_in b) k ≡ message_offset b k
  log_offset_lem k h = ap (λ (l : List Message). offset_of (messages_start_in b) l k) log_first ∙ offset_front (messages_start_in b) (messages_in b) (log_count b) k h

-- ---- the messages of an image
module _ (b : List ℕ) (image : T (is_image b)) where
  abbrev message : ℕ → Message
  message k = get_or (messages_in b) k []

  pub message_passes : (k : ℕ) → k < length (messages_in b) → T (passes (message k))
  message_passes k more = (image_messages b image).pass (message k) (get_d_∈ (messages_in b) k [] more)

  pub message_here : (k : ℕ) → k < length (messages_in b) → take (length (message k)) (drop (message_offset b k) b) ≡ message k
  message_here k more =
      let n : ℕ = field b (message_offset b k + length_at) 2 in
      let e : take n (drop (message_offset b k) b) ≡ message k = message_of b (image_messages b image).pass k (omega (arith, count_messages b)) in
      let s : Sized (take n (drop (message_offset b k) b)) = subst Sized (sym e) (passes_sized (message k) (message_passes k more)) in
      ap (λ (x : ℕ). take x (drop (message_offset b k) b)) (ap length (sym e) ∙ sized_cut b (message_offset b k) s) ∙ e

  -- no message of the log is empty
  pub log_full : (m : Message) → m ∈ log_in b → 0 < length m
  log_full m k =
      let member : m ∈ messages_in b = ∈_take (log_count b) (messages_in b) (subst (λ (l : List Message). m ∈ l) (log_first b) k) in
      omega (arith, (sized_range m (passes_sized m ((image_messages b image).pass m member))).0)

  -- past the last one: the bytes used
  pub offset_used : message_offset b (length (messages_in b)) ≡ used_count b
  unfolding messages_of
  offset_used =
      let S : State = state_in b in
      let valid : Valid S = own_valid b image in
      let e : b ≡ image_of S = image_own b image in
      offset_end (messages_start_in b) (messages_in b)
      ∙ ap (λ (x : List ℕ). messages_start_in x + length (join (messages_in x))) e
      ∙ ap₂ (λ (n : ℕ) (l : List Message). n + length (join l)) (start_back S valid) (messages_back S valid)
      ∙ ap (λ (x : List ℕ). messages_start S + length x) (sym (join_append (log_of S) (held_of S)))
      ∙ sym (used_back S valid) ∙ ap used_count (sym e)
