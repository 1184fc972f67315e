-- The messages of an image: at most 64, each passes 3 to 6 and is above its floor, no sequence twice.
use Rattle.std.specs.Prelude.{◌≡◌, refl, not, List, [], ◌∷◌, ◌++◌, ℕ, zero, suc, ◌+◌, ◌≤◌, length, drop, T}
use Rattle.std.proofs.Common.{sym, ◌∙◌, ap, subst, ⊎_elim, arith}
use mathlib.Core.List.Memᴰ
use Rattle.model.specs.Lists.{◌∈◌}
use Rattle.model.specs.Bytes.{field}
use Rattle.model.specs.Layout.{length_at, capacity}
use Rattle.model.specs.Message.{Message, sequence_of, passes}
use Rattle.model.specs.Order.{State, purged, insert, log_of, held_of}
use Rattle.model.specs.Image.{IsImage, cut, log_count, held_count, messages_start_in, messages_in, set_of, state_in, is_image}
use Rattle.laws_state.specs.SetLaws.{ascending_names, insert_length, insert_there, set_of_ascending, set_of_into, set_of_same}
use Rattle.laws_state.specs.LogLaws.{log_held, places}
use Rattle.laws_state.specs.ImageLaws.{image_declared, image_state, messages_back}

-- no sequence twice
abbrev pub Distinct : List Message → Type 0
Distinct [] = Unit {0}
Distinct (m ∷ l) = ((x : Message) → x ∈ l → sequence_of m ≡ sequence_of x → ⊥) × Distinct l

set_of_length : (l : List Message) → length (set_of l) ≤ length l
set_of_length [] = omega arith
set_of_length (m ∷ l) = omega (arith, insert_length m (set_of l), set_of_length l)

-- a message of a sequence that is there makes the set no greater
again : (m : Message) (l : List Message) → ((a b : Message) → a ∈ l → b ∈ l → sequence_of a ≡ sequence_of b → a ≡ b)
    → (x : Message) → x ∈ l → sequence_of m ≡ sequence_of x → length (insert m (set_of l)) ≤ length l
again m l f x k e =
    let there : length (insert m (set_of l)) ≡ length (set_of l) = insert_there m (set_of l) (set_of_ascending l) (Memᴰ.cast e (Memᴰ.map sequence_of (set_of_into l f x k))) in
    omega (arith, set_of_length l)

distinct_whole : (l : List Message) → ((a b : Message) → a ∈ l → b ∈ l → sequence_of a ≡ sequence_of b → a ≡ b) → length l ≤ length (set_of l) → Distinct l
distinct_whole [] f h = tt
distinct_whole (m ∷ l) f h =
    let g : (a b : Message) → a ∈ l → b ∈ l → sequence_of a ≡ sequence_of b → a ≡ b = λ a b p q. f a b (Memᴰ.tail p) (Memᴰ.tail q) in
    (λ x k e. let z : ⊥ = omega (arith, again m l g x k e) in z, distinct_whole l g (omega (arith, insert_length m (set_of l))))

pub distinct_places : (l : List Message) (m : Message) (k : List Message) → Distinct (l ++ m ∷ k) → (x : Message) → x ∈ l → sequence_of x ≡ sequence_of m → ⊥
distinct_places [] m k d x h e = absurd (Memᴰ.not-nil h)
distinct_places (y ∷ l) m k d x h e =
    let rest : x ∈ l → ⊥ = λ j. distinct_places l m k d.1 x j e in
    ⊎_elim (λ u. d.0 m (Memᴰ.append_right l (Memᴰ.head refl)) (ap sequence_of (sym u) ∙ e)) rest (Memᴰ.cases_cons h)

pub length_cut : (n : ℕ) (b : List ℕ) → length (cut n b) ≡ n
length_cut zero b = refl
length_cut (suc n) b = ap suc (length_cut n (drop (field b length_at 2) b))

pub record SetOfImage (b : List ℕ) : Type 0 where
  pub fits : log_count b + held_count b ≤ capacity
  pub pass : (m : Message) → m ∈ messages_in b → T (passes m)
  pub above : (m : Message) → m ∈ messages_in b → T (not (purged (state_in b) (sequence_of m)))
  pub distinct : Distinct (messages_in b)

declared_messages : (b : List ℕ) → IsImage b → SetOfImage b
declared_messages b i = record {
  fits = omega (arith, length_cut (log_count b + held_count b) (drop (messages_start_in b) b), ap length back, room, i.valid.fits);
  pass = λ m k. i.valid.pass m (there m k);
  above = λ m k. subst (λ (R : State). T (not (purged R (sequence_of m)))) (image_state b i) (i.valid.above m (there m k));
  distinct = subst Distinct (sym back) (distinct_whole M names (omega (arith, ap length (set_of_same S.deltas M i.valid.ascends (log_held S i.valid.ascends)), room)));
}
  where
    S : State
    S = i.state

    M : List Message
    M = log_of S ++ held_of S

    back : messages_in b ≡ M
    back = ap messages_in i.image ∙ messages_back S i.valid

    there : (m : Message) → m ∈ messages_in b → m ∈ S.deltas
    there m k = (log_held S i.valid.ascends m).0 (subst (λ (l : List Message). m ∈ l) back k)

    room : length M ≤ length S.deltas
    room = places S i.valid.ascends

    names : (x y : Message) → x ∈ M → y ∈ M → sequence_of x ≡ sequence_of y → x ≡ y
    names x y p q e = ascending_names S.deltas i.valid.ascends x y ((log_held S i.valid.ascends x).0 p) ((log_held S i.valid.ascends y).0 q) e

pub image_messages : (b : List ℕ) → T (is_image b) → SetOfImage b
image_messages b t = declared_messages b ((image_declared b).0 t)
