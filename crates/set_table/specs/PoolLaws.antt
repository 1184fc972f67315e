-- Two pools that agree on their first n bytes have the same messages there: what stands behind them makes no difference.
use Rattle.std.specs.Prelude.{◌≡◌, refl, List, [], ◌∷◌, ℕ, ◌+◌, ◌≤◌, length, take, drop, T}
use Rattle.std.proofs.Common.{sym, ◌∙◌, ap, ap₂, subst, arith}
use mathlib.Core.List.Memᴰ
use Rattle.std.proofs.Math.Seq.{take-length}
use Rattle.model.specs.Lists.{◌∈◌}
use Rattle.model.specs.Bytes.{number, field}
use Rattle.model.specs.Layout.{length_at}
use Rattle.model.specs.Message.{Message, passes}
use Rattle.model.specs.Order.{holding}
use Rattle.model.specs.Image.{Valid, origin_in}
use Rattle.laws_wire.specs.BytesLaws.{part_agrees, field_part}
use Rattle.laws_wire.specs.MessageLaws.{Sized, passes_sized, sized_range}
use Rattle.set_table.specs.Table.{message_from, deltas_of, Holds}
use Rattle.set_table.specs.TableLaws.{Lies, passes_lies}

-- a message ends within the first n bytes
abbrev pub EndsBy : List ℕ → ℕ → ℕ → Type 0
EndsBy pool n at = at + field pool (at + length_at) 2 ≤ n

module _ (a b : List ℕ) (n : ℕ) (agree : take n a ≡ take n b) where
  pub message_agrees : (at : ℕ) → T (passes (message_from a at)) → EndsBy a n at → message_from b at ≡ message_from a at
  message_agrees at t h =
      let l : Lies a at = passes_lies a at t in
      let e : field b (at + length_at) 2 ≡ field a (at + length_at) 2 = ap number (part_agrees a b n agree (at + length_at) 2 (omega arith)) in
      ap (λ (size : ℕ). take size (drop at b)) e ∙ part_agrees a b n agree at (field a (at + length_at) 2) h

  deltas_agree_each : (starts : List ℕ) → ((m : Message) → m ∈ deltas_of a starts → T (passes m)) → ((at : ℕ) → at ∈ starts → EndsBy a n at)
      → deltas_of b starts ≡ deltas_of a starts
  deltas_agree_each [] p h = refl
  deltas_agree_each (at ∷ starts) p h =
      ap₂ ◌∷◌ (message_agrees at (p (message_from a at) (Memᴰ.head refl)) (h at (Memᴰ.head refl)))
      (deltas_agree_each starts (λ m k. p m (Memᴰ.tail k)) (λ x k. h x (Memᴰ.tail k)))

  pub deltas_agree : (starts : List ℕ) → Holds a starts → ((at : ℕ) → at ∈ starts → EndsBy a n at) → deltas_of b starts ≡ deltas_of a starts
  deltas_agree starts holds h = deltas_agree_each starts holds.pass h

  pub holds_agree : origin_in b ≡ origin_in a → (starts : List ℕ) → Holds a starts → ((at : ℕ) → at ∈ starts → EndsBy a n at) → Holds b starts
  holds_agree origins starts holds h = subst Valid (sym (ap₂ holding origins (deltas_agree starts holds h))) holds

-- ---- a whole pool at the front of a longer one
module _ (a b : List ℕ) (front : take (length a) b ≡ a) (starts : List ℕ) (holds : Holds a starts) where
  inside : (at : ℕ) → at ∈ starts → EndsBy a (length a) at
  inside at k = (passes_lies a at (holds.pass (message_from a at) (Memᴰ.map (message_from a) k))).inside

  pub deltas_front : deltas_of b starts ≡ deltas_of a starts
  deltas_front = deltas_agree a b (length a) (take-length a ∙ sym front) starts holds inside

  pub holds_front : origin_in b ≡ origin_in a → Holds b starts
  holds_front origins = holds_agree a b (length a) (take-length a ∙ sym front) origins starts holds inside

-- ---- a message that was put at a place is the one that starts there
pub message_placed : (pool : List ℕ) (at : ℕ) (m : Message) → take (length m) (drop at pool) ≡ m → T (passes m) → message_from pool at ≡ m
message_placed pool at m e t =
    let s : Sized m = passes_sized m t in
    let size : field pool (at + length_at) 2 ≡ length m =
    sym (field_part pool at (length m) length_at 2 (omega (arith, (sized_range m s).0))) ∙ ap (λ (l : List ℕ). field l length_at 2) e ∙ s.stated in
    ap (λ (n : ℕ). take n (drop at pool)) size ∙ e
