-- The pool of a delivery begins with the image and the delivered message behind it.
use Rattle.std.specs.Prelude.{◌≡◌, refl, not, List, [], ◌++◌, ℕ, ◌+◌, ◌<◌, length, take, drop, get_or, T}
use Rattle.std.proofs.Common.{sym, ◌∙◌, ap, ap₂, subst, arith, take-take, take-add, take_at}
use Rattle.std.proofs.lemmas.List.{append_cancel_left}
use Rattle.model.specs.Layout.{capacity}
use Rattle.model.specs.Message.{Message, sequence_of, passes}
use Rattle.model.specs.Tops.{covered}
use Rattle.model.specs.Order.{Origin, holding, purged, add, insert}
use Rattle.model.specs.Image.{origin_in}
use Rattle.set_table.specs.Table.{message_from, deltas_of, set_in, Holds, insert_at}
use Rattle.set_table.specs.Places.{IsAbsent}
use Rattle.set_table.specs.PoolLaws.{deltas_front, holds_front, message_placed}
use Rattle.set_table.specs.InsertLaws.{insert_deltas, insert_holds}

module _ (pool b : List ℕ) (m : Message) (both : take (length b + length m) pool ≡ b ++ m) where
  pub pool_front : take (length b) pool ≡ b
  pool_front = sym (take-take (length b) (length b + length m) pool (omega arith)) ∙ ap (take (length b)) both ∙ take_at b m (length b) refl

  pool_message : take (length m) (drop (length b) pool) ≡ m
  pool_message =
      append_cancel_left b (take (length m) (drop (length b) pool)) m
      (ap (λ (l : List ℕ). l ++ take (length m) (drop (length b) pool)) (sym pool_front) ∙ sym (take-add (length b) (length m) pool) ∙ both)

  -- ---- the set with the message in it
  module _ (starts : List ℕ) (holds : Holds b starts) (right : T (passes m)) (p : ℕ) (absent : IsAbsent b starts (sequence_of m) p) (few : length starts < capacity) where
    pub old_deltas : deltas_of pool starts ≡ deltas_of b starts
    old_deltas = deltas_front b pool pool_front starts holds

    new_message : message_from pool (length b) ≡ m
    new_message = message_placed pool (length b) m pool_message right

    absent_too : IsAbsent pool starts (sequence_of (message_from pool (length b))) p
    absent_too = subst (λ (s : ℕ). IsAbsent pool starts s p) (ap sequence_of (sym new_message)) (record {
      inside = absent.inside;
      before = λ k h. subst (λ (l : List Message). sequence_of (get_or l k []) < sequence_of m) (sym old_deltas) (absent.before k h);
      after = λ k h q. subst (λ (l : List Message). sequence_of m < sequence_of (get_or l k [])) (sym old_deltas) (absent.after k h q);
    })

    pub new_holds : origin_in pool ≡ origin_in b → T (not (purged (set_in b starts) (sequence_of m))) → Holds pool (insert_at p (length b) starts)
    new_holds origins high =
        insert_holds pool (length b) p starts (holds_front b pool pool_front starts holds origins) absent_too (subst (λ (x : Message). T (passes x)) (sym new_message) right)
        (subst (λ (x : Message). T (not (purged (set_in pool starts) (sequence_of x)))) (sym new_message)
        (subst (λ (O : Origin). T (not (covered O.floors (sequence_of m)))) (sym origins) high)) few

    pub new_set : origin_in pool ≡ origin_in b → set_in pool (insert_at p (length b) starts) ≡ add m (set_in b starts)
    new_set origins = ap₂ holding origins (insert_deltas pool (length b) p starts absent_too ∙ ap₂ insert new_message old_deltas)
