-- One message of the log after the other is looked at: it starts there, or it does not; where none does, nothing is there.
use Rattle.std.specs.Prelude.{◌≡◌, List, [], ℕ, ◌+◌, ◌≤◌, ◌<◌, length, take, drop, get_or, ltb}
use Rattle.std.proofs.Common.{sym, ◌∙◌, ap, ap₂, subst, ⊎_elim, arith, ltb→lt, nltb→le}
use Rattle.model.specs.Bytes.{field}
use Rattle.model.specs.Layout.{length_at}
use Rattle.model.specs.Image.{messages_start_in, log_count, log_in, message_offset}
use Rattle.model.specs.Calls.{message_at}
use Rattle.laws_order.specs.TestLaws.{decide}
use Rattle.laws_state.specs.OffsetLaws.{message_at_offset, Placed, message_placed, log_count_lem, log_offset_lem, log_full}
use Rattle.set_table.specs.TableLaws.{Lies}
use Rattle.read_calls.specs.PartLaws.{part_lies, part_size, part_is}
use Rattle.read_search.specs.Finding.{Searchable, starting_at, IsMessage, Looking}

module _ (b offsets : List ℕ) (s : Searchable b offsets) (offset : ℕ) where
  pub looking_first : Looking b offset 0
  looking_first = record { upto = omega arith; none = λ j h e. omega arith }

  module _ {k : ℕ} (l : Looking b offset k) where
    -- none is left
    pub looking_end : log_count b ≤ k → starting_at b offset ≡ []
    looking_end h = ⊎_elim (λ e. e) (λ p. absurd (nowhere p)) (message_placed (messages_start_in b) (log_in b) offset)
      where
        nowhere : Placed (messages_start_in b) (log_in b) offset → ⊥
        nowhere p =
            let inside : p.place < log_count b = omega (arith, p.inside, log_count_lem b) in
            l.none p.place (omega arith) (sym (p.here ∙ log_offset_lem b p.place (omega arith)))

    module _ (more : k < log_count b) where
      -- it lies where the offsets say
      pub lies : Lies b (get_or offsets k 0)
      lies = subst (Lies b) (sym (s.log.each k more)) (part_lies b s.image k more)

      -- it starts there
      pub looking_here : get_or offsets k 0 ≡ offset → {n : ℕ} → n ≡ field b (get_or offsets k 0 + length_at) 2 → IsMessage b offset n
      looking_here e {n} f =
          let at : message_offset b k ≡ offset = sym (s.log.each k more) ∙ e in
          let size : n ≡ length (get_or (log_in b) k []) = f ∙ ap (λ (x : ℕ). field b (x + length_at) 2) (s.log.each k more) ∙ sym (part_size b s.image k more) in
          let found : message_at (messages_start_in b) (log_in b) (message_offset b k) ≡ get_or (log_in b) k [] =
          ap (message_at (messages_start_in b) (log_in b)) (sym (log_offset_lem b k (omega arith))) ∙ message_at_offset (messages_start_in b) (log_in b) (log_full b s.image) k in
          record {
            inside = omega (arith, lies.inside, s.sized, f, e);
            bytes = ap₂ (λ (x y : ℕ). take x (drop y b)) size (sym at) ∙ part_is b s.image k more ∙ sym found ∙ ap (starting_at b) at;
          }

      -- it does not
      pub looking_on : (get_or offsets k 0 ≡ offset → ⊥) → Looking b offset (k + 1)
      looking_on f = record {
        upto = omega arith;
        none = λ j h e. ⊎_elim (λ t. l.none j (ltb→lt j k t) e) (λ t. f (s.log.each k more ∙ ap (message_offset b) {x = k} {y = j} (omega (arith, nltb→le j k t)) ∙ e)) (decide (ltb j k));
      }
