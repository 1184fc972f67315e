-- The cases of log message: what is told of its part.
use Rattle.std.specs.Prelude.{◌≡◌, refl, Bool, true, false, not, cond, List, [], ℕ, zero, suc, ◌+◌, ◌≤◌, ◌<◌, length, take, drop, get_or, T, eqb, leb}
use Rattle.std.proofs.Common.{sym, ◌∙◌, ap₂, subst, arith, eqb→eq, leb-false, ne_eqb}
use Rattle.std.proofs.Math.Path.{ap}
use Rattle.std.proofs.Math.Dec.{nleb→lt}
use Rattle.std.proofs.lemmas.Bool.{not-true}
use Rattle.model.specs.Bytes.{field}
use Rattle.model.specs.Layout.{length_at, header_size, image_size}
use Rattle.model.specs.Image.{is_image, log_count, log_in, message_offset}
use Rattle.model.specs.Codes.{log_message_conditions}
use Rattle.model.specs.Calls.{log_message_code, log_message}
use Rattle.laws_order.specs.TestLaws.{true_T}
use Rattle.set_table.specs.TableLaws.{Lies}
use Rattle.laws_codes.specs.Ladder.{Answers, none, free, passes, all_free, not_not}
use Rattle.read_calls.specs.Parts.{Part, part_answer, log_part}
use Rattle.read_calls.specs.PartLaws.{part_lies, part_size, part_is}
use Rattle.read_calls.specs.PartCases.{IsPart}

module _ (b : List ℕ) (place : ℕ) where
  pub part_told : {n : ℕ} → Answers (log_message_conditions b place) n → part_answer n b place ≡ log_part b place
  unfolding log_part log_message_code
  part_told r = ap (λ (n : ℕ). part_answer n b place) (sym r.is)

  -- a place of the log
  module _ (s : true ≡ eqb (length b) image_size) (i : true ≡ is_image b) (t : true ≡ not (leb (log_count b) place)) where
    image : T (is_image b)
    image = true_T (is_image b) (sym i)

    pub below : place < log_count b
    below = leb-false (log_count b) place (not-true (leb (log_count b) place) (sym t))

    -- the message lies inside, and so does its length field
    pub place_inside : message_offset b place + header_size ≤ length b
    place_inside = let l : Lies b (message_offset b place) = part_lies b image place below in omega arith

    pub part_at : {offset size : ℕ} → offset ≡ message_offset b place → size ≡ field b (offset + length_at) 2 → record { code = 0; offset = offset; size = size } ≡ log_part b place
    part_at e f =
        ap₂ (λ (o n : ℕ). record { code = 0; offset = o; size = n }) e (f ∙ ap (λ (o : ℕ). field b (o + length_at) 2) e ∙ sym (part_size b image place below))
        ∙ part_told (passes s (passes i (free (not-true _ (sym t)) none)))

-- 0 is answered for a place of an image's log only
accepted : (b : List ℕ) (place : ℕ) → log_message_code b place ≡ 0 → (length b ≡ image_size) × T (is_image b) × (place < log_count b)
unfolding log_message_code
accepted b place e =
    let r = all_free (log_message_conditions b place) (omega arith) e in
    (eqb→eq (length b) image_size (not_not (eqb (length b) image_size) r.0), not_not (is_image b) r.1.0, nleb→lt (log_count b) place r.1.1.0)

pub is_part : (b : List ℕ) (place : ℕ) → IsPart b place (log_part b place)
unfolding log_part log_message
is_part b place = go (log_message_code b place) refl
  where
    go : (n : ℕ) → log_message_code b place ≡ n → IsPart b place (part_answer n b place)
    go zero e =
        let a = accepted b place e in
        let l : Lies b (message_offset b place) = part_lies b a.1 place a.2 in
        let inside : message_offset b place + length (get_or (log_in b) place []) ≤ length b = omega (arith, part_size b a.1 place a.2) in
        record {
          inside = inside;
          small = omega (arith, inside, a.0);
          bytes = part_is b a.1 place a.2 ∙ ap (λ (n : ℕ). cond (eqb n 0) (get_or (log_in b) place []) []) (sym e);
        }
    go (suc n) e =
        let other : eqb (log_message_code b place) 0 ≡ false = ne_eqb (log_message_code b place) 0 (λ z. omega (arith, e)) in
        record { inside = omega arith; small = omega arith; bytes = ap (λ (t : Bool). cond t (get_or (log_in b) place []) []) (sym other) }

-- a part without bytes: there is no message
pub no_part : (b : List ℕ) (place : ℕ) {p : Part} → p ≡ log_part b place → p.size ≡ 0 → [] ≡ log_message b place
no_part b place {p} e z = ap (λ (n : ℕ). take n (drop p.offset b)) (sym z) ∙ (subst (IsPart b place) (sym e) (is_part b place)).bytes

pub part_code : (b : List ℕ) (place : ℕ) → (log_part b place).code ≡ log_message_code b place
unfolding log_part
part_code b place = go (log_message_code b place)
  where
    go : (n : ℕ) → (part_answer n b place).code ≡ n
    go zero = refl
    go (suc n) = refl
