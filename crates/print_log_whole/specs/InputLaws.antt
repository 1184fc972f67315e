-- One byte more than an image has is as much as the program need read: a longer input is refused by 1, and so is its front.
use Rattle.std.specs.Prelude.{◌≡◌, Bool, cond, not, List, ℕ, ◌+◌, ◌<◌, T, leb, length, take}
use Rattle.std.proofs.Common.{sym, ◌∙◌, ap, ⊎_elim, arith, leb→le, take_all, length-take-le, ne_eqb}
use Rattle.std.proofs.Math.Dec.{nleb→lt}
use Rattle.model.specs.Layout.{image_size}
use Rattle.model.specs.Image.{is_image}
use Rattle.model.specs.Codes.{lowest_code, read_conditions}
use Rattle.model.specs.Program.{log_answer, printed_log}
use Rattle.laws_order.specs.TestLaws.{decide}

long_refused : (b : List ℕ) → image_size < length b → lowest_code (read_conditions b) ≡ 1
long_refused b h = ap (λ (sized : Bool). cond (not sized) 1 (cond (not (is_image b)) 2 0)) (ne_eqb (length b) image_size (λ e. omega arith))

long_printed : (b : List ℕ) → image_size < length b → printed_log b ≡ log_answer 1 b
unfolding printed_log
long_printed b h = ap (λ (n : ℕ). log_answer n b) (long_refused b h)

pub front_decides : (input : List ℕ) → printed_log (take (image_size + 1) input) ≡ printed_log input
front_decides input = ⊎_elim short long (decide (leb (length input) (image_size + 1)))
  where
    short : T (leb (length input) (image_size + 1)) → printed_log (take (image_size + 1) input) ≡ printed_log input
    short t = ap printed_log (take_all (image_size + 1) input (leb→le (length input) (image_size + 1) t))

    long : T (not (leb (length input) (image_size + 1))) → printed_log (take (image_size + 1) input) ≡ printed_log input
    long t =
        let h : image_size + 1 < length input = nleb→lt (length input) (image_size + 1) t in
        long_printed (take (image_size + 1) input) (omega (arith, length-take-le (image_size + 1) input (omega arith))) ∙ sym (long_printed input (omega arith))
