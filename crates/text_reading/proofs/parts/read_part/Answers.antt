-- The byte of the two digits is the sequence's.
use Rattle.std.proofs.Common.{arith, sym, ap, ap₂, ◌∙◌, add-one, List, ℕ, ◌+◌, ◌*◌, ◌≡◌, set, take, drop, get_or}
use Rattle.std.proofs.Math.Seq.{paste, paste-zero, paste-suc}
use Rattle.model.specs.Layout.{sequence_size, characters_size}
use Rattle.model.specs.Text.{bytes_in}
use Rattle.text_reading.specs.ByteLaws.{bytes_sized, high_below, low_below, byte_is}
use Rattle.text_reading.proofs.parts.read_part.Goals as goal

pub loop-k-init : goal.loop-k-init
loop-k-init c = paste-zero c.args.bytes.now c.args.at (bytes_in (take characters_size (drop c.args.from c.args.text.now)))

pub overflow_mul-bytes : goal.overflow_mul-bytes
overflow_mul-bytes c = omega (arith, c.digit-high.ensures, high_below c.requires c.loop-k.k c.loop-k-test.true)

pub overflow_add-bytes : goal.overflow_add-bytes
overflow_add-bytes c =
    omega (arith, c.digit-high.ensures, c.digit-low.ensures, high_below c.requires c.loop-k.k c.loop-k-test.true, low_below c.requires c.loop-k.k c.loop-k-test.true)

pub loop-k-preserved : goal.loop-k-preserved
loop-k-preserved c =
    let at = c.args.at in
    let k = c.loop-k.k in
    let old = c.args.bytes.now in
    let new = bytes_in (take characters_size (drop c.args.from c.args.text.now)) in
    let here : 16 * c.digit-high.result + c.digit-low.result ≡ get_or new k 0 =
    ap₂ (λ (x y : ℕ). 16 * x + y) c.digit-high.ensures c.digit-low.ensures ∙ sym (byte_is c.requires k c.loop-k-test.true) in
    ap₂ (λ (x : List ℕ) (y : ℕ). set x (at + k) y) c.loop-k.invariant here
    ∙ paste-suc old at new k 0 (omega arith) (omega (arith, bytes_sized c.requires)) ∙ ap (paste old at new) (sym (add-one k))

pub returns : goal.returns
returns c =
    let e : c.loop-k.k ≡ sequence_size = omega arith in
    c.loop-k.invariant ∙ ap (paste c.args.bytes.now c.args.at (bytes_in (take characters_size (drop c.args.from c.args.text.now)))) e
