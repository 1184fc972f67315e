-- Two characters more, those of a byte.
use Rattle.std.proofs.Common.{arith, ap, ◌∙◌, List, ℕ, ◌+◌, ◌*◌, ◌≡◌, set, take, drop}
use Rattle.std.proofs.Math.Seq.{paste, paste-zero}
use Rattle.model.specs.Layout.{sequence_size, characters_size}
use Rattle.model.specs.Text.{characters_of}
use Rattle.text_writing.specs.CharacterLaws.{two_more}
use Rattle.text_writing.proofs.parts.put_characters.Goals as goal

pub loop-k-init : goal.loop-k-init
loop-k-init c = paste-zero c.args.text.now c.args.at (characters_of (take sequence_size (drop c.args.from c.args.sequences.now)))

pub loop-k-preserved : goal.loop-k-preserved
loop-k-preserved c =
    let at = c.args.at in
    let k = c.loop-k.k in
    let high = c.character.result in
    let low = c.character-in-loop-k.result in
    ap (λ (x : List ℕ). set (set x (at + 2 * k) high) (at + 2 * k + 1) low) c.loop-k.invariant
    ∙ two_more c.args.sequences.now c.args.from c.requires.inside c.args.text.now at c.requires.room k c.loop-k-test.true high low c.character.ensures c.character-in-loop-k.ensures

pub returns : goal.returns
returns c =
    let e : 2 * c.loop-k.k ≡ characters_size = omega arith in
    c.loop-k.invariant ∙ ap (paste c.args.text.now c.args.at (characters_of (take sequence_size (drop c.args.from c.args.sequences.now)))) e
