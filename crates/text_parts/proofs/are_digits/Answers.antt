-- The characters are folded from the front.
use Rattle.std.proofs.Common.{rules, tests, arith, ap, ◌∙◌, Bool, true, ◌&&◌, ℕ, ◌+◌, ◌-◌, take, drop}
use Rattle.std.proofs.lemmas.Iterator.{YieldsList-from_slice}
use Rattle.std.proofs.lemmas.Iterator.Consumers.{fold_from_yields_List}
use Rattle.model.specs.Layout.{characters_size}
use Rattle.model.specs.Text.{is_digit}
use Rattle.text_parts.proofs.Folds.{every_fold}
use Rattle.text_parts.proofs.are_digits.Goals as goal

pub returns : goal.returns
returns c =
    let at = c.args.at in
    let text = c.args.text.now in
    let characters = take characters_size (drop at text) in
    let range = c.iter.ensures.rest ∙ ap (λ (n : ℕ). take n (drop at text)) {x = at + characters_size - at} {y = characters_size} (omega arith) in
    let answer = fold_from_yields_List _ (λ (t : Bool) (x : ℕ). t && is_digit x) true c.fold.result c.fold.ensures.ran (YieldsList-from_slice characters range) (λ a x b q k. search (rules, tests)) in
    let all = every_fold is_digit true characters in
    cc
