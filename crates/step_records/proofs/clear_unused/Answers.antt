-- The part is filled with zeros.
use Rattle.std.proofs.Common.{◌≡◌, ◌∙◌, sym, ap, List, ◌++◌, ℕ, ◌+◌, ◌*◌, ◌-◌, ◌≤◌, length, take, drop, replicate, arith, length-drop, length-take-le}
use Rattle.std.proofs.lemmas.List.{take-replicate, length-replicate}
use Rattle.std.proofs.lemmas.Slice.{put_mid-paste}
use Rattle.std.proofs.Math.Seq.{paste}
use Rattle.model.specs.Layout.{pair_size, pairs_size}
use Rattle.step_records.proofs.clear_unused.Goals as goal

-- of more zeros so many are taken
zeros_cut : (b : List ℕ) (at n : ℕ) → n ≤ pairs_size → paste b at (replicate n 0) n ≡ paste b at (replicate pairs_size 0) n
zeros_cut b at n h = ap (λ (x : List ℕ). take at b ++ x ++ drop (at + n) b) (take-replicate n n 0 (omega arith) ∙ sym (take-replicate n pairs_size 0 h))

part_size : (b : List ℕ) (from to n : ℕ) → from + n ≡ to → to ≤ length b → length (take (to - from) (drop from b)) ≡ n
part_size b from to n e h = length-take-le (to - from) (drop from b) (omega (arith, length-drop from b)) ∙ omega arith

pub returns : goal.returns
returns c =
    let a = c.args in
    let n : ℕ = pairs_size - pair_size * a.count in
    let from : ℕ = a.at + pair_size * a.count in
    let size = part_size a.steps.now from (a.at + pairs_size) n (omega arith) (omega arith) in
    let filled : c.fill.new.self ≡ replicate n 0 = cc (size, c.fill.ensures.after (λ y e. e)) in
    put_mid-paste _ _ a.steps.now c.fill.new.self (replicate n 0) n filled (omega arith) (sym (length-replicate n 0)) ∙ zeros_cut a.steps.now from n (omega arith)
