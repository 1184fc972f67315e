-- A message whose end is known passes 3 to 6; one whose end is not known is in no image.
use Rattle.std.proofs.Common.{rules, arith, sym, ◌∙◌, ap, subst, refl, Err, leb, eqb, leb-true, eqb-true, ℕ, ◌+◌, ◌≡◌, take, set, length-set}
use Rattle.std.proofs.lemmas.Result.{err_from_is_err_and}
use Rattle.model.specs.Layout.{capacity}
use Rattle.model.specs.Image.{used_count}
use Rattle.refusals.specs.Refusals.{passed}
use Rattle.refusals.specs.declared.Refusal.TheVariants.{NoImage}
use Rattle.image_walk.specs.Walk.{count_in, Offsets, Walking}
use Rattle.image_walk.proofs.WalkLaws.{walking_first, walking_refused, walking_next, walking_end, wrong_walks}
use Rattle.image_walk.proofs.walk_messages.Goals as goal

pub loop-k-init : goal.loop-k-init
loop-k-init c = record {
  counted = c.count_messages-total.ensures;
  few = leb-true _ capacity (passed NoImage (leb c.count_messages-total.result capacity) c.in_ok-check_count.ensures);
  room = refl;
  walking = walking_first c.args.b.now _ c.requires.1 (search rules);
}

pub returns-in_err-end : goal.returns-in_err-end
returns-in_err-end c =
    let b = c.args.b.now in
    let l = c.loop-k in
    let p = err_from_is_err_and c.from_residual-in_err-end.result c.from_residual-in_err-end.ensures.1 in
    wrong_walks b c.from_residual-in_err-end.result (p.1 ∙ ap Err (p.2 ∙ c.in_err-end.ensures.0))
    (walking_refused b l.offsets l.at l.k l.invariant.walking (omega arith) c.in_err-end.ensures.1)

pub loop-k-preserved : goal.loop-k-preserved
loop-k-preserved c =
    let b = c.args.b.now in
    let l = c.loop-k in
    let next = walking_next b l.offsets l.at l.k l.invariant.walking (omega arith) c.in_ok-end.ensures.0 (omega arith) in
    record {
      counted = l.invariant.counted;
      few = l.invariant.few;
      room = length-set l.offsets l.k l.at ∙ l.invariant.room;
      walking = subst (λ (n : ℕ). Walking b (set l.offsets l.k l.at) n (l.k + 1)) (sym c.in_ok-end.ensures.1) next;
    }

pub returns : goal.returns
returns c =
    let b = c.args.b.now in
    let l = c.loop-k in
    let all : l.k ≡ c.count_messages-total.result = omega arith in
    let r = walking_end b l.offsets l.at l.k l.invariant.walking (omega arith) (eqb-true l.at _ (passed NoImage (eqb l.at (used_count b)) c.in_ok-check_used.ensures)) (omega arith) (omega arith) in
    (r.0, l.invariant.counted, subst (λ (n : ℕ). Offsets b (count_in b) (take n l.offsets)) all r.1)
