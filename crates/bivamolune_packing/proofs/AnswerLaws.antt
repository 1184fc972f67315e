-- The answers as numbers are the definitions'.
use Rattle.std.specs.Prelude.{◌≡◌, refl, List, ℕ, ◌<◌, Result, Ok, Err}
use Rattle.std.proofs.Common.{sym, ◌∙◌, ap, subst, arith}
use Rattle.model.specs.Message.{Message}
use Rattle.model.specs.Calls as model
use Rattle.refusals.specs.declared.Refusal.{Refusal}
use Rattle.refusals.specs.Refusals.{answer_code}
use Rattle.deliver_accepting.specs.declared.Counts.{Counts}
use Rattle.deliver_taking.specs.Answer.{delivered_by}
use Rattle.empty.specs.EmptyAnswer.{emptied_by}
use Rattle.purge_dropping.specs.PurgeAnswer.{purged_by}
use Rattle.bivamolune_packing.specs.CountLaws.{Counted, deliver_counted}
use Rattle.bivamolune_packing.specs.Packing.{packed, AnswerFits, Unpacks}
use Rattle.bivamolune_packing.specs.PackingLaws.{unpacked, why_small}
use Rattle.bivamolune_packing.specs.Answers.{Empties, Purges, Delivers, Small, packed_by}

-- the code of an answer is a byte
code_small : (d : Result Counts Refusal) (image steps : List ℕ) → (delivered_by d image steps).code < 256
code_small (Ok counts) image steps = omega arith
code_small (Err why) image steps = why_small why

-- the number of an answer is that of its parts
number_is : (d : Result Counts Refusal) (image steps : List ℕ) → let x = delivered_by d image steps in packed_by d ≡ packed x.code x.undos x.executions
number_is (Ok counts) image steps = refl
number_is (Err why) image steps = omega arith

image_is : (d : Result Counts Refusal) (image steps : List ℕ) → (delivered_by d image steps).image ≡ image
image_is (Ok counts) image steps = refl
image_is (Err why) image steps = refl

steps_are : (d : Result Counts Refusal) (image steps : List ℕ) → (delivered_by d image steps).steps ≡ steps
steps_are (Ok counts) image steps = refl
steps_are (Err why) image steps = refl

answer_fits : (image : List ℕ) (m : Message) (steps : List ℕ) (d : Result Counts Refusal) (image_exit steps_exit : List ℕ)
    → delivered_by d image_exit steps_exit ≡ model.deliver image m steps
    → AnswerFits (model.deliver image m steps).code (model.deliver image m steps).undos (model.deliver image m steps).executions
answer_fits image m steps d i s e =
    let c : Counted (model.deliver image m steps) = deliver_counted image m steps in
    record {
      code_fits = subst (λ (y : model.Delivered). y.code < 256) e (code_small d i s);
      undos_fit = omega (arith, c.undos);
      executions_fit = omega (arith, c.executions);
    }

pub delivers : (image : List ℕ) (m : Message) (steps : List ℕ) (d : Result Counts Refusal) (r : ℕ) (image_exit steps_exit : List ℕ)
    → delivered_by d image_exit steps_exit ≡ model.deliver image m steps → r ≡ packed_by d → Delivers image m steps r image_exit steps_exit
delivers image m steps d r i s e p = record {
  answer = number;
  parts = subst (λ (n : ℕ). Unpacks n x.code x.undos x.executions) (sym number) (unpacked x.code x.undos x.executions (answer_fits image m steps d i s e));
  image_after = sym (image_is d i s) ∙ ap (λ (x : model.Delivered). x.image) e;
  steps_after = sym (steps_are d i s) ∙ ap (λ (x : model.Delivered). x.steps) e;
}
  where
    x : model.Delivered
    x = model.deliver image m steps

    number : r ≡ packed x.code x.undos x.executions
    number = p ∙ number_is d i s ∙ ap (λ (y : model.Delivered). packed y.code y.undos y.executions) e

pub empties : (image : List ℕ) (d : Result (Unit {0}) Refusal) (r : ℕ) (exit : List ℕ) → emptied_by d exit ≡ model.empty image → r ≡ answer_code d → Empties image r exit
empties image d r exit e p = record { code = p ∙ ap (λ (x : model.Emptied). x.code) e; image = ap (λ (x : model.Emptied). x.image) e }

pub purges : (image : List ℕ) (k : ℕ) (d : Result (Unit {0}) Refusal) (r : ℕ) (exit : List ℕ) → purged_by d exit ≡ model.purge image k → r ≡ answer_code d → Purges image k r exit
purges image k d r exit e p = record { code = p ∙ ap (λ (x : model.Purged). x.code) e; image = ap (λ (x : model.Purged). x.image) e }

pub small : (image : List ℕ) (m : Message) (steps : List ℕ) (d : Result Counts Refusal) (image_exit steps_exit : List ℕ)
    → delivered_by d image_exit steps_exit ≡ model.deliver image m steps → Small d
small image m steps (Ok counts) i s e = let c = subst Counted (sym e) (deliver_counted image m steps) in (c.undos, c.executions)
small image m steps (Err why) i s e = tt
